-- Chains.
use Rattle.std.proofs.Common.{◌≡◌, ℕ, zero, suc, ◌<◌, ◌≤◌, List, [], ◌∷◌, length, slice_set, Option, None, inl, inr, refl, sym, ap, subst, arith}
use Rattle.std.proofs.lemmas.Bool.{cases_eq}
use Rattle.std.proofs.lemmas.List.{get_or-set_other, length-set}
use Rattle.xk_collections.specs.Chains.{at, chain, IsChain}
use Rattle.xk_collections.specs.WaitingLists.{times}
use Rattle.xk_collections.proofs.OccurrenceLemmas.{first_times, other_times}

-- who begins a list in which somebody doesn't stand is somebody else, who doesn't stand in what follows either
not_first : (a b : ℕ) (acts : List ℕ) → times a (b ∷ acts) ≡ 0 → b ≡ a → ⊥
not_first a b acts none e = omega (arith, none, ap (λ x. times x (b ∷ acts)) e, first_times b acts)

not_later : (a b : ℕ) (acts : List ℕ) → times a (b ∷ acts) ≡ 0 → times a acts ≡ 0
not_later a b acts none = omega arith

-- a chain is untouched where somebody who isn't in it gets another next
pub untouched : (next : List (Option ℕ)) (a : ℕ) (v start : Option ℕ) (acts : List ℕ) → IsChain next start acts → times a acts ≡ 0
    → IsChain (slice_set next a v) start acts
untouched next a v start [] h none = h
untouched next a v start (b ∷ acts) h none =
    let differs : b ≡ a → ⊥ = not_first a b acts none in (
      h.0,
      omega (arith, h.1, length-set next a v),
      subst (λ (s : Option ℕ). IsChain (slice_set next a v) s acts) (sym (get_or-set_other next a b v None differs))
          (untouched next a v (at next b) acts h.2 (not_later a b acts none)),
    )

-- a chain that is no longer than the steps allowed is found whole
pub found : (next : List (Option ℕ)) (n : ℕ) (start : Option ℕ) (acts : List ℕ) → IsChain next start acts → length acts ≤ n → chain next n start ≡ acts
found next n start [] h le = rw h refl
found next zero start (b ∷ acts) h le = absurd (omega arith)
found next (suc n) start (b ∷ acts) h le = rw h.0 (ap (λ l. b ∷ l) (found next n (at next b) acts h.2 (omega arith)))

-- who stands in a chain is within the room
pub chain_within : (next : List (Option ℕ)) (start : Option ℕ) (acts : List ℕ) → IsChain next start acts → (a : ℕ) → 0 < times a acts → a < length next
chain_within next start [] h a some = absurd (omega arith)
chain_within next start (b ∷ acts) h a some = elim (cases_eq b a) [
  | inl e ↦ omega (arith, h.1, e)
  | inr ne ↦ chain_within next (at next b) acts h.2 a (omega (arith, some, other_times a b acts ne))
]
