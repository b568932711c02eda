-- What the instructions of a unit begin, as its loops and its finishes: each was begun by an instruction, what an instruction begins is
-- among them, and they come in the order of their places.
use Rattle.std.proofs.Common.{◌≡◌, ℕ, zero, suc, ◌+◌, ◌<◌, List, [], ◌∷◌, Option, Some, None, inl, inr, refl, sym, ap, ◌∙◌, subst, arith}
use Rattle.std.specs.Prelude.{slice_get}
use Rattle.std.specs.Option.{option_map_or}
use Rattle.std.proofs.lemmas.Option.{none-some, same_Some}
use Rattle.xk_types.specs.declared.instr.Instr.{Instr}
use Rattle.xk_types.specs.Code.{begun_from}
use Rattle.xk_types.specs.Order.{Has}

-- an element, and the instruction that begins it
pub record IsBegun {X : Type 0} (begun : ℕ → Instr → Option X) (at : ℕ) (is : List Instr) (x : X) : Type 0 where
  pub j : ℕ
  pub i : Instr
  pub found : slice_get is j ≡ Some i
  pub begins : begun (at + j) i ≡ Some x

-- each place lies ahead of those behind it in the list
abbrev pub Rising : {X : Type 0} → (X → ℕ) → List X → Type 0
Rising place [] = Unit {0}
Rising {X} place (x ∷ xs) = ((y : X) → Has xs y → place x < place y) × Rising place xs

-- each element of the list is begun by an instruction
pub begun_found : {X : Type 0} (begun : ℕ → Instr → Option X) (at : ℕ) (is : List Instr) (x : X) → Has (begun_from begun at is) x → IsBegun begun at is x
begun_found begun at [] x h = absurd h
begun_found {X} begun at (i ∷ is) x h = go (begun at i) refl (begun_found begun (suc at) is x) h
  where
    go : (o : Option X) → begun at i ≡ o → (Has (begun_from begun (suc at) is) x → IsBegun begun (suc at) is x)
        → Has (option_map_or (λ y. y ∷ begun_from begun (suc at) is) o (begun_from begun (suc at) is)) x → IsBegun begun at (i ∷ is) x
    go None e later g =
        let r = later g in
        let same : suc at + r.j ≡ at + suc r.j = omega arith in
        record { j = suc r.j; i = r.i; found = r.found; begins = subst (λ n. begun n r.i ≡ Some x) same r.begins }
    go (Some y) e later (inl q) =
        let same : at ≡ at + 0 = omega arith in
        record { j = 0; i = i; found = refl; begins = subst (λ n. begun n i ≡ Some x) same (e ∙ ap Some q) }
    go (Some y) e later (inr g) =
        let r = later g in
        let same : suc at + r.j ≡ at + suc r.j = omega arith in
        record { j = suc r.j; i = r.i; found = r.found; begins = subst (λ n. begun n r.i ≡ Some x) same r.begins }

-- what an instruction begins is an element
pub begun_had : {X : Type 0} (begun : ℕ → Instr → Option X) (at : ℕ) (is : List Instr) (j n : ℕ) (i : Instr) (x : X) → slice_get is j ≡ Some i → n ≡ at + j → begun n i ≡ Some x
    → Has (begun_from begun at is) x
begun_had begun at [] j n i x h e g = absurd (none-some i h)
begun_had begun at (k ∷ is) zero n i x h e g =
    let same : n ≡ at = omega arith in
    subst (λ o. Has (option_map_or (λ y. y ∷ begun_from begun (suc at) is) o (begun_from begun (suc at) is)) x)
    (sym (ap (begun at) (same_Some k i h) ∙ ap (λ m. begun m i) (sym same) ∙ g)) (inl refl)
begun_had {X} begun at (k ∷ is) (suc j) n i x h e g = go (begun at k) (begun_had begun (suc at) is j n i x h (omega arith) g)
  where
    go : (o : Option X) → Has (begun_from begun (suc at) is) x → Has (option_map_or (λ y. y ∷ begun_from begun (suc at) is) o (begun_from begun (suc at) is)) x
    go None r = r
    go (Some y) r = inr r

-- they rise
pub begun_rise : {X : Type 0} (begun : ℕ → Instr → Option X) (place : X → ℕ) → ((n : ℕ) (i : Instr) (x : X) → begun n i ≡ Some x → place x ≡ n)
    → (at : ℕ) (is : List Instr) → Rising place (begun_from begun at is)
begun_rise begun place first at [] = tt
begun_rise {X} begun place first at (i ∷ is) = go (begun at i) refl (begun_rise begun place first (suc at) is)
  where
    go : (o : Option X) → begun at i ≡ o → Rising place (begun_from begun (suc at) is)
        → Rising place (option_map_or (λ y. y ∷ begun_from begun (suc at) is) o (begun_from begun (suc at) is))
    go None e r = r
    go (Some x) e r = ((λ y h. (let f = begun_found begun (suc at) is y h in omega (arith, first (suc at + f.j) f.i y f.begins, first at i x e))), r)
