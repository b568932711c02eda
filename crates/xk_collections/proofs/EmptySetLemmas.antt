-- Whether a set has members, by the word of words.
use Rattle.std.proofs.Common.{◌≡◌, ℕ, ◌*◌, ◌+◌, ◌/◌, ◌≤◌, ◌==◌, Bool, true, false, not, List, [], ◌∷◌, length, Option, Some, None, is_some, refl, sym, ap, arith}
use Rattle.std.proofs.lemmas.Bool.{ne_eqb}
use Rattle.xk_collections.specs.BitWords.{has, members_of, IsNext, IsSummed}
use Rattle.xk_collections.proofs.BitLemmas.{clash}
use Rattle.xk_collections.proofs.MemberSearchLemmas.{none_of}
use Rattle.xk_collections.proofs.RisingListLemmas.{members_none, members_few}
use Rattle.xk_collections.proofs.SummaryWordLemmas.{last_none_by}

nobody : (xs : List ℕ) → xs ≡ [] → (length xs == 0) ≡ true
nobody xs e = ap (λ (l : List ℕ). length l == 0) e

somebody : (xs : List ℕ) → (xs ≡ [] → ⊥) → (length xs == 0) ≡ false
somebody [] h = absurd (h refl)
somebody (x ∷ xs) h = ne_eqb (length (x ∷ xs)) 0 (λ e. omega (arith, e))

pub empty_is : (low mid top : List ℕ) (o : Option ℕ) (b : Bool) → IsSummed low mid top → IsNext (has top) 0 (0 / 64 * 64 + 64) o → is_some o ≡ not b
    → b ≡ (length (members_of low) == 0)
empty_is low mid top None true s h e =
    sym (nobody (members_of low) (none_of (has low) 0 (length low * 64) (λ j from to.
    last_none_by low mid (length mid * 64) s.low_sums s.covered (last_none_by mid top 64 s.mid_sums s.few h) j from (omega arith))))
empty_is low mid top None false s h e = cc
empty_is low mid top (Some r) true s h e = cc
empty_is low mid top (Some r) false s h e =
    let word = (s.mid_sums.some r h.2).1 in
    let member = s.low_sums.some word.0 word.3 in
    sym (somebody (members_of low) (λ none. clash (has low member.1.0) member.1.3
    (members_none (has low) (length low * 64) none member.1.0 (omega (arith, member.0, member.1.2)))))

-- there are no more of them than the words have room for
pub few_members : (low mid top : List ℕ) → IsSummed low mid top → length (members_of low) ≤ 262144
few_members low mid top s = omega (arith, members_few (has low) (length low * 64), s.covered, s.few)
