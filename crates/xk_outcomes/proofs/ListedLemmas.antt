-- What is listed, as it lies in memory.
use Rattle.std.proofs.Common.{◌≡◌, ◌∙◌, ℤ, zero, suc, Bool, true, false, cond, if◌then◌else◌, List, [], ◌∷◌, ◌++◌, Some}
use Rattle.std.proofs.Common.{refl, sym, ap, subst}
use Rattle.std.specs.Prelude.{is_some}
use Rattle.std.specs.Global.{Vec}
use Rattle.std.specs.Ordering.{int_eq}
use Rattle.std.specs.Cmp.Lexicographic.{pointwise}
use Rattle.std.specs.Cmp.Rules.{signed_items}
use Rattle.std.specs.Map.{lookup}
use Rattle.std.proofs.lemmas.Bool.{true≢false}
use Rattle.std.proofs.lemmas.Option.{none-some, same_Some}
use Rattle.indexmap.specs.IndexMap.{insert_entry}
use Rattle.xk_types.specs.declared.world.Entry.{Entry}
use Rattle.xk_outcomes.specs.declared.listing.Outcome.{Outcome}
use Rattle.xk_outcomes.specs.Outcomes.{IsListed}
use Rattle.xk_outcomes.specs.Listed.{outcome_in, outcomes_in}

-- whether there is a log of these numbers
abbrev has : List ℤ → List (Vec ℤ × Vec Entry) → Bool
has numbers logs = is_some (lookup (λ k. pointwise int_eq numbers k.items) logs)

listed_later : (o : Outcome) (list : List Outcome) (numbers : List ℤ) → IsListed list numbers → IsListed (o ∷ list) numbers
listed_later o list numbers h = (suc h.0, h.1, h.2, h.3)

is_listed : (logs : List (Vec ℤ × Vec Entry)) (numbers : List ℤ) → has numbers logs ≡ true → IsListed (outcomes_in logs) numbers
is_listed [] numbers h = absurd (true≢false (sym h))
is_listed (e ∷ logs) numbers h = by (is_listed logs numbers) (pointwise int_eq numbers e.0.items) refl h
  where
    by : (has numbers logs ≡ true → IsListed (outcomes_in logs) numbers) → (b : Bool) → pointwise int_eq numbers e.0.items ≡ b
        → is_some (cond b (Some e.1) (lookup (λ k. pointwise int_eq numbers k.items) logs)) ≡ true → IsListed (outcomes_in (e ∷ logs)) numbers
    by rest true same there = (0, outcome_in e, refl, sym ((signed_items numbers e.0.items).0 same))
    by rest false differs there = listed_later (outcome_in e) (outcomes_in logs) numbers (rest there)

is_not_listed : (logs : List (Vec ℤ × Vec Entry)) (numbers : List ℤ) → has numbers logs ≡ false → IsListed (outcomes_in logs) numbers
    → ⊥
is_not_listed [] numbers none h = none-some h.1 h.2
is_not_listed (e ∷ logs) numbers none h = by (is_not_listed logs numbers) (pointwise int_eq numbers e.0.items) refl none h
  where
    by : (has numbers logs ≡ false → IsListed (outcomes_in logs) numbers → ⊥) → (b : Bool) → pointwise int_eq numbers e.0.items ≡ b
        → is_some (cond b (Some e.1) (lookup (λ k. pointwise int_eq numbers k.items) logs)) ≡ false → IsListed (outcomes_in (e ∷ logs)) numbers
        → ⊥
    by rest true same no_log there = true≢false no_log
    by rest false differs no_log (zero, x, at, is) =
        let first : numbers ≡ e.0.items = sym is ∙ sym (ap (λ (o : Outcome). o.numbers.items) (same_Some (outcome_in e) x at)) in
        true≢false (sym ((signed_items numbers e.0.items).1 first) ∙ differs)
    by rest false differs no_log (suc k, x, at, is) = rest no_log (k, x, at, is)

-- with these numbers and their log
abbrev inserted : List (Vec ℤ × Vec Entry) → Vec ℤ → Vec Entry → List (Vec ℤ × Vec Entry)
inserted logs numbers log = insert_entry (λ x y. pointwise int_eq x.items y.items) logs numbers log

put_behind : (logs : List (Vec ℤ × Vec Entry)) (numbers : Vec ℤ) (log : Vec Entry) → (IsListed (outcomes_in logs) numbers.items → ⊥)
    → outcomes_in (inserted logs numbers log) ≡ outcomes_in logs ++ outcome_in (numbers, log) ∷ []
put_behind [] numbers log fresh = refl
put_behind (e ∷ logs) numbers log fresh = by (put_behind logs numbers log) (pointwise int_eq numbers.items e.0.items) refl
  where
    by : ((IsListed (outcomes_in logs) numbers.items → ⊥)
        → outcomes_in (inserted logs numbers log) ≡ outcomes_in logs ++ outcome_in (numbers, log) ∷ [])
        → (b : Bool) → pointwise int_eq numbers.items e.0.items ≡ b
        → outcomes_in (if b then (e.0, log) ∷ logs else e ∷ inserted logs numbers log)
        ≡ outcomes_in (e ∷ logs) ++ outcome_in (numbers, log) ∷ []
    by rest true same = absurd (fresh (0, outcome_in e, refl, sym ((signed_items numbers.items e.0.items).0 same)))
    by rest false differs =
        ap (λ l. outcome_in e ∷ l) (rest (λ h. fresh (listed_later (outcome_in e) (outcomes_in logs) numbers.items h)))

-- numbers that have a log are listed
pub known : (logs : List (Vec ℤ × Vec Entry)) (list : List Outcome) (numbers : List ℤ) → outcomes_in logs ≡ list → has numbers logs ≡ true
    → IsListed list numbers
known logs list numbers is there = subst (λ (l : List Outcome). IsListed l numbers) is (is_listed logs numbers there)

-- and others aren't
pub unknown : (logs : List (Vec ℤ × Vec Entry)) (list : List Outcome) (numbers : List ℤ) → outcomes_in logs ≡ list → has numbers logs ≡ false
    → IsListed list numbers → ⊥
unknown logs list numbers is none h = is_not_listed logs numbers none (subst (λ (l : List Outcome). IsListed l numbers) (sym is) h)

-- these come behind the others
pub listed_behind : (logs new : List (Vec ℤ × Vec Entry)) (list : List Outcome) (o : Outcome) → outcomes_in logs ≡ list
    → has o.numbers.items logs ≡ false → new ≡ inserted logs o.numbers o.log → outcomes_in new ≡ list ++ o ∷ []
listed_behind logs new list o is none put =
    ap outcomes_in put ∙ put_behind logs o.numbers o.log (is_not_listed logs o.numbers.items none) ∙ ap (λ (l : List Outcome). l ++ o ∷ []) is
