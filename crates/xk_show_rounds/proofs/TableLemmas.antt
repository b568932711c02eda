-- The steps of a run in a table, each in its round.
use Rattle.std.proofs.Common.{◌≡◌, ◌∙◌, ℕ, ◌+◌, ◌-◌, ◌<◌, ◌⊎◌, inl, inr, suc, Bool, true, false, cond, List, [], ◌∷◌, ◌++◌}
use Rattle.std.proofs.Common.{length, take, replicate, get_or, set, eq-eqb, ne_eqb, sym, ap, subst, append-nil}
use Rattle.std.specs.Prelude.{nat_eq, filter}
use Rattle.std.proofs.lemmas.Bool.{cases_eq}
use Rattle.std.proofs.lemmas.List.Elements.{filter_more}
use Rattle.xk_show_names.specs.declared.accounts.Account.{Account}
use Rattle.xk_races.specs.Lists.{with_at}
use Rattle.xk_races.proofs.RowLemmas.{padded, with_at_other, with_at_same}
use Rattle.xk_show_path.specs.Rounds.{Rounds, round_of}
use Rattle.xk_show_rounds.specs.RoundRows.{AreByRounds, steps_in}

-- where there are rounds up to k, round k has what it had, and one more
pub grown_and_set : {X : Type 0} (table grown new : List (List X)) (k : ℕ) (x : X)
    → grown ≡ table ++ replicate (suc k - length table) [] → new ≡ set grown k (get_or grown k [] ++ x ∷ [])
    → new ≡ with_at [] table k (get_or table k [] ++ x ∷ [])
grown_and_set table grown new k x grew is =
    is
    ∙ ap (λ t. set t k (get_or t k [] ++ x ∷ [])) grew
    ∙ ap (λ row. set (table ++ replicate (suc k - length table) []) k (row ++ x ∷ [])) (padded [] table (suc k - length table) k)

-- with one more step
pub table_more : (r : Rounds) (steps : List Account) (i : ℕ) (z : Account) (table : List (List Account)) → i < length steps
    → AreByRounds r (take i steps) table
    → AreByRounds r (take (i + 1) steps)
    (with_at [] table (round_of r (get_or steps i z).step.number)
    (get_or table (round_of r (get_or steps i z).step.number) [] ++ get_or steps i z ∷ []))
table_more r steps i z table inside so_far k = of (cases_eq round k)
  where
    a : Account
    a = get_or steps i z

    round : ℕ
    round = round_of r a.step.number

    comes : Account → Bool
    comes b = nat_eq (round_of r b.step.number) k

    more : List Account
    more = get_or table round [] ++ a ∷ []

    by : (b : Bool) → comes a ≡ b → steps_in r (take (i + 1) steps) k ≡ steps_in r (take i steps) k ++ cond b (a ∷ []) []
    by b is = filter_more comes steps i z inside ∙ ap (λ c. filter comes (take i steps) ++ cond c (a ∷ []) []) is

    of : (round ≡ k) ⊎ (round ≡ k → ⊥) → get_or (with_at [] table round more) k [] ≡ steps_in r (take (i + 1) steps) k
    of (inl same) =
        subst (λ j. get_or (with_at [] table round more) j [] ≡ get_or table j [] ++ a ∷ []) same (with_at_same [] table round more)
        ∙ ap (λ l. l ++ a ∷ []) (so_far k)
        ∙ sym (by true (eq-eqb round k same))
    of (inr other) =
        with_at_other [] table round k more (λ e. other (sym e))
        ∙ so_far k
        ∙ sym (append-nil (steps_in r (take i steps) k))
        ∙ sym (by false (ne_eqb round k other))
