-- How many steps of a path have each number.
use Rattle.std.proofs.Common.{◌≡◌, ◌∙◌, ℕ, ◌+◌, ◌<◌, ◌⊎◌, inl, inr, List, length, take, get_or, eq-eqb, ne_eqb, sym, ap, subst}
use Rattle.std.specs.Prelude.{nat_eq}
use Rattle.std.proofs.lemmas.Bool.{cases_eq}
use Rattle.std.proofs.lemmas.List.Sums.{count_by_more_no, count_by_more_yes}
use Rattle.xk_show_events.specs.declared.steps.RunStep.{RunStep}
use Rattle.xk_races.specs.Lists.{number_at}
use Rattle.xk_races.proofs.RowLemmas.{with_at_other, with_at_same}
use Rattle.xk_span_summary.specs.Counts.{counted}
use Rattle.xk_show_path.specs.Rounds.{AreMarks, count_of}

-- with one more step
pub marks_more : (path : List RunStep) (i : ℕ) (z : RunStep) (marks : List ℕ) → i < length path
    → AreMarks (take i path) marks → AreMarks (take (i + 1) path) (counted (get_or path i z).number marks)
marks_more path i z marks inside so_far n = of (cases_eq s.number n)
  where
    s : RunStep
    s = get_or path i z

    of : (s.number ≡ n) ⊎ (s.number ≡ n → ⊥) → number_at (counted s.number marks) n ≡ count_of (take (i + 1) path) n
    of (inl same) =
        subst (λ k. number_at (counted s.number marks) k ≡ number_at marks k + 1) same
        (with_at_same 0 marks s.number (number_at marks s.number + 1))
        ∙ ap (λ c. c + 1) (so_far n)
        ∙ sym (count_by_more_yes (λ (t : RunStep). nat_eq t.number n) path i z inside (eq-eqb s.number n same))
    of (inr other) =
        with_at_other 0 marks s.number n (number_at marks s.number + 1) (λ e. other (sym e))
        ∙ so_far n
        ∙ sym (count_by_more_no (λ (t : RunStep). nat_eq t.number n) path i z inside (ne_eqb s.number n other))
