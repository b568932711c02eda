use Rattle.std.proofs.Common.{◌≡◌, ◌∙◌, ◌⊎◌, inl, inr, Some, ap, slice_get, subst, sym}
use Rattle.xk_outcomes.specs.Entries.{EntriesValue}
use Rattle.xk_outcomes.specs.Ways.{ways_in}
use Rattle.xk_outcomes.specs.Found.{along, first_found}
use Rattle.xk_outcomes.proofs.EntriesLemmas.{first_there}
use Rattle.xk_outcomes.proofs.entries.Entries.run_to.Goals as goal

either : {A : Type 0} → A ⊎ A → A
either (inl a) = a
either (inr a) = a

pub returns-in-Ok-clause-to : goal.returns-in-Ok-clause-to
returns-in-Ok-clause-to c =
    let first = first_found c.self.inside.start in
    let way = c.in_ok-way.way in
    let there : slice_get c.args.self.now.all 0 ≡ Some first =
    subst (λ (e : EntriesValue). slice_get e.all 0 ≡ Some first) c.self.view_is
    (first_there (ways_in c.self.inside.ways.items) c.self.inside.start c.self.inside.edges.items) in
    let here : slice_get c.args.self.now.all way.from ≡ Some first =
    subst (λ n. slice_get c.args.self.now.all n ≡ Some first) (sym (either c.in_ok-way.ensures.from)) there in
    c.in_ok-way.ensures.leads first here ∙ ap Some (ap (along way.ranks.items) (sym c.in_ok-run.ensures.to) ∙ sym c.in-Ok.ensures.to)
