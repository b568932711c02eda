use Rattle.std.proofs.Common.{◌≡◌, ◌∙◌, ℕ, Some, ap, subst, sym, slice_get}
use borrow.Author.Count.{below_more}
use Rattle.std.proofs.lemmas.Option.{slice_get-get_or, same_Some}
use Rattle.xk_outcomes.specs.declared.listing.Outcome.{Outcome}
use Rattle.xk_outcome_lists.specs.Expected.{IsTold}
use Rattle.xk_outcome_lists.proofs.holding.first_untold.Goals as goal

pub returns-then-not-is_in-clause-found : goal.returns-then-not-is_in-clause-found
returns-then-not-is_in-clause-found c =
    let x = c.index-list-place.result in (
      x,
      record {
        there = slice_get-get_or c.args.list.now c.loop-place.place x c.loop-place-test.true ∙ ap Some (sym c.index-list-place.is);
        untold = c.in_ok-is_in.ensures.no c.if-not-is_in.true;
        before = c.loop-place.invariant;
      },
    )

pub loop-place-preserved : goal.loop-place-preserved
loop-place-preserved c =
    let list = c.args.list.now in
    let told = c.args.expected.now in
    let place = c.loop-place.place in
    let x = c.index-list-place.result in
    let there = slice_get-get_or list place x c.loop-place-test.true ∙ ap Some (sym c.index-list-place.is) in
    below_more (λ (k : ℕ). (y : Outcome) → slice_get list k ≡ Some y → IsTold told y.numbers.items) place c.loop-place.invariant
    (λ y here. subst (λ (z : Outcome). IsTold told z.numbers.items) (same_Some x y (sym there ∙ here)) (c.in_ok-is_in.ensures.yes c.if-not-is_in.false))
