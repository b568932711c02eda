use Rattle.std.proofs.Common.{◌≡◌, ◌∙◌, ◌+◌, ℕ, Some, inl, refl, ap, subst, sym}
use Rattle.std.specs.Prelude.{IfSome}
use Rattle.std.proofs.lemmas.Option.{slice_get-get_or, slice_get_within, same_Some}
use Rattle.xk_outcomes.specs.declared.listing.Outcome.{Outcome}
use Rattle.xk_outcome_lists.specs.Expected.{IsFirstUntold}
use Rattle.xk_outcome_lists.specs.Text.{outcome_line}
use Rattle.xk_outcome_lists.proofs.holding.hold.Goals as goal

pub returns-in_ok-line-in-Some : goal.returns-in_ok-line-in-Some
returns-in_ok-line-in-Some c =
    let list = c.args.list.now in
    let place = c.in-Some.place in
    let item = c.index-list-place.result in
    let found = subst (λ o. IfSome o (λ (k : ℕ). (x : Outcome) × IsFirstUntold c.args.expected.now list k x)) c.in-Some.is c.in_ok-place.ensures.found in
    let x : Outcome = found.0 in
    let there = slice_get-get_or list place item (slice_get_within list place x found.1.there) ∙ ap Some (sym c.index-list-place.is) in
    let same : item ≡ x = same_Some item x (sym there ∙ found.1.there) in
    inl (
      place,
      x,
      found.1,
      ap (λ v. v.items) c.into_bytes.ensures.value ∙ c.in_ok-line-in-Some.ensures ∙ ap (λ (y : Outcome). outcome_line (place + 1) y.numbers.items) same,
      refl,
    )
