use Rattle.xk_collections.proofs.ChainLayoutLemmas.{empty_laid, empty_places, seen, seen_laid}
use Rattle.xk_collections.proofs.waiting_lists.WaitingLists.with_room.Goals as goal

pub invariant_of-result : goal.invariant_of-result
invariant_of-result c =
    let places = c.places_for.result in
    rw (c.in_ok-first.ensures, c.in_ok-next.ensures) (
      seen_laid _ _ _ (empty_laid c.args.clocks places),
      empty_places c.args.clocks places c.args.acts c.places_for.ensures,
    )

pub returns-clause-lists : goal.returns-clause-lists
returns-clause-lists c = rw (c.in_ok-first.ensures, c.in_ok-next.ensures) (seen _ _ _ (empty_laid c.args.clocks c.places_for.result))
