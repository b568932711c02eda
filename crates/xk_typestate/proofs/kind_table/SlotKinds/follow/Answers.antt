-- what a whole search has seen
use Rattle.xk_typestate.proofs.SearchLemmas.{seen_visited, visited_seen}
use Rattle.xk_typestate.proofs.kind_table.SlotKinds.follow.Goals as goal

pub returns : goal.returns
returns c =
    let whole = c.in_ok-search.ensures in
    let r = c.in_ok-search.search in
    record {
      long = whole.searched.long;
      exact = λ q. (seen_visited c.args.m.now c.args.u.now c.args.slot r whole q, visited_seen c.args.m.now c.args.u.now c.args.slot r whole q);
    }
