use Rattle.xk_readings.proofs.WalkLemmas.{begun}
use Rattle.std.proofs.Common.{◌∙◌}
use Rattle.xk_readings.proofs.walk.walk_all.Goals as goal

pub go_through-requires-clause-walk : goal.go_through-requires-clause-walk
go_through-requires-clause-walk c =
    let w = c.in_ok-walk.walk in
    begun c.args.graph.now w.ways w.groups.items w.list.items c.in_ok-walk.ensures.ways (c.in_ok-walk.ensures.room
    ∙ c.requires.nodes) c.in_ok-walk.ensures.groups c.in_ok-walk.ensures.list
    c.requires.readable
