use Rattle.std.proofs.Common.{◌<◌, List, Bool, subst, sym}
use Rattle.xk_readings.specs.declared.branches.Group.{Group}
use Rattle.xk_readings.specs.Walks.{IsWalk, IsWalked, weight}
use Rattle.xk_readings.specs.Rising.{AreFirst}
use Rattle.xk_readings.proofs.WalkLemmas.{depth_most, first_listed, weight_falls}
use Rattle.xk_readings.proofs.walk.go_through.Goals as goal

pub loop-group-smaller : goal.loop-group-smaller
loop-group-smaller c =
    let g = c.args.graph.now in
    let old = c.loop-group.walk in
    let new = c.go_on.new.walk in
    let under = c.pop.new.self.items in
    let group = c.in-Some.group in
    let walk = subst (λ (l : List Group). IsWalk g old.ways l old.list.items) c.in-Some.ensures.items c.loop-group.invariant.walk in
    let walked = subst (λ (b : Bool). IsWalked g c.args.limit group old.ways old.list.items new.ways new.groups.items new.list.items b)
    c.if-not-branch.false c.in_ok-go_on.ensures in
    subst (λ (l : List Group). weight c.args.limit c.args.longest new.ways.all new.groups.items new.list.items < weight c.args.limit
    c.args.longest old.ways.all l old.list.items)
    (sym c.in-Some.ensures.items)
    (weight_falls c.args.limit c.args.longest old.ways.all new.ways.all under new.groups.items group old.list.items new.list.items
    (depth_most g old.ways under group old.list.items c.args.longest walk c.requires.longest) walked.1)

pub returns-then-not-branch-clause-first : goal.returns-then-not-branch-clause-first
returns-then-not-branch-clause-first c =
    let g = c.args.graph.now in
    let old = c.loop-group.walk in
    let new = c.go_on.new.walk in
    let walked = subst (λ (b : Bool). IsWalked g c.args.limit c.in-Some.group old.ways old.list.items new.ways new.groups.items new.list.items b)
    c.if-not-branch.true c.in_ok-go_on.ensures in
    subst (AreFirst g) (sym walked.0) (first_listed g old.ways old.groups.items old.list.items c.loop-group.invariant.walk)
