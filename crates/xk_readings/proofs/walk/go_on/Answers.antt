use Rattle.std.proofs.Common.{◌∙◌, List, slice_get, ap, subst, sym, arith}
use Rattle.xk_readings.specs.declared.branches.Branch.{Branch}
use Rattle.xk_readings.specs.Branches.{AreBranches, AreRisingBranches}
use Rattle.xk_readings.specs.Ways.{WaysValue}
use Rattle.xk_readings.proofs.WalkLemmas.{stepped}
use Rattle.xk_readings.proofs.walk.go_on.Goals as goal

pub add_groups-requires : goal.add_groups-requires
add_groups-requires c i b there =
    let is = (c.in_ok-branches.ensures.branches.each i b (ap (λ (l : List Branch). slice_get l i) (sym c.deref.ensures.value) ∙ there)).0 in
    let to = (c.requires.within b.edge is.there).1 in
    let now = ap (λ (w : WaysValue). w.here.room) c.list_ending.ensures.ways in
    let opened = c.in_ok-open.ensures.opened.room in
    let room = c.requires.walk.room in
    (is.before, omega (arith, to, now, opened, room))

pub returns : goal.returns
returns c =
    let g = c.args.graph.now in
    let now = c.list_ending.new.walk.ways in
    stepped g c.args.walk.now.ways c.open.new.walk.ways now c.add_groups.new.ways c.args.walk.now.groups.items
    c.list_ending.new.walk.groups.items c.add_groups.new.groups.items c.args.group
    c.args.walk.now.list.items c.open.new.walk.list.items c.list_ending.new.walk.list.items c.deref.result.now c.args.limit
    c.in_ok-list_ending.field-0 c.requires.trim c.requires.walk
    c.in_ok-open.ensures.opened c.open.ensures.list c.in_ok-list_ending.ensures.listed c.if-not-branch.false c.list_ending.ensures.ways
    (c.list_ending.ensures.groups ∙ c.open.ensures.groups)
    (subst (λ (l : List Branch). AreBranches g now.all c.args.group.from l) (sym c.deref.ensures.value) c.in_ok-branches.ensures.branches)
    (subst AreRisingBranches (sym c.deref.ensures.value) c.in_ok-branches.ensures.rising)
    c.in_ok-add_groups.ensures
