use Rattle.std.proofs.Common.{◌≡◌, ◌∙◌, ◌+◌, ◌-◌, ◌<◌, ◌≤◌, ◌++◌, ◌∷◌, [], inl, inr, List, ap, length, subst, sym, refl, arith}
use Rattle.std.proofs.lemmas.Bool.{true≢false}
use Rattle.std.proofs.lemmas.List.{length_push}
use Rattle.xk_readings.specs.declared.ways.Stand.{Stand}
use Rattle.xk_readings.specs.Stands.{AreWays, standings}
use Rattle.xk_readings.specs.Ways.{HasStanding, WaysValue, along, at, left}
use Rattle.xk_readings.proofs.StandLemmas.{many_ways, new_there, ways_push, ways_pushed, ways_pushed_here}
use Rattle.xk_readings.proofs.ways.Ways.lengthen.Goals.{After-has, In_ok-push}
use Rattle.xk_readings.proofs.ways.Ways.lengthen.Goals as goal

pub has-requires : goal.has-requires
has-requires c = subst (λ (w : WaysValue). c.args.edge.to < w.here.room) (sym c.self.view_is) c.requires.to

pub returns-then-has-clause-there : goal.returns-then-has-clause-there
returns-then-has-clause-there c =
    subst (λ (w : WaysValue). HasStanding w.all w.since c.args.edge.to) c.self.view_is
    (c.self.invariant.here c.args.edge.to (c.if-has.ensures.there.0 refl))

pub invariant_of-self : goal.invariant_of-self
invariant_of-self c =
    subst (λ (l : List Stand). AreWays l c.self.inside.since c.self.inside.here.nodes) (sym c.in_err-push.ensures.items) c.self.invariant

pub returns-in_err-push-clause-all : goal.returns-in_err-push-clause-all
returns-in_err-push-clause-all c = inl (ap standings c.in_err-push.ensures.items ∙ ap (λ (w : WaysValue). w.all) c.self.view_is)

pub add-requires-clause-room : goal.add-requires-clause-room
add-requires-clause-room c = subst (λ (w : WaysValue). c.args.edge.to < w.here.room) (sym c.self.view_is) c.requires.to

pub add-requires-clause-new : goal.add-requires-clause-new
add-requires-clause-new c h = true≢false (sym (c.if-has.ensures.there.1 h))

-- the way that it makes longer is there before
behind : (c : In_ok-push) → c.args.before ≤ length c.self.inside.stands.items
behind c =
    let many = many_ways c.self.inside.stands.items in
    let inside : c.args.before < length (standings c.self.inside.stands.items) = subst (λ (w : WaysValue). c.args.before < length w.all)
    (sym c.self.view_is) c.requires.before in
    omega (arith, many, inside)

pub invariant_of-self-in_err-add : goal.invariant_of-self-in_err-add
invariant_of-self-in_err-add c =
    let stands = c.self.inside.stands.items in
    let stand : Stand = record { before = c.args.before; edge = c.args.edge } in
    subst (AreWays c.push.new.self.items c.self.inside.since) (sym c.in_err-add.ensures.same)
    (ways_pushed stands c.push.new.self.items stand c.self.inside.since c.self.inside.here.nodes c.self.invariant c.in_ok-push.ensures.items
    (behind (goal.at.invariant_of-self-in_err-add c).In_ok-push))

pub returns-in_err-add-clause-all : goal.returns-in_err-add-clause-all
returns-in_err-add-clause-all c =
    let stands = c.self.inside.stands.items in
    let stand : Stand = record { before = c.args.before; edge = c.args.edge } in
    inr (ap standings c.in_ok-push.ensures.items ∙ ways_push stands stand
    ∙ ap (λ (w : WaysValue). w.all ++ along c.args.edge (at w.all c.args.before) ∷ []) c.self.view_is)

-- what is looked at is there
since : (c : In_ok-push) → c.self.inside.since ≤ length (standings c.self.inside.stands.items)
since c = subst (λ (w : WaysValue). w.since ≤ length w.all) (sym c.self.view_is) c.requires.since

pub invariant_of-self-2 : goal.invariant_of-self-2
invariant_of-self-2 c =
    let stands = c.self.inside.stands.items in
    let stand : Stand = record { before = c.args.before; edge = c.args.edge } in
    let known = (goal.at.invariant_of-self-2 c).In_ok-push in
    ways_pushed_here stands c.push.new.self.items stand c.self.inside.since c.self.inside.here.nodes c.add.new.self.nodes c.self.invariant
    c.in_ok-push.ensures.items
    (behind known) (since known) c.in_ok-add.ensures.added

pub returns-clause-all : goal.returns-clause-all
returns-clause-all c =
    let stands = c.self.inside.stands.items in
    let stand : Stand = record { before = c.args.before; edge = c.args.edge } in
    inr (ap standings c.in_ok-push.ensures.items ∙ ways_push stands stand
    ∙ ap (λ (w : WaysValue). w.all ++ along c.args.edge (at w.all c.args.before) ∷ []) c.self.view_is)

pub returns-clause-there : goal.returns-clause-there
returns-clause-there c =
    let stand : Stand = record { before = c.args.before; edge = c.args.edge } in
    new_there c.self.inside.stands.items c.push.new.self.items stand c.self.inside.since c.in_ok-push.ensures.items
    (since (goal.at.returns-clause-there c).In_ok-push)

pub returns-clause-left : goal.returns-clause-left
returns-clause-left c =
    let stands = c.self.inside.stands.items in
    let stand : Stand = record { before = c.args.before; edge = c.args.edge } in
    let nodes = c.self.inside.here.nodes in
    let was = many_ways stands in
    let now = many_ways c.push.new.self.items in
    let one = ap length c.in_ok-push.ensures.items in
    let longer = length_push stands stand in
    let room = c.add.ensures.room in
    let added = ap length c.in_ok-add.ensures.added in
    let node = length_push nodes c.args.edge.to in
    let most = c.in_ok-add.ensures.most in
    subst (λ (w : WaysValue). length (standings c.push.new.self.items) +
    (c.add.new.self.room - length c.add.new.self.nodes) ≡ length w.all + left w) c.self.view_is
    (omega (arith, was, now, one, longer, room, added, node, most))
