use Rattle.std.proofs.Common.{ap, ◌∙◌}
use Rattle.xk_registrations.specs.RegistrationChanges.{ClocksValue}
use Rattle.xk_registrations.specs.Standings.{StandingsValue}
use Rattle.xk_registrations.proofs.PartLemmas.{may_begin_of, started_of}
use Rattle.xk_registrations.proofs.standings.Standings.admit.Goals as goal

pub begin-requires : goal.begin-requires
begin-requires c = may_begin_of _ _ c.args.child.list c.self.view_is c.self.invariant c.requires.few c.requires.handed_on

pub invariant_of-self : goal.invariant_of-self
invariant_of-self c =
    (started_of 0 c.requires.handed_on.by c.requires.handed_on.given c.self.inside.clocks c.begin.new.clocks c.self.inside.held.items c.push_reserved.new.self.items _ _ _
    c.args.child c.self.view_is c.self.invariant c.requires.handed_on.is c.begin.ensures.distinct (c.begin.ensures.clocks 0) c.push_reserved.ensures.items).1

pub returns-clause-told : goal.returns-clause-told
returns-clause-told c = λ a given now there is.
    (started_of now a given c.self.inside.clocks c.begin.new.clocks c.self.inside.held.items c.push_reserved.new.self.items _ _ _
    c.args.child c.self.view_is c.self.invariant is c.begin.ensures.distinct (c.begin.ensures.clocks now) c.push_reserved.ensures.items).0

pub returns-clause-clock_room : goal.returns-clause-clock_room
returns-clause-clock_room c = ap (λ (v : ClocksValue). v.table.room) (c.begin.ensures.clocks 0) ∙ ap (λ (s : StandingsValue). s.numbers.table.room) c.self.view_is
