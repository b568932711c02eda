use Rattle.std.proofs.Common.{◌+◌, ◌<◌, ◌^◌, map, refl, sym, ap, ◌∙◌, subst, All}
use Rattle.xk_types.specs.Step.{dropped, settled_clock, moved}
use Rattle.xk_registrations.specs.RegistrationChanges.{ClocksValue, RegistrationsValue}
use Rattle.xk_registrations.specs.Standings.{StandingsValue, told_of, change_on}
use Rattle.xk_registrations.proofs.AllRegistrationsLemmas.{may_drop_in, dropped_in}
use Rattle.xk_registrations.proofs.PartLemmas.{inside_held, rooms_kept}
use Rattle.xk_registrations.proofs.standings.Standings.drop.Goals as goal

pub drop-requires : goal.drop-requires
drop-requires c =
    may_drop_in c.self.inside.clocks c.self.inside.held.items c.args.a c.index_mut-registrations.result.now c.args.which c.self.invariant
    (inside_held _ _ c.self.inside.held.items c.args.a c.self.view_is refl c.requires.there) c.index_mut-registrations.ensures.value
    (subst (λ (s : StandingsValue). All (λ k. k.phase + 1 < 2 ^ 64) (told_of s)) (sym c.self.view_is) c.requires.phases)

pub invariant_of-self : goal.invariant_of-self
invariant_of-self c =
    (dropped_in c.args.now c.args.a c.args.which c.self.inside.clocks c.drop.new.clocks c.self.inside.held.items c.index_mut-registrations.result.now c.drop.new.self c.self.invariant
    (inside_held _ _ c.self.inside.held.items c.args.a c.self.view_is refl c.requires.there) c.index_mut-registrations.ensures.value
    c.drop.ensures.registrations c.drop.ensures.clocks).1

pub returns-clause-told : goal.returns-clause-told
returns-clause-told c =
    (dropped_in c.args.now c.args.a c.args.which c.self.inside.clocks c.drop.new.clocks c.self.inside.held.items c.index_mut-registrations.result.now c.drop.new.self c.self.invariant
    (inside_held _ _ c.self.inside.held.items c.args.a c.self.view_is refl c.requires.there) c.index_mut-registrations.ensures.value
    c.drop.ensures.registrations c.drop.ensures.clocks).0
    ∙ ap (λ (s : StandingsValue). map (settled_clock c.args.now) (moved c.args.a (change_on c.args.which dropped) (told_of s))) c.self.view_is

pub returns-clause-rooms : goal.returns-clause-rooms
returns-clause-rooms c =
    rooms_kept _ _ c.drop.new.clocks c.self.inside.held.items c.args.a c.index_mut-registrations.result.now c.drop.new.self c.self.view_is refl refl c.requires.there
    c.index_mut-registrations.ensures.value (ap (λ (r : RegistrationsValue). r.room) c.drop.ensures.registrations) (ap (λ (v : ClocksValue). v.table.room) c.drop.ensures.clocks)
