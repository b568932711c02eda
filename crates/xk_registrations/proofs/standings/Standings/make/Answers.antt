use Rattle.std.proofs.Common.{[], ◌∷◌, ◌++◌, map, length, refl, ap, ◌∙◌}
use Rattle.xk_types.specs.Step.{settled_clock, new_clock}
use Rattle.xk_registrations.specs.RegistrationChanges.{ClocksValue, RegistrationsValue}
use Rattle.xk_registrations.specs.Standings.{StandingsValue, told_of}
use Rattle.xk_registrations.proofs.AllRegistrationsLemmas.{unnamed_in, made_in}
use Rattle.xk_registrations.proofs.PartLemmas.{inside_held, how_many, place_left, clock_left, rooms_kept}
use Rattle.xk_registrations.proofs.standings.Standings.make.Goals as goal

pub make-requires-clause-room : goal.make-requires-clause-room
make-requires-clause-room c =
    place_left _ _ c.self.inside.held.items c.args.a c.index_mut-registrations.result.now c.self.view_is refl refl c.self.invariant c.requires.there
    c.index_mut-registrations.ensures.value c.requires.room

pub make-requires-clause-clock_room : goal.make-requires-clause-clock_room
make-requires-clause-clock_room c = clock_left _ _ c.args.a c.self.view_is c.requires.room

pub make-requires-clause-new : goal.make-requires-clause-new
make-requires-clause-new c =
    unnamed_in c.self.inside.clocks c.self.inside.held.items c.args.a c.index_mut-registrations.result.now c.self.invariant
    (inside_held _ _ c.self.inside.held.items c.args.a c.self.view_is refl c.requires.there) c.index_mut-registrations.ensures.value

pub invariant_of-self : goal.invariant_of-self
invariant_of-self c =
    (made_in 0 c.args.a c.self.inside.clocks c.make.new.clocks c.self.inside.held.items c.index_mut-registrations.result.now c.make.new.self c.self.invariant
    (inside_held _ _ c.self.inside.held.items c.args.a c.self.view_is refl c.requires.there) c.index_mut-registrations.ensures.value
    c.make.ensures.registrations c.make.ensures.clocks).1

pub returns-clause-number : goal.returns-clause-number
returns-clause-number c = how_many _ _ c.make.result c.self.view_is c.make.ensures.number

pub returns-clause-told : goal.returns-clause-told
returns-clause-told c = λ now.
    (made_in now c.args.a c.self.inside.clocks c.make.new.clocks c.self.inside.held.items c.index_mut-registrations.result.now c.make.new.self c.self.invariant
    (inside_held _ _ c.self.inside.held.items c.args.a c.self.view_is refl c.requires.there) c.index_mut-registrations.ensures.value
    c.make.ensures.registrations c.make.ensures.clocks).0
    ∙ ap (λ (s : StandingsValue). map (settled_clock now) (told_of s ++ new_clock (length s.held) c.args.a ∷ [])) c.self.view_is

pub returns-clause-rooms : goal.returns-clause-rooms
returns-clause-rooms c =
    rooms_kept _ _ c.make.new.clocks c.self.inside.held.items c.args.a c.index_mut-registrations.result.now c.make.new.self c.self.view_is refl refl c.requires.there
    c.index_mut-registrations.ensures.value (ap (λ (r : RegistrationsValue). r.room) c.make.ensures.registrations) (ap (λ (v : ClocksValue). v.table.room) c.make.ensures.clocks)
