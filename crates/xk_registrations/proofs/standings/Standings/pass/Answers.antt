use Rattle.std.proofs.Common.{◌≡◌, false, map, refl, sym, ap, ◌∙◌, subst}
use Rattle.std.specs.List.{list_any}
use Rattle.xk_types.specs.World.{standing_of}
use Rattle.xk_types.specs.Step.{is_signalled, passed, all, settled_clock, moved}
use Rattle.xk_registrations.specs.RegistrationChanges.{RegistrationsValue}
use Rattle.xk_registrations.specs.Standings.{StandingsValue, told_of}
use Rattle.xk_registrations.proofs.AllRegistrationsLemmas.{passed_in}
use Rattle.xk_registrations.proofs.PartLemmas.{inside_held, rooms_kept}
use Rattle.xk_registrations.proofs.standings.Standings.pass.Goals as goal

pub invariant_of-self : goal.invariant_of-self
invariant_of-self c =
    (passed_in 0 c.args.a c.self.inside.clocks c.self.inside.held.items c.index_mut-registrations.result.now c.pass.new.self c.self.invariant
    (inside_held _ _ c.self.inside.held.items c.args.a c.self.view_is refl c.requires.there) c.index_mut-registrations.ensures.value c.pass.ensures
    (subst (λ (s : StandingsValue). list_any (λ k. is_signalled (standing_of k c.args.a)) (told_of s) ≡ false) (sym c.self.view_is) c.requires.free)).1

pub returns-clause-told : goal.returns-clause-told
returns-clause-told c = λ now.
    (passed_in now c.args.a c.self.inside.clocks c.self.inside.held.items c.index_mut-registrations.result.now c.pass.new.self c.self.invariant
    (inside_held _ _ c.self.inside.held.items c.args.a c.self.view_is refl c.requires.there) c.index_mut-registrations.ensures.value c.pass.ensures
    (subst (λ (s : StandingsValue). list_any (λ k. is_signalled (standing_of k c.args.a)) (told_of s) ≡ false) (sym c.self.view_is) c.requires.free)).0
    ∙ ap (λ (s : StandingsValue). map (settled_clock now) (moved c.args.a (all passed) (told_of s))) c.self.view_is

pub returns-clause-rooms : goal.returns-clause-rooms
returns-clause-rooms c =
    rooms_kept _ _ c.self.inside.clocks c.self.inside.held.items c.args.a c.index_mut-registrations.result.now c.pass.new.self c.self.view_is refl refl c.requires.there
    c.index_mut-registrations.ensures.value (ap (λ (r : RegistrationsValue). r.room) c.pass.ensures) refl
