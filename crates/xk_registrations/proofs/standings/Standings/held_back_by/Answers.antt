use Rattle.std.proofs.Common.{rules, ◌≡◌, ◌<◌, List, Some, None, length, refl, subst, All}
use Rattle.std.specs.List.{find}
use Rattle.xk_registrations.specs.View.{Registration}
use Rattle.xk_registrations.specs.RegistrationChanges.{is_signalled_in}
use Rattle.xk_registrations.proofs.SignalLemmas.{all_exist_in}
use Rattle.xk_registrations.proofs.PartLemmas.{inside_held, waits_of, held_of}
use Rattle.xk_registrations.proofs.standings.Standings.held_back_by.Goals as goal

pub find_signalled-requires : goal.find_signalled-requires
find_signalled-requires c =
    let same : c.index-registrations.result.now.list ≡ c.as_slice.result.now = search rules in
    subst (λ (l : List Registration). All (λ r. r.clock < length c.self.inside.clocks.table.clocks) l) same
    (all_exist_in c.self.inside.clocks.lasts c.self.inside.held.items c.self.inside.clocks.table.clocks c.args.a c.index-registrations.result.now c.self.invariant
    (inside_held _ _ c.self.inside.held.items c.args.a c.self.view_is refl c.requires) c.index-registrations.ensures)

pub returns-in-Some-clause-held : goal.returns-in-Some-clause-held
returns-in-Some-clause-held c =
    let first : Some c.in-Some.registration ≡ find (is_signalled_in c.self.inside.clocks.table.clocks) c.index-registrations.result.now.list = search rules in
    held_of _ _ c.self.inside.held.items c.args.a c.clock.result c.index-registrations.result.now c.in-Some.registration c.self.view_is refl c.self.invariant c.requires
    c.index-registrations.ensures first c.clock.ensures

pub returns-in-Some-clause-waits : goal.returns-in-Some-clause-waits
returns-in-Some-clause-waits c =
    let first : Some c.in-Some.registration ≡ find (is_signalled_in c.self.inside.clocks.table.clocks) c.index-registrations.result.now.list = search rules in
    waits_of _ _ c.self.inside.held.items c.args.a c.index-registrations.result.now (Some c.in-Some.registration) c.self.view_is refl c.self.invariant
    c.requires c.index-registrations.ensures first

pub returns-in-None-clause-waits : goal.returns-in-None-clause-waits
returns-in-None-clause-waits c =
    let first : None ≡ find (is_signalled_in c.self.inside.clocks.table.clocks) c.index-registrations.result.now.list = search rules in
    waits_of _ _ c.self.inside.held.items c.args.a c.index-registrations.result.now None c.self.view_is refl c.self.invariant c.requires
    c.index-registrations.ensures first
