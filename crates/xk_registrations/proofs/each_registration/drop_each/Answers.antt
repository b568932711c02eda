use Rattle.std.proofs.Common.{◌≡◌, List, [], drop, refl}
use Rattle.std.proofs.lemmas.List.{at_drop_all}
use Rattle.xk_registrations.specs.View.{Registration}
use Rattle.xk_registrations.specs.RegistrationChanges.{concerns, call_drop, regs_on, OwesDrop}
use Rattle.xk_registrations.proofs.StandingLemmas.{distinct_where}
use Rattle.xk_registrations.proofs.CallSequenceLemmas.{allowed_in_turn, more_calls, more_allowed}
use Rattle.xk_registrations.proofs.each_registration.drop_each.Goals as goal

pub loop-i-init : goal.loop-i-init
loop-i-init c = record {
  clocks = refl;
  allowed = allowed_in_turn OwesDrop call_drop (regs_on (concerns c.args.which.now) c.args.registrations.now) c.args.clocks.now.table.clocks
      (distinct_where (λ r. concerns c.args.which.now r.clock) c.args.registrations.now c.requires.distinct) c.requires.allowed;
}

pub drop_one-requires : goal.drop_one-requires
drop_one-requires c =
    (more_allowed OwesDrop call_drop (λ r. concerns c.args.which.now r.clock) c.loop-i.i c.args.registrations.now c.loop-i.clocks.table.clocks
    c.index-registrations-i.result c.loop-i-test.true c.index-registrations-i.is c.loop-i.invariant.allowed).0

pub loop-i-preserved : goal.loop-i-preserved
loop-i-preserved c =
    rw c.drop_one.ensures (record {
      clocks = more_calls c.args.now call_drop (λ r. concerns c.args.which.now r.clock) c.loop-i.i c.args.registrations.now c.loop-i.clocks _
          c.index-registrations-i.result c.loop-i-test.true c.index-registrations-i.is c.loop-i.invariant.clocks;
      allowed = (more_allowed OwesDrop call_drop (λ r. concerns c.args.which.now r.clock) c.loop-i.i c.args.registrations.now c.loop-i.clocks.table.clocks
          c.index-registrations-i.result c.loop-i-test.true c.index-registrations-i.is c.loop-i.invariant.allowed).1;
    })

pub returns : goal.returns
returns c =
    let none : drop c.loop-i.i c.args.registrations.now ≡ [] =
    at_drop_all (λ (l : List Registration). l) c.args.registrations.now c.loop-i.i c.loop-i-test.false in
    rw none at c.loop-i.invariant.clocks
