use Rattle.std.proofs.Common.{◌≡◌, ◌<◌, ◌&&◌, List, [], length, drop, arith, refl, sym, ◌∙◌}
use Rattle.std.proofs.lemmas.List.{at_drop_all}
use Rattle.xk_registrations.specs.View.{Registration}
use Rattle.xk_registrations.specs.RegistrationChanges.{concerns, call_resume, regs_open, is_open, OwesResume}
use Rattle.xk_registrations.proofs.StandingLemmas.{distinct_where}
use Rattle.xk_registrations.proofs.CallSequenceLemmas.{allowed_in_turn, more_calls, more_allowed, more_registrations, more_rest, calls_set, allowed_set, all_registrations, resumed_in_turn}
use Rattle.xk_registrations.proofs.each_registration.resume_each.Goals as goal

pub loop-i-init : goal.loop-i-init
loop-i-init c = record {
  registrations = refl;
  rest = refl;
  clocks = refl;
  allowed = allowed_in_turn OwesResume call_resume (regs_open (concerns c.args.which.now) c.args.registrations.now) c.args.clocks.now.table.clocks
      (distinct_where (λ r. concerns c.args.which.now r.clock && is_open r) c.args.registrations.now c.requires.distinct) c.requires.allowed;
}

pub resume_one-requires : goal.resume_one-requires
resume_one-requires c =
    let inside : c.loop-i.i < length c.loop-i.registrations = omega (arith, c.loop-i-test.true, c.loop-i.auto.registrations) in
    rw (sym c.index-registrations-i.is)
    (more_allowed OwesResume call_resume (λ r. concerns c.args.which.now r.clock && is_open r) c.loop-i.i c.loop-i.registrations c.loop-i.clocks.table.clocks
    c.index-registrations-i.result inside c.index-registrations-i.is c.loop-i.invariant.allowed).0

pub loop-i-preserved : goal.loop-i-preserved
loop-i-preserved c =
    let inside : c.loop-i.i < length c.loop-i.registrations = omega (arith, c.loop-i-test.true, c.loop-i.auto.registrations) in
    rw (c.resume_one.ensures.registration, c.resume_one.ensures.clocks, sym c.index-registrations-i.is) (record {
      registrations = more_registrations (concerns c.args.which.now) c.loop-i.i c.loop-i.registrations _ c.loop-i.clocks.table.clocks
          c.index-registrations-i.result inside c.index-registrations-i.is c.loop-i.invariant.registrations;
      rest = more_rest c.loop-i.i c.loop-i.registrations c.args.registrations.now _ c.loop-i.invariant.rest;
      clocks = calls_set c.args.now call_resume (λ r. concerns c.args.which.now r.clock && is_open r) c.loop-i.i c.loop-i.registrations _ _ _
          (more_calls c.args.now call_resume (λ r. concerns c.args.which.now r.clock && is_open r) c.loop-i.i c.loop-i.registrations c.loop-i.clocks _
          c.index-registrations-i.result inside c.index-registrations-i.is c.loop-i.invariant.clocks);
      allowed = allowed_set OwesResume call_resume (λ r. concerns c.args.which.now r.clock && is_open r) c.loop-i.i c.loop-i.registrations _ _
          (more_allowed OwesResume call_resume (λ r. concerns c.args.which.now r.clock && is_open r) c.loop-i.i c.loop-i.registrations
          c.loop-i.clocks.table.clocks c.index-registrations-i.result inside c.index-registrations-i.is c.loop-i.invariant.allowed).1;
    })

pub returns : goal.returns
returns c =
    let none : drop c.loop-i.i c.loop-i.registrations ≡ [] =
    c.loop-i.invariant.rest ∙ at_drop_all (λ (l : List Registration). l) c.args.registrations.now c.loop-i.i c.loop-i-test.false in
    record {
      registrations = all_registrations (concerns c.args.which.now) c.loop-i.i c.loop-i.registrations _ c.loop-i.clocks.table.clocks none c.loop-i.invariant.registrations
          ∙ resumed_in_turn (concerns c.args.which.now) c.args.registrations.now c.args.clocks.now.table.clocks c.requires.distinct;
      clocks = rw none at c.loop-i.invariant.clocks;
    }
