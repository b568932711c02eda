use Rattle.std.proofs.Common.{◌≡◌, List, [], drop, refl, sym, ap, ◌∙◌, subst}
use Rattle.std.proofs.lemmas.List.{at_drop_all}
use Rattle.xk_registrations.specs.View.{Registration}
use Rattle.xk_registrations.specs.RegistrationChanges.{calls, call_register, OwesRegister, AreAllowedInTurn}
use Rattle.xk_registrations.proofs.CallSequenceLemmas.{allowed_in_turn, left_is}
use Rattle.xk_registrations.proofs.each_registration.register_each.Goals as goal

pub loop-i-init : goal.loop-i-init
loop-i-init c = record {
  clocks = λ now. refl;
  allowed = allowed_in_turn OwesRegister call_register c.args.registrations.now c.args.clocks.now.table.clocks c.requires.distinct c.requires.allowed;
}

pub register-requires : goal.register-requires
register-requires c =
    let left = left_is c.args.registrations.now c.loop-i.i c.index-registrations-i.result c.loop-i-test.true c.index-registrations-i.is in
    (subst (λ (l : List Registration). AreAllowedInTurn OwesRegister call_register l c.loop-i.clocks.table.clocks) left c.loop-i.invariant.allowed).0

pub loop-i-preserved : goal.loop-i-preserved
loop-i-preserved c =
    let left = left_is c.args.registrations.now c.loop-i.i c.index-registrations-i.result c.loop-i-test.true c.index-registrations-i.is in
    record {
      clocks = λ now. rw (c.register.ensures now) (ap (λ (l : List Registration). calls now call_register l c.loop-i.clocks) (sym left) ∙ c.loop-i.invariant.clocks now);
      allowed = rw (c.register.ensures 0) (subst (λ (l : List Registration). AreAllowedInTurn OwesRegister call_register l c.loop-i.clocks.table.clocks) left c.loop-i.invariant.allowed).1;
    }

pub returns : goal.returns
returns c =
    let none : drop c.loop-i.i c.args.registrations.now ≡ [] =
    at_drop_all (λ (l : List Registration). l) c.args.registrations.now c.loop-i.i c.loop-i-test.false in
    λ now. rw none at c.loop-i.invariant.clocks now
