use Rattle.std.proofs.Common.{◌≡◌, take, drop, ◌++◌}
use Rattle.xk_registrations.specs.RegistrationChanges.{concerns, calls, call_resume, regs_open, regs_resumed_in_turn, OwesResume, AreAllowedInTurn}
use Rattle.xk_registrations.proofs.each_registration.resume_each.Given as goal

-- what is still to be done leads from here to where all of it leads
abbrev pub invariant-loop-i : goal.invariant-loop-i
invariant-loop-i l = record {
  registrations : take l.i l.registrations ++ regs_resumed_in_turn (concerns l.which) (drop l.i l.registrations) l.clocks.table.clocks
      ≡ regs_resumed_in_turn (concerns l.which) l.initial.registrations l.initial.clocks.table.clocks;
  rest : drop l.i l.registrations ≡ drop l.i l.initial.registrations;
  clocks : calls l.now call_resume (regs_open (concerns l.which) (drop l.i l.registrations)) l.clocks
      ≡ calls l.now call_resume (regs_open (concerns l.which) l.initial.registrations) l.initial.clocks;
  allowed : AreAllowedInTurn OwesResume call_resume (regs_open (concerns l.which) (drop l.i l.registrations)) l.clocks.table.clocks;
}
