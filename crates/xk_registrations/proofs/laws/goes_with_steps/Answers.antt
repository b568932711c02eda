use Rattle.xk_registrations.proofs.StepLaw.{opened_law, resumed_law, arrived_law, passed_law, dropped_law, left_law, started_law, made_law}
use Rattle.xk_registrations.proofs.CallPreconditionLemmas.{may_resume, may_drop, may_register, sound_start}
use Rattle.xk_registrations.proofs.laws.goes_with_steps.Goals as goal

pub returns-clause-opened : goal.returns-clause-opened
returns-clause-opened c = opened_law

pub returns-clause-resumed : goal.returns-clause-resumed
returns-clause-resumed c = resumed_law

pub returns-clause-arrived : goal.returns-clause-arrived
returns-clause-arrived c = arrived_law

pub returns-clause-passed : goal.returns-clause-passed
returns-clause-passed c = passed_law

pub returns-clause-dropped : goal.returns-clause-dropped
returns-clause-dropped c = dropped_law

pub returns-clause-left : goal.returns-clause-left
returns-clause-left c = left_law

pub returns-clause-started : goal.returns-clause-started
returns-clause-started c = started_law

pub returns-clause-made : goal.returns-clause-made
returns-clause-made c = made_law

pub returns-clause-may_resume : goal.returns-clause-may_resume
returns-clause-may_resume c = may_resume

pub returns-clause-may_drop : goal.returns-clause-may_drop
returns-clause-may_drop c = may_drop

pub returns-clause-may_register : goal.returns-clause-may_register
returns-clause-may_register c = may_register

pub returns-clause-sound_start : goal.returns-clause-sound_start
returns-clause-sound_start c = sound_start
