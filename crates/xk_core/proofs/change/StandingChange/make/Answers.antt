use Rattle.xk_registrations.specs.Standings.{told_of}
use Rattle.xk_core.proofs.StandingChangeLemmas.{pass_told}
use Rattle.xk_core.proofs.change.StandingChange.make.Goals as goal

pub returns-in-Pass-clause-told : goal.returns-in-Pass-clause-told
returns-in-Pass-clause-told c =
    pass_told c.args.now c.args.a c.args.which c.args.self (told_of c.args.standings.now) (told_of c.pass.new.self) c.in-Pass.is c.requires.allowed c.pass.ensures.told
