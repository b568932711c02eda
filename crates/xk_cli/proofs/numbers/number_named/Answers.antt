use Rattle.std.proofs.Common.{FitsSigned, Some, ap, subst, sym, ◌∙◌}
use mir.Syntax.{w64}
use Rattle.std.proofs.lemmas.Int.{to_z-of_z}
use Rattle.xk_cli.proofs.NumeralLemmas.{number_none, number_some}
use Rattle.xk_cli.proofs.numbers.number_named.Goals as goal

pub returns-in-Ok : goal.returns-in-Ok
returns-in-Ok c =
    let read = c.in-Ok.ensures.value.0 in
    ap Some (to_z-of_z w64 c.in-Ok.number (subst (FitsSigned w64) (sym read.1) read.0.1)) ∙ number_some c.args.text.now c.in-Ok.number read

pub returns-in-Err : goal.returns-in-Err
returns-in-Err c = number_none c.args.text.now c.in-Err.ensures.value.0
