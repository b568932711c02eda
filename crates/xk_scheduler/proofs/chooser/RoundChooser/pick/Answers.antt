use Rattle.std.proofs.Common.{ℕ, ◌%◌, length, Some, sym, ap}
use Rattle.std.proofs.lemmas.Option.{get_or_from_slice_get}
use Rattle.xk_scheduler.specs.Choosers.{turn_of}
use Rattle.xk_scheduler.proofs.chooser.RoundChooser.pick.Goals as goal

pub returns-clause-goes_on : goal.returns-clause-goes_on
returns-clause-goes_on c =
    let xs = c.args.enabled.now.members in
    ap (λ (x : ℕ). Some x) (sym (get_or_from_slice_get xs (turn_of c.args.self.now xs % length xs) c.turn-act.result 0 c.turn-act.ensures))
