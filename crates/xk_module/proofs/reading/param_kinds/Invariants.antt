use Rattle.std.proofs.Common.{◌≡◌, drop}
use Rattle.xk_module.specs.ModuleReader.{each, param_at}
use Rattle.xk_module.proofs.LoopLemmas.{with_front}
use Rattle.xk_module.proofs.reading.param_kinds.Given as goal

-- those read so far and those of what is left are those of all
abbrev pub invariant-loop-letter : goal.invariant-loop-letter
invariant-loop-letter l =
    with_front l.kinds.items (each param_at (drop l.letter-index l.letter-items)) ≡ each param_at l.letter-items
