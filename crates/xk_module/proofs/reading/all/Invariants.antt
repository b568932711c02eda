use Rattle.std.proofs.Common.{◌≡◌, drop}
use Rattle.xk_module.specs.ModuleReader.{views, each}
use Rattle.xk_module.proofs.LoopLemmas.{with_front}
use Rattle.xk_module.proofs.reading.all.Given as goal

-- those read so far and those of what is left are those of all
abbrev pub invariant-loop-value : goal.invariant-loop-value
invariant-loop-value g l =
    with_front l.found.items (each g.T.Named.named (views (drop l.value-index l.values))) ≡ each g.T.Named.named (views l.values)
