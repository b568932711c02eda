use Rattle.std.proofs.Common.{◌≡◌, ◌++◌, drop, map}
use Rattle.xk_tree.specs.Tree.{shared_value}
use Rattle.xk_codegen.proofs.compiler.starts.Given as goal

abbrev pub invariant-loop-number : goal.invariant-loop-number
invariant-loop-number l =
    l.numbers.items ++ map (λ s. s.start.value) (map shared_value (drop l.number-index l.shared)) ≡ map (λ s. s.start.value) (map shared_value l.shared)
