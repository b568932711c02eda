use Rattle.std.proofs.Common.{◌≡◌, ℕ, List, drop, map}
use Rattle.std.specs.Option.{option_or}
use Rattle.xk_tree.specs.Tree.{shared_value}
use Rattle.xk_names.specs.Scope.{find}
use Rattle.xk_source_semantics.specs.Compilation.{shared_among}
use Rattle.xk_codegen.proofs.setting.add_shared.Given as goal

-- what the table has for a name, or the shared numbers that are left
abbrev pub invariant-loop-i : goal.invariant-loop-i
invariant-loop-i l =
    (x : List ℕ) → option_or (find l.table x) (shared_among l.i (map shared_value (drop l.i l.shared)) x) ≡ shared_among 0 (map shared_value l.shared) x
