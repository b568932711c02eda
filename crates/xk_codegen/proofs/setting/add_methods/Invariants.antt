use Rattle.std.proofs.Common.{◌≡◌, ℕ, List, drop, map, option_map}
use Rattle.std.specs.Option.{option_or}
use Rattle.xk_names.specs.Scope.{find}
use Rattle.xk_source_semantics.specs.Parts.{method_among}
use Rattle.xk_numbering.specs.Views.{part}
use Rattle.xk_source_semantics.specs.Compilation.{unit_number}
use Rattle.xk_codegen.proofs.setting.add_methods.Given as goal

-- what the table has for a name, or the units that are left
abbrev pub invariant-loop-i : goal.invariant-loop-i
invariant-loop-i l =
    (x : List ℕ) → option_or (find l.table x) (option_map unit_number (method_among l.i (map part (drop l.i l.units)) x)) ≡ option_map unit_number (method_among 0 (map part l.units) x)
