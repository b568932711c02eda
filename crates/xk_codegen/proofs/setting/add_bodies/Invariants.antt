use Rattle.std.proofs.Common.{◌≡◌, ℕ, drop, map, nat_eq}
use Rattle.std.specs.Map.{lookup}
use Rattle.std.specs.Option.{option_or}
use Rattle.xk_tree.specs.Program.{tree_value}
use Rattle.xk_numbering.specs.Views.{part}
use Rattle.xk_source_semantics.specs.Compilation.{settled_body}
use Rattle.xk_codegen.proofs.setting.add_bodies.Given as goal

-- what the table has for an offset, or the units that are left
abbrev pub invariant-loop-i : goal.invariant-loop-i
invariant-loop-i l =
    (at : ℕ) → option_or (lookup (nat_eq at) l.table.entries) (settled_body (tree_value l.tree) l.i (map part (drop l.i l.units)) at)
    ≡ settled_body (tree_value l.tree) 0 (map part l.units) at
