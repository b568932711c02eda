use Rattle.std.proofs.Common.{◌≡◌, ℕ, drop, map, nat_eq}
use Rattle.std.specs.Map.{lookup}
use Rattle.std.specs.Option.{option_or}
use Rattle.xk_source_semantics.specs.Parts.{body_among}
use Rattle.xk_numbering.specs.Views.{part}
use Rattle.xk_numbering.proofs.part_graph.body_places.Given as goal

-- what the table has for an offset, or the parts that are left
abbrev pub invariant-loop-i : goal.invariant-loop-i
invariant-loop-i l = (at : ℕ) → option_or (lookup (nat_eq at) l.table.entries) (body_among l.i (map part (drop l.i l.parts)) at) ≡ body_among 0 (map part l.parts) at
