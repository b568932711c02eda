-- the finishes found, and those among the instructions that are left
use Rattle.std.proofs.Common.{◌≡◌, ◌++◌, drop, map, filter}
use Rattle.xk_types.specs.Code.{begun_from}
use Rattle.xk_types.specs.Blocks.{Span, block_at, finish_opened, is_inside}
use Rattle.xk_explain_bounds.proofs.other_places.block_at.Given as goal

abbrev pub invariant-loop-first : goal.invariant-loop-first
invariant-loop-first l =
    l.block.items ++ map (λ (f : Span). f.first) (filter (is_inside l.at) (begun_from (finish_opened l.u) l.first (drop l.first l.u.code))) ≡ block_at l.u l.at
