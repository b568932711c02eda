use Rattle.std.proofs.Common.{◌≡◌, ◌+◌, ◌*◌, length, map, []}
use Rattle.xk_tree.specs.Tree.{statement}
use Rattle.xk_exprs.specs.Marks.{marks}
use Rattle.xk_syntax.specs.Readers.{ahead_at, more_at, stmt_at}
use Rattle.xk_syntax.proofs.statements.+stmts.Given as goal

abbrev pub decreases-read_stmt : goal.decreases-read_stmt
decreases-read_stmt l = 5 * l.levels

abbrev pub decreases-read_stmts : goal.decreases-read_stmts
decreases-read_stmts l = 5 * l.levels + 1

abbrev pub decreases-boxed_stmt : goal.decreases-boxed_stmt
decreases-boxed_stmt l = 5 * l.levels + 1

abbrev pub decreases-block_stmt : goal.decreases-block_stmt
decreases-block_stmt l = 5 * l.levels + 2

abbrev pub decreases-else_part : goal.decreases-else_part
decreases-else_part l = 5 * l.levels + 2

abbrev pub decreases-if_stmt : goal.decreases-if_stmt
decreases-if_stmt l = 5 * l.levels + 3

abbrev pub decreases-for_stmt : goal.decreases-for_stmt
decreases-for_stmt l = 5 * l.levels + 2

abbrev pub decreases-async_stmt : goal.decreases-async_stmt
decreases-async_stmt l = 5 * l.levels + 2

abbrev pub decreases-finish_stmt : goal.decreases-finish_stmt
decreases-finish_stmt l = 5 * l.levels + 2

abbrev pub decreases-hiding_stmt : goal.decreases-hiding_stmt
decreases-hiding_stmt l = 5 * l.levels + 2

abbrev pub decreases-rest_of : goal.decreases-rest_of
decreases-rest_of l = 5 * l.levels + 4

-- what is read from here on is what is read from the start
abbrev pub invariant-read_stmts-loop-here : goal.invariant-read_stmts-loop-here
invariant-read_stmts-loop-here l = more_at ahead_at (stmt_at l.levels l.hidden) (map statement l.stmts.items) (marks l.rest) ≡ more_at ahead_at (stmt_at l.levels l.hidden) [] (marks l.fn.tokens)

abbrev pub decreases-read_stmts-loop-here : goal.decreases-read_stmts-loop-here
decreases-read_stmts-loop-here l = length l.rest
