-- Statements in whose code no statement's own code stands. The body of an `async` has a unit for itself. This project's own.
use Rattle.std.specs.Prelude.{Bool, true, false}
use Rattle.xk_tree.specs.Tree.{Statement, Block, If, IfElse, For, Finish}

abbrev pub is_simple : Statement → Bool
is_simple (Block close ss) = false
is_simple (If at l op r s) = false
is_simple (IfElse at l op r s u) = false
is_simple (For at i lo hi s) = false
is_simple (Finish at s) = false
is_simple _ = true
