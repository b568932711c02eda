-- What the code's heads are, apart from where they lie in memory. This project's own.
use Rattle.std.specs.Prelude.{Option, option_map}
use Rattle.xk_tree.specs.declared.tree.ClockList.{ClockList}
use Rattle.xk_tree.specs.Tree.{Clocks, bound, expression, word, clock_list, statement}
use Rattle.xk_syntax.specs.declared.statement_heads.Head as code
use Rattle.xk_syntax.specs.declared.statement_heads.Head.TheVariants as head
use Rattle.xk_syntax.specs.Readers.{Head, Whole, Brace, Condition, Range, Start, Wait, Hide}

abbrev pub clocks_value : Option ClockList → Option Clocks
clocks_value cs = option_map clock_list cs

abbrev pub head_value : code.Head → Head
head_value (head.Whole s) = Whole (statement s)
head_value head.Brace = Brace
head_value (head.Condition at l c r) = Condition at (expression l) c (expression r)
head_value (head.Range at n lo b) = Range at (word n) lo (bound b)
head_value (head.Start at cs) = Start at (clocks_value cs)
head_value (head.Wait at) = Wait at
head_value (head.Hide at finish) = Hide at finish
