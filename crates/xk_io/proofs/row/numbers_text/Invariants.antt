use Rattle.std.proofs.Common.{◌≡◌, take, string_bytes}
use Rattle.xk_io.specs.Row.{numbers_text}
use Rattle.xk_io.proofs.row.numbers_text.Given as goal

abbrev pub invariant-loop-number : goal.invariant-loop-number
invariant-loop-number l = string_bytes l.text ≡ numbers_text (take l.number-index l.numbers)
