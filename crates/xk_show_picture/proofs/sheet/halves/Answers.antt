use Rattle.std.proofs.Common.{◌^◌, arith}
use Rattle.std.proofs.lemmas.Nat.{mul-lt}
use Rattle.xk_show_picture.proofs.sheet.halves.Goals as goal

pub overflow_mul-result : goal.overflow_mul-result
overflow_mul-result c = omega (arith, mul-lt c.from.result c.from-2.result (2 ^ 16) (2 ^ 32) (omega arith) (omega arith))

pub returns-clause-small : goal.returns-clause-small
returns-clause-small c = omega (arith, mul-lt c.from.result c.from-2.result (2 ^ 16) (2 ^ 32) (omega arith) (omega arith))
