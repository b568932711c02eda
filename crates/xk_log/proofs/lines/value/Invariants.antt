use Rattle.std.proofs.Common.{◌≡◌, ◌<◌, ◌^◌, drop}
use Rattle.xk_log.specs.Numbers.{value_from}
use Rattle.xk_log.proofs.lines.value.Given as goal

-- what is left, behind the number so far, is worth what all the digits are
abbrev pub invariant-loop-digit : goal.invariant-loop-digit
invariant-loop-digit l = record {
  fits : l.value < 2 ^ 32;
  worth : value_from l.value (drop l.digit-index l.digits) ≡ value_from 0 l.digits;
}
