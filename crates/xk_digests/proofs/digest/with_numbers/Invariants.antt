use Rattle.std.proofs.Common.{◌≡◌, take}
use Rattle.xk_digests.specs.Digest.{with_numbers}
use Rattle.xk_digests.proofs.digest.with_numbers.Given as goal

abbrev pub invariant-loop-number : goal.invariant-loop-number
invariant-loop-number l = l.digest ≡ with_numbers l.initial.digest (take l.number-index l.numbers)
