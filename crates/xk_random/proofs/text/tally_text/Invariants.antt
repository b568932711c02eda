use Rattle.std.proofs.Common.{◌≡◌, ◌++◌, map, flat_map, string_bytes}
use Rattle.xk_random.specs.Tally.{share_line}
use Rattle.xk_random.specs.Shares.{share_value}
use Rattle.xk_random.proofs.text.tally_text.Given as goal

-- the lines so far, and those of the shares that are left
abbrev pub invariant-loop-numbers : goal.invariant-loop-numbers
invariant-loop-numbers l =
    string_bytes l.text ++ flat_map share_line (map share_value l.numbers-iterator) ≡ flat_map share_line (map share_value l.shares.entries)
