use Rattle.std.proofs.Common.{◌≡◌, ◌++◌, drop, map, option_map}
use Rattle.xk_cli.specs.Numbers.{numbers_named}
use Rattle.xk_cli.proofs.numbers.numbers_named.Given as goal

-- the numbers that were found, and then those of the texts that are left, are those of all
abbrev pub invariant-loop-text : goal.invariant-loop-text
invariant-loop-text l =
    option_map (λ more. l.numbers.items ++ more) (numbers_named (map (λ text. text.now) (drop l.text-index l.texts))) ≡ numbers_named (map (λ text. text.now) l.texts)
