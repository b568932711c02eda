use Rattle.std.proofs.Common.{◌≡◌, map, take, string_bytes}
use Rattle.xk_cli.specs.CommandLine.{texts}
use Rattle.x10clock.proofs.texts_of.Given as goal

-- the words so far are the texts found
abbrev pub invariant-loop-word : goal.invariant-loop-word
invariant-loop-word l = texts l.found.items ≡ map string_bytes (take l.word-index l.words)
