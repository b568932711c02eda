use Rattle.std.proofs.Common.{◌≡◌, ◌++◌, map, drop, string_bytes}
use Rattle.xk_module.specs.ModuleText.{letter}
use Rattle.xk_module.proofs.writing.letters.Given as goal

-- the letters so far and those of what is left are those of all
abbrev pub invariant-loop-param : goal.invariant-loop-param
invariant-loop-param l = string_bytes l.text ++ map letter (drop l.param-index l.params) ≡ map letter l.params
