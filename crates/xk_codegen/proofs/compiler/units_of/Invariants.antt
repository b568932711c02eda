use Rattle.std.proofs.Common.{◌≡◌, ℕ, Some, None}
use Rattle.xk_codegen.proofs.UnitLemmas.{AreMade}
use Rattle.xk_codegen.proofs.FaultLemmas.{IsBeyond, IsLeast}
use Rattle.xk_codegen.proofs.compiler.units_of.Given as goal

-- where no fault was found, and where one was; and that it is the least
abbrev pub invariant-loop-p : goal.invariant-loop-p
invariant-loop-p l =
    (l.worst ≡ None → AreMade l.setting l.parts l.p-index l.units.items)
    × ((at : ℕ) → l.worst ≡ Some at → IsBeyond l.setting l.parts at)
    × IsLeast l.setting l.parts l.p-index l.worst
