use Rattle.std.proofs.Common.{◌≡◌, drop}
use Rattle.xk_explain_kinds.specs.Declarations.{declared_here}
use Rattle.xk_explain_kinds.specs.FreeNames.{is_taken}
use Rattle.xk_explain_kinds.proofs.free_names.is_taken.Given as goal

-- none so far has the name
abbrev pub invariant-loop-d : goal.invariant-loop-d
invariant-loop-d l = is_taken l.name (declared_here (drop l.d-index l.all)) ≡ is_taken l.name (declared_here l.all)
