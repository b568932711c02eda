use Rattle.std.proofs.Common.{◌≡◌, ◌++◌, drop}
use Rattle.xk_explain_kinds.specs.Declarations.{declared_here}
use Rattle.xk_explain_names.specs.Notes.{namesakes}
use Rattle.xk_explain_names.proofs.notes.namesakes.Given as goal

-- those found, and those among what is left, are those of all
abbrev pub invariant-loop-d : goal.invariant-loop-d
invariant-loop-d l =
    declared_here l.found.items ++ namesakes l.name l.at (declared_here (drop l.d-index l.all)) ≡ namesakes l.name l.at (declared_here l.all)
