use Rattle.std.proofs.Common.{◌≡◌, ◌++◌, drop, map, option_map}
use Rattle.xk_explain_kinds.specs.Declarations.{declared_here}
use Rattle.xk_explain_names.specs.Notes.{note_of}
use Rattle.xk_explain_names.proofs.notes.push_notes.Given as goal

abbrev pub invariant-loop-d : goal.invariant-loop-d
invariant-loop-d l =
    l.notes.items ++ map (note_of (option_map (λ r. r.now) l.repair)) (declared_here (drop l.d-index l.ds))
    ≡ l.fn.notes.items ++ map (note_of (option_map (λ r. r.now) l.repair)) (declared_here l.ds)
