-- the notes of the remarks so far
use Rattle.std.proofs.Common.{◌≡◌, map, take}
use Rattle.xk_explain_bounds.specs.Words.{note_of}
use Rattle.xk_explain_bounds.proofs.notes.notes_of.Given as goal

abbrev pub invariant-loop-remark : goal.invariant-loop-remark
invariant-loop-remark l = l.out.items ≡ map (note_of l.origins) (take l.remark-index l.remarks)
