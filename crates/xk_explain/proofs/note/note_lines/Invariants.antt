-- the lines of the notes so far
use Rattle.std.proofs.Common.{◌≡◌, take}
use Rattle.std.specs.List.{flat_map}
use Rattle.xk_explain.specs.Notes.{note_line}
use Rattle.xk_explain.proofs.note.note_lines.Given as goal

abbrev pub invariant-loop-note : goal.invariant-loop-note
invariant-loop-note l = l.out.items ≡ flat_map (note_line l.source) (take l.note-index l.notes)
