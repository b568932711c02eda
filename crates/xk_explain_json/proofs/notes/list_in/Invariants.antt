use Rattle.std.proofs.Common.{◌≡◌, ◌++◌, map, drop}
use Rattle.serde_json.specs.View.{view}
use Rattle.xk_explain_json.specs.Explanations.{note_in}
use Rattle.xk_explain_json.proofs.notes.list_in.Given as goal

-- the values so far and those of what is left are those of all
abbrev pub invariant-loop-note : goal.invariant-loop-note
invariant-loop-note l = map view l.values.items ++ map (note_in l.source) (drop l.note-index l.notes) ≡ map (note_in l.source) l.notes
