use Rattle.std.proofs.Common.{◌≡◌, drop}
use Rattle.xk_explain.specs.FrontRepairs.{called_for}
use Rattle.xk_explain.proofs.front_repairs.called_for.Given as goal

-- none so far calls for one
abbrev pub invariant-loop-note : goal.invariant-loop-note
invariant-loop-note l = called_for (drop l.note-index l.notes) ≡ called_for l.notes
