use Rattle.std.proofs.Common.{refl}
use Rattle.xk_serve.proofs.NoteLemmas.{cut_before, told_behind}
use Rattle.xk_serve.proofs.refusal.tell_noted.Goals as goal

pub returns-in-Ok : goal.returns-in-Ok
returns-in-Ok g c =
    told_behind c.args.note.now c.args.line.now c.args.status _ _ _ _ _ _ _ (rw c.as_bytes.ensures.value at c.in-Ok.ensures.all)
    c.in-Ok.ensures.no_fault c.tell.ensures

pub returns-in-Err : goal.returns-in-Err
returns-in-Err g c =
    cut_before c.args.note.now c.args.line.now c.args.status _ _ _ _ _ refl (rw c.as_bytes.ensures.value at c.in-Err.ensures.beginning)
    c.in-Err.ensures.failed
