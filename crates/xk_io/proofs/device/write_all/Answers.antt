use Rattle.std.proofs.Common.{◌≡◌, ◌-◌, ◌≤◌, length, take, drop, ◌∙◌, arith}
use Rattle.std.proofs.Math.Seq.{take-length, take-add}
use Rattle.std.proofs.lemmas.List.{length-drop}
use Rattle.xk_io.proofs.DeviceLemmas.{appends_then}
use Rattle.xk_io.proofs.device.write_all.Goals as goal

pub loop-written-preserved : goal.loop-written-preserved
loop-written-preserved g c =
    let text = c.args.text.now in
    let before = c.loop-written.written in
    let n = c.in_ok-written.field-0 in
    let rest : take (length text - before) (drop before text) ≡ drop before text = rw (← length-drop before text) (take-length (drop before text)) in
    let bound : n ≤ length text - before = simp length-drop at (rw rest at c.in_ok-written.ensures.bound) in
    let new = rw rest at c.in_ok-written.ensures.bytes in
    record {
      within = omega arith;
      appended = rw (take-add before n text) (appends_then _ _ _ (take before text) (take n
          (drop before text)) c.loop-written.invariant.appended new);
      no_fault = c.in_ok-written.ensures.faults ∙ c.loop-written.invariant.no_fault;
    }
