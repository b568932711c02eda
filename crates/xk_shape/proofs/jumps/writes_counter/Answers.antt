-- what writes a slot is no end of a loop; what writes none writes no slot of a loop
use Rattle.std.proofs.Common.{sym, ◌∙◌}
use Rattle.std.proofs.lemmas.Option.{slice_get_within}
use Rattle.xk_shape.proofs.LoopSlotLemmas.{nothing_written, written_in}
use Rattle.xk_shape.proofs.jumps.writes_counter.Goals as goal

pub returns-in-Some : goal.returns-in-Some
returns-in-Some c =
    let u = c.args.u.now in
    let i = c.args.instr.now in
    c.is_counter.ensures u c.requires.tables (slice_get_within u.code c.args.at i c.requires.here)
    ∙ written_in u c.args.at c.in-Some.slot i c.requires.here (sym c.in-Some.ensures)

pub returns-in-None : goal.returns-in-None
returns-in-None c = sym (nothing_written c.args.instr.now c.args.at _ (sym c.in-None.ensures))
