use Rattle.std.proofs.Common.{◌∙◌, sym, arith}
use Rattle.xk_scheduler.proofs.RosterLemmas.{all_listed, awake_next, none_listed, out_next, room_below, waiting_next}
use Rattle.xk_scheduler.proofs.roster.Roster.list_all.Goals as goal
use Rattle.xk_scheduler.proofs.roster.Roster.list_all.Goals.{then-is_waiting, else-is_waiting}

pub loop-a-init : goal.loop-a-init
loop-a-init c = none_listed c.args.core.now c.args.self.now c.requires

pub list_one-requires : goal.list_one-requires
list_one-requires c = room_below c.args.core.now c.loop-a.a c.loop-a.self c.activities-a-end.ensures.core (omega (arith, c.loop-a-test.true, c.activities-a-end.ensures.count)) c.loop-a.invariant

pub put_waiting-requires : goal.put_waiting-requires
put_waiting-requires c = out_next c.args.core.now c.loop-a.a c.loop-a.self c.list_one.new.self c.loop-a.invariant c.list_one.ensures c.activities-a-end.ensures.core
    (omega (arith, c.loop-a-test.true, c.activities-a-end.ensures.count))

pub loop-a-preserved : goal.loop-a-preserved
loop-a-preserved c = elim c.if-is_waiting.branch [
  | then-is_waiting w ↦
      rw w.self-is
      (waiting_next c.args.core.now c.loop-a.a c.loop-a.self c.list_one.new.self c.loop-a.invariant c.list_one.ensures w.put_waiting.new.self c.activities-a-end.ensures.core
      (sym c.is_waiting.ensures ∙ w.if-is_waiting.true) w.put_waiting.ensures.put w.put_waiting.ensures.kept)
  | else-is_waiting w ↦
      rw w.self-is (awake_next c.args.core.now c.loop-a.a c.loop-a.self c.list_one.new.self c.loop-a.invariant c.list_one.ensures (sym c.is_waiting.ensures ∙ w.if-is_waiting.false))
]

pub returns : goal.returns
returns c =
    all_listed c.args.core.now c.loop-a.a c.loop-a.self c.activities-a-end.ensures.core
    (omega (arith, c.loop-a.auto.a-end, c.loop-a-test.false, c.activities-a-end.ensures.count)) c.loop-a.invariant
