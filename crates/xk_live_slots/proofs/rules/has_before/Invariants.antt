use Rattle.std.proofs.Common.{◌≡◌, ℕ, ◌<◌, true, List}
use Rattle.xk_types.specs.declared.world.Value.{Value}
use Rattle.xk_liveness.specs.Liveness.{before}
use Rattle.xk_live_slots.specs.LiveSlots.{live_in}
use Rattle.xk_live_slots.proofs.rules.has_before.Given as goal

-- the slots so far are in the table where they are live
abbrev pub invariant-loop-slot : goal.invariant-loop-slot
invariant-loop-slot l = (s : ℕ) → s < l.slot → (slots : List Value)
    → before l.program (live_in l.rows) (record { unit = l.unit; place = l.place; slots = slots }) l.instr s ≡ true
    → live_in l.rows l.unit l.place s ≡ true
