-- What the two halves of an `advance`, and the end, leave of an activity.
use Rattle.std.proofs.Common.{◌≡◌, ℕ, ◌+◌, ◌<◌, false, [], length, refl, sym, ap, ◌∙◌, subst, arith, inl, inr}
use Rattle.std.proofs.lemmas.Bool.{false≢true}
use Rattle.xk_types.specs.declared.instr.Instr.TheVariants as instr
use Rattle.xk_types.specs.declared.world.Value.{Value}
use Rattle.xk_types.specs.declared.world.Value.TheVariants as value
use Rattle.xk_types.specs.declared.world.Status.TheVariants as status
use Rattle.xk_types.specs.declared.world.Standing.{Standing}
use Rattle.xk_types.specs.Code.{UnitValue, ModuleValue}
use Rattle.xk_types.specs.World.{Activity}
use Rattle.xk_types.specs.Step.{arrived, ended, past, resumed, passed, dropped, is_signalled}
use Rattle.xk_types.specs.Walk.{IsVisited, awake}
use Rattle.xk_law_schedules.proofs.Invariant.{Expects, AreWaiting, once_past, IsActivitySound, kind_by, kind_of}
use Rattle.xk_law_schedules.proofs.SafetyLemmas.CallerLemmas.{still_waiting}
use Rattle.xk_law_schedules.proofs.ShapeLemmas.UnitLemmas.{IsFit}
use Rattle.xk_law_schedules.proofs.SlotKindLemmas.KindTableLemmas.{resumed_held, resumed_awake, passed_held, passed_awake}
use Rattle.xk_law_schedules.proofs.SafetyLemmas.PreservationLemmas.{IsNext}
use Rattle.xk_law_schedules.proofs.SafetyLemmas.EffectLemmas.{IsAt, next_visited}

-- a resume changes nothing of what the pass will leave of a slot
resumed_value : (stands : ℕ → Standing) (v : Value) → awake (kind_of (λ k. kind_by (resumed (stands k))) v) ≡ awake (kind_of (λ k. kind_by (stands k)) v)
resumed_value stands value.Unset = refl
resumed_value stands (value.Number n) = refl
resumed_value stands (value.Clock k) = resumed_awake (stands k)

-- a pass leaves it
passed_value : (stands : ℕ → Standing) → ((k : ℕ) → is_signalled (stands k) ≡ false)
    → (v : Value) → kind_of (λ k. kind_by (passed (stands k))) v ≡ awake (kind_of (λ k. kind_by (stands k)) v)
passed_value stands quiet value.Unset = refl
passed_value stands quiet (value.Number n) = refl
passed_value stands quiet (value.Clock k) = passed_awake (stands k) (quiet k)

-- the first half
pub arriving : (m : ModuleValue) (stands : ℕ → Standing) (clocks now : ℕ) (was : Activity) (u : UnitValue) → IsAt m stands clocks now was u instr.Advance
    → IsNext m u (λ k. kind_by (resumed (stands k))) clocks (now + 1) was (arrived was)
arriving m stands clocks now was u c = record {
  unit = refl;
  callers = refl;
  since = omega (arith, c.me.since);
  frame = record {
    slots = c.me.frame.slots ∙ ap (λ x. x.slots) c.unit;
    place = subst (λ x. was.frame.place < length x.code) c.unit c.me.frame.place;
    known = c.me.frame.known;
    apart = c.me.frame.apart;
  };
  kinds = λ s v at. subst (λ k. IsVisited m u s (record { at = was.frame.place + 1; kind = k })) (sym (resumed_value stands v))
      (next_visited m stands clocks now was u instr.Advance c s v (awake (kind_of (λ k. kind_by (stands k)) v)) (was.frame.place + 1) (inl refl) at (inl refl));
  advance = λ e. c.here;
  held = λ k h. c.me.held k (resumed_held (stands k) h);
  waiting = still_waiting m (λ k. kind_by (stands k)) (λ k. kind_by (resumed (stands k))) was.status status.Arrived clocks clocks (omega arith) was.frame
      was.frame was.callers c.me.waiting refl
      (λ v found t k named. inl named)
      (λ k. inr (inl (resumed_awake (stands k) ∙ ap (λ st. awake (once_past st (kind_by (stands k)))) (sym c.running))));
  alone = λ e. absurd (grind arith);
}

-- the second half, of an activity that is signalled on no clock
pub going_on : (m : ModuleValue) (stands : ℕ → Standing) (clocks now : ℕ) (was : Activity) (me : IsActivitySound m (λ k. kind_by (stands k)) clocks now was)
    → IsFit me.u → was.status ≡ status.Arrived → ((k : ℕ) → is_signalled (stands k) ≡ false)
    → IsNext m me.u (λ k. kind_by (passed (stands k))) clocks (now + 1) was (past was (now + 1))
going_on m stands clocks now was me fit waiting quiet = record {
  unit = refl;
  callers = refl;
  since = omega arith;
  frame = record {
    slots = me.frame.slots;
    place = fit.next instr.Advance was.frame.place (me.advance waiting) refl;
    known = me.frame.known;
    apart = me.frame.apart;
  };
  kinds = λ s v at. subst (λ k. IsVisited m me.u s (record { at = was.frame.place + 1; kind = k })) (sym (passed_value stands quiet v))
      (subst (λ st. Expects m me.u st was.frame.place s (kind_of (λ k. kind_by (stands k)) v)) waiting (me.kinds s v at));
  advance = λ e. absurd (grind arith);
  held = λ k h. me.held k (passed_held (stands k) h);
  waiting = still_waiting m (λ k. kind_by (stands k)) (λ k. kind_by (passed (stands k))) was.status status.Running clocks clocks (omega arith)
      was.frame (record was.frame { place = was.frame.place + 1 }) was.callers me.waiting refl
      (λ v found t k named. inl named)
      (λ k. inl (passed_awake (stands k) (quiet k) ∙ ap (λ st. once_past st (kind_by (stands k))) (sym waiting)));
  alone = λ e. absurd (grind arith);
}

-- the end, where no frame waits
pub ending : (m : ModuleValue) (stands : ℕ → Standing) (clocks now : ℕ) (was : Activity) (u : UnitValue) → IsAt m stands clocks now was u instr.Ret → was.callers ≡ []
    → IsNext m u (λ k. kind_by (dropped (stands k))) clocks (now + 1) was (ended was)
ending m stands clocks now was u c none' = record {
  unit = refl;
  callers = refl;
  since = omega (arith, c.me.since);
  frame = record {
    slots = c.me.frame.slots ∙ ap (λ x. x.slots) c.unit;
    place = subst (λ x. was.frame.place < length x.code) c.unit c.me.frame.place;
    known = c.me.frame.known;
    apart = c.me.frame.apart;
  };
  kinds = λ s v at. tt;
  advance = λ e. absurd (grind arith);
  held = λ k h. absurd (false≢true h);
  waiting = subst (AreWaiting m (λ k. kind_by (dropped (stands k))) status.Ended clocks was.frame) (sym none') tt;
  alone = λ e. none';
}
