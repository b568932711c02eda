-- What activities may do is in the footprints that are made of it.
use Rattle.std.proofs.Common.{◌≡◌, ◌∙◌, ℕ, ◌+◌, inl, inr, Bool, true, false, true≢false, List, [], ◌∷◌, sym, ap, subst}
use Rattle.xk_types.specs.declared.instr.Instr.{Instr}
use Rattle.xk_types.specs.declared.instr.Instr.TheVariants as instr
use Rattle.xk_types.specs.Code.{ModuleValue}
use Rattle.xk_types.specs.World.{Activity, Frame, World}
use Rattle.xk_activity.specs.Activities.{act_at}
use Rattle.xk_activity.specs.FrameStack.{outer}
use Rattle.xk_activity.specs.Local.{FramesValue}
use Rattle.xk_closed.specs.Footprints.{MayDo, MayDoNow, RestOf, Table}
use Rattle.xk_closed_sets.specs.declared.footprint.Footprint.{Footprint}
use Rattle.xk_closed_sets.specs.declared.places.Reach.{Reach}
use Rattle.xk_closed_sets.specs.ClosedSets.{IsHeldBySet, IsOutsider}
use Rattle.xk_closed_sets.specs.Footprint.{Covers, has, joined}
use Rattle.xk_closed_sets.specs.Places.{phase_in, reach_at, rest_in}
use Rattle.xk_closed_sets.proofs.FootprintLemmas.{joined_first, joined_second}
use Rattle.xk_closed_sets.specs.Reaches.{CoversWaiting, IsReach}

-- ---- frames that wait

pub nobody_waits : (fs new : FramesValue) (rest : Table) (f : Footprint)
    → ◌≡◌ {A = Bool × FramesValue} (false, new) (outer fs fs.callers) → CoversWaiting f rest fs.callers
nobody_waits fs new rest f e = by fs.callers e
  where
    by : (cs : List Frame) → ◌≡◌ {A = Bool × FramesValue} (false, new) (outer fs cs) → CoversWaiting f rest cs
    by [] h j r = absurd r
    by (g ∷ gs) h j r = absurd (true≢false (sym (ap (λ (p : Bool × FramesValue). p.0) h)))

pub one_waits : (fs new : FramesValue) (rows : List (List Reach)) (f more : Footprint)
    → ◌≡◌ {A = Bool × FramesValue} (true, new) (outer fs fs.callers)
    → f ≡ joined (reach_at rows new.frame.unit (new.frame.place + 1)).rest more → CoversWaiting more (rest_in rows) new.callers
    → CoversWaiting f (rest_in rows) fs.callers
one_waits fs new rows f more e is others = by fs.callers e
  where
    behind : Footprint
    behind = (reach_at rows new.frame.unit (new.frame.place + 1)).rest

    first : Covers f behind
    first = subst (λ (z : Footprint). Covers z behind) (sym is) (joined_first behind more)

    second : Covers f more
    second = subst (λ (z : Footprint). Covers z more) (sym is) (joined_second behind more)

    by : (cs : List Frame) → ◌≡◌ {A = Bool × FramesValue} (true, new) (outer fs cs) → CoversWaiting f (rest_in rows) cs
    by [] h j r = absurd r
    by (g ∷ gs) h j (inl r) = first j (ap (λ (z : FramesValue). has (reach_at rows z.frame.unit (z.frame.place + 1)).rest j)
        (ap (λ (p : Bool × FramesValue). p.1) h) ∙ r)
    by (g ∷ gs) h j (inr r) = second j (others j (subst (λ (z : FramesValue). RestOf (rest_in rows) z.callers j)
        (sym (ap (λ (p : Bool × FramesValue). p.1) h)) r))

-- ---- an activity

pub reach_whole : (rows : List (List Reach)) (act : Activity) (r : Reach) (behind : Footprint)
    → CoversWaiting behind (rest_in rows) act.callers
    → r.rest ≡ joined (reach_at rows act.frame.unit act.frame.place).rest behind
    → r.phase ≡ joined (reach_at rows act.frame.unit act.frame.place).phase behind
    → IsReach (rest_in rows) (phase_in rows) act r
reach_whole rows act r behind waits is_rest is_phase = record { all = all; now = now }
  where
    here : Reach
    here = reach_at rows act.frame.unit act.frame.place

    all : (j : Instr) → MayDo (rest_in rows) act j → has r.rest j ≡ true
    all j (inl h) = subst (λ (z : Footprint). has z j ≡ true) (sym is_rest) (joined_first here.rest behind j h)
    all j (inr h) = subst (λ (z : Footprint). has z j ≡ true) (sym is_rest) (joined_second here.rest behind j (waits j h))

    now : (j : Instr) → MayDoNow (rest_in rows) (phase_in rows) act j → has r.phase j ≡ true
    now j (inl h) = subst (λ (z : Footprint). has z j ≡ true) (sym is_phase) (joined_first here.phase behind j h)
    now j (inr h) = subst (λ (z : Footprint). has z j ≡ true) (sym is_phase) (joined_second here.phase behind j (waits j h))

-- ---- outsiders

pub bounded_of : (m : ModuleValue) (w : World) (set : ℕ → Bool) (rest phase : Table) (reach : Reach) (r : ℕ)
    → IsReach rest phase (act_at w.activities r) reach
    → reach.phase.drops ≡ false → IsHeldBySet w set r → IsOutsider m w set rest phase reach.phase r
bounded_of m w set rest phase reach r is stays held = inr (inl (record {
  clock = held.clock;
  holder = held.holder;
  inside = held.inside;
  held = held.held;
  does = is.now;
  stays = λ k may. let drops = is.now (instr.Drop k) may in cc;
}))

-- what is in a larger footprint
pub outsider_wider : (m : ModuleValue) (w : World) (set : ℕ → Bool) (rest phase : Table) (f g : Footprint) (r : ℕ) → Covers g f
    → IsOutsider m w set rest phase f r → IsOutsider m w set rest phase g r
outsider_wider m w set rest phase f g r wide (inl does) = inl (λ j may. wide j (does j may))
outsider_wider m w set rest phase f g r wide (inr (inl b)) = inr (inl (record {
  clock = b.clock;
  holder = b.holder;
  inside = b.inside;
  held = b.held;
  does = λ j may. wide j (b.does j may);
  stays = b.stays;
}))
outsider_wider m w set rest phase f g r wide (inr (inr stuck)) = inr (inr stuck)
