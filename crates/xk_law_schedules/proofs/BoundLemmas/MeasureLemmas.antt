-- The measure of the bound: what activities have still to pay, which falls with each step.
use Rattle.std.proofs.Common.{◌≡◌, ℕ, ◌+◌, ◌≤◌, List, [], ◌∷◌, set, sum_by, Some, None, refl, sym, ap, ◌∙◌, subst, arith}
use Rattle.std.specs.Prelude.{slice_get}
use Rattle.std.specs.Option.{option_map_or}
use Rattle.xk_types.specs.declared.instr.Instr.{Instr}
use Rattle.xk_types.specs.declared.instr.Instr.TheVariants as instr
use Rattle.xk_types.specs.declared.world.Status.{Status}
use Rattle.xk_types.specs.declared.world.Status.TheVariants as status
use Rattle.xk_types.specs.Code.{UnitValue, ModuleValue, unit_run}
use Rattle.std.proofs.lemmas.List.Sums.{sum_by-cons}
use Rattle.xk_types.specs.World.{Frame, Activity}
use Rattle.xk_types.specs.Step.{back_in}
use Rattle.xk_types.specs.Shape.{HasShape}
use Rattle.xk_types.specs.Bound.{steps_weight, activities_weight, clocks_weight, total}
use Rattle.xk_law_schedules.proofs.BoundLemmas.LoopTurnLemmas.{due, Goes, due_start, due_step, due_end}
use Rattle.xk_law_schedules.proofs.Invariant.{with_run, owed_by, owed_behind, owed_now, owed, owing}
use Rattle.xk_law_schedules.proofs.ShapeLemmas.UnitLemmas.{IsFit}
use Rattle.xk_types.proofs.ListLemmas.{sum_set}
use Rattle.xk_law_schedules.proofs.BoundLemmas.TotalLemmas.{total_sum}

-- an instruction that runs nothing
alone : (weight : Instr → ℕ) (m : ModuleValue) (i : Instr) → unit_run i ≡ None → with_run weight m i ≡ weight i
alone weight m i e = let h = ap (λ o. option_map_or (total weight m) o 0) e in omega arith

-- the debt of an activity's present frame, by its unit
owed_at : (weight : Instr → ℕ) (half : ℕ) (m : ModuleValue) (act : Activity) (u : UnitValue) → slice_get m.units act.frame.unit ≡ Some u
    → owed_now weight half m act ≡ owed_by (with_run weight m) half u act.frame.place act.frame.slots act.status
owed_at weight half m act u found = ap (λ o. option_map_or (λ x. owed_by (with_run weight m) half x act.frame.place act.frame.slots act.status) o 0) found

-- that of a frame that waits
behind_at : (weight : Instr → ℕ) (m : ModuleValue) (f : Frame) (u : UnitValue) → slice_get m.units f.unit ≡ Some u
    → owed_behind weight m f ≡ due (with_run weight m) u (f.place + 1) f.slots
behind_at weight m f u found = ap (λ o. option_map_or (λ x. due (with_run weight m) x (f.place + 1) f.slots) o 0) found

-- what frames that wait owe
abbrev owed_below : (Instr → ℕ) → ModuleValue → List Frame → ℕ
owed_below weight m fs = sum_by (owed_behind weight m) fs

-- the debt of a frame before its first step
begun : (weight : Instr → ℕ) (half : ℕ) (m : ModuleValue) → HasShape m → (act : Activity) (u : UnitValue) → slice_get m.units act.frame.unit ≡ Some u
    → act.status ≡ status.Running → act.frame.place ≡ 0 → owed_now weight half m act ≡ total weight m act.frame.unit
begun weight half m shape act u found running first =
    owed_at weight half m act u found ∙ ap (owed_by (with_run weight m) half u act.frame.place act.frame.slots) running
    ∙ ap (λ n. due (with_run weight m) u n act.frame.slots) first
    ∙ due_start u (with_run weight m) act.frame.slots
    ∙ sym (total_sum weight m shape act.frame.unit u found)

-- an activity's debt before its first step
pub owed_first : (weight : Instr → ℕ) (half : ℕ) (m : ModuleValue) → HasShape m → (act : Activity) (u : UnitValue) → slice_get m.units act.frame.unit ≡ Some u
    → act.status ≡ status.Running → act.frame.place ≡ 0 → act.callers ≡ [] → owed weight half m act ≡ total weight m act.frame.unit
owed_first weight half m shape act u found running first alone' =
    let h = begun weight half m shape act u found running first in
    let g : owed_below weight m act.callers ≡ 0 = ap (owed_below weight m) alone' in
    omega arith

-- what a step takes off its activity's debts: a step, and so many clocks
pub record IsPaid (m : ModuleValue) (was act : Activity) (clocks : ℕ) : Type 0 where
  pub steps : owed steps_weight 1 m act + 1 ≤ owed steps_weight 1 m was
  pub started : owed activities_weight 0 m act ≤ owed activities_weight 0 m was
  pub made : owed clocks_weight 0 m act + clocks ≤ owed clocks_weight 0 m was

-- what a step takes off that starts an activity: a step, an activity, and all that the new one owes
pub record IsShared (m : ModuleValue) (was act new : Activity) : Type 0 where
  pub steps : owed steps_weight 1 m act + owed steps_weight 1 m new + 1 ≤ owed steps_weight 1 m was
  pub started : owed activities_weight 0 m act + owed activities_weight 0 m new + 1 ≤ owed activities_weight 0 m was
  pub made : owed clocks_weight 0 m act + owed clocks_weight 0 m new ≤ owed clocks_weight 0 m was

-- the sum of debts after one changes
pub owing_set : (weight : Instr → ℕ) (half : ℕ) (m : ModuleValue) (activities : List Activity) (a : ℕ) (was act : Activity) → slice_get activities a ≡ Some was
    → owing weight half m (set activities a act) + owed weight half m was ≡ owing weight half m activities + owed weight half m act
owing_set weight half m activities a was act found = sum_set (owed weight half m) activities a was act found

-- what an activity of unit u owes, by its status
record IsOf (m : ModuleValue) (u : UnitValue) (act : Activity) (st : Status) : Type 0 where
  found : slice_get m.units act.frame.unit ≡ Some u
  status : act.status ≡ st

debt : (weight : Instr → ℕ) (half : ℕ) (m : ModuleValue) (u : UnitValue) (act : Activity) (st : Status) → IsOf m u act st
    → owed weight half m act ≡ owed_by (with_run weight m) half u act.frame.place act.frame.slots st + owed_below weight m act.callers
debt weight half m u act st is =
    let h = owed_at weight half m act u is.found ∙ ap (owed_by (with_run weight m) half u act.frame.place act.frame.slots) is.status in
    omega arith

-- an instruction that a running activity carries out, and goes on
abbrev pub GoesOn : UnitValue → Instr → Activity → Activity → Type 0
GoesOn u i was act = Goes u i was.frame.place was.frame.slots act.frame.place act.frame.slots

-- a running activity of unit u carries out instruction i, and is `act` afterwards
pub record IsTaken (m : ModuleValue) (u : UnitValue) (i : Instr) (was act : Activity) : Type 0 where
  pub fit : IsFit u
  pub found : slice_get m.units was.frame.unit ≡ Some u
  pub running : was.status ≡ status.Running
  pub here : slice_get u.code was.frame.place ≡ Some i

module _ (m : ModuleValue) (u : UnitValue) (i : Instr) (was act : Activity) (t : IsTaken m u i was act) where
  -- the debts before
  before : (weight : Instr → ℕ) (half : ℕ) → owed weight half m was ≡ due (with_run weight m) u was.frame.place was.frame.slots + owed_below weight m was.callers
  before weight half = debt weight half m u was status.Running (record { found = t.found; status = t.running })

  -- and behind, where it stays in its frame
  pub record Stays : Type 0 where
    pub unit : act.frame.unit ≡ was.frame.unit
    pub callers : act.callers ≡ was.callers

  behind : (weight : Instr → ℕ) (half : ℕ) (st : Status) → Stays → act.status ≡ st
      → owed weight half m act ≡ owed_by (with_run weight m) half u act.frame.place act.frame.slots st + owed_below weight m was.callers
  behind weight half st s e =
      let h = debt weight half m u act st (record { found = ap (slice_get m.units) s.unit ∙ t.found; status = e }) in
      let g : owed_below weight m act.callers ≡ owed_below weight m was.callers = ap (owed_below weight m) s.callers in
      omega arith

  -- the debts fall by all that the instruction weighs
  falls : (weight : Instr → ℕ) (half : ℕ) → Stays → act.status ≡ status.Running → GoesOn u i was act → owed weight half m act + with_run weight m i ≤ owed weight half m was
  falls weight half s e goes =
      let h = due_step u t.fit.loops (with_run weight m) i was.frame.place was.frame.slots act.frame.place act.frame.slots t.here goes in
      omega (arith, before weight half, behind weight half status.Running s e)

  -- an instruction of one step that runs nothing
  pub paid_on : Stays → act.status ≡ status.Running → GoesOn u i was act → steps_weight i ≡ 1 → unit_run i ≡ None → IsPaid m was act (clocks_weight i)
  paid_on s e goes one starts = record {
    steps = omega (arith, falls steps_weight 1 s e goes, alone steps_weight m i starts);
    started = omega (arith, falls activities_weight 0 s e goes);
    made = omega (arith, falls clocks_weight 0 s e goes, alone clocks_weight m i starts);
  }

  -- a start, of an activity that owes all that its unit weighs
  pub paid_start : (new : Activity) (unit : ℕ) → Stays → act.status ≡ status.Running → GoesOn u i was act → steps_weight i ≡ 1 → activities_weight i ≡ 1 → unit_run i ≡ Some unit
      → ((weight : Instr → ℕ) (half : ℕ) → owed weight half m new ≡ total weight m unit) → IsShared m was act new
  paid_start new unit s e goes one starts is owes = record {
    steps = omega (arith, falls steps_weight 1 s e goes, owes steps_weight 1, all steps_weight);
    started = omega (arith, falls activities_weight 0 s e goes, owes activities_weight 0, all activities_weight);
    made = omega (arith, falls clocks_weight 0 s e goes, owes clocks_weight 0, all clocks_weight);
  }
    where
      all : (weight : Instr → ℕ) → with_run weight m i ≡ weight i + total weight m unit
      all weight = ap (λ o. weight i + option_map_or (total weight m) o 0) is

  -- the first half of an `advance`
  pub paid_arrive : Stays → act.status ≡ status.Arrived → act.frame.place ≡ was.frame.place → act.frame.slots ≡ was.frame.slots → i ≡ instr.Advance → IsPaid m was act 0
  paid_arrive s e at slots is = record {
    steps = omega (arith, half_falls steps_weight 1, ap steps_weight is);
    started = omega (arith, half_falls activities_weight 0);
    made = omega (arith, half_falls clocks_weight 0);
  }
    where
      goes : Goes u i was.frame.place was.frame.slots (was.frame.place + 1) was.frame.slots
      goes = subst (λ x. Goes u x was.frame.place was.frame.slots (was.frame.place + 1) was.frame.slots) (sym is) (refl, λ s differs. refl)

      half_falls : (weight : Instr → ℕ) (half : ℕ) → owed weight half m act + weight i ≤ owed weight half m was + half
      half_falls weight half =
          let h = due_step u t.fit.loops (with_run weight m) i was.frame.place was.frame.slots (was.frame.place + 1) was.frame.slots t.here goes in
          let same : due (with_run weight m) u (act.frame.place + 1) act.frame.slots ≡ due (with_run weight m) u (was.frame.place + 1) was.frame.slots =
          ap (λ n. due (with_run weight m) u (n + 1) act.frame.slots) at ∙ ap (due (with_run weight m) u (was.frame.place + 1)) slots in
          omega (arith, before weight half, behind weight half status.Arrived s e)

  -- the end
  pub paid_end : Stays → act.status ≡ status.Ended → steps_weight i ≡ 1 → IsPaid m was act 0
  paid_end s e one = record {
    steps = (let h = due_end u (with_run steps_weight m) i was.frame.place was.frame.slots t.here in omega (arith, before steps_weight 1, behind steps_weight 1 status.Ended s e));
    started = omega (arith, before activities_weight 0, behind activities_weight 0 status.Ended s e);
    made = omega (arith, before clocks_weight 0, behind clocks_weight 0 status.Ended s e);
  }

  -- a `call`: the frame waits, and the one of the unit that is called owes all that it weighs
  pub paid_call : (unit : ℕ) → HasShape m → (v : UnitValue) → slice_get m.units act.frame.unit ≡ Some v → act.frame.unit ≡ unit → act.status ≡ status.Running → act.frame.place ≡ 0
      → act.callers ≡ was.frame ∷ was.callers → steps_weight i ≡ 1 → clocks_weight i ≡ 0 → unit_run i ≡ Some unit
      → Goes u i was.frame.place was.frame.slots (was.frame.place + 1) was.frame.slots → IsPaid m was act 0
  paid_call unit shape v found same e first under one zero' is goes = record {
    steps = omega (arith, all steps_weight 1);
    started = omega (arith, all activities_weight 0);
    made = omega (arith, all clocks_weight 0);
  }
    where
      all : (weight : Instr → ℕ) (half : ℕ) → owed weight half m act + weight i ≤ owed weight half m was
      all weight half =
          let h = due_step u t.fit.loops (with_run weight m) i was.frame.place was.frame.slots (was.frame.place + 1) was.frame.slots t.here goes in
          let w : with_run weight m i ≡ weight i + total weight m unit = ap (λ o. weight i + option_map_or (total weight m) o 0) is in
          let b = begun weight half m shape act v found e first in
          let r : total weight m act.frame.unit ≡ total weight m unit = ap (total weight m) same in
          let c : owed_below weight m act.callers ≡ owed_behind weight m was.frame + owed_below weight m was.callers =
          ap (owed_below weight m) under ∙ sum_by-cons (owed_behind weight m) was.frame was.callers in
          let f = behind_at weight m was.frame u t.found in
          omega (arith, before weight half)

  -- a `ret` of a method: the last frame that waited goes on
  pub paid_back : (f : Frame) (fs : List Frame) (v : UnitValue) → slice_get m.units f.unit ≡ Some v → was.callers ≡ f ∷ fs → act ≡ back_in was f fs
      → steps_weight i ≡ 1 → IsPaid m was act 0
  paid_back f fs v found under is one = record {
    steps = (let h = due_end u (with_run steps_weight m) i was.frame.place was.frame.slots t.here in omega (arith, all steps_weight 1));
    started = omega (arith, all activities_weight 0);
    made = omega (arith, all clocks_weight 0);
  }
    where
      all : (weight : Instr → ℕ) (half : ℕ) → owed weight half m act + due (with_run weight m) u was.frame.place was.frame.slots ≡ owed weight half m was
      all weight half =
          let a : owed weight half m act ≡ owed weight half m (back_in was f fs) = ap (owed weight half m) is in
          let d = debt weight half m v (back_in was f fs) status.Running (record { found = found; status = t.running }) in
          let g = behind_at weight m f v found in
          let c : owed_below weight m was.callers ≡ owed_behind weight m f + owed_below weight m fs = ap (owed_below weight m) under ∙ sum_by-cons (owed_behind weight m) f fs in
          omega (arith, before weight half)

-- the second half of an `advance`
pub paid_pass : (m : ModuleValue) (was act : Activity) (u : UnitValue) → slice_get m.units was.frame.unit ≡ Some u → act.frame.unit ≡ was.frame.unit
    → was.status ≡ status.Arrived → act.status ≡ status.Running → act.frame.place ≡ was.frame.place + 1 → act.frame.slots ≡ was.frame.slots
    → act.callers ≡ was.callers → IsPaid m was act 0
paid_pass m was act u found same e f at slots callers = record {
  steps = omega (arith, before steps_weight 1, behind steps_weight 1);
  started = omega (arith, before activities_weight 0, behind activities_weight 0);
  made = omega (arith, before clocks_weight 0, behind clocks_weight 0);
}
  where
    before : (weight : Instr → ℕ) (half : ℕ) → owed weight half m was ≡ half + due (with_run weight m) u (was.frame.place + 1) was.frame.slots + owed_below weight m was.callers
    before weight half = debt weight half m u was status.Arrived (record { found = found; status = e })

    behind : (weight : Instr → ℕ) (half : ℕ) → owed weight half m act ≡ due (with_run weight m) u (was.frame.place + 1) was.frame.slots + owed_below weight m was.callers
    behind weight half =
        let d = debt weight half m u act status.Running (record { found = ap (slice_get m.units) same ∙ found; status = f }) in
        let p : due (with_run weight m) u act.frame.place act.frame.slots ≡ due (with_run weight m) u (was.frame.place + 1) was.frame.slots =
        ap (λ n. due (with_run weight m) u n act.frame.slots) at ∙ ap (due (with_run weight m) u (was.frame.place + 1)) slots in
        let c : owed_below weight m act.callers ≡ owed_below weight m was.callers = ap (owed_below weight m) callers in
        omega arith
