-- No step of a sound world is wrong, and each leads to a sound one; who runs is enabled, unless it waits at an `endfinish`.
use Rattle.std.proofs.Common.{◌≡◌, ℕ, zero, suc, ◌+◌, ◌<◌, Bool, true, false, cond, not, List, [], ◌∷◌, ◌++◌, length, Some, None, Option, refl, sym, ap, ◌∙◌, subst, arith, ◌⊎◌, inl, inr}
use Rattle.std.specs.Prelude.{slice_get}
use Rattle.std.specs.List.{list_any}
use Rattle.std.proofs.lemmas.Bool.{false≢true, or_parts}
use Rattle.std.proofs.lemmas.Option.{same_Some}
use Rattle.std.proofs.lemmas.List.{length_push}
use Rattle.std.proofs.lemmas.List.Sums.{sum_by-cons}
use Rattle.std.specs.Option.{option_map_or}
use Rattle.xk_types.specs.declared.world.Status.{Status}
use Rattle.xk_types.specs.declared.world.Status.TheVariants as status
use Rattle.xk_types.specs.declared.world.Standing.{Standing}
use Rattle.xk_types.specs.declared.world.Standing.TheVariants as standing
use Rattle.xk_types.specs.declared.world.Event.TheVariants as event
use Rattle.xk_types.specs.Code.{ModuleValue}
use Rattle.xk_types.specs.Blocks.{block_at, depth_at}
use Rattle.xk_types.specs.declared.instr.Instr.{Instr}
use Rattle.xk_types.specs.declared.instr.Instr.TheVariants as instr
use Rattle.xk_types.specs.World.{Activity, Clock, World, standing_of, instruction_at, base_unit}
use Rattle.xk_types.specs.Step.{Outcome, Blocked, Wrong, Stepped, is_signalled, all, passed, past, done, waits, run_at, closing, innermost, awaits, step_by, step_of, step}
use Rattle.xk_types.specs.Schedule.{is_step, is_enabled}
use Rattle.xk_types.specs.Acceptance.{IsAccepted}
use Rattle.xk_law_schedules.proofs.Invariant.{Stands, IsActivitySound, IsSound, stands_on, looks, kind_by}
use Rattle.xk_law_schedules.proofs.ClockLemmas.StandingLemmas.{stands_on_at}
use Rattle.xk_law_schedules.proofs.ShapeLemmas.UnitLemmas.{unit_fits}
use Rattle.xk_law_schedules.proofs.BoundLemmas.MeasureLemmas.{paid_pass}
use Rattle.xk_law_schedules.proofs.SafetyLemmas.PreservationLemmas.{StandsNear, done_sound, next_sound}
use Rattle.xk_law_schedules.proofs.SafetyLemmas.AdvanceEffectLemmas.{going_on}
use Rattle.xk_law_schedules.proofs.SafetyLemmas.OperandLemmas.{Moves}
use Rattle.xk_law_schedules.proofs.SafetyLemmas.InstructionLemmas.{IsFree, standing_at, instruction_found, running_moves}
use Rattle.xk_law_schedules.proofs.ShapeLemmas.BlockLemmas.{block_opened, block_closed, block_end}
use Rattle.xk_law_schedules.proofs.BoundLemmas.TotalLemmas.{nesting_at, room_own}
use Rattle.xk_types.specs.Bound.{room_of}
use Rattle.xk_law_schedules.proofs.ScopeLemmas.Invariant.{opened_in, opened_by, IsScoped}

-- ---- the second half of an `advance`

-- who doesn't wait is signalled nowhere
quiet_on : (clocks : List Clock) (a k : ℕ) → list_any (λ c. is_signalled (standing_of c a)) clocks ≡ false → is_signalled (stands_on clocks a k) ≡ false
quiet_on [] a k h = refl
quiet_on (c ∷ cs) a zero h = (or_parts (is_signalled (standing_of c a)) (list_any (λ d. is_signalled (standing_of d a)) cs) h).0
quiet_on (c ∷ cs) a (suc k) h = quiet_on cs a k (or_parts (is_signalled (standing_of c a)) (list_any (λ d. is_signalled (standing_of d a)) cs) h).1

-- a pass: it opens each clock on which the activity is ahead
passed_near : (st : Status) (since last now : ℕ) (s : Standing) → last < now → is_signalled s ≡ false → Stands st since last s
    → StandsNear status.Running now last now (passed s)
passed_near st since last now standing.Apart before quiet h = (tt, λ g. absurd (false≢true g))
passed_near st since last now standing.Open before quiet h = ((refl, omega arith), λ g. absurd (false≢true g))
passed_near st since last now standing.Signalled before quiet h = absurd (grind arith)
passed_near st since last now standing.Ahead before quiet h = ((refl, omega arith), λ g. absurd (false≢true g))

-- an activity that has arrived and waits for nothing passes
pass_moves : (m : ModuleValue) → IsAccepted m → (w : World) (a : ℕ) (was : Activity) → IsSound m w → slice_get w.activities a ≡ Some was → was.status ≡ status.Arrived
    → waits w a ≡ false → Moves m (done w a (past was (w.steps + 1)) (all passed) event.Passed)
pass_moves m ok w a was sound found waiting free = done_sound m w a was (past was (w.steps + 1)) (all passed) sound found (record {
  next = next_sound m (looks w.clocks a) (λ k. kind_by (passed (stands_on w.clocks a k))) (length w.clocks) (length w.clocks) w.steps (w.steps + 1) was (past was (w.steps + 1)) me
      (going_on m (stands_on w.clocks a) (length w.clocks) w.steps was me (unit_fits m ok.shape was.frame.unit me.u me.unit) waiting (λ k. quiet_on w.clocks a k free));
  apart = λ k. refl;
  stands = λ k c at. passed_near was.status was.since c.last (w.steps + 1) (standing_of c a) (let h = (sound.clocks k c at).last in omega arith)
      (subst (λ s. is_signalled s ≡ false) (stands_on_at w.clocks a k c at) (quiet_on w.clocks a k free)) ((sound.clocks k c at).stands a was found);
  paid = paid_pass m was (past was (w.steps + 1)) me.u me.unit refl waiting refl refl refl refl;
})
  where
    me : IsActivitySound m (looks w.clocks a) (length w.clocks) w.steps was
    me = sound.activities a was found

-- ---- one step

-- what a step comes to isn't wrong, and a world that it leads to is sound
abbrev pub Keeps : ModuleValue → Outcome → Type 0
Keeps m Blocked = Unit {0}
Keeps m (Wrong c) = ⊥
Keeps m (Stepped v e) = IsSound m v

-- a step that is taken is kept
moves_keeps : (m : ModuleValue) (o : Outcome) → Moves m o → Keeps m o
moves_keeps m Blocked h = absurd h
moves_keeps m (Wrong c) h = absurd h
moves_keeps m (Stepped v e) h = h

-- and is a step
pub moves_step : (m : ModuleValue) (o : Outcome) → Moves m o → is_step o ≡ true
moves_step m Blocked h = absurd h
moves_step m (Wrong c) h = absurd h
moves_step m (Stepped v e) h = refl

module _ (m : ModuleValue) (ok : IsAccepted m) (w : World) (sound : IsSound m w) (scoped : IsScoped m w) where
  -- an activity that runs and stands at an `endfinish` has a finish open, more than the frames below have
  pub open_at_end : (a : ℕ) (act : Activity) (found : slice_get w.activities a ≡ Some act) (b : ℕ)
      → slice_get (sound.activities a act found).u.code act.frame.place ≡ Some (instr.EndFinish b)
      → opened_by m act.callers < act.opened
  open_at_end a act found b here =
      let me = sound.activities a act found in
      let depth : opened_in m act.frame ≡ length (block_at me.u (act.frame.place + 1) ++ b ∷ []) =
      ap (λ o. option_map_or (λ u. depth_at u act.frame.place) o 0) me.unit
      ∙ ap length (block_closed me.u (unit_fits m ok.shape act.frame.unit me.u me.unit).finishes b act.frame.place here) in
      omega (arith, (scoped.activities a act found).opened, sum_by-cons (opened_in m) act.frame act.callers, length_push (block_at me.u (act.frame.place + 1)) b)

  -- one that stands at a `finish` has room for one more
  pub room_at_finish : (a : ℕ) (act : Activity) (found : slice_get w.activities a ≡ Some act) (e : ℕ)
      → slice_get (sound.activities a act found).u.code act.frame.place ≡ Some (instr.Finish e)
      → act.opened < room_of m (base_unit act)
  room_at_finish a act found e here =
      let me = sound.activities a act found in
      let fit = unit_fits m ok.shape act.frame.unit me.u me.unit in
      let depth : opened_in m act.frame ≡ depth_at me.u act.frame.place = ap (λ o. option_map_or (λ u. depth_at u act.frame.place) o 0) me.unit in
      let more : depth_at me.u (act.frame.place + 1) ≡ length (block_at me.u act.frame.place ++ act.frame.place ∷ []) = ap length
      (block_opened me.u fit.finishes act.frame.place e here) in
      let s = scoped.activities a act found in
      omega (
        arith,
        s.opened,
        s.rooms.0,
        sum_by-cons (opened_in m) act.frame act.callers,
        length_push (block_at me.u act.frame.place) act.frame.place,
        nesting_at me.u (act.frame.place + 1) (fit.next (instr.Finish e) act.frame.place here refl),
        room_own m ok.shape act.frame.unit me.u me.unit,
      )

  -- one that ends has closed all that it opened
  pub closed_at_end : (a : ℕ) (act : Activity) (found : slice_get w.activities a ≡ Some act)
      → slice_get (sound.activities a act found).u.code act.frame.place ≡ Some instr.Ret → act.callers ≡ [] → act.opened ≡ 0
  closed_at_end a act found here alone =
      let me = sound.activities a act found in
      let fit = unit_fits m ok.shape act.frame.unit me.u me.unit in
      let depth : opened_in m act.frame ≡ 0 =
      ap (λ o. option_map_or (λ u. depth_at u act.frame.place) o 0) me.unit
      ∙ ap length (block_end me.u fit.finishes act.frame.place (fit.last act.frame.place here) instr.Ret here refl) in
      let below : opened_by m act.callers ≡ 0 = ap (opened_by m) alone in
      omega (arith, (scoped.activities a act found).opened, sum_by-cons (opened_in m) act.frame act.callers)

  -- it waits at an `endfinish` for somebody who hasn't ended
  pub record IsAtEnd (a : ℕ) (act : Activity) (found : slice_get w.activities a ≡ Some act) : Type 0 where
    pub b : ℕ
    pub here : slice_get (sound.activities a act found).u.code act.frame.place ≡ Some (instr.EndFinish b)
    pub awaited : awaits w.activities (innermost a act) ≡ true

  -- nothing keeps an activity back that runs, or it waits at an `endfinish`
  pub free_or_end : (a : ℕ) (act : Activity) (found : slice_get w.activities a ≡ Some act) (running : act.status ≡ status.Running) (i : Instr)
      → slice_get (sound.activities a act found).u.code act.frame.place ≡ Some i → IsFree m ok w a act sound found running i ⊎ IsAtEnd a act found
  free_or_end a act found running (instr.EndFinish b) here = cases act.opened refl (awaits w.activities (innermost a act)) refl
    where
      cases : (n : ℕ) → act.opened ≡ n → (x : Bool) → awaits w.activities (innermost a act) ≡ x
          → ((k : ℕ) × (act.opened ≡ suc k) × (awaits w.activities (innermost a act) ≡ false)) ⊎ IsAtEnd a act found
      cases zero e x h = absurd (let r = open_at_end a act found b here in omega arith)
      cases (suc n) e true h = inr (record { b = b; here = here; awaited = h })
      cases (suc n) e false h = inl (n, e, h)
  free_or_end a act found running _ here = inl tt

  -- one that waits there is blocked
  end_blocked : (a : ℕ) (act : Activity) (found : slice_get w.activities a ≡ Some act) (running : act.status ≡ status.Running) → IsAtEnd a act found
      → run_at m w a act (instruction_at m act.frame) ≡ Blocked
  end_blocked a act found running e =
      ap (run_at m w a act) (instruction_found m ok w a act sound found running (instr.EndFinish e.b) e.here) ∙ by act.opened refl
    where
      by : (n : ℕ) → act.opened ≡ n → closing w a act n ≡ Blocked
      by zero q = absurd (let r = open_at_end a act found e.b e.here in omega arith)
      by (suc n) q = rw e.awaited refl

  -- an instruction keeps the activity back: at an `endfinish` somebody under the finish hasn't ended
  abbrev pub is_kept : ℕ → Activity → Instr → Bool
  is_kept a act (instr.EndFinish b) = awaits w.activities (innermost a act)
  is_kept a act _ = false

  -- who runs is enabled, where nothing keeps it back
  pub running_enabled : (a : ℕ) (act : Activity) → slice_get w.activities a ≡ Some act → act.status ≡ status.Running → (i : Instr) → instruction_at m act.frame ≡ Some i
      → is_enabled m w a ≡ not (is_kept a act i)
  running_enabled a act found running i at =
      ap (λ o. is_step (step_of m w a o)) found ∙ ap (λ st. is_step (step_by m w a act st)) running
      ∙ elim (free_or_end a act found running s.0 s.1) [
        | inl free ↦ moves_step m (run_at m w a act (instruction_at m act.frame)) (running_moves m ok w a act sound found running s.0 s.1 free)
            ∙ ap not (unkept s.0 free ∙ ap (is_kept a act) same)
        | inr e ↦ ap is_step (end_blocked a act found running e) ∙ ap not (sym e.awaited ∙ ap (is_kept a act) (same_Some (instr.EndFinish e.b) s.0 (sym e.here ∙ s.1) ∙ same))
      ]
    where
      s : (j : Instr) × (slice_get (sound.activities a act found).u.code act.frame.place ≡ Some j)
      s = standing_at m ok w a act sound found running

      same : s.0 ≡ i
      same = same_Some s.0 i (sym (instruction_found m ok w a act sound found running s.0 s.1) ∙ at)

      unkept : (j : Instr) → IsFree m ok w a act sound found running j → false ≡ is_kept a act j
      unkept (instr.EndFinish b) free = sym free.2
      unkept _ free = refl

  -- no step of a sound world is wrong, and each leads to a sound one
  pub step_keeps : (a : ℕ) → Keeps m (step m w a)
  step_keeps a = of (slice_get w.activities a) refl
    where
      passing_keeps : (act : Activity) → slice_get w.activities a ≡ Some act → act.status ≡ status.Arrived → (b : Bool) → waits w a ≡ b
          → Keeps m (cond b Blocked (done w a (past act (w.steps + 1)) (all passed) event.Passed))
      passing_keeps act found waiting true e = tt
      passing_keeps act found waiting false e = moves_keeps m (done w a (past act (w.steps + 1)) (all passed) event.Passed) (pass_moves m ok w a act sound found waiting e)

      running_keeps : (act : Activity) → slice_get w.activities a ≡ Some act → act.status ≡ status.Running → Keeps m (run_at m w a act (instruction_at m act.frame))
      running_keeps act found running =
          let i = standing_at m ok w a act sound found running in
          elim (free_or_end a act found running i.0 i.1) [
            | inl free ↦ moves_keeps m (run_at m w a act (instruction_at m act.frame)) (running_moves m ok w a act sound found running i.0 i.1 free)
            | inr e ↦ subst (Keeps m) (sym (end_blocked a act found running e)) tt
          ]

      by : (act : Activity) → slice_get w.activities a ≡ Some act → (st : Status) → act.status ≡ st → Keeps m (step_by m w a act st)
      by act found status.Running e = running_keeps act found e
      by act found status.Arrived e = passing_keeps act found e (waits w a) refl
      by act found status.Ended e = tt

      of : (o : Option Activity) → slice_get w.activities a ≡ o → Keeps m (step_of m w a o)
      of None e = tt
      of (Some act) e = by act e act.status refl
