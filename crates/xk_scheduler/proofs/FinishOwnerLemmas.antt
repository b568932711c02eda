-- Who owns the finish that governs an activity that hasn't ended, hasn't ended.
use Rattle.std.proofs.Common.{◌≡◌, ℕ, ℤ, zero, suc, ◌+◌, ◌<◌, ◌≤◌, true, false, List, [], ◌∷◌, ◌++◌, length, Some, inl, inr, refl, sym, ap, ◌∙◌, subst, arith, slice_get, slice_set, option_and_then}
use Rattle.std.proofs.lemmas.Bool.{false≢true}
use Rattle.std.proofs.lemmas.Option.{none-some, same_Some}
use Rattle.xk_types.specs.declared.instr.Instr.TheVariants as instr
use Rattle.xk_types.specs.Code.{ModuleValue}
use Rattle.xk_types.specs.World.{Finish, Activity, World, instruction_at, is_ended, opening}
use Rattle.xk_types.specs.Step.{Outcome, Blocked, Wrong, Stepped, step, onward, left, ended, arrived, child, governing, innermost, awaits}
use Rattle.xk_types.specs.Schedule.{Through, run}
use Rattle.xk_law_schedules.proofs.Invariant.{IsActivitySound, IsSound, looks}
use Rattle.xk_types.proofs.ListLemmas.{each_set, each_push, get-set_same, get-set_other, get_once, get-append_left}
use Rattle.xk_law_schedules.proofs.StepFormLemmas.{GoesOn, step_kind}
use Rattle.xk_law_schedules.proofs.ReachabilityLemmas.{same_through, first_step, opening_reached, reached_sound, reached_scoped}
use Rattle.xk_law_schedules.proofs.SafetyLemmas.StepLemmas.{closed_at_end}
use Rattle.xk_law_schedules.proofs.ScopeLemmas.Invariant.{IsScoped, finish_at, governing_at}
use Rattle.xk_law_schedules.proofs.ScopeLemmas.FinishOwnerLemmas.{AreOwned, under_governed}
use Rattle.xk_law_commute.proofs.AwaitIndependenceLemmas.{same_or_not, awaits_given, HasOpen, IsOpen, AreOpen}
use Rattle.xk_core.specs.Core.{IsCore}
use Rattle.xk_core.proofs.CoreLemmas.{core_stepped}

-- what a step comes to
abbrev Opens : Outcome → Type 0
Opens Blocked = Unit {0}
Opens (Wrong c) = Unit {0}
Opens (Stepped v e) = AreOpen v.activities

-- ---- one activity changes

-- it still has each finish open that governs somebody who hasn't ended
abbrev Keeps : List Activity → ℕ → Activity → Activity → Type 0
Keeps acts a act next = (b : ℕ) (x : Activity) → slice_get acts b ≡ Some x → is_ended x.status ≡ false → x.governed.owner ≡ Some a → 0 < x.governed.depth
    → x.governed.depth ≤ act.opened
    → (is_ended next.status ≡ false) × (x.governed.depth ≤ next.opened)

module _ (acts : List Activity) (a : ℕ) (act next : Activity) (found : slice_get acts a ≡ Some act) where
  -- so the finishes that govern stay open
  open_after : Keeps acts a act next → AreOpen acts → (b : ℕ) (x : Activity) → slice_get acts b ≡ Some x → IsOpen (slice_set acts a next) x
  open_after keeps each b x at alive o own = by (each b x at alive o own)
    where
      by : HasOpen acts o x.governed.depth → HasOpen (slice_set acts a next) o x.governed.depth
      by h = elim (same_or_not o a) [
        | inl same ↦
            (let is : h.x ≡ act = get_once acts a h.x act (subst (λ n. slice_get acts n ≡ Some h.x) same h.found) found in
            let k = keeps b x at alive (own ∙ ap (λ n. Some n) same) h.some (subst (λ (z : Activity). x.governed.depth ≤ z.opened) is h.within) in
            record { x = next; found = ap (slice_get (slice_set acts a next)) same ∙ get-set_same acts a act next found; alive = k.0; some = h.some; within = k.1 })
        | inr differs ↦ record { x = h.x; found = get-set_other acts a o next differs ∙ h.found; alive = h.alive; some = h.some; within = h.within }
      ]

  -- and those of the activity itself, which the same finish governs
  open_set : is_ended act.status ≡ false → next.governed ≡ act.governed → Keeps acts a act next → AreOpen acts → AreOpen (slice_set acts a next)
  open_set alive governed keeps each = each_set (λ b x. IsOpen (slice_set acts a next) x) acts a act next found
      (λ going. subst (λ (g : Finish). (o : ℕ) → g.owner ≡ Some o → HasOpen (slice_set acts a next) o g.depth) (sym governed) (open_after keeps each a act found alive))
      (λ b x differs at. open_after keeps each b x at)

  -- where it goes on
  open_on : is_ended act.status ≡ false → GoesOn act next → AreOpen acts → AreOpen (slice_set acts a next)
  open_on alive on each = open_set alive on.governed (λ b x at going own some within. (ap is_ended on.runs, omega (arith, on.opened, within))) each

-- one activity more, governed by a finish that its owner has open
open_push : (acts : List Activity) (x : Activity) → AreOpen acts → IsOpen acts x → AreOpen (acts ++ x ∷ [])
open_push acts x each here = each_push (λ b y. IsOpen (acts ++ x ∷ []) y) acts x (λ b y at. more y (each b y at)) (more x here)
  where
    more : (y : Activity) → IsOpen acts y → IsOpen (acts ++ x ∷ []) y
    more y h alive o own =
        let g = h alive o own in
        record { x = g.x; found = get-append_left acts (x ∷ []) o g.x g.found; alive = g.alive; some = g.some; within = g.within }

-- what activity a starts is so
child_open : (m : ModuleValue) (acts : List Activity) (a : ℕ) (act next : Activity) → slice_get acts a ≡ Some next → is_ended next.status ≡ false → next.governed ≡ act.governed
    → next.opened ≡ act.opened → AreOpen acts → (o : ℕ) → (governing a act).owner ≡ Some o → HasOpen acts o (governing a act).depth
child_open m acts a act next found alive governed opened each =
    subst (λ (g : Finish). (o : ℕ) → g.owner ≡ Some o → HasOpen acts o g.depth) (sym (governing_at a act)) (by act.opened refl)
  where
    by : (n : ℕ) → act.opened ≡ n → (o : ℕ) → (finish_at a act.governed n).owner ≡ Some o → HasOpen acts o (finish_at a act.governed n).depth
    by zero e o own = subst (λ (g : Finish). (o : ℕ) → g.owner ≡ Some o → HasOpen acts o g.depth) governed (each a next found alive) o own
    by (suc n) e o own = subst (λ z. HasOpen acts z (suc n)) (same_Some a o own)
        (record { x = next; found = found; alive = alive; some = omega arith; within = omega (arith, e, opened) })

-- ---- a step

-- the owner of the finish that governs an activity of a core has a smaller number
pub core_owned : (m : ModuleValue) (w : World) → IsCore m w → AreOwned w.activities
core_owned m w core b act found o e = ((reached_scoped m core.limits core.accepted w core.reached).activities b act found).owner o e

module _ (m : ModuleValue) (w : World) (core : IsCore m w) (each : AreOpen w.activities) where
  sound : IsSound m w
  sound = reached_sound m core.limits core.accepted w core.reached

  scoped : IsScoped m w
  scoped = reached_scoped m core.limits core.accepted w core.reached

  -- a finish that awaits nobody governs nobody who hasn't ended
  left_keeps : (a : ℕ) (act : Activity) (n : ℕ) → act.opened ≡ suc n → awaits w.activities (innermost a act) ≡ false → is_ended act.status ≡ false
      → Keeps w.activities a act (left act n)
  left_keeps a act n opened nobody alive b x at going own some within = (
    alive,
    elim (same_or_not x.governed.depth act.opened) [
      | inl same ↦
          (let is : x.governed ≡ innermost a act = ap (λ o. record { owner = o; depth = x.governed.depth }) own ∙ ap (λ d. record { owner = Some a; depth = d }) same in
          let under = under_governed w.activities (core_owned m w core) (innermost a act) b x at is in
          absurd (false≢true (sym nobody ∙ awaits_given w.activities (innermost a act) (record { b = b; act = x; found = at; under = under; alive = going }))))
      | inr differs ↦ omega (arith, opened, within, differs)
    ],
  )

  -- one that ends has no finish open
  ended_keeps : (a : ℕ) (act : Activity) → slice_get w.activities a ≡ Some act → instruction_at m act.frame ≡ Some instr.Ret → act.callers ≡ []
      → Keeps w.activities a act (ended act)
  ended_keeps a act found here alone b x at going own some within =
      let me : IsActivitySound m (looks w.clocks a) (length w.clocks) w.steps act = sound.activities a act found in
      let at_ret = sym (ap (option_and_then (λ unit. slice_get unit.code act.frame.place)) me.unit) ∙ here in
      let none = closed_at_end m core.accepted w sound scoped a act found at_ret alone in
      absurd (omega (arith, none, some, within))

  -- each step keeps it so
  step_open : (a : ℕ) → Opens (step m w a)
  step_open a = step_kind Opens m w a tt (λ c. tt) (λ act found alive. record {
    closed = λ n opened nobody runs. open_set w.activities a act (left act n) found alive refl (left_keeps a act n opened nobody alive) each;
    over = λ here alone. open_set w.activities a act (ended act) found alive refl (ended_keeps a act found here alone) each;
    arrives = open_set w.activities a act (arrived act) found alive refl (λ b x at going own some within. (refl, within)) each;
    done = λ next change e on quiet rests. open_on w.activities a act next found alive on each;
    made = λ next on. open_on w.activities a act next found alive on each;
    stored = λ s n e on quiet. open_on w.activities a act (onward act) found alive on each;
    spawned = λ t args values at on.
        (let more = open_on w.activities a act (onward act) found alive on each in
        open_push (slice_set w.activities a (onward act)) (child m a act t values) more
        (λ going. child_open m (slice_set w.activities a (onward act)) a act (onward act) (get-set_same w.activities a act (onward act) found) alive refl refl more));
  })

-- and each run
run_open : (m : ModuleValue) (list : List ℕ) (w v : World) → IsCore m w → AreOpen w.activities → run m list w ≡ Through v → AreOpen v.activities
run_open m [] w v core each h = subst (λ (z : World). AreOpen z.activities) (same_through w v h) each
run_open m (b ∷ list) w v core each h =
    let f = first_step w v (step m w b) (run m list) h in
    run_open m list f.0 v (core_stepped m w f.0 b f.1 core f.2) (subst Opens f.2 (step_open m w core each b)) f.3

-- in the opening world nobody is governed by a finish that somebody owns
opening_open : (m : ModuleValue) (args : List ℤ) → AreOpen (opening m args).activities
opening_open m args zero act found alive o own = absurd (none-some o (ap (λ (x : Activity). x.governed.owner) (same_Some _ act found) ∙ own))
opening_open m args (suc b) act found alive o own = absurd (none-some act found)

-- the finish that governs an activity of a core that hasn't ended is open, and its owner hasn't ended
pub core_open : (m : ModuleValue) (w : World) → IsCore m w → AreOpen w.activities
core_open m w core = run_open m core.reached.0 (opening m w.arguments) w
    (record { limits = core.limits; accepted = core.accepted; reached = opening_reached m w.arguments core.reached.1.0 }) (opening_open m w.arguments) core.reached.1.1
