-- A step of one activity leaves each other as able to step as it was, but for the one that it starts, those on a clock that advances, and,
-- where it ends its activity, the owner of the finish that governs that one.
use Rattle.std.proofs.Common.{◌≡◌, ℕ, zero, suc, ◌+◌, ◌<◌, ◌≤◌, ◌&&◌, not, Bool, true, false, true≢false, cond, List, [], ◌∷◌, ◌++◌, length, Option, Some, None, refl, sym, ap, ◌∙◌, subst, arith, slice_get, slice_set, option_and_then, length-set}
use Rattle.std.specs.Option.{option_map_or}
use Rattle.std.proofs.lemmas.List.{length_push}
use Rattle.std.proofs.lemmas.Option.{none-some, same_Some, slice_get_within}
use Rattle.xk_types.specs.declared.instr.Instr.{Instr}
use Rattle.xk_types.specs.declared.instr.Instr.TheVariants as instr
use Rattle.xk_types.specs.declared.world.Status.{Status}
use Rattle.xk_types.specs.declared.world.Status.TheVariants as status
use Rattle.xk_types.specs.declared.world.Value.{Value}
use Rattle.xk_types.specs.declared.world.Event.{Event}
use Rattle.xk_types.specs.declared.world.Event.TheVariants as event
use Rattle.xk_types.specs.Code.{ModuleValue}
use Rattle.xk_types.specs.World.{Finish, Activity, World, is_ended}
use Rattle.xk_types.specs.Step.{Outcome, Blocked, Wrong, Stepped, step, onward, left, ended, arrived, child, innermost, awaits, waits}
use Rattle.xk_types.specs.Schedule.{is_enabled}
use Rattle.xk_types.proofs.ListLemmas.{get-set_same, get-set_other, get-push_other, get-append_left}
use Rattle.xk_law_schedules.proofs.StepFormLemmas.{GoesOn, starts_or_arrives, step_kind}
use Rattle.xk_law_schedules.proofs.ScopeLemmas.Invariant.{governing_at}
use Rattle.xk_law_schedules.proofs.ScopeLemmas.FinishOwnerLemmas.{AreOwned}
use Rattle.xk_core.specs.Enabledness.{able_by, able_of, kept_by}
use Rattle.xk_core.specs.Core.{IsCore, is_quiet, governor, instruction_of}
use Rattle.xk_core.proofs.CoreLemmas.{core_able, core_stepped}
use Rattle.xk_core.specs.Core.{is_arrived, is_waiting}
use Rattle.xk_scheduler.proofs.BlockingClockLemmas.{waits_same}
use Rattle.xk_scheduler.proofs.FinishOwnerLemmas.{core_owned, core_open}
use Rattle.xk_law_commute.proofs.AwaitIndependenceLemmas.{owned_set, awaits_on, awaits_end, awaits_push}

-- ---- who is enabled

-- One that is the same in two worlds, and waits in both or in neither for clocks, if it does at all, and for those under its finish, is enabled
-- in both or in neither.
pub same_enabled : (m : ModuleValue) (w v : World) (b : ℕ) → IsCore m w → IsCore m v → slice_get v.activities b ≡ slice_get w.activities b
    → (is_waiting w b ≡ true → waits v b ≡ waits w b)
    → ((x : Activity) → slice_get w.activities b ≡ Some x → awaits v.activities (innermost b x) ≡ awaits w.activities (innermost b x)) → is_enabled m v b ≡ is_enabled m w b
same_enabled m w v b core later same waiting awaiting =
    sym (core_able m v b later) ∙ ap (λ o. able_of v b o && not (kept_by v b o (instruction_of m o))) same ∙ of (slice_get w.activities b) refl ∙ core_able m w b core
  where
    able : (s : Status) → (is_arrived s ≡ true → waits v b ≡ waits w b) → able_by v b s ≡ able_by w b s
    able status.Running h = refl
    able status.Arrived h = ap not (h refl)
    able status.Ended h = refl

    kept : (x : Activity) → slice_get w.activities b ≡ Some x → (i : Option Instr) → kept_by v b (Some x) i ≡ kept_by w b (Some x) i
    kept x found (Some (instr.EndFinish e)) = awaiting x found
    kept x found None = refl
    kept x found (Some _) = refl

    of : (o : Option Activity) → slice_get w.activities b ≡ o
        → (able_of v b o && not (kept_by v b o (instruction_of m o))) ≡ (able_of w b o && not (kept_by w b o (instruction_of m o)))
    of None found = refl
    of (Some x) found =
        ap (λ p. p && not (kept_by v b (Some x) (instruction_of m (Some x)))) (able x.status (λ h. waiting (ap (λ (o : Option Activity). option_map_or (λ (y : Activity). is_arrived y.status) o false) found ∙ h)))
        ∙ ap (λ p. able_by w b x.status && not p) (kept x found (instruction_of m (Some x)))

-- ---- a step

-- what a step comes to, seen by another activity
abbrev Leaves : ModuleValue → World → ℕ → ℕ → Outcome → Type 0
Leaves m w a b Blocked = Unit {0}
Leaves m w a b (Wrong c) = Unit {0}
Leaves m w a b (Stepped v e) = IsCore m v → (is_waiting w b ≡ true → waits v b ≡ waits w b) → (e ≡ event.Ended → governor w a ≡ Some b → ⊥) → is_enabled m v b ≡ is_enabled m w b

module _ (m : ModuleValue) (w : World) (a b : ℕ) (core : IsCore m w) (inside : b < length w.activities) (differs : b ≡ a → ⊥) where
  -- one activity changes
  leaves_moved : (next : Activity) (v : World) → v.activities ≡ slice_set w.activities a next → IsCore m v → (is_waiting w b ≡ true → waits v b ≡ waits w b)
      → ((x : Activity) → awaits (slice_set w.activities a next) (innermost b x) ≡ awaits w.activities (innermost b x)) → is_enabled m v b ≡ is_enabled m w b
  leaves_moved next v acts later waiting awaiting =
      same_enabled m w v b core later (ap (λ l. slice_get l b) acts ∙ get-set_other w.activities a b next differs) waiting (λ x found. ap (λ l. awaits l (innermost b x)) acts ∙ awaiting x)

  -- it goes on
  on_awaits : (act next : Activity) → slice_get w.activities a ≡ Some act → is_ended act.status ≡ false → GoesOn act next → (x : Activity)
      → awaits (slice_set w.activities a next) (innermost b x) ≡ awaits w.activities (innermost b x)
  on_awaits act next found alive on x = awaits_on w.activities (core_owned m w core) a act next found on.governed (innermost b x) alive (ap is_ended on.runs)

  -- it ends
  end_awaits : (act : Activity) → slice_get w.activities a ≡ Some act → is_ended act.status ≡ false → (governor w a ≡ Some b → ⊥) → (x : Activity)
      → awaits (slice_set w.activities a (ended act)) (innermost b x) ≡ awaits w.activities (innermost b x)
  end_awaits act found alive another x = awaits_end w.activities (core_owned m w core) a act (ended act) found refl (innermost b x) alive (core_open m w core)
      (λ same. another (ap (option_and_then (λ (z : Activity). z.governed.owner)) found ∙ ap (λ (g : Finish). g.owner) same))

  -- it starts another
  start_awaits : (act : Activity) (t : ℕ) (values : List Value) (v : World) → slice_get w.activities a ≡ Some act → is_ended act.status ≡ false
      → v.activities ≡ slice_set w.activities a (onward act) ++ child m a act t values ∷ [] → IsCore m v → (x : Activity)
      → awaits v.activities (innermost b x) ≡ awaits w.activities (innermost b x)
  start_awaits act t values v found alive acts later x =
      ap (λ l. awaits l (innermost b x)) acts
      ∙ awaits_push (slice_set w.activities a (onward act)) (owned_set w.activities (core_owned m w core) a act (onward act) found refl (innermost b x)) a (onward act)
      (get-set_same w.activities a act (onward act) found) alive (child m a act t values) (governing_at a act) (subst (λ l. AreOwned l) acts (core_owned m v later)) (innermost b x)
      (λ e. differs (same_Some b a e))
      ∙ awaits_on w.activities (core_owned m w core) a act (onward act) found refl (innermost b x) alive alive

  step_leaves : Leaves m w a b (step m w a)
  step_leaves = step_kind (Leaves m w a b) m w a tt (λ c. tt) (λ act found alive. record {
    closed = λ n opened nobody runs later waiting another. leaves_moved (left act n) _ refl later waiting
        (λ x. awaits_on w.activities (core_owned m w core) a act (left act n) found refl (innermost b x) alive alive);
    over = λ here alone later waiting another. leaves_moved (ended act) _ refl later waiting (end_awaits act found alive (another refl));
    arrives = λ later waiting another. leaves_moved (arrived act) _ refl later waiting
        (λ x. awaits_on w.activities (core_owned m w core) a act (arrived act) found refl (innermost b x) alive refl);
    done = λ next change e on start rests later waiting another. leaves_moved next _ refl later waiting (on_awaits act next found alive on);
    made = λ next on later waiting another. leaves_moved next _ refl later waiting (on_awaits act next found alive on);
    stored = λ s n e on start later waiting another. leaves_moved (onward act) _ refl later waiting (on_awaits act (onward act) found alive on);
    spawned = λ t args values at on later waiting another. same_enabled m w _ b core later
        (get-push_other (slice_set w.activities a (onward act)) (child m a act t values) b
        (λ e. absurd (omega (arith, inside, length-set w.activities a (onward act)))) ∙ get-set_other w.activities a b (onward act) differs)
        waiting (λ x there. start_awaits act t values _ found alive refl later x);
  })

-- a step leaves another as able to step as it was, if clocks hold it back as before where it waits at an `advance`
pub untouched_by : (m : ModuleValue) (w v : World) (a : ℕ) (e : Event) → IsCore m w → step m w a ≡ Stepped v e → (b : ℕ) → (is_waiting w b ≡ true → waits v b ≡ waits w b)
    → b < length w.activities → (b ≡ a → ⊥) → (e ≡ event.Ended → governor w a ≡ Some b → ⊥) → is_enabled m v b ≡ is_enabled m w b
untouched_by m w v a e core h b waiting inside differs another =
    subst (Leaves m w a b) h (step_leaves m w a b core inside differs) (core_stepped m w v a e core h) waiting another

-- as they do where no clock advances
pub untouched : (m : ModuleValue) (w v : World) (a : ℕ) (e : Event) → IsCore m w → step m w a ≡ Stepped v e → (b : ℕ) → (is_waiting w b ≡ true → is_quiet v ≡ true) → b < length w.activities → (b ≡ a → ⊥)
    → (e ≡ event.Ended → governor w a ≡ Some b → ⊥) → is_enabled m v b ≡ is_enabled m w b
untouched m w v a e core h b quiet inside differs another =
    untouched_by m w v a e core h b (λ waiting. waits_same m w v a e core h b inside differs (quiet waiting)) inside differs another

-- ---- who is there

-- an activity is started
abbrev is_start : Event → Bool
is_start event.Spawned = true
is_start _ = false

-- how many activities a step of this event starts
abbrev started : Event → ℕ
started e = cond (is_start e) 1 0

-- What a step says of who takes it, and of how many there are: that one is there, is governed as before, waits at an `advance` exactly if it has
-- just arrived, and there is one more if it was started, which doesn't wait; others are as they were.
record IsTaken (w v : World) (a : ℕ) (e : Event) : Type 0 where
  within : a < length w.activities
  width : length v.activities ≡ length w.activities + started e
  governor : governor v a ≡ governor w a
  awake : (e ≡ event.Arrived → ⊥) → is_waiting v a ≡ false
  arrived : e ≡ event.Arrived → is_waiting v a ≡ true
  fresh : is_waiting v (length w.activities) ≡ false
  others : (b : ℕ) → (b ≡ a → ⊥) → b < length w.activities → is_waiting v b ≡ is_waiting w b

abbrev Takes : World → ℕ → Outcome → Type 0
Takes w a Blocked = Unit {0}
Takes w a (Wrong c) = Unit {0}
Takes w a (Stepped v e) = IsTaken w v a e

abbrev waits_as : Option Activity → Bool
waits_as o = option_map_or (λ (y : Activity). is_arrived y.status) o false

slice_get-beyond : (xs : List Activity) (k : ℕ) → length xs ≤ k → slice_get xs k ≡ None
slice_get-beyond [] k le = refl
slice_get-beyond (x ∷ xs) zero le = absurd (omega arith)
slice_get-beyond (x ∷ xs) (suc k) le = slice_get-beyond xs k (omega arith)

get-push_last : (xs : List Activity) (x : Activity) (k : ℕ) → k ≡ length xs → slice_get (xs ++ x ∷ []) k ≡ Some x
get-push_last [] x zero e = refl
get-push_last [] x (suc k) e = absurd (omega arith)
get-push_last (y ∷ xs) x zero e = absurd (omega arith)
get-push_last (y ∷ xs) x (suc k) e = get-push_last xs x k (omega arith)

-- one activity changes
taken_set : (w v : World) (a : ℕ) (act next : Activity) (e : Event) → slice_get w.activities a ≡ Some act
    → v.activities ≡ slice_set w.activities a next → next.governed ≡ act.governed → is_start e ≡ false
    → ((e ≡ event.Arrived → ⊥) → is_arrived next.status ≡ false) → (e ≡ event.Arrived → is_arrived next.status ≡ true)
    → IsTaken w v a e
taken_set w v a act next e found acts governed start awake arrived = record {
  within = slice_get_within w.activities a act found;
  width = (let nobody : started e ≡ 0 = ap (λ s. cond s 1 0) start in omega (arith, nobody, ap length acts, length-set w.activities a next));
  governor = ap (λ l. option_and_then (λ (x : Activity). x.governed.owner) (slice_get l a)) acts
      ∙ ap (option_and_then (λ (x : Activity). x.governed.owner)) (get-set_same w.activities a act next found)
      ∙ ap (λ (g : Finish). g.owner) governed ∙ sym (ap (option_and_then (λ (x : Activity). x.governed.owner)) found);
  awake = λ h. ap waits_as (ap (λ l. slice_get l a) acts ∙ get-set_same w.activities a act next found) ∙ awake h;
  arrived = λ h. ap waits_as (ap (λ l. slice_get l a) acts ∙ get-set_same w.activities a act next found) ∙ arrived h;
  fresh = ap (λ l. waits_as (slice_get l (length w.activities))) acts
      ∙ ap waits_as (slice_get-beyond (slice_set w.activities a next) (length w.activities) (omega (arith, length-set w.activities a next)));
  others = λ b differs inside. ap (λ l. waits_as (slice_get l b)) acts ∙ ap waits_as (get-set_other w.activities a b next differs);
}

started_not_arrived : event.Spawned ≡ event.Arrived → ⊥
started_not_arrived h = cc

-- what neither starts an activity nor has one wait
no_start : (e : Event) → starts_or_arrives e ≡ false → is_start e ≡ false
no_start event.Spawned h = absurd (true≢false h)
no_start _ h = refl

no_arrival : (e : Event) → starts_or_arrives e ≡ false → e ≡ event.Arrived → ⊥
no_arrival e h is = true≢false (sym (ap starts_or_arrives is) ∙ h)

-- and one is started
taken_push : (w v : World) (a : ℕ) (act next x : Activity) → slice_get w.activities a ≡ Some act → v.activities ≡ slice_set w.activities a next ++ x ∷ []
    → next.governed ≡ act.governed → is_arrived next.status ≡ false → is_arrived x.status ≡ false
    → IsTaken w v a event.Spawned
taken_push w v a act next x found acts governed awake awake_child = record {
  within = slice_get_within w.activities a act found;
  width = omega (arith, ap length acts, length_push (slice_set w.activities a next) x, length-set w.activities a next);
  governor = ap (λ l. option_and_then (λ (y : Activity). y.governed.owner) (slice_get l a)) acts
      ∙ ap (option_and_then (λ (y : Activity). y.governed.owner)) (get-append_left (slice_set w.activities a next) (x ∷ []) a next (get-set_same w.activities a act next found))
      ∙ ap (λ (g : Finish). g.owner) governed ∙ sym (ap (option_and_then (λ (y : Activity). y.governed.owner)) found);
  awake = λ h. ap waits_as (ap (λ l. slice_get l a) acts
      ∙ get-append_left (slice_set w.activities a next) (x ∷ []) a next (get-set_same w.activities a act next found)) ∙ awake;
  arrived = λ h. absurd (started_not_arrived h);
  fresh = ap waits_as (ap (λ l. slice_get l (length w.activities)) acts
      ∙ get-push_last (slice_set w.activities a next) x (length w.activities) (sym (length-set w.activities a next))) ∙ awake_child;
  others = λ b differs inside. ap waits_as (ap (λ l. slice_get l b) acts
      ∙ get-push_other (slice_set w.activities a next) x b (λ e. absurd (omega (arith, inside, e, length-set w.activities a next)))
      ∙ get-set_other w.activities a b next differs);
}

step_takes : (m : ModuleValue) (w : World) (a : ℕ) → Takes w a (step m w a)
step_takes m w a = step_kind (Takes w a) m w a tt (λ c. tt) (λ act found alive. record {
  closed = λ n opened nobody runs. taken_set w _ a act (left act n) event.Closed found refl refl refl (λ h. ap is_arrived runs) (λ h. cc);
  over = λ here alone. taken_set w _ a act (ended act) event.Ended found refl refl refl (λ h. refl) (λ h. cc);
  arrives = taken_set w _ a act (arrived act) event.Arrived found refl refl refl (λ h. absurd (h refl)) (λ h. refl);
  done = λ next change e on start rests. taken_set w _ a act next e found refl on.governed (no_start e start) (λ h. ap is_arrived on.runs) (λ h. absurd (no_arrival e start h));
  made = λ next on. taken_set w _ a act next event.Made found refl on.governed refl (λ h. ap is_arrived on.runs) (λ h. cc);
  stored = λ s n e on start. taken_set w _ a act (onward act) e found refl refl (no_start e start) (λ h. ap is_arrived on.runs) (λ h. absurd (no_arrival e start h));
  spawned = λ t args values at on. taken_push w _ a act (onward act) (child m a act t values) found refl refl (ap is_arrived on.runs) refl;
})

taken : (m : ModuleValue) (w v : World) (a : ℕ) (e : Event) → step m w a ≡ Stepped v e → IsTaken w v a e
taken m w v a e h = subst (Takes w a) h (step_takes m w a)

-- a start adds one activity
pub grows_by_start : (m : ModuleValue) (w v : World) (a : ℕ) → step m w a ≡ Stepped v event.Spawned → length v.activities ≡ length w.activities + 1
grows_by_start m w v a h = (taken m w v a event.Spawned h).width

-- and nothing else does
pub keeps_width : (m : ModuleValue) (w v : World) (a : ℕ) (e : Event) → step m w a ≡ Stepped v e → (e ≡ event.Spawned → ⊥) → length v.activities ≡ length w.activities
keeps_width m w v a e h other = (let nobody : started e ≡ 0 = ap (λ s. cond s 1 0) (other_event e other) in omega (arith, nobody, (taken m w v a e h).width))
  where
    other_event : (x : Event) → (x ≡ event.Spawned → ⊥) → is_start x ≡ false
    other_event event.Spawned g = absurd (g refl)
    other_event _ g = refl

-- who takes a step is there
pub steps_within : (m : ModuleValue) (w v : World) (a : ℕ) (e : Event) → step m w a ≡ Stepped v e → a < length w.activities
steps_within m w v a e h = (taken m w v a e h).within

-- and is governed as before
pub governor_same : (m : ModuleValue) (w v : World) (a : ℕ) (e : Event) → step m w a ≡ Stepped v e → governor v a ≡ governor w a
governor_same m w v a e h = (taken m w v a e h).governor

-- who opened the finish that governs an activity has a smaller number
pub governor_within : (m : ModuleValue) (w : World) → IsCore m w → (a b : ℕ) → a < length w.activities → governor w a ≡ Some b → b < a
governor_within m w core a b inside h = of (slice_get w.activities a) refl h
  where
    of : (o : Option Activity) → slice_get w.activities a ≡ o → option_and_then (λ (act : Activity). act.governed.owner) o ≡ Some b → b < a
    of None found g = absurd (none-some b g)
    of (Some act) found g = core_owned m w core a act found b g

-- ---- who waits at an `advance`

-- who takes a step does only if it has just arrived
pub awake_after : (m : ModuleValue) (w v : World) (a : ℕ) (e : Event) → step m w a ≡ Stepped v e → (e ≡ event.Arrived → ⊥) → is_waiting v a ≡ false
awake_after m w v a e h = (taken m w v a e h).awake

-- and does then
pub waits_after : (m : ModuleValue) (w v : World) (a : ℕ) (e : Event) → step m w a ≡ Stepped v e → e ≡ event.Arrived → is_waiting v a ≡ true
waits_after m w v a e h = (taken m w v a e h).arrived

-- one that it starts doesn't
pub awake_fresh : (m : ModuleValue) (w v : World) (a : ℕ) (e : Event) → step m w a ≡ Stepped v e → is_waiting v (length w.activities) ≡ false
awake_fresh m w v a e h = (taken m w v a e h).fresh

-- and others do as before
pub waiting_same : (m : ModuleValue) (w v : World) (a : ℕ) (e : Event) → step m w a ≡ Stepped v e → (b : ℕ) → (b ≡ a → ⊥) → b < length w.activities
    → is_waiting v b ≡ is_waiting w b
waiting_same m w v a e h = (taken m w v a e h).others

-- nobody does who isn't there
pub waiting_within : (w : World) (b : ℕ) → is_waiting w b ≡ true → b < length w.activities
waiting_within w b h = of (slice_get w.activities b) refl h
  where
    of : (o : Option Activity) → slice_get w.activities b ≡ o → waits_as o ≡ true → b < length w.activities
    of None e h = absurd (true≢false (sym h))
    of (Some x) e h = slice_get_within w.activities b x e
