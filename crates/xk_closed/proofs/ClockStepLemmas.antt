-- What a step does to where activities stand on clocks, by its event.
use Rattle.std.proofs.Common.{◌≡◌, ℕ, ℤ, zero, suc, ◌+◌, ◌==◌, ◌⊎◌, inl, inr, Bool, true, false, true≢false, cond, List, [], ◌∷◌, ◌++◌, map}
use Rattle.std.proofs.Common.{length, Some, None, Option, refl, sym, ap, subst}
use Rattle.std.specs.Prelude.{slice_get}
use Rattle.xk_types.specs.declared.instr.Instr.{Instr}
use Rattle.xk_types.specs.declared.instr.Instr.TheVariants as instr
use Rattle.xk_types.specs.declared.world.Value.{Value}
use Rattle.xk_types.specs.declared.world.Value.TheVariants as value
use Rattle.xk_types.specs.declared.world.Status.{Status}
use Rattle.xk_types.specs.declared.world.Status.TheVariants as status
use Rattle.xk_types.specs.declared.world.Standing.{Standing}
use Rattle.xk_types.specs.declared.world.Standing.TheVariants as standing
use Rattle.xk_types.specs.declared.world.Event.{Event}
use Rattle.xk_types.specs.declared.world.Event.TheVariants as event
use Rattle.xk_types.specs.Code.{ModuleValue}
use Rattle.xk_types.specs.World.{Frame, Activity, Clock, World, standing_of, instruction_at}
use Rattle.xk_types.specs.Step.{Outcome, Blocked, Wrong, ClockUse, Stepped, is_signalled, is_pending, is_registered, resumed, passed}
use Rattle.xk_types.specs.Step.{dropped, none, only, all, settled_clock, moved, joined, is_given, new_clock, number_in, cell_in, clock_in}
use Rattle.xk_types.specs.Step.{registered_on, put_in, slot_at, closing, awaits, innermost, left, past, done, returning, waits, passing}
use Rattle.xk_types.specs.Step.{carried_out, step}
use Rattle.xk_types.specs.Schedule.{is_step, is_local}
use Rattle.xk_law_schedules.proofs.StepFormLemmas.{finishes_of, spawning_form, step_kind}
use Rattle.xk_law_commute.proofs.ChangeSquareLemmas.{found_of}
use Rattle.xk_law_traces.proofs.InstructionEventLemmas.{shows, stepped_by, stepped_at, shown_at}

-- ---- events

-- by such a step an activity may let clocks go
abbrev pub lets_go : Event → Bool
lets_go event.Resumed = true
lets_go event.Dropped = true
lets_go event.Arrived = true
lets_go event.Ended = true
lets_go _ = false

-- it may leave clocks
abbrev pub leaves_clocks : Event → Bool
leaves_clocks event.Dropped = true
leaves_clocks event.Ended = true
leaves_clocks _ = false

-- ---- changes of standings

-- What a change of standings that comes with the event does: it registers nobody; who has resumed a clock, still has, or has left it; who
-- leaves none, is still registered; and who lets none go stands alike.
pub record Changes (e : Event) (change : ℕ → Standing → Standing) : Type 0 where
  pub apart : (k : ℕ) → change k standing.Apart ≡ standing.Apart
  pub signalled : (k : ℕ) → (change k standing.Signalled ≡ standing.Signalled) ⊎ (change k standing.Signalled ≡ standing.Apart)
  pub stays : leaves_clocks e ≡ false → (k : ℕ) (st : Standing) → is_registered st ≡ true → is_registered (change k st) ≡ true
  pub rests : lets_go e ≡ false → (k : ℕ) (st : Standing)
      → (is_signalled (change k st) ≡ is_signalled st) × (is_pending (change k st) ≡ is_pending st)

none_changes : (e : Event) → Changes e none
none_changes e = record { apart = λ k. refl; signalled = λ k. inl refl; stays = λ h k st r. r; rests = λ h k st. (refl, refl) }

stays_resumed : (st : Standing) → is_registered st ≡ true → is_registered (resumed st) ≡ true
stays_resumed standing.Apart h = h
stays_resumed standing.Open h = refl
stays_resumed standing.Signalled h = refl
stays_resumed standing.Ahead h = refl

resume_changes : (c : ℕ) → Changes event.Resumed (only c resumed)
resume_changes c = record {
  apart = λ k. apart (k == c);
  signalled = λ k. inl (signalled (k == c));
  stays = λ h k st r. stays (k == c) st r;
  rests = λ h. absurd (true≢false h);
}
  where
    apart : (b : Bool) → cond b standing.Apart standing.Apart ≡ standing.Apart
    apart true = refl
    apart false = refl

    signalled : (b : Bool) → cond b standing.Signalled standing.Signalled ≡ standing.Signalled
    signalled true = refl
    signalled false = refl

    stays : (b : Bool) (st : Standing) → is_registered st ≡ true → is_registered (cond b (resumed st) st) ≡ true
    stays true st r = stays_resumed st r
    stays false st r = r

drop_changes : (c : ℕ) → Changes event.Dropped (only c dropped)
drop_changes c = record {
  apart = λ k. apart (k == c);
  signalled = λ k. signalled (k == c);
  stays = λ h. absurd (true≢false h);
  rests = λ h. absurd (true≢false h);
}
  where
    apart : (b : Bool) → cond b standing.Apart standing.Apart ≡ standing.Apart
    apart true = refl
    apart false = refl

    signalled : (b : Bool)
        → (cond b standing.Apart standing.Signalled ≡ standing.Signalled) ⊎ (cond b standing.Apart standing.Signalled ≡ standing.Apart)
    signalled true = inr refl
    signalled false = inl refl

arrive_changes : Changes event.Arrived (all resumed)
arrive_changes = record {
  apart = λ k. refl;
  signalled = λ k. inl refl;
  stays = λ h k st r. stays_resumed st r;
  rests = λ h. absurd (true≢false h);
}

end_changes : Changes event.Ended (all dropped)
end_changes = record {
  apart = λ k. refl;
  signalled = λ k. inr refl;
  stays = λ h. absurd (true≢false h);
  rests = λ h. absurd (true≢false h);
}

pass_changes : Changes event.Passed (all passed)
pass_changes = record { apart = λ k. refl; signalled = λ k. inl refl; stays = λ h k st r. stays st r; rests = λ h k st. rests st }
  where
    stays : (st : Standing) → is_registered st ≡ true → is_registered (passed st) ≡ true
    stays standing.Apart r = r
    stays standing.Open r = refl
    stays standing.Signalled r = refl
    stays standing.Ahead r = refl

    rests : (st : Standing) → (is_signalled (passed st) ≡ is_signalled st) × (is_pending (passed st) ≡ is_pending st)
    rests standing.Apart = (refl, refl)
    rests standing.Open = (refl, refl)
    rests standing.Signalled = (refl, refl)
    rests standing.Ahead = (refl, refl)

-- ---- a step

-- the clocks of world u are these, at the end of a step from world w
abbrev pub AreSettled : World → World → List Clock → Type 0
AreSettled w u cs = u.clocks ≡ map (settled_clock (w.steps + 1)) cs

-- What becomes of the clocks in a step of activity a with this event: the activity changes where it stands, it makes one, or it starts
-- another activity; and then the step ends.
pub data AtClocks (w u : World) (a : ℕ) (e : Event) : Type 0 where
  Moves : (change : ℕ → Standing → Standing) → Changes e change → AreSettled w u (moved a change w.clocks) → AtClocks w u a e
  Makes : lets_go e ≡ false → AreSettled w u (w.clocks ++ new_clock (length w.activities) a ∷ []) → AtClocks w u a e
  Starts : lets_go e ≡ false → (given : ℕ → Bool) → AreSettled w u (joined a given w.clocks) → AtClocks w u a e

-- it isn't a step, or does so
abbrev Does : World → ℕ → Outcome → Type 0
Does w a Blocked = Unit {0}
Does w a (Wrong c) = Unit {0}
Does w a (Stepped u e) = AtClocks w u a e

rests_so : (w u : World) (a : ℕ) (e : Event) → AreSettled w u (moved a none w.clocks) → AtClocks w u a e
rests_so w u a e is = Moves none (none_changes e) is

-- a step that nobody else sees changes no standing
abbrev RestsUnseen : World → ℕ → Outcome → Type 0
RestsUnseen w a Blocked = Unit {0}
RestsUnseen w a (Wrong c) = Unit {0}
RestsUnseen w a (Stepped u e) = is_local e ≡ true → AtClocks w u a e

unseen : (m : ModuleValue) (w : World) (a : ℕ) → RestsUnseen w a (step m w a)
unseen m w a = step_kind (RestsUnseen w a) m w a tt (λ c. tt) (λ act found lives. record {
  closed = λ n some nobody runs h. rests_so w _ a event.Closed refl;
  over = λ here none' h. absurd (true≢false (sym h));
  arrives = λ h. absurd (true≢false (sym h));
  done = λ next change e goes quiet rests h.
      rests_so w _ a e (ap (λ f. map (settled_clock (w.steps + 1)) (moved a f w.clocks)) (rests h));
  made = λ next goes h. absurd (true≢false (sym h));
  stored = λ s n e goes quiet h. rests_so w _ a e refl;
  spawned = λ t args values at goes h. absurd (true≢false (sym h));
})

-- what it takes of a slot or a shared number, a clock or a place to write to
module _ (w : World) (a : ℕ) (act : Activity) where
  on_number : (o : Option Value) (go : ℤ → Outcome) → ((n : ℤ) → Does w a (go n)) → Does w a (number_in o go)
  on_number None go h = tt
  on_number (Some value.Unset) go h = tt
  on_number (Some (value.Number n)) go h = h n
  on_number (Some (value.Clock c)) go h = tt

  on_cell : (o : Option ℤ) (go : ℤ → Outcome) → ((n : ℤ) → Does w a (go n)) → Does w a (cell_in o go)
  on_cell None go h = tt
  on_cell (Some n) go h = h n

  on_put : (o : Option Value) (d : ℕ) (x : Value) (go : Activity → Outcome) → ((next : Activity) → Does w a (go next))
      → Does w a (put_in o act d x go)
  on_put None d x go h = tt
  on_put (Some old) d x go h = h _

  on_clock : (o : Option Value) (go : ℕ → Outcome) → ((k : ℕ) → Does w a (go k)) → Does w a (clock_in w a o go)
  on_clock None go h = tt
  on_clock (Some value.Unset) go h = tt
  on_clock (Some (value.Number n)) go h = tt
  on_clock (Some (value.Clock k)) go h = by (slice_get w.clocks k)
    where
      at : (q : Bool) → Does w a (cond q (go k) (Wrong ClockUse))
      at true = h k
      at false = tt

      by : (o : Option Clock) → Does w a (registered_on o a (go k))
      by None = tt
      by (Some c) = at (is_registered (standing_of c a))

  on_close : (n : ℕ) → Does w a (closing w a act n)
  on_close zero = tt
  on_close (suc n) = by (awaits w.activities (innermost a act))
    where
      by : (q : Bool) → Does w a (cond q Blocked (done w a (left act n) none event.Closed))
      by true = tt
      by false = rests_so w _ a event.Closed refl

  on_return : (fs : List Frame) → Does w a (returning w a act fs)
  on_return [] = Moves (all dropped) end_changes refl
  on_return (f ∷ fs) = rests_so w _ a event.Local refl

  on_pass : Does w a (passing w a act)
  on_pass = by (waits w a)
    where
      by : (q : Bool) → Does w a (cond q Blocked (done w a (past act (w.steps + 1)) (all passed) event.Passed))
      by true = tt
      by false = Moves (all passed) pass_changes refl

  -- by an event that others see, an instruction that has it
  seen : (m : ModuleValue) (e : Event) (i : Instr) → is_local e ≡ false → shows e i ≡ true → Does w a (carried_out m w a act i)
  seen m event.Local i h g = absurd (true≢false h)
  seen m (event.Printed n) (instr.Print x) h g = on_number (slot_at act x) _ (λ k. rests_so w _ a (event.Printed k) refl)
  seen m event.Made (instr.Make d) h g = on_put (slot_at act d) d _ _ (λ next. Makes refl refl)
  seen m event.Got (instr.Get d s) h g =
      on_cell (slice_get w.cells s) _ (λ n. on_put (slot_at act d) d _ _ (λ next. rests_so w _ a event.Got refl))
  seen m event.Put (instr.Put s x) h g =
      on_number (slot_at act x) _ (λ n. on_cell (slice_get w.cells s) _ (λ old. rests_so w _ a event.Put refl))
  seen m event.Added (instr.AddTo s x) h g =
      on_number (slot_at act x) _ (λ n. on_cell (slice_get w.cells s) _ (λ old. rests_so w _ a event.Added refl))
  seen m event.Opened (instr.Finish b) h g = rests_so w _ a event.Opened refl
  seen m event.Closed (instr.EndFinish b) h g = on_close act.opened
  seen m event.Spawned (instr.Spawn t args) h g =
      spawning_form (λ outcome. Does w a (outcome (finishes_of w act))) (λ c. tt) w a act m t args (slice_get m.units t)
      (λ u values at given. Starts refl (is_given values) refl)
  seen m event.Resumed (instr.Resume x) h g = on_clock (slot_at act x) _ (λ c. Moves (only c resumed) (resume_changes c) refl)
  seen m event.Dropped (instr.Drop x) h g = on_clock (slot_at act x) _ (λ c. Moves (only c dropped) (drop_changes c) refl)
  seen m event.Arrived instr.Advance h g = Moves (all resumed) arrive_changes refl
  seen m event.Ended instr.Ret h g = on_return act.callers
  seen m _ _ h g = absurd (true≢false (sym g))

pub at_clocks : (m : ModuleValue) (w u : World) (a : ℕ) (e : Event) → step m w a ≡ Stepped u e → AtClocks w u a e
at_clocks m w u a e takes = by x.0.status refl
  where
    x : (act : Activity) × (slice_get w.activities a ≡ Some act)
    x = found_of m w a u e takes

    by : (st : Status) → x.0.status ≡ st → AtClocks w u a e
    by status.Running is = of (is_local e) refl
      where
        i : (i : Instr) × (instruction_at m x.0.frame ≡ Some i) × (carried_out m w a x.0 i ≡ Stepped u e)
        i = stepped_at m w u a x.0 e x.1 takes is

        of : (b : Bool) → is_local e ≡ b → AtClocks w u a e
        of true h = subst (RestsUnseen w a) takes (unseen m w a) h
        of false h = subst (Does w a) i.2 (seen w a x.0 m e i.0 h (shown_at m w u a x.0 e x.1 takes is i.0 i.1))
    by status.Arrived is = subst (Does w a) (stepped_by m w u a x.0 e x.1 takes status.Arrived is) (on_pass w a x.0)
    by status.Ended is = absurd (true≢false (sym (ap is_step (stepped_by m w u a x.0 e x.1 takes status.Ended is))))
