-- Each instruction of a running activity that nothing keeps back is a step, which keeps the invariant.
use Rattle.std.proofs.Common.{◌≡◌, ℕ, suc, ◌+◌, ◌<◌, Bool, true, false, cond, ◌==◌, List, [], ◌∷◌, ◌++◌, length, set, ℤ, pos, ◌+ℤ◌, int_lt, int_le, Some, None, Option, refl, sym, ap, ◌∙◌, subst, arith, ◌⊎◌, ◌≤◌, not, ltb-true, inl, inr}
use Rattle.std.specs.Prelude.{slice_get, nat_lt}
use Rattle.std.specs.Int.{w64, int_min, int_wrapping_add, int_wrapping_sub, int_wrapping_mul}
use Rattle.std.specs.Option.{option_map_or, option_and_then}
use Rattle.std.proofs.lemmas.Int.{ints, clamps}
use Rattle.xk_types.proofs.ShapeLemmas.LoopLemmas.{head_names, head_limit}
use Rattle.std.proofs.lemmas.Option.{slice_get_within, same_Some, none-some}
use Rattle.std.proofs.lemmas.Bool.{cases_eq, false≢true, and_from, eq-eqb}
use Rattle.xk_types.specs.declared.instr.Instr.{Instr}
use Rattle.xk_types.specs.declared.instr.Instr.TheVariants as instr
use Rattle.xk_types.specs.declared.world.Value.{Value}
use Rattle.xk_types.specs.declared.world.Value.TheVariants as value
use Rattle.xk_types.specs.declared.world.Status.{Status}
use Rattle.xk_types.specs.declared.world.Status.TheVariants as status
use Rattle.xk_types.specs.declared.world.Standing.{Standing}
use Rattle.xk_types.specs.declared.world.Standing.TheVariants as standing
use Rattle.xk_types.specs.declared.rules.Kind.{Kind}
use Rattle.xk_types.specs.declared.rules.Kind.TheVariants as kind
use Rattle.xk_types.specs.declared.instr.Comparison.{Comparison}
use Rattle.xk_types.specs.Code.{ModuleValue, compares, params_of, unit_run, UnitValue, is_method, is_body, Loop, loop_head}
use Rattle.xk_types.specs.World.{Activity, World, standing_of, instruction_at, Frame, frame_with, is_ended}
use Rattle.xk_types.specs.Acceptance.{IsAccepted}
use Rattle.xk_types.specs.declared.world.Event.{Event}
use Rattle.xk_types.specs.declared.world.Event.TheVariants as event
use Rattle.xk_types.specs.Step.{Outcome, done, made, onward, going, again, with_slots, arrived, ended, none, only, all, resumed, dropped, number_in, clock_in, put_in, computing, no_further, beginning, turning, child, is_given, spawned, carried_out, run_at, new_clock, called, back_in, returning, awaits, innermost, closing}
use Rattle.xk_types.specs.Order.{Has}
use Rattle.xk_types.specs.Shape.{slots_named, slot_written, cell_named, is_ret}
use Rattle.xk_types.specs.Blocks.{takes_clock, block_at, homes, is_here}
use Rattle.xk_types.specs.Walk.{After, To, Refused, after, after_to, turns_round, stays, reads, may_read, writes, gives, becomes, MayBecome, successors, across, is_lent, is_own, overwritten, let_go, IsVisited}
use Rattle.xk_types.specs.Bound.{steps_weight, clocks_weight}
use Rattle.xk_law_schedules.proofs.Invariant.{Each, Stands, IsActivitySound, IsSound, stands_on, looks, kind_by, kind_of, is_held, NamesNone, NamedIn, once_past, Waits, IsWaiting, AreWaiting, Names, Expects}
use Rattle.xk_types.proofs.ListLemmas.{get_inside, get-set_other}
use Rattle.xk_law_schedules.proofs.ShapeLemmas.LoopLemmas.{IsEnd}
use Rattle.xk_law_schedules.proofs.BoundLemmas.LoopTurnLemmas.{IsTurn}
use Rattle.xk_law_schedules.proofs.SlotKindLemmas.WalkLemmas.{Allowed}
use Rattle.xk_law_schedules.proofs.SlotKindLemmas.KindTableLemmas.{reads_row, writes_row, uses_row, gives_row, IsWritten, IsUsed, resumed_kind, resumed_held, over_row, gives_held, let_go_row}
use Rattle.xk_law_schedules.proofs.ClockLemmas.StandingLemmas.{stands_on-push_old, stands_on-push_new, new_same}
use Rattle.xk_law_schedules.proofs.BoundLemmas.MeasureLemmas.{GoesOn, IsTaken, paid_on, paid_arrive, paid_end, paid_start, owed_first, IsPaid, paid_call, paid_back}
use Rattle.xk_law_schedules.proofs.SafetyLemmas.PreservationLemmas.{IsNext, StandsNear, done_sound, made_sound, begun_sound, next_sound}
use Rattle.xk_law_schedules.proofs.SafetyLemmas.EffectLemmas.{IsAt, IsWrite, way_on, slot_there, row_allowed, next_inside, leaving, leaving_to, writing, writing_to, using, next_visited}
use Rattle.xk_law_schedules.proofs.ShapeLemmas.UnitLemmas.{IsFit, IsRun, unit_fits, start_fits, call_fits, cell_fits}
use Rattle.xk_law_schedules.proofs.SafetyLemmas.ArgumentLemmas.{AreGiven, child_sound, Begun, frame_begun, across_waits}
use Rattle.xk_law_schedules.proofs.SafetyLemmas.OperandLemmas.{Moves, cell_moves, stored_moves, put_moves, number_moves, clock_moves, arguments_move}
use Rattle.xk_law_schedules.proofs.SafetyLemmas.AdvanceEffectLemmas.{arriving, ending}
use Rattle.xk_law_schedules.proofs.SafetyLemmas.CallerLemmas.{still_waiting, waits_now}
use Rattle.xk_law_schedules.proofs.BoundLemmas.TotalLemmas.{stack_called}
use Rattle.std.proofs.lemmas.List.Sums.{sum_by-cons}

-- two names of one clock
same_name : (j k : ℕ) → value.Clock j ≡ value.Clock k → j ≡ k
same_name j k e = cc

-- what the row of `add` reads and writes
add_parts : (d x y s : ℕ) (k : Kind) → Allowed (reads x s k (reads y s k (writes d kind.Number s k)))
    → (s ≡ x → k ≡ kind.Number) × (s ≡ y → k ≡ kind.Number) × IsWritten (reads x s k (reads y s k (writes d kind.Number s k))) d kind.Number s k
add_parts d x y s k h =
    let first = reads_row x s k (reads y s k (writes d kind.Number s k)) h in
    let second = reads_row y s k (writes d kind.Number s k) (λ r e. h r (first.1 ∙ e)) in
    (first.0, second.0, subst (λ row. IsWritten row d kind.Number s k) (sym (first.1 ∙ second.1)) (writes_row d kind.Number s k (λ r e. h r (first.1 ∙ (second.1 ∙ e)))))

-- what the row of `copy` reads and writes
copy_parts : (d x s : ℕ) (k : Kind) → Allowed (reads x s k (writes d kind.Number s k)) → (s ≡ x → k ≡ kind.Number)
    × IsWritten (reads x s k (writes d kind.Number s k)) d kind.Number s k
copy_parts d x s k h =
    let first = reads_row x s k (writes d kind.Number s k) h in
    (first.0, subst (λ row. IsWritten row d kind.Number s k) (sym first.1) (writes_row d kind.Number s k (λ r e. h r (first.1 ∙ e))))

-- what the row of `unless` reads
read_parts : (x y s : ℕ) (k : Kind) → Allowed (reads x s k (reads y s k (becomes k)))
    → (s ≡ x → k ≡ kind.Number) × (s ≡ y → k ≡ kind.Number) × (reads x s k (reads y s k (becomes k)) ≡ becomes k)
read_parts x y s k h =
    let first = reads_row x s k (reads y s k (becomes k)) h in
    let second = reads_row y s k (becomes k) (λ r e. h r (first.1 ∙ e)) in
    (first.0, second.0, first.1 ∙ second.1)

-- a slot of a method that is no parameter is its own
own_slot : (v : UnitValue) (t : ℕ) → is_method v.kind ≡ true → length v.params ≤ t → is_own v t ≡ true
own_slot v t method past = and_from (is_method v.kind) (not (nat_lt t (length v.params))) method (ap not (cases (nat_lt t (length v.params)) refl))
  where
    cases : (b : Bool) → nat_lt t (length v.params) ≡ b → nat_lt t (length v.params) ≡ false
    cases true e = absurd (let h = ltb-true t (length v.params) e in omega arith)
    cases false e = e

-- ---- standings after a step, before its end

-- nothing changed
kept_near : (st : Status) (since last now : ℕ) (s : Standing) → since < now → Stands st since last s → StandsNear st since last now s
kept_near st since last now s before h = (h, λ g. before)

-- a resume
resumed_near : (st new : Status) (since last now : ℕ) (s : Standing) → since < now → is_ended new ≡ false → Stands st since last s → StandsNear new since last now (resumed s)
resumed_near st new since last now standing.Apart before e h = (tt, λ g. before)
resumed_near st new since last now standing.Open before e h = ((e, h.1), λ g. before)
resumed_near st new since last now standing.Signalled before e h = ((e, h.1), λ g. before)
resumed_near st new since last now standing.Ahead before e h = ((e, h.1), λ g. before)

-- the end of a registration
dropped_near : (st : Status) (since last now : ℕ) → StandsNear st since last now standing.Apart
dropped_near st since last now = (tt, λ g. absurd (false≢true g))

-- a change on one clock
only_near : (st : Status) (since last now k j : ℕ) (f : Standing → Standing) (s : Standing) → StandsNear st since last now s → StandsNear st since last now (f s)
    → StandsNear st since last now (only k f j s)
only_near st since last now k j f s h g = cases (j == k)
  where
    cases : (b : Bool) → StandsNear st since last now (cond b (f s) s)
    cases true = g
    cases false = h

-- who is apart from a clock stays so
only_apart : (k j : ℕ) (f : Standing → Standing) → f standing.Apart ≡ standing.Apart → only k f j standing.Apart ≡ standing.Apart
only_apart k j f h = cases (j == k)
  where
    cases : (b : Bool) → cond b (f standing.Apart) standing.Apart ≡ standing.Apart
    cases true = h
    cases false = refl

-- ---- bounds of loops

same_le : (n : ℤ) → int_le n n ≡ true
same_le n = grind (arith, ints)

min_le : (n hi : ℤ) → int_le (int_min n hi) hi ≡ true
min_le n hi = grind (arith, ints, clamps)

less_le : (n top hi : ℤ) → int_lt n top ≡ true → int_le top hi ≡ true → int_lt n hi ≡ true
less_le n top hi h g = grind (arith, ints)

-- where it may read a slot
may_row : (o : Option ℕ) (s : ℕ) (k : Kind) (go : After) → Allowed (may_read o s k go) → ((x : ℕ) → o ≡ Some x → s ≡ x → k ≡ kind.Number) × (may_read o s k go ≡ go)
may_row None s k go h = ((λ x e q. absurd (none-some x e)), refl)
may_row (Some x) s k go h = let r = reads_row x s k go h in ((λ y e q. r.0 (q ∙ sym (same_Some x y e))), r.1)

-- where a row doesn't refuse, what it passes over may stay
stays_row : (row : After) (k : Kind) → Allowed row → MayBecome (stays k row) k
stays_row (To ks) k h = inl refl
stays_row (Refused r) k h = absurd (h r refl)

-- ---- instructions

module _ (m : ModuleValue) (ok : IsAccepted m) (w : World) (a : ℕ) (was : Activity) (sound : IsSound m w) (found : slice_get w.activities a ≡ Some was)
    (running : was.status ≡ status.Running) where
  -- the invariant of the activity
  abbrev me : IsActivitySound m (looks w.clocks a) (length w.clocks) w.steps was
  me = sound.activities a was found

  -- it stands at instruction i
  abbrev Here : Instr → Type 0
  Here i = slice_get me.u.code was.frame.place ≡ Some i

  -- the activity stands there
  at_it : (i : Instr) → Here i → IsAt m (stands_on w.clocks a) (length w.clocks) w.steps was me.u i
  at_it i here = record { ok = ok; me = me; unit = refl; fit = unit_fits m ok.shape was.frame.unit me.u me.unit; running = running; here = here }

  -- an instruction that changes no standing
  kept : Each (λ k c. StandsNear was.status was.since c.last (w.steps + 1) (standing_of c a)) w.clocks
  kept k c at = kept_near was.status was.since c.last (w.steps + 1) (standing_of c a) (let h = me.since in omega arith) ((sound.clocks k c at).stands a was found)

  -- what the activity becomes pays, where it stays in its unit
  taken : (i : Instr) → Here i → (act : Activity) → IsTaken m me.u i was act
  taken i here act = record { fit = unit_fits m ok.shape was.frame.unit me.u me.unit; found = me.unit; running = running; here = here }

  -- what a step leaves of it is sound
  left_so : (look : ℕ → Kind) (count : ℕ) (act : Activity) → IsNext m me.u look count (w.steps + 1) was act → IsActivitySound m look count (w.steps + 1) act
  left_so look count act n = next_sound m (looks w.clocks a) look (length w.clocks) count w.steps (w.steps + 1) was act me n

  -- an instruction that changes no standing is a step
  local_moves : (i : Instr) → Here i → (act : Activity) → steps_weight i ≡ 1 → clocks_weight i ≡ 0 → unit_run i ≡ None
      → act.status ≡ was.status → act.since ≡ was.since → GoesOn me.u i was act
      → IsNext m me.u (looks w.clocks a) (length w.clocks) (w.steps + 1) was act → (e : Event) → Moves m (done w a act none e)
  local_moves i here act one zero' alone st sc goes n e = done_sound m w a was act none sound found (record {
    next = left_so (looks w.clocks a) (length w.clocks) act n;
    apart = λ k. refl;
    stands = λ k c at. rw (st, sc) (kept k c at);
    paid = rw zero' at (paid_on m me.u i was act (taken i here act) (record { unit = n.unit; callers = n.callers }) (st ∙ running) goes one alone);
  })

  -- what stands in a slot that the table finds to be a number
  is_number : (i : Instr) → Here i → (x : ℕ) → x < me.u.slots → ((k : Kind) → Allowed (after m me.u i x k) → k ≡ kind.Number)
      → (go : ℤ → Outcome) → ((n : ℤ) → slice_get was.frame.slots x ≡ Some (value.Number n) → Moves m (go n)) → Moves m (number_in (slice_get was.frame.slots x) go)
  is_number i here x inside reads_it go h =
      let v = get_inside was.frame.slots x (omega (arith, me.frame.slots)) in
      number_moves m (stands_on w.clocks a) (slice_get was.frame.slots x) v.0 go v.1
      (reads_it (kind_of (looks w.clocks a) v.0) (row_allowed m (stands_on w.clocks a) (length w.clocks) w.steps was me.u i (at_it i here) x v.0 v.1))
      (λ n e. h n (v.1 ∙ ap (λ z. Some z) e))

  -- a slot that it names is the unit's
  named_inside : (i : Instr) → Here i → (x : ℕ) → Has (slots_named i) x → x < me.u.slots
  named_inside i here x named = (at_it i here).fit.slots i was.frame.place x here named

  -- a number that is written to slot d fits in
  number_written : (i : Instr) (to d : ℕ) (n : ℤ) → ((s : ℕ) (k : Kind) → Allowed (after m me.u i s k) → IsWritten (after_to m me.u i to s k) d kind.Number s k)
      → (c : IsAt m (stands_on w.clocks a) (length w.clocks) w.steps was me.u i)
      → IsWrite m (stands_on w.clocks a) (length w.clocks) w.steps was me.u i c to d (value.Number n) kind.Number (looks w.clocks a) (length w.clocks)
  number_written i to d n rows c = record {
    rows = rows;
    becomes = refl;
    more = omega arith;
    same = λ k h. refl;
    fresh = λ k e. absurd (grind arith);
    holds = λ k h. inl h;
    own = λ k e. absurd (grind arith);
  }

  -- an instruction that writes a number to slot d, and goes on, and what is seen of it
  put_number : (e : Event) (i : Instr) → Here i → (d : ℕ) (n : ℤ) → Has (slots_named i) d → is_ret i ≡ false → Has (successors i was.frame.place) (was.frame.place + 1)
      → steps_weight i ≡ 1 → clocks_weight i ≡ 0 → unit_run i ≡ None
      → ((s : ℕ) (k : Kind) → Allowed (after m me.u i s k) → IsWritten (after m me.u i s k) d kind.Number s k)
      → GoesOn me.u i was (onward (with_slots was (set was.frame.slots d (value.Number n))))
      → Moves m (put_in (slice_get was.frame.slots d) was d (value.Number n) (λ next. done w a next none e))
  put_number e i here d n named other on one zero' alone rows goes =
      let c = at_it i here in
      let old = slot_there m (stands_on w.clocks a) (length w.clocks) w.steps was me.u i c d named in
      put_moves m (slice_get was.frame.slots d) old.0 was d (value.Number n) (λ next. done w a next none e) old.1
      (local_moves i here (onward (with_slots was (set was.frame.slots d (value.Number n)))) one zero' alone refl refl goes
      (writing m (stands_on w.clocks a) (length w.clocks) w.steps was me.u i c d old.0 (value.Number n) kind.Number (looks w.clocks a) (length w.clocks) old.1 other on
      (number_written i (was.frame.place + 1) d n
      (λ s k h. subst (λ r. IsWritten r d kind.Number s k) (way_on m (stands_on w.clocks a) (length w.clocks) w.steps was me.u i c s k) (rows s k h)) c)) e)

  -- all slots but the one written stay
  others_stay : (d : ℕ) (v : Value) (s : ℕ) → (Some d ≡ Some s → ⊥) → slice_get (set was.frame.slots d v) s ≡ slice_get was.frame.slots s
  others_stay d v s differs = get-set_other was.frame.slots d s v (λ e. differs (ap (λ z. Some z) (sym e)))

  -- `lit`
  lit_moves : (d : ℕ) (n : ℤ) → Here (instr.Lit d n) → Moves m (carried_out m w a was (instr.Lit d n))
  lit_moves d n here = put_number event.Local (instr.Lit d n) here d n (inl refl) refl (inl refl) refl refl refl (writes_row d kind.Number) (refl, others_stay d (value.Number n))

  -- `copy`
  copy_moves : (d x : ℕ) → Here (instr.Copy d x) → Moves m (carried_out m w a was (instr.Copy d x))
  copy_moves d x here =
      let i = instr.Copy d x in
      is_number i here x (named_inside i here x (inr (inl refl))) (λ k h. (reads_row x x k (writes d kind.Number x k) h).0 refl) _
      (λ n e. put_number event.Local i here d n (inl refl) refl (inl refl) refl refl refl (λ s k h. (copy_parts d x s k h).1) (refl, others_stay d (value.Number n)))

  -- `add`, `sub`, `mul`
  computing_moves : (i : Instr) → Here i → (f : ℤ → ℤ → ℤ) (d x y : ℕ) → slots_named i ≡ d ∷ x ∷ y ∷ [] → slot_written i ≡ Some d → is_ret i ≡ false
      → Has (successors i was.frame.place) (was.frame.place + 1) → steps_weight i ≡ 1 → clocks_weight i ≡ 0 → unit_run i ≡ None
      → ((s : ℕ) (k : Kind) → after m me.u i s k ≡ reads x s k (reads y s k (writes d kind.Number s k)))
      → ((n : ℤ) → GoesOn me.u i was (onward (with_slots was (set was.frame.slots d (value.Number n)))))
      → Moves m (computing w a was f d x y)
  computing_moves i here f d x y named written other on one zero' alone row goes =
      is_number i here x (named_inside i here x (subst (λ list. Has list x) (sym named) (inr (inl refl))))
      (λ k h. (add_parts d x y x k (subst Allowed (row x k) h)).0 refl) _ (λ p e.
      is_number i here y (named_inside i here y (subst (λ list. Has list y) (sym named) (inr (inr (inl refl)))))
      (λ k h. (add_parts d x y y k (subst Allowed (row y k) h)).1 refl) _ (λ q g.
      put_number event.Local i here d (f p q) (subst (λ list. Has list d) (sym named) (inl refl)) other on one zero' alone
      (λ s k h. subst (λ r. IsWritten r d kind.Number s k) (sym (row s k)) (add_parts d x y s k (subst Allowed (row s k) h)).2) (goes (f p q))))

  -- ---- branches and loops

  -- an instruction that changes nothing, and goes to this place
  only_going : (i : Instr) → Here i → (to : ℕ) → Has (successors i was.frame.place) to → to < length me.u.code → steps_weight i ≡ 1 → clocks_weight i ≡ 0 → unit_run i ≡ None
      → ((s : ℕ) (k : Kind) → Allowed (after m me.u i s k) → MayBecome (after_to m me.u i to s k) k) → GoesOn me.u i was (going was to)
      → Moves m (done w a (going was to) none event.Local)
  only_going i here to on inside one zero' alone rows goes = local_moves i here (going was to) one zero' alone refl refl goes
      (leaving_to m (stands_on w.clocks a) (length w.clocks) w.steps was me.u i (at_it i here) to on inside rows) event.Local

  -- `unless`
  unless_moves : (op : Comparison) (x y t : ℕ) → Here (instr.Unless op x y t) → Moves m (carried_out m w a was (instr.Unless op x y t))
  unless_moves op x y t here =
      is_number i here x (named_inside i here x (inl refl)) (λ k h. (read_parts x y x k h).0 refl) _ (λ p e.
      is_number i here y (named_inside i here y (inr (inl refl))) (λ k h. (read_parts x y y k h).1 refl) _ (λ q g. cases (compares op p q)))
    where
      i : Instr
      i = instr.Unless op x y t

      rows : (s : ℕ) (k : Kind) → Allowed (after m me.u i s k) → MayBecome (after m me.u i s k) k
      rows s k h = subst (λ r. MayBecome r k) (sym (read_parts x y s k h).2) (inl refl)

      cases : (b : Bool) → Moves m (done w a (cond b (onward was) (going was t)) none event.Local)
      cases true = only_going i here (was.frame.place + 1) (inl refl)
          (next_inside m (stands_on w.clocks a) (length w.clocks) w.steps was me.u i (at_it i here) refl) refl refl refl rows (inl refl, refl)
      cases false = only_going i here t (inr (inl refl)) ((at_it i here).fit.loops.kept i was.frame.place t here refl).inside refl refl refl rows (inr refl, refl)

  -- `jump`
  jump_moves : (t : ℕ) → Here (instr.Jump t) → Moves m (carried_out m w a was (instr.Jump t))
  jump_moves t here =
      let i = instr.Jump t in
      only_going i here t (inl refl) ((at_it i here).fit.loops.kept i was.frame.place t here refl).inside refl refl refl (λ s k h. inl refl) (refl, refl)

  -- `for`
  for_moves : (k : ℕ) (lo hi : ℤ) (e : ℕ) → Here (instr.For k lo hi e) → Moves m (carried_out m w a was (instr.For k lo hi e))
  for_moves k lo hi e here =
      let i = instr.For k lo hi e in
      put_number event.Local i here k lo (inl refl) refl (inl refl) refl refl refl (writes_row k kind.Number)
      (refl, (let h = named_inside i here k (inl refl) in omega (arith, me.frame.slots)), refl)

  -- a loop that goes no further up than a slot's number, which the row reads, goes no further up than its bound
  limited : (i : Instr) → Here i → (o : Option ℕ) → ((x : ℕ) → o ≡ Some x → x < me.u.slots) → ((x : ℕ) → o ≡ Some x → (k : Kind) → Allowed (after m me.u i x k) → k ≡ kind.Number)
      → (hi : ℤ) (go : ℤ → Outcome) → ((top : ℤ) → int_le top hi ≡ true → Moves m (go top)) → Moves m (no_further was o hi go)
  limited i here None inside reads_it hi go h = h hi (same_le hi)
  limited i here (Some x) inside reads_it hi go h = is_number i here x (inside x refl) (reads_it x refl) (λ n. go (int_min n hi)) (λ n e. h (int_min n hi) (min_le n hi))

  -- `forto`
  forto_moves : (k : ℕ) (lo : ℤ) (x : ℕ) (hi : ℤ) (e : ℕ) → Here (instr.ForTo k lo x hi e) → Moves m (carried_out m w a was (instr.ForTo k lo x hi e))
  forto_moves k lo x hi e here = limited i here (Some x)
      (λ y q. subst (λ n. n < me.u.slots) (same_Some x y q) (named_inside i here x (inr (inl refl))))
      (λ y q kd h. reads y kd (same_Some x y q) h) hi (beginning w a was k lo (e + 1)) (λ top le. cases (int_le lo top))
    where
      i : Instr
      i = instr.ForTo k lo x hi e

      reads : (y : ℕ) (kd : Kind) → x ≡ y → Allowed (after m me.u i y kd) → kd ≡ kind.Number
      reads y kd q h = (copy_parts k x y kd h).0 (sym q)

      past : (s : ℕ) (kd : Kind) → Allowed (after m me.u i s kd) → MayBecome (after_to m me.u i (e + 1) s kd) kd
      past s kd h = rw (eq-eqb (e + 1) (e + 1) refl) (stays_row (after m me.u i s kd) kd h)

      cases : (b : Bool) → Moves m (cond b (put_in (slice_get was.frame.slots k) was k (value.Number lo) (λ next. done w a next none event.Local))
          (done w a (going was (e + 1)) none event.Local))
      cases true = put_number event.Local i here k lo (inl refl) refl (inl refl) refl refl refl (λ s kd h. (copy_parts k x s kd h).1)
          (inl (refl, (let h = named_inside i here k (inl refl) in omega (arith, me.frame.slots)), refl))
      cases false = only_going i here (e + 1) (inr (inl refl)) ((at_it i here).fit.loops.kept i was.frame.place (e + 1) here refl).inside refl refl refl past (inr (refl, refl))

  -- `next`
  next_moves : (b : ℕ) → Here (instr.Next b) → Moves m (carried_out m w a was (instr.Next b))
  next_moves b here = subst (λ o. Moves m (turning w a was b o))
      (sym (ap (λ o. option_and_then (loop_head b) (option_and_then (λ unit. slice_get unit.code b) o)) me.unit ∙ head))
      (is_number i here k (fit.slots loop.head b k loop.here (head_names b loop.head l loop.is))
      (λ kd h. (reads_row k k kd (may_read l.limit k kd (becomes kd)) (subst Allowed (row k kd) h)).0 refl) _
      (λ n holds. limited i here l.limit (λ x q. fit.slots loop.head b x loop.here (head_limit b loop.head l x loop.is q))
      (λ x q kd h. (may_row l.limit x kd (becomes kd) (inner x kd h)).0 x q refl) l.hi _ (λ top le. cases n holds top le (int_lt n top) refl)))
    where
      i : Instr
      i = instr.Next b

      at : ℕ
      at = was.frame.place

      fit : IsFit me.u
      fit = (at_it i here).fit

      loop : IsEnd me.u b at
      loop = fit.loops.ended b at here

      l : Loop
      l = loop.l

      k : ℕ
      k = l.slot

      head : option_and_then (loop_head b) (slice_get me.u.code b) ≡ Some l
      head = ap (option_and_then (loop_head b)) loop.here ∙ loop.is

      turn : (n : ℤ) (q : ℕ) (new : List Value) → slice_get was.frame.slots k ≡ Some (value.Number n)
          → ((int_lt n l.hi ≡ true) × (q ≡ b + 1) × (new ≡ set was.frame.slots k (value.Number (n +ℤ pos 1)))) ⊎ ((q ≡ at + 1) × (new ≡ was.frame.slots))
          → IsTurn me.u b at was.frame.slots q new
      turn n q new holds goes = record { l = l; head = loop.head; here = loop.here; is = loop.is; n = n; number = holds; goes = goes }

      row : (s : ℕ) (kd : Kind) → after m me.u i s kd ≡ reads k s kd (may_read l.limit s kd (becomes kd))
      row s kd = ap (λ o. turns_round o s kd (becomes kd)) head

      -- what the row of its own slot leaves
      inner : (s : ℕ) (kd : Kind) → Allowed (after m me.u i s kd) → Allowed (may_read l.limit s kd (becomes kd))
      inner s kd h = subst Allowed (reads_row k s kd (may_read l.limit s kd (becomes kd)) (subst Allowed (row s kd) h)).1 (subst Allowed (row s kd) h)

      rows : (s : ℕ) (kd : Kind) → Allowed (after m me.u i s kd) → after m me.u i s kd ≡ becomes kd
      rows s kd h = row s kd ∙ (reads_row k s kd (may_read l.limit s kd (becomes kd)) (subst Allowed (row s kd) h)).1 ∙ (may_row l.limit s kd (becomes kd) (inner s kd h)).1

      written : (s : ℕ) (kd : Kind) → Allowed (after m me.u i s kd) → IsWritten (after m me.u i s kd) k kind.Number s kd
      written s kd h =
          let number : s ≡ k → kd ≡ kind.Number = (reads_row k s kd (may_read l.limit s kd (becomes kd)) (subst Allowed (row s kd) h)).0 in
          record {
            here = λ e. (ap is_held (number e), subst (λ r. MayBecome r kind.Number) (sym (rows s kd h)) (inl (number e)));
            other = λ differs. subst (λ r. MayBecome r kd) (sym (rows s kd h)) (inl refl);
          }

      cases : (n : ℤ) → slice_get was.frame.slots k ≡ Some (value.Number n) → (top : ℤ) → int_le top l.hi ≡ true → (x : Bool) → int_lt n top ≡ x
          → Moves m (done w a (cond x (again was b k n) (onward was)) none event.Local)
      cases n holds top le true less = local_moves i here (again was b k n) refl refl refl refl refl
          (turn n (b + 1) (set was.frame.slots k (value.Number (n +ℤ pos 1))) holds (inl (less_le n top l.hi less le, refl, refl)))
          (writing_to m (stands_on w.clocks a) (length w.clocks) w.steps was me.u i (at_it i here) k (value.Number n) (value.Number (n +ℤ pos 1))
          kind.Number (looks w.clocks a) (length w.clocks) (b + 1) holds
          (inr (inl refl)) (let h = slice_get_within me.u.code at i here in let g = loop.ahead in omega arith) (number_written i (b + 1) k (n +ℤ pos 1) written (at_it i here)))
          event.Local
      cases n holds top le false more = only_going i here (at + 1) (inl refl)
          (next_inside m (stands_on w.clocks a) (length w.clocks) w.steps was me.u i (at_it i here) refl) refl refl refl
          (λ s kd h. subst (λ r. MayBecome r kd) (sym (rows s kd h)) (inl refl)) (turn n (at + 1) was.frame.slots holds (inr (refl, refl)))

  -- a shared number that it names is there
  cell_there : (i : Instr) → Here i → (s : ℕ) → cell_named i ≡ Some s → (n : ℤ) × (slice_get w.cells s ≡ Some n)
  cell_there i here s named = get_inside w.cells s (let h = cell_fits m ok.shape was.frame.unit me.u me.unit i was.frame.place s here named in omega (arith, sound.cells))

  -- `get`
  get_moves : (d s : ℕ) → Here (instr.Get d s) → Moves m (carried_out m w a was (instr.Get d s))
  get_moves d s here =
      let n = cell_there (instr.Get d s) here s refl in
      cell_moves m (slice_get w.cells s) n.0 _ n.1
      (put_number event.Got (instr.Get d s) here d n.0 (inl refl) refl (inl refl) refl refl refl (writes_row d kind.Number) (refl, others_stay d (value.Number n.0)))

  -- an instruction that reads slot x, and goes on
  reads_on : (i : Instr) → Here i → (x : ℕ) (e : Event) → Has (slots_named i) x → is_ret i ≡ false
      → Has (successors i was.frame.place) (was.frame.place + 1) → steps_weight i ≡ 1 → clocks_weight i ≡ 0 → unit_run i ≡ None
      → GoesOn me.u i was (onward was) → ((s : ℕ) (k : Kind) → after m me.u i s k ≡ reads x s k (becomes k)) → Moves m (done w a (onward was) none e)
  reads_on i here x e named other on one zero' alone goes row = local_moves i here (onward was) one zero' alone refl refl goes
      (leaving m (stands_on w.clocks a) (length w.clocks) w.steps was me.u i (at_it i here) other on
      (λ s k h. subst (λ r. MayBecome r k) (sym (row s k ∙ (reads_row x s k (becomes k) (subst Allowed (row s k) h)).1)) (inl refl))) e

  -- `put`
  store_moves : (s x : ℕ) → Here (instr.Put s x) → Moves m (carried_out m w a was (instr.Put s x))
  store_moves s x here =
      let i = instr.Put s x in
      let c = cell_there i here s refl in
      is_number i here x (named_inside i here x (inl refl)) (λ k h. (reads_row x x k (becomes k) h).0 refl) _ (λ n e.
      cell_moves m (slice_get w.cells s) c.0 _ c.1 (stored_moves m w a was s n event.Put
      (reads_on i here x event.Put (inl refl) refl (inl refl) refl refl refl (refl, λ z differs. refl) (λ z k. refl))))

  -- `addto`
  add_moves : (s x : ℕ) → Here (instr.AddTo s x) → Moves m (carried_out m w a was (instr.AddTo s x))
  add_moves s x here =
      let i = instr.AddTo s x in
      let c = cell_there i here s refl in
      is_number i here x (named_inside i here x (inl refl)) (λ k h. (reads_row x x k (becomes k) h).0 refl) _ (λ n e.
      cell_moves m (slice_get w.cells s) c.0 _ c.1 (stored_moves m w a was s (int_wrapping_add w64 c.0 n) event.Added
      (reads_on i here x event.Added (inl refl) refl (inl refl) refl refl refl (refl, λ z differs. refl) (λ z k. refl))))

  -- what a step leaves of the activity doesn't depend on how many finishes it has open
  reopened : (act : Activity) (n : ℕ) → IsNext m me.u (looks w.clocks a) (length w.clocks) (w.steps + 1) was act
      → IsNext m me.u (looks w.clocks a) (length w.clocks) (w.steps + 1) was (record act { opened = n })
  reopened act n next = record {
    unit = next.unit;
    callers = next.callers;
    since = next.since;
    frame = next.frame;
    kinds = next.kinds;
    advance = next.advance;
    held = next.held;
    waiting = next.waiting;
    alone = next.alone;
  }

  -- an instruction that goes on, with so many finishes open
  border_moves : (i : Instr) → Here i → (n : ℕ) (e : Event) → is_ret i ≡ false → Has (successors i was.frame.place) (was.frame.place + 1) → steps_weight i ≡ 1
      → clocks_weight i ≡ 0 → unit_run i ≡ None
      → GoesOn me.u i was (onward was) → ((s : ℕ) (k : Kind) → Allowed (after m me.u i s k) → MayBecome (after m me.u i s k) k)
      → Moves m (done w a (record (onward was) { opened = n }) none e)
  border_moves i here n e other on one zero' alone goes rows = local_moves i here (record (onward was) { opened = n }) one zero' alone refl refl goes
      (reopened (onward was) n (leaving m (stands_on w.clocks a) (length w.clocks) w.steps was me.u i (at_it i here) other on rows)) e

  -- `finish`
  finish_moves : (e : ℕ) → Here (instr.Finish e) → Moves m (carried_out m w a was (instr.Finish e))
  finish_moves e here = border_moves (instr.Finish e) here (was.opened + 1) event.Opened refl (inl refl) refl refl refl (refl, λ s differs. refl) (λ s k h. inl refl)

  -- `endfinish`, where nobody is awaited
  close_moves : (b n : ℕ) → Here (instr.EndFinish b) → was.opened ≡ suc n → awaits w.activities (innermost a was) ≡ false → Moves m (carried_out m w a was (instr.EndFinish b))
  close_moves b n here some free = subst (λ k. Moves m (closing w a was k)) (sym some) (rw free
      (border_moves (instr.EndFinish b) here n event.Closed refl (inl refl) refl refl refl (refl, λ s differs. refl)
      (λ s k h. row (is_here (block_at me.u (b + 1)) (homes me.u s)) k h)))
    where
      row : (x : Bool) (k : Kind) → Allowed (cond x (let_go k (becomes k)) (becomes k)) → MayBecome (cond x (let_go k (becomes k)) (becomes k)) k
      row true k h = let_go_row k h
      row false k h = inl refl

  -- `print`
  print_moves : (x : ℕ) → Here (instr.Print x) → Moves m (carried_out m w a was (instr.Print x))
  print_moves x here =
      let i = instr.Print x in
      is_number i here x (named_inside i here x (inl refl)) (λ k h. (reads_row x x k (becomes k) h).0 refl) _ (λ n e.
      local_moves i here (onward was) refl refl refl refl refl (refl, λ s differs. refl)
      (leaving m (stands_on w.clocks a) (length w.clocks) w.steps was me.u i (at_it i here) refl (inl refl)
      (λ s k h. subst (λ row. MayBecome row k) (sym (reads_row x s k (becomes k) h).1) (inl refl)))
      (event.Printed n))

  -- `make`
  make_moves : (d : ℕ) → Here (instr.Make d) → Moves m (carried_out m w a was (instr.Make d))
  make_moves d here =
      let i = instr.Make d in
      let c = at_it i here in
      let count = length w.clocks in
      let clock = new_clock (length w.activities) a in
      let act = onward (with_slots was (set was.frame.slots d (value.Clock count))) in
      let old = slot_there m (stands_on w.clocks a) (length w.clocks) w.steps was me.u i c d (inl refl) in
      let next = writing m (stands_on w.clocks a) count w.steps was me.u i c d old.0 (value.Clock count) kind.Live (looks (w.clocks ++ clock ∷ []) a)
      (count + 1) old.1 refl (inl refl)
      (record {
        rows = λ s k h. subst (λ r. IsWritten r d kind.Live s k) (way_on m (stands_on w.clocks a) count w.steps was me.u i c s k) (writes_row d kind.Live s k h);
        becomes = ap kind_by (stands_on-push_new w.clocks clock a ∙ new_same (length w.activities) a (slice_get_within w.activities a was found));
        more = omega arith;
        same = λ k h. ap kind_by (stands_on-push_old w.clocks clock a k (λ e. absurd (omega arith)));
        fresh = λ k e. (let same = same_name count k e in (omega arith, omega arith));
        holds = λ k h. elim (cases_eq k count) [
          | inl e ↦ inr (ap (λ z. value.Clock z) (sym e))
          | inr differs ↦ inl (ap (λ s. is_held (kind_by s)) (sym (stands_on-push_old w.clocks clock a k differs)) ∙ h)
        ];
        own = λ k e. c.fit.unmade d was.frame.place here;
      }) in
      put_moves m (slice_get was.frame.slots d) old.0 was d (value.Clock count) (λ x. made w a x) old.1
      (made_sound m w a was act sound found
      (record {
        next = left_so (looks (w.clocks ++ clock ∷ []) a) (count + 1) act next;
        running = running;
        same_status = refl;
        same_since = refl;
        paid = paid_on m me.u i was act (taken i here act) (record { unit = refl; callers = refl }) running (refl, others_stay d (value.Clock count)) refl refl;
      }))

  -- an instruction that changes where the activity stands on the clock in slot x
  use_moves : (i : Instr) → Here i → (x : ℕ) (kd : Kind) (f : Standing → Standing) (e : Event) → Has (slots_named i) x → is_ret i ≡ false
      → Has (successors i was.frame.place) (was.frame.place + 1)
      → steps_weight i ≡ 1 → clocks_weight i ≡ 0 → unit_run i ≡ None → GoesOn me.u i was (onward was)
      → ((s : ℕ) (old : Kind) → Allowed (after m me.u i s old) → IsUsed (after m me.u i s old) x kd s old)
      → ((s : Standing) → is_held (kind_by s) ≡ true → kind_by (f s) ≡ kd)
      → ((s : Standing) → is_held (kind_by (f s)) ≡ true → is_held (kind_by s) ≡ true)
      → f standing.Apart ≡ standing.Apart
      → ((st : Status) (since last now : ℕ) (s : Standing) → since < now → is_ended st ≡ false → Stands st since last s → StandsNear st since last now (f s))
      → ((k : ℕ) → Names was.frame.slots x k → (is_held kd ≡ true) ⊎ NamesNone was.callers k)
      → Moves m (clock_in w a (slice_get was.frame.slots x) (λ c. done w a (onward was) (only c f) e))
  use_moves i here x kd f e named other on one zero' alone goes rows becomes keeps apart near below =
      let c = at_it i here in
      let v = slot_there m (stands_on w.clocks a) (length w.clocks) w.steps was me.u i c x named in
      clock_moves m w a (slice_get was.frame.slots x) v.0 (λ k. done w a (onward was) (only k f) e) v.1
      ((rows x (kind_of (looks w.clocks a) v.0) (row_allowed m (stands_on w.clocks a) (length w.clocks) w.steps was me.u i c x v.0 v.1)).here refl).0
      (λ k is. done_sound m w a was (onward was) (only k f) sound found (record {
        next = left_so (λ j. kind_by (only k f j (stands_on w.clocks a j))) (length w.clocks) (onward was)
            (using m (stands_on w.clocks a) (length w.clocks) w.steps was me.u i c x k kd f (v.1 ∙ ap (λ z. Some z) is) other on rows (becomes (stands_on w.clocks a k)) keeps
            (below k (v.1 ∙ ap (λ z. Some z) is)));
        apart = λ j. only_apart k j f apart;
        stands = λ j d at. only_near was.status was.since d.last (w.steps + 1) k j f (standing_of d a) (kept j d at)
            (near was.status was.since d.last (w.steps + 1) (standing_of d a) (let h = me.since in omega arith) (ap is_ended running) ((sound.clocks j d at).stands a was found));
        paid = rw zero' at (paid_on m me.u i was (onward was) (taken i here (onward was)) (record { unit = refl; callers = refl }) running goes one alone);
      }))

  -- `resume`
  resume_moves : (x : ℕ) → Here (instr.Resume x) → Moves m (carried_out m w a was (instr.Resume x))
  resume_moves x here = use_moves (instr.Resume x) here x kind.Resumed resumed event.Resumed (inl refl) refl (inl refl) refl refl refl (refl, λ s differs. refl)
      (uses_row x kind.Resumed) resumed_kind resumed_held refl (λ st since last now s before e h. resumed_near st st since last now s before e h) (λ k named. inl refl)

  -- no frame that waits names a clock that a slot names which may be dropped
  unnamed : (x : ℕ) → Here (instr.Drop x) → (k : ℕ) → Names was.frame.slots x k → (fs : List Frame)
      → AreWaiting m (looks w.clocks a) was.status (length w.clocks) was.frame fs → NamesNone fs k
  unnamed x here k named [] waiting = tt
  unnamed x here k named (f ∷ fs) waiting =
      let same : waiting.0.v ≡ me.u = same_Some waiting.0.v me.u (sym waiting.0.callee ∙ me.unit) in
      let lent : takes_clock (slice_get me.u.params x) ≡ false = (at_it (instr.Drop x) here).fit.undropped x was.frame.place here
      (ap (λ v. is_method v.kind) (sym same) ∙ waiting.0.method) in
      elim (waiting.0.shares x k named) [
        | inl q ↦ absurd (false≢true (sym lent ∙ ap (λ v. takes_clock (slice_get v.params x)) (sym same) ∙ ap takes_clock q.1))
        | inr q ↦ q.1
      ]

  -- `drop`
  drop_moves : (x : ℕ) → Here (instr.Drop x) → Moves m (carried_out m w a was (instr.Drop x))
  drop_moves x here = use_moves (instr.Drop x) here x kind.Out dropped event.Dropped (inl refl) refl (inl refl) refl refl refl (refl, λ s differs. refl)
      (uses_row x kind.Out) (λ s h. refl) (λ s h. absurd (false≢true h)) refl (λ st since last now s before e h. dropped_near st since last now)
      (λ k named. inr (unnamed x here k named was.callers me.waiting))

  -- the first half of `advance`
  advance_moves : Here instr.Advance → Moves m (carried_out m w a was instr.Advance)
  advance_moves here = done_sound m w a was (arrived was) (all resumed) sound found (record {
    next = left_so (λ k. kind_by (resumed (stands_on w.clocks a k))) (length w.clocks) (arrived was)
        (arriving m (stands_on w.clocks a) (length w.clocks) w.steps was me.u (at_it instr.Advance here));
    apart = λ k. refl;
    stands = λ k c at. resumed_near was.status status.Arrived was.since c.last (w.steps + 1) (standing_of c a) (let h = me.since in omega arith) refl
        ((sound.clocks k c at).stands a was found);
    paid = paid_arrive m me.u instr.Advance was (arrived was) (taken instr.Advance here (arrived was)) (record { unit = refl; callers = refl }) refl refl refl refl;
  })

  -- the end of an activity
  end_moves : Here instr.Ret → was.callers ≡ [] → Moves m (done w a (ended was) (all dropped) event.Ended)
  end_moves here none' = done_sound m w a was (ended was) (all dropped) sound found (record {
    next = left_so (λ k. kind_by (dropped (stands_on w.clocks a k))) (length w.clocks) (ended was)
        (ending m (stands_on w.clocks a) (length w.clocks) w.steps was me.u (at_it instr.Ret here) none');
    apart = λ k. refl;
    stands = λ k c at. dropped_near status.Ended was.since c.last (w.steps + 1);
    paid = paid_end m me.u instr.Ret was (ended was) (taken instr.Ret here (ended was)) (record { unit = refl; callers = refl }) refl refl;
  })

  -- a step that changes nothing but the frames
  frames_move : (act : Activity) → act.status ≡ was.status → act.since ≡ was.since → IsActivitySound m (looks w.clocks a) (length w.clocks) (w.steps + 1) act → IsPaid m was act 0
      → Moves m (done w a act none event.Local)
  frames_move act st sc next paid = done_sound m w a was act none sound found (record { next = next; apart = λ k. refl; stands = λ k c at. rw (st, sc) (kept k c at); paid = paid })

  -- the end of a method: the frame that waited goes on
  back_moves : Here instr.Ret → (f : Frame) (fs : List Frame) → was.callers ≡ f ∷ fs → Moves m (done w a (back_in was f fs) none event.Local)
  back_moves here f fs under = frames_move (back_in was f fs) refl refl
      (record {
        since = (let h = me.since in omega arith);
        u = top.u;
        unit = top.found;
        frame = record {
          slots = top.frame.slots;
          place = (unit_fits m ok.shape f.unit top.u top.found).next (instr.Call was.frame.unit top.args) f.place top.call refl;
          known = top.frame.known;
          apart = top.frame.apart;
        };
        kinds = λ s v at. subst (λ st. Expects m top.u st (f.place + 1) s (kind_of (looks w.clocks a) v)) (sym running) (visited s v at);
        advance = λ e. absurd (grind (arith, running));
        held = λ c h. holds c h (subst (λ list. NamedIn (was.frame ∷ list) c) under (me.held c h));
        waiting = still_waiting m (looks w.clocks a) (looks w.clocks a) was.status was.status (length w.clocks) (length w.clocks) (omega arith) f
            (record f { place = f.place + 1 }) fs waiting.1 refl
            (λ v at t c named. inl named) (λ c. inl refl);
        room = top.room;
        alone = λ e. absurd (grind (arith, running));
      })
      (paid_back m me.u instr.Ret was (back_in was f fs) (taken instr.Ret here (back_in was f fs)) f fs top.u top.found under refl refl)
    where
      waiting : AreWaiting m (looks w.clocks a) was.status (length w.clocks) was.frame (f ∷ fs)
      waiting = subst (AreWaiting m (looks w.clocks a) was.status (length w.clocks) was.frame) under me.waiting

      top : IsWaiting m (looks w.clocks a) was.status (length w.clocks) was.frame f fs
      top = waiting.0

      visited : (s : ℕ) (v : Value) → slice_get f.slots s ≡ Some v → IsVisited m top.u s (record { at = f.place + 1; kind = kind_of (looks w.clocks a) v })
      visited s v at = subst (λ st. IsVisited m top.u s (record { at = f.place + 1; kind = once_past st (kind_of (looks w.clocks a) v) })) running
          (waits_now (is_lent top.v.params top.args s) (once_past was.status (kind_of (looks w.clocks a) v))
          (λ k. IsVisited m top.u s (record { at = f.place + 1; kind = k })) (top.waits s v at))

      -- a slot of the method's own is not held when it returns
      lost : (t c : ℕ) → Names was.frame.slots t c → length top.v.params ≤ t → is_held (looks w.clocks a c) ≡ false
      lost t c named own' =
          let same : top.v ≡ me.u = same_Some top.v me.u (sym top.callee ∙ me.unit) in
          let is : is_own me.u t ≡ true = subst (λ v. is_own v t ≡ true) same (own_slot top.v t top.method own') in
          (over_row (looks w.clocks a c) (becomes (looks w.clocks a c))
          (subst (λ b. Allowed (cond b (overwritten (looks w.clocks a c) (becomes (looks w.clocks a c))) (becomes (looks w.clocks a c)))) is
          (row_allowed m (stands_on w.clocks a) (length w.clocks) w.steps was me.u instr.Ret (at_it instr.Ret here) t (value.Clock c) named))).0

      holds : (c : ℕ) → is_held (looks w.clocks a c) ≡ true → NamedIn (was.frame ∷ f ∷ fs) c → NamedIn (f ∷ fs) c
      holds c h (inl p) = elim (top.shares p.0 c p.1) [ inl q ↦ inl (q.0, q.3) | inr q ↦ absurd (false≢true (sym (lost p.0 c p.1 q.0) ∙ h)) ]
      holds c h (inr below) = below

  -- `ret`
  ret_moves : Here instr.Ret → Moves m (carried_out m w a was instr.Ret)
  ret_moves here = by was.callers refl
    where
      by : (fs : List Frame) → was.callers ≡ fs → Moves m (returning w a was fs)
      by [] e = end_moves here e
      by (f ∷ fs) e = back_moves here f fs e

  -- `call`, with values that are given
  called_moves : (t : ℕ) (args : List ℕ) → Here (instr.Call t args) → (r : IsRun is_method m was.frame.unit t args) (values : List Value)
      → AreGiven (stands_on w.clocks a) was.frame.slots r.v.params args values → Moves m (done w a (called m was t values) none event.Local)
  called_moves t args here r values given = frames_move (called m was t values) refl refl
      (record {
        since = (let h = me.since in omega arith);
        u = r.v;
        unit = r.found;
        frame = begins.frame;
        kinds = λ s x h. subst (λ st. Expects m r.v st 0 s (kind_of (looks w.clocks a) x)) (sym running) (begins.kinds s x h);
        advance = λ e. absurd (grind (arith, running));
        held = λ c h. inr (me.held c h);
        waiting = (
          record {
            u = me.u;
            found = me.unit;
            frame = me.frame;
            v = r.v;
            callee = r.found;
            method = r.fits;
            args = args;
            call = here;
            waits = λ s x at. subst (λ st. Waits (is_lent r.v.params args s) (once_past st (kind_of (looks w.clocks a) x))
                (λ k. IsVisited m me.u s (record { at = was.frame.place + 1; kind = k }))) (sym running) (waits s x at);
            shares = λ z c named. inl (begins.names z c named);
            room = me.room;
          },
          me.waiting,
        );
        room = omega (
          arith,
          sum_by-cons (λ f. length f.slots) was.frame was.callers,
          me.room,
          me.frame.slots,
          stack_called m ok.shape was.frame.unit me.u me.unit was.frame.place t args here,
        );
        alone = λ e. absurd (grind (arith, running));
      })
      (paid_call m me.u i was (called m was t values) (taken i here (called m was t values)) t ok.shape r.v r.found refl running refl refl refl refl refl (refl, λ s differs. refl))
    where
      i : Instr
      i = instr.Call t args

      begins : Begun m (stands_on w.clocks a) (looks w.clocks a) (length w.clocks) was.frame.slots t r.v args (frame_with m t values)
      begins = frame_begun m sound.limits ok.shape (stands_on w.clocks a) (looks w.clocks a) (length w.clocks) me.u was.frame me.frame t r.v r.found args
          r.once values given (λ s k h. refl)

      params : params_of m t ≡ r.v.params
      params = ap (λ o. option_map_or (λ u. u.params) o []) r.found

      -- the row of the call
      row : (s : ℕ) (k : Kind) → after m me.u i s k ≡ gives r.v.params args s k (across (is_lent r.v.params args s) k)
      row s k = ap (λ ps. gives ps args s k (across (is_lent ps args s) k)) params

      allowed : (s : ℕ) (x : Value) → slice_get was.frame.slots s ≡ Some x
          → Allowed (gives r.v.params args s (kind_of (looks w.clocks a) x) (across (is_lent r.v.params args s) (kind_of (looks w.clocks a) x)))
      allowed s x at = subst Allowed (row s (kind_of (looks w.clocks a) x)) (row_allowed m (stands_on w.clocks a) (length w.clocks) w.steps was me.u i (at_it i here) s x at)

      waits : (s : ℕ) (x : Value) → slice_get was.frame.slots s ≡ Some x
          → Waits (is_lent r.v.params args s) (kind_of (looks w.clocks a) x) (λ k. IsVisited m me.u s (record { at = was.frame.place + 1; kind = k }))
      waits s x at =
          let k = kind_of (looks w.clocks a) x in
          let same = row s k ∙ gives_row r.v.params args s k (across (is_lent r.v.params args s) k) (allowed s x at) in
          across_waits (is_lent r.v.params args s) k (λ j. IsVisited m me.u s (record { at = was.frame.place + 1; kind = j }))
          (λ e. gives_held r.v.params args s k (across (is_lent r.v.params args s) k) (allowed s x at) e)
          (λ new may. next_visited m (stands_on w.clocks a) (length w.clocks) w.steps was me.u i (at_it i here) s x new (was.frame.place + 1) (inl refl) at
          (subst (λ z. MayBecome z new) (sym same) may))

  -- `call`
  call_moves : (t : ℕ) (args : List ℕ) → Here (instr.Call t args) → Moves m (carried_out m w a was (instr.Call t args))
  call_moves t args here =
      let i = instr.Call t args in
      let c = at_it i here in
      let r = call_fits m ok.shape was.frame.unit me.u me.unit t args was.frame.place here in
      let params : params_of m t ≡ r.v.params = ap (λ o. option_map_or (λ u. u.params) o []) r.found in
      rw (r.found, r.fits) (arguments_move m w a was r.v.params args (λ z k. across (is_lent r.v.params args z) k)
      (λ values. done w a (called m was t values) none event.Local) r.count
      (λ x named. slot_there m (stands_on w.clocks a) (length w.clocks) w.steps was me.u i c x named)
      (λ z v at. subst (λ ps. Allowed (gives ps args z (kind_of (looks w.clocks a) v) (across (is_lent ps args z) (kind_of (looks w.clocks a) v)))) params
      (row_allowed m (stands_on w.clocks a) (length w.clocks) w.steps was me.u i c z v at))
      (λ values given. called_moves t args here r values given))

  -- `spawn`, with values that are given
  started_moves : (t : ℕ) (args : List ℕ) → Here (instr.Spawn t args) → (s : IsRun is_body m was.frame.unit t args) (values : List Value)
      → AreGiven (stands_on w.clocks a) was.frame.slots s.v.params args values → Moves m (spawned m w a was t values)
  started_moves t args here s values given =
      let i = instr.Spawn t args in
      let new = child m a was t values in
      begun_sound m w a was (onward was) new (is_given values) sound found (record {
        next = left_so (looks w.clocks a) (length w.clocks) (onward was) (leaving m (stands_on w.clocks a) (length w.clocks) w.steps was me.u i (at_it i here) refl (inl refl)
            (λ z k h. subst (λ row. MayBecome row k) (sym (gives_row (params_of m t) args z k (becomes k) h)) (inl refl)));
        begins = child_sound m sound.limits ok.shape (stands_on w.clocks a) (length w.clocks) w.steps (w.steps + 1) a was (omega arith) me t s.v s.found args s.once values given;
        same_status = refl;
        same_since = refl;
        new_status = sym running;
        new_since = refl;
        shared = paid_start m me.u i was (onward was) (taken i here (onward was)) new t (record { unit = refl; callers = refl }) running (refl, λ z differs. refl) refl refl refl
            (λ weight half. owed_first weight half m ok.shape new s.v s.found refl refl refl);
      })

  -- `spawn`
  spawn_moves : (t : ℕ) (args : List ℕ) → Here (instr.Spawn t args) → Moves m (carried_out m w a was (instr.Spawn t args))
  spawn_moves t args here =
      let i = instr.Spawn t args in
      let c = at_it i here in
      let s = start_fits m ok.shape was.frame.unit me.u me.unit t args was.frame.place here in
      let params : params_of m t ≡ s.v.params = ap (λ o. option_map_or (λ u. u.params) o []) s.found in
      rw (s.found, s.fits) (arguments_move m w a was s.v.params args (λ z k. becomes k) (spawned m w a was t) s.count
      (λ x named. slot_there m (stands_on w.clocks a) (length w.clocks) w.steps was me.u i c x named)
      (λ z v at. subst (λ ps. Allowed (gives ps args z (kind_of (looks w.clocks a) v) (becomes (kind_of (looks w.clocks a) v)))) params
      (row_allowed m (stands_on w.clocks a) (length w.clocks) w.steps was me.u i c z v at))
      (λ values given. started_moves t args here s values given))

  -- nothing keeps an instruction back: at an `endfinish` a finish is open, and nobody is awaited
  abbrev pub IsFree : Instr → Type 0
  IsFree (instr.EndFinish b) = (n : ℕ) × (was.opened ≡ suc n) × (awaits w.activities (innermost a was) ≡ false)
  IsFree _ = Unit {0}

  -- every instruction that nothing keeps back is a step
  instruction_moves : (i : Instr) → Here i → IsFree i → Moves m (carried_out m w a was i)
  instruction_moves (instr.Lit d n) here free = lit_moves d n here
  instruction_moves (instr.Copy d x) here free = copy_moves d x here
  instruction_moves (instr.Add d x y) here free = computing_moves (instr.Add d x y) here (int_wrapping_add w64) d x y refl refl refl
      (inl refl) refl refl refl (λ s k. refl) (λ n. (refl, others_stay d (value.Number n)))
  instruction_moves (instr.Sub d x y) here free = computing_moves (instr.Sub d x y) here (int_wrapping_sub w64) d x y refl refl refl
      (inl refl) refl refl refl (λ s k. refl) (λ n. (refl, others_stay d (value.Number n)))
  instruction_moves (instr.Mul d x y) here free = computing_moves (instr.Mul d x y) here (int_wrapping_mul w64) d x y refl refl refl
      (inl refl) refl refl refl (λ s k. refl) (λ n. (refl, others_stay d (value.Number n)))
  instruction_moves (instr.Unless op x y t) here free = unless_moves op x y t here
  instruction_moves (instr.Jump t) here free = jump_moves t here
  instruction_moves (instr.For k lo hi e) here free = for_moves k lo hi e here
  instruction_moves (instr.ForTo k lo x hi e) here free = forto_moves k lo x hi e here
  instruction_moves (instr.Next b) here free = next_moves b here
  instruction_moves (instr.Get d s) here free = get_moves d s here
  instruction_moves (instr.Put s x) here free = store_moves s x here
  instruction_moves (instr.AddTo s x) here free = add_moves s x here
  instruction_moves (instr.Finish e) here free = finish_moves e here
  instruction_moves (instr.EndFinish b) here free = close_moves b free.0 here free.1 free.2
  instruction_moves (instr.Print x) here free = print_moves x here
  instruction_moves (instr.Make d) here free = make_moves d here
  instruction_moves (instr.Resume x) here free = resume_moves x here
  instruction_moves (instr.Drop x) here free = drop_moves x here
  instruction_moves instr.Advance here free = advance_moves here
  instruction_moves (instr.Call t args) here free = call_moves t args here
  instruction_moves (instr.Spawn t args) here free = spawn_moves t args here
  instruction_moves instr.Ret here free = ret_moves here

  -- the instruction that it stands at
  pub standing_at : (i : Instr) × Here i
  standing_at = get_inside me.u.code was.frame.place me.frame.place

  pub instruction_found : (i : Instr) → Here i → instruction_at m was.frame ≡ Some i
  instruction_found i here = ap (option_and_then (λ unit. slice_get unit.code was.frame.place)) me.unit ∙ here

  -- an activity that runs takes a step, where nothing keeps it back
  pub running_moves : (i : Instr) → Here i → IsFree i → Moves m (run_at m w a was (instruction_at m was.frame))
  running_moves i here free = subst (λ o. Moves m (run_at m w a was o)) (sym (instruction_found i here)) (instruction_moves i here free)
