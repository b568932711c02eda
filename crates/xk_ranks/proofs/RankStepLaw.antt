-- A step by its rank does the same, in the world without the activities that have ended: walked over each instruction once.
use Rattle.std.proofs.Common.{◌≡◌, ℕ, zero, suc, ◌+◌, ◌==◌, ℤ, ◌<◌, int_lt, int_le, not, Bool, true, false, true≢false, cond, List, []}
use Rattle.std.proofs.Common.{◌∷◌, ◌++◌, map, length, set, Some, None, Option, option_map, inl, inr, refl, sym, ap, ◌∙◌, subst}
use Rattle.std.proofs.Common.{arith, length-set}
use Rattle.std.specs.Prelude.{slice_get, option_and_then}
use Rattle.std.specs.Int.{w64, int_min, int_wrapping_add, int_wrapping_sub, int_wrapping_mul}
use Rattle.std.proofs.lemmas.List.{length-map, length_push}
use Rattle.std.proofs.lemmas.Option.{slice_get-map, slice_get_within, same_Some}
use Rattle.xk_types.specs.declared.instr.Instr.{Instr}
use Rattle.xk_types.specs.declared.instr.Instr.TheVariants as instr
use Rattle.xk_types.specs.declared.world.Value.{Value}
use Rattle.xk_types.specs.declared.world.Value.TheVariants as value
use Rattle.xk_types.specs.declared.world.Status.{Status}
use Rattle.xk_types.specs.declared.world.Status.TheVariants as status
use Rattle.xk_types.specs.declared.world.Standing.{Standing}
use Rattle.xk_types.specs.declared.world.Event.{Event}
use Rattle.xk_types.specs.declared.world.Event.TheVariants as event
use Rattle.xk_types.specs.declared.unit.ParamKind.{ParamKind}
use Rattle.xk_types.specs.declared.unit.ParamKind.TheVariants as param
use Rattle.xk_types.specs.Code.{UnitValue, ModuleValue, compares, is_method, is_body, Loop, loop_head}
use Rattle.xk_types.specs.World.{Frame, Finish, Activity, Clock, World, is_ended, standing_of, instruction_at}
use Rattle.xk_types.specs.Step.{Outcome, Blocked, Wrong, Stepped, ClockUse, OutOfRange, is_registered, number_in, clock_in, registered_on}
use Rattle.xk_types.specs.Step.{put_in, slot_at, arguments_in, computing, no_further, beginning, turning, again, spawned, spawning}
use Rattle.xk_types.specs.Step.{carried_out, run_at, made, moved, joined, new_clock, is_given, child, governing, waits, passing, passed}
use Rattle.xk_types.specs.Step.{past, step_by, step, called, calling, back_in, returning, onward, going as gone, with_slots}
use Rattle.xk_types.specs.Step.{entered, left, ended, arrived, awaits, innermost, closing, cell_in, stored, done, none, only, all}
use Rattle.xk_types.specs.Step.{resumed, dropped, settled}
use Rattle.xk_types.proofs.ListLemmas.{Each, each_set, each_push, get-set_other, get_push, get-push_other}
use Rattle.xk_law_schedules.proofs.ScopeLemmas.FinishOwnerLemmas.{AreOwned}
use Rattle.xk_law_commute.proofs.AwaitIndependenceLemmas.{same_or_not}
use Rattle.xk_law_commute.proofs.ListLemmas.{map_push}
use Rattle.xk_ranks.specs.Ranks.{kept, rank, governed_ranked, clock_kept, acts_kept, going, remains, ComesToRemains}
use Rattle.xk_ranks.proofs.RankListLemmas.{IsMarked, AreFewer}
use Rattle.xk_ranks.proofs.RankWorldLemmas.{standing-kept, IsClear, AreClear, settled-kept, moved-kept, moved-clear, joined-kept}
use Rattle.xk_ranks.proofs.RankWorldLemmas.{joined-clear, new-kept, new-clear, waits-kept, act-kept, set_act-kept, push_act-kept}
use Rattle.xk_ranks.proofs.RankWorldLemmas.{child-ranked, AreMarkedOwners, awaits-kept, remains-kept}

-- What the law asks of a world: each clock has a standing of each activity, and those that have ended stand apart; who owns the finish that
-- governs an activity has a smaller number, and hasn't ended if that one hasn't.
pub record IsFit (w : World) : Type 0 where
  pub clear : AreClear (going w.activities) w.clocks
  pub owned : AreOwned w.activities
  pub owners : AreMarkedOwners (going w.activities) w.activities

-- ---- who hasn't ended

-- the mark of an activity
pub mark_of : (acts : List Activity) (b : ℕ) (x : Activity) → slice_get acts b ≡ Some x
    → slice_get (going acts) b ≡ Some (not (is_ended x.status))
mark_of acts b x found = slice_get-map (λ (act : Activity). not (is_ended act.status)) acts b
    ∙ ap (option_map (λ (act : Activity). not (is_ended act.status))) found

pub marked_alive : (acts : List Activity) (b : ℕ) (x : Activity) → slice_get acts b ≡ Some x → is_ended x.status ≡ false
    → IsMarked (going acts) b
marked_alive acts b x found alive = mark_of acts b x found ∙ ap (λ p. Some (not p)) alive

-- one that changes hadn't ended: so nobody goes on who had
fewer_set : (acts : List Activity) (a : ℕ) (next : Activity) → IsMarked (going acts) a → AreFewer (going (set acts a next)) (going acts)
fewer_set acts a next at b h = elim (same_or_not b a) [
  | inl same ↦ subst (IsMarked (going acts)) (sym same) at
  | inr differs ↦
      slice_get-map (λ (act : Activity). not (is_ended act.status)) acts b
      ∙ ap (option_map (λ (act : Activity). not (is_ended act.status))) (sym (get-set_other acts a b next differs))
      ∙ sym (slice_get-map (λ (act : Activity). not (is_ended act.status)) (set acts a next) b) ∙ h
]

fewer_push : (gs ms : List Bool) (g : Bool) → length gs ≡ length ms → AreFewer gs ms → AreFewer (gs ++ g ∷ []) (ms ++ true ∷ [])
fewer_push gs ms g wide fewer b h = elim (same_or_not b (length ms)) [
  | inl same ↦ ap (slice_get (ms ++ true ∷ [])) same ∙ get_push ms true
  | inr differs ↦
      get-push_other ms true b differs ∙ fewer b (sym (get-push_other gs g b (λ e. differs (e ∙ wide))) ∙ h)
]

module _ (m : ModuleValue) (w : World) (fit : IsFit w) (a : ℕ) (act : Activity) (found : slice_get w.activities a ≡ Some act)
    (alive : is_ended act.status ≡ false) where
  abbrev ms : List Bool
  ms = going w.activities

  -- the world without those that have ended, the activity's rank, and the activity there
  abbrev v : World
  v = remains w

  abbrev b : ℕ
  b = rank ms a

  abbrev there : Activity
  there = governed_ranked ms act

  marked : IsMarked ms a
  marked = marked_alive w.activities a act found alive

  wide : length ms ≡ length w.activities
  wide = length-map w.activities (λ (x : Activity). not (is_ended x.status))

  out : (c : ℕ) (x : Activity) → slice_get ms c ≡ Some false → slice_get w.activities c ≡ Some x → is_ended x.status ≡ true
  out c x at is = by (is_ended x.status) (same_Some _ _ (sym (mark_of w.activities c x is) ∙ at))
    where
      by : (p : Bool) → not p ≡ false → p ≡ true
      by true h = refl
      by false h = absurd (true≢false h)

  mine : (o : ℕ) → (innermost a act).owner ≡ Some o → IsMarked ms o
  mine o own = subst (IsMarked ms) (same_Some a o own) marked

  -- ---- operands

  number_same : (o : Option Value) (go later : ℤ → Outcome) → ((n : ℤ) → ComesToRemains (go n) (later n))
      → ComesToRemains (number_in o go) (number_in o later)
  number_same None go later h = refl
  number_same (Some value.Unset) go later h = refl
  number_same (Some (value.Number n)) go later h = h n
  number_same (Some (value.Clock c)) go later h = refl

  registered_same : (o : Option Clock) (go later : Outcome) → ComesToRemains go later
      → ComesToRemains (registered_on o a go) (registered_on (option_map (clock_kept ms) o) b later)
  registered_same None go later h = refl
  registered_same (Some c) go later h = rw (standing-kept ms a c marked) (by (is_registered (standing_of c a)))
    where
      by : (p : Bool) → ComesToRemains (cond p go (Wrong ClockUse)) (cond p later (Wrong ClockUse))
      by true = h
      by false = refl

  clock_same : (o : Option Value) (go later : ℕ → Outcome) → ((c : ℕ) → ComesToRemains (go c) (later c))
      → ComesToRemains (clock_in w a o go) (clock_in v b o later)
  clock_same None go later h = refl
  clock_same (Some value.Unset) go later h = refl
  clock_same (Some (value.Number n)) go later h = refl
  clock_same (Some (value.Clock c)) go later h =
      rw (slice_get-map (clock_kept ms) w.clocks c) (registered_same (slice_get w.clocks c) (go c) (later c) (h c))

  cell_same : (o : Option ℤ) (go later : ℤ → Outcome) → ((n : ℤ) → ComesToRemains (go n) (later n))
      → ComesToRemains (cell_in o go) (cell_in o later)
  cell_same None go later h = refl
  cell_same (Some n) go later h = h n

  put_same : (o : Option Value) (d : ℕ) (x : Value) (go later : Activity → Outcome)
      → ((next : Activity) → ComesToRemains (go next) (later (governed_ranked ms next)))
      → ComesToRemains (put_in o act d x go) (put_in o there d x later)
  put_same None d x go later h = refl
  put_same (Some old) d x go later h = h (onward (with_slots act (set act.frame.slots d x)))

  arguments_same : (ps : List ParamKind) (xs : List ℕ) (go later : List Value → Outcome)
      → ((values : List Value) → ComesToRemains (go values) (later values))
      → ComesToRemains (arguments_in w a act ps xs go) (arguments_in v b there ps xs later)
  arguments_same [] [] go later h = h []
  arguments_same [] (x ∷ xs) go later h = refl
  arguments_same (p ∷ ps) [] go later h = refl
  arguments_same (param.Number ∷ ps) (x ∷ xs) go later h =
      number_same (slot_at act x) _ _ (λ n. arguments_same ps xs _ _ (λ values. h (value.Number n ∷ values)))
  arguments_same (param.Clock ∷ ps) (x ∷ xs) go later h =
      clock_same (slot_at act x) _ _ (λ c. arguments_same ps xs _ _ (λ values. h (value.Clock c ∷ values)))

  -- ---- what changes

  -- the end of a step, by the activities, clocks and shared numbers before it
  settled_same : (ns : List Bool) (acts others : List Activity) (cs ds : List Clock) (cells : List ℤ) (e : Event)
      → others ≡ acts_kept ns acts → ds ≡ map (clock_kept ns) cs → AreClear ns cs
      → length (going acts) ≡ length ns → AreFewer (going acts) ns
      → ComesToRemains (Stepped (settled (record w { activities = acts; clocks = cs; cells = cells })) e)
      (Stepped (settled (record w { activities = others; clocks = ds; cells = cells })) e)
  settled_same ns acts others cs ds cells e p q clear many fewer =
      let x : World = record w { activities = acts; clocks = cs; cells = cells } in (
        settled (record w { activities = others; clocks = ds; cells = cells }),
        refl,
        ap remains (ap settled (λ i. record w { activities = p i; clocks = q i; cells = cells }) ∙ settled-kept ns x clear)
            ∙ remains-kept ns (settled x) many fewer,
      )

  many_set : (next : Activity) → length (going (set w.activities a next)) ≡ length ms
  many_set next = length-map (set w.activities a next) (λ (x : Activity). not (is_ended x.status))
      ∙ length-set w.activities a next ∙ sym wide

  -- with these shared numbers
  stored_same : (cells : List ℤ) (next : Activity) (change : ℕ → Standing → Standing) (e : Event)
      → ComesToRemains (done (record w { cells = cells }) a next change e)
      (done (record v { cells = cells }) b (governed_ranked ms next) change e)
  stored_same cells next change e = settled_same ms (set w.activities a next) (set v.activities b (governed_ranked ms next))
      (moved a change w.clocks) (moved b change v.clocks) cells e (set_act-kept ms w.activities a next marked)
      (moved-kept ms a change w.clocks marked) (moved-clear ms a change w.clocks marked fit.clear)
      (many_set next) (fewer_set w.activities a next marked)

  done_same : (next : Activity) (change : ℕ → Standing → Standing) (e : Event)
      → ComesToRemains (done w a next change e) (done v b (governed_ranked ms next) change e)
  done_same next change e = stored_same w.cells next change e

  made_same : (next : Activity) → ComesToRemains (made w a next) (made v b (governed_ranked ms next))
  made_same next =
      let new : Clock = new_clock (length w.activities) a in
      let other : Clock = new_clock (length v.activities) b in
      settled_same ms (set w.activities a next) (set v.activities b (governed_ranked ms next))
      (w.clocks ++ new ∷ []) (v.clocks ++ other ∷ [])
      w.cells event.Made (set_act-kept ms w.activities a next marked)
      (ap (λ c. map (clock_kept ms) w.clocks ++ c ∷ [])
      (ap (λ n. new_clock n b) (length-map (kept ms w.activities) (governed_ranked ms)) ∙ new-kept ms w.activities a marked wide)
      ∙ sym (map_push (clock_kept ms) w.clocks new))
      (each_push (λ j c. IsClear ms c) w.clocks new fit.clear (new-clear ms (length w.activities) a marked wide))
      (many_set next) (fewer_set w.activities a next marked)

  -- the owners of the finishes that govern have numbers of activities
  within_set : Each (λ c (y : Activity). (o : ℕ) → y.governed.owner ≡ Some o → o < length ms) (set w.activities a (onward act))
  within_set = each_set (λ c (y : Activity). (o : ℕ) → y.governed.owner ≡ Some o → o < length ms) w.activities a act (onward act) found
      (within a act found) (λ c x differs at. within c x at)
    where
      within : (c : ℕ) (x : Activity) → slice_get w.activities c ≡ Some x → (o : ℕ) → x.governed.owner ≡ Some o → o < length ms
      within c x at o own =
          (let less = fit.owned c x at o own in let inside = slice_get_within w.activities c x at in omega (arith, less, inside, wide))

  within_child : (o : ℕ) → (governing a act).owner ≡ Some o → o < length ms
  within_child o own = by (act.opened == 0) own
    where
      inside : a < length w.activities
      inside = slice_get_within w.activities a act found

      by : (p : Bool) → (cond p act.governed (innermost a act)).owner ≡ Some o → o < length ms
      by true h = (let less = fit.owned a act found o h in omega (arith, less, inside, wide))
      by false h = (let same : a ≡ o = same_Some a o h in omega (arith, same, inside, wide))

  spawned_same : (t : ℕ) (values : List Value) → ComesToRemains (spawned m w a act t values) (spawned m v b there t values)
  spawned_same t values =
      let new : Activity = child m a act t values in
      let other : Activity = child m b there t values in
      let before : List Activity = set w.activities a (onward act) in
      let rows : going (before ++ new ∷ []) ≡ going before ++ true ∷ [] = map_push (λ (x : Activity). not (is_ended x.status)) before new in
      settled_same (ms ++ true ∷ []) (before ++ new ∷ []) (set v.activities b (onward there) ++ other ∷ [])
      (joined a (is_given values) w.clocks) (joined b (is_given values) v.clocks) w.cells event.Spawned
      (ap (λ zs. zs ++ other ∷ []) (set_act-kept ms w.activities a (onward act) marked)
      ∙ ap (λ x. acts_kept ms before ++ x ∷ []) (child-ranked m ms a act t values)
      ∙ sym (push_act-kept ms before new (wide ∙ sym (length-set w.activities a (onward act))) within_set within_child))
      (joined-kept ms a (is_given values) w.clocks marked fit.clear)
      (joined-clear ms a (is_given values) w.clocks fit.clear)
      (ap length rows ∙ length_push (going before) true ∙ ap (λ n. n + 1) (many_set (onward act)) ∙ sym (length_push ms true))
      (subst (λ gs. AreFewer gs (ms ++ true ∷ [])) (sym rows)
      (fewer_push (going before) ms true (many_set (onward act)) (fewer_set w.activities a (onward act) marked)))

  -- ---- instructions

  write_same : (d : ℕ) (x : Value) (e : Event)
      → ComesToRemains (put_in (slot_at act d) act d x (λ next. done w a next none e))
      (put_in (slot_at act d) there d x (λ next. done v b next none e))
  write_same d x e = put_same (slot_at act d) d x _ _ (λ next. done_same next none e)

  computing_same : (g : ℤ → ℤ → ℤ) (d x y : ℕ) → ComesToRemains (computing w a act g d x y) (computing v b there g d x y)
  computing_same g d x y =
      number_same (slot_at act x) _ _ (λ p. number_same (slot_at act y) _ _ (λ q. write_same d (value.Number (g p q)) event.Local))

  -- one way or the other
  either_same : (p : Bool) (one other : Activity)
      → ComesToRemains (done w a (cond p one other) none event.Local)
      (done v b (cond p (governed_ranked ms one) (governed_ranked ms other)) none event.Local)
  either_same true one other = done_same one none event.Local
  either_same false one other = done_same other none event.Local

  limit_same : (x : Option ℕ) (hi : ℤ) (go later : ℤ → Outcome) → ((top : ℤ) → ComesToRemains (go top) (later top))
      → ComesToRemains (no_further act x hi go) (no_further there x hi later)
  limit_same None hi go later h = h hi
  limit_same (Some x) hi go later h = number_same (slot_at act x) _ _ (λ n. h (int_min n hi))

  beginning_same : (d : ℕ) (lo : ℤ) (t : ℕ) (top : ℤ) → ComesToRemains (beginning w a act d lo t top) (beginning v b there d lo t top)
  beginning_same d lo t top = by (int_le lo top)
    where
      by : (p : Bool) → ComesToRemains (cond p (put_in (slot_at act d) act d (value.Number lo) (λ next. done w a next none event.Local))
          (done w a (gone act t) none event.Local))
          (cond p (put_in (slot_at act d) there d (value.Number lo) (λ next. done v b next none event.Local))
          (done v b (gone there t) none event.Local))
      by true = write_same d (value.Number lo) event.Local
      by false = done_same (gone act t) none event.Local

  turning_same : (t : ℕ) (o : Option Loop) → ComesToRemains (turning w a act t o) (turning v b there t o)
  turning_same t None = refl
  turning_same t (Some l) = number_same (slot_at act l.slot) _ _
      (λ n. limit_same l.limit l.hi _ _ (λ top. either_same (int_lt n top) (again act t l.slot n) (onward act)))

  calling_same : (t : ℕ) (args : List ℕ) (o : Option UnitValue) → ComesToRemains (calling m w a act t args o) (calling m v b there t args o)
  calling_same t args None = refl
  calling_same t args (Some u) = by (is_method u.kind)
    where
      by : (p : Bool) → ComesToRemains
          (cond p (arguments_in w a act u.params args (λ values. done w a (called m act t values) none event.Local)) (Wrong OutOfRange))
          (cond p (arguments_in v b there u.params args (λ values. done v b (called m there t values) none event.Local)) (Wrong OutOfRange))
      by true = arguments_same u.params args _ _ (λ values. done_same (called m act t values) none event.Local)
      by false = refl

  spawning_same : (t : ℕ) (args : List ℕ) (o : Option UnitValue)
      → ComesToRemains (spawning m w a act t args o) (spawning m v b there t args o)
  spawning_same t args None = refl
  spawning_same t args (Some u) = by (is_body u.kind)
    where
      by : (p : Bool) → ComesToRemains (cond p (arguments_in w a act u.params args (spawned m w a act t)) (Wrong OutOfRange))
          (cond p (arguments_in v b there u.params args (spawned m v b there t)) (Wrong OutOfRange))
      by true = arguments_same u.params args _ _ (spawned_same t)
      by false = refl

  returning_same : (fs : List Frame) → ComesToRemains (returning w a act fs) (returning v b there fs)
  returning_same [] = done_same (ended act) (all dropped) event.Ended
  returning_same (f ∷ fs) = done_same (back_in act f fs) none event.Local

  closing_same : (n : ℕ) → ComesToRemains (closing w a act n) (closing v b there n)
  closing_same zero = refl
  closing_same (suc n) = rw (awaits-kept ms w.activities wide fit.owned fit.owners out (innermost a act) mine)
      (by (awaits w.activities (innermost a act)))
    where
      by : (p : Bool)
          → ComesToRemains (cond p Blocked (done w a (left act n) none event.Closed))
          (cond p Blocked (done v b (left there n) none event.Closed))
      by true = refl
      by false = done_same (left act n) none event.Closed

  passing_same : ComesToRemains (passing w a act) (passing v b there)
  passing_same = rw (waits-kept ms a w marked) (by (waits w a))
    where
      by : (p : Bool) → ComesToRemains (cond p Blocked (done w a (past act (w.steps + 1)) (all passed) event.Passed))
          (cond p Blocked (done v b (past there (w.steps + 1)) (all passed) event.Passed))
      by true = refl
      by false = done_same (past act (w.steps + 1)) (all passed) event.Passed

  put_cell : (c x : ℕ) (g : ℤ → ℤ → ℤ) (e : Event)
      → ComesToRemains (number_in (slot_at act x) (λ n. cell_in (slice_get w.cells c) (λ old. stored w a act c (g old n) e)))
      (number_in (slot_at act x) (λ n. cell_in (slice_get w.cells c) (λ old. stored v b there c (g old n) e)))
  put_cell c x g e = number_same (slot_at act x) _ _
      (λ n. cell_same (slice_get w.cells c) _ _ (λ old. stored_same (set w.cells c (g old n)) (onward act) none e))

  instruction_same : (i : Instr) → ComesToRemains (carried_out m w a act i) (carried_out m v b there i)
  instruction_same (instr.Lit d n) = write_same d (value.Number n) event.Local
  instruction_same (instr.Copy d x) = number_same (slot_at act x) _ _ (λ n. write_same d (value.Number n) event.Local)
  instruction_same (instr.Add d x y) = computing_same (int_wrapping_add w64) d x y
  instruction_same (instr.Sub d x y) = computing_same (int_wrapping_sub w64) d x y
  instruction_same (instr.Mul d x y) = computing_same (int_wrapping_mul w64) d x y
  instruction_same (instr.Unless op x y t) = number_same (slot_at act x) _ _
      (λ p. number_same (slot_at act y) _ _ (λ q. either_same (compares op p q) (onward act) (gone act t)))
  instruction_same (instr.Jump t) = done_same (gone act t) none event.Local
  instruction_same (instr.For d lo hi e) = write_same d (value.Number lo) event.Local
  instruction_same (instr.ForTo d lo x hi e) = limit_same (Some x) hi _ _ (beginning_same d lo (e + 1))
  instruction_same (instr.Next t) = turning_same t (option_and_then (loop_head t) (instruction_at m (record act.frame { place = t })))
  instruction_same (instr.Finish e) = done_same (entered act) none event.Opened
  instruction_same (instr.EndFinish t) = closing_same act.opened
  instruction_same (instr.Get d c) = cell_same (slice_get w.cells c) _ _ (λ n. write_same d (value.Number n) event.Got)
  instruction_same (instr.Put c x) = put_cell c x (λ old n. n) event.Put
  instruction_same (instr.AddTo c x) = put_cell c x (int_wrapping_add w64) event.Added
  instruction_same (instr.Print x) = number_same (slot_at act x) _ _ (λ n. done_same (onward act) none (event.Printed n))
  instruction_same (instr.Make d) =
      rw (length-map w.clocks (clock_kept ms)) (put_same (slot_at act d) d (value.Clock (length w.clocks)) _ _ made_same)
  instruction_same (instr.Resume x) = clock_same (slot_at act x) _ _ (λ c. done_same (onward act) (only c resumed) event.Resumed)
  instruction_same (instr.Drop x) = clock_same (slot_at act x) _ _ (λ c. done_same (onward act) (only c dropped) event.Dropped)
  instruction_same instr.Advance = done_same (arrived act) (all resumed) event.Arrived
  instruction_same (instr.Call t args) = calling_same t args (slice_get m.units t)
  instruction_same (instr.Spawn t args) = spawning_same t args (slice_get m.units t)
  instruction_same instr.Ret = returning_same act.callers

  -- ---- a step

  run_same : (o : Option Instr) → ComesToRemains (run_at m w a act o) (run_at m v b there o)
  run_same None = refl
  run_same (Some i) = instruction_same i

  step_by_same : (st : Status) → ComesToRemains (step_by m w a act st) (step_by m v b there st)
  step_by_same status.Running = run_same (instruction_at m act.frame)
  step_by_same status.Arrived = passing_same
  step_by_same status.Ended = refl

-- So it is with a step of each activity that hasn't ended.
pub step-kept : (m : ModuleValue) (w : World) (fit : IsFit w) (a : ℕ) (act : Activity) (found : slice_get w.activities a ≡ Some act)
    (alive : is_ended act.status ≡ false) → ComesToRemains (step m w a) (step m (remains w) (rank (going w.activities) a))
step-kept m w fit a act found alive =
    rw (
      found,
      act-kept (going w.activities) w.activities a (marked m w fit a act found alive)
          ∙ ap (option_map (governed_ranked (going w.activities))) found,
    )
    (step_by_same m w fit a act found alive act.status)
