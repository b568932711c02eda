-- Steps of one activity in two worlds that look the same to it: they do the same. The one walk over instructions of this crate.
use Rattle.std.proofs.Common.{◌≡◌, ℕ, ◌+◌, ℤ, pos, int_lt, int_le, Bool, true, false, true≢false, cond, List, [], ◌∷◌, length, set, Some, None, Option, option_map, refl, sym, ap, ◌∙◌, subst, inl, inr, ◌⊎◌, is_some, get_or, eq-eqb}
use Rattle.std.specs.Prelude.{slice_get, option_and_then}
use Rattle.std.specs.Int.{w64, int_min, int_wrapping_add, int_wrapping_sub, int_wrapping_mul}
use Rattle.std.specs.Option.{option_map_or}
use Rattle.std.proofs.lemmas.Option.{none-some, same_Some, get_or_from_slice_get}
use Rattle.xk_types.specs.declared.instr.Instr.{Instr}
use Rattle.xk_types.specs.declared.instr.Instr.TheVariants as instr
use Rattle.xk_types.specs.declared.world.Value.{Value}
use Rattle.xk_types.specs.declared.world.Value.TheVariants as value
use Rattle.xk_types.specs.declared.world.Status.{Status}
use Rattle.xk_types.specs.declared.world.Status.TheVariants as status
use Rattle.xk_types.specs.declared.world.Event.{Event}
use Rattle.xk_types.specs.declared.world.Event.TheVariants as event
use Rattle.xk_types.specs.declared.unit.ParamKind.{ParamKind}
use Rattle.xk_types.specs.declared.unit.ParamKind.TheVariants as param
use Rattle.xk_types.specs.Code.{UnitValue, ModuleValue, compares, is_method, is_body, Loop, loop_head}
use Rattle.xk_types.specs.World.{Frame, Activity, Clock, World, standing_of, instruction_at}
use Rattle.xk_types.specs.Step.{Cause, Outcome, Blocked, Wrong, Stepped, ClockUse, OutOfRange, is_registered, number_in, clock_in, registered_on, put_in, slot_at, arguments_in, computing, no_further, beginning, turning, again, spawned, spawning, carried_out, run_at, made, passing, step_by, step, called, calling, back_in, returning, onward, going, with_slots, entered, ended, arrived, closing, cell_in, stored, done, none}
use Rattle.xk_types.specs.Schedule.{number_printed}
use Rattle.xk_law_schedules.proofs.Invariant.{Names}
use Rattle.xk_law_schedules.proofs.StepFormLemmas.{IsNext}
use Rattle.xk_law_commute.specs.Conflicts.{reads, stores, puts}
use Rattle.xk_law_commute.proofs.StepEffect.{Move, Rests, Resumes, Drops, Arrives, Passes, Ends, enacted, aged, prints, IsSum}

-- whether activity a is registered on clock k, if there is one
abbrev pub registers : List Clock → ℕ → ℕ → Option Bool
registers clocks a k = option_map (λ c. is_registered (standing_of c a)) (slice_get clocks k)

-- What is known of what an activity does where it doesn't pass: the same finish governs it afterwards, it ends only as one that is over, and what it writes its
-- instruction touches.
abbrev pub is_pass : Move → Bool
is_pass Passes = true
is_pass _ = false

pub record IsDeed (m : ModuleValue) (act next : Activity) (move : Move) (writes : Option (ℕ × (ℤ → ℤ))) (e : Event) : Type 0 where
  pub runs : act.status ≡ status.Running
  pub governed : next.governed ≡ act.governed
  pub stays : is_pass move ≡ false
  pub silent : option_map_or prints (instruction_at m act.frame) false ≡ false → number_printed e ≡ None
  pub touched : (c : ℕ) (g : ℤ → ℤ) → writes ≡ Some (c, g) → (i : Instr) × IsNext m act i × (stores i c ≡ true) × ((puts i c ≡ true) ⊎ IsSum g)

-- What holds of steps of activity a in worlds w and v that look the same to it, where its `since` is s in v.
pub record HoldsOfPairs (P : Outcome → Outcome → Type 0) (m : ModuleValue) (w v : World) (a : ℕ) (act : Activity) (s : ℕ) : Type 0 where
  pub blocked : P Blocked Blocked
  pub wrong : (c : Cause) → P (Wrong c) (Wrong c)
  pub clocks : (x k : ℕ) → Names act.frame.slots x k → registers v.clocks a k ≡ registers w.clocks a k
  pub cells : (i : Instr) → IsNext m act i → (c : ℕ) → reads i c ≡ true → slice_get v.cells c ≡ slice_get w.cells c
  pub width : (c : ℕ) → is_some (slice_get v.cells c) ≡ is_some (slice_get w.cells c)
  pub does : (next : Activity) (move : Move) (writes : Option (ℕ × (ℤ → ℤ))) (e : Event) → IsDeed m act next move writes e
      → P (Stepped (enacted w a next move writes) e) (Stepped (enacted v a (aged next s) move writes) e)
  pub made : (d : ℕ) (old : Value) → IsNext m act (instr.Make d) → slot_at act d ≡ Some old
      → P (made w a (onward (with_slots act (set act.frame.slots d (value.Clock (length w.clocks))))))
      (made v a (onward (with_slots (aged act s) (set act.frame.slots d (value.Clock (length v.clocks))))))
  pub closing : (b : ℕ) → IsNext m act (instr.EndFinish b) → P (closing w a act act.opened) (closing v a (aged act s) act.opened)
  pub passing : act.status ≡ status.Arrived → P (passing w a act) (passing v a (aged act s))
  pub spawned : (t : ℕ) (args : List ℕ) (values : List Value) → IsNext m act (instr.Spawn t args) → P (spawned m w a act t values) (spawned m v a (aged act s) t values)

module _ (P : Outcome → Outcome → Type 0) (m : ModuleValue) (w v : World) (a : ℕ) (act : Activity) (s : ℕ) (h : HoldsOfPairs P m w v a act s) where
  -- ---- operands

  number_pair : (o : Option Value) (go later : ℤ → Outcome) → ((n : ℤ) → P (go n) (later n)) → P (number_in o go) (number_in o later)
  number_pair None go later f = h.wrong _
  number_pair (Some value.Unset) go later f = h.wrong _
  number_pair (Some (value.Number n)) go later f = f n
  number_pair (Some (value.Clock c)) go later f = h.wrong _

  registered_pair : (o q : Option Clock) → option_map (λ (c : Clock). is_registered (standing_of c a)) q ≡ option_map (λ (c : Clock). is_registered (standing_of c a)) o
      → (go later : Outcome) → P go later → P (registered_on o a go) (registered_on q a later)
  registered_pair None None e go later f = h.wrong _
  registered_pair None (Some d) e go later f = absurd (none-some _ (sym e))
  registered_pair (Some c) None e go later f = absurd (none-some _ e)
  registered_pair (Some c) (Some d) e go later f = by (is_registered (standing_of c a)) (is_registered (standing_of d a)) (same_Some _ _ e)
    where
      by : (p q : Bool) → q ≡ p → P (cond p go (Wrong ClockUse)) (cond q later (Wrong ClockUse))
      by true true g = f
      by false false g = h.wrong _
      by true false g = absurd (true≢false (sym g))
      by false true g = absurd (true≢false g)

  clock_pair : (x : ℕ) (go later : ℕ → Outcome) → ((k : ℕ) → P (go k) (later k)) → P (clock_in w a (slot_at act x) go) (clock_in v a (slot_at act x) later)
  clock_pair x go later f = by (slot_at act x) refl
    where
      by : (o : Option Value) → slot_at act x ≡ o → P (clock_in w a o go) (clock_in v a o later)
      by None e = h.wrong _
      by (Some value.Unset) e = h.wrong _
      by (Some (value.Number n)) e = h.wrong _
      by (Some (value.Clock k)) e = registered_pair (slice_get w.clocks k) (slice_get v.clocks k) (h.clocks x k e) (go k) (later k) (f k)

  cell_pair : (o q : Option ℤ) → q ≡ o → (go later : ℤ → Outcome) → ((n : ℤ) → P (go n) (later n)) → P (cell_in o go) (cell_in q later)
  cell_pair o q e go later f = rw e (by o)
    where
      by : (o : Option ℤ) → P (cell_in o go) (cell_in o later)
      by None = h.wrong _
      by (Some n) = f n

  put_pair : (o : Option Value) (d : ℕ) (x : Value) (go later : Activity → Outcome)
      → ((old : Value) → o ≡ Some old → P (go (onward (with_slots act (set act.frame.slots d x)))) (later (onward (with_slots (aged act s) (set act.frame.slots d x)))))
      → P (put_in o act d x go) (put_in o (aged act s) d x later)
  put_pair None d x go later f = h.wrong _
  put_pair (Some old) d x go later f = f old refl

  arguments_pair : (ps : List ParamKind) (xs : List ℕ) (go later : List Value → Outcome) → ((values : List Value) → P (go values) (later values))
      → P (arguments_in w a act ps xs go) (arguments_in v a (aged act s) ps xs later)
  arguments_pair [] [] go later f = f []
  arguments_pair [] (x ∷ xs) go later f = h.wrong _
  arguments_pair (p ∷ ps) [] go later f = h.wrong _
  arguments_pair (param.Number ∷ ps) (x ∷ xs) go later f = number_pair (slot_at act x) _ _ (λ n. arguments_pair ps xs _ _ (λ values. f (value.Number n ∷ values)))
  arguments_pair (param.Clock ∷ ps) (x ∷ xs) go later f = clock_pair x _ _ (λ k. arguments_pair ps xs _ _ (λ values. f (value.Clock k ∷ values)))

  -- ---- instructions

  module _ (i : Instr) (at : IsNext m act i) where
    -- what is said of the instruction is said of the next one
    silent_by : (e : Event) → (prints i ≡ false → number_printed e ≡ None) → option_map_or prints (instruction_at m act.frame) false ≡ false → number_printed e ≡ None
    silent_by e h g = h (sym (ap (λ o. option_map_or prints o false) at.here) ∙ g)

    -- nothing shared is written
    rests_pair : (next : Activity) → next.governed ≡ act.governed → (move : Move) → is_pass move ≡ false → (e : Event) → (prints i ≡ false → number_printed e ≡ None)
        → P (Stepped (enacted w a next move None) e) (Stepped (enacted v a (aged next s) move None) e)
    rests_pair next governed move stays e silent = h.does next move None e (record { runs = at.runs; governed = governed; stays = stays; silent = silent_by e silent; touched = λ c n g. absurd (none-some _ g) })

    write_pair : (d : ℕ) (x : Value) (e : Event) → (prints i ≡ false → number_printed e ≡ None)
        → P (put_in (slot_at act d) act d x (λ next. done w a next none e)) (put_in (slot_at act d) (aged act s) d x (λ next. done v a next none e))
    write_pair d x e silent = put_pair (slot_at act d) d x _ _ (λ old there. rests_pair (onward (with_slots act (set act.frame.slots d x))) refl Rests refl e silent)

    computing_pair : (g : ℤ → ℤ → ℤ) (d x y : ℕ) → P (computing w a act g d x y) (computing v a (aged act s) g d x y)
    computing_pair g d x y = number_pair (slot_at act x) _ _ (λ p. number_pair (slot_at act y) _ _ (λ q. write_pair d (value.Number (g p q)) event.Local (λ h. refl)))

    branch_pair : (t : ℕ) (b : Bool) → P (done w a (cond b (onward act) (going act t)) none event.Local) (done v a (cond b (onward (aged act s)) (going (aged act s) t)) none event.Local)
    branch_pair t true = rests_pair (onward act) refl Rests refl event.Local (λ h. refl)
    branch_pair t false = rests_pair (going act t) refl Rests refl event.Local (λ h. refl)

    again_pair : (b k : ℕ) (n : ℤ) (x : Bool)
        → P (done w a (cond x (again act b k n) (onward act)) none event.Local) (done v a (cond x (again (aged act s) b k n) (onward (aged act s))) none event.Local)
    again_pair b k n true = rests_pair (again act b k n) refl Rests refl event.Local (λ h. refl)
    again_pair b k n false = rests_pair (onward act) refl Rests refl event.Local (λ h. refl)

    -- where a loop looks at its limit
    limit_pair : (x : Option ℕ) (hi : ℤ) (go later : ℤ → Outcome) → ((top : ℤ) → P (go top) (later top)) → P (no_further act x hi go) (no_further (aged act s) x hi later)
    limit_pair None hi go later f = f hi
    limit_pair (Some x) hi go later f = number_pair (slot_at act x) _ _ (λ n. f (int_min n hi))

    beginning_pair : (k : ℕ) (lo : ℤ) (t : ℕ) (top : ℤ) → P (beginning w a act k lo t top) (beginning v a (aged act s) k lo t top)
    beginning_pair k lo t top = by (int_le lo top)
      where
        by : (b : Bool) → P (cond b (put_in (slot_at act k) act k (value.Number lo) (λ next. done w a next none event.Local)) (done w a (going act t) none event.Local))
            (cond b (put_in (slot_at act k) (aged act s) k (value.Number lo) (λ next. done v a next none event.Local)) (done v a (going (aged act s) t) none event.Local))
        by true = write_pair k (value.Number lo) event.Local (λ h. refl)
        by false = rests_pair (going act t) refl Rests refl event.Local (λ h. refl)

    turning_pair : (b : ℕ) (o : Option Loop) → P (turning w a act b o) (turning v a (aged act s) b o)
    turning_pair b None = h.wrong _
    turning_pair b (Some l) = number_pair (slot_at act l.slot) _ _ (λ n. limit_pair l.limit l.hi _ _ (λ top. again_pair b l.slot n (int_lt n top)))

    calling_pair : (t : ℕ) (args : List ℕ) (o : Option UnitValue) → P (calling m w a act t args o) (calling m v a (aged act s) t args o)
    calling_pair t args None = h.wrong _
    calling_pair t args (Some u) = by (is_method u.kind)
      where
        by : (b : Bool) → P (cond b (arguments_in w a act u.params args (λ values. done w a (called m act t values) none event.Local)) (Wrong OutOfRange))
            (cond b (arguments_in v a (aged act s) u.params args (λ values. done v a (called m (aged act s) t values) none event.Local)) (Wrong OutOfRange))
        by true = arguments_pair u.params args _ _ (λ values. rests_pair (called m act t values) refl Rests refl event.Local (λ h. refl))
        by false = h.wrong _

    returning_pair : (fs : List Frame) → P (returning w a act fs) (returning v a (aged act s) fs)
    returning_pair [] = rests_pair (ended act) refl Ends refl event.Ended (λ h. refl)
    returning_pair (f ∷ fs) = rests_pair (back_in act f fs) refl Rests refl event.Local (λ h. refl)

    put_cell : (c : ℕ) (g : ℤ → ℤ) (e : Event) → (prints i ≡ false → number_printed e ≡ None) → stores i c ≡ true → (puts i c ≡ true) ⊎ IsSum g
        → P (cell_in (slice_get w.cells c) (λ old. stored w a act c (g old) e)) (cell_in (slice_get v.cells c) (λ old. stored v a (aged act s) c (g old) e))
    put_cell c g e silent writes how = by (slice_get w.cells c) (slice_get v.cells c) refl refl (h.width c)
      where
        done_so : P (stored w a act c (g (get_or w.cells c (pos 0))) e) (stored v a (aged act s) c (g (get_or v.cells c (pos 0))) e)
        done_so = h.does (onward act) Rests (Some (c, g)) e (record {
          runs = at.runs;
          governed = refl;
          stays = refl;
          silent = silent_by e silent;
          touched = λ d k q. (
            i,
            at,
            ap (stores i) (ap (λ (z : ℕ × (ℤ → ℤ)). z.0) (sym (same_Some (c, g) (d, k) q))) ∙ writes,
            subst (λ (z : ℕ × (ℤ → ℤ)). (puts i z.0 ≡ true) ⊎ IsSum z.1) (same_Some (c, g) (d, k) q) how,
          );
        })

        by : (o q : Option ℤ) → slice_get w.cells c ≡ o → slice_get v.cells c ≡ q → is_some q ≡ is_some o
            → P (cell_in o (λ old. stored w a act c (g old) e)) (cell_in q (λ old. stored v a (aged act s) c (g old) e))
        by None None p r same = h.wrong _
        by None (Some other) p r same = absurd (true≢false same)
        by (Some old) None p r same = absurd (true≢false (sym same))
        by (Some old) (Some other) p r same =
            subst (λ z. P (stored w a act c (g z) e) (stored v a (aged act s) c (g other) e)) (get_or_from_slice_get w.cells c old (pos 0) p)
            (subst (λ z. P (stored w a act c (g (get_or w.cells c (pos 0))) e) (stored v a (aged act s) c (g z) e)) (get_or_from_slice_get v.cells c other (pos 0) r) done_so)

  spawning_pair : (t : ℕ) (args : List ℕ) → IsNext m act (instr.Spawn t args) → (o : Option UnitValue) → P (spawning m w a act t args o) (spawning m v a (aged act s) t args o)
  spawning_pair t args at None = h.wrong _
  spawning_pair t args at (Some u) = by (is_body u.kind)
    where
      by : (b : Bool) → P (cond b (arguments_in w a act u.params args (spawned m w a act t)) (Wrong OutOfRange))
          (cond b (arguments_in v a (aged act s) u.params args (spawned m v a (aged act s) t)) (Wrong OutOfRange))
      by true = arguments_pair u.params args _ _ (λ values. h.spawned t args values at)
      by false = h.wrong _

  instruction_pair : (i : Instr) → IsNext m act i → P (carried_out m w a act i) (carried_out m v a (aged act s) i)
  instruction_pair (instr.Lit d n) at = write_pair (instr.Lit d n) at d (value.Number n) event.Local (λ h. refl)
  instruction_pair (instr.Copy d x) at = number_pair (slot_at act x) _ _ (λ n. write_pair (instr.Copy d x) at d (value.Number n) event.Local (λ h. refl))
  instruction_pair (instr.Add d x y) at = computing_pair (instr.Add d x y) at (int_wrapping_add w64) d x y
  instruction_pair (instr.Sub d x y) at = computing_pair (instr.Sub d x y) at (int_wrapping_sub w64) d x y
  instruction_pair (instr.Mul d x y) at = computing_pair (instr.Mul d x y) at (int_wrapping_mul w64) d x y
  instruction_pair (instr.Unless op x y t) at =
      number_pair (slot_at act x) _ _ (λ p. number_pair (slot_at act y) _ _ (λ q. branch_pair (instr.Unless op x y t) at t (compares op p q)))
  instruction_pair (instr.Jump t) at = rests_pair (instr.Jump t) at (going act t) refl Rests refl event.Local (λ h. refl)
  instruction_pair (instr.For k lo hi e) at = write_pair (instr.For k lo hi e) at k (value.Number lo) event.Local (λ h. refl)
  instruction_pair (instr.ForTo k lo x hi e) at =
      limit_pair (instr.ForTo k lo x hi e) at (Some x) hi _ _ (λ top. beginning_pair (instr.ForTo k lo x hi e) at k lo (e + 1) top)
  instruction_pair (instr.Next b) at = turning_pair (instr.Next b) at b (option_and_then (loop_head b) (instruction_at m (record act.frame { place = b })))
  instruction_pair (instr.Get d c) at = cell_pair (slice_get w.cells c) (slice_get v.cells c) (h.cells (instr.Get d c) at c (eq-eqb c c refl)) _ _
      (λ n. write_pair (instr.Get d c) at d (value.Number n) event.Got (λ h. refl))
  instruction_pair (instr.Put c x) at = number_pair (slot_at act x) _ _
      (λ n. put_cell (instr.Put c x) at c (λ old. n) event.Put (λ h. refl) (eq-eqb c c refl) (inl (eq-eqb c c refl)))
  instruction_pair (instr.AddTo c x) at = number_pair (slot_at act x) _ _
      (λ n. put_cell (instr.AddTo c x) at c (λ old. int_wrapping_add w64 old n) event.Added (λ h. refl) (eq-eqb c c refl) (inr (n, λ z. refl)))
  instruction_pair (instr.Finish e) at = rests_pair (instr.Finish e) at (entered act) refl Rests refl event.Opened (λ h. refl)
  instruction_pair (instr.EndFinish b) at = h.closing b at
  instruction_pair (instr.Print x) at = number_pair (slot_at act x) _ _ (λ n. rests_pair (instr.Print x) at (onward act) refl Rests refl (event.Printed n) (λ h. absurd (true≢false h)))
  instruction_pair (instr.Make d) at = by (slot_at act d) refl
    where
      by : (o : Option Value) → slot_at act d ≡ o → P (put_in o act d (value.Clock (length w.clocks)) (λ next. made w a next)) (put_in o (aged act s) d (value.Clock (length v.clocks)) (λ next. made v a next))
      by None e = h.wrong _
      by (Some old) e = h.made d old at e
  instruction_pair (instr.Resume x) at = clock_pair x _ _ (λ c. rests_pair (instr.Resume x) at (onward act) refl (Resumes c) refl event.Resumed (λ h. refl))
  instruction_pair (instr.Drop x) at = clock_pair x _ _ (λ c. rests_pair (instr.Drop x) at (onward act) refl (Drops c) refl event.Dropped (λ h. refl))
  instruction_pair instr.Advance at = rests_pair instr.Advance at (arrived act) refl Arrives refl event.Arrived (λ h. refl)
  instruction_pair (instr.Call t args) at = calling_pair (instr.Call t args) at t args (slice_get m.units t)
  instruction_pair (instr.Spawn t args) at = spawning_pair t args at (slice_get m.units t)
  instruction_pair instr.Ret at = returning_pair instr.Ret at act.callers

  -- ---- a step

  pub step_pair : slice_get w.activities a ≡ Some act → slice_get v.activities a ≡ Some (aged act s) → P (step m w a) (step m v a)
  step_pair at then = rw (at, then) (by act.status refl)
    where
      run : act.status ≡ status.Running → (o : Option Instr) → instruction_at m act.frame ≡ o → P (run_at m w a act o) (run_at m v a (aged act s) o)
      run runs None e = h.wrong _
      run runs (Some i) e = instruction_pair i (record { runs = runs; here = e })

      by : (st : Status) → act.status ≡ st → P (step_by m w a act st) (step_by m v a (aged act s) st)
      by status.Running e = run e (instruction_at m act.frame) refl
      by status.Arrived e = h.passing e
      by status.Ended e = h.blocked
