-- Where two neighbours among the clocks have changed places, a step comes to what it comes to without that, with the same change of places.
use Rattle.std.proofs.Common.{◌≡◌, ℕ, ℤ, suc, zero, ◌+◌, ◌<◌, ◌||◌, Bool, true, false, cond, List, [], ◌∷◌, ◌++◌, map, length, set, replicate, Some, None, Option, option_map, int_lt, int_le, pos, ◌+ℤ◌, refl, sym, ap, ◌∙◌}
use Rattle.std.specs.Prelude.{slice_get, ◌-◌, option_and_then}
use Rattle.std.specs.Int.{w64, int_min, int_wrapping_add, int_wrapping_sub, int_wrapping_mul}
use Rattle.std.specs.Option.{option_map_or}
use Rattle.std.proofs.lemmas.List.{length-map, map-set}
use Rattle.std.proofs.lemmas.Option.{slice_get-map}
use Rattle.xk_types.specs.declared.instr.Instr.{Instr}
use Rattle.xk_types.specs.declared.instr.Instr.TheVariants as instr
use Rattle.xk_types.specs.declared.world.Value.{Value}
use Rattle.xk_types.specs.declared.world.Value.TheVariants as value
use Rattle.xk_types.specs.declared.world.Standing.{Standing}
use Rattle.xk_types.specs.declared.world.Status.{Status}
use Rattle.xk_types.specs.declared.world.Status.TheVariants as status
use Rattle.xk_types.specs.declared.world.Event.{Event}
use Rattle.xk_types.specs.declared.world.Event.TheVariants as event
use Rattle.xk_types.specs.declared.unit.ParamKind.{ParamKind}
use Rattle.xk_types.specs.declared.unit.ParamKind.TheVariants as param
use Rattle.xk_types.specs.Code.{UnitValue, ModuleValue, is_method, is_body, compares, Loop, loop_head}
use Rattle.xk_types.specs.World.{Frame, Finish, Activity, Clock, World, standing_of, slots_of, frame_with, instruction_at}
use Rattle.xk_types.specs.Step.{Outcome, Blocked, Wrong, Stepped, ClockUse, OutOfRange, is_registered, is_signalled, settled, settled_clock, number_in, clock_in, registered_on, put_in, slot_at, arguments_in, computing, no_further, beginning, turning, again, moved, joined, is_given, new_clock, child, spawned, spawning, carried_out, run_at, done, made, waits, passing, past, passed, step_by, step_of, step, called, calling, back_in, returning, none, only, all, resumed, dropped, awaits, awaits_from, is_under, under_within, same_finish, innermost, onward, going, with_slots, entered, left, ended, arrived, closing, cell_in, stored}
use Rattle.xk_types.proofs.ListLemmas.{fun_ext}
use Rattle.xk_law_commute.proofs.ListLemmas.{map_push}
use Rattle.xk_law_names.specs.ClockNames.{value_renamed, frame_renamed, activity_renamed, clocks_swapped, outcome_swapped}
use Rattle.xk_law_names.specs.ActivityNames.{neighbours_swapped, renamed}
use Rattle.xk_law_names.proofs.ClockNameListLemmas.{renamed_beyond, moved-swapped, joined-swapped, only-swapped, given-swapped}
use Rattle.xk_law_names.proofs.ActivityNameListLemmas.{length-swapped, get-swapped, map-swapped, any-swapped, append-swapped}

-- ---- what is looked at

-- no activity is under another finish than before
under_swapped : (k : ℕ) (acts : List Activity) (f : Finish) (n b : ℕ)
    → under_within (map (activity_renamed k) acts) f n b ≡ under_within acts f n b
unfolding under_within
under_swapped k acts f zero b = refl
under_swapped k acts f (suc n) b =
    rw (
      slice_get-map (activity_renamed k) acts b,
      fun_ext (under_within (map (activity_renamed k) acts) f n) (under_within acts f n)
          (under_swapped k acts f n),
    )
    (by (slice_get acts b))
  where
    by : (o : Option Activity)
        → option_map_or (λ (x : Activity). same_finish x.governed f || option_map_or (under_within acts f n) x.governed.owner false)
        (option_map (activity_renamed k) o) false
        ≡ option_map_or (λ (x : Activity). same_finish x.governed f || option_map_or (under_within acts f n) x.governed.owner false) o false
    by None = refl
    by (Some x) = refl

is_under_swapped : (k : ℕ) (acts : List Activity) (f : Finish) (b : ℕ) → is_under (map (activity_renamed k) acts) f b ≡ is_under acts f b
is_under_swapped k acts f b =
    ap (λ n. under_within (map (activity_renamed k) acts) f n b) (length-map acts (activity_renamed k))
    ∙ under_swapped k acts f (length acts) b

awaits_swapped : (k : ℕ) (acts : List Activity) (f : Finish) (b : ℕ) (xs : List Activity)
    → awaits_from (map (activity_renamed k) acts) f b (map (activity_renamed k) xs) ≡ awaits_from acts f b xs
awaits_swapped k acts f b [] = refl
awaits_swapped k acts f b (x ∷ xs) = rw (is_under_swapped k acts f b, awaits_swapped k acts f (suc b) xs)

-- ---- what is made

map_append : {X Y : Type 0} (f : X → Y) (xs ys : List X) → map f (xs ++ ys) ≡ map f xs ++ map f ys
map_append f [] ys = refl
map_append f (x ∷ xs) ys = ap (λ zs. f x ∷ zs) (map_append f xs ys)

unset_renamed : (k n : ℕ) → map (value_renamed k) (replicate n value.Unset) ≡ replicate n value.Unset
unset_renamed k zero = refl
unset_renamed k (suc n) = ap (λ zs. value.Unset ∷ zs) (unset_renamed k n)

-- a frame that begins with renamed values is renamed
begins_renamed : (k : ℕ) (m : ModuleValue) (u : ℕ) (values : List Value)
    → frame_with m u (map (value_renamed k) values) ≡ frame_renamed k (frame_with m u values)
begins_renamed k m u values =
    let unset : List Value = replicate (slots_of m u - length values) value.Unset in
    let slots : map (value_renamed k) values ++ replicate (slots_of m u - length (map (value_renamed k) values)) value.Unset
    ≡ map (value_renamed k) (values ++ unset) =
    ap (λ n. map (value_renamed k) values ++ replicate (slots_of m u - n) value.Unset) (length-map values (value_renamed k))
    ∙ ap (λ zs. map (value_renamed k) values ++ zs) (sym (unset_renamed k (slots_of m u - length values)))
    ∙ sym (map_append (value_renamed k) values unset) in
    λ i. record { unit = u; place = 0; slots = slots i }

-- ---- where a step ends

-- The world before its end goes over into the other one: so does the step.
ends_swapped : (k : ℕ) (x : World) (acts : List Activity) (clocks : List Clock) (e : Event)
    → acts ≡ map (activity_renamed k) x.activities → clocks ≡ neighbours_swapped k x.clocks
    → Stepped (settled (record x { activities = acts; clocks = clocks })) e ≡ outcome_swapped k (Stepped (settled x) e)
ends_swapped k x acts clocks e p q =
    let changed : map (settled_clock (x.steps + 1)) clocks ≡ neighbours_swapped k (map (settled_clock (x.steps + 1)) x.clocks) =
    ap (λ cs. map (settled_clock (x.steps + 1)) cs) q ∙ map-swapped (settled_clock (x.steps + 1)) k x.clocks in
    λ i. Stepped (record x { activities = p i; clocks = changed i; steps = x.steps + 1 }) e

module _ (k a : ℕ) (w : World) (inside : suc k < length w.clocks) where
  -- the other world
  abbrev v : World
  v = clocks_swapped k w

  -- activity a becomes another, and its standings change
  done_swapped : (next : Activity) (f g : ℕ → Standing → Standing) (e : Event) → ((c : ℕ) → g (renamed k c) ≡ f c)
      → done v a (activity_renamed k next) g e ≡ outcome_swapped k (done w a next f e)
  done_swapped next f g e same =
      ends_swapped k (record w { activities = set w.activities a next; clocks = moved a f w.clocks })
      (set (map (activity_renamed k) w.activities) a (activity_renamed k next)) (moved a g (neighbours_swapped k w.clocks)) e
      (sym (map-set (activity_renamed k) w.activities a next)) (moved-swapped a k f g w.clocks inside same)

  rests_swapped : (next : Activity) (e : Event) → done v a (activity_renamed k next) none e ≡ outcome_swapped k (done w a next none e)
  rests_swapped next e = done_swapped next none none e (λ c. refl)

  made_swapped : (next : Activity) → made v a (activity_renamed k next) ≡ outcome_swapped k (made w a next)
  made_swapped next =
      ends_swapped k (record w { activities = set w.activities a next; clocks = w.clocks ++ new_clock (length w.activities) a ∷ [] })
      (set (map (activity_renamed k) w.activities) a (activity_renamed k next))
      (neighbours_swapped k w.clocks ++ new_clock (length (map (activity_renamed k) w.activities)) a ∷ []) event.Made
      (sym (map-set (activity_renamed k) w.activities a next))
      (ap (λ n. neighbours_swapped k w.clocks ++ new_clock n a ∷ []) (length-map w.activities (activity_renamed k))
      ∙ sym (append-swapped k w.clocks (new_clock (length w.activities) a ∷ []) inside))

  module _ (m : ModuleValue) (act : Activity) where
    -- the activity there
    abbrev other : Activity
    other = activity_renamed k act

    child_renamed : (t : ℕ) (values : List Value)
        → child m a other t (map (value_renamed k) values) ≡ activity_renamed k (child m a act t values)
    child_renamed t values = λ i. record (child m a act t values) { frame = begins_renamed k m t values i }

    called_renamed : (t : ℕ) (values : List Value)
        → called m other t (map (value_renamed k) values) ≡ activity_renamed k (called m act t values)
    called_renamed t values = λ i. record (activity_renamed k (called m act t values)) { frame = begins_renamed k m t values i }

    spawned_swapped : (t : ℕ) (values : List Value)
        → spawned m v a other t (map (value_renamed k) values) ≡ outcome_swapped k (spawned m w a act t values)
    spawned_swapped t values =
        ends_swapped k (record w {
          activities = set w.activities a (onward act) ++ child m a act t values ∷ [];
          clocks = joined a (is_given values) w.clocks;
        })
        (set (map (activity_renamed k) w.activities) a (activity_renamed k (onward act))
        ++ child m a other t (map (value_renamed k) values) ∷ [])
        (joined a (is_given (map (value_renamed k) values)) (neighbours_swapped k w.clocks)) event.Spawned
        (ap (λ x. set (map (activity_renamed k) w.activities) a (activity_renamed k (onward act)) ++ x ∷ []) (child_renamed t values)
        ∙ ap (λ xs. xs ++ activity_renamed k (child m a act t values) ∷ []) (sym (map-set (activity_renamed k) w.activities a (onward act)))
        ∙ sym (map_push (activity_renamed k) (set w.activities a (onward act)) (child m a act t values)))
        (joined-swapped a k (is_given values) (is_given (map (value_renamed k) values)) w.clocks inside (λ c. given-swapped k c values))

    -- ---- operands

    number_swapped : (x : ℕ) (go later : ℤ → Outcome) → ((n : ℤ) → later n ≡ outcome_swapped k (go n))
        → number_in (slot_at other x) later ≡ outcome_swapped k (number_in (slot_at act x) go)
    number_swapped x go later h = ap (λ o. number_in o later) (slice_get-map (value_renamed k) act.frame.slots x) ∙ by (slot_at act x)
      where
        by : (o : Option Value) → number_in (option_map (value_renamed k) o) later ≡ outcome_swapped k (number_in o go)
        by None = refl
        by (Some value.Unset) = refl
        by (Some (value.Number n)) = h n
        by (Some (value.Clock c)) = refl

    registered_swapped : (o : Option Clock) (go later : Outcome) → later ≡ outcome_swapped k go
        → registered_on o a later ≡ outcome_swapped k (registered_on o a go)
    registered_swapped None go later h = refl
    registered_swapped (Some c) go later h = by (is_registered (standing_of c a))
      where
        by : (b : Bool) → cond b later (Wrong ClockUse) ≡ outcome_swapped k (cond b go (Wrong ClockUse))
        by true = h
        by false = refl

    clock_swapped : (x : ℕ) (go later : ℕ → Outcome) → ((c : ℕ) → later (renamed k c) ≡ outcome_swapped k (go c))
        → clock_in v a (slot_at other x) later ≡ outcome_swapped k (clock_in w a (slot_at act x) go)
    clock_swapped x go later h = ap (λ o. clock_in v a o later) (slice_get-map (value_renamed k) act.frame.slots x) ∙ by (slot_at act x)
      where
        by : (o : Option Value) → clock_in v a (option_map (value_renamed k) o) later ≡ outcome_swapped k (clock_in w a o go)
        by None = refl
        by (Some value.Unset) = refl
        by (Some (value.Number n)) = refl
        by (Some (value.Clock c)) = ap (λ o. registered_on o a (later (renamed k c))) (get-swapped k w.clocks c inside)
            ∙ registered_swapped (slice_get w.clocks c) (go c) (later (renamed k c)) (h c)

    cell_swapped : (o : Option ℤ) (go later : ℤ → Outcome) → ((n : ℤ) → later n ≡ outcome_swapped k (go n))
        → cell_in o later ≡ outcome_swapped k (cell_in o go)
    cell_swapped None go later h = refl
    cell_swapped (Some n) go later h = h n

    put_swapped : (d : ℕ) (v : Value) (go later : Activity → Outcome)
        → ((next : Activity) → later (activity_renamed k next) ≡ outcome_swapped k (go next))
        → put_in (slot_at other d) other d (value_renamed k v) later ≡ outcome_swapped k (put_in (slot_at act d) act d v go)
    put_swapped d v go later h =
        ap (λ o. put_in o other d (value_renamed k v) later) (slice_get-map (value_renamed k) act.frame.slots d) ∙ by (slot_at act d)
      where
        by : (o : Option Value)
            → put_in (option_map (value_renamed k) o) other d (value_renamed k v) later ≡ outcome_swapped k (put_in o act d v go)
        by None = refl
        by (Some old) = ap (λ slots. later (onward (with_slots other slots))) (sym (map-set (value_renamed k) act.frame.slots d v))
            ∙ h (onward (with_slots act (set act.frame.slots d v)))

    arguments_swapped : (ps : List ParamKind) (xs : List ℕ) (go later : List Value → Outcome)
        → ((values : List Value) → later (map (value_renamed k) values) ≡ outcome_swapped k (go values))
        → arguments_in v a other ps xs later ≡ outcome_swapped k (arguments_in w a act ps xs go)
    arguments_swapped [] [] go later h = h []
    arguments_swapped [] (x ∷ xs) go later h = refl
    arguments_swapped (p ∷ ps) [] go later h = refl
    arguments_swapped (param.Number ∷ ps) (x ∷ xs) go later h =
        number_swapped x _ _ (λ n. arguments_swapped ps xs _ _ (λ values. h (value.Number n ∷ values)))
    arguments_swapped (param.Clock ∷ ps) (x ∷ xs) go later h =
        clock_swapped x _ _ (λ c. arguments_swapped ps xs _ _ (λ values. h (value.Clock c ∷ values)))

    -- ---- instructions

    write_swapped : (d : ℕ) (n : ℤ) (e : Event)
        → put_in (slot_at other d) other d (value.Number n) (λ next. done v a next none e)
        ≡ outcome_swapped k (put_in (slot_at act d) act d (value.Number n) (λ next. done w a next none e))
    write_swapped d n e = put_swapped d (value.Number n) _ _ (λ next. rests_swapped next e)

    computing_swapped : (f : ℤ → ℤ → ℤ) (d x y : ℕ) → computing v a other f d x y ≡ outcome_swapped k (computing w a act f d x y)
    computing_swapped f d x y = number_swapped x _ _ (λ p. number_swapped y _ _ (λ q. write_swapped d (f p q) event.Local))

    branch_swapped : (t : ℕ) (b : Bool) → done v a (cond b (onward other) (going other t)) none event.Local
        ≡ outcome_swapped k (done w a (cond b (onward act) (going act t)) none event.Local)
    branch_swapped t true = rests_swapped (onward act) event.Local
    branch_swapped t false = rests_swapped (going act t) event.Local

    again_swapped : (b d : ℕ) (n : ℤ) (x : Bool)
        → done v a (cond x (again other b d n) (onward other)) none event.Local
        ≡ outcome_swapped k (done w a (cond x (again act b d n) (onward act)) none event.Local)
    again_swapped b d n true =
        ap (λ slots. done v a (going (with_slots other slots) (b + 1)) none event.Local)
        (sym (map-set (value_renamed k) act.frame.slots d (value.Number (n +ℤ pos 1))))
        ∙ rests_swapped (again act b d n) event.Local
    again_swapped b d n false = rests_swapped (onward act) event.Local

    limit_swapped : (o : Option ℕ) (hi : ℤ) (go later : ℤ → Outcome) → ((n : ℤ) → later n ≡ outcome_swapped k (go n))
        → no_further other o hi later ≡ outcome_swapped k (no_further act o hi go)
    limit_swapped None hi go later h = h hi
    limit_swapped (Some x) hi go later h = number_swapped x _ _ (λ n. h (int_min n hi))

    beginning_swapped : (d : ℕ) (lo : ℤ) (t : ℕ) (top : ℤ)
        → beginning v a other d lo t top ≡ outcome_swapped k (beginning w a act d lo t top)
    beginning_swapped d lo t top = by (int_le lo top)
      where
        by : (b : Bool) → cond b (put_in (slot_at other d) other d (value.Number lo) (λ next. done v a next none event.Local))
            (done v a (going other t) none event.Local)
            ≡ outcome_swapped k (cond b (put_in (slot_at act d) act d (value.Number lo) (λ next. done w a next none event.Local))
            (done w a (going act t) none event.Local))
        by true = write_swapped d lo event.Local
        by false = rests_swapped (going act t) event.Local

    turning_swapped : (b : ℕ) (o : Option Loop) → turning v a other b o ≡ outcome_swapped k (turning w a act b o)
    turning_swapped b None = refl
    turning_swapped b (Some l) =
        number_swapped l.slot _ _ (λ n. limit_swapped l.limit l.hi _ _ (λ top. again_swapped b l.slot n (int_lt n top)))

    calling_swapped : (t : ℕ) (args : List ℕ) (o : Option UnitValue)
        → calling m v a other t args o ≡ outcome_swapped k (calling m w a act t args o)
    calling_swapped t args None = refl
    calling_swapped t args (Some u) = by (is_method u.kind)
      where
        by : (b : Bool) → cond b (arguments_in v a other u.params args
            (λ values. done v a (called m other t values) none event.Local)) (Wrong OutOfRange)
            ≡ outcome_swapped k (cond b (arguments_in w a act u.params args (λ values. done w a (called m act t values) none event.Local))
            (Wrong OutOfRange))
        by true = arguments_swapped u.params args _ _
            (λ values. ap (λ next. done v a next none event.Local) (called_renamed t values)
            ∙ rests_swapped (called m act t values) event.Local)
        by false = refl

    spawning_swapped : (t : ℕ) (args : List ℕ) (o : Option UnitValue)
        → spawning m v a other t args o ≡ outcome_swapped k (spawning m w a act t args o)
    spawning_swapped t args None = refl
    spawning_swapped t args (Some u) = by (is_body u.kind)
      where
        by : (b : Bool) → cond b (arguments_in v a other u.params args
            (spawned m v a other t)) (Wrong OutOfRange)
            ≡ outcome_swapped k (cond b (arguments_in w a act u.params args (spawned m w a act t)) (Wrong OutOfRange))
        by true = arguments_swapped u.params args _ _ (spawned_swapped t)
        by false = refl

    returning_swapped : (fs : List Frame)
        → returning v a other (map (frame_renamed k) fs) ≡ outcome_swapped k (returning w a act fs)
    returning_swapped [] = done_swapped (ended act) (all dropped) (all dropped) event.Ended (λ c. refl)
    returning_swapped (f ∷ fs) = rests_swapped (back_in act f fs) event.Local

    closing_swapped : (n : ℕ) → closing v a other n ≡ outcome_swapped k (closing w a act n)
    closing_swapped zero = refl
    closing_swapped (suc n) =
        rw (awaits_swapped k w.activities (innermost a act) 0 w.activities) (by (awaits w.activities (innermost a act)))
      where
        by : (b : Bool) → cond b Blocked (done v a (left other n) none event.Closed)
            ≡ outcome_swapped k (cond b Blocked (done w a (left act n) none event.Closed))
        by true = refl
        by false = rests_swapped (left act n) event.Closed

    stored_swapped : (s : ℕ) (n : ℤ) (e : Event) → stored v a other s n e ≡ outcome_swapped k (stored w a act s n e)
    stored_swapped s n e =
        ends_swapped k (record w { activities = set w.activities a (onward act); clocks = moved a none w.clocks; cells = set w.cells s n })
        (set (map (activity_renamed k) w.activities) a (activity_renamed k (onward act))) (moved a none (neighbours_swapped k w.clocks)) e
        (sym (map-set (activity_renamed k) w.activities a (onward act))) (moved-swapped a k none none w.clocks inside (λ c. refl))

    using_swapped : (x : ℕ) (f : Standing → Standing) (e : Event)
        → clock_in v a (slot_at other x) (λ c. done v a (onward other) (only c f) e)
        ≡ outcome_swapped k (clock_in w a (slot_at act x) (λ c. done w a (onward act) (only c f) e))
    using_swapped x f e = clock_swapped x _ _ (λ c. done_swapped (onward act) (only c f) (only (renamed k c) f) e (only-swapped k c f))

    instruction_swapped : (i : Instr) → carried_out m v a other i ≡ outcome_swapped k (carried_out m w a act i)
    instruction_swapped (instr.Lit d n) = write_swapped d n event.Local
    instruction_swapped (instr.Copy d x) = number_swapped x _ _ (λ n. write_swapped d n event.Local)
    instruction_swapped (instr.Add d x y) = computing_swapped (int_wrapping_add w64) d x y
    instruction_swapped (instr.Sub d x y) = computing_swapped (int_wrapping_sub w64) d x y
    instruction_swapped (instr.Mul d x y) = computing_swapped (int_wrapping_mul w64) d x y
    instruction_swapped (instr.Unless op x y t) = number_swapped x _ _ (λ p. number_swapped y _ _ (λ q. branch_swapped t (compares op p q)))
    instruction_swapped (instr.Jump t) = rests_swapped (going act t) event.Local
    instruction_swapped (instr.For d lo hi e) = write_swapped d lo event.Local
    instruction_swapped (instr.ForTo d lo x hi e) = limit_swapped (Some x) hi _ _ (beginning_swapped d lo (e + 1))
    instruction_swapped (instr.Next b) =
        turning_swapped b (option_and_then (loop_head b) (instruction_at m (record act.frame { place = b })))
    instruction_swapped (instr.Finish e) = rests_swapped (entered act) event.Opened
    instruction_swapped (instr.EndFinish b) = closing_swapped act.opened
    instruction_swapped (instr.Get d s) = cell_swapped (slice_get w.cells s) _ _ (λ n. write_swapped d n event.Got)
    instruction_swapped (instr.Put s x) =
        number_swapped x _ _ (λ n. cell_swapped (slice_get w.cells s) _ _ (λ old. stored_swapped s n event.Put))
    instruction_swapped (instr.AddTo s x) =
        number_swapped x _ _
        (λ n. cell_swapped (slice_get w.cells s) _ _ (λ old. stored_swapped s (int_wrapping_add w64 old n) event.Added))
    instruction_swapped (instr.Print x) = number_swapped x _ _ (λ n. rests_swapped (onward act) (event.Printed n))
    instruction_swapped (instr.Make d) =
        ap (λ c. put_in (slot_at other d) other d (value.Clock c) (λ next. made v a next))
        (length-swapped k w.clocks ∙ sym (renamed_beyond k (length w.clocks) inside))
        ∙ put_swapped d (value.Clock (length w.clocks)) _ _ made_swapped
    instruction_swapped (instr.Resume x) = using_swapped x resumed event.Resumed
    instruction_swapped (instr.Drop x) = using_swapped x dropped event.Dropped
    instruction_swapped instr.Advance = done_swapped (arrived act) (all resumed) (all resumed) event.Arrived (λ c. refl)
    instruction_swapped (instr.Call t args) = calling_swapped t args (slice_get m.units t)
    instruction_swapped (instr.Spawn t args) = spawning_swapped t args (slice_get m.units t)
    instruction_swapped instr.Ret = returning_swapped act.callers

    -- ---- a step

    passing_swapped : passing v a other ≡ outcome_swapped k (passing w a act)
    passing_swapped = rw (any-swapped (λ (c : Clock). is_signalled (standing_of c a)) k w.clocks) (by (waits w a))
      where
        by : (b : Bool) → cond b Blocked (done v a (past other (w.steps + 1)) (all passed) event.Passed)
            ≡ outcome_swapped k (cond b Blocked (done w a (past act (w.steps + 1)) (all passed) event.Passed))
        by true = refl
        by false = done_swapped (past act (w.steps + 1)) (all passed) (all passed) event.Passed (λ c. refl)

    run_swapped : (o : Option Instr) → run_at m v a other o ≡ outcome_swapped k (run_at m w a act o)
    run_swapped None = refl
    run_swapped (Some i) = instruction_swapped i

    by_swapped : (st : Status) → step_by m v a other st ≡ outcome_swapped k (step_by m w a act st)
    by_swapped status.Running = run_swapped (instruction_at m act.frame)
    by_swapped status.Arrived = passing_swapped
    by_swapped status.Ended = refl

-- each step goes as well where two neighbours among the clocks have changed places
pub step_swapped : (m : ModuleValue) (w : World) (k a : ℕ) → suc k < length w.clocks
    → step m (clocks_swapped k w) a ≡ outcome_swapped k (step m w a)
step_swapped m w k a inside = ap (step_of m (clocks_swapped k w) a) (slice_get-map (activity_renamed k) w.activities a)
    ∙ by (slice_get w.activities a)
  where
    by : (o : Option Activity) → step_of m (clocks_swapped k w) a (option_map (activity_renamed k) o) ≡ outcome_swapped k (step_of m w a o)
    by None = refl
    by (Some act) = by_swapped k a w inside m act act.status
