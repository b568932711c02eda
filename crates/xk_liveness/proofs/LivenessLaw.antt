-- Worlds that are alike where slots are live go on alike: one walk over the instructions, of one activity in two worlds.
use Rattle.std.proofs.Common.{◌≡◌, ℕ, ℤ, pos, ◌+ℤ◌, suc, zero, ◌+◌, ◌==◌, ◌&&◌, ◌||◌, int_lt, int_le, Bool, true, false, true≢false, cond}
use Rattle.std.proofs.Common.{List, [], ◌∷◌, ◌++◌, map, length, set, Some, None, Option, option_map, is_some, refl, sym, ap, ◌∙◌, subst}
use Rattle.std.proofs.Common.{eq-eqb}
use Rattle.std.specs.Prelude.{slice_get, option_and_then}
use Rattle.std.specs.Int.{w64, int_min, int_wrapping_add, int_wrapping_sub, int_wrapping_mul}
use Rattle.std.specs.List.{list_any, list_all}
use Rattle.std.specs.Option.{option_map_or}
use Rattle.std.proofs.lemmas.Bool.{ne_eqb}
use Rattle.std.proofs.lemmas.List.{length-map, map-set}
use Rattle.std.proofs.lemmas.Option.{none-some, same_Some, slice_get-map}
use Rattle.xk_types.specs.declared.instr.Instr.{Instr}
use Rattle.xk_types.specs.declared.instr.Instr.TheVariants as instr
use Rattle.xk_types.specs.declared.world.Value.{Value}
use Rattle.xk_types.specs.declared.world.Value.TheVariants as value
use Rattle.xk_types.specs.declared.world.Standing.{Standing}
use Rattle.xk_types.specs.declared.world.Status.{Status}
use Rattle.xk_types.specs.declared.world.Status.TheVariants as status
use Rattle.xk_types.specs.declared.world.Event.{Event}
use Rattle.xk_types.specs.declared.world.Event.TheVariants as event
use Rattle.xk_types.specs.declared.unit.ParamKind.{ParamKind}
use Rattle.xk_types.specs.declared.unit.ParamKind.TheVariants as param
use Rattle.xk_types.specs.Code.{UnitValue, ModuleValue, compares, is_method, is_body, Loop, loop_head}
use Rattle.xk_types.specs.World.{Frame, Finish, Activity, Clock, World, standing_of, instruction_at, is_ended, frame_with}
use Rattle.xk_types.specs.Step.{Outcome, Blocked, Wrong, Stepped, ClockUse, OutOfRange, is_registered, number_in, clock_in, registered_on}
use Rattle.xk_types.specs.Step.{put_in, slot_at, arguments_in, computing, no_further, beginning, turning, again, spawned, spawning}
use Rattle.xk_types.specs.Step.{carried_out, run_at, made, new_clock, waits, passing, past, passed, step_by, step_of, step, called, calling}
use Rattle.xk_types.specs.Step.{back_in, returning, onward, going, with_slots, ended, arrived, left, closing, cell_in, stored, done, none}
use Rattle.xk_types.specs.Step.{only, all, resumed, dropped, moved, joined, is_given, child, settled, settled_clock, awaits, awaits_from}
use Rattle.xk_types.specs.Step.{is_under, under_within, same_finish, innermost, is_signalled}
use Rattle.xk_types.specs.Schedule.{is_step, all_ended}
use Rattle.xk_types.proofs.ListLemmas.{fun_ext}
use Rattle.xk_law_commute.specs.PlainWorlds.{plain_activity, plain_clock, plain}
use Rattle.xk_law_commute.proofs.ListLemmas.{map_push}
use Rattle.xk_law_commute.proofs.StepPairLemmas.{registers}
use Rattle.xk_law_commute.proofs.PlainStepLaw.{settled_all, moved_plain, joined_plain, registers_plain, any_plain}
use Rattle.xk_law_commute.proofs.ChangeSquareLemmas.{same_step}
use Rattle.xk_liveness.specs.Liveness.{SlotTable, behind, behind_write, limit_reads, turn_reads, before, IsLiveness, masked, present}
use Rattle.xk_liveness.specs.Liveness.{waiting, no_frame, frame_left, callers_left, live_activity, live_part, live_outcome}
use Rattle.xk_liveness.specs.Liveness.{AreAlikeWhereLive, without_frames, without_ended, AreAlikeButEnded, GoOnAlike}
use Rattle.xk_liveness.proofs.MaskLemmas.{or_left, or_right, and_not, same_first, same_rest, nil_cons, agree_get, agree_some, agree_less}
use Rattle.xk_liveness.proofs.MaskLemmas.{agree_set, masked_none}

module _ (live : SlotTable) where
  -- ---- what is looked at of others

  under_live : (acts : List Activity) (f : Finish) (n b : ℕ) → under_within (map (live_activity live) acts) f n b ≡ under_within acts f n b
  unfolding under_within
  under_live acts f zero b = refl
  under_live acts f (suc n) b =
      rw
      (slice_get-map (live_activity live) acts b, fun_ext (under_within (map (live_activity live) acts) f n) (under_within acts f n) (under_live acts f n)) (by (slice_get acts b))
    where
      by : (o : Option Activity)
          → option_map_or (λ (act : Activity). same_finish act.governed f || option_map_or (under_within acts f n) act.governed.owner false)
          (option_map (live_activity live) o) false
          ≡ option_map_or
          (λ (act : Activity). same_finish act.governed f || option_map_or (under_within acts f n) act.governed.owner false) o false
      by None = refl
      by (Some x) = refl

  is_under_live : (acts : List Activity) (f : Finish) (b : ℕ) → is_under (map (live_activity live) acts) f b ≡ is_under acts f b
  is_under_live acts f b = ap (λ n. under_within (map (live_activity live) acts) f n b) (length-map acts (live_activity live))
      ∙ under_live acts f (length acts) b

  awaits_live : (acts : List Activity) (f : Finish) (b : ℕ) (xs : List Activity)
      → awaits_from (map (live_activity live) acts) f b (map (live_activity live) xs) ≡ awaits_from acts f b xs
  awaits_live acts f b [] = refl
  awaits_live acts f b (x ∷ xs) = rw (is_under_live acts f b, awaits_live acts f (suc b) xs)

  ended_live : (xs : List Activity)
      → list_all (λ (act : Activity). is_ended act.status) (map (live_activity live) xs) ≡ list_all
      (λ (act : Activity). is_ended act.status) xs
  ended_live [] = refl
  ended_live (x ∷ xs) = ap (λ p. is_ended x.status && p) (ended_live xs)

  -- ---- worlds that are alike

  live_same : (x y : World) → map (live_activity live) x.activities ≡ map (live_activity live) y.activities
      → map plain_clock x.clocks ≡ map plain_clock y.clocks
      → x.cells ≡ y.cells → x.arguments ≡ y.arguments → live_part live x ≡ live_part live y
  live_same x y p q r s = λ i. record { activities = p i; clocks = q i; cells = r i; steps = 0; arguments = s i }

  live_settled : (x y : World) → live_part live x ≡ live_part live y → live_part live (settled x) ≡ live_part live (settled y)
  live_settled x y h = live_same (settled x) (settled y) (ap (λ z. z.activities) h)
      (settled_all (x.steps + 1) x.clocks ∙ ap (λ z. map (λ c. plain_clock (settled_clock 0 c)) z.clocks) h ∙ sym (settled_all (y.steps + 1) y.clocks))
      (ap (λ z. z.cells) h) (ap (λ z. z.arguments) h)

  -- ---- what a step makes of an activity

  -- a frame that it leaves: the activity runs on, in frames that are the same where they are live
  twin : (f g : Frame) (fs gs : List Frame) (st : Status) (s t o : ℕ) (governed : Finish) → st ≡ status.Running
      → present live f ≡ present live g
      → map (waiting live) fs ≡ map (waiting live) gs
      → live_activity live (record { frame = f; callers = fs; status = st; since = s; opened = o; governed = governed })
      ≡ live_activity live (record { frame = g; callers = gs; status = st; since = t; opened = o; governed = governed })
  twin f g fs gs st s t o governed runs p q =
      subst (λ (z : Status). live_activity live (record { frame = f; callers = fs; status = z; since = s; opened = o; governed = governed })
      ≡ live_activity live (record { frame = g; callers = gs; status = z; since = t; opened = o; governed = governed })) (sym runs)
      (λ i. record { frame = p i; callers = q i; status = status.Running; since = 0; opened = o; governed = governed })

  -- what two steps come to is the same
  abbrev P : Outcome → Outcome → Type 0
  P o q = live_outcome live o ≡ live_outcome live q

  module _ (w v : World) (same : live_part live w ≡ live_part live v) (a : ℕ) where
    set_live : (next later : Activity) → live_activity live next ≡ live_activity live later
        → map (live_activity live) (set w.activities a next) ≡ map (live_activity live) (set v.activities a later)
    set_live next later h = map-set (live_activity live) w.activities a next
        ∙ (λ i. set (same i).activities a (h i))
        ∙ sym (map-set (live_activity live) v.activities a later)

    same_length : length w.activities ≡ length v.activities
    same_length = sym (length-map w.activities (live_activity live)) ∙ ap (λ (z : World). length z.activities) same
        ∙ length-map v.activities (live_activity live)

    clocks_length : length w.clocks ≡ length v.clocks
    clocks_length = sym (length-map w.clocks plain_clock) ∙ ap (λ (z : World). length z.clocks) same ∙ length-map v.clocks plain_clock

    done_pair : (next later : Activity) → live_activity live next ≡ live_activity live later → (xs ys : List ℤ) → xs ≡ ys
        → (change : ℕ → Standing → Standing) (e : Event)
        → P (done (record w { cells = xs }) a next change e) (done (record v { cells = ys }) a later change e)
    done_pair next later h xs ys k change e =
        let x : World =
        record { activities = set w.activities a next; clocks = moved a change w.clocks; cells = xs; steps = w.steps; arguments = w.arguments } in
        let y : World =
        record { activities = set v.activities a later; clocks = moved a change v.clocks; cells = ys; steps = v.steps; arguments = v.arguments } in
        ap (λ z. Stepped z e) (live_settled x y (live_same x y (set_live next later h)
        (sym (moved_plain a change w.clocks) ∙ ap (λ (z : World). map plain_clock (moved a change z.clocks)) same ∙ moved_plain a change v.clocks)
        k (ap (λ (z : World). z.arguments) same)))

    made_pair : (next later : Activity) → live_activity live next ≡ live_activity live later → P (made w a next) (made v a later)
    made_pair next later h =
        let x : World =
        record { activities = set w.activities a next; clocks = w.clocks ++ new_clock (length w.activities) a ∷ []; cells = w.cells; steps = w.steps; arguments = w.arguments } in
        let y : World =
        record { activities = set v.activities a later; clocks = v.clocks ++ new_clock (length v.activities) a ∷ []; cells = v.cells; steps = v.steps; arguments = v.arguments } in
        ap (λ z. Stepped z event.Made) (live_settled x y (live_same x y (set_live next later h)
        (map_push plain_clock w.clocks (new_clock (length w.activities) a)
        ∙ (λ i. (same i).clocks ++ plain_clock (new_clock (same_length i) a) ∷ [])
        ∙ sym (map_push plain_clock v.clocks (new_clock (length v.activities) a)))
        (ap (λ (z : World). z.cells) same) (ap (λ (z : World). z.arguments) same)))

    -- the clocks on which one stands, and whether it waits
    same_registers : (k : ℕ) → registers w.clocks a k ≡ registers v.clocks a k
    same_registers k = sym (registers_plain w.clocks a k) ∙ ap (λ (z : World). registers z.clocks a k) same ∙ registers_plain v.clocks a k

    same_waits : waits w a ≡ waits v a
    same_waits = sym (any_plain a w.clocks) ∙ ap (λ (z : World). list_any (λ (c : Clock). is_signalled (standing_of c a)) z.clocks) same
        ∙ any_plain a v.clocks

    same_awaits : (f : Finish) → awaits w.activities f ≡ awaits v.activities f
    same_awaits f = sym (awaits_live w.activities f 0 w.activities) ∙ ap (λ (z : World). awaits_from z.activities f 0 z.activities) same
        ∙ awaits_live v.activities f 0 v.activities

    cell_pair : (c : ℕ) (go later : ℤ → Outcome) → ((n : ℤ) → P (go n) (later n))
        → P (cell_in (slice_get w.cells c) go) (cell_in (slice_get v.cells c) later)
    cell_pair c go later f = subst (λ cs. P (cell_in (slice_get w.cells c) go) (cell_in (slice_get cs c) later))
        (ap (λ (z : World). z.cells) same) (by (slice_get w.cells c))
      where
        by : (o : Option ℤ) → P (cell_in o go) (cell_in o later)
        by None = refl
        by (Some n) = f n

    registered_pair : (o q : Option Clock)
        → option_map (λ (c : Clock). is_registered (standing_of c a)) o ≡ option_map (λ (c : Clock). is_registered (standing_of c a)) q
        → (go later : Outcome) → P go later → P (registered_on o a go) (registered_on q a later)
    registered_pair None None e go later f = refl
    registered_pair None (Some d) e go later f = absurd (none-some _ e)
    registered_pair (Some c) None e go later f = absurd (none-some _ (sym e))
    registered_pair (Some c) (Some d) e go later f = by (is_registered (standing_of c a)) (is_registered (standing_of d a))
        (same_Some _ _ e)
      where
        by : (p q : Bool) → p ≡ q → P (cond p go (Wrong ClockUse)) (cond q later (Wrong ClockUse))
        by true true g = f
        by false false g = refl
        by true false g = absurd (true≢false g)
        by false true g = absurd (true≢false (sym g))

    -- ---- an activity that runs, and as it is in the other world

    module _ (m : ModuleValue) (act : Activity) (ys : List Value) (cs : List Frame) (t : ℕ) (runs : act.status ≡ status.Running)
        (slots : masked (live act.frame.unit act.frame.place) act.frame.slots ≡ masked (live act.frame.unit act.frame.place) ys)
        (callers : map (waiting live) act.callers ≡ map (waiting live) cs) where
      abbrev L : ℕ → Bool
      L s = live act.frame.unit act.frame.place s

      abbrev other : Activity
      other = record act { frame = record act.frame { slots = ys }; callers = cs; since = t }

      -- it goes on in its unit
      rests_pair : (q : ℕ) (xs zs : List Value) → masked (live act.frame.unit q) xs ≡ masked (live act.frame.unit q) zs
          → (o : ℕ) (change : ℕ → Standing → Standing) (e : Event)
          → P (done w a (record act { frame = record { unit = act.frame.unit; place = q; slots = xs }; opened = o }) change e)
          (done v a (record other { frame = record { unit = act.frame.unit; place = q; slots = zs }; opened = o }) change e)
      rests_pair q xs zs h o change e = done_pair
          (record act { frame = record { unit = act.frame.unit; place = q; slots = xs }; opened = o })
          (record other { frame = record { unit = act.frame.unit; place = q; slots = zs }; opened = o })
          (twin (record { unit = act.frame.unit; place = q; slots = xs }) (record { unit = act.frame.unit; place = q; slots = zs }) act.callers cs act.status act.since t o act.governed runs
          (λ i. record { unit = act.frame.unit; place = q; slots = h i }) callers)
          w.cells v.cells (ap (λ (z : World). z.cells) same) change e

      -- to a place where no more is live
      go_pair : (q : ℕ) → ((s : ℕ) → live act.frame.unit q s ≡ true → L s ≡ true) → (change : ℕ → Standing → Standing) (e : Event)
          → P (done w a (going act q) change e) (done v a (going other q) change e)
      go_pair q h change e = rests_pair q act.frame.slots ys
          (agree_less L (live act.frame.unit q) h act.frame.slots ys slots) act.opened change e

      -- ---- operands

      same_slot : (x : ℕ) → L x ≡ true → slot_at act x ≡ slot_at other x
      same_slot x h = agree_get L act.frame.slots ys slots x h

      number_pair : (x : ℕ) → L x ≡ true → (go later : ℤ → Outcome) → ((n : ℤ) → P (go n) (later n))
          → P (number_in (slot_at act x) go) (number_in (slot_at other x) later)
      number_pair x h go later f = subst (λ o. P (number_in (slot_at act x) go) (number_in o later)) (same_slot x h) (by (slot_at act x))
        where
          by : (o : Option Value) → P (number_in o go) (number_in o later)
          by None = refl
          by (Some value.Unset) = refl
          by (Some (value.Number n)) = f n
          by (Some (value.Clock c)) = refl

      clock_pair : (x : ℕ) → L x ≡ true → (go later : ℕ → Outcome) → ((k : ℕ) → P (go k) (later k))
          → P (clock_in w a (slot_at act x) go) (clock_in v a (slot_at other x) later)
      clock_pair x h go later f = subst (λ o. P (clock_in w a (slot_at act x) go) (clock_in v a o later)) (same_slot x h)
          (by (slot_at act x))
        where
          by : (o : Option Value) → P (clock_in w a o go) (clock_in v a o later)
          by None = refl
          by (Some value.Unset) = refl
          by (Some (value.Number n)) = refl
          by (Some (value.Clock k)) = registered_pair (slice_get w.clocks k) (slice_get v.clocks k) (same_registers k) (go k) (later k)
              (f k)

      put_pair : (d : ℕ) (x y : Value) (go later : Activity → Outcome)
          → P (go (onward (with_slots act (set act.frame.slots d x)))) (later (onward (with_slots other (set ys d y))))
          → P (put_in (slot_at act d) act d x go) (put_in (slot_at other d) other d y later)
      put_pair d x y go later f = by (slot_at act d) (slot_at other d) (agree_some L act.frame.slots ys slots d)
        where
          by : (o q : Option Value) → is_some o ≡ is_some q → P (put_in o act d x go) (put_in q other d y later)
          by None None h = refl
          by None (Some p) h = absurd (true≢false (sym h))
          by (Some p) None h = absurd (true≢false h)
          by (Some p) (Some q) h = f

      arguments_pair : (ps : List ParamKind) (xs : List ℕ) → ((s : ℕ) → list_any (λ x. s == x) xs ≡ true → L s ≡ true)
          → (go later : List Value → Outcome) → ((values : List Value) → P (go values) (later values))
          → P (arguments_in w a act ps xs go) (arguments_in v a other ps xs later)
      arguments_pair [] [] h go later f = f []
      arguments_pair [] (x ∷ xs) h go later f = refl
      arguments_pair (p ∷ ps) [] h go later f = refl
      arguments_pair (param.Number ∷ ps) (x ∷ xs) h go later f =
          number_pair x (h x (or_left (x == x) (list_any (λ y. x == y) xs) (eq-eqb x x refl))) _ _
          (λ n. arguments_pair ps xs (λ s g. h s (or_right (s == x) (list_any (λ y. s == y) xs) g)) _ _ (λ values. f (value.Number n ∷ values)))
      arguments_pair (param.Clock ∷ ps) (x ∷ xs) h go later f =
          clock_pair x (h x (or_left (x == x) (list_any (λ y. x == y) xs) (eq-eqb x x refl))) _ _
          (λ k. arguments_pair ps xs (λ s g. h s (or_right (s == x) (list_any (λ y. s == y) xs) g)) _ _ (λ values. f (value.Clock k ∷ values)))

      -- ---- instructions

      abbrev B : ℕ → Bool
      B s = behind live act.frame s

      -- on to the next place, where no more is live
      onward_pair : ((s : ℕ) → B s ≡ true → L s ≡ true) → (o : ℕ) (change : ℕ → Standing → Standing) (e : Event)
          → P (done w a (record (onward act) { opened = o }) change e) (done v a (record (onward other) { opened = o }) change e)
      onward_pair h o change e = rests_pair (act.frame.place + 1) act.frame.slots ys (agree_less L B h act.frame.slots ys slots) o change e

      -- behind a write
      write_pair : (d : ℕ) (x : Value) (e : Event) → ((s : ℕ) → behind_write live act.frame d s ≡ true → L s ≡ true)
          → P (put_in (slot_at act d) act d x (λ next. done w a next none e))
          (put_in (slot_at other d) other d x (λ next. done v a next none e))
      write_pair d x e h = put_pair d x x _ _ (rests_pair (act.frame.place + 1) (set act.frame.slots d x) (set ys d x)
          (agree_set L B d x (λ s k n. h s (and_not (s == d) (B s) (ne_eqb s d n) k)) act.frame.slots ys slots) act.opened none e)

      computing_pair : (g : ℤ → ℤ → ℤ) (d x y : ℕ)
          → ((s : ℕ) → ((s == x) || ((s == y) || behind_write live act.frame d s)) ≡ true → L s ≡ true)
          → P (computing w a act g d x y) (computing v a other g d x y)
      computing_pair g d x y h =
          number_pair x (h x (or_left (x == x) _ (eq-eqb x x refl))) _ _ (λ p.
          number_pair y (h y (or_right (y == x) _ (or_left (y == y) _ (eq-eqb y y refl)))) _ _ (λ q.
          write_pair d (value.Number (g p q)) event.Local (λ s k. h s (or_right (s == x) _ (or_right (s == y) _ k)))))

      branch_pair : (u : ℕ) (b : Bool) → ((s : ℕ) → B s ≡ true → L s ≡ true) → ((s : ℕ) → live act.frame.unit u s ≡ true → L s ≡ true)
          → P (done w a (cond b (onward act) (going act u)) none event.Local)
          (done v a (cond b (onward other) (going other u)) none event.Local)
      branch_pair u true h g = onward_pair h act.opened none event.Local
      branch_pair u false h g = go_pair u g none event.Local

      limit_pair : (x : Option ℕ) → ((s : ℕ) → limit_reads x s ≡ true → L s ≡ true) → (hi : ℤ) (go later : ℤ → Outcome)
          → ((top : ℤ) → P (go top) (later top))
          → P (no_further act x hi go) (no_further other x hi later)
      limit_pair None h hi go later f = f hi
      limit_pair (Some x) h hi go later f = number_pair x (h x (eq-eqb x x refl)) _ _ (λ n. f (int_min n hi))

      beginning_pair : (k : ℕ) (lo : ℤ) (u : ℕ) (top : ℤ) → ((s : ℕ) → behind_write live act.frame k s ≡ true → L s ≡ true)
          → ((s : ℕ) → live act.frame.unit u s ≡ true → L s ≡ true) → P (beginning w a act k lo u top) (beginning v a other k lo u top)
      beginning_pair k lo u top h g = by (int_le lo top)
        where
          by : (b : Bool)
              → P
              (cond b (put_in (slot_at act k) act k (value.Number lo) (λ next. done w a next none event.Local)) (done w a (going act u) none event.Local))
              (cond b (put_in (slot_at other k) other k (value.Number lo) (λ next. done v a next none event.Local)) (done v a (going other u) none event.Local))
          by true = write_pair k (value.Number lo) event.Local h
          by false = go_pair u g none event.Local

      again_pair : (b k : ℕ) (n : ℤ) (x : Bool) → ((s : ℕ) → B s ≡ true → L s ≡ true)
          → ((s : ℕ) → live act.frame.unit (b + 1) s ≡ true → L s ≡ true)
          → P (done w a (cond x (again act b k n) (onward act)) none event.Local)
          (done v a (cond x (again other b k n) (onward other)) none event.Local)
      again_pair b k n true h g =
          let x : Value = value.Number (n +ℤ pos 1) in
          rests_pair (b + 1) (set act.frame.slots k x) (set ys k x)
          (agree_set L (live act.frame.unit (b + 1)) k x (λ s p q. g s p) act.frame.slots ys slots) act.opened none event.Local
      again_pair b k n false h g = onward_pair h act.opened none event.Local

      turning_pair : (b : ℕ) (o : Option Loop) → ((s : ℕ) → (turn_reads o s || (B s || live act.frame.unit (b + 1) s)) ≡ true → L s ≡ true)
          → P (turning w a act b o) (turning v a other b o)
      turning_pair b None h = refl
      turning_pair b (Some l) h =
          number_pair l.slot
          (h l.slot (or_left (turn_reads (Some l) l.slot) _ (or_left (l.slot == l.slot) _ (eq-eqb l.slot l.slot refl)))) _ _ (λ n.
          limit_pair l.limit (λ s k. h s (or_left (turn_reads (Some l) s) _ (or_right (s == l.slot) _ k))) l.hi _ _ (λ top.
          again_pair b l.slot n (int_lt n top) (λ s k. h s (or_right (turn_reads (Some l) s) _ (or_left (B s) _ k)))
          (λ s k. h s (or_right (turn_reads (Some l) s) _ (or_right (B s) _ k)))))

      calling_pair : (u : ℕ) (args : List ℕ) (o : Option UnitValue) → ((s : ℕ) → (list_any (λ x. s == x) args || B s) ≡ true → L s ≡ true)
          → P (calling m w a act u args o) (calling m v a other u args o)
      calling_pair u args None h = refl
      calling_pair u args (Some x) h = by (is_method x.kind)
        where
          call_pair : (values : List Value)
              → P (done w a (called m act u values) none event.Local) (done v a (called m other u values) none event.Local)
          call_pair values = done_pair (called m act u values) (called m other u values)
              (twin (frame_with m u values) (frame_with m u values) (act.frame ∷ act.callers) (other.frame ∷ cs) act.status act.since t act.opened act.governed runs refl
              (λ i. record { unit = act.frame.unit; place = act.frame.place; slots = agree_less L B (λ s k. h s (or_right (list_any (λ x. s == x) args) (B s) k)) act.frame.slots ys slots i } ∷ callers i))
              w.cells v.cells (ap (λ (z : World). z.cells) same) none event.Local

          by : (b : Bool)
              → P
              (cond b (arguments_in w a act x.params args (λ values. done w a (called m act u values) none event.Local)) (Wrong OutOfRange))
              (cond b (arguments_in v a other x.params args (λ values. done v a (called m other u values) none event.Local)) (Wrong OutOfRange))
          by true = arguments_pair x.params args (λ s k. h s (or_left (list_any (λ x. s == x) args) (B s) k)) _ _ call_pair
          by false = refl

      spawning_pair : (u : ℕ) (args : List ℕ) (o : Option UnitValue) → ((s : ℕ) → (list_any (λ x. s == x) args || B s) ≡ true → L s ≡ true)
          → P (spawning m w a act u args o) (spawning m v a other u args o)
      spawning_pair u args None h = refl
      spawning_pair u args (Some k) h = by (is_body k.kind)
        where
          start_pair : (values : List Value) → P (spawned m w a act u values) (spawned m v a other u values)
          start_pair values =
              let x : World =
              record { activities = set w.activities a (onward act) ++ child m a act u values ∷ []; clocks = joined a (is_given values) w.clocks; cells = w.cells; steps = w.steps; arguments = w.arguments } in
              let y : World =
              record { activities = set v.activities a (onward other) ++ child m a other u values ∷ []; clocks = joined a (is_given values) v.clocks; cells = v.cells; steps = v.steps; arguments = v.arguments } in
              ap (λ z. Stepped z event.Spawned) (live_settled x y (live_same x y
              (map_push (live_activity live) (set w.activities a (onward act)) (child m a act u values)
              ∙ ap (λ zs. zs ++ live_activity live (child m a act u values) ∷ []) (set_live (onward act) (onward other)
              (twin (onward act).frame (onward other).frame act.callers cs act.status act.since t act.opened act.governed runs
              (λ i. record { unit = act.frame.unit; place = act.frame.place + 1; slots = agree_less L B (λ s k. h s (or_right (list_any (λ x. s == x) args) (B s) k)) act.frame.slots ys slots i }) callers))
              ∙ sym (map_push (live_activity live) (set v.activities a (onward other)) (child m a other u values)))
              (sym (joined_plain a (is_given values) w.clocks) ∙ ap (λ (z : World). map plain_clock (joined a (is_given values) z.clocks)) same ∙ joined_plain a (is_given values) v.clocks)
              (ap (λ (z : World). z.cells) same) (ap (λ (z : World). z.arguments) same)))

          by : (b : Bool)
              → P (cond b (arguments_in w a act k.params args (spawned m w a act u)) (Wrong OutOfRange))
              (cond b (arguments_in v a other k.params args (spawned m v a other u)) (Wrong OutOfRange))
          by true = arguments_pair k.params args (λ s k. h s (or_left (list_any (λ x. s == x) args) (B s) k)) _ _ start_pair
          by false = refl

      returning_pair : (fs gs : List Frame) → map (waiting live) fs ≡ map (waiting live) gs
          → P (returning w a act fs) (returning v a other gs)
      returning_pair [] [] h = done_pair (ended act) (ended other) refl w.cells v.cells (ap (λ (z : World). z.cells) same)
          (all dropped) event.Ended
      returning_pair [] (g ∷ gs) h = absurd (nil_cons _ _ h)
      returning_pair (f ∷ fs) [] h = absurd (nil_cons _ _ (sym h))
      returning_pair (f ∷ fs) (g ∷ gs) h = done_pair (back_in act f fs) (back_in other g gs)
          (twin (record f { place = f.place + 1 }) (record g { place = g.place + 1 }) fs gs act.status act.since t act.opened act.governed runs
          (ap (λ (z : Frame). record { unit = z.unit; place = z.place + 1; slots = z.slots }) (same_first (waiting live f) (waiting live g) _ _ h))
          (same_rest (waiting live f) (waiting live g) _ _ h))
          w.cells v.cells (ap (λ (z : World). z.cells) same) none event.Local

      closing_pair : (n : ℕ) → ((s : ℕ) → B s ≡ true → L s ≡ true) → P (closing w a act n) (closing v a other n)
      closing_pair zero h = refl
      closing_pair (suc n) h = subst (λ b. P (closing w a act (suc n)) (cond b Blocked (done v a (left other n) none event.Closed)))
          (same_awaits (innermost a act)) (by (awaits w.activities (innermost a act)))
        where
          by : (b : Bool)
              → P (cond b Blocked (done w a (left act n) none event.Closed)) (cond b Blocked (done v a (left other n) none event.Closed))
          by true = refl
          by false = onward_pair h n none event.Closed

      store_pair : (c : ℕ) (n : ℤ) (e : Event) → ((s : ℕ) → B s ≡ true → L s ≡ true) → P (stored w a act c n e) (stored v a other c n e)
      store_pair c n e h = done_pair (onward act) (onward other)
          (twin (onward act).frame (onward other).frame act.callers cs act.status act.since t act.opened act.governed runs
          (λ i. record { unit = act.frame.unit; place = act.frame.place + 1; slots = agree_less L B h act.frame.slots ys slots i }) callers)
          (set w.cells c n) (set v.cells c n) (ap (λ (z : World). set z.cells c n) same) none e

      instruction_pair : (i : Instr) → ((s : ℕ) → before m live act.frame i s ≡ true → L s ≡ true)
          → P (carried_out m w a act i) (carried_out m v a other i)
      instruction_pair (instr.Lit d n) h = write_pair d (value.Number n) event.Local h
      instruction_pair (instr.Copy d x) h = number_pair x (h x (or_left (x == x) _ (eq-eqb x x refl))) _ _
          (λ n. write_pair d (value.Number n) event.Local (λ s k. h s (or_right (s == x) _ k)))
      instruction_pair (instr.Add d x y) h = computing_pair (int_wrapping_add w64) d x y h
      instruction_pair (instr.Sub d x y) h = computing_pair (int_wrapping_sub w64) d x y h
      instruction_pair (instr.Mul d x y) h = computing_pair (int_wrapping_mul w64) d x y h
      instruction_pair (instr.Unless op x y u) h =
          number_pair x (h x (or_left (x == x) _ (eq-eqb x x refl))) _ _ (λ p.
          number_pair y (h y (or_right (y == x) _ (or_left (y == y) _ (eq-eqb y y refl)))) _ _ (λ q.
          branch_pair u (compares op p q) (λ s k. h s (or_right (s == x) _ (or_right (s == y) _ (or_left (B s) _ k))))
          (λ s k. h s (or_right (s == x) _ (or_right (s == y) _ (or_right (B s) _ k))))))
      instruction_pair (instr.Jump u) h = go_pair u h none event.Local
      instruction_pair (instr.For k lo hi e) h = write_pair k (value.Number lo) event.Local h
      instruction_pair (instr.ForTo k lo x hi e) h =
          limit_pair (Some x) (λ s g. h s (or_left (s == x) _ g)) hi _ _ (λ top.
          beginning_pair k lo (e + 1) top (λ s g. h s (or_right (s == x) _ (or_left (behind_write live act.frame k s) _ g)))
          (λ s g. h s (or_right (s == x) _ (or_right (behind_write live act.frame k s) _ g))))
      instruction_pair (instr.Next b) h = turning_pair b
          (option_and_then (loop_head b) (instruction_at m (record act.frame { place = b }))) h
      instruction_pair (instr.Get d c) h = cell_pair c _ _ (λ n. write_pair d (value.Number n) event.Got h)
      instruction_pair (instr.Put c x) h = number_pair x (h x (or_left (x == x) _ (eq-eqb x x refl))) _ _
          (λ n. cell_pair c _ _ (λ old. store_pair c n event.Put (λ s k. h s (or_right (s == x) _ k))))
      instruction_pair (instr.AddTo c x) h = number_pair x (h x (or_left (x == x) _ (eq-eqb x x refl))) _ _
          (λ n. cell_pair c _ _ (λ old. store_pair c (int_wrapping_add w64 old n) event.Added (λ s k. h s (or_right (s == x) _ k))))
      instruction_pair (instr.Finish e) h = onward_pair h (act.opened + 1) none event.Opened
      instruction_pair (instr.EndFinish b) h = closing_pair act.opened h
      instruction_pair (instr.Print x) h = number_pair x (h x (or_left (x == x) _ (eq-eqb x x refl))) _ _
          (λ n. onward_pair (λ s k. h s (or_right (s == x) _ k)) act.opened none (event.Printed n))
      instruction_pair (instr.Make d) h =
          put_pair d (value.Clock (length w.clocks)) (value.Clock (length v.clocks)) _ _
          (made_pair (onward (with_slots act (set act.frame.slots d (value.Clock (length w.clocks))))) (onward (with_slots other (set ys d (value.Clock (length v.clocks)))))
          (twin _ _ act.callers cs act.status act.since t act.opened act.governed runs
          (λ i. record { unit = act.frame.unit; place = act.frame.place + 1; slots = made_slots i }) callers))
        where
          made_slots : masked B (set act.frame.slots d (value.Clock (length w.clocks)))
              ≡ masked B (set ys d (value.Clock (length v.clocks)))
          made_slots = agree_set L B d (value.Clock (length w.clocks))
              (λ s k n. h s (and_not (s == d) (B s) (ne_eqb s d n) k)) act.frame.slots ys slots
              ∙ ap (λ n. masked B (set ys d (value.Clock n))) clocks_length
      instruction_pair (instr.Resume x) h = clock_pair x (h x (or_left (x == x) _ (eq-eqb x x refl))) _ _
          (λ c. onward_pair (λ s k. h s (or_right (s == x) _ k)) act.opened (only c resumed) event.Resumed)
      instruction_pair (instr.Drop x) h = clock_pair x (h x (or_left (x == x) _ (eq-eqb x x refl))) _ _
          (λ c. onward_pair (λ s k. h s (or_right (s == x) _ k)) act.opened (only c dropped) event.Dropped)
      instruction_pair instr.Advance h = done_pair (arrived act) (arrived other)
          (λ i. record {
            frame = record { unit = act.frame.unit; place = act.frame.place; slots = agree_less L B h act.frame.slots ys slots i };
            callers = callers i;
            status = status.Arrived;
            since = 0;
            opened = act.opened;
            governed = act.governed;
          }) w.cells v.cells (ap (λ (z : World). z.cells) same) (all resumed) event.Arrived
      instruction_pair (instr.Call u args) h = calling_pair u args (slice_get m.units u) h
      instruction_pair (instr.Spawn u args) h = spawning_pair u args (slice_get m.units u) h
      instruction_pair instr.Ret h = returning_pair act.callers cs callers

    -- ---- a step

    module _ (m : ModuleValue) (liveness : IsLiveness m live) where
      run_pair : (act : Activity) (ys : List Value) (cs : List Frame) (t : ℕ) → act.status ≡ status.Running
          → masked (live act.frame.unit act.frame.place) act.frame.slots ≡ masked (live act.frame.unit act.frame.place) ys
          → map (waiting live) act.callers ≡ map (waiting live) cs
          → P (run_at m w a act (instruction_at m act.frame))
          (run_at m v a (record act { frame = record act.frame { slots = ys }; callers = cs; since = t }) (instruction_at m act.frame))
      run_pair act ys cs t runs slots callers = by (instruction_at m act.frame) refl
        where
          by : (o : Option Instr) → instruction_at m act.frame ≡ o
              → P (run_at m w a act o) (run_at m v a (record act { frame = record act.frame { slots = ys }; callers = cs; since = t }) o)
          by None e = refl
          by (Some i) e = instruction_pair m act ys cs t runs slots callers i (λ s h. liveness act.frame i s e h)

      pass_pair : (act bct : Activity) → waiting live act.frame ≡ waiting live bct.frame
          → map (waiting live) act.callers ≡ map (waiting live) bct.callers
          → act.opened ≡ bct.opened → act.governed ≡ bct.governed → P (passing w a act) (passing v a bct)
      pass_pair act bct p q r s =
          subst (λ b. P (passing w a act) (cond b Blocked (done v a (past bct (v.steps + 1)) (all passed) event.Passed))) same_waits
          (by (waits w a))
        where
          by : (b : Bool)
              → P (cond b Blocked (done w a (past act (w.steps + 1)) (all passed) event.Passed))
              (cond b Blocked (done v a (past bct (v.steps + 1)) (all passed) event.Passed))
          by true = refl
          by false = done_pair (past act (w.steps + 1)) (past bct (v.steps + 1))
              (λ i. record {
                frame = record { unit = (p i).unit; place = (p i).place + 1; slots = (p i).slots };
                callers = q i;
                status = status.Running;
                since = 0;
                opened = r i;
                governed = s i;
              }) w.cells v.cells (ap (λ (z : World). z.cells) same) (all passed) event.Passed

      -- by the status that both have
      act_pair : (act bct : Activity) → live_activity live act ≡ live_activity live bct
          → P (step_by m w a act act.status) (step_by m v a bct bct.status)
      act_pair act bct h = by act.status bct.status refl refl (ap (λ (z : Activity). z.status) h)
        where
          opens : act.opened ≡ bct.opened
          opens = ap (λ (z : Activity). z.opened) h

          governs : act.governed ≡ bct.governed
          governs = ap (λ (z : Activity). z.governed) h

          frames : (st : Status) → act.status ≡ st → bct.status ≡ st → frame_left live st act.frame ≡ frame_left live st bct.frame
          frames st p q = ap (λ z. frame_left live z act.frame) (sym p) ∙ ap (λ (z : Activity). z.frame) h
              ∙ ap (λ z. frame_left live z bct.frame) q

          calls : (st : Status) → act.status ≡ st → bct.status ≡ st → callers_left live st act.callers ≡ callers_left live st bct.callers
          calls st p q = ap (λ z. callers_left live z act.callers) (sym p) ∙ ap (λ (z : Activity). z.callers) h
              ∙ ap (λ z. callers_left live z bct.callers) q

          both_run : act.status ≡ status.Running → bct.status ≡ status.Running
              → P (step_by m w a act status.Running) (step_by m v a bct status.Running)
          both_run p q =
              let f : present live act.frame ≡ present live bct.frame = frames status.Running p q in
              let units : act.frame.unit ≡ bct.frame.unit = ap (λ (z : Frame). z.unit) f in
              let places : act.frame.place ≡ bct.frame.place = ap (λ (z : Frame). z.place) f in
              let is : record act { frame = record act.frame { slots = bct.frame.slots }; callers = bct.callers; since = bct.since } ≡ bct =
              (λ i. record {
                frame = record { unit = units i; place = places i; slots = bct.frame.slots };
                callers = bct.callers;
                status = (p ∙ sym q) i;
                since = bct.since;
                opened = opens i;
                governed = governs i;
              }) in
              subst (λ (z : Activity). P (step_by m w a act status.Running) (step_by m v a z status.Running)) is
              (run_pair act bct.frame.slots bct.callers bct.since p
              (ap (λ (z : Frame). z.slots) f ∙ (λ i. masked (live (sym units i) (sym places i)) bct.frame.slots))
              (calls status.Running p q))

          by : (st su : Status) → act.status ≡ st → bct.status ≡ su → act.status ≡ bct.status
              → P (step_by m w a act st) (step_by m v a bct su)
          by st su p q e = subst (λ z. P (step_by m w a act st) (step_by m v a bct z)) (sym p ∙ e ∙ q) (one st p (sym e ∙ p))
            where
              one : (z : Status) → act.status ≡ z → bct.status ≡ z → P (step_by m w a act z) (step_by m v a bct z)
              one status.Running p q = both_run p q
              one status.Arrived p q = pass_pair act bct (frames status.Arrived p q) (calls status.Arrived p q) opens governs
              one status.Ended p q = refl

      pub live_step : P (step m w a) (step m v a)
      live_step = by (slice_get w.activities a) (slice_get v.activities a) both
        where
          both : option_map (live_activity live) (slice_get w.activities a) ≡ option_map (live_activity live) (slice_get v.activities a)
          both = sym (slice_get-map (live_activity live) w.activities a) ∙ ap (λ (z : World). slice_get z.activities a) same
              ∙ slice_get-map (live_activity live) v.activities a

          by : (o q : Option Activity) → option_map (live_activity live) o ≡ option_map (live_activity live) q
              → P (step_of m w a o) (step_of m v a q)
          by None None e = refl
          by None (Some y) e = absurd (none-some _ e)
          by (Some x) None e = absurd (none-some _ (sym e))
          by (Some x) (Some y) e = act_pair x y (same_Some _ _ e)

-- ---- going on

live_goes : (m : ModuleValue) (live : SlotTable) → IsLiveness m live → (w v u : World) (a : ℕ) (e : Event) → AreAlikeWhereLive live w v
    → step m w a ≡ Stepped u e
    → (z : World) × (step m v a ≡ Stepped z e) × AreAlikeWhereLive live u z
live_goes m live liveness w v u a e same h = by (step m v a) refl (sym (live_step live w v same a m liveness) ∙ ap (live_outcome live) h)
  where
    by : (o : Outcome) → step m v a ≡ o → live_outcome live (step m v a) ≡ Stepped (live_part live u) e
        → (z : World) × (step m v a ≡ Stepped z e) × (live_part live u ≡ live_part live z)
    by Blocked q g = absurd (true≢false (sym (ap is_step (sym (ap (live_outcome live) q) ∙ g))))
    by (Wrong c) q g = absurd (true≢false (sym (ap is_step (sym (ap (live_outcome live) q) ∙ g))))
    by (Stepped z d) q g =
        let s = same_step (live_part live z) (live_part live u) d e (sym (ap (live_outcome live) q) ∙ g) in
        (z, q ∙ ap (λ k. Stepped z k) s.1, sym s.0)

pub live_ends : (live : SlotTable) (w v : World) → AreAlikeWhereLive live w v → all_ended w ≡ all_ended v
live_ends live w v same = sym (ended_live live w.activities) ∙ ap all_ended same ∙ ended_live live v.activities

pub dead_slots : (m : ModuleValue) (live : SlotTable) → IsLiveness m live → (w v : World) → AreAlikeWhereLive live w v
    → GoOnAlike m (AreAlikeWhereLive live) w v
dead_slots m live liveness w v same = record {
  steps = λ u a e h. live_goes m live liveness w v u a e same h;
  ends = live_ends live w v same;
  cells = ap (λ (z : World). z.cells) same;
}

-- ---- where all slots are live

abbrev pub all_live : SlotTable
all_live u p s = true

present_all : (f : Frame) → present all_live f ≡ f
present_all f = λ i. record f { slots = masked_none f.slots i }

waiting_all : (fs : List Frame) → map (waiting all_live) fs ≡ fs
waiting_all [] = refl
waiting_all (f ∷ fs) = λ i. present_all f i ∷ waiting_all fs i

live_all : (x : Activity) → live_activity all_live x ≡ plain_activity (without_frames x)
live_all x = λ i. record x { frame = frame_all x.status i; callers = callers_all x.status i; since = 0 }
  where
    frame_all : (st : Status) → frame_left all_live st x.frame ≡ cond (is_ended st) no_frame x.frame
    frame_all status.Running = present_all x.frame
    frame_all status.Arrived = present_all x.frame
    frame_all status.Ended = refl

    callers_all : (st : Status) → callers_left all_live st x.callers ≡ cond (is_ended st) [] x.callers
    callers_all status.Running = waiting_all x.callers
    callers_all status.Arrived = waiting_all x.callers
    callers_all status.Ended = refl

lives_all : (xs : List Activity) → map (live_activity all_live) xs ≡ map plain_activity (map without_frames xs)
lives_all [] = refl
lives_all (x ∷ xs) = λ i. live_all x i ∷ lives_all xs i

part_all : (w : World) → live_part all_live w ≡ plain (without_ended w)
part_all w = λ i. record { activities = lives_all w.activities i; clocks = map plain_clock w.clocks; cells = w.cells; steps = 0; arguments = w.arguments }

pub ended_frames : (m : ModuleValue) (w v : World) → AreAlikeButEnded w v → GoOnAlike m AreAlikeButEnded w v
ended_frames m w v same = record {
  steps = λ u a e h. (let r = live_goes m all_live (λ f i s p q. refl) w v u a e alike h in (r.0, r.1, sym (part_all u) ∙ r.2 ∙ part_all r.0));
  ends = live_ends all_live w v alike;
  cells = ap (λ (z : World). z.cells) same;
}
  where
    alike : AreAlikeWhereLive all_live w v
    alike = part_all w ∙ same ∙ sym (part_all v)
