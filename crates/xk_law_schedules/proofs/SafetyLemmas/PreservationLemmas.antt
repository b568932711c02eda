-- The four forms of a step keep the invariant: it changes one activity, makes a clock, starts an activity, or writes a shared number.
use Rattle.std.proofs.Common.{◌≡◌, ℕ, ◌+◌, ◌<◌, ◌≤◌, Bool, true, false, cond, List, [], ◌∷◌, ◌++◌, length, set, Some, refl, inl, sym, ap, ◌∙◌, subst, arith, length-set, ℤ}
use Rattle.std.specs.Prelude.{slice_get}
use Rattle.std.proofs.lemmas.List.{length_push, set-get_or}
use Rattle.std.proofs.lemmas.List.Sums.{sum_by_push}
use Rattle.std.proofs.lemmas.Bool.{false≢true}
use Rattle.std.proofs.lemmas.Option.{slice_get_within}
use Rattle.xk_types.specs.declared.instr.Instr.{Instr}
use Rattle.xk_types.specs.declared.instr.Instr.TheVariants as instr
use Rattle.xk_types.specs.declared.world.Status.{Status}
use Rattle.xk_types.specs.declared.world.Status.TheVariants as status
use Rattle.xk_types.specs.declared.world.Standing.{Standing}
use Rattle.xk_types.specs.declared.world.Standing.TheVariants as standing
use Rattle.xk_types.specs.declared.rules.Kind.{Kind}
use Rattle.xk_types.specs.Code.{UnitValue, ModuleValue}
use Rattle.xk_types.specs.World.{Activity, Clock, World, standing_of}
use Rattle.xk_types.specs.Step.{is_signalled, moved, moved_on, joined, joined_on, new_clock, settled}
use Rattle.xk_types.specs.Bound.{steps_weight, activities_weight, clocks_weight, stack_of}
use Rattle.xk_law_schedules.proofs.SafetyLemmas.CallerLemmas.{frame_later, still_waiting}
use Rattle.xk_law_schedules.proofs.Invariant.{Each, Stands, Expects, NamedIn, AreWaiting, slots_in, IsFrameSound, IsClockSound, IsActivitySound, IsSound, stands_on, looks, kind_by, kind_of, is_held, owed, owing}
use Rattle.xk_types.proofs.ListLemmas.{each_set, each_push, fun_ext}
use Rattle.xk_law_schedules.proofs.ClockLemmas.StandingLemmas.{stand_same, stand_other, each_moved, length-moved, stands_on-moved_other, stands_on-moved_same, stands_on-push_other, new_same, new_other, new_width, stand_joined_old, stand_joined_new, length-joined, each_joined, stands_on-joined_old, stands_on-joined_new}
use Rattle.xk_law_schedules.proofs.ClockLemmas.StepEndLemmas.{IsClockNear, IsNear, world_settled}
use Rattle.xk_law_schedules.proofs.BoundLemmas.MeasureLemmas.{IsPaid, IsShared, owing_set}

-- ---- the changed activity

-- What a step of activity `was` of unit u leaves of it, where it stays in its frame: `act`, among so many clocks, whose names have
-- these kinds.
pub record IsNext (m : ModuleValue) (u : UnitValue) (look : ℕ → Kind) (clocks now : ℕ) (was act : Activity) : Type 0 where
  pub unit : act.frame.unit ≡ was.frame.unit
  pub callers : act.callers ≡ was.callers
  pub since : act.since ≤ now
  pub frame : IsFrameSound u clocks act.frame
  pub kinds : Each (λ s v. Expects m u act.status act.frame.place s (kind_of look v)) act.frame.slots
  pub advance : act.status ≡ status.Arrived → slice_get u.code act.frame.place ≡ Some instr.Advance
  pub held : (c : ℕ) → is_held (look c) ≡ true → NamedIn (act.frame ∷ act.callers) c
  pub waiting : AreWaiting m look act.status clocks act.frame act.callers
  pub alone : act.status ≡ status.Ended → act.callers ≡ []

-- it is sound
pub next_sound : (m : ModuleValue) (old look : ℕ → Kind) (before clocks then' now : ℕ) (was act : Activity) (s : IsActivitySound m old before then' was)
    → IsNext m s.u look clocks now was act → IsActivitySound m look clocks now act
next_sound m old look before clocks then' now was act s n = record {
  since = n.since;
  u = s.u;
  unit = ap (slice_get m.units) n.unit ∙ s.unit;
  frame = n.frame;
  kinds = n.kinds;
  advance = n.advance;
  held = n.held;
  waiting = n.waiting;
  room = (let h = s.room in let p : slots_in act.callers ≡ slots_in was.callers = ap slots_in n.callers in
      let q : stack_of m act.frame.unit ≡ stack_of m was.frame.unit = ap (stack_of m) n.unit in omega arith);
  alone = n.alone;
}

-- ---- all others

-- with more clocks and steps an activity stays sound
sound_later : (m : ModuleValue) (look : ℕ → Kind) (before clocks then' now : ℕ) (act : Activity) → before ≤ clocks → then' ≤ now
    → IsActivitySound m look before then' act → IsActivitySound m look clocks now act
sound_later m look before clocks then' now act more later s = record {
  since = omega (arith, s.since);
  u = s.u;
  unit = s.unit;
  frame = frame_later s.u before clocks act.frame more s.frame;
  kinds = s.kinds;
  advance = s.advance;
  held = s.held;
  waiting = still_waiting m look look act.status act.status before clocks more act.frame act.frame act.callers s.waiting refl (λ v at t c named. inl named) (λ c. inl refl);
  room = s.room;
  alone = s.alone;
}

-- ---- the world

-- what a step leaves of the world: `act` in the place of `was`, these clocks, on which others stand where they stood
pub record IsLeft (m : ModuleValue) (w : World) (a : ℕ) (was act : Activity) (clocks : List Clock) : Type 0 where
  pub next : IsActivitySound m (looks clocks a) (length clocks) (w.steps + 1) act
  pub more : length w.clocks ≤ length clocks
  pub others : (b k : ℕ) → (b ≡ a → ⊥) → stands_on clocks b k ≡ stands_on w.clocks b k
  pub near : Each (λ k c. IsClockNear (set w.activities a act) (w.steps + 1) c) clocks
  pub paid : (spent : ℕ) × IsPaid m was act spent × (length clocks ≡ length w.clocks + spent)

-- the world that such a step leaves, before its end
abbrev pub left : World → ℕ → Activity → List Clock → World
left w a act clocks = record w { activities = set w.activities a act; clocks = clocks }

-- it is nearly sound
left_near : (m : ModuleValue) (w : World) (a : ℕ) (was act : Activity) (clocks : List Clock) (sound : IsSound m w) (found : slice_get w.activities a ≡ Some was)
    → IsLeft m w a was act clocks → IsNear m (left w a act clocks)
left_near m w a was act clocks sound found l = record {
  limits = sound.limits;
  activities = each_set (λ b x. IsActivitySound m (looks clocks b) (length clocks) (w.steps + 1) x) w.activities a was act found
      l.next
      (λ b x differs at. subst (λ look. IsActivitySound m look (length clocks) (w.steps + 1) x)
      (fun_ext (looks w.clocks b) (looks clocks b) (λ k. ap kind_by (sym (l.others b k differs))))
      (sound_later m (looks w.clocks b) (length w.clocks) (length clocks) w.steps (w.steps + 1) x l.more (omega arith) (sound.activities b x at)));
  clocks = l.near;
  cells = sound.cells;
  steps = omega (arith, owing_set steps_weight 1 m w.activities a was act found, l.paid.1.steps, sound.steps);
  started = rw (length-set w.activities a act) (omega (arith, owing_set activities_weight 0 m w.activities a was act found, l.paid.1.started, sound.started));
  made = omega (arith, owing_set clocks_weight 0 m w.activities a was act found, l.paid.1.made, l.paid.2, sound.made);
}

-- and at the end of the step sound
left_sound : (m : ModuleValue) (w : World) (a : ℕ) (was act : Activity) (clocks : List Clock) (sound : IsSound m w) (found : slice_get w.activities a ≡ Some was)
    → IsLeft m w a was act clocks → IsSound m (settled (left w a act clocks))
left_sound m w a was act clocks sound found l = world_settled m (left w a act clocks) (left_near m w a was act clocks sound found l)

-- ---- clocks, nearly

-- what holds between an activity and a clock before the end of a step
abbrev pub StandsNear : Status → ℕ → ℕ → ℕ → Standing → Type 0
StandsNear st since last now s = Stands st since last s × (is_signalled s ≡ true → since < now)

-- a clock of a sound world, after one activity changed, and where it stands
near_clock : (activities : List Activity) (now a : ℕ) (was act : Activity) (f : Standing → Standing) (c : Clock) → slice_get activities a ≡ Some was
    → ((b : ℕ) (x : Activity) → slice_get activities b ≡ Some x → x.since ≤ now)
    → IsClockSound activities now c → StandsNear act.status act.since c.last (now + 1) (f (standing_of c a))
    → IsClockNear (set activities a act) (now + 1) (moved_on a f c)
near_clock activities now a was act f c found since s n = record {
  width = length-set c.standings a (f (standing_of c a)) ∙ s.width ∙ sym (length-set activities a act);
  last = omega (arith, s.last);
  phase = s.phase;
  stands = each_set (λ b x. Stands x.status x.since c.last (standing_of (moved_on a f c) b)) activities a was act found
      (subst (Stands act.status act.since c.last) (sym here) n.0)
      (λ b x differs at. subst (Stands x.status x.since c.last) (sym (stand_other a b f c differs)) (s.stands b x at));
  signalled = each_set (λ b x. is_signalled (standing_of (moved_on a f c) b) ≡ true → x.since < now + 1) activities a was act found
      (λ g. n.1 (ap is_signalled (sym here) ∙ g))
      (λ b x differs at g. (let h = since b x at in omega arith));
}
  where
    here : standing_of (moved_on a f c) a ≡ f (standing_of c a)
    here = stand_same a f c (subst (λ n. a < n) (sym s.width) (slice_get_within activities a was found))

-- ---- `done`: one activity changes, and where it stands

-- what such a step leaves of the activity and of the clocks
pub record IsChange (m : ModuleValue) (w : World) (a : ℕ) (was act : Activity) (change : ℕ → Standing → Standing) : Type 0 where
  pub next : IsActivitySound m (λ k. kind_by (change k (stands_on w.clocks a k))) (length w.clocks) (w.steps + 1) act
  pub apart : (k : ℕ) → change k standing.Apart ≡ standing.Apart
  pub stands : Each (λ k c. StandsNear act.status act.since c.last (w.steps + 1) (change k (standing_of c a))) w.clocks
  pub paid : IsPaid m was act 0

-- it keeps the invariant
pub done_sound : (m : ModuleValue) (w : World) (a : ℕ) (was act : Activity) (change : ℕ → Standing → Standing) (sound : IsSound m w) (found : slice_get w.activities a ≡ Some was)
    → IsChange m w a was act change → IsSound m (settled (left w a act (moved a change w.clocks)))
done_sound m w a was act change sound found d = left_sound m w a was act (moved a change w.clocks) sound found (record {
  next = rw (length-moved a change w.clocks) (subst (λ look. IsActivitySound m look (length w.clocks) (w.steps + 1) act)
      (fun_ext (λ k. kind_by (change k (stands_on w.clocks a k))) (looks (moved a change w.clocks) a)
      (λ k. ap kind_by (sym (stands_on-moved_same a change w.clocks k within d.apart)))) d.next);
  more = omega (arith, length-moved a change w.clocks);
  others = λ b k differs. stands_on-moved_other a b change w.clocks k differs;
  near = each_moved a change (λ k c. IsClockNear (set w.activities a act) (w.steps + 1) c) w.clocks
      (λ k c at. near_clock w.activities w.steps a was act (change k) c found (λ b x g. (sound.activities b x g).since) (sound.clocks k c at) (d.stands k c at));
  paid = (0, d.paid, omega (arith, length-moved a change w.clocks));
})
  where
    within : Each (λ k c. a < length c.standings) w.clocks
    within k c at = subst (λ n. a < n) (sym (sound.clocks k c at).width) (slice_get_within w.activities a was found)

-- ---- `made`: one activity changes and has made a clock

pub record IsMaking (m : ModuleValue) (w : World) (a : ℕ) (was act : Activity) : Type 0 where
  pub next : IsActivitySound m (looks (w.clocks ++ new_clock (length w.activities) a ∷ []) a) (length w.clocks + 1) (w.steps + 1) act
  pub running : act.status ≡ status.Running
  pub same_status : act.status ≡ was.status
  pub same_since : act.since ≡ was.since
  pub paid : IsPaid m was act 1

-- a change of nothing
untouched : (a : ℕ) (c : Clock) → moved_on a (λ s. s) c ≡ c
untouched a c = ap (λ list. record { phase = c.phase; last = c.last; standings = list }) (set-get_or c.standings a standing.Apart)

-- who is signalled has passed before now
signalled_since : (since now : ℕ) (s : Standing) → since ≤ now → is_signalled s ≡ true → since < now + 1
signalled_since since now s h g = omega arith

-- a clock of a sound world, after an activity changed that stands where it stood
same_clock : (activities : List Activity) (now a : ℕ) (was act : Activity) (c : Clock) → slice_get activities a ≡ Some was
    → ((b : ℕ) (x : Activity) → slice_get activities b ≡ Some x → x.since ≤ now)
    → act.status ≡ was.status → act.since ≡ was.since
    → IsClockSound activities now c → IsClockNear (set activities a act) (now + 1) c
same_clock activities now a was act c found since st sc s =
    subst (IsClockNear (set activities a act) (now + 1)) (untouched a c)
    (near_clock activities now a was act (λ x. x) c found since s
    (rw (st, sc) (s.stands a was found, signalled_since was.since now (standing_of c a) (since a was found))))

-- a new clock
new_near : (activities : List Activity) (now a : ℕ) (was act : Activity) → slice_get activities a ≡ Some was → act.status ≡ status.Running
    → IsClockNear (set activities a act) (now + 1) (new_clock (length activities) a)
new_near activities now a was act found running = record {
  width = new_width (length activities) a ∙ sym (length-set activities a act);
  last = omega arith;
  phase = omega arith;
  stands = each_set (λ b x. Stands x.status x.since 0 (standing_of (new_clock (length activities) a) b)) activities a was act found
      (subst (Stands act.status act.since 0) (sym here) (running, omega arith))
      (λ b x differs at. subst (Stands x.status x.since 0) (sym (new_other (length activities) a b differs)) tt);
  signalled = each_set (λ b x. is_signalled (standing_of (new_clock (length activities) a) b) ≡ true → x.since < now + 1) activities a was act found
      (λ g. absurd (false≢true (ap is_signalled (sym here) ∙ g)))
      (λ b x differs at g. absurd (false≢true (ap is_signalled (sym (new_other (length activities) a b differs)) ∙ g)));
}
  where
    here : standing_of (new_clock (length activities) a) a ≡ standing.Open
    here = new_same (length activities) a (slice_get_within activities a was found)

-- it keeps the invariant
pub made_sound : (m : ModuleValue) (w : World) (a : ℕ) (was act : Activity) (sound : IsSound m w) (found : slice_get w.activities a ≡ Some was)
    → IsMaking m w a was act
    → IsSound m (settled (left w a act (w.clocks ++ new_clock (length w.activities) a ∷ [])))
made_sound m w a was act sound found d = left_sound m w a was act (w.clocks ++ new_clock (length w.activities) a ∷ []) sound found (record {
  next = rw (length_push w.clocks (new_clock (length w.activities) a)) d.next;
  more = omega (arith, length_push w.clocks (new_clock (length w.activities) a));
  others = λ b k differs. stands_on-push_other (length w.activities) a b w.clocks k differs;
  near = each_push (λ k c. IsClockNear (set w.activities a act) (w.steps + 1) c) w.clocks (new_clock (length w.activities) a)
      (λ k c at. same_clock w.activities w.steps a was act c found (λ b x g. (sound.activities b x g).since) d.same_status d.same_since (sound.clocks k c at))
      (new_near w.activities w.steps a was act found d.running);
  paid = (1, d.paid, length_push w.clocks (new_clock (length w.activities) a));
})

-- ---- `spawned`: one activity changes and has started another

-- what such a step leaves of the activity, and the new one, which is given these clocks
pub record IsStarted (m : ModuleValue) (w : World) (a : ℕ) (was act new : Activity) (given : ℕ → Bool) : Type 0 where
  pub next : IsActivitySound m (looks w.clocks a) (length w.clocks) (w.steps + 1) act
  pub begins : IsActivitySound m (λ k. kind_by (cond (given k) (stands_on w.clocks a k) standing.Apart)) (length w.clocks) (w.steps + 1) new
  pub same_status : act.status ≡ was.status
  pub same_since : act.since ≡ was.since
  pub new_status : new.status ≡ was.status
  pub new_since : new.since ≡ was.since
  pub shared : IsShared m was act new

-- where the new activity stands
given_stands : (st : Status) (since last : ℕ) (given : Bool) (s : Standing) → Stands st since last s → Stands st since last (cond given s standing.Apart)
given_stands st since last true s h = h
given_stands st since last false s h = tt

-- a clock, nearly sound before there was one activity more
joined_near : (activities : List Activity) (now a : ℕ) (new : Activity) (given : Bool) (c : Clock) → IsClockNear activities now c
    → Stands new.status new.since c.last (cond given (standing_of c a) standing.Apart) → new.since < now
    → IsClockNear (activities ++ new ∷ []) now (joined_on a given c)
joined_near activities now a new given c n here before = record {
  width = omega (arith, length_push c.standings (cond given (standing_of c a) standing.Apart), length_push activities new, n.width);
  last = n.last;
  phase = n.phase;
  stands = each_push (λ b x. Stands x.status x.since c.last (standing_of (joined_on a given c) b)) activities new
      (λ b x at. subst (Stands x.status x.since c.last) (sym (old b x at)) (n.stands b x at))
      (subst (Stands new.status new.since c.last) (sym (stand_joined_new a (length activities) given c n.width)) here);
  signalled = each_push (λ b x. is_signalled (standing_of (joined_on a given c) b) ≡ true → x.since < now) activities new
      (λ b x at g. n.signalled b x at (ap is_signalled (sym (old b x at)) ∙ g))
      (λ g. before);
}
  where
    old : (b : ℕ) (x : Activity) → slice_get activities b ≡ Some x → standing_of (joined_on a given c) b ≡ standing_of c b
    old b x at = stand_joined_old a b given c (let h = slice_get_within activities b x at in omega (arith, n.width))

-- the world that such a step leaves, before its end
abbrev pub begun : World → ℕ → Activity → Activity → (ℕ → Bool) → World
begun w a act new given = record w { activities = set w.activities a act ++ new ∷ []; clocks = joined a given w.clocks }

module _ (m : ModuleValue) (w : World) (a : ℕ) (was act new : Activity) (given : ℕ → Bool) (sound : IsSound m w) (found : slice_get w.activities a ≡ Some was)
    (d : IsStarted m w a was act new given) where
  -- the activities but the new one
  abbrev before : List Activity
  before = set w.activities a act

  -- they are as many as there were
  before_width : length before ≡ length w.activities
  before_width = length-set w.activities a act

  -- the clocks after the step
  abbrev after_clocks : List Clock
  after_clocks = joined a given w.clocks

  -- a standing for each activity
  widths : Each (λ k c. length c.standings ≡ length before) w.clocks
  widths k c at = (sound.clocks k c at).width ∙ sym before_width

  -- for the old ones clocks' names have the kinds that they had
  old_looks : (b : ℕ) → b < length before → looks w.clocks b ≡ looks after_clocks b
  old_looks b inside = fun_ext (looks w.clocks b) (looks after_clocks b)
      (λ k. ap kind_by (sym (stands_on-joined_old a b given w.clocks k (λ j c at. omega (arith, widths j c at)))))

  -- for the new one those of the clocks that it is given
  new_looks : (λ k. kind_by (cond (given k) (stands_on w.clocks a k) standing.Apart)) ≡ looks after_clocks (length before)
  new_looks = fun_ext (λ k. kind_by (cond (given k) (stands_on w.clocks a k) standing.Apart)) (looks after_clocks (length before))
      (λ k. ap kind_by (sym (stands_on-joined_new a (length before) given w.clocks k widths)))

  -- the old ones are sound
  old_sound : Each (λ b x. IsActivitySound m (looks w.clocks b) (length w.clocks) (w.steps + 1) x) before
  old_sound = each_set (λ b x. IsActivitySound m (looks w.clocks b) (length w.clocks) (w.steps + 1) x) w.activities a was act found
      d.next
      (λ b x differs at. sound_later m (looks w.clocks b) (length w.clocks) (length w.clocks) w.steps (w.steps + 1) x (omega arith) (omega arith) (sound.activities b x at))

  -- and the clocks nearly
  all_near : Each (λ k c. IsClockNear (before ++ new ∷ []) (w.steps + 1) c) after_clocks
  all_near = each_joined a given (λ k c. IsClockNear (before ++ new ∷ []) (w.steps + 1) c) w.clocks
      (λ k c at. joined_near before (w.steps + 1) a new (given k) c
      (same_clock w.activities w.steps a was act c found (λ b x g. (sound.activities b x g).since) d.same_status d.same_since (sound.clocks k c at))
      (rw (d.new_status, d.new_since) (given_stands was.status was.since c.last (given k) (standing_of c a) ((sound.clocks k c at).stands a was found)))
      (let h = (sound.activities a was found).since in let e = d.new_since in omega arith))

  -- the debts after the step
  debts : (weight : Instr → ℕ) (half : ℕ)
      → owing weight half m (before ++ new ∷ []) + owed weight half m was ≡ owing weight half m w.activities + owed weight half m act + owed weight half m new
  debts weight half = omega (arith, sum_by_push (owed weight half m) before new, owing_set weight half m w.activities a was act found)

  -- the world is nearly sound
  begun_near : IsNear m (begun w a act new given)
  begun_near = record {
    limits = sound.limits;
    activities = each_push (λ b x. IsActivitySound m (looks after_clocks b) (length after_clocks) (w.steps + 1) x) before new
        (λ b x at. rw (length-joined a given w.clocks)
        (subst (λ look. IsActivitySound m look (length w.clocks) (w.steps + 1) x) (old_looks b (slice_get_within before b x at)) (old_sound b x at)))
        (rw (length-joined a given w.clocks) (subst (λ look. IsActivitySound m look (length w.clocks) (w.steps + 1) new) new_looks d.begins));
    clocks = all_near;
    cells = sound.cells;
    steps = omega (arith, debts steps_weight 1, d.shared.steps, sound.steps);
    started = omega (arith, length_push before new, before_width, debts activities_weight 0, d.shared.started, sound.started);
    made = omega (arith, length-joined a given w.clocks, debts clocks_weight 0, d.shared.made, sound.made);
  }

  -- and at the end of the step sound
  pub begun_sound : IsSound m (settled (begun w a act new given))
  begun_sound = world_settled m (begun w a act new given) begun_near

-- ---- `stored`: a shared number is written

-- other shared numbers, as many as there were, keep the invariant
pub cells_sound : (m : ModuleValue) (w : World) (cells : List ℤ) → IsSound m w → length cells ≡ length w.cells → IsSound m (record w { cells = cells })
cells_sound m w cells s same = record {
  limits = s.limits;
  activities = s.activities;
  clocks = s.clocks;
  cells = same ∙ s.cells;
  steps = s.steps;
  started = s.started;
  made = s.made;
}
