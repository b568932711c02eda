-- A step of a world without finishes is one of the world with them.
use Rattle.std.proofs.Common.{◌≡◌, ℕ, zero, suc, ◌+◌, true, false, List, [], ◌∷◌, ◌++◌, length, ℤ, Some, refl, sym, ap, ◌∙◌, arith, true≢false, slice_get, slice_set, length-set}
use Rattle.std.proofs.lemmas.Bool.{false≢true}
use Rattle.std.proofs.lemmas.Option.{none-some, same_Some}
use Rattle.xk_types.specs.declared.instr.Instr.{Instr}
use Rattle.xk_types.specs.declared.instr.Instr.TheVariants as instr
use Rattle.xk_types.specs.declared.world.Value.{Value}
use Rattle.xk_types.specs.declared.world.Value.TheVariants as value
use Rattle.xk_types.specs.declared.world.Event.{Event}
use Rattle.xk_types.specs.declared.world.Event.TheVariants as event
use Rattle.xk_types.specs.Code.{ModuleValue}
use Rattle.xk_types.specs.World.{Frame, Activity, Clock, World, base_of, base_unit, is_ended}
use Rattle.xk_types.specs.Step.{Outcome, Blocked, Wrong, Stepped, spawned, new_clock, onward, with_slots, arrived, ended, none, all, resumed, dropped, called, back_in, settled, moved, child, governing, joined, is_given}
use Rattle.xk_law_schedules.proofs.StepFormLemmas.{Finishes, act_with, finishes_of, HoldsOfFamilies, spawning_form, instruction_form}
use Rattle.xk_law_schedules.proofs.ScopeLemmas.Invariant.{based}
use Rattle.xk_finishes.specs.Tree.{NodeValue}
use Rattle.xk_core.specs.InstructionEffect.{concerns_finishes, carried}
use Rattle.xk_core.specs.FinishView.{with_node, with_nodes, with_finishes, is_end}

-- ---- lists

pub length_told : (ns : List NodeValue) (xs : List Activity) → length ns ≡ length xs → length (with_nodes ns xs) ≡ length xs
length_told [] [] h = refl
length_told [] (x ∷ xs) h = h
length_told (n ∷ ns) [] h = refl
length_told (n ∷ ns) (x ∷ xs) h = ap suc (length_told ns xs (omega arith))

pub get_told : (ns : List NodeValue) (xs : List Activity) (a : ℕ) (n : NodeValue) (x : Activity) → slice_get ns a ≡ Some n → slice_get xs a ≡ Some x
    → slice_get (with_nodes ns xs) a ≡ Some (with_node n x)
get_told [] xs a n x h g = absurd (none-some n h)
get_told (k ∷ ns) [] a n x h g = absurd (none-some x g)
get_told (k ∷ ns) (y ∷ xs) zero n x h g = ap (λ z. Some (with_node z y)) (same_Some k n h) ∙ ap (λ z. Some (with_node n z)) (same_Some y x g)
get_told (k ∷ ns) (y ∷ xs) (suc a) n x h g = get_told ns xs a n x h g

pub set_told : (ns : List NodeValue) (xs : List Activity) (a : ℕ) (n : NodeValue) (y : Activity) → slice_get ns a ≡ Some n
    → with_nodes ns (slice_set xs a y) ≡ slice_set (with_nodes ns xs) a (with_node n y)
set_told [] xs a n y h = absurd (none-some n h)
set_told (k ∷ ns) [] a n y h = refl
set_told (k ∷ ns) (x ∷ xs) zero n y h = ap (λ z. with_node z y ∷ with_nodes ns xs) (same_Some k n h)
set_told (k ∷ ns) (x ∷ xs) (suc a) n y h = ap (λ l. with_node k x ∷ l) (set_told ns xs a n y h)

-- where the tree changes too
pub set_both : (ns : List NodeValue) (xs : List Activity) (a : ℕ) (n : NodeValue) (y : Activity)
    → with_nodes (slice_set ns a n) (slice_set xs a y) ≡ slice_set (with_nodes ns xs) a (with_node n y)
set_both [] xs a n y = refl
set_both (k ∷ ns) [] zero n y = refl
set_both (k ∷ ns) [] (suc a) n y = refl
set_both (k ∷ ns) (x ∷ xs) zero n y = refl
set_both (k ∷ ns) (x ∷ xs) (suc a) n y = ap (λ l. with_node k x ∷ l) (set_both ns xs a n y)

push_told : (ns : List NodeValue) (xs : List Activity) (n : NodeValue) (x : Activity) → length ns ≡ length xs
    → with_nodes (ns ++ n ∷ []) (xs ++ x ∷ []) ≡ with_nodes ns xs ++ with_node n x ∷ []
push_told [] [] n x h = refl
push_told [] (y ∷ xs) n x h = absurd (omega arith)
push_told (k ∷ ns) [] n x h = absurd (omega arith)
push_told (k ∷ ns) (y ∷ xs) n x h = ap (λ l. with_node k y ∷ l) (push_told ns xs n x (omega arith))

-- ---- outcomes

-- the same with finishes
abbrev pub told_so : List NodeValue → Outcome → Outcome
told_so ns Blocked = Blocked
told_so ns (Wrong c) = Wrong c
told_so ns (Stepped w e) = Stepped (with_finishes ns w) e

-- what a step at instruction i leaves of activity a alone: it ends exactly where that is seen, at a `ret` with no frame that waits, and began
-- with the same unit
pub record Leaves (i : Instr) (w : World) (a : ℕ) (x : Activity) (v : World) (e : Event) : Type 0 where
  pub y : Activity
  pub activities : v.activities ≡ slice_set w.activities a y
  pub over : is_ended y.status ≡ is_end e
  pub base : base_unit y ≡ base_unit x
  pub last : is_end e ≡ true → (i ≡ instr.Ret) × (x.callers ≡ [])

abbrev pub Tells : Instr → World → ℕ → Activity → Outcome → Type 0
Tells i w a x Blocked = Unit {0}
Tells i w a x (Wrong c) = Unit {0}
Tells i w a x (Stepped v e) = Leaves i w a x v e

-- the two outcomes are one, but for finishes
pub record IsTold (i : Instr) (ns : List NodeValue) (w : World) (a : ℕ) (x : Activity) (with' without : Outcome) : Type 0 where
  pub same : with' ≡ told_so ns without
  pub tells : Tells i w a x without

-- ---- a step

module _ (m : ModuleValue) (ns : List NodeValue) (w : World) (a : ℕ) (n : NodeValue) (x : Activity) (width : length ns ≡ length w.activities)
    (here : slice_get ns a ≡ Some n) (found : slice_get w.activities a ≡ Some x)
    (alive : is_ended x.status ≡ false) where
  abbrev Told : Instr → Outcome → Outcome → Type 0
  Told i p q = IsTold i ns w a x p q

  -- with the finishes that the tree tells of, and with its own
  abbrev told : Finishes
  told = record { activities = with_nodes ns w.activities; opened = n.opened; governed = n.governed }

  abbrev Both : Instr → (Finishes → Outcome) → Type 0
  Both i outcome = Told i (outcome told) (outcome (finishes_of w x))

  -- the activity becomes y, and clocks and shared numbers these
  abbrev leaving : Activity → List Clock → List ℤ → Event → Finishes → Outcome
  leaving y clocks cells e z = Stepped (settled (record w { activities = slice_set z.activities a (act_with y z); clocks = clocks; cells = cells })) e

  left_told : (i : Instr) (y : Activity) (clocks : List Clock) (cells : List ℤ) (e : Event) → is_ended y.status ≡ is_end e → base_unit y ≡ base_unit x
      → (is_end e ≡ true → (i ≡ instr.Ret) × (x.callers ≡ [])) → Both i (leaving y clocks cells e)
  left_told i y clocks cells e over base last = record {
    same = ap (λ l. Stepped (settled (record w { activities = l; clocks = clocks; cells = cells })) e) (sym (set_told ns w.activities a n (act_with y (finishes_of w x)) here));
    tells = record { y = act_with y (finishes_of w x); activities = refl; over = over; base = base; last = last };
  }

  -- an activity that runs on in its unit
  goes_told : (i : Instr) (frame : Frame) (clocks : List Clock) (cells : List ℤ) (e : Event) → frame.unit ≡ x.frame.unit → is_end e ≡ false
      → Both i (leaving (record x { frame = frame }) clocks cells e)
  goes_told i frame clocks cells e unit other = left_told i (record x { frame = frame }) clocks cells e (alive ∙ sym other) (based x.frame frame x.callers unit)
      (λ q. absurd (false≢true (sym other ∙ q)))

  -- each form of a step; those that concern finishes come of no such instruction
  forms_told : (i : Instr) → concerns_finishes i ≡ false → HoldsOfFamilies (Both i) (λ j. j ≡ i) m w a x
  forms_told i h = record {
    goes = λ j at frame to change e changes. goes_told i frame (moved a change w.clocks) w.cells e to.unit changes.lives;
    stored = λ j at plain s v e changes. goes_told i (onward x).frame (moved a none w.clocks) (slice_set w.cells s v) e refl changes.lives;
    made = λ d old at there. rw (length_told ns w.activities width)
        (goes_told i (onward (with_slots x (slice_set x.frame.slots d (value.Clock (length w.clocks))))).frame
        (w.clocks ++ new_clock (length w.activities) a ∷ []) w.cells event.Made refl refl);
    opened = λ e at. absurd (true≢false (ap concerns_finishes at ∙ h));
    closing = λ b at. absurd (true≢false (ap concerns_finishes at ∙ h));
    arrives = λ at. left_told i (arrived x) (moved a (all resumed) w.clocks) w.cells event.Arrived refl refl (λ q. absurd (false≢true q));
    calls = λ t args u values at found given. left_told i (called m x t values) (moved a none w.clocks) w.cells event.Local alive refl (λ q. absurd (false≢true q));
    returns = λ f fs at e. left_told i (back_in x f fs) (moved a none w.clocks) w.cells event.Local alive
        (based f (record f { place = f.place + 1 }) fs refl ∙ sym (ap (base_of x.frame) e)) (λ q. absurd (false≢true q));
    over = λ at e. left_told i (ended x) (moved a (all dropped) w.clocks) w.cells event.Ended refl refl (λ q. (sym at, e));
    spawned = λ t args u values at found given. absurd (true≢false (ap concerns_finishes at ∙ h));
  }

  -- what an activity does at such an instruction
  pub carried_told : (i : Instr) → concerns_finishes i ≡ false → Told i (carried m (with_finishes ns w) a i) (carried m w a i)
  carried_told i h = rw (get_told ns w.activities a n x here found, found)
      (instruction_form (Both i) (λ j. j ≡ i) m w a (λ c. record { same = refl; tells = tt }) x (forms_told i h) i refl)

  -- ---- starting an activity

  -- the same, with a new activity, of which the tree tells so
  spawned_told : (k : NodeValue) (t : ℕ) (values : List Value) → k.opened ≡ 0 → k.governed ≡ governing a (with_node n x)
      → spawned m (with_finishes ns w) a (with_node n x) t values ≡ told_so (ns ++ k ∷ []) (spawned m w a x t values)
  spawned_told k t values zero' governed = ap (λ l. Stepped (settled (record w { activities = l; clocks = joined a (is_given values) w.clocks })) event.Spawned)
      (ap (λ l. l ++ child m a (with_node n x) t values ∷ []) (sym (set_told ns w.activities a n (onward x) here))
      ∙ ap (λ c. with_nodes ns (slice_set w.activities a (onward x)) ++ c ∷ []) new
      ∙ sym (push_told ns (slice_set w.activities a (onward x)) k (child m a x t values) (width ∙ sym (length-set w.activities a (onward x)))))
    where
      new : child m a (with_node n x) t values ≡ with_node k (child m a x t values)
      new = ap (λ g. record (child m a x t values) { governed = g }) (sym governed) ∙ ap (λ o. record (child m a x t values) { opened = o; governed = k.governed }) (sym zero')

  -- what a `spawn` is with finishes
  pub spawn_told : (k : NodeValue) → k.opened ≡ 0 → k.governed ≡ governing a (with_node n x) → (t : ℕ) (args : List ℕ)
      → carried m (with_finishes ns w) a (instr.Spawn t args) ≡ told_so (ns ++ k ∷ []) (carried m w a (instr.Spawn t args))
  spawn_told k zero' governed t args = rw (get_told ns w.activities a n x here found, found)
      (spawning_form (λ outcome. outcome told ≡ told_so (ns ++ k ∷ []) (outcome (finishes_of w x))) (λ c. refl) w a x m t args (slice_get m.units t)
      (λ u values found given. spawned_told k t values zero' governed))
