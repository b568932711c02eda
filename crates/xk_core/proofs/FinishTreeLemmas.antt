-- What holds of a core by its parts: a world without finishes, and the tree that tells of them.
use Rattle.std.proofs.Common.{◌≡◌, ℕ, zero, suc, ℤ, ◌+◌, ◌-◌, ◌<◌, ◌≤◌, Bool, true, false, not, ◌&&◌, cond, List, [], ◌∷◌, ◌++◌, length, map, Option, Some, None, Result, Ok, Err, IfOk, OnOk, inl, inr, ◌⊎◌, refl, sym, ap, ◌∙◌, subst, arith, slice_get, slice_set, option_map, length-set}
use Rattle.std.specs.List.{list_all}
use Rattle.std.proofs.lemmas.Bool.{false≢true, cases_eq}
use Rattle.std.proofs.lemmas.Option.{none-some, same_Some, slice_get_within, get_or_from_slice_get}
use Rattle.std.proofs.lemmas.List.{length_push}
use Rattle.xk_types.specs.declared.instr.Instr.{Instr}
use Rattle.xk_types.specs.declared.instr.Instr.TheVariants as instr
use Rattle.xk_types.specs.declared.world.Status.{Status}
use Rattle.xk_types.specs.declared.world.Status.TheVariants as status
use Rattle.xk_types.specs.declared.world.Event.{Event}
use Rattle.xk_types.specs.declared.world.Event.TheVariants as event
use Rattle.xk_types.specs.Code.{ModuleValue, IsWithinLimits}
use Rattle.xk_types.specs.Acceptance.{IsAccepted}
use Rattle.xk_types.specs.Bound.{steps_bound, room_of}
use Rattle.xk_types.specs.World.{Activity, World, base_unit, is_ended, instruction_at, root, main_of, opening, AreArguments}
use Rattle.xk_types.specs.Step.{Outcome, Blocked, Wrong, Stepped, waits, step_by, step_of, step, carried_out, past, done, none, all, passed, onward, moved, settled, left, closing, awaits, innermost, child}
use Rattle.xk_types.specs.Schedule.{is_step, is_enabled}
use Rattle.xk_types.proofs.ListLemmas.{get_inside, get-set_same, get-set_other, get_push, get-push_other}
use Rattle.xk_law_schedules.proofs.StepCountLemmas.{step_counts}
use Rattle.xk_law_schedules.proofs.Invariant.{IsSound}
use Rattle.xk_law_schedules.proofs.ScopeLemmas.Invariant.{IsScoped, based}
use Rattle.xk_law_schedules.proofs.ReachabilityLemmas.{reached_sound, reached_scoped, opening_reached}
use Rattle.xk_law_schedules.proofs.SafetyLemmas.InstructionLemmas.{standing_at, instruction_found}
use Rattle.xk_law_schedules.proofs.SafetyLemmas.StepLemmas.{room_at_finish, open_at_end, closed_at_end}
use Rattle.xk_finishes.specs.Tree.{NodeValue, node_at, fresh_node, node_entered, node_left, node_ended, changed_at, governing_of, awaits_innermost, IsNodeOf, AreNodesOf}
use Rattle.xk_finishes.specs.Tree as tree
use Rattle.xk_finishes.proofs.ActivityLemmas.{awaits_same}
use Rattle.xk_core.specs.InstructionEffect.{value_at, carried, carried_by, passed_on, passing_by, concerns_finishes, IsRoomy, IsLast}
use Rattle.xk_activity.specs.Activities.{Stands, act_at, nobody}
use Rattle.xk_core.specs.Enabledness.{able_by, able_of, is_able, kept_by, is_kept}
use Rattle.xk_core.specs.Core.{IsCore, instruction_by, instruction_of, next_instruction}
use Rattle.xk_core.specs.FinishView.{with_node, with_nodes, with_finishes, is_end, IsToldOf, AreTold}
use Rattle.xk_core.proofs.CoreLemmas.{core_roomy, core_stepped, core_bound, core_able, pass_step, carry_step}
use Rattle.xk_core.proofs.FinishViewLemmas.{length_told, get_told, set_told, set_both, told_so, Leaves, Tells, IsTold, carried_told, spawn_told}
use Rattle.xk_core.proofs.OperandLemmas.{spawning_there, spawn_by}

-- ---- an activity and its node

-- what both lists have at a number: nothing, or an activity and what the tree tells of it
pub data At (ns : List NodeValue) (xs : List Activity) (a : ℕ) : Type 0 where
  Nobody : slice_get xs a ≡ None → slice_get (with_nodes ns xs) a ≡ None → At ns xs a
  Somebody : (n : NodeValue) (x : Activity) → slice_get ns a ≡ Some n → slice_get xs a ≡ Some x → slice_get (with_nodes ns xs) a ≡ Some (with_node n x) → At ns xs a

pub told_at : (ns : List NodeValue) (xs : List Activity) → length ns ≡ length xs → (a : ℕ) → At ns xs a
told_at ns xs width a = by (slice_get xs a) refl
  where
    by : (o : Option Activity) → slice_get xs a ≡ o → At ns xs a
    by None e = Nobody e (none (slice_get (with_nodes ns xs) a) refl)
      where
        none : (o : Option Activity) → slice_get (with_nodes ns xs) a ≡ o → slice_get (with_nodes ns xs) a ≡ None
        none None h = h
        none (Some y) h =
            (let inside = slice_get_within (with_nodes ns xs) a y h in
            let x = get_inside xs a (omega (arith, length_told ns xs width)) in
            absurd (none-some x.0 (sym e ∙ x.1)))
    by (Some x) e = (let n = get_inside ns a (let inside = slice_get_within xs a x e in omega arith) in Somebody n.0 x n.1 e (get_told ns xs a n.0 x n.1 e))

pub twice : (b : Bool) → not (not b) ≡ b
twice true = refl
twice false = refl

-- the node of an activity that is there
node_is : (ns : List NodeValue) (a : ℕ) (n : NodeValue) → slice_get ns a ≡ Some n → node_at ns a ≡ n
node_is ns a n h = get_or_from_slice_get ns a n _ h

-- ---- what is read of a core

-- statuses are the same
pub ended_told : (ns : List NodeValue) (xs : List Activity) → length ns ≡ length xs
    → list_all (λ (act : Activity). is_ended act.status) (with_nodes ns xs) ≡ list_all (λ (act : Activity). is_ended act.status) xs
ended_told [] [] h = refl
ended_told [] (x ∷ xs) h = absurd (omega arith)
ended_told (n ∷ ns) [] h = refl
ended_told (n ∷ ns) (x ∷ xs) h = ap (λ b. is_ended x.status && b) (ended_told ns xs (omega arith))

able_told : (ns : List NodeValue) (w : World) → length ns ≡ length w.activities → (a : ℕ) → is_able (with_finishes ns w) a ≡ is_able w a
able_told ns w width a = by (told_at ns w.activities width a)
  where
    by : At ns w.activities a → is_able (with_finishes ns w) a ≡ is_able w a
    by (Nobody e g) = ap (able_of (with_finishes ns w) a) g ∙ sym (ap (able_of w a) e)
    by (Somebody n x h e g) = ap (able_of (with_finishes ns w) a) g ∙ same x.status ∙ sym (ap (able_of w a) e)
      where
        same : (s : Status) → able_by (with_finishes ns w) a s ≡ able_by w a s
        same status.Running = refl
        same status.Arrived = refl
        same status.Ended = refl

pub next_told : (m : ModuleValue) (ns : List NodeValue) (w : World) → length ns ≡ length w.activities → (a : ℕ) → next_instruction m (with_finishes ns w) a ≡ next_instruction m w a
next_told m ns w width a = by (told_at ns w.activities width a)
  where
    by : At ns w.activities a → next_instruction m (with_finishes ns w) a ≡ next_instruction m w a
    by (Nobody e g) = ap (instruction_of m) g ∙ sym (ap (instruction_of m) e)
    by (Somebody n x h e g) = ap (instruction_of m) g ∙ same x.status ∙ sym (ap (instruction_of m) e)
      where
        same : (s : Status) → instruction_by m (with_node n x) s ≡ instruction_by m x s
        same status.Running = refl
        same status.Arrived = refl
        same status.Ended = refl

pub since_told : (ns : List NodeValue) (w : World) → length ns ≡ length w.activities → (a : ℕ)
    → option_map (λ (x : Activity). x.since) (slice_get (with_finishes ns w).activities a) ≡ option_map (λ (x : Activity). x.since) (slice_get w.activities a)
since_told ns w width a = by (told_at ns w.activities width a)
  where
    by : At ns w.activities a → option_map (λ (x : Activity). x.since) (slice_get (with_finishes ns w).activities a) ≡ option_map (λ (x : Activity). x.since)
        (slice_get w.activities a)
    by (Nobody e g) = ap (option_map (λ (x : Activity). x.since)) (g ∙ sym e)
    by (Somebody n x h e g) = ap (option_map (λ (x : Activity). x.since)) g ∙ sym (ap (option_map (λ (x : Activity). x.since)) e)

-- the tree tells of the activities as the definition has them
pub nodes_told : (m : ModuleValue) (ns : List NodeValue) (xs : List Activity) → AreTold m ns xs → AreNodesOf (with_nodes ns xs) ns
nodes_told m ns xs t = from ns xs t.width (λ a n x h g. (t.each a n x h g).ended)
  where
    from : (ks : List NodeValue) (ys : List Activity) → length ks ≡ length ys
        → ((a : ℕ) (n : NodeValue) (x : Activity) → slice_get ks a ≡ Some n → slice_get ys a ≡ Some x → n.ended ≡ is_ended x.status)
        → AreNodesOf (with_nodes ks ys) ks
    from [] [] h each = tt
    from [] (y ∷ ys) h each = tt
    from (k ∷ ks) [] h each = absurd (omega arith)
    from (k ∷ ks) (y ∷ ys) h each = (
      ap (λ b. record { opened = k.opened; room = k.room; governed = k.governed; ended = b })
          (each zero k y refl refl),
      from ks ys (omega arith) (λ a n x p q. each (suc a) n x p q),
    )

-- ---- a core, by its parts

-- the world is one that a legal schedule reaches, and the tree tells of it
pub record IsHeld (m : ModuleValue) (ns : List NodeValue) (w : World) : Type 0 where
  pub core : IsCore m (with_finishes ns w)
  pub are : AreTold m ns w.activities

pub held : (m : ModuleValue) (ns : List NodeValue) (w : World) → IsCore m (with_finishes ns w) × AreTold m ns w.activities → IsHeld m ns w
held m ns w h = record { core = h.0; are = h.1 }

pub parts : (m : ModuleValue) (ns : List NodeValue) (w : World) → IsHeld m ns w → IsCore m (with_finishes ns w) × AreTold m ns w.activities
parts m ns w h = (h.core, h.are)

-- the same, where the module has another name
pub parts_in : (m k : ModuleValue) (ns : List NodeValue) (w : World) → k ≡ m → IsHeld m ns w → IsCore k (with_finishes ns w) × AreTold k ns w.activities
parts_in m k ns w same h = parts k ns w (subst (λ p. IsHeld p ns w) (sym same) h)

-- it goes on by a step
pub held_on : (m : ModuleValue) (ns ks : List NodeValue) (w v : World) (a : ℕ) (e : Event) → IsHeld m ns w → AreTold m ks v.activities
    → step m (with_finishes ns w) a ≡ Stepped (with_finishes ks v) e → IsHeld m ks v
held_on m ns ks w v a e h are goes = record {
  core = core_stepped m (with_finishes ns w) (with_finishes ks v) a e h.core goes;
  are = are;
}

module _ (m : ModuleValue) (ns : List NodeValue) (w : World) (a : ℕ) (h : IsHeld m ns w) where
  -- one more of each number fits its type
  pub parts_roomy : a < length w.activities → IsRoomy m w a
  parts_roomy lt =
      let long = length_told ns w.activities h.are.width in
      let r = core_roomy m (with_finishes ns w) a h.core (omega (arith, lt, long)) in
      record {
        steps = r.steps;
        phases = r.phases;
        clocks = r.clocks;
        stands = by (told_at ns w.activities h.are.width a) r.stands;
        standings = λ k d inside. r.standings k d inside ∙ long;
      }
    where
      by : At ns w.activities a → Stands m (act_at (with_nodes ns w.activities) a) → Stands m (act_at w.activities a)
      by (Nobody e g) s = (let y = get_inside w.activities a lt in absurd (none-some y.0 (sym e ∙ y.1)))
      by (Somebody n x k e g) s =
          (let t : Stands m (with_node n x) = subst (Stands m) (get_or_from_slice_get (with_nodes ns w.activities) a (with_node n x) nobody g) s in
          subst (Stands m) (sym (get_or_from_slice_get w.activities a x nobody e)) t)

  -- nobody waits for its present frame, also without finishes
  pub last_told : IsLast (with_finishes ns w) a → IsLast w a
  last_told l act there = by (told_at ns w.activities h.are.width a)
    where
      by : At ns w.activities a → act.callers ≡ []
      by (Nobody e g) = absurd (none-some act (sym e ∙ there))
      by (Somebody n x k e g) = ap (λ (y : Activity). y.callers) (same_Some act x (sym there ∙ e)) ∙ l (with_node n x) g

  -- who is able and isn't kept is enabled
  pub parts_able : (is_able w a && not (is_kept m (with_finishes ns w) a)) ≡ is_enabled m (with_finishes ns w) a
  parts_able = ap (λ b. b && not (is_kept m (with_finishes ns w) a)) (sym (able_told ns w h.are.width a)) ∙ core_able m (with_finishes ns w) a h.core

  -- ---- a pass

  -- an enabled activity that doesn't run passes, also without finishes
  module _ (enabled : is_enabled m (with_finishes ns w) a ≡ true) (next : next_instruction m (with_finishes ns w) a ≡ None) where
    pass_goes : step m (with_finishes ns w) a ≡ passed_on (with_finishes ns w) a
    pass_goes = pass_step m (with_finishes ns w) a enabled next

    pass_same : (o : Outcome) → passed_on w a ≡ o → At ns w.activities a → passed_on (with_finishes ns w) a ≡ told_so ns o
    pass_same o e (Nobody p g) = ap (passing_by (with_finishes ns w) a) g ∙ ap (told_so ns) (sym (ap (passing_by w a) p) ∙ e)
    pass_same o e (Somebody n x k p g) = ap (passing_by (with_finishes ns w) a) g ∙ waits_same (waits w a) ∙ ap (told_so ns) (sym (ap (passing_by w a) p) ∙ e)
      where
        waits_same : (b : Bool) → cond b Blocked (done (with_finishes ns w) a (past (with_node n x) (w.steps + 1)) (all passed) event.Passed) ≡ told_so ns
            (cond b Blocked (done w a (past x (w.steps + 1)) (all passed) event.Passed))
        waits_same true = refl
        waits_same false = ap (λ l. Stepped (settled (record w { activities = l; clocks = moved a (all passed) w.clocks })) event.Passed)
            (sym (set_told ns w.activities a n (past x (w.steps + 1)) k))

    pub pass_enabled : is_step (passed_on w a) ≡ true
    pass_enabled = so (passed_on w a) refl
      where
        so : (o : Outcome) → passed_on w a ≡ o → is_step o ≡ true
        so o e = is o (sym (pass_same o e (told_at ns w.activities h.are.width a)) ∙ sym pass_goes)
          where
            is : (q : Outcome) → told_so ns q ≡ step m (with_finishes ns w) a → is_step q ≡ true
            is Blocked f = absurd (false≢true (ap is_step f ∙ enabled))
            is (Wrong c) f = absurd (false≢true (ap is_step f ∙ enabled))
            is (Stepped v x) f = refl

    pub pass_stepped : (v : World) (e : Event) → passed_on w a ≡ Stepped v e → step m (with_finishes ns w) a ≡ Stepped (with_finishes ns v) e
    pass_stepped v e p = pass_goes ∙ pass_same (Stepped v e) p (told_at ns w.activities h.are.width a)

-- who passes exists
pub pass_within : (w : World) (a : ℕ) → is_step (passed_on w a) ≡ true → a < length w.activities
pass_within w a h = by (slice_get w.activities a) refl h
  where
    by : (o : Option Activity) → slice_get w.activities a ≡ o → is_step (passing_by w a o) ≡ true → a < length w.activities
    by None e k = absurd (false≢true k)
    by (Some x) e k = slice_get_within w.activities a x e

-- the opening world, and the tree of it
pub opened : (m k : ModuleValue) (args : List ℤ) (ns : List NodeValue) (w : World) → IsWithinLimits m → IsAccepted m → AreArguments m args → k ≡ m → w ≡ opening m args → ns ≡ fresh_node root (room_of m 0) ∷ []
    → IsCore k (with_finishes ns w) × AreTold k ns w.activities
opened m k args ns w limits accepted taken same world nodes = rw (same, world, nodes) (
  record { limits = limits; accepted = accepted; reached = opening_reached m args taken },
  record { width = refl; each = told },
)
  where
    told : (a : ℕ) (n : NodeValue) (x : Activity) → slice_get (fresh_node root (room_of m 0) ∷ []) a ≡ Some n → slice_get (main_of m args ∷ []) a ≡ Some x → IsToldOf m n x
    told zero n x p q = subst (λ z. IsToldOf m z x) (same_Some _ n p) (subst (λ z. IsToldOf m (fresh_node root (room_of m 0)) z) (same_Some _ x q) (record { ended = refl; room = refl }))
    told (suc a) n x p q = absurd (none-some n p)

-- ---- what the tree tells after a step

told_set : (m : ModuleValue) (ns : List NodeValue) (xs : List Activity) (a : ℕ) (k : NodeValue) (x y : Activity) → AreTold m ns xs → slice_get xs a ≡ Some x → IsToldOf m k y
    → (ks : List NodeValue) → length ks ≡ length ns → slice_get ks a ≡ Some k → ((b : ℕ) → (b ≡ a → ⊥) → slice_get ks b ≡ slice_get ns b) → AreTold m ks (slice_set xs a y)
told_set m ns xs a k x y t found now ks width here others = record {
  width = width ∙ t.width ∙ sym (length-set xs a y);
  each = λ b n z p q. by b n z p q (cases_eq b a);
}
  where
    by : (b : ℕ) (n : NodeValue) (z : Activity) → slice_get ks b ≡ Some n → slice_get (slice_set xs a y) b ≡ Some z → (b ≡ a) ⊎ (b ≡ a → ⊥) → IsToldOf m n z
    by b n z p q (inl e) =
        let nk : k ≡ n = same_Some k n (sym here ∙ ap (slice_get ks) (sym e) ∙ p) in
        let yz : y ≡ z = same_Some y z (sym (get-set_same xs a x y found) ∙ ap (slice_get (slice_set xs a y)) (sym e) ∙ q) in
        subst (λ v. IsToldOf m n v) yz (subst (λ v. IsToldOf m v y) nk now)
    by b n z p q (inr differs) = t.each b n z (sym (others b differs) ∙ p) (sym (get-set_other xs a b y differs) ∙ q)

-- the same tree
pub told_stays : (m : ModuleValue) (ns : List NodeValue) (xs : List Activity) (a : ℕ) (n : NodeValue) (x y : Activity) → AreTold m ns xs → slice_get ns a ≡ Some n
    → slice_get xs a ≡ Some x
    → is_ended y.status ≡ is_ended x.status → base_unit y ≡ base_unit x → AreTold m ns (slice_set xs a y)
told_stays m ns xs a n x y t here found st base = told_set m ns xs a n x y t found
    (let s = t.each a n x here found in record { ended = s.ended ∙ sym st; room = s.room ∙ ap (room_of m) (sym base) }) ns refl here (λ b differs. refl)

-- a node changed too
told_changed : (m : ModuleValue) (ns : List NodeValue) (xs : List Activity) (a : ℕ) (n k : NodeValue) (x y : Activity) → AreTold m ns xs
    → slice_get ns a ≡ Some n → slice_get xs a ≡ Some x
    → IsToldOf m k y → AreTold m (slice_set ns a k) (slice_set xs a y)
told_changed m ns xs a n k x y t here found now = told_set m ns xs a k x y t found now (slice_set ns a k) (length-set ns a k) (get-set_same ns a n k here)
    (λ b differs. get-set_other ns a b k differs)

-- a new activity
told_push : (m : ModuleValue) (ns : List NodeValue) (xs : List Activity) (k : NodeValue) (y : Activity) → AreTold m ns xs → IsToldOf m k y → AreTold m (ns ++ k ∷ []) (xs ++ y ∷ [])
told_push m ns xs k y t now = record {
  width = omega (arith, length_push ns k, length_push xs y, t.width);
  each = λ b n z p q. by b n z p q (cases_eq b (length ns));
}
  where
    by : (b : ℕ) (n : NodeValue) (z : Activity) → slice_get (ns ++ k ∷ []) b ≡ Some n → slice_get (xs ++ y ∷ []) b ≡ Some z → (b ≡ length ns) ⊎ (b ≡ length ns → ⊥) → IsToldOf m n z
    by b n z p q (inl e) =
        let nk : k ≡ n = same_Some k n (sym (get_push ns k) ∙ ap (slice_get (ns ++ k ∷ [])) (sym e) ∙ p) in
        let yz : y ≡ z = same_Some y z (sym (get_push xs y) ∙ ap (slice_get (xs ++ y ∷ [])) (sym t.width ∙ sym e) ∙ q) in
        subst (λ v. IsToldOf m n v) yz (subst (λ v. IsToldOf m v y) nk now)
    by b n z p q (inr differs) = t.each b n z (sym (get-push_other ns k b differs) ∙ p) (sym (get-push_other xs y b (λ e. differs (e ∙ sym t.width))) ∙ q)

-- the finishes of an activity don't depend on whether it has ended
ended_same : (ns : List NodeValue) (xs : List Activity) (a : ℕ) (n : NodeValue) → slice_get ns a ≡ Some n → with_nodes (slice_set ns a (node_ended n)) xs ≡ with_nodes ns xs
ended_same [] xs a n h = refl
ended_same (k ∷ ns) [] zero n h = refl
ended_same (k ∷ ns) [] (suc a) n h = refl
ended_same (k ∷ ns) (x ∷ xs) zero n h = ap (λ z. with_node (node_ended z) x ∷ with_nodes ns xs) (sym (same_Some k n h))
ended_same (k ∷ ns) (x ∷ xs) (suc a) n h = ap (λ l. with_node k x ∷ l) (ended_same ns xs a n h)

-- one step leads to one world
same_world : (v u : World) (e f : Event) → Stepped v e ≡ Stepped u f → v ≡ u
same_world v u e f q = cc

-- ---- one activity of a core

module _ (m : ModuleValue) (ns : List NodeValue) (w : World) (a : ℕ) (h : IsHeld m ns w) where
  -- an activity that runs, and what the tree tells of it
  pub record Runs (i : Instr) : Type 0 where
    pub n : NodeValue
    pub x : Activity
    pub here : slice_get ns a ≡ Some n
    pub found : slice_get w.activities a ≡ Some x
    pub both : slice_get (with_finishes ns w).activities a ≡ Some (with_node n x)
    pub running : x.status ≡ status.Running
    pub at : instruction_at m x.frame ≡ Some i

  pub runs : (i : Instr) → next_instruction m (with_finishes ns w) a ≡ Some i → Runs i
  runs i next = by (told_at ns w.activities h.are.width a)
    where
      by : At ns w.activities a → Runs i
      by (Nobody e g) = absurd (none-some i (sym (ap (instruction_of m) g) ∙ next))
      by (Somebody n x k e g) = go x.status refl (sym (ap (instruction_of m) g) ∙ next)
        where
          go : (s : Status) → x.status ≡ s → instruction_by m (with_node n x) s ≡ Some i → Runs i
          go status.Running st f = record { n = n; x = x; here = k; found = e; both = g; running = st; at = f }
          go status.Arrived st f = absurd (none-some i f)
          go status.Ended st f = absurd (none-some i f)

  sound : IsSound m (with_finishes ns w)
  sound = reached_sound m h.core.limits h.core.accepted (with_finishes ns w) h.core.reached

  scoped : IsScoped m (with_finishes ns w)
  scoped = reached_scoped m h.core.limits h.core.accepted (with_finishes ns w) h.core.reached

  -- it stands at the instruction in the unit that it runs
  stands : (i : Instr) (r : Runs i) → slice_get (sound.activities a (with_node r.n r.x) r.both).u.code r.x.frame.place ≡ Some i
  stands i r =
      let s = standing_at m h.core.accepted (with_finishes ns w) a (with_node r.n r.x) sound r.both r.running in
      let same : s.0 ≡ i = same_Some s.0 i (sym (instruction_found m h.core.accepted (with_finishes ns w) a (with_node r.n r.x) sound r.both r.running s.0 s.1) ∙ r.at) in
      s.1 ∙ ap Some same

  pub exists : (i : Instr) → Runs i → (a < length ns) × (a < length w.activities)
  exists i r = (slice_get_within ns a r.n r.here, slice_get_within w.activities a r.x r.found)

  pub alive : (i : Instr) → Runs i → (node_at ns a).ended ≡ false
  alive i r = ap (λ (n : NodeValue). n.ended) (node_is ns a r.n r.here) ∙ (h.are.each a r.n r.x r.here r.found).ended ∙ ap is_ended r.running

  -- the step is what the activity does at the instruction
  goes : (i : Instr) → next_instruction m (with_finishes ns w) a ≡ Some i → (r : Runs i)
      → step m (with_finishes ns w) a ≡ carried_out m (with_finishes ns w) a (with_node r.n r.x) i
  goes i next r = carry_step m (with_finishes ns w) a i next ∙ ap (carried_by m (with_finishes ns w) a i) r.both

  -- ---- `finish`

  pub open_room : (e : ℕ) → Runs (instr.Finish e) → (node_at ns a).opened < (node_at ns a).room
  open_room e r =
      let k = node_is ns a r.n r.here in
      let q = room_at_finish m h.core.accepted (with_finishes ns w) sound scoped a (with_node r.n r.x) r.both e (stands (instr.Finish e) r) in
      let s = (h.are.each a r.n r.x r.here r.found).room in
      subst (λ (z : NodeValue). z.opened < z.room) (sym k) (omega (arith, q, s))

  pub open_stepped : (e : ℕ) → next_instruction m (with_finishes ns w) a ≡ Some (instr.Finish e) → (r : Runs (instr.Finish e)) → (v : World)
      → v ≡ settled (record w { activities = slice_set w.activities a (onward r.x); clocks = moved a none w.clocks })
      → step m (with_finishes ns w) a ≡ Stepped (with_finishes (changed_at ns a node_entered) v) event.Opened
  open_stepped e next r v is = goes (instr.Finish e) next r
      ∙ ap (λ l. Stepped (settled (record w { activities = l; clocks = moved a none w.clocks })) event.Opened)
      (sym (set_both ns w.activities a (node_entered r.n) (onward r.x))
      ∙ ap (λ z. with_nodes (slice_set ns a (node_entered z)) (slice_set w.activities a (onward r.x))) (sym (node_is ns a r.n r.here)))
      ∙ ap (λ u. Stepped (with_finishes (changed_at ns a node_entered) u) event.Opened) (sym is)

  pub open_are : (e : ℕ) (r : Runs (instr.Finish e)) (v : World) → v ≡ settled (record w { activities = slice_set w.activities a (onward r.x); clocks = moved a none w.clocks })
      → AreTold m (changed_at ns a node_entered) v.activities
  open_are e r v is = subst (λ (u : World). AreTold m (changed_at ns a node_entered) u.activities) (sym is)
      (subst (λ z. AreTold m (slice_set ns a (node_entered z)) (slice_set w.activities a (onward r.x))) (sym (node_is ns a r.n r.here))
      (told_changed m ns w.activities a r.n (node_entered r.n) r.x (onward r.x) h.are r.here r.found
      (let s = h.are.each a r.n r.x r.here r.found in record { ended = s.ended; room = s.room ∙ ap (room_of m) (sym (based r.x.frame (onward r.x).frame r.x.callers refl)) })))

  -- ---- `endfinish`

  pub close_open : (b : ℕ) → Runs (instr.EndFinish b) → 0 < (node_at ns a).opened
  close_open b r =
      let q = open_at_end m h.core.accepted (with_finishes ns w) sound scoped a (with_node r.n r.x) r.both b (stands (instr.EndFinish b) r) in
      subst (λ (z : NodeValue). 0 < z.opened) (sym (node_is ns a r.n r.here)) (omega (arith, q))

  -- the tree awaits somebody where the definition does
  awaits_told : (i : Instr) (r : Runs i) → awaits_innermost ns a ≡ awaits (with_finishes ns w).activities (innermost a (with_node r.n r.x))
  awaits_told i r = awaits_same (with_nodes ns w.activities) ns (nodes_told m ns w.activities h.are) (tree.innermost_of a (node_at ns a))
      ∙ ap (λ (z : NodeValue). awaits (with_finishes ns w).activities (record { owner = Some a; depth = z.opened })) (node_is ns a r.n r.here)

  pub kept_told : (b : ℕ) → next_instruction m (with_finishes ns w) a ≡ Some (instr.EndFinish b) → (r : Runs (instr.EndFinish b))
      → is_kept m (with_finishes ns w) a ≡ awaits_innermost ns a
  kept_told b next r = ap (kept_by (with_finishes ns w) a (slice_get (with_finishes ns w).activities a)) next
      ∙ ap (λ o. kept_by (with_finishes ns w) a o (Some (instr.EndFinish b))) r.both ∙ sym (awaits_told (instr.EndFinish b) r)

  -- what the definition does there
  close_by : (b : ℕ) → next_instruction m (with_finishes ns w) a ≡ Some (instr.EndFinish b) → (r : Runs (instr.EndFinish b)) → is_enabled m (with_finishes ns w) a ≡ true
      → (awaits_innermost ns a ≡ false) × (step m (with_finishes ns w) a ≡ done (with_finishes ns w) a (left (with_node r.n r.x) (r.n.opened - 1)) none event.Closed)
  close_by b next r enabled = by r.n.opened refl (awaits (with_finishes ns w).activities (innermost a (with_node r.n r.x))) refl
    where
      start : step m (with_finishes ns w) a ≡ closing (with_finishes ns w) a (with_node r.n r.x) r.n.opened
      start = goes (instr.EndFinish b) next r

      by : (k : ℕ) → r.n.opened ≡ k → (x : Bool) → awaits (with_finishes ns w).activities (innermost a (with_node r.n r.x)) ≡ x
          → (awaits_innermost ns a ≡ false) × (step m (with_finishes ns w) a ≡ done (with_finishes ns w) a (left (with_node r.n r.x) (r.n.opened - 1)) none event.Closed)
      by zero e x q = absurd (false≢true (sym (ap is_step (start ∙ ap (closing (with_finishes ns w) a (with_node r.n r.x)) e)) ∙ enabled))
      by (suc k) e true q = absurd (false≢true
          (sym (ap is_step (start ∙ ap (closing (with_finishes ns w) a (with_node r.n r.x)) e
          ∙ ap (λ c. cond c Blocked (done (with_finishes ns w) a (left (with_node r.n r.x) k) none event.Closed)) q)) ∙ enabled))
      by (suc k) e false q = (
        awaits_told (instr.EndFinish b) r ∙ q,
        start ∙ ap (closing (with_finishes ns w) a (with_node r.n r.x)) e ∙ ap (λ c. cond c Blocked (done (with_finishes ns w) a (left (with_node r.n r.x) k) none event.Closed)) q
            ∙ ap (λ j. done (with_finishes ns w) a (left (with_node r.n r.x) j) none event.Closed) (omega arith),
      )

  pub close_empty : (b : ℕ) → next_instruction m (with_finishes ns w) a ≡ Some (instr.EndFinish b) → is_enabled m (with_finishes ns w) a ≡ true → awaits_innermost ns a ≡ false
  close_empty b next enabled = (close_by b next (runs (instr.EndFinish b) next) enabled).0

  pub close_stepped : (b : ℕ) → next_instruction m (with_finishes ns w) a ≡ Some (instr.EndFinish b) → is_enabled m (with_finishes ns w) a ≡ true
      → (r : Runs (instr.EndFinish b)) → (v : World)
      → v ≡ settled (record w { activities = slice_set w.activities a (onward r.x); clocks = moved a none w.clocks })
      → step m (with_finishes ns w) a ≡ Stepped (with_finishes (changed_at ns a node_left) v) event.Closed
  close_stepped b next enabled r v is = (close_by b next r enabled).1
      ∙ ap (λ l. Stepped (settled (record w { activities = l; clocks = moved a none w.clocks })) event.Closed)
      (sym (set_both ns w.activities a (node_left r.n) (onward r.x))
      ∙ ap (λ z. with_nodes (slice_set ns a (node_left z)) (slice_set w.activities a (onward r.x))) (sym (node_is ns a r.n r.here)))
      ∙ ap (λ u. Stepped (with_finishes (changed_at ns a node_left) u) event.Closed) (sym is)

  pub close_are : (b : ℕ) (r : Runs (instr.EndFinish b)) (v : World) → v ≡ settled (record w { activities = slice_set w.activities a (onward r.x); clocks = moved a none w.clocks })
      → AreTold m (changed_at ns a node_left) v.activities
  close_are b r v is = subst (λ (u : World). AreTold m (changed_at ns a node_left) u.activities) (sym is)
      (subst (λ z. AreTold m (slice_set ns a (node_left z)) (slice_set w.activities a (onward r.x))) (sym (node_is ns a r.n r.here))
      (told_changed m ns w.activities a r.n (node_left r.n) r.x (onward r.x) h.are r.here r.found
      (let s = h.are.each a r.n r.x r.here r.found in record { ended = s.ended; room = s.room ∙ ap (room_of m) (sym (based r.x.frame (onward r.x).frame r.x.callers refl)) })))

  -- ---- other instructions of one activity

  module _ (i : Instr) (plain : concerns_finishes i ≡ false) (next : next_instruction m (with_finishes ns w) a ≡ Some i) where
    r : Runs i
    r = runs i next

    both_told : IsTold i ns w a r.x (carried m (with_finishes ns w) a i) (carried m w a i)
    both_told = carried_told m ns w a r.n r.x h.are.width r.here r.found (ap is_ended r.running) i plain

    carry_goes : step m (with_finishes ns w) a ≡ told_so ns (carried m w a i)
    carry_goes = carry_step m (with_finishes ns w) a i next ∙ both_told.same

    pub carry_enabled : is_enabled m (with_finishes ns w) a ≡ true → is_step (carried m w a i) ≡ true
    carry_enabled enabled = by (carried m w a i) (sym carry_goes)
      where
        by : (o : Outcome) → told_so ns o ≡ step m (with_finishes ns w) a → is_step o ≡ true
        by Blocked f = absurd (false≢true (ap is_step f ∙ enabled))
        by (Wrong c) f = absurd (false≢true (ap is_step f ∙ enabled))
        by (Stepped v x) f = refl

    leaves : (v : World) (e : Event) → carried m w a i ≡ Stepped v e → Leaves i w a r.x v e
    leaves v e is = subst (Tells i w a r.x) is both_told.tells

    -- where the activity goes on, the tree stays
    pub carry_stepped : (v : World) (e : Event) → carried m w a i ≡ Stepped v e → is_end e ≡ false
        → (step m (with_finishes ns w) a ≡ Stepped (with_finishes ns v) e) × AreTold m ns v.activities
    carry_stepped v e is on =
        let l = leaves v e is in (
          carry_goes ∙ ap (told_so ns) is,
          subst (AreTold m ns) (sym l.activities)
              (told_stays m ns w.activities a r.n r.x l.y h.are r.here r.found (l.over ∙ on ∙ sym (ap is_ended r.running)) l.base),
        )

    -- where it ends, it has closed what it opened
    pub carry_closed : (v : World) (e : Event) → carried m w a i ≡ Stepped v e → is_end e ≡ true → (node_at ns a).opened ≡ 0
    carry_closed v e is end =
        let q = (leaves v e is).last end in
        ap (λ (z : NodeValue). z.opened) (node_is ns a r.n r.here)
        ∙ closed_at_end m h.core.accepted (with_finishes ns w) sound scoped a (with_node r.n r.x) r.both (stands i r ∙ ap Some q.0) q.1

    -- and the tree is told
    pub carry_ended : (v : World) (e : Event) → carried m w a i ≡ Stepped v e → is_end e ≡ true
        → (step m (with_finishes ns w) a ≡ Stepped (with_finishes (changed_at ns a node_ended) v) e) × AreTold m (changed_at ns a node_ended) v.activities
    carry_ended v e is end =
        let l = leaves v e is in
        let k = node_is ns a r.n r.here in (
          carry_goes ∙ ap (told_so ns) is ∙ ap (λ xs. Stepped (record v { activities = xs }) e)
              (sym (ap (λ z. with_nodes (slice_set ns a (node_ended z)) v.activities) k ∙ ended_same ns v.activities a r.n r.here)),
          subst (AreTold m (changed_at ns a node_ended)) (sym l.activities) (subst (λ z. AreTold m (slice_set ns a (node_ended z)) (slice_set w.activities a l.y)) (sym k)
              (told_changed m ns w.activities a r.n (node_ended r.n) r.x l.y h.are r.here r.found
              (let s = h.are.each a r.n r.x r.here r.found in record { ended = sym (l.over ∙ end); room = s.room ∙ ap (room_of m) (sym l.base) }))),
        )

  -- ---- `spawn`

  module _ (t : ℕ) (args : List ℕ) (room : ℕ) (next : next_instruction m (with_finishes ns w) a ≡ Some (instr.Spawn t args)) where
    s : Runs (instr.Spawn t args)
    s = runs (instr.Spawn t args) next

    -- what the tree tells of the new activity
    abbrev new_node : NodeValue
    new_node = fresh_node (governing_of a s.n) room

    spawn_goes : step m (with_finishes ns w) a ≡ told_so (ns ++ new_node ∷ []) (carried m w a (instr.Spawn t args))
    spawn_goes = carry_step m (with_finishes ns w) a (instr.Spawn t args) next
        ∙ spawn_told m ns w a s.n s.x h.are.width s.here s.found (ap is_ended s.running) new_node refl refl t args

    pub spawn_enabled : is_enabled m (with_finishes ns w) a ≡ true → is_step (carried m w a (instr.Spawn t args)) ≡ true
    spawn_enabled enabled = by (carried m w a (instr.Spawn t args)) (sym spawn_goes)
      where
        by : (o : Outcome) → told_so (ns ++ new_node ∷ []) o ≡ step m (with_finishes ns w) a → is_step o ≡ true
        by Blocked f = absurd (false≢true (ap is_step f ∙ enabled))
        by (Wrong c) f = absurd (false≢true (ap is_step f ∙ enabled))
        by (Stepped v x) f = refl

    node_new : fresh_node (governing_of a (node_at ns a)) room ≡ new_node
    node_new = ap (λ z. fresh_node (governing_of a z) room) (node_is ns a s.n s.here)

    pub spawn_stepped : (v : World) (e : Event) → carried m w a (instr.Spawn t args) ≡ Stepped v e
        → step m (with_finishes ns w) a ≡ Stepped (with_finishes (ns ++ fresh_node (governing_of a (node_at ns a)) room ∷ []) v) e
    spawn_stepped v e is = spawn_goes ∙ ap (told_so (ns ++ new_node ∷ [])) is ∙ ap (λ z. Stepped (with_finishes (ns ++ z ∷ []) v) e) (sym node_new)

    pub spawn_are : (v : World) (e : Event) → is_enabled m (with_finishes ns w) a ≡ true → carried m w a (instr.Spawn t args) ≡ Stepped v e → room ≡ room_of m t
        → AreTold m (ns ++ fresh_node (governing_of a (node_at ns a)) room ∷ []) v.activities
    spawn_are v e enabled is fits =
        let u = spawn_by m w a s.x t args (slice_get m.units t) refl s.found (spawn_enabled enabled) in
        let g = spawning_there m w a s.x t args u.0 u.1 s.found (spawn_enabled enabled) in
        let world = same_world _ v event.Spawned e (sym g.goes ∙ is) in
        subst (λ (z : World). AreTold m (ns ++ fresh_node (governing_of a (node_at ns a)) room ∷ []) z.activities) world
        (subst (λ z. AreTold m (ns ++ z ∷ []) (slice_set w.activities a (onward s.x) ++ child m a s.x t (map (value_at s.x) args) ∷ [])) (sym node_new)
        (told_push m ns (slice_set w.activities a (onward s.x)) new_node (child m a s.x t (map (value_at s.x) args))
        (told_stays m ns w.activities a s.n s.x (onward s.x) h.are s.here s.found refl (based s.x.frame (onward s.x).frame s.x.callers refl))
        (record { ended = refl; room = fits })))

  -- ---- a pass

  pub pass_are : (v : World) (e : Event) → is_enabled m (with_finishes ns w) a ≡ true → passed_on w a ≡ Stepped v e → AreTold m ns v.activities
  pass_are v e enabled is = by (told_at ns w.activities h.are.width a)
    where
      by : At ns w.activities a → AreTold m ns v.activities
      by (Nobody p g) = absurd (let q : Blocked ≡ Stepped v e = sym (ap (passing_by w a) p) ∙ is in grind arith)
      by (Somebody n x k p g) = go (waits w a) (sym (ap (passing_by w a) p) ∙ is)
        where
          runs_on : (st : Status) → x.status ≡ st → is_ended st ≡ false
          runs_on status.Running f = refl
          runs_on status.Arrived f = refl
          runs_on status.Ended f = absurd (false≢true
              (sym (ap (λ o. is_step (step_of m (with_finishes ns w) a o)) g ∙ ap (λ z. is_step (step_by m (with_finishes ns w) a (with_node n x) z)) f) ∙ enabled))

          go : (b : Bool) → cond b Blocked (done w a (past x (w.steps + 1)) (all passed) event.Passed) ≡ Stepped v e → AreTold m ns v.activities
          go true q = absurd (grind arith)
          go false q = subst (λ (z : World). AreTold m ns z.activities) (same_world _ v event.Passed e q)
              (told_stays m ns w.activities a n x (past x (w.steps + 1)) h.are k p (sym (runs_on x.status refl)) (based x.frame (past x (w.steps + 1)).frame x.callers refl))

-- ---- a start

-- the new activity is told of
pub started_held : (m : ModuleValue) (ns ks : List NodeValue) (w v : World) (a t : ℕ) (args : List ℕ) (room : ℕ) (e : Event) → IsHeld m ns w
    → next_instruction m (with_finishes ns w) a ≡ Some (instr.Spawn t args) → is_enabled m (with_finishes ns w) a ≡ true → room ≡ room_of m t
    → carried m w a (instr.Spawn t args) ≡ Stepped v e → ks ≡ ns ++ fresh_node (governing_of a (node_at ns a)) room ∷ []
    → IsHeld m ks v × (step m (with_finishes ns w) a ≡ Stepped (with_finishes ks v) e)
started_held m ns ks w v a t args room e h next enabled fits is new =
    let goes = spawn_stepped m ns w a h t args room next v e is in
    let are = spawn_are m ns w a h t args room next v e enabled is fits in
    rw new (held_on m ns (ns ++ fresh_node (governing_of a (node_at ns a)) room ∷ []) w v a e h are goes, goes)

-- ---- whether memory was there or not

pub taken_counts : {E : Type 0} (m : ModuleValue) (w v : World) (a : ℕ) (r : Result Event E) → IfOk r (λ e. step m w a ≡ Stepped v e) → OnOk r (v.steps ≡ w.steps + 1)
taken_counts m w v a (Ok e) h = step_counts m w v a e h
taken_counts m w v a (Err x) h = tt

pub taken_bound : {E : Type 0} (m : ModuleValue) (w v : World) (a : ℕ) (r : Result Event E) → IsCore m w → IfOk r (λ e. step m w a ≡ Stepped v e) → OnOk r (v.steps ≤ steps_bound m)
taken_bound m w v a (Ok e) core h = core_bound m v (core_stepped m w v a e core h)
taken_bound m w v a (Err x) core h = tt
