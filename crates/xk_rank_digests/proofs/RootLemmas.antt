-- A finish that nobody owns has no depth: it is the one that governs main.
use Rattle.std.proofs.Common.{◌≡◌, ℕ, ℤ, zero, suc, ◌==◌, Bool, true, false, cond, List, [], ◌∷◌, Some, None, refl, sym, ap, subst}
use Rattle.std.proofs.Common.{slice_get, set}
use Rattle.std.proofs.lemmas.Option.{none-some, same_Some}
use Rattle.xk_types.specs.Code.{ModuleValue}
use Rattle.xk_types.specs.World.{Finish, Activity, World, opening}
use Rattle.xk_types.specs.Step.{Outcome, Blocked, Wrong, Stepped, step, onward, left, ended, arrived, child, governing, innermost}
use Rattle.xk_types.specs.Schedule.{Through, run, IsReached}
use Rattle.xk_types.proofs.ListLemmas.{Each, each_set, each_push}
use Rattle.xk_law_schedules.proofs.StepFormLemmas.{step_kind}
use Rattle.xk_law_schedules.proofs.ReachabilityLemmas.{same_through, first_step}

abbrev IsRooted : Finish → Type 0
IsRooted f = f.owner ≡ None → f.depth ≡ 0

abbrev AreRooted : List Activity → Type 0
AreRooted acts = Each (λ b (x : Activity). IsRooted x.governed) acts

abbrev Roots : Outcome → Type 0
Roots Blocked = Unit {0}
Roots (Wrong c) = Unit {0}
Roots (Stepped v e) = AreRooted v.activities

rooted_set : (acts : List Activity) (a : ℕ) (act next : Activity) → slice_get acts a ≡ Some act → next.governed ≡ act.governed
    → AreRooted acts → AreRooted (set acts a next)
rooted_set acts a act next found governed each = each_set (λ b (x : Activity). IsRooted x.governed) acts a act next found
    (subst IsRooted (sym governed) (each a act found)) (λ b x differs at. each b x at)

rooted_child : (a : ℕ) (act : Activity) → IsRooted act.governed → IsRooted (governing a act)
rooted_child a act here = by (act.opened == 0)
  where
    by : (b : Bool) → IsRooted (cond b act.governed (innermost a act))
    by true = here
    by false = λ h. absurd (none-some a (sym h))

step_rooted : (m : ModuleValue) (w : World) (a : ℕ) → AreRooted w.activities → Roots (step m w a)
step_rooted m w a each = step_kind Roots m w a tt (λ c. tt) (λ act found alive. record {
  closed = λ n opened nobody runs. rooted_set w.activities a act (left act n) found refl each;
  over = λ here alone. rooted_set w.activities a act (ended act) found refl each;
  arrives = rooted_set w.activities a act (arrived act) found refl each;
  done = λ next change e on quiet rests. rooted_set w.activities a act next found on.governed each;
  made = λ next on. rooted_set w.activities a act next found on.governed each;
  stored = λ s n e on quiet. rooted_set w.activities a act (onward act) found on.governed each;
  spawned = λ t args values at on. each_push (λ b (x : Activity). IsRooted x.governed) (set w.activities a (onward act))
      (child m a act t values)
      (rooted_set w.activities a act (onward act) found refl each) (rooted_child a act (each a act found));
})

run_rooted : (m : ModuleValue) (list : List ℕ) (w v : World) → AreRooted w.activities → run m list w ≡ Through v → AreRooted v.activities
run_rooted m [] w v each h = subst (λ (z : World). AreRooted z.activities) (same_through w v h) each
run_rooted m (b ∷ list) w v each h =
    let f = first_step w v (step m w b) (run m list) h in
    run_rooted m list f.0 v (subst Roots f.2 (step_rooted m w b each)) f.3

opening_rooted : (m : ModuleValue) (args : List ℤ) → AreRooted (opening m args).activities
opening_rooted m args zero x found h = ap (λ (z : Activity). z.governed.depth) (sym (same_Some _ x found))
opening_rooted m args (suc b) x found h = absurd (none-some x found)

pub reached_rooted : (m : ModuleValue) (w : World) → IsReached m w → AreRooted w.activities
reached_rooted m w here = run_rooted m here.0 (opening m w.arguments) w (opening_rooted m w.arguments) here.1.1
