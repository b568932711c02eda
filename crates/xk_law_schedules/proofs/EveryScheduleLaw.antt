-- The law over every schedule of an accepted module, from its parts; and that the kinds are sound.
use Rattle.std.proofs.Common.{ℕ, ◌≤◌, length, get_or, subst, arith}
use Rattle.std.proofs.lemmas.Option.{slice_get-get_or}
use Rattle.xk_types.specs.declared.rules.Kind.{Kind}
use Rattle.xk_types.specs.Code.{ModuleValue, IsWithinLimits}
use Rattle.xk_types.specs.World.{Activity, opening}
use Rattle.xk_types.specs.Bound.{stack_bound}
use Rattle.xk_types.specs.Acceptance.{IsAccepted, EverySchedule, slots_held}
use Rattle.xk_types.specs.Kinds.{KindsAreSound, kind_of}
use Rattle.xk_law_schedules.proofs.Invariant.{IsActivitySound, looks, Expects}
use Rattle.xk_types.specs.Shape.{HasShape}
use Rattle.xk_law_schedules.proofs.BoundLemmas.TotalLemmas.{stack_own}
use Rattle.xk_law_schedules.proofs.ReachabilityLemmas.{run_counts, run_right, opening_whole, reached_sound, reached_room, reached_ends}

-- an activity's frames have no more slots than the bound
sound_stack : (m : ModuleValue) → HasShape m → (look : ℕ → Kind) (clocks now : ℕ) (act : Activity) → IsActivitySound m look clocks now act → slots_held act ≤ stack_bound m
sound_stack m shape look clocks now act s = omega (arith, s.frame.slots, stack_own m shape act.frame.unit s.u s.unit, s.room)

-- the law over every schedule
pub every_schedule : (m : ModuleValue) → IsWithinLimits m → IsAccepted m → EverySchedule m
every_schedule m limits ok = record {
  never_wrong = λ args taken list w c h. run_right m ok list (opening m args) w c (opening_whole m limits ok args taken) h;
  steps = λ list w h. (let n = run_counts m list (opening m w.arguments) w h.1 in let room = (reached_room m limits ok w (list, h)).steps in omega arith);
  activities = λ list w h. (reached_room m limits ok w (list, h)).activities;
  clocks = λ list w h. (reached_room m limits ok w (list, h)).clocks;
  stack = λ list w h k d inside.
      (let s = reached_sound m limits ok w (list, h) in
      sound_stack m ok.shape (looks w.clocks k) (length w.clocks) w.steps (get_or w.activities k d)
      (s.activities k (get_or w.activities k d) (slice_get-get_or w.activities k d inside)));
  ends = λ list w h stuck. reached_ends m limits ok w (list, h) (λ a inside. stuck a);
}

-- the kinds are sound
pub kinds_sound : (m : ModuleValue) → IsWithinLimits m → IsAccepted m → KindsAreSound m
kinds_sound m limits ok list w h a act there running =
    let s = (reached_sound m limits ok w (list, h)).activities a act there in
    record {
      u = s.u;
      found = s.unit;
      slots = s.frame.slots;
      known = s.frame.known;
      visited = λ k v at. subst (λ st. Expects m s.u st act.frame.place k (kind_of (looks w.clocks a) v)) running (s.kinds k v at);
    }
