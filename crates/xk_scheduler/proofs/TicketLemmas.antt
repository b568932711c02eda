-- Local steps of one activity that are handed in leave each other as able to step as it was.
use Rattle.std.proofs.Common.{◌≡◌, ◌∙◌, ◌⊎◌, inl, inr, ℕ, ◌<◌, Bool, true, false, List, length, filter, Option, Some, None, refl, sym, ap, subst, slice_get, length-set}
use Rattle.std.specs.Option.{option_map_or}
use Rattle.std.proofs.lemmas.Bool.{false≢true, cases_eq}
use Rattle.std.proofs.lemmas.Option.{slice_get_within, get_or_from_slice_get}
use Rattle.xk_types.specs.declared.world.Status.{Status}
use Rattle.xk_types.specs.declared.world.Status.TheVariants as status
use Rattle.xk_types.specs.Code.{ModuleValue}
use Rattle.xk_types.specs.World.{Activity, World, is_ended}
use Rattle.xk_types.specs.Step.{innermost}
use Rattle.xk_types.specs.Schedule.{is_enabled}
use Rattle.xk_types.proofs.ListLemmas.{get-set_same, get-set_other}
use Rattle.xk_activity.specs.Local.{FramesValue}
use Rattle.xk_activity.specs.StepAgreement.{with_frames}
use Rattle.xk_activity.specs.Activities.{act_at, nobody}
use Rattle.xk_core.specs.Core.{CoreValue, IsCore, with_world, is_running, runs_now, is_arrived, is_waiting}
use Rattle.xk_core.specs.LocalRun.{after_steps}
use Rattle.xk_collections.specs.NumberSets.{numbers_from, with_member}
use Rattle.xk_collections.proofs.RisingListLemmas.{member_changed}
use Rattle.xk_scheduler.specs.Choosers.{enabled_in}
use Rattle.xk_scheduler.specs.Waiters.{AreHeld}
use Rattle.xk_scheduler.specs.EnabledSet.{with_or_without}
use Rattle.xk_scheduler.specs.Rosters.{IsListed, RosterValue}
use Rattle.xk_scheduler.proofs.IndependenceLemmas.{same_enabled}
use Rattle.xk_scheduler.proofs.FinishOwnerLemmas.{core_owned}
use Rattle.xk_law_commute.proofs.AwaitIndependenceLemmas.{awaits_on}

-- an activity that runs
record Runner (w : World) (a : ℕ) : Type 0 where
  pub found : slice_get w.activities a ≡ Some (act_at w.activities a)
  pub running : (act_at w.activities a).status ≡ status.Running

runner : (w : World) (a : ℕ) → is_running w a ≡ true → Runner w a
runner w a = of (slice_get w.activities a) refl
  where
    by : (x : Activity) → slice_get w.activities a ≡ Some x → (s : Status) → x.status ≡ s → runs_now s ≡ true → Runner w a
    by x e status.Running st h =
        (let is : act_at w.activities a ≡ x = get_or_from_slice_get w.activities a x nobody e in
        record { found = e ∙ ap (λ y. Some y) (sym is); running = ap (λ (y : Activity). y.status) is ∙ st })
    by x e status.Arrived st h = absurd (false≢true h)
    by x e status.Ended st h = absurd (false≢true h)

    of : (o : Option Activity) → slice_get w.activities a ≡ o → option_map_or (λ (act : Activity). runs_now act.status) o false ≡ true → Runner w a
    of None e h = absurd (false≢true h)
    of (Some x) e h = by x e x.status refl h

-- who runs is there
pub runs_within : (w : World) (a : ℕ) → is_running w a ≡ true → a < length w.activities
runs_within w a h = slice_get_within w.activities a (act_at w.activities a) (runner w a h).found

-- it waits at an `advance`
abbrev waits_as : Option Activity → Bool
waits_as o = option_map_or (λ (y : Activity). is_arrived y.status) o false

-- the world behind n local steps of activity a, which runs
module _ (m : ModuleValue) (w : World) (a : ℕ) (fs : FramesValue) (n : ℕ) (runs : is_running w a ≡ true) where
  abbrev x : Activity
  x = act_at w.activities a

  abbrev y : Activity
  y = with_frames x fs

  abbrev v : World
  v = after_steps w a fs n

  r : Runner w a
  r = runner w a runs

  alive : is_ended x.status ≡ false
  alive = ap is_ended r.running

  width_same : length v.activities ≡ length w.activities
  width_same = length-set w.activities a y

  -- others can step as before
  others_same : IsCore m w → IsCore m v → (b : ℕ) → (b ≡ a → ⊥) → is_enabled m v b ≡ is_enabled m w b
  others_same core later b differs = same_enabled m w v b core later (get-set_other w.activities a b y differs) (λ waiting. refl)
      (λ z found. awaits_on w.activities (core_owned m w core) a x y r.found refl (innermost b z) alive alive)

  -- so only this one is looked at
  listed_handed : IsCore m w → IsCore m v → with_member a (is_enabled m v a) (enabled_in m w) ≡ enabled_in m v
  listed_handed core later =
      sym (ap (λ k. filter (is_enabled m v) (numbers_from 0 k)) width_same
      ∙ member_changed (is_enabled m w) (is_enabled m v) (length w.activities) a (runs_within w a runs) (λ k lt ne. others_same core later k ne))

  -- the same wait at an `advance`
  waiting_handed : (b : ℕ) → is_waiting v b ≡ is_waiting w b
  waiting_handed b = by (cases_eq b a)
    where
      by : (b ≡ a) ⊎ (b ≡ a → ⊥) → is_waiting v b ≡ is_waiting w b
      by (inl same) = subst (λ k. is_waiting v k ≡ is_waiting w k) (sym same)
          (ap waits_as (get-set_same w.activities a x y r.found) ∙ sym (ap waits_as r.found))
      by (inr ne) = ap waits_as (get-set_other w.activities a b y ne)

  -- and those who are held back are so by the same clocks
  held_handed : (lists : List (List ℕ)) → AreHeld w lists → AreHeld v lists
  held_handed lists held = record {
    once = held.once;
    stands = λ c b some. (waiting_handed b ∙ (held.stands c b some).0, (held.stands c b some).1);
    covers = λ b waiting on. held.covers b (sym (waiting_handed b) ∙ waiting) on;
  }

  -- the roster tells of the world then, where this one is put in or out
  roster_handed : (r s : RosterValue) → IsListed (record { module_run = m; world = w }) r → IsCore m v
      → s ≡ record r { members = with_or_without (record { module_run = m; world = v }) a r.members } → IsListed (record { module_run = m; world = v }) s
  roster_handed r s old later is = subst (IsListed (record { module_run = m; world = v })) (sym is) (record {
    core = later;
    list_is = ap (with_member a (is_enabled m v a)) old.list_is ∙ listed_handed old.core later;
    held = held_handed r.lists old.held;
    roomy = old.roomy;
    roomy_clocks = old.roomy_clocks;
  })

-- what the driver keeps, behind the steps of a ticket
pub driver_handed : (c d : CoreValue) (a : ℕ) (fs : FramesValue) (n : ℕ) (r s : RosterValue) → is_running c.world a ≡ true
    → d ≡ with_world c (after_steps c.world a fs n) → IsCore d.module_run d.world → IsListed c r
    → s ≡ record r { members = with_or_without d a r.members } → IsListed d s
driver_handed c d a fs n r s runs is later old members =
    subst (λ (z : CoreValue). IsListed z s) (sym is)
    (roster_handed c.module_run c.world a fs n runs r s old
    (subst (λ (z : CoreValue). IsCore z.module_run z.world) is later)
    (subst (λ (z : CoreValue). s ≡ record r { members = with_or_without z a r.members }) is members))
