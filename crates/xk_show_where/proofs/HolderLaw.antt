-- Whom one waits for is never told as nobody: somebody holds back the clock on which one is signalled, and somebody is under the finish
-- at whose end one waits.
use Rattle.std.proofs.Common.{◌≡◌, ◌∙◌, ℕ, zero, suc, ◌+◌, ◌-◌, ◌<◌, Bool, true, false, not, List, [], ◌∷◌, length, Option, Some, None, slice_get, refl, sym, ap, subst, arith}
use Rattle.std.specs.Prelude.{◌≢◌, if◌then◌else◌}
use Rattle.std.specs.Option.{option_map_or}
use Rattle.std.proofs.lemmas.Bool.{false≢true, and_from}
use Rattle.std.proofs.lemmas.List.{length-append}
use Rattle.std.proofs.lemmas.Option.{get_or_from_slice_get, slice_get_within}
use Rattle.xk_types.specs.declared.world.Standing.TheVariants as standing
use Rattle.xk_types.specs.declared.instr.Instr.{Instr}
use Rattle.xk_types.specs.declared.instr.Instr.TheVariants as instr
use Rattle.xk_types.specs.Code.{ModuleValue}
use Rattle.xk_types.specs.World.{Activity, Clock, World, is_ended, standing_of}
use Rattle.xk_types.specs.Step.{awaits, innermost, is_pending, is_signalled, is_under}
use Rattle.xk_law_schedules.proofs.ClockLemmas.AdvanceLemmas.{held_back}
use Rattle.xk_law_schedules.proofs.ReachabilityLemmas.{reached_sound}
use Rattle.xk_law_schedules.proofs.ScopeLemmas.FinishOwnerLemmas.{awaited}
use Rattle.xk_activity.specs.Activities.{act_at, nobody}
use Rattle.xk_core.specs.Core.{IsCore, is_living, next_instruction}
use Rattle.xk_core.specs.Enabledness.{kept_by}
use Rattle.xk_show_where.proofs.WaitingLaw.{told_in_finish}
use Rattle.xk_show_where.specs.declared.condition.Condition.TheVariants as condition
use Rattle.xk_show_events.specs.Worlds.{those_below}
use Rattle.xk_show_where.specs.Where.{awaited_by, condition_of, holders_of, is_awaited, standing_on}

-- number n alone, if it passes
abbrev here : (ℕ → Bool) → ℕ → List ℕ
here test n = if test n then n ∷ [] else []

-- who passes is listed, however many come behind
listed_before : (test : ℕ → Bool) (b n k : ℕ) → n ≡ k + suc b → test b ≡ true → 0 < length (those_below test n)
listed_before test b zero k e h = absurd (omega (arith, e))
listed_before test b (suc n) zero e h =
    let same : n ≡ b = omega (arith, e) in
    let it : length (here test n) ≡ 1 = ap (λ t. length (if t then n ∷ [] else [])) (ap test same ∙ h) in
    omega (arith, it, length-append (those_below test n) (here test n))
listed_before test b (suc n) (suc k) e h =
    let before = listed_before test b n k (omega (arith, e)) h in
    omega (arith, before, length-append (those_below test n) (here test n))

somebody_below : (test : ℕ → Bool) (b n : ℕ) → b < n → test b ≡ true → those_below test n ≢ []
somebody_below test b n within h none =
    let some = listed_before test b n (n - suc b) (omega (arith, within)) h in
    omega (arith, some, ap length none)

-- ---- clocks

pub held_by_somebody : (m : ModuleValue) (w : World) (a c : ℕ) → IsCore m w → is_signalled (standing_on w a c) ≡ true → holders_of w c ≢ []
held_by_somebody m w a c core = of (slice_get w.clocks c) refl
  where
    of : (o : Option Clock) → slice_get w.clocks c ≡ o → is_signalled (option_map_or (λ k. standing_of k a) o standing.Apart) ≡ true → holders_of w c ≢ []
    of None e g = absurd (false≢true g)
    of (Some k) e g =
        let sound = (reached_sound m core.limits core.accepted w core.reached).clocks c k e in
        let back = held_back k a sound.unready g in
        somebody_below (λ b. is_pending (standing_on w b c)) back.0 (length w.activities) (subst (λ n. back.0 < n) sound.width back.1)
        (ap (λ o. is_pending (option_map_or (λ j. standing_of j back.0) o standing.Apart)) e ∙ back.2)

-- ---- finishes

kept_awaits : (w : World) (a : ℕ) (o : Option Activity) (i : Option Instr) → kept_by w a o i ≡ true
    → (act : Activity) × (o ≡ Some act) × (awaits w.activities (innermost a act) ≡ true)
kept_awaits w a None i h = absurd (false≢true h)
kept_awaits w a (Some act) None h = absurd (false≢true h)
kept_awaits w a (Some act) (Some (instr.EndFinish b)) h = (act, refl, h)
kept_awaits w a (Some act) (Some _) h = absurd (false≢true h)

pub awaits_somebody : (m : ModuleValue) (w : World) (a : ℕ) → IsCore m w → condition_of m w a ≡ condition.InFinish → awaited_by w a ≢ []
awaits_somebody m w a core h =
    let kept = kept_awaits w a (slice_get w.activities a) (next_instruction m w a) (told_in_finish m w a core h) in
    let who = awaited w.activities (innermost a kept.0) kept.2 in
    let me : act_at w.activities a ≡ kept.0 = get_or_from_slice_get w.activities a kept.0 nobody kept.1 in
    somebody_below (is_awaited w a) who.b (length w.activities) (slice_get_within w.activities who.b who.act who.found)
    (and_from (is_under w.activities (innermost a (act_at w.activities a)) who.b) (is_living w who.b)
    (subst (λ x. is_under w.activities (innermost a x) who.b ≡ true) (sym me) who.under)
    (ap (λ o. option_map_or (λ x. not (is_ended x.status)) o false) who.found ∙ ap not who.alive))
