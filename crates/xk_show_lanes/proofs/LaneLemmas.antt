-- The longest of some texts; steps that are asked for; clocks that advanced.
use Rattle.std.proofs.Common.{◌≡◌, ◌∙◌, ℕ, suc, ◌+◌, ◌<◌, List, [], ◌∷◌, ◌++◌, length, map, take, get_or, slice_get, Bool, false, not, ◌&&◌, refl, sym, ap, arith}
use Rattle.std.specs.Prelude.{max, filter, if◌then◌else◌}
use Rattle.std.proofs.Math.Seq.{take-suc}
use Rattle.std.proofs.lemmas.Bool.Decides.{nat_tests}
use Rattle.std.proofs.lemmas.List.{map-append}
use Rattle.std.proofs.lemmas.List.Elements.{filter-append}
use Rattle.std.proofs.lemmas.Option.{slice_get-get_or}
use Rattle.xk_types.specs.declared.world.Entry.{Entry}
use Rattle.xk_types.specs.Code.{ModuleValue}
use Rattle.xk_types.specs.World.{World, opening}
use Rattle.xk_types.specs.Step.{Outcome, Blocked, Wrong, Stepped, step}
use Rattle.xk_types.specs.Schedule.{is_local}
use Rattle.xk_types.specs.Logs.{schedule_of}
use Rattle.xk_core.specs.Core.{advanced_now, has_advanced}
use Rattle.xk_collections.proofs.RisingListLemmas.{member_passes}
use Rattle.xk_show_events.specs.declared.steps.RunStep.{RunStep}
use Rattle.xk_show_names.specs.declared.accounts.Account.{Account}
use Rattle.xk_show_names.specs.Accounts.{account, recounted_by, tell_seen_accounts}
use Rattle.xk_show_events.specs.Steps.{Teller, run_step, tell_by, tell_seen, told, told_on, told_of_run}
use Rattle.xk_show_lanes.specs.declared.window.Window.{Window}
use Rattle.xk_show_lanes.specs.Fields.{longest}
use Rattle.xk_show_lanes.specs.Lanes.{if_asked, is_asked, steps_asked}
use Rattle.xk_show_lanes.specs.NamedLanes.{account_if_asked, accounts_asked}

-- with one more text
pub longest_append : (xs : List (List ℕ)) (x : List ℕ) → longest (xs ++ x ∷ []) ≡ max (longest xs) (length x)
longest_append [] x = omega arith
longest_append (y ∷ xs) x = ap (max (length y)) (longest_append xs x) ∙ omega arith

-- one more of a list
pub longest_more : {X : Type 0} (f : X → List ℕ) (xs : List X) (i : ℕ) (z : X) (most new : ℕ) → i < length xs → most ≡ longest (map f (take i xs))
    → new ≡ max most (length (f (get_or xs i z))) → new ≡ longest (map f (take (i + 1) xs))
longest_more f xs i z most new inside is grown =
    let next : suc i ≡ i + 1 = omega arith in
    grown ∙ ap (λ n. max n (length (f (get_or xs i z)))) is
    ∙ sym (longest_append (map f (take i xs)) (f (get_or xs i z)))
    ∙ sym (ap longest (map-append f (take i xs) (get_or xs i z ∷ [])))
    ∙ ap (λ l. longest (map f l)) (sym (take-suc xs i z inside) ∙ ap (λ k. take k xs) next)

-- ---- the part of a run that is asked for

-- no step behind the last one is asked for
pub none_asked : (window : Window) (k : ℕ) → window.last < k → is_asked window k ≡ false
none_asked window k behind = grind (arith, nat_tests)

kept : (p : RunStep → Bool) (s : RunStep) (b : Bool) → (if p s && not b then s ∷ [] else []) ≡ filter p (if b then [] else s ∷ [])
kept p s b = grind arith

abbrev tell_asked : Window → Teller RunStep
tell_asked window = tell_by (λ v s. if_asked window s)

asked_from : (window : Window) (m : ModuleValue) (list : List ℕ) (w : World)
    → told (tell_asked window) m list w ≡ filter (λ (s : RunStep). is_asked window s.number) (told tell_seen m list w)
asked_from window m [] w = refl
asked_from window m (a ∷ list) w = of (step m w a) (asked_from window m list)
  where
    p : RunStep → Bool
    p s = is_asked window s.number

    of : (o : Outcome) → ((v : World) → told (tell_asked window) m list v ≡ filter (λ (s : RunStep). is_asked window s.number) (told tell_seen m list v))
        → told_on (tell_asked window) a w o (told (tell_asked window) m list) ≡ filter (λ (s : RunStep). is_asked window s.number) (told_on tell_seen a w o (told tell_seen m list))
    of Blocked rest = refl
    of (Wrong c) rest = refl
    of (Stepped v e) rest =
        ap (λ l. l ++ told (tell_asked window) m list v) (kept p (run_step a w v e) (is_local e))
        ∙ ap (λ l. filter p (tell_seen a w v e) ++ l) (rest v)
        ∙ sym (filter-append p (tell_seen a w v e) (told tell_seen m list v))

-- those that are asked for are told
pub asked_told : (window : Window) (m : ModuleValue) (log : List Entry) (last : World) → told_of_run (tell_asked window) m last.arguments log ≡ steps_asked window m log last
asked_told window m log last = asked_from window m (schedule_of log) (opening m last.arguments)

-- ---- the same, with what steps were about

kept_account : (p : Account → Bool) (a : Account) (b : Bool) → (if p a && not b then a ∷ [] else []) ≡ filter p (if b then [] else a ∷ [])
kept_account p a b = grind arith

abbrev pub tell_asked_accounts : Window → ModuleValue → Teller Account
tell_asked_accounts window m = recounted_by m (λ v a. account_if_asked window a)

accounts_from : (window : Window) (m : ModuleValue) (list : List ℕ) (w : World)
    → told (tell_asked_accounts window m) m list w
    ≡ filter (λ (a : Account). is_asked window a.step.number) (told (tell_seen_accounts m) m list w)
accounts_from window m [] w = refl
accounts_from window m (a ∷ list) w = of (step m w a) (accounts_from window m list)
  where
    p : Account → Bool
    p x = is_asked window x.step.number

    of : (o : Outcome) →
        ((v : World) → told (tell_asked_accounts window m) m list v
        ≡ filter (λ (x : Account). is_asked window x.step.number) (told (tell_seen_accounts m) m list v))
        → told_on (tell_asked_accounts window m) a w o (told (tell_asked_accounts window m) m list)
        ≡ filter (λ (x : Account). is_asked window x.step.number)
        (told_on (tell_seen_accounts m) a w o (told (tell_seen_accounts m) m list))
    of Blocked rest = refl
    of (Wrong c) rest = refl
    of (Stepped v e) rest =
        ap (λ l. l ++ told (tell_asked_accounts window m) m list v) (kept_account p (account m a w v e) (is_local e))
        ∙ ap (λ l. filter p (tell_seen_accounts m a w v e) ++ l) (rest v)
        ∙ sym (filter-append p (tell_seen_accounts m a w v e) (told (tell_seen_accounts m) m list v))

-- those that are asked for are told
pub asked_accounts : (window : Window) (m : ModuleValue) (log : List Entry) (last : World)
    → told_of_run (tell_asked_accounts window m) m last.arguments log ≡ accounts_asked window m log last
asked_accounts window m log last = accounts_from window m (schedule_of log) (opening m last.arguments)

-- ---- clocks that advanced

-- a clock that advanced is there
pub clock_there : (w : World) (clocks : List ℕ) (i : ℕ) → i < length clocks → clocks ≡ advanced_now w → get_or clocks i 0 < length w.clocks
clock_there w clocks i inside listed =
    (member_passes (has_advanced w) (length w.clocks) i (get_or clocks i 0) (ap (λ l. slice_get l i) (sym listed) ∙ slice_get-get_or clocks i 0 inside)).1
