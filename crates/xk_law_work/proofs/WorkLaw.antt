-- As many steps are told of a run as it has; and where it has no race, each run to the end has as many.
use Rattle.std.proofs.Common.{◌≡◌, ◌∙◌, ℕ, ℤ, suc, ◌+◌, Bool, true, false, List, [], ◌∷◌, ◌++◌, length, refl, sym, ap, arith}
use Rattle.std.proofs.Common.{if◌then◌else◌}
use Rattle.std.specs.List.{flat_map}
use Rattle.xk_types.specs.declared.world.Entry.{Entry}
use Rattle.xk_types.specs.Acceptance.{IsAccepted}
use Rattle.xk_types.specs.Code.{ModuleValue, IsWithinLimits}
use Rattle.xk_types.specs.World.{World, AreArguments, opening}
use Rattle.xk_types.specs.Step.{step}
use Rattle.xk_types.specs.Schedule.{Through, run}
use Rattle.xk_types.specs.Logs.{schedule_of}
use Rattle.xk_types.proofs.RunLemmas.{first_step}
use Rattle.xk_law_traces.specs.OneRun.{IsWholeRun}
use Rattle.xk_show_events.specs.Steps.{run_step, told, told_on}
use Rattle.xk_races.specs.declared.deeds.Deed.{Deed}
use Rattle.xk_races.specs.declared.deeds.Part.{Part}
use Rattle.xk_races.specs.declared.deeds.Part.TheVariants as part
use Rattle.xk_races.specs.Deeds.{deed, tell_deeds}
use Rattle.xk_races.specs.Races.{is_race_free}
use Rattle.xk_law_races.proofs.SpeaksForAllLaw.{no_race}
use Rattle.xk_span.specs.Steps.{if_lets_go, if_waits, is_step, lets_go, steps_of_run, tell_step, waits, work_from, work_of, work_with}
use Rattle.xk_law_rounds.proofs.RoundLaw.{same_work}

-- ---- deeds that are no step themselves

not_if_waits : (p : Part) → waits p ≡ true → is_step p ≡ false
not_if_waits (part.Pass c) e = refl
not_if_waits part.Close e = refl
not_if_waits (part.Start b) e = refl
not_if_waits (part.Signal c) e = refl
not_if_waits (part.Leave c) e = refl
not_if_waits (part.Advance c) e = refl
not_if_waits part.Open e = refl
not_if_waits part.End e = refl
not_if_waits (part.Access s) e = refl
not_if_waits part.Print e = sym e

not_if_lets_go : (p : Part) → lets_go p ≡ true → is_step p ≡ false
not_if_lets_go (part.Pass c) e = refl
not_if_lets_go part.Close e = refl
not_if_lets_go (part.Start b) e = refl
not_if_lets_go (part.Signal c) e = refl
not_if_lets_go (part.Leave c) e = refl
not_if_lets_go (part.Advance c) e = refl
not_if_lets_go part.Open e = refl
not_if_lets_go part.End e = refl
not_if_lets_go (part.Access s) e = refl
not_if_lets_go part.Print e = sym e

-- such deeds, picked out by a test, are no work
idle : (test : Part → Bool) → ((p : Part) → test p ≡ true → is_step p ≡ false) → (d : Deed) (n : ℕ) (rest : List Deed)
    → work_from n ((if test d.part then d ∷ [] else []) ++ rest) ≡ work_from n rest
idle test none d n rest = by (test d.part) refl
  where
    by : (b : Bool) → test d.part ≡ b → work_from n ((if b then d ∷ [] else []) ++ rest) ≡ work_from n rest
    by true e = ap (λ q. work_from (if q then suc n else n) rest) (none d.part e)
    by false e = refl

append : (n : ℕ) (xs ys : List Deed) → work_from n (xs ++ ys) ≡ work_from (work_from n xs) ys
append n [] ys = refl
append n (d ∷ xs) ys = append (work_with d n) xs ys

idle_waits : (ds : List Deed) (n : ℕ) → work_from n (flat_map if_waits ds) ≡ n
idle_waits [] n = refl
idle_waits (d ∷ ds) n = idle waits not_if_waits d n (flat_map if_waits ds) ∙ idle_waits ds n

idle_lets_go : (ds : List Deed) (n : ℕ) → work_from n (flat_map if_lets_go ds) ≡ n
idle_lets_go [] n = refl
idle_lets_go (d ∷ ds) n = idle lets_go not_if_lets_go d n (flat_map if_lets_go ds) ∙ idle_lets_go ds n

-- ---- a step is one

one : (ds : List Deed) (d : Deed) (n : ℕ) → d.part ≡ part.Print
    → work_from n ((flat_map if_waits ds ++ d ∷ []) ++ flat_map if_lets_go ds) ≡ suc n
one ds d n is =
    append n (flat_map if_waits ds ++ d ∷ []) (flat_map if_lets_go ds)
    ∙ idle_lets_go ds (work_from n (flat_map if_waits ds ++ d ∷ []))
    ∙ append n (flat_map if_waits ds) (d ∷ [])
    ∙ ap (λ k. work_with d k) (idle_waits ds n)
    ∙ ap (λ p. if is_step p then suc n else n) is

all : (m : ModuleValue) (list : List ℕ) (w z : World) (n : ℕ) → run m list w ≡ Through z
    → work_from n (told (tell_step m) m list w) ≡ n + length list
all m [] w z n h = omega arith
all m (a ∷ list) w z n h =
    let x = first_step w z (step m w a) (run m list) h in
    let there = told (tell_step m) m list in
    let rest = all m list x.0 z (suc n) x.3 in
    let this = one (tell_deeds m a w x.0 x.1) (deed (run_step a w x.0 x.1) part.Print) n refl in
    ap (λ o. work_from n (told_on (tell_step m) a w o there)) x.2
    ∙ append n (tell_step m a w x.0 x.1) (there x.0)
    ∙ ap (λ k. work_from k (there x.0)) this
    ∙ omega (arith, rest)

pub work_is_steps : (m : ModuleValue) (args : List ℤ) (log : List Entry) (z : World)
    → run m (schedule_of log) (opening m args) ≡ Through z
    → work_of (steps_of_run m args log) ≡ length (schedule_of log)
work_is_steps m args log z h = all m (schedule_of log) (opening m args) z 0 h ∙ omega arith

pub work_for_all : (m : ModuleValue) (args : List ℤ) (log : List Entry) (t : List ℕ) (z y : World) → IsWithinLimits m → IsAccepted m
    → AreArguments m args → IsWholeRun m args (schedule_of log) z → is_race_free m args log ≡ true → IsWholeRun m args t y
    → length t ≡ work_of (steps_of_run m args log)
work_for_all m args log t z y limits ok taken one free other =
    same_work m args (schedule_of log) t z y limits ok taken one (no_race m args limits ok taken log z one free) other
    ∙ sym (work_is_steps m args log z one.legal)
