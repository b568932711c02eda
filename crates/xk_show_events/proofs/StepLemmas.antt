-- What is told of a run, step by step and entry by entry.
use Rattle.std.proofs.Common.{◌≡◌, ◌∙◌, ℕ, zero, suc, ◌+◌, ◌<◌, ◌≤◌, true, List, [], ◌∷◌, ◌++◌, length, replicate, drop, get_or, refl, sym, ap, subst, arith, Option, Some, None, slice_get}
use Rattle.std.proofs.Math.Seq.{drop-cons}
use Rattle.std.proofs.lemmas.List.{append_assoc, append-nil}
use Rattle.std.proofs.lemmas.Option.{slice_get_within}
use Rattle.std.proofs.lemmas.List.Concat.{flat_map-cons}
use Rattle.xk_types.specs.declared.world.Entry.{Entry}
use Rattle.xk_types.specs.declared.world.Event.{Event}
use Rattle.xk_types.specs.Code.{ModuleValue}
use Rattle.xk_types.specs.World.{Activity, World}
use Rattle.xk_types.specs.Step.{Stepped, step, step_of}
use Rattle.xk_types.specs.Schedule.{Through, run, run_on, is_enabled, is_step}
use Rattle.xk_types.specs.Logs.{schedule_of}
use Rattle.xk_law_schedules.proofs.ReachabilityLemmas.{same_through, first_step}
use Rattle.xk_law_schedules.proofs.StepCountLemmas.{step_counts}
use Rattle.xk_core.specs.Core.{CoreValue, StepsTo}
use Rattle.xk_scheduler.proofs.RunSequenceLemmas.{run_then}
use Rattle.xk_show_events.specs.Steps.{IsLegalFrom, IsSilentAfter, Teller, told, told_on}

-- ---- runs in two parts

-- a front of a legal list is legal
legal_front : (m : ModuleValue) (xs ys : List ℕ) (w v : World) → run m (xs ++ ys) w ≡ Through v → (u : World) × (run m xs w ≡ Through u)
legal_front m [] ys w v h = (w, refl)
legal_front m (a ∷ xs) ys w v h =
    let f = first_step w v (step m w a) (run m (xs ++ ys)) h in
    let r = legal_front m xs ys f.0 v f.3 in
    (r.0, ap (λ o. run_on w o (run m xs)) f.2 ∙ r.1)

told_append : {X : Type 0} (tell : Teller X) (m : ModuleValue) (xs ys : List ℕ) (w v : World) → run m xs w ≡ Through v
    → told tell m (xs ++ ys) w ≡ told tell m xs w ++ told tell m ys v
told_append tell m [] ys w v h = ap (told tell m ys) (same_through w v h)
told_append tell m (a ∷ xs) ys w v h =
    let f = first_step w v (step m w a) (run m xs) h in
    ap (λ o. told_on tell a w o (told tell m (xs ++ ys))) f.2
    ∙ ap (λ l. tell a w f.0 f.1 ++ l) (told_append tell m xs ys f.0 v f.3)
    ∙ sym (append_assoc (tell a w f.0 f.1) (told tell m xs f.0) (told tell m ys v))
    ∙ sym (ap (λ o. told_on tell a w o (told tell m xs) ++ told tell m ys v) f.2)

-- who can take a step is there
pub enabled_there : (m : ModuleValue) (w : World) (a : ℕ) → is_enabled m w a ≡ true → a < length w.activities
enabled_there m w a h = of (slice_get w.activities a) refl h
  where
    of : (o : Option Activity) → slice_get w.activities a ≡ o → is_step (step_of m w a o) ≡ true → a < length w.activities
    of None e g = cc
    of (Some x) e g = slice_get_within w.activities a x e

-- ---- what is left of a walk

-- All these steps were to be taken from world w, and to be told behind what was there first; some are left: they go as all do, and what is told of
-- them is what is wanting.
pub record IsLeft {X : Type 0} (tell : Teller X) (m : ModuleValue) (all : List ℕ) (w : World) (first : List X) (left : List ℕ) (c : CoreValue) (out : List X) : Type 0 where
  pub same_module : c.module_run ≡ m
  pub goes : run m left c.world ≡ run m all w
  pub rest : out ++ told tell m left c.world ≡ first ++ told tell m all w

-- ---- by a step

-- who is to take the first of the steps that are left can take one
pub can_step : {X : Type 0} (tell : Teller X) (m : ModuleValue) (all : List ℕ) (w v : World) (first : List X) (a n : ℕ) (c : CoreValue) (out : List X) → 0 < n
    → run m all w ≡ Through v → IsLeft tell m all w first (replicate n a) c out → is_enabled c.module_run c.world a ≡ true
can_step tell m all w v first a zero c out some legal left = absurd omega (arith, some)
can_step tell m all w v first a (suc k) c out some legal left =
    subst (λ j. is_enabled j c.world a ≡ true) (sym left.same_module) (ap is_step (first_step c.world v (step m c.world a) (run m (replicate k a)) (left.goes ∙ legal)).2)

-- and behind it the rest is left
pub step_told : {X : Type 0} (tell : Teller X) (m : ModuleValue) (all : List ℕ) (w : World) (first : List X) (a n k : ℕ) (c d : CoreValue) (e : Event) (out more : List X) → n ≡ suc k
    → StepsTo c a d e → d.module_run ≡ c.module_run → more ≡ out ++ tell a c.world d.world e
    → IsLeft tell m all w first (replicate n a) c out → IsLeft tell m all w first (replicate k a) d more
step_told tell m all w first a n k c d e out more is steps same grown left =
    let stepped : step m c.world a ≡ Stepped d.world e = subst (λ j. step j c.world a ≡ Stepped d.world e) left.same_module steps in
    let list = replicate k a in
    record {
      same_module = same ∙ left.same_module;
      goes = subst (λ o. run_on c.world o (run m list) ≡ run m all w) stepped (subst (λ j. run m (replicate j a) c.world ≡ run m all w) is left.goes);
      rest = ap (λ l. l ++ told tell m list d.world) grown
          ∙ append_assoc out (tell a c.world d.world e) (told tell m list d.world)
          ∙ ap (λ o. out ++ told_on tell a c.world o (told tell m list)) (sym stepped)
          ∙ ap (λ j. out ++ told tell m (replicate j a) c.world) (sym is)
          ∙ left.rest;
    }

-- ---- by an entry

schedule_rest : (log : List Entry) (i : ℕ) (z : Entry) → i < length log
    → schedule_of (drop i log) ≡ replicate (get_or log i z).steps (get_or log i z).act ++ schedule_of (drop (i + 1) log)
schedule_rest log i z lt =
    let next : suc i ≡ i + 1 = omega arith in
    ap schedule_of (drop-cons log i z lt)
    ∙ flat_map-cons (λ (x : Entry). replicate x.steps x.act) (get_or log i z) (drop (suc i) log)
    ∙ ap (λ j. replicate (get_or log i z).steps (get_or log i z).act ++ schedule_of (drop j log)) next

-- the steps of the next entry are legal
pub entry_legal : {X : Type 0} (tell : Teller X) (m : ModuleValue) (log : List Entry) (w v : World) (first : List X) (i : ℕ) (z : Entry) (c : CoreValue) (out : List X) → i < length log
    → z ≡ get_or log i z → run m (schedule_of log) w ≡ Through v → IsLeft tell m (schedule_of log) w first (schedule_of (drop i log)) c out
    → IsLegalFrom c (replicate z.steps z.act)
entry_legal tell m log w v first i z c out lt is legal left =
    let list = replicate (get_or log i z).steps (get_or log i z).act in
    let f = legal_front m list (schedule_of (drop (i + 1) log)) c.world v
    (ap (λ l. run m l c.world) (sym (schedule_rest log i z lt)) ∙ left.goes ∙ legal) in
    subst (λ (x : Entry). IsLegalFrom c (replicate x.steps x.act)) (sym is) (f.0, ap (λ k. run k list c.world) left.same_module ∙ f.1)

-- and behind them the rest is left
pub entry_told : {X : Type 0} (tell : Teller X) (m : ModuleValue) (log : List Entry) (w : World) (first : List X) (i : ℕ) (z : Entry) (c d : CoreValue) (out more : List X) → i < length log
    → z ≡ get_or log i z → run c.module_run (replicate z.steps z.act) c.world ≡ Through d.world → d.module_run ≡ c.module_run
    → more ≡ out ++ told tell m (replicate z.steps z.act) c.world
    → IsLeft tell m (schedule_of log) w first (schedule_of (drop i log)) c out → IsLeft tell m (schedule_of log) w first (schedule_of (drop (i + 1) log)) d more
entry_told tell m log w first i z c d out more lt is led same grown left =
    let list = replicate z.steps z.act in
    let rest = schedule_of (drop (i + 1) log) in
    let split : schedule_of (drop i log) ≡ list ++ rest = schedule_rest log i z lt ∙ ap (λ (x : Entry). replicate x.steps x.act ++ rest) (sym is) in
    let through : run m list c.world ≡ Through d.world = ap (λ k. run k list c.world) (sym left.same_module) ∙ led in
    record {
      same_module = same ∙ left.same_module;
      goes = sym (run_then m list rest c.world d.world through) ∙ ap (λ l. run m l c.world) (sym split) ∙ left.goes;
      rest = ap (λ l. l ++ told tell m rest d.world) grown
          ∙ append_assoc out (told tell m list c.world) (told tell m rest d.world)
          ∙ ap (λ l. out ++ l) (sym (told_append tell m list rest c.world d.world through))
          ∙ ap (λ l. out ++ told tell m l c.world) (sym split)
          ∙ left.rest;
    }

-- ---- where nothing is told any more

silent_nothing : {X : Type 0} (tell : Teller X) (m : ModuleValue) (list : List ℕ) (n : ℕ) (w v : World) → n ≤ w.steps → IsSilentAfter tell n → run m list w ≡ Through v
    → told tell m list w ≡ []
silent_nothing tell m [] n w v past silent h = refl
silent_nothing tell m (a ∷ list) n w v past silent h =
    let f = first_step w v (step m w a) (run m list) h in
    let counted : f.0.steps ≡ w.steps + 1 = step_counts m w f.0 a f.1 f.2 in
    ap (λ o. told_on tell a w o (told tell m list)) f.2
    ∙ ap (λ l. l ++ told tell m list f.0) (silent a w f.0 f.1 (omega arith))
    ∙ silent_nothing tell m list n f.0 v (omega arith) silent f.3

-- what is told already is all
pub all_told : {X : Type 0} (tell : Teller X) (m : ModuleValue) (all : List ℕ) (w v : World) (first : List X) (left : List ℕ) (n : ℕ) (c : CoreValue) (out : List X) → n ≡ c.world.steps
    → run m all w ≡ Through v → IsSilentAfter tell n → IsLeft tell m all w first left c out → out ≡ first ++ told tell m all w
all_told tell m all w v first left n c out is legal silent h =
    sym (append-nil out) ∙ ap (λ l. out ++ l) (sym (silent_nothing tell m left n c.world v (omega arith) silent (h.goes ∙ legal))) ∙ h.rest
