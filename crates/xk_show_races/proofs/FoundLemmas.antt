-- Both accesses of each race of a run are found by their numbers among its steps that others see.
use Rattle.std.proofs.Common.{◌≡◌, ◌∙◌, ℕ, zero, suc, ℤ, ◌<◌, Bool, true, false, List, [], ◌∷◌, ◌++◌, Option, Some, None, refl, sym, ap, subst, arith}
use Rattle.std.specs.Prelude.{⊤, nat_eq, flat_map, is_some, slice_get, unwrap_or, if◌then◌else◌}
use Rattle.std.specs.List.{find, list_any}
use Rattle.std.proofs.lemmas.Bool.{false≢true}
use Rattle.std.proofs.lemmas.Bool.Decides.{nat_tests}
use Rattle.xk_types.specs.declared.world.Entry.{Entry}
use Rattle.xk_types.specs.declared.world.Event.{Event}
use Rattle.xk_types.specs.declared.world.Event.TheVariants as event
use Rattle.xk_types.specs.Code.{ModuleValue}
use Rattle.xk_types.specs.Logs.{schedule_of}
use Rattle.xk_types.specs.Step.{Outcome, Blocked, Wrong, Stepped, step}
use Rattle.xk_types.specs.World.{World, opening}
use Rattle.xk_core.specs.Core.{advanced_now}
use Rattle.xk_law_schedules.proofs.StepCountLemmas.{step_counts}
use Rattle.xk_show_events.specs.declared.steps.RunStep.{RunStep}
use Rattle.xk_show_events.specs.Steps.{run_step, told, told_on}
use Rattle.xk_show_names.specs.declared.accounts.Account.{Account}
use Rattle.xk_show_names.specs.Accounts.{account, account_if_seen, seen_accounts, tell_seen_accounts}
use Rattle.xk_races.specs.declared.deeds.Deed.{Deed}
use Rattle.xk_races.specs.declared.deeds.Part.{Part}
use Rattle.xk_races.specs.declared.deeds.Part.TheVariants as part
use Rattle.xk_races.specs.declared.pairs.Race.{Race}
use Rattle.xk_races.specs.Deeds.{advance, at_clocks, awaiting, deed, gives_way, has_left, leave, leaves, pass, plain, resumed_by, signal, signals, tell_deeds}
use Rattle.xk_races.specs.Knowledge.{Known, Sight, after, is_sight, nothing_known, sight, sights_from}
use Rattle.xk_races.specs.Races.{have_same_places, is_race, race, races_from, with_race, with_races_of}
use Rattle.xk_show_races.specs.Text.{AreFound, HasItsLines, IsFoundAs, account_of}

-- ---- the deeds of one step

-- all of these are of this step
abbrev AreOf : RunStep → List Deed → Type 0
AreOf s [] = ⊤
AreOf s (d ∷ ds) = (d.step ≡ s) × AreOf s ds

both_of : (s : RunStep) (xs ys : List Deed) → AreOf s xs → AreOf s ys → AreOf s (xs ++ ys)
both_of s [] ys h k = k
both_of s (x ∷ xs) ys h k = (h.0, both_of s xs ys h.1 k)

each_of : (s : RunStep) (f : ℕ → List Deed) → ((c : ℕ) → AreOf s (f c)) → (cs : List ℕ) → AreOf s (flat_map f cs)
each_of s f h [] = tt
each_of s f h (c ∷ cs) = both_of s (f c) (flat_map f cs) (h c) (each_of s f h cs)

one_if : (s : RunStep) (p : Part) (b : Bool) → AreOf s (if b then deed s p ∷ [] else [])
one_if s p true = (refl, tt)
one_if s p false = tt

signals_of : (v : World) (s : RunStep) (cs : List ℕ) → AreOf s (signals v s cs)
signals_of v s cs =
    both_of s (flat_map (signal v s) cs) (flat_map (advance s) (advanced_now v))
    (each_of s (signal v s) (λ c. one_if s (part.Signal c) (gives_way v s.act c)) cs)
    (each_of s (advance s) (λ c. (refl, tt)) (advanced_now v))

leaves_of : (v : World) (s : RunStep) (resumed cs : List ℕ) → AreOf s (leaves v s resumed cs)
leaves_of v s resumed cs =
    both_of s (flat_map (leave v s) resumed) (signals v s cs)
    (each_of s (leave v s) (λ c. one_if s (part.Leave c) (has_left v s.act c)) resumed) (signals_of v s cs)

at_clocks_of : (v : World) (s : RunStep) (resumed cs : List ℕ) (e : Event) → AreOf s (at_clocks v s resumed cs e)
at_clocks_of v s resumed cs event.Local = tt
at_clocks_of v s resumed cs (event.Printed n) = tt
at_clocks_of v s resumed cs event.Made = tt
at_clocks_of v s resumed cs event.Got = tt
at_clocks_of v s resumed cs event.Put = tt
at_clocks_of v s resumed cs event.Added = tt
at_clocks_of v s resumed cs event.Opened = tt
at_clocks_of v s resumed cs event.Closed = tt
at_clocks_of v s resumed cs event.Spawned = tt
at_clocks_of v s resumed cs event.Resumed = signals_of v s cs
at_clocks_of v s resumed cs event.Dropped = leaves_of v s resumed cs
at_clocks_of v s resumed cs event.Arrived = signals_of v s cs
at_clocks_of v s resumed cs event.Passed = each_of s (pass s) (λ c. (refl, tt)) cs
at_clocks_of v s resumed cs event.Ended = leaves_of v s resumed cs

-- ---- those of a run

-- each of these is of a step that is found among these, and behind the first n
abbrev AreKnown : ℕ → List Account → List Deed → Type 0
AreKnown n steps [] = ⊤
AreKnown n steps (d ∷ ds) = IsFoundAs steps d.step × (n < d.step.number) × AreKnown n steps ds

both_known : (n : ℕ) (steps : List Account) (xs ys : List Deed) → AreKnown n steps xs → AreKnown n steps ys → AreKnown n steps (xs ++ ys)
both_known n steps [] ys h k = k
both_known n steps (x ∷ xs) ys h k = (h.0, h.1, both_known n steps xs ys h.2 k)

-- the first one has the number that is looked for
first_found : (a : Account) (steps : List Account) (s : RunStep) → a.step ≡ s → IsFoundAs (a ∷ steps) s
first_found a steps s e =
    let same : nat_eq s.number s.number ≡ true = grind (arith, nat_tests) in
    (a, ap (λ b. if b then Some a else account_of steps s.number) (ap (λ (x : RunStep). nat_eq s.number x.number) e ∙ same), e)

all_of_first : (n : ℕ) (a : Account) (steps : List Account) (s : RunStep) (ds : List Deed) → a.step ≡ s → n < s.number → AreOf s ds
    → AreKnown n (a ∷ steps) ds
all_of_first n a steps s [] e lt h = tt
all_of_first n a steps s (d ∷ ds) e lt h = (
  first_found a steps d.step (e ∙ sym h.0),
  subst (λ (x : RunStep). n < x.number) (sym h.0) lt,
  all_of_first n a steps s ds e lt h.1,
)

-- it hasn't, where that one is greater
other : (k n : ℕ) → n < k → nat_eq k n ≡ false
other k n lt = grind (arith, nat_tests)

later_found : (a : Account) (steps : List Account) (s : RunStep) → a.step.number < s.number → IsFoundAs steps s → IsFoundAs (a ∷ steps) s
later_found a steps s lt h =
    (h.0, ap (λ b. if b then Some a else account_of steps s.number) (other s.number a.step.number lt) ∙ h.1, h.2)

all_later : (k n : ℕ) (a : Account) (steps : List Account) (ds : List Deed) → a.step.number ≡ k → n < k → AreKnown k steps ds → AreKnown n (a ∷ steps) ds
all_later k n a steps [] e lt h = tt
all_later k n a steps (d ∷ ds) e lt h = (
  later_found a steps d.step (subst (λ x. x < d.step.number) (sym e) h.1) h.0,
  (let l = h.1 in omega arith),
  all_later k n a steps ds e lt h.2,
)

all_above : (k n : ℕ) (steps : List Account) (ds : List Deed) → n < k → AreKnown k steps ds → AreKnown n steps ds
all_above k n steps [] lt h = tt
all_above k n steps (d ∷ ds) lt h = (h.0, (let l = h.1 in omega arith), all_above k n steps ds lt h.2)

deeds_known : (m : ModuleValue) (list : List ℕ) (w : World) → AreKnown w.steps (told (tell_seen_accounts m) m list w) (told (tell_deeds m) m list w)
deeds_known m [] w = tt
deeds_known m (a ∷ list) w = on (λ v. deeds_known m list v) (step m w a) refl
  where
    go : World → List Account
    go = told (tell_seen_accounts m) m list

    done : World → List Deed
    done = told (tell_deeds m) m list

    of_seen : ((v : World) → AreKnown v.steps (go v) (done v)) → (v : World) (e : Event) → w.steps < v.steps
        → AreOf (run_step a w v e) (plain m (run_step a w v e)) → AreKnown w.steps (account m a w v e ∷ go v) (tell_deeds m a w v e ++ done v)
    of_seen rest v e lt h =
        both_known w.steps (account m a w v e ∷ go v) (tell_deeds m a w v e) (done v)
        (all_of_first w.steps (account m a w v e) (go v) (run_step a w v e) (tell_deeds m a w v e) refl lt
        (both_of (run_step a w v e) (plain m (run_step a w v e)) (at_clocks v (run_step a w v e) (resumed_by w a) (awaiting w a) e) h
        (at_clocks_of v (run_step a w v e) (resumed_by w a) (awaiting w a) e)))
        (all_later v.steps w.steps (account m a w v e) (go v) (done v) refl lt (rest v))

    by_event : ((v : World) → AreKnown v.steps (go v) (done v)) → (v : World) (e : Event) → w.steps < v.steps
        → AreKnown w.steps (account_if_seen (account m a w v e) ++ go v) (tell_deeds m a w v e ++ done v)
    by_event rest v event.Local lt = all_above v.steps w.steps (go v) (done v) lt (rest v)
    by_event rest v (event.Printed n) lt = of_seen rest v (event.Printed n) lt (refl, tt)
    by_event rest v event.Made lt = of_seen rest v event.Made lt tt
    by_event rest v event.Got lt = of_seen rest v event.Got lt (refl, tt)
    by_event rest v event.Put lt = of_seen rest v event.Put lt (refl, tt)
    by_event rest v event.Added lt = of_seen rest v event.Added lt (refl, tt)
    by_event rest v event.Opened lt = of_seen rest v event.Opened lt (refl, tt)
    by_event rest v event.Closed lt = of_seen rest v event.Closed lt (refl, tt)
    by_event rest v event.Spawned lt = of_seen rest v event.Spawned lt (refl, tt)
    by_event rest v event.Resumed lt = of_seen rest v event.Resumed lt tt
    by_event rest v event.Dropped lt = of_seen rest v event.Dropped lt tt
    by_event rest v event.Arrived lt = of_seen rest v event.Arrived lt tt
    by_event rest v event.Passed lt = of_seen rest v event.Passed lt tt
    by_event rest v event.Ended lt = of_seen rest v event.Ended lt (refl, tt)

    on : ((v : World) → AreKnown v.steps (go v) (done v)) → (o : Outcome) → step m w a ≡ o
        → AreKnown w.steps (told_on (tell_seen_accounts m) a w o go) (told_on (tell_deeds m) a w o done)
    on rest Blocked e = tt
    on rest (Wrong c) e = tt
    on rest (Stepped v e) is = by_event rest v e (let l = step_counts m w v a e is in omega arith)

-- ---- their sights

abbrev AreSeen : List Account → List Sight → Type 0
AreSeen steps [] = ⊤
AreSeen steps (x ∷ xs) = IsFoundAs steps x.deed.step × AreSeen steps xs

sights_seen : (steps : List Account) (n k : ℕ) (known : Known) (ds : List Deed) → AreKnown n steps ds → AreSeen steps (sights_from known k ds)
sights_seen steps n k known [] h = tt
sights_seen steps n k known (d ∷ ds) h = go (is_sight d.part) (sights_seen steps n (suc k) (after (suc k) d known) ds h.2)
  where
    go : (b : Bool) → AreSeen steps (sights_from (after (suc k) d known) (suc k) ds)
        → AreSeen steps ((if b then sight (suc k) d (after (suc k) d known) ∷ [] else []) ++ sights_from (after (suc k) d known) (suc k) ds)
    go true rest = (h.0, rest)
    go false rest = rest

seen_then : (steps : List Account) (xs : List Sight) (y : Sight) → AreSeen steps xs → IsFoundAs steps y.deed.step → AreSeen steps (xs ++ y ∷ [])
seen_then steps [] y h k = (k, tt)
seen_then steps (x ∷ xs) y h k = (h.0, seen_then steps xs y h.1 k)

-- ---- their races

abbrev AreTold : List Account → List Race → Type 0
AreTold steps [] = ⊤
AreTold steps (r ∷ rs) = AreFound steps r × AreTold steps rs

told_then : (steps : List Account) (rs : List Race) (r : Race) → AreTold steps rs → AreFound steps r → AreTold steps (rs ++ r ∷ [])
told_then steps [] r h k = (k, tt)
told_then steps (q ∷ rs) r h k = (h.0, told_then steps rs r h.1 k)

with_one : (steps : List Account) (r : Race) (list : List Race) → AreTold steps list → AreFound steps r → AreTold steps (with_race r list)
with_one steps r list h k = go (list_any (have_same_places r) list)
  where
    go : (b : Bool) → AreTold steps (if b then list else list ++ r ∷ [])
    go true = h
    go false = told_then steps list r h k

with_all : (steps : List Account) (y : Sight) (xs : List Sight) (list : List Race) → IsFoundAs steps y.deed.step → AreSeen steps xs → AreTold steps list
    → AreTold steps (with_races_of y xs list)
with_all steps y [] list k h t = t
with_all steps y (x ∷ xs) list k h t = with_all steps y xs (if is_race x y then with_race (race x y) list else list) k h.1 (go (is_race x y))
  where
    go : (b : Bool) → AreTold steps (if b then with_race (race x y) list else list)
    go true = with_one steps (race x y) list t (h.0, k)
    go false = t

all_races : (steps : List Account) (earlier ys : List Sight) (list : List Race) → AreSeen steps earlier → AreSeen steps ys → AreTold steps list
    → AreTold steps (races_from earlier ys list)
all_races steps earlier [] list h k t = t
all_races steps earlier (y ∷ ys) list h k t =
    all_races steps (earlier ++ y ∷ []) ys (with_races_of y earlier list) (seen_then steps earlier y h k.0) k.1
    (with_all steps y earlier list k.0 h t)

told_at : (steps : List Account) (list : List Race) → AreTold steps list → (i : ℕ) (r : Race) → slice_get list i ≡ Some r → AreFound steps r
told_at steps [] h i r e = absurd (false≢true (ap is_some e))
told_at steps (q ∷ rs) h zero r e = subst (AreFound steps) (some_is q r e) h.0
  where
    some_is : (x y : Race) → Some x ≡ Some y → x ≡ y
    some_is x y e = ap (λ (o : Option Race). unwrap_or o x) e
told_at steps (q ∷ rs) h (suc i) r e = told_at steps rs h.1 i r e

-- what is told of a run
pub races_found : (m : ModuleValue) (args : List ℤ) (log : List Entry) → HasItsLines m args log
races_found m args log =
    told_at (seen_accounts m args log) _
    (all_races (seen_accounts m args log) [] _ [] tt
    (sights_seen (seen_accounts m args log) (opening m args).steps 0 nothing_known _ (deeds_known m (schedule_of log) (opening m args))) tt)
