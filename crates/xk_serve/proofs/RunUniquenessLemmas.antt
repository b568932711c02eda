-- An order determines its run, and a log the run that it has.
use Rattle.std.proofs.Common.{◌≡◌, ◌∙◌, ℕ, ℤ, ◌-◌, ◌<◌, List, [], ◌∷◌, ◌++◌, length, map, replicate, All, Option, None, true, refl, sym}
use Rattle.std.proofs.Common.{ap, subst}
use Rattle.std.specs.List.{AllByRecursion}
use Rattle.std.proofs.lemmas.Bool.{true≢false}
use Rattle.std.proofs.lemmas.List.Concat.{flat_map-cons}
use Rattle.std.proofs.lemmas.List.Elements.{recursion_from_All}
use Rattle.std.proofs.lemmas.Option.{same_Some}
use Rattle.xk_types.specs.declared.world.Entry.{Entry}
use Rattle.xk_types.specs.declared.world.Event.{Event}
use Rattle.xk_types.specs.Code.{ModuleValue}
use Rattle.xk_types.specs.World.{World, opening, AreArguments}
use Rattle.xk_types.specs.Step.{Outcome, Blocked, Wrong, Stepped, step}
use Rattle.xk_types.specs.Schedule.{Through, all_ended, is_step, printed, run}
use Rattle.xk_types.specs.Logs.{one_step_of, schedule_of}
use Rattle.xk_types.proofs.LogEntryLemmas.{entry_of, one_step_is}
use Rattle.xk_law_schedules.proofs.ReachabilityLemmas.{first_step, same_through}
use Rattle.xk_random.specs.Chance.{chance_after, chance_answer, chance_of}
use Rattle.xk_scheduler.specs.Choosers.{Follows, enabled_in, goes_on, turn_after, turn_of}
use Rattle.xk_scheduler.specs.WholeRuns.{IsRunThat}
use Rattle.xk_scheduler.proofs.EnabledSetLemmas.{going}
use Rattle.xk_replay.proofs.VerdictLemmas.{leads_from}
use Rattle.xk_jobs.specs.declared.job.Order.{Order}
use Rattle.xk_jobs.specs.declared.job.Order.TheVariants as order
use Rattle.xk_answers.specs.OrderedRun.{FollowsOrder, IsGreedyRun, IsLoggedGreedyRun, IsLoggedRun, IsOrderedRun}
use Rattle.xk_answers.proofs.OrderedRunLemmas.{follows_rounds_once}
use Rattle.xk_replay.specs.Replay.{IsLegal}

-- ---- whoever chooses

-- who is chosen takes a step
taken : (o : Outcome) (P : World → Type 0) → goes_on o P → is_step o ≡ true
taken Blocked P h = absurd h
taken (Wrong c) P h = absurd h
taken (Stepped v e) P h = refl

same_step : (v w : World) (d e : Event) → Stepped v d ≡ Stepped w e → v ≡ w
same_step v w d e h = cc

module _ {S : Type 0} (answer : S → List ℕ → ℕ) (after : S → List ℕ → S) (m : ModuleValue) where
  -- two lists that follow one chooser to an end are one
  follows_once : (l k : List ℕ) (s : S) (w x y : World) → Follows answer after m s w l → Follows answer after m s w k → run m l w ≡ Through x → run m k w ≡ Through y
      → all_ended x ≡ true → all_ended y ≡ true → l ≡ k
  follows_once [] [] s w x y p q left right over end = refl
  follows_once [] (b ∷ k) s w x y p q left right over end =
      absurd (true≢false (sym (ap all_ended (same_through w x left) ∙ over) ∙ going m w b (taken (step m w b) _ q.1)))
  follows_once (a ∷ l) [] s w x y p q left right over end =
      absurd (true≢false (sym (ap all_ended (same_through w y right) ∙ end) ∙ going m w a (taken (step m w a) _ p.1)))
  follows_once (a ∷ l) (b ∷ k) s w x y p q left right over end =
      let same : a ≡ b = same_Some a b (sym p.0 ∙ q.0) in
      let f = first_step w x (step m w a) (run m l) left in
      let g = first_step w y (step m w b) (run m k) right in
      let there : f.0 ≡ g.0 = same_step f.0 g.0 f.1 g.1 (sym f.2 ∙ ap (step m w) same ∙ g.2) in
      let next = after s (enabled_in m w) in
      let here = subst (λ (o : Outcome). goes_on o (λ v. Follows answer after m next v l)) f.2 p.1 in
      let other = subst (λ (o : Outcome). goes_on o (λ v. Follows answer after m next v k)) g.2 q.1 in
      let rest = follows_once l k next f.0 x y here (subst (λ (v : World). Follows answer after m next v k) (sym there) other) f.3
      (subst (λ (v : World). run m k v ≡ Through y) (sym there) g.3) over end in
      ap (λ c. c ∷ l) same ∙ ap (λ t. b ∷ t) rest

-- ---- runs

-- main takes as many
pub run_taken : (Has : List ℕ → Type 0) (m : ModuleValue) (args numbers : List ℤ) (steps : ℕ) → IsRunThat Has m args numbers steps → AreArguments m args
run_taken Has m args numbers steps r = subst (AreArguments m) r.given r.leads.0

-- by one list there is one run
pub list_once : (P Q : List ℕ → Type 0) (m : ModuleValue) (args numbers others : List ℤ) (n k : ℕ) (p : IsRunThat P m args numbers n) (q : IsRunThat Q m args others k)
    → p.list ≡ q.list → (numbers ≡ others) × (n ≡ k)
list_once P Q m args numbers others n k p q e =
    let here = leads_from m args p.list p.last p.leads p.given in
    let there = leads_from m args q.list q.last q.leads q.given in
    let last = same_through p.last q.last (sym here ∙ ap (λ l. run m l (opening m args)) e ∙ there) in (
      p.numbers_are ∙ ap (λ l. printed m l (opening m args)) e ∙ sym q.numbers_are,
      p.steps_are ∙ ap (λ (w : World). w.steps) last ∙ sym q.steps_are,
    )

-- a legal run by one log ends in one world
pub last_once : (m : ModuleValue) (args : List ℤ) (es fs : List Entry) → es ≡ fs → (p : IsLegal m args es) (q : IsLegal m args fs) → p.last ≡ q.last
last_once m args es fs same p q =
    let here = leads_from m args (schedule_of es) p.last p.leads p.given in
    let there = leads_from m args (schedule_of fs) q.last q.leads q.given in
    same_through p.last q.last (sym here ∙ ap (λ l. run m (schedule_of l) (opening m args)) same ∙ there)

-- ---- orders

order_once : (o : Order) (m : ModuleValue) (args : List ℤ) (l k : List ℕ) (x y : World) → FollowsOrder o m args l → FollowsOrder o m args k
    → run m l (opening m args) ≡ Through x → run m k (opening m args) ≡ Through y → all_ended x ≡ true → all_ended y ≡ true → l ≡ k
order_once order.First m args l k x y = follows_once {S = Unit {0}} (λ s enabled. 0) (λ s enabled. s) m l k tt (opening m args) x y
order_once order.Last m args l k x y = follows_once {S = Unit {0}} (λ s enabled. length enabled - 1) (λ s enabled. s) m l k tt (opening m args) x y
order_once order.Round m args l k x y = follows_once turn_of turn_after m l k None (opening m args) x y
order_once (order.Random seed) m args l k x y = follows_once chance_answer chance_after m l k (chance_of seed) (opening m args) x y

-- a run that follows an order has one list
ordered_list : (P Q : List ℕ → Type 0) (o : Order) (m : ModuleValue) (args numbers others : List ℤ) (n k : ℕ) (p : IsRunThat P m args numbers n) (q : IsRunThat Q m args others k)
    → FollowsOrder o m args p.list → FollowsOrder o m args q.list → p.list ≡ q.list
ordered_list P Q o m args numbers others n k p q here there =
    order_once o m args p.list q.list p.last q.last here there (leads_from m args p.list p.last p.leads p.given) (leads_from m args q.list q.last q.leads q.given) p.over q.over

pub ordered_once : (o : Order) (m : ModuleValue) (args numbers others : List ℤ) (n k : ℕ) → IsOrderedRun o m args numbers n → IsOrderedRun o m args others k
    → (numbers ≡ others) × (n ≡ k)
ordered_once o m args numbers others n k p q =
    list_once _ _ m args numbers others n k p q (ordered_list _ _ o m args numbers others n k p q p.follows q.follows)

-- ---- logs of single steps

entry_single : (a n : ℕ) (some : 0 < n) → n ≡ 1 → entry_of a n some ≡ one_step_of a
entry_single a n some e = subst (λ k. (more : 0 < k) → entry_of a k more ≡ one_step_of a) (sym e) (one_step_is a) some

-- the log of a schedule, with an entry for each step
entries_single : (es : List Entry) → AllByRecursion (λ e. e.steps ≡ 1) es → es ≡ map one_step_of (schedule_of es)
entries_single [] h = refl
entries_single (e ∷ es) h =
    let first : schedule_of (e ∷ es) ≡ e.act ∷ schedule_of es =
    flat_map-cons (λ (x : Entry). replicate x.steps x.act) e es ∙ ap (λ n. replicate n e.act ++ schedule_of es) h.0 in
    ap (λ x. x ∷ es) (entry_single e.act e.steps e.at_least_one h.0) ∙ ap (λ xs. one_step_of e.act ∷ xs) (entries_single es h.1) ∙ ap (map one_step_of) (sym first)

single_once : (es fs : List Entry) → All (λ e. e.steps ≡ 1) es → All (λ e. e.steps ≡ 1) fs → schedule_of es ≡ schedule_of fs → es ≡ fs
single_once es fs p q e =
    entries_single es (recursion_from_All (λ x. x.steps ≡ 1) es p) ∙ ap (map one_step_of) e ∙ sym (entries_single fs (recursion_from_All (λ x. x.steps ≡ 1) fs q))

pub logged_once : (o : Order) (m : ModuleValue) (args numbers others : List ℤ) (n k : ℕ) (es fs : List Entry) → IsLoggedRun o m args numbers n es → IsLoggedRun o m args others k fs
    → (numbers ≡ others) × (n ≡ k) × (es ≡ fs)
logged_once o m args numbers others n k es fs p q =
    let same = ordered_list _ _ o m args numbers others n k p q p.follows.follows q.follows.follows in
    let both = list_once _ _ m args numbers others n k p q same in
    (both.0, both.1, single_once es fs p.follows.single q.follows.single (sym p.follows.stands_for ∙ same ∙ q.follows.stands_for))

-- ---- by rounds

pub greedy_once : (p : Option ℕ) (m : ModuleValue) (args numbers others : List ℤ) (n k rounds tally : ℕ)
    → IsGreedyRun p m args numbers n rounds → IsGreedyRun p m args others k tally → (numbers ≡ others) × (n ≡ k) × (rounds ≡ tally)
greedy_once p m args numbers others n k rounds tally g h =
    let same = follows_rounds_once p m args rounds tally g.list h.list g.follows h.follows in
    let both = list_once _ _ m args numbers others n k g h same.0 in
    (both.0, both.1, same.1)

pub greedy_logged_once : (p : Option ℕ) (m : ModuleValue) (args numbers others : List ℤ) (n k rounds tally : ℕ) (es fs : List Entry)
    → IsLoggedGreedyRun p m args numbers n rounds es → IsLoggedGreedyRun p m args others k tally fs
    → (numbers ≡ others) × (n ≡ k) × (rounds ≡ tally) × (es ≡ fs)
greedy_logged_once p m args numbers others n k rounds tally es fs g h =
    let same = follows_rounds_once p m args rounds tally g.list h.list g.follows.follows h.follows.follows in
    let both = list_once _ _ m args numbers others n k g h same.0 in (
      both.0,
      both.1,
      same.1,
      single_once es fs g.follows.single h.follows.single (sym g.follows.stands_for ∙ same.0 ∙ h.follows.stands_for),
    )
