-- There is one run by rounds.
use Rattle.std.proofs.Common.{◌≡◌, ◌∙◌, ℕ, ℤ, ◌<◌, true, true≢false, List, [], ◌∷◌, All, Option, length, map, slice_get, refl, sym, ap}
use Rattle.std.proofs.Common.{subst, arith}
use Rattle.std.proofs.lemmas.List.Elements.{All-cons, All-nil}
use Rattle.xk_types.specs.declared.world.Entry.{Entry}
use Rattle.xk_types.specs.Code.{ModuleValue}
use Rattle.xk_types.specs.World.{World, opening}
use Rattle.xk_types.specs.Schedule.{all_ended, run}
use Rattle.xk_types.specs.Logs.{one_step_of, schedule_of}
use Rattle.xk_law_schedules.proofs.ReachabilityLemmas.{same_through}
use Rattle.xk_law_rounds.specs.Rounds.{steps_in}
use Rattle.xk_scheduler.specs.Choosers.{enabled_in}
use Rattle.xk_scheduler.specs.WholeRuns.{IsLogThat}
use Rattle.xk_scheduler.proofs.EnabledSetLemmas.{going, listed_enabled}
use Rattle.xk_greedy.specs.Rounds.{AreRoundsBy, FollowsRounds, IsByRounds, IsRoundBy, chosen}
use Rattle.xk_greedy.proofs.StepLemmas.{chosen_get}

-- where all have ended, none begins
none_begins : (p : Option ℕ) (m : ModuleValue) (w v : World) (r : List ℕ) → IsRoundBy p m w r v → all_ended w ≡ true → ⊥
none_begins p m w v r round over = of r round.some round.chosen_are
  where
    of : (list : List ℕ) → 0 < length list → list ≡ chosen p (enabled_in m w) → ⊥
    of [] some is = omega (arith, some)
    of (a ∷ rest) some is =
        let able = listed_enabled m w 0 a (chosen_get p (enabled_in m w) 0 a (ap (λ l. slice_get l 0) (sym is))) in
        true≢false (sym over ∙ going m w a able)

-- rounds to the end are the same, and lead to the same world
rounds_once : (p : Option ℕ) (m : ModuleValue) (w y z : World) (rounds others : List (List ℕ)) → AreRoundsBy p m w rounds y
    → AreRoundsBy p m w others z → all_ended y ≡ true → all_ended z ≡ true → (rounds ≡ others) × (y ≡ z)
rounds_once p m w y z [] [] g h over end = (refl, sym g ∙ h)
rounds_once p m w y z [] (q ∷ qs) g h over end = absurd (none_begins p m w h.0 q h.1 (ap all_ended g ∙ over))
rounds_once p m w y z (r ∷ rs) [] g h over end = absurd (none_begins p m w g.0 r g.1 (ap all_ended h ∙ end))
rounds_once p m w y z (r ∷ rs) (q ∷ qs) g h over end =
    let same : r ≡ q = g.1.chosen_are ∙ sym h.1.chosen_are in
    let there : g.0 ≡ h.0 = same_through g.0 h.0 (sym g.1.leads ∙ ap (λ l. run m l w) same ∙ h.1.leads) in
    let rest = rounds_once p m g.0 y z rs qs g.2 (subst (λ (v : World). AreRoundsBy p m v qs z) (sym there) h.2) over end in
    (ap (λ x. x ∷ rs) same ∙ ap (λ xs. q ∷ xs) rest.0, rest.1)

pub runs_once : (p : Option ℕ) (m : ModuleValue) (args : List ℤ) (log other : List Entry) (y z : World) (count tally : ℕ)
    → IsByRounds p m args log y count → IsByRounds p m args other z tally → all_ended y ≡ true → all_ended z ≡ true
    → (log ≡ other) × (y ≡ z) × (count ≡ tally)
runs_once p m args log other y z count tally g h over end =
    let same = rounds_once p m (opening m args) y z g.rounds h.rounds g.are h.are over end in (
      g.log_is ∙ ap (λ rs. map one_step_of (steps_in rs)) same.0 ∙ sym h.log_is,
      same.1,
      sym g.as_many ∙ ap length same.0 ∙ h.as_many,
    )

-- ---- logs with an entry for each step

pub steps_of_entries : (list : List ℕ) → schedule_of (map one_step_of list) ≡ list
steps_of_entries [] = refl
steps_of_entries (a ∷ list) = ap (λ l. a ∷ l) (steps_of_entries list)

single_steps : (list : List ℕ) → All (λ (e : Entry). e.steps ≡ 1) (map one_step_of list)
single_steps [] = All-nil (λ (e : Entry). e.steps ≡ 1)
single_steps (a ∷ list) = All-cons (λ (e : Entry). e.steps ≡ 1) (one_step_of a) (map one_step_of list) refl (single_steps list)

-- so is the log of a run by rounds
pub log_by_rounds : (p : Option ℕ) (m : ModuleValue) (args : List ℤ) (log : List Entry) (w : World) (count : ℕ) (list : List ℕ)
    → IsByRounds p m args log w count → all_ended w ≡ true → list ≡ schedule_of log → IsLogThat (FollowsRounds p m args count) log list
log_by_rounds p m args log w count list by over is =
    let steps : list ≡ steps_in by.rounds = is ∙ ap schedule_of by.log_is ∙ steps_of_entries (steps_in by.rounds) in
    let entries : log ≡ map one_step_of list = by.log_is ∙ ap (map one_step_of) (sym steps) in
    record {
      follows = (w, over, subst (λ (es : List Entry). IsByRounds p m args es w count) entries by);
      stands_for = is;
      single = subst (All (λ (e : Entry). e.steps ≡ 1)) (sym by.log_is) (single_steps (steps_in by.rounds));
    }

-- there is one list of steps of a run by rounds, and one number of rounds
pub follows_rounds_once : (p : Option ℕ) (m : ModuleValue) (args : List ℤ) (count tally : ℕ) (list other : List ℕ)
    → FollowsRounds p m args count list → FollowsRounds p m args tally other → (list ≡ other) × (count ≡ tally)
follows_rounds_once p m args count tally list other g h =
    let same = runs_once p m args (map one_step_of list) (map one_step_of other) g.0 h.0 count tally g.2 h.2 g.1 h.1 in
    (sym (steps_of_entries list) ∙ ap schedule_of same.0 ∙ steps_of_entries other, same.2)
