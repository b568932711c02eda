-- No step looks at the numbers of steps, or at phases: forgetting them goes with each step.
use Rattle.std.proofs.Common.{◌≡◌, ℕ, ℤ, suc, zero, ◌+◌, ◌||◌, Bool, true, false, cond, List, [], ◌∷◌, ◌++◌, map, length, set, Some, None, Option, option_map, refl, sym, ap, ◌∙◌}
use Rattle.std.specs.Prelude.{slice_get}
use Rattle.std.specs.List.{list_any}
use Rattle.std.specs.Option.{option_map_or}
use Rattle.std.proofs.lemmas.List.{length-map, map-set}
use Rattle.std.proofs.lemmas.Option.{slice_get-map}
use Rattle.xk_types.specs.declared.world.Value.{Value}
use Rattle.xk_types.specs.declared.world.Value.TheVariants as value
use Rattle.xk_types.specs.declared.world.Standing.{Standing}
use Rattle.xk_types.specs.declared.world.Event.{Event}
use Rattle.xk_types.specs.declared.world.Event.TheVariants as event
use Rattle.xk_types.specs.Code.{ModuleValue}
use Rattle.xk_types.specs.World.{Finish, Activity, Clock, World, standing_of}
use Rattle.xk_types.specs.Step.{Outcome, Blocked, Stepped, is_ready, is_signalled, advanced, settled, settled_clock, moved, moved_on, joined, joined_on, is_given, child, made, new_clock, onward, with_slots, done, none, all, passed, past, left, waits, passing, awaits, awaits_from, is_under, under_within, same_finish, innermost, closing, spawned, step}
use Rattle.xk_types.proofs.ListLemmas.{fun_ext}
use Rattle.xk_law_commute.specs.PlainWorlds.{plain_activity, plain_clock, plain, plain_outcome}
use Rattle.xk_law_commute.proofs.StepEffect.{Move, Rests, Passes, change_by, written, enacted, aged}
use Rattle.xk_law_commute.proofs.ListLemmas.{map_push}
use Rattle.xk_law_commute.proofs.StepPairLemmas.{HoldsOfPairs, registers, step_pair}

-- worlds that are the same but for that
pub same_plain : (w v : World) → map plain_activity w.activities ≡ map plain_activity v.activities → map plain_clock w.clocks ≡ map plain_clock v.clocks
    → w.cells ≡ v.cells → w.arguments ≡ v.arguments → plain w ≡ plain v
same_plain w v p q r s = λ i. record { activities = p i; clocks = q i; cells = r i; steps = 0; arguments = s i }

plain_twice : (xs : List Activity) → map plain_activity (map plain_activity xs) ≡ map plain_activity xs
plain_twice [] = refl
plain_twice (x ∷ xs) = ap (λ zs. plain_activity x ∷ zs) (plain_twice xs)

-- ---- the end of a step

-- a clock at the end of a step, without its phase
abbrev resettled : Clock → Clock
resettled c = plain_clock (settled_clock 0 c)

settled_one : (now : ℕ) (c : Clock) → plain_clock (settled_clock now c) ≡ resettled (plain_clock c)
settled_one now c = by (is_ready c)
  where
    by : (b : Bool) → plain_clock (cond b (record { phase = c.phase + 1; last = now; standings = map advanced c.standings }) c)
        ≡ plain_clock (cond b (record { phase = 0 + 1; last = 0; standings = map advanced c.standings }) (plain_clock c))
    by true = refl
    by false = refl

pub settled_all : (now : ℕ) (cs : List Clock) → map plain_clock (map (settled_clock now) cs) ≡ map resettled (map plain_clock cs)
settled_all now [] = refl
settled_all now (c ∷ cs) = rw (settled_one now c, settled_all now cs)

-- what a world is at the end of a step goes by what it was
same_settled : (w v : World) → plain w ≡ plain v → plain (settled w) ≡ plain (settled v)
same_settled w v h = same_plain (settled w) (settled v) (ap (λ z. z.activities) h)
    (settled_all (w.steps + 1) w.clocks ∙ ap (λ z. map resettled z.clocks) h ∙ sym (settled_all (v.steps + 1) v.clocks)) (ap (λ z. z.cells) h) (ap (λ z. z.arguments) h)

-- ---- changes

pub moved_plain : (a : ℕ) (change : ℕ → Standing → Standing) (cs : List Clock) → map plain_clock (moved a change (map plain_clock cs)) ≡ map plain_clock (moved a change cs)
moved_plain a change [] = refl
moved_plain a change (c ∷ cs) = ap (λ zs. plain_clock (moved_on a (change 0) c) ∷ zs) (moved_plain a (λ k. change (suc k)) cs)

pub joined_plain : (a : ℕ) (given : ℕ → Bool) (cs : List Clock) → map plain_clock (joined a given (map plain_clock cs)) ≡ map plain_clock (joined a given cs)
joined_plain a given [] = refl
joined_plain a given (c ∷ cs) = ap (λ zs. plain_clock (joined_on a (given 0) c) ∷ zs) (joined_plain a (λ k. given (suc k)) cs)

pub clocks_twice : (cs : List Clock) → map plain_clock (map plain_clock cs) ≡ map plain_clock cs
clocks_twice [] = refl
clocks_twice (c ∷ cs) = ap (λ zs. plain_clock c ∷ zs) (clocks_twice cs)

-- ---- what is looked at

pub registers_plain : (cs : List Clock) (a k : ℕ) → registers (map plain_clock cs) a k ≡ registers cs a k
registers_plain [] a k = refl
registers_plain (c ∷ cs) a zero = refl
registers_plain (c ∷ cs) a (suc k) = registers_plain cs a k

pub any_plain : (a : ℕ) (cs : List Clock) → list_any (λ (c : Clock). is_signalled (standing_of c a)) (map plain_clock cs) ≡ list_any (λ (c : Clock). is_signalled (standing_of c a)) cs
any_plain a [] = refl
any_plain a (c ∷ cs) = ap (λ p. is_signalled (standing_of c a) || p) (any_plain a cs)

under_plain : (acts : List Activity) (f : Finish) (n b : ℕ) → under_within (map plain_activity acts) f n b ≡ under_within acts f n b
unfolding under_within
under_plain acts f zero b = refl
under_plain acts f (suc n) b =
    rw (slice_get-map plain_activity acts b, fun_ext (under_within (map plain_activity acts) f n) (under_within acts f n) (under_plain acts f n)) (by (slice_get acts b))
  where
    by : (o : Option Activity)
        → option_map_or (λ (act : Activity). same_finish act.governed f || option_map_or (under_within acts f n) act.governed.owner false) (option_map plain_activity o) false
        ≡ option_map_or (λ (act : Activity). same_finish act.governed f || option_map_or (under_within acts f n) act.governed.owner false) o false
    by None = refl
    by (Some x) = refl

is_under_plain : (acts : List Activity) (f : Finish) (b : ℕ) → is_under (map plain_activity acts) f b ≡ is_under acts f b
is_under_plain acts f b = ap (λ n. under_within (map plain_activity acts) f n b) (length-map acts plain_activity) ∙ under_plain acts f (length acts) b

awaits_plain : (acts : List Activity) (f : Finish) (b : ℕ) (xs : List Activity) → awaits_from (map plain_activity acts) f b (map plain_activity xs) ≡ awaits_from acts f b xs
awaits_plain acts f b [] = refl
awaits_plain acts f b (x ∷ xs) = rw (is_under_plain acts f b, awaits_plain acts f (suc b) xs)

-- ---- a step

-- what the two come to is the same but for that
abbrev AsPlain : Outcome → Outcome → Type 0
AsPlain o q = plain_outcome q ≡ plain_outcome o

module _ (m : ModuleValue) (w : World) (a : ℕ) (act : Activity) where
  set_plain : (next : Activity) (t : ℕ) → map plain_activity (set (map plain_activity w.activities) a (aged next t)) ≡ map plain_activity (set w.activities a next)
  set_plain next t = map-set plain_activity (map plain_activity w.activities) a (aged next t) ∙ ap (λ zs. set zs a (plain_activity next)) (plain_twice w.activities)
      ∙ sym (map-set plain_activity w.activities a next)

  plain_done : (next : Activity) (t : ℕ) (move : Move) (writes : Option (ℕ × (ℤ → ℤ))) (e : Event)
      → AsPlain (Stepped (enacted w a next move writes) e) (Stepped (enacted (plain w) a (aged next t) move writes) e)
  plain_done next t move writes e =
      let x : World = record { activities = set (plain w).activities a (aged next t); clocks = moved a (change_by move) (plain w).clocks; cells = written writes w.cells; steps = 0; arguments = w.arguments } in
      let y : World = record { activities = set w.activities a next; clocks = moved a (change_by move) w.clocks; cells = written writes w.cells; steps = w.steps; arguments = w.arguments } in
      ap (λ z. Stepped z e) (same_settled x y (same_plain x y (set_plain next t) (moved_plain a (change_by move) w.clocks) refl refl))

  plain_made : (next : Activity) (t : ℕ) → AsPlain (made w a next) (made (plain w) a (aged next t))
  plain_made next t =
      let x : World = record { activities = set (plain w).activities a (aged next t); clocks = (plain w).clocks ++ new_clock (length (plain w).activities) a ∷ []; cells = w.cells; steps = 0; arguments = w.arguments } in
      let y : World = record { activities = set w.activities a next; clocks = w.clocks ++ new_clock (length w.activities) a ∷ []; cells = w.cells; steps = w.steps; arguments = w.arguments } in
      ap (λ z. Stepped z event.Made) (same_settled x y (same_plain x y (set_plain next t)
      (map_push plain_clock (map plain_clock w.clocks) (new_clock (length (map plain_activity w.activities)) a)
      ∙ ap (λ zs. zs ++ plain_clock (new_clock (length (map plain_activity w.activities)) a) ∷ []) (clocks_twice w.clocks)
      ∙ ap (λ n. map plain_clock w.clocks ++ plain_clock (new_clock n a) ∷ []) (length-map w.activities plain_activity)
      ∙ sym (map_push plain_clock w.clocks (new_clock (length w.activities) a))) refl refl))

  plain_spawned : (t : ℕ) (values : List Value) → AsPlain (spawned m w a act t values) (spawned m (plain w) a (aged act 0) t values)
  plain_spawned t values =
      let x : World = record { activities = set (plain w).activities a (aged (onward act) 0) ++ child m a (aged act 0) t values ∷ []; clocks = joined a (is_given values) (plain w).clocks; cells = w.cells; steps = 0; arguments = w.arguments } in
      let y : World = record { activities = set w.activities a (onward act) ++ child m a act t values ∷ []; clocks = joined a (is_given values) w.clocks; cells = w.cells; steps = w.steps; arguments = w.arguments } in
      ap (λ z. Stepped z event.Spawned) (same_settled x y (same_plain x y
      (map_push plain_activity (set (map plain_activity w.activities) a (aged (onward act) 0)) (child m a (aged act 0) t values)
      ∙ ap (λ zs. zs ++ plain_activity (child m a act t values) ∷ []) (set_plain (onward act) 0)
      ∙ sym (map_push plain_activity (set w.activities a (onward act)) (child m a act t values)))
      (joined_plain a (is_given values) w.clocks) refl refl))

  plain_closing : (n : ℕ) → AsPlain (closing w a act n) (closing (plain w) a (aged act 0) n)
  plain_closing zero = refl
  plain_closing (suc n) = rw (awaits_plain w.activities (innermost a act) 0 w.activities) (by (awaits w.activities (innermost a act)))
    where
      by : (b : Bool) → plain_outcome (cond b Blocked (done (plain w) a (left (aged act 0) n) none event.Closed)) ≡ plain_outcome (cond b Blocked (done w a (left act n) none event.Closed))
      by true = refl
      by false = plain_done (left act n) 0 Rests None event.Closed

  plain_passing : AsPlain (passing w a act) (passing (plain w) a (aged act 0))
  plain_passing = rw (any_plain a w.clocks) (by (waits w a))
    where
      by : (b : Bool) → plain_outcome (cond b Blocked (done (plain w) a (past (aged act 0) (0 + 1)) (all passed) event.Passed))
          ≡ plain_outcome (cond b Blocked (done w a (past act (w.steps + 1)) (all passed) event.Passed))
      by true = refl
      by false = plain_done (past act (w.steps + 1)) (0 + 1) Passes None event.Passed

  plain_pairs : HoldsOfPairs AsPlain m w (plain w) a act 0
  plain_pairs = record {
    blocked = refl;
    wrong = λ c. refl;
    clocks = λ x k named. registers_plain w.clocks a k;
    cells = λ i at c g. refl;
    width = λ c. refl;
    does = λ next move writes e deed. plain_done next 0 move writes e;
    made = λ d old at there. rw (length-map w.clocks plain_clock) (plain_made (onward (with_slots act (set act.frame.slots d (value.Clock (length w.clocks))))) 0);
    closing = λ b at. plain_closing act.opened;
    passing = λ e. plain_passing;
    spawned = λ t args values at. plain_spawned t values;
  }

pub plain_steps : (m : ModuleValue) (w : World) (a : ℕ) → plain_outcome (step m (plain w) a) ≡ plain_outcome (step m w a)
plain_steps m w a = by (slice_get w.activities a) refl
  where
    by : (o : Option Activity) → slice_get w.activities a ≡ o → plain_outcome (step m (plain w) a) ≡ plain_outcome (step m w a)
    by None e = rw (slice_get-map plain_activity w.activities a, e)
    by (Some act) e = step_pair AsPlain m w (plain w) a act 0 (plain_pairs m w a act) e (slice_get-map plain_activity w.activities a ∙ ap (option_map plain_activity) e)
