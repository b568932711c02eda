-- Steps that are kept: the clocks that they made, and those of them that are asked for.
use Rattle.std.proofs.Common.{◌≡◌, ◌∙◌, ℕ, ◌<◌, Bool, true, false, not, ◌&&◌, ◌||◌, List, [], ◌∷◌, ◌++◌, flat_map, refl, sym, ap, arith}
use Rattle.std.specs.Prelude.{nat_le, filter, if◌then◌else◌}
use Rattle.std.proofs.lemmas.Bool.Decides.{nat_tests}
use Rattle.xk_types.specs.declared.world.Entry.{Entry}
use Rattle.xk_types.specs.declared.world.Event.{Event}
use Rattle.xk_types.specs.declared.world.Event.TheVariants as event
use Rattle.xk_types.specs.Code.{ModuleValue}
use Rattle.xk_types.specs.World.{World, opening}
use Rattle.xk_types.specs.Schedule.{is_local}
use Rattle.xk_types.specs.Logs.{schedule_of}
use Rattle.xk_show_events.specs.Events.{PlacesValue}
use Rattle.xk_show_events.specs.Steps.{run_step}
use Rattle.xk_show_names.specs.declared.accounts.Account.{Account}
use Rattle.xk_show_names.specs.Accounts.{account, recounted_by}
use Rattle.xk_show_names.specs.ClockNames.{birth_by, birth_until, births_among, births_until, NamesValue, names_by, names_until}
use Rattle.xk_show_names.proofs.BirthLemmas.{told_of_told}
use Rattle.xk_show_lanes.specs.declared.grid.Grid.{Grid}
use Rattle.xk_show_lanes.specs.declared.window.Window.{Window}
use Rattle.xk_show_lanes.specs.Lanes.{is_asked}
use Rattle.xk_show_lanes.specs.NamedLanes.{account_if_asked, account_if_kept, accounts_asked, accounts_kept, is_kept, makes, grid_by_names}
use Rattle.xk_show_lanes.specs.NamedLanes.{lanes_by_names, named_lanes_in, named_lanes_text}
use Rattle.xk_show_lanes.proofs.LaneLemmas.{asked_accounts, tell_asked_accounts}

-- no step behind the last one is kept
pub none_kept : (window : Window) (k : ℕ) (e : Event) → window.last < k → is_kept window k e ≡ false
none_kept window k e behind = grind (arith, nat_tests)

-- ---- clocks

-- of a step up to the last one, and of one behind it
birth_kept : (m : ModuleValue) (window : Window) (a : ℕ) (w v : World) (e : Event)
    → birth_until window.last m (account m a w v e) ≡ births_among m (account_if_kept window (account m a w v e))
birth_kept m window a w v e = of (nat_le v.steps window.last) (nat_le window.first v.steps) e
  where
    of : (b f : Bool) (d : Event)
        → (if b then birth_by m (run_step a w v d) d else [])
        ≡ births_among m (if b && (not (is_local d) && (f || makes d)) then account m a w v d ∷ [] else [])
    of false f d = refl
    of true true event.Local = refl
    of true true (event.Printed n) = refl
    of true true event.Made = refl
    of true true event.Got = refl
    of true true event.Put = refl
    of true true event.Added = refl
    of true true event.Opened = refl
    of true true event.Closed = refl
    of true true event.Spawned = refl
    of true true event.Resumed = refl
    of true true event.Dropped = refl
    of true true event.Arrived = refl
    of true true event.Passed = refl
    of true true event.Ended = refl
    of true false event.Local = refl
    of true false (event.Printed n) = refl
    of true false event.Made = refl
    of true false event.Got = refl
    of true false event.Put = refl
    of true false event.Added = refl
    of true false event.Opened = refl
    of true false event.Closed = refl
    of true false event.Spawned = refl
    of true false event.Resumed = refl
    of true false event.Dropped = refl
    of true false event.Arrived = refl
    of true false event.Passed = refl
    of true false event.Ended = refl

-- the clocks that are made up to the last step are those that kept steps made
births_kept : (window : Window) (m : ModuleValue) (log : List Entry) (last : World)
    → births_among m (accounts_kept window m log last) ≡ births_until window.last m last.arguments log
births_kept window m log last =
    sym (told_of_told (λ (a : Account). birth_by m a.step a.step.event) (recounted_by m (λ v a. account_if_kept window a))
    (recounted_by m (λ v a. birth_until window.last m a)) m (birth_kept m window) (schedule_of log) (opening m last.arguments))

-- and so are the names
pub names_kept : (p : PlacesValue) (shared : List (List ℕ)) (window : Window) (m : ModuleValue) (log : List Entry) (last : World)
    (steps : List Account)
    → steps ≡ accounts_kept window m log last
    → names_by p shared (births_among m steps) ≡ names_until p shared window.last m last.arguments log
names_kept p shared window m log last steps kept =
    ap (λ l. names_by p shared (births_among m l)) kept ∙ ap (names_by p shared) (births_kept window m log last)

-- ---- steps that are asked for

-- a filter tells an element or nothing
filtered : {X : Type 0} (p : X → Bool) (xs : List X) → filter p xs ≡ flat_map (λ x. if p x then x ∷ [] else []) xs
filtered p [] = refl
filtered p (x ∷ xs) = of (p x) (filtered p xs)
  where
    of : (b : Bool) → filter p xs ≡ flat_map (λ y. if p y then y ∷ [] else []) xs
        → (if b then x ∷ filter p xs else filter p xs) ≡ (if b then x ∷ [] else []) ++ flat_map (λ y. if p y then y ∷ [] else []) xs
    of true rest = ap (λ l. x ∷ l) rest
    of false rest = rest

-- a step that is asked for is kept
asked_kept : (m : ModuleValue) (window : Window) (a : ℕ) (w v : World) (e : Event)
    → account_if_asked window (account m a w v e)
    ≡ flat_map (λ (x : Account). if is_asked window x.step.number then x ∷ [] else []) (account_if_kept window (account m a w v e))
asked_kept m window a w v e =
    of (nat_le v.steps window.last) (nat_le window.first v.steps) (is_local e) (makes e)
    ∙ sym (one (is_kept window v.steps e))
  where
    x : Account
    x = account m a w v e

    one : (b : Bool)
        → flat_map (λ (y : Account). if is_asked window y.step.number then y ∷ [] else []) (if b then x ∷ [] else [])
        ≡ (if b then (if is_asked window v.steps then x ∷ [] else []) ++ [] else [])
    one true = refl
    one false = refl

    of : (b f l k : Bool)
        → (if (f && b) && not l then x ∷ [] else [])
        ≡ (if b && (not l && (f || k)) then (if f && b then x ∷ [] else []) ++ [] else [])
    of false false l k = refl
    of false true l k = refl
    of true false false false = refl
    of true false false true = refl
    of true false true k = refl
    of true true false k = refl
    of true true true k = refl

-- those that are asked for are among those that are kept
pub kept_asked : (window : Window) (m : ModuleValue) (log : List Entry) (last : World)
    → filter (λ a. is_asked window a.step.number) (accounts_kept window m log last) ≡ accounts_asked window m log last
kept_asked window m log last =
    filtered (λ (a : Account). is_asked window a.step.number) (accounts_kept window m log last)
    ∙ sym (told_of_told (λ (x : Account). if is_asked window x.step.number then x ∷ [] else [])
    (recounted_by m (λ v a. account_if_kept window a)) (tell_asked_accounts window m) m (asked_kept m window)
    (schedule_of log) (opening m last.arguments))
    ∙ asked_accounts window m log last

-- ---- lanes

-- in the columns of these names
pub lanes_named : (p q : PlacesValue) (shared : List (List ℕ)) (window : Window) (m : ModuleValue) (log : List Entry) (last : World)
    (n : NamesValue) (g : Grid) (text : List ℕ)
    → q ≡ p → n ≡ names_until q shared window.last m last.arguments log → g ≡ grid_by_names q n window m log last
    → text ≡ named_lanes_in g q n m log last → text ≡ named_lanes_text p shared window m log last
lanes_named p q shared window m log last n g text same named columned is =
    is
    ∙ ap (λ h. named_lanes_in h q n m log last) columned
    ∙ ap (λ k. lanes_by_names q k window m log last) named
    ∙ ap (λ r. named_lanes_text r shared window m log last) same
