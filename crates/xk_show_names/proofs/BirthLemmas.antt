-- Clocks that steps made, by lists of steps.
use Rattle.std.proofs.Common.{◌≡◌, ◌∙◌, ℕ, ℤ, List, [], ◌∷◌, ◌++◌, flat_map, refl, sym, ap}
use Rattle.std.proofs.lemmas.Grind.{flat_map-append}
use Rattle.xk_types.specs.declared.world.Entry.{Entry}
use Rattle.xk_types.specs.declared.world.Event.{Event}
use Rattle.xk_types.specs.declared.world.Event.TheVariants as event
use Rattle.xk_types.specs.Code.{ModuleValue}
use Rattle.xk_types.specs.World.{World, opening}
use Rattle.xk_types.specs.Step.{Outcome, Blocked, Wrong, Stepped, step}
use Rattle.xk_types.specs.Logs.{schedule_of}
use Rattle.xk_show_events.specs.Steps.{Teller, run_step, told, told_on}
use Rattle.xk_show_names.specs.declared.accounts.Account.{Account}
use Rattle.xk_show_names.specs.Accounts.{recounted_by, seen_accounts, tell_seen_accounts}
use Rattle.xk_show_names.specs.ClockNames.{NamesValue, birth_by, births, births_among, names_by, names_in_run}
use Rattle.xk_show_names.specs.Events.{lines_of, named_events_text}
use Rattle.xk_show_events.specs.Events.{PlacesValue}

-- ---- one list of another

-- Where what is told of each step is made of what another tells of it, so is what is told of a run.
pub told_of_told : {X Y : Type 0} (f : X → List Y) (tell : Teller X) (tell2 : Teller Y) (m : ModuleValue)
    → ((a : ℕ) (w v : World) (e : Event) → tell2 a w v e ≡ flat_map f (tell a w v e))
    → (list : List ℕ) (w : World) → told tell2 m list w ≡ flat_map f (told tell m list w)
told_of_told f tell tell2 m is [] w = refl
told_of_told f tell tell2 m is (a ∷ list) w = of (step m w a) (told_of_told f tell tell2 m is list)
  where
    of : (o : Outcome) → ((v : World) → told tell2 m list v ≡ flat_map f (told tell m list v))
        → told_on tell2 a w o (told tell2 m list) ≡ flat_map f (told_on tell a w o (told tell m list))
    of Blocked rest = refl
    of (Wrong c) rest = refl
    of (Stepped v e) rest =
        ap (λ l. l ++ told tell2 m list v) (is a w v e)
        ∙ ap (λ l. flat_map f (tell a w v e) ++ l) (rest v)
        ∙ sym (flat_map-append f (tell a w v e) (told tell m list v))

-- ---- clocks

-- a step that makes a clock can be seen
seen_birth : (m : ModuleValue) (a : ℕ) (w v : World) (e : Event)
    → birth_by m (run_step a w v e) e ≡ births_among m (tell_seen_accounts m a w v e)
seen_birth m a w v event.Local = refl
seen_birth m a w v (event.Printed n) = refl
seen_birth m a w v event.Made = refl
seen_birth m a w v event.Got = refl
seen_birth m a w v event.Put = refl
seen_birth m a w v event.Added = refl
seen_birth m a w v event.Opened = refl
seen_birth m a w v event.Closed = refl
seen_birth m a w v event.Spawned = refl
seen_birth m a w v event.Resumed = refl
seen_birth m a w v event.Dropped = refl
seen_birth m a w v event.Arrived = refl
seen_birth m a w v event.Passed = refl
seen_birth m a w v event.Ended = refl

-- the clocks of a run are those that its steps made which others see
births_seen : (m : ModuleValue) (args : List ℤ) (log : List Entry) → births_among m (seen_accounts m args log) ≡ births m args log
births_seen m args log =
    sym (told_of_told (λ (a : Account). birth_by m a.step a.step.event) (tell_seen_accounts m)
    (recounted_by m (λ v a. birth_by m a.step a.step.event)) m (seen_birth m) (schedule_of log) (opening m args))

-- and so are the names
pub names_seen : (p : PlacesValue) (shared : List (List ℕ)) (m : ModuleValue) (args : List ℤ) (log : List Entry) (steps : List Account)
    → steps ≡ seen_accounts m args log → names_by p shared (births_among m steps) ≡ names_in_run p shared m args log
names_seen p shared m args log steps seen =
    ap (λ l. names_by p shared (births_among m l)) seen ∙ ap (names_by p shared) (births_seen m args log)

-- and the lines that are told of its steps by them
pub lines_seen : (p q : PlacesValue) (shared : List (List ℕ)) (m : ModuleValue) (args : List ℤ) (log : List Entry)
    (names : NamesValue) (steps : List Account)
    → q ≡ p → steps ≡ seen_accounts m args log → names ≡ names_in_run q shared m args log
    → lines_of q names steps ≡ named_events_text p shared m args log
lines_seen p q shared m args log names steps is seen named =
    ap (λ n. lines_of q n steps) named
    ∙ ap (λ l. lines_of q (names_in_run q shared m args log) l) seen
    ∙ ap (λ r. named_events_text r shared m args log) is
