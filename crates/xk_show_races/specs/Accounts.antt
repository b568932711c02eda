-- Which steps of a run are kept for the races that are told, as the code keeps them.
use Rattle.std.specs.Prelude.{◌≡◌, ℕ, ℤ, nat_eq, Bool, true, ◌||◌, List, [], if◌then◌else◌}
use Rattle.std.specs.List.{list_any}
use Rattle.std.specs.Ordering.{nat_cmp}
use Rattle.std.specs.BTreeMap.{BTreeMap, get}
use Rattle.std.specs.BTreeSet.{BTreeSet, contains}
use Rattle.xk_types.specs.declared.world.Entry.{Entry}
use Rattle.xk_types.specs.Code.{ModuleValue}
use Rattle.xk_show_events.specs.Events.{PlacesValue}
use Rattle.xk_show_events.specs.Steps.{told_of_run}
use Rattle.xk_show_names.specs.declared.accounts.Account.{Account}
use Rattle.xk_show_names.specs.Accounts.{account_if_seen, recounted_by}
use Rattle.xk_show_names.specs.ClockNames.{NamesValue}
use Rattle.xk_races.specs.declared.pairs.Race.{Race}
use Rattle.xk_show_races.specs.Text.{account_of, pair_lines}

-- the step of this number is one of a race
abbrev pub is_of : Race → ℕ → Bool
is_of r n = nat_eq n r.first.number || nat_eq n r.second.number

abbrev pub is_of_any : List Race → ℕ → Bool
is_of_any races n = list_any (λ r. is_of r n) races

-- the set has the numbers of the steps of these races
abbrev pub AreNumbers : BTreeSet ℕ → List Race → Type 0
AreNumbers numbers races = (n : ℕ) → contains nat_cmp numbers n ≡ is_of_any races n

-- a step whose number the set has, if other activities can see it
abbrev pub account_if_among : BTreeSet ℕ → Account → List Account
account_if_among numbers a = if contains nat_cmp numbers a.step.number then account_if_seen a else []

-- those of a run
abbrev pub accounts_among : BTreeSet ℕ → ModuleValue → List ℤ → List Entry → List Account
accounts_among numbers m args log = told_of_run (recounted_by m (λ v a. account_if_among numbers a)) m args log

-- the map has these steps by their numbers
abbrev pub AreByNumber : BTreeMap ℕ Account → List Account → Type 0
AreByNumber map steps = (n : ℕ) → get nat_cmp map n ≡ account_of steps n

-- the map has the steps of these races as they are among those
abbrev pub AreRacing : BTreeMap ℕ Account → List Race → List Account → Type 0
AreRacing map races steps = (n : ℕ) → is_of_any races n ≡ true → get nat_cmp map n ≡ account_of steps n

-- the lines of a race whose steps the map has
abbrev pub kept_lines : PlacesValue → NamesValue → BTreeMap ℕ Account → Race → List ℕ
kept_lines p n map r = pair_lines p n (get nat_cmp map r.first.number) (get nat_cmp map r.second.number)
