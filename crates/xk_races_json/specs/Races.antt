-- The races of a run as a JSON value: of each the shared number, and both accesses; and what they say of other runs. This project's own.
use Rattle.std.specs.Prelude.{ℕ, ℤ, Bool, List, [], ◌∷◌, take, flat_map, Option, Some, None, is_none, codes}
use Rattle.std.specs.Ordering.{nat_cmp}
use Rattle.std.specs.BTreeMap.{BTreeMap, get}
use Rattle.serde_json.specs.Data.{Data, boolean}
use Rattle.xk_json.specs.Objects.{Group, array_of, bytes_value, object_of}
use Rattle.xk_types.specs.declared.world.Entry.{Entry}
use Rattle.xk_types.specs.Code.{ModuleValue}
use Rattle.xk_show_events.specs.Events.{PlacesValue, no_text}
use Rattle.xk_show_names.specs.declared.accounts.Account.{Account}
use Rattle.xk_show_names.specs.Accounts.{seen_accounts}
use Rattle.xk_show_names.specs.ClockNames.{NamesValue, names_by}
use Rattle.xk_show_json.specs.Events.{event_value, subject_members}
use Rattle.xk_races.specs.declared.pairs.Gap.{Gap}
use Rattle.xk_races.specs.declared.pairs.Race.{Race}
use Rattle.xk_races.specs.Races.{gap_in, has_none, races_in, sights_of_run}
use Rattle.xk_races.specs.Text.{are_all_shown, closing_text, most_shown}
use Rattle.xk_show_races.specs.Text.{account_of}
use Rattle.xk_races_json.specs.declared.pairs.Pair.{Pair}

-- ---- two steps

abbrev pub both : Option Account → Option Account → List Pair
both None second = []
both (Some a) None = []
both (Some a) (Some b) = (record { first = a; second = b }) ∷ []

-- the steps of a race among these; each race of a run has both (`both_found` of `xk_show_races`)
abbrev pub pair_of : List Account → Race → List Pair
pair_of steps r = both (account_of steps r.first.number) (account_of steps r.second.number)

-- as the map has them
abbrev pub kept_pair : BTreeMap ℕ Account → Race → List Pair
kept_pair map r = both (get nat_cmp map r.first.number) (get nat_cmp map r.second.number)

-- ---- a race

-- which shared number two steps raced for, and both, as `events` tells of them
abbrev pub race_groups : PlacesValue → Option NamesValue → Pair → List Group
race_groups p names x =
    ((codes "first", event_value p names x.first) ∷ [])
    ∷ ((codes "second", event_value p names x.second) ∷ [])
    ∷ subject_members names x.first.subject
    ∷ []

abbrev pub race_value : PlacesValue → Option NamesValue → Pair → Data
race_value p names x = object_of (race_groups p names x)

-- the races that are told
abbrev pub race_member : PlacesValue → Option NamesValue → List Pair → Group
race_member p names pairs = (codes "races", array_of (race_value p names) pairs) ∷ []

-- ---- the value

-- Whether there is no race: then every schedule prints these numbers (`one_speaks_for_all` of `xk_law_races`). Whether each print of the
-- run comes before the next one: then, where there is no race, every schedule prints them in this order (`ordered_prints`). What is told
-- behind the races. Whether all races are in the list.
abbrev pub scope_members : Bool → Bool → List ℕ → Bool → Group
scope_members free in_order closing whole =
    (codes "every_schedule", boolean free)
    ∷ (codes "prints_in_order", boolean in_order)
    ∷ (codes "text", bytes_value closing)
    ∷ (codes "whole", boolean whole)
    ∷ []

-- `{"every_schedule":true,"prints_in_order":true,"races":[],"text":"races 0\\nprints in one order\\nevery ..\\n","whole":true}`
abbrev pub value_by : PlacesValue → Option NamesValue → List Pair → Bool → Bool → List ℕ → Bool → Data
value_by p names pairs free in_order closing whole =
    object_of (race_member p names pairs ∷ scope_members free in_order closing whole ∷ [])

-- what is told of a run with these steps that others see, these races, and this first gap among its prints
abbrev pub value_of : PlacesValue → Option NamesValue → List Account → List Race → Option Gap → Data
value_of p names steps races gap =
    value_by p names (flat_map (pair_of steps) (take most_shown races))
    (has_none races) (is_none gap) (closing_text p races gap) (are_all_shown races)

-- what is told of the run that a log stands for
abbrev pub races_value : PlacesValue → Option NamesValue → ModuleValue → List ℤ → List Entry → Data
races_value p names m args log =
    value_of p names (seen_accounts m args log) (races_in (sights_of_run m args log)) (gap_in (sights_of_run m args log))

-- of a source text's module, whose shared numbers have these names; no race is on a clock, so clocks have none here
abbrev pub source_races_value : PlacesValue → List (List ℕ) → ModuleValue → List ℤ → List Entry → Data
source_races_value p shared m args log = races_value p (Some (names_by p shared [])) m args log

-- of a module without a text
abbrev pub module_races_value : ModuleValue → List ℤ → List Entry → Data
module_races_value m args log = races_value no_text None m args log
