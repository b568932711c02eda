-- The races of a run. X10 Language Specification 2.4 gives no order to what activities do that don't wait for one another (chapter Activities,
-- its beginning); what is called a race is this project's own.
use Rattle.std.specs.Prelude.{ℕ, ℤ, nat_eq, Bool, true, false, not, ◌&&◌, ◌||◌, List, [], ◌∷◌, ◌++◌, Option, Some, None, if◌then◌else◌}
use Rattle.std.specs.List.{list_any}
use Rattle.xk_types.specs.declared.world.Entry.{Entry}
use Rattle.xk_types.specs.declared.world.Event.{Event}
use Rattle.xk_types.specs.declared.world.Event.TheVariants as event
use Rattle.xk_types.specs.Code.{ModuleValue}
use Rattle.xk_races_summary.specs.Accesses.{is_same_place}
use Rattle.xk_races.specs.declared.deeds.Part.{Part}
use Rattle.xk_races.specs.declared.deeds.Part.TheVariants as part
use Rattle.xk_races.specs.declared.pairs.Race.{Race}
use Rattle.xk_races.specs.declared.pairs.Gap.{Gap}
use Rattle.xk_races.specs.Deeds.{deeds_of_run}
use Rattle.xk_races.specs.Knowledge.{Sight, sights_of, comes_before}

-- ---- two accesses

-- it makes a difference which of two accesses comes first: not where both read, or both add
abbrev pub clash : Event → Event → Bool
clash event.Got event.Got = false
clash event.Added event.Added = false
clash e f = true

-- both are accesses of one shared number
abbrev pub have_one_number : Part → Part → Bool
have_one_number (part.Access s) (part.Access t) = nat_eq s t
have_one_number _ _ = false

-- x and the later y are a race: accesses of one shared number that clash, and x didn't come before y
abbrev pub is_race : Sight → Sight → Bool
is_race x y = have_one_number x.deed.part y.deed.part && (clash x.deed.step.event y.deed.step.event && not (comes_before x y))

abbrev pub cell_in : Part → ℕ
cell_in (part.Access s) = s
cell_in _ = 0

abbrev pub race : Sight → Sight → Race
race x y = record { cell = cell_in y.deed.part; first = x.deed.step; second = y.deed.step }

-- ---- the races, each two places once

-- both are of the same two places and the same shared number
abbrev pub have_same_places : Race → Race → Bool
have_same_places r q =
    nat_eq r.cell q.cell
    && ((is_same_place r.first q.first && is_same_place r.second q.second) || (is_same_place r.first q.second && is_same_place r.second q.first))

-- the list with this race, unless it has one of the same places
abbrev pub with_race : Race → List Race → List Race
with_race r list = if list_any (have_same_places r) list then list else list ++ r ∷ []

-- with the races of y and the first of these, one after another
abbrev pub with_races_of : Sight → List Sight → List Race → List Race
with_races_of y [] list = list
with_races_of y (x ∷ xs) list = with_races_of y xs (if is_race x y then with_race (race x y) list else list)

-- with the races of each of these and those that are earlier
abbrev pub races_from : List Sight → List Sight → List Race → List Race
races_from earlier [] list = list
races_from earlier (y ∷ ys) list = races_from (earlier ++ y ∷ []) ys (with_races_of y earlier list)

-- the races of a run
abbrev pub races_in : List Sight → List Race
races_in sights = races_from [] sights []

-- ---- prints

abbrev pub is_print : Part → Bool
is_print part.Print = true
is_print _ = false

-- the first of these prints before which the print just before it needn't have come, and that one
abbrev pub gap_behind : Option Sight → List Sight → Option Gap
gap_behind last [] = None
gap_behind None (y ∷ ys) = gap_behind (if is_print y.deed.part then Some y else None) ys
gap_behind (Some x) (y ∷ ys) =
    if is_print y.deed.part then (if comes_before x y then gap_behind (Some y) ys else Some (record { first = x.deed.step; second = y.deed.step }))
    else gap_behind (Some x) ys

abbrev pub gap_in : List Sight → Option Gap
gap_in sights = gap_behind None sights

-- ---- of a run

abbrev pub sights_of_run : ModuleValue → List ℤ → List Entry → List Sight
sights_of_run m args log = sights_of (deeds_of_run m args log)

abbrev pub has_none : List Race → Bool
has_none [] = true
has_none (r ∷ rs) = false

-- the run that a log stands for has no race
abbrev pub is_race_free : ModuleValue → List ℤ → List Entry → Bool
is_race_free m args log = has_none (races_in (sights_of_run m args log))
