-- The accesses of a run, of which a few stand for all earlier ones of a shared number: where an earlier access and a later one of others are a
-- race, the one that stands for it and that later one are a race, too.
use Rattle.std.specs.Prelude.{◌≡◌, ℕ, nat_le, Bool, true, not, ◌&&◌, List, [], flat_map, Option, Some, None, slice_get, slice_index_or, if◌then◌else◌}
use Rattle.std.specs.Option.{option_to_list}
use Rattle.std.specs.List.{list_any}
use Rattle.xk_races_summary.specs.declared.access.Access.{Access}
use Rattle.xk_races_summary.specs.Accesses.{Group, IsCovered, Latest, none_yet}
use Rattle.xk_races.specs.declared.deeds.Part.{Part}
use Rattle.xk_races.specs.declared.deeds.Part.TheVariants as part
use Rattle.xk_races.specs.declared.pairs.Race.{Race}
use Rattle.xk_races.specs.Lists.{number_at}
use Rattle.xk_races.specs.Knowledge.{Sight}
use Rattle.xk_races.specs.Races.{clash, have_one_number, have_same_places, cell_in}

-- ---- one access

-- what is kept of the one at position p
abbrev pub access_of : ℕ → Sight → Access
access_of p x = record { position = p; number = x.number; step = x.deed.step }

-- it and a later one of the same shared number are a race
abbrev pub is_race_of : Access → Sight → Bool
is_race_of r y = clash r.step.event y.deed.step.event && not (nat_le r.number (number_at y.row r.step.act))

-- that race
abbrev pub race_of : Access → Sight → Race
race_of r y = record { cell = cell_in y.deed.part; first = r.step; second = y.deed.step }

-- one that isn't listed yet, nor another one of the same places
abbrev pub is_new : List Race → Sight → Access → Bool
is_new list y r = is_race_of r y && not (list_any (have_same_places (race_of r y)) list)

-- the members, where the last one is in a race with y that isn't listed yet
abbrev pub new_members : List Race → Sight → Group → List ℕ
new_members list y g = if is_new list y g.last then g.members else []

-- those at these positions
abbrev pub sights_at : List Sight → List ℕ → List Sight
sights_at earlier positions = flat_map (λ p. option_to_list (slice_get earlier p)) positions

-- ---- those that stand for others

-- each earlier access of the shared number that this part is an access of has one that stands for it
abbrev pub AreCovered : List Sight → Part → Latest → Type 0
AreCovered earlier a l =
    (p : ℕ) (x : Sight) → slice_get earlier p ≡ Some x → have_one_number x.deed.part a ≡ true → IsCovered l (access_of p x)

-- ---- those of all shared numbers

-- those of shared number c
abbrev pub latest_at : List Latest → ℕ → Latest
latest_at cells c = slice_index_or cells c none_yet

-- so it is for each shared number
abbrev pub AreAllCovered : List Sight → List Latest → Type 0
AreAllCovered earlier cells = (c : ℕ) → AreCovered earlier (part.Access c) (latest_at cells c)

-- which shared number a part is an access of
abbrev pub cell_accessed : Part → Option ℕ
cell_accessed (part.Access c) = Some c
cell_accessed _ = None
