-- Which places of which shared numbers are told already, as a set of keys that is kept beside the list of races.
use Rattle.std.specs.Prelude.{◌≡◌, ℕ, Bool, ◌||◌, List}
use Rattle.std.specs.declared.cmp.Ordering.{Ordering}
use Rattle.std.specs.Ordering.{nat_cmp, ordering_then}
use Rattle.std.specs.BTreeSet.{BTreeSet, contains}
use Rattle.std.specs.List.{list_any}
use Rattle.xk_show_events.specs.declared.steps.RunStep.{RunStep}
use Rattle.xk_races.specs.declared.pairs.Race.{Race}
use Rattle.xk_races.specs.Races.{have_same_places}

-- a place in the text
abbrev pub TextPlace : Type 0
TextPlace = ℕ × ℕ

-- a shared number, and two places in the text
abbrev pub Key : Type 0
Key = ℕ × TextPlace × TextPlace

abbrev pub text_place : RunStep → TextPlace
text_place s = (s.unit, s.place)

-- those of a race
abbrev pub key : Race → Key
key r = (r.cell, text_place r.first, text_place r.second)

-- and the places the other way round
abbrev pub key_back : Race → Key
key_back r = (r.cell, text_place r.second, text_place r.first)

abbrev pub text_place_cmp : TextPlace → TextPlace → Ordering
text_place_cmp s t = ordering_then (nat_cmp s.0 t.0) (nat_cmp s.1 t.1)

abbrev pub key_cmp : Key → Key → Ordering
key_cmp k l = ordering_then (ordering_then (nat_cmp k.0 l.0) (text_place_cmp k.1 l.1)) (text_place_cmp k.2 l.2)

-- one of these has the places of a race
abbrev pub is_told : BTreeSet Key → Race → Bool
is_told told r = contains key_cmp told (key r) || contains key_cmp told (key_back r)

-- of each race the set tells whether the list has one of the same places
abbrev pub AreTold : List Race → BTreeSet Key → Type 0
AreTold races told = (r : Race) → is_told told r ≡ list_any (have_same_places r) races
