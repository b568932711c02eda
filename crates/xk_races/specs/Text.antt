-- What is told of the races of a run. This project's own.
use Rattle.std.specs.Prelude.{◌≡◌, ℕ, suc, ℤ, nat_le, Bool, List, [], ◌∷◌, ◌++◌, length, take, flat_map, codes, decimal, if◌then◌else◌}
use Rattle.std.specs.Prelude.{Option, Some, None}
use Rattle.xk_types.specs.declared.world.Entry.{Entry}
use Rattle.xk_types.specs.Code.{ModuleValue}
use Rattle.xk_show_events.specs.declared.steps.RunStep.{RunStep}
use Rattle.xk_show_events.specs.Events.{PlacesValue, event_words, origin_of, place_words}
use Rattle.xk_races.specs.declared.pairs.Race.{Race}
use Rattle.xk_races.specs.declared.pairs.Gap.{Gap}
use Rattle.xk_races.specs.Races.{races_in, gap_in, sights_of_run}

-- `step 9 act 1 at 13:9`
unfoldable pub step_words : PlacesValue → RunStep → List ℕ
step_words p s = codes "step " ++ (decimal s.number ++ (codes " act " ++ (decimal s.act ++ (codes " " ++ place_words s.unit s.place (origin_of p s.unit s.place)))))

-- `step 9 act 1 at 13:9 write`
unfoldable pub access_words : PlacesValue → RunStep → List ℕ
access_words p s = step_words p s ++ (codes " " ++ event_words s)

-- `race shared 1: step 9 act 1 at 13:9 write, step 19 act 2 at 18:9 read`
unfoldable pub race_line : PlacesValue → Race → List ℕ
race_line p r = codes "race shared " ++ (decimal r.cell ++ (codes ": " ++ (access_words p r.first ++ (codes ", " ++ (access_words p r.second ++ codes "\n")))))

unfoldable pub print_line : PlacesValue → Option Gap → List ℕ
print_line p None = codes "prints in one order\n"
print_line p (Some g) = codes "prints not in one order: " ++ (step_words p g.first ++ (codes ", " ++ (step_words p g.second ++ codes "\n")))

-- where there is no race, whether the prints are in one order
abbrev pub print_line_if_free : PlacesValue → List Race → Option Gap → List ℕ
print_line_if_free p [] g = print_line p g
print_line_if_free p (r ∷ rs) g = []

-- so many races are shown at most, the first ones
unfoldable pub most_shown : ℕ
most_shown = 10000

-- these races are no more than are shown: so each is
abbrev pub are_all_shown : List Race → Bool
are_all_shown rs = nat_le (length rs) most_shown

-- how many races there are, or that there are more than are shown
unfoldable pub count_line : ℕ → List ℕ
count_line n =
    if nat_le n most_shown then codes "races " ++ (decimal n ++ codes "\n")
    else codes "races " ++ (decimal most_shown ++ codes " and more\n")

-- Of which runs it holds: where there is no race, this one speaks for all (`one_speaks_for_all` of `xk_law_races`).
abbrev pub scope_line : List Race → Option Gap → List ℕ
scope_line [] None = codes "every schedule prints these numbers in this order\n"
scope_line [] (Some g) = codes "every schedule prints these numbers\n"
scope_line (r ∷ rs) g = codes "of this run alone\n"

-- what is told behind the races: how many there are, where there is none whether the prints are in one order, and of which runs it holds
abbrev pub closing_text : PlacesValue → List Race → Option Gap → List ℕ
closing_text p rs g = (count_line (length rs) ++ print_line_if_free p rs g) ++ scope_line rs g

abbrev pub text_by : PlacesValue → List Race → Option Gap → List ℕ
text_by p rs g = flat_map (race_line p) (take most_shown rs) ++ closing_text p rs g

-- what is told of the run that a log stands for
abbrev pub races_text : PlacesValue → ModuleValue → List ℤ → List Entry → List ℕ
races_text p m args log = text_by p (races_in (sights_of_run m args log)) (gap_in (sights_of_run m args log))

-- ---- where there are more races than are shown

-- The same is told of these races as of all: they are as many as are shown, and one more, if there are so many.
abbrev pub AreEnough : List Race → List Race → Type 0
AreEnough rs all = take (suc most_shown) rs ≡ take (suc most_shown) all
