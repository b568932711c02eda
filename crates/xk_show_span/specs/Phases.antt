-- Who came last at each phase of a clock, and by how much earlier the others were. This project's own.
use Rattle.std.specs.Prelude.{ℕ, suc, ◌+◌, ◌-◌, nat_eq, nat_lt, max, Bool, true, false, not, ◌&&◌, List, [], ◌∷◌, ◌++◌, length, take}
use Rattle.std.specs.Prelude.{flat_map, codes, decimal, if◌then◌else◌}
use Rattle.xk_show_events.specs.Events.{PlacesValue}
use Rattle.xk_races.specs.declared.deeds.Deed.{Deed}
use Rattle.xk_races.specs.declared.deeds.Part.{Part}
use Rattle.xk_races.specs.declared.deeds.Part.TheVariants as part
use Rattle.xk_races.specs.Lists.{number_at}
use Rattle.xk_show_span.specs.declared.phases.Arrival.{Arrival}
use Rattle.xk_span_summary.specs.Counts.{counted}
use Rattle.xk_show_span.specs.Spots.{spot}

-- ---- who came

-- a deed by which a clock ceased to await an activity; `left` of one who leaves behind a resume: the next advance but one waits for that
abbrev pub arrival : Bool → ℕ → Deed → ℕ → Arrival
arrival left c d round = record { clock = c; left = left; step = d.step; round = round }

-- with what a deed in a round is at its clock
abbrev pub came : Part → Deed → ℕ → List Arrival → List Arrival
came (part.Signal c) d round list = list ++ arrival false c d round ∷ []
came (part.Leave c) d round list = list ++ arrival true c d round ∷ []
came p d round list = list

-- the advance of clock c waited for this one
abbrev pub if_awaited : ℕ → Arrival → List Arrival
if_awaited c a = if nat_eq a.clock c && not a.left then a ∷ [] else []

-- what is left of it behind that
abbrev pub staying : Arrival → List Arrival
staying a = if a.left then record { clock = a.clock; left = false; step = a.step; round = a.round } ∷ [] else []

abbrev pub if_staying : ℕ → Arrival → List Arrival
if_staying c a = if nat_eq a.clock c then staying a else a ∷ []

-- ---- a line

-- the last round of these, and of one before them
abbrev pub last_round : ℕ → List Arrival → ℕ
last_round n [] = n
last_round n (a ∷ list) = last_round (max n a.round) list

abbrev pub if_last : ℕ → Arrival → List Arrival
if_last round a = if nat_eq a.round round then a ∷ [] else []

abbrev pub if_earlier : ℕ → Arrival → List Arrival
if_earlier round a = if nat_lt a.round round then a ∷ [] else []

-- `, last act 3 at 11:17`
unfoldable pub last_words : PlacesValue → Arrival → List ℕ
last_words p a = codes ", last act " ++ (decimal a.step.act ++ (codes " at " ++ spot p a.step))

-- `; act 0 earlier by 33`
unfoldable pub earlier_words : ℕ → Arrival → List ℕ
earlier_words round a = codes "; act " ++ (decimal a.step.act ++ (codes " earlier by " ++ decimal (round - a.round)))

-- how many aren't shown
abbrev pub more_of : ℕ → List ℕ
more_of n = if nat_eq n 0 then [] else codes " and " ++ (decimal n ++ codes " more")

-- `clock 0 phase 1 round 43`
unfoldable pub phase_words : ℕ → ℕ → ℕ → List ℕ
phase_words c phase round =
    codes "clock " ++ (decimal c ++ (codes " phase " ++ (decimal phase ++ (codes " round " ++ decimal round))))

-- of the last and the earlier ones, at most eight each
abbrev pub phase_line_of : PlacesValue → ℕ → ℕ → ℕ → List Arrival → List Arrival → List ℕ
phase_line_of p c phase round lasts earlier =
    ((phase_words c phase round ++ (flat_map (last_words p) (take 8 lasts) ++ more_of (length lasts - 8)))
    ++ (flat_map (earlier_words round) (take 8 earlier) ++ more_of (length earlier - 8))) ++ codes "\n"

abbrev pub phase_line_in : PlacesValue → ℕ → ℕ → ℕ → List Arrival → List ℕ
phase_line_in p c phase round list =
    phase_line_of p c phase round (flat_map (if_last round) list) (flat_map (if_earlier round) list)

-- of those for whom the advance of clock c to this phase waited
abbrev pub phase_line : PlacesValue → ℕ → ℕ → List Arrival → List ℕ
phase_line p c phase list = phase_line_in p c phase (last_round 0 list) list

-- ---- all lines

-- so many phases are shown at most, the first ones
unfoldable pub most_phases : ℕ
most_phases = 40

abbrev pub phase_line_if_shown : PlacesValue → ℕ → ℕ → ℕ → List Arrival → List ℕ
phase_line_if_shown p n c phase list = if nat_lt n most_phases then phase_line p c phase list else []

-- what is known behind some deeds: how many advances there were, the phase of each clock, and who came
pub record Coming : Type 0 where
  pub advances : ℕ
  pub phases : List ℕ
  pub arrivals : List Arrival

abbrev pub nobody : Coming
nobody = record { advances = 0; phases = []; arrivals = [] }

abbrev pub advanced : ℕ → Coming → Coming
advanced c k = record {
  advances = k.advances + 1;
  phases = counted c k.phases;
  arrivals = flat_map (if_staying c) k.arrivals;
}

abbrev pub coming_with : Part → Deed → ℕ → Coming → Coming
coming_with (part.Advance c) d round k = advanced c k
coming_with p d round k = record { advances = k.advances; phases = k.phases; arrivals = came p d round k.arrivals }

-- of an advance its line
abbrev pub line_of : PlacesValue → Part → Coming → List ℕ
line_of p (part.Advance c) k =
    phase_line_if_shown p k.advances c (number_at k.phases c + 1) (flat_map (if_awaited c) k.arrivals)
line_of p other k = []

-- how many phases aren't shown
abbrev pub phases_more : ℕ → List ℕ
phases_more n = if nat_eq n 0 then [] else codes "and " ++ (decimal n ++ codes " phases more\n")

abbrev pub phases_from : PlacesValue → List ℕ → ℕ → Coming → List Deed → List ℕ
phases_from p times i k [] = phases_more (k.advances - most_phases)
phases_from p times i k (d ∷ ds) =
    line_of p d.part k ++ phases_from p times (suc i) (coming_with d.part d (number_at times i) k) ds

-- by the times of deeds
abbrev pub phases_text : PlacesValue → List ℕ → List Deed → List ℕ
phases_text p times ds = phases_from p times 0 nobody ds
