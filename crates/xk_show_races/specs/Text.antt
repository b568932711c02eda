-- What is told of the races of a run of a source text's module: by the names of shared numbers, by the lines of the text, and with what
-- was read and written in this run. This project's own.
use Rattle.std.specs.Prelude.{◌≡◌, ℕ, ℤ, min, nat_eq, List, [], ◌++◌, length, take, flat_map, Option, Some, None, slice_get, codes, decimal}
use Rattle.std.specs.List.{find}
use Rattle.xk_types.specs.declared.world.Entry.{Entry}
use Rattle.xk_types.specs.Code.{ModuleValue}
use Rattle.xk_lines.specs.Excerpts.{excerpt}
use Rattle.xk_unit_origins.specs.UnitOrigins.{offsets_at}
use Rattle.xk_show_events.specs.declared.steps.RunStep.{RunStep}
use Rattle.xk_show_events.specs.Events.{PlacesValue, origin_of, place_words}
use Rattle.xk_show_names.specs.declared.accounts.Account.{Account}
use Rattle.xk_show_names.specs.Accounts.{seen_accounts}
use Rattle.xk_show_names.specs.ClockNames.{NamesValue, names_by}
use Rattle.xk_show_names.specs.Events.{account_words, subject_word}
use Rattle.xk_races.specs.declared.pairs.Race.{Race}
use Rattle.xk_races.specs.Races.{gap_in, races_in, sights_of_run}
use Rattle.xk_races.specs.Text.{closing_text, most_shown}

-- ---- an access

-- `step 15 act 2 at 7:5 write total 3`: the line that `events` has of it, without the step that wrote what is read
unfoldable pub access_line : PlacesValue → NamesValue → Account → List ℕ
access_line p n a =
    codes "step " ++ (decimal a.step.number ++ (codes " act " ++ (decimal a.step.act
    ++ (codes " " ++ (place_words a.step.unit a.step.place (origin_of p a.step.unit a.step.place)
    ++ (codes " " ++ (account_words n a ++ codes "\n")))))))

-- the line of the text that stands at an offset, with a caret below it, no further than where the text ends
abbrev pub excerpt_by : List ℕ → Option ℕ → List ℕ
excerpt_by text None = []
excerpt_by text (Some at) = excerpt text (min at (length text)) 1 ++ codes "\n"

-- the one that an instruction comes from, if the origins say it
abbrev pub excerpt_at : PlacesValue → ℕ → ℕ → List ℕ
excerpt_at p unit place = excerpt_by p.text (slice_get (offsets_at p.origins unit) place)

abbrev pub access_lines : PlacesValue → NamesValue → Account → List ℕ
access_lines p n a = access_line p n a ++ excerpt_at p a.step.unit a.step.place

-- ---- a race

-- `race on total`
unfoldable pub head_line : NamesValue → Account → List ℕ
head_line n a = codes "race on " ++ (subject_word n a.subject ++ codes "\n")

-- which shared number two steps raced for, and both
abbrev pub pair_lines : PlacesValue → NamesValue → Option Account → Option Account → List ℕ
pair_lines p n None second = []
pair_lines p n (Some a) None = []
pair_lines p n (Some a) (Some b) = head_line n a ++ (access_lines p n a ++ access_lines p n b)

-- which of these steps has a number
abbrev pub account_of : List Account → ℕ → Option Account
account_of steps n = find (λ a. nat_eq n a.step.number) steps

-- of a race among these steps
abbrev pub race_lines : PlacesValue → NamesValue → List Account → Race → List ℕ
race_lines p n steps r = pair_lines p n (account_of steps r.first.number) (account_of steps r.second.number)

-- ---- the text

-- What is told of the run that a log stands for, where shared numbers have these names (no race is on a clock, so clocks have none here):
-- the first races, and behind them what is told of a module's.
abbrev pub named_races_text : PlacesValue → List (List ℕ) → ModuleValue → List ℤ → List Entry → List ℕ
named_races_text p shared m args log =
    flat_map (race_lines p (names_by p shared []) (seen_accounts m args log)) (take most_shown (races_in (sights_of_run m args log)))
    ++ closing_text p (races_in (sights_of_run m args log)) (gap_in (sights_of_run m args log))

-- ---- what holds of it

-- the step is found by its number among these
abbrev pub IsFoundAs : List Account → RunStep → Type 0
IsFoundAs steps s = (a : Account) × (account_of steps s.number ≡ Some a) × (a.step ≡ s)

-- both accesses of a race are
abbrev pub AreFound : List Account → Race → Type 0
AreFound steps r = IsFoundAs steps r.first × IsFoundAs steps r.second

-- Each race of the run that a log stands for has its lines: both of its accesses are found among the steps that others see.
abbrev pub HasItsLines : ModuleValue → List ℤ → List Entry → Type 0
HasItsLines m args log = (i : ℕ) (r : Race) → slice_get (races_in (sights_of_run m args log)) i ≡ Some r → AreFound (seen_accounts m args log) r
