-- The steps of a run of a source text's module, a line each, with the names of what they were about, and with values. This project's own.
use Rattle.std.specs.Prelude.{ℕ, nat_eq, ℤ, List, [], ◌++◌, length, take, Option, Some, None, slice_get, codes, decimal, if◌then◌else◌}
use Rattle.std.specs.Fmt.{signed_decimal}
use Rattle.std.specs.Option.{option_map_or}
use Rattle.std.specs.Str.Lossy.{utf8_lossy}
use Rattle.xk_types.specs.declared.world.Entry.{Entry}
use Rattle.xk_types.specs.declared.world.Event.{Event}
use Rattle.xk_types.specs.declared.world.Event.TheVariants as event
use Rattle.xk_types.specs.Code.{ModuleValue}
use Rattle.xk_show_names.specs.declared.accounts.Account.{Account}
use Rattle.xk_show_names.specs.declared.accounts.Subject.{Subject}
use Rattle.xk_show_names.specs.declared.accounts.Subject.TheVariants as subject
use Rattle.xk_show_events.specs.declared.steps.RunStep.{RunStep}
use Rattle.xk_show_names.specs.Accounts.{seen_accounts, writer_for}
use Rattle.xk_show_names.specs.ClockNames.{NamesValue, names_in_run}
use Rattle.xk_show_names.specs.Letters.{cut_name}
use Rattle.xk_show_events.specs.Events.{PlacesValue, event_words, origin_of, place_words}
use Rattle.xk_show_events.specs.Worlds.{each_below}

-- ---- names

-- a shared number by its name, or `shared 0`
unfoldable pub shared_word : NamesValue → ℕ → List ℕ
shared_word n s = option_map_or (λ name. utf8_lossy (cut_name name)) (slice_get n.shared s) (codes "shared " ++ decimal s)

-- a clock by its name, or `clock 0`
unfoldable pub clock_word : NamesValue → ℕ → List ℕ
clock_word n c = option_map_or utf8_lossy (slice_get n.clocks c) (codes "clock " ++ decimal c)

abbrev pub subject_word : NamesValue → Subject → List ℕ
subject_word n subject.Nothing = []
subject_word n (subject.Clock c) = clock_word n c
subject_word n (subject.Shared s) = shared_word n s

-- ---- what a step did

-- a number, after a blank
abbrev pub number_word : Option ℤ → List ℕ
number_word None = []
number_word (Some i) = codes " " ++ signed_decimal i

-- ` total 2`: what a step was about, and what the shared number was behind it
unfoldable pub value_words : NamesValue → Account → List ℕ
value_words n a = codes " " ++ (subject_word n a.subject ++ number_word a.after)

-- ` total 3 -> 8`: and what it was before
unfoldable pub change_words : NamesValue → Account → List ℕ
change_words n a = codes " " ++ (subject_word n a.subject ++ (number_word a.before ++ (codes " ->" ++ number_word a.after)))

-- what was made, resumed, dropped, read, written or added to, by its name; of any other step the words that a module's steps have
abbrev pub words_by : NamesValue → Account → Event → List ℕ
words_by n a event.Made = codes "make" ++ value_words n a
words_by n a event.Resumed = codes "resume" ++ value_words n a
words_by n a event.Dropped = codes "drop" ++ value_words n a
words_by n a event.Got = codes "read" ++ value_words n a
words_by n a event.Put = codes "write" ++ value_words n a
words_by n a event.Added = codes "add" ++ change_words n a
words_by n a _ = event_words a.step

-- `make c`, `arrive`, `print -5`, `read total 2`
abbrev pub account_words : NamesValue → Account → List ℕ
account_words n a = words_by n a a.step.event

-- ---- the text

-- `step 4 act 0 at 6:5`
unfoldable pub step_words : PlacesValue → RunStep → List ℕ
step_words p s = codes "step "
    ++ (decimal s.number ++ (codes " act " ++ (decimal s.act ++ (codes " " ++ place_words s.unit s.place (origin_of p s.unit s.place)))))

-- ` (step 3)`: which step wrote what is read
abbrev pub writer_words : ℕ → List ℕ
writer_words k = if nat_eq k 0 then codes " (opening)" else codes " (step " ++ (decimal k ++ codes ")")

abbrev pub source_by : ℕ → Event → List ℕ
source_by k event.Got = writer_words k
source_by k _ = []

-- `step 9 act 1 at 7:9 read total 2 (step 3)`, where step k wrote last what it is about
unfoldable pub account_line : PlacesValue → NamesValue → ℕ → Account → List ℕ
account_line p n k a = step_words p a.step ++ (codes " " ++ (account_words n a ++ (source_by k a.step.event ++ codes "\n")))

-- the line of step i of these
abbrev pub line_at : PlacesValue → NamesValue → List Account → ℕ → List ℕ
line_at p n steps i = option_map_or (λ a. account_line p n (writer_for (take i steps) a.subject) a) (slice_get steps i) []

-- a line for each of these steps
abbrev pub lines_of : PlacesValue → NamesValue → List Account → List ℕ
lines_of p n steps = each_below (line_at p n steps) (length steps)

-- A line for each step of a run that other activities can see, where shared numbers have these names, and clocks those that they were
-- made under.
abbrev pub named_events_text : PlacesValue → List (List ℕ) → ModuleValue → List ℤ → List Entry → List ℕ
named_events_text p shared m args log = lines_of p (names_in_run p shared m args log) (seen_accounts m args log)
