-- A list of outcomes, as they are told, that others are held against. This project's own.
use Rattle.std.specs.Prelude.{◌≡◌, ℕ, ℤ, ◌+◌, ◌<◌, ◌&&◌, ◌||◌, ◌==◌, nat_eq, ◌⊎◌, ⊤, Bool, true, false, List, [], ◌∷◌}
use Rattle.std.specs.Prelude.{◌++◌, length, drop, Option, Some, None, option_and_then, slice_get, codes, decimal}
use Rattle.std.specs.Prelude.{if◌then◌else◌}
use Rattle.std.specs.Char.{is_ascii_digit}
use Rattle.std.specs.List.{filter_map, prefix_len, starts_with}
use Rattle.std.specs.Option.{option_map_or}
use Rattle.xk_outcomes.specs.declared.all_outcomes.Limit.{Limit}
use Rattle.xk_outcomes.specs.Limits.{GoesFar}
use Rattle.xk_outcome_lists.specs.declared.reading.ListFault.{ListFault}
use Rattle.xk_outcome_lists.specs.declared.reading.ListFault.TheVariants as fault
use Rattle.xk_outcomes.specs.declared.listing.Outcome.{Outcome}
use Rattle.xk_outcome_lists.specs.declared.holding.Verdict.{Verdict}
use Rattle.xk_outcome_lists.specs.declared.holding.Verdict.TheVariants as verdict
use Rattle.xk_io.specs.Row.{numbers_text}
use Rattle.xk_types.specs.Code.{ModuleValue}
use Rattle.xk_outcomes.specs.LoneOutcomes.{IsOneOfManyAs}
use Rattle.xk_outcomes.specs.PlainRuns.{ArePlainListedAs}
use Rattle.xk_outcomes.specs.Sets.{AreAllAs, AreDistinctAs, AreShownAs}
use Rattle.xk_outcome_lists.specs.Text.{completeness, outcome_line}

-- ---- lines

abbrev pub line_feed : ℕ
line_feed = 10

abbrev pub blank : ℕ
blank = 32

abbrev pub minus : ℕ
minus = 45

-- a byte before the first line
abbrev pub in_first : ℕ → List (List ℕ) → List (List ℕ)
in_first b [] = []
in_first b (line ∷ lines) = (b ∷ line) ∷ lines

-- what stands before, between and behind line feeds
abbrev pub lines_of : List ℕ → List (List ℕ)
lines_of [] = [] ∷ []
lines_of (b ∷ bytes) = if b == line_feed then [] ∷ lines_of bytes else in_first b (lines_of bytes)

-- ---- the line of an outcome: `outcome 2 prints 10 21`

-- what stands behind this beginning
abbrev pub behind : List ℕ → List ℕ → Option (List ℕ)
behind beginning text = if starts_with nat_eq text beginning then Some (drop (length beginning) text) else None

-- what stands behind digits, of which there is one at least
abbrev pub behind_digits : List ℕ → Option (List ℕ)
behind_digits text = let n = prefix_len is_ascii_digit text in if n == 0 then None else Some (drop n text)

-- what stands behind `outcome K prints`, whatever number K is
abbrev pub told_in : List ℕ → Option (List ℕ)
told_in line = option_and_then (behind (codes " prints")) (option_and_then behind_digits (behind (codes "outcome ") line))

-- which byte may stand behind which in numbers: a digit behind any, a blank behind a digit, and a minus behind a blank
abbrev pub may_follow : ℕ → ℕ → Bool
may_follow before b = is_ascii_digit b || (((b == blank) && is_ascii_digit before) || ((b == minus) && (before == blank)))

-- so it is of each byte here, the first of which stands behind that one, and the last is a digit
abbrev pub are_digits_behind : ℕ → List ℕ → Bool
are_digits_behind before [] = is_ascii_digit before
are_digits_behind before (b ∷ bytes) = may_follow before b && are_digits_behind b bytes

-- numbers, each behind a blank: digits, before which a minus may stand
abbrev pub are_numbers : List ℕ → Bool
are_numbers [] = true
are_numbers (b ∷ bytes) = (b == blank) && are_digits_behind b bytes

-- ---- a list

-- a line that is passed over: an empty one, and the last line of outcomes, as `outcomes 6 complete`
abbrev pub is_passed_over : List ℕ → Bool
is_passed_over line = (length line == 0) || starts_with nat_eq line (codes "outcomes ")

-- a line that may stand in a list
abbrev pub may_stand : List ℕ → Bool
may_stand line = option_map_or are_numbers (told_in line) (is_passed_over line)

-- the number of the first line that may not, where the first one has this number
abbrev pub stray_from : ℕ → List (List ℕ) → Option ℕ
stray_from number [] = None
stray_from number (line ∷ lines) = if may_stand line then stray_from (number + 1) lines else Some number

-- the same, counted from 1
abbrev pub stray_line : List ℕ → Option ℕ
stray_line text = stray_from 1 (lines_of text)

-- what stands against a line of this number; of want of memory nothing is claimed
abbrev pub IsStray : ℕ → List ℕ → ListFault → Type 0
IsStray number line (fault.Stray n) = (n ≡ number) × (may_stand line ≡ false)
IsStray number line fault.OutOfMemory = ⊤

-- what stands against a list
abbrev pub IsStrayIn : List ℕ → ListFault → Type 0
IsStrayIn text (fault.Stray n) = stray_line text ≡ Some n
IsStrayIn text fault.OutOfMemory = ⊤

-- what a list tells: what stands behind `outcome K prints` in its lines
abbrev pub told_by : List ℕ → List (List ℕ)
told_by text = filter_map told_in (lines_of text)

-- ---- outcomes that are held against what is told

-- these numbers are told
abbrev pub IsTold : List (List ℕ) → List ℤ → Type 0
IsTold told numbers = (k : ℕ) × (slice_get told k ≡ Some (numbers_text numbers))

-- those of the outcomes before this place are
abbrev pub AreTold : List (List ℕ) → List Outcome → ℕ → Type 0
AreTold told list place = (k : ℕ) → k < place → (x : Outcome) → slice_get list k ≡ Some x → IsTold told x.numbers.items

-- the outcome at this place is the first whose numbers aren't told
pub record IsFirstUntold (told : List (List ℕ)) (list : List Outcome) (place : ℕ) (x : Outcome) : Type 0 where
  pub there : slice_get list place ≡ Some x
  pub untold : ¬ IsTold told x.numbers.items
  pub before : AreTold told list place

-- the first outcome that isn't told has this line, numbered from 1, and refutes the list
abbrev pub TellsUntold : List (List ℕ) → List Outcome → List ℕ → Verdict → Type 0
TellsUntold told list text found =
    (place : ℕ) × (x : Outcome) × IsFirstUntold told list place x × (text ≡ outcome_line (place + 1) x.numbers.items) × (found ≡ verdict.Refuted)

-- the last line of outcomes: how many they are, and whether they are all
abbrev pub last_line : List Outcome → Bool → List ℕ
last_line list complete = codes "outcomes " ++ (decimal (length list) ++ completeness complete)

-- where each outcome that was found is told: the list has all where these are all, and else nothing is decided
abbrev pub verdict_of : Bool → Verdict
verdict_of true = verdict.Complete
verdict_of false = verdict.Undecided

-- all outcomes are told, and this is their last line
abbrev pub TellsAll : List (List ℕ) → List Outcome → Bool → List ℕ → Verdict → Type 0
TellsAll told list complete text found = AreTold told list (length list) × (text ≡ last_line list complete) × (found ≡ verdict_of complete)

-- what is said of outcomes that are held against what is told
abbrev pub AreHeld : List (List ℕ) → List Outcome → Bool → List ℕ → Verdict → Type 0
AreHeld told list complete text found = TellsUntold told list text found ⊎ TellsAll told list complete text found

abbrev pub is_refuted : Verdict → Bool
is_refuted verdict.Refuted = true
is_refuted verdict.Complete = false
is_refuted verdict.Undecided = false

-- What a module can print that is given these arguments, as lists of numbers or without their order, is held against the list in these bytes: the text
-- tells the first outcome that isn't in it, which refutes it, or whether they are all. They are looked for up to this limit, but where the list
-- is refuted: the first outcome that isn't in it ends the search.
pub record AreExpected (m : ModuleValue) (args : List ℤ) (sets : Bool) (limit : Limit) (bytes text : List ℕ) (found : Verdict) : Type 0 where
  pub list : List Outcome
  pub complete : Bool
  pub shown : AreShownAs sets m args list
  pub distinct : AreDistinctAs sets list
  pub all : complete ≡ true → AreAllAs sets m args list
  pub lone : complete ≡ false → IsOneOfManyAs sets m args
  pub plain : complete ≡ false → ArePlainListedAs sets m args list
  pub far : is_refuted found ≡ false → GoesFar m args sets limit list complete
  pub may_stand : stray_line bytes ≡ None
  pub held : AreHeld (told_by bytes) list complete text found
