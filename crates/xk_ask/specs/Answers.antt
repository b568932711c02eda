-- Answers: the lines of a text, and whom each names. This project's own.
use Rattle.std.specs.Prelude.{◌≡◌, ℕ, zero, suc, ◌-◌, ◌^◌, ◌==◌, nat_lt, Bool, ◌||◌, List, [], ◌∷◌, ◌++◌, map, take, Option, Some, None, IfSome, if◌then◌else◌}
use Rattle.std.specs.Char.{is_ascii_digit}
use Rattle.std.specs.Io.BufRead.{drop_through}
use Rattle.xk_log.specs.Numbers.{with_digit}

-- ---- lines

-- the lines of a text, where these bytes stand before it; a line is ended by a line feed, and what stands behind the last is none
abbrev pub lines_from : List ℕ → List ℕ → List (List ℕ)
lines_from line [] = []
lines_from line (b ∷ bs) = if b == 10 then line ∷ lines_from [] bs else lines_from (line ++ b ∷ []) bs

abbrev pub lines_of : List ℕ → List (List ℕ)
lines_of text = lines_from [] text

-- what stands behind so many lines of a text
abbrev pub behind_lines : ℕ → List ℕ → List ℕ
behind_lines zero text = text
behind_lines (suc n) text = behind_lines n (drop_through 10 text)

-- ---- numbers

-- blanks are spaces, tabs and carriage returns
abbrev pub is_blank : ℕ → Bool
is_blank b = (b == 32) || ((b == 9) || (b == 13))

-- behind a number nothing but blanks may stand
abbrev pub blank_behind : ℕ → List ℕ → Option ℕ
blank_behind n [] = Some n
blank_behind n (b ∷ bs) = if is_blank b then blank_behind n bs else None

-- the number that goes on with these bytes, if it is of 32 bits
abbrev pub number_on : ℕ → List ℕ → Option ℕ
number_on n [] = Some n
number_on n (b ∷ bs) =
    if is_ascii_digit b then (if nat_lt (with_digit n b) (2 ^ 32) then number_on (with_digit n b) bs else None)
    else blank_behind n (b ∷ bs)

-- The number of an activity in decimal, with blanks before it and behind it, if the line is one of 32 bits.
abbrev pub named : List ℕ → Option ℕ
named [] = None
named (b ∷ bs) = if is_blank b then named bs else (if is_ascii_digit b then number_on (b - 48) bs else None)

-- ---- answers

-- whom each line of a text names
abbrev pub answers : List ℕ → List (Option ℕ)
answers text = map named (lines_of text)

-- How many bytes of an input are read at most: it may have no end, and a run by hand comes to one all the same.
abbrev pub most_bytes : ℕ
most_bytes = 2 ^ 64 - 1

-- whom each line names of a text that is read
abbrev pub answers_read : List ℕ → List (Option ℕ)
answers_read text = answers (take most_bytes text)

-- these are the answers in the input, where its bytes are known
abbrev pub AreAnswers : Option (List ℕ) → List (Option ℕ) → Type 0
AreAnswers input xs = IfSome input (λ bytes. xs ≡ answers_read bytes)
