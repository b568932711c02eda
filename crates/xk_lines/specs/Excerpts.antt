-- A line with a caret under one of its places, its number before it. This project's own.
use Rattle.std.specs.Prelude.{ℕ, ◌+◌, ◌-◌, nat_lt, min, max, List, [], ◌∷◌, ◌++◌, length, take, drop, replicate, decimal, if◌then◌else◌}
use Rattle.xk_lines.specs.Lines.{columns, line_at, line_start, position_of}
use Rattle.xk_lines.specs.Signs.{signs, shown_signs}

-- ---- a window round the caret: of long lines no more is shown

-- how many signs are shown before the caret at most, and how many from it on
abbrev pub window : ℕ
window = 80

-- what stands for the others, where there are more of them
abbrev pub cut : ℕ → List ℕ
cut count = if nat_lt window count then 46 ∷ 46 ∷ [] else []

-- the last signs before the caret
abbrev pub shown_before : List (List ℕ) → List ℕ
shown_before ss = cut (length ss) ++ shown_signs (drop (length ss - window) ss)

-- the first signs from the caret on
abbrev pub shown_from : List (List ℕ) → List ℕ
shown_from ss = shown_signs (take window ss) ++ cut (length ss)

-- how many carets stand under the first signs that are marked: at least one
abbrev pub caret_count : ℕ → List (List ℕ) → ℕ
caret_count marked ss = max 1 (columns (shown_signs (take (min marked window) ss)))

-- ---- the three lines, for the line of this number

abbrev pub blanks : ℕ → List ℕ
blanks n = replicate n 32

-- as wide as ` 8 `
abbrev pub margin : ℕ → List ℕ
margin line = blanks (length (decimal line) + 2)

-- `   |`
abbrev pub rule_line : ℕ → List ℕ
rule_line line = margin line ++ (124 ∷ 10 ∷ [])

-- ` 8 | ` and what is shown of the line
abbrev pub text_line : ℕ → List ℕ → List ℕ
text_line line shown = (32 ∷ []) ++ decimal line ++ (32 ∷ 124 ∷ 32 ∷ []) ++ shown ++ (10 ∷ [])

-- `   | ` and the carets; no line feed is behind them
abbrev pub caret_line : ℕ → ℕ → ℕ → List ℕ
caret_line line indent carets = margin line ++ (124 ∷ 32 ∷ []) ++ blanks indent ++ replicate carets 94

-- these of the signs before a place and from it on, of which so many are marked
abbrev pub framed : ℕ → List (List ℕ) → List (List ℕ) → ℕ → List ℕ
framed line before from marked =
    rule_line line ++ text_line line (shown_before before ++ shown_from from)
    ++ caret_line line (columns (shown_before before)) (caret_count marked from)

-- the excerpt of the line of an offset, so many signs from the offset on being marked
abbrev pub excerpt : List ℕ → ℕ → ℕ → List ℕ
excerpt text at marked =
    let line = line_at text at in
    let k = at - line_start text at in
    framed (position_of text at).line (signs (take k line)) (signs (drop k line)) marked
