-- How many columns stand before the places of a text, at every 64th of them. This project's own.
use Rattle.std.specs.Prelude.{◌≡◌, ℕ, ◌*◌, ◌<◌, List, length, take, slice_index}
use Rattle.xk_lines.specs.Lines.{columns}

-- how far two marks are from one another
abbrev pub step : ℕ
step = 64

-- the list says how many columns the bytes before each mark take, up to the last mark in the text
pub record AreMarks (text marks : List ℕ) : Type 0 where
  pub enough : length text < length marks * step
  pub each : (k : ℕ) → k < length marks → slice_index marks k ≡ columns (take (k * step) text)
