-- Where the words of lines stand. This project's own.
use Rattle.std.specs.Prelude.{ℕ, ◌+◌, ◌≤◌, List, length, drop}
use Rattle.std.specs.List.{prefix_len}
use Rattle.xk_lines.specs.declared.lines.Extent.{Extent}
use Rattle.xk_lines.specs.Lines.{first_line, is_blank}

-- of a line that begins at an offset: from behind its blanks up to its end
abbrev pub extent_of : List ℕ → ℕ → Extent
extent_of text start = record {
  words = start + prefix_len is_blank (drop start text);
  end = start + length (first_line (drop start text));
}

-- it stands in a text
pub record StandsIn (text : List ℕ) (e : Extent) : Type 0 where
  pub order : e.words ≤ e.end
  pub inside : e.end ≤ length text
