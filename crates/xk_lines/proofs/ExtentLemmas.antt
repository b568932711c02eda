-- The words of a line, read from where they stand.
use Rattle.std.proofs.Common.{◌≡◌, ℕ, ◌+◌, ◌-◌, ◌<◌, ◌≤◌, List, length, map, drop, Some, slice_get, option_map, get_or, refl, sym, ap, ◌∙◌, arith}
use Rattle.std.specs.Prelude.{slice_range}
use Rattle.std.specs.List.{prefix_len}
use Rattle.std.proofs.lemmas.List.{length-drop, length-map}
use Rattle.std.proofs.lemmas.Option.{same_Some, slice_get-map, slice_get_read, slice_get_within}
use Rattle.xk_lines.specs.declared.lines.Extent.{Extent}
use Rattle.xk_lines.specs.Extents.{StandsIn, extent_of}
use Rattle.xk_lines.specs.Lines.{first_line, is_blank, line_start, line_starts, words_at}
use Rattle.xk_lines.proofs.Fronts.{blanks_inside, line_inside, words_are}

-- as many extents as lines
extent_there : (text : List ℕ) (extents : List Extent) (k start : ℕ) → extents ≡ map (extent_of text) (line_starts text)
    → slice_get (line_starts text) k ≡ Some start → k < length extents
extent_there text extents k start are listed =
    let within = slice_get_within (line_starts text) k start listed in
    let len = ap length are ∙ length-map (line_starts text) (extent_of text) in omega (arith, within, len)

pub extent_read : (text : List ℕ) (extents : List Extent) (k start : ℕ) (e : Extent) → extents ≡ map (extent_of text) (line_starts text)
    → slice_get (line_starts text) k ≡ Some start → e ≡ get_or extents k e → e ≡ extent_of text start
extent_read text extents k start e are listed read =
    same_Some e (extent_of text start)
    (sym (slice_get_read extents (length extents) k e refl (extent_there text extents k start are listed) read)
    ∙ ap (λ l. slice_get l k) are ∙ slice_get-map (extent_of text) (line_starts text) k ∙ ap (option_map (extent_of text)) listed)

-- they stand in the text
pub stands_in : (text : List ℕ) (start : ℕ) (e : Extent) → start ≤ length text → e ≡ extent_of text start → StandsIn text e
stands_in text start e within is =
    let rest = drop start text in
    let blanks = blanks_inside rest in
    let line = line_inside rest in
    let len = length-drop start text in
    let words_is : e.words ≡ start + prefix_len is_blank rest = ap (λ (x : Extent). x.words) is in
    let end_is : e.end ≡ start + length (first_line rest) = ap (λ (x : Extent). x.end) is in
    record { order = omega (arith, blanks, words_is, end_is); inside = omega (arith, line, len, end_is, within) }

pub words_read : (text : List ℕ) (at start : ℕ) (e : Extent) → start ≡ line_start text at → e ≡ extent_of text start → slice_range text e.words e.end ≡ words_at text at
words_read text at start e begins is = ap (λ (x : Extent). slice_range text x.words x.end) is ∙ words_are text at start begins
