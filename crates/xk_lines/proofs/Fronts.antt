-- The first line of a text, and where lines begin, byte by byte.
use Rattle.std.proofs.Common.{◌≡◌, ℕ, suc, ◌+◌, ◌-◌, ◌<◌, ◌≤◌, ◌&&◌, eqb, cond, true, false, List, [], ◌∷◌, length, take, drop, inl, inr, refl, ap, sym, ◌∙◌, arith}
use Rattle.std.specs.Prelude.{slice_range}
use Rattle.std.specs.List.{prefix_len}
use Rattle.std.proofs.lemmas.Bool.{and_parts, cond_both, cond-true, eqb-true, or_cases}
use Rattle.std.proofs.lemmas.List.{drop-drop, drop-take}
use Rattle.std.proofs.lemmas.List.Sums.{prefix_len-le-length}
use Rattle.xk_lines.specs.Lines.{ends_line, first_line, is_blank, line_start, words_at}

-- the first line is at the front
first_line_front : (text : List ℕ) → first_line text ≡ take (length (first_line text)) text
first_line_front [] = refl
first_line_front (b ∷ bs) =
    cond_both (ends_line (b ∷ bs)) [] (b ∷ first_line bs) (λ l. l ≡ take (length l) (b ∷ bs)) (λ yes. refl)
    (λ no. ap (λ l. b ∷ l) (first_line_front bs))

-- nothing is before an end
pub first_line_ended : (text : List ℕ) → ends_line text ≡ true → first_line text ≡ []
first_line_ended [] h = refl
first_line_ended (b ∷ bs) h = cond-true (ends_line (b ∷ bs)) [] (b ∷ first_line bs) h

-- so many bytes are it, if no line begins behind them
pub first_line_is : (text rest : List ℕ) (n : ℕ) → n + length (first_line rest) ≡ length (first_line text) → first_line rest ≡ [] → take n text ≡ first_line text
first_line_is text rest n so_far none =
    let all : n ≡ length (first_line text) = let zero = ap length none in omega (arith, so_far, zero) in
    ap (λ k. take k text) all ∙ sym (first_line_front text)

pub first_line_at_end : (text : List ℕ) → length text < 1 → first_line text ≡ []
first_line_at_end [] h = refl
first_line_at_end (b ∷ bs) h = absurd (omega (arith, h))

-- ---- the words of a line

feed_no_blank : (b n : ℕ) → b ≡ n → is_blank n ≡ false → is_blank b ≡ false
feed_no_blank b n e isnt = ap is_blank e ∙ isnt

no_blank : (b : ℕ) (bs : List ℕ) → ends_line (b ∷ bs) ≡ true → is_blank b ≡ false
no_blank b [] h = feed_no_blank b 10 (eqb-true b 10 h) refl
no_blank b (c ∷ cs) h = elim (or_cases (eqb b 10) (eqb b 13 && eqb c 10) h) [
  | inl feed ↦ feed_no_blank b 10 (eqb-true b 10 feed) refl
  | inr both ↦ feed_no_blank b 13 (eqb-true b 13 (and_parts (eqb b 13) (eqb c 10) both).0) refl
]

-- a line begins with as many blanks as the text from there on
blanks_same : (text : List ℕ) → prefix_len is_blank (first_line text) ≡ prefix_len is_blank text
blanks_same [] = refl
blanks_same (b ∷ bs) =
    cond_both (ends_line (b ∷ bs)) [] (b ∷ first_line bs) (λ l. prefix_len is_blank l ≡ prefix_len is_blank (b ∷ bs))
    (λ yes. sym (ap (λ c. let k : ℕ = cond c (1 + prefix_len is_blank bs) 0 in k) (no_blank b bs yes)))
    (λ no. ap (λ n. let k : ℕ = cond (is_blank b) (1 + n) 0 in k) (blanks_same bs))

-- the blanks of a line stand in it
pub blanks_inside : (text : List ℕ) → prefix_len is_blank text ≤ length (first_line text)
blanks_inside text =
    let le = prefix_len-le-length is_blank (first_line text) in
    let same = blanks_same text in omega (arith, le, same)

pub line_inside : (text : List ℕ) → length (first_line text) ≤ length text
line_inside [] = omega arith
line_inside (b ∷ bs) =
    cond_both (ends_line (b ∷ bs)) [] (b ∷ first_line bs) (λ l. length l ≤ length (b ∷ bs)) (λ yes. omega arith)
    (λ no. let rest = line_inside bs in omega (arith, rest))

-- what stands from behind the blanks up to the line's end
pub words_are : (text : List ℕ) (at start : ℕ) → start ≡ line_start text at
    → slice_range text (start + prefix_len is_blank (drop start text)) (start + length (first_line (drop start text))) ≡ words_at text at
words_are text at start e =
    let t = drop start text in
    let p = prefix_len is_blank t in
    let n = length (first_line t) in
    let le = blanks_inside t in
    let len : start + n - (start + p) ≡ n - p = omega (arith, le) in
    let sum : p + (n - p) ≡ n = omega (arith, le) in
    ap (λ k. take k (drop (start + p) text)) len
    ∙ ap (λ l. take (n - p) l) (sym (drop-drop p start text))
    ∙ sym (drop-take p (n - p) t)
    ∙ ap (λ k. drop p (take k t)) sum
    ∙ ap (drop p) (sym (first_line_front t))
    ∙ ap (λ k. drop k (first_line t)) (sym (blanks_same t))
    ∙ ap (λ s. let line = first_line (drop s text) in drop (prefix_len is_blank line) line) e
