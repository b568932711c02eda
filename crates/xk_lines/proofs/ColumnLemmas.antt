-- Columns, stretch by stretch.
use Rattle.std.proofs.Common.{◌≡◌, ℕ, ◌+◌, ◌-◌, ◌*◌, ◌/◌, ◌<◌, ◌≤◌, min, List, [], ◌∷◌, ◌++◌, length, take, drop, ap, sym, ◌∙◌, arith, inl, inr, cond, slice_index, get_or}
use Rattle.std.specs.Prelude.{slice_range}
use Rattle.std.proofs.lemmas.Bool.{cases_lt}
use Rattle.std.proofs.lemmas.List.{length-append, length-drop, length-take, take_all, take_rest}
use Rattle.std.proofs.Math.ListN.{get_or-append}
use Rattle.std.proofs.Math.Seq.{get_or-append_seam}
use Rattle.std.proofs.Math.Seq.{take-add}
use Rattle.std.proofs.lemmas.List.Sums.{sum_by-append, count_by-le-length}
use Rattle.xk_lines.specs.Columns.{AreMarks}
use Rattle.xk_lines.specs.Lines.{begins_column, columns}
use Rattle.xk_lines.proofs.Starts.{read_at}

-- the first bytes, and so many more
columns_add : (text : List ℕ) (n m : ℕ) → columns (take (n + m) text) ≡ columns (take n text) + columns (take m (drop n text))
columns_add text n m =
    ap columns (take-add n m text) ∙ sum_by-append (λ b. cond (begins_column b) 1 0) (take n text) (take m (drop n text))

-- up to an offset, and from there to another
pub columns_between : (text : List ℕ) (from to : ℕ) → from ≤ to → columns (take to text) ≡ columns (take from text) + columns (slice_range text from to)
columns_between text from to h =
    let all : from + (to - from) ≡ to = omega (arith, h) in
    ap (λ k. columns (take k text)) (sym all) ∙ columns_add text from (to - from)

-- no more columns than bytes
pub columns_few : (text : List ℕ) (n : ℕ) → columns (take n text) ≤ n
columns_few text n =
    let few = count_by-le-length begins_column (take n text) in
    let len = length-take n text in omega (arith, few, len)

-- what is told at a mark, and what stands behind it
pub before_is : (text marks : List ℕ) (at mark told more : ℕ) → AreMarks text marks → at ≤ length text → mark ≡ at / 64 → told ≡ get_or marks mark told
    → more ≡ columns (slice_range text (mark * 64) at) → told + more ≡ columns (take at text)
before_is text marks at mark told more are within is read counted =
    let enough = are.enough in
    let there : mark < length marks = omega (arith, enough, within, is) in
    let known : told ≡ columns (take (mark * 64) text) = read_at marks mark told read there ∙ are.each mark there in
    let all = columns_between text (mark * 64) at (omega (arith, is)) in
    omega (arith, known, counted, all)

-- what stands from a mark up to the next one
pub stretch_is : (text : List ℕ) (from size : ℕ) → from ≤ length text → size ≡ min (length text - from) 64
    → take size (take (length text - from) (drop from text)) ≡ take 64 (drop from text)
stretch_is text from size within is =
    let rest = drop from text in
    let len = length-drop from text in
    ap (take size) (take_rest text from) ∙ elim (cases_lt (length rest) 64) [
      | inl short ↦ take_all size rest (omega (arith, is, len, short)) ∙ sym (take_all 64 rest (omega (arith, short)))
      | inr long ↦ let all : size ≡ 64 = omega (arith, is, len, long) in ap (λ n. take n rest) all
    ]

-- one mark more
pub marks_more : (text marks more : List ℕ) (k seen : ℕ) → more ≡ marks ++ seen ∷ [] → length marks ≡ k
    → ((j : ℕ) → j < k → slice_index marks j ≡ columns (take (j * 64) text)) → seen ≡ columns (take (k * 64) text)
    → (j : ℕ) → j < k + 1 → slice_index more j ≡ columns (take (j * 64) text)
marks_more text marks more k seen pushed long each is j inside = elim (cases_lt j k) [
  | inl before ↦ ap (λ l. slice_index l j) pushed ∙ get_or-append marks (seen ∷ []) 0 j (omega (arith, before, long)) ∙ each j before
  | inr last ↦
      let same : length marks ≡ j = omega (arith, inside, last, long) in
      let here : k ≡ j = omega (arith, inside, last) in
      ap (λ l. slice_index l j) pushed ∙ ap (λ n. slice_index (marks ++ seen ∷ []) n) (sym same) ∙ get_or-append_seam marks seen [] 0
      ∙ is ∙ ap (λ n. columns (take (n * 64) text)) here
]

pub one_longer : (marks more : List ℕ) (k seen : ℕ) → more ≡ marks ++ seen ∷ [] → length marks ≡ k → length more ≡ k + 1
one_longer marks more k seen pushed long = let len = ap length pushed ∙ length-append marks (seen ∷ []) in omega (arith, len, long)

-- the columns before the next mark
pub seen_more : (text : List ℕ) (k seen more : ℕ) → seen ≡ columns (take (k * 64) text) → more ≡ columns (take 64 (drop (k * 64) text))
    → seen + more ≡ columns (take ((k + 1) * 64) text)
seen_more text k seen more is counted =
    let next : (k + 1) * 64 ≡ k * 64 + 64 = omega arith in
    let all = columns_add text (k * 64) 64 in
    let there = ap (λ n. columns (take n text)) next in
    omega (arith, is, counted, all, there)
