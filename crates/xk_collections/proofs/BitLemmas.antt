-- Bits of words.
use Rattle.std.specs.Int.{bit_at, w64, trailing_zeros, leading_zeros}
use Rattle.std.specs.Prelude.{slice_set, slice_index_or, bit_and}
use Rattle.std.proofs.Common.{◌≡◌, ℕ, zero, suc, ◌+◌, ◌-◌, ◌*◌, ◌/◌, ◌%◌, ◌^◌, ◌<◌, ◌≤◌, ◌≢◌, min, ◌⊎◌, inl, inr, Bool, true, false, List, length, Some, None, refl, sym, ap, subst, ◌∙◌, arith, nat_eq}
use Rattle.std.proofs.lemmas.Grind.{common_steps}
use Rattle.std.proofs.lemmas.List.{get_or-set_same, get_or-set_other}
use Rattle.std.proofs.lemmas.Nat.{and_le_l, leading_top}
use Rattle.std.proofs.lemmas.Nat.Bits.{bit_at_and, bit_at_mask_inside, bit_at_mask_below, ones_shl, bit_at-zero, bit_at-trailing_zeros, bit_at_set_same, bit_at_set_other, bit_at_clear_same, bit_at_clear_other, bit_at-lt, bit_at-suc, bit_at_above}
use Rattle.xk_collections.specs.BitWords.{has, with_bit, without_bit, IsNext, IsLast}

pub split : (a b : ℕ) → (a < b) ⊎ (b ≤ a)
split a b = grind arith

-- ---- bits as tests

is_one : (b : ℕ) → b ≡ 1 → nat_eq b 1 ≡ true
is_one b e = rw e refl

isnt_one : (b : ℕ) → b ≡ 0 → nat_eq b 1 ≡ false
isnt_one b e = rw e refl

-- the bit of word k at place j is the test of the number
pub has_at : (words : List ℕ) (k j : ℕ) → j < 64 → has words (k * 64 + j) ≡ nat_eq (bit_at (slice_index_or words k 0) j) 1
has_at words k j lt =
    let q : (k * 64 + j) / 64 ≡ k = omega arith in
    let r : (k * 64 + j) % 64 ≡ j = omega arith in
    rw (q, r) refl

-- no number of a word that is 0 is a member
pub none_of_zero : (words : List ℕ) (i : ℕ) → slice_index_or words (i / 64) 0 ≡ 0 → has words i ≡ false
none_of_zero words i e = isnt_one (bit_at (slice_index_or words (i / 64) 0) (i % 64)) (ap (λ w. bit_at w (i % 64)) e ∙ bit_at-zero (i % 64))

pub clash : (b : Bool) → b ≡ true → b ≡ false → ⊥
clash true p q = cc
clash false p q = cc

-- ---- the lowest bit from a place on

-- the word without its lowest k bits
abbrev pub rest : ℕ → ℕ → ℕ
rest w k = bit_and w ((2 ^ 64 - 1) * 2 ^ k % 2 ^ 64)

as_mask : (w k : ℕ) → k < 64 → rest w k ≡ bit_and w (2 ^ 64 - 2 ^ k)
as_mask w k lt = ap (bit_and w) (ones_shl 64 k (omega arith))

rest_high : (w k j : ℕ) → k < 64 → k ≤ j → j < 64 → bit_at (rest w k) j ≡ bit_at w j
rest_high w k j lt le jl =
    ap (λ x. bit_at x j) (as_mask w k lt)
    ∙ (bit_at_and w (2 ^ 64 - 2 ^ k) j ∙ (ap (min (bit_at w j)) (bit_at_mask_inside k 64 j le jl) ∙ one (bit_at w j) (bit_at-lt w j)))
  where
    one : (b : ℕ) → b < 2 → min b 1 ≡ b
    one b h = omega arith

rest_low : (w k j : ℕ) → k < 64 → j < k → bit_at (rest w k) j ≡ 0
rest_low w k j lt le =
    ap (λ x. bit_at x j) (as_mask w k lt) ∙ (bit_at_and w (2 ^ 64 - 2 ^ k) j ∙ (ap (min (bit_at w j)) (bit_at_mask_below k 64 j le) ∙ none (bit_at w j)))
  where
    none : (b : ℕ) → min b 0 ≡ 0
    none b = omega arith

none_from : (w k : ℕ) → k < 64 → rest w k ≡ 0 → (j : ℕ) → k ≤ j → j < 64 → bit_at w j ≡ 0
none_from w k lt e j le jl = sym (rest_high w k j lt le jl) ∙ (ap (λ x. bit_at x j) e ∙ bit_at-zero j)

record IsLowest (w k z : ℕ) : Type 0 where
  from : k ≤ z
  within : z < 64
  set : bit_at w z ≡ 1
  before : (j : ℕ) → k ≤ j → j < z → bit_at w j ≡ 0

lowest : (w k : ℕ) → k < 64 → rest w k < 2 ^ 64 → 0 < rest w k → IsLowest w k (trailing_zeros w64 (rest w k))
lowest w k lt fits some =
    let t = bit_at-trailing_zeros w64 (rest w k) some fits in
    let z = trailing_zeros w64 (rest w k) in
    let le : k ≤ z = above z t.1 in
    record {
      from = le;
      within = t.0;
      set = sym (rest_high w k z lt le t.0) ∙ t.1;
      before = λ j kj jz. sym (rest_high w k j lt kj (omega (arith, t.0, jz))) ∙ t.2 j jz;
    }
  where
    clashing : (x : ℕ) → x ≡ 1 → x ≡ 0 → ⊥
    clashing x p q = omega (arith, p, q)

    above : (z : ℕ) → bit_at (rest w k) z ≡ 1 → k ≤ z
    above z e = elim (split z k) [ inr le ↦ le | inl l ↦ absurd (clashing (bit_at (rest w k) z) e (rest_low w k z lt l)) ]

-- a number in the word of i
in_word : (words : List ℕ) (i j : ℕ) → i / 64 * 64 ≤ j → j < i / 64 * 64 + 64 → has words j ≡ nat_eq (bit_at (slice_index_or words (i / 64) 0) (j % 64)) 1
in_word words i j from to =
    let q : j / 64 ≡ i / 64 = omega arith in
    rw q refl

pub next_none : (words : List ℕ) (i : ℕ) → rest (slice_index_or words (i / 64) 0) (i % 64) ≡ 0 → IsNext (has words) i (i / 64 * 64 + 64) None
next_none words i e j from to =
    in_word words i j (omega arith) to
    ∙ isnt_one (bit_at (slice_index_or words (i / 64) 0) (j % 64)) (none_from (slice_index_or words (i / 64) 0) (i % 64) (omega arith) e (j % 64) (omega arith) (omega arith))

pub next_some : (words : List ℕ) (i : ℕ) → slice_index_or words (i / 64) 0 < 2 ^ 64 → 0 < rest (slice_index_or words (i / 64) 0) (i % 64)
    → IsNext (has words) i (i / 64 * 64 + 64) (Some (i / 64 * 64 + trailing_zeros w64 (rest (slice_index_or words (i / 64) 0) (i % 64))))
next_some words i fits some =
    let w = slice_index_or words (i / 64) 0 in
    let k = i % 64 in
    let low = lowest w k (omega arith) (omega (arith, and_le_l w ((2 ^ 64 - 1) * 2 ^ k % 2 ^ 64), fits)) some in
    let z = trailing_zeros w64 (rest w k) in (
      omega (arith, low.from),
      omega (arith, low.within),
      has_at words (i / 64) z low.within ∙ is_one (bit_at w z) low.set,
      λ j from to.
          in_word words i j (omega arith) (omega (arith, low.within, to))
          ∙ isnt_one (bit_at w (j % 64)) (low.before (j % 64) (omega arith) (omega (arith, low.within, to))),
    )

-- ---- the highest bit

top_bit : (j a : ℕ) → 2 ^ j ≤ a → a < 2 ^ suc j → bit_at a j ≡ 1
top_bit zero a from to = let e : a ≡ 1 = omega arith in rw e refl
top_bit (suc j) a from to = bit_at-suc a j ∙ top_bit j (a / 2) (omega arith) (omega arith)

pub last_some : (words : List ℕ) (k : ℕ) → slice_index_or words k 0 < 2 ^ 64 → 0 < slice_index_or words k 0
    → IsLast (has words) (k * 64) (k * 64 + 64) (Some (k * 64 + 63 - leading_zeros w64 (slice_index_or words k 0)))
last_some words k fits some =
    let w = slice_index_or words k 0 in
    let t = leading_top 64 w some fits in
    let at : k * 64 + 63 - leading_zeros w64 w ≡ k * 64 + t.0 = omega (arith, t.1) in
    subst (λ (r : ℕ). IsLast (has words) (k * 64) (k * 64 + 64) (Some r)) (sym at) (
      omega arith,
      omega (arith, t.1),
      has_at words k t.0 (omega (arith, t.1)) ∙ is_one (bit_at w t.0) (top_bit t.0 w t.2 t.3),
      λ j from to.
          let e : j ≡ k * 64 + (j - k * 64) = omega arith in
          ap (has words) e ∙ has_at words k (j - k * 64) (omega arith)
          ∙ isnt_one (bit_at w (j - k * 64)) (bit_at_above w (suc t.0) (j - k * 64) t.3 (omega arith)),
    )

-- ---- a bit set or cleared in one of many words

same_word : (ws : List ℕ) (i x : ℕ) → i / 64 < length ws → has (slice_set ws (i / 64) x) i ≡ nat_eq (bit_at x (i % 64)) 1
same_word ws i x lt = ap (λ y. nat_eq (bit_at y (i % 64)) 1) (get_or-set_same ws (i / 64) x 0 lt)

word_split : (i j : ℕ) → j ≢ i → (j / 64 ≢ i / 64) ⊎ ((j / 64 ≡ i / 64) × (j % 64 ≢ i % 64))
word_split i j ne = grind (arith, common_steps)

pub put_same : (ws : List ℕ) (i : ℕ) → i / 64 < length ws → has (with_bit ws i) i ≡ true
put_same ws i lt = same_word ws i _ lt ∙ is_one _ (bit_at_set_same w64 (slice_index_or ws (i / 64) 0) (i % 64) (omega arith))

changed_other : (ws : List ℕ) (i x : ℕ) → i / 64 < length ws → ((k : ℕ) → k < 64 → k ≢ i % 64 → bit_at x k ≡ bit_at (slice_index_or ws (i / 64) 0) k)
    → (j : ℕ) → j ≢ i → has (slice_set ws (i / 64) x) j ≡ has ws j
changed_other ws i x lt h j ne = elim (word_split i j ne) [
  | inl w ↦ ap (λ y. nat_eq (bit_at y (j % 64)) 1) (get_or-set_other ws (i / 64) (j / 64) x 0 w)
  | inr b ↦ ap (λ q. nat_eq (bit_at (slice_index_or (slice_set ws (i / 64) x) q 0) (j % 64)) 1) b.0
      ∙ (ap (λ y. nat_eq (bit_at y (j % 64)) 1) (get_or-set_same ws (i / 64) x 0 lt)
      ∙ (ap (λ y. nat_eq y 1) (h (j % 64) (omega arith) b.1) ∙ ap (λ q. nat_eq (bit_at (slice_index_or ws q 0) (j % 64)) 1) (sym b.0)))
]

pub put_other : (ws : List ℕ) (i : ℕ) → i / 64 < length ws → (j : ℕ) → j ≢ i → has (with_bit ws i) j ≡ has ws j
put_other ws i lt j ne = changed_other ws i _ lt (λ k kl kn. bit_at_set_other w64 (slice_index_or ws (i / 64) 0) (i % 64) (omega arith) k kn) j ne

pub clear_same : (ws : List ℕ) (i : ℕ) → i / 64 < length ws → has (without_bit ws i) i ≡ false
clear_same ws i lt = same_word ws i _ lt ∙ isnt_one _ (bit_at_clear_same w64 (slice_index_or ws (i / 64) 0) (i % 64) (omega arith))

pub clear_other : (ws : List ℕ) (i : ℕ) → i / 64 < length ws → (j : ℕ) → j ≢ i → has (without_bit ws i) j ≡ has ws j
clear_other ws i lt j ne =
    changed_other ws i _ lt (λ k kl kn. bit_at_clear_other w64 (slice_index_or ws (i / 64) 0) (i % 64) (omega arith) k kl kn) j ne
