-- Words, and the words that say which of them have members.
use Rattle.std.specs.Prelude.{slice_index_or, bit_and}
use Rattle.std.specs.Int.{bit_not, trailing_zeros, w64}
use Rattle.std.proofs.Common.{◌≡◌, ℕ, ◌+◌, ◌*◌, ◌/◌, ◌%◌, ◌^◌, ◌<◌, ◌≤◌, inl, inr, true, false, List, length, Option, Some, None, sym, ap, subst, ◌∙◌, arith, nat_eq}
use Rattle.std.proofs.lemmas.Nat.{and_le_l}
use Rattle.std.proofs.lemmas.Nat.Bits.{bit_at-trailing_zeros}
use Rattle.std.proofs.lemmas.List.{length-set, get_or-set_same, get_or-set_other}
use Rattle.std.proofs.lemmas.Bool.{cases_eq}
use Rattle.xk_collections.specs.BitWords.{has, with_bit, without_bit, HasMember, IsNext, IsLast, IsSumOf}
use Rattle.xk_collections.proofs.BitLemmas.{split, clash, has_at, none_of_zero, put_same, put_other, clear_same, clear_other}

-- ---- searches

-- nothing is in a word whose bit of the sums is 0
none_in : (ws up : List ℕ) → IsSumOf ws up → (j : ℕ) → has up (j / 64) ≡ false → has ws j ≡ false
none_in ws up s j e = none_of_zero ws j (s.none (j / 64) e)

pub next_none_by : (ws up : List ℕ) (i end : ℕ) → IsSumOf ws up → length ws ≤ end
    → IsNext (has ws) i (i / 64 * 64 + 64) None → IsNext (has up) (i / 64 + 1) end None → IsNext (has ws) i (length ws * 64) None
next_none_by ws up i end s covered own above j ij jl = elim (split j (i / 64 * 64 + 64)) [
  | inl l ↦ own j ij l
  | inr g ↦ none_in ws up s j (above (j / 64) (omega (arith, g)) (omega (arith, jl, covered)))
]

pub next_some_by : (ws up : List ℕ) (i end k : ℕ) (r : Option ℕ) → IsSumOf ws up
    → IsNext (has ws) i (i / 64 * 64 + 64) None → IsNext (has up) (i / 64 + 1) end (Some k)
    → IsNext (has ws) (k * 64) (k * 64 / 64 * 64 + 64) r → IsNext (has ws) i (length ws * 64) r
next_some_by ws up i end k None s own above low =
    let m = (s.some k above.2).1 in absurd (clash (has ws m.0) m.3 (low m.0 m.1 (omega (arith, m.2))))
next_some_by ws up i end k (Some r) s own above low =
    let within = (s.some k above.2).0 in (
      omega (arith, above.0, low.0),
      omega (arith, within, low.1),
      low.2,
      λ j ij jr. elim (split j (i / 64 * 64 + 64)) [
        | inl l ↦ own j ij l
        | inr g ↦ elim (split j (k * 64)) [
          | inl l ↦ none_in ws up s j (above.3 (j / 64) (omega (arith, g)) (omega (arith, l)))
          | inr h ↦ low.3 j h jr
        ]
      ],
    )

pub last_none_by : (ws up : List ℕ) (end : ℕ) → IsSumOf ws up → length ws ≤ end → IsLast (has up) 0 end None → IsLast (has ws) 0 (length ws * 64) None
last_none_by ws up end s covered above j from to = none_in ws up s j (above (j / 64) (omega arith) (omega (arith, to, covered)))

pub last_some_by : (ws up : List ℕ) (end k : ℕ) (r : Option ℕ) → IsSumOf ws up → length ws ≤ end → IsLast (has up) 0 end (Some k)
    → IsLast (has ws) (k * 64) (k * 64 + 64) r → IsLast (has ws) 0 (length ws * 64) r
last_some_by ws up end k None s covered above low =
    let m = (s.some k above.2).1 in absurd (clash (has ws m.0) m.3 (low m.0 m.1 m.2))
last_some_by ws up end k (Some r) s covered above low =
    let within = (s.some k above.2).0 in (
      omega arith,
      omega (arith, within, low.1),
      low.2,
      λ j rj to. elim (split j (k * 64 + 64)) [
        | inl l ↦ low.3 j rj l
        | inr g ↦ none_in ws up s j (above.3 (j / 64) (omega (arith, g)) (omega (arith, to, covered)))
      ],
    )

-- ---- a bit set or cleared

pub length_with : (ws : List ℕ) (i : ℕ) → length (with_bit ws i) ≡ length ws
length_with ws i = length-set ws (i / 64) _

pub length_without : (ws : List ℕ) (i : ℕ) → length (without_bit ws i) ≡ length ws
length_without ws i = length-set ws (i / 64) _

-- the sums stay sums where a number comes in
pub sums_with : (ws up : List ℕ) (i : ℕ) → i / 64 < length ws → i / 64 / 64 < length up → IsSumOf ws up → IsSumOf (with_bit ws i) (with_bit up (i / 64))
sums_with ws up i there above s = record {
  none = λ k e. elim (cases_eq k (i / 64)) [
    | inl here ↦ absurd (clash (has (with_bit up (i / 64)) (i / 64)) (put_same up (i / 64) above) (subst (λ (x : ℕ). has (with_bit up (i / 64)) x ≡ false) here e))
    | inr ne ↦ get_or-set_other ws (i / 64) k _ 0 ne ∙ s.none k (sym (put_other up (i / 64) above k ne) ∙ e)
  ];
  some = λ k e. elim (cases_eq k (i / 64)) [
    | inl here ↦ (
      omega (arith, length_with ws i, there, here),
      (i, omega (arith, here), omega (arith, here), put_same ws i there),
    )
    | inr ne ↦
        let old = s.some k (sym (put_other up (i / 64) above k ne) ∙ e) in
        let m = old.1 in
        (omega (arith, length_with ws i, old.0), (m.0, m.1, m.2, kept m.0 m.3))
  ];
}
  where
    kept : (j : ℕ) → has ws j ≡ true → has (with_bit ws i) j ≡ true
    kept j e = elim (cases_eq j i) [
      | inl same ↦ subst (λ (x : ℕ). has (with_bit ws i) x ≡ true) (sym same) (put_same ws i there)
      | inr ne ↦ put_other ws i there j ne ∙ e
    ]

-- a word that isn't 0 has a member
has_member : (ws : List ℕ) (k : ℕ) → slice_index_or ws k 0 < 2 ^ 64 → 0 < slice_index_or ws k 0 → HasMember ws k
has_member ws k fits some =
    let t = bit_at-trailing_zeros w64 (slice_index_or ws k 0) some fits in
    let z = trailing_zeros w64 (slice_index_or ws k 0) in
    (k * 64 + z, omega arith, omega (arith, t.0), has_at ws k z t.0 ∙ ap (λ (b : ℕ). nat_eq b 1) t.1)

gone_word : (ws : List ℕ) (i : ℕ) → i / 64 < length ws → slice_index_or ws (i / 64) 0 ≡ 0 → slice_index_or (without_bit ws i) (i / 64) 0 ≡ 0
gone_word ws i there e =
    get_or-set_same ws (i / 64) _ 0 there
    ∙ least (bit_and (slice_index_or ws (i / 64) 0) (bit_not w64 (1 * 2 ^ (i % 64) % 2 ^ 64))) (slice_index_or ws (i / 64) 0)
    (and_le_l (slice_index_or ws (i / 64) 0) (bit_not w64 (1 * 2 ^ (i % 64) % 2 ^ 64))) e
  where
    least : (x y : ℕ) → x ≤ y → y ≡ 0 → x ≡ 0
    least x y le e = omega arith

-- the sums stay sums where a number is taken out and others are left in its word
pub sums_kept : (ws up : List ℕ) (i : ℕ) → i / 64 < length ws → slice_index_or (without_bit ws i) (i / 64) 0 < 2 ^ 64
    → (slice_index_or (without_bit ws i) (i / 64) 0 ≡ 0 → ⊥) → IsSumOf ws up → IsSumOf (without_bit ws i) up
sums_kept ws up i there fits left s = record {
  none = λ k e. elim (cases_eq k (i / 64)) [
    | inl here ↦ absurd (left (gone_word ws i there (subst (λ (x : ℕ). slice_index_or ws x 0 ≡ 0) here (s.none k e))))
    | inr ne ↦ get_or-set_other ws (i / 64) k _ 0 ne ∙ s.none k e
  ];
  some = λ k e.
      let old = s.some k e in
      let inside : k < length (without_bit ws i) = omega (arith, length_without ws i, old.0) in
      elim (cases_eq k (i / 64)) [
        | inl here ↦ (inside, subst (λ (x : ℕ). HasMember (without_bit ws i) x) (sym here) (has_member (without_bit ws i) (i / 64) fits (omega (arith, left))))
        | inr ne ↦ (inside, kept k ne old.1)
      ];
}
  where
    kept : (k : ℕ) → (k ≡ i / 64 → ⊥) → HasMember ws k → HasMember (without_bit ws i) k
    kept k ne m = (m.0, m.1, m.2, clear_other ws i there m.0 (λ same. ne (omega (arith, m.1, m.2))) ∙ m.3)

-- and where its word is left empty
pub sums_without : (ws up : List ℕ) (i : ℕ) → i / 64 < length ws → i / 64 / 64 < length up → slice_index_or (without_bit ws i) (i / 64) 0 ≡ 0
    → IsSumOf ws up → IsSumOf (without_bit ws i) (without_bit up (i / 64))
sums_without ws up i there above gone s = record {
  none = λ k e. elim (cases_eq k (i / 64)) [
    | inl here ↦ subst (λ (x : ℕ). slice_index_or (without_bit ws i) x 0 ≡ 0) (sym here) gone
    | inr ne ↦ get_or-set_other ws (i / 64) k _ 0 ne ∙ s.none k (sym (clear_other up (i / 64) above k ne) ∙ e)
  ];
  some = λ k e. elim (cases_eq k (i / 64)) [
    | inl here ↦ absurd (clash (has (without_bit up (i / 64)) (i / 64)) (subst (λ (x : ℕ). has (without_bit up (i / 64)) x ≡ true) here e) (clear_same up (i / 64) above))
    | inr ne ↦
        let old = s.some k (sym (clear_other up (i / 64) above k ne) ∙ e) in
        let m = old.1 in (
          omega (arith, length_without ws i, old.0),
          (m.0, m.1, m.2, clear_other ws i there m.0 (λ same. ne (omega (arith, m.1, m.2))) ∙ m.3),
        )
  ];
}
