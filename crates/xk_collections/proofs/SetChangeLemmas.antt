-- Members come and go.
use Rattle.std.specs.Prelude.{slice_index_or}
use Rattle.std.specs.Int.{bit_at}
use Rattle.std.proofs.lemmas.List.{append-nil, length-append, length-replicate}
use Rattle.std.proofs.Common.{◌≡◌, ◌∙◌, ℕ, zero, suc, ◌+◌, ◌*◌, ◌/◌, ◌%◌, ◌^◌, ◌<◌, ◌≤◌, Bool, true, false, List, [], ◌∷◌, ◌++◌, length, filter, replicate, refl, sym, ap, subst, arith, nat_eq}
use Rattle.xk_collections.specs.NumberSets.{numbers_from, with_member}
use Rattle.xk_collections.specs.BitWords.{has, with_bit, without_bit, members_of, HasMember, IsSumOf, IsSummed}
use Rattle.std.proofs.lemmas.Bool.{eqb-true}
use Rattle.xk_collections.proofs.BitLemmas.{clash, none_of_zero, put_same, put_other, clear_same, clear_other}
use Rattle.xk_collections.proofs.SummaryWordLemmas.{length_with, length_without, sums_with, sums_kept, sums_without}
use Rattle.xk_collections.proofs.RisingListLemmas.{member_changed, same_members}
use Rattle.xk_collections.proofs.MemberSearchLemmas.{longer}

pub members_with : (ws : List ℕ) (i : ℕ) → i / 64 < length ws → members_of (with_bit ws i) ≡ with_member i true (members_of ws)
members_with ws i there =
    ap (λ n. filter (has (with_bit ws i)) (numbers_from 0 (n * 64))) (length_with ws i)
    ∙ member_changed (has ws) (has (with_bit ws i)) (length ws * 64) i (omega arith) (λ k lt ne. put_other ws i there k ne)
    ∙ ap (λ b. with_member i b (members_of ws)) (put_same ws i there)

pub members_without : (ws : List ℕ) (i : ℕ) → i / 64 < length ws → members_of (without_bit ws i) ≡ with_member i false (members_of ws)
members_without ws i there =
    ap (λ n. filter (has (without_bit ws i)) (numbers_from 0 (n * 64))) (length_without ws i)
    ∙ member_changed (has ws) (has (without_bit ws i)) (length ws * 64) i (omega arith) (λ k lt ne. clear_other ws i there k ne)
    ∙ ap (λ b. with_member i b (members_of ws)) (clear_same ws i there)

-- ---- words of zeros behind the others

abbrev pub zeros : ℕ → List ℕ
zeros k = replicate k 0

length_zeros : (k : ℕ) → length (zeros k) ≡ k
length_zeros k = length-replicate k _

zero_at : (k j : ℕ) → slice_index_or (zeros k) j 0 ≡ 0
zero_at zero j = refl
zero_at (suc k) zero = refl
zero_at (suc k) (suc j) = zero_at k j

same_word : (ws : List ℕ) (k j : ℕ) → slice_index_or (ws ++ zeros k) j 0 ≡ slice_index_or ws j 0
same_word [] k j = zero_at k j
same_word (w ∷ ws) k zero = refl
same_word (w ∷ ws) k (suc j) = same_word ws k j

has_same : (ws : List ℕ) (k j : ℕ) → has (ws ++ zeros k) j ≡ has ws j
has_same ws k j = ap (λ w. nat_eq (bit_at w (j % 64)) 1) (same_word ws k (j / 64))

-- beyond the words nobody is a member
beyond : (ws : List ℕ) (k : ℕ) → length ws ≤ k → slice_index_or ws k 0 ≡ 0
beyond [] k le = refl
beyond (w ∷ ws) zero le = absurd (omega arith)
beyond (w ∷ ws) (suc k) le = beyond ws k (omega arith)

pub members_same : (ws : List ℕ) (k : ℕ) → members_of (ws ++ zeros k) ≡ members_of ws
members_same ws k =
    let long : length (ws ++ zeros k) * 64 ≡ length ws * 64 + k * 64 = omega (arith, length-append ws (zeros k), length_zeros k) in
    rw long
    (same_members (has ws) (has (ws ++ zeros k)) 0 (length ws * 64 + k * 64) (λ j from to. has_same ws k j)
    ∙ longer (has ws) (length ws * 64) (k * 64) (λ j from. none_of_zero ws j (beyond ws (j / 64) (omega arith))))

more_members : (ws : List ℕ) (k j : ℕ) → HasMember ws j → HasMember (ws ++ zeros k) j
more_members ws k j m = (m.0, m.1, m.2, has_same ws k m.0 ∙ m.3)

-- empty words are summed already
sums_longer : (ws up : List ℕ) (k n : ℕ) → IsSumOf ws up → IsSumOf (ws ++ zeros k) (up ++ zeros n)
sums_longer ws up k n s = record {
  none = λ j e. same_word ws k j ∙ s.none j (sym (has_same up n j) ∙ e);
  some = λ j e.
      let old = s.some j (sym (has_same up n j) ∙ e) in
      (omega (arith, length-append ws (zeros k), old.0), more_members ws k j old.1);
}

-- ---- the sums of a set

pub summed_with : (low mid top : List ℕ) (i : ℕ) → i < length low * 64 → IsSummed low mid top
    → IsSummed (with_bit low i) (with_bit mid (i / 64)) (with_bit top (i / 64 / 64))
summed_with low mid top i lt s =
    record {
      covered = rw (length_with low i, length_with mid (i / 64)) s.covered;
      few = rw (length_with mid (i / 64)) s.few;
      one = rw (length_with top (i / 64 / 64)) s.one;
      low_sums = sums_with low mid i (omega arith) (omega (arith, s.covered)) s.low_sums;
      mid_sums = sums_with mid top (i / 64) (omega (arith, s.covered)) (omega (arith, s.covered, s.few, s.one)) s.mid_sums;
    }

pub summed_kept : (low mid top : List ℕ) (i : ℕ) → i < length low * 64 → slice_index_or (without_bit low i) (i / 64) 0 < 2 ^ 64
    → (slice_index_or (without_bit low i) (i / 64) 0 ≡ 0 → ⊥) → IsSummed low mid top → IsSummed (without_bit low i) mid top
summed_kept low mid top i lt fits left s = record {
  covered = rw (length_without low i) s.covered;
  few = s.few;
  one = s.one;
  low_sums = sums_kept low mid i (omega arith) fits left s.low_sums;
  mid_sums = s.mid_sums;
}

pub summed_word_gone : (low mid top : List ℕ) (i : ℕ) → i < length low * 64 → slice_index_or (without_bit low i) (i / 64) 0 ≡ 0
    → slice_index_or (without_bit mid (i / 64)) (i / 64 / 64) 0 < 2 ^ 64
    → (slice_index_or (without_bit mid (i / 64)) (i / 64 / 64) 0 ≡ 0 → ⊥) → IsSummed low mid top → IsSummed (without_bit low i) (without_bit mid (i / 64)) top
summed_word_gone low mid top i lt gone fits left s = record {
  covered = rw (length_without low i, length_without mid (i / 64)) s.covered;
  few = rw (length_without mid (i / 64)) s.few;
  one = s.one;
  low_sums = sums_without low mid i (omega arith) (omega (arith, s.covered)) gone s.low_sums;
  mid_sums = sums_kept mid top (i / 64) (omega (arith, s.covered)) fits left s.mid_sums;
}

pub summed_group_gone : (low mid top : List ℕ) (i : ℕ) → i < length low * 64 → slice_index_or (without_bit low i) (i / 64) 0 ≡ 0
    → slice_index_or (without_bit mid (i / 64)) (i / 64 / 64) 0 ≡ 0 → IsSummed low mid top
    → IsSummed (without_bit low i) (without_bit mid (i / 64)) (without_bit top (i / 64 / 64))
summed_group_gone low mid top i lt gone group_gone s = record {
  covered = rw (length_without low i, length_without mid (i / 64)) s.covered;
  few = rw (length_without mid (i / 64)) s.few;
  one = rw (length_without top (i / 64 / 64)) s.one;
  low_sums = sums_without low mid i (omega arith) (omega (arith, s.covered)) gone s.low_sums;
  mid_sums = sums_without mid top (i / 64) (omega (arith, s.covered)) (omega (arith, s.covered, s.few, s.one)) group_gone s.mid_sums;
}

-- more room
pub summed_longer : (low mid top : List ℕ) (k n : ℕ) → length low + k ≤ (length mid + n) * 64 → length mid + n ≤ 64 → IsSummed low mid top
    → IsSummed (low ++ zeros k) (mid ++ zeros n) top
summed_longer low mid top k n covered few s = record {
  covered = omega (arith, length-append low (zeros k), length_zeros k, length-append mid (zeros n), length_zeros n, covered);
  few = omega (arith, length-append mid (zeros n), length_zeros n, few);
  one = s.one;
  low_sums = sums_longer low mid k n s.low_sums;
  mid_sums = subst (λ (l : List ℕ). IsSumOf (mid ++ zeros n) l) (append-nil top) (sums_longer mid top n 0 s.mid_sums);
}

-- what a test for an empty word tells
pub gone_of : (b : Bool) (word : ℕ) → b ≡ nat_eq word 0 → b ≡ true → word ≡ 0
gone_of b word is e = eqb-true word 0 (sym is ∙ e)

pub left_of : (b : Bool) (word : ℕ) → b ≡ nat_eq word 0 → b ≡ false → word ≡ 0 → ⊥
left_of b word is e zero_word = clash (nat_eq word 0) (rw zero_word refl) (sym is ∙ e)
