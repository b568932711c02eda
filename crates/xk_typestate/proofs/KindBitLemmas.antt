-- Sets of kinds as bits.
use Rattle.std.proofs.Common.{◌≡◌, ◌↔◌, ◌⊎◌, inl, inr, lit<, true≢false, ℕ, ◌<◌, Bool, false, not, ◌==◌, IsTrue, refl, ap, sym, ◌∙◌, bit_and, bit_or}
use Rattle.std.proofs.lemmas.Bool.Decides.{Decides-eqb}
use Rattle.std.proofs.lemmas.Bool.{false_from_ne_true}
use Rattle.std.proofs.lemmas.Nat.{and_or_self, and_or_apart}
use Rattle.xk_types.specs.declared.rules.Kind.{Kind}
use Rattle.xk_types.specs.declared.rules.Kind.TheVariants as kind
use Rattle.xk_typestate.proofs.KindSetLemmas.{have_added, have_kept, have_only, none_have}
use Rattle.xk_typestate.specs.Bits.{bits_back}
use Rattle.xk_typestate.specs.KindSet.{KindsValue, kinds_have, kinds_with, kind_bit, is_on, kinds_of, bits_of}

-- one bit more leaves the others as they are
on_apart : (n m k : ℕ) → bit_and m k ≡ 0 → is_on (bit_or n m) k ≡ is_on n k
on_apart n m k h = ap (λ x. not (x == 0)) (and_or_apart k n m h)

-- and is on
on_self : (n m : ℕ) → is_on (bit_or n m) m ≡ not (m == 0)
on_self n m = ap (λ x. not (x == 0)) (and_or_self m n)

of_with : (n : ℕ) (k : Kind) → kinds_of (bit_or n (kind_bit k)) ≡ kinds_with (kinds_of n) k
of_with n kind.Unset i = record {
  unset = on_self n 1 i;
  number = on_apart n 1 2 refl i;
  live = on_apart n 1 4 refl i;
  resumed = on_apart n 1 8 refl i;
  out = on_apart n 1 16 refl i;
}
of_with n kind.Number i = record {
  unset = on_apart n 2 1 refl i;
  number = on_self n 2 i;
  live = on_apart n 2 4 refl i;
  resumed = on_apart n 2 8 refl i;
  out = on_apart n 2 16 refl i;
}
of_with n kind.Live i = record {
  unset = on_apart n 4 1 refl i;
  number = on_apart n 4 2 refl i;
  live = on_self n 4 i;
  resumed = on_apart n 4 8 refl i;
  out = on_apart n 4 16 refl i;
}
of_with n kind.Resumed i = record {
  unset = on_apart n 8 1 refl i;
  number = on_apart n 8 2 refl i;
  live = on_apart n 8 4 refl i;
  resumed = on_self n 8 i;
  out = on_apart n 8 16 refl i;
}
of_with n kind.Out i = record {
  unset = on_apart n 16 1 refl i;
  number = on_apart n 16 2 refl i;
  live = on_apart n 16 4 refl i;
  resumed = on_apart n 16 8 refl i;
  out = on_self n 16 i;
}

no_bits : (s : KindsValue) → s.unset ≡ false → s.number ≡ false → s.live ≡ false → s.resumed ≡ false → s.out ≡ false → bits_of s ≡ 0
no_bits s a b c d e = ap bits_of (λ i. record { unset = a i; number = b i; live = c i; resumed = d i; out = e i })

-- a number without one of the five bits
none_is_0 : (n : ℕ) → n < 32 → ((k : Kind) → IsTrue (kinds_have (kinds_of n) k) → ⊥) → n ≡ 0
none_is_0 n small h =
    let off : (k : Kind) → kinds_have (kinds_of n) k ≡ false = λ k. false_from_ne_true (kinds_have (kinds_of n) k) (h k) in
    sym (bits_back n small) ∙ no_bits (kinds_of n) (off kind.Unset) (off kind.Number) (off kind.Live) (off kind.Resumed) (off kind.Out)

pub bit_small : (k : Kind) → kind_bit k < 32
bit_small kind.Unset = lit< tt
bit_small kind.Number = lit< tt
bit_small kind.Live = lit< tt
bit_small kind.Resumed = lit< tt
bit_small kind.Out = lit< tt

pub with_bit : (n r : ℕ) (k : Kind) (s : KindsValue) → r ≡ kind_bit k → kinds_of n ≡ s → kinds_of (bit_or n r) ≡ kinds_with s k
with_bit n r k s e is = ap (λ x. kinds_of (bit_or n x)) e ∙ of_with n k ∙ ap (λ x. kinds_with x k) is

pub has_with : (n r : ℕ) (k : Kind) (s : KindsValue) → r ≡ kind_bit k → kinds_of n ≡ s → (x : Kind)
    → IsTrue (kinds_have (kinds_of (bit_or n r)) x) ↔ ((x ≡ k) ⊎ IsTrue (kinds_have s x))
has_with n r k s e is x =
    let same = ap (λ v. kinds_have v x) (with_bit n r k s e is) in (
      λ t. have_only s k x (sym same ∙ t),
      λ w. same ∙ elim w [
        | inl f ↦ ap (λ v. kinds_have (kinds_with s k) v) f ∙ have_added s k
        | inr had ↦ have_kept s k x had
      ],
    )

pub empty_is_0 : (n : ℕ) (s : KindsValue) → n < 32 → kinds_of n ≡ s → IsTrue (n == 0) ↔ ((k : Kind) → IsTrue (kinds_have s k) → ⊥)
empty_is_0 n s small is = (
  λ t k h. true≢false (sym h ∙ ap (λ v. kinds_have v k) (sym is) ∙ ap (λ m. kinds_have (kinds_of m) k) ((Decides-eqb n 0).0 t) ∙ none_have k),
  λ h. ap (λ m. m == 0) (none_is_0 n small (λ k t. h k (ap (λ v. kinds_have v k) (sym is) ∙ t))),
)

bits_are : (n : ℕ) (s : KindsValue) → n < 32 → kinds_of n ≡ s → n ≡ bits_of s
bits_are n s small is = sym (bits_back n small) ∙ ap bits_of is

pub same_bits : (r : Bool) (a b : ℕ) (s t : KindsValue) → r ≡ (a == b) → a < 32 → b < 32 → kinds_of a ≡ s → kinds_of b ≡ t → r ≡ (bits_of s == bits_of t)
same_bits r a b s t e ha hb is it = e ∙ ap (λ n. n == b) (bits_are a s ha is) ∙ ap (λ n. bits_of s == n) (bits_are b t hb it)
