-- Numbers as they are parsed.
use Rattle.std.proofs.Common.{◌≡◌, ℕ, ℤ, pos, negsuc, ◌<◌, ◌^◌, ◌&&◌, nat_lt, Bool, true, false, if◌then◌else◌, List, [], ◌∷◌, ◌++◌, length, Option, Some, None, option_map, append_assoc, refl, sym, subst, ap, ◌∙◌}
use Rattle.std.specs.Prelude.{FitsSigned, option_and_then, unwrap_or}
use mir.Syntax.{w64}
use Rattle.std.specs.Bool.{Decides}
use Rattle.std.specs.Char.{digit_value, is_digit}
use Rattle.std.specs.List.{list_all}
use Rattle.std.specs.Str.Parse.{AllDigits, IsNumeral, digits_value, signed_digits_value, without_leading_plus, without_leading_sign}
use Rattle.std.proofs.lemmas.Bool.{ltb-true, lt-ltb}
use Rattle.std.proofs.lemmas.Bool.Decides.{Decides-and, Decides-ltb}
use Rattle.clap.specs.ValueTests.{fits_i64}
use Rattle.xk_cli.specs.Numbers.{count_named, is_numeral, number_named, numbers_named}

all_digits : (ds : List ℕ) → Decides (list_all (λ c. is_digit c 10) ds) (AllDigits 10 ds)
all_digits [] = (λ e. tt, λ p. refl)
all_digits (c ∷ cs) = Decides-and (is_digit c 10) (list_all (λ d. is_digit d 10) cs) (Decides-ltb (digit_value c) 10) (all_digits cs)

pub numeral : (ds : List ℕ) → Decides (is_numeral ds) (IsNumeral 10 ds)
numeral ds = Decides-and (nat_lt 0 (length ds)) (list_all (λ c. is_digit c 10) ds) (Decides-ltb 0 (length ds)) (all_digits ds)

fits : (z : ℤ) → Decides (fits_i64 z) (FitsSigned w64 z)
fits (pos n) = (λ e. record { sfits = ltb-true _ _ e }, λ h. lt-ltb _ _ h.sfits)
fits (negsuc n) = (λ e. record { sfits = ltb-true _ _ e }, λ h. lt-ltb _ _ h.sfits)

number : (text : List ℕ) → Decides (is_numeral (without_leading_sign text) && fits_i64 (signed_digits_value 10 text))
    (IsNumeral 10 (without_leading_sign text) × FitsSigned w64 (signed_digits_value 10 text))
number text = Decides-and (is_numeral (without_leading_sign text)) (fits_i64 (signed_digits_value 10 text)) (numeral (without_leading_sign text)) (fits (signed_digits_value 10 text))

is_some_by : (b : Bool) (n : ℤ) (P : Type 0) → Decides b P → P → Some n ≡ (if b then Some n else None)
is_some_by b n P d h = rw (d.1 h) refl

is_none_by : (b : Bool) (n : ℤ) (P : Type 0) → Decides b P → ¬ P → None ≡ (if b then Some n else None)
is_none_by true n P d h = absurd (h (d.0 refl))
is_none_by false n P d h = refl

-- a number that was parsed is the one that the text names
pub number_some : (text : List ℕ) (n : ℤ) → (IsNumeral 10 (without_leading_sign text) × FitsSigned w64 (signed_digits_value 10 text)) × (n ≡ signed_digits_value 10 text)
    → Some n ≡ number_named text
number_some text n h = ap Some h.1 ∙ is_some_by _ (signed_digits_value 10 text) _ (number text) h.0

-- a text that isn't parsed names none
pub number_none : (text : List ℕ) → ¬ (IsNumeral 10 (without_leading_sign text) × FitsSigned w64 (signed_digits_value 10 text)) → None ≡ number_named text
number_none text h = is_none_by _ (signed_digits_value 10 text) _ (number text) h

-- one more number found, and one text less left
pub named_more : (found : List ℤ) (text : List ℕ) (rest : List (List ℕ)) (n : ℤ) → Some n ≡ number_named text
    → option_map (λ more. (found ++ n ∷ []) ++ more) (numbers_named rest) ≡ option_map (λ more. found ++ more) (numbers_named (text ∷ rest))
named_more found text rest n h = go (numbers_named rest) ∙ ap (λ o. option_map (λ more. found ++ more) (option_and_then (λ k. option_map (λ ns. k ∷ ns) (numbers_named rest)) o)) h
  where
    go : (o : Option (List ℤ)) → option_map (λ more. (found ++ n ∷ []) ++ more) o ≡ option_map (λ more. found ++ more) (option_map (λ ns. n ∷ ns) o)
    go None = refl
    go (Some ns) = ap Some (append_assoc found (n ∷ []) ns)

named_fits : (b : Bool) (n z : ℤ) (P : Type 0) → Decides b (P × FitsSigned w64 z) → Some n ≡ (if b then Some z else None) → FitsSigned w64 n
named_fits true n z P d h = subst (FitsSigned w64) (sym (ap (λ o. unwrap_or o n) h)) (d.0 refl).1
named_fits false n z P d h = cc

-- the number that a text names has 64 bits
pub number_fits : (text : List ℕ) (n : ℤ) → Some n ≡ number_named text → FitsSigned w64 n
number_fits text n h = named_fits _ n (signed_digits_value 10 text) _ (number text) h

-- ---- whole numbers

counts : (text : List ℕ) → Decides (is_numeral (without_leading_plus text) && nat_lt (digits_value 10 (without_leading_plus text)) (2 ^ 64))
    (IsNumeral 10 (without_leading_plus text) × (digits_value 10 (without_leading_plus text) < 2 ^ 64))
counts text = Decides-and (is_numeral (without_leading_plus text)) (nat_lt (digits_value 10 (without_leading_plus text)) (2 ^ 64)) (numeral (without_leading_plus text))
    (Decides-ltb (digits_value 10 (without_leading_plus text)) (2 ^ 64))

some_count : (b : Bool) (n : ℕ) (P : Type 0) → Decides b P → P → Some n ≡ (if b then Some n else None)
some_count b n P d h = rw (d.1 h) refl

no_count : (b : Bool) (n : ℕ) (P : Type 0) → Decides b P → ¬ P → None ≡ (if b then Some n else None)
no_count true n P d h = absurd (h (d.0 refl))
no_count false n P d h = refl

-- a whole number that was parsed is the one that the text names
pub count_some : (text : List ℕ) (n : ℕ)
    → (IsNumeral 10 (without_leading_plus text) × (digits_value 10 (without_leading_plus text) < 2 ^ 64)) × (n ≡ digits_value 10 (without_leading_plus text))
    → Some n ≡ count_named text
count_some text n h = ap Some h.1 ∙ some_count _ (digits_value 10 (without_leading_plus text)) _ (counts text) h.0

-- a text that isn't parsed names none
pub count_none : (text : List ℕ) → ¬ (IsNumeral 10 (without_leading_plus text) × (digits_value 10 (without_leading_plus text) < 2 ^ 64)) → None ≡ count_named text
count_none text h = no_count _ (digits_value 10 (without_leading_plus text)) _ (counts text) h
