-- Decimal numbers.
use Rattle.std.proofs.Common.{◌≡◌, ℕ, ◌^◌, ◌<◌, ◌≤◌, ltb, leb, eqb, true, Some, None, List, [], ◌∷◌, length, get_or, decimal, ap, sym, ◌∙◌, arith, rules, refl, subst, inl, inr, lit<}
use Rattle.std.specs.Char.{is_ascii_digit}
use Rattle.std.specs.Str.{all_ascii_digits}
use Rattle.std.proofs.lemmas.Str.Parse.{IsNumeralModel, numerals_by_fold}
use Rattle.std.proofs.lemmas.Fmt.{digits_decimal, digits_value-decimal, decimal-digits_value, decimal_nonempty, first_decimal, length-decimal-le, decimal_digit}
use Rattle.std.proofs.lemmas.Bool.{and_parts, and_from, leb-true, ne_eqb, not_from_false, ltb-true, lt-ltb, cond_both, cond-true, cases_lt}
use Rattle.xk_log.specs.LogText.{isnt, Lacks}
use Rattle.xk_log.specs.Numbers.{with_digit, value_from}

-- what digits are worth behind those of n
abbrev read_on : ℕ → List ℕ → ℕ
read_on n [] = n
read_on n (c ∷ cs) = read_on (with_digit n c) cs

own : IsNumeralModel (λ ds. all_ascii_digits ds ≡ true) (read_on 0)
own = numerals_by_fold _ (search rules) read_on (search rules)

-- ---- what is read

some_value : (n m : ℕ) → Some n ≡ Some m → n ≡ m
some_value n m e = cc

pub none_some : (n : ℕ) → None ≡ Some n → ⊥
none_some n e = cc

read_found : (v : ℕ) (ds : List ℕ) (n : ℕ) → v < 2 ^ 32 → value_from v ds ≡ Some n
    → (all_ascii_digits ds ≡ true) × (read_on v ds ≡ n) × (n < 2 ^ 32)
read_found v [] n = λ h e. (refl, some_value v n e, subst (λ k. k < 2 ^ 32) (some_value v n e) h)
read_found v (d ∷ ds) n = λ h.
    let w = with_digit v d in
    let P : Type 0 = (all_ascii_digits (d ∷ ds) ≡ true) × (read_on v (d ∷ ds) ≡ n) × (n < 2 ^ 32) in
    cond_both (is_ascii_digit d) _ _ (λ o. o ≡ Some n → P)
    (λ digit. cond_both (ltb w (2 ^ 32)) _ _ (λ o. o ≡ Some n → P)
    (λ small e. let rest = read_found w ds n (ltb-true w (2 ^ 32) small) e in (and_from _ _ digit rest.0, rest.1, rest.2))
    (λ large e. absurd (none_some n e)))
    (λ other e. absurd (none_some n e))

-- what is read of more digits is no less
read_on-ge : (v : ℕ) (ds : List ℕ) → v ≤ read_on v ds
read_on-ge v [] = omega arith
read_on-ge v (d ∷ ds) = let rest : with_digit v d ≤ read_on (with_digit v d) ds = read_on-ge (with_digit v d) ds in omega (arith, rest)

read_again : (v : ℕ) (ds : List ℕ) → all_ascii_digits ds ≡ true → read_on v ds < 2 ^ 32 → value_from v ds ≡ Some (read_on v ds)
read_again v [] h small = refl
read_again v (d ∷ ds) h small =
    let w = with_digit v d in
    let parts = and_parts (is_ascii_digit d) (all_ascii_digits ds) h in
    let grows : w ≤ read_on w ds = read_on-ge w ds in
    let fits : w < 2 ^ 32 = omega (arith, grows, small) in
    cond-true (is_ascii_digit d) _ _ parts.0 ∙ cond-true (ltb w (2 ^ 32)) _ _ (lt-ltb w (2 ^ 32) fits) ∙ read_again w ds parts.1 small

-- ---- numbers of 32 bits

pub wide : (n : ℕ) → n < 2 ^ 32 → n < 2 ^ 64
wide n h = omega (arith, h)

-- the text of what is read is what was read
pub number_found : (ds : List ℕ) (n : ℕ) → 0 < length ds → (get_or ds 0 0 ≡ 48 → length ds ≡ 1) → value_from 0 ds ≡ Some n → ds ≡ decimal n
number_found ds n some lead e =
    let r = read_found 0 ds n (lit< tt) e in
    let small : read_on 0 ds < 2 ^ 64 = wide (read_on 0 ds) (subst (λ k. k < 2 ^ 32) (sym r.1) r.2) in
    sym (decimal-digits_value own ds r.0 some lead small) ∙ ap decimal r.1

-- the text of a number is read as it
pub number_again : (n : ℕ) → n < 2 ^ 32 → value_from 0 (decimal n) ≡ Some n
number_again n h =
    let value = digits_value-decimal own n (wide n h) in
    read_again 0 (decimal n) (digits_decimal own n (wide n h)) (subst (λ k. k < 2 ^ 32) (sym value) h) ∙ ap Some value

-- only the text of 0 begins with a 0
pub number_leads : (n : ℕ) → n < 2 ^ 32 → get_or (decimal n) 0 0 ≡ 48 → length (decimal n) ≡ 1
number_leads n h e = elim (cases_lt 0 n) [
  | inl some ↦ absurd (let first = first_decimal n some (wide n h) in omega (arith, first, e))
  | inr none ↦ let zero : n ≡ 0 = omega (arith, none) in ap (λ k. length (decimal k)) zero ∙ ap length (decimal_digit 0 (lit< tt))
]

pub number_nonempty : (n : ℕ) → n < 2 ^ 32 → 0 < length (decimal n)
number_nonempty n h = decimal_nonempty n (wide n h)

pub number_digits : (n : ℕ) → n < 2 ^ 32 → all_ascii_digits (decimal n) ≡ true
number_digits n h = digits_decimal own n (wide n h)

pub number_short : (n : ℕ) → n < 2 ^ 32 → length (decimal n) ≤ 10
number_short n h = length-decimal-le 10 n (lit< tt) (omega (arith, h)) (wide n h)

-- ---- what digits lack

digit_isnt : (s d : ℕ) → s < 48 → is_ascii_digit d ≡ true → isnt s d ≡ true
digit_isnt s d low h =
    let least : 48 ≤ d = leb-true 48 d (and_parts (leb 48 d) (leb d 57) h).0 in
    let other : d ≡ s → ⊥ = λ e. omega (arith, least, low, e) in
    not_from_false (eqb d s) (ne_eqb d s other)

digits_lack : (s : ℕ) → s < 48 → (ds : List ℕ) → all_ascii_digits ds ≡ true → Lacks s ds
digits_lack s low [] h = refl
digits_lack s low (d ∷ ds) h =
    let parts = and_parts (is_ascii_digit d) (all_ascii_digits ds) h in
    and_from _ _ (digit_isnt s d low parts.0) (digits_lack s low ds parts.1)

pub number_lacks : (s n : ℕ) → s < 48 → n < 2 ^ 32 → Lacks s (decimal n)
number_lacks s n low h = digits_lack s low (decimal n) (digits_decimal own n (wide n h))
