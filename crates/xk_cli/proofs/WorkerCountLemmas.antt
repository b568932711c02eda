-- A number of workers as it is parsed.
use Rattle.std.proofs.Common.{◌≡◌, ℕ, ◌^◌, ◌<◌, ◌≤◌, ◌&&◌, nat_le, Bool, true, false, if◌then◌else◌, List, Option, None, refl, sym, ap, ◌∙◌, arith}
use Rattle.std.specs.Bool.{Decides}
use Rattle.std.specs.Str.Parse.{IsNumeral, digits_value, without_leading_plus}
use Rattle.std.proofs.lemmas.Bool.{and_parts, false_from_ne_true, leb-true}
use Rattle.xk_jobs.specs.WorkerCount.{count_within}
use Rattle.xk_cli.specs.CommandLine.{workers_named}
use Rattle.xk_cli.specs.Numbers.{is_numeral}
use Rattle.xk_cli.proofs.NumeralLemmas.{numeral}

some_by : (b : Bool) (o : Option ℕ) → b ≡ true → o ≡ (if b then o else None)
some_by b o e = rw e refl

-- a number that was parsed is the one that the text names
pub named_some : (text : List ℕ) (n : ℕ) (Fits : Type 0) → (IsNumeral 10 (without_leading_plus text) × Fits) × (n ≡ digits_value 10 (without_leading_plus text))
    → count_within n ≡ workers_named text
named_some text n Fits h =
    let ds = without_leading_plus text in
    ap count_within h.1 ∙ some_by (is_numeral ds) (count_within (digits_value 10 ds)) ((numeral ds).1 h.0.0)

-- a number that is too large for 32 bits is too large for workers
too_many : (v : ℕ) → ¬ (v < 2 ^ 32) → count_within v ≡ None
too_many v h =
    let no : (nat_le 1 v && nat_le v 64) ≡ false = false_from_ne_true _ (λ e.
    let most : v ≤ 64 = leb-true v 64 (and_parts (nat_le 1 v) (nat_le v 64) e).1 in
    let few : v < 2 ^ 32 = omega arith in h few) in
    rw no refl

none_by : (b : Bool) (v : ℕ) (P : Type 0) → Decides b P → ¬ (P × (v < 2 ^ 32)) → None ≡ (if b then count_within v else None)
none_by true v P d h = sym (too_many v (λ few. h (d.0 refl, few)))
none_by false v P d h = refl

-- a text that isn't parsed names no number of workers
pub named_none : (text : List ℕ) → ¬ (IsNumeral 10 (without_leading_plus text) × (digits_value 10 (without_leading_plus text) < 2 ^ 32))
    → None ≡ workers_named text
named_none text h =
    let ds = without_leading_plus text in none_by (is_numeral ds) (digits_value 10 ds) (IsNumeral 10 ds) (numeral ds) h
