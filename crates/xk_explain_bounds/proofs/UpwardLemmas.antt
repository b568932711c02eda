-- Units that run only such of greater number.
use Rattle.std.proofs.Common.{◌≡◌, ℕ, zero, suc, ◌+◌, ◌<◌, Bool, true, false, ◌&&◌, nat_lt, List, [], ◌∷◌, Option, Some, None, slice_get}
use Rattle.std.proofs.Common.{refl, sym, ap, ◌∙◌, subst, arith}
use Rattle.std.specs.List.{list_all}
use Rattle.std.specs.Option.{option_map_or}
use Rattle.std.proofs.lemmas.Bool.{and_parts, ltb-true}
use Rattle.std.proofs.lemmas.Option.{same_Some, none-some}
use Rattle.xk_types.specs.declared.instr.Instr.{Instr}
use Rattle.xk_types.specs.Code.{UnitValue, ModuleValue, unit_run}
use Rattle.xk_explain_bounds.specs.Amounts.{go_up_from, goes_up, goes_up_only}

all_at : {A : Type 0} (p : A → Bool) (xs : List A) (k : ℕ) (x : A) → list_all p xs ≡ true → slice_get xs k ≡ Some x → p x ≡ true
all_at p [] k x all found = absurd (none-some x found)
all_at p (y ∷ ys) zero x all found = ap p (sym (same_Some y x found)) ∙ (and_parts (p y) (list_all p ys) all).0
all_at p (y ∷ ys) (suc k) x all found = all_at p ys k x (and_parts (p y) (list_all p ys) all).1 found

up_from : (n : ℕ) (us : List UnitValue) (k : ℕ) (u : UnitValue) → go_up_from n us ≡ true → slice_get us k ≡ Some u → list_all (goes_up (n + k)) u.code ≡ true
up_from n [] k u up found = absurd (none-some u found)
up_from n (v ∷ us) zero u up found =
    let here = (and_parts (list_all (goes_up n) v.code) (go_up_from (suc n) us) up).0 in
    let place : n ≡ n + 0 = omega arith in
    subst (λ j. list_all (goes_up j) u.code ≡ true) place (subst (λ (x : UnitValue). list_all (goes_up n) x.code ≡ true) (same_Some v u found) here)
up_from n (v ∷ us) (suc k) u up found =
    let place : suc n + k ≡ n + suc k = omega arith in
    subst (λ j. list_all (goes_up j) u.code ≡ true) place
    (up_from (suc n) us k u (and_parts (list_all (goes_up n) v.code) (go_up_from (suc n) us) up).1 found)

-- what an instruction of a unit calls or starts has a greater number
abbrev pub RunsUpward : ModuleValue → Type 0
RunsUpward m = (unit : ℕ) (u : UnitValue) (at : ℕ) (i : Instr) (t : ℕ) → slice_get m.units unit ≡ Some u → slice_get u.code at ≡ Some i → unit_run i ≡ Some t → unit < t

greater : (unit : ℕ) (o : Option ℕ) (t : ℕ) → option_map_or (nat_lt unit) o true ≡ true → o ≡ Some t → unit < t
greater unit None t h e = absurd (none-some t e)
greater unit (Some s) t h e = ltb-true unit t (ap (nat_lt unit) (sym (same_Some s t e)) ∙ h)

pub runs_upward : (m : ModuleValue) → goes_up_only m ≡ true → RunsUpward m
runs_upward m up unit u at i t found here run =
    let all = up_from 0 m.units unit u up found in
    let place : 0 + unit ≡ unit = omega arith in
    greater unit (unit_run i) t (all_at (goes_up unit) u.code at i (subst (λ j. list_all (goes_up j) u.code ≡ true) place all) here) run
