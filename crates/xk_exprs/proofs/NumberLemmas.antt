-- Numbers and their tokens.
use Rattle.std.proofs.Common.{◌≡◌, ℕ, zero, suc, ◌^◌, ◌<◌, ◌≤◌, true, ltb, leb, ℤ, pos, negsuc, neg_ℤ, List, [], ◌∷◌, ◌++◌, Option, Some, None, refl, sym, ap, subst, ◌∙◌, append_assoc, arith}
use Rattle.std.specs.Prelude.{◌≤ℤ◌, unsigned_abs}
use Rattle.std.proofs.lemmas.Bool.{lt-ltb, le-leb, ltb-true, leb-true}
use Rattle.std.proofs.lemmas.Int.{ints}
use Rattle.std.proofs.lemmas.Option.{cond_some}
use Rattle.xk_tree.specs.declared.tree.Operator.TheVariants as operator
use Rattle.xk_tree.specs.declared.tree.Number as number
use Rattle.xk_exprs.specs.Marks.{Mark, Number, Operator}
use Rattle.xk_exprs.specs.Spelling.{minus_marks, number_marks, IsValue, IsNumber}
use Rattle.xk_exprs.specs.ExprReaders.{value_of, literal, number_of, number_from, number_or, number_at, digits_at, minus_at}
use Rattle.xk_exprs.specs.Laws.{NumberFound, NumberAgain}
use Rattle.xk_exprs.proofs.LoopLemmas.{bind_some}

abs_neg : (n : ℕ) → unsigned_abs (neg_ℤ (pos n)) ≡ n
abs_neg zero = refl
abs_neg (suc n) = refl

neg_range : (n : ℕ) → n ≤ 2 ^ 63 → (neg_ℤ (pos (2 ^ 63)) ≤ℤ neg_ℤ (pos n)) × (neg_ℤ (pos n) ≤ℤ pos 0)
neg_range n h = (omega (arith, ints), omega (arith, ints))

-- a value that digits have is one of 64 bits, and they are its digits
value_found : (m : Option ℕ) (n : ℕ) (v : ℤ) → value_of m n ≡ Some v → (unsigned_abs v ≡ n) × IsValue m v
unfolding value_of
value_found None n v e =
    let c = cond_some (ltb n (2 ^ 63)) (pos n) v e in
    let h : n < 2 ^ 63 = ltb-true n (2 ^ 63) c.0 in
    subst (λ (z : ℤ). (unsigned_abs z ≡ n) × IsValue None z) c.1 (refl, (omega (arith, ints), omega (arith, ints)))
value_found (Some at) n v e =
    let c = cond_some (leb n (2 ^ 63)) (neg_ℤ (pos n)) v e in
    let h : n ≤ 2 ^ 63 = leb-true n (2 ^ 63) c.0 in
    subst (λ (z : ℤ). (unsigned_abs z ≡ n) × IsValue (Some at) z) c.1 (abs_neg n, neg_range n h)

-- a value of 64 bits is that of its digits
value_again : (m : Option ℕ) (v : ℤ) → IsValue m v → value_of m (unsigned_abs v) ≡ Some v
unfolding value_of
value_again None (pos n) h =
    let lt : n < 2 ^ 63 = let p = h.1 in omega (arith, ints) in
    let t : ltb n (2 ^ 63) ≡ true = lt-ltb n (2 ^ 63) lt in
    rw t refl
value_again None (negsuc n) h = let p = h.0 in absurd (omega (arith, ints))
value_again (Some at) (pos zero) h = refl
value_again (Some at) (pos (suc n)) h = let p = h.1 in absurd (omega (arith, ints))
value_again (Some at) (negsuc n) h =
    let le : suc n ≤ 2 ^ 63 = let p = h.0 in omega (arith, ints) in
    let t : leb (suc n) (2 ^ 63) ≡ true = le-leb (suc n) (2 ^ 63) le in
    rw t refl

-- a number that was read, its digits and its `-`
pub record Literally (m : Option ℕ) (at n : ℕ) (r : number.Number) : Type 0 where
  pub marks : number_marks r ≡ minus_marks m ++ Number at n ∷ []
  pub is_number : IsNumber r

pub literal_found : (m : Option ℕ) (at n : ℕ) (r : number.Number) → literal m at n ≡ Some r → Literally m at n r
literal_found m at n r e =
    let b = bind_some (value_of m n) (λ v. let x : number.Number = record { minus = m; at = at; value = v } in Some x) r e in
    let f = value_found m n b.0 b.1 in
    let made : number.Number = record { minus = m; at = at; value = b.0 } in
    let q : made ≡ r = cc in
    subst (λ (z : number.Number). Literally m at n z) q
    (record { marks = ap (λ (k : ℕ). minus_marks m ++ Number at k ∷ []) f.0; is_number = f.1 })

pub literal_again : (n : number.Number) → IsNumber n → literal n.minus n.at (unsigned_abs n.value) ≡ Some n
literal_again n h = rw (value_again n.minus n.value h) refl

-- ---- reading

-- digits that are read stand in front
pub digits_is : (ts : List Mark) (x : (ℕ × ℕ) × List Mark) → digits_at ts ≡ Some x → ts ≡ Number x.0.0 x.0.1 ∷ x.1
digits_is [] x e = absurd cc
digits_is (Number at n ∷ ts) x e = let q : ((at, n), ts) ≡ x = cc in subst (λ (z : (ℕ × ℕ) × List Mark). Number at n ∷ ts ≡ Number z.0.0 z.0.1 ∷ z.1) q refl
digits_is (_ ∷ ts) x e = absurd cc

minus_is : (ts : List Mark) (x : ℕ × List Mark) → minus_at ts ≡ Some x → ts ≡ Operator x.0 operator.Minus ∷ x.1
minus_is [] x e = absurd cc
minus_is (Operator at operator.Minus ∷ ts) x e =
    let q : (at, ts) ≡ x = cc in
    subst (λ (z : ℕ × List Mark). Operator at operator.Minus ∷ ts ≡ Operator z.0 operator.Minus ∷ z.1) q refl
minus_is (_ ∷ ts) x e = absurd cc

number_behind : (m : Option ℕ) (ts us : List Mark) (n : number.Number) (rest : List Mark) → us ≡ minus_marks m ++ ts → number_from m ts ≡ Some (n, rest)
    → (us ≡ number_marks n ++ rest) × IsNumber n
number_behind m ts us n rest p e =
    let a = bind_some (digits_at ts) (number_of m) (n, rest) e in
    let b = bind_some (literal m a.0.0.0 a.0.0.1) (λ r. Some (r, a.0.1)) (n, rest) a.2 in
    let f = literal_found m a.0.0.0 a.0.0.1 b.0 b.1 in
    let q : (b.0, a.0.1) ≡ (n, rest) = cc in
    let whole : us ≡ number_marks b.0 ++ a.0.1 =
    p ∙ ap (λ (z : List Mark). minus_marks m ++ z) (digits_is ts a.0 a.1)
    ∙ sym (append_assoc (minus_marks m) (Number a.0.0.0 a.0.0.1 ∷ []) a.0.1) ∙ ap (λ (z : List Mark). z ++ a.0.1) (sym f.marks) in
    subst (λ (z : number.Number × List Mark). (us ≡ number_marks z.0 ++ z.1) × IsNumber z.0) q (whole, f.is_number)

pub number_found : NumberFound
unfolding number_at
number_found ts n rest e = by (minus_at ts) refl e
  where
    by : (o : Option (ℕ × List Mark)) → minus_at ts ≡ o → number_or ts o ≡ Some (n, rest) → (ts ≡ number_marks n ++ rest) × IsNumber n
    by None h e = number_behind None ts ts n rest refl e
    by (Some x) h e = number_behind (Some x.0) x.1 ts n rest (minus_is ts x h) e

read_behind : (m : Option ℕ) (at n : ℕ) (rest : List Mark) (r : number.Number) → literal m at n ≡ Some r
    → number_at ((minus_marks m ++ Number at n ∷ []) ++ rest) ≡ Some (r, rest)
unfolding number_at
read_behind None at n rest r e = rw e refl
read_behind (Some k) at n rest r e = rw e refl

pub number_again : NumberAgain
number_again n rest h = read_behind n.minus n.at (unsigned_abs n.value) rest n (literal_again n h)
