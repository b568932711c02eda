-- What was read is spelled by the tokens taken.
use Rattle.std.proofs.Common.{◌≡◌, ℕ, zero, suc, ◌+◌, ◌-◌, ◌<◌, ◌≤◌, ◌==◌, Bool, true, false, cond, List, [], ◌∷◌, ◌++◌, length, Option, Some, None, refl, sym, ap, subst, ◌∙◌, append_assoc, length-append, arith, rules}
use Rattle.std.proofs.lemmas.Bool.{eqb-true, eqb-false}
use Rattle.std.specs.Prelude.{unsigned_abs, IsSome}
use Rattle.std.proofs.lemmas.Option.{same_Some}
use Rattle.xk_lexer.specs.declared.token.Sign.TheVariants as sign
use Rattle.xk_tree.specs.declared.tree.Operator.{Operator as Op}
use Rattle.xk_tree.specs.declared.tree.Operator.TheVariants as operator
use Rattle.xk_tree.specs.declared.tree.Number as number
use Rattle.xk_exprs.specs.Marks.{Mark, Name, Number, Operator, Open, CloseAt, Symbol, Reserved, AsyncAt, FinishAt, ClockedAt, ClockAt, LongAt, Unfit}
use Rattle.xk_tree.specs.Tree.{Expression, Word, Literal, Named, Paren, Negation, Binary}
use Rattle.xk_exprs.specs.Spelling.{minus_marks, spell, binds, level, depth, operators, IsNegatable, IsGrouped, Spells, SpellsTerm}
use Rattle.xk_exprs.specs.ReaderCombinators.{◌>>=◌, Fails, Goes, loop}
use Rattle.xk_exprs.specs.ExprReaders.{Read, close_at, joined, operand, another, chain_at, terms, sums, negated, digits_at, literal, number_of, valued, minus_or, factor_at, whole_at, whole_term_at}
use Rattle.xk_exprs.proofs.LoopLemmas.{bind_some, Shrinks, loop_keeps}
use Rattle.xk_exprs.proofs.NumberLemmas.{digits_is, literal_found}

-- an expression of this level and depth was read, and operators were counted
pub record Took (k d ops : ℕ) (ts : List Mark) (x : (Expression × ℕ) × List Mark) : Type 0 where
  pub parts : ts ≡ spell x.0.0 ++ x.1
  pub grouped : IsGrouped x.0.0
  pub level_le : level x.0.0 ≤ k
  pub depth_le : depth x.0.0 ≤ d
  pub counted : operators x.0.0 + x.0.1 ≡ ops

abbrev pub Sound : ℕ → ℕ → (ℕ → List Mark → Read) → Type 0
Sound k d item = (ops : ℕ) (ts : List Mark) (x : (Expression × ℕ) × List Mark) → item ops ts ≡ Some x → Took k d ops ts x

-- an operator and its operand were read
pub record Joins (k : ℕ) (item : ℕ → List Mark → Read) (x : Expression × ℕ) (us : List Mark) (y : Expression × ℕ) (vs : List Mark) : Type 0 where
  pub at : ℕ
  pub by : Op
  pub after : List Mark
  pub right : (Expression × ℕ) × List Mark
  pub tokens : us ≡ Operator at by ∷ after
  pub binds_is : binds by ≡ k
  pub some : 0 < x.1
  pub read : item (x.1 - 1) after ≡ Some right
  pub made : y ≡ (Binary by x.0 at right.0.0, right.0.1)
  pub rest : vs ≡ right.1

pub another_joins : (k : ℕ) (item : ℕ → List Mark → Read) (x : Expression × ℕ) (us : List Mark) (y : Expression × ℕ) (vs : List Mark)
    → another k item x us ≡ Goes y vs → Joins k item x us y vs
unfolding another
another_joins k item x [] y vs e = absurd cc
another_joins k item x (Operator at o ∷ us) y vs e = first (binds o == k) refl e
  where
    third : (r : Read) → item (x.1 - 1) us ≡ r → binds o ≡ k → 0 < x.1 → joined x.0 (at, o) r ≡ Goes y vs → Joins k item x (Operator at o ∷ us) y vs
    third None h b p e = absurd cc
    third (Some r) h b p e = record { at = at; by = o; after = us; right = r; tokens = refl; binds_is = b; some = p; read = h; made = cc; rest = cc }

    second : (b : Bool) → (x.1 == 0) ≡ b → binds o ≡ k → cond b Fails (joined x.0 (at, o) (item (x.1 - 1) us)) ≡ Goes y vs → Joins k item x (Operator at o ∷ us) y vs
    second true h b e = absurd cc
    second false h b e = let ne = eqb-false x.1 0 h in third (item (x.1 - 1) us) refl b (omega arith) e

    first : (b : Bool) → (binds o == k) ≡ b → operand item x (cond b (Some ((at, o), us)) None) ≡ Goes y vs → Joins k item x (Operator at o ∷ us) y vs
    first true h e = second (x.1 == 0) refl (eqb-true (binds o) k h) e
    first false h e = absurd cc
another_joins k item x (_ ∷ us) y vs e = absurd cc

shrinks_by : (k d : ℕ) (item : ℕ → List Mark → Read) → Sound k d item → (x : Expression × ℕ) (us : List Mark) (y : Expression × ℕ) (vs : List Mark)
    → Joins (suc k) item x us y vs → length vs < length us
shrinks_by k d item s x us y vs j =
    let t = s (x.1 - 1) j.after j.right j.read in
    let a : length j.after ≡ length (spell j.right.0.0) + length j.right.1 = ap length t.parts ∙ length-append (spell j.right.0.0) j.right.1 in
    let b : length us ≡ suc (length j.after) = ap length j.tokens in
    let c : length vs ≡ length j.right.1 = ap length j.rest in
    omega arith

pub another_shrinks : (k d : ℕ) (item : ℕ → List Mark → Read) → Sound k d item → Shrinks (another (suc k) item)
another_shrinks k d item s x us y vs e = shrinks_by k d item s x us y vs (another_joins (suc k) item x us y vs e)

goes_on : (k d ops : ℕ) (item : ℕ → List Mark → Read) (ts : List Mark) → Sound k d item
    → (x : Expression × ℕ) (us : List Mark) (y : Expression × ℕ) (vs : List Mark) → Took (suc k) d ops ts (x, us) → Joins (suc k) item x us y vs
    → Took (suc k) d ops ts (y, vs)
goes_on k d ops item ts s x us y vs t j =
    let r = s (x.1 - 1) j.after j.right j.read in
    let made : (Expression × ℕ) × List Mark = ((Binary j.by x.0 j.at j.right.0.0, j.right.0.1), j.right.1) in
    let whole : ts ≡ (spell x.0 ++ Operator j.at j.by ∷ spell j.right.0.0) ++ j.right.1 =
    t.parts ∙ ap (λ (z : List Mark). spell x.0 ++ z) (j.tokens ∙ ap (λ (z : List Mark). Operator j.at j.by ∷ z) r.parts)
    ∙ sym (append_assoc (spell x.0) (Operator j.at j.by ∷ spell j.right.0.0) j.right.1) in
    let h1 = t.level_le in
    let h2 = r.level_le in
    let h3 = t.depth_le in
    let h4 = r.depth_le in
    let h5 = t.counted in
    let h6 = r.counted in
    let h7 = j.binds_is in
    let h8 = j.some in
    let took : Took (suc k) d ops ts made = record {
      parts = whole;
      grouped = (t.grouped, r.grouped, omega arith, omega arith);
      level_le = omega arith;
      depth_le = omega arith;
      counted = omega arith;
    } in
    let q : made ≡ (y, vs) = cc (j.made, j.rest) in
    subst (λ (z : (Expression × ℕ) × List Mark). Took (suc k) d ops ts z) q took

raised : (k d ops : ℕ) (ts : List Mark) (x : (Expression × ℕ) × List Mark) → Took k d ops ts x → Took (suc k) d ops ts x
raised k d ops ts x t = let h = t.level_le in record { parts = t.parts; grouped = t.grouped; level_le = omega arith; depth_le = t.depth_le; counted = t.counted }

chain_sound : (k d : ℕ) (item : ℕ → List Mark → Read) → Sound k d item → Sound (suc k) d (chain_at (suc k) item)
unfolding chain_at
chain_sound k d item s ops ts x e =
    let b = bind_some (item ops ts) (λ first. loop (another (suc k) item) first.0 first.1) x e in
    loop_keeps (another (suc k) item) (λ y us. Took (suc k) d ops ts (y, us))
    (λ y us z vs t h. goes_on k d ops item ts s y us z vs t (another_joins (suc k) item y us z vs h))
    b.0.0 b.0.1 x (raised k d ops ts b.0 (s ops ts b.0 b.1)) b.2

pub terms_sound : (d : ℕ) (item : ℕ → List Mark → Read) → Sound 0 d item → Sound 1 d (terms item)
unfolding terms
terms_sound d item s = chain_sound 0 d item s

sums_sound : (d : ℕ) (item : ℕ → List Mark → Read) → Sound 0 d item → Sound 2 d (sums item)
unfolding sums
sums_sound d item s = chain_sound 1 d (terms item) (terms_sound d item s)

-- ---- factors

close_is : (ts us : List Mark) → close_at ts ≡ Some us → ts ≡ Symbol sign.RightParen ∷ us
close_is [] us e = absurd cc
close_is (Symbol sign.RightParen ∷ ts) us e = let q : ts ≡ us = cc in ap (λ (z : List Mark). Symbol sign.RightParen ∷ z) q
close_is (_ ∷ ts) us e = absurd cc

bare_digits : (m : Option ℕ) (at n : ℕ) (rest : List Mark) → digits_at ((minus_marks m ++ Number at n ∷ []) ++ rest) ≡ None → IsSome m
bare_digits None at n rest h = absurd cc
bare_digits (Some k) at n rest h = search rules

is_negatable : (e : Expression) (rest : List Mark) → digits_at (spell e ++ rest) ≡ None → IsNegatable e
is_negatable (Literal n) rest h = bare_digits n.minus n.at (unsigned_abs n.value) rest h
is_negatable (Named w) rest h = tt
is_negatable (Paren at e) rest h = tt
is_negatable (Negation at e) rest h = tt
is_negatable (Binary o l at r) rest h = tt

took_leaf : (d ops : ℕ) (ts rest : List Mark) (e : Expression) (x : (Expression × ℕ) × List Mark) → ts ≡ spell e ++ rest → IsGrouped e → level e ≡ 0
    → depth e ≡ 0 → operators e ≡ 0 → ((e, ops), rest) ≡ x → Took 0 d ops ts x
took_leaf d ops ts rest e x p g l h o q =
    subst (λ (z : (Expression × ℕ) × List Mark). Took 0 d ops ts z) q
    (record { parts = p; grouped = g; level_le = omega arith; depth_le = omega arith; counted = omega arith })

number_took : (d ops : ℕ) (m : Option ℕ) (at n : ℕ) (ts rest : List Mark) (x : (Expression × ℕ) × List Mark) → ts ≡ (minus_marks m ++ Number at n ∷ []) ++ rest
    → valued ops (number_of m ((at, n), rest)) ≡ Some x → Took 0 d ops ts x
number_took d ops m at n ts rest x p e =
    let a = bind_some (number_of m ((at, n), rest)) (λ r. Some ((Literal r.0, ops), r.1)) x e in
    let b = bind_some (literal m at n) (λ r. Some (r, rest)) a.0 a.1 in
    let f = literal_found m at n b.0 b.1 in
    let q : (b.0, rest) ≡ a.0 = cc in
    let same : ((Literal b.0, ops), rest) ≡ x = ap (λ (z : number.Number × List Mark). ((Literal z.0, ops), z.1)) q ∙ same_Some _ _ a.2 in
    took_leaf d ops ts rest (Literal b.0) x (p ∙ ap (λ (z : List Mark). z ++ rest) (sym f.marks)) f.is_number refl refl refl same

minus_took : (d at ops : ℕ) (ts : List Mark) (n : (ℕ × ℕ) × List Mark) (x : (Expression × ℕ) × List Mark) → digits_at ts ≡ Some n
    → valued ops (number_of (Some at) n) ≡ Some x → Took 0 d ops (Operator at operator.Minus ∷ ts) x
minus_took d at ops ts n x h e =
    number_took d ops (Some at) n.0.0 n.0.1 (Operator at operator.Minus ∷ ts) n.1 x
    (ap (λ (z : List Mark). Operator at operator.Minus ∷ z) (digits_is ts n h)) e

guard_none : {A : Type 0} (b : Bool) (o : Option A) (y : A) → cond b None o ≡ Some y → (b ≡ false) × (o ≡ Some y)
guard_none true o y e = absurd cc
guard_none false o y e = (refl, e)

negation_took : (d at ops : ℕ) (ts : List Mark) (x : (Expression × ℕ) × List Mark)
    → ((y : (Expression × ℕ) × List Mark) → factor_at d (ops - 1) ts ≡ Some y → Took 0 d (ops - 1) ts y) → digits_at ts ≡ None
    → cond (ops == 0) None (negated at (factor_at d (ops - 1) ts)) ≡ Some x → Took 0 (suc d) ops (Operator at operator.Minus ∷ ts) x
negation_took d at ops ts x ih h e =
    let g = guard_none (ops == 0) (negated at (factor_at d (ops - 1) ts)) x e in
    let a = bind_some (factor_at d (ops - 1) ts) (λ inner. Some ((Negation at inner.0.0, inner.0.1), inner.1)) x g.1 in
    let t = ih a.0 a.1 in
    let made : (Expression × ℕ) × List Mark = ((Negation at a.0.0.0, a.0.0.1), a.0.1) in
    let h1 = t.level_le in
    let h3 = t.depth_le in
    let h5 = t.counted in
    let ne = eqb-false ops 0 g.0 in
    let nd = is_negatable a.0.0.0 a.0.1 (sym (ap digits_at t.parts) ∙ h) in
    let took : Took 0 (suc d) ops (Operator at operator.Minus ∷ ts) made = record {
      parts = ap (λ (z : List Mark). Operator at operator.Minus ∷ z) t.parts;
      grouped = (t.grouped, omega arith, nd);
      level_le = omega arith;
      depth_le = omega arith;
      counted = omega arith;
    } in
    subst (λ (z : (Expression × ℕ) × List Mark). Took 0 (suc d) ops (Operator at operator.Minus ∷ ts) z) (same_Some made x a.2) took

pub factor_sound : (d : ℕ) → Sound 0 d (factor_at d)
unfolding factor_at
factor_sound d ops [] x e = absurd cc
factor_sound d ops (Number at n ∷ ts) x e = number_took d ops None at n (Number at n ∷ ts) ts x refl e
factor_sound d ops (Name at text ∷ ts) x e =
    let w : Word = record { at = at; text = text } in
    took_leaf d ops (Name at text ∷ ts) ts (Named w) x refl tt refl refl refl (same_Some _ _ e)
factor_sound zero ops (Open at ∷ ts) x e = absurd cc
factor_sound (suc d) ops (Open at ∷ ts) x e =
    let a = bind_some (sums (factor_at d) ops ts) (λ inner. close_at inner.1 >>= λ rest. Some ((Paren at inner.0.0, inner.0.1), rest)) x e in
    let b = bind_some (close_at a.0.1) (λ rest. Some ((Paren at a.0.0.0, a.0.0.1), rest)) x a.2 in
    let t = sums_sound d (factor_at d) (factor_sound d) ops ts a.0 a.1 in
    let made : (Expression × ℕ) × List Mark = ((Paren at a.0.0.0, a.0.0.1), b.0) in
    let whole : Open at ∷ ts ≡ (Open at ∷ (spell a.0.0.0 ++ Symbol sign.RightParen ∷ [])) ++ b.0 =
    ap (λ (z : List Mark). Open at ∷ z)
    (t.parts ∙ ap (λ (z : List Mark). spell a.0.0.0 ++ z) (close_is a.0.1 b.0 b.1) ∙ sym (append_assoc (spell a.0.0.0) (Symbol sign.RightParen ∷ []) b.0)) in
    let h3 = t.depth_le in
    let h5 = t.counted in
    let took : Took 0 (suc d) ops (Open at ∷ ts) made = record { parts = whole; grouped = t.grouped; level_le = omega arith; depth_le = omega arith; counted = omega arith } in
    subst (λ (z : (Expression × ℕ) × List Mark). Took 0 (suc d) ops (Open at ∷ ts) z) (same_Some made x b.2) took
factor_sound d ops (Operator at operator.Plus ∷ ts) x e = absurd cc
factor_sound d ops (Operator at operator.Times ∷ ts) x e = absurd cc
factor_sound zero ops (Operator at operator.Minus ∷ ts) x e = by (digits_at ts) refl e
  where
    by : (o : Option ((ℕ × ℕ) × List Mark)) → digits_at ts ≡ o → minus_or at ops o None ≡ Some x → Took 0 zero ops (Operator at operator.Minus ∷ ts) x
    by None h e = absurd cc
    by (Some n) h e = minus_took zero at ops ts n x h e
factor_sound (suc d) ops (Operator at operator.Minus ∷ ts) x e = by (factor_sound d (ops - 1) ts) (digits_at ts) refl e
  where
    by : ((y : (Expression × ℕ) × List Mark) → factor_at d (ops - 1) ts ≡ Some y → Took 0 d (ops - 1) ts y) → (o : Option ((ℕ × ℕ) × List Mark))
        → digits_at ts ≡ o → minus_or at ops o (cond (ops == 0) None (negated at (factor_at d (ops - 1) ts))) ≡ Some x
        → Took 0 (suc d) ops (Operator at operator.Minus ∷ ts) x
    by ih None h e = negation_took d at ops ts x ih h e
    by ih (Some n) h e = minus_took (suc d) at ops ts n x h e
factor_sound d ops (Symbol s ∷ ts) x e = absurd cc
factor_sound d ops (CloseAt at ∷ ts) x e = absurd cc
factor_sound d ops (Reserved k ∷ ts) x e = absurd cc
factor_sound d ops (AsyncAt at ∷ ts) x e = absurd cc
factor_sound d ops (FinishAt at ∷ ts) x e = absurd cc
factor_sound d ops (ClockedAt at ∷ ts) x e = absurd cc
factor_sound d ops (ClockAt at ∷ ts) x e = absurd cc
factor_sound d ops (LongAt at ∷ ts) x e = absurd cc
factor_sound d ops (Unfit ∷ ts) x e = absurd cc

-- ---- what the loops over factors and terms take

pub term_shrinks : (d : ℕ) → Shrinks (another 1 (factor_at d))
term_shrinks d = another_shrinks 0 d (factor_at d) (factor_sound d)

pub sum_shrinks : (d : ℕ) → Shrinks (another 2 (terms (factor_at d)))
sum_shrinks d = another_shrinks 1 d (terms (factor_at d)) (terms_sound d (factor_at d) (factor_sound d))

-- ---- whole expressions and terms

pub expression_found : (left : ℕ) (ts : List Mark) (e : Expression) (rest : List Mark)
    → whole_at left ts ≡ Some (e, rest) → (front : List Mark) × (ts ≡ front ++ rest) × Spells left front e
unfolding whole_at
expression_found d ts e rest h =
    let b = bind_some (sums (factor_at d) 64 ts) (λ x. Some (x.0.0, x.1)) (e, rest) h in
    let t = sums_sound d (factor_at d) (factor_sound d) 64 ts b.0 b.1 in
    let q : (b.0.0.0, b.0.1) ≡ (e, rest) = cc in
    let n = t.counted in
    let m = t.depth_le in
    subst (λ (z : Expression × List Mark). (front : List Mark) × (ts ≡ front ++ z.1) × Spells d front z.0) q
    (spell b.0.0.0, t.parts, record { spelled = refl; grouped = t.grouped; depth = m; operators = omega arith })

pub term_found : (left : ℕ) (ts : List Mark) (e : Expression) (rest : List Mark)
    → whole_term_at left ts ≡ Some (e, rest) → (front : List Mark) × (ts ≡ front ++ rest) × SpellsTerm left front e
unfolding whole_term_at
term_found d ts e rest h =
    let b = bind_some (terms (factor_at d) 64 ts) (λ x. Some (x.0.0, x.1)) (e, rest) h in
    let t = terms_sound d (factor_at d) (factor_sound d) 64 ts b.0 b.1 in
    let q : (b.0.0.0, b.0.1) ≡ (e, rest) = cc in
    let n = t.counted in
    let m = t.depth_le in
    subst (λ (z : Expression × List Mark). (front : List Mark) × (ts ≡ front ++ z.1) × SpellsTerm d front z.0) q
    (spell b.0.0.0, t.parts, record { spells = record { spelled = refl; grouped = t.grouped; depth = m; operators = omega arith }; level = t.level_le })
