-- Behind what was read stands no operator that would go on with it.
use Rattle.std.proofs.Common.{◌≡◌, ℕ, suc, ◌-◌, ◌<◌, ◌==◌, Bool, true, false, cond, List, [], ◌∷◌, Option, Some, None, refl, sym, subst, arith}
use Rattle.std.proofs.lemmas.Bool.{eqb-false}
use Rattle.xk_tree.specs.declared.tree.Operator.{Operator as Op}
use Rattle.xk_tree.specs.declared.tree.Operator.TheVariants as operator
use Rattle.xk_exprs.specs.Marks.{Mark, Name, Number, Operator, Open, CloseAt, Symbol, Reserved, AsyncAt, FinishAt, ClockedAt, ClockAt, LongAt, Unfit}
use Rattle.xk_tree.specs.Tree.{Expression}
use Rattle.xk_exprs.specs.Spelling.{binds, Ends}
use Rattle.xk_exprs.specs.ReaderCombinators.{Fails, Stops, loop}
use Rattle.xk_exprs.specs.ExprReaders.{Read, operator_at, operand, joined, another, chain_at, terms, sums, factor_at}
use Rattle.xk_exprs.proofs.LoopLemmas.{bind_some, loop_keeps, loop_stopped}
use Rattle.xk_exprs.proofs.SoundnessLemmas.{another_joins}

-- what is read by `item` ends so
abbrev EndsAt : ℕ → (ℕ → List Mark → Read) → Type 0
EndsAt k item = (ops : ℕ) (ts : List Mark) (x : (Expression × ℕ) × List Mark) → item ops ts ≡ Some x → Ends k x.1

-- the loop stops where no operator stands
operand_stops : (item : ℕ → List Mark → Read) (x : Expression × ℕ) (o : Option ((ℕ × Op) × List Mark)) → operand item x o ≡ Stops → o ≡ None
operand_stops item x None e = refl
operand_stops item x (Some o) e = absurd (by (x.1 == 0) e)
  where
    joins : (r : Read) → joined x.0 o.0 r ≡ Stops → ⊥
    joins None e = cc
    joins (Some r) e = cc

    by : (b : Bool) → cond b Fails (joined x.0 o.0 (item (x.1 - 1) o.1)) ≡ Stops → ⊥
    by true e = cc
    by false e = joins (item (x.1 - 1) o.1) e

-- none that binds one less tight stands there either
ends_more : (k : ℕ) (ts : List Mark) → Ends k ts → operator_at (suc k) ts ≡ None → Ends (suc k) ts
ends_more k [] h e = tt
ends_more k (Operator at o ∷ ts) h e = by (binds o == suc k) refl e
  where
    by : (b : Bool) → (binds o == suc k) ≡ b → cond {A = Option ((ℕ × Op) × List Mark)} b (Some ((at, o), ts)) None ≡ None → suc k < binds o
    by true q e = absurd cc
    by false q e = let n = eqb-false (binds o) (suc k) q in omega arith
ends_more k (Name at x ∷ ts) h e = tt
ends_more k (Number at n ∷ ts) h e = tt
ends_more k (Open at ∷ ts) h e = tt
ends_more k (CloseAt at ∷ ts) h e = tt
ends_more k (Symbol s ∷ ts) h e = tt
ends_more k (AsyncAt at ∷ ts) h e = tt
ends_more k (FinishAt at ∷ ts) h e = tt
ends_more k (ClockedAt at ∷ ts) h e = tt
ends_more k (ClockAt at ∷ ts) h e = tt
ends_more k (LongAt at ∷ ts) h e = tt
ends_more k (Reserved w ∷ ts) h e = tt
ends_more k (Unfit ∷ ts) h e = tt

-- every operator binds
ends_least : (ts : List Mark) → Ends 0 ts
ends_least [] = tt
ends_least (Operator at operator.Plus ∷ ts) = omega arith
ends_least (Operator at operator.Minus ∷ ts) = omega arith
ends_least (Operator at operator.Times ∷ ts) = omega arith
ends_least (Name at x ∷ ts) = tt
ends_least (Number at n ∷ ts) = tt
ends_least (Open at ∷ ts) = tt
ends_least (CloseAt at ∷ ts) = tt
ends_least (Symbol s ∷ ts) = tt
ends_least (AsyncAt at ∷ ts) = tt
ends_least (FinishAt at ∷ ts) = tt
ends_least (ClockedAt at ∷ ts) = tt
ends_least (ClockAt at ∷ ts) = tt
ends_least (LongAt at ∷ ts) = tt
ends_least (Reserved w ∷ ts) = tt
ends_least (Unfit ∷ ts) = tt

chain_ends : (k : ℕ) (item : ℕ → List Mark → Read) → EndsAt k item → EndsAt (suc k) (chain_at (suc k) item)
unfolding chain_at another
chain_ends k item each ops ts x e =
    let b = bind_some (item ops ts) (λ first. loop (another (suc k) item) first.0 first.1) x e in
    let kept = loop_keeps (another (suc k) item) (λ y us. Ends k us)
    (λ y us z vs h q. let j = another_joins (suc k) item y us z vs q in subst (Ends k) (sym j.rest) (each (y.1 - 1) j.after j.right j.read))
    b.0.0 b.0.1 x (each ops ts b.0 b.1) b.2 in
    ends_more k x.1 kept (operand_stops item x.0 (operator_at (suc k) x.1) (loop_stopped (another (suc k) item) b.0.0 b.0.1 x b.2))

pub terms_end : (d : ℕ) → EndsAt 1 (terms (factor_at d))
unfolding terms
terms_end d = chain_ends 0 (factor_at d) (λ ops ts x e. ends_least x.1)

pub sums_end : (d : ℕ) → EndsAt 2 (sums (factor_at d))
unfolding sums
sums_end d = chain_ends 1 (terms (factor_at d)) (terms_end d)
