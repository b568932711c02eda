-- The two halves of a loop or a finish: each stands in the code, and names the other.
use Rattle.std.proofs.Common.{◌≡◌, ℕ, ℤ, Option, Some, None, ◌+◌, List, [], ◌∷◌, ◌++◌, length, inl, inr, ◌⊎◌, refl, sym, subst}
use Rattle.std.proofs.lemmas.Bool.{false≢true}
use Rattle.xk_types.specs.declared.instr.Instr.{Instr}
use Rattle.xk_types.specs.declared.instr.Instr.TheVariants as instr
use Rattle.xk_emit.proofs.ShapeLemmas.PositionLemmas.{Stands, stands_in, stands_left, stands_right, stands_last, Between, between, Holds, holds_at}
use Rattle.xk_emit.proofs.ShapeLemmas.StructureLemmas.{Nest, Row, Then, Where, Choice, Loop, Closed, head, lay, EachRow}
use Rattle.xk_emit.proofs.ShapeLemmas.JumpTargetLemmas.{Plain, until}

-- the head of the loop whose `next` stands at place `at`
pub record IsHead (p : ℕ) (code : List Instr) (b at : ℕ) : Type 0 where
  pub k : ℕ
  pub lo : ℤ
  pub limit : Option ℕ
  pub hi : ℤ
  pub stands : Stands p code b (head k lo limit hi at)

-- the other half of the instruction at place `at`
abbrev pub Paired : ℕ → List Instr → ℕ → Instr → Type 0
Paired p code at (instr.For k lo hi e) = Stands p code e (instr.Next at)
Paired p code at (instr.ForTo k lo x hi e) = Stands p code e (instr.Next at)
Paired p code at (instr.Next b) = IsHead p code b at
Paired p code at (instr.Finish e) = Stands p code e (instr.EndFinish at)
Paired p code at (instr.EndFinish b) = Stands p code b (instr.Finish at)
Paired p code at _ = Unit {0}

plain_paired : (p : ℕ) (code : List Instr) (at : ℕ) (i : Instr) → Plain i → Paired p code at i
plain_paired p code at (instr.For k lo hi e) h = absurd (false≢true h)
plain_paired p code at (instr.ForTo k lo x hi e) h = absurd (false≢true h)
plain_paired p code at (instr.Next b) h = absurd (false≢true h)
plain_paired p code at (instr.Finish e) h = absurd (false≢true h)
plain_paired p code at (instr.EndFinish b) h = absurd (false≢true h)
plain_paired p code at _ h = tt

-- in more code
paired_more : (p q : ℕ) (xs ys : List Instr) → ((at : ℕ) (i : Instr) → Stands p xs at i → Stands q ys at i) → (at : ℕ) (i : Instr) → Paired p xs at i → Paired q ys at i
paired_more p q xs ys more at (instr.For k lo hi e) h = more e (instr.Next at) h
paired_more p q xs ys more at (instr.ForTo k lo x hi e) h = more e (instr.Next at) h
paired_more p q xs ys more at (instr.Next b) h =
    record { k = h.k; lo = h.lo; limit = h.limit; hi = h.hi; stands = more b (head h.k h.lo h.limit h.hi at) h.stands }
paired_more p q xs ys more at (instr.Finish e) h = more e (instr.EndFinish at) h
paired_more p q xs ys more at (instr.EndFinish b) h = more b (instr.Finish at) h
paired_more p q xs ys more at _ h = tt

-- ---- structures

abbrev AllPaired : ℕ → List Instr → Type 0
AllPaired p code = (at : ℕ) (i : Instr) → Stands p code at i → Paired p code at i

paired_row : (p : ℕ) (is : List Instr) → Holds Plain is → AllPaired p is
paired_row p is r at i h = plain_paired p is at i (holds_at Plain p is at i r h)

paired_then : (p q : ℕ) (xs ys : List Instr) → q ≡ p + length xs → AllPaired p xs → AllPaired q ys → AllPaired p (xs ++ ys)
paired_then p q xs ys e f g at i h = go (stands_in p q xs ys at i e h)
  where
    go : Stands p xs at i ⊎ Stands q ys at i → Paired p (xs ++ ys) at i
    go (inl k) = paired_more p p xs (xs ++ ys) (stands_left p xs ys) at i (f at i k)
    go (inr k) = paired_more q p ys (xs ++ ys) (λ a j s. stands_right p q xs ys a j e s) at i (g at i k)

-- behind an instruction that has no other half
paired_behind : (p : ℕ) (first : Instr) (xs : List Instr) → Paired p (first ∷ xs) p first → AllPaired (p + 1) xs → AllPaired p (first ∷ xs)
paired_behind p first xs e f at i (inl h) = subst (λ k. Paired p (first ∷ xs) k i) (sym h.0) (subst (Paired p (first ∷ xs) p) h.1 e)
paired_behind p first xs e f at i (inr h) = paired_more (p + 1) p xs (first ∷ xs) (λ a j s. inr s) at i (f at i h)

-- a body between two halves
paired_round : (p : ℕ) (first last : Instr) (body : List Instr) → AllPaired (p + 1) body → Paired p (first ∷ (body ++ last ∷ [])) p first
    → Paired p (first ∷ (body ++ last ∷ [])) (p + 1 + length body) last → AllPaired p (first ∷ (body ++ last ∷ []))
paired_round p first last body f opens closes at i h = go (between p first body last [] at i h)
  where
    go : Between p first body last [] at i → Paired p (first ∷ (body ++ last ∷ [])) at i
    go (inl e) = subst (λ k. Paired p (first ∷ (body ++ last ∷ [])) k i) (sym e.0) (subst (Paired p (first ∷ (body ++ last ∷ [])) p) e.1 opens)
    go (inr (inl k)) = paired_more (p + 1) p body (first ∷ (body ++ last ∷ [])) (λ a j s. inr (stands_left (p + 1) body (last ∷ []) a j s)) at i (f at i k)
    go (inr (inr (inl e))) = subst (λ k. Paired p (first ∷ (body ++ last ∷ [])) k i) (sym e.0) (subst (Paired p (first ∷ (body ++ last ∷ [])) (p + 1 + length body)) e.1 closes)
    go (inr (inr (inr k))) = absurd k

paired_head : (p : ℕ) (code : List Instr) (at k : ℕ) (lo : ℤ) (l : Option ℕ) (hi : ℤ) (e : ℕ) → Stands p code e (instr.Next at) → Paired p code at (head k lo l hi e)
paired_head p code at k lo None hi e h = h
paired_head p code at k lo (Some x) hi e h = h

-- each instruction of a structure's code
pub paired_inside : (p : ℕ) (x : Nest) → EachRow Plain x → (at : ℕ) (i : Instr) → Stands p (lay p x) at i → Paired p (lay p x) at i
paired_inside p (Row is) r = paired_row p is r
paired_inside p (Then a b) r = paired_then p (until p a) (lay p a) (lay (until p a) b) refl (paired_inside p a r.0) (paired_inside (until p a) b r.1)
paired_inside p (Where op x y a) r = paired_behind p (instr.Unless op x y (until (p + 1) a)) (lay (p + 1) a) tt (paired_inside (p + 1) a r)
paired_inside p (Choice op x y a b) r =
    let jump = instr.Jump (until (until (p + 1) a + 1) b) in
    let other = lay (until (p + 1) a + 1) b in
    paired_behind p (instr.Unless op x y (until (p + 1) a + 1)) (lay (p + 1) a ++ jump ∷ other) tt
    (paired_then (p + 1) (until (p + 1) a) (lay (p + 1) a) (jump ∷ other) refl (paired_inside (p + 1) a r.0)
    (paired_behind (until (p + 1) a) jump other tt (paired_inside (until (p + 1) a + 1) b r.1)))
paired_inside p (Loop k lo l hi a) r =
    let first = head k lo l hi (until (p + 1) a) in
    paired_round p first (instr.Next p) (lay (p + 1) a) (paired_inside (p + 1) a r)
    (paired_head p (lay p (Loop k lo l hi a)) p k lo l hi (until (p + 1) a) (stands_last p first (lay (p + 1) a) (instr.Next p) []))
    (record { k = k; lo = lo; limit = l; hi = hi; stands = inl (refl, refl) })
paired_inside p (Closed a) r =
    let first = instr.Finish (until (p + 1) a) in
    paired_round p first (instr.EndFinish p) (lay (p + 1) a) (paired_inside (p + 1) a r) (stands_last p first (lay (p + 1) a) (instr.EndFinish p) [])
    (inl (refl, refl))
