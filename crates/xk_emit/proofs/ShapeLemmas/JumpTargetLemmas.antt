-- Places that are named: they lie in the code's own stretch, ahead or behind as they should.
use Rattle.std.proofs.Common.{◌≡◌, ℕ, ℤ, Option, Some, None, ◌+◌, ◌<◌, ◌≤◌, Bool, true, false, List, [], ◌∷◌, ◌++◌, length, inl, inr, ◌⊎◌, refl, sym, subst, arith, length-append}
use Rattle.std.proofs.lemmas.Bool.{false≢true}
use Rattle.xk_types.specs.declared.instr.Instr.{Instr}
use Rattle.xk_types.specs.declared.instr.Instr.TheVariants as instr
use Rattle.xk_types.specs.declared.instr.Comparison.{Comparison}
use Rattle.xk_types.specs.Shape.{is_ret}
use Rattle.xk_emit.proofs.ShapeLemmas.PositionLemmas.{Stands, stands_in, Between, between, length_between, Holds, holds_at}
use Rattle.xk_emit.proofs.ShapeLemmas.StructureLemmas.{Nest, Row, Then, Where, Choice, Loop, Closed, head, lay, EachRow}

-- it names no place, and isn't a `ret`
abbrev pub is_plain : Instr → Bool
is_plain (instr.Unless op x y t) = false
is_plain (instr.Jump t) = false
is_plain (instr.For k lo hi e) = false
is_plain (instr.ForTo k lo x hi e) = false
is_plain (instr.Next b) = false
is_plain (instr.Finish e) = false
is_plain (instr.EndFinish b) = false
is_plain instr.Ret = false
is_plain _ = true

abbrev pub Plain : Instr → Type 0
Plain i = is_plain i ≡ true

pub plain_no_ret : (i : Instr) → Plain i → is_ret i ≡ false
plain_no_ret instr.Ret h = absurd (false≢true h)
plain_no_ret _ h = refl

-- the places that the instruction at place `at` names: jumps go no further than hi, all others lie from lo to before hi
abbrev pub Aims : ℕ → ℕ → ℕ → Instr → Type 0
Aims lo hi at (instr.Unless op x y t) = (at < t) × (t ≤ hi)
Aims lo hi at (instr.Jump t) = (at < t) × (t ≤ hi)
Aims lo hi at (instr.For k l h e) = (at < e) × (e < hi)
Aims lo hi at (instr.ForTo k l x h e) = (at < e) × (e < hi)
Aims lo hi at (instr.Next b) = (lo ≤ b) × (b < at)
Aims lo hi at (instr.Finish e) = (at < e) × (e < hi)
Aims lo hi at (instr.EndFinish b) = (lo ≤ b) × (b < at)
Aims lo hi at _ = Unit {0}

plain_aims : (lo hi at : ℕ) (i : Instr) → Plain i → Aims lo hi at i
plain_aims lo hi at (instr.Unless op x y t) h = absurd (false≢true h)
plain_aims lo hi at (instr.Jump t) h = absurd (false≢true h)
plain_aims lo hi at (instr.For k l g e) h = absurd (false≢true h)
plain_aims lo hi at (instr.ForTo k l x g e) h = absurd (false≢true h)
plain_aims lo hi at (instr.Next b) h = absurd (false≢true h)
plain_aims lo hi at (instr.Finish e) h = absurd (false≢true h)
plain_aims lo hi at (instr.EndFinish b) h = absurd (false≢true h)
plain_aims lo hi at _ h = tt

-- in a wider stretch
pub aims_wider : (lo hi low high at : ℕ) (i : Instr) → low ≤ lo → hi ≤ high → Aims lo hi at i → Aims low high at i
aims_wider lo hi low high at (instr.Unless op x y t) a b h = (h.0, omega (arith, h.1))
aims_wider lo hi low high at (instr.Jump t) a b h = (h.0, omega (arith, h.1))
aims_wider lo hi low high at (instr.For k l g e) a b h = (h.0, omega (arith, h.1))
aims_wider lo hi low high at (instr.ForTo k l x g e) a b h = (h.0, omega (arith, h.1))
aims_wider lo hi low high at (instr.Next t) a b h = (omega (arith, h.0), h.1)
aims_wider lo hi low high at (instr.Finish e) a b h = (h.0, omega (arith, h.1))
aims_wider lo hi low high at (instr.EndFinish t) a b h = (omega (arith, h.0), h.1)
aims_wider lo hi low high at _ a b h = tt

-- the end of a structure's code
abbrev pub until : ℕ → Nest → ℕ
until p x = p + length (lay p x)

abbrev AimsInside : ℕ → Nest → Type 0
AimsInside p x = (at : ℕ) (i : Instr) → Stands p (lay p x) at i → Aims p (until p x) at i

aims_row : (p : ℕ) (is : List Instr) → Holds Plain is → AimsInside p (Row is)
aims_row p is r at i h = plain_aims p (p + length is) at i (holds_at Plain p is at i r h)

aims_then : (p : ℕ) (a b : Nest) → AimsInside p a → AimsInside (until p a) b → AimsInside p (Then a b)
aims_then p a b f g at i h = go (stands_in p (until p a) (lay p a) (lay (until p a) b) at i refl h)
  where
    whole : until p (Then a b) ≡ until (until p a) b
    whole = omega (arith, length-append (lay p a) (lay (until p a) b))

    go : Stands p (lay p a) at i ⊎ Stands (until p a) (lay (until p a) b) at i → Aims p (until p (Then a b)) at i
    go (inl k) = aims_wider p (until p a) p (until p (Then a b)) at i (omega arith) (omega (arith, whole)) (f at i k)
    go (inr k) = aims_wider (until p a) (until (until p a) b) p (until p (Then a b)) at i (omega arith) (omega (arith, whole)) (g at i k)

aims_where : (p : ℕ) (op : Comparison) (x y : ℕ) (a : Nest) → AimsInside (p + 1) a → AimsInside p (Where op x y a)
aims_where p op x y a f at i (inl e) = subst (Aims p (until p (Where op x y a)) at) e.1 (omega (arith, e.0), omega arith)
aims_where p op x y a f at i (inr h) = aims_wider (p + 1) (until (p + 1) a) p (until p (Where op x y a)) at i (omega arith) (omega arith) (f at i h)

aims_choice : (p : ℕ) (op : Comparison) (x y : ℕ) (a b : Nest) → AimsInside (p + 1) a → AimsInside (until (p + 1) a + 1) b → AimsInside p (Choice op x y a b)
aims_choice p op x y a b f g at i h = go (between p test (lay (p + 1) a) jump (lay (until (p + 1) a + 1) b) at i h)
  where
    test : Instr
    test = instr.Unless op x y (until (p + 1) a + 1)

    jump : Instr
    jump = instr.Jump (until (until (p + 1) a + 1) b)

    whole : until p (Choice op x y a b) ≡ until (until (p + 1) a + 1) b
    whole = omega (arith, length_between test (lay (p + 1) a) jump (lay (until (p + 1) a + 1) b))

    go : Between p test (lay (p + 1) a) jump (lay (until (p + 1) a + 1) b) at i → Aims p (until p (Choice op x y a b)) at i
    go (inl e) = subst (Aims p (until p (Choice op x y a b)) at) e.1 (omega (arith, e.0), omega (arith, whole))
    go (inr (inl k)) = aims_wider (p + 1) (until (p + 1) a) p (until p (Choice op x y a b)) at i (omega arith) (omega (arith, whole)) (f at i k)
    go (inr (inr (inl e))) = subst (Aims p (until p (Choice op x y a b)) at) e.1 (omega (arith, e.0), omega (arith, whole))
    go (inr (inr (inr k))) = aims_wider (until (p + 1) a + 1) (until (until (p + 1) a + 1) b) p (until p (Choice op x y a b)) at i (omega arith) (omega (arith, whole)) (g at i k)

-- a body between two halves that name each other
aims_round : (p : ℕ) (first last : Instr) (body : List Instr) → ((at : ℕ) (i : Instr) → Stands (p + 1) body at i → Aims (p + 1) (p + 1 + length body) at i)
    → ((hi : ℕ) → p + 1 + length body < hi → Aims p hi p first) → ((hi : ℕ) → Aims p hi (p + 1 + length body) last)
    → (at : ℕ) (i : Instr) → Stands p (first ∷ (body ++ last ∷ [])) at i → Aims p (p + length (first ∷ (body ++ last ∷ []))) at i
aims_round p first last body f opens closes at i h = go (between p first body last [] at i h)
  where
    hi : ℕ
    hi = p + length (first ∷ (body ++ last ∷ []))

    whole : p + length (first ∷ (body ++ last ∷ [])) ≡ p + 1 + length body + 1
    whole = omega (arith, length_between first body last [])

    go : Between p first body last [] at i → Aims p (p + length (first ∷ (body ++ last ∷ []))) at i
    go (inl e) = subst (λ k. Aims p (p + length (first ∷ (body ++ last ∷ []))) k i) (sym e.0)
        (subst (Aims p (p + length (first ∷ (body ++ last ∷ []))) p) e.1 (opens (p + length (first ∷ (body ++ last ∷ []))) (omega (arith, whole))))
    go (inr (inl k)) = aims_wider (p + 1) (p + 1 + length body) p (p + length (first ∷ (body ++ last ∷ []))) at i (omega arith) (omega (arith, whole)) (f at i k)
    go (inr (inr (inl e))) = subst (λ k. Aims p (p + length (first ∷ (body ++ last ∷ []))) k i) (sym e.0)
        (subst (Aims p (p + length (first ∷ (body ++ last ∷ []))) (p + 1 + length body)) e.1 (closes (p + length (first ∷ (body ++ last ∷ [])))))
    go (inr (inr (inr k))) = absurd k

aims_head : (lo hi at k : ℕ) (l : ℤ) (limit : Option ℕ) (h : ℤ) (e : ℕ) → at < e → e < hi → Aims lo hi at (head k l limit h e)
aims_head lo hi at k l None h e a b = (a, b)
aims_head lo hi at k l (Some x) h e a b = (a, b)

-- each instruction of a structure's code
pub aims_inside : (p : ℕ) (x : Nest) → EachRow Plain x → (at : ℕ) (i : Instr) → Stands p (lay p x) at i → Aims p (until p x) at i
aims_inside p (Row is) r = aims_row p is r
aims_inside p (Then a b) r = aims_then p a b (aims_inside p a r.0) (aims_inside (until p a) b r.1)
aims_inside p (Where op x y a) r = aims_where p op x y a (aims_inside (p + 1) a r)
aims_inside p (Choice op x y a b) r = aims_choice p op x y a b (aims_inside (p + 1) a r.0) (aims_inside (until (p + 1) a + 1) b r.1)
aims_inside p (Loop k lo l hi a) r = aims_round p (head k lo l hi (until (p + 1) a)) (instr.Next p) (lay (p + 1) a) (aims_inside (p + 1) a r)
    (λ h g. aims_head p h p k lo l hi (until (p + 1) a) (omega arith) g) (λ h. (omega arith, omega arith))
aims_inside p (Closed a) r = aims_round p (instr.Finish (until (p + 1) a)) (instr.EndFinish p) (lay (p + 1) a) (aims_inside (p + 1) a r)
    (λ h g. (omega arith, g)) (λ h. (omega arith, omega arith))
