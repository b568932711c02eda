-- Loops and finishes nest or lie apart, and no jump crosses the edge of one.
use Rattle.std.proofs.Common.{◌≡◌, ℕ, ℤ, Option, Some, None, ◌+◌, ◌<◌, ◌≤◌, false, List, [], ◌∷◌, ◌++◌, length, inl, inr, ◌⊎◌, refl, sym, subst, arith}
use Rattle.std.proofs.lemmas.Bool.{false≢true}
use Rattle.std.proofs.lemmas.Bool.Decides.{nat_tests}
use Rattle.xk_types.specs.declared.instr.Instr.{Instr}
use Rattle.xk_types.specs.declared.instr.Instr.TheVariants as instr
use Rattle.xk_types.specs.declared.instr.Comparison.{Comparison}
use Rattle.xk_types.specs.Blocks.{Span}
use Rattle.xk_types.specs.Shape.{overlaps, crosses}
use Rattle.xk_emit.proofs.ShapeLemmas.PositionLemmas.{Stands, stands_from, stands_in, Between, between, Holds, holds_at}
use Rattle.xk_emit.proofs.ShapeLemmas.StructureLemmas.{Nest, Row, Then, Where, Choice, Loop, Closed, head, lay, EachRow}
use Rattle.xk_emit.proofs.ShapeLemmas.JumpTargetLemmas.{Plain, until, Aims, aims_wider, aims_inside}

abbrev pub span : ℕ → ℕ → Span
span first last = record { first = first; last = last }

-- it begins a loop or a finish that ends at place e
abbrev pub Opens : ℕ → Instr → Type 0
Opens e (instr.For k lo hi f) = f ≡ e
Opens e (instr.ForTo k lo x hi f) = f ≡ e
Opens e (instr.Finish f) = f ≡ e
Opens e _ = ⊥

-- a loop or a finish from place a to place e isn't cut by the instruction at place `at`
abbrev pub Respects : ℕ → ℕ → ℕ → Instr → Type 0
Respects a e at (instr.Unless op x y t) = crosses at t (span a e) ≡ false
Respects a e at (instr.Jump t) = crosses at t (span a e) ≡ false
Respects a e at (instr.For k lo hi f) = overlaps (span a e) (span at f) ≡ false
Respects a e at (instr.ForTo k lo x hi f) = overlaps (span a e) (span at f) ≡ false
Respects a e at (instr.Finish f) = overlaps (span a e) (span at f) ≡ false
Respects a e at _ = Unit {0}

-- ---- numbers

-- a stretch from lo to before hi lies before the span, or behind it, or in it
abbrev Apart : ℕ → ℕ → ℕ → ℕ → Type 0
Apart lo hi a e = (hi ≤ a) ⊎ ((e < lo) ⊎ ((a < lo) × (hi ≤ e)))

jump_apart : (lo hi a e at t : ℕ) → a < e → lo ≤ at → at < t → t ≤ hi → Apart lo hi a e → crosses at t (span a e) ≡ false
jump_apart lo hi a e at t o b c d (inl h) = grind (arith, nat_tests)
jump_apart lo hi a e at t o b c d (inr (inl h)) = grind (arith, nat_tests)
jump_apart lo hi a e at t o b c d (inr (inr h)) = let p = h.0 in let q = h.1 in grind (arith, nat_tests)

span_apart : (lo hi a e at f : ℕ) → a < e → lo ≤ at → at < f → f < hi → Apart lo hi a e → overlaps (span a e) (span at f) ≡ false
span_apart lo hi a e at f o b c d (inl h) = grind (arith, nat_tests)
span_apart lo hi a e at f o b c d (inr (inl h)) = grind (arith, nat_tests)
span_apart lo hi a e at f o b c d (inr (inr h)) = let p = h.0 in let q = h.1 in grind (arith, nat_tests)

-- it jumps over the span, or to before it
jump_over : (a e at t : ℕ) → at < a → a < e → e < t → crosses at t (span a e) ≡ false
jump_over a e at t h g k = grind (arith, nat_tests)

jump_before : (a e at t : ℕ) → at < t → t ≤ a → a < e → crosses at t (span a e) ≡ false
jump_before a e at t h g k = grind (arith, nat_tests)

-- the span lies in another
span_within : (a e at f : ℕ) → at < a → a < e → e < f → overlaps (span a e) (span at f) ≡ false
span_within a e at f h g k = grind (arith, nat_tests)

span_itself : (a e : ℕ) → overlaps (span a e) (span a e) ≡ false
span_itself a e = grind (arith, nat_tests)

respects_apart : (lo hi a e at : ℕ) (i : Instr) → a < e → lo ≤ at → Apart lo hi a e → Aims lo hi at i → Respects a e at i
respects_apart lo hi a e at (instr.Unless op x y t) o b d h = jump_apart lo hi a e at t o b h.0 h.1 d
respects_apart lo hi a e at (instr.Jump t) o b d h = jump_apart lo hi a e at t o b h.0 h.1 d
respects_apart lo hi a e at (instr.For k l g f) o b d h = span_apart lo hi a e at f o b h.0 h.1 d
respects_apart lo hi a e at (instr.ForTo k l x g f) o b d h = span_apart lo hi a e at f o b h.0 h.1 d
respects_apart lo hi a e at (instr.Finish f) o b d h = span_apart lo hi a e at f o b h.0 h.1 d
respects_apart lo hi a e at _ o b d h = tt

-- ---- what begins a span

opens_aims : (lo hi a e : ℕ) (i : Instr) → Opens e i → Aims lo hi a i → (a < e) × (e < hi)
opens_aims lo hi a e (instr.For k l h f) o g = (omega (arith, o, g.0), omega (arith, o, g.1))
opens_aims lo hi a e (instr.ForTo k l x h f) o g = (omega (arith, o, g.0), omega (arith, o, g.1))
opens_aims lo hi a e (instr.Finish f) o g = (omega (arith, o, g.0), omega (arith, o, g.1))
opens_aims lo hi a e _ o g = absurd o

plain_opens : (e : ℕ) (i : Instr) → Plain i → Opens e i → ⊥
plain_opens e (instr.For k l h f) p o = false≢true p
plain_opens e (instr.ForTo k l x h f) p o = false≢true p
plain_opens e (instr.Finish f) p o = false≢true p
plain_opens e _ p o = o

-- ---- structures

-- code from lo to before hi, each instruction of which names places in it
abbrev Aim : ℕ → ℕ → List Instr → Type 0
Aim lo hi code = (at : ℕ) (i : Instr) → Stands lo code at i → Aims lo hi at i

-- no span of the code is cut
abbrev pub AllRespect : ℕ → List Instr → Type 0
AllRespect p code = (a e : ℕ) (i : Instr) → Stands p code a i → Opens e i → (at : ℕ) (j : Instr) → Stands p code at j → Respects a e at j

respects_row : (p : ℕ) (is : List Instr) → Holds Plain is → AllRespect p is
respects_row p is r a e i h o at j g = absurd (plain_opens e i (holds_at Plain p is a i r h) o)

-- of two stretches, one behind the other
respects_then : (p q hi : ℕ) (xs ys : List Instr) → q ≡ p + length xs → Aim p q xs → Aim q hi ys → AllRespect p xs → AllRespect q ys → AllRespect p (xs ++ ys)
respects_then p q hi xs ys l f g left right a e i h o at j k = go (stands_in p q xs ys a i l h) (stands_in p q xs ys at j l k)
  where
    go : Stands p xs a i ⊎ Stands q ys a i → Stands p xs at j ⊎ Stands q ys at j → Respects a e at j
    go (inl s) (inl u) = left a e i s o at j u
    go (inl s) (inr u) =
        let b = opens_aims p q a e i o (f a i s) in
        respects_apart q hi a e at j b.0 (stands_from q ys at j u) (inr (inl b.1)) (g at j u)
    go (inr s) (inl u) =
        let b = opens_aims q hi a e i o (g a i s) in
        respects_apart p q a e at j b.0 (stands_from p xs at j u) (inl (stands_from q ys a i s)) (f at j u)
    go (inr s) (inr u) = right a e i s o at j u

-- behind a jump that cuts none of them
respects_behind : (p : ℕ) (jump : Instr) (xs : List Instr) → ((e : ℕ) → Opens e jump → ⊥)
    → ((a e : ℕ) (i : Instr) → Stands (p + 1) xs a i → Opens e i → Respects a e p jump) → AllRespect (p + 1) xs → AllRespect p (jump ∷ xs)
respects_behind p jump xs plain over inner a e i (inl h) o at j k = absurd (plain e (subst (Opens e) (sym h.1) o))
respects_behind p jump xs plain over inner a e i (inr h) o at j (inl k) =
    subst (λ n. Respects a e n j) (sym k.0) (subst (Respects a e p) k.1 (over a e i h o))
respects_behind p jump xs plain over inner a e i (inr h) o at j (inr k) = inner a e i h o at j k

-- a jump over a stretch, or before one
over_all : (p lo hi t : ℕ) (xs : List Instr) → p < lo → hi ≤ t → Aim lo hi xs → (a e : ℕ) (i : Instr) → Stands lo xs a i → Opens e i → crosses p t (span a e) ≡ false
over_all p lo hi t xs h l f a e i s o =
    let b = opens_aims lo hi a e i o (f a i s) in
    jump_over a e p t (let c = stands_from lo xs a i s in omega arith) b.0 (omega (arith, b.1))

before_all : (p lo hi t : ℕ) (xs : List Instr) → p < t → t ≤ lo → Aim lo hi xs → (a e : ℕ) (i : Instr) → Stands lo xs a i → Opens e i → crosses p t (span a e) ≡ false
before_all p lo hi t xs h l f a e i s o =
    let b = opens_aims lo hi a e i o (f a i s) in
    jump_before a e p t h (let c = stands_from lo xs a i s in omega arith) b.0

-- what is carried out if two numbers compare so, and what is carried out else
respects_choice : (p mid end : ℕ) (op : Comparison) (x y : ℕ) (body other : List Instr) → mid ≡ p + 1 + length body → end ≡ mid + 1 + length other
    → Aim (p + 1) mid body → Aim (mid + 1) end other → AllRespect (p + 1) body → AllRespect (mid + 1) other
    → AllRespect p (instr.Unless op x y (mid + 1) ∷ (body ++ instr.Jump end ∷ other))
respects_choice p mid end op x y body other half whole f g left right =
    respects_behind p (instr.Unless op x y (mid + 1)) (body ++ instr.Jump end ∷ other) (λ e h. h) tested
    (respects_then (p + 1) mid end body (instr.Jump end ∷ other) half f behind left
    (respects_behind mid (instr.Jump end) other (λ e h. h) (over_all mid (mid + 1) end end other (omega arith) (omega arith) g) right))
  where
    behind : Aim mid end (instr.Jump end ∷ other)
    behind at i (inl h) = subst (λ k. Aims mid end k i) (sym h.0) (subst (Aims mid end mid) h.1 (omega arith, omega arith))
    behind at i (inr h) = aims_wider (mid + 1) end mid end at i (omega arith) (omega arith) (g at i h)

    tested : (a e : ℕ) (i : Instr) → Stands (p + 1) (body ++ instr.Jump end ∷ other) a i → Opens e i → crosses p (mid + 1) (span a e) ≡ false
    tested a e i h o = go (stands_in (p + 1) mid body (instr.Jump end ∷ other) a i half h)
      where
        go : Stands (p + 1) body a i ⊎ Stands mid (instr.Jump end ∷ other) a i → crosses p (mid + 1) (span a e) ≡ false
        go (inl s) = over_all p (p + 1) mid (mid + 1) body (omega arith) (omega arith) f a e i s o
        go (inr (inl s)) = absurd (subst (Opens e) (sym s.1) o)
        go (inr (inr s)) = before_all p (mid + 1) end (mid + 1) other (omega arith) (omega arith) g a e i s o

-- a body between two halves
respects_round : (p : ℕ) (first last : Instr) (body : List Instr) → Aim (p + 1) (p + 1 + length body) body → ((e : ℕ) → Opens e first → e ≡ p + 1 + length body)
    → ((e : ℕ) → Opens e last → ⊥)
    → ((a e : ℕ) → overlaps (span a e) (span p (p + 1 + length body)) ≡ false → Respects a e p first) → ((a e : ℕ) → Respects a e (p + 1 + length body) last)
    → AllRespect (p + 1) body → AllRespect p (first ∷ (body ++ last ∷ []))
respects_round p first last body f ends closes opens free inner a e i h o at j k = go (between p first body last [] a i h) (between p first body last [] at j k)
  where
    go : Between p first body last [] a i → Between p first body last [] at j → Respects a e at j
    go (inr (inr (inl s))) u = absurd (closes e (subst (Opens e) (sym s.1) o))
    go (inr (inr (inr s))) u = absurd s
    go s (inr (inr (inr u))) = absurd u
    go s (inr (inr (inl u))) = subst (λ n. Respects a e n j) (sym u.0) (subst (Respects a e (p + 1 + length body)) u.1 (free a e))
    go (inl s) (inl u) =
        let last_is = ends e (subst (Opens e) (sym s.1) o) in
        subst (λ n. Respects a e n j) (sym u.0) (subst (Respects a e p) u.1
        (opens a e (subst (λ n. overlaps (span a n) (span p (p + 1 + length body)) ≡ false) (sym last_is)
        (subst (λ n. overlaps (span n (p + 1 + length body)) (span p (p + 1 + length body)) ≡ false) (sym s.0) (span_itself p (p + 1 + length body))))))
    go (inl s) (inr (inl u)) =
        let last_is = ends e (subst (Opens e) (sym s.1) o) in
        respects_apart (p + 1) (p + 1 + length body) a e at j (omega (arith, s.0, last_is)) (stands_from (p + 1) body at j u)
        (inr (inr (omega (arith, s.0), omega (arith, last_is)))) (f at j u)
    go (inr (inl s)) (inl u) =
        let b = opens_aims (p + 1) (p + 1 + length body) a e i o (f a i s) in
        let c = stands_from (p + 1) body a i s in
        subst (λ n. Respects a e n j) (sym u.0) (subst (Respects a e p) u.1 (opens a e (span_within a e p (p + 1 + length body) (omega (arith, c)) b.0 b.1)))
    go (inr (inl s)) (inr (inl u)) = inner a e i s o at j u

opens_head : (e k : ℕ) (lo : ℤ) (l : Option ℕ) (hi : ℤ) (f : ℕ) → Opens e (head k lo l hi f) → f ≡ e
opens_head e k lo None hi f h = h
opens_head e k lo (Some x) hi f h = h

pub head_opens : (k : ℕ) (lo : ℤ) (l : Option ℕ) (hi : ℤ) (f : ℕ) → Opens f (head k lo l hi f)
head_opens k lo None hi f = refl
head_opens k lo (Some x) hi f = refl

respects_head : (a e at k : ℕ) (lo : ℤ) (l : Option ℕ) (hi : ℤ) (f : ℕ) → overlaps (span a e) (span at f) ≡ false → Respects a e at (head k lo l hi f)
respects_head a e at k lo None hi f h = h
respects_head a e at k lo (Some x) hi f h = h

-- each two instructions of a structure's code
pub respects_inside : (p : ℕ) (x : Nest) → EachRow Plain x → AllRespect p (lay p x)
respects_inside p (Row is) r = respects_row p is r
respects_inside p (Then a b) r =
    respects_then p (until p a) (until (until p a) b) (lay p a) (lay (until p a) b) refl (aims_inside p a r.0) (aims_inside (until p a) b r.1)
    (respects_inside p a r.0) (respects_inside (until p a) b r.1)
respects_inside p (Where op x y a) r =
    respects_behind p (instr.Unless op x y (until (p + 1) a)) (lay (p + 1) a) (λ e h. h)
    (over_all p (p + 1) (until (p + 1) a) (until (p + 1) a) (lay (p + 1) a) (omega arith) (omega arith) (aims_inside (p + 1) a r)) (respects_inside (p + 1) a r)
respects_inside p (Choice op x y a b) r =
    respects_choice p (until (p + 1) a) (until (until (p + 1) a + 1) b) op x y (lay (p + 1) a) (lay (until (p + 1) a + 1) b) refl refl
    (aims_inside (p + 1) a r.0) (aims_inside (until (p + 1) a + 1) b r.1) (respects_inside (p + 1) a r.0) (respects_inside (until (p + 1) a + 1) b r.1)
respects_inside p (Loop k lo l hi a) r =
    respects_round p (head k lo l hi (until (p + 1) a)) (instr.Next p) (lay (p + 1) a) (aims_inside (p + 1) a r)
    (λ e h. sym (opens_head e k lo l hi (until (p + 1) a) h)) (λ e h. h)
    (λ s e h. respects_head s e p k lo l hi (until (p + 1) a) h) (λ s e. tt) (respects_inside (p + 1) a r)
respects_inside p (Closed a) r =
    respects_round p (instr.Finish (until (p + 1) a)) (instr.EndFinish p) (lay (p + 1) a) (aims_inside (p + 1) a r) (λ e h. sym h) (λ e h. h)
    (λ s e h. h) (λ s e. tt) (respects_inside (p + 1) a r)
