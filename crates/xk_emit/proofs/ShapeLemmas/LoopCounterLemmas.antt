-- Loops: their bounds are in order, and no instruction inside one writes its slot or that of its limit.
use Rattle.std.proofs.Common.{◌≡◌, ℕ, ℤ, int_le, int_lt, Bool, true, false, cond, ◌+◌, ◌<◌, ◌≤◌, ◌==◌, List, [], ◌∷◌, ◌++◌, length, Option, Some, None, unwrap_or, inl, inr, ◌⊎◌, refl, sym, ap, ◌∙◌, subst, arith, eqb-true}
use Rattle.std.specs.Prelude.{is_some}
use Rattle.std.specs.Option.{option_map_or}
use Rattle.std.specs.Cmp.Lexicographic.{bytes_decides}
use Rattle.std.proofs.lemmas.Bool.{false≢true}
use Rattle.std.proofs.lemmas.Bool.Decides.{nat_tests}
use Rattle.std.proofs.lemmas.Int.{ints}
use Rattle.std.proofs.lemmas.Option.{none-some, same_Some}
use Rattle.xk_types.specs.declared.instr.Instr.{Instr}
use Rattle.xk_types.specs.declared.instr.Instr.TheVariants as instr
use Rattle.xk_types.specs.Code.{Loop, loop_head}
use Rattle.xk_types.specs.Shape.{slot_written, counts_by, spoils, begins_backward}
use Rattle.xk_tree.specs.declared.tree.Operator.{Operator}
use Rattle.xk_tree.specs.declared.tree.Operator.TheVariants as operator
use Rattle.xk_tree.specs.Tree.{Word, Expression, Literal, Named, Paren, Negation, Binary, Source, Make, Value, Bound, UpTo, Least, top, Statement, Block, Empty, Declare, Assign, Atomic, If, IfElse, For, Async, Finish, Call, Resume, Drop, AdvanceAll, Print, Statements, Done, More}
use Rattle.xk_names.specs.Scope.{find, is_text}
use Rattle.xk_emit.specs.CodeOf.{Scope, Setting, before_bound, loop_slots, within_loop, number_of, instr_of, slot_for, behind, eval, both, second, before_into, last_into, eval_all, argument_slots, last_value, code_of_source, before_assigned, last_assigned, count, count_all, declared}
use Rattle.xk_emit.specs.NameCoverage.{IsFound, IsBoundKnown, IsLoopNew, IsAssignable, IsCovered, AreCovered}
use Rattle.xk_emit.proofs.ShapeLemmas.PositionLemmas.{Stands, stands_from, stands_to, stands_in, Between, between, Holds, holds_both, holds_at}
use Rattle.xk_emit.proofs.ShapeLemmas.StructureLemmas.{Nest, Row, Then, Where, Choice, Loop as Looped, Closed, head, lay, EachRow, limit_slot, nest_of, nest_of_all}
use Rattle.xk_emit.proofs.ShapeLemmas.JumpTargetLemmas.{Plain, until, Aims, aims_inside}
use Rattle.xk_emit.proofs.ShapeLemmas.InstructionLemmas.{EachInside, EachOf}
use Rattle.xk_emit.proofs.ShapeLemmas.SlotLemmas.{ScopeBelow, found_below, scope_more, scope_wider, declared_below, within_below}

-- the instruction doesn't write this slot
abbrev pub Spares : ℕ → Instr → Type 0
Spares k i = option_map_or (λ d. d == k) (slot_written i) false ≡ false

-- nor does an instruction of a structure
abbrev pub SparesSlot : ℕ → Nest → Type 0
SparesSlot k (Row is) = Holds (Spares k) is
SparesSlot k (Then a b) = SparesSlot k a × SparesSlot k b
SparesSlot k (Where op x y a) = SparesSlot k a
SparesSlot k (Choice op x y a b) = SparesSlot k a × SparesSlot k b
SparesSlot k (Looped d lo l hi a) = ((d == k) ≡ false) × SparesSlot k a
SparesSlot k (Closed a) = SparesSlot k a

-- the slot of the limit, if there is one, is another than slot k, and spared
abbrev pub SparesLimit : ℕ → Option ℕ → Nest → Type 0
SparesLimit k None a = Unit {0}
SparesLimit k (Some x) a = ((x == k) ≡ false) × SparesSlot x a

-- each loop's bounds are in order, and its body spares its slot and that of its limit
abbrev pub LoopsKept : Nest → Type 0
LoopsKept (Row is) = Unit {0}
LoopsKept (Then a b) = LoopsKept a × LoopsKept b
LoopsKept (Where op x y a) = LoopsKept a
LoopsKept (Choice op x y a b) = LoopsKept a × LoopsKept b
LoopsKept (Looped k lo l hi a) = (int_le lo hi ≡ true) × SparesSlot k a × SparesLimit k l a × LoopsKept a
LoopsKept (Closed a) = LoopsKept a

-- ---- structures

head_spares : (k d : ℕ) (lo : ℤ) (l : Option ℕ) (hi : ℤ) (e : ℕ) → (d == k) ≡ false → Spares k (head d lo l hi e)
head_spares k d lo None hi e h = h
head_spares k d lo (Some x) hi e h = h

spared : (k p : ℕ) (x : Nest) → SparesSlot k x → Holds (Spares k) (lay p x)
spared k p (Row is) h = h
spared k p (Then a b) h = holds_both (Spares k) (lay p a) (lay (until p a) b) (spared k p a h.0) (spared k (until p a) b h.1)
spared k p (Where op x y a) h = (refl, spared k (p + 1) a h)
spared k p (Choice op x y a b) h =
    let mid = until (p + 1) a in
    let other = lay (mid + 1) b in
    (refl, holds_both (Spares k) (lay (p + 1) a) (instr.Jump (mid + 1 + length other) ∷ other) (spared k (p + 1) a h.0) (refl, spared k (mid + 1) b h.1))
spared k p (Looped d lo l hi a) h = (head_spares k d lo l hi (until (p + 1) a) h.0, holds_both (Spares k) (lay (p + 1) a) (instr.Next p ∷ []) (spared k (p + 1) a h.1) (refl, tt))
spared k p (Closed a) h = (refl, holds_both (Spares k) (lay (p + 1) a) (instr.EndFinish p ∷ []) (spared k (p + 1) a h) (refl, tt))

abbrev pub Forward : Instr → Type 0
Forward i = begins_backward i ≡ false

plain_forward : (i : Instr) → Plain i → Forward i
plain_forward (instr.For k lo hi e) h = absurd (false≢true h)
plain_forward (instr.ForTo k lo x hi e) h = absurd (false≢true h)
plain_forward _ h = refl

row_forward : (is : List Instr) → Holds Plain is → Holds Forward is
row_forward [] h = tt
row_forward (i ∷ is) h = (plain_forward i h.0, row_forward is h.1)

in_order : (lo hi : ℤ) → int_le lo hi ≡ true → int_lt hi lo ≡ false
in_order lo hi h = grind (arith, ints)

head_forward : (k : ℕ) (lo : ℤ) (l : Option ℕ) (hi : ℤ) (e : ℕ) (a : Nest) → int_le lo hi ≡ true → SparesLimit k l a → Forward (head k lo l hi e)
head_forward k lo None hi e a h g = rw (in_order lo hi h) refl
head_forward k lo (Some x) hi e a h g = rw (in_order lo hi h, g.0) refl

pub forward : (p : ℕ) (x : Nest) → EachRow Plain x → LoopsKept x → Holds Forward (lay p x)
forward p (Row is) r h = row_forward is r
forward p (Then a b) r h = holds_both Forward (lay p a) (lay (until p a) b) (forward p a r.0 h.0) (forward (until p a) b r.1 h.1)
forward p (Where op x y a) r h = (refl, forward (p + 1) a r h)
forward p (Choice op x y a b) r h =
    let mid = until (p + 1) a in
    let other = lay (mid + 1) b in
    (refl, holds_both Forward (lay (p + 1) a) (instr.Jump (mid + 1 + length other) ∷ other) (forward (p + 1) a r.0 h.0) (refl, forward (mid + 1) b r.1 h.1))
forward p (Looped d lo l hi a) r h =
    (head_forward d lo l hi (until (p + 1) a) a h.0 h.2, holds_both Forward (lay (p + 1) a) (instr.Next p ∷ []) (forward (p + 1) a r h.3) (refl, tt))
forward p (Closed a) r h = (refl, holds_both Forward (lay (p + 1) a) (instr.EndFinish p ∷ []) (forward (p + 1) a r h) (refl, tt))

-- ---- heads

-- an instruction that writes neither its slot nor that of its limit
unspoilt : (l : Loop) (i : Instr) → Spares l.slot i → ((x : ℕ) → l.limit ≡ Some x → Spares x i) → spoils l i ≡ false
unspoilt l i h g = go (slot_written i) h g
  where
    flipped : (d x : ℕ) → (d == x) ≡ false → (x == d) ≡ false
    flipped d x q = grind (arith, nat_tests)

    limited : (d : ℕ) (o : Option ℕ) → ((x : ℕ) → o ≡ Some x → (d == x) ≡ false) → option_map_or (λ x. x == d) o false ≡ false
    limited d None q = refl
    limited d (Some x) q = flipped d x (q x refl)

    go : (o : Option ℕ) → option_map_or (λ d. d == l.slot) o false ≡ false → ((x : ℕ) → l.limit ≡ Some x → option_map_or (λ d. d == x) o false ≡ false)
        → option_map_or (λ d. counts_by d l) o false ≡ false
    go None a b = refl
    go (Some d) a b = rw a (limited d l.limit b)

-- the loop that it begins
head_begins : (a k : ℕ) (lo : ℤ) (l : Option ℕ) (hi : ℤ) (e : ℕ)
    → loop_head a (head k lo l hi e) ≡ Some (record { first = a; last = e; slot = k; lo = lo; hi = hi; limit = l })
head_begins a k lo None hi e = refl
head_begins a k lo (Some x) hi e = refl

plain_begins : (i : Instr) (a : ℕ) (l : Loop) → Plain i → loop_head a i ≡ Some l → ⊥
plain_begins (instr.For k lo hi e) a l h q = false≢true h
plain_begins (instr.ForTo k lo x hi e) a l h q = false≢true h
plain_begins _ a l h q = none-some l q

-- its end lies in the stretch
head_aims : (lo hi a : ℕ) (i : Instr) (l : Loop) → Aims lo hi a i → loop_head a i ≡ Some l → l.last < hi
head_aims lo hi a (instr.For k b c e) l h q = let same = ap (λ m. m.last) (same_Some _ l q) in omega (arith, h.1)
head_aims lo hi a (instr.ForTo k b x c e) l h q = let same = ap (λ m. m.last) (same_Some _ l q) in omega (arith, h.1)
head_aims lo hi a _ l h q = absurd (none-some l q)

-- what stands between the head of a loop and its `next` writes neither its slot nor that of its limit
abbrev pub AllSpare : ℕ → List Instr → Type 0
AllSpare p code =
    (a : ℕ) (i : Instr) (l : Loop) → Stands p code a i → loop_head a i ≡ Some l → (at : ℕ) (j : Instr) → Stands p code at j → a < at → at < l.last → spoils l j ≡ false

abbrev Aim : ℕ → ℕ → List Instr → Type 0
Aim lo hi code = (at : ℕ) (i : Instr) → Stands lo code at i → Aims lo hi at i

spare_row : (p : ℕ) (is : List Instr) → Holds Plain is → AllSpare p is
spare_row p is r a i l h q at j g b c = absurd (plain_begins i a l (holds_at Plain p is a i r h) q)

spare_then : (p q : ℕ) (xs ys : List Instr) → q ≡ p + length xs → Aim p q xs → AllSpare p xs → AllSpare q ys → AllSpare p (xs ++ ys)
spare_then p q xs ys e f left right a i l h d at j g b c = go (stands_in p q xs ys a i e h) (stands_in p q xs ys at j e g)
  where
    go : Stands p xs a i ⊎ Stands q ys a i → Stands p xs at j ⊎ Stands q ys at j → spoils l j ≡ false
    go (inl s) (inl u) = left a i l s d at j u b c
    go (inl s) (inr u) = absurd (let m = head_aims p q a i l (f a i s) d in let w = stands_from q ys at j u in omega arith)
    go (inr s) (inl u) = absurd (let w = stands_from q ys a i s in let m = stands_to p xs at j u in omega arith)
    go (inr s) (inr u) = right a i l s d at j u b c

-- behind what begins no loop
spare_behind : (p : ℕ) (first : Instr) (xs : List Instr) → ((a : ℕ) (l : Loop) → loop_head a first ≡ Some l → ⊥) → AllSpare (p + 1) xs → AllSpare p (first ∷ xs)
spare_behind p first xs none inner a i l (inl h) d at j g b c = absurd (none a l (ap (loop_head a) h.1 ∙ d))
spare_behind p first xs none inner a i l (inr h) d at j (inl g) b c = absurd (let w = stands_from (p + 1) xs a i h in omega (arith, g.0))
spare_behind p first xs none inner a i l (inr h) d at j (inr g) b c = inner a i l h d at j g b c

-- a body between two halves
spare_round : (p : ℕ) (first last : Instr) (body : List Instr) → Aim (p + 1) (p + 1 + length body) body
    → ((a : ℕ) (l : Loop) → loop_head a first ≡ Some l → Holds (λ j. spoils l j ≡ false) body × (l.last ≡ p + 1 + length body))
    → ((a : ℕ) (l : Loop) → loop_head a last ≡ Some l → ⊥) → AllSpare (p + 1) body → AllSpare p (first ∷ (body ++ last ∷ []))
spare_round p first last body f opens closes inner a i l h d at j g b c = go (between p first body last [] a i h) (between p first body last [] at j g)
  where
    go : Between p first body last [] a i → Between p first body last [] at j → spoils l j ≡ false
    go (inr (inr (inl s))) u = absurd (closes a l (ap (loop_head a) s.1 ∙ d))
    go (inr (inr (inr s))) u = absurd s
    go s (inr (inr (inr u))) = absurd u
    go (inl s) (inl u) = absurd (omega (arith, s.0, u.0))
    go (inl s) (inr (inl u)) = holds_at (λ k. spoils l k ≡ false) (p + 1) body at j (opens a l (ap (loop_head a) s.1 ∙ d)).0 u
    go (inl s) (inr (inr (inl u))) = absurd (let w = (opens a l (ap (loop_head a) s.1 ∙ d)).1 in omega (arith, u.0))
    go (inr (inl s)) (inl u) = absurd (let w = stands_from (p + 1) body a i s in omega (arith, u.0))
    go (inr (inl s)) (inr (inl u)) = inner a i l s d at j u b c
    go (inr (inl s)) (inr (inr (inl u))) = absurd (let w = head_aims (p + 1) (p + 1 + length body) a i l (f a i s) d in omega (arith, u.0))

-- instructions that spare both slots of a loop
both_spared : (l : Loop) (is : List Instr) → Holds (Spares l.slot) is → ((x : ℕ) → l.limit ≡ Some x → Holds (Spares x) is) → Holds (λ j. spoils l j ≡ false) is
both_spared l [] h g = tt
both_spared l (i ∷ is) h g = (unspoilt l i h.0 (λ x e. (g x e).0), both_spared l is h.1 (λ x e. (g x e).1))

limit_spared : (k p : ℕ) (o : Option ℕ) (a : Nest) → SparesLimit k o a → (x : ℕ) → o ≡ Some x → Holds (Spares x) (lay p a)
limit_spared k p None a h x e = absurd (none-some x e)
limit_spared k p (Some y) a h x e = subst (λ n. Holds (Spares n) (lay p a)) (same_Some y x e) (spared y p a h.1)

pub spare_inside : (p : ℕ) (x : Nest) → EachRow Plain x → LoopsKept x → AllSpare p (lay p x)
spare_inside p (Row is) r h = spare_row p is r
spare_inside p (Then a b) r h =
    spare_then p (until p a) (lay p a) (lay (until p a) b) refl (aims_inside p a r.0) (spare_inside p a r.0 h.0) (spare_inside (until p a) b r.1 h.1)
spare_inside p (Where op x y a) r h = spare_behind p (instr.Unless op x y (until (p + 1) a)) (lay (p + 1) a) (λ n l q. none-some l q) (spare_inside (p + 1) a r h)
spare_inside p (Choice op x y a b) r h =
    let mid = until (p + 1) a in
    let other = lay (mid + 1) b in
    let jump = instr.Jump (mid + 1 + length other) in
    spare_behind p (instr.Unless op x y (mid + 1)) (lay (p + 1) a ++ jump ∷ other) (λ n l q. none-some l q)
    (spare_then (p + 1) mid (lay (p + 1) a) (jump ∷ other) refl (aims_inside (p + 1) a r.0) (spare_inside (p + 1) a r.0 h.0)
    (spare_behind mid jump other (λ n l q. none-some l q) (spare_inside (mid + 1) b r.1 h.1)))
spare_inside p (Looped k lo o hi a) r h = spare_round p (head k lo o hi (until (p + 1) a)) (instr.Next p) (lay (p + 1) a) (aims_inside (p + 1) a r)
    opens (λ n l q. none-some l q) (spare_inside (p + 1) a r h.3)
  where
    own : ℕ → Loop
    own n = record { first = n; last = until (p + 1) a; slot = k; lo = lo; hi = hi; limit = o }

    opens : (n : ℕ) (l : Loop) → loop_head n (head k lo o hi (until (p + 1) a)) ≡ Some l
        → Holds (λ j. spoils l j ≡ false) (lay (p + 1) a) × (l.last ≡ p + 1 + length (lay (p + 1) a))
    opens n l q =
        subst (λ m. Holds (λ j. spoils m j ≡ false) (lay (p + 1) a) × (m.last ≡ p + 1 + length (lay (p + 1) a)))
        (same_Some (own n) l (sym (head_begins n k lo o hi (until (p + 1) a)) ∙ q))
        (both_spared (own n) (lay (p + 1) a) (spared k (p + 1) a h.1) (limit_spared k (p + 1) o a h.2), refl)
spare_inside p (Closed a) r h = spare_round p (instr.Finish (until (p + 1) a)) (instr.EndFinish p) (lay (p + 1) a) (aims_inside (p + 1) a r)
    (λ n l q. absurd (none-some l q)) (λ n l q. none-some l q) (spare_inside (p + 1) a r h)

-- ---- slots and names

differs : (k d : ℕ) → k < d → (d == k) ≡ false
differs k d h = grind (arith, nat_tests)

-- what is found in a scope with one name more
pub find_more : (scope : Scope) (x : List ℕ) (n : ℕ) (y : List ℕ) (j : ℕ) → find (scope ++ (x, n) ∷ []) y ≡ Some j → (find scope y ≡ Some j) ⊎ ((y ≡ x) × (n ≡ j))
find_more [] x n y j h = go (is_text y x) refl h
  where
    go : (b : Bool) → is_text y x ≡ b → cond b (Some n) None ≡ Some j → (None ≡ Some j) ⊎ ((y ≡ x) × (n ≡ j))
    go true e q = inr ((bytes_decides y x).0 e, same_Some n j q)
    go false e q = inl q
find_more (e ∷ es) x n y j h = go (is_text y e.0) (find_more es x n y j) h
  where
    go : (b : Bool) → (find (es ++ (x, n) ∷ []) y ≡ Some j → (find es y ≡ Some j) ⊎ ((y ≡ x) × (n ≡ j))) → cond b (Some e.1) (find (es ++ (x, n) ∷ []) y) ≡ Some j
        → (cond b (Some e.1) (find es y) ≡ Some j) ⊎ ((y ≡ x) × (n ≡ j))
    go true later q = inl q
    go false later q = later q

-- slot k is no other name's than x
abbrev IsOf : Scope → ℕ → List ℕ → Type 0
IsOf scope k x = (y : List ℕ) → find scope y ≡ Some k → y ≡ x

is_of_more : (scope : Scope) (k : ℕ) (x z : List ℕ) (n : ℕ) → k < n → IsOf scope k x → IsOf (scope ++ (z, n) ∷ []) k x
is_of_more scope k x z n l h y g = go (find_more scope z n y k g)
  where
    go : (find scope y ≡ Some k) ⊎ ((y ≡ z) × (n ≡ k)) → y ≡ x
    go (inl q) = h y q
    go (inr q) = absurd (omega (arith, q.1))

is_of_new : (scope : Scope) (x : List ℕ) (n : ℕ) → ScopeBelow n scope → IsOf (scope ++ (x, n) ∷ []) n x
is_of_new scope x n h y g = go (find_more scope x n y n g)
  where
    go : (find scope y ≡ Some n) ⊎ ((y ≡ x) × (n ≡ n)) → y ≡ x
    go (inl q) = absurd (omega (arith, found_below n scope y n h q))
    go (inr q) = q.0

is_of_within : (scope : Scope) (k : ℕ) (x : List ℕ) (i : Word) (n : ℕ) (b : Bound) → k < n → IsOf scope k x → IsOf (within_loop scope n i b) k x
is_of_within scope k x i n (UpTo hi) l h = is_of_more scope k x i.text n l h
is_of_within scope k x i n (Least z v e hi) l h = is_of_more (scope ++ (i.text, n) ∷ []) k x z.text (n + 1) (omega arith) (is_of_more scope k x i.text n l h)

-- the slot of a loop is its name's, and that of its limit the limit's
is_of_loop : (scope : Scope) (i : Word) (n : ℕ) (b : Bound) → ScopeBelow n scope → IsOf (within_loop scope n i b) n i.text
is_of_loop scope i n (UpTo hi) h = is_of_new scope i.text n h
is_of_loop scope i n (Least z v e hi) h = is_of_more (scope ++ (i.text, n) ∷ []) n i.text z.text (n + 1) (omega arith) (is_of_new scope i.text n h)

is_of_declared : (scope : Scope) (k : ℕ) (x : List ℕ) (n : ℕ) (s : Statement) → k < n → IsOf scope k x → IsOf (declared scope n s) k x
is_of_declared scope k x n (Declare b y ty r) l h = is_of_more scope k x y.text n l h
is_of_declared scope k x n _ l h = h

-- the slot of another name that is found
other_slot : (scope : Scope) (k : ℕ) (x y : List ℕ) → IsOf scope k x → IsFound scope y → (y ≡ x → ⊥) → (unwrap_or (find scope y) 0 == k) ≡ false
other_slot scope k x y h g n = go (find scope y) refl g
  where
    go : (o : Option ℕ) → find scope y ≡ o → is_some o ≡ true → (unwrap_or o 0 == k) ≡ false
    go None q r = absurd (false≢true r)
    go (Some j) q r = apart (j == k) refl
      where
        apart : (b : Bool) → (j == k) ≡ b → (j == k) ≡ false
        apart true e = absurd (n (h y (q ∙ ap Some (eqb-true j k e))))
        apart false e = e

-- ---- what the unit's statements don't do

-- the statement itself doesn't assign to the name
abbrev pub SparesName : List ℕ → Statement → Type 0
SparesName x (Assign y e) = y.text ≡ x → ⊥
SparesName x _ = Unit {0}

abbrev pub SparesLimitName : Bound → Statement → Type 0
SparesLimitName (UpTo hi) s = Unit {0}
SparesLimitName (Least x v e hi) s = EachInside (SparesName x.text) s

abbrev mutual
  -- no loop's name is assigned to in its body, nor that of its limit
  pub KeepsNames : Statement → Type 0
  KeepsNames (Block close ss) = AllKeepNames ss
  KeepsNames (If at l op r s) = KeepsNames s
  KeepsNames (IfElse at l op r s u) = KeepsNames s × KeepsNames u
  KeepsNames (For at i lo b s) = int_le lo.value (top b) ≡ true → EachInside (SparesName i.text) s × SparesLimitName b s × KeepsNames s
  KeepsNames (Finish at s) = KeepsNames s
  KeepsNames _ = Unit {0}

  pub AllKeepNames : Statements → Type 0
  AllKeepNames Done = Unit {0}
  AllKeepNames (More s ss) = KeepsNames s × AllKeepNames ss

-- ---- expressions, where slot k is below the first temporary

further : (k t x : ℕ) → k < t → k < behind t x
further k t x h = go (x == t)
  where
    go : (b : Bool) → k < cond b (t + 1) t
    go true = omega arith
    go false = h

then_spares : (k : ℕ) (xs : List Instr) (i : Instr) → Holds (Spares k) xs → Spares k i → Holds (Spares k) (xs ++ i ∷ [])
then_spares k xs i h g = holds_both (Spares k) xs (i ∷ []) h (g, tt)

operation_spares : (k : ℕ) (o : Operator) (d x y : ℕ) → (d == k) ≡ false → Spares k (instr_of o d x y)
operation_spares k operator.Plus d x y h = h
operation_spares k operator.Minus d x y h = h
operation_spares k operator.Times d x y h = h

module _ (k : ℕ) (scope : Scope) where
  eval_spares : (t : ℕ) (e : Expression) → k < t → Holds (Spares k) (eval scope t e)
  eval_spares t (Literal n) h = (differs k t h, tt)
  eval_spares t (Named x) h = tt
  eval_spares t (Paren at e) h = eval_spares t e h
  eval_spares t (Negation at e) h =
      (differs k t h, then_spares k (eval scope (t + 1) e) (instr.Sub t t (slot_for scope (t + 1) e)) (eval_spares (t + 1) e (omega arith)) (differs k t h))
  eval_spares t (Binary o a at b) h =
      let u = behind t (slot_for scope t a) in
      let i = instr_of o t (slot_for scope t a) (slot_for scope u b) in
      holds_both (Spares k) (eval scope t a) (eval scope u b ++ i ∷ []) (eval_spares t a h)
      (then_spares k (eval scope u b) i (eval_spares u b (further k t (slot_for scope t a) h))
      (operation_spares k o t (slot_for scope t a) (slot_for scope u b) (differs k t h)))

  both_spare : (t : ℕ) (a b : Expression) → k < t → Holds (Spares k) (both scope t a b)
  both_spare t a b h =
      let u = behind t (slot_for scope t a) in
      holds_both (Spares k) (eval scope t a) (eval scope u b) (eval_spares t a h) (eval_spares u b (further k t (slot_for scope t a) h))

  before_spares : (t : ℕ) (e : Expression) → k < t → Holds (Spares k) (before_into scope t e)
  before_spares t (Literal n) h = tt
  before_spares t (Named x) h = tt
  before_spares t (Paren at e) h = before_spares t e h
  before_spares t (Negation at e) h = (differs k t h, eval_spares (t + 1) e (omega arith))
  before_spares t (Binary o a at b) h = both_spare t a b h

  last_spares : (t : ℕ) (e : Expression) (d : ℕ) → (d == k) ≡ false → Spares k (last_into scope t e d)
  last_spares t (Literal n) d h = h
  last_spares t (Named x) d h = h
  last_spares t (Paren at e) d h = last_spares t e d h
  last_spares t (Negation at e) d h = h
  last_spares t (Binary o a at b) d h = operation_spares k o d (slot_for scope t a) (second scope t a b) h

  all_spare : (t : ℕ) (es : List Expression) → k < t → Holds (Spares k) (eval_all scope t es)
  all_spare t [] h = tt
  all_spare t (e ∷ es) h =
      let u = behind t (slot_for scope t e) in
      holds_both (Spares k) (eval scope t e) (eval_all scope u es) (eval_spares t e h) (all_spare u es (further k t (slot_for scope t e) h))

  value_spares : (cx : Setting) (t : ℕ) (e : Expression) (d : ℕ) → (d == k) ≡ false → Spares k (last_value cx scope t e d)
  value_spares cx t (Named x) d h = go (find cx.shared x.text)
    where
      go : (o : Option ℕ) → Spares k (option_map_or (λ s. instr.Get d s) o (last_into scope t (Named x) d))
      go None = h
      go (Some s) = h
  value_spares cx t (Literal n) d h = last_spares t (Literal n) d h
  value_spares cx t (Paren at e) d h = last_spares t (Paren at e) d h
  value_spares cx t (Negation at e) d h = last_spares t (Negation at e) d h
  value_spares cx t (Binary o a at b) d h = last_spares t (Binary o a at b) d h

  put_spares : (cx : Setting) (t : ℕ) (e : Expression) (d : ℕ) → k < t → (d == k) ≡ false → Holds (Spares k) (before_into scope t e ++ last_value cx scope t e d ∷ [])
  put_spares cx t e d h g = then_spares k (before_into scope t e) (last_value cx scope t e d) (before_spares t e h) (value_spares cx t e d g)

  source_spares : (cx : Setting) (t d : ℕ) (r : Source) → k < t → (d == k) ≡ false → Holds (Spares k) (code_of_source cx t scope d r)
  source_spares cx t d (Make at v) h g = (g, tt)
  source_spares cx t d (Value e) h g = put_spares cx t e d h g

  assigned_spares : (cx : Setting) (t : ℕ) (x : List ℕ) (y : Word) (e : Expression) (o : Option ℕ) → k < t → IsOf scope k x → (y.text ≡ x → ⊥) → IsAssignable cx scope y e o
      → Holds (Spares k) (before_assigned scope t e o ++ last_assigned cx scope t y e o ∷ [])
  assigned_spares cx t x y e None h of n c = put_spares cx t e (number_of scope y) h (other_slot scope k x y.text of c.0 n)
  assigned_spares cx t x y e (Some s) h of n c = then_spares k (eval scope t e) (instr.Put s (slot_for scope t e)) (eval_spares t e h) refl

  bound_spares : (t n : ℕ) (b : Bound) → k < t → k < n → Holds (Spares k) (before_bound scope t n b)
  bound_spares t n (UpTo hi) h g = tt
  bound_spares t n (Least x v e hi) h g = then_spares k (before_into scope t e) (last_into scope t e (n + 1)) (before_spares t e h) (last_spares t e (n + 1) (differs k (n + 1) (omega arith)))

-- ---- statements

mutual
  slot_spared : (k : ℕ) (x : List ℕ) (cx : Setting) (t : ℕ) (scope : Scope) (n : ℕ) (s : Statement) → IsOf scope k x → k < t → k < n → IsCovered cx scope n s
      → EachInside (SparesName x) s → SparesSlot k (nest_of cx t scope n s)
  slot_spared k x cx t scope n (Block close ss) of a b c h = slots_spared k x cx t scope n ss of a b c h
  slot_spared k x cx t scope n Empty of a b c h = tt
  slot_spared k x cx t scope n (Declare d y ty r) of a b c h = source_spares k scope cx t n r a (differs k n b)
  slot_spared k x cx t scope n (Assign y e) of a b c h = assigned_spares k scope cx t x y e (find cx.shared y.text) a of h c
  slot_spared k x cx t scope n (Atomic y z at e) of a b c h =
      then_spares k (eval scope t e) (instr.AddTo (number_of cx.shared y) (slot_for scope t e)) (eval_spares k scope t e a) refl
  slot_spared k x cx t scope n (If at l op r s) of a b c h = (both_spare k scope t l r a, slot_spared k x cx t scope n s of a b c.2 h)
  slot_spared k x cx t scope n (IfElse at l op r s u) of a b c h =
      (both_spare k scope t l r a, (slot_spared k x cx t scope n s of a b c.2 h.0, slot_spared k x cx t scope (n + count s) u of a (omega arith) c.3 h.1))
  slot_spared k x cx t scope n (For at i lo b' s) of a b c h =
      go (int_le lo.value (top b')) c h (nest_of cx t there m s) (slot_spared k x cx t there m s (is_of_within scope k x i n b' b of) a (omega arith))
    where
      there : Scope
      there = within_loop scope n i b'

      m : ℕ
      m = n + loop_slots b'

      go : (q : Bool) → (q ≡ true → IsBoundKnown scope b' × IsLoopNew scope n i b' × IsCovered cx there m s) → (q ≡ true → EachInside (SparesName x) s) → (y : Nest)
          → (IsCovered cx there m s → EachInside (SparesName x) s → SparesSlot k y)
          → SparesSlot k (cond q (Then (Row (before_bound scope t n b')) (Looped n lo.value (limit_slot n b') (top b') y)) (Row []))
      go true d g y f = (bound_spares k scope t n b' a b, (differs k n b, f (d refl).2 (g refl)))
      go false d g y f = tt
  slot_spared k x cx t scope n (Async at cs s) of a b c h = (refl, tt)
  slot_spared k x cx t scope n (Finish at s) of a b c h = slot_spared k x cx t scope n s of a b c h
  slot_spared k x cx t scope n (Call f at es) of a b c h =
      then_spares k (eval_all scope t es) (instr.Call (number_of cx.methods f) (argument_slots scope t es)) (all_spare k scope t es a) refl
  slot_spared k x cx t scope n (Resume y v) of a b c h = (refl, tt)
  slot_spared k x cx t scope n (Drop y v) of a b c h = (refl, tt)
  slot_spared k x cx t scope n (AdvanceAll at v) of a b c h = (refl, tt)
  slot_spared k x cx t scope n (Print at v e) of a b c h = then_spares k (eval scope t e) (instr.Print (slot_for scope t e)) (eval_spares k scope t e a) refl

  slots_spared : (k : ℕ) (x : List ℕ) (cx : Setting) (t : ℕ) (scope : Scope) (n : ℕ) (ss : Statements) → IsOf scope k x → k < t → k < n → AreCovered cx scope n ss
      → EachOf (SparesName x) ss → SparesSlot k (nest_of_all cx t scope n ss)
  slots_spared k x cx t scope n Done of a b c h = tt
  slots_spared k x cx t scope n (More s ss) of a b c h = (
    slot_spared k x cx t scope n s of a b c.0 h.0,
    slots_spared k x cx t (declared scope n s) (n + count s) ss (is_of_declared scope k x n s b of) a (omega arith) c.1 h.1,
  )

slots_some : (b : Bound) → 1 ≤ loop_slots b
slots_some (UpTo hi) = omega arith
slots_some (Least x v e hi) = omega arith

-- a body spares the slot of its loop's limit
limit_kept : (cx : Setting) (t : ℕ) (scope : Scope) (n : ℕ) (i : Word) (b : Bound) (s : Statement) → ScopeBelow n scope → n + loop_slots b ≤ t
    → IsCovered cx (within_loop scope n i b) (n + loop_slots b) s → SparesLimitName b s
    → SparesLimit n (limit_slot n b) (nest_of cx t (within_loop scope n i b) (n + loop_slots b) s)
limit_kept cx t scope n i (UpTo hi) s w r c h = tt
limit_kept cx t scope n i (Least x v e hi) s w r c h =
    let outer = scope ++ (i.text, n) ∷ [] in
    let below : ScopeBelow (n + 1) outer = scope_more (n + 1) scope i.text n (scope_wider n (n + 1) scope (omega arith) w) (omega arith) in
    (differs n (n + 1) (omega arith), slot_spared (n + 1) x.text cx t (outer ++ (x.text, n + 1) ∷ []) (n + 2) s (is_of_new outer x.text (n + 1) below) (omega (arith, r)) (omega arith) c h)

mutual
  pub loops_kept : (cx : Setting) (t : ℕ) (scope : Scope) (n : ℕ) (s : Statement) → ScopeBelow n scope → n + count s ≤ t → IsCovered cx scope n s → KeepsNames s
      → LoopsKept (nest_of cx t scope n s)
  loops_kept cx t scope n (Block close ss) w r c h = all_loops_kept cx t scope n ss w r c h
  loops_kept cx t scope n (If at l op r' s) w r c h = (tt, loops_kept cx t scope n s w r c.2 h)
  loops_kept cx t scope n (IfElse at l op r' s u) w r c h =
      let wider = scope_wider n (n + count s) scope (omega arith) w in
      (tt, (loops_kept cx t scope n s w (omega (arith, r)) c.2 h.0, loops_kept cx t scope (n + count s) u wider (omega (arith, r)) c.3 h.1))
  loops_kept cx t scope n (For at i lo b s) w r c h =
      go (int_le lo.value (top b)) refl c h (nest_of cx t there m s)
      (λ d g. (
        slot_spared n i.text cx t there m s (is_of_loop scope i n b w) (omega (arith, r, slots_some b)) (omega (arith, slots_some b)) d g.0,
        limit_kept cx t scope n i b s w (omega (arith, r)) d g.1,
        loops_kept cx t there m s (within_below m scope n i b (scope_wider n m scope (omega arith) w) (omega arith)) (omega (arith, r)) d g.2,
      ))
    where
      there : Scope
      there = within_loop scope n i b

      m : ℕ
      m = n + loop_slots b

      go : (q : Bool) → int_le lo.value (top b) ≡ q → (q ≡ true → IsBoundKnown scope b × IsLoopNew scope n i b × IsCovered cx there m s)
          → (q ≡ true → EachInside (SparesName i.text) s × SparesLimitName b s × KeepsNames s) → (y : Nest)
          → (IsCovered cx there m s → EachInside (SparesName i.text) s × SparesLimitName b s × KeepsNames s → SparesSlot n y × SparesLimit n (limit_slot n b) y × LoopsKept y)
          → LoopsKept (cond q (Then (Row (before_bound scope t n b)) (Looped n lo.value (limit_slot n b) (top b) y)) (Row []))
      go true e d k y f = let g = f (d refl).2 (k refl) in (tt, (e, g.0, g.1, g.2))
      go false e d k y f = tt
  loops_kept cx t scope n (Finish at s) w r c h = loops_kept cx t scope n s w r c h
  loops_kept cx t scope n _ w r c h = tt

  all_loops_kept : (cx : Setting) (t : ℕ) (scope : Scope) (n : ℕ) (ss : Statements) → ScopeBelow n scope → n + count_all ss ≤ t → AreCovered cx scope n ss → AllKeepNames ss
      → LoopsKept (nest_of_all cx t scope n ss)
  all_loops_kept cx t scope n Done w r c h = tt
  all_loops_kept cx t scope n (More s ss) w r c h =
      let wider = declared_below (n + count s) scope n s (scope_wider n (n + count s) scope (omega arith) w) (omega arith) in
      (loops_kept cx t scope n s w (omega (arith, r)) c.0 h.0, all_loops_kept cx t (declared scope n s) (n + count s) ss wider (omega (arith, r)) c.1 h.1)
