-- Homes: each clock's slot is made once, no parameter's is, and a method that drops no clock of its parameters breaks none of V8.
use Rattle.std.proofs.Common.{◌≡◌, ℕ, ℤ, zero, suc, int_le, Bool, true, false, true≢false, cond, ◌+◌, ◌≤◌, ◌==◌, ◌&&◌, ◌||◌, List, [], ◌∷◌, ◌++◌, length, take, Option, Some, None, unwrap_or, inl, inr, ◌⊎◌, refl, sym, subst, arith}
use Rattle.std.specs.Prelude.{is_some, nat_lt, slice_get}
use Rattle.std.proofs.lemmas.Bool.{false≢true}
use Rattle.std.proofs.lemmas.Bool.Decides.{nat_tests}
use Rattle.std.proofs.lemmas.Option.{none-some, same_Some, slice_get_past}
use Rattle.xk_types.specs.declared.instr.Instr.{Instr}
use Rattle.xk_types.specs.declared.instr.Instr.TheVariants as instr
use Rattle.xk_types.specs.declared.unit.ParamKind.{ParamKind}
use Rattle.xk_types.specs.declared.unit.UnitKind.{UnitKind}
use Rattle.xk_types.specs.Code.{UnitValue, is_method}
use Rattle.xk_types.specs.Blocks.{block_at, takes_clock, makes, made_from, is_elsewhere}
use Rattle.xk_types.specs.Shape.{mishandles, moves_home, breaks_home}
use Rattle.xk_tree.specs.Tree.{Word, Make, Value, Bound, UpTo, Least, top, Statement, Block, Empty, Declare, Assign, Atomic, If, IfElse, For, Async, Finish, Call, Resume, Drop, AdvanceAll, Print, Statements, Done, More}
use Rattle.xk_names.specs.Scope.{find, has, is_text}
use Rattle.xk_emit.specs.CodeOf.{Scope, Setting, before_bound, both, head_of, loop_slots, within_loop, slot_for, second, count, count_all, declared, code_of, code_of_all}
use Rattle.xk_emit.specs.Unit.{scope_from, first_temporary, unit_code, unit_of}
use Rattle.xk_emit.specs.NameCoverage.{IsFound, IsBoundKnown, IsLoopNew, IsCovered, AreCovered, IsUnitCovered}
use Rattle.xk_emit.proofs.ShapeLemmas.PositionLemmas.{Holds, holds_both, holds_got}
use Rattle.xk_emit.proofs.ShapeLemmas.StructureLemmas.{Nest, Row, Then, Loop, limit_slot, lay, EachRow, each_laid, nest_of, nest_of_all, laid}
use Rattle.xk_emit.proofs.ShapeLemmas.InstructionLemmas.{EachInside, EachOf, Leaves, rows_of, each_both, each_bound}
use Rattle.xk_emit.proofs.ShapeLemmas.LoopCounterLemmas.{find_more}
use Rattle.xk_emit.proofs.ShapeLemmas.UnitStructureLemmas.{is_none}

-- ---- each is made once

-- clocks are made in slots that rise, from lo to before hi
abbrev free_behind : ℕ → Instr → ℕ
free_behind lo (instr.Make d) = d + 1
free_behind lo _ = lo

abbrev IsFree : ℕ → Instr → Type 0
IsFree lo (instr.Make d) = lo ≤ d
IsFree lo _ = Unit {0}

abbrev Rises : ℕ → ℕ → List Instr → Type 0
Rises lo hi [] = lo ≤ hi
Rises lo hi (i ∷ is) = IsFree lo i × Rises (free_behind lo i) hi is

rises_lower : (lo mid hi : ℕ) (is : List Instr) → lo ≤ mid → Rises mid hi is → Rises lo hi is
rises_lower lo mid hi [] l h = omega arith
rises_lower lo mid hi (i ∷ is) l h = go i h (rises_lower lo mid hi is l)
  where
    go : (j : Instr) → IsFree mid j × Rises (free_behind mid j) hi is → (Rises mid hi is → Rises lo hi is) → IsFree lo j × Rises (free_behind lo j) hi is
    go (instr.Make d) g later = (omega (arith, g.0), g.1)
    go _ g later = (tt, later g.1)

rises_both : (lo mid hi : ℕ) (xs ys : List Instr) → Rises lo mid xs → Rises mid hi ys → Rises lo hi (xs ++ ys)
rises_both lo mid hi [] ys h g = rises_lower lo mid hi ys h g
rises_both lo mid hi (x ∷ xs) ys h g = (h.0, rises_both (free_behind lo x) mid hi xs ys h.1 g)

-- an instruction that makes no clock
abbrev NoMake : Instr → Type 0
NoMake (instr.Make d) = ⊥
NoMake _ = Unit {0}

rises_none : (lo hi : ℕ) (is : List Instr) → lo ≤ hi → Holds NoMake is → Rises lo hi is
rises_none lo hi [] l h = l
rises_none lo hi (i ∷ is) l h = go i h.0 (rises_none lo hi is l h.1)
  where
    go : (j : Instr) → NoMake j → Rises lo hi is → IsFree lo j × Rises (free_behind lo j) hi is
    go (instr.Make d) g later = absurd g
    go _ g later = (tt, later)

-- a statement that declares no clock
abbrev NoClock : Statement → Type 0
NoClock (Declare b x ty (Make at v)) = ⊥
NoClock _ = Unit {0}

make_leaves : (cx : Setting) → Leaves cx NoClock NoMake
make_leaves cx = record {
  lit = λ d n. tt;
  copy = λ d x. tt;
  add = λ d x y. tt;
  sub = λ d x y. tt;
  mul = λ d x y. tt;
  get = λ x d s h. tt;
  put = λ x s a h. tt;
  add_to = λ x y at e h a. tt;
  print = λ x. tt;
  make = λ b x ty at v h d. absurd h;
  resume = λ c. tt;
  drop = λ c v h k. tt;
  advance = tt;
  call = λ f at es args h e. tt;
  spawn = λ at cs q args h e. tt;
}

rises_head : (lo hi n : ℕ) (l : ℤ) (b : Bound) (e : ℕ) (is : List Instr) → Rises lo hi is → Rises lo hi (head_of n l b e ∷ is)
rises_head lo hi n l (UpTo h) e is r = (tt, r)
rises_head lo hi n l (Least x v k h) e is r = (tt, r)

mutual
  -- the slots of a statement's clocks
  rises : (cx : Setting) (t : ℕ) (scope : Scope) (n p : ℕ) (s : Statement) → Rises n (n + count s) (code_of cx t scope n p s)
  rises cx t scope n p (Block close ss) = all_rise cx t scope n p ss
  rises cx t scope n p (Declare b x ty (Make at v)) = (omega arith, omega arith)
  rises cx t scope n p (Declare b x ty (Value e)) =
      rises_none n (n + 1) (code_of cx t scope n p (Declare b x ty (Value e))) (omega arith) (rows_of cx NoClock NoMake (make_leaves cx) t scope n (Declare b x ty (Value e)) tt)
  rises cx t scope n p (If at l op r s) =
      let q = p + length (both scope t l r) in
      let body = code_of cx t scope n (q + 1) s in
      let i = instr.Unless op (slot_for scope t l) (second scope t l r) (q + 1 + length body) in
      rises_both n n (n + count s) (both scope t l r) (i ∷ body) (rises_none n n (both scope t l r) (omega arith) (each_both cx NoClock NoMake (make_leaves cx) scope t l r))
      (tt, rises cx t scope n (q + 1) s)
  rises cx t scope n p (IfElse at l op r s u) =
      let q = p + length (both scope t l r) in
      let body = code_of cx t scope n (q + 1) s in
      let other = code_of cx t scope (n + count s) (q + 1 + length body + 1) u in
      let i = instr.Unless op (slot_for scope t l) (second scope t l r) (q + 1 + length body + 1) in
      let jump = instr.Jump (q + 1 + length body + 1 + length other) in
      let end : n + count s + count u ≡ n + (count s + count u) = omega arith in
      rises_both n n (n + (count s + count u)) (both scope t l r) (i ∷ (body ++ jump ∷ other))
      (rises_none n n (both scope t l r) (omega arith) (each_both cx NoClock NoMake (make_leaves cx) scope t l r)) (
        tt,
        rises_both n (n + count s) (n + (count s + count u)) body (jump ∷ other) (rises cx t scope n (q + 1) s)
            (tt, subst (λ k. Rises (n + count s) k other) end (rises cx t scope (n + count s) (q + 1 + length body + 1) u)),
      )
  rises cx t scope n p (For at i lo b s) = go (int_le lo.value (top b)) (code_of cx t there m (q + 1) s) (rises cx t there m (q + 1) s)
    where
      first : List Instr
      first = before_bound scope t n b

      q : ℕ
      q = p + length first

      there : Scope
      there = within_loop scope n i b

      m : ℕ
      m = n + loop_slots b

      end : ℕ
      end = n + (count s + loop_slots b)

      go : (c : Bool) (body : List Instr) → Rises m (m + count s) body
          → Rises n end (cond c (first ++ head_of n lo.value b (q + 1 + length body) ∷ (body ++ instr.Next q ∷ [])) [])
      go true body h =
          let behind = body ++ instr.Next q ∷ [] in
          let head = head_of n lo.value b (q + 1 + length body) in
          rises_both n n end first (head ∷ behind) (rises_none n n first (omega arith) (each_bound cx NoClock NoMake (make_leaves cx) scope t n b))
          (rises_head n end n lo.value b (q + 1 + length body) behind
          (rises_lower n m end behind (omega arith) (rises_both m (m + count s) end body (instr.Next q ∷ []) h (tt, omega arith))))
      go false body h = omega arith
  rises cx t scope n p (Finish at s) =
      let body = code_of cx t scope n (p + 1) s in
      (tt, rises_both n (n + count s) (n + count s) body (instr.EndFinish p ∷ []) (rises cx t scope n (p + 1) s) (tt, omega arith))
  rises cx t scope n p Empty = omega arith
  rises cx t scope n p (Assign x e) =
      rises_none n (n + 0) (code_of cx t scope n p (Assign x e)) (omega arith) (rows_of cx NoClock NoMake (make_leaves cx) t scope n (Assign x e) tt)
  rises cx t scope n p (Atomic x y at e) =
      rises_none n (n + 0) (code_of cx t scope n p (Atomic x y at e)) (omega arith) (rows_of cx NoClock NoMake (make_leaves cx) t scope n (Atomic x y at e) tt)
  rises cx t scope n p (Async at cs s) = (tt, omega arith)
  rises cx t scope n p (Call f at es) =
      rises_none n (n + 0) (code_of cx t scope n p (Call f at es)) (omega arith) (rows_of cx NoClock NoMake (make_leaves cx) t scope n (Call f at es) tt)
  rises cx t scope n p (Resume c v) = (tt, omega arith)
  rises cx t scope n p (Drop c v) = (tt, omega arith)
  rises cx t scope n p (AdvanceAll at v) = (tt, omega arith)
  rises cx t scope n p (Print at v e) =
      rises_none n (n + 0) (code_of cx t scope n p (Print at v e)) (omega arith) (rows_of cx NoClock NoMake (make_leaves cx) t scope n (Print at v e) tt)

  all_rise : (cx : Setting) (t : ℕ) (scope : Scope) (n p : ℕ) (ss : Statements) → Rises n (n + count_all ss) (code_of_all cx t scope n p ss)
  all_rise cx t scope n p Done = omega arith
  all_rise cx t scope n p (More s ss) =
      let here = code_of cx t scope n p s in
      let rest = code_of_all cx t (declared scope n s) (n + count s) (p + length here) ss in
      let end : n + count s + count_all ss ≡ n + (count s + count_all ss) = omega arith in
      rises_both n (n + count s) (n + (count s + count_all ss)) here rest (rises cx t scope n p s)
      (subst (λ k. Rises (n + count s) k rest) end (all_rise cx t (declared scope n s) (n + count s) (p + length here) ss))

-- ---- what is made before a place

-- a clock that is made at a place lies from lo on
made_above : (lo hi : ℕ) (is : List Instr) (at d : ℕ) → Rises lo hi is → slice_get is at ≡ Some (instr.Make d) → lo ≤ d
made_above lo hi [] at d h g = absurd (none-some (instr.Make d) g)
made_above lo hi (i ∷ is) zero d h g = subst (IsFree lo) (same_Some i (instr.Make d) g) h.0
made_above lo hi (i ∷ is) (suc at) d h g = go i h (made_above (free_behind lo i) hi is at d h.1 g)
  where
    go : (j : Instr) → IsFree lo j × Rises (free_behind lo j) hi is → free_behind lo j ≤ d → lo ≤ d
    go (instr.Make k) q r = omega (arith, q.0)
    go _ q r = r

-- and no instruction before it makes it
made_first : (u : UnitValue) (lo hi b : ℕ) (is : List Instr) (at d : ℕ) → Rises lo hi is → slice_get is at ≡ Some (instr.Make d) → made_from u d b (take at is) ≡ []
made_first u lo hi b [] at d h g = absurd (none-some (instr.Make d) g)
made_first u lo hi b (i ∷ is) zero d h g = refl
made_first u lo hi b (i ∷ is) (suc at) d h g = go i h (made_above (free_behind lo i) hi is at d h.1 g) (made_first u (free_behind lo i) hi (suc b) is at d h.1 g)
  where
    go : (j : Instr) → IsFree lo j × Rises (free_behind lo j) hi is → free_behind lo j ≤ d → made_from u d (suc b) (take at is) ≡ []
        → cond (makes d j) (block_at u b ∷ made_from u d (suc b) (take at is)) (made_from u d (suc b) (take at is)) ≡ []
    go (instr.Make k) q r e = let other : (k == d) ≡ false = grind (arith, nat_tests) in rw other e
    go _ q r e = e

-- ---- drops

-- a clock that is dropped has a slot from m on
abbrev DropsFrom : ℕ → Instr → Type 0
DropsFrom m (instr.Drop k) = m ≤ k
DropsFrom m _ = Unit {0}

-- a statement that drops no clock
abbrev NoDrop : Statement → Type 0
NoDrop (Drop c v) = ⊥
NoDrop _ = Unit {0}

drop_leaves : (cx : Setting) (m : ℕ) → Leaves cx NoDrop (DropsFrom m)
drop_leaves cx m = record {
  lit = λ d n. tt;
  copy = λ d x. tt;
  add = λ d x y. tt;
  sub = λ d x y. tt;
  mul = λ d x y. tt;
  get = λ x d s h. tt;
  put = λ x s a h. tt;
  add_to = λ x y at e h a. tt;
  print = λ x. tt;
  make = λ b x ty at v h d. tt;
  resume = λ c. tt;
  drop = λ c v h k. absurd h;
  advance = tt;
  call = λ f at es args h e. tt;
  spawn = λ at cs q args h e. tt;
}

-- the statement itself drops no clock of one of these names
abbrev pub SparesClocks : List (List ℕ) → Statement → Type 0
SparesClocks xs (Drop c v) = has xs c.text ≡ false
SparesClocks xs _ = Unit {0}

-- names but these have slots from m on
abbrev OthersFrom : List (List ℕ) → ℕ → Scope → Type 0
OthersFrom xs m scope = (y : List ℕ) (k : ℕ) → find scope y ≡ Some k → has xs y ≡ false → m ≤ k

others_more : (xs : List (List ℕ)) (m : ℕ) (scope : Scope) (x : List ℕ) (n : ℕ) → m ≤ n → OthersFrom xs m scope → OthersFrom xs m (scope ++ (x, n) ∷ [])
others_more xs m scope x n l h y k g other = go (find_more scope x n y k g)
  where
    go : (find scope y ≡ Some k) ⊎ ((y ≡ x) × (n ≡ k)) → m ≤ k
    go (inl q) = h y k q other
    go (inr q) = omega (arith, q.1)

others_within : (xs : List (List ℕ)) (m : ℕ) (scope : Scope) (n : ℕ) (i : Word) (b : Bound) → m ≤ n → OthersFrom xs m scope → OthersFrom xs m (within_loop scope n i b)
others_within xs m scope n i (UpTo hi) l h = others_more xs m scope i.text n l h
others_within xs m scope n i (Least x v e hi) l h =
    others_more xs m (scope ++ (i.text, n) ∷ []) x.text (n + 1) (omega (arith, l)) (others_more xs m scope i.text n l h)

others_declared : (xs : List (List ℕ)) (m : ℕ) (scope : Scope) (n : ℕ) (s : Statement) → m ≤ n → OthersFrom xs m scope → OthersFrom xs m (declared scope n s)
others_declared xs m scope n (Declare b x ty r) l h = others_more xs m scope x.text n l h
others_declared xs m scope n _ l h = h

-- a parameter is one of its names
others_first : (xs : List (List ℕ)) (n m : ℕ) → OthersFrom xs m (scope_from n xs)
others_first [] n m y k g other = absurd (none-some k g)
others_first (x ∷ xs) n m y k g other = go (is_text y x) (others_first xs (n + 1) m y k) g other
  where
    go : (b : Bool) → (find (scope_from (n + 1) xs) y ≡ Some k → has xs y ≡ false → m ≤ k) → cond b (Some n) (find (scope_from (n + 1) xs) y) ≡ Some k
        → (b || has xs y) ≡ false → m ≤ k
    go true later q r = absurd (true≢false r)
    go false later q r = later q r

slot_from : (xs : List (List ℕ)) (m : ℕ) (scope : Scope) (y : List ℕ) → OthersFrom xs m scope → IsFound scope y → has xs y ≡ false → m ≤ unwrap_or (find scope y) 0
slot_from xs m scope y h g other = go (find scope y) refl g
  where
    go : (o : Option ℕ) → find scope y ≡ o → is_some o ≡ true → m ≤ unwrap_or o 0
    go None q r = absurd (false≢true r)
    go (Some k) q r = h y k q other

mutual
  drops_from : (cx : Setting) (xs : List (List ℕ)) (m t : ℕ) (scope : Scope) (n : ℕ) (s : Statement) → m ≤ n → OthersFrom xs m scope → IsCovered cx scope n s
      → EachInside (SparesClocks xs) s → EachRow (DropsFrom m) (nest_of cx t scope n s)
  drops_from cx xs m t scope n (Block close ss) l o c h = all_drop_from cx xs m t scope n ss l o c h
  drops_from cx xs m t scope n (If at a op b s) l o c h = (each_both cx NoDrop (DropsFrom m) (drop_leaves cx m) scope t a b, drops_from cx xs m t scope n s l o c.2 h)
  drops_from cx xs m t scope n (IfElse at a op b s u) l o c h = (
    each_both cx NoDrop (DropsFrom m) (drop_leaves cx m) scope t a b,
    (drops_from cx xs m t scope n s l o c.2 h.0, drops_from cx xs m t scope (n + count s) u (omega (arith, l)) o c.3 h.1),
  )
  drops_from cx xs m t scope n (For at i lo b s) l o c h =
      go (int_le lo.value (top b)) c h (nest_of cx t there (n + loop_slots b) s)
      (drops_from cx xs m t there (n + loop_slots b) s (omega (arith, l)) (others_within xs m scope n i b l o))
    where
      there : Scope
      there = within_loop scope n i b

      go : (q : Bool) → (q ≡ true → IsBoundKnown scope b × IsLoopNew scope n i b × IsCovered cx there (n + loop_slots b) s) → (q ≡ true → EachInside (SparesClocks xs) s)
          → (y : Nest) → (IsCovered cx there (n + loop_slots b) s → EachInside (SparesClocks xs) s → EachRow (DropsFrom m) y)
          → EachRow (DropsFrom m) (cond q (Then (Row (before_bound scope t n b)) (Loop n lo.value (limit_slot n b) (top b) y)) (Row []))
      go true d g y f = (each_bound cx NoDrop (DropsFrom m) (drop_leaves cx m) scope t n b, f (d refl).2 (g refl))
      go false d g y f = tt
  drops_from cx xs m t scope n (Finish at s) l o c h = drops_from cx xs m t scope n s l o c h
  drops_from cx xs m t scope n (Drop y v) l o c h = (slot_from xs m scope y.text o c h, tt)
  drops_from cx xs m t scope n Empty l o c h = tt
  drops_from cx xs m t scope n (Declare b x ty r) l o c h = rows_of cx NoDrop (DropsFrom m) (drop_leaves cx m) t scope n (Declare b x ty r) tt
  drops_from cx xs m t scope n (Assign x e) l o c h = rows_of cx NoDrop (DropsFrom m) (drop_leaves cx m) t scope n (Assign x e) tt
  drops_from cx xs m t scope n (Atomic x y at e) l o c h = rows_of cx NoDrop (DropsFrom m) (drop_leaves cx m) t scope n (Atomic x y at e) tt
  drops_from cx xs m t scope n (Async at cs s) l o c h = (tt, tt)
  drops_from cx xs m t scope n (Call f at es) l o c h = rows_of cx NoDrop (DropsFrom m) (drop_leaves cx m) t scope n (Call f at es) tt
  drops_from cx xs m t scope n (Resume y v) l o c h = (tt, tt)
  drops_from cx xs m t scope n (AdvanceAll at v) l o c h = (tt, tt)
  drops_from cx xs m t scope n (Print at v e) l o c h = rows_of cx NoDrop (DropsFrom m) (drop_leaves cx m) t scope n (Print at v e) tt

  all_drop_from : (cx : Setting) (xs : List (List ℕ)) (m t : ℕ) (scope : Scope) (n : ℕ) (ss : Statements) → m ≤ n → OthersFrom xs m scope → AreCovered cx scope n ss
      → EachOf (SparesClocks xs) ss → EachRow (DropsFrom m) (nest_of_all cx t scope n ss)
  all_drop_from cx xs m t scope n Done l o c h = tt
  all_drop_from cx xs m t scope n (More s ss) l o c h = (
    drops_from cx xs m t scope n s l o c.0 h.0,
    all_drop_from cx xs m t (declared scope n s) (n + count s) ss (omega (arith, l)) (others_declared xs m scope n s l o) c.1 h.1,
  )

-- ---- the unit

module _ (cx : Setting) (kind : UnitKind) (xs : List (List ℕ)) (kinds : List ParamKind) (s : Statement) where
  abbrev u : UnitValue
  u = unit_of cx kind xs kinds s

  abbrev t : ℕ
  t = first_temporary xs s

  abbrev code : List Instr
  code = code_of cx t (scope_from 0 xs) (length xs) 0 s

  made : Rises (length xs) (length xs + count s) (unit_code cx xs s)
  made = rises_both (length xs) (length xs + count s) (length xs + count s) code (instr.Ret ∷ []) (rises cx t (scope_from 0 xs) (length xs) 0 s) (tt, omega arith)

  dropped : IsUnitCovered cx xs s → EachInside (SparesClocks xs) s → Holds (DropsFrom (length xs)) (unit_code cx xs s)
  dropped c h = subst (λ k. Holds (DropsFrom (length xs)) (k ++ instr.Ret ∷ [])) (sym (laid cx t (scope_from 0 xs) (length xs) 0 s))
      (holds_both (DropsFrom (length xs)) (lay 0 (nest_of cx t (scope_from 0 xs) (length xs) s)) (instr.Ret ∷ [])
      (each_laid (DropsFrom (length xs)) (record { unless = λ op a b q. tt; jump = λ q. tt; begins = λ k lo hi e. tt; limited = λ k lo x hi e. tt; next = λ b. tt; finish = λ e. tt; ends = λ b. tt })
      0 (nest_of cx t (scope_from 0 xs) (length xs) s)
      (drops_from cx xs (length xs) t (scope_from 0 xs) (length xs) s (omega arith) (others_first xs 0 (length xs)) c.body h)) (tt, tt))

  -- V8, where a method drops no clock that it is lent
  pub keeps_home : length kinds ≡ length xs → IsUnitCovered cx xs s → (is_method kind ≡ true → EachInside (SparesClocks xs) s)
      → (at : ℕ) → breaks_home (unit_of cx kind xs kinds s) at ≡ false
  keeps_home params c h at = is_none (λ i. mishandles u i || moves_home u at i) (slice_get (unit_code cx xs s) at) one
    where
      drop : (k : ℕ) (b : Bool) → is_method kind ≡ b → slice_get (unit_code cx xs s) at ≡ Some (instr.Drop k) → ((b && takes_clock (slice_get kinds k)) || false) ≡ false
      drop k true e g =
          let far : length kinds ≤ k = omega (arith, params, holds_got (DropsFrom (length xs)) (unit_code cx xs s) at (instr.Drop k) (dropped c (h e)) g) in
          rw (slice_get_past kinds k far) refl
      drop k false e g = refl

      make : (d : ℕ) → slice_get (unit_code cx xs s) at ≡ Some (instr.Make d)
          → (nat_lt d (length kinds) || is_elsewhere (block_at u at) (made_from u d 0 (take at (unit_code cx xs s)))) ≡ false
      make d g =
          let far = made_above (length xs) (length xs + count s) (unit_code cx xs s) at d made g in
          let above : nat_lt d (length kinds) ≡ false = grind (arith, nat_tests) in
          rw (above, made_first u (length xs) (length xs + count s) 0 (unit_code cx xs s) at d made g) refl

      one : (i : Instr) → slice_get (unit_code cx xs s) at ≡ Some i → (mishandles u i || moves_home u at i) ≡ false
      one (instr.Make d) g = make d g
      one (instr.Drop k) g = drop k (is_method kind) refl g
      one _ g = refl
