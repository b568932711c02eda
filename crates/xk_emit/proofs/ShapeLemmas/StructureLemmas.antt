-- The code of a statement in its structure: rows of instructions that name no place, what may be jumped over, loops and finishes.
use Rattle.std.proofs.Common.{◌≡◌, ℕ, ℤ, int_le, Bool, true, false, cond, ◌+◌, List, [], ◌∷◌, ◌++◌, length, Option, Some, None, refl, ap, ◌∙◌}
use Rattle.std.specs.Prelude.{if◌then◌else◌}
use Rattle.xk_types.specs.declared.instr.Instr.{Instr}
use Rattle.xk_types.specs.declared.instr.Instr.TheVariants as instr
use Rattle.xk_types.specs.declared.instr.Comparison.{Comparison}
use Rattle.xk_tree.specs.Tree.{Bound, UpTo, Least, Statement, Block, If, IfElse, For, top, Finish, Statements, Done, More}
use Rattle.xk_emit.proofs.ShapeLemmas.PositionLemmas.{Holds, holds_both, holds_all}
use Rattle.xk_emit.specs.CodeOf.{Scope, Setting, before_bound, both, head_of, loop_slots, second, slot_for, within_loop, count, declared, code_of, code_of_all}

pub data Nest : Type 0 where
  -- instructions that name no place
  Row : List Instr → Nest
  Then : Nest → Nest → Nest
  -- what is carried out if two numbers compare so
  Where : Comparison → ℕ → ℕ → Nest → Nest
  -- with what is carried out else
  Choice : Comparison → ℕ → ℕ → Nest → Nest → Nest
  -- a loop over a slot, from one number up to another, and no further than the number in a slot, if one is named
  Loop : ℕ → ℤ → Option ℕ → ℤ → Nest → Nest
  Closed : Nest → Nest

-- the first instruction of a loop whose `next` stands at place e
abbrev pub head : ℕ → ℤ → Option ℕ → ℤ → ℕ → Instr
head k lo None hi e = instr.For k lo hi e
head k lo (Some x) hi e = instr.ForTo k lo x hi e

-- its code from place p on
abbrev pub lay : ℕ → Nest → List Instr
lay p (Row is) = is
lay p (Then a b) = lay p a ++ lay (p + length (lay p a)) b
lay p (Where op x y a) = instr.Unless op x y (p + 1 + length (lay (p + 1) a)) ∷ lay (p + 1) a
lay p (Choice op x y a b) =
    let body = lay (p + 1) a in
    let other = lay (p + 1 + length body + 1) b in
    instr.Unless op x y (p + 1 + length body + 1) ∷ (body ++ instr.Jump (p + 1 + length body + 1 + length other) ∷ other)
lay p (Loop k lo l hi a) = let body = lay (p + 1) a in head k lo l hi (p + 1 + length body) ∷ (body ++ instr.Next p ∷ [])
lay p (Closed a) = let body = lay (p + 1) a in instr.Finish (p + 1 + length body) ∷ (body ++ instr.EndFinish p ∷ [])

-- each instruction of its rows has a property
abbrev pub EachRow : (Instr → Type 0) → Nest → Type 0
EachRow P (Row is) = Holds P is
EachRow P (Then a b) = EachRow P a × EachRow P b
EachRow P (Where op x y a) = EachRow P a
EachRow P (Choice op x y a b) = EachRow P a × EachRow P b
EachRow P (Loop k lo l hi a) = EachRow P a
EachRow P (Closed a) = EachRow P a

-- what holds of the instructions that make the structure
pub record Frames (P : Instr → Type 0) : Type 0 where
  pub unless : (op : Comparison) (x y t : ℕ) → P (instr.Unless op x y t)
  pub jump : (t : ℕ) → P (instr.Jump t)
  pub begins : (k : ℕ) (lo hi : ℤ) (e : ℕ) → P (instr.For k lo hi e)
  pub limited : (k : ℕ) (lo : ℤ) (x : ℕ) (hi : ℤ) (e : ℕ) → P (instr.ForTo k lo x hi e)
  pub next : (b : ℕ) → P (instr.Next b)
  pub finish : (e : ℕ) → P (instr.Finish e)
  pub ends : (b : ℕ) → P (instr.EndFinish b)

of_head : (P : Instr → Type 0) → Frames P → (k : ℕ) (lo : ℤ) (l : Option ℕ) (hi : ℤ) (e : ℕ) → P (head k lo l hi e)
of_head P f k lo None hi e = f.begins k lo hi e
of_head P f k lo (Some x) hi e = f.limited k lo x hi e

-- and of its rows holds of its code
pub each_laid : (P : Instr → Type 0) → Frames P → (p : ℕ) (x : Nest) → EachRow P x → Holds P (lay p x)
each_laid P f p (Row is) r = r
each_laid P f p (Then a b) r = holds_both P (lay p a) (lay (p + length (lay p a)) b) (each_laid P f p a r.0) (each_laid P f (p + length (lay p a)) b r.1)
each_laid P f p (Where op x y a) r = (f.unless op x y (p + 1 + length (lay (p + 1) a)), each_laid P f (p + 1) a r)
each_laid P f p (Choice op x y a b) r =
    let mid = p + 1 + length (lay (p + 1) a) in
    let other = lay (mid + 1) b in (
      f.unless op x y (mid + 1),
      holds_both P (lay (p + 1) a) (instr.Jump (mid + 1 + length other) ∷ other) (each_laid P f (p + 1) a r.0)
          (f.jump (mid + 1 + length other), each_laid P f (mid + 1) b r.1),
    )
each_laid P f p (Loop k lo l hi a) r =
    (of_head P f k lo l hi (p + 1 + length (lay (p + 1) a)), holds_both P (lay (p + 1) a) (instr.Next p ∷ []) (each_laid P f (p + 1) a r) (f.next p, tt))
each_laid P f p (Closed a) r =
    (f.finish (p + 1 + length (lay (p + 1) a)), holds_both P (lay (p + 1) a) (instr.EndFinish p ∷ []) (each_laid P f (p + 1) a r) (f.ends p, tt))

-- a property that another one gives
pub each_row : (P Q : Instr → Type 0) → ((i : Instr) → P i → Q i) → (x : Nest) → EachRow P x → EachRow Q x
each_row P Q h (Row is) r = holds_all P Q h is r
each_row P Q h (Then a b) r = (each_row P Q h a r.0, each_row P Q h b r.1)
each_row P Q h (Where op x y a) r = each_row P Q h a r
each_row P Q h (Choice op x y a b) r = (each_row P Q h a r.0, each_row P Q h b r.1)
each_row P Q h (Loop k lo l hi a) r = each_row P Q h a r
each_row P Q h (Closed a) r = each_row P Q h a r

-- the slot of a loop's limit, where n is the loop's
abbrev pub limit_slot : ℕ → Bound → Option ℕ
limit_slot n (UpTo hi) = None
limit_slot n (Least x v e hi) = Some (n + 1)

-- the structure of a statement's code
abbrev mutual
  pub nest_of : Setting → ℕ → Scope → ℕ → Statement → Nest
  nest_of cx t scope n (Block close ss) = nest_of_all cx t scope n ss
  nest_of cx t scope n (If at l op r s) = Then (Row (both scope t l r)) (Where op (slot_for scope t l) (second scope t l r) (nest_of cx t scope n s))
  nest_of cx t scope n (IfElse at l op r s u) =
      Then (Row (both scope t l r)) (Choice op (slot_for scope t l) (second scope t l r) (nest_of cx t scope n s) (nest_of cx t scope (n + count s) u))
  nest_of cx t scope n (For at i lo b s) =
      if int_le lo.value (top b)
      then Then (Row (before_bound scope t n b)) (Loop n lo.value (limit_slot n b) (top b) (nest_of cx t (within_loop scope n i b) (n + loop_slots b) s))
      else Row []
  nest_of cx t scope n (Finish at s) = Closed (nest_of cx t scope n s)
  nest_of cx t scope n s = Row (code_of cx t scope n 0 s)

  pub nest_of_all : Setting → ℕ → Scope → ℕ → Statements → Nest
  nest_of_all cx t scope n Done = Row []
  nest_of_all cx t scope n (More s ss) = Then (nest_of cx t scope n s) (nest_of_all cx t (declared scope n s) (n + count s) ss)

head_is : (n : ℕ) (lo : ℤ) (b : Bound) (e : ℕ) → head_of n lo b e ≡ head n lo (limit_slot n b) (top b) e
head_is n lo (UpTo hi) e = refl
head_is n lo (Least x v l hi) e = refl

-- its code is this structure's
mutual
  pub laid : (cx : Setting) (t : ℕ) (scope : Scope) (n p : ℕ) (s : Statement) → code_of cx t scope n p s ≡ lay p (nest_of cx t scope n s)
  laid cx t scope n p (Block close ss) = laid_all cx t scope n p ss
  laid cx t scope n p (If at l op r s) =
      let first = both scope t l r in
      let q = p + length first in
      ap (λ b. first ++ instr.Unless op (slot_for scope t l) (second scope t l r) (q + 1 + length b) ∷ b) (laid cx t scope n (q + 1) s)
  laid cx t scope n p (IfElse at l op r s u) =
      let first = both scope t l r in
      let q = p + length first in
      let x = slot_for scope t l in
      let y = second scope t l r in
      let m = n + count s in
      ap (λ b. first ++ instr.Unless op x y (q + 1 + length b + 1)
      ∷ (b ++ instr.Jump (q + 1 + length b + 1 + length (code_of cx t scope m (q + 1 + length b + 1) u)) ∷ code_of cx t scope m (q + 1 + length b + 1) u))
      (laid cx t scope n (q + 1) s)
      ∙ (let b = lay (q + 1) (nest_of cx t scope n s) in
      ap (λ o. first ++ instr.Unless op x y (q + 1 + length b + 1) ∷ (b ++ instr.Jump (q + 1 + length b + 1 + length o) ∷ o))
      (laid cx t scope m (q + 1 + length b + 1) u))
  laid cx t scope n p (For at i lo b s) = go (int_le lo.value (top b)) (code_of cx t there m (q + 1) s) (nest_of cx t there m s) (laid cx t there m (q + 1) s)
    where
      first : List Instr
      first = before_bound scope t n b

      q : ℕ
      q = p + length first

      there : Scope
      there = within_loop scope n i b

      m : ℕ
      m = n + loop_slots b

      go : (c : Bool) (body : List Instr) (inner : Nest) → body ≡ lay (q + 1) inner
          → cond c (first ++ head_of n lo.value b (q + 1 + length body) ∷ (body ++ instr.Next q ∷ [])) []
          ≡ lay p (cond c (Then (Row first) (Loop n lo.value (limit_slot n b) (top b) inner)) (Row []))
      go true body inner e =
          ap (λ r. first ++ head_of n lo.value b (q + 1 + length r) ∷ (r ++ instr.Next q ∷ [])) e
          ∙ ap (λ h. first ++ h ∷ (lay (q + 1) inner ++ instr.Next q ∷ [])) (head_is n lo.value b (q + 1 + length (lay (q + 1) inner)))
      go false body inner e = refl
  laid cx t scope n p (Finish at s) = ap (λ b. instr.Finish (p + 1 + length b) ∷ (b ++ instr.EndFinish p ∷ [])) (laid cx t scope n (p + 1) s)
  laid cx t scope n p _ = refl

  laid_all : (cx : Setting) (t : ℕ) (scope : Scope) (n p : ℕ) (ss : Statements) → code_of_all cx t scope n p ss ≡ lay p (nest_of_all cx t scope n ss)
  laid_all cx t scope n p Done = refl
  laid_all cx t scope n p (More s ss) =
      ap (λ a. a ++ code_of_all cx t (declared scope n s) (n + count s) (p + length a) ss) (laid cx t scope n p s)
      ∙ (let a = lay p (nest_of cx t scope n s) in ap (λ b. a ++ b) (laid_all cx t (declared scope n s) (n + count s) (p + length a) ss))
