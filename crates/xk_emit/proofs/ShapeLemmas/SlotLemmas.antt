-- The slots that code names: those of names, and temporaries that it writes.
use Rattle.std.proofs.Common.{◌≡◌, ℕ, ℤ, int_le, Bool, true, false, cond, ◌+◌, ◌<◌, ◌≤◌, List, [], ◌∷◌, ◌++◌, length, Option, Some, None, unwrap_or, refl, subst, arith, All}
use Rattle.std.specs.Prelude.{is_some, nat_lt}
use Rattle.std.specs.List.{list_all}
use Rattle.std.specs.Option.{option_map_or}
use Rattle.std.proofs.lemmas.Bool.{false≢true}
use Rattle.std.proofs.lemmas.Bool.Decides.{nat_tests}
use Rattle.std.proofs.lemmas.Option.{none-some, same_Some}
use Rattle.std.proofs.lemmas.List.Elements.{All-head, All-tail}
use Rattle.xk_types.specs.declared.instr.Instr.{Instr}
use Rattle.xk_types.specs.declared.instr.Instr.TheVariants as instr
use Rattle.xk_types.specs.Shape.{slots_named}
use Rattle.xk_tree.specs.declared.tree.Operator.{Operator}
use Rattle.xk_tree.specs.declared.tree.Operator.TheVariants as operator
use Rattle.xk_tree.specs.Tree.{Word, Expression, Literal, Named, Paren, Negation, Binary, Source, Make, Value, Bound, UpTo, Least, top, Statement, Block, Empty, Declare, Assign, Atomic, If, IfElse, For, Async, Finish, Call, Resume, Drop, AdvanceAll, Print, Statements, Done, More}
use Rattle.xk_names.specs.Scope.{find, is_text}
use Rattle.xk_emit.specs.CodeOf.{Scope, Setting, before_bound, head_of, loop_slots, within_loop, number_of, slots_of, body_params, instr_of, slot_for, behind, eval, both, second, before_into, last_into, eval_all, argument_slots, last_value, code_of_source, before_assigned, last_assigned, count, count_all, declared, code_of, code_of_all}
use Rattle.xk_emit.specs.Unit.{written_slots, slots_used}
use Rattle.xk_emit.specs.NameCoverage.{IsFound, IsBoundKnown, IsLoopNew, IsKnown, IsKnownUnless, IsValueKnown, IsSourceKnown, IsAssignable, IsCovered, AreCovered}
use Rattle.xk_emit.proofs.ShapeLemmas.PositionLemmas.{Holds, holds_both, holds_left, holds_right}

abbrev pub Below : ℕ → List ℕ → Type 0
Below m [] = Unit {0}
Below m (s ∷ ss) = (s < m) × Below m ss

-- each slot that the instruction names is below m
abbrev pub NamesBelow : ℕ → Instr → Type 0
NamesBelow m i = Below m (slots_named i)

-- and a slot that an instruction of an expression writes
abbrev pub WritesBelow : ℕ → Instr → Type 0
WritesBelow m i = written_slots i ≤ m

pub all_below : (m : ℕ) (ss : List ℕ) → Below m ss → list_all (λ s. nat_lt s m) ss ≡ true
all_below m [] h = refl
all_below m (s ∷ ss) h = let k = h.0 in let test : nat_lt s m ≡ true = grind (arith, nat_tests) in rw test (all_below m ss h.1)

-- ---- names

-- each slot of the scope is below m
abbrev pub ScopeBelow : ℕ → Scope → Type 0
ScopeBelow m [] = Unit {0}
ScopeBelow m (e ∷ es) = (e.1 < m) × ScopeBelow m es

pub found_below : (m : ℕ) (scope : Scope) (x : List ℕ) (k : ℕ) → ScopeBelow m scope → find scope x ≡ Some k → k < m
found_below m [] x k h g = absurd (none-some k g)
found_below m (e ∷ es) x k h g = go (is_text x e.0) (found_below m es x k h.1) g
  where
    go : (b : Bool) → (find es x ≡ Some k → k < m) → cond b (Some e.1) (find es x) ≡ Some k → k < m
    go true later q = subst (λ n. n < m) (same_Some e.1 k q) h.0
    go false later q = later q

text_below : (m : ℕ) (scope : Scope) (x : List ℕ) → ScopeBelow m scope → IsFound scope x → unwrap_or (find scope x) 0 < m
text_below m scope x h g = go (find scope x) refl g
  where
    go : (o : Option ℕ) → find scope x ≡ o → is_some o ≡ true → unwrap_or o 0 < m
    go None q r = absurd (false≢true r)
    go (Some k) q r = found_below m scope x k h q

pub scope_more : (m : ℕ) (scope : Scope) (x : List ℕ) (n : ℕ) → ScopeBelow m scope → n < m → ScopeBelow m (scope ++ (x, n) ∷ [])
scope_more m [] x n h g = (g, tt)
scope_more m (e ∷ es) x n h g = (h.0, scope_more m es x n h.1 g)

pub scope_wider : (m k : ℕ) (scope : Scope) → m ≤ k → ScopeBelow m scope → ScopeBelow k scope
scope_wider m k [] l h = tt
scope_wider m k (e ∷ es) l h = (omega (arith, h.0), scope_wider m k es l h.1)

pub declared_below : (m : ℕ) (scope : Scope) (n : ℕ) (s : Statement) → ScopeBelow m scope → n + count s ≤ m → ScopeBelow m (declared scope n s)
declared_below m scope n (Declare b x ty r) h g = scope_more m scope x.text n h (omega (arith, g))
declared_below m scope n _ h g = h

texts_below : (m : ℕ) (scope : Scope) (xs : List (List ℕ)) → ScopeBelow m scope → All (IsFound scope) xs → Below m (slots_of scope xs)
texts_below m scope [] h g = tt
texts_below m scope (x ∷ xs) h g = (text_below m scope x h (All-head (IsFound scope) x xs g), texts_below m scope xs h (All-tail (IsFound scope) x xs g))

-- ---- expressions

then_named : (m : ℕ) (xs : List Instr) (i : Instr) → Holds (NamesBelow m) xs → NamesBelow m i → Holds (NamesBelow m) (xs ++ i ∷ [])
then_named m xs i h g = holds_both (NamesBelow m) xs (i ∷ []) h (g, tt)

last_writes : (m : ℕ) (xs : List Instr) (i : Instr) → Holds (WritesBelow m) (xs ++ i ∷ []) → WritesBelow m i
last_writes m xs i h = (holds_right (WritesBelow m) xs (i ∷ []) h).0

operation_writes : (m : ℕ) (o : Operator) (d x y : ℕ) → WritesBelow m (instr_of o d x y) → d < m
operation_writes m operator.Plus d x y h = omega (arith, h)
operation_writes m operator.Minus d x y h = omega (arith, h)
operation_writes m operator.Times d x y h = omega (arith, h)

operation_names : (m : ℕ) (o : Operator) (d x y : ℕ) → d < m → x < m → y < m → NamesBelow m (instr_of o d x y)
operation_names m operator.Plus d x y a b c = (a, (b, (c, tt)))
operation_names m operator.Minus d x y a b c = (a, (b, (c, tt)))
operation_names m operator.Times d x y a b c = (a, (b, (c, tt)))

module _ (m : ℕ) (scope : Scope) (within : ScopeBelow m scope) where
  -- the slot that an expression's number is in
  slot_below : (t : ℕ) (e : Expression) → IsKnown scope e → Holds (WritesBelow m) (eval scope t e) → slot_for scope t e < m
  slot_below t (Literal n) k h = omega (arith, h.0)
  slot_below t (Named x) k h = text_below m scope x.text within k
  slot_below t (Paren at e) k h = slot_below t e k h
  slot_below t (Negation at e) k h = omega (arith, h.0)
  slot_below t (Binary o a at b) k h =
      let u = behind t (slot_for scope t a) in
      let i = instr_of o t (slot_for scope t a) (slot_for scope u b) in
      let rest = holds_right (WritesBelow m) (eval scope t a) (eval scope u b ++ i ∷ []) h in
      operation_writes m o t (slot_for scope t a) (slot_for scope u b) (last_writes m (eval scope u b) i rest)

  eval_below : (t : ℕ) (e : Expression) → IsKnown scope e → Holds (WritesBelow m) (eval scope t e) → Holds (NamesBelow m) (eval scope t e)
  eval_below t (Literal n) k h = ((omega (arith, h.0), tt), tt)
  eval_below t (Named x) k h = tt
  eval_below t (Paren at e) k h = eval_below t e k h
  eval_below t (Negation at e) k h =
      let first : t < m = omega (arith, h.0) in
      let i = instr.Sub t t (slot_for scope (t + 1) e) in
      let inner = holds_left (WritesBelow m) (eval scope (t + 1) e) (i ∷ []) h.1 in
      ((first, tt), then_named m (eval scope (t + 1) e) i (eval_below (t + 1) e k inner) (first, (first, (slot_below (t + 1) e k inner, tt))))
  eval_below t (Binary o a at b) k h =
      let u = behind t (slot_for scope t a) in
      let i = instr_of o t (slot_for scope t a) (slot_for scope u b) in
      let left = holds_left (WritesBelow m) (eval scope t a) (eval scope u b ++ i ∷ []) h in
      let rest = holds_right (WritesBelow m) (eval scope t a) (eval scope u b ++ i ∷ []) h in
      let right = holds_left (WritesBelow m) (eval scope u b) (i ∷ []) rest in
      let d = operation_writes m o t (slot_for scope t a) (slot_for scope u b) (last_writes m (eval scope u b) i rest) in
      holds_both (NamesBelow m) (eval scope t a) (eval scope u b ++ i ∷ []) (eval_below t a k.0 left)
      (then_named m (eval scope u b) i (eval_below u b k.1 right)
      (operation_names m o t (slot_for scope t a) (slot_for scope u b) d (slot_below t a k.0 left) (slot_below u b k.1 right)))

  first_of_both : (t : ℕ) (a b : Expression) → IsKnown scope a → Holds (WritesBelow m) (both scope t a b) → slot_for scope t a < m
  first_of_both t a b k h = slot_below t a k (holds_left (WritesBelow m) (eval scope t a) (eval scope (behind t (slot_for scope t a)) b) h)

  second_of_both : (t : ℕ) (a b : Expression) → IsKnown scope b → Holds (WritesBelow m) (both scope t a b) → second scope t a b < m
  second_of_both t a b k h =
      let u = behind t (slot_for scope t a) in slot_below u b k (holds_right (WritesBelow m) (eval scope t a) (eval scope u b) h)

  both_below : (t : ℕ) (a b : Expression) → IsKnown scope a → IsKnown scope b → Holds (WritesBelow m) (both scope t a b) → Holds (NamesBelow m) (both scope t a b)
  both_below t a b k l h =
      let u = behind t (slot_for scope t a) in
      holds_both (NamesBelow m) (eval scope t a) (eval scope u b) (eval_below t a k (holds_left (WritesBelow m) (eval scope t a) (eval scope u b) h))
      (eval_below u b l (holds_right (WritesBelow m) (eval scope t a) (eval scope u b) h))

  before_below : (t : ℕ) (e : Expression) → IsKnown scope e → Holds (WritesBelow m) (before_into scope t e) → Holds (NamesBelow m) (before_into scope t e)
  before_below t (Literal n) k h = tt
  before_below t (Named x) k h = tt
  before_below t (Paren at e) k h = before_below t e k h
  before_below t (Negation at e) k h = ((omega (arith, h.0), tt), eval_below (t + 1) e k h.1)
  before_below t (Binary o a at b) k h = both_below t a b k.0 k.1 h

  last_below : (t : ℕ) (e : Expression) (d : ℕ) → IsKnown scope e → d < m → Holds (WritesBelow m) (before_into scope t e) → NamesBelow m (last_into scope t e d)
  last_below t (Literal n) d k g h = (g, tt)
  last_below t (Named x) d k g h = (g, (text_below m scope x.text within k, tt))
  last_below t (Paren at e) d k g h = last_below t e d k g h
  last_below t (Negation at e) d k g h = (g, (omega (arith, h.0), (slot_below (t + 1) e k h.1, tt)))
  last_below t (Binary o a at b) d k g h =
      operation_names m o d (slot_for scope t a) (second scope t a b) g (first_of_both t a b k.0 h) (second_of_both t a b k.1 h)

  all_evaluated : (t : ℕ) (es : List Expression) → All (IsKnown scope) es → Holds (WritesBelow m) (eval_all scope t es) → Holds (NamesBelow m) (eval_all scope t es)
  all_evaluated t [] k h = tt
  all_evaluated t (e ∷ es) k h =
      let u = behind t (slot_for scope t e) in
      holds_both (NamesBelow m) (eval scope t e) (eval_all scope u es)
      (eval_below t e (All-head (IsKnown scope) e es k) (holds_left (WritesBelow m) (eval scope t e) (eval_all scope u es) h))
      (all_evaluated u es (All-tail (IsKnown scope) e es k) (holds_right (WritesBelow m) (eval scope t e) (eval_all scope u es) h))

  arguments_below : (t : ℕ) (es : List Expression) → All (IsKnown scope) es → Holds (WritesBelow m) (eval_all scope t es) → Below m (argument_slots scope t es)
  arguments_below t [] k h = tt
  arguments_below t (e ∷ es) k h =
      let u = behind t (slot_for scope t e) in (
        slot_below t e (All-head (IsKnown scope) e es k) (holds_left (WritesBelow m) (eval scope t e) (eval_all scope u es) h),
        arguments_below u es (All-tail (IsKnown scope) e es k) (holds_right (WritesBelow m) (eval scope t e) (eval_all scope u es) h),
      )

  -- ---- values

  value_below : (cx : Setting) (t : ℕ) (e : Expression) (d : ℕ) → IsValueKnown cx scope e → d < m → Holds (WritesBelow m) (before_into scope t e)
      → NamesBelow m (last_value cx scope t e d)
  value_below cx t (Named x) d k g h = go (find cx.shared x.text) k
    where
      go : (o : Option ℕ) → IsKnownUnless o scope (Named x) → NamesBelow m (option_map_or (λ s. instr.Get d s) o (last_into scope t (Named x) d))
      go None l = last_below t (Named x) d l g h
      go (Some s) l = (g, tt)
  value_below cx t (Literal n) d k g h = last_below t (Literal n) d k g h
  value_below cx t (Paren at e) d k g h = last_below t (Paren at e) d k g h
  value_below cx t (Negation at e) d k g h = last_below t (Negation at e) d k g h
  value_below cx t (Binary o a at b) d k g h = last_below t (Binary o a at b) d k g h

  before_value : (cx : Setting) (t : ℕ) (e : Expression) → IsValueKnown cx scope e → Holds (WritesBelow m) (before_into scope t e)
      → Holds (NamesBelow m) (before_into scope t e)
  before_value cx t (Named x) k h = tt
  before_value cx t (Literal n) k h = tt
  before_value cx t (Paren at e) k h = before_below t (Paren at e) k h
  before_value cx t (Negation at e) k h = before_below t (Negation at e) k h
  before_value cx t (Binary o a at b) k h = before_below t (Binary o a at b) k h

  put_below : (cx : Setting) (t : ℕ) (e : Expression) (d : ℕ) → IsValueKnown cx scope e → d < m
      → Holds (WritesBelow m) (before_into scope t e ++ last_value cx scope t e d ∷ [])
      → Holds (NamesBelow m) (before_into scope t e ++ last_value cx scope t e d ∷ [])
  put_below cx t e d k g h =
      let first = holds_left (WritesBelow m) (before_into scope t e) (last_value cx scope t e d ∷ []) h in
      then_named m (before_into scope t e) (last_value cx scope t e d) (before_value cx t e k first) (value_below cx t e d k g first)

  source_below : (cx : Setting) (t d : ℕ) (r : Source) → IsSourceKnown cx scope r → d < m → Holds (WritesBelow m) (code_of_source cx t scope d r)
      → Holds (NamesBelow m) (code_of_source cx t scope d r)
  source_below cx t d (Make at v) k g h = ((g, tt), tt)
  source_below cx t d (Value e) k g h = put_below cx t e d k g h

  evaluated_then : (t : ℕ) (e : Expression) (i : Instr) → IsKnown scope e → (slot_for scope t e < m → NamesBelow m i) → Holds (WritesBelow m) (eval scope t e ++ i ∷ [])
      → Holds (NamesBelow m) (eval scope t e ++ i ∷ [])
  evaluated_then t e i k f h =
      let first = holds_left (WritesBelow m) (eval scope t e) (i ∷ []) h in
      then_named m (eval scope t e) i (eval_below t e k first) (f (slot_below t e k first))

  assigned_below : (cx : Setting) (t : ℕ) (x : Word) (e : Expression) (o : Option ℕ) → IsAssignable cx scope x e o
      → Holds (WritesBelow m) (before_assigned scope t e o ++ last_assigned cx scope t x e o ∷ [])
      → Holds (NamesBelow m) (before_assigned scope t e o ++ last_assigned cx scope t x e o ∷ [])
  assigned_below cx t x e None k h = put_below cx t e (number_of scope x) k.1 (text_below m scope x.text within k.0) h
  assigned_below cx t x e (Some s) k h = evaluated_then t e (instr.Put s (slot_for scope t e)) k (λ a. (a, tt)) h

  bound_below : (t n : ℕ) (b : Bound) → IsBoundKnown scope b → n + loop_slots b ≤ m → Holds (WritesBelow m) (before_bound scope t n b)
      → Holds (NamesBelow m) (before_bound scope t n b)
  bound_below t n (UpTo hi) k r h = tt
  bound_below t n (Least x v e hi) k r h =
      let last = last_into scope t e (n + 1) in
      let first = holds_left (WritesBelow m) (before_into scope t e) (last ∷ []) h in
      then_named m (before_into scope t e) last (before_below t e k first) (last_below t e (n + 1) k (omega (arith, r)) first)

-- ---- loops

head_below : (m n : ℕ) (lo : ℤ) (b : Bound) (e : ℕ) → n + loop_slots b ≤ m → NamesBelow m (head_of n lo b e)
head_below m n lo (UpTo hi) e r = (omega (arith, r), tt)
head_below m n lo (Least x v l hi) e r = (omega (arith, r), (omega (arith, r), tt))

-- the names of a loop are below m
pub within_below : (m : ℕ) (scope : Scope) (n : ℕ) (i : Word) (b : Bound) → ScopeBelow m scope → n + loop_slots b ≤ m → ScopeBelow m (within_loop scope n i b)
within_below m scope n i (UpTo hi) h r = scope_more m scope i.text n h (omega (arith, r))
within_below m scope n i (Least x v e hi) h r =
    scope_more m (scope ++ (i.text, n) ∷ []) x.text (n + 1) (scope_more m scope i.text n h (omega (arith, r))) (omega (arith, r))

-- ---- statements

mutual
  pub code_below : (m : ℕ) (cx : Setting) (t : ℕ) (scope : Scope) (n p : ℕ) (s : Statement) → ScopeBelow m scope → n + count s ≤ m → IsCovered cx scope n s
      → Holds (WritesBelow m) (code_of cx t scope n p s) → Holds (NamesBelow m) (code_of cx t scope n p s)
  code_below m cx t scope n p (Block close ss) w r k h = all_code_below m cx t scope n p ss w r k h
  code_below m cx t scope n p Empty w r k h = tt
  code_below m cx t scope n p (Declare b x ty r') w r k h = source_below m scope w cx t n r' k.0 (omega (arith, r)) h
  code_below m cx t scope n p (Assign x e) w r k h = assigned_below m scope w cx t x e (find cx.shared x.text) k h
  code_below m cx t scope n p (Atomic x y at e) w r k h = evaluated_then m scope w t e (instr.AddTo (number_of cx.shared x) (slot_for scope t e)) k.1 (λ a. (a, tt)) h
  code_below m cx t scope n p (If at a op b s) w r k h =
      let q = p + length (both scope t a b) in
      let body = code_of cx t scope n (q + 1) s in
      let i = instr.Unless op (slot_for scope t a) (second scope t a b) (q + 1 + length body) in
      let first = holds_left (WritesBelow m) (both scope t a b) (i ∷ body) h in
      let rest = holds_right (WritesBelow m) (both scope t a b) (i ∷ body) h in
      holds_both (NamesBelow m) (both scope t a b) (i ∷ body) (both_below m scope w t a b k.0 k.1 first)
      ((first_of_both m scope w t a b k.0 first, (second_of_both m scope w t a b k.1 first, tt)), code_below m cx t scope n (q + 1) s w r k.2 rest.1)
  code_below m cx t scope n p (IfElse at a op b s u) w r k h =
      let q = p + length (both scope t a b) in
      let body = code_of cx t scope n (q + 1) s in
      let other = code_of cx t scope (n + count s) (q + 1 + length body + 1) u in
      let i = instr.Unless op (slot_for scope t a) (second scope t a b) (q + 1 + length body + 1) in
      let jump = instr.Jump (q + 1 + length body + 1 + length other) in
      let first = holds_left (WritesBelow m) (both scope t a b) (i ∷ (body ++ jump ∷ other)) h in
      let rest = holds_right (WritesBelow m) (both scope t a b) (i ∷ (body ++ jump ∷ other)) h in
      let then' = holds_left (WritesBelow m) body (jump ∷ other) rest.1 in
      let else' = holds_right (WritesBelow m) body (jump ∷ other) rest.1 in
      holds_both (NamesBelow m) (both scope t a b) (i ∷ (body ++ jump ∷ other)) (both_below m scope w t a b k.0 k.1 first) (
        (first_of_both m scope w t a b k.0 first, (second_of_both m scope w t a b k.1 first, tt)),
        holds_both (NamesBelow m) body (jump ∷ other) (code_below m cx t scope n (q + 1) s w (omega (arith, r)) k.2 then')
            (tt, code_below m cx t scope (n + count s) (q + 1 + length body + 1) u w (omega (arith, r)) k.3 else'.1),
      )
  code_below m cx t scope n p (For at i lo b s) w r k h =
      go (int_le lo.value (top b)) k (code_of cx t there (n + loop_slots b) (q + 1) s)
      (λ c. code_below m cx t there (n + loop_slots b) (q + 1) s (within_below m scope n i b w (omega (arith, r))) (omega (arith, r)) c) h
    where
      first : List Instr
      first = before_bound scope t n b

      q : ℕ
      q = p + length first

      there : Scope
      there = within_loop scope n i b

      -- its code, where this is the body's
      round : List Instr → List Instr
      round body = head_of n lo.value b (q + 1 + length body) ∷ (body ++ instr.Next q ∷ [])

      go : (c : Bool) → (c ≡ true → IsBoundKnown scope b × IsLoopNew scope n i b × IsCovered cx there (n + loop_slots b) s) → (body : List Instr)
          → (IsCovered cx there (n + loop_slots b) s → Holds (WritesBelow m) body → Holds (NamesBelow m) body)
          → Holds (WritesBelow m) (cond c (first ++ round body) []) → Holds (NamesBelow m) (cond c (first ++ round body) [])
      go true c body f g =
          let limit = holds_left (WritesBelow m) first (round body) g in
          let rest = holds_right (WritesBelow m) first (round body) g in
          holds_both (NamesBelow m) first (round body) (bound_below m scope w t n b (c refl).0 (omega (arith, r)) limit) (
            head_below m n lo.value b (q + 1 + length body) (omega (arith, r)),
            holds_both (NamesBelow m) body (instr.Next q ∷ []) (f (c refl).2 (holds_left (WritesBelow m) body (instr.Next q ∷ []) rest.1)) (tt, tt),
          )
      go false c body f g = tt
  code_below m cx t scope n p (Async at cs s) w r k h = (texts_below m scope (body_params cx at cs) w k.1, tt)
  code_below m cx t scope n p (Finish at s) w r k h =
      let body = code_of cx t scope n (p + 1) s in
      let inner = holds_left (WritesBelow m) body (instr.EndFinish p ∷ []) h.1 in
      (tt, holds_both (NamesBelow m) body (instr.EndFinish p ∷ []) (code_below m cx t scope n (p + 1) s w r k inner) (tt, tt))
  code_below m cx t scope n p (Call f at es) w r k h =
      let i = instr.Call (number_of cx.methods f) (argument_slots scope t es) in
      let first = holds_left (WritesBelow m) (eval_all scope t es) (i ∷ []) h in
      then_named m (eval_all scope t es) i (all_evaluated m scope w t es k.1 first) (arguments_below m scope w t es k.1 first)
  code_below m cx t scope n p (Resume c v) w r k h = ((text_below m scope c.text w k, tt), tt)
  code_below m cx t scope n p (Drop c v) w r k h = ((text_below m scope c.text w k, tt), tt)
  code_below m cx t scope n p (AdvanceAll at v) w r k h = (tt, tt)
  code_below m cx t scope n p (Print at v e) w r k h = evaluated_then m scope w t e (instr.Print (slot_for scope t e)) k (λ a. (a, tt)) h

  all_code_below : (m : ℕ) (cx : Setting) (t : ℕ) (scope : Scope) (n p : ℕ) (ss : Statements) → ScopeBelow m scope → n + count_all ss ≤ m → AreCovered cx scope n ss
      → Holds (WritesBelow m) (code_of_all cx t scope n p ss) → Holds (NamesBelow m) (code_of_all cx t scope n p ss)
  all_code_below m cx t scope n p Done w r k h = tt
  all_code_below m cx t scope n p (More s ss) w r k h =
      let here = code_of cx t scope n p s in
      let rest = code_of_all cx t (declared scope n s) (n + count s) (p + length here) ss in
      let wider = declared_below m scope n s w (omega (arith, r)) in
      let later = holds_right (WritesBelow m) here rest h in
      holds_both (NamesBelow m) here rest (code_below m cx t scope n p s w (omega (arith, r)) k.0 (holds_left (WritesBelow m) here rest h))
      (all_code_below m cx t (declared scope n s) (n + count s) (p + length here) ss wider (omega (arith, r)) k.1 later)

-- ---- units

-- the slots that are used are as many as all instructions write
pub used_below : (t : ℕ) (code : List Instr) → Holds (WritesBelow (slots_used t code)) code
used_below t code = go code (slots_used t code) (omega arith)
  where
    go : (is : List Instr) (m : ℕ) → slots_used t is ≤ m → Holds (WritesBelow m) is
    go [] m h = tt
    go (i ∷ is) m h = (omega (arith, h), go is m (omega (arith, h)))

pub used_least : (t : ℕ) (code : List Instr) → t ≤ slots_used t code
used_least t [] = omega arith
used_least t (i ∷ is) = let h = used_least t is in omega arith
