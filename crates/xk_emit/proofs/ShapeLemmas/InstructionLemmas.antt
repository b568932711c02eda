-- What holds of each instruction in the rows of a statement's code.
use Rattle.std.proofs.Common.{◌≡◌, ℕ, ℤ, suc, pos, int_le, Bool, true, false, cond, ◌+◌, List, [], ◌∷◌, ◌++◌, length, Option, Some, None, unwrap_or, refl, ap}
use Rattle.std.specs.Option.{option_map_or}
use Rattle.std.proofs.lemmas.List.{length-map}
use Rattle.xk_types.specs.declared.instr.Instr.{Instr}
use Rattle.xk_types.specs.declared.instr.Instr.TheVariants as instr
use Rattle.xk_tree.specs.declared.tree.Binding.{Binding}
use Rattle.xk_tree.specs.declared.tree.TypeName.{TypeName}
use Rattle.xk_tree.specs.declared.tree.Verb.{Verb}
use Rattle.xk_tree.specs.declared.tree.Operator.{Operator}
use Rattle.xk_tree.specs.declared.tree.Operator.TheVariants as operator
use Rattle.xk_tree.specs.Tree.{Word, Clocks, Expression, Literal, Named, Paren, Negation, Binary, Source, Make, Value, Bound, UpTo, Least, top, Statement, Block, Empty, Declare, Assign, Atomic, If, IfElse, For, Async, Finish, Call, Resume, Drop, AdvanceAll, Print, Statements, Done, More}
use Rattle.xk_names.specs.Scope.{find}
use Rattle.xk_emit.specs.CodeOf.{Scope, Setting, before_bound, loop_slots, within_loop, number_of, slots_of, body_unit, body_params, argument_slots, instr_of, slot_for, behind, eval, both, second, before_into, last_into, eval_all, last_value, code_of_source, before_assigned, last_assigned, count, declared}
use Rattle.xk_emit.proofs.ShapeLemmas.PositionLemmas.{Holds, holds_both}
use Rattle.xk_emit.proofs.ShapeLemmas.StructureLemmas.{Nest, Row, Then, Loop, EachRow, limit_slot, nest_of, nest_of_all}

-- A property of each statement that holds no other, in a unit's statements: the bodies of `async` are units of their own, and loops that take
-- no turn have no code.
abbrev mutual
  pub EachInside : (Statement → Type 0) → Statement → Type 0
  EachInside Q (Block close ss) = EachOf Q ss
  EachInside Q (If at l op r s) = EachInside Q s
  EachInside Q (IfElse at l op r s u) = EachInside Q s × EachInside Q u
  EachInside Q (For at i lo b s) = int_le lo.value (top b) ≡ true → EachInside Q s
  EachInside Q (Finish at s) = EachInside Q s
  EachInside Q s = Q s

  pub EachOf : (Statement → Type 0) → Statements → Type 0
  EachOf Q Done = Unit {0}
  EachOf Q (More s ss) = EachInside Q s × EachOf Q ss

-- what has a property, whatever its slots are; Q is known of each statement
pub record Leaves (cx : Setting) (Q : Statement → Type 0) (P : Instr → Type 0) : Type 0 where
  pub lit : (d : ℕ) (n : ℤ) → P (instr.Lit d n)
  pub copy : (d x : ℕ) → P (instr.Copy d x)
  pub add : (d x y : ℕ) → P (instr.Add d x y)
  pub sub : (d x y : ℕ) → P (instr.Sub d x y)
  pub mul : (d x y : ℕ) → P (instr.Mul d x y)
  -- of a shared number that is found
  pub get : (x : List ℕ) (d s : ℕ) → find cx.shared x ≡ Some s → P (instr.Get d s)
  pub put : (x : List ℕ) (s a : ℕ) → find cx.shared x ≡ Some s → P (instr.Put s a)
  pub add_to : (x y : Word) (at : ℕ) (e : Expression) → Q (Atomic x y at e) → (a : ℕ) → P (instr.AddTo (number_of cx.shared x) a)
  pub print : (x : ℕ) → P (instr.Print x)
  pub make : (b : Binding) (x : Word) (ty : Option TypeName) (at : ℕ) (v : Verb) → Q (Declare b x ty (Make at v)) → (d : ℕ) → P (instr.Make d)
  pub resume : (c : ℕ) → P (instr.Resume c)
  pub drop : (c : Word) (v : Verb) → Q (Drop c v) → (k : ℕ) → P (instr.Drop k)
  pub advance : P instr.Advance
  -- with as many arguments as there are, of a method and of the body of an `async`
  pub call : (f : Word) (at : ℕ) (es : List Expression) (args : List ℕ) → Q (Call f at es) → length args ≡ length es → P (instr.Call (number_of cx.methods f) args)
  pub spawn : (at : ℕ) (cs : Option Clocks) (s : Statement) (args : List ℕ) → Q (Async at cs s) → length args ≡ length (body_params cx at cs)
      → P (instr.Spawn (body_unit cx at) args)

slots_count : (scope : Scope) (t : ℕ) (es : List Expression) → length (argument_slots scope t es) ≡ length es
slots_count scope t [] = refl
slots_count scope t (e ∷ es) = ap suc (slots_count scope (behind t (slot_for scope t e)) es)

module _ (cx : Setting) (Q : Statement → Type 0) (P : Instr → Type 0) (l : Leaves cx Q P) where
  -- ---- expressions

  operation : (o : Operator) (d x y : ℕ) → P (instr_of o d x y)
  operation operator.Plus d x y = l.add d x y
  operation operator.Minus d x y = l.sub d x y
  operation operator.Times d x y = l.mul d x y

  then_one : (xs : List Instr) (i : Instr) → Holds P xs → P i → Holds P (xs ++ i ∷ [])
  then_one xs i h g = holds_both P xs (i ∷ []) h (g, tt)

  each_eval : (scope : Scope) (t : ℕ) (e : Expression) → Holds P (eval scope t e)
  each_eval scope t (Literal n) = (l.lit t n.value, tt)
  each_eval scope t (Named x) = tt
  each_eval scope t (Paren at e) = each_eval scope t e
  each_eval scope t (Negation at e) =
      let x = slot_for scope (t + 1) e in
      (l.lit t (pos 0), then_one (eval scope (t + 1) e) (instr.Sub t t x) (each_eval scope (t + 1) e) (l.sub t t x))
  each_eval scope t (Binary o a at b) =
      let u = behind t (slot_for scope t a) in
      let i = instr_of o t (slot_for scope t a) (slot_for scope u b) in
      holds_both P (eval scope t a) (eval scope u b ++ i ∷ []) (each_eval scope t a)
      (then_one (eval scope u b) i (each_eval scope u b) (operation o t (slot_for scope t a) (slot_for scope u b)))

  pub each_both : (scope : Scope) (t : ℕ) (a b : Expression) → Holds P (both scope t a b)
  each_both scope t a b = holds_both P (eval scope t a) (eval scope (behind t (slot_for scope t a)) b) (each_eval scope t a) (each_eval scope (behind t (slot_for scope t a)) b)

  each_before : (scope : Scope) (t : ℕ) (e : Expression) → Holds P (before_into scope t e)
  each_before scope t (Literal n) = tt
  each_before scope t (Named x) = tt
  each_before scope t (Paren at e) = each_before scope t e
  each_before scope t (Negation at e) = (l.lit t (pos 0), each_eval scope (t + 1) e)
  each_before scope t (Binary o a at b) = each_both scope t a b

  its_last : (scope : Scope) (t : ℕ) (e : Expression) (d : ℕ) → P (last_into scope t e d)
  its_last scope t (Literal n) d = l.lit d n.value
  its_last scope t (Named x) d = l.copy d (number_of scope x)
  its_last scope t (Paren at e) d = its_last scope t e d
  its_last scope t (Negation at e) d = l.sub d t (slot_for scope (t + 1) e)
  its_last scope t (Binary o a at b) d = operation o d (slot_for scope t a) (second scope t a b)

  pub each_of_all : (scope : Scope) (t : ℕ) (es : List Expression) → Holds P (eval_all scope t es)
  each_of_all scope t [] = tt
  each_of_all scope t (e ∷ es) =
      let u = behind t (slot_for scope t e) in holds_both P (eval scope t e) (eval_all scope u es) (each_eval scope t e) (each_of_all scope u es)

  -- ---- values

  its_value : (scope : Scope) (t : ℕ) (e : Expression) (d : ℕ) → P (last_value cx scope t e d)
  its_value scope t (Named x) d = go (find cx.shared x.text) refl
    where
      go : (o : Option ℕ) → find cx.shared x.text ≡ o → P (option_map_or (λ s. instr.Get d s) o (last_into scope t (Named x) d))
      go None h = its_last scope t (Named x) d
      go (Some s) h = l.get x.text d s h
  its_value scope t (Literal n) d = its_last scope t (Literal n) d
  its_value scope t (Paren at e) d = its_last scope t (Paren at e) d
  its_value scope t (Negation at e) d = its_last scope t (Negation at e) d
  its_value scope t (Binary o a at b) d = its_last scope t (Binary o a at b) d

  each_source : (t : ℕ) (scope : Scope) (d : ℕ) (b : Binding) (x : Word) (ty : Option TypeName) (r : Source) → Q (Declare b x ty r) → Holds P (code_of_source cx t scope d r)
  each_source t scope d b x ty (Make at v) h = (l.make b x ty at v h d, tt)
  each_source t scope d b x ty (Value e) h = then_one (before_into scope t e) (last_value cx scope t e d) (each_before scope t e) (its_value scope t e d)

  each_assigned : (scope : Scope) (t : ℕ) (x : Word) (e : Expression) (o : Option ℕ) → find cx.shared x.text ≡ o
      → Holds P (before_assigned scope t e o ++ last_assigned cx scope t x e o ∷ [])
  each_assigned scope t x e None h =
      then_one (before_into scope t e) (last_value cx scope t e (number_of scope x)) (each_before scope t e) (its_value scope t e (number_of scope x))
  each_assigned scope t x e (Some s) h = then_one (eval scope t e) (instr.Put s (slot_for scope t e)) (each_eval scope t e) (l.put x.text s (slot_for scope t e) h)

  pub each_bound : (scope : Scope) (t n : ℕ) (b : Bound) → Holds P (before_bound scope t n b)
  each_bound scope t n (UpTo hi) = tt
  each_bound scope t n (Least x v e hi) = then_one (before_into scope t e) (last_into scope t e (n + 1)) (each_before scope t e) (its_last scope t e (n + 1))

  -- ---- statements

  mutual
    pub rows_of : (t : ℕ) (scope : Scope) (n : ℕ) (s : Statement) → EachInside Q s → EachRow P (nest_of cx t scope n s)
    rows_of t scope n (Block close ss) h = rows_of_all t scope n ss h
    rows_of t scope n Empty h = tt
    rows_of t scope n (Declare b x ty r) h = each_source t scope n b x ty r h
    rows_of t scope n (Assign x e) h = each_assigned scope t x e (find cx.shared x.text) refl
    rows_of t scope n (Atomic x y at e) h =
        then_one (eval scope t e) (instr.AddTo (number_of cx.shared x) (slot_for scope t e)) (each_eval scope t e) (l.add_to x y at e h (slot_for scope t e))
    rows_of t scope n (If at a op b s) h = (each_both scope t a b, rows_of t scope n s h)
    rows_of t scope n (IfElse at a op b s u) h = (each_both scope t a b, (rows_of t scope n s h.0, rows_of t scope (n + count s) u h.1))
    rows_of t scope n (For at i lo b s) h =
        go (int_le lo.value (top b)) h (nest_of cx t there (n + loop_slots b) s) (rows_of t there (n + loop_slots b) s)
      where
        there : Scope
        there = within_loop scope n i b

        go : (c : Bool) → (c ≡ true → EachInside Q s) → (x : Nest) → (EachInside Q s → EachRow P x)
            → EachRow P (cond c (Then (Row (before_bound scope t n b)) (Loop n lo.value (limit_slot n b) (top b) x)) (Row []))
        go true g x r = (each_bound scope t n b, r (g refl))
        go false g x r = tt
    rows_of t scope n (Async at cs s) h =
        (l.spawn at cs s (slots_of scope (body_params cx at cs)) h (length-map (body_params cx at cs) (λ x. unwrap_or (find scope x) 0)), tt)
    rows_of t scope n (Finish at s) h = rows_of t scope n s h
    rows_of t scope n (Call f at es) h =
        let args = argument_slots scope t es in
        then_one (eval_all scope t es) (instr.Call (number_of cx.methods f) args) (each_of_all scope t es) (l.call f at es args h (slots_count scope t es))
    rows_of t scope n (Resume c v) h = (l.resume (number_of scope c), tt)
    rows_of t scope n (Drop c v) h = (l.drop c v h (number_of scope c), tt)
    rows_of t scope n (AdvanceAll at v) h = (l.advance, tt)
    rows_of t scope n (Print at v e) h = then_one (eval scope t e) (instr.Print (slot_for scope t e)) (each_eval scope t e) (l.print (slot_for scope t e))

    pub rows_of_all : (t : ℕ) (scope : Scope) (n : ℕ) (ss : Statements) → EachOf Q ss → EachRow P (nest_of_all cx t scope n ss)
    rows_of_all t scope n Done h = tt
    rows_of_all t scope n (More s ss) h = (rows_of t scope n s h.0, rows_of_all t (declared scope n s) (n + count s) ss h.1)

-- a property of all statements
mutual
  pub each_inside : (Q : Statement → Type 0) → ((s : Statement) → Q s) → (s : Statement) → EachInside Q s
  each_inside Q h (Block close ss) = each_of Q h ss
  each_inside Q h (If at l op r s) = each_inside Q h s
  each_inside Q h (IfElse at l op r s u) = (each_inside Q h s, each_inside Q h u)
  each_inside Q h (For at i lo b s) = λ turns. each_inside Q h s
  each_inside Q h (Finish at s) = each_inside Q h s
  each_inside Q h Empty = h Empty
  each_inside Q h (Declare b x ty r) = h (Declare b x ty r)
  each_inside Q h (Assign x e) = h (Assign x e)
  each_inside Q h (Atomic x y at e) = h (Atomic x y at e)
  each_inside Q h (Async at cs s) = h (Async at cs s)
  each_inside Q h (Call f at es) = h (Call f at es)
  each_inside Q h (Resume c v) = h (Resume c v)
  each_inside Q h (Drop c v) = h (Drop c v)
  each_inside Q h (AdvanceAll at v) = h (AdvanceAll at v)
  each_inside Q h (Print at v e) = h (Print at v e)

  each_of : (Q : Statement → Type 0) → ((s : Statement) → Q s) → (ss : Statements) → EachOf Q ss
  each_of Q h Done = tt
  each_of Q h (More s ss) = (each_inside Q h s, each_of Q h ss)
