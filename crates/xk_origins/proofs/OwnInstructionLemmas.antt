-- Each instruction is one that its origin's statement has of its own.
use Rattle.std.proofs.Common.{◌≡◌, ◌∙◌, ℕ, zero, suc, ◌+◌, Bool, true, false, ◌&&◌, ◌||◌, cond, List, [], ◌∷◌, ◌++◌, map, length, Option, Some, None, slice_get, refl, sym, ap, subst}
use Rattle.std.specs.Prelude.{is_some}
use Rattle.std.specs.Option.{option_map_or}
use Rattle.std.proofs.lemmas.List.{append_assoc}
use Rattle.std.proofs.lemmas.Option.{none-some, same_Some}
use Rattle.std.proofs.lemmas.Bool.{or_right}
use Rattle.xk_types.specs.declared.instr.Instr.{Instr}
use Rattle.xk_types.specs.declared.instr.Instr.TheVariants as instr
use Rattle.xk_types.specs.Code.{ModuleValue, UnitValue}
use Rattle.xk_tree.specs.declared.tree.Operator.{Operator}
use Rattle.xk_tree.specs.declared.tree.Operator.TheVariants as operator
use Rattle.xk_tree.specs.Tree.{Word, Expression, Literal, Named, Paren, Negation, Binary, Make, Value, Bound, UpTo, Least, has_turns, Statement, Block, Empty, Declare, Assign, Atomic, If, IfElse, For, Async, Finish, Call, Resume, Drop, AdvanceAll, Print, Statements, Done, More, TreeValue}
use Rattle.xk_names.specs.Scope.{find, has}
use Rattle.xk_names.specs.Captures.{shared_texts}
use Rattle.xk_emit.specs.CodeOf.{Scope, Setting, argument_slots, before_assigned, before_bound, before_into, behind, body_params, both, code_of, code_of_all, count, declared, eval, eval_all, head_of, instr_of, last_assigned, last_into, last_value, loop_slots, number_of, second, slot_for, within_loop}
use Rattle.xk_emit.specs.Unit.{first_temporary, names_of_params, scope_from, unit_code}
use Rattle.xk_source_semantics.specs.Parts.{Part, OfMethod, OfBody}
use Rattle.xk_source_semantics.specs.Compilation.{IsCompiled, unit_of_part}
use Rattle.xk_law_compiler.proofs.UnitLemmas.SettingLemmas.{shared_placed}
use Rattle.xk_origins.specs.Origin.{Origin, Does, Ends, Leaves, brings, brings_all, origins, origins_all, own, part_origins, puts, puts_limit}
use Rattle.xk_origins.specs.Laws.{code_at}
use Rattle.xk_origins.specs.OwnInstructions.{AreOf, does, is_of, reckons, uses}

-- two rows, one after the other
joined : (os us : List Origin) (is js : List Instr) → AreOf os is → AreOf us js → AreOf (os ++ us) (is ++ js)
joined [] us [] js h k = k
joined [] us (i ∷ is) js h k = absurd h
joined (o ∷ os) us [] js h k = absurd h
joined (o ∷ os) us (i ∷ is) js h k = (h.0, joined os us is js h.1 k)

-- the same, where the second row's first part is written with its last before the rest
headed : (os us : List Origin) (is : List Instr) (i : Instr) (js : List Instr) → AreOf os (is ++ i ∷ []) → AreOf us js → AreOf (os ++ us) (is ++ i ∷ js)
headed os us is i js h k =
    subst (λ (l : List Instr). AreOf (os ++ us) l) (append_assoc is (i ∷ []) js) (joined os us (is ++ i ∷ []) js h k)

either : (b : Bool) (os : List Origin) (is : List Instr) → AreOf os is → AreOf (cond b os []) (cond b is [])
either true os is h = h
either false os is h = tt

operator_reckons : (o : Operator) (d a b : ℕ) → reckons (instr_of o d a b) ≡ true
operator_reckons operator.Plus d a b = refl
operator_reckons operator.Minus d a b = refl
operator_reckons operator.Times d a b = refl

-- ---- expressions of a statement

module _ (s : Statement) (used : uses s ≡ true) where
  reckoned : (i : Instr) → reckons i ≡ true → is_of (Does s) i ≡ true
  reckoned i h = ap (λ (b : Bool). (b && reckons i) || does s i) used ∙ ap (λ (b : Bool). b || does s i) h

  done : (i : Instr) → does s i ≡ true → is_of (Does s) i ≡ true
  done i h = or_right (uses s && reckons i) (does s i) h

  brings_of : (scope : Scope) (t : ℕ) (e : Expression) → AreOf (brings (Does s) e) (eval scope t e)
  brings_of scope t (Literal n) = (reckoned (instr.Lit t n.value) refl, tt)
  brings_of scope t (Named x) = tt
  brings_of scope t (Paren at e) = brings_of scope t e
  brings_of scope t (Negation at e) = (
    reckoned (instr.Lit t _) refl,
    joined (brings (Does s) e) (Does s ∷ []) (eval scope (t + 1) e) (_ ∷ []) (brings_of scope (t + 1) e) (reckoned (instr.Sub t t _) refl, tt),
  )
  brings_of scope t (Binary o l at r) =
      let u = behind t (slot_for scope t l) in
      let i = instr_of o t (slot_for scope t l) (slot_for scope u r) in
      joined (brings (Does s) l) (brings (Does s) r ++ Does s ∷ []) (eval scope t l) (eval scope u r ++ i ∷ []) (brings_of scope t l)
      (joined (brings (Does s) r) (Does s ∷ []) (eval scope u r) (i ∷ []) (brings_of scope u r)
      (reckoned i (operator_reckons o t (slot_for scope t l) (slot_for scope u r)), tt))

  -- with one instruction more
  then_of : (scope : Scope) (t : ℕ) (e : Expression) (i : Instr) → is_of (Does s) i ≡ true → AreOf (brings (Does s) e ++ Does s ∷ []) (eval scope t e ++ i ∷ [])
  then_of scope t e i h = joined (brings (Does s) e) (Does s ∷ []) (eval scope t e) (i ∷ []) (brings_of scope t e) (h, tt)

  both_of : (scope : Scope) (t : ℕ) (l r : Expression) (i : Instr) → is_of (Does s) i ≡ true
      → AreOf (brings (Does s) l ++ (brings (Does s) r ++ Does s ∷ [])) (both scope t l r ++ i ∷ [])
  both_of scope t l r i h =
      let u = behind t (slot_for scope t l) in
      subst (λ (k : List Instr). AreOf (brings (Does s) l ++ (brings (Does s) r ++ Does s ∷ [])) k) (sym (append_assoc (eval scope t l) (eval scope u r) (i ∷ [])))
      (joined (brings (Does s) l) (brings (Does s) r ++ Does s ∷ []) (eval scope t l) (eval scope u r ++ i ∷ []) (brings_of scope t l) (then_of scope u r i h))

  all_of : (scope : Scope) (t : ℕ) (es : List Expression) → AreOf (brings_all (Does s) es) (eval_all scope t es)
  all_of scope t [] = tt
  all_of scope t (e ∷ es) =
      let u = behind t (slot_for scope t e) in
      joined (brings (Does s) e) (brings_all (Does s) es) (eval scope t e) (eval_all scope u es) (brings_of scope t e) (all_of scope u es)

  -- into a slot, by an instruction that may stand last
  puts_of : (copies : (d a : ℕ) → does s (instr.Copy d a) ≡ true) → (scope : Scope) (t : ℕ) (e : Expression) (d : ℕ)
      → AreOf (puts (Does s) e) (before_into scope t e ++ last_into scope t e d ∷ [])
  puts_of copies scope t (Literal n) d = (reckoned (instr.Lit d n.value) refl, tt)
  puts_of copies scope t (Named x) d = (done (instr.Copy d (number_of scope x)) (copies d (number_of scope x)), tt)
  puts_of copies scope t (Paren at e) d = puts_of copies scope t e d
  puts_of copies scope t (Negation at e) d = (reckoned (instr.Lit t _) refl, then_of scope (t + 1) e (instr.Sub d t (slot_for scope (t + 1) e)) (reckoned (instr.Sub d t _) refl))
  puts_of copies scope t (Binary o l at r) d =
      let i = instr_of o d (slot_for scope t l) (second scope t l r) in
      both_of scope t l r i (reckoned i (operator_reckons o d (slot_for scope t l) (second scope t l r)))

  -- the same of a declaration or an assignment, where it may be a shared number's alone
  module _ (cx : Setting) (copies : (d a : ℕ) → does s (instr.Copy d a) ≡ true) (gets : (d k : ℕ) → does s (instr.Get d k) ≡ true) where
    alone_of : (scope : Scope) (t d : ℕ) (x : Word) (k : Option ℕ) → AreOf (Does s ∷ []) (option_map_or (λ (k : ℕ). instr.Get d k) k (instr.Copy d (number_of scope x)) ∷ [])
    alone_of scope t d x (Some k) = (done (instr.Get d k) (gets d k), tt)
    alone_of scope t d x None = (done (instr.Copy d (number_of scope x)) (copies d (number_of scope x)), tt)

    value_of : (scope : Scope) (t : ℕ) (e : Expression) (d : ℕ) → AreOf (puts (Does s) e) (before_into scope t e ++ last_value cx scope t e d ∷ [])
    value_of scope t (Literal n) d = puts_of copies scope t (Literal n) d
    value_of scope t (Named x) d = alone_of scope t d x (find cx.shared x.text)
    value_of scope t (Paren at e) d = puts_of copies scope t (Paren at e) d
    value_of scope t (Negation at e) d = puts_of copies scope t (Negation at e) d
    value_of scope t (Binary o l at r) d = puts_of copies scope t (Binary o l at r) d

-- ---- statements

limit_of : (at : ℕ) (i : Word) (lo : _) (b : Bound) (s : Statement) (scope : Scope) (t n : ℕ) (c : Bound)
    → AreOf (puts_limit (Does (For at i lo b s)) c) (before_bound scope t n c)
limit_of at i lo b s scope t n (UpTo hi) = tt
limit_of at i lo b s scope t n (Least x v e hi) = puts_of (For at i lo b s) refl (λ d a. refl) scope t e (n + 1)

loop_head_of : (at : ℕ) (i : Word) (lo : _) (b : Bound) (s : Statement) (n : ℕ) (first : _) (c : Bound) (q : ℕ)
    → is_of (Does (For at i lo b s)) (head_of n first c q) ≡ true
loop_head_of at i lo b s n first (UpTo hi) q = refl
loop_head_of at i lo b s n first (Least x v e hi) q = refl

module _ (cx : Setting) (shared : List (List ℕ)) (known : (x : List ℕ) → has shared x ≡ is_some (find cx.shared x)) (t : ℕ) where
  assigned_of : (x : Word) (e : Expression) (scope : Scope) (k : Option ℕ)
      → AreOf (cond (is_some k) (brings (Does (Assign x e)) e ++ Does (Assign x e) ∷ []) (puts (Does (Assign x e)) e))
      (before_assigned scope t e k ++ last_assigned cx scope t x e k ∷ [])
  assigned_of x e scope (Some k) = then_of (Assign x e) refl scope t e (instr.Put k (slot_for scope t e)) refl
  assigned_of x e scope None = value_of (Assign x e) refl cx (λ d a. refl) (λ d k. refl) scope t e (number_of scope x)

  mutual
    pub code_is_of : (scope : Scope) (n p : ℕ) (s : Statement) → AreOf (origins shared s) (code_of cx t scope n p s)
    code_is_of scope n p (Block close ss) = all_code_is_of scope n p ss
    code_is_of scope n p Empty = tt
    code_is_of scope n p (Declare b x ty (Make at v)) = (refl, tt)
    code_is_of scope n p (Declare b x ty (Value e)) = value_of (Declare b x ty (Value e)) refl cx (λ d a. refl) (λ d k. refl) scope t e n
    code_is_of scope n p (Assign x e) =
        let o = Does (Assign x e) in
        let k = find cx.shared x.text in
        subst (λ (c : Bool). AreOf (cond c (brings o e ++ o ∷ []) (puts o e)) (before_assigned scope t e k ++ last_assigned cx scope t x e k ∷ [])) (sym (known x.text))
        (assigned_of x e scope k)
    code_is_of scope n p (Atomic x y at e) = then_of (Atomic x y at e) refl scope t e (instr.AddTo (number_of cx.shared x) (slot_for scope t e)) refl
    code_is_of scope n p (If at l op r s) =
        let q = p + length (both scope t l r) in
        let body = code_of cx t scope n (q + 1) s in
        let i = instr.Unless op (slot_for scope t l) (second scope t l r) (q + 1 + length body) in
        let o = If at l op r s in
        headed (own shared (Does o) o) (origins shared s) (both scope t l r) i body (both_of o refl scope t l r i refl) (code_is_of scope n (q + 1) s)
    code_is_of scope n p (IfElse at l op r s u) =
        let q = p + length (both scope t l r) in
        let body = code_of cx t scope n (q + 1) s in
        let m = q + 1 + length body + 1 in
        let other = code_of cx t scope (n + count s) m u in
        let i = instr.Unless op (slot_for scope t l) (second scope t l r) m in
        let o = IfElse at l op r s u in
        let jump = instr.Jump (m + length other) in
        headed (own shared (Does o) o) (origins shared s ++ Ends o ∷ origins shared u) (both scope t l r) i (body ++ jump ∷ other) (both_of o refl scope t l r i refl)
        (joined (origins shared s) (Ends o ∷ origins shared u) body (jump ∷ other) (code_is_of scope n (q + 1) s) (refl, code_is_of scope (n + count s) m u))
    code_is_of scope n p (For at i lo b s) =
        let q = p + length (before_bound scope t n b) in
        let inside = within_loop scope n i b in
        let body = code_of cx t inside (n + loop_slots b) (q + 1) s in
        let last = q + 1 + length body in
        let head = head_of n lo.value b last in
        let o = For at i lo b s in
        either (has_turns lo b) (own shared (Does o) o ++ (origins shared s ++ Ends o ∷ [])) (before_bound scope t n b ++ head ∷ (body ++ instr.Next q ∷ []))
        (headed (own shared (Does o) o) (origins shared s ++ Ends o ∷ []) (before_bound scope t n b) head (body ++ instr.Next q ∷ [])
        (joined (puts_limit (Does o) b) (Does o ∷ []) (before_bound scope t n b) (head ∷ []) (limit_of at i lo b s scope t n b)
        (loop_head_of at i lo b s n lo.value b last, tt))
        (joined (origins shared s) (Ends o ∷ []) body (instr.Next q ∷ []) (code_is_of inside (n + loop_slots b) (q + 1) s) (refl, tt)))
    code_is_of scope n p (Async at cs s) = (refl, tt)
    code_is_of scope n p (Finish at s) =
        let body = code_of cx t scope n (p + 1) s in
        (refl, joined (origins shared s) (Ends (Finish at s) ∷ []) body (instr.EndFinish p ∷ []) (code_is_of scope n (p + 1) s) (refl, tt))
    code_is_of scope n p (Call f at es) =
        let o = Call f at es in
        joined (brings_all (Does o) es) (Does o ∷ []) (eval_all scope t es) (instr.Call (number_of cx.methods f) (argument_slots scope t es) ∷ []) (all_of o refl scope t es)
        (refl, tt)
    code_is_of scope n p (Resume c v) = (refl, tt)
    code_is_of scope n p (Drop c v) = (refl, tt)
    code_is_of scope n p (AdvanceAll at v) = (refl, tt)
    code_is_of scope n p (Print at v e) = then_of (Print at v e) refl scope t e (instr.Print (slot_for scope t e)) refl

    all_code_is_of : (scope : Scope) (n p : ℕ) (ss : Statements) → AreOf (origins_all shared ss) (code_of_all cx t scope n p ss)
    all_code_is_of scope n p Done = tt
    all_code_is_of scope n p (More s ss) =
        let code = code_of cx t scope n p s in
        joined (origins shared s) (origins_all shared ss) code (code_of_all cx t (declared scope n s) (n + count s) (p + length code) ss) (code_is_of scope n p s)
        (all_code_is_of (declared scope n s) (n + count s) (p + length code) ss)

-- ---- units

unit_is_of : (cx : Setting) (shared : List (List ℕ)) → ((x : List ℕ) → has shared x ≡ is_some (find cx.shared x)) → (xs : List (List ℕ)) (s : Statement) (p : Part)
    → AreOf (origins shared s ++ Leaves p ∷ []) (unit_code cx xs s)
unit_is_of cx shared known xs s p =
    joined (origins shared s) (Leaves p ∷ []) (code_of cx (first_temporary xs s) (scope_from 0 xs) (length xs) 0 s) (instr.Ret ∷ [])
    (code_is_of cx shared known (first_temporary xs s) (scope_from 0 xs) (length xs) 0 s) (refl, tt)

pub part_is_of : (cx : Setting) (shared : List (List ℕ)) → ((x : List ℕ) → has shared x ≡ is_some (find cx.shared x)) → (p : Part)
    → AreOf (part_origins shared p) (unit_of_part cx p).code
part_is_of cx shared known (OfMethod m) = unit_is_of cx shared known (names_of_params m.params) (Block m.close m.body) (OfMethod m)
part_is_of cx shared known (OfBody at cs s) = unit_is_of cx shared known (body_params cx at cs) s (OfBody at cs s)

code_there : (cx : Setting) (ps : List Part) (k : ℕ) (p : Part) → slice_get ps k ≡ Some p
    → option_map_or (λ (u : UnitValue). u.code) (slice_get (map (unit_of_part cx) ps) k) [] ≡ (unit_of_part cx p).code
code_there cx [] k p h = absurd (none-some p h)
code_there cx (q ∷ ps) zero p h = ap (λ (r : Part). (unit_of_part cx r).code) (same_Some q p h)
code_there cx (q ∷ ps) (suc k) p h = code_there cx ps k p h

-- each instruction of a unit of a compiled module is one that its origin has
pub compiled_is_of : (t : TreeValue) (m : ModuleValue) → (c : IsCompiled t m) → (k : ℕ) (p : Part) → slice_get c.units k ≡ Some p
    → AreOf (part_origins (shared_texts t.shared) p) (code_at m k)
compiled_is_of t m c k p there =
    let names = shared_texts t.shared in
    let same : code_at m k ≡ (unit_of_part c.setting p).code =
    ap (λ (us : List UnitValue). option_map_or (λ (u : UnitValue). u.code) (slice_get us k) []) c.code ∙ code_there c.setting c.units k p there in
    subst (λ (is : List Instr). AreOf (part_origins names p) is) (sym same)
    (part_is_of c.setting names (λ x. sym (shared_placed t c.units c.setting c.is_setting x)) p)
