-- A statement has as many origins as instructions, whatever scope and place its code is made for.
use Rattle.std.proofs.Common.{◌≡◌, ◌∙◌, ℕ, suc, ◌+◌, Bool, true, false, cond, List, [], ◌∷◌, ◌++◌, length, Option, Some, None, refl, sym, ap, arith}
use Rattle.std.specs.Prelude.{is_some}
use Rattle.std.proofs.lemmas.List.{append_assoc, length-append}
use Rattle.xk_types.specs.declared.instr.Instr.{Instr}
use Rattle.xk_types.specs.declared.instr.Instr.TheVariants as instr
use Rattle.xk_tree.specs.Tree.{Expression, Literal, Named, Paren, Negation, Binary, Source, Make, Value, Bound, UpTo, Least, has_turns, Statement, Block, Empty, Declare, Assign, Atomic, If, IfElse, For, Async, Finish, Call, Resume, Drop, AdvanceAll, Print, Statements, Done, More}
use Rattle.xk_names.specs.Scope.{find, has}
use Rattle.xk_emit.specs.CodeOf.{Scope, Setting, argument_slots, before_assigned, before_bound, before_into, behind, both, code_of, code_of_all, code_of_source, count, declared, eval, eval_all, head_of, last_assigned, last_into, last_value, loop_slots, number_of, second, slot_for, within_loop}
use Rattle.xk_origins.specs.Origin.{Does, Ends, brings, brings_all, does, origins, origins_all, puts, puts_limit, puts_source}

-- as many
abbrev pub Same : {A B : Type 0} → List A → List B → Type 0
Same xs ys = length xs ≡ length ys

-- two lists, one after the other
pub joined : {A B : Type 0} (xs us : List A) (ys vs : List B) → Same xs ys → Same us vs → Same (xs ++ us) (ys ++ vs)
joined xs us ys vs e f = omega (arith, length-append xs us, length-append ys vs, e, f)

-- the same, where the second list's first part is written with its last element before the rest
headed : {A B : Type 0} (xs us : List A) (ys : List B) (y : B) (vs : List B) → Same xs (ys ++ y ∷ []) → Same us vs → Same (xs ++ us) (ys ++ y ∷ vs)
headed xs us ys y vs e f = omega (arith, length-append xs us, length-append ys (y ∷ vs), length-append ys (y ∷ []), e, f)

-- both, or none
either : {A B : Type 0} (b : Bool) (xs : List A) (ys : List B) → Same xs ys → Same (cond b xs []) (cond b ys [])
either true xs ys e = e
either false xs ys e = refl

module _ {A : Type 0} (o : A) where
  -- ---- expressions

  brings_length : (scope : Scope) (t : ℕ) (e : Expression) → Same (brings o e) (eval scope t e)
  brings_length scope t (Literal n) = refl
  brings_length scope t (Named x) = refl
  brings_length scope t (Paren at e) = brings_length scope t e
  brings_length scope t (Negation at e) = ap suc (joined (brings o e) (o ∷ []) (eval scope (t + 1) e) (_ ∷ []) (brings_length scope (t + 1) e) refl)
  brings_length scope t (Binary op l at r) =
      let u = behind t (slot_for scope t l) in
      joined (brings o l) (brings o r ++ o ∷ []) (eval scope t l) (eval scope u r ++ _ ∷ []) (brings_length scope t l)
      (joined (brings o r) (o ∷ []) (eval scope u r) (_ ∷ []) (brings_length scope u r) refl)

  -- with one instruction more
  pub brings_then : (scope : Scope) (t : ℕ) (e : Expression) (i : Instr) → Same (brings o e ++ o ∷ []) (eval scope t e ++ i ∷ [])
  brings_then scope t e i = joined (brings o e) (o ∷ []) (eval scope t e) (i ∷ []) (brings_length scope t e) refl

  pub both_then : (scope : Scope) (t : ℕ) (l r : Expression) (i : Instr) → Same (brings o l ++ (brings o r ++ o ∷ [])) (both scope t l r ++ i ∷ [])
  both_then scope t l r i =
      let u = behind t (slot_for scope t l) in
      joined (brings o l) (brings o r ++ o ∷ []) (eval scope t l) (eval scope u r ++ i ∷ []) (brings_length scope t l) (brings_then scope u r i)
      ∙ sym (ap length (append_assoc (eval scope t l) (eval scope u r) (i ∷ [])))

  pub puts_length : (scope : Scope) (t : ℕ) (e : Expression) (i : Instr) → Same (puts o e) (before_into scope t e ++ i ∷ [])
  puts_length scope t (Literal n) i = refl
  puts_length scope t (Named x) i = refl
  puts_length scope t (Paren at e) i = puts_length scope t e i
  puts_length scope t (Negation at e) i = ap suc (brings_then scope (t + 1) e i)
  puts_length scope t (Binary op l at r) i = both_then scope t l r i

  pub all_length : (scope : Scope) (t : ℕ) (es : List Expression) → Same (brings_all o es) (eval_all scope t es)
  all_length scope t [] = refl
  all_length scope t (e ∷ es) =
      let u = behind t (slot_for scope t e) in
      joined (brings o e) (brings_all o es) (eval scope t e) (eval_all scope u es) (brings_length scope t e) (all_length scope u es)

  pub limit_length : (scope : Scope) (t n : ℕ) (b : Bound) → Same (puts_limit o b) (before_bound scope t n b)
  limit_length scope t n (UpTo hi) = refl
  limit_length scope t n (Least x v e hi) = puts_length scope t e (last_into scope t e (n + 1))

module _ (cx : Setting) (shared : List (List ℕ)) (known : (x : List ℕ) → has shared x ≡ is_some (find cx.shared x)) (t : ℕ) where
  pub assigned_length : {A : Type 0} (o : A) (scope : Scope) (e : Expression) (i : Instr) (s : Option ℕ)
      → Same (cond (is_some s) (brings o e ++ o ∷ []) (puts o e)) (before_assigned scope t e s ++ i ∷ [])
  assigned_length o scope e i (Some s) = brings_then o scope t e i
  assigned_length o scope e i None = puts_length o scope t e i

  source_length : {A : Type 0} (o : A) (scope : Scope) (n : ℕ) (r : Source) → Same (puts_source o r) (code_of_source cx t scope n r)
  source_length o scope n (Make at v) = refl
  source_length o scope n (Value e) = puts_length o scope t e (last_value cx scope t e n)

  mutual
    pub code_length : (scope : Scope) (n p : ℕ) (s : Statement) → Same (origins shared s) (code_of cx t scope n p s)
    code_length scope n p (Block close ss) = code_all_length scope n p ss
    code_length scope n p Empty = refl
    code_length scope n p (Declare b x ty r) = source_length (Does (Declare b x ty r)) scope n r
    code_length scope n p (Assign x e) =
        let o = Does (Assign x e) in
        let i = last_assigned cx scope t x e (find cx.shared x.text) in
        ap (λ c. length (cond c (brings o e ++ o ∷ []) (puts o e))) (known x.text) ∙ assigned_length o scope e i (find cx.shared x.text)
    code_length scope n p (Atomic x y at e) = brings_then (Does (Atomic x y at e)) scope t e (instr.AddTo (number_of cx.shared x) (slot_for scope t e))
    code_length scope n p (If at l op r s) =
        let q = p + length (both scope t l r) in
        let body = code_of cx t scope n (q + 1) s in
        let i = instr.Unless op (slot_for scope t l) (second scope t l r) (q + 1 + length body) in
        let o = If at l op r s in
        headed (does shared o) (origins shared s) (both scope t l r) i body (both_then (Does o) scope t l r i) (code_length scope n (q + 1) s)
    code_length scope n p (IfElse at l op r s u) =
        let q = p + length (both scope t l r) in
        let body = code_of cx t scope n (q + 1) s in
        let m = q + 1 + length body + 1 in
        let other = code_of cx t scope (n + count s) m u in
        let i = instr.Unless op (slot_for scope t l) (second scope t l r) m in
        let o = IfElse at l op r s u in
        let jump = instr.Jump (m + length other) in
        headed (does shared o) (origins shared s ++ Ends o ∷ origins shared u) (both scope t l r) i (body ++ jump ∷ other)
        (both_then (Does o) scope t l r i)
        (joined (origins shared s) (Ends o ∷ origins shared u) body (jump ∷ other) (code_length scope n (q + 1) s) (ap suc (code_length scope (n + count s) m u)))
    code_length scope n p (For at i lo b s) =
        let q = p + length (before_bound scope t n b) in
        let inside = within_loop scope n i b in
        let body = code_of cx t inside (n + loop_slots b) (q + 1) s in
        let head = head_of n lo.value b (q + 1 + length body) in
        let o = For at i lo b s in
        either (has_turns lo b) (does shared o ++ (origins shared s ++ Ends o ∷ []))
        (before_bound scope t n b ++ head ∷ (body ++ instr.Next q ∷ []))
        (headed (does shared o) (origins shared s ++ Ends o ∷ []) (before_bound scope t n b) head (body ++ instr.Next q ∷ [])
        (joined (puts_limit (Does o) b) (Does o ∷ []) (before_bound scope t n b) (head ∷ []) (limit_length (Does o) scope t n b) refl)
        (joined (origins shared s) (Ends o ∷ []) body (instr.Next q ∷ []) (code_length inside (n + loop_slots b) (q + 1) s) refl))
    code_length scope n p (Async at cs s) = refl
    code_length scope n p (Finish at s) =
        let o = Finish at s in
        let inner = code_length scope n (p + 1) s in
        ap suc (joined (origins shared s) (Ends o ∷ []) (code_of cx t scope n (p + 1) s) (instr.EndFinish p ∷ []) inner refl)
    code_length scope n p (Call f at es) =
        let o = Does (Call f at es) in
        joined (brings_all o es) (o ∷ []) (eval_all scope t es) (instr.Call (number_of cx.methods f) (argument_slots scope t es) ∷ []) (all_length o scope t es) refl
    code_length scope n p (Resume c v) = refl
    code_length scope n p (Drop c v) = refl
    code_length scope n p (AdvanceAll at v) = refl
    code_length scope n p (Print at v e) = brings_then (Does (Print at v e)) scope t e (instr.Print (slot_for scope t e))

    code_all_length : (scope : Scope) (n p : ℕ) (ss : Statements) → Same (origins_all shared ss) (code_of_all cx t scope n p ss)
    code_all_length scope n p Done = refl
    code_all_length scope n p (More s ss) =
        let code = code_of cx t scope n p s in
        joined (origins shared s) (origins_all shared ss) code (code_of_all cx t (declared scope n s) (n + count s) (p + length code) ss)
        (code_length scope n p s) (code_all_length (declared scope n s) (n + count s) (p + length code) ss)
