-- The code of a part depends on no more of a setting than what it answers to look-ups.
use Rattle.std.proofs.Common.{◌≡◌, ◌∙◌, ℕ, ◌+◌, cond, List, [], ◌∷◌, ◌++◌, map, length, Option, Some, None, refl, ap}
use Rattle.std.specs.Prelude.{int_le, unwrap_or}
use Rattle.std.specs.Option.{option_map_or}
use Rattle.xk_types.specs.declared.instr.Instr.{Instr}
use Rattle.xk_types.specs.declared.instr.Instr.TheVariants as instr
use Rattle.xk_types.specs.declared.unit.ParamKind.{ParamKind}
use Rattle.xk_types.specs.declared.unit.ParamKind.TheVariants as param
use Rattle.xk_types.specs.declared.unit.UnitKind.{UnitKind}
use Rattle.xk_types.specs.declared.unit.UnitKind.TheVariants as unit_kind
use Rattle.xk_types.specs.Code.{UnitValue}
use Rattle.xk_tree.specs.Tree.{Word, Expression, Literal, Named, Paren, Negation, Binary, Source, Make, Value, top, Statement, Block, Empty, Declare, Assign, Atomic, If, IfElse, For, Async, Finish, Call, Resume, Drop, AdvanceAll, Print, Statements, Done, More}
use Rattle.xk_names.specs.Scope.{find, texts}
use Rattle.xk_names.specs.Uses.{clocks_listed}
use Rattle.xk_emit.specs.CodeOf.{Body, Scope, Setting, argument_slots, before_assigned, before_bound, before_into, body_at, body_params, both, code_of, code_of_all, code_of_source, count, declared, eval, eval_all, head_of, last_assigned, last_into, last_value, loop_slots, number_of, second, shared_alone, slot_for, slots_of, within_loop}
use Rattle.xk_emit.specs.Unit.{body_kinds, first_temporary, kinds_of_params, names_of_params, scope_from, slots_used, unit_code, unit_of}
use Rattle.xk_source_semantics.specs.Parts.{Part, OfMethod, OfBody}
use Rattle.xk_source_semantics.specs.Compilation.{method_kind, unit_of_part}

-- two settings answer the same
pub record IsAlike (cx dx : Setting) : Type 0 where
  pub shared : (x : List ℕ) → find cx.shared x ≡ find dx.shared x
  pub methods : (x : List ℕ) → find cx.methods x ≡ find dx.methods x
  pub bodies : (at : ℕ) → body_at cx at ≡ body_at dx at

abbrev unit_in : Option Body → ℕ
unit_in o = option_map_or (λ (b : Body). b.unit) o 0

abbrev taken_in : Option Body → List (List ℕ)
taken_in o = option_map_or (λ (b : Body). b.captures) o []

module _ (cx dx : Setting) (h : IsAlike cx dx) where
  -- ---- values

  same_alone : (e : Expression) → shared_alone cx e ≡ shared_alone dx e
  same_alone (Literal n) = refl
  same_alone (Named x) = h.shared x.text
  same_alone (Paren at e) = refl
  same_alone (Negation at e) = refl
  same_alone (Binary o l at r) = refl

  same_value : (scope : Scope) (t : ℕ) (e : Expression) (d : ℕ) → last_value cx scope t e d ≡ last_value dx scope t e d
  same_value scope t e d = ap (λ (o : Option ℕ). option_map_or (λ (s : ℕ). instr.Get d s) o (last_into scope t e d)) (same_alone e)

  same_source : (t : ℕ) (scope : Scope) (d : ℕ) (r : Source) → code_of_source cx t scope d r ≡ code_of_source dx t scope d r
  same_source t scope d (Make at v) = refl
  same_source t scope d (Value e) = ap (λ (i : Instr). before_into scope t e ++ i ∷ []) (same_value scope t e d)

  same_assigned : (scope : Scope) (t : ℕ) (x : Word) (e : Expression) (o : Option ℕ) → last_assigned cx scope t x e o ≡ last_assigned dx scope t x e o
  same_assigned scope t x e (Some s) = refl
  same_assigned scope t x e None = same_value scope t e (number_of scope x)

  -- ---- statements

  mutual
    same_code : (t : ℕ) (scope : Scope) (n p : ℕ) (s : Statement) → code_of cx t scope n p s ≡ code_of dx t scope n p s
    same_code t scope n p (Block close ss) = same_code_all t scope n p ss
    same_code t scope n p Empty = refl
    same_code t scope n p (Declare b x ty r) = same_source t scope n r
    same_code t scope n p (Assign x e) =
        ap (λ (o : Option ℕ). before_assigned scope t e o ++ last_assigned cx scope t x e o ∷ []) (h.shared x.text)
        ∙ ap (λ (i : Instr). before_assigned scope t e (find dx.shared x.text) ++ i ∷ []) (same_assigned scope t x e (find dx.shared x.text))
    same_code t scope n p (Atomic x y at e) =
        ap (λ (o : Option ℕ). eval scope t e ++ instr.AddTo (unwrap_or o 0) (slot_for scope t e) ∷ []) (h.shared x.text)
    same_code t scope n p (If at l op r s) =
        let q = p + length (both scope t l r) in
        ap (λ (body : List Instr). both scope t l r ++ instr.Unless op (slot_for scope t l) (second scope t l r) (q + 1 + length body) ∷ body)
        (same_code t scope n (q + 1) s)
    same_code t scope n p (IfElse at l op r s u) =
        let q = p + length (both scope t l r) in
        ap (λ (body : List Instr).
        both scope t l r ++ instr.Unless op (slot_for scope t l) (second scope t l r) (q + 1 + length body + 1)
        ∷ (body ++ instr.Jump (q + 1 + length body + 1 + length (code_of cx t scope (n + count s) (q + 1 + length body + 1) u))
        ∷ code_of cx t scope (n + count s) (q + 1 + length body + 1) u)) (same_code t scope n (q + 1) s)
        ∙ ap (λ (other : List Instr).
        both scope t l r ++ instr.Unless op (slot_for scope t l) (second scope t l r) (q + 1 + length (code_of dx t scope n (q + 1) s) + 1)
        ∷ (code_of dx t scope n (q + 1) s ++ instr.Jump (q + 1 + length (code_of dx t scope n (q + 1) s) + 1 + length other) ∷ other))
        (same_code t scope (n + count s) (q + 1 + length (code_of dx t scope n (q + 1) s) + 1) u)
    same_code t scope n p (For at i lo b s) =
        let q = p + length (before_bound scope t n b) in
        ap (λ (body : List Instr).
        cond (int_le lo.value (top b)) (before_bound scope t n b ++ head_of n lo.value b (q + 1 + length body) ∷ (body ++ instr.Next q ∷ [])) [])
        (same_code t (within_loop scope n i b) (n + loop_slots b) (q + 1) s)
    same_code t scope n p (Async at cs s) =
        ap (λ (o : Option Body). instr.Spawn (unit_in o) (slots_of scope (texts (clocks_listed cs) ++ taken_in o)) ∷ []) (h.bodies at)
    same_code t scope n p (Finish at s) =
        ap (λ (body : List Instr). instr.Finish (p + 1 + length body) ∷ (body ++ instr.EndFinish p ∷ [])) (same_code t scope n (p + 1) s)
    same_code t scope n p (Call f at es) =
        ap (λ (o : Option ℕ). eval_all scope t es ++ instr.Call (unwrap_or o 0) (argument_slots scope t es) ∷ []) (h.methods f.text)
    same_code t scope n p (Resume c v) = refl
    same_code t scope n p (Drop c v) = refl
    same_code t scope n p (AdvanceAll at v) = refl
    same_code t scope n p (Print at v e) = refl

    same_code_all : (t : ℕ) (scope : Scope) (n p : ℕ) (ss : Statements) → code_of_all cx t scope n p ss ≡ code_of_all dx t scope n p ss
    same_code_all t scope n p Done = refl
    same_code_all t scope n p (More s ss) =
        ap (λ (code : List Instr). code ++ code_of_all cx t (declared scope n s) (n + count s) (p + length code) ss) (same_code t scope n p s)
        ∙ ap (λ (rest : List Instr). code_of dx t scope n p s ++ rest)
        (same_code_all t (declared scope n s) (n + count s) (p + length (code_of dx t scope n p s)) ss)

  -- ---- units

  same_unit_code : (xs : List (List ℕ)) (s : Statement) → unit_code cx xs s ≡ unit_code dx xs s
  same_unit_code xs s = ap (λ (code : List Instr). code ++ instr.Ret ∷ []) (same_code (first_temporary xs s) (scope_from 0 xs) (length xs) 0 s)

  same_unit : (kind : UnitKind) (xs : List (List ℕ)) (kinds : List ParamKind) (s : Statement) → unit_of cx kind xs kinds s ≡ unit_of dx kind xs kinds s
  same_unit kind xs kinds s =
      ap (λ (made : List Instr). let u : UnitValue = record { kind = kind; params = kinds; slots = slots_used (first_temporary xs s) made; code = made } in u)
      (same_unit_code xs s)

  pub same_part : (p : Part) → unit_of_part cx p ≡ unit_of_part dx p
  same_part (OfMethod m) = same_unit (method_kind m) (names_of_params m.params) (kinds_of_params m.params) (Block m.close m.body)
  same_part (OfBody at cs s) =
      ap (λ (o : Option Body). unit_of cx unit_kind.Body (texts (clocks_listed cs) ++ taken_in o)
      (map (λ _. param.Clock) (texts (clocks_listed cs)) ++ map (λ _. param.Number) (taken_in o)) s) (h.bodies at)
      ∙ same_unit unit_kind.Body (body_params dx at cs) (body_kinds dx at cs) s
