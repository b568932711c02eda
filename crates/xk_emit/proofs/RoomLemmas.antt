-- Room for parts of code.
use Rattle.std.proofs.Common.{◌≡◌, ℕ, suc, ◌+◌, ◌<◌, max, List, [], ◌∷◌, ◌++◌, length, refl, sym, ap, ◌∙◌, arith, length-append, subst, cond, true, false, pos, Some, None}
use Rattle.std.specs.Prelude.{unwrap_or, ⊤}
use Rattle.xk_types.specs.declared.instr.Instr.{Instr}
use Rattle.xk_types.specs.declared.instr.Instr.TheVariants as instr
use Rattle.xk_types.specs.Code.{arguments_of}
use Rattle.xk_tree.specs.declared.tree.Operator.{Operator}
use Rattle.xk_tree.specs.declared.tree.Operator.TheVariants as operator
use Rattle.xk_tree.specs.Tree.{Expression, Literal, Named, Paren, Negation, Binary}
use Rattle.xk_names.specs.Scope.{find, is_text}
use Rattle.xk_emit.specs.CodeOf.{Scope, behind, eval, slot_for}
use Rattle.xk_emit.specs.Unit.{slots_used, written_slots}
use Rattle.xk_emit.specs.NameCoverage.{IsKnown}
use Rattle.xk_emit.specs.Room.{AreLow, Denies, HasRoom, most_arguments}
use Rattle.xk_emit.specs.declared.error.CodeError.{CodeError}
use Rattle.xk_emit.specs.declared.error.CodeError.TheVariants as error

pub slots_append : (a b : List Instr) → slots_used 0 (a ++ b) ≡ max (slots_used 0 a) (slots_used 0 b)
slots_append [] b = omega arith
slots_append (i ∷ a) b = ap (max (written_slots i)) (slots_append a b) ∙ omega arith

pub arguments_append : (a b : List Instr) → most_arguments (a ++ b) ≡ max (most_arguments a) (most_arguments b)
arguments_append [] b = omega arith
arguments_append (i ∷ a) b = ap (max (length (arguments_of i))) (arguments_append a b) ∙ omega arith

-- code that stands first has room
pub room_first : (scope : Scope) (size : ℕ) (a b : List Instr) → HasRoom scope size (a ++ b) → HasRoom scope size a
room_first scope size a b r =
    let r1 = r.code in
    let r2 = r.slots in
    let r3 = r.arguments in
    record {
      low = r.low;
      code = omega (arith, length-append a b);
      slots = omega (arith, slots_append a b);
      arguments = omega (arith, arguments_append a b);
    }

-- and what stands behind it
pub room_behind : (scope : Scope) (size : ℕ) (a b : List Instr) (more : ℕ) → more ≡ size + length a → HasRoom scope size (a ++ b) → HasRoom scope more b
room_behind scope size a b more is r =
    let r1 = r.code in
    let r2 = r.slots in
    let r3 = r.arguments in
    record {
      low = r.low;
      code = omega (arith, length-append a b);
      slots = omega (arith, slots_append a b);
      arguments = omega (arith, arguments_append a b);
    }

-- ---- temporaries

-- names have slots below 64
low_found : (scope : Scope) (x : List ℕ) (n : ℕ) → AreLow scope → find scope x ≡ Some n → n < 64
low_found [] x n low is = absurd (cc)
low_found (e ∷ scope) x n low is = elim (is_text x e.0) as (λ b. cond b (Some e.1) (find scope x) ≡ Some n → n < 64) [
  | true ↦ λ h. let k : e.1 ≡ n = cc in let b = low.0 in omega arith
  | false ↦ λ h. low_found scope x n low.1 h
] is

low_number : (scope : Scope) (x : List ℕ) → AreLow scope → unwrap_or (find scope x) 0 < 64
low_number scope x low = elim (find scope x) as (λ o. find scope x ≡ o → unwrap_or o 0 < 64) [
  | None ↦ λ _. omega arith
  | Some n ↦ λ is. low_found scope x n low is
] refl

last_written : (scope : Scope) (t : ℕ) (l r : Expression) (i : Instr) → written_slots i ≡ suc t
    → t < max 64 (slots_used 0 (eval scope t l ++ (eval scope (behind t (slot_for scope t l)) r ++ i ∷ [])))
last_written scope t l r i is =
    omega (arith, slots_append (eval scope t l) (eval scope (behind t (slot_for scope t l)) r ++ i ∷ []), slots_append (eval scope (behind t (slot_for scope t l)) r) (i ∷ []))

-- a temporary is written by the code that leaves a number in it
pub temporary_written : (scope : Scope) (t : ℕ) (e : Expression) → AreLow scope → slot_for scope t e ≡ t → t < max 64 (slots_used 0 (eval scope t e))
temporary_written scope t (Literal n) low is = omega arith
temporary_written scope t (Named x) low is = let k = low_number scope x.text low in omega arith
temporary_written scope t (Paren at e) low is = temporary_written scope t e low is
temporary_written scope t (Negation at e) low is =
    omega (arith, slots_append (instr.Lit t (pos 0) ∷ eval scope (t + 1) e) (instr.Sub t t (slot_for scope (t + 1) e) ∷ []))
temporary_written scope t (Binary operator.Plus l at r) low is = last_written scope t l r (instr.Add t _ _) refl
temporary_written scope t (Binary operator.Minus l at r) low is = last_written scope t l r (instr.Sub t _ _) refl
temporary_written scope t (Binary operator.Times l at r) low is = last_written scope t l r (instr.Mul t _ _) refl

-- ---- what a part of an expression's code denies, the whole denies

abbrev pub DeniesEval : CodeError → Scope → ℕ → ℕ → Expression → Type 0
DeniesEval err scope size t e = Denies err (IsKnown scope e) (HasRoom scope size (eval scope t e))

pub negated : (err : CodeError) (scope : Scope) (size inner t u at : ℕ) (e : Expression)
    → DeniesEval err scope inner u e → u ≡ t + 1 → inner ≡ size + 1 → DeniesEval err scope size t (Negation at e)
negated error.Name scope size inner t u at e h next is = h
negated error.Table scope size inner t u at e h next is = λ r.
    h (subst (λ k. HasRoom scope inner (eval scope k e)) (sym next) (room_first scope inner _ _ (room_behind scope size (instr.Lit t (pos 0) ∷ []) _ inner is r)))
negated error.OutOfMemory scope size inner t u at e h next is = tt

pub left : (err : CodeError) (scope : Scope) (size t at : ℕ) (o : Operator) (l r : Expression) → DeniesEval err scope size t l → DeniesEval err scope size t (Binary o l at r)
left error.Name scope size t at o l r h = λ k. h k.0
left error.Table scope size t at o l r h = λ m. h (room_first scope size _ _ m)
left error.OutOfMemory scope size t at o l r h = tt

pub between : (err : CodeError) (scope : Scope) (size t x at : ℕ) (o : Operator) (l r : Expression)
    → Denies err ⊤ (x ≡ t → t < 64) → x ≡ slot_for scope t l → DeniesEval err scope size t (Binary o l at r)
between error.Name scope size t x at o l r h is = λ k. h tt
between error.Table scope size t x at o l r h is = λ m.
    let first = room_first scope size (eval scope t l) _ m in
    let few = first.slots in
    h (λ same. let w = temporary_written scope t l m.low (sym is ∙ same) in omega arith)
between error.OutOfMemory scope size t x at o l r h is = tt

pub right : (err : CodeError) (scope : Scope) (size inner t u x at : ℕ) (o : Operator) (l r : Expression)
    → DeniesEval err scope inner u r → u ≡ behind t x → x ≡ slot_for scope t l → inner ≡ size + length (eval scope t l) → DeniesEval err scope size t (Binary o l at r)
right error.Name scope size inner t u x at o l r h is_u is_x is = λ k. h k.1
right error.Table scope size inner t u x at o l r h is_u is_x is = λ m.
    let there : u ≡ behind t (slot_for scope t l) = is_u ∙ ap (behind t) is_x in
    h (subst (λ k. HasRoom scope inner (eval scope k r)) (sym there) (room_first scope inner _ _ (room_behind scope size (eval scope t l) _ inner is m)))
right error.OutOfMemory scope size inner t u x at o l r h is_u is_x is = tt
