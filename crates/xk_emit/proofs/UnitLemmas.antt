-- Units that are put together.
use Rattle.std.proofs.Common.{◌≡◌, ℕ, ◌+◌, ◌≤◌, max, All, List, [], ◌∷◌, ◌++◌, length, length-append, subst, sym, ap, ◌∙◌, arith, append-nil}
use Rattle.std.specs.Prelude.{⊤}
use Rattle.std.proofs.lemmas.List.Elements.{All-head, All-tail}
use Rattle.xk_types.specs.declared.instr.Instr.{Instr}
use Rattle.xk_types.specs.declared.instr.Instr.TheVariants as instr
use Rattle.xk_types.specs.declared.unit.ParamKind.{ParamKind}
use Rattle.xk_types.specs.declared.unit.UnitKind.{UnitKind}
use Rattle.xk_types.specs.Code.{UnitValue, IsUnitWithinLimits, arguments_of}
use Rattle.xk_tree.specs.Tree.{Statement, Statements, Block, Done, More}
use Rattle.xk_emit.specs.CodeOf.{Setting, Scope, count, code_of}
use Rattle.xk_emit.specs.Unit.{scope_from, slots_used, unit_code, unit_of, written_slots}
use Rattle.xk_emit.specs.declared.error.CodeError.{CodeError}
use Rattle.xk_emit.specs.declared.error.CodeError.TheVariants as error
use Rattle.xk_emit.specs.NameCoverage.{IsCovered, IsUnitCovered}
use Rattle.xk_emit.specs.Room.{AreLow, Denies, HasRoom, most_arguments}
use Rattle.xk_emit.proofs.RoomLemmas.{slots_append}
use Rattle.xk_emit.proofs.CodeErrorLemmas.{all_first}

-- the unit of this code, t slots of which are those of parameters and names
abbrev pub unit_with : UnitKind → List ParamKind → ℕ → List Instr → UnitValue
unit_with kind kinds t code = record { kind = kind; params = kinds; slots = slots_used t code; code = code }

pub unit_made : (cx : Setting) (kind : UnitKind) (ks kinds : List ParamKind) (xs : List (List ℕ)) (s : Statement) (scope : Scope) (n t : ℕ) (made : List Instr)
    → scope ≡ scope_from 0 xs → n ≡ length xs → t ≡ n + count s → kinds ≡ ks → made ≡ code_of cx t scope n 0 s
    → unit_with kind kinds t (made ++ instr.Ret ∷ []) ≡ unit_of cx kind xs ks s
unit_made cx kind ks kinds xs s scope n t made e1 e2 e3 e4 e5 =
    let sum : t ≡ length xs + count s = e3 ∙ ap (λ k. k + count s) e2 in
    let code : made ≡ code_of cx (length xs + count s) (scope_from 0 xs) (length xs) 0 s =
    e5 ∙ ap (λ k. code_of cx k scope n 0 s) sum ∙ ap (λ (w : Scope). code_of cx (length xs + count s) w n 0 s) e1
    ∙ ap (λ k. code_of cx (length xs + count s) (scope_from 0 xs) k 0 s) e2 in
    ap (λ (k : List ParamKind). unit_with kind k t (made ++ instr.Ret ∷ [])) e4
    ∙ ap (λ k. unit_with kind ks k (made ++ instr.Ret ∷ [])) sum
    ∙ ap (λ (c : List Instr). unit_with kind ks (length xs + count s) (c ++ instr.Ret ∷ [])) code

-- ---- a block, wherever its brace stands

pub covered_block : (cx : Setting) (xs : List (List ℕ)) (close : ℕ) (ss : Statements) → IsUnitCovered cx xs (Block close ss) → IsUnitCovered cx xs (Block 0 ss)
covered_block cx xs close ss h = record { params = h.params; body = h.body }

-- ---- a statement alone in a block

pub unit_alone : (cx : Setting) (kind : UnitKind) (xs : List (List ℕ)) (kinds : List ParamKind) (ss : Statements) (s : Statement)
    → ss ≡ More s Done → unit_of cx kind xs kinds (Block 0 ss) ≡ unit_of cx kind xs kinds s
unit_alone cx kind xs kinds ss s is =
    let n = length xs in
    let scope = scope_from 0 xs in
    let few : n + (count s + 0) ≡ n + count s = omega arith in
    ap (λ (b : Statements). unit_of cx kind xs kinds (Block 0 b)) is
    ∙ ap (λ t. unit_with kind kinds t ((code_of cx t scope n 0 s ++ []) ++ instr.Ret ∷ [])) few
    ∙ ap (λ (c : List Instr). unit_with kind kinds (n + count s) (c ++ instr.Ret ∷ [])) (append-nil (code_of cx (n + count s) scope n 0 s))

pub covered_alone : (cx : Setting) (xs : List (List ℕ)) (ss : Statements) (s : Statement) → ss ≡ More s Done → IsUnitCovered cx xs s → IsUnitCovered cx xs (Block 0 ss)
covered_alone cx xs ss s is h = subst (λ (b : Statements). IsUnitCovered cx xs (Block 0 b)) (sym is) (record { params = h.params; body = (h.body, tt) })

-- ---- what is denied of a part, is denied of the unit

slots_more : (t : ℕ) (code : List Instr) → slots_used t code ≡ max t (slots_used 0 code)
slots_more t [] = omega arith
slots_more t (i ∷ is) = ap (max (written_slots i)) (slots_more t is) ∙ omega arith

low_from : (n : ℕ) (xs : List (List ℕ)) → n + length xs ≤ 64 → AreLow (scope_from n xs)
low_from n [] few = tt
low_from n (x ∷ xs) few = (omega arith, low_from (n + 1) xs (omega arith))

few_all : (code : List Instr) → All (λ i. length (arguments_of i) ≤ 64) code → most_arguments code ≤ 64
few_all [] h = omega arith
few_all (i ∷ is) h = let few = All-head (λ i. length (arguments_of i) ≤ 64) i is h in
    let rest = few_all is (All-tail (λ i. length (arguments_of i) ≤ 64) i is h) in omega arith

pub scope_over : (cx : Setting) (kind : UnitKind) (xs : List (List ℕ)) (kinds : List ParamKind) (s : Statement) (n : ℕ) (Names : Type 0) (err : CodeError)
    → Denies err Names (n ≤ 64) → length xs ≡ n → err ≡ error.Table → IsUnitWithinLimits (unit_of cx kind xs kinds s) → ⊥
scope_over cx kind xs kinds s n Names err h is table limits =
    let few = limits.slots in
    let least = slots_more (length xs + count s) (unit_code cx xs s) in
    subst (λ e. Denies e Names (n ≤ 64)) table h (omega arith)

pub names_over : (cx : Setting) (kind : UnitKind) (xs : List (List ℕ)) (kinds : List ParamKind) (s : Statement) (n : ℕ) (err : CodeError)
    → Denies err ⊤ (n + count s ≤ 64) → n ≡ length xs → err ≡ error.Table → IsUnitWithinLimits (unit_of cx kind xs kinds s) → ⊥
names_over cx kind xs kinds s n err h is table limits =
    let few = limits.slots in
    let least = slots_more (length xs + count s) (unit_code cx xs s) in
    subst (λ e. Denies e ⊤ (n + count s ≤ 64)) table h (omega arith)

pub code_over : (cx : Setting) (kind : UnitKind) (xs : List (List ℕ)) (kinds : List ParamKind) (s : Statement) (scope : Scope) (n t : ℕ) (base : List Instr) (err : CodeError)
    → Denies err (IsCovered cx scope n s) (HasRoom scope (length base) (code_of cx t scope n (length base) s) × (n + count s ≤ 64))
    → base ≡ [] → scope ≡ scope_from 0 xs → n ≡ length xs → t ≡ n + count s → err ≡ error.Table → IsUnitWithinLimits (unit_of cx kind xs kinds s) → ⊥
code_over cx kind xs kinds s scope n t base err h empty is_scope is_n is_t table limits =
    let free = length xs + count s in
    let made = code_of cx free (scope_from 0 xs) (length xs) 0 s in
    let most = limits.slots in
    let long = limits.code in
    let least = slots_more free (unit_code cx xs s) in
    let written = slots_append made (instr.Ret ∷ []) in
    let arguments = few_all made (all_first (λ i. length (arguments_of i) ≤ 64) made (instr.Ret ∷ []) limits.arguments) in
    let room : HasRoom (scope_from 0 xs) 0 made = record {
      low = low_from 0 xs (omega arith);
      code = omega (arith, length-append made (instr.Ret ∷ []));
      slots = omega arith;
      arguments = arguments;
    } in
    let there : t ≡ free = is_t ∙ ap (λ k. k + count s) is_n in
    let at_scope = subst (λ (w : Scope). HasRoom w 0 (code_of cx free w (length xs) 0 s)) (sym is_scope) room in
    let at_n = subst (λ k. HasRoom scope 0 (code_of cx free scope k 0 s)) (sym is_n) at_scope in
    let at_t = subst (λ k. HasRoom scope 0 (code_of cx k scope n 0 s)) (sym there) at_n in
    let at_base = subst (λ (b : List Instr). HasRoom scope (length b) (code_of cx t scope n (length b) s)) (sym empty) at_t in
    subst (λ e. Denies e (IsCovered cx scope n s) (HasRoom scope (length base) (code_of cx t scope n (length base) s) × (n + count s ≤ 64))) table h (at_base, omega arith)
