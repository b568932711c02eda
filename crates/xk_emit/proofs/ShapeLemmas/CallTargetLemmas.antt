-- Units that code calls and starts.
use Rattle.std.proofs.Common.{◌≡◌, ℕ, ◌<◌, Bool, true, false, not, List, length, Some, refl, sym, ◌∙◌, arith}
use Rattle.std.specs.Prelude.{nat_lt, slice_get}
use Rattle.std.proofs.lemmas.Bool.{eq-eqb}
use Rattle.std.proofs.lemmas.Bool.Decides.{nat_tests}
use Rattle.xk_types.specs.declared.instr.Instr.{Instr}
use Rattle.xk_types.specs.declared.unit.UnitKind.{UnitKind}
use Rattle.xk_types.specs.Code.{UnitValue, ModuleValue, is_method, is_body}
use Rattle.xk_types.specs.Shape.{is_fitting, runs_amiss}
use Rattle.xk_tree.specs.Tree.{Statement, Async, Call}
use Rattle.xk_emit.specs.CodeOf.{Setting, number_of, body_unit, body_params}
use Rattle.xk_emit.proofs.ShapeLemmas.InstructionLemmas.{Leaves}

-- unit t is of such a kind, comes behind this one, and has so many parameters
pub record Fits (kind : UnitKind → Bool) (m : ModuleValue) (unit t params : ℕ) : Type 0 where
  pub v : UnitValue
  pub found : slice_get m.units t ≡ Some v
  pub is : kind v.kind ≡ true
  pub behind : unit < t
  pub count : length v.params ≡ params

-- what the statement calls or starts fits
abbrev pub RunsFitting : ModuleValue → Setting → ℕ → Statement → Type 0
RunsFitting m cx unit (Call f at es) = Fits is_method m unit (number_of cx.methods f) (length es)
RunsFitting m cx unit (Async at cs s) = Fits is_body m unit (body_unit cx at) (length (body_params cx at cs))
RunsFitting m cx unit _ = Unit {0}

abbrev pub RunsWell : ModuleValue → ℕ → Instr → Type 0
RunsWell m unit i = runs_amiss m unit i ≡ false

fitting : (kind : UnitKind → Bool) (m : ModuleValue) (unit t params : ℕ) (args : List ℕ) → length args ≡ params → Fits kind m unit t params
    → not (is_fitting kind unit t args (slice_get m.units t)) ≡ false
fitting kind m unit t params args e f =
    let behind : nat_lt unit t ≡ true = (let h = f.behind in grind (arith, nat_tests)) in
    rw (f.found, f.is, behind, eq-eqb (length args) (length f.v.params) (e ∙ sym f.count)) refl

pub unit_leaves : (m : ModuleValue) (cx : Setting) (unit : ℕ) → Leaves cx (RunsFitting m cx unit) (RunsWell m unit)
unit_leaves m cx unit = record {
  lit = λ d n. refl;
  copy = λ d x. refl;
  add = λ d x y. refl;
  sub = λ d x y. refl;
  mul = λ d x y. refl;
  get = λ x d s h. refl;
  put = λ x s a h. refl;
  add_to = λ x y at e h a. refl;
  print = λ x. refl;
  make = λ b x ty at v h d. refl;
  resume = λ c. refl;
  drop = λ c v h k. refl;
  advance = refl;
  call = λ f at es args h e. fitting is_method m unit (number_of cx.methods f) (length es) args e h;
  spawn = λ at cs q args h e. fitting is_body m unit (body_unit cx at) (length (body_params cx at cs)) args e h;
}
