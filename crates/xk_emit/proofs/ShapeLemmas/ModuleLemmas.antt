-- A module of units that the compiler makes: it breaks none of the rules V1 to V7 and V10, and of V8 only that no method drops a clock that it is
-- lent. V9 is left: whether a clock is handed on in its home is the program's matter.
use Rattle.std.proofs.Common.{◌≡◌, ℕ, Bool, true, false, List, [], ◌∷◌, ◌++◌, length, Option, Some, None, refl, sym, subst}
use Rattle.std.specs.Prelude.{slice_get}
use Rattle.std.proofs.lemmas.Option.{none-some}
use Rattle.xk_types.specs.declared.rules.Rule.{Rule}
use Rattle.xk_types.specs.declared.rules.Rule.TheVariants as rule
use Rattle.xk_types.specs.declared.unit.ParamKind.{ParamKind}
use Rattle.xk_types.specs.declared.unit.UnitKind.{UnitKind}
use Rattle.xk_types.specs.Code.{UnitValue, ModuleValue, is_method}
use Rattle.xk_types.specs.Shape.{is_in_place, breaks_in, breaks_unit_of, breaks, HasShape}
use Rattle.xk_tree.specs.Tree.{Word, Statement, Statements, Block}
use Rattle.xk_names.specs.Scope.{Scope}
use Rattle.xk_names.specs.Uses.{Signatures}
use Rattle.xk_names.specs.WellScoped.{IsSound, IsSoundInside}
use Rattle.xk_emit.specs.CodeOf.{Setting}
use Rattle.xk_emit.specs.Unit.{unit_of}
use Rattle.xk_emit.specs.NameCoverage.{IsUnitCovered}
use Rattle.xk_emit.proofs.ShapeLemmas.InstructionLemmas.{EachInside}
use Rattle.xk_emit.proofs.ShapeLemmas.LoopCounterLemmas.{KeepsNames}
use Rattle.xk_emit.proofs.ShapeLemmas.SharedNumberLemmas.{SharedBelow}
use Rattle.xk_emit.proofs.ShapeLemmas.CallTargetLemmas.{RunsFitting}
use Rattle.xk_emit.proofs.ShapeLemmas.ClockHomeLemmas.{SparesClocks, keeps_home}
use Rattle.xk_emit.proofs.ShapeLemmas.ClockArgumentLemmas.{GivesOnce}
use Rattle.xk_emit.proofs.ShapeLemmas.NameLemmas.{keeps_names, FindsUnits, runs_right}
use Rattle.xk_emit.proofs.ShapeLemmas.UnitLemmas.{keeps_target, keeps_block, keeps_slot, keeps_unit, keeps_cell, keeps_loop, keeps_end, keeps_same_clock}

-- unit number `unit` of the module is the compiler's
pub record IsCompiled (m : ModuleValue) (unit : ℕ) (u : UnitValue) : Type 0 where
  pub cx : Setting
  pub kind : UnitKind
  pub xs : List (List ℕ)
  pub kinds : List ParamKind
  pub s : Statement
  pub is : unit_of cx kind xs kinds s ≡ u
  -- the shared numbers that the setting knows are the module's
  pub shared : SharedBelow cx (length m.shared)
  -- each name that is used is found
  pub covered : IsUnitCovered cx xs s
  -- no loop's name is assigned to in its body, nor that of its limit
  pub names : KeepsNames s
  -- it is main where it has to be
  pub place : is_in_place unit u ≡ true
  -- what it calls and starts are units of greater number, of the right kind, with as many parameters
  pub runs : EachInside (RunsFitting m cx unit) s
  -- it has as many parameters as names for them
  pub params : length kinds ≡ length xs
  -- it gives no clock twice
  pub given : EachInside (GivesOnce m cx) s

-- a method drops no clock of its parameters
abbrev SparesLent : (m : ModuleValue) (unit : ℕ) (u : UnitValue) → IsCompiled m unit u → Type 0
SparesLent m unit u c = is_method c.kind ≡ true → EachInside (SparesClocks c.xs) c.s

-- a block itself does nothing with names
pub block_sound : (ms : Signatures) (sc : Scope) (close : ℕ) (ss : Statements) → IsSound ms sc (Block close ss)
block_sound ms sc close ss = record {
  used = λ u h. absurd h;
  new = λ d h. absurd h;
  fitting = λ at h. absurd h;
  callable = λ g es h. absurd (none-some (g, es) h);
  apart = λ before c after h. absurd (nothing before c after h);
}
  where
    nothing : (before : List Word) (c : Word) (after : List Word) → [] ≡ before ++ c ∷ after → ⊥
    nothing [] c after h = cc
    nothing (w ∷ before) c after h = cc

-- the unit of a statement whose names are without faults, where ms are the methods, and sc is what is visible
pub compiled_soundly : (m : ModuleValue) (unit : ℕ) (cx : Setting) (kind : UnitKind) (xs : List (List ℕ)) (kinds : List ParamKind) (s : Statement) (ms : Signatures) (sc : Scope)
    → SharedBelow cx (length m.shared) → IsUnitCovered cx xs s → length kinds ≡ length xs → is_in_place unit (unit_of cx kind xs kinds s) ≡ true
    → IsSound ms sc s → IsSoundInside ms sc s → EachInside (FindsUnits m cx ms unit) s → IsCompiled m unit (unit_of cx kind xs kinds s)
compiled_soundly m unit cx kind xs kinds s ms sc shared covered params place sound inside units =
    let runs = runs_right m cx ms unit sc s sound inside units in
    record {
      cx = cx;
      kind = kind;
      xs = xs;
      kinds = kinds;
      s = s;
      is = refl;
      shared = shared;
      covered = covered;
      names = keeps_names ms sc s sound inside;
      place = place;
      runs = runs.0;
      params = params;
      given = runs.1;
    }

-- a rule that the compiler alone can't keep
abbrev pub is_left : Rule → Bool
is_left rule.Home = true
is_left rule.Registers = true
is_left _ = false

module _ (m : ModuleValue) where
  unit_keeps : (unit : ℕ) (u : UnitValue) → IsCompiled m unit u → (r : Rule) → is_left r ≡ false → (at : ℕ) → breaks_in m r unit u at ≡ false
  unit_keeps unit u c rule.Target h at = subst (λ v. breaks_in m rule.Target unit v at ≡ false) c.is (keeps_target c.cx c.kind c.xs c.kinds c.s at)
  unit_keeps unit u c rule.Block h at = subst (λ v. breaks_in m rule.Block unit v at ≡ false) c.is (keeps_block c.cx c.kind c.xs c.kinds c.s at)
  unit_keeps unit u c rule.Slot h at = subst (λ v. breaks_in m rule.Slot unit v at ≡ false) c.is (keeps_slot c.cx c.kind c.xs c.kinds c.s c.covered at)
  unit_keeps unit u c rule.Unit h at = subst (λ v. breaks_in m rule.Unit unit v at ≡ false) c.is
      (keeps_unit c.cx c.kind c.xs c.kinds c.s m unit (subst (λ v. is_in_place unit v ≡ true) (sym c.is) c.place) c.runs at)
  unit_keeps unit u c rule.Cell h at = subst (λ v. breaks_in m rule.Cell unit v at ≡ false) c.is (keeps_cell c.cx c.kind c.xs c.kinds c.s m c.shared c.covered at)
  unit_keeps unit u c rule.Loop h at = subst (λ v. breaks_in m rule.Loop unit v at ≡ false) c.is (keeps_loop c.cx c.kind c.xs c.kinds c.s c.covered c.names at)
  unit_keeps unit u c rule.End h at = subst (λ v. breaks_in m rule.End unit v at ≡ false) c.is (keeps_end c.cx c.kind c.xs c.kinds c.s at)
  unit_keeps unit u c rule.Home h at = absurd cc
  unit_keeps unit u c rule.Registers h at = absurd cc
  unit_keeps unit u c rule.SameClock h at = subst (λ v. breaks_in m rule.SameClock unit v at ≡ false) c.is (keeps_same_clock c.cx c.kind c.xs c.kinds c.s m c.covered c.given at)
  unit_keeps unit u c _ h at = refl

  module _ (compiled : (unit : ℕ) (u : UnitValue) → slice_get m.units unit ≡ Some u → IsCompiled m unit u) where
    -- no place breaks one of V1 to V7, or V10
    pub module_keeps : (r : Rule) → is_left r ≡ false → (unit at : ℕ) → breaks m r unit at ≡ false
    module_keeps r h unit at = go (slice_get m.units unit) refl
      where
        go : (o : Option UnitValue) → slice_get m.units unit ≡ o → breaks_unit_of m r unit o at ≡ false
        go None e = refl
        go (Some u) e = unit_keeps unit u (compiled unit u e) r h at

    module _ (lent : (unit : ℕ) (u : UnitValue) (e : slice_get m.units unit ≡ Some u) → SparesLent m unit u (compiled unit u e)) where
      -- nor V8
      pub home_kept : (unit at : ℕ) → breaks m rule.Home unit at ≡ false
      home_kept unit at = go (slice_get m.units unit) refl
        where
          go : (o : Option UnitValue) → slice_get m.units unit ≡ o → breaks_unit_of m rule.Home unit o at ≡ false
          go None e = refl
          go (Some u) e =
              let c = compiled unit u e in
              subst (λ v. breaks_in m rule.Home unit v at ≡ false) c.is (keeps_home c.cx c.kind c.xs c.kinds c.s c.params c.covered (lent unit u e) at)

      -- so the module has the shape, where none breaks V9
      pub has_shape : ((unit at : ℕ) → breaks m rule.Registers unit at ≡ false) → HasShape m
      has_shape registers rule.Home unit at = home_kept unit at
      has_shape registers rule.Registers unit at = registers unit at
      has_shape registers rule.Target unit at = module_keeps rule.Target refl unit at
      has_shape registers rule.Block unit at = module_keeps rule.Block refl unit at
      has_shape registers rule.Slot unit at = module_keeps rule.Slot refl unit at
      has_shape registers rule.Unit unit at = module_keeps rule.Unit refl unit at
      has_shape registers rule.Cell unit at = module_keeps rule.Cell refl unit at
      has_shape registers rule.Loop unit at = module_keeps rule.Loop refl unit at
      has_shape registers rule.End unit at = module_keeps rule.End refl unit at
      has_shape registers rule.SameClock unit at = module_keeps rule.SameClock refl unit at
      has_shape registers rule.Use unit at = module_keeps rule.Use refl unit at
      has_shape registers rule.Held unit at = module_keeps rule.Held refl unit at
      has_shape registers rule.Leak unit at = module_keeps rule.Leak refl unit at
      has_shape registers rule.Steps unit at = module_keeps rule.Steps refl unit at
      has_shape registers rule.Activities unit at = module_keeps rule.Activities refl unit at
      has_shape registers rule.Clocks unit at = module_keeps rule.Clocks refl unit at
      has_shape registers rule.Stack unit at = module_keeps rule.Stack refl unit at
