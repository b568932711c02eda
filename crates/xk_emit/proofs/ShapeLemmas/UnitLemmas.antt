-- A unit that the compiler makes: it breaks none of the rules V1 to V7, and not V10; for V8 see `Homes.antt`.
use Rattle.std.proofs.Common.{◌≡◌, ℕ, suc, ◌+◌, ◌==◌, Bool, true, false, not, ◌&&◌, ◌||◌, List, [], ◌∷◌, ◌++◌, length, refl, sym, ap, subst, arith}
use Rattle.std.specs.Prelude.{nat_lt, slice_get}
use Rattle.std.specs.List.{list_all}
use Rattle.std.specs.Option.{option_map_or}
use Rattle.xk_types.specs.declared.instr.Instr.{Instr}
use Rattle.xk_types.specs.declared.instr.Instr.TheVariants as instr
use Rattle.xk_types.specs.declared.unit.ParamKind.{ParamKind}
use Rattle.xk_types.specs.declared.unit.UnitKind.{UnitKind}
use Rattle.xk_types.specs.Code.{ModuleValue}
use Rattle.xk_types.specs.Shape.{instr_is, slots_named, cell_named, is_in_place, runs_amiss, breaks_target, breaks_block, breaks_slot, breaks_cell, breaks_unit, breaks_loop, breaks_end, gives_twice, breaks_same_clock}
use Rattle.xk_tree.specs.Tree.{Statement}
use Rattle.xk_emit.specs.CodeOf.{Setting, code_of}
use Rattle.xk_emit.specs.Unit.{scope_from, first_temporary, slots_used, unit_code, unit_of}
use Rattle.xk_emit.specs.NameCoverage.{IsUnitCovered}
use Rattle.xk_emit.proofs.ShapeLemmas.PositionLemmas.{Holds, holds_both, holds_left, holds_got}
use Rattle.xk_emit.proofs.ShapeLemmas.StructureLemmas.{Nest, lay, EachRow, Frames, each_laid, nest_of, laid}
use Rattle.xk_emit.proofs.ShapeLemmas.JumpTargetLemmas.{Plain}
use Rattle.xk_emit.proofs.ShapeLemmas.InstructionLemmas.{EachInside, each_inside, Leaves, rows_of}
use Rattle.xk_emit.proofs.ShapeLemmas.SlotLemmas.{NamesBelow, WritesBelow, all_below, ScopeBelow, scope_wider, code_below, used_below, used_least}
use Rattle.xk_emit.proofs.ShapeLemmas.LoopCounterLemmas.{KeepsNames, loops_kept}
use Rattle.xk_emit.proofs.ShapeLemmas.ClockArgumentLemmas.{GivesOnce, HandsOnce, hands_once, apart_first}
use Rattle.xk_emit.proofs.ShapeLemmas.UnitStructureLemmas.{is_none}
use Rattle.xk_emit.proofs.ShapeLemmas.UnitStructureLemmas as whole
use Rattle.xk_emit.proofs.ShapeLemmas.SharedNumberLemmas.{SharedBelow, CellBelow, AddsToShared, adds_to_shared, cell_leaves}
use Rattle.xk_emit.proofs.ShapeLemmas.CallTargetLemmas.{RunsFitting, RunsWell, unit_leaves}

-- rows name no places
plain_leaves : (cx : Setting) → Leaves cx (λ s. Unit {0}) Plain
plain_leaves cx = record {
  lit = λ d n. refl;
  copy = λ d x. refl;
  add = λ d x y. refl;
  sub = λ d x y. refl;
  mul = λ d x y. refl;
  get = λ x d s h. refl;
  put = λ x s a h. refl;
  add_to = λ x y at e h a. refl;
  print = λ x. refl;
  make = λ b x ty at v h d. refl;
  resume = λ c. refl;
  drop = λ c v h k. refl;
  advance = refl;
  call = λ f at es args h e. refl;
  spawn = λ at cs q args h e. refl;
}

-- a test that no instruction of the code passes
no_place : (P : Instr → Type 0) (test : Instr → Bool) → ((i : Instr) → P i → test i ≡ false) → (code : List Instr) → Holds P code → (at : ℕ)
    → instr_is test (slice_get code at) ≡ false
no_place P test none code h at = is_none test (slice_get code at) (λ i e. none i (holds_got P code at i h e))

parameters_below : (n : ℕ) (xs : List (List ℕ)) → ScopeBelow (n + length xs) (scope_from n xs)
parameters_below n [] = tt
parameters_below n (x ∷ xs) = (omega arith, scope_wider (n + 1 + length xs) (n + suc (length xs)) (scope_from (n + 1) xs) (omega arith) (parameters_below (n + 1) xs))

slot_named : (m : ℕ) (i : Instr) → NamesBelow m i → not (list_all (λ s. nat_lt s m) (slots_named i)) ≡ false
slot_named m i h = ap not (all_below m (slots_named i) h)

either : (a b c : Bool) → b ≡ true → c ≡ false → ((a && not b) || c) ≡ false
either true b c h g = rw (h, g) refl
either false b c h g = g

module _ (cx : Setting) (kind : UnitKind) (xs : List (List ℕ)) (kinds : List ParamKind) (s : Statement) where
  abbrev t : ℕ
  t = first_temporary xs s

  abbrev code : List Instr
  code = code_of cx t (scope_from 0 xs) (length xs) 0 s

  abbrev most : ℕ
  most = slots_used t (unit_code cx xs s)

  within : ScopeBelow (length xs) (scope_from 0 xs)
  within = scope_wider (0 + length xs) (length xs) (scope_from 0 xs) (omega arith) (parameters_below 0 xs)

  -- the structure of the unit's code
  abbrev nest : Nest
  nest = nest_of cx (first_temporary xs s) (scope_from 0 xs) (length xs) s

  plain : EachRow Plain nest
  plain = rows_of cx (λ q. Unit {0}) Plain (plain_leaves cx) (first_temporary xs s) (scope_from 0 xs) (length xs) s (each_inside (λ q. Unit {0}) (λ q. tt) s)

  is_code : unit_code cx xs s ≡ lay 0 nest ++ instr.Ret ∷ []
  is_code = ap (λ c. c ++ instr.Ret ∷ []) (laid cx (first_temporary xs s) (scope_from 0 xs) (length xs) 0 s)

  -- its instructions, those of its rows and those that make the structure
  laid_with : (Q : Statement → Type 0) (P : Instr → Type 0) → Leaves cx Q P → Frames P → P instr.Ret → EachInside Q s → Holds P (unit_code cx xs s)
  laid_with Q P l f end h = subst (Holds P) (sym is_code)
      (holds_both P (lay 0 nest) (instr.Ret ∷ []) (each_laid P f 0 nest (rows_of cx Q P l t (scope_from 0 xs) (length xs) s h)) (end, tt))

  -- V1
  pub keeps_target : (at : ℕ) → breaks_target (unit_of cx kind xs kinds s) at ≡ false
  keeps_target = whole.targets (unit_of cx kind xs kinds s) nest plain is_code

  -- V2
  pub keeps_block : (at : ℕ) → breaks_block (unit_of cx kind xs kinds s) at ≡ false
  keeps_block = whole.blocks (unit_of cx kind xs kinds s) nest plain is_code

  -- V7
  pub keeps_end : (at : ℕ) → breaks_end (unit_of cx kind xs kinds s) at ≡ false
  keeps_end = whole.ends (unit_of cx kind xs kinds s) nest plain is_code

  -- V3, where each name that the unit uses is found
  pub keeps_slot : IsUnitCovered cx xs s → (at : ℕ) → breaks_slot (unit_of cx kind xs kinds s) at ≡ false
  keeps_slot c = no_place (NamesBelow most) (λ i. not (list_all (λ q. nat_lt q most) (slots_named i))) (slot_named most) (unit_code cx xs s)
      (holds_both (NamesBelow most) code (instr.Ret ∷ []) (code_below most cx t (scope_from 0 xs) (length xs) 0 s
      (scope_wider (length xs) most (scope_from 0 xs) (omega (arith, used_least t (unit_code cx xs s))) within)
      (used_least t (unit_code cx xs s)) c.body (holds_left (WritesBelow most) code (instr.Ret ∷ []) (used_below t (unit_code cx xs s)))) (tt, tt))

  -- V5, where the shared numbers that the setting knows are the module's
  pub keeps_cell : (m : ModuleValue) → SharedBelow cx (length m.shared) → IsUnitCovered cx xs s → (at : ℕ) → breaks_cell m (unit_of cx kind xs kinds s) at ≡ false
  keeps_cell m below c = no_place (CellBelow (length m.shared)) (λ i. option_map_or (λ q. not (nat_lt q (length m.shared))) (cell_named i) false) (λ i h. h) (unit_code cx xs s)
      (laid_with (AddsToShared cx) (CellBelow (length m.shared)) (cell_leaves cx (length m.shared) below)
      (record { unless = λ op a b q. refl; jump = λ q. refl; begins = λ k lo hi e. refl; limited = λ k lo x hi e. refl; next = λ b. refl; finish = λ e. refl; ends = λ b. refl }) refl
      (adds_to_shared cx (scope_from 0 xs) (length xs) s c.body))

  -- V4, where it stands in its place, and what it calls or starts fits
  pub keeps_unit : (m : ModuleValue) (unit : ℕ) → is_in_place unit (unit_of cx kind xs kinds s) ≡ true → EachInside (RunsFitting m cx unit) s
      → (at : ℕ) → breaks_unit m unit (unit_of cx kind xs kinds s) at ≡ false
  keeps_unit m unit place runs at =
      let rest = no_place (RunsWell m unit) (runs_amiss m unit) (λ i h. h) (unit_code cx xs s)
      (laid_with (RunsFitting m cx unit) (RunsWell m unit) (unit_leaves m cx unit)
      (record { unless = λ op a b q. refl; jump = λ q. refl; begins = λ k lo hi e. refl; limited = λ k lo x hi e. refl; next = λ b. refl; finish = λ e. refl; ends = λ b. refl }) refl runs) at in
      either (at == 0) (is_in_place unit (unit_of cx kind xs kinds s)) (instr_is (runs_amiss m unit) (slice_get (unit_code cx xs s) at)) place rest

  -- V6, where no loop's name is assigned to in its body, nor that of its limit
  pub keeps_loop : IsUnitCovered cx xs s → KeepsNames s → (at : ℕ) → breaks_loop (unit_of cx kind xs kinds s) at ≡ false
  keeps_loop c names = whole.loops_right (unit_of cx kind xs kinds s) nest plain is_code (loops_kept cx t (scope_from 0 xs) (length xs) s within (omega arith) c.body names)

  -- V10, where no clock is given twice
  pub keeps_same_clock : (m : ModuleValue) → IsUnitCovered cx xs s → EachInside (GivesOnce m cx) s → (at : ℕ) → breaks_same_clock m (unit_of cx kind xs kinds s) at ≡ false
  keeps_same_clock m c once = no_place (HandsOnce m) (gives_twice m) (λ i h. h) (unit_code cx xs s)
      (subst (Holds (HandsOnce m)) (sym is_code) (holds_both (HandsOnce m) (lay 0 nest) (instr.Ret ∷ [])
      (each_laid (HandsOnce m) (record { unless = λ op a b q. refl; jump = λ q. refl; begins = λ k lo hi e. refl; limited = λ k lo x hi e. refl; next = λ b. refl; finish = λ e. refl; ends = λ b. refl }) 0 nest
      (hands_once m cx t (scope_from 0 xs) (length xs) s within (apart_first 0 xs) c.body once)) (refl, tt)))
