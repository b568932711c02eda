-- Loops and finishes that nest. This project's own.
use Rattle.std.specs.Prelude.{◌≡◌, ℕ, ◌<◌, ◌≤◌, nat_lt, Bool, true, false, Option, Some, None, slice_get}
use Rattle.std.specs.Option.{option_map_or}
use Rattle.xk_types.specs.declared.instr.Instr.{Instr}
use Rattle.xk_types.specs.declared.instr.Instr.TheVariants as instr
use Rattle.xk_types.specs.Order.{Has}
use Rattle.xk_types.specs.Code.{UnitValue}
use Rattle.xk_types.specs.Blocks.{Span, is_inside}
use Rattle.xk_types.specs.Shape.{spans, span_begun, span_ended, aims_well, is_crossing}

-- the instruction is a jump: it may go elsewhere than to the next one, and begins or ends nothing
abbrev pub is_jump : Instr → Bool
is_jump (instr.Unless op x y t) = true
is_jump (instr.Jump t) = true
is_jump _ = false

-- the place of the end of the loop or finish that the instruction begins
abbrev pub end_named : Instr → Option ℕ
end_named (instr.For k lo hi e) = Some e
end_named (instr.ForTo k lo x hi e) = Some e
end_named (instr.Finish e) = Some e
end_named _ = None

-- the place of the beginning of the loop or finish that the instruction ends
abbrev pub begin_named : Instr → Option ℕ
begin_named (instr.Next b) = Some b
begin_named (instr.EndFinish b) = Some b
begin_named _ = None

-- a loop or a finish begins with the instruction, and ends behind it
abbrev pub begins_behind : UnitValue → ℕ → Instr → Bool
begins_behind u at i = option_map_or (λ s. nat_lt at s.last) (span_begun u at i) false

-- one that begins at place b ends at this one, and it lies behind
abbrev pub ends_behind : UnitValue → ℕ → ℕ → Bool
ends_behind u at b = option_map_or (λ s. nat_lt b at) (span_ended u at b (slice_get u.code b)) false

-- the unit's loops and finishes nest or lie apart, and both halves of each name each other: no half of one breaks the rules on targets
-- and on blocks
pub record AreNested (u : UnitValue) : Type 0 where
  pub aimed : (at : ℕ) (i : Instr) → slice_get u.code at ≡ Some i → is_jump i ≡ false → aims_well u at i ≡ true
  pub paired : (at : ℕ) (i : Instr) → slice_get u.code at ≡ Some i → is_jump i ≡ false → is_crossing u at i ≡ false

-- the loop or finish from one place to another
abbrev pub span : ℕ → ℕ → Span
span first last = record { first = first; last = last }

-- the place lies in none of the unit's loops and finishes that begins behind the one that begins there
abbrev pub IsInNoneBehind : UnitValue → ℕ → ℕ → Type 0
IsInNoneBehind u at first = (s : Span) → Has (spans u) s → is_inside at s ≡ true → s.first ≤ first

-- what stands before place n nests: each first half has its end behind it, and each last half ends the innermost that it lies in
pub record AreNestedBelow (u : UnitValue) (n : ℕ) : Type 0 where
  pub begun : (at e : ℕ) (i : Instr) → at < n → slice_get u.code at ≡ Some i → end_named i ≡ Some e → (at < e) × (span_begun u at i ≡ Some (span at e))
  pub ended : (at b : ℕ) (i : Instr) → at < n → slice_get u.code at ≡ Some i → begin_named i ≡ Some b
      → (b < at) × Has (spans u) (span b at) × IsInNoneBehind u at b
