-- Finishes in the code, and where a slot is at home. X10 Language Specification 2.4, chapter Activities, Finish: `finish S` runs S, and
-- waits for the end of all activities that were started meanwhile. That `finish` and `endfinish` are instructions, and what they
-- make of the code, is this project's own.
use Rattle.std.specs.Prelude.{ℕ, suc, ◌==◌, nat_lt, nat_le, Bool, true, false, not, ◌&&◌, List, [], ◌∷◌, ◌++◌, map, filter, length, slice_get, Option, Some, None, if◌then◌else◌}
use Rattle.std.specs.List.{list_any}
use Rattle.xk_types.specs.declared.instr.Instr.{Instr}
use Rattle.xk_types.specs.declared.instr.Instr.TheVariants as instr
use Rattle.xk_types.specs.declared.unit.ParamKind.{ParamKind}
use Rattle.xk_types.specs.declared.unit.ParamKind.TheVariants as param
use Rattle.xk_types.specs.Code.{UnitValue, begun_from}

-- a stretch of code: the places of its first and of its last instruction, which name each other
pub record Span : Type 0 where
  pub first : ℕ
  pub last : ℕ

-- ---- finishes

-- it is an `endfinish` that names this place
abbrev pub is_end_of : ℕ → Option Instr → Bool
is_end_of first (Some (instr.EndFinish b)) = b == first
is_end_of first _ = false

-- the finish that an instruction at place `first` opens: a `finish` and an `endfinish` that name each other
abbrev pub finish_opened : UnitValue → ℕ → Instr → Option Span
finish_opened u first (instr.Finish e) = if is_end_of first (slice_get u.code e) then Some (record { first = first; last = e }) else None
finish_opened u first _ = None

-- the finishes of a unit, by the places of their `finish`
abbrev pub finishes : UnitValue → List Span
finishes u = begun_from (finish_opened u) 0 u.code

-- the place lies in the finish: behind its `finish`, and up to its `endfinish`
abbrev pub is_inside : ℕ → Span → Bool
is_inside at f = nat_lt f.first at && nat_le at f.last

-- ---- blocks: the whole unit, or what stands between a `finish` and its `endfinish`

-- The block that a place stands directly in, told by the finishes around the place, the outermost first: by none where the block is
-- the whole unit.
abbrev pub block_at : UnitValue → ℕ → List ℕ
block_at u at = map (λ f. f.first) (filter (is_inside at) (finishes u))

-- the same block
abbrev pub same_block : List ℕ → List ℕ → Bool
same_block [] [] = true
same_block [] (y ∷ ys) = false
same_block (x ∷ xs) [] = false
same_block (x ∷ xs) (y ∷ ys) = (x == y) && same_block xs ys

-- how many finishes are open at a place, of those that the unit opens itself
abbrev pub depth_at : UnitValue → ℕ → ℕ
depth_at u at = length (block_at u at)

-- ---- homes

-- the parameter takes a clock
abbrev pub takes_clock : Option ParamKind → Bool
takes_clock None = false
takes_clock (Some param.Number) = false
takes_clock (Some param.Clock) = true

-- the instruction makes the clock of this slot
abbrev pub makes : ℕ → Instr → Bool
makes s (instr.Make d) = d == s
makes s _ = false

-- the blocks in which these instructions, the first of them at place `at`, make the clock of slot s
abbrev pub made_from : UnitValue → ℕ → ℕ → List Instr → List (List ℕ)
made_from u s at [] = []
made_from u s at (i ∷ is) = if makes s i then block_at u at ∷ made_from u s (suc at) is else made_from u s (suc at) is

-- The homes of a slot: the whole unit for a parameter that takes a clock, and the blocks that make its clock. The verifier sees to it
-- that no two of them differ.
abbrev pub homes : UnitValue → ℕ → List (List ℕ)
homes u s = (if takes_clock (slice_get u.params s) then [] ∷ [] else []) ++ made_from u s 0 u.code

-- one of the blocks is another one than this
abbrev pub is_elsewhere : List ℕ → List (List ℕ) → Bool
is_elsewhere block hs = list_any (λ h. not (same_block block h)) hs

-- one of the blocks is this one
abbrev pub is_here : List ℕ → List (List ℕ) → Bool
is_here block hs = list_any (same_block block) hs
