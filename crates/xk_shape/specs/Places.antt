-- How the places of a unit lie to its loops and finishes. This project's own.
use Rattle.std.specs.Prelude.{◌≡◌, ℕ, ◌<◌, ◌&&◌, ◌==◌, Bool, true, false, List, length, Option, Some, None, slice_get}
use Rattle.std.specs.Int.{bit_at}
use Rattle.std.specs.List.{list_any, last_or}
use Rattle.xk_types.specs.Order.{Has}
use Rattle.xk_types.specs.Code.{UnitValue, loops, is_round}
use Rattle.xk_types.specs.Blocks.{Span, is_inside, block_at, depth_at}
use Rattle.xk_types.specs.Shape.{spans, counts_by}
use Rattle.xk_shape.specs.Nesting.{IsInNoneBehind}
use Rattle.xk_shape.specs.declared.places.Place.{Place}

-- the finish of a block itself: the last of those around it
abbrev pub innermost : List ℕ → Option ℕ
innermost block = last_or None block

-- the innermost of the loops and finishes round the place begins there
pub record IsInnermost (u : UnitValue) (at first : ℕ) : Type 0 where
  pub round : Span
  pub has : Has (spans u) round
  pub inside : is_inside at round ≡ true
  pub begins : round.first ≡ first
  pub last : IsInNoneBehind u at first

-- or there is none round it
abbrev pub LiesWithin : UnitValue → ℕ → Option ℕ → Type 0
LiesWithin u at None = (s : Span) → Has (spans u) s → is_inside at s ≡ false
LiesWithin u at (Some first) = IsInnermost u at first

-- a loop round the place counts its turns by this slot
abbrev pub is_counter : UnitValue → ℕ → ℕ → Bool
is_counter u at s = list_any (λ l. is_round at l && counts_by s l) (loops u)

-- one of the slots whose bits the number has
abbrev pub has_slot : ℕ → ℕ → Bool
has_slot slots s = bit_at slots s == 1

-- the place lies so to the loops and finishes of its unit
pub record LiesSo (u : UnitValue) (at : ℕ) (p : Place) : Type 0 where
  pub within : LiesWithin u at p.within
  pub finish : p.finish ≡ innermost (block_at u at)
  pub depth : p.depth ≡ depth_at u at
  pub counters : (s : ℕ) → s < 64 → has_slot p.counters s ≡ is_counter u at s

-- so lie the first places
abbrev pub AreFirstPlaces : UnitValue → List Place → Type 0
AreFirstPlaces u places = (at : ℕ) (p : Place) → slice_get places at ≡ Some p → LiesSo u at p

-- so lie all of them
abbrev pub ArePlaces : UnitValue → List Place → Type 0
ArePlaces u places = (length places ≡ length u.code) × AreFirstPlaces u places
