-- Where each instruction of a unit comes from, and what its slots are called. This project's own.
use Rattle.std.specs.Prelude.{ℕ, List, [], slice_get, Option}
use Rattle.std.specs.Option.{option_map_or}
use Rattle.xk_types.specs.declared.unit.UnitKind.{UnitKind}

-- where a unit's text stands, what it is for, and what it is called
pub record Head : Type 0 where
  pub at : ℕ
  pub kind : UnitKind
  pub name : Option (List ℕ)

pub record UnitOrigins : Type 0 where
  pub head : Head
  -- where each instruction comes from, as an offset in the text
  pub offsets : List ℕ
  -- the names of the slots
  pub slots : List (List ℕ)

-- where the instructions of a unit come from; none where there is no such unit
abbrev pub offsets_at : List UnitOrigins → ℕ → List ℕ
offsets_at origins unit = option_map_or (λ o. o.offsets) (slice_get origins unit) []

-- the names of its slots
abbrev pub slots_at : List UnitOrigins → ℕ → List (List ℕ)
slots_at origins unit = option_map_or (λ o. o.slots) (slice_get origins unit) []
