-- What a `call` or a `spawn` hands on. This project's own.
use Rattle.std.specs.Prelude.{◌≡◌, ℕ, List, [], ◌∷◌, Option, Some, None, ◌⊎◌}
use Rattle.xk_types.specs.declared.unit.ParamKind.{ParamKind}
use Rattle.xk_types.specs.Code.{clock_arguments}

-- slots, and the parameters that take them, the first the first
pub record ArgumentsValue : Type 0 where
  pub params : List ParamKind
  pub slots : List ℕ

-- those that are taken as clocks
abbrev pub clocks : ArgumentsValue → List ℕ
clocks a = clock_arguments a.params a.slots

-- the first is taken, if there is one
abbrev pub TakesNext : ArgumentsValue → ArgumentsValue → Option (ParamKind × ℕ) → Type 0
TakesNext old new None = (old.params ≡ []) ⊎ (old.slots ≡ [])
TakesNext old new (Some p) = (old.params ≡ p.0 ∷ new.params) × (old.slots ≡ p.1 ∷ new.slots)
