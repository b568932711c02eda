-- What is proved of origins, as statements. This project's own.
use Rattle.std.specs.Prelude.{◌≡◌, ℕ, All, List, [], length, map, slice_get}
use Rattle.std.specs.Option.{option_map_or}
use Rattle.xk_types.specs.declared.instr.Instr.{Instr}
use Rattle.xk_types.specs.Code.{ModuleValue}
use Rattle.xk_tree.specs.Tree.{TreeValue}
use Rattle.xk_lexer.specs.Tokens.{TokenValue}
use Rattle.xk_lexer.specs.Pieces.{offsets}
use Rattle.xk_names.specs.Scope.{Has}
use Rattle.xk_source_semantics.specs.Parts.{Part}
use Rattle.xk_source_semantics.specs.Compilation.{AreUnits}
use Rattle.xk_unit_origins.specs.UnitOrigins.{UnitOrigins, offsets_at}
use Rattle.xk_origins.specs.UnitOrigins.{unit_origins}

-- these are the origins of a program, unit by unit
pub record AreOrigins (t : TreeValue) (origins : List UnitOrigins) : Type 0 where
  pub units : List Part
  pub are_units : AreUnits t units
  pub are : origins ≡ map (unit_origins t) units

-- the code of a unit of a module; none where there is no such unit
abbrev pub code_at : ModuleValue → ℕ → List Instr
code_at m unit = option_map_or (λ u. u.code) (slice_get m.units unit) []

-- there is one for each instruction of the module
pub record HasOneForEach (m : ModuleValue) (origins : List UnitOrigins) : Type 0 where
  pub units : length origins ≡ length m.units
  pub code : (unit : ℕ) → length (offsets_at origins unit) ≡ length (code_at m unit)

-- ---- tokens

-- a unit's text, and where its instructions come from, stand where these tokens do
pub record IsAtTokens (tokens : List TokenValue) (o : UnitOrigins) : Type 0 where
  pub head : Has (offsets tokens) o.head.at
  pub origins : All (Has (offsets tokens)) o.offsets

abbrev pub AreAtTokens : List TokenValue → List UnitOrigins → Type 0
AreAtTokens tokens origins = All (IsAtTokens tokens) origins
