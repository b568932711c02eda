-- What `listing` prints of a program: its units, instruction by instruction. This project's own.
use Rattle.std.specs.Prelude.{◌≡◌, ℕ, zero, suc, ◌⊎◌, List, [], ◌∷◌, ◌++◌, length, map, min, Option, Some, None, slice_get, codes, decimal}
use Rattle.std.specs.Option.{option_map_or}
use Rattle.xk_types.specs.declared.instr.Instr.{Instr}
use Rattle.xk_types.specs.declared.unit.UnitKind.{UnitKind}
use Rattle.xk_types.specs.declared.unit.UnitKind.TheVariants as unit_kind
use Rattle.xk_types.specs.declared.unit.ParamKind.{ParamKind}
use Rattle.xk_types.specs.declared.unit.ParamKind.TheVariants as param
use Rattle.xk_types.specs.Code.{UnitValue, ModuleValue}
use Rattle.xk_types.specs.Shape.{HasShape}
use Rattle.xk_lines.specs.Lines.{position_of}
use Rattle.xk_typestate.specs.KindSet.{KindsValue}
use Rattle.xk_typestate.specs.KindTable.{AreKindTables}
use Rattle.xk_unit_origins.specs.UnitOrigins.{Head, UnitOrigins}
use Rattle.xk_listing.specs.Words.{words}
use Rattle.xk_listing.specs.Fields.{at_left, at_right, clocks_field, each_below, origin_field, place_title, slots_field}

-- the kinds of all units, where they are known
abbrev Tables : Type 0
Tables = Option (List (List (List KindsValue)))

-- `unit 1  `
unfoldable pub unit_front : ℕ → List ℕ
unit_front unit = codes "unit " ++ (decimal unit ++ codes "  ")

-- `   4  `
abbrev pub place_front : ℕ → List ℕ
place_front at = at_right 4 (decimal at) ++ codes "  "

-- `   4  ` and an instruction in words
unfoldable pub line_front : ℕ → Instr → List ℕ
line_front at i = place_front at ++ at_left 17 (words i)

-- the lines of these instructions
abbrev pub each_line : (ℕ → Instr → List ℕ) → List Instr → List ℕ
each_line line code = each_below (λ at. option_map_or (line at) (slice_get code at) []) (length code)

-- ---- of a source text

-- `def f`, `async`
unfoldable pub unit_name : Head → List ℕ
unit_name h = option_map_or (λ name. codes "def " ++ name) h.name (codes "async")

-- how many of a unit's first slots it takes from outside: an `async` all that are parameters, a method none
abbrev pub taken : Head → ℕ → ℕ
taken h params = option_map_or (λ name. 0) h.name params

-- `  3:5  `
unfoldable pub head_place : List ℕ → ℕ → List ℕ
head_place text at = codes "  " ++ (place_title (position_of text (min at (length text))) ++ codes "  ")

-- `slots 0:c 1:me 2:p`
unfoldable pub unit_slots : UnitOrigins → UnitValue → List ℕ
unit_slots o u = slots_field o.slots (taken o.head (length u.params)) u.slots

-- `unit 1  async  3:5  slots 0:c 1:me 2:p`
unfoldable pub source_head : List ℕ → UnitOrigins → ℕ → UnitValue → List ℕ
source_head text o unit u =
    (((unit_front unit ++ unit_name o.head) ++ head_place text o.head.at) ++ unit_slots o u) ++ codes "\n"

-- the field of the clocks, where their kinds are known
unfoldable pub kinds_field : List (List ℕ) → Tables → ℕ → ℕ → ℕ → List ℕ
kinds_field names kinds unit at slots = option_map_or (λ t. codes " " ++ at_left 25 (clocks_field names t unit at slots)) kinds []

-- `   2  advance            c:live|resumed|out         5:26`
unfoldable pub source_line : List ℕ → Tables → ℕ → UnitValue → UnitOrigins → ℕ → Instr → List ℕ
source_line text kinds unit u o at i = (line_front at i ++ kinds_field o.slots kinds unit at u.slots) ++ origin_field text o.offsets at

unfoldable pub source_unit : List ℕ → Tables → ℕ → UnitValue → UnitOrigins → List ℕ
source_unit text kinds unit u o =
    source_head text o unit u ++ each_line (source_line text kinds unit u o) u.code

-- ---- of a module alone

abbrev pub kind_word : UnitKind → List ℕ
kind_word unit_kind.Main = codes "main"
kind_word unit_kind.Method = codes "method"
kind_word unit_kind.Body = codes "body"

-- `n` for a number, `c` for a clock
abbrev pub param_letter : ParamKind → ℕ
param_letter param.Number = 110
param_letter param.Clock = 99

-- `  params cn`
abbrev pub params_field : List ParamKind → List ℕ
params_field [] = []
params_field (p ∷ ps) = codes "  params " ++ map param_letter (p ∷ ps)

-- `  slots 3`, and the end of the line
unfoldable pub slot_count : ℕ → List ℕ
slot_count n = codes "  slots " ++ (decimal n ++ codes "\n")

-- `unit 1  body  params cn  slots 3`
unfoldable pub module_head : ℕ → UnitValue → List ℕ
module_head unit u = (unit_front unit ++ kind_word u.kind) ++ (params_field u.params ++ slot_count u.slots)

-- words, and the clocks behind them if there are any
abbrev pub with_clocks : List ℕ → List ℕ → List ℕ
with_clocks words [] = words
with_clocks words (c ∷ cs) = at_left 17 words ++ (codes " " ++ (c ∷ cs))

unfoldable pub module_clocks : Tables → ℕ → ℕ → ℕ → List ℕ
module_clocks kinds unit at slots = option_map_or (λ t. clocks_field [] t unit at slots) kinds []

-- `   2  advance            0:live|resumed|out`
unfoldable pub module_line : Tables → ℕ → ℕ → ℕ → Instr → List ℕ
module_line kinds unit slots at i =
    (place_front at ++ with_clocks (words i) (module_clocks kinds unit at slots)) ++ codes "\n"

unfoldable pub module_unit : Tables → ℕ → UnitValue → List ℕ
module_unit kinds unit u = module_head unit u ++ each_line (module_line kinds unit u.slots) u.code

-- ---- programs

-- an empty line between units
abbrev pub gap : ℕ → List ℕ
gap zero = []
gap (suc n) = codes "\n"

-- a unit by its origins, if it has some
abbrev pub unit_lines : List ℕ → List UnitOrigins → Tables → ℕ → UnitValue → List ℕ
unit_lines text origins kinds unit u = option_map_or (source_unit text kinds unit u) (slice_get origins unit) (module_unit kinds unit u)

unfoldable pub unit_text : List ℕ → List UnitOrigins → Tables → ℕ → UnitValue → List ℕ
unit_text text origins kinds unit u = gap unit ++ unit_lines text origins kinds unit u

-- these units, where the kinds are these
abbrev pub units_text : List ℕ → List UnitOrigins → List UnitValue → Tables → List ℕ
units_text text origins units kinds = each_below (λ unit. option_map_or (unit_text text origins kinds unit) (slice_get units unit) []) (length units)

-- all units of a module
abbrev pub listing : List ℕ → List UnitOrigins → ModuleValue → Tables → List ℕ
listing text origins m kinds = units_text text origins m.units kinds

-- the listing has the kinds that walks come with
pub record ListsKinds (text : List ℕ) (origins : List UnitOrigins) (m : ModuleValue) (said : List ℕ) : Type 0 where
  pub tables : List (List (List KindsValue))
  pub are : AreKindTables m tables
  pub is : said ≡ listing text origins m (Some tables)

-- The listing of a module, whose units have these origins in a text: with kinds where its code has the shape, else without.
abbrev pub IsListing : List ℕ → List UnitOrigins → ModuleValue → List ℕ → Type 0
IsListing text origins m said =
    (HasShape m × ListsKinds text origins m said) ⊎ ((HasShape m → ⊥) × (said ≡ listing text origins m None))
