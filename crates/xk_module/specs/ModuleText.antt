-- Module text: which JSON values each module has, one in each version that can say it. The format is this project's own.
use Rattle.std.specs.Prelude.{◌≡◌, ℕ, ℤ, ◌^◌, ◌<◌, ◌==◌, ◌||◌, not, Bool, true, false, List, [], ◌∷◌, length, map, codes, Some, IsUtf8, FitsSigned, if◌then◌else◌}
use Rattle.std.specs.Int.{w64}
use Rattle.std.specs.List.{AllByRecursion, list_any}
use Rattle.serde_json.specs.Data.{Data, number, string, array, object, unsigned, Members, no_members, member}
use Rattle.serde_json.specs.Find.{of_integer}
use Rattle.serde_json.specs.Read.{read}
use Rattle.serde_json.specs.View.{items_of}
use Rattle.xk_types.specs.declared.instr.Comparison.{Comparison}
use Rattle.xk_types.specs.declared.instr.Comparison.TheVariants as comparison
use Rattle.xk_types.specs.declared.instr.Instr.{Instr}
use Rattle.xk_types.specs.declared.instr.Instr.TheVariants as instr
use Rattle.xk_types.specs.declared.unit.UnitKind.{UnitKind}
use Rattle.xk_types.specs.declared.unit.UnitKind.TheVariants as unit_kind
use Rattle.xk_types.specs.declared.unit.ParamKind.{ParamKind}
use Rattle.xk_types.specs.declared.unit.ParamKind.TheVariants as param_kind
use Rattle.xk_types.specs.Code.{UnitValue, ModuleValue}
use Rattle.xk_module.specs.declared.version.Version.{Version}
use Rattle.xk_module.specs.declared.version.Version.TheVariants as version

-- ---- values

-- a whole number of 64 bits, signed
abbrev pub long : ℤ → Data
long z = number (of_integer z)

-- a whole number that isn't negative, as of a slot, a unit or a place in the code
abbrev pub word : ℕ → Data
word n = number (unsigned n)

abbrev pub array_of : List Data → Data
array_of values = array (items_of values)

abbrev pub members_of : List (List ℕ × Data) → Members
members_of [] = no_members
members_of (m ∷ ms) = member m.0 m.1 (members_of ms)

-- an object with these keys, which stand in order
abbrev pub object_of : List (List ℕ × Data) → Data
object_of members = object (members_of members)

-- ---- modules

abbrev pub comparison_name : Comparison → List ℕ
comparison_name comparison.Eq = codes "eq"
comparison_name comparison.Ne = codes "ne"
comparison_name comparison.Lt = codes "lt"
comparison_name comparison.Le = codes "le"
comparison_name comparison.Gt = codes "gt"
comparison_name comparison.Ge = codes "ge"

-- an instruction's name, then its operands in order
abbrev pub named : List ℕ → List Data → Data
named name operands = array_of (string name ∷ operands)

abbrev pub instr_value : Instr → Data
instr_value (instr.Lit d n) = named (codes "lit") (word d ∷ long n ∷ [])
instr_value (instr.Copy d a) = named (codes "copy") (word d ∷ word a ∷ [])
instr_value (instr.Add d a b) = named (codes "add") (word d ∷ word a ∷ word b ∷ [])
instr_value (instr.Sub d a b) = named (codes "sub") (word d ∷ word a ∷ word b ∷ [])
instr_value (instr.Mul d a b) = named (codes "mul") (word d ∷ word a ∷ word b ∷ [])
instr_value (instr.Unless op a b t) = named (codes "unless") (string (comparison_name op) ∷ word a ∷ word b ∷ word t ∷ [])
instr_value (instr.Jump t) = named (codes "jump") (word t ∷ [])
instr_value (instr.For k lo hi e) = named (codes "for") (word k ∷ long lo ∷ long hi ∷ word e ∷ [])
instr_value (instr.ForTo k lo x hi e) = named (codes "forto") (word k ∷ long lo ∷ word x ∷ long hi ∷ word e ∷ [])
instr_value (instr.Next b) = named (codes "next") (word b ∷ [])
instr_value (instr.Finish e) = named (codes "finish") (word e ∷ [])
instr_value (instr.EndFinish b) = named (codes "endfinish") (word b ∷ [])
instr_value (instr.Get d s) = named (codes "get") (word d ∷ word s ∷ [])
instr_value (instr.Put s a) = named (codes "put") (word s ∷ word a ∷ [])
instr_value (instr.AddTo s a) = named (codes "addto") (word s ∷ word a ∷ [])
instr_value (instr.Print a) = named (codes "print") (word a ∷ [])
instr_value (instr.Make k) = named (codes "make") (word k ∷ [])
instr_value (instr.Resume k) = named (codes "resume") (word k ∷ [])
instr_value (instr.Drop k) = named (codes "drop") (word k ∷ [])
instr_value instr.Advance = named (codes "advance") []
instr_value (instr.Call t args) = named (codes "call") (word t ∷ array_of (map word args) ∷ [])
instr_value (instr.Spawn t args) = named (codes "spawn") (word t ∷ array_of (map word args) ∷ [])
instr_value instr.Ret = named (codes "ret") []

abbrev pub kind_value : UnitKind → Data
kind_value unit_kind.Main = string (codes "main")
kind_value unit_kind.Method = string (codes "method")
kind_value unit_kind.Body = string (codes "body")

-- the letter of a parameter: `n` or `c`
abbrev pub letter : ParamKind → ℕ
letter param_kind.Number = 110
letter param_kind.Clock = 99

abbrev pub unit_value : UnitValue → Data
unit_value u = object_of
    ((codes "code", array_of (map instr_value u.code))
    ∷ (codes "kind", kind_value u.kind)
    ∷ (codes "params", string (map letter u.params))
    ∷ (codes "slots", word u.slots)
    ∷ [])

-- ---- versions

abbrev pub version_number : Version → ℕ
version_number version.One = 1
version_number version.Two = 2

abbrev pub is_forto : Instr → Bool
is_forto (instr.ForTo k lo x hi e) = true
is_forto _ = false

-- one of these units has a `forto`
abbrev pub has_forto : List UnitValue → Bool
has_forto units = list_any (λ u. list_any is_forto u.code) units

-- main, the first of these units, has parameters
abbrev pub takes_arguments : List UnitValue → Bool
takes_arguments [] = false
takes_arguments (u ∷ us) = not (length u.params == 0)

-- a text of the version can have these units
abbrev pub knows : Version → List UnitValue → Bool
knows version.One units = not (has_forto units)
knows version.Two units = true

-- the version that a module is written in
abbrev pub version_of : ModuleValue → Version
version_of m = if has_forto m.units || takes_arguments m.units then version.Two else version.One

-- the JSON value of a module in a version
abbrev pub module_value_in : Version → ModuleValue → Data
module_value_in v m = object_of
    ((codes "shared", array_of (map long m.shared))
    ∷ (codes "units", array_of (map unit_value m.units))
    ∷ (codes "version", word (version_number v))
    ∷ [])

-- the JSON value that is written of a module
abbrev pub module_value : ModuleValue → Data
module_value m = module_value_in (version_of m) m

-- ---- ranges

-- 0 to 65,535
abbrev pub IsWord : ℕ → Type 0
IsWord n = n < 2 ^ 16

-- 64 bits, signed
abbrev pub IsLong : ℤ → Type 0
IsLong z = FitsSigned w64 z

abbrev pub IsInstrInRange : Instr → Type 0
IsInstrInRange (instr.Lit d n) = IsWord d × IsLong n
IsInstrInRange (instr.Copy d a) = IsWord d × IsWord a
IsInstrInRange (instr.Add d a b) = IsWord d × IsWord a × IsWord b
IsInstrInRange (instr.Sub d a b) = IsWord d × IsWord a × IsWord b
IsInstrInRange (instr.Mul d a b) = IsWord d × IsWord a × IsWord b
IsInstrInRange (instr.Unless op a b t) = IsWord a × IsWord b × IsWord t
IsInstrInRange (instr.Jump t) = IsWord t
IsInstrInRange (instr.For k lo hi e) = IsWord k × IsLong lo × IsLong hi × IsWord e
IsInstrInRange (instr.ForTo k lo x hi e) = IsWord k × IsLong lo × IsWord x × IsLong hi × IsWord e
IsInstrInRange (instr.Next b) = IsWord b
IsInstrInRange (instr.Finish e) = IsWord e
IsInstrInRange (instr.EndFinish b) = IsWord b
IsInstrInRange (instr.Get d s) = IsWord d × IsWord s
IsInstrInRange (instr.Put s a) = IsWord s × IsWord a
IsInstrInRange (instr.AddTo s a) = IsWord s × IsWord a
IsInstrInRange (instr.Print a) = IsWord a
IsInstrInRange (instr.Make k) = IsWord k
IsInstrInRange (instr.Resume k) = IsWord k
IsInstrInRange (instr.Drop k) = IsWord k
IsInstrInRange instr.Advance = Unit {0}
IsInstrInRange (instr.Call t args) = IsWord t × AllByRecursion IsWord args
IsInstrInRange (instr.Spawn t args) = IsWord t × AllByRecursion IsWord args
IsInstrInRange instr.Ret = Unit {0}

pub record IsUnitInRange (u : UnitValue) : Type 0 where
  pub slots : IsWord u.slots
  pub code : AllByRecursion IsInstrInRange u.code

pub record IsInRange (m : ModuleValue) : Type 0 where
  pub shared : AllByRecursion IsLong m.shared
  pub units : AllByRecursion IsUnitInRange m.units

-- ---- the relation between values and modules, limits left out

pub record Names (d : Data) (m : ModuleValue) : Type 0 where
  pub version : Version
  pub known : knows version m.units ≡ true
  pub value : d ≡ module_value_in version m
  pub range : IsInRange m

-- the bytes are a text of this JSON value, in UTF-8
pub record IsText (bytes : List ℕ) (d : Data) : Type 0 where
  pub utf8 : IsUtf8 bytes
  pub value : read bytes ≡ Some d

-- the bytes are a JSON text
abbrev pub IsJson : List ℕ → Type 0
IsJson bytes = (d : Data) × IsText bytes d

-- the bytes are a text of the module, within the limits or not
abbrev pub IsModuleText : List ℕ → ModuleValue → Type 0
IsModuleText bytes m = (d : Data) × IsText bytes d × Names d m
