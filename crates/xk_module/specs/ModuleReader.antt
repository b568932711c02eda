-- Which module a JSON value names, as the reader finds out. The laws in `proofs/Modules` join it to the values of modules. This project's
-- own.
use Rattle.std.specs.Prelude.{◌≡◌, ℕ, ℤ, pos, negsuc, ◌^◌, ◌==◌, nat_lt, List, [], ◌∷◌, map, codes, Option, Some, None, option_map, option_and_then, Result, Ok, Err, String, string_bytes, ⊤, if◌then◌else◌}
use Rattle.std.specs.Str.{bytes_eq}
use Rattle.std.specs.declared.alloc.Global.{Global}
use Rattle.serde_json.specs.Data.{Num, unsigned, negative, float, Data, Items, no_items, item, Members, no_members, member}
use Rattle.serde_json.specs.Find.{as_number, as_str, as_array, as_object, as_u64}
use Rattle.serde_json.specs.View.{view}
use Rattle.serde_json.specs.declared.value.Value.{Value}
use Rattle.xk_types.specs.declared.instr.Comparison.{Comparison}
use Rattle.xk_types.specs.declared.instr.Comparison.TheVariants as comparison
use Rattle.xk_types.specs.declared.instr.Instr.{Instr}
use Rattle.xk_types.specs.declared.instr.Instr.TheVariants as instr
use Rattle.xk_types.specs.declared.unit.UnitKind.{UnitKind}
use Rattle.xk_types.specs.declared.unit.UnitKind.TheVariants as unit_kind
use Rattle.xk_types.specs.declared.unit.ParamKind.{ParamKind}
use Rattle.xk_types.specs.declared.unit.ParamKind.TheVariants as param_kind
use Rattle.xk_types.specs.Code.{UnitValue, ModuleValue, module_of}
use Rattle.xk_module.specs.declared.version.Version.{Version}
use Rattle.xk_module.specs.declared.version.Version.TheVariants as version
use Rattle.xk_module.specs.ModuleText.{knows}
use Rattle.xk_module.specs.declared.fault.Refusal.{Refusal}
use Rattle.xk_module.specs.declared.fault.Refusal.TheVariants as refusal

infixl 10 ◌>>=◌
abbrev pub ◌>>=◌ : {A B : Type 0} → Option A → (A → Option B) → Option B
o >>= f = option_and_then f o

-- What a function returned, seen by `seen`, is what is named. Where memory was refused, nothing is said.
abbrev pub Refuses : {Y : Type 0} → Refusal → Option Y → Type 0
Refuses refusal.Unfit named = named ≡ None
Refuses refusal.Memory named = ⊤

abbrev pub Gives : {X Y : Type 0} → (X → Y) → Result X Refusal → Option Y → Type 0
Gives seen (Ok x) named = named ≡ Some (seen x)
Gives seen (Err e) named = Refuses e named

-- ---- JSON

abbrev pub listed : Items → List Data
listed no_items = []
listed (item d ds) = d ∷ listed ds

abbrev pub listed_members : Members → List (List ℕ × Data)
listed_members no_members = []
listed_members (member k d ms) = (k, d) ∷ listed_members ms

-- the same of what a `Value` has inside
abbrev pub views : List Value → List Data
views values = map view values

abbrev pub member_views : List (String Global × Value) → List (List ℕ × Data)
member_views members = map (λ m. (string_bytes m.0, view m.1)) members

abbrev pub array_at : Data → Option (List Data)
array_at d = option_map listed (as_array d)

abbrev pub object_at : Data → Option (List (List ℕ × Data))
object_at d = option_map listed_members (as_object d)

-- the value of the first member, which has this key, and the members after it
abbrev pub field_at : List ℕ → List (List ℕ × Data) → Option (Data × List (List ℕ × Data))
field_at key [] = None
field_at key (m ∷ ms) = if bytes_eq m.0 key then Some (m.1, ms) else None

abbrev pub end_at : {A : Type 0} → List A → Option ⊤
end_at [] = Some tt
end_at (x ∷ xs) = None

-- 0 to 65,535
unfoldable pub word_at : Data → Option ℕ
word_at d = do
  number ← as_number d
  n ← as_u64 number
  if nat_lt n (2 ^ 16) then Some n else None

abbrev pub long_of : Num → Option ℤ
long_of (unsigned n) = if nat_lt n (2 ^ 63) then Some (pos n) else None
long_of (negative (pos n)) = None
long_of (negative (negsuc n)) = if nat_lt n (2 ^ 63) then Some (negsuc n) else None
long_of (float x) = None

-- 64 bits, signed
unfoldable pub long_at : Data → Option ℤ
long_at d = do
  number ← as_number d
  long_of number

-- each of a list
abbrev pub each : {A B : Type 0} → (A → Option B) → List A → Option (List B)
each f [] = Some []
each f (x ∷ xs) = do
  y ← f x
  ys ← each f xs
  Some (y ∷ ys)

-- each element of an array
abbrev pub elements_at : {A : Type 0} → (Data → Option A) → Data → Option (List A)
elements_at f d = do
  values ← array_at d
  each f values

-- ---- instructions

-- a slot and a number
unfoldable pub lit_at : List Data → Option (ℕ × ℤ)
lit_at (a ∷ b ∷ []) = do
  d ← word_at a
  n ← long_at b
  Some (d, n)
lit_at _ = None

abbrev pub comparison_of : List ℕ → Option Comparison
comparison_of name =
    if bytes_eq name (codes "eq") then Some comparison.Eq
    else if bytes_eq name (codes "ne") then Some comparison.Ne
    else if bytes_eq name (codes "lt") then Some comparison.Lt
    else if bytes_eq name (codes "le") then Some comparison.Le
    else if bytes_eq name (codes "gt") then Some comparison.Gt
    else if bytes_eq name (codes "ge") then Some comparison.Ge
    else None

unfoldable pub comparison_at : Data → Option Comparison
comparison_at d = do
  name ← as_str d
  comparison_of name

-- a comparison, two slots and a place
unfoldable pub unless_at : List Data → Option (Comparison × ℕ × ℕ × ℕ)
unless_at (a ∷ b ∷ c ∷ d ∷ []) = do
  op ← comparison_at a
  x ← word_at b
  y ← word_at c
  t ← word_at d
  Some (op, x, y, t)
unless_at _ = None

-- a slot, two bounds and a place
unfoldable pub for_at : List Data → Option (ℕ × ℤ × ℤ × ℕ)
for_at (a ∷ b ∷ c ∷ d ∷ []) = do
  k ← word_at a
  lo ← long_at b
  hi ← long_at c
  e ← word_at d
  Some (k, lo, hi, e)
for_at _ = None

-- a slot, a bound, the slot of a limit, a bound and a place
unfoldable pub forto_at : List Data → Option (ℕ × ℤ × ℕ × ℤ × ℕ)
forto_at (a ∷ b ∷ c ∷ d ∷ f ∷ []) = do
  k ← word_at a
  lo ← long_at b
  x ← word_at c
  hi ← long_at d
  e ← word_at f
  Some (k, lo, x, hi, e)
forto_at _ = None

-- a unit that is run, and the slots of an array
unfoldable pub run_at : List Data → Option (ℕ × List ℕ)
run_at (a ∷ b ∷ []) = do
  t ← word_at a
  values ← array_at b
  args ← each word_at values
  Some (t, args)
run_at _ = None

-- the instruction of this name that has no operand
unfoldable pub instr_of_none : List ℕ → Option Instr
instr_of_none name =
    if bytes_eq name (codes "advance") then Some instr.Advance
    else if bytes_eq name (codes "ret") then Some instr.Ret
    else None

-- the instruction of this name with this slot or place
unfoldable pub instr_of_one : List ℕ → ℕ → Option Instr
instr_of_one name x =
    if bytes_eq name (codes "jump") then Some (instr.Jump x)
    else if bytes_eq name (codes "next") then Some (instr.Next x)
    else if bytes_eq name (codes "finish") then Some (instr.Finish x)
    else if bytes_eq name (codes "endfinish") then Some (instr.EndFinish x)
    else if bytes_eq name (codes "print") then Some (instr.Print x)
    else if bytes_eq name (codes "make") then Some (instr.Make x)
    else if bytes_eq name (codes "resume") then Some (instr.Resume x)
    else if bytes_eq name (codes "drop") then Some (instr.Drop x)
    else None

-- the instruction of this name with these two slots, or with a slot and a shared number
unfoldable pub instr_of_two : List ℕ → ℕ → ℕ → Option Instr
instr_of_two name x y =
    if bytes_eq name (codes "copy") then Some (instr.Copy x y)
    else if bytes_eq name (codes "get") then Some (instr.Get x y)
    else if bytes_eq name (codes "put") then Some (instr.Put x y)
    else if bytes_eq name (codes "addto") then Some (instr.AddTo x y)
    else None

-- the instruction of this name with these slots
unfoldable pub instr_of_three : List ℕ → ℕ → ℕ → ℕ → Option Instr
instr_of_three name x y z =
    if bytes_eq name (codes "add") then Some (instr.Add x y z)
    else if bytes_eq name (codes "sub") then Some (instr.Sub x y z)
    else if bytes_eq name (codes "mul") then Some (instr.Mul x y z)
    else None

-- the instruction of this name whose operands are all slots, shared numbers or places
unfoldable pub instr_of_words : List ℕ → List Data → Option Instr
instr_of_words name [] = instr_of_none name
instr_of_words name (a ∷ []) = do
  x ← word_at a
  instr_of_one name x
instr_of_words name (a ∷ b ∷ []) = do
  x ← word_at a
  y ← word_at b
  instr_of_two name x y
instr_of_words name (a ∷ b ∷ c ∷ []) = do
  x ← word_at a
  y ← word_at b
  z ← word_at c
  instr_of_three name x y z
instr_of_words _ _ = None

-- the instruction of this name with these operands, where it runs no unit
unfoldable pub instr_without_args : List ℕ → List Data → Option Instr
instr_without_args name operands =
    if bytes_eq name (codes "lit") then (lit_at operands >>= λ x. Some (instr.Lit x.0 x.1))
    else if bytes_eq name (codes "unless") then (unless_at operands >>= λ x. Some (instr.Unless x.0 x.1 x.2 x.3))
    else if bytes_eq name (codes "for") then (for_at operands >>= λ x. Some (instr.For x.0 x.1 x.2 x.3))
    else if bytes_eq name (codes "forto") then (forto_at operands >>= λ x. Some (instr.ForTo x.0 x.1 x.2 x.3 x.4))
    else instr_of_words name operands

-- the instruction of this name with these operands
unfoldable pub instr_of : List ℕ → List Data → Option Instr
instr_of name operands =
    if bytes_eq name (codes "call") then (run_at operands >>= λ x. Some (instr.Call x.0 x.1))
    else if bytes_eq name (codes "spawn") then (run_at operands >>= λ x. Some (instr.Spawn x.0 x.1))
    else instr_without_args name operands

abbrev pub head_at : {A : Type 0} → List A → Option (A × List A)
head_at [] = None
head_at (x ∷ xs) = Some (x, xs)

unfoldable pub name_and_operands_at : Data → Option (List ℕ × List Data)
name_and_operands_at d = do
  values ← array_at d
  parts ← head_at values
  name ← as_str parts.0
  Some (name, parts.1)

unfoldable pub instr_at : Data → Option Instr
instr_at d = do
  parts ← name_and_operands_at d
  instr_of parts.0 parts.1

-- ---- units and modules

abbrev pub kind_of : List ℕ → Option UnitKind
kind_of name =
    if bytes_eq name (codes "main") then Some unit_kind.Main
    else if bytes_eq name (codes "method") then Some unit_kind.Method
    else if bytes_eq name (codes "body") then Some unit_kind.Body
    else None

unfoldable pub kind_at : Data → Option UnitKind
kind_at d = do
  name ← as_str d
  kind_of name

abbrev pub param_at : ℕ → Option ParamKind
param_at letter = if letter == 110 then Some param_kind.Number else if letter == 99 then Some param_kind.Clock else None

unfoldable pub params_at : Data → Option (List ParamKind)
params_at d = do
  letters ← as_str d
  each param_at letters

unfoldable pub code_at : Data → Option (List Instr)
code_at d = elements_at instr_at d

-- the values of the members of a unit, in the order of their keys
unfoldable pub unit_members_at : Data → Option (Data × Data × Data × Data)
unit_members_at d = do
  members ← object_at d
  code ← field_at (codes "code") members
  kind ← field_at (codes "kind") code.1
  params ← field_at (codes "params") kind.1
  slots ← field_at (codes "slots") params.1
  _ ← end_at slots.1
  Some (code.0, kind.0, params.0, slots.0)

unfoldable pub unit_at : Data → Option UnitValue
unit_at d = do
  members ← unit_members_at d
  kind ← kind_at members.1
  slots ← word_at members.3
  params ← params_at members.2
  code ← code_at members.0
  Some (record { kind = kind; params = params; slots = slots; code = code })

unfoldable pub version_at : Data → Option Version
version_at d = do
  number ← as_number d
  n ← as_u64 number
  if n == 1 then Some version.One else if n == 2 then Some version.Two else None

unfoldable pub shared_at : Data → Option (List ℤ)
shared_at d = elements_at long_at d

unfoldable pub units_at : Data → Option (List UnitValue)
units_at d = elements_at unit_at d

-- the values of the members of a module, the version as what it is
unfoldable pub module_members_at : Data → Option (Data × Data × Version)
module_members_at d = do
  members ← object_at d
  shared ← field_at (codes "shared") members
  units ← field_at (codes "units") shared.1
  number ← field_at (codes "version") units.1
  _ ← end_at number.1
  version ← version_at number.0
  Some (shared.0, units.0, version)

-- the module, limits left out
unfoldable pub module_at : Data → Option ModuleValue
module_at d = do
  members ← module_members_at d
  shared ← shared_at members.0
  units ← units_at members.1
  if knows members.2 units then Some (module_of shared units) else None
