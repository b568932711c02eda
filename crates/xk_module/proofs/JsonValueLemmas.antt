-- The values of modules: they have no floats and nest little, so that their text is read back to them.
use Rattle.std.proofs.Common.{◌≡◌, ℕ, ◌≤◌, ℤ, pos, negsuc, Bool, true, false, not, ◌||◌, cond, List, [], ◌∷◌, ◌++◌, map, String, string_bytes, Some, refl, sym, ap, ◌∙◌, subst, arith}
use Rattle.std.specs.List.{AllByRecursion}
use Rattle.std.specs.declared.alloc.Global.{Global}
use Rattle.std.proofs.lemmas.Str.{IsUtf8-string_bytes}
use Rattle.serde_json.specs.Data.{Data, depth, items_depth}
use Rattle.serde_json.specs.Read.{read, max_depth}
use Rattle.serde_json.specs.View.{items_of}
use Rattle.serde_json.specs.Written.{has_float, compact_text}
use Rattle.serde_json.specs.declared.value.Value.{Value}
use Rattle.xk_types.specs.declared.instr.Instr.{Instr}
use Rattle.xk_types.specs.declared.instr.Instr.TheVariants as instr
use Rattle.xk_types.specs.declared.unit.UnitKind.{UnitKind}
use Rattle.xk_types.specs.declared.unit.UnitKind.TheVariants as unit_kind
use Rattle.xk_types.specs.Code.{UnitValue, ModuleValue}
use Rattle.xk_module.specs.declared.version.Version.{Version}
use Rattle.xk_module.specs.declared.version.Version.TheVariants as version
use Rattle.xk_module.specs.ModuleReader.{views}
use Rattle.xk_module.specs.ModuleText.{long, word, array_of, instr_value, kind_value, unit_value, has_forto, takes_arguments, knows, version_of, module_value, IsInRange, Names, IsModuleText}
use Rattle.xk_module.proofs.ModuleLemmas.{named_once}

-- ---- no floats

array_no_float : {A : Type 0} (value : A → Data) → ((x : A) → has_float (value x) ≡ false) → (xs : List A) → has_float (array_of (map value xs)) ≡ false
array_no_float value none [] = refl
array_no_float value none (x ∷ xs) = rw (none x) (array_no_float value none xs)

long_no_float : (z : ℤ) → has_float (long z) ≡ false
long_no_float (pos n) = refl
long_no_float (negsuc n) = refl

words_no_float : (xs : List ℕ) → has_float (array_of (map word xs)) ≡ false
words_no_float xs = array_no_float word (λ x. refl) xs

instr_no_float : (i : Instr) → has_float (instr_value i) ≡ false
instr_no_float (instr.Lit d n) = rw (long_no_float n) refl
instr_no_float (instr.For k lo hi e) = rw (long_no_float lo, long_no_float hi) refl
instr_no_float (instr.ForTo k lo x hi e) = rw (long_no_float lo, long_no_float hi) refl
instr_no_float (instr.Call t args) = rw (words_no_float args) refl
instr_no_float (instr.Spawn t args) = rw (words_no_float args) refl
instr_no_float _ = refl

kind_no_float : (k : UnitKind) → has_float (kind_value k) ≡ false
kind_no_float unit_kind.Main = refl
kind_no_float unit_kind.Method = refl
kind_no_float unit_kind.Body = refl

unit_no_float : (u : UnitValue) → has_float (unit_value u) ≡ false
unit_no_float u = rw (array_no_float instr_value instr_no_float u.code, kind_no_float u.kind) refl

module_no_float : (m : ModuleValue) → has_float (module_value m) ≡ false
module_no_float m = rw (array_no_float long long_no_float m.shared, array_no_float unit_value unit_no_float m.units) refl

-- ---- how deep they nest

items_depth-most : {A : Type 0} (value : A → Data) (most : ℕ) → ((x : A) → depth (value x) ≤ most) → (xs : List A) → items_depth (items_of (map value xs)) ≤ most
items_depth-most value most each [] = omega arith
items_depth-most value most each (x ∷ xs) = let first = each x in let others = items_depth-most value most each xs in omega arith

words_depth : (xs : List ℕ) → items_depth (items_of (map word xs)) ≤ 0
words_depth xs = items_depth-most word 0 (λ x. omega arith) xs

instr_depth : (i : Instr) → depth (instr_value i) ≤ 2
instr_depth (instr.Call t args) = let flat = words_depth args in omega arith
instr_depth (instr.Spawn t args) = let flat = words_depth args in omega arith
instr_depth _ = omega arith

kind_depth : (k : UnitKind) → depth (kind_value k) ≤ 0
kind_depth unit_kind.Main = omega arith
kind_depth unit_kind.Method = omega arith
kind_depth unit_kind.Body = omega arith

unit_depth : (u : UnitValue) → depth (unit_value u) ≤ 4
unit_depth u = let code = items_depth-most instr_value 2 instr_depth u.code in let kind = kind_depth u.kind in omega arith

module_depth : (m : ModuleValue) → depth (module_value m) ≤ 6
module_depth m =
    let shared = items_depth-most long 0 (λ z. omega arith) m.shared in
    let units = items_depth-most unit_value 4 unit_depth m.units in
    omega arith

-- ---- elements of arrays

-- what is written so far, and what is left: then all is written, and its numbers are in range
pub record AreWritten {A : Type 0} (value : A → Data) (InRange : A → Type 0) (all : List A) (done : List Value) (rest : List A) : Type 0 where
  pub values : views done ++ map value rest ≡ map value all
  pub range : AllByRecursion InRange rest → AllByRecursion InRange all

-- ---- versions

-- the version that a module is written in can say it
written_known : (m : ModuleValue) → knows (version_of m) m.units ≡ true
written_known m = by (has_forto m.units) (takes_arguments m.units) refl
  where
    by : (b c : Bool) → has_forto m.units ≡ b → knows (cond (b || c) version.Two version.One) m.units ≡ true
    by true c e = refl
    by false true e = refl
    by false false e = ap not e

-- the value that is written names the module
pub value_named : (m : ModuleValue) → IsInRange m → Names (module_value m) m
value_named m range = record { version = version_of m; known = written_known m; value = refl; range = range }

-- without a `forto` each version can say it
pub known_without : (v : Version) (m : ModuleValue) → has_forto m.units ≡ false → knows v m.units ≡ true
known_without version.One m e = ap not e
known_without version.Two m e = refl

-- ---- texts

-- what is written for a module's value is its compact text
pub compact_of : (s : String Global) (d : Data) (m : ModuleValue) → d ≡ module_value m → (has_float d ≡ false → string_bytes s ≡ compact_text d)
    → string_bytes s ≡ compact_text (module_value m)
compact_of s d m value text = text (ap has_float value ∙ module_no_float m) ∙ ap compact_text value

-- and a text of the module
pub written_text : (s : String Global) (d : Data) (m : ModuleValue) → d ≡ module_value m → IsInRange m
    → (depth d ≤ max_depth → read (string_bytes s) ≡ Some d) → IsModuleText (string_bytes s) m
written_text s d m value range reads =
    let few : depth d ≤ max_depth = subst (λ (d : Data). depth d ≤ max_depth) (sym value) (let most = module_depth m in omega arith) in
    (d, record { utf8 = IsUtf8-string_bytes s; value = reads few }, record { version = version_of m; known = written_known m; value = value; range = range })

-- the value of a module is that of no other
pub named_alone : (m n : ModuleValue) → IsInRange m → Names (module_value m) n → n ≡ m
named_alone m n range names = named_once (module_value m) n m names (value_named m range)
