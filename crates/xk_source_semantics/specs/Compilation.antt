-- Which modules are the code of a program.
--
-- Which parts of a program have units, and how units are numbered, is this project's own choice.
use Rattle.std.specs.Prelude.{◌≡◌, ℕ, suc, ◌<◌, nat_eq, min, List, [], ◌∷◌, map, Option, Some, None, option_map, slice_get, codes, if◌then◌else◌}
use Rattle.xk_types.specs.declared.unit.UnitKind.{UnitKind}
use Rattle.xk_types.specs.declared.unit.UnitKind.TheVariants as unit_kind
use Rattle.xk_types.specs.Code.{UnitValue, ModuleValue}
use Rattle.xk_tree.specs.Tree.{Statement, MethodValue, SharedValue, TreeValue}
use Rattle.xk_names.specs.Scope.{find, is_text, Has}
use Rattle.xk_names.specs.Uses.{signatures}
use Rattle.xk_names.specs.Captures.{captures, shared_texts}
use Rattle.xk_emit.specs.CodeOf.{Body, Setting, body_at}
use Rattle.xk_emit.specs.Unit.{unit_of_method, unit_of_body}
use Rattle.xk_source_semantics.specs.PartGraph.{IsOrder}
use Rattle.xk_source_semantics.specs.Parts.{Part, OfMethod, OfBody, Run, parts, part_runs, place_of, method_among}

-- ---- the parts that have units

-- the part that is run: the first in the text of that name, or at that offset
pub record IsRun (t : TreeValue) (r : Run) (p : Part) : Type 0 where
  pub place : ℕ
  pub first : place_of (parts t) r ≡ Some place
  pub part : slice_get (parts t) place ≡ Some p

-- what a unit runs has a unit further on
pub record HasLater (t : TreeValue) (units : List Part) (k : ℕ) (r : Run) : Type 0 where
  pub number : ℕ
  pub later : k < number
  pub place : place_of units r ≡ Some number
  pub part : Part
  pub stands : slice_get units number ≡ Some part
  pub run : IsRun t r part

-- The parts of the program that have units, each once, in the order of these: `main` is the first, what the code of one runs is further on, and
-- there are no others.
pub record AreUnits (t : TreeValue) (units : List Part) : Type 0 where
  pub order : List ℕ
  pub is_order : IsOrder t order
  pub are : map Some units ≡ map (slice_get (parts t)) order
  pub main : MethodValue
  pub named : main.name.text ≡ codes "main"
  pub first : slice_get units 0 ≡ Some (OfMethod main)
  pub within : (k : ℕ) (p : Part) → slice_get units k ≡ Some p → Has (parts t) p
  pub once : (j k : ℕ) (p : Part) → slice_get units j ≡ Some p → slice_get units k ≡ Some p → j ≡ k
  pub closed : (k : ℕ) (p : Part) (r : Run) → slice_get units k ≡ Some p → Has (part_runs p) r → HasLater t units k r

-- ---- their code

-- the number of a unit; those beyond the limit aren't told apart, since such a program has no module
abbrev pub unit_number : ℕ → ℕ
unit_number k = min k 1024

-- the place of the first shared number of the name, where the first of these has number i
abbrev pub shared_among : ℕ → List SharedValue → List ℕ → Option ℕ
shared_among i [] x = None
shared_among i (s ∷ ss) x = if is_text x s.name.text then Some i else shared_among (suc i) ss x

-- the names of the numbers that a body takes from outside
abbrev pub taken : TreeValue → Statement → List (List ℕ)
taken t s = captures (signatures t.methods) (shared_texts t.shared) s

-- the first body whose `async` stands there, with its unit, where the first of these has number i
abbrev pub settled_body : TreeValue → ℕ → List Part → ℕ → Option Body
settled_body t i [] at = None
settled_body t i (OfMethod m ∷ ps) at = settled_body t (suc i) ps at
settled_body t i (OfBody a cs s ∷ ps) at = if nat_eq at a then Some (record { unit = unit_number i; captures = taken t s }) else settled_body t (suc i) ps at

-- what code refers to, where these parts have the units
pub record IsSetting (t : TreeValue) (units : List Part) (cx : Setting) : Type 0 where
  pub shared : (x : List ℕ) → find cx.shared x ≡ shared_among 0 t.shared x
  pub methods : (x : List ℕ) → find cx.methods x ≡ option_map unit_number (method_among 0 units x)
  pub bodies : (at : ℕ) → body_at cx at ≡ settled_body t 0 units at

abbrev pub method_kind : MethodValue → UnitKind
method_kind m = if is_text m.name.text (codes "main") then unit_kind.Main else unit_kind.Method

abbrev pub unit_of_part : Setting → Part → UnitValue
unit_of_part cx (OfMethod m) = unit_of_method cx (method_kind m) m
unit_of_part cx (OfBody at cs s) = unit_of_body cx at cs s

-- the module is the code of the program
pub record IsCompiled (t : TreeValue) (m : ModuleValue) : Type 0 where
  pub units : List Part
  pub setting : Setting
  pub are_units : AreUnits t units
  pub is_setting : IsSetting t units setting
  pub shared : m.shared ≡ map (λ s. s.start.value) t.shared
  pub code : m.units ≡ map (unit_of_part setting) units
