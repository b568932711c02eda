-- The program that bytes give: its module, and where its instructions come from. This project's own.
use Rattle.std.specs.Prelude.{◌≡◌, ℕ, Bool, true, List, [], map, Option, Some, None}
use Rattle.xk_types.specs.Code.{ModuleValue}
use Rattle.xk_tree.specs.Tree.{TreeValue}
use Rattle.xk_tree.specs.declared.fault.FrontFault.{FrontFault}
use Rattle.xk_names.specs.Captures.{shared_texts}
use Rattle.xk_unit_origins.specs.UnitOrigins.{UnitOrigins}
use Rattle.xk_origins.specs.Laws.{AreOrigins}
use Rattle.xk_jobs.specs.declared.job.Form.{Form}
use Rattle.xk_jobs.specs.declared.job.Form.TheVariants as form
use Rattle.xk_program.specs.declared.program_loader.Provenance.{Provenance}
use Rattle.xk_program.specs.Programs.{GiveNone, Gives, IsNoSource, IsNoText, IsSource}

-- ---- where instructions come from

-- Where the instructions come from of the module that the bytes give: of a source text by the tree that it spells. A module text says nothing of that.
-- (Nor do bytes that are no source text of a module, but those give none.)
abbrev pub HaveOrigins : Form → List ℕ → Option (List UnitOrigins) → Type 0
HaveOrigins form.Module bytes origins = origins ≡ None
HaveOrigins form.Source bytes (Some origins) = (tree : TreeValue) × IsSource bytes tree × AreOrigins tree origins
HaveOrigins form.Source bytes None = (f : FrontFault) × IsNoSource bytes f

-- What the shared numbers are called of the module that the bytes give, in the order of their numbers: of a source text by the tree that
-- it spells. A module text says nothing of that.
abbrev pub HaveSharedNames : Form → List ℕ → List (List ℕ) → Type 0
HaveSharedNames form.Module bytes names = names ≡ []
HaveSharedNames form.Source bytes names = (tree : TreeValue) × IsSource bytes tree × (names ≡ shared_texts tree.shared)

-- The text is these bytes, and where origins were asked for they are those of the module that the bytes give, and so are the names.
abbrev pub IsFrom : Bool → Form → List ℕ → Provenance → Type 0
IsFrom has_origins kind bytes from = (from.text.now ≡ bytes)
    × (has_origins ≡ true → HaveOrigins kind bytes from.origins × HaveSharedNames kind bytes (map (λ x. x.now) from.shared.items))

-- what is told is a function of these
abbrev pub IsByOrigins : {X : Type 0} → Form → List ℕ → (Option (List UnitOrigins) → X) → X → Type 0
IsByOrigins kind bytes text told = (origins : Option (List UnitOrigins)) × HaveOrigins kind bytes origins × (told ≡ text origins)

-- what is told is a function of these and of the names of shared numbers
abbrev pub IsByNames : {X : Type 0} → Form → List ℕ → (List (List ℕ) → Option (List UnitOrigins) → X) → X → Type 0
IsByNames kind bytes text told = (shared : List (List ℕ)) × HaveSharedNames kind bytes shared × IsByOrigins kind bytes (text shared) told

-- A program: its module, and where its instructions come from.
abbrev pub Program : Type 0
Program = ModuleValue × Option (List UnitOrigins)

-- the bytes give this program, or none
abbrev pub GiveProgram : Form → List ℕ → Option Program → Type 0
GiveProgram kind bytes (Some p) = Gives kind bytes p.0 × HaveOrigins kind bytes p.1
GiveProgram kind bytes None = GiveNone kind bytes

-- what is told is a function of that
abbrev pub IsByProgram : Form → List ℕ → (Option Program → List ℕ) → List ℕ → Type 0
IsByProgram kind bytes text told = (p : Option Program) × GiveProgram kind bytes p × (told ≡ text p)

-- the bytes are a source text of this tree, or spell none
abbrev pub HaveTree : List ℕ → Option TreeValue → Type 0
HaveTree bytes (Some tree) = IsSource bytes tree
HaveTree bytes None = (f : FrontFault) × IsNoText bytes f

-- what is told is a function of the tree
abbrev pub IsByTree : List ℕ → (Option TreeValue → List ℕ) → List ℕ → Type 0
IsByTree bytes text told = (tree : Option TreeValue) × HaveTree bytes tree × (told ≡ text tree)
