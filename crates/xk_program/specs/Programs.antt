-- What program the bytes of FILE give: a module, or why there is none. This project's own.
use Rattle.std.specs.Prelude.{◌≡◌, ◌≢◌, ◌<◌, ◌≤◌, ◌⊎◌, ℕ, ⊤, List, length, IsUtf8}
use Rattle.std.specs.Str.{IsValidUpTo}
use Rattle.xk_types.specs.Code.{ModuleValue, IsWithinLimits}
use Rattle.xk_module.specs.ModuleText.{IsJson, IsModuleText}
use Rattle.xk_module.specs.declared.fault.ModuleFault.{ModuleFault}
use Rattle.xk_module.specs.declared.fault.ModuleFault.TheVariants as text
use Rattle.xk_tree.specs.Tree.{TreeValue}
use Rattle.xk_tree.specs.declared.fault.FrontError.{FrontError}
use Rattle.xk_tree.specs.declared.fault.FrontError.TheVariants as error
use Rattle.xk_tree.specs.declared.fault.FrontFault.{FrontFault}
use Rattle.xk_tree.specs.declared.fault.FrontRule.TheVariants as rule
use Rattle.xk_syntax.specs.Spelling.{SpellsTree}
use Rattle.xk_syntax.specs.Faults.{IsTextRule}
use Rattle.xk_source_semantics.specs.Compilation.{IsCompiled}
use Rattle.xk_codegen.specs.Faults.{IsFaultOf, IsClean, IsFalling}
use Rattle.xk_jobs.specs.declared.job.Form.{Form}
use Rattle.xk_jobs.specs.declared.job.Form.TheVariants as form

-- ---- module texts

-- the most bytes that a module's text has: more than twice what the greatest module's text has without white space
abbrev pub longest_module : ℕ
longest_module = 268435456

-- why bytes, which aren't too many, are no module within the limits; want of memory is no reason
abbrev pub IsUnread : List ℕ → ModuleFault → Type 0
IsUnread bytes text.NotJson = ¬ IsJson bytes
IsUnread bytes text.NotAModule = IsJson bytes × ((m : ModuleValue) → ¬ IsModuleText bytes m)
IsUnread bytes text.Limit = (m : ModuleValue) × IsModuleText bytes m × ¬ IsWithinLimits m
IsUnread bytes text.OutOfMemory = ⊥

-- why bytes give no module: they are too many, which counts as beyond the limits (M3), or they are none within the limits
abbrev pub IsNoModule : List ℕ → ModuleFault → Type 0
IsNoModule bytes f = ((longest_module < length bytes) × (f ≡ text.Limit)) ⊎ ((length bytes ≤ longest_module) × IsUnread bytes f)

-- bytes give no module, but for want of memory
abbrev pub IsUnfitModule : List ℕ → ModuleFault → Type 0
IsUnfitModule bytes text.OutOfMemory = ⊤
IsUnfitModule bytes f = IsNoModule bytes f

-- ---- source texts

-- the most bytes that a source text has
abbrev pub longest_source : ℕ
longest_source = 1048576

-- the bytes are a source text of this tree
abbrev pub IsSource : List ℕ → TreeValue → Type 0
IsSource bytes tree = IsUtf8 bytes × SpellsTree bytes tree

-- F4 at 0: the bytes are too many
abbrev pub IsTooLong : List ℕ → FrontFault → Type 0
IsTooLong bytes f = (longest_source < length bytes) × (f.rule ≡ rule.TooLong) × (f.at ≡ 0)

-- F1 behind the longest front that is UTF-8: the bytes aren't too many, and no UTF-8
abbrev pub IsNotUtf8 : List ℕ → FrontFault → Type 0
IsNotUtf8 bytes f = (length bytes ≤ longest_source) × (f.rule ≡ rule.Token) × IsValidUpTo bytes f.at

-- a fault of the parser's: the bytes are UTF-8, not too many, and spell no tree; the rule is one on texts, and not the one on their length
abbrev pub SpellsNone : List ℕ → FrontFault → Type 0
SpellsNone bytes f =
    (length bytes ≤ longest_source) × IsUtf8 bytes × ((tree : TreeValue) → ¬ SpellsTree bytes tree) × IsTextRule f.rule × (f.rule ≢ rule.TooLong)

-- a fault of the tree that they spell
abbrev pub SpellsFaulty : List ℕ → FrontFault → Type 0
SpellsFaulty bytes f = (tree : TreeValue) × IsSource bytes tree × IsFaultOf tree f

-- why they spell no tree
abbrev pub IsNoText : List ℕ → FrontFault → Type 0
IsNoText bytes f = IsTooLong bytes f ⊎ (IsNotUtf8 bytes f ⊎ SpellsNone bytes f)

-- they spell none, but for want of memory
abbrev pub IsUnspelled : List ℕ → FrontError → Type 0
IsUnspelled bytes (error.Fault f) = IsNoText bytes f
IsUnspelled bytes error.OutOfMemory = ⊤

-- why the bytes of a source text give no module
abbrev pub IsNoSource : List ℕ → FrontFault → Type 0
IsNoSource bytes f = IsTooLong bytes f ⊎ (IsNotUtf8 bytes f ⊎ (SpellsNone bytes f ⊎ SpellsFaulty bytes f))

-- a source text gives no module, but for want of memory
abbrev pub IsUnfit : List ℕ → FrontError → Type 0
IsUnfit bytes (error.Fault f) = IsNoSource bytes f
IsUnfit bytes error.OutOfMemory = ⊤

-- The bytes are compiled to the module: they are a source text of a tree without faults of names and without recursion, whether main comes to
-- it or not, and the module is its code, within the limits.
pub record IsCompiledTo (bytes : List ℕ) (m : ModuleValue) : Type 0 where
  pub tree : TreeValue
  pub spelled : IsSource bytes tree
  pub clean : IsClean tree
  pub falls : IsFalling tree
  pub code : IsCompiled tree m
  pub limits : IsWithinLimits m

-- ---- both

-- the bytes give this module: they are a text of it, and not too many, or a source text that is compiled to it
abbrev pub Gives : Form → List ℕ → ModuleValue → Type 0
Gives form.Module bytes m = (length bytes ≤ longest_module) × IsModuleText bytes m × IsWithinLimits m
Gives form.Source bytes m = IsCompiledTo bytes m

-- they give none
abbrev pub GiveNone : Form → List ℕ → Type 0
GiveNone form.Module bytes = (f : ModuleFault) × IsNoModule bytes f
GiveNone form.Source bytes = (f : FrontFault) × IsNoSource bytes f
