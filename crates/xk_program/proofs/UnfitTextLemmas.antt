-- Why a source text gives no tree, or no module.
use Rattle.std.proofs.Common.{◌≡◌, ℕ, ◌<◌, ◌≤◌, List, length, Result, Ok, Err, IfErr, inl, inr, refl, arith}
use Rattle.std.specs.Prelude.{IsUtf8}
use Rattle.xk_tree.specs.Tree.{TreeValue}
use Rattle.xk_tree.specs.declared.fault.FrontFault.{FrontFault}
use Rattle.xk_tree.specs.declared.fault.FrontRule.TheVariants as rule
use Rattle.xk_tree.specs.declared.fault.FrontError.{FrontError}
use Rattle.xk_tree.specs.declared.fault.FrontError.TheVariants as error
use Rattle.xk_tree.specs.declared.tree.Tree.{Tree}
use Rattle.xk_syntax.specs.Faults.{IsRefused, IsTextRule}
use Rattle.xk_codegen.specs.Faults.{IsFaultOf}
use Rattle.xk_jobs.specs.declared.job.Form.{Form}
use Rattle.xk_jobs.specs.declared.job.Form.TheVariants as form
use Rattle.xk_program.specs.Faults.{GivesNoModule, of_front}
use Rattle.xk_program.specs.Programs.{IsNoSource, IsNoText, IsSource, IsUnfit, IsUnspelled, longest_source}

-- what the parser refuses spells no tree
pub unparsed : (bytes : List ℕ) (r : Result Tree FrontError) → length bytes ≤ longest_source → IsUtf8 bytes → IsRefused bytes r
    → ((f : FrontFault) → r ≡ Err (error.Fault f) → IsTextRule f.rule)
    → ((f : FrontFault) → r ≡ Err (error.Fault f) → f.rule ≡ rule.TooLong → longest_source < length bytes) → IfErr r (IsUnspelled bytes)
unparsed bytes (Ok tree) short utf8 none of only = tt
unparsed bytes (Err (error.Fault f)) short utf8 none of only = inr (inr (
  short,
  utf8,
  none,
  of f refl,
  λ too_long.
      let long : longest_source < length bytes = only f refl too_long in absurd (omega arith),
))
unparsed bytes (Err error.OutOfMemory) short utf8 none of only = tt

-- what the compiler refuses has a fault
pub uncompiled : {A : Type 0} (bytes : List ℕ) (tree : TreeValue) (r : Result A FrontError) → IsSource bytes tree
    → ((f : FrontFault) → r ≡ Err (error.Fault f) → IsFaultOf tree f) → IfErr r (IsUnfit bytes)
uncompiled bytes tree (Ok x) is faults = tt
uncompiled bytes tree (Err (error.Fault f)) is faults = inr (inr (inr (tree, is, faults f refl)))
uncompiled bytes tree (Err error.OutOfMemory) is faults = tt

-- bytes that spell no tree give no module
pub no_text : (bytes : List ℕ) (f : FrontFault) → IsNoText bytes f → IsNoSource bytes f
no_text bytes f (inl h) = inl h
no_text bytes f (inr (inl h)) = inr (inl h)
no_text bytes f (inr (inr h)) = inr (inr (inl h))

pub unspelled : (bytes : List ℕ) (e : FrontError) → IsUnspelled bytes e → IsUnfit bytes e
unspelled bytes (error.Fault f) h = no_text bytes f h
unspelled bytes error.OutOfMemory h = tt

-- what the compiler or the parser says stands against a source text
pub no_source : (kind : Form) (bytes : List ℕ) (f : FrontError) → kind ≡ form.Source → IsUnfit bytes f → GivesNoModule kind bytes (of_front f)
no_source kind bytes (error.Fault f) is h = (is, h)
no_source kind bytes error.OutOfMemory is h = tt
