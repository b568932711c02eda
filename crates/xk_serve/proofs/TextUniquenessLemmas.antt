-- A source text gives one module, or is refused; and of one that is refused one fault is told, but where it spells no tree, or has several recursive
-- calls.
use Rattle.std.proofs.Common.{◌≡◌, ◌∙◌, inl, inr, ℕ, ◌<◌, ◌≤◌, List, length, sym, subst, arith}
use Rattle.std.specs.Prelude.{◌⊎◌, IsUtf8}
use Rattle.std.specs.Str.{IsValidUpTo}
use Rattle.std.proofs.lemmas.Str.{utf8_valid_len-IsUtf8, utf8_valid_len-IsValidUpTo}
use Rattle.xk_types.specs.Code.{ModuleValue}
use Rattle.xk_tree.specs.declared.fault.FrontFault.{FrontFault}
use Rattle.xk_tree.specs.Tree.{TreeValue}
use Rattle.xk_syntax.proofs.TextLemmas.{one_tree}
use Rattle.xk_source_semantics.specs.Compilation.{IsCompiled}
use Rattle.xk_law_compiler.proofs.CompiledOnceLaw.{one_compiled}
use Rattle.xk_codegen.specs.Faults.{IsFaultOf, IsToldOnce}
use Rattle.xk_codegen.proofs.OneFaultLaw.{not_faulty, same_fault, told_once}
use Rattle.xk_serve.specs.OneAnswer.{IsLeftOpen}
use Rattle.xk_program.specs.Programs.{IsCompiledTo, IsNoSource, IsNoText, IsSource}

not_utf8 : (bytes : List ℕ) (n : ℕ) → IsValidUpTo bytes n → IsUtf8 bytes → ⊥
not_utf8 bytes n bad good =
    let all = utf8_valid_len-IsUtf8 bytes good in
    let some = utf8_valid_len-IsValidUpTo bytes n bad in
    let less = bad.short in
    omega (arith, all, some, less)

not_both : (n : ℕ) → 1048576 < n → n ≤ 1048576 → ⊥
not_both n more less = omega (arith, more, less)

-- ---- modules

pub one_text : (bytes : List ℕ) (m n : ModuleValue) → IsCompiledTo bytes m → IsCompiledTo bytes n → m ≡ n
one_text bytes m n p q =
    let same = one_tree bytes q.tree p.tree q.spelled.1 p.spelled.1 in
    one_compiled p.tree m n p.code (subst (λ (t : TreeValue). IsCompiled t n) same q.code)

-- bytes that are refused give no module
pub unfit_none : (bytes : List ℕ) (f : FrontFault) (m : ModuleValue) → IsNoSource bytes f → IsCompiledTo bytes m → ⊥
unfit_none bytes f m (inl p) c = not_both (length bytes) p.0 c.spelled.1.short
unfit_none bytes f m (inr (inl p)) c = not_utf8 bytes f.at p.2 c.spelled.0
unfit_none bytes f m (inr (inr (inl p))) c = p.2 c.tree c.spelled.1
unfit_none bytes f m (inr (inr (inr p))) c =
    let same = one_tree bytes p.0 c.tree p.1.1 c.spelled.1 in
    not_faulty c.tree f m (subst (λ (t : TreeValue). IsFaultOf t f) same p.2) c.clean c.falls c.code c.limits

-- a source text of a tree spells one
pub text_or_none : (bytes : List ℕ) (tree : TreeValue) (f : FrontFault) → IsSource bytes tree → IsNoText bytes f → ⊥
text_or_none bytes tree f source (inl p) = not_both (length bytes) p.0 source.1.short
text_or_none bytes tree f source (inr (inl p)) = not_utf8 bytes f.at p.2 source.0
text_or_none bytes tree f source (inr (inr p)) = p.2 tree source.1

-- ---- faults

told_open : (bytes : List ℕ) (tree : TreeValue) (f g : FrontFault) → IsSource bytes tree → IsToldOnce tree f g → (f ≡ g) ⊎ IsLeftOpen bytes f g
told_open bytes tree f g source (inl same) = inl same
told_open bytes tree f g source (inr both) = inr (inr (tree, source, both))

pub unfit_once : (bytes : List ℕ) (f g : FrontFault) → IsNoSource bytes f → IsNoSource bytes g → (f ≡ g) ⊎ IsLeftOpen bytes f g
unfit_once bytes f g (inl p) (inl q) = inl (same_fault f g (p.1 ∙ sym q.1) (p.2 ∙ sym q.2))
unfit_once bytes f g (inl p) (inr (inl q)) = absurd (not_both (length bytes) p.0 q.0)
unfit_once bytes f g (inl p) (inr (inr (inl q))) = absurd (not_both (length bytes) p.0 q.0)
unfit_once bytes f g (inl p) (inr (inr (inr q))) = absurd (not_both (length bytes) p.0 q.1.1.short)
unfit_once bytes f g (inr (inl p)) (inl q) = absurd (not_both (length bytes) q.0 p.0)
unfit_once bytes f g (inr (inl p)) (inr (inl q)) =
    inl (same_fault f g (p.1 ∙ sym q.1) (sym (utf8_valid_len-IsValidUpTo bytes f.at p.2) ∙ utf8_valid_len-IsValidUpTo bytes g.at q.2))
unfit_once bytes f g (inr (inl p)) (inr (inr (inl q))) = absurd (not_utf8 bytes f.at p.2 q.1)
unfit_once bytes f g (inr (inl p)) (inr (inr (inr q))) = absurd (not_utf8 bytes f.at p.2 q.1.0)
unfit_once bytes f g (inr (inr (inl p))) (inl q) = absurd (not_both (length bytes) q.0 p.0)
unfit_once bytes f g (inr (inr (inl p))) (inr (inl q)) = absurd (not_utf8 bytes g.at q.2 p.1)
unfit_once bytes f g (inr (inr (inl p))) (inr (inr (inl q))) = inr (inl (p, q))
unfit_once bytes f g (inr (inr (inl p))) (inr (inr (inr q))) = absurd (p.2 q.0 q.1.1)
unfit_once bytes f g (inr (inr (inr p))) (inl q) = absurd (not_both (length bytes) q.0 p.1.1.short)
unfit_once bytes f g (inr (inr (inr p))) (inr (inl q)) = absurd (not_utf8 bytes g.at q.2 p.1.0)
unfit_once bytes f g (inr (inr (inr p))) (inr (inr (inl q))) = absurd (q.2 p.0 p.1.1)
unfit_once bytes f g (inr (inr (inr p))) (inr (inr (inr q))) =
    let same = one_tree bytes q.0 p.0 q.1.1 p.1.1 in
    told_open bytes p.0 f g p.1 (told_once p.0 f g p.2 (subst (λ (t : TreeValue). IsFaultOf t g) same q.2))
