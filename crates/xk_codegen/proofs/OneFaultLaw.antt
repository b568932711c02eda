-- Which fault of a program is told is settled, but for which of several recursive calls; and a program with a fault has no module.
use Rattle.std.proofs.Common.{◌≡◌, ◌∙◌, inl, inr, List, [], ◌∷◌, map, length, get_or, Some, slice_get, option_map, refl, sym, ap, subst, arith}
use Rattle.std.proofs.lemmas.List.{length-map}
use Rattle.std.proofs.lemmas.List.Elements.{All-get_or}
use Rattle.std.proofs.lemmas.Option.{get_or_from_slice_get, same_Some, slice_get-map, slice_get_within}
use Rattle.xk_types.specs.Code.{UnitValue, ModuleValue, IsUnitWithinLimits, IsWithinLimits}
use Rattle.xk_tree.specs.declared.fault.FrontRule.{FrontRule}
use Rattle.xk_tree.specs.declared.fault.FrontRule.TheVariants as rule
use Rattle.xk_tree.specs.declared.fault.FrontFault.{FrontFault}
use Rattle.xk_tree.specs.Fault.{front_number}
use Rattle.xk_tree.specs.Tree.{SharedValue, TreeValue}
use Rattle.xk_names.specs.Faults.{HasFault, IsNoLater, IsReported, fault}
use Rattle.xk_emit.specs.CodeOf.{Setting}
use Rattle.xk_source_semantics.specs.Parts.{Part}
use Rattle.xk_source_semantics.specs.Compilation.{IsCompiled, unit_of_part}
use Rattle.xk_law_compiler.proofs.CompiledOnceLaw.{alike, one_units}
use Rattle.xk_law_compiler.proofs.SettingLookupLemmas.{IsAlike, same_part}
use Rattle.xk_codegen.specs.Faults.{Beyond, HasLargePart, InCalls, InNames, InTables, IsClean, IsFalling, IsFaultOf, IsLarge, IsTableFault, IsToldOnce, Large, LargePart, ManyShared}
use Rattle.xk_numbering.specs.Views.{offset}

-- ---- faults

-- the rules, by their numbers
abbrev rules : List FrontRule
rules = rule.Token ∷ rule.Token ∷ rule.Syntax ∷ rule.TooDeep ∷ rule.TooLong ∷ rule.UnknownName ∷ rule.DuplicateName ∷ rule.WrongKind ∷ rule.NotCaptured
    ∷ rule.NoMain ∷ rule.Recursive ∷ rule.Arity ∷ rule.SameClockTwice ∷ rule.Literal ∷ rule.Table ∷ rule.NoHiddenClock ∷ []

at_its_number : (r : FrontRule) → get_or rules (front_number r) rule.Token ≡ r
at_its_number rule.Token = refl
at_its_number rule.Syntax = refl
at_its_number rule.TooDeep = refl
at_its_number rule.TooLong = refl
at_its_number rule.UnknownName = refl
at_its_number rule.DuplicateName = refl
at_its_number rule.WrongKind = refl
at_its_number rule.NotCaptured = refl
at_its_number rule.NoMain = refl
at_its_number rule.Recursive = refl
at_its_number rule.Arity = refl
at_its_number rule.SameClockTwice = refl
at_its_number rule.Literal = refl
at_its_number rule.Table = refl
at_its_number rule.NoHiddenClock = refl

rule_once : (r q : FrontRule) → front_number r ≡ front_number q → r ≡ q
rule_once r q e = sym (at_its_number r) ∙ ap (λ n. get_or rules n rule.Token) e ∙ at_its_number q

pub same_fault : (f g : FrontFault) → f.rule ≡ g.rule → f.at ≡ g.at → f ≡ g
same_fault f g e d = ap (λ r. fault r f.at) e ∙ ap (λ at. fault g.rule at) d

-- ---- faults of names

no_later_both : (f g : FrontFault) → IsNoLater f g → IsNoLater g f → f ≡ g
no_later_both f g (inl less) (inl more) = absurd (omega (arith, less, more))
no_later_both f g (inl less) (inr q) = absurd (omega (arith, less, q.0))
no_later_both f g (inr p) (inl more) = absurd (omega (arith, more, p.0))
no_later_both f g (inr p) (inr q) = same_fault f g (rule_once f.rule g.rule (omega (arith, p.1, q.1))) p.0

reported_once : (t : TreeValue) (f g : FrontFault) → IsReported t f → IsReported t g → f ≡ g
reported_once t f g p q = go p.there q.there
  where
    go : HasFault t f → HasFault t g → f ≡ g
    go (inl a) b = no_later_both f g (p.first g (q.first f a).0).1 (q.first f a).1
    go (inr a) (inl b) = no_later_both f g (p.first g b).1 (q.first f (p.first g b).0).1
    go (inr a) (inr b) = a.1 ∙ sym b.1

-- ---- tables

-- a part that goes beyond a limit does so whichever way its program's units and what their code refers to are given
large_too : (us vs : List Part) (cx dx : Setting) → us ≡ vs → IsAlike cx dx → (p : Part) → IsLarge us cx p → IsLarge vs dx p
large_too us vs cx dx e h p (Beyond at) = Beyond (ap (λ (l : List Part). slice_get l 1024) (sym e) ∙ at)
large_too us vs cx dx e h p (Large k at over) =
    Large k (ap (λ (l : List Part). slice_get l k) (sym e) ∙ at) (λ within. over (subst IsUnitWithinLimits (sym (same_part cx dx h p)) within))

large_once : (t : TreeValue) (f g : FrontFault) → HasLargePart t f → HasLargePart t g → f ≡ g
large_once t f g a b =
    let e = one_units t a.units b.units a.are_units b.are_units in
    let there = large_too a.units b.units a.setting b.setting e (alike t a.units b.units a.setting b.setting e a.is_setting b.is_setting) a.first.part a.first.large in
    let here = large_too b.units a.units b.setting a.setting (sym e) (alike t b.units a.units b.setting a.setting (sym e) b.is_setting a.is_setting) b.first.part b.first.large in
    let most = a.first.first b.first.part here in
    let least = b.first.first a.first.part there in
    let same : offset a.first.part ≡ offset b.first.part = omega (arith, most, least) in
    a.first.is ∙ ap (fault rule.Table) same ∙ sym b.first.is

table_once : (t : TreeValue) (f g : FrontFault) → IsTableFault t f → IsTableFault t g → f ≡ g
table_once t f g (ManyShared s at is) (ManyShared u there e) =
    is ∙ ap (λ (z : SharedValue). fault rule.Table z.name.at) (same_Some s u (sym at ∙ there)) ∙ sym e
table_once t f g (ManyShared s at is) (LargePart few h) = let many = slice_get_within t.shared 256 s at in absurd (omega (arith, many, few))
table_once t f g (LargePart few h) (ManyShared s at is) = let many = slice_get_within t.shared 256 s at in absurd (omega (arith, many, few))
table_once t f g (LargePart few h) (LargePart none i) = large_once t f g h i

-- ---- all of them

pub told_once : (t : TreeValue) (f g : FrontFault) → IsFaultOf t f → IsFaultOf t g → IsToldOnce t f g
told_once t f g (InNames p) (InNames q) = inl (reported_once t f g p q)
told_once t f g (InNames p) (InCalls clean r) = absurd (clean f p.there)
told_once t f g (InNames p) (InTables clean falls h) = absurd (clean f p.there)
told_once t f g (InCalls clean r) (InNames q) = absurd (clean g q.there)
told_once t f g (InCalls clean r) (InCalls fine i) = inr (r, i)
told_once t f g (InCalls clean r) (InTables fine falls h) = absurd (falls f r)
told_once t f g (InTables clean falls h) (InNames q) = absurd (clean g q.there)
told_once t f g (InTables clean falls h) (InCalls fine r) = absurd (falls g r)
told_once t f g (InTables clean falls h) (InTables fine fall i) = inl (table_once t f g h i)

-- ---- modules

not_large : (us : List Part) (cx : Setting) (m : ModuleValue) → m.units ≡ map (unit_of_part cx) us → IsWithinLimits m → (p : Part) → IsLarge us cx p → ⊥
not_large us cx m code limits p (Beyond at) =
    let many = slice_get_within us 1024 p at in
    let long : length m.units ≡ length us = ap length code ∙ length-map us (unit_of_part cx) in
    let few = limits.units in
    omega (arith, many, long, few)
not_large us cx m code limits p (Large k at over) =
    let there : slice_get m.units k ≡ Some (unit_of_part cx p) =
    ap (λ (l : List UnitValue). slice_get l k) code ∙ slice_get-map (unit_of_part cx) us k ∙ ap (option_map (unit_of_part cx)) at in
    over (subst IsUnitWithinLimits (get_or_from_slice_get m.units k (unit_of_part cx p) (unit_of_part cx p) there)
    (All-get_or IsUnitWithinLimits m.units k (unit_of_part cx p) (slice_get_within m.units k (unit_of_part cx p) there) limits.each))

not_beyond : (t : TreeValue) (f : FrontFault) (m : ModuleValue) → IsTableFault t f → IsCompiled t m → IsWithinLimits m → ⊥
not_beyond t f m (ManyShared s at is) c limits =
    let many = slice_get_within t.shared 256 s at in
    let long : length m.shared ≡ length t.shared = ap length c.shared ∙ length-map t.shared (λ (u : SharedValue). u.start.value) in
    let few = limits.shared in
    omega (arith, many, long, few)
not_beyond t f m (LargePart some h) c limits =
    let e = one_units t h.units c.units h.are_units c.are_units in
    not_large c.units c.setting m c.code limits h.first.part
    (large_too h.units c.units h.setting c.setting e (alike t h.units c.units h.setting c.setting e h.is_setting c.is_setting) h.first.part h.first.large)

pub not_faulty : (t : TreeValue) (f : FrontFault) (m : ModuleValue) → IsFaultOf t f → IsClean t → IsFalling t → IsCompiled t m → IsWithinLimits m → ⊥
not_faulty t f m (InNames p) clean falls c limits = clean f p.there
not_faulty t f m (InCalls fine r) clean falls c limits = falls f r
not_faulty t f m (InTables fine fall h) clean falls c limits = not_beyond t f m h c limits
