-- A tree is compiled to one module at most.
use Rattle.std.proofs.Common.{◌≡◌, ◌∙◌, ℕ, List, [], ◌∷◌, map, Option, Some, None, slice_get, refl, sym, ap, subst}
use Rattle.std.specs.Prelude.{option_map}
use Rattle.std.proofs.lemmas.Option.{none-some, same_Some, slice_get-map}
use Rattle.xk_types.specs.Code.{ModuleValue}
use Rattle.xk_tree.specs.Tree.{TreeValue}
use Rattle.xk_emit.specs.CodeOf.{Setting}
use Rattle.xk_source_semantics.specs.Parts.{Part, method_among, parts}
use Rattle.xk_source_semantics.specs.PartGraph.{IsOrder, graph}
use Rattle.xk_source_semantics.specs.Compilation.{AreUnits, IsCompiled, IsSetting, settled_body, unit_number, unit_of_part}
use Rattle.xk_law_compiler.proofs.OrderUniquenessLemmas.{IsOrdered, one_order, same_lists}
use Rattle.xk_law_compiler.proofs.SettingLookupLemmas.{IsAlike, same_part}

-- ---- units

unwrapped : {A : Type 0} (o e : Option A) → option_map (λ (x : A). Some x) o ≡ option_map (λ (x : A). Some x) e → o ≡ e
unwrapped None None h = refl
unwrapped None (Some y) h = absurd (none-some (Some y) h)
unwrapped (Some x) None h = absurd (none-some (Some x) (sym h))
unwrapped (Some x) (Some y) h = same_Some (Some x) (Some y) h

same_somes : {A : Type 0} (xs ys : List A) → map (λ (x : A). Some x) xs ≡ map (λ (x : A). Some x) ys → xs ≡ ys
same_somes {A} xs ys e = same_lists xs ys (λ k. unwrapped (slice_get xs k) (slice_get ys k)
    (sym (slice_get-map (λ (x : A). Some x) xs k) ∙ ap (λ l. slice_get l k) e ∙ slice_get-map (λ (x : A). Some x) ys k))

is_ordered : (t : TreeValue) (order : List ℕ) → (o : IsOrder t order) → IsOrdered (graph (parts t)) o.start order
is_ordered t order o = record { first = o.first; reached = o.reached; later = o.later; once = o.once; least = o.least }

same_order : (t : TreeValue) (xs ys : List ℕ) → IsOrder t xs → IsOrder t ys → xs ≡ ys
same_order t xs ys p q =
    let e : q.start ≡ p.start = same_Some q.start p.start (sym q.begins ∙ p.begins) in
    one_order (graph (parts t)) p.start xs ys (is_ordered t xs p) (subst (λ n. IsOrdered (graph (parts t)) n ys) e (is_ordered t ys q))

-- a program has one list of units
pub one_units : (t : TreeValue) (us vs : List Part) → AreUnits t us → AreUnits t vs → us ≡ vs
one_units t us vs p q =
    same_somes us vs (p.are ∙ ap (λ order. map (slice_get (parts t)) order) (same_order t p.order q.order p.is_order q.is_order) ∙ sym q.are)

-- ---- settings

pub alike : (t : TreeValue) (us vs : List Part) (cx dx : Setting) → us ≡ vs → IsSetting t us cx → IsSetting t vs dx → IsAlike cx dx
alike t us vs cx dx e p q = record {
  shared = λ x. p.shared x ∙ sym (q.shared x);
  methods = λ x. p.methods x ∙ ap (λ ps. option_map unit_number (method_among 0 ps x)) e ∙ sym (q.methods x);
  bodies = λ at. p.bodies at ∙ ap (λ ps. settled_body t 0 ps at) e ∙ sym (q.bodies at);
}

-- ---- modules

same_units : (us : List Part) (cx dx : Setting) → IsAlike cx dx → map (unit_of_part cx) us ≡ map (unit_of_part dx) us
same_units [] cx dx h = refl
same_units (p ∷ ps) cx dx h =
    ap (λ u. u ∷ map (unit_of_part cx) ps) (same_part cx dx h p) ∙ ap (λ us. unit_of_part dx p ∷ us) (same_units ps cx dx h)

same_module : (m n : ModuleValue) → m.shared ≡ n.shared → m.units ≡ n.units → m ≡ n
same_module m n e d =
    ap (λ shared. let k : ModuleValue = record { shared = shared; units = m.units } in k) e
    ∙ ap (λ units. let k : ModuleValue = record { shared = n.shared; units = units } in k) d

pub one_compiled : (t : TreeValue) (m n : ModuleValue) → IsCompiled t m → IsCompiled t n → m ≡ n
one_compiled t m n c d =
    let same = one_units t c.units d.units c.are_units d.are_units in
    same_module m n (c.shared ∙ sym d.shared) (c.code ∙ ap (λ ps. map (unit_of_part c.setting) ps) same
    ∙ same_units d.units c.setting d.setting (alike t c.units d.units c.setting d.setting same c.is_setting d.is_setting) ∙ sym d.code)
