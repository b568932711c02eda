-- Tables of kinds: what is said of one place, and that a module has no two.
use Rattle.std.proofs.Common.{◌≡◌, ℕ, ◌<◌, ◌↔◌, List, [], length, get_or, IsTrue, Some, slice_get, sym, ap, ◌∙◌, arith}
use Rattle.std.proofs.lemmas.Bool.Decides.{same_from_decides}
use Rattle.std.proofs.lemmas.List.{ext_get_or}
use Rattle.std.proofs.lemmas.Option.{slice_get-get_or}
use Rattle.xk_types.specs.declared.rules.Kind.{Kind}
use Rattle.xk_types.specs.declared.rules.Kind.TheVariants as kind
use Rattle.xk_types.specs.declared.unit.UnitKind.TheVariants as unit_kind
use Rattle.xk_types.specs.Code.{UnitValue, ModuleValue}
use Rattle.xk_typestate.specs.KindSet.{KindsValue, kinds_have, no_kinds}
use Rattle.xk_typestate.specs.Place.{visit, HasPlace, IsVisitedIn}
use Rattle.xk_typestate.specs.KindTable.{AreSlotKinds, IsKindTable, AreKindTables, kinds_at}
use Rattle.xk_typestate.proofs.UnitLemmas.{visited_reached, reached_in}

-- the set of a place has the kinds that walks come to it with
pub exact_at : (m : ModuleValue) (table : List (List (List KindsValue))) → AreKindTables m table → (unit at s : ℕ) (k : Kind) → HasPlace m unit at s
    → IsTrue (kinds_have (kinds_at table unit at s) k) ↔ IsVisitedIn m unit s (visit at k)
exact_at m table all unit at s k place =
    let exact = ((all.each unit place.u place.found).each s place.slot).exact (visit at k) in (
      λ t. visited_reached m unit place.u s at place.found k (exact.0 t),
      λ h. exact.1 (reached_in m unit place.u s at place.found k h),
    )

-- sets with the same kinds are one
same_kinds : (s t : KindsValue) → ((k : Kind) → kinds_have s k ≡ kinds_have t k) → s ≡ t
same_kinds s t h =
    ap (λ b. record { unset = b; number = s.number; live = s.live; resumed = s.resumed; out = s.out }) (h kind.Unset)
    ∙ (ap (λ b. record { unset = t.unset; number = b; live = s.live; resumed = s.resumed; out = s.out }) (h kind.Number)
    ∙ (ap (λ b. record { unset = t.unset; number = t.number; live = b; resumed = s.resumed; out = s.out }) (h kind.Live)
    ∙ (ap (λ b. record { unset = t.unset; number = t.number; live = t.live; resumed = b; out = s.out }) (h kind.Resumed)
    ∙ ap (λ b. record { unset = t.unset; number = t.number; live = t.live; resumed = t.resumed; out = b }) (h kind.Out))))

same_slot_kinds : (m : ModuleValue) (u : UnitValue) (s : ℕ) (a b : List KindsValue) → AreSlotKinds m u s a → AreSlotKinds m u s b → a ≡ b
same_slot_kinds m u s a b of_a of_b =
    ext_get_or no_kinds a b (of_a.long ∙ sym of_b.long)
    (λ i lt. same_kinds _ _ (λ k. same_from_decides _ _ (of_a.exact (visit i k)) (of_b.exact (visit i k))))

same_tables : (m : ModuleValue) (u : UnitValue) (a b : List (List KindsValue)) → IsKindTable m u a → IsKindTable m u b → a ≡ b
same_tables m u a b of_a of_b =
    ext_get_or [] a b (of_a.slots ∙ sym of_b.slots)
    (λ s lt. let inside : s < u.slots = omega (arith, of_a.slots) in same_slot_kinds m u s _ _ (of_a.each s inside) (of_b.each s inside))

no_unit : UnitValue
no_unit = record { kind = unit_kind.Main; params = []; slots = 0; code = [] }

-- a module has no two tables
pub same_kind_tables : (m : ModuleValue) (a b : List (List (List KindsValue))) → AreKindTables m a → AreKindTables m b → a ≡ b
same_kind_tables m a b of_a of_b =
    ext_get_or [] a b (of_a.units ∙ sym of_b.units)
    (λ n lt.
    let u = get_or m.units n no_unit in
    let inside : n < length m.units = omega (arith, of_a.units) in
    let found : slice_get m.units n ≡ Some u = slice_get-get_or m.units n no_unit inside in
    same_tables m u _ _ (of_a.each n u found) (of_b.each n u found))
