-- Sets of nodes that are met.
use Rattle.std.proofs.Common.{◌≡◌, ◌∙◌, ℕ, zero, suc, ◌<◌, ◌≤◌, ◌⊎◌, inl, inr, Bool, true, false, if◌then◌else◌, List, [], ◌∷◌}
use Rattle.std.proofs.Common.{◌++◌, get_or, length, Some, refl, sym, ap, arith}
use Rattle.std.proofs.Common.{slice_get}
use Rattle.std.proofs.lemmas.Bool.{cases_lt, true≢false}
use Rattle.std.proofs.lemmas.Map.Keys.{apart_from_distinct}
use Rattle.std.proofs.lemmas.Option.{none-some, same_Some, slice_get_within, get_or_from_slice_get}
use Rattle.std.specs.Global.{Vec}
use Rattle.std.specs.List.{IsDistinct, list_any}
use Rattle.std.specs.Prelude.{nat_eq}
use Rattle.std.specs.Bool.{Decides}
use Rattle.std.specs.Cmp.{unsigned_Decides}
use Rattle.std.specs.Cmp.Lexicographic.{pointwise, pointwise_decides}
use Rattle.indexmap.specs.IndexSet.{insert_key}
use Rattle.xk_readings.specs.Automata.{KeepsStates, lists_in}
use Rattle.xk_readings.specs.Beginnings.{AreOnce}
use Rattle.xk_types.proofs.ListLemmas.{get-append_left as stays}
use Rattle.xk_readings.proofs.ListLemmas.{place}

lists_append : (xs ys : List (Vec ℕ)) → lists_in (xs ++ ys) ≡ lists_in xs ++ lists_in ys
lists_append [] ys = refl
lists_append (x ∷ xs) ys = ap (λ (l : List (List ℕ)). x.items ∷ l) (lists_append xs ys)

-- one more, or none
pub one_met : (e : Vec ℕ → Vec ℕ → Bool) (old new : List (Vec ℕ)) (v : Vec ℕ) → new ≡ insert_key e old v
    → (lists_in new ≡ lists_in old) ⊎ (lists_in new ≡ lists_in old ++ v.items ∷ [])
one_met e old new v is = by (list_any (e v) old) (ap lists_in is)
  where
    by : (b : Bool) → lists_in new ≡ lists_in (if b then old else old ++ v ∷ [])
        → (lists_in new ≡ lists_in old) ⊎ (lists_in new ≡ lists_in old ++ v.items ∷ [])
    by true same = inl same
    by false one = inr (one ∙ lists_append old (v ∷ []))

pub states_kept : (old new : List (List ℕ)) (s : List ℕ) → (new ≡ old) ⊎ (new ≡ old ++ s ∷ []) → KeepsStates old new
states_kept old new s (inl same) i t there = ap (λ (l : List (List ℕ)). slice_get l i) same ∙ there
states_kept old new s (inr one) i t there = ap (λ (l : List (List ℕ)). slice_get l i) one ∙ stays old (s ∷ []) i t there

pub states_each : (old new : List (List ℕ)) (s : List ℕ) → (new ≡ old) ⊎ (new ≡ old ++ s ∷ []) → (i : ℕ) (t : List ℕ)
    → slice_get new i ≡ Some t
    → (slice_get old i ≡ Some t) ⊎ (t ≡ s)
states_each old new s (inl same) i t there = inl (ap (λ (l : List (List ℕ)). slice_get l i) (sym same) ∙ there)
states_each old new s (inr one) i t there = by (place old s i t (ap (λ (l : List (List ℕ)). slice_get l i) (sym one) ∙ there))
  where
    by : (slice_get old i ≡ Some t) ⊎ ((i ≡ length old) × (s ≡ t)) → (slice_get old i ≡ Some t) ⊎ (t ≡ s)
    by (inl was) = inl was
    by (inr is) = inr (sym is.1)

pub list_at : (lists : List (Vec ℕ)) (i : ℕ) (v : Vec ℕ) → slice_get lists i ≡ Some v → slice_get (lists_in lists) i ≡ Some v.items
list_at [] i v there = absurd (none-some v there)
list_at (x ∷ lists) zero v there = ap (λ (w : Vec ℕ). Some w.items) (same_Some x v there)
list_at (x ∷ lists) (suc i) v there = list_at lists i v there

-- lists of nodes are the same where a test says so
pub same_nodes : (xs ys : List ℕ) → Decides (pointwise nat_eq xs ys) (xs ≡ ys)
same_nodes = pointwise_decides unsigned_Decides

-- the one of a number, where it lies in memory
list_of : (lists : List (Vec ℕ)) (i : ℕ) (s : List ℕ) → slice_get (lists_in lists) i ≡ Some s
    → (v : Vec ℕ) × (slice_get lists i ≡ Some v) × (v.items ≡ s)
list_of [] i s there = absurd (none-some s there)
list_of (x ∷ lists) zero s there = (x, refl, same_Some x.items s there)
list_of (x ∷ lists) (suc i) s there = list_of lists i s there

-- keys that differ are lists that do
pub lists_once : (lists : List (Vec ℕ)) → IsDistinct (λ (x y : Vec ℕ). pointwise nat_eq x.items y.items) lists → AreOnce (lists_in lists)
lists_once lists apart i j s hi hj = by (cases_lt i j) (cases_lt j i)
  where
    differ : (i j : ℕ) → slice_get (lists_in lists) i ≡ Some s → slice_get (lists_in lists) j ≡ Some s → i < j → ⊥
    differ i j hi hj less =
        let v = list_of lists i s hi in
        let w = list_of lists j s hj in
        let inside = slice_get_within lists j w.0 w.1 in
        let first = get_or_from_slice_get lists i v.0 v.0 v.1 in
        let second = get_or_from_slice_get lists j w.0 v.0 w.1 in
        let other = apart_from_distinct (λ (x y : Vec ℕ). pointwise nat_eq x.items y.items) lists i j v.0 apart less inside in
        let items = ap (λ (x : Vec ℕ). x.items) first ∙ v.2 ∙ sym w.2 ∙ ap (λ (x : Vec ℕ). x.items) (sym second) in
        true≢false (sym ((same_nodes (get_or lists i v.0).items (get_or lists j v.0).items).1 items) ∙ other)

    by : (i < j) ⊎ (j ≤ i) → (j < i) ⊎ (i ≤ j) → i ≡ j
    by (inl less) other = absurd (differ i j hi hj less)
    by (inr most) (inl less) = absurd (differ j i hj hi less)
    by (inr most) (inr most') = omega (arith, most, most')
