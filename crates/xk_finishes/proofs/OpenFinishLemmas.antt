-- The finish that governs somebody who hasn't ended is open, whatever happens.
use Rattle.std.proofs.Common.{◌≡◌, ℕ, ◌-◌, ◌<◌, ◌≤◌, ◌==◌, Bool, true, false, List, [], ◌∷◌, ◌++◌, length, set, Some, refl, sym, ap, ◌∙◌, subst, arith, length-set, get_or-set_same, get_or-set_other}
use Rattle.std.specs.Prelude.{slice_get, if◌then◌else◌}
use Rattle.std.proofs.lemmas.Option.{same_Some}
use Rattle.std.proofs.lemmas.Bool.{eqb-true, eqb-false}
use Rattle.std.proofs.lemmas.Bool.Decides.{nat_tests}
use Rattle.std.proofs.lemmas.List.{get_or_append_left, length-append}
use Rattle.xk_types.specs.World.{Finish}
use Rattle.xk_types.proofs.ListLemmas.{each_put, each_push}
use Rattle.xk_finishes.specs.Tree.{NodeValue, node_at, innermost_of, governing_of, changed_at, node_entered, node_left, node_ended, fresh_node}
use Rattle.xk_finishes.specs.Counters.{counter, IsOpen, AreOpen}
use Rattle.xk_finishes.proofs.CounterLemmas.{counted_at, node_there}

-- if the activity hasn't ended, what governs it is open
abbrev IsHeld : List NodeValue → ℕ → NodeValue → Type 0
IsHeld nodes b x = x.ended ≡ false → (o : ℕ) → x.governed.owner ≡ Some o → IsOpen nodes x.governed o

-- an open finish is open still where its owner still has so many open, and others don't matter
open_set : (nodes : List NodeValue) (a : ℕ) (y : NodeValue) (g : Finish) (o : ℕ) → IsOpen nodes g o → (o ≡ a → (y.ended ≡ false) × (g.depth ≤ y.opened))
    → IsOpen (set nodes a y) g o
open_set nodes a y g o is owner = go (o == a) refl
  where
    inside : o < length (set nodes a y)
    inside = omega (arith, length-set nodes a y, is.exists)

    go : (b : Bool) → (o == a) ≡ b → IsOpen (set nodes a y) g o
    go true e =
        let same = eqb-true o a e in
        let at : node_at (set nodes a y) o ≡ y = ap (node_at (set nodes a y)) same ∙ get_or-set_same nodes a y _ (omega (arith, is.exists)) in
        record { exists = inside; runs = rw at (owner same).0; some = is.some; within = rw at (owner same).1 }
    go false e =
        let at : node_at (set nodes a y) o ≡ node_at nodes o = get_or-set_other nodes a o y _ (eqb-false o a e) in
        record { exists = inside; runs = rw at is.runs; some = is.some; within = rw at is.within }

-- activity a changes: it is governed as before, doesn't run again, and still has so many open as those say whom it governs
are_open_set : (nodes : List NodeValue) (a : ℕ) (y : NodeValue) → AreOpen nodes → a < length nodes → y.governed ≡ (node_at nodes a).governed
    → (y.ended ≡ false → (node_at nodes a).ended ≡ false)
    → ((b : ℕ) (x : NodeValue) → slice_get nodes b ≡ Some x → x.ended ≡ false → x.governed.owner ≡ Some a → IsOpen nodes x.governed a
    → (y.ended ≡ false) × (x.governed.depth ≤ y.opened))
    → AreOpen (set nodes a y)
are_open_set nodes a y are inside governed live still =
    each_put (IsHeld (set nodes a y)) nodes a y
    (λ old at runs o owned.
    let there = node_there nodes a inside in
    subst (λ (g : Finish). g.owner ≡ Some o → IsOpen (set nodes a y) g o) (sym governed)
    (λ owner. kept a (node_at nodes a) there (live runs) o owner) owned)
    (λ b x other at runs o owned. kept b x at runs o owned)
  where
    kept : (b : ℕ) (x : NodeValue) → slice_get nodes b ≡ Some x → x.ended ≡ false → (o : ℕ) → x.governed.owner ≡ Some o → IsOpen (set nodes a y) x.governed o
    kept b x at runs o owned =
        let is = are b x at runs o owned in
        open_set nodes a y x.governed o is
        (λ same. still b x at runs (owned ∙ ap Some same) (subst (λ (n : ℕ). IsOpen nodes x.governed n) same is))

-- a `finish`
pub are_open_entered : (nodes : List NodeValue) (a : ℕ) → AreOpen nodes → a < length nodes → AreOpen (changed_at nodes a node_entered)
are_open_entered nodes a are inside =
    are_open_set nodes a (node_entered (node_at nodes a)) are inside refl (λ e. e) (λ b x at runs owned is. (is.runs, omega (arith, is.within)))

-- the end of an activity that has none open
pub are_open_ended : (nodes : List NodeValue) (a : ℕ) → AreOpen nodes → a < length nodes → (node_at nodes a).opened ≡ 0 → AreOpen (changed_at nodes a node_ended)
are_open_ended nodes a are inside none =
    are_open_set nodes a (node_ended (node_at nodes a)) are inside refl (λ e. absurd (grind arith))
    (λ b x at runs owned is. absurd (omega (arith, is.some, is.within)))

-- an `endfinish` whose counter is 0
pub are_open_left : (nodes : List NodeValue) (a : ℕ) → AreOpen nodes → a < length nodes → counter (innermost_of a (node_at nodes a)) nodes ≡ 0
    → AreOpen (changed_at nodes a node_left)
are_open_left nodes a are inside none =
    are_open_set nodes a (node_left (node_at nodes a)) are inside refl (λ e. e)
    (λ b x at runs owned is. (is.runs, lower b x at runs owned is (x.governed.depth == (node_at nodes a).opened) refl))
  where
    lower : (b : ℕ) (x : NodeValue) → slice_get nodes b ≡ Some x → x.ended ≡ false → x.governed.owner ≡ Some a → IsOpen nodes x.governed a
        → (t : Bool) → (x.governed.depth == (node_at nodes a).opened) ≡ t → x.governed.depth ≤ (node_at nodes a).opened - 1
    lower b x at runs owned is true e =
        let self : (a == a) ≡ true = grind (arith, nat_tests) in
        let counted : 0 < counter (innermost_of a (node_at nodes a)) nodes =
        counted_at (innermost_of a (node_at nodes a)) nodes b x at (rw (runs, owned, e, self) refl) in
        absurd (omega arith)
    lower b x at runs owned is false e =
        let other = eqb-false x.governed.depth (node_at nodes a).opened e in
        omega (arith, is.within, other)

-- the start of an activity
pub are_open_spawned : (nodes : List NodeValue) (a room : ℕ) → AreOpen nodes → a < length nodes → (node_at nodes a).ended ≡ false
    → AreOpen (nodes ++ fresh_node (governing_of a (node_at nodes a)) room ∷ [])
are_open_spawned nodes a room are inside runs =
    each_push (IsHeld grown) nodes (fresh_node (governing_of a (node_at nodes a)) room)
    (λ b x at live o owned. longer x.governed o (are b x at live o owned))
    (λ live o owned. new ((node_at nodes a).opened == 0) refl o owned)
  where
    grown : List NodeValue
    grown = nodes ++ fresh_node (governing_of a (node_at nodes a)) room ∷ []

    longer : (g : Finish) (o : ℕ) → IsOpen nodes g o → IsOpen grown g o
    longer g o is =
        let at : node_at grown o ≡ node_at nodes o =
        get_or_append_left nodes (fresh_node (governing_of a (node_at nodes a)) room ∷ []) _ o is.exists in
        record {
          exists = omega (arith, length-append nodes (fresh_node (governing_of a (node_at nodes a)) room ∷ []), is.exists);
          runs = rw at is.runs;
          some = is.some;
          within = rw at is.within;
        }

    new : (t : Bool) → ((node_at nodes a).opened == 0) ≡ t → (o : ℕ)
        → (if t then (node_at nodes a).governed else innermost_of a (node_at nodes a)).owner ≡ Some o
        → IsOpen grown (if t then (node_at nodes a).governed else innermost_of a (node_at nodes a)) o
    new true e o owned = longer (node_at nodes a).governed o (are a (node_at nodes a) (node_there nodes a inside) runs o owned)
    new false e o owned =
        let same : a ≡ o = same_Some a o owned in
        let some = eqb-false (node_at nodes a).opened 0 e in
        longer (innermost_of a (node_at nodes a)) o
        (subst (λ (n : ℕ). IsOpen nodes (innermost_of a (node_at nodes a)) n) same
        (record { exists = inside; runs = runs; some = omega (arith, some); within = omega arith }))
