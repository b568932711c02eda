-- The tree goes on counting, whatever happens.
use Rattle.std.proofs.Common.{◌≡◌, ℕ, zero, suc, ◌+◌, ◌<◌, ◌^◌, ◌==◌, Bool, true, false, not, ◌&&◌, List, [], ◌∷◌, ◌++◌, length, get_or, set, refl, sym, ap, ◌∙◌, arith}
use Rattle.std.proofs.lemmas.Bool.Decides.{nat_tests}
use Rattle.xk_types.specs.World.{Finish}
use Rattle.xk_types.specs.Step.{same_finish}
use Rattle.xk_finishes.specs.Tree.{NodeValue, fresh_node, node_at, innermost_of, governing_of, changed_at, node_entered, node_left, node_ended, awaits_innermost}
use Rattle.xk_finishes.specs.Counters.{finish_at, is_counted, one_if, counter, count_in, CountIs, CountsSame, CountsOneMore, AreCounted, IsCounting}
use Rattle.xk_finishes.proofs.CounterLemmas.{node_there, counted_at, counter_below, counter_pushed, counter_set, awaits_counter}
use Rattle.xk_finishes.proofs.OpenFinishLemmas.{are_open_entered, are_open_ended, are_open_left, are_open_spawned}
use Rattle.xk_finishes.proofs.CounterListLemmas.{read_any}
use Rattle.xk_finishes.proofs.OwnerLemmas.{owners_set, owners_pushed}

-- ---- the counters

-- an activity changes, and neither ends nor is governed by another finish
counted_set : (nodes : List NodeValue) (lists : List (List ℕ)) (a : ℕ) (new : NodeValue) → AreCounted nodes lists → a < length nodes
    → new.governed ≡ (node_at nodes a).governed → new.ended ≡ (node_at nodes a).ended → AreCounted (set nodes a new) lists
counted_set nodes lists a new counted inside governed ended b d =
    let same : one_if (is_counted (finish_at b d) new) ≡ one_if (is_counted (finish_at b d) (node_at nodes a)) = rw (governed, ended) refl in
    omega (arith, same, counted b d, counter_set (finish_at b d) nodes a (node_at nodes a) new (node_there nodes a inside))

-- an activity ends
counted_ended : (nodes : List NodeValue) (old new : List (List ℕ)) (a : ℕ) → AreCounted nodes old → a < length nodes → (node_at nodes a).ended ≡ false
    → CountsOneMore (node_at nodes a).governed new old → AreCounted (changed_at nodes a node_ended) new
counted_ended nodes old new a counted inside runs less b d =
    let was : one_if (is_counted (finish_at b d) (node_at nodes a)) ≡ one_if (same_finish (node_at nodes a).governed (finish_at b d)) = rw runs refl in
    omega (arith, was, counted b d, less b d, counter_set (finish_at b d) nodes a (node_at nodes a) (node_ended (node_at nodes a)) (node_there nodes a inside))

-- an activity begins
counted_started : (nodes : List NodeValue) (old new : List (List ℕ)) (governed : Finish) (room : ℕ) → AreCounted nodes old → CountsOneMore governed old new
    → AreCounted (nodes ++ fresh_node governed room ∷ []) new
counted_started nodes old new governed room counted more b d =
    omega (arith, counted b d, more b d, counter_pushed (finish_at b d) nodes (fresh_node governed room))

-- places are made
pub counting_same : (nodes : List NodeValue) (old new : List (List ℕ)) → IsCounting nodes old → CountsSame old new → IsCounting nodes new
counting_same nodes old new h same = record { earlier = h.earlier; held = h.held; counted = λ a d. same a d ∙ h.counted a d }

-- ---- each call

-- a `finish`
pub counting_entered : (nodes : List NodeValue) (lists : List (List ℕ)) (a : ℕ) → IsCounting nodes lists → a < length nodes
    → IsCounting (changed_at nodes a node_entered) lists
counting_entered nodes lists a h inside = record {
  earlier = owners_set nodes a (node_entered (node_at nodes a)) h.earlier refl;
  held = are_open_entered nodes a h.held inside;
  counted = counted_set nodes lists a (node_entered (node_at nodes a)) h.counted inside refl refl;
}

-- the counter is 0 where nobody is awaited
none_awaited : (n : ℕ) → not (n == 0) ≡ false → n ≡ 0
none_awaited zero h = refl
none_awaited (suc n) h = absurd (grind arith)

-- an `endfinish`
pub counting_left : (nodes : List NodeValue) (lists : List (List ℕ)) (a : ℕ) → IsCounting nodes lists → a < length nodes → awaits_innermost nodes a ≡ false
    → IsCounting (changed_at nodes a node_left) lists
counting_left nodes lists a h inside empty =
    let none = none_awaited (counter (innermost_of a (node_at nodes a)) nodes) (sym (awaits_counter nodes (innermost_of a (node_at nodes a)) h.held) ∙ empty) in
    record {
      earlier = owners_set nodes a (node_left (node_at nodes a)) h.earlier refl;
      held = are_open_left nodes a h.held inside none;
      counted = counted_set nodes lists a (node_left (node_at nodes a)) h.counted inside refl refl;
    }

-- the end of an activity
pub counting_ended : (nodes : List NodeValue) (old new : List (List ℕ)) (a : ℕ) → IsCounting nodes old → a < length nodes → (node_at nodes a).ended ≡ false
    → (node_at nodes a).opened ≡ 0 → CountsOneMore (node_at nodes a).governed new old → IsCounting (changed_at nodes a node_ended) new
counting_ended nodes old new a h inside runs closed less = record {
  earlier = owners_set nodes a (node_ended (node_at nodes a)) h.earlier refl;
  held = are_open_ended nodes a h.held inside closed;
  counted = counted_ended nodes old new a h.counted inside runs less;
}

-- a finish is itself
both_same : (a d : ℕ) → ((a == a) && (d == d)) ≡ true
both_same a d =
    let owner : (a == a) ≡ true = grind (arith, nat_tests) in
    let depth : (d == d) ≡ true = grind (arith, nat_tests) in
    rw (owner, depth) refl

-- it is counted until then
pub counted_until : (nodes : List NodeValue) (lists : List (List ℕ)) (a : ℕ) → IsCounting nodes lists → a < length nodes → (node_at nodes a).ended ≡ false
    → CountIs (λ n. 0 < n) lists (node_at nodes a).governed
counted_until nodes lists a h inside runs o owned =
    let it = finish_at o (node_at nodes a).governed.depth in
    let counted : is_counted it (node_at nodes a) ≡ true = rw (runs, owned) (both_same o (node_at nodes a).governed.depth) in
    rw (h.counted o (node_at nodes a).governed.depth) (counted_at it nodes a (node_at nodes a) (node_there nodes a inside) counted)

-- the start of an activity
pub counting_spawned : (nodes : List NodeValue) (old new : List (List ℕ)) (a room : ℕ) → IsCounting nodes old → a < length nodes
    → (node_at nodes a).ended ≡ false → CountsOneMore (governing_of a (node_at nodes a)) old new
    → IsCounting (nodes ++ fresh_node (governing_of a (node_at nodes a)) room ∷ []) new
counting_spawned nodes old new a room h inside runs more = record {
  earlier = owners_pushed nodes a room h.earlier inside;
  held = are_open_spawned nodes a room h.held inside runs;
  counted = counted_started nodes old new (governing_of a (node_at nodes a)) room h.counted more;
}

-- no counter is as great as there are activities
pub counts_fit : (nodes : List NodeValue) (lists : List (List ℕ)) (a : ℕ) (f : Finish) → IsCounting nodes lists → a < length nodes → length nodes < 2 ^ 32
    → CountIs (λ n. n + 1 < 2 ^ 32) lists f
counts_fit nodes lists a f h inside numbers o owned =
    omega (arith, h.counted o f.depth, counter_below o f.depth nodes h.earlier (omega arith))

-- ---- what is asked

-- nobody is awaited where the counter is 0
pub empty_counted : (nodes : List NodeValue) (lists : List (List ℕ)) (a depth n : ℕ) (x : NodeValue) → IsCounting nodes lists → a < length nodes
    → x ≡ get_or nodes a x → depth ≡ x.opened → n ≡ count_in lists a depth → (n == 0) ≡ not (awaits_innermost nodes a)
empty_counted nodes lists a depth n x h inside read opened is =
    ap (λ (k : ℕ). k == 0) counts ∙ twice (counter (innermost_of a (node_at nodes a)) nodes == 0)
    ∙ ap not (sym (awaits_counter nodes (innermost_of a (node_at nodes a)) h.held))
  where
    deep : depth ≡ (node_at nodes a).opened
    deep = opened ∙ ap (λ (y : NodeValue). y.opened) (read_any nodes a x _ inside read)

    counts : n ≡ counter (innermost_of a (node_at nodes a)) nodes
    counts = is ∙ ap (count_in lists a) deep ∙ h.counted a (node_at nodes a).opened

    twice : (b : Bool) → b ≡ not (not b)
    twice true = refl
    twice false = refl
