use Rattle.std.proofs.Common.{◌≡◌, ◌<◌, ◌++◌, ◌∷◌, [], ℕ, List, length, set, slice_get, slice_index, Some, inl, inr, refl, subst, sym, ap, ◌∙◌, arith}
use Rattle.std.proofs.lemmas.Bool.{cases_lt}
use Rattle.std.proofs.lemmas.Map.Keys.{le_from_not_gt}
use Rattle.std.proofs.Math.ListN.{length-set}
use Rattle.xk_callgraph.specs.CallGraph.{adjacency, zeros}
use Rattle.xk_callgraph.specs.TopologicalOrder.{pending, MarksReached}
use Rattle.xk_callgraph.proofs.NumberingLemmas.{length-adjacency}
use Rattle.xk_callgraph.proofs.ReachabilityLemmas.{within_full, get_front}
use Rattle.xk_callgraph.proofs.PendingCallLemmas.{ready_none, not_in_empty, no_keys}
use Rattle.xk_callgraph.proofs.OrderLemmas.{IsBegun, begun_none, begun_more, calls_left, start_free, only_start, none_left, all_later, zeros_gone, zeros_within}
use Rattle.xk_callgraph.proofs.topological_order.place_all.Goals as goal

first_left : (calls : List (List ℕ)) (start : ℕ) (seen : List ℕ) → MarksReached calls start seen → 0 < slice_index seen start
first_left calls start seen marks = marks.complete start ([], refl)

pub place-requires-clause-free : goal.place-requires-clause-free
place-requires-clause-free c =
    c.requires.counts c.args.start ∙ start_free (adjacency c.args.calls.now) c.args.start c.args.left.now c.requires.falls c.requires.left

pub place-requires-clause-called : goal.place-requires-clause-called
place-requires-clause-called c =
    let calls = adjacency c.args.calls.now in
    calls_left calls c.args.start c.args.left.now c.args.left.now [] c.args.start c.requires.left (begun_none calls c.args.start c.args.left.now)
    (first_left calls c.args.start c.args.left.now c.requires.left)

pub place-requires-clause-ready : goal.place-requires-clause-ready
place-requires-clause-ready c =
    let calls = adjacency c.args.calls.now in
    ready_none c.args.left.now c.args.awaited.now c.new-ready.result c.args.start c.new-ready.ensures.empty
    (within_full c.args.left.now c.args.start (first_left calls c.args.start c.args.left.now c.requires.left))
    (λ j m z. only_start calls c.args.start c.args.left.now c.requires.left j m (sym (c.requires.counts j) ∙ z))

pub loop-i-init : goal.loop-i-init
loop-i-init c =
    let calls = adjacency c.args.calls.now in
    let left = c.args.left.now in
    let start = c.args.start in
    let items : c.push.new.self.items ≡ c.args.start ∷ [] =
    c.in_ok-push.ensures.items ∙ ap (λ (xs : List ℕ). xs ++ c.args.start ∷ []) c.new-order.ensures.items in
    let all : length left ≡ length calls = omega (arith, length-adjacency c.args.calls.now) in
    let one : IsBegun calls start left (set left start 0) ([] ++ start ∷ []) = begun_more calls start left left [] start all c.requires.left (begun_none calls start left)
    (first_left calls start left c.requires.left) (start_free calls start left c.requires.falls c.requires.left)
    (λ j m z. let e = only_start calls start left c.requires.left j m z in omega arith) in
    record {
      begun = subst (λ (xs : List ℕ). IsBegun calls start left c.place.new.left xs) (sym items)
          (subst (λ (xs : List ℕ). IsBegun calls start left xs (start ∷ [])) (sym c.in_ok-place.ensures.left) one);
      counts = c.in_ok-place.ensures.counts;
      ready = c.in_ok-place.ensures.ready;
      first = ap (λ (xs : List ℕ). slice_get xs 0) items;
    }

pub place-requires-in-Some-clause-called : goal.place-requires-in-Some-clause-called
place-requires-in-Some-clause-called c =
    let calls = adjacency c.args.calls.now in
    calls_left calls c.args.start c.args.left.now c.loop-i.left c.loop-i.order.items c.in-Some.i c.requires.left c.loop-i.invariant.begun
    (c.loop-i.invariant.ready.unplaced c.in-Some.i c.in-Some.ensures.member)

pub loop-i-smaller : goal.loop-i-smaller
loop-i-smaller c =
    let there = c.loop-i.invariant.ready.unplaced c.in-Some.i c.in-Some.ensures.member in
    let more = zeros_gone c.loop-i.left c.in-Some.i there in
    let most = zeros_within (set c.loop-i.left c.in-Some.i 0) in
    let same = ap zeros c.in_ok-place-2.ensures.left in
    let len = ap (λ (xs : List ℕ). length xs) c.in_ok-place-2.ensures.left in
    omega (arith, length-set {A = ℕ})

pub loop-i-preserved : goal.loop-i-preserved
loop-i-preserved c =
    let calls = adjacency c.args.calls.now in
    let start = c.args.start in
    let left = c.loop-i.left in
    let order = c.loop-i.order.items in
    let i = c.in-Some.i in
    let there : 0 < slice_index left i = c.loop-i.invariant.ready.unplaced i c.in-Some.ensures.member in
    let free = c.loop-i.invariant.ready.free i c.in-Some.ensures.member in
    let all : length left ≡ length calls = omega (arith, length-adjacency c.args.calls.now) in
    let next : IsBegun calls start c.args.left.now (set left i 0) (order ++ i ∷ []) =
    begun_more calls start c.args.left.now left order i all c.requires.left c.loop-i.invariant.begun there (sym (c.loop-i.invariant.counts i) ∙ free)
    (λ j m z. le_from_not_gt i j (c.in-Some.ensures.least j (c.loop-i.invariant.ready.all j m (c.loop-i.invariant.counts j ∙ z)))) in
    record {
      begun = subst (λ (xs : List ℕ). IsBegun calls start c.args.left.now c.place-in-Some.new.left xs) (sym c.in_ok-push-2.ensures.items)
          (subst (λ (xs : List ℕ). IsBegun calls start c.args.left.now xs (order ++ i ∷ [])) (sym c.in_ok-place-2.ensures.left) next);
      counts = c.in_ok-place-2.ensures.counts;
      ready = c.in_ok-place-2.ensures.ready;
      first = subst (λ (xs : List ℕ). slice_get xs 0 ≡ Some start) (sym c.in_ok-push-2.ensures.items) (get_front order (i ∷ []) 0 start c.loop-i.invariant.first);
    }

pub returns-clause-later : goal.returns-clause-later
returns-clause-later c =
    let calls = adjacency c.args.calls.now in
    let left = c.loop-i.left in
    let waiting : (j : ℕ) → 0 < slice_index left j → 0 < pending (length calls) calls left j = λ j m.
    elim (cases_lt 0 (pending (length calls) calls left j)) [
      | inl full ↦ full
      | inr z ↦
          let free : slice_index c.loop-i.awaited j ≡ 0 = omega (arith, c.loop-i.invariant.counts j) in
          absurd (not_in_empty c.loop-i.ready j (no_keys c.loop-i.ready.keys c.in_default.ensures.variant.1) (c.loop-i.invariant.ready.all j m free))
    ] in
    all_later calls c.args.start c.args.left.now left c.loop-i.order.items c.requires.left c.loop-i.invariant.begun (none_left calls left c.requires.falls waiting)
