use Rattle.std.proofs.Common.{◌≡◌, ◌∙◌, ◌+◌, ◌<◌, ℕ, List, get_or, length, sym, ap, subst, arith}
use Rattle.xk_readings.specs.Paths.{AreWaysOf, paths_of}
use Rattle.xk_readings.proofs.CountLemmas.{counted_all, counted_more, nothing_counted, ways_next}
use Rattle.xk_readings.proofs.counts.count_along.Goals as goal

pub returns-then-are_none : goal.returns-then-are_none
returns-then-are_none c =
    let moves = c.args.moves.now in
    let n = c.loop.counter in
    let ways = c.loop.ways.items in
    let value = c.deref-in-loop.ensures.value in
    let less = c.loop-test.true in
    let none = nothing_counted moves (length c.args.ends.now) n ways c.requires.some c.requires.between c.loop.invariant.many c.loop.invariant.ways
    (subst (λ (l : List ℕ). (k : ℕ) → k < length l → get_or l k 0 ≡ 0) value (c.are_none.ensures c.if-are_none.true)) in
    counted_all moves c.args.ends.now n c.args.longest c.loop.count (omega (arith, less)) none c.loop.invariant.count

pub loop-preserved : goal.loop-preserved
loop-preserved c =
    let moves = c.args.moves.now in
    let ends = c.args.ends.now in
    let n = c.loop.counter in
    let next = c.in_ok-ways-2.ways.items in
    let here = c.deref-in-loop-2.ensures.value in
    let there = c.deref-in-loop-3.ensures.value in
    let are = ways_next moves n c.deref-in-loop-2.result.now next c.in_ok-ways-2.ensures.ways
    (subst (AreWaysOf (paths_of moves n)) (sym here) c.loop.invariant.ways) in
    record {
      many = c.in_ok-ways-2.ensures.many ∙ ap length here ∙ c.loop.invariant.many;
      ways = are;
      count = counted_more moves ends n c.loop.count c.over.result c.sum-count.result c.loop.invariant.count
          (c.over.ensures (paths_of moves (n + 1)) (subst (AreWaysOf (paths_of moves (n + 1))) (sym there) are)) c.sum-count.ensures;
    }
