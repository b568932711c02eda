use Rattle.std.proofs.Common.{◌≡◌, ◌∙◌, ◌+◌, ◌<◌, ℕ, length, get_or, slice_get, Some, None, ap, sym, subst, refl, arith}
use Rattle.std.proofs.lemmas.Option.{slice_get_within}
use Rattle.xk_readings.specs.declared.edge.Edge.{Edge}
use Rattle.xk_readings.specs.Closures.{IsSpread}
use Rattle.xk_readings.specs.Ways.{HasStanding, WaysValue, at, left}
use Rattle.xk_readings.proofs.GrowthLemmas.{edges_loud, edges_more, is_loud, is_silent, kept_grown, spread_more}
use Rattle.xk_readings.proofs.GrowthLemmas.{along_of}
use Rattle.xk_readings.proofs.ListLemmas.{read}
use Rattle.xk_readings.proofs.UsefulLemmas.{no_edge}
use Rattle.xk_readings.proofs.closure.spread.Goals.{then-is_none+in_ok-lengthen, else-is_none}
use Rattle.xk_readings.proofs.closure.spread.Goals as goal

pub lengthen-requires-clause-to : goal.lengthen-requires-clause-to
lengthen-requires-clause-to c =
    let edges = c.edges_from-edge-items.result.now in
    let at = c.loop-edge.edge-index in
    let e = get_or edges at no_edge in
    let has = (c.edges_from-edge-items.ensures.each at e (read edges at no_edge c.loop-edge-test.true)).0 in
    let is = (c.requires.within e has).1 in
    let now = c.loop-edge.invariant.spread.room in
    let room = c.requires.room in
    omega (arith, is, now, room)

pub loop-edge-preserved : goal.loop-edge-preserved
loop-edge-preserved c =
    let g = c.args.graph.now in
    let old = c.args.ways.now in
    let now = c.loop-edge.ways in
    let number = c.args.number in
    let numbers = (at old.all number).numbers in
    let edges = c.edges_from-edge-items.result.now in
    let index = c.loop-edge.edge-index in
    let e = get_or edges index no_edge in
    let there = read edges index no_edge c.loop-edge-test.true in
    let known = c.edges_from-edge-items.ensures.each index e there in
    elim c.if-is_none.branch [
      | then-is_none+in_ok-lengthen w ↦ (
          let new = w.lengthen.new.self in
          let silent = is_silent e.printed c.is_none.result c.is_none.ensures w.if-is_none.true in
          record {
            spread = subst (λ (z : WaysValue). IsSpread g numbers old z) (sym w.ways-is)
                (spread_more g numbers old now new number e c.requires.trim c.loop-edge.invariant.spread c.requires.there refl known.0
                (known.1 ∙ c.node.ensures) silent
                w.lengthen.ensures.all w.lengthen.ensures.room);
            since = ap (λ (z : WaysValue). z.since) w.ways-is ∙ w.lengthen.ensures.since ∙ c.loop-edge.invariant.since;
            left = ap (λ (z : WaysValue). length z.all + left z) w.ways-is ∙ w.in_ok-lengthen.ensures.left ∙ c.loop-edge.invariant.left;
            edges = subst (λ (z : WaysValue). (j : ℕ) (f : Edge) → j < index + 1 → slice_get edges j ≡ Some f → f.printed ≡ None
                → HasStanding z.all z.since f.to) (sym w.ways-is)
                (edges_more edges index e now new (kept_grown now.all new.all (along_of e now.all number) w.lengthen.ensures.all)
                w.lengthen.ensures.since there
                w.in_ok-lengthen.ensures.there c.loop-edge.invariant.edges);
          })
      | else-is_none w ↦ record {
        spread = subst (λ (z : WaysValue). IsSpread g numbers old z) (sym w.ways-is) c.loop-edge.invariant.spread;
        since = ap (λ (z : WaysValue). z.since) w.ways-is ∙ c.loop-edge.invariant.since;
        left = ap (λ (z : WaysValue). length z.all + left z) w.ways-is ∙ c.loop-edge.invariant.left;
        edges = subst (λ (z : WaysValue). (j : ℕ) (f : Edge) → j < index + 1 → slice_get edges j ≡ Some f → f.printed ≡ None
            → HasStanding z.all z.since f.to) (sym w.ways-is)
            (edges_loud edges index e now there (is_loud e.printed c.is_none.result c.is_none.ensures w.if-is_none.false)
            c.loop-edge.invariant.edges);
      }
    ]

pub returns-clause-edges : goal.returns-clause-edges
returns-clause-edges c e has begins silent =
    let edges = c.edges_from-edge-items.result.now in
    let h = c.edges_from-edge-items.ensures.all e has (begins ∙ sym c.node.ensures) in
    let inside = slice_get_within edges h.0 e h.1 in
    let over = c.loop-edge-test.false in
    c.loop-edge.invariant.edges h.0 e (omega (arith, inside, over)) h.1 silent
