use Rattle.std.proofs.Common.{◌≡◌, ◌∙◌, ℕ, ◌<◌, ◌++◌, List, length, get_or, slice_get, Some, ap, arith, subst, sym}
use Rattle.std.specs.Prelude.{reverse}
use Rattle.std.proofs.lemmas.Option.{get_or_from_slice_get, slice_get-get_or}
use Rattle.xk_outcomes.specs.Entries.{EntriesValue, led_by}
use Rattle.xk_outcomes.specs.Found.{along, first_found}
use Rattle.xk_outcomes.specs.Ways.{way_of, ways_in}
use Rattle.xk_outcomes.proofs.EntriesLemmas.{many_led, way_more}
use Rattle.xk_outcomes.proofs.entries.Entries.way_to.Goals as goal

pub loop-at-init : goal.loop-at-init
loop-at-init c =
    let edges = c.self.inside.edges.items in
    let ways : List (List ℕ) = ways_in c.self.inside.ways.items in
    let many = many_led ways c.self.inside.start edges in
    let inside : c.args.number < length (led_by ways c.self.inside.start edges) = subst
    (λ (e : EntriesValue). c.args.number < length e.all) (sym c.self.view_is) c.requires in
    record {
      within = omega (arith, many, inside);
      leads = ap (λ l. along l (get_or (led_by ways c.self.inside.start edges) c.args.number (first_found c.self.inside.start)))
          c.new-ranks.ensures.items;
    }

pub loop-at-smaller : goal.loop-at-smaller
loop-at-smaller c =
    let ways : List (List ℕ) = ways_in c.self.inside.ways.items in
    (way_more ways c.self.inside.start c.self.inside.edges.items c.loop-at.at c.index-edge.result.now c.loop-at.ranks.items
    c.put_backward.new.ranks.items
    c.self.invariant.behind c.loop-at.invariant.within c.loop-at-test.true c.index-edge.ensures
    (subst (λ (e : EntriesValue). c.put_backward.new.ranks.items ≡ c.loop-at.ranks.items ++ reverse
    (way_of e.ways c.index-edge.result.now.way)) (sym c.self.view_is)
    c.in_ok-put_backward.ensures)).0

pub loop-at-preserved : goal.loop-at-preserved
loop-at-preserved c =
    let ways : List (List ℕ) = ways_in c.self.inside.ways.items in
    let more = way_more ways c.self.inside.start c.self.inside.edges.items c.loop-at.at c.index-edge.result.now c.loop-at.ranks.items
    c.put_backward.new.ranks.items
    c.self.invariant.behind c.loop-at.invariant.within c.loop-at-test.true c.index-edge.ensures
    (subst (λ (e : EntriesValue). c.put_backward.new.ranks.items ≡ c.loop-at.ranks.items ++ reverse
    (way_of e.ways c.index-edge.result.now.way)) (sym c.self.view_is)
    c.in_ok-put_backward.ensures) in
    let less = more.0 in
    let within = c.loop-at.invariant.within in
    record {
      within = omega (arith, less, within);
      leads = more.1 ∙ c.loop-at.invariant.leads;
    }

pub returns-clause-leads : goal.returns-clause-leads
returns-clause-leads c x there =
    let start = c.self.inside.start in
    let edges = c.self.inside.edges.items in
    let ways : List (List ℕ) = ways_in c.self.inside.ways.items in
    let all = led_by ways start edges in
    let way = c.loop-at.ranks.items in
    let inside : c.args.number < length all = subst (λ (e : EntriesValue). c.args.number < length e.all) (sym c.self.view_is) c.requires in
    let from : get_or all c.loop-at.at (first_found start) ≡ x =
    get_or_from_slice_get all c.loop-at.at x (first_found start) (subst (λ (e : EntriesValue). slice_get e.all c.loop-at.at ≡ Some x) (sym c.self.view_is) there) in
    subst (λ (e : EntriesValue). slice_get e.all c.args.number ≡ Some (along way x)) c.self.view_is
    (slice_get-get_or all c.args.number (first_found start) inside ∙ ap Some (sym c.loop-at.invariant.leads ∙ ap (along way) from))
