use Rattle.std.proofs.Common.{◌≡◌, ◌∙◌, List, Bool, length, slice_get, ap, subst, sym, refl, true, arith}
use Rattle.std.proofs.lemmas.Bool.{true≢false}
use Rattle.std.proofs.lemmas.Result.{IfOk-weaker}
use Rattle.xk_readings.specs.declared.listing.Readings.{Readings as Listing}
use Rattle.xk_readings.specs.Graphs.{graph}
use Rattle.xk_readings.specs.Readings.{AreAllListed, AreShown}
use Rattle.xk_readings.specs.Rising.{AreFirst}
use Rattle.xk_readings.specs.Useful.{AreUseful}
use Rattle.xk_readings.proofs.TrimLemmas.{IsTrimmed, all_whole, first_whole, longest_trimmed, readable_trimmed}
use Rattle.xk_readings.proofs.TrimLemmas.{shown_whole, trim_trimmed, trimmed, within_trimmed}
use Rattle.xk_readings.proofs.all_readings.readings.Goals.{In_ok-graph}
use Rattle.xk_readings.proofs.all_readings.readings.Goals as goal

pub returns-then-not-is_first_useful-clause-all : goal.returns-then-not-is_first_useful-clause-all
returns-then-not-is_first_useful-clause-all c _ n acts numbers r =
    absurd (true≢false (sym (c.if-not-is_first_useful.ensures.1
    (ap (λ (l : List Bool). slice_get l 0) c.deref.ensures.value ∙ c.in_ok-useful.ensures.marked 0 (n, acts, numbers, r)))))

pub useful_edges-requires : goal.useful_edges-requires
useful_edges-requires c j e there =
    let to = (c.requires.within e (j, there)).1 in
    let many = c.in_ok-useful.ensures.many in
    let value = ap length c.deref-2.ensures.value in
    omega (arith, to, many, value)

trim : (c : In_ok-graph) → IsTrimmed (graph c.args.edges.now c.args.ends.now) c.in_ok-graph.graph
trim c =
    trimmed c.args.edges.now c.in_ok-kept.kept.items c.args.ends.now c.deref-2.result.now c.in_ok-graph.graph
    (subst (AreUseful (graph c.args.edges.now c.args.ends.now)) (sym c.deref-2.ensures.value) c.in_ok-useful.ensures) c.in_ok-kept.ensures
    c.in_ok-graph.ensures

pub walk_all-requires-clause-within : goal.walk_all-requires-clause-within
walk_all-requires-clause-within c =
    within_trimmed (graph c.args.edges.now c.args.ends.now) c.in_ok-graph.graph
    (trim (goal.at.walk_all-requires-clause-within c).In_ok-graph) c.requires.within

pub walk_all-requires-clause-trim : goal.walk_all-requires-clause-trim
walk_all-requires-clause-trim c = trim_trimmed (graph c.args.edges.now c.args.ends.now) c.in_ok-graph.graph
    (trim (goal.at.walk_all-requires-clause-trim c).In_ok-graph)

pub walk_all-requires-clause-readable : goal.walk_all-requires-clause-readable
walk_all-requires-clause-readable c =
    readable_trimmed (graph c.args.edges.now c.args.ends.now) c.in_ok-graph.graph
    (trim (goal.at.walk_all-requires-clause-readable c).In_ok-graph) 0
    (c.in_ok-useful.ensures.readable 0 (ap (λ (l : List Bool). slice_get l 0) (sym c.deref.ensures.value)
    ∙ c.if-not-is_first_useful.ensures.0 refl))

pub walk_all-requires-clause-longest : goal.walk_all-requires-clause-longest
walk_all-requires-clause-longest c =
    longest_trimmed (graph c.args.edges.now c.args.ends.now) c.in_ok-graph.graph
    (trim (goal.at.walk_all-requires-clause-longest c).In_ok-graph) c.args.longest c.requires.longest

pub returns-clause-shown : goal.returns-clause-shown
returns-clause-shown c =
    let g = graph c.args.edges.now c.args.ends.now in
    let h = c.in_ok-graph.graph in
    IfOk-weaker c.walk_all.result (λ (r : Listing). AreShown h r.list.items) (λ (r : Listing). AreShown g r.list.items)
    (λ r. shown_whole g h (trim (goal.at.returns-clause-shown c).In_ok-graph) r.list.items) c.walk_all.ensures.shown

pub returns-clause-all : goal.returns-clause-all
returns-clause-all c =
    let g = graph c.args.edges.now c.args.ends.now in
    let h = c.in_ok-graph.graph in
    IfOk-weaker c.walk_all.result (λ (r : Listing). r.complete ≡ true → AreAllListed h r.list.items) (λ (r : Listing). r.complete ≡ true
    → AreAllListed g r.list.items)
    (λ r all done. all_whole g h (trim (goal.at.returns-clause-all c).In_ok-graph) r.list.items (all done)) c.walk_all.ensures.all

pub returns-clause-first : goal.returns-clause-first
returns-clause-first c =
    let g = graph c.args.edges.now c.args.ends.now in
    let h = c.in_ok-graph.graph in
    IfOk-weaker c.walk_all.result (λ (r : Listing). AreFirst h r.list.items) (λ (r : Listing). AreFirst g r.list.items)
    (λ r. first_whole g h (trim (goal.at.returns-clause-first c).In_ok-graph) r.list.items) c.walk_all.ensures.first
