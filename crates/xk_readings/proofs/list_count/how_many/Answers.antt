use Rattle.std.proofs.Common.{◌≡◌, ◌∙◌, ◌⊎◌, inl, inr, ℕ, Bool, List, length, slice_get, ap, refl, subst, sym, arith}
use Rattle.std.proofs.lemmas.Result.{IfOk-weaker}
use Rattle.xk_readings.specs.Beginnings.{HasMoreSets}
use Rattle.xk_readings.specs.Counts.{most_counted}
use Rattle.xk_readings.specs.Graphs.{graph}
use Rattle.xk_readings.specs.Useful.{AreUseful}
use Rattle.xk_readings.proofs.TrimLemmas.{IsTrimmed, least_whole, longest_trimmed, many_whole, readable_trimmed, sets_whole, trim_trimmed}
use Rattle.xk_readings.proofs.TrimLemmas.{trimmed, within_trimmed}
use Rattle.xk_readings.proofs.list_count.how_many.Goals.{In_ok-graph}
use Rattle.xk_readings.proofs.list_count.how_many.Goals as goal

pub useful_edges-requires : goal.useful_edges-requires
useful_edges-requires c j e there =
    let to = (c.requires.within e (j, there)).1 in
    let many = c.in_ok-useful.ensures.many in
    let value = ap length c.deref-2.ensures.value in
    omega (arith, to, many, value)

trim : (c : In_ok-graph) → IsTrimmed (graph c.args.edges.now c.args.ends.now) c.in_ok-graph.graph
trim c =
    trimmed c.args.edges.now c.in_ok-kept.kept.items c.args.ends.now c.deref-2.result.now c.in_ok-graph.graph
    (subst (AreUseful (graph c.args.edges.now c.args.ends.now)) (sym c.deref-2.ensures.value) c.in_ok-useful.ensures) c.in_ok-kept.ensures
    c.in_ok-graph.ensures

pub count_in-requires-clause-within : goal.count_in-requires-clause-within
count_in-requires-clause-within c =
    within_trimmed (graph c.args.edges.now c.args.ends.now) c.in_ok-graph.graph
    (trim (goal.at.count_in-requires-clause-within c).In_ok-graph) c.requires.within

pub count_in-requires-clause-longest : goal.count_in-requires-clause-longest
count_in-requires-clause-longest c =
    longest_trimmed (graph c.args.edges.now c.args.ends.now) c.in_ok-graph.graph
    (trim (goal.at.count_in-requires-clause-longest c).In_ok-graph) c.args.longest c.requires.longest

pub count_in-requires-clause-trim : goal.count_in-requires-clause-trim
count_in-requires-clause-trim c =
    trim_trimmed (graph c.args.edges.now c.args.ends.now) c.in_ok-graph.graph
    (trim (goal.at.count_in-requires-clause-trim c).In_ok-graph)

pub count_in-requires-clause-readable : goal.count_in-requires-clause-readable
count_in-requires-clause-readable c =
    readable_trimmed (graph c.args.edges.now c.args.ends.now) c.in_ok-graph.graph
    (trim (goal.at.count_in-requires-clause-readable c).In_ok-graph) 0
    (c.in_ok-useful.ensures.readable 0 (ap (λ (l : List Bool). slice_get l 0) (sym c.deref.ensures.value)
    ∙ c.if-not-is_first_useful.ensures.0 refl))

pub returns-clause-least : goal.returns-clause-least
returns-clause-least c =
    let g = graph c.args.edges.now c.args.ends.now in
    IfOk-weaker c.count_in.result _ _ (λ r. least_whole g c.in_ok-graph.graph (trim (goal.at.returns-clause-least c).In_ok-graph) r.count)
    c.count_in.ensures.least

pub returns-clause-exact : goal.returns-clause-exact
returns-clause-exact c =
    let g = graph c.args.edges.now c.args.ends.now in
    IfOk-weaker c.count_in.result _ _ (λ r many exact. many_whole g c.in_ok-graph.graph (trim (goal.at.returns-clause-exact c).In_ok-graph) r.count
    (many exact))
    c.count_in.ensures.exact

pub returns-clause-limit : goal.returns-clause-limit
returns-clause-limit c =
    IfOk-weaker c.count_in.result _ _ (λ r limit cut. by r.count (limit cut)) c.count_in.ensures.limit
  where
    by : (count : ℕ) → HasMoreSets c.in_ok-graph.graph c.args.limit ⊎ (count ≡ most_counted)
        → HasMoreSets (graph c.args.edges.now c.args.ends.now) c.args.limit ⊎ (count ≡ most_counted)
    by count (inl sets) =
        inl (sets_whole (graph c.args.edges.now c.args.ends.now) c.in_ok-graph.graph (trim (goal.at.returns-clause-limit c).In_ok-graph)
        c.args.limit sets)
    by count (inr most) = inr most
