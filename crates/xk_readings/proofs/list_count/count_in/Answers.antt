use Rattle.std.proofs.Common.{◌≡◌, ◌∙◌, ◌+◌, inl, inr, Bool, List, length, subst, sym, true≢false}
use Rattle.std.proofs.lemmas.Bool.Decides.{Decides-ltb}
use Rattle.xk_readings.specs.declared.edge.Edge.{Edge}
use Rattle.xk_readings.specs.Counts.{most_counted}
use Rattle.xk_readings.specs.Paths.{AreBetween, counted, lists_below}
use Rattle.xk_readings.proofs.BeginningLemmas.{more_sets}
use Rattle.xk_readings.proofs.HowManyLemmas.{as_many, at_least, between, most_is}
use Rattle.xk_readings.proofs.list_count.count_in.Goals.{then-complete, else-complete}
use Rattle.xk_readings.proofs.list_count.count_in.Goals as goal

pub count_along-requires-clause-between : goal.count_along-requires-clause-between
count_along-requires-clause-between c =
    let a = c.in_ok-automaton.automaton in
    let m = c.in_ok-automaton.ensures.moves in
    let ends = c.in_ok-ends.ends.items in
    subst (λ (l : List Edge). AreBetween l (length c.deref-2.result.now)) (sym c.deref.ensures.value)
    (subst (λ (l : List Bool). AreBetween a.moves.items (length l)) (sym c.deref-2.ensures.value)
    (between c.args.graph.now a.states a.moves.items m.0 ends c.in_ok-automaton.ensures.states m.1 c.in_ok-ends.ensures))

pub returns-clause-least : goal.returns-clause-least
returns-clause-least c =
    let a = c.in_ok-automaton.automaton in
    let m = c.in_ok-automaton.ensures.moves in
    let ends = c.in_ok-ends.ends.items in
    at_least c.args.graph.now a.states a.moves.items m.0 ends c.in_ok-automaton.ensures.states m.1 c.in_ok-ends.ensures c.in_ok-count.count
    (c.args.longest + 1)
    (subst (λ (l : List Edge). c.in_ok-count.count ≡ counted (length (lists_below l ends (c.args.longest + 1)))) c.deref.ensures.value
    (subst (λ (l : List Bool). c.in_ok-count.count ≡ counted (length (lists_below c.deref.result.now l (c.args.longest + 1)))) c.deref-2.ensures.value
    c.in_ok-count.ensures))

pub returns-clause-exact : goal.returns-clause-exact
returns-clause-exact c exact =
    let a = c.in_ok-automaton.automaton in
    let m = c.in_ok-automaton.ensures.moves in
    let ends = c.in_ok-ends.ends.items in
    elim c.if-complete.branch [
      | then-complete w ↦
          let less = (Decides-ltb c.in_ok-count.count most_counted).0 (sym w.result-is ∙ exact) in
          as_many c.args.graph.now a.states a.moves.items m.0 ends c.in_ok-automaton.ensures.states m.1 c.in_ok-ends.ensures c.in_ok-count.count
          c.args.longest
          (subst (λ (l : List Edge). c.in_ok-count.count ≡ counted (length (lists_below l ends (c.args.longest + 1)))) c.deref.ensures.value
          (subst (λ (l : List Bool). c.in_ok-count.count ≡ counted (length (lists_below c.deref.result.now l (c.args.longest + 1)))) c.deref-2.ensures.value
          c.in_ok-count.ensures)) less (m.2 w.if-complete.true) c.requires.longest
      | else-complete w ↦ absurd (true≢false (sym exact ∙ w.result-is ∙ w.if-complete.false))
    ]

pub returns-clause-limit : goal.returns-clause-limit
returns-clause-limit c cut =
    let a = c.in_ok-automaton.automaton in
    elim c.if-complete.branch [
      | then-complete w ↦
          inr (most_is _ c.in_ok-count.count c.in_ok-count.ensures
          (λ less. true≢false (sym ((Decides-ltb c.in_ok-count.count most_counted).1 less) ∙ sym w.result-is ∙ cut)))
      | else-complete w ↦
          inl (more_sets c.args.graph.now a.states c.args.limit c.requires.trim c.requires.readable c.in_ok-automaton.ensures.states
          c.in_ok-automaton.ensures.once (c.in_ok-automaton.ensures.limit w.if-complete.false))
    ]
