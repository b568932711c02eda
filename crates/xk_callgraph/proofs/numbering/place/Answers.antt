use Rattle.std.proofs.Common.{◌≡◌, ◌<◌, vec_len, subst, sym, slice_get, Some, List, ℕ, arith}
use Rattle.xk_callgraph.specs.CallGraph.{adjacency, IsCall}
use Rattle.xk_callgraph.proofs.NumberingLemmas.{zeros_set, numbered_more, length-adjacency}
use Rattle.xk_callgraph.proofs.numbering.place.Goals as goal

pub keeps_waiting-requires : goal.keeps_waiting-requires
keeps_waiting-requires c = record {
  within = λ k j e.
      let call : IsCall (adjacency c.args.calls.now) c.args.i k j = subst (λ (xs : List ℕ). slice_get xs k ≡ Some j) c.called_by.ensures e in
      let h = c.requires.within c.args.i k j call in
      omega (arith, h, length-adjacency c.args.calls.now, c.requires.all);
}

pub returns-in-Some-clause-awaited : goal.returns-in-Some-clause-awaited
returns-in-Some-clause-awaited c =
    let w = c.in-Some.ensures in
    (w.0, subst (λ (xs : List ℕ). slice_get xs c.in-Some.k ≡ Some w.0) c.called_by.ensures w.1.0, w.1.1)

pub returns-in_ok-push-in-None-clause-numbered : goal.returns-in_ok-push-in-None-clause-numbered
returns-in_ok-push-in-None-clause-numbered c =
    numbered_more (adjacency c.args.calls.now) c.args.numbers.now c.args.i (vec_len c.args.placed.now) c.len.result c.requires.numbered c.requires.top c.requires.method
    c.requires.none (omega (arith, c.len.ensures, c.in_ok-push-in-None.ensures.len))
    (λ k j call. c.in-None.ensures k j (subst (λ (xs : List ℕ). slice_get xs k ≡ Some j) (sym c.called_by.ensures) call))

pub returns-in_ok-push-in-None-clause-less : goal.returns-in_ok-push-in-None-clause-less
returns-in_ok-push-in-None-clause-less c =
    λ _. let full : 0 < c.len.result = omega (arith, c.len.ensures, c.in_ok-push-in-None.ensures.len) in
    zeros_set c.args.numbers.now c.args.i c.len.result c.requires.method c.requires.none full
