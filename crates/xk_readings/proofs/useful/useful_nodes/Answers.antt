use Rattle.std.proofs.Common.{◌∙◌, length, subst, sym, ap, slice_get, arith, Bool, List}
use Rattle.std.proofs.lemmas.List.{with_items_is}
use Rattle.xk_readings.specs.Graphs.{graph}
use Rattle.xk_readings.specs.Useful.{AreUseful}
use Rattle.xk_readings.proofs.UsefulLemmas.{all_marked}
use Rattle.xk_readings.proofs.useful.useful_nodes.Goals as goal

pub returns : goal.returns
returns c =
    let new = c.mark_along.new.useful in
    let value = ap length c.deref_mut.ensures.value in
    let kept = c.passes.useful.ok.0 in
    let same = c.mark_along.auto.useful in
    let g = graph c.args.edges.now c.args.ends.now in
    let is = with_items_is c.passes.useful new (omega (arith, value, kept, same)) in
    subst (AreUseful g) (sym is) (record {
      many = same ∙ value ∙ c.passes.invariant.many;
      readable = c.mark_along.ensures.readable;
      marked = λ k r. all_marked g new (c.mark_along.ensures.followed c.passes-test.false)
          (λ m h. c.mark_along.ensures.kept m (ap (λ (l : List Bool). slice_get l m) c.deref_mut.ensures.value
          ∙ c.passes.invariant.ends m h)) r.0 k r.1 r.2 r.3;
    })
