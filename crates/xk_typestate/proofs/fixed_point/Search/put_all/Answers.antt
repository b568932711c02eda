-- kind after kind
use Rattle.std.proofs.Common.{◌+◌, sym, subst, arith}
use Rattle.xk_typestate.proofs.SearchLemmas.{ArePut, are_put_none, are_put_skip, are_put_more, kind_place-lt}
use Rattle.xk_typestate.specs.declared.fixed_point.Search.{Search}
use Rattle.xk_typestate.proofs.fixed_point.Search.put_all.Goals as goal
use Rattle.xk_typestate.proofs.fixed_point.Search.put_all.Goals.{then-contains+in_ok-put, else-contains}

pub loop-kind-init : goal.loop-kind-init
loop-kind-init c = are_put_none c.args.self.now c.args.to c.args.kinds c.args.from

pub loop-kind-preserved : goal.loop-kind-preserved
loop-kind-preserved c =
    let r = c.args.self.now in
    let n = c.loop-kind.kind-index in
    let P : Search → Type 0 = λ x. ArePut r x c.args.to c.args.kinds c.args.from (n + 1) in
    elim c.if-contains.branch [
      | then-contains+in_ok-put w ↦ subst P (sym w.self-is) (are_put_more r c.loop-kind.self c.args.to c.args.kinds c.args.from n _ c.contains.result c.contains.ensures
          c.loop-kind.invariant _ c.requires.inside w.if-contains.true w.in_ok-put.ensures)
      | else-contains w ↦ subst P (sym w.self-is) (are_put_skip r c.loop-kind.self c.args.to c.args.kinds c.args.from n _ c.contains.result c.contains.ensures
          c.loop-kind.invariant w.if-contains.false)
    ]

pub put-requires : goal.put-requires
put-requires c = omega (arith, c.loop-kind.invariant.grown.long, c.requires.inside)

pub returns : goal.returns
returns c = record {
  grown = c.loop-kind.invariant.grown;
  put = λ k. c.loop-kind.invariant.put k (omega (arith, kind_place-lt k));
  latest = c.loop-kind.invariant.latest;
  searched = c.loop-kind.invariant.searched;
}
