use Rattle.std.proofs.Common.{◌+◌, map, drop, subst, arith}
use Rattle.std.proofs.lemmas.Grind.{common_steps}
use Rattle.std.proofs.lemmas.List.{at_drop_more}
use Rattle.std.proofs.lemmas.Result.{err_from_is_err_and}
use Rattle.xk_emit.specs.NameCoverage.{AreNew}
use Rattle.xk_emit.proofs.CodeErrorLemmas.{denies, new_turn}
use Rattle.xk_emit.proofs.units.param_scope.Goals as goal

pub loop-name-preserved : goal.loop-name-preserved
loop-name-preserved c = record {
  scope = grind (arith, common_steps);
  count = grind (arith, common_steps);
  new = λ k. new_turn c.loop-name.scope _ c.loop-name.n _ _ (map (λ x. x.now) (drop (c.loop-name.name-index + 1) c.args.names.now))
      c.in_ok-declare.ensures.scope c.in_ok-n.ensures.next
      (subst (AreNew c.loop-name.scope c.loop-name.n) (at_drop_more (map (λ x. x.now)) c.args.names.now c.loop-name.name-index _ (omega arith)) (c.loop-name.invariant.new k));
}

pub returns-in_err-declare-clause-refused : goal.returns-in_err-declare-clause-refused
returns-in_err-declare-clause-refused c =
    let p = err_from_is_err_and c.from_residual.result c.from_residual.ensures.1 in
    rw (p.1, p.2) (denies c.in_err-declare.field-0.0 c.in_err-declare.ensures.refused
    (λ k. (subst (AreNew c.loop-name.scope c.loop-name.n)
    (at_drop_more (map (λ x. x.now)) c.args.names.now c.loop-name.name-index _ (omega arith)) (c.loop-name.invariant.new k)).0)
    (λ m. tt))
