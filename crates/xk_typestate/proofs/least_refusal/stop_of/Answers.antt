-- kind after kind
use Rattle.std.proofs.Common.{refl, arith}
use Rattle.xk_typestate.proofs.SearchLemmas.{kind_place-lt}
use Rattle.xk_typestate.proofs.ResultLemmas.{none_left}
use Rattle.xk_typestate.proofs.LeastStopLemmas.{allowed_more, first_kind}
use Rattle.xk_typestate.proofs.least_refusal.stop_of.Goals as goal

pub loop-kind-init : goal.loop-kind-init
loop-kind-init c = λ k lt. absurd (omega arith)

pub loop-kind-preserved : goal.loop-kind-preserved
loop-kind-preserved c =
    allowed_more c.args.m.now c.args.u.now c.args.slot c.args.at c.args.kinds c.loop-kind.kind-index _ c.loop-kind.invariant
    (none_left _ _ _ c.in_default.not-Some c.refusal_of.ensures)

pub returns-in-Some : goal.returns-in-Some
returns-in-Some c =
    first_kind c.args.m.now c.args.u.now c.args.slot c.args.at c.args.kinds c.loop-kind.kind-index _ c.in-Some.rule _ c.loop-kind-test.true c.loop-kind.invariant refl
    c.in-Some.ensures.0 c.in-Some.ensures.1

pub returns : goal.returns
returns c = λ k. c.loop-kind.invariant k (let lt = kind_place-lt k in omega arith)
