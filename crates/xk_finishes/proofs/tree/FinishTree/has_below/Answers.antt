use Rattle.std.proofs.Common.{◌≡◌, ◌∙◌, suc, ◌+◌, ◌-◌, length, sym, ap, arith}
use Rattle.xk_finishes.proofs.UnderLemmas.{is_below, below_none, below_here, below_on, below_out}
use Rattle.xk_finishes.proofs.tree.FinishTree.has_below.Goals as goal

pub returns-in-None : goal.returns-in-None
returns-in-None c =
    let n = length c.args.self.now - c.loop-above._above in
    let k = length c.args.self.now - (c.loop-above._above + 1) in
    let more : n ≡ suc k = omega (arith, c.len-above-end.ensures, ap length c.self.view_is) in
    sym (below_none c.args.self.now c.args.finish n k c.loop-above.member more (sym c.governed.ensures ∙ c.in-None.is)) ∙ c.loop-above.invariant

pub returns-then-is_same : goal.returns-then-is_same
returns-then-is_same c =
    let n = length c.args.self.now - c.loop-above._above in
    let k = length c.args.self.now - (c.loop-above._above + 1) in
    let more : n ≡ suc k = omega (arith, c.len-above-end.ensures, ap length c.self.view_is) in
    sym (below_here c.args.self.now c.args.finish c.in-Some.governed n k c.loop-above.member more (sym c.governed.ensures ∙ c.in-Some.is)
    (sym c.is_same.ensures.same ∙ c.if-is_same.true)) ∙ c.loop-above.invariant

pub loop-above-preserved : goal.loop-above-preserved
loop-above-preserved c =
    let n = length c.args.self.now - c.loop-above._above in
    let k = length c.args.self.now - (c.loop-above._above + 1) in
    let more : n ≡ suc k = omega (arith, c.len-above-end.ensures, ap length c.self.view_is) in
    ap (is_below c.args.self.now c.args.finish k) c.owner-member.ensures
    ∙ sym (below_on c.args.self.now c.args.finish c.in-Some.governed n k c.loop-above.member more (sym c.governed.ensures ∙ c.in-Some.is)
    (sym c.is_same.ensures.same ∙ c.if-is_same.false)) ∙ c.loop-above.invariant

pub returns : goal.returns
returns c =
    let none : length c.args.self.now - c.loop-above._above ≡ 0 = omega (arith, c.len-above-end.ensures, ap length c.self.view_is) in
    sym (below_out c.args.self.now c.args.finish (length c.args.self.now - c.loop-above._above) c.loop-above.member none) ∙ c.loop-above.invariant
