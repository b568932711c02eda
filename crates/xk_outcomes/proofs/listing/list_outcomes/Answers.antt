use Rattle.std.proofs.Common.{inl, arith}
use Rattle.xk_outcomes.proofs.listing.list_outcomes.Goals as goal

pub loop-number-init : goal.loop-number-init
loop-number-init c = record {
  of = λ k o there. inl there;
  kept = λ numbers listed. listed;
  distinct = λ distinct. distinct;
  noted = λ j x less. absurd (omega (arith, less));
  few = omega arith;
}

pub loop-number-preserved : goal.loop-number-preserved
loop-number-preserved c = record {
  of = c.note_at.ensures.of c.args.list.now c.loop-number.invariant.of;
  kept = λ numbers listed. c.note_at.ensures.kept numbers (c.loop-number.invariant.kept numbers listed);
  distinct = λ distinct. c.note_at.ensures.distinct (c.loop-number.invariant.distinct distinct);
  noted = c.in_ok-noted.ensures.noted c.if-not-noted.false c.loop-number.invariant.noted;
  few = omega (arith, c.note_at.ensures.most, c.loop-number.invariant.few);
}
