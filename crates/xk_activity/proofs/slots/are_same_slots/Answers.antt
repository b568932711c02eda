use Rattle.std.proofs.Common.{sym, ap, ◌∙◌, arith, length, refl, rules}
use Rattle.xk_activity.specs.Slots.{is_marked, values_of}
use Rattle.xk_activity.proofs.SlotWordLemmas.{length_by}
use Rattle.xk_activity.proofs.ArgumentCopyLemmas.{same_more, same_all}
use Rattle.xk_activity.proofs.slots.are_same_slots.Goals as goal

pub returns-then-a-b : goal.returns-then-a-b
returns-then-a-b c = (
  λ h. cc,
  λ q. absurd (omega (arith, c.if-a-b.true, sym (length_by (is_marked c.args.p) c.args.a.now) ∙ ap length q ∙ length_by (is_marked c.args.q) c.args.b.now)),
)

pub loop-i-preserved : goal.loop-i-preserved
loop-i-preserved c =
    same_more (values_of c.args.p c.args.a.now) (values_of c.args.q c.args.b.now) c.loop-i.i c.value.result c.value-in-loop-i.result c.value.ensures c.value-in-loop-i.ensures (search rules)
    c.loop-i.invariant

pub returns : goal.returns
returns c = (
  λ h.
      let a = length_by (is_marked c.args.p) c.args.a.now in
      let b = length_by (is_marked c.args.q) c.args.b.now in
      let end = c.loop-i-test.false in
      let all = c.loop-i.auto.i-end in
      let same = c.if-a-b.false in
      same_all (values_of c.args.p c.args.a.now) (values_of c.args.q c.args.b.now) c.loop-i.i c.loop-i.invariant (omega arith) (omega arith),
  λ q. refl,
)
