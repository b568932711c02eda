use Rattle.std.specs.Int.{w64}
use Rattle.std.proofs.Common.{◌≡◌, rules, to_z, of_z, ◌∷◌, [], ◌++◌, List, take, subst, ap, ◌∙◌, arith}
use Rattle.xk_types.specs.declared.world.Value.{Value}
use Rattle.xk_activity.specs.Slots.{AreLaid, value_of}
use Rattle.xk_activity.proofs.SlotWordLemmas.{laid_length, laid_more}
use Rattle.xk_activity.proofs.ArgumentCopyLemmas.{first_many, one_value_more}
use Rattle.xk_activity.proofs.stack.put.Goals as goal

pub push_reserved-requires : goal.push_reserved-requires
push_reserved-requires c =
    let lt = c.loop-i-test.true in
    let l = laid_length c.args.stack.now.items c.loop-i.stack.items c.loop-i.marks (take c.loop-i.i c.args.values.now) c.loop-i.invariant.0 in
    let m = first_many c.args.values.now c.loop-i.i (omega arith) in
    let room = c.requires.room in
    let same = c.loop-i.invariant.1 in
    (omega arith, omega arith)

pub loop-i-preserved : goal.loop-i-preserved
loop-i-preserved c =
    let lt = c.loop-i-test.true in
    let few = c.requires.few in
    let fits : to_z w64 (of_z w64 c.word_of-word.result.0) ≡ c.word_of-word.result.0 = search (rules, c.word_of-word.type_inv) in (
      subst (λ (vs : List Value). AreLaid c.args.stack.now.items c.push_reserved.new.self.items c.set.new.self vs)
          (one_value_more c.args.values.now c.loop-i.i c.index-values-i.result (value_of c.word_of-word.result.1 c.word_of-word.result.0) lt c.index-values-i.is
          c.word_of-word.ensures)
          (laid_more c.args.stack.now.items c.loop-i.stack.items c.push_reserved.new.self.items c.loop-i.marks c.set.new.self (take c.loop-i.i c.args.values.now) c.loop-i.i
          c.word_of-word.result.0 c.word_of-word.result.1 c.loop-i.invariant.0 (first_many c.args.values.now c.loop-i.i (omega arith)) (omega arith)
          (c.push_reserved.ensures.items ∙ ap (λ n. c.loop-i.stack.items ++ n ∷ []) fits)
          c.set.ensures.here c.set.ensures.others),
      c.push_reserved.ensures.capacity ∙ c.loop-i.invariant.1,
    )
