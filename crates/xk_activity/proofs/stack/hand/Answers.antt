use Rattle.std.specs.Int.{w64}
use Rattle.std.proofs.Common.{◌∷◌, [], ◌++◌, List, drop, take, get_or, subst, ap, ◌∙◌, arith}
use Rattle.std.proofs.lemmas.Int.{to_z-of_z}
use Rattle.std.proofs.lemmas.List.{length-drop}
use Rattle.xk_types.specs.declared.world.Value.{Value}
use Rattle.xk_activity.specs.Slots.{AreLaid, values_of}
use Rattle.xk_activity.specs.FrameStack.{values_at}
use Rattle.xk_activity.proofs.SlotWordLemmas.{laid_length, laid_more, word_kept}
use Rattle.xk_activity.proofs.ArgumentCopyLemmas.{handed_many, one_slot_more}
use Rattle.xk_activity.proofs.stack.hand.Goals as goal

pub word_at-word-requires : goal.word_at-word-requires
word_at-word-requires c =
    let s = c.requires.slots c.loop-i.i 0 c.loop-i-test.true in
    let d = length-drop c.args.base c.args.stack.now.items in
    let l = laid_length c.args.stack.now.items c.loop-i.stack.items c.loop-i.handed (values_at (values_of c.args.marks (drop c.args.base c.args.stack.now.items)) (take c.loop-i.i c.args.args.now)) c.loop-i.invariant.0 in
    omega arith

pub has-requires : goal.has-requires
has-requires c = let s = c.requires.slots c.loop-i.i 0 c.loop-i-test.true in let f = c.requires.size in omega arith

pub push_reserved-requires : goal.push_reserved-requires
push_reserved-requires c =
    let lt = c.loop-i-test.true in
    let l = laid_length c.args.stack.now.items c.loop-i.stack.items c.loop-i.handed (values_at (values_of c.args.marks (drop c.args.base c.args.stack.now.items)) (take c.loop-i.i c.args.args.now)) c.loop-i.invariant.0 in
    let m = handed_many (values_of c.args.marks (drop c.args.base c.args.stack.now.items)) c.args.args.now c.loop-i.i (omega arith) in
    let room = c.requires.room in
    let same = c.loop-i.invariant.1 in
    (omega arith, omega arith)

pub loop-i-preserved : goal.loop-i-preserved
loop-i-preserved c =
    let lt = c.loop-i-test.true in
    let few = c.requires.few in (
      subst (λ (vs : List Value). AreLaid c.args.stack.now.items c.push_reserved.new.self.items c.set.new.self vs)
          (one_slot_more c.args.marks (drop c.args.base c.args.stack.now.items) c.args.args.now c.loop-i.i c.has.result c.word_at-word.result lt (c.requires.slots c.loop-i.i 0 lt)
          c.has.ensures (c.word_at-word.ensures ∙ word_kept c.args.stack.now.items c.loop-i.stack.items c.loop-i.handed _ c.args.base (get_or c.args.args.now c.loop-i.i 0) c.loop-i.invariant.0
          (let s = c.requires.slots c.loop-i.i 0 lt in let d = length-drop c.args.base c.args.stack.now.items in omega arith)))
          (laid_more c.args.stack.now.items c.loop-i.stack.items c.push_reserved.new.self.items c.loop-i.handed c.set.new.self
          (values_at (values_of c.args.marks (drop c.args.base c.args.stack.now.items)) (take c.loop-i.i c.args.args.now)) c.loop-i.i
          c.word_at-word.result c.has.result c.loop-i.invariant.0 (handed_many (values_of c.args.marks (drop c.args.base c.args.stack.now.items)) c.args.args.now c.loop-i.i (omega arith)) (omega arith)
          (c.push_reserved.ensures.items ∙ ap (λ n. c.loop-i.stack.items ++ n ∷ []) (to_z-of_z w64 c.word_at-word.result (record { sfits = c.word_at-word.type_inv })))
          c.set.ensures.here c.set.ensures.others),
      c.push_reserved.ensures.capacity ∙ c.loop-i.invariant.1,
    )
