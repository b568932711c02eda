use Rattle.std.specs.Int.{w64}
use Rattle.std.proofs.Common.{◌≡◌, rules, to_z, of_z, ap, ◌∙◌, arith, slice_set}
use Rattle.xk_activity.specs.Slots.{is_marked, values_of}
use Rattle.xk_activity.proofs.SlotWordLemmas.{length_by, set_ok}
use Rattle.xk_activity.proofs.slots.set.Goals as goal

pub bounds-words-s : goal.bounds-words-s
bounds-words-s c = let l = length_by (is_marked c.args.marks.now) c.args.words.now in let h = c.requires.slot in omega arith

pub set-requires : goal.set-requires
set-requires c = let l = length_by (is_marked c.args.marks.now) c.args.words.now in let h = c.requires.slot in let f = c.requires.few in omega arith

pub returns-clause-written : goal.returns-clause-written
returns-clause-written c =
    let fits : to_z w64 (of_z w64 c.word_of-word.result.0) ≡ c.word_of-word.result.0 = search (rules, c.word_of-word.type_inv) in
    ap (λ n. values_of c.set.new.self (slice_set c.args.words.now c.args.s n)) fits
    ∙ set_ok c.args.marks.now c.set.new.self c.args.words.now c.args.s c.word_of-word.result.0 c.word_of-word.result.1 c.requires.slot c.requires.few c.set.ensures
    ∙ ap (slice_set (values_of c.args.marks.now c.args.words.now) c.args.s) c.word_of-word.ensures
