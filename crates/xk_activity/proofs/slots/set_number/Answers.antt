use Rattle.std.specs.Int.{w64}
use Rattle.std.proofs.Common.{ap, ◌∙◌, arith, true, slice_set}
use Rattle.std.proofs.lemmas.Int.{to_z-of_z}
use Rattle.xk_activity.specs.Slots.{is_marked, values_of}
use Rattle.xk_activity.proofs.SlotWordLemmas.{length_by, set_ok}
use Rattle.xk_activity.proofs.slots.set_number.Goals as goal

pub bounds-words-d : goal.bounds-words-d
bounds-words-d c = let l = length_by (is_marked c.args.marks.now) c.args.words.now in let h = c.requires.slot in omega arith

pub set-requires : goal.set-requires
set-requires c = let l = length_by (is_marked c.args.marks.now) c.args.words.now in let h = c.requires.slot in let f = c.requires.few in omega arith

pub returns-clause-written : goal.returns-clause-written
returns-clause-written c =
    ap (λ n. values_of c.set.new.self (slice_set c.args.words.now c.args.d n)) (to_z-of_z w64 c.args.n (record { sfits = c.ranges.n.sfits }))
    ∙ set_ok c.args.marks.now c.set.new.self c.args.words.now c.args.d c.args.n true c.requires.slot c.requires.few c.set.ensures
