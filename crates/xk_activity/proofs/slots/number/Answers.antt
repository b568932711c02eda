use Rattle.std.proofs.Common.{rules, pos, refl}
use Rattle.std.specs.Prelude.{slice_index_or}
use Rattle.xk_activity.proofs.SlotWordLemmas.{number_within, number_read}
use Rattle.xk_activity.proofs.slots.number.Goals as goal

pub bounds-words-s : goal.bounds-words-s
bounds-words-s c = number_within c.args.marks c.args.words.now c.args.s c.requires.0 c.requires.1

pub returns : goal.returns
returns c =
    let h = number_read c.args.marks c.args.words.now c.args.s c.requires.0 (slice_index_or c.args.words.now c.args.s (pos 0)) c.requires.1 refl in
    search (rules, h)
