use Rattle.std.specs.Int.{w64}
use Rattle.std.proofs.Common.{ap, ◌∙◌, slice_set}
use Rattle.std.proofs.lemmas.Int.{to_z-of_z}
use Rattle.xk_activity.specs.Slots.{values_of}
use Rattle.xk_activity.proofs.SlotWordLemmas.{number_within, change_ok}
use Rattle.xk_activity.proofs.slots.change.Goals as goal

pub bounds-words-k : goal.bounds-words-k
bounds-words-k c = number_within c.args.marks c.args.words.now c.args.k c.requires.0 c.requires.1

pub returns-clause-written : goal.returns-clause-written
returns-clause-written c =
    ap (λ n. values_of c.args.marks (slice_set c.args.words.now c.args.k n)) (to_z-of_z w64 c.args.n (record { sfits = c.ranges.n.sfits }))
    ∙ change_ok c.args.marks c.args.words.now c.args.k c.requires.0 c.args.n c.requires.1 (number_within c.args.marks c.args.words.now c.args.k c.requires.0 c.requires.1)
