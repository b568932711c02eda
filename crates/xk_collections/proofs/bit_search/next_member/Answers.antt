use Rattle.std.proofs.Common.{◌*◌, length}
use Rattle.xk_collections.proofs.SummaryWordLemmas.{next_some_by, next_none_by}
use Rattle.xk_collections.proofs.bit_search.next_member.Goals as goal

pub returns-in-Some-next_word : goal.returns-in-Some-next_word
returns-in-Some-next_word c =
    next_some_by c.args.low.now c.args.mid.now c.args.i (length c.args.mid.now * 64) c.in-Some-next_word.word
    c.next_in_word-in-Some-next_word.result c.requires.low_sums c.in_default.ensures c.in-Some-next_word.ensures
    c.next_in_word-in-Some-next_word.ensures

pub returns-in-None : goal.returns-in-None
returns-in-None c =
    next_none_by c.args.low.now c.args.mid.now c.args.i (length c.args.mid.now * 64) c.requires.low_sums c.requires.covered
    c.in_default.ensures c.in-None.ensures
