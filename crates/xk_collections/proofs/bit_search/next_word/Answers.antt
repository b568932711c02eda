use Rattle.std.proofs.Common.{◌+◌, ◌*◌, ◌/◌, arith}
use Rattle.xk_collections.proofs.SummaryWordLemmas.{next_some_by, next_none_by}
use Rattle.xk_collections.proofs.bit_search.next_word.Goals as goal

pub returns-in-Some-next_in_word : goal.returns-in-Some-next_in_word
returns-in-Some-next_in_word c =
    next_some_by c.args.mid.now c.args.top.now c.args.word ((c.args.word / 64 + 1) / 64 * 64 + 64) c.in-Some-next_in_word.group
    c.next_in_word-in-Some-next_in_word.result c.requires.mid_sums c.in_default.ensures c.in-Some-next_in_word.ensures
    c.next_in_word-in-Some-next_in_word.ensures

pub returns-in-None : goal.returns-in-None
returns-in-None c =
    next_none_by c.args.mid.now c.args.top.now c.args.word ((c.args.word / 64 + 1) / 64 * 64 + 64) c.requires.mid_sums
    (omega (arith, c.requires.few)) c.in_default.ensures c.in-None.ensures
