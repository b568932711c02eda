use Rattle.std.proofs.Common.{◌*◌, length}
use Rattle.xk_collections.proofs.SummaryWordLemmas.{last_some_by, last_none_by}
use Rattle.xk_collections.proofs.bit_search.last_member.Goals as goal

pub returns-in-Some : goal.returns-in-Some
returns-in-Some c =
    last_some_by c.args.low.now c.args.mid.now (length c.args.mid.now * 64) c.in-Some.word c.last_in_word.result c.requires.low_sums
    c.requires.covered c.in-Some.ensures c.last_in_word.ensures

pub returns-in-None : goal.returns-in-None
returns-in-None c =
    last_none_by c.args.low.now c.args.mid.now (length c.args.mid.now * 64) c.requires.low_sums c.requires.covered c.in-None.ensures
