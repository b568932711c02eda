use Rattle.xk_collections.proofs.SummaryWordLemmas.{last_some_by, last_none_by}
use Rattle.xk_collections.proofs.bit_search.last_word.Goals as goal

pub returns-in-Some : goal.returns-in-Some
returns-in-Some c =
    last_some_by c.args.mid.now c.args.top.now 64 c.in-Some.group c.last_in_word-in-Some.result c.requires.mid_sums c.requires.few
    c.in-Some.ensures c.last_in_word-in-Some.ensures

pub returns-in-None : goal.returns-in-None
returns-in-None c = last_none_by c.args.mid.now c.args.top.now 64 c.requires.mid_sums c.requires.few c.in-None.ensures
