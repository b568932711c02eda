-- The law, from the lemmas.
use Rattle.xk_ranks.proofs.ReadLaw.{go_by_reads, stand_by_reads, rank_reads, by_reads, by_reads_back}
use Rattle.xk_ranks.proofs.reads.Goals as goal

pub returns-clause-goes : goal.returns-clause-goes
returns-clause-goes k m c w v limits ok is here there same = go_by_reads m limits ok c is w v here there same

pub returns-clause-stand : goal.returns-clause-stand
returns-clause-stand k m c w v a b limits ok is here there same one = stand_by_reads m limits ok c is w v here there same a b one

pub returns-clause-wider : goal.returns-clause-wider
returns-clause-wider k c w v same = rank_reads c w v same

pub returns-clause-carried : goal.returns-clause-carried
returns-clause-carried k m c limits ok is = by_reads m limits ok c is

pub returns-clause-back : goal.returns-clause-back
returns-clause-back k m c limits ok is = by_reads_back m limits ok c is
