use Rattle.xk_log.proofs.ReaderLemmas.{answers_told}
use Rattle.xk_log.proofs.reading.read_log.Goals as goal

pub returns-clause-exactly : goal.returns-clause-exactly
returns-clause-exactly g c = answers_told _ _ c.read_lines.ensures.told
