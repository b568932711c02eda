-- The law, from the lemmas.
use Rattle.xk_law_races.proofs.ClosedFinishLaw.{closes_are_exact}
use Rattle.xk_law_races.proofs.laws.closes_are_exact.Goals as goal

pub returns : goal.returns
returns c m args log z limits ok taken legal =
    closes_are_exact (record { m = m; args = args; limits = limits; ok = ok; taken = taken; log = log; z = z; legal = legal })
