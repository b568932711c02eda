-- The law, from the lemmas.
use Rattle.xk_closed.proofs.SuffixLaw.{set_first}
use Rattle.xk_closed.proofs.set_first.Goals as goal

pub returns : goal.returns
returns c m w set free numbers limits ok here closed inside enabled h =
    set_first m limits ok w set free numbers here closed inside enabled h
