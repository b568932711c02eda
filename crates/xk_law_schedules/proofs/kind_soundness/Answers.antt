-- The law of the contract, from the lemma over all schedules.
use Rattle.xk_law_schedules.proofs.EveryScheduleLaw.{kinds_sound}
use Rattle.xk_law_schedules.proofs.kind_soundness.Goals as goal

pub returns : goal.returns
returns c = kinds_sound
