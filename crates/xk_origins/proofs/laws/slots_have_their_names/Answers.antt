use Rattle.xk_origins.proofs.SlotLemmas.{are_slot_names}
use Rattle.xk_origins.proofs.laws.slots_have_their_names.Goals as goal

pub returns : goal.returns
returns c = are_slot_names
