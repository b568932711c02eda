use Rattle.std.proofs.Common.{List, ℕ, subst}
use Rattle.xk_readings.specs.Beginnings.{AreOnce}
use Rattle.xk_readings.proofs.StateLemmas.{lists_once}
use Rattle.xk_readings.proofs.states.States.len.Goals as goal

pub returns-clause-once : goal.returns-clause-once
returns-clause-once c = subst AreOnce c.self.view_is (lists_once c.self.inside.lists.keys c.len.ensures.unique)
