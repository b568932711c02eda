-- The law, from the lemma.
use Rattle.xk_law_traces.proofs.PassEdgeLaw.{causes_sound}
use Rattle.xk_law_traces.proofs.sound_edges.Goals as goal

pub returns : goal.returns
returns c m args s z edges limits ok taken one = causes_sound m args limits ok taken s z one.legal one.ended edges
