-- lines begin in the text
use Rattle.xk_lines.proofs.Starts.{start_within}
use Rattle.xk_lines.proofs.lines.extents_of.Goals as goal

pub extent_of-requires : goal.extent_of-requires
extent_of-requires c = start_within c.args.text.now c.args.starts.now c.loop-start.start-index c.requires c.loop-start-test.true
