use Rattle.xk_lines.proofs.Parts.{joined_signs}
use Rattle.xk_lines.proofs.laws.signs_of_texts.Goals as goal

pub returns : goal.returns
returns c = joined_signs
