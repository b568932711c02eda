use Rattle.xk_explain_expected.proofs.PlacesTaken.{every_place_taken}
use Rattle.xk_explain_expected.proofs.laws.every_place.Goals as goal

pub returns : goal.returns
returns c = every_place_taken
