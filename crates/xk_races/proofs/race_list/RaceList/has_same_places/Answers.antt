-- The set tells it of the list.
use Rattle.std.proofs.Common.{◌∙◌, ap}
use Rattle.std.specs.List.{list_any}
use Rattle.xk_races.specs.Races.{have_same_places}
use Rattle.xk_races.proofs.race_list.RaceList.has_same_places.Goals as goal

pub returns : goal.returns
returns c = c.is_told.ensures ∙ c.self.invariant c.args.race.now ∙ ap (list_any (have_same_places c.args.race.now)) c.self.view_is
