-- The law, from the lemmas.
use Rattle.xk_types.specs.World.{opening}
use Rattle.xk_law_traces.proofs.OneRunLaw.{adders_free, one_every}
use Rattle.xk_law_traces.proofs.only_additions.Goals as goal

pub returns-clause-no_race : goal.returns-clause-no_race
returns-clause-no_race c m args s adds = adders_free m (opening m args) s adds

pub returns-clause-same : goal.returns-clause-same
returns-clause-same c m args s t z y limits ok taken adds one =
    one_every m args limits ok taken s t z y one (adders_free m (opening m args) s adds)
