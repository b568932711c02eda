-- The law, from the lemmas.
use Rattle.xk_types.specs.World.{opening}
use Rattle.xk_law_schedules.proofs.ReachabilityLemmas.{opening_reached}
use Rattle.xk_law_traces.specs.Moments.{is_print}
use Rattle.xk_law_traces.specs.Edges.{prints}
use Rattle.xk_law_traces.proofs.StepEventLemmas.{print_says}
use Rattle.xk_law_traces.proofs.EdgeLaw.{never_two_ordered}
use Rattle.xk_law_traces.proofs.OneRunLaw.{ordered_run, one_every, one_prints}
use Rattle.xk_law_traces.proofs.ordered_run.Goals as goal

pub returns-clause-no_race : goal.returns-clause-no_race
returns-clause-no_race c m args s z edges limits ok taken = ordered_run m args limits ok taken s z edges

pub returns-clause-every : goal.returns-clause-every
returns-clause-every c m args s t z y edges limits ok taken one sound ordered =
    one_every m args limits ok taken s t z y one (ordered_run m args limits ok taken s z edges one sound ordered)

pub returns-clause-prints : goal.returns-clause-prints
returns-clause-prints c m args s t z y edges limits ok taken one sound ordered prints_ordered =
    one_prints m args limits ok taken s t z y one (ordered_run m args limits ok taken s z edges one sound ordered)
    (never_two_ordered m limits ok (opening m args) z (opening_reached m args taken) s one.legal one.ended is_print prints
    (print_says m) edges sound prints_ordered)
