-- What an activity may still do, by footprints.
use Rattle.std.specs.Prelude.{◌≡◌, true, List}
use Rattle.xk_types.specs.declared.instr.Instr.{Instr}
use Rattle.xk_types.specs.World.{Activity, Frame}
use Rattle.xk_closed.specs.Footprints.{Table, RestOf, MayDo, MayDoNow}
use Rattle.xk_closed_sets.specs.declared.footprint.Footprint.{Footprint}
use Rattle.xk_closed_sets.specs.declared.places.Reach.{Reach}
use Rattle.xk_closed_sets.specs.Footprint.{has}

-- the footprint has all that frames that wait may carry out behind their calls
abbrev pub CoversWaiting : Footprint → Table → List Frame → Type 0
CoversWaiting f rest frames = (j : Instr) → RestOf rest frames j → has f j ≡ true

-- one has all that the activity may do, and the other what it may do before it passes an `advance`
pub record IsReach (rest phase : Table) (act : Activity) (reach : Reach) : Type 0 where
  pub all : (j : Instr) → MayDo rest act j → has reach.rest j ≡ true
  pub now : (j : Instr) → MayDoNow rest phase act j → has reach.phase j ≡ true
