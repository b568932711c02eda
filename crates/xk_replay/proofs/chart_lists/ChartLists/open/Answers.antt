use Rattle.std.proofs.Common.{◌∙◌, ap, true, arith}
use Rattle.xk_collections.specs.NumberSets.{with_member}
use Rattle.xk_types.specs.Bound.{activities_bound}
use Rattle.xk_replay.proofs.LivingLemmas.{bound_small, opening_living}
use Rattle.xk_replay.proofs.chart_lists.ChartLists.open.Goals as goal

pub with_room-requires : goal.with_room-requires
with_room-requires c =
    omega (
      arith,
      c.activities.ensures,
      ap activities_bound c.«module».ensures.same,
      bound_small c.args.core.now.module_run c.args.core.now.world c.activities-main.ensures.core,
    )

pub returns : goal.returns
returns c =
    opening_living c.args.core.now c.insert.new.self c.activities-main.ensures.core c.requires
    (omega (arith, c.activities.ensures, ap activities_bound c.«module».ensures.same, c.in_ok-living.ensures.room, c.insert.ensures.room))
    (c.insert.ensures.members ∙ ap (with_member 0 true) c.in_ok-living.ensures.empty)
