use Rattle.std.proofs.Common.{◌≡◌, [], ◌∷◌, map}
use Rattle.serde_json.specs.View.{view}
use Rattle.xk_show_events.specs.Worlds.{each_below}
use Rattle.xk_where_json.specs.Standings.{act_value}
use Rattle.xk_where_json.proofs.acts.acts_value.Given as goal

-- the activities so far were added
abbrev pub invariant-loop-act : goal.invariant-loop-act
invariant-loop-act l = map view l.values.items ≡ each_below (λ a. act_value l.places l.core.module_run l.core.world a ∷ []) l.act
