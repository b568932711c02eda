use Rattle.std.proofs.Common.{◌≡◌, map}
use Rattle.serde_json.specs.View.{view}
use Rattle.xk_show_events.specs.Worlds.{each_below}
use Rattle.xk_where_json.specs.Frames.{frame_items}
use Rattle.xk_where_json.proofs.frames.frames_value.Given as goal

-- the frames so far were added
abbrev pub invariant-loop-act : goal.invariant-loop-act
invariant-loop-act l = map view l.values.items ≡ each_below (frame_items l.places l.core.module_run l.core.world) l.act
