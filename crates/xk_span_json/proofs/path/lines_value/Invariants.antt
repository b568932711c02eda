use Rattle.std.proofs.Common.{◌≡◌, map}
use Rattle.serde_json.specs.View.{view}
use Rattle.xk_show_events.specs.Worlds.{each_below}
use Rattle.xk_span_json.specs.Span.{line_items}
use Rattle.xk_span_json.proofs.path.lines_value.Given as goal

-- the lines so far were added
abbrev pub invariant-loop-line : goal.invariant-loop-line
invariant-loop-line l = map view l.values.items ≡ each_below (line_items l.counts) l.line
