-- Where a step was taken. This project's own.
use Rattle.std.specs.Prelude.{ℕ, List, ◌++◌, Option, Some, None, codes, decimal}
use Rattle.xk_lines.specs.declared.lines.Position.{Position}
use Rattle.xk_show_events.specs.declared.steps.RunStep.{RunStep}
use Rattle.xk_show_events.specs.Events.{PlacesValue, origin_of}

-- `13:9`; where no origin says it, `unit 0 place 3`
abbrev pub spot_words : ℕ → ℕ → Option Position → List ℕ
spot_words unit place (Some p) = decimal p.line ++ (codes ":" ++ decimal p.column)
spot_words unit place None = codes "unit " ++ (decimal unit ++ (codes " place " ++ decimal place))

unfoldable pub spot : PlacesValue → RunStep → List ℕ
spot p s = spot_words s.unit s.place (origin_of p s.unit s.place)
