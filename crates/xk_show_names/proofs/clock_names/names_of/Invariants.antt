use Rattle.std.proofs.Common.{◌≡◌, map, take}
use Rattle.xk_show_names.specs.ClockNames.{name_of}
use Rattle.xk_show_names.proofs.clock_names.names_of.Given as goal

-- those of the clocks so far
abbrev pub invariant-loop-birth : goal.invariant-loop-birth
invariant-loop-birth l = map (λ x. x.items) l.names.items ≡ map (name_of l.places) (take l.birth-index l.births)
