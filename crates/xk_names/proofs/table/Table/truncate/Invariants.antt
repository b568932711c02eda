use Rattle.std.proofs.Common.{◌≡◌, take, length}
use Rattle.xk_names.specs.TablePlaces.{ArePlaces}
use Rattle.xk_names.proofs.TableLemmas.{shown}
use Rattle.xk_names.proofs.table.Table.truncate.Given as goal

abbrev pub invariant-loop-self : goal.invariant-loop-self
invariant-loop-self g l =
    ArePlaces (shown l.self-inside.entries.items) l.self-inside.places
    × (take l.len (shown l.self-inside.entries.items) ≡ take l.len (shown l.initial.self-inside.entries.items))

abbrev pub decreases-loop-self : goal.decreases-loop-self
decreases-loop-self g l = length l.self-inside.entries.items
