-- What steps make, and of what: definitions and uses of locations, as dependence of data is told by. This project's own.
use Rattle.std.specs.Prelude.{ℕ, nat_eq, Bool, false, not, ◌&&◌, Option, Some, None}
use Rattle.xk_why.specs.declared.flows.Flow.{Flow}
use Rattle.xk_why.specs.declared.flows.Location.{Location}
use Rattle.xk_why.specs.declared.flows.Location.TheVariants as location
use Rattle.xk_why.specs.declared.flows.Round.{Round}
use Rattle.xk_why.specs.declared.flows.Slot.{Slot}

-- both are one slot
abbrev pub same_slot : Slot → Slot → Bool
same_slot s t = nat_eq s.act t.act && nat_eq s.depth t.depth && nat_eq s.number t.number

-- both are one phase of one clock
abbrev pub same_round : Round → Round → Bool
same_round r s = nat_eq r.clock s.clock && nat_eq r.phase s.phase

-- both are one location
abbrev pub same_location : Location → Location → Bool
same_location (location.Slot s) (location.Slot t) = same_slot s t
same_location (location.Shared s) (location.Shared t) = nat_eq s t
same_location (location.Signals r) (location.Signals s) = same_round r s
same_location (location.Ends f) (location.Ends g) = nat_eq f g
same_location _ _ = false

-- it is this location
abbrev pub is_at : Option Location → Location → Bool
is_at None l = false
is_at (Some k) l = same_location k l

-- the step makes something at location l
abbrev pub makes : Flow → Location → Bool
makes f l = is_at f.to l

-- and nothing is left of what was there
abbrev pub overwrites : Flow → Location → Bool
overwrites f l = makes f l && not f.adds
