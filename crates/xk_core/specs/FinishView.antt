-- A world without finishes, and what the tree of finishes tells of its activities.
use Rattle.std.specs.Prelude.{◌≡◌, ℕ, Bool, true, false, List, [], ◌∷◌, length, Some, slice_get}
use Rattle.xk_types.specs.declared.world.Event.{Event}
use Rattle.xk_types.specs.declared.world.Event.TheVariants as event
use Rattle.xk_types.specs.Code.{ModuleValue}
use Rattle.xk_types.specs.World.{Activity, World, base_unit, is_ended}
use Rattle.xk_types.specs.Bound.{room_of}
use Rattle.xk_finishes.specs.Tree.{NodeValue}

-- an activity with the finishes that the tree tells of
abbrev pub with_node : NodeValue → Activity → Activity
with_node n act = record act { opened = n.opened; governed = n.governed }

-- activities, each with its own
abbrev pub with_nodes : List NodeValue → List Activity → List Activity
with_nodes [] acts = []
with_nodes (n ∷ ns) [] = []
with_nodes (n ∷ ns) (x ∷ xs) = with_node n x ∷ with_nodes ns xs

-- a world with its finishes
abbrev pub with_finishes : List NodeValue → World → World
with_finishes ns w = record w { activities = with_nodes ns w.activities }

-- the tree tells of an activity of the module: whether it has ended, and the room that it was made with
pub record IsToldOf (m : ModuleValue) (n : NodeValue) (act : Activity) : Type 0 where
  pub ended : n.ended ≡ is_ended act.status
  pub room : n.room ≡ room_of m (base_unit act)

-- it is the end of the activity
abbrev pub is_end : Event → Bool
is_end event.Ended = true
is_end _ = false

-- the tree tells of these activities
pub record AreTold (m : ModuleValue) (ns : List NodeValue) (acts : List Activity) : Type 0 where
  pub width : length ns ≡ length acts
  pub each : (a : ℕ) (n : NodeValue) (act : Activity) → slice_get ns a ≡ Some n → slice_get acts a ≡ Some act → IsToldOf m n act
