-- The tree of finishes: what it keeps of each activity, and who is under which finish.
--
-- X10 Language Specification 2.4, chapter Activities, Finish: `finish S` runs S, and waits for the end of all activities that S started, and
-- that these started in turn. How a finish is named, and what governs an activity, is this project's own.
--
-- `specs/Step` of xk_types says the same of whole activities. The tree knows of an activity only what concerns finishes, so it is
-- said here of that; the laws in `src/laws.rt` join the two.
use Rattle.std.specs.Prelude.{◌≡◌, ℕ, zero, suc, ◌+◌, ◌-◌, ◌<◌, ◌==◌, Bool, true, false, not, ◌&&◌, ◌||◌, List, [], ◌∷◌, length, Option, Some, option_map, option_and_then, slice_get, slice_set, slice_index_or, if◌then◌else◌}
use Rattle.std.specs.Option.{option_map_or}
use Rattle.xk_types.specs.World.{Finish, Activity, root, is_ended}
use Rattle.xk_types.specs.Step.{same_finish}

-- An activity, as far as finishes go: how many it has open, how many it has room for, the finish that governs it, and whether it
-- has ended. The tree is a list of them, in the order of their numbers.
pub record NodeValue : Type 0 where
  pub opened : ℕ
  pub room : ℕ
  pub governed : Finish
  pub ended : Bool

-- one that begins
abbrev pub fresh_node : Finish → ℕ → NodeValue
fresh_node governed room = record { opened = 0; room = room; governed = governed; ended = false }

-- the activity of this number; one that isn't there has ended, and has room for nothing
abbrev pub node_at : List NodeValue → ℕ → NodeValue
node_at nodes a = slice_index_or nodes a (record { opened = 0; room = 0; governed = root; ended = true })

-- the finish that activity a opened last
abbrev pub innermost_of : ℕ → NodeValue → Finish
innermost_of a node = record { owner = Some a; depth = node.opened }

-- the finish that governs what activity a starts: the innermost that it has open, else the one that governs it
abbrev pub governing_of : ℕ → NodeValue → Finish
governing_of a node = if node.opened == 0 then node.governed else innermost_of a node

-- the finish that governs an activity, if there is one
abbrev pub governed_of : List NodeValue → Option ℕ → Option Finish
governed_of nodes o = option_and_then (λ b. option_map (λ node. node.governed) (slice_get nodes b)) o

-- two activities, or one in two trees, have as many finishes open, and the same governs them
abbrev pub HaveSameFinishes : NodeValue → NodeValue → Type 0
HaveSameFinishes x y = (x.opened ≡ y.opened) × (x.governed ≡ y.governed)

-- ---- what happens to an activity

-- one more finish is open
abbrev pub node_entered : NodeValue → NodeValue
node_entered node = record node { opened = node.opened + 1 }

-- one less is
abbrev pub node_left : NodeValue → NodeValue
node_left node = record node { opened = node.opened - 1 }

-- the activity is over
abbrev pub node_ended : NodeValue → NodeValue
node_ended node = record node { ended = true }

-- it happens to activity a
abbrev pub changed_at : List NodeValue → ℕ → (NodeValue → NodeValue) → List NodeValue
changed_at nodes a change = slice_set nodes a (change (node_at nodes a))

-- ---- who is under a finish

-- Activity b is under the finish: the finish governs it, or what governs it has an owner that is under the finish. No more
-- activities are looked at than this, b among them.
unfoldable pub under_within : List NodeValue → Finish → ℕ → ℕ → Bool
under_within nodes f zero b = false
under_within nodes f (suc n) b =
    option_map_or (λ node. same_finish node.governed f || option_map_or (under_within nodes f n) node.governed.owner false) (slice_get nodes b) false

-- The owner of a finish has a smaller number than those whom it governs, so that looking at as many as there are is enough.
abbrev pub is_under : List NodeValue → Finish → ℕ → Bool
is_under nodes f b = under_within nodes f (length nodes) b

-- one of these activities, the first of them number b, is under the finish and hasn't ended
abbrev pub awaits_from : List NodeValue → Finish → ℕ → List NodeValue → Bool
awaits_from nodes f b [] = false
awaits_from nodes f b (x ∷ xs) = (is_under nodes f b && not x.ended) || awaits_from nodes f (suc b) xs

-- an activity under the finish hasn't ended
abbrev pub awaits : List NodeValue → Finish → Bool
awaits nodes f = awaits_from nodes f 0 nodes

-- somebody under the finish that activity a opened last hasn't ended
abbrev pub awaits_innermost : List NodeValue → ℕ → Bool
awaits_innermost nodes a = awaits nodes (innermost_of a (node_at nodes a))

-- ---- what each tree keeps

-- the owner of the finish that governs an activity has a smaller number
abbrev pub AreOwnersEarlier : List NodeValue → Type 0
AreOwnersEarlier nodes = (b : ℕ) (node : NodeValue) → slice_get nodes b ≡ Some node → (a : ℕ) → node.governed.owner ≡ Some a → a < b

-- ---- the activities of a world

-- what the tree keeps of an activity that has this room
abbrev pub node_of : ℕ → Activity → NodeValue
node_of room act = record { opened = act.opened; room = room; governed = act.governed; ended = is_ended act.status }

-- the node tells of the activity, whatever room it has
abbrev pub IsNodeOf : Activity → NodeValue → Type 0
IsNodeOf act node = node ≡ node_of node.room act

-- the nodes tell of these activities, one of each
abbrev pub AreNodesOf : List Activity → List NodeValue → Type 0
AreNodesOf [] [] = Unit {0}
AreNodesOf [] (node ∷ nodes) = ⊥
AreNodesOf (act ∷ acts) [] = ⊥
AreNodesOf (act ∷ acts) (node ∷ nodes) = IsNodeOf act node × AreNodesOf acts nodes
