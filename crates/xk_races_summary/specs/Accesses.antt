-- Which accesses of a shared number stand for all earlier ones: the last one of each activity that reads, adds or writes, as a whole or at each
-- place in the text. Who doesn't know an access doesn't know the one that stands for it either.
use Rattle.std.specs.Prelude.{◌≡◌, ℕ, nat_eq, nat_le, nat_lt, Bool, true, false, ◌&&◌, List, [], ◌∷◌, ◌++◌, map, Some, slice_get, if◌then◌else◌}
use Rattle.std.specs.List.{list_any}
use Rattle.xk_types.specs.declared.world.Event.{Event}
use Rattle.xk_types.specs.declared.world.Event.TheVariants as event
use Rattle.xk_show_events.specs.declared.steps.RunStep.{RunStep}
use Rattle.xk_races_summary.specs.declared.access.Access.{Access}
use Rattle.xk_races_summary.specs.declared.access.Detail.{Detail}
use Rattle.xk_races_summary.specs.declared.access.Detail.TheVariants.{Activity, Place}
use Rattle.xk_races_summary.specs.declared.access.AccessKind.{AccessKind}
use Rattle.xk_races_summary.specs.declared.access.AccessKind.TheVariants.{Read, Addition, Write}

-- ---- what an access does

-- what was seen of it says whether it read the shared number, added to it or wrote it
abbrev pub kind_of : Event → AccessKind
kind_of event.Got = Read
kind_of event.Added = Addition
kind_of e = Write

-- both are the same
abbrev pub is_kind : AccessKind → AccessKind → Bool
is_kind Read Read = true
is_kind Addition Addition = true
is_kind Write Write = true
is_kind k l = false

-- ---- those that stand for others

-- both were taken at one place in the text
abbrev pub is_same_place : RunStep → RunStep → Bool
is_same_place s t = nat_eq s.unit t.unit && nat_eq s.place t.place

-- the same, where places are looked at
abbrev pub is_at : Detail → RunStep → RunStep → Bool
is_at Activity s t = true
is_at Place s t = is_same_place s t

-- both are of one activity and one kind, and of one place where that is looked at
abbrev pub is_like : Detail → Access → Access → Bool
is_like d r x = nat_eq r.step.act x.step.act && (is_kind (kind_of r.step.event) (kind_of x.step.event) && is_at d r.step x.step)

-- r stands for x: it is like it and no earlier one
abbrev pub covers : Detail → Access → Access → Bool
covers d r x = is_like d r x && nat_le x.number r.number

-- one of these stands for x
abbrev pub is_covered : Detail → List Access → Access → Bool
is_covered d rows x = list_any (λ r. covers d r x) rows

-- the later one of two
abbrev pub later : Access → Access → Access
later r x = if nat_lt r.number x.number then x else r

-- row i of these is r, which is like x
abbrev pub IsLikeAt : Detail → List Access → Access → ℕ → Access → Type 0
IsLikeAt d rows x i r = (slice_get rows i ≡ Some r) × (is_like d r x ≡ true)

-- ---- those of one place

-- The last access of an activity and kind at a place in the text, and the positions of all of them.
pub record Group : Type 0 where
  pub last : Access
  pub members : List ℕ

-- a group of one
abbrev pub single : Access → Group
single x = record { last = x; members = x.position ∷ [] }

-- with one more
abbrev pub with_member : Access → Group → Group
with_member x g = record { last = later g.last x; members = g.members ++ x.position ∷ [] }

-- z is one of the members, and the last one stands for it
abbrev pub has_member : Access → Group → Bool
has_member z g = covers Place g.last z && list_any (nat_eq z.position) g.members

-- it is so in one of these
abbrev pub is_placed : List Group → Access → Bool
is_placed groups z = list_any (has_member z) groups

-- x is like the members of group i
abbrev pub IsOfGroup : List Group → Access → ℕ → Type 0
IsOfGroup groups x i = (g : Group) × (slice_get groups i ≡ Some g) × (is_like Place g.last x ≡ true)

-- ---- those of a shared number

-- The last ones of each activity and kind; those of each of these and each place, as far as they were looked for; and those that came since.
pub record Latest : Type 0 where
  pub of_activities : List Access
  pub of_places : List Group
  pub since : List Access

-- before the first access
abbrev pub none_yet : Latest
none_yet = record { of_activities = []; of_places = []; since = [] }

-- the groups, where each of those that came since is one of its own
abbrev pub groups_of : Latest → List Group
groups_of l = l.of_places ++ map single l.since

-- z has one that stands for it, as a whole and at its place
abbrev pub IsCovered : Latest → Access → Type 0
IsCovered l z = (is_covered Activity l.of_activities z ≡ true) × (is_placed (groups_of l) z ≡ true)

-- whatever has one that stands for it before, has one behind
abbrev pub KeepsCovered : Latest → Latest → Type 0
KeepsCovered old new = (z : Access) → IsCovered old z → IsCovered new z
