-- An activity's frames as JSON values: where each stands, in which method, and what its names hold. This project's own.
use Rattle.std.specs.Prelude.{ℕ, ℤ, List, [], ◌∷◌, ◌++◌, length, map, Option, Some, None, slice_get, codes, if◌then◌else◌}
use Rattle.std.specs.Option.{option_to_list}
use Rattle.serde_json.specs.Data.{Data, array}
use Rattle.serde_json.specs.View.{items_of}
use Rattle.xk_json.specs.Objects.{Group, bytes_value, integer_value, number_value, object_of}
use Rattle.xk_types.specs.declared.instr.Instr.{Instr}
use Rattle.xk_types.specs.declared.world.Value.{Value}
use Rattle.xk_types.specs.declared.world.Value.TheVariants as value
use Rattle.xk_types.specs.Code.{ModuleValue}
use Rattle.xk_types.specs.World.{Frame, World}
use Rattle.xk_unit_origins.specs.UnitOrigins.{UnitOrigins}
use Rattle.xk_activity.specs.Activities.{act_at}
use Rattle.xk_activity.specs.Local.{code_of}
use Rattle.xk_core.specs.Core.{is_living}
use Rattle.xk_show_events.specs.Events.{PlacesValue, origin_of}
use Rattle.xk_show_events.specs.Worlds.{each_below}
use Rattle.xk_show_json.specs.Events.{origin_members}
use Rattle.xk_show_locals.specs.declared.bounds.Bound.{Bound}
use Rattle.xk_show_locals.specs.Locals.{bound_in, lesser, name_at, unit_word}
use Rattle.xk_show_names.specs.ClockNames.{is_name}
use Rattle.xk_show_names.specs.Letters.{cut_name}

-- ---- places

-- an instruction, and the line and column that it comes from, if they are known
abbrev pub place_groups : PlacesValue → ℕ → ℕ → List Group
place_groups p unit place =
    ((codes "place", number_value place) ∷ (codes "unit", number_value unit) ∷ []) ∷ origin_members (origin_of p unit place) ∷ []

-- ---- what a name holds

abbrev pub name_member : List ℕ → Group
name_member name = (codes "name", bytes_value (cut_name name)) ∷ []

-- and what it holds, under this key
abbrev pub named_groups : List ℕ → List ℕ → Data → List Group
named_groups name key held = name_member name ∷ ((key, held) ∷ []) ∷ []

-- `{"name":"t","number":5}`
abbrev pub named_number : List ℕ → ℤ → Data
named_number name n = object_of (named_groups name (codes "number") (integer_value n))

-- `{"name":"i","up_to":3}`: how far the loop goes up that counts by this name
abbrev pub named_bound : List ℕ → ℤ → Data
named_bound name n = object_of (named_groups name (codes "up_to") (integer_value n))

-- `{"clock":0,"name":"c"}`
abbrev pub named_clock : List ℕ → ℕ → Data
named_clock name c = object_of (named_groups name (codes "clock") (number_value c))

-- a number whose name isn't in the text, if it bounds a loop
abbrev pub unnamed_number : List (List ℕ) → ℤ → Option Bound → Option Data
unnamed_number names n None = None
unnamed_number names n (Some b) = Some (named_bound (name_at names b.slot) (lesser n b.most))

abbrev pub any_number : List (List ℕ) → List Instr → ℕ → ℤ → Option Data
any_number names code s n =
    if is_name (name_at names s) then Some (named_number (name_at names s) n) else unnamed_number names n (bound_in s code)

abbrev pub any_clock : List ℕ → ℕ → Option Data
any_clock name c = if is_name name then Some (named_clock name c) else None

-- what is told of a slot by what it holds: nothing where that is unset
abbrev pub held_value : List (List ℕ) → List Instr → ℕ → Value → Option Data
held_value names code s value.Unset = None
held_value names code s (value.Number n) = any_number names code s n
held_value names code s (value.Clock c) = any_clock (name_at names s) c

abbrev pub held_items : List (List ℕ) → List Instr → ℕ → Option Value → List Data
held_items names code s None = []
held_items names code s (Some v) = option_to_list (held_value names code s v)

abbrev pub slot_items : List (List ℕ) → List Instr → List Value → ℕ → List Data
slot_items names code slots s = held_items names code s (slice_get slots s)

-- all slots that have these names, in the order of the text
abbrev pub names_value : List (List ℕ) → List Instr → List Value → Data
names_value names code slots = array (items_of (each_below (slot_items names code slots) (length names)))

-- ---- frames

-- in which method, and what its names hold, where the origins of its unit are known
abbrev pub own_members : ModuleValue → Frame → Option UnitOrigins → Group
own_members m f None = []
own_members m f (Some o) =
    (codes "in", bytes_value (unit_word o.head.name)) ∷ (codes "names", names_value o.slots (code_of m f.unit) f.slots) ∷ []

abbrev pub frame_groups : PlacesValue → ModuleValue → ℕ → Frame → List Group
frame_groups p m a f =
    ((codes "act", number_value a) ∷ []) ∷ place_groups p f.unit f.place ++ own_members m f (slice_get p.origins f.unit) ∷ []

-- `{"act":1,"column":5,"in":"work","line":10,"names":[{"name":"who","number":1}],"place":2,"unit":1}`
abbrev pub frame_value : PlacesValue → ModuleValue → ℕ → Frame → Data
frame_value p m a f = object_of (frame_groups p m a f)

-- the frame in which activity a stands, and those that wait for it to return, the nearest first; of one who has ended none
abbrev pub frame_items : PlacesValue → ModuleValue → World → ℕ → List Data
frame_items p m w a =
    if is_living w a then map (frame_value p m a) ((act_at w.activities a).frame ∷ (act_at w.activities a).callers) else []
