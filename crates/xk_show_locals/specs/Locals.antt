-- An activity's own numbers and clocks, in the frame that it stands in and in those that called, by the names of its source text. What
-- frames and slots are, `xk_types` says in `World.antt`; that they are told so is this project's own.
use Rattle.std.specs.Prelude.{⊤, ◌<◌, ◌^◌, ℕ, nat_eq, ℤ, int_lt, List, [], ◌∷◌, ◌++◌, length, Option, Some, None, slice_get, flat_map}
use Rattle.std.specs.Prelude.{codes, decimal, if◌then◌else◌}
use Rattle.std.specs.Fmt.{signed_decimal}
use Rattle.std.specs.Option.{option_map_or}
use Rattle.xk_types.specs.declared.instr.Instr.{Instr}
use Rattle.xk_types.specs.declared.instr.Instr.TheVariants as instr
use Rattle.xk_types.specs.declared.world.Value.{Value}
use Rattle.xk_types.specs.declared.world.Value.TheVariants as value
use Rattle.xk_types.specs.Code.{ModuleValue}
use Rattle.xk_types.specs.World.{Activity, Frame, World}
use Rattle.xk_unit_origins.specs.UnitOrigins.{UnitOrigins}
use Rattle.xk_activity.specs.Activities.{act_at}
use Rattle.xk_activity.specs.Local.{code_of}
use Rattle.xk_core.specs.Core.{is_living}
use Rattle.xk_show_events.specs.Events.{PlacesValue, origin_of, place_words}
use Rattle.xk_show_events.specs.Worlds.{each_below}
use Rattle.xk_show_locals.specs.declared.bounds.Bound.{Bound}
use Rattle.xk_show_names.specs.ClockNames.{is_name}
use Rattle.xk_show_names.specs.Letters.{cut_name}

-- ---- loops

-- Of a loop that goes no further up than the number in slot s: the slot that it counts in, and the number of the text that it goes no
-- further up than, either.
abbrev pub bound_by : ℕ → Instr → Option Bound
bound_by s (instr.ForTo k lo x hi e) = if nat_eq x s then Some (record { slot = k; most = hi }) else None
bound_by s _ = None

abbrev pub or_else : Option Bound → Option Bound → Option Bound
or_else (Some b) other = Some b
or_else None other = other

-- the first one of these instructions
abbrev pub bound_in : ℕ → List Instr → Option Bound
bound_in s [] = None
bound_in s (i ∷ is) = or_else (bound_by s i) (bound_in s is)

abbrev pub lesser : ℤ → ℤ → ℤ
lesser n most = if int_lt n most then n else most

-- ---- what a slot holds

-- what a slot is called; temporaries are called nothing
abbrev pub name_at : List (List ℕ) → ℕ → List ℕ
name_at names s = option_map_or (λ name. name) (slice_get names s) []

-- `, t = 5`
unfoldable pub number_words : List ℕ → ℤ → List ℕ
number_words name n = codes ", " ++ (cut_name name ++ (codes " = " ++ signed_decimal n))

-- `, c is clock 0`
unfoldable pub clock_words : List ℕ → ℕ → List ℕ
clock_words name c = codes ", " ++ (cut_name name ++ (codes " is clock " ++ decimal c))

-- `, i up to 3`: the loop's bound is the lesser of a number that was reckoned, and of one in the text
unfoldable pub bound_words : List ℕ → ℤ → List ℕ
bound_words name n = codes ", " ++ (cut_name name ++ (codes " up to " ++ signed_decimal n))

-- a number whose name isn't in the text
abbrev pub unnamed_words : List (List ℕ) → ℤ → Option Bound → List ℕ
unnamed_words names n None = []
unnamed_words names n (Some b) = bound_words (name_at names b.slot) (lesser n b.most)

abbrev pub any_number : List (List ℕ) → List Instr → ℕ → ℤ → List ℕ
any_number names code s n = if is_name (name_at names s) then number_words (name_at names s) n else unnamed_words names n (bound_in s code)

-- a clock whose name isn't in the text is left out
abbrev pub named_clock : List ℕ → ℕ → List ℕ
named_clock name c = if is_name name then clock_words name c else []

-- what is told of a slot by what it holds: nothing where that is unset
abbrev pub held_words : List (List ℕ) → List Instr → ℕ → Option Value → List ℕ
held_words names code s None = []
held_words names code s (Some value.Unset) = []
held_words names code s (Some (value.Number n)) = any_number names code s n
held_words names code s (Some (value.Clock c)) = named_clock (name_at names s) c

abbrev pub slot_words : List (List ℕ) → List Instr → List Value → ℕ → List ℕ
slot_words names code slots s = held_words names code s (slice_get slots s)

-- all slots that have these names, in the order of the text
abbrev pub frame_words : List (List ℕ) → List Instr → List Value → List ℕ
frame_words names code slots = each_below (slot_words names code slots) (length names)

-- ---- lines

-- a method's name; the body of an `async` has none
abbrev pub unit_word : Option (List ℕ) → List ℕ
unit_word None = codes "async"
unit_word (Some name) = cut_name name

-- `act 1 in work`
unfoldable pub front : ℕ → Option (List ℕ) → List ℕ
front a name = codes "act " ++ (decimal a ++ (codes " in " ++ unit_word name))

-- no line where nothing is told
abbrev pub line_by : List ℕ → List ℕ → List ℕ
line_by before told = if nat_eq (length told) 0 then [] else before ++ (told ++ codes "\n")

abbrev pub line_in : ModuleValue → ℕ → Frame → Option UnitOrigins → List ℕ
line_in m a f None = []
line_in m a f (Some o) = line_by (front a o.head.name) (frame_words o.slots (code_of m f.unit) f.slots)

-- of the frame that activity a stands in
abbrev pub frame_line : List UnitOrigins → ModuleValue → ℕ → Frame → List ℕ
frame_line origins m a f = line_in m a f (slice_get origins f.unit)

-- `act 1 called by main at 12:5`
unfoldable pub caller_front : ℕ → Option (List ℕ) → List ℕ → List ℕ
caller_front a name place = codes "act " ++ (decimal a ++ (codes " called by " ++ (unit_word name ++ (codes " " ++ place))))

-- where a frame stands: one that waits, at its `call`
abbrev pub place_in : PlacesValue → Frame → List ℕ
place_in p f = place_words f.unit f.place (origin_of p f.unit f.place)

-- there is a line of each frame that waits, whether its numbers are set or not
abbrev pub caller_line_in : PlacesValue → ModuleValue → ℕ → Frame → Option UnitOrigins → List ℕ
caller_line_in p m a f None = []
caller_line_in p m a f (Some o) =
    (caller_front a o.head.name (place_in p f) ++ frame_words o.slots (code_of m f.unit) f.slots) ++ codes "\n"

-- `act 1 called by main at 12:5, i = 2`
abbrev pub caller_line : PlacesValue → ModuleValue → ℕ → Frame → List ℕ
caller_line p m a f = caller_line_in p m a f (slice_get p.origins f.unit)

-- each of these frames has fewer slots than 16 bits number
abbrev pub AreFew : List Frame → Type 0
AreFew [] = ⊤
AreFew (f ∷ fs) = (length f.slots < 2 ^ 16) × AreFew fs

-- of the frame that an activity stands in, and of those that wait for it to return, the nearest first
abbrev pub lines_of : PlacesValue → ModuleValue → ℕ → Activity → List ℕ
lines_of p m a act = frame_line p.origins m a act.frame ++ flat_map (caller_line p m a) act.callers

-- `act 1 in work, n = 2, t = 5`, and those that called; nothing of one that has ended
abbrev pub locals_lines : PlacesValue → ModuleValue → World → ℕ → List ℕ
locals_lines p m w a = if is_living w a then lines_of p m a (act_at w.activities a) else []
