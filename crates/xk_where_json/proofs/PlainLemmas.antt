-- What is told of a world is plain: it has no float, and nests no deeper than an object in the making takes.
use Rattle.std.proofs.Common.{◌≡◌, refl, ℕ, ℤ, pos, negsuc, Bool, true, false, List, [], ◌∷◌, length, map, Option, Some, None}
use Rattle.std.proofs.Common.{codes, arith}
use Rattle.std.specs.Prelude.{cond, slice_get}
use Rattle.std.specs.Option.{option_to_list}
use Rattle.serde_json.specs.Data.{Data, array}
use Rattle.serde_json.specs.View.{items_of}
use Rattle.xk_json.specs.Objects.{array_of, integer_value, number_value}
use Rattle.xk_json.specs.Plain.{IsPlain}
use Rattle.xk_json.proofs.ObjectLemmas.{array_plain, plain_deeper}
use Rattle.xk_json.proofs.PlainLemmas.{AreAllFlat, AreFlat, number_plain, object_of_plain, text_plain}
use Rattle.xk_types.specs.declared.instr.Instr.{Instr}
use Rattle.xk_types.specs.declared.world.Standing.TheVariants as standing
use Rattle.xk_types.specs.declared.world.Value.{Value}
use Rattle.xk_types.specs.declared.world.Value.TheVariants as value
use Rattle.xk_types.specs.Code.{ModuleValue}
use Rattle.xk_types.specs.World.{Frame, World}
use Rattle.xk_activity.specs.Activities.{act_at}
use Rattle.xk_activity.specs.Local.{code_of}
use Rattle.xk_core.specs.Core.{is_living}
use Rattle.xk_unit_origins.specs.UnitOrigins.{UnitOrigins}
use Rattle.xk_show_events.specs.Events.{PlacesValue, origin_of}
use Rattle.xk_show_events.specs.Worlds.{each_below}
use Rattle.xk_show_json.proofs.EventLemmas.{origin_flat}
use Rattle.xk_show_json.proofs.PlainListLemmas.{AreAllPlain, below_plain, fits, list_plain}
use Rattle.xk_show_locals.specs.declared.bounds.Bound.{Bound}
use Rattle.xk_show_locals.specs.Locals.{bound_in, lesser, name_at}
use Rattle.xk_show_names.specs.ClockNames.{is_name}
use Rattle.xk_show_where.specs.declared.condition.Condition.{Condition}
use Rattle.xk_show_where.specs.declared.condition.Condition.TheVariants as condition
use Rattle.xk_show_where.specs.declared.progress.Stop.{Stop}
use Rattle.xk_show_where.specs.Excerpts.{excerpt_of}
use Rattle.xk_show_where.specs.Where.{awaited_by, condition_of, holders_of, standing_on}
use Rattle.xk_where_json.specs.Frames.{any_clock, any_number, frame_groups, frame_items, frame_value, held_items, named_bound, named_clock}
use Rattle.xk_where_json.specs.Frames.{named_groups, named_number, names_value, own_members, slot_items, unnamed_number}
use Rattle.xk_where_json.specs.Standings.{act_groups, act_value, awaited_members, clock_groups, clock_value, does_members, living_groups}
use Rattle.xk_where_json.specs.Standings.{registration_by, registration_groups, registration_items, registrations_value, shared_groups}
use Rattle.xk_where_json.specs.Standings.{shared_if, shared_items, shared_value, standing_name, stop_groups, stop_value}

-- ---- names

integer_flat : (key : List ℕ) (z : ℤ) → AreFlat 0 ((key, integer_value z) ∷ [])
integer_flat key (pos n) = (record { no_float = refl; nests = omega arith }, tt)
integer_flat key (negsuc n) = (record { no_float = refl; nests = omega arith }, tt)

number_named : (name : List ℕ) (n : ℤ) → IsPlain 1 (named_number name n)
number_named name n = object_of_plain 0 (named_groups name (codes "number") (integer_value n)) ((text_plain _, tt), (integer_flat (codes "number") n, tt))

bound_named : (name : List ℕ) (n : ℤ) → IsPlain 1 (named_bound name n)
bound_named name n = object_of_plain 0 (named_groups name (codes "up_to") (integer_value n)) ((text_plain _, tt), (integer_flat (codes "up_to") n, tt))

clock_named : (name : List ℕ) (c : ℕ) → IsPlain 1 (named_clock name c)
clock_named name c = object_of_plain 0 (named_groups name (codes "clock") (number_value c)) ((text_plain _, tt), ((number_plain c, tt), tt))

unnamed : (names : List (List ℕ)) (n : ℤ) (b : Option Bound) → AreAllPlain 1 (option_to_list (unnamed_number names n b))
unnamed names n None = tt
unnamed names n (Some b) = (bound_named (name_at names b.slot) (lesser n b.most), tt)

any_plain : (names : List (List ℕ)) (code : List Instr) (s : ℕ) (n : ℤ) → AreAllPlain 1 (option_to_list (any_number names code s n))
any_plain names code s n = go (is_name (name_at names s))
  where
    go : (b : Bool) → AreAllPlain 1 (option_to_list (cond b (Some (named_number (name_at names s) n)) (unnamed_number names n (bound_in s code))))
    go true = (number_named (name_at names s) n, tt)
    go false = unnamed names n (bound_in s code)

clock_plain : (name : List ℕ) (c : ℕ) → AreAllPlain 1 (option_to_list (any_clock name c))
clock_plain name c = go (is_name name)
  where
    go : (b : Bool) → AreAllPlain 1 (option_to_list (cond b (Some (named_clock name c)) None))
    go true = (clock_named name c, tt)
    go false = tt

held_plain : (names : List (List ℕ)) (code : List Instr) (s : ℕ) (v : Option Value) → AreAllPlain 1 (held_items names code s v)
held_plain names code s None = tt
held_plain names code s (Some value.Unset) = tt
held_plain names code s (Some (value.Number n)) = any_plain names code s n
held_plain names code s (Some (value.Clock c)) = clock_plain (name_at names s) c

names_plain : (names : List (List ℕ)) (code : List Instr) (slots : List Value) → IsPlain 2 (names_value names code slots)
names_plain names code slots =
    list_plain 1 _ (below_plain 1 (slot_items names code slots) (λ k. held_plain names code k (slice_get slots k)) (length names))

pub names_fit : (names : List (List ℕ)) (code : List Instr) (slots : List Value) (d : Data) → d ≡ names_value names code slots → IsPlain 4 d
names_fit names code slots d e = fits 2 (names_value names code slots) d (omega arith) (names_plain names code slots) e

-- ---- frames

own_flat : (m : ModuleValue) (f : Frame) (o : Option UnitOrigins) → AreFlat 2 (own_members m f o)
own_flat m f None = tt
own_flat m f (Some o) = (text_plain _, (names_plain o.slots (code_of m f.unit) f.slots, tt))

frame_plain : (p : PlacesValue) (m : ModuleValue) (a : ℕ) (f : Frame) → IsPlain 3 (frame_value p m a f)
frame_plain p m a f =
    object_of_plain 2 (frame_groups p m a f) (
      (number_plain a, tt),
      ((number_plain _, (number_plain _, tt)), (origin_flat 2 (origin_of p f.unit f.place), (own_flat m f (slice_get p.origins f.unit), tt))),
    )

all_frames : (p : PlacesValue) (m : ModuleValue) (a : ℕ) (fs : List Frame) → AreAllPlain 3 (map (frame_value p m a) fs)
all_frames p m a [] = tt
all_frames p m a (f ∷ fs) = (frame_plain p m a f, all_frames p m a fs)

frames_plain : (p : PlacesValue) (m : ModuleValue) (w : World) (a : ℕ) → AreAllPlain 3 (frame_items p m w a)
frames_plain p m w a = go (is_living w a)
  where
    go : (b : Bool) → AreAllPlain 3
        (cond b (map (frame_value p m a) ((act_at w.activities a).frame ∷ (act_at w.activities a).callers)) [])
    go true = all_frames p m a ((act_at w.activities a).frame ∷ (act_at w.activities a).callers)
    go false = tt

pub frames_fit : (p : PlacesValue) (m : ModuleValue) (w : World) (n : ℕ) (d : Data) → d ≡ array (items_of (each_below (frame_items p m w) n)) → IsPlain 4 d
frames_fit p m w n d e = fits 4 _ d (omega arith) (list_plain 3 _ (below_plain 3 (frame_items p m w) (frames_plain p m w) n)) e

-- ---- activities

pub numbers_fit : (ns : List ℕ) (d : Data) → d ≡ array_of number_value ns → IsPlain 4 d
numbers_fit ns d e = fits 1 (array_of number_value ns) d (omega arith) (array_plain 0 number_value (λ n. number_plain n) ns) e

registered : (c : ℕ) (word : Option (List ℕ)) → AreAllPlain 1 (registration_by c word)
registered c None = tt
registered c (Some word) = (object_of_plain 0 (registration_groups c word) ((number_plain c, (text_plain word, tt)), tt), tt)

registrations_plain : (w : World) (a : ℕ) → IsPlain 2 (registrations_value w a)
registrations_plain w a =
    list_plain 1 _ (below_plain 1 (registration_items w a) (λ c. registered c (standing_name (standing_on w a c))) (length w.clocks))

pub registrations_fit : (w : World) (a : ℕ) (d : Data) → d ≡ registrations_value w a → IsPlain 4 d
registrations_fit w a d e = fits 2 (registrations_value w a) d (omega arith) (registrations_plain w a) e

excerpt_flat : (acts : List ℕ) (n : ℕ) (key count : List ℕ) → AreFlat 2 ((key, array_of number_value acts) ∷ (count, number_value n) ∷ [])
excerpt_flat acts n key count =
    (plain_deeper 1 2 (array_of number_value acts) (omega arith) (array_plain 0 number_value (λ k. number_plain k) acts), (number_plain n, tt))

awaited_flat : (k : Condition) (w : World) (a : ℕ) → AreFlat 2 (awaited_members k w a)
awaited_flat condition.Absent w a = tt
awaited_flat condition.Ended w a = tt
awaited_flat condition.Able w a = tt
awaited_flat condition.ForClocks w a = tt
awaited_flat condition.InFinish w a =
    excerpt_flat (excerpt_of (awaited_by w a)).first (excerpt_of (awaited_by w a)).count (codes "waits_for") (codes "waits_for_count")

act_plain : (p : PlacesValue) (m : ModuleValue) (w : World) (a : ℕ) → IsPlain 3 (act_value p m w a)
act_plain p m w a =
    object_of_plain 2 (does_members a (condition_of m w a) ∷ act_groups p m w a) ((number_plain a, (text_plain _, tt)), go (is_living w a))
  where
    go : (b : Bool) → AreAllFlat 2 (cond b (living_groups p w a (condition_of m w a) (act_at w.activities a)) [])
    go true = (
      (number_plain _, (number_plain _, tt)),
      (
        origin_flat 2 (origin_of p (act_at w.activities a).frame.unit (act_at w.activities a).frame.place),
        ((registrations_plain w a, tt), (awaited_flat (condition_of m w a) w a, tt)),
      ),
    )
    go false = tt

pub acts_fit : (p : PlacesValue) (m : ModuleValue) (w : World) (n : ℕ) (d : Data) → d ≡ array (items_of (each_below (λ a. act_value p m w a ∷ []) n)) → IsPlain 4 d
acts_fit p m w n d e = fits 4 _ d (omega arith) (list_plain 3 _ (below_plain 3 (λ a. act_value p m w a ∷ []) (λ a. (act_plain p m w a, tt)) n)) e

-- ---- clocks, shared numbers, and the step that can't be taken

clock_of : (w : World) (c : ℕ) → IsPlain 3 (clock_value w c)
clock_of w c =
    object_of_plain 2 (clock_groups w c) (
      (number_plain c, (number_plain _, tt)),
      (excerpt_flat (excerpt_of (holders_of w c)).first (excerpt_of (holders_of w c)).count (codes "held_by") (codes "held_by_count"), tt),
    )

pub clocks_fit : (w : World) (n : ℕ) (d : Data) → d ≡ array (items_of (each_below (λ c. clock_value w c ∷ []) n)) → IsPlain 4 d
clocks_fit w n d e = fits 4 _ d (omega arith) (list_plain 3 _ (below_plain 3 (λ c. clock_value w c ∷ []) (λ c. (clock_of w c, tt)) n)) e

shared_plain : (name : Option (List ℕ)) (s : ℕ) (n : ℤ) → IsPlain 1 (shared_value name s n)
shared_plain None s n = object_of_plain 0 (shared_groups None s n) ((number_plain s, integer_flat (codes "value") n), (tt, tt))
shared_plain (Some name) s n = object_of_plain 0 (shared_groups (Some name) s n) ((number_plain s, integer_flat (codes "value") n), ((text_plain _, tt), tt))

shared_all : (name : Option (List ℕ)) (s : ℕ) (n : Option ℤ) → AreAllPlain 1 (shared_if name s n)
shared_all name s None = tt
shared_all name s (Some n) = (shared_plain name s n, tt)

pub shared_fit : (shared : List (List ℕ)) (cells : List ℤ) (n : ℕ) (d : Data) → d ≡ array (items_of (each_below (shared_items shared cells) n)) → IsPlain 4 d
shared_fit shared cells n d e =
    fits 2 _ d (omega arith) (list_plain 1 _ (below_plain 1 (shared_items shared cells) (λ s. shared_all (slice_get shared s) s (slice_get cells s)) n)) e

pub stop_fits : (m : ModuleValue) (w : World) (s : Stop) (d : Data) → d ≡ stop_value m w s → IsPlain 4 d
stop_fits m w s d e =
    fits 1 (stop_value m w s) d (omega arith)
    (object_of_plain 0 (stop_groups m w s) ((number_plain _, (text_plain _, tt)), ((number_plain _, (number_plain _, (number_plain _, tt))), tt))) e
