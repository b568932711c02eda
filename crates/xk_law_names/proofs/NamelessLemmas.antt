-- How activities stand without the numbers of clocks and activities: in worlds that are the same but for these it is the same.
use Rattle.std.proofs.Common.{◌≡◌, ℕ, List, [], ◌∷◌, Option, Some, None, option_map, map, refl, sym, ap, ◌∙◌, arith}
use Rattle.std.specs.Prelude.{slice_get}
use Rattle.std.proofs.lemmas.Option.{slice_get-map}
use Rattle.xk_types.specs.declared.world.Value.{Value}
use Rattle.xk_types.specs.declared.world.Value.TheVariants as value
use Rattle.xk_types.specs.declared.world.Standing.{Standing}
use Rattle.xk_types.specs.Code.{ModuleValue}
use Rattle.xk_types.specs.World.{Frame, Finish, Activity, Clock, World, standing_of, root}
use Rattle.xk_law_commute.specs.PlainWorlds.{plain_activity, plain_clock, plain, AreAlike}
use Rattle.xk_law_names.specs.ClockNames.{value_renamed, frame_renamed, activity_renamed}
use Rattle.xk_law_names.specs.ActivityNames.{renamed, neighbours_swapped, governed_renamed, clock_swapped, HasAllStandings}
use Rattle.xk_law_names.specs.Names.{Exchange, OfClocks, OfActivities, exchanged, IsPair, named, all_exchanged, ArePairs, all_named, AreSameBy}
use Rattle.xk_law_names.proofs.ActivityNameListLemmas.{get-swapped}
use Rattle.xk_law_names.proofs.ActivityNameWorldLemmas.{standing-swapped}
use Rattle.xk_law_names.proofs.NameLaw.{pairs_behind, clock_named, clocks_named, full_one}

-- every clock has one name
abbrev nameless_value : Value → Value
nameless_value value.Unset = value.Unset
nameless_value (value.Number n) = value.Number n
nameless_value (value.Clock c) = value.Clock 0

abbrev nameless_frame : Frame → Frame
nameless_frame f = record f { slots = map nameless_value f.slots }

-- and it isn't known which finish governs the activity, and when it passed last
abbrev pub nameless_activity : Activity → Activity
nameless_activity act =
    record act { frame = nameless_frame act.frame; callers = map nameless_frame act.callers; since = 0; governed = root }

-- how an activity stands, if it's there
abbrev pub state_of : World → ℕ → Option Activity
state_of w a = option_map nameless_activity (slice_get w.activities a)

-- which finish governs it
abbrev governed_of : World → ℕ → Option Finish
governed_of w a = option_map (λ act. act.governed) (slice_get w.activities a)

-- a finish by its owner's number after exchanges
abbrev pub finish_named : List Exchange → Finish → Finish
finish_named xs f = record f { owner = option_map (all_named xs) f.owner }

-- ---- one exchange

map_unseen : {X Y : Type 0} (f : X → Y) (g : X → X) → ((x : X) → f (g x) ≡ f x) → (xs : List X) → map f (map g xs) ≡ map f xs
map_unseen f g h [] = refl
map_unseen f g h (x ∷ xs) = λ i. h x i ∷ map_unseen f g h xs i

value_nameless : (k : ℕ) (v : Value) → nameless_value (value_renamed k v) ≡ nameless_value v
value_nameless k value.Unset = refl
value_nameless k (value.Number n) = refl
value_nameless k (value.Clock c) = refl

frame_nameless : (k : ℕ) (f : Frame) → nameless_frame (frame_renamed k f) ≡ nameless_frame f
frame_nameless k f = λ i. record f { slots = map_unseen nameless_value (value_renamed k) (value_nameless k) f.slots i }

activity_nameless : (k : ℕ) (act : Activity) → nameless_activity (activity_renamed k act) ≡ nameless_activity act
activity_nameless k act = λ i. record act {
  frame = frame_nameless k act.frame i;
  callers = map_unseen nameless_frame (frame_renamed k) (frame_nameless k) act.callers i;
  since = 0;
  governed = root;
}

option_unseen : {X Y : Type 0} (f : X → Y) (g : X → X) → ((x : X) → f (g x) ≡ f x) → (o : Option X)
    → option_map f (option_map g o) ≡ option_map f o
option_unseen f g h None = refl
option_unseen f g h (Some x) = ap (λ y. Some y) (h x)

-- who has that number then
found_one : (x : Exchange) (w : World) (a : ℕ) → IsPair x w → (f : Activity → Activity)
    → ((k : ℕ) (act : Activity) → f (activity_renamed k act) ≡ f act) → ((k : ℕ) (act : Activity) → f (governed_renamed k act) ≡ f act)
    → option_map f (slice_get (exchanged x w).activities (named x a)) ≡ option_map f (slice_get w.activities a)
found_one (OfClocks k) w a there f p q =
    ap (option_map f) (slice_get-map (activity_renamed k) w.activities a)
    ∙ option_unseen f (activity_renamed k) (p k) (slice_get w.activities a)
found_one (OfActivities k) w a there f p q =
    ap (option_map f) (slice_get-map (governed_renamed k) (neighbours_swapped k w.activities) (renamed k a))
    ∙ option_unseen f (governed_renamed k) (q k) (slice_get (neighbours_swapped k w.activities) (renamed k a))
    ∙ ap (option_map f) (get-swapped k w.activities a there)

governed_one : (x : Exchange) (w : World) (a : ℕ) → IsPair x w
    → governed_of (exchanged x w) (named x a) ≡ option_map (finish_named (x ∷ [])) (governed_of w a)
governed_one (OfClocks k) w a there = ap (option_map (λ (act : Activity). act.governed)) (slice_get-map (activity_renamed k) w.activities a)
    ∙ by (slice_get w.activities a)
  where
    owner : (o : Option ℕ) → o ≡ option_map (λ b. b) o
    owner None = refl
    owner (Some b) = refl

    by : (o : Option Activity) → option_map (λ (act : Activity). act.governed) (option_map (activity_renamed k) o)
        ≡ option_map (finish_named (OfClocks k ∷ [])) (option_map (λ (act : Activity). act.governed) o)
    by None = refl
    by (Some act) = λ i. Some (record act.governed { owner = owner act.governed.owner i })
governed_one (OfActivities k) w a there =
    ap (option_map (λ (act : Activity). act.governed)) (slice_get-map (governed_renamed k) (neighbours_swapped k w.activities) (renamed k a)
    ∙ ap (option_map (governed_renamed k)) (get-swapped k w.activities a there)) ∙ by (slice_get w.activities a)
  where
    by : (o : Option Activity) → option_map (λ (act : Activity). act.governed) (option_map (governed_renamed k) o)
        ≡ option_map (finish_named (OfActivities k ∷ [])) (option_map (λ (act : Activity). act.governed) o)
    by None = refl
    by (Some act) = refl

-- ---- some exchanges

state_all : (xs : List Exchange) (w : World) (a : ℕ) → ArePairs xs w → state_of (all_exchanged xs w) (all_named xs a) ≡ state_of w a
state_all [] w a there = refl
state_all (x ∷ xs) w a there =
    state_all xs (exchanged x w) (named x a) (pairs_behind xs x w there.1)
    ∙ found_one x w a there.0 nameless_activity activity_nameless (λ k act. refl)

governed_all : (xs : List Exchange) (w : World) (a : ℕ) → ArePairs xs w
    → governed_of (all_exchanged xs w) (all_named xs a) ≡ option_map (finish_named xs) (governed_of w a)
governed_all [] w a there = by (governed_of w a)
  where
    owner : (o : Option ℕ) → o ≡ option_map (λ b. b) o
    owner None = refl
    owner (Some b) = refl

    by : (o : Option Finish) → o ≡ option_map (finish_named []) o
    by None = refl
    by (Some f) = λ i. Some (record f { owner = owner f.owner i })
governed_all (x ∷ xs) w a there =
    governed_all xs (exchanged x w) (named x a) (pairs_behind xs x w there.1)
    ∙ ap (option_map (finish_named xs)) (governed_one x w a there.0) ∙ by (governed_of w a)
  where
    owner : (o : Option ℕ) → option_map (all_named xs) (option_map (named x) o) ≡ option_map (all_named (x ∷ xs)) o
    owner None = refl
    owner (Some b) = refl

    by : (o : Option Finish) → option_map (finish_named xs) (option_map (finish_named (x ∷ [])) o) ≡ option_map (finish_named (x ∷ xs)) o
    by None = refl
    by (Some f) = λ i. Some (record f { owner = owner f.owner i })

-- ---- worlds that are alike

found_alike : {Y : Type 0} (f : Activity → Y) → ((act : Activity) → f (plain_activity act) ≡ f act) → (w v : World) (a : ℕ) → AreAlike w v
    → option_map f (slice_get w.activities a) ≡ option_map f (slice_get v.activities a)
found_alike {Y} f h w v a alike = sym (seen w) ∙ ap (λ (z : World). option_map f (slice_get z.activities a)) alike ∙ seen v
  where
    by : (o : Option Activity) → option_map f (option_map plain_activity o) ≡ option_map f o
    by None = refl
    by (Some act) = ap (λ y. Some y) (h act)

    seen : (z : World) → option_map f (slice_get (plain z).activities a) ≡ option_map f (slice_get z.activities a)
    seen z = ap (option_map f) (slice_get-map plain_activity z.activities a) ∙ by (slice_get z.activities a)

-- by its number there an activity stands the same
pub state_same : (xs : List Exchange) (w v : World) (a : ℕ) → AreSameBy xs w v → state_of v (all_named xs a) ≡ state_of w a
state_same xs w v a same =
    sym (found_alike nameless_activity (λ act. refl) (all_exchanged xs w) v (all_named xs a) same.alike) ∙ state_all xs w a same.there

-- and is governed by the same finish, by its owner's number there
pub governed_same : (xs : List Exchange) (w v : World) (a : ℕ) → AreSameBy xs w v
    → governed_of v (all_named xs a) ≡ option_map (finish_named xs) (governed_of w a)
governed_same xs w v a same =
    sym (found_alike (λ (act : Activity). act.governed) (λ act. refl) (all_exchanged xs w) v (all_named xs a) same.alike)
    ∙ governed_all xs w a same.there

-- ---- where one stands on a clock

-- on a clock, if it's there
abbrev stands_at : World → ℕ → ℕ → Option Standing
stands_at w k a = option_map (λ (c : Clock). standing_of c a) (slice_get w.clocks k)

stands_one : (x : Exchange) (w : World) (k a : ℕ) → IsPair x w → HasAllStandings w
    → stands_at (exchanged x w) (clock_named x k) (named x a) ≡ stands_at w k a
stands_one (OfClocks j) w k a there full = ap (option_map (λ (c : Clock). standing_of c a)) (get-swapped j w.clocks k there)
stands_one (OfActivities j) w k a there full =
    ap (option_map (λ (c : Clock). standing_of c (renamed j a))) (slice_get-map (clock_swapped j) w.clocks k)
    ∙ by (slice_get w.clocks k) refl
  where
    by : (o : Option Clock) → slice_get w.clocks k ≡ o
        → option_map (λ (c : Clock). standing_of c (renamed j a)) (option_map (clock_swapped j) o)
        ≡ option_map (λ (c : Clock). standing_of c a) o
    by None h = refl
    by (Some c) h = ap (λ s. Some s) (standing-swapped j a c (let n = full k c h in omega arith))

stands_all : (m : ModuleValue) (xs : List Exchange) (w : World) (k a : ℕ) → ArePairs xs w → HasAllStandings w
    → stands_at (all_exchanged xs w) (clocks_named xs k) (all_named xs a) ≡ stands_at w k a
stands_all m [] w k a there full = refl
stands_all m (x ∷ xs) w k a there full =
    stands_all m xs (exchanged x w) (clock_named x k) (named x a) (pairs_behind xs x w there.1) (full_one m x w full)
    ∙ stands_one x w k a there.0 full

-- by the numbers there an activity stands the same on each clock
pub stands_same : (m : ModuleValue) (xs : List Exchange) (w v : World) (k a : ℕ) → HasAllStandings w → AreSameBy xs w v
    → stands_at v (clocks_named xs k) (all_named xs a) ≡ stands_at w k a
stands_same m xs w v k a full same =
    sym (sym (seen (all_exchanged xs w)) ∙ ap (λ (z : World). stands_at z (clocks_named xs k) (all_named xs a)) same.alike ∙ seen v)
    ∙ stands_all m xs w k a same.there full
  where
    by : (o : Option Clock) → option_map (λ (c : Clock). standing_of c (all_named xs a)) (option_map plain_clock o)
        ≡ option_map (λ (c : Clock). standing_of c (all_named xs a)) o
    by None = refl
    by (Some c) = refl

    seen : (z : World) → stands_at (plain z) (clocks_named xs k) (all_named xs a) ≡ stands_at z (clocks_named xs k) (all_named xs a)
    seen z = ap (option_map (λ (c : Clock). standing_of c (all_named xs a))) (slice_get-map plain_clock z.clocks (clocks_named xs k))
        ∙ by (slice_get z.clocks (clocks_named xs k))
