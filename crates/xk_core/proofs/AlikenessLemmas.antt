-- Activities and clocks of two cores, one by one: what is alike at each place is alike as a whole.
use Rattle.std.proofs.Common.{◌≡◌, ℕ, zero, suc, ◌<◌, Bool, List, [], ◌∷◌, map, length, Some, refl, sym, ap, ◌∙◌, subst, arith, slice_get, get_or, option_map, ext_get_or, Decides}
use Rattle.std.proofs.lemmas.Option.{slice_get-map, slice_get-get_or, same_Some}
use Rattle.xk_types.specs.declared.world.Standing.TheVariants as standing
use Rattle.xk_types.specs.Code.{ModuleValue}
use Rattle.xk_types.specs.World.{Activity, Clock, World, standing_of}
use Rattle.xk_activity.specs.Activities.{act_at}
use Rattle.xk_finishes.specs.Tree.{NodeValue, node_at, HaveSameFinishes}
use Rattle.xk_law_schedules.proofs.ReachabilityLemmas.{reached_sound}
use Rattle.xk_law_commute.specs.PlainWorlds.{plain_clock}
use Rattle.xk_core.specs.Core.{IsCore}
use Rattle.xk_core.specs.FinishView.{with_node, with_nodes}
use Rattle.xk_core.specs.Alikeness.{AreUnderSameFinishes, StandsAlike, IsAlikeClock}

-- ---- lists, and what a function makes of their elements

-- the same at each place, and so the same
pub same_maps : {X Y : Type 0} (f : X → Y) (xs ys : List X) → length ys ≡ length xs
    → ((k : ℕ) → k < length xs → option_map f (slice_get xs k) ≡ option_map f (slice_get ys k)) → map f xs ≡ map f ys
same_maps f [] [] h each = refl
same_maps f [] (y ∷ ys) h each = absurd (omega arith)
same_maps f (x ∷ xs) [] h each = absurd (omega arith)
same_maps f (x ∷ xs) (y ∷ ys) h each = ap (λ z. z ∷ map f xs) (same_Some (f x) (f y) (each 0 (omega arith)))
    ∙ ap (λ zs. f y ∷ zs) (same_maps f xs ys (omega arith) (λ k lt. each (suc k) (omega arith)))

-- and back
pub maps_same : {X Y : Type 0} (f : X → Y) (xs ys : List X) → map f xs ≡ map f ys
    → (k : ℕ) → option_map f (slice_get xs k) ≡ option_map f (slice_get ys k)
maps_same f xs ys e k = sym (slice_get-map f xs k) ∙ ap (λ zs. slice_get zs k) e ∙ slice_get-map f ys k

-- by what is read there
at_place : {X Y : Type 0} (f : X → Y) (xs ys : List X) (k : ℕ) (d : X) → k < length xs → k < length ys
    → f (get_or xs k d) ≡ f (get_or ys k d) → option_map f (slice_get xs k) ≡ option_map f (slice_get ys k)
at_place f xs ys k d h g e = ap (option_map f) (slice_get-get_or xs k d h) ∙ ap Some e ∙ sym (ap (option_map f) (slice_get-get_or ys k d g))

of_place : {X Y : Type 0} (f : X → Y) (xs ys : List X) (k : ℕ) (d : X) → k < length xs → k < length ys
    → option_map f (slice_get xs k) ≡ option_map f (slice_get ys k) → f (get_or xs k d) ≡ f (get_or ys k d)
of_place f xs ys k d h g e = same_Some (f (get_or xs k d)) (f (get_or ys k d))
    (sym (ap (option_map f) (slice_get-get_or xs k d h)) ∙ e ∙ ap (option_map f) (slice_get-get_or ys k d g))

-- ---- activities

-- an activity with its finishes
pub act_told : (ns : List NodeValue) (xs : List Activity) (a : ℕ) → length ns ≡ length xs → a < length xs
    → act_at (with_nodes ns xs) a ≡ with_node (node_at ns a) (act_at xs a)
act_told [] [] a h lt = absurd (omega arith)
act_told [] (x ∷ xs) a h lt = absurd (omega arith)
act_told (n ∷ ns) [] a h lt = absurd (omega arith)
act_told (n ∷ ns) (x ∷ xs) zero h lt = refl
act_told (n ∷ ns) (x ∷ xs) (suc a) h lt = act_told ns xs a (omega arith) (omega arith)

-- it is in the same status without them
pub status_told : (ns : List NodeValue) (xs : List Activity) (a : ℕ) → length ns ≡ length xs → a < length xs
    → (act_at xs a).status ≡ (act_at (with_nodes ns xs) a).status
status_told ns xs a h lt = ap (λ (x : Activity). x.status) (sym (act_told ns xs a h lt))

-- the trees tell whether it is under the same
pub finishes_told : (ns ms : List NodeValue) (xs ys : List Activity) (a : ℕ) → length ns ≡ length xs → length ms ≡ length ys → a < length xs → a < length ys
    → (r : Bool) → Decides r (HaveSameFinishes (node_at ns a) (node_at ms a))
    → Decides r (AreUnderSameFinishes (act_at (with_nodes ns xs) a) (act_at (with_nodes ms ys) a))
finishes_told ns ms xs ys a h g lt lt' r d =
    subst (λ (x : Activity). Decides r (AreUnderSameFinishes x (act_at (with_nodes ms ys) a))) (sym (act_told ns xs a h lt))
    (subst (λ (y : Activity). Decides r (AreUnderSameFinishes (with_node (node_at ns a) (act_at xs a)) y)) (sym (act_told ms ys a g lt')) d)

-- ---- clocks

-- each clock of a core knows where each activity stands
width : (m : ModuleValue) (w : World) (k : ℕ) (c : Clock) → IsCore m w → slice_get w.clocks k ≡ Some c → length c.standings ≡ length w.activities
width m w k c core e = ((reached_sound m core.limits core.accepted w core.reached).clocks k c e).width

module _ (m n : ModuleValue) (w v : World) (k : ℕ) (one : IsCore m w) (other : IsCore n v) (as_many : length v.activities ≡ length w.activities)
    (here : k < length w.clocks) (there : k < length v.clocks) where
  abbrev none : Clock
  none = record { phase = 0; last = 0; standings = [] }

  abbrev c : Clock
  c = get_or w.clocks k none

  abbrev d : Clock
  d = get_or v.clocks k none

  pub clock_alike : ((a : ℕ) → a < length w.activities → StandsAlike w v k a) → IsAlikeClock w v k
  clock_alike each =
      let p : length c.standings ≡ length w.activities = width m w k c one (slice_get-get_or w.clocks k none here) in
      let q : length d.standings ≡ length v.activities = width n v k d other (slice_get-get_or v.clocks k none there) in
      at_place plain_clock w.clocks v.clocks k none here there
      (ap (λ l. record (plain_clock c) { standings = l }) (ext_get_or standing.Apart c.standings d.standings (p ∙ sym as_many ∙ sym q)
      (λ a lt. of_place (λ (z : Clock). standing_of z a) w.clocks v.clocks k none here there (each a (omega (arith, lt, p))))))
