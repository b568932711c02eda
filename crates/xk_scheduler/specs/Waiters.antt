-- The lists of those who wait at an `advance`, each that of a clock which holds them back, from step to step. This project's own.
use Rattle.std.specs.Prelude.{◌≡◌, ℕ, ◌<◌, ◌≤◌, ◌⊎◌, true, false, List, [], ◌∷◌, slice_set}
use Rattle.xk_types.specs.declared.world.Event.{Event}
use Rattle.xk_types.specs.declared.world.Event.TheVariants as event
use Rattle.xk_types.specs.World.{World}
use Rattle.xk_types.specs.Step.{waits}
use Rattle.xk_collections.specs.NumberSets.{with_member}
use Rattle.xk_collections.specs.WaitingLists.{times, times_in_all, waiters}
use Rattle.xk_core.specs.Core.{is_held_back_by}
use Rattle.xk_core.specs.Core.{is_waiting}

-- Who waits at an `advance` and is held back by a clock stands in the list of one that does, and in no other; nobody else stands in any.
pub record AreHeld (w : World) (lists : List (List ℕ)) : Type 0 where
  pub once : (a : ℕ) → times_in_all a lists ≤ 1
  pub stands : (c a : ℕ) → 0 < times a (waiters lists c) → (is_waiting w a ≡ true) × (is_held_back_by w a c ≡ true)
  pub covers : (a : ℕ) → is_waiting w a ≡ true → waits w a ≡ true → 0 < times_in_all a lists

-- an activity is put into the list of a clock that holds it back, if one does
abbrev pub IsPut : World → ℕ → List (List ℕ) → List (List ℕ) → Type 0
IsPut w a lists later =
    ((c : ℕ) × (is_held_back_by w a c ≡ true) × (later ≡ slice_set lists c (a ∷ waiters lists c))) ⊎ ((waits w a ≡ false) × (later ≡ lists))

-- An activity that waits at an `advance` is asked anew what holds it back: it is put into the list of such a clock, or else, as it can take a
-- step, into the set of those who can.
abbrev pub IsAsked : World → ℕ → List ℕ → List (List ℕ) → List ℕ → List (List ℕ) → Type 0
IsAsked w a list lists next later =
    ((c : ℕ) × (is_held_back_by w a c ≡ true) × (next ≡ list) × (later ≡ slice_set lists c (a ∷ waiters lists c)))
    ⊎ ((waits w a ≡ false) × (next ≡ with_member a true list) × (later ≡ lists))

-- each of these is
abbrev pub AreAsked : World → List ℕ → List ℕ → List (List ℕ) → List ℕ → List (List ℕ) → Type 0
AreAsked w [] list lists next later = (next ≡ list) × (later ≡ lists)
AreAsked w (a ∷ acts) list lists next later =
    (mid : List ℕ) × (between : List (List ℕ)) × IsAsked w a list lists mid between × AreAsked w acts mid between next later

-- after a step of an activity that was seen so: it is put into a list if it has just come to wait
abbrev pub IsNotedIn : World → ℕ → Event → List (List ℕ) → List (List ℕ) → Type 0
IsNotedIn w a event.Arrived lists later = IsPut w a lists later
IsNotedIn w a _ lists later = later ≡ lists

-- it has just come to wait, and a clock holds it back
abbrev pub IsHeldNow : World → ℕ → Event → Type 0
IsHeldNow w a e = (e ≡ event.Arrived) × (waits w a ≡ true)
