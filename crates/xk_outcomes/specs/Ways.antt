-- Ways from one that was found to another: steps of activities, each by its rank, and private steps behind each. This project's own.
use Rattle.std.specs.Prelude.{◌≡◌, ℕ, ◌<◌, ℤ, ◌==◌, ◌||◌, Bool, true, List, [], ◌∷◌, ◌++◌, length, get_or, map, Option}
use Rattle.std.specs.Global.{Vec}
use Rattle.std.specs.Option.{option_to_list}
use Rattle.xk_types.specs.Code.{ModuleValue}
use Rattle.xk_types.specs.World.{World}
use Rattle.xk_types.specs.Schedule.{is_enabled}
use Rattle.xk_closed.specs.Closed.{IsClosed}
use Rattle.xk_closed_sets.specs.ClosedSets.{is_in}
use Rattle.xk_outcomes.specs.Found.{FoundValue, act_of, next, next_by_rank, through}

-- where they lie in memory
abbrev pub ranks_in : Vec ℕ → List ℕ
ranks_in way = way.items

abbrev pub ways_in : List (Vec ℕ) → List (List ℕ)
ways_in list = map ranks_in list

-- the way of a number, or none
abbrev pub way_of : List (List ℕ) → ℕ → List ℕ
way_of ways l = get_or ways l []

-- the steps of ways that are gone one after another
abbrev pub steps_of : List (List ℕ) → List ℕ → List ℕ
steps_of ways [] = []
steps_of ways (l ∷ list) = way_of ways l ++ steps_of ways list

-- each activity on the way can take its step, in whose turn it is
abbrev pub CanGo : ModuleValue → FoundValue → List ℕ → Type 0
CanGo m x [] = Unit {0}
CanGo m x (r ∷ way) = (is_enabled m x.core.world (act_of x.core.world r) ≡ true) × CanGo m (next_by_rank r x) way

-- a step at least is on the way, each can be taken, and one number is printed there at most, which is this one
pub record IsWay (m : ModuleValue) (x : FoundValue) (way : List ℕ) (number : Option ℤ) : Type 0 where
  pub some : 0 < length way
  pub goes : CanGo m x way
  pub prints : (through way x).printed ≡ x.printed ++ option_to_list number

-- ---- where there is no choice

-- an activity is tried that is one of these; and each is where none is told
abbrev pub is_tried : List Bool → ℕ → Bool
is_tried members a = (length members == 0) || is_in members a

-- of those that are tried activity a is the only one that can take a step
pub record IsOnlyTried (m : ModuleValue) (w : World) (members : List Bool) (a : ℕ) : Type 0 where
  pub tried : is_tried members a ≡ true
  pub enabled : is_enabled m w a ≡ true
  pub only : (b : ℕ) → is_tried members b ≡ true → is_enabled m w b ≡ true → b ≡ a

-- Of a closed set activity a is the only one that can take a step: whoever tries its step alone misses nothing.
pub record IsLone (m : ModuleValue) (w : World) (a : ℕ) : Type 0 where
  pub set : ℕ → Bool
  pub closed : IsClosed m w set
  pub inside : set a ≡ true
  pub enabled : is_enabled m w a ≡ true
  pub only : (b : ℕ) → set b ≡ true → is_enabled m w b ≡ true → b ≡ a

-- steps of such activities lead from the one to the other, and private steps behind each
abbrev pub LeadsAlone : ModuleValue → List ℕ → FoundValue → FoundValue → Type 0
LeadsAlone m [] x y = x ≡ y
LeadsAlone m (a ∷ list) x y = IsLone m x.core.world a × LeadsAlone m list (next a x) y

-- The way leads from x to y: by a step of activity a, behind which there was no choice.
pub record IsTrip (m : ModuleValue) (x : FoundValue) (a : ℕ) (way : List ℕ) (y : FoundValue) : Type 0 where
  pub to : y ≡ through way x
  pub said : Option ℤ
  pub is_way : IsWay m x way said
  pub more : List ℕ
  pub alone : LeadsAlone m more (next a x) y
