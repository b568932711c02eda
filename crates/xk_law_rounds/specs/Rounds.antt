-- Runs by rounds: as many processors as there are activities, each of which takes a step or none in a round. What can be taken is
-- settled when the round begins: nobody waits in a round for what another does in it.
use Rattle.std.specs.Prelude.{◌≡◌, ℕ, suc, ◌<◌, ◌≤◌, ◌⊎◌, true, false, List, [], ◌∷◌, ◌++◌, length, map}
use Rattle.xk_types.specs.Code.{ModuleValue}
use Rattle.xk_types.specs.World.{World}
use Rattle.xk_types.specs.Schedule.{Through, run, is_enabled}
use Rattle.xk_law_traces.specs.Moments.{started_by}
use Rattle.xk_law_traces.specs.Edges.{StepName, turns_of, IsCause, IsTaken, IsEdge}

-- By a round from world w to world v: each of these can take a step in w, and they take one each, in this order.
pub record IsRound (m : ModuleValue) (w : World) (list : List ℕ) (v : World) : Type 0 where
  pub enabled : (a : ℕ) → 0 < turns_of a list → is_enabled m w a ≡ true
  pub once : (a : ℕ) → turns_of a list ≤ 1
  pub leads : run m list w ≡ Through v

-- rounds one after another
abbrev pub AreRounds : ModuleValue → World → List (List ℕ) → World → Type 0
AreRounds m w [] z = w ≡ z
AreRounds m w (r ∷ rs) z = (v : World) × IsRound m w r v × AreRounds m v rs z

-- the schedule that they are
abbrev pub steps_in : List (List ℕ) → List ℕ
steps_in [] = []
steps_in (r ∷ rs) = r ++ steps_in rs

-- ---- chains

-- a chain of steps up to y: each leads to the next, or one activity takes both, in this order; the last one first
abbrev pub IsChainBy : (StepName → StepName → Type 0) → StepName → List StepName → Type 0
IsChainBy Leads y [] = y ≡ y
IsChainBy Leads y (x ∷ xs) = (Leads x y ⊎ ((x.0 ≡ y.0) × (x.1 < y.1))) × IsChainBy Leads x xs

-- no chain up to a step of this schedule has more steps
abbrev pub HasNoLongerBy : (StepName → StepName → Type 0) → List ℕ → ℕ → Type 0
HasNoLongerBy Leads s n = (y : StepName) (xs : List StepName) → IsChainBy Leads y xs → IsTaken s y → suc (length xs) ≤ n

-- some chain up to a step of this schedule has n steps, unless n is 0
abbrev pub HasChainBy : (StepName → StepName → Type 0) → List ℕ → ℕ → Type 0
HasChainBy Leads s n = (n ≡ 0) ⊎ ((y : StepName) × (xs : List StepName) × IsChainBy Leads y xs × IsTaken s y × (suc (length xs) ≡ n))

-- The span of a schedule is n: some chain of its steps by their causes has so many, and none has more. A cause is a start, the end of a
-- finish or an `advance` (`Edges.antt` of `xk_law_traces`).
pub record IsSpan (m : ModuleValue) (w : World) (s : List ℕ) (n : ℕ) : Type 0 where
  pub reached : HasChainBy (IsCause m w s) s n
  pub most : HasNoLongerBy (IsCause m w s) s n

-- Step y of the schedule comes in round n: some such chain up to it has n steps, and none has more.
pub record IsInRound (m : ModuleValue) (w : World) (s : List ℕ) (y : StepName) (n : ℕ) : Type 0 where
  pub taken : IsTaken s y
  pub chain : List StepName
  pub caused : IsChainBy (IsCause m w s) y chain
  pub long : suc (length chain) ≡ n
  pub most : (xs : List StepName) → IsChainBy (IsCause m w s) y xs → suc (length xs) ≤ n

-- Each step of schedule s is one of schedule t, by its activity's number there, and comes in the same round; no two are one. Main keeps
-- its number, and what an activity starts first, second and so on in s it starts so in t.
pub record HaveSameRounds (m : ModuleValue) (w : World) (s t : List ℕ) : Type 0 where
  pub names : ℕ → ℕ
  pub back : ℕ → ℕ
  pub once : (y : StepName) → IsTaken s y → back (names y.0) ≡ y.0
  pub main : names 0 ≡ 0
  pub starts : (a : ℕ) → map names (started_by m s w a) ≡ started_by m t w (names a)
  pub rounds : (y : StepName) (n : ℕ) → IsInRound m w s y n → IsInRound m w t (names y.0, y.1) n

-- by edges: each is linked to the next
abbrev pub IsChain : List (StepName × StepName) → StepName → List StepName → Type 0
IsChain edges y xs = IsChainBy (IsEdge edges) y xs

abbrev pub HasNoLonger : List (StepName × StepName) → List ℕ → ℕ → Type 0
HasNoLonger edges s n = HasNoLongerBy (IsEdge edges) s n

-- ---- greedy

-- whoever can take a step in w is one of these
abbrev pub IsFull : ModuleValue → World → List ℕ → Type 0
IsFull m w list = (a : ℕ) → is_enabled m w a ≡ true → 0 < turns_of a list

-- rounds one after another, none of them empty, in each of which everybody takes a step who can
abbrev pub AreGreedy : ModuleValue → World → List (List ℕ) → World → Type 0
AreGreedy m w [] z = w ≡ z
AreGreedy m w (r ∷ rs) z = (v : World) × IsRound m w r v × IsFull m w r × (0 < length r) × AreGreedy m v rs z

-- step y is taken in round r behind these
abbrev pub IsTakenIn : List (List ℕ) → List ℕ → StepName → Type 0
IsTakenIn before r y = (turns_of y.0 (steps_in before) ≤ y.1) × IsTaken (steps_in before ++ r) y

-- ---- causes

-- Where an activity can't take its next step of this schedule yet, a step of the schedule causes that one which wasn't taken yet.
abbrev pub AreComplete : ModuleValue → World → List ℕ → Type 0
AreComplete m w s = (y : StepName) → IsTaken s y
    → (before after : List ℕ) (v : World) → s ≡ before ++ after
    → run m before w ≡ Through v → turns_of y.0 before ≡ y.1 → is_enabled m v y.0 ≡ false
    → (x : StepName) × IsCause m w s x y × IsTaken s x × (IsTaken before x → ⊥)
