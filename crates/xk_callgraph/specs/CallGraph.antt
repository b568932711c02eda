-- Calls among methods, which are numbered from 0: for each method the list of those that it calls. X10 has recursion; that no method here is
-- reached again from itself is this project's own.
use Rattle.std.specs.Prelude.{◌≡◌, ◌<◌, ◌≤◌, ◌+◌, ◌==◌, ℕ, Vec, List, [], ◌∷◌, length, slice_index, slice_get, Some, map, if◌then◌else◌}
use Rattle.std.specs.Option.{option_map_or}
use Rattle.std.specs.declared.alloc.Global.{Global}

-- the lists that vectors hold
abbrev pub adjacency : List (Vec ℕ Global) → List (List ℕ)
adjacency vs = map (λ v. v.items) vs

-- whom method i calls
abbrev pub called_by : List (List ℕ) → ℕ → List ℕ
called_by calls i = option_map_or (λ js. js) (slice_get calls i) []

-- call k of method i names method j
abbrev pub IsCall : List (List ℕ) → ℕ → ℕ → ℕ → Type 0
IsCall calls i k j = slice_get (called_by calls i) k ≡ Some j

-- a path of calls, through these methods
abbrev pub Path : List (List ℕ) → List ℕ → ℕ → ℕ → Type 0
Path calls [] i j = i ≡ j
Path calls (n ∷ ns) i j = ((k : ℕ) × IsCall calls i k n) × Path calls ns n j

-- method j is i itself, or is reached from it by calls
abbrev pub Reaches : List (List ℕ) → ℕ → ℕ → Type 0
Reaches calls i j = (ns : List ℕ) × Path calls ns i j

-- each of these methods is reached from one
abbrev pub AreReached : List (List ℕ) → ℕ → List ℕ → Type 0
AreReached calls start ms = (n m : ℕ) → slice_get ms n ≡ Some m → Reaches calls start m

-- method i is reached again from the method that its call k names
pub record IsRecursive (calls : List (List ℕ)) (i k : ℕ) : Type 0 where
  pub called : ℕ
  pub is_call : IsCall calls i k called
  pub comes_back : Reaches calls called i

-- the methods that are called are some of these
abbrev pub AreWithin : List (List ℕ) → Type 0
AreWithin calls = (i k j : ℕ) → IsCall calls i k j → j < length calls

-- each method has a greater number than those that it calls
abbrev pub Falls : List (List ℕ) → List ℕ → Type 0
Falls calls numbers = (i k j : ℕ) → IsCall calls i k j → slice_index numbers j < slice_index numbers i

-- ---- numbers that are given one after another, from 1 on; 0 stands for none

-- a method with a number calls only methods with a smaller one
abbrev pub IsNumbered : List (List ℕ) → List ℕ → Type 0
IsNumbered calls numbers =
    (i k j : ℕ) → IsCall calls i k j → 0 < slice_index numbers i
    → (0 < slice_index numbers j) × (slice_index numbers j < slice_index numbers i)

abbrev pub AtMost : List ℕ → ℕ → Type 0
AtMost numbers top = (i : ℕ) → slice_index numbers i ≤ top

-- call k keeps method i waiting: the method that it names has no number
abbrev pub Waits : List (List ℕ) → List ℕ → ℕ → ℕ → Type 0
Waits calls numbers i k = (j : ℕ) × IsCall calls i k j × (slice_index numbers j ≡ 0)

-- each of the first methods that has no number waits at the call that is noted for it
abbrev pub AreStuck : List (List ℕ) → List ℕ → List ℕ → ℕ → Type 0
AreStuck calls numbers awaited count = (i : ℕ) → i < count → slice_index numbers i ≡ 0 → Waits calls numbers i (slice_index awaited i)

-- how many have no number
abbrev pub zeros : List ℕ → ℕ
zeros [] = 0
zeros (x ∷ xs) = (if x == 0 then 1 else 0) + zeros xs
