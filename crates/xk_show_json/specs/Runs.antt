-- What a run printed, and how long it was, as a JSON value. This project's own.
use Rattle.std.specs.Prelude.{ℕ, ℤ, true, List, [], ◌∷◌, Option, Some, None, codes}
use Rattle.serde_json.specs.Data.{Data, boolean}
use Rattle.xk_json.specs.Objects.{Group, integers_value, number_value, object_of}

-- how many rounds a run took, where they were counted
abbrev pub rounds_member : Option ℕ → Group
rounds_member None = []
rounds_member (Some rounds) = (codes "rounds", number_value rounds) ∷ []

-- what was printed, and in how many steps: the run came to its end
abbrev pub run_members : List ℤ → ℕ → Group
run_members printed steps =
    (codes "ended", boolean true) ∷ (codes "printed", integers_value printed) ∷ (codes "steps", number_value steps) ∷ []

-- `{"ended":true,"printed":[1,2],"steps":12}`
abbrev pub run_value : List ℤ → ℕ → Option ℕ → Data
run_value printed steps rounds = object_of (run_members printed steps ∷ rounds_member rounds ∷ [])
