-- What a program can print, and what that says of a list, as JSON values. This project's own.
use Rattle.std.specs.Prelude.{ℕ, ℤ, ◌-◌, Bool, List, [], ◌∷◌, length, take, codes}
use Rattle.serde_json.specs.Data.{Data, boolean, string}
use Rattle.xk_json.specs.Objects.{array_of, bytes_value, integers_value, object_of}

-- an array for each list of numbers, and whether these are all: `{"complete":true,"outcomes":[[10,21],[21,10]]}`
abbrev pub outcomes_value : List (List ℤ) → Bool → Data
outcomes_value lists complete =
    object_of (((codes "complete", boolean complete) ∷ (codes "outcomes", array_of integers_value lists) ∷ []) ∷ [])

-- a line without its line feed
abbrev pub without_feed : List ℕ → List ℕ
without_feed line = take (length line - 1) line

-- the line that is told without `--json`, and the verdict in a word: `{"text":"outcome 2 prints 21 10","verdict":"refuted"}`
abbrev pub held_value : List ℕ → List ℕ → Data
held_value line verdict =
    object_of (((codes "text", bytes_value (without_feed line)) ∷ (codes "verdict", string verdict) ∷ []) ∷ [])
