-- What is among some, and lists in which nothing is twice. This project's own.
use Rattle.std.specs.Prelude.{◌≡◌, ◌⊎◌, List, [], ◌∷◌}

-- it is among them
abbrev pub Has : {X : Type 0} → List X → X → Type 0
Has [] x = ⊥
Has (y ∷ ys) x = (x ≡ y) ⊎ Has ys x

-- none of them is there twice
abbrev pub AreDifferent : {X : Type 0} → List X → Type 0
AreDifferent [] = Unit {0}
AreDifferent (x ∷ xs) = (Has xs x → ⊥) × AreDifferent xs

-- whatever is among the one list is among the other
abbrev pub KeepsAll : {X : Type 0} → List X → List X → Type 0
KeepsAll {X} old new = (x : X) → Has old x → Has new x
