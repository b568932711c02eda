-- The words of a call, as bytes. This project's own.
use Rattle.std.specs.Prelude.{ℕ, ◌-◌, ◌==◌, List, ◌∷◌, codes, length, take}
use Rattle.std.specs.List.{slice_split}

-- a list without its last element
abbrev pub but_last : {A : Type 0} → List A → List A
but_last xs = take (length xs - 1) xs

-- the words of a command line: the program's name, and then what stands before each zero of the text
abbrev pub words_of : List ℕ → List (List ℕ)
words_of text = codes "x10clock" ∷ but_last (slice_split (λ b. b == 0) text)
