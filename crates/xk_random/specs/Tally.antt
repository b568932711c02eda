-- How often what is printed, in runs by chance: one run for each of some seeds, one after the other. This project's own.
use Rattle.std.specs.Prelude.{ℕ, ℤ, ◌+◌, ◌%◌, ◌^◌, Bool, not, suc, List, [], ◌∷◌, ◌++◌, length, count_by, filter, flat_map, codes, decimal}
use Rattle.std.specs.Ordering.{int_eq}
use Rattle.std.specs.Cmp.Lexicographic.{pointwise}
use Rattle.xk_io.specs.Row.{numbers_text}

-- ---- runs that printed the same

-- runs that printed these numbers: the seed of the first of them, and how many they are
pub record Share : Type 0 where
  pub numbers : List ℤ
  pub first : ℕ
  pub runs : ℕ

-- the seed of run i, counted from 0, where run 0 has this one; 0 follows the greatest
abbrev pub seed_of : ℕ → ℕ → ℕ
seed_of seed i = (seed + i) % 2 ^ 64

-- two lists are of the same numbers in the same order
abbrev pub are_same : List ℤ → List ℤ → Bool
are_same = pointwise int_eq

-- how many of the lists are this one
abbrev pub count_of : List ℤ → List (List ℤ) → ℕ
count_of numbers lists = count_by (λ other. are_same other numbers) lists

-- the runs that printed other numbers
abbrev pub others : List ℤ → List Share → List Share
others numbers shares = filter (λ s. not (are_same s.numbers numbers)) shares

-- The shares of the runs from run i on, which printed these lists: one for each list, in the order of its first run.
abbrev pub shares_from : ℕ → ℕ → List (List ℤ) → List Share
shares_from seed i [] = []
shares_from seed i (x ∷ lists) =
    record { numbers = x; first = seed_of seed i; runs = count_of x (x ∷ lists) } ∷ others x (shares_from seed (suc i) lists)

-- ---- how they are told

-- `runs 22 first seed 4 prints 90 10`
abbrev pub share_line : Share → List ℕ
share_line s =
    codes "runs " ++ (decimal s.runs ++ (codes " first seed " ++ (decimal s.first ++ (codes " prints" ++ (numbers_text s.numbers ++ codes "\n")))))

-- `runs 100 outcomes 4`
abbrev pub last_line : ℕ → ℕ → List ℕ
last_line runs outcomes = codes "runs " ++ (decimal runs ++ (codes " outcomes " ++ (decimal outcomes ++ codes "\n")))

-- a line for each share, and a last one
abbrev pub tally_text : ℕ → List Share → List ℕ
tally_text runs shares = flat_map share_line shares ++ last_line runs (length shares)
