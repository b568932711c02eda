-- The calls of statements in a list, in the order of the text. This project's own.
use Rattle.std.specs.Prelude.{ℕ, List, [], ◌∷◌, ◌++◌, map, length, Option, Some, None, unwrap_or, codes, if◌then◌else◌}
use Rattle.std.specs.Option.{option_or}
use Rattle.xk_tree.specs.Tree.{Word, Statement, Statements, Done, More, Block, If, IfElse, For, Async, Finish, Call, MethodValue}
use Rattle.xk_names.specs.Scope.{is_text}
use Rattle.xk_callgraph.specs.Recursion.{number_among}

-- the names that the calls have
abbrev mutual
  pub callees : Statement → List Word
  callees (Block close ss) = callees_all ss
  callees (If at l c r s) = callees s
  callees (IfElse at l c r s u) = callees s ++ callees u
  callees (For at i lo hi s) = callees s
  callees (Async at cs s) = callees s
  callees (Finish at s) = callees s
  callees (Call g at es) = g ∷ []
  callees _ = []

  pub callees_all : Statements → List Word
  callees_all Done = []
  callees_all (More s ss) = callees s ++ callees_all ss

-- for each method
abbrev pub all_callees : List MethodValue → List (List Word)
all_callees ms = map (λ m. callees_all m.body) ms

-- where the first call of `main` is
abbrev pub main_among : List Word → Option ℕ
main_among [] = None
main_among (g ∷ gs) = if is_text g.text (codes "main") then Some g.at else main_among gs

abbrev pub main_in : List (List Word) → Option ℕ
main_in [] = None
main_in (gs ∷ rest) = option_or (main_among gs) (main_in rest)

-- the numbers of the methods that are called, where one more number stands for all methods that don't exist
abbrev pub number_or_last : List MethodValue → Word → ℕ
number_or_last ms g = unwrap_or (number_among 0 ms g.text) (length ms)

abbrev pub numbers_called : List MethodValue → List Word → List ℕ
numbers_called ms gs = map (number_or_last ms) gs

-- for each method those that it calls, and for all that don't exist, which call nobody
abbrev pub graph : List MethodValue → List (List ℕ)
graph ms = map (numbers_called ms) (all_callees ms) ++ [] ∷ []
