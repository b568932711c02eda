-- Where the words `async` of a tree stand, in the order of the text. This project's own.
use Rattle.std.specs.Prelude.{ℕ, List, [], ◌∷◌, ◌++◌}
use Rattle.std.specs.List.Sorted.{IsStrictlyIncreasing}
use Rattle.xk_tree.specs.Tree.{Statement, Statements, Async, MethodValue, TreeValue}
use Rattle.xk_tree.specs.Gather.{gather, gather_all, everywhere}

abbrev pub own_asyncs : Statement → List ℕ
own_asyncs (Async at cs s) = at ∷ []
own_asyncs _ = []

-- in a statement
abbrev pub asyncs : Statement → List ℕ
asyncs = gather everywhere own_asyncs

-- in statements, one after another
abbrev pub asyncs_in : Statements → List ℕ
asyncs_in = gather_all everywhere own_asyncs

-- in methods, one after another
abbrev pub asyncs_of_methods : List MethodValue → List ℕ
asyncs_of_methods [] = []
asyncs_of_methods (m ∷ ms) = asyncs_in m.body ++ asyncs_of_methods ms

-- their offsets rise, so that no two stand at one
abbrev pub HasBodiesApart : TreeValue → Type 0
HasBodiesApart t = IsStrictlyIncreasing (asyncs_of_methods t.methods)
