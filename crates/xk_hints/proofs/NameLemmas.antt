-- Names that are added to a list.
use Rattle.std.proofs.Common.{◌≡◌, List, [], ◌∷◌, ◌++◌, refl, ap}
use Rattle.xk_tree.specs.declared.tree.Name.{Name}
use Rattle.xk_tree.specs.Tree.{word, words}

pub words_push : (ns : List Name) (n : Name) → words (ns ++ n ∷ []) ≡ words ns ++ words (n ∷ [])
words_push [] n = refl
words_push (m ∷ ns) n = ap (λ q. word m ∷ q) (words_push ns n)
