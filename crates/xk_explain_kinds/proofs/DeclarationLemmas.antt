-- Declarations that are added to a list, and counts.
use Rattle.std.proofs.Common.{◌≡◌, List, [], ◌∷◌, ◌++◌, map, refl, ap, length}
use Rattle.std.proofs.lemmas.List.{length-map}
use Rattle.xk_tree.specs.Tree.{param_value}
use Rattle.xk_tree.specs.declared.tree.Param.{Param}
use Rattle.xk_explain_kinds.specs.declared.declaration.Declaration.{Declaration}
use Rattle.xk_explain_kinds.specs.Declarations.{declared, declared_here}

pub declared_push : (ds : List Declaration) (d : Declaration) → declared_here (ds ++ d ∷ []) ≡ declared_here ds ++ declared d ∷ []
declared_push [] d = refl
declared_push (e ∷ ds) d = ap (λ r. declared e ∷ r) (declared_push ds d)

pub count_params : (ps : List Param) → length (map param_value ps) ≡ length ps
count_params ps = length-map ps param_value
