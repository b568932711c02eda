-- Loops over arguments.
use Rattle.std.proofs.Common.{◌≡◌, ℕ, zero, suc, ◌+◌, ◌<◌, ◌≤◌, List, [], ◌∷◌, ◌++◌, map, drop, length, min, get_or, refl, sym, ap, ◌∙◌, arith, drop-cons, add-one}
use Rattle.std.specs.List.{flat_map}
use Rattle.xk_tree.specs.declared.tree.Param.{Param}
use Rattle.xk_tree.specs.declared.tree.Expr.{Expr}
use Rattle.xk_tree.specs.Tree.{ParamValue, param_value, expression, expressions}
use Rattle.xk_names.specs.declared.arguments.Argument.{Argument}
use Rattle.xk_names.specs.declared.least_fault.Search.{Search}
use Rattle.xk_names.specs.Scope.{Scope}
use Rattle.xk_names.specs.Uses.{Use, given, argument_uses}
use Rattle.xk_names.specs.StatementParts.{arguments}
use Rattle.xk_names.specs.FaultList.{least, use_faults}
use Rattle.xk_names.proofs.FaultAppendLemmas.{least_uses}

-- behind the lesser end nothing is given
pub given_end : (ps : List Param) (es : List Expr) (n : ℕ) → min (length ps) (length es) ≤ n → given (map param_value (drop n ps)) (expressions (drop n es)) ≡ []
given_end [] es zero h = refl
given_end [] es (suc n) h = refl
given_end (p ∷ ps) [] zero h = refl
given_end (p ∷ ps) [] (suc n) h = none (map param_value (drop n ps))
  where
    none : (qs : List ParamValue) → given qs [] ≡ []
    none [] = refl
    none (q ∷ qs) = refl
given_end (p ∷ ps) (e ∷ es) zero h = absurd (omega arith)
given_end (p ∷ ps) (e ∷ es) (suc n) h = given_end ps es n (omega arith)

abbrev used : List Argument → List Use
used list = flat_map (λ a. argument_uses a.0 a.1) (arguments list)

pub uses_turn : (sc : Scope) (list : List Argument) (i : ℕ) (a : Argument) (w v : Search) → i < length list → a ≡ get_or list i a
    → v ≡ least w (flat_map (use_faults sc) (argument_uses a.takes (expression a.value.now)))
    → least v (flat_map (use_faults sc) (used (drop (i + 1) list))) ≡ least w (flat_map (use_faults sc) (used (drop i list)))
uses_turn sc list i a w v h is done =
    ap (λ r. least r (flat_map (use_faults sc) (used (drop (i + 1) list)))) done
    ∙ sym (least_uses w sc (argument_uses a.takes (expression a.value.now)) (used (drop (i + 1) list)))
    ∙ ap (λ (b : Argument). least w (flat_map (use_faults sc) (argument_uses b.takes (expression b.value.now) ++ used (drop (i + 1) list)))) is
    ∙ ap (λ n. least w (flat_map (use_faults sc) (argument_uses (get_or list i a).takes (expression (get_or list i a).value.now) ++ used (drop n list)))) (add-one i)
    ∙ ap (λ r. least w (flat_map (use_faults sc) (used r))) (sym (drop-cons list i a h))
