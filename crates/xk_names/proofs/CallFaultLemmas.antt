-- The faults of a call, as they are found one after another.
use Rattle.std.proofs.Common.{◌≡◌, ℕ, suc, nat_eq, Bool, true, false, List, [], ◌∷◌, ◌++◌, map, length, Some, refl, sym, ap, ◌∙◌}
use Rattle.std.specs.Prelude.{not}
use Rattle.std.specs.List.{flat_map}
use Rattle.std.proofs.lemmas.List.{length-map}
use Rattle.xk_tree.specs.declared.fault.FrontRule.TheVariants as rule
use Rattle.xk_tree.specs.declared.fault.FrontFault.{FrontFault}
use Rattle.xk_tree.specs.declared.tree.Param.{Param}
use Rattle.xk_tree.specs.declared.tree.Expr.{Expr}
use Rattle.xk_tree.specs.Tree.{Word, param_value, expressions}
use Rattle.xk_names.specs.declared.least_fault.Search.{Search}
use Rattle.xk_names.specs.Scope.{Scope}
use Rattle.xk_names.specs.Uses.{Given, given, argument_uses, argument_misfits, argument_clocks}
use Rattle.xk_names.specs.Faults.{fault}
use Rattle.xk_names.specs.StatementParts.{call_all}
use Rattle.xk_names.specs.FaultList.{least, use_faults, unless, when, repeats}
use Rattle.xk_names.proofs.FaultAppendLemmas.{least_append}

length_expressions : (es : List Expr) → length (expressions es) ≡ length es
length_expressions [] = refl
length_expressions (e ∷ es) = ap (λ n. suc n) (length_expressions es)

-- as many arguments as parameters
pub count_told : (m n at : ℕ) → when (not (nat_eq m n)) rule.Arity at ≡ unless (nat_eq m n) rule.Arity at
count_told m n at = go (nat_eq m n)
  where
    go : (b : Bool) → when (not b) rule.Arity at ≡ unless b rule.Arity at
    go true = refl
    go false = refl

pub call_found : (sc : Scope) (g : Word) (ps : List Param) (es : List Expr) (list : Given) (w w1 w2 w3 w4 : Search)
    → list ≡ given (map param_value ps) (expressions es)
    → w1 ≡ least w (flat_map (use_faults sc) (flat_map (λ a. argument_uses a.0 a.1) list))
    → w2 ≡ least w1 (map (fault rule.WrongKind) (flat_map (λ a. argument_misfits a.0 a.1) list))
    → w3 ≡ least w2 (unless (nat_eq (length ps) (length es)) rule.Arity g.at)
    → w4 ≡ least w3 (repeats [] (flat_map (λ a. argument_clocks a.0 a.1) list))
    → w4 ≡ least w (call_all sc g (Some (map param_value ps)) (expressions es))
call_found sc g ps es list w w1 w2 w3 w4 is a b c d =
    let uses : Given → List FrontFault = λ k. flat_map (use_faults sc) (flat_map (λ a. argument_uses a.0 a.1) k) in
    let wrong : Given → List FrontFault = λ k. map (fault rule.WrongKind) (flat_map (λ a. argument_misfits a.0 a.1) k) in
    let twice : Given → List FrontFault = λ k. repeats [] (flat_map (λ a. argument_clocks a.0 a.1) k) in
    let count : ℕ → ℕ → List FrontFault = λ m n. unless (nat_eq m n) rule.Arity g.at in
    let m = length ps in
    let n = length es in
    d ∙ ap (λ k. least k (twice list)) (c ∙ ap (λ k. least k (count m n)) (b ∙ ap (λ k. least k (wrong list)) a))
    ∙ sym (least_append (least (least w (uses list)) (wrong list)) (count m n) (twice list))
    ∙ sym (least_append (least w (uses list)) (wrong list) (count m n ++ twice list))
    ∙ sym (least_append w (uses list) (wrong list ++ (count m n ++ twice list)))
    ∙ ap (λ k. least w (uses k ++ (wrong k ++ (count m n ++ twice k)))) is
    ∙ ap (λ k. least w (uses (given (map param_value ps) (expressions es)) ++ (wrong (given (map param_value ps) (expressions es)) ++ (count k n ++ twice
    (given (map param_value ps) (expressions es)))))) (sym (length-map ps param_value))
    ∙ ap (λ k. least w (uses (given (map param_value ps) (expressions es)) ++ (wrong (given (map param_value ps) (expressions es)) ++ (count
    (length (map param_value ps)) k ++ twice (given (map param_value ps) (expressions es)))))) (sym (length_expressions es))
