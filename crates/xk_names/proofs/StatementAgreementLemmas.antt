-- A statement's own faults where the same is found by names.
use Rattle.std.proofs.Common.{◌≡◌, ℕ, nat_eq, cond, ◌||◌, List, [], ◌∷◌, ◌++◌, map, length, Option, Some, None, refl, ap, ◌∙◌}
use Rattle.std.specs.Prelude.{is_some}
use Rattle.std.specs.List.{flat_map}
use Rattle.xk_tree.specs.declared.fault.FrontRule.TheVariants as rule
use Rattle.xk_tree.specs.declared.fault.FrontFault.{FrontFault}
use Rattle.xk_tree.specs.Tree.{Word, Expression, Statement, Call, Assign}
use Rattle.xk_names.specs.declared.binding.Known.{Known}
use Rattle.xk_names.specs.declared.binding.NameKind.{NameKind}
use Rattle.xk_names.specs.declared.binding.NameKind.TheVariants as kind
use Rattle.xk_names.specs.declared.binding.Want.TheVariants as want
use Rattle.xk_names.specs.Scope.{Table, find, Scope, sees_as, is_given, fits}
use Rattle.xk_names.specs.Uses.{Use, use_as, Signatures, numbers, values, is_var, uses, declares, misfits, argument_uses, argument_misfits, argument_clocks, given_to, clocks_given, calls}
use Rattle.xk_names.specs.Faults.{fault}
use Rattle.xk_names.specs.FaultList.{unless, when, known_use_faults, use_faults, again, known_call_faults, call_faults, repeats, own}
use Rattle.xk_names.proofs.TableAgreementLemmas.{FindsSame, Agrees}

sees_same : (a b : Scope) (x : List ℕ) (k : Known) (d : NameKind) → Agrees a b → sees_as d a x k ≡ sees_as d b x k
sees_same a b x k kind.Shared same = refl
sees_same a b x k kind.Val same = refl
sees_same a b x k kind.Var same = ap (nat_eq k.depth) same.depth
sees_same a b x k kind.Clock same = ap (λ n. nat_eq k.depth n || is_given a x) same.depth ∙ ap (λ g. nat_eq k.depth (length b.bodies) || g) (same.given x)

use_same : (a b : Scope) (u : Use) → Agrees a b → use_faults a u ≡ use_faults b u
use_same a b u same = ap (known_use_faults a u) (same.names u.name.text) ∙ go (find b.names u.name.text)
  where
    go : (o : Option Known) → known_use_faults a u o ≡ known_use_faults b u o
    go None = refl
    go (Some k) = ap (λ s. unless (fits u.want k.kind) rule.WrongKind u.name.at ++ unless s rule.NotCaptured u.name.at) (sees_same a b u.name.text k k.kind same)

all_same : {A B : Type 0} (f g : A → List B) (xs : List A) → ((x : A) → f x ≡ g x) → flat_map f xs ≡ flat_map g xs
all_same f g [] same = refl
all_same f g (x ∷ xs) same = ap (λ k. k ++ flat_map f xs) (same x) ∙ ap (λ k. g x ++ k) (all_same f g xs same)

uses_same : (ms ns : Signatures) (a b : Table Known) (t : Statement) → FindsSame ms ns → FindsSame a b → uses ms a t ≡ uses ns b t
uses_same ms ns a b (Call g at es) one two = ap (λ o. flat_map (λ p. argument_uses p.0 p.1) (given_to o es)) (one g.text)
uses_same ms ns a b (Assign x e) one two = ap (λ o. use_as want.Assigned x ∷ cond (is_var o) (values e) (numbers e)) (two x.text)
uses_same ms ns a b _ one two = refl

misfits_same : (ms ns : Signatures) (t : Statement) → FindsSame ms ns → misfits ms t ≡ misfits ns t
misfits_same ms ns (Call g at es) one = ap (λ o. flat_map (λ p. argument_misfits p.0 p.1) (given_to o es)) (one g.text)
misfits_same ms ns _ one = refl

clocks_same : (ms ns : Signatures) (t : Statement) → FindsSame ms ns → clocks_given ms t ≡ clocks_given ns t
clocks_same ms ns (Call g at es) one = ap (λ o. flat_map (λ p. argument_clocks p.0 p.1) (given_to o es)) (one g.text)
clocks_same ms ns _ one = refl

calls_same : (ms ns : Signatures) (c : Option (Word × List Expression)) → FindsSame ms ns → call_faults ms c ≡ call_faults ns c
calls_same ms ns None one = refl
calls_same ms ns (Some c) one = ap (known_call_faults c.0 c.1) (one c.0.text)

pub own_same : (ms ns : Signatures) (a b : Scope) (t : Statement) → FindsSame ms ns → Agrees a b → own ms a t ≡ own ns b t
unfolding own
own_same ms ns a b t one same =
    let us : List FrontFault = flat_map (use_faults b) (uses ns b.names t) in
    let ds : List FrontFault = flat_map (again b.names) (declares (length b.bodies) t) in
    let ws : List FrontFault = map (fault rule.WrongKind) (misfits ns t) in
    let cs : List FrontFault = call_faults ns (calls t) in
    let rest : List FrontFault = flat_map (again a.names) (declares (length a.bodies) t) ++ (map (fault rule.WrongKind)
    (misfits ms t) ++ (call_faults ms (calls t) ++ repeats [] (clocks_given ms t))) in
    ap (λ k. k ++ rest) (all_same (use_faults a) (use_faults b) (uses ms a.names t) (λ u. use_same a b u same)
    ∙ ap (flat_map (use_faults b)) (uses_same ms ns a.names b.names t one same.names))
    ∙ ap (λ k. us ++ (k ++ (map (fault rule.WrongKind) (misfits ms t) ++ (call_faults ms (calls t) ++ repeats [] (clocks_given ms t)))))
    (all_same (again a.names) (again b.names) (declares (length a.bodies) t) (λ d. ap (λ o. when (is_some o) rule.DuplicateName d.name.at) (same.names d.name.text))
    ∙ ap (λ n. flat_map (again b.names) (declares n t)) same.depth)
    ∙ ap (λ k. us ++ (ds ++ (map (fault rule.WrongKind) k ++ (call_faults ms (calls t) ++ repeats [] (clocks_given ms t))))) (misfits_same ms ns t one)
    ∙ ap (λ k. us ++ (ds ++ (ws ++ (k ++ repeats [] (clocks_given ms t))))) (calls_same ms ns (calls t) one)
    ∙ ap (λ k. us ++ (ds ++ (ws ++ (cs ++ repeats [] k)))) (clocks_same ms ns t one)
