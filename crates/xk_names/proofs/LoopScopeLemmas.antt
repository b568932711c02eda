-- What is declared in a loop's body.
use Rattle.std.proofs.Common.{◌≡◌, List, [], ◌∷◌, ◌++◌, length, refl, sym, ap, ◌∙◌}
use Rattle.xk_tree.specs.Tree.{Bound, Statement}
use Rattle.xk_names.specs.declared.binding.Known.{Known}
use Rattle.xk_names.specs.Scope.{Table, Declaration, Scope}
use Rattle.xk_names.specs.Uses.{bound_declares}
use Rattle.xk_names.specs.Places.{behind}
use Rattle.xk_names.specs.FaultList.{put, put_all, with_declared}

put_all_append : (t : Table Known) (ds es : List Declaration) → put_all t (ds ++ es) ≡ put_all (put_all t ds) es
put_all_append t [] es = refl
put_all_append t (d ∷ ds) es = put_all_append (put t d.name.text d.known) ds es

-- within
loop_scope : (s a b : Scope) (i : Declaration) (k : Bound) → a ≡ with_declared s (i ∷ []) → b ≡ with_declared a (bound_declares (length a.bodies) k)
    → b ≡ with_declared s (i ∷ bound_declares (length s.bodies) k)
loop_scope s a b i k e f = f ∙ ap (λ (z : Scope). with_declared z (bound_declares (length z.bodies) k)) e

-- and behind the body
pub loop_behind : (s a b c : Scope) (i : Declaration) (k : Bound) (t : Statement) → a ≡ with_declared s (i ∷ []) → b ≡ with_declared a (bound_declares (length a.bodies) k)
    → c ≡ with_declared b (behind (length b.bodies) t) → c ≡ with_declared s (i ∷ (bound_declares (length s.bodies) k ++ behind (length s.bodies) t))
loop_behind s a b c i k t e f g =
    g ∙ ap (λ (z : Scope). with_declared z (behind (length z.bodies) t)) (loop_scope s a b i k e f)
    ∙ ap (λ (n : Table Known). let there : Scope = record { names = n; bodies = s.bodies } in there)
    (sym (put_all_append (put s.names i.name.text i.known) (bound_declares (length s.bodies) k) (behind (length s.bodies) t)))
