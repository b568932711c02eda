-- The owner of the finish that governs an activity, and who is under a finish, by the tree of finishes.
use Rattle.std.proofs.Common.{◌≡◌, ℕ, ◌<◌, Bool, List, length, Some, slice_get, ap, sym, ◌∙◌, arith}
use Rattle.std.specs.Prelude.{option_and_then}
use Rattle.std.proofs.lemmas.Option.{get_or_from_slice_get}
use Rattle.xk_types.proofs.ListLemmas.{get_inside}
use Rattle.xk_types.specs.World.{Activity, World}
use Rattle.xk_types.specs.Step.{innermost, is_under}
use Rattle.xk_activity.specs.Activities.{act_at}
use Rattle.xk_finishes.specs.Tree.{NodeValue, node_at}
use Rattle.xk_core.specs.Core.{governor}
use Rattle.xk_core.specs.FinishView.{with_finishes}
use Rattle.xk_core.proofs.FinishViewLemmas.{get_told}

pub governor_told : (ns : List NodeValue) (w : World) → length ns ≡ length w.activities → (a : ℕ) → a < length w.activities
    → (node_at ns a).governed.owner ≡ governor (with_finishes ns w) a
governor_told ns w width a lt =
    let n = get_inside ns a (omega (arith, lt, width)) in
    let x = get_inside w.activities a lt in
    ap (λ (k : NodeValue). k.governed.owner) (get_or_from_slice_get ns a n.0 _ n.1)
    ∙ ap (option_and_then (λ (act : Activity). act.governed.owner)) (sym (get_told ns w.activities a n.0 x.0 n.1 x.1))

-- who is under the finish that an activity opened last, by what is so of that activity
pub under_at : (acts : List Activity) (owner act : ℕ) (r : Bool) → owner < length acts
    → ((x : Activity) → slice_get acts owner ≡ Some x → r ≡ is_under acts (innermost owner x) act)
    → r ≡ is_under acts (innermost owner (act_at acts owner)) act
under_at acts owner act r lt h =
    let x = get_inside acts owner lt in
    h x.0 x.1 ∙ ap (λ (y : Activity). is_under acts (innermost owner y) act) (sym (get_or_from_slice_get acts owner x.0 _ x.1))
