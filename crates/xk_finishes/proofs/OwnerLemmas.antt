-- The owner of the finish that governs an activity has a smaller number, whatever happens.
use Rattle.std.proofs.Common.{◌≡◌, ℕ, suc, ◌<◌, ◌==◌, Bool, true, false, List, [], ◌∷◌, ◌++◌, length, set, Some, sym, ap, ◌∙◌, subst, arith}
use Rattle.std.specs.Prelude.{if◌then◌else◌}
use Rattle.std.proofs.lemmas.Option.{same_Some, get_or_from_slice_get}
use Rattle.xk_types.specs.World.{Finish}
use Rattle.xk_types.proofs.ListLemmas.{each_put, each_push}
use Rattle.xk_finishes.specs.Tree.{NodeValue, node_at, fresh_node, innermost_of, governing_of, AreOwnersEarlier}
use Rattle.xk_finishes.proofs.CounterLemmas.{node_there}

-- the owner of the finish, if it has one, has a smaller number than this
abbrev IsOwnedBefore : ℕ → Finish → Type 0
IsOwnedBefore b f = (a : ℕ) → f.owner ≡ Some a → a < b

-- an activity changes, and what governs it stays
pub owners_set : (nodes : List NodeValue) (a : ℕ) (new : NodeValue) → AreOwnersEarlier nodes → new.governed ≡ (node_at nodes a).governed
    → AreOwnersEarlier (set nodes a new)
owners_set nodes a new earlier same =
    each_put (λ b x. IsOwnedBefore b x.governed) nodes a new
    (λ x h. subst (IsOwnedBefore a) (sym (same ∙ ap (λ (z : NodeValue). z.governed) (get_or_from_slice_get nodes a x _ h))) (earlier a x h))
    (λ k x differs. earlier k x)

-- what governs the activities that s starts is owned by s, or by somebody earlier
governing_earlier : (s : ℕ) (starter : NodeValue) (none : Bool) → IsOwnedBefore s starter.governed
    → IsOwnedBefore (suc s) (if none then starter.governed else innermost_of s starter)
governing_earlier s starter true earlier a h = let lt = earlier a h in omega arith
governing_earlier s starter false earlier a h = let same : s ≡ a = same_Some s a h in omega arith

-- activity s starts one
pub owners_pushed : (nodes : List NodeValue) (s room : ℕ) → AreOwnersEarlier nodes → s < length nodes
    → AreOwnersEarlier (nodes ++ fresh_node (governing_of s (node_at nodes s)) room ∷ [])
owners_pushed nodes s room earlier inside =
    each_push (λ b x. IsOwnedBefore b x.governed) nodes (fresh_node (governing_of s (node_at nodes s)) room) earlier
    (λ a h.
    let before = governing_earlier s (node_at nodes s) ((node_at nodes s).opened == 0) (earlier s (node_at nodes s) (node_there nodes s inside)) a h in
    omega arith)
