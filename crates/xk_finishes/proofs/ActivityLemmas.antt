-- The tree tells of the activities of a world, and goes with their steps.
use Rattle.std.proofs.Common.{◌≡◌, ℕ, zero, suc, ◌-◌, Bool, false, ◌||◌, List, [], ◌∷◌, ◌++◌, length, set, Option, Some, None, refl, ap, ◌∙◌, subst, arith}
use Rattle.std.specs.Prelude.{slice_get}
use Rattle.std.specs.Option.{option_map_or}
use Rattle.std.proofs.lemmas.Option.{none-some, same_Some}
use Rattle.xk_types.specs.declared.world.Value.{Value}
use Rattle.xk_types.specs.Code.{ModuleValue}
use Rattle.xk_types.specs.World.{Finish, Activity, is_ended}
use Rattle.xk_types.specs.Step.{same_finish}
use Rattle.xk_types.specs.Step as step
use Rattle.xk_finishes.specs.Tree.{NodeValue, fresh_node, node_at, governing_of, node_entered, node_left, node_ended, changed_at, IsNodeOf, AreNodesOf}
use Rattle.xk_finishes.specs.Tree as tree

-- neither is there, or both are, and the node tells of the activity
abbrev AreAlike : Option Activity → Option NodeValue → Type 0
AreAlike None None = Unit {0}
AreAlike None (Some node) = ⊥
AreAlike (Some act) None = ⊥
AreAlike (Some act) (Some node) = IsNodeOf act node

-- so it is at each number
alike_at : (acts : List Activity) (nodes : List NodeValue) → AreNodesOf acts nodes → (b : ℕ) → AreAlike (slice_get acts b) (slice_get nodes b)
alike_at [] [] are b = tt
alike_at [] (node ∷ nodes) are b = absurd are
alike_at (act ∷ acts) [] are b = absurd are
alike_at (act ∷ acts) (node ∷ nodes) are zero = are.0
alike_at (act ∷ acts) (node ∷ nodes) are (suc b) = alike_at acts nodes are.1 b

length-nodes : (acts : List Activity) (nodes : List NodeValue) → AreNodesOf acts nodes → length nodes ≡ length acts
length-nodes [] [] are = refl
length-nodes [] (node ∷ nodes) are = absurd are
length-nodes (act ∷ acts) [] are = absurd are
length-nodes (act ∷ acts) (node ∷ nodes) are = ap suc (length-nodes acts nodes are.1)

-- ---- who is under a finish

-- the same test of an owner, told twice
option_map_or_same : (u v : ℕ → Bool) (o : Option ℕ) → ((a : ℕ) → u a ≡ v a) → option_map_or u o false ≡ option_map_or v o false
option_map_or_same u v None same = refl
option_map_or_same u v (Some a) same = same a

under_same : (acts : List Activity) (nodes : List NodeValue) (f : Finish) → AreNodesOf acts nodes → (n b : ℕ) → tree.under_within nodes f n b ≡ step.under_within acts f n b
unfolding tree.under_within step.under_within
under_same acts nodes f are zero b = refl
under_same acts nodes f are (suc n) b = at (slice_get acts b) (slice_get nodes b) (alike_at acts nodes are b) (λ a. under_same acts nodes f are n a)
  where
    at : (o : Option Activity) (p : Option NodeValue) → AreAlike o p → ((a : ℕ) → tree.under_within nodes f n a ≡ step.under_within acts f n a)
        → option_map_or (λ (node : NodeValue). same_finish node.governed f || option_map_or (tree.under_within nodes f n) node.governed.owner false) p false
        ≡ option_map_or (λ (act : Activity). same_finish act.governed f || option_map_or (step.under_within acts f n) act.governed.owner false) o false
    at None None alike same = refl
    at None (Some node) alike same = absurd alike
    at (Some act) None alike same = absurd alike
    at (Some act) (Some node) alike same =
        let governed : node.governed ≡ act.governed = ap (λ (n : NodeValue). n.governed) alike in
        rw (governed, option_map_or_same (tree.under_within nodes f n) (step.under_within acts f n) act.governed.owner same) refl

-- whoever is under it, by their numbers
is_under_same : (acts : List Activity) (nodes : List NodeValue) (f : Finish) → AreNodesOf acts nodes → (b : ℕ) → tree.is_under nodes f b ≡ step.is_under acts f b
is_under_same acts nodes f are b = ap (λ n. tree.under_within nodes f n b) (length-nodes acts nodes are) ∙ under_same acts nodes f are (length acts) b

awaits_from_same : (acts : List Activity) (nodes : List NodeValue) (f : Finish) → AreNodesOf acts nodes → (b : ℕ) (xs : List Activity) (ys : List NodeValue) → AreNodesOf xs ys
    → tree.awaits_from nodes f b ys ≡ step.awaits_from acts f b xs
awaits_from_same acts nodes f are b [] [] these = refl
awaits_from_same acts nodes f are b [] (y ∷ ys) these = absurd these
awaits_from_same acts nodes f are b (x ∷ xs) [] these = absurd these
awaits_from_same acts nodes f are b (x ∷ xs) (y ∷ ys) these =
    let ended : y.ended ≡ is_ended x.status = ap (λ (n : NodeValue). n.ended) these.0 in
    rw (is_under_same acts nodes f are b, ended, awaits_from_same acts nodes f are (suc b) xs ys these.1) refl

-- the tree awaits somebody where the step does
pub awaits_same : (acts : List Activity) (nodes : List NodeValue) → AreNodesOf acts nodes → (f : Finish) → tree.awaits nodes f ≡ step.awaits acts f
awaits_same acts nodes are f = awaits_from_same acts nodes f are 0 acts nodes are

-- ---- steps

-- the node of an activity that is there
node_is : (acts : List Activity) (nodes : List NodeValue) → AreNodesOf acts nodes → (a : ℕ) (act : Activity) → slice_get acts a ≡ Some act → IsNodeOf act (node_at nodes a)
node_is [] nodes are a act h = absurd (none-some act h)
node_is (x ∷ xs) [] are a act h = absurd are
node_is (x ∷ xs) (y ∷ ys) are zero act h = subst (λ z. IsNodeOf z y) (same_Some x act h) are.0
node_is (x ∷ xs) (y ∷ ys) are (suc a) act h = node_is xs ys are.1 a act h

-- one activity changes, and its node with it
nodes_set : (acts : List Activity) (nodes : List NodeValue) → AreNodesOf acts nodes → (a : ℕ) (act : Activity) (node : NodeValue) → IsNodeOf act node
    → AreNodesOf (set acts a act) (set nodes a node)
nodes_set [] [] are a act node is = tt
nodes_set [] (y ∷ ys) are a act node is = absurd are
nodes_set (x ∷ xs) [] are a act node is = absurd are
nodes_set (x ∷ xs) (y ∷ ys) are zero act node is = (is, are.1)
nodes_set (x ∷ xs) (y ∷ ys) are (suc a) act node is = (are.0, nodes_set xs ys are.1 a act node is)

-- one activity more, and its node
nodes_push : (acts : List Activity) (nodes : List NodeValue) → AreNodesOf acts nodes → (act : Activity) (node : NodeValue) → IsNodeOf act node
    → AreNodesOf (acts ++ act ∷ []) (nodes ++ node ∷ [])
nodes_push [] [] are act node is = (is, tt)
nodes_push [] (y ∷ ys) are act node is = absurd are
nodes_push (x ∷ xs) [] are act node is = absurd are
nodes_push (x ∷ xs) (y ∷ ys) are act node is = (are.0, nodes_push xs ys are.1 act node is)

-- an activity changes, and its node tells of it as it did
pub nodes_kept : (acts : List Activity) (nodes : List NodeValue) → AreNodesOf acts nodes → (a : ℕ) (old new : Activity) → slice_get acts a ≡ Some old
    → new.opened ≡ old.opened → new.governed ≡ old.governed → is_ended new.status ≡ is_ended old.status → AreNodesOf (set acts a new) nodes
nodes_kept [] nodes are a old new h o g e = absurd (none-some old h)
nodes_kept (x ∷ xs) [] are a old new h o g e = absurd are
nodes_kept (x ∷ xs) (y ∷ ys) are zero old new h o g e =
    let same : x ≡ old = same_Some x old h in
    let is : IsNodeOf x y = are.0 in
    (is ∙ rw (same, o, g, e) refl, are.1)
nodes_kept (x ∷ xs) (y ∷ ys) are (suc a) old new h o g e = (are.0, nodes_kept xs ys are.1 a old new h o g e)

-- a `finish`
pub entered_nodes : (acts : List Activity) (nodes : List NodeValue) → AreNodesOf acts nodes → (a : ℕ) (act : Activity) → slice_get acts a ≡ Some act
    → AreNodesOf (set acts a (step.entered act)) (changed_at nodes a node_entered)
entered_nodes acts nodes are a act h =
    nodes_set acts nodes are a (step.entered act) (node_entered (node_at nodes a)) (ap node_entered (node_is acts nodes are a act h))

-- an `endfinish`
pub left_nodes : (acts : List Activity) (nodes : List NodeValue) → AreNodesOf acts nodes → (a : ℕ) (act : Activity) (n : ℕ) → slice_get acts a ≡ Some act → act.opened ≡ suc n
    → AreNodesOf (set acts a (step.left act n)) (changed_at nodes a node_left)
left_nodes acts nodes are a act n h o =
    let less : act.opened - 1 ≡ n = omega arith in
    nodes_set acts nodes are a (step.left act n) (node_left (node_at nodes a)) (ap node_left (node_is acts nodes are a act h) ∙ rw less refl)

-- the end of an activity
pub ended_nodes : (acts : List Activity) (nodes : List NodeValue) → AreNodesOf acts nodes → (a : ℕ) (act : Activity) → slice_get acts a ≡ Some act
    → AreNodesOf (set acts a (step.ended act)) (changed_at nodes a node_ended)
ended_nodes acts nodes are a act h =
    nodes_set acts nodes are a (step.ended act) (node_ended (node_at nodes a)) (ap node_ended (node_is acts nodes are a act h))

-- the start of an activity
pub spawned_nodes : (acts : List Activity) (nodes : List NodeValue) → AreNodesOf acts nodes → (a : ℕ) (act : Activity) → slice_get acts a ≡ Some act
    → (m : ModuleValue) (unit : ℕ) (values : List Value) (room : ℕ)
    → AreNodesOf (set acts a (step.onward act) ++ step.child m a act unit values ∷ []) (nodes ++ fresh_node (governing_of a (node_at nodes a)) room ∷ [])
spawned_nodes acts nodes are a act h m unit values room =
    nodes_push (set acts a (step.onward act)) nodes (nodes_kept acts nodes are a act (step.onward act) h refl refl refl) (step.child m a act unit values)
    (fresh_node (governing_of a (node_at nodes a)) room) (ap (λ (n : NodeValue). fresh_node (governing_of a n) room) (node_is acts nodes are a act h))

-- an `endfinish` waits where somebody under the innermost finish is awaited
pub awaits_innermost_same : (acts : List Activity) (nodes : List NodeValue) → AreNodesOf acts nodes → (a : ℕ) (act : Activity) → slice_get acts a ≡ Some act
    → tree.awaits_innermost nodes a ≡ step.awaits acts (step.innermost a act)
awaits_innermost_same acts nodes are a act h =
    awaits_same acts nodes are (tree.innermost_of a (node_at nodes a)) ∙ ap (λ (n : NodeValue). step.awaits acts (tree.innermost_of a n)) (node_is acts nodes are a act h)

-- and somebody is under that finish where the tree says so
pub under_innermost_same : (acts : List Activity) (nodes : List NodeValue) → AreNodesOf acts nodes → (a : ℕ) (act : Activity) → slice_get acts a ≡ Some act
    → (b : ℕ) → tree.is_under nodes (tree.innermost_of a (node_at nodes a)) b ≡ step.is_under acts (step.innermost a act) b
under_innermost_same acts nodes are a act h b =
    ap (λ (n : NodeValue). tree.is_under nodes (tree.innermost_of a n) b) (node_is acts nodes are a act h)
    ∙ is_under_same acts nodes (step.innermost a act) are b
