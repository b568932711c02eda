-- A counter for each finish: how it changes, and that somebody under a finish is awaited where its counter isn't 0.
use Rattle.std.proofs.Common.{◌≡◌, ℕ, zero, suc, ◌+◌, ◌<◌, ◌≤◌, ◌==◌, Bool, true, false, not, ◌&&◌, ◌||◌, List, [], ◌∷◌, ◌++◌, length, set, Option, Some, None, refl, sym, ap, subst, arith}
use Rattle.std.specs.Prelude.{slice_get}
use Rattle.std.specs.Option.{option_map_or}
use Rattle.std.proofs.lemmas.Option.{none-some, same_Some}
use Rattle.std.proofs.lemmas.Bool.Decides.{nat_tests}
use Rattle.xk_types.specs.World.{Finish}
use Rattle.xk_types.specs.Step.{same_owner, same_finish}
use Rattle.xk_finishes.specs.Tree.{NodeValue, node_at, under_within, is_under, awaits_from, awaits, AreOwnersEarlier}
use Rattle.xk_finishes.specs.Counters.{finish_at, is_counted, one_if, counter, AreOpen}

-- ---- how a counter changes

-- one activity more
pub counter_pushed : (f : Finish) (nodes : List NodeValue) (node : NodeValue) → counter f (nodes ++ node ∷ []) ≡ one_if (is_counted f node) + counter f nodes
counter_pushed f [] node = refl
counter_pushed f (x ∷ xs) node = omega (arith, counter_pushed f xs node)

-- one activity changes
pub counter_set : (f : Finish) (nodes : List NodeValue) (a : ℕ) (old new : NodeValue) → slice_get nodes a ≡ Some old
    → counter f (set nodes a new) + one_if (is_counted f old) ≡ one_if (is_counted f new) + counter f nodes
counter_set f [] a old new at = absurd (none-some old at)
counter_set f (x ∷ xs) zero old new at =
    let same : one_if (is_counted f x) ≡ one_if (is_counted f old) = ap (λ (n : NodeValue). one_if (is_counted f n)) (same_Some x old at) in
    omega (arith, same)
counter_set f (x ∷ xs) (suc a) old new at = omega (arith, counter_set f xs a old new at)

-- who is counted makes it more than 0
pub counted_at : (f : Finish) (nodes : List NodeValue) (b : ℕ) (node : NodeValue) → slice_get nodes b ≡ Some node → is_counted f node ≡ true → 0 < counter f nodes
counted_at f [] b node at is = absurd (none-some node at)
counted_at f (x ∷ xs) zero node at is = rw (same_Some x node at, is) (omega arith)
counted_at f (x ∷ xs) (suc b) node at is = omega (arith, counted_at f xs b node at is)

-- ---- how great it is

at_most_one : (b : Bool) → one_if b ≤ 1
at_most_one true = omega arith
at_most_one false = omega arith

counter_within : (f : Finish) (nodes : List NodeValue) → counter f nodes ≤ length nodes
counter_within f [] = omega arith
counter_within f (x ∷ xs) = omega (arith, at_most_one (is_counted f x), counter_within f xs)

-- main isn't counted where somebody opened the finish
pub counter_below : (a d : ℕ) (nodes : List NodeValue) → AreOwnersEarlier nodes → 0 < length nodes → counter (finish_at a d) nodes < length nodes
counter_below a d [] earlier some = absurd (omega arith)
counter_below a d (x ∷ xs) earlier some = go x.governed.owner refl x.ended
  where
    other : (e : Bool) → (o : Option ℕ) → o ≡ None → (not e && (same_owner o (Some a) && (x.governed.depth == d))) ≡ false
    other true o is = refl
    other false o is = rw is refl

    go : (o : Option ℕ) → x.governed.owner ≡ o → (e : Bool) → one_if (is_counted (finish_at a d) x) + counter (finish_at a d) xs < suc (length xs)
    go None is e = rw (other x.ended x.governed.owner is) (omega (arith, counter_within (finish_at a d) xs))
    go (Some b) is e = absurd (omega (arith, earlier 0 x refl b is))

-- an activity that is there
pub node_there : (nodes : List NodeValue) (a : ℕ) → a < length nodes → slice_get nodes a ≡ Some (node_at nodes a)
node_there [] a h = absurd (omega arith)
node_there (x ∷ xs) zero h = refl
node_there (x ∷ xs) (suc a) h = node_there xs a (omega arith)

-- ---- who is under a finish, and hasn't ended

-- leads up to one whom it governs itself and who hasn't ended
under_counted : (nodes : List NodeValue) (f : Finish) → AreOpen nodes → (n b : ℕ) (node : NodeValue) → slice_get nodes b ≡ Some node → node.ended ≡ false
    → under_within nodes f n b ≡ true → 0 < counter f nodes
unfolding under_within
under_counted nodes f are zero b node at runs under = absurd (grind arith)
under_counted nodes f are (suc n) b node at runs under =
    go (same_finish node.governed f) refl node.governed.owner refl
    (subst (λ (o : Option NodeValue). option_map_or (λ node. same_finish node.governed f || option_map_or (under_within nodes f n) node.governed.owner false) o false
    ≡ true) at under)
    (λ a x there still up. under_counted nodes f are n a x there still up)
  where
    go : (s : Bool) → same_finish node.governed f ≡ s → (o : Option ℕ) → node.governed.owner ≡ o → (s || option_map_or (under_within nodes f n) o false) ≡ true
        → ((a : ℕ) (x : NodeValue) → slice_get nodes a ≡ Some x → x.ended ≡ false → under_within nodes f n a ≡ true → 0 < counter f nodes) → 0 < counter f nodes
    go true e o is h again = counted_at f nodes b node at (rw (runs, e) refl)
    go false e None is h again = absurd (grind arith)
    go false e (Some a) is h again =
        let up = are b node at runs a is in
        again a (node_at nodes a) (node_there nodes a up.exists) up.runs h

-- whom it governs is under it
governed_under : (nodes : List NodeValue) (f : Finish) (n b : ℕ) (node : NodeValue) → slice_get nodes b ≡ Some node → same_finish node.governed f ≡ true
    → under_within nodes f (suc n) b ≡ true
unfolding under_within
governed_under nodes f n b node at is =
    subst (λ (o : Option NodeValue). option_map_or (λ node. same_finish node.governed f || option_map_or (under_within nodes f n) node.governed.owner false) o false
    ≡ true) (sym at) (rw is refl)

inside_of : (nodes : List NodeValue) (b : ℕ) (node : NodeValue) → slice_get nodes b ≡ Some node → b < length nodes
inside_of [] b node at = absurd (none-some node at)
inside_of (x ∷ xs) zero node at = omega arith
inside_of (x ∷ xs) (suc b) node at = omega (arith, inside_of xs b node at)

governed_is_under : (nodes : List NodeValue) (f : Finish) (b : ℕ) (node : NodeValue) → slice_get nodes b ≡ Some node → same_finish node.governed f ≡ true
    → is_under nodes f b ≡ true
governed_is_under nodes f b node at is = go (length nodes) (inside_of nodes b node at)
  where
    go : (n : ℕ) → b < n → under_within nodes f n b ≡ true
    go zero h = absurd (omega arith)
    go (suc n) h = governed_under nodes f n b node at is

-- ---- who is awaited

-- these are the activities from number b on
abbrev AreFrom : List NodeValue → ℕ → List NodeValue → Type 0
AreFrom nodes b xs = (i : ℕ) (x : NodeValue) → slice_get xs i ≡ Some x → slice_get nodes (b + i) ≡ Some x

-- the first of them
first_from : (nodes : List NodeValue) (b : ℕ) (x : NodeValue) (xs : List NodeValue) → AreFrom nodes b (x ∷ xs) → slice_get nodes b ≡ Some x
first_from nodes b x xs from =
    let same : b + 0 ≡ b = omega arith in
    subst (λ (n : ℕ). slice_get nodes n ≡ Some x) same (from 0 x refl)

-- all others
later_from : (nodes : List NodeValue) (b : ℕ) (x : NodeValue) (xs : List NodeValue) → AreFrom nodes b (x ∷ xs) → AreFrom nodes (suc b) xs
later_from nodes b x xs from i y at =
    let same : suc b + i ≡ b + suc i = omega arith in
    rw same (from (suc i) y at)

awaited_counted : (nodes : List NodeValue) (f : Finish) → AreOpen nodes → (b : ℕ) (xs : List NodeValue) → AreFrom nodes b xs → awaits_from nodes f b xs ≡ true
    → 0 < counter f nodes
awaited_counted nodes f are b [] from h = absurd (grind arith)
awaited_counted nodes f are b (x ∷ xs) from h =
    go (is_under nodes f b) refl x.ended refl h (awaited_counted nodes f are (suc b) xs (later_from nodes b x xs from))
  where
    go : (u : Bool) → is_under nodes f b ≡ u → (d : Bool) → x.ended ≡ d → ((u && not d) || awaits_from nodes f (suc b) xs) ≡ true
        → (awaits_from nodes f (suc b) xs ≡ true → 0 < counter f nodes) → 0 < counter f nodes
    go true under false runs h later = under_counted nodes f are (length nodes) b x (first_from nodes b x xs from) runs under
    go true under true runs h later = later h
    go false under d runs h later = later h

counted_awaited : (nodes : List NodeValue) (f : Finish) (b : ℕ) (xs : List NodeValue) → AreFrom nodes b xs → 0 < counter f xs → awaits_from nodes f b xs ≡ true
counted_awaited nodes f b [] from h = absurd (omega arith)
counted_awaited nodes f b (x ∷ xs) from h =
    go x.ended (same_finish x.governed f) refl h (counted_awaited nodes f (suc b) xs (later_from nodes b x xs from))
  where
    pass : (p : Bool) → awaits_from nodes f (suc b) xs ≡ true → (p || awaits_from nodes f (suc b) xs) ≡ true
    pass true h = refl
    pass false h = h

    go : (d s : Bool) → same_finish x.governed f ≡ s → 0 < one_if (not d && s) + counter f xs → (0 < counter f xs → awaits_from nodes f (suc b) xs ≡ true)
        → ((is_under nodes f b && not d) || awaits_from nodes f (suc b) xs) ≡ true
    go false true e h later = rw (governed_is_under nodes f b x (first_from nodes b x xs from) e) refl
    go false false e h later = pass (is_under nodes f b && true) (later (omega arith))
    go true s e h later = pass (is_under nodes f b && false) (later (omega arith))

-- Somebody under the finish is awaited where its counter isn't 0.
pub awaits_counter : (nodes : List NodeValue) (f : Finish) → AreOpen nodes → awaits nodes f ≡ not (counter f nodes == 0)
awaits_counter nodes f are = go (awaits nodes f) refl (counter f nodes) refl
  where
    suc_zero : (n : ℕ) → (suc n == 0) ≡ false
    suc_zero n = grind (arith, nat_tests)

    from : AreFrom nodes 0 nodes
    from i x at = let same : 0 + i ≡ i = omega arith in rw same at

    go : (w : Bool) → awaits nodes f ≡ w → (n : ℕ) → counter f nodes ≡ n → w ≡ not (n == 0)
    go true e zero is = let h = awaited_counted nodes f are 0 nodes from e in absurd (omega arith)
    go true e (suc n) is = rw (suc_zero n) refl
    go false e zero is = refl
    go false e (suc n) is = absurd (grind (arith, counted_awaited nodes f 0 nodes from (omega arith)))
