-- Groups of ways, one for each number that comes next.
use Rattle.std.proofs.Common.{◌≡◌, ◌∙◌, ℕ, ℤ, ◌+◌, ◌-◌, ◌<◌, ◌≤◌, ◌⊎◌, inl, inr, List, [], ◌∷◌, ◌++◌}
use Rattle.std.proofs.Common.{length, pos, suc, Option, Some, None, option_map, refl, sym, ap, subst, arith, slice_get}
use Rattle.std.specs.Prelude.{◌<ℤ◌}
use Rattle.std.proofs.lemmas.Bool.{cases_lt}
use Rattle.std.specs.List.Sorted.{IsPermutation}
use Rattle.std.proofs.lemmas.List.{length_push}
use Rattle.std.proofs.lemmas.List.Sorted.{IsPermutation-sym}
use Rattle.std.proofs.lemmas.Option.{none-some, same_Some, slice_get_within}
use Rattle.xk_readings.specs.declared.edge.Edge.{Edge}
use Rattle.xk_readings.specs.declared.branches.Branch.{Branch}
use Rattle.xk_readings.specs.declared.branches.Group.{Group}
use Rattle.xk_readings.specs.Graphs.{GraphValue}
use Rattle.xk_readings.specs.Ways.{Standing, WaysValue, along, at}
use Rattle.xk_readings.specs.Branches.{AreAllOf, AreBranches, AreBranchesAt, AreFalling, AreGrouped, AreLess}
use Rattle.xk_readings.specs.Branches.{AreRisingBranches, AreStacked, HasBranch}
use Rattle.xk_readings.specs.Branches.{HasWay, IsAlong, IsBranch, IsGroup, IsNew, branch_of}
use Rattle.xk_readings.proofs.GrowthLemmas.{at_kept, each_grown}
use Rattle.xk_types.proofs.ListLemmas.{get-append_left as stays, get_inside as there_is, get_once as same_at, get_push as at_end}
use Rattle.xk_readings.proofs.ListLemmas.{permuted, place}
use Rattle.xk_readings.proofs.RisingLemmas.{most_less, not_equal_less}

-- the way of a branch is the same where more ways are added
along_kept : (branches : List Branch) (old new : List Standing)
    → ((i : ℕ) (b : Branch) → slice_get branches i ≡ Some b → b.before < length old)
    → ((k : ℕ) (s : Standing) → slice_get old k ≡ Some s → slice_get new k ≡ Some s) → (x : ℤ) (s : Standing) → IsAlong branches new x s
    → IsAlong branches old x s
along_kept branches old new before keeps x s is =
    let b = is.1 in
    (is.0, b, is.2, is.3, is.4 ∙ ap (along b.edge) (at_kept old new b.before (before is.0 b is.2) (keeps b.before)))

-- one branch more in the group
pub each_more : (branches : List Branch) (old now new : List Standing) (i : ℕ) (b : Branch) (x : ℤ) → slice_get branches i ≡ Some b
    → b.number ≡ x → b.before < length old
    → ((k : ℕ) (s : Standing) → slice_get old k ≡ Some s → slice_get now k ≡ Some s)
    → (new ≡ now) ⊎ (new ≡ now ++ along b.edge (at now b.before) ∷ [])
    → ((k : ℕ) (s : Standing) → length old ≤ k → slice_get now k ≡ Some s → IsAlong branches old x s)
    → (k : ℕ) (s : Standing) → length old ≤ k → slice_get new k ≡ Some s → IsAlong branches old x s
each_more branches old now new i b x there number before keeps grows all k s from at_k =
    each_grown now new (along b.edge (at now b.before)) grows (λ (k : ℕ) (s : Standing). length old ≤ k
    → IsAlong branches old x s) (λ k s at_k from. all k s from at_k)
    (λ from. (i, b, there, number, ap (along b.edge) (at_kept old now b.before before (keeps b.before)))) k s at_k from

-- ---- one group more

module _ (branches : List Branch) (place' end : ℕ) (old now new : WaysValue) (under mid over : List Group) (group : Group) (first : Branch)
    (before : (i : ℕ) (b : Branch) → slice_get branches i ≡ Some b → b.before < length old.all)
    (are : AreGrouped branches end old now under mid) (is : IsGroup branches place' end now new)
    (first_is : slice_get branches place' ≡ Some first)
    (from : group.from ≡ length now.all) (to : group.to ≡ length new.all) (one : over ≡ mid ++ group ∷ []) where
  is_group : IsNew branches old.all new.all first.number group
  is_group = record {
    behind = (let most = are.many in omega (arith, most, from));
    some =
        let here : place' ≤ place' = omega arith in
        let way = is.there place' first here is.less first_is in
        let behind = way.2 in
        let inside = slice_get_within new.all way.0 way.1 way.3 in
        omega (arith, behind, inside, from, to);
    within = omega (arith, to);
    each = λ k s behind less there. along_kept branches old.all now.all before are.kept first.number s
        (is.each k s first (omega (arith, behind, from)) there first_is);
  }

  new_kept : (x : ℤ) (a : Group) → IsNew branches old.all now.all x a → IsNew branches old.all new.all x a
  new_kept x a was = record {
    behind = was.behind;
    some = was.some;
    within = (let most = is.many in let inside = was.within in omega (arith, most, inside));
    each = λ k s behind less there.
        let inside = was.within in
        let known = there_is now.all k (omega (arith, less, inside)) in
        subst (IsAlong branches old.all x) (same_at new.all k known.0 s (is.kept k known.0 known.1) there)
        (was.each k known.0 behind less known.1);
  }

  way_kept : (a : Group) (node : ℕ) → HasWay now.all a node → HasWay new.all a node
  way_kept a node h = (h.0, h.1, h.2, h.3, is.kept h.0 h.1 h.4, h.5)

  over_at : (i : ℕ) (a : Group) → slice_get over i ≡ Some a → (slice_get mid i ≡ Some a) ⊎ ((i ≡ length mid) × (group ≡ a))
  over_at i a there = place mid group i a (ap (λ (l : List Group). slice_get l i) (sym one) ∙ there)

  mid_over : (i : ℕ) (a : Group) → slice_get mid i ≡ Some a → slice_get over i ≡ Some a
  mid_over i a there = ap (λ (l : List Group). slice_get l i) one ∙ stays mid (group ∷ []) i a there

  group_over : slice_get over (length mid) ≡ Some group
  group_over = ap (λ (l : List Group). slice_get l (length mid)) one ∙ at_end mid group

  added_more : (k : ℕ) (s : Standing) → length old.all ≤ k → slice_get new.all k ≡ Some s → (x : ℤ) × IsAlong branches old.all x s
  added_more k s behind there = by (cases_lt k (length now.all))
    where
      by : (k < length now.all) ⊎ (length now.all ≤ k) → (x : ℤ) × IsAlong branches old.all x s
      by (inl less) =
          let known = there_is now.all k less in
          let was = are.added k known.0 behind known.1 in
          (was.0, subst (IsAlong branches old.all was.0) (same_at new.all k known.0 s (is.kept k known.0 known.1) there) was.1)
      by (inr later) = (
        first.number,
        along_kept branches old.all now.all before are.kept first.number s
            (is.each k s first later there first_is),
      )

  each_group : (i : ℕ) (a : Group) → length under ≤ i → slice_get over i ≡ Some a → (x : ℤ) × IsNew branches old.all new.all x a
  each_group i a behind there = by (over_at i a there)
    where
      by : (slice_get mid i ≡ Some a) ⊎ ((i ≡ length mid) × (group ≡ a)) → (x : ℤ) × IsNew branches old.all new.all x a
      by (inl known) = let was = are.each i a behind known in (was.0, new_kept was.0 a was.1)
      by (inr last) = (first.number, subst (IsNew branches old.all new.all first.number) last.1 is_group)

  stacked_more : AreStacked under (length old.all) → AreStacked over (length new.all)
  stacked_more stood = record {
    in_order = λ i j a b less x y. ordered i j a b less (over_at i a x) (over_at j b y);
    within = λ i a there. inside i a (over_at i a there);
  }
    where
      was : AreStacked mid (length now.all)
      was = are.stacked stood

      inside : (i : ℕ) (a : Group) → (slice_get mid i ≡ Some a) ⊎ ((i ≡ length mid) × (group ≡ a)) → a.to ≤ length new.all
      inside i a (inl known) =
          let less = was.within i a known in
          let most = is.many in
          omega (arith, less, most)
      inside i a (inr last) = subst (λ (b : Group). b.to ≤ length new.all) last.1 (omega (arith, to))

      ordered : (i j : ℕ) (a b : Group) → i ≤ j → (slice_get mid i ≡ Some a) ⊎ ((i ≡ length mid) × (group ≡ a))
          → (slice_get mid j ≡ Some b) ⊎ ((j ≡ length mid) × (group ≡ b)) → a.to ≤ b.to
      ordered i j a b less (inl x) (inl y) = was.in_order i j a b less x y
      ordered i j a b less (inl x) (inr y) =
          let inside = was.within i a x in
          let most = is.many in
          subst (λ (c : Group). a.to ≤ c.to) y.1 (omega (arith, inside, most, to))
      ordered i j a b less (inr x) (inl y) =
          let end' = x.0 in
          let within = slice_get_within mid j b y in
          absurd (omega (arith, end', within, less))
      ordered i j a b less (inr x) (inr y) = (let same = ap (λ (c : Group). c.to) (sym x.1 ∙ y.1) in omega (arith, same))

  falling_more : AreRisingBranches branches → AreFalling branches place' old.all new.all (length under) over
  falling_more rises = record {
    above = λ i a behind there. above i a behind (over_at i a there);
    fall = λ i j a b behind less x y. fall i j a b behind less (over_at i a x) (over_at j b y);
  }
    where
      was : AreFalling branches end old.all now.all (length under) mid
      was = are.falling rises

      ends : place' < end
      ends = is.less

      -- the branches before the group print lesser numbers: the last of them another one, and those before it no greater one
      less_before : AreLess branches place' first.number
      less_before i b less there = by (cases_lt (suc i) place')
        where
          last : (j : ℕ) (c : Branch) → suc j ≡ place' → slice_get branches j ≡ Some c → c.number <ℤ first.number
          last j c next at_j =
              let most = rises j place' c first (omega (arith, next)) at_j first_is in
              let other = is.other j c first next at_j first_is in
              not_equal_less c.number first.number most other

          by : (suc i < place') ⊎ (place' ≤ suc i) → b.number <ℤ first.number
          by (inl before) =
              let inside = slice_get_within branches place' first first_is in
              let c = there_is branches (place' - 1) (omega (arith, inside, before)) in
              let most = rises i (place' - 1) b c.0 (omega (arith, before)) there c.1 in
              let later = last (place' - 1) c.0 (omega (arith, before)) c.1 in
              most_less b.number c.0.number first.number most later
          by (inr after) = last i b (omega (arith, less, after)) there

      above : (i : ℕ) (a : Group) → length under ≤ i → (slice_get mid i ≡ Some a) ⊎ ((i ≡ length mid) × (group ≡ a))
          → (x : ℤ) × IsNew branches old.all new.all x a × AreLess branches place' x
      above i a behind (inl known) =
          let up = was.above i a behind known in
          (up.0, new_kept up.0 a up.1, λ k b less there. up.2 k b (omega (arith, less, ends)) there)
      above i a behind (inr last) = (first.number, subst (IsNew branches old.all new.all first.number) last.1 is_group, less_before)

      fall : (i j : ℕ) (a b : Group) → length under ≤ i → i < j → (slice_get mid i ≡ Some a) ⊎ ((i ≡ length mid) × (group ≡ a))
          → (slice_get mid j ≡ Some b) ⊎ ((j ≡ length mid) × (group ≡ b))
          → (x y : ℤ) × IsNew branches old.all new.all x a × IsNew branches old.all new.all y b × (y <ℤ x)
      fall i j a b behind less (inl x) (inl y) =
          let f = was.fall i j a b behind less x y in
          (f.0, f.1, new_kept f.0 a f.2, new_kept f.1 b f.3, f.4)
      fall i j a b behind less (inl x) (inr y) =
          let up = was.above i a behind x in (
            up.0,
            first.number,
            new_kept up.0 a up.1,
            subst (IsNew branches old.all new.all first.number) y.1 is_group,
            up.2 place' first ends first_is,
          )
      fall i j a b behind less (inr x) (inl y) =
          let inside = slice_get_within mid j b y in
          let end' = x.0 in
          absurd (omega (arith, inside, end', less))
      fall i j a b behind less (inr x) (inr y) = (let one = x.0 in let two = y.0 in absurd (omega (arith, one, two, less)))

  there_more : (i : ℕ) (b : Branch) → place' ≤ i → slice_get branches i ≡ Some b
      → (j : ℕ) × (a : Group) × (length under ≤ j) × (slice_get over j ≡ Some a) × IsNew branches old.all new.all b.number a
      × HasWay new.all a b.edge.to
  there_more i b behind there = by (cases_lt i end)
    where
      by : (i < end) ⊎ (end ≤ i) → (j : ℕ) × (a : Group) × (length under ≤ j) × (slice_get over j ≡ Some a)
          × IsNew branches old.all new.all b.number a × HasWay new.all a b.edge.to
      by (inl less) =
          let way = is.there i b behind less there in
          let number = is.same i b first behind less there first_is in
          let inside = slice_get_within new.all way.0 way.1 way.3 in
          let later = way.2 in (
            length mid,
            group,
            are.longer,
            group_over,
            subst (λ (x : ℤ). IsNew branches old.all new.all x group) (sym number) is_group,
            (way.0, way.1, omega (arith, later, from), omega (arith, inside, to), way.3, way.4),
          )
      by (inr later) =
          let was = are.there i b later there in
          (was.0, was.1, was.2, mid_over was.0 was.1 was.3, new_kept b.number was.1 was.4, way_kept was.1 b.edge.to was.5)

  pub grouped_more : AreGrouped branches place' old new under over
  grouped_more = record {
    room = is.room ∙ are.room;
    many = (let a = are.many in let b = is.many in omega (arith, a, b));
    kept = λ k s there. is.kept k s (are.kept k s there);
    added = added_more;
    longer = (let a = are.longer in let count = ap length one in let more = length_push mid group in omega (arith, a, count, more));
    groups_kept = λ i a there. mid_over i a (are.groups_kept i a there);
    each = each_group;
    stacked = stacked_more;
    falling = falling_more;
    there = there_more;
  }

-- ---- the branches of a way

-- those that a list begins with stay, and one more is a branch
module _ (g : GraphValue) (all : List Standing) (branches more : List Branch) (b : Branch) (one : more ≡ branches ++ b ∷ []) where
  pub branch_stays : (i : ℕ) (c : Branch) → slice_get branches i ≡ Some c → slice_get more i ≡ Some c
  branch_stays i c there = ap (λ (l : List Branch). slice_get l i) one ∙ stays branches (b ∷ []) i c there

  pub branch_last : slice_get more (length branches) ≡ Some b
  branch_last = ap (λ (l : List Branch). slice_get l (length branches)) one ∙ at_end branches b

  pub each_branch : (before n : ℕ) → IsBranch g all b → b.before ≡ before
      → ((i : ℕ) (c : Branch) → slice_get branches i ≡ Some c → n ≤ i → IsBranch g all c × (c.before ≡ before))
      → (i : ℕ) (c : Branch) → slice_get more i ≡ Some c → n ≤ i → IsBranch g all c × (c.before ≡ before)
  each_branch before n is at_before are i c there from = by (place branches b i c (ap (λ (l : List Branch). slice_get l i) (sym one)
      ∙ there))
    where
      by : (slice_get branches i ≡ Some c) ⊎ ((i ≡ length branches) × (b ≡ c)) → IsBranch g all c × (c.before ≡ before)
      by (inl known) = are i c known from
      by (inr last) = subst (λ (z : Branch). IsBranch g all z × (z.before ≡ before)) last.1 (is, at_before)

  pub has_branch : (e : Edge) → HasBranch branches e → HasBranch more e
  has_branch e h = (h.0, h.1, branch_stays h.0 h.1 h.2, h.3)

-- the branches of one way more
pub branches_more : (g : GraphValue) (all : List Standing) (first before : ℕ) (old new : List Branch) → first ≤ before
    → AreBranchesAt g all before old new
    → ((i : ℕ) (b : Branch) → slice_get old i ≡ Some b → IsBranch g all b × (first ≤ b.before))
    → (i : ℕ) (b : Branch) → slice_get new i ≡ Some b → IsBranch g all b × (first ≤ b.before)
branches_more g all first before old new behind are each i b there = by (cases_lt i (length old))
  where
    by : (i < length old) ⊎ (length old ≤ i) → IsBranch g all b × (first ≤ b.before)
    by (inl less) =
        let was = there_is old i less in
        subst (λ (z : Branch). IsBranch g all z × (first ≤ z.before)) (same_at new i was.0 b (are.kept i was.0 was.1) there)
        (each i was.0 was.1)
    by (inr from) = (let new' = are.each i b there from in let at_before = new'.1 in (new'.0, omega (arith, behind, at_before)))

pub all_of_more : (g : GraphValue) (all : List Standing) (first before : ℕ) (old new : List Branch) → AreBranchesAt g all before old new
    → ((k : ℕ) → first ≤ k → k < before → AreAllOf g old (at all k))
    → (k : ℕ) → first ≤ k → k < before + 1 → AreAllOf g new (at all k)
all_of_more g all first before old new are was k from less e x has begins prints = by (cases_lt k before)
  where
    by : (k < before) ⊎ (before ≤ k) → HasBranch new e
    by (inl earlier) = (let h = was k from earlier e x has begins prints in (h.0, h.1, are.kept h.0 h.1 h.2, h.3))
    by (inr later) =
        let same : k ≡ before = omega (arith, less, later) in
        are.there e x has (begins ∙ ap (λ m. (at all m).node) same) prints

-- in another order they are the same branches
pub branches_sorted : (g : GraphValue) (all : List Standing) (first : ℕ) (branches sorted : List Branch) → IsPermutation branches sorted
    → AreBranches g all first branches
    → AreBranches g all first sorted
branches_sorted g all first branches sorted moved are = record {
  each = λ i b there. (let was = permuted sorted branches i b (IsPermutation-sym branches sorted moved) there in are.each was.0 b was.1);
  there = λ k from less e x has begins prints.
      let h = are.there k from less e x has begins prints in
      let is = permuted branches sorted h.0 h.1 moved h.2 in
      (is.0, h.1, is.1, h.3);
}

-- what stands for a branch that isn't there
abbrev pub no_branch : Branch
no_branch = record { number = pos 0; before = 0; edge = record { from = 0; act = 0; printed = None; to = 0 } }

-- what holds of one holds from there on, if it does behind it
pub one_earlier : {X : Type 0} (xs : List X) (at end : ℕ) (x : X) → slice_get xs at ≡ Some x → (P : X → Type 0) → P x
    → ((i : ℕ) (y : X) → suc at ≤ i → i < end → slice_get xs i ≡ Some y → P y) → (i : ℕ) (y : X) → at ≤ i → i < end
    → slice_get xs i ≡ Some y → P y
one_earlier xs at end x there P is all i y from less here = by (cases_lt i (suc at))
  where
    by : (i < suc at) ⊎ (suc at ≤ i) → P y
    by (inl before) = (let same : at ≡ i = omega (arith, before, from) in subst P
        (same_at xs i x y (ap (slice_get xs) (sym same) ∙ there) here) is)
    by (inr behind) = all i y behind less here

-- what holds of those before one and of it holds of those before the next one
pub one_later : {X : Type 0} (xs : List X) (at : ℕ) (x : X) → slice_get xs at ≡ Some x → (P : X → Type 0) → P x
    → ((i : ℕ) (y : X) → i < at → slice_get xs i ≡ Some y → P y) → (i : ℕ) (y : X) → i < at + 1 → slice_get xs i ≡ Some y → P y
one_later xs at x there P is all i y less here = by (cases_lt i at)
  where
    by : (i < at) ⊎ (at ≤ i) → P y
    by (inl before) = all i y before here
    by (inr behind) = (let same : at ≡ i = omega (arith, less, behind) in subst P
        (same_at xs i x y (ap (slice_get xs) (sym same) ∙ there) here) is)

-- what an edge that prints a number makes
pub made : (before : ℕ) (e : Edge) (b : Branch) → Some b ≡ branch_of before e
    → (e ≡ b.edge) × (before ≡ b.before) × (e.printed ≡ Some b.number)
made before e b is = by e.printed refl is
  where
    of : ℤ → Branch
    of x = record { number = x; before = before; edge = e }

    by : (o : Option ℤ) → e.printed ≡ o → Some b ≡ option_map of o → (e ≡ b.edge) × (before ≡ b.before) × (e.printed ≡ Some b.number)
    by None prints none = absurd (none-some b (sym none))
    by (Some x) prints some =
        let same : of x ≡ b = same_Some (of x) b (sym some) in
        (ap (λ (z : Branch). z.edge) same, ap (λ (z : Branch). z.before) same, prints ∙ ap (λ (z : Branch). Some z.number) same)

-- one that prints none makes none
pub none_made : (before : ℕ) (e : Edge) → None ≡ branch_of before e → (x : ℤ) → e.printed ≡ Some x → ⊥
none_made before e is x prints =
    let of : ℤ → Branch = λ n. record { number = n; before = before; edge = e } in
    none-some (of x) (is ∙ ap (option_map of) prints)
