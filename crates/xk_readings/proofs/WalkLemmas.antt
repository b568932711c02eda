-- One step of the walk along all readings.
use Rattle.std.proofs.Common.{◌≡◌, ◌∙◌, ℕ, ℤ, zero, suc, ◌+◌, ◌-◌, ◌*◌, ◌<◌, ◌≤◌, ◌⊎◌, inl, inr, Bool, true, false, cond}
use Rattle.std.proofs.Common.{eqb, List, [], ◌∷◌, ◌++◌, length, get_or, take, Option, Some, refl, sym}
use Rattle.std.proofs.Common.{ap, subst, append_assoc, arith, slice_get}
use Rattle.std.specs.Option.{option_to_list}
use Rattle.std.proofs.lemmas.Bool.{cases_lt, true≢false}
use Rattle.std.proofs.lemmas.Bool.Decides.{eqb_tells}
use Rattle.std.proofs.lemmas.List.{append-nil, get_or_push, length-take-le, length_push}
use Rattle.std.proofs.lemmas.Option.{get_or_from_slice_get, none-some, same_Some, slice_get_within}
use Rattle.xk_readings.specs.declared.edge.Edge.{Edge}
use Rattle.xk_readings.specs.declared.branches.Branch.{Branch}
use Rattle.xk_readings.specs.declared.branches.Group.{Group}
use Rattle.xk_readings.specs.declared.listing.Reading.{Reading}
use Rattle.xk_readings.specs.Graphs.{GraphValue}
use Rattle.xk_readings.specs.Readings.{AreShown, IsListed, IsLongest, Reads}
use Rattle.xk_readings.specs.Ways.{Standing, WaysValue, at, start}
use Rattle.xk_readings.specs.Useful.{IsReadable}
use Rattle.xk_readings.specs.Closures.{AreReached, AreTrim, IsClosed, IsReached, IsSpread, NoneEnds, PrintsFrom}
use Rattle.xk_readings.specs.Branches.{AreBranches, AreRisingBranches, AreStacked, IsAlong, IsGrouped, IsNew}
use Rattle.xk_readings.specs.Rising.{AreBefore, AreFirst, AreRising, ComesBefore, PartsBelow}
use Rattle.xk_readings.specs.Walks.{IsAwaited, IsEndListed, IsListedFrom, IsNearer, IsOneOf, IsOpened}
use Rattle.xk_readings.specs.Walks.{IsPending, IsWalk, depth, last_group, numbers_of, weight}
use Rattle.xk_types.proofs.ListLemmas.{get-append_left as stays, get_inside as there_is, get_once as same_at, get_push as at_end}
use Rattle.xk_readings.proofs.ListLemmas.{from_take, in_take, place, read}
use Rattle.xk_readings.proofs.GrowthLemmas.{at_kept, prints_all}
use Rattle.xk_readings.proofs.RisingLemmas.{before_longer, before_more, before_one_more, parts_before, parts_last}
use Rattle.xk_readings.proofs.RisingLemmas.{parts_longer, rising_more}
use Rattle.xk_readings.proofs.ReadingLemmas.{GoesOn, HasEnd, progress, reached_along, reached_length, reading_there}

-- ---- ways that are kept

-- a group stays one
one_of_kept : (old new : List Standing) (a : Group) → ((k : ℕ) (s : Standing) → k < a.to → slice_get old k ≡ Some s
    → slice_get new k ≡ Some s) → a.to ≤ length new → IsOneOf old a
    → IsOneOf new a
one_of_kept old new a keeps many is = record {
  some = is.some;
  within = many;
  prints = λ k s from less there.
      let inside : k < length old = (let w = is.within in omega (arith, less, w)) in
      let first : a.from < a.to = is.some in
      let begins : a.from < length old = (let w = is.within in omega (arith, first, w)) in
      let was = read old k start inside in
      let same : at old k ≡ s = same_at new k (at old k) s (keeps k (at old k) less was) there in
      sym (ap (λ (t : Standing). t.numbers) same)
      ∙ is.prints k (at old k) from less was
      ∙ sym (ap (λ (t : Standing). t.numbers) (at_kept old new a.from begins (λ t. keeps a.from t first)));
}

-- what is listed stays listed
listed_more : (list more : List Reading) (r : Reading) (numbers : List ℤ) → more ≡ list ++ r ∷ [] → IsListed list numbers
    → IsListed more numbers
listed_more list more r numbers one is =
    (is.0, is.1, subst (λ (l : List Reading). slice_get l is.0 ≡ Some is.1) (sym one) (stays list (r ∷ []) is.0 is.1 is.2), is.3)

-- ---- the way of a branch

-- it prints one number more
along_numbers : (g : GraphValue) (all : List Standing) (first : ℕ) (p : List ℤ) (branches : List Branch) → AreBranches g all first branches
    → ((k : ℕ) (s : Standing) → first ≤ k → slice_get all k ≡ Some s → s.numbers ≡ p)
    → (x : ℤ) (s : Standing) → IsAlong branches all x s → s.numbers ≡ p ++ x ∷ []
along_numbers g all first p branches are prints x s is =
    let b = is.1 in
    let known = are.each is.0 b is.2 in
    let before = prints b.before (at all b.before) known.1 (read all b.before start known.0.before) in
    ap (λ (t : Standing). t.numbers) is.4
    ∙ ap (λ (l : List ℤ). l ++ option_to_list b.edge.printed) before
    ∙ ap (λ (o : Option ℤ). p ++ option_to_list o) known.0.prints
    ∙ ap (λ (n : ℤ). p ++ n ∷ []) is.3

along_reached : (g : GraphValue) (all : List Standing) (first : ℕ) (branches : List Branch) → AreTrim g → AreReached g all
    → AreBranches g all first branches
    → (x : ℤ) (s : Standing) → IsAlong branches all x s → IsReached g s
along_reached g all first branches trim reached are x s is =
    let b = is.1 in
    let known = (are.each is.0 b is.2).0 in
    subst (IsReached g) (sym is.4)
    (reached_along g b.edge (at all b.before) known.there known.from (trim b.edge known.there)
    (reached b.before (at all b.before) (read all b.before start known.before)))

-- ---- one step

module _ (g : GraphValue) (w w1 w2 : WaysValue) (under over : List Group) (group : Group) (list more : List Reading)
    (branches : List Branch) (limit : ℕ) (trim : AreTrim g)
    (walk : IsWalk g w (under ++ group ∷ []) list) (opened : IsOpened g group w w1)
    (listed : ((NoneEnds g w1.all group.from) × (more ≡ list)) ⊎ ((length list < limit) × IsEndListed g w1.all group.from list more))
    (are : AreBranches g w1.all group.from branches) (rises : AreRisingBranches branches)
    (grouped : IsGrouped branches w1 w2 under over) where
  abbrev p : List ℤ
  p = (at w.all group.from).numbers

  mine : IsOneOf w.all group
  mine = walk.each (length under) group (at_end under group)

  under_to : (i : ℕ) (a : Group) → slice_get under i ≡ Some a → a.to ≤ group.to
  under_to i a there =
      let inside = slice_get_within under i a there in
      walk.stacked.in_order i (length under) a group (omega (arith, inside)) (stays under (group ∷ []) i a there) (at_end under group)

  closed_at : (k : ℕ) (s : Standing) → group.from ≤ k → slice_get w1.all k ≡ Some s → IsClosed g w1.all group.from s
  closed_at k s from there =
      let inside = slice_get_within w1.all k s there in
      subst (IsClosed g w1.all group.from) (get_or_from_slice_get w1.all k s start there) (opened.closed k from inside)

  kept_through : (k : ℕ) (s : Standing) → k < group.to → slice_get w.all k ≡ Some s → slice_get w2.all k ≡ Some s
  kept_through k s less there = grouped.kept k s (opened.kept k s less there)

  is_new : (i : ℕ) (a : Group) → slice_get over i ≡ Some a → (slice_get under i ≡ Some a) ⊎ (length under ≤ i)
  is_new i a there = by (cases_lt i (length under))
    where
      by : (i < length under) ⊎ (length under ≤ i) → (slice_get under i ≡ Some a) ⊎ (length under ≤ i)
      by (inl less) =
          let old = there_is under i less in
          inl (old.1 ∙ ap Some (same_at over i old.0 a (grouped.groups_kept i old.0 old.1) there))
      by (inr from) = inr from

  reached_after : AreReached g w2.all
  reached_after k s there = by (cases_lt k (length w1.all))
    where
      by : (k < length w1.all) ⊎ (length w1.all ≤ k) → IsReached g s
      by (inl less) =
          let old = there_is w1.all k less in
          subst (IsReached g) (same_at w2.all k old.0 s (grouped.kept k old.0 old.1) there) (opened.reached k old.0 old.1)
      by (inr from) =
          let new = grouped.added k s from there in
          along_reached g w1.all group.from branches trim opened.reached are new.0 s new.1

  new_numbers : (x : ℤ) (a : Group) → IsNew branches w1.all w2.all x a → (k : ℕ) (s : Standing) → a.from ≤ k → k < a.to
      → slice_get w2.all k ≡ Some s → s.numbers ≡ p ++ x ∷ []
  new_numbers x a is k s from less there = along_numbers g w1.all group.from p branches are opened.prints x s (is.each k s from less there)

  new_first : (x : ℤ) (a : Group) → IsNew branches w1.all w2.all x a → (at w2.all a.from).numbers ≡ p ++ x ∷ []
  new_first x a is =
      let some = is.some in
      let many = is.within in
      let itself : a.from ≤ a.from = omega arith in
      new_numbers x a is a.from (at w2.all a.from) itself some (read w2.all a.from start (omega (arith, some, many)))

  each_after : (i : ℕ) (a : Group) → slice_get over i ≡ Some a → IsOneOf w2.all a
  each_after i a there = by (is_new i a there)
    where
      by : (slice_get under i ≡ Some a) ⊎ (length under ≤ i) → IsOneOf w2.all a
      by (inl old) =
          let less = under_to i a old in
          let some = opened.many in
          let most = grouped.many in
          one_of_kept w.all w2.all a (λ k s before at. kept_through k s (omega (arith, before, less)) at) (omega (arith, less, some, most))
          (walk.each i a (stays under (group ∷ []) i a old))
      by (inr from) =
          let new = grouped.each i a from there in
          record {
            some = new.1.some;
            within = new.1.within;
            prints = λ k s behind before at. new_numbers new.0 a new.1 k s behind before at ∙ sym (new_first new.0 a new.1);
          }

  stacked_after : AreStacked over (length w2.all)
  stacked_after = grouped.stacked (record {
    in_order = λ i j a b less x y. walk.stacked.in_order i j a b less (stays under (group ∷ []) i a x) (stays under (group ∷ []) j b y);
    within = λ i a there. (let less = under_to i a there in let some = opened.many in omega (arith, less, some));
  })

  shown_after : AreShown g more
  shown_after i r there = by listed
    where
      by : ((NoneEnds g w1.all group.from) × (more ≡ list)) ⊎ ((length list < limit) × IsEndListed g w1.all group.from list more)
          → (n : ℕ) × Reads g n 0 r.acts.items r.numbers.items
      by (inl none) = walk.shown i r (subst (λ (l : List Reading). slice_get l i ≡ Some r) none.1 there)
      by (inr (few, one)) = old_or_new (place list one.reading i r (subst (λ (l : List Reading). slice_get l i ≡ Some r) one.listed there))
        where
          old_or_new : (slice_get list i ≡ Some r) ⊎ ((i ≡ length list) × (one.reading ≡ r))
              → (n : ℕ) × Reads g n 0 r.acts.items r.numbers.items
          old_or_new (inl old) = walk.shown i r old
          old_or_new (inr new) =
              let s = at w1.all one.number in
              let is = reading_there g s (opened.reached one.number s (read w1.all one.number start one.within)) one.ends in (
                is.0,
                subst (λ (l : List ℕ). Reads g is.0 0 l r.numbers.items) (sym one.acts ∙ ap (λ (q : Reading). q.acts.items) new.1)
                    (subst (λ (l : List ℤ). Reads g is.0 0 s.acts l) (sym one.numbers ∙ ap (λ (q : Reading). q.numbers.items) new.1) is.1),
              )

  -- ---- what is listed rises

  -- the ways of a group below print what they did
  under_numbers : (i : ℕ) (a : Group) → slice_get under i ≡ Some a → numbers_of w2.all a ≡ numbers_of w.all a
  under_numbers i a there =
      let is = walk.each i a (stays under (group ∷ []) i a there) in
      let some : a.from < a.to = is.some in
      let within = is.within in
      let to = under_to i a there in
      ap (λ (t : Standing). t.numbers)
      (at_kept w.all w2.all a.from (omega (arith, some, within)) (λ t at_t. kept_through a.from t (omega (arith, some, to)) at_t))

  -- what is listed comes before what the group prints
  before_group : AreBefore list p
  before_group = walk.before (length under) group (at_end under group)

  below_group : (i : ℕ) (a : Group) → slice_get under i ≡ Some a → PartsBelow p (numbers_of w.all a)
  below_group i a there = walk.falling i (length under) a group (slice_get_within under i a there) (stays under (group ∷ []) i a there)
      (at_end under group)

  -- what ends here prints what the group does
  end_numbers : (one : IsEndListed g w1.all group.from list more) → one.reading.numbers.items ≡ p
  end_numbers one = one.numbers ∙ opened.prints one.number (at w1.all one.number) one.behind (read w1.all one.number start one.within)

  -- what is listed now comes before whatever comes behind what was, and behind what the group prints
  before_now : (numbers : List ℤ) → AreBefore list numbers → ComesBefore p numbers → AreBefore more numbers
  before_now numbers before last = by listed
    where
      by : ((NoneEnds g w1.all group.from) × (more ≡ list)) ⊎ ((length list < limit) × IsEndListed g w1.all group.from list more)
          → AreBefore more numbers
      by (inl none) = subst (λ (l : List Reading). AreBefore l numbers) (sym none.1) before
      by (inr (few, one)) = before_one_more list more one.reading numbers one.listed before
          (subst (λ (l : List ℤ). ComesBefore l numbers) (sym (end_numbers one)) last)

  rising_after : AreRising more
  rising_after = by listed
    where
      by : ((NoneEnds g w1.all group.from) × (more ≡ list)) ⊎ ((length list < limit) × IsEndListed g w1.all group.from list more)
          → AreRising more
      by (inl none) = subst AreRising (sym none.1) walk.rising
      by (inr (few, one)) =
          rising_more list more one.reading one.listed walk.rising (subst (AreBefore list) (sym (end_numbers one)) before_group)

  before_after : (i : ℕ) (a : Group) → slice_get over i ≡ Some a → AreBefore more (numbers_of w2.all a)
  before_after i a there = by (is_new i a there)
    where
      by : (slice_get under i ≡ Some a) ⊎ (length under ≤ i) → AreBefore more (numbers_of w2.all a)
      by (inl old) = subst (AreBefore more) (sym (under_numbers i a old))
          (before_now (numbers_of w.all a) (walk.before i a (stays under (group ∷ []) i a old))
          (parts_before p (numbers_of w.all a) (below_group i a old)))
      by (inr from) =
          let new = grouped.each i a from there in
          subst (AreBefore more) (sym (new_first new.0 a new.1))
          (before_now (p ++ new.0 ∷ []) (λ k r at_k. before_longer r.numbers.items p (new.0 ∷ []) (before_group k r at_k))
          (before_more p new.0 []))

  behind_group : (i : ℕ) (a : Group) (x : ℤ) → slice_get under i ≡ Some a → PartsBelow (p ++ x ∷ []) (numbers_of w.all a)
  behind_group i a x old =
      subst (PartsBelow (p ++ x ∷ [])) (append-nil (numbers_of w.all a))
      (parts_longer p (numbers_of w.all a) (x ∷ []) [] (below_group i a old))

  falling_after : (i j : ℕ) (a b : Group) → i < j → slice_get over i ≡ Some a → slice_get over j ≡ Some b
      → PartsBelow (numbers_of w2.all b) (numbers_of w2.all a)
  falling_after i j a b less at_i at_j = by (is_new i a at_i) (is_new j b at_j)
    where
      by : (slice_get under i ≡ Some a) ⊎ (length under ≤ i) → (slice_get under j ≡ Some b) ⊎ (length under ≤ j)
          → PartsBelow (numbers_of w2.all b) (numbers_of w2.all a)
      by (inl x) (inl y) =
          subst (λ (l : List ℤ). PartsBelow l (numbers_of w2.all a)) (sym (under_numbers j b y))
          (subst (PartsBelow (numbers_of w.all b)) (sym (under_numbers i a x))
          (walk.falling i j a b less (stays under (group ∷ []) i a x) (stays under (group ∷ []) j b y)))
      by (inl x) (inr from) =
          let new = grouped.each j b from at_j in
          subst (λ (l : List ℤ). PartsBelow l (numbers_of w2.all a)) (sym (new_first new.0 b new.1))
          (subst (PartsBelow (p ++ new.0 ∷ [])) (sym (under_numbers i a x)) (behind_group i a new.0 x))
      by (inr from) y =
          let f = (grouped.falling rises).fall i j a b from less at_i at_j in
          subst (λ (l : List ℤ). PartsBelow l (numbers_of w2.all a)) (sym (new_first f.1 b f.3))
          (subst (PartsBelow (p ++ f.1 ∷ [])) (sym (new_first f.0 a f.2)) (parts_last p f.1 f.0 f.4))

  -- what ends here is listed
  end_listed : HasEnd g w1.all group.from → IsListed more p
  end_listed has = by listed
    where
      by : ((NoneEnds g w1.all group.from) × (more ≡ list)) ⊎ ((length list < limit) × IsEndListed g w1.all group.from list more)
          → IsListed more p
      by (inl none) =
          let inside = slice_get_within w1.all has.0 has.1 has.3 in
          let ends = none.0 has.0 has.2 inside in
          let node = ap (λ (s : Standing). slice_get g.ends s.node) (get_or_from_slice_get w1.all has.0 has.1 start has.3) in
          absurd (true≢false (same_Some true false (sym has.4 ∙ sym node ∙ ends)))
      by (inr (few, one)) = (
        length list,
        one.reading,
        ap (λ (l : List Reading). slice_get l (length list)) one.listed ∙ at_end list one.reading,
        one.numbers ∙ opened.prints one.number (at w1.all one.number) one.behind (read w1.all one.number start one.within),
      )

  -- what goes on is read behind a new group
  goes_on : (more' : List ℤ) → GoesOn g w1.all group.from more' → IsAwaited g w2.all over (p ++ more')
  goes_on more' on =
      let inside = slice_get_within w1.all on.number on.way on.there in
      let has = are.there on.number on.behind inside on.edge on.x on.has
      (on.from ∙ ap (λ (s : Standing). s.node) (sym (get_or_from_slice_get w1.all on.number on.way start on.there))) on.prints in
      let b = has.1 in
      let new = grouped.there has.0 b (zero_first has.0) has.2 in
      let a = new.1 in
      let way = new.5 in
      let number : b.number ≡ on.x = same_Some b.number on.x (sym (are.each has.0 b has.2).0.prints ∙ ap (λ (e : Edge). e.printed) has.3
      ∙ on.prints) in
      let node : on.edge.to ≡ way.1.node = sym (way.5 ∙ ap (λ (e : Edge). e.to) has.3) in (
        new.0,
        a,
        new.3,
        (
          way.0,
          way.1,
          way.2,
          way.3,
          way.4,
          on.steps,
          on.rest,
          on.left,
          subst (λ m. Reads g on.steps m on.rest on.left) node on.reads,
          ap (λ (l : List ℤ). p ++ l) on.is
              ∙ sym (append_assoc p (on.x ∷ []) on.left)
              ∙ ap (λ (n : ℤ). (p ++ n ∷ []) ++ on.left) (sym number)
              ∙ sym (ap (λ (l : List ℤ). l ++ on.left) (new_numbers b.number a new.4 way.0 way.1 way.2 way.3 way.4)),
        ),
      )
    where
      zero_first : (i : ℕ) → 0 ≤ i
      zero_first i = omega arith

  kept_listed : (numbers : List ℤ) → IsListed list numbers → IsListed more numbers
  kept_listed numbers is = by listed
    where
      by : ((NoneEnds g w1.all group.from) × (more ≡ list)) ⊎ ((length list < limit) × IsEndListed g w1.all group.from list more)
          → IsListed more numbers
      by (inl none) = subst (λ (l : List Reading). IsListed l numbers) (sym none.1) is
      by (inr (few, one)) = listed_more list more one.reading numbers one.listed is

  -- what is read behind the group is listed now, or read behind a new one
  from_group : (numbers : List ℤ) → IsPending g w.all group numbers → IsListed more numbers ⊎ IsAwaited g w2.all over numbers
  from_group numbers (k, s, from, less, there, n, rest, left, reads, is) = by
      (progress g w1.all group.from closed_at n k s rest left from (opened.kept k s less there) reads)
    where
      whole : numbers ≡ p ++ left
      whole = is ∙ ap (λ (l : List ℤ). l ++ left) (mine.prints k s from less there)

      by : ((left ≡ []) × HasEnd g w1.all group.from) ⊎ GoesOn g w1.all group.from left
          → IsListed more numbers ⊎ IsAwaited g w2.all over numbers
      by (inl (none, end)) = inl (subst (IsListed more) (sym (whole ∙ ap (λ (l : List ℤ). p ++ l) none ∙ append-nil p)) (end_listed end))
      by (inr on) = inr (subst (IsAwaited g w2.all over) (sym whole) (goes_on left on))

  all_after : (n : ℕ) (acts : List ℕ) (numbers : List ℤ) → Reads g n 0 acts numbers
      → IsListed more numbers ⊎ IsAwaited g w2.all over numbers
  all_after n acts numbers r = by (walk.all n acts numbers r)
    where
      at_group : (i : ℕ) (a : Group) → IsPending g w.all a numbers → (slice_get under i ≡ Some a) ⊎ ((i ≡ length under) × (group ≡ a))
          → IsListed more numbers ⊎ IsAwaited g w2.all over numbers
      at_group i a q (inl old) =
          let before = under_to i a old in
          let less = q.3 in
          inr (
            i,
            a,
            grouped.groups_kept i a old,
            (
              q.0,
              q.1,
              q.2,
              q.3,
              kept_through q.0 q.1
                  (omega (arith, less, before)) q.4,
              q.5,
              q.6,
              q.7,
              q.8,
              q.9,
            ),
          )
      at_group i a q (inr new) = from_group numbers (subst (λ (b : Group). IsPending g w.all b numbers) (sym new.1) q)

      by : IsListed list numbers ⊎ IsAwaited g w.all (under ++ group ∷ []) numbers → IsListed more numbers ⊎ IsAwaited g w2.all over numbers
      by (inl is) = inl (kept_listed numbers is)
      by (inr (i, a, there, pending)) = at_group i a pending (place under group i a there)

  walk_after : IsWalk g w2 over more
  walk_after = record {
    room = grouped.room ∙ opened.room ∙ walk.room;
    reached = reached_after;
    each = each_after;
    stacked = stacked_after;
    shown = shown_after;
    rising = rising_after;
    before = before_after;
    falling = falling_after;
    all = all_after;
  }

  -- where nothing is listed a new group comes next
  deeper : NoneEnds g w1.all group.from → (0 < length over) × (depth w2.all (last_group over) ≡ suc (depth w.all group))
  deeper none = by (progress g w1.all group.from closed_at r.0 group.from s r.1 r.2 itself there r.3)
    where
      some : group.from < group.to
      some = mine.some

      inside : group.from < length w1.all
      inside = (let many = opened.many in let less = mine.some in omega (arith, many, less))

      s : Standing
      s = at w1.all group.from

      there : slice_get w1.all group.from ≡ Some s
      there = read w1.all group.from start inside

      itself : group.from ≤ group.from
      itself = omega arith

      r : (n : ℕ) × (acts : List ℕ) × (numbers : List ℤ) × Reads g n s.node acts numbers
      r = (opened.reached group.from s there).readable

      by : ((r.2 ≡ []) × HasEnd g w1.all group.from) ⊎ GoesOn g w1.all group.from r.2
          → (0 < length over) × (depth w2.all (last_group over) ≡ suc (depth w.all group))
      by (inl (empty, has)) =
          let within = slice_get_within w1.all has.0 has.1 has.3 in
          let ends = none has.0 has.2 within in
          let node = ap (λ (t : Standing). slice_get g.ends t.node) (get_or_from_slice_get w1.all has.0 has.1 start has.3) in
          absurd (true≢false (same_Some true false (sym has.4 ∙ sym node ∙ ends)))
      by (inr on) =
          let within = slice_get_within w1.all on.number on.way on.there in
          let has = are.there on.number on.behind within on.edge on.x on.has
          (on.from ∙ ap (λ (t : Standing). t.node) (sym (get_or_from_slice_get w1.all on.number on.way start on.there))) on.prints in
          let first : 0 ≤ has.0 = omega arith in
          let new = grouped.there has.0 has.1 first has.2 in
          let behind : length under ≤ new.0 = new.2 in
          let less = slice_get_within over new.0 new.1 new.3 in
          let last : length over - 1 < length over = omega (arith, less) in
          let from : length under ≤ length over - 1 = omega (arith, less, behind) in
          let a = last_group over in
          let is = grouped.each (length over - 1) a from (read over (length over - 1) (record { from = 0; to = 0 }) last) in
          let numbers = ap length (new_first is.0 a is.1) in
          let longer = length_push p is.0 in
          (omega (arith, less), omega (arith, numbers, longer))

  nearer_after : IsNearer limit w.all group list w2.all over more
  nearer_after = by listed
    where
      by : ((NoneEnds g w1.all group.from) × (more ≡ list)) ⊎ ((length list < limit) × IsEndListed g w1.all group.from list more)
          → IsNearer limit w.all group list w2.all over more
      by (inl none) = let d = deeper none.0 in inr (none.1, d.0, d.1)
      by (inr (few, one)) =
          let longer = ap length one.listed in
          let count = length_push list one.reading in
          inl (omega (arith, longer, count), few)

-- ---- the walk ends

-- so many steps are left in the group that comes next
abbrev rest_of : ℕ → List Standing → List Group → ℕ
rest_of longest all groups = cond (eqb (length groups) 0) 0 (longest + 1 - depth all (last_group groups))

rest_most : (longest : ℕ) (all : List Standing) (groups : List Group) → rest_of longest all groups ≤ longest + 1
rest_most longest all groups = by (eqb (length groups) 0)
  where
    by : (b : Bool) → cond b 0 (longest + 1 - depth all (last_group groups)) ≤ longest + 1
    by true = omega arith
    by false = omega arith

rest_some : (longest : ℕ) (all : List Standing) (groups : List Group) → 0 < length groups
    → rest_of longest all groups ≡ longest + 1 - depth all (last_group groups)
rest_some longest all groups some = by (eqb_tells (length groups) 0)
  where
    by : ((eqb (length groups) 0 ≡ true) × (length groups ≡ 0)) ⊎ ((eqb (length groups) 0 ≡ false) × (length groups ≡ 0 → ⊥))
        → cond (eqb (length groups) 0) 0 (longest + 1 - depth all (last_group groups)) ≡ longest + 1 - depth all (last_group groups)
    by (inl none) = let same = none.1 in absurd (omega (arith, some, same))
    by (inr other) = ap (λ (b : Bool). cond b 0 (longest + 1 - depth all (last_group groups))) other.0

listed_less : (a l r d : ℕ) → r ≤ l + 1 → a * (l + 2) + r < (a + 1) * (l + 2) + d
listed_less a l r d most = omega (arith, most)

-- a step takes weight away
pub weight_falls : (limit longest : ℕ) (old new : List Standing) (under over : List Group) (group : Group) (list more : List Reading)
    → depth old group ≤ longest
    → IsNearer limit old group list new over more → weight limit longest new over more < weight limit longest old (under ++ group ∷ []) list
weight_falls limit longest old new under over group list more deep near = by near
  where
    whole : List Group
    whole = under ++ group ∷ []

    some : 0 < length whole
    some = (let count = length_push under group in omega (arith, count))

    last : last_group whole ≡ group
    last =
        let count = length_push under group in
        let end : length whole - 1 ≡ length under = omega (arith, count) in
        ap (λ k. get_or whole k (record { from = 0; to = 0 })) end
        ∙ get_or_push under group (record { from = 0; to = 0 }) (length under) refl

    before : rest_of longest old whole ≡ longest + 1 - depth old group
    before = rest_some longest old whole some ∙ ap (λ (a : Group). longest + 1 - depth old a) last

    by : IsNearer limit old group list new over more → (limit - length more) * (longest + 2) + rest_of longest new over <
        (limit - length list) * (longest + 2) + rest_of longest old whole
    by (inl (one, few)) =
        let left : limit - length list ≡ (limit - length more) + 1 = omega (arith, one, few) in
        subst (λ m. (limit - length more) * (longest + 2) + rest_of longest new over < m * (longest + 2) + rest_of longest old whole)
        (sym left)
        (listed_less (limit - length more) longest (rest_of longest new over) (rest_of longest old whole) (rest_most longest new over))
    by (inr (same, there, deeper)) =
        let now = rest_some longest new over there in
        subst (λ (l : List Reading). (limit - length l) * (longest + 2) + rest_of longest new over < (limit - length list) *
        (longest + 2) + rest_of longest old whole) (sym same)
        (omega (arith, now, deeper, deep, before))

-- the ways of a group print no more numbers than a reading has edges
pub depth_most : (g : GraphValue) (w : WaysValue) (under : List Group) (group : Group) (list : List Reading) (longest : ℕ)
    → IsWalk g w (under ++ group ∷ []) list → IsLongest g longest
    → depth w.all group ≤ longest
depth_most g w under group list longest walk most =
    let mine = walk.each (length under) group (at_end under group) in
    let some = mine.some in
    let many = mine.within in
    let there = read w.all group.from start (omega (arith, some, many)) in
    reached_length g (at w.all group.from) longest (walk.reached group.from (at w.all group.from) there) most

-- whatever isn't listed comes behind all that is
pub first_listed : (g : GraphValue) (w : WaysValue) (groups : List Group) (list : List Reading) → IsWalk g w groups list → AreFirst g list
first_listed g w groups list walk n acts numbers r = by (walk.all n acts numbers r)
  where
    by : IsListed list numbers ⊎ IsAwaited g w.all groups numbers → IsListed list numbers ⊎ AreBefore list numbers
    by (inl is) = inl is
    by (inr (i, a, there, (k, s, from, less, at_k, m, rest, left, reads, is))) =
        inr (λ j q at_j. subst (ComesBefore q.numbers.items)
        (sym (is ∙ ap (λ (l : List ℤ). l ++ left) ((walk.each i a there).prints k s from less at_k)))
        (before_longer q.numbers.items (numbers_of w.all a) left (walk.before i a there j q at_j)))

-- ---- what the parts of a step give

-- the ways of the group alone, and those that come from there without a number being printed
pub opened_by : (g : GraphValue) (group : Group) (old taken new : WaysValue) → IsOneOf old.all group → taken.all ≡ take group.to old.all
    → taken.here.room ≡ old.here.room
    → IsSpread g (at taken.all group.from).numbers taken new
    → ((k : ℕ) → group.from ≤ k → k < length new.all → IsClosed g new.all group.from (at new.all k)) → IsOpened g group old new
opened_by g group old taken new mine is room spread closed = record {
  kept = λ k s less there. spread.kept k s (first_ones k s less there);
  many =
      let count = ap length is in
      let size = length-take-le group.to old.all mine.within in
      let most = spread.many in
      omega (arith, count, size, most);
  room = spread.room ∙ room;
  reached = spread.reached;
  prints = λ k s from there. prints_all g group.from (at taken.all group.from).numbers taken new printed spread k s from there
      ∙ ap (λ (s : Standing). s.numbers) begins;
  closed = closed;
}
  where
    first_ones : (k : ℕ) (s : Standing) → k < group.to → slice_get old.all k ≡ Some s → slice_get taken.all k ≡ Some s
    first_ones k s less there = ap (λ (l : List Standing). slice_get l k) is ∙ in_take group.to old.all k s less there

    begins : at taken.all group.from ≡ at old.all group.from
    begins =
        let some = mine.some in
        let within = mine.within in
        at_kept old.all taken.all group.from (omega (arith, some, within)) (λ s. first_ones group.from s some)

    printed : PrintsFrom group.from (at taken.all group.from).numbers taken.all
    printed k s from there =
        let was = from_take group.to old.all k s (ap (λ (l : List Standing). slice_get l k) (sym is) ∙ there) in
        mine.prints k s from was.0 was.1 ∙ sym (ap (λ (s : Standing). s.numbers) begins)

-- a step
pub stepped : (g : GraphValue) (w now same w2 : WaysValue) (under mid over : List Group) (group : Group) (list kept more : List Reading)
    (branches : List Branch) (limit : ℕ) (going : Bool)
    → AreTrim g → IsWalk g w (under ++ group ∷ []) list → IsOpened g group w now → kept ≡ list
    → IsListedFrom g now.all group.from limit kept more going → going ≡ true
    → same ≡ now → mid ≡ under → AreBranches g same.all group.from branches → AreRisingBranches branches
    → IsGrouped branches same w2 mid over
    → IsWalk g w2 over more × IsNearer limit w.all group list w2.all over more
stepped g w now same w2 under mid over group list kept more branches limit going trim walk opened was listed goes is stays_under are
    rises grouped =
    let opened' = subst (IsOpened g group w) (sym is) opened in
    let there = subst (λ (z : WaysValue). IsListedFrom g z.all group.from limit kept more going) (sym is) listed in
    let going_on = subst (λ (b : Bool). IsListedFrom g same.all group.from limit kept more b) goes there in
    let listed' : ((NoneEnds g same.all group.from) × (more ≡ list))
    ⊎ ((length list < limit) × IsEndListed g same.all group.from list more) =
    subst (λ (l : List Reading). ((NoneEnds g same.all group.from) × (more ≡ l))
    ⊎ ((length l < limit) × IsEndListed g same.all group.from l more)) was going_on in
    let grouped' = subst (λ (l : List Group). IsGrouped branches same w2 l over) stays_under grouped in (
      walk_after g w same w2 under over group list more branches limit trim walk opened' listed' are rises grouped',
      nearer_after g w same w2 under over group list more branches limit trim walk opened' listed' are rises grouped',
    )

-- ---- the walk begins

pub begun : (g : GraphValue) (w : WaysValue) (groups : List Group) (list : List Reading) → w.all ≡ start ∷ []
    → w.here.room ≡ length g.ends → groups ≡ record { from = 0; to = 1 } ∷ []
    → list ≡ [] → IsReadable g 0 → IsWalk g w groups list
begun g w groups list one room first none readable = record {
  room = room;
  reached = λ k s there. reached k s (ap (λ (l : List Standing). slice_get l k) (sym one) ∙ there);
  each = λ i a there. each i a (ap (λ (l : List Group). slice_get l i) (sym first) ∙ there);
  stacked = record {
    in_order = λ i j a b less x y. ordered i j a b (ap (λ (l : List Group). slice_get l i) (sym first)
        ∙ x) (ap (λ (l : List Group). slice_get l j) (sym first) ∙ y);
    within = λ i a there. (each i a (ap (λ (l : List Group). slice_get l i) (sym first) ∙ there)).within;
  };
  shown = λ i r there. absurd (nothing i r there);
  rising = λ i j r s less x y. absurd (nothing i r x);
  before = λ i a there k r at_k. absurd (nothing k r at_k);
  falling = λ i j a b less x y. absurd (one_alone i j a b less
      (ap (λ (l : List Group). slice_get l i) (sym first) ∙ x) (ap (λ (l : List Group). slice_get l j) (sym first) ∙ y));
  all = λ n acts numbers r.
      inr (
        0,
        record { from = 0; to = 1 },
        ap (λ (l : List Group). slice_get l 0) first,
        (0, start, omega arith, omega arith, ap (λ (l : List Standing). slice_get l 0) one, n, acts, numbers, r, refl),
      );
}
  where
    whole : Group
    whole = record { from = 0; to = 1 }

    reached : (k : ℕ) (s : Standing) → slice_get (start ∷ []) k ≡ Some s → IsReached g s
    reached zero s there = subst (IsReached g) (same_Some start s there) (record { leads = λ n rest more r. (n, r); readable = readable })
    reached (suc k) s there = absurd (none-some s there)

    is_whole : (i : ℕ) (a : Group) → slice_get (whole ∷ []) i ≡ Some a → whole ≡ a
    is_whole zero a there = same_Some whole a there
    is_whole (suc i) a there = absurd (none-some a there)

    nothing : (i : ℕ) (r : Reading) → slice_get list i ≡ Some r → ⊥
    nothing i r there = none-some r (ap (λ (l : List Reading). slice_get l i) (sym none) ∙ there)

    one_alone : (i j : ℕ) (a b : Group) → i < j → slice_get (whole ∷ []) i ≡ Some a → slice_get (whole ∷ []) j ≡ Some b → ⊥
    one_alone i zero a b less x y = omega (arith, less)
    one_alone i (suc j) a b less x y = none-some b y

    one_way : IsOneOf w.all whole
    one_way = record {
      some = omega arith;
      within = (let count = ap length one in omega (arith, count));
      prints = λ k s from less there.
          let zero_is : k ≡ 0 = omega (arith, less) in
          ap (λ (t : Standing). t.numbers) (sym (get_or_from_slice_get w.all k s start there)) ∙ ap (λ m. (at w.all m).numbers) zero_is;
    }

    each : (i : ℕ) (a : Group) → slice_get (whole ∷ []) i ≡ Some a → IsOneOf w.all a
    each i a there = subst (IsOneOf w.all) (is_whole i a there) one_way

    ordered : (i j : ℕ) (a b : Group) → slice_get (whole ∷ []) i ≡ Some a → slice_get (whole ∷ []) j ≡ Some b → a.to ≤ b.to
    ordered i j a b x y = (let same = ap (λ (c : Group). c.to) (sym (is_whole i a x) ∙ is_whole j b y) in omega (arith, same))
