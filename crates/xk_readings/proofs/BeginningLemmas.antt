-- On which nodes one may stand behind some numbers.
use Rattle.std.proofs.Common.{◌≡◌, ◌∙◌, ℕ, ℤ, zero, suc, ◌+◌, ◌<◌, ◌≤◌, ◌⊎◌, inl, inr, Bool, false, List, [], ◌∷◌, ◌++◌}
use Rattle.std.proofs.Common.{eqb, get_or, length, Option, Some, None, refl, sym, ap, subst, arith, slice_get}
use Rattle.std.specs.Option.{option_to_list}
use Rattle.std.specs.List.Sorted.{IsStrictlyIncreasing}
use Rattle.std.proofs.lemmas.Bool.{cases_lt}
use Rattle.std.proofs.lemmas.List.{append-nil, length_push}
use Rattle.std.proofs.lemmas.List.Kept.{AllPairs-from_increasing}
use Rattle.std.proofs.lemmas.Option.{none-some, same_Some, slice_get_within, get_or_from_slice_get}
use Rattle.xk_readings.specs.declared.edge.Edge.{Edge}
use Rattle.xk_readings.specs.Graphs.{GraphValue, HasEdge}
use Rattle.xk_readings.specs.NodeSets.{AreSameNodes, HasNode, KeepsNodes}
use Rattle.xk_readings.specs.Useful.{IsReadable}
use Rattle.xk_readings.specs.Closures.{AreTrim}
use Rattle.xk_readings.specs.Automata.{AreStates, HasTargets, IsShut, IsTarget}
use Rattle.xk_readings.specs.Beginnings.{AreBehind, AreOnce, AreReadTo, HasMoreSets, IsBehind, IsPrintedFrom, IsReadTo, LeadAlike, ReadsTo}
use Rattle.xk_readings.proofs.MoveLemmas.{each_grown, kept_has, shut_same}
use Rattle.xk_readings.proofs.PathLemmas.{push_same}

-- ---- an edge more

-- where an edge leads that prints nothing, the same numbers lead
pub silent_read_to : (g : GraphValue) (node : ℕ) (old new : List ℕ) → HasNode old node
    → ((k : ℕ) → HasNode new k → HasNode old k ⊎ IsTarget g node None k) → (numbers : List ℤ) → AreReadTo g numbers old
    → AreReadTo g numbers new
silent_read_to g node old new has each numbers are k h = by (each k h)
  where
    by : HasNode old k ⊎ IsTarget g node None k → IsReadTo g numbers k
    by (inl was) = are k was
    by (inr (e, is, from, prints, to)) =
        let r = are node has in (
          suc r.0,
          (
            e,
            is,
            to,
            numbers,
            subst (ReadsTo g r.0 numbers) (sym from) r.1,
            sym (append-nil numbers) ∙ ap (λ (o : Option ℤ). numbers ++ option_to_list o) (sym prints),
          ),
        )

no_push : (xs : List ℤ) (x : ℤ) → xs ++ x ∷ [] ≡ [] → ⊥
no_push xs x h = (let count = ap length h in let more = length_push xs x in omega (arith, count, more))

-- the nodes behind some numbers and one more
module _ (g : GraphValue) (nodes start shut list : List ℕ) (x : ℤ) (there : (k : ℕ) → HasNode nodes k → HasTargets g k (Some x) start)
    (each : (k : ℕ) → HasNode start k → (from : ℕ) × HasNode nodes from × IsTarget g from (Some x) k) (keeps : KeepsNodes start shut)
    (is_shut : IsShut g shut) (same : AreSameNodes shut list) where
  in_list : (k : ℕ) → HasNode start k → HasNode list k
  in_list k h = same.there k (kept_has start shut k keeps h)

  -- an edge that prints the number leads there
  started : (numbers : List ℤ) → AreReadTo g numbers nodes → AreReadTo g (numbers ++ x ∷ []) start
  started numbers are k h =
      let from = each k h in
      let e = from.2 in
      let r = are from.0 from.1 in (
        suc r.0,
        (
          e.0,
          e.1,
          e.4,
          numbers,
          subst (ReadsTo g r.0 numbers) (sym e.2) r.1,
          ap (λ (o : Option ℤ). numbers ++ option_to_list o) (sym e.3),
        ),
      )

  module _ (numbers : List ℤ) (are : (k : ℕ) → IsReadTo g numbers k → HasNode nodes k) where
    by_edge : (n k : ℕ) (all before : List ℤ) (e : Edge)
        → ((k : ℕ) (all : List ℤ) → ReadsTo g n all k → all ≡ numbers ++ x ∷ [] → HasNode list k)
        → HasEdge g e → e.to ≡ k → ReadsTo g n before e.from → (o : Option ℤ) → e.printed ≡ o → all ≡ before ++ option_to_list o
        → all ≡ numbers ++ x ∷ [] → HasNode list k
    by_edge n k all before e next is to r None prints whole last =
        subst (HasNode list) to
        (shut_same g shut list same is_shut e is prints (next e.from before r (sym (append-nil before) ∙ sym whole ∙ last)))
    by_edge n k all before e next is to r (Some y) prints whole last =
        let two = push_same before numbers y x (sym whole ∙ last) in
        let from = are e.from (n, subst (λ (l : List ℤ). ReadsTo g n l e.from) two.0 r) in
        subst (HasNode list) to (in_list e.to (there e.from from e is refl (prints ∙ ap Some two.1)))

    reached : (n k : ℕ) (all : List ℤ) → ReadsTo g n all k → all ≡ numbers ++ x ∷ [] → HasNode list k
    reached zero k all r last = absurd (no_push numbers x (sym last ∙ r.1))
    reached (suc n) k all r last =
        by_edge n k all r.3 r.0 (reached n) r.1 r.2 r.4 r.0.printed refl r.5 last

  pub behind_move : ((numbers : List ℤ) → AreReadTo g numbers start → AreReadTo g numbers shut) → IsStrictlyIncreasing list
      → IsPrintedFrom g nodes x → (numbers : List ℤ) → AreBehind g numbers nodes → AreBehind g (numbers ++ x ∷ []) list
  behind_move read_to rising printed numbers are = record {
    some = (printed.0.to, in_list printed.0.to (there printed.0.from printed.2 printed.0 printed.1 refl printed.3));
    each = λ k h. read_to (numbers ++ x ∷ []) (started numbers are.each) k (same.back k h);
    all = λ k r. reached numbers are.all r.0 k (numbers ++ x ∷ []) r.1 refl;
    rising = rising;
  }

-- the nodes behind no number
module _ (g : GraphValue) (none one shut list : List ℕ) (empty : none ≡ [])
    (grows : (one ≡ none) ⊎ (one ≡ none ++ 0 ∷ [])) (zero_is : HasNode one 0)
    (keeps : KeepsNodes one shut) (is_shut : IsShut g shut) (same : AreSameNodes shut list) where
  first_alone : AreReadTo g [] one
  first_alone k h = by (each_grown none one 0 k grows h)
    where
      by : HasNode none k ⊎ (0 ≡ k) → IsReadTo g [] k
      by (inl was) = absurd (none-some k (ap (λ (l : List ℕ). slice_get l was.0) (sym empty) ∙ was.1))
      by (inr is) = (0, (sym is, refl))

  first_node : HasNode list 0
  first_node = same.there 0 (kept_has one shut 0 keeps zero_is)

  first_edge : (n k : ℕ) (all before : List ℤ) (e : Edge) → ((k : ℕ) (all : List ℤ) → ReadsTo g n all k → all ≡ [] → HasNode list k)
      → HasEdge g e → e.to ≡ k → ReadsTo g n before e.from → (o : Option ℤ) → e.printed ≡ o → all ≡ before ++ option_to_list o → all ≡ []
      → HasNode list k
  first_edge n k all before e next is to r None prints whole last =
      subst (HasNode list) to
      (shut_same g shut list same is_shut e is prints (next e.from before r (sym (append-nil before) ∙ sym whole ∙ last)))
  first_edge n k all before e next is to r (Some y) prints whole last = absurd (no_push before y (sym whole ∙ last))

  first_reached : (n k : ℕ) (all : List ℤ) → ReadsTo g n all k → all ≡ [] → HasNode list k
  first_reached zero k all r last = subst (HasNode list) (sym r.0) first_node
  first_reached (suc n) k all r last = first_edge n k all r.3 r.0 (first_reached n) r.1 r.2 r.4 r.0.printed refl r.5 last

  pub behind_first : ((numbers : List ℤ) → AreReadTo g numbers one → AreReadTo g numbers shut) → IsStrictlyIncreasing list
      → AreBehind g [] list
  behind_first read_to rising = record {
    some = (0, first_node);
    each = λ k h. read_to [] first_alone k (same.back k h);
    all = λ k r. first_reached r.0 k [] r.1 refl;
    rising = rising;
  }

-- ---- lists that rise

-- each is less than those behind it
abbrev IsRising : List ℕ → Type 0
IsRising [] = Unit {0}
IsRising (x ∷ xs) = ((k : ℕ) → HasNode xs k → x < k) × IsRising xs

rising_tail : (x : ℕ) (xs : List ℕ) → IsStrictlyIncreasing (x ∷ xs) → IsStrictlyIncreasing xs
rising_tail x xs are k less =
    let same : suc k + 1 ≡ suc (k + 1) = omega arith in
    subst (λ n. get_or xs k 0 < get_or (x ∷ xs) n 0) same (are (suc k) (omega (arith, less)))

rises : (xs : List ℕ) → IsStrictlyIncreasing xs → IsRising xs
rises [] are = tt
rises (x ∷ xs) are = (first, rises xs (rising_tail x xs are))
  where
    first : (k : ℕ) → HasNode xs k → x < k
    first k h =
        let inside = slice_get_within xs h.0 k h.1 in
        let less = AllPairs-from_increasing (x ∷ xs) are 0 (suc h.0) 0 (omega arith) (omega (arith, inside)) in
        subst (λ n. x < n) (get_or_from_slice_get xs h.0 k 0 h.1) less

-- what is among a list stands first, or behind that
split_node : (x : ℕ) (xs : List ℕ) (k : ℕ) → HasNode (x ∷ xs) k → (x ≡ k) ⊎ HasNode xs k
split_node x xs k (zero, h) = inl (same_Some x k h)
split_node x xs k (suc i, h) = inr (i, h)

-- two that rise are the same where the same nodes are among them
rising_same : (xs ys : List ℕ) → IsRising xs → IsRising ys → AreSameNodes xs ys → xs ≡ ys
rising_same [] [] a b same = refl
rising_same [] (y ∷ ys) a b same = (let h = same.back y (0, refl) in absurd (none-some y h.1))
rising_same (x ∷ xs) [] a b same = (let h = same.there x (0, refl) in absurd (none-some x h.1))
rising_same (x ∷ xs) (y ∷ ys) a b same =
    by (rising_same xs ys a.1 b.1) (split_node y ys x (same.there x (0, refl))) (split_node x xs y (same.back y (0, refl)))
  where
    rest : x ≡ y → AreSameNodes xs ys
    rest is = record {
      there = λ k h. there k h (split_node y ys k (same.there k (suc h.0, h.1)));
      back = λ k h. back k h (split_node x xs k (same.back k (suc h.0, h.1)));
    }
      where
        there : (k : ℕ) → HasNode xs k → (y ≡ k) ⊎ HasNode ys k → HasNode ys k
        there k h (inl first) = (let less = a.0 k h in absurd (omega (arith, less, is, first)))
        there k h (inr later) = later

        back : (k : ℕ) → HasNode ys k → (x ≡ k) ⊎ HasNode xs k → HasNode xs k
        back k h (inl first) = (let less = b.0 k h in absurd (omega (arith, less, is, first)))
        back k h (inr later) = later

    both : (AreSameNodes xs ys → xs ≡ ys) → x ≡ y → x ∷ xs ≡ y ∷ ys
    both tails is = ap (λ k. k ∷ xs) is ∙ ap (λ (l : List ℕ). y ∷ l) (tails (rest is))

    by : (AreSameNodes xs ys → xs ≡ ys) → (y ≡ x) ⊎ HasNode ys x → (x ≡ y) ⊎ HasNode xs y → x ∷ xs ≡ y ∷ ys
    by tails (inl is) other = both tails (sym is)
    by tails (inr later) (inl is) = both tails is
    by tails (inr later) (inr later') = (let less = b.0 x later in let less' = a.0 y later' in absurd (omega (arith, less, less')))

-- ---- more sets than a limit says

-- one of each
choices : {X Y : Type 0} (P : X → Y → Type 0) (xs : List X) → ((i : ℕ) (x : X) → slice_get xs i ≡ Some x → (y : Y) × P x y)
    → (ys : List Y) × (length ys ≡ length xs) × ((i : ℕ) (y : Y) → slice_get ys i ≡ Some y → (x : X) × (slice_get xs i ≡ Some x) × P x y)
choices P [] each = ([], refl, λ i y h. absurd (none-some y h))
choices {X} {Y} P (x ∷ xs) each =
    let first = each 0 x refl in
    let rest = choices P xs (λ i. each (suc i)) in
    (first.0 ∷ rest.0, ap suc rest.1, at first.0 first.1 rest.0 rest.2)
  where
    at : (y : Y) → P x y → (ys : List Y) → ((i : ℕ) (y : Y) → slice_get ys i ≡ Some y → (x : X) × (slice_get xs i ≡ Some x) × P x y)
        → (i : ℕ) (z : Y) → slice_get (y ∷ ys) i ≡ Some z
        → (w : X) × (slice_get (x ∷ xs) i ≡ Some w) × P w z
    at y is ys are zero z h = (x, refl, subst (P x) (same_Some y z h) is)
    at y is ys are (suc i) z h = are i z h

-- a reading goes out from each node to which edges lead
readable_behind : (g : GraphValue) → AreTrim g → IsReadable g 0 → (n k : ℕ) (numbers : List ℤ) → ReadsTo g n numbers k → IsReadable g k
readable_behind g trim first zero k numbers r = subst (IsReadable g) (sym r.0) first
readable_behind g trim first (suc n) k numbers r = subst (IsReadable g) r.2 (trim r.0 r.1)

pub more_sets : (g : GraphValue) (states : List (List ℕ)) (limit : ℕ) → AreTrim g → IsReadable g 0 → AreStates g states → AreOnce states
    → limit < length states
    → HasMoreSets g limit
more_sets g states limit trim first are once more =
    let chosen = choices (λ s numbers. AreBehind g numbers s) states are.behind in
    record {
      beginnings = chosen.0;
      some = λ i xs h.
          let s = (chosen.2 i xs h).2 in
          let r = s.each s.some.0 s.some.1 in
          (s.some.0, (r, readable_behind g trim first r.0 s.some.0 xs r.1));
      apart = λ i j xs ys hi hj alike.
          let s = chosen.2 i xs hi in
          let t = chosen.2 j ys hj in
          let same = nodes_same xs ys s.0 t.0 s.2 t.2 alike in
          once i j s.0 s.1 (t.1 ∙ ap Some (sym same));
      more = subst (λ n. limit < n) (sym chosen.1) more;
    }
  where
    nodes_same : (xs ys : List ℤ) (s t : List ℕ) → AreBehind g xs s → AreBehind g ys t → LeadAlike g xs ys → s ≡ t
    nodes_same xs ys s t a b alike = rising_same s t (rises s a.rising) (rises t b.rising) (record {
      there = λ k h.
          let r = a.each k h in
          b.all k ((alike k).0 (r, readable_behind g trim first r.0 k xs r.1)).0;
      back = λ k h.
          let r = b.each k h in
          a.all k ((alike k).1 (r, readable_behind g trim first r.0 k ys r.1)).0;
    })
