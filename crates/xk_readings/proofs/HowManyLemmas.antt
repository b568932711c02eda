-- What stands along paths between sets of nodes is what can be read.
use Rattle.std.proofs.Common.{◌≡◌, ◌∙◌, ℕ, ℤ, zero, suc, ◌+◌, ◌<◌, ◌≤◌, ◌⊎◌, inl, inr, Bool, true, false, List, [], ◌∷◌, ◌++◌}
use Rattle.std.proofs.Common.{length, get_or, Option, Some, None, refl, sym, ap, subst, append_assoc, arith, slice_get}
use Rattle.std.specs.Option.{option_to_list}
use Rattle.std.proofs.lemmas.Bool.{cases_lt}
use Rattle.std.proofs.lemmas.List.{append-nil}
use Rattle.std.proofs.lemmas.Option.{get_or_from_slice_get, same_Some, slice_get_within}
use Rattle.xk_readings.specs.declared.edge.Edge.{Edge}
use Rattle.xk_readings.specs.Graphs.{GraphValue}
use Rattle.xk_readings.specs.NodeSets.{HasNode}
use Rattle.xk_readings.specs.Readings.{IsLongest, Reads}
use Rattle.xk_readings.specs.Sets.{Has}
use Rattle.xk_readings.specs.Counts.{AreAsMany, AreAtLeast, AreReadOnce, most_counted}
use Rattle.xk_readings.specs.Automata.{AreEnds, AreMoves, AreStates, HasEndNode, IsReadFrom, IsShut}
use Rattle.xk_readings.specs.Paths.{AreBetween, Path, counted, lists_below, longer, over_of, paths_of}
use Rattle.xk_types.proofs.ListLemmas.{get_once as same_at}
use Rattle.xk_readings.proofs.SetLemmas.{has_place}
use Rattle.xk_readings.proofs.PathLemmas.{AreLoud, all_of, below_of, different_lists, has_all, has_below, has_over, over_path}
use Rattle.xk_readings.proofs.ReadingLemmas.{reads_length}

-- where nothing is left to read, a node ends a reading
end_of : (g : GraphValue) (s : List ℕ) → IsShut g s → (n k : ℕ) (acts : List ℕ) (numbers : List ℤ) → HasNode s k → Reads g n k acts numbers
    → numbers ≡ [] → HasEndNode g s
end_of g s shut zero k acts numbers has r none = (k, has, r.0)
end_of g s shut (suc n) k acts numbers has r none = by (end_of g s shut n) r.0.printed refl r.7
  where
    never : (x : ℤ) (xs : List ℤ) → x ∷ xs ≡ [] → ⊥
    never x xs h = (let count = ap length h in omega (arith, count))

    by : ((k : ℕ) (acts : List ℕ) (numbers : List ℤ) → HasNode s k → Reads g n k acts numbers → numbers ≡ [] → HasEndNode g s)
        → (o : Option ℤ) → r.0.printed ≡ o → numbers ≡ option_to_list o ++ r.4 → HasEndNode g s
    by next None prints whole =
        next r.0.to r.3 r.4 (shut r.0 r.1 prints (subst (HasNode s) (sym r.2) has)) r.5 (sym whole ∙ none)
    by next (Some x) prints whole = absurd (never x r.4 (sym whole ∙ none))

module _ (g : GraphValue) (states : List (List ℕ)) (moves : List Edge) (place : ℕ) (ends : List Bool) (are : AreStates g states)
    (moved : AreMoves g states moves place) (over : AreEnds g states ends) where
  abbrev s0 : List ℕ
  s0 = are.first.0

  loud : AreLoud moves
  loud e h = (let is = moved.each e h in (is.number, is.prints))

  pub between : AreBetween moves (length ends)
  between j e there =
      let is = moved.each e (has_place moves j e there) in
      let from = slice_get_within states e.from is.source is.out in
      let to = slice_get_within states e.to is.target is.into in
      let many = over.many in
      (omega (arith, from, many), omega (arith, to, many))

  -- what goes on where a path ends is read from the first set behind the numbers of the path
  abbrev IsPathOf : Path → Type 0
  IsPathOf p = (s : List ℕ) × (slice_get states p.node ≡ Some s) × ((more : List ℤ) → IsReadFrom g s more → IsReadFrom g s0 (p.numbers ++ more))

  path_read : (n : ℕ) (p : Path) → Has (paths_of moves n) p → IsPathOf p
  path_read zero p (inl is) = subst IsPathOf (sym is) (s0, are.first.1, λ more r. r)
  path_read zero p (inr none) = absurd none
  path_read (suc n) p h =
      let a = all_of moves (paths_of moves n) p h in
      let e = a.0 in
      let l = a.2 in
      let is = moved.each e a.1 in
      let before = path_read n l.0 l.1 in
      let same : before.0 ≡ is.source = same_at states e.from before.0 is.source (ap (slice_get states) (sym l.2) ∙ before.1) is.out in
      subst IsPathOf (sym l.3) (
        is.target,
        is.into,
        λ more r.
            subst (IsReadFrom g s0)
            (sym (append_assoc l.0.numbers (is.number ∷ []) more)
            ∙ ap (λ (o : Option ℤ). (l.0.numbers ++ option_to_list o) ++ more) (sym is.prints))
            (before.2 (is.number ∷ more) (subst (λ (z : List ℕ). IsReadFrom g z (is.number ∷ more)) (sym same) (is.move.forth more r))),
      )

  -- a set is over where one of its nodes may end a reading
  is_end : (i : ℕ) (s : List ℕ) → slice_get states i ≡ Some s → HasEndNode g s → get_or ends i false ≡ true
  is_end i s there h =
      let o = over.each i s there in
      get_or_from_slice_get ends i o.0 false o.1 ∙ o.2.1 h

  has_end : (i : ℕ) (s : List ℕ) → slice_get states i ≡ Some s → get_or ends i false ≡ true → HasEndNode g s
  has_end i s there is =
      let o = over.each i s there in
      o.2.0 (sym (get_or_from_slice_get ends i o.0 false o.1) ∙ is)

  -- what stands along paths is read
  read_along : (n : ℕ) (numbers : List ℤ) → Has (lists_below moves ends n) numbers → (k : ℕ) × (acts : List ℕ) × Reads g k 0 acts numbers
  read_along n numbers h =
      let b = below_of moves ends n numbers h in
      let p = over_path ends (paths_of moves b.0) numbers b.2 in
      let is = path_read b.0 p.0 p.1 in
      let e = has_end p.0.node is.0 is.1 p.2 in
      let r = is.2 [] (e.0, e.1, 0, [], (e.2, refl, refl)) in
      let whole = subst (IsReadFrom g s0) (append-nil p.0.numbers ∙ p.3) r in
      at_first (are.first.2 numbers whole)
    where
      at_first : IsReadFrom g (0 ∷ []) numbers → (k : ℕ) × (acts : List ℕ) × Reads g k 0 acts numbers
      at_first (k, (zero, is), n, acts, r) = (n, acts, subst (λ m. Reads g n m acts numbers) (sym (same_Some 0 k is)) r)
      at_first (k, (suc i, is), n, acts, r) = absurd (never k is)
        where
          never : (k : ℕ) → None ≡ Some k → ⊥
          never k h = cc

  read_once : (n : ℕ) → AreReadOnce g (lists_below moves ends n)
  read_once n = record {
    read = λ numbers h. read_along n numbers h;
    once = different_lists moves ends n loud moved.forked;
  }

  -- and what is read stands along paths, where all moves are there
  along_of : length states ≤ place → (numbers : List ℤ) (n : ℕ) (p : Path) (s : List ℕ) → Has (paths_of moves n) p
      → slice_get states p.node ≡ Some s → IsReadFrom g s numbers
      → Has (over_of ends (paths_of moves (length numbers + n))) (p.numbers ++ numbers)
  along_of whole [] n p s h there r =
      let e = end_of g s (are.nodes p.node s there).1 r.2 r.0 r.3 [] r.1 r.4 refl in
      let same : n ≡ 0 + n = omega arith in
      subst (λ m. Has (over_of ends (paths_of moves m)) (p.numbers ++ [])) same
      (subst (Has (over_of ends (paths_of moves n))) (sym (append-nil p.numbers))
      (has_over ends (paths_of moves n) p h (is_end p.node s there e)))
  along_of whole (x ∷ numbers) n p s h there r =
      let inside = slice_get_within states p.node s there in
      let m = moved.there p.node s x numbers (omega (arith, inside, whole)) there r in
      let rest = along_of whole numbers (suc n) (longer m.0 p) m.1 (has_all moves (paths_of moves n) m.0 p m.2 h (sym m.3)) m.5 m.6 in
      let same : length numbers + suc n ≡ length (x ∷ numbers) + n = omega arith in
      subst (λ k. Has (over_of ends (paths_of moves k)) (p.numbers ++ x ∷ numbers)) same
      (subst (Has (over_of ends (paths_of moves (length numbers + suc n))))
      (ap (λ (o : Option ℤ). (p.numbers ++ option_to_list o) ++ numbers) m.4 ∙ append_assoc p.numbers (x ∷ []) numbers) rest)

  all_along : length states ≤ place → (longest : ℕ) → IsLongest g longest → (n : ℕ) (acts : List ℕ) (numbers : List ℤ)
      → Reads g n 0 acts numbers
      → Has (lists_below moves ends (longest + 1)) numbers
  all_along whole longest most n acts numbers r =
      let few = most n acts numbers r in
      let short = reads_length g n 0 acts numbers r in
      has_below moves ends (longest + 1) (length numbers + 0) numbers (omega (arith, few, short))
      (along_of whole numbers 0 (record { node = 0; numbers = [] }) s0 (inl refl) are.first.1 (0, are.first.3, n, acts, r))

  pub at_least : (count n : ℕ) → count ≡ counted (length (lists_below moves ends n)) → AreAtLeast g count
  at_least count n is = record {
    lists = lists_below moves ends n;
    read = read_once n;
    many = omega (arith, is);
  }

  pub as_many : (count longest : ℕ) → count ≡ counted (length (lists_below moves ends (longest + 1))) → count < most_counted
      → length states ≤ place → IsLongest g longest → AreAsMany g count
  as_many count longest is less whole most = record {
    lists = lists_below moves ends (longest + 1);
    read = read_once (longest + 1);
    all = all_along whole longest most;
    many = omega (arith, is, less);
  }

-- what isn't less than the most that is counted is that
pub most_is : (n count : ℕ) → count ≡ counted n → (count < most_counted → ⊥) → count ≡ most_counted
most_is n count is least = by (cases_lt count most_counted)
  where
    by : (count < most_counted) ⊎ (most_counted ≤ count) → count ≡ most_counted
    by (inl less) = absurd (least less)
    by (inr most) = omega (arith, is, most)
