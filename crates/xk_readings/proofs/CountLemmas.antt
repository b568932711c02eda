-- How many paths there are.
use Rattle.std.proofs.Common.{◌≡◌, ◌∙◌, ℕ, ℤ, zero, suc, ◌+◌, ◌-◌, ◌<◌, ◌≤◌, ◌⊎◌, inl, inr, Bool, true, false, cond, eqb, ltb, ◌&&◌}
use Rattle.std.proofs.Common.{eq-eqb, List, [], ◌∷◌, ◌++◌, length, get_or, set, map, filter, Some, refl, sym, ap, subst, arith, slice_get}
use Rattle.std.proofs.lemmas.Bool.{cases_lt, true≢false}
use Rattle.std.proofs.lemmas.Bool.Decides.{eqb_tells, nat_tests}
use Rattle.std.proofs.lemmas.List.{append-nil, append_assoc, get_or_past, length-append, length-set}
use Rattle.std.proofs.lemmas.Option.{get_or_from_slice_get}
use Rattle.xk_readings.specs.declared.edge.Edge.{Edge}
use Rattle.xk_readings.specs.Paths.{AreBetween, AreWaysOf, Path, all_extended, counted, extended, is_over, lists_below, longer}
use Rattle.xk_readings.specs.Paths.{over_of, paths_of, ways_to}
use Rattle.xk_readings.specs.Sets.{Has}
use Rattle.xk_readings.proofs.ListLemmas.{set_other, set_same}
use Rattle.xk_readings.proofs.SetLemmas.{has_append}

-- ---- sums

pub counted_sum : (a b : ℕ) → counted (counted a + counted b) ≡ counted (a + b)
counted_sum a b = omega arith

-- ---- more paths

ways_append : (k : ℕ) (ps qs : List Path) → ways_to k (ps ++ qs) ≡ ways_to k ps + ways_to k qs
ways_append k [] qs = omega arith
ways_append k (p ∷ ps) qs = (let rest = ways_append k ps qs in omega (arith, rest))

-- those that end where the move begins are as many with it, and end where it does
one_longer : (b : Bool) (x w : ℕ) → x ≡ cond b w 0 → cond b 1 0 + x ≡ cond b (1 + w) 0
one_longer true x w same = omega (arith, same)
one_longer false x w same = omega (arith, same)

none_longer : (b : Bool) (x w : ℕ) → x ≡ cond b w 0 → x ≡ cond b (0 + w) 0
none_longer true x w same = omega (arith, same)
none_longer false x w same = same

no_ways : (b : Bool) → zero ≡ cond b zero zero
no_ways true = refl
no_ways false = refl

ways_extended : (k : ℕ) (e : Edge) (ps : List Path) → ways_to k (extended e ps) ≡ cond (eqb e.to k) (ways_to e.from ps) 0
ways_extended k e [] = no_ways (eqb e.to k)
ways_extended k e (p ∷ ps) = by (eqb p.node e.from) (ways_extended k e ps)
  where
    by : (a : Bool) → ways_to k (extended e ps) ≡ cond (eqb e.to k) (ways_to e.from ps) 0
        → ways_to k (cond a (longer e p ∷ extended e ps) (extended e ps)) ≡ cond (eqb e.to k) (cond a 1 0 + ways_to e.from ps) 0
    by true rest = one_longer (eqb e.to k) (ways_to k (extended e ps)) (ways_to e.from ps) rest
    by false rest = none_longer (eqb e.to k) (ways_to k (extended e ps)) (ways_to e.from ps) rest

pub extended_more : (moves : List Edge) (e : Edge) (ps : List Path)
    → all_extended (moves ++ e ∷ []) ps ≡ all_extended moves ps ++ extended e ps
extended_more [] e ps = append-nil (extended e ps)
extended_more (f ∷ moves) e ps =
    ap (λ (l : List Path). extended f ps ++ l) (extended_more moves e ps)
    ∙ sym (append_assoc (extended f ps) (all_extended moves ps) (extended e ps))

-- a move more is gone
module _ (old paths : List Path) (e : Edge) (now next : List ℕ) (v : ℕ) (was : AreWaysOf old next) (are : AreWaysOf paths now)
    (many : length next ≡ length now) (from : e.from < length now) (to : e.to < length now)
    (is : v ≡ counted (get_or next e.to 0 + get_or now e.from 0)) where
  there_now : (k : ℕ) → k < length next → get_or next k 0 ≡ counted (ways_to k old)
  there_now k less = get_or_from_slice_get next k (counted (ways_to k old)) 0 (was.at k less)

  to_there : e.to < length next
  to_there = omega (arith, to, many)

  value : v ≡ counted (ways_to e.to (old ++ extended e paths))
  value =
      let before = there_now e.to to_there in
      let from_there = get_or_from_slice_get now e.from (counted (ways_to e.from paths)) 0 (are.at e.from from) in
      let whole = ways_append e.to old (extended e paths) in
      let new = ways_extended e.to e paths in
      let itself : eqb e.to e.to ≡ true = eq-eqb e.to e.to refl in
      let added : ways_to e.to (extended e paths) ≡ ways_to e.from paths = new ∙ ap (λ b. cond b (ways_to e.from paths) 0) itself in
      is ∙ ap (λ n. counted (n + get_or now e.from 0)) before ∙ ap (λ n. counted (counted (ways_to e.to old) + n)) from_there
      ∙ counted_sum (ways_to e.to old) (ways_to e.from paths)
      ∙ ap counted (sym (whole ∙ ap (λ n. ways_to e.to old + n) added))

  pub ways_more : AreWaysOf (old ++ extended e paths) (set next e.to v)
  ways_more = record { at = λ k less. at k (omega (arith, less, length-set next e.to v)) (eqb_tells e.to k) }
    where
      at : (k : ℕ) → k < length next → ((eqb e.to k ≡ true) × (e.to ≡ k)) ⊎ ((eqb e.to k ≡ false) × (e.to ≡ k → ⊥))
          → slice_get (set next e.to v) k ≡ Some (counted (ways_to k (old ++ extended e paths)))
      at k less (inl same) =
          subst (λ m. slice_get (set next e.to v) m ≡ Some (counted (ways_to m (old ++ extended e paths)))) same.1
          (set_same next e.to v (counted (ways_to e.to old)) (was.at e.to to_there) ∙ ap Some value)
      at k less (inr other) =
          let whole = ways_append k old (extended e paths) in
          let new = ways_extended k e paths ∙ ap (λ b. cond b (ways_to e.from paths) 0) other.0 in
          set_other next e.to k v other.1 ∙ was.at k less ∙ ap (λ n. Some (counted n)) (omega (arith, whole, new))

-- how many of them end before node n, where a reading may end
abbrev pub over_below : List Bool → ℕ → List Path → ℕ
over_below ends n [] = 0
over_below ends n (p ∷ paths) = cond (ltb p.node n && is_over ends p) 1 0 + over_below ends n paths

below_none : (m : ℕ) → ltb m 0 ≡ false
below_none m = grind (arith, nat_tests)

pub over_none : (ends : List Bool) (ps : List Path) → over_below ends 0 ps ≡ 0
over_none ends [] = refl
over_none ends (p ∷ ps) =
    let first : cond (ltb p.node 0 && is_over ends p) 1 0 ≡ zero = ap {B = ℕ} (λ b. cond (b && is_over ends p) 1 0) (below_none p.node) in
    let rest = over_none ends ps in
    omega (arith, first, rest)

below_more : (m n : ℕ) → ((ltb m (n + 1) ≡ ltb m n) × (eqb m n ≡ false))
    ⊎ ((m ≡ n) × (ltb m (n + 1) ≡ true) × (ltb m n ≡ false) × (eqb m n ≡ true))
below_more m n = by (eqb_tells m n)
  where
    by : ((eqb m n ≡ true) × (m ≡ n)) ⊎ ((eqb m n ≡ false) × (m ≡ n → ⊥)) → ((ltb m (n + 1) ≡ ltb m n) × (eqb m n ≡ false))
        ⊎ ((m ≡ n) × (ltb m (n + 1) ≡ true) × (ltb m n ≡ false) × (eqb m n ≡ true))
    by (inl same) = let is = same.1 in inr (is, grind (arith, nat_tests), grind (arith, nat_tests), same.0)
    by (inr other) = let differ = other.1 in inl (grind (arith, nat_tests), other.0)

-- with the paths that end at a node more
pub over_yes : (ends : List Bool) (n : ℕ) (ps : List Path) → get_or ends n false ≡ true
    → over_below ends (n + 1) ps ≡ over_below ends n ps + ways_to n ps
over_yes ends n [] over = refl
over_yes ends n (p ∷ ps) over = by (over_yes ends n ps over) (below_more p.node n)
  where
    by : over_below ends (n + 1) ps ≡ over_below ends n ps + ways_to n ps → ((ltb p.node (n + 1) ≡ ltb p.node n) × (eqb p.node n ≡ false))
        ⊎ ((p.node ≡ n) × (ltb p.node (n + 1) ≡ true) × (ltb p.node n ≡ false) × (eqb p.node n ≡ true))
        → cond (ltb p.node (n + 1) && is_over ends p) 1 0 + over_below ends (n + 1) ps
        ≡ (cond (ltb p.node n && is_over ends p) 1 0 + over_below ends n ps) + (cond (eqb p.node n) 1 0 + ways_to n ps)
    by rest (inl (same, other)) =
        let a = ap {B = ℕ} (λ b. cond (b && is_over ends p) 1 0) same in
        let b = ap {B = ℕ} (λ b. cond b 1 0) other in
        omega (arith, rest, a, b)
    by rest (inr (is, now, before, equal)) =
        let here : is_over ends p ≡ true = ap (λ m. get_or ends m false) is ∙ over in
        let a = ap {B = ℕ} (λ b. cond (b && is_over ends p) 1 0) now ∙ ap {B = ℕ} (λ b. cond b 1 0) here in
        let b = ap {B = ℕ} (λ b. cond (b && is_over ends p) 1 0) before in
        let c = ap {B = ℕ} (λ b. cond b 1 0) equal in
        omega (arith, rest, a, b, c)

pub over_no : (ends : List Bool) (n : ℕ) (ps : List Path) → get_or ends n false ≡ false → over_below ends (n + 1) ps ≡ over_below ends n ps
over_no ends n [] not_over = refl
over_no ends n (p ∷ ps) not_over = by (over_no ends n ps not_over) (below_more p.node n)
  where
    by : over_below ends (n + 1) ps ≡ over_below ends n ps → ((ltb p.node (n + 1) ≡ ltb p.node n) × (eqb p.node n ≡ false))
        ⊎ ((p.node ≡ n) × (ltb p.node (n + 1) ≡ true) × (ltb p.node n ≡ false) × (eqb p.node n ≡ true))
        → cond (ltb p.node (n + 1) && is_over ends p) 1 0 + over_below ends (n + 1) ps
        ≡ cond (ltb p.node n && is_over ends p) 1 0 + over_below ends n ps
    by rest (inl (same, other)) =
        let a = ap {B = ℕ} (λ b. cond (b && is_over ends p) 1 0) same in
        omega (arith, rest, a)
    by rest (inr (is, now, before, equal)) =
        let over : is_over ends p ≡ false = ap (λ m. get_or ends m false) is ∙ not_over in
        let a = ap {B = ℕ} (λ b. cond (b && is_over ends p) 1 0) now ∙ ap {B = ℕ} (λ b. cond b 1 0) over in
        let b = ap {B = ℕ} (λ b. cond (b && is_over ends p) 1 0) before in
        omega (arith, rest, a, b)

-- those that end before the end of the nodes are all
pub over_all : (ends : List Bool) (n : ℕ) (ps : List Path) → length ends ≤ n → over_below ends n ps ≡ length (over_of ends ps)
over_all ends n [] most = refl
over_all ends n (p ∷ ps) most = by (over_all ends n ps most) (cases_lt p.node n) (is_over ends p) refl
  where
    by : over_below ends n ps ≡ length (over_of ends ps) → (p.node < n) ⊎ (n ≤ p.node) → (b : Bool) → is_over ends p ≡ b
        → cond (ltb p.node n && b) 1 0 + over_below ends n ps ≡ length (map (λ (p : Path). p.numbers) (cond b (p ∷ filter (is_over ends) ps)
        (filter (is_over ends) ps)))
    by rest (inl less) true same =
        let a : ltb p.node n ≡ true = grind (arith, nat_tests) in
        let b = ap {B = ℕ} (λ b. cond (b && true) 1 0) a in
        omega (arith, rest, b)
    by rest (inl less) false same =
        let a : ltb p.node n ≡ true = grind (arith, nat_tests) in
        let b = ap {B = ℕ} (λ b. cond (b && false) 1 0) a in
        omega (arith, rest, b)
    by rest (inr least) true same =
        let past : get_or ends p.node false ≡ false = get_or_past ends p.node false (omega (arith, most, least)) in
        absurd (true≢false (sym same ∙ past))
    by rest (inr least) false same =
        let a : ltb p.node n ≡ false = grind (arith, nat_tests) in
        let b = ap {B = ℕ} (λ b. cond (b && false) 1 0) a in
        omega (arith, rest, b)

-- ---- where no path is left

-- a path with a move more ends where the move does
within_extended : (many : ℕ) (e : Edge) (ps : List Path) → e.to < many → (q : Path) → Has (extended e ps) q → q.node < many
within_extended many e [] to q h = absurd h
within_extended many e (p ∷ ps) to q h = by (within_extended many e ps to q) (eqb p.node e.from) h
  where
    by : (Has (extended e ps) q → q.node < many) → (b : Bool) → Has (cond b (longer e p ∷ extended e ps) (extended e ps)) q → q.node < many
    by rest true (inl same) = subst (λ (z : Path). z.node < many) (sym same) to
    by rest true (inr later) = rest later
    by rest false later = rest later

within_all : (many : ℕ) (moves : List Edge) (ps : List Path) → AreBetween moves many → (q : Path) → Has (all_extended moves ps) q → q.node < many
within_all many [] ps are q h = absurd h
within_all many (e ∷ moves) ps are q h = by (within_all many moves ps (λ j f there. are (suc j) f there) q) (has_append (extended e ps) (all_extended moves ps) q h)
  where
    by : (Has (all_extended moves ps) q → q.node < many) → Has (extended e ps) q ⊎ Has (all_extended moves ps) q → q.node < many
    by rest (inl a) = within_extended many e ps (are 0 e refl).1 q a
    by rest (inr b) = rest b

within_paths : (many : ℕ) (moves : List Edge) (n : ℕ) → 0 < many → AreBetween moves many → (q : Path) → Has (paths_of moves n) q → q.node < many
within_paths many moves zero some are q (inl same) = subst (λ (z : Path). z.node < many) (sym same) some
within_paths many moves zero some are q (inr later) = absurd later
within_paths many moves (suc n) some are q h = within_all many moves (paths_of moves n) are q h

-- none ends at any node: so there is none
no_paths : (many : ℕ) (ps : List Path) → ((q : Path) → Has ps q → q.node < many) → ((k : ℕ) → k < many → ways_to k ps ≡ 0) → ps ≡ []
no_paths many [] within none = refl
no_paths many (p ∷ ps) within none =
    let zero_there = none p.node (within p (inl refl)) in
    let one = ap {B = ℕ} (λ b. cond b 1 0) (eq-eqb p.node p.node refl) in
    absurd (omega (arith, zero_there, one))

none_extended : (moves : List Edge) → all_extended moves [] ≡ []
none_extended [] = refl
none_extended (e ∷ moves) = none_extended moves

stays_none : (moves : List Edge) (n d : ℕ) → paths_of moves n ≡ [] → paths_of moves (d + n) ≡ []
stays_none moves n zero none = ap (paths_of moves) (sym (plus_zero n)) ∙ none
  where
    plus_zero : (n : ℕ) → n ≡ 0 + n
    plus_zero n = omega arith
stays_none moves n (suc d) none =
    ap (paths_of moves) (next n d) ∙ ap (all_extended moves) (stays_none moves n d none) ∙ none_extended moves
  where
    next : (n d : ℕ) → suc d + n ≡ suc (d + n)
    next n d = omega arith

-- no more is read along more moves then
read_below : (moves : List Edge) (ends : List Bool) (n d : ℕ) → paths_of moves n ≡ []
    → lists_below moves ends (suc (d + n)) ≡ lists_below moves ends (suc n)
read_below moves ends n zero none = ap (λ m. lists_below moves ends (suc m)) (plus_zero n)
  where
    plus_zero : (n : ℕ) → 0 + n ≡ n
    plus_zero n = omega arith
read_below moves ends n (suc d) none =
    ap (λ m. lists_below moves ends (suc m)) (next n d)
    ∙ ap (λ (l : List Path). lists_below moves ends (suc (d + n)) ++ over_of ends l)
    (ap (paths_of moves) (sym (next n d)) ∙ stays_none moves n (suc d) none)
    ∙ append-nil (lists_below moves ends (suc (d + n))) ∙ read_below moves ends n d none
  where
    next : (n d : ℕ) → suc d + n ≡ suc (d + n)
    next n d = omega arith

-- where all counts are nothing
pub nothing_counted : (moves : List Edge) (many n : ℕ) (ways : List ℕ) → 0 < many → AreBetween moves many → length ways ≡ many
    → AreWaysOf (paths_of moves n) ways → ((k : ℕ) → k < length ways → get_or ways k 0 ≡ 0) → paths_of moves n ≡ []
nothing_counted moves many n ways some between count are none =
    no_paths many (paths_of moves n) (within_paths many moves n some between) nowhere
  where
    uncounted : (m : ℕ) → counted m ≡ 0 → m ≡ 0
    uncounted m h = omega (arith, h)

    nowhere : (k : ℕ) → k < many → ways_to k (paths_of moves n) ≡ 0
    nowhere k less =
        let inside : k < length ways = omega (arith, less, count) in
        let there = get_or_from_slice_get ways k (counted (ways_to k (paths_of moves n))) 0 (are.at k inside) in
        uncounted (ways_to k (paths_of moves n)) (sym there ∙ none k inside)

-- one move more
lists_more : (moves : List Edge) (ends : List Bool) (n : ℕ)
    → length (lists_below moves ends (suc n)) ≡ length (lists_below moves ends n) + length (over_of ends (paths_of moves n))
lists_more moves ends n = length-append (lists_below moves ends n) (over_of ends (paths_of moves n))

-- the lists along one move more are counted
pub counted_more : (moves : List Edge) (ends : List Bool) (n count v r : ℕ) → count ≡ counted (length (lists_below moves ends (n + 1)))
    → v ≡ counted (length (over_of ends (paths_of moves (n + 1)))) → r ≡ counted (count + v)
    → r ≡ counted (length (lists_below moves ends (n + 1 + 1)))
counted_more moves ends n count v r one two is =
    let next : suc (n + 1) ≡ n + 1 + 1 = omega arith in
    subst (λ m. r ≡ counted (length (lists_below moves ends m))) next
    (is ∙ ap (λ m. counted (m + v)) one ∙ ap (λ m. counted (counted (length (lists_below moves ends (n + 1))) + m)) two
    ∙ counted_sum (length (lists_below moves ends (n + 1))) (length (over_of ends (paths_of moves (n + 1))))
    ∙ ap counted (sym (lists_more moves ends (n + 1))))

-- the paths of one move more
pub ways_next : (moves : List Edge) (n : ℕ) (now next : List ℕ) → ((paths : List Path) → AreWaysOf paths now → AreWaysOf (all_extended moves paths) next)
    → AreWaysOf (paths_of moves n) now → AreWaysOf (paths_of moves (n + 1)) next
ways_next moves n now next extends are =
    let same : suc n ≡ n + 1 = omega arith in
    subst (λ m. AreWaysOf (paths_of moves m) next) same (extends (paths_of moves n) are)

-- where none is left, all are counted
pub counted_all : (moves : List Edge) (ends : List Bool) (n longest count : ℕ) → n ≤ longest → paths_of moves n ≡ []
    → count ≡ counted (length (lists_below moves ends (n + 1)))
    → count ≡ counted (length (lists_below moves ends (longest + 1)))
counted_all moves ends n longest count less none is =
    let one : n + 1 ≡ suc n = omega arith in
    let all : suc (longest - n + n) ≡ longest + 1 = omega (arith, less) in
    is ∙ ap (λ m. counted (length (lists_below moves ends m))) one
    ∙ ap (λ (l : List (List ℤ)). counted (length l)) (sym (read_below moves ends n (longest - n) none))
    ∙ ap (λ m. counted (length (lists_below moves ends m))) all
