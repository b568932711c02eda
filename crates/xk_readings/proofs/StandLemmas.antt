-- Ways that are kept by their last edges.
use Rattle.std.proofs.Common.{◌≡◌, ◌∙◌, ℕ, ℤ, zero, suc, ◌+◌, ◌-◌, ◌<◌, ◌≤◌, ◌⊎◌, inl, inr, List, [], ◌∷◌}
use Rattle.std.proofs.Common.{◌++◌, length, get_or, take, drop, Option, Some, None, refl, sym, ap, subst, append_assoc, arith, slice_get}
use Rattle.std.specs.Option.{option_to_list}
use Rattle.std.specs.Prelude.{fold, reverse}
use Rattle.std.proofs.lemmas.List.{append-nil, get_or_append_left, get_or_push, length_push, length-take-le}
use Rattle.std.proofs.lemmas.List.{reverse-append, take-append-drop, take-take, take_all, take_at}
use Rattle.std.proofs.lemmas.List.Sums.{fold_push, fold-append}
use Rattle.std.proofs.lemmas.Option.{none-some, same_Some, slice_get-get_or}
use Rattle.xk_readings.specs.declared.ways.Stand.{Stand}
use Rattle.xk_readings.specs.NodeSets.{HasNode}
use Rattle.xk_readings.specs.Stands.{AreBehind, AreWays, standings, with_stand}
use Rattle.xk_readings.specs.Ways.{HasStanding, Standing, along, at, start}
use Rattle.xk_types.proofs.ListLemmas.{get-append_left as stays, get_push as at_end}
use Rattle.xk_readings.proofs.ListLemmas.{from_take, place}

many : (acc : List Standing) (stands : List Stand) → length (fold with_stand acc stands) ≡ length acc + length stands
many acc [] = omega arith
many acc (s ∷ stands) =
    let new = along s.edge (at acc s.before) in
    let rest = many (acc ++ new ∷ []) stands in
    let one = length_push acc new in
    omega (arith, rest, one)

kept : (acc : List Standing) (stands : List Stand) (k : ℕ) → k < length acc → at (fold with_stand acc stands) k ≡ at acc k
kept acc [] k within = refl
kept acc (s ∷ stands) k within =
    let new = along s.edge (at acc s.before) in
    let one = length_push acc new in
    kept (acc ++ new ∷ []) stands k (omega (arith, one, within)) ∙ get_or_append_left acc (new ∷ []) start k within

by_stand : (acc : List Standing) (stands : List Stand) (i : ℕ) (s : Stand) → slice_get stands i ≡ Some s → s.before < length acc + i
    → at (fold with_stand acc stands) (length acc + i) ≡ along s.edge (at (fold with_stand acc stands) s.before)
by_stand acc [] i s there behind = absurd (none-some s there)
by_stand acc (z ∷ stands) zero s there behind = subst (λ (y : Stand). y.before < length acc + zero
    → IsEnd y) (same_Some z s there) is behind
  where
    new : Standing
    new = along z.edge (at acc z.before)

    all : List Standing
    all = fold with_stand (acc ++ new ∷ []) stands

    IsEnd : Stand → Type 0
    IsEnd y = at all (length acc + zero) ≡ along y.edge (at all y.before)

    is : z.before < length acc + zero → IsEnd z
    is before =
        let one = length_push acc new in
        let end : length acc + zero ≡ length acc = omega arith in
        let inside : z.before < length acc = omega (arith, before) in
        ap (at all) end ∙ kept (acc ++ new ∷ []) stands (length acc) (omega (arith, one)) ∙ get_or_push acc new start (length acc) refl
        ∙ sym (ap (along z.edge) (kept (acc ++ new ∷ []) stands z.before (omega (arith, one, inside))
        ∙ get_or_append_left acc (new ∷ []) start z.before inside))
by_stand acc (z ∷ stands) (suc i) s there behind =
    let new = along z.edge (at acc z.before) in
    let all = fold with_stand (acc ++ new ∷ []) stands in
    let one = length_push acc new in
    let here : length acc + suc i ≡ length (acc ++ new ∷ []) + i = omega (arith, one) in
    ap (at all) here ∙ by_stand (acc ++ new ∷ []) stands i s there (omega (arith, one, behind))

-- so many ways there are
pub many_ways : (stands : List Stand) → length (standings stands) ≡ length stands + 1
many_ways stands = let h = many (start ∷ []) stands in omega (arith, h)

-- the first one has no edge
pub first_way : (stands : List Stand) → at (standings stands) 0 ≡ start
first_way stands = kept (start ∷ []) stands 0 (omega arith)

-- each other one is one that is there before it, with an edge more
later_way : (stands : List Stand) (i : ℕ) (s : Stand) → AreBehind stands → slice_get stands i ≡ Some s
    → at (standings stands) (i + 1) ≡ along s.edge (at (standings stands) s.before)
later_way stands i s behind there =
    let before = behind i s there in
    let same : i + 1 ≡ 1 + i = omega arith in
    ap (at (standings stands)) same ∙ by_stand (start ∷ []) stands i s there (omega (arith, before))

-- one way more
pub ways_push : (stands : List Stand) (s : Stand) → standings (stands ++ s ∷ []) ≡ standings stands ++ along s.edge
    (at (standings stands) s.before) ∷ []
ways_push stands s = fold_push with_stand (start ∷ []) stands s

front : (acc : List Standing) (stands : List Stand) → take (length acc) (fold with_stand acc stands) ≡ acc
front acc [] = take_all (length acc) acc (omega arith)
front acc (s ∷ stands) =
    let new = along s.edge (at acc s.before) in
    let all = fold with_stand (acc ++ new ∷ []) stands in
    let one = length_push acc new in
    let less : length acc ≤ length (acc ++ new ∷ []) = omega (arith, one) in
    sym (take-take (length acc) (length (acc ++ new ∷ [])) all less) ∙ ap (take (length acc)) (front (acc ++ new ∷ []) stands)
    ∙ take_at acc (new ∷ []) (length acc) refl

-- the first ones alone
pub ways_take : (stands : List Stand) (n : ℕ) → n ≤ length stands → standings (take n stands) ≡ take (n + 1) (standings stands)
ways_take stands n within =
    let acc = standings (take n stands) in
    let count = length-take-le n stands within in
    let many' = many_ways (take n stands) in
    let size : length acc ≡ n + 1 = omega (arith, count, many') in
    let whole = sym (fold-append with_stand (start ∷ []) (take n stands) (drop n stands)) ∙ ap standings (take-append-drop n stands) in
    sym (front acc (drop n stands)) ∙ ap (λ m. take m (fold with_stand acc (drop n stands))) size ∙ ap (take (n + 1)) whole

-- ---- what is kept of them holds of

-- the first ones alone
pub behind_take : (stands : List Stand) (n : ℕ) → AreBehind stands → AreBehind (take n stands)
behind_take stands n behind k s there = behind k s (from_take n stands k s there).1

-- one more
behind_push : (stands : List Stand) (s : Stand) → AreBehind stands → s.before ≤ length stands → AreBehind (stands ++ s ∷ [])
behind_push stands s behind less k z there = by (place stands s k z there)
  where
    by : (slice_get stands k ≡ Some z) ⊎ ((k ≡ length stands) × (s ≡ z)) → z.before ≤ k
    by (inl a) = behind k z a
    by (inr b) = (let end = b.0 in subst (λ (y : Stand). y.before ≤ k) b.1 (omega (arith, less, end)))

-- a way that ends there still does
standing_push : (all : List Standing) (since k : ℕ) (new : Standing) → HasStanding all since k → HasStanding (all ++ new ∷ []) since k
standing_push all since k new h = (h.0, h.1, h.2, stays all (new ∷ []) h.0 h.1 h.3, h.4)

-- the new one ends where it does
standing_new : (all : List Standing) (since : ℕ) (new : Standing) → since ≤ length all → HasStanding (all ++ new ∷ []) since new.node
standing_new all since new less = (length all, new, less, at_end all new, refl)

-- the nodes at which ways end, with one more
pub here_push : (all : List Standing) (since : ℕ) (nodes more : List ℕ) (k : ℕ) → more ≡ nodes ++ k ∷ []
    → ((m : ℕ) → HasNode nodes m → HasStanding all since m) → HasStanding all since k
    → (m : ℕ) → HasNode more m → HasStanding all since m
here_push all since nodes more k one here new m has =
    by (place nodes k has.0 m (ap (λ (l : List ℕ). slice_get l has.0) (sym one) ∙ has.1))
  where
    by : (slice_get nodes has.0 ≡ Some m) ⊎ ((has.0 ≡ length nodes) × (k ≡ m)) → HasStanding all since m
    by (inl a) = here m (has.0, a)
    by (inr b) = subst (HasStanding all since) b.1 new

-- none
pub none_here : (all : List Standing) (since : ℕ) (m : ℕ) → HasNode [] m → HasStanding all since m
none_here all since m has = absurd (none-some m has.1)

-- ---- back along a way

-- the last edge of a way, and the way before it
pub last_edge : (stands : List Stand) (last : ℕ) (s : Stand) → AreBehind stands → last ≤ length stands → 0 < last
    → s ≡ get_or stands (last - 1) s
    → (s.before < last) × (at (standings stands) last ≡ along s.edge (at (standings stands) s.before))
last_edge stands last s behind within some is =
    let there : slice_get stands (last - 1) ≡ Some s = slice_get-get_or stands (last - 1) s (omega (arith, within, some))
    ∙ ap Some (sym is) in
    let before = behind (last - 1) s there in
    let same : (last - 1) + 1 ≡ last = omega (arith, some) in
    (omega (arith, before, some), ap (at (standings stands)) (sym same) ∙ later_way stands (last - 1) s behind there)

-- whose step it is stands before those that come later
pub acts_back : (stands : List Stand) (last : ℕ) (s : Stand) (later more whole : List ℕ)
    → at (standings stands) last ≡ along s.edge (at (standings stands) s.before)
    → more ≡ later ++ s.edge.act ∷ [] → (at (standings stands) last).acts ++ reverse later ≡ whole
    → (at (standings stands) s.before).acts ++ reverse more ≡ whole
acts_back stands last s later more whole is one was =
    let before = (at (standings stands) s.before).acts in
    ap (λ (l : List ℕ). before ++ l) (ap reverse one ∙ reverse-append later (s.edge.act ∷ []))
    ∙ sym (append_assoc before (s.edge.act ∷ []) (reverse later))
    ∙ sym (ap (λ (t : Standing). t.acts ++ reverse later) is)
    ∙ was

-- so does what it prints
pub numbers_back : (stands : List Stand) (last : ℕ) (s : Stand) (later more whole : List ℤ)
    → at (standings stands) last ≡ along s.edge (at (standings stands) s.before)
    → more ≡ later ++ option_to_list s.edge.printed → (at (standings stands) last).numbers ++ reverse later ≡ whole
    → (at (standings stands) s.before).numbers ++ reverse more ≡ whole
numbers_back stands last s later more whole is one was =
    let before = (at (standings stands) s.before).numbers in
    ap (λ (l : List ℤ). before ++ l) (ap reverse one ∙ turned s.edge.printed)
    ∙ sym (append_assoc before (option_to_list s.edge.printed) (reverse later))
    ∙ sym (ap (λ (t : Standing). t.numbers ++ reverse later) is)
    ∙ was
  where
    turned : (o : Option ℤ) → reverse (later ++ option_to_list o) ≡ option_to_list o ++ reverse later
    turned None = ap reverse (append-nil later)
    turned (Some x) = reverse-append later (x ∷ [])

-- ---- what is kept of them after one more

pub ways_pushed : (stands more : List Stand) (s : Stand) (since : ℕ) (nodes : List ℕ) → AreWays stands since nodes
    → more ≡ stands ++ s ∷ [] → s.before ≤ length stands
    → AreWays more since nodes
ways_pushed stands more s since nodes are one less = record {
  behind = subst AreBehind (sym one) (behind_push stands s are.behind less);
  here = λ k has. subst (λ (l : List Standing). HasStanding l since k) (sym (ap standings one ∙ ways_push stands s))
      (standing_push (standings stands) since k (along s.edge (at (standings stands) s.before)) (are.here k has));
}

-- the new one ends at a node
pub new_there : (stands more : List Stand) (s : Stand) (since : ℕ) → more ≡ stands ++ s ∷ [] → since ≤ length (standings stands)
    → HasStanding (standings more) since s.edge.to
new_there stands more s since one less =
    subst (λ (l : List Standing). HasStanding l since s.edge.to) (sym (ap standings one ∙ ways_push stands s))
    (standing_new (standings stands) since (along s.edge (at (standings stands) s.before)) less)

pub ways_pushed_here : (stands more : List Stand) (s : Stand) (since : ℕ) (nodes longer : List ℕ) → AreWays stands since nodes
    → more ≡ stands ++ s ∷ [] → s.before ≤ length stands
    → since ≤ length (standings stands) → longer ≡ nodes ++ s.edge.to ∷ [] → AreWays more since longer
ways_pushed_here stands more s since nodes longer are one less from with_node =
    let is = ways_pushed stands more s since nodes are one less in
    record {
      behind = is.behind;
      here = here_push (standings more) since nodes longer s.edge.to with_node is.here (new_there stands more s since one from);
    }
