-- Moves between sets of nodes.
use Rattle.std.proofs.Common.{◌≡◌, ◌∙◌, ℕ, ℤ, zero, suc, ◌+◌, ◌<◌, ◌≤◌, ◌⊎◌, inl, inr, Bool, List, [], ◌∷◌, ◌++◌}
use Rattle.std.proofs.Common.{length, take, Option, Some, None, refl, sym, ap, subst, arith, slice_get}
use Rattle.std.specs.Option.{option_to_list}
use Rattle.std.proofs.lemmas.Bool.{cases_lt}
use Rattle.std.specs.Bool.{Decides}
use Rattle.std.proofs.lemmas.List.{length_push}
use Rattle.std.proofs.lemmas.Option.{none-some, same_Some, slice_get_within}
use Rattle.xk_readings.specs.declared.edge.Edge.{Edge}
use Rattle.xk_readings.specs.Graphs.{GraphValue, HasEdge}
use Rattle.xk_readings.specs.NodeSets.{HasNode}
use Rattle.xk_readings.specs.Readings.{Reads}
use Rattle.xk_readings.specs.Sets.{AreDifferent, Has}
use Rattle.xk_readings.specs.Beginnings.{AreBehind, IsPrintedFrom}
use Rattle.xk_readings.specs.Automata.{AreForked, AreMoves, AreNodes, AreStates, HasEndNode, HasMove, HasMoved}
use Rattle.xk_readings.specs.Automata.{IsMove, IsMoveOf, IsReadFrom, IsShut}
use Rattle.xk_readings.specs.Automata.{KeepsStates, ReadsNoMore}
use Rattle.xk_types.proofs.ListLemmas.{get-append_left, get_inside as there_is, get_once as same_at, get_push}
use Rattle.xk_readings.proofs.SetLemmas.{has_append, has_left, has_place, has_right}

-- ---- sets

-- with a set of nodes of the graph more, which is shut
pub states_more : (g : GraphValue) (old new : List (List ℕ)) (nodes : List ℕ) → AreStates g old → KeepsStates old new
    → ((i : ℕ) (s : List ℕ) → slice_get new i ≡ Some s → (slice_get old i ≡ Some s) ⊎ (s ≡ nodes))
    → AreNodes g nodes → IsShut g nodes → (numbers : List ℤ) × AreBehind g numbers nodes → AreStates g new
states_more g old new nodes are keeps each is shut behind = record {
  nodes = λ i s there. by i s (each i s there);
  behind = λ i s there. numbers_by i s (each i s there);
  first = (are.first.0, keeps 0 are.first.0 are.first.1, are.first.2, are.first.3);
}
  where
    by : (i : ℕ) (s : List ℕ) → (slice_get old i ≡ Some s) ⊎ (s ≡ nodes) → AreNodes g s × IsShut g s
    by i s (inl was) = are.nodes i s was
    by i s (inr same) = subst (λ (l : List ℕ). AreNodes g l × IsShut g l) (sym same) (is, shut)

    numbers_by : (i : ℕ) (s : List ℕ) → (slice_get old i ≡ Some s) ⊎ (s ≡ nodes) → (numbers : List ℤ) × AreBehind g numbers s
    numbers_by i s (inl was) = are.behind i s was
    numbers_by i s (inr same) = subst (λ (l : List ℕ). (numbers : List ℤ) × AreBehind g numbers l) (sym same) behind

-- the first set alone
pub first_state : (g : GraphValue) (old new : List (List ℕ)) (nodes : List ℕ) (k : ℕ) → old ≡ [] → slice_get new k ≡ Some nodes
    → ((i : ℕ) (s : List ℕ) → slice_get new i ≡ Some s → (slice_get old i ≡ Some s) ⊎ (s ≡ nodes))
    → AreNodes g nodes → IsShut g nodes → ReadsNoMore g nodes (0 ∷ []) → HasNode nodes 0 → AreBehind g [] nodes → AreStates g new
first_state g old new nodes k none there each are shut reads has behind = record {
  nodes = λ i s at. subst (λ (l : List ℕ). AreNodes g l × IsShut g l) (sym (same i s at)) (are, shut);
  behind = λ i s at. ([], subst (AreBehind g []) (sym (same i s at)) behind);
  first =
      let inside = slice_get_within new k nodes there in
      let first = there_is new 0 (omega (arith, inside)) in (
        nodes,
        first.1 ∙ ap Some (same 0 first.0 first.1),
        reads,
        has,
      );
}
  where
    same : (i : ℕ) (s : List ℕ) → slice_get new i ≡ Some s → s ≡ nodes
    same i s at = by (each i s at)
      where
        by : (slice_get old i ≡ Some s) ⊎ (s ≡ nodes) → s ≡ nodes
        by (inl was) = absurd (none-some s (ap (λ (l : List (List ℕ)). slice_get l i) (sym none) ∙ was))
        by (inr is) = is

-- ---- moves

move_kept : (g : GraphValue) (old new : List (List ℕ)) (e : Edge) → KeepsStates old new → IsMoveOf g old e → IsMoveOf g new e
move_kept g old new e keeps is = record {
  source = is.source;
  target = is.target;
  number = is.number;
  out = keeps e.from is.source is.out;
  into = keeps e.to is.target is.into;
  prints = is.prints;
  move = is.move;
}

has_kept : (g : GraphValue) (old new : List (List ℕ)) (moves more : List Edge) (from : ℕ) (x : ℤ) (numbers : List ℤ) → KeepsStates old new
    → ((e : Edge) → Has moves e → Has more e) → HasMove g old moves from x numbers → HasMove g new more from x numbers
has_kept g old new moves more from x numbers keeps keeps' h =
    (h.0, h.1, keeps' h.0 h.2, h.3, h.4, keeps h.0.to h.1 h.5, h.6)

-- what is read from the set with the number first is read behind a move
abbrev pub IsGoneOn : GraphValue → List (List ℕ) → List Edge → ℕ → List ℕ → ℤ → Type 0
IsGoneOn g states moves from nodes x = (numbers : List ℤ) → IsReadFrom g nodes (x ∷ numbers) → HasMove g states moves from x numbers

-- the moves from one set by some numbers were added to those from the sets before it
pub record AreMovesBy (g : GraphValue) (states : List (List ℕ)) (moves : List Edge) (from : ℕ) (nodes : List ℕ) (numbers : List ℤ) : Type 0 where
  pub each : (e : Edge) → Has moves e → IsMoveOf g states e
  pub before : (e : Edge) → Has moves e → e.from < from + 1
  pub forked : AreForked moves
  pub there : (i : ℕ) (s : List ℕ) (x : ℤ) → i < from → slice_get states i ≡ Some s → IsGoneOn g states moves i s x
  pub here : (x : ℤ) → Has numbers x → IsGoneOn g states moves from nodes x
  pub only : (e : Edge) → Has moves e → e.from ≡ from → (x : ℤ) × Has numbers x × (e.printed ≡ Some x)

pub moves_by_none : (g : GraphValue) (states : List (List ℕ)) (moves : List Edge) (from : ℕ) (nodes : List ℕ) → AreMoves g states moves from
    → AreMovesBy g states moves from nodes []
moves_by_none g states moves from nodes are = record {
  each = are.each;
  before = λ e h. (let less = are.before e h in omega (arith, less));
  forked = are.forked;
  there = λ i s x less at numbers r. are.there i s x numbers less at r;
  here = λ x none. absurd none;
  only = λ e h same. (let less = are.before e h in absurd (omega (arith, less, same)));
}

forked_push : (moves : List Edge) (e : Edge) → AreForked moves → ((f : Edge) → Has moves f → f.from ≡ e.from → f.printed ≡ e.printed → ⊥)
    → AreForked (moves ++ e ∷ [])
forked_push [] e are new = (λ f none from prints. none, tt)
forked_push (z ∷ moves) e are new = (first, forked_push moves e are.1 (λ f h. new f (inr h)))
  where
    first : (f : Edge) → Has (moves ++ e ∷ []) f → f.from ≡ z.from → f.printed ≡ z.printed → ⊥
    first f h from prints = by (has_append moves (e ∷ []) f h)
      where
        by : Has moves f ⊎ Has (e ∷ []) f → ⊥
        by (inl a) = are.0 f a from prints
        by (inr (inl is)) = new z (inl refl) (sym from ∙ ap (λ (g : Edge). g.from) is) (sym prints ∙ ap (λ (g : Edge). g.printed) is)
        by (inr (inr none)) = none

-- with the move by one number more
module _ (g : GraphValue) (old new : List (List ℕ)) (moves more : List Edge) (from : ℕ) (nodes : List ℕ) (done : List ℤ) (x : ℤ)
    (are : AreMovesBy g old moves from nodes done) (keeps : KeepsStates old new) (less : from < length old)
    (at : slice_get old from ≡ Some nodes) (is : HasMoved g new moves more from nodes x) (fresh : Has done x → ⊥) where
  stays : (e : Edge) → Has moves e → Has more e
  stays e h = subst (λ (l : List Edge). Has l e) (sym is.added) (has_left moves (is.edge ∷ []) e h)

  one_of : (e : Edge) → Has more e → Has moves e ⊎ (e ≡ is.edge)
  one_of e h = by (has_append moves (is.edge ∷ []) e (subst (λ (l : List Edge). Has l e) is.added h))
    where
      by : Has moves e ⊎ Has (is.edge ∷ []) e → Has moves e ⊎ (e ≡ is.edge)
      by (inl a) = inl a
      by (inr (inl same)) = inr same
      by (inr (inr none)) = absurd none

  has_edge : Has more is.edge
  has_edge = subst (λ (l : List Edge). Has l is.edge) (sym is.added) (has_right moves (is.edge ∷ []) is.edge (inl refl))

  new_move : IsMoveOf g new is.edge
  new_move = record {
    source = nodes;
    target = is.target;
    number = x;
    out = ap (slice_get new) is.out ∙ keeps from nodes at;
    into = is.into;
    prints = is.prints;
    move = is.move;
  }

  -- a set that was met is the same
  same_state : (i : ℕ) (s : List ℕ) → i < length old → slice_get new i ≡ Some s → slice_get old i ≡ Some s
  same_state i s inside there =
      let was = there_is old i inside in
      was.1 ∙ ap Some (same_at new i was.0 s (keeps i was.0 was.1) there)

  pub moves_more : AreMovesBy g new more from nodes (done ++ x ∷ [])
  moves_more = record {
    each = λ e h. each e (one_of e h);
    before = λ e h. before e (one_of e h);
    forked = subst AreForked (sym is.added) (forked_push moves is.edge are.forked apart);
    there = λ i s y inside there numbers r. has_kept g old new moves more i y numbers keeps stays
        (are.there i s y inside (same_state i s (omega (arith, inside, less)) there) numbers r);
    here = λ y h. here y (has_append done (x ∷ []) y h);
    only = λ e h same. only e (one_of e h) same;
  }
    where
      each : (e : Edge) → Has moves e ⊎ (e ≡ is.edge) → IsMoveOf g new e
      each e (inl was) = move_kept g old new e keeps (are.each e was)
      each e (inr same) = subst (IsMoveOf g new) (sym same) new_move

      before : (e : Edge) → Has moves e ⊎ (e ≡ is.edge) → e.from < from + 1
      before e (inl was) = are.before e was
      before e (inr same) = (let out = ap (λ (f : Edge). f.from) same ∙ is.out in omega (arith, out))

      apart : (f : Edge) → Has moves f → f.from ≡ is.edge.from → f.printed ≡ is.edge.printed → ⊥
      apart f h from' prints =
          let o = are.only f h (from' ∙ is.out) in
          fresh (subst (Has done) (same_Some o.0 x (sym o.2 ∙ prints ∙ is.prints)) o.1)

      here : (y : ℤ) → Has done y ⊎ Has (x ∷ []) y → IsGoneOn g new more from nodes y
      here y (inl was) numbers r = has_kept g old new moves more from y numbers keeps stays (are.here y was numbers r)
      here y (inr (inl same)) numbers r = (
        is.edge,
        is.target,
        has_edge,
        is.out,
        is.prints ∙ ap Some (sym same),
        is.into,
        is.move.back numbers (subst (λ z. IsReadFrom g nodes (z ∷ numbers)) same r),
      )
      here y (inr (inr none)) numbers r = absurd none

      only : (e : Edge) → Has moves e ⊎ (e ≡ is.edge) → e.from ≡ from → (y : ℤ) × Has (done ++ x ∷ []) y × (e.printed ≡ Some y)
      only e (inl was) same = (let o = are.only e was same in (o.0, has_left done (x ∷ []) o.0 o.1, o.2))
      only e (inr is') same = (x, has_right done (x ∷ []) x (inl refl), ap (λ (f : Edge). f.printed) is' ∙ is.prints)

-- an edge that prints the first number goes out from one of the nodes
first_edge : (g : GraphValue) (nodes : List ℕ) (x : ℤ) (numbers : List ℤ) → IsShut g nodes → (n k : ℕ) (acts : List ℕ) (all : List ℤ)
    → HasNode nodes k → Reads g n k acts all → all ≡ x ∷ numbers
    → (e : Edge) × HasEdge g e × HasNode nodes e.from × (e.printed ≡ Some x)
first_edge g nodes x numbers shut zero k acts all has r first = absurd (not_none (sym first ∙ r.2))
  where
    not_none : x ∷ numbers ≡ [] → ⊥
    not_none h = (let count = ap length h in omega (arith, count))
first_edge g nodes x numbers shut (suc n) k acts all has r first = by (first_edge g nodes x numbers shut n) r.0.printed refl r.7
  where
    head_same : (y z : ℤ) (ys zs : List ℤ) → y ∷ ys ≡ z ∷ zs → y ≡ z
    head_same y z ys zs h = cc

    by : ((k : ℕ) (acts : List ℕ) (all : List ℤ) → HasNode nodes k → Reads g n k acts all → all ≡ x ∷ numbers
        → (e : Edge) × HasEdge g e × HasNode nodes e.from × (e.printed ≡ Some x)) → (o : Option ℤ) → r.0.printed ≡ o
        → all ≡ option_to_list o ++ r.4
        → (e : Edge) × HasEdge g e × HasNode nodes e.from × (e.printed ≡ Some x)
    by next None prints whole =
        next r.0.to r.3 r.4 (shut r.0 r.1 prints (subst (HasNode nodes) (sym r.2) has)) r.5 (sym whole ∙ first)
    by next (Some y) prints whole =
        (r.0, r.1, subst (HasNode nodes) (sym r.2) has, prints ∙ ap Some (head_same y x r.4 numbers (sym whole ∙ first)))

-- by all numbers that edges print from there
pub moves_all : (g : GraphValue) (states : List (List ℕ)) (moves : List Edge) (from : ℕ) (nodes : List ℕ) (numbers : List ℤ)
    → AreMovesBy g states moves from nodes numbers → slice_get states from ≡ Some nodes → IsShut g nodes
    → ((e : Edge) (x : ℤ) → HasEdge g e → HasNode nodes e.from → e.printed ≡ Some x → Has numbers x)
    → AreMoves g states moves (from + 1)
moves_all g states moves from nodes numbers are at shut all = record {
  each = are.each;
  before = are.before;
  forked = are.forked;
  there = λ i s x more less there r. by i s x more there r (cases_lt i from) less;
}
  where
    by : (i : ℕ) (s : List ℕ) (x : ℤ) (more : List ℤ) → slice_get states i ≡ Some s → IsReadFrom g s (x ∷ more) → (i < from) ⊎ (from ≤ i)
        → i < from + 1
        → HasMove g states moves i x more
    by i s x more there r (inl before) less = are.there i s x before there more r
    by i s x more there r (inr behind) less =
        let same : from ≡ i = omega (arith, less, behind) in
        let is : s ≡ nodes = same_at states i s nodes there (ap (slice_get states) (sym same) ∙ at) in
        let r' = subst (λ (l : List ℕ). IsReadFrom g l (x ∷ more)) is r in
        let e = first_edge g nodes x more shut r'.2 r'.0 r'.3 (x ∷ more) r'.1 r'.4 refl in
        subst (λ k. HasMove g states moves k x more) same (are.here x (all e.0 x e.1 e.2 e.3) more r')

-- a number isn't among those before it
pub fresh_at : (numbers : List ℤ) (k : ℕ) (x : ℤ) → AreDifferent numbers → slice_get numbers k ≡ Some x → Has (take k numbers) x → ⊥
fresh_at [] k x are there h = none-some x there
fresh_at (y ∷ numbers) zero x are there h = h
fresh_at (y ∷ numbers) (suc k) x are there (inl same) = are.0 (subst (Has numbers) same (has_place numbers k x there))
fresh_at (y ∷ numbers) (suc k) x are there (inr later) = fresh_at numbers k x are.1 there later

-- as many are there, at least
pub longer_kept : (old new : List (List ℕ)) → KeepsStates old new → length old ≤ length new
longer_kept old new keeps = by (cases_lt (length new) (length old))
  where
    by : (length new < length old) ⊎ (length old ≤ length new) → length old ≤ length new
    by (inl less) =
        let last = there_is old (length new) less in
        let inside = slice_get_within new (length new) last.0 (keeps (length new) last.0 last.1) in
        absurd (omega (arith, inside))
    by (inr most) = most

-- it is known of a set more whether a reading may end there
pub end_more : (g : GraphValue) (states : List (List ℕ)) (old new : List Bool) (n : ℕ) (nodes : List ℕ) (b : Bool) → new ≡ old ++ b ∷ []
    → slice_get states n ≡ Some nodes → Decides b (HasEndNode g nodes) → length old ≡ n
    → ((i : ℕ) (s : List ℕ) → i < n → slice_get states i ≡ Some s → (c : Bool) × (slice_get old i ≡ Some c) × Decides c (HasEndNode g s))
    → (length new ≡ n + 1) × ((i : ℕ) (s : List ℕ) → i < n + 1 → slice_get states i ≡ Some s
    → (c : Bool) × (slice_get new i ≡ Some c) × Decides c (HasEndNode g s))
end_more g states old new n nodes b one there tells many before = (
  let count = ap length one in let more = length_push old b in omega (arith, count, more, many),
  λ i s less at. by i s at (cases_lt i n) less,
)
  where
    by : (i : ℕ) (s : List ℕ) → slice_get states i ≡ Some s → (i < n) ⊎ (n ≤ i) → i < n + 1
        → (c : Bool) × (slice_get new i ≡ Some c) × Decides c (HasEndNode g s)
    by i s at (inl earlier) less =
        let was = before i s earlier at in
        (was.0, ap (λ (l : List Bool). slice_get l i) one ∙ get-append_left old (b ∷ []) i was.0 was.1, was.2)
    by i s at (inr later) less =
        let same : n ≡ i = omega (arith, less, later) in
        let is : nodes ≡ s = same_at states n nodes s there (ap (slice_get states) same ∙ at) in
        let last : length old ≡ i = omega (arith, many, same) in (
          b,
          ap (λ (l : List Bool). slice_get l i) one ∙ subst (λ k. slice_get (old ++ b ∷ []) k ≡ Some b) last (get_push old b),
          subst (λ (l : List ℕ). Decides b (HasEndNode g l)) is tells,
        )

-- where the number leads from a set that was met, all nodes behind some numbers are
pub behind_more : (g : GraphValue) (states : List (List ℕ)) (from : ℕ) (nodes to : List ℕ) (x : ℤ) → AreStates g states
    → slice_get states from ≡ Some nodes → IsMove g nodes x to → IsPrintedFrom g nodes x → (numbers : List ℤ) × AreBehind g numbers to
behind_more g states from nodes to x are there move printed =
    let before = are.behind from nodes there in
    (before.0 ++ x ∷ [], move.behind printed before.0 before.1)
