-- Where one comes from some nodes by a number.
use Rattle.std.proofs.Common.{◌≡◌, ◌∙◌, ℕ, ℤ, zero, suc, ◌+◌, ◌<◌, ◌≤◌, ◌⊎◌, inl, inr, Bool, true, false, List, [], ◌∷◌, ◌++◌}
use Rattle.std.proofs.Common.{◌||◌, get_or, length, Option, Some, None, refl, sym, ap, subst, arith, slice_get}
use Rattle.std.specs.Option.{option_to_list}
use Rattle.std.specs.Bool.{Decides}
use Rattle.std.specs.List.{list_any}
use Rattle.std.specs.List.Sorted.{IsPermutation}
use Rattle.std.specs.Ordering.{int_eq}
use Rattle.std.specs.Cmp.{signed_Decides}
use Rattle.std.proofs.lemmas.Bool.{cases_lt, false≢true}
use Rattle.std.proofs.lemmas.List.Sorted.{IsPermutation-sym}
use Rattle.std.proofs.lemmas.Option.{none-some, same_Some, slice_get_within}
use Rattle.xk_readings.specs.declared.edge.Edge.{Edge}
use Rattle.xk_readings.specs.Graphs.{GraphValue, HasEdge, IsWithin}
use Rattle.xk_readings.specs.NodeSets.{AreSameNodes, HasNode, KeepsNodes}
use Rattle.xk_readings.specs.Readings.{Reads}
use Rattle.xk_readings.specs.Sets.{Has}
use Rattle.xk_readings.specs.Beginnings.{AreBehind, IsPrintedFrom}
use Rattle.xk_readings.specs.Automata.{AreNodes, HasTargets, IsMove, IsReadFrom, IsShut, IsTarget, ReadsNoMore}
use Rattle.xk_readings.proofs.SetLemmas.{has_append}
use Rattle.xk_types.proofs.ListLemmas.{get-append_left as stays, get_inside as there_is, get_once as same_at}
use Rattle.xk_readings.proofs.ListLemmas.{permuted, place, read}

-- ---- nodes

pub kept_has : (old new : List ℕ) (k : ℕ) → KeepsNodes old new → HasNode old k → HasNode new k
kept_has old new k keeps h = (h.0, keeps h.0 k h.1)

pub targets_kept : (g : GraphValue) (from : ℕ) (printed : Option ℤ) (old new : List ℕ) → KeepsNodes old new → HasTargets g from printed old
    → HasTargets g from printed new
targets_kept g from printed old new keeps are e has begins prints = kept_has old new e.to keeps (are e has begins prints)

-- one more, or none
pub kept_grown : (old new : List ℕ) (node : ℕ) → (new ≡ old) ⊎ (new ≡ old ++ node ∷ []) → KeepsNodes old new
kept_grown old new node grows i k there = by grows
  where
    by : (new ≡ old) ⊎ (new ≡ old ++ node ∷ []) → slice_get new i ≡ Some k
    by (inl same) = ap (λ (l : List ℕ). slice_get l i) same ∙ there
    by (inr one) = ap (λ (l : List ℕ). slice_get l i) one ∙ stays old (node ∷ []) i k there

pub each_grown : (old new : List ℕ) (node k : ℕ) → (new ≡ old) ⊎ (new ≡ old ++ node ∷ []) → HasNode new k → HasNode old k ⊎ (node ≡ k)
each_grown old new node k grows h = by grows
  where
    by : (new ≡ old) ⊎ (new ≡ old ++ node ∷ []) → HasNode old k ⊎ (node ≡ k)
    by (inl same) = inl (h.0, ap (λ (l : List ℕ). slice_get l h.0) (sym same) ∙ h.1)
    by (inr one) = at (place old node h.0 k (ap (λ (l : List ℕ). slice_get l h.0) (sym one) ∙ h.1))
      where
        at : (slice_get old h.0 ≡ Some k) ⊎ ((h.0 ≡ length old) × (node ≡ k)) → HasNode old k ⊎ (node ≡ k)
        at (inl a) = inl (h.0, a)
        at (inr b) = inr b.1

-- ---- readings

-- where an edge that prints nothing leads no more is read than where it begins
pub reads_silent : (g : GraphValue) (node : ℕ) (old new : List ℕ) → HasNode old node
    → ((k : ℕ) → HasNode new k → HasNode old k ⊎ IsTarget g node None k)
    → ReadsNoMore g new old
reads_silent g node old new has each numbers (k, there, n, acts, r) = by (each k there)
  where
    by : HasNode old k ⊎ IsTarget g node None k → IsReadFrom g old numbers
    by (inl before) = (k, before, n, acts, r)
    by (inr (e, is, from, prints, to)) = (
      node,
      has,
      suc n,
      e.act ∷ acts,
      (
        e,
        is,
        from,
        acts,
        numbers,
        subst (λ m. Reads g n m acts numbers) (sym to) r,
        refl,
        ap (λ (o : Option ℤ). option_to_list o ++ numbers) (sym prints),
      ),
    )

head_same : (x y : ℤ) (xs ys : List ℤ) → x ∷ xs ≡ y ∷ ys → x ≡ y
head_same x y xs ys h = cc

tail_same : (x y : ℤ) (xs ys : List ℤ) → x ∷ xs ≡ y ∷ ys → xs ≡ ys
tail_same x y xs ys h = cc

no_more : (x : ℤ) (numbers : List ℤ) → x ∷ numbers ≡ [] → ⊥
no_more x numbers h = (let count = ap length h in omega (arith, count))

-- what is read from shut nodes with a number first goes on from where that leads
module _ (g : GraphValue) (nodes start : List ℕ) (x : ℤ) (numbers : List ℤ) (shut : IsShut g nodes)
    (there : (k : ℕ) → HasNode nodes k → HasTargets g k (Some x) start) where
  by_edge : (n k : ℕ) (all : List ℤ) (e : Edge) (rest : List ℕ) (more : List ℤ)
      → ((k : ℕ) (acts : List ℕ) (all : List ℤ) → HasNode nodes k → Reads g n k acts all → all ≡ x ∷ numbers → IsReadFrom g start numbers)
      → HasNode nodes k → HasEdge g e → e.from ≡ k → Reads g n e.to rest more → (o : Option ℤ) → e.printed ≡ o
      → all ≡ option_to_list o ++ more → all ≡ x ∷ numbers → IsReadFrom g start numbers
  by_edge n k all e rest more next has is from r None prints whole first =
      next e.to rest more (shut e is prints (subst (HasNode nodes) (sym from) has)) r (sym whole ∙ first)
  by_edge n k all e rest more next has is from r (Some y) prints whole first =
      let same = sym whole ∙ first in
      let number : y ≡ x = head_same y x more numbers same in
      let left : more ≡ numbers = tail_same y x more numbers same in
      (e.to, there k has e is from (prints ∙ ap Some number), n, rest, subst (Reads g n e.to rest) left r)

  read_on : (n k : ℕ) (acts : List ℕ) (all : List ℤ) → HasNode nodes k → Reads g n k acts all → all ≡ x ∷ numbers → IsReadFrom g start numbers
  read_on zero k acts all has r first = absurd (no_more x numbers (sym first ∙ r.2))
  read_on (suc n) k acts all has r first = by_edge n k all r.0 r.3 r.4 (read_on n) has r.1 r.2 r.5 r.0.printed refl r.7 first

-- ---- a move

module _ (g : GraphValue) (nodes start shut list : List ℕ) (x : ℤ) where
  pub is_move : IsShut g nodes → ((k : ℕ) → HasNode nodes k → HasTargets g k (Some x) start)
      → ((k : ℕ) → HasNode start k → (from : ℕ) × HasNode nodes from × IsTarget g from (Some x) k)
      → KeepsNodes start shut → AreNodes g shut → IsShut g shut → ReadsNoMore g shut start → AreSameNodes shut list
      → (IsPrintedFrom g nodes x → (numbers : List ℤ) → AreBehind g numbers nodes → AreBehind g (numbers ++ x ∷ []) list)
      → IsMove g nodes x list
  is_move closed there each keeps are is_shut reads same behind = record {
    nodes = λ k h. are k (same.back k h);
    shut = λ e has prints h. same.there e.to (is_shut e has prints (same.back e.from h));
    forth = λ numbers r. forth numbers (reads numbers (r.0, same.back r.0 r.1, r.2, r.3, r.4));
    back = λ numbers r.
        let on = read_on g nodes start x numbers closed there r.2 r.0 r.3 (x ∷ numbers) r.1 r.4 refl in
        (on.0, same.there on.0 (kept_has start shut on.0 keeps on.1), on.2, on.3, on.4);
    behind = behind;
  }
    where
      forth : (numbers : List ℤ) → IsReadFrom g start numbers → IsReadFrom g nodes (x ∷ numbers)
      forth numbers (k, h, n, acts, r) =
          let from = each k h in
          let e = from.2 in (
            from.0,
            from.1,
            suc n,
            e.0.act ∷ acts,
            (
              e.0,
              e.1,
              e.2,
              acts,
              numbers,
              subst (λ m. Reads g n m acts numbers) (sym e.4) r,
              refl,
              ap (λ (o : Option ℤ). option_to_list o ++ numbers) (sym e.3),
            ),
          )

-- the nodes behind all that were gone from are shut
pub shut_all : (g : GraphValue) (nodes : List ℕ) (at : ℕ) → length nodes ≤ at
    → ((i k : ℕ) → i < at → slice_get nodes i ≡ Some k → HasTargets g k None nodes) → IsShut g nodes
shut_all g nodes at most are e has prints h =
    let inside = slice_get_within nodes h.0 e.from h.1 in
    are h.0 e.from (omega (arith, inside, most)) h.1 e has refl prints

-- in another order
pub shut_same : (g : GraphValue) (old new : List ℕ) → AreSameNodes old new → IsShut g old → IsShut g new
shut_same g old new same shut e has prints h = same.there e.to (shut e has prints (same.back e.from h))

pub reads_same : (g : GraphValue) (old new start : List ℕ) → AreSameNodes old new → ReadsNoMore g old start → ReadsNoMore g new start
reads_same g old new start same reads numbers r = reads numbers (r.0, same.back r.0 r.1, r.2, r.3, r.4)

-- in another order they are the same nodes
pub sorted_same : (old new : List ℕ) → IsPermutation old new → AreSameNodes old new
sorted_same old new moved = record {
  there = λ k h. permuted old new h.0 k moved h.1;
  back = λ k h. permuted new old h.0 k (IsPermutation-sym old new moved) h.1;
}

-- ---- numbers

-- whether a number is among them
any_is : (xs : List ℤ) (x : ℤ) → Decides (list_any (λ y. int_eq y x) xs) (Has xs x)
any_is [] x = (λ h. absurd (false≢true h), λ none. absurd none)
any_is (y ∷ xs) x = by (any_is xs x) (int_eq y x) (signed_Decides y x)
  where
    by : Decides (list_any (λ y. int_eq y x) xs) (Has xs x) → (b : Bool) → Decides b (y ≡ x)
        → Decides (b || list_any (λ y. int_eq y x) xs) ((x ≡ y) ⊎ Has xs x)
    by rest true is = (λ _. inl (sym (is.0 refl)), λ _. refl)
    by rest false is = (λ h. inr (rest.0 h), λ h. back h)
      where
        back : (x ≡ y) ⊎ Has xs x → list_any (λ y. int_eq y x) xs ≡ true
        back (inl same) = absurd (false≢true (is.1 (sym same)))
        back (inr later) = rest.1 later

-- ---- loops

-- what holds of those before one and of it holds of those before the next one
pub node_later : (nodes : List ℕ) (at : ℕ) (d : ℕ) (P : ℕ → Type 0) → at < length nodes → P (get_or nodes at d)
    → ((j k : ℕ) → j < at → slice_get nodes j ≡ Some k → P k) → (j k : ℕ) → j < at + 1 → slice_get nodes j ≡ Some k → P k
node_later nodes at d P inside here before j k less there = by (cases_lt j at)
  where
    by : (j < at) ⊎ (at ≤ j) → P k
    by (inl earlier) = before j k earlier there
    by (inr later) =
        let same : at ≡ j = omega (arith, less, later) in
        subst P (same_Some (get_or nodes at d) k (sym (read nodes at d inside) ∙ ap (slice_get nodes) same ∙ there)) here

-- the targets of a node more
pub started : (g : GraphValue) (nodes : List ℕ) (x : ℤ) (old new : List ℕ) (at : ℕ) → at < length nodes
    → ((k : ℕ) → HasNode old k → (from : ℕ) × HasNode nodes from × IsTarget g from (Some x) k)
    → ((k : ℕ) → HasNode new k → HasNode old k ⊎ IsTarget g (get_or nodes at 0) (Some x) k)
    → (k : ℕ) → HasNode new k → (from : ℕ) × HasNode nodes from × IsTarget g from (Some x) k
started g nodes x old new at inside before each k h = by (each k h)
  where
    by : HasNode old k ⊎ IsTarget g (get_or nodes at 0) (Some x) k → (from : ℕ) × HasNode nodes from × IsTarget g from (Some x) k
    by (inl was) = before k was
    by (inr target) = (get_or nodes at 0, (at, read nodes at 0 inside), target)

-- a target is a node of the graph
pub targets_within : (g : GraphValue) (from : ℕ) (printed : Option ℤ) (old new : List ℕ) → IsWithin g → AreNodes g old
    → ((k : ℕ) → HasNode new k → HasNode old k ⊎ IsTarget g from printed k) → AreNodes g new
targets_within g from printed old new within are each k h = by (each k h)
  where
    by : HasNode old k ⊎ IsTarget g from printed k → k < length g.ends
    by (inl was) = are k was
    by (inr (e, has, begins, prints, to)) = subst (λ m. m < length g.ends) to (within e has).1

pub started_within : (g : GraphValue) (nodes new : List ℕ) (printed : Option ℤ) → IsWithin g
    → ((k : ℕ) → HasNode new k → (from : ℕ) × HasNode nodes from × IsTarget g from printed k) → AreNodes g new
started_within g nodes new printed within each k h =
    let from = each k h in
    let t = from.2 in
    subst (λ m. m < length g.ends) t.4 (within t.0 t.1).1

pub reads_on : (g : GraphValue) (first old new : List ℕ) → ReadsNoMore g old first → ReadsNoMore g new old → ReadsNoMore g new first
reads_on g first old new a b numbers r = a numbers (b numbers r)

-- one node more was gone from
pub gone_more : (g : GraphValue) (old new : List ℕ) (at node : ℕ) → slice_get old at ≡ Some node → KeepsNodes old new
    → HasTargets g node None new
    → ((i k : ℕ) → i < at → slice_get old i ≡ Some k → HasTargets g k None old)
    → (i k : ℕ) → i < at + 1 → slice_get new i ≡ Some k → HasTargets g k None new
gone_more g old new at node there keeps here before i k less at_i = by (cases_lt i at)
  where
    by : (i < at) ⊎ (at ≤ i) → HasTargets g k None new
    by (inl earlier) =
        let inside = slice_get_within old at node there in
        let was = there_is old i (omega (arith, earlier, inside)) in
        let same = same_at new i was.0 k (keeps i was.0 was.1) at_i in
        targets_kept g k None old new keeps (subst (λ m. HasTargets g m None old) same (before i was.0 earlier was.1))
    by (inr later) =
        let same : at ≡ i = omega (arith, less, later) in
        subst (λ m. HasTargets g m None new) (same_at new i node k (ap (slice_get new) (sym same) ∙ keeps at node there) at_i) here

-- a target more
pub one_target : (g : GraphValue) (from : ℕ) (printed : Option ℤ) (first old new : List ℕ) (e : Edge) → HasEdge g e → e.from ≡ from
    → ((k : ℕ) → HasNode old k → HasNode first k ⊎ IsTarget g from printed k)
    → ((k : ℕ) → HasNode new k → HasNode old k ⊎ ((e.printed ≡ printed) × (e.to ≡ k)))
    → (k : ℕ) → HasNode new k → HasNode first k ⊎ IsTarget g from printed k
one_target g from printed first old new e has begins before each k h = by (each k h)
  where
    by : HasNode old k ⊎ ((e.printed ≡ printed) × (e.to ≡ k)) → HasNode first k ⊎ IsTarget g from printed k
    by (inl was) = before k was
    by (inr (prints, to)) = inr (e, has, begins, prints, to)

-- what is told of a number of a list
pub not_there : (xs l : List ℤ) (x n : ℤ) (b : Bool) → b ≡ list_any (λ y. int_eq y n) l → l ≡ xs → n ≡ x → b ≡ false → Has xs x → ⊥
not_there xs l x n b told same number not h =
    false≢true (sym not ∙ told ∙ (any_is l n).1 (subst (Has l) (sym number) (subst (λ (k : List ℤ). Has k x) (sym same) h)))

pub is_there : (xs l : List ℤ) (x n : ℤ) (b : Bool) → b ≡ list_any (λ y. int_eq y n) l → l ≡ xs → n ≡ x → b ≡ true → Has xs x
is_there xs l x n b told same number is =
    subst (Has xs) number (subst (λ (k : List ℤ). Has k n) same ((any_is l n).0 (sym told ∙ is)))

-- one node alone
pub zero_read : (g : GraphValue) (none one : List ℕ) → none ≡ [] → (one ≡ none) ⊎ (one ≡ none ++ 0 ∷ []) → ReadsNoMore g one (0 ∷ [])
zero_read g none one empty grows numbers (k, h, n, acts, r) = by (each_grown none one 0 k grows h)
  where
    by : HasNode none k ⊎ (0 ≡ k) → IsReadFrom g (0 ∷ []) numbers
    by (inl was) = absurd (none-some k (ap (λ (l : List ℕ). slice_get l was.0) (sym empty) ∙ was.1))
    by (inr is) = (0, (0, refl), n, acts, subst (λ m. Reads g n m acts numbers) (sym is) r)

-- a number more, or none
pub push_only : (old new : List ℤ) (n x z : ℤ) → new ≡ old ++ n ∷ [] → n ≡ x → Has new z → Has old z ⊎ (z ≡ x)
push_only old new n x z one same h = by (has_append old (n ∷ []) z (subst (λ (l : List ℤ). Has l z) one h))
  where
    by : Has old z ⊎ Has (n ∷ []) z → Has old z ⊎ (z ≡ x)
    by (inl was) = inl was
    by (inr (inl is)) = inr (is ∙ same)
    by (inr (inr none)) = absurd none

-- an edge more
pub printed_more : (g : GraphValue) (node : ℕ) (first old new : List ℤ) (e : Edge) → HasEdge g e → e.from ≡ node
    → ((x : ℤ) → Has old x → Has first x ⊎ IsPrintedFrom g (node ∷ []) x) → ((x : ℤ) → Has new x → Has old x ⊎ (e.printed ≡ Some x))
    → (x : ℤ) → Has new x → Has first x ⊎ IsPrintedFrom g (node ∷ []) x
printed_more g node first old new e has begins before each x h = by (each x h)
  where
    by : Has old x ⊎ (e.printed ≡ Some x) → Has first x ⊎ IsPrintedFrom g (node ∷ []) x
    by (inl was) = before x was
    by (inr prints) = inr (e, has, (0, ap Some (sym begins)), prints)

-- a node more
pub printed_from_more : (g : GraphValue) (nodes : List ℕ) (at node : ℕ) (old new : List ℤ) → slice_get nodes at ≡ Some node
    → ((x : ℤ) → Has old x → IsPrintedFrom g nodes x) → ((x : ℤ) → Has new x → Has old x ⊎ IsPrintedFrom g (node ∷ []) x)
    → (x : ℤ) → Has new x → IsPrintedFrom g nodes x
printed_from_more g nodes at node old new there before each x h = by (each x h)
  where
    by : Has old x ⊎ IsPrintedFrom g (node ∷ []) x → IsPrintedFrom g nodes x
    by (inl was) = before x was
    by (inr (e, has, (zero, is), prints)) = (e, has, (at, there ∙ is), prints)
    by (inr (e, has, (suc i, is), prints)) = absurd (none-some e.from is)
