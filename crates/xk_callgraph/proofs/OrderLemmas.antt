-- Places that are given one after another, each to one that is left and waits for no call.
use Rattle.std.proofs.Common.{◌≡◌, ℕ, zero, suc, ◌+◌, ◌<◌, ◌≤◌, inl, inr, Bool, true, false, cond, nat_eq, List, [], ◌∷◌, ◌++◌, length, set, slice_get, slice_index, Some, sym, ap, ◌∙◌, subst, arith, ne_eqb}
use Rattle.std.proofs.lemmas.Bool.{cases_eq, cases_lt}
use Rattle.std.proofs.lemmas.Option.{slice_get_within}
use Rattle.xk_callgraph.specs.CallGraph.{IsCall, Falls, AtMost, IsRecursive, zeros}
use Rattle.xk_callgraph.specs.TopologicalOrder.{pending, MarksReached, CanFall, HasPlace, IsReady, IsOnce, IsInOrder, AreLeast}
use Rattle.xk_callgraph.proofs.NumberingLemmas.{reaches_on, none_recursive, caller_within}
use Rattle.xk_callgraph.proofs.ReachabilityLemmas.{set_here, set_other, within_full, get_front, get_last, get_pushed, last_call}
use Rattle.xk_callgraph.proofs.PendingCallLemmas.{pending_some, pending_who, pending_less}

-- ---- what holds while places are given: of those that are marked, those that aren't left have places

pub record IsBegun (calls : List (List ℕ)) (start : ℕ) (seen left order : List ℕ) : Type 0 where
  pub placed : (j : ℕ) → 0 < slice_index seen j → slice_index left j ≡ 0 → (b : ℕ) × (slice_get order b ≡ Some j)
  pub gone : (b j : ℕ) → slice_get order b ≡ Some j → slice_index left j ≡ 0
  pub reached : (b j : ℕ) → slice_get order b ≡ Some j → 0 < slice_index seen j
  pub within : (j : ℕ) → 0 < slice_index left j → 0 < slice_index seen j
  pub free : (b j : ℕ) → slice_get order b ≡ Some j → pending (length calls) calls left j ≡ 0
  pub later : (a i k b j : ℕ) → slice_get order a ≡ Some i → IsCall calls i k j → slice_get order b ≡ Some j → a < b
  pub once : IsOnce order
  pub least : AreLeast calls start order

pub begun_none : (calls : List (List ℕ)) (start : ℕ) (seen : List ℕ) → IsBegun calls start seen seen []
begun_none calls start seen = record {
  placed = λ j m z. absurd (omega arith);
  gone = λ b j e. absurd cc;
  reached = λ b j e. absurd cc;
  within = λ j m. m;
  free = λ b j e. absurd cc;
  later = λ a i k b j e call f. absurd cc;
  once = λ a b i e f. absurd cc;
  least = λ k i j e r. absurd cc;
}

module _ (calls : List (List ℕ)) (start : ℕ) (seen left order : List ℕ) (i : ℕ) (all : length left ≡ length calls) (marks : MarksReached calls start seen)
    (old : IsBegun calls start seen left order) (there : 0 < slice_index left i) (none : pending (length calls) calls left i ≡ 0) where
  still_gone : (j : ℕ) → slice_index left j ≡ 0 → slice_index (set left i 0) j ≡ 0
  still_gone j z = elim (cases_eq j i) [
    | inl same ↦ ap (slice_index (set left i 0)) same ∙ set_here left i 0 (within_full left i there)
    | inr other ↦ set_other left i 0 j other ∙ z
  ]

  back : (j : ℕ) → 0 < slice_index (set left i 0) j → 0 < slice_index left j
  back j m = elim (cases_eq j i) [
    | inl same ↦ let e = ap (slice_index left) same in omega arith
    | inr other ↦ let e = set_other left i 0 j other in omega arith
  ]

  -- who has a place isn't called by one that is left
  not_called : (j k : ℕ) → pending (length calls) calls left j ≡ 0 → IsCall calls i k j → ⊥
  not_called j k z call = let p = pending_some (length calls) calls left i k j (caller_within calls i k j call) there call in absurd (omega arith)

  stays_free : (j : ℕ) → pending (length calls) calls left j ≡ 0 → pending (length calls) calls (set left i 0) j ≡ 0
  stays_free j z =
      let h = within_full left i there in
      let e = pending_less (length calls) calls left i j (omega arith) there in
      omega arith

  new_free : pending (length calls) calls (set left i 0) i ≡ 0
  new_free = stays_free i none

  -- the first places are as they were
  was_placed : (k j : ℕ) → k ≤ length order → HasPlace (order ++ i ∷ []) k j → HasPlace order k j
  was_placed k j le p = elim (get_pushed order i p.0 j p.2) [
    | inl was ↦ (p.0, p.1, was)
    | inr new ↦ let b = p.1 in let e = new.0 in absurd (omega arith)
  ]

  more_later : (a m k b j : ℕ) → slice_get (order ++ i ∷ []) a ≡ Some m → IsCall calls m k j → slice_get (order ++ i ∷ []) b ≡ Some j → a < b
  more_later a m k b j e call f = elim (get_pushed order i a m e) [
    | inl wasa ↦ elim (get_pushed order i b j f) [
      | inl wasb ↦ old.later a m k b j wasa call wasb
      | inr newb ↦ let h = slice_get_within order a m wasa in let n = newb.0 in omega arith
    ]
    | inr newa ↦
        let mine : IsCall calls i k j = subst (λ x. IsCall calls x k j) (sym newa.1) call in
        elim (get_pushed order i b j f) [
          | inl wasb ↦ absurd (not_called j k (old.free b j wasb) mine)
          | inr newb ↦ absurd (not_called j k (subst (λ x. pending (length calls) calls left x ≡ 0) newb.1 none) mine)
        ]
  ]

  not_twice : (a m : ℕ) → slice_get order a ≡ Some m → i ≡ m → ⊥
  not_twice a m e same = let g = old.gone a m e in let f = ap (slice_index left) same in absurd (omega arith)

  more_once : IsOnce (order ++ i ∷ [])
  more_once a b m e f = elim (get_pushed order i a m e) [
    | inl wasa ↦ elim (get_pushed order i b m f) [
      | inl wasb ↦ old.once a b m wasa wasb
      | inr newb ↦ absurd (not_twice a m wasa newb.1)
    ]
    | inr newa ↦ elim (get_pushed order i b m f) [
      | inl wasb ↦ absurd (not_twice b m wasb newa.1)
      | inr newb ↦ newa.0 ∙ sym newb.0
    ]
  ]

  -- who may be next is left
  is_left : (j : ℕ) → IsReady calls start (order ++ i ∷ []) (length order) j → 0 < slice_index left j
  is_left j r = elim (cases_lt 0 (slice_index left j)) [
    | inl m ↦ m
    | inr z ↦
        let w = old.placed j (marks.complete j r.reached) (omega arith) in
        absurd (r.placeless (w.0, slice_get_within order w.0 j w.1, get_front order (i ∷ []) w.0 j w.1))
  ]

  -- and waits for no call
  is_free : (j : ℕ) → IsReady calls start (order ++ i ∷ []) (length order) j → pending (length calls) calls left j ≡ 0
  is_free j r = elim (cases_lt 0 (pending (length calls) calls left j)) [
    | inl full ↦
        let w = pending_who (length calls) calls left j full in
        let p = was_placed (length order) w.0 (omega arith) (r.callers w.0 w.2.0 (marks.sound w.0 (old.within w.0 w.1)) w.2.1) in
        let g = old.gone p.0 w.0 p.2 in
        let m = w.1 in
        absurd (omega arith)
    | inr z ↦ omega arith
  ]

  was_ready : (k j : ℕ) → k ≤ length order → IsReady calls start (order ++ i ∷ []) k j → IsReady calls start order k j
  was_ready k j le r = record {
    reached = r.reached;
    placeless = λ p. r.placeless (p.0, p.1, get_front order (i ∷ []) p.0 j p.2);
    callers = λ m c reach call. was_placed k m le (r.callers m c reach call);
  }

  pub begun_more : ((j : ℕ) → 0 < slice_index left j → pending (length calls) calls left j ≡ 0 → i ≤ j)
      → IsBegun calls start seen (set left i 0) (order ++ i ∷ [])
  begun_more first = record {
    placed = λ j m z. elim (cases_eq j i) [
      | inl same ↦ (length order, subst (λ x. slice_get (order ++ i ∷ []) (length order) ≡ Some x) (sym same) (get_last order i))
      | inr other ↦ let w = old.placed j m (sym (set_other left i 0 j other) ∙ z) in (w.0, get_front order (i ∷ []) w.0 j w.1)
    ];
    gone = λ b j e. elim (get_pushed order i b j e) [
      | inl was ↦ still_gone j (old.gone b j was)
      | inr new ↦ subst (λ x. slice_index (set left i 0) x ≡ 0) new.1 (set_here left i 0 (within_full left i there))
    ];
    reached = λ b j e. elim (get_pushed order i b j e) [
      | inl was ↦ old.reached b j was
      | inr new ↦ subst (λ x. 0 < slice_index seen x) new.1 (old.within i there)
    ];
    within = λ j m. old.within j (back j m);
    free = λ b j e. elim (get_pushed order i b j e) [
      | inl was ↦ stays_free j (old.free b j was)
      | inr new ↦ subst (λ x. pending (length calls) calls (set left i 0) x ≡ 0) new.1 new_free
    ];
    later = more_later;
    once = more_once;
    least = λ k m j e r. elim (get_pushed order i k m e) [
      | inl was ↦ let h = slice_get_within order k m was in old.least k m j was (was_ready k j (omega arith) r)
      | inr new ↦
          let here : IsReady calls start (order ++ i ∷ []) (length order) j = subst (λ n. IsReady calls start (order ++ i ∷ []) n j) new.0 r in
          let f = first j (is_left j here) (is_free j here) in
          let same = new.1 in
          omega arith
    ];
  }

-- whom one calls that is left is left
pub calls_left : (calls : List (List ℕ)) (start : ℕ) (seen left order : List ℕ) (i : ℕ) → MarksReached calls start seen
    → IsBegun calls start seen left order → 0 < slice_index left i → (k j : ℕ) → IsCall calls i k j → 0 < slice_index left j
calls_left calls start seen left order i marks begun there k j call =
    elim (cases_lt 0 (slice_index left j)) [
      | inl m ↦ m
      | inr z ↦
          let m = marks.complete j (reaches_on calls start i j k (marks.sound i (begun.within i there)) call) in
          let w = begun.placed j m (omega arith) in
          let f = begun.free w.0 j w.1 in
          let p = pending_some (length calls) calls left i k j (caller_within calls i k j call) there call in
          absurd (omega arith)
    ]

-- ---- at the start

pub start_free : (calls : List (List ℕ)) (start : ℕ) (seen : List ℕ) → CanFall calls → MarksReached calls start seen → pending (length calls) calls seen start ≡ 0
start_free calls start seen falls marks =
    elim (cases_lt 0 (pending (length calls) calls seen start)) [
      | inl full ↦
          let w = pending_who (length calls) calls seen start full in
          let r : IsRecursive calls w.0 w.2.0 = record { called = start; is_call = w.2.1; comes_back = marks.sound w.0 w.1 } in
          absurd (none_recursive calls falls.0 falls.1 w.0 w.2.0 r)
      | inr z ↦ omega arith
    ]

pub only_start : (calls : List (List ℕ)) (start : ℕ) (seen : List ℕ) → MarksReached calls start seen
    → (j : ℕ) → 0 < slice_index seen j → pending (length calls) calls seen j ≡ 0 → start ≡ j
only_start calls start seen marks j m z =
    let r = marks.sound j m in
    elim (last_call calls r.0 start j r.1) [
      | inl same ↦ same
      | inr l ↦
          let p = pending_some (length calls) calls seen l.0 l.1 j (caller_within calls l.0 l.1 j l.3) (marks.complete l.0 l.2) l.3 in
          absurd (omega arith)
    ]

-- ---- at the end

-- numbers have a greatest one
abbrev top_of : List ℕ → ℕ
top_of [] = 0
top_of (x ∷ xs) = x + top_of xs

below_top : (xs : List ℕ) → AtMost xs (top_of xs)
below_top [] i = omega arith
below_top (x ∷ xs) zero = omega arith
below_top (x ∷ xs) (suc i) = let h = below_top xs i in omega arith

climb : (calls : List (List ℕ)) (numbers left : List ℕ) (top : ℕ) → Falls calls numbers → AtMost numbers top
    → ((j : ℕ) → 0 < slice_index left j → 0 < pending (length calls) calls left j)
    → (fuel j : ℕ) → top < slice_index numbers j + fuel → 0 < slice_index left j → ⊥
climb calls numbers left top falls most awaited zero j h m = let b = most j in absurd (omega arith)
climb calls numbers left top falls most awaited (suc fuel) j h m =
    let w = pending_who (length calls) calls left j (awaited j m) in
    let up = falls w.0 w.2.0 j w.2.1 in
    climb calls numbers left top falls most awaited fuel w.0 (omega arith) w.1

-- where nobody is left who waits for no call, nobody is left
pub none_left : (calls : List (List ℕ)) (left : List ℕ) → CanFall calls → ((j : ℕ) → 0 < slice_index left j → 0 < pending (length calls) calls left j)
    → (j : ℕ) → slice_index left j ≡ 0
none_left calls left falls awaited j =
    elim (cases_lt 0 (slice_index left j)) [
      | inl m ↦ absurd (climb calls falls.0 left (top_of falls.0) falls.1 (below_top falls.0) awaited (suc (top_of falls.0)) j (omega arith) m)
      | inr z ↦ omega arith
    ]

pub all_later : (calls : List (List ℕ)) (start : ℕ) (seen left order : List ℕ) → MarksReached calls start seen → IsBegun calls start seen left order
    → ((j : ℕ) → slice_index left j ≡ 0) → IsInOrder calls order
all_later calls start seen left order marks begun none a i k j e call =
    let m = marks.complete j (reaches_on calls start i j k (marks.sound i (begun.reached a i e)) call) in
    let w = begun.placed j m (none j) in
    (w.0, begun.later a i k w.0 j e call w.1, w.1)

-- ---- the measure: how many aren't left

pub zeros_gone : (xs : List ℕ) (i : ℕ) → 0 < slice_index xs i → zeros (set xs i 0) ≡ zeros xs + 1
zeros_gone [] i h = absurd (omega arith)
zeros_gone (x ∷ xs) zero h = go (nat_eq x 0) (ne_eqb x 0 (λ e. absurd (omega arith)))
  where
    go : (b : Bool) → b ≡ false → 1 + zeros xs ≡ cond b 1 0 + zeros xs + 1
    go true e = absurd cc
    go false e = omega arith
zeros_gone (x ∷ xs) (suc i) h = let e = zeros_gone xs i h in omega arith

pub zeros_within : (xs : List ℕ) → zeros xs ≤ length xs
zeros_within [] = omega arith
zeros_within (x ∷ xs) = let h = zeros_within xs in go (nat_eq x 0) h
  where
    go : (b : Bool) → zeros xs ≤ length xs → cond b 1 0 + zeros xs ≤ suc (length xs)
    go true h = omega arith
    go false h = omega arith
