-- The search for one who can take a step and isn't claimed.
use Rattle.std.proofs.Common.{◌≡◌, ◌∙◌, ℕ, suc, ◌-◌, ◌<◌, ◌≤◌, Bool, true, List, length, get_or, All, Option, Some, None, slice_get, ◌⊎◌, inl, inr, sym, ap, arith}
use Rattle.std.proofs.lemmas.Bool.{cases_eq, cases_lt}
use Rattle.std.proofs.lemmas.Option.{same_Some, slice_get-get_or, slice_get_within}
use Rattle.std.proofs.lemmas.List.Elements.{All-from_get_or}
use Rattle.xk_collections.specs.NumberSets.{IsRising, place_above}
use Rattle.xk_collections.proofs.MemberListLemmas.{at, nobody, place_behind}
use Rattle.xk_collections.proofs.RisingListLemmas.{rising_up}
use Rattle.xk_workers.specs.Claims.{is_claimed}

-- the next to look at stands at a place of the list, and all before it are claimed
pub record IsSeeking (claims : List Bool) (list : List ℕ) (next : Option ℕ) : Type 0 where
  pub place : ℕ
  pub next_is : next ≡ slice_get list place
  pub behind : (i x : ℕ) → i < place → slice_get list i ≡ Some x → is_claimed claims x ≡ true

pub seeks_on : (claims : List Bool) (list : List ℕ) (k : ℕ) (next : Option ℕ) → IsRising list → IsSeeking claims list (Some k) → is_claimed claims k ≡ true
    → next ≡ slice_get list (place_above k list) → IsSeeking claims list next
seeks_on claims list k next up h claimed e = record {
  place = suc h.place;
  next_is = e ∙ ap (slice_get list) (place_behind list h.place k up (sym h.next_is));
  behind = λ i x below at. here_or_before i x (cases_eq i h.place) below at;
}
  where
    here_or_before : (i x : ℕ) → (i ≡ h.place) ⊎ (i ≡ h.place → ⊥) → i < suc h.place → slice_get list i ≡ Some x → is_claimed claims x ≡ true
    here_or_before i x (inl s) below at = ap (is_claimed claims) (same_Some x k (sym at ∙ ap (slice_get list) s ∙ sym h.next_is)) ∙ claimed
    here_or_before i x (inr ne) below at = h.behind i x (omega arith) at

-- where there is nobody more to look at, all are claimed
pub seeks_no_more : (claims : List Bool) (list : List ℕ) → IsSeeking claims list None → All (λ a. is_claimed claims a ≡ true) list
seeks_no_more claims list h =
    let end : length list ≤ h.place = nobody list h.place (sym h.next_is) in
    All-from_get_or (λ a. is_claimed claims a ≡ true) list 0
    (λ i inside. h.behind i (get_or list i 0) (omega arith) (slice_get-get_or list i 0 inside))

-- where it ends with one, each lesser one is claimed
pub seeks_least : (claims : List Bool) (list : List ℕ) (a : ℕ) → IsRising list → IsSeeking claims list (Some a)
    → All (λ b. b < a → is_claimed claims b ≡ true) list
seeks_least claims list a up h = All-from_get_or (λ b. b < a → is_claimed claims b ≡ true) list 0 (λ i inside less. by_place i inside less (cases_lt i h.place))
  where
    by_place : (i : ℕ) → i < length list → get_or list i 0 < a → (i < h.place) ⊎ (h.place ≤ i) → is_claimed claims (get_or list i 0) ≡ true
    by_place i inside less (inl before) = h.behind i (get_or list i 0) before (slice_get-get_or list i 0 inside)
    by_place i inside less (inr there) =
        let rises : get_or list h.place 0 ≤ get_or list i 0 = rising_up list up h.place i there inside in
        let here : get_or list h.place 0 ≡ a = at list h.place a (sym h.next_is) in
        absurd (omega arith)

-- how many are still to be looked at
abbrev pub left_of : Option ℕ → List ℕ → ℕ
left_of None list = 0
left_of (Some k) list = suc (length list) - place_above k list

pub less_left : (claims : List Bool) (list : List ℕ) (k : ℕ) (next : Option ℕ) → IsRising list → IsSeeking claims list (Some k)
    → next ≡ slice_get list (place_above k list) → left_of next list < left_of (Some k) list
less_left claims list k next up h e = of next e
  where
    inside : h.place < length list
    inside = slice_get_within list h.place k (sym h.next_is)

    here : place_above k list ≡ suc h.place
    here = place_behind list h.place k up (sym h.next_is)

    of : (o : Option ℕ) → o ≡ slice_get list (place_above k list) → left_of o list < left_of (Some k) list
    of None f = omega (arith, inside, here)
    of (Some x) f = omega (arith, inside, here, place_behind list (place_above k list) x up (sym f))
