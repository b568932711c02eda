-- Each access and each print of a run is seen; and of two that are seen, what is told of their order is the least order.
use Rattle.std.proofs.Common.{◌≡◌, ℕ, zero, suc, ◌+◌, ◌⊎◌, Bool, true, false, true≢false, List, [], ◌∷◌, ◌++◌, Some, refl, sym, ap, ◌∙◌}
use Rattle.std.proofs.Common.{subst, arith}
use Rattle.std.specs.Prelude.{slice_get, pred, if◌then◌else◌}
use Rattle.std.proofs.lemmas.Option.{none-some, same_Some}
use Rattle.xk_races.specs.declared.deeds.Deed.{Deed}
use Rattle.xk_races.specs.Knowledge.{Known, Sight, after, is_sight, nothing_known, sight, sights_from, sights_of, comes_before}
use Rattle.xk_races.specs.Order.{IsAt, Before}
use Rattle.xk_races.proofs.OrderLemmas.{IsUpTo}
use Rattle.xk_races.proofs.SightLemmas.{order_is_exact}

-- the deed of this number among what is seen
pub record IsSight (ds : List Deed) (k : ℕ) (d : Deed) : Type 0 where
  pub place : ℕ
  pub sight : Sight
  pub there : slice_get (sights_of ds) place ≡ Some sight
  pub number : sight.number ≡ suc k
  pub deed : sight.deed ≡ d

record IsSightFrom (sights : List Sight) (k : ℕ) (d : Deed) : Type 0 where
  place : ℕ
  seen : Sight
  there : slice_get sights place ≡ Some seen
  number : seen.number ≡ suc k
  same : seen.deed ≡ d

sight_from : (known : Known) (n : ℕ) (rest : List Deed) (k : ℕ) (d : Deed) → slice_get rest k ≡ Some d → is_sight d.part ≡ true
    → IsSightFrom (sights_from known n rest) (n + k) d
sight_from known n [] k d at h = absurd (none-some d at)
sight_from known n (e ∷ es) zero d at h = by (is_sight e.part) refl
  where
    is : e ≡ d
    is = same_Some e d at

    by : (b : Bool) → is_sight e.part ≡ b
        → IsSightFrom ((if b then sight (suc n) e (after (suc n) e known) ∷ [] else [])
        ++ sights_from (after (suc n) e known) (suc n) es) (n + zero) d
    by true g = record { place = 0; seen = sight (suc n) e (after (suc n) e known); there = refl; number = omega arith; same = is }
    by false g = absurd (true≢false (sym h ∙ ap (λ (c : Deed). is_sight c.part) (sym is) ∙ g))
sight_from known n (e ∷ es) (suc k) d at h = by (is_sight e.part) (sight_from (after (suc n) e known) (suc n) es k d at h)
  where
    by : (b : Bool) → IsSightFrom (sights_from (after (suc n) e known) (suc n) es) (suc n + k) d
        → IsSightFrom ((if b then sight (suc n) e (after (suc n) e known) ∷ [] else [])
        ++ sights_from (after (suc n) e known) (suc n) es) (n + suc k) d
    by true r =
        record { place = suc r.place; seen = r.seen; there = r.there; number = (let i = r.number in omega (arith, i)); same = r.same }
    by false r = record { place = r.place; seen = r.seen; there = r.there; number = (let i = r.number in omega (arith, i)); same = r.same }

-- each access and each print is seen
pub sight_of : (ds : List Deed) (k : ℕ) (d : Deed) → IsAt ds k d → is_sight d.part ≡ true → IsSight ds k d
sight_of ds k d at h =
    let r = sight_from nothing_known 0 ds k d at h in
    record { place = r.place; sight = r.seen; there = r.there; number = (let i = r.number in omega (arith, i)); deed = r.same }

-- of two of which the one is told to come before the other, it does, or they are one
pub sight_up : (ds : List Deed) (k j : ℕ) (d e : Deed) (x : IsSight ds k d) (y : IsSight ds j e)
    → comes_before x.sight y.sight ≡ true → IsUpTo ds k j
sight_up ds k j d e x y before =
    subst (λ i. (i ≡ j) ⊎ Before ds i j) (ap pred x.number)
    (subst (λ i. (pred x.sight.number ≡ i) ⊎ Before ds (pred x.sight.number) i) (ap pred y.number)
    ((order_is_exact ds).sound x.place y.place x.sight y.sight x.there y.there before))
