-- Remarks that are added to a list.
use Rattle.std.proofs.Common.{◌≡◌, Bool, true, false, List, [], ◌∷◌, ◌++◌, ◌+◌, suc, refl, ap, cond, arith}
use Rattle.std.specs.Prelude.{nat_lt, not, if◌then◌else◌}
use Rattle.std.specs.List.{insert}
use Rattle.xk_hints.specs.declared.remark.Remark.{Remark}
use Rattle.xk_hints.specs.Hints.{place_among, placed, remark_value, remarks_here}

pub remarks_push : (rs : List Remark) (r : Remark) → remarks_here (rs ++ r ∷ []) ≡ remarks_here rs ++ remark_value r ∷ []
remarks_push [] r = refl
remarks_push (s ∷ rs) r = ap (λ q. remark_value s ∷ q) (remarks_push rs r)

-- one that is put where it belongs
pub remarks_insert : (rs : List Remark) (r : Remark)
    → remarks_here (insert rs (place_among r.name.at rs) r) ≡ placed (remark_value r) (remarks_here rs)
remarks_insert [] r = refl
remarks_insert (q ∷ rs) r = by (nat_lt r.name.at q.name.at) (remarks_insert rs r)
  where
    by : (b : Bool)
        → remarks_here (insert rs (place_among r.name.at rs) r) ≡ placed (remark_value r) (remarks_here rs)
        → remarks_here (insert (q ∷ rs) (cond (not b) (1 + place_among r.name.at rs) 0) r)
        ≡ (if b then remark_value r ∷ (remark_value q ∷ remarks_here rs) else remark_value q ∷ placed (remark_value r) (remarks_here rs))
    by true ih = refl
    by false ih =
        let one : 1 + place_among r.name.at rs ≡ suc (place_among r.name.at rs) = omega arith in
        rw one (ap (λ w. remark_value q ∷ w) ih)
