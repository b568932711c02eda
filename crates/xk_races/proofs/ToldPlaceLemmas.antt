-- The set of keys that is kept beside the list of races.
use Rattle.std.proofs.Common.{◌≡◌, ◌∙◌, ℕ, Bool, true, false, ◌&&◌, ◌||◌, List, [], ◌∷◌, ◌++◌, refl, sym, ap, arith}
use Rattle.std.specs.Prelude.{cond, nat_eq, nat_lt}
use Rattle.std.specs.declared.cmp.Ordering.{Ordering}
use Rattle.std.specs.declared.cmp.Ordering.TheVariants.{Less, Equal, Greater}
use Rattle.std.specs.Ordering.{nat_cmp, ordering_then, is_eq}
use Rattle.std.specs.BTreeSet.{BTreeSet, contains, Updates}
use Rattle.std.specs.List.{list_any}
use Rattle.std.proofs.lemmas.Bool.{ltb-true, ne_eqb}
use Rattle.std.proofs.lemmas.Cmp.{nat_eq_equiv}
use Rattle.std.proofs.lemmas.List.Folds.{list_any-append}
use Rattle.xk_show_events.specs.declared.steps.RunStep.{RunStep}
use Rattle.xk_races_summary.specs.Accesses.{is_same_place}
use Rattle.xk_races.specs.declared.pairs.Race.{Race}
use Rattle.xk_races.specs.Races.{have_same_places}
use Rattle.xk_races.specs.ToldPlaces.{Key, AreTold, key, key_back, key_cmp, text_place, text_place_cmp}

-- ---- keys that are the same

tied_then : (a b : Ordering) → is_eq (ordering_then a b) ≡ (is_eq a && is_eq b)
tied_then Less b = refl
tied_then Equal b = refl
tied_then Greater b = refl

pub tied : (m n : ℕ) → is_eq (nat_cmp m n) ≡ nat_eq n m
tied m n = of (nat_lt m n) refl ∙ nat_eq_equiv.symm m n
  where
    last : (b : Bool) → is_eq (cond b Equal Greater) ≡ b
    last true = refl
    last false = refl

    of : (b : Bool) → nat_lt m n ≡ b → is_eq (cond b Less (cond (nat_eq m n) Equal Greater)) ≡ nat_eq m n
    of true e = let lt = ltb-true m n e in sym (ne_eqb m n (λ same. omega (arith, lt, same)))
    of false e = last (nat_eq m n)

same_place : (s t : RunStep) → is_eq (text_place_cmp (text_place s) (text_place t)) ≡ is_same_place t s
same_place s t =
    tied_then (nat_cmp s.unit t.unit) (nat_cmp s.place t.place) ∙ ap (λ b. b && is_eq (nat_cmp s.place t.place)) (tied s.unit t.unit)
    ∙ ap (λ b. nat_eq t.unit s.unit && b) (tied s.place t.place)

same_key : (c d : ℕ) (s t u v : RunStep) → is_eq (key_cmp (c, text_place s, text_place t) (d, text_place u, text_place v))
    ≡ ((nat_eq d c && is_same_place u s) && is_same_place v t)
same_key c d s t u v =
    tied_then (ordering_then (nat_cmp c d) (text_place_cmp (text_place s) (text_place u))) (text_place_cmp (text_place t) (text_place v))
    ∙ ap (λ b. b && is_eq (text_place_cmp (text_place t) (text_place v))) (tied_then (nat_cmp c d) (text_place_cmp (text_place s) (text_place u)))
    ∙ ap (λ b. (b && is_eq (text_place_cmp (text_place s) (text_place u))) && is_eq (text_place_cmp (text_place t) (text_place v))) (tied c d)
    ∙ ap (λ b. (nat_eq d c && b) && is_eq (text_place_cmp (text_place t) (text_place v))) (same_place s u)
    ∙ ap (λ b. (nat_eq d c && is_same_place u s) && b) (same_place t v)

-- ---- one more

both_orders : (a b c d e : Bool) → (((a && b) && c) || ((a && e) && d)) ≡ ((a && ((b && c) || (d && e))) || false)
both_orders false b c d e = refl
both_orders true true true d e = refl
both_orders true true false true true = refl
both_orders true true false true false = refl
both_orders true true false false true = refl
both_orders true true false false false = refl
both_orders true false c true true = refl
both_orders true false c true false = refl
both_orders true false c false true = refl
both_orders true false c false false = refl

either_added : (e f c d : Bool) → (cond e true c || cond f true d) ≡ ((c || d) || (e || f))
either_added true f true d = refl
either_added true f false true = refl
either_added true f false false = refl
either_added false true true d = refl
either_added false true false true = refl
either_added false true false false = refl
either_added false false true d = refl
either_added false false false true = refl
either_added false false false false = refl

pub told_added : (races : List Race) (told new : BTreeSet Key) (r : Race) → AreTold races told → Updates key_cmp told new (key r) true
    → AreTold (races ++ r ∷ []) new
told_added races told new r old more =
    λ q.
    let first = is_eq (key_cmp (key r) (key q)) in
    let second = is_eq (key_cmp (key r) (key_back q)) in
    let had = contains key_cmp told (key q) in
    let had_back = contains key_cmp told (key_back q) in
    ap (λ b. b || contains key_cmp new (key_back q)) (more.0 (key q)) ∙ ap (λ b. cond first true had || b) (more.0 (key_back q))
    ∙ either_added first second had had_back
    ∙ ap (λ b. b || (first || second)) (old q)
    ∙ ap (λ b. list_any (have_same_places q) races || (b || second)) (same_key r.cell q.cell r.first r.second q.first q.second)
    ∙ ap (λ b. list_any (have_same_places q) races || (((nat_eq q.cell r.cell && is_same_place q.first r.first) && is_same_place q.second r.second) || b))
    (same_key r.cell q.cell r.first r.second q.second q.first)
    ∙ ap (λ b. list_any (have_same_places q) races || b)
    (both_orders (nat_eq q.cell r.cell) (is_same_place q.first r.first) (is_same_place q.second r.second) (is_same_place q.first r.second) (is_same_place q.second r.first))
    ∙ sym (list_any-append (have_same_places q) races (r ∷ []))
