-- Where there are more races than are shown, the first ones tell what all tell.
use Rattle.std.proofs.Common.{◌≡◌, ◌∙◌, suc, ◌<◌, min, Bool, true, false, List, [], ◌∷◌, ◌++◌}
use Rattle.std.proofs.Common.{length, take, Option, refl, sym, ap, arith}
use Rattle.std.specs.Prelude.{nat_le, if◌then◌else◌}
use Rattle.std.specs.List.{list_any}
use Rattle.std.proofs.lemmas.Bool.{leb-true, leb-false, lt-leb}
use Rattle.std.proofs.lemmas.List.{append_assoc, append-nil, length-take, take-append-le, take-take}
use Rattle.xk_show_events.specs.Events.{PlacesValue}
use Rattle.xk_races.specs.declared.pairs.Race.{Race}
use Rattle.xk_races.specs.declared.pairs.Gap.{Gap}
use Rattle.xk_races.specs.Knowledge.{Sight}
use Rattle.xk_races.specs.Races.{have_same_places, is_race, race, races_from, with_race, with_races_of}
use Rattle.xk_races.specs.Text.{AreEnough, are_all_shown, closing_text, count_line, most_shown, print_line_if_free, scope_line}

-- ---- a list of races only grows

-- it begins with the first one
abbrev Extends : List Race → List Race → Type 0
Extends list longer = (rest : List Race) × (longer ≡ list ++ rest)

further : (a b c : List Race) → Extends a b → Extends b c → Extends a c
further a b c p q = (p.0 ++ q.0, q.1 ∙ ap (λ l. l ++ q.0) p.1 ∙ append_assoc a p.0 q.0)

same_list : (list : List Race) → Extends list list
same_list list = ([], sym (append-nil list))

with_extends : (r : Race) (list : List Race) → Extends list (with_race r list)
with_extends r list = of (list_any (have_same_places r) list)
  where
    of : (b : Bool) → Extends list (if b then list else list ++ r ∷ [])
    of true = same_list list
    of false = (r ∷ [], refl)

of_extends : (y : Sight) (xs : List Sight) (list : List Race) → Extends list (with_races_of y xs list)
of_extends y [] list = same_list list
of_extends y (x ∷ xs) list = by (is_race x y) (of_extends y xs)
  where
    by : (b : Bool) → ((l : List Race) → Extends l (with_races_of y xs l))
        → Extends list (with_races_of y xs (if b then with_race (race x y) list else list))
    by true rest =
        let more = with_race (race x y) list in
        further list more (with_races_of y xs more) (with_extends (race x y) list) (rest more)
    by false rest = rest list

from_extends : (earlier ys : List Sight) (list : List Race) → Extends list (races_from earlier ys list)
from_extends earlier [] list = same_list list
from_extends earlier (y ∷ ys) list =
    let more = with_races_of y earlier list in
    further list more (races_from (earlier ++ y ∷ []) ys more) (of_extends y earlier list) (from_extends (earlier ++ y ∷ []) ys more)

-- those that are found first are enough, where they are more than are shown
pub enough_early : (earlier ys : List Sight) (list all : List Race) → races_from earlier ys list ≡ all → most_shown < length list
    → AreEnough list all
enough_early earlier ys list all is more =
    let e = from_extends earlier ys list in
    sym (take-append-le (suc most_shown) list e.0 (omega (arith, more))) ∙ ap (take (suc most_shown)) (sym e.1 ∙ is)

-- ---- what is told of them

pub told_first : (rs all : List Race) → AreEnough rs all → take most_shown rs ≡ take most_shown all
told_first rs all h =
    sym (take-take most_shown (suc most_shown) rs (omega arith)) ∙ ap (take most_shown) h
    ∙ take-take most_shown (suc most_shown) all (omega arith)

least_alike : (rs all : List Race) → AreEnough rs all → min (suc most_shown) (length rs) ≡ min (suc most_shown) (length all)
least_alike rs all h = sym (length-take (suc most_shown) rs) ∙ ap length h ∙ length-take (suc most_shown) all

-- where they are no more than are shown, they are as many as all
few_alike : (rs all : List Race) → AreEnough rs all → are_all_shown rs ≡ true → length rs ≡ length all
few_alike rs all h e = omega (arith, least_alike rs all h, leb-true (length rs) most_shown e)

-- where they are more than are shown, so are all
many_alike : (rs all : List Race) → AreEnough rs all → are_all_shown rs ≡ false → are_all_shown all ≡ false
many_alike rs all h e =
    lt-leb (length all) most_shown (omega (arith, least_alike rs all h, leb-false (length rs) most_shown e))

pub whole_alike : (rs all : List Race) → AreEnough rs all → are_all_shown rs ≡ are_all_shown all
whole_alike rs all h = of (are_all_shown rs) refl
  where
    of : (b : Bool) → are_all_shown rs ≡ b → are_all_shown rs ≡ are_all_shown all
    of true e = ap (λ n. nat_le n most_shown) (few_alike rs all h e)
    of false e = e ∙ sym (many_alike rs all h e)

count_alike : (rs all : List Race) → AreEnough rs all → count_line (length rs) ≡ count_line (length all)
unfolding count_line
count_alike rs all h = of (are_all_shown rs) refl
  where
    of : (b : Bool) → are_all_shown rs ≡ b → count_line (length rs) ≡ count_line (length all)
    of true e = ap count_line (few_alike rs all h e)
    of false e =
        let so : nat_le (length all) most_shown ≡ false = many_alike rs all h e in
        rw (e, so) refl

print_alike : (p : PlacesValue) (rs all : List Race) (g : Option Gap) → AreEnough rs all
    → print_line_if_free p rs g ≡ print_line_if_free p all g
print_alike p [] [] g h = refl
print_alike p [] (q ∷ all) g h = absurd (cc)
print_alike p (r ∷ rs) [] g h = absurd (cc)
print_alike p (r ∷ rs) (q ∷ all) g h = refl

scope_alike : (rs all : List Race) (g : Option Gap) → AreEnough rs all → scope_line rs g ≡ scope_line all g
scope_alike [] [] g h = refl
scope_alike [] (q ∷ all) g h = absurd (cc)
scope_alike (r ∷ rs) [] g h = absurd (cc)
scope_alike (r ∷ rs) (q ∷ all) g h = refl

pub closing_alike : (p : PlacesValue) (rs all : List Race) (g : Option Gap) → AreEnough rs all → closing_text p rs g ≡ closing_text p all g
closing_alike p rs all g h =
    ap (λ l. (l ++ print_line_if_free p rs g) ++ scope_line rs g) (count_alike rs all h)
    ∙ ap (λ l. (count_line (length all) ++ l) ++ scope_line rs g) (print_alike p rs all g h)
    ∙ ap (λ l. (count_line (length all) ++ print_line_if_free p all g) ++ l) (scope_alike rs all g h)
