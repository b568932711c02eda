-- What is told by the accesses that stand for all earlier ones is what is told by all.
use Rattle.std.proofs.Common.{◌≡◌, ◌∙◌, ℕ, zero, suc, ◌<◌, ◌≤◌, Bool, true, false, not, ◌||◌, List, [], ◌∷◌, ◌++◌, Some, None, length, replicate, slice_get, ◌⊎◌, inl, inr, refl, sym, ap, subst, arith}
use Rattle.std.specs.Prelude.{if◌then◌else◌, flat_map, map, nat_eq, nat_le, slice_set}
use Rattle.std.specs.List.{list_any}
use Rattle.std.specs.List.Sorted.{IsPermutation, IsSorted}
use Rattle.std.specs.Ordering.{nat_cmp}
use Rattle.std.proofs.lemmas.List.Sorted.{IsNonDecreasingBy-from_sort, list_any-IsPermutation}
use Rattle.std.proofs.lemmas.Bool.{cases_eq, and_parts, and_from, or_cases, eqb-true, leb-false, lt-leb, false≢true, true≢false, not-true, or_left, or_right}
use Rattle.std.proofs.lemmas.List.{append-nil, get_or-set_same, get_or-set_other}
use Rattle.std.proofs.lemmas.List.Folds.{list_any-append}
use Rattle.xk_types.specs.declared.world.Event.{Event}
use Rattle.xk_types.specs.declared.world.Event.TheVariants as event
use Rattle.xk_races_summary.specs.declared.access.Access.{Access}
use Rattle.xk_races_summary.specs.declared.access.Detail.{Detail}
use Rattle.xk_races_summary.specs.declared.access.Detail.TheVariants.{Activity, Place}
use Rattle.xk_races_summary.specs.declared.access.AccessKind.{AccessKind}
use Rattle.xk_races_summary.specs.declared.access.AccessKind.TheVariants.{Read, Addition}
use Rattle.xk_races.specs.declared.deeds.Part.{Part}
use Rattle.xk_races.specs.declared.deeds.Part.TheVariants as part
use Rattle.xk_races.specs.declared.pairs.Race.{Race}
use Rattle.xk_races.specs.Lists.{number_at}
use Rattle.xk_races.specs.Knowledge.{Sight}
use Rattle.xk_races.specs.Races.{clash, have_one_number, have_same_places, is_race, race, with_race, with_races_of}
use Rattle.xk_races.specs.Accesses.{AreAllCovered, AreCovered, access_of, cell_accessed, is_new, is_race_of, latest_at, new_members, race_of, sights_at}
use Rattle.xk_races_summary.specs.Accesses.{Group, IsCovered, Latest, covers, groups_of, has_member, is_placed, is_same_place, kind_of, none_yet, single}
use Rattle.xk_races_summary.proofs.AccessLemmas.{any_from, covers_parts, place_true}
use Rattle.xk_races.proofs.RowLemmas.{padded}
use Rattle.xk_races.proofs.RaceListLemmas.{one_behind}
use Rattle.xk_races.proofs.PlaceListLemmas.{some_tell_all}

-- ---- one that stands for another is in the races of that one

clash_kinds : AccessKind → AccessKind → Bool
clash_kinds Read Read = false
clash_kinds Addition Addition = false
clash_kinds k l = true

by_kind : (e f : Event) → clash e f ≡ clash_kinds (kind_of e) (kind_of f)
unfolding clash_kinds
by_kind event.Got event.Got = refl
by_kind event.Added event.Added = refl
by_kind event.Got f = refl
by_kind event.Added f = refl
by_kind e event.Got = refl
by_kind e event.Added = refl
by_kind e f = refl

same_clash : (e f g : Event) → kind_of e ≡ kind_of f → clash f g ≡ true → clash e g ≡ true
same_clash e f g same h = by_kind e g ∙ ap (λ k. clash_kinds k (kind_of g)) same ∙ sym (by_kind f g) ∙ h

-- who doesn't know an access doesn't know a later one
unknown : (m n k : ℕ) → m ≤ n → not (nat_le m k) ≡ true → not (nat_le n k) ≡ true
unknown m n k le h =
    let lt = leb-false m k (not-true (nat_le m k) h) in
    ap not (lt-leb n k (omega (arith, lt, le)))

race_kept : (d : Detail) (r x : Access) (y : Sight) → covers d r x ≡ true → is_race_of x y ≡ true → is_race_of r y ≡ true
race_kept d r x y c h =
    let g = covers_parts d r x c in
    let b = and_parts (clash x.step.event y.deed.step.event) (not (nat_le x.number (number_at y.row x.step.act))) h in
    and_from (clash r.step.event y.deed.step.event) (not (nat_le r.number (number_at y.row r.step.act)))
    (same_clash r.step.event x.step.event y.deed.step.event g.0.kind b.0)
    (unknown x.number r.number (number_at y.row r.step.act) g.1 (subst (λ a. not (nat_le x.number (number_at y.row a)) ≡ true) (sym g.0.act) b.1))

-- ---- and at the same places, where it is of the same place

any_same : {X : Type 0} (f g : X → Bool) (xs : List X) → ((x : X) → f x ≡ g x) → list_any f xs ≡ list_any g xs
any_same f g [] h = refl
any_same f g (x ∷ xs) h = ap (λ b. b || list_any f xs) (h x) ∙ ap (λ b. g x || b) (any_same f g xs h)

same_pair : (r x : Access) (y : Sight) (q : Race) → r.step.unit ≡ x.step.unit → r.step.place ≡ x.step.place
    → have_same_places (race_of r y) q ≡ have_same_places (race_of x y) q
same_pair r x y q u p = rw (u, p) refl

told_same : (r x : Access) (y : Sight) (list : List Race) → is_same_place r.step x.step ≡ true
    → list_any (have_same_places (race_of r y)) list ≡ list_any (have_same_places (race_of x y)) list
told_same r x y list h =
    let p = place_true r.step x.step h in
    any_same (have_same_places (race_of r y)) (have_same_places (race_of x y)) list (λ q. same_pair r x y q p.0 p.1)

new_kept : (list : List Race) (y : Sight) (r x : Access) → covers Place r x ≡ true → is_new list y x ≡ true → is_new list y r ≡ true
new_kept list y r x c h =
    let b = and_parts (is_race_of x y) (not (list_any (have_same_places (race_of x y)) list)) h in
    let at = (covers_parts Place r x c).0.at in
    and_from (is_race_of r y) (not (list_any (have_same_places (race_of r y)) list)) (race_kept Place r x y c b.0)
    (ap not (told_same r x y list at) ∙ b.1)

-- ---- the members of those that are in a new race

new_among : (list : List Race) (y : Sight) (z : Access) (groups : List Group)
    → ((g : Group) → covers Place g.last z ≡ true → is_new list y g.last ≡ true) → is_placed groups z ≡ true
    → list_any (nat_eq z.position) (flat_map (new_members list y) groups) ≡ true
new_among list y z [] new h = absurd (false≢true h)
new_among list y z (g ∷ groups) new h =
    list_any-append (nat_eq z.position) (new_members list y g) (flat_map (new_members list y) groups)
    ∙ of (or_cases (has_member z g) (is_placed groups z) h) (new_among list y z groups new)
  where
    of : (has_member z g ≡ true) ⊎ (is_placed groups z ≡ true)
        → (is_placed groups z ≡ true → list_any (nat_eq z.position) (flat_map (new_members list y) groups) ≡ true)
        → (list_any (nat_eq z.position) (new_members list y g) || list_any (nat_eq z.position) (flat_map (new_members list y) groups)) ≡ true
    of (inl e) rest =
        let b = and_parts (covers Place g.last z) (list_any (nat_eq z.position) g.members) e in
        or_left (list_any (nat_eq z.position) (new_members list y g)) (list_any (nat_eq z.position) (flat_map (new_members list y) groups))
        (ap (λ c. list_any (nat_eq z.position) (if c then g.members else [])) (new g b.0) ∙ b.1)
    of (inr e) rest =
        or_right (list_any (nat_eq z.position) (new_members list y g)) (list_any (nat_eq z.position) (flat_map (new_members list y) groups)) (rest e)

-- ---- where nothing is added

nothing_added : (y : Sight) (xs : List Sight) (list : List Race) → ((p : ℕ) (x : Sight) → slice_get xs p ≡ Some x → is_race x y ≡ true → ⊥)
    → with_races_of y xs list ≡ list
nothing_added y [] list h = refl
nothing_added y (x ∷ xs) list h =
    ap (with_races_of y xs) (of (is_race x y) refl) ∙ nothing_added y xs list (λ p z at. h (suc p) z at)
  where
    of : (b : Bool) → is_race x y ≡ b → (if b then with_race (race x y) list else list) ≡ list
    of true e = absurd (h zero x refl e)
    of false e = refl

race_parts : (p : ℕ) (x y : Sight) → is_race x y ≡ true → (have_one_number x.deed.part y.deed.part ≡ true) × (is_race_of (access_of p x) y ≡ true)
race_parts p x y h = and_parts (have_one_number x.deed.part y.deed.part) (is_race_of (access_of p x) y) h

-- none of those that stand for all is in a race
pub no_race : (earlier : List Sight) (y : Sight) (l : Latest) (list : List Race) → AreCovered earlier y.deed.part l
    → list_any (λ r. is_race_of r y) l.of_activities ≡ false → with_races_of y earlier list ≡ list
no_race earlier y l list covered none = nothing_added y earlier list (λ p x at is. true≢false (sym (found p x at is) ∙ none))
  where
    found : (p : ℕ) (x : Sight) → slice_get earlier p ≡ Some x → is_race x y ≡ true → list_any (λ r. is_race_of r y) l.of_activities ≡ true
    found p x at is =
        let b = race_parts p x y is in
        any_from (λ r. covers Activity r (access_of p x)) (λ r. is_race_of r y) l.of_activities
        (λ r c. race_kept Activity r (access_of p x) y c b.1) (covered p x at b.0).0

-- the races with those of which the last one is in a new race, in their order, are all that are new
pub new_told : (earlier : List Sight) (y : Sight) (l : Latest) (list : List Race) (ps : List ℕ) → AreCovered earlier y.deed.part l → l.since ≡ []
    → IsPermutation (flat_map (new_members list y) l.of_places) ps → IsSorted nat_cmp ps
    → with_races_of y earlier list ≡ with_races_of y (sights_at earlier ps) list
new_told earlier y l list ps covered empty same sorted =
    some_tell_all earlier y ps list (IsNonDecreasingBy-from_sort (λ n. n) ps sorted) there
  where
    groups : groups_of l ≡ l.of_places
    groups = ap (λ xs. l.of_places ++ map single xs) empty ∙ append-nil l.of_places

    there : (p : ℕ) (x : Sight) → slice_get earlier p ≡ Some x → is_race x y ≡ true → list_any (have_same_places (race x y)) list ≡ false
        → list_any (nat_eq p) ps ≡ true
    there p x at is un =
        let b = race_parts p x y is in
        let z = access_of p x in
        let new : is_new list y z ≡ true =
        and_from (is_race_of z y) (not (list_any (have_same_places (race x y)) list)) b.1 (ap not un) in
        let placed = subst (λ gs. is_placed gs z ≡ true) groups (covered p x at b.0).1 in
        sym (list_any-IsPermutation (nat_eq p) (flat_map (new_members list y) l.of_places) ps same)
        ∙ new_among list y z l.of_places (λ g c. new_kept list y g.last z c new) placed

-- ---- those of all shared numbers

-- where those of one shared number have taken one of its accesses
pub all_covered : (earlier : List Sight) (y : Sight) (cells : List Latest) (c : ℕ) (new : Latest) → y.deed.part ≡ part.Access c → c < length cells
    → AreAllCovered earlier cells → AreCovered (earlier ++ y ∷ []) y.deed.part new → AreAllCovered (earlier ++ y ∷ []) (slice_set cells c new)
all_covered earlier y cells c new is lt old covered =
    λ k p x at one. of k p x at one (cases_eq k c)
  where
    of : (k : ℕ) (p : ℕ) (x : Sight) → slice_get (earlier ++ y ∷ []) p ≡ Some x → have_one_number x.deed.part (part.Access k) ≡ true
        → (k ≡ c) ⊎ (k ≡ c → ⊥) → IsCovered (latest_at (slice_set cells c new) k) (access_of p x)
    of k p x at one (inl same) =
        let there : latest_at (slice_set cells c new) k ≡ new =
        ap (latest_at (slice_set cells c new)) same ∙ get_or-set_same cells c new none_yet lt in
        let own = subst (λ a. have_one_number x.deed.part a ≡ true) (ap part.Access same ∙ sym is) one in
        subst (λ l. IsCovered l (access_of p x)) (sym there) (covered p x at own)
    of k p x at one (inr other) = earlier_one (one_behind earlier y p x at)
      where
        earlier_one : (slice_get earlier p ≡ Some x) ⊎ (x ≡ y) → IsCovered (latest_at (slice_set cells c new) k) (access_of p x)
        earlier_one (inl before) =
            subst (λ l. IsCovered l (access_of p x)) (sym (get_or-set_other cells c k new none_yet other)) (old k p x before one)
        earlier_one (inr same) =
            let own : have_one_number (part.Access c) (part.Access k) ≡ true =
            subst (λ a. have_one_number a (part.Access k) ≡ true) (ap (λ (s : Sight). s.deed.part) same ∙ is) one in
            absurd (other (sym (eqb-true c k own)))

pub all_covered_grown : (earlier : List Sight) (cells : List Latest) (n : ℕ) → AreAllCovered earlier cells
    → AreAllCovered earlier (cells ++ replicate n none_yet)
all_covered_grown earlier cells n old =
    λ k p x at one. subst (λ l. IsCovered l (access_of p x)) (sym (padded none_yet cells n k)) (old k p x at one)

-- where nothing was accessed

not_with : (a b : Part) → cell_accessed b ≡ None → have_one_number a b ≡ true → ⊥
not_with (part.Access s) (part.Access t) none one = absurd (is none)
  where
    is : Some t ≡ None → ⊥
    is e = cc
not_with a b none one = false≢true one

not_of : (a b : Part) → cell_accessed a ≡ None → have_one_number a b ≡ true → ⊥
not_of (part.Access s) b none one = absurd (is none)
  where
    is : Some s ≡ None → ⊥
    is e = cc
not_of a b none one = false≢true one

pub not_accessed : (earlier : List Sight) (y : Sight) (list : List Race) → cell_accessed y.deed.part ≡ None → with_races_of y earlier list ≡ list
not_accessed earlier y list none =
    nothing_added y earlier list (λ p x at is. not_with x.deed.part y.deed.part none (race_parts p x y is).0)

pub all_covered_still : (earlier : List Sight) (y : Sight) (cells : List Latest) → cell_accessed y.deed.part ≡ None → AreAllCovered earlier cells
    → AreAllCovered (earlier ++ y ∷ []) cells
all_covered_still earlier y cells none old =
    λ k p x at one. of k p x one (one_behind earlier y p x at)
  where
    of : (k : ℕ) (p : ℕ) (x : Sight) → have_one_number x.deed.part (part.Access k) ≡ true → (slice_get earlier p ≡ Some x) ⊎ (x ≡ y)
        → IsCovered (latest_at cells k) (access_of p x)
    of k p x one (inl before) = old k p x before one
    of k p x one (inr same) =
        absurd (not_of y.deed.part (part.Access k) none (subst (λ (s : Sight). have_one_number s.deed.part (part.Access k) ≡ true) same one))
