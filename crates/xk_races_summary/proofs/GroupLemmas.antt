-- The groups of accesses at one place.
use Rattle.std.proofs.Common.{◌≡◌, ◌∙◌, ℕ, true, false, ◌||◌, List, [], ◌∷◌, ◌++◌, Some, slice_get, ◌⊎◌, inl, inr, length, refl, sym, subst, arith}
use Rattle.std.specs.Prelude.{nat_eq, nat_lt, slice_set}
use Rattle.std.specs.List.{list_any}
use Rattle.std.proofs.lemmas.Bool.{and_parts, and_from, or_cases, eq-eqb, eqb-true, lt-ltb, false≢true, or_left, or_right}
use Rattle.std.proofs.lemmas.List.Folds.{list_any-append}
use Rattle.std.proofs.lemmas.Option.{slice_get_within}
use Rattle.xk_races_summary.specs.declared.access.Access.{Access}
use Rattle.xk_races_summary.specs.declared.access.Detail.TheVariants.{Place}
use Rattle.xk_races_summary.specs.Accesses.{Group, covers, has_member, is_like, is_placed, single, with_member}
use Rattle.xk_races_summary.proofs.AccessLemmas.{any_from, any_set, any_set_there, covers_on, later_covers, later_covers_it, like_true}

-- ---- one more member

member_kept : (x z : Access) (g : Group) → is_like Place g.last x ≡ true → has_member z g ≡ true → has_member z (with_member x g) ≡ true
member_kept x z g like h =
    let b = and_parts (covers Place g.last z) (list_any (nat_eq z.position) g.members) h in
    and_from (covers Place (with_member x g).last z) (list_any (nat_eq z.position) (g.members ++ x.position ∷ []))
    (later_covers Place g.last x z (like_true Place g.last x like) b.0)
    (list_any-append (nat_eq z.position) g.members (x.position ∷ [])
    ∙ or_left (list_any (nat_eq z.position) g.members) (nat_eq z.position x.position || false) b.1)

member_there : (x : Access) (g : Group) → is_like Place g.last x ≡ true → has_member x (with_member x g) ≡ true
member_there x g like =
    and_from (covers Place (with_member x g).last x) (list_any (nat_eq x.position) (g.members ++ x.position ∷ []))
    (later_covers_it Place g.last x (like_true Place g.last x like))
    (list_any-append (nat_eq x.position) g.members (x.position ∷ [])
    ∙ or_right (list_any (nat_eq x.position) g.members) (nat_eq x.position x.position || false)
    (or_left (nat_eq x.position x.position) false (eq-eqb x.position x.position refl)))

pub group_kept : (groups : List Group) (i : ℕ) (x z : Access) (g : Group) → slice_get groups i ≡ Some g → is_like Place g.last x ≡ true
    → is_placed groups z ≡ true → is_placed (slice_set groups i (with_member x g)) z ≡ true
group_kept groups i x z g at like h = any_set (has_member z) groups i g (with_member x g) at (member_kept x z g like) h

pub group_there : (groups : List Group) (i : ℕ) (x : Access) (g : Group) → slice_get groups i ≡ Some g → is_like Place g.last x ≡ true
    → is_placed (slice_set groups i (with_member x g)) x ≡ true
group_there groups i x g at like = any_set_there (has_member x) groups i g (with_member x g) at (member_there x g like)

-- a place in a list where something is
pub is_within : {X : Type 0} (xs : List X) (i : ℕ) (x : X) → slice_get xs i ≡ Some x → nat_lt i (length xs) ≡ true
is_within xs i x h = lt-ltb i (length xs) (slice_get_within xs i x h)

-- ---- a group of one

member_on : (x z : Access) (g : Group) → has_member z (single x) ≡ true → has_member x g ≡ true → has_member z g ≡ true
member_on x z g alone h =
    let a = and_parts (covers Place x z) (nat_eq z.position x.position || false) alone in
    let b = and_parts (covers Place g.last x) (list_any (nat_eq x.position) g.members) h in
    and_from (covers Place g.last z) (list_any (nat_eq z.position) g.members) (covers_on Place g.last x z b.0 a.0)
    (subst (λ p. list_any (nat_eq p) g.members ≡ true) (sym (same (or_cases (nat_eq z.position x.position) false a.1))) b.1)
  where
    same : (nat_eq z.position x.position ≡ true) ⊎ (false ≡ true) → z.position ≡ x.position
    same (inl e) = eqb-true z.position x.position e
    same (inr e) = absurd (false≢true e)

-- those of the first groups and one more are in these groups
pub one_more_placed : (first groups : List Group) (x z : Access) → (is_placed first z ≡ true → is_placed groups z ≡ true)
    → is_placed groups x ≡ true → is_placed (first ++ single x ∷ []) z ≡ true → is_placed groups z ≡ true
one_more_placed first groups x z before there h =
    of (or_cases (is_placed first z) (has_member z (single x) || false) (sym (list_any-append (has_member z) first (single x ∷ [])) ∙ h))
  where
    last : (has_member z (single x) ≡ true) ⊎ (false ≡ true) → is_placed groups z ≡ true
    last (inl e) = any_from (has_member x) (has_member z) groups (λ g m. member_on x z g e m) there
    last (inr e) = absurd (false≢true e)

    of : (is_placed first z ≡ true) ⊎ ((has_member z (single x) || false) ≡ true) → is_placed groups z ≡ true
    of (inl e) = before e
    of (inr e) = last (or_cases (has_member z (single x)) false e)
