-- One access that stands for others.
use Rattle.std.proofs.Common.{◌≡◌, ◌∙◌, ℕ, zero, suc, ◌≤◌, Bool, true, false, ◌&&◌, ◌||◌, List, [], ◌∷◌, Some, slice_get, ◌⊎◌, inl, inr, refl, sym, subst, arith}
use Rattle.std.specs.Prelude.{if◌then◌else◌, nat_eq, nat_le, nat_lt, slice_set}
use Rattle.std.specs.List.{list_any}
use Rattle.std.proofs.lemmas.Bool.{and_parts, and_from, or_cases, eq-eqb, eqb-true, le-leb, leb-true, ltb-true, ltb-false, false≢true, or_left, or_right}
use Rattle.std.proofs.lemmas.Option.{same_Some}
use Rattle.xk_show_events.specs.declared.steps.RunStep.{RunStep}
use Rattle.xk_races_summary.specs.declared.access.Access.{Access}
use Rattle.xk_races_summary.specs.declared.access.Detail.{Detail}
use Rattle.xk_races_summary.specs.declared.access.Detail.TheVariants.{Activity, Place}
use Rattle.xk_races_summary.specs.declared.access.AccessKind.{AccessKind}
use Rattle.xk_races_summary.specs.declared.access.AccessKind.TheVariants.{Read, Addition, Write}
use Rattle.xk_races_summary.specs.Accesses.{kind_of, is_kind, is_at, is_like, is_same_place, covers, is_covered, later}

-- ---- two that are alike

-- What they have in common.
pub record Like (d : Detail) (r x : Access) : Type 0 where
  pub act : r.step.act ≡ x.step.act
  pub kind : kind_of r.step.event ≡ kind_of x.step.event
  pub at : is_at d r.step x.step ≡ true

is_kind_true : (k l : AccessKind) → is_kind k l ≡ true → k ≡ l
is_kind_true Read Read h = refl
is_kind_true Addition Addition h = refl
is_kind_true Write Write h = refl
is_kind_true k l h = absurd (false≢true h)

is_kind_same : (k : AccessKind) → is_kind k k ≡ true
is_kind_same Read = refl
is_kind_same Addition = refl
is_kind_same Write = refl

pub place_true : (s t : RunStep) → is_same_place s t ≡ true → (s.unit ≡ t.unit) × (s.place ≡ t.place)
place_true s t h =
    let both = and_parts (nat_eq s.unit t.unit) (nat_eq s.place t.place) h in
    (eqb-true s.unit t.unit both.0, eqb-true s.place t.place both.1)

place_from : (s t : RunStep) → s.unit ≡ t.unit → s.place ≡ t.place → is_same_place s t ≡ true
place_from s t u p = and_from (nat_eq s.unit t.unit) (nat_eq s.place t.place) (eq-eqb s.unit t.unit u) (eq-eqb s.place t.place p)

-- of two that are at the same place as a third one
at_swapped : (d : Detail) (r s t : RunStep) → is_at d r s ≡ true → is_at d r t ≡ true → is_at d s t ≡ true
at_swapped Activity r s t g h = refl
at_swapped Place r s t g h =
    let a = place_true r s g in
    let b = place_true r t h in
    place_from s t (sym a.0 ∙ b.0) (sym a.1 ∙ b.1)

at_same : (d : Detail) (s : RunStep) → is_at d s s ≡ true
at_same Activity s = refl
at_same Place s = place_from s s refl refl

pub like_true : (d : Detail) (r x : Access) → is_like d r x ≡ true → Like d r x
like_true d r x h =
    let a = and_parts (nat_eq r.step.act x.step.act) (is_kind (kind_of r.step.event) (kind_of x.step.event) && is_at d r.step x.step) h in
    let b = and_parts (is_kind (kind_of r.step.event) (kind_of x.step.event)) (is_at d r.step x.step) a.1 in
    record { act = eqb-true r.step.act x.step.act a.0; kind = is_kind_true (kind_of r.step.event) (kind_of x.step.event) b.0; at = b.1 }

like_from : (d : Detail) (r x : Access) → Like d r x → is_like d r x ≡ true
like_from d r x l =
    and_from (nat_eq r.step.act x.step.act) (is_kind (kind_of r.step.event) (kind_of x.step.event) && is_at d r.step x.step) (eq-eqb r.step.act x.step.act l.act)
    (and_from (is_kind (kind_of r.step.event) (kind_of x.step.event)) (is_at d r.step x.step)
    (subst (λ k. is_kind (kind_of r.step.event) k ≡ true) l.kind (is_kind_same (kind_of r.step.event))) l.at)

-- of two that are like a third one
like_swapped : (d : Detail) (r x z : Access) → Like d r x → Like d r z → Like d x z
like_swapped d r x z g h = record { act = sym g.act ∙ h.act; kind = sym g.kind ∙ h.kind; at = at_swapped d r.step x.step z.step g.at h.at }

like_same : (d : Detail) (x : Access) → Like d x x
like_same d x = record { act = refl; kind = refl; at = at_same d x.step }

pub covers_parts : (d : Detail) (r x : Access) → covers d r x ≡ true → Like d r x × (x.number ≤ r.number)
covers_parts d r x h =
    let a = and_parts (is_like d r x) (nat_le x.number r.number) h in
    (like_true d r x a.0, leb-true x.number r.number a.1)

covers_from : (d : Detail) (r x : Access) → Like d r x → x.number ≤ r.number → covers d r x ≡ true
covers_from d r x l le = and_from (is_like d r x) (nat_le x.number r.number) (like_from d r x l) (le-leb x.number r.number le)

-- ---- the later one of two that are alike

later_number : (r x : Access) → (r.number ≤ (later r x).number) × (x.number ≤ (later r x).number)
later_number r x = of (nat_lt r.number x.number) refl
  where
    of : (b : Bool) → nat_lt r.number x.number ≡ b → (r.number ≤ (if b then x else r).number) × (x.number ≤ (if b then x else r).number)
    of true e = let lt = ltb-true r.number x.number e in (omega (arith, lt), omega arith)
    of false e = let le = ltb-false r.number x.number e in (omega arith, omega (arith, le))

later_like : (d : Detail) (r x z : Access) → Like d r x → Like d r z → Like d (later r x) z
later_like d r x z g h = of (nat_lt r.number x.number)
  where
    of : (b : Bool) → Like d (if b then x else r) z
    of true = like_swapped d r x z g h
    of false = h

pub later_covers : (d : Detail) (r x z : Access) → Like d r x → covers d r z ≡ true → covers d (later r x) z ≡ true
later_covers d r x z g h =
    let c = covers_parts d r z h in
    let n = later_number r x in
    covers_from d (later r x) z (later_like d r x z g c.0) (omega (arith, c.1, n.0))

pub later_covers_it : (d : Detail) (r x : Access) → Like d r x → covers d (later r x) x ≡ true
later_covers_it d r x g = covers_from d (later r x) x (later_like d r x x g g) (later_number r x).1

-- ---- among others

pub any_from : {X : Type 0} (f g : X → Bool) (xs : List X) → ((x : X) → f x ≡ true → g x ≡ true) → list_any f xs ≡ true → list_any g xs ≡ true
any_from f g [] more h = absurd (false≢true h)
any_from f g (x ∷ xs) more h = of (or_cases (f x) (list_any f xs) h) (any_from f g xs more)
  where
    of : (f x ≡ true) ⊎ (list_any f xs ≡ true) → (list_any f xs ≡ true → list_any g xs ≡ true) → (g x || list_any g xs) ≡ true
    of (inl e) rest = or_left (g x) (list_any g xs) (more x e)
    of (inr e) rest = or_right (g x) (list_any g xs) (rest e)

-- one that is passed by w where it was passed by r
pub any_set : {X : Type 0} (test : X → Bool) (xs : List X) (i : ℕ) (r w : X) → slice_get xs i ≡ Some r → (test r ≡ true → test w ≡ true)
    → list_any test xs ≡ true → list_any test (slice_set xs i w) ≡ true
any_set test [] i r w at more h = absurd (false≢true h)
any_set test (x ∷ xs) zero r w at more h = of (or_cases (test x) (list_any test xs) h)
  where
    of : (test x ≡ true) ⊎ (list_any test xs ≡ true) → (test w || list_any test xs) ≡ true
    of (inl e) = or_left (test w) (list_any test xs) (more (subst (λ y. test y ≡ true) (same_Some x r at) e))
    of (inr e) = or_right (test w) (list_any test xs) e
any_set test (x ∷ xs) (suc i) r w at more h = of (or_cases (test x) (list_any test xs) h) (any_set test xs i r w at more)
  where
    of : (test x ≡ true) ⊎ (list_any test xs ≡ true) → (list_any test xs ≡ true → list_any test (slice_set xs i w) ≡ true)
        → (test x || list_any test (slice_set xs i w)) ≡ true
    of (inl e) rest = or_left (test x) (list_any test (slice_set xs i w)) e
    of (inr e) rest = or_right (test x) (list_any test (slice_set xs i w)) (rest e)

pub any_set_there : {X : Type 0} (test : X → Bool) (xs : List X) (i : ℕ) (r w : X) → slice_get xs i ≡ Some r → test w ≡ true
    → list_any test (slice_set xs i w) ≡ true
any_set_there test [] i r w at h = absurd (none at)
  where
    none : slice_get [] i ≡ Some r → ⊥
    none e = cc
any_set_there test (x ∷ xs) zero r w at h = or_left (test w) (list_any test xs) h
any_set_there test (x ∷ xs) (suc i) r w at h = or_right (test x) (list_any test (slice_set xs i w)) (any_set_there test xs i r w at h)

pub raised : (d : Detail) (rows : List Access) (i : ℕ) (x z : Access) (r : Access) → slice_get rows i ≡ Some r → is_like d r x ≡ true
    → is_covered d rows z ≡ true → is_covered d (slice_set rows i (later r x)) z ≡ true
raised d rows i x z r at like h =
    any_set (λ q. covers d q z) rows i r (later r x) at (later_covers d r x z (like_true d r x like)) h

pub raised_there : (d : Detail) (rows : List Access) (i : ℕ) (x : Access) (r : Access) → slice_get rows i ≡ Some r → is_like d r x ≡ true
    → is_covered d (slice_set rows i (later r x)) x ≡ true
raised_there d rows i x r at like =
    any_set_there (λ q. covers d q x) rows i r (later r x) at (later_covers_it d r x (like_true d r x like))

-- ---- one after the other

pub covers_on : (d : Detail) (r x z : Access) → covers d r x ≡ true → covers d x z ≡ true → covers d r z ≡ true
covers_on d r x z g h =
    let a = covers_parts d r x g in
    let b = covers_parts d x z h in
    covers_from d r z (like_swapped d x r z (like_swapped d r x r a.0 (like_same d r)) b.0) (omega (arith, a.1, b.1))
