-- The least of a list of faults.
use Rattle.std.proofs.Common.{◌≡◌, ◌⊎◌, inl, inr, ◌<◌, ◌≤◌, nat_lt, nat_eq, Bool, true, false, cond, ◌||◌, ◌&&◌, List, [], ◌∷◌, Option, Some, None, refl, sym, ap, ◌∙◌, subst, arith, eqb-true, eq-eqb}
use Rattle.std.proofs.lemmas.Bool.{ltb-true, ltb-false, cases_lt}
use Rattle.std.proofs.lemmas.Option.{none-some}
use Rattle.xk_tree.specs.declared.fault.FrontFault.{FrontFault}
use Rattle.xk_tree.specs.Fault.{front_number}
use Rattle.xk_names.specs.declared.least_fault.Search.{Search}
use Rattle.xk_names.specs.Scope.{Has}
use Rattle.xk_names.specs.Faults.{IsEarlier, IsNoLater}
use Rattle.xk_names.specs.FaultList.{is_reported_before, is_past, is_lesser, lesser, least}

no_later_same : (f : FrontFault) → IsNoLater f f
no_later_same f = inr (refl, omega arith)

no_later_step : (f g h : FrontFault) → IsNoLater f g → IsNoLater g h → IsNoLater f h
no_later_step f g h (inl a) (inl b) = inl (omega arith)
no_later_step f g h (inl a) (inr b) = inl (omega (arith, b.0))
no_later_step f g h (inr a) (inl b) = inl (omega (arith, a.0))
no_later_step f g h (inr a) (inr b) = inr (a.0 ∙ b.0, omega (arith, a.1, b.1))

no_later : (f g : FrontFault) → IsEarlier f g → IsNoLater f g
no_later f g (inl a) = inl a
no_later f g (inr a) = inr (a.0, omega (arith, a.1))

pub before_true : (f g : FrontFault) → is_reported_before f g ≡ true → IsEarlier f g
before_true f g h = go (nat_lt f.at g.at) refl (nat_eq f.at g.at) refl (nat_lt (front_number f.rule) (front_number g.rule)) refl h
  where
    go : (a : Bool) → nat_lt f.at g.at ≡ a → (b : Bool) → nat_eq f.at g.at ≡ b → (c : Bool) → nat_lt (front_number f.rule) (front_number g.rule) ≡ c
        → (a || (b && c)) ≡ true → IsEarlier f g
    go true ea b eb c ec w = inl (ltb-true f.at g.at ea)
    go false ea true eb true ec w = inr (eqb-true f.at g.at eb, ltb-true (front_number f.rule) (front_number g.rule) ec)
    go false ea true eb false ec w = cc
    go false ea false eb c ec w = cc

before_false : (f g : FrontFault) → is_reported_before f g ≡ false → IsNoLater g f
before_false f g h = go (nat_lt f.at g.at) refl (nat_eq f.at g.at) refl (nat_lt (front_number f.rule) (front_number g.rule)) refl h
  where
    go : (a : Bool) → nat_lt f.at g.at ≡ a → (b : Bool) → nat_eq f.at g.at ≡ b → (c : Bool) → nat_lt (front_number f.rule) (front_number g.rule) ≡ c
        → (a || (b && c)) ≡ false → IsNoLater g f
    go true ea b eb c ec w = cc
    go false ea true eb true ec w = cc
    go false ea true eb false ec w = let l = ltb-false (front_number f.rule) (front_number g.rule) ec in inr (sym (eqb-true f.at g.at eb), l)
    go false ea false eb c ec w = inl (apart (ltb-false f.at g.at ea) (λ e. let never : true ≡ false = sym (eq-eqb f.at g.at e) ∙ eb in cc))
      where
        apart : g.at ≤ f.at → (f.at ≡ g.at → ⊥) → g.at < f.at
        apart l differ = elim (cases_lt g.at f.at) [ inl less ↦ less | inr more ↦ absurd (differ (omega arith)) ]

pub earlier_true : (f g : FrontFault) → IsEarlier f g → is_reported_before f g ≡ true
earlier_true f g h = go (is_reported_before f g) refl
  where
    never : IsEarlier f g → IsNoLater g f → ⊥
    never (inl a) (inl b) = omega arith
    never (inl a) (inr b) = omega (arith, b.0)
    never (inr a) (inl b) = omega (arith, a.0)
    never (inr a) (inr b) = omega (arith, a.1, b.1)

    go : (b : Bool) → is_reported_before f g ≡ b → is_reported_before f g ≡ true
    go true e = e
    go false e = absurd (never h (before_false f g e))

-- ---- a search that goes over one fault more

abbrev search : Option FrontFault → Option FrontFault → Search
search floor found = record { floor = floor; found = found }

abbrev one_more : Bool → Bool → Option FrontFault → Option FrontFault → FrontFault → Search
one_more past lesser floor found f = cond (past && lesser) (search floor (Some f)) (search floor found)

lesser_before : (floor found : Option FrontFault) (f : FrontFault) → is_past floor f ≡ false
    → lesser (search floor found) f ≡ search floor found
lesser_before floor found f h = ap (λ b. one_more b (is_lesser f found) floor found f) h

lesser_past : (floor found : Option FrontFault) (f : FrontFault) → is_past floor f ≡ true
    → (r : FrontFault) × ((lesser (search floor found) f ≡ search floor (Some r)) × ((f ≡ r) ⊎ (found ≡ Some r)) × IsNoLater r f
    × ((g : FrontFault) → found ≡ Some g → IsNoLater r g))
lesser_past floor None f past = (f, (ap (λ b. one_more b true floor None f) past, inl refl, no_later_same f, λ g e. absurd (none-some g e)))
lesser_past floor (Some g) f past = go (is_reported_before f g) refl
  where
    go : (b : Bool) → is_reported_before f g ≡ b
        → (r : FrontFault) × ((lesser (search floor (Some g)) f ≡ search floor (Some r)) × ((f ≡ r) ⊎ (Some g ≡ Some r)) × IsNoLater r f
        × ((h : FrontFault) → Some g ≡ Some h → IsNoLater r h))
    go true e = (
      f,
      (
        ap (λ b. one_more b (is_reported_before f g) floor (Some g) f) past ∙ ap (λ b. one_more true b floor (Some g) f) e,
        inl refl,
        no_later_same f,
        λ h s. let is : g ≡ h = cc in subst (IsNoLater f) is (no_later f g (before_true f g e)),
      ),
    )
    go false e = (
      g,
      (
        ap (λ b. one_more b (is_reported_before f g) floor (Some g) f) past ∙ ap (λ b. one_more true b floor (Some g) f) e,
        inr refl,
        before_false f g e,
        λ h s. let is : g ≡ h = cc in subst (IsNoLater g) is (no_later_same g),
      ),
    )

-- ---- a search that goes over a list

some_is : (a b : FrontFault) → Some a ≡ Some b → a ≡ b
some_is a b e = cc

-- what is kept of a list is one of it behind the floor, and none of those is reported before
abbrev Keeps : Option FrontFault → Option FrontFault → List FrontFault → FrontFault → Type 0
Keeps floor found fs r =
    ((Has fs r × (is_past floor r ≡ true)) ⊎ (found ≡ Some r))
    × ((g : FrontFault) → Has fs g → is_past floor g ≡ true → IsNoLater r g) × ((g : FrontFault) → found ≡ Some g → IsNoLater r g)

pub least_kept : (floor found : Option FrontFault) (fs : List FrontFault) (r : FrontFault) → (least (search floor found) fs).found ≡ Some r
    → Keeps floor found fs r
least_kept floor found [] r h = (inr h, λ g a past. absurd a, λ g e. subst (IsNoLater r) (sym (some_is g r (sym e ∙ h))) (no_later_same r))
least_kept floor found (f ∷ fs) r h = go (λ k e. least_kept floor k fs r e) (is_past floor f) refl
  where
    go : ((k : Option FrontFault) → (least (search floor k) fs).found ≡ Some r → Keeps floor k fs r) → (b : Bool) → is_past floor f ≡ b → Keeps floor found (f ∷ fs) r
    go rest true past =
        let one = lesser_past floor found f past in
        let more = rest (Some one.0) (ap (λ (k : Search). (least k fs).found) (sym one.1.0) ∙ h) in (
          elim more.0 [
            | inl a ↦ inl (inr a.0, a.1)
            | inr e ↦ elim one.1.1 [
              | inl is ↦ let same : r ≡ f = some_is r f (sym e ∙ ap (λ k. Some k) (sym is)) in
                  inl (inl same, subst (λ (k : FrontFault). is_past floor k ≡ true) (sym same) past)
              | inr was ↦ inr (was ∙ e)
            ]
          ],
          λ g a later. elim a [
            | inl is ↦ subst (IsNoLater r) (sym is) (no_later_step r one.0 f (more.2 one.0 refl) one.1.2)
            | inr b ↦ more.1 g b later
          ],
          λ g e. no_later_step r one.0 g (more.2 one.0 refl) (one.1.3 g e),
        )
    go rest false before =
        let more = rest found (ap (λ (k : Search). (least k fs).found) (sym (lesser_before floor found f before)) ∙ h) in (
          elim more.0 [ inl a ↦ inl (inr a.0, a.1) | inr e ↦ inr e ],
          λ g a later. elim a [
            | inl is ↦ let never : true ≡ false = sym later ∙ ap (λ (k : FrontFault). is_past floor k) is ∙ before in cc
            | inr b ↦ more.1 g b later
          ],
          more.2,
        )

-- none of a list is behind the floor
abbrev HasNone : Option FrontFault → Option FrontFault → List FrontFault → Type 0
HasNone floor found fs = ((g : FrontFault) → Has fs g → is_past floor g ≡ true → ⊥) × (found ≡ None)

pub least_none : (floor found : Option FrontFault) (fs : List FrontFault) → (least (search floor found) fs).found ≡ None → HasNone floor found fs
least_none floor found [] h = (λ g a past. absurd a, h)
least_none floor found (f ∷ fs) h = go (λ k e. least_none floor k fs e) (is_past floor f) refl
  where
    go : ((k : Option FrontFault) → (least (search floor k) fs).found ≡ None → HasNone floor k fs) → (b : Bool) → is_past floor f ≡ b → HasNone floor found (f ∷ fs)
    go rest true past =
        let one = lesser_past floor found f past in
        let more = rest (Some one.0) (ap (λ (k : Search). (least k fs).found) (sym one.1.0) ∙ h) in
        absurd (none-some one.0 (sym more.1))
    go rest false before =
        let more = rest found (ap (λ (k : Search). (least k fs).found) (sym (lesser_before floor found f before)) ∙ h) in (
          λ g a later. elim a [
            | inl is ↦ let never : true ≡ false = sym later ∙ ap (λ (k : FrontFault). is_past floor k) is ∙ before in cc
            | inr b ↦ more.0 g b later
          ],
          more.1,
        )
