-- Where a part stands among others.
use Rattle.std.proofs.Common.{◌≡◌, inl, inr, ℕ, suc, ◌+◌, Bool, true, false, cond, List, [], ◌∷◌, Option, Some, slice_get, nat_eq, refl, sym, ap, ◌∙◌, subst, arith, eqb-true}
use Rattle.xk_names.proofs.TableAgreementLemmas.{same_text}
use Rattle.xk_tree.specs.Tree.{Word}
use Rattle.xk_names.specs.Scope.{Has, is_text}
use Rattle.xk_source_semantics.specs.Parts.{Part, OfMethod, OfBody, Run, Calls, Starts, method_among, body_among, place_of}

-- the part is what is run, by its name or its offset
abbrev pub Fits : Part → Run → Type 0
Fits (OfMethod m) (Calls g) = is_text g.text m.name.text ≡ true
Fits (OfBody a cs s) (Starts at) = nat_eq at a ≡ true
Fits _ _ = ⊥

-- a part that fits stands there
pub record FitsAt (ps : List Part) (r : Run) (k : ℕ) : Type 0 where
  pub part : Part
  pub stands : slice_get ps k ≡ Some part
  pub fits : Fits part r

not_true : {b : Bool} → b ≡ false → b ≡ true → ⊥
not_true e h = cc

-- ---- a part that fits is found

found_step : (b : Bool) (i : ℕ) (o : Option ℕ) → (b ≡ false → (k : ℕ) × (o ≡ Some k)) → (k : ℕ) × (cond b (Some i) o ≡ Some k)
found_step true i o later = (i, refl)
found_step false i o later = later refl

method_found : (i : ℕ) (ps : List Part) (g : Word) (p : Part) → Has ps p → Fits p (Calls g) → (k : ℕ) × (method_among i ps g.text ≡ Some k)
method_found i [] g p h f = absurd h
method_found i (OfMethod n ∷ ps) g p h f = found_step (is_text g.text n.name.text) i (method_among (suc i) ps g.text) (λ no. elim h [
  | inl e ↦ absurd (not_true no (subst (λ (q : Part). Fits q (Calls g)) e f))
  | inr later ↦ method_found (suc i) ps g p later f
])
method_found i (OfBody a cs s ∷ ps) g p h f = elim h [
  | inl e ↦ absurd (subst (λ (q : Part). Fits q (Calls g)) e f)
  | inr later ↦ method_found (suc i) ps g p later f
]

body_found : (i : ℕ) (ps : List Part) (at : ℕ) (p : Part) → Has ps p → Fits p (Starts at) → (k : ℕ) × (body_among i ps at ≡ Some k)
body_found i [] at p h f = absurd h
body_found i (OfBody a cs s ∷ ps) at p h f = found_step (nat_eq at a) i (body_among (suc i) ps at) (λ no. elim h [
  | inl e ↦ absurd (not_true no (subst (λ (q : Part). Fits q (Starts at)) e f))
  | inr later ↦ body_found (suc i) ps at p later f
])
body_found i (OfMethod n ∷ ps) at p h f = elim h [
  | inl e ↦ absurd (subst (λ (q : Part). Fits q (Starts at)) e f)
  | inr later ↦ body_found (suc i) ps at p later f
]

pub found : (ps : List Part) (r : Run) (p : Part) → Has ps p → Fits p r → (k : ℕ) × (place_of ps r ≡ Some k)
found ps (Calls g) p h f = method_found 0 ps g p h f
found ps (Starts at) p h f = body_found 0 ps at p h f

-- ---- what is found fits

-- what stands n places behind the first fits
pub record FitsFrom (i : ℕ) (ps : List Part) (r : Run) (k : ℕ) : Type 0 where
  pub steps : ℕ
  pub far : k ≡ i + steps
  pub fits : FitsAt ps r steps

one_on : (i k : ℕ) (q : Part) (ps : List Part) (r : Run) → FitsFrom (suc i) ps r k → FitsFrom i (q ∷ ps) r k
one_on i k q ps r h = record { steps = suc h.steps; far = omega (arith, h.far); fits = record { part = h.fits.part; stands = h.fits.stands; fits = h.fits.fits } }

here_or : (b : Bool) (i k : ℕ) (q : Part) (ps : List Part) (r : Run) (o : Option ℕ) → (b ≡ true → Fits q r) → (o ≡ Some k → FitsFrom (suc i) ps r k)
    → cond b (Some i) o ≡ Some k → FitsFrom i (q ∷ ps) r k
here_or true i k q ps r o fits later e = record { steps = 0; far = (let is : i ≡ k = cc in omega (arith, is)); fits = record { part = q; stands = refl; fits = fits refl } }
here_or false i k q ps r o fits later e = one_on i k q ps r (later e)

method_fits : (i k : ℕ) (ps : List Part) (g : Word) → method_among i ps g.text ≡ Some k → FitsFrom i ps (Calls g) k
method_fits i k [] g e = absurd cc
method_fits i k (OfMethod n ∷ ps) g e =
    here_or (is_text g.text n.name.text) i k (OfMethod n) ps (Calls g) (method_among (suc i) ps g.text) (λ q. q) (method_fits (suc i) k ps g) e
method_fits i k (OfBody a cs s ∷ ps) g e = one_on i k (OfBody a cs s) ps (Calls g) (method_fits (suc i) k ps g e)

body_fits : (i k : ℕ) (ps : List Part) (at : ℕ) → body_among i ps at ≡ Some k → FitsFrom i ps (Starts at) k
body_fits i k [] at e = absurd cc
body_fits i k (OfMethod n ∷ ps) at e = one_on i k (OfMethod n) ps (Starts at) (body_fits (suc i) k ps at e)
body_fits i k (OfBody a cs s ∷ ps) at e =
    here_or (nat_eq at a) i k (OfBody a cs s) ps (Starts at) (body_among (suc i) ps at) (λ q. q) (body_fits (suc i) k ps at) e

from_first : (ps : List Part) (r : Run) (k : ℕ) → FitsFrom 0 ps r k → FitsAt ps r k
from_first ps r k h = let far = h.far in let same : h.steps ≡ k = omega arith in subst (FitsAt ps r) same h.fits

pub fits_there : (ps : List Part) (r : Run) (k : ℕ) → place_of ps r ≡ Some k → FitsAt ps r k
fits_there ps (Calls g) k e = from_first ps (Calls g) k (method_fits 0 k ps g e)
fits_there ps (Starts at) k e = from_first ps (Starts at) k (body_fits 0 k ps at e)

-- ---- what is run by the same name, or at the same offset

pub same_place : (ps : List Part) (p : Part) (q r : Run) → Fits p q → Fits p r → place_of ps q ≡ place_of ps r
same_place ps (OfMethod m) (Calls g) (Calls h) a b = ap (method_among 0 ps) (same_text g.text m.name.text a ∙ sym (same_text h.text m.name.text b))
same_place ps (OfBody a cs s) (Starts x) (Starts y) e f = ap (body_among 0 ps) (same_number x a e ∙ sym (same_number y a f))
  where
    same_number : (x y : ℕ) → nat_eq x y ≡ true → x ≡ y
    same_number x y e = eqb-true x y e
same_place ps (OfMethod m) (Calls g) (Starts y) a b = absurd b
same_place ps (OfBody p cs s) (Starts x) (Calls h) a b = absurd b
same_place ps (OfMethod m) (Starts x) r a b = absurd a
same_place ps (OfBody p cs s) (Calls g) r a b = absurd a
