-- Elements of lists that are joined.
use Rattle.std.proofs.Common.{◌≡◌, ◌⊎◌, inl, inr, List, [], ◌∷◌, ◌++◌, map, refl, subst}
use Rattle.std.specs.List.{flat_map}
use Rattle.xk_names.specs.Scope.{Has}

pub has_left : {A : Type 0} (xs ys : List A) (x : A) → Has xs x → Has (xs ++ ys) x
has_left [] ys x h = absurd h
has_left (y ∷ xs) ys x (inl e) = inl e
has_left (y ∷ xs) ys x (inr h) = inr (has_left xs ys x h)

pub has_right : {A : Type 0} (xs ys : List A) (x : A) → Has ys x → Has (xs ++ ys) x
has_right [] ys x h = h
has_right (y ∷ xs) ys x h = inr (has_right xs ys x h)

pub has_either : {A : Type 0} (xs ys : List A) (x : A) → Has (xs ++ ys) x → Has xs x ⊎ Has ys x
has_either [] ys x h = inr h
has_either (y ∷ xs) ys x (inl e) = inl (inl e)
has_either (y ∷ xs) ys x (inr h) = elim (has_either xs ys x h) [ inl a ↦ inl (inr a) | inr b ↦ inr b ]

-- one of those that an element gives
pub from_flat : {A B : Type 0} (f : A → List B) (xs : List A) (y : B) → Has (flat_map f xs) y → (x : A) × (Has xs x × Has (f x) y)
from_flat f [] y h = absurd h
from_flat f (x ∷ xs) y h = elim (has_either (f x) (flat_map f xs) y h) [
  | inl a ↦ (x, (inl refl, a))
  | inr b ↦ let r = from_flat f xs y b in (r.0, (inr r.1.0, r.1.1))
]

pub to_flat : {A B : Type 0} (f : A → List B) (xs : List A) (x : A) (y : B) → Has xs x → Has (f x) y → Has (flat_map f xs) y
to_flat f [] x y h g = absurd h
to_flat f (z ∷ xs) x y (inl e) g = has_left (f z) (flat_map f xs) y (subst (λ k. Has (f k) y) e g)
to_flat f (z ∷ xs) x y (inr h) g = has_right (f z) (flat_map f xs) y (to_flat f xs x y h g)

pub from_map : {A B : Type 0} (f : A → B) (xs : List A) (y : B) → Has (map f xs) y → (x : A) × (Has xs x × (y ≡ f x))
from_map f [] y h = absurd h
from_map f (x ∷ xs) y (inl e) = (x, (inl refl, e))
from_map f (x ∷ xs) y (inr h) = let r = from_map f xs y h in (r.0, (inr r.1.0, r.1.1))

pub to_map : {A B : Type 0} (f : A → B) (xs : List A) (x : A) (y : B) → Has xs x → y ≡ f x → Has (map f xs) y
to_map f [] x y h e = absurd h
to_map f (z ∷ xs) x y (inl d) e = inl (subst (λ k. y ≡ f k) d e)
to_map f (z ∷ xs) x y (inr h) e = inr (to_map f xs x y h e)
