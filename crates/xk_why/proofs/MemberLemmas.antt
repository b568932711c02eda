-- Lists of locations: which ones they have.
use Rattle.std.proofs.Common.{◌≡◌, ◌∙◌, ℕ, Bool, true, false, not, ◌&&◌, ◌||◌, nat_eq, List, [], ◌∷◌, ◌++◌, filter, ◌⊎◌, inl, inr}
use Rattle.std.proofs.Common.{Option, Some, None, refl, sym, ap, ap₂, subst, arith, if◌then◌else◌, eq-eqb, true≢false}
use Rattle.std.specs.List.{list_any}
use Rattle.xk_why.specs.declared.flows.Flow.{Flow}
use Rattle.xk_why.specs.declared.flows.Location.{Location}
use Rattle.xk_why.specs.declared.flows.Location.TheVariants as location
use Rattle.xk_why.specs.Flows.{is_at, makes, overwrites, same_location}
use Rattle.xk_why.specs.Slices.{wanted_before, with_any, with_location}
use Rattle.xk_why.specs.Exactness.{IsAmong, Uses}

-- ---- locations

pub same_numbers : (a b : ℕ) → nat_eq a b ≡ true → a ≡ b
same_numbers a b h = grind (arith, h)

-- those that are told to be one are one
is_one : (k l : Location) → same_location k l ≡ true → k ≡ l
is_one (location.Slot s) (location.Slot t) h = grind (arith, h)
is_one (location.Shared s) (location.Shared t) h = ap (λ n. location.Shared n) (same_numbers s t h)
is_one (location.Signals r) (location.Signals s) h = grind (arith, h)
is_one (location.Ends f) (location.Ends g) h = ap (λ n. location.Ends n) (same_numbers f g h)
is_one (location.Slot s) (location.Shared t) h = cc
is_one (location.Slot s) (location.Signals t) h = cc
is_one (location.Slot s) (location.Ends t) h = cc
is_one (location.Shared s) (location.Slot t) h = cc
is_one (location.Shared s) (location.Signals t) h = cc
is_one (location.Shared s) (location.Ends t) h = cc
is_one (location.Signals s) (location.Slot t) h = cc
is_one (location.Signals s) (location.Shared t) h = cc
is_one (location.Signals s) (location.Ends t) h = cc
is_one (location.Ends s) (location.Slot t) h = cc
is_one (location.Ends s) (location.Shared t) h = cc
is_one (location.Ends s) (location.Signals t) h = cc

-- each is told to be itself
is_itself : (l : Location) → same_location l l ≡ true
is_itself (location.Slot s) =
    ap₂ (λ x y. x && y && nat_eq s.number s.number) (eq-eqb s.act s.act refl) (eq-eqb s.depth s.depth refl)
    ∙ eq-eqb s.number s.number refl
is_itself (location.Shared s) = eq-eqb s s refl
is_itself (location.Signals r) =
    ap (λ x. x && nat_eq r.phase r.phase) (eq-eqb r.clock r.clock refl) ∙ eq-eqb r.phase r.phase refl
is_itself (location.Ends f) = eq-eqb f f refl

-- ---- what a flow makes

pub made_there : (f : Flow) (l : Location) → makes f l ≡ true → f.to ≡ Some l
made_there f l h = of f.to refl h
  where
    of : (o : Option Location) → f.to ≡ o → is_at o l ≡ true → f.to ≡ Some l
    of None e g = cc
    of (Some k) e g = e ∙ ap (λ x. Some x) (is_one k l g)

pub makes_there : (f : Flow) (l : Location) → f.to ≡ Some l → makes f l ≡ true
makes_there f l h = ap (λ o. is_at o l) h ∙ is_itself l

-- what it doesn't make anew stays
pub stays : (f : Flow) (l : Location) → ((f.to ≡ Some l) → (f.adds ≡ false) → ⊥) → not (overwrites f l) ≡ true
stays f l none = of (makes f l) f.adds refl refl
  where
    of : (b c : Bool) → makes f l ≡ b → f.adds ≡ c → not (b && not c) ≡ true
    of false c e g = refl
    of true true e g = refl
    of true false e g = absurd (none (made_there f l e) g)

-- and what stays isn't made anew
pub not_renewed : (f : Flow) (l : Location) → not (overwrites f l) ≡ true → (f.to ≡ Some l) → (f.adds ≡ false) → ⊥
not_renewed f l h made anew = true≢false (sym h ∙ ap₂ (λ x y. not (x && not y)) (makes_there f l made) anew)

-- ---- some that pass a test

pub found : {X : Type 0} (p : X → Bool) (xs : List X) → list_any p xs ≡ true → (x : X) × IsAmong x xs × (p x ≡ true)
found p [] h = cc
found {X} p (x ∷ xs) h = of (p x) refl h (λ g. found p xs g)
  where
    of : (b : Bool) → p x ≡ b → (b || list_any p xs) ≡ true → (list_any p xs ≡ true → (y : X) × IsAmong y xs × (p y ≡ true))
        → (y : X) × IsAmong y (x ∷ xs) × (p y ≡ true)
    of true e g rest = (x, inl refl, e)
    of false e g rest = let r = rest g in (r.0, inr r.1, r.2)

pub finds : {X : Type 0} (p : X → Bool) (xs : List X) (x : X) → IsAmong x xs → p x ≡ true → list_any p xs ≡ true
finds p [] x in_it h = absurd in_it
finds p (y ∷ ys) x (inl is) h = ap (λ b. b || list_any p ys) (ap p is ∙ h)
finds p (y ∷ ys) x (inr in_it) h = of (p y) (finds p ys x in_it h)
  where
    of : (b : Bool) → list_any p ys ≡ true → (b || list_any p ys) ≡ true
    of true g = refl
    of false g = g

-- ---- what a test keeps

kept : {X : Type 0} (p : X → Bool) (xs : List X) (x : X) → IsAmong x xs → p x ≡ true → IsAmong x (filter p xs)
kept p [] x in_it h = in_it
kept p (y ∷ ys) x in_it h = of (p y) refl in_it (λ more. kept p ys x more h)
  where
    of : (b : Bool) → p y ≡ b → (y ≡ x) ⊎ IsAmong x ys → (IsAmong x ys → IsAmong x (filter p ys))
        → IsAmong x (if b then y ∷ filter p ys else filter p ys)
    of true e (inl is) rest = inl is
    of true e (inr more) rest = inr (rest more)
    of false e (inl is) rest = absurd (true≢false (sym h ∙ sym (ap p is) ∙ e))
    of false e (inr more) rest = rest more

was_kept : {X : Type 0} (p : X → Bool) (xs : List X) (x : X) → IsAmong x (filter p xs) → IsAmong x xs × (p x ≡ true)
was_kept p [] x in_it = absurd in_it
was_kept p (y ∷ ys) x in_it = of (p y) refl in_it (λ more. was_kept p ys x more)
  where
    of : (b : Bool) → p y ≡ b → IsAmong x (if b then y ∷ filter p ys else filter p ys)
        → (IsAmong x (filter p ys) → IsAmong x ys × (p x ≡ true)) → IsAmong x (y ∷ ys) × (p x ≡ true)
    of true e (inl is) rest = (inl is, sym (ap p is) ∙ e)
    of true e (inr more) rest = let r = rest more in (inr r.0, r.1)
    of false e more rest = let r = rest more in (inr r.0, r.1)

-- ---- one more

pub front : {X : Type 0} (xs ys : List X) (x : X) → IsAmong x xs → IsAmong x (xs ++ ys)
front [] ys x in_it = absurd in_it
front (z ∷ xs) ys x (inl is) = inl is
front (z ∷ xs) ys x (inr more) = inr (front xs ys x more)

pub last : {X : Type 0} (xs : List X) (x : X) → IsAmong x (xs ++ x ∷ [])
last [] x = inl refl
last (z ∷ xs) x = inr (last xs x)

pub either : {X : Type 0} (xs : List X) (y x : X) → IsAmong x (xs ++ y ∷ []) → IsAmong x xs ⊎ (y ≡ x)
either [] y x (inl is) = inr is
either [] y x (inr none) = absurd none
either (z ∷ xs) y x (inl is) = inl (inl is)
either (z ∷ xs) y x (inr more) = of (either xs y x more)
  where
    of : IsAmong x xs ⊎ (y ≡ x) → IsAmong x (z ∷ xs) ⊎ (y ≡ x)
    of (inl in_it) = inl (inr in_it)
    of (inr is) = inr is

pub with_old : (wanted : List Location) (o : Option Location) (l : Location) → IsAmong l wanted → IsAmong l (with_any wanted o)
with_old wanted None l in_it = in_it
with_old wanted (Some k) l in_it = of (list_any (same_location k) wanted)
  where
    of : (b : Bool) → IsAmong l (if b then wanted else wanted ++ k ∷ [])
    of true = in_it
    of false = front wanted (k ∷ []) l in_it

pub with_new : (wanted : List Location) (o : Option Location) (l : Location) → o ≡ Some l → IsAmong l (with_any wanted o)
with_new wanted None l h = cc
with_new wanted (Some k) l h = of (list_any (same_location k) wanted) refl
  where
    is : k ≡ l
    is = cc h

    there : (x : Location) × IsAmong x wanted × (same_location k x ≡ true) → IsAmong l wanted
    there r = subst (λ x. IsAmong x wanted) (sym (is_one k r.0 r.2) ∙ is) r.1

    of : (b : Bool) → list_any (same_location k) wanted ≡ b → IsAmong l (if b then wanted else wanted ++ k ∷ [])
    of true e = there (found (same_location k) wanted e)
    of false e = subst (λ x. IsAmong x (wanted ++ k ∷ [])) is (last wanted k)

pub with_either : (wanted : List Location) (o : Option Location) (l : Location) → IsAmong l (with_any wanted o)
    → IsAmong l wanted ⊎ (o ≡ Some l)
with_either wanted None l in_it = inl in_it
with_either wanted (Some k) l in_it = of (list_any (same_location k) wanted) in_it
  where
    last_one : IsAmong l wanted ⊎ (k ≡ l) → IsAmong l wanted ⊎ (Some k ≡ Some l)
    last_one (inl old) = inl old
    last_one (inr is) = inr (ap (λ x. Some x) is)

    of : (b : Bool) → IsAmong l (if b then wanted else wanted ++ k ∷ []) → IsAmong l wanted ⊎ (Some k ≡ Some l)
    of true old = inl old
    of false more = last_one (either wanted k l more)

-- ---- what is wanted before a flow

-- what it leaves
pub wanted_still : (f : Flow) (wanted : List Location) (l : Location) → IsAmong l wanted → not (overwrites f l) ≡ true
    → IsAmong l (wanted_before f wanted)
wanted_still f wanted l in_it h =
    let rest = filter (λ x. not (overwrites f x)) wanted in
    with_old (with_any rest f.first) f.second l (with_old rest f.first l (kept (λ x. not (overwrites f x)) wanted l in_it h))

-- and what it uses
pub wanted_too : (f : Flow) (wanted : List Location) (l : Location) → Uses f l → IsAmong l (wanted_before f wanted)
wanted_too f wanted l (inl is) =
    let rest = filter (λ x. not (overwrites f x)) wanted in
    with_old (with_any rest f.first) f.second l (with_new rest f.first l is)
wanted_too f wanted l (inr is) =
    with_new (with_any (filter (λ x. not (overwrites f x)) wanted) f.first) f.second l is

-- and nothing else
pub was_wanted : (f : Flow) (wanted : List Location) (l : Location) → IsAmong l (wanted_before f wanted)
    → (IsAmong l wanted × (not (overwrites f l) ≡ true)) ⊎ Uses f l
was_wanted f wanted l in_it = by (with_either (with_any rest f.first) f.second l in_it)
  where
    rest : List Location
    rest = filter (λ x. not (overwrites f x)) wanted

    first : IsAmong l rest ⊎ (f.first ≡ Some l) → (IsAmong l wanted × (not (overwrites f l) ≡ true)) ⊎ Uses f l
    first (inl old) = inl (was_kept (λ x. not (overwrites f x)) wanted l old)
    first (inr is) = inr (inl is)

    by : IsAmong l (with_any rest f.first) ⊎ (f.second ≡ Some l) → (IsAmong l wanted × (not (overwrites f l) ≡ true)) ⊎ Uses f l
    by (inl old) = first (with_either rest f.first l old)
    by (inr is) = inr (inr is)
