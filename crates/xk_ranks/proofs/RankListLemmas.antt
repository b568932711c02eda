-- Lists of which some elements are kept, and the ranks of these.
use Rattle.std.proofs.Common.{◌≡◌, ℕ, zero, suc, ◌<◌, ◌≤◌, Bool, true, false, true≢false, ◌||◌, List, [], ◌∷◌, ◌++◌, map}
use Rattle.std.proofs.Common.{length, replicate, set, get_or, Some, refl, sym, ap, ◌∙◌, arith}
use Rattle.std.specs.Prelude.{slice_get}
use Rattle.std.specs.List.{list_any}
use Rattle.std.proofs.lemmas.Option.{none-some, same_Some}
use Rattle.xk_ranks.specs.Ranks.{kept, rank}

-- number a is marked
abbrev pub IsMarked : List Bool → ℕ → Type 0
IsMarked marks a = slice_get marks a ≡ Some true

-- ---- an element

pub get-kept : {X : Type 0} (ms : List Bool) (xs : List X) (a : ℕ) → IsMarked ms a → slice_get (kept ms xs) (rank ms a) ≡ slice_get xs a
get-kept [] xs a h = absurd (none-some true h)
get-kept (b ∷ ms) [] a h = refl
get-kept (true ∷ ms) (x ∷ xs) zero h = refl
get-kept (false ∷ ms) (x ∷ xs) zero h = absurd (true≢false (sym (same_Some false true h)))
get-kept (true ∷ ms) (x ∷ xs) (suc a) h = get-kept ms xs a h
get-kept (false ∷ ms) (x ∷ xs) (suc a) h = get-kept ms xs a h

pub get_or-kept : {X : Type 0} (ms : List Bool) (xs : List X) (a : ℕ) (d : X) → IsMarked ms a
    → get_or (kept ms xs) (rank ms a) d ≡ get_or xs a d
get_or-kept [] xs a d h = absurd (none-some true h)
get_or-kept (b ∷ ms) [] a d h = refl
get_or-kept (true ∷ ms) (x ∷ xs) zero d h = refl
get_or-kept (false ∷ ms) (x ∷ xs) zero d h = absurd (true≢false (sym (same_Some false true h)))
get_or-kept (true ∷ ms) (x ∷ xs) (suc a) d h = get_or-kept ms xs a d h
get_or-kept (false ∷ ms) (x ∷ xs) (suc a) d h = get_or-kept ms xs a d h

pub set-kept : {X : Type 0} (ms : List Bool) (xs : List X) (a : ℕ) (y : X) → IsMarked ms a
    → set (kept ms xs) (rank ms a) y ≡ kept ms (set xs a y)
set-kept [] xs a y h = absurd (none-some true h)
set-kept (b ∷ ms) [] a y h = refl
set-kept (true ∷ ms) (x ∷ xs) zero y h = refl
set-kept (false ∷ ms) (x ∷ xs) zero y h = absurd (true≢false (sym (same_Some false true h)))
set-kept (true ∷ ms) (x ∷ xs) (suc a) y h = ap (λ zs. x ∷ zs) (set-kept ms xs a y h)
set-kept (false ∷ ms) (x ∷ xs) (suc a) y h = set-kept ms xs a y h

-- the element of this rank
pub record IsKept {X : Type 0} (ms : List Bool) (xs : List X) (r : ℕ) (y : X) : Type 0 where
  pub number : ℕ
  pub marked : IsMarked ms number
  pub ranks : rank ms number ≡ r
  pub found : slice_get xs number ≡ Some y

pub of_rank : {X : Type 0} (ms : List Bool) (xs : List X) (r : ℕ) (y : X) → slice_get (kept ms xs) r ≡ Some y → IsKept ms xs r y
of_rank [] xs r y h = absurd (none-some y h)
of_rank (b ∷ ms) [] r y h = absurd (none-some y h)
of_rank (true ∷ ms) (x ∷ xs) zero y h = record { number = zero; marked = refl; ranks = refl; found = h }
of_rank (true ∷ ms) (x ∷ xs) (suc r) y h =
    let k : IsKept ms xs r y = of_rank ms xs r y h in
    record { number = suc k.number; marked = k.marked; ranks = ap suc k.ranks; found = k.found }
of_rank (false ∷ ms) (x ∷ xs) r y h =
    let k : IsKept ms xs r y = of_rank ms xs r y h in
    record { number = suc k.number; marked = k.marked; ranks = k.ranks; found = k.found }

-- ---- lists

pub map-kept : {X Y : Type 0} (f : X → Y) (ms : List Bool) (xs : List X) → map f (kept ms xs) ≡ kept ms (map f xs)
map-kept f [] xs = refl
map-kept f (b ∷ ms) [] = refl
map-kept f (true ∷ ms) (x ∷ xs) = ap (λ zs. f x ∷ zs) (map-kept f ms xs)
map-kept f (false ∷ ms) (x ∷ xs) = map-kept f ms xs

pub push-kept : {X : Type 0} (ms : List Bool) (xs : List X) (x : X) → length ms ≡ length xs
    → kept (ms ++ true ∷ []) (xs ++ x ∷ []) ≡ kept ms xs ++ x ∷ []
push-kept [] [] x h = refl
push-kept [] (y ∷ xs) x h = absurd (omega (arith, h))
push-kept (b ∷ ms) [] x h = absurd (omega (arith, h))
push-kept (true ∷ ms) (y ∷ xs) x h = ap (λ zs. y ∷ zs) (push-kept ms xs x (omega (arith, h)))
push-kept (false ∷ ms) (y ∷ xs) x h = push-kept ms xs x (omega (arith, h))

pub replicate-kept : {X Y : Type 0} (ms : List Bool) (xs : List X) (y : Y) → length ms ≡ length xs
    → kept ms (replicate (length xs) y) ≡ replicate (length (kept ms xs)) y
replicate-kept [] [] y h = refl
replicate-kept [] (x ∷ xs) y h = absurd (omega (arith, h))
replicate-kept (b ∷ ms) [] y h = absurd (omega (arith, h))
replicate-kept (true ∷ ms) (x ∷ xs) y h = ap (λ zs. y ∷ zs) (replicate-kept ms xs y (omega (arith, h)))
replicate-kept (false ∷ ms) (x ∷ xs) y h = replicate-kept ms xs y (omega (arith, h))

-- where none passes that is left out, somebody passes in both or in neither
pub any-kept : {X : Type 0} (test : X → Bool) (ms : List Bool) (xs : List X) → length ms ≡ length xs
    → ((b : ℕ) (x : X) → slice_get ms b ≡ Some false → slice_get xs b ≡ Some x → test x ≡ false)
    → list_any test (kept ms xs) ≡ list_any test xs
any-kept test [] [] h none = refl
any-kept test [] (x ∷ xs) h none = absurd (omega (arith, h))
any-kept test (b ∷ ms) [] h none = refl
any-kept test (true ∷ ms) (x ∷ xs) h none =
    ap (λ p. test x || p) (any-kept test ms xs (omega (arith, h)) (λ b y at there. none (suc b) y at there))
any-kept test (false ∷ ms) (x ∷ xs) h none =
    any-kept test ms xs (omega (arith, h)) (λ b y at there. none (suc b) y at there)
    ∙ ap (λ p. p || list_any test xs) (sym (none zero x refl refl))

-- ---- ranks

pub rank_zero : (ms : List Bool) → rank ms zero ≡ zero
rank_zero [] = refl
rank_zero (b ∷ ms) = refl

-- greater numbers have greater ranks
pub rank_less : (ms : List Bool) (a b : ℕ) → IsMarked ms a → a < b → b ≤ length ms → rank ms a < rank ms b
rank_less [] a b h less inside = absurd (none-some true h)
rank_less (m ∷ ms) a zero h less inside = absurd (omega (arith, less))
rank_less (true ∷ ms) zero (suc b) h less inside = omega arith
rank_less (false ∷ ms) zero (suc b) h less inside = absurd (true≢false (sym (same_Some false true h)))
rank_less (true ∷ ms) (suc a) (suc b) h less inside =
    (let r = rank_less ms a b h (omega (arith, less)) (omega (arith, inside)) in omega (arith, r))
rank_less (false ∷ ms) (suc a) (suc b) h less inside = rank_less ms a b h (omega (arith, less)) (omega (arith, inside))

-- and two that are marked have one rank only if they are one
pub one_rank : (ms : List Bool) (a b : ℕ) → IsMarked ms a → IsMarked ms b → rank ms a ≡ rank ms b → a ≡ b
one_rank [] a b h g same = absurd (none-some true h)
one_rank (true ∷ ms) zero zero h g same = refl
one_rank (true ∷ ms) zero (suc b) h g same = absurd (omega (arith, same))
one_rank (true ∷ ms) (suc a) zero h g same = absurd (omega (arith, same))
one_rank (true ∷ ms) (suc a) (suc b) h g same = ap suc (one_rank ms a b h g (omega (arith, same)))
one_rank (false ∷ ms) zero b h g same = absurd (true≢false (sym (same_Some false true h)))
one_rank (false ∷ ms) (suc a) zero h g same = absurd (true≢false (sym (same_Some false true g)))
one_rank (false ∷ ms) (suc a) (suc b) h g same = ap suc (one_rank ms a b h g same)

pub rank-push : (ms : List Bool) (m : Bool) (a : ℕ) → a < length ms → rank (ms ++ m ∷ []) a ≡ rank ms a
rank-push [] m a h = absurd (omega (arith, h))
rank-push (b ∷ ms) m zero h = refl
rank-push (true ∷ ms) m (suc a) h = ap suc (rank-push ms m a (omega (arith, h)))
rank-push (false ∷ ms) m (suc a) h = rank-push ms m a (omega (arith, h))

-- ---- fewer marks

-- what is marked by the first is by the second
abbrev pub AreFewer : List Bool → List Bool → Type 0
AreFewer gs ms = (b : ℕ) → IsMarked gs b → IsMarked ms b

kept_none : {X : Type 0} (ns : List Bool) → kept {X = X} ns [] ≡ []
kept_none [] = refl
kept_none (n ∷ ns) = refl

pub kept_twice : {X : Type 0} (gs ms : List Bool) (xs : List X) → length gs ≡ length ms → AreFewer gs ms
    → kept (kept ms gs) (kept ms xs) ≡ kept gs xs
kept_twice [] [] xs h fewer = refl
kept_twice [] (m ∷ ms) xs h fewer = absurd (omega (arith, h))
kept_twice (g ∷ gs) [] xs h fewer = absurd (omega (arith, h))
kept_twice (true ∷ gs) (true ∷ ms) [] h fewer = refl
kept_twice (false ∷ gs) (true ∷ ms) [] h fewer = refl
kept_twice (g ∷ gs) (false ∷ ms) [] h fewer = kept_none (kept ms gs)
kept_twice (true ∷ gs) (true ∷ ms) (x ∷ xs) h fewer =
    ap (λ zs. x ∷ zs) (kept_twice gs ms xs (omega (arith, h)) (λ b at. fewer (suc b) at))
kept_twice (false ∷ gs) (true ∷ ms) (x ∷ xs) h fewer = kept_twice gs ms xs (omega (arith, h)) (λ b at. fewer (suc b) at)
kept_twice (true ∷ gs) (false ∷ ms) (x ∷ xs) h fewer = absurd (true≢false (sym (same_Some false true (fewer zero refl))))
kept_twice (false ∷ gs) (false ∷ ms) (x ∷ xs) h fewer = kept_twice gs ms xs (omega (arith, h)) (λ b at. fewer (suc b) at)

pub rank_twice : (gs ms : List Bool) (a : ℕ) → length gs ≡ length ms → AreFewer gs ms → rank (kept ms gs) (rank ms a) ≡ rank gs a
rank_twice [] [] a h fewer = refl
rank_twice [] (m ∷ ms) a h fewer = absurd (omega (arith, h))
rank_twice (g ∷ gs) [] a h fewer = absurd (omega (arith, h))
rank_twice (g ∷ gs) (m ∷ ms) zero h fewer = rank_zero (kept (m ∷ ms) (g ∷ gs))
rank_twice (true ∷ gs) (true ∷ ms) (suc a) h fewer = ap suc (rank_twice gs ms a (omega (arith, h)) (λ b at. fewer (suc b) at))
rank_twice (false ∷ gs) (true ∷ ms) (suc a) h fewer = rank_twice gs ms a (omega (arith, h)) (λ b at. fewer (suc b) at)
rank_twice (true ∷ gs) (false ∷ ms) (suc a) h fewer = absurd (true≢false (sym (same_Some false true (fewer zero refl))))
rank_twice (false ∷ gs) (false ∷ ms) (suc a) h fewer = rank_twice gs ms a (omega (arith, h)) (λ b at. fewer (suc b) at)
