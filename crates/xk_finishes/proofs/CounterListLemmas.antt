-- Lists of counters, read by activity and depth.
use Rattle.std.proofs.Common.{◌≡◌, ℕ, zero, suc, ◌<◌, List, [], ◌∷◌, length, get_or, sym, subst, arith}
use Rattle.xk_finishes.specs.Counters.{count_in}

-- what is read of an element that is there
pub read_any : {X : Type 0} (xs : List X) (i : ℕ) (x none : X) → i < length xs → x ≡ get_or xs i x → x ≡ get_or xs i none
read_any [] i x none inside is = absurd (omega arith)
read_any (y ∷ ys) zero x none inside is = is
read_any (y ∷ ys) (suc i) x none inside is = read_any ys i x none (omega arith) is

-- what isn't 0 is there
place_some : (xs : List ℕ) (d : ℕ) → 0 < get_or xs d 0 → d < length xs
place_some [] d some = absurd (omega arith)
place_some (x ∷ xs) zero some = omega arith
place_some (x ∷ xs) (suc d) some = omega (arith, place_some xs d some)

list_some : (lists : List (List ℕ)) (a d : ℕ) → 0 < count_in lists a d → a < length lists
list_some [] a d some = absurd (omega arith)
list_some (x ∷ xs) zero d some = omega arith
list_some (x ∷ xs) (suc a) d some = omega (arith, list_some xs a d some)

pub there_some : (lists : List (List ℕ)) (a d : ℕ) → 0 < count_in lists a d → (a < length lists) × (d < length (get_or lists a []))
there_some lists a d some = (list_some lists a d some, place_some (get_or lists a []) d some)

-- a counter that isn't 0
pub own_some : (lists : List (List ℕ)) (a d : ℕ) (own : List ℕ) → 0 < count_in lists a d → own ≡ get_or lists a own → (d < length own) × (0 < get_or own d 0)
own_some lists a d own some read =
    let there = there_some lists a d some in
    let is = read_any lists a own [] there.0 read in
    (subst (λ (xs : List ℕ). d < length xs) (sym is) there.1, subst (λ (xs : List ℕ). 0 < get_or xs d 0) (sym is) some)
