-- Writing texts one after another.
use Rattle.std.proofs.Common.{◌≡◌, ℕ, ◌+◌, ◌≤◌, min, List, ◌++◌, length, take, Option, Some, None, ap, sym, ◌∙◌, arith, append_assoc, subst}
use Rattle.std.proofs.Math.Seq.{take-append-add}
use Rattle.std.proofs.lemmas.List.{take-append-le, take_min}
use Rattle.std.specs.Io.KnownBytes.{Appends}
use Rattle.xk_io.specs.Writing.{AppendsBeginning}

-- two texts, one after the other
pub appends_then : (a b c : Option (List ℕ)) (xs ys : List ℕ) → Appends a b xs → Appends b c ys → Appends a c (xs ++ ys)
appends_then None b c xs ys h k = tt
appends_then (Some s) None c xs ys h k = absurd h
appends_then (Some s) (Some t) None xs ys h k = k
appends_then (Some s) (Some t) (Some u) xs ys h k = k ∙ ap (λ z. z ++ ys) h ∙ append_assoc s xs ys

-- a beginning of a text is one of a longer text
pub beginning_more : (a b : Option (List ℕ)) (xs ys : List ℕ) → AppendsBeginning a b xs → AppendsBeginning a b (xs ++ ys)
beginning_more a b xs ys h =
    let n = min h.0 (length xs) in
    let within : n ≤ length xs = omega arith in
    let same : take n (xs ++ ys) ≡ take h.0 xs = take-append-le n xs ys within ∙ take_min h.0 xs in
    (n, subst (Appends a b) (sym same) h.1)

-- a text, and then a beginning of another
pub beginning_then : (a b c : Option (List ℕ)) (xs ys : List ℕ) → Appends a b xs → AppendsBeginning b c ys → AppendsBeginning a c (xs ++ ys)
beginning_then a b c xs ys h k =
    (length xs + k.0, subst (Appends a c) (sym (take-append-add xs ys k.0)) (appends_then a b c xs (take k.0 ys) h k.1))
