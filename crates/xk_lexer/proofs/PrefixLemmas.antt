-- How far bytes pass a test, from the front on.
use Rattle.std.proofs.Common.{◌≡◌, ℕ, suc, ◌+◌, Bool, true, false, cond, IsTrue, IsFalse, List, [], ◌∷◌, ◌++◌, length, take, drop, refl, arith}
use Rattle.std.proofs.lemmas.Bool.{and_parts}
use Rattle.std.specs.List.{list_all, prefix_len}
use Rattle.xk_lexer.specs.Pieces.{begins}

-- up to the first that doesn't
pub prefix_len-append : (p : ℕ → Bool) (text after : List ℕ) → IsTrue (list_all p text) → IsFalse (begins p after) → prefix_len p (text ++ after) ≡ length text
prefix_len-append p [] [] all stops = refl
prefix_len-append p [] (c ∷ cs) all stops = rw stops refl
prefix_len-append p (c ∷ cs) after all stops =
    let a = and_parts (p c) (list_all p cs) all in
    let first = a.0 in
    rw first (let ih = prefix_len-append p cs after a.1 stops in omega arith)

-- those pass, and the next doesn't
pub list_all-take : (p : ℕ → Bool) (text : List ℕ) → IsTrue (list_all p (take (prefix_len p text) text))
list_all-take p [] = refl
list_all-take p (c ∷ cs) = by (p c) refl (list_all-take p cs)
  where
    by : (t : Bool) → p c ≡ t → IsTrue (list_all p (take (prefix_len p cs) cs)) → IsTrue (list_all p (take (cond t (1 + prefix_len p cs) 0) (c ∷ cs)))
    by true h ih = let one : 1 + prefix_len p cs ≡ suc (prefix_len p cs) = omega arith in rw (one, h) ih
    by false h ih = refl

pub begins-drop : (p : ℕ → Bool) (text : List ℕ) → IsFalse (begins p (drop (prefix_len p text) text))
begins-drop p [] = refl
begins-drop p (c ∷ cs) = by (p c) refl (begins-drop p cs)
  where
    by : (t : Bool) → p c ≡ t → IsFalse (begins p (drop (prefix_len p cs) cs)) → IsFalse (begins p (drop (cond t (1 + prefix_len p cs) 0) (c ∷ cs)))
    by true h ih = let one : 1 + prefix_len p cs ≡ suc (prefix_len p cs) = omega arith in rw one ih
    by false h ih = h

-- where the first passes, it is the first of those
pub begins-take : (p q : ℕ → Bool) (c : ℕ) (cs : List ℕ) → IsTrue (p c) → IsTrue (q c) → IsTrue (begins q (take (prefix_len p (c ∷ cs)) (c ∷ cs)))
begins-take p q c cs passes first = let one : 1 + prefix_len p cs ≡ suc (prefix_len p cs) = omega arith in rw (passes, one) first
