-- The signs of a text, one after another.
use Rattle.std.proofs.Common.{◌≡◌, ℕ, zero, suc, ◌+◌, ◌-◌, ◌<◌, ◌≤◌, Bool, true, false, List, [], ◌∷◌, ◌++◌, length, take, drop, refl, ap, sym, ◌∙◌, subst, arith, min}
use Rattle.std.proofs.lemmas.List.{take_all, length-drop, flat_map_more, take-append-drop}
use Rattle.std.specs.Prelude.{Result, Ok, Err, MatchResult, is_ok, count_by, flat_map}
use Rattle.std.specs.Str.{IsUtf8, continuation_len, is_utf8}
use Rattle.std.proofs.lemmas.Str.{IsUtf8-from_is_utf8, is_utf8-from_IsUtf8}
use Rattle.std.proofs.lemmas.Bool.{cond_both}
use Rattle.xk_lines.specs.Excerpts.{cut, excerpt, framed, shown_before, window}
use Rattle.xk_lines.specs.Lines.{first_line, is_line_feed, line_at, line_start, position_of}
use Rattle.xk_lines.specs.Signs.{front, is_character, signs, signs_behind, sign_len, shown_sign, shown_signs}

-- ---- UTF-8

no_utf8 : (bytes : List ℕ) (b : Bool) → is_utf8 bytes ≡ b → ¬ (IsUtf8 bytes) → false ≡ b
no_utf8 bytes true e h = absurd (h (IsUtf8-from_is_utf8 bytes e))
no_utf8 bytes false e h = refl

pub utf8_test : {A E : Type 0} (P : A → Type 0) (Q : E → Type 0) (bytes : List ℕ) (r : Result A E)
    → MatchResult r (λ s. P s × IsUtf8 bytes) (λ e. ¬ (IsUtf8 bytes) × Q e) → is_ok r ≡ is_utf8 bytes
utf8_test P Q bytes (Ok s) h = sym (is_utf8-from_IsUtf8 bytes h.1)
utf8_test P Q bytes (Err e) h = no_utf8 bytes (is_utf8 bytes) refl h.0

-- ---- signs

pub signs_none : (text : List ℕ) → length text ≡ 0 → signs text ≡ []
unfolding signs
signs_none [] h = refl
signs_none (b ∷ bs) h = absurd (omega (arith, h))

skipped : (k : ℕ) (text : List ℕ) → signs_behind k text ≡ signs_behind 0 (drop k text)
skipped zero text = refl
skipped (suc k) [] = refl
skipped (suc k) (b ∷ bs) = skipped k bs

behind_first : (b : ℕ) (bs : List ℕ) (n : ℕ) → 0 < n → signs_behind (n - 1) bs ≡ signs_behind 0 (drop n (b ∷ bs))
behind_first b bs zero h = absurd (omega (arith, h))
behind_first b bs (suc n) h = let e : suc n - 1 ≡ n = omega arith in ap (λ k. signs_behind k bs) e ∙ skipped n bs

-- the first sign, and those behind it
pub signs_step : (text first rest : List ℕ) (n : ℕ) → 0 < length text → n ≡ sign_len text → 0 < n → first ≡ take n text → rest ≡ drop n text → signs text ≡ first ∷ signs rest
unfolding signs
signs_step [] first rest n some is h f r = absurd (omega (arith, some))
signs_step (b ∷ bs) first rest n some is h f r =
    let all : signs_behind 0 (b ∷ bs) ≡ take n (b ∷ bs) ∷ signs_behind (n - 1) bs =
    ap (λ k. take k (b ∷ bs) ∷ signs_behind (k - 1) bs) (sym is) in
    all ∙ ap (λ l. take n (b ∷ bs) ∷ l) (behind_first b bs n h ∙ ap (signs_behind 0) (sym r)) ∙ ap (λ l. l ∷ signs_behind 0 rest) (sym f)

-- no more signs than bytes
signs_behind_short : (k : ℕ) (text : List ℕ) → length (signs_behind k text) ≤ length text
signs_behind_short k [] = omega arith
signs_behind_short zero (b ∷ bs) = let rest = signs_behind_short (sign_len (b ∷ bs) - 1) bs in omega (arith, rest)
signs_behind_short (suc k) (b ∷ bs) = let rest = signs_behind_short k bs in omega (arith, rest)

pub all_signs : (text : List ℕ) → take (length text) (signs text) ≡ signs text
unfolding signs
all_signs text = take_all (length text) (signs_behind 0 text) (signs_behind_short 0 text)

sign_len_some : (b : ℕ) (bs : List ℕ) → 0 < sign_len (b ∷ bs)
sign_len_some b bs =
    let first : front (b ∷ bs) ≡ b ∷ take (continuation_len b) bs =
    ap (λ k. take k (b ∷ bs)) (let n : continuation_len b + 1 ≡ suc (continuation_len b) = omega arith in n) in
    let some : 0 < length (front (b ∷ bs)) = let l = ap length first in omega (arith, l) in
    cond_both (is_character (front (b ∷ bs))) (length (front (b ∷ bs))) 1 (λ n. 0 < n) (λ yes. some) (λ no. omega arith)

drop_first : (b : ℕ) (bs : List ℕ) (n : ℕ) → 0 < n → drop (n - 1) bs ≡ drop n (b ∷ bs)
drop_first b bs zero h = absurd (omega (arith, h))
drop_first b bs (suc n) h = let e : suc n - 1 ≡ n = omega arith in ap (λ k. drop k bs) e

joined : (k : ℕ) (text : List ℕ) → flat_map (λ sign. sign) (signs_behind k text) ≡ drop k text
joined zero [] = refl
joined (suc k) [] = refl
joined zero (b ∷ bs) =
    let n = sign_len (b ∷ bs) in
    ap (λ l. take n (b ∷ bs) ++ l) (joined (n - 1) bs ∙ drop_first b bs n (sign_len_some b bs)) ∙ take-append-drop n (b ∷ bs)
joined (suc k) (b ∷ bs) = joined k bs

-- nothing is left out
pub joined_signs : (text : List ℕ) → flat_map (λ sign. sign) (signs text) ≡ text
unfolding signs
joined_signs text = joined 0 text

-- ---- lists that are gone through

drop_suc : {X : Type 0} (k : ℕ) (xs : List X) (x : X) (rest : List X) → x ∷ rest ≡ drop k xs → rest ≡ drop (suc k) xs
drop_suc zero [] x rest e = cc
drop_suc zero (y ∷ ys) x rest e = cc
drop_suc (suc k) [] x rest e = cc
drop_suc (suc k) (y ∷ ys) x rest e = drop_suc k ys x rest e

take_suc : {X : Type 0} (k : ℕ) (xs : List X) (x : X) (rest : List X) → x ∷ rest ≡ drop k xs → take (suc k) xs ≡ take k xs ++ x ∷ []
take_suc zero [] x rest e = cc
take_suc zero (y ∷ ys) x rest e = let same : y ≡ x = cc in ap (λ z. z ∷ []) same
take_suc (suc k) [] x rest e = cc
take_suc (suc k) (y ∷ ys) x rest e = ap (λ l. y ∷ l) (take_suc k ys x rest e)

pub drop_next : {X : Type 0} (k : ℕ) (xs : List X) (x : X) (rest : List X) → x ∷ rest ≡ drop k xs → rest ≡ drop (k + 1) xs
drop_next k xs x rest e = subst (λ n. rest ≡ drop n xs) (let n : suc k ≡ k + 1 = omega arith in n) (drop_suc k xs x rest e)

take_next : {X : Type 0} (k : ℕ) (xs : List X) (x : X) (rest : List X) → x ∷ rest ≡ drop k xs → take (k + 1) xs ≡ take k xs ++ x ∷ []
take_next k xs x rest e = subst (λ n. take n xs ≡ take k xs ++ x ∷ []) (let n : suc k ≡ k + 1 = omega arith in n) (take_suc k xs x rest e)

pub drop_none : {X : Type 0} (k n : ℕ) (xs : List X) → [] ≡ drop k xs → k ≤ n → [] ≡ drop n xs
drop_none zero zero xs e h = e
drop_none zero (suc n) [] e h = refl
drop_none zero (suc n) (y ∷ ys) e h = cc
drop_none (suc k) zero xs e h = absurd (omega (arith, h))
drop_none (suc k) (suc n) [] e h = refl
drop_none (suc k) (suc n) (y ∷ ys) e h = drop_none k n ys e (omega (arith, h))

pub take_none : {X : Type 0} (k n : ℕ) (xs : List X) → [] ≡ drop k xs → k ≤ n → take k xs ≡ take n xs
take_none zero zero xs e h = refl
take_none zero (suc n) [] e h = refl
take_none zero (suc n) (y ∷ ys) e h = cc
take_none (suc k) zero xs e h = absurd (omega (arith, h))
take_none (suc k) (suc n) [] e h = refl
take_none (suc k) (suc n) (y ∷ ys) e h = ap (λ l. y ∷ l) (take_none k n ys e (omega (arith, h)))

-- ---- the last ones of a list, and the first ones

-- not more than n are left
last_ones : {X : Type 0} (n : ℕ) (xs : List X) → take n (drop (length xs - n) xs) ≡ drop (length xs - n) xs
last_ones n xs = let left = length-drop (length xs - n) xs in take_all n (drop (length xs - n) xs) (omega (arith, left))

take_up_to : {X : Type 0} (n : ℕ) (xs : List X) → take (min (length xs) n) xs ≡ take n xs
take_up_to zero xs = let none : min (length xs) 0 ≡ 0 = omega arith in ap (λ k. take k xs) none
take_up_to (suc n) [] = let none : min 0 (suc n) ≡ 0 = omega arith in ap (λ k. take k []) none
take_up_to (suc n) (x ∷ xs) =
    let one : min (suc (length xs)) (suc n) ≡ suc (min (length xs) n) = omega arith in
    ap (λ k. take k (x ∷ xs)) one ∙ ap (λ l. x ∷ l) (take_up_to n xs)

drop_up_to : {X : Type 0} (n : ℕ) (xs : List X) → drop (min (length xs) n) xs ≡ drop n xs
drop_up_to zero xs = let none : min (length xs) 0 ≡ 0 = omega arith in ap (λ k. drop k xs) none
drop_up_to (suc n) [] = let none : min 0 (suc n) ≡ 0 = omega arith in ap (λ k. drop k []) none
drop_up_to (suc n) (x ∷ xs) =
    let one : min (suc (length xs)) (suc n) ≡ suc (min (length xs) n) = omega arith in
    ap (λ k. drop k (x ∷ xs)) one ∙ drop_up_to n xs

-- ---- signs as they are shown, one more

pub shown_next : (before shown : List ℕ) (k : ℕ) (ss : List (List ℕ)) (x : List ℕ) (rest : List (List ℕ)) → x ∷ rest ≡ drop k ss
    → shown ≡ before ++ shown_signs (take k ss) → shown ++ shown_sign x ≡ before ++ shown_signs (take (k + 1) ss)
shown_next before shown k ss x rest e h =
    ap (λ l. l ++ shown_sign x) h ∙ flat_map_more shown_sign before (take k ss) x ∙ ap (λ l. before ++ shown_signs l) (sym (take_next k ss x rest e))

-- what is shown before the caret, as it is put together
pub before_is : (ss rest : List (List ℕ)) (count k : ℕ) (none cuts shown : List ℕ) → none ≡ [] → count ≡ length ss → cuts ≡ none ++ cut count
    → k ≡ count - window → rest ≡ drop k ss → shown ≡ cuts ++ shown_signs (take window rest) → shown ≡ shown_before ss
before_is ss rest count k none cuts shown n c m e r h =
    let first : cuts ≡ cut (length ss) = m ∙ ap (λ l. l ++ cut count) n ∙ ap cut c in
    let left : rest ≡ drop (length ss - window) ss = r ∙ ap (λ j. drop j ss) (e ∙ ap (λ j. j - window) c) in
    h ∙ ap (λ l. l ++ shown_signs (take window rest)) first
    ∙ ap (λ l. cut (length ss) ++ shown_signs l) (ap (take window) left ∙ last_ones window ss)

-- an excerpt, as it is put together
pub excerpt_is : (text line before from : List ℕ) (at marked number start : ℕ) → number ≡ 1 + count_by is_line_feed (take at text) → start ≡ line_start text at
    → line ≡ first_line (drop start text) → before ≡ take (min (length line) (at - start)) line → from ≡ drop (min (length line) (at - start)) line
    → framed number (signs before) (signs from) marked ≡ excerpt text at marked
excerpt_is text line before from at marked number start n s l b f =
    let k = at - line_start text at in
    let place : at - start ≡ k = ap (λ j. at - j) s in
    let whole : line ≡ line_at text at = l ∙ ap (λ j. first_line (drop j text)) s in
    let left : before ≡ take k (line_at text at) = b ∙ take_up_to (at - start) line ∙ ap (λ j. take j line) place ∙ ap (take k) whole in
    let right : from ≡ drop k (line_at text at) = f ∙ drop_up_to (at - start) line ∙ ap (λ j. drop j line) place ∙ ap (drop k) whole in
    ap (λ j. framed j (signs before) (signs from) marked) n
    ∙ ap (λ bs. framed (position_of text at).line (signs bs) (signs from) marked) left
    ∙ ap (λ bs. framed (position_of text at).line (signs (take k (line_at text at))) (signs bs) marked) right
