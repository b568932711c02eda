-- How long pieces are.
use Rattle.std.proofs.Common.{◌≡◌, ℕ, zero, suc, ◌+◌, ◌-◌, ◌*◌, ◌^◌, ◌/◌, leb, ◌<◌, ◌≤◌, ◌==◌, Bool, true, false, List, [], ◌∷◌, length, drop, ◌++◌, append_assoc, length-append, length-drop, Option, Some, None, unwrap_or, refl, sym, ap, subst, ◌∙◌, arith}
use Rattle.std.proofs.lemmas.Bool.{lt-leb, cond_both}
use Rattle.xk_lexer.specs.declared.token.Sign.{Sign}
use Rattle.std.proofs.lemmas.List.{append-nil}
use Rattle.std.specs.List.{prefix_len}
use Rattle.std.proofs.lemmas.List.Sums.{prefix_len-le-length}
use Rattle.xk_lexer.specs.Tokens.{Lexeme, TokenValue}
use Rattle.xk_lexer.specs.Pieces.{is_blank, is_letter, is_digit, is_word_byte, isnt_line_feed, slash, star, decimal, with_token}
use Rattle.xk_lexer.specs.Lexing.{closing, two_at, one_at, sign_or, sign_at, value_of, block_comment, comment_at, piece_at, front_at, lexed_from, lexed}
use Rattle.xk_lexer.proofs.CommentLemmas.{closing_cut}

-- a greater front gives a greater number
decimal_least : (v : ℕ) (ds : List ℕ) → v ≤ decimal v ds
decimal_least v [] = omega arith
decimal_least v (d ∷ ds) = let h = decimal_least (v * 10 + (d - 48)) ds in omega arith

-- a length that leaves room
abbrev pub Within : List ℕ → Option Lexeme × ℕ → Type 0
Within text p = (0 < p.1) × (p.1 ≤ length text)

sign_room : (b : ℕ) (bs : List ℕ) → Within (b ∷ bs) (sign_at (b ∷ bs))
unfolding sign_at
sign_room b [] = one (one_at (b ∷ []))
  where
    one : (o : Option Sign) → Within (b ∷ []) (sign_or (b ∷ []) None o)
    one None = (omega arith, omega arith)
    one (Some s) = (omega arith, omega arith)
sign_room b (c ∷ bs) = two (two_at (b ∷ c ∷ bs)) (one_at (b ∷ c ∷ bs))
  where
    two : (t o : Option Sign) → Within (b ∷ c ∷ bs) (sign_or (b ∷ c ∷ bs) t o)
    two (Some s) o = (omega arith, omega arith)
    two None None = (omega arith, omega arith)
    two None (Some s) = (omega arith, omega arith)

comment_room : (b : ℕ) (bs : List ℕ) → Within (b ∷ bs) (unwrap_or (comment_at (b ∷ bs)) (sign_at (b ∷ bs)))
unfolding comment_at
comment_room b [] = sign_room b []
comment_room b (c ∷ bs) =
    let other = sign_room b (c ∷ bs) in
    let P = λ (o : Option (Option Lexeme × ℕ)). Within (b ∷ c ∷ bs) (unwrap_or o (sign_at (b ∷ c ∷ bs))) in
    cond_both (b == slash) _ _ P (λ _.
    cond_both (c == slash) _ _ P (λ _. let h = prefix_len-le-length isnt_line_feed bs in (omega arith, omega arith)) (λ _.
    cond_both (c == star) _ _ P (λ _. within (closing bs) refl) (λ _. other))) (λ _. other)
  where
    within : (o : Option ℕ) → closing bs ≡ o → Within (b ∷ c ∷ bs) (block_comment (b ∷ c ∷ bs) o)
    within None h = (omega arith, omega arith)
    within (Some n) h = let c = closing_cut bs n h in
        let e : length bs ≡ n + suc (suc (length c.1)) = ap length c.2 ∙ length-append c.0 (star ∷ slash ∷ c.1) ∙ ap (λ (m : ℕ). m + suc (suc (length c.1))) c.3 in
        (omega (arith, e), omega (arith, e))

-- a piece has a byte at least, and ends in the text
piece_room : (b : ℕ) (bs : List ℕ) → Within (b ∷ bs) (piece_at b (b ∷ bs))
unfolding piece_at
piece_room b bs =
    let P = Within (b ∷ bs) in
    cond_both (is_blank b) _ _ P (λ _. (omega arith, omega arith)) (λ _.
    cond_both (is_letter b) _ _ P (λ h. counted is_word_byte (rw h refl)) (λ _.
    cond_both (is_digit b) _ _ P (λ h. counted is_digit h) (λ _. comment_room b bs)))
  where
    counted : (p : ℕ → Bool) → p b ≡ true → (0 < prefix_len p (b ∷ bs)) × (prefix_len p (b ∷ bs) ≤ length (b ∷ bs))
    counted p h = (rw h (omega arith), prefix_len-le-length p (b ∷ bs))

-- bytes of the piece before
lexed_skip : (k at : ℕ) (bs : List ℕ) → lexed_from k at bs ≡ lexed_from 0 (at + k) (drop k bs)
lexed_skip zero at bs = ap (λ (n : ℕ). lexed_from 0 n bs) (omega arith)
lexed_skip (suc k) at [] = refl
lexed_skip (suc k) at (b ∷ bs) = lexed_skip k (suc at) bs ∙ ap (λ (n : ℕ). lexed_from 0 n (drop k bs)) (omega arith)

-- one piece, and the pieces behind it
lexed_next : (at b : ℕ) (bs : List ℕ) → let p = piece_at b (b ∷ bs) in lexed_from 0 at (b ∷ bs) ≡ with_token at p.0 (lexed_from 0 (at + p.1) (drop p.1 (b ∷ bs)))
lexed_next at b bs = by (piece_at b (b ∷ bs)) (piece_room b bs)
  where
    by : (p : Option Lexeme × ℕ) → Within (b ∷ bs) p → with_token at p.0 (lexed_from (p.1 - 1) (suc at) bs) ≡ with_token at p.0 (lexed_from 0 (at + p.1) (drop p.1 (b ∷ bs)))
    by p h = ap (with_token at p.0) (step p.1 h.0)
      where
        step : (n : ℕ) → 0 < n → lexed_from (n - 1) (suc at) bs ≡ lexed_from 0 (at + n) (drop n (b ∷ bs))
        step zero h = absurd (omega arith)
        step (suc n) h = let e : suc n - 1 ≡ n = omega arith in rw e (lexed_skip n (suc at) bs ∙ ap (λ (m : ℕ). lexed_from 0 m (drop n bs)) (omega arith))

-- a number that is too great once its next digit is read
pub too_great : (ds : List ℕ) (v : ℕ) (rest : List ℕ) → 1 ≤ length rest → 9223372036854775808 / 10 < v → decimal v rest ≡ decimal 0 ds → None ≡ value_of ds
too_great ds v [] some big e = absurd (omega arith)
too_great ds v (d ∷ rest) some big e =
    let h = decimal_least (v * 10 + (d - 48)) rest in
    let t : leb (decimal 0 ds) (2 ^ 63) ≡ false = lt-leb _ _ (omega arith) in
    rw t refl

pub front_room : (text : List ℕ) (p : Option Lexeme × ℕ) → Some p ≡ front_at text → Within text p
front_room [] p e = absurd cc
front_room (b ∷ bs) p e = let q : piece_at b (b ∷ bs) ≡ p = cc in subst (Within (b ∷ bs)) q (piece_room b bs)

-- one piece, at the text that it begins
pub front_next : (at : ℕ) (text : List ℕ) (p : Option Lexeme × ℕ) → Some p ≡ front_at text → lexed_from 0 at text ≡ with_token at p.0 (lexed_from 0 (at + p.1) (drop p.1 text))
front_next at [] p e = absurd cc
front_next at (b ∷ bs) p e =
    let q : piece_at b (b ∷ bs) ≡ p = cc in
    subst (λ (x : Option Lexeme × ℕ). lexed_from 0 at (b ∷ bs) ≡ with_token at x.0 (lexed_from 0 (at + x.1) (drop x.1 (b ∷ bs)))) q (lexed_next at b bs)

pub with_token-append : (at : ℕ) (o : Option Lexeme) (ts us : List TokenValue) → with_token at o ts ++ us ≡ with_token at o (ts ++ us)
with_token-append at None ts us = refl
with_token-append at (Some l) ts us = refl

-- the tokens so far, and those of the rest
pub goes_on : (text rest after : List ℕ) (old new : List TokenValue) (p : Option Lexeme × ℕ)
    → Some p ≡ front_at rest → length rest ≤ length text → old ++ lexed_from 0 (length text - length rest) rest ≡ lexed text
    → new ≡ old ++ with_token (length text - length rest) p.0 [] → after ≡ drop p.1 rest
    → (length after ≤ length text) × (new ++ lexed_from 0 (length text - length after) after ≡ lexed text)
goes_on text rest after old new p e room so_far made left =
    let w = front_room rest p e in
    let at = length text - length rest in
    let shorter : length after + p.1 ≡ length rest = omega (arith, ap length left, length-drop p.1 rest) in
    let where_ : length text - length after ≡ at + p.1 = omega arith in (
      omega arith,
      ap (λ (ts : List TokenValue). ts ++ lexed_from 0 (length text - length after) after) made
          ∙ append_assoc old (with_token at p.0 []) (lexed_from 0 (length text - length after) after)
          ∙ ap (λ (ts : List TokenValue). old ++ ts) (with_token-append at p.0 [] (lexed_from 0 (length text - length after) after)
          ∙ ap (with_token at p.0) (ap (λ (n : ℕ). lexed_from 0 n after) where_ ∙ ap (lexed_from 0 (at + p.1)) left)
          ∙ sym (front_next at rest p e))
          ∙ so_far,
    )

-- at the text's end all are there
pub ends : (tokens : List TokenValue) (text rest : List ℕ) → None ≡ front_at rest → tokens ++ lexed_from 0 (length text - length rest) rest ≡ lexed text → tokens ≡ lexed text
ends tokens text [] e so_far = sym (append-nil tokens) ∙ so_far
ends tokens text (b ∷ bs) e so_far = absurd cc
