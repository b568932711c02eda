-- What a piece spells is read as it.
use Rattle.std.proofs.Common.{◌≡◌, ℕ, suc, ◌+◌, ◌==◌, ◌&&◌, IsTrue, IsFalse, List, [], ◌∷◌, ◌++◌, length, take, append_assoc, length-append, Option, Some, None, refl, ap, arith, eqb-true}
use Rattle.std.proofs.lemmas.Bool.{and_parts, cond_both}
use Rattle.std.proofs.lemmas.List.{take_at}
use Rattle.std.specs.List.{prefix_len}
use Rattle.xk_lexer.specs.declared.token.Sign.{Sign}
use Rattle.xk_lexer.specs.declared.token.Sign.TheVariants as sign
use Rattle.xk_lexer.specs.Tokens.{Symbol, sign_text}
use Rattle.xk_lexer.specs.Pieces.{is_blank, is_letter, is_digit, is_word_byte, isnt_line_feed, slash, star, Piece, Blank, LineComment, BlockComment, Word, Digits, Mark, piece_text, IsPiece, token_of}
use Rattle.xk_lexer.specs.Lexing.{sign_of_one, sign_of_two, sign_at, comment_at, piece_at, front_at}
use Rattle.xk_lexer.proofs.PrefixLemmas.{prefix_len-append}
use Rattle.xk_lexer.proofs.CommentLemmas.{closing_comment}

-- at the front of a text it gives its token and its length
abbrev pub IsRead : Piece → List ℕ → Type 0
IsRead p after = Some (token_of p, length (piece_text p)) ≡ front_at (piece_text p ++ after)

blank_read : (b : ℕ) (after : List ℕ) → IsTrue (is_blank b) → IsRead (Blank b) after
unfolding piece_at
blank_read b after h = rw h refl

letter_isnt_blank : (b : ℕ) → IsTrue (is_letter b) → IsFalse (is_blank b)
letter_isnt_blank b h = grind arith

digit_isnt_other : (b : ℕ) → IsTrue (is_digit b) → IsFalse (is_blank b) × IsFalse (is_letter b)
digit_isnt_other b h = (grind arith, grind arith)

word_read : (text after : List ℕ) → IsPiece (Word text) after → IsRead (Word text) after
unfolding piece_at
word_read [] after h = absurd cc
word_read (b ∷ bs) after h =
    let blank = letter_isnt_blank b h.0 in
    let letter = h.0 in
    let n : prefix_len is_word_byte ((b ∷ bs) ++ after) ≡ length (b ∷ bs) = prefix_len-append is_word_byte (b ∷ bs) after h.1 h.2 in
    let t : take (length (b ∷ bs)) ((b ∷ bs) ++ after) ≡ b ∷ bs = take_at (b ∷ bs) after (length (b ∷ bs)) refl in
    rw (n, t, blank, letter) refl

digits_read : (digits after : List ℕ) → IsPiece (Digits digits) after → IsRead (Digits digits) after
unfolding piece_at
digits_read [] after h = absurd cc
digits_read (b ∷ bs) after h =
    let other = digit_isnt_other b h.0 in
    let blank = other.0 in
    let letter = other.1 in
    let digit = h.0 in
    let n : prefix_len is_digit ((b ∷ bs) ++ after) ≡ length (b ∷ bs) = prefix_len-append is_digit (b ∷ bs) after h.1 h.2 in
    let t : take (length (b ∷ bs)) ((b ∷ bs) ++ after) ≡ b ∷ bs = take_at (b ∷ bs) after (length (b ∷ bs)) refl in
    rw (n, t, blank, letter, digit) refl

line_comment_read : (body after : List ℕ) → IsPiece (LineComment body) after → IsRead (LineComment body) after
unfolding piece_at comment_at
line_comment_read body after h =
    let n = prefix_len-append isnt_line_feed body after h.0 h.1 in
    let two : length body + 2 ≡ suc (suc (length body)) = omega arith in
    rw (n, two) refl

block_comment_read : (body after : List ℕ) → IsPiece (BlockComment body) after → IsRead (BlockComment body) after
unfolding piece_at comment_at
block_comment_read body after h =
    let n = closing_comment body after h in
    let whole : (body ++ star ∷ slash ∷ []) ++ after ≡ body ++ star ∷ slash ∷ after = append_assoc body (star ∷ slash ∷ []) after in
    let four : length body + 4 ≡ suc (suc (length (body ++ star ∷ slash ∷ []))) = omega (arith, length-append body (star ∷ slash ∷ [])) in
    rw (whole, n, four) refl

-- ---- signs

pub two_bytes : (a b : ℕ) (t : Sign) → sign_of_two a b ≡ Some t → sign_text t ≡ a ∷ b ∷ []
unfolding sign_of_two
two_bytes a b t = cond_both (b == 61) _ _ P
    (λ h. let b61 = eqb-true b 61 h in cond_both (a == 61) _ _ P (λ k e. let q : sign.Equal ≡ t = cc in rw (eqb-true a 61 k, b61, ← q) refl)
    (λ _. cond_both (a == 33) _ _ P (λ k e. let q : sign.NotEqual ≡ t = cc in rw (eqb-true a 33 k, b61, ← q) refl)
    (λ _. cond_both (a == 60) _ _ P (λ k e. let q : sign.LessEqual ≡ t = cc in rw (eqb-true a 60 k, b61, ← q) refl)
    (λ _. cond_both (a == 62) _ _ P (λ k e. let q : sign.GreaterEqual ≡ t = cc in rw (eqb-true a 62 k, b61, ← q) refl)
    (λ _ e. absurd cc)))))
    (λ _. cond_both (a == 46 && b == 46) _ _ P
    (λ h e. let p = and_parts (a == 46) (b == 46) h in let q : sign.DotDot ≡ t = cc in rw (eqb-true a 46 p.0, eqb-true b 46 p.1, ← q) refl)
    (λ _ e. absurd cc))
  where
    P : Option Sign → Type 0
    P o = o ≡ Some t → sign_text t ≡ a ∷ b ∷ []

-- where the longest sign is one byte, two aren't one
no_two : (s : Sign) (a b : ℕ) (bs : List ℕ) → sign_text s ≡ a ∷ [] → IsPiece (Mark s) (b ∷ bs) → sign_of_two a b ≡ None
no_two s a b bs e longest = by (sign_of_two a b) refl
  where
    by : (o : Option Sign) → sign_of_two a b ≡ o → o ≡ None
    by None h = refl
    by (Some t) h =
        let q = two_bytes a b t h in
        let whole : sign_text s ++ (b ∷ bs) ≡ sign_text t ++ bs = rw (e, q) refl in
        let le = longest t bs whole in
        absurd (omega (arith, ap length q, ap length e))

one_read : (s : Sign) (a : ℕ) (after : List ℕ)
    → sign_text s ≡ a ∷ [] → IsFalse (is_blank a) → IsFalse (is_letter a) → IsFalse (is_digit a) → IsFalse (a == slash) → sign_of_one a ≡ Some s → IsPiece (Mark s) after
    → Some (Some (Symbol s), 1) ≡ front_at (a ∷ after)
unfolding piece_at comment_at sign_at
one_read s a [] e blank letter digit comment one longest = rw (blank, letter, digit, one) refl
one_read s a (b ∷ bs) e blank letter digit comment one longest =
    let t = no_two s a b bs e longest in
    rw (blank, letter, digit, comment, t, one) refl

sign_read : (s : Sign) (after : List ℕ) → IsPiece (Mark s) after → IsRead (Mark s) after
unfolding piece_at comment_at sign_at sign_of_one sign_of_two
sign_read sign.LeftParen after h = one_read sign.LeftParen 40 after refl refl refl refl refl refl h
sign_read sign.RightParen after h = one_read sign.RightParen 41 after refl refl refl refl refl refl h
sign_read sign.LeftBrace after h = one_read sign.LeftBrace 123 after refl refl refl refl refl refl h
sign_read sign.RightBrace after h = one_read sign.RightBrace 125 after refl refl refl refl refl refl h
sign_read sign.Comma after h = one_read sign.Comma 44 after refl refl refl refl refl refl h
sign_read sign.Semicolon after h = one_read sign.Semicolon 59 after refl refl refl refl refl refl h
sign_read sign.Colon after h = one_read sign.Colon 58 after refl refl refl refl refl refl h
sign_read sign.Assign after h = one_read sign.Assign 61 after refl refl refl refl refl refl h
sign_read sign.Plus after h = one_read sign.Plus 43 after refl refl refl refl refl refl h
sign_read sign.Minus after h = one_read sign.Minus 45 after refl refl refl refl refl refl h
sign_read sign.Star after h = one_read sign.Star 42 after refl refl refl refl refl refl h
sign_read sign.Dot after h = one_read sign.Dot 46 after refl refl refl refl refl refl h
sign_read sign.Less after h = one_read sign.Less 60 after refl refl refl refl refl refl h
sign_read sign.Greater after h = one_read sign.Greater 62 after refl refl refl refl refl refl h
sign_read sign.DotDot after h = refl
sign_read sign.Equal after h = refl
sign_read sign.NotEqual after h = refl
sign_read sign.LessEqual after h = refl
sign_read sign.GreaterEqual after h = refl

pub piece_read : (p : Piece) (after : List ℕ) → IsPiece p after → IsRead p after
piece_read (Blank b) after h = blank_read b after h
piece_read (LineComment body) after h = line_comment_read body after h
piece_read (BlockComment body) after h = block_comment_read body after h
piece_read (Word text) after h = word_read text after h
piece_read (Digits digits) after h = digits_read digits after h
piece_read (Mark s) after h = sign_read s after h
