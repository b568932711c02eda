-- What is read at the front of a text stands there as a piece; else no piece does.
use Rattle.std.proofs.Common.{◌≡◌, ◌≢◌, ℕ, suc, ◌≤◌, ◌==◌, true, ◌⊎◌, inl, inr, IsTrue, List, [], ◌∷◌, ◌++◌, length, nat_le, ◌^◌, take, drop, append_assoc, Option, Some, None, unwrap_or, refl, sym, ap, ◌∙◌, arith, eqb-true}
use Rattle.std.proofs.lemmas.Bool.{cond_both}
use Rattle.std.proofs.lemmas.List.{take-append-drop}
use Rattle.std.specs.List.{prefix_len}
use Rattle.xk_lexer.specs.declared.token.Keyword.{Keyword}
use Rattle.xk_lexer.specs.declared.token.Sign.{Sign}
use Rattle.xk_lexer.specs.declared.token.Sign.TheVariants as sign
use Rattle.xk_lexer.specs.Tokens.{Lexeme, Stray, keyword_of, sign_text}
use Rattle.xk_lexer.specs.Pieces.{is_blank, is_letter, is_digit, is_word_byte, isnt_line_feed, slash, star, word_or_name, word_of, has_leading_zero, decimal, number_of, Piece, Blank, LineComment, BlockComment, Word, Digits, Mark, piece_text, IsPiece, token_of, HasNoPiece}
use Rattle.xk_lexer.specs.Lexing.{closing, sign_of_one, sign_of_two, two_at, one_at, sign_or, sign_at, block_comment, comment_at, piece_at, front_at}
use Rattle.xk_lexer.proofs.PrefixLemmas.{list_all-take, begins-drop, begins-take}
use Rattle.xk_lexer.proofs.CommentLemmas.{comment_closing}
use Rattle.xk_lexer.proofs.PieceCompletenessLemmas.{two_bytes, piece_read}

-- a text begins with a piece
abbrev pub HasPiece : List ℕ → Type 0
HasPiece text = (p : Piece) × (after : List ℕ) × (text ≡ piece_text p ++ after) × IsPiece p after

-- what is read at the front of a text is a piece of it, or all of it as a stray token
abbrev pub IsFound : List ℕ → Option Lexeme × ℕ → Type 0
IsFound text read = HasPiece text ⊎ (read ≡ (Some Stray, length text))

-- ---- signs

-- a sign is a byte, or two bytes that are read as it
sign_bytes : (t : Sign) → ((a : ℕ) × (sign_text t ≡ a ∷ [])) ⊎ ((a : ℕ) × (b : ℕ) × (sign_text t ≡ a ∷ b ∷ []) × (sign_of_two a b ≡ Some t))
unfolding sign_of_two
sign_bytes sign.LeftParen = inl (40, refl)
sign_bytes sign.RightParen = inl (41, refl)
sign_bytes sign.LeftBrace = inl (123, refl)
sign_bytes sign.RightBrace = inl (125, refl)
sign_bytes sign.Comma = inl (44, refl)
sign_bytes sign.Semicolon = inl (59, refl)
sign_bytes sign.Colon = inl (58, refl)
sign_bytes sign.Assign = inl (61, refl)
sign_bytes sign.Plus = inl (43, refl)
sign_bytes sign.Minus = inl (45, refl)
sign_bytes sign.Star = inl (42, refl)
sign_bytes sign.Dot = inl (46, refl)
sign_bytes sign.Less = inl (60, refl)
sign_bytes sign.Greater = inl (62, refl)
sign_bytes sign.DotDot = inr (46, 46, refl, refl)
sign_bytes sign.Equal = inr (61, 61, refl, refl)
sign_bytes sign.NotEqual = inr (33, 61, refl, refl)
sign_bytes sign.LessEqual = inr (60, 61, refl, refl)
sign_bytes sign.GreaterEqual = inr (62, 61, refl, refl)

-- no sign has more than two bytes
two_longest : (s : Sign) (a b : ℕ) (after : List ℕ) → sign_text s ≡ a ∷ b ∷ [] → IsPiece (Mark s) after
two_longest s a b after e t back _ = by (sign_bytes t)
  where
    by : ((a : ℕ) × (sign_text t ≡ a ∷ [])) ⊎ ((a : ℕ) × (b : ℕ) × (sign_text t ≡ a ∷ b ∷ []) × (sign_of_two a b ≡ Some t)) → length (sign_text t) ≤ length (sign_text s)
    by (inl h) = omega (arith, ap length e, ap length h.1)
    by (inr h) = omega (arith, ap length e, ap length h.2)

-- where two bytes are no sign, one is the longest
one_longest : (s : Sign) (a : ℕ) (after : List ℕ) → sign_text s ≡ a ∷ [] → two_at (a ∷ after) ≡ None → IsPiece (Mark s) after
one_longest s a after e none t back same = by (sign_bytes t)
  where
    by : ((a : ℕ) × (sign_text t ≡ a ∷ [])) ⊎ ((a : ℕ) × (b : ℕ) × (sign_text t ≡ a ∷ b ∷ []) × (sign_of_two a b ≡ Some t)) → length (sign_text t) ≤ length (sign_text s)
    by (inl h) = omega (arith, ap length e, ap length h.1)
    by (inr h) =
        let text : a ∷ after ≡ h.0 ∷ h.1 ∷ back = ap (λ (x : List ℕ). x ++ after) (sym e) ∙ same ∙ ap (λ (x : List ℕ). x ++ back) h.2 in
        let two : two_at (a ∷ after) ≡ sign_of_two h.0 h.1 = ap two_at text in
        let some : None ≡ Some t = sym none ∙ two ∙ h.3 in
        absurd cc

one_byte : (a : ℕ) (s : Sign) → sign_of_one a ≡ Some s → sign_text s ≡ a ∷ []
unfolding sign_of_one
one_byte a s =
    cond_both (a == 40) _ _ P (is 40 sign.LeftParen refl) (λ _.
    cond_both (a == 41) _ _ P (is 41 sign.RightParen refl) (λ _.
    cond_both (a == 123) _ _ P (is 123 sign.LeftBrace refl) (λ _.
    cond_both (a == 125) _ _ P (is 125 sign.RightBrace refl) (λ _.
    cond_both (a == 44) _ _ P (is 44 sign.Comma refl) (λ _.
    cond_both (a == 59) _ _ P (is 59 sign.Semicolon refl) (λ _.
    cond_both (a == 58) _ _ P (is 58 sign.Colon refl) (λ _.
    cond_both (a == 61) _ _ P (is 61 sign.Assign refl) (λ _.
    cond_both (a == 43) _ _ P (is 43 sign.Plus refl) (λ _.
    cond_both (a == 45) _ _ P (is 45 sign.Minus refl) (λ _.
    cond_both (a == 42) _ _ P (is 42 sign.Star refl) (λ _.
    cond_both (a == 46) _ _ P (is 46 sign.Dot refl) (λ _.
    cond_both (a == 60) _ _ P (is 60 sign.Less refl) (λ _.
    cond_both (a == 62) _ _ P (is 62 sign.Greater refl) (λ _ e. absurd cc))))))))))))))
  where
    P : Option Sign → Type 0
    P o = o ≡ Some s → sign_text s ≡ a ∷ []

    is : (n : ℕ) (t : Sign) → sign_text t ≡ n ∷ [] → (a == n) ≡ true → Some t ≡ Some s → sign_text s ≡ a ∷ []
    is n t text same e = let q : t ≡ s = cc in ap sign_text (sym q) ∙ text ∙ ap (λ (x : ℕ). x ∷ []) (sym (eqb-true a n same))

sign_found : (b : ℕ) (bs : List ℕ) → IsFound (b ∷ bs) (sign_at (b ∷ bs))
unfolding sign_at
sign_found b bs = by (two_at (b ∷ bs)) refl (one_at (b ∷ bs)) refl
  where
    two : (s : Sign) (cs : List ℕ) → two_at (b ∷ cs) ≡ Some s → HasPiece (b ∷ cs)
    two s [] e = absurd cc
    two s (c ∷ cs) e =
        let text = two_bytes b c s e in
        (Mark s, cs, ap (λ (t : List ℕ). t ++ cs) (sym text), two_longest s b c cs text)

    by : (t : Option Sign) → two_at (b ∷ bs) ≡ t → (o : Option Sign) → one_at (b ∷ bs) ≡ o → IsFound (b ∷ bs) (sign_or (b ∷ bs) t o)
    by (Some s) e o f = inl (two s bs e)
    by None e (Some s) f =
        let text = one_byte b s f in
        inl (Mark s, bs, ap (λ (t : List ℕ). t ++ bs) (sym text), one_longest s b bs text e)
    by None e None f = inr refl

-- ---- comments, words and digit runs

comment_found : (b : ℕ) (bs : List ℕ) → IsFound (b ∷ bs) (unwrap_or (comment_at (b ∷ bs)) (sign_at (b ∷ bs)))
unfolding comment_at
comment_found b [] = sign_found b []
comment_found b (c ∷ bs) =
    let other = sign_found b (c ∷ bs) in
    let P = λ (o : Option (Option Lexeme × ℕ)). IsFound (b ∷ c ∷ bs) (unwrap_or o (sign_at (b ∷ c ∷ bs))) in
    cond_both (b == slash) _ _ P (λ h.
    cond_both (c == slash) _ _ P (λ k. inl (line h k)) (λ _.
    cond_both (c == star) _ _ P (λ k. block h k (closing bs) refl) (λ _. other))) (λ _. other)
  where
    front : (x : ℕ) (t : List ℕ) → (b == slash) ≡ true → (c == x) ≡ true → bs ≡ t → b ∷ c ∷ bs ≡ slash ∷ x ∷ t
    front x t h k e = rw (eqb-true b slash h, eqb-true c x k, e) refl

    line : (b == slash) ≡ true → (c == slash) ≡ true → HasPiece (b ∷ c ∷ bs)
    line h k =
        let n = prefix_len isnt_line_feed bs in (
          LineComment (take n bs),
          drop n bs,
          front slash (take n bs ++ drop n bs) h k (sym (take-append-drop n bs)),
          (list_all-take isnt_line_feed bs, begins-drop isnt_line_feed bs),
        )

    block : (b == slash) ≡ true → (c == star) ≡ true → (o : Option ℕ) → closing bs ≡ o → IsFound (b ∷ c ∷ bs) (block_comment (b ∷ c ∷ bs) o)
    block h k None e = inr refl
    block h k (Some n) e =
        let q = comment_closing bs n e in
        inl (BlockComment q.0, q.1, front star ((q.0 ++ star ∷ slash ∷ []) ++ q.1) h k (q.2 ∙ sym (append_assoc q.0 (star ∷ slash ∷ []) q.1)), q.4)

front_found : (b : ℕ) (bs : List ℕ) → IsFound (b ∷ bs) (piece_at b (b ∷ bs))
unfolding piece_at
front_found b bs =
    let P = IsFound (b ∷ bs) in
    cond_both (is_blank b) _ _ P (λ h. inl (Blank b, bs, refl, h)) (λ _.
    cond_both (is_letter b) _ _ P (λ h. inl (word h)) (λ _.
    cond_both (is_digit b) _ _ P (λ h. inl (digits h)) (λ _. comment_found b bs)))
  where
    word : IsTrue (is_letter b) → HasPiece (b ∷ bs)
    word h =
        let n = prefix_len is_word_byte (b ∷ bs) in
        let first : IsTrue (is_word_byte b) = rw h refl in (
          Word (take n (b ∷ bs)),
          drop n (b ∷ bs),
          sym (take-append-drop n (b ∷ bs)),
          (begins-take is_word_byte is_letter b bs first h, list_all-take is_word_byte (b ∷ bs), begins-drop is_word_byte (b ∷ bs)),
        )

    digits : IsTrue (is_digit b) → HasPiece (b ∷ bs)
    digits h =
        let n = prefix_len is_digit (b ∷ bs) in (
          Digits (take n (b ∷ bs)),
          drop n (b ∷ bs),
          sym (take-append-drop n (b ∷ bs)),
          (begins-take is_digit is_digit b bs h h, list_all-take is_digit (b ∷ bs), begins-drop is_digit (b ∷ bs)),
        )

-- ---- no piece is a stray token

word_isnt_stray : (text : List ℕ) → word_of text ≢ Stray
word_isnt_stray text = by (keyword_of text)
  where
    by : (o : Option Keyword) → word_or_name text o ≡ Stray → ⊥
    by None e = absurd cc
    by (Some k) e = absurd cc

number_isnt_stray : (digits : List ℕ) → number_of digits ≢ Stray
unfolding number_of
number_isnt_stray digits =
    cond_both (has_leading_zero digits) _ _ P (λ _ e. absurd cc) (λ _.
    cond_both (nat_le (decimal 0 digits) (2 ^ 63)) _ _ P (λ _ e. absurd cc) (λ _ e. absurd cc))
  where
    P : Lexeme → Type 0
    P l = l ≡ Stray → ⊥

pub token_isnt_stray : (p : Piece) → token_of p ≢ Some Stray
token_isnt_stray (Blank b) e = absurd cc
token_isnt_stray (LineComment body) e = absurd cc
token_isnt_stray (BlockComment body) e = absurd cc
token_isnt_stray (Word text) e = let q : word_of text ≡ Stray = cc in word_isnt_stray text q
token_isnt_stray (Digits digits) e = let q : number_of digits ≡ Stray = cc in number_isnt_stray digits q
token_isnt_stray (Mark s) e = absurd cc

-- either a text begins with a piece, or it is read as a stray token and no piece begins it
abbrev pub BeginsOrNot : ℕ → List ℕ → Type 0
BeginsOrNot b bs = HasPiece (b ∷ bs) ⊎ ((piece_at b (b ∷ bs) ≡ (Some Stray, suc (length bs))) × HasNoPiece (b ∷ bs))

pub begins_or_not : (b : ℕ) (bs : List ℕ) → BeginsOrNot b bs
begins_or_not b bs = by (front_found b bs)
  where
    by : IsFound (b ∷ bs) (piece_at b (b ∷ bs)) → BeginsOrNot b bs
    by (inl h) = inl h
    by (inr e) = inr (
      e,
      λ p after text h.
          let read : Some (token_of p, length (piece_text p)) ≡ Some (piece_at b (b ∷ bs)) = piece_read p after h ∙ ap front_at (sym text) in
          let pair : Some (token_of p, length (piece_text p)) ≡ Some (Some Stray, suc (length bs)) = read ∙ ap (λ (x : Option Lexeme × ℕ). Some x) e in
          token_isnt_stray p (ap (λ (o : Option (Option Lexeme × ℕ)). (unwrap_or o (None, 0)).0) pair),
    )
