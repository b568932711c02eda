-- A text is read in just one way, and so it spells at most one list of tokens.
use Rattle.std.proofs.Common.{◌≡◌, ◌≢◌, ℕ, zero, suc, ◌+◌, ◌-◌, ◌<◌, ◌≤◌, Bool, true, false, true≢false, ◌||◌, ◌⊎◌, inl, inr, IsTrue, IsFalse, List, [], ◌∷◌, ◌++◌, length, drop, length-append, Option, Some, None, refl, sym, ap, subst, ◌∙◌, arith}
use Rattle.std.proofs.lemmas.List.{append-nil, drop_at}
use Rattle.xk_lexer.specs.Tokens.{Lexeme, Name, Reserved, Number, BadNumber, Symbol, Stray, TokenValue}
use Rattle.xk_lexer.specs.Pieces.{Piece, piece_text, IsPiece, ArePieces, token_of, with_token, tokens_at, SpellsTokens, HasNoPiece, Strays, IsReadAs, stray_at, is_stray, has_stray}
use Rattle.xk_lexer.specs.Lexing.{piece_at, lexed_from, lexed}
use Rattle.xk_lexer.proofs.PieceLengthLemmas.{front_room, front_next, with_token-append}
use Rattle.xk_lexer.proofs.PieceCompletenessLemmas.{piece_read}
use Rattle.xk_lexer.proofs.PieceSoundnessLemmas.{HasPiece, begins_or_not, token_isnt_stray}

-- ---- pieces and what follows them

rest_within : (ps : List Piece) (text rest : List ℕ) → ArePieces ps text rest → length rest ≤ length text
rest_within [] text rest e = omega (arith, ap length e)
rest_within (p ∷ ps) text rest h =
    let ih = rest_within ps h.0 rest h.3 in
    omega (arith, ap length h.1, length-append (piece_text p) h.0)

-- what is read of a text: the tokens of its pieces, then what is read of the rest
pieces_read : (ps : List Piece) (at : ℕ) (text rest : List ℕ) → ArePieces ps text rest
    → lexed_from 0 at text ≡ tokens_at at ps ++ lexed_from 0 (at + (length text - length rest)) rest
pieces_read [] at text rest e = ap (lexed_from 0 at) e ∙ ap (λ (n : ℕ). lexed_from 0 n rest) (omega (arith, ap length e))
pieces_read (p ∷ ps) at text rest h =
    let after = h.0 in
    let len = length (piece_text p) in
    let within = rest_within ps after rest h.3 in
    let left : drop len (piece_text p ++ after) ≡ after = drop_at (piece_text p) after len refl in
    let where_ : (at + len) + (length after - length rest) ≡ at + (length text - length rest) = omega (arith, within, ap length h.1, length-append (piece_text p) after) in
    ap (lexed_from 0 at) h.1
    ∙ front_next at (piece_text p ++ after) (token_of p, len) (piece_read p after h.2)
    ∙ ap (with_token at (token_of p)) (ap (lexed_from 0 (at + len)) left ∙ pieces_read ps (at + len) after rest h.3
    ∙ ap (λ (n : ℕ). tokens_at (at + len) ps ++ lexed_from 0 n rest) where_)
    ∙ sym (with_token-append at (token_of p) (tokens_at (at + len) ps) (lexed_from 0 (at + (length text - length rest)) rest))

spelled_read : (ps : List Piece) (text : List ℕ) → ArePieces ps text [] → lexed text ≡ tokens_at 0 ps
spelled_read ps text h = pieces_read ps 0 text [] h ∙ append-nil (tokens_at 0 ps)

-- a rest that no piece begins is a stray token
rest_read : (at : ℕ) (rest : List ℕ) → rest ≢ [] → HasNoPiece rest → lexed_from 0 at rest ≡ stray_at at ∷ []
rest_read at [] some none = absurd (some refl)
rest_read at (b ∷ bs) some none = by (begins_or_not b bs)
  where
    by : HasPiece (b ∷ bs) ⊎ ((piece_at b (b ∷ bs) ≡ (Some Stray, suc (length bs))) × HasNoPiece (b ∷ bs)) → lexed_from 0 at (b ∷ bs) ≡ stray_at at ∷ []
    by (inl h) = absurd (none h.0 h.1 h.2 h.3)
    by (inr h) =
        let nothing : drop (suc (length bs)) (b ∷ bs) ≡ [] = ap (drop (length bs)) (sym (append-nil bs)) ∙ drop_at bs [] (length bs) refl in
        front_next at (b ∷ bs) (Some Stray, suc (length bs)) (ap (λ (x : Option Lexeme × ℕ). Some x) (sym h.0))
        ∙ ap (λ (t : List ℕ). stray_at at ∷ lexed_from 0 (at + suc (length bs)) t) nothing

strayed_read : (ps : List Piece) (text rest : List ℕ) → ArePieces ps text rest → rest ≢ [] → HasNoPiece rest
    → lexed text ≡ tokens_at 0 ps ++ stray_at (length text - length rest) ∷ []
strayed_read ps text rest h some none =
    pieces_read ps 0 text rest h
    ∙ ap (λ (ts : List TokenValue). tokens_at 0 ps ++ ts) (rest_read _ rest some none ∙ ap (λ (n : ℕ). stray_at n ∷ []) (omega arith))

-- ---- every text is read

-- a text, cut into pieces up to its end or to a rest that no piece begins
abbrev IsCut : List ℕ → Type 0
IsCut text = (ps : List Piece) × (rest : List ℕ) × ArePieces ps text rest × ((rest ≡ []) ⊎ ((rest ≢ []) × HasNoPiece rest))

piece_length : (p : Piece) (after : List ℕ) → IsPiece p after → 0 < length (piece_text p)
piece_length p after h = (front_room (piece_text p ++ after) (token_of p, length (piece_text p)) (piece_read p after h)).0

cut_within : (n : ℕ) (text : List ℕ) → length text ≤ n → IsCut text
cut_within n [] within = ([], [], refl, inl refl)
cut_within zero (b ∷ bs) within = absurd (omega arith)
cut_within (suc n) (b ∷ bs) within = by (begins_or_not b bs) (λ after h. cut_within n after h)
  where
    by : HasPiece (b ∷ bs) ⊎ ((piece_at b (b ∷ bs) ≡ (Some Stray, suc (length bs))) × HasNoPiece (b ∷ bs)) → ((after : List ℕ) → length after ≤ n → IsCut after) → IsCut (b ∷ bs)
    by (inr h) ih = ([], b ∷ bs, refl, inr (λ e. absurd cc, h.1))
    by (inl h) ih =
        let shorter : length h.1 ≤ n = omega (arith, within, piece_length h.0 h.1 h.3, ap length h.2, length-append (piece_text h.0) h.1) in
        let c = ih h.1 shorter in
        (h.0 ∷ c.0, c.1, (h.1, h.2, h.3, c.2), c.3)

pub lexed_reading : (text : List ℕ) → IsReadAs text (lexed text)
unfolding IsReadAs
lexed_reading text = by (cut_within (length text) text (omega arith))
  where
    by : IsCut text → IsReadAs text (lexed text)
    by (ps, rest, pieces, inl end) = let whole = subst (ArePieces ps text) end pieces in inl (ps, whole, spelled_read ps text whole)
    by (ps, rest, pieces, inr stop) = inr (ps, rest, pieces, stop.0, stop.1, strayed_read ps text rest pieces stop.0 stop.1)

-- ---- in one way

pub spelled_lexed : (text : List ℕ) (tokens : List TokenValue) → SpellsTokens text tokens → lexed text ≡ tokens
spelled_lexed text tokens h = spelled_read h.0 text h.1 ∙ sym h.2

strayed_lexed : (text : List ℕ) (tokens : List TokenValue) → Strays text tokens → lexed text ≡ tokens
strayed_lexed text tokens h = strayed_read h.0 text h.1 h.2 h.3 h.4 ∙ sym h.5

pub reading_lexed : (text : List ℕ) (tokens : List TokenValue) → IsReadAs text tokens → lexed text ≡ tokens
unfolding IsReadAs
reading_lexed text tokens (inl h) = spelled_lexed text tokens h
reading_lexed text tokens (inr h) = strayed_lexed text tokens h

-- ---- stray tokens

isnt_stray : (l : Lexeme) → l ≢ Stray → IsFalse (is_stray l)
isnt_stray Stray h = absurd (h refl)
isnt_stray (Name text) h = refl
isnt_stray (Reserved k) h = refl
isnt_stray (Number n) h = refl
isnt_stray BadNumber h = refl
isnt_stray (Symbol s) h = refl

pieces_have_none : (ps : List Piece) (at : ℕ) → IsFalse (has_stray (tokens_at at ps))
pieces_have_none [] at = refl
pieces_have_none (p ∷ ps) at = by (token_of p) refl (pieces_have_none ps (at + length (piece_text p)))
  where
    by : (o : Option Lexeme) → token_of p ≡ o → IsFalse (has_stray (tokens_at (at + length (piece_text p)) ps))
        → IsFalse (has_stray (with_token at o (tokens_at (at + length (piece_text p)) ps)))
    by None e ih = ih
    by (Some l) e ih = let first = isnt_stray l (λ q. token_isnt_stray p (e ∙ ap (λ (x : Lexeme). Some x) q)) in rw first ih

pub spelled_have_none : (text : List ℕ) (tokens : List TokenValue) → SpellsTokens text tokens → IsFalse (has_stray tokens)
spelled_have_none text tokens h = ap has_stray h.2 ∙ pieces_have_none h.0 0

or_true : (b : Bool) → (b || true) ≡ true
or_true true = refl
or_true false = refl

has_last : (ts : List TokenValue) (at : ℕ) → IsTrue (has_stray (ts ++ stray_at at ∷ []))
has_last [] at = refl
has_last (t ∷ ts) at = let ih = has_last ts at in rw ih (or_true (is_stray t.what))

strayed_have_one : (text : List ℕ) (tokens : List TokenValue) → Strays text tokens → IsTrue (has_stray tokens)
strayed_have_one text tokens h = ap has_stray h.5 ∙ has_last (tokens_at 0 h.0) (length text - length h.1)

pub spelled_from_none : (text : List ℕ) → IsFalse (has_stray (lexed text)) → SpellsTokens text (lexed text)
unfolding IsReadAs
spelled_from_none text none = by (lexed_reading text)
  where
    by : IsReadAs text (lexed text) → SpellsTokens text (lexed text)
    by (inl h) = h
    by (inr h) = let one = strayed_have_one text (lexed text) h in absurd (true≢false (sym one ∙ none))

pub strayed_from_one : (text : List ℕ) → IsTrue (has_stray (lexed text)) → Strays text (lexed text)
unfolding IsReadAs
strayed_from_one text one = by (lexed_reading text)
  where
    by : IsReadAs text (lexed text) → Strays text (lexed text)
    by (inl h) = let none = spelled_have_none text (lexed text) h in absurd (true≢false (sym one ∙ none))
    by (inr h) = h
