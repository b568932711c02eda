-- The tokens before and behind a place of a text, without the blanks and comments between. This project's own.
use Rattle.std.specs.Prelude.{ℕ, ◌+◌, ◌==◌, Bool, false, not, ◌&&◌, List, [], ◌∷◌, take, drop, if◌then◌else◌}
use Rattle.xk_explain_words.specs.declared.comments.Part.{Part}
use Rattle.xk_explain_words.specs.declared.comments.Part.TheVariants as part
use Rattle.xk_explain_words.specs.Words.{is_space}

-- The part that a byte leads to, from the part where it stands. A `/` among tokens begins a comment: a text in which one
-- begins none is refused there (F1), and no fault is told behind it.
abbrev pub part_after : Part → ℕ → Part
part_after part.Tokens b = if b == 47 then part.Slash else part.Tokens
part_after part.Slash b = if b == 42 then part.BlockComment else part.LineComment
part_after part.LineComment b = if b == 10 then part.Tokens else part.LineComment
part_after part.BlockComment b = if b == 42 then part.Star else part.BlockComment
part_after part.Star b = if b == 47 then part.Tokens else if b == 42 then part.Star else part.BlockComment

-- whether a byte that stands in this part is a token's
abbrev pub is_of_token : Part → ℕ → Bool
is_of_token part.Tokens b = not (is_space b) && not (b == 47)
is_of_token part.Slash b = false
is_of_token part.LineComment b = false
is_of_token part.BlockComment b = false
is_of_token part.Star b = false

-- where the last token ends, of a text that begins at `at` and in this part, behind tokens that end at `end`
abbrev pub tokens_end : Part → ℕ → ℕ → List ℕ → ℕ
tokens_end p at end [] = end
tokens_end p at end (b ∷ bs) =
    if is_of_token p b then tokens_end (part_after p b) (at + 1) (at + 1) bs else tokens_end (part_after p b) (at + 1) end bs

-- without the blanks and comments that it ends with
abbrev pub to_sign : List ℕ → List ℕ
to_sign text = take (tokens_end part.Tokens 0 0 text) text

-- where the first token begins, of a text that begins in this part
abbrev pub tokens_begin : Part → List ℕ → ℕ
tokens_begin p [] = 0
tokens_begin p (b ∷ bs) = if is_of_token p b then 0 else tokens_begin (part_after p b) bs + 1

-- without the blanks and comments that it begins with
abbrev pub from_sign : List ℕ → List ℕ
from_sign text = drop (tokens_begin part.Tokens text) text
