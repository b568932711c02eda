-- Offsets of tokens rise, and lie in the text.
use Rattle.std.proofs.Common.{◌≡◌, ℕ, zero, suc, ◌+◌, ◌-◌, ◌<◌, ◌≤◌, All, List, [], ◌∷◌, length, Option, Some, None, arith}
use Rattle.std.specs.List.Sorted.{IsStrictlyIncreasing}
use Rattle.xk_lexer.specs.Tokens.{Lexeme, TokenValue}
use Rattle.xk_lexer.specs.Pieces.{with_token, offsets}
use Rattle.xk_lexer.specs.Lexing.{piece_at, lexed_from, lexed}

-- each is greater than those before it, and all are between these two
abbrev AreRising : ℕ → ℕ → List TokenValue → Type 0
AreRising low high [] = Unit {0}
AreRising low high (t ∷ ts) = (low ≤ t.at) × (t.at < high) × AreRising (suc t.at) high ts

from_lower : (low high : ℕ) (ts : List TokenValue) → AreRising (suc low) high ts → AreRising low high ts
from_lower low high [] h = tt
from_lower low high (t ∷ ts) h = let least = h.0 in (omega arith, h.1, h.2)

lexed_rising : (skip at high : ℕ) (bs : List ℕ) → at + length bs ≡ high → AreRising at high (lexed_from skip at bs)
lexed_rising skip at high [] e = tt
lexed_rising (suc k) at high (b ∷ bs) e = from_lower at high (lexed_from k (suc at) bs) (lexed_rising k (suc at) high bs (omega arith))
lexed_rising zero at high (b ∷ bs) e = let p = piece_at b (b ∷ bs) in by p.0 (lexed_from (p.1 - 1) (suc at) bs) (lexed_rising (p.1 - 1) (suc at) high bs (omega arith))
  where
    by : (o : Option Lexeme) (ts : List TokenValue) → AreRising (suc at) high ts → AreRising at high (with_token at o ts)
    by None ts h = from_lower at high ts h
    by (Some l) ts h = (omega arith, omega arith, h)

rising_within : (low high : ℕ) (ts : List TokenValue) → AreRising low high ts → All (λ at. at < high) (offsets ts)
rising_within low high [] h k d below = absurd (omega arith)
rising_within low high (t ∷ ts) h zero d below = h.1
rising_within low high (t ∷ ts) h (suc k) d below = rising_within (suc t.at) high ts h.2 k d (omega arith)

rising_increasing : (low high : ℕ) (ts : List TokenValue) → AreRising low high ts → IsStrictlyIncreasing (offsets ts)
rising_increasing low high [] h k below = absurd (omega arith)
rising_increasing low high (t ∷ []) h k below = absurd (omega arith)
rising_increasing low high (t ∷ u ∷ ts) h zero below = let next = h.2 in omega (arith, next.0)
rising_increasing low high (t ∷ u ∷ ts) h (suc k) below =
    let next : suc k + 1 ≡ suc (k + 1) = omega arith in
    rw next (rising_increasing (suc t.at) high (u ∷ ts) h.2 k (omega arith))

pub lexed_within : (text : List ℕ) → All (λ at. at < length text) (offsets (lexed text))
lexed_within text = rising_within 0 (length text) (lexed text) (lexed_rising 0 0 (length text) text (omega arith))

pub lexed_increasing : (text : List ℕ) → IsStrictlyIncreasing (offsets (lexed text))
lexed_increasing text = rising_increasing 0 (length text) (lexed text) (lexed_rising 0 0 (length text) text (omega arith))
