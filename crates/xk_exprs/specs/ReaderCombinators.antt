-- Reading from left to right: a value, and the tokens behind it. Where nothing can be read, `None`. This project's own.
use Rattle.std.specs.Prelude.{◌≡◌, ℕ, zero, suc, List, [], ◌∷◌, length, Option, Some, None, Result, Ok, Err}
use Rattle.xk_lexer.specs.declared.token.TokenKind.{TokenKind}
use Rattle.xk_lexer.specs.declared.token.TokenKind.TheVariants as kind
use Rattle.xk_lexer.specs.declared.token.Token.{Token}
use Rattle.xk_exprs.specs.declared.fault.SyntaxRule.{SyntaxRule}
use Rattle.xk_exprs.specs.declared.fault.SyntaxRule.TheVariants as rule
use Rattle.xk_exprs.specs.declared.fault.SyntaxFault.{SyntaxFault}
use Rattle.xk_exprs.specs.declared.fault.SyntaxError.{SyntaxError}
use Rattle.xk_exprs.specs.declared.fault.SyntaxError.TheVariants as error
use Rattle.xk_exprs.specs.Marks.{Mark}

-- first the one, then the other with what the one gave
infixl 10 ◌>>=◌
abbrev pub ◌>>=◌ : {A B : Type 0} → Option A → (A → Option B) → Option B
None >>= f = None
(Some x) >>= f = f x

-- Why a call failed goes with what is read: a fault of the text means that nothing is. Where memory was refused, nothing is said.
abbrev pub Refuses : {Y : Type 0} → SyntaxError → Option Y → Type 0
Refuses (error.Fault fault) read = read ≡ None
Refuses error.OutOfMemory read = Unit {0}

-- What a call returned, seen by `seen`, is what is read.
abbrev pub Gives : {X Y : Type 0} → (X → Y) → Result X SyntaxError → Option Y → Type 0
Gives seen (Ok x) read = read ≡ Some (seen x)
Gives seen (Err e) read = Refuses e read

-- the first, and those behind it
abbrev pub head_at : {A : Type 0} → List A → Option (A × List A)
head_at [] = None
head_at (x ∷ xs) = Some (x, xs)

-- one turn of a loop: it fails, it stops here, or it goes on
pub data Turn (A : Type 0) : Type 0 where
  Fails : Turn A
  Stops : Turn A
  Goes : A → List Mark → Turn A

abbrev pub turned : {A : Type 0} → Turn A → A → List Mark → (A → List Mark → Option (A × List Mark)) → Option (A × List Mark)
turned Fails x ts next = None
turned Stops x ts next = Some (x, ts)
turned (Goes y us) x ts next = next y us

-- at most so many turns
unfoldable pub turns : {A : Type 0} → (A → List Mark → Turn A) → ℕ → A → List Mark → Option (A × List Mark)
turns step zero x ts = None
turns step (suc n) x ts = turned (step x ts) x ts (turns step n)

-- turns as long as tokens are taken
unfoldable pub loop : {A : Type 0} → (A → List Mark → Turn A) → A → List Mark → Option (A × List Mark)
loop step x ts = turns step (suc (length ts)) x ts

-- the rule that a token breaks where none of its kind can stand
abbrev pub unexpected_rule : TokenKind → SyntaxRule
unexpected_rule kind.Stray = rule.Token
unexpected_rule _ = rule.Syntax

-- the fault where the first token can't stand; the text ends at `end`
abbrev pub unexpected_fault : List Token → ℕ → SyntaxFault
unexpected_fault [] end = record { rule = rule.Syntax; at = end }
unexpected_fault (t ∷ ts) end = record { rule = unexpected_rule t.kind; at = t.at }
