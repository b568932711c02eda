-- What the readers give is what is spelled. This project's own.
use Rattle.std.specs.Prelude.{◌≡◌, ℕ, List, ◌++◌, Some}
use Rattle.xk_tree.specs.declared.tree.Number as number
use Rattle.xk_tree.specs.Tree.{Expression}
use Rattle.xk_exprs.specs.Marks.{Mark}
use Rattle.xk_exprs.specs.Spelling.{number_marks, IsNumber, Spells, SpellsTerm, Ends}
use Rattle.xk_exprs.specs.ExprReaders.{number_at, whole_at, whole_term_at}

-- an expression that is read is spelled by the tokens taken, and no operator follows
abbrev pub ExpressionFound : Type 0
ExpressionFound = (left : ℕ) (ts : List Mark) (e : Expression) (rest : List Mark)
    → whole_at left ts ≡ Some (e, rest) → (front : List Mark) × (ts ≡ front ++ rest) × Spells left front e × Ends 2 rest

-- an expression is read from its spelling, where no operator follows
abbrev pub ExpressionAgain : Type 0
ExpressionAgain = (left : ℕ) (front : List Mark) (e : Expression) (rest : List Mark)
    → Spells left front e → Ends 2 rest → whole_at left (front ++ rest) ≡ Some (e, rest)

-- tokens spell one expression at most
abbrev pub ExpressionOnce : Type 0
ExpressionOnce = (left : ℕ) (ts : List Mark) (e f : Expression) → Spells left ts e → Spells left ts f → e ≡ f

-- reading terms, which no `*` may follow
abbrev pub TermFound : Type 0
TermFound = (left : ℕ) (ts : List Mark) (e : Expression) (rest : List Mark)
    → whole_term_at left ts ≡ Some (e, rest) → (front : List Mark) × (ts ≡ front ++ rest) × SpellsTerm left front e × Ends 1 rest

abbrev pub TermAgain : Type 0
TermAgain = (left : ℕ) (front : List Mark) (e : Expression) (rest : List Mark)
    → SpellsTerm left front e → Ends 1 rest → whole_term_at left (front ++ rest) ≡ Some (e, rest)

-- reading numbers, whatever follows
abbrev pub NumberFound : Type 0
NumberFound = (ts : List Mark) (n : number.Number) (rest : List Mark)
    → number_at ts ≡ Some (n, rest) → (ts ≡ number_marks n ++ rest) × IsNumber n

abbrev pub NumberAgain : Type 0
NumberAgain = (n : number.Number) (rest : List Mark) → IsNumber n → number_at (number_marks n ++ rest) ≡ Some (n, rest)
