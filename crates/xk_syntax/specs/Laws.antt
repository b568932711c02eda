-- What the readers give is what is spelled. This project's own.
use Rattle.std.specs.Prelude.{◌≡◌, ℕ, true, List, Some, None}
use Rattle.xk_lexer.specs.declared.token.Keyword.TheVariants as keyword
use Rattle.xk_tree.specs.Tree.{Statement, TreeValue}
use Rattle.xk_exprs.specs.Marks.{Mark}
use Rattle.xk_syntax.specs.Spelling.{stmt, program, dangles, Fits, TreeFits, SpellsTree}
use Rattle.xk_syntax.specs.Readers.{keyword_at, stmt_at, program_at}

-- what follows isn't taken for an `else` of the statement
abbrev pub Settles : Statement → List Mark → Type 0
Settles s rest = dangles s ≡ true → keyword_at keyword.Else rest ≡ None

-- a statement that is read is spelled by the tokens taken
abbrev pub StatementFound : Type 0
StatementFound = (left : ℕ) (hidden : List ℕ) (ts : List Mark) (s : Statement) (rest : List Mark)
    → stmt_at left hidden ts ≡ Some (s, rest) → (ts ≡ stmt s rest) × Fits left hidden s × Settles s rest

-- a statement is read from its spelling, where no `else` follows that it would take
abbrev pub StatementAgain : Type 0
StatementAgain = (left : ℕ) (hidden : List ℕ) (s : Statement) (rest : List Mark)
    → Fits left hidden s → Settles s rest → stmt_at left hidden (stmt s rest) ≡ Some (s, rest)

-- a program that is read is spelled by the tokens
abbrev pub ProgramFound : Type 0
ProgramFound = (ts : List Mark) (t : TreeValue) → program_at ts ≡ Some t → (ts ≡ program t) × TreeFits t

-- a program is read from its spelling
abbrev pub ProgramAgain : Type 0
ProgramAgain = (t : TreeValue) → TreeFits t → program_at (program t) ≡ Some t

-- a text spells one tree at most
abbrev pub OneTree : Type 0
OneTree = (text : List ℕ) (t u : TreeValue) → SpellsTree text t → SpellsTree text u → t ≡ u
