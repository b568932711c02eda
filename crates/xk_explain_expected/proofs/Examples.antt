-- Small texts that break off, and what is told beside the fault, by evaluation.
use Rattle.std.proofs.Common.{◌≡◌, ℕ, List, [], ◌∷◌, refl, Option, Some, None, option_map, true}
use Rattle.std.specs.Prelude.{codes}
use Rattle.xk_lexer.specs.Tokens.{keyword_of}
use Rattle.xk_lexer.specs.Pieces.{number_of}
use Rattle.xk_lexer.specs.Lexing.{comment_at, piece_at, sign_at, sign_of_one, sign_of_two}
use Rattle.xk_tree.specs.declared.fault.FrontFault.{FrontFault}
use Rattle.xk_tree.specs.declared.fault.FrontRule.TheVariants as rule
use Rattle.xk_explain_expected.specs.Grammar.{name_terminal}
use Rattle.xk_explain_expected.specs.Expected.{choices_text, stack_at, stack_text, write_text}
use Rattle.xk_explain_expected.specs.Missing.{before_text}
use Rattle.xk_explain_brackets.specs.Brackets.{ends_all}
use Rattle.xk_explain.specs.Notes.{NoteValue}
use Rattle.xk_explain_expected.specs.Notes.{expected_notes, only_if}

abbrev fault : ℕ → FrontFault
fault at = record { rule = rule.Syntax; at = at }

abbrev told : List ℕ → Option (List ℕ) → List NoteValue
told text repair = record { at = None; text = text; repair = repair } ∷ []

-- a `;` alone is missing behind a number, where an operator could stand too
no_semicolon :
    expected_notes (codes "def m(){val n=1 n=2;}") (fault 16)
    ≡ told (codes "could stand here: `;`, `+`, `-`, `*`") (Some (codes "write `;` before it"))
unfolding
    stack_at stack_text choices_text before_text ends_all name_terminal piece_at comment_at sign_at sign_of_one sign_of_two number_of keyword_of
no_semicolon = refl

-- the text ends in a block, behind an `if` that may have an `else`: the bracket is told that isn't closed, and no place for its `}`
no_brace :
    expected_notes (codes "def m(){if(a==1);") (fault 17)
    ≡ record { at = None; text = codes "could stand here: a statement, `}`, `else`"; repair = None }
    ∷ record { at = Some 7; text = codes "this `{` is not closed"; repair = None } ∷ []
unfolding
    stack_at stack_text choices_text before_text ends_all name_terminal piece_at comment_at sign_at sign_of_one sign_of_two number_of keyword_of
no_brace = refl

-- a `)` closes nothing
too_many :
    expected_notes (codes "def m(){m());}") (fault 11) ≡ told (codes "could stand here: `;`") (Some (codes "take this `)` away: no `(` is open"))
unfolding stack_at stack_text choices_text ends_all name_terminal piece_at comment_at sign_at sign_of_one sign_of_two number_of keyword_of
too_many = refl

-- behind all methods nothing has to come
behind_methods : option_map stack_text (stack_at (codes "def m(){}}") 9) ≡ Some (codes "could stand here: `def`, the end of the text")
unfolding stack_at stack_text choices_text name_terminal piece_at comment_at sign_at sign_of_one sign_of_two number_of keyword_of
behind_methods = refl

-- where one token alone could stand, it is the repair, if nothing is advised
only_one : option_map (only_if true) (stack_at (codes "def m(){m()}") 11) ≡ Some (Some (codes "write `;` here"))
unfolding stack_at choices_text write_text name_terminal piece_at comment_at sign_at sign_of_one sign_of_two number_of keyword_of
only_one = refl

-- where the tokens before the offset can't stand so, nothing is told
cant_stand : expected_notes (codes "m m") (fault 2) ≡ []
unfolding stack_at name_terminal piece_at comment_at keyword_of
cant_stand = refl

-- of other faults nothing is told
other_fault : expected_notes (codes "def m(){val n=1 n=2;}") (record { rule = rule.TooDeep; at = 16 }) ≡ []
other_fault = refl
