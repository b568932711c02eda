-- What the body of an `async` takes from outside: the numbers that it uses and doesn't declare, in the order of their first use, those of inner
-- bodies included. Shared numbers aren't taken, and clocks stand in the body's list. The rule is this project's own.
use Rattle.std.specs.Prelude.{ℕ, List, [], ◌∷◌, ◌++◌, map, if◌then◌else◌}
use Rattle.std.specs.List.{flat_map}
use Rattle.xk_types.specs.declared.unit.ParamKind.{ParamKind}
use Rattle.xk_types.specs.declared.unit.ParamKind.TheVariants as param
use Rattle.xk_tree.specs.Tree.{Word, Expression, Literal, Named, Paren, Negation, Binary, Source, Make, Value, Bound, UpTo, Least, Statement, Statements, Done, More, Block, Declare, Assign, Atomic, If, IfElse, For, Async, Finish, Call, Print, SharedValue}
use Rattle.xk_names.specs.Scope.{find, has}
use Rattle.xk_names.specs.Uses.{Signatures, given_to}
use Rattle.xk_names.specs.Places.{behind}
use Rattle.xk_names.specs.FaultList.{put_texts}

-- the names of an expression, in the order of the text
abbrev pub number_words : Expression → List Word
number_words (Literal n) = []
number_words (Named x) = x ∷ []
number_words (Paren at e) = number_words e
number_words (Negation at e) = number_words e
number_words (Binary o l at r) = number_words l ++ number_words r

abbrev pub source_words : Source → List Word
source_words (Make at v) = []
source_words (Value e) = number_words e

abbrev pub bound_words : Bound → List Word
bound_words (UpTo n) = []
bound_words (Least x v e n) = number_words e

-- the names that a loop declares
abbrev pub loop_words : Word → Bound → List Word
loop_words i (UpTo n) = i ∷ []
loop_words i (Least x v e n) = i ∷ x ∷ []

abbrev pub argument_words : ParamKind → Expression → List Word
argument_words param.Number e = number_words e
argument_words param.Clock e = []

-- the numbers that a statement itself uses, but for the shared number of an `atomic`
abbrev pub words_used : Signatures → Statement → List Word
words_used ms (Declare b x ty r) = source_words r
words_used ms (Assign x e) = x ∷ number_words e
words_used ms (Atomic x y at e) = number_words e
words_used ms (If at l c r s) = number_words l ++ number_words r
words_used ms (IfElse at l c r s t) = number_words l ++ number_words r
words_used ms (For at i lo b s) = bound_words b
words_used ms (Call g at es) = flat_map (λ a. argument_words a.0 a.1) (given_to (find ms g.text) es)
words_used ms (Print at v e) = number_words e
words_used ms _ = []

-- those that aren't among these
abbrev pub words_besides : List (List ℕ) → List Word → List Word
words_besides own [] = []
words_besides own (w ∷ ws) = (if has own w.text then [] else w ∷ []) ++ words_besides own ws

-- the names that are declared within behind a statement, where these are before it
abbrev pub own_behind : List (List ℕ) → Statement → List (List ℕ)
own_behind own s = put_texts own (map (λ d. d.name) (behind 0 s))

abbrev pub own_after : List (List ℕ) → Statements → List (List ℕ)
own_after own Done = own
own_after own (More s ss) = own_after (own_behind own s) ss

-- the numbers from outside that are used in the statements that a statement holds, in the order of the text
abbrev mutual
  pub outer_inside : Signatures → List (List ℕ) → Statement → List Word
  outer_inside ms own (Block close ss) = outer_among ms own ss
  outer_inside ms own (If at l c r s) = words_besides own (words_used ms s) ++ outer_inside ms own s
  outer_inside ms own (IfElse at l c r s t) =
      (words_besides own (words_used ms s) ++ outer_inside ms own s) ++ (words_besides own (words_used ms t) ++ outer_inside ms own t)
  outer_inside ms own (For at i lo b s) = let there = put_texts own (loop_words i b) in words_besides there (words_used ms s) ++ outer_inside ms there s
  outer_inside ms own (Async at cs s) = words_besides own (words_used ms s) ++ outer_inside ms own s
  outer_inside ms own (Finish at s) = words_besides own (words_used ms s) ++ outer_inside ms own s
  outer_inside ms own _ = []

  pub outer_among : Signatures → List (List ℕ) → Statements → List Word
  outer_among ms own Done = []
  outer_among ms own (More s ss) = (words_besides own (words_used ms s) ++ outer_inside ms own s) ++ outer_among ms (own_behind own s) ss

abbrev pub outer_words : Signatures → List (List ℕ) → Statement → List Word
outer_words ms own s = words_besides own (words_used ms s) ++ outer_inside ms own s

-- the names of the shared numbers
abbrev pub shared_texts : List SharedValue → List (List ℕ)
shared_texts = map (λ s. s.name.text)

-- what a body takes, each number once, where these texts name the shared numbers
abbrev pub captures : Signatures → List (List ℕ) → Statement → List (List ℕ)
captures ms shared s = put_texts [] (outer_words ms shared s)
