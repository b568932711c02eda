-- Small programs: what is declared in them, and what is told beside a fault, by evaluation.
use Rattle.std.proofs.Common.{◌≡◌, ℕ, pos, Bool, true, false, List, [], ◌∷◌, ◌++◌, refl, Option, Some, None, replicate}
use Rattle.std.specs.Prelude.{codes}
use Rattle.xk_types.specs.declared.unit.ParamKind.TheVariants as param
use Rattle.xk_tree.specs.declared.fault.FrontRule.TheVariants as rule
use Rattle.xk_tree.specs.declared.fault.FrontFault.{FrontFault}
use Rattle.xk_tree.specs.declared.fault.FrontRule.{FrontRule}
use Rattle.xk_tree.specs.declared.tree.Binding.TheVariants as binding
use Rattle.xk_tree.specs.declared.tree.Number.{Number}
use Rattle.xk_tree.specs.declared.tree.Verb.{Verb}
use Rattle.xk_tree.specs.Tree.{Word, Expression, Literal, Named, Make, Value, UpTo, ParamValue, MethodValue, SharedValue, TreeValue}
use Rattle.xk_tree.specs.Tree.{Statements, Done, More, Block, Declare, For, Async, Finish, Drop, Print}
use Rattle.xk_explain.specs.Notes.{NoteValue}
use Rattle.xk_explain_kinds.specs.declared.declaration.Role.TheVariants as role
use Rattle.xk_explain_kinds.specs.Declarations.{Declared, declares, declarations}
use Rattle.xk_explain_words.specs.NearNames.{is_near}
use Rattle.xk_explain_kinds.specs.Kinds.{is_written_back, term_added}
use Rattle.xk_explain_names.specs.Notes.{declared_text, front_notes, further_text, loop_alone_text, notes_on}

abbrev x : ℕ → Word
x at = record { at = at; text = codes "x" }

abbrev one : Number
one = record { minus = None; at = 0; value = pos 1 }

abbrev verb : Verb
verb = record { at = 0; paren = 0 }

abbrev print : Word → Statements → Statements
print w ss = More (Print 0 verb (Named w)) ss

abbrev method : Word → List ParamValue → Statements → MethodValue
method name params body = record { name = name; paren = 0; params = params; body = body; close = 0 }

abbrev program : List SharedValue → List MethodValue → TreeValue
program shared methods = record { shared = shared; methods = methods }

abbrev fault : FrontRule → ℕ → FrontFault
fault r at = record { rule = r; at = at }

abbrev told : ℕ → List ℕ → NoteValue
told at text = record { at = Some at; text = text; repair = None }

-- ---- a loop declares x, and behind the loop x isn't visible

abbrev loop_text : List ℕ
loop_text = codes "def m(){for(x in 1..1);Console.OUT.println(x);}"

abbrev loop : TreeValue
loop = program [] (method (record { at = 4; text = codes "m" }) [] (More (For 11 (x 12) one (UpTo one) (Block 0 Done)) (print (x 43) Done)) ∷ [])

loop_declares : declarations loop ≡ declares (record { at = 4; text = codes "m" }) (role.Method 0) 4 4 ∷ declares (x 12) role.Loop 0 0 ∷ []
loop_declares = refl

not_visible :
    front_notes loop loop_text (fault rule.UnknownName 43)
    ≡ (record { at = Some 12; text = codes "`x` is declared here, as the number of a loop"; repair = Some (loop_alone_text (codes "x")) }) ∷ []
unfolding declared_text
not_visible = refl

-- a fault of another rule there
no_notes : front_notes loop loop_text (fault rule.Table 43) ≡ []
no_notes = refl

-- ---- a shared number, a parameter that is a clock, and a `val`; the one at the fault itself isn't told

abbrev again_text : List ℕ
again_text = codes "shared x=1;def m(x:Clock){val x=1;}"

abbrev again : TreeValue
again =
    program (record { name = x 7; start = one } ∷ [])
    (method (record { at = 15; text = codes "m" }) (record { name = x 17; takes = record { at = 19; kind = param.Clock } } ∷ [])
    (More (Declare binding.Val (x 30) None (Value (Literal one))) Done) ∷ [])

declared_again :
    front_notes again again_text (fault rule.DuplicateName 17)
    ≡ told 7 (codes "`x` is declared here, as a shared number") ∷ told 30 (codes "`x` is declared here, as a `val`") ∷ []
unfolding declared_text
declared_again = refl

-- ---- a `val` that is a clock; the clock of a `clocked finish` has no name in the text

abbrev hidden : Word
hidden = record { at = 0; text = codes "  " }

abbrev clocks : TreeValue
clocks =
    program []
    (method (x 4) []
    (More (Declare binding.Val (x 12) None (Make 16 verb))
    (More (Finish 30 (Block 30 (More (Declare binding.Hidden hidden None (Make 30 verb)) (More (Async 45 None (Block 60 Done)) (More (Drop hidden verb) Done))))) Done)) ∷ [])

clocks_declare : declarations clocks ≡ declares (x 4) (role.Method 0) 4 4 ∷ declares (x 12) role.Clock 0 0 ∷ []
clocks_declare = refl

-- ---- of nine the ninth isn't told

nine : notes_on None (codes "x") (replicate 9 (declares (x 4) role.Var 4 9))
    ≡ replicate 8 (told 4 (codes "`x` is declared here, as a `var`")) ++ (record { at = None; text = further_text (codes "x") 1; repair = None }) ∷ []
unfolding declared_text
nine = refl

-- ---- near names

swapped : is_near (codes "smu") (codes "sum") ≡ true
swapped = refl

sign_more : is_near (codes "total") (codes "totals") ≡ true
sign_more = refl

other_case : is_near (codes "C") (codes "c") ≡ true
other_case = refl

short : is_near (codes "x") (codes "i") ≡ false
short = refl

two_edits : is_near (codes "count") (codes "mount_") ≡ false
two_edits = refl

-- ---- a shared number that is written back

sum_of : term_added (codes "n") (codes "n = ") (codes "n + 2 * i;") ≡ Some (codes "(2 * i)")
sum_of = refl

difference_of : term_added (codes "n") (codes "n = ") (codes "n - i;") ≡ Some (codes "-i")
difference_of = refl

-- `n - a + b` isn't `n + -(a + b)`
difference_of_a_sum : term_added (codes "n") (codes "n = ") (codes "n - a + b;") ≡ None
difference_of_a_sum = refl

written_back : is_written_back (codes "n") (codes "if (a == 1) n = 2 * ") ≡ true
written_back = refl

read_alone : is_written_back (codes "n") (codes "n = 1; val t = ") ≡ false
read_alone = refl
