-- What is told beside a fault of a source text: where else the name that stands there is declared. This project's own.
use Rattle.std.specs.Prelude.{ℕ, ◌-◌, nat_eq, nat_lt, Bool, true, false, not, ◌&&◌, List, [], ◌∷◌, ◌++◌, length, take, drop, map, filter}
use Rattle.std.specs.Prelude.{Option, Some, None, codes, decimal, if◌then◌else◌}
use Rattle.std.specs.List.{prefix_len}
use Rattle.std.specs.Str.{bytes_eq}
use Rattle.xk_tree.specs.declared.fault.FrontFault.{FrontFault}
use Rattle.xk_tree.specs.declared.fault.FrontRule.{FrontRule}
use Rattle.xk_tree.specs.declared.fault.FrontRule.TheVariants as rule
use Rattle.xk_tree.specs.Tree.{MethodValue, TreeValue}
use Rattle.xk_explain_words.specs.Words.{begins, is_word_byte}
use Rattle.xk_explain_words.specs.Comments.{from_sign}
use Rattle.xk_explain_words.specs.NearNames.{is_near}
use Rattle.xk_explain_words.specs.Names.{told_name}
use Rattle.xk_explain.specs.Notes.{NoteValue}
use Rattle.xk_explain_kinds.specs.declared.declaration.Role.{Role}
use Rattle.xk_explain_kinds.specs.declared.declaration.Role.TheVariants as role
use Rattle.xk_explain_kinds.specs.Declarations.{Declared, declarations}
use Rattle.xk_explain_kinds.specs.FreeNames.{free_name, val_of}
use Rattle.xk_explain_kinds.specs.Calls.{callee, count_repair, method_named}
use Rattle.xk_explain_kinds.specs.Kinds.{is_assigned, is_method, is_visible, kind_repair, last_of, visible}
use Rattle.xk_explain_names.specs.LentClocks.{lent_notes}

-- ---- declarations of one name

-- the name or number at an offset
abbrev pub word_at : List ℕ → ℕ → List ℕ
word_at text at = take (prefix_len is_word_byte (drop at text)) (drop at text)

-- the same name is declared, elsewhere than at the offset
abbrev pub is_namesake : List ℕ → ℕ → Declared → Bool
is_namesake name at d = bytes_eq d.name.text name && not (nat_eq d.name.at at)

abbrev pub namesakes : List ℕ → ℕ → List Declared → List Declared
namesakes name at ds = filter (is_namesake name at) ds

-- ---- notes

-- how many are told at most
abbrev pub most : ℕ
most = 8

abbrev pub parameters_text : ℕ → List ℕ
parameters_text n =
    if nat_eq n 0 then codes "no parameters" else if nat_eq n 1 then codes "1 parameter" else decimal n ++ codes " parameters"

-- as what a name is declared
abbrev pub role_text : Role → List ℕ
role_text role.Shared = codes "a shared number"
role_text (role.Method n) = codes "a method with " ++ parameters_text n
role_text role.NumberParam = codes "a parameter (a number)"
role_text role.ClockParam = codes "a parameter (a clock)"
role_text role.Val = codes "a `val`"
role_text role.Var = codes "a `var`"
role_text role.Clock = codes "a clock"
role_text role.Loop = codes "the number of a loop"

-- `` `x` is declared here, as a `var` ``
unfoldable pub declared_text : Declared → List ℕ
declared_text d = ((codes "`" ++ told_name d.name.text) ++ codes "` is declared here, as ") ++ role_text d.role

-- at its place, with the repair that is called for
abbrev pub note_of : Option (List ℕ) → Declared → NoteValue
note_of repair d = record { at = Some d.name.at; text = declared_text d; repair = repair }

-- `` further declarations of `x`: 3 ``
unfoldable pub further_text : List ℕ → ℕ → List ℕ
further_text name count = ((codes "further declarations of `" ++ told_name name) ++ codes "`: ") ++ decimal count

-- those of so many that aren't told, with no place
abbrev pub further_notes : List ℕ → ℕ → List NoteValue
further_notes name count =
    if nat_lt most count then record { at = None; text = further_text name (count - most); repair = None } ∷ [] else []

abbrev pub notes_on : Option (List ℕ) → List ℕ → List Declared → List NoteValue
notes_on repair name ds = map (note_of repair) (take most ds) ++ further_notes name (length ds)

-- ---- a name that isn't visible, F5

-- it is called: a `(` stands behind it
abbrev pub is_called : List ℕ → List ℕ → Bool
is_called name rest = begins (from_sign (drop (length name) rest)) (codes "(")

-- what may be meant by a name: a method where it is called, else a number or a clock that is visible
abbrev pub may_be : Bool → ℕ → Declared → Bool
may_be true at d = is_method d.role
may_be false at d = is_visible at d

abbrev pub is_meant : Bool → List ℕ → ℕ → Declared → Bool
is_meant called name at d = may_be called at d && is_near name d.name.text

-- ``perhaps `sum` is meant``
unfoldable pub meant_text : List ℕ → List ℕ
meant_text name = (codes "perhaps `" ++ told_name name) ++ codes "` is meant"

-- where nothing is declared by this name, and no near one may be meant
unfoldable pub nowhere_text : List ℕ → List ℕ
nowhere_text name = (codes "nothing is declared as `" ++ told_name name) ++ codes "`"

unfoldable pub new_method_text : List ℕ → List ℕ
new_method_text name = (codes "write a method `def " ++ told_name name) ++ codes "() { .. }`, with as many parameters as it is given, or look for another spelling"

unfoldable pub new_number_text : List ℕ → List ℕ
new_number_text name =
    (((codes "declare it before, by `var " ++ told_name name) ++ codes " = 0;`, or where an `async` writes it by `shared ") ++ told_name name)
    ++ codes " = 0;` in front of the methods"

abbrev pub new_text : Bool → List ℕ → List ℕ
new_text true name = new_method_text name
new_text false name = new_number_text name

abbrev pub nowhere_note : Bool → List ℕ → NoteValue
nowhere_note called name = record { at = None; text = nowhere_text name; repair = Some (new_text called name) }

abbrev pub meant_notes : Bool → List ℕ → Option Declared → List NoteValue
meant_notes called name None = nowhere_note called name ∷ []
meant_notes called name (Some d) = note_of (Some (meant_text d.name.text)) d ∷ []

-- where it is declared, and isn't visible
unfoldable pub loop_alone_text : List ℕ → List ℕ
loop_alone_text name = (codes "`" ++ told_name name) ++ codes "` is seen in its loop alone: use it there, or keep it in a `var` that is declared in front of the loop"

unfoldable pub other_param_text : List ℕ → List ℕ
other_param_text name = (codes "`" ++ told_name name) ++ codes "` is a parameter of another method: take it as one here, too"

unfoldable pub other_clock_text : List ℕ → List ℕ
other_clock_text name =
    (((codes "`" ++ told_name name) ++ codes "` is a parameter of another method: make a clock here by `val ") ++ told_name name)
    ++ codes " = Clock.make();`, in the innermost `finish`, and drop it before that ends"

unfoldable pub block_text : List ℕ → List ℕ
block_text name =
    (codes "`" ++ told_name name) ++ codes "` isn't seen outside of its block, nor before it is declared: declare it further out, and where an `async` writes it as a shared number"

-- the same of a clock: a method sees none of those that call it
unfoldable pub clock_block_text : List ℕ → List ℕ
clock_block_text name =
    (((codes "`" ++ told_name name)
    ++ codes "` is a clock, and isn't seen here: declare it further out, or in a method take it as a parameter, `")
    ++ told_name name)
    ++ codes ": Clock`"

-- a method is called, and all else isn't
unfoldable pub method_alone_text : List ℕ → List ℕ
method_alone_text name =
    (((codes "`" ++ told_name name) ++ codes "` is a method, which gives nothing back: call it by `") ++ told_name name)
    ++ codes "();`, and read the shared number that it writes"

unfoldable pub uncalled_text : List ℕ → List ℕ
uncalled_text name = (codes "`" ++ told_name name) ++ codes "` is no method: take its parentheses away, or call a method of another name"

abbrev pub unseen_text : List ℕ → Role → Option (List ℕ)
unseen_text name role.Loop = Some (loop_alone_text name)
unseen_text name role.NumberParam = Some (other_param_text name)
unseen_text name role.ClockParam = Some (other_clock_text name)
unseen_text name role.Val = Some (block_text name)
unseen_text name role.Var = Some (block_text name)
unseen_text name role.Clock = Some (clock_block_text name)
unseen_text name role.Shared = None
unseen_text name (role.Method n) = Some (method_alone_text name)

-- where it is called, or isn't
abbrev pub unseen_as : Bool → List ℕ → Role → Option (List ℕ)
unseen_as true name r = Some (uncalled_text name)
unseen_as false name r = unseen_text name r

abbrev pub unseen_by : Bool → Declared → Option (List ℕ)
unseen_by called d = unseen_as called d.name.text d.role

-- of these that have the name, or where none has it, the last that may be meant
abbrev pub unknown_by : List ℕ → List ℕ → ℕ → List Declared → List Declared → List NoteValue
unknown_by name rest at [] ds = meant_notes (is_called name rest) name (last_of (is_meant (is_called name rest) name at) None ds)
unknown_by name rest at (d ∷ same) ds = notes_on (unseen_by (is_called name rest) d) name (d ∷ same)

abbrev pub unknown_notes : List ℕ → List ℕ → ℕ → List Declared → List NoteValue
unknown_notes name rest at ds = unknown_by name rest at (namesakes name at ds) ds

-- ---- a name that is used as what it isn't, F7

-- the repair of such a name, by the method whose argument it is, a name that is free, and as what it is declared that is visible
abbrev pub repair_of_kind : List ℕ → List ℕ → ℕ → List MethodValue → List Declared → Option (List ℕ)
repair_of_kind name text at ms ds =
    kind_repair name (take at text) (drop at text) (callee (take at text) ms) (free_name ds) (visible name at ds)

unfoldable pub kind_notes : List ℕ → List ℕ → ℕ → List MethodValue → List Declared → List NoteValue
kind_notes name text at ms ds = notes_on (repair_of_kind name text at ms ds) name (namesakes name at ds)

-- ---- a name that the body of an `async` doesn't see, F8

unfoldable pub hand_on_text : List ℕ → List ℕ
hand_on_text name = (((codes "hand `" ++ told_name name) ++ codes "` on: write `async clocked (") ++ told_name name) ++ codes ")`"

unfoldable pub share_text : List ℕ → List ℕ
share_text name =
    (((codes "an `async` doesn't write `" ++ told_name name) ++ codes "`, which is a `var`: declare it as `shared ") ++ told_name name)
    ++ codes " = 0;` in front of the methods"

-- in a `val`, of a name that is free
unfoldable pub keep_in_text : List ℕ → List ℕ → List ℕ
keep_in_text name new =
    (codes "take a " ++ val_of new name) ++ ((codes " before the `async`: a `var` as `" ++ told_name name) ++ codes "` isn't seen in it")

unfoldable pub keep_apart_text : List ℕ → List ℕ
keep_apart_text name =
    (codes "keep `" ++ told_name name) ++ codes "` in a `val` of another name before the `async`: a `var` isn't seen in it"

abbrev pub keep_text : List ℕ → Option (List ℕ) → List ℕ
keep_text name None = keep_apart_text name
keep_text name (Some new) = keep_in_text name new

abbrev pub var_text : List ℕ → List ℕ → Option (List ℕ) → List ℕ
var_text name rest new = if is_assigned name rest then share_text name else keep_text name new

abbrev pub captured_by : List ℕ → List ℕ → Option (List ℕ) → Role → Option (List ℕ)
captured_by name rest new role.Clock = Some (hand_on_text name)
captured_by name rest new role.ClockParam = Some (hand_on_text name)
captured_by name rest new role.Var = Some (var_text name rest new)
captured_by name rest new _ = None

abbrev pub capture_repair : List ℕ → List ℕ → Option (List ℕ) → Option Declared → Option (List ℕ)
capture_repair name rest new None = None
capture_repair name rest new (Some d) = captured_by name rest new d.role

unfoldable pub capture_notes : List ℕ → List ℕ → ℕ → List Declared → List NoteValue
capture_notes name rest at ds = notes_on (capture_repair name rest (free_name ds) (visible name at ds)) name (namesakes name at ds)

-- ---- a call with more or fewer arguments, F11

unfoldable pub count_notes : List ℕ → ℕ → List MethodValue → List Declared → List NoteValue
count_notes name at ms ds = notes_on (count_repair (method_named name ms)) name (namesakes name at ds)

-- ---- all of them

-- the rules on names that are declared
abbrev pub is_on_names : FrontRule → Bool
is_on_names rule.DuplicateName = true
is_on_names rule.Recursive = true
is_on_names rule.SameClockTwice = true
is_on_names _ = false

-- Beside a fault of such a rule: where the name that stands there is declared, but for the fault's own place, in the order of the text.
abbrev pub named_notes : FrontRule → List ℕ → ℕ → List Declared → List NoteValue
named_notes r name at ds = if is_on_names r then notes_on None name (namesakes name at ds) else []

abbrev pub notes_by : FrontRule → TreeValue → List ℕ → ℕ → List NoteValue
notes_by rule.UnknownName t text at = unknown_notes (word_at text at) (drop at text) at (declarations t)
notes_by rule.WrongKind t text at = kind_notes (word_at text at) text at t.methods (declarations t)
notes_by rule.NotCaptured t text at = capture_notes (word_at text at) (drop at text) at (declarations t)
notes_by rule.Arity t text at = count_notes (word_at text at) at t.methods (declarations t)
notes_by rule.NoHiddenClock t text at = lent_notes t text at
notes_by r t text at = named_notes r (word_at text at) at (declarations t)

-- Beside a fault: where the name that stands there is declared, and what that calls for.
abbrev pub front_notes : TreeValue → List ℕ → FrontFault → List NoteValue
front_notes t text f = notes_by f.rule t text f.at
