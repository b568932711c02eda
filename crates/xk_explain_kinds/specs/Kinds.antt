-- What is told where a name is used as what it isn't, F7: what it is, and the repair. This project's own.
use Rattle.std.specs.Prelude.{ℕ, ◌-◌, ◌==◌, nat_le, nat_lt, Bool, true, false, not, ◌&&◌, ◌||◌, List, [], ◌∷◌, ◌++◌, length, take, drop}
use Rattle.std.specs.Prelude.{Option, Some, None, codes, if◌then◌else◌}
use Rattle.std.specs.List.{list_all, list_any, prefix_len, suffix_len}
use Rattle.std.specs.Str.{bytes_eq}
use Rattle.xk_tree.specs.Tree.{MethodValue}
use Rattle.xk_explain_words.specs.Words.{begins, is_word_byte, last_word}
use Rattle.xk_explain_words.specs.Comments.{from_sign, to_sign}
use Rattle.xk_explain_words.specs.Names.{told_name}
use Rattle.xk_explain_kinds.specs.Calls.{order_text}
use Rattle.xk_explain_kinds.specs.declared.declaration.Role.{Role}
use Rattle.xk_explain_kinds.specs.declared.declaration.Role.TheVariants as role
use Rattle.xk_explain_kinds.specs.Declarations.{Declared}
use Rattle.xk_explain_kinds.specs.FreeNames.{val_of}

-- ---- which declaration is visible

-- the last declaration of a list that is so
abbrev pub last_of : (Declared → Bool) → Option Declared → List Declared → Option Declared
last_of is found [] = found
last_of is found (d ∷ ds) = last_of is (if is d then Some d else found) ds

abbrev pub is_method : Role → Bool
is_method (role.Method n) = true
is_method _ = false

abbrev pub is_shared : Role → Bool
is_shared role.Shared = true
is_shared _ = false

-- a number or a clock is visible at an offset
abbrev pub is_visible : ℕ → Declared → Bool
is_visible at d = not (is_method d.role) && (is_shared d.role || (nat_lt d.behind at && nat_le at d.until))

-- it has this name
abbrev pub is_seen : List ℕ → ℕ → Declared → Bool
is_seen name at d = bytes_eq d.name.text name && is_visible at d

-- the one that is visible at an offset, if one is
abbrev pub visible : List ℕ → ℕ → List Declared → Option Declared
visible name at ds = last_of (is_seen name at) None ds

-- ---- a shared number that is written back

abbrev pub isnt_assign : ℕ → Bool
isnt_assign b = not (b == 61)

-- how many bytes stand behind the last `=` before a place
abbrev pub value_len : List ℕ → ℕ
value_len before = suffix_len isnt_assign before

-- what stands there
abbrev pub value_text : List ℕ → List ℕ
value_text before = drop (length before - value_len before) before

-- the name before that `=`
abbrev pub assigned : List ℕ → List ℕ
assigned before = last_word (to_sign (take (length before - value_len before - 1) before))

-- a statement ends or begins
abbrev pub ends_here : ℕ → Bool
ends_here b = b == 59 || (b == 123 || b == 125)

-- the name that stands behind this is that of the number to which the statement writes
abbrev pub is_written_back : List ℕ → List ℕ → Bool
is_written_back name before = bytes_eq (assigned before) name && not (list_any ends_here (value_text before))

-- ---- the sum

abbrev pub isnt_semicolon : ℕ → Bool
isnt_semicolon b = not (b == 59)

-- up to the end of the statement, without blanks around
abbrev pub addend : List ℕ → List ℕ
addend rest = to_sign (from_sign (take (prefix_len isnt_semicolon rest) rest))

-- on one line, without a comment, and in 60 signs
abbrev pub is_shown : ℕ → Bool
is_shown b = (nat_le 32 b && nat_le b 126) && not (b == 47)

abbrev pub is_plain : List ℕ → Bool
is_plain [] = false
is_plain (b ∷ bs) = nat_le (length (b ∷ bs)) 60 && list_all is_shown (b ∷ bs)

abbrev pub is_sign : ℕ → Bool
is_sign b = b == 43 || b == 45

-- in parentheses, if it is more than a word
abbrev pub term : List ℕ → List ℕ
term e = if list_all is_word_byte e then e else (codes "(" ++ e) ++ codes ")"

-- What a number is added by, where this stands behind its name: `+ e`, or `- e` where e is no sum itself.
abbrev pub term_of : List ℕ → List ℕ → Option (List ℕ)
term_of sign e =
    if begins sign (codes "+") && is_plain e then Some (term e)
    else if begins sign (codes "-") && (is_plain e && not (list_any is_sign e)) then Some (codes "-" ++ term e)
    else None

abbrev pub term_behind : List ℕ → Option (List ℕ)
term_behind sign = term_of sign (addend (drop 1 sign))

-- of `name = name + e`, where the second `name` stands between these
abbrev pub is_empty : List ℕ → Bool
is_empty [] = true
is_empty (b ∷ bs) = false

abbrev pub term_added : List ℕ → List ℕ → List ℕ → Option (List ℕ)
term_added name before rest =
    if is_empty (to_sign (value_text before)) then term_behind (from_sign (drop (length name) rest)) else None

-- ---- repairs

-- ``write `atomic n = n + e;`: it adds in one step``
unfoldable pub added_text : List ℕ → List ℕ → List ℕ
added_text name e =
    (((((codes "write `atomic " ++ told_name name) ++ codes " = ") ++ told_name name) ++ codes " + ") ++ e) ++ codes ";`: it adds in one step"

-- where it isn't known what is added
unfoldable pub one_step_text : List ℕ → List ℕ
one_step_text name =
    (((codes "add in one step, as by `atomic " ++ told_name name) ++ codes " = ") ++ told_name name) ++ codes " + 1;`: between a read and a write another activity may write"

abbrev pub sum_text : List ℕ → Option (List ℕ) → List ℕ
sum_text name None = one_step_text name
sum_text name (Some e) = added_text name e

-- ``read `n` first, which is shared: `val t = n;` ``, where t is free
unfoldable pub read_into_text : List ℕ → List ℕ → List ℕ
read_into_text name new = ((codes "read `" ++ told_name name) ++ codes "` first, which is shared: ") ++ val_of new name

unfoldable pub read_apart_text : List ℕ → List ℕ
read_apart_text name = (codes "read `" ++ told_name name) ++ codes "` first, which is shared, into a `val` of another name"

abbrev pub read_text : List ℕ → Option (List ℕ) → List ℕ
read_text name None = read_apart_text name
read_text name (Some new) = read_into_text name new

abbrev pub shared_text : List ℕ → List ℕ → List ℕ → Option (List ℕ) → List ℕ
shared_text name before rest new = if is_written_back name before then sum_text name (term_added name before rest) else read_text name new

unfoldable pub clock_text : List ℕ → List ℕ
clock_text name = (codes "give a number in place of `" ++ told_name name) ++ codes "`, which is a clock"

unfoldable pub number_text : List ℕ → List ℕ
number_text name = (codes "give a clock in place of `" ++ told_name name) ++ codes "`, which is a number"

-- what stays, and is assigned to
unfoldable pub val_text : List ℕ → List ℕ
val_text name = (codes "`" ++ told_name name) ++ codes "` is a `val`, which stays: declare it by `var`"

unfoldable pub param_stays_text : List ℕ → List ℕ
param_stays_text name =
    (codes "`" ++ told_name name) ++ codes "` is a parameter, which stays: keep it in a `var` of another name, and assign to that"

unfoldable pub loop_stays_text : List ℕ → List ℕ
loop_stays_text name = (codes "`" ++ told_name name) ++ codes "` is the number of a loop, which goes on by itself: assign to a `var`"

unfoldable pub clock_stays_text : List ℕ → List ℕ
clock_stays_text name = (codes "`" ++ told_name name) ++ codes "` is a clock, which stays: make another one, by a `val` of another name"

abbrev pub stays_text : List ℕ → Role → List ℕ
stays_text name role.Clock = clock_stays_text name
stays_text name role.ClockParam = clock_stays_text name
stays_text name role.NumberParam = param_stays_text name
stays_text name role.Loop = loop_stays_text name
stays_text name _ = val_text name

-- a `=` stands behind the name
abbrev pub is_assigned : List ℕ → List ℕ → Bool
is_assigned name rest =
    begins (from_sign (drop (length name) rest)) (codes "=") && not (begins (from_sign (drop (length name) rest)) (codes "=="))

-- the repair of a name that is declared so, between what stands before it and what the text goes on with; the method whose argument it is,
-- and a name that is free
abbrev pub misused_text : List ℕ → Role → List ℕ
misused_text name role.Clock = clock_text name
misused_text name role.ClockParam = clock_text name
misused_text name _ = number_text name

abbrev pub wanted_text : List ℕ → Role → Option MethodValue → List ℕ
wanted_text name r None = misused_text name r
wanted_text name r (Some m) = order_text m

abbrev pub other_kind_text : List ℕ → List ℕ → Role → Option MethodValue → List ℕ
other_kind_text name rest r m = if is_assigned name rest then stays_text name r else wanted_text name r m

abbrev pub kind_text : List ℕ → List ℕ → List ℕ → Role → Option MethodValue → Option (List ℕ) → List ℕ
kind_text name before rest role.Shared m new = shared_text name before rest new
kind_text name before rest r m new = other_kind_text name rest r m

abbrev pub kind_repair : List ℕ → List ℕ → List ℕ → Option MethodValue → Option (List ℕ) → Option Declared → Option (List ℕ)
kind_repair name before rest m new None = None
kind_repair name before rest m new (Some d) = Some (kind_text name before rest d.role m new)
