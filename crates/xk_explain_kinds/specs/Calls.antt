-- The method whose argument a name is, and its parameters. This project's own.
use Rattle.std.specs.Prelude.{ℕ, ◌-◌, ◌==◌, Bool, true, false, not, ◌||◌, List, [], ◌∷◌, ◌++◌, length, take, drop, flat_map, Option, Some}
use Rattle.std.specs.Prelude.{None, codes, if◌then◌else◌}
use Rattle.std.specs.List.{list_any, suffix_len}
use Rattle.std.specs.Str.{bytes_eq}
use Rattle.xk_types.specs.declared.unit.ParamKind.{ParamKind}
use Rattle.xk_types.specs.declared.unit.ParamKind.TheVariants as param
use Rattle.xk_tree.specs.Tree.{MethodValue, ParamValue}
use Rattle.xk_explain_words.specs.Words.{last_word}
use Rattle.xk_explain_words.specs.Comments.{to_sign}
use Rattle.xk_explain_words.specs.Names.{told_name}

-- ---- the method

abbrev pub isnt_open : ℕ → Bool
isnt_open b = not (b == 40)

-- how many bytes stand behind the last `(` before a place
abbrev pub arguments_len : List ℕ → ℕ
arguments_len before = suffix_len isnt_open before

abbrev pub arguments_text : List ℕ → List ℕ
arguments_text before = drop (length before - arguments_len before) before

-- the name before that `(`
abbrev pub called : List ℕ → List ℕ
called before = last_word (to_sign (take (length before - arguments_len before - 1) before))

-- the arguments end, or a statement does
abbrev pub ends_call : ℕ → Bool
ends_call b = b == 41 || (b == 59 || (b == 123 || b == 125))

-- the method of a name: the first one
abbrev pub method_named : List ℕ → List MethodValue → Option MethodValue
method_named name [] = None
method_named name (m ∷ ms) = if bytes_eq m.name.text name then Some m else method_named name ms

-- the method among whose arguments a place is, behind no other parenthesis
abbrev pub callee : List ℕ → List MethodValue → Option MethodValue
callee before ms = if list_any ends_call (arguments_text before) then None else method_named (called before) ms

-- ---- its parameters

abbrev pub type_text : ParamKind → List ℕ
type_text param.Number = codes ": Long, "
type_text param.Clock = codes ": Clock, "

abbrev pub param_text : ParamValue → List ℕ
param_text p = told_name p.name.text ++ type_text p.takes.kind

-- each with a comma behind it
abbrev pub params_text : List ParamValue → List ℕ
params_text ps = flat_map param_text ps

-- without the last comma
abbrev pub params_listed : List ParamValue → List ℕ
params_listed ps = take (length (params_text ps) - 2) (params_text ps)

-- ``give `w` a number for each `Long` and a clock for each `Clock`, in the order of `(n: Long, c: Clock)` ``
unfoldable pub order_text : MethodValue → List ℕ
order_text m =
    (((codes "give `" ++ told_name m.name.text) ++ codes "` a number for each `Long` and a clock for each `Clock`, in the order of `(") ++ params_listed m.params)
    ++ codes ")`"

-- ``give `w` one argument for each of `(n: Long, c: Clock)`, in this order``
unfoldable pub count_text : MethodValue → List ℕ
count_text m = (((codes "give `" ++ told_name m.name.text) ++ codes "` one argument for each of `(") ++ params_listed m.params) ++ codes ")`, in this order"

abbrev pub count_repair : Option MethodValue → Option (List ℕ)
count_repair None = None
count_repair (Some m) = Some (count_text m)
