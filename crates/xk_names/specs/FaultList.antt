-- All faults of names of a tree in a list, and which of them is reported. The rules are this project's own.
use Rattle.std.specs.Prelude.{ℕ, nat_eq, nat_lt, Bool, true, ◌||◌, ◌&&◌, List, [], ◌∷◌, ◌++◌, length, map, Option, Some, None, is_some}
use Rattle.std.specs.Prelude.{if◌then◌else◌}
use Rattle.std.specs.List.{flat_map}
use Rattle.xk_tree.specs.declared.fault.FrontRule.{FrontRule}
use Rattle.xk_tree.specs.declared.fault.FrontRule.TheVariants as rule
use Rattle.xk_tree.specs.declared.fault.FrontFault.{FrontFault}
use Rattle.xk_tree.specs.Fault.{front_number}
use Rattle.xk_tree.specs.Tree.{Word, Expression, Statement, Statements, Done, More, Block, If, IfElse, For, Async, Finish, ParamValue, MethodValue, TreeValue}
use Rattle.xk_names.specs.declared.binding.Known.{Known}
use Rattle.xk_names.specs.declared.least_fault.Search.{Search}
use Rattle.xk_names.specs.declared.binding.Want.TheVariants as want
use Rattle.xk_names.specs.Scope.{Table, find, has, Declaration, Scope, sees, fits}
use Rattle.xk_names.specs.Uses.{Use, use_as, Signatures, uses, declares, misfits, clocks_given, clocks_listed, calls}
use Rattle.xk_names.specs.Places.{behind}
use Rattle.xk_names.specs.Faults.{fault, invisible_rule, shared_declaration, param_declaration}

-- ---- what is visible, each name once

-- one entry more, unless the text has one
abbrev pub put : {A : Type 0} → Table A → List ℕ → A → Table A
put table x a = if is_some (find table x) then table else table ++ (x, a) ∷ []

abbrev pub put_all : Table Known → List Declaration → Table Known
put_all names [] = names
put_all names (d ∷ ds) = put_all (put names d.name.text d.known) ds

abbrev pub put_text : List (List ℕ) → List ℕ → List (List ℕ)
put_text texts x = if has texts x then texts else texts ++ x ∷ []

abbrev pub put_texts : List (List ℕ) → List Word → List (List ℕ)
put_texts texts [] = texts
put_texts texts (w ∷ ws) = put_texts (put_text texts w.text) ws

abbrev pub put_methods : Signatures → List MethodValue → Signatures
put_methods ms [] = ms
put_methods ms (m ∷ more) = put_methods (put ms m.name.text m.params) more

abbrev pub with_declared : Scope → List Declaration → Scope
with_declared sc ds = record { names = put_all sc.names ds; bodies = sc.bodies }

-- behind these statements
abbrev pub after : Scope → Statements → Scope
after sc Done = sc
after sc (More s ss) = after (with_declared sc (behind (length sc.bodies) s)) ss

-- in the body of an `async` that is given these clocks
abbrev pub with_clocks : Scope → List (List ℕ) → Scope
with_clocks sc clocks = record { names = sc.names; bodies = clocks ∷ sc.bodies }

abbrev pub body_of : Scope → List Word → Scope
body_of sc cs = with_clocks sc (put_texts [] cs)

-- ---- the faults of a statement, apart from those that it holds

abbrev pub unless : Bool → FrontRule → ℕ → List FrontFault
unless b r at = if b then [] else fault r at ∷ []

abbrev pub when : Bool → FrontRule → ℕ → List FrontFault
when b r at = if b then fault r at ∷ [] else []

abbrev pub known_use_faults : Scope → Use → Option Known → List FrontFault
known_use_faults sc u None = fault (invisible_rule u.name.text) u.name.at ∷ []
known_use_faults sc u (Some k) = unless (fits u.want k.kind) rule.WrongKind u.name.at ++ unless (sees sc u.name.text k) rule.NotCaptured u.name.at

abbrev pub use_faults : Scope → Use → List FrontFault
use_faults sc u = known_use_faults sc u (find sc.names u.name.text)

abbrev pub again : Table Known → Declaration → List FrontFault
again names d = when (is_some (find names d.name.text)) rule.DuplicateName d.name.at

abbrev pub known_call_faults : Word → List Expression → Option (List ParamValue) → List FrontFault
known_call_faults g es None = fault rule.UnknownName g.at ∷ []
known_call_faults g es (Some ps) = unless (nat_eq (length ps) (length es)) rule.Arity g.at

abbrev pub call_faults : Signatures → Option (Word × List Expression) → List FrontFault
call_faults ms None = []
call_faults ms (Some c) = known_call_faults c.0 c.1 (find ms c.0.text)

-- the names that stand there again, behind these
abbrev pub repeats : List (List ℕ) → List Word → List FrontFault
repeats before [] = []
repeats before (c ∷ cs) = when (has before c.text) rule.SameClockTwice c.at ++ repeats (put_text before c.text) cs

-- those of the clocks that an `async` is given
abbrev pub list_faults : Scope → List Word → List FrontFault
list_faults sc cs = flat_map (use_faults sc) (map (use_as want.Clock) cs) ++ repeats [] cs

unfoldable pub own : Signatures → Scope → Statement → List FrontFault
own ms sc t =
    flat_map (use_faults sc) (uses ms sc.names t)
    ++ (flat_map (again sc.names) (declares (length sc.bodies) t)
    ++ (map (fault rule.WrongKind) (misfits ms t)
    ++ (call_faults ms (calls t)
    ++ repeats [] (clocks_given ms t))))

-- ---- the faults of those that it holds

abbrev mutual
  pub inside : Signatures → Scope → Statement → List FrontFault
  inside ms sc (Block close ss) = among ms sc ss
  inside ms sc (If at l c r s) = own ms sc s ++ inside ms sc s
  inside ms sc (IfElse at l c r s t) = (own ms sc s ++ inside ms sc s) ++ (own ms sc t ++ inside ms sc t)
  inside ms sc (For at i lo hi s) =
      let there = with_declared sc (declares (length sc.bodies) (For at i lo hi s)) in own ms there s ++ inside ms there s
  inside ms sc (Async at cs s) = let there = body_of sc (clocks_listed cs) in own ms there s ++ inside ms there s
  inside ms sc (Finish at s) = own ms sc s ++ inside ms sc s
  inside ms sc _ = []

  pub among : Signatures → Scope → Statements → List FrontFault
  among ms sc Done = []
  among ms sc (More s ss) = (own ms sc s ++ inside ms sc s) ++ among ms (with_declared sc (behind (length sc.bodies) s)) ss

abbrev pub faults : Signatures → Scope → Statement → List FrontFault
faults ms sc s = own ms sc s ++ inside ms sc s

-- ---- programs

abbrev pub declared_again : Table Known → List Declaration → List FrontFault
declared_again names [] = []
declared_again names (d ∷ ds) = again names d ++ declared_again (put names d.name.text d.known) ds

abbrev pub methods_again : Signatures → List MethodValue → List FrontFault
methods_again ms [] = []
methods_again ms (m ∷ more) = when (is_some (find ms m.name.text)) rule.DuplicateName m.name.at ++ methods_again (put ms m.name.text m.params) more

-- the faults of a method's parameters and body, where these are the shared numbers
abbrev pub method_faults : Signatures → Table Known → MethodValue → List FrontFault
method_faults ms shared m =
    declared_again shared (map param_declaration m.params)
    ++ among ms (record { names = put_all shared (map param_declaration m.params); bodies = [] }) m.body

abbrev pub name_faults : TreeValue → List FrontFault
name_faults t =
    declared_again [] (map shared_declaration t.shared)
    ++ (methods_again [] t.methods
    ++ flat_map (method_faults (put_methods [] t.methods) (put_all [] (map shared_declaration t.shared))) t.methods)

-- ---- which is reported

abbrev pub is_reported_before : FrontFault → FrontFault → Bool
is_reported_before f g = nat_lt f.at g.at || (nat_eq f.at g.at && nat_lt (front_number f.rule) (front_number g.rule))

-- behind the floor of a search, where it has one
abbrev pub is_past : Option FrontFault → FrontFault → Bool
is_past None f = true
is_past (Some floor) f = is_reported_before floor f

-- less than the one that was found, where one was
abbrev pub is_lesser : FrontFault → Option FrontFault → Bool
is_lesser f None = true
is_lesser f (Some g) = is_reported_before f g

-- A search keeps the one at the least offset, of two at one offset the one of the smaller number, among those behind its floor.
abbrev pub lesser : Search → FrontFault → Search
lesser w f = if is_past w.floor f && is_lesser f w.found then record { floor = w.floor; found = Some f } else w

-- a search that has found nothing yet
abbrev pub search_past : Option FrontFault → Search
search_past floor = record { floor = floor; found = None }

abbrev pub least : Search → List FrontFault → Search
least w [] = w
least w (f ∷ fs) = least (lesser w f) fs

-- the least of a tree's faults of names behind a floor, or of all
abbrev pub least_past : Option FrontFault → TreeValue → Option FrontFault
least_past floor t = (least (search_past floor) (name_faults t)).found

-- the next one behind this one
abbrev pub next_name_fault : TreeValue → FrontFault → Option FrontFault
next_name_fault t f = least_past (Some f) t
