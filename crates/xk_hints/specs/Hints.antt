-- Hints: what is so in a program, and is seldom meant. This project's own.
use Rattle.std.specs.Prelude.{ℕ, nat_lt, int_lt, pos, Bool, true, false, not, ◌&&◌, ◌||◌, List, [], ◌∷◌, ◌++◌, map, flat_map}
use Rattle.std.specs.Prelude.{codes, Option, is_none}
use Rattle.std.specs.Prelude.{if◌then◌else◌}
use Rattle.std.specs.List.{list_any, prefix_len}
use Rattle.std.specs.Ordering.{int_eq}
use Rattle.std.specs.Str.{bytes_eq}
use Rattle.xk_types.specs.declared.unit.ParamKind.{ParamKind}
use Rattle.xk_types.specs.declared.unit.ParamKind.TheVariants as param
use Rattle.xk_tree.specs.declared.tree.Number.{Number}
use Rattle.xk_tree.specs.declared.tree.Binding.{Binding}
use Rattle.xk_tree.specs.declared.tree.Binding.TheVariants as binding
use Rattle.xk_tree.specs.Tree.{Word, word, Clocks, Expression, Named, Source, Make, Value, Bound, UpTo, Least, Statement, Statements}
use Rattle.xk_tree.specs.Tree.{Done, More, Block, Declare, Assign, If, IfElse, For, Async, Finish, Resume, AdvanceAll, ParamValue}
use Rattle.xk_tree.specs.Tree.{MethodValue, SharedValue, TreeValue, has_turns}
use Rattle.xk_hints.specs.declared.deeds.Deed.TheVariants as deed
use Rattle.xk_hints.specs.declared.remark.Matter.{Matter}
use Rattle.xk_hints.specs.declared.remark.Matter.TheVariants as matter
use Rattle.xk_hints.specs.declared.remark.Place as place
use Rattle.xk_hints.specs.declared.remark.Remark.{Remark}
use Rattle.xk_hints.specs.Accesses.{surely_turns}
use Rattle.xk_hints.specs.Deeds.{advance_first, does, is_named, some_among, some_of_methods, makes_clock, make_clock}
use Rattle.xk_hints.specs.Meetings.{MeetingValue, all_meetings, first_in}
use Rattle.xk_hints.specs.SharedNumbers.{is_shared_number, is_written_back, left_by}

-- what is so, and of which name, or at which place
pub record RemarkValue : Type 0 where
  pub matter : Matter
  pub name : Word

abbrev pub remark_value : Remark → RemarkValue
remark_value r = record { matter = r.matter; name = word r.name }

abbrev pub remarks_here : List Remark → List RemarkValue
remarks_here rs = map remark_value rs

abbrev pub on : Matter → Word → RemarkValue
on m x = record { matter = m; name = x }

-- at a place without a name
abbrev pub here : Matter → ℕ → RemarkValue
here m at = on m (record { at = at; text = [] })

abbrev pub when : Bool → RemarkValue → List RemarkValue
when b r = if b then r ∷ [] else []

-- ---- names

-- of a number, by whether it is used, and whether it is written behind its declaration
abbrev pub number_remarks : Word → Bool → Bool → List RemarkValue
number_remarks x true written = []
number_remarks x false true = on matter.Unread x ∷ []
number_remarks x false false = on matter.Unused x ∷ []

-- of a clock that nobody is on but its maker
abbrev pub unjoined : Binding → Word → RemarkValue
unjoined binding.Hidden x = here matter.UnjoinedFinish x.at
unjoined binding.Val x = on matter.Unjoined x
unjoined binding.Var x = on matter.Unjoined x

-- of what is declared before these statements, which are all that see it
abbrev pub declared_remarks : Binding → Word → Source → Statements → List RemarkValue
declared_remarks b x (Make at v) ss = when (not (some_among (does deed.Give x.text) ss)) (unjoined b x)
declared_remarks b x (Value e) ss = number_remarks x (some_among (does deed.Use x.text) ss) (some_among (does deed.Write x.text) ss)

-- ---- places

-- what is known of the activity at a place
pub record PlaceValue : Type 0 where
  -- it is given no clock, and makes none, neither before nor behind the place
  pub is_clockless : Bool
  -- it is on the clock of the `clocked finish` that encloses the place most closely, and so are others
  pub is_shared : Bool
  -- each turn of a loop comes to the place, and the loop has two or more
  pub is_turned : Bool
  -- each of two or more activities, which the turns of a loop started without clocks, comes to the place
  pub is_many : Bool

abbrev pub place_value : place.Place → PlaceValue
place_value p = record { is_clockless = p.is_clockless; is_shared = p.is_shared; is_turned = p.is_turned; is_many = p.is_many }

-- a loop with these bounds has more than one turn, whatever an expression comes to
abbrev pub turns_again : Number → Bound → Bool
turns_again lo (UpTo n) = int_lt lo.value n.value
turns_again lo (Least x v e n) = false

-- in a loop with these bounds
abbrev pub in_loop : PlaceValue → Number → Bound → PlaceValue
in_loop p lo b =
    record { is_clockless = p.is_clockless; is_shared = p.is_shared; is_turned = turns_again lo b; is_many = p.is_many && surely_turns lo b }

-- in a branch, which not all come to
abbrev pub in_branch : PlaceValue → PlaceValue
in_branch p = record { is_clockless = p.is_clockless; is_shared = p.is_shared; is_turned = false; is_many = false }

-- In the body of an `async` with these clocks. Without clocks, nobody but a finish waits for an activity: so those of all turns can be
-- in the midst of it at once, unless there is a finish in the loop around it.
abbrev pub in_body : PlaceValue → Option Clocks → Statement → PlaceValue
in_body p cs s =
    record {
      is_clockless = is_none cs && not (makes_clock s);
      is_shared = false;
      is_turned = false;
      is_many = is_none cs && (p.is_turned || p.is_many);
    }

-- in a finish
abbrev pub in_finish : PlaceValue → PlaceValue
in_finish p = record { is_clockless = p.is_clockless; is_shared = false; is_turned = false; is_many = p.is_many }

-- Behind what is declared, before these statements. The clock of a `clocked finish` is declared at its head.
abbrev pub behind_declared : PlaceValue → Binding → List ℕ → Statements → PlaceValue
behind_declared p binding.Hidden x ss =
    record { is_clockless = p.is_clockless; is_shared = some_among (does deed.Give x) ss; is_turned = p.is_turned; is_many = p.is_many }
behind_declared p binding.Val x ss = p
behind_declared p binding.Var x ss = p

-- behind a statement
abbrev pub behind : PlaceValue → Statement → Statements → PlaceValue
behind p (Declare b x ty r) ss = behind_declared p b x.text ss
behind p _ ss = p

-- ---- shared numbers that are read

-- Of a shared number x that is read into t, before these statements; the names that are left are written in activities that were started
-- before and that nothing has waited for.
abbrev pub shared_read_remarks : PlaceValue → List Word → Word → Word → Statements → List RemarkValue
shared_read_remarks p left t x ss =
    when (list_any (is_named x.text) left) (on matter.Unawaited x)
    ++ when (p.is_many && is_written_back x.text t.text ss) (on matter.Overwritten x)

-- of a name that is read
abbrev pub name_read_remarks : PlaceValue → List SharedValue → List Word → Word → Word → Statements → List RemarkValue
name_read_remarks p shared left t x ss = if is_shared_number shared x.text then shared_read_remarks p left t x ss else []

-- of an expression: a shared number is read alone
abbrev pub read_remarks : PlaceValue → List SharedValue → List Word → Word → Expression → Statements → List RemarkValue
read_remarks p shared left t (Named x) ss = name_read_remarks p shared left t x ss
read_remarks p shared left t _ ss = []

-- of what is behind the `=` of a declaration
abbrev pub source_remarks : PlaceValue → List SharedValue → List Word → Word → Source → Statements → List RemarkValue
source_remarks p shared left t (Make at v) ss = []
source_remarks p shared left t (Value e) ss = read_remarks p shared left t e ss

-- ---- statements

abbrev mutual
  -- Of a statement, and of those that it holds, in the order of the text; these stand behind it. For an activity that is started nothing
  -- is left by itself yet, and of what others have left it isn't told.
  pub remarks_in : PlaceValue → List SharedValue → List Word → Statement → Statements → List RemarkValue
  remarks_in p shared left (Declare b x ty r) ss = declared_remarks b x r ss ++ source_remarks p shared left x r ss
  remarks_in p shared left (Assign x e) ss = read_remarks p shared left x e ss
  remarks_in p shared left (Block close inner) ss = remarks_among p shared left inner
  remarks_in p shared left (If at l c r s) ss = remarks_in (in_branch p) shared left s Done
  remarks_in p shared left (IfElse at l c r s t) ss =
      remarks_in (in_branch p) shared left s Done ++ remarks_in (in_branch p) shared left t Done
  remarks_in p shared left (For at i lo b s) ss =
      when (not (has_turns lo b)) (here matter.Turnless at) ++ remarks_in (in_loop p lo b) shared left s Done
  remarks_in p shared left (Async at cs s) ss =
      when (p.is_shared && is_none cs) (here matter.Beside at) ++ remarks_in (in_body p cs s) shared [] s Done
  remarks_in p shared left (Finish at s) ss = remarks_in (in_finish p) shared left s Done
  remarks_in p shared left (Resume c v) ss = when (advance_first ss) (on matter.Resumed c)
  remarks_in p shared left (AdvanceAll at v) ss = when p.is_clockless (here matter.Clockless at)
  remarks_in p shared left _ ss = []

  pub remarks_among : PlaceValue → List SharedValue → List Word → Statements → List RemarkValue
  remarks_among p shared left Done = []
  remarks_among p shared left (More s ss) =
      remarks_in p shared left s ss ++ remarks_among (behind p s ss) shared (left ++ left_by s) ss

-- ---- programs

abbrev pub is_main : MethodValue → Bool
is_main m = bytes_eq m.name.text (codes "main")

-- where a method begins: other methods run by whichever activity calls them
abbrev pub in_method : MethodValue → PlaceValue
in_method m = record { is_clockless = is_main m && not (make_clock m.body); is_shared = false; is_turned = false; is_many = false }

-- A parameter of the kind is used, too, by who waits at all clocks of the activity.
abbrev pub is_waited_at : ParamKind → MethodValue → Bool
is_waited_at param.Number m = false
is_waited_at param.Clock m = some_among (does deed.Wait []) m.body

abbrev pub is_used : MethodValue → ParamValue → Bool
is_used m p = some_among (does deed.Use p.name.text) m.body || is_waited_at p.takes.kind m

abbrev pub param_remarks : MethodValue → ParamValue → List RemarkValue
param_remarks m p = when (not (is_used m p)) (on matter.Unused p.name)

-- of a method, where these are all shared numbers and methods
unfoldable pub method_remarks : List SharedValue → List MethodValue → MethodValue → List RemarkValue
method_remarks ss ms m =
    when (not (is_main m) && not (some_of_methods (does deed.Call m.name.text) ms)) (on matter.Uncalled m.name)
    ++ (flat_map (param_remarks m) m.params ++ remarks_among (in_method m) ss [] m.body)

-- Of a shared number, by whether some method reads it, and whether some method writes it. One that begins otherwise than with 0, and is
-- never written, is a constant.
abbrev pub shared_number_remarks : SharedValue → Bool → Bool → List RemarkValue
shared_number_remarks s true true = []
shared_number_remarks s true false = when (int_eq s.start.value (pos 0)) (on matter.Unwritten s.name)
shared_number_remarks s false written = number_remarks s.name false written

unfoldable pub shared_remarks : List MethodValue → SharedValue → List RemarkValue
shared_remarks ms s =
    shared_number_remarks s (some_of_methods (does deed.Use s.name.text) ms) (some_of_methods (does deed.Write s.name.text) ms)

-- of a number in which two activities meet
abbrev pub meeting_remark : MeetingValue → RemarkValue
meeting_remark m = on (matter.Unordered m.here.act m.there) m.here.name

-- how many stand before the first one that is further on in the text than this place
abbrev pub place_among : ℕ → List Remark → ℕ
place_among at rs = prefix_len (λ r. not (nat_lt at r.name.at)) rs

-- among remarks, before the first one that is further on
abbrev pub placed : RemarkValue → List RemarkValue → List RemarkValue
placed r [] = r ∷ []
placed r (q ∷ rs) = if nat_lt r.name.at q.name.at then r ∷ (q ∷ rs) else q ∷ placed r rs

abbrev pub all_placed : List MeetingValue → List RemarkValue → List RemarkValue
all_placed [] rs = rs
all_placed (m ∷ ms) rs = all_placed ms (placed (meeting_remark m) rs)

-- of shared numbers and methods, in the order of the text; of each shared number the first meeting is told
abbrev pub all_remarks : List SharedValue → List MethodValue → List RemarkValue
all_remarks ss ms =
    all_placed (flat_map (first_in (all_meetings ms)) ss) (flat_map (shared_remarks ms) ss ++ flat_map (method_remarks ss ms) ms)

-- a method ends behind so many bytes: each name is looked for in all that sees it, and a text that people write is shorter
abbrev pub ends_late : MethodValue → Bool
ends_late m = nat_lt 65_536 m.close

-- of a tree
abbrev pub remarks : TreeValue → List RemarkValue
remarks t = if list_any ends_late t.methods then [] else all_remarks t.shared t.methods
