-- Shared numbers in which two activities meet that were started one after the other, with no wait between: the schedule alone orders what
-- they do before they may wait. This project's own.
use Rattle.std.specs.Prelude.{Bool, ◌&&◌, List, [], ◌∷◌, ◌++◌, map, flat_map}
use Rattle.std.specs.Prelude.{if◌then◌else◌}
use Rattle.xk_tree.specs.Tree.{Statement, Statements, Done, More, Block, If, IfElse, For, Async, Finish, MethodValue, SharedValue}
use Rattle.xk_hints.specs.declared.access.Act.{Act}
use Rattle.xk_hints.specs.declared.meeting.Meeting.{Meeting}
use Rattle.xk_hints.specs.Accesses.{AccessValue, access_value, is_order_seen, may_wait, surely_turns, own_accesses, first_accesses}
use Rattle.xk_hints.specs.Deeds.{is_named}

-- what one activity does, and what the other one does with that number
pub record MeetingValue : Type 0 where
  pub here : AccessValue
  pub there : Act

abbrev pub meeting_value : Meeting → MeetingValue
meeting_value m = record { here = access_value m.here; there = m.there }

abbrev pub meetings_here : List Meeting → List MeetingValue
meetings_here ms = map meeting_value ms

abbrev pub do_meet : AccessValue → AccessValue → Bool
do_meet a b = is_named a.name.text b.name && is_order_seen a.act b.act

-- with the first of these that meets it
abbrev pub met : List AccessValue → AccessValue → List MeetingValue
met [] a = []
met (b ∷ bs) a = if do_meet a b then record { here = a; there = b.act } ∷ [] else met bs a

-- what the activity does first that the statement starts
abbrev pub started_by : Statement → List AccessValue
started_by (Async at cs s) = first_accesses s
started_by _ = []

-- what still counts behind a statement: nothing, if its activity may have waited there
abbrev pub behind_wait : Statement → List AccessValue → List AccessValue
behind_wait s done = if may_wait s then [] else done

abbrev mutual
  -- Those in a statement. The first are done by activities that were started before the one that runs the statement: nothing has waited
  -- since, neither who started them nor this one. The second are done by those that this one has started before, in the same block.
  pub meetings_in : List AccessValue → List AccessValue → Statement → List MeetingValue
  meetings_in beside started (Block close ss) = meetings_among beside [] ss
  meetings_in beside started (If at l c r s) = meetings_in [] [] s
  meetings_in beside started (IfElse at l c r s t) = meetings_in [] [] s ++ meetings_in [] [] t
  meetings_in beside started (For at i lo b s) = meetings_in (if surely_turns lo b then beside else []) [] s
  meetings_in beside started (Async at cs s) = meetings_in started [] s
  meetings_in beside started (Finish at s) = meetings_in beside [] s
  meetings_in beside started s = flat_map (met beside) (own_accesses s)

  pub meetings_among : List AccessValue → List AccessValue → Statements → List MeetingValue
  meetings_among beside started Done = []
  meetings_among beside started (More s ss) =
      meetings_in beside started s ++ meetings_among (behind_wait s beside) (behind_wait s started ++ started_by s) ss

-- in a method, in the order of the text
unfoldable pub method_meetings : MethodValue → List MeetingValue
method_meetings m = meetings_among [] [] m.body

abbrev pub all_meetings : List MethodValue → List MeetingValue
all_meetings ms = flat_map method_meetings ms

-- the first one in the number
abbrev pub first_in : List MeetingValue → SharedValue → List MeetingValue
first_in [] s = []
first_in (m ∷ ms) s = if is_named s.name.text m.here.name then m ∷ [] else first_in ms s
