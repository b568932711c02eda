-- For which ends a finish waits. X10 Language Specification 2.4, chapter Activities, Finish: a `finish` waits for the end of all activities
-- that its body started, and that these started in turn. So an activity is in all finishes in which its starter was when it started it, and
-- in those that it has open itself. That a finish is known by the number of the step that opened it is this project's own.
use Rattle.std.specs.Prelude.{ℕ, ◌-◌, List, [], ◌∷◌, ◌++◌, flat_map, length, take, Option, Some, None, slice_get, slice_index_or, slice_set}
use Rattle.xk_types.specs.declared.world.Event.{Event}
use Rattle.xk_types.specs.declared.world.Event.TheVariants as event
use Rattle.xk_show_events.specs.declared.steps.RunStep.{RunStep}
use Rattle.xk_why.specs.declared.flows.Flow.{Flow}
use Rattle.xk_why.specs.declared.flows.Location.{Location}
use Rattle.xk_why.specs.declared.flows.Location.TheVariants as location
use Rattle.xk_why.specs.Waits.{added, used}

-- ---- who is in which finishes

-- the finishes in which activity a is, the innermost last, where there is such a list of each activity
abbrev pub nest_of : List (List ℕ) → ℕ → List ℕ
nest_of nests a = slice_index_or nests a []

-- before the first step: main, in none
abbrev pub main_alone : List (List ℕ)
main_alone = [] ∷ []

-- activity a opens finish f
abbrev pub gone_in : List (List ℕ) → ℕ → ℕ → List (List ℕ)
gone_in nests a f = slice_set nests a (nest_of nests a ++ f ∷ [])

-- it closes the innermost one
abbrev pub gone_out : List (List ℕ) → ℕ → List (List ℕ)
gone_out nests a = slice_set nests a (take (length (nest_of nests a) - 1) (nest_of nests a))

-- it starts an activity, which takes the next number
abbrev pub joined_by : List (List ℕ) → ℕ → List (List ℕ)
joined_by nests a = nests ++ nest_of nests a ∷ []

-- behind step s
abbrev pub nests_after : RunStep → Event → List (List ℕ) → List (List ℕ)
nests_after s event.Opened nests = gone_in nests s.act s.number
nests_after s event.Closed nests = gone_out nests s.act
nests_after s event.Spawned nests = joined_by nests s.act
nests_after s _ nests = nests

-- ---- what steps make of that

-- the ends for which finish f waits
abbrev pub ends : ℕ → Option Location
ends f = Some (location.Ends f)

-- step s is one of them
abbrev pub ending : RunStep → ℕ → List Flow
ending s f = added s (ends f) ∷ []

-- step s waited for them
abbrev pub closing : RunStep → Option ℕ → List Flow
closing s None = []
closing s (Some f) = used s (ends f) ∷ []

-- all finishes in which an activity is wait for its end; the close of one, the innermost, waited for the ends in it
abbrev pub finish_flow : RunStep → Event → List ℕ → List Flow
finish_flow s event.Ended nest = flat_map (ending s) nest
finish_flow s event.Closed nest = closing s (slice_get nest (length nest - 1))
finish_flow s _ nest = []

-- of these steps, before which the activities are in these finishes
abbrev pub finish_flows : List (List ℕ) → List RunStep → List Flow
finish_flows nests [] = []
finish_flows nests (s ∷ ss) = finish_flow s s.event (nest_of nests s.act) ++ finish_flows (nests_after s s.event nests) ss
