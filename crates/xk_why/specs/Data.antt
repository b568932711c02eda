-- What a step makes of numbers, by the instruction that it carries out, and of what: which slots and shared numbers an instruction reads
-- and writes, `xk_types` says in `Step.antt`. A slot is told with its frame: the activity, and how many frames wait for that one to return.
-- The slots of a frame are unset before they are written, so that what stands in one was written for this frame and for none that had its
-- place before. The turns of a loop, and which way is taken at an `unless`, rest on numbers too; that isn't told here: it isn't of their
-- making.
use Rattle.std.specs.Prelude.{ℕ, zero, suc, ◌+◌, ◌-◌, nat_eq, false, List, [], ◌∷◌, Option, Some, None, slice_get, if◌then◌else◌}
use Rattle.xk_types.specs.declared.instr.Instr.{Instr}
use Rattle.xk_types.specs.declared.instr.Instr.TheVariants as instr
use Rattle.xk_show_events.specs.declared.steps.RunStep.{RunStep}
use Rattle.xk_why.specs.declared.data.Spot.{Spot}
use Rattle.xk_why.specs.declared.flows.Flow.{Flow}
use Rattle.xk_why.specs.declared.flows.Location.{Location}
use Rattle.xk_why.specs.declared.flows.Location.TheVariants as location

abbrev pub slot : ℕ → ℕ → ℕ → Option Location
slot a depth s = Some (location.Slot (record { act = a; depth = depth; number = s }))

abbrev pub shared : ℕ → Option Location
shared s = Some (location.Shared s)

-- step s makes something anew of these
abbrev pub flow : RunStep → Option Location → Option Location → Option Location → Flow
flow s to first second = record { step = s; to = to; adds = false; first = first; second = second }

-- a slot of the frame in which the step was taken
abbrev pub own : Spot → ℕ → Option Location
own f s = slot f.step.act f.depth s

-- ---- by the form of an instruction

-- slot d becomes a number that comes of no other, of another one, of two
abbrev pub alone : Spot → ℕ → List Flow
alone f d = flow f.step (own f d) None None ∷ []

abbrev pub copied : Spot → ℕ → ℕ → List Flow
copied f d x = flow f.step (own f d) (own f x) None ∷ []

abbrev pub computed : Spot → ℕ → ℕ → ℕ → List Flow
computed f d x y = flow f.step (own f d) (own f x) (own f y) ∷ []

-- a loop with a limit has its first turn, or was passed over
abbrev pub begun : Spot → ℕ → List Flow
begun f k = if nat_eq f.place (f.step.place + 1) then alone f k else []

-- the slot of the loop that the instruction is the head of
abbrev pub loop_slot : Option Instr → Option ℕ
loop_slot (Some (instr.For k lo hi e)) = Some k
loop_slot (Some (instr.ForTo k lo x hi e)) = Some k
loop_slot _ = None

-- a turn ends: the loop's slot has its next number, or keeps the last one
abbrev pub counted : Spot → Option ℕ → List Flow
counted f None = []
counted f (Some k) = copied f k k

abbrev pub reading : Spot → ℕ → ℕ → List Flow
reading f d s = flow f.step (own f d) (shared s) None ∷ []

abbrev pub putting : Spot → ℕ → ℕ → List Flow
putting f s x = flow f.step (shared s) (own f x) None ∷ []

abbrev pub adding : Spot → ℕ → ℕ → List Flow
adding f s x = flow f.step (shared s) (shared s) (own f x) ∷ []

abbrev pub printing : Spot → ℕ → List Flow
printing f x = flow f.step None (own f x) None ∷ []

-- from slot i on, the slots of activity a's frame are given what these slots of another frame hold
abbrev pub handed_from : RunStep → ℕ → ℕ → ℕ → ℕ → List ℕ → List Flow
handed_from s a depth from i [] = []
handed_from s a depth from i (x ∷ xs) =
    flow s (slot a depth i) (slot s.act from x) None ∷ handed_from s a depth from (suc i) xs

-- the frame of a method is the present one behind its `call`
abbrev pub calling : Spot → List ℕ → List Flow
calling f args = handed_from f.step f.step.act f.depth (f.depth - 1) 0 args

-- an activity that is started takes the next number
abbrev pub starting : Spot → List ℕ → List Flow
starting f args = handed_from f.step f.step.activities 0 f.depth 0 args

-- ---- by the instruction

abbrev pub instr_flows : List Instr → Spot → Instr → List Flow
instr_flows code f (instr.Lit d n) = alone f d
instr_flows code f (instr.Copy d x) = copied f d x
instr_flows code f (instr.Add d x y) = computed f d x y
instr_flows code f (instr.Sub d x y) = computed f d x y
instr_flows code f (instr.Mul d x y) = computed f d x y
instr_flows code f (instr.For k lo hi e) = alone f k
instr_flows code f (instr.ForTo k lo x hi e) = begun f k
instr_flows code f (instr.Next b) = counted f (loop_slot (slice_get code b))
instr_flows code f (instr.Get d s) = reading f d s
instr_flows code f (instr.Put s x) = putting f s x
instr_flows code f (instr.AddTo s x) = adding f s x
instr_flows code f (instr.Print x) = printing f x
instr_flows code f (instr.Call t args) = calling f args
instr_flows code f (instr.Spawn t args) = starting f args
instr_flows code f _ = []

-- of the instruction, if there is one
abbrev pub instr_flows_if : List Instr → Spot → Option Instr → List Flow
instr_flows_if code f None = []
instr_flows_if code f (Some i) = instr_flows code f i
