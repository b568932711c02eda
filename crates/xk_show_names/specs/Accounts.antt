-- What the steps of a run were about: which clock or shared number, and what that number was before the step and behind it. What a step
-- does, `xk_types` says in `Step.antt`; that it is told so is this project's own.
use Rattle.std.specs.Prelude.{ℕ, ℤ, Bool, true, false, ◌==◌, ◌&&◌, List, [], ◌∷◌, length, Option, Some, None, option_and_then, slice_get}
use Rattle.std.specs.Prelude.{if◌then◌else◌}
use Rattle.xk_types.specs.declared.instr.Instr.{Instr}
use Rattle.xk_types.specs.declared.instr.Instr.TheVariants as instr
use Rattle.xk_types.specs.declared.world.Entry.{Entry}
use Rattle.xk_types.specs.declared.world.Event.{Event}
use Rattle.xk_types.specs.declared.world.Event.TheVariants as event
use Rattle.xk_types.specs.declared.world.Value.{Value}
use Rattle.xk_types.specs.declared.world.Value.TheVariants as value
use Rattle.xk_types.specs.Code.{ModuleValue}
use Rattle.xk_types.specs.World.{World}
use Rattle.xk_types.specs.Schedule.{is_local}
use Rattle.xk_core.specs.Core.{next_instruction}
use Rattle.xk_activity.specs.Activities.{act_at}
use Rattle.xk_show_names.specs.declared.accounts.Account.{Account}
use Rattle.xk_show_names.specs.declared.accounts.Subject.{Subject}
use Rattle.xk_show_names.specs.declared.accounts.Subject.TheVariants as subject
use Rattle.xk_show_events.specs.Steps.{Teller, run_step, told_of_run}

-- ---- what a step is about

-- the instruction at a place of a unit
abbrev pub instr_in : ModuleValue → ℕ → ℕ → Option Instr
instr_in m unit place = option_and_then (λ u. slice_get u.code place) (slice_get m.units unit)

-- the clock that a slot holds
abbrev pub held_in : Option Value → Subject
held_in (Some (value.Clock c)) = subject.Clock c
held_in _ = subject.Nothing

-- by the instruction that is carried out, in a frame with these slots
abbrev pub subject_at : World → List Value → Option Instr → Subject
subject_at w slots (Some (instr.Get d s)) = subject.Shared s
subject_at w slots (Some (instr.Put s x)) = subject.Shared s
subject_at w slots (Some (instr.AddTo s x)) = subject.Shared s
subject_at w slots (Some (instr.Make k)) = subject.Clock (length w.clocks)
subject_at w slots (Some (instr.Resume k)) = held_in (slice_get slots k)
subject_at w slots (Some (instr.Drop k)) = held_in (slice_get slots k)
subject_at w slots _ = subject.Nothing

-- what the next step of activity a is about; a pass is about nothing that has a name
abbrev pub subject_of : ModuleValue → World → ℕ → Subject
subject_of m w a = subject_at w (act_at w.activities a).frame.slots (next_instruction m w a)

-- what the shared number is in a world, if it is one
abbrev pub value_of : World → Subject → Option ℤ
value_of w (subject.Shared s) = slice_get w.cells s
value_of w _ = None

-- ---- steps, and what they were about

-- a step of activity a from world w to world v
abbrev pub account : ModuleValue → ℕ → World → World → Event → Account
account m a w v e = record {
  step = run_step a w v e;
  subject = subject_of m w a;
  before = value_of w (subject_of m w a);
  after = value_of v (subject_of m w a);
}

-- who tells of a step by the world that it led to, and by what it was about
abbrev pub recounted_by : {X : Type 0} → ModuleValue → (World → Account → List X) → Teller X
recounted_by m recount a w v e = recount v (account m a w v e)

-- the step, if other activities can see it
abbrev pub account_if_seen : Account → List Account
account_if_seen a = if is_local a.step.event then [] else a ∷ []

abbrev pub tell_seen_accounts : ModuleValue → Teller Account
tell_seen_accounts m = recounted_by m (λ v a. account_if_seen a)

-- the steps of a run that other activities can see, and what they were about
abbrev pub seen_accounts : ModuleValue → List ℤ → List Entry → List Account
seen_accounts m args log = told_of_run (tell_seen_accounts m) m args log

-- ---- whose write is read

-- it changed a shared number
abbrev pub puts : Event → Bool
puts event.Put = true
puts event.Added = true
puts _ = false

-- this one
abbrev pub is_shared : ℕ → Subject → Bool
is_shared s (subject.Shared t) = t == s
is_shared s _ = false

abbrev pub writes : ℕ → Account → Bool
writes s a = puts a.step.event && is_shared s a.subject

-- which of these steps wrote or added to shared number s last, where step n did before them: 0 is the opening, which is no step
abbrev pub writer : ℕ → ℕ → List Account → ℕ
writer s n [] = n
writer s n (a ∷ steps) = writer s (if writes s a then a.step.number else n) steps

-- which of these steps wrote last what a step is about
abbrev pub writer_for : List Account → Subject → ℕ
writer_for steps (subject.Shared s) = writer s 0 steps
writer_for steps _ = 0
