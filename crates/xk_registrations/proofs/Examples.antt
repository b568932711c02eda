-- Worked rows: registrations and clocks in numbers, and what they tell of, by evaluation.
use Rattle.std.proofs.Common.{◌≡◌, List, [], ◌∷◌, Some, None, refl}
use Rattle.xk_types.specs.declared.world.Standing.TheVariants as standing
use Rattle.xk_types.specs.declared.world.Value.TheVariants as value
use Rattle.xk_clocks.specs.Table.{new_count}
use Rattle.xk_registrations.specs.declared.affected_clocks.Which.TheVariants as which
use Rattle.xk_registrations.specs.View.{Registration, told}
use Rattle.xk_registrations.specs.RegistrationChanges.{ClocksValue, concerns, calls, call_resume, call_drop, call_register, regs_open, regs_on, regs_resumed, regs_passed, phase_at, others, with_taken, made_clocks}

-- ---- two activities on one clock

abbrev open_on : List Registration
open_on = record { clock = 0; resumed = None } ∷ []

abbrev signalled_in_0 : List Registration
signalled_in_0 = record { clock = 0; resumed = Some 0 } ∷ []

-- the first is signalled in phase 0, the second open; step 4 is the last one in which the clock advanced, in words of the definitions none
told_one_signalled : told (0 ∷ []) (signalled_in_0 ∷ open_on ∷ []) (record { phase = 0; registered = 2; pending = 1 } ∷ [])
    ≡ record { phase = 0; last = 0; standings = standing.Signalled ∷ standing.Open ∷ [] } ∷ []
told_one_signalled = refl

-- the same registrations, where the clock has advanced in step 4: the first is ahead, and nothing was written to its registration
told_one_ahead : told (4 ∷ []) (signalled_in_0 ∷ open_on ∷ []) (record { phase = 1; registered = 2; pending = 2 } ∷ [])
    ≡ record { phase = 1; last = 4; standings = standing.Ahead ∷ standing.Open ∷ [] } ∷ []
told_one_ahead = refl

-- the second resumes in step 4: nobody is pending, and the clock advances
abbrev one_pending : ClocksValue
one_pending = record { table = record { room = 1; clocks = record { phase = 0; registered = 2; pending = 1 } ∷ [] }; lasts = 0 ∷ [] }

last_resume : calls 4 call_resume (regs_open (concerns which.All) open_on) one_pending
    ≡ record { table = record { room = 1; clocks = record { phase = 1; registered = 2; pending = 2 } ∷ [] }; lasts = 4 ∷ [] }
last_resume = refl

keeps_phase : regs_resumed (concerns which.All) (phase_at one_pending.table.clocks) open_on ≡ signalled_in_0
keeps_phase = refl

-- the first resumes again: it isn't open, so that no call is made
resume_again : regs_open (concerns which.All) signalled_in_0 ≡ []
resume_again = refl

-- a pass makes it open
pass_opens : regs_passed signalled_in_0 ≡ open_on
pass_opens = refl

-- the second drops the clock in step 4, and all who are left are signalled: it advances
last_drop : calls 4 call_drop (regs_on (concerns (which.Only 0)) open_on) one_pending
    ≡ record { table = record { room = 1; clocks = record { phase = 1; registered = 1; pending = 1 } ∷ [] }; lasts = 4 ∷ [] }
last_drop = refl

dropped_is_gone : others (which.Only 0) open_on ≡ []
dropped_is_gone = refl

other_clock_stays : others (which.Only 3) open_on ≡ open_on
other_clock_stays = refl

-- a new one begins as the signalled one: nothing advances, since the second keeps the clock back
signalled_start : calls 4 call_register signalled_in_0 one_pending
    ≡ record { table = record { room = 1; clocks = record { phase = 0; registered = 3; pending = 1 } ∷ [] }; lasts = 0 ∷ [] }
signalled_start = refl

-- ---- what is handed on

-- a number and an empty slot hand nothing on, nor does a clock on which the starter isn't registered
nothing_handed : with_taken open_on (value.Clock 7) (with_taken open_on value.Unset []) ≡ []
nothing_handed = refl

-- a clock that two values name is handed on once
handed_once : with_taken open_on (value.Clock 0) (with_taken open_on (value.Clock 0) []) ≡ open_on
handed_once = refl

-- ---- a new clock

made_second : made_clocks one_pending
    ≡ record { table = record { room = 1; clocks = record { phase = 0; registered = 2; pending = 1 } ∷ new_count ∷ [] }; lasts = 0 ∷ 0 ∷ [] }
made_second = refl
