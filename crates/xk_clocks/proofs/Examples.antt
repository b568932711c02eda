-- Worked rows: the numbers of small clocks, by evaluation.
use Rattle.std.proofs.Common.{◌≡◌, true, false, [], ◌∷◌, refl}
use Rattle.xk_types.specs.declared.world.Standing.TheVariants as standing
use Rattle.xk_types.specs.Step.{is_pending, is_registered}
use Rattle.xk_clocks.specs.Table.{new_count, count_settled, count_registered, count_resumed, count_dropped}
use Rattle.xk_clocks.specs.StandingCounts.{tally}

-- four standings: three are registered, two of them pending
three_registered : tally is_registered (standing.Open ∷ standing.Apart ∷ standing.Ahead ∷ standing.Signalled ∷ []) ≡ 3
three_registered = refl

two_pending : tally is_pending (standing.Open ∷ standing.Apart ∷ standing.Ahead ∷ standing.Signalled ∷ []) ≡ 2
two_pending = refl

-- the maker alone resumes: the clock advances, and its maker is pending again
alone : count_settled (count_resumed new_count) ≡ record { phase = 1; registered = 1; pending = 1 }
alone = refl

-- one of two resumes: nothing advances
one_of_two : count_settled (count_resumed (count_registered true new_count)) ≡ record { phase = 0; registered = 2; pending = 1 }
one_of_two = refl

-- the other one, which is open, drops the clock: all are signalled now, and it advances
the_other_drops : count_settled (count_dropped true (record { phase = 0; registered = 2; pending = 1 })) ≡ record { phase = 1; registered = 1; pending = 1 }
the_other_drops = refl

-- the signalled one drops it instead: the open one keeps it back
the_signalled_drops : count_settled (count_dropped false (record { phase = 0; registered = 2; pending = 1 })) ≡ record { phase = 0; registered = 1; pending = 1 }
the_signalled_drops = refl

-- nobody is left: a clock that nobody is registered on doesn't advance
nobody_left : count_settled (count_dropped true new_count) ≡ record { phase = 0; registered = 0; pending = 0 }
nobody_left = refl
