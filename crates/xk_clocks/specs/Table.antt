-- Clocks in numbers: how often each has advanced, how many activities are registered on it, and how many of these keep it back.
--
-- X10 Language Specification 2.4, chapter Clocks, its beginning: a clock advances when every activity registered on it has resumed it. Since
-- whoever is registered was pending or signalled, it is enough to count both: all are signalled where somebody is registered and nobody is
-- pending. `Standings` says what these numbers count. That they are kept is this project's own.
use Rattle.std.specs.Prelude.{ℕ, ◌+◌, ◌-◌, ◌==◌, Bool, not, ◌&&◌, List, slice_set, slice_index_or, if◌then◌else◌}

-- a clock: its phase, how many are registered on it, and how many of these are open or ahead
pub record CountValue : Type 0 where
  pub phase : ℕ
  pub registered : ℕ
  pub pending : ℕ

-- how many clocks may be made, and those that were, in the order of their making
pub record TableValue : Type 0 where
  pub room : ℕ
  pub clocks : List CountValue

-- ---- when a clock advances

-- somebody is registered, and nobody keeps the clock back
abbrev pub is_ready_count : CountValue → Bool
is_ready_count c = not (c.registered == 0) && (c.pending == 0)

-- into the next phase, in which all who are registered are pending again
abbrev pub count_advanced : CountValue → CountValue
count_advanced c = record { phase = c.phase + 1; registered = c.registered; pending = c.registered }

-- the clock at the end of a step
abbrev pub count_settled : CountValue → CountValue
count_settled c = if is_ready_count c then count_advanced c else c

-- ---- what happens to a clock before the end of a step

-- a clock that was just made: its maker is registered on it, and open
abbrev pub new_count : CountValue
new_count = record { phase = 0; registered = 1; pending = 1 }

-- 1 for what is so, 0 for what isn't
abbrev pub one_if : Bool → ℕ
one_if b = if b then 1 else 0

-- one registration more, pending or not
abbrev pub count_registered : Bool → CountValue → CountValue
count_registered pending c = record c { registered = c.registered + 1; pending = c.pending + one_if pending }

-- somebody who was open has resumed
abbrev pub count_resumed : CountValue → CountValue
count_resumed c = record c { pending = c.pending - 1 }

-- one registration less, which was pending or not
abbrev pub count_dropped : Bool → CountValue → CountValue
count_dropped pending c = record c { registered = c.registered - 1; pending = c.pending - one_if pending }

-- ---- clocks by their numbers

-- the clock of this number; on one that isn't there nobody is registered
abbrev pub count_at : List CountValue → ℕ → CountValue
count_at cs k = slice_index_or cs k (record { phase = 0; registered = 0; pending = 0 })

-- clock k changes, and nothing else
abbrev pub changed_at : TableValue → ℕ → (CountValue → CountValue) → TableValue
changed_at t k change = record t { clocks = slice_set t.clocks k (change (count_at t.clocks k)) }
