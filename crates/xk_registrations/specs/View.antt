-- The clocks of the definitions, told from the numbers of each clock and from the registrations that each activity keeps.
--
-- A registration keeps the phase in which it was resumed, if it was since its activity's last pass. While the clock is still in that phase the
-- activity is signalled on it; once the clock has advanced, it is ahead. So an advance changes no registration.
use Rattle.std.specs.Prelude.{◌≡◌, ℕ, suc, ◌+◌, ◌-◌, ◌<◌, ◌≤◌, ◌==◌, false, List, [], ◌∷◌, map, length, Option, Some, None, slice_get, slice_index_or, if◌then◌else◌}
use Rattle.xk_types.specs.declared.world.Standing.{Standing}
use Rattle.xk_types.specs.declared.world.Standing.TheVariants as standing
use Rattle.xk_types.specs.World.{Clock}
use Rattle.xk_types.specs.Step.{is_pending, is_registered, advanced}
use Rattle.xk_clocks.specs.Table.{CountValue, is_ready_count, count_settled, one_if}
use Rattle.xk_clocks.specs.StandingCounts.{AreCounts}

-- that an activity is registered on a clock, and in which phase of the clock it resumed it, if it did since its last pass
pub record Registration : Type 0 where
  pub clock : ℕ
  pub resumed : Option ℕ

-- where its activity stands while the clock is in phase p
abbrev pub standing_at : ℕ → Option ℕ → Standing
standing_at p None = standing.Open
standing_at p (Some r) = if r == p then standing.Signalled else standing.Ahead

-- where an activity with these registrations stands on clock k, while that one is in phase p
abbrev pub stands : List Registration → ℕ → ℕ → Standing
stands [] k p = standing.Apart
stands (r ∷ rs) k p = if r.clock == k then standing_at p r.resumed else stands rs k p

-- where each activity does
abbrev pub row : List (List Registration) → ℕ → ℕ → List Standing
row acts k p = map (λ rs. stands rs k p) acts

-- the registration on clock k
abbrev pub reg_on : List Registration → ℕ → Option Registration
reg_on [] k = None
reg_on (r ∷ rs) k = if r.clock == k then Some r else reg_on rs k

-- no two on one clock
abbrev pub AreDistinct : List Registration → Type 0
AreDistinct [] = Unit {0}
AreDistinct (r ∷ rs) = (reg_on rs r.clock ≡ None) × AreDistinct rs

-- ---- the told clocks

-- clock k: its phase from its numbers, the step of its last advance, and a standing for each activity
abbrev pub told_clock : (ℕ → ℕ) → List (List Registration) → ℕ → CountValue → Clock
told_clock last acts k c = record { phase = c.phase; last = last k; standings = row acts k c.phase }

-- one of each, by number
abbrev pub told_by : (ℕ → CountValue → Clock) → List CountValue → List Clock
told_by f [] = []
told_by f (c ∷ cs) = f 0 c ∷ told_by (λ k. f (suc k)) cs

-- the clocks of the definitions, where the activities hold these registrations, in the order of their numbers
abbrev pub told : List ℕ → List (List Registration) → List CountValue → List Clock
told lasts acts cs = told_by (told_clock (λ k. slice_index_or lasts k 0) acts) cs

-- ---- what holds between two steps

-- the registrations of activity a
abbrev pub held : List (List Registration) → ℕ → List Registration
held acts a = slice_index_or acts a []

-- whatever later phase the clock comes to, who is signalled by these will read as ahead, and all others as they do now
abbrev pub WillAdvance : List Registration → ℕ → ℕ → Type 0
WillAdvance rs k p = (q : ℕ) → p < q → stands rs k q ≡ advanced (stands rs k p)

-- clock k, before those advance that are ready
pub record IsNear (acts : List (List Registration)) (k : ℕ) (c : CountValue) : Type 0 where
  pub counts : AreCounts (row acts k c.phase) c
  pub ahead : (a : ℕ) → WillAdvance (held acts a) k c.phase

-- clock k between two steps: its numbers are those of its standings, and it isn't ready
pub record IsFit (acts : List (List Registration)) (k : ℕ) (c : CountValue) : Type 0 where
  pub counts : AreCounts (row acts k c.phase) c
  pub ahead : (a : ℕ) → WillAdvance (held acts a) k c.phase
  pub kept : is_ready_count c ≡ false

-- each of them
abbrev pub AreFit : List (List Registration) → List CountValue → Type 0
AreFit acts cs = (k : ℕ) (c : CountValue) → slice_get cs k ≡ Some c → IsFit acts k c

-- an activity's registrations among n clocks: no two on one clock, and each on one that exists
pub record AreSound (n : ℕ) (rs : List Registration) : Type 0 where
  pub distinct : AreDistinct rs
  pub exist : (k : ℕ) → n ≤ k → reg_on rs k ≡ None

-- the numbers, the last advances and the registrations belong together
pub record IsKept (ls : List ℕ) (acts : List (List Registration)) (cs : List CountValue) : Type 0 where
  pub fit : AreFit acts cs
  pub lasts : length ls ≡ length cs
  pub sound : (a : ℕ) → AreSound (length cs) (held acts a)

-- ---- what a step changes, clock by clock

-- the numbers of a clock on which one standing s becomes t
abbrev pub count_moved : Standing → Standing → CountValue → CountValue
count_moved s t c = record {
  phase = c.phase;
  registered = c.registered + one_if (is_registered t) - one_if (is_registered s);
  pending = c.pending + one_if (is_pending t) - one_if (is_pending s);
}

-- the step of its last advance, at the end of step `now`
abbrev pub last_settled : ℕ → CountValue → ℕ → ℕ
last_settled now c last = if is_ready_count c then now else last

-- each clock's numbers, changed by its number
abbrev pub changed_by : (ℕ → CountValue → CountValue) → List CountValue → List CountValue
changed_by change [] = []
changed_by change (c ∷ cs) = change 0 c ∷ changed_by (λ k. change (suc k)) cs

-- clock k, while one activity's registrations become others, before it advances where it is ready
abbrev pub count_between : List Registration → List Registration → ℕ → CountValue → CountValue
count_between old new k c = count_moved (stands old k c.phase) (stands new k c.phase) c

-- and after that
abbrev pub count_after : List Registration → List Registration → ℕ → CountValue → CountValue
count_after old new k c = count_settled (count_between old new k c)

-- all of them
abbrev pub counts_after : List Registration → List Registration → List CountValue → List CountValue
counts_after old new cs = changed_by (count_after old new) cs
