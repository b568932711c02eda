-- What a step makes of an activity's registrations, and which calls of the clocks it takes.
use Rattle.std.specs.Prelude.{◌≡◌, ℕ, ◌+◌, ◌<◌, ◌≤◌, ◌^◌, ◌==◌, ◌&&◌, is_none, Bool, true, false, not, List, [], ◌∷◌, ◌++◌, map, filter, length, Option, Some, None, slice_get, slice_index_or, slice_set, if◌then◌else◌, All}
use Rattle.std.specs.Option.{option_to_list}
use Rattle.xk_types.specs.declared.world.Value.{Value}
use Rattle.xk_types.specs.declared.world.Value.TheVariants as value
use Rattle.xk_types.specs.World.{Clock}
use Rattle.xk_types.specs.Step.{is_pending, is_signalled}
use Rattle.xk_collections.specs.NumberSets.{numbers_from, SetValue}
use Rattle.xk_clocks.specs.Table.{CountValue, TableValue, new_count, is_ready_count, count_settled, one_if, count_at, count_resumed, count_dropped, count_registered}
use Rattle.xk_registrations.specs.declared.affected_clocks.Which.{Which}
use Rattle.xk_registrations.specs.declared.affected_clocks.Which.TheVariants as which
use Rattle.xk_registrations.specs.View.{Registration, standing_at, reg_on, told, IsKept}

-- ---- registrations

-- the clock is one of those that a step concerns
abbrev pub concerns : Which → ℕ → Bool
concerns which.All k = true
concerns (which.Only c) k = k == c

-- it hasn't been resumed since the last pass
abbrev pub is_open : Registration → Bool
is_open r = is_none r.resumed

-- those that pass the test
abbrev pub regs_where : (Registration → Bool) → List Registration → List Registration
regs_where test [] = []
regs_where test (r ∷ rs) = if test r then r ∷ regs_where test rs else regs_where test rs

-- those on clocks that pass the test
abbrev pub regs_on : (ℕ → Bool) → List Registration → List Registration
regs_on test rs = regs_where (λ r. test r.clock) rs

-- the open ones among these
abbrev pub regs_open : (ℕ → Bool) → List Registration → List Registration
regs_open test rs = regs_where (λ r. test r.clock && is_open r) rs

-- each with another mark, by its clock and the mark that it had
abbrev pub marked : (ℕ → Option ℕ → Option ℕ) → List Registration → List Registration
marked f rs = map (λ r. record { clock = r.clock; resumed = f r.clock r.resumed }) rs

-- resumed in this phase, unless it was before
abbrev pub mark_resumed : ℕ → Option ℕ → Option ℕ
mark_resumed p None = Some p
mark_resumed p (Some q) = Some q

-- after a resume of the clocks that pass the test, each in its present phase
abbrev pub regs_resumed : (ℕ → Bool) → (ℕ → ℕ) → List Registration → List Registration
regs_resumed test phases rs = marked (λ k m. if test k then mark_resumed (phases k) m else m) rs

-- after a pass
abbrev pub regs_passed : List Registration → List Registration
regs_passed rs = marked (λ k m. None) rs

-- the phases of the clocks
abbrev pub phase_at : List CountValue → ℕ → ℕ
phase_at cs k = (count_at cs k).phase

-- it reads as signalled in the present phase of its clock
abbrev pub is_signalled_in : List CountValue → Registration → Bool
is_signalled_in cs r = is_signalled (standing_at (phase_at cs r.clock) r.resumed)

-- those that a drop leaves, which are on other clocks
abbrev pub others : Which → List Registration → List Registration
others w rs = regs_on (λ k. not (concerns w k)) rs

-- what a new activity holds: its starter's registrations on the clocks that it is given, and no others
abbrev pub IsGiven : (ℕ → Bool) → List Registration → List Registration → Type 0
IsGiven given old new = (k : ℕ) → reg_on new k ≡ (if given k then reg_on old k else None)

-- what is held once the registration has been taken on that stands among these on the clock of the value, if it is new there
abbrev pub with_taken : List Registration → Value → List Registration → List Registration
with_taken from value.Unset rs = rs
with_taken from (value.Number n) rs = rs
with_taken from (value.Clock c) rs = if is_none (reg_on rs c) then rs ++ option_to_list (reg_on from c) else rs

-- ---- calls of the clocks, one for each of some registrations

-- the clocks in numbers, and in which step each advanced last
pub record ClocksValue : Type 0 where
  pub table : TableValue
  pub lasts : List ℕ

-- the clocks whose last advance was in the step of this number, rising; in step 0 those that haven't advanced
abbrev pub noted_in : List ℕ → ℕ → List ℕ
noted_in ls step = filter (λ k. slice_index_or ls k 0 == step) (numbers_from 0 (length ls))

-- The steps of the last advances are told of all clocks, and there is room for those of more; none is behind the newest, and the set has those
-- that advanced in that one.
pub record IsUpToDate (t : TableValue) (ls : List ℕ) (room newest : ℕ) (latest : SetValue) : Type 0 where
  pub lasts : length ls ≡ length t.clocks
  pub fits : length ls ≤ t.room
  pub few : t.room ≤ 262144
  pub room_for_lasts : t.room ≤ room
  pub room_for_latest : t.room ≤ latest.room
  pub newest_is : All (λ last. last ≤ newest) ls
  pub latest_is : latest.members ≡ noted_in ls newest

-- with one more clock, which its maker is registered on
abbrev pub made_clocks : ClocksValue → ClocksValue
made_clocks v = record { table = record v.table { clocks = v.table.clocks ++ new_count ∷ [] }; lasts = v.lasts ++ 0 ∷ [] }

-- the call for one that resumes
abbrev pub call_resume : Registration → CountValue → CountValue
call_resume r c = count_resumed c

-- for one that ends
abbrev pub call_drop : Registration → CountValue → CountValue
call_drop r c = count_dropped (is_pending (standing_at c.phase r.resumed)) c

-- for one that begins
abbrev pub call_register : Registration → CountValue → CountValue
call_register r c = count_registered (is_pending (standing_at c.phase r.resumed)) c

-- the numbers after a call for each, which changes those of its clock so, and the clock advances where it is ready
abbrev pub called : (Registration → CountValue → CountValue) → List Registration → List CountValue → List CountValue
called f [] cs = cs
called f (r ∷ rs) cs = called f rs (slice_set cs r.clock (count_settled (f r (count_at cs r.clock))))

-- the steps of the last advances after these calls, which were made in step `now`
abbrev pub noted : ℕ → (Registration → CountValue → CountValue) → List Registration → List CountValue → List ℕ → List ℕ
noted now f [] cs ls = ls
noted now f (r ∷ rs) cs ls =
    noted now f rs (slice_set cs r.clock (count_settled (f r (count_at cs r.clock))))
    (if is_ready_count (f r (count_at cs r.clock)) then slice_set ls r.clock now else ls)

-- both
abbrev pub calls : ℕ → (Registration → CountValue → CountValue) → List Registration → ClocksValue → ClocksValue
calls now f rs v = record {
  table = record v.table { clocks = called f rs v.table.clocks };
  lasts = noted now f rs v.table.clocks v.lasts;
}

-- ---- what these calls owe, each of its clock

abbrev pub OwesResume : Registration → CountValue → Type 0
OwesResume r c = (0 < c.pending) × (c.phase + 1 < 2 ^ 64)

abbrev pub OwesDrop : Registration → CountValue → Type 0
OwesDrop r c = (one_if (is_pending (standing_at c.phase r.resumed)) ≤ c.pending)
    × (is_pending (standing_at c.phase r.resumed) ≡ false → c.pending < c.registered) × (0 < c.registered) × (c.phase + 1 < 2 ^ 64)

abbrev pub OwesRegister : Registration → CountValue → Type 0
OwesRegister r c = (0 < c.pending) × (0 < c.registered) × (c.registered + 1 < 2 ^ 32)

-- the registration's clock exists, and what is owed of it holds
pub record Allows (owes : Registration → CountValue → Type 0) (cs : List CountValue) (r : Registration) : Type 0 where
  pub exists : r.clock < length cs
  pub owed : owes r (count_at cs r.clock)

-- so it is for each of these
abbrev pub AreAllowed : (Registration → CountValue → Type 0) → List CountValue → List Registration → Type 0
AreAllowed owes cs rs = (k : ℕ) (r : Registration) → reg_on rs k ≡ Some r → Allows owes cs r

-- and still, one call after the other
abbrev pub AreAllowedInTurn : (Registration → CountValue → Type 0) → (Registration → CountValue → CountValue) → List Registration → List CountValue → Type 0
AreAllowedInTurn owes f [] cs = Unit {0}
AreAllowedInTurn owes f (r ∷ rs) cs = Allows owes cs r × AreAllowedInTurn owes f rs (called f (r ∷ []) cs)

-- ---- a resume, one after the other

-- a registration, where its clock is resumed if it passes the test: an open one keeps the phase of its clock
abbrev pub reg_resumed : (ℕ → Bool) → Registration → List CountValue → Registration
reg_resumed test r cs = record { clock = r.clock; resumed = if test r.clock && is_open r then Some (phase_at cs r.clock) else r.resumed }

abbrev pub regs_resumed_in_turn : (ℕ → Bool) → List Registration → List CountValue → List Registration
regs_resumed_in_turn test [] cs = []
regs_resumed_in_turn test (r ∷ rs) cs = reg_resumed test r cs ∷ regs_resumed_in_turn test rs (called call_resume (regs_open test (r ∷ [])) cs)

-- ---- one activity's registrations, as the code keeps them

-- its registrations, and how many there is room for
pub record RegistrationsValue : Type 0 where
  pub room : ℕ
  pub list : List Registration

-- ---- what a step comes to

-- clocks in this state and activities with these registrations belong together, and tell of these clocks
abbrev pub AreToldAs : List Clock → ClocksValue → List (List Registration) → Type 0
AreToldAs clocks v acts = (told v.lasts acts v.table.clocks ≡ clocks) × IsKept v.lasts acts v.table.clocks

-- no clock is in its greatest phase
abbrev pub HavePhasesLeft : List CountValue → Type 0
HavePhasesLeft cs = (k : ℕ) (c : CountValue) → slice_get cs k ≡ Some c → c.phase + 1 < 2 ^ 64
