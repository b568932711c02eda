-- What the verifier follows: the kind of one slot along walks through one unit's code.
--
-- A slot's kind says what it holds: nothing, a number, or the name of a clock on which the activity is registered and
-- open (live), registered and signalled or ahead (resumed), or registered no more (out). Kinds, table and walks are this
-- project's own.
use Rattle.std.specs.Prelude.{◌≡◌, ℕ, ◌+◌, ◌<◌, ◌==◌, nat_lt, Bool, true, false, not, ◌&&◌, length, List, [], ◌∷◌, Option, Some, None, option_map, option_and_then, slice_get, if◌then◌else◌}
use Rattle.xk_types.specs.declared.instr.Instr.{Instr}
use Rattle.xk_types.specs.declared.instr.Instr.TheVariants as instr
use Rattle.xk_types.specs.declared.unit.ParamKind.{ParamKind}
use Rattle.xk_types.specs.declared.unit.ParamKind.TheVariants as param
use Rattle.xk_types.specs.declared.rules.Rule.{Rule}
use Rattle.xk_types.specs.declared.rules.Rule.TheVariants as rule
use Rattle.xk_types.specs.declared.rules.Kind.{Kind}
use Rattle.xk_types.specs.declared.rules.Kind.TheVariants as kind
use Rattle.xk_types.specs.declared.rules.Visit.{Visit}
use Rattle.std.specs.List.{list_any}
use Rattle.xk_types.specs.Code.{UnitValue, ModuleValue, params_of, clock_arguments, is_method, Loop, loop_head}
use Rattle.xk_types.specs.Blocks.{block_at, homes, is_here}
use Rattle.xk_types.specs.Order.{Has}

-- what an instruction leaves of a kind: the kinds that it may be afterwards, or a refusal by a rule
pub data After : Type 0 where
  To : List Kind → After
  Refused : Rule → After

-- ---- what the rows of the table are made of

-- one kind
abbrev pub becomes : Kind → After
becomes k = To (k ∷ [])

-- read as a number: any other kind is refused
abbrev pub as_number : Kind → After → After
as_number kind.Unset go = Refused rule.Use
as_number kind.Number go = go
as_number kind.Live go = Refused rule.Use
as_number kind.Resumed go = Refused rule.Use
as_number kind.Out go = Refused rule.Use

-- used as a clock on which the activity is registered: any other kind is refused
abbrev pub as_clock : Kind → After → After
as_clock kind.Unset go = Refused rule.Use
as_clock kind.Number go = Refused rule.Use
as_clock kind.Live go = go
as_clock kind.Resumed go = go
as_clock kind.Out go = Refused rule.Use

-- overwritten: a clock on which the activity is still registered would be lost
abbrev pub overwritten : Kind → After → After
overwritten kind.Unset go = go
overwritten kind.Number go = go
overwritten kind.Live go = Refused rule.Leak
overwritten kind.Resumed go = Refused rule.Leak
overwritten kind.Out go = go

-- at the end of the block that made the clock: a clock on which the activity is still registered would keep back those for whom it waits
abbrev pub let_go : Kind → After → After
let_go kind.Unset go = go
let_go kind.Number go = go
let_go kind.Live go = Refused rule.Held
let_go kind.Resumed go = Refused rule.Held
let_go kind.Out go = go

-- after the pass of an `advance`
abbrev pub awake : Kind → Kind
awake kind.Unset = kind.Unset
awake kind.Number = kind.Number
awake kind.Live = kind.Live
awake kind.Resumed = kind.Live
awake kind.Out = kind.Out

-- the instruction reads slot x, the walk follows slot s
abbrev pub reads : ℕ → ℕ → Kind → After → After
reads x s k go = if s == x then as_number k go else go

-- it reads this slot, if there is one
abbrev pub may_read : Option ℕ → ℕ → Kind → After → After
may_read None s k go = go
may_read (Some x) s k go = reads x s k go

-- the slot of the loop, if there is one
abbrev pub loop_slot : Option Loop → Option ℕ
loop_slot o = option_map (λ l. l.slot) o

-- the slot that it goes no further up than, if it names one
abbrev pub loop_limit : Option Loop → Option ℕ
loop_limit o = option_and_then (λ l. l.limit) o

-- the end of a turn reads both
abbrev pub turns_round : Option Loop → ℕ → Kind → After → After
turns_round o s k go = may_read (loop_slot o) s k (may_read (loop_limit o) s k go)

-- it writes slot d, which then has the new kind
abbrev pub writes : ℕ → Kind → ℕ → Kind → After
writes d new s k = if s == d then overwritten k (becomes new) else becomes k

-- it uses the clock in slot c, which then has the new kind
abbrev pub uses : ℕ → Kind → ℕ → Kind → After
uses c new s k = if s == c then as_clock k (becomes new) else becomes k

-- it hands on the clock in slot c, which stays as it is
abbrev pub hands_on : ℕ → ℕ → Kind → After → After
hands_on c s k go = if s == c then as_clock k go else go

-- it gives arguments to parameters: each is read as a number, or handed on
abbrev pub gives : List ParamKind → List ℕ → ℕ → Kind → After → After
gives [] xs s k go = go
gives (p ∷ ps) [] s k go = go
gives (param.Number ∷ ps) (x ∷ xs) s k go = reads x s k (gives ps xs s k go)
gives (param.Clock ∷ ps) (x ∷ xs) s k go = hands_on x s k (gives ps xs s k go)

-- What a call leaves of a kind, by whether the slot is lent: the method may resume what it is lent, and wait for all clocks, so
-- that what was resumed is live again.
abbrev pub across : Bool → Kind → After
across lent kind.Unset = becomes kind.Unset
across lent kind.Number = becomes kind.Number
across false kind.Live = becomes kind.Live
across true kind.Live = To (kind.Live ∷ kind.Resumed ∷ [])
across lent kind.Resumed = To (kind.Live ∷ kind.Resumed ∷ [])
across lent kind.Out = becomes kind.Out

-- the slot is lent with these arguments
abbrev pub is_lent : List ParamKind → List ℕ → ℕ → Bool
is_lent ps xs s = list_any (λ x. x == s) (clock_arguments ps xs)

-- the slot is a method's own: its clock is lost when the method returns
abbrev pub is_own : UnitValue → ℕ → Bool
is_own u s = is_method u.kind && not (nat_lt s (length u.params))

-- ---- the table: what an instruction of unit u leaves of the kind k of slot s

-- what the instruction asks of the slot, and what it leaves there
abbrev pub after : ModuleValue → UnitValue → Instr → ℕ → Kind → After
after m u (instr.Lit d n) s k = writes d kind.Number s k
after m u (instr.Copy d x) s k = reads x s k (writes d kind.Number s k)
after m u (instr.Add d x y) s k = reads x s k (reads y s k (writes d kind.Number s k))
after m u (instr.Sub d x y) s k = reads x s k (reads y s k (writes d kind.Number s k))
after m u (instr.Mul d x y) s k = reads x s k (reads y s k (writes d kind.Number s k))
after m u (instr.Unless op x y t) s k = reads x s k (reads y s k (becomes k))
after m u (instr.Jump t) s k = becomes k
after m u (instr.For d lo hi e) s k = writes d kind.Number s k
after m u (instr.ForTo d lo x hi e) s k = reads x s k (writes d kind.Number s k)
after m u (instr.Next b) s k = turns_round (option_and_then (loop_head b) (slice_get u.code b)) s k (becomes k)
after m u (instr.Get d c) s k = writes d kind.Number s k
after m u (instr.Put c x) s k = reads x s k (becomes k)
after m u (instr.AddTo c x) s k = reads x s k (becomes k)
after m u (instr.Finish e) s k = becomes k
-- (the block that it ends is that of the place behind its `finish`)
after m u (instr.EndFinish b) s k = if is_here (block_at u (b + 1)) (homes u s) then let_go k (becomes k) else becomes k
after m u (instr.Print x) s k = reads x s k (becomes k)
after m u (instr.Make d) s k = writes d kind.Live s k
after m u (instr.Resume c) s k = uses c kind.Resumed s k
after m u (instr.Drop c) s k = uses c kind.Out s k
after m u instr.Advance s k = becomes (awake k)
after m u (instr.Call t args) s k = gives (params_of m t) args s k (across (is_lent (params_of m t) args s) k)
after m u (instr.Spawn t args) s k = gives (params_of m t) args s k (becomes k)
after m u instr.Ret s k = if is_own u s then overwritten k (becomes k) else becomes k

-- ---- edges

-- where an instruction at this place may lead
abbrev pub successors : Instr → ℕ → List ℕ
successors (instr.Unless op x y t) at = (at + 1) ∷ t ∷ []
successors (instr.Jump t) at = t ∷ []
successors (instr.ForTo k lo x hi e) at = (at + 1) ∷ (e + 1) ∷ []
successors (instr.Next b) at = (at + 1) ∷ (b + 1) ∷ []
successors instr.Ret at = []
successors _ at = (at + 1) ∷ []

-- where the instruction at a place may lead
abbrev pub places_after : Option Instr → ℕ → List ℕ
places_after None at = []
places_after (Some i) at = successors i at

-- what the instruction at a place leaves of a kind
abbrev pub row_of : ModuleValue → UnitValue → ℕ → Kind → Option Instr → After
row_of m u s k None = To []
row_of m u s k (Some i) = after m u i s k

-- the table's row for one stop of a walk
abbrev pub row : ModuleValue → UnitValue → ℕ → Visit → After
row m u s p = row_of m u s p.kind (slice_get u.code p.at)

-- the instruction, if it goes to this place, passes over what it would have begun
abbrev pub passes_over : Instr → ℕ → Bool
passes_over (instr.ForTo k lo x hi e) to = to == e + 1
passes_over _ to = false

-- the kind stays, where the row doesn't refuse it
abbrev pub stays : Kind → After → After
stays k (To ks) = becomes k
stays k (Refused r) = Refused r

-- What an instruction leaves of a kind on its way to a place: one that passes over a loop doesn't write the loop's slot.
abbrev pub after_to : ModuleValue → UnitValue → Instr → ℕ → ℕ → Kind → After
after_to m u i to s k = if passes_over i to then stays k (after m u i s k) else after m u i s k

-- the same for what stands at a place
abbrev pub way_of : ModuleValue → UnitValue → ℕ → ℕ → Kind → Option Instr → After
way_of m u to s k None = To []
way_of m u to s k (Some i) = after_to m u i to s k

-- the row leaves this kind, among others or alone
abbrev pub MayBecome : After → Kind → Type 0
MayBecome (To ks) k = Has ks k
MayBecome (Refused r) k = ⊥

-- a walk may go from p to q
pub record IsEdge (m : ModuleValue) (u : UnitValue) (s : ℕ) (p q : Visit) : Type 0 where
  pub place : Has (places_after (slice_get u.code p.at) p.at) q.at
  pub kind : MayBecome (way_of m u q.at s p.kind (slice_get u.code p.at)) q.kind

-- ---- walks

-- the kinds that a slot may have at first, by the parameter that it is
abbrev pub entry_of : Option ParamKind → List Kind
entry_of None = kind.Unset ∷ []
entry_of (Some param.Number) = kind.Number ∷ []
entry_of (Some param.Clock) = kind.Live ∷ kind.Resumed ∷ []

-- the kinds that a slot may have before the unit's first instruction
abbrev pub entry_kinds : UnitValue → ℕ → List Kind
entry_kinds u s = entry_of (slice_get u.params s)

-- each stop of the list is joined to the one before it by an edge, and the first of them to p
abbrev pub Continues : ModuleValue → UnitValue → ℕ → Visit → List Visit → Type 0
Continues m u s p [] = Unit {0}
Continues m u s p (q ∷ rest) = IsEdge m u s p q × Continues m u s q rest

-- the list begins at instruction 0 with an entry kind, and each stop is joined to the next by an edge
abbrev pub IsWalk : ModuleValue → UnitValue → ℕ → List Visit → Type 0
IsWalk m u s [] = ⊥
IsWalk m u s (p ∷ rest) = (p.at ≡ 0) × Has (entry_kinds u s) p.kind × Continues m u s p rest

-- the last stop of a list that begins with p
abbrev pub last_of : Visit → List Visit → Visit
last_of p [] = p
last_of p (q ∷ rest) = last_of q rest

-- the list ends with this stop
abbrev pub EndsAt : List Visit → Visit → Type 0
EndsAt [] q = ⊥
EndsAt (p ∷ rest) q = last_of p rest ≡ q

-- some walk of the slot ends there
abbrev pub IsVisited : ModuleValue → UnitValue → ℕ → Visit → Type 0
IsVisited m u s q = (walk : List Visit) × IsWalk m u s walk × EndsAt walk q

-- some walk of the slot ends where the table refuses to go on
pub record IsRefusedAt (m : ModuleValue) (unit s : ℕ) (q : Visit) (r : Rule) : Type 0 where
  pub u : UnitValue
  pub found : slice_get m.units unit ≡ Some u
  pub slot : s < u.slots
  pub visited : IsVisited m u s q
  pub refused : row m u s q ≡ Refused r
