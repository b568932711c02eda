-- Which deeds of a run happen before which: the least order with these. An activity's own deeds, in their order. A start comes before what the
-- started activity does (X10 Language Specification 2.4, chapter Activities, Spawning an activity). Where a clock advances, each step by which it
-- ceased to await an activity, as a resume, the first half of an `advance`, a drop, or an end, comes before the passes of that advance (chapter
-- Clocks, Advancing clocks); a drop or an end of one who has resumed it comes before the passes of the advance behind the next one. The end of an
-- activity comes before the close of the finish that it ends in (chapter Activities, Finish).
use Rattle.std.specs.Prelude.{◌≡◌, ℕ, ◌<◌, List, [], ◌∷◌, ◌⊎◌, take, Some, slice_get}
use Rattle.xk_races.specs.declared.deeds.Deed.{Deed}
use Rattle.xk_races.specs.declared.deeds.Part.TheVariants as part
use Rattle.xk_races.specs.Lists.{number_at}
use Rattle.xk_races.specs.Knowledge.{Scopes, scoped, nothing_known}

-- deed number i of a run, counted from 0
abbrev pub IsAt : List Deed → ℕ → Deed → Type 0
IsAt ds i d = slice_get ds i ≡ Some d

-- where the activities are behind these deeds
abbrev pub scopes_after : List Deed → Scopes → Scopes
scopes_after [] s = s
scopes_after (d ∷ ds) s = scopes_after ds (scoped d.step.act d.part s)

-- the finish that activity a is in at deed number j
abbrev pub finish_at : List Deed → ℕ → ℕ → ℕ
finish_at ds j a = number_at (scopes_after (take j ds) nothing_known.scopes).within a

-- deed number k, before number n, is one of activity a, or starts it
abbrev pub IsOf : List Deed → ℕ → ℕ → ℕ → Type 0
IsOf ds n a k = (k < n) × (d : Deed) × IsAt ds k d × ((d.step.act ≡ a) ⊎ (d.part ≡ part.Start a))

-- deed number k, before number n, is one by which clock c ceased to await an activity
abbrev pub IsSignal : List Deed → ℕ → ℕ → ℕ → Type 0
IsSignal ds n c k = (k < n) × (d : Deed) × IsAt ds k d × (d.part ≡ part.Signal c)

-- deed number k, before number n, is one by which an activity left clock c that it had resumed
abbrev pub IsLeave : List Deed → ℕ → ℕ → ℕ → Type 0
IsLeave ds n c k = (k < n) × (d : Deed) × IsAt ds k d × (d.part ≡ part.Leave c)

-- and before number n the clock has advanced since
abbrev pub IsLeft : List Deed → ℕ → ℕ → ℕ → Type 0
IsLeft ds n c k = (m : ℕ) × (m < n) × (d : Deed) × IsAt ds m d × (d.part ≡ part.Advance c) × IsLeave ds m c k

-- before number n, an advance of clock c that came now would wait for deed number k
abbrev pub IsAwaited : List Deed → ℕ → ℕ → ℕ → Type 0
IsAwaited ds n c k = IsSignal ds n c k ⊎ IsLeft ds n c k

-- before number n the clock has advanced, and waited for deed number k
abbrev pub IsCounted : List Deed → ℕ → ℕ → ℕ → Type 0
IsCounted ds n c k = (m : ℕ) × (m < n) × (d : Deed) × IsAt ds m d × (d.part ≡ part.Advance c) × IsAwaited ds m c k

-- deed number k, before number n, is the end of an activity in finish f
abbrev pub IsEnd : List Deed → ℕ → ℕ → ℕ → Type 0
IsEnd ds n f k = (k < n) × (d : Deed) × IsAt ds k d × (d.part ≡ part.End) × (finish_at ds k d.step.act ≡ f)

-- why deed number k comes right before deed number j, which is e
pub data Reason (ds : List Deed) (k j : ℕ) (e : Deed) : Type 0 where
  Own : IsOf ds j e.step.act k → Reason ds k j e
  Passed : (c : ℕ) → e.part ≡ part.Pass c → IsCounted ds j c k → Reason ds k j e
  Closed : e.part ≡ part.Close → IsEnd ds j (finish_at ds j e.step.act) k → Reason ds k j e

abbrev pub Edge : List Deed → ℕ → ℕ → Type 0
Edge ds k j = (e : Deed) × IsAt ds j e × Reason ds k j e

-- by way of these, the last one first
abbrev pub Leads : List Deed → ℕ → List ℕ → ℕ → Type 0
Leads ds i [] j = Edge ds i j
Leads ds i (k ∷ ks) j = Leads ds i ks k × Edge ds k j

-- deed number i comes before deed number j
abbrev pub Before : List Deed → ℕ → ℕ → Type 0
Before ds i j = (ks : List ℕ) × Leads ds i ks j
