-- Frames that wait at a `call`: a step of their activity leaves them sound.
use Rattle.std.proofs.Common.{◌≡◌, ℕ, ◌+◌, ◌≤◌, Bool, true, false, List, [], ◌∷◌, length, Some, refl, sym, ap, ◌∙◌, subst, arith, ◌⊎◌, inl, inr}
use Rattle.std.specs.Prelude.{slice_get}
use Rattle.xk_types.specs.declared.instr.Instr.TheVariants as instr
use Rattle.xk_types.specs.declared.world.Value.{Value}
use Rattle.xk_types.specs.declared.world.Value.TheVariants as value
use Rattle.xk_types.specs.declared.world.Status.{Status}
use Rattle.xk_types.specs.declared.world.Status.TheVariants as status
use Rattle.xk_types.specs.declared.rules.Kind.{Kind}
use Rattle.xk_types.specs.declared.rules.Kind.TheVariants as kind
use Rattle.xk_types.specs.Code.{UnitValue, ModuleValue}
use Rattle.xk_types.specs.World.{Frame}
use Rattle.xk_types.specs.Walk.{IsVisited, is_lent, awake}
use Rattle.xk_law_schedules.proofs.Invariant.{Names, NamesNone, once_past, Waits, IsFrameSound, IsWaiting, AreWaiting, kind_of, is_held}
use Rattle.xk_law_schedules.proofs.SafetyLemmas.ArgumentLemmas.{handed_on}

-- ---- names

-- frames that wait name no clock that was not there
pub names_known : (m : ModuleValue) (look : ℕ → Kind) (st : Status) (clocks : ℕ) (g : Frame) (fs : List Frame) → AreWaiting m look st clocks g fs
    → (c : ℕ) → clocks ≤ c → NamesNone fs c
names_known m look st clocks g [] w c more = tt
names_known m look st clocks g (f ∷ fs) w c more = (λ s h. (let k = w.0.frame.known s c h in absurd (omega arith)), names_known m look st clocks f fs w.1 c more)

-- a frame with more clocks
pub frame_later : (u : UnitValue) (before clocks : ℕ) (f : Frame) → before ≤ clocks → IsFrameSound u before f → IsFrameSound u clocks f
frame_later u before clocks f more s = record { slots = s.slots; place = s.place; known = λ t c g. (let h = s.known t c g in omega arith); apart = s.apart }

-- ---- kinds

-- what is no clock's name stays as it is
past_unset : (st : Status) → once_past st kind.Unset ≡ kind.Unset
past_unset status.Running = refl
past_unset status.Arrived = refl
past_unset status.Ended = refl

past_number : (st : Status) → once_past st kind.Number ≡ kind.Number
past_number status.Running = refl
past_number status.Arrived = refl
past_number status.Ended = refl

-- a slot that is lent may be live or resumed
lent_waits : (lent : Bool) (k new : Kind) (R : Kind → Type 0) → lent ≡ true → is_held new ≡ true → Waits lent k R → Waits lent new R
lent_waits true k new R e held w = (held, w.1, w.2)
lent_waits false k new R e held w = absurd (grind arith)

-- what is visited for each kind that the slot may have is visited for the one that it has
pub waits_now : (lent : Bool) (k : Kind) (R : Kind → Type 0) → Waits lent k R → R k
waits_now true kind.Unset R w = absurd (let h = w.0 in grind arith)
waits_now true kind.Number R w = absurd (let h = w.0 in grind arith)
waits_now true kind.Live R w = w.1
waits_now true kind.Resumed R w = w.2
waits_now true kind.Out R w = absurd (let h = w.0 in grind arith)
waits_now false kind.Unset R w = w
waits_now false kind.Number R w = w
waits_now false kind.Live R w = w
waits_now false kind.Resumed R w = w.1
waits_now false kind.Out R w = w

-- a pass leaves what is waited for
waits_awake : (lent : Bool) (k : Kind) (R : Kind → Type 0) → Waits lent k R → Waits lent (awake k) R
waits_awake true kind.Unset R w = w
waits_awake true kind.Number R w = w
waits_awake true kind.Live R w = w
waits_awake true kind.Resumed R w = (refl, w.1, w.2)
waits_awake true kind.Out R w = w
waits_awake false kind.Unset R w = w
waits_awake false kind.Number R w = w
waits_awake false kind.Live R w = w
waits_awake false kind.Resumed R w = w.0
waits_awake false kind.Out R w = w

-- ---- a step

-- What a step may do to the kind of clock c, as far as the frames know that wait for frame g: leave it; or do to it what a pass
-- does; or make it another held one, where g names the clock; or anything, where none of them names it.
abbrev pub IsMild : (ℕ → Kind) → Status → (ℕ → Kind) → Status → Frame → List Frame → ℕ → Type 0
IsMild look st new nst g fs c =
    (once_past nst (new c) ≡ once_past st (look c)) ⊎ (once_past nst (new c) ≡ awake (once_past st (look c)))
    ⊎ ((is_held (once_past nst (new c)) ≡ true) × (t : ℕ) × Names g.slots t c) ⊎ NamesNone fs c

-- the first frame that waits, after such a step of the one before it, which then is `h`
module _ (m : ModuleValue) (look new : ℕ → Kind) (st nst : Status) (before clocks : ℕ) (more : before ≤ clocks) where
  -- a slot of the frame
  slot_waits : (g f : Frame) (below : List Frame) (w : IsWaiting m look st before g f below) → ((c : ℕ) → IsMild look st new nst g (f ∷ below) c)
      → (s : ℕ) (x : Value) → slice_get f.slots s ≡ Some x
      → Waits (is_lent w.v.params w.args s) (once_past nst (kind_of new x)) (λ k. IsVisited m w.u s (record { at = f.place + 1; kind = k }))
  slot_waits g f below w mild s value.Unset at =
      subst (λ k. Waits (is_lent w.v.params w.args s) k (λ j. IsVisited m w.u s (record { at = f.place + 1; kind = j })))
      (past_unset st ∙ sym (past_unset nst)) (w.waits s value.Unset at)
  slot_waits g f below w mild s (value.Number n) at =
      subst (λ k. Waits (is_lent w.v.params w.args s) k (λ j. IsVisited m w.u s (record { at = f.place + 1; kind = j })))
      (past_number st ∙ sym (past_number nst)) (w.waits s (value.Number n) at)
  slot_waits g f below w mild s (value.Clock c) at = elim (mild c) [
    | inl same ↦ subst (λ k. Waits (is_lent w.v.params w.args s) k R) (sym same) (w.waits s (value.Clock c) at)
    | inr (inl up) ↦ subst (λ k. Waits (is_lent w.v.params w.args s) k R) (sym up)
        (waits_awake (is_lent w.v.params w.args s) (once_past st (look c)) R (w.waits s (value.Clock c) at))
    | inr (inr (inl p)) ↦ elim (w.shares p.1 c p.2) [
      | inl q ↦ lent_waits (is_lent w.v.params w.args s) (once_past st (look c)) (once_past nst (new c)) R
          (subst (λ y. is_lent w.v.params w.args y ≡ true) (w.frame.apart q.0 s c q.3 at) (handed_on w.v.params w.args p.1 q.0 q.1 q.2)) p.0 (w.waits s (value.Clock c) at)
      | inr q ↦ absurd (q.1.0 s at)
    ]
    | inr (inr (inr none')) ↦ absurd (none'.0 s at)
  ]
    where
      R : Kind → Type 0
      R k = IsVisited m w.u s (record { at = f.place + 1; kind = k })

  -- the same for the frame that waits for this one
  mild_below : (g f : Frame) (below : List Frame) (w : IsWaiting m look st before g f below) → ((c : ℕ) → IsMild look st new nst g (f ∷ below) c)
      → (c : ℕ) → IsMild look st new nst f below c
  mild_below g f below w mild c = elim (mild c) [
    | inl same ↦ inl same
    | inr (inl up) ↦ inr (inl up)
    | inr (inr (inl p)) ↦ elim (w.shares p.1 c p.2) [ inl q ↦ inr (inr (inl (p.0, q.0, q.3))) | inr q ↦ inr (inr (inr q.1.1)) ]
    | inr (inr (inr none')) ↦ inr (inr (inr none'.1))
  ]

  -- all frames that wait, after a step of the present one that runs the same unit afterwards, and names only clocks that it named or,
  -- in slots that are no parameters, new ones
  pub still_waiting : (g h : Frame) (fs : List Frame) → AreWaiting m look st before g fs → h.unit ≡ g.unit
      → ((v : UnitValue) → slice_get m.units g.unit ≡ Some v → (t c : ℕ) → Names h.slots t c → Names g.slots t c ⊎ ((length v.params ≤ t) × (before ≤ c)))
      → ((c : ℕ) → IsMild look st new nst g fs c) → AreWaiting m new nst clocks h fs
  still_waiting g h [] w same names mild = tt
  still_waiting g h (f ∷ fs) w same names mild = (
    record {
      u = w.0.u;
      found = w.0.found;
      frame = frame_later w.0.u before clocks f more w.0.frame;
      v = w.0.v;
      callee = ap (slice_get m.units) same ∙ w.0.callee;
      method = w.0.method;
      args = w.0.args;
      call = w.0.call ∙ ap (λ unit. Some (instr.Call unit w.0.args)) (sym same);
      waits = λ s x at. slot_waits g f fs w.0 mild s x at;
      shares = λ t c named. elim (names w.0.v w.0.callee t c named) [
        | inl old ↦ w.0.shares t c old
        | inr fresh ↦ inr (fresh.0, names_known m look st before g (f ∷ fs) w c fresh.1)
      ];
      room = w.0.room;
    },
    still_waiting f f fs w.1 refl (λ v at t c named. inl named) (mild_below g f fs w.0 mild),
  )
