-- What an activity that is started, and a method that is called, is given: its values, its slots, and that it begins sound.
use Rattle.std.proofs.Common.{◌≡◌, ℕ, zero, suc, ◌-◌, ◌≤◌, Bool, true, false, cond, ◌==◌, List, [], ◌∷◌, ◌++◌, length, replicate, Some, Option, refl, sym, ap, ◌∙◌, subst, arith, ◌⊎◌, inl, inr, eqb-true, eq-eqb, length-append}
use Rattle.std.specs.Prelude.{slice_get}
use Rattle.std.specs.List.{list_any}
use Rattle.std.specs.Option.{option_map_or}
use Rattle.std.proofs.lemmas.List.{length-replicate}
use Rattle.std.proofs.lemmas.List.Elements.{All-get_or}
use Rattle.std.proofs.lemmas.Bool.{false≢true, or_parts, or_left, or_right}
use Rattle.std.proofs.lemmas.Option.{none-some, same_Some, slice_get_within, slice_get_past, get_or_from_slice_get}
use Rattle.xk_types.specs.declared.world.Value.{Value}
use Rattle.xk_types.specs.declared.world.Value.TheVariants as value
use Rattle.xk_types.specs.declared.world.Standing.{Standing}
use Rattle.xk_types.specs.declared.world.Standing.TheVariants as standing
use Rattle.xk_types.specs.declared.unit.ParamKind.{ParamKind}
use Rattle.xk_types.specs.declared.unit.ParamKind.TheVariants as param
use Rattle.xk_types.specs.declared.rules.Kind.{Kind}
use Rattle.xk_types.specs.Code.{UnitValue, ModuleValue, clock_arguments, IsUnitWithinLimits, IsWithinLimits}
use Rattle.xk_types.specs.Order.{Has}
use Rattle.xk_types.specs.World.{Frame, Activity, slots_of, frame_with}
use Rattle.xk_types.specs.Step.{child, names_clock, is_given}
use Rattle.xk_types.specs.Shape.{HasShape, has_twice}
use Rattle.xk_types.specs.Walk.{entry_of, IsVisited, MayBecome, across}
use Rattle.xk_types.specs.declared.rules.Kind.TheVariants as kind
use Rattle.xk_law_schedules.proofs.Invariant.{Each, Names, Waits, IsFrameSound, IsActivitySound, kind_by, kind_of, is_held}
use Rattle.xk_law_schedules.proofs.BoundLemmas.TotalLemmas.{stack_within_bound}
use Rattle.xk_types.proofs.ListLemmas.{get-append_left, each_filled, any_found, any_given}
use Rattle.xk_types.proofs.WalkLemmas.{visited_entry}
use Rattle.xk_law_schedules.proofs.SlotKindLemmas.KindTableLemmas.{held_entry}
use Rattle.xk_law_schedules.proofs.ShapeLemmas.UnitLemmas.{unit_fits}

-- ---- limits

-- a unit of a module within the limits is within them
unit_limits : (m : ModuleValue) → IsWithinLimits m → (unit : ℕ) (u : UnitValue) → slice_get m.units unit ≡ Some u → IsUnitWithinLimits u
unit_limits m limits unit u found =
    subst IsUnitWithinLimits (get_or_from_slice_get m.units unit u u found)
    (All-get_or IsUnitWithinLimits m.units unit u (slice_get_within m.units unit u found) limits.each)

-- ---- values

-- What a value is that an activity gives to a parameter, from a slot: a number, or the name of a clock that stands in the
-- slot, and on which the activity is registered.
abbrev pub IsGivenTo : (ℕ → Standing) → List Value → Option ParamKind → Option ℕ → Value → Type 0
IsGivenTo stands slots p o value.Unset = ⊥
IsGivenTo stands slots p o (value.Number n) = p ≡ Some param.Number
IsGivenTo stands slots p o (value.Clock k) = (x : ℕ) × (p ≡ Some param.Clock) × (o ≡ Some x) × Names slots x k × (is_held (kind_by (stands k)) ≡ true)

-- the values that an activity gives to these parameters, from these slots
pub record AreGiven (stands : ℕ → Standing) (slots : List Value) (ps : List ParamKind) (xs : List ℕ) (values : List Value) : Type 0 where
  pub width : length values ≡ length ps
  pub each : Each (λ s v. IsGivenTo stands slots (slice_get ps s) (slice_get xs s) v) values

-- none
pub given_none : (stands : ℕ → Standing) (slots : List Value) → AreGiven stands slots [] [] []
given_none stands slots = record { width = refl; each = λ s v h. absurd (none-some v h) }

-- and one more
pub given_more : (stands : ℕ → Standing) (slots : List Value) (p : ParamKind) (ps : List ParamKind) (x : ℕ) (xs : List ℕ) (v : Value) (values : List Value)
    → IsGivenTo stands slots (Some p) (Some x) v → AreGiven stands slots ps xs values → AreGiven stands slots (p ∷ ps) (x ∷ xs) (v ∷ values)
given_more stands slots p ps x xs v values g all = record { width = ap suc all.width; each = λ s y h. at s y h }
  where
    at : (s : ℕ) (y : Value) → slice_get (v ∷ values) s ≡ Some y → IsGivenTo stands slots (slice_get (p ∷ ps) s) (slice_get (x ∷ xs) s) y
    at zero y h = subst (IsGivenTo stands slots (Some p) (Some x)) (same_Some v y h) g
    at (suc s) y h = all.each s y h

-- ---- no slot is handed on twice

-- a parameter that takes a number takes no clock
number_clock : Some param.Number ≡ Some param.Clock → ⊥
number_clock e = grind arith

-- a slot that is handed on stands among those that are
pub handed_on : (ps : List ParamKind) (xs : List ℕ) (s x : ℕ) → slice_get ps s ≡ Some param.Clock → slice_get xs s ≡ Some x
    → list_any (λ y. y == x) (clock_arguments ps xs) ≡ true
handed_on [] xs s x p o = absurd (none-some param.Clock p)
handed_on (q ∷ ps) [] s x p o = absurd (none-some x o)
handed_on (param.Number ∷ ps) (z ∷ xs) zero x p o = absurd (number_clock p)
handed_on (param.Number ∷ ps) (z ∷ xs) (suc s) x p o = handed_on ps xs s x p o
handed_on (param.Clock ∷ ps) (z ∷ xs) zero x p o = or_left (z == x) (list_any (λ y. y == x) (clock_arguments ps xs)) (eq-eqb z x (same_Some z x o))
handed_on (param.Clock ∷ ps) (z ∷ xs) (suc s) x p o = or_right (z == x) (list_any (λ y. y == x) (clock_arguments ps xs)) (handed_on ps xs s x p o)

-- two parameters that take one slot as a clock are one
handed_once : (ps : List ParamKind) (xs : List ℕ) (s t x : ℕ) → has_twice (clock_arguments ps xs) ≡ false
    → slice_get ps s ≡ Some param.Clock → slice_get ps t ≡ Some param.Clock → slice_get xs s ≡ Some x → slice_get xs t ≡ Some x → s ≡ t
handed_once [] xs s t x h p q o r = absurd (none-some param.Clock p)
handed_once (k ∷ ps) [] s t x h p q o r = absurd (none-some x o)
handed_once (param.Number ∷ ps) (z ∷ xs) zero t x h p q o r = absurd (number_clock p)
handed_once (param.Number ∷ ps) (z ∷ xs) (suc s) zero x h p q o r = absurd (number_clock q)
handed_once (param.Number ∷ ps) (z ∷ xs) (suc s) (suc t) x h p q o r = ap suc (handed_once ps xs s t x h p q o r)
handed_once (param.Clock ∷ ps) (z ∷ xs) zero zero x h p q o r = refl
handed_once (param.Clock ∷ ps) (z ∷ xs) zero (suc t) x h p q o r =
    absurd (false≢true (sym (or_parts (list_any (λ y. y == z) (clock_arguments ps xs)) (has_twice (clock_arguments ps xs)) h).0
    ∙ handed_on ps xs t z q (r ∙ ap (λ y. Some y) (sym (same_Some z x o)))))
handed_once (param.Clock ∷ ps) (z ∷ xs) (suc s) zero x h p q o r =
    absurd (false≢true (sym (or_parts (list_any (λ y. y == z) (clock_arguments ps xs)) (has_twice (clock_arguments ps xs)) h).0
    ∙ handed_on ps xs s z p (o ∙ ap (λ y. Some y) (sym (same_Some z x r)))))
handed_once (param.Clock ∷ ps) (z ∷ xs) (suc s) (suc t) x h p q o r =
    ap suc (handed_once ps xs s t x (or_parts (list_any (λ y. y == z) (clock_arguments ps xs)) (has_twice (clock_arguments ps xs)) h).1 p q o r)

-- ---- the slots of the new activity

-- the kinds of clocks' names for the new activity
abbrev pub new_look : (ℕ → Standing) → List Value → ℕ → Kind
new_look stands values k = kind_by (cond (is_given values k) (stands k) standing.Apart)

-- a clock that it is given has the kind that its name has for the starter
pub look_given : (stands : ℕ → Standing) (values : List Value) (s k : ℕ) → slice_get values s ≡ Some (value.Clock k) → new_look stands values k ≡ kind_by (stands k)
look_given stands values s k h =
    ap (λ b. kind_by (cond b (stands k) standing.Apart)) (any_given (names_clock k) values s (value.Clock k) h (eq-eqb k k refl))

-- what is held was given
held_given : (b : Bool) (s : Standing) → is_held (kind_by (cond b s standing.Apart)) ≡ true → b ≡ true
held_given true s h = refl
held_given false s h = absurd (false≢true h)

-- a value that names a clock is its name
named_clock : (k : ℕ) (v : Value) → names_clock k v ≡ true → v ≡ value.Clock k
named_clock k value.Unset h = absurd (false≢true h)
named_clock k (value.Number n) h = absurd (false≢true h)
named_clock k (value.Clock j) h = ap (λ z. value.Clock z) (eqb-true j k h)

-- a slot of the new activity holds what its parameter was given, or nothing
abbrev Begins : (ℕ → Standing) → List Value → List ParamKind → List ℕ → List Value → ℕ → Value → Type 0
Begins stands slots ps xs values s v =
    ((slice_get values s ≡ Some v) × IsGivenTo stands slots (slice_get ps s) (slice_get xs s) v) ⊎ ((v ≡ value.Unset) × (length ps ≤ s))

-- no name is nothing
clock_unset : (k : ℕ) → value.Clock k ≡ value.Unset → ⊥
clock_unset k e = grind arith

module _ (stands : ℕ → Standing) (slots : List Value) (ps : List ParamKind) (xs : List ℕ) (values : List Value) (given : AreGiven stands slots ps xs values) where
  -- each slot
  each_begins : (n : ℕ) → Each (Begins stands slots ps xs values) (values ++ replicate n value.Unset)
  each_begins n = each_filled (Begins stands slots ps xs values) values n value.Unset (λ s v h. inl (h, given.each s v h)) (λ s h. inr (refl, omega (arith, given.width)))

  -- a name in a slot is the name that stands in a slot of the starter, which a parameter takes as a clock
  begins_clock : (s k : ℕ) → Begins stands slots ps xs values s (value.Clock k)
      → (x : ℕ) × (slice_get ps s ≡ Some param.Clock) × (slice_get xs s ≡ Some x) × Names slots x k
  begins_clock s k (inl g) = (g.1.0, g.1.1, g.1.2, g.1.3)
  begins_clock s k (inr e) = absurd (clock_unset k e.0)

  -- the kind of each slot is one of its parameter's, where clocks' names have the kinds that they have for the starter
  begins_kind : (look : ℕ → Kind) → ((s k : ℕ) → slice_get values s ≡ Some (value.Clock k) → look k ≡ kind_by (stands k))
      → (s : ℕ) (v : Value) → Begins stands slots ps xs values s v → Has (entry_of (slice_get ps s)) (kind_of look v)
  begins_kind look same s value.Unset (inl g) = absurd g.1
  begins_kind look same s (value.Number n) (inl g) = rw g.1 (inl refl)
  begins_kind look same s (value.Clock k) (inl g) = rw (g.1.1, same s k g.0) (held_entry (stands k) g.1.4)
  begins_kind look same s v (inr e) = rw (e.0, slice_get_past ps s e.1) (inl refl)

  -- what is held stands in a slot
  begins_held : (n k : ℕ) → is_held (new_look stands values k) ≡ true → (s : ℕ) × Names (values ++ replicate n value.Unset) s k
  begins_held n k h =
      let r = any_found (names_clock k) values (held_given (is_given values k) (stands k) h) in
      (r.0, get-append_left values (replicate n value.Unset) r.0 (value.Clock k) (r.2 ∙ ap (λ v. Some v) (named_clock k r.1 r.3)))

-- ---- a frame that begins

-- what a unit begins with that is given these values from the slots of a frame
pub record Begun (m : ModuleValue) (stands : ℕ → Standing) (look : ℕ → Kind) (clocks : ℕ) (slots : List Value) (t : ℕ) (v : UnitValue) (args : List ℕ) (f : Frame) : Type 0 where
  pub frame : IsFrameSound v clocks f
  pub kinds : Each (λ s x. IsVisited m v s (record { at = 0; kind = kind_of look x })) f.slots
  -- a name in a slot is the name that stands in a slot that is lent to it
  pub names : (s k : ℕ) → Names f.slots s k → (x : ℕ) × (slice_get v.params s ≡ Some param.Clock) × (slice_get args s ≡ Some x) × Names slots x k

pub frame_begun : (m : ModuleValue) → IsWithinLimits m → HasShape m → (stands : ℕ → Standing) (look : ℕ → Kind) (clocks : ℕ) (u : UnitValue) (g : Frame) → IsFrameSound u clocks g
    → (t : ℕ) (v : UnitValue) → slice_get m.units t ≡ Some v → (args : List ℕ) → has_twice (clock_arguments v.params args) ≡ false
    → (values : List Value) → AreGiven stands g.slots v.params args values
    → ((s k : ℕ) → slice_get values s ≡ Some (value.Clock k) → look k ≡ kind_by (stands k))
    → Begun m stands look clocks g.slots t v args (frame_with m t values)
frame_begun m limits shape stands look clocks u g sound t v found args once values given same = record {
  frame = record {
    slots = length-append values (replicate rest value.Unset) ∙ omega (arith, length-replicate rest value.Unset, given.width, slots, (unit_limits m limits t v found).params);
    place = (unit_fits m shape t v found).some;
    known = λ s k h. (let r = name s k h in sound.known r.0 k r.3);
    apart = λ s z k g h.
        (let p = name s k g in
        let q = name z k h in
        handed_once v.params args s z p.0 once p.1 q.1 p.2 (q.2 ∙ ap (λ y. Some y) (sound.apart q.0 p.0 k q.3 p.3)));
  };
  kinds = λ s x h. visited_entry m v s (kind_of look x) (begins_kind stands g.slots v.params args values given look same s x (each s x h));
  names = name;
}
  where
    rest : ℕ
    rest = slots_of m t - length values

    slots : slots_of m t ≡ v.slots
    slots = ap (λ o. option_map_or (λ u. u.slots) o 0) found

    each : Each (Begins stands g.slots v.params args values) (values ++ replicate rest value.Unset)
    each = each_begins stands g.slots v.params args values given rest

    name : (s k : ℕ) → Names (values ++ replicate rest value.Unset) s k
        → (x : ℕ) × (slice_get v.params s ≡ Some param.Clock) × (slice_get args s ≡ Some x) × Names g.slots x k
    name s k h = begins_clock stands g.slots v.params args values given s k (each s (value.Clock k) h)

-- ---- the new activity

-- it begins sound
pub child_sound : (m : ModuleValue) → IsWithinLimits m → HasShape m → (stands : ℕ → Standing) (clocks then' now a : ℕ) (was : Activity) → then' ≤ now
    → IsActivitySound m (λ k. kind_by (stands k)) clocks then' was
    → (t : ℕ) (v : UnitValue) → slice_get m.units t ≡ Some v → (args : List ℕ) → has_twice (clock_arguments v.params args) ≡ false
    → (values : List Value) → AreGiven stands was.frame.slots v.params args values
    → IsActivitySound m (new_look stands values) clocks now (child m a was t values)
child_sound m limits shape stands clocks then' now a was later me t v found args once values given =
    let b = frame_begun m limits shape stands (new_look stands values) clocks me.u was.frame me.frame t v found args once values given (look_given stands values) in
    record {
      since = omega (arith, me.since);
      u = v;
      unit = found;
      frame = b.frame;
      kinds = b.kinds;
      advance = λ e. absurd (grind arith);
      held = λ k h. inl (begins_held stands was.frame.slots v.params args values given (slots_of m t - length values) k h);
      waiting = tt;
      room = (let h = stack_within_bound m t v found in omega arith);
      alone = λ e. refl;
    }

-- ---- a method

-- what a call leaves of each kind is visited behind it
pub across_waits : (lent : Bool) (k : Kind) (R : Kind → Type 0) → (lent ≡ true → is_held k ≡ true) → ((new : Kind) → MayBecome (across lent k) new → R new) → Waits lent k R
across_waits true k R held may = let b = both k (held refl) may in (held refl, b.0, b.1)
  where
    both : (j : Kind) → is_held j ≡ true → ((new : Kind) → MayBecome (across true j) new → R new) → R kind.Live × R kind.Resumed
    both kind.Unset h g = absurd (grind arith)
    both kind.Number h g = absurd (grind arith)
    both kind.Live h g = (g kind.Live (inl refl), g kind.Resumed (inr (inl refl)))
    both kind.Resumed h g = (g kind.Live (inl refl), g kind.Resumed (inr (inl refl)))
    both kind.Out h g = absurd (grind arith)
across_waits false kind.Unset R held may = may kind.Unset (inl refl)
across_waits false kind.Number R held may = may kind.Number (inl refl)
across_waits false kind.Live R held may = may kind.Live (inl refl)
across_waits false kind.Resumed R held may = (may kind.Live (inl refl), may kind.Resumed (inr (inl refl)))
across_waits false kind.Out R held may = may kind.Out (inl refl)
