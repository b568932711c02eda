-- What an instruction leaves of the activity that carries it out: its slots, their kinds and the names in them.
use Rattle.std.proofs.Common.{◌≡◌, ℕ, ◌+◌, ◌<◌, ◌≤◌, true, false, List, length, set, Some, refl, sym, ap, ◌∙◌, subst, arith, length-set, ◌⊎◌, inl, inr}
use Rattle.std.specs.Prelude.{slice_get}
use Rattle.std.proofs.lemmas.Bool.{cases_eq, cases_lt, false≢true, ne_eqb}
use Rattle.std.proofs.lemmas.Option.{slice_get_within, same_Some}
use Rattle.xk_types.specs.declared.instr.Instr.{Instr}
use Rattle.xk_types.specs.declared.instr.Instr.TheVariants as instr
use Rattle.xk_types.specs.declared.world.Value.{Value}
use Rattle.xk_types.specs.declared.world.Value.TheVariants as value
use Rattle.xk_types.specs.declared.world.Status.TheVariants as status
use Rattle.xk_types.specs.declared.world.Standing.{Standing}
use Rattle.xk_types.specs.declared.rules.Kind.{Kind}
use Rattle.xk_types.specs.Code.{UnitValue, ModuleValue}
use Rattle.xk_types.specs.Order.{Has}
use Rattle.xk_types.specs.World.{Activity}
use Rattle.xk_types.specs.Step.{onward, going, with_slots, only}
use Rattle.xk_types.specs.Shape.{slots_named, is_ret}
use Rattle.xk_types.specs.Walk.{MayBecome, IsVisited, after, after_to, passes_over, successors}
use Rattle.xk_types.specs.Acceptance.{IsAccepted}
use Rattle.xk_law_schedules.proofs.Invariant.{Each, Expects, Names, NamesNone, NamedIn, once_past, IsActivitySound, kind_by, kind_of, is_held}
use Rattle.xk_law_schedules.proofs.SafetyLemmas.CallerLemmas.{IsMild, names_known, still_waiting}
use Rattle.xk_types.proofs.ListLemmas.{get_inside, get_once, get-set_same, get-set_other, each_set}
use Rattle.xk_law_schedules.proofs.SlotKindLemmas.WalkLemmas.{Allowed, visited_allowed, visited_next}
use Rattle.xk_law_schedules.proofs.ShapeLemmas.UnitLemmas.{IsFit}
use Rattle.xk_law_schedules.proofs.SlotKindLemmas.KindTableLemmas.{only_here, only_other, only_held, IsWritten, IsUsed}
use Rattle.xk_law_schedules.proofs.SafetyLemmas.PreservationLemmas.{IsNext}

-- A sound running activity of an accepted module at instruction i of its unit u; of its clocks, by number, the standings
-- are `stands`.
pub record IsAt (m : ModuleValue) (stands : ℕ → Standing) (clocks now : ℕ) (was : Activity) (u : UnitValue) (i : Instr) : Type 0 where
  pub ok : IsAccepted m
  pub me : IsActivitySound m (λ k. kind_by (stands k)) clocks now was
  pub unit : me.u ≡ u
  pub fit : IsFit u
  pub running : was.status ≡ status.Running
  pub here : slice_get u.code was.frame.place ≡ Some i

module _ (m : ModuleValue) (stands : ℕ → Standing) (clocks now : ℕ) (was : Activity) (u : UnitValue) (i : Instr) (c : IsAt m stands clocks now was u i) where
  -- the kinds of clocks' names before the step
  abbrev look : ℕ → Kind
  look k = kind_by (stands k)

  -- the unit is found
  unit_found : slice_get m.units was.frame.unit ≡ Some u
  unit_found = c.me.unit ∙ ap (λ x. Some x) c.unit

  -- a frame has its unit's number of slots
  slots_length : length was.frame.slots ≡ u.slots
  slots_length = c.me.frame.slots ∙ ap (λ x. x.slots) c.unit

  -- each slot's kind is visited here
  visited_here : (s : ℕ) (v : Value) → slice_get was.frame.slots s ≡ Some v
      → IsVisited m u s (record { at = was.frame.place; kind = kind_of look v })
  visited_here s v at =
      subst (λ x. IsVisited m x s (record { at = was.frame.place; kind = kind_of look v })) c.unit
      (subst (λ st. Expects m c.me.u st was.frame.place s (kind_of look v)) c.running (c.me.kinds s v at))

  -- a slot that the instruction names is there
  pub slot_there : (s : ℕ) → Has (slots_named i) s → (v : Value) × (slice_get was.frame.slots s ≡ Some v)
  slot_there s h = get_inside was.frame.slots s (let g = c.fit.slots i was.frame.place s c.here h in omega (arith, slots_length))

  -- the table doesn't refuse at it
  pub row_allowed : (s : ℕ) (v : Value) → slice_get was.frame.slots s ≡ Some v → Allowed (after m u i s (kind_of look v))
  row_allowed s v at =
      let h = slice_get_within was.frame.slots s v at in
      visited_allowed m c.ok was.frame.unit u unit_found s (omega (arith, slots_length)) i was.frame.place c.here (kind_of look v) (visited_here s v at)

  -- what a slot becomes is visited at a next place
  pub next_visited : (s : ℕ) (v : Value) (new : Kind) (to : ℕ) → Has (successors i was.frame.place) to → slice_get was.frame.slots s ≡ Some v
      → MayBecome (after_to m u i to s (kind_of look v)) new → IsVisited m u s (record { at = to; kind = new })
  next_visited s v new to on at may = visited_next m u s i was.frame.place c.here to (kind_of look v) new on may (visited_here s v at)

  -- ---- on to the next instruction, with slots that came of the old ones

  -- an instruction that goes to the next place passes over nothing
  on_next : passes_over i (was.frame.place + 1) ≡ false
  on_next = by i c.here
    where
      by : (j : Instr) → slice_get u.code was.frame.place ≡ Some j → passes_over j (was.frame.place + 1) ≡ false
      by (instr.ForTo k lo x hi e) h = ne_eqb (was.frame.place + 1) (e + 1)
          (λ q. (let g = c.fit.loops.begun was.frame.place (instr.ForTo k lo x hi e) _ h refl in let d = c.fit.loops.ahead _ g.0 in absurd (omega arith)))
      by _ h = refl

  -- so that all of its row holds on the way there
  pub way_on : (s : ℕ) (k : Kind) → after m u i s k ≡ after_to m u i (was.frame.place + 1) s k
  way_on s k = rw on_next refl

  -- a slot after the step came of one before it, by the table
  abbrev Turns : ℕ → (ℕ → Kind) → List Value → Type 0
  Turns to new slots = (s : ℕ) (v : Value) → slice_get slots s ≡ Some v
      → (old : Value) × (slice_get was.frame.slots s ≡ Some old) × MayBecome (after_to m u i to s (kind_of look old)) (kind_of new v)

  -- names in slots after the step
  record AreNames (new : ℕ → Kind) (count : ℕ) (slots : List Value) : Type 0 where
    more : clocks ≤ count
    width : length slots ≡ length was.frame.slots
    known : (s k : ℕ) → Names slots s k → k < count
    apart : (s t k : ℕ) → Names slots s k → Names slots t k → s ≡ t
    held : (k : ℕ) → is_held (new k) ≡ true → ((s : ℕ) × Names slots s k) ⊎ NamedIn was.callers k
    own : (t k : ℕ) → Names slots t k → Names was.frame.slots t k ⊎ ((length u.params ≤ t) × (clocks ≤ k))
    mild : (k : ℕ) → IsMild look was.status new was.status was.frame was.callers k

  -- an instruction that goes on to this place
  straight : (new : ℕ → Kind) (count : ℕ) (slots : List Value) (to : ℕ) → Has (successors i was.frame.place) to → to < length u.code
      → AreNames new count slots → Turns to new slots → IsNext m u new count (now + 1) was (going (with_slots was slots) to)
  straight new count slots to on inside names turns = record {
    unit = refl;
    callers = refl;
    since = omega (arith, c.me.since);
    frame = record {
      slots = names.width ∙ slots_length;
      place = inside;
      known = names.known;
      apart = names.apart;
    };
    kinds = λ s v at. let t = turns s v at in
        subst (λ st. Expects m u st to s (kind_of new v)) (sym c.running) (next_visited s t.0 (kind_of new v) to on t.1 t.2);
    advance = λ e. absurd (grind (arith, c.running));
    held = names.held;
    waiting = still_waiting m look new was.status was.status clocks count names.more was.frame (record was.frame { place = to; slots = slots }) was.callers c.me.waiting refl
        (λ v found t k named. subst (λ x. Names was.frame.slots t k ⊎ ((length x.params ≤ t) × (clocks ≤ k))) (same_Some u v (sym unit_found ∙ found))
        (names.own t k named)) names.mild;
    alone = λ e. absurd (grind (arith, c.running));
  }

  -- an instruction that leaves each kind as it is, and goes to this place
  pub leaving_to : (to : ℕ) → Has (successors i was.frame.place) to → to < length u.code → ((s : ℕ) (k : Kind) → Allowed (after m u i s k) → MayBecome (after_to m u i to s k) k)
      → IsNext m u look clocks (now + 1) was (going was to)
  leaving_to to on inside rows = straight look clocks was.frame.slots to on inside
      (record { more = omega arith; width = refl; known = c.me.frame.known; apart = c.me.frame.apart; held = c.me.held; own = λ t k named. inl named; mild = λ k. inl refl })
      (λ s v at. (v, at, rows s (kind_of look v) (row_allowed s v at)))

  -- the next place, where there is one
  pub next_inside : is_ret i ≡ false → was.frame.place + 1 < length u.code
  next_inside other = c.fit.next i was.frame.place c.here other

  -- one that goes to the next
  pub leaving : is_ret i ≡ false → Has (successors i was.frame.place) (was.frame.place + 1) → ((s : ℕ) (k : Kind) → Allowed (after m u i s k) → MayBecome (after m u i s k) k)
      → IsNext m u look clocks (now + 1) was (onward was)
  leaving other on rows = leaving_to (was.frame.place + 1) on (next_inside other) (λ s k h. subst (λ r. MayBecome r k) (way_on s k) (rows s k h))

  -- what doesn't change kinds of known clocks changes no slot's
  kind_same : (new : ℕ → Kind) → (s : ℕ) (v : Value) → slice_get was.frame.slots s ≡ Some v
      → ((k : ℕ) → Names was.frame.slots s k → new k ≡ look k) → kind_of new v ≡ kind_of look v
  kind_same new s value.Unset at same = refl
  kind_same new s (value.Number n) at same = refl
  kind_same new s (value.Clock k) at same = same k at

  -- ---- a slot is written

  -- a slot after a write is the one written, or as it was
  abbrev Written : ℕ → Value → ℕ → Value → Type 0
  Written d v s x = ((s ≡ d) × (x ≡ v)) ⊎ ((s ≡ d → ⊥) × (slice_get was.frame.slots s ≡ Some x))

  -- the slots after a write
  written : (d : ℕ) (old v : Value) → slice_get was.frame.slots d ≡ Some old → Each (Written d v) (set was.frame.slots d v)
  written d old v at = each_set (Written d v) was.frame.slots d old v at (inl (refl, refl)) (λ s x differs g. inr (differs, g))

  -- what a write asks of the value that is written, and of the kinds of clocks' names after it, on the way to a place
  pub record IsWrite (to d : ℕ) (v : Value) (kd : Kind) (new : ℕ → Kind) (count : ℕ) : Type 0 where
    pub rows : (s : ℕ) (k : Kind) → Allowed (after m u i s k) → IsWritten (after_to m u i to s k) d kd s k
    pub becomes : kind_of new v ≡ kd
    pub more : clocks ≤ count
    pub same : (k : ℕ) → k < clocks → new k ≡ look k
    pub fresh : (k : ℕ) → v ≡ value.Clock k → (clocks ≤ k) × (k < count)
    pub holds : (k : ℕ) → is_held (new k) ≡ true → (is_held (look k) ≡ true) ⊎ (v ≡ value.Clock k)
    pub own : (k : ℕ) → v ≡ value.Clock k → length u.params ≤ d

  -- no two slots name one clock
  written_apart : (d : ℕ) (v : Value) (count s t k : ℕ) → ((j : ℕ) → v ≡ value.Clock j → (clocks ≤ j) × (j < count))
      → Written d v s (value.Clock k) → Written d v t (value.Clock k) → s ≡ t
  written_apart d v count s t k fresh (inl p) (inl q) = p.0 ∙ sym q.0
  written_apart d v count s t k fresh (inl p) (inr q) = let f = fresh k (sym p.1) in let h = c.me.frame.known t k q.1 in absurd (omega (arith, f.0))
  written_apart d v count s t k fresh (inr p) (inl q) = let f = fresh k (sym q.1) in let h = c.me.frame.known s k p.1 in absurd (omega (arith, f.0))
  written_apart d v count s t k fresh (inr p) (inr q) = c.me.frame.apart s t k p.1 q.1

  -- an instruction that writes slot d, and goes to this place
  pub writing_to : (d : ℕ) (old v : Value) (kd : Kind) (new : ℕ → Kind) (count : ℕ) (to : ℕ) → slice_get was.frame.slots d ≡ Some old
      → Has (successors i was.frame.place) to → to < length u.code
      → IsWrite to d v kd new count → IsNext m u new count (now + 1) was (going (with_slots was (set was.frame.slots d v)) to)
  writing_to d old v kd new count to at on inside wr = straight new count (set was.frame.slots d v) to on inside
      (record {
        more = wr.more;
        width = length-set was.frame.slots d v;
        known = λ s k named. known s k (all s (value.Clock k) named);
        apart = λ s t k p q. written_apart d v count s t k wr.fresh (all s (value.Clock k) p) (all t (value.Clock k) q);
        held = λ k h. held k (wr.holds k h);
        own = λ t k named. own t k (all t (value.Clock k) named);
        mild = λ k. mild k;
      })
      (λ s x g. turn s x (all s x g))
    where
      all : Each (Written d v) (set was.frame.slots d v)
      all = written d old v at

      known : (s k : ℕ) → Written d v s (value.Clock k) → k < count
      known s k (inl p) = (wr.fresh k (sym p.1)).1
      known s k (inr p) = let h = c.me.frame.known s k p.1 in omega (arith, wr.more)

      row : (s : ℕ) (x : Value) → slice_get was.frame.slots s ≡ Some x → IsWritten (after_to m u i to s (kind_of look x)) d kd s (kind_of look x)
      row s x g = wr.rows s (kind_of look x) (row_allowed s x g)

      held : (k : ℕ) → (is_held (look k) ≡ true) ⊎ (v ≡ value.Clock k) → ((s : ℕ) × Names (set was.frame.slots d v) s k) ⊎ NamedIn was.callers k
      held k (inr e) = inl (d, get-set_same was.frame.slots d old v at ∙ ap (λ x. Some x) e)
      held k (inl h) = elim (c.me.held k h) [
        | inl r ↦ inl (r.0, get-set_other was.frame.slots d r.0 v (λ same. false≢true (sym ((row r.0 (value.Clock k) r.1).here same).0 ∙ h)) ∙ r.1)
        | inr below ↦ inr below
      ]

      own : (t k : ℕ) → Written d v t (value.Clock k) → Names was.frame.slots t k ⊎ ((length u.params ≤ t) × (clocks ≤ k))
      own t k (inl p) = inr (subst (λ n. length u.params ≤ n) (sym p.0) (wr.own k (sym p.1)), (wr.fresh k (sym p.1)).0)
      own t k (inr p) = inl p.1

      mild : (k : ℕ) → IsMild look was.status new was.status was.frame was.callers k
      mild k = elim (cases_lt k clocks) [
        | inl old' ↦ inl (ap (once_past was.status) (wr.same k old'))
        | inr fresh ↦ inr (inr (inr (names_known m look was.status clocks was.frame was.callers c.me.waiting k fresh)))
      ]

      turn : (s : ℕ) (x : Value) → Written d v s x → (was_x : Value) × (slice_get was.frame.slots s ≡ Some was_x) × MayBecome (after_to m u i to s (kind_of look was_x)) (kind_of new x)
      turn s x (inl p) =
          let g : slice_get was.frame.slots s ≡ Some old = ap (slice_get was.frame.slots) p.0 ∙ at in
          (old, g, subst (MayBecome (after_to m u i to s (kind_of look old))) (sym (ap (kind_of new) p.1 ∙ wr.becomes)) ((row s old g).here p.0).1)
      turn s x (inr p) = (
        x,
        p.1,
        subst (MayBecome (after_to m u i to s (kind_of look x)))
            (sym (kind_same new s x p.1 (λ k named. wr.same k (c.me.frame.known s k named)))) ((row s x p.1).other p.0),
      )

  -- one that goes to the next
  pub writing : (d : ℕ) (old v : Value) (kd : Kind) (new : ℕ → Kind) (count : ℕ) → slice_get was.frame.slots d ≡ Some old → is_ret i ≡ false
      → Has (successors i was.frame.place) (was.frame.place + 1)
      → IsWrite (was.frame.place + 1) d v kd new count → IsNext m u new count (now + 1) was (onward (with_slots was (set was.frame.slots d v)))
  writing d old v kd new count at other on wr = writing_to d old v kd new count (was.frame.place + 1) at on (next_inside other) wr

  -- ---- a clock is used

  -- an instruction that uses the clock k in slot x
  pub using : (x k : ℕ) (kd : Kind) (f : Standing → Standing) → Names was.frame.slots x k → is_ret i ≡ false → Has (successors i was.frame.place) (was.frame.place + 1)
      → ((s : ℕ) (old : Kind) → Allowed (after m u i s old) → IsUsed (after m u i s old) x kd s old)
      → (is_held (look k) ≡ true → kind_by (f (stands k)) ≡ kd)
      → ((s : Standing) → is_held (kind_by (f s)) ≡ true → is_held (kind_by s) ≡ true)
      → (is_held kd ≡ true) ⊎ NamesNone was.callers k
      → IsNext m u (λ j. kind_by (only k f j (stands j))) clocks (now + 1) was (onward was)
  using x k kd f at other on rows becomes keeps below = straight new clocks was.frame.slots (was.frame.place + 1) on (next_inside other)
      (record {
        more = omega arith;
        width = refl;
        known = c.me.frame.known;
        apart = c.me.frame.apart;
        held = λ j h. c.me.held j (only_held k f keeps j (stands j) h);
        own = λ t j named. inl named;
        mild = λ j. mild j (cases_eq j k);
      })
      (λ s v g. turn s v g (cases_eq s x))
    where
      new : ℕ → Kind
      new j = kind_by (only k f j (stands j))

      row : (s : ℕ) (v : Value) → slice_get was.frame.slots s ≡ Some v → IsUsed (after m u i s (kind_of look v)) x kd s (kind_of look v)
      row s v g = rows s (kind_of look v) (row_allowed s v g)

      is_new : is_held (look k) ≡ true → new k ≡ kd
      is_new h = ap kind_by (only_here k f (stands k)) ∙ becomes h

      mild : (j : ℕ) → (j ≡ k) ⊎ (j ≡ k → ⊥) → IsMild look was.status new was.status was.frame was.callers j
      mild j (inr differs) = inl (ap (once_past was.status) (ap kind_by (only_other k f j (stands j) differs)))
      mild j (inl e) = subst (λ n. IsMild look was.status new was.status was.frame was.callers n) (sym e) (elim below [
        | inl held ↦ inr (inr (inl (ap (λ st. is_held (once_past st (new k))) c.running ∙ ap is_held (is_new ((row x (value.Clock k) at).here refl).0) ∙ held, x, at)))
        | inr none' ↦ inr (inr (inr none'))
      ])

      turn : (s : ℕ) (v : Value) → slice_get was.frame.slots s ≡ Some v → (s ≡ x) ⊎ (s ≡ x → ⊥)
          → (old : Value) × (slice_get was.frame.slots s ≡ Some old) × MayBecome (after_to m u i (was.frame.place + 1) s (kind_of look old)) (kind_of new v)
      turn s v g (inl e) =
          let same : v ≡ value.Clock k = get_once was.frame.slots s v (value.Clock k) g (ap (slice_get was.frame.slots) e ∙ at) in
          let held : is_held (look k) ≡ true = ((row x (value.Clock k) at).here refl).0 in (
            v,
            g,
            subst (MayBecome (after_to m u i (was.frame.place + 1) s (kind_of look v))) (sym (ap (kind_of new) same ∙ ap kind_by (only_here k f (stands k)) ∙ becomes held))
                (subst (λ r. MayBecome r kd) (way_on s (kind_of look v)) ((row s v g).here e).1),
          )
      turn s v g (inr differs) = (
        v,
        g,
        subst (MayBecome (after_to m u i (was.frame.place + 1) s (kind_of look v)))
            (sym (kind_same new s v g (λ j named. ap kind_by (only_other k f j (stands j)
            (λ same. differs (c.me.frame.apart s x j named (at ∙ ap (λ z. Some (value.Clock z)) (sym same))))))))
            (subst (λ r. MayBecome r (kind_of look v)) (way_on s (kind_of look v)) ((row s v g).other differs)),
      )
