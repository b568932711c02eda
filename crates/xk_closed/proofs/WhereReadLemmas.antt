-- To be the same but for names and for what counts no more is an equivalence.
use Rattle.std.proofs.Common.{◌≡◌, ℕ, ℤ, ◌⊎◌, inl, inr, true, false, true≢false, List, [], ◌∷◌, ◌++◌, map, length, Option, Some, None}
use Rattle.std.proofs.Common.{option_map, refl, sym, ap, ◌∙◌, subst, arith}
use Rattle.std.specs.Prelude.{slice_get}
use Rattle.std.proofs.lemmas.Option.{none-some, same_Some, slice_get-map}
use Rattle.xk_types.specs.declared.instr.Instr.{Instr}
use Rattle.xk_types.specs.declared.instr.Instr.TheVariants as instr
use Rattle.xk_types.specs.declared.world.Status.{Status}
use Rattle.xk_types.specs.declared.world.Status.TheVariants as status
use Rattle.xk_types.specs.World.{Frame, Activity, World, is_ended}
use Rattle.xk_law_commute.specs.PlainWorlds.{AreAlike}
use Rattle.xk_law_names.specs.ClockNames.{frame_renamed, activity_renamed}
use Rattle.xk_law_names.specs.ActivityNames.{neighbours_swapped, governed_renamed}
use Rattle.xk_law_names.specs.Names.{Exchange, OfClocks, OfActivities, exchanged, all_exchanged, ArePairs}
use Rattle.xk_law_names.proofs.ClockNameListLemmas.{each-swapped}
use Rattle.xk_law_names.proofs.NameLaw.{pairs_more, same_cells}
use Rattle.xk_liveness.specs.Liveness.{SlotTable, waiting, frame_left, callers_left, live_activity, live_part, AreAlikeWhereLive}
use Rattle.xk_liveness.specs.LiveNames.{WhereLive}
use Rattle.xk_liveness.proofs.LiveNameLaw.{names_live, live_joined, where_back}
use Rattle.xk_closed.specs.Footprints.{Table, RestOf, MayDo}
use Rattle.xk_closed.specs.Unread.{IsUnread, WhereRead, without_cells}

-- ---- other shared numbers

abbrev with_cells : List ℤ → World → World
with_cells cs w = record w { cells = cs }

cells_exchanged : (cs : List ℤ) (xs : List Exchange) (w : World) → all_exchanged xs (with_cells cs w) ≡ with_cells cs (all_exchanged xs w)
cells_exchanged cs [] w = refl
cells_exchanged cs (OfClocks k ∷ xs) w = cells_exchanged cs xs (exchanged (OfClocks k) w)
cells_exchanged cs (OfActivities k ∷ xs) w = cells_exchanged cs xs (exchanged (OfActivities k) w)

cells_live : (live : SlotTable) (cs : List ℤ) (w v : World) → WhereLive live w v → WhereLive live (with_cells cs w) (with_cells cs v)
cells_live live cs w v h = (
  h.0,
  record {
    there = pairs_more h.0 w (with_cells cs w) (omega arith) (omega arith) h.1.there;
    alike = ap (live_part live) (cells_exchanged cs h.0 w) ∙ ap (with_cells cs) h.1.alike;
  },
)

-- the shared numbers are the same where the worlds are
live_cells : (live : SlotTable) (w v : World) → WhereLive live w v → w.cells ≡ v.cells
live_cells live w v h = same_cells h.0 w (all_exchanged h.0 w) (record { there = h.1.there; alike = refl })
    ∙ ap (λ (z : World). z.cells) h.1.alike

live_chain : (live : SlotTable) (w v u : World) → WhereLive live w v → WhereLive live v u → WhereLive live w u
live_chain live w v u h g = (h.0 ++ g.0, live_joined live h.0 g.0 w v u h.1 g.1)

plain_live : (live : SlotTable) (w v : World) → AreAlike w v → WhereLive live w v
plain_live live w v h = ([], names_live live [] w v (record { there = tt; alike = h }))

-- ---- who may read

module _ (rest : Table) (s : ℕ) where
  -- what an activity that hasn't ended may not do
  abbrev NeverReads : Activity → Type 0
  NeverReads act = (d : ℕ) → is_ended act.status ≡ false → MayDo rest act (instr.Get d s) → ⊥

  rest_renamed : (k : ℕ) (j : Instr) (fs : List Frame) → RestOf rest (map (frame_renamed k) fs) j → RestOf rest fs j
  rest_renamed k j [] h = h
  rest_renamed k j (f ∷ fs) (inl h) = inl h
  rest_renamed k j (f ∷ fs) (inr h) = inr (rest_renamed k j fs h)

  unread_one : (x : Exchange) (w : World) → IsUnread rest w s → IsUnread rest (exchanged x w) s
  unread_one (OfClocks k) w unread r d act at alive may = of (slice_get w.activities r) refl
      (sym (slice_get-map (activity_renamed k) w.activities r) ∙ at)
    where
      back : (old : Activity) → MayDo rest (activity_renamed k old) (instr.Get d s) → MayDo rest old (instr.Get d s)
      back old (inl h) = inl h
      back old (inr h) = inr (rest_renamed k (instr.Get d s) old.callers h)

      of : (o : Option Activity) → slice_get w.activities r ≡ o → option_map (activity_renamed k) o ≡ Some act → ⊥
      of None was is = none-some act is
      of (Some old) was is =
          let same : activity_renamed k old ≡ act = same_Some (activity_renamed k old) act is in
          unread r d old was (ap (λ (z : Activity). is_ended z.status) same ∙ alive)
          (back old (subst (λ z. MayDo rest z (instr.Get d s)) (sym same) may))
  unread_one (OfActivities k) w unread r d act at alive may = of (slice_get (neighbours_swapped k w.activities) r) refl
      (sym (slice_get-map (governed_renamed k) (neighbours_swapped k w.activities) r) ∙ at)
    where
      each : (j : ℕ) (x : Activity) → slice_get (neighbours_swapped k w.activities) j ≡ Some x → NeverReads x
      each = each-swapped NeverReads k w.activities (λ j x there d alive may. unread j d x there alive may)

      of : (o : Option Activity) → slice_get (neighbours_swapped k w.activities) r ≡ o → option_map (governed_renamed k) o ≡ Some act → ⊥
      of None was is = none-some act is
      of (Some old) was is =
          let same : governed_renamed k old ≡ act = same_Some (governed_renamed k old) act is in
          each r old was d (ap (λ (z : Activity). is_ended z.status) same ∙ alive)
          (subst (λ z. MayDo rest z (instr.Get d s)) (sym same) may)

  unread_all : (xs : List Exchange) (w : World) → IsUnread rest w s → IsUnread rest (all_exchanged xs w) s
  unread_all [] w h = h
  unread_all (x ∷ xs) w h = unread_all xs (exchanged x w) (unread_one x w h)

  -- frames that wait do so at the same places
  rest_left : (live : SlotTable) (j : Instr) (fs : List Frame) → RestOf rest fs j → RestOf rest (map (waiting live) fs) j
  rest_left live j [] h = h
  rest_left live j (f ∷ fs) (inl h) = inl h
  rest_left live j (f ∷ fs) (inr h) = inr (rest_left live j fs h)

  left_rest : (live : SlotTable) (j : Instr) (fs : List Frame) → RestOf rest (map (waiting live) fs) j → RestOf rest fs j
  left_rest live j [] h = h
  left_rest live j (f ∷ fs) (inl h) = inl h
  left_rest live j (f ∷ fs) (inr h) = inr (left_rest live j fs h)

  does_left : (live : SlotTable) (j : Instr) (f : Frame) (fs : List Frame) (st : Status) → is_ended st ≡ false
      → (rest f.unit f.place j ≡ true) ⊎ RestOf rest fs j
      → (rest (frame_left live st f).unit (frame_left live st f).place j ≡ true) ⊎ RestOf rest (callers_left live st fs) j
  does_left live j f fs status.Running alive (inl h) = inl h
  does_left live j f fs status.Running alive (inr h) = inr (rest_left live j fs h)
  does_left live j f fs status.Arrived alive (inl h) = inl h
  does_left live j f fs status.Arrived alive (inr h) = inr (rest_left live j fs h)
  does_left live j f fs status.Ended alive h = absurd (true≢false alive)

  left_does : (live : SlotTable) (j : Instr) (f : Frame) (fs : List Frame) (st : Status) → is_ended st ≡ false
      → (rest (frame_left live st f).unit (frame_left live st f).place j ≡ true) ⊎ RestOf rest (callers_left live st fs) j
      → (rest f.unit f.place j ≡ true) ⊎ RestOf rest fs j
  left_does live j f fs status.Running alive (inl h) = inl h
  left_does live j f fs status.Running alive (inr h) = inr (left_rest live j fs h)
  left_does live j f fs status.Arrived alive (inl h) = inl h
  left_does live j f fs status.Arrived alive (inr h) = inr (left_rest live j fs h)
  left_does live j f fs status.Ended alive h = absurd (true≢false alive)

  -- what is unread is so in worlds that are alike where slots are live
  unread_left : (live : SlotTable) (w v : World) → AreAlikeWhereLive live w v → IsUnread rest w s → IsUnread rest v s
  unread_left live w v same unread r d act at alive may = of (slice_get w.activities r) refl
    where
      both : option_map (live_activity live) (slice_get w.activities r) ≡ option_map (live_activity live) (slice_get v.activities r)
      both = sym (slice_get-map (live_activity live) w.activities r) ∙ ap (λ (z : World). slice_get z.activities r) same
          ∙ slice_get-map (live_activity live) v.activities r

      of : (o : Option Activity) → slice_get w.activities r ≡ o → ⊥
      of None was = none-some (live_activity live act)
          (sym (ap (option_map (live_activity live)) was) ∙ both ∙ ap (option_map (live_activity live)) at)
      of (Some old) was =
          let is : live_activity live act ≡ live_activity live old =
          same_Some (live_activity live act) (live_activity live old)
          (sym (ap (option_map (live_activity live)) at) ∙ sym both ∙ ap (option_map (live_activity live)) was) in
          let lives : is_ended old.status ≡ false = ap (λ (z : Activity). is_ended z.status) (sym is) ∙ alive in
          let there : MayDo rest (live_activity live act) (instr.Get d s) =
          does_left live (instr.Get d s) act.frame act.callers act.status alive may in
          unread r d old was lives
          (left_does live (instr.Get d s) old.frame old.callers old.status lives (subst (λ z. MayDo rest z (instr.Get d s)) is there))

  pub unread_live : (live : SlotTable) (w v : World) → WhereLive live w v → IsUnread rest w s → IsUnread rest v s
  unread_live live w v h unread = unread_left live (all_exchanged h.0 w) v h.1.alike (unread_all h.0 w unread)

-- so it is in worlds that differ in shared numbers alone
unread_plain : (rest : Table) (s : ℕ) (w v : World) → AreAlike (without_cells w) (without_cells v) → IsUnread rest w s → IsUnread rest v s
unread_plain rest s w v same unread = unread_live rest s (λ u p k. true) (without_cells w) (without_cells v)
    (plain_live (λ u p k. true) (without_cells w) (without_cells v) same) unread

-- ---- an equivalence

module _ (live : SlotTable) (rest : Table) where
  -- a world as it is with the numbers of another that is alike
  beside : (w v : World) → AreAlike (without_cells w) (without_cells v) → WhereLive live w (with_cells w.cells v)
  beside w v same = plain_live live w (with_cells w.cells v)
      (λ i. record { activities = (same i).activities; clocks = (same i).clocks; cells = w.cells; steps = 0; arguments = (same i).arguments })

  pub read_itself : (w : World) → WhereRead live rest w w
  read_itself w = (w, plain_live live w w refl, record { others = refl; many = refl; cells = λ s. inl refl })

  -- but for names
  pub read_renamed : (xs : List Exchange) (w : World) → ArePairs xs w → WhereRead live rest w (all_exchanged xs w)
  read_renamed xs w there = (
    all_exchanged xs w,
    (xs, names_live live xs w (all_exchanged xs w) (record { there = there; alike = refl })),
    record { others = refl; many = refl; cells = λ s. inl refl },
  )

  pub read_turned : (w v : World) → WhereRead live rest w v → WhereRead live rest v w
  read_turned w v h =
      let u : World = h.0 in
      let numbers : w.cells ≡ u.cells = live_cells live w u h.1 in
      let back : WhereLive live u w = where_back live w u h.1 in (
        with_cells v.cells w,
        live_chain live v (with_cells v.cells u) (with_cells v.cells w) (beside v u (sym h.2.others)) (cells_live live v.cells u w back),
        record {
          others = refl;
          many = sym h.2.many ∙ ap length (sym numbers);
          cells = λ s. by s numbers back (h.2.cells s);
        },
      )
    where
      by : (s : ℕ) → w.cells ≡ h.0.cells → WhereLive live h.0 w → (slice_get h.0.cells s ≡ slice_get v.cells s) ⊎ IsUnread rest h.0 s
          → (slice_get v.cells s ≡ slice_get w.cells s) ⊎ IsUnread rest (with_cells v.cells w) s
      by s numbers back (inl p) = inl (sym p ∙ ap (λ cs. slice_get cs s) (sym numbers))
      by s numbers back (inr unread) = inr (unread_live rest s live h.0 w back unread)

  pub read_chain : (w v z : World) → WhereRead live rest w v → WhereRead live rest v z → WhereRead live rest w z
  read_chain w v z h g =
      let u : World = h.0 in
      let x : World = g.0 in
      let numbers : v.cells ≡ x.cells = live_cells live v x g.1 in (
        with_cells u.cells x,
        live_chain live w u (with_cells u.cells x) h.1
            (live_chain live u (with_cells u.cells v) (with_cells u.cells x) (beside u v h.2.others) (cells_live live u.cells v x g.1)),
        record {
          others = g.2.others;
          many = h.2.many ∙ ap length numbers ∙ g.2.many;
          cells = λ s. by s numbers (h.2.cells s) (g.2.cells s);
        },
      )
    where
      by : (s : ℕ) → v.cells ≡ g.0.cells → (slice_get h.0.cells s ≡ slice_get v.cells s) ⊎ IsUnread rest h.0 s
          → (slice_get g.0.cells s ≡ slice_get z.cells s) ⊎ IsUnread rest g.0 s
          → (slice_get h.0.cells s ≡ slice_get z.cells s) ⊎ IsUnread rest (with_cells h.0.cells g.0) s
      by s numbers p (inr unread) = inr unread
      by s numbers (inl p) (inl q) = inl (p ∙ ap (λ cs. slice_get cs s) numbers ∙ q)
      by s numbers (inr unread) q = inr (unread_live rest s live v g.0 g.1 (unread_plain rest s h.0 v h.2.others unread))
