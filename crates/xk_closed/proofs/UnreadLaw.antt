-- Worlds that differ in shared numbers that nobody can read any more go on alike.
use Rattle.std.proofs.Common.{◌≡◌, ℕ, ℤ, pos, suc, zero, ◌+◌, ◌⊎◌, inl, inr, true, false, true≢false, List, [], ◌∷◌, map, length, set}
use Rattle.std.proofs.Common.{get_or, Option, Some, None, option_map, is_some, refl, sym, ap, ◌∙◌, subst, arith, length-set, eqb-true}
use Rattle.std.specs.Prelude.{slice_get}
use Rattle.std.proofs.lemmas.Option.{same_Some}
use Rattle.std.proofs.lemmas.List.{map-set}
use Rattle.xk_types.specs.declared.instr.Instr.{Instr}
use Rattle.xk_types.specs.declared.instr.Instr.TheVariants as instr
use Rattle.xk_types.specs.declared.world.Event.{Event}
use Rattle.xk_types.specs.declared.world.Event.TheVariants as event
use Rattle.xk_types.specs.Acceptance.{IsAccepted}
use Rattle.xk_types.specs.Code.{ModuleValue, IsWithinLimits}
use Rattle.xk_types.specs.World.{Activity, World, is_ended}
use Rattle.xk_types.specs.Step.{Stepped, step, settled_clock, moved}
use Rattle.xk_types.specs.Schedule.{all_ended}
use Rattle.xk_types.proofs.ListLemmas.{get-set_other}
use Rattle.xk_law_schedules.proofs.StepFormLemmas.{IsNext}
use Rattle.xk_law_commute.specs.PlainWorlds.{plain_activity, plain_clock, plain, AreAlike}
use Rattle.xk_law_commute.specs.Conflicts.{reads}
use Rattle.xk_law_commute.proofs.StepEffect.{written, enacted, aged, change_by}
use Rattle.xk_law_commute.proofs.ViewLemmas.{Goes, Sees, IsNone, DoesAct, DoesMake, DoesStart, goes}
use Rattle.xk_law_commute.proofs.ChangeSquareLemmas.{same_step, not_none, found_of}
use Rattle.xk_law_commute.proofs.StartSquareLemmas.{alive_of}
use Rattle.xk_law_commute.proofs.AwaitIndependenceLemmas.{same_or_not}
use Rattle.xk_law_commute.proofs.QuietStepLaw.{alike_worlds_go_alike}
use Rattle.xk_law_traces.proofs.StepEventLemmas.{others_stay}
use Rattle.xk_liveness.specs.Liveness.{SlotTable, IsLiveness, AreAlikeWhereLive}
use Rattle.xk_liveness.specs.LiveNames.{WhereLive}
use Rattle.xk_closed.specs.Closed.{IsCarried}
use Rattle.xk_closed.specs.Footprints.{Table, IsRest, IsPhase, MayDo}
use Rattle.xk_closed.specs.Unread.{IsUnread, AreAlikeButUnread, WhereRead}
use Rattle.xk_closed.proofs.FootprintLaw as footprint
use Rattle.xk_closed.proofs.ClosedLaw.{by_live}
use Rattle.xk_closed.proofs.WhereReadLemmas.{read_turned}

-- ---- lists

some_many : {X : Type 0} (xs ys : List X) → length xs ≡ length ys → (c : ℕ) → is_some (slice_get xs c) ≡ is_some (slice_get ys c)
some_many [] [] h c = refl
some_many [] (y ∷ ys) h c = absurd (omega (arith, h))
some_many (x ∷ xs) [] h c = absurd (omega (arith, h))
some_many (x ∷ xs) (y ∷ ys) h zero = refl
some_many (x ∷ xs) (y ∷ ys) h (suc c) = some_many xs ys (omega (arith, h)) c

write_there : (g : ℤ → ℤ) (xs : List ℤ) (c : ℕ) (d : ℤ) → slice_get (set xs c (g (get_or xs c d))) c ≡ option_map g (slice_get xs c)
write_there g [] c d = refl
write_there g (x ∷ xs) zero d = refl
write_there g (x ∷ xs) (suc c) d = write_there g xs c d

written_many : (writes : Option (ℕ × (ℤ → ℤ))) (xs ys : List ℤ) → length xs ≡ length ys
    → length (written writes xs) ≡ length (written writes ys)
written_many None xs ys h = h
written_many (Some p) xs ys h =
    length-set xs p.0 (p.1 (get_or xs p.0 (pos 0))) ∙ h ∙ sym (length-set ys p.0 (p.1 (get_or ys p.0 (pos 0))))

written_same : (writes : Option (ℕ × (ℤ → ℤ))) (xs ys : List ℤ) (s : ℕ) → slice_get xs s ≡ slice_get ys s
    → slice_get (written writes xs) s ≡ slice_get (written writes ys) s
written_same None xs ys s h = h
written_same (Some p) xs ys s h = by (same_or_not s p.0)
  where
    by : (s ≡ p.0) ⊎ (s ≡ p.0 → ⊥) → slice_get (written (Some p) xs) s ≡ slice_get (written (Some p) ys) s
    by (inr differs) = get-set_other xs p.0 s (p.1 (get_or xs p.0 (pos 0))) differs ∙ h
        ∙ sym (get-set_other ys p.0 s (p.1 (get_or ys p.0 (pos 0))) differs)
    by (inl same) = subst (λ z. slice_get (written (Some p) xs) z ≡ slice_get (written (Some p) ys) z) (sym same)
        (write_there p.1 xs p.0 (pos 0) ∙ ap (option_map p.1) (subst (λ z. slice_get xs z ≡ slice_get ys z) same h) ∙ sym (write_there p.1 ys p.0 (pos 0)))

module _ (m : ModuleValue) (rest : Table) (R : IsRest m rest) where
  as_phase : IsPhase m rest rest
  as_phase = record {
    own = R.own;
    goes = λ f i j q at plain behind h. R.goes f i j q at behind h;
    calls = R.calls;
    behind = λ f t args j at h. R.on f.unit f.place j h;
    starts = R.starts;
    within = λ u p j h. h;
  }

  -- what is unread stays so
  unread_on : (w u : World) (a : ℕ) (e : Event) (s : ℕ) → step m w a ≡ Stepped u e → IsUnread rest w s → IsUnread rest u s
  unread_on w u a e s takes unread r d act at alive may = by (same_or_not r a) (slice_get w.activities r) refl
    where
      x : (old : Activity) × (slice_get w.activities a ≡ Some old)
      x = found_of m w a u e takes

      lives : is_ended x.0.status ≡ false
      lives = alive_of m w a x.0 u e x.1 takes

      moves : footprint.Goes m rest rest R as_phase w a x.0 u e
      moves = footprint.goes_by m rest rest R as_phase w a x.0 x.1 u e takes

      by : (r ≡ a) ⊎ (r ≡ a → ⊥) → (o : Option Activity) → slice_get w.activities r ≡ o → ⊥
      by (inl same) o was =
          let is : act ≡ moves.next = same_Some act moves.next (sym at ∙ ap (slice_get u.activities) same ∙ moves.there) in
          unread a d x.0 x.1 lives (moves.rests (instr.Get d s) (subst (λ z. MayDo rest z (instr.Get d s)) is may))
      by (inr differs) (Some old) was =
          let is : old ≡ act = same_Some old act (sym (others_stay m w u a r e old takes differs was) ∙ at) in
          unread r d old was (ap (λ (z : Activity). is_ended z.status) is ∙ alive) (subst (λ z. MayDo rest z (instr.Get d s)) (sym is) may)
      by (inr differs) None was =
          unread a d x.0 x.1 lives (moves.child r act at (footprint.none_far w.activities r was) (instr.Get d s) may).0

  -- ---- one world, and as it is with other numbers

  module _ (w : World) (cs : List ℤ) (many : length w.cells ≡ length cs)
      (agree : (s : ℕ) → (slice_get w.cells s ≡ slice_get cs s) ⊎ IsUnread rest w s)
      (a : ℕ) (u : World) (e : Event) (takes : step m w a ≡ Stepped u e) where
    abbrev other : World
    other = record w { cells = cs }

    x : (act : Activity) × (slice_get w.activities a ≡ Some act)
    x = found_of m w a u e takes

    -- what it reads is the same
    same_read : (i : Instr) → IsNext m x.0 i → (c : ℕ) → reads i c ≡ true → slice_get cs c ≡ slice_get w.cells c
    same_read (instr.Get d k) next c h = by (agree c)
      where
        is : c ≡ k
        is = eqb-true c k h

        by : (slice_get w.cells c ≡ slice_get cs c) ⊎ IsUnread rest w c → slice_get cs c ≡ slice_get w.cells c
        by (inl p) = sym p
        by (inr unread) = absurd (unread a d x.0 x.1 (alive_of m w a x.0 u e x.1 takes)
            (inl (subst (λ z. rest x.0.frame.unit x.0.frame.place (instr.Get d z) ≡ true) (sym is) (R.own x.0.frame (instr.Get d k) next.here))))
    same_read _ next c h = absurd (true≢false (sym h))

    sees : Sees m w other a x.0 x.0.since
    sees = record {
      there = x.1;
      then = x.1;
      clocks = λ s k h. refl;
      cells = same_read;
      width = λ c. sym (some_many w.cells cs many c);
      waits = λ h. h;
      awaits = λ h. h;
    }

    abbrev Led : Type 0
    Led = (z : World) × (step m other a ≡ Stepped z e) × AreAlikeButUnread rest u z

    -- to two worlds with such numbers
    led : (y z : World) (f : Event) → step m w a ≡ Stepped y f → step m other a ≡ Stepped z f
        → AreAlike (record y { cells = [] }) (record z { cells = [] })
        → length y.cells ≡ length z.cells → ((s : ℕ) → slice_get w.cells s ≡ slice_get cs s → slice_get y.cells s ≡ slice_get z.cells s)
        → Led
    led y z f here there others more same =
        let one : (y ≡ u) × (f ≡ e) = same_step y u f e (sym here ∙ takes) in (
          z,
          there ∙ ap (Stepped z) one.1,
          record {
            others = ap (λ (k : World). plain (record k { cells = [] })) (sym one.0) ∙ others;
            many = ap (λ (k : World). length k.cells) (sym one.0) ∙ more;
            cells = λ s. by s (agree s) one.0;
          },
        )
      where
        by : (s : ℕ) → (slice_get w.cells s ≡ slice_get cs s) ⊎ IsUnread rest w s → y ≡ u
            → (slice_get u.cells s ≡ slice_get z.cells s) ⊎ IsUnread rest u s
        by s (inl p) is = inl (ap (λ (k : World). slice_get k.cells s) (sym is) ∙ same s p)
        by s (inr unread) is = inr (unread_on w u a e s takes unread)

    steps_on : Led
    steps_on = by (goes m w other a x.0 x.0.since sees)
      where
        by : Goes m w other a x.0 x.0.since (step m w a) (step m other a) → Led
        by (IsNone g) = absurd (not_none (step m w a) u e takes g)
        by (DoesAct A) = led (enacted w a A.next A.move A.writes) (enacted other a (aged A.next A.now) A.move A.writes) A.e A.here A.there
            (λ i. record {
              activities = (map-set plain_activity w.activities a A.next ∙ sym (map-set plain_activity w.activities a (aged A.next A.now))) i;
              clocks = map plain_clock (map (settled_clock (w.steps + 1)) (moved a (change_by A.move) w.clocks));
              cells = [];
              steps = 0;
              arguments = w.arguments;
            })
            (written_many A.writes w.cells cs many)
            (λ s p. written_same A.writes w.cells cs s p)
        by (DoesMake M) = led _ _ event.Made M.here M.there refl many (λ s p. p)
        by (DoesStart S) = led _ _ event.Spawned S.here S.there refl many (λ s p. p)

  -- ---- two worlds

  pub unread_step : (w v u : World) (a : ℕ) (e : Event) → AreAlikeButUnread rest w v → step m w a ≡ Stepped u e
      → (z : World) × (step m v a ≡ Stepped z e) × AreAlikeButUnread rest u z
  unread_step w v u a e same takes =
      let one = steps_on w v.cells same.many same.cells a u e takes in
      let alike : AreAlike (record w { cells = v.cells }) v =
      (λ i. record { activities = (same.others i).activities; clocks = (same.others i).clocks; cells = v.cells; steps = 0; arguments = (same.others i).arguments }) in
      let two = (alike_worlds_go_alike m).steps (record w { cells = v.cells }) v one.0 a e alike one.1 in (
        two.0,
        two.1,
        record {
          others = one.2.others ∙ ap (λ (k : World). record k { cells = [] }) two.2;
          many = one.2.many ∙ ap (λ (k : World). length k.cells) two.2;
          cells = λ s. by one.0 two.0 s two.2 (one.2.cells s);
        },
      )
    where
      by : (z y : World) (s : ℕ) → AreAlike z y → (slice_get u.cells s ≡ slice_get z.cells s) ⊎ IsUnread rest u s
          → (slice_get u.cells s ≡ slice_get y.cells s) ⊎ IsUnread rest u s
      by z y s alike (inl p) = inl (p ∙ ap (λ (k : World). slice_get k.cells s) alike)
      by z y s alike (inr unread) = inr unread

  pub unread_ends : (w v : World) → AreAlikeButUnread rest w v → all_ended w ≡ all_ended v
  unread_ends w v same = (alike_worlds_go_alike m).ends (record w { cells = [] }) (record v { cells = [] }) same.others

  pub by_unread : IsCarried m (AreAlikeButUnread rest)
  by_unread = record {
    steps = λ w v u a e here same takes. (let r = unread_step w v u a e same takes in (a, r.0, r.1, r.2));
    ends = unread_ends;
  }

  pub by_read : IsWithinLimits m → IsAccepted m → (live : SlotTable) → IsLiveness m live → IsCarried m (WhereRead live rest)
  by_read limits ok live liveness =
      let first : IsCarried m (WhereLive live) = by_live m limits ok live liveness in
      record {
        steps = λ w v u a e here same takes.
            (let p = first.steps w same.0 u a e here same.1 takes in
            let q = unread_step same.0 v p.1 p.0 e same.2 p.2 in
            (p.0, q.0, q.1, (p.1, p.3, q.2)));
        ends = λ w v same. first.ends w same.0 same.1 ∙ unread_ends same.0 v same.2;
      }

  pub by_read_back : IsWithinLimits m → IsAccepted m → (live : SlotTable) → IsLiveness m live → IsCarried m (λ w v. WhereRead live rest v w)
  by_read_back limits ok live liveness =
      let law : IsCarried m (WhereRead live rest) = by_read limits ok live liveness in
      record {
        steps = λ w v u a e here same takes.
            (let r = law.steps w v u a e here (read_turned live rest v w same) takes in (r.0, r.1, r.2, read_turned live rest u r.1 r.3));
        ends = λ w v same. sym (law.ends v w same);
      }

-- ---- two worlds that are compared

pub compared : (rest : Table) (live : SlotTable) (w v : World) → AreAlikeWhereLive live (record w { cells = [] }) (record v { cells = [] })
    → length w.cells ≡ length v.cells
    → ((s : ℕ) → (slice_get w.cells s ≡ slice_get v.cells s) ⊎ IsUnread rest v s) → WhereRead live rest w v
compared rest live w v alike many cells = (
  record v { cells = w.cells },
  (
    [],
    record {
      there = tt;
      alike = λ i. record {
        activities = (alike i).activities;
        clocks = (alike i).clocks;
        cells = w.cells;
        steps = 0;
        arguments = (alike i).arguments;
      };
    },
  ),
  record { others = refl; many = many; cells = cells },
)
