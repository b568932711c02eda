-- Each step of a sound world keeps the scopes of clocks, by the forms that it can have.
use Rattle.std.proofs.Common.{◌≡◌, ℕ, zero, suc, ◌+◌, ◌<◌, ◌≤◌, Bool, true, false, cond, List, [], ◌∷◌, ◌++◌, length, map, set, ℤ, Some, inl, inr, ◌⊎◌, refl, sym, ap, ◌∙◌, subst, arith, length-set}
use Rattle.std.specs.Prelude.{slice_get}
use Rattle.std.specs.List.{list_any}
use Rattle.std.specs.Option.{option_map_or, option_and_then}
use Rattle.std.proofs.lemmas.Bool.{false≢true}
use Rattle.std.proofs.lemmas.List.{length_push, length-map}
use Rattle.std.proofs.lemmas.List.Sums.{sum_by-cons}
use Rattle.std.proofs.lemmas.Option.{same_Some, slice_get_within}
use Rattle.xk_types.specs.declared.instr.Instr.{Instr}
use Rattle.xk_types.specs.declared.instr.Instr.TheVariants as instr
use Rattle.xk_types.specs.declared.world.Value.{Value}
use Rattle.xk_types.specs.declared.world.Value.TheVariants as value
use Rattle.xk_types.specs.declared.world.Status.TheVariants as status
use Rattle.xk_types.specs.declared.world.Standing.{Standing}
use Rattle.xk_types.specs.declared.world.Standing.TheVariants as standing
use Rattle.xk_types.specs.declared.world.Event.{Event}
use Rattle.xk_types.specs.declared.world.Event.TheVariants as event
use Rattle.xk_types.specs.declared.rules.Rule.TheVariants as rule
use Rattle.xk_types.specs.declared.rules.Kind.{Kind}
use Rattle.xk_types.specs.declared.unit.ParamKind.TheVariants as param
use Rattle.xk_types.specs.Code.{UnitValue, ModuleValue, params_of, clock_arguments, is_method, is_body}
use Rattle.xk_types.specs.Blocks.{block_at, depth_at, same_block, homes, is_elsewhere, is_here}
use Rattle.xk_types.specs.World.{Frame, Finish, Activity, Clock, World, frame_with, base_of}
use Rattle.xk_types.specs.Step.{slot_at, spawned, done, made, onward, with_slots, arrived, ended, past, none, all, resumed, passed, dropped, child, left, called, back_in, new_clock, is_given, governing, joined, entered, moved, settled_clock, step, stored}
use Rattle.xk_types.specs.Order.{Has}
use Rattle.xk_types.specs.Shape.{instr_is, gives_away}
use Rattle.xk_types.specs.Acceptance.{IsAccepted}
use Rattle.xk_types.specs.Walk.{let_go, becomes}
use Rattle.xk_law_schedules.proofs.Invariant.{Each, Names, NamedIn, IsWaiting, AreWaiting, IsActivitySound, IsSound, looks, kind_by, is_held, stands_on}
use Rattle.xk_types.proofs.ListLemmas.{each_set, each_push, get_push, get-push_other, fun_ext}
use Rattle.xk_law_schedules.proofs.ClockLemmas.StandingLemmas.{stands_on-moved_same, stands_on-moved_other, length-moved, stands_on-push_old, stands_on-push_other, stands_on-joined_old, stands_on-joined_new, length-joined}
use Rattle.xk_law_schedules.proofs.ShapeLemmas.UnitLemmas.{IsFit, IsRun, unit_fits, unbroken, start_fits, call_fits}
use Rattle.xk_law_schedules.proofs.StepFormLemmas.{IsNext, GoesIn, Changes, HoldsOfForms, step_form}
use Rattle.xk_law_schedules.proofs.ShapeLemmas.BlockLemmas.{is_border, block_next, block_jump, block_round, block_opened, block_closed, block_begun, block_end, block_start}
use Rattle.xk_law_schedules.proofs.SafetyLemmas.ArgumentLemmas.{AreGiven, Begun, frame_begun, look_given, new_look}
use Rattle.xk_law_schedules.proofs.SlotKindLemmas.KindTableLemmas.{let_go_held, resumed_held, passed_held}
use Rattle.xk_law_schedules.proofs.BoundLemmas.TotalLemmas.{room_called}
use Rattle.xk_law_schedules.proofs.SlotKindLemmas.WalkLemmas.{Allowed}
use Rattle.xk_law_schedules.proofs.SafetyLemmas.EffectLemmas.{IsAt, row_allowed}
use Rattle.xk_law_schedules.proofs.ScopeLemmas.Invariant.{finish_at, opened_in, opened_by, governing_at, IsRound, round_same, round_more, round_less, IsHome, AreHome, AreRoomy, rooms_same, IsScopedIn, IsScoped, Scopes, Keeps, home_kept, homes_kept, left_scoped, settled_looks}
use Rattle.xk_types.proofs.MembershipLemmas.{has_any}
use Rattle.xk_types.proofs.ShapeLemmas.SpanLemmas.{is_same}
use Rattle.xk_law_schedules.proofs.ShapeLemmas.HomeLemmas.{make_home, param_home, handed_home}

-- ---- one activity

module _ (m : ModuleValue) (ok : IsAccepted m) (w : World) (a : ℕ) (was : Activity) (sound : IsSound m w) (scoped : IsScoped m w)
    (found : slice_get w.activities a ≡ Some was) where
  -- the invariants of the activity
  abbrev me : IsActivitySound m (looks w.clocks a) (length w.clocks) w.steps was
  me = sound.activities a was found

  abbrev mine : IsScopedIn m scoped.scopes (looks w.clocks a) a was
  mine = scoped.activities a was found

  fit : IsFit me.u
  fit = unit_fits m ok.shape was.frame.unit me.u me.unit

  -- how many finishes stand round a place of the unit that it runs
  depth_here : (f : Frame) → f.unit ≡ was.frame.unit → opened_in m f ≡ depth_at me.u f.place
  depth_here f same = ap (λ o. option_map_or (λ u. depth_at u f.place) o 0) (ap (slice_get m.units) same ∙ me.unit)

  within : Each (λ k c. a < length c.standings) w.clocks
  within k c at = subst (λ n. a < n) (sym (sound.clocks k c at).width) (slice_get_within w.activities a was found)

  -- a step that changes the activity and its standings
  done_scopes : (act : Activity) (change : ℕ → Standing → Standing) (e : Event) → ((k : ℕ) → change k standing.Apart ≡ standing.Apart)
      → IsScopedIn m scoped.scopes (λ k. kind_by (change k (stands_on w.clocks a k))) a act → Scopes m (done w a act change e)
  done_scopes act change e apart next = left_scoped m w a was act (moved a change w.clocks) scoped found (record {
    more = scoped.scopes;
    keeps = λ c g h. h;
    width = scoped.width ∙ sym (length-moved a change w.clocks);
    next = subst (λ look. IsScopedIn m scoped.scopes look a act)
        (fun_ext (λ k. kind_by (change k (stands_on w.clocks a k))) (looks (moved a change w.clocks) a)
        (λ k. ap kind_by (sym (stands_on-moved_same a change w.clocks k within apart)))) next;
    others = λ b k differs. stands_on-moved_other a b change w.clocks k differs;
  })

  -- the names of a frame of the unit, at another place with the same finishes round it, among slots that name no other clock
  frame_home : (scopes : List Finish) (look : ℕ → Kind) (f : Frame) (below : ℕ) → f.unit ≡ was.frame.unit → block_at me.u f.place ≡ block_at me.u was.frame.place
      → (s c : ℕ) → IsHome m a was.governed scopes was.frame below s c → IsHome m a was.governed scopes f below s c
  frame_home scopes look f below same block s c h =
      let is : h.u ≡ me.u = same_Some h.u me.u (sym h.found ∙ me.unit) in
      record {
        u = h.u;
        found = ap (slice_get m.units) same ∙ h.found;
        home = h.home;
        is = h.is;
        round = subst (λ v. IsRound h.home (block_at v f.place)) (sym is)
            (subst (IsRound h.home) (sym block) (subst (λ v. IsRound h.home (block_at v was.frame.place)) is h.round));
        scope = h.scope;
      }

  -- an activity that stays in its unit, in a place with the same finishes round it, and names and registers on no other clock
  stays : (act : Activity) (look : ℕ → Kind) → act.frame.unit ≡ was.frame.unit → act.callers ≡ was.callers → act.opened ≡ was.opened → act.governed ≡ was.governed
      → block_at me.u act.frame.place ≡ block_at me.u was.frame.place
      → ((s c : ℕ) → Names act.frame.slots s c → Names was.frame.slots s c)
      → ((c : ℕ) → is_held (look c) ≡ true → is_held (looks w.clocks a c) ≡ true)
      → IsScopedIn m scoped.scopes look a act
  stays act look unit callers opened governed block names fewer = record {
    opened =
        opened ∙ mine.opened ∙ sum_by-cons (opened_in m) was.frame was.callers
        ∙ ap (λ n. n + opened_by m was.callers) (depth_here was.frame refl ∙ ap length (sym block) ∙ sym (depth_here act.frame unit))
        ∙ ap (λ fs. opened_in m act.frame + opened_by m fs) (sym callers) ∙ sym (sum_by-cons (opened_in m) act.frame act.callers);
    rooms = subst (λ fs. AreRoomy m (base_of act.frame fs) (act.frame ∷ fs)) (sym callers) (rooms_same m was.frame act.frame was.callers unit mine.rooms);
    owner = λ o e. mine.owner o (ap (λ g. g.owner) (sym governed) ∙ e);
    homes = subst (λ g. AreHome m a g scoped.scopes look (act.frame ∷ act.callers)) (sym governed)
        (subst (λ fs. AreHome m a was.governed scoped.scopes look (act.frame ∷ fs)) (sym callers) (
          (λ s c named held. frame_home scoped.scopes look act.frame (opened_by m was.callers) unit block s c (mine.homes.0 s c (names s c named) (fewer c held))),
          homes_kept m a was.governed scoped.scopes scoped.scopes (looks w.clocks a) look was.callers (λ c g h. h) (λ c named held. fewer c held) mine.homes.1,
        ));
  }

  -- a step that changes frame and standings alone
  keeps_to : (act : Activity) (change : ℕ → Standing → Standing) (e : Event) → act.frame.unit ≡ was.frame.unit → act.callers ≡ was.callers
      → act.opened ≡ was.opened → act.governed ≡ was.governed
      → block_at me.u act.frame.place ≡ block_at me.u was.frame.place → ((s c : ℕ) → Names act.frame.slots s c → Names was.frame.slots s c)
      → ((k : ℕ) → change k standing.Apart ≡ standing.Apart) → ((k : ℕ) (st : Standing) → is_held (kind_by (change k st)) ≡ true → is_held (kind_by st) ≡ true)
      → Scopes m (done w a act change e)
  keeps_to act change e unit callers opened governed block names apart registers = done_scopes act change e apart
      (stays act (λ k. kind_by (change k (stands_on w.clocks a k))) unit callers opened governed block names (λ c held. registers c (stands_on w.clocks a c) held))

  -- ---- instructions

  -- the activity runs, and stands at instruction i
  module _ (running : was.status ≡ status.Running) where
    abbrev Here : Instr → Type 0
    Here i = slice_get me.u.code was.frame.place ≡ Some i

    at_it : (i : Instr) → Here i → IsAt m (stands_on w.clocks a) (length w.clocks) w.steps was me.u i
    at_it i here = record { ok = ok; me = me; unit = refl; fit = fit; running = running; here = here }

    -- where it goes on in its unit, the same finishes stand round the place
    block_of : (i : Instr) → Here i → (frame : Frame) → GoesIn i was.frame frame → block_at me.u frame.place ≡ block_at me.u was.frame.place
    block_of i here frame to = elim to.place [
      | inl e ↦ ap (block_at me.u) e ∙ block_next me.u fit.finishes was.frame.place i here to.plain
      | inr (inl aim) ↦ block_jump me.u fit.finishes fit.loops was.frame.place frame.place i here to.plain aim
      | inr (inr t) ↦ ap (block_at me.u) t.2 ∙ block_round me.u fit.finishes fit.loops t.0 was.frame.place (here ∙ ap (λ j. Some j) t.1)
    ]

    -- one that goes on in its unit
    goes_scopes : (i : Instr) → Here i → (frame : Frame) → GoesIn i was.frame frame → (change : ℕ → Standing → Standing) (e : Event) → Changes change e
        → Scopes m (done w a (record was { frame = frame }) change e)
    goes_scopes i here frame to change e changes =
        keeps_to (record was { frame = frame }) change e to.unit refl refl refl (block_of i here frame to) to.names changes.apart changes.registers

    -- a shared number that is written concerns no scope
    stored_scopes : (i : Instr) → Here i → is_border i ≡ false → (s : ℕ) (n : ℤ) (e : Event) → Scopes m (stored w a was s n e)
    stored_scopes i here plain s n e =
        let h : Scopes m (done w a (onward was) none e) = keeps_to (onward was) none e refl refl refl refl
        (block_next me.u fit.finishes was.frame.place i here plain) (λ s c named. named) (λ k. refl) (λ k st h. h) in
        record { scopes = h.scopes; width = h.width; activities = h.activities }

    -- ---- finishes

    -- `finish`
    finish_scopes : (e : ℕ) → Here (instr.Finish e) → Scopes m (done w a (entered was) none event.Opened)
    finish_scopes e here = done_scopes (entered was) none event.Opened (λ k. refl) (record {
      opened = (let d = depth_here was.frame refl in
          let n : opened_in m (entered was).frame ≡ length (block_at me.u was.frame.place ++ was.frame.place ∷ []) = depth_here (entered was).frame refl ∙ ap length block in
          omega (
            arith,
            mine.opened,
            sum_by-cons (opened_in m) was.frame was.callers,
            sum_by-cons (opened_in m) (entered was).frame was.callers,
            length_push (block_at me.u was.frame.place) was.frame.place,
          ));
      rooms = rooms_same m was.frame (entered was).frame was.callers refl mine.rooms;
      owner = mine.owner;
      homes = ((λ s c named held. inner s c (mine.homes.0 s c named held)), mine.homes.1);
    })
      where
        block : block_at me.u (was.frame.place + 1) ≡ block_at me.u was.frame.place ++ was.frame.place ∷ []
        block = block_opened me.u fit.finishes was.frame.place e here

        inner : (s c : ℕ) → IsHome m a was.governed scoped.scopes was.frame (opened_by m was.callers) s c
            → IsHome m a was.governed scoped.scopes (entered was).frame (opened_by m was.callers) s c
        inner s c h =
            let is : h.u ≡ me.u = same_Some h.u me.u (sym h.found ∙ me.unit) in
            record {
              u = h.u;
              found = h.found;
              home = h.home;
              is = h.is;
              round = subst (λ v. IsRound h.home (block_at v (was.frame.place + 1))) (sym is) (subst (IsRound h.home) (sym block)
                  (round_more h.home (block_at me.u was.frame.place) was.frame.place (subst (λ v. IsRound h.home (block_at v was.frame.place)) is h.round)));
              scope = h.scope;
            }

    -- at an `endfinish` no slot that the finish's block has made names a clock on which the activity is registered
    pub closed_home : (b : ℕ) → Here (instr.EndFinish b) → (s c : ℕ) → Names was.frame.slots s c → is_held (looks w.clocks a c) ≡ true
        → Has (homes me.u s) (block_at me.u was.frame.place) → ⊥
    closed_home b here s c named held home = false≢true (sym (let_go_held (looks w.clocks a c)
        (subst (λ x. Allowed (cond x (let_go (looks w.clocks a c) (becomes (looks w.clocks a c))) (becomes (looks w.clocks a c)))) is
        (row_allowed m (stands_on w.clocks a) (length w.clocks) w.steps was me.u (instr.EndFinish b) (at_it (instr.EndFinish b) here) s (value.Clock c) named))) ∙ held)
      where
        is : is_here (block_at me.u (b + 1)) (homes me.u s) ≡ true
        is = has_any (same_block (block_at me.u (b + 1))) (homes me.u s) (block_at me.u was.frame.place) home
            (subst (λ l. same_block (block_at me.u (b + 1)) l ≡ true) (block_begun me.u fit.finishes b was.frame.place here) (is_same (block_at me.u (b + 1))))

    -- `endfinish`
    close_scopes : (b n : ℕ) → Here (instr.EndFinish b) → was.opened ≡ suc n → Scopes m (done w a (left was n) none event.Closed)
    close_scopes b n here some = done_scopes (left was n) none event.Closed (λ k. refl) (record {
      opened = (let d = depth_here was.frame refl ∙ ap length block in
          let k = depth_here (left was n).frame refl in
          omega (
            arith,
            some,
            mine.opened,
            sum_by-cons (opened_in m) was.frame was.callers,
            sum_by-cons (opened_in m) (left was n).frame was.callers,
            length_push (block_at me.u (was.frame.place + 1)) b,
          ));
      rooms = rooms_same m was.frame (left was n).frame was.callers refl mine.rooms;
      owner = mine.owner;
      homes = ((λ s c named held. outer s c named held (mine.homes.0 s c named held)), mine.homes.1);
    })
      where
        block : block_at me.u was.frame.place ≡ block_at me.u (was.frame.place + 1) ++ b ∷ []
        block = block_closed me.u fit.finishes b was.frame.place here

        outer : (s c : ℕ) → Names was.frame.slots s c → is_held (looks w.clocks a c) ≡ true → IsHome m a was.governed scoped.scopes was.frame (opened_by m was.callers) s c
            → IsHome m a was.governed scoped.scopes (left was n).frame (opened_by m was.callers) s c
        outer s c named held h =
            let is : h.u ≡ me.u = same_Some h.u me.u (sym h.found ∙ me.unit) in
            record {
              u = h.u;
              found = h.found;
              home = h.home;
              is = h.is;
              round = subst (λ v. IsRound h.home (block_at v (was.frame.place + 1))) (sym is)
                  (elim (round_less h.home (block_at me.u (was.frame.place + 1)) b
                  (subst (IsRound h.home) block (subst (λ v. IsRound h.home (block_at v was.frame.place)) is h.round))) [
                    | inl r ↦ r
                    | inr e ↦ absurd (closed_home b here s c named held (subst (Has (homes me.u s)) (e ∙ sym block) (subst (λ v. Has (homes v s) h.home) is h.is)))
                  ]);
              scope = h.scope;
            }

    -- ---- clocks

    -- the scopes after a clock was made
    abbrev more_scopes : List Finish
    more_scopes = scoped.scopes ++ governing a was ∷ []

    more_keep : Keeps scoped.scopes more_scopes
    more_keep c g h = get-push_other scoped.scopes (governing a was) c (λ e. absurd (let r = slice_get_within scoped.scopes c g h in omega arith)) ∙ h

    -- `make`
    made_scopes : (d : ℕ) (old : Value) → Here (instr.Make d) → slot_at was d ≡ Some old
        → Scopes m (made w a (onward (with_slots was (set was.frame.slots d (value.Clock (length w.clocks))))))
    made_scopes d old here at = left_scoped m w a was act clocks scoped found (record {
      more = more_scopes;
      keeps = more_keep;
      width = omega (arith, length_push scoped.scopes (governing a was), length_push w.clocks (new_clock (length w.activities) a), scoped.width);
      next = record {
        opened = mine.opened ∙ sum_by-cons (opened_in m) was.frame was.callers
            ∙ ap (λ n. n + opened_by m was.callers) (depth_here was.frame refl ∙ ap length (sym block) ∙ sym (depth_here act.frame refl))
            ∙ sym (sum_by-cons (opened_in m) act.frame was.callers);
        rooms = rooms_same m was.frame act.frame was.callers refl mine.rooms;
        owner = mine.owner;
        homes = (
          (λ s c named held. slot s c held (all s (value.Clock c) named c refl)),
          homes_kept m a was.governed scoped.scopes more_scopes (looks w.clocks a) (looks clocks a) was.callers more_keep
              (λ c named held. old_held c (below_known was.frame was.callers c named me.waiting) held) mine.homes.1,
        );
      };
      others = λ b k differs. stands_on-push_other (length w.activities) a b w.clocks k differs;
    })
      where
        clocks : List Clock
        clocks = w.clocks ++ new_clock (length w.activities) a ∷ []

        act : Activity
        act = onward (with_slots was (set was.frame.slots d (value.Clock (length w.clocks))))

        block : block_at me.u (was.frame.place + 1) ≡ block_at me.u was.frame.place
        block = block_next me.u fit.finishes was.frame.place (instr.Make d) here refl

        -- a name is the new one, in slot d, or was there
        all : Each (λ z x. (k : ℕ) → x ≡ value.Clock k → ((z ≡ d) × (k ≡ length w.clocks)) ⊎ Names was.frame.slots z k) (set was.frame.slots d (value.Clock (length w.clocks)))
        all = each_set (λ z x. (k : ℕ) → x ≡ value.Clock k → ((z ≡ d) × (k ≡ length w.clocks)) ⊎ Names was.frame.slots z k) was.frame.slots d old (value.Clock (length w.clocks)) at
            (λ k e. inl (refl, cc)) (λ z x differs g k e. inr (g ∙ ap Some e))

        old_held : (c : ℕ) → c < length w.clocks → is_held (looks clocks a c) ≡ true → is_held (looks w.clocks a c) ≡ true
        old_held c known h = subst (λ st. is_held (kind_by st) ≡ true) (stands_on-push_old w.clocks (new_clock (length w.activities) a) a c (λ e. absurd (omega arith))) h

        below_known : (g : Frame) (fs : List Frame) (c : ℕ) → NamedIn fs c → AreWaiting m (looks w.clocks a) was.status (length w.clocks) g fs → c < length w.clocks
        below_known g [] c named waiting = absurd named
        below_known g (f ∷ fs) c (inl p) waiting = waiting.0.frame.known p.0 c p.1
        below_known g (f ∷ fs) c (inr p) waiting = below_known f fs c p waiting.1

        slot : (s c : ℕ) → is_held (looks clocks a c) ≡ true → ((s ≡ d) × (c ≡ length w.clocks)) ⊎ Names was.frame.slots s c
            → IsHome m a was.governed more_scopes act.frame (opened_by m was.callers) s c
        slot s c held (inl p) = record {
          u = me.u;
          found = me.unit;
          home = block_at me.u was.frame.place;
          is = subst (λ z. Has (homes me.u z) (block_at me.u was.frame.place)) (sym p.0) (make_home me.u d was.frame.place here);
          round = subst (IsRound (block_at me.u was.frame.place)) (sym block) (round_same (block_at me.u was.frame.place));
          scope = ap (slice_get more_scopes) (p.1 ∙ sym scoped.width) ∙ get_push scoped.scopes (governing a was)
              ∙ ap Some (governing_at a was ∙ ap (finish_at a was.governed)
              (mine.opened ∙ sum_by-cons (opened_in m) was.frame was.callers ∙ ap (λ n. n + opened_by m was.callers) (depth_here was.frame refl)));
        }
        slot s c held (inr named) = frame_home more_scopes (looks clocks a) act.frame (opened_by m was.callers) refl block s c
            (home_kept m a was.governed scoped.scopes more_scopes was.frame (opened_by m was.callers) s c more_keep
            (mine.homes.0 s c named (old_held c (me.frame.known s c named) held)))

    -- ---- units

    -- what a frame that begins names, it was given: at home in the block of the `call` or `spawn`, so that its scope is the deepest finish
    given_home : (t : ℕ) (args : List ℕ) (v : UnitValue) → slice_get m.units t ≡ Some v
        → list_any (λ x. is_elsewhere (block_at me.u was.frame.place) (homes me.u x)) (clock_arguments (params_of m t) args) ≡ false
        → (s c x : ℕ) → slice_get v.params s ≡ Some param.Clock → slice_get args s ≡ Some x → Names was.frame.slots x c → is_held (looks w.clocks a c) ≡ true
        → slice_get scoped.scopes c ≡ Some (governing a was)
    given_home t args v at kept s c x p o named held =
        let h = mine.homes.0 x c named held in
        let is : h.u ≡ me.u = same_Some h.u me.u (sym h.found ∙ me.unit) in
        let same : h.home ≡ block_at me.u was.frame.place = handed_home m me.u was.frame.place t args v at kept s x p o h.home (subst (λ y. Has (homes y x) h.home) is h.is) in
        let deep : length h.home + opened_by m was.callers ≡ was.opened =
        ap (λ l. length l + opened_by m was.callers) same ∙ ap (λ n. n + opened_by m was.callers) (sym (depth_here was.frame refl))
        ∙ sym (mine.opened ∙ sum_by-cons (opened_in m) was.frame was.callers) in
        h.scope ∙ ap (λ n. Some (finish_at a was.governed n)) deep ∙ ap Some (sym (governing_at a was))

    -- nothing is handed on outside its home
    none_away : (t : ℕ) (args : List ℕ) (i : Instr) → Here i
        → gives_away m me.u was.frame.place i ≡ list_any (λ x. is_elsewhere (block_at me.u was.frame.place) (homes me.u x)) (clock_arguments (params_of m t) args)
        → list_any (λ x. is_elsewhere (block_at me.u was.frame.place) (homes me.u x)) (clock_arguments (params_of m t) args) ≡ false
    none_away t args i here is = sym is ∙ ap (instr_is (gives_away m me.u was.frame.place)) (sym here)
        ∙ unbroken m ok.shape rule.Registers was.frame.unit me.u me.unit was.frame.place

    -- `call`, with values that are given
    called_scopes : (t : ℕ) (args : List ℕ) → Here (instr.Call t args) → (values : List Value)
        → (r : IsRun is_method m was.frame.unit t args) → AreGiven (stands_on w.clocks a) was.frame.slots r.v.params args values
        → Scopes m (done w a (called m was t values) none event.Local)
    called_scopes t args here values r given = done_scopes (called m was t values) none event.Local (λ k. refl) (record {
      opened = (let none' : opened_in m (frame_with m t values) ≡ 0 = ap (λ o. option_map_or (λ u. depth_at u 0) o 0) r.found
          ∙ ap length (block_start r.v (unit_fits m ok.shape t r.v r.found).finishes) in
          omega (arith, mine.opened, sum_by-cons (opened_in m) (frame_with m t values) (was.frame ∷ was.callers)));
      rooms = (
        (let h = room_called m ok.shape was.frame.unit me.u me.unit was.frame.place t args here in let d = depth_here was.frame refl in
            omega (arith, mine.rooms.0, sum_by-cons (opened_in m) was.frame was.callers)),
        mine.rooms,
      );
      owner = mine.owner;
      homes = ((λ s c named held. slot s c held (begins.names s c named)), mine.homes);
    })
      where
        begins : Begun m (stands_on w.clocks a) (looks w.clocks a) (length w.clocks) was.frame.slots t r.v args (frame_with m t values)
        begins = frame_begun m sound.limits ok.shape (stands_on w.clocks a) (looks w.clocks a) (length w.clocks) me.u was.frame me.frame t r.v r.found args
            r.once values given (λ s k h. refl)

        slot : (s c : ℕ) → is_held (looks w.clocks a c) ≡ true → (x : ℕ) × (slice_get r.v.params s ≡ Some param.Clock) × (slice_get args s ≡ Some x) × Names was.frame.slots x c
            → IsHome m a was.governed scoped.scopes (frame_with m t values) (opened_by m (was.frame ∷ was.callers)) s c
        slot s c held p = record {
          u = r.v;
          found = r.found;
          home = [];
          is = param_home r.v s p.1;
          round = tt;
          scope = given_home t args r.v r.found (none_away t args (instr.Call t args) here refl) s c p.0 p.1 p.2 p.3 held
              ∙ ap Some (governing_at a was ∙ ap (finish_at a was.governed) (let e = mine.opened in omega arith));
        }

    -- the end of a method
    back_scopes : Here instr.Ret → (f : Frame) (fs : List Frame) → was.callers ≡ f ∷ fs → Scopes m (done w a (back_in was f fs) none event.Local)
    back_scopes here f fs under = done_scopes (back_in was f fs) none event.Local (λ k. refl) (record {
      opened = (let none' : opened_in m was.frame ≡ 0 = depth_here was.frame refl
          ∙ ap length (block_end me.u fit.finishes was.frame.place (fit.last was.frame.place here) instr.Ret here refl) in
          let same : opened_in m f ≡ opened_in m (record f { place = f.place + 1 }) = depth f refl ∙ ap length (sym block) ∙ sym (depth (record f { place = f.place + 1 }) refl) in
          let below : opened_by m was.callers ≡ opened_in m f + opened_by m fs = ap (opened_by m) under ∙ sum_by-cons (opened_in m) f fs in
          omega (arith, mine.opened, sum_by-cons (opened_in m) was.frame was.callers, sum_by-cons (opened_in m) (record f { place = f.place + 1 }) fs));
      rooms = rooms_same m f (record f { place = f.place + 1 }) fs refl (subst (λ l. AreRoomy m (base_of was.frame l) (was.frame ∷ l)) under mine.rooms).1;
      owner = mine.owner;
      homes = ((λ s c named held. slot s c (lower.0 s c named held)), lower.1);
    })
      where
        top : IsWaiting m (looks w.clocks a) was.status (length w.clocks) was.frame f fs
        top = (subst (AreWaiting m (looks w.clocks a) was.status (length w.clocks) was.frame) under me.waiting).0

        block : block_at top.u (f.place + 1) ≡ block_at top.u f.place
        block = block_next top.u (unit_fits m ok.shape f.unit top.u top.found).finishes f.place (instr.Call was.frame.unit top.args) top.call refl

        depth : (g : Frame) → g.unit ≡ f.unit → opened_in m g ≡ depth_at top.u g.place
        depth g same = ap (λ o. option_map_or (λ u. depth_at u g.place) o 0) (ap (slice_get m.units) same ∙ top.found)

        lower : AreHome m a was.governed scoped.scopes (looks w.clocks a) (f ∷ fs)
        lower = subst (AreHome m a was.governed scoped.scopes (looks w.clocks a)) under mine.homes.1

        slot : (s c : ℕ) → IsHome m a was.governed scoped.scopes f (opened_by m fs) s c
            → IsHome m a was.governed scoped.scopes (record f { place = f.place + 1 }) (opened_by m fs) s c
        slot s c h =
            let is : h.u ≡ top.u = same_Some h.u top.u (sym h.found ∙ top.found) in
            record {
              u = h.u;
              found = h.found;
              home = h.home;
              is = h.is;
              round = subst (λ v. IsRound h.home (block_at v (f.place + 1))) (sym is)
                  (subst (IsRound h.home) (sym block) (subst (λ v. IsRound h.home (block_at v f.place)) is h.round));
              scope = h.scope;
            }

    -- what a new activity stands on, its starter stands on
    given_held : (b : Bool) (st : Standing) → is_held (kind_by (cond b st standing.Apart)) ≡ true → is_held (kind_by st) ≡ true
    given_held true st h = h
    given_held false st h = absurd (false≢true h)

    -- the finish that governs it has an owner of smaller number
    deep_owner : (d o : ℕ) → (finish_at a was.governed d).owner ≡ Some o → o ≤ a
    deep_owner zero o e = (let h = mine.owner o e in omega arith)
    deep_owner (suc d) o e = (let h = same_Some a o e in omega arith)

    -- `spawn`, with values that are given
    module _ (t : ℕ) (args : List ℕ) (here : Here (instr.Spawn t args)) (values : List Value) (r : IsRun is_body m was.frame.unit t args)
        (given : AreGiven (stands_on w.clocks a) was.frame.slots r.v.params args values) where
      abbrev new : Activity
      new = child m a was t values

      -- the activities but the new one
      abbrev before : List Activity
      before = set w.activities a (onward was)

      abbrev joined_clocks : List Clock
      joined_clocks = joined a (is_given values) w.clocks

      widths : Each (λ k c. length c.standings ≡ length before) w.clocks
      widths k c at = (sound.clocks k c at).width ∙ sym (length-set w.activities a (onward was))

      old_looks : (b : ℕ) → b < length before → looks w.clocks b ≡ looks joined_clocks b
      old_looks b inside = fun_ext (looks w.clocks b) (looks joined_clocks b)
          (λ k. ap kind_by (sym (stands_on-joined_old a b (is_given values) w.clocks k (λ j c at. omega (arith, widths j c at)))))

      new_looks : new_look (stands_on w.clocks a) values ≡ looks joined_clocks (length before)
      new_looks = fun_ext (new_look (stands_on w.clocks a) values) (looks joined_clocks (length before))
          (λ k. ap kind_by (sym (stands_on-joined_new a (length before) (is_given values) w.clocks k widths)))

      begins : Begun m (stands_on w.clocks a) (new_look (stands_on w.clocks a) values) (length w.clocks) was.frame.slots t r.v args (frame_with m t values)
      begins = frame_begun m sound.limits ok.shape (stands_on w.clocks a) (new_look (stands_on w.clocks a) values) (length w.clocks) me.u was.frame
          me.frame t r.v r.found args r.once values given (look_given (stands_on w.clocks a) values)

      slot : (s c : ℕ) → is_held (new_look (stands_on w.clocks a) values c) ≡ true → (x : ℕ) × (slice_get r.v.params s ≡ Some param.Clock)
          × (slice_get args s ≡ Some x) × Names was.frame.slots x c
          → IsHome m (length before) (governing a was) scoped.scopes (frame_with m t values) 0 s c
      slot s c held p = record {
        u = r.v;
        found = r.found;
        home = [];
        is = param_home r.v s p.1;
        round = tt;
        scope = given_home t args r.v r.found (none_away t args (instr.Spawn t args) here refl) s c p.0 p.1 p.2 p.3 (given_held (is_given values c) (stands_on w.clocks a c) held);
      }

      new_scoped : IsScopedIn m scoped.scopes (new_look (stands_on w.clocks a) values) (length before) new
      new_scoped = record {
        opened = (let none' : opened_in m (frame_with m t values) ≡ 0 = ap (λ o. option_map_or (λ u. depth_at u 0) o 0) r.found
            ∙ ap length (block_start r.v (unit_fits m ok.shape t r.v r.found).finishes) in
            omega (arith, sum_by-cons (opened_in m) (frame_with m t values) []));
        rooms = (omega arith, tt);
        owner = λ o e. (let h = deep_owner was.opened o (ap (λ g. g.owner) (sym (governing_at a was)) ∙ e) in
            let n = slice_get_within w.activities a was found in omega (arith, length-set w.activities a (onward was)));
        homes = ((λ s c named held. slot s c held (begins.names s c named)), tt);
      }

      started_scopes : Scopes m (spawned m w a was t values)
      started_scopes = record {
        scopes = scoped.scopes;
        width = scoped.width ∙ sym (length-joined a (is_given values) w.clocks) ∙ sym (length-map joined_clocks (settled_clock (w.steps + 1)));
        activities = each_push (λ b x. IsScopedIn m scoped.scopes (looks (map (settled_clock (w.steps + 1)) joined_clocks) b) b x) before new
            (λ b x at. subst (λ look. IsScopedIn m scoped.scopes look b x)
            (old_looks b (slice_get_within before b x at) ∙ sym (settled_looks (w.steps + 1) joined_clocks b)) (old b x at))
            (subst (λ look. IsScopedIn m scoped.scopes look (length before) new) (new_looks ∙ sym (settled_looks (w.steps + 1) joined_clocks (length before))) new_scoped);
      }
        where
          old : Each (λ b x. IsScopedIn m scoped.scopes (looks w.clocks b) b x) before
          old = each_set (λ b x. IsScopedIn m scoped.scopes (looks w.clocks b) b x) w.activities a was (onward was) found
              (stays (onward was) (looks w.clocks a) refl refl refl refl (block_next me.u fit.finishes was.frame.place (instr.Spawn t args) here refl)
              (λ s c named. named) (λ c held. held))
              (λ b x differs at. scoped.activities b x at)

    -- what was given to a unit was given to the one that the rules speak of
    given_to : (u v : UnitValue) (t : ℕ) (args : List ℕ) (values : List Value) → slice_get m.units t ≡ Some u → slice_get m.units t ≡ Some v
        → AreGiven (stands_on w.clocks a) was.frame.slots u.params args values → AreGiven (stands_on w.clocks a) was.frame.slots v.params args values
    given_to u v t args values found there =
        subst (λ (x : UnitValue). AreGiven (stands_on w.clocks a) was.frame.slots x.params args values) (same_Some u v (sym found ∙ there))

  -- the instruction stands in the code of its unit
  stands : (i : Instr) → IsNext m was i → slice_get me.u.code was.frame.place ≡ Some i
  stands i at = sym (ap (option_and_then (λ unit. slice_get unit.code was.frame.place)) me.unit) ∙ at.here

  -- the forms of a step
  form_scopes : HoldsOfForms (Scopes m) m w a was
  form_scopes = record {
    goes = λ i at frame to change e changes. goes_scopes at.runs i (stands i at) frame to change e changes;
    stored = λ i at plain s n e quiet. stored_scopes at.runs i (stands i at) plain s n e;
    made = λ d old at there. made_scopes at.runs d old (stands (instr.Make d) at) there;
    opened = λ e at. finish_scopes at.runs e (stands (instr.Finish e) at);
    closed = λ b n at some nobody. close_scopes at.runs b n (stands (instr.EndFinish b) at) some;
    arrives = λ at. keeps_to (arrived was) (all resumed) event.Arrived refl refl refl refl refl (λ s c named. named) (λ k. refl) (λ k st h. resumed_held st h);
    passes = λ waiting. keeps_to (past was (w.steps + 1)) (all passed) event.Passed refl refl refl refl
        (block_next me.u fit.finishes was.frame.place instr.Advance (me.advance waiting) refl)
        (λ s c named. named) (λ k. refl) (λ k st h. passed_held st h);
    calls = λ t args u values at found given.
        (let r = call_fits m ok.shape was.frame.unit me.u me.unit t args was.frame.place (stands (instr.Call t args) at) in
        called_scopes at.runs t args (stands (instr.Call t args) at) values r (given_to at.runs u r.v t args values found r.found given));
    returns = λ f fs at under. back_scopes at.runs (stands instr.Ret at) f fs under;
    over = λ at alone. keeps_to (ended was) (all dropped) event.Ended refl refl refl refl refl (λ s c named. named) (λ k. refl) (λ k st h. absurd (false≢true h));
    spawned = λ t args u values at found given.
        (let r = start_fits m ok.shape was.frame.unit me.u me.unit t args was.frame.place (stands (instr.Spawn t args) at) in
        started_scopes at.runs t args (stands (instr.Spawn t args) at) values r (given_to at.runs u r.v t args values found r.found given));
  }

-- every step of a sound world keeps its scopes
pub step_scopes : (m : ModuleValue) → IsAccepted m → (w : World) → IsSound m w → IsScoped m w → (a : ℕ) → Scopes m (step m w a)
step_scopes m ok w sound scoped a = step_form (Scopes m) m w a tt (λ c. tt) (λ act found. form_scopes m ok w a act sound scoped found)
