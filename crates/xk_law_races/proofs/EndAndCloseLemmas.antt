-- The deeds by which an activity ends or a finish is closed, and the finishes around their turns.
use Rattle.std.proofs.Common.{◌≡◌, ℕ, ℤ, suc, ◌<◌, ◌⊎◌, inl, inr, true, List, [], ◌∷◌, ◌++◌, length, Some, sym, ap, ◌∙◌, subst, arith}
use Rattle.std.specs.Prelude.{slice_get}
use Rattle.std.specs.Option.{option_map_or}
use Rattle.std.proofs.lemmas.Option.{same_Some}
use Rattle.xk_types.specs.declared.world.Entry.{Entry}
use Rattle.xk_types.specs.declared.world.Event.{Event}
use Rattle.xk_types.specs.declared.world.Event.TheVariants as event
use Rattle.xk_types.specs.Acceptance.{IsAccepted}
use Rattle.xk_types.specs.Code.{ModuleValue, IsWithinLimits}
use Rattle.xk_types.specs.World.{Activity, World, AreArguments, opening, is_ended}
use Rattle.xk_types.specs.Step.{Stepped, step}
use Rattle.xk_types.specs.Schedule.{Through, run, run_on, IsReached}
use Rattle.xk_types.specs.Logs.{schedule_of}
use Rattle.xk_types.proofs.ListLemmas.{get-set_same}
use Rattle.xk_law_schedules.proofs.ReachabilityLemmas.{same_through, opening_reached}
use Rattle.xk_law_commute.proofs.ChangeSquareLemmas.{found_of}
use Rattle.xk_law_traces.proofs.SwapLemmas.{reached_run}
use Rattle.xk_show_events.specs.declared.steps.RunStep.{RunStep}
use Rattle.xk_show_events.specs.Steps.{run_step}
use Rattle.xk_races.specs.declared.deeds.Deed.{Deed}
use Rattle.xk_races.specs.declared.deeds.Part.TheVariants as part
use Rattle.xk_races.specs.Deeds.{deeds_of_run, tell_deeds}
use Rattle.xk_races.specs.Knowledge.{Scopes, nothing_known}
use Rattle.xk_races.specs.Lists.{number_at}
use Rattle.xk_races.specs.Order.{IsAt, finish_at, scopes_after}
use Rattle.xk_law_races.specs.Finishes.{IsWorldOf}
use Rattle.xk_law_races.proofs.NumberedFinishLemmas.{Nest, AreNumbered, number, base}
use Rattle.xk_law_races.proofs.NestChangeLemmas.{Change}
use Rattle.xk_law_races.proofs.StepNestingLemmas.{Nests, Effect, DoesGo, DoesStart, effect_of}
use Rattle.xk_law_races.proofs.TurnLemmas.{Turn, IsToldOf, deeds, deeds_run, deeds_first, told_at, IsEarlier, AreOne, run_between}
use Rattle.xk_law_races.proofs.TurnLemmas.{one_event, turn_reached, in_order}
use Rattle.xk_law_races.proofs.DeedPartLemmas.{Says, part_is}
use Rattle.xk_law_races.proofs.RunWorldLemmas.{world_of}
use Rattle.xk_law_races.proofs.ScopeLemmas.{nest, opened_in, scopes_append, change_step, numbered_step, numbered_run, opening_numbered}
use Rattle.xk_law_races.proofs.OpenFinishLemmas.{along_run, end_closed}
use Rattle.xk_law_races.proofs.LinkLemmas.{finish_is}

-- a legal run of a module that the verifier accepts
pub record LegalRun : Type 0 where
  pub m : ModuleValue
  pub args : List ℤ
  pub limits : IsWithinLimits m
  pub ok : IsAccepted m
  pub taken : AreArguments m args
  pub log : List Entry
  pub z : World
  pub legal : run m (schedule_of log) (opening m args) ≡ Through z

pub not_both : event.Ended ≡ event.Closed → ⊥
not_both h = cc

module _ (trace : LegalRun) where
  open trace use {m, args, limits, ok, taken, log, z, legal}

  abbrev w : World
  w = opening m args

  abbrev s : List ℕ
  s = schedule_of log

  abbrev ds : List Deed
  ds = deeds_of_run m args log

  abbrev At : Type 0
  At = Turn m w s

  abbrev start : Scopes
  start = nothing_known.scopes

  pub reached : IsReached m w
  reached = opening_reached m args taken

  abbrev pub scopes_at : At → Scopes
  scopes_at t = scopes_after (deeds m t.before w) start

  abbrev pub scopes_behind : At → Scopes
  scopes_behind t = scopes_after (tell_deeds m t.act t.here t.there t.e) (scopes_at t)

  -- the finishes there
  abbrev pub nest_at : At → Nest
  nest_at t = nest (scopes_at t) t.here.activities

  abbrev pub nest_behind : At → Nest
  nest_behind t = nest (scopes_behind t) t.there.activities

  pub numbered_at : (t : At) → AreNumbered (nest_at t)
  numbered_at t = numbered_run m t.before w t.here start t.leads (opening_numbered m args)

  pub numbered_behind : (t : At) → AreNumbered (nest_behind t)
  numbered_behind t = numbered_step m t.here t.there t.act t.e (scopes_at t) t.takes (numbered_at t)

  reached_behind : (t : At) → IsReached m t.there
  reached_behind t = reached_run m (t.act ∷ []) t.here t.there (turn_reached m w s t reached) (ap (λ o. run_on t.here o (run m [])) t.takes)

  pub change_at : (t : At) → Change (nest_at t) (nest_behind t) t.act t.e
  change_at t = change_step m t.here t.there t.act t.e (scopes_at t) t.takes

  pub scopes_between : (t u : At) (e : IsEarlier m w s t u) → scopes_at u ≡ scopes_after (deeds m e.0 t.there) (scopes_behind t)
  scopes_between t u e =
      ap (λ l. scopes_after l start)
      (ap (λ l. deeds m l w) e.1 ∙ deeds_run m t.before (t.act ∷ e.0) w t.here t.leads
      ∙ ap (λ l. deeds m t.before w ++ l) (deeds_first m e.0 t.here t.there t.act t.e t.takes))
      ∙ scopes_append (deeds m t.before w) (tell_deeds m t.act t.here t.there t.e ++ deeds m e.0 t.there) start
      ∙ scopes_append (tell_deeds m t.act t.here t.there t.e) (deeds m e.0 t.there) (scopes_at t)

  -- what each step keeps is kept from behind one turn to another
  pub between : (P : Scopes → World → Type 0)
      → ((q : Scopes) (x y : World) (a : ℕ) (e : Event) → step m x a ≡ Stepped y e → IsReached m x → AreNumbered (nest q x.activities)
      → P q x → P (scopes_after (tell_deeds m a x y e) q) y)
      → (t u : At) → IsEarlier m w s t u → P (scopes_behind t) t.there → P (scopes_at u) u.here
  between P keeps t u e p =
      subst (λ q. P q u.here) (sym (scopes_between t u e))
      (along_run m P keeps e.0 t.there u.here (scopes_behind t) (run_between m w s t u e) (reached_behind t) (numbered_behind t) p)

  -- deed number k is d, the first one of a step that is seen as this
  pub record Shows (k : ℕ) (d : Deed) (e : Event) : Type 0 where
    pub turn : At
    pub told : IsToldOf m w s turn k d
    pub seen : turn.e ≡ e
    pub first : told.offset ≡ 0
    pub whose : d.step.act ≡ turn.act
    pub who : Activity
    pub found : slice_get turn.here.activities turn.act ≡ Some who

  abbrev pub shows : (k : ℕ) (d : Deed) (e : Event) (t : At) (r : IsToldOf m w s t k d) → (t.e ≡ e) × (r.offset ≡ 0) → Shows k d e
  shows k d e t r says =
      let x = found_of m t.here t.act t.there t.e t.takes in
      record {
        turn = t;
        told = r;
        seen = says.0;
        first = says.1;
        whose = ap (λ (p : RunStep). p.act) (part_is m w s t k d r).0;
        who = x.0;
        found = x.1;
      }

  pub shows_end : (k : ℕ) (d : Deed) → IsAt ds k d → d.part ≡ part.End → Shows k d event.Ended
  shows_end k d at is =
      let r = told_at m s w z legal k d at in
      shows k d event.Ended r.0 r.1
      (subst (Says m (run_step r.0.act r.0.here r.0.there r.0.e) r.0.here r.0.there r.0.e r.1.offset) is (part_is m w s r.0 k d r.1).1)

  pub shows_close : (k : ℕ) (d : Deed) → IsAt ds k d → d.part ≡ part.Close → Shows k d event.Closed
  shows_close k d at is =
      let r = told_at m s w z legal k d at in
      shows k d event.Closed r.0 r.1
      (subst (Says m (run_step r.0.act r.0.here r.0.there r.0.e) r.0.here r.0.there r.0.e r.1.offset) is (part_is m w s r.0 k d r.1).1)

  -- who takes it, by the world of its number
  pub same_who : (k : ℕ) (d : Deed) (e : Event) (h : Shows k d e) (here : World) (x : Activity) → IsWorldOf m args log d.step.number here
      → slice_get here.activities d.step.act ≡ Some x → x ≡ h.who
  same_who k d e h here x there at =
      let one : here ≡ h.turn.here = same_through here h.turn.here (sym there ∙ world_of m args log h.turn k d h.told) in
      same_Some x h.who
      (sym at ∙ ap (λ (v : World). slice_get v.activities d.step.act) one ∙ ap (slice_get h.turn.here.activities) h.whose ∙ h.found)

  pub many_open : (k : ℕ) (d : Deed) (e : Event) (h : Shows k d e) → opened_in h.turn.here.activities h.turn.act ≡ h.who.opened
  many_open k d e h = ap (λ o. option_map_or (λ (x : Activity). x.opened) o 0) h.found

  -- the finish that an activity is in at the deed
  pub in_finish : (k : ℕ) (d : Deed) (e : Event) (h : Shows k d e)
      → finish_at ds k d.step.act ≡ number_at (scopes_at h.turn).within h.turn.act
  in_finish k d e h =
      ap (finish_at ds k) h.whose ∙ finish_is m args limits ok taken s z legal h.turn k d h.told h.first h.turn.act

  -- a close leaves one finish fewer open
  pub one_fewer : (k : ℕ) (d : Deed) (h : Shows k d event.Closed) → h.who.opened ≡ suc (opened_in h.turn.there.activities h.turn.act)
  one_fewer k d h = by (effect_of m h.turn.here h.turn.there h.turn.act h.who h.turn.e h.found h.turn.takes)
    where
      by : Effect m h.turn.here h.turn.there h.turn.act h.who h.turn.e → h.who.opened ≡ suc (opened_in h.turn.there.activities h.turn.act)
      by (DoesGo g) =
          let nests : Nests m event.Closed h.who g.next = subst (λ f. Nests m f h.who g.next) h.seen g.nests in
          let at = ap (λ l. slice_get l h.turn.act) g.activities ∙ get-set_same h.turn.here.activities h.turn.act h.who g.next h.found in
          nests.0 ∙ ap suc (sym (ap (λ o. option_map_or (λ (x : Activity). x.opened) o 0) at))
      by (DoesStart g) = absurd (other (sym h.seen ∙ g.is))
        where
          other : event.Closed ≡ event.Spawned → ⊥
          other e = cc

  -- who ends is over behind the step, and has as many
  pub after_end : (k : ℕ) (d : Deed) (h : Shows k d event.Ended)
      → (next : Activity) × (slice_get h.turn.there.activities h.turn.act ≡ Some next)
      × (is_ended next.status ≡ true) × (next.opened ≡ h.who.opened)
  after_end k d h = by (effect_of m h.turn.here h.turn.there h.turn.act h.who h.turn.e h.found h.turn.takes)
    where
      by : Effect m h.turn.here h.turn.there h.turn.act h.who h.turn.e
          → (next : Activity) × (slice_get h.turn.there.activities h.turn.act ≡ Some next) × (is_ended next.status ≡ true)
          × (next.opened ≡ h.who.opened)
      by (DoesGo g) =
          let nests : Nests m event.Ended h.who g.next = subst (λ f. Nests m f h.who g.next) h.seen g.nests in
          let at = ap (λ l. slice_get l h.turn.act) g.activities ∙ get-set_same h.turn.here.activities h.turn.act h.who g.next h.found in
          (g.next, at, nests.1, nests.0)
      by (DoesStart g) = absurd (other (sym h.seen ∙ g.is))
        where
          other : event.Ended ≡ event.Spawned → ⊥
          other e = cc

  -- none
  pub none_open : (k : ℕ) (d : Deed) (h : Shows k d event.Ended) → h.who.opened ≡ 0
  none_open k d h =
      let x = after_end k d h in
      end_closed m limits ok h.turn.here h.turn.there h.turn.act h.turn.e h.who x.0 (turn_reached m w s h.turn reached)
      h.turn.takes h.found x.1 x.2

  -- so the finish that it is in governs it
  pub base_is : (k : ℕ) (d : Deed) (h : Shows k d event.Ended)
      → base (nest_at h.turn) h.turn.act ≡ number_at (scopes_at h.turn).within h.turn.act
  base_is k d h = ap (number (nest_at h.turn) h.turn.act) (many_open k d event.Ended h ∙ none_open k d h)

  -- what closes behind an end, or behind another close, is a later step
  pub behind_end : (k j : ℕ) (d e : Deed) (h : Shows k d event.Ended) (g : Shows j e event.Closed) → k < j → IsEarlier m w s h.turn g.turn
  behind_end k j d e h g less = by (in_order m w s h.turn g.turn k j d e h.told g.told less)
    where
      by : IsEarlier m w s h.turn g.turn ⊎ AreOne m w s h.turn g.turn → IsEarlier m w s h.turn g.turn
      by (inl earlier) = earlier
      by (inr one) = absurd (not_both (sym h.seen ∙ one_event m w s h.turn g.turn one ∙ g.seen))

  pub behind_close : (k j : ℕ) (d e : Deed) (h : Shows k d event.Closed) (g : Shows j e event.Closed) → k < j
      → IsEarlier m w s h.turn g.turn
  behind_close k j d e h g less = by (in_order m w s h.turn g.turn k j d e h.told g.told less)
    where
      by : IsEarlier m w s h.turn g.turn ⊎ AreOne m w s h.turn g.turn → IsEarlier m w s h.turn g.turn
      by (inl earlier) = earlier
      by (inr one) =
          let a = h.told.number in let b = g.told.number in let c = h.first in let f = g.first in
          let same = ap (λ l. length (deeds m l w)) one.0 in
          absurd (omega (arith, a, b, c, f, same, less))
