-- An end is among those that a close waited for exactly where that is the first close behind it of the finish that governs who ended.
use Rattle.std.proofs.Common.{◌≡◌, ℕ, suc, ◌-◌, ◌<◌, ◌≤◌, ◌⊎◌, inl, inr, true, List, length, Some, sym, ap, ◌∙◌, subst, arith}
use Rattle.std.specs.Prelude.{slice_get}
use Rattle.std.proofs.lemmas.Option.{same_Some}
use Rattle.xk_types.specs.declared.world.Event.TheVariants as event
use Rattle.xk_types.specs.World.{Activity, Finish, World, opening}
use Rattle.xk_types.specs.Step.{innermost, is_under}
use Rattle.xk_types.specs.Logs.{schedule_of}
use Rattle.xk_types.proofs.ListLemmas.{get_inside}
use Rattle.xk_law_schedules.proofs.ReachabilityLemmas.{same_through}
use Rattle.xk_races.specs.declared.deeds.Deed.{Deed}
use Rattle.xk_races.specs.declared.deeds.Part.TheVariants as part
use Rattle.xk_races.specs.Deeds.{deeds_of_run}
use Rattle.xk_races.specs.Lists.{number_at}
use Rattle.xk_races.specs.Order.{IsAt, IsEnd, Before, finish_at}
use Rattle.xk_law_races.specs.Finishes.{IsEndOf, IsEndUnder, IsCloseOf, IsNextClose, ClosesAreExact}
use Rattle.xk_law_races.proofs.NumberedFinishLemmas.{finish, number}
use Rattle.xk_law_races.proofs.TurnLemmas.{Turn, numbers_rise}
use Rattle.xk_law_races.proofs.RunWorldLemmas.{world_of}
use Rattle.xk_law_races.proofs.ScopeLemmas.{opened_in}
use Rattle.xk_law_races.proofs.EndAndCloseLemmas.{LegalRun, scopes_at, nest_at, Shows, shows_end, shows_close, same_who, in_finish}
use Rattle.xk_law_races.proofs.EndAndCloseLemmas.{behind_end}
use Rattle.xk_law_races.proofs.GovernedEndLemmas.{IsClosedBefore, closed_or_open, still_waits, closed_is, governed_so, none_between}
use Rattle.xk_law_races.proofs.UnderFinishLemmas.{EndsBefore, under_below}

module _ (trace : LegalRun) where
  open trace use {m, args, log}

  abbrev w : World
  w = opening m args

  abbrev s : List ℕ
  s = schedule_of log

  abbrev ds : List Deed
  ds = deeds_of_run m args log

  abbrev At : Type 0
  At = Turn m w s

  complete : (k j : ℕ) (e : Deed) (f : Finish) → IsAt ds j e → IsEndUnder m args log k f → IsNextClose m args log f k j
      → IsEnd ds j (finish_at ds j e.step.act) k
  complete k j e f at ends next =
      subst (λ (x : Deed). IsEnd ds j (finish_at ds j x.step.act) k) (same_Some close.deed e (sym close.at ∙ at))
      (by (closed_or_open trace k ends.deed ends.ends h u.act n governed u (behind_end trace k j ends.deed close.deed h g next.0)))
    where
      close : IsCloseOf m args log j f
      close = next.1

      h : Shows trace k ends.deed event.Ended
      h = shows_end trace k ends.deed ends.at ends.ends

      g : Shows trace j close.deed event.Closed
      g = shows_close trace j close.deed close.at close.closes

      u : At
      u = g.turn

      n : ℕ
      n = g.who.opened

      is : f ≡ finish u.act n
      is = closed_is trace j f close g

      governed : h.who.governed ≡ finish u.act n
      governed =
          ap (λ (x : Activity). x.governed) (sym (same_who trace k ends.deed event.Ended h ends.here ends.who ends.there ends.found))
          ∙ ends.governed ∙ is

      by : IsClosedBefore trace k ends.deed ends.ends h u.act n governed u
          ⊎ ((n ≤ opened_in u.here.activities u.act)
          × (number (nest_at trace u) u.act (opened_in u.here.activities u.act - n) ≡ number_at (scopes_at trace h.turn).within h.turn.act))
          → IsEnd ds j (finish_at ds j close.deed.step.act) k
      by (inl c) =
          absurd (next.2 c.place c.waits.0 (numbers_rise m w s u c.turn j c.place close.deed c.deed g.told c.told c.before)
          (subst (IsCloseOf m args log c.place) (sym is) c.is))
      by (inr p) = still_waits trace k j ends.deed close.deed ends.ends h g next.0 p.1

  sound : (k j : ℕ) (e : Deed) → IsAt ds j e → e.part ≡ part.Close → IsEnd ds j (finish_at ds j e.step.act) k
      → (f : Finish) × IsEndUnder m args log k f × IsNextClose m args log f k j
  sound k j e at closes is = (
    finish g.turn.act g.who.opened,
    record {
      deed = is.1;
      at = is.2;
      ends = is.3;
      here = h.turn.here;
      there = world_of m args log h.turn k is.1 h.told;
      who = h.who;
      found = ap (slice_get h.turn.here.activities) h.whose ∙ h.found;
      governed = governed_so trace k j is.1 e h g is.0 same;
    },
    (
      is.0,
      record {
        deed = e;
        at = at;
        closes = closes;
        here = g.turn.here;
        there = world_of m args log g.turn j e g.told;
        who = g.who;
        found = ap (slice_get g.turn.here.activities) g.whose ∙ g.found;
        deepest = ap (λ i. innermost i g.who) g.whose;
      },
      none_between trace k j is.1 e h g is.0 same,
    ),
  )
    where
      h : Shows trace k is.1 event.Ended
      h = shows_end trace k is.1 is.2 is.3

      g : Shows trace j e event.Closed
      g = shows_close trace j e at closes

      same : number_at (scopes_at trace h.turn).within h.turn.act ≡ number_at (scopes_at trace g.turn).within g.turn.act
      same = sym (in_finish trace k is.1 event.Ended h) ∙ is.4 ∙ in_finish trace j e event.Closed g

  all : (j : ℕ) (f : Finish) (c : IsCloseOf m args log j f) (x : ℕ) → x < length c.here.activities → is_under c.here.activities f x ≡ true
      → (k : ℕ) × IsEndOf m args log k x × Before ds k j
  all j f c x less under = (q.own.place, (q.own.deed, q.own.at, q.own.ends, q.own.shown.whose ∙ q.own.whose), q.before)
    where
      g : Shows trace j c.deed event.Closed
      g = shows_close trace j c.deed c.at c.closes

      one : c.here ≡ g.turn.here
      one = same_through c.here g.turn.here (sym c.there ∙ world_of m args log g.turn j c.deed g.told)

      under_it : is_under g.turn.here.activities (innermost g.turn.act g.who) x ≡ true
      under_it =
          ap (λ z. is_under g.turn.here.activities z x) (sym (closed_is trace j f c g))
          ∙ ap (λ (v : World). is_under v.activities f x) (sym one) ∙ under

      y : (act : Activity) × (slice_get g.turn.here.activities x ≡ Some act)
      y = get_inside g.turn.here.activities x (subst (λ (v : World). x < length v.activities) one less)

      q : EndsBefore trace j c.deed c.at c.closes g x
      q = under_below trace j c.deed c.at c.closes g (suc x) x (omega arith) y.0 y.1 under_it

  pub closes_are_exact : ClosesAreExact m args log
  closes_are_exact = record { sound = sound; complete = complete; all = all }
