-- Which instructions access shared numbers, and where two conflict; and that a step at such an instruction is told of as that access.
use Rattle.std.proofs.Common.{◌≡◌, ℕ, ◌==◌, ◌&&◌, Bool, true, false, true≢false, List, Some, Option, refl, sym, ap, ◌∙◌, subst, eqb-true}
use Rattle.std.proofs.Common.{eq-eqb}
use Rattle.std.specs.Prelude.{slice_get}
use Rattle.std.proofs.lemmas.Bool.{and_parts}
use Rattle.xk_types.specs.declared.instr.Instr.{Instr}
use Rattle.xk_types.specs.declared.instr.Instr.TheVariants as instr
use Rattle.xk_types.specs.declared.world.Event.{Event}
use Rattle.xk_types.specs.declared.world.Event.TheVariants as event
use Rattle.xk_types.specs.Acceptance.{IsAccepted}
use Rattle.xk_types.specs.Code.{ModuleValue, IsWithinLimits}
use Rattle.xk_types.specs.World.{World}
use Rattle.xk_types.specs.Schedule.{IsReached}
use Rattle.xk_law_commute.specs.Conflicts.{reads, puts, stores, next_instruction}
use Rattle.xk_law_traces.specs.Edges.{AreApart, does}
use Rattle.xk_law_traces.proofs.InstructionEventLemmas.{shows}
use Rattle.xk_show_events.specs.Steps.{run_step}
use Rattle.xk_races.specs.declared.deeds.Part.TheVariants as part
use Rattle.xk_races.specs.Deeds.{cell_of, cell_at, deed, tell_deeds}
use Rattle.xk_races.specs.Races.{clash}
use Rattle.xk_law_races.proofs.TurnLemmas.{Turn}
use Rattle.xk_law_races.proofs.StepDeedLemmas.{event_at, cell_is, IsDeedOf, first_deed}

-- ---- kinds of accesses

-- a shared number is read, written, or added to
pub data Mode : Type 0 where
  Gets : Mode
  Puts : Mode
  Adds : Mode

-- what each is seen to do
abbrev pub event_of : Mode → Event
event_of Gets = event.Got
event_of Puts = event.Put
event_of Adds = event.Added

abbrev gets : Mode → Bool
gets Gets = true
gets _ = false

abbrev sets : Mode → Bool
sets Puts = true
sets _ = false

abbrev changes : Mode → Bool
changes Gets = false
changes _ = true

-- instruction i accesses shared number c in this way
pub record Accesses (i : Instr) (c : ℕ) (k : Mode) : Type 0 where
  pub reads : (s : ℕ) → reads i s ≡ (gets k && (s == c))
  pub puts : (s : ℕ) → puts i s ≡ (sets k && (s == c))
  pub stores : (s : ℕ) → stores i s ≡ (changes k && (s == c))
  pub cell : cell_of (Some i) ≡ c
  pub event : (e : Event) → shows e i ≡ true → e ≡ event_of k

-- it does, or accesses none
pub data Sort (i : Instr) : Type 0 where
  Does : (c : ℕ) (k : Mode) → Accesses i c k → Sort i
  DoesNone : ((s : ℕ) → reads i s ≡ false) → ((s : ℕ) → puts i s ≡ false) → ((s : ℕ) → stores i s ≡ false) → Sort i

-- what steps at these three have for events
got : (d c : ℕ) (e : Event) → shows e (instr.Get d c) ≡ true → e ≡ event.Got
got d c event.Got h = refl
got d c _ h = absurd (true≢false (sym h))

put : (c x : ℕ) (e : Event) → shows e (instr.Put c x) ≡ true → e ≡ event.Put
put c x event.Put h = refl
put c x _ h = absurd (true≢false (sym h))

added : (c x : ℕ) (e : Event) → shows e (instr.AddTo c x) ≡ true → e ≡ event.Added
added c x event.Added h = refl
added c x _ h = absurd (true≢false (sym h))

-- each instruction is of one sort
pub sort_of : (i : Instr) → Sort i
sort_of (instr.Get d c) = Does c Gets (record {
  reads = λ s. refl;
  puts = λ s. refl;
  stores = λ s. refl;
  cell = refl;
  event = got d c;
})
sort_of (instr.Put c x) = Does c Puts (record {
  reads = λ s. refl;
  puts = λ s. refl;
  stores = λ s. refl;
  cell = refl;
  event = put c x;
})
sort_of (instr.AddTo c x) = Does c Adds (record {
  reads = λ s. refl;
  puts = λ s. refl;
  stores = λ s. refl;
  cell = refl;
  event = added c x;
})
sort_of _ = DoesNone (λ s. refl) (λ s. refl) (λ s. refl)

-- ---- where two instructions are apart

-- an instruction that accesses none conflicts with none
pub apart_none : (o p : Option Instr) → ((s : ℕ) → does reads o s ≡ false) → ((s : ℕ) → does puts o s ≡ false)
    → ((s : ℕ) → does stores o s ≡ false) → AreApart o p
apart_none o p none_read none_put none_stored = record {
  second_reads = λ c h g. true≢false (sym h ∙ none_stored c);
  first_reads = λ c h g. true≢false (sym g ∙ none_read c);
  first_puts = λ c h g. true≢false (sym h ∙ none_put c);
  second_puts = λ c h g. true≢false (sym g ∙ none_stored c);
}

-- the other way round
pub apart_turned : (o p : Option Instr) → AreApart o p → AreApart p o
apart_turned o p a =
    record { second_reads = a.first_reads; first_reads = a.second_reads; first_puts = a.second_puts; second_puts = a.first_puts }

-- two accesses of shared number s are so if they are both to c
pub apart_by : (i j : Instr) (c d : ℕ) (k l : Mode) → Accesses i c k → Accesses j d l → (c ≡ d → clash (event_of k) (event_of l) ≡ false)
    → AreApart (Some i) (Some j)
apart_by i j c d k l p q free = record {
  second_reads = λ s h g. clashing s changes gets (reading k l) (parts (changes k) (s == c) (sym (p.stores s) ∙ h))
      (parts (gets l) (s == d) (sym (q.reads s) ∙ g));
  first_reads = λ s h g. clashing s gets changes (read k l) (parts (gets k) (s == c) (sym (p.reads s) ∙ g))
      (parts (changes l) (s == d) (sym (q.stores s) ∙ h));
  first_puts = λ s h g. clashing s sets changes (putting k l) (parts (sets k) (s == c) (sym (p.puts s) ∙ h))
      (parts (changes l) (s == d) (sym (q.stores s) ∙ g));
  second_puts = λ s h g. clashing s changes sets (put' k l) (parts (changes k) (s == c) (sym (p.stores s) ∙ g))
      (parts (sets l) (s == d) (sym (q.puts s) ∙ h));
}
  where
    parts : (a b : Bool) → (a && b) ≡ true → (a ≡ true) × (b ≡ true)
    parts a b h = and_parts a b h

    reading : (k l : Mode) → changes k ≡ true → gets l ≡ true → clash (event_of k) (event_of l) ≡ true
    reading Gets l h g = absurd (true≢false (sym h))
    reading k Puts h g = absurd (true≢false (sym g))
    reading k Adds h g = absurd (true≢false (sym g))
    reading Puts Gets h g = refl
    reading Adds Gets h g = refl

    read : (k l : Mode) → gets k ≡ true → changes l ≡ true → clash (event_of k) (event_of l) ≡ true
    read Gets Gets h g = absurd (true≢false (sym g))
    read Gets Puts h g = refl
    read Gets Adds h g = refl
    read Puts l h g = absurd (true≢false (sym h))
    read Adds l h g = absurd (true≢false (sym h))

    putting : (k l : Mode) → sets k ≡ true → changes l ≡ true → clash (event_of k) (event_of l) ≡ true
    putting Puts Gets h g = absurd (true≢false (sym g))
    putting Puts Puts h g = refl
    putting Puts Adds h g = refl
    putting Gets l h g = absurd (true≢false (sym h))
    putting Adds l h g = absurd (true≢false (sym h))

    put' : (k l : Mode) → changes k ≡ true → sets l ≡ true → clash (event_of k) (event_of l) ≡ true
    put' Puts Puts h g = refl
    put' Adds Puts h g = refl
    put' Gets l h g = absurd (true≢false (sym h))
    put' Puts Gets h g = absurd (true≢false (sym g))
    put' Puts Adds h g = absurd (true≢false (sym g))
    put' Adds Gets h g = absurd (true≢false (sym g))
    put' Adds Adds h g = absurd (true≢false (sym g))

    clashing : (s : ℕ) (f g : Mode → Bool) → (f k ≡ true → g l ≡ true → clash (event_of k) (event_of l) ≡ true)
        → (f k ≡ true) × ((s == c) ≡ true)
        → (g l ≡ true) × ((s == d) ≡ true) → ⊥
    clashing s f g both x y = true≢false (sym (both x.0 y.0) ∙ free (sym (eqb-true s c x.1) ∙ eqb-true s d y.1))

-- ---- the deed of such a step

-- who waits at an `advance` accesses none
not_advance : (i : Instr) (c : ℕ) (k : Mode) → Accesses i c k → i ≡ instr.Advance → ⊥
not_advance i c k p is = by k (subst (λ j. Accesses j c k) is p)
  where
    by : (k : Mode) → Accesses instr.Advance c k → ⊥
    by Gets q = true≢false (sym (eq-eqb c c refl) ∙ sym (q.reads c))
    by Puts q = true≢false (sym (eq-eqb c c refl) ∙ sym (q.stores c))
    by Adds q = true≢false (sym (eq-eqb c c refl) ∙ sym (q.stores c))

-- a step that accesses a shared number is seen to do so, and is told of as an access
pub record IsAccess (m : ModuleValue) (w : World) (s : List ℕ) (t : Turn m w s) (c : ℕ) (k : Mode) : Type 0 where
  pub event : t.e ≡ event_of k
  pub deed : IsDeedOf m w s t (part.Access c)

-- so a step at an instruction that accesses a shared number
pub access_of : (m : ModuleValue) (limits : IsWithinLimits m) (ok : IsAccepted m) (w : World) (s : List ℕ) (t : Turn m w s)
    → IsReached m t.here
    → (i : Instr) (c : ℕ) (k : Mode) → next_instruction m t.here t.act ≡ Some i → Accesses i c k → IsAccess m w s t c k
access_of m limits ok w s t reached i c k next p = record {
  event = seen;
  deed = first_deed m w s t (part.Access c)
      (ap (λ f. slice_get (tell_deeds m t.act t.here t.there f) 0) seen ∙ by k
      ∙ ap (λ f. Some (deed (run_step t.act t.here t.there f) (part.Access (cell_at m (run_step t.act t.here t.there f))))) (sym seen)
      ∙ ap (λ d. Some (deed (run_step t.act t.here t.there t.e) (part.Access d))) cell);
}
  where
    seen : t.e ≡ event_of k
    seen = p.event t.e (event_at m limits ok t.here t.there t.act t.e reached t.takes i next (not_advance i c k p))

    cell : cell_at m (run_step t.act t.here t.there t.e) ≡ c
    cell = cell_is m w s t i next ∙ p.cell

    by : (k : Mode) → slice_get (tell_deeds m t.act t.here t.there (event_of k)) 0
        ≡ Some (deed (run_step t.act t.here t.there (event_of k)) (part.Access (cell_at m (run_step t.act t.here t.there (event_of k)))))
    by Gets = refl
    by Puts = refl
    by Adds = refl
