-- What a step does to finishes: who takes it has one more open, or one fewer, as its event says; and whom it starts is governed by the
-- innermost.
use Rattle.std.proofs.Common.{◌≡◌, ℕ, suc, zero, ◌+◌, Bool, true, false, true≢false, cond, [], ◌∷◌, ◌++◌, length, set, Some, refl, sym, ap}
use Rattle.std.proofs.Common.{◌∙◌, subst, arith}
use Rattle.std.specs.Prelude.{slice_get}
use Rattle.xk_types.specs.declared.instr.Instr.{Instr}
use Rattle.xk_types.specs.declared.instr.Instr.TheVariants as instr
use Rattle.xk_types.specs.declared.world.Value.TheVariants as value
use Rattle.xk_types.specs.declared.world.Status.{Status}
use Rattle.xk_types.specs.declared.world.Status.TheVariants as status
use Rattle.xk_types.specs.declared.world.Event.{Event}
use Rattle.xk_types.specs.declared.world.Event.TheVariants as event
use Rattle.xk_types.specs.Code.{ModuleValue}
use Rattle.xk_types.specs.World.{Activity, World, is_ended, instruction_at}
use Rattle.xk_types.specs.Step.{Outcome, Blocked, Wrong, Stepped, awaits, innermost, governing, child, onward, with_slots, entered, left}
use Rattle.xk_types.specs.Step.{arrived, ended, past, called, back_in, done, none, all, passed, waits, closing, carried_out, step}
use Rattle.xk_types.specs.Schedule.{is_step}
use Rattle.xk_law_schedules.proofs.ShapeLemmas.BlockLemmas.{is_border}
use Rattle.xk_law_schedules.proofs.StepFormLemmas.{ends, HoldsOfFamilies, finishes_of, instruction_form}
use Rattle.xk_law_traces.specs.Moments.{is_start}
use Rattle.xk_law_traces.proofs.StepEventLemmas.{not_start}
use Rattle.xk_law_traces.proofs.InstructionEventLemmas.{shows, stepped_by, stepped_at, shown_at}

-- What a step with this event makes of the activity that takes it: it has one finish more open, or one fewer, where it stood at an end of
-- one; or as many, and it is over if it ends.
abbrev pub Nests : ModuleValue → Event → Activity → Activity → Type 0
Nests m event.Opened act next = next.opened ≡ suc act.opened
Nests m event.Closed act next = (act.opened ≡ suc next.opened) × ((b : ℕ) × (instruction_at m act.frame ≡ Some (instr.EndFinish b)))
Nests m event.Ended act next = (next.opened ≡ act.opened) × (is_ended next.status ≡ true)
Nests m _ act next = next.opened ≡ act.opened

-- who takes the step goes on, and nobody else is concerned
pub record Goes (m : ModuleValue) (w u : World) (a : ℕ) (act : Activity) (e : Event) : Type 0 where
  pub next : Activity
  pub governed : next.governed ≡ act.governed
  pub nests : Nests m e act next
  pub alone : is_start e ≡ false
  pub activities : u.activities ≡ set w.activities a next

-- who takes it starts another activity
pub record Starts (w u : World) (a : ℕ) (act : Activity) (e : Event) : Type 0 where
  pub next : Activity
  pub one : Activity
  pub is : e ≡ event.Spawned
  pub governed : next.governed ≡ act.governed
  pub opened : next.opened ≡ act.opened
  pub none : one.opened ≡ 0
  pub under : one.governed ≡ governing a act
  pub activities : u.activities ≡ set w.activities a next ++ one ∷ []

-- one of the two
pub data Effect (m : ModuleValue) (w u : World) (a : ℕ) (act : Activity) (e : Event) : Type 0 where
  DoesGo : Goes m w u a act e → Effect m w u a act e
  DoesStart : Starts w u a act e → Effect m w u a act e

-- where an event passes the test, the step has this effect
abbrev Has : ModuleValue → World → ℕ → Activity → (Event → Bool) → Outcome → Type 0
Has m w a act test Blocked = Unit {0}
Has m w a act test (Wrong c) = Unit {0}
Has m w a act test (Stepped u e) = test e ≡ true → Effect m w u a act e

-- ---- instructions that begin and end no finish

not_opened : (i : Instr) → is_border i ≡ false → shows event.Opened i ≡ true → ⊥
not_opened (instr.Finish e) plain h = true≢false plain
not_opened _ plain h = true≢false (sym h)

not_closed : (i : Instr) → is_border i ≡ false → shows event.Closed i ≡ true → ⊥
not_closed (instr.EndFinish b) plain h = true≢false plain
not_closed _ plain h = true≢false (sym h)

plain_nests : (m : ModuleValue) (act next : Activity) (i : Instr) → is_border i ≡ false → (e : Event) → ends e ≡ false → shows e i ≡ true
    → next.opened ≡ act.opened → Nests m e act next
plain_nests m act next i plain event.Opened lives h same = absurd (not_opened i plain h)
plain_nests m act next i plain event.Closed lives h same = absurd (not_closed i plain h)
plain_nests m act next i plain event.Ended lives h same = absurd (true≢false lives)
plain_nests m act next i plain _ lives h same = same

-- ---- all instructions

module _ (m : ModuleValue) (w : World) (a : ℕ) (act : Activity) (i : Instr) (here : instruction_at m act.frame ≡ Some i) where
  -- it may have this event
  abbrev shown : Event → Bool
  shown e = shows e i

  plain_at : (j : Instr) → j ≡ i → is_border j ≡ false → is_border i ≡ false
  plain_at j is plain = ap is_border (sym is) ∙ plain

  of_closing : (b n : ℕ) → instr.EndFinish b ≡ i → act.opened ≡ n → Has m w a act shown (closing w a act n)
  of_closing b zero is many = tt
  of_closing b (suc n) is many = by (awaits w.activities (innermost a act))
    where
      by : (q : Bool) → Has m w a act shown (cond q Blocked (done w a (left act n) none event.Closed))
      by true = tt
      by false = λ h. DoesGo (record {
        next = left act n;
        governed = refl;
        nests = (many, (b, here ∙ ap Some (sym is)));
        alone = refl;
        activities = refl;
      })

  effects : HoldsOfFamilies (λ outcome. Has m w a act shown (outcome (finishes_of w act))) (λ j. j ≡ i) m w a act
  effects = record {
    goes = λ j is frame to change e changes h. DoesGo (record {
      next = record act { frame = frame };
      governed = refl;
      nests = plain_nests m act (record act { frame = frame }) i (plain_at j is to.plain) e changes.lives h refl;
      alone = not_start e changes.quiet;
      activities = refl;
    });
    stored = λ j is plain s n e changes h. DoesGo (record {
      next = onward act;
      governed = refl;
      nests = plain_nests m act (onward act) i (plain_at j is plain) e changes.lives h refl;
      alone = not_start e changes.quiet;
      activities = refl;
    });
    made = λ d old is there h. DoesGo (record {
      next = onward (with_slots act (set act.frame.slots d (value.Clock (length w.clocks))));
      governed = refl;
      nests = refl;
      alone = refl;
      activities = refl;
    });
    opened = λ e is h. DoesGo (record { next = entered act; governed = refl; nests = omega arith; alone = refl; activities = refl });
    closing = λ b is. of_closing b act.opened is refl;
    arrives = λ is h. DoesGo (record { next = arrived act; governed = refl; nests = refl; alone = refl; activities = refl });
    calls = λ t args u values is at given h. DoesGo (record {
      next = called m act t values;
      governed = refl;
      nests = refl;
      alone = refl;
      activities = refl;
    });
    returns = λ f fs is e h. DoesGo (record { next = back_in act f fs; governed = refl; nests = refl; alone = refl; activities = refl });
    over = λ is e h. DoesGo (record { next = ended act; governed = refl; nests = (refl, refl); alone = refl; activities = refl });
    spawned = λ t args u values is at given h. DoesStart (record {
      next = onward act;
      one = child m a act t values;
      is = refl;
      governed = refl;
      opened = refl;
      none = refl;
      under = refl;
      activities = refl;
    });
  }

  effect_at : Has m w a act shown (carried_out m w a act i)
  effect_at =
      instruction_form (λ outcome. Has m w a act shown (outcome (finishes_of w act))) (λ j. j ≡ i) m w a (λ c. tt) act effects i refl

-- ---- steps

-- the effect of each step
pub effect_of : (m : ModuleValue) (w u : World) (a : ℕ) (act : Activity) (e : Event) → slice_get w.activities a ≡ Some act
    → step m w a ≡ Stepped u e
    → Effect m w u a act e
effect_of m w u a act e at takes = by act.status refl
  where
    passes : (q : Bool) → Has m w a act (λ f. true) (cond q Blocked (done w a (past act (w.steps + 1)) (all passed) event.Passed))
    passes true = tt
    passes false = λ h. DoesGo (record {
      next = past act (w.steps + 1);
      governed = refl;
      nests = refl;
      alone = refl;
      activities = refl;
    })

    by : (st : Status) → act.status ≡ st → Effect m w u a act e
    by status.Running is =
        let i = stepped_at m w u a act e at takes is in
        subst (Has m w a act (λ f. shows f i.0)) i.2 (effect_at m w a act i.0 i.1) (shown_at m w u a act e at takes is i.0 i.1)
    by status.Arrived is =
        subst (Has m w a act (λ f. true)) (stepped_by m w u a act e at takes status.Arrived is) (passes (waits w a)) refl
    by status.Ended is = absurd (true≢false (sym (ap is_step (stepped_by m w u a act e at takes status.Ended is))))
