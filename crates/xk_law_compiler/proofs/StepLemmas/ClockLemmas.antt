-- Statements of clocks: a new one, `resume`, `drop`, and both halves of `advanceAll`.
use Rattle.std.proofs.Common.{◌≡◌, ℕ, ◌+◌, Bool, true, false, cond, List, [], ◌∷◌, length, Some, Option, refl, sym, ap, ◌∙◌, subst, inl}
use Rattle.std.specs.Prelude.{slice_get, slice_set}
use Rattle.xk_types.specs.declared.instr.Instr.TheVariants as instr
use Rattle.xk_types.specs.declared.world.Value.TheVariants as value
use Rattle.xk_types.specs.declared.world.Status.TheVariants as status
use Rattle.xk_types.specs.declared.world.Event.TheVariants as event
use Rattle.xk_types.specs.World.{Activity, World, instruction_at}
use Rattle.xk_types.specs.Step.{Blocked, done, only, all, resumed, dropped, passed, arrived, past, slot_at, clock_in, waits, passing, run_at}
use Rattle.xk_tree.specs.declared.tree.Binding.{Binding}
use Rattle.xk_tree.specs.declared.tree.TypeName.{TypeName}
use Rattle.xk_tree.specs.declared.tree.Verb.{Verb}
use Rattle.xk_tree.specs.Tree.{Word, Make, Declare, Resume, Drop, AdvanceAll}
use Rattle.xk_emit.specs.CodeOf.{number_of}
use Rattle.xk_source_semantics.specs.Source.{Todo, Do, SourceActivity, SourceWorld, left_with, source_by, source_of}
use Rattle.xk_law_compiler.proofs.PairwiseLemmas.{pairs_length}
use Rattle.xk_law_compiler.proofs.WorldLemmas.{IsAlike, AreRelated, Follows, both_move, both_make, waits_alike}
use Rattle.xk_law_compiler.proofs.RelationLemmas.{Whole, matched_push}
use Rattle.xk_law_compiler.proofs.StepLemmas.ActivityLemmas.{Between, Stage, IsAs, RunningPair, Good, source_runs, goes, at_place, moves}
use Rattle.xk_law_compiler.proofs.StepLemmas.OperandLemmas.{put_follows, clock_follows}
use Rattle.xk_law_compiler.proofs.StepLemmas.FirstPartLemmas.{Ready, ready_at, ready_matched, nothing_ran, between_after, between_known, clock_known}

module _ (pair : RunningPair) where
  open pair use {cx, w, v, a, rel, act, call, like}

  pub decide_make : (b : Binding) (x : Word) (ty : Option TypeName) (at : ℕ) (vb : Verb) (rest : List Todo)
      → call.frame.todo ≡ Do (Declare b x ty (Make at vb)) ∷ rest → Ready pair (Declare b x ty (Make at vb)) rest
      → Good pair (run_at cx.m w a act (instruction_at cx.m act.frame))
  decide_make b x ty at vb rest e r =
      let s = Declare b x ty (Make at vb) in
      let same : length w.clocks ≡ length v.clocks = pairs_length IsAlike w.clocks v.clocks rel.clocks in
      at_place pair (instr.Make r.n) (ready_at pair s rest r (instr.Make r.n) [] refl) (put_follows pair (slot_at act r.n) r.n (value.Clock (length w.clocks)) _ (λ old at.
      both_make cx.tree (IsAs cx) w v a rel _ _ (source_runs pair (Do s ∷ rest) e)
      (goes pair (act.frame.place + 1) (slice_set act.frame.slots r.n (value.Clock (length w.clocks))) rest ((x.text, value.Clock (length v.clocks)) ∷ call.frame.names)
      (inl (subst (λ k. Between cx like.part (act.frame.place + 1) (slice_set act.frame.slots r.n (value.Clock (length w.clocks))) rest
      ((x.text, value.Clock k) ∷ call.frame.names)) same
      (between_known pair s rest r (instr.Make r.n) x.text r.n (value.Clock (length w.clocks)) old refl
      (matched_push r.scope call.frame.names act.frame.slots x.text r.n old (value.Clock (length w.clocks)) r.stands.proper r.stands.covered.1
      (ready_matched pair s rest r (nothing_ran pair r.start r.ran r.t)) at)))))))

  pub decide_resume : (c : Word) (vb : Verb) (rest : List Todo) → call.frame.todo ≡ Do (Resume c vb) ∷ rest → Ready pair (Resume c vb) rest
      → Good pair (run_at cx.m w a act (instruction_at cx.m act.frame))
  decide_resume c vb rest e r =
      let i = instr.Resume (number_of r.scope c) in
      at_place pair i (ready_at pair (Resume c vb) rest r i [] refl)
      (clock_follows pair (slot_at act (number_of r.scope c)) _ (λ k. done v a (left_with call rest) (only k resumed) event.Resumed) (λ k g.
      moves pair (act.frame.place + 1) act.frame.slots rest call.frame.names (only k resumed) event.Resumed
      (source_runs pair (Do (Resume c vb) ∷ rest) e ∙ (ap (λ o. clock_in v a o (λ k. done v a (left_with call rest) (only k resumed) event.Resumed))
      (clock_known pair (Resume c vb) rest r c r.stands.covered r.ran) ∙ g))
      (between_after pair (Resume c vb) rest r i refl refl (nothing_ran pair r.start r.ran r.t))))

  pub decide_drop : (c : Word) (vb : Verb) (rest : List Todo) → call.frame.todo ≡ Do (Drop c vb) ∷ rest → Ready pair (Drop c vb) rest
      → Good pair (run_at cx.m w a act (instruction_at cx.m act.frame))
  decide_drop c vb rest e r =
      let i = instr.Drop (number_of r.scope c) in
      at_place pair i (ready_at pair (Drop c vb) rest r i [] refl)
      (clock_follows pair (slot_at act (number_of r.scope c)) _ (λ k. done v a (left_with call rest) (only k dropped) event.Dropped) (λ k g.
      moves pair (act.frame.place + 1) act.frame.slots rest call.frame.names (only k dropped) event.Dropped
      (source_runs pair (Do (Drop c vb) ∷ rest) e ∙ (ap (λ o. clock_in v a o (λ k. done v a (left_with call rest) (only k dropped) event.Dropped))
      (clock_known pair (Drop c vb) rest r c r.stands.covered r.ran) ∙ g))
      (between_after pair (Drop c vb) rest r i refl refl (nothing_ran pair r.start r.ran r.t))))

  pub decide_advance : (at : ℕ) (vb : Verb) (rest : List Todo) → call.frame.todo ≡ Do (AdvanceAll at vb) ∷ rest
      → Ready pair (AdvanceAll at vb) rest
      → Good pair (run_at cx.m w a act (instruction_at cx.m act.frame))
  decide_advance at vb rest e r =
      at_place pair instr.Advance (ready_at pair (AdvanceAll at vb) rest r instr.Advance [] refl)
      (both_move cx.tree (IsAs cx) w v a rel (arrived act) _ (all resumed) event.Arrived (source_runs pair (Do (AdvanceAll at vb) ∷ rest) e) (record {
        status = refl;
        opened = like.opened;
        governed = like.governed;
        part = like.part;
        placed = like.placed;
        found = like.found;
        stage = (
          ready_at pair (AdvanceAll at vb) rest r instr.Advance [] refl,
          between_after pair (AdvanceAll at vb) rest r instr.Advance refl refl (nothing_ran pair r.start r.ran r.t),
        );
        callers = like.callers;
      }))

-- the second half of an `advanceAll`
pub pass_follows : (cx : Whole) (w : World) (v : SourceWorld) (a : ℕ) → AreRelated (IsAs cx) w v → (act : Activity) (call : SourceActivity)
    → slice_get v.activities a ≡ Some call → IsAs cx act call
    → act.status ≡ status.Arrived → Follows cx.tree (IsAs cx) v a (passing w a act)
pass_follows cx w v a rel act call there like arrived = by (waits w a) refl
  where
    by : (b : Bool) → waits w a ≡ b
        → Follows cx.tree (IsAs cx) v a (cond b Blocked (done w a (past act (w.steps + 1)) (all passed) event.Passed))
    by true e = tt
    by false e =
        both_move cx.tree (IsAs cx) w v a rel (past act (w.steps + 1)) _ (all passed) event.Passed
        (ap (source_of cx.tree v a) there ∙ (ap (source_by cx.tree v a call) (sym like.status ∙ arrived)
        ∙ ap (λ b. cond b Blocked (done v a (record call { status = status.Running; since = v.steps + 1 }) (all passed) event.Passed))
        (sym (waits_alike a w.clocks v.clocks rel.clocks) ∙ e)))
        (record {
          status = refl;
          opened = like.opened;
          governed = like.governed;
          part = like.part;
          placed = like.placed;
          found = like.found;
          stage = inl ((subst (λ s. Stage cx like.part s act.frame call.frame) arrived like.stage).1);
          callers = like.callers;
        })
