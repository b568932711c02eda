-- Each step of a module's world is followed by the source's.
pub mod ActivityLemmas
pub mod OperandLemmas
pub mod ArgumentLemmas
pub mod FirstPartLemmas
pub mod AssignmentLemmas
pub mod ClockLemmas
pub mod ChoiceLemmas
pub mod LoopLemmas
pub mod FinishLemmas
pub mod CallLemmas
use Rattle.std.proofs.Common.{◌≡◌, ℕ, ◌+◌, List, [], ◌∷◌, ◌++◌, length, Some, None, Option, refl, sym, ap, ◌∙◌, subst, arith, inl, inr, append_assoc, append-nil, length-append}
use Rattle.std.specs.Prelude.{slice_get}
use Rattle.xk_types.specs.declared.instr.Instr.{Instr}
use Rattle.xk_types.specs.declared.instr.Instr.TheVariants as instr
use Rattle.xk_types.specs.declared.world.Status.{Status}
use Rattle.xk_types.specs.declared.world.Status.TheVariants as status
use Rattle.xk_types.specs.World.{Activity, World, instruction_at}
use Rattle.xk_types.specs.Step.{all, past, run_at, step_by, step_of, step}
use Rattle.xk_tree.specs.Tree.{Make, Value, Statement, Block, Empty, Declare, Assign, Atomic, If, IfElse, For, Async, Finish, Call, Resume, Drop, AdvanceAll, Print}
use Rattle.xk_emit.specs.CodeOf.{Scope, before}
use Rattle.xk_source_semantics.specs.Source.{Todo, Do, Turn, Close, SourceActivity, SourceWorld}
use Rattle.xk_law_compiler.proofs.ExpressionLemmas.{AreStraight, straight_back, then_on, exec, exec_join, IsMatched}
use Rattle.xk_law_compiler.proofs.PairwiseLemmas.{pair_at}
use Rattle.xk_law_compiler.proofs.WorldLemmas.{AreRelated, Follows}
use Rattle.xk_law_compiler.proofs.RelationLemmas.{HoldsAt, Along, holds_front, holds_back, IsWithin, Whole, Here, before_straight, code_split}
use Rattle.xk_law_compiler.proofs.UnitEntryLemmas.{AreBuilt}
use Rattle.xk_law_compiler.proofs.StepLemmas.ActivityLemmas.{Between, Within, RunsAs, Stage, IsAs, RunningPair, Good, its_code, at_place, waits_here}
use Rattle.xk_law_compiler.proofs.StepLemmas.OperandLemmas.{straight_follows}
use Rattle.xk_law_compiler.proofs.StepLemmas.FirstPartLemmas.{Ready}
use Rattle.xk_law_compiler.proofs.StepLemmas.AssignmentLemmas.{decide_value, decide_assign, decide_atomic, decide_print}
use Rattle.xk_law_compiler.proofs.StepLemmas.ClockLemmas.{decide_make, decide_resume, decide_drop, decide_advance, pass_follows}
use Rattle.xk_law_compiler.proofs.StepLemmas.ChoiceLemmas.{decide_if, decide_if_else}
use Rattle.xk_law_compiler.proofs.StepLemmas.LoopLemmas.{decide_for, turn_follows}
use Rattle.xk_law_compiler.proofs.StepLemmas.FinishLemmas.{decide_finish, close_follows}
use Rattle.xk_law_compiler.proofs.StepLemmas.CallLemmas.{decide_call, decide_async, over_follows}

module _ (pair : RunningPair) where
  open pair use {cx, w, a, act, call, like}

  decide : (s : Statement) (rest : List Todo) → call.frame.todo ≡ Do s ∷ rest → Ready pair s rest
      → Good pair (run_at cx.m w a act (instruction_at cx.m act.frame))
  decide (Block close ss) rest e r = absurd r.simple
  decide Empty rest e r = absurd r.simple
  decide (Declare b x ty (Make at vb)) rest e r = decide_make pair b x ty at vb rest e r
  decide (Declare b x ty (Value ex)) rest e r = decide_value pair b x ty ex rest e r
  decide (Assign x ex) rest e r = decide_assign pair x ex rest e r
  decide (Atomic x y at ex) rest e r = decide_atomic pair x y at ex rest e r
  decide (If at l op r' s) rest e r = decide_if pair at l op r' s rest e r
  decide (IfElse at l op r' s u) rest e r = decide_if_else pair at l op r' s u rest e r
  decide (For at i lo b s) rest e r = decide_for pair at i lo b s rest e r
  decide (Finish at s) rest e r = decide_finish pair at s rest e r
  decide (Resume c vb) rest e r = decide_resume pair c vb rest e r
  decide (Drop c vb) rest e r = decide_drop pair c vb rest e r
  decide (AdvanceAll at vb) rest e r = decide_advance pair at vb rest e r
  decide (Print at vb ex) rest e r = decide_print pair at vb ex rest e r
  decide (Call f at es) rest e r = decide_call pair f at es rest e r
  decide (Async at cs s) rest e r = decide_async pair at cs s rest e r

  within_follows : (s : Statement) (rest : List Todo) → call.frame.todo ≡ Do s ∷ rest
      → Within cx like.part act.frame.place act.frame.slots s rest call.frame.names
      → Good pair (run_at cx.m w a act (instruction_at cx.m act.frame))
  within_follows s rest e h = by h.ahead h.split
    where
      by : (ahead : List Instr) → before cx.setting h.scope h.t h.n s ≡ h.past ++ ahead
          → Good pair (run_at cx.m w a act (instruction_at cx.m act.frame))
      by [] split =
          let all : before cx.setting h.scope h.t h.n s ≡ h.past = split ∙ append-nil h.past in
          decide s rest e (record {
            t = h.t;
            scope = h.scope;
            n = h.n;
            first = h.first;
            start = h.start;
            simple = h.simple;
            stands = h.stands;
            matched = h.matched;
            after = h.after;
            ran = ap (λ is. exec is h.start) all ∙ h.ran;
            at = h.at ∙ ap (λ is. h.first + length is) (sym all);
          })
      by (i ∷ ahead) split =
          let sp = code_split cx.setting h.t h.scope h.n h.first s in
          let held = holds_front (its_code pair) h.first (before cx.setting h.scope h.t h.n s) sp.0 (subst (HoldsAt (its_code pair) h.first) sp.1 h.stands.holds) in
          let now = holds_back (its_code pair) h.first h.past (i ∷ ahead) (subst (HoldsAt (its_code pair) h.first) split held) in
          let straight = straight_back h.past (i ∷ ahead) (subst AreStraight split (before_straight cx.setting h.scope h.t h.n s)) in
          at_place pair i (subst (λ p. slice_get (its_code pair) p ≡ Some i) (sym h.at) now.0) (straight_follows pair i straight.0 (λ out g.
          waits_here pair (Do s ∷ rest) e (act.frame.place + 1) out (inr (record {
            t = h.t;
            scope = h.scope;
            n = h.n;
            first = h.first;
            start = h.start;
            past = h.past ++ i ∷ [];
            ahead = ahead;
            simple = h.simple;
            stands = h.stands;
            matched = h.matched;
            after = h.after;
            split = split ∙ sym (append_assoc h.past (i ∷ []) ahead);
            ran = exec_join h.past (i ∷ []) h.start act.frame.slots out h.ran (ap (λ o. then_on o (exec [])) g);
            at = (let at = h.at in omega (arith, length-append h.past (i ∷ [])));
          }))))

  here_follows : (todo : List Todo) → call.frame.todo ≡ todo → (t : ℕ) (scope inner : Scope)
      → IsMatched scope call.frame.names act.frame.slots
      → IsWithin inner scope
      → Here cx t like.part todo inner act.frame.place → Good pair (run_at cx.m w a act (instruction_at cx.m act.frame))
  here_follows [] e t scope inner held within h = over_follows pair e h
  here_follows (Do s ∷ rest) e t scope inner held within h = within_follows s rest e (record {
    t = t;
    scope = inner;
    n = h.0;
    first = act.frame.place;
    start = act.frame.slots;
    past = [];
    ahead = before cx.setting inner t h.0 s;
    simple = h.1;
    stands = h.2;
    matched = λ x k f. held x k (within x k f);
    after = h.3;
    split = refl;
    ran = refl;
    at = omega arith;
  })
  here_follows (Turn i x hi s ∷ rest) e t scope inner held within h = turn_follows pair rest i x hi s e t inner (λ x k f. held x k (within x k f)) h.0 h.1
  here_follows (Close ∷ rest) e t scope inner held within h =
      close_follows pair rest e h.0 h.1 (record { t = t; scope = inner; matched = λ x k f. held x k (within x k f); rest = h.2 })

  between_follows : (todo : List Todo) → call.frame.todo ≡ todo → Between cx like.part act.frame.place act.frame.slots todo call.frame.names
      → Good pair (run_at cx.m w a act (instruction_at cx.m act.frame))
  between_follows todo e b = by b.rest.jumps b.rest.along
    where
      by : (jumps : List ℕ) → Along (its_code pair) act.frame.place jumps b.rest.place
          → Good pair (run_at cx.m w a act (instruction_at cx.m act.frame))
      by [] along = here_follows todo e b.t b.scope b.rest.inner b.matched b.rest.within (subst (Here cx b.t like.part todo b.rest.inner) (sym along) b.rest.here)
      by (q ∷ jumps) along =
          at_place pair (instr.Jump q) along.0 (waits_here pair todo e q act.frame.slots (inl (record {
            t = b.t;
            scope = b.scope;
            matched = b.matched;
            rest = record { jumps = jumps; place = b.rest.place; inner = b.rest.inner; along = along.1; within = b.rest.within; here = b.rest.here };
          })))

  runs_follow : (todo : List Todo) → call.frame.todo ≡ todo → RunsAs cx like.part act.frame.place act.frame.slots todo call.frame.names
      → Good pair (run_at cx.m w a act (instruction_at cx.m act.frame))
  runs_follow todo e (inl b) = between_follows todo e b
  runs_follow [] e (inr h) = absurd h
  runs_follow (Do s ∷ rest) e (inr h) = within_follows s rest e h
  runs_follow (Turn i x hi s ∷ rest) e (inr h) = absurd h
  runs_follow (Close ∷ rest) e (inr h) = absurd h

-- each step is followed
pub step_follows : (cx : Whole) → AreBuilt cx → (w : World) (v : SourceWorld) (a : ℕ) → AreRelated (IsAs cx) w v
    → Follows cx.tree (IsAs cx) v a (step cx.m w a)
step_follows cx built w v a rel = of (slice_get w.activities a) refl
  where
    by : (act : Activity) (call : SourceActivity) → slice_get w.activities a ≡ Some act → slice_get v.activities a ≡ Some call
        → IsAs cx act call
        → (st : Status) → act.status ≡ st
        → Follows cx.tree (IsAs cx) v a (step_by cx.m w a act st)
    by act call here there like status.Running e =
        runs_follow
        (record { cx = cx; built = built; w = w; v = v; a = a; rel = rel; act = act; call = call; here = here; there = there; like = like; running = e })
        call.frame.todo refl (subst (λ s. Stage cx like.part s act.frame call.frame) e like.stage)
    by act call here there like status.Arrived e = pass_follows cx w v a rel act call there like e
    by act call here there like status.Ended e = tt

    of : (o : Option Activity) → slice_get w.activities a ≡ o → Follows cx.tree (IsAs cx) v a (step_of cx.m w a o)
    of None e = tt
    of (Some act) e = let p = pair_at (IsAs cx) w.activities v.activities a act rel.activities e in by act p.0 e p.1 p.2 act.status refl
