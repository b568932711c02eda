-- An `if`, with and without an `else`.
use Rattle.std.proofs.Common.{◌≡◌, ℕ, ◌+◌, Bool, true, false, cond, List, ◌∷◌, ◌++◌, length, refl, sym, ◌∙◌, subst, arith, length-append}
use Rattle.xk_types.specs.declared.instr.Instr.TheVariants as instr
use Rattle.xk_types.specs.declared.world.Event.TheVariants as event
use Rattle.xk_types.specs.Code.{compares}
use Rattle.xk_types.specs.World.{instruction_at}
use Rattle.xk_types.specs.Step.{done, none, onward, going, slot_at, run_at}
use Rattle.xk_types.specs.declared.instr.Comparison.{Comparison}
use Rattle.xk_tree.specs.Tree.{Expression, Statement, If, IfElse}
use Rattle.xk_emit.specs.CodeOf.{slot_for, behind, both, second, count, code_of}
use Rattle.xk_source_semantics.specs.Source.{Todo, Do, taken, unfolded, left_with, source_step}
use Rattle.xk_law_compiler.proofs.ExpressionLemmas.{both_keeps, both_gives}
use Rattle.xk_law_compiler.proofs.PlaceLemmas.{is_then, is_either, is_else}
use Rattle.xk_law_compiler.proofs.RelationLemmas.{holds_front, holds_back, more_proper, Stands, Rest, rest_jump, rest_scope}
use Rattle.xk_law_compiler.proofs.StepLemmas.ActivityLemmas.{Between, RunningPair, Good, its_code, source_runs, at_place, moves}
use Rattle.xk_law_compiler.proofs.StepLemmas.OperandLemmas.{number_follows}
use Rattle.xk_law_compiler.proofs.StepLemmas.FirstPartLemmas.{Ready, ready_at, ready_below, ready_matched}

module _ (pair : RunningPair) where
  open pair use {cx, w, v, a, act, call, like}

  -- two numbers are compared
  chosen : (b : Bool) (t : ℕ) (then other : List Todo)
      → source_step cx.tree v a ≡ done v a (left_with call (cond b then other)) none event.Local
      → Between cx like.part (act.frame.place + 1) act.frame.slots then call.frame.names
      → Between cx like.part t act.frame.slots other call.frame.names
      → Good pair (done w a (cond b (onward act) (going act t)) none event.Local)
  chosen true t then other src y n = moves pair (act.frame.place + 1) act.frame.slots then call.frame.names none event.Local src y
  chosen false t then other src y n = moves pair t act.frame.slots other call.frame.names none event.Local src n

  pub decide_if : (at : ℕ) (l : Expression) (op : Comparison) (r' : Expression) (s : Statement) (rest : List Todo)
      → call.frame.todo ≡ Do (If at l op r' s) ∷ rest → Ready pair (If at l op r' s) rest
      → Good pair (run_at cx.m w a act (instruction_at cx.m act.frame))
  decide_if at l op r' s rest e r =
      let q = r.first + length (both r.scope r.t l r') in
      let body = code_of cx.setting r.t r.scope r.n (q + 1) s in
      let i = instr.Unless op (slot_for r.scope r.t l) (second r.scope r.t l r') (q + 1 + length body) in
      let held = ready_matched pair (If at l op r' s) rest r (both_keeps r.scope r.t l r' r.start act.frame.slots r.ran) in
      let behind : r.first + length (both r.scope r.t l r' ++ i ∷ body) ≡ q + 1 + length body = omega (arith, length-append (both r.scope r.t l r') (i ∷ body)) in
      let last : Rest cx r.t like.part r.scope (q + 1 + length body) rest = subst (λ p. Rest cx r.t like.part r.scope p rest) behind r.after in
      let room = r.stands.room in
      let stands : Stands cx r.t like.part r.scope r.n (q + 1) s = record {
        lies = is_then r.t r.scope r.first at l op r' s r.stands.lies;
        holds = (holds_back (its_code pair) r.first (both r.scope r.t l r') (i ∷ body) r.stands.holds).1;
        covered = r.stands.covered.2;
        linked = r.stands.linked;
        proper = r.stands.proper;
        room = omega arith;
      } in
      at_place pair i (ready_at pair (If at l op r' s) rest r i body refl)
      (number_follows pair (slot_at act (slot_for r.scope r.t l)) _ (λ p g. number_follows pair (slot_at act (second r.scope r.t l r')) _ (λ z h.
      let taken_both = both_gives r.scope call.frame.names r.t l r' r.start act.frame.slots p z (ready_below pair (If at l op r' s) rest r)
      r.stands.covered.0 r.stands.covered.1 r.matched r.ran g h in
      chosen (compares op p z) (q + 1 + length body) (unfolded s ++ rest) rest
      (source_runs pair (Do (If at l op r' s) ∷ rest) e
      ∙ (taken_both.first (λ p. taken call.frame.names r' (λ q. done v a (left_with call (cond (compares op p q) (unfolded s ++ rest) rest)) none event.Local))
      ∙ taken_both.second (λ q. done v a (left_with call (cond (compares op p q) (unfolded s ++ rest) rest)) none event.Local)))
      (record {
        t = r.t;
        scope = r.scope;
        matched = held;
        rest = subst (λ p. Rest cx r.t like.part r.scope (p + 1) (unfolded s ++ rest)) (sym r.at)
            (rest_scope cx r.t like.part r.scope r.n (q + 1) (q + 1 + length body) s rest stands refl last);
      })
      (record { t = r.t; scope = r.scope; matched = held; rest = last }))))

  pub decide_if_else : (at : ℕ) (l : Expression) (op : Comparison) (r' : Expression) (s u : Statement) (rest : List Todo)
      → call.frame.todo ≡ Do (IfElse at l op r' s u) ∷ rest → Ready pair (IfElse at l op r' s u) rest
      → Good pair (run_at cx.m w a act (instruction_at cx.m act.frame))
  decide_if_else at l op r' s u rest e r =
      let q = r.first + length (both r.scope r.t l r') in
      let body = code_of cx.setting r.t r.scope r.n (q + 1) s in
      let mid = q + 1 + length body in
      let other = code_of cx.setting r.t r.scope (r.n + count s) (mid + 1) u in
      let end = mid + 1 + length other in
      let i = instr.Unless op (slot_for r.scope r.t l) (second r.scope r.t l r') (mid + 1) in
      let held = ready_matched pair (IfElse at l op r' s u) rest r (both_keeps r.scope r.t l r' r.start act.frame.slots r.ran) in
      let behind : r.first + length (both r.scope r.t l r' ++ i ∷ (body ++ instr.Jump end ∷ other)) ≡ end =
      omega (arith, length-append (both r.scope r.t l r') (i ∷ (body ++ instr.Jump end ∷ other)), length-append body (instr.Jump end ∷ other)) in
      let last : Rest cx r.t like.part r.scope end rest = subst (λ p. Rest cx r.t like.part r.scope p rest) behind r.after in
      let room = r.stands.room in
      let inside = (holds_back (its_code pair) r.first (both r.scope r.t l r') (i ∷ (body ++ instr.Jump end ∷ other)) r.stands.holds).1 in
      let jump = holds_back (its_code pair) (q + 1) body (instr.Jump end ∷ other) inside in
      let stands : Stands cx r.t like.part r.scope r.n (q + 1) s = record {
        lies = is_either r.t r.scope r.first at l op r' s u r.stands.lies;
        holds = holds_front (its_code pair) (q + 1) body (instr.Jump end ∷ other) inside;
        covered = r.stands.covered.2;
        linked = r.stands.linked.0;
        proper = r.stands.proper;
        room = omega arith;
      } in
      let stands_other : Stands cx r.t like.part r.scope (r.n + count s) (mid + 1) u = record {
        lies = is_else r.t r.scope r.n r.first at l op r' s u r.stands.lies;
        holds = jump.1;
        covered = r.stands.covered.3;
        linked = r.stands.linked.1;
        proper = more_proper r.scope r.n (r.n + count s) (omega arith) r.stands.proper;
        room = omega arith;
      } in
      at_place pair i (ready_at pair (IfElse at l op r' s u) rest r i (body ++ instr.Jump end ∷ other) refl)
      (number_follows pair (slot_at act (slot_for r.scope r.t l)) _ (λ p g. number_follows pair (slot_at act (second r.scope r.t l r')) _ (λ z h.
      let taken_both = both_gives r.scope call.frame.names r.t l r' r.start act.frame.slots p z (ready_below pair (IfElse at l op r' s u) rest r)
      r.stands.covered.0 r.stands.covered.1 r.matched r.ran g h in
      chosen (compares op p z) (mid + 1) (unfolded s ++ rest) (unfolded u ++ rest)
      (source_runs pair (Do (IfElse at l op r' s u) ∷ rest) e
      ∙ (taken_both.first (λ p. taken call.frame.names r'
      (λ q. done v a (left_with call (cond (compares op p q) (unfolded s ++ rest) (unfolded u ++ rest))) none event.Local))
      ∙ taken_both.second (λ q. done v a (left_with call (cond (compares op p q) (unfolded s ++ rest) (unfolded u ++ rest))) none event.Local)))
      (record {
        t = r.t;
        scope = r.scope;
        matched = held;
        rest = subst (λ p. Rest cx r.t like.part r.scope (p + 1) (unfolded s ++ rest)) (sym r.at)
            (rest_scope cx r.t like.part r.scope r.n (q + 1) mid s rest stands refl (rest_jump cx r.t like.part r.scope mid end rest jump.0 last));
      })
      (record {
        t = r.t;
        scope = r.scope;
        matched = held;
        rest = rest_scope cx r.t like.part r.scope (r.n + count s) (mid + 1) end u rest stands_other refl last;
      }))))
