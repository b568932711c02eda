-- Statements that take an expression's number: a declaration, an assignment, an `atomic`, a print.
use Rattle.std.proofs.Common.{◌≡◌, ℕ, ◌+◌, List, [], ◌∷◌, ◌++◌, ℤ, Some, None, Option, refl, sym, ap, ◌∙◌, subst, inl}
use Rattle.std.specs.Prelude.{slice_get, slice_set}
use Rattle.std.specs.Int.{w64, int_wrapping_add}
use Rattle.std.specs.Option.{option_map_or}
use Rattle.xk_types.specs.declared.instr.Instr.{Instr}
use Rattle.xk_types.specs.declared.instr.Instr.TheVariants as instr
use Rattle.xk_types.specs.declared.world.Value.{Value as Held}
use Rattle.xk_types.specs.declared.world.Value.TheVariants as value
use Rattle.xk_types.specs.declared.world.Event.{Event}
use Rattle.xk_types.specs.declared.world.Event.TheVariants as event
use Rattle.xk_types.specs.World.{instruction_at}
use Rattle.xk_types.specs.Step.{done, none, onward, slot_at, number_in, cell_in, stored, carried_out, run_at}
use Rattle.xk_tree.specs.declared.tree.Binding.{Binding}
use Rattle.xk_tree.specs.declared.tree.TypeName.{TypeName}
use Rattle.xk_tree.specs.declared.tree.Verb.{Verb}
use Rattle.xk_tree.specs.Tree.{Word, Expression, Literal, Named, Paren, Negation, Binary, Value, Statement, Declare, Assign, Atomic, Print}
use Rattle.xk_names.specs.Scope.{find}
use Rattle.xk_emit.specs.CodeOf.{number_of, slot_for, eval, before_into, last_into, shared_alone, before_assigned, last_assigned, declared, before, code_of}
use Rattle.xk_emit.specs.NameCoverage.{IsKnown, IsKnownUnless, IsAssignable}
use Rattle.xk_emit.proofs.ScopeLemmas.{alone_before}
use Rattle.xk_source_semantics.specs.Source.{Todo, Do, alone, taken, left_with, knowing, declaring, storing, assigning, adding, source_step}
use Rattle.xk_law_compiler.proofs.ExpressionLemmas.{last_straight, exec, some_there, IsMatched, eval_keeps, eval_gives, into_keeps, into_gives, slot_found}
use Rattle.xk_law_compiler.proofs.WorldLemmas.{both_write}
use Rattle.xk_law_compiler.proofs.RelationLemmas.{matched_push, matched_set}
use Rattle.xk_law_compiler.proofs.StepLemmas.ActivityLemmas.{IsAs, RunningPair, Good, source_runs, goes, at_place, moves}
use Rattle.xk_law_compiler.proofs.StepLemmas.OperandLemmas.{number_follows, put_follows, cell_follows, cell_same, straight_follows}
use Rattle.xk_law_compiler.proofs.StepLemmas.FirstPartLemmas.{Ready, ready_at, ready_below, after_one, ready_matched, nothing_ran, between_after, between_known}

module _ (pair : RunningPair) where
  open pair use {cx, built, w, v, a, rel, act, call}

  -- a name is given the number of an expression
  into_follows : (s : Statement) (rest : List Todo) (r : Ready pair s rest) (x : Word) (e : Expression) (d : ℕ) → IsKnown r.scope e
      → before cx.setting r.scope r.t r.n s ≡ before_into r.scope r.t e
      → code_of cx.setting r.t r.scope r.n r.first s ≡ before cx.setting r.scope r.t r.n s ++ last_into r.scope r.t e d ∷ []
      → source_step cx.tree v a ≡ taken call.frame.names e (λ n. done v a (knowing call rest x (value.Number n)) none event.Local)
      → ((n : ℤ) (old : Held) → IsMatched r.scope call.frame.names act.frame.slots → slice_get act.frame.slots d ≡ Some old
      → IsMatched (declared r.scope r.n s) ((x.text, value.Number n) ∷ call.frame.names) (slice_set act.frame.slots d (value.Number n)))
      → Good pair (run_at cx.m w a act (instruction_at cx.m act.frame))
  into_follows s rest r x e d sc same code src match =
      at_place pair (last_into r.scope r.t e d) (ready_at pair s rest r (last_into r.scope r.t e d) [] code)
      (straight_follows pair (last_into r.scope r.t e d) (last_straight r.scope r.t e d) (λ out g.
      let ran : exec (before_into r.scope r.t e) r.start ≡ Some act.frame.slots = ap (λ is. exec is r.start) (sym same) ∙ r.ran in
      let p = into_gives r.scope call.frame.names r.t e d r.start act.frame.slots out (ready_below pair s rest r) sc r.matched ran g in
      let held = ready_matched pair s rest r (into_keeps r.scope r.t e r.start act.frame.slots ran) in
      moves pair (act.frame.place + 1) out rest ((x.text, value.Number p.n) ∷ call.frame.names) none event.Local
      (src ∙ p.gives (λ n. done v a (knowing call rest x (value.Number n)) none event.Local))
      (record {
        t = r.t;
        scope = declared r.scope r.n s;
        matched = subst (IsMatched (declared r.scope r.n s) ((x.text, value.Number p.n) ∷ call.frame.names)) (sym p.made) (match p.n p.old held p.there);
        rest = after_one pair s rest r (last_into r.scope r.t e d) code;
      })))

  -- both see the same shared number in an expression that is one's name alone
  alone_same : (e : Expression) → shared_alone cx.setting e ≡ alone cx.tree e
  alone_same (Literal n) = refl
  alone_same (Named x) = built.shared x.text
  alone_same (Paren at e) = refl
  alone_same (Negation at e) = refl
  alone_same (Binary op l at r) = refl

  -- a name is given the number of an expression, or a shared number that stands alone
  value_follows : (s : Statement) (rest : List Todo) (r : Ready pair s rest) (x : Word) (e : Expression) (d : ℕ) (o : Option ℕ)
      → shared_alone cx.setting e ≡ o
      → IsKnownUnless o r.scope e → before cx.setting r.scope r.t r.n s ≡ before_into r.scope r.t e
      → code_of cx.setting r.t r.scope r.n r.first s ≡ before cx.setting r.scope r.t r.n s ++ option_map_or (λ k. instr.Get d k) o (last_into r.scope r.t e d) ∷ []
      → source_step cx.tree v a ≡ declaring v a call rest x e o
      → ((n : ℤ) (old : Held) → IsMatched r.scope call.frame.names act.frame.slots → slice_get act.frame.slots d ≡ Some old
      → IsMatched (declared r.scope r.n s) ((x.text, value.Number n) ∷ call.frame.names) (slice_set act.frame.slots d (value.Number n)))
      → Good pair (run_at cx.m w a act (instruction_at cx.m act.frame))
  value_follows s rest r x e d None is known same code src match = into_follows s rest r x e d known same code src match
  value_follows s rest r x e d (Some k) is known same code src match =
      let ran : exec [] r.start ≡ Some act.frame.slots = ap (λ is. exec is r.start) (sym (same ∙ alone_before cx.setting r.scope r.t k e is)) ∙ r.ran in
      let held = ready_matched pair s rest r (nothing_ran pair r.start ran r.t) in
      at_place pair (instr.Get d k) (ready_at pair s rest r (instr.Get d k) [] code) (cell_follows pair (slice_get w.cells k) _ (λ n g.
      put_follows pair (slot_at act d) d (value.Number n) _ (λ old at.
      moves pair (act.frame.place + 1) _ rest ((x.text, value.Number n) ∷ call.frame.names) none event.Got (src ∙ cell_same pair k n _ g)
      (between_known pair s rest r (instr.Get d k) x.text d (value.Number n) old code (match n old held at)))))

  -- a shared number is written or added to
  store_follows : (s : Statement) (rest : List Todo) (r : Ready pair s rest) (i : Instr) (k : ℕ) (e : Expression) (new : ℤ → ℤ → ℤ) (ev : Event)
      → IsKnown r.scope e
      → before cx.setting r.scope r.t r.n s ≡ eval r.scope r.t e
      → code_of cx.setting r.t r.scope r.n r.first s ≡ before cx.setting r.scope r.t r.n s ++ i ∷ []
      → declared r.scope r.n s ≡ r.scope
      → carried_out cx.m w a act i ≡ number_in (slot_at act (slot_for r.scope r.t e)) (λ n. cell_in (slice_get w.cells k) (λ old. stored w a act k (new old n) ev))
      → source_step cx.tree v a ≡ storing v a call rest k e new ev → Good pair (run_at cx.m w a act (instruction_at cx.m act.frame))
  store_follows s rest r i k e new ev known same code stays does src =
      let ran : exec (eval r.scope r.t e) r.start ≡ Some act.frame.slots = ap (λ is. exec is r.start) (sym same) ∙ r.ran in
      at_place pair i (ready_at pair s rest r i [] code) (subst (Good pair) (sym does)
      (number_follows pair (slot_at act (slot_for r.scope r.t e)) _ (λ n g. cell_follows pair (slice_get w.cells k) _ (λ old at.
      both_write cx.tree (IsAs cx) w v a rel (onward act) (left_with call rest) k (new old n) ev
      (src ∙ (eval_gives r.scope call.frame.names r.t e r.start act.frame.slots n (ready_below pair s rest r) known r.matched ran g _
      ∙ cell_same pair k old (λ o. done (record v { cells = slice_set v.cells k (new o n) }) a (left_with call rest) none ev) at))
      (goes pair (act.frame.place + 1) act.frame.slots rest call.frame.names
      (inl (between_after pair s rest r i code stays (eval_keeps r.scope r.t e r.start act.frame.slots ran))))))))

  assign_follows : (x : Word) (e : Expression) (rest : List Todo) → call.frame.todo ≡ Do (Assign x e) ∷ rest
      → (r : Ready pair (Assign x e) rest) (o : Option ℕ)
      → find cx.setting.shared x.text ≡ o → IsAssignable cx.setting r.scope x e o
      → Good pair (run_at cx.m w a act (instruction_at cx.m act.frame))
  assign_follows x e rest todo r (Some k) is known =
      store_follows (Assign x e) rest r (instr.Put k (slot_for r.scope r.t e)) k e (λ old n. n) event.Put known
      (ap (before_assigned r.scope r.t e) is)
      (ap (λ o. before_assigned r.scope r.t e (find cx.setting.shared x.text) ++ last_assigned cx.setting r.scope r.t x e o ∷ []) is) refl refl
      (source_runs pair (Do (Assign x e) ∷ rest) todo ∙ ap (assigning cx.tree v a call rest x e) (sym (built.shared x.text) ∙ is))
  assign_follows x e rest todo r None is known =
      let slot = some_there (find r.scope x.text) known.0 in
      let d = number_of r.scope x in
      value_follows (Assign x e) rest r x e d (shared_alone cx.setting e) refl known.1
      (ap (before_assigned r.scope r.t e) is)
      (ap (λ o. before_assigned r.scope r.t e (find cx.setting.shared x.text) ++ last_assigned cx.setting r.scope r.t x e o ∷ []) is)
      (source_runs pair (Do (Assign x e) ∷ rest) todo ∙ (ap (assigning cx.tree v a call rest x e) (sym (built.shared x.text) ∙ is)
      ∙ ap (declaring v a call rest x e) (sym (alone_same e))))
      (λ n old held at. matched_set r.scope call.frame.names act.frame.slots x.text d r.n old (value.Number n) r.stands.proper held at
      (slot.1 ∙ ap (λ k. Some k) (sym (slot_found r.scope x slot.0 slot.1))))

  pub decide_value : (b : Binding) (x : Word) (ty : Option TypeName) (ex : Expression) (rest : List Todo)
      → call.frame.todo ≡ Do (Declare b x ty (Value ex)) ∷ rest → Ready pair (Declare b x ty (Value ex)) rest
      → Good pair (run_at cx.m w a act (instruction_at cx.m act.frame))
  decide_value b x ty ex rest e r =
      value_follows (Declare b x ty (Value ex)) rest r x ex r.n (shared_alone cx.setting ex) refl r.stands.covered.0 refl refl
      (source_runs pair (Do (Declare b x ty (Value ex)) ∷ rest) e ∙ ap (declaring v a call rest x ex) (sym (alone_same ex)))
      (λ n old held at. matched_push r.scope call.frame.names act.frame.slots x.text r.n old (value.Number n) r.stands.proper r.stands.covered.1 held at)

  pub decide_assign : (x : Word) (ex : Expression) (rest : List Todo) → call.frame.todo ≡ Do (Assign x ex) ∷ rest
      → Ready pair (Assign x ex) rest
      → Good pair (run_at cx.m w a act (instruction_at cx.m act.frame))
  decide_assign x ex rest e r = assign_follows x ex rest e r (find cx.setting.shared x.text) refl r.stands.covered

  pub decide_atomic : (x y : Word) (at : ℕ) (ex : Expression) (rest : List Todo) → call.frame.todo ≡ Do (Atomic x y at ex) ∷ rest
      → Ready pair (Atomic x y at ex) rest
      → Good pair (run_at cx.m w a act (instruction_at cx.m act.frame))
  decide_atomic x y at ex rest e r =
      let k = some_there (find cx.setting.shared x.text) r.stands.covered.0 in
      let there : find cx.setting.shared x.text ≡ Some (number_of cx.setting.shared x) = k.1 ∙ ap (λ j. Some j) (sym (slot_found cx.setting.shared x k.0 k.1)) in
      store_follows (Atomic x y at ex) rest r (instr.AddTo (number_of cx.setting.shared x) (slot_for r.scope r.t ex))
      (number_of cx.setting.shared x) ex (int_wrapping_add w64) event.Added
      r.stands.covered.1 refl refl refl refl
      (source_runs pair (Do (Atomic x y at ex) ∷ rest) e ∙ ap (adding v a call rest ex) (sym (built.shared x.text) ∙ there))

  pub decide_print : (at : ℕ) (vb : Verb) (ex : Expression) (rest : List Todo) → call.frame.todo ≡ Do (Print at vb ex) ∷ rest
      → Ready pair (Print at vb ex) rest
      → Good pair (run_at cx.m w a act (instruction_at cx.m act.frame))
  decide_print at vb ex rest e r =
      let i = instr.Print (slot_for r.scope r.t ex) in
      at_place pair i (ready_at pair (Print at vb ex) rest r i [] refl) (number_follows pair (slot_at act (slot_for r.scope r.t ex)) _ (λ n g.
      moves pair (act.frame.place + 1) act.frame.slots rest call.frame.names none (event.Printed n)
      (source_runs pair (Do (Print at vb ex) ∷ rest) e
      ∙ eval_gives r.scope call.frame.names r.t ex r.start act.frame.slots n (ready_below pair (Print at vb ex) rest r) r.stands.covered r.matched r.ran g _)
      (between_after pair (Print at vb ex) rest r i refl refl (eval_keeps r.scope r.t ex r.start act.frame.slots r.ran))))
