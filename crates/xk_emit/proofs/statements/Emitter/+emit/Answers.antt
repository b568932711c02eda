use Rattle.std.proofs.Common.{◌≡◌, ◌+◌, ◌++◌, drop, length, length-append, subst, sym, ap, ◌∙◌, int_le, true, rules, arith}
use Rattle.std.proofs.lemmas.Result.{err_from_is_err_and, IfErr-weaker, on_ok_weaker}
use Rattle.std.proofs.lemmas.List.{at_drop_more}
use Rattle.xk_tree.specs.declared.tree.Stmt.{the_lemmas}
use Rattle.xk_tree.specs.Tree.{Statement, Statements, More, IfElse, bound, top, word, expression, statement, statements}
use Rattle.xk_emit.specs.CodeOf.{before_bound, code_of}
use Rattle.xk_emit.proofs.BackpatchLemmas.{AreEmitted, one_more, test_filled, then_filled, choice_filled, other_filled, loop_filled, finish_filled}
use Rattle.xk_emit.specs.EmittedCode.{DeniesCode}
use Rattle.xk_emit.proofs.CodeErrorLemmas.{code_end, else_begun, else_other, emits_not, finish_end, finish_inner, if_end, if_inner, if_tested, length_gap, loop_end, loop_inner, loop_opened, one_denied, then_end, then_inner, then_tested}
use Rattle.xk_emit.proofs.statements.Emitter.+emit.Goals as goal

pub emit_if-returns : goal.emit_if-returns
emit_if-returns t c =
    let base = c.args.code.now.items in
    let s = c.args.s.now in
    let e = c.in_ok-test.ensures in
    record {
      code =
          test_filled _ _ _ _ 0 _ c.args.guard.op _ (expression c.args.guard.l.now) (expression c.args.guard.r.now) _ _ (statement s)
          base _ _ _ _ e.code e.place e.comparison e.first e.second c.in_ok-m.ensures.code c.in_ok-close_test.ensures.code;
      scope = search rules;
      slots = search rules;
      refused = tt;
    }

pub emit_for-returns : goal.emit_for-returns
emit_for-returns t c =
    let base = c.args.code.now.items in
    let s = c.args.s.now in
    let turns : int_le c.args.turns.lo.value (top (bound c.args.turns.limit.now)) ≡ true = search rules in
    record {
      code =
          loop_filled _ _ _ _ _ 0 _ _ (word c.args.turns.name) c.args.turns.lo (bound c.args.turns.limit.now) (statement s) base _ _ _ _ turns
          c.in_ok-first.ensures.code c.in_ok-first.ensures.place c.in_ok-first.ensures.scope c.in_ok-first.ensures.next c.in_ok-m.ensures.code
          c.in_ok-close_loop.ensures.code;
      scope = search rules;
      slots = search rules;
      refused = tt;
    }

pub emit_finish-returns : goal.emit_finish-returns
emit_finish-returns t c =
    let base = c.args.code.now.items in
    let s = c.args.s.now in
    record {
      code =
          finish_filled _ _ _ _ _ (statement s) base _ _ _ _
          c.in_ok-first.ensures.place c.in_ok-first.ensures.code c.in_ok-m.ensures.code c.in_ok-close_finish.ensures.code;
      scope = search rules;
      slots = search rules;
      refused = tt;
    }

pub emit_if-returns-in_err-test : goal.emit_if-returns-in_err-test
emit_if-returns-in_err-test t c =
    let p = err_from_is_err_and c.from_residual.result c.from_residual.ensures.1 in
    let err = c.in_err-test.field-0.0 in
    let cx = c.args.self.now.setting.now in
    let free = c.args.self.now.free in
    let scope = c.args.scope.now in
    let n = c.args.n in
    let base = c.args.code.now.items in
    let refused = c.in_err-test.ensures.refused in
    let l = expression c.args.guard.l.now in
    let r = expression c.args.guard.r.now in
    let s = statement c.args.s.now in
    rw (p.1, p.2) (emits_not (if_tested err cx free scope n (length base) 0 l c.args.guard.op r s refused))

pub emit_if-returns-in_err-m : goal.emit_if-returns-in_err-m
emit_if-returns-in_err-m t c =
    let p = err_from_is_err_and c.from_residual-in_err-m.result c.from_residual-in_err-m.ensures.1 in
    let err = c.in_err-m.field-0.0 in
    let cx = c.args.self.now.setting.now in
    let free = c.args.self.now.free in
    let scope = c.args.scope.now in
    let n = c.args.n in
    let base = c.args.code.now.items in
    let refused = c.in_err-m.ensures.refused in
    let l = expression c.args.guard.l.now in
    let r = expression c.args.guard.r.now in
    let s = statement c.args.s.now in
    let opened = ap length c.in_ok-test.ensures.code ∙ length_gap base _ _ in
    rw (p.1, p.2) (emits_not (if_inner err cx free scope n (length base) _ 0 l c.args.guard.op r s refused opened))

pub emit_if-returns-in_err-close_test : goal.emit_if-returns-in_err-close_test
emit_if-returns-in_err-close_test t c =
    let p = err_from_is_err_and c.from_residual-in_err-close_test.result c.from_residual-in_err-close_test.ensures.1 in
    let err = c.in_err-close_test.field-0.0 in
    let cx = c.args.self.now.setting.now in
    let free = c.args.self.now.free in
    let scope = c.args.scope.now in
    let n = c.args.n in
    let base = c.args.code.now.items in
    let refused = c.in_err-close_test.ensures.refused in
    let l = expression c.args.guard.l.now in
    let r = expression c.args.guard.r.now in
    let s = statement c.args.s.now in
    let opened = ap length c.in_ok-test.ensures.code ∙ length_gap base _ _ in
    let made = ap length c.in_ok-m.ensures.code ∙ length-append _ _ in
    rw (p.1, p.2) (emits_not (if_end err cx free scope n (length base) _ _ 0 l c.args.guard.op r s refused opened made))

-- ---- an `if` with an `else`

pub emit_then-returns-clause-code : goal.emit_then-returns-clause-code
emit_then-returns-clause-code t c =
    let base = c.args.code.now.items in
    let s = c.args.s.now in
    let e = c.in_ok-test.ensures in
    then_filled _ _ _ _ _ c.args.guard.op _ (expression c.args.guard.l.now) (expression c.args.guard.r.now) _ _ (statement s)
    base _ _ _ _ e.code e.place e.comparison e.first e.second c.in_ok-m.ensures.code c.in_ok-jump.ensures.code

pub emit_then-returns-in_err-test-clause-refused : goal.emit_then-returns-in_err-test-clause-refused
emit_then-returns-in_err-test-clause-refused t c =
    let p = err_from_is_err_and c.from_residual.result c.from_residual.ensures.1 in
    let err = c.in_err-test.field-0.0 in
    let cx = c.args.self.now.setting.now in
    let free = c.args.self.now.free in
    let scope = c.args.scope.now in
    let n = c.args.n in
    let base = c.args.code.now.items in
    let refused = c.in_err-test.ensures.refused in
    let l = expression c.args.guard.l.now in
    let r = expression c.args.guard.r.now in
    let s = statement c.args.s.now in
    rw (p.1, p.2) (then_tested err cx free scope n (length base) l c.args.guard.op r s refused)

pub emit_then-returns-in_err-m-clause-refused : goal.emit_then-returns-in_err-m-clause-refused
emit_then-returns-in_err-m-clause-refused t c =
    let p = err_from_is_err_and c.from_residual-in_err-m.result c.from_residual-in_err-m.ensures.1 in
    let err = c.in_err-m.field-0.0 in
    let cx = c.args.self.now.setting.now in
    let free = c.args.self.now.free in
    let scope = c.args.scope.now in
    let n = c.args.n in
    let base = c.args.code.now.items in
    let refused = c.in_err-m.ensures.refused in
    let l = expression c.args.guard.l.now in
    let r = expression c.args.guard.r.now in
    let s = statement c.args.s.now in
    let opened = ap length c.in_ok-test.ensures.code ∙ length_gap base _ _ in
    rw (p.1, p.2) (then_inner err cx free scope n (length base) _ l c.args.guard.op r s refused opened)

pub emit_then-returns-in_err-jump-clause-refused : goal.emit_then-returns-in_err-jump-clause-refused
emit_then-returns-in_err-jump-clause-refused t c =
    let p = err_from_is_err_and c.from_residual-in_err-jump.result c.from_residual-in_err-jump.ensures.1 in
    let err = c.in_err-jump.field-0.0 in
    let cx = c.args.self.now.setting.now in
    let free = c.args.self.now.free in
    let scope = c.args.scope.now in
    let n = c.args.n in
    let base = c.args.code.now.items in
    let refused = c.in_err-jump.ensures.refused in
    let l = expression c.args.guard.l.now in
    let r = expression c.args.guard.r.now in
    let s = statement c.args.s.now in
    let opened = ap length c.in_ok-test.ensures.code ∙ length_gap base _ _ in
    let made = ap length c.in_ok-m.ensures.code ∙ length-append _ _ in
    rw (p.1, p.2) (then_end err cx free scope n (length base) _ _ l c.args.guard.op r s refused opened made)

pub emit_else-returns-clause-code : goal.emit_else-returns-clause-code
emit_else-returns-clause-code t c =
    other_filled _ _ _ _ _ (statement c.args.s.now) c.args.code.now.items _ _ c.in_ok-m.ensures.code c.in_ok-close_else.ensures.code

pub emit_else-returns-in_err-close_else-clause-refused : goal.emit_else-returns-in_err-close_else-clause-refused
emit_else-returns-in_err-close_else-clause-refused t c =
    let p = err_from_is_err_and c.from_residual-in_err-close_else.result c.from_residual-in_err-close_else.ensures.1 in
    let err = c.in_err-close_else.field-0.0 in
    let cx = c.args.self.now.setting.now in
    let free = c.args.self.now.free in
    let scope = c.args.scope.now in
    let n = c.args.n in
    let base = c.args.code.now.items in
    let refused = c.in_err-close_else.ensures.refused in
    let made = ap length c.in_ok-m.ensures.code ∙ length-append _ _ in
    rw (p.1, p.2) (code_end err cx free scope n (length base) _ (statement c.args.s.now) refused made)

pub emit-returns-in_err-m-in-IfElse : goal.emit-returns-in_err-m-in-IfElse
emit-returns-in_err-m-in-IfElse t c =
    let p = err_from_is_err_and c.from_residual.result c.from_residual.ensures.1 in
    let err = c.in_err-m-in-IfElse.field-0.0 in
    let cx = c.args.self.now.setting.now in
    let free = c.args.self.now.free in
    let scope = c.args.scope.now in
    let n = c.args.n in
    let base = c.args.code.now.items in
    let refused = c.in_err-m-in-IfElse.ensures.refused in
    let f = c.in-IfElse in
    let l = expression f.l in
    let r = expression f.r in
    let s = statement c.deref-in-IfElse.result.now in
    let u = statement f.u.value in
    let seen : IfElse f.field-0 l f.op r s u ≡ statement c.args.s.now =
    ap (λ x. IfElse f.field-0 l f.op r (statement x) u) c.deref-in-IfElse.ensures ∙ rw f.is (search (rules, the_lemmas)) in
    rw (p.1, p.2) (emits_not (subst (λ (x : Statement). DeniesCode err cx free scope n (length base) x) seen
    (else_begun err cx free scope n (length base) f.field-0 l f.op r s u refused)))

pub emit-returns-in_ok-m-in-IfElse : goal.emit-returns-in_ok-m-in-IfElse
emit-returns-in_ok-m-in-IfElse t c =
    let cx = c.args.self.now.setting.now in
    let free = c.args.self.now.free in
    let scope = c.args.scope.now in
    let n = c.args.n in
    let base = c.args.code.now.items in
    let f = c.in-IfElse in
    let l = expression f.l in
    let r = expression f.r in
    let s = statement c.deref-in-IfElse.result.now in
    let u = statement c.deref-in-IfElse-2.result.now in
    let e = c.in_ok-m-in-IfElse.ensures in
    let seen : IfElse f.field-0 l f.op r s u ≡ statement c.args.s.now =
    ap (λ x. IfElse f.field-0 l f.op r (statement x) u) c.deref-in-IfElse.ensures
    ∙ ap (λ x. IfElse f.field-0 l f.op r (statement f.s.value) (statement x)) c.deref-in-IfElse-2.ensures ∙ rw f.is (search (rules, the_lemmas)) in
    let from = ap length e.code ∙ length-append base _ in
    record {
      code = on_ok_weaker c.emit_else.result (λ fills.
          choice_filled _ _ _ _ f.field-0 _ _ _ f.op l r s u base _ _ e.code e.place e.scope e.slots fills
          ∙ ap (λ x. base ++ code_of cx free scope n (length base) x) seen) c.emit_else.ensures.code;
      scope = search (rules, the_lemmas);
      slots = search (rules, the_lemmas);
      refused = IfErr-weaker c.emit_else.result _ _ (λ err refused.
          subst (λ (x : Statement). DeniesCode err cx free scope n (length base) x) seen
          (else_other err cx free scope _ n _ (length base) _ f.field-0 l f.op r s u refused e.scope e.slots from)) c.emit_else.ensures.refused;
    }

-- ---- loops and finishes

pub emit_for-returns-in_err-first : goal.emit_for-returns-in_err-first
emit_for-returns-in_err-first t c =
    let p = err_from_is_err_and c.from_residual-in_err-first.result c.from_residual-in_err-first.ensures.1 in
    let err = c.in_err-first.field-0.0 in
    let cx = c.args.self.now.setting.now in
    let free = c.args.self.now.free in
    let scope = c.args.scope.now in
    let base = c.args.code.now.items in
    let b = bound c.args.turns.limit.now in
    let turns : int_le c.args.turns.lo.value (top b) ≡ true = search rules in
    let s = statement c.args.s.now in
    rw (p.1, p.2) (emits_not (loop_opened err cx free scope c.args.n (length base) 0 (word c.args.turns.name) c.args.turns.lo
    b s turns c.in_err-first.ensures.refused))

pub emit_for-returns-in_err-m : goal.emit_for-returns-in_err-m
emit_for-returns-in_err-m t c =
    let p = err_from_is_err_and c.from_residual-in_err-m.result c.from_residual-in_err-m.ensures.1 in
    let err = c.in_err-m.field-0.0 in
    let cx = c.args.self.now.setting.now in
    let free = c.args.self.now.free in
    let scope = c.args.scope.now in
    let n = c.args.n in
    let base = c.args.code.now.items in
    let refused = c.in_err-m.ensures.refused in
    let s = statement c.args.s.now in
    let b = bound c.args.turns.limit.now in
    let turns : int_le c.args.turns.lo.value (top b) ≡ true = search rules in
    let e = c.in_ok-first.ensures in
    let opened = ap length e.code ∙ length_gap base (before_bound scope free n b) _ in
    rw (p.1, p.2) (emits_not (loop_inner err cx free scope _ n _ (length base) _ 0 (word c.args.turns.name) c.args.turns.lo
    b s turns refused e.scope e.next opened))

pub emit_for-returns-in_err-close_loop : goal.emit_for-returns-in_err-close_loop
emit_for-returns-in_err-close_loop t c =
    let p = err_from_is_err_and c.from_residual-in_err-close_loop.result c.from_residual-in_err-close_loop.ensures.1 in
    let err = c.in_err-close_loop.field-0.0 in
    let cx = c.args.self.now.setting.now in
    let free = c.args.self.now.free in
    let scope = c.args.scope.now in
    let n = c.args.n in
    let base = c.args.code.now.items in
    let refused = c.in_err-close_loop.ensures.refused in
    let s = statement c.args.s.now in
    let b = bound c.args.turns.limit.now in
    let turns : int_le c.args.turns.lo.value (top b) ≡ true = search rules in
    let e = c.in_ok-first.ensures in
    let opened = ap length e.code ∙ length_gap base (before_bound scope free n b) _ in
    let made = ap length c.in_ok-m.ensures.code ∙ length-append _ _ in
    rw (p.1, p.2) (emits_not (loop_end err cx free scope _ n _ (length base) _ _ 0 (word c.args.turns.name) c.args.turns.lo
    b s turns refused e.scope e.next opened made))

pub emit_finish-returns-in_err-m : goal.emit_finish-returns-in_err-m
emit_finish-returns-in_err-m t c =
    let p = err_from_is_err_and c.from_residual-in_err-m.result c.from_residual-in_err-m.ensures.1 in
    let err = c.in_err-m.field-0.0 in
    let cx = c.args.self.now.setting.now in
    let free = c.args.self.now.free in
    let scope = c.args.scope.now in
    let n = c.args.n in
    let base = c.args.code.now.items in
    let refused = c.in_err-m.ensures.refused in
    let s = statement c.args.s.now in
    let opened = ap length c.in_ok-first.ensures.code ∙ length-append base _ in
    rw (p.1, p.2) (emits_not (finish_inner err cx free scope n (length base) _ s refused opened))

pub emit_finish-returns-in_err-close_finish : goal.emit_finish-returns-in_err-close_finish
emit_finish-returns-in_err-close_finish t c =
    let p = err_from_is_err_and c.from_residual-in_err-close_finish.result c.from_residual-in_err-close_finish.ensures.1 in
    let err = c.in_err-close_finish.field-0.0 in
    let cx = c.args.self.now.setting.now in
    let free = c.args.self.now.free in
    let scope = c.args.scope.now in
    let n = c.args.n in
    let base = c.args.code.now.items in
    let refused = c.in_err-close_finish.ensures.refused in
    let s = statement c.args.s.now in
    let opened = ap length c.in_ok-first.ensures.code ∙ length-append base _ in
    let made = ap length c.in_ok-m.ensures.code ∙ length-append _ _ in
    rw (p.1, p.2) (emits_not (finish_end err cx free scope n (length base) _ _ s refused opened made))

-- ---- statements, one after another

pub emit_all-loop-s-preserved : goal.emit_all-loop-s-preserved
emit_all-loop-s-preserved t c =
    let cx = c.args.self.now.setting.now in
    let free = c.args.self.now.free in
    let ss = c.args.ss.now in
    let at = c.loop-s.s-index in
    let item = c.s-item.result in
    let split : statements (drop at ss) ≡ More (statement item) (statements (drop (at + 1) ss)) =
    at_drop_more statements ss at item (omega arith) ∙ ap (λ x. More (statement x) (statements (drop (at + 1) ss))) (sym c.s-item.is) in
    let made = c.loop-s.code.items in
    one_more cx free (statements ss) c.args.code.now.items c.args.scope.now c.args.n (statement item) (statements (drop (at + 1) ss)) made _ c.loop-s.scope _ c.loop-s.next _
    (subst (λ (rest : Statements). AreEmitted cx free (statements ss) c.args.code.now.items c.args.scope.now c.args.n rest made c.loop-s.scope c.loop-s.next)
    split c.loop-s.invariant)
    c.in_ok-next.ensures.code c.in_ok-next.ensures.scope c.in_ok-next.ensures.slots

pub emit_all-returns-in_err-next-clause-refused : goal.emit_all-returns-in_err-next-clause-refused
emit_all-returns-in_err-next-clause-refused t c =
    let p = err_from_is_err_and c.from_residual.result c.from_residual.ensures.1 in
    let err = c.in_err-next.field-0.0 in
    let cx = c.args.self.now.setting.now in
    let free = c.args.self.now.free in
    let ss = c.args.ss.now in
    let at = c.loop-s.s-index in
    let item = c.s-item.result in
    let base = c.args.code.now.items in
    let made = c.loop-s.code.items in
    let split : statements (drop at ss) ≡ More (statement item) (statements (drop (at + 1) ss)) =
    at_drop_more statements ss at item (omega arith) ∙ ap (λ x. More (statement x) (statements (drop (at + 1) ss))) (sym c.s-item.is) in
    let left = subst (λ (rest : Statements). AreEmitted cx free (statements ss) base c.args.scope.now c.args.n rest made c.loop-s.scope c.loop-s.next) split c.loop-s.invariant in
    rw (p.1, p.2) (one_denied err cx free c.args.scope.now c.loop-s.scope c.args.n c.loop-s.next (length base) (length made) (statements ss) (statement item)
    (statements (drop (at + 1) ss)) left.covered left.room c.in_err-next.ensures.refused)
