use Rattle.std.proofs.Common.{◌≡◌, ◌∙◌, [], map, ap, subst, sym, All, option_map}
use Rattle.std.specs.Option.{option_map_or}
use Rattle.std.proofs.lemmas.Result.{err_from_is_err_and}
use Rattle.xk_tree.specs.Tree.{clock_list}
use Rattle.xk_names.specs.Scope.{texts}
use Rattle.xk_names.specs.Uses.{clocks_listed}
use Rattle.xk_emit.specs.CodeOf.{Body, captures_at}
use Rattle.xk_emit.specs.NameCoverage.{IsFound}
use Rattle.xk_emit.proofs.CodeErrorLemmas.{all_behind, all_first, denies}
use Rattle.xk_emit.proofs.statements.Emitter.emit_async.Goals as goal

pub returns-in_err-slots-clause-refused : goal.returns-in_err-slots-clause-refused
returns-in_err-slots-clause-refused c =
    let p = err_from_is_err_and c.from_residual-in_err-slots.result c.from_residual-in_err-slots.ensures.1 in
    let cx = c.args.self.now.setting.now in
    rw (p.1, p.2) (denies c.in_err-slots.field-0.0 c.in_err-slots.ensures.refused
    (λ k. all_first (IsFound c.args.scope.now) (texts (clocks_listed (option_map clock_list c.args.clocks.now))) (captures_at cx c.args.at) k.1) (λ m. tt))

pub returns-in_err-push_texts-clause-refused : goal.returns-in_err-push_texts-clause-refused
returns-in_err-push_texts-clause-refused c =
    let p = err_from_is_err_and c.from_residual-in_err-push_texts.result c.from_residual-in_err-push_texts.ensures.1 in
    let cx = c.args.self.now.setting.now in
    let listed : c.in_ok-body.body.now.captures ≡ map (λ x. x.now) c.deref.result.now =
    ap (λ (b : Body). b.captures) (sym c.body-2.view_is) ∙ ap (map (λ x. x.now)) (sym c.deref.ensures.value) in
    let captures = ap (λ b. option_map_or (λ b. b.captures) b []) c.in_ok-body.ensures.body ∙ listed in
    rw (p.1, p.2) (denies c.in_err-push_texts.field-0.0 c.in_err-push_texts.ensures.refused
    (λ k. subst (All (IsFound c.args.scope.now)) captures
    (all_behind (IsFound c.args.scope.now) (texts (clocks_listed (option_map clock_list c.args.clocks.now))) (captures_at cx c.args.at) k.1)) (λ m. tt))
