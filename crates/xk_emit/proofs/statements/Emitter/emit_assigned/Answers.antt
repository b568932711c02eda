use Rattle.std.proofs.Common.{ℕ, ◌++◌, [], ◌∷◌, Option, length, subst, sym, ◌∙◌}
use Rattle.std.proofs.lemmas.Result.{err_from_is_err_and}
use Rattle.xk_tree.specs.Tree.{expression, word}
use Rattle.xk_emit.specs.CodeOf.{before_assigned, last_assigned}
use Rattle.xk_emit.specs.NameCoverage.{IsAssignable}
use Rattle.xk_emit.specs.Room.{Denies, HasRoom}
use Rattle.xk_emit.proofs.CodeErrorLemmas.{denies}
use Rattle.xk_emit.proofs.RoomLemmas.{room_first}
use Rattle.xk_emit.proofs.statements.Emitter.emit_assigned.Goals as goal

pub returns-in_err-y-in-Some-clause-refused : goal.returns-in_err-y-in-Some-clause-refused
returns-in_err-y-in-Some-clause-refused c =
    let p = err_from_is_err_and c.from_residual.result c.from_residual.ensures.1 in
    let err = c.in_err-y-in-Some.field-0.0 in
    let cx = c.args.self.now.setting.now in
    let t = c.args.self.now.free in
    let scope = c.args.scope.now in
    let size = length c.args.code.now.items in
    let x = word c.args.x in
    let e = expression c.args.e.now in
    let found = sym c.in-Some.is ∙ c.shared.ensures in
    rw (p.1, p.2) (subst (λ (o : Option ℕ). Denies err (IsAssignable cx scope x e o)
    (HasRoom scope size (before_assigned scope t e o ++ last_assigned cx scope t x e o ∷ []))) found
    (denies err c.in_err-y-in-Some.ensures.refused (λ k. k) (λ m. room_first scope size _ _ m)))
