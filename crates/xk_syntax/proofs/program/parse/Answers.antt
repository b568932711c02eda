use Rattle.std.proofs.Common.{ℕ, ◌≤◌, List, length, map, ap, subst, ◌∙◌}
use Rattle.std.proofs.lemmas.Result.{err_from_is_err_and}
use Rattle.xk_lexer.specs.Tokens.{token_value}
use Rattle.xk_lexer.specs.Lexing.{lexed}
use Rattle.xk_tree.specs.Tree.{program_value}
use Rattle.xk_syntax.proofs.TextLemmas.{tree_spelled, error_refused}
use Rattle.xk_syntax.proofs.AsyncOffsetLemmas.{bodies_apart}
use Rattle.xk_syntax.proofs.program.parse.Goals as goal

pub returns-in_err-shared-clause-none_spelled : goal.returns-in_err-shared-clause-none_spelled
returns-in_err-shared-clause-none_spelled c =
    let read = ap (map token_value) c.deref.ensures.value ∙ c.in_ok-tokens.ensures.read ∙ ap lexed c.as_bytes-bytes.ensures.value in
    let p = err_from_is_err_and c.from_residual-in_err-shared.result c.from_residual-in_err-shared.ensures.1 in
    rw (p.1, p.2) (error_refused c.args.text.now c.deref.result.now c.in_err-shared.field-0.0 read c.in_err-shared.ensures)

pub invariant_of-result : goal.invariant_of-result
invariant_of-result c =
    let bytes = c.as_bytes-bytes.ensures.value in
    let short = subst (λ (l : List ℕ). length l ≤ 1048576) bytes c.if-bytes-gt-MAX_TEXT.false in
    let read = ap (map token_value) c.deref.ensures.value ∙ c.in_ok-tokens.ensures.read ∙ ap lexed bytes in
    let t = program_value c.in_ok-shared.shared.items c.in_ok-shared.methods.items in
    record { apart = bodies_apart c.args.text.now t (tree_spelled c.args.text.now c.deref.result.now t short read c.in_ok-shared.ensures) }

pub returns-clause-spelled : goal.returns-clause-spelled
returns-clause-spelled c =
    let bytes = c.as_bytes-bytes.ensures.value in
    let short = subst (λ (l : List ℕ). length l ≤ 1048576) bytes c.if-bytes-gt-MAX_TEXT.false in
    let read = ap (map token_value) c.deref.ensures.value ∙ c.in_ok-tokens.ensures.read ∙ ap lexed bytes in
    let t = program_value c.in_ok-shared.shared.items c.in_ok-shared.methods.items in
    tree_spelled c.args.text.now c.deref.result.now t short read c.in_ok-shared.ensures
