-- Of a text that spells a tree each token is taken, and then its end.
use Rattle.std.proofs.Common.{◌≡◌, List, [], ◌∷◌, ◌++◌, map, Some, refl, ap, ◌∙◌}
use Rattle.std.specs.List.{AllByRecursion}
use Rattle.xk_lexer.specs.declared.token.Sign.TheVariants as sign
use Rattle.xk_lexer.specs.Tokens.{TokenValue}
use Rattle.xk_lexer.proofs.LexingLemmas.{spelled_lexed}
use Rattle.xk_tree.specs.Tree.{ParamValue, MethodValue, SharedValue, TreeValue}
use Rattle.xk_exprs.specs.Marks.{Mark, CloseAt, Symbol, Open}
use Rattle.xk_syntax.specs.Spelling.{number, type_mark, row, behind_comma, commas, param, method, shared, program, stmts, MethodFits}
use Rattle.xk_syntax.specs.Spelling.{TreeFits}
use Rattle.xk_explain_expected.specs.declared.terminal.Terminal.TheVariants as terminal
use Rattle.xk_explain_expected.specs.declared.grammar.Symbol.{Symbol as Sym}
use Rattle.xk_explain_expected.specs.declared.grammar.Symbol.TheVariants as symbol
use Rattle.xk_explain_expected.specs.Grammar.{Behind, produced}
use Rattle.xk_explain_expected.specs.Laws.{all_taken, token_terminal, TakesEveryTree}
use Rattle.xk_explain_expected.proofs.TakenLemmas.{run, marks_ended, for_names, BeginsWithName, run_name, name_name}
use Rattle.xk_explain_expected.proofs.ExpressionsTaken.{number_taken}
use Rattle.xk_explain_expected.proofs.StatementsTaken.{type_taken, stmts_taken}

-- ---- parameters

params_name : BeginsWithName symbol.Params (symbol.Takes terminal.Colon ∷ symbol.TypeName ∷ symbol.MoreParams ∷ [])
params_name = for_names (λ t. produced symbol.Params t ≡ Behind (symbol.Takes terminal.Colon ∷ symbol.TypeName ∷ symbol.MoreParams ∷ [])) refl refl refl refl refl refl refl refl

more_params_taken : (ps : List ParamValue) (stack : List Sym) (after : List Mark)
    → run (symbol.MoreParams ∷ stack) (row (behind_comma param) ps (Symbol sign.RightParen ∷ after)) ≡ run stack after
more_params_taken [] stack after = refl
more_params_taken (p ∷ ps) stack after =
    let rest = row (behind_comma param) ps (Symbol sign.RightParen ∷ after) in
    run_name symbol.Name [] name_name (symbol.Takes terminal.Colon ∷ symbol.TypeName ∷ symbol.MoreParams ∷ stack) p.name.at p.name.text
    (Symbol sign.Colon ∷ type_mark p.takes.at p.takes.kind ∷ rest)
    ∙ type_taken p.takes.at p.takes.kind (symbol.MoreParams ∷ stack) rest
    ∙ more_params_taken ps stack after

params_taken : (ps : List ParamValue) (stack : List Sym) (after : List Mark)
    → run (symbol.Params ∷ stack) (commas param ps (Symbol sign.RightParen ∷ after)) ≡ run stack after
params_taken [] stack after = refl
params_taken (p ∷ ps) stack after =
    let rest = row (behind_comma param) ps (Symbol sign.RightParen ∷ after) in
    run_name symbol.Params (symbol.Takes terminal.Colon ∷ symbol.TypeName ∷ symbol.MoreParams ∷ []) params_name stack p.name.at p.name.text
    (Symbol sign.Colon ∷ type_mark p.takes.at p.takes.kind ∷ rest)
    ∙ type_taken p.takes.at p.takes.kind (symbol.MoreParams ∷ stack) rest
    ∙ more_params_taken ps stack after

-- ---- programs

methods_taken : (ms : List MethodValue) → AllByRecursion MethodFits ms → run (symbol.Methods ∷ []) (row method ms []) ≡ Some []
methods_taken [] f = refl
methods_taken (m ∷ ms) f =
    let rest = row method ms [] in
    let block = Symbol sign.LeftBrace ∷ stmts m.body (CloseAt m.close ∷ rest) in
    let body = symbol.Takes terminal.LeftBrace ∷ symbol.Statements ∷ symbol.Methods ∷ [] in
    run_name symbol.Name [] name_name (symbol.Takes terminal.LeftParen ∷ symbol.Params ∷ body) m.name.at m.name.text
    (Open m.paren ∷ commas param m.params (Symbol sign.RightParen ∷ block))
    ∙ params_taken m.params body block
    ∙ stmts_taken m.body 64 [] f.0 (symbol.Methods ∷ []) m.close rest
    ∙ methods_taken ms f.1

-- where no shared number comes, methods do
no_shared : (ms : List MethodValue) → run (symbol.Program ∷ []) (row method ms []) ≡ run (symbol.Methods ∷ []) (row method ms [])
no_shared [] = refl
no_shared (m ∷ ms) = refl

shared_taken : (ss : List SharedValue) (ms : List MethodValue) → AllByRecursion MethodFits ms
    → run (symbol.Program ∷ []) (row shared ss (row method ms [])) ≡ Some []
shared_taken [] ms f = no_shared ms ∙ methods_taken ms f
shared_taken (s ∷ ss) ms f =
    let rest = Symbol sign.Semicolon ∷ row shared ss (row method ms []) in
    run_name symbol.Name [] name_name (symbol.Takes terminal.Assign ∷ symbol.Number ∷ symbol.Takes terminal.Semicolon ∷ symbol.Program ∷ []) s.name.at s.name.text
    (Symbol sign.Assign ∷ number s.start rest)
    ∙ number_taken s.start (symbol.Takes terminal.Semicolon ∷ symbol.Program ∷ []) rest
    ∙ shared_taken ss ms f

program_taken : (t : TreeValue) → TreeFits t → run (symbol.Program ∷ []) (program t) ≡ Some []
program_taken t f = shared_taken t.shared t.methods f.methods_fit

pub every_tree_taken : TakesEveryTree
every_tree_taken text t s =
    let ts = s.spelled.0 in
    ap (λ (z : List TokenValue). all_taken (symbol.Program ∷ []) (map token_terminal z ++ terminal.End ∷ [])) (spelled_lexed text ts s.spelled.1)
    ∙ ap (all_taken (symbol.Program ∷ [])) (marks_ended ts)
    ∙ ap (run (symbol.Program ∷ [])) s.spelled.2
    ∙ program_taken t s.fits
