-- Methods, shared numbers and programs are read exactly where they are spelled.
use Rattle.std.proofs.Common.{◌≡◌, ◌<◌, List, [], ◌∷◌, length, Some, None, refl, sym, ap, subst, ◌∙◌, arith, length-append}
use Rattle.std.specs.List.{AllByRecursion}
use Rattle.std.proofs.lemmas.Option.{same_Some}
use Rattle.xk_lexer.specs.declared.token.Sign.TheVariants as sign
use Rattle.xk_lexer.specs.declared.token.Keyword.TheVariants as keyword
use Rattle.xk_tree.specs.Tree.{Statements, listed, ParamValue, MethodValue, SharedValue, TreeValue}
use Rattle.xk_exprs.specs.Marks.{Mark, Open, CloseAt, Symbol, Reserved}
use Rattle.xk_exprs.specs.Spelling.{number_marks}
use Rattle.xk_exprs.proofs.NumberLemmas.{number_found, number_again}
use Rattle.xk_syntax.specs.Spelling.{word, number, row, commas, stmts, param, method, shared, program, SharedFits, MethodFits, TreeFits}
use Rattle.xk_syntax.specs.Readers.{bind, sign_at, keyword_at, open_at, word_at, stmt_at, param_at, method_at, shared_at, no_more, program_at}
use Rattle.xk_syntax.specs.Laws.{ProgramFound, ProgramAgain}
use Rattle.xk_syntax.proofs.ListLoopLemmas.{Shortens, bind_some}
use Rattle.xk_syntax.proofs.SpellingLengthLemmas.{Longer, commas_longer, stmts_longer}
use Rattle.xk_syntax.proofs.SoundnessLemmas.{sign_is, keyword_is, open_is, word_is, param_found, param_takes}
use Rattle.xk_syntax.proofs.ListSpellingLemmas.{EachFound, more_found, EachAgain, more_again, listed_found, listed_again}
use Rattle.xk_syntax.proofs.LeafStatementLemmas.{param_again, param_not_closing}
use Rattle.xk_syntax.proofs.StatementLemmas.{stmt_found, stmts_found, stmt_shortens, stmt_again, stmts_again, listed_unlisted}

-- ---- shared numbers

shared_found : EachFound (keyword_at keyword.Shared) shared_at shared SharedFits
unfolding shared_at
shared_found ts us x h e =
    let w = bind_some _ _ _ e in
    let vs = bind_some _ _ _ w.2 in
    let n = bind_some _ _ _ vs.2 in
    let zs = bind_some _ _ _ n.2 in
    let p = keyword_is keyword.Shared refl ts us h in
    let q = word_is us w.0 w.1 in
    let r = sign_is sign.Assign refl w.0.1 vs.0 vs.1 in
    let f = number_found vs.0 n.0.0 n.0.1 n.1 in
    let s = sign_is sign.Semicolon refl n.0.1 zs.0 zs.1 in
    let first : ts ≡ Reserved keyword.Shared ∷ word w.0.0 (Symbol sign.Assign ∷ vs.0) = cc in
    let rest : vs.0 ≡ number n.0.0 (Symbol sign.Semicolon ∷ zs.0) = f.0 ∙ ap (number n.0.0) s in
    subst (λ (z : SharedValue × List Mark). (ts ≡ shared z.0 z.1) × SharedFits z.0) (same_Some _ x zs.2)
    (first ∙ ap (λ (z : List Mark). Reserved keyword.Shared ∷ word w.0.0 (Symbol sign.Assign ∷ z)) rest, f.1)

shared_longer : (s : SharedValue) (after : List Mark) → length after < length (shared s after)
shared_longer s after = omega (arith, length-append (number_marks s.start) (Symbol sign.Semicolon ∷ after))

pub shared_shortens : Shortens (keyword_at keyword.Shared) shared_at
shared_shortens ts us x h e = let f = shared_found ts us x h e in omega (arith, ap length f.0, shared_longer x.0 x.1)

shared_again : (s : SharedValue) (after : List Mark) → SharedFits s → shared_at (word s.name (Symbol sign.Assign ∷ number s.start (Symbol sign.Semicolon ∷ after)))
    ≡ Some (s, after)
unfolding shared_at word_at sign_at bind
shared_again s after h = rw (number_again s.start (Symbol sign.Semicolon ∷ after) h) refl

each_shared : (ss : List SharedValue) (after : List Mark) → AllByRecursion SharedFits ss → EachAgain (keyword_at keyword.Shared) shared_at shared ss after
unfolding keyword_at
each_shared [] after h = tt
each_shared (s ∷ ss) after h = let rest = row shared ss after in (
  (
    word s.name (Symbol sign.Assign ∷ number s.start (Symbol sign.Semicolon ∷ rest)),
    refl,
    shared_again s rest
        h.0,
  ),
  each_shared ss after h.1,
)

-- ---- methods

method_found : EachFound (keyword_at keyword.Def) method_at method MethodFits
unfolding method_at
method_found ts us x h e =
    let w = bind_some _ _ _ e in
    let at = bind_some _ _ _ w.2 in
    let ps = bind_some _ _ _ at.2 in
    let vs = bind_some _ _ _ ps.2 in
    let ss = bind_some _ _ _ vs.2 in
    let p = keyword_is keyword.Def refl ts us h in
    let q = word_is us w.0 w.1 in
    let r = open_is w.0.1 at.0 at.1 in
    let f = listed_found param_at param (λ m. Unit {0}) (λ ts x e. (param_found ts x e, tt)) at.0.1 ps.0 ps.1 in
    let s = sign_is sign.LeftBrace refl ps.0.1 vs.0 vs.1 in
    let g = stmts_found 64 [] (stmt_at 64 []) (stmt_found 64 []) vs.0 ss.0 ss.1 in
    let first : ts ≡ Reserved keyword.Def ∷ word w.0.0 (Open at.0.0 ∷ at.0.1) = cc in
    let body : ps.0.1 ≡ Symbol sign.LeftBrace ∷ stmts (listed ss.0.0.0) (CloseAt ss.0.0.1 ∷ ss.0.1) = s ∙ ap (λ (z : List Mark). Symbol sign.LeftBrace ∷ z) g.0 in
    let rest : at.0.1 ≡ commas param ps.0.0 (Symbol sign.RightParen ∷ Symbol sign.LeftBrace ∷ stmts (listed ss.0.0.0) (CloseAt ss.0.0.1 ∷ ss.0.1)) = f.0
    ∙ ap (λ (z : List Mark). commas param ps.0.0 (Symbol sign.RightParen ∷ z)) body in
    subst (λ (z : MethodValue × List Mark). (ts ≡ method z.0 z.1) × MethodFits z.0) (same_Some _ x ss.2)
    (first ∙ ap (λ (z : List Mark). Reserved keyword.Def ∷ word w.0.0 (Open at.0.0 ∷ z)) rest, g.1)

param_longer : Longer param
param_longer p after = omega arith

method_longer : (m : MethodValue) (after : List Mark) → length after < length (method m after)
method_longer m after =
    let body = stmts m.body (CloseAt m.close ∷ after) in
    omega (arith, commas_longer param param_longer m.params (Symbol sign.RightParen ∷ Symbol sign.LeftBrace ∷ body), stmts_longer m.body (CloseAt m.close ∷ after))

pub method_shortens : Shortens (keyword_at keyword.Def) method_at
method_shortens ts us x h e = let f = method_found ts us x h e in omega (arith, ap length f.0, method_longer x.0 x.1)

each_param : (ps : List ParamValue) → AllByRecursion (λ p. Unit {0}) ps
each_param [] = tt
each_param (p ∷ ps) = (tt, each_param ps)

method_again : (m : MethodValue) (after : List Mark) → MethodFits m → method_at (word m.name
    (Open m.paren ∷ commas param m.params (Symbol sign.RightParen ∷ Symbol sign.LeftBrace ∷ stmts m.body (CloseAt m.close ∷ after)))) ≡ Some (m, after)
unfolding method_at word_at open_at sign_at bind
method_again m after h =
    let body = stmts m.body (CloseAt m.close ∷ after) in
    let ps = listed_again param_at param (λ p. Unit {0}) param_takes param_again param_not_closing m.params (Symbol sign.LeftBrace ∷ body) (each_param m.params) in
    let ss = stmts_again 64 [] (stmt_at 64 []) (stmt_again 64 []) (stmt_shortens 64 []) m.body m.close after h in
    rw (ps, ss) (ap (λ (z : Statements). Some (record { name = m.name; paren = m.paren; params = m.params; body = z; close = m.close }, after)) (listed_unlisted m.body))

each_method : (ms : List MethodValue) (after : List Mark) → AllByRecursion MethodFits ms → EachAgain (keyword_at keyword.Def) method_at method ms after
unfolding keyword_at
each_method [] after h = tt
each_method (m ∷ ms) after h =
    let rest = row method ms after in (
      (
        word m.name (Open m.paren ∷ commas param m.params (Symbol sign.RightParen ∷ Symbol sign.LeftBrace ∷ stmts m.body (CloseAt m.close ∷ rest))),
        refl,
        method_again m
            rest h.0,
      ),
      each_method ms after h.1,
    )

-- ---- programs

all_read : (t u : TreeValue) (ts : List Mark) → no_more t ts ≡ Some u → (ts ≡ []) × (t ≡ u)
all_read t u [] e = (refl, same_Some t u e)
all_read t u (m ∷ ts) e = absurd cc

pub program_found : ProgramFound
unfolding program_at
program_found ts t e =
    let ss = bind_some _ _ _ e in
    let ms = bind_some _ _ _ ss.2 in
    let all = all_read (record { shared = ss.0.0; methods = ms.0.0 }) t ms.0.1 ms.2 in
    let f = more_found (keyword_at keyword.Shared) shared_at shared SharedFits shared_found [] ts ss.0 ss.1 in
    let g = more_found (keyword_at keyword.Def) method_at method MethodFits method_found [] ss.0.1 ms.0 ms.1 in
    let fs : ss.0.0 ≡ f.others = f.all in
    let gs : ms.0.0 ≡ g.others = g.all in
    let p : ts ≡ row shared ss.0.0 ss.0.1 = f.spelled ∙ ap (λ (l : List SharedValue). row shared l ss.0.1) (sym fs) in
    let q : ss.0.1 ≡ row method ms.0.0 [] = g.spelled ∙ ap (λ (l : List MethodValue). row method l ms.0.1) (sym gs) ∙ ap (row method ms.0.0) all.0 in
    subst (λ (z : TreeValue). (ts ≡ program z) × TreeFits z) all.1
    (p ∙ ap (row shared ss.0.0) q, record { shared_fit = subst (AllByRecursion SharedFits) (sym fs) f.each; methods_fit = subst (AllByRecursion MethodFits) (sym gs) g.each })

no_shared : (ms : List MethodValue) → keyword_at keyword.Shared (row method ms []) ≡ None
unfolding keyword_at
no_shared [] = refl
no_shared (m ∷ ms) = refl

no_method : keyword_at keyword.Def [] ≡ None
unfolding keyword_at
no_method = refl

pub program_again : ProgramAgain
unfolding program_at bind
program_again t h =
    let ss = more_again (keyword_at keyword.Shared) shared_at shared shared_shortens [] t.shared (row method t.methods [])
    (each_shared t.shared (row method t.methods []) h.shared_fit) (no_shared t.methods) in
    let ms = more_again (keyword_at keyword.Def) method_at method method_shortens [] t.methods [] (each_method t.methods [] h.methods_fit) no_method in
    rw (ss, ms) refl
