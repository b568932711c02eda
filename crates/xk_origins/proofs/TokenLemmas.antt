-- Where a text spells the tree, a token stands at each origin.
use Rattle.std.proofs.Common.{◌≡◌, inl, inr, ℕ, zero, suc, All, Bool, true, false, cond, List, [], ◌∷◌, ◌++◌, map, Option, Some, None, slice_get, refl, sym, subst}
use Rattle.std.specs.Prelude.{◌⊎◌}
use Rattle.std.specs.List.{AllByRecursion, flat_map}
use Rattle.std.proofs.lemmas.List.Elements.{All-from_recursion}
use Rattle.std.proofs.lemmas.Option.{none-some, same_Some}
use Rattle.xk_lexer.specs.declared.token.Sign.{Sign}
use Rattle.xk_lexer.specs.declared.token.Sign.TheVariants as sign
use Rattle.xk_lexer.specs.declared.token.Keyword.{Keyword}
use Rattle.xk_lexer.specs.declared.token.Keyword.TheVariants as keyword
use Rattle.xk_lexer.specs.Tokens.{Lexeme, TokenValue}
use Rattle.xk_lexer.specs.Tokens as lexemes
use Rattle.xk_lexer.specs.Pieces.{offsets as token_offsets}
use Rattle.xk_tree.specs.declared.tree.Binding.TheVariants as binding
use Rattle.xk_tree.specs.declared.tree.Written.{Written}
use Rattle.xk_tree.specs.declared.tree.Written.TheVariants as written
use Rattle.xk_tree.specs.Tree.{Word, Clocks, Expression, Literal, Named, Paren, Negation, Binary, Source, Make, Value, Bound, UpTo, Least, has_turns, Statement, Statements, Done, More, Block, Empty, Declare, Assign, Atomic, If, IfElse, For, Async, Finish, Call, Resume, Drop, AdvanceAll, Print, MethodValue, TreeValue}
use Rattle.xk_exprs.specs.Marks.{Mark, Name, Number, Operator, Open, CloseAt, Symbol, Reserved, AsyncAt, FinishAt, ClockedAt, ClockAt, LongAt, Unfit, keyword_mark, sign_mark}
use Rattle.xk_exprs.specs.Spelling.{spell, number_marks}
use Rattle.xk_syntax.specs.Spelling.{word, number, expr, comparison_sign, type_name, type_part, source, bound, row, behind_comma, commas, clocked_start, start, stmt, stmts, param, method, shared, program, lexeme_mark, token_mark, hidden_clock, hidden_text, inside, AllFit, Fits, MethodFits, SpellsTree, TreeFits}
use Rattle.xk_names.specs.Scope.{Has, has}
use Rattle.xk_names.specs.Captures.{shared_texts}
use Rattle.xk_names.proofs.MembershipLemmas.{has_either}
use Rattle.xk_source_semantics.specs.Parts.{Part, bodies, bodies_all, method_parts, parts}
use Rattle.xk_origins.specs.Origin.{brings, brings_all, closed, own, puts, puts_limit, puts_source}
use Rattle.xk_unit_origins.specs.UnitOrigins.{UnitOrigins}
use Rattle.xk_origins.specs.UnitOrigins.{head_of, unit_origins}
use Rattle.xk_origins.specs.Laws.{AreAtTokens, AreOrigins, IsAtTokens}
use Rattle.xk_origins.proofs.OffsetLemmas.{are_part_offsets}
use Rattle.xk_origins.specs.Offsets.{offsets, offsets_all, part_offsets}

-- ---- a token with an offset

-- the offset that a tree keeps of a token, if it keeps one
abbrev kept : Mark → Option ℕ
kept (Name at text) = Some at
kept (Number at n) = Some at
kept (Operator at o) = Some at
kept (Open at) = Some at
kept (CloseAt at) = Some at
kept (AsyncAt at) = Some at
kept (FinishAt at) = Some at
kept (ClockedAt at) = Some at
kept (ClockAt at) = Some at
kept (LongAt at) = Some at
kept (Symbol s) = None
kept (Reserved w) = None
kept Unfit = None

-- one of these tokens stands there
abbrev Stands : List Mark → ℕ → Type 0
Stands [] at = ⊥
Stands (m ∷ ms) at = (kept m ≡ Some at) ⊎ Stands ms at

-- at each of these offsets one stands
abbrev AllStand : List Mark → List ℕ → Type 0
AllStand ms = AllByRecursion (Stands ms)

both : (ms : List Mark) (xs ys : List ℕ) → AllStand ms xs → AllStand ms ys → AllStand ms (xs ++ ys)
both ms [] ys h k = k
both ms (x ∷ xs) ys h k = (h.0, both ms xs ys h.1 k)

more : (ms ns : List Mark) → ((at : ℕ) → Stands ms at → Stands ns at) → (xs : List ℕ) → AllStand ms xs → AllStand ns xs
more ms ns f [] h = tt
more ms ns f (x ∷ xs) h = (f x h.0, more ms ns f xs h.1)

-- ---- what a statement has of its own stands where it does

module _ (ms : List Mark) (at : ℕ) (here : Stands ms at) where
  brings_stand : (e : Expression) → AllStand ms (brings at e)
  brings_stand (Literal n) = (here, tt)
  brings_stand (Named x) = tt
  brings_stand (Paren p e) = brings_stand e
  brings_stand (Negation p e) = (here, both ms (brings at e) (at ∷ []) (brings_stand e) (here, tt))
  brings_stand (Binary o l p r) = both ms (brings at l) (brings at r ++ at ∷ []) (brings_stand l) (both ms (brings at r) (at ∷ []) (brings_stand r) (here, tt))

  then_stand : (e : Expression) → AllStand ms (brings at e ++ at ∷ [])
  then_stand e = both ms (brings at e) (at ∷ []) (brings_stand e) (here, tt)

  both_stand : (l r : Expression) → AllStand ms (brings at l ++ (brings at r ++ at ∷ []))
  both_stand l r = both ms (brings at l) (brings at r ++ at ∷ []) (brings_stand l) (then_stand r)

  puts_stand : (e : Expression) → AllStand ms (puts at e)
  puts_stand (Literal n) = (here, tt)
  puts_stand (Named x) = (here, tt)
  puts_stand (Paren p e) = puts_stand e
  puts_stand (Negation p e) = brings_stand (Negation p e)
  puts_stand (Binary o l p r) = brings_stand (Binary o l p r)

  arguments_stand : (es : List Expression) → AllStand ms (brings_all at es)
  arguments_stand [] = tt
  arguments_stand (e ∷ es) = both ms (brings at e) (brings_all at es) (brings_stand e) (arguments_stand es)

  source_stand : (r : Source) → AllStand ms (puts_source at r)
  source_stand (Make p v) = (here, tt)
  source_stand (Value e) = puts_stand e

  limit_stand : (b : Bound) → AllStand ms (puts_limit at b)
  limit_stand (UpTo n) = tt
  limit_stand (Least x v e n) = puts_stand e

  assigned_stand : (e : Expression) (b : Bool) → AllStand ms (cond b (brings at e ++ at ∷ []) (puts at e))
  assigned_stand e true = then_stand e
  assigned_stand e false = puts_stand e

-- ---- what is put in front of tokens keeps them

abbrev Keeps : {T : Type 0} → (T → List Mark → List Mark) → Type 0
Keeps {T = T} f = (x : T) (after : List Mark) (at : ℕ) → Stands after at → Stands (f x after) at

behind : (ms after : List Mark) (at : ℕ) → Stands after at → Stands (ms ++ after) at
behind [] after at h = h
behind (m ∷ ms) after at h = inr (behind ms after at h)

number_keeps : Keeps number
number_keeps n after at h = behind (number_marks n) after at h

expr_keeps : Keeps expr
expr_keeps e after at h = behind (spell e) after at h

word_keeps : Keeps word
word_keeps w after at h = inr h

type_keeps : Keeps type_name
type_keeps ty after at h = inr h

type_part_keeps : Keeps type_part
type_part_keeps None after at h = h
type_part_keeps (Some ty) after at h = inr (inr h)

source_keeps : Keeps source
source_keeps (Make p v) after at h = inr (inr (inr (inr (inr h))))
source_keeps (Value e) after at h = expr_keeps e after at h

bound_keeps : Keeps bound
bound_keeps (UpTo n) after at h = number_keeps n after at h
bound_keeps (Least x v e n) after at h =
    let close = Symbol sign.RightParen ∷ after in
    inr (inr (inr (inr (expr_keeps e (Symbol sign.Comma ∷ number n close) at (inr (number_keeps n close at (inr h)))))))

row_keeps : {T : Type 0} (f : T → List Mark → List Mark) → Keeps f → Keeps (row f)
row_keeps f k [] after at h = h
row_keeps f k (x ∷ xs) after at h = k x (row f xs after) at (row_keeps f k xs after at h)

comma_keeps : {T : Type 0} (f : T → List Mark → List Mark) → Keeps f → Keeps (behind_comma f)
comma_keeps f k x after at h = inr (k x after at h)

commas_keep : {T : Type 0} (f : T → List Mark → List Mark) → Keeps f → Keeps (commas f)
commas_keep f k [] after at h = h
commas_keep f k (x ∷ xs) after at h = k x (row (behind_comma f) xs after) at (row_keeps (behind_comma f) (comma_keeps f k) xs after at h)

clocked_keeps : (p : ℕ) (w : Written) (ws : List Word) (after : List Mark) (at : ℕ) → Stands after at → Stands (clocked_start p w ws after) at
clocked_keeps p (written.Listed clocked paren) ws after at h = inr (inr (inr (commas_keep word word_keeps ws (Symbol sign.RightParen ∷ after) at (inr h))))
clocked_keeps p (written.Ahead clocked) ws after at h = inr (inr h)

start_keeps : (p : ℕ) (cs : Option Clocks) (after : List Mark) (at : ℕ) → Stands after at → Stands (start p cs after) at
start_keeps p None after at h = inr h
start_keeps p (Some cs) after at h = clocked_keeps p cs.written cs.names after at h

param_keeps : Keeps param
param_keeps p after at h = inr (inr (type_keeps p.takes after at h))

shared_keeps : Keeps shared
shared_keeps s after at h = inr (inr (inr (number_keeps s.start (Symbol sign.Semicolon ∷ after) at (inr h))))

clocked_stands : (p : ℕ) (w : Written) (ws : List Word) (after : List Mark) → Stands (clocked_start p w ws after) p
clocked_stands p (written.Listed clocked paren) ws after = inl refl
clocked_stands p (written.Ahead clocked) ws after = inr (inl refl)

start_stands : (p : ℕ) (cs : Option Clocks) (after : List Mark) → Stands (start p cs after) p
start_stands p None after = inl refl
start_stands p (Some cs) after = clocked_stands p cs.written cs.names after

-- what stands behind the test of an `if`, and behind the head of a loop
test_keeps : (p : ℕ) (l : Expression) (s : Sign) (r : Expression) (after : List Mark) (at : ℕ) → Stands after at
    → Stands (Open p ∷ expr l (Symbol s ∷ expr r (Symbol sign.RightParen ∷ after))) at
test_keeps p l s r after at h =
    let close = Symbol sign.RightParen ∷ after in
    inr (expr_keeps l (Symbol s ∷ expr r close) at (inr (expr_keeps r close at (inr h))))

mutual
  stmt_keeps : (s : Statement) (after : List Mark) (at : ℕ) → Stands after at → Stands (stmt s after) at
  stmt_keeps (Block close ss) after at h = inr (stmts_keep ss (CloseAt close ∷ after) at (inr h))
  stmt_keeps Empty after at h = inr h
  stmt_keeps (Declare b w ty r) after at h =
      let last = Symbol sign.Semicolon ∷ after in
      inr (inr (type_part_keeps ty (Symbol sign.Assign ∷ source r last) at (inr (source_keeps r last at (inr h)))))
  stmt_keeps (Assign w e) after at h = inr (inr (expr_keeps e (Symbol sign.Semicolon ∷ after) at (inr h)))
  stmt_keeps (Atomic w v p e) after at h = inr (inr (inr (inr (inr (expr_keeps e (Symbol sign.Semicolon ∷ after) at (inr h))))))
  stmt_keeps (If p l c r s) after at h = inr (test_keeps p l (comparison_sign c) r (stmt s after) at (stmt_keeps s after at h))
  stmt_keeps (IfElse p l c r s t) after at h =
      let other = Reserved keyword.Else ∷ stmt t after in
      inr (test_keeps p l (comparison_sign c) r (stmt s other) at (stmt_keeps s other at (inr (stmt_keeps t after at h))))
  stmt_keeps (For p w lo b s) after at h =
      let body = Symbol sign.RightParen ∷ stmt s after in
      inr (inr (inr (inr (number_keeps lo (Symbol sign.DotDot ∷ bound b body) at (inr (bound_keeps b body at (inr (stmt_keeps s after at h))))))))
  stmt_keeps (Async p cs s) after at h = start_keeps p cs (stmt s after) at (stmt_keeps s after at h)
  stmt_keeps (Finish p (Block close (More (Declare binding.Hidden w ty r) (More s (More (Drop g v) Done))))) after at h = inr (inr (stmt_keeps s after at h))
  stmt_keeps (Finish p s) after at h = inr (stmt_keeps s after at h)
  stmt_keeps (Call w p es) after at h = inr (inr (commas_keep expr expr_keeps es (Symbol sign.RightParen ∷ Symbol sign.Semicolon ∷ after) at (inr (inr h))))
  stmt_keeps (Resume w v) after at h = inr (inr (inr (inr (inr (inr h)))))
  stmt_keeps (Drop w v) after at h = inr (inr (inr (inr (inr (inr h)))))
  stmt_keeps (AdvanceAll p v) after at h = inr (inr (inr (inr (inr (inr h)))))
  stmt_keeps (Print p v e) after at h =
      inr (inr (inr (inr (inr (inr (expr_keeps e (Symbol sign.RightParen ∷ Symbol sign.Semicolon ∷ after) at (inr (inr h))))))))

  stmts_keep : (ss : Statements) (after : List Mark) (at : ℕ) → Stands after at → Stands (stmts ss after) at
  stmts_keep Done after at h = h
  stmts_keep (More s ss) after at h = stmt_keeps s (stmts ss after) at (stmts_keep ss after at h)

-- ---- where a statement, and what consists of one, ends

closed_stands : (p : ℕ) (s : Statement) (ms after : List Mark) → Stands ms p → ((at : ℕ) → Stands (stmt s after) at → Stands ms at) → Stands ms (closed p s)
closed_stands p (Block close ss) ms after here keeps = keeps close (inr (stmts_keep ss (CloseAt close ∷ after) close (inl refl)))
closed_stands p _ ms after here keeps = here

either_stand : (ms : List Mark) (b : Bool) (xs : List ℕ) → AllStand ms xs → AllStand ms (cond b xs [])
either_stand ms true xs h = h
either_stand ms false xs h = tt

module _ (names : List (List ℕ)) where
  -- ---- statements

  mutual
    stmt_stand : (d : ℕ) (hidden : List ℕ) (s : Statement) (after : List Mark) → Fits d hidden s → AllStand (stmt s after) (offsets names s)
    stmt_stand zero hidden s after fits = absurd fits
    stmt_stand (suc d) hidden (Block close ss) after fits =
        let rest = CloseAt close ∷ after in
        more (stmts ss rest) (stmt (Block close ss) after) (λ a h. inr h) (offsets_all names ss) (stmts_stand d hidden ss rest fits)
    stmt_stand (suc d) hidden Empty after fits = tt
    stmt_stand (suc d) hidden (Declare b w ty r) after fits = source_stand (stmt (Declare b w ty r) after) w.at (inr (inl refl)) r
    stmt_stand (suc d) hidden (Assign w e) after fits = assigned_stand (stmt (Assign w e) after) w.at (inl refl) e (has names w.text)
    stmt_stand (suc d) hidden (Atomic w v at e) after fits = then_stand (stmt (Atomic w v at e) after) w.at (inr (inl refl)) e
    stmt_stand (suc d) hidden (If at l c r s) after fits =
        let ms = stmt (If at l c r s) after in
        both ms (own names at (If at l c r s)) (offsets names s) (both_stand ms at (inr (inl refl)) l r)
        (more (stmt s after) ms (λ a h. inr (test_keeps at l (comparison_sign c) r (stmt s after) a h)) (offsets names s) (stmt_stand d hidden s after fits.2))
    stmt_stand (suc d) hidden (IfElse at l c r s u) after fits =
        let ms = stmt (IfElse at l c r s u) after in
        let other = Reserved keyword.Else ∷ stmt u after in
        both ms (own names at (IfElse at l c r s u)) (offsets names s ++ at ∷ offsets names u) (both_stand ms at (inr (inl refl)) l r)
        (both ms (offsets names s) (at ∷ offsets names u)
        (more (stmt s other) ms (λ a h. inr (test_keeps at l (comparison_sign c) r (stmt s other) a h)) (offsets names s) (stmt_stand d hidden s other fits.2)) (
          inr (inl refl),
          more (stmt u after) ms (λ a h. inr (test_keeps at l (comparison_sign c) r (stmt s other) a (stmt_keeps s other a (inr h)))) (offsets names u)
              (stmt_stand d hidden u after fits.3),
        ))
    stmt_stand (suc d) hidden (For at w lo b s) after fits =
        let ms = stmt (For at w lo b s) after in
        let keeps : (a : ℕ) → Stands (stmt s after) a → Stands ms a = λ a h.
        let body = Symbol sign.RightParen ∷ stmt s after in
        inr (inr (inr (inr (number_keeps lo (Symbol sign.DotDot ∷ bound b body) a (inr (bound_keeps b body a (inr h))))))) in
        either_stand ms (has_turns lo b) (own names at (For at w lo b s) ++ (offsets names s ++ closed at s ∷ []))
        (both ms (own names at (For at w lo b s)) (offsets names s ++ closed at s ∷ [])
        (both ms (puts_limit at b) (at ∷ []) (limit_stand ms at (inr (inl refl)) b) (inr (inl refl), tt))
        (both ms (offsets names s) (closed at s ∷ []) (more (stmt s after) ms keeps (offsets names s) (stmt_stand d hidden s after fits.2))
        (closed_stands at s ms after (inr (inl refl)) keeps, tt)))
    stmt_stand (suc d) hidden (Async at cs s) after fits = (start_stands at cs (stmt s after), tt)
    stmt_stand (suc d) hidden (Finish at (Block close (More (Declare binding.Hidden h ty r) (More s (More (Drop g v) Done))))) after fits =
        let ms = ClockedAt h.at ∷ FinishAt at ∷ stmt s after in
        let same = fits.0 in
        let clock : g ≡ hidden_clock (suc d) h.at = cc in
        let last : close ≡ at = cc in
        let inner = offsets_all names (More (Declare binding.Hidden h ty r) (More s (More (Drop g v) Done))) in (
          inr (inl refl),
          both ms inner (close ∷ [])
              (both ms (puts_source h.at r) (offsets names s ++ g.at ∷ []) (source_stand ms h.at (inl refl) r)
              (both ms (offsets names s) (g.at ∷ []) (more (stmt s after) ms (λ a k. inr (inr k)) (offsets names s) (stmt_stand d (hidden_text (suc d)) s after fits.1))
              (subst (λ (w : Word). Stands ms w.at) (sym clock) (inl refl), tt)))
              (subst (λ (a : ℕ). Stands ms a) (sym last) (inr (inl refl)), tt),
        )
    stmt_stand (suc d) hidden (Finish at s) after fits =
        let ms = stmt (Finish at s) after in (
          inl refl,
          both ms (offsets names s) (closed at s ∷ []) (more (stmt s after) ms (λ a h. inr h) (offsets names s) (stmt_stand d [] s after fits))
              (closed_stands at s ms after (inl refl) (λ a h. inr h), tt),
        )
    stmt_stand (suc d) hidden (Call w at es) after fits =
        let ms = stmt (Call w at es) after in
        both ms (brings_all w.at es) (w.at ∷ []) (arguments_stand ms w.at (inl refl) es) (inl refl, tt)
    stmt_stand (suc d) hidden (Resume w v) after fits = (inl refl, tt)
    stmt_stand (suc d) hidden (Drop w v) after fits = (inl refl, tt)
    stmt_stand (suc d) hidden (AdvanceAll at v) after fits = (inl refl, tt)
    stmt_stand (suc d) hidden (Print at v e) after fits = then_stand (stmt (Print at v e) after) at (inr (inr (inl refl))) e

    stmts_stand : (d : ℕ) (hidden : List ℕ) (ss : Statements) (after : List Mark) → AllFit d hidden ss → AllStand (stmts ss after) (offsets_all names ss)
    stmts_stand d hidden Done after fits = tt
    stmts_stand d hidden (More s ss) after fits =
        let ms = stmts (More s ss) after in
        both ms (offsets names s) (offsets_all names ss) (stmt_stand d hidden s (stmts ss after) fits.0)
        (more (stmts ss after) ms (stmt_keeps s (stmts ss after)) (offsets_all names ss) (stmts_stand d hidden ss after fits.1))

  -- ---- bodies

  -- where a part's text stands, and where its instructions come from
  abbrev places : Part → List ℕ
  places p = (head_of p).at ∷ part_offsets names p

  mutual
    bodies_stand : (d : ℕ) (hidden : List ℕ) (s : Statement) (after : List Mark) → Fits d hidden s → (p : Part) → Has (bodies s) p → AllStand (stmt s after) (places p)
    bodies_stand zero hidden s after fits p h = absurd fits
    bodies_stand (suc d) hidden (Block close ss) after fits p h =
        let rest = CloseAt close ∷ after in
        more (stmts ss rest) (stmt (Block close ss) after) (λ a k. inr k) (places p) (all_bodies_stand d hidden ss rest fits p h)
    bodies_stand (suc d) hidden (If at l c r s) after fits p h =
        more (stmt s after) (stmt (If at l c r s) after) (λ a k. inr (test_keeps at l (comparison_sign c) r (stmt s after) a k)) (places p)
        (bodies_stand d hidden s after fits.2 p h)
    bodies_stand (suc d) hidden (IfElse at l c r s u) after fits p h =
        let ms = stmt (IfElse at l c r s u) after in
        let other = Reserved keyword.Else ∷ stmt u after in
        let keeps : (a : ℕ) → Stands (stmt s other) a → Stands ms a = λ a k. inr (test_keeps at l (comparison_sign c) r (stmt s other) a k) in
        elim (has_either (bodies s) (bodies u) p h) [
          | inl k ↦ more (stmt s other) ms keeps (places p) (bodies_stand d hidden s other fits.2 p k)
          | inr k ↦ more (stmt u after) ms (λ a j. keeps a (stmt_keeps s other a (inr j))) (places p) (bodies_stand d hidden u after fits.3 p k)
        ]
    bodies_stand (suc d) hidden (For at w lo b s) after fits p h =
        let body = Symbol sign.RightParen ∷ stmt s after in
        more (stmt s after) (stmt (For at w lo b s) after)
        (λ a k. inr (inr (inr (inr (number_keeps lo (Symbol sign.DotDot ∷ bound b body) a (inr (bound_keeps b body a (inr k)))))))) (places p)
        (bodies_stand d hidden s after fits.2 p h)
    bodies_stand (suc d) hidden (Async at cs s) after fits p (inl e) =
        let ms = stmt (Async at cs s) after in
        let keeps = start_keeps at cs (stmt s after) in
        let here = start_stands at cs (stmt s after) in
        subst (λ (q : Part). AllStand ms (places q)) (sym e) (
          here,
          both ms (offsets names s) (closed at s ∷ []) (more (stmt s after) ms keeps (offsets names s) (stmt_stand d (inside cs hidden) s after fits.1))
              (closed_stands at s ms after here keeps, tt),
        )
    bodies_stand (suc d) hidden (Async at cs s) after fits p (inr h) =
        more (stmt s after) (stmt (Async at cs s) after) (start_keeps at cs (stmt s after)) (places p) (bodies_stand d (inside cs hidden) s after fits.1 p h)
    bodies_stand (suc d) hidden (Finish at (Block close (More (Declare binding.Hidden w ty r) (More s (More (Drop g v) Done))))) after fits p h =
        elim (has_either (bodies s) [] p h) [
          | inl k ↦ more (stmt s after) (ClockedAt w.at ∷ FinishAt at ∷ stmt s after) (λ a j. inr (inr j)) (places p) (bodies_stand d (hidden_text (suc d)) s after fits.1 p k)
          | inr k ↦ absurd k
        ]
    bodies_stand (suc d) hidden (Finish at s) after fits p h =
        more (stmt s after) (stmt (Finish at s) after) (λ a k. inr k) (places p) (bodies_stand d [] s after fits p h)
    bodies_stand (suc d) hidden _ after fits p h = absurd h

    all_bodies_stand : (d : ℕ) (hidden : List ℕ) (ss : Statements) (after : List Mark) → AllFit d hidden ss → (p : Part) → Has (bodies_all ss) p
        → AllStand (stmts ss after) (places p)
    all_bodies_stand d hidden Done after fits p h = absurd h
    all_bodies_stand d hidden (More s ss) after fits p h =
        elim (has_either (bodies s) (bodies_all ss) p h) [
          | inl k ↦ bodies_stand d hidden s (stmts ss after) fits.0 p k
          | inr k ↦ more (stmts ss after) (stmts (More s ss) after) (stmt_keeps s (stmts ss after)) (places p) (all_bodies_stand d hidden ss after fits.1 p k)
        ]

  -- ---- programs

  -- what stands in front of a method's statements
  method_keeps : (m : MethodValue) (after : List Mark) (at : ℕ) → Stands (stmts m.body (CloseAt m.close ∷ after)) at → Stands (method m after) at
  method_keeps m after at h =
      let body = stmts m.body (CloseAt m.close ∷ after) in
      inr (inr (inr (commas_keep param param_keeps m.params (Symbol sign.RightParen ∷ Symbol sign.LeftBrace ∷ body) at (inr (inr h)))))

  method_stands : (m : MethodValue) (after : List Mark) → MethodFits m → (p : Part) → Has (method_parts m) p → AllStand (method m after) (places p)
  method_stands m after fits p (inl e) =
      let ms = method m after in
      let rest = CloseAt m.close ∷ after in
      subst (λ (q : Part). AllStand ms (places q)) (sym e) (
        inr (inl refl),
        both ms (offsets_all names m.body) (m.close ∷ []) (more (stmts m.body rest) ms (method_keeps m after) (offsets_all names m.body) (stmts_stand 64 [] m.body rest fits))
            (method_keeps m after m.close (stmts_keep m.body rest m.close (inl refl)), tt),
      )
  method_stands m after fits p (inr h) =
      let rest = CloseAt m.close ∷ after in
      more (stmts m.body rest) (method m after) (method_keeps m after) (places p) (all_bodies_stand 64 [] m.body rest fits p h)

  methods_stand : (ms : List MethodValue) → AllByRecursion MethodFits ms → (p : Part) → Has (flat_map method_parts ms) p → AllStand (row method ms []) (places p)
  methods_stand [] fits p h = absurd h
  methods_stand (m ∷ ms) fits p h =
      let after = row method ms [] in
      elim (has_either (method_parts m) (flat_map method_parts ms) p h) [
        | inl k ↦ method_stands m after fits.0 p k
        | inr k ↦ more after (method m after) (λ a j. method_keeps m after a (stmts_keep m.body (CloseAt m.close ∷ after) a (inr j))) (places p) (methods_stand ms fits.1 p k)
      ]

  program_stands : (t : TreeValue) → TreeFits t → (p : Part) → Has (parts t) p → AllStand (program t) (places p)
  program_stands t fits p h =
      let after = row method t.methods [] in
      more after (program t) (row_keeps shared shared_keeps t.shared after) (places p) (methods_stand t.methods fits.methods_fit p h)

-- ---- tokens of a text

keyword_kept : (at : ℕ) (w : Keyword) (a : ℕ) → kept (keyword_mark at w) ≡ Some a → at ≡ a
keyword_kept at keyword.Async a e = same_Some at a e
keyword_kept at keyword.Finish a e = same_Some at a e
keyword_kept at keyword.Clocked a e = same_Some at a e
keyword_kept at keyword.Clock a e = same_Some at a e
keyword_kept at keyword.Long a e = same_Some at a e
keyword_kept at _ a e = absurd (none-some a e)

sign_kept : (at : ℕ) (s : Sign) (a : ℕ) → kept (sign_mark at s) ≡ Some a → at ≡ a
sign_kept at sign.Plus a e = same_Some at a e
sign_kept at sign.Minus a e = same_Some at a e
sign_kept at sign.Star a e = same_Some at a e
sign_kept at sign.LeftParen a e = same_Some at a e
sign_kept at sign.RightBrace a e = same_Some at a e
sign_kept at _ a e = absurd (none-some a e)

lexeme_kept : (at : ℕ) (l : Lexeme) (a : ℕ) → kept (lexeme_mark at l) ≡ Some a → at ≡ a
lexeme_kept at (lexemes.Name text) a e = same_Some at a e
lexeme_kept at (lexemes.Reserved w) a e = keyword_kept at w a e
lexeme_kept at (lexemes.Number n) a e = same_Some at a e
lexeme_kept at (lexemes.Symbol s) a e = sign_kept at s a e
lexeme_kept at lexemes.BadNumber a e = absurd (none-some a e)
lexeme_kept at lexemes.Stray a e = absurd (none-some a e)

token_there : (ts : List TokenValue) (a : ℕ) → Stands (map token_mark ts) a → Has (token_offsets ts) a
token_there [] a h = absurd h
token_there (t ∷ ts) a (inl e) = inl (sym (lexeme_kept t.at t.what a e))
token_there (t ∷ ts) a (inr h) = inr (token_there ts a h)

tokens_there : (ts : List TokenValue) (xs : List ℕ) → AllStand (map token_mark ts) xs → AllByRecursion (Has (token_offsets ts)) xs
tokens_there ts [] h = tt
tokens_there ts (x ∷ xs) h = (token_there ts x h.0, tokens_there ts xs h.1)

-- ---- the law

unit_there : (t : TreeValue) (ts : List TokenValue) → map token_mark ts ≡ program t → TreeFits t → (p : Part) → Has (parts t) p → IsAtTokens ts (unit_origins t p)
unit_there t ts spelled fits p h =
    let names = shared_texts t.shared in
    let there : AllByRecursion (Has (token_offsets ts)) ((head_of p).at ∷ part_offsets names p) =
    tokens_there ts ((head_of p).at ∷ part_offsets names p)
    (subst (λ (ms : List Mark). AllStand ms ((head_of p).at ∷ part_offsets names p)) (sym spelled) (program_stands names t fits p h)) in
    record {
      head = there.0;
      origins = subst (λ (l : List ℕ). All (Has (token_offsets ts)) l) (sym (are_part_offsets names p))
          (All-from_recursion (Has (token_offsets ts)) (part_offsets names p) there.1);
    }

units_there : (t : TreeValue) (ts : List TokenValue) → map token_mark ts ≡ program t → TreeFits t → (ps : List Part)
    → ((k : ℕ) (p : Part) → slice_get ps k ≡ Some p → Has (parts t) p) → AllByRecursion (IsAtTokens ts) (map (unit_origins t) ps)
units_there t ts spelled fits [] within = tt
units_there t ts spelled fits (p ∷ ps) within =
    (unit_there t ts spelled fits p (within 0 p refl), units_there t ts spelled fits ps (λ k. within (suc k)))

-- a token of the text stands where an origin does
pub at_tokens : (text : List ℕ) (t : TreeValue) (os : List UnitOrigins) → (s : SpellsTree text t) → AreOrigins t os → AreAtTokens s.spelled.0 os
at_tokens text t os s o =
    subst (λ (l : List UnitOrigins). AreAtTokens s.spelled.0 l) (sym o.are)
    (All-from_recursion (IsAtTokens s.spelled.0) (map (unit_origins t) o.units) (units_there t s.spelled.0 s.spelled.2 s.fits o.units o.are_units.within))
