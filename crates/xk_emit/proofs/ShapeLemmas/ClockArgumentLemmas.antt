-- Clocks that are handed on: none is given twice, where names are without faults.
use Rattle.std.proofs.Common.{◌≡◌, ℕ, int_le, Bool, true, false, cond, ◌+◌, ◌≤◌, ◌==◌, List, [], ◌∷◌, ◌++◌, map, Option, Some, None, unwrap_or, inl, inr, ◌⊎◌, refl, sym, ap, ◌∙◌, subst, arith, eqb-true, All}
use Rattle.std.specs.Prelude.{is_some}
use Rattle.std.specs.List.{list_any, flat_map}
use Rattle.std.specs.Cmp.Lexicographic.{bytes_decides}
use Rattle.std.proofs.lemmas.Bool.{false≢true, or_parts}
use Rattle.std.proofs.lemmas.Option.{none-some, same_Some}
use Rattle.std.proofs.lemmas.List.Elements.{All-head, All-tail}
use Rattle.xk_types.specs.declared.instr.Instr.{Instr}
use Rattle.xk_types.specs.declared.instr.Instr.TheVariants as instr
use Rattle.xk_types.specs.declared.unit.ParamKind.{ParamKind}
use Rattle.xk_types.specs.declared.unit.ParamKind.TheVariants as param
use Rattle.xk_types.specs.Code.{ModuleValue, params_of, clock_arguments}
use Rattle.xk_types.specs.Shape.{has_twice, gives_twice}
use Rattle.xk_tree.specs.Tree.{Word, Clocks, Expression, Literal, Named, Paren, Negation, Binary, Bound, UpTo, Least, top, ParamValue, Statement, Block, Empty, Declare, Assign, Atomic, If, IfElse, For, Async, Finish, Call, Resume, Drop, AdvanceAll, Print, Statements, Done, More}
use Rattle.xk_names.specs.Scope.{find, has, is_text, texts, Has}
use Rattle.xk_names.specs.Uses.{given, argument_misfits, argument_clocks, clocks_listed}
use Rattle.xk_names.proofs.MembershipLemmas.{has_right, has_either}
use Rattle.xk_emit.specs.CodeOf.{Scope, Setting, before_bound, loop_slots, within_loop, number_of, slots_of, body_unit, body_params, captures_at, slot_for, behind, eval_all, argument_slots, count, declared}
use Rattle.xk_emit.specs.Unit.{scope_from, body_kinds, kinds_of_params}
use Rattle.xk_emit.specs.NameCoverage.{IsFound, IsBoundKnown, IsLoopNew, IsKnown, IsCovered, AreCovered}
use Rattle.xk_emit.proofs.ShapeLemmas.PositionLemmas.{holds_both}
use Rattle.xk_emit.proofs.ShapeLemmas.StructureLemmas.{Nest, Row, Then, Loop, EachRow, limit_slot, nest_of, nest_of_all}
use Rattle.xk_emit.proofs.ShapeLemmas.InstructionLemmas.{EachInside, EachOf, Leaves, rows_of, each_both, each_bound, each_of_all}
use Rattle.xk_emit.proofs.ShapeLemmas.SlotLemmas.{ScopeBelow, found_below, scope_more, scope_wider, declared_below, within_below}
use Rattle.xk_emit.proofs.ShapeLemmas.LoopCounterLemmas.{find_more}

-- ---- slots of different names differ

abbrev pub AreApart : Scope → Type 0
AreApart scope = (x y : List ℕ) (k : ℕ) → find scope x ≡ Some k → find scope y ≡ Some k → x ≡ y

apart_more : (scope : Scope) (x : List ℕ) (n : ℕ) → ScopeBelow n scope → AreApart scope → AreApart (scope ++ (x, n) ∷ [])
apart_more scope x n w h a b k f g = go (find_more scope x n a k f) (find_more scope x n b k g)
  where
    go : (find scope a ≡ Some k) ⊎ ((a ≡ x) × (n ≡ k)) → (find scope b ≡ Some k) ⊎ ((b ≡ x) × (n ≡ k)) → a ≡ b
    go (inl p) (inl q) = h a b k p q
    go (inl p) (inr q) = absurd (omega (arith, found_below n scope a k w p, q.1))
    go (inr p) (inl q) = absurd (omega (arith, found_below n scope b k w q, p.1))
    go (inr p) (inr q) = p.0 ∙ sym q.0

apart_within : (scope : Scope) (n : ℕ) (i : Word) (b : Bound) → ScopeBelow n scope → AreApart scope → AreApart (within_loop scope n i b)
apart_within scope n i (UpTo hi) w h = apart_more scope i.text n w h
apart_within scope n i (Least x v e hi) w h =
    apart_more (scope ++ (i.text, n) ∷ []) x.text (n + 1)
    (scope_more (n + 1) scope i.text n (scope_wider n (n + 1) scope (omega arith) w) (omega arith)) (apart_more scope i.text n w h)

apart_declared : (scope : Scope) (n : ℕ) (s : Statement) → ScopeBelow n scope → AreApart scope → AreApart (declared scope n s)
apart_declared scope n (Declare b x ty r) w h = apart_more scope x.text n w h
apart_declared scope n _ w h = h

first_from : (n : ℕ) (xs : List (List ℕ)) (y : List ℕ) (k : ℕ) → find (scope_from n xs) y ≡ Some k → n ≤ k
first_from n [] y k h = absurd (none-some k h)
first_from n (x ∷ xs) y k h = go (is_text y x) (first_from (n + 1) xs y k) h
  where
    go : (b : Bool) → (find (scope_from (n + 1) xs) y ≡ Some k → n + 1 ≤ k) → cond b (Some n) (find (scope_from (n + 1) xs) y) ≡ Some k → n ≤ k
    go true later q = omega (arith, same_Some n k q)
    go false later q = omega (arith, later q)

pub apart_first : (n : ℕ) (xs : List (List ℕ)) → AreApart (scope_from n xs)
apart_first n [] a b k f g = absurd (none-some k f)
apart_first n (x ∷ xs) a b k f g = go (is_text a x) refl (is_text b x) refl (apart_first (n + 1) xs a b k) f g
  where
    go : (p : Bool) → is_text a x ≡ p → (q : Bool) → is_text b x ≡ q → (find (scope_from (n + 1) xs) a ≡ Some k → find (scope_from (n + 1) xs) b ≡ Some k → a ≡ b)
        → cond p (Some n) (find (scope_from (n + 1) xs) a) ≡ Some k → cond q (Some n) (find (scope_from (n + 1) xs) b) ≡ Some k → a ≡ b
    go true e true d later r s = (bytes_decides a x).0 e ∙ sym ((bytes_decides b x).0 d)
    go true e false d later r s = absurd (omega (arith, same_Some n k r, first_from (n + 1) xs b k s))
    go false e true d later r s = absurd (omega (arith, same_Some n k s, first_from (n + 1) xs a k r))
    go false e false d later r s = later r s

-- ---- words that differ have slots that differ

-- no word stands twice, as the rule on clocks that are given says it
abbrev NoneTwice : List Word → Type 0
NoneTwice ws = (before : List Word) (c : Word) (after : List Word) → ws ≡ before ++ c ∷ after → has (texts before) c.text ≡ false

none_twice_tail : (w : Word) (ws : List Word) → NoneTwice (w ∷ ws) → NoneTwice ws
none_twice_tail w ws h before c after e = (or_parts (is_text c.text w.text) (has (texts before) c.text) (h (w ∷ before) c after (ap (λ l. w ∷ l) e))).1

-- a later word is another one
another : (w : Word) (ws : List Word) → NoneTwice (w ∷ ws) → (before : List Word) (c : Word) (after : List Word) → ws ≡ before ++ c ∷ after → c.text ≡ w.text → ⊥
another w ws h before c after e same =
    let no = (or_parts (is_text c.text w.text) (has (texts before) c.text) (h (w ∷ before) c after (ap (λ l. w ∷ l) e))).0 in
    false≢true (sym no ∙ (bytes_decides c.text w.text).1 same)

abbrev word_slots : Scope → List Word → List ℕ
word_slots scope ws = map (λ w. number_of scope w) ws

-- where an element stands
has_at : (ws : List Word) (c : Word) → Has ws c → (before : List Word) × (after : List Word) × (ws ≡ before ++ c ∷ after)
has_at [] c h = absurd h
has_at (w ∷ ws) c (inl e) = ([], ws, ap (λ z. z ∷ ws) (sym e))
has_at (w ∷ ws) c (inr h) = let r = has_at ws c h in (w ∷ r.0, r.1, ap (λ l. w ∷ l) r.2)

module _ (scope : Scope) (apart : AreApart scope) where
  -- names with one slot
  same_slot : (a b : List ℕ) → IsFound scope a → IsFound scope b → unwrap_or (find scope a) 0 ≡ unwrap_or (find scope b) 0 → a ≡ b
  same_slot a b f g e = go (find scope a) refl (find scope b) refl f g e
    where
      go : (o : Option ℕ) → find scope a ≡ o → (q : Option ℕ) → find scope b ≡ q → is_some o ≡ true → is_some q ≡ true → unwrap_or o 0 ≡ unwrap_or q 0 → a ≡ b
      go None p q r s t e = absurd (false≢true s)
      go (Some k) p None r s t e = absurd (false≢true t)
      go (Some k) p (Some j) r s t e = apart a b k p (r ∙ ap Some (sym e))

  not_equal : (a b : List ℕ) → IsFound scope a → IsFound scope b → (a ≡ b → ⊥) → (unwrap_or (find scope a) 0 == unwrap_or (find scope b) 0) ≡ false
  not_equal a b f g n = go (unwrap_or (find scope a) 0 == unwrap_or (find scope b) 0) refl
    where
      go : (q : Bool) → (unwrap_or (find scope a) 0 == unwrap_or (find scope b) 0) ≡ q → (unwrap_or (find scope a) 0 == unwrap_or (find scope b) 0) ≡ false
      go true e = absurd (n (same_slot a b f g (eqb-true (unwrap_or (find scope a) 0) (unwrap_or (find scope b) 0) e)))
      go false e = e

  none_equal : (k : ℕ) (us : List Word) → ((c : Word) → Has us c → (number_of scope c == k) ≡ false) → list_any (λ y. y == k) (word_slots scope us) ≡ false
  none_equal k [] h = refl
  none_equal k (c ∷ us) h = rw (h c (inl refl)) (none_equal k us (λ d g. h d (inr g)))

  -- no slot stands twice
  none_slot_twice : (ws : List Word) → NoneTwice ws → ((c : Word) → Has ws c → IsFound scope c.text) → has_twice (word_slots scope ws) ≡ false
  none_slot_twice [] h f = refl
  none_slot_twice (w ∷ ws) h f =
      rw (none_equal (number_of scope w) ws (λ c g. not_equal c.text w.text (f c (inr g)) (f w (inl refl)) (let r = has_at ws c g in another w ws h r.0 c r.1 r.2)))
      (none_slot_twice ws (none_twice_tail w ws h) (λ c g. f c (inr g)))

-- ---- arguments of a body

abbrev clocks_and_numbers : List (List ℕ) → List (List ℕ) → List ParamKind
clocks_and_numbers cs ns = map (λ _. param.Clock) cs ++ map (λ _. param.Number) ns

no_clocks : (ns : List (List ℕ)) (f : List ℕ → ℕ) → clock_arguments (map (λ _. param.Number) ns) (map f ns) ≡ []
no_clocks [] f = refl
no_clocks (n ∷ ns) f = no_clocks ns f

body_clocks : (cs : List Word) (ns : List (List ℕ)) (f : List ℕ → ℕ) → clock_arguments (clocks_and_numbers (texts cs) ns) (map f (texts cs ++ ns)) ≡ map (λ w. f w.text) cs
body_clocks [] ns f = no_clocks ns f
body_clocks (c ∷ cs) ns f = ap (λ l. f c.text ∷ l) (body_clocks cs ns f)

-- ---- arguments of a method

abbrev clock_words : List ParamValue → List Expression → List Word
clock_words ps es = flat_map (λ a. argument_clocks a.0 a.1) (given ps es)

abbrev NoMisfit : List ParamValue → List Expression → Type 0
NoMisfit ps es = (k : ℕ) → Has (flat_map (λ a. argument_misfits a.0 a.1) (given ps es)) k → ⊥

-- one argument and the others
call_clock : (scope : Scope) (t : ℕ) (k : ParamKind) (e : Expression) (ks : List ParamKind) (args : List ℕ) (words : List Word) (rest : List ℕ)
    → ((n : ℕ) → Has (argument_misfits k e ++ rest) n → ⊥) → clock_arguments ks args ≡ word_slots scope words
    → clock_arguments (k ∷ ks) (slot_for scope t e ∷ args) ≡ word_slots scope (argument_clocks k e ++ words)
call_clock scope t param.Number e ks args words rest fit h = h
call_clock scope t param.Clock (Named x) ks args words rest fit h = ap (λ l. number_of scope x ∷ l) h
call_clock scope t param.Clock (Literal n) ks args words rest fit h = absurd (fit _ (inl refl))
call_clock scope t param.Clock (Paren at e) ks args words rest fit h = absurd (fit _ (inl refl))
call_clock scope t param.Clock (Negation at e) ks args words rest fit h = absurd (fit _ (inl refl))
call_clock scope t param.Clock (Binary o a at b) ks args words rest fit h = absurd (fit _ (inl refl))

call_clocks : (scope : Scope) (t : ℕ) (ps : List ParamValue) (es : List Expression) → NoMisfit ps es
    → clock_arguments (kinds_of_params ps) (argument_slots scope t es) ≡ word_slots scope (clock_words ps es)
call_clocks scope t [] es fit = refl
call_clocks scope t (p ∷ ps) [] fit = refl
call_clocks scope t (p ∷ ps) (e ∷ es) fit =
    call_clock scope t p.takes.kind e (kinds_of_params ps) (argument_slots scope (behind t (slot_for scope t e)) es) (clock_words ps es)
    (flat_map (λ a. argument_misfits a.0 a.1) (given ps es)) fit
    (call_clocks scope (behind t (slot_for scope t e)) ps es
    (λ n h. fit n (has_right (argument_misfits p.takes.kind e) (flat_map (λ a. argument_misfits a.0 a.1) (given ps es)) n h)))

one_found : (scope : Scope) (k : ParamKind) (e : Expression) (c : Word) → IsKnown scope e → Has (argument_clocks k e) c → IsFound scope c.text
one_found scope param.Number e c h g = absurd g
one_found scope param.Clock (Named x) c h (inl q) = subst (λ (w : Word). IsFound scope w.text) (sym q) h
one_found scope param.Clock (Named x) c h (inr q) = absurd q
one_found scope param.Clock (Literal n) c h g = absurd g
one_found scope param.Clock (Paren at e) c h g = absurd g
one_found scope param.Clock (Negation at e) c h g = absurd g
one_found scope param.Clock (Binary o a at b) c h g = absurd g

call_found : (scope : Scope) (ps : List ParamValue) (es : List Expression) (c : Word) → All (IsKnown scope) es → Has (clock_words ps es) c → IsFound scope c.text
call_found scope [] es c h g = absurd g
call_found scope (p ∷ ps) [] c h g = absurd g
call_found scope (p ∷ ps) (e ∷ es) c h g = go (has_either (argument_clocks p.takes.kind e) (clock_words ps es) c g) (call_found scope ps es c (All-tail (IsKnown scope) e es h))
  where
    go : Has (argument_clocks p.takes.kind e) c ⊎ Has (clock_words ps es) c → (Has (clock_words ps es) c → IsFound scope c.text) → IsFound scope c.text
    go (inl q) later = one_found scope p.takes.kind e c (All-head (IsKnown scope) e es h) q
    go (inr q) later = later q

body_found : (scope : Scope) (cs : List Word) (ns : List (List ℕ)) → All (IsFound scope) (texts cs ++ ns) → (c : Word) → Has cs c → IsFound scope c.text
body_found scope [] ns h c g = absurd g
body_found scope (w ∷ cs) ns h c (inl e) = subst (λ (z : Word). IsFound scope z.text) (sym e) (All-head (IsFound scope) w.text (texts cs ++ ns) h)
body_found scope (w ∷ cs) ns h c (inr g) = body_found scope cs ns (All-tail (IsFound scope) w.text (texts cs ++ ns) h) c g

-- ---- statements

-- what is given to a method: its parameters are the unit's, each clock is given by its bare name, and none is given twice
pub record IsGivenOnce (m : ModuleValue) (t : ℕ) (es : List Expression) : Type 0 where
  pub ps : List ParamValue
  pub kinds : params_of m t ≡ kinds_of_params ps
  pub fitting : NoMisfit ps es
  pub apart : NoneTwice (clock_words ps es)

-- what is given to the body of an `async`: the unit takes its clocks and numbers, and no clock is listed twice
pub record IsListedOnce (m : ModuleValue) (cx : Setting) (at : ℕ) (cs : Option Clocks) : Type 0 where
  pub kinds : params_of m (body_unit cx at) ≡ body_kinds cx at cs
  pub apart : NoneTwice (clocks_listed cs)

-- the statement itself gives no clock twice
abbrev pub GivesOnce : ModuleValue → Setting → Statement → Type 0
GivesOnce m cx (Call f at es) = IsGivenOnce m (number_of cx.methods f) es
GivesOnce m cx (Async at cs s) = IsListedOnce m cx at cs
GivesOnce m cx _ = Unit {0}

abbrev pub HandsOnce : ModuleValue → Instr → Type 0
HandsOnce m i = gives_twice m i ≡ false

-- a statement that calls and starts nothing
abbrev RunsNone : Statement → Type 0
RunsNone (Call f at es) = ⊥
RunsNone (Async at cs s) = ⊥
RunsNone _ = Unit {0}

given_leaves : (m : ModuleValue) (cx : Setting) → Leaves cx RunsNone (HandsOnce m)
given_leaves m cx = record {
  lit = λ d n. refl;
  copy = λ d x. refl;
  add = λ d x y. refl;
  sub = λ d x y. refl;
  mul = λ d x y. refl;
  get = λ x d s h. refl;
  put = λ x s a h. refl;
  add_to = λ x y at e h a. refl;
  print = λ x. refl;
  make = λ b x ty at v h d. refl;
  resume = λ c. refl;
  drop = λ c v h k. refl;
  advance = refl;
  call = λ f at es args h e. absurd h;
  spawn = λ at cs q args h e. absurd h;
}

call_once : (m : ModuleValue) (scope : Scope) (t u : ℕ) (es : List Expression) → AreApart scope → All (IsKnown scope) es → IsGivenOnce m u es
    → HandsOnce m (instr.Call u (argument_slots scope t es))
call_once m scope t u es apart known g =
    ap (λ ks. has_twice (clock_arguments ks (argument_slots scope t es))) g.kinds ∙ ap has_twice (call_clocks scope t g.ps es g.fitting)
    ∙ none_slot_twice scope apart (clock_words g.ps es) g.apart (λ c h. call_found scope g.ps es c known h)

spawn_once : (m : ModuleValue) (cx : Setting) (scope : Scope) (at : ℕ) (cs : Option Clocks) → AreApart scope → All (IsFound scope) (body_params cx at cs)
    → IsListedOnce m cx at cs
    → HandsOnce m (instr.Spawn (body_unit cx at) (slots_of scope (body_params cx at cs)))
spawn_once m cx scope at cs apart found g =
    ap (λ ks. has_twice (clock_arguments ks (slots_of scope (body_params cx at cs)))) g.kinds
    ∙ ap has_twice (body_clocks (clocks_listed cs) (captures_at cx at) (λ x. unwrap_or (find scope x) 0))
    ∙ none_slot_twice scope apart (clocks_listed cs) g.apart (λ c h. body_found scope (clocks_listed cs) (captures_at cx at) found c h)

module _ (m : ModuleValue) (cx : Setting) (t : ℕ) where
  abbrev plain : Leaves cx RunsNone (HandsOnce m)
  plain = given_leaves m cx

  mutual
    pub hands_once : (scope : Scope) (n : ℕ) (s : Statement) → ScopeBelow n scope → AreApart scope → IsCovered cx scope n s → EachInside (GivesOnce m cx) s
        → EachRow (HandsOnce m) (nest_of cx t scope n s)
    hands_once scope n (Block close ss) w a c h = all_hand_once scope n ss w a c h
    hands_once scope n (If at l op r s) w a c h = (each_both cx RunsNone (HandsOnce m) plain scope t l r, hands_once scope n s w a c.2 h)
    hands_once scope n (IfElse at l op r s u) w a c h = (
      each_both cx RunsNone (HandsOnce m) plain scope t l r,
      (hands_once scope n s w a c.2 h.0, hands_once scope (n + count s) u (scope_wider n (n + count s) scope (omega arith) w) a c.3 h.1),
    )
    hands_once scope n (For at i lo b s) w a c h =
        let inner = n + loop_slots b in
        go (int_le lo.value (top b)) c h (nest_of cx t there inner s)
        (hands_once there inner s (within_below inner scope n i b (scope_wider n inner scope (omega arith) w) (omega arith)) (apart_within scope n i b w a))
      where
        there : Scope
        there = within_loop scope n i b

        go : (q : Bool) → (q ≡ true → IsBoundKnown scope b × IsLoopNew scope n i b × IsCovered cx there (n + loop_slots b) s) → (q ≡ true → EachInside (GivesOnce m cx) s)
            → (y : Nest) → (IsCovered cx there (n + loop_slots b) s → EachInside (GivesOnce m cx) s → EachRow (HandsOnce m) y)
            → EachRow (HandsOnce m) (cond q (Then (Row (before_bound scope t n b)) (Loop n lo.value (limit_slot n b) (top b) y)) (Row []))
        go true d g y f = (each_bound cx RunsNone (HandsOnce m) plain scope t n b, f (d refl).2 (g refl))
        go false d g y f = tt
    hands_once scope n (Finish at s) w a c h = hands_once scope n s w a c h
    hands_once scope n (Async at cs s) w a c h = (spawn_once m cx scope at cs a c.1 h, tt)
    hands_once scope n (Call f at es) w a c h =
        let i = instr.Call (number_of cx.methods f) (argument_slots scope t es) in
        holds_both (HandsOnce m) (eval_all scope t es) (i ∷ []) (each_of_all cx RunsNone (HandsOnce m) plain scope t es)
        (call_once m scope t (number_of cx.methods f) es a c.1 h, tt)
    hands_once scope n Empty w a c h = tt
    hands_once scope n (Declare b x ty r) w a c h = rows_of cx RunsNone (HandsOnce m) plain t scope n (Declare b x ty r) tt
    hands_once scope n (Assign x e) w a c h = rows_of cx RunsNone (HandsOnce m) plain t scope n (Assign x e) tt
    hands_once scope n (Atomic x y at e) w a c h = rows_of cx RunsNone (HandsOnce m) plain t scope n (Atomic x y at e) tt
    hands_once scope n (Resume y v) w a c h = (refl, tt)
    hands_once scope n (Drop y v) w a c h = (refl, tt)
    hands_once scope n (AdvanceAll at v) w a c h = (refl, tt)
    hands_once scope n (Print at v e) w a c h = rows_of cx RunsNone (HandsOnce m) plain t scope n (Print at v e) tt

    pub all_hand_once : (scope : Scope) (n : ℕ) (ss : Statements) → ScopeBelow n scope → AreApart scope → AreCovered cx scope n ss → EachOf (GivesOnce m cx) ss
        → EachRow (HandsOnce m) (nest_of_all cx t scope n ss)
    all_hand_once scope n Done w a c h = tt
    all_hand_once scope n (More s ss) w a c h =
        let wider = declared_below (n + count s) scope n s (scope_wider n (n + count s) scope (omega arith) w) (omega arith) in
        (hands_once scope n s w a c.0 h.0, all_hand_once (declared scope n s) (n + count s) ss wider (apart_declared scope n s w a) c.1 h.1)
