-- What a body takes is visible where the body stands, and is no clock. Of bodies within bodies, the outer one takes what the inner one takes
-- and isn't declared between.
use Rattle.std.proofs.Common.{◌≡◌, ◌⊎◌, inl, inr, ℕ, Bool, true, false, cond, ◌||◌, List, [], ◌∷◌, ◌++◌, length, Option, Some, None, refl, sym, ap, ◌∙◌, subst, append_assoc, append-nil}
use Rattle.std.specs.List.{flat_map}
use Rattle.std.proofs.Math.Bool.{or-true}
use Rattle.std.proofs.lemmas.Bool.{or_parts, or_cases}
use Rattle.xk_types.specs.declared.unit.ParamKind.TheVariants as param
use Rattle.xk_tree.specs.declared.tree.Number.{Number}
use Rattle.xk_tree.specs.Tree.{Word, Expression, Literal, Named, Paren, Negation, Binary, Source, Make, Value, Bound, UpTo, Least, Statement, Statements, Done, More, Block, Empty, Declare, Assign, Atomic, If, IfElse, For, Async, Finish, Call, Resume, Drop, AdvanceAll, Print}
use Rattle.xk_names.specs.declared.binding.Known.{Known}
use Rattle.xk_names.specs.declared.binding.NameKind.{NameKind}
use Rattle.xk_names.specs.declared.binding.NameKind.TheVariants as kind
use Rattle.xk_names.specs.declared.binding.Want.TheVariants as want
use Rattle.xk_names.specs.Scope.{Table, find, has, is_text, Has, Declaration, declared, entry, Scope, is_clock, is_number, is_readable, is_assigned}
use Rattle.xk_names.specs.Uses.{Use, use_as, Signatures, numbers, values, argument_uses, Given, given_to, source_uses, bound_uses, assigned_uses, is_var, kind_of, declares, clocks_listed}
use Rattle.xk_names.specs.Places.{behind}
use Rattle.xk_names.specs.WellScoped.{IsRight, IsSound, IsSoundInside, AreSound, with_all, with_body}
use Rattle.xk_names.specs.FaultList.{put_text, put_texts}
use Rattle.xk_names.specs.Captures.{number_words, source_words, bound_words, loop_words, argument_words, words_used, words_besides, own_behind, outer_inside, outer_among, outer_words}
use Rattle.xk_names.proofs.MembershipLemmas.{has_left, has_right, has_either}
use Rattle.xk_names.proofs.TableAgreementLemmas.{find_behind, or_entry, has_put}

-- ---- names that are used as numbers

-- the name is visible, and is no clock's
pub record IsNumberAt (names : Table Known) (x : List ℕ) : Type 0 where
  pub known : Known
  pub found : find names x ≡ Some known
  pub number : is_clock known.kind ≡ false

abbrev pub AreRight : Scope → List Use → Type 0
AreRight sc us = (u : Use) → Has us u → IsRight sc u

abbrev AreNumbers : Scope → List Word → Type 0
AreNumbers sc ws = (w : Word) → Has ws w → IsNumberAt sc.names w.text

pub number_kind : (k : NameKind) → is_number k ≡ true → is_clock k ≡ false
number_kind kind.Val h = refl
number_kind kind.Var h = refl
number_kind kind.Shared h = refl
number_kind kind.Clock h = absurd cc

pub readable_kind : (k : NameKind) → is_readable k ≡ true → is_clock k ≡ false
readable_kind kind.Val h = refl
readable_kind kind.Var h = refl
readable_kind kind.Shared h = refl
readable_kind kind.Clock h = absurd cc

pub assigned_kind : (k : NameKind) → is_assigned k ≡ true → is_clock k ≡ false
assigned_kind kind.Val h = refl
assigned_kind kind.Var h = refl
assigned_kind kind.Shared h = refl
assigned_kind kind.Clock h = absurd cc

right_number : (sc : Scope) (w : Word) → IsRight sc (use_as want.Number w) → IsNumberAt sc.names w.text
right_number sc w r = record { known = r.known; found = r.found; number = number_kind r.known.kind r.right }

right_readable : (sc : Scope) (w : Word) → IsRight sc (use_as want.Readable w) → IsNumberAt sc.names w.text
right_readable sc w r = record { known = r.known; found = r.found; number = readable_kind r.known.kind r.right }

right_assigned : (sc : Scope) (w : Word) → IsRight sc (use_as want.Assigned w) → IsNumberAt sc.names w.text
right_assigned sc w r = record { known = r.known; found = r.found; number = assigned_kind r.known.kind r.right }

number_used : (e : Expression) (w : Word) → Has (number_words e) w → Has (numbers e) (use_as want.Number w)
number_used (Literal n) w h = absurd h
number_used (Named x) w (inl e) = inl (ap (use_as want.Number) e)
number_used (Named x) w (inr h) = absurd h
number_used (Paren at e) w h = number_used e w h
number_used (Negation at e) w h = number_used e w h
number_used (Binary o l at r) w h = elim (has_either (number_words l) (number_words r) w h) [
  | inl a ↦ has_left (numbers l) (numbers r) (use_as want.Number w) (number_used l w a)
  | inr b ↦ has_right (numbers l) (numbers r) (use_as want.Number w) (number_used r w b)
]

expression_numbers : (sc : Scope) (e : Expression) → AreRight sc (numbers e) → AreNumbers sc (number_words e)
expression_numbers sc e right w h = right_number sc w (right (use_as want.Number w) (number_used e w h))

value_numbers : (sc : Scope) (e : Expression) → AreRight sc (values e) → AreNumbers sc (number_words e)
value_numbers sc (Named x) right w (inl e) =
    subst (λ (k : Word). IsNumberAt sc.names k.text) (sym e) (right_readable sc x (right (use_as want.Readable x) (inl refl)))
value_numbers sc (Named x) right w (inr h) = absurd h
value_numbers sc (Literal n) right w h = expression_numbers sc (Literal n) right w h
value_numbers sc (Paren at e) right w h = expression_numbers sc (Paren at e) right w h
value_numbers sc (Negation at e) right w h = expression_numbers sc (Negation at e) right w h
value_numbers sc (Binary o l at r) right w h = expression_numbers sc (Binary o l at r) right w h

source_numbers : (sc : Scope) (r : Source) → AreRight sc (source_uses r) → AreNumbers sc (source_words r)
source_numbers sc (Make at v) right w h = absurd h
source_numbers sc (Value e) right w h = value_numbers sc e right w h

bound_numbers : (sc : Scope) (b : Bound) → AreRight sc (bound_uses b) → AreNumbers sc (bound_words b)
bound_numbers sc (UpTo n) right w h = absurd h
bound_numbers sc (Least x v e n) right w h = expression_numbers sc e right w h

assigned_numbers : (sc : Scope) (k : Option Known) (e : Expression) → AreRight sc (assigned_uses k e) → AreNumbers sc (number_words e)
assigned_numbers sc k e = go (is_var k)
  where
    go : (b : Bool) → AreRight sc (cond b (values e) (numbers e)) → AreNumbers sc (number_words e)
    go true right = value_numbers sc e right
    go false right = expression_numbers sc e right

both_numbers : (sc : Scope) (l r : Expression) → AreRight sc (numbers l ++ numbers r) → AreNumbers sc (number_words l ++ number_words r)
both_numbers sc l r right w h = elim (has_either (number_words l) (number_words r) w h) [
  | inl a ↦ expression_numbers sc l (λ u z. right u (has_left (numbers l) (numbers r) u z)) w a
  | inr b ↦ expression_numbers sc r (λ u z. right u (has_right (numbers l) (numbers r) u z)) w b
]

abbrev pub all_uses : Given → List Use
all_uses gs = flat_map (λ a. argument_uses a.0 a.1) gs

abbrev pub all_words : Given → List Word
all_words gs = flat_map (λ a. argument_words a.0 a.1) gs

given_numbers : (sc : Scope) (gs : Given) → AreRight sc (all_uses gs) → AreNumbers sc (all_words gs)
given_numbers sc [] right w h = absurd h
given_numbers sc ((param.Number, e) ∷ gs) right w h = elim (has_either (number_words e) (all_words gs) w h) [
  | inl a ↦ expression_numbers sc e (λ u z. right u (has_left (numbers e) (all_uses gs) u z)) w a
  | inr b ↦ given_numbers sc gs (λ u z. right u (has_right (numbers e) (all_uses gs) u z)) w b
]
given_numbers sc ((param.Clock, e) ∷ gs) right w h =
    given_numbers sc gs (λ u z. right u (has_right (argument_uses param.Clock e) (all_uses gs) u z)) w h

used_numbers : (ms : Signatures) (sc : Scope) (s : Statement) → IsSound ms sc s → AreNumbers sc (words_used ms s)
used_numbers ms sc (Declare b x ty r) sound w h = source_numbers sc r sound.used w h
used_numbers ms sc (Assign x e) sound w (inl i) =
    subst (λ (k : Word). IsNumberAt sc.names k.text) (sym i) (right_assigned sc x (sound.used (use_as want.Assigned x) (inl refl)))
used_numbers ms sc (Assign x e) sound w (inr h) = assigned_numbers sc (find sc.names x.text) e (λ u z. sound.used u (inr z)) w h
used_numbers ms sc (Atomic x y at e) sound w h = expression_numbers sc e (λ u z. sound.used u (inr (inr z))) w h
used_numbers ms sc (If at l c r s) sound w h = both_numbers sc l r sound.used w h
used_numbers ms sc (IfElse at l c r s u) sound w h = both_numbers sc l r sound.used w h
used_numbers ms sc (Call g at es) sound w h = given_numbers sc (given_to (find ms g.text) es) sound.used w h
used_numbers ms sc (Print at v e) sound w h = expression_numbers sc e sound.used w h
used_numbers ms sc (Block close ss) sound w h = absurd h
used_numbers ms sc Empty sound w h = absurd h
used_numbers ms sc (For at i lo b s) sound w h = bound_numbers sc b sound.used w h
used_numbers ms sc (Async at cs s) sound w h = absurd h
used_numbers ms sc (Finish at s) sound w h = absurd h
used_numbers ms sc (Resume c v) sound w h = absurd h
used_numbers ms sc (Drop c v) sound w h = absurd h
used_numbers ms sc (AdvanceAll at v) sound w h = absurd h

-- ---- those among them that aren't declared within

from_besides : (own : List (List ℕ)) (ws : List Word) (w : Word) → Has (words_besides own ws) w → Has ws w × (has own w.text ≡ false)
from_besides own [] w h = absurd h
from_besides own (v ∷ ws) w h = go (has own v.text) refl (from_besides own ws w) h
  where
    go : (b : Bool) → has own v.text ≡ b → (Has (words_besides own ws) w → Has ws w × (has own w.text ≡ false))
        → Has (cond b [] (v ∷ []) ++ words_besides own ws) w → Has (v ∷ ws) w × (has own w.text ≡ false)
    go true e later k = let r = later k in (inr r.0, r.1)
    go false e later (inl k) = (inl k, ap (λ (z : Word). has own z.text) k ∙ e)
    go false e later (inr k) = let r = later k in (inr r.0, r.1)

pub to_besides : (own : List (List ℕ)) (ws : List Word) (w : Word) → Has ws w → has own w.text ≡ false → Has (words_besides own ws) w
to_besides own [] w h f = absurd h
to_besides own (v ∷ ws) w h f = go (has own v.text) refl (λ k. to_besides own ws w k f) h
  where
    go : (b : Bool) → has own v.text ≡ b → (Has ws w → Has (words_besides own ws) w) → Has (v ∷ ws) w → Has (cond b [] (v ∷ []) ++ words_besides own ws) w
    go true e later (inl k) = let never : true ≡ false = sym e ∙ ap (λ (z : Word). has own z.text) (sym k) ∙ f in absurd cc
    go true e later (inr k) = later k
    go false e later (inl k) = inl k
    go false e later (inr k) = inr (later k)

-- ---- what a body takes is visible where it stands

-- what isn't declared since is found as it was
abbrev IsSince : Table Known → List (List ℕ) → Table Known → List (List ℕ) → Type 0
IsSince names before there own = (x : List ℕ) → has own x ≡ false → (has before x ≡ false) × (find there x ≡ find names x)

or_none : {A : Type 0} (o : Option A) (a : A) → or_entry o false a ≡ o
or_none None a = refl
or_none (Some j) a = refl

since_put : (names : Table Known) (before : List (List ℕ)) (there : Table Known) (own : List (List ℕ)) (d : Declaration) → IsSince names before there own
    → IsSince names before (there ++ entry d ∷ []) (put_text own d.name.text)
since_put names before there own d since x h =
    let apart = or_parts (has own x) (is_text x d.name.text) (sym (has_put own d.name.text x) ∙ h) in
    let was = since x apart.0 in
    (was.0, find_behind there d.name.text d.known x ∙ ap (λ b. or_entry (find there x) b d.known) apart.1 ∙ or_none (find there x) d.known ∙ was.1)

-- the names of a loop
since_loop : (names : Table Known) (before : List (List ℕ)) (sc : Scope) (own : List (List ℕ)) (at : ℕ) (i : Word) (lo : Number) (b : Bound) (s : Statement)
    → IsSince names before sc.names own
    → IsSince names before (with_all sc (declares (length sc.bodies) (For at i lo b s))).names (put_texts own (loop_words i b))
since_loop names before sc own at i lo (UpTo hi) s since = since_put names before sc.names own (declared i kind.Val (length sc.bodies)) since
since_loop names before sc own at i lo (Least x v e hi) s since =
    let first = declared i kind.Val (length sc.bodies) in
    let second = declared x kind.Val (length sc.bodies) in
    subst (λ k. IsSince names before k (put_text (put_text own i.text) x.text)) (append_assoc sc.names (entry first ∷ []) (entry second ∷ []))
    (since_put names before (sc.names ++ entry first ∷ []) (put_text own i.text) second (since_put names before sc.names own first since))

since_same : (names : Table Known) (before : List (List ℕ)) (there : Table Known) (own : List (List ℕ)) → IsSince names before there own
    → IsSince names before (there ++ []) own
since_same names before there own since = subst (λ k. IsSince names before k own) (sym (append-nil there)) since

since_behind : (names : Table Known) (before : List (List ℕ)) (sc : Scope) (own : List (List ℕ)) (s : Statement) → IsSince names before sc.names own
    → IsSince names before (with_all sc (behind (length sc.bodies) s)).names (own_behind own s)
since_behind names before sc own (Declare b x ty r) since =
    since_put names before sc.names own (declared x (kind_of b r) (length sc.bodies)) since
since_behind names before sc own _ since = since_same names before sc.names own since

-- it wasn't declared before, and is a number there
pub record IsOuter (names : Table Known) (before : List (List ℕ)) (w : Word) : Type 0 where
  pub other : has before w.text ≡ false
  pub there : IsNumberAt names w.text

words_outer : (names : Table Known) (before : List (List ℕ)) (sc : Scope) (own : List (List ℕ)) (ws : List Word) → IsSince names before sc.names own → AreNumbers sc ws
    → (w : Word) → Has (words_besides own ws) w → IsOuter names before w
words_outer names before sc own ws since right w h =
    let r = from_besides own ws w h in
    let was = since w.text r.1 in
    let n = right w r.0 in
    record { other = was.0; there = record { known = n.known; found = sym was.1 ∙ n.found; number = n.number } }

statement_outer : (ms : Signatures) (names : Table Known) (before : List (List ℕ)) (sc : Scope) (own : List (List ℕ)) (s : Statement) → IsSince names before sc.names own
    → IsSound ms sc s → (w : Word) → (Has (outer_inside ms own s) w → IsOuter names before w) → Has (outer_words ms own s) w → IsOuter names before w
statement_outer ms names before sc own s since sound w later h = elim (has_either (words_besides own (words_used ms s)) (outer_inside ms own s) w h) [
  | inl a ↦ words_outer names before sc own (words_used ms s) since (used_numbers ms sc s sound) w a
  | inr b ↦ later b
]

mutual
  inside_outer : (ms : Signatures) (names : Table Known) (before : List (List ℕ)) (sc : Scope) (own : List (List ℕ)) (s : Statement) → IsSince names before sc.names own
      → IsSoundInside ms sc s → (w : Word) → Has (outer_inside ms own s) w → IsOuter names before w
  inside_outer ms names before sc own (Block close ss) since sound w h = among_outer ms names before sc own ss since sound w h
  inside_outer ms names before sc own (If at l c r s) since sound w h =
      statement_outer ms names before sc own s since sound.0 w (λ k. inside_outer ms names before sc own s since sound.1 w k) h
  inside_outer ms names before sc own (IfElse at l c r s u) since sound w h = elim (has_either (outer_words ms own s) (outer_words ms own u) w h) [
    | inl a ↦ statement_outer ms names before sc own s since sound.0.0 w (λ k. inside_outer ms names before sc own s since sound.0.1 w k) a
    | inr b ↦ statement_outer ms names before sc own u since sound.1.0 w (λ k. inside_outer ms names before sc own u since sound.1.1 w k) b
  ]
  inside_outer ms names before sc own (For at i lo b s) since sound w h =
      let there = with_all sc (declares (length sc.bodies) (For at i lo b s)) in
      let inner = put_texts own (loop_words i b) in
      let more = since_loop names before sc own at i lo b s since in
      statement_outer ms names before there inner s more sound.0 w (λ k. inside_outer ms names before there inner s more sound.1 w k) h
  inside_outer ms names before sc own (Async at cs s) since sound w h =
      let there = with_body sc (clocks_listed cs) in
      statement_outer ms names before there own s since sound.0 w (λ k. inside_outer ms names before there own s since sound.1 w k) h
  inside_outer ms names before sc own (Finish at s) since sound w h =
      statement_outer ms names before sc own s since sound.0 w (λ k. inside_outer ms names before sc own s since sound.1 w k) h
  inside_outer ms names before sc own _ since sound w h = absurd h

  among_outer : (ms : Signatures) (names : Table Known) (before : List (List ℕ)) (sc : Scope) (own : List (List ℕ)) (ss : Statements) → IsSince names before sc.names own
      → AreSound ms sc ss → (w : Word) → Has (outer_among ms own ss) w → IsOuter names before w
  among_outer ms names before sc own Done since sound w h = absurd h
  among_outer ms names before sc own (More s ss) since sound w h = elim (has_either (outer_words ms own s) (outer_among ms (own_behind own s) ss) w h) [
    | inl a ↦ statement_outer ms names before sc own s since sound.0.0 w (λ k. inside_outer ms names before sc own s since sound.0.1 w k) a
    | inr b ↦ among_outer ms names before (with_all sc (behind (length sc.bodies) s)) (own_behind own s) ss (since_behind names before sc own s since) sound.1 w b
  ]

-- what a statement takes, where these are declared
pub outer_found : (ms : Signatures) (sc : Scope) (own : List (List ℕ)) (s : Statement) → IsSound ms sc s → IsSoundInside ms sc s
    → (w : Word) → Has (outer_words ms own s) w → IsOuter sc.names own w
outer_found ms sc own s sound inner w h =
    statement_outer ms sc.names own sc own s (λ x e. (e, refl)) sound w (λ k. inside_outer ms sc.names own sc own s (λ x e. (e, refl)) inner w k) h

-- and what statements take one after another
pub among_found : (ms : Signatures) (sc : Scope) (own : List (List ℕ)) (ss : Statements) → AreSound ms sc ss
    → (w : Word) → Has (outer_among ms own ss) w → IsOuter sc.names own w
among_found ms sc own ss sound w h = among_outer ms sc.names own sc own ss (λ x e. (e, refl)) sound w h

-- ---- what an inner body takes the outer one takes too, unless it is declared between

-- the second list has no more than the first and these
abbrev HasNoMore : List (List ℕ) → List (List ℕ) → List (List ℕ) → Type 0
HasNoMore these a b = (x : List ℕ) → has b x ≡ true → (has a x ≡ true) ⊎ (has these x ≡ true)

more_put : (these a b : List (List ℕ)) (y : List ℕ) → HasNoMore these a b → HasNoMore these (put_text a y) (put_text b y)
more_put these a b y fewer x h = elim (or_cases (has b x) (is_text x y) (sym (has_put b y x) ∙ h)) [
  | inl e ↦ elim (fewer x e) [
    | inl f ↦ inl (has_put a y x ∙ ap (λ c. c || is_text x y) f)
    | inr f ↦ inr f
  ]
  | inr e ↦ inl (has_put a y x ∙ ap (λ c. has a x || c) e ∙ or-true (has a x))
]

more_puts : (these a b : List (List ℕ)) (ws : List Word) → HasNoMore these a b → HasNoMore these (put_texts a ws) (put_texts b ws)
more_puts these a b [] fewer = fewer
more_puts these a b (w ∷ ws) fewer = more_puts these (put_text a w.text) (put_text b w.text) ws (more_put these a b w.text fewer)

more_behind : (these a b : List (List ℕ)) (s : Statement) → HasNoMore these a b → HasNoMore these (own_behind a s) (own_behind b s)
more_behind these a b (Declare k x ty r) fewer = more_put these a b x.text fewer
more_behind these a b _ fewer = fewer

besides_kept : (these a b : List (List ℕ)) (ws : List Word) (w : Word) → HasNoMore these a b → has these w.text ≡ false
    → Has (words_besides a ws) w → Has (words_besides b ws) w
besides_kept these a b ws w fewer other h = let r = from_besides a ws w h in to_besides b ws w r.0 (go (has b w.text) refl r.1)
  where
    go : (c : Bool) → has b w.text ≡ c → has a w.text ≡ false → c ≡ false
    go false e f = refl
    go true e f = elim (fewer w.text e) [
      | inl g ↦ let never : true ≡ false = sym g ∙ f in absurd cc
      | inr g ↦ let never : true ≡ false = sym g ∙ other in absurd cc
    ]

statement_kept : (ms : Signatures) (these a b : List (List ℕ)) (s : Statement) (w : Word) → HasNoMore these a b → has these w.text ≡ false
    → (Has (outer_inside ms a s) w → Has (outer_inside ms b s) w) → Has (outer_words ms a s) w → Has (outer_words ms b s) w
statement_kept ms these a b s w fewer other later h = elim (has_either (words_besides a (words_used ms s)) (outer_inside ms a s) w h) [
  | inl k ↦ has_left (words_besides b (words_used ms s)) (outer_inside ms b s) w (besides_kept these a b (words_used ms s) w fewer other k)
  | inr k ↦ has_right (words_besides b (words_used ms s)) (outer_inside ms b s) w (later k)
]

mutual
  inside_kept : (ms : Signatures) (these a b : List (List ℕ)) (s : Statement) (w : Word) → HasNoMore these a b → has these w.text ≡ false
      → Has (outer_inside ms a s) w → Has (outer_inside ms b s) w
  inside_kept ms these a b (Block close ss) w fewer other h = among_kept ms these a b ss w fewer other h
  inside_kept ms these a b (If at l c r s) w fewer other h = statement_kept ms these a b s w fewer other (λ k. inside_kept ms these a b s w fewer other k) h
  inside_kept ms these a b (IfElse at l c r s u) w fewer other h = elim (has_either (outer_words ms a s) (outer_words ms a u) w h) [
    | inl k ↦ has_left (outer_words ms b s) (outer_words ms b u) w (statement_kept ms these a b s w fewer other (λ j. inside_kept ms these a b s w fewer other j) k)
    | inr k ↦ has_right (outer_words ms b s) (outer_words ms b u) w (statement_kept ms these a b u w fewer other (λ j. inside_kept ms these a b u w fewer other j) k)
  ]
  inside_kept ms these a b (For at i lo k s) w fewer other h =
      let more = more_puts these a b (loop_words i k) fewer in
      let c : List (List ℕ) = put_texts a (loop_words i k) in
      let d : List (List ℕ) = put_texts b (loop_words i k) in
      statement_kept ms these c d s w more other (λ k. inside_kept ms these c d s w more other k) h
  inside_kept ms these a b (Async at cs s) w fewer other h = statement_kept ms these a b s w fewer other (λ k. inside_kept ms these a b s w fewer other k) h
  inside_kept ms these a b (Finish at s) w fewer other h = statement_kept ms these a b s w fewer other (λ k. inside_kept ms these a b s w fewer other k) h
  inside_kept ms these a b _ w fewer other h = absurd h

  among_kept : (ms : Signatures) (these a b : List (List ℕ)) (ss : Statements) (w : Word) → HasNoMore these a b → has these w.text ≡ false
      → Has (outer_among ms a ss) w → Has (outer_among ms b ss) w
  among_kept ms these a b Done w fewer other h = absurd h
  among_kept ms these a b (More s ss) w fewer other h = elim (has_either (outer_words ms a s) (outer_among ms (own_behind a s) ss) w h) [
    | inl k ↦ has_left (outer_words ms b s) (outer_among ms (own_behind b s) ss) w
        (statement_kept ms these a b s w fewer other (λ j. inside_kept ms these a b s w fewer other j) k)
    | inr k ↦ has_right (outer_words ms b s) (outer_among ms (own_behind b s) ss) w
        (among_kept ms these (own_behind a s) (own_behind b s) ss w (more_behind these a b s fewer) other k)
  ]

-- what isn't among these is taken also where they are declared
pub outer_kept : (ms : Signatures) (a these : List (List ℕ)) (s : Statement) (w : Word) → has these w.text ≡ false
    → Has (outer_words ms a s) w → Has (outer_words ms these s) w
outer_kept ms a these s w other h =
    statement_kept ms these a these s w (λ x e. inr e) other (λ k. inside_kept ms these a these s w (λ x e. inr e) other k) h
