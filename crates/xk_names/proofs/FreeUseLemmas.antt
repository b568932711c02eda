-- What is taken of a statement's own uses: where it is known which names are declared within, these are those that mean a number from outside.
use Rattle.std.proofs.Common.{◌≡◌, inl, inr, ℕ, nat_lt, not, ◌<◌, Bool, true, false, cond, List, [], ◌∷◌, ◌++◌, map, length, Option, Some, None, refl, sym, ap, ◌∙◌, subst, append_assoc, eqb-true}
use Rattle.std.proofs.lemmas.Bool.{lt-ltb}
use Rattle.std.specs.List.{flat_map}
use Rattle.xk_types.specs.declared.unit.ParamKind.{ParamKind}
use Rattle.xk_types.specs.declared.unit.ParamKind.TheVariants as param
use Rattle.xk_tree.specs.declared.tree.Binding.{Binding}
use Rattle.xk_tree.specs.declared.tree.Binding.TheVariants as binding
use Rattle.xk_tree.specs.Tree.{Word, Expression, Literal, Named, Paren, Negation, Binary, Source, Make, Value, Bound, UpTo, Least, Statement, Block, Empty, Declare, Assign, Atomic, If, IfElse, For, Async, Finish, Call, Resume, Drop, AdvanceAll, Print}
use Rattle.xk_names.specs.declared.binding.Known.{Known}
use Rattle.xk_names.specs.declared.binding.NameKind.{NameKind}
use Rattle.xk_names.specs.declared.binding.NameKind.TheVariants as kind
use Rattle.xk_names.specs.declared.binding.Want.{Want}
use Rattle.xk_names.specs.declared.binding.Want.TheVariants as want
use Rattle.xk_names.specs.Scope.{Table, find, has, Has, Scope, sees_as, is_clock, is_shared}
use Rattle.xk_names.specs.Uses.{Use, use_as, Signatures, numbers, values, start_of, argument_uses, argument_misfits, Given, given_to, source_uses, bound_uses, assigned_uses, is_var, uses, clocks_listed, kind_of}
use Rattle.xk_names.specs.Faults.{param_kind}
use Rattle.xk_names.specs.WellScoped.{IsRight, IsSound}
use Rattle.xk_names.specs.Captures.{number_words, source_words, bound_words, words_used, words_besides}
use Rattle.xk_names.proofs.MembershipLemmas.{has_left, has_right}
use Rattle.xk_names.proofs.CaptureVisibilityLemmas.{AreRight, number_kind, readable_kind, assigned_kind, all_uses, all_words}
use Rattle.xk_names.proofs.CaptureStepLemmas.{besides_append}

-- a number that stays, from at most so many bodies
abbrev pub is_outer_kind : NameKind → Bool → Bool
is_outer_kind kind.Val deeper = not deeper
is_outer_kind kind.Var deeper = false
is_outer_kind kind.Shared deeper = false
is_outer_kind kind.Clock deeper = false

abbrev pub is_outer : ℕ → Option Known → Bool
is_outer n None = false
is_outer n (Some k) = is_outer_kind k.kind (nat_lt n k.depth)

-- a shared number, or what is declared in more bodies
abbrev pub is_inner_kind : NameKind → Bool → Bool
is_inner_kind kind.Shared deeper = true
is_inner_kind kind.Val deeper = deeper
is_inner_kind kind.Var deeper = deeper
is_inner_kind kind.Clock deeper = deeper

-- The names of the list are the shared numbers, and what is declared in more than n bodies.
abbrev pub Tells : ℕ → Bool → Option Known → Type 0
Tells n b None = Unit {0}
Tells n b (Some k) = b ≡ is_inner_kind k.kind (nat_lt n k.depth)

pub record IsTold (n : ℕ) (sc : Scope) (own : List (List ℕ)) : Type 0 where
  pub tells : (x : List ℕ) → Tells n (has own x) (find sc.names x)
  pub deeper : n < length sc.bodies

-- the names of uses that mean a number from outside
abbrev pub free_of : ℕ → Table Known → List Use → List Word
free_of n names [] = []
free_of n names (u ∷ us) = cond (is_outer n (find names u.name.text)) (u.name ∷ []) [] ++ free_of n names us

free_append : (n : ℕ) (names : Table Known) (us vs : List Use) → free_of n names (us ++ vs) ≡ free_of n names us ++ free_of n names vs
free_append n names [] vs = refl
free_append n names (u ∷ us) vs =
    let first : List Word = cond (is_outer n (find names u.name.text)) (u.name ∷ []) [] in
    ap (λ r. first ++ r) (free_append n names us vs) ∙ sym (append_assoc first (free_of n names us) (free_of n names vs))

-- ---- one use

-- what is known of a name that is seen as a number
opposite : (n : ℕ) (sc : Scope) (x : List ℕ) (k : Known) (d : NameKind) → n < length sc.bodies → is_clock d ≡ false → sees_as d sc x k ≡ true
    → is_outer_kind d (nat_lt n k.depth) ≡ not (is_inner_kind d (nat_lt n k.depth))
opposite n sc x k kind.Val deep h seen = refl
opposite n sc x k kind.Shared deep h seen = refl
opposite n sc x k kind.Clock deep h seen = absurd cc
opposite n sc x k kind.Var deep h seen =
    let at : k.depth ≡ length sc.bodies = eqb-true k.depth (length sc.bodies) seen in
    ap not (sym (lt-ltb n k.depth (subst (λ j. n < j) (sym at) deep)))

clock_not : (d : NameKind) (b : Bool) → is_clock d ≡ true → is_outer_kind d b ≡ false
clock_not kind.Clock b h = refl
clock_not kind.Val b h = absurd cc
clock_not kind.Var b h = absurd cc
clock_not kind.Shared b h = absurd cc

shared_not : (d : NameKind) (b : Bool) → is_shared d ≡ true → is_outer_kind d b ≡ false
shared_not kind.Shared b h = refl
shared_not kind.Val b h = absurd cc
shared_not kind.Var b h = absurd cc
shared_not kind.Clock b h = absurd cc

-- a word and a use that are taken alike
abbrev Alike : ℕ → Scope → List (List ℕ) → List Word → List Use → Type 0
Alike n sc own ws us = words_besides own ws ≡ free_of n sc.names us

alike_both : (n : ℕ) (sc : Scope) (own : List (List ℕ)) (ws vs : List Word) (us ts : List Use) → Alike n sc own ws us → Alike n sc own vs ts
    → Alike n sc own (ws ++ vs) (us ++ ts)
alike_both n sc own ws vs us ts a b =
    besides_append own ws vs ∙ ap (λ k. k ++ words_besides own vs) a ∙ ap (λ k. free_of n sc.names us ++ k) b ∙ sym (free_append n sc.names us ts)

-- a number's name
one_number : (n : ℕ) (sc : Scope) (own : List (List ℕ)) → IsTold n sc own → (w : Want) (x : Word) (r : IsRight sc (use_as w x)) → is_clock r.known.kind ≡ false
    → Alike n sc own (x ∷ []) (use_as w x ∷ [])
one_number n sc own told w x r number =
    let k = r.known in
    let told_of : Tells n (has own x.text) (Some k) = subst (λ o. Tells n (has own x.text) o) r.found (told.tells x.text) in
    let outer : is_outer n (find sc.names x.text) ≡ not (has own x.text) =
    ap (is_outer n) r.found ∙ opposite n sc x.text k k.kind told.deeper number r.seen ∙ ap not (sym told_of) in
    go (has own x.text) (is_outer n (find sc.names x.text)) outer
  where
    go : (b c : Bool) → c ≡ not b → cond b [] (x ∷ []) ++ [] ≡ cond c (x ∷ []) [] ++ []
    go true c e = ap (λ d. cond d (x ∷ []) [] ++ []) (sym e)
    go false c e = ap (λ d. cond d (x ∷ []) [] ++ []) (sym e)

-- the name of something that isn't taken
one_none : (n : ℕ) (sc : Scope) (own : List (List ℕ)) (w : Want) (x : Word) → is_outer n (find sc.names x.text) ≡ false → Alike n sc own [] (use_as w x ∷ [])
one_none n sc own w x e = ap (λ d. cond d (x ∷ []) [] ++ []) (sym e)

clock_none : (n : ℕ) (sc : Scope) (own : List (List ℕ)) (x : Word) → IsRight sc (use_as want.Clock x) → Alike n sc own [] (use_as want.Clock x ∷ [])
clock_none n sc own x r = one_none n sc own want.Clock x (ap (is_outer n) r.found ∙ clock_not r.known.kind (nat_lt n r.known.depth) r.right)

shared_none : (n : ℕ) (sc : Scope) (own : List (List ℕ)) (x : Word) → IsRight sc (use_as want.Shared x) → Alike n sc own [] (use_as want.Shared x ∷ [])
shared_none n sc own x r = one_none n sc own want.Shared x (ap (is_outer n) r.found ∙ shared_not r.known.kind (nat_lt n r.known.depth) r.right)

-- ---- the parts of a statement

abbrev all_misfits : Given → List ℕ
all_misfits gs = flat_map (λ a. argument_misfits a.0 a.1) gs

module _ (n : ℕ) (sc : Scope) (own : List (List ℕ)) (told : IsTold n sc own) where
  number_alike : (x : Word) → IsRight sc (use_as want.Number x) → Alike n sc own (x ∷ []) (use_as want.Number x ∷ [])
  number_alike x r = one_number n sc own told want.Number x r (number_kind r.known.kind r.right)

  readable_alike : (x : Word) → IsRight sc (use_as want.Readable x) → Alike n sc own (x ∷ []) (use_as want.Readable x ∷ [])
  readable_alike x r = one_number n sc own told want.Readable x r (readable_kind r.known.kind r.right)

  assigned_alike : (x : Word) → IsRight sc (use_as want.Assigned x) → Alike n sc own (x ∷ []) (use_as want.Assigned x ∷ [])
  assigned_alike x r = one_number n sc own told want.Assigned x r (assigned_kind r.known.kind r.right)

  expression_alike : (e : Expression) → AreRight sc (numbers e) → Alike n sc own (number_words e) (numbers e)
  expression_alike (Literal m) right = refl
  expression_alike (Named x) right = number_alike x (right (use_as want.Number x) (inl refl))
  expression_alike (Paren at e) right = expression_alike e right
  expression_alike (Negation at e) right = expression_alike e right
  expression_alike (Binary o l at r) right =
      alike_both n sc own (number_words l) (number_words r) (numbers l) (numbers r)
      (expression_alike l (λ u z. right u (has_left (numbers l) (numbers r) u z)))
      (expression_alike r (λ u z. right u (has_right (numbers l) (numbers r) u z)))

  value_alike : (e : Expression) → AreRight sc (values e) → Alike n sc own (number_words e) (values e)
  value_alike (Named x) right = readable_alike x (right (use_as want.Readable x) (inl refl))
  value_alike (Literal m) right = refl
  value_alike (Paren at e) right = expression_alike (Paren at e) right
  value_alike (Negation at e) right = expression_alike (Negation at e) right
  value_alike (Binary o l at r) right = expression_alike (Binary o l at r) right

  source_alike : (r : Source) → AreRight sc (source_uses r) → Alike n sc own (source_words r) (source_uses r)
  source_alike (Make at v) right = refl
  source_alike (Value e) right = value_alike e right

  bound_alike : (b : Bound) → AreRight sc (bound_uses b) → Alike n sc own (bound_words b) (bound_uses b)
  bound_alike (UpTo m) right = refl
  bound_alike (Least x v e m) right = expression_alike e right

  given_value_alike : (b : Bool) (e : Expression) → AreRight sc (cond b (values e) (numbers e)) → Alike n sc own (number_words e) (cond b (values e) (numbers e))
  given_value_alike true e right = value_alike e right
  given_value_alike false e right = expression_alike e right

  both_alike : (l r : Expression) → AreRight sc (numbers l ++ numbers r) → Alike n sc own (number_words l ++ number_words r) (numbers l ++ numbers r)
  both_alike l r right =
      alike_both n sc own (number_words l) (number_words r) (numbers l) (numbers r)
      (expression_alike l (λ u z. right u (has_left (numbers l) (numbers r) u z)))
      (expression_alike r (λ u z. right u (has_right (numbers l) (numbers r) u z)))

  clocks_alike : (cs : List Word) → AreRight sc (map (use_as want.Clock) cs) → Alike n sc own [] (map (use_as want.Clock) cs)
  clocks_alike [] right = refl
  clocks_alike (c ∷ cs) right =
      alike_both n sc own [] [] (use_as want.Clock c ∷ []) (map (use_as want.Clock) cs)
      (clock_none n sc own c (right (use_as want.Clock c) (inl refl)))
      (clocks_alike cs (λ u z. right u (inr z)))

  -- the arguments, each of which is a number or a clock's bare name
  clock_argument : (e : Expression) → AreRight sc (argument_uses param.Clock e) → ((at : ℕ) → Has (argument_misfits param.Clock e) at → ⊥)
      → Alike n sc own [] (argument_uses param.Clock e)
  clock_argument (Named x) right fit = clock_none n sc own x (right (use_as want.Clock x) (inl refl))
  clock_argument (Literal m) right fit = refl
  clock_argument (Paren at e) right fit = absurd (fit at (inl refl))
  clock_argument (Negation at e) right fit = absurd (fit at (inl refl))
  clock_argument (Binary o l at r) right fit = absurd (fit (start_of l) (inl refl))

  given_alike : (gs : Given) → AreRight sc (all_uses gs) → ((at : ℕ) → Has (all_misfits gs) at → ⊥) → Alike n sc own (all_words gs) (all_uses gs)
  given_alike [] right fit = refl
  given_alike ((param.Number, e) ∷ gs) right fit =
      alike_both n sc own (number_words e) (all_words gs) (numbers e) (all_uses gs)
      (expression_alike e (λ u z. right u (has_left (numbers e) (all_uses gs) u z)))
      (given_alike gs (λ u z. right u (has_right (numbers e) (all_uses gs) u z)) fit)
  given_alike ((param.Clock, e) ∷ gs) right fit =
      alike_both n sc own [] (all_words gs) (argument_uses param.Clock e) (all_uses gs)
      (clock_argument e (λ u z. right u (has_left (argument_uses param.Clock e) (all_uses gs) u z))
      (λ at z. fit at (has_left (argument_misfits param.Clock e) (all_misfits gs) at z)))
      (given_alike gs (λ u z. right u (has_right (argument_uses param.Clock e) (all_uses gs) u z))
      (λ at z. fit at (has_right (argument_misfits param.Clock e) (all_misfits gs) at z)))

  pub used_alike : (ms : Signatures) (s : Statement) → IsSound ms sc s → Alike n sc own (words_used ms s) (uses ms sc.names s)
  used_alike ms (Declare b x ty r) sound = source_alike r sound.used
  used_alike ms (Assign x e) sound =
      let us : List Use = assigned_uses (find sc.names x.text) e in
      alike_both n sc own (x ∷ []) (number_words e) (use_as want.Assigned x ∷ []) us
      (assigned_alike x (sound.used (use_as want.Assigned x) (inl refl)))
      (given_value_alike (is_var (find sc.names x.text)) e (λ u z. sound.used u (inr z)))
  used_alike ms (Atomic x y at e) sound =
      alike_both n sc own [] (number_words e) (use_as want.Shared x ∷ []) (use_as want.Shared y ∷ numbers e)
      (shared_none n sc own x (sound.used (use_as want.Shared x) (inl refl)))
      (alike_both n sc own [] (number_words e) (use_as want.Shared y ∷ []) (numbers e)
      (shared_none n sc own y (sound.used (use_as want.Shared y) (inr (inl refl))))
      (expression_alike e (λ u z. sound.used u (inr (inr z)))))
  used_alike ms (If at l c r s) sound = both_alike l r sound.used
  used_alike ms (IfElse at l c r s u) sound = both_alike l r sound.used
  used_alike ms (Call g at es) sound = given_alike (given_to (find ms g.text) es) sound.used sound.fitting
  used_alike ms (Print at v e) sound = expression_alike e sound.used
  used_alike ms (Block close ss) sound = refl
  used_alike ms Empty sound = refl
  used_alike ms (For at i lo b s) sound = bound_alike b sound.used
  used_alike ms (Async at cs s) sound = clocks_alike (clocks_listed cs) sound.used
  used_alike ms (Finish at s) sound = refl
  used_alike ms (Resume c v) sound = clock_none n sc own c (sound.used (use_as want.Clock c) (inl refl))
  used_alike ms (Drop c v) sound = clock_none n sc own c (sound.used (use_as want.Clock c) (inl refl))
  used_alike ms (AdvanceAll at v) sound = refl

-- ---- names that are no shared numbers

pub kind_plain : (b : Binding) (r : Source) → is_shared (kind_of b r) ≡ false
kind_plain b (Make at v) = refl
kind_plain binding.Val (Value e) = refl
kind_plain binding.Var (Value e) = refl
kind_plain binding.Hidden (Value e) = refl

pub param_plain : (k : ParamKind) → is_shared (param_kind k) ≡ false
param_plain param.Number = refl
param_plain param.Clock = refl
