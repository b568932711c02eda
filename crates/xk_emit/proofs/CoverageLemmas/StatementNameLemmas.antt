-- What a statement does with names: all that its code needs is there.
use Rattle.std.proofs.Common.{◌≡◌, inl, inr, ℕ, Bool, true, false, cond, List, [], ◌∷◌, length, Option, Some, None, refl, sym, ap, ◌∙◌, subst, arith}
use Rattle.std.specs.Prelude.{is_some}
use Rattle.std.specs.List.{flat_map, All}
use Rattle.std.proofs.lemmas.List.Elements.{All-nil, All-cons}
use Rattle.xk_types.specs.declared.unit.ParamKind.{ParamKind}
use Rattle.xk_types.specs.declared.unit.ParamKind.TheVariants as param
use Rattle.xk_tree.specs.Tree.{Word, Expression, Literal, Named, Paren, Negation, Binary, Source, Make, Value, ParamValue}
use Rattle.xk_names.specs.declared.binding.Known.{Known}
use Rattle.xk_names.specs.declared.binding.NameKind.{NameKind}
use Rattle.xk_names.specs.declared.binding.NameKind.TheVariants as kind
use Rattle.xk_names.specs.declared.binding.Want.TheVariants as want
use Rattle.xk_names.specs.Scope.{find, has, texts, Has, is_shared, is_clock, is_number, is_assigned, sees_as}
use Rattle.xk_names.specs.Uses.{Use, use_as, numbers, values, source_uses, assigned_uses, is_var, given, argument_uses, argument_misfits, start_of}
use Rattle.xk_names.specs.WellScoped.{IsRight}
use Rattle.xk_names.specs.Captures.{number_words, source_words, argument_words, words_besides}
use Rattle.xk_names.proofs.MembershipLemmas.{has_left, has_right}
use Rattle.xk_names.proofs.CaptureVisibilityLemmas.{AreRight, to_besides}
use Rattle.xk_emit.specs.CodeOf.{Setting, Scope}
use Rattle.xk_emit.specs.NameCoverage.{IsFound, IsKnown, IsKnownUnless, IsValueKnown, IsSourceKnown, IsAssignable}
use Rattle.xk_emit.proofs.CoverageLemmas.ScopeSlotLemmas.{Seen, Texts, Fits, is_known_shared}

-- ---- names

-- the words that the unit doesn't declare have slots, as they are taken from outside
abbrev pub AreTaken : Texts → Scope → List Word → Type 0
AreTaken own scope ws = (w : Word) → Has ws w → has own w.text ≡ false → IsFound scope w.text

pub taken_besides : (own : Texts) (scope : Scope) (ws : List Word) → ((w : Word) → Has (words_besides own ws) w → IsFound scope w.text) → AreTaken own scope ws
taken_besides own scope ws taken w h other = taken w (to_besides own ws w h other)

-- a shared number is known as such
pub shared_known : (shared : Texts) (sc : Seen) (scope : Scope) (own : Texts) (x : List ℕ) (k : Known) → Fits shared sc scope own → find sc.names x ≡ Some k
    → has shared x ≡ is_shared k.kind
shared_known shared sc scope own x k fits e = sym (fits.kinds x) ∙ ap is_known_shared e

-- a name that isn't a shared number's has a slot
pub has_slot : (shared : Texts) (sc : Seen) (scope : Scope) (own : Texts) (x : List ℕ) → Fits shared sc scope own → has shared x ≡ false
    → (has own x ≡ false → IsFound scope x) → IsFound scope x
has_slot shared sc scope own x fits plain taken = go (has own x) refl
  where
    go : (b : Bool) → has own x ≡ b → IsFound scope x
    go false e = taken e
    go true e = elim (fits.slots x e) [
      | inl s ↦ let never : true ≡ false = sym s ∙ plain in absurd cc
      | inr f ↦ f
    ]

number_plain : (k : NameKind) → is_number k ≡ true → is_shared k ≡ false
number_plain kind.Val h = refl
number_plain kind.Var h = refl
number_plain kind.Clock h = refl
number_plain kind.Shared h = absurd cc

clock_kind : (k : NameKind) → is_clock k ≡ true → k ≡ kind.Clock
clock_kind kind.Clock h = refl
clock_kind kind.Val h = absurd cc
clock_kind kind.Var h = absurd cc
clock_kind kind.Shared h = absurd cc

shared_kind : (k : NameKind) → is_assigned k ≡ true → is_shared k ≡ true → k ≡ kind.Shared
shared_kind kind.Shared h e = refl
shared_kind kind.Val h e = absurd cc
shared_kind kind.Var h e = absurd cc
shared_kind kind.Clock h e = absurd cc

var_kind : (k : NameKind) → is_assigned k ≡ true → is_shared k ≡ false → k ≡ kind.Var
var_kind kind.Var h e = refl
var_kind kind.Shared h e = absurd cc
var_kind kind.Val h e = absurd cc
var_kind kind.Clock h e = absurd cc

-- a clock that is used has a slot
pub clock_slot : (shared : Texts) (sc : Seen) (scope : Scope) (own : Texts) (c : Word) → Fits shared sc scope own → IsRight sc (use_as want.Clock c) → IsFound scope c.text
clock_slot shared sc scope own c fits r =
    let is = clock_kind r.known.kind r.right in
    fits.clocks c.text r.known r.found is (subst (λ d. sees_as d sc c.text r.known ≡ true) is r.seen)

-- ---- expressions

pub expression_known : (shared : Texts) (sc : Seen) (scope : Scope) (own : Texts) (e : Expression) → Fits shared sc scope own → AreRight sc (numbers e)
    → AreTaken own scope (number_words e) → IsKnown scope e
expression_known shared sc scope own (Literal n) fits right taken = tt
expression_known shared sc scope own (Named x) fits right taken =
    let r = right (use_as want.Number x) (inl refl) in
    has_slot shared sc scope own x.text fits (shared_known shared sc scope own x.text r.known fits r.found ∙ number_plain r.known.kind r.right) (taken x (inl refl))
expression_known shared sc scope own (Paren at e) fits right taken = expression_known shared sc scope own e fits right taken
expression_known shared sc scope own (Negation at e) fits right taken = expression_known shared sc scope own e fits right taken
expression_known shared sc scope own (Binary o l at r) fits right taken = (
  expression_known shared sc scope own l fits (λ u h. right u (has_left (numbers l) (numbers r) u h)) (λ w h. taken w (has_left (number_words l) (number_words r) w h)),
  expression_known shared sc scope own r fits (λ u h. right u (has_right (numbers l) (numbers r) u h)) (λ w h. taken w (has_right (number_words l) (number_words r) w h)),
)

-- the setting's shared numbers are these
abbrev pub HasPlaces : Setting → Texts → Type 0
HasPlaces cx shared = (x : List ℕ) → is_some (find cx.shared x) ≡ has shared x

value_known : (cx : Setting) (shared : Texts) (sc : Seen) (scope : Scope) (own : Texts) (e : Expression) → HasPlaces cx shared → Fits shared sc scope own
    → AreRight sc (values e) → AreTaken own scope (number_words e) → IsValueKnown cx scope e
value_known cx shared sc scope own (Named x) places fits right taken = go (find cx.shared x.text) refl
  where
    go : (o : Option ℕ) → find cx.shared x.text ≡ o → IsKnownUnless o scope (Named x)
    go (Some s) e = tt
    go None e = has_slot shared sc scope own x.text fits (sym (places x.text) ∙ ap is_some e) (taken x (inl refl))
value_known cx shared sc scope own (Literal n) places fits right taken = tt
value_known cx shared sc scope own (Paren at e) places fits right taken = expression_known shared sc scope own (Paren at e) fits right taken
value_known cx shared sc scope own (Negation at e) places fits right taken = expression_known shared sc scope own (Negation at e) fits right taken
value_known cx shared sc scope own (Binary o l at r) places fits right taken = expression_known shared sc scope own (Binary o l at r) fits right taken

pub source_known : (cx : Setting) (shared : Texts) (sc : Seen) (scope : Scope) (own : Texts) (r : Source) → HasPlaces cx shared → Fits shared sc scope own
    → AreRight sc (source_uses r) → AreTaken own scope (source_words r) → IsSourceKnown cx scope r
source_known cx shared sc scope own (Make at v) places fits right taken = tt
source_known cx shared sc scope own (Value e) places fits right taken = value_known cx shared sc scope own e places fits right taken

-- an assignment
pub assigned_known : (cx : Setting) (shared : Texts) (sc : Seen) (scope : Scope) (own : Texts) (x : Word) (e : Expression) → HasPlaces cx shared → Fits shared sc scope own
    → IsRight sc (use_as want.Assigned x) → AreRight sc (assigned_uses (find sc.names x.text) e) → AreTaken own scope (x ∷ number_words e)
    → IsAssignable cx scope x e (find cx.shared x.text)
assigned_known cx shared sc scope own x e places fits r right taken = go (find cx.shared x.text) refl
  where
    kind_is : (b : Bool) → is_some (find cx.shared x.text) ≡ b → is_shared r.known.kind ≡ b
    kind_is b h = sym (shared_known shared sc scope own x.text r.known fits r.found) ∙ sym (places x.text) ∙ h

    var_is : (j : NameKind) → r.known.kind ≡ j → is_var (find sc.names x.text) ≡ is_var (Some (record { kind = j; depth = r.known.depth }))
    var_is j h = ap is_var r.found ∙ ap (λ i. let known : Known = record { kind = i; depth = r.known.depth } in is_var (Some known)) h

    as_numbers : (b : Bool) → is_var (find sc.names x.text) ≡ b → b ≡ false → AreRight sc (numbers e)
    as_numbers false h f = subst (λ c. AreRight sc (cond c (values e) (numbers e))) h right
    as_numbers true h f = absurd cc

    as_values : (b : Bool) → is_var (find sc.names x.text) ≡ b → b ≡ true → AreRight sc (values e)
    as_values true h f = subst (λ c. AreRight sc (cond c (values e) (numbers e))) h right
    as_values false h f = absurd cc

    go : (o : Option ℕ) → find cx.shared x.text ≡ o → IsAssignable cx scope x e o
    go (Some s) h =
        let is = shared_kind r.known.kind r.right (kind_is true (ap is_some h)) in
        expression_known shared sc scope own e fits (as_numbers (is_var (find sc.names x.text)) refl (var_is kind.Shared is)) (λ w k. taken w (inr k))
    go None h =
        let plain : is_shared r.known.kind ≡ false = kind_is false (ap is_some h) in
        let is = var_kind r.known.kind r.right plain in (
          has_slot shared sc scope own x.text fits (shared_known shared sc scope own x.text r.known fits r.found ∙ plain) (taken x (inl refl)),
          value_known cx shared sc scope own e places fits (as_values (is_var (find sc.names x.text)) refl (var_is kind.Var is)) (λ w k. taken w (inr k)),
        )

-- ---- arguments

argument_known : (shared : Texts) (sc : Seen) (scope : Scope) (own : Texts) (takes : ParamKind) (e : Expression) → Fits shared sc scope own
    → AreRight sc (argument_uses takes e) → ((at : ℕ) → Has (argument_misfits takes e) at → ⊥) → AreTaken own scope (argument_words takes e) → IsKnown scope e
argument_known shared sc scope own param.Number e fits right fitting taken = expression_known shared sc scope own e fits right taken
argument_known shared sc scope own param.Clock (Named x) fits right fitting taken = clock_slot shared sc scope own x fits (right (use_as want.Clock x) (inl refl))
argument_known shared sc scope own param.Clock (Literal n) fits right fitting taken = tt
argument_known shared sc scope own param.Clock (Paren at e) fits right fitting taken = absurd (fitting at (inl refl))
argument_known shared sc scope own param.Clock (Negation at e) fits right fitting taken = absurd (fitting at (inl refl))
argument_known shared sc scope own param.Clock (Binary o l at r) fits right fitting taken = absurd (fitting (start_of l) (inl refl))

pub arguments_known : (shared : Texts) (sc : Seen) (scope : Scope) (own : Texts) (ps : List ParamValue) (es : List Expression) → length ps ≡ length es → Fits shared sc scope own
    → AreRight sc (flat_map (λ a. argument_uses a.0 a.1) (given ps es)) → ((at : ℕ) → Has (flat_map (λ a. argument_misfits a.0 a.1) (given ps es)) at → ⊥)
    → AreTaken own scope (flat_map (λ a. argument_words a.0 a.1) (given ps es)) → All (IsKnown scope) es
arguments_known shared sc scope own [] [] count fits right fitting taken = All-nil (IsKnown scope)
arguments_known shared sc scope own [] (e ∷ es) count fits right fitting taken = absurd cc
arguments_known shared sc scope own (p ∷ ps) [] count fits right fitting taken = absurd cc
arguments_known shared sc scope own (p ∷ ps) (e ∷ es) count fits right fitting taken =
    let uses : List Use = argument_uses p.takes.kind e in
    let more_uses : List Use = flat_map (λ a. argument_uses a.0 a.1) (given ps es) in
    let misfits : List ℕ = argument_misfits p.takes.kind e in
    let more_misfits : List ℕ = flat_map (λ a. argument_misfits a.0 a.1) (given ps es) in
    let words : List Word = argument_words p.takes.kind e in
    let more_words : List Word = flat_map (λ a. argument_words a.0 a.1) (given ps es) in
    All-cons (IsKnown scope) e es
    (argument_known shared sc scope own p.takes.kind e fits (λ u h. right u (has_left uses more_uses u h)) (λ at h. fitting at (has_left misfits more_misfits at h))
    (λ w h. taken w (has_left words more_words w h)))
    (arguments_known shared sc scope own ps es (omega arith) fits (λ u h. right u (has_right uses more_uses u h)) (λ at h. fitting at (has_right misfits more_misfits at h))
    (λ w h. taken w (has_right words more_words w h)))

-- ---- texts of words

pub all_texts : (scope : Scope) (ws : List Word) → ((w : Word) → Has ws w → IsFound scope w.text) → All (IsFound scope) (texts ws)
all_texts scope [] found = All-nil (IsFound scope)
all_texts scope (w ∷ ws) found = All-cons (IsFound scope) w.text (texts ws) (found w (inl refl)) (all_texts scope ws (λ v h. found v (inr h)))
