-- What a place sees in the text, beside the slots that its unit has there.
use Rattle.std.proofs.Common.{◌≡◌, ◌⊎◌, inl, inr, ℕ, suc, ◌+◌, nat_eq, ◌≤◌, Bool, true, false, ◌||◌, List, [], ◌∷◌, ◌++◌, append_assoc, length, Option, Some, None, refl, sym, ap, ◌∙◌, subst, arith, eqb-true, append-nil}
use Rattle.std.proofs.lemmas.Bool.{or_cases}
use Rattle.xk_names.proofs.FreeUseLemmas.{kind_plain}
use Rattle.xk_names.proofs.TableLemmas.{none_there}
use Rattle.xk_tree.specs.declared.tree.Number.{Number}
use Rattle.xk_tree.specs.Tree.{Word, Bound, UpTo, Least, Statement, Declare, For, Clocks}
use Rattle.xk_names.specs.declared.binding.Known.{Known}
use Rattle.xk_names.specs.declared.binding.NameKind.{NameKind}
use Rattle.xk_names.specs.declared.binding.NameKind.TheVariants as kind
use Rattle.xk_names.specs.Scope as names
use Rattle.xk_names.specs.Scope.{Table, find, has, is_text, texts, Has, known, is_own, is_given, is_shared}
use Rattle.xk_names.specs.Uses.{Signatures, kind_of, declares, clocks_listed}
use Rattle.xk_names.specs.Places as places
use Rattle.xk_names.specs.WellScoped.{IsSound, IsSoundInside, with_all, with_body}
use Rattle.xk_names.specs.FaultList.{put_text, put_texts}
use Rattle.xk_names.specs.Captures.{loop_words, own_behind, outer_words, captures}
use Rattle.xk_names.proofs.TableAgreementLemmas.{find_behind, or_entry, has_put, put_texts_same}
use Rattle.xk_names.proofs.CaptureVisibilityLemmas.{outer_found}
use Rattle.xk_emit.specs.CodeOf.{Scope, within_loop, declared}
use Rattle.xk_emit.specs.Unit.{scope_from}
use Rattle.xk_emit.specs.NameCoverage.{IsFound}
use Rattle.xk_emit.proofs.CoverageLemmas.TableLemmas.{found_behind, absent_behind, still_absent, still_found, now_found, param_found, among_texts, text_among, in_either, in_left}

abbrev pub Seen : Type 0
Seen = names.Scope

abbrev pub Texts : Type 0
Texts = List (List ℕ)

abbrev pub is_known_shared : Option Known → Bool
is_known_shared None = false
is_known_shared (Some k) = is_shared k.kind

-- A place that sees `sc` has the slots of `scope`. `own` are the shared numbers, and what the unit declares up to there.
pub record Fits (shared : Texts) (sc : Seen) (scope : Scope) (own : Texts) : Type 0 where
  -- the shared numbers are those that are known as such
  pub kinds : (x : List ℕ) → is_known_shared (find sc.names x) ≡ has shared x
  -- what has a slot is visible
  pub fresh : (x : List ℕ) → find sc.names x ≡ None → find scope x ≡ None
  -- what the unit declares has a slot
  pub kept : (x : List ℕ) → has shared x ≡ true → has own x ≡ true
  pub slots : (x : List ℕ) → has own x ≡ true → (has shared x ≡ true) ⊎ IsFound scope x
  -- so has each clock of which use may be made
  pub clocks : (x : List ℕ) (k : Known) → find sc.names x ≡ Some k → k.kind ≡ kind.Clock → (is_own sc k || is_given sc x) ≡ true → IsFound scope x
  -- nothing is declared further in
  pub depths : (x : List ℕ) (k : Known) → find sc.names x ≡ Some k → k.depth ≤ length sc.bodies

-- ---- a name is declared

abbrev with_name : Seen → List ℕ → NameKind → Seen
with_name sc y k = record { names = sc.names ++ (y, known k (length sc.bodies)) ∷ []; bodies = sc.bodies }

kinds_behind : (shared : Texts) (table : Table Known) (y : List ℕ) (j : Known) → is_shared j.kind ≡ false → ((x : List ℕ) → is_known_shared (find table x) ≡ has shared x)
    → (x : List ℕ) → is_known_shared (find (table ++ (y, j) ∷ []) x) ≡ has shared x
kinds_behind shared table y j plain kinds x = ap is_known_shared (find_behind table y j x) ∙ go (find table x) (is_text x y) refl
  where
    go : (o : Option Known) (b : Bool) → find table x ≡ o → is_known_shared (or_entry o b j) ≡ has shared x
    go (Some i) b e = ap is_known_shared (sym e) ∙ kinds x
    go None true e = plain ∙ ap is_known_shared (sym e) ∙ kinds x
    go None false e = ap is_known_shared (sym e) ∙ kinds x

fits_name : (shared : Texts) (sc : Seen) (scope : Scope) (own : Texts) (y : List ℕ) (k : NameKind) (n : ℕ) → is_shared k ≡ false → Fits shared sc scope own
    → Fits shared (with_name sc y k) (scope ++ (y, n) ∷ []) (put_text own y)
fits_name shared sc scope own y k n plain fits = record {
  kinds = kinds_behind shared sc.names y (known k (length sc.bodies)) plain fits.kinds;
  fresh = λ x e. let r = absent_behind sc.names y (known k (length sc.bodies)) x e in still_absent scope y n x (fits.fresh x r.0) r.1;
  kept = λ x h. has_put own y x ∙ ap (λ b. b || is_text x y) (fits.kept x h);
  slots = λ x h. elim (or_cases (has own x) (is_text x y) (sym (has_put own y x) ∙ h)) [
    | inl e ↦ elim (fits.slots x e) [ inl s ↦ inl s | inr f ↦ inr (still_found scope y n x f) ]
    | inr e ↦ inr (now_found scope y n x e)
  ];
  clocks = λ x j e is may. elim (found_behind sc.names y (known k (length sc.bodies)) x j e) [
    | inl f ↦ still_found scope y n x (fits.clocks x j f is may)
    | inr f ↦ now_found scope y n x f.1
  ];
  depths = λ x j e. elim (found_behind sc.names y (known k (length sc.bodies)) x j e) [
    | inl f ↦ fits.depths x j f
    | inr f ↦ subst (λ (i : Known). i.depth ≤ length sc.bodies) f.2 (omega arith)
  ];
}

fits_same : (shared : Texts) (sc : Seen) (scope : Scope) (own : Texts) → Fits shared sc scope own → Fits shared (with_all sc []) scope own
fits_same shared sc scope own fits =
    subst (λ (t : Table Known). let there : Seen = record { names = t; bodies = sc.bodies } in Fits shared there scope own) (sym (append-nil sc.names)) fits

-- behind a statement
pub fits_behind : (shared : Texts) (sc : Seen) (scope : Scope) (own : Texts) (n : ℕ) (s : Statement) → Fits shared sc scope own
    → Fits shared (with_all sc (places.behind (length sc.bodies) s)) (declared scope n s) (own_behind own s)
fits_behind shared sc scope own n (Declare b x ty r) fits = fits_name shared sc scope own x.text (kind_of b r) n (kind_plain b r) fits
fits_behind shared sc scope own n _ fits = fits_same shared sc scope own fits

-- in the body of a loop
pub fits_loop : (shared : Texts) (sc : Seen) (scope : Scope) (own : Texts) (n at : ℕ) (i : Word) (lo : Number) (b : Bound) (s : Statement)
    → Fits shared sc scope own
    → Fits shared (with_all sc (declares (length sc.bodies) (For at i lo b s))) (within_loop scope n i b) (put_texts own (loop_words i b))
fits_loop shared sc scope own n at i lo (UpTo hi) s fits = fits_name shared sc scope own i.text kind.Val n refl fits
fits_loop shared sc scope own n at i lo (Least x v e hi) s fits =
    let one = with_name sc i.text kind.Val in
    let two = fits_name shared one (scope ++ (i.text, n) ∷ []) (put_text own i.text) x.text kind.Val (n + 1) refl
    (fits_name shared sc scope own i.text kind.Val n refl fits) in
    subst (λ (k : Table Known). Fits shared (record { names = k; bodies = sc.bodies }) (within_loop scope n i (Least x v e hi)) (put_texts own (loop_words i (Least x v e hi))))
    (append_assoc sc.names ((i.text, known kind.Val (length sc.bodies)) ∷ []) ((x.text, known kind.Val (length sc.bodies)) ∷ [])) two

-- ---- the body of an `async`

abbrev pub body_names : Signatures → Texts → Option Clocks → Statement → Texts
body_names ms shared cs s = texts (clocks_listed cs) ++ captures ms shared s

captured : (ms : Signatures) (shared : Texts) (s : Statement) (x : List ℕ) → has (captures ms shared s) x ≡ true → (w : Word) × (Has (outer_words ms shared s) w × (w.text ≡ x))
captured ms shared s x h = among_texts (outer_words ms shared s) x (sym (put_texts_same [] [] (outer_words ms shared s) (λ y. refl) x) ∙ h)

pub is_captured : (ms : Signatures) (shared : Texts) (s : Statement) (w : Word) → Has (outer_words ms shared s) w → has (captures ms shared s) w.text ≡ true
is_captured ms shared s w h = put_texts_same [] [] (outer_words ms shared s) (λ y. refl) w.text ∙ text_among (outer_words ms shared s) w h

-- The doubtful step. A clock that the body may use is one that it is given: those that are seen as its own are declared within.
given_clock : (sc : Seen) (cs : List Word) (x : List ℕ) (k : Known) → k.depth ≤ length sc.bodies → (is_own (with_body sc cs) k || is_given (with_body sc cs) x) ≡ true
    → has (texts cs) x ≡ true
given_clock sc cs x k low may = elim (or_cases (nat_eq k.depth (suc (length sc.bodies))) (has (texts cs) x) may) [
  | inl e ↦ let same : k.depth ≡ suc (length sc.bodies) = eqb-true k.depth (suc (length sc.bodies)) e in absurd (omega arith)
  | inr e ↦ e
]

abbrev AreVisible : Seen → List Word → Type 0
AreVisible sc cs = (c : Word) → Has cs c → (k : Known) × (find sc.names c.text ≡ Some k)

pub fits_body : (ms : Signatures) (shared : Texts) (sc : Seen) (scope : Scope) (own : Texts) (cs : Option Clocks) (s : Statement) → Fits shared sc scope own
    → AreVisible sc (clocks_listed cs) → IsSound ms (with_body sc (clocks_listed cs)) s → IsSoundInside ms (with_body sc (clocks_listed cs)) s
    → Fits shared (with_body sc (clocks_listed cs)) (scope_from 0 (body_names ms shared cs s)) shared
fits_body ms shared sc scope own cs s fits visible sound inner = record {
  kinds = fits.kinds;
  fresh = λ x e. none_there (find (scope_from 0 (body_names ms shared cs s)) x) (param_found 0 (body_names ms shared cs s) x ∙ unseen x e (has (body_names ms shared cs s) x) refl);
  kept = λ x h. h;
  slots = λ x h. inl h;
  clocks = λ x k e is may.
      param_found 0 (body_names ms shared cs s) x
      ∙ in_left (texts (clocks_listed cs)) (captures ms shared s) x (given_clock sc (clocks_listed cs) x k (fits.depths x k e) may);
  depths = λ x k e. let low = fits.depths x k e in omega arith;
}
  where
    absent : (x : List ℕ) (k : Known) (y : List ℕ) → find sc.names x ≡ None → find sc.names y ≡ Some k → y ≡ x → ⊥
    absent x k y e f is = let never : None ≡ Some k = sym e ∙ ap (find sc.names) (sym is) ∙ f in absurd cc

    unseen : (x : List ℕ) → find sc.names x ≡ None → (b : Bool) → has (body_names ms shared cs s) x ≡ b → b ≡ false
    unseen x e false h = refl
    unseen x e true h = elim (in_either (texts (clocks_listed cs)) (captures ms shared s) x h) [
      | inl g ↦ let r = among_texts (clocks_listed cs) x g in let k = visible r.0 r.1.0 in absurd (absent x k.0 r.0.text e k.1 r.1.1)
      | inr g ↦
          let r = captured ms shared s x g in
          let w = outer_found ms (with_body sc (clocks_listed cs)) shared s sound inner r.0 r.1.0 in
          absurd (absent x w.there.known r.0.text e w.there.found r.1.1)
    ]
