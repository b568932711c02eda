-- What `==` answers at units and modules: whether they are the same. This project's own.
--     Test A            a test of two values of A that tells whether they are the same
--     through, ◌⊗◌      of values by what determines them, and of pairs
--     choice            of an enum's values: the variant is the same, and a test of its fields says so
use Rattle.std.specs.Prelude.{◌≡◌, ◌⊎◌, ℕ, ℤ, List, [], ◌∷◌, Bool, true, false, ◌&&◌, ◌==◌}
use Rattle.std.specs.Bool.{Decides, one_answer, ⊤}
use Rattle.std.specs.Cmp.{IsPartialEquivalence}
use Rattle.std.specs.Cmp.Lexicographic.{pointwise, pointwise_decides}
use Rattle.std.specs.Ordering.{int_eq}
use Rattle.std.proofs.Common.{refl, sym, ap, ◌∙◌, inl, inr, ⊎_elim, true≢false}
use Rattle.std.proofs.lemmas.Bool.Decides.{Decides-at, Decides-like, Decides-and, Decides-eqb, Decides-int_eq}
use denote.Struct.Field.{Field}
use denote.Struct.Values.{Values}
use denote.Enum.Declared.{Choice, Declared, values_one, left_or, right_or}
use denote.Enum.Compared.{Each, by}
use denote.Enum.Bare.{Bare, sameb, same_true, true_same}
use Rattle.xk_types.specs.Code.{UnitValue, ModuleValue}
use Rattle.xk_types.specs.declared.instr.Instr.{Instr}
use Rattle.xk_types.specs.contracts.instr.Comparison as comparison
use Rattle.xk_types.specs.contracts.instr.Instr as instr
use Rattle.xk_types.specs.contracts.unit.UnitKind as unit_kind
use Rattle.xk_types.specs.contracts.unit.ParamKind as param_kind

pub record Test (A : Type 0) : Type 0 where
  pub answer : A → A → Bool
  pub decides : (x y : A) → Decides (answer x y) (x ≡ y)

pub laws : {A : Type 0} (t : Test A) → IsPartialEquivalence t.answer
laws t = record {
  symm = λ x y. one_answer (t.answer x y) (t.answer y x) (t.decides x y) (Decides-like (t.answer y x) sym sym (t.decides y x));
  trans = λ x y z h k. (t.decides x z).1 ((t.decides x y).0 h ∙ (t.decides y z).0 k);
}

abbrev through : {A B : Type 0} (f : A → B) → ((x y : A) → f x ≡ f y → x ≡ y) → Test B → Test A
through f one t = record {
  answer = λ x y. t.answer (f x) (f y);
  decides = λ x y. Decides-like (t.answer (f x) (f y)) (one x y) (ap f) (t.decides (f x) (f y));
}

pub pair_decides : {A B : Type 0} (s : Test A) (t : Test B) (x y : A × B) → Decides (s.answer x.0 y.0 && t.answer x.1 y.1) (x ≡ y)
pair_decides s t x y =
    Decides-like (s.answer x.0 y.0 && t.answer x.1 y.1) (λ p i. (p.0 i, p.1 i)) (λ e. (ap (λ z. z.0) e, ap (λ z. z.1) e))
    (Decides-and (s.answer x.0 y.0) (t.answer x.1 y.1) (s.decides x.0 y.0) (t.decides x.1 y.1))

infixr 35 ◌⊗◌
abbrev ◌⊗◌ : {A B : Type 0} → Test A → Test B → Test (A × B)
s ⊗ t = record { answer = λ x y. s.answer x.0 y.0 && t.answer x.1 y.1; decides = pair_decides s t }

-- a variant's test, and those of the later variants
infixr 30 ◌⊕◌
abbrev ◌⊕◌ : {A B : Type 0} → A → B → A × B
t ⊕ ts = (t, ts)

-- the last field of a variant, and a variant with none
abbrev last : {A : Type 0} → Test A → Test (A × Unit {0})
last = through (λ x. x.0) (λ x y e i. (e i, tt))

abbrev none : Test (Unit {0})
none = record { answer = λ x y. true; decides = λ x y. (λ h. refl, λ e. refl) }

abbrev Tests : List (List Field) → Type 0
Tests [] = ⊤
Tests (Fs ∷ Fss) = Test (Values Fs) × Tests Fss

abbrev answers : (Fss : List (List Field)) → Tests Fss → Each Bool Fss
answers [] ts = tt
answers (Fs ∷ Fss) ts = (ts.0.answer, answers Fss ts.1)

abbrev is_first : {A B : Type 0} → A ⊎ B → Bool
is_first = ⊎_elim (λ _. true) (λ _. false)

pub choice_decides : (Fss : List (List Field)) (ts : Tests Fss) (c d : Choice Fss) → Decides (by false false Fss (answers Fss ts) c d) (c ≡ d)
choice_decides [] ts c d = absurd c
choice_decides (Fs ∷ Fss) ts (inl x) (inl y) = Decides-like (ts.0.answer x y) (ap inl) (ap (left_or x)) (ts.0.decides x y)
choice_decides (Fs ∷ Fss) ts (inl x) (inr d) = (λ h. absurd (true≢false (sym h)), λ e. absurd (true≢false (ap is_first e)))
choice_decides (Fs ∷ Fss) ts (inr c) (inl y) = (λ h. absurd (true≢false (sym h)), λ e. absurd (true≢false (sym (ap is_first e))))
choice_decides (Fs ∷ Fss) ts (inr c) (inr d) = Decides-like (by false false Fss (answers Fss ts.1) c d) (ap inr) (ap (right_or c)) (choice_decides Fss ts.1 c d)

abbrev choice : (Fss : List (List Field)) → Tests Fss → Test (Choice Fss)
choice Fss ts = record { answer = by false false Fss (answers Fss ts); decides = choice_decides Fss ts }

abbrev bare : (D : Declared) → Bare D.parts → Test D.D
bare D b = record { answer = sameb D; decides = λ x y. (same_true D b x y, true_same D x y) }

abbrev list : {A : Type 0} → Test A → Test (List A)
list t = record { answer = pointwise t.answer; decides = pointwise_decides t.decides }

abbrev u16 : Test ℕ
u16 = record { answer = ◌==◌; decides = Decides-eqb }

abbrev i64 : Test ℤ
i64 = record { answer = int_eq; decides = Decides-int_eq }

abbrev one : Test (ℕ × Unit {0})
one = last u16

abbrev two : Test (ℕ × (ℕ × Unit {0}))
two = u16 ⊗ one

abbrev three : Test (ℕ × (ℕ × (ℕ × Unit {0})))
three = u16 ⊗ two

abbrev handed : Test (ℕ × (List ℕ × Unit {0}))
handed = u16 ⊗ last (list u16)

-- in the order of the variants
abbrev variants : Tests instr.the_parts
variants =
    (u16 ⊗ last i64) ⊕ two ⊕ three ⊕ three ⊕ three
    ⊕ (bare comparison.the_type tt ⊗ three) ⊕ one
    ⊕ (u16 ⊗ i64 ⊗ u16 ⊗ i64 ⊗ one) ⊕ (u16 ⊗ i64 ⊗ i64 ⊗ one) ⊕ one
    ⊕ one ⊕ one
    ⊕ two ⊕ two ⊕ two ⊕ one
    ⊕ one ⊕ one ⊕ one ⊕ none
    ⊕ handed ⊕ handed ⊕ none ⊕ tt

abbrev instrs : Test Instr
instrs = through instr.as_values (values_one instr.enum) (choice instr.the_parts variants)

abbrev pub units : Test UnitValue
units = through (λ u. (u.kind, (u.params, (u.slots, u.code)))) (λ u v e i. record { kind = (e i).0; params = (e i).1.0; slots = (e i).1.1.0; code = (e i).1.1.1 })
    (bare unit_kind.the_type tt ⊗ list (bare param_kind.the_type tt) ⊗ u16 ⊗ list instrs)

abbrev pub modules : Test ModuleValue
modules = through (λ m. (m.shared, m.units)) (λ m n e i. record { shared = (e i).0; units = (e i).1 }) (list i64 ⊗ list units)

pub is_same_module : (m n : ModuleValue) (r : Bool) → r ≡ modules.answer m n → Decides r (m ≡ n)
is_same_module m n r e = Decides-at r (modules.answer m n) e (modules.decides m n)
