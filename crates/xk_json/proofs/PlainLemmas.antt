-- Numbers, texts, and what is made of these are plain values.
use Rattle.std.proofs.Common.{◌≡◌, ℕ, ℤ, pos, negsuc, suc, Bool, List, [], ◌∷◌, refl, subst, sym, arith}
use Rattle.std.specs.Prelude.{⊤}
use Rattle.serde_json.specs.Data.{Data, boolean, string, Members, no_members, put}
use Rattle.xk_json.specs.Objects.{array_of, integer_value, integers_value, number_value, object_of, with_groups, with_members, Group}
use Rattle.xk_json.specs.Plain.{IsPlain, ArePlain}
use Rattle.xk_json.proofs.ObjectLemmas.{array_plain, object_plain, plain_deeper, put_plain}

pub number_plain : {d : ℕ} (n : ℕ) → IsPlain d (number_value n)
number_plain n = record { no_float = refl; nests = omega arith }

integer_plain : {d : ℕ} (z : ℤ) → IsPlain d (integer_value z)
integer_plain (pos n) = record { no_float = refl; nests = omega arith }
integer_plain (negsuc n) = record { no_float = refl; nests = omega arith }

pub text_plain : {d : ℕ} (bytes : List ℕ) → IsPlain d (string bytes)
text_plain bytes = record { no_float = refl; nests = omega arith }

pub truth_plain : {d : ℕ} (b : Bool) → IsPlain d (boolean b)
truth_plain b = record { no_float = refl; nests = omega arith }

none_plain : (n : ℕ) → ArePlain n no_members
none_plain n = record { no_float = refl; nest = omega arith }

-- members that nest no deeper than n
abbrev pub AreFlat : ℕ → Group → Type 0
AreFlat n [] = ⊤
AreFlat n (m ∷ g) = IsPlain n m.1 × AreFlat n g

abbrev pub AreAllFlat : ℕ → List Group → Type 0
AreAllFlat n [] = ⊤
AreAllFlat n (g ∷ gs) = AreFlat n g × AreAllFlat n gs

with_members_plain : (n : ℕ) (g : Group) (ms : Members) → AreFlat n g → ArePlain n ms → ArePlain n (with_members g ms)
with_members_plain n [] ms f p = p
with_members_plain n (m ∷ g) ms f p = with_members_plain n g (put m.0 m.1 ms) f.1 (put_plain n m.0 m.1 ms f.0 p)

with_groups_plain : (n : ℕ) (gs : List Group) (ms : Members) → AreAllFlat n gs → ArePlain n ms → ArePlain n (with_groups gs ms)
with_groups_plain n [] ms f p = p
with_groups_plain n (g ∷ gs) ms f p = with_groups_plain n gs (with_members g ms) f.1 (with_members_plain n g ms f.0 p)

pub object_of_plain : (n : ℕ) (gs : List Group) → AreAllFlat n gs → IsPlain (suc n) (object_of gs)
object_of_plain n gs f = object_plain n (with_groups gs no_members) (with_groups_plain n gs no_members f (none_plain n))

-- a list of objects of numbers and texts
pub array_in : {A : Type 0} (value : A → Data) → ((x : A) → IsPlain 1 (value x)) → (xs : List A) → IsPlain 4 (array_of value xs)
array_in value each xs = plain_deeper 2 4 (array_of value xs) (omega arith) (array_plain 1 value each xs)

-- a list of numbers
pub integers_plain : (ns : List ℤ) → IsPlain 1 (integers_value ns)
integers_plain ns = array_plain 0 integer_value (λ n. integer_plain n) ns

-- and a value that is such a list
pub integers_fit : (ns : List ℤ) (d : Data) → d ≡ integers_value ns → IsPlain 4 d
integers_fit ns d e = subst (λ v. IsPlain 4 v) (sym e) (plain_deeper 1 4 (integers_value ns) (omega arith) (integers_plain ns))
