-- Parts of values: what is read is the value of what it names, and that value is read again.
use Rattle.std.proofs.Common.{◌≡◌, ℕ, ℤ, pos, negsuc, ◌<◌, ◌^◌, Bool, true, false, cond, List, [], ◌∷◌, map, Option, Some, None, refl, sym, ap, ◌∙◌, subst}
use Rattle.std.specs.Bool.{⊤}
use Rattle.std.specs.List.{AllByRecursion}
use Rattle.std.specs.Str.{bytes_eq}
use Rattle.std.proofs.lemmas.Bool.{ltb-true, lt-ltb}
use Rattle.std.proofs.lemmas.Slice.Eq.{bytes_eq-Decides}
use Rattle.serde_json.specs.Data.{Num, unsigned, negative, float, Data, null, boolean, number, string, array, object, Items, no_items, item, Members, no_members, member}
use Rattle.serde_json.specs.Find.{as_number, as_str, as_u64}
use Rattle.serde_json.specs.View.{items_of}
use Rattle.xk_module.specs.ModuleText.{long, word, array_of, members_of, object_of, IsWord, IsLong}
use Rattle.xk_module.specs.ModuleReader.{◌>>=◌, listed, listed_members, array_at, object_at, field_at, end_at, head_at, word_at, long_of, long_at, each}

-- the value of a step that found one
pub bind_some : {A B : Type 0} (f : A → Option B) (o : Option A) (y : B) → (o >>= f) ≡ Some y → (x : A) × (o ≡ Some x) × (f x ≡ Some y)
bind_some f (Some x) y e = (x, refl, e)
bind_some f None y e = absurd cc

-- the same, for what follows from that value
pub then : {A B : Type 0} (f : A → Option B) (o : Option A) (y : B) (P : Type 0) → (o >>= f) ≡ Some y → ((x : A) → o ≡ Some x → f x ≡ Some y → P) → P
then f (Some x) y P e go = go x refl e
then f None y P e go = absurd cc

-- a test that was passed
pub guard_some : {A : Type 0} (b : Bool) (x y : A) → cond b (Some x) None ≡ Some y → (b ≡ true) × (x ≡ y)
guard_some true x y e = (refl, cc)
guard_some false x y e = absurd cc

-- a choice by a test
pub by_test : {A : Type 0} (b : Bool) (first others : Option A) (y : A) (P : Type 0) → cond b first others ≡ Some y → (b ≡ true → first ≡ Some y → P) → (others ≡ Some y → P) → P
by_test true first others y P e here there = here refl e
by_test false first others y P e here there = there e

-- a choice by a name
pub by_name : {A : Type 0} (name key : List ℕ) (first others : Option A) (y : A) (P : Type 0) → cond (bytes_eq name key) first others ≡ Some y
    → (name ≡ key → first ≡ Some y → P) → (others ≡ Some y → P) → P
by_name name key first others y P e here there = by_test (bytes_eq name key) first others y P e (λ t. here ((bytes_eq-Decides name key).0 t)) there

pub number_takes : (d : Data) (n : Num) → as_number d ≡ Some n → d ≡ number n
number_takes null n e = absurd cc
number_takes (boolean b) n e = absurd cc
number_takes (number k) n e = cc
number_takes (string s) n e = absurd cc
number_takes (array ds) n e = absurd cc
number_takes (object ms) n e = absurd cc

pub str_takes : (d : Data) (s : List ℕ) → as_str d ≡ Some s → d ≡ string s
str_takes null s e = absurd cc
str_takes (boolean b) s e = absurd cc
str_takes (number k) s e = absurd cc
str_takes (string t) s e = cc
str_takes (array ds) s e = absurd cc
str_takes (object ms) s e = absurd cc

-- ---- numbers

pub u64_takes : (k : Num) (n : ℕ) → as_u64 k ≡ Some n → k ≡ unsigned n
u64_takes (unsigned m) n e = cc
u64_takes (negative z) n e = absurd cc
u64_takes (float x) n e = absurd cc

pub word_takes : (d : Data) (n : ℕ) → word_at d ≡ Some n → (d ≡ word n) × IsWord n
unfolding word_at
word_takes d n e =
    let k = bind_some _ _ _ e in
    let m = bind_some _ _ _ k.2 in
    let g = guard_some _ _ _ m.2 in
    (number_takes d k.0 k.1 ∙ ap number (u64_takes k.0 m.0 m.1) ∙ ap word g.1, subst IsWord g.1 (ltb-true _ _ g.0))

pub word_again : (n : ℕ) → IsWord n → word_at (word n) ≡ Some n
unfolding word_at
word_again n lt = rw (lt-ltb n (2 ^ 16) lt) refl

long_of_takes : (k : Num) (z : ℤ) → long_of k ≡ Some z → (number k ≡ long z) × IsLong z
long_of_takes (unsigned n) z e =
    let g = guard_some _ _ _ e in
    let lt : n < 2 ^ 63 = ltb-true _ _ g.0 in
    subst (λ z. (number (unsigned n) ≡ long z) × IsLong z) g.1 (refl, record { sfits = lt })
long_of_takes (negative (pos n)) z e = absurd cc
long_of_takes (negative (negsuc n)) z e =
    let g = guard_some _ _ _ e in
    let lt : n < 2 ^ 63 = ltb-true _ _ g.0 in
    subst (λ z. (number (negative (negsuc n)) ≡ long z) × IsLong z) g.1 (refl, record { sfits = lt })
long_of_takes (float x) z e = absurd cc

pub long_takes : (d : Data) (z : ℤ) → long_at d ≡ Some z → (d ≡ long z) × IsLong z
unfolding long_at
long_takes d z e =
    let k = bind_some _ _ _ e in
    let t = long_of_takes k.0 z k.2 in
    (number_takes d k.0 k.1 ∙ t.0, t.1)

pub long_again : (z : ℤ) → IsLong z → long_at (long z) ≡ Some z
unfolding long_at
long_again (pos n) fits = rw (lt-ltb n (2 ^ 63) fits.sfits) refl
long_again (negsuc n) fits = rw (lt-ltb n (2 ^ 63) fits.sfits) refl

-- ---- arrays and objects

items_of-listed : (ds : Items) → items_of (listed ds) ≡ ds
items_of-listed no_items = refl
items_of-listed (item d ds) = ap (item d) (items_of-listed ds)

members_of-listed : (ms : Members) → members_of (listed_members ms) ≡ ms
members_of-listed no_members = refl
members_of-listed (member k d ms) = ap (member k d) (members_of-listed ms)

pub array_takes : (d : Data) (ds : List Data) → array_at d ≡ Some ds → d ≡ array_of ds
array_takes null ds e = absurd cc
array_takes (boolean b) ds e = absurd cc
array_takes (number k) ds e = absurd cc
array_takes (string s) ds e = absurd cc
array_takes (array items) ds e =
    let same : listed items ≡ ds = cc in
    ap array (sym (items_of-listed items) ∙ ap items_of same)
array_takes (object ms) ds e = absurd cc

pub object_takes : (d : Data) (ms : List (List ℕ × Data)) → object_at d ≡ Some ms → d ≡ object_of ms
object_takes null ms e = absurd cc
object_takes (boolean b) ms e = absurd cc
object_takes (number k) ms e = absurd cc
object_takes (string s) ms e = absurd cc
object_takes (array items) ms e = absurd cc
object_takes (object members) ms e =
    let same : listed_members members ≡ ms = cc in
    ap object (sym (members_of-listed members) ∙ ap members_of same)

field_takes : (key : List ℕ) (ms : List (List ℕ × Data)) (x : Data × List (List ℕ × Data)) → field_at key ms ≡ Some x → ms ≡ (key, x.0) ∷ x.1
field_takes key [] x e = absurd cc
field_takes key (m ∷ ms) x e =
    let g = guard_some _ _ _ e in
    let same : m.0 ≡ key = (bytes_eq-Decides m.0 key).0 g.0 in
    ap (λ (k : List ℕ). (k, m.1) ∷ ms) same ∙ ap (λ (y : Data × List (List ℕ × Data)). (key, y.0) ∷ y.1) g.1

-- a member was read, and then the others
pub then_others : (key : List ℕ) (ms : List (List ℕ × Data)) (x : Data × List (List ℕ × Data)) (others : List (List ℕ × Data))
    → field_at key ms ≡ Some x → x.1 ≡ others → ms ≡ (key, x.0) ∷ others
then_others key ms x others e same = field_takes key ms x e ∙ ap (λ (rest : List (List ℕ × Data)). (key, x.0) ∷ rest) same

pub end_takes : {A : Type 0} (xs : List A) (x : ⊤) → end_at xs ≡ Some x → xs ≡ []
end_takes [] x e = refl
end_takes (y ∷ ys) x e = absurd cc

pub head_takes : {A : Type 0} (xs : List A) (x : A × List A) → head_at xs ≡ Some x → xs ≡ x.0 ∷ x.1
head_takes [] x e = absurd cc
head_takes (y ∷ ys) x e = let same : (y, ys) ≡ x = cc in ap (λ (p : _ × List _). p.0 ∷ p.1) same

-- ---- each of a list

pub each_takes : {A B : Type 0} (f : A → Option B) (value : B → A) (P : B → Type 0) → ((x : A) (y : B) → f x ≡ Some y → (x ≡ value y) × P y)
    → (xs : List A) (ys : List B) → each f xs ≡ Some ys → (xs ≡ map value ys) × AllByRecursion P ys
each_takes f value P one [] ys e = let same : [] ≡ ys = cc in subst (λ ys. ([] ≡ map value ys) × AllByRecursion P ys) same (refl, tt)
each_takes f value P one (x ∷ xs) ys e =
    let a = bind_some _ _ _ e in
    let b = bind_some _ _ _ a.2 in
    let first = one x a.0 a.1 in
    let others = each_takes f value P one xs b.0 b.1 in
    let same : a.0 ∷ b.0 ≡ ys = cc in
    subst (λ ys. (x ∷ xs ≡ map value ys) × AllByRecursion P ys) same (cc (first.0, others.0), (first.1, others.1))

pub each_again : {A B : Type 0} (f : A → Option B) (value : B → A) (P : B → Type 0) → ((y : B) → P y → f (value y) ≡ Some y)
    → (ys : List B) → AllByRecursion P ys → each f (map value ys) ≡ Some ys
each_again f value P one [] all = refl
each_again f value P one (y ∷ ys) all = rw (one y all.0, each_again f value P one ys all.1) refl
