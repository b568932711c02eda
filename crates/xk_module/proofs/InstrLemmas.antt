-- Instructions: what is read is the value of what it names, and that value is read again.
use Rattle.std.proofs.Common.{◌≡◌, ℕ, ℤ, cond, List, [], ◌∷◌, map, Option, Some, codes, refl, ap, ◌∙◌, subst}
use Rattle.std.specs.List.{AllByRecursion}
use Rattle.std.specs.Str.{bytes_eq}
use Rattle.serde_json.specs.Data.{Data, string}
use Rattle.xk_types.specs.declared.instr.Comparison.{Comparison}
use Rattle.xk_types.specs.declared.instr.Comparison.TheVariants as comparison
use Rattle.xk_types.specs.declared.instr.Instr.{Instr}
use Rattle.xk_types.specs.declared.instr.Instr.TheVariants as instr
use Rattle.xk_module.specs.ModuleText.{long, word, named, array_of, comparison_name, instr_value, IsWord, IsLong, IsInstrInRange}
use Rattle.xk_module.specs.ModuleReader.{◌>>=◌, word_at, lit_at, comparison_of, comparison_at, unless_at, for_at, forto_at, run_at, instr_of, instr_without_args, instr_of_words, instr_of_none, instr_of_one, instr_of_two, instr_of_three, name_and_operands_at, instr_at}
use Rattle.xk_module.proofs.JsonListLemmas.{listed-items_of}
use Rattle.xk_module.proofs.ReaderLemmas.{bind_some, by_name, word_takes, word_again, long_takes, long_again, array_takes, head_takes, str_takes, each_takes, each_again}

-- ---- shapes of operands

-- A reader of operands reads what has these values, and no other.
pub record IsShape {X : Type 0} (shape : List Data → Option X) (values : X → List Data) (P : X → Type 0) : Type 0 where
  takes : (operands : List Data) (x : X) → shape operands ≡ Some x → (operands ≡ values x) × P x
  again : (x : X) → P x → shape (values x) ≡ Some x

abbrev lit_values : ℕ × ℤ → List Data
lit_values x = word x.0 ∷ long x.1 ∷ []

abbrev AreWordAndLong : ℕ × ℤ → Type 0
AreWordAndLong x = IsWord x.0 × IsLong x.1

lit_takes : (operands : List Data) (x : ℕ × ℤ) → lit_at operands ≡ Some x → (operands ≡ lit_values x) × AreWordAndLong x
unfolding lit_at
lit_takes (a ∷ b ∷ []) x e =
    let p = bind_some _ _ _ e in
    let q = bind_some _ _ _ p.2 in
    let i = word_takes a p.0 p.1 in
    let j = long_takes b q.0 q.1 in
    let same : (p.0, q.0) ≡ x = cc in
    subst (λ (x : ℕ × ℤ). (a ∷ b ∷ [] ≡ lit_values x) × AreWordAndLong x) same (cc (i.0, j.0), (i.1, j.1))
lit_takes [] x e = absurd cc
lit_takes (a ∷ []) x e = absurd cc
lit_takes (a ∷ b ∷ c ∷ rest) x e = absurd cc

lit_again : (x : ℕ × ℤ) → AreWordAndLong x → lit_at (lit_values x) ≡ Some x
unfolding lit_at
lit_again x p = rw (word_again x.0 p.0, long_again x.1 p.1) refl

lit : IsShape lit_at lit_values AreWordAndLong
lit = record { takes = lit_takes; again = lit_again }

-- the name of this comparison was read, or that of another one
by_comparison : (this : Comparison) (name : List ℕ) (others : Option Comparison) (op : Comparison)
    → cond (bytes_eq name (comparison_name this)) (Some this) others ≡ Some op → (others ≡ Some op → name ≡ comparison_name op)
    → name ≡ comparison_name op
by_comparison this name others op e there =
    by_name name (comparison_name this) _ _ op (name ≡ comparison_name op) e (λ same e. let h : this ≡ op = cc in same ∙ ap comparison_name h) there

comparison_of_takes : (name : List ℕ) (op : Comparison) → comparison_of name ≡ Some op → name ≡ comparison_name op
comparison_of_takes name op e =
    by_comparison comparison.Eq name _ op e (λ e.
    by_comparison comparison.Ne name _ op e (λ e.
    by_comparison comparison.Lt name _ op e (λ e.
    by_comparison comparison.Le name _ op e (λ e.
    by_comparison comparison.Gt name _ op e (λ e.
    by_comparison comparison.Ge name _ op e (λ e.
    absurd cc))))))

comparison_takes : (d : Data) (op : Comparison) → comparison_at d ≡ Some op → d ≡ string (comparison_name op)
unfolding comparison_at
comparison_takes d op e =
    let name = bind_some _ _ _ e in
    str_takes d name.0 name.1 ∙ ap string (comparison_of_takes name.0 op name.2)

comparison_again : (op : Comparison) → comparison_at (string (comparison_name op)) ≡ Some op
unfolding comparison_at
comparison_again comparison.Eq = refl
comparison_again comparison.Ne = refl
comparison_again comparison.Lt = refl
comparison_again comparison.Le = refl
comparison_again comparison.Gt = refl
comparison_again comparison.Ge = refl

abbrev unless_values : Comparison × ℕ × ℕ × ℕ → List Data
unless_values x = string (comparison_name x.0) ∷ word x.1 ∷ word x.2 ∷ word x.3 ∷ []

abbrev IsUnlessInRange : Comparison × ℕ × ℕ × ℕ → Type 0
IsUnlessInRange x = IsWord x.1 × IsWord x.2 × IsWord x.3

unless_takes : (operands : List Data) (x : Comparison × ℕ × ℕ × ℕ) → unless_at operands ≡ Some x → (operands ≡ unless_values x) × IsUnlessInRange x
unfolding unless_at
unless_takes (a ∷ b ∷ c ∷ d ∷ []) x e =
    let p = bind_some _ _ _ e in
    let q = bind_some _ _ _ p.2 in
    let r = bind_some _ _ _ q.2 in
    let s = bind_some _ _ _ r.2 in
    let i = comparison_takes a p.0 p.1 in
    let j = word_takes b q.0 q.1 in
    let k = word_takes c r.0 r.1 in
    let l = word_takes d s.0 s.1 in
    let same : (p.0, q.0, r.0, s.0) ≡ x = cc in
    subst (λ (x : Comparison × ℕ × ℕ × ℕ). (a ∷ b ∷ c ∷ d ∷ [] ≡ unless_values x) × IsUnlessInRange x) same (cc (i, j.0, k.0, l.0), (j.1, k.1, l.1))
unless_takes [] x e = absurd cc
unless_takes (a ∷ []) x e = absurd cc
unless_takes (a ∷ b ∷ []) x e = absurd cc
unless_takes (a ∷ b ∷ c ∷ []) x e = absurd cc
unless_takes (a ∷ b ∷ c ∷ d ∷ f ∷ rest) x e = absurd cc

unless_again : (x : Comparison × ℕ × ℕ × ℕ) → IsUnlessInRange x → unless_at (unless_values x) ≡ Some x
unfolding unless_at
unless_again x p = rw (comparison_again x.0, word_again x.1 p.0, word_again x.2 p.1, word_again x.3 p.2) refl

unless : IsShape unless_at unless_values IsUnlessInRange
unless = record { takes = unless_takes; again = unless_again }

abbrev for_values : ℕ × ℤ × ℤ × ℕ → List Data
for_values x = word x.0 ∷ long x.1 ∷ long x.2 ∷ word x.3 ∷ []

abbrev IsForInRange : ℕ × ℤ × ℤ × ℕ → Type 0
IsForInRange x = IsWord x.0 × IsLong x.1 × IsLong x.2 × IsWord x.3

for_takes : (operands : List Data) (x : ℕ × ℤ × ℤ × ℕ) → for_at operands ≡ Some x → (operands ≡ for_values x) × IsForInRange x
unfolding for_at
for_takes (a ∷ b ∷ c ∷ d ∷ []) x e =
    let p = bind_some _ _ _ e in
    let q = bind_some _ _ _ p.2 in
    let r = bind_some _ _ _ q.2 in
    let s = bind_some _ _ _ r.2 in
    let i = word_takes a p.0 p.1 in
    let j = long_takes b q.0 q.1 in
    let k = long_takes c r.0 r.1 in
    let l = word_takes d s.0 s.1 in
    let same : (p.0, q.0, r.0, s.0) ≡ x = cc in
    subst (λ (x : ℕ × ℤ × ℤ × ℕ). (a ∷ b ∷ c ∷ d ∷ [] ≡ for_values x) × IsForInRange x) same (cc (i.0, j.0, k.0, l.0), (i.1, j.1, k.1, l.1))
for_takes [] x e = absurd cc
for_takes (a ∷ []) x e = absurd cc
for_takes (a ∷ b ∷ []) x e = absurd cc
for_takes (a ∷ b ∷ c ∷ []) x e = absurd cc
for_takes (a ∷ b ∷ c ∷ d ∷ f ∷ rest) x e = absurd cc

for_again : (x : ℕ × ℤ × ℤ × ℕ) → IsForInRange x → for_at (for_values x) ≡ Some x
unfolding for_at
for_again x p = rw (word_again x.0 p.0, long_again x.1 p.1, long_again x.2 p.2, word_again x.3 p.3) refl

counted : IsShape for_at for_values IsForInRange
counted = record { takes = for_takes; again = for_again }

abbrev forto_values : ℕ × ℤ × ℕ × ℤ × ℕ → List Data
forto_values x = word x.0 ∷ long x.1 ∷ word x.2 ∷ long x.3 ∷ word x.4 ∷ []

abbrev IsForToInRange : ℕ × ℤ × ℕ × ℤ × ℕ → Type 0
IsForToInRange x = IsWord x.0 × IsLong x.1 × IsWord x.2 × IsLong x.3 × IsWord x.4

forto_takes : (operands : List Data) (x : ℕ × ℤ × ℕ × ℤ × ℕ) → forto_at operands ≡ Some x → (operands ≡ forto_values x) × IsForToInRange x
unfolding forto_at
forto_takes (a ∷ b ∷ c ∷ d ∷ f ∷ []) x e =
    let p = bind_some _ _ _ e in
    let q = bind_some _ _ _ p.2 in
    let r = bind_some _ _ _ q.2 in
    let s = bind_some _ _ _ r.2 in
    let t = bind_some _ _ _ s.2 in
    let i = word_takes a p.0 p.1 in
    let j = long_takes b q.0 q.1 in
    let k = word_takes c r.0 r.1 in
    let l = long_takes d s.0 s.1 in
    let m = word_takes f t.0 t.1 in
    let same : (p.0, q.0, r.0, s.0, t.0) ≡ x = cc in
    subst (λ (x : ℕ × ℤ × ℕ × ℤ × ℕ). (a ∷ b ∷ c ∷ d ∷ f ∷ [] ≡ forto_values x) × IsForToInRange x) same
    (cc (i.0, j.0, k.0, l.0, m.0), (i.1, j.1, k.1, l.1, m.1))
forto_takes [] x e = absurd cc
forto_takes (a ∷ []) x e = absurd cc
forto_takes (a ∷ b ∷ []) x e = absurd cc
forto_takes (a ∷ b ∷ c ∷ []) x e = absurd cc
forto_takes (a ∷ b ∷ c ∷ d ∷ []) x e = absurd cc
forto_takes (a ∷ b ∷ c ∷ d ∷ f ∷ g ∷ rest) x e = absurd cc

forto_again : (x : ℕ × ℤ × ℕ × ℤ × ℕ) → IsForToInRange x → forto_at (forto_values x) ≡ Some x
unfolding forto_at
forto_again x p = rw (word_again x.0 p.0, long_again x.1 p.1, word_again x.2 p.2, long_again x.3 p.3, word_again x.4 p.4) refl

limited : IsShape forto_at forto_values IsForToInRange
limited = record { takes = forto_takes; again = forto_again }

abbrev run_values : ℕ × List ℕ → List Data
run_values x = word x.0 ∷ array_of (map word x.1) ∷ []

abbrev AreWordAndWords : ℕ × List ℕ → Type 0
AreWordAndWords x = IsWord x.0 × AllByRecursion IsWord x.1

run_takes : (operands : List Data) (x : ℕ × List ℕ) → run_at operands ≡ Some x → (operands ≡ run_values x) × AreWordAndWords x
unfolding run_at
run_takes (a ∷ b ∷ []) x e =
    let p = bind_some _ _ _ e in
    let q = bind_some _ _ _ p.2 in
    let r = bind_some _ _ _ q.2 in
    let i = word_takes a p.0 p.1 in
    let j = array_takes b q.0 q.1 in
    let k = each_takes word_at word IsWord word_takes q.0 r.0 r.1 in
    let whole : b ≡ array_of (map word r.0) = j ∙ ap array_of k.0 in
    let same : (p.0, r.0) ≡ x = cc in
    subst (λ (x : ℕ × List ℕ). (a ∷ b ∷ [] ≡ run_values x) × AreWordAndWords x) same (cc (i.0, whole), (i.1, k.1))
run_takes [] x e = absurd cc
run_takes (a ∷ []) x e = absurd cc
run_takes (a ∷ b ∷ c ∷ rest) x e = absurd cc

run_again : (x : ℕ × List ℕ) → AreWordAndWords x → run_at (run_values x) ≡ Some x
unfolding run_at
run_again x p = rw (word_again x.0 p.0, listed-items_of (map word x.1), each_again word_at word IsWord word_again x.1 p.1) refl

run : IsShape run_at run_values AreWordAndWords
run = record { takes = run_takes; again = run_again }

-- ---- an instruction by its name

-- the values are those of the instruction, whose words are in range
abbrev IsValue : List ℕ → List Data → Instr → Type 0
IsValue name operands i = (named name operands ≡ instr_value i) × IsInstrInRange i

-- Where the name is this one, operands of the shape were read, and they make the instruction. Else it was read as another.
by_shape : {X : Type 0} {shape : List Data → Option X} {values : X → List Data} {P : X → Type 0} → IsShape shape values P
    → (key : List ℕ) (make : X → Instr) → ((x : X) → P x → IsValue key (values x) (make x))
    → (name : List ℕ) (operands : List Data) (others : Option Instr) (i : Instr) → cond (bytes_eq name key) (shape operands >>= λ x. Some (make x)) others ≡ Some i
    → (others ≡ Some i → IsValue name operands i) → IsValue name operands i
by_shape {shape = shape} {values = values} s key make value name operands others i e there =
    by_name name key _ _ i (IsValue name operands i) e (λ same_name e.
    let x = bind_some _ _ _ e in
    let taken = s.takes operands x.0 x.1 in
    let same_operands : operands ≡ values x.0 = taken.0 in
    let same : make x.0 ≡ i = cc in
    rw (same_name, same_operands) (subst (IsValue key (values x.0)) same (value x.0 taken.1))) there

-- the same where the operands were read before
by_key : (key : List ℕ) (this : Instr) (operands : List Data) → IsValue key operands this
    → (name : List ℕ) (others : Option Instr) (i : Instr) → cond (bytes_eq name key) (Some this) others ≡ Some i
    → (others ≡ Some i → IsValue name operands i) → IsValue name operands i
by_key key this operands value name others i e there =
    by_name name key _ _ i (IsValue name operands i) e (λ same_name e.
    let same : this ≡ i = cc in
    rw same_name (subst (IsValue key operands) same value)) there

instr_of_none_takes : (name : List ℕ) (i : Instr) → instr_of_none name ≡ Some i → IsValue name [] i
unfolding instr_of_none
instr_of_none_takes name i e =
    by_key (codes "advance") instr.Advance [] (refl, tt) name _ i e (λ e.
    by_key (codes "ret") instr.Ret [] (refl, tt) name _ i e (λ e.
    absurd cc))

instr_of_one_takes : (name : List ℕ) (x : ℕ) (i : Instr) → IsWord x → instr_of_one name x ≡ Some i → IsValue name (word x ∷ []) i
unfolding instr_of_one
instr_of_one_takes name x i p e =
    by_key (codes "jump") (instr.Jump x) (word x ∷ []) (refl, p) name _ i e (λ e.
    by_key (codes "next") (instr.Next x) (word x ∷ []) (refl, p) name _ i e (λ e.
    by_key (codes "finish") (instr.Finish x) (word x ∷ []) (refl, p) name _ i e (λ e.
    by_key (codes "endfinish") (instr.EndFinish x) (word x ∷ []) (refl, p) name _ i e (λ e.
    by_key (codes "print") (instr.Print x) (word x ∷ []) (refl, p) name _ i e (λ e.
    by_key (codes "make") (instr.Make x) (word x ∷ []) (refl, p) name _ i e (λ e.
    by_key (codes "resume") (instr.Resume x) (word x ∷ []) (refl, p) name _ i e (λ e.
    by_key (codes "drop") (instr.Drop x) (word x ∷ []) (refl, p) name _ i e (λ e.
    absurd cc))))))))

instr_of_two_takes : (name : List ℕ) (x y : ℕ) (i : Instr) → IsWord x × IsWord y → instr_of_two name x y ≡ Some i → IsValue name (word x ∷ word y ∷ []) i
unfolding instr_of_two
instr_of_two_takes name x y i p e =
    by_key (codes "copy") (instr.Copy x y) (word x ∷ word y ∷ []) (refl, p) name _ i e (λ e.
    by_key (codes "get") (instr.Get x y) (word x ∷ word y ∷ []) (refl, p) name _ i e (λ e.
    by_key (codes "put") (instr.Put x y) (word x ∷ word y ∷ []) (refl, p) name _ i e (λ e.
    by_key (codes "addto") (instr.AddTo x y) (word x ∷ word y ∷ []) (refl, p) name _ i e (λ e.
    absurd cc))))

instr_of_three_takes : (name : List ℕ) (x y z : ℕ) (i : Instr) → IsWord x × IsWord y × IsWord z → instr_of_three name x y z ≡ Some i
    → IsValue name (word x ∷ word y ∷ word z ∷ []) i
unfolding instr_of_three
instr_of_three_takes name x y z i p e =
    by_key (codes "add") (instr.Add x y z) (word x ∷ word y ∷ word z ∷ []) (refl, p) name _ i e (λ e.
    by_key (codes "sub") (instr.Sub x y z) (word x ∷ word y ∷ word z ∷ []) (refl, p) name _ i e (λ e.
    by_key (codes "mul") (instr.Mul x y z) (word x ∷ word y ∷ word z ∷ []) (refl, p) name _ i e (λ e.
    absurd cc)))

instr_of_words_takes : (name : List ℕ) (operands : List Data) (i : Instr) → instr_of_words name operands ≡ Some i → IsValue name operands i
unfolding instr_of_words
instr_of_words_takes name [] i e = instr_of_none_takes name i e
instr_of_words_takes name (a ∷ []) i e =
    let p = bind_some _ _ _ e in
    let j = word_takes a p.0 p.1 in
    let same : word p.0 ∷ [] ≡ a ∷ [] = cc j.0 in
    subst (λ (operands : List Data). IsValue name operands i) same (instr_of_one_takes name p.0 i j.1 p.2)
instr_of_words_takes name (a ∷ b ∷ []) i e =
    let p = bind_some _ _ _ e in
    let q = bind_some _ _ _ p.2 in
    let j = word_takes a p.0 p.1 in
    let k = word_takes b q.0 q.1 in
    let same : word p.0 ∷ word q.0 ∷ [] ≡ a ∷ b ∷ [] = cc (j.0, k.0) in
    subst (λ (operands : List Data). IsValue name operands i) same (instr_of_two_takes name p.0 q.0 i (j.1, k.1) q.2)
instr_of_words_takes name (a ∷ b ∷ c ∷ []) i e =
    let p = bind_some _ _ _ e in
    let q = bind_some _ _ _ p.2 in
    let r = bind_some _ _ _ q.2 in
    let j = word_takes a p.0 p.1 in
    let k = word_takes b q.0 q.1 in
    let l = word_takes c r.0 r.1 in
    let same : word p.0 ∷ word q.0 ∷ word r.0 ∷ [] ≡ a ∷ b ∷ c ∷ [] = cc (j.0, k.0, l.0) in
    subst (λ (operands : List Data). IsValue name operands i) same (instr_of_three_takes name p.0 q.0 r.0 i (j.1, k.1, l.1) r.2)
instr_of_words_takes name (a ∷ b ∷ c ∷ d ∷ rest) i e = absurd cc

instr_without_args_takes : (name : List ℕ) (operands : List Data) (i : Instr) → instr_without_args name operands ≡ Some i → IsValue name operands i
unfolding instr_without_args
instr_without_args_takes name operands i e =
    by_shape lit (codes "lit") (λ x. instr.Lit x.0 x.1) (λ x p. (refl, p)) name operands _ i e (λ e.
    by_shape unless (codes "unless") (λ x. instr.Unless x.0 x.1 x.2 x.3) (λ x p. (refl, p)) name operands _ i e (λ e.
    by_shape counted (codes "for") (λ x. instr.For x.0 x.1 x.2 x.3) (λ x p. (refl, p)) name operands _ i e (λ e.
    by_shape limited (codes "forto") (λ x. instr.ForTo x.0 x.1 x.2 x.3 x.4) (λ x p. (refl, p)) name operands _ i e (λ e.
    instr_of_words_takes name operands i e))))

instr_of_takes : (name : List ℕ) (operands : List Data) (i : Instr) → instr_of name operands ≡ Some i → IsValue name operands i
unfolding instr_of
instr_of_takes name operands i e =
    by_shape run (codes "call") (λ x. instr.Call x.0 x.1) (λ x p. (refl, p)) name operands _ i e (λ e.
    by_shape run (codes "spawn") (λ x. instr.Spawn x.0 x.1) (λ x p. (refl, p)) name operands _ i e (λ e.
    instr_without_args_takes name operands i e))

name_and_operands_takes : (d : Data) (x : List ℕ × List Data) → name_and_operands_at d ≡ Some x → d ≡ named x.0 x.1
unfolding name_and_operands_at
name_and_operands_takes d x e =
    let values = bind_some _ _ _ e in
    let parts = bind_some _ _ _ values.2 in
    let name = bind_some _ _ _ parts.2 in
    let same : (name.0, parts.0.1) ≡ x = cc in
    array_takes d values.0 values.1
    ∙ ap array_of (head_takes values.0 parts.0 parts.1 ∙ ap (λ (x : Data). x ∷ parts.0.1) (str_takes parts.0.0 name.0 name.1))
    ∙ ap (λ (x : List ℕ × List Data). named x.0 x.1) same

pub instr_takes : (d : Data) (i : Instr) → instr_at d ≡ Some i → (d ≡ instr_value i) × IsInstrInRange i
unfolding instr_at
instr_takes d i e =
    let parts = bind_some _ _ _ e in
    let t = instr_of_takes parts.0.0 parts.0.1 i parts.2 in
    (name_and_operands_takes d parts.0 parts.1 ∙ t.0, t.1)

instr_of_again : (name : List ℕ) (operands : List Data) (i : Instr) → instr_of name operands ≡ Some i → instr_at (named name operands) ≡ Some i
unfolding instr_at name_and_operands_at
instr_of_again name operands i e = ap (instr_of name) (listed-items_of operands) ∙ e

pub instr_again : (i : Instr) → IsInstrInRange i → instr_at (instr_value i) ≡ Some i
unfolding instr_of instr_without_args instr_of_words instr_of_none instr_of_one instr_of_two instr_of_three
instr_again (instr.Lit d n) p = instr_of_again (codes "lit") (lit_values (d, n)) (instr.Lit d n) (rw (lit_again (d, n) p) refl)
instr_again (instr.Copy d a) p =
    instr_of_again (codes "copy") (word d ∷ word a ∷ []) (instr.Copy d a) (rw (word_again d p.0, word_again a p.1) refl)
instr_again (instr.Add d a b) p =
    instr_of_again (codes "add") (word d ∷ word a ∷ word b ∷ []) (instr.Add d a b) (rw (word_again d p.0, word_again a p.1, word_again b p.2) refl)
instr_again (instr.Sub d a b) p =
    instr_of_again (codes "sub") (word d ∷ word a ∷ word b ∷ []) (instr.Sub d a b) (rw (word_again d p.0, word_again a p.1, word_again b p.2) refl)
instr_again (instr.Mul d a b) p =
    instr_of_again (codes "mul") (word d ∷ word a ∷ word b ∷ []) (instr.Mul d a b) (rw (word_again d p.0, word_again a p.1, word_again b p.2) refl)
instr_again (instr.Unless op a b t) p =
    instr_of_again (codes "unless") (unless_values (op, a, b, t)) (instr.Unless op a b t) (rw (unless_again (op, a, b, t) p) refl)
instr_again (instr.Jump t) p =
    instr_of_again (codes "jump") (word t ∷ []) (instr.Jump t) (rw (word_again t p) refl)
instr_again (instr.For k lo hi e) p =
    instr_of_again (codes "for") (for_values (k, lo, hi, e)) (instr.For k lo hi e) (rw (for_again (k, lo, hi, e) p) refl)
instr_again (instr.ForTo k lo x hi e) p =
    instr_of_again (codes "forto") (forto_values (k, lo, x, hi, e)) (instr.ForTo k lo x hi e) (rw (forto_again (k, lo, x, hi, e) p) refl)
instr_again (instr.Next b) p =
    instr_of_again (codes "next") (word b ∷ []) (instr.Next b) (rw (word_again b p) refl)
instr_again (instr.Finish e) p =
    instr_of_again (codes "finish") (word e ∷ []) (instr.Finish e) (rw (word_again e p) refl)
instr_again (instr.EndFinish b) p =
    instr_of_again (codes "endfinish") (word b ∷ []) (instr.EndFinish b) (rw (word_again b p) refl)
instr_again (instr.Get d s) p =
    instr_of_again (codes "get") (word d ∷ word s ∷ []) (instr.Get d s) (rw (word_again d p.0, word_again s p.1) refl)
instr_again (instr.Put s a) p =
    instr_of_again (codes "put") (word s ∷ word a ∷ []) (instr.Put s a) (rw (word_again s p.0, word_again a p.1) refl)
instr_again (instr.AddTo s a) p =
    instr_of_again (codes "addto") (word s ∷ word a ∷ []) (instr.AddTo s a) (rw (word_again s p.0, word_again a p.1) refl)
instr_again (instr.Print a) p =
    instr_of_again (codes "print") (word a ∷ []) (instr.Print a) (rw (word_again a p) refl)
instr_again (instr.Make k) p =
    instr_of_again (codes "make") (word k ∷ []) (instr.Make k) (rw (word_again k p) refl)
instr_again (instr.Resume k) p =
    instr_of_again (codes "resume") (word k ∷ []) (instr.Resume k) (rw (word_again k p) refl)
instr_again (instr.Drop k) p =
    instr_of_again (codes "drop") (word k ∷ []) (instr.Drop k) (rw (word_again k p) refl)
instr_again instr.Advance p = instr_of_again (codes "advance") [] instr.Advance refl
instr_again (instr.Call t args) p =
    instr_of_again (codes "call") (run_values (t, args)) (instr.Call t args) (rw (run_again (t, args) p) refl)
instr_again (instr.Spawn t args) p =
    instr_of_again (codes "spawn") (run_values (t, args)) (instr.Spawn t args) (rw (run_again (t, args) p) refl)
instr_again instr.Ret p = instr_of_again (codes "ret") [] instr.Ret refl
