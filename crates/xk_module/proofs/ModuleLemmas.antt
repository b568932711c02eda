-- The two laws: what is read is the value of a module, and the value of a module is read as that module.
use Rattle.std.proofs.Common.{◌≡◌, ℕ, ℤ, eqb, false, cond, List, [], ◌∷◌, map, Some, None, codes, refl, sym, ap, ◌∙◌, subst}
use Rattle.std.specs.Bool.{⊤}
use Rattle.std.specs.List.{AllByRecursion}
use Rattle.std.proofs.lemmas.Bool.{eqb-true}
use Rattle.serde_json.specs.Data.{Data, number, string}
use Rattle.xk_types.specs.declared.instr.Instr.{Instr}
use Rattle.xk_types.specs.declared.unit.UnitKind.{UnitKind}
use Rattle.xk_types.specs.declared.unit.UnitKind.TheVariants as unit_kind
use Rattle.xk_types.specs.declared.unit.ParamKind.{ParamKind}
use Rattle.xk_types.specs.declared.unit.ParamKind.TheVariants as param_kind
use Rattle.xk_types.specs.Code.{UnitValue, ModuleValue}
use Rattle.xk_module.specs.declared.version.Version.{Version}
use Rattle.xk_module.specs.declared.version.Version.TheVariants as version
use Rattle.xk_module.specs.ModuleText.{long, word, array_of, object_of, instr_value, kind_value, letter, unit_value, version_number, knows, module_value_in, IsLong, IsInstrInRange, IsUnitInRange, IsInRange, Names}
use Rattle.xk_module.specs.ModuleReader.{each, long_at, instr_at, kind_of, kind_at, param_at, params_at, code_at, unit_members_at, unit_at, version_at, shared_at, units_at, module_members_at, module_at}
use Rattle.xk_module.proofs.JsonListLemmas.{listed-items_of}
use Rattle.xk_module.proofs.ReaderLemmas.{bind_some, by_test, by_name, then, guard_some, number_takes, str_takes, u64_takes, word_takes, word_again, long_takes, long_again, array_takes, object_takes, then_others, end_takes, each_takes, each_again}
use Rattle.xk_module.proofs.InstrLemmas.{instr_takes, instr_again}

-- ---- the kind and the parameters of a unit

kind_of_takes : (name : List ℕ) (k : UnitKind) → kind_of name ≡ Some k → string name ≡ kind_value k
kind_of_takes name k e =
    by_name name (codes "main") _ _ k (string name ≡ kind_value k) e (λ same e. let h : unit_kind.Main ≡ k = cc in ap string same ∙ ap kind_value h) (λ e.
    by_name name (codes "method") _ _ k (string name ≡ kind_value k) e (λ same e. let h : unit_kind.Method ≡ k = cc in ap string same ∙ ap kind_value h) (λ e.
    by_name name (codes "body") _ _ k (string name ≡ kind_value k) e (λ same e. let h : unit_kind.Body ≡ k = cc in ap string same ∙ ap kind_value h) (λ e.
    absurd cc)))

kind_takes : (d : Data) (k : UnitKind) → kind_at d ≡ Some k → d ≡ kind_value k
unfolding kind_at
kind_takes d k e =
    let name = bind_some _ _ _ e in
    str_takes d name.0 name.1 ∙ kind_of_takes name.0 k name.2

kind_again : (k : UnitKind) → kind_at (kind_value k) ≡ Some k
unfolding kind_at
kind_again unit_kind.Main = refl
kind_again unit_kind.Method = refl
kind_again unit_kind.Body = refl

param_takes : (n : ℕ) (k : ParamKind) → param_at n ≡ Some k → (n ≡ letter k) × ⊤
param_takes n k e =
    by_test (eqb n 110) _ _ k ((n ≡ letter k) × ⊤) e (λ t e. let h : param_kind.Number ≡ k = cc in (eqb-true n 110 t ∙ ap letter h, tt)) (λ e.
    by_test (eqb n 99) _ _ k ((n ≡ letter k) × ⊤) e (λ t e. let h : param_kind.Clock ≡ k = cc in (eqb-true n 99 t ∙ ap letter h, tt)) (λ e.
    absurd cc))

param_again : (k : ParamKind) → ⊤ → param_at (letter k) ≡ Some k
param_again param_kind.Number p = refl
param_again param_kind.Clock p = refl

nothing_asked : {A : Type 0} (xs : List A) → AllByRecursion (λ _. ⊤) xs
nothing_asked [] = tt
nothing_asked (x ∷ xs) = (tt, nothing_asked xs)

params_takes : (d : Data) (ks : List ParamKind) → params_at d ≡ Some ks → d ≡ string (map letter ks)
unfolding params_at
params_takes d ks e =
    let letters = bind_some _ _ _ e in
    str_takes d letters.0 letters.1 ∙ ap string (each_takes param_at letter (λ _. ⊤) param_takes letters.0 ks letters.2).0

params_again : (ks : List ParamKind) → params_at (string (map letter ks)) ≡ Some ks
unfolding params_at
params_again ks = each_again param_at letter (λ _. ⊤) param_again ks (nothing_asked ks)

-- ---- units

code_takes : (d : Data) (is : List Instr) → code_at d ≡ Some is → (d ≡ array_of (map instr_value is)) × AllByRecursion IsInstrInRange is
unfolding code_at
code_takes d is e =
    let values = bind_some _ _ _ e in
    let t = each_takes instr_at instr_value IsInstrInRange instr_takes values.0 is values.2 in
    (array_takes d values.0 values.1 ∙ ap array_of t.0, t.1)

code_again : (is : List Instr) → AllByRecursion IsInstrInRange is → code_at (array_of (map instr_value is)) ≡ Some is
unfolding code_at
code_again is p = ap (each instr_at) (listed-items_of (map instr_value is)) ∙ each_again instr_at instr_value IsInstrInRange instr_again is p

-- the object of a unit with these values
abbrev unit_object : Data → Data → Data → Data → Data
unit_object code kind params slots = object_of ((codes "code", code) ∷ (codes "kind", kind) ∷ (codes "params", params) ∷ (codes "slots", slots) ∷ [])

same_unit : (a a' b b' c c' d d' : Data) → a ≡ a' → b ≡ b' → c ≡ c' → d ≡ d' → unit_object a b c d ≡ unit_object a' b' c' d'
same_unit a a' b b' c c' d d' p q r s = cc

unit_members_takes : (d : Data) (x : Data × Data × Data × Data) → unit_members_at d ≡ Some x → d ≡ unit_object x.0 x.1 x.2 x.3
unfolding unit_members_at
unit_members_takes d x e =
    then _ _ x _ e (λ members is_members e.
    then _ _ x _ e (λ code is_code e.
    then _ _ x _ e (λ kind is_kind e.
    then _ _ x _ e (λ params is_params e.
    then _ _ x _ e (λ slots is_slots e.
    then _ _ x _ e (λ end is_end e.
    let listed = then_others _ members code _ is_code (then_others _ code.1 kind _ is_kind (then_others _ kind.1 params _ is_params
    (then_others _ params.1 slots _ is_slots (end_takes slots.1 end is_end)))) in
    let same : (code.0, kind.0, params.0, slots.0) ≡ x = cc in
    object_takes d members is_members ∙ ap object_of listed ∙ ap (λ (x : Data × Data × Data × Data). unit_object x.0 x.1 x.2 x.3) same))))))

unit_takes : (d : Data) (u : UnitValue) → unit_at d ≡ Some u → (d ≡ unit_value u) × IsUnitInRange u
unfolding unit_at
unit_takes d u e =
    then _ _ u _ e (λ members is_members e.
    then _ _ u _ e (λ kind is_kind e.
    then _ _ u _ e (λ slots is_slots e.
    then _ _ u _ e (λ params is_params e.
    then _ _ u _ e (λ code is_code e.
    let whole = unit_members_takes d members is_members in
    let of_code = code_takes members.0 code is_code in
    let of_kind = kind_takes members.1 kind is_kind in
    let of_params = params_takes members.2 params is_params in
    let of_slots = word_takes members.3 slots is_slots in
    let made : UnitValue = record { kind = kind; params = params; slots = slots; code = code } in
    let same : made ≡ u = cc in
    subst (λ (u : UnitValue). (d ≡ unit_value u) × IsUnitInRange u) same
    (whole ∙ same_unit _ _ _ _ _ _ _ _ of_code.0 of_kind of_params of_slots.0, record { slots = of_slots.1; code = of_code.1 }))))))

unit_again : (u : UnitValue) → IsUnitInRange u → unit_at (unit_value u) ≡ Some u
unfolding unit_at unit_members_at
unit_again u p = rw (code_again u.code p.code, kind_again u.kind, params_again u.params, word_again u.slots p.slots) refl

-- ---- modules

version_of_takes : (n : ℕ) (v : Version) → cond (eqb n 1) (Some version.One) (cond (eqb n 2) (Some version.Two) None) ≡ Some v → n ≡ version_number v
version_of_takes n v e =
    by_test (eqb n 1) _ _ v (n ≡ version_number v) e (λ t e. let h : version.One ≡ v = cc in eqb-true n 1 t ∙ ap version_number h) (λ e.
    by_test (eqb n 2) _ _ v (n ≡ version_number v) e (λ t e. let h : version.Two ≡ v = cc in eqb-true n 2 t ∙ ap version_number h) (λ e.
    absurd cc))

version_takes : (d : Data) (v : Version) → version_at d ≡ Some v → d ≡ word (version_number v)
unfolding version_at
version_takes d v e =
    let k = bind_some _ _ _ e in
    let n = bind_some _ _ _ k.2 in
    number_takes d k.0 k.1 ∙ ap number (u64_takes k.0 n.0 n.1) ∙ ap word (version_of_takes n.0 v n.2)

version_again : (v : Version) → version_at (word (version_number v)) ≡ Some v
unfolding version_at
version_again version.One = refl
version_again version.Two = refl

shared_takes : (d : Data) (zs : List ℤ) → shared_at d ≡ Some zs → (d ≡ array_of (map long zs)) × AllByRecursion IsLong zs
unfolding shared_at
shared_takes d zs e =
    let values = bind_some _ _ _ e in
    let t = each_takes long_at long IsLong long_takes values.0 zs values.2 in
    (array_takes d values.0 values.1 ∙ ap array_of t.0, t.1)

shared_again : (zs : List ℤ) → AllByRecursion IsLong zs → shared_at (array_of (map long zs)) ≡ Some zs
unfolding shared_at
shared_again zs p = ap (each long_at) (listed-items_of (map long zs)) ∙ each_again long_at long IsLong long_again zs p

units_takes : (d : Data) (us : List UnitValue) → units_at d ≡ Some us → (d ≡ array_of (map unit_value us)) × AllByRecursion IsUnitInRange us
unfolding units_at
units_takes d us e =
    let values = bind_some _ _ _ e in
    let t = each_takes unit_at unit_value IsUnitInRange unit_takes values.0 us values.2 in
    (array_takes d values.0 values.1 ∙ ap array_of t.0, t.1)

units_again : (us : List UnitValue) → AllByRecursion IsUnitInRange us → units_at (array_of (map unit_value us)) ≡ Some us
unfolding units_at
units_again us p = ap (each unit_at) (listed-items_of (map unit_value us)) ∙ each_again unit_at unit_value IsUnitInRange unit_again us p

-- the object of a module with these values
abbrev module_object : Data → Data → Data → Data
module_object shared units version = object_of ((codes "shared", shared) ∷ (codes "units", units) ∷ (codes "version", version) ∷ [])

same_module : (a a' b b' c c' : Data) → a ≡ a' → b ≡ b' → c ≡ c' → module_object a b c ≡ module_object a' b' c'
same_module a a' b b' c c' p q r = cc

module_members_takes : (d : Data) (x : Data × Data × Version) → module_members_at d ≡ Some x → d ≡ module_object x.0 x.1 (word (version_number x.2))
unfolding module_members_at
module_members_takes d x e =
    then _ _ x _ e (λ members is_members e.
    then _ _ x _ e (λ shared is_shared e.
    then _ _ x _ e (λ units is_units e.
    then _ _ x _ e (λ number is_number e.
    then _ _ x _ e (λ end is_end e.
    then _ _ x _ e (λ v is_version e.
    let listed = then_others _ members shared _ is_shared (then_others _ shared.1 units _ is_units (then_others _ units.1 number _ is_number (end_takes number.1 end is_end))) in
    let same : (shared.0, units.0, v) ≡ x = cc in
    object_takes d members is_members ∙ ap object_of listed
    ∙ ap (module_object shared.0 units.0) (version_takes number.0 v is_version)
    ∙ ap (λ (x : Data × Data × Version). module_object x.0 x.1 (word (version_number x.2))) same))))))

-- what is read is named
pub module_takes : (d : Data) (m : ModuleValue) → module_at d ≡ Some m → Names d m
unfolding module_at
module_takes d m e =
    then _ _ m _ e (λ members is_members e.
    then _ _ m _ e (λ shared is_shared e.
    then _ _ m _ e (λ units is_units e.
    let of_shared = shared_takes members.0 shared is_shared in
    let of_units = units_takes members.1 units is_units in
    let known = guard_some (knows members.2 units) _ m e in
    subst (Names d) known.1 (record {
      version = members.2;
      known = known.0;
      value = module_members_takes d members is_members ∙ same_module _ _ _ _ _ _ of_shared.0 of_units.0 refl;
      range = record { shared = of_shared.1; units = of_units.1 };
    }))))

value_again : (v : Version) (m : ModuleValue) → IsInRange m → module_at (module_value_in v m) ≡ cond (knows v m.units) (Some m) None
unfolding module_at module_members_at
value_again v m p = rw (version_again v, shared_again m.shared p.shared, units_again m.units p.units) refl

-- what is named is read
pub module_again : (d : Data) (m : ModuleValue) → Names d m → module_at d ≡ Some m
module_again d m names =
    ap module_at names.value ∙ value_again names.version m names.range ∙ ap (λ b. cond b (Some m) None) names.known

-- a value in a version that can't say the module names nothing
pub value_unknown : (v : Version) (m n : ModuleValue) → IsInRange m → knows v m.units ≡ false → Names (module_value_in v m) n → ⊥
value_unknown v m n range unknown names =
    let none : module_at (module_value_in v m) ≡ None = value_again v m range ∙ ap (λ b. cond b (Some m) None) unknown in
    let some = module_again (module_value_in v m) n names in
    absurd cc

-- a value names one module at most
pub named_once : (d : Data) (m n : ModuleValue) → Names d m → Names d n → m ≡ n
named_once d m n p q = let e : Some m ≡ Some n = sym (module_again d m p) ∙ module_again d n q in cc
