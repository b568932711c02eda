-- Tables of names, as the code keeps them.
use Rattle.std.proofs.Common.{◌≡◌, ◌⊎◌, inl, inr, ℕ, zero, suc, ◌<◌, ◌≤◌, Bool, true, false, cond, ◌||◌, Bor, List, [], ◌∷◌, ◌++◌, map, take, length, get_or, Option, Some, None, refl, sym, ap, ◌∙◌, subst, arith, rules, nat_eq}
use Rattle.std.specs.Prelude.{is_some, not, nat_lt}
use Rattle.std.specs.Cmp.Lexicographic.{bytes_decides, nat_list_eq_equiv, pointwise, slice_cmp}
use Rattle.std.specs.List.{slice_get}
use Rattle.std.specs.Map.{update}
use Rattle.std.specs.BTreeMap.{BTreeMap, UpdatesBy}
use Rattle.std.specs.Ordering.{nat_cmp}
use Rattle.std.specs.Option.{option_map}
use Rattle.std.proofs.lemmas.List.{length-map, length_push, take-append-le}
use Rattle.std.proofs.lemmas.Option.{none-some, same_Some, slice_get_within, slice_get-map, slice_get_read}
use Rattle.std.proofs.lemmas.Map.Text.{btree_map_updates_str}
use Rattle.std.proofs.lemmas.Map.Entries.{place_from_lookup}
use Rattle.xk_types.proofs.ListLemmas.{get_push}
use Rattle.xk_names.specs.Scope.{Table, find, has, is_text}
use Rattle.xk_names.specs.FaultList.{put, put_text}
use Rattle.xk_names.specs.TablePlaces.{place, ArePlaces}
use Rattle.xk_names.proofs.TableAgreementLemmas.{or_entry, find_behind}

-- names are slices
abbrev pub shown : {A : Type 0} → List (Bor (List ℕ) × A) → Table A
shown es = map (λ e. (e.0.now, e.1)) es

append_shown : {A : Type 0} (es : List (Bor (List ℕ) × A)) (e : Bor (List ℕ) × A) → shown (es ++ e ∷ []) ≡ shown es ++ (e.0.now, e.1) ∷ []
append_shown [] e = refl
append_shown {A} (d ∷ es) e = let first : List ℕ × A = (d.0.now, d.1) in ap (λ r. first ∷ r) (append_shown es e)

-- ---- one entry behind others

get_before : {A : Type 0} (xs : List A) (y : A) (i : ℕ) (e : A) → slice_get xs i ≡ Some e → slice_get (xs ++ y ∷ []) i ≡ Some e
get_before [] y i e h = absurd (none-some e h)
get_before (x ∷ xs) y zero e h = h
get_before (x ∷ xs) y (suc i) e h = get_before xs y i e h

get_either : {A : Type 0} (xs : List A) (y : A) (i : ℕ) (e : A) → slice_get (xs ++ y ∷ []) i ≡ Some e → (slice_get xs i ≡ Some e) ⊎ ((i ≡ length xs) × (e ≡ y))
get_either [] y zero e h = inr (refl, sym (same_Some y e h))
get_either [] y (suc i) e h = absurd (none-some e h)
get_either (x ∷ xs) y zero e h = inl h
get_either {A} (x ∷ xs) y (suc i) e h = go (get_either xs y i e h)
  where
    go : (slice_get xs i ≡ Some e) ⊎ ((i ≡ length xs) × (e ≡ y)) → (slice_get xs i ≡ Some e) ⊎ ((suc i ≡ suc (length xs)) × (e ≡ y))
    go (inl f) = inl f
    go (inr f) = inr (ap suc f.0, f.1)

-- ---- where names stand

placed_more : {A : Type 0} (t : Table A) (x : List ℕ) (a : A) (old new : BTreeMap (Bor (List ℕ)) ℕ) → ArePlaces t old → place old x ≡ None
    → ((q : List ℕ) → place new q ≡ update is_text (place old) x (Some (length t)) q) → ArePlaces (t ++ (x, a) ∷ []) new
placed_more {A} t x a old new is none has = record { each = λ i e h. each i e (get_either t (x, a) i e h); other = other }
  where
    before : (i : ℕ) (e : List ℕ × A) → slice_get t i ≡ Some e → (b : Bool) → is_text x e.0 ≡ b → cond b (Some (length t)) (place old e.0) ≡ Some i
    before i e h false f = is.each i e h
    before i e h true f = absurd (none-some i (sym none ∙ ap (place old) ((bytes_decides x e.0).0 f) ∙ is.each i e h))

    each : (i : ℕ) (e : List ℕ × A) → (slice_get t i ≡ Some e) ⊎ ((i ≡ length t) × (e ≡ (x, a))) → place new e.0 ≡ Some i
    each i e (inl h) = has e.0 ∙ before i e h (is_text x e.0) refl
    each i e (inr h) =
        ap (λ (d : List ℕ × A). place new d.0) h.1 ∙ has x ∙ ap (λ b. cond b (Some (length t)) (place old x)) ((bytes_decides x x).1 refl) ∙ ap Some (sym h.0)

    behind : (q : List ℕ) (o : Option A) → find t q ≡ o → (b : Bool) → is_text q x ≡ b → or_entry o b a ≡ None → cond (is_text x q) (Some (length t)) (place old q) ≡ None
    behind q (Some v) e b f h = absurd (none-some v (sym h))
    behind q None e true f h = absurd (none-some a (sym h))
    behind q None e false f h = ap (λ b. cond b (Some (length t)) (place old q)) (nat_list_eq_equiv.symm x q ∙ f) ∙ is.other q e

    other : (q : List ℕ) → find (t ++ (x, a) ∷ []) q ≡ None → place new q ≡ None
    other q h = has q ∙ behind q (find t q) refl (is_text q x) refl (sym (find_behind t x a q) ∙ h)

placed_less : {A : Type 0} (t : Table A) (x : List ℕ) (a : A) (old new : BTreeMap (Bor (List ℕ)) ℕ) → ArePlaces (t ++ (x, a) ∷ []) old
    → ((q : List ℕ) → place new q ≡ update is_text (place old) x None q) → ArePlaces t new
placed_less {A} t x a old new is has = record { each = λ i e h. has e.0 ∙ each i e h (is_text x e.0) refl; other = λ q h. has q ∙ other q (is_text x q) refl h }
  where
    each : (i : ℕ) (e : List ℕ × A) → slice_get t i ≡ Some e → (b : Bool) → is_text x e.0 ≡ b → cond b None (place old e.0) ≡ Some i
    each i e h false f = is.each i e (get_before t (x, a) i e h)
    each i e h true f =
        let last : place old x ≡ Some (length t) = is.each (length t) (x, a) (get_push t (x, a)) in
        let same : length t ≡ i = same_Some (length t) i (sym last ∙ ap (place old) ((bytes_decides x e.0).0 f) ∙ is.each i e (get_before t (x, a) i e h)) in
        let within : i < length t = slice_get_within t i e h in
        let no : ⊥ = omega arith in absurd no

    other : (q : List ℕ) (b : Bool) → is_text x q ≡ b → find t q ≡ None → cond b None (place old q) ≡ None
    other q true f h = refl
    other q false f h =
        is.other q (find_behind t x a q ∙ ap (λ o. or_entry o (is_text q x) a) h ∙ ap (λ b. or_entry None b a) (nat_list_eq_equiv.symm q x ∙ f))

-- a name that the table has stands at a place, which the map has
there : {A : Type 0} (t : Table A) (places : BTreeMap (Bor (List ℕ)) ℕ) (x : List ℕ) (v : A) → ArePlaces t places → find t x ≡ Some v
    → (i : ℕ) × (k : List ℕ) × (slice_get t i ≡ Some (k, v)) × (place places x ≡ Some i)
there {A} t places x v is f =
    let p = place_from_lookup (is_text x) t v f in
    (p.0, p.1, p.2, ap (place places) ((bytes_decides x p.1).0 p.3) ∙ is.each p.0 (p.1, v) p.2)

pub not_found : {A : Type 0} (t : Table A) (places : BTreeMap (Bor (List ℕ)) ℕ) (x : List ℕ) → ArePlaces t places → place places x ≡ None → find t x ≡ None
not_found {A} t places x is h = go (find t x) refl
  where
    go : (o : Option A) → find t x ≡ o → o ≡ None
    go None f = refl
    go (Some v) f = let p = there t places x v is f in absurd (none-some p.0 (sym h ∙ p.3))

found : {A : Type 0} (t : Table A) (places : BTreeMap (Bor (List ℕ)) ℕ) (x : List ℕ) (i : ℕ) → ArePlaces t places → place places x ≡ Some i
    → (e : List ℕ × A) × (slice_get t i ≡ Some e) × (find t x ≡ Some e.1)
found {A} t places x i is h = go (find t x) refl
  where
    go : (o : Option A) → find t x ≡ o → (e : List ℕ × A) × (slice_get t i ≡ Some e) × (find t x ≡ Some e.1)
    go None f = absurd (none-some i (sym (is.other x f) ∙ h))
    go (Some v) f =
        let p = there t places x v is f in
        ((p.1, v), ap (slice_get t) (same_Some i p.0 (sym h ∙ p.3)) ∙ p.2, f)

-- ---- what the calls of a table do

-- what another's map has for a text, once it was changed at a name
abbrev Changes : BTreeMap (Bor (List ℕ)) ℕ → BTreeMap (Bor (List ℕ)) ℕ → List ℕ → Option ℕ → Type 0
Changes old new x w = UpdatesBy (λ p q. slice_cmp nat_cmp p.now q.now) (λ k. slice_cmp nat_cmp x k.now) old new w

pub found_within : {A : Type 0} (es : List (Bor (List ℕ) × A)) (places : BTreeMap (Bor (List ℕ)) ℕ) (x : List ℕ) (i : ℕ) → ArePlaces (shown es) places → Some i ≡ place places x
    → i < length es
found_within {A} es places x i is h =
    let f = found (shown es) places x i is (sym h) in
    let within : i < length (shown es) = slice_get_within (shown es) i f.0 f.1 in
    let same : length (shown es) ≡ length es = length-map es (λ e. (e.0.now, e.1)) in
    omega arith

pub found_item : {A : Type 0} (es : List (Bor (List ℕ) × A)) (places : BTreeMap (Bor (List ℕ)) ℕ) (x : List ℕ) (i : ℕ) (e : Bor (List ℕ) × A)
    → ArePlaces (shown es) places → Some i ≡ place places x → e ≡ get_or es i e → Some e.1 ≡ find (shown es) x
found_item {A} es places x i e is h r =
    let f = found (shown es) places x i is (sym h) in
    let show : Bor (List ℕ) × A → List ℕ × A = λ d. (d.0.now, d.1) in
    let read : slice_get es i ≡ Some e = slice_get_read es (length es) i e refl (found_within es places x i is h) r in
    let same : f.0 ≡ show e = same_Some f.0 (show e) (sym f.1 ∙ slice_get-map show es i ∙ ap (option_map show) read) in
    sym (f.2 ∙ ap (λ (d : List ℕ × A). Some d.1) same)

pub none_there : {A : Type 0} (o : Option A) → is_some o ≡ false → o ≡ None
none_there None h = refl
none_there (Some v) h = cc

pub put_placed : {A : Type 0} (es more : List (Bor (List ℕ) × A)) (x : Bor (List ℕ)) (a : A) (n : ℕ) (old new : BTreeMap (Bor (List ℕ)) ℕ)
    → ArePlaces (shown es) old → is_some (place old x.now) ≡ false → n ≡ length es → Changes old new x.now (Some n) → more ≡ es ++ (x, a) ∷ [] → ArePlaces (shown more) new
put_placed {A} es more x a n old new is none e changes grown =
    subst (λ (t : Table A). ArePlaces t new) (sym (ap shown grown ∙ append_shown es (x, a)))
    (placed_more (shown es) x.now a old new is (none_there (place old x.now) none)
    (λ q. btree_map_updates_str x.now old new (Some n) changes q
    ∙ ap (λ m. update is_text (place old) x.now (Some m) q) (e ∙ sym (length-map es (λ d. (d.0.now, d.1))))))

pub put_shown : {A : Type 0} (es more : List (Bor (List ℕ) × A)) (x : Bor (List ℕ)) (a : A) (places : BTreeMap (Bor (List ℕ)) ℕ)
    → ArePlaces (shown es) places → is_some (place places x.now) ≡ false → more ≡ es ++ (x, a) ∷ [] → shown more ≡ put (shown es) x.now a
put_shown {A} es more x a places is none grown =
    let absent = not_found (shown es) places x.now is (none_there (place places x.now) none) in
    ap shown grown ∙ append_shown es (x, a) ∙ sym (ap (λ o. cond (is_some o) (shown es) (shown es ++ (x.now, a) ∷ [])) absent)

pub pop_placed : {A : Type 0} (es less : List (Bor (List ℕ) × A)) (e : Bor (List ℕ) × A) (old new : BTreeMap (Bor (List ℕ)) ℕ)
    → ArePlaces (shown es) old → es ≡ less ++ e ∷ [] → Changes old new e.0.now None → ArePlaces (shown less) new
pop_placed {A} es less e old new is cut changes =
    placed_less (shown less) e.0.now e.1 old new (subst (λ (t : Table A). ArePlaces t old) (ap shown cut ∙ append_shown less e) is)
    (btree_map_updates_str e.0.now old new None changes)

pub pop_shown : {A : Type 0} (n : ℕ) (es less : List (Bor (List ℕ) × A)) (e : Bor (List ℕ) × A) → n ≤ length less → es ≡ less ++ e ∷ []
    → take n (shown less) ≡ take n (shown es)
pop_shown {A} n es less e h cut =
    let within : n ≤ length (shown less) = subst (λ m. n ≤ m) (sym (length-map less (λ d. (d.0.now, d.1)))) h in
    sym (ap (take n) (ap shown cut ∙ append_shown less e) ∙ take-append-le n (shown less) ((e.0.now, e.1) ∷ []) within)

-- ---- the names of a table

abbrev pub names : {A : Type 0} → Table A → List (List ℕ)
names t = map (λ e. e.0) t

-- as the code has them
abbrev pub listed : {A : Type 0} → List (Bor (List ℕ) × A) → List (List ℕ)
listed es = map (λ e. e.0.now) es

pub listed_names : {A : Type 0} (es : List (Bor (List ℕ) × A)) → listed es ≡ names (shown es)
listed_names [] = refl
listed_names (e ∷ es) = ap (λ r. e.0.now ∷ r) (listed_names es)

pub has_names : {A : Type 0} (t : Table A) (x : List ℕ) → is_some (find t x) ≡ has (names t) x
has_names [] x = refl
has_names {A} (e ∷ es) x = go (is_text x e.0) (has_names es x)
  where
    go : (b : Bool) → is_some (find es x) ≡ has (names es) x → is_some (cond b (Some e.1) (find es x)) ≡ (b || has (names es) x)
    go true h = refl
    go false h = h

append_names : {A : Type 0} (t : Table A) (e : List ℕ × A) → names (t ++ e ∷ []) ≡ names t ++ e.0 ∷ []
append_names [] e = refl
append_names (d ∷ t) e = ap (λ r. d.0 ∷ r) (append_names t e)

pub put_names : {A : Type 0} (t : Table A) (x : List ℕ) (a : A) → names (put t x a) ≡ put_text (names t) x
put_names {A} t x a = go (is_some (find t x)) (has_names t x)
  where
    go : (b : Bool) → b ≡ has (names t) x → names (cond b t (t ++ (x, a) ∷ [])) ≡ put_text (names t) x
    go true h = ap (λ c. cond c (names t) (names t ++ x ∷ [])) h
    go false h = append_names t (x, a) ∙ ap (λ c. cond c (names t) (names t ++ x ∷ [])) h

none_less : (n : ℕ) → nat_lt n n ≡ false
none_less n = search rules

longer : {A : Type 0} (xs : List A) (y : A) → nat_lt (length xs) (length (xs ++ y ∷ [])) ≡ true
longer xs y = let more = length_push xs y in grind arith

pub put_grows : {A : Type 0} (t : Table A) (x : List ℕ) (a : A) → nat_lt (length t) (length (put t x a)) ≡ not (has (names t) x)
put_grows {A} t x a = go (is_some (find t x)) (has_names t x)
  where
    go : (b : Bool) → b ≡ has (names t) x → nat_lt (length t) (length (cond b t (t ++ (x, a) ∷ []))) ≡ not (has (names t) x)
    go true h = none_less (length t) ∙ ap not h
    go false h = longer t (x, a) ∙ ap not h

-- a table whose values are shown as others

abbrev pub valued : {A B : Type 0} → (A → B) → Table A → Table B
valued f table = map (λ e. (e.0, f e.1)) table

find_values : {A B : Type 0} (f : A → B) (table : Table A) (x : List ℕ) → is_some (find (valued f table) x) ≡ is_some (find table x)
find_values f [] x = refl
find_values {A} {B} f (e ∷ es) x = go (pointwise nat_eq x e.0) (find_values f es x)
  where
    go : (b : Bool) → is_some (find (valued f es) x) ≡ is_some (find es x)
        → is_some (cond b (Some (f e.1)) (find (valued f es) x)) ≡ is_some (cond b (Some e.1) (find es x))
    go true h = refl
    go false h = h

append_values : {A B : Type 0} (f : A → B) (table : Table A) (x : List ℕ) (a : A) → valued f (table ++ (x, a) ∷ []) ≡ valued f table ++ (x, f a) ∷ []
append_values f [] x a = refl
append_values {A} {B} f (e ∷ es) x a = let first : List ℕ × B = (e.0, f e.1) in ap (λ r. first ∷ r) (append_values f es x a)

pub put_values : {A B : Type 0} (f : A → B) (table : Table A) (x : List ℕ) (a : A) → map (λ e. (e.0, f e.1)) (put table x a) ≡ put (valued f table) x (f a)
put_values {A} {B} f table x a = go (is_some (find table x)) (find_values f table x)
  where
    go : (b : Bool) → is_some (find (valued f table) x) ≡ b → valued f (cond b table (table ++ (x, a) ∷ [])) ≡ put (valued f table) x (f a)
    go true h = sym (ap (λ c. cond c (valued f table) (valued f table ++ (x, f a) ∷ [])) h)
    go false h = append_values f table x a ∙ sym (ap (λ c. cond c (valued f table) (valued f table ++ (x, f a) ∷ [])) h)
