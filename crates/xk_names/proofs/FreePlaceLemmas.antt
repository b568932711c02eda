-- The list of what is taken within a statement, place by place: each use that means a number from outside is in it, and each word of it has a use
-- before which only words that stand in front of it are used so.
use Rattle.std.proofs.Common.{◌≡◌, ◌⊎◌, inl, inr, ℕ, suc, ◌<◌, Bool, true, false, cond, List, [], ◌∷◌, ◌++◌, length, refl, sym, ap, ◌∙◌, subst, arith}
use Rattle.xk_types.specs.declared.instr.Comparison.{Comparison}
use Rattle.xk_tree.specs.Tree.{Word, Expression, Statement, Statements, Done, More, Block, If, IfElse, For, Async, Finish}
use Rattle.xk_names.specs.declared.binding.Known.{Known}
use Rattle.xk_names.specs.Scope.{Table, find, Has, Scope}
use Rattle.xk_names.specs.Uses.{Use, Signatures, uses, declares, clocks_listed}
use Rattle.xk_names.specs.Places.{Way, Here, First, Later, Inside, Else, Stands, StandsAmong, behind}
use Rattle.xk_names.specs.WellScoped.{with_all, with_body}
use Rattle.xk_names.specs.FreeVariables.{StandsBefore}
use Rattle.xk_names.proofs.MembershipLemmas.{has_left, has_right}
use Rattle.xk_names.proofs.MethodFaultLemmas.{scope_at, scope_among}
use Rattle.xk_names.proofs.FreeUseLemmas.{is_outer, free_of}
use Rattle.xk_names.proofs.FreeStatementLemmas.{free_inside, free_among, free_words}

-- the use behind these of a statement's, which means a number from outside
pub record Takes (ms : Signatures) (n : ℕ) (sc : Scope) (t : Statement) (before : List Use) (used : Use) (after : List Use) : Type 0 where
  pub among : uses ms sc.names t ≡ before ++ used ∷ after
  pub outer : is_outer n (find sc.names used.name.text) ≡ true

-- such a use of some statement
pub record Place (ms : Signatures) (n : ℕ) (sc : Scope) (s : Statement) : Type 0 where
  pub way : Way
  pub statement : Statement
  pub stands : Stands s way statement
  pub before : List Use
  pub used : Use
  pub after : List Use
  pub takes : Takes ms n (scope_at sc s way) statement before used after

pub record PlaceAmong (ms : Signatures) (n : ℕ) (sc : Scope) (ss : Statements) : Type 0 where
  pub way : Way
  pub statement : Statement
  pub stands : StandsAmong ss way statement
  pub before : List Use
  pub used : Use
  pub after : List Use
  pub takes : Takes ms n (scope_among sc ss way) statement before used after

-- ---- each is in the list

use_listed : (n : ℕ) (names : Table Known) (before : List Use) (u : Use) (after : List Use) → is_outer n (find names u.name.text) ≡ true
    → Has (free_of n names (before ++ u ∷ after)) u.name
use_listed n names [] u after outer =
    subst (λ b. Has (cond b (u.name ∷ []) [] ++ free_of n names after) u.name) (sym outer) (inl refl)
use_listed n names (v ∷ before) u after outer =
    has_right (cond (is_outer n (find names v.name.text)) (v.name ∷ []) []) (free_of n names (before ++ u ∷ after)) u.name (use_listed n names before u after outer)

own_listed : (ms : Signatures) (n : ℕ) (sc : Scope) (t : Statement) (before : List Use) (u : Use) (after : List Use) → Takes ms n sc t before u after
    → Has (free_of n sc.names (uses ms sc.names t)) u.name
own_listed ms n sc t before u after h =
    subst (λ k. Has (free_of n sc.names k) u.name) (sym h.among) (use_listed n sc.names before u after h.outer)

here_listed : (ms : Signatures) (n : ℕ) (sc : Scope) (s t : Statement) (before : List Use) (u : Use) (after : List Use) → s ≡ t → Takes ms n sc t before u after
    → Has (free_of n sc.names (uses ms sc.names s)) u.name
here_listed ms n sc s t before u after st h = subst (λ (k : Statement). Has (free_of n sc.names (uses ms sc.names k)) u.name) (sym st) (own_listed ms n sc t before u after h)

mutual
  pub listed : (ms : Signatures) (n : ℕ) (sc : Scope) (s : Statement) (w : Way) (t : Statement) (before : List Use) (u : Use) (after : List Use) → Stands s w t
      → Takes ms n (scope_at sc s w) t before u after → Has (free_words ms n sc s) u.name
  listed ms n sc s Here t before u after st h =
      has_left (free_of n sc.names (uses ms sc.names s)) (free_inside ms n sc s) u.name (here_listed ms n sc s t before u after st h)
  listed ms n sc (Block close ss) (Inside w) t before u after st h = listed_among ms n sc ss w t before u after st h
  listed ms n sc (If at l c r s) (Inside w) t before u after st h =
      has_right (free_of n sc.names (uses ms sc.names (If at l c r s))) (free_words ms n sc s) u.name (listed ms n sc s w t before u after st h)
  listed ms n sc (IfElse at l c r s o) (Inside w) t before u after st h =
      has_right (free_of n sc.names (uses ms sc.names (IfElse at l c r s o))) (free_words ms n sc s ++ free_words ms n sc o) u.name
      (has_left (free_words ms n sc s) (free_words ms n sc o) u.name (listed ms n sc s w t before u after st h))
  listed ms n sc (IfElse at l c r s o) (Else w) t before u after st h =
      has_right (free_of n sc.names (uses ms sc.names (IfElse at l c r s o))) (free_words ms n sc s ++ free_words ms n sc o) u.name
      (has_right (free_words ms n sc s) (free_words ms n sc o) u.name (listed ms n sc o w t before u after st h))
  listed ms n sc (For at i lo b s) (Inside w) t before u after st h =
      let there = with_all sc (declares (length sc.bodies) (For at i lo b s)) in
      has_right (free_of n sc.names (uses ms sc.names (For at i lo b s))) (free_words ms n there s) u.name (listed ms n there s w t before u after st h)
  listed ms n sc (Async at cs s) (Inside w) t before u after st h =
      let there = with_body sc (clocks_listed cs) in
      has_right (free_of n sc.names (uses ms sc.names (Async at cs s))) (free_words ms n there s) u.name (listed ms n there s w t before u after st h)
  listed ms n sc (Finish at s) (Inside w) t before u after st h = listed ms n sc s w t before u after st h
  listed ms n sc _ _ t before u after st h = absurd st

  listed_among : (ms : Signatures) (n : ℕ) (sc : Scope) (ss : Statements) (w : Way) (t : Statement) (before : List Use) (u : Use) (after : List Use)
      → StandsAmong ss w t → Takes ms n (scope_among sc ss w) t before u after → Has (free_among ms n sc ss) u.name
  listed_among ms n sc (More s ss) (First w) t before u after st h =
      has_left (free_words ms n sc s) (free_among ms n (with_all sc (behind (length sc.bodies) s)) ss) u.name (listed ms n sc s w t before u after st h)
  listed_among ms n sc (More s ss) (Later w) t before u after st h =
      let there = with_all sc (behind (length sc.bodies) s) in
      has_right (free_words ms n sc s) (free_among ms n there ss) u.name (listed_among ms n there ss w t before u after st h)
  listed_among ms n sc _ _ t before u after st h = absurd st

-- ---- each word of the list has a first use

pub head_is : {A : Type 0} (x y : A) (xs ys : List A) → x ∷ xs ≡ y ∷ ys → (x ≡ y) × (xs ≡ ys)
head_is x y xs ys e = (ap (λ l. head_of x l) e, ap tail_of e)
  where
    head_of : {A : Type 0} → A → List A → A
    head_of d [] = d
    head_of d (z ∷ zs) = z

    tail_of : {A : Type 0} → List A → List A
    tail_of [] = []
    tail_of (z ∷ zs) = zs

-- where two lists are joined, an element is of the one or of the other
pub split : {A : Type 0} (xs ys front : List A) (x : A) (back : List A) → xs ++ ys ≡ front ++ x ∷ back
    → ((rest : List A) × (xs ≡ front ++ x ∷ rest)) ⊎ ((more : List A) × (front ≡ xs ++ more) × (ys ≡ more ++ x ∷ back))
split [] ys front x back e = inr (front, refl, e)
split (z ∷ xs) ys [] x back e = let r = head_is z x (xs ++ ys) back e in inl (xs, ap (λ k. k ∷ xs) r.0)
split (z ∷ xs) ys (f ∷ front) x back e =
    let r = head_is z f (xs ++ ys) (front ++ x ∷ back) e in
    elim (split xs ys front x back r.1) [
      | inl a ↦ inl (a.0, ap (λ k. k ∷ xs) r.0 ∙ ap (λ k. f ∷ k) a.1)
      | inr b ↦ inr (b.0, (ap (λ k. k ∷ front) (sym r.0) ∙ ap (λ k. z ∷ k) b.1), b.2)
    ]

-- a use with that name, before which only words in front are used
pub record Leads (ms : Signatures) (n : ℕ) (sc : Scope) (s : Statement) (front : List Word) (x : Word) : Type 0 where
  pub place : Place ms n sc s
  pub name : place.used.name ≡ x
  pub earlier : (q : Place ms n sc s) → StandsBefore q.way (length q.before) place.way (length place.before) → Has front q.used.name

pub record LeadsAmong (ms : Signatures) (n : ℕ) (sc : Scope) (ss : Statements) (front : List Word) (x : Word) : Type 0 where
  pub place : PlaceAmong ms n sc ss
  pub name : place.used.name ≡ x
  pub earlier : (q : PlaceAmong ms n sc ss) → StandsBefore q.way (length q.before) place.way (length place.before) → Has front q.used.name

-- the same among the uses of one statement
record LeadsOwn (n : ℕ) (names : Table Known) (us : List Use) (front : List Word) (x : Word) : Type 0 where
  before : List Use
  used : Use
  after : List Use
  among : us ≡ before ++ used ∷ after
  outer : is_outer n (find names used.name.text) ≡ true
  name : used.name ≡ x
  earlier : (ts : List Use) (u : Use) (vs : List Use) → us ≡ ts ++ u ∷ vs → is_outer n (find names u.name.text) ≡ true → length ts < length before
      → Has front u.name

-- one use more before them, which is in front if it means a number from outside
own_more : (n : ℕ) (names : Table Known) (v : Use) (us : List Use) (front more : List Word) (x : Word)
    → (is_outer n (find names v.name.text) ≡ true → Has more v.name) → ((w : Word) → Has front w → Has more w) → LeadsOwn n names us front x → LeadsOwn n names (v ∷ us) more x
own_more n names v us front more x first others r = record {
  before = v ∷ r.before;
  used = r.used;
  after = r.after;
  among = ap (λ k. v ∷ k) r.among;
  outer = r.outer;
  name = r.name;
  earlier = go;
}
  where
    go : (ts : List Use) (u : Use) (vs : List Use) → v ∷ us ≡ ts ++ u ∷ vs → is_outer n (find names u.name.text) ≡ true → length ts < suc (length r.before) → Has more u.name
    go [] u vs e outer lt =
        let h = head_is v u us vs e in
        subst (λ (k : Use). Has more k.name) h.0 (first (subst (λ (k : Use). is_outer n (find names k.name.text) ≡ true) (sym h.0) outer))
    go (t ∷ ts) u vs e outer lt =
        let h = head_is v t us (ts ++ u ∷ vs) e in
        let less : length ts < length r.before = omega (arith, lt) in
        others u.name (r.earlier ts u vs h.1 outer less)

own_leads : (n : ℕ) (names : Table Known) (us : List Use) (front : List Word) (x : Word) (back : List Word) → free_of n names us ≡ front ++ x ∷ back → LeadsOwn n names us front x
own_leads n names [] [] x back e = absurd cc
own_leads n names [] (f ∷ front) x back e = absurd cc
own_leads n names (v ∷ us) front x back e = go (is_outer n (find names v.name.text)) refl front e (λ more g. own_leads n names us more x back g)
  where
    go : (b : Bool) → is_outer n (find names v.name.text) ≡ b → (front : List Word) → cond b (v.name ∷ []) [] ++ free_of n names us ≡ front ++ x ∷ back
        → ((more : List Word) → free_of n names us ≡ more ++ x ∷ back → LeadsOwn n names us more x) → LeadsOwn n names (v ∷ us) front x
    go false no_way front g later =
        own_more n names v us front front x (λ o. let never : true ≡ false = sym o ∙ no_way in absurd cc) (λ w h. h) (later front g)
    go true is [] g later = record {
      before = [];
      used = v;
      after = us;
      among = refl;
      outer = is;
      name = (head_is v.name x (free_of n names us) back g).0;
      earlier = λ ts u vs h outer lt. absurd (omega (arith, lt));
    }
    go true is (f ∷ front) g later =
        let r = head_is v.name f (free_of n names us) (front ++ x ∷ back) g in
        own_more n names v us front (f ∷ front) x (λ o. inl r.0) (λ w h. inr h) (later front r.1)

-- what a statement itself uses
here_leads : (ms : Signatures) (n : ℕ) (sc : Scope) (s : Statement) (front : List Word) (x : Word) → LeadsOwn n sc.names (uses ms sc.names s) front x → Leads ms n sc s front x
here_leads ms n sc s front x r = record {
  place = record {
    way = Here;
    statement = s;
    stands = refl;
    before = r.before;
    used = r.used;
    after = r.after;
    takes = record { among = r.among; outer = r.outer };
  };
  name = r.name;
  earlier = λ q. go q.way q.statement q.stands q.before q.used q.after q.takes;
}
  where
    go : (w : Way) (t : Statement) → Stands s w t → (ts : List Use) (u : Use) (vs : List Use) → Takes ms n (scope_at sc s w) t ts u vs
        → StandsBefore w (length ts) Here (length r.before) → Has front u.name
    go Here t st ts u vs h lt = r.earlier ts u vs (ap (λ (k : Statement). uses ms sc.names k) st ∙ h.among) h.outer lt
    go (First w) t st ts u vs h lt = absurd lt
    go (Later w) t st ts u vs h lt = absurd lt
    go (Inside w) t st ts u vs h lt = absurd lt
    go (Else w) t st ts u vs h lt = absurd lt

-- what a statement that is held uses, behind what its holder itself does
held_leads : (ms : Signatures) (n : ℕ) (sc there : Scope) (holder s : Statement) → ((w : Way) → scope_at sc holder (Inside w) ≡ scope_at there s w)
    → ((w : Way) (t : Statement) → Stands holder (Inside w) t ≡ Stands s w t) → (front : List Word) (x : Word) → Leads ms n there s front x
    → Leads ms n sc holder (free_of n sc.names (uses ms sc.names holder) ++ front) x
held_leads ms n sc there holder s scope stand front x r = record {
  place = record {
    way = Inside r.place.way;
    statement = r.place.statement;
    stands = subst (λ (k : Type 0). k) (sym (stand r.place.way r.place.statement)) r.place.stands;
    before = r.place.before;
    used = r.place.used;
    after = r.place.after;
    takes = subst (λ (k : Scope). Takes ms n k r.place.statement r.place.before r.place.used r.place.after) (sym (scope r.place.way)) r.place.takes;
  };
  name = r.name;
  earlier = λ q. go q.way q.statement q.stands q.before q.used q.after q.takes;
}
  where
    go : (w : Way) (t : Statement) → Stands holder w t → (ts : List Use) (u : Use) (vs : List Use) → Takes ms n (scope_at sc holder w) t ts u vs
        → StandsBefore w (length ts) (Inside r.place.way) (length r.place.before) → Has (free_of n sc.names (uses ms sc.names holder) ++ front) u.name
    go Here t st ts u vs h lt = has_left (free_of n sc.names (uses ms sc.names holder)) front u.name (here_listed ms n sc holder t ts u vs st h)
    go (Inside w) t st ts u vs h lt =
        has_right (free_of n sc.names (uses ms sc.names holder)) front u.name (r.earlier (record {
          way = w;
          statement = t;
          stands = subst (λ (k : Type 0). k) (stand w t) st;
          before = ts;
          used = u;
          after = vs;
          takes = subst (λ (k : Scope). Takes ms n k t ts u vs) (scope w) h;
        }) lt)
    go (First w) t st ts u vs h lt = absurd lt
    go (Later w) t st ts u vs h lt = absurd lt
    go (Else w) t st ts u vs h lt = absurd lt

-- the same behind `else`
else_leads : (ms : Signatures) (n : ℕ) (sc : Scope) (at : ℕ) (l : Expression) (c : Comparison) (r : Expression) (s o : Statement) (more : List Word) (x : Word)
    → Leads ms n sc o more x
    → Leads ms n sc (IfElse at l c r s o) (free_of n sc.names (uses ms sc.names (IfElse at l c r s o)) ++ (free_words ms n sc s ++ more)) x
else_leads ms n sc at l c r s o more x led = record {
  place = record {
    way = Else led.place.way;
    statement = led.place.statement;
    stands = led.place.stands;
    before = led.place.before;
    used = led.place.used;
    after = led.place.after;
    takes = led.place.takes;
  };
  name = led.name;
  earlier = λ q. go q.way q.statement q.stands q.before q.used q.after q.takes;
}
  where
    go : (w : Way) (t : Statement) → Stands (IfElse at l c r s o) w t → (ts : List Use) (u : Use) (vs : List Use) → Takes ms n (scope_at sc (IfElse at l c r s o) w) t ts u vs
        → StandsBefore w (length ts) (Else led.place.way) (length led.place.before)
        → Has (free_of n sc.names (uses ms sc.names (IfElse at l c r s o)) ++ (free_words ms n sc s ++ more)) u.name
    go Here t st ts u vs h lt =
        has_left (free_of n sc.names (uses ms sc.names (IfElse at l c r s o))) (free_words ms n sc s ++ more) u.name
        (here_listed ms n sc (IfElse at l c r s o) t ts u vs st h)
    go (Inside w) t st ts u vs h lt =
        has_right (free_of n sc.names (uses ms sc.names (IfElse at l c r s o))) (free_words ms n sc s ++ more) u.name
        (has_left (free_words ms n sc s) more u.name (listed ms n sc s w t ts u vs st h))
    go (Else w) t st ts u vs h lt =
        has_right (free_of n sc.names (uses ms sc.names (IfElse at l c r s o))) (free_words ms n sc s ++ more) u.name
        (has_right (free_words ms n sc s) more u.name
        (led.earlier (record { way = w; statement = t; stands = st; before = ts; used = u; after = vs; takes = h }) lt))
    go (First w) t st ts u vs h lt = absurd lt
    go (Later w) t st ts u vs h lt = absurd lt

-- statements in a block
block_leads : (ms : Signatures) (n : ℕ) (sc : Scope) (close : ℕ) (ss : Statements) (front : List Word) (x : Word) → LeadsAmong ms n sc ss front x
    → Leads ms n sc (Block close ss) front x
block_leads ms n sc close ss front x r = record {
  place = record {
    way = Inside r.place.way;
    statement = r.place.statement;
    stands = r.place.stands;
    before = r.place.before;
    used = r.place.used;
    after = r.place.after;
    takes = r.place.takes;
  };
  name = r.name;
  earlier = λ q. go q.way q.statement q.stands q.before q.used q.after q.takes;
}
  where
    go : (w : Way) (t : Statement) → Stands (Block close ss) w t → (ts : List Use) (u : Use) (vs : List Use) → Takes ms n (scope_at sc (Block close ss) w) t ts u vs
        → StandsBefore w (length ts) (Inside r.place.way) (length r.place.before) → Has front u.name
    go Here t st ts u vs h lt = absurd (here_listed ms n sc (Block close ss) t ts u vs st h)
    go (Inside w) t st ts u vs h lt = r.earlier (record { way = w; statement = t; stands = st; before = ts; used = u; after = vs; takes = h }) lt
    go (Else w) t st ts u vs h lt = absurd lt
    go (First w) t st ts u vs h lt = absurd lt
    go (Later w) t st ts u vs h lt = absurd lt

-- the first of some statements
first_leads : (ms : Signatures) (n : ℕ) (sc : Scope) (s : Statement) (ss : Statements) (front : List Word) (x : Word) → Leads ms n sc s front x
    → LeadsAmong ms n sc (More s ss) front x
first_leads ms n sc s ss front x r = record {
  place = record {
    way = First r.place.way;
    statement = r.place.statement;
    stands = r.place.stands;
    before = r.place.before;
    used = r.place.used;
    after = r.place.after;
    takes = r.place.takes;
  };
  name = r.name;
  earlier = λ q. go q.way q.statement q.stands q.before q.used q.after q.takes;
}
  where
    go : (w : Way) (t : Statement) → StandsAmong (More s ss) w t → (ts : List Use) (u : Use) (vs : List Use) → Takes ms n (scope_among sc (More s ss) w) t ts u vs
        → StandsBefore w (length ts) (First r.place.way) (length r.place.before) → Has front u.name
    go (First w) t st ts u vs h lt = r.earlier (record { way = w; statement = t; stands = st; before = ts; used = u; after = vs; takes = h }) lt
    go (Later w) t st ts u vs h lt = absurd lt
    go Here t st ts u vs h lt = absurd st
    go (Inside w) t st ts u vs h lt = absurd st
    go (Else w) t st ts u vs h lt = absurd st

-- those behind it
later_leads : (ms : Signatures) (n : ℕ) (sc : Scope) (s : Statement) (ss : Statements) (more : List Word) (x : Word)
    → LeadsAmong ms n (with_all sc (behind (length sc.bodies) s)) ss more x → LeadsAmong ms n sc (More s ss) (free_words ms n sc s ++ more) x
later_leads ms n sc s ss more x r = record {
  place = record {
    way = Later r.place.way;
    statement = r.place.statement;
    stands = r.place.stands;
    before = r.place.before;
    used = r.place.used;
    after = r.place.after;
    takes = r.place.takes;
  };
  name = r.name;
  earlier = λ q. go q.way q.statement q.stands q.before q.used q.after q.takes;
}
  where
    go : (w : Way) (t : Statement) → StandsAmong (More s ss) w t → (ts : List Use) (u : Use) (vs : List Use) → Takes ms n (scope_among sc (More s ss) w) t ts u vs
        → StandsBefore w (length ts) (Later r.place.way) (length r.place.before) → Has (free_words ms n sc s ++ more) u.name
    go (First w) t st ts u vs h lt = has_left (free_words ms n sc s) more u.name (listed ms n sc s w t ts u vs st h)
    go (Later w) t st ts u vs h lt =
        has_right (free_words ms n sc s) more u.name (r.earlier (record { way = w; statement = t; stands = st; before = ts; used = u; after = vs; takes = h }) lt)
    go Here t st ts u vs h lt = absurd st
    go (Inside w) t st ts u vs h lt = absurd st
    go (Else w) t st ts u vs h lt = absurd st

pub nothing_left : {A : Type 0} (front : List A) (x : A) (back : List A) → [] ≡ front ++ x ∷ back → ⊥
nothing_left [] x back e = cc
nothing_left (f ∷ front) x back e = cc

or_leads : (ms : Signatures) (n : ℕ) (sc : Scope) (s : Statement) (front : List Word) (x : Word) (back : List Word)
    → ((more : List Word) → free_inside ms n sc s ≡ more ++ x ∷ back → Leads ms n sc s (free_of n sc.names (uses ms sc.names s) ++ more) x)
    → free_words ms n sc s ≡ front ++ x ∷ back → Leads ms n sc s front x
or_leads ms n sc s front x back later e =
    elim (split (free_of n sc.names (uses ms sc.names s)) (free_inside ms n sc s) front x back e) [
      | inl a ↦ here_leads ms n sc s front x (own_leads n sc.names (uses ms sc.names s) front x a.0 a.1)
      | inr b ↦ subst (λ k. Leads ms n sc s k x) (sym b.1) (later b.0 b.2)
    ]

mutual
  inside_leads : (ms : Signatures) (n : ℕ) (sc : Scope) (s : Statement) (more : List Word) (x : Word) (back : List Word) → free_inside ms n sc s ≡ more ++ x ∷ back
      → Leads ms n sc s (free_of n sc.names (uses ms sc.names s) ++ more) x
  inside_leads ms n sc (Block close ss) more x back e = block_leads ms n sc close ss more x (among_leads ms n sc ss more x back e)
  inside_leads ms n sc (If at l c r s) more x back e =
      held_leads ms n sc sc (If at l c r s) s (λ w. refl) (λ w t. refl) more x (or_leads ms n sc s more x back (λ k g. inside_leads ms n sc s k x back g) e)
  inside_leads ms n sc (IfElse at l c r s o) more x back e =
      elim (split (free_words ms n sc s) (free_words ms n sc o) more x back e) [
        | inl a ↦ held_leads ms n sc sc (IfElse at l c r s o) s (λ w. refl) (λ w t. refl) more x
            (or_leads ms n sc s more x a.0 (λ k g. inside_leads ms n sc s k x a.0 g) a.1)
        | inr b ↦ subst (λ k. Leads ms n sc (IfElse at l c r s o) (free_of n sc.names (uses ms sc.names (IfElse at l c r s o)) ++ k) x) (sym b.1)
            (else_leads ms n sc at l c r s o b.0 x (or_leads ms n sc o b.0 x back (λ k g. inside_leads ms n sc o k x back g) b.2))
      ]
  inside_leads ms n sc (For at i lo b s) more x back e =
      let there = with_all sc (declares (length sc.bodies) (For at i lo b s)) in
      held_leads ms n sc there (For at i lo b s) s (λ w. refl) (λ w t. refl) more x (or_leads ms n there s more x back (λ k g. inside_leads ms n there s k x back g) e)
  inside_leads ms n sc (Async at cs s) more x back e =
      let there = with_body sc (clocks_listed cs) in
      held_leads ms n sc there (Async at cs s) s (λ w. refl) (λ w t. refl) more x (or_leads ms n there s more x back (λ k g. inside_leads ms n there s k x back g) e)
  inside_leads ms n sc (Finish at s) more x back e =
      held_leads ms n sc sc (Finish at s) s (λ w. refl) (λ w t. refl) more x (or_leads ms n sc s more x back (λ k g. inside_leads ms n sc s k x back g) e)
  inside_leads ms n sc _ more x back e = absurd (nothing_left more x back e)

  among_leads : (ms : Signatures) (n : ℕ) (sc : Scope) (ss : Statements) (front : List Word) (x : Word) (back : List Word) → free_among ms n sc ss ≡ front ++ x ∷ back
      → LeadsAmong ms n sc ss front x
  among_leads ms n sc Done front x back e = absurd (nothing_left front x back e)
  among_leads ms n sc (More s ss) front x back e =
      let there = with_all sc (behind (length sc.bodies) s) in
      elim (split (free_words ms n sc s) (free_among ms n there ss) front x back e) [
        | inl a ↦ first_leads ms n sc s ss front x (or_leads ms n sc s front x a.0 (λ k g. inside_leads ms n sc s k x a.0 g) a.1)
        | inr b ↦ subst (λ k. LeadsAmong ms n sc (More s ss) k x) (sym b.1) (later_leads ms n sc s ss b.0 x (among_leads ms n there ss b.0 x back b.2))
      ]

pub leads : (ms : Signatures) (n : ℕ) (sc : Scope) (s : Statement) (front : List Word) (x : Word) (back : List Word) → free_words ms n sc s ≡ front ++ x ∷ back
    → Leads ms n sc s front x
leads ms n sc s front x back e = or_leads ms n sc s front x back (λ more g. inside_leads ms n sc s more x back g) e
