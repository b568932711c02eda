-- A body of `async` takes its free variables, each once, in the order of their first occurrences.
use Rattle.std.proofs.Common.{◌≡◌, ℕ, not, nat_lt, ◌≤◌, Bool, true, false, List, ◌∷◌, ◌++◌, length, Option, Some, None, refl, sym, ap, ◌∙◌, subst}
use Rattle.std.proofs.lemmas.Bool.{ltb-false, le-ltb}
use Rattle.xk_tree.specs.Tree.{Word, Statement, Statements, More, Block, If, IfElse, For, Async, Finish, MethodValue, TreeValue}
use Rattle.xk_names.specs.declared.binding.Known.{Known}
use Rattle.xk_names.specs.declared.binding.NameKind.{NameKind}
use Rattle.xk_names.specs.declared.binding.NameKind.TheVariants as kind
use Rattle.xk_names.specs.Scope.{find, Has, Scope}
use Rattle.xk_names.specs.Uses.{signatures, uses, declares, clocks_listed}
use Rattle.xk_names.specs.Places.{Way, Here, First, Later, Inside, Else, Stands, StandsAmong, behind}
use Rattle.xk_names.specs.Faults.{Breaks, scope_in, InBody}
use Rattle.xk_names.specs.WellScoped.{with_all, with_body, method_scope}
use Rattle.xk_names.specs.Captures.{shared_texts, outer_words}
use Rattle.xk_names.specs.FreeVariables.{Body, onward, way_in, scope_of, Occurrence, IsFree, OccursFree, captured, HasNoNameFault, TakesFree, TakesOnce, TakesInOrder}
use Rattle.xk_names.proofs.MethodFaultLemmas.{scope_at, scope_among, among_once}
use Rattle.xk_names.proofs.TreeFaultLemmas.{seen_at}
use Rattle.xk_names.proofs.WellScopedLaw.{Unbroken, sound_alone, sound_inside}
use Rattle.xk_names.proofs.FreeUseLemmas.{is_outer_kind, is_outer}
use Rattle.xk_names.proofs.FreeStatementLemmas.{free_words, free_same}
use Rattle.xk_names.proofs.FreeBodyStartLemmas.{told_there}
use Rattle.xk_names.proofs.TextSetLemmas.{from_texts, put_in, from_put, put_once, was_put}
use Rattle.xk_names.proofs.FreePlaceLemmas.{Takes, Place, listed, Leads, leads}

-- ---- from the end of one way on another

mutual
  stands_at : (s : Statement) (w v : Way) (t u : Statement) → Stands s w t → Stands s (onward w v) u ≡ Stands t v u
  stands_at s Here v t u st = ap (λ (k : Statement). Stands k v u) st
  stands_at (Block close ss) (Inside w) v t u st = stands_among ss w v t u st
  stands_at (If at l c r s) (Inside w) v t u st = stands_at s w v t u st
  stands_at (IfElse at l c r s o) (Inside w) v t u st = stands_at s w v t u st
  stands_at (IfElse at l c r s o) (Else w) v t u st = stands_at o w v t u st
  stands_at (For at i lo b s) (Inside w) v t u st = stands_at s w v t u st
  stands_at (Async at cs s) (Inside w) v t u st = stands_at s w v t u st
  stands_at (Finish at s) (Inside w) v t u st = stands_at s w v t u st
  stands_at _ _ v t u st = absurd st

  stands_among : (ss : Statements) (w v : Way) (t u : Statement) → StandsAmong ss w t → StandsAmong ss (onward w v) u ≡ Stands t v u
  stands_among (More s ss) (First w) v t u st = stands_at s w v t u st
  stands_among (More s ss) (Later w) v t u st = stands_among ss w v t u st
  stands_among _ _ v t u st = absurd st

mutual
  scope_on : (sc : Scope) (s : Statement) (w v : Way) (t : Statement) → Stands s w t → scope_at sc s (onward w v) ≡ scope_at (scope_at sc s w) t v
  scope_on sc s Here v t st = ap (λ (k : Statement). scope_at sc k v) st
  scope_on sc (Block close ss) (Inside w) v t st = scope_on_among sc ss w v t st
  scope_on sc (If at l c r s) (Inside w) v t st = scope_on sc s w v t st
  scope_on sc (IfElse at l c r s o) (Inside w) v t st = scope_on sc s w v t st
  scope_on sc (IfElse at l c r s o) (Else w) v t st = scope_on sc o w v t st
  scope_on sc (For at i lo b s) (Inside w) v t st = scope_on (with_all sc (declares (length sc.bodies) (For at i lo b s))) s w v t st
  scope_on sc (Async at cs s) (Inside w) v t st = scope_on (with_body sc (clocks_listed cs)) s w v t st
  scope_on sc (Finish at s) (Inside w) v t st = scope_on sc s w v t st
  scope_on sc _ _ v t st = absurd st

  scope_on_among : (sc : Scope) (ss : Statements) (w v : Way) (t : Statement) → StandsAmong ss w t → scope_among sc ss (onward w v) ≡ scope_at (scope_among sc ss w) t v
  scope_on_among sc (More s ss) (First w) v t st = scope_on sc s w v t st
  scope_on_among sc (More s ss) (Later w) v t st = scope_on_among (with_all sc (behind (length sc.bodies) s)) ss w v t st
  scope_on_among sc _ _ v t st = absurd st

-- ---- a body, and what its places see

abbrev around : (t : TreeValue) → Body t → Scope
around t b = scope_among (method_scope t b.method) b.method.body b.way

abbrev depth : (t : TreeValue) → Body t → ℕ
depth t b = length (around t b).bodies

abbrev within : (t : TreeValue) → Body t → Scope
within t b = with_body (around t b) (clocks_listed b.clocks)

seen : (t : TreeValue) (m : MethodValue) (w : Way) → scope_among (method_scope t m) m.body w ≡ scope_in t m w
seen t m w = among_once (method_scope t m) m.body w ∙ seen_at t m w

same_scope : (t : TreeValue) (b : Body t) (v : Way) → scope_at (within t b) b.statement v ≡ scope_of t b v
same_scope t b v =
    sym (scope_on_among (method_scope t b.method) b.method.body b.way (Inside v) (Async b.at b.clocks b.statement) b.stands) ∙ seen t b.method (way_in t b v)

same_stands : (t : TreeValue) (b : Body t) (v : Way) (s : Statement) → StandsAmong b.method.body (way_in t b v) s ≡ Stands b.statement v s
same_stands t b v s = stands_among b.method.body b.way (Inside v) (Async b.at b.clocks b.statement) s b.stands

same_depth : (t : TreeValue) (b : Body t) → depth t b ≡ length (scope_in t b.method b.way).bodies
same_depth t b = ap (λ (k : Scope). length k.bodies) (seen t b.method b.way)

-- ---- what a body without faults takes

unbroken : (t : TreeValue) → HasNoNameFault t → (b : Body t) (v : Way) (s : Statement) → Stands b.statement v s
    → Unbroken (signatures t.methods) (scope_at (within t b) b.statement v) s
unbroken t clean b v s st f broken =
    clean f (InBody b.method b.there (record {
      way = way_in t b v;
      statement = s;
      stands = subst (λ (k : Type 0). k) (sym (same_stands t b v s)) st;
      breaks = subst (λ (k : Scope). Breaks (signatures t.methods) k s f) (same_scope t b v) broken;
    }))

taken_same : (t : TreeValue) → HasNoNameFault t → (b : Body t)
    → outer_words (signatures t.methods) (shared_texts t.shared) b.statement ≡ free_words (signatures t.methods) (depth t b) (within t b) b.statement
taken_same t clean b =
    free_same (signatures t.methods) (depth t b) (within t b) (shared_texts t.shared) b.statement (told_there t b.method b.way (clocks_listed b.clocks))
    (sound_alone (signatures t.methods) (within t b) b.statement (unbroken t clean b Here b.statement refl))
    (sound_inside (signatures t.methods) (within t b) b.statement (unbroken t clean b))

-- ---- uses that mean a number from outside, and free occurrences

outer_parts : (n : ℕ) (o : Option Known) → is_outer n o ≡ true → (k : Known) × (o ≡ Some k) × (k.kind ≡ kind.Val) × (k.depth ≤ n)
outer_parts n None h = absurd cc
outer_parts n (Some k) h = let r = go k.kind (nat_lt n k.depth) refl h in (k, refl, r.0, ltb-false n k.depth r.1)
  where
    go : (d : NameKind) (b : Bool) → nat_lt n k.depth ≡ b → is_outer_kind d b ≡ true → (d ≡ kind.Val) × (nat_lt n k.depth ≡ false)
    go kind.Val false e g = (refl, e)
    go kind.Val true e g = absurd cc
    go kind.Var b e g = absurd cc
    go kind.Shared b e g = absurd cc
    go kind.Clock b e g = absurd cc

outer_from : (n : ℕ) (o : Option Known) (k : Known) → o ≡ Some k → k.kind ≡ kind.Val → k.depth ≤ n → is_outer n o ≡ true
outer_from n o k e val le =
    ap (is_outer n) e ∙ ap (λ d. is_outer_kind d (nat_lt n k.depth)) val ∙ ap not (le-ltb n k.depth le)

abbrev occurrence : (t : TreeValue) (b : Body t) → Place (signatures t.methods) (depth t b) (within t b) b.statement → Occurrence t b
occurrence t b p = record {
  way = p.way;
  statement = p.statement;
  stands = subst (λ (k : Type 0). k) (sym (same_stands t b p.way p.statement)) p.stands;
  before = p.before;
  used = p.used;
  after = p.after;
  uses_are = subst (λ (k : Scope). uses (signatures t.methods) k.names p.statement ≡ p.before ++ p.used ∷ p.after) (same_scope t b p.way) p.takes.among;
}

occurs_free : (t : TreeValue) (b : Body t) (p : Place (signatures t.methods) (depth t b) (within t b) b.statement) → IsFree t b (occurrence t b p)
occurs_free t b p =
    let there = subst (λ (k : Scope). is_outer (depth t b) (find k.names p.used.name.text) ≡ true) (same_scope t b p.way) p.takes.outer in
    let r = outer_parts (depth t b) (find (scope_of t b p.way).names p.used.name.text) there in
    record { known = r.0; means = r.1; stays = r.2; outside = subst (λ n. r.0.depth ≤ n) (same_depth t b) r.3 }

abbrev place_of : (t : TreeValue) (b : Body t) (o : Occurrence t b) → IsFree t b o → Place (signatures t.methods) (depth t b) (within t b) b.statement
place_of t b o free = record {
  way = o.way;
  statement = o.statement;
  stands = subst (λ (k : Type 0). k) (same_stands t b o.way o.statement) o.stands;
  before = o.before;
  used = o.used;
  after = o.after;
  takes = subst (λ (k : Scope). Takes (signatures t.methods) (depth t b) k o.statement o.before o.used o.after) (sym (same_scope t b o.way)) (record {
    among = o.uses_are;
    outer = outer_from (depth t b) (find (scope_of t b o.way).names o.used.name.text) free.known free.means free.stays
        (subst (λ n. free.known.depth ≤ n) (sym (same_depth t b)) free.outside);
  });
}

-- ---- the laws

leads_there : (t : TreeValue) → HasNoNameFault t → (b : Body t) (front : List Word) (w : Word) (back : List Word)
    → outer_words (signatures t.methods) (shared_texts t.shared) b.statement ≡ front ++ w ∷ back
    → Leads (signatures t.methods) (depth t b) (within t b) b.statement front w
leads_there t clean b front w back e = leads (signatures t.methods) (depth t b) (within t b) b.statement front w back (sym (taken_same t clean b) ∙ e)

pub takes_free : TakesFree
takes_free t clean b x = (taken, given)
  where
    taken : Has (captured t b) x → OccursFree t b x
    taken h =
        let r = from_texts (outer_words (signatures t.methods) (shared_texts t.shared) b.statement) x
        (from_put (outer_words (signatures t.methods) (shared_texts t.shared) b.statement) x h) in
        let led = leads_there t clean b r.0 r.1.0 r.1.1.0 r.1.1.1 in
        record { place = occurrence t b led.place; free = occurs_free t b led.place; name = ap (λ (k : Word). k.text) led.name ∙ r.1.1.2 }

    given : OccursFree t b x → Has (captured t b) x
    given o =
        let p = place_of t b o.place o.free in
        let there = listed (signatures t.methods) (depth t b) (within t b) b.statement p.way p.statement p.before p.used p.after p.stands p.takes in
        subst (λ k. Has (captured t b) k) o.name
        (put_in (outer_words (signatures t.methods) (shared_texts t.shared) b.statement) o.place.used.name
        (subst (λ k. Has k o.place.used.name) (sym (taken_same t clean b)) there))

pub takes_once : TakesOnce
takes_once ms shared s = put_once (outer_words ms shared s)

pub takes_in_order : TakesInOrder
takes_in_order t clean b before x after e =
    let r = was_put (outer_words (signatures t.methods) (shared_texts t.shared) b.statement) before x after e in
    let led = leads_there t clean b r.front r.word r.back r.stands in
    record {
      first = record { place = occurrence t b led.place; free = occurs_free t b led.place; name = ap (λ (k : Word). k.text) led.name ∙ r.name };
      earlier = λ o free sooner. r.put_before o.used.name (led.earlier (place_of t b o free) sooner);
    }
