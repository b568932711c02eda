-- The faults of a method's body: those of the list are those that stand somewhere in it.
use Rattle.std.proofs.Common.{◌≡◌, inl, inr, ℕ, List, [], ◌∷◌, ◌++◌, length, refl, sym, ap, ◌∙◌, subst, append_assoc, append-nil}
use Rattle.xk_tree.specs.declared.fault.FrontFault.{FrontFault}
use Rattle.xk_tree.specs.Tree.{Statement, Statements, Done, More, Block, If, IfElse, For, Async, Finish}
use Rattle.xk_names.specs.declared.binding.Known.{Known}
use Rattle.xk_names.specs.Scope.{Table, Has, Declaration, entry, entries, Scope}
use Rattle.xk_names.specs.Uses.{Signatures, declares, clocks_listed}
use Rattle.xk_names.specs.Places.{Way, Here, First, Later, Inside, Else, Stands, StandsAmong, behind, declared_at, declared_among, Bodies, bodies_at, bodies_among}
use Rattle.xk_names.specs.Faults.{Breaks}
use Rattle.xk_names.specs.WellScoped.{with_all, with_body}
use Rattle.xk_names.specs.FaultList.{own, inside, among, faults, with_declared, body_of}
use Rattle.xk_names.proofs.MembershipLemmas.{has_left, has_right, has_either}
use Rattle.xk_names.proofs.TableAgreementLemmas.{FindsSame, Agrees, declared_agrees, body_agrees}
use Rattle.xk_names.proofs.StatementFaultLemmas.{own_breaks, breaks_own}
use Rattle.xk_names.proofs.StatementAgreementLemmas.{own_same}

-- ---- what a place sees, step by step along the way

abbrev mutual
  pub scope_at : Scope → Statement → Way → Scope
  scope_at sc s Here = sc
  scope_at sc (Block close ss) (Inside w) = scope_among sc ss w
  scope_at sc (If at l c r s) (Inside w) = scope_at sc s w
  scope_at sc (IfElse at l c r s u) (Inside w) = scope_at sc s w
  scope_at sc (IfElse at l c r s u) (Else w) = scope_at sc u w
  scope_at sc (For at i lo hi s) (Inside w) = scope_at (with_all sc (declares (length sc.bodies) (For at i lo hi s))) s w
  scope_at sc (Async at cs s) (Inside w) = scope_at (with_body sc (clocks_listed cs)) s w
  scope_at sc (Finish at s) (Inside w) = scope_at sc s w
  scope_at sc _ _ = sc

  pub scope_among : Scope → Statements → Way → Scope
  scope_among sc (More s ss) (First w) = scope_at sc s w
  scope_among sc (More s ss) (Later w) = scope_among (with_all sc (behind (length sc.bodies) s)) ss w
  scope_among sc _ _ = sc

-- the list has the fault, so that it stands somewhere
abbrev Inward : Signatures → Scope → Statement → FrontFault → Type 0
Inward ms sc s f = (w : Way) × ((t : Statement) × (Stands s w t × Breaks ms (scope_at sc s w) t f))

abbrev InwardAmong : Signatures → Scope → Statements → FrontFault → Type 0
InwardAmong ms sc ss f = (w : Way) × ((t : Statement) × (StandsAmong ss w t × Breaks ms (scope_among sc ss w) t f))

own_here : (ms ns : Signatures) (a b : Scope) (s : Statement) (f : FrontFault) → FindsSame ms ns → Agrees a b → Has (own ms a s) f → Breaks ns b s f
own_here ms ns a b s f one same h = own_breaks ns b s f (subst (λ k. Has k f) (own_same ms ns a b s one same) h)

or_here : (ms ns : Signatures) (a b : Scope) (s : Statement) (f : FrontFault) → FindsSame ms ns → Agrees a b → (Has (inside ms a s) f → Inward ns b s f)
    → Has (faults ms a s) f → Inward ns b s f
or_here ms ns a b s f one same later h = elim (has_either (own ms a s) (inside ms a s) f h) [
  | inl x ↦ (Here, (s, (refl, own_here ms ns a b s f one same x)))
  | inr y ↦ later y
]

agrees_behind : (a b : Scope) (ds : ℕ → List Declaration) → Agrees a b → Agrees (with_declared a (ds (length a.bodies))) (with_all b (ds (length b.bodies)))
agrees_behind a b ds same =
    subst (λ n. Agrees (with_declared a (ds (length a.bodies))) (with_all b (ds n))) same.depth (declared_agrees a b (ds (length a.bodies)) same)

mutual
  held : (ms ns : Signatures) (a b : Scope) (s : Statement) (f : FrontFault) → FindsSame ms ns → Agrees a b → Has (inside ms a s) f → Inward ns b s f
  held ms ns a b (Block close ss) f one same h = let r = held_among ms ns a b ss f one same h in (Inside r.0, r.1)
  held ms ns a b (If at l c r s) f one same h = let q = or_here ms ns a b s f one same (λ z. held ms ns a b s f one same z) h in (Inside q.0, q.1)
  held ms ns a b (IfElse at l c r s u) f one same h = elim (has_either (faults ms a s) (faults ms a u) f h) [
    | inl x ↦ let q = or_here ms ns a b s f one same (λ z. held ms ns a b s f one same z) x in (Inside q.0, q.1)
    | inr y ↦ let q = or_here ms ns a b u f one same (λ z. held ms ns a b u f one same z) y in (Else q.0, q.1)
  ]
  held ms ns a b (For at i lo hi s) f one same h =
      let more = agrees_behind a b (λ n. declares n (For at i lo hi s)) same in
      let c = with_declared a (declares (length a.bodies) (For at i lo hi s)) in
      let d = with_all b (declares (length b.bodies) (For at i lo hi s)) in
      let q = or_here ms ns c d s f one more (λ z. held ms ns c d s f one more z) h in (Inside q.0, q.1)
  held ms ns a b (Async at cs s) f one same h =
      let more = body_agrees a b (clocks_listed cs) same in
      let c = body_of a (clocks_listed cs) in
      let d = with_body b (clocks_listed cs) in
      let q = or_here ms ns c d s f one more (λ z. held ms ns c d s f one more z) h in (Inside q.0, q.1)
  held ms ns a b (Finish at s) f one same h = let q = or_here ms ns a b s f one same (λ z. held ms ns a b s f one same z) h in (Inside q.0, q.1)
  held ms ns a b _ f one same h = absurd h

  pub held_among : (ms ns : Signatures) (a b : Scope) (ss : Statements) (f : FrontFault) → FindsSame ms ns → Agrees a b → Has (among ms a ss) f → InwardAmong ns b ss f
  held_among ms ns a b Done f one same h = absurd h
  held_among ms ns a b (More s ss) f one same h =
      let more = agrees_behind a b (λ n. behind n s) same in
      elim (has_either (faults ms a s) (among ms (with_declared a (behind (length a.bodies) s)) ss) f h) [
        | inl x ↦ let q = or_here ms ns a b s f one same (λ z. held ms ns a b s f one same z) x in (First q.0, q.1)
        | inr y ↦ let q = held_among ms ns (with_declared a (behind (length a.bodies) s)) (with_all b (behind (length b.bodies) s)) ss f one more y in (Later q.0, q.1)
      ]

-- ---- what stands somewhere is in the list

mutual
  listed : (ms ns : Signatures) (a b : Scope) (s : Statement) (w : Way) (t : Statement) (f : FrontFault) → FindsSame ms ns → Agrees a b → Stands s w t
      → Breaks ns (scope_at b s w) t f → Has (faults ms a s) f
  listed ms ns a b s Here t f one same st br =
      has_left (own ms a s) (inside ms a s) f
      (subst (λ k. Has k f) (sym (own_same ms ns a b s one same)) (breaks_own ns b s f (subst (λ (r : Statement). Breaks ns b r f) (sym st) br)))
  listed ms ns a b (Block close ss) (Inside w) t f one same st br = has_right (own ms a (Block close ss)) (among ms a ss) f (listed_among ms ns a b ss w t f one same st br)
  listed ms ns a b (If at l c r s) (Inside w) t f one same st br = has_right (own ms a (If at l c r s)) (faults ms a s) f (listed ms ns a b s w t f one same st br)
  listed ms ns a b (IfElse at l c r s u) (Inside w) t f one same st br =
      has_right (own ms a (IfElse at l c r s u)) (faults ms a s ++ faults ms a u) f (has_left (faults ms a s) (faults ms a u) f (listed ms ns a b s w t f one same st br))
  listed ms ns a b (IfElse at l c r s u) (Else w) t f one same st br =
      has_right (own ms a (IfElse at l c r s u)) (faults ms a s ++ faults ms a u) f (has_right (faults ms a s) (faults ms a u) f (listed ms ns a b u w t f one same st br))
  listed ms ns a b (For at i lo hi s) (Inside w) t f one same st br =
      let c = with_declared a (declares (length a.bodies) (For at i lo hi s)) in
      has_right (own ms a (For at i lo hi s)) (faults ms c s) f
      (listed ms ns c (with_all b (declares (length b.bodies) (For at i lo hi s))) s w t f one (agrees_behind a b (λ n. declares n (For at i lo hi s)) same) st br)
  listed ms ns a b (Async at cs s) (Inside w) t f one same st br =
      has_right (own ms a (Async at cs s)) (faults ms (body_of a (clocks_listed cs)) s) f
      (listed ms ns (body_of a (clocks_listed cs)) (with_body b (clocks_listed cs)) s w t f one (body_agrees a b (clocks_listed cs) same) st br)
  listed ms ns a b (Finish at s) (Inside w) t f one same st br = has_right (own ms a (Finish at s)) (faults ms a s) f (listed ms ns a b s w t f one same st br)
  listed ms ns a b _ _ t f one same st br = absurd st

  pub listed_among : (ms ns : Signatures) (a b : Scope) (ss : Statements) (w : Way) (t : Statement) (f : FrontFault) → FindsSame ms ns → Agrees a b → StandsAmong ss w t
      → Breaks ns (scope_among b ss w) t f → Has (among ms a ss) f
  listed_among ms ns a b (More s ss) (First w) t f one same st br =
      has_left (faults ms a s) (among ms (with_declared a (behind (length a.bodies) s)) ss) f (listed ms ns a b s w t f one same st br)
  listed_among ms ns a b (More s ss) (Later w) t f one same st br =
      has_right (faults ms a s) (among ms (with_declared a (behind (length a.bodies) s)) ss) f
      (listed_among ms ns (with_declared a (behind (length a.bodies) s)) (with_all b (behind (length b.bodies) s)) ss w t f one (agrees_behind a b (λ n. behind n s) same) st br)
  listed_among ms ns a b _ _ t f one same st br = absurd st

-- ---- what a place sees, at once

pub append_entries : (ds es : List Declaration) → entries (ds ++ es) ≡ entries ds ++ entries es
append_entries [] es = refl
append_entries (d ∷ ds) es = ap (λ r. entry d ∷ r) (append_entries ds es)

abbrev scope_of : Table Known → Bodies → Scope
scope_of names bodies = record { names = names; bodies = bodies }

joined : (names : Table Known) (bs : Bodies) (ds es : List Declaration) → scope_of ((names ++ entries ds) ++ entries es) bs ≡ scope_of (names ++ entries (ds ++ es)) bs
joined names bs ds es = ap (λ k. scope_of k bs) (append_assoc names (entries ds) (entries es) ∙ ap (λ k. names ++ k) (sym (append_entries ds es)))

stays : (sc : Scope) → sc ≡ scope_of (sc.names ++ entries []) sc.bodies
stays sc = ap (λ k. scope_of k sc.bodies) (sym (append-nil sc.names))

stays_at : (sc : Scope) (s : Statement) → sc ≡ scope_of (sc.names ++ entries (declared_at (length sc.bodies) s Here)) (bodies_at sc.bodies s Here)
stays_at sc (Block close ss) = stays sc
stays_at sc _ = stays sc

stays_first : (sc : Scope) (s : Statement) (w : Way) → scope_at sc s (First w) ≡ scope_of (sc.names ++ entries (declared_at (length sc.bodies) s (First w)))
    (bodies_at sc.bodies s (First w))
stays_first sc (Block close ss) w = stays sc
stays_first sc _ w = stays sc

stays_later : (sc : Scope) (s : Statement) (w : Way) → scope_at sc s (Later w) ≡ scope_of (sc.names ++ entries (declared_at (length sc.bodies) s (Later w)))
    (bodies_at sc.bodies s (Later w))
stays_later sc (Block close ss) w = stays sc
stays_later sc _ w = stays sc

mutual
  at_once : (sc : Scope) (s : Statement) (w : Way) → scope_at sc s w ≡ scope_of (sc.names ++ entries (declared_at (length sc.bodies) s w)) (bodies_at sc.bodies s w)
  at_once sc s Here = stays_at sc s
  at_once sc s (First w) = stays_first sc s w
  at_once sc s (Later w) = stays_later sc s w
  at_once sc (Block close ss) (Inside w) = among_once sc ss w
  at_once sc (If at l c r s) (Inside w) = at_once sc s w
  at_once sc (IfElse at l c r s u) (Inside w) = at_once sc s w
  at_once sc (IfElse at l c r s u) (Else w) = at_once sc u w
  at_once sc (For at i lo hi s) (Inside w) =
      let ds = declares (length sc.bodies) (For at i lo hi s) in
      at_once (with_all sc ds) s w ∙ joined sc.names (bodies_at sc.bodies s w) ds (declared_at (length sc.bodies) s w)
  at_once sc (Async at cs s) (Inside w) = at_once (with_body sc (clocks_listed cs)) s w
  at_once sc (Finish at s) (Inside w) = at_once sc s w
  at_once sc _ _ = stays sc

  pub among_once : (sc : Scope) (ss : Statements) (w : Way) → scope_among sc ss w ≡ scope_of (sc.names ++ entries (declared_among (length sc.bodies) ss w))
      (bodies_among sc.bodies ss w)
  among_once sc (More s ss) (First w) = at_once sc s w
  among_once sc (More s ss) (Later w) =
      let ds = behind (length sc.bodies) s in
      among_once (with_all sc ds) ss w ∙ joined sc.names (bodies_among sc.bodies ss w) ds (declared_among (length sc.bodies) ss w)
  among_once sc _ _ = stays sc
