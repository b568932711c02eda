-- A module is refused for one reason, at one place.
use Rattle.std.proofs.Common.{◌≡◌, ◌≢◌, ◌∙◌, ℕ, ◌<◌, ◌≤◌, true, false, List, [], ◌∷◌, length, get_or, inl, inr, refl, sym, ap, subst, arith}
use Rattle.std.specs.Prelude.{◌⊎◌}
use Rattle.std.proofs.lemmas.Bool.{both_ways}
use Rattle.std.proofs.lemmas.Option.{same_Some}
use Rattle.xk_types.specs.declared.rules.Kind.{Kind}
use Rattle.xk_types.specs.declared.rules.Kind.TheVariants as kind
use Rattle.xk_types.specs.declared.rules.Rule.{Rule}
use Rattle.xk_types.specs.declared.rules.Rule.TheVariants as rule
use Rattle.xk_types.specs.declared.rules.Visit.{Visit}
use Rattle.xk_types.specs.Acceptance.{IsAccepted}
use Rattle.xk_types.specs.Bound.{limit_of}
use Rattle.xk_types.specs.Code.{ModuleValue, UnitValue}
use Rattle.xk_types.specs.RuleNames.{kind_place, rule_number}
use Rattle.xk_types.specs.Order.{NotAfter}
use Rattle.xk_types.specs.Shape.{breaks}
use Rattle.xk_types.specs.Walk.{Refused, row, IsWalk, IsRefusedAt}
use Rattle.xk_typestate.specs.declared.fault.KindFault.{KindFault}
use Rattle.xk_typestate.specs.Place.{visit}
use Rattle.xk_typestate.specs.LeastRefusal.{IsKindFault, IsWalkTo}
use Rattle.xk_typestate.proofs.SearchLemmas.{kind_at}
use Rattle.xk_bounds.specs.declared.refusal.BoundFault.{BoundFault}
use Rattle.xk_bounds.specs.declared.refusal.Refusal.{Refusal}
use Rattle.xk_bounds.specs.declared.refusal.Refusal.TheVariants as refusal
use Rattle.xk_bounds.specs.Refusals.{IsBoundFault, Refuses}
use Rattle.xk_bounds.proofs.RefusalLemmas.{refused_by_memory}
use Rattle.xk_messages.specs.Lines.{refusal_line, refusal_status}
use Rattle.xk_shape.specs.Fault.{IsShapeFault}
use Rattle.xk_shape.specs.declared.fault.ShapeFault.{ShapeFault}
use Rattle.xk_serve.specs.OneAnswer.{AreWalks, IsSameLine, IsSameRefusal}

-- ---- orders

-- of two lists neither comes after the other
not_after_both : (xs ys : List ℕ) → NotAfter xs ys → NotAfter ys xs → xs ≡ ys
not_after_both [] [] p q = refl
not_after_both [] (y ∷ ys) p q = absurd q
not_after_both (x ∷ xs) [] p q = absurd p
not_after_both (x ∷ xs) (y ∷ ys) (inl lt) (inl gt) = absurd (omega (arith, lt, gt))
not_after_both (x ∷ xs) (y ∷ ys) (inl lt) (inr q) = absurd (omega (arith, lt, q.0))
not_after_both (x ∷ xs) (y ∷ ys) (inr p) (inl gt) = absurd (omega (arith, gt, p.0))
not_after_both (x ∷ xs) (y ∷ ys) (inr p) (inr q) = ap (λ z. z ∷ xs) p.0 ∙ ap (λ zs. y ∷ zs) (not_after_both xs ys p.1 q.1)

-- of two numbers neither is less
neither_less : (n k : ℕ) → (n < k → ⊥) → (k < n → ⊥) → n ≡ k
neither_less n k p q = omega (arith, p, q)

-- the rules, by their numbers
abbrev rules : List Rule
rules = rule.Target ∷ rule.Target ∷ rule.Block ∷ rule.Slot ∷ rule.Unit ∷ rule.Cell ∷ rule.Loop ∷ rule.End ∷ rule.Home ∷ rule.Registers ∷ rule.SameClock
    ∷ rule.Use ∷ rule.Held ∷ rule.Leak ∷ rule.Steps ∷ rule.Activities ∷ rule.Clocks ∷ rule.Stack ∷ []

at_its_number : (r : Rule) → get_or rules (rule_number r) rule.Target ≡ r
at_its_number rule.Target = refl
at_its_number rule.Block = refl
at_its_number rule.Slot = refl
at_its_number rule.Unit = refl
at_its_number rule.Cell = refl
at_its_number rule.Loop = refl
at_its_number rule.End = refl
at_its_number rule.Home = refl
at_its_number rule.Registers = refl
at_its_number rule.SameClock = refl
at_its_number rule.Use = refl
at_its_number rule.Held = refl
at_its_number rule.Leak = refl
at_its_number rule.Steps = refl
at_its_number rule.Activities = refl
at_its_number rule.Clocks = refl
at_its_number rule.Stack = refl

rule_once : (r q : Rule) → rule_number r ≡ rule_number q → r ≡ q
rule_once r q e = sym (at_its_number r) ∙ ap (λ n. get_or rules n rule.Target) e ∙ at_its_number q

kind_once : (k j : Kind) → kind_place k ≡ kind_place j → k ≡ j
kind_once k j e = sym (kind_at (kind_place j) k kind.Unset e) ∙ kind_at (kind_place j) j kind.Unset refl

-- ---- the shape

-- no place breaks a rule of smaller number
abbrev KeepsEarlier : ModuleValue → Rule → Type 0
KeepsEarlier m r = (k : Rule) (unit at : ℕ) → rule_number k < rule_number r → breaks m k unit at ≡ false

first_rule : (m : ModuleValue) (r q : Rule) (unit at other place : ℕ) → breaks m r unit at ≡ true → KeepsEarlier m r → breaks m q other place ≡ true → KeepsEarlier m q → r ≡ q
first_rule m r q unit at other place broken keeps breach holds = rule_once r q
    (neither_less (rule_number r) (rule_number q) (λ lt. both_ways _ (holds r unit at lt) broken) (λ lt. both_ways _ (keeps q other place lt) breach))

-- the fault of a rule at a place
abbrev shape_fault : Rule → ℕ → ℕ → ShapeFault
shape_fault r unit at = record { rule = r; unit = unit; at = at }

shape_fault_once : (m : ModuleValue) (f g : ShapeFault) → IsShapeFault m f → IsShapeFault m g → f ≡ g
shape_fault_once m f g p q =
    let same = first_rule m f.rule g.rule f.unit f.at g.unit g.at p.broken p.first q.broken q.first in
    let both =
    not_after_both (f.unit ∷ f.at ∷ []) (g.unit ∷ g.at ∷ []) (p.least g.unit g.at (subst (λ k. breaks m k g.unit g.at ≡ true) (sym same)
    q.broken))
    (q.least f.unit f.at (subst (λ k. breaks m k f.unit f.at ≡ true) same p.broken)) in
    ap (λ k. shape_fault k f.unit f.at) same ∙ ap (λ u. shape_fault g.rule u f.at) (ap (λ l. get_or l 0 0) both)
    ∙ ap (λ a. shape_fault g.rule g.unit a) (ap (λ l. get_or l 1 0) both)

-- ---- kinds

-- the same slot, at the same place
there_too : (P : ℕ → ℕ → Visit → Type 0) (unit other s t : ℕ) (q p : Visit) → unit ≡ other → s ≡ t → q ≡ p → P other t p → P unit s q
there_too P unit other s t q p u e v h = subst (λ n. P n s q) (sym u) (subst (λ n. P other n q) (sym e) (subst (λ z. P other t z) (sym v) h))

same_refused : (r k : Rule) → Refused r ≡ Refused k → r ≡ k
same_refused r k e = cc

-- the table refuses a slot by one rule
refused_once : (m : ModuleValue) (unit s : ℕ) (q : Visit) (r k : Rule) → IsRefusedAt m unit s q r → IsRefusedAt m unit s q k → r ≡ k
refused_once m unit s q r k x y =
    same_refused r k (sym x.refused ∙ ap (λ (u : UnitValue). row m u s q) (same_Some x.u y.u (sym x.found ∙ y.found)) ∙ y.refused)

-- of two walks to one place, of which none is longer than needed, the first isn't longer
no_longer : (m : ModuleValue) (unit s : ℕ) (q : Visit) (walk other : List Visit) → IsWalkTo m unit s q walk → IsWalkTo m unit s q other → length walk ≤ length other
no_longer m unit s q walk other x y =
    x.shortest other (subst (λ (u : UnitValue). IsWalk m u s other) (same_Some y.u x.u (sym y.found ∙ x.found)) y.walked) y.ends

kinds_once : (m : ModuleValue) (f g : KindFault) → IsKindFault m f → IsKindFault m g → IsSameRefusal f g
kinds_once m f g p q =
    let both = not_after_both (f.unit ∷ f.at ∷ f.slot ∷ kind_place f.kind ∷ []) (g.unit ∷ g.at ∷ g.slot ∷ kind_place g.kind ∷ [])
    (p.least g.unit g.slot (visit g.at g.kind) g.rule q.refused) (q.least f.unit f.slot (visit f.at f.kind) f.rule p.refused) in
    let unit : f.unit ≡ g.unit = ap (λ l. get_or l 0 0) both in
    let at : f.at ≡ g.at = ap (λ l. get_or l 1 0) both in
    let slot : f.slot ≡ g.slot = ap (λ l. get_or l 2 0) both in
    let kind = kind_once f.kind g.kind (ap (λ l. get_or l 3 0) both) in
    let here = visit f.at f.kind in
    let there = visit g.at g.kind in
    let stop : here ≡ there = ap (λ a. visit a f.kind) at ∙ ap (λ k. visit g.at k) kind in
    let refused = there_too (λ n s v. IsRefusedAt m n s v g.rule) f.unit g.unit f.slot g.slot here there unit slot stop q.refused in
    let walk = there_too (λ n s v. IsWalkTo m n s v g.walk.items) f.unit g.unit f.slot g.slot here there unit slot stop q.walk in
    record {
      rule = refused_once m f.unit f.slot here f.rule g.rule p.refused refused;
      unit = unit;
      at = at;
      slot = slot;
      kind = kind;
      as_long = omega (arith, no_longer m f.unit f.slot here f.walk.items g.walk.items p.walk walk, no_longer m f.unit f.slot here g.walk.items f.walk.items walk p.walk);
    }

-- ---- bounds

-- no rule before one that is broken is
over_first : (m : ModuleValue) (f g : BoundFault) → IsBoundFault m f → IsBoundFault m g → rule_number g.rule < rule_number f.rule → ⊥
over_first m f g p q lt = omega (arith, p.first g.rule lt, q.broken)

-- the fault of a rule on bounds
abbrev bound_fault : Rule → ℕ → BoundFault
bound_fault r limit = record { rule = r; limit = limit }

bounds_once : (m : ModuleValue) (f g : BoundFault) → IsBoundFault m f → IsBoundFault m g → f ≡ g
bounds_once m f g p q =
    let same = rule_once f.rule g.rule (neither_less (rule_number f.rule) (rule_number g.rule) (over_first m g f q p) (over_first m f g p q)) in
    ap (λ r. bound_fault r f.limit) same ∙ ap (λ n. bound_fault g.rule n) (p.limit ∙ ap limit_of same ∙ sym q.limit)

-- ---- all of them

-- a module that is refused isn't accepted
pub not_accepted : (m : ModuleValue) (r : Refusal) → IsAccepted m → Refuses m r → refusal_status r ≢ 4 → ⊥
not_accepted m r accepted h not4 = not4 (ap refusal_status (refused_by_memory m r accepted h))

-- the status of a refusal
pub refused_status : (r : Refusal) → refusal_status r ≢ 4 → refusal_status r ≡ 1
refused_status (refusal.Shape f) not4 = refl
refused_status (refusal.Kind f) not4 = refl
refused_status (refusal.Bound f) not4 = refl
refused_status refusal.OutOfMemory not4 = absurd (not4 refl)

-- two refusals of one module are one, but for a walk
pub refusals_once : (m : ModuleValue) (r q : Refusal) → Refuses m r → Refuses m q → refusal_status r ≢ 4 → refusal_status q ≢ 4
    → (r ≡ q) ⊎ AreWalks r q
refusals_once m (refusal.Shape f) (refusal.Shape g) p q n k = inl (ap refusal.Shape (shape_fault_once m f g p q))
refusals_once m (refusal.Shape f) (refusal.Kind g) p q n k = absurd (both_ways _ (q.shape f.rule f.unit f.at) p.broken)
refusals_once m (refusal.Shape f) (refusal.Bound g) p q n k = absurd (both_ways _ (q.shape f.rule f.unit f.at) p.broken)
refusals_once m (refusal.Kind f) (refusal.Shape g) p q n k = absurd (both_ways _ (p.shape g.rule g.unit g.at) q.broken)
refusals_once m (refusal.Kind f) (refusal.Kind g) p q n k = inr (kinds_once m f g p.fault q.fault)
refusals_once m (refusal.Kind f) (refusal.Bound g) p q n k = absurd (q.kinds f.unit f.slot (visit f.at f.kind) f.rule p.fault.refused)
refusals_once m (refusal.Bound f) (refusal.Shape g) p q n k = absurd (both_ways _ (p.shape g.rule g.unit g.at) q.broken)
refusals_once m (refusal.Bound f) (refusal.Kind g) p q n k = absurd (p.kinds g.unit g.slot (visit g.at g.kind) g.rule q.fault.refused)
refusals_once m (refusal.Bound f) (refusal.Bound g) p q n k = inl (ap refusal.Bound (bounds_once m f g p.fault q.fault))
refusals_once m refusal.OutOfMemory q p h n k = absurd (n refl)
refusals_once m (refusal.Shape f) refusal.OutOfMemory p q n k = absurd (k refl)
refusals_once m (refusal.Kind f) refusal.OutOfMemory p q n k = absurd (k refl)
refusals_once m (refusal.Bound f) refusal.OutOfMemory p q n k = absurd (k refl)

-- so they are told by one line, but for a walk
one_line : (r q : Refusal) → (r ≡ q) ⊎ AreWalks r q → IsSameLine (refusal_line r) (refusal_line q)
one_line r q (inl same) = inl (ap refusal_line same)
one_line (refusal.Kind f) (refusal.Kind g) (inr same) =
    inr (record { here = f; there = g; same = same; told_here = refl; told_there = refl })
one_line (refusal.Shape f) q (inr same) = absurd same
one_line (refusal.Bound f) q (inr same) = absurd same
one_line refusal.OutOfMemory q (inr same) = absurd same
one_line (refusal.Kind f) (refusal.Shape g) (inr same) = absurd same
one_line (refusal.Kind f) (refusal.Bound g) (inr same) = absurd same
one_line (refusal.Kind f) refusal.OutOfMemory (inr same) = absurd same

pub refusal_once : (m : ModuleValue) (r q : Refusal) → Refuses m r → Refuses m q → refusal_status r ≢ 4 → refusal_status q ≢ 4 → IsSameLine (refusal_line r) (refusal_line q)
refusal_once m r q p h n k = one_line r q (refusals_once m r q p h n k)
