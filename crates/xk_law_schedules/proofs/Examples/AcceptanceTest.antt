-- A test that shows a module accepted, by tables of kinds: it computes at a module that is written out.
use Rattle.std.proofs.Common.{◌≡◌, ℕ, zero, suc, ◌<◌, ◌≤◌, Bool, true, false, not, ◌==◌, ◌||◌, ◌&&◌, inl, inr, List, [], ◌∷◌, length, Some, None, Option, refl, sym, ap, ◌∙◌, subst, arith}
use Rattle.std.specs.Prelude.{slice_get}
use Rattle.std.specs.List.{list_all, list_any}
use Rattle.std.specs.Option.{option_map_or}
use Rattle.std.proofs.lemmas.Bool.{and_parts, and_left, or_from, not-true, ne_eqb, cases_lt, false≢true}
use Rattle.std.proofs.lemmas.Option.{slice_get_within, slice_get_past}
use Rattle.xk_types.specs.declared.instr.Instr.{Instr}
use Rattle.xk_types.specs.declared.rules.Rule.{Rule}
use Rattle.xk_types.specs.declared.rules.Rule.TheVariants as rule
use Rattle.xk_types.specs.declared.rules.Kind.{Kind}
use Rattle.xk_types.specs.declared.rules.Kind.TheVariants as kind
use Rattle.xk_types.specs.declared.rules.Visit.{Visit}
use Rattle.xk_types.specs.Code.{UnitValue, ModuleValue, arguments_of}
use Rattle.xk_types.specs.RuleNames.{kind_place}
use Rattle.xk_types.specs.Order.{Has}
use Rattle.xk_types.specs.Shape.{is_in_place, breaks_in, breaks_unit_of, HasShape}
use Rattle.xk_types.specs.Walk.{After, To, Refused, MayBecome, IsEdge, IsVisited, IsRefusedAt, entry_kinds, places_after, row, row_of, way_of}
use Rattle.xk_types.specs.Bound.{IsWithinBounds}
use Rattle.xk_types.specs.Acceptance.{IsAccepted}
use Rattle.xk_types.proofs.MembershipLemmas.{all_has}
use Rattle.xk_types.proofs.WalkLemmas.{visited_closed}

-- ---- tests over numbers and lists

-- a test of each number below n
abbrev pub each_below : (ℕ → Bool) → ℕ → Bool
each_below test zero = true
each_below test (suc n) = test n && each_below test n

-- one of them
below_at : (test : ℕ → Bool) (n k : ℕ) → each_below test n ≡ true → k < n → test k ≡ true
below_at test zero k h inside = absurd (omega arith)
below_at test (suc n) k h inside =
    let p = and_parts (test n) (each_below test n) h in
    elim (cases_lt k n) [ inl less ↦ below_at test n k p.1 less | inr more ↦ subst (λ j. test j ≡ true) (omega arith) p.0 ]

-- one of two where the other is true
other_half : (p q : Bool) → p ≡ true → (not p || q) ≡ true → q ≡ true
other_half true q e h = h
other_half false q e h = absurd (false≢true e)

-- ---- shape

-- the rules on shape that some instruction can break
abbrev shape_rules : List Rule
shape_rules = rule.Target ∷ rule.Block ∷ rule.Slot ∷ rule.Unit ∷ rule.Cell ∷ rule.Loop ∷ rule.End ∷ rule.Home ∷ rule.Registers ∷ rule.SameClock ∷ []

-- no place of the unit breaks them, nor the one behind its code
abbrev pub is_unit_shaped : ModuleValue → ℕ → UnitValue → Bool
is_unit_shaped m unit u = each_below (λ at. list_all (λ r. not (breaks_in m r unit u at)) shape_rules) (suc (length u.code))

-- each unit
abbrev pub is_shaped : ModuleValue → Bool
is_shaped m = each_below (λ unit. option_map_or (is_unit_shaped m unit) (slice_get m.units unit) true) (length m.units)

-- further on no rule is broken
none_beyond : (m : ModuleValue) (r : Rule) (unit : ℕ) (u : UnitValue) (at : ℕ) → length u.code < at → breaks_in m r unit u at ≡ false
none_beyond m rule.Target unit u at h = rw (slice_get_past u.code at (omega arith)) refl
none_beyond m rule.Block unit u at h = rw (slice_get_past u.code at (omega arith)) refl
none_beyond m rule.Slot unit u at h = rw (slice_get_past u.code at (omega arith)) refl
none_beyond m rule.Unit unit u at h =
    rw (slice_get_past u.code at (omega arith))
    (or_from ((at == 0) && not (is_in_place unit u)) false (and_left (at == 0) (not (is_in_place unit u)) (ne_eqb at 0 (λ e. omega arith))) refl)
none_beyond m rule.Cell unit u at h = rw (slice_get_past u.code at (omega arith)) refl
none_beyond m rule.Loop unit u at h = rw (slice_get_past u.code at (omega arith)) refl
none_beyond m rule.End unit u at h =
    rw (slice_get_past u.code at (omega arith)) (or_from false ((at == 0) && (length u.code == 0)) refl (and_left (at == 0) (length u.code == 0) (ne_eqb at 0 (λ e. omega arith))))
none_beyond m rule.Home unit u at h = rw (slice_get_past u.code at (omega arith)) refl
none_beyond m rule.Registers unit u at h = rw (slice_get_past u.code at (omega arith)) refl
none_beyond m rule.SameClock unit u at h = rw (slice_get_past u.code at (omega arith)) refl
none_beyond m rule.Use unit u at h = refl
none_beyond m rule.Held unit u at h = refl
none_beyond m rule.Leak unit u at h = refl
none_beyond m rule.Steps unit u at h = refl
none_beyond m rule.Activities unit u at h = refl
none_beyond m rule.Clocks unit u at h = refl
none_beyond m rule.Stack unit u at h = refl

-- a rule is one of those, or broken nowhere
by_rule : (m : ModuleValue) (unit : ℕ) (u : UnitValue) (at : ℕ) → ((r : Rule) → Has shape_rules r → breaks_in m r unit u at ≡ false) → (r : Rule) → breaks_in m r unit u at ≡ false
by_rule m unit u at h rule.Target = h rule.Target (inl refl)
by_rule m unit u at h rule.Block = h rule.Block (inr (inl refl))
by_rule m unit u at h rule.Slot = h rule.Slot (inr (inr (inl refl)))
by_rule m unit u at h rule.Unit = h rule.Unit (inr (inr (inr (inl refl))))
by_rule m unit u at h rule.Cell = h rule.Cell (inr (inr (inr (inr (inl refl)))))
by_rule m unit u at h rule.Loop = h rule.Loop (inr (inr (inr (inr (inr (inl refl))))))
by_rule m unit u at h rule.End = h rule.End (inr (inr (inr (inr (inr (inr (inl refl)))))))
by_rule m unit u at h rule.Home = h rule.Home (inr (inr (inr (inr (inr (inr (inr (inl refl))))))))
by_rule m unit u at h rule.Registers = h rule.Registers (inr (inr (inr (inr (inr (inr (inr (inr (inl refl)))))))))
by_rule m unit u at h rule.SameClock = h rule.SameClock (inr (inr (inr (inr (inr (inr (inr (inr (inr (inl refl))))))))))
by_rule m unit u at h rule.Use = refl
by_rule m unit u at h rule.Held = refl
by_rule m unit u at h rule.Leak = refl
by_rule m unit u at h rule.Steps = refl
by_rule m unit u at h rule.Activities = refl
by_rule m unit u at h rule.Clocks = refl
by_rule m unit u at h rule.Stack = refl

-- a unit that passes breaks none
unit_shape : (m : ModuleValue) (unit : ℕ) (u : UnitValue) → is_unit_shaped m unit u ≡ true → (r : Rule) (at : ℕ) → breaks_in m r unit u at ≡ false
unit_shape m unit u h r at = elim (cases_lt (length u.code) at) [
  | inl far ↦ none_beyond m r unit u at far
  | inr near ↦
      by_rule m unit u at
      (λ x named. not-true (breaks_in m x unit u at) (all_has (λ y. not (breaks_in m y unit u at)) shape_rules x
      (below_at (λ n. list_all (λ y. not (breaks_in m y unit u n)) shape_rules) (suc (length u.code)) at h (omega arith)) named)) r
]

-- a module that passes has the shape
shape_from : (m : ModuleValue) → is_shaped m ≡ true → HasShape m
shape_from m h r unit at = go (slice_get m.units unit) refl
  where
    go : (o : Option UnitValue) → slice_get m.units unit ≡ o → breaks_unit_of m r unit o at ≡ false
    go None e = refl
    go (Some u) e = unit_shape m unit u
        (sym (ap (λ o. option_map_or (is_unit_shaped m unit) o true) e)
        ∙ below_at (λ n. option_map_or (is_unit_shaped m n) (slice_get m.units n) true) (length m.units) unit h (slice_get_within m.units unit u e)) r at

-- ---- kinds

-- the kind is one of the list
abbrev pub is_among : List Kind → Kind → Bool
is_among ks k = list_any (λ j. kind_place j == kind_place k) ks

abbrev every_kind : List Kind
every_kind = kind.Unset ∷ kind.Number ∷ kind.Live ∷ kind.Resumed ∷ kind.Out ∷ []

-- each kind stands there
among_every : (k : Kind) → Has every_kind k
among_every kind.Unset = inl refl
among_every kind.Number = inr (inl refl)
among_every kind.Live = inr (inr (inl refl))
among_every kind.Resumed = inr (inr (inr (inl refl)))
among_every kind.Out = inr (inr (inr (inr (inl refl))))

-- a row doesn't refuse, and each kind that it gives passes
abbrev leads : (Kind → Bool) → After → Bool
leads test (To ks) = list_all test ks
leads test (Refused r) = false

-- the row doesn't refuse
abbrev allows : After → Bool
allows a = leads (λ k. true) a

-- the ways to each place behind it lead to kinds that the table has there
abbrev pub ways_lead : ModuleValue → UnitValue → ℕ → (ℕ → List Kind) → ℕ → Kind → Bool
ways_lead m u s table at k = list_all (λ to. leads (is_among (table to)) (way_of m u to s k (slice_get u.code at))) (places_after (slice_get u.code at) at)

-- A slot's table of kinds, by place, is closed at a kind: where it has the kind, the row doesn't refuse, and leads to kinds
-- that it has at the next places.
abbrev pub is_closed_at : ModuleValue → UnitValue → ℕ → (ℕ → List Kind) → ℕ → Kind → Bool
is_closed_at m u s table at k = not (is_among (table at) k) || (allows (row m u s (record { at = at; kind = k })) && ways_lead m u s table at k)

-- it has the entry kinds, and is closed
abbrev pub is_closed : ModuleValue → UnitValue → ℕ → (ℕ → List Kind) → Bool
is_closed m u s table = list_all (is_among (table 0)) (entry_kinds u s) && each_below (λ at. list_all (is_closed_at m u s table at) every_kind) (length u.code)

-- the tables of each slot of each unit are
abbrev pub are_closed : ModuleValue → (ℕ → ℕ → ℕ → List Kind) → Bool
are_closed m tables =
    each_below (λ unit. option_map_or (λ u. each_below (λ s. is_closed m u s (tables unit s)) u.slots) (slice_get m.units unit) true) (length m.units)

module _ (m : ModuleValue) (u : UnitValue) (s : ℕ) (table : ℕ → List Kind) (closed : is_closed m u s table ≡ true) where
  -- where the table has the kind, the row leads on
  leads_on : (p : Visit) → p.at < length u.code → is_among (table p.at) p.kind ≡ true
      → (allows (row m u s p) && ways_lead m u s table p.at p.kind) ≡ true
  leads_on p inside has = other_half (is_among (table p.at) p.kind) _ has
      (all_has (is_closed_at m u s table p.at) every_kind p.kind
      (below_at (λ at. list_all (is_closed_at m u s table at) every_kind) (length u.code) p.at (and_parts (list_all (is_among (table 0)) (entry_kinds u s)) _ closed).1 inside)
      (among_every p.kind))

  -- along an edge
  along : (p q : Visit) → is_among (table p.at) p.kind ≡ true → IsEdge m u s p q → is_among (table q.at) q.kind ≡ true
  along p q has e = elim (cases_lt p.at (length u.code)) [
    | inl inside ↦
        on (way_of m u q.at s p.kind (slice_get u.code p.at)) e.kind
        (all_has (λ to. leads (is_among (table to)) (way_of m u to s p.kind (slice_get u.code p.at))) (places_after (slice_get u.code p.at) p.at) q.at
        (and_parts (allows (row m u s p)) (ways_lead m u s table p.at p.kind) (leads_on p inside has)).1 e.place)
    | inr past ↦ absurd (subst (λ o. Has (places_after o p.at) q.at) (slice_get_past u.code p.at past) e.place)
  ]
    where
      on : (a : After) → MayBecome a q.kind → leads (is_among (table q.at)) a ≡ true → is_among (table q.at) q.kind ≡ true
      on (To ks) may h = all_has (is_among (table q.at)) ks q.kind h may
      on (Refused r) may h = absurd may

  -- what is visited is in the table
  pub visited_among : (q : Visit) → IsVisited m u s q → is_among (table q.at) q.kind ≡ true
  visited_among q v = visited_closed m u s (λ p. is_among (table p.at) p.kind ≡ true)
      (λ p first entry. subst (λ at. is_among (table at) p.kind ≡ true) (sym first)
      (all_has (is_among (table 0)) (entry_kinds u s) p.kind (and_parts (list_all (is_among (table 0)) (entry_kinds u s)) _ closed).0 entry))
      along q v

  -- and isn't refused
  never_refused : (q : Visit) (r : Rule) → IsVisited m u s q → row m u s q ≡ Refused r → ⊥
  never_refused q r v h = elim (cases_lt q.at (length u.code)) [
    | inl inside ↦ false≢true (sym (ap allows h) ∙ (and_parts (allows (row m u s q)) (ways_lead m u s table q.at q.kind) (leads_on q inside (visited_among q v))).0)
    | inr past ↦ to_refused (sym (ap (row_of m u s q.kind) (slice_get_past u.code q.at past)) ∙ h)
  ]
    where
      to_refused : To [] ≡ Refused r → ⊥
      to_refused e = grind arith

-- no walk of a module with closed tables ends at a refusal
kinds_from : (m : ModuleValue) (tables : ℕ → ℕ → ℕ → List Kind) → are_closed m tables ≡ true → (unit s : ℕ) (q : Visit) (r : Rule) → IsRefusedAt m unit s q r → ⊥
kinds_from m tables h unit s q r b = never_refused m b.u s (tables unit s)
    (below_at (λ t. is_closed m b.u t (tables unit t)) b.u.slots s
    (sym (ap (λ o. option_map_or (λ u. each_below (λ t. is_closed m u t (tables unit t)) u.slots) o true) b.found)
    ∙ below_at (λ n. option_map_or (λ u. each_below (λ t. is_closed m u t (tables n t)) u.slots) (slice_get m.units n) true) (length m.units) unit h
    (slice_get_within m.units unit b.u b.found))
    b.slot) q r b.visited b.refused

-- ---- limits

-- an instruction has no more arguments than the limit
abbrev pub HasFewArguments : Instr → Type 0
HasFewArguments i = length (arguments_of i) ≤ 64

-- ---- accepted

-- a module that passes, within its bounds, is accepted
pub accepted_by : (m : ModuleValue) (tables : ℕ → ℕ → ℕ → List Kind) → is_shaped m ≡ true → are_closed m tables ≡ true → IsWithinBounds m → IsAccepted m
accepted_by m tables shaped closed bounds = record { shape = shape_from m shaped; kinds = kinds_from m tables closed; bounds = bounds }
