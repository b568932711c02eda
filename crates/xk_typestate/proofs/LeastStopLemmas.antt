-- The least stop that the table refuses: kind by kind, slot by slot, instruction by instruction.
use Rattle.std.proofs.Common.{◌≡◌, ℕ, zero, suc, ◌+◌, ◌<◌, ◌≤◌, IsTrue, List, [], length, get_or, None, slice_get, inl, inr, refl, sym, ap, ◌∙◌, subst, arith}
use Rattle.std.proofs.lemmas.Option.{slice_get_past}
use Rattle.std.proofs.lemmas.Bool.{cases_lt, cases_order}
use Rattle.xk_types.specs.declared.rules.Rule.{Rule}
use Rattle.xk_types.specs.declared.rules.Kind.{Kind}
use Rattle.xk_types.specs.declared.rules.Visit.{Visit}
use Rattle.xk_types.specs.Code.{UnitValue, ModuleValue}
use Rattle.xk_types.specs.RuleNames.{kind_place}
use Rattle.xk_types.specs.Walk.{To, Refused, row, row_of, IsVisited}
use Rattle.xk_typestate.specs.declared.least_refusal.Stop.{Stop}
use Rattle.xk_typestate.specs.KindSet.{KindsValue, kinds_have}
use Rattle.xk_typestate.specs.Place.{visit}
use Rattle.xk_typestate.specs.KindTable.{IsKindTable, kinds_in}
use Rattle.xk_typestate.specs.LeastRefusal.{IsRefusedIn, IsNeverRefusedIn, IsFirstStop, IsNeverRefusedThere, IsFirstThere, AreAllowed, IsFirstKind, IsAllowed}
use Rattle.xk_typestate.proofs.SearchLemmas.{five, kind_at}

-- ---- kinds

place_at : (n : ℕ) (d : Kind) → n < 5 → kind_place (get_or five n d) ≡ n
place_at zero d lt = refl
place_at (suc zero) d lt = refl
place_at (suc (suc zero)) d lt = refl
place_at (suc (suc (suc zero))) d lt = refl
place_at (suc (suc (suc (suc zero)))) d lt = refl
place_at (suc (suc (suc (suc (suc n))))) d lt = absurd (omega arith)

module _ (m : ModuleValue) (u : UnitValue) (s at : ℕ) (kinds : KindsValue) where
  -- the first n kinds are allowed
  abbrev pub AreAllowedBelow : ℕ → Type 0
  AreAllowedBelow n = (k : Kind) → kind_place k < n → IsAllowed m u s at kinds k

  pub allowed_more : (n : ℕ) (d : Kind) → AreAllowedBelow n → IsAllowed m u s at kinds (get_or five n d) → AreAllowedBelow (n + 1)
  allowed_more n d below here k lt =
      elim (cases_lt (kind_place k) n) [
        | inl before ↦ below k before
        | inr last ↦
            let same : kind_place k ≡ n = omega arith in
            subst (λ x. IsAllowed m u s at kinds x) (kind_at n k d same) here
      ]

  pub first_kind : (n : ℕ) (d : Kind) (r : Rule) (stop : Stop) → n < 5 → AreAllowedBelow n → stop ≡ record { at = at; slot = s; kind = get_or five n d; rule = r }
      → IsTrue (kinds_have kinds (get_or five n d)) → row m u s (visit at (get_or five n d)) ≡ Refused r → IsFirstKind m u s at kinds stop
  first_kind n d r stop lt below is has refused =
      subst (λ x. IsFirstKind m u s at kinds x) (sym is)
      (record {
        here = refl;
        slot = refl;
        kind = has;
        refused = refused;
        least = λ k q k_has k_refused. elim (cases_order n (kind_place k)) [
          | inl same ↦ inr (place_at n d lt ∙ same, tt)
          | inr apart ↦ elim apart [
            | inl before ↦ inl (let e = place_at n d lt in omega arith)
            | inr past ↦ absurd (below k past q k_has k_refused)
          ]
        ];
      })

-- ---- slots

-- a refusal, said of another name of its slot and place
moved : (m : ModuleValue) (u : UnitValue) (s n at : ℕ) (q : Visit) (r : Rule) → n ≡ s → q.at ≡ at → IsRefusedIn m u s q r → IsRefusedIn m u n (visit at q.kind) r
moved m u s n at q r same here h =
    subst (λ x. IsRefusedIn m u n (visit x q.kind) r) here (subst (λ x. IsRefusedIn m u x q r) (sym same) h)

module _ (m : ModuleValue) (u : UnitValue) (table : List (List KindsValue)) (exact : IsKindTable m u table) (at n : ℕ) (kinds : KindsValue) (is : kinds ≡ kinds_in table n at)
    (inside : n < u.slots) where
  seen_visited_there : (k : Kind) → IsTrue (kinds_have kinds k) → IsVisited m u n (visit at k)
  seen_visited_there k has = ((exact.each n inside).exact (visit at k)).0 (sym (ap (λ x. kinds_have x k) is) ∙ has)

  visited_seen_there : (k : Kind) → IsVisited m u n (visit at k) → IsTrue (kinds_have kinds k)
  visited_seen_there k v = ap (λ x. kinds_have x k) is ∙ ((exact.each n inside).exact (visit at k)).1 v

  -- a slot that isn't refused there
  pub unrefused_more : AreAllowed m u n at kinds → ((s : ℕ) (q : Visit) (r : Rule) → s < n → q.at ≡ at → IsRefusedIn m u s q r → ⊥)
      → (s : ℕ) (q : Visit) (r : Rule) → s < n + 1 → q.at ≡ at → IsRefusedIn m u s q r → ⊥
  unrefused_more allowed below s q r lt here h =
      elim (cases_lt s n) [
        | inl before ↦ below s q r before here h
        | inr last ↦
            let same : n ≡ s = omega arith in
            let there = moved m u s n at q r same here h in
            allowed q.kind r (visited_seen_there q.kind there.visited) there.refused
      ]

  -- the first that is
  pub first_there : (stop : Stop) → ((s : ℕ) (q : Visit) (r : Rule) → s < n → q.at ≡ at → IsRefusedIn m u s q r → ⊥)
      → IsFirstKind m u n at kinds stop → IsFirstThere m u at stop
  first_there stop below first =
      let there : IsRefusedIn m u n (visit at stop.kind) stop.rule = record { slot = inside; visited = seen_visited_there stop.kind first.kind; refused = first.refused } in
      record {
        here = first.here;
        refused = subst (λ x. IsRefusedIn m u x (visit stop.at stop.kind) stop.rule) (sym first.slot)
            (subst (λ x. IsRefusedIn m u n (visit x stop.kind) stop.rule) (sym first.here) there);
        least = λ s q r here h. elim (cases_order n s) [
          | inl same ↦
              let moved_here = moved m u s n at q r same here h in
              inr (first.slot ∙ same, first.least q.kind r (visited_seen_there q.kind moved_here.visited) moved_here.refused)
          | inr apart ↦ elim apart [
            | inl before ↦ inl (let e = first.slot in omega arith)
            | inr past ↦ absurd (below s q r past here h)
          ]
        ];
      }

-- ---- instructions

module _ (m : ModuleValue) (u : UnitValue) where
  -- nothing is refused before the instruction
  abbrev pub IsUnrefusedBefore : ℕ → Type 0
  IsUnrefusedBefore n = (s : ℕ) (q : Visit) (r : Rule) → q.at < n → IsRefusedIn m u s q r → ⊥

  pub before_more : (n : ℕ) → IsUnrefusedBefore n → IsNeverRefusedThere m u n → IsUnrefusedBefore (n + 1)
  before_more n before there s q r lt h =
      elim (cases_lt q.at n) [ inl below ↦ before s q r below h | inr last ↦ there s q r (omega arith) h ]

  pub first_of_unit : (n : ℕ) (stop : Stop) → IsUnrefusedBefore n → IsFirstThere m u n stop → IsFirstStop m u stop
  first_of_unit n stop before first = record {
    refused = first.refused;
    least = λ s q r h. elim (cases_order stop.at q.at) [
      | inl same ↦ inr (same, first.least s q r (sym same ∙ first.here) h)
      | inr apart ↦ elim apart [
        | inl below ↦ inl below
        | inr past ↦ absurd (let e = first.here in before s q r (omega arith) h)
      ]
    ];
  }

  pub before_end : (n : ℕ) → IsUnrefusedBefore n → length u.code ≤ n → IsNeverRefusedIn m u
  before_end n before all s q r h =
      elim (cases_lt q.at n) [
        | inl below ↦ before s q r below h
        | inr past ↦
            let none : slice_get u.code q.at ≡ None = slice_get_past u.code q.at (omega arith) in
            let both : To [] ≡ Refused r = sym (ap (row_of m u s q.kind) none) ∙ h.refused in cc
      ]
