-- The rooms of units: one by those of the units of greater number, and how great they grow.
use Rattle.std.proofs.Common.{◌≡◌, ℕ, ◌<◌, ◌≤◌, List, length, Some, slice_get, slice_index_or, get_or, inl, inr, sym, ap, ◌∙◌, subst, arith, get_or-set_other, get_or-set_same}
use Rattle.std.proofs.Math.ListN.{set}
use Rattle.std.proofs.lemmas.Bool.{cases_order}
use Rattle.std.proofs.lemmas.List.Elements.{All-get_or}
use Rattle.std.proofs.lemmas.Option.{get_or_from_slice_get, slice_get_within}
use Rattle.xk_types.specs.Code.{UnitValue, ModuleValue, IsUnitWithinLimits, IsWithinLimits}
use Rattle.xk_types.specs.Shape.{HasShape}
use Rattle.xk_types.specs.Bound.{stack_of, stack_bound, greatest_below, nesting, is_made, slots_made, made_of}
use Rattle.xk_bounds.specs.declared.room.Room.{Room}
use Rattle.xk_bounds.specs.Rooms.{nothing, slots_in, frames_in, finishes_in, made_in, IsRoomBy, IsSmall, IsRoom, AreRooms}
use Rattle.xk_bounds.proofs.CallChainLemmas.{below_same, count_small, chain_is, chain_small, nesting_small}

module _ (m : ModuleValue) where
  -- a room is reckoned from those of the units of greater number
  pub room_by : HasShape m → (table : List Room) (unit : ℕ) (u : UnitValue) (r : Room) → slice_get m.units unit ≡ Some u
      → ((t : ℕ) → unit < t → t < length m.units → IsRoom m t (slice_index_or table t nothing))
      → IsRoomBy table u r → IsRoom m unit r
  room_by shape table unit u r found greater by =
      let most = length m.units in
      record {
        slots = by.slots ∙ chain_is (λ v. v.slots) m shape (slots_in table) unit u found (λ t lt inside. (greater t lt inside).slots);
        frames = by.frames ∙ chain_is (λ v. 1) m shape (frames_in table) unit u found (λ t lt inside. (greater t lt inside).frames);
        finishes = by.finishes ∙ chain_is nesting m shape (finishes_in table) unit u found (λ t lt inside. (greater t lt inside).finishes);
        made = by.made ∙ chain_is slots_made m shape (made_in table) unit u found (λ t lt inside. (greater t lt inside).made);
      }

  module _ (limits : IsWithinLimits m) where
    within : (unit : ℕ) (u : UnitValue) → slice_get m.units unit ≡ Some u → IsUnitWithinLimits u
    within unit u found =
        subst IsUnitWithinLimits (get_or_from_slice_get m.units unit u u found) (All-get_or IsUnitWithinLimits m.units unit u (slice_get_within m.units unit u found) limits.each)

    -- clocks are made in few slots
    pub made_few : (unit : ℕ) → made_of m unit ≤ 65536
    made_few unit =
        let few = limits.units in
        let h = chain_small slots_made m 64 (λ k u found. let a = count_small (is_made u) u.slots in let b = (within k u found).slots in omega arith) (length m.units) unit in
        omega arith

    -- no room is great
    pub room_small : (unit : ℕ) (r : Room) → IsRoom m unit r → IsSmall r
    room_small unit r is =
        let most = length m.units in
        let few = limits.units in
        record {
          slots =
              let told = is.slots in
              let h = chain_small (λ v. v.slots) m 64 (λ k u found. (within k u found).slots) most unit in
              omega arith;
          frames =
              let told = is.frames in
              let h = chain_small (λ v. 1) m 1 (λ k u found. omega arith) most unit in
              omega arith;
          finishes =
              let told = is.finishes in
              let h = chain_small nesting m 4096 (λ k u found. let a = nesting_small u in let b = (within k u found).code in omega arith) most unit in
              omega arith;
          made =
              let told = is.made in
              let h = made_few unit in
              omega arith;
        }

  -- the greatest of the slots in rooms is that of the module
  pub deepest_is : (rooms : List Room) → AreRooms m rooms → greatest_below (slots_in rooms) (length rooms) ≡ stack_bound m
  deepest_is rooms are = ap (greatest_below (slots_in rooms)) are.long ∙ below_same (slots_in rooms) (stack_of m) (length m.units) (λ t lt. (are.each t lt).slots)

-- ---- one room more in a table

-- what holds of each place still does when what is written there has it
pub each_set : (P : ℕ → Room → Type 0) (table : List Room) (unit : ℕ) (r d : Room) → unit < length table → P unit r → (t : ℕ) → ((t ≡ unit → ⊥) → P t (get_or table t d))
    → P t (get_or (set table unit r) t d)
each_set P table unit r d inside here t other = elim (cases_order unit t) [
  | inl same ↦ subst (λ k. P k (get_or (set table unit r) k d)) same (subst (P unit) (sym (get_or-set_same table unit r d inside)) here)
  | inr apart ↦
      let ne : t ≡ unit → ⊥ = λ e. elim apart [ inl lt ↦ omega arith | inr gt ↦ omega arith ] in
      subst (P t) (sym (get_or-set_other table unit t r d ne)) (other ne)
]
