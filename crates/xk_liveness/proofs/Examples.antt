-- A lost update: at its `put`, the slot that held the 1 is dead, be there a number or a clock.
use Rattle.std.proofs.Common.{◌≡◌, ℕ, zero, suc, ◌==◌, ◌&&◌, ◌||◌, not, pos, true, false, true≢false, List, [], ◌∷◌, Some, refl, sym, ◌∙◌}
use Rattle.std.proofs.Common.{subst, arith}
use Rattle.std.proofs.lemmas.Bool.{and_parts, ne_eqb}
use Rattle.std.proofs.lemmas.Option.{none-some, same_Some}
use Rattle.xk_types.specs.declared.instr.Instr.{Instr}
use Rattle.xk_types.specs.declared.instr.Instr.TheVariants as instr
use Rattle.xk_types.specs.declared.unit.UnitKind.TheVariants as unit_kind
use Rattle.xk_types.specs.declared.world.Value.{Value}
use Rattle.xk_types.specs.declared.world.Value.TheVariants as value
use Rattle.xk_types.specs.declared.world.Status.TheVariants as status
use Rattle.xk_types.specs.Code.{ModuleValue}
use Rattle.xk_types.specs.World.{World, instruction_at, root}
use Rattle.xk_liveness.specs.Liveness.{SlotTable, before, IsLiveness, AreAlikeWhereLive}

-- get, add 1, put
abbrev update : ModuleValue
update = record {
  shared = pos 0 ∷ [];
  units = record {
    kind = unit_kind.Main;
    params = [];
    slots = 2;
    code = instr.Get 0 0 ∷ instr.Lit 1 (pos 1) ∷ instr.Add 0 0 1 ∷ instr.Put 0 0 ∷ instr.Ret ∷ [];
  } ∷ [];
}

abbrev live_in : SlotTable
live_in zero (suc zero) zero = true
live_in zero (suc (suc zero)) zero = true
live_in zero (suc (suc zero)) (suc zero) = true
live_in zero (suc (suc (suc zero))) zero = true
live_in _ _ _ = false

-- the table has all that is live
is_live : (u p : ℕ) (slots : List Value) (i : Instr) (s : ℕ)
    → instruction_at update (record { unit = u; place = p; slots = slots }) ≡ Some i
    → before update live_in (record { unit = u; place = p; slots = slots }) i s ≡ true → live_in u p s ≡ true
is_live zero zero slots i s at h = absurd
    (get s (subst (λ k. before update live_in (record { unit = zero; place = zero; slots = slots }) k s ≡ true) (sym (same_Some (instr.Get 0 0) i at)) h))
  where
    get : (s : ℕ) → (not (s == 0) && live_in 0 1 s) ≡ true → ⊥
    get zero h = true≢false (sym h)
    get (suc s) h = true≢false (sym (and_parts (not (suc s == 0)) false h).1)
is_live zero (suc zero) slots i s at h = lit s
    (subst (λ k. before update live_in (record { unit = zero; place = 1; slots = slots }) k s ≡ true) (sym (same_Some (instr.Lit 1 (pos 1)) i at)) h)
  where
    lit : (s : ℕ) → (not (s == 1) && live_in 0 2 s) ≡ true → live_in 0 1 s ≡ true
    lit zero h = refl
    lit (suc zero) h = h
    lit (suc (suc s)) h = (and_parts (not (suc (suc s) == 1)) false h).1
is_live zero (suc (suc zero)) slots i s at h = add s
    (subst (λ k. before update live_in (record { unit = zero; place = 2; slots = slots }) k s ≡ true) (sym (same_Some (instr.Add 0 0 1) i at)) h)
  where
    more : (s : ℕ) → (suc (suc s) == 0) ≡ false → (suc (suc s) == 1) ≡ false
        → ((suc (suc s) == 0) || ((suc (suc s) == 1) || (not (suc (suc s) == 0) && false))) ≡ true → ⊥
    more s p q h = true≢false (sym h ∙ rw (p, q) refl)

    add : (s : ℕ) → ((s == 0) || ((s == 1) || (not (s == 0) && live_in 0 3 s))) ≡ true → live_in 0 2 s ≡ true
    add zero h = refl
    add (suc zero) h = refl
    add (suc (suc s)) h = absurd
        (more s (ne_eqb (suc (suc s)) 0 (λ e. omega (arith, e))) (ne_eqb (suc (suc s)) 1 (λ e. omega (arith, e))) h)
is_live zero (suc (suc (suc zero))) slots i s at h = put s
    (subst (λ k. before update live_in (record { unit = zero; place = 3; slots = slots }) k s ≡ true) (sym (same_Some (instr.Put 0 0) i at)) h)
  where
    put : (s : ℕ) → ((s == 0) || false) ≡ true → live_in 0 3 s ≡ true
    put zero h = refl
    put (suc s) h = absurd (true≢false (sym h ∙ rw (ne_eqb (suc s) 0 (λ e. omega (arith, e))) refl))
is_live zero (suc (suc (suc (suc zero)))) slots i s at h =
    subst (λ k. before update live_in (record { unit = zero; place = 4; slots = slots }) k s ≡ true) (sym (same_Some instr.Ret i at)) h
is_live zero (suc (suc (suc (suc (suc p))))) slots i s at h = absurd (none-some i at)
is_live (suc u) p slots i s at h = absurd (none-some i at)

pub update_live : IsLiveness update live_in
update_live f i s at h = is_live f.unit f.place f.slots i s at h

-- a world at the `put`, with this in slot 1
abbrev at_put : Value → World
at_put x = record {
  activities = record {
    frame = record { unit = 0; place = 3; slots = value.Number (pos 1) ∷ x ∷ [] };
    callers = [];
    status = status.Running;
    since = 0;
    opened = 0;
    governed = root;
  } ∷ [];
  clocks = [];
  cells = pos 0 ∷ [];
  steps = 3;
  arguments = [];
}

pub dead_number : AreAlikeWhereLive live_in (at_put (value.Number (pos 1))) (at_put value.Unset)
dead_number = refl

pub dead_clock : AreAlikeWhereLive live_in (at_put (value.Clock 7)) (at_put (value.Number (pos 2)))
dead_clock = refl
