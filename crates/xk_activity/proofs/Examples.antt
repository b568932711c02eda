-- Worked rows: a ticket of a small module, by evaluation.
use Rattle.std.proofs.Common.{◌≡◌, ℕ, pos, [], ◌∷◌, inl, inr, refl, ap, arith}
use Rattle.xk_types.specs.declared.instr.Instr.TheVariants as instr
use Rattle.xk_types.specs.declared.world.Value.{Value}
use Rattle.xk_types.specs.declared.world.Value.TheVariants as value
use Rattle.xk_types.specs.Code.{ModuleValue}
use Rattle.xk_types.specs.World.{main_of}
use Rattle.xk_types.proofs.Examples.Notation.{main_only}
use Rattle.xk_activity.specs.Local.{FramesValue}
use Rattle.xk_activity.specs.Activities.{ActivitiesValue}
use Rattle.xk_activity.specs.Ticket.{TicketValue, IsWalked, IsFor, Fits, handed_in}

-- main writes 5 to its slot, doubles it and prints it
abbrev doubling : ModuleValue
doubling = main_only 1 (instr.Lit 0 (pos 5) ∷ instr.Add 0 0 0 ∷ instr.Print 0 ∷ instr.Ret ∷ [])

abbrev main_at : ℕ → Value → FramesValue
main_at place v = record { module_run = doubling; frame = record { unit = 0; place = place; slots = v ∷ [] }; callers = [] }

abbrev main_first : FramesValue
main_first = main_at 0 value.Unset

-- tickets of its first step, and of its first two
abbrev one_step : TicketValue
one_step = record { act = 0; old = main_first; steps = 1; new = main_at 1 (value.Number (pos 5)) }

abbrev two_steps : TicketValue
two_steps = record { act = 0; old = main_first; steps = 2; new = main_at 2 (value.Number (pos 10)) }

one_walked : IsWalked one_step.old 1 one_step.new
one_walked = record { some = omega arith; ran = refl }

two_walked : IsWalked two_steps.old 2 two_steps.new
two_walked = record { some = omega arith; ran = refl }

-- who may take one step has the first ticket
for_one : IsFor 0 main_first 1 one_step
for_one = record { act = refl; old = refl; most = omega arith; stops = inl refl }

-- who may take ten has the second, as others can see a `print`, and not the first
for_ten : IsFor 0 main_first 10 two_steps
for_ten = record { act = refl; old = refl; most = omega arith; stops = inr refl }

not_for_ten : IsFor 0 main_first 10 one_step → ⊥
not_for_ten h = elim h.stops as (λ _. ⊥) [ inl e ↦ omega arith | inr e ↦ cc ]

-- main alone accepts it
abbrev main_alone : ActivitiesValue
main_alone = record { module_run = doubling; list = main_of doubling [] ∷ []; room = 1 }

accepted : Fits main_alone two_steps
accepted = (omega arith, refl)

-- main stands at its `print` then
main_then : handed_in main_alone two_steps ≡ record { module_run = doubling; list = record (main_of doubling []) { frame = two_steps.new.frame } ∷ []; room = 1 }
main_then = refl

-- which accepts it no more, nor is there an activity 1
not_again : Fits (handed_in main_alone two_steps) two_steps → ⊥
not_again h = let e = ap (λ (fs : FramesValue). fs.frame.place) h.1 in omega arith

not_for_another : Fits main_alone (record two_steps { act = 1 }) → ⊥
not_for_another h = let lt = h.0 in omega arith
