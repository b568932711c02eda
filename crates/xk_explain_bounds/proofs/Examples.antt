-- Notes on small programs, by evaluation.
use Rattle.std.proofs.Common.{◌≡◌, ℕ, pos, List, [], ◌∷◌, map, codes, Option, Some, None, refl}
use Rattle.xk_types.specs.declared.instr.Instr.{Instr}
use Rattle.xk_types.specs.declared.instr.Instr.TheVariants as instr
use Rattle.xk_types.specs.declared.unit.ParamKind.TheVariants as param
use Rattle.xk_types.specs.declared.unit.UnitKind.TheVariants as unit_kind
use Rattle.xk_types.specs.Code.{ModuleValue, UnitValue}
use Rattle.xk_types.proofs.Examples.Notation.{body_with, main_only, main_with, method_with, module_with}
use Rattle.xk_unit_origins.specs.UnitOrigins.{UnitOrigins}
use Rattle.xk_explain.specs.Notes.{NoteValue}
use Rattle.xk_explain_bounds.specs.declared.remark.Deed.TheVariants as deed
use Rattle.xk_explain_bounds.specs.declared.remark.Fact.{Fact}
use Rattle.xk_explain_bounds.specs.declared.remark.Fact.TheVariants as fact
use Rattle.xk_explain_bounds.specs.declared.remark.Remark.{Remark}
use Rattle.xk_explain_bounds.specs.declared.remark.Subject.TheVariants as subject
use Rattle.xk_explain_bounds.specs.Amounts.{amount}
use Rattle.xk_explain_bounds.specs.OtherPlaces.{home_remarks, registers_remarks}
use Rattle.xk_explain_bounds.specs.Parts.{sum_remarks}
use Rattle.xk_explain_bounds.specs.Words.{loop_words, most_words, note_of, times_words}
use Rattle.std.specs.Fmt.{digits}

-- ---- sums

-- three turns of four turns
abbrev nested : ModuleValue
nested = main_only 2
    (instr.For 0 (pos 1) (pos 3) 3 ∷ instr.For 1 (pos 1) (pos 4) 2 ∷ instr.Next 1 ∷ instr.Next 0 ∷ instr.Ret ∷ [])

-- a method that is called in a loop, and makes a clock; it starts an activity
abbrev calling : ModuleValue
calling = module_with (
    main_with 1 (instr.For 0 (pos 1) (pos 5) 2 ∷ instr.Call 1 [] ∷ instr.Next 0 ∷ instr.Ret ∷ [])
    ∷ method_with [] 1 (instr.Make 0 ∷ instr.Spawn 2 [] ∷ instr.Drop 0 ∷ instr.Ret ∷ [])
    ∷ body_with [] 0 (instr.Ret ∷ []) ∷ [])

abbrev place : ℕ → ℕ → Fact → Remark
place unit at f = record { unit = unit; at = Some at; fact = f }

abbrev whole : ℕ → Fact → Remark
whole unit f = record { unit = unit; at = None; fact = f }

nested_steps : sum_remarks subject.Steps nested ≡ place 0 0 (fact.Loop 3 3) ∷ place 0 1 (fact.Loop 4 12) ∷ whole 0 (fact.Steps 20) ∷ []
unfolding Rattle.xk_types.specs.Bound.total_within
nested_steps = refl

calling_clocks : sum_remarks subject.Clocks calling
    ≡ place 0 0 (fact.Loop 5 5) ∷ place 0 1 (fact.Call 1 5) ∷ whole 0 (fact.Clocks 5)
    ∷ place 1 0 (fact.Make 1) ∷ place 1 1 (fact.Start 2 1) ∷ whole 1 (fact.Clocks 1) ∷ whole 2 (fact.Clocks 0) ∷ []
unfolding Rattle.xk_types.specs.Bound.total_within
calling_clocks = refl

calling_stack : sum_remarks subject.Stack calling
    ≡ place 0 1 (fact.Call 1 5) ∷ whole 0 (fact.Slots 1 2) ∷ whole 1 (fact.Slots 1 1) ∷ whole 2 (fact.Slots 0 0) ∷ []
unfolding Rattle.xk_types.specs.Bound.chain_within
calling_stack = refl

-- of one that is accepted, what its numbers come from
calling_accepted : sum_remarks subject.Accepted calling ≡ place 0 0 (fact.Loop 5 5) ∷ place 1 0 (fact.Make 1) ∷ place 1 1 (fact.Start 2 1) ∷ []
calling_accepted = refl

-- ---- words

abbrev main_origins : UnitOrigins
main_origins = record {
  head = record { at = 4; kind = unit_kind.Main; name = Some (codes "main") };
  offsets = 20 ∷ 31 ∷ 40 ∷ 41 ∷ 43 ∷ [];
  slots = codes "i" ∷ codes "j" ∷ [];
}

loop_note : note_of (main_origins ∷ []) (place 0 1 (fact.Loop 4 12))
    ≡ record { at = Some 31; text = codes "this loop has 4 turns each time, 12 in one run of main"; repair = None }
unfolding loop_words digits
loop_note = refl

steps_note : note_of (main_origins ∷ []) (whole 0 (fact.Steps 20)) ≡ record { at = Some 4; text = codes "main takes 20 steps at most"; repair = None }
unfolding most_words digits
steps_note = refl

by_number : note_of [] (place 0 1 (fact.Call 1 1)) ≡ record { at = None; text = codes "unit 0 at 1: unit 1 is called here 1 time in one run of unit 0"; repair = None }
unfolding times_words digits
by_number = refl

greatest : amount 1000000000000000001 ≡ codes "over 1000000000000000000"
greatest = refl

-- ---- other places

-- a clock that is made outside of a finish, and handed on in it
abbrev handed : UnitValue
handed = main_with 1 (instr.Make 0 ∷ instr.Finish 3 ∷ instr.Spawn 1 (0 ∷ []) ∷ instr.EndFinish 1 ∷ instr.Drop 0 ∷ instr.Ret ∷ [])

abbrev handing : ModuleValue
handing = module_with (handed ∷ body_with (param.Clock ∷ []) 1 (instr.Ret ∷ []) ∷ [])

made_outside : registers_remarks handing 0 handed 2 (instr.Spawn 1 (0 ∷ []))
    ≡ place 0 0 (fact.Made 0) ∷ place 0 1 fact.Open ∷ place 0 2 (fact.Waits 0 deed.Started) ∷ []
made_outside = refl

-- a slot that takes its clocks in two blocks
abbrev twice : UnitValue
twice = main_with 1 (instr.Make 0 ∷ instr.Drop 0 ∷ instr.Finish 5 ∷ instr.Make 0 ∷ instr.Drop 0 ∷ instr.EndFinish 2 ∷ instr.Ret ∷ [])

made_before : home_remarks 0 twice 3 (instr.Make 0) ≡ place 0 0 (fact.Made 0) ∷ []
made_before = refl

-- a method that drops a clock that it is lent
lent : home_remarks 1 (method_with (param.Clock ∷ []) 1 (instr.Drop 0 ∷ instr.Ret ∷ [])) 0 (instr.Drop 0) ≡ whole 1 (fact.Outside 0) ∷ []
lent = refl
