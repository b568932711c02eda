-- The table of kinds, entry kinds, the rule on homes, and what a start hands on, by evaluation.
use Rattle.std.proofs.Common.{◌≡◌, ℕ, pos, List, [], ◌∷◌, inl, refl, true, false, map, arith}
use Rattle.xk_types.specs.declared.instr.Instr.{Instr}
use Rattle.xk_types.specs.declared.instr.Instr.TheVariants as instr
use Rattle.xk_types.specs.declared.unit.UnitKind.TheVariants as unit_kind
use Rattle.xk_types.specs.declared.unit.ParamKind.TheVariants as param
use Rattle.xk_types.specs.declared.rules.Rule.TheVariants as rule
use Rattle.xk_types.specs.declared.rules.Kind.TheVariants as kind
use Rattle.xk_types.specs.Code.{UnitValue, ModuleValue}
use Rattle.xk_types.specs.Schedule.{Course, Through, Held, Wronged, run}
use Rattle.xk_types.specs.Walk.{After, To, Refused, row, entry_kinds, IsRefusedAt}
use Rattle.xk_types.specs.Shape.{breaks}
use Rattle.xk_types.proofs.Examples.Notation.{fresh, each_kind}

abbrev unit_of : Instr → UnitValue
unit_of i = record { kind = unit_kind.Main; params = []; slots = 2; code = i ∷ instr.Ret ∷ [] }

-- the table's row of slot 0 for each kind
abbrev rows_at : Instr → List After
rows_at i = map (λ k. row (record { shared = []; units = unit_of i ∷ [] }) (unit_of i) 0 (record { at = 0; kind = k })) each_kind

-- written with a number: what a registered clock's name was is lost
rows_lit : rows_at (instr.Lit 0 (pos 1)) ≡ To (kind.Number ∷ []) ∷ To (kind.Number ∷ []) ∷ Refused rule.Leak ∷ Refused rule.Leak ∷ To (kind.Number ∷ []) ∷ []
rows_lit = refl

rows_make : rows_at (instr.Make 0) ≡ To (kind.Live ∷ []) ∷ To (kind.Live ∷ []) ∷ Refused rule.Leak ∷ Refused rule.Leak ∷ To (kind.Live ∷ []) ∷ []
rows_make = refl

-- read before it is written
rows_add : rows_at (instr.Add 0 0 1) ≡ Refused rule.Use ∷ To (kind.Number ∷ []) ∷ Refused rule.Use ∷ Refused rule.Use ∷ Refused rule.Use ∷ []
rows_add = refl

rows_print : rows_at (instr.Print 0) ≡ Refused rule.Use ∷ To (kind.Number ∷ []) ∷ Refused rule.Use ∷ Refused rule.Use ∷ Refused rule.Use ∷ []
rows_print = refl

rows_resume : rows_at (instr.Resume 0) ≡ Refused rule.Use ∷ Refused rule.Use ∷ To (kind.Resumed ∷ []) ∷ To (kind.Resumed ∷ []) ∷ Refused rule.Use ∷ []
rows_resume = refl

rows_drop : rows_at (instr.Drop 0) ≡ Refused rule.Use ∷ Refused rule.Use ∷ To (kind.Out ∷ []) ∷ To (kind.Out ∷ []) ∷ Refused rule.Use ∷ []
rows_drop = refl

rows_advance : rows_at instr.Advance ≡ To (kind.Unset ∷ []) ∷ To (kind.Number ∷ []) ∷ To (kind.Live ∷ []) ∷ To (kind.Live ∷ []) ∷ To (kind.Out ∷ []) ∷ []
rows_advance = refl

-- a slot that the instruction doesn't name stays as it is; `ret` of main loses nothing
rows_ret : rows_at instr.Ret ≡ map (λ k. To (k ∷ [])) each_kind
rows_ret = refl

rows_others : rows_at (instr.Make 1) ≡ map (λ k. To (k ∷ [])) each_kind
rows_others = refl

-- main, and a body with one parameter that makes a clock in slot 0 and one in slot 1
abbrev home_row : ModuleValue
home_row = record {
  shared = [];
  units =
      record { kind = unit_kind.Main; params = []; slots = 1; code = instr.Make 0 ∷ instr.Ret ∷ [] }
      ∷ record { kind = unit_kind.Body; params = param.Number ∷ []; slots = 2; code = instr.Make 1 ∷ instr.Make 0 ∷ instr.Ret ∷ [] }
      ∷ [];
}

-- a parameter is made: a breach; a slot of the unit's own: none
home : (breaks home_row rule.Home 0 0 ≡ false) × (breaks home_row rule.Home 1 0 ≡ false) × (breaks home_row rule.Home 1 1 ≡ true)
home = (refl, refl, refl)

abbrev entry_unit : UnitValue
entry_unit = record { kind = unit_kind.Body; params = param.Number ∷ param.Clock ∷ []; slots = 3; code = instr.Ret ∷ [] }

entries : (entry_kinds entry_unit 0 ≡ kind.Number ∷ []) × (entry_kinds entry_unit 1 ≡ kind.Live ∷ kind.Resumed ∷ []) × (entry_kinds entry_unit 2 ≡ kind.Unset ∷ [])
entries = (refl, refl, refl)

-- a clock that was never made is dropped: the walk of one stop ends at the refusal
drop_refused_at : IsRefusedAt (record { shared = []; units = unit_of (instr.Drop 0) ∷ [] }) 0 0 (record { at = 0; kind = kind.Unset }) rule.Use
drop_refused_at = record {
  u = unit_of (instr.Drop 0);
  found = refl;
  slot = omega arith;
  visited = (record { at = 0; kind = kind.Unset } ∷ [], (refl, inl refl, tt), refl);
  refused = refl;
}

-- main passes in its third step, and what it starts then begins with that number
abbrev since_row : ModuleValue
since_row = record {
  shared = [];
  units =
      record { kind = unit_kind.Main; params = []; slots = 1; code = instr.Make 0 ∷ instr.Advance ∷ instr.Spawn 1 (0 ∷ []) ∷ instr.Ret ∷ [] }
      ∷ record { kind = unit_kind.Body; params = param.Clock ∷ []; slots = 1; code = instr.Ret ∷ [] }
      ∷ [];
}

abbrev passes : Course → List ℕ
passes (Through w) = map (λ act. act.since) w.activities
passes (Held w) = []
passes (Wronged w c) = []

since_handed_on : passes (run since_row (0 ∷ 0 ∷ 0 ∷ 0 ∷ []) (fresh since_row)) ≡ 3 ∷ 3 ∷ []
since_handed_on = refl
