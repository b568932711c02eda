-- Four modules, and the text of each, byte for byte, by evaluation.
use Rattle.std.proofs.Common.{◌≡◌, pos, List, [], ◌∷◌, codes, refl}
use Rattle.std.specs.Fmt.{digits}
use Rattle.serde_json.specs.Written.{compact_text}
use Rattle.serde_json.proofs.OnLiterals.{serde_json_on_literals}
use Rattle.xk_types.specs.declared.instr.Comparison.TheVariants as comparison
use Rattle.xk_types.specs.declared.instr.Instr.{Instr}
use Rattle.xk_types.specs.declared.instr.Instr.TheVariants as instr
use Rattle.xk_types.specs.declared.unit.UnitKind.TheVariants as unit_kind
use Rattle.xk_types.specs.declared.unit.ParamKind.TheVariants as param
use Rattle.xk_types.specs.Code.{UnitValue, ModuleValue, module_of}
use Rattle.xk_module.specs.ModuleText.{module_value}

abbrev main_with : List Instr → UnitValue
main_with code = record { kind = unit_kind.Main; params = []; slots = 2; code = code }

-- an activity that is handed a clock
abbrev starts : ModuleValue
starts = module_of [] (
    main_with (instr.Make 0 ∷ instr.Spawn 1 (0 ∷ []) ∷ instr.Advance ∷ instr.Lit 1 (pos 1) ∷ instr.Print 1 ∷ instr.Ret ∷ [])
    ∷ record { kind = unit_kind.Body; params = param.Clock ∷ []; slots = 2; code = instr.Advance ∷ instr.Lit 1 (pos 2) ∷ instr.Print 1 ∷ instr.Ret ∷ [] }
    ∷ [])

starts_text : compact_text (module_value starts)
    ≡ codes "{\"shared\":[],\"units\":[{\"code\":[[\"make\",0],[\"spawn\",1,[0]],[\"advance\"],[\"lit\",1,1],[\"print\",1],[\"ret\"]],\"kind\":\"main\",\"params\":\"\",\"slots\":2},{\"code\":[[\"advance\"],[\"lit\",1,2],[\"print\",1],[\"ret\"]],\"kind\":\"body\",\"params\":\"c\",\"slots\":2}],\"version\":1}"
unfolding serde_json_on_literals digits
starts_text = refl

-- a comparison
abbrev branches : ModuleValue
branches = module_of [] (
    record {
      kind = unit_kind.Main;
      params = [];
      slots = 3;
      code =
          instr.Make 0 ∷ instr.Lit 1 (pos 1) ∷ instr.Lit 2 (pos 1) ∷ instr.Unless comparison.Eq 1 2 5 ∷ instr.Drop 0 ∷ instr.Resume 0 ∷ instr.Ret ∷ [];
    }
    ∷ [])

branches_text : compact_text (module_value branches)
    ≡ codes "{\"shared\":[],\"units\":[{\"code\":[[\"make\",0],[\"lit\",1,1],[\"lit\",2,1],[\"unless\",\"eq\",1,2,5],[\"drop\",0],[\"resume\",0],[\"ret\"]],\"kind\":\"main\",\"params\":\"\",\"slots\":3}],\"version\":1}"
unfolding serde_json_on_literals digits
branches_text = refl

-- a loop in a finish, and a shared number
abbrev adds : ModuleValue
adds = module_of (pos 0 ∷ []) (
    main_with (instr.Finish 4 ∷ instr.For 0 (pos 1) (pos 3) 3 ∷ instr.Spawn 1 (0 ∷ []) ∷ instr.Next 1 ∷ instr.EndFinish 0 ∷ instr.Get 1 0 ∷ instr.Print 1 ∷ instr.Ret ∷ [])
    ∷ record { kind = unit_kind.Body; params = param.Number ∷ []; slots = 1; code = instr.AddTo 0 0 ∷ instr.Ret ∷ [] }
    ∷ [])

adds_text : compact_text (module_value adds)
    ≡ codes "{\"shared\":[0],\"units\":[{\"code\":[[\"finish\",4],[\"for\",0,1,3,3],[\"spawn\",1,[0]],[\"next\",1],[\"endfinish\",0],[\"get\",1,0],[\"print\",1],[\"ret\"]],\"kind\":\"main\",\"params\":\"\",\"slots\":2},{\"code\":[[\"addto\",0,0],[\"ret\"]],\"kind\":\"body\",\"params\":\"n\",\"slots\":1}],\"version\":1}"
unfolding serde_json_on_literals digits
adds_text = refl

-- a loop that goes up to a number that main is given, and no further than 10
abbrev squares : ModuleValue
squares = module_of [] (
    record {
      kind = unit_kind.Main;
      params = param.Number ∷ [];
      slots = 4;
      code =
          instr.Lit 1 (pos 0) ∷ instr.Mul 3 0 0 ∷ instr.ForTo 2 (pos 1) 3 (pos 10) 4 ∷ instr.Add 1 1 2 ∷ instr.Next 2 ∷ instr.Print 1 ∷ instr.Ret ∷ [];
    }
    ∷ [])

squares_text : compact_text (module_value squares)
    ≡ codes "{\"shared\":[],\"units\":[{\"code\":[[\"lit\",1,0],[\"mul\",3,0,0],[\"forto\",2,1,3,10,4],[\"add\",1,1,2],[\"next\",2],[\"print\",1],[\"ret\"]],\"kind\":\"main\",\"params\":\"n\",\"slots\":4}],\"version\":2}"
unfolding serde_json_on_literals digits
squares_text = refl
