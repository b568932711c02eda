-- What is told of how things stand, byte for byte, by evaluation.
use Rattle.std.proofs.Common.{◌≡◌, ℕ, ◌<◌, pos, [], ◌∷◌, Some, None, codes, refl, lit<}
use Rattle.std.specs.Fmt.{digits}
use Rattle.std.specs.Str.{chars, is_utf8}
use Rattle.std.specs.Str.Lossy.{utf8_lossy, utf8_valid_len}
use Rattle.serde_json.specs.Written.{compact_text}
use Rattle.serde_json.proofs.OnLiterals.{serde_json_on_literals}
use Rattle.xk_types.specs.declared.instr.Instr.TheVariants as instr
use Rattle.xk_types.specs.declared.unit.ParamKind.TheVariants as param
use Rattle.xk_types.specs.declared.unit.UnitKind.TheVariants as unit_kind
use Rattle.xk_types.specs.declared.world.Entry.{Entry}
use Rattle.xk_types.specs.Code.{ModuleValue}
use Rattle.xk_types.specs.Step.{under_within}
use Rattle.xk_types.proofs.Examples.Notation.{main_with, body_with, module_with}
use Rattle.xk_unit_origins.specs.UnitOrigins.{UnitOrigins}
use Rattle.xk_show_events.specs.Events.{no_text, places_of}
use Rattle.xk_where_json.specs.Standings.{where_value}

abbrev entry : (a n : ℕ) → 0 < n → Entry
entry a n some = record { act = a; steps = n; at_least_one = some }

-- ---- two activities in step: main waits for the other one, and is asked for a step more

abbrev in_step : ModuleValue
in_step = module_with (
    main_with 2 (instr.Make 0 ∷ instr.Spawn 1 (0 ∷ []) ∷ instr.Advance ∷ instr.Ret ∷ [])
    ∷ body_with (param.Clock ∷ []) 2 (instr.Advance ∷ instr.Ret ∷ [])
    ∷ [])

stopped_there : compact_text (where_value no_text [] in_step [] (entry 0 4 (lit< tt) ∷ []) (Some 4))
    ≡ codes "{\"activities\":[{\"act\":0,\"clocks\":[{\"clock\":0,\"standing\":\"signalled\"}],\"does\":\"waits for clocks\",\"place\":2,\"unit\":0},{\"act\":1,\"clocks\":[{\"clock\":0,\"standing\":\"open\"}],\"does\":\"can step\",\"place\":0,\"unit\":1}],\"clocks\":[{\"clock\":0,\"held_by\":[1],\"held_by_count\":1,\"phase\":0}],\"frames\":[{\"act\":0,\"place\":2,\"unit\":0},{\"act\":1,\"place\":0,\"unit\":1}],\"log_ends\":4,\"shared\":[],\"steps\":3,\"stopped\":{\"act\":0,\"does\":\"waits for clocks\",\"entry\":0,\"step\":4,\"steps\":4}}"
unfolding serde_json_on_literals digits
stopped_there = refl

-- ---- main awaits one whom it started in a finish

abbrev in_finish : ModuleValue
in_finish = module_with (
    main_with 0 (instr.Finish 2 ∷ instr.Spawn 1 [] ∷ instr.EndFinish 0 ∷ instr.Ret ∷ []) ∷ body_with [] 0 (instr.Ret ∷ []) ∷ [])

awaited_there : compact_text (where_value no_text [] in_finish [] (entry 0 2 (lit< tt) ∷ []) None)
    ≡ codes "{\"activities\":[{\"act\":0,\"clocks\":[],\"does\":\"waits in finish\",\"place\":2,\"unit\":0,\"waits_for\":[1],\"waits_for_count\":1},{\"act\":1,\"clocks\":[],\"does\":\"can step\",\"place\":0,\"unit\":1}],\"clocks\":[],\"frames\":[{\"act\":0,\"place\":2,\"unit\":0},{\"act\":1,\"place\":0,\"unit\":1}],\"shared\":[],\"steps\":2}"
unfolding serde_json_on_literals digits under_within
awaited_there = refl

-- ---- by names: main counts up to 3, by what it has read

abbrev counting : ModuleValue
counting = record {
  shared = pos 5 ∷ [];
  units = main_with 3 (
      instr.Get 0 0 ∷ instr.Copy 2 0 ∷ instr.ForTo 1 (pos 1) 2 (pos 3) 4 ∷ instr.AddTo 0 1 ∷ instr.Next 2 ∷ instr.Ret ∷ []) ∷ [];
}

abbrev of_main : UnitOrigins
of_main = record {
  head = record { at = 4; kind = unit_kind.Main; name = Some (codes "main") };
  offsets = [];
  slots = codes "t" ∷ codes "i" ∷ codes " " ∷ [];
}

by_names : compact_text (where_value (places_of [] (of_main ∷ [])) (codes "total" ∷ []) counting [] (entry 0 3 (lit< tt) ∷ []) None)
    ≡ codes "{\"activities\":[{\"act\":0,\"clocks\":[],\"does\":\"can step\",\"place\":3,\"unit\":0}],\"clocks\":[],\"frames\":[{\"act\":0,\"in\":\"main\",\"names\":[{\"name\":\"t\",\"number\":5},{\"name\":\"i\",\"number\":1},{\"name\":\"i\",\"up_to\":3}],\"place\":3,\"unit\":0}],\"shared\":[{\"name\":\"total\",\"shared\":0,\"value\":5}],\"steps\":3}"
unfolding serde_json_on_literals digits utf8_lossy utf8_valid_len is_utf8 chars
by_names = refl
