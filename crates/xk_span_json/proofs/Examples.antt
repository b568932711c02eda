-- What is told of how long a run had to take, byte for byte, by evaluation.
use Rattle.std.proofs.Common.{◌≡◌, ℕ, List, [], ◌∷◌, true, false, codes, refl}
use Rattle.std.specs.Fmt.{digits}
use Rattle.serde_json.specs.Written.{compact_text}
use Rattle.serde_json.proofs.OnLiterals.{serde_json_on_literals}
use Rattle.xk_types.specs.declared.world.Event.{Event}
use Rattle.xk_types.specs.declared.world.Event.TheVariants as event
use Rattle.xk_show_events.specs.declared.steps.RunStep.{RunStep}
use Rattle.xk_show_events.specs.Events.{no_text}
use Rattle.xk_races.specs.declared.deeds.Deed.{Deed}
use Rattle.xk_races.specs.declared.deeds.Part.{Part}
use Rattle.xk_races.specs.declared.deeds.Part.TheVariants as part
use Rattle.xk_span.specs.Steps.{steps_times}
use Rattle.xk_span_json.specs.Phases.{phase_value}
use Rattle.xk_span_json.specs.Span.{value_by}

abbrev taken : ℕ → ℕ → ℕ → Event → RunStep
taken number act place e = record { number = number; act = act; unit = act; place = place; clocks = 0; activities = 1; event = e }

abbrev deed_of : RunStep → Part → Deed
deed_of s p = record { step = s; part = p }

-- ---- a phase: of two who came, one came three rounds earlier

two_came : compact_text (phase_value no_text 0 1 (
    record { clock = 0; left = false; step = taken 3 0 2 event.Arrived; round = 2 }
    ∷ record { clock = 0; left = false; step = taken 7 1 4 event.Resumed; round = 5 } ∷ []))
    ≡ codes "{\"clock\":0,\"earlier\":[{\"act\":0,\"rounds\":3}],\"last\":[{\"act\":1,\"event\":\"resume\",\"place\":4,\"step\":7,\"unit\":1}],\"phase\":1,\"round\":5}"
unfolding serde_json_on_literals digits
two_came = refl

-- ---- main starts one, which goes on behind that

abbrev started : List Deed
started =
    deed_of (taken 1 0 0 event.Spawned) part.Print
    ∷ deed_of (taken 1 0 0 event.Spawned) (part.Start 1)
    ∷ deed_of (taken 2 1 0 event.Ended) part.Print
    ∷ deed_of (taken 2 1 0 event.Ended) part.End
    ∷ []

with_a_race : compact_text (value_by no_text false started (steps_times started))
    ≡ codes "{\"every_schedule\":false,\"lines\":[],\"path\":[{\"first\":{\"act\":0,\"event\":\"async\",\"place\":0,\"step\":1,\"unit\":0},\"last\":{\"act\":0,\"event\":\"async\",\"place\":0,\"step\":1,\"unit\":0},\"start\":1,\"stop\":1},{\"behind\":0,\"first\":{\"act\":1,\"event\":\"end\",\"place\":0,\"step\":2,\"unit\":1},\"last\":{\"act\":1,\"event\":\"end\",\"place\":0,\"step\":2,\"unit\":1},\"start\":2,\"stop\":2,\"why\":\"start\"}],\"phases\":[],\"processors\":[],\"span\":2,\"waits\":[],\"widest\":1,\"work\":2}"
unfolding serde_json_on_literals digits
with_a_race = refl

of_none : compact_text (value_by no_text true [] [])
    ≡ codes "{\"every_schedule\":true,\"lines\":[],\"path\":[],\"phases\":[],\"processors\":[{\"least\":0,\"most\":0,\"processors\":2},{\"least\":0,\"most\":0,\"processors\":4},{\"least\":0,\"most\":0,\"processors\":8}],\"span\":0,\"waits\":[],\"widest\":0,\"work\":0}"
unfolding serde_json_on_literals digits
of_none = refl
