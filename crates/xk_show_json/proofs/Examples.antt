-- What is told of runs, outcomes, a list and steps, byte for byte, by evaluation.
use Rattle.std.proofs.Common.{◌≡◌, [], ◌∷◌, true, false, Some, None, pos, negsuc, codes, refl}
use Rattle.std.specs.Fmt.{digits}
use Rattle.std.specs.Str.{chars, is_utf8}
use Rattle.std.specs.Str.Lossy.{utf8_lossy, utf8_valid_len}
use Rattle.serde_json.specs.Written.{compact_text}
use Rattle.serde_json.proofs.OnLiterals.{serde_json_on_literals}
use Rattle.xk_types.specs.declared.world.Event.TheVariants as event
use Rattle.xk_show_events.specs.Events.{no_text, places_of}
use Rattle.xk_show_names.specs.declared.accounts.Subject.TheVariants as subject
use Rattle.xk_show_names.specs.Events.{clock_word, shared_word}
use Rattle.xk_show_json.specs.Runs.{run_value}
use Rattle.xk_show_json.specs.Outcomes.{held_value, outcomes_value}
use Rattle.xk_show_json.specs.Events.{event_value}

run_text : compact_text (run_value (pos 1 ∷ negsuc 1 ∷ []) 12 None) ≡ codes "{\"ended\":true,\"printed\":[1,-2],\"steps\":12}"
unfolding serde_json_on_literals digits
run_text = refl

rounds_text : compact_text (run_value [] 12 (Some 5)) ≡ codes "{\"ended\":true,\"printed\":[],\"rounds\":5,\"steps\":12}"
unfolding serde_json_on_literals digits
rounds_text = refl

outcomes_text : compact_text (outcomes_value ((pos 10 ∷ pos 21 ∷ []) ∷ (pos 21 ∷ pos 10 ∷ []) ∷ [] ∷ []) false)
    ≡ codes "{\"complete\":false,\"outcomes\":[[10,21],[21,10],[]]}"
unfolding serde_json_on_literals digits
outcomes_text = refl

held_text : compact_text (held_value (codes "outcome 2 prints 21 10\n") (codes "refuted"))
    ≡ codes "{\"text\":\"outcome 2 prints 21 10\",\"verdict\":\"refuted\"}"
unfolding serde_json_on_literals digits utf8_lossy utf8_valid_len is_utf8 chars
held_text = refl

-- a step that adds to a shared number, in a module
add_text : compact_text (event_value no_text None (record {
  step = record { number = 9; act = 1; unit = 1; place = 5; clocks = 0; activities = 2; event = event.Added };
  subject = subject.Shared 0;
  before = Some (pos 3);
  after = Some (pos 8);
}))
    ≡ codes "{\"act\":1,\"after\":8,\"before\":3,\"event\":\"add\",\"place\":5,\"shared\":0,\"step\":9,\"unit\":1}"
unfolding serde_json_on_literals digits
add_text = refl

-- a step that prints
print_text : compact_text (event_value no_text None (record {
  step = record { number = 4; act = 0; unit = 0; place = 3; clocks = 0; activities = 1; event = event.Printed (negsuc 4) };
  subject = subject.Nothing;
  before = None;
  after = None;
}))
    ≡ codes "{\"act\":0,\"event\":\"print\",\"place\":3,\"printed\":-5,\"step\":4,\"unit\":0}"
unfolding serde_json_on_literals digits
print_text = refl
