-- What is told of races, byte for byte, by evaluation.
use Rattle.std.proofs.Common.{◌≡◌, [], ◌∷◌, true, false, Some, None, pos, codes, refl}
use Rattle.std.specs.Fmt.{digits}
use Rattle.std.specs.Str.{chars, is_utf8}
use Rattle.std.specs.Str.Lossy.{utf8_lossy, utf8_valid_len}
use Rattle.serde_json.specs.Written.{compact_text}
use Rattle.serde_json.proofs.OnLiterals.{serde_json_on_literals}
use Rattle.xk_types.specs.declared.world.Event.TheVariants as event
use Rattle.xk_show_events.specs.Events.{no_text}
use Rattle.xk_show_names.specs.declared.accounts.Account.{Account}
use Rattle.xk_show_names.specs.declared.accounts.Subject.TheVariants as subject
use Rattle.xk_races_json.specs.declared.pairs.Pair.{Pair}
use Rattle.xk_races_json.specs.Races.{value_by}

free_text : compact_text (value_by no_text None [] true false (codes "races 0\n") true)
    ≡ codes "{\"every_schedule\":true,\"prints_in_order\":false,\"races\":[],\"text\":\"races 0\\n\",\"whole\":true}"
unfolding serde_json_on_literals digits utf8_lossy utf8_valid_len is_utf8 chars
free_text = refl

-- one who reads what another one writes
abbrev read_first : Account
read_first = record {
  step = record { number = 4; act = 0; unit = 0; place = 3; clocks = 0; activities = 2; event = event.Got };
  subject = subject.Shared 1;
  before = Some (pos 5);
  after = Some (pos 5);
}

abbrev written_then : Account
written_then = record {
  step = record { number = 6; act = 1; unit = 1; place = 0; clocks = 0; activities = 2; event = event.Put };
  subject = subject.Shared 1;
  before = Some (pos 5);
  after = Some (pos 7);
}

abbrev read_and_written : Pair
read_and_written = record { first = read_first; second = written_then }

-- the list was cut
race_text : compact_text (value_by no_text None (read_and_written ∷ []) false true (codes "races 1\n") false)
    ≡ codes "{\"every_schedule\":false,\"prints_in_order\":true,\"races\":[{\"first\":{\"act\":0,\"after\":5,\"before\":5,\"event\":\"read\",\"place\":3,\"shared\":1,\"step\":4,\"unit\":0},\"second\":{\"act\":1,\"after\":7,\"before\":5,\"event\":\"write\",\"place\":0,\"shared\":1,\"step\":6,\"unit\":1},\"shared\":1}],\"text\":\"races 1\\n\",\"whole\":false}"
unfolding serde_json_on_literals digits utf8_lossy utf8_valid_len is_utf8 chars
race_text = refl
