-- Races are plain values.
use Rattle.std.proofs.Common.{◌≡◌, List, Option, subst, sym, arith}
use Rattle.serde_json.specs.Data.{Data}
use Rattle.xk_json.specs.Objects.{array_of}
use Rattle.xk_json.specs.Plain.{IsPlain}
use Rattle.xk_json.proofs.ObjectLemmas.{array_plain, plain_deeper}
use Rattle.xk_json.proofs.PlainLemmas.{object_of_plain}
use Rattle.xk_show_events.specs.Events.{PlacesValue}
use Rattle.xk_show_names.specs.ClockNames.{NamesValue}
use Rattle.xk_show_json.proofs.EventLemmas.{event_plain, subject_flat}
use Rattle.xk_races_json.specs.declared.pairs.Pair.{Pair}
use Rattle.xk_races_json.specs.Races.{race_groups, race_value}

race_plain : (p : PlacesValue) (names : Option NamesValue) (x : Pair) → IsPlain 2 (race_value p names x)
race_plain p names x =
    object_of_plain 1 (race_groups p names x)
    ((event_plain p names x.first, tt), ((event_plain p names x.second, tt), (subject_flat 1 names x.first.subject, tt)))

pub races_fit : (p : PlacesValue) (names : Option NamesValue) (pairs : List Pair) (d : Data) → d ≡ array_of (race_value p names) pairs
    → IsPlain 4 d
races_fit p names pairs d e =
    subst (λ v. IsPlain 4 v) (sym e)
    (plain_deeper 3 4 (array_of (race_value p names) pairs) (omega arith) (array_plain 2 (race_value p names) (race_plain p names) pairs))
