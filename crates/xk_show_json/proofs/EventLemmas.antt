-- What is told of a step is plain: it has no float, and no value in it has parts.
use Rattle.std.proofs.Common.{◌≡◌, refl, ℕ, ℤ, pos, negsuc, List, [], ◌∷◌, Option, Some, None, codes, subst, sym, arith}
use Rattle.std.specs.Prelude.{option_map}
use Rattle.xk_types.specs.declared.world.Event.{Event}
use Rattle.xk_types.specs.declared.world.Event.TheVariants as event
use Rattle.xk_lines.specs.declared.lines.Position.{Position}
use Rattle.xk_show_events.specs.declared.steps.RunStep.{RunStep}
use Rattle.xk_show_events.specs.Events.{PlacesValue, origin_of}
use Rattle.xk_show_names.specs.declared.accounts.Account.{Account}
use Rattle.xk_show_names.specs.declared.accounts.Subject.{Subject}
use Rattle.xk_show_names.specs.declared.accounts.Subject.TheVariants as subject
use Rattle.xk_show_names.specs.ClockNames.{NamesValue}
use Rattle.xk_show_names.specs.Events.{clock_word, shared_word}
use Rattle.serde_json.specs.Data.{Data}
use Rattle.xk_json.specs.Plain.{IsPlain}
use Rattle.xk_json.proofs.ObjectLemmas.{plain_deeper}
use Rattle.xk_json.proofs.PlainLemmas.{AreFlat, number_plain, object_of_plain, text_plain}
use Rattle.xk_show_json.specs.Events.{event_groups, event_value, name_member, operand_member, origin_members, step_members, subject_members}
use Rattle.xk_show_json.specs.Events.{value_member}

pub step_flat : (n : ℕ) (s : RunStep) → AreFlat n (step_members s)
step_flat n s = (number_plain _, (text_plain _, (number_plain _, (number_plain _, (number_plain _, tt)))))

pub origin_flat : (n : ℕ) (o : Option Position) → AreFlat n (origin_members o)
origin_flat n None = tt
origin_flat n (Some p) = (number_plain _, (number_plain _, tt))

operand_flat : (n : ℕ) (e : Event) → AreFlat 0 (operand_member n e)
operand_flat n (event.Printed (pos i)) = (record { no_float = refl; nests = omega arith }, tt)
operand_flat n (event.Printed (negsuc i)) = (record { no_float = refl; nests = omega arith }, tt)
operand_flat n event.Spawned = (number_plain _, tt)
operand_flat n event.Local = tt
operand_flat n event.Made = tt
operand_flat n event.Got = tt
operand_flat n event.Put = tt
operand_flat n event.Added = tt
operand_flat n event.Opened = tt
operand_flat n event.Closed = tt
operand_flat n event.Resumed = tt
operand_flat n event.Dropped = tt
operand_flat n event.Arrived = tt
operand_flat n event.Passed = tt
operand_flat n event.Ended = tt

name_flat : (d : ℕ) (name : Option (List ℕ)) → AreFlat d (name_member name)
name_flat d None = tt
name_flat d (Some name) = (text_plain _, tt)

pub subject_flat : (d : ℕ) (names : Option NamesValue) (s : Subject) → AreFlat d (subject_members names s)
subject_flat d names subject.Nothing = tt
subject_flat d names (subject.Clock c) = (number_plain _, name_flat d (option_map (λ n. clock_word n c) names))
subject_flat d names (subject.Shared s) = (number_plain _, name_flat d (option_map (λ n. shared_word n s) names))

value_flat : (key : List ℕ) (value : Option ℤ) → AreFlat 0 (value_member key value)
value_flat key None = tt
value_flat key (Some (pos i)) = (record { no_float = refl; nests = omega arith }, tt)
value_flat key (Some (negsuc i)) = (record { no_float = refl; nests = omega arith }, tt)

pub event_plain : (p : PlacesValue) (names : Option NamesValue) (a : Account) → IsPlain 1 (event_value p names a)
event_plain p names a =
    object_of_plain 0 (event_groups p names a) (
      step_flat 0 a.step,
      (
        origin_flat 0 (origin_of p a.step.unit a.step.place),
        (
          operand_flat a.step.activities a.step.event,
          (subject_flat 0 names a.subject, (value_flat (codes "before") a.before, (value_flat (codes "after") a.after, tt))),
        ),
      ),
    )

-- within an object
pub event_fits : (p : PlacesValue) (names : Option NamesValue) (a : Account) (d : Data) → d ≡ event_value p names a → IsPlain 4 d
event_fits p names a d e = subst (λ v. IsPlain 4 v) (sym e) (plain_deeper 1 4 (event_value p names a) (omega arith) (event_plain p names a))
