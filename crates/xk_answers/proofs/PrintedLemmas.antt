-- What is printed of a result, part by part.
use Rattle.std.proofs.Common.{◌≡◌, Option, None, Some, option_map, refl}
use Rattle.std.proofs.lemmas.List.{append-nil}
use Rattle.std.specs.Prelude.{◌++◌, is_some}
use Rattle.xk_answers.specs.declared.job_result.Done.{Done}
use Rattle.xk_answers.specs.declared.job_result.Done.TheVariants as done
use Rattle.xk_answers.specs.Printed.{done_ending, done_front, done_text}

-- the two parts of what is printed
pub parts_of_text : (d : Done) → done_front d ++ done_ending d ≡ done_text d
parts_of_text (done.Compiled text) = refl
parts_of_text (done.Accepted steps activities clocks) = refl
parts_of_text (done.Told text whole) = append-nil text.items
parts_of_text (done.Outcomes text whole log) = append-nil text.items
parts_of_text (done.Held text found) = append-nil text.items
parts_of_text (done.Ended printed steps rounds log) = refl

-- what is made of something is there where that is
pub made_there : {X Y : Type 0} (f : X → Y) (o : Option X) → is_some o ≡ is_some (option_map f o)
made_there f None = refl
made_there f (Some x) = refl
