-- The steps of a path are as many as it weighs.
use Rattle.std.proofs.Common.{◌≡◌, ◌∙◌, ℕ, ◌+◌, Bool, true, false, List, [], ◌∷◌, ◌++◌, length, Option, Some, None}
use Rattle.std.proofs.Common.{slice_get, refl, ap, arith}
use Rattle.std.proofs.Common.{if◌then◌else◌, length-append}
use Rattle.std.specs.List.{flat_map}
use Rattle.std.proofs.lemmas.List.{length-reverse}
use Rattle.xk_races.specs.declared.deeds.Deed.{Deed}
use Rattle.xk_span.specs.Chains.{weight_of}
use Rattle.xk_span.specs.Paths.{path_of}
use Rattle.xk_span.specs.Steps.{critical_steps, is_step, step_at, step_in, steps_span, steps_weigh, weight_at}
use Rattle.xk_span.proofs.PathLaw.{path_is_exact}

one : (o : Option Deed) → length (step_in o) ≡ weight_at o
one None = refl
one (Some d) = by (is_step d.part)
  where
    by : (b : Bool) → length (if b then d.step ∷ [] else []) ≡ (if b then 1 else 0)
    by true = refl
    by false = refl

all : (ds : List Deed) (path : List ℕ) → length (flat_map (step_at ds) path) ≡ weight_of (steps_weigh ds) path
all ds [] = refl
all ds (j ∷ path) =
    let first = one (slice_get ds j) in
    let rest = all ds path in
    let both = length-append (step_at ds j) (flat_map (step_at ds) path) in
    omega (arith, first, rest, both)

pub path_is_as_long : (ds : List Deed) → length (critical_steps ds) ≡ steps_span ds
path_is_as_long ds =
    let path = path_of (steps_weigh ds) ds in
    length-reverse (flat_map (step_at ds) path) ∙ all ds path ∙ (path_is_exact (steps_weigh ds) ds).long
