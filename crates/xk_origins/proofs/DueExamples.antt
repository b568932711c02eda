-- The premises of the law are met by a small program, and what it says of a run of that one, by evaluation.
use Rattle.std.proofs.Common.{◌≡◌, ℕ, List, [], ◌∷◌, ◌++◌, map, codes, None, refl}
use Rattle.xk_types.specs.declared.instr.Comparison.TheVariants as comparison
use Rattle.xk_types.specs.declared.instr.Instr.TheVariants as instr
use Rattle.xk_types.specs.World.{World, opening}
use Rattle.xk_types.specs.Step.{step}
use Rattle.xk_types.specs.Schedule.{Course, Through, Held, Wronged, run, Leads}
use Rattle.xk_tree.specs.Tree.{Statement, Assign, IfElse}
use Rattle.xk_names.proofs.WellScopedLaw.{scoped_tree}
use Rattle.xk_emit.specs.CodeOf.{Setting, code_of}
use Rattle.xk_source_semantics.specs.Parts.{Part, OfBody, parts}
use Rattle.xk_source_semantics.specs.Source.{Do, SourceWorld, source_step, source_opening}
use Rattle.xk_source_semantics.specs.Meaning.{Goes, moments}
use Rattle.xk_source_semantics.proofs.Examples.{w, lit, var, val_is, print, block, reading, reading_code}
use Rattle.xk_law_compiler.proofs.PremiseExample.{reading_compiled, reading_clean, one_body, few}
use Rattle.xk_origins.specs.Origin.{Does, Leaves, origins}
use Rattle.xk_origins.specs.Due.{IsDue, IsDueAt, at_once, behind_else, origins_of, HasRunBeside}
use Rattle.xk_origins.proofs.DueLaw.{runs_beside}

-- ---- `async { s = 5; } val r = s; val q = s; println(r); println(q);`

-- the law holds of it
reading_beside : (list : List ℕ) (w : World) → Leads reading_code list w
    → HasRunBeside reading reading_code (parts reading) (moments (step reading_code) list (opening reading_code w.arguments)) w
reading_beside = runs_beside reading reading_code (scoped_tree reading reading_clean) one_body few reading_compiled

-- It has legal runs. Here main has started the other one, and that has brought its 5.
abbrev last_of : Course → World
last_of (Through w) = w
last_of (Held w) = w
last_of (Wronged w c) = w

abbrev brought : World
brought = last_of (run reading_code (0 ∷ 1 ∷ []) (opening reading_code []))

reading_leads : Leads reading_code (0 ∷ 1 ∷ []) brought
reading_leads = (refl, refl)

-- main stands at place 1 of unit 0, and the other one at place 1 of unit 1
reading_places : map {B = ℕ × ℕ} (λ act. (act.frame.unit, act.frame.place)) brought.activities ≡ (0, 1) ∷ (1, 1) ∷ []
reading_places = refl

abbrev s_is_5 : Statement
s_is_5 = Assign (w (codes "s")) (lit 5)

body_origins : origins_of reading (parts reading) 1 ≡ Does s_is_5 ∷ Does s_is_5 ∷ Leaves (OfBody 0 None (block (s_is_5 ∷ []))) ∷ []
body_origins = refl

-- In the source main has started the other one, which has the assignment to do: that a number has been brought for it is no step there.
abbrev source_goes : (v : SourceWorld) × Goes (source_step reading) (0 ∷ []) (source_opening reading []) v
source_goes = (_, (_, _, refl, refl))

source_todo : map (λ act. act.frame.todo) source_goes.0.activities
    ≡ (Do (val_is (codes "r") (var (codes "s"))) ∷ Do (val_is (codes "q") (var (codes "s"))) ∷ Do (print (var (codes "r"))) ∷ Do (print (var (codes "q"))) ∷ [])
    ∷ (Do s_is_5 ∷ []) ∷ []
source_todo = refl

main_due : IsDueAt reading reading_code (parts reading) 0 1
    (Do (val_is (codes "r") (var (codes "s"))) ∷ Do (val_is (codes "q") (var (codes "s"))) ∷ Do (print (var (codes "r"))) ∷ Do (print (var (codes "q"))) ∷ [])
main_due = at_once 1 (Does (val_is (codes "r") (var (codes "s")))) refl (_, refl)

body_due : IsDueAt reading reading_code (parts reading) 1 1 (Do s_is_5 ∷ [])
body_due = at_once 1 (Does s_is_5) refl ([], refl)

-- ---- a jump over an `else`: if (1 == 1) OUT.println(2); else OUT.println(3);

abbrev choice : Statement
choice = IfElse 3 (lit 1) comparison.Eq (lit 1) (print (lit 2)) (print (lit 3))

abbrev whole : Part
whole = OfBody 0 None choice

abbrev bare : Setting
bare = record { shared = []; methods = []; bodies = [] }

-- at the jump, behind what is printed, nothing is left to do
over_due : IsDue (code_of bare 0 [] 0 0 choice ++ instr.Ret ∷ []) (origins [] choice ++ Leaves whole ∷ []) [] 5
over_due = behind_else 5 8 3 (lit 1) comparison.Eq (lit 1) (print (lit 2)) (print (lit 3)) refl refl (at_once 8 (Leaves whole) refl refl)
