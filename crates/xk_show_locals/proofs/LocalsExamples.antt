-- Small frames: what is told of them.
use Rattle.std.proofs.Common.{◌≡◌, pos, List, [], ◌∷◌, ℕ, Some, refl}
use Rattle.std.specs.Prelude.{codes}
use Rattle.std.specs.Fmt.{digits}
use Rattle.xk_types.specs.declared.instr.Instr.{Instr}
use Rattle.xk_types.specs.declared.instr.Instr.TheVariants as instr
use Rattle.xk_types.specs.declared.world.Value.TheVariants as value
use Rattle.xk_types.specs.declared.unit.UnitKind.TheVariants as unit_kind
use Rattle.xk_types.specs.declared.world.Status.TheVariants as status
use Rattle.xk_types.specs.World.{Activity, Frame, root}
use Rattle.xk_types.proofs.Examples.Notation.{main_with, module_with}
use Rattle.xk_unit_origins.specs.UnitOrigins.{UnitOrigins}
use Rattle.xk_show_events.specs.Events.{places_of}
use Rattle.xk_show_locals.specs.Locals.{bound_words, caller_front, clock_words, frame_line, frame_words, front, lines_of, number_words}

-- `val c = Clock.make(); for (i in 1..Math.min(n, 3)) { val t = ..; clocked finish ..`
abbrev names : List (List ℕ)
names = codes "n" ∷ codes "c" ∷ codes "i" ∷ codes "  " ∷ codes "t" ∷ codes " " ∷ []

abbrev code : List Instr
code = instr.Make 1 ∷ instr.ForTo 2 (pos 1) 3 (pos 3) 5 ∷ instr.Lit 4 (pos 5) ∷ []

-- the number in the text is the lesser one
within : frame_words names code (
    value.Number (pos 7) ∷ value.Clock 0 ∷ value.Number (pos 2) ∷ value.Number (pos 7) ∷ value.Number (pos 5)
    ∷ value.Clock 1 ∷ value.Number (pos 9) ∷ [])
    ≡ codes ", n = 7, c is clock 0, i = 2, i up to 3, t = 5"
unfolding digits number_words clock_words bound_words
within = refl

-- it isn't, and what is unset isn't told
unset : frame_words names code (
    value.Number (pos 2) ∷ value.Unset ∷ value.Number (pos 1) ∷ value.Number (pos 2) ∷ value.Unset ∷ value.Unset ∷ [])
    ≡ codes ", n = 2, i = 1, i up to 2"
unfolding digits number_words clock_words bound_words
unset = refl

abbrev of_unit : UnitOrigins
of_unit = record { head = record { at = 4; kind = unit_kind.Main; name = Some (codes "main") }; offsets = []; slots = codes "x" ∷ [] }

abbrev holding : Frame
holding = record { unit = 0; place = 0; slots = value.Number (pos 10) ∷ [] }

alone : frame_line (of_unit ∷ []) (module_with (main_with 1 [] ∷ [])) 2 holding ≡ codes "act 2 in main, x = 10\n"
unfolding digits number_words front
alone = refl

-- no name is known of another unit
other : frame_line (of_unit ∷ []) (module_with (main_with 1 [] ∷ [])) 2 (record holding { unit = 1 }) ≡ []
other = refl

-- nothing to tell, no line
nothing : frame_line (of_unit ∷ []) (module_with (main_with 1 [] ∷ [])) 2 (record holding { slots = value.Unset ∷ [] }) ≡ []
nothing = refl

-- ---- those that called

abbrev of_work : UnitOrigins
of_work = record { head = record { at = 0; kind = unit_kind.Method; name = Some (codes "f") }; offsets = 3 ∷ 2 ∷ []; slots = codes "n" ∷ [] }

-- `f` called itself at the second line's first letter, and was called by main
abbrev called : Activity
called = record {
  frame = record { unit = 1; place = 0; slots = value.Unset ∷ [] };
  callers = record { unit = 1; place = 1; slots = value.Number (pos 7) ∷ [] } ∷ record holding { place = 0 } ∷ [];
  status = status.Running;
  since = 0;
  opened = 0;
  governed = root;
}

-- of the frame that it stands in nothing is set
outer : lines_of (places_of (codes "x\ny") (record of_unit { offsets = 0 ∷ [] } ∷ of_work ∷ [])) (module_with (main_with 1 [] ∷ [])) 2 called
    ≡ codes "act 2 called by f at 2:1, n = 7\nact 2 called by main at 1:1, x = 10\n"
unfolding digits number_words caller_front
outer = refl
