-- A run of two activities that race for a shared number whose name isn't known, as it is told.
use Rattle.std.proofs.Common.{◌≡◌, ℕ, ◌<◌, pos, List, [], ◌∷◌, ◌++◌, None, refl, lit<}
use Rattle.std.specs.Prelude.{codes}
use Rattle.std.specs.Fmt.{digits}
use Rattle.std.specs.Str.{chars, is_utf8}
use lib.Utf8.{encode}
use Rattle.xk_types.specs.declared.instr.Instr.TheVariants as instr
use Rattle.xk_types.specs.declared.unit.UnitKind.{UnitKind}
use Rattle.xk_types.specs.declared.unit.UnitKind.TheVariants as unit_kind
use Rattle.xk_types.specs.declared.world.Entry.{Entry}
use Rattle.xk_types.specs.Code.{ModuleValue}
use Rattle.xk_types.proofs.Examples.Notation.{body_with, main_with, module_with}
use Rattle.xk_lines.specs.Signs.{signs}
use Rattle.xk_unit_origins.specs.UnitOrigins.{UnitOrigins}
use Rattle.xk_show_events.specs.Events.{PlacesValue, places_of}
use Rattle.xk_show_names.specs.Events.{change_words, shared_word, value_words}
use Rattle.xk_races.specs.Text.{count_line, most_shown}
use Rattle.xk_show_races.specs.Text.{access_line, head_line, named_races_text}

abbrev entry : (a n : ℕ) → 0 < n → Entry
entry a n some = record { act = a; steps = n; at_least_one = some }

-- main starts an activity, reads a shared number, which is 3 at first, and adds it to itself; the other one writes 5
abbrev raced : ModuleValue
raced = record (module_with (
    main_with 1 (instr.Spawn 1 [] ∷ instr.Get 0 0 ∷ instr.AddTo 0 0 ∷ instr.Ret ∷ [])
    ∷ body_with [] 1 (instr.Lit 0 (pos 5) ∷ instr.Put 0 0 ∷ instr.Ret ∷ [])
    ∷ [])) { shared = pos 3 ∷ [] }

abbrev unit_at : ℕ → UnitKind → List ℕ → UnitOrigins
unit_at at kind offsets = record { head = record { at = at; kind = kind; name = None }; offsets = offsets; slots = [] }

-- the accesses stand at 2:5, 2:1 and 3:2
abbrev source : PlacesValue
source = places_of (codes "\nx = t;\n\tt = 5;")
    (unit_at 0 unit_kind.Main (0 ∷ 5 ∷ 1 ∷ 0 ∷ []) ∷ unit_at 0 unit_kind.Body (9 ∷ 9 ∷ 9 ∷ []) ∷ [])

-- the other one writes between main's accesses: both race with its write
abbrev log : List Entry
log = entry 0 2 (lit< tt) ∷ entry 1 2 (lit< tt) ∷ entry 0 1 (lit< tt) ∷ []

both_told : named_races_text source [] raced [] log
    ≡ codes "race on shared 0\nstep 2 act 0 at 2:5 read shared 0 3\n   |\n 2 | x = t;\n   |     ^\n"
    ++ (codes "step 4 act 1 at 3:2 write shared 0 5\n   |\n 3 |  t = 5;\n   |  ^\n"
    ++ (codes "race on shared 0\nstep 4 act 1 at 3:2 write shared 0 5\n   |\n 3 |  t = 5;\n   |  ^\n"
    ++ codes "step 5 act 0 at 2:1 add shared 0 5 -> 8\n   |\n 2 | x = t;\n   | ^\nraces 2\nof this run alone\n"))
unfolding access_line head_line shared_word value_words change_words count_line most_shown signs is_utf8 chars encode digits
both_told = refl
