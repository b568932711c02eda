-- Small listings.
use Rattle.std.proofs.Common.{◌≡◌, ℕ, pos, true, false, List, [], ◌∷◌, ◌++◌, Some, replicate, refl}
use Rattle.std.specs.Prelude.{codes}
use Rattle.std.specs.Fmt.{digits}
use Rattle.std.specs.Str.{chars, is_utf8}
use lib.Utf8.{encode}
use Rattle.xk_types.specs.declared.instr.Comparison.TheVariants as comparison
use Rattle.xk_types.specs.declared.instr.Instr.TheVariants as instr
use Rattle.xk_types.specs.declared.unit.UnitKind.TheVariants as unit_kind
use Rattle.xk_types.specs.Code.{ModuleValue}
use Rattle.xk_typestate.specs.KindSet.{KindsValue}
use Rattle.xk_unit_origins.specs.UnitOrigins.{UnitOrigins}
use Rattle.xk_lines.specs.Signs.{signs}
use Rattle.xk_listing.specs.Words.{one, three, unless, forto_loop, next_argument, words}
use Rattle.xk_listing.specs.Fields.{at_left, at_right, clock_at, clock_item, line_text, origin_field, place_title, slots_field}
use Rattle.xk_listing.specs.Listing.{head_place, kinds_field, line_front, listing, module_clocks, module_head, module_line, module_unit, slot_count, source_head, source_line, source_unit, unit_front, unit_name, unit_slots, unit_text}

-- ---- words

compared : words (instr.Unless comparison.Le 2 1 4) ≡ codes "unless le 2 1 4"
unfolding unless three digits
compared = refl

started : words (instr.Spawn 1 (0 ∷ 2 ∷ [])) ≡ codes "spawn 1 (0 2)"
unfolding one next_argument digits
started = refl

counted : words (instr.ForTo 2 (pos 1) 3 (pos 8) 4) ≡ codes "forto 2 1 3 8 4"
unfolding forto_loop digits
counted = refl

-- ---- clocks

abbrev live : KindsValue
live = record { unset = false; number = false; live = true; resumed = false; out = false }

abbrev out : KindsValue
out = record { unset = false; number = false; live = false; resumed = false; out = true }

abbrev unset : KindsValue
unset = record { unset = true; number = false; live = false; resumed = false; out = false }

-- a slot that has no name in the text is told by its number
two_kinds : clock_item (codes "c" ∷ codes " " ∷ []) 1 (record live { resumed = true }) ≡ codes " 1:live|resumed"
unfolding digits
two_kinds = refl

-- of a name of 61 letters 60 are told, and `..`: but as a whole in the head of the unit that declares it
cut : clock_item (replicate 61 99 ∷ []) 0 live ≡ codes " " ++ replicate 60 99 ++ codes "..:live"
cut = refl

no_cut : clock_item (replicate 60 99 ∷ []) 0 live ≡ codes " " ++ replicate 60 99 ++ codes ":live"
no_cut = refl

taken_and_declared : slots_field (replicate 61 99 ∷ replicate 61 100 ∷ []) 1 2
    ≡ codes "slots 0:" ++ replicate 60 99 ++ codes ".. 1:" ++ replicate 61 100
unfolding digits
taken_and_declared = refl

-- ---- a program: `def main() { val c = Clock.make(); c.drop(); }`, in lines

abbrev text : List ℕ
text = codes "def main() {\n  val c = Clock.make();\n  c.drop();\n}"

abbrev program : ModuleValue
program = record {
  shared = [];
  units = record { kind = unit_kind.Main; params = []; slots = 1; code = instr.Make 0 ∷ instr.Drop 0 ∷ instr.Ret ∷ [] } ∷ [];
}

abbrev main : UnitOrigins
main = record {
  head = record { at = 4; kind = unit_kind.Main; name = Some (codes "main") };
  offsets = 19 ∷ 39 ∷ 49 ∷ [];
  slots = codes "c" ∷ [];
}

abbrev kinds : List (List (List KindsValue))
kinds = ((unset ∷ live ∷ out ∷ []) ∷ []) ∷ []

listed : listing text (main ∷ []) program (Some kinds) ≡ codes "unit 0  def main  1:5  slots 0:c\n"
    ++ (codes "   0  make 0                                       2:7      val c = Clock.make();\n"
    ++ (codes "   1  drop 0             c:live                    3:3      c.drop();\n"
    ++ (codes "   2  ret                c:out                     4:1      }\n")))
unfolding unit_text source_unit source_head unit_front unit_name unit_slots head_place source_line line_front kinds_field clock_at origin_field one at_left at_right place_title line_text signs is_utf8 chars encode digits
listed = refl

of_module : listing [] [] program (Some kinds) ≡ codes "unit 0  main  slots 1\n"
    ++ (codes "   0  make 0\n"
    ++ (codes "   1  drop 0             0:live\n"
    ++ (codes "   2  ret                0:out\n")))
unfolding unit_text module_unit module_head unit_front slot_count module_line module_clocks clock_at one at_left at_right digits
of_module = refl
