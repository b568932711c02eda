-- Notes, walks and further faults are plain values.
use Rattle.std.proofs.Common.{◌≡◌, ℕ, suc, Bool, true, false, cond, List, [], ◌∷◌, Option, Some, None, refl, sym, subst, arith}
use Rattle.std.specs.Prelude.{⊤}
use Rattle.std.specs.Option.{option_map_or}
use Rattle.serde_json.specs.Data.{Data, boolean, string, Members, no_members, put}
use Rattle.xk_types.specs.declared.rules.Visit.{Visit}
use Rattle.xk_tree.specs.declared.fault.FrontFault.{FrontFault}
use Rattle.xk_lines.specs.Lines.{position_of}
use Rattle.xk_unit_origins.specs.UnitOrigins.{UnitOrigins}
use Rattle.xk_explain.specs.Notes.{NoteValue}
use Rattle.xk_explain.specs.Explanations.{has_place, shown_at}
use Rattle.xk_explain.specs.SourceExplanations.{origin_at}
use Rattle.xk_json.specs.Objects.{array_of}
use Rattle.xk_json.specs.Plain.{IsPlain}
use Rattle.xk_explain_json.specs.Explanations.{FindingValue, finding_value, front_groups, front_place, front_value, place_members}
use Rattle.xk_explain_json.specs.Explanations.{note_alone, note_in, place_in, position_members, stop_alone, stop_in, stop_members, words}
use Rattle.xk_json.proofs.ObjectLemmas.{array_plain}
use Rattle.xk_json.proofs.PlainLemmas.{AreFlat, array_in, number_plain, object_of_plain, text_plain, truth_plain}

-- ---- notes

place_flat : (text : List ℕ) (at : Option ℕ) → AreFlat 0 (option_map_or (place_in text) at [])
place_flat text None = tt
place_flat text (Some at) = (number_plain _, (number_plain _, (number_plain _, (number_plain _, tt))))

note_in_plain : (text : List ℕ) (n : NoteValue) → IsPlain 1 (note_in text n)
note_in_plain text n =
    object_of_plain 0 (option_map_or (place_in text) n.at [] ∷ words n.text ∷ []) (place_flat text n.at, ((text_plain _, tt), tt))

note_alone_plain : (n : NoteValue) → IsPlain 1 (note_alone n)
note_alone_plain n = object_of_plain 0 (words n.text ∷ []) ((text_plain _, tt), tt)

pub notes_in_plain : (text : List ℕ) (notes : List NoteValue) (d : Data) → d ≡ array_of (note_in text) notes → IsPlain 4 d
notes_in_plain text notes d e = subst (λ v. IsPlain 4 v) (sym e) (array_in (note_in text) (note_in_plain text) notes)

pub notes_alone_plain : (notes : List NoteValue) (d : Data) → d ≡ array_of note_alone notes → IsPlain 4 d
notes_alone_plain notes d e = subst (λ v. IsPlain 4 v) (sym e) (array_in note_alone note_alone_plain notes)

-- ---- walks

stop_in_plain : (text : List ℕ) (u : UnitOrigins) (v : Visit) → IsPlain 1 (stop_in text u v)
stop_in_plain text u v =
    object_of_plain 0 (position_members (position_of text (origin_at text u v.at)) ∷ stop_members v ∷ [])
    ((number_plain _, (number_plain _, tt)), ((text_plain _, (number_plain _, tt)), tt))

stop_alone_plain : (v : Visit) → IsPlain 1 (stop_alone v)
stop_alone_plain v = object_of_plain 0 (stop_members v ∷ []) ((text_plain _, (number_plain _, tt)), tt)

pub walk_in_plain : (text : List ℕ) (u : UnitOrigins) (walk : List Visit) (d : Data) → d ≡ array_of (stop_in text u) walk → IsPlain 4 d
walk_in_plain text u walk d e = subst (λ v. IsPlain 4 v) (sym e) (array_in (stop_in text u) (stop_in_plain text u) walk)

pub walk_alone_plain : (walk : List Visit) (d : Data) → d ≡ array_of stop_alone walk → IsPlain 4 d
walk_alone_plain walk d e = subst (λ v. IsPlain 4 v) (sym e) (array_in stop_alone stop_alone_plain walk)

-- ---- further faults

front_place_flat : (text : List ℕ) (f : FrontFault) → AreFlat 2 (front_place text f)
front_place_flat text f = go (has_place f.rule)
  where
    go : (b : Bool) → AreFlat 2 (cond b (place_members text (shown_at text f)) [])
    go true = (number_plain _, (number_plain _, (number_plain _, (number_plain _, tt))))
    go false = tt

front_plain : (file text : List ℕ) (f : FrontFault) (notes : List NoteValue) → IsPlain 3 (front_value file text f notes)
front_plain file text f notes =
    object_of_plain 2 (front_groups file text f notes) (
      (array_plain 1 (note_in text) (note_in_plain text) notes, tt),
      (
        (truth_plain false, (text_plain _, (text_plain _, (text_plain _, (text_plain _, tt))))),
        (
          (text_plain _, tt),
          (front_place_flat text f, tt),
        ),
      ),
    )

pub further_plain : (file text : List ℕ) (fs : List FindingValue) (d : Data) → d ≡ array_of (finding_value file text) fs → IsPlain 4 d
further_plain file text fs d e =
    subst (λ v. IsPlain 4 v) (sym e) (array_plain 3 (finding_value file text) (λ x. front_plain file text x.0 x.1) fs)
