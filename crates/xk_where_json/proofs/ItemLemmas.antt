-- What is told of a slot, or of a shared number, where there is one.
use Rattle.std.proofs.Common.{◌≡◌, ◌∙◌, ◌≤◌, ◌<◌, ℕ, ℤ, List, [], ◌∷◌, ◌++◌, length, get_or, Option, Result, slice_get, OnOk, refl, ap, subst, sym}
use Rattle.std.proofs.lemmas.List.{append-nil}
use Rattle.std.proofs.lemmas.Option.{slice_get_past, slice_get_read}
use Rattle.serde_json.specs.Data.{Data}
use Rattle.xk_types.specs.declared.instr.Instr.{Instr}
use Rattle.xk_types.specs.declared.world.Value.{Value}
use Rattle.xk_where_json.specs.Frames.{held_items, slot_items}
use Rattle.xk_where_json.specs.Standings.{shared_if, shared_value}

pub slot_past : (names : List (List ℕ)) (code : List Instr) (slots : List Value) (s : ℕ) (vs : List Data) → length slots ≤ s
    → vs ≡ vs ++ slot_items names code slots s
slot_past names code slots s vs past =
    sym (ap (λ (o : Option Value). vs ++ held_items names code s o) (slice_get_past slots s past) ∙ append-nil vs)

pub cell_past : (name : Option (List ℕ)) (s : ℕ) (cells : List ℤ) (vs : List Data) → length cells ≤ s
    → vs ≡ vs ++ shared_if name s (slice_get cells s)
cell_past name s cells vs past = sym (ap (λ (o : Option ℤ). vs ++ shared_if name s o) (slice_get_past cells s past) ∙ append-nil vs)

pub cell_there : {A E : Type 0} (r : Result A E) (name : Option (List ℕ)) (s : ℕ) (cells : List ℤ) (n : ℤ) (vs new : List Data)
    → s < length cells → n ≡ get_or cells s n → OnOk r (new ≡ vs ++ shared_value name s n ∷ [])
    → OnOk r (new ≡ vs ++ shared_if name s (slice_get cells s))
cell_there r name s cells n vs new within is told =
    subst (λ (o : Option ℤ). OnOk r (new ≡ vs ++ shared_if name s o)) (sym (slice_get_read cells (length cells) s n refl within is)) told
