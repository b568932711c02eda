-- Arrays and objects as lists.
use Rattle.std.proofs.Common.{◌≡◌, ℕ, List, [], ◌∷◌, Some, option_map, refl, sym, ap, ◌∙◌, String, string_bytes}
use Rattle.std.specs.declared.alloc.Global.{Global}
use Rattle.serde_json.specs.Data.{Data}
use Rattle.serde_json.specs.Find.{as_array, as_object}
use Rattle.serde_json.specs.View.{view, items_of, items_view, members_view}
use Rattle.serde_json.specs.declared.value.Value.{Value}
use Rattle.xk_module.specs.ModuleReader.{listed, listed_members, views, member_views, array_at, object_at}

-- the items of a list are that list
pub listed-items_of : (ds : List Data) → listed (items_of ds) ≡ ds
listed-items_of [] = refl
listed-items_of (d ∷ ds) = ap (λ (xs : List Data). d ∷ xs) (listed-items_of ds)

-- the members of an object, one after another
listed_members-view : (ms : List (String Global × Value)) → listed_members (members_view ms) ≡ member_views ms
listed_members-view [] = refl
listed_members-view (m ∷ ms) = ap (λ (xs : List (List ℕ × Data)). (string_bytes m.0, view m.1) ∷ xs) (listed_members-view ms)

-- what an array has inside
pub array_views : (d : Data) (vs : List Value) → Some (items_view vs) ≡ as_array d → array_at d ≡ Some (views vs)
array_views d vs e = ap (option_map listed) (sym e) ∙ ap Some (listed-items_of (views vs))

-- what an object has inside
pub object_views : (d : Data) (ms : List (String Global × Value)) → Some (members_view ms) ≡ as_object d → object_at d ≡ Some (member_views ms)
object_views d ms e = ap (option_map listed_members) (sym e) ∙ ap Some (listed_members-view ms)
