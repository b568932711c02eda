-- An object, byte for byte, by evaluation: its keys in the order of the alphabet, whatever the order in which they are put.
use Rattle.std.proofs.Common.{◌≡◌, [], ◌∷◌, true, pos, negsuc, codes, refl}
use Rattle.std.specs.Fmt.{digits}
use Rattle.serde_json.specs.Data.{boolean, string}
use Rattle.serde_json.specs.Written.{compact_text}
use Rattle.serde_json.proofs.OnLiterals.{serde_json_on_literals}
use Rattle.xk_json.specs.Objects.{integer_value, integers_value, number_value, object_of}

object_text : compact_text (object_of (
    ((codes "steps", number_value 19) ∷ (codes "printed", integers_value (pos 5 ∷ negsuc 6 ∷ [])) ∷ [])
    ∷ ((codes "whole", boolean true) ∷ (codes "least", integer_value (negsuc 0)) ∷ (codes "name", string (codes "c")) ∷ [])
    ∷ []))
    ≡ codes "{\"least\":-1,\"name\":\"c\",\"printed\":[5,-7],\"steps\":19,\"whole\":true}"
unfolding serde_json_on_literals digits
object_text = refl
