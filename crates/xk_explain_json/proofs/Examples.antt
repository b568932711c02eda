-- What is said of a source text, a module's text and two programs, byte for byte, by evaluation.
use Rattle.std.proofs.Common.{◌≡◌, [], ◌∷◌, Some, None, codes, refl}
use Rattle.std.specs.Fmt.{digits}
use Rattle.std.specs.Str.{chars, is_utf8}
use Rattle.std.specs.Str.Lossy.{utf8_lossy, utf8_valid_len}
use Rattle.serde_json.specs.Written.{compact_text}
use Rattle.serde_json.proofs.OnLiterals.{serde_json_on_literals}
use Rattle.xk_types.specs.declared.rules.Rule.TheVariants as rule
use Rattle.xk_tree.specs.declared.fault.FrontRule.TheVariants as front
use Rattle.xk_explain.specs.declared.module_rule.ModuleRule.TheVariants as text
use Rattle.xk_explain_json.specs.Explanations.{accepted_value, bound_groups, front_value, module_value, notes_alone}
use Rattle.xk_json.specs.Objects.{object_of}

accepted_text : compact_text (accepted_value (codes "a.x10") None 19 2 1 [])
    ≡ codes "{\"accepted\":true,\"activities\":2,\"clocks\":1,\"file\":\"a.x10\",\"notes\":[],\"steps\":19}"
unfolding serde_json_on_literals digits
accepted_text = refl

bound_text : compact_text (object_of (notes_alone [] ∷ bound_groups (codes "a.x10") (record { rule = rule.Clocks; limit = 65536 })))
    ≡ codes "{\"accepted\":false,\"file\":\"a.x10\",\"limit\":65536,\"message\":\"a run may make too many clocks\",\"name\":\"Clocks\",\"notes\":[],\"repair\":\"make the clock outside of the loop: it can be used in many phases\",\"rule\":\"V16\"}"
unfolding serde_json_on_literals digits
bound_text = refl

module_text : compact_text (module_value (codes "a.json") text.NotAModule)
    ≡ codes "{\"accepted\":false,\"file\":\"a.json\",\"message\":\"this is JSON, and names no module\",\"name\":\"NotAModule\",\"repair\":\"`x10clock compile` prints modules as they are read\",\"rule\":\"M2\"}"
unfolding serde_json_on_literals digits
module_text = refl

-- two notes on a text of two lines, of which one has a place
front_text : compact_text (
    front_value (codes "a.x10") (codes "ab\ncd") (record { rule = front.DuplicateName; at = 4 })
    (record { at = Some 1; text = codes "b"; repair = None } ∷ record { at = None; text = codes "c"; repair = None } ∷ []))
    ≡ codes "{\"accepted\":false,\"column\":2,\"end_column\":3,\"end_line\":2,\"file\":\"a.x10\",\"line\":2,\"message\":\"this name is visible here already, or another method has it\",\"name\":\"DuplicateName\",\"notes\":[{\"column\":2,\"end_column\":3,\"end_line\":1,\"line\":1,\"text\":\"b\"},{\"text\":\"c\"}],\"repair\":\"take another name\",\"rule\":\"F6\"}"
unfolding serde_json_on_literals digits utf8_lossy utf8_valid_len is_utf8 chars
front_text = refl
