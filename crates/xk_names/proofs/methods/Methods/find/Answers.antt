use Rattle.std.proofs.Common.{◌∙◌, ap, sym, map, option_map}
use Rattle.std.proofs.lemmas.Map.Made.{lookup-map_values}
use Rattle.xk_tree.specs.Tree.{param_value}
use Rattle.xk_names.specs.Scope.{find, is_text}
use Rattle.xk_names.proofs.methods.Methods.find.Goals as goal

pub returns : goal.returns
returns c =
    ap (option_map (λ ps. map param_value ps.now)) c.find.ensures
    ∙ sym (lookup-map_values (λ ps. map param_value ps.now) (is_text c.args.name.now) c.self.inside.params)
    ∙ ap (λ t. find t c.args.name.now) c.self.view_is
