use Rattle.std.proofs.Common.{◌∙◌, ap, sym, take}
use Rattle.std.proofs.lemmas.List.{take-map}
use Rattle.xk_names.proofs.TableLemmas.{names}
use Rattle.xk_names.proofs.CaptureStepLemmas.{cut_texts, cut_own}
use Rattle.xk_names.proofs.table.Texts.cut.Goals as goal

pub returns-clause-behind : goal.returns-clause-behind
returns-clause-behind c = λ before ws e h.
    ap names c.truncate.ensures ∙ sym (take-map _ c.args.len c.self.inside.names) ∙ ap (take c.args.len) c.self.view_is
    ∙ cut_texts before c.args.self.now ws c.args.len e h

pub returns-clause-after : goal.returns-clause-after
returns-clause-after c = λ before ss e h.
    ap names c.truncate.ensures ∙ sym (take-map _ c.args.len c.self.inside.names) ∙ ap (take c.args.len) c.self.view_is
    ∙ cut_own before c.args.self.now ss c.args.len e h
