use Rattle.std.proofs.Common.{◌∙◌, ap, sym, arith}
use Rattle.xk_names.specs.Scope.{find}
use Rattle.xk_names.proofs.TableLemmas.{shown, not_found, found_within, found_item}
use Rattle.xk_names.proofs.table.Table.find.Goals as goal

pub returns-in_err-place : goal.returns-in_err-place
returns-in_err-place g c =
    c.from_residual.ensures
    ∙ sym (not_found (shown c.self.inside.entries.items) c.self.inside.places c.args.text.now c.self.invariant (sym c.in_err-place.ensures.value))
    ∙ ap (λ t. find t c.args.text.now) c.self.view_is

pub index-requires : goal.index-requires
index-requires g c =
    let within = found_within c.self.inside.entries.items c.self.inside.places c.args.text.now c.in_ok-place.field-0.now c.self.invariant c.in_ok-place.ensures.value in
    let len = c.self.inside.entries.ok.0 in
    omega arith

pub returns : goal.returns
returns g c =
    found_item c.self.inside.entries.items c.self.inside.places c.args.text.now c.in_ok-place.field-0.now c.index.result.now c.self.invariant c.in_ok-place.ensures.value
    c.index.ensures
    ∙ ap (λ t. find t c.args.text.now) c.self.view_is
