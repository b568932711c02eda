-- There is no such instruction.
use Rattle.std.proofs.Common.{◌≡◌, ◌∙◌, ◌++◌, None, slice_get, sym, ap}
use Rattle.std.proofs.lemmas.List.{append-nil}
use Rattle.std.proofs.lemmas.Option.{slice_get_past}
use Rattle.xk_why.specs.Data.{instr_flows_if}
use Rattle.xk_why.proofs.data.push_data.Goals as goal

pub returns-in-None : goal.returns-in-None
returns-in-None c =
    let list = c.args.list.now.items in
    let code = c.args.code.now in
    let place = c.args.spot.now.step.place in
    let none : slice_get code place ≡ None = slice_get_past code place c.in-None.ensures.lookup.3 in
    sym (append-nil list) ∙ ap (λ o. list ++ instr_flows_if code c.args.spot.now o) (sym none)
