-- a jump crosses an edge where the innermost round its two ends differ
use Rattle.std.proofs.Common.{sym, ap, ◌∙◌}
use Rattle.std.proofs.lemmas.Option.{slice_get_within}
use Rattle.xk_types.specs.Shape.{aims_well, is_crossing}
use Rattle.xk_types.proofs.ShapeLemmas.SpanLemmas.{ahead}
use Rattle.xk_shape.specs.Nesting.{begin_named}
use Rattle.xk_shape.proofs.LoopSlotLemmas.{crossed}
use Rattle.xk_shape.proofs.jumps.jumps_across.Goals as goal

pub returns-in-Unless : goal.returns-in-Unless
returns-in-Unless c =
    let u = c.args.u.now in
    let at = c.args.at in
    let i = c.args.instr.now in
    let t = c.in-Unless.target in
    let lies = ahead u at t (ap (aims_well u at) (sym c.in-Unless.is) ∙ c.requires.aimed) in
    c.is_parted.ensures u c.requires.nested c.requires.tables (slice_get_within u.code at i c.requires.here) lies.1
    ∙ crossed u at t i c.requires.here (ap begin_named c.in-Unless.is)
    ∙ ap (is_crossing u at) (sym c.in-Unless.is)

pub returns-in-Jump : goal.returns-in-Jump
returns-in-Jump c =
    let u = c.args.u.now in
    let at = c.args.at in
    let i = c.args.instr.now in
    let t = c.in-Jump.target in
    let lies = ahead u at t (ap (aims_well u at) (sym c.in-Jump.is) ∙ c.requires.aimed) in
    c.is_parted-in-Jump.ensures u c.requires.nested c.requires.tables (slice_get_within u.code at i c.requires.here) lies.1
    ∙ crossed u at t i c.requires.here (ap begin_named c.in-Jump.is)
    ∙ ap (is_crossing u at) (sym c.in-Jump.is)
