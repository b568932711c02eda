use Rattle.std.proofs.Common.{◌≡◌, ◌∙◌, ℕ, ◌+◌, Bool, true, refl, sym, ap, subst}
use Rattle.xk_types.specs.declared.instr.Instr.TheVariants as instr
use Rattle.xk_closed_sets.specs.Footprint.{is_set}
use Rattle.xk_closed_sets.specs.Footprints.{rest_of}
use Rattle.xk_closed_sets.proofs.ReadLemmas.{one_reads}
use Rattle.xk_closed_sets.proofs.reads.+reads_waiting.Goals as goal

pub returns : goal.returns
returns t c =
    let rest = rest_of c.args.footprints.now in
    one_reads c.args.frames.now c.up.new.self rest c.reads_at-behind.result c.reads_waiting.result
    (ap (λ (b : Bool). (b, c.up.new.self)) (sym c.if-not-up.false) ∙ c.up.ensures)
    (λ d s. c.reads_at-behind.ensures d s
    ∙ ap (λ u. rest u (c.place.result + 1) (instr.Get d s)) c.unit.ensures
    ∙ ap (λ p. rest c.up.new.self.frame.unit (p + 1) (instr.Get d s)) c.place.ensures)
    c.reads_waiting.ensures
