use Rattle.std.proofs.Common.{◌∙◌, List, ℕ, inl, subst}
use Rattle.xk_jobs.specs.Status.{status_device}
use Rattle.xk_serve.specs.Devices.{Tells}
use Rattle.x10clock.proofs.tell_named.Goals as goal

pub returns-in-Ok : goal.returns-in-Ok
returns-in-Ok g c =
    inl (subst (λ (l : List ℕ). Tells l status_device (g.E.Sink.contents c.args.err.now) (g.E.Sink.contents c.tell_bytes.new.err)
    (g.E.Sink.fault_count c.args.err.now) (g.E.Sink.fault_count c.tell_bytes.new.err) c.tell_bytes.result)
    (c.deref.ensures.value ∙ c.in-Ok.ensures) c.tell_bytes.ensures)
