use Rattle.std.proofs.Common.{List, ℕ, Option, Bor, inl, option_map, subst, sym}
use Rattle.x10clock.specs.Requests.{TellsUnopened}
use Rattle.x10clock.proofs.tell_unopened.Goals as goal

pub returns-in-Some : goal.returns-in-Some
returns-in-Some g c =
    subst (λ (o : Option (Bor (List ℕ))). TellsUnopened (option_map (λ path. path.now) o) c.args.why (g.E.Sink.contents c.args.err.now)
    (g.E.Sink.contents c.tell_named.new.err) (g.E.Sink.fault_count c.args.err.now) (g.E.Sink.fault_count c.tell_named.new.err)
    c.tell_named.result) (sym c.in-Some.is) c.tell_named.ensures

pub returns-in-None : goal.returns-in-None
returns-in-None g c =
    subst (λ (o : Option (Bor (List ℕ))). TellsUnopened (option_map (λ path. path.now) o) c.args.why (g.E.Sink.contents c.args.err.now)
    (g.E.Sink.contents c.tell.new.err) (g.E.Sink.fault_count c.args.err.now) (g.E.Sink.fault_count c.tell.new.err)
    c.tell.result) (sym c.in-None.is) (inl c.tell.ensures)
