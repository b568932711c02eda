use Rattle.std.proofs.Common.{sym, ap, ◌∙◌, length}
use Rattle.xk_registrations.specs.Standings.{told_of}
use Rattle.xk_registrations.proofs.AllRegistrationsLemmas.{length-told}
use Rattle.xk_registrations.proofs.standings.Standings.clock_count.Goals as goal

pub returns : goal.returns
returns c = c.len.ensures ∙ sym (length-told _ _ _) ∙ ap (λ s. length (told_of s)) c.self.view_is
