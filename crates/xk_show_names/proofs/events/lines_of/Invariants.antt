use Rattle.std.proofs.Common.{◌≡◌, take, string_bytes}
use Rattle.xk_show_names.specs.Events.{line_at}
use Rattle.xk_show_events.specs.Worlds.{each_below}
use Rattle.xk_show_names.specs.Writers.{AreWriters}
use Rattle.xk_show_names.proofs.events.lines_of.Given as goal

-- the lines of the steps so far are written, and which of them wrote each shared number last is known
abbrev pub invariant-loop-account : goal.invariant-loop-account
invariant-loop-account l =
    (string_bytes l.text ≡ each_below (line_at l.places l.names l.steps) l.account-index)
    × AreWriters l.writers (take l.account-index l.steps)
