-- A ticket is accepted by a core where its state accepts it; and its activity runs there.
use Rattle.std.proofs.Common.{◌≡◌, ℕ, ◌<◌, Bool, true, List, length, sym, subst, ◌∙◌}
use Rattle.std.specs.Bool.{Decides}
use Rattle.xk_types.specs.Code.{ModuleValue}
use Rattle.xk_types.specs.World.{World}
use Rattle.xk_finishes.specs.Tree.{NodeValue}
use Rattle.xk_activity.specs.Ticket.{TicketValue, IsWalked}
use Rattle.xk_core.specs.Core.{CoreValue, is_running}
use Rattle.xk_core.specs.FinishView.{with_finishes}
use Rattle.xk_core.specs.TicketAcceptance.{Accepts}
use Rattle.xk_core.proofs.FinishViewLemmas.{length_told}
use Rattle.xk_core.proofs.FinishTreeLemmas.{IsHeld}
use Rattle.xk_core.proofs.NextLocalLemmas.{frames_told}
use Rattle.xk_core.proofs.EndLemmas.{walked_runs}

abbrev told : ModuleValue → List NodeValue → World → CoreValue
told m ns w = record { module_run = m; world = with_finishes ns w }

abbrev apart : ModuleValue → World → CoreValue
apart m w = record { module_run = m; world = w }

module _ (m : ModuleValue) (ns : List NodeValue) (w : World) (h : IsHeld m ns w) (t : TicketValue) (now : CoreValue) (is : told m ns w ≡ now) where
  -- what the core accepts, the world with its finishes does
  with_them : Accepts now t → Accepts (told m ns w) t
  with_them q = subst (λ (v : CoreValue). Accepts v t) (sym is) q

  -- and so does its state
  pub as_before : Accepts now t → Accepts (apart m w) t
  as_before q =
      let there : t.act < length w.activities = subst (λ (n : ℕ). t.act < n) (length_told ns w.activities h.are.width) (with_them q).0 in
      (there, frames_told m ns w h.are.width t.act there ∙ (with_them q).1)

  -- what the state accepts, the core does
  accepted_now : Accepts (apart m w) t → Accepts now t
  accepted_now q = subst (λ (v : CoreValue). Accepts v t) is
      (subst (λ (n : ℕ). t.act < n) (sym (length_told ns w.activities h.are.width)) q.0, sym (frames_told m ns w h.are.width t.act q.0) ∙ q.1)

  -- the state decides
  pub decided : (s : Bool) → Decides s (Accepts (apart m w) t) → Decides s (Accepts now t)
  decided s d = (λ q. accepted_now (d.0 q), λ q. d.1 (as_before q))

  -- the activity of a ticket that is accepted runs in the world with its finishes
  pub runs_told : Accepts now t → (n : ℕ) → IsWalked t.old n t.new → is_running (with_finishes ns w) t.act ≡ true
  runs_told q n walked = walked_runs m (with_finishes ns w) h.core t (with_them q) n walked
