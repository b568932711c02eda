-- What stands against a log is one thing, and nothing stands against that of a whole run.
use Rattle.std.proofs.Common.{◌≡◌, ◌≢◌, ◌∙◌, ℕ, ℤ, List, refl, sym, ap, subst}
use Rattle.xk_types.specs.declared.world.Entry.{Entry}
use Rattle.xk_types.specs.Code.{ModuleValue}
use Rattle.xk_log.specs.Verdicts.{IsTruncated, IsWrongAt}
use Rattle.xk_log.specs.Verdicts as places
use Rattle.xk_log.proofs.VerdictLemmas as texts
use Rattle.xk_replay.specs.Replay.{IsWhole}
use Rattle.xk_replay.specs.Replay as replay
use Rattle.xk_replay.proofs.VerdictLemmas as logs
use Rattle.xk_program.specs.declared.fault.Fault.{Fault}
use Rattle.xk_program.specs.declared.fault.Fault.TheVariants as fault
use Rattle.xk_answers.specs.Results.{IsLogText, IsNoRun}
use Rattle.xk_program.specs.Lines.{status_of}

-- what the bytes of a log can be: a line is the first wrong one, they end too early, or they are the text of a log of which this holds
data Verdict : Type 0 where
  Wrong : ℕ → Verdict
  Cut : Verdict
  Of : replay.Verdict → Verdict

abbrev Says : ModuleValue → List ℤ → List ℕ → Verdict → Type 0
Says m args logged (Wrong line) = IsWrongAt logged line
Says m args logged Cut = IsTruncated logged
Says m args logged (Of v) = (es : List Entry) × IsLogText logged es × replay.Says m args es v

same_line : (n k : ℕ) → places.Wrong n ≡ places.Wrong k → n ≡ k
same_line n k e = cc

wrong_not_cut : (n : ℕ) → places.Wrong n ≡ places.Cut → ⊥
wrong_not_cut n e = cc

whole_not_wrong : (es : List Entry) (n : ℕ) → places.Whole es ≡ places.Wrong n → ⊥
whole_not_wrong es n e = cc

whole_not_cut : (es : List Entry) → places.Whole es ≡ places.Cut → ⊥
whole_not_cut es e = cc

same_entries : (es fs : List Entry) → places.Whole es ≡ places.Whole fs → es ≡ fs
same_entries es fs e = cc

-- the bytes are one log's at most
pub text_once : (logged : List ℕ) (es fs : List Entry) → IsLogText logged es → IsLogText logged fs → es ≡ fs
text_once logged es fs p q = same_entries es fs (texts.one_verdict logged (places.Whole es) (places.Whole fs) p q)

-- and no line of it is wrong, nor do they end too early
pub text_not_wrong : (logged : List ℕ) (line : ℕ) (es : List Entry) → IsLogText logged es → IsWrongAt logged line → ⊥
text_not_wrong logged line es p q = whole_not_wrong es line (texts.one_verdict logged (places.Whole es) (places.Wrong line) p q)

pub text_not_cut : (logged : List ℕ) (es : List Entry) → IsLogText logged es → IsTruncated logged → ⊥
text_not_cut logged es p q = whole_not_cut es (texts.one_verdict logged (places.Whole es) places.Cut p q)

module _ (m : ModuleValue) (args : List ℤ) (logged : List ℕ) where
  one_verdict : (v w : Verdict) → Says m args logged v → Says m args logged w → v ≡ w
  one_verdict (Wrong n) (Wrong k) p q = ap Wrong (same_line n k (texts.one_verdict logged (places.Wrong n) (places.Wrong k) p q))
  one_verdict (Wrong n) Cut p q = absurd (wrong_not_cut n (texts.one_verdict logged (places.Wrong n) places.Cut p q))
  one_verdict (Wrong n) (Of w) p q = absurd (whole_not_wrong q.0 n (texts.one_verdict logged (places.Whole q.0) (places.Wrong n) q.1 p))
  one_verdict Cut (Wrong k) p q = absurd (wrong_not_cut k (texts.one_verdict logged (places.Wrong k) places.Cut q p))
  one_verdict Cut Cut p q = refl
  one_verdict Cut (Of w) p q = absurd (whole_not_cut q.0 (texts.one_verdict logged (places.Whole q.0) places.Cut q.1 p))
  one_verdict (Of v) (Wrong k) p q = absurd (whole_not_wrong p.0 k (texts.one_verdict logged (places.Whole p.0) (places.Wrong k) p.1 q))
  one_verdict (Of v) Cut p q = absurd (whole_not_cut p.0 (texts.one_verdict logged (places.Whole p.0) places.Cut p.1 q))
  one_verdict (Of v) (Of w) p q =
      let same = text_once logged q.0 p.0 q.1 p.1 in
      ap Of (logs.one_verdict m args p.0 v w p.2 (subst (λ es. replay.Says m args es w) same q.2))

-- ---- faults

abbrev verdict_of : Fault → Verdict
verdict_of (fault.Grammar line) = Wrong line
verdict_of fault.Truncated = Cut
verdict_of (fault.NotEnabled i) = Of (replay.Stopped i)
verdict_of fault.NotEnded = Of replay.Unfinished
verdict_of _ = Of replay.Whole

abbrev fault_of : Verdict → Fault
fault_of (Wrong line) = fault.Grammar line
fault_of Cut = fault.Truncated
fault_of (Of (replay.Stopped i)) = fault.NotEnabled i
fault_of (Of replay.Unfinished) = fault.NotEnded
fault_of (Of replay.Whole) = fault.Device

-- a fault of the log tells what its bytes are
told : (m : ModuleValue) (args : List ℤ) (logged : List ℕ) (f : Fault) → IsNoRun m args logged f → status_of f ≢ 4
    → Says m args logged (verdict_of f) × (fault_of (verdict_of f) ≡ f)
told m args logged (fault.Text f) h not4 = absurd h
told m args logged (fault.Front f) h not4 = absurd h
told m args logged (fault.Refused r) h not4 = absurd h
told m args logged (fault.Arguments wants has) h not4 = absurd h
told m args logged (fault.Grammar line) h not4 = (h, refl)
told m args logged fault.Truncated h not4 = (h, refl)
told m args logged (fault.NotEnabled i) h not4 = (h, refl)
told m args logged fault.NotEnded h not4 = (h, refl)
told m args logged (fault.NoOutcome line) h not4 = absurd h
told m args logged fault.OutOfMemory h not4 = absurd (not4 refl)
told m args logged fault.Device h not4 = absurd h

pub no_run_once : (m : ModuleValue) (args : List ℤ) (logged : List ℕ) (f g : Fault) → IsNoRun m args logged f → IsNoRun m args logged g → status_of f ≢ 4 → status_of g ≢ 4 → f ≡ g
no_run_once m args logged f g p q n k =
    let here = told m args logged f p n in
    let there = told m args logged g q k in
    sym here.1 ∙ ap fault_of (one_verdict m args logged (verdict_of f) (verdict_of g) here.0 there.0) ∙ there.1

-- no fault is told of the log of a whole run
pub whole_not_refused : (m : ModuleValue) (args : List ℤ) (logged : List ℕ) (f : Fault) (es : List Entry) → IsNoRun m args logged f → status_of f ≢ 4 → IsLogText logged es
    → IsWhole m args es → ⊥
whole_not_refused m args logged f es p n text whole =
    let here = told m args logged f p n in
    let device = sym here.1 ∙ ap fault_of (one_verdict m args logged (verdict_of f) (Of replay.Whole) here.0 (es, text, whole)) in
    subst (IsNoRun m args logged) device p
