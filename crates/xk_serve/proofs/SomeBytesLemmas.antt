-- The answer is that of some bytes of FILE, whatever is known of them.
use Rattle.std.proofs.Common.{◌≡◌, ◌≢◌, ◌⊎◌, ℕ, List, [], Option, Some, None, Result, Ok, Err, inl, inr, refl, subst}
use Rattle.std.specs.Prelude.{IfErr, IfOk}
use Rattle.xk_log.specs.SomeBytes.{OfSome}
use Rattle.std.specs.Io.KnownBytes.{Appends}
use Rattle.xk_jobs.specs.declared.job.Form.{Form}
use Rattle.xk_answers.specs.declared.job_result.Done.{Done}
use Rattle.xk_answers.specs.Printed.{done_status}
use Rattle.xk_answers.specs.Results.{Check, Compile, Count, Doing, Draw, Expected, Explain, Listing}
use Rattle.xk_answers.specs.Results.{Json, OutcomePage, Outcomes, Races, Replay, Run, Tally, Where}
use Rattle.xk_answers.proofs.LogLemmas.{some_any, some_each}
use Rattle.xk_program.specs.Bytes.{FailsRead, kept}
use Rattle.xk_program.specs.declared.fault.Fault.{Fault}
use Rattle.xk_program.specs.declared.fault.Fault.TheVariants as fault
use Rattle.xk_serve.specs.declared.refusal.Refusal.{Refusal}
use Rattle.xk_serve.specs.Notes.{note_of}
use Rattle.xk_serve.specs.Answer.{FailsBy, IsSaidBy, IsSaidOf, Succeeds, Task}
use Rattle.xk_serve.specs.Devices.{AgainstLog, Answered, AnsweredBySome, AreKeptOf, Explained, IsOutcomeOfSome, IsRead, IsWritten}
use Rattle.xk_serve.specs.Devices.{Reads, StandsOn, read_of}
use Rattle.xk_serve.proofs.LongTextLemmas.{device_unsaid}
use Rattle.xk_serve.proofs.ReplyLemmas.{some_answers, written_answer}

-- ---- which bytes they are

-- bytes that may be those kept, where none were read
abbrev pub some_bytes : Form → Option (List ℕ) → List ℕ
some_bytes form None = []
some_bytes form (Some all) = kept form all

pub may_be_kept : (form : Form) (program : Option (List ℕ)) → AreKeptOf form program (some_bytes form program)
may_be_kept form None = tt
may_be_kept form (Some all) = refl

-- ---- what stands against a task on these bytes

-- of want of memory nothing is said
memory_unsaid : (what : Doing) (kind : Form) (file bytes said : List ℕ) → said ≡ [] → IsSaidBy what kind file bytes fault.OutOfMemory said
memory_unsaid (Explain json) kind file bytes said e = e
memory_unsaid Check kind file bytes said e = e
memory_unsaid Compile kind file bytes said e = e
memory_unsaid Listing kind file bytes said e = e
memory_unsaid (Run way kept) kind file bytes said e = e
memory_unsaid Replay kind file bytes said e = e
memory_unsaid (Draw picture) kind file bytes said e = e
memory_unsaid (Where json at) kind file bytes said e = e
memory_unsaid (Races json) kind file bytes said e = e
memory_unsaid (Tally seed runs) kind file bytes said e = e
memory_unsaid (OutcomePage window limit pick) kind file bytes said e = e
memory_unsaid (Outcomes sets limit pick kept) kind file bytes said e = e
memory_unsaid (Count sets limit) kind file bytes said e = e
memory_unsaid (Expected sets limit) kind file bytes said e = e
memory_unsaid (Json s) kind file bytes said e = e

-- where FILE can't be read
pub unread_stands : (t : Task) (bytes : List ℕ) (logged : Option (List ℕ)) (n : Reads) (f : Fault) (said : List ℕ)
    → FailsRead n.program_old n.program_new f → n.log_new ≡ n.log_old → said ≡ [] → StandsOn t bytes logged n f said
unread_stands t bytes logged n (fault.Text f) said h l e = absurd h
unread_stands t bytes logged n (fault.Front f) said h l e = absurd h
unread_stands t bytes logged n (fault.Refused r) said h l e = absurd h
unread_stands t bytes logged n (fault.Arguments wants has) said h l e = absurd h
unread_stands t bytes logged n (fault.Grammar line) said h l e = absurd h
unread_stands t bytes logged n fault.Truncated said h l e = absurd h
unread_stands t bytes logged n (fault.NotEnabled i) said h l e = absurd h
unread_stands t bytes logged n fault.NotEnded said h l e = absurd h
unread_stands t bytes logged n (fault.NoOutcome line) said h l e = absurd h
unread_stands t bytes logged n fault.OutOfMemory said h l e = (
  (h, l),
  some_any (λ log. FailsBy t bytes log fault.OutOfMemory × IsSaidOf t bytes fault.OutOfMemory said) (read_of t logged)
      (λ log. (tt, memory_unsaid t.doing t.form t.file bytes said e)),
)
unread_stands t bytes logged n fault.Device said h l e = (inl h, e)

-- the faults that are no device's
stands_on : (t : Task) (bytes : List ℕ) (logged : Option (List ℕ)) (n : Reads) (f : Fault) (said : List ℕ) → n.program_new ≡ n.program_old
    → n.log_new ≡ n.log_old → OfSome (read_of t logged) (λ log. FailsBy t bytes log f) → IsSaidOf t bytes f said
    → IsRead n × OfSome (read_of t logged) (λ log. FailsBy t bytes log f × IsSaidOf t bytes f said)
stands_on t bytes logged n f said s l h is = (
  (s, l),
  some_each (λ log. FailsBy t bytes log f) (λ log. FailsBy t bytes log f × IsSaidOf t bytes f said) (read_of t logged) (λ log p.
      (p, is)) h,
)

-- a fault of the bytes that were read
pub read_stands : (t : Task) (bytes : List ℕ) (logged : Option (List ℕ)) (n : Reads) (f : Fault) (said : List ℕ)
    → n.program_new ≡ n.program_old
    → AgainstLog t bytes logged n.log_old n.log_new f → IsSaidOf t bytes f said → StandsOn t bytes logged n f said
read_stands t bytes logged n (fault.Text f) said s h is = stands_on t bytes logged n (fault.Text f) said s h.0 h.1 is
read_stands t bytes logged n (fault.Front f) said s h is = stands_on t bytes logged n (fault.Front f) said s h.0 h.1 is
read_stands t bytes logged n (fault.Refused r) said s h is = stands_on t bytes logged n (fault.Refused r) said s h.0 h.1 is
read_stands t bytes logged n (fault.Arguments wants has) said s h is =
    stands_on t bytes logged n (fault.Arguments wants has) said s h.0 h.1 is
read_stands t bytes logged n (fault.Grammar line) said s h is = stands_on t bytes logged n (fault.Grammar line) said s h.0 h.1 is
read_stands t bytes logged n fault.Truncated said s h is = stands_on t bytes logged n fault.Truncated said s h.0 h.1 is
read_stands t bytes logged n (fault.NotEnabled i) said s h is = stands_on t bytes logged n (fault.NotEnabled i) said s h.0 h.1 is
read_stands t bytes logged n fault.NotEnded said s h is = stands_on t bytes logged n fault.NotEnded said s h.0 h.1 is
read_stands t bytes logged n (fault.NoOutcome line) said s h is = stands_on t bytes logged n (fault.NoOutcome line) said s h.0 h.1 is
read_stands t bytes logged n fault.OutOfMemory said s h is = stands_on t bytes logged n fault.OutOfMemory said s h.0 h.1 is
read_stands t bytes logged n fault.Device said s h is = (inr h, device_unsaid t.doing t.form t.file bytes said is)

-- ---- what is answered

-- a result that was written
pub written_by_some : (t : Task) (program logged : Option (List ℕ)) (n : Reads) (r : Result Done Refusal)
    (out_old out_new err_old err_new log_old log_new : Option (List ℕ)) (result : ℕ) (d : Done) (Failing : Type 0) → r ≡ Ok d
    → IsOutcomeOfSome t program logged n r
    → ((result ≡ done_status d) × IsWritten d out_old out_new log_old log_new × Appends err_old err_new []) ⊎ ((result ≡ 5) × Failing)
    → result ≢ 4 → result ≢ 5 → AnsweredBySome t program logged result out_old out_new err_old err_new log_old log_new
written_by_some t program logged n r out_old out_new err_old err_new log_old log_new result d Failing e o p memory device =
    let done : OfSome (read_of t logged) (λ log. Succeeds t o.bytes log d) =
    subst (λ x. IfOk x (λ z. OfSome (read_of t logged) (λ log. Succeeds t o.bytes log z))) e o.done in
    record {
      bytes = o.bytes;
      are = o.are;
      answered =
          some_each (λ log. Succeeds t o.bytes log d) (λ log. Answered t o.bytes log result out_old out_new err_old err_new log_old log_new)
          (read_of t logged) (λ log s. written_answer t o.bytes log d out_old out_new err_old err_new log_old log_new result Failing s p
          device) done;
    }

-- a fault that was told
pub told_by_some : (t : Task) (program logged : Option (List ℕ)) (n : Reads) (r : Result Done Refusal) (x : Refusal) (out_old out_new :
    Option (List ℕ))
    (out_faults out_after : ℕ) (err_old err_new : Option (List ℕ)) (err_faults err_after result : ℕ) (log : Option (List ℕ)) → r ≡ Err x
    → IsOutcomeOfSome t program logged n r
    → Explained x.refused.said.items x.note.now x.refused.fault out_old out_new out_faults out_after err_old err_new err_faults err_after
    result
    → result ≢ 4 → result ≢ 5 → AnsweredBySome t program logged result out_old out_new err_old err_new log log
told_by_some t program logged n r x out_old out_new out_faults out_after err_old err_new err_faults err_after result log e o told memory
    device =
    let stands : StandsOn t o.bytes logged n x.refused.fault x.refused.said.items =
    subst (λ z. IfErr z (λ y. StandsOn t o.bytes logged n y.refused.fault y.refused.said.items)) e o.against in
    let noted : x.note.now ≡ note_of t.doing o.bytes x.refused.fault =
    subst (λ z. IfErr z (λ y. y.note.now ≡ note_of t.doing o.bytes y.refused.fault)) e o.noted in
    record {
      bytes = o.bytes;
      are = o.are;
      answered = some_answers x.refused.said.items x.note.now x.refused.fault out_old out_new out_faults out_after err_old err_new
          err_faults err_after result t o.bytes logged n stands noted told log memory device;
    }
