-- What devices in memory got is what is answered.
use Rattle.std.proofs.Common.{◌≡◌, ◌≢◌, ◌∙◌, ℕ, List, [], Some, ap, inl, inr, subst, sym}
use Rattle.std.specs.Prelude.{IfSome, is_some}
use Rattle.xk_types.specs.Device.{TapeValue, fresh_tape}
use Rattle.xk_jobs.specs.Tasks.{asked_value}
use Rattle.xk_cli.specs.CommandLine.{WithOrders, faults_in, job_of}
use Rattle.xk_jobs.specs.Status.{status_device, status_memory}
use Rattle.xk_jobs.specs.declared.job.HandRun.{HandRun}
use Rattle.xk_jobs.specs.declared.job.Request.{Request}
use Rattle.xk_cli.specs.declared.words_fault.WordsFault.{WordsFault}
use Rattle.xk_cli.specs.declared.words_fault.WordsFault.TheVariants as words
use Rattle.xk_program.specs.Bytes.{kept}
use Rattle.xk_serve.specs.Answer.{Reply, Task}
use Rattle.xk_serve.specs.Devices.{Answered, IfKnown, Tells, TellsWords}
use Rattle.xk_serve.proofs.ReplyLemmas.{known_weaker}
use Rattle.xk_serve_ask.specs.AskedRun.{IsHandReply}
use Rattle.x10clock_c.specs.Call.{AnswersFault, AnswersHand, AnswersJob, AskFor, IsAnswerTo, IsReplyOf, reply_of}

-- ---- jobs

answer_of : (t : Task) (bytes logged : List ℕ) (status : ℕ) (out err log : List ℕ)
    → Answered t bytes logged status (Some []) (Some out) (Some []) (Some err) (Some []) (Some log)
    → IsAnswerTo t (reply_of status out err log) bytes logged
answer_of t bytes logged status out err log a = rw (a.status_is, a.out_is, a.err_is, a.log_is) a.answers

job_fresh : (t : Task) (program input : List ℕ) (status : ℕ) (out err log : List ℕ) (reply : Reply)
    → IsReplyOf status out err log reply
    → IfKnown t (Some program) (Some input) (λ bytes logged. status ≢ status_memory → status ≢ status_device
    → Answered t bytes logged status (Some []) (Some out) (Some []) (Some err) (Some []) (Some log))
    → AnswersJob t program input reply
job_fresh t program input status out err log reply (is, memory, device) h =
    subst (AnswersJob t program input) (sym is)
    (known_weaker t (Some program) (Some input) (λ bytes logged. status ≢ status_memory → status ≢ status_device
    → Answered t bytes logged status (Some []) (Some out) (Some []) (Some err) (Some []) (Some log))
    (IsAnswerTo t (reply_of status out err log))
    (λ bytes logged a. answer_of t bytes logged status out err log (a memory device)) h)

-- the reply to a job that was served on fresh devices
pub job_answered : (t : Task) (program input : List ℕ) (status : ℕ) (reply : Reply)
    (source beside out_old out_new err_old err_new log_old log_new : TapeValue)
    → source ≡ fresh_tape program → beside ≡ fresh_tape input
    → out_old ≡ fresh_tape [] → err_old ≡ fresh_tape [] → log_old ≡ fresh_tape []
    → IsReplyOf status out_new.written err_new.written log_new.written reply
    → IfKnown t (Some source.rest) (Some beside.rest) (λ bytes logged. status ≢ status_memory → status ≢ status_device
    → Answered t bytes logged status (Some out_old.written) (Some out_new.written) (Some err_old.written) (Some err_new.written)
    (Some log_old.written) (Some log_new.written))
    → AnswersJob t program input reply
job_answered t program input status reply source beside out_old out_new err_old err_new log_old log_new a b c d e is h =
    job_fresh t program input status out_new.written err_new.written log_new.written reply is (rw (a, b, c, d, e) at h)

-- ---- runs by hand

hand_fresh : (run : HandRun) (program input left : List ℕ) (status : ℕ) (out err log : List ℕ) (reply : Reply)
    → IsReplyOf status out err log reply
    → (status ≢ status_memory → status ≢ status_device
    → IsHandReply run.form (kept run.form program) run.arguments.items (is_some run.log) status (Some input) (Some left)
    (Some []) (Some out) (Some []) (Some err) (Some []) (Some log))
    → AnswersHand run program input reply
hand_fresh run program input left status out err log reply (is, memory, device) h =
    subst (AnswersHand run program input) (sym is) (left, h memory device)

-- the reply to a run by hand that was played on fresh devices
pub hand_answered : (run : HandRun) (program input : List ℕ) (status : ℕ) (reply : Reply)
    (source beside_old beside_new out_old out_new err_old err_new log_old log_new : TapeValue)
    → source ≡ fresh_tape program → beside_old ≡ fresh_tape input
    → out_old ≡ fresh_tape [] → err_old ≡ fresh_tape [] → log_old ≡ fresh_tape []
    → IsReplyOf status out_new.written err_new.written log_new.written reply
    → IfSome (Some source.rest) (λ bytes. status ≢ status_memory → status ≢ status_device
    → IsHandReply run.form (kept run.form bytes) run.arguments.items (is_some run.log) status (Some beside_old.rest)
    (Some beside_new.rest) (Some out_old.written) (Some out_new.written) (Some err_old.written) (Some err_new.written)
    (Some log_old.written) (Some log_new.written))
    → AnswersHand run program input reply
hand_answered run program input status reply source beside_old beside_new out_old out_new err_old err_new log_old log_new
    a b c d e is h =
    hand_fresh run program input beside_new.rest status out_new.written err_new.written log_new.written reply is
    (rw (a, b, c, d, e) at h)

-- ---- lines

told_out : (line out err : List ℕ) (status faults_old faults_new result : ℕ) (reply : Reply)
    → IsReplyOf result out err [] reply → err ≡ []
    → Tells line status (Some []) (Some out) faults_old faults_new result → reply ≡ reply_of status line [] []
told_out line out err status faults_old faults_new result reply (is, memory, device) none (inl t) =
    let by_status = ap (λ s. reply_of s out err []) t.0 in
    let by_text = ap (λ text. reply_of status text err []) t.1 in
    is ∙ (by_status ∙ (by_text ∙ ap (λ text. reply_of status line text []) none))
told_out line out err status faults_old faults_new result reply (is, memory, device) none (inr t) = absurd (device t.0)

told_err : (line out err : List ℕ) (status faults_old faults_new result : ℕ) (reply : Reply)
    → IsReplyOf result out err [] reply → out ≡ []
    → Tells line status (Some []) (Some err) faults_old faults_new result → reply ≡ reply_of status [] line []
told_err line out err status faults_old faults_new result reply (is, memory, device) none (inl t) =
    let by_status = ap (λ s. reply_of s out err []) t.0 in
    let by_text = ap (λ text. reply_of status out text []) t.1 in
    is ∙ (by_status ∙ (by_text ∙ ap (λ text. reply_of status text line []) none))
told_err line out err status faults_old faults_new result reply (is, memory, device) none (inr t) = absurd (device t.0)

-- the reply where standard output got a line, and nothing else was written
pub line_out : (line : List ℕ) (status result : ℕ) (reply : Reply) (out_old out_new err log : TapeValue) → out_old ≡ fresh_tape []
    → err ≡ fresh_tape [] → log ≡ fresh_tape [] → IsReplyOf result out_new.written err.written log.written reply
    → Tells line status (Some out_old.written) (Some out_new.written) out_old.faults out_new.faults result
    → reply ≡ reply_of status line [] []
line_out line status result reply out_old out_new err log fresh_out fresh_err fresh_log is t =
    told_out line out_new.written err.written status out_old.faults out_new.faults result reply (rw fresh_log at is)
    (ap (λ tape. tape.written) fresh_err) (rw (ap (λ tape. tape.written) fresh_out) at t)

-- the same of standard error
pub line_err : (line : List ℕ) (status result : ℕ) (reply : Reply) (out err_old err_new log : TapeValue) → out ≡ fresh_tape []
    → err_old ≡ fresh_tape [] → log ≡ fresh_tape [] → IsReplyOf result out.written err_new.written log.written reply
    → Tells line status (Some err_old.written) (Some err_new.written) err_old.faults err_new.faults result
    → reply ≡ reply_of status [] line []
line_err line status result reply out err_old err_new log fresh_out fresh_err fresh_log is t =
    told_err line out.written err_new.written status err_old.faults err_new.faults result reply (rw fresh_log at is)
    (ap (λ tape. tape.written) fresh_out) (rw (ap (λ tape. tape.written) fresh_err) at t)

-- what follows of each of the two texts follows of the one that is told
words_weaker : (f : WordsFault) (P Q R S : List ℕ → ℕ → Type 0) → ((text : List ℕ) (status : ℕ) → P text status → R text status)
    → ((text : List ℕ) (status : ℕ) → Q text status → S text status) → TellsWords f P Q → TellsWords f R S
words_weaker (words.Help text) P Q R S a b h = a _ _ h
words_weaker (words.NotUnderstood text) P Q R S a b h = b _ _ h
words_weaker (words.Misfit m) P Q R S a b h = b _ _ h
words_weaker words.OutOfMemory P Q R S a b h = b _ _ h

-- the reply where words were told as no job
pub fault_answered : (f : WordsFault) (result : ℕ) (reply : Reply) (out_old out_new err_old err_new log : TapeValue)
    → out_old ≡ fresh_tape [] → err_old ≡ fresh_tape [] → log ≡ fresh_tape []
    → IsReplyOf result out_new.written err_new.written log.written reply
    → TellsWords f
    (λ text status. (err_new ≡ err_old)
    × Tells text status (Some out_old.written) (Some out_new.written) out_old.faults out_new.faults result)
    (λ text status. (out_new ≡ out_old)
    × Tells text status (Some err_old.written) (Some err_new.written) err_old.faults err_new.faults result)
    → AnswersFault f reply
fault_answered f result reply out_old out_new err_old err_new log fresh_out fresh_err fresh_log is h =
    words_weaker f _ _ _ _
    (λ text status t. line_out text status result reply out_old out_new err_new log fresh_out (t.0 ∙ fresh_err) fresh_log is t.1)
    (λ text status t. line_err text status result reply out_new err_old err_new log (t.0 ∙ fresh_out) fresh_err fresh_log is t.1)
    h

-- ---- words

-- they ask for this
pub asked : (r : Request) (found given : List (List ℕ)) (P : Request → Type 0) → found ≡ given
    → WithOrders (λ names. faults_in names found ≡ [])
    → WithOrders (λ names. job_of names found ≡ Some (asked_value r)) → P r → AskFor given P
asked r found given P e understood h served =
    let said = subst (λ words. WithOrders (λ names. job_of names words ≡ Some (asked_value r))) e h in
    (subst (λ words. WithOrders (λ names. faults_in names words ≡ [])) e understood, (said.0, said.1, (r, said.2, served)))
