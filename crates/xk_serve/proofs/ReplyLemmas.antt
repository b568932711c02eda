-- From a fault and how it was told to the clauses of the whole program.
use Rattle.std.proofs.Common.{◌≡◌, ◌≢◌, ◌⊎◌, ℕ, zero, suc, List, [], ◌++◌, length, take, Option, Some, None}
use Rattle.std.proofs.Common.{inl, inr, refl, sym, ap, subst, ◌∙◌}
use Rattle.std.proofs.Math.Seq.{take-length}
use Rattle.std.proofs.lemmas.List.{append-nil}
use Rattle.std.specs.Prelude.{IfSome}
use Rattle.xk_answers.proofs.LogLemmas.{some_each}
use Rattle.xk_log.specs.SomeBytes.{OfSome}
use Rattle.std.specs.Io.KnownBytes.{Appends}
use Rattle.xk_answers.specs.declared.job_result.Done.{Done}
use Rattle.xk_program.specs.declared.fault.Fault.{Fault}
use Rattle.xk_program.specs.declared.fault.Fault.TheVariants as fault
use Rattle.xk_serve.specs.Answer.{FailsBy, IsSaidOf, Succeeds, Task, done_reply, fault_reply}
use Rattle.xk_answers.specs.Printed.{done_status}
use Rattle.xk_io.specs.Writing.{AppendsBeginning}
use Rattle.xk_program.specs.Lines.{device_line, fault_line, status_of}
use Rattle.xk_messages.specs.Lines.{memory_line}
use Rattle.xk_serve.specs.Notes.{note_of, told_of}
use Rattle.xk_serve.specs.Devices.{Answered, ErrBegins, Explained, IfKnown, IsBegun, IsNoted, IsTold, IsWritten, OutBegins}
use Rattle.xk_serve.specs.Devices.{Reads, Reports, StandsAgainst, StandsOn, Tells, read_of}

-- nothing was written
pub appends_none : (a : Option (List ℕ)) → Appends a a []
appends_none None = tt
appends_none (Some xs) = sym (append-nil xs)

-- what holds of whatever list is known
if_known : (known : Option (List ℕ)) (P : List ℕ → Type 0) → ((xs : List ℕ) → known ≡ Some xs → P xs) → IfSome known P
if_known None P f = tt
if_known (Some xs) P f = f xs refl

weaker : (known : Option (List ℕ)) (P Q : List ℕ → Type 0) → ((xs : List ℕ) → P xs → Q xs) → IfSome known P → IfSome known Q
weaker None P Q f h = tt
weaker (Some xs) P Q f h = f xs h

-- what holds for all bytes holds of those that are known
pub of_known : (t : Task) (program known : Option (List ℕ)) (P : List ℕ → List ℕ → Type 0) → ((bytes logged : List ℕ) → P bytes logged) → IfKnown t program known P
of_known t None known P h = tt
of_known t (Some bytes) known P h = if_known (read_of t known) (P bytes) (λ logged e. h bytes logged)

-- what holds for all bytes of FILE of which this does
of_noted : (t : Task) (program known : Option (List ℕ)) (Q : List ℕ → Type 0) (P : List ℕ → List ℕ → Type 0)
    → ((bytes logged : List ℕ) → Q bytes → P bytes logged) → IfSome program Q → IfKnown t program known P
of_noted t None known Q P h q = tt
of_noted t (Some bytes) known Q P h q = if_known (read_of t known) (P bytes) (λ logged e. h bytes logged q)

-- a result that was written is an answer
pub written_answer : (t : Task) (bytes logged : List ℕ) (d : Done) (out_old out_new err_old err_new log_old log_new : Option (List ℕ)) (result : ℕ)
    (Failing : Type 0) → Succeeds t bytes logged d
    → ((result ≡ done_status d) × IsWritten d out_old out_new log_old log_new × Appends err_old err_new []) ⊎ ((result ≡ 5) × Failing)
    → result ≢ 5 → Answered t bytes logged result out_old out_new err_old err_new log_old log_new
written_answer t bytes logged d out_old out_new err_old err_new log_old log_new result Failing done (inl (zero_is, written, err_is)) not5 = record {
  reply = done_reply d;
  answers = inl (d, done, refl);
  status_is = zero_is;
  out_is = written.0;
  err_is = err_is;
  log_is = written.1;
}
written_answer t bytes logged d out_old out_new err_old err_new log_old log_new result Failing done (inr p) not5 = absurd (not5 p.0)

-- what follows from what is known
pub known_weaker : (t : Task) (program known : Option (List ℕ)) (P Q : List ℕ → List ℕ → Type 0)
    → ((bytes logged : List ℕ) → P bytes logged → Q bytes logged) → IfKnown t program known P → IfKnown t program known Q
known_weaker t None known P Q f h = tt
known_weaker t (Some bytes) known P Q f h = weaker (read_of t known) (P bytes) (Q bytes) (f bytes) h

-- and from what holds of the bytes of FILE
noted_weaker : (t : Task) (program known : Option (List ℕ)) (Q : List ℕ → Type 0) (P R : List ℕ → List ℕ → Type 0)
    → ((bytes logged : List ℕ) → Q bytes → P bytes logged → R bytes logged) → IfSome program Q → IfKnown t program known P
    → IfKnown t program known R
noted_weaker t None known Q P R f q h = tt
noted_weaker t (Some bytes) known Q P R f q h = weaker (read_of t known) (P bytes) (R bytes) (λ logged. f bytes logged q) h

-- the same, whether the bytes are known or not
pub written_answers : (t : Task) (program known : Option (List ℕ)) (d : Done) (out_old out_new err_old err_new log_old log_new : Option (List ℕ))
    (result : ℕ) (Failing : Type 0) → IfKnown t program known (λ bytes logged. Succeeds t bytes logged d)
    → ((result ≡ done_status d) × IsWritten d out_old out_new log_old log_new × Appends err_old err_new []) ⊎ ((result ≡ 5) × Failing)
    → IfKnown t program known (λ bytes logged. result ≢ 4 → result ≢ 5
    → Answered t bytes logged result out_old out_new err_old err_new log_old log_new)
written_answers t program known d out_old out_new err_old err_new log_old log_new result Failing h p = known_weaker t program known _ _
    (λ bytes logged s not4 not5. written_answer t bytes logged d out_old out_new err_old err_new log_old log_new result Failing s p not5) h

-- what was begun to be written is a beginning of a success
pub begun_known : (t : Task) (program known : Option (List ℕ)) (d : Done) (out_old out_new log_old log_new : Option (List ℕ))
    → IfKnown t program known (λ bytes logged. Succeeds t bytes logged d) → IsBegun d out_old out_new log_old log_new
    → IfKnown t program known (λ bytes logged. OutBegins t bytes logged out_old out_new log_old log_new)
begun_known t program known d out_old out_new log_old log_new h b = known_weaker t program known _ _ (λ bytes logged s. inr (inl (d, s, b))) h

-- ---- devices

take_none : (k : ℕ) (xs : List ℕ) → xs ≡ [] → take k xs ≡ []
take_none zero xs e = refl
take_none (suc k) xs e = ap (take (suc k)) e

-- a beginning of nothing is nothing
nothing_begun : (old new : Option (List ℕ)) (text : List ℕ) → text ≡ [] → AppendsBeginning old new text → Appends old new []
nothing_begun old new text e h = subst (Appends old new) (take_none h.0 text e) h.1

-- of a line that was told a beginning was written
pub tells_begins : (line : List ℕ) (status : ℕ) (old new : Option (List ℕ)) (faults_old faults_new result : ℕ)
    → Tells line status old new faults_old faults_new result → AppendsBeginning old new line
tells_begins line status old new faults_old faults_new result (inl p) = (length line, rw (take-length line) p.1)
tells_begins line status old new faults_old faults_new result (inr p) = p.1

-- ---- faults

-- what stands against a task: a device's fault, of which nothing is said, or one of the bytes, with what is said of it
either : (t : Task) (program known : Option (List ℕ)) (n : Reads) (f : Fault) (said : List ℕ) → StandsAgainst t program known n f said
    → ((f ≡ fault.Device) × (said ≡ [])) ⊎ IfKnown t program known (λ bytes log. FailsBy t bytes log f × IsSaidOf t bytes f said)
either t program known n (fault.Text f) said h = inr h.1
either t program known n (fault.Front f) said h = inr h.1
either t program known n (fault.Refused r) said h = inr h.1
either t program known n (fault.Arguments wants has) said h = inr h.1
either t program known n (fault.Grammar line) said h = inr h.1
either t program known n fault.Truncated said h = inr h.1
either t program known n (fault.NotEnabled i) said h = inr h.1
either t program known n fault.NotEnded said h = inr h.1
either t program known n (fault.NoOutcome line) said h = inr h.1
either t program known n fault.OutOfMemory said h = inr h.1
either t program known n fault.Device said h = inl (refl, h.1)

-- the same on these bytes of FILE, where less may be known of the log
one_of : (t : Task) (bytes : List ℕ) (logged : Option (List ℕ)) (n : Reads) (f : Fault) (said : List ℕ) → StandsOn t bytes logged n f said
    → ((f ≡ fault.Device) × (said ≡ [])) ⊎ OfSome (read_of t logged) (λ log. FailsBy t bytes log f × IsSaidOf t bytes f said)
one_of t bytes logged n (fault.Text f) said h = inr h.1
one_of t bytes logged n (fault.Front f) said h = inr h.1
one_of t bytes logged n (fault.Refused r) said h = inr h.1
one_of t bytes logged n (fault.Arguments wants has) said h = inr h.1
one_of t bytes logged n (fault.Grammar line) said h = inr h.1
one_of t bytes logged n fault.Truncated said h = inr h.1
one_of t bytes logged n (fault.NotEnabled i) said h = inr h.1
one_of t bytes logged n fault.NotEnded said h = inr h.1
one_of t bytes logged n (fault.NoOutcome line) said h = inr h.1
one_of t bytes logged n fault.OutOfMemory said h = inr h.1
one_of t bytes logged n fault.Device said h = inl (refl, h.1)

module _ (said note : List ℕ) (f : Fault) (out_old out_new : Option (List ℕ)) (out_faults out_after : ℕ)
    (err_old err_new : Option (List ℕ)) (err_faults err_after result : ℕ) where
  -- so it was told
  abbrev IsExplained : Type 0
  IsExplained = Explained said note f out_old out_new out_faults out_after err_old err_new err_faults err_after result

  -- a device's fault has the status of a device
  device_told : f ≡ fault.Device → IsExplained → result ≡ 5
  device_told e (inl (out, same, inl p)) = p.0 ∙ ap status_of e
  device_told e (inl (out, same, inr p)) = p.0
  device_told e (inr (inl (out, same, device, told))) = absurd (device e)
  device_told e (inr (inr (out, rose, inl p))) = p.0
  device_told e (inr (inr (out, rose, inr p))) = p.0

  -- what is told of it
  told_is : (t : Task) (bytes : List ℕ) → note ≡ note_of t.doing bytes f → note ++ fault_line f ≡ told_of t.doing bytes f
  told_is t bytes is = ap (λ before. before ++ fault_line f) is

  -- a fault that was told is an answer
  explained_answer : (t : Task) (bytes logged : List ℕ) (log : Option (List ℕ)) → note ≡ note_of t.doing bytes f
      → FailsBy t bytes logged f × IsSaidOf t bytes f said
      → IsExplained
      → result ≢ 4 → result ≢ 5 → Answered t bytes logged result out_old out_new err_old err_new log log
  explained_answer t bytes logged log is h (inl (out, same, inl p)) not4 not5 = record {
    reply = fault_reply t bytes said f;
    answers = inr (f, h.0, (said, h.1, refl));
    status_is = p.0;
    out_is = out;
    err_is = subst (Appends err_old err_new) (told_is t bytes is) p.1;
    log_is = appends_none log;
  }
  explained_answer t bytes logged log is h (inl (out, same, inr p)) not4 not5 = absurd (not5 p.0)
  explained_answer t bytes logged log is h (inr (inl (out, same, device, inl p))) not4 not5 = absurd (not4 p.0)
  explained_answer t bytes logged log is h (inr (inl (out, same, device, inr p))) not4 not5 = absurd (not5 p.0)
  explained_answer t bytes logged log is h (inr (inr (out, rose, inl p))) not4 not5 = absurd (not5 p.0)
  explained_answer t bytes logged log is h (inr (inr (out, rose, inr p))) not4 not5 = absurd (not5 p.0)

  -- standard output got a beginning of what is said
  explained_begins : IsExplained → AppendsBeginning out_old out_new said
  explained_begins (inl (out, same, told)) = (length said, rw (take-length said) out)
  explained_begins (inr (inl (out, same, device, told))) = (0, out)
  explained_begins (inr (inr (out, rose, told))) = out

  -- standard error got a beginning of a line, and of what stands before it
  explained_line : (t : Task) (bytes logged : List ℕ) → note ≡ note_of t.doing bytes f → IsTold t bytes logged f
      → IsExplained → ErrBegins t bytes logged err_old err_new
  explained_line t bytes logged is told (inl (out, same, p)) = (
    f,
    told,
    subst (AppendsBeginning err_old err_new) (told_is t bytes is) (tells_begins (note ++ fault_line f) _ err_old err_new _ _ _ p),
  )
  explained_line t bytes logged is told (inr (inl (out, same, device, p))) =
      (fault.OutOfMemory, inr tt, tells_begins memory_line _ err_old err_new _ _ _ p)
  explained_line t bytes logged is told (inr (inr (out, rose, p))) =
      (fault.Device, inl refl, tells_begins device_line _ err_old err_new _ _ _ p)

  module _ (t : Task) (bytes : List ℕ) (logged : Option (List ℕ)) (n : Reads) (stands : StandsOn t bytes logged n f said)
      (noted : note ≡ note_of t.doing bytes f) (explained : IsExplained) (log : Option (List ℕ)) where
    -- the answer on these bytes of FILE
    pub some_answers : result ≢ 4 → result ≢ 5 → OfSome (read_of t logged) (λ one. Answered t bytes one result out_old out_new err_old err_new log log)
    some_answers not4 not5 = elim (one_of t bytes logged n f said stands) [
      | inl d ↦ absurd (not5 (device_told d.0 explained))
      | inr k ↦ some_each (λ one. FailsBy t bytes one f × IsSaidOf t bytes f said) (λ one. Answered t bytes one result out_old out_new err_old err_new log log)
          (read_of t logged) (λ one h. explained_answer t bytes one log noted h explained not4 not5) k
    ]

  module _ (t : Task) (program known : Option (List ℕ)) (n : Reads) (stands : StandsAgainst t program known n f said)
      (noted : IsNoted t program f note) (explained : IsExplained) (log : Option (List ℕ)) where
    -- what stands before the line
    abbrev is_noted : List ℕ → Type 0
    is_noted bytes = note ≡ note_of t.doing bytes f

    -- the answer, whether the bytes are known or not
    pub told_answers : IfKnown t program known (λ bytes logged. result ≢ 4 → result ≢ 5 → Answered t bytes logged result out_old out_new err_old err_new log log)
    told_answers = elim (either t program known n f said stands) [
      | inl d ↦ of_known t program known (λ bytes logged. result ≢ 4 → result ≢ 5 → Answered t bytes logged result out_old out_new err_old err_new log log)
          (λ bytes logged not4 not5. absurd (not5 (device_told d.0 explained)))
      | inr k ↦ noted_weaker t program known is_noted _ _
          (λ bytes logged is h not4 not5. explained_answer t bytes logged log is h explained not4 not5) noted k
    ]

    -- standard output, and the log
    pub said_begins : IfKnown t program known (λ bytes logged. OutBegins t bytes logged out_old out_new log log)
    said_begins = elim (either t program known n f said stands) [
      | inl d ↦ of_known t program known (λ bytes logged. OutBegins t bytes logged out_old out_new log log)
          (λ bytes logged. inl (nothing_begun out_old out_new said d.1 (explained_begins explained), appends_none log))
      | inr k ↦ known_weaker t program known _ _
          (λ bytes logged h. inr (inr (f, h.0, (said, h.1, explained_begins explained, appends_none log)))) k
    ]

    -- standard error
    pub line_begins : IfKnown t program known (λ bytes logged. ErrBegins t bytes logged err_old err_new)
    line_begins = elim (either t program known n f said stands) [
      | inl d ↦ of_noted t program known is_noted (λ bytes logged. ErrBegins t bytes logged err_old err_new)
          (λ bytes logged is. explained_line t bytes logged is (inl d.0) explained) noted
      | inr k ↦ noted_weaker t program known is_noted _ _
          (λ bytes logged is h. explained_line t bytes logged is (inr h.0) explained) noted k
    ]

-- a device's fault was told
pub device_reports : (f : Fault) (line : List ℕ) (err_old err_new : Option (List ℕ)) (faults_old faults_new result : ℕ)
    → f ≡ fault.Device → line ≡ device_line → Tells line 5 err_old err_new faults_old faults_new result → Reports f err_old err_new faults_old faults_new result
device_reports f line err_old err_new faults_old faults_new result e d t = rw e (inl (rw d at t))

-- its line was begun
pub device_begins : (err_old err_new : Option (List ℕ)) (faults_old faults_new result : ℕ)
    → Reports fault.Device err_old err_new faults_old faults_new result → AppendsBeginning err_old err_new device_line
device_begins err_old err_new faults_old faults_new result (inl p) = tells_begins device_line _ err_old err_new _ _ _ p
device_begins err_old err_new faults_old faults_new result (inr p) = absurd (p.0 refl)

-- ---- want of memory for the ending of a success

memory_told : (err_old err_new : Option (List ℕ)) (faults_old faults_new result : ℕ)
    → Reports fault.OutOfMemory err_old err_new faults_old faults_new result
    → Tells memory_line 4 err_old err_new faults_old faults_new result
memory_told err_old err_new faults_old faults_new result (inl p) = p
memory_told err_old err_new faults_old faults_new result (inr p) = p.1

no_other_status : (err_old err_new : Option (List ℕ)) (faults_old faults_new result : ℕ)
    → Tells memory_line 4 err_old err_new faults_old faults_new result → result ≢ 4 → result ≢ 5 → ⊥
no_other_status err_old err_new faults_old faults_new result (inl p) not4 not5 = not4 p.0
no_other_status err_old err_new faults_old faults_new result (inr p) not4 not5 = not5 p.0

-- nothing was written to standard output and to the log
pub none_begins : (t : Task) (program known out log : Option (List ℕ))
    → IfKnown t program known (λ bytes logged. OutBegins t bytes logged out out log log)
none_begins t program known out log = of_known t program known (λ bytes logged. OutBegins t bytes logged out out log log)
    (λ bytes logged. inl (appends_none out, appends_none log))

module _ (t : Task) (program known err_old err_new : Option (List ℕ)) (faults_old faults_new result : ℕ)
    (reports : Reports fault.OutOfMemory err_old err_new faults_old faults_new result) where
  told : Tells memory_line 4 err_old err_new faults_old faults_new result
  told = memory_told err_old err_new faults_old faults_new result reports

  pub memory_alone : result ≢ 4 → result ≢ 5 → ⊥
  memory_alone = no_other_status err_old err_new faults_old faults_new result told

  pub memory_answers : (out_old out_new log_old log_new : Option (List ℕ)) → IfKnown t program known
      (λ bytes logged. result ≢ 4 → result ≢ 5 → Answered t bytes logged result out_old out_new err_old err_new log_old log_new)
  memory_answers out_old out_new log_old log_new = of_known t program known
      (λ bytes logged. result ≢ 4 → result ≢ 5 → Answered t bytes logged result out_old out_new err_old err_new log_old log_new)
      (λ bytes logged not4 not5. absurd (no_other_status err_old err_new faults_old faults_new result told not4 not5))

  pub memory_begins : IfKnown t program known (λ bytes logged. ErrBegins t bytes logged err_old err_new)
  memory_begins = of_known t program known (λ bytes logged. ErrBegins t bytes logged err_old err_new)
      (λ bytes logged. (fault.OutOfMemory, inr tt, tells_begins memory_line 4 err_old err_new faults_old faults_new result told))
