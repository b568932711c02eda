-- What stands before the line of a fault: of the bytes kept of a file the same as of all that are known.
use Rattle.std.proofs.Common.{◌≡◌, ◌≤◌, ◌+◌, ◌&&◌, ◌∙◌, ℕ, Bool, true, false, List, [], take, if◌then◌else◌, refl, ap, arith}
use Rattle.std.proofs.Common.{◌++◌, Option, Some, None, inl, inr, subst}
use Rattle.std.specs.Prelude.{IfSome, nat_eq}
use Rattle.std.specs.Cmp.Lexicographic.{pointwise}
use Rattle.std.proofs.lemmas.List.{take-take}
use Rattle.std.specs.Io.KnownBytes.{Appends}
use Rattle.xk_types.specs.Device.{Rose}
use Rattle.xk_io.specs.Writing.{AppendsBeginning}
use Rattle.xk_io.proofs.DeviceLemmas.{appends_then, beginning_more, beginning_then}
use Rattle.xk_log.specs.LogText.{ended, head_line}
use Rattle.xk_jobs.specs.declared.job.Form.{Form}
use Rattle.xk_jobs.specs.declared.job.Form.TheVariants as form
use Rattle.xk_answers.specs.Results.{Doing, Draw, lanes_given, page_given}
use Rattle.xk_program.specs.Bytes.{FailsRead, kept}
use Rattle.xk_program.specs.Programs.{longest_module, longest_source}
use Rattle.xk_program.specs.declared.fault.Fault.{Fault}
use Rattle.xk_program.specs.declared.fault.Fault.TheVariants as fault
use Rattle.xk_serve.specs.Answer.{Task, races_by}
use Rattle.xk_serve.specs.Devices.{IsNoted, Tells}
use Rattle.xk_serve.specs.Notes.{begins_log, log_note, may_note, note_of}

-- ---- which commands have one

-- lanes are drawn of a log, as a text or as an image, with a critical path or without
pub lanes_noted : (from to : Option ℕ) (svg path : Bool) → true ≡ may_note (Draw (lanes_given from to svg path))
lanes_noted from to false false = refl
lanes_noted from to true false = refl
lanes_noted from to svg true = refl

-- and so are pages
pub pages : (from to : Option ℕ) (path : Bool) → true ≡ may_note (Draw (page_given from to path))
pages from to false = refl
pages from to true = refl

-- races are those of a log where one is given
pub races_noted : (json given : Bool) → given ≡ may_note (races_by json given)
races_noted json false = refl
races_noted json true = refl

-- what has none has none before any line
pub unnoted : (what : Doing) (bytes : List ℕ) (f : Fault) → may_note what ≡ false → note_of what bytes f ≡ []
unnoted what bytes (fault.Text f) e = refl
unnoted what bytes (fault.Front f) e = ap (λ b. if b && begins_log bytes then log_note else []) e
unnoted what bytes (fault.Refused r) e = refl
unnoted what bytes (fault.Arguments wants has) e = refl
unnoted what bytes (fault.Grammar line) e = refl
unnoted what bytes fault.Truncated e = refl
unnoted what bytes (fault.NotEnabled i) e = refl
unnoted what bytes fault.NotEnded e = refl
unnoted what bytes (fault.NoOutcome line) e = refl
unnoted what bytes fault.OutOfMemory e = refl
unnoted what bytes fault.Device e = refl

-- ---- the bytes that are kept

-- the first nine bytes say whether they begin a log
front_kept : (n : ℕ) (known : List ℕ) → 9 ≤ n → begins_log (take n known) ≡ begins_log known
front_kept n known long = ap (pointwise nat_eq (ended head_line)) (take-take 9 n known long)

begins_kept : (what : Form) (bytes known : List ℕ) → bytes ≡ kept what known → begins_log bytes ≡ begins_log known
begins_kept form.Module bytes known e = ap begins_log e ∙ front_kept (longest_module + 1) known (omega arith)
begins_kept form.Source bytes known e = ap begins_log e ∙ front_kept (longest_source + 1) known (omega arith)

note_kept : (what : Doing) (kind : Form) (bytes known : List ℕ) (f : Fault) → bytes ≡ kept kind known
    → note_of what bytes f ≡ note_of what known f
note_kept what kind bytes known (fault.Text f) e = refl
note_kept what kind bytes known (fault.Front f) e =
    ap (λ b. if may_note what && b then log_note else []) (begins_kept kind bytes known e)
note_kept what kind bytes known (fault.Refused r) e = refl
note_kept what kind bytes known (fault.Arguments wants has) e = refl
note_kept what kind bytes known (fault.Grammar line) e = refl
note_kept what kind bytes known fault.Truncated e = refl
note_kept what kind bytes known (fault.NotEnabled i) e = refl
note_kept what kind bytes known fault.NotEnded e = refl
note_kept what kind bytes known (fault.NoOutcome line) e = refl
note_kept what kind bytes known fault.OutOfMemory e = refl
note_kept what kind bytes known fault.Device e = refl

-- what stands before a line where these bytes were kept
pub kept_noted : (t : Task) (known : Option (List ℕ)) (bytes note : List ℕ) (f : Fault) → IfSome known (λ k. bytes ≡ kept t.form k)
    → note ≡ note_of t.doing bytes f → IsNoted t known f note
kept_noted t None bytes note f e is = tt
kept_noted t (Some k) bytes note f e is = is ∙ note_kept t.doing t.form bytes k f e

-- ---- where FILE can't be read

pub unread_note : (what : Doing) (bytes note : List ℕ) (old new : ℕ) (f : Fault) → FailsRead old new f → note ≡ []
    → note ≡ note_of what bytes f
unread_note what bytes note old new (fault.Text f) h e = e
unread_note what bytes note old new (fault.Front f) h e = absurd h
unread_note what bytes note old new (fault.Refused r) h e = e
unread_note what bytes note old new (fault.Arguments wants has) h e = e
unread_note what bytes note old new (fault.Grammar line) h e = e
unread_note what bytes note old new fault.Truncated h e = e
unread_note what bytes note old new (fault.NotEnabled i) h e = e
unread_note what bytes note old new fault.NotEnded h e = e
unread_note what bytes note old new (fault.NoOutcome line) h e = e
unread_note what bytes note old new fault.OutOfMemory h e = e
unread_note what bytes note old new fault.Device h e = e

pub unread_noted : (t : Task) (known : Option (List ℕ)) (note : List ℕ) (old new : ℕ) (f : Fault)
    → FailsRead old new f → note ≡ [] → IsNoted t known f note
unread_noted t None note old new f h e = tt
unread_noted t (Some k) note old new f h e = unread_note t.doing k note old new f h e

-- ---- how it is told

-- a line was told behind what stands before it
pub told_behind : (note line : List ℕ) (status : ℕ) (old mid new : Option (List ℕ)) (faults_old faults_mid faults_new result : ℕ)
    → Appends old mid note → faults_mid ≡ faults_old → Tells line status mid new faults_mid faults_new result
    → Tells (note ++ line) status old new faults_old faults_new result
told_behind note line status old mid new faults_old faults_mid faults_new result wrote same (inl p) =
    inl (p.0, appends_then old mid new note line wrote p.1, p.2 ∙ same)
told_behind note line status old mid new faults_old faults_mid faults_new result wrote same (inr p) =
    inr (p.0, beginning_then old mid new note line wrote p.1, subst (λ n. Rose n faults_new) same p.2)

-- or only a beginning of that was
pub cut_before : (note line : List ℕ) (status : ℕ) (old new : Option (List ℕ)) (faults_old faults_new result : ℕ)
    → result ≡ 5 → AppendsBeginning old new note → Rose faults_old faults_new
    → Tells (note ++ line) status old new faults_old faults_new result
cut_before note line status old new faults_old faults_new result is begun rose = inr (is, beginning_more old new note line begun, rose)
