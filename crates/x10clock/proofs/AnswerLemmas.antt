-- An answer on open devices, told where less is known of them.
use Rattle.std.proofs.lemmas.List.{append_assoc}
use Rattle.std.proofs.Common.{◌≡◌, ◌∙◌, ◌≢◌, ◌++◌, ap, ℕ, ℤ, Bool, true, false, if◌then◌else◌, List, [], Option, None}
use Rattle.std.proofs.Common.{Some, codes, inl, inr, subst, sym}
use Rattle.std.specs.Prelude.{◌⊎◌, IfSome, is_some, unwrap_or}
use Rattle.std.specs.Io.KnownBytes.{Appends}
use Rattle.xk_types.specs.Device.{Rose}
use Rattle.xk_program.specs.Lines.{device_line}
use Rattle.xk_messages.specs.Lines.{memory_line}
use Rattle.std.specs.declared.io.ErrorKind.{ErrorKind}
use Rattle.x10clock.specs.declared.files.Which.{Which}
use Rattle.xk_jobs.specs.declared.job.Form.{Form}
use Rattle.xk_jobs.specs.Tasks.{asked_value}
use Rattle.xk_jobs.specs.Status.{status_words}
use Rattle.xk_jobs.specs.declared.job.Request.{Request}
use Rattle.xk_jobs.specs.declared.job.Request.TheVariants as request
use Rattle.xk_serve.specs.Answer.{Task, reads_more, task_of}
use Rattle.xk_program.specs.Bytes.{kept}
use Rattle.xk_serve.specs.Devices.{Answered, IfKnown, Tells, read_of}
use Rattle.xk_serve.proofs.ReplyLemmas.{of_known}
use Rattle.xk_answers.proofs.LogLemmas.{of_each, some_each}
use Rattle.xk_log.specs.SomeBytes.{OfSome}
use Rattle.xk_serve_ask.specs.AskedRun.{IsAskedFirst, IsHandReply}
use Rattle.xk_serve_ask.proofs.AskedRunLemmas.{unread_ends}
use Rattle.x10clock.specs.Requests.{AnswersHand, AnswersTask, EndsIn, IsAnswered, IsAnsweredBySome, IsByHand}
use Rattle.x10clock.specs.Requests.{IsDeviceTold, IsGiven, IsPageWritten, IsServed, IsToldOver, IsToldUnopened}
use Rattle.x10clock.specs.Requests.{TellsUnopened, input_line, rule_page, told_path}

-- ---- a run by hand

-- whatever became of the log
hand_unlogged : (form : Form) (bytes : List ℕ) (args : List ℤ) (keeps : Bool) (s : ℕ) (i j out out_new err err_new log log_new : Option (List ℕ))
    → IsHandReply form bytes args keeps s i j out out_new err err_new log log_new → IsHandReply form bytes args keeps s i j out out_new err err_new None None
hand_unlogged form bytes args keeps s i j out out_new err err_new log log_new (inl r) = inl (record {
  log = r.log;
  numbers = r.numbers;
  steps = r.steps;
  whole = r.whole;
  by_hand = r.by_hand;
  status_is = r.status_is;
  out_is = r.out_is;
  log_is = tt;
})
hand_unlogged form bytes args keeps s i j out out_new err err_new log log_new (inr f) =
    inr (record { told = f.told; unfit = f.unfit; status_is = f.status_is; out_is = f.out_is; err_is = f.err_is; log_is = tt })

-- whatever is read
hand_unread : (form : Form) (bytes : List ℕ) (args : List ℤ) (keeps : Bool) (s : ℕ) (i j out out_new err err_new log log_new : Option (List ℕ))
    → IsHandReply form bytes args keeps s i j out out_new err err_new log log_new → IsHandReply form bytes args keeps s None None out out_new err err_new log log_new
hand_unread form bytes args keeps s i j out out_new err err_new log log_new (inl r) =
    let p = r.by_hand in
    let run = p.run in
    inl (record {
      log = r.log;
      numbers = r.numbers;
      steps = r.steps;
      whole = r.whole;
      by_hand = record {
        told = p.told;
        run = record {
          of = run.of;
          given = run.given;
          accepted = run.accepted;
          taken = run.taken;
          played = run.played;
          answers = run.answers;
          are = tt;
          log_is = run.log_is;
          told_is = run.told_is;
        };
        rest_is = tt;
        err_is = p.err_is;
      };
      status_is = r.status_is;
      out_is = r.out_is;
      log_is = r.log_is;
    })
hand_unread form bytes args keeps s i j out out_new err err_new log log_new (inr f) = inr f

-- ---- what is known

-- where each answer on known bytes is another one
more_known : (t : Task) (p l : Option (List ℕ)) (P Q : List ℕ → List ℕ → Type 0) → ((bytes logged : List ℕ) → P bytes logged → Q bytes logged)
    → IfKnown t p l P → IfKnown t p l Q
more_known t None l P Q f h = tt
more_known t (Some bytes) l P Q f h = of_each (P bytes) (Q bytes) (read_of t l) (f bytes) h

-- ---- what is asked for

-- whatever became of the log, what was answered is so
task_unlogged : (t : Task) (s : ℕ) (out out_new err err_new log log_new : Option (List ℕ)) (bytes logged : List ℕ)
    → AnswersTask t s out out_new err err_new log log_new bytes logged → AnswersTask t s out out_new err err_new None None bytes logged
task_unlogged t s out out_new err err_new log log_new bytes logged answer memory device =
    let a = answer memory device in
    record { reply = a.reply; answers = a.answers; status_is = a.status_is; out_is = a.out_is; err_is = a.err_is; log_is = tt }

pub unlogged : (r : Request) (p i j : Option (List ℕ)) (s : ℕ) (out out_new err err_new log log_new : Option (List ℕ)) (Told : Type 0)
    → IsAnswered r p i j s out out_new err err_new log log_new → IsAnswered r p i j s out out_new err err_new None None ⊎ Told
unlogged (request.Job job) p i j s out out_new err err_new log log_new Told h =
    let t = task_of job in
    inl (more_known t p i (AnswersTask t s out out_new err err_new log log_new) (AnswersTask t s out out_new err err_new None None)
    (task_unlogged t s out out_new err err_new log log_new) h)
unlogged (request.ByHand run) p i j s out out_new err err_new log log_new Told h =
    inl (of_each (AnswersHand run i j s out out_new err err_new log log_new) (AnswersHand run i j s out out_new err err_new None None) p
    (λ bytes answer memory device.
    hand_unlogged run.form (kept run.form bytes) run.arguments.items (is_some run.log) s i j out out_new err err_new log log_new (answer memory device)) h)

-- where no file was opened there is no answer
not_both : (s : ℕ) → (s ≡ 4) ⊎ (s ≡ 5) → s ≢ 4 → s ≢ 5 → ⊥
not_both s (inl e) memory device = memory e
not_both s (inr e) memory device = device e

of_any : (p : Option (List ℕ)) (P : List ℕ → Type 0) → ((xs : List ℕ) → P xs) → IfSome p P
of_any None P h = tt
of_any (Some xs) P h = h xs

pub not_answered : (r : Request) (p i j : Option (List ℕ)) (s : ℕ) (out out_new err err_new log log_new : Option (List ℕ)) (Told : Type 0)
    → (s ≡ 4) ⊎ (s ≡ 5) → IsAnswered r p i j s out out_new err err_new log log_new ⊎ Told
not_answered (request.Job job) p i j s out out_new err err_new log log_new Told e =
    inl (of_known (task_of job) p i (AnswersTask (task_of job) s out out_new err err_new log log_new)
    (λ bytes logged memory device. absurd (not_both s e memory device)))
not_answered (request.ByHand run) p i j s out out_new err err_new log log_new Told e =
    inl (of_any p (AnswersHand run i j s out out_new err err_new log log_new) (λ bytes memory device. absurd (not_both s e memory device)))

-- what holds of what may be read holds where nothing is known of it
without : (reads : Bool) (known : Option (List ℕ)) (P : List ℕ → Type 0) → IfSome (if reads then known else Some []) P → IfSome (if reads then None else Some []) P
without true known P h = tt
without false known P h = h

-- the same, or else of some
without_some : (reads : Bool) (known : Option (List ℕ)) (P : List ℕ → Type 0) → OfSome (if reads then known else Some []) P
    → OfSome (if reads then None else Some []) P
without_some true None P h = h
without_some true (Some xs) P h = (xs, h)
without_some false known P h = h

less_known : (t : Task) (program known : Option (List ℕ)) (P : List ℕ → List ℕ → Type 0) → IfKnown t program known P → IfKnown t program None P
less_known t None known P h = tt
less_known t (Some bytes) known P h = without (reads_more t.doing) known (P bytes) h

pub unread : (r : Request) (p i j : Option (List ℕ)) (s : ℕ) (out out_new err err_new log log_new : Option (List ℕ)) (Told : Type 0)
    → IsAnswered r p i j s out out_new err err_new log log_new ⊎ Told → IsAnswered r p None None s out out_new err err_new log log_new ⊎ Told
unread r p i j s out out_new err err_new log log_new Told (inr told) = inr told
unread (request.Job job) p i j s out out_new err err_new log log_new Told (inl h) =
    inl (less_known (task_of job) p i (AnswersTask (task_of job) s out out_new err err_new log log_new) h)
unread (request.ByHand run) p i j s out out_new err err_new log log_new Told (inl h) =
    inl (of_each (AnswersHand run i j s out out_new err err_new log log_new) (AnswersHand run None None s out out_new err err_new log log_new) p
    (λ bytes answer memory device.
    hand_unread run.form (kept run.form bytes) run.arguments.items (is_some run.log) s i j out out_new err err_new log log_new (answer memory device)) h)

-- ---- what is answered on some bytes

-- whatever became of the log
answered_unlogged : (t : Task) (bytes logged : List ℕ) (s : ℕ) (out out_new err err_new log log_new : Option (List ℕ))
    → Answered t bytes logged s out out_new err err_new log log_new → Answered t bytes logged s out out_new err err_new None None
answered_unlogged t bytes logged s out out_new err err_new log log_new a =
    record { reply = a.reply; answers = a.answers; status_is = a.status_is; out_is = a.out_is; err_is = a.err_is; log_is = tt }

pub some_unlogged : (r : Request) (p i j : Option (List ℕ)) (s : ℕ) (out out_new err err_new log log_new : Option (List ℕ))
    → IsAnsweredBySome r p i j s out out_new err err_new log log_new → IsAnsweredBySome r p i j s out out_new err err_new None None
some_unlogged (request.Job job) p i j s out out_new err err_new log log_new h =
    let t = task_of job in
    record {
      bytes = h.bytes;
      are = h.are;
      answered = some_each (λ logged. Answered t h.bytes logged s out out_new err err_new log log_new)
          (λ logged. Answered t h.bytes logged s out out_new err err_new None None) (read_of t i)
          (λ logged a. answered_unlogged t h.bytes logged s out out_new err err_new log log_new a) h.answered;
    }
some_unlogged (request.ByHand run) p i j s out out_new err err_new log log_new h = record {
  bytes = h.bytes;
  are = h.are;
  reply = hand_unlogged run.form h.bytes run.arguments.items (is_some run.log) s i j out out_new err err_new log log_new h.reply;
}

-- whatever is known of what is read beside FILE
pub some_unread : (r : Request) (p i j : Option (List ℕ)) (s : ℕ) (out out_new err err_new log log_new : Option (List ℕ)) (Told : Type 0)
    → IsAnsweredBySome r p i j s out out_new err err_new log log_new ⊎ Told
    → IsAnsweredBySome r p None None s out out_new err err_new log log_new ⊎ Told
some_unread r p i j s out out_new err err_new log log_new Told (inr told) = inr told
some_unread (request.Job job) p i j s out out_new err err_new log log_new Told (inl h) =
    let t = task_of job in
    inl (record {
      bytes = h.bytes;
      are = h.are;
      answered = without_some (reads_more t.doing) i (λ logged. Answered t h.bytes logged s out out_new err err_new log log_new) h.answered;
    })
some_unread (request.ByHand run) p i j s out out_new err err_new log log_new Told (inl h) = inl (record {
  bytes = h.bytes;
  are = h.are;
  reply = hand_unread run.form h.bytes run.arguments.items (is_some run.log) s i j out out_new err err_new log log_new h.reply;
})

-- and of FILE
some_unknown : (r : Request) (p i j : Option (List ℕ)) (s : ℕ) (out out_new err err_new log log_new : Option (List ℕ))
    → IsAnsweredBySome r p i j s out out_new err err_new log log_new → IsAnsweredBySome r None i j s out out_new err err_new log log_new
some_unknown (request.Job job) p i j s out out_new err err_new log log_new h = record { bytes = h.bytes; are = tt; answered = h.answered }
some_unknown (request.ByHand run) p i j s out out_new err err_new log log_new h = record { bytes = h.bytes; are = tt; reply = h.reply }

-- where no file was opened there is no such answer
pub none_opened : (s : ℕ) (A : Type 0) → (s ≡ 4) ⊎ (s ≡ 5) → s ≢ 4 → s ≢ 5 → A
none_opened s A e memory device = absurd (not_both s e memory device)

-- ---- what is asked for is served

pub served : (r : Request) (p : Option (List ℕ)) (s : ℕ) (out out_new err err_new : Option (List ℕ)) (e g : ℕ)
    → (s ≢ 4 → s ≢ 5 → IsAnsweredBySome r p None None s out out_new err err_new None None
    ⊎ IsToldOver r err err_new e g s)
    → IsServed r s out out_new err err_new e g
served r p s out out_new err err_new e g h memory device = by (h memory device)
  where
    by : IsAnsweredBySome r p None None s out out_new err err_new None None ⊎ IsToldOver r err err_new e g s
        → IsAnsweredBySome r None None None s out out_new err err_new None None
        ⊎ (IsToldOver r err err_new e g s
        ⊎ (IsByHand r × ((asked_value r).file ≡ codes "-") × Tells input_line status_words err err_new e g s))
    by (inl a) = inl (some_unknown r p None None s out out_new err err_new None None a)
    by (inr over) = inr (inl over)

-- or FILE of a run by hand is standard input
pub input_served : (r : Request) (s : ℕ) (out out_new err err_new : Option (List ℕ)) (e g : ℕ) → IsByHand r
    → (asked_value r).file ≡ codes "-"
    → Tells input_line status_words err err_new e g s → IsServed r s out out_new err err_new e g
input_served r s out out_new err err_new e g hand file told memory device = inr (inr (hand, file, told))

-- ---- the page of a rule

-- a rule's code stands for FILE
pub page_given : (r : Request) (page : List ℕ) (s : ℕ) (out out_new err err_new : Option (List ℕ)) (e g : ℕ) → rule_page r ≡ Some page
    → (s ≢ 5 → IsPageWritten page s out out_new err err_new) → IsGiven r s out out_new err err_new e g
page_given r page s out out_new err err_new e g is written = inr (page, is, written)

-- the page that was found is the one that is asked for
pub same_page : (page found : List ℕ) (s : ℕ) (out out_new err err_new o : Option (List ℕ)) → o ≡ Some page → o ≡ Some found
    → IsPageWritten found s out out_new err err_new → IsPageWritten page s out out_new err err_new
same_page page found s out out_new err err_new o is e h =
    subst (λ p. IsPageWritten p s out out_new err err_new) (ap (λ x. unwrap_or x found) (sym e ∙ is)) h

-- where there is none, none is written
pub none_written : (page : List ℕ) (A : Type 0) (o : Option (List ℕ)) → o ≡ None → o ≡ Some page → A
none_written page A None none is = cc
none_written page A (Some x) none is = cc

-- and no memory is wanted for it
pub never_memory : (s : ℕ) (A : Type 0) → (s ≡ 0) ⊎ (s ≡ 5) → s ≡ 4 → A
never_memory s A (inl zero) memory = cc
never_memory s A (inr five) memory = cc

pub none_served : (r : Request) (s : ℕ) (out out_new err err_new : Option (List ℕ)) (e g : ℕ) → (s ≡ 4) ⊎ (s ≡ 5)
    → IsServed r s out out_new err err_new e g
none_served r s out out_new err err_new e g is memory device = absurd (not_both s is memory device)

-- ---- the line that tells a fault

-- it is the last one where it is the only one
pub alone_ends : (r : Request) (p i : Option (List ℕ)) (line : List ℕ) (old new : Option (List ℕ)) → Appends old new line → EndsIn r p i line old new
alone_ends (request.Job job) p i line old new wrote = wrote
alone_ends (request.ByHand run) p i line old new wrote = unread_ends run.form p run.arguments.items i line old new wrote

pub alone_ends_or : (r : Request) (p i : Option (List ℕ)) (line : List ℕ) (old new : Option (List ℕ)) (Other : Type 0)
    → Appends old new line ⊎ Other → EndsIn r p i line old new ⊎ Other
alone_ends_or r p i line old new Other (inl wrote) = inl (alone_ends r p i line old new wrote)
alone_ends_or r p i line old new Other (inr other) = inr other

-- ---- where a device failed

-- of an open file, or of standard error
pub device_told : (r : Request) (p i : Option (List ℕ)) (old new : Option (List ℕ)) (e g : ℕ) → EndsIn r p i device_line old new ⊎ Rose e g
    → IsDeviceTold r p i old new e g
device_told r p i old new e g h = inl h

-- or a file couldn't be opened
pub unopened_told : (r : Request) (p i : Option (List ℕ)) (old new : Option (List ℕ)) (e g : ℕ) → Rose e g ⊎ IsToldUnopened r old new
    → IsDeviceTold r p i old new e g
unopened_told r p i old new e g (inl rose) = inl (inr rose)
unopened_told r p i old new e g (inr told) = inr told

-- the same where nothing is known of what is read
first_unread : (form : Form) (bytes : List ℕ) (args : List ℤ) (i : Option (List ℕ)) (said : List ℕ) → IsAskedFirst form bytes args i said
    → IsAskedFirst form bytes args None said
first_unread form bytes args i said (inl e) = inl e
first_unread form bytes args i said (inr (m, gives, accepted, are, (xs, answers, rest))) = inr (m, gives, accepted, are, (xs, tt, rest))

ends_unread : (r : Request) (p i : Option (List ℕ)) (line : List ℕ) (old new : Option (List ℕ)) → EndsIn r p i line old new → EndsIn r p None line old new
ends_unread (request.Job job) p i line old new wrote = wrote
ends_unread (request.ByHand run) p i line old new (said, first, wrote) = (
  said,
  of_each (λ bytes. IsAskedFirst run.form (kept run.form bytes) run.arguments.items i said)
      (λ bytes. IsAskedFirst run.form (kept run.form bytes) run.arguments.items None said) p
      (λ bytes asked. first_unread run.form (kept run.form bytes) run.arguments.items i said asked) first,
  wrote,
)

pub told_unread : (r : Request) (p i : Option (List ℕ)) (old new : Option (List ℕ)) (e g : ℕ) → IsDeviceTold r p i old new e g
    → IsDeviceTold r p None old new e g
told_unread r p i old new e g (inl (inl ends)) = inl (inl (ends_unread r p i device_line old new ends))
told_unread r p i old new e g (inl (inr rose)) = inl (inr rose)
told_unread r p i old new e g (inr told) = inr told

-- ---- a file that can't be opened

-- four texts one behind the other
pub joined_four : (x0 x1 x2 x3 a b c d b1 c1 d1 : List ℕ) → x0 ≡ a → x1 ≡ x0 ++ b1 → b1 ≡ b → x2 ≡ x1 ++ c1 → c1 ≡ c → x3 ≡ x2 ++ d1 → d1 ≡ d
    → x3 ≡ a ++ (b ++ (c ++ d))
joined_four x0 x1 x2 x3 a b c d b1 c1 d1 h0 h1 hb h2 hc h3 hd =
    let first : x1 ≡ a ++ b = h1 ∙ (ap (λ l. x0 ++ l) hb ∙ ap (λ l. l ++ b) h0) in
    let second : x2 ≡ (a ++ b) ++ c = h2 ∙ (ap (λ l. x1 ++ l) hc ∙ ap (λ l. l ++ c) first) in
    let third : x3 ≡ ((a ++ b) ++ c) ++ d = h3 ∙ (ap (λ l. x2 ++ l) hd ∙ ap (λ l. l ++ d) second) in
    third ∙ (append_assoc (a ++ b) c d ∙ append_assoc a b (c ++ d))

-- what was told of a path and a kind of error was told of the same
pub unopened_of : (path o : Option (List ℕ)) (why k : ErrorKind) (old new : Option (List ℕ)) (e g s : ℕ) → path ≡ o → why ≡ k
    → TellsUnopened path why old new e g s → TellsUnopened o k old new e g s
unopened_of path o why k old new e g s p q h =
    subst (λ x. TellsUnopened x k old new e g s) p (subst (λ x. TellsUnopened path x old new e g s) q h)

-- with the status of a device it is told of one of the files, or standard error failed
pub unopened_file : (r : Request) (w : Which) (k : ErrorKind) (old new : Option (List ℕ)) (e g s : ℕ) → TellsUnopened (told_path r w) k old new e g s → s ≡ 5
    → Rose e g ⊎ IsToldUnopened r old new
unopened_file r w k old new e g s (inl (inl t)) five = inr (w, k, t.1)
unopened_file r w k old new e g s (inl (inr t)) five = inl t.2
unopened_file r w k old new e g s (inr (named, inl t)) five = cc
unopened_file r w k old new e g s (inr (named, inr t)) five = inl t.2

-- with that of want of memory its line is
pub unopened_memory : (o : Option (List ℕ)) (k : ErrorKind) (old new : Option (List ℕ)) (e g s : ℕ) → TellsUnopened o k old new e g s → s ≡ 4
    → Appends old new memory_line
unopened_memory o k old new e g s (inl (inl t)) four = cc
unopened_memory o k old new e g s (inl (inr t)) four = cc
unopened_memory o k old new e g s (inr (named, inl t)) four = t.1
unopened_memory o k old new e g s (inr (named, inr t)) four = cc

-- no other status is
pub unopened_status : (o : Option (List ℕ)) (k : ErrorKind) (old new : Option (List ℕ)) (e g s : ℕ) → TellsUnopened o k old new e g s → (s ≡ 4) ⊎ (s ≡ 5)
unopened_status o k old new e g s (inl (inl t)) = inr t.0
unopened_status o k old new e g s (inl (inr t)) = inr t.0
unopened_status o k old new e g s (inr (named, inl t)) = inl t.0
unopened_status o k old new e g s (inr (named, inr t)) = inr t.0

-- and with another than that of a device standard error didn't fail
pub unopened_whole : (o : Option (List ℕ)) (k : ErrorKind) (old new : Option (List ℕ)) (e g s : ℕ) → TellsUnopened o k old new e g s → s ≢ 5 → g ≡ e
unopened_whole o k old new e g s (inl (inl t)) device = t.2
unopened_whole o k old new e g s (inl (inr t)) device = absurd (device t.0)
unopened_whole o k old new e g s (inr (named, inl t)) device = t.2
unopened_whole o k old new e g s (inr (named, inr t)) device = absurd (device t.0)
