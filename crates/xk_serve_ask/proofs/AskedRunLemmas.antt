-- What comes of a run whose order is asked for, and what stands against one.
use Rattle.std.proofs.Common.{◌≡◌, ◌≢◌, ◌∙◌, ℕ, ℤ, ◌⊎◌, inl, inr, Bool, true, false, List, [], ◌++◌, refl, sym, ap}
use Rattle.std.proofs.Common.{subst, arith, Option, Some, None, Result, Err}
use Rattle.std.specs.Prelude.{IfErr, IfSome, take, if◌then◌else◌}
use Rattle.std.specs.Io.KnownBytes.{Appends}
use Rattle.xk_types.specs.declared.world.Entry.{Entry}
use Rattle.xk_types.specs.Acceptance.{IsAccepted}
use Rattle.xk_types.specs.Code.{ModuleValue}
use Rattle.xk_types.specs.Device.{Rose}
use Rattle.xk_types.specs.World.{AreArguments}
use Rattle.xk_io.specs.Writing.{AppendsBeginning}
use Rattle.xk_io.proofs.DeviceLemmas.{appends_then}
use Rattle.xk_io.specs.Lines.{number_lines}
use Rattle.xk_log.specs.LogText.{log_text}
use Rattle.xk_jobs.specs.declared.job.Form.{Form}
use Rattle.xk_messages.specs.Lines.{label_line, label_status, memory_line, refusal_line, refusal_status}
use Rattle.xk_bounds.specs.declared.refusal.Refusal.{Refusal}
use Rattle.xk_bounds.specs.declared.refusal.Refusal.TheVariants as refusal
use Rattle.xk_module.specs.Faults.{fault_label}
use Rattle.xk_unit_origins.specs.UnitOrigins.{UnitOrigins}
use Rattle.xk_ask.specs.Answers.{AreAnswers}
use Rattle.xk_ask.specs.Asking.{BeginsByAnswers, IsByAnswers, Leaves}
use Rattle.xk_ask.specs.Play.{IsPlayed, log_by, told_by, unread}
use Rattle.xk_program.specs.declared.fault.Fault.{Fault}
use Rattle.xk_program.specs.declared.fault.Fault.TheVariants as fault
use Rattle.xk_serve.specs.Printed.{whole_status}
use Rattle.xk_program.specs.Bytes.{FailsRead, kept}
use Rattle.xk_serve.specs.Devices.{Reports}
use Rattle.xk_program.specs.Origins.{HaveOrigins, HaveSharedNames}
use Rattle.xk_program.specs.Lines.{device_line, fault_line, status_of}
use Rattle.xk_program.specs.Programs.{Gives}
use Rattle.xk_serve.proofs.ReplyLemmas.{appends_none, tells_begins}
use Rattle.xk_serve_ask.specs.AskedRun.{AreBegun, BeginsAsking, BeginsToAsk, EndsAsking, FailsWhile, IsAskedBy}
use Rattle.xk_serve_ask.specs.AskedRun.{IsAskedFirst, IsFaultReply, IsHandReply, IsHandRun, IsPlayedByHand, IsUnfitFor}
use Rattle.xk_serve_ask.specs.AskedRun.{IsWrittenBy, OutBeginsRun, StandsAgainstAsked, known_of, last_line}

-- what holds of the bytes kept holds of those kept of the bytes that are known
of_known : (form : Form) (program : Option (List ℕ)) (bytes : List ℕ) (P : List ℕ → Type 0) → IfSome program (λ k. bytes ≡ kept form k) → P bytes
    → IfSome program (λ k. P (kept form k))
of_known form None bytes P is p = tt
of_known form (Some k) bytes P is p = subst P is p

-- ---- what was written of a run

-- it was written, and nothing more to standard error
abbrev pub IsOut : {D : Type 0} → D → D → List Entry → List ℤ → List ℕ → Bool → Bool → Option (List ℕ) → Option (List ℕ) → Option (List ℕ) → Option (List ℕ)
    → ℕ → ℕ → ℕ → ℕ → ℕ → Type 0
IsOut mid new log numbers ending whole keeps out_old out_new log_old log_new o_old o_new k_old k_new result =
    ((result ≡ whole_status whole) × Appends out_old out_new (number_lines numbers ++ ending) × Appends log_old log_new (if keeps then log_text log else [])
    × (new ≡ mid) × (o_new ≡ o_old) × (k_new ≡ k_old))
    ⊎ ((result ≡ 5) × (Rose o_old o_new ⊎ Rose k_old k_new))

-- so it is answered by that run
pub run_reply : {D : Type 0} (contents : D → Option (List ℕ)) (first mid new : D) (form : Form) (bytes : List ℕ) (args : List ℤ)
    (in_old in_new : Option (List ℕ)) (log : List Entry) (numbers : List ℤ) (steps : ℕ) (whole keeps : Bool) (ending : List ℕ)
    (out_old out_new log_old log_new : Option (List ℕ)) (o_old o_new k_old k_new result : ℕ)
    → IsPlayedByHand form bytes args in_old in_new (contents first) (contents mid) log numbers steps whole
    → ending ≡ last_line whole steps
    → IsOut mid new log numbers ending whole keeps out_old out_new log_old log_new o_old o_new k_old k_new result
    → result ≢ 4 → result ≢ 5
    → IsHandReply form bytes args keeps result in_old in_new out_old out_new (contents first) (contents new) log_old log_new
run_reply contents first mid new form bytes args in_old in_new log numbers steps whole keeps ending out_old out_new log_old log_new o_old
    o_new k_old k_new
    result done last (inl out) memory device =
    inl (record {
      log = log;
      numbers = numbers;
      steps = steps;
      whole = whole;
      by_hand =
          subst (λ d. IsPlayedByHand form bytes args in_old in_new (contents first) (contents d) log numbers steps whole) (sym out.3) done;
      status_is = out.0;
      out_is = subst (λ l. Appends out_old out_new (number_lines numbers ++ l)) last out.1;
      log_is = out.2;
    })
run_reply contents first mid new form bytes args in_old in_new log numbers steps whole keeps ending out_old out_new log_old log_new o_old
    o_new k_old k_new
    result done last (inr broke) memory device = absurd (device broke.0)

-- and of the bytes that are known, if they are
pub run_replies : {D : Type 0} (contents : D → Option (List ℕ)) (first mid new : D) (form : Form) (program : Option (List ℕ)) (bytes : List ℕ) (args : List ℤ)
    (in_old in_new : Option (List ℕ)) (log : List Entry) (numbers : List ℤ) (steps : ℕ) (whole keeps : Bool) (ending : List ℕ)
    (out_old out_new log_old log_new : Option (List ℕ)) (o_old o_new k_old k_new result : ℕ)
    → IfSome program (λ k. bytes ≡ kept form k)
    → IsPlayedByHand form bytes args in_old in_new (contents first) (contents mid) log numbers steps whole
    → ending ≡ last_line whole steps
    → IsOut mid new log numbers ending whole keeps out_old out_new log_old log_new o_old o_new k_old k_new result
    → IfSome program (λ b. result ≢ 4 → result ≢ 5
    → IsHandReply form (kept form b) args keeps result in_old in_new out_old out_new (contents first) (contents new) log_old log_new)
run_replies contents first mid new form program bytes args in_old in_new log numbers steps whole keeps ending out_old out_new log_old
    log_new o_old o_new k_old
    k_new result is done last out =
    of_known form program bytes
    (λ x. result ≢ 4 → result ≢ 5
    → IsHandReply form x args keeps result in_old in_new out_old out_new (contents first) (contents new) log_old log_new) is
    (λ memory device. run_reply contents first mid new form bytes args in_old in_new log numbers steps whole keeps ending out_old out_new
    log_old log_new
    o_old o_new k_old k_new result done last out memory device)

-- of it a beginning was written
pub run_begins : (form : Form) (program : Option (List ℕ)) (bytes : List ℕ) (args : List ℤ) (in_old in_new first mid : Option (List ℕ)) (log : List Entry)
    (numbers : List ℤ) (steps : ℕ) (whole keeps : Bool) (ending : List ℕ) (out_old out_new log_old log_new : Option (List ℕ))
    → IfSome program (λ k. bytes ≡ kept form k)
    → IsPlayedByHand form bytes args in_old in_new first mid log numbers steps whole
    → ending ≡ last_line whole steps
    → AreBegun (number_lines numbers ++ ending) (if keeps then log_text log else []) out_old out_new log_old log_new
    → IfSome program (λ b. OutBeginsRun form (kept form b) args keeps in_old out_old out_new log_old log_new)
run_begins form None bytes args in_old in_new first mid log numbers steps whole keeps ending out_old out_new log_old log_new is done last begun = tt
run_begins form (Some b) bytes args in_old in_new first mid log numbers steps whole keeps ending out_old out_new log_old log_new is done last begun =
    inr (
      done.told,
      log,
      numbers,
      steps,
      whole,
      subst (λ x. IsHandRun form x args in_old done.told log numbers steps whole) is done.run,
      subst (λ l. AreBegun (number_lines numbers ++ l) (if keeps then log_text log else []) out_old out_new log_old log_new) last begun,
    )

-- nothing was
pub nothing_begins : (form : Form) (program : Option (List ℕ)) (args : List ℤ) (keeps : Bool) (input out log : Option (List ℕ))
    → IfSome program (λ b. OutBeginsRun form (kept form b) args keeps input out out log log)
nothing_begins form None args keeps input out log = tt
nothing_begins form (Some b) args keeps input out log = inl (appends_none out, appends_none log)

-- ---- what is asked

-- by the lines and names of a source text, or without any
pub asked_by : (form : Form) (bytes text : List ℕ) (shared : List (List ℕ)) (origins : Option (List UnitOrigins)) (m : ModuleValue) (args : List ℤ)
    (input : Option (List ℕ)) (log : List Entry)
    (old new : Option (List ℕ)) → text ≡ bytes → HaveOrigins form bytes origins → HaveSharedNames form bytes shared
    → IsByAnswers (known_of text shared origins) m args input log old new
    → (xs : List (Option ℕ)) × AreAnswers input xs × (log ≡ log_by m args xs) × IsWrittenBy (IsAskedBy form bytes m args xs) old new
asked_by form bytes text shared origins m args input log old new same have names by = (
  by.0,
  by.1,
  by.2,
  (
    told_by (known_of text shared origins) m args by.0,
    (shared, names, (origins, have, ap (λ t. told_by (known_of t shared origins) m args by.0) same)),
    by.3,
  ),
)

pub begun_by : (form : Form) (bytes text : List ℕ) (shared : List (List ℕ)) (origins : Option (List UnitOrigins)) (m : ModuleValue) (args : List ℤ)
    (input old new : Option (List ℕ))
    → text ≡ bytes → HaveOrigins form bytes origins → HaveSharedNames form bytes shared
    → BeginsByAnswers (known_of text shared origins) m args input old new → BeginsToAsk form bytes m args input old new
begun_by form bytes text shared origins m args input old new same have names by =
    inr (
      by.0,
      by.1,
      (
        told_by (known_of text shared origins) m args by.0,
        (shared, names, (origins, have, ap (λ t. told_by (known_of t shared origins) m args by.0) same)),
        by.2,
      ),
    )

-- the run of a module that the bytes give
pub played_by_hand : (form : Form) (bytes : List ℕ) (m v : ModuleValue) (args : List ℤ) (in_old in_new old new : Option (List ℕ)) (log : List Entry)
    (numbers : List ℤ) (steps : ℕ) (whole : Bool) → v ≡ m → Gives form bytes m → IsAccepted m → AreArguments m args → IsPlayed v args log numbers steps whole
    → (xs : List (Option ℕ)) × AreAnswers in_old xs × (log ≡ log_by v args xs) × IsWrittenBy (IsAskedBy form bytes v args xs) old new
    → Leaves (unread v args whole) in_old in_new → IsPlayedByHand form bytes args in_old in_new old new log numbers steps whole
played_by_hand form bytes m v args in_old in_new old new log numbers steps whole same given accepted taken played by rest = record {
  told = by.3.0;
  run = record {
    of = v;
    given = subst (Gives form bytes) (sym same) given;
    accepted = subst IsAccepted (sym same) accepted;
    taken = subst (λ z. AreArguments z args) (sym same) taken;
    played = played;
    answers = by.0;
    are = by.1;
    log_is = by.2;
    told_is = by.3.1;
  };
  rest_is = rest;
  err_is = by.3.2;
}

-- a beginning of what is asked in a run of a module that the bytes give
pub asks_first : (form : Form) (bytes : List ℕ) (m v : ModuleValue) (args : List ℤ) (input old new : Option (List ℕ))
    → v ≡ m → Gives form bytes m → IsAccepted m → AreArguments m args → BeginsToAsk form bytes v args input old new
    → IsWrittenBy (IsAskedFirst form bytes args input) old new
asks_first form bytes m v args input old new same given accepted taken (inl none) = ([], inl refl, none)
asks_first form bytes m v args input old new same given accepted taken (inr asks) =
    let told = asks.2.0 in
    let begun : AppendsBeginning old new told = asks.2.2 in (
      take begun.0 told,
      inr (
        v,
        subst (Gives form bytes) (sym same) given,
        subst IsAccepted (sym same) accepted,
        subst (λ z. AreArguments z args) (sym same) taken,
        (asks.0, asks.1, (told, asks.2.1, (begun.0, refl))),
      ),
      begun.1,
    )

-- nothing is
pub asks_nothing : (form : Form) (bytes : List ℕ) (args : List ℤ) (input err : Option (List ℕ)) → IsWrittenBy (IsAskedFirst form bytes args input) err err
asks_nothing form bytes args input err = ([], inl refl, appends_none err)

-- ---- faults

-- a fault that came meanwhile is want of memory or a device's, and writes to standard error failed or didn't
pub meanwhile : (i j e g : ℕ) (f : Fault) → FailsWhile i j e g f → ((f ≡ fault.OutOfMemory) ⊎ (f ≡ fault.Device)) × ((g ≡ e) ⊎ Rose e g)
meanwhile i j e g fault.Device (inl input) = (inr refl, inl input.1)
meanwhile i j e g fault.Device (inr rose) = (inr refl, inr rose)
meanwhile i j e g fault.OutOfMemory h = (inl refl, inl h.1)
meanwhile i j e g (fault.Text f) h = absurd h
meanwhile i j e g (fault.Front f) h = absurd h
meanwhile i j e g (fault.Refused f) h = absurd h
meanwhile i j e g (fault.Arguments a b) h = absurd h
meanwhile i j e g (fault.Grammar n) h = absurd h
meanwhile i j e g fault.Truncated h = absurd h
meanwhile i j e g (fault.NotEnabled n) h = absurd h
meanwhile i j e g fault.NotEnded h = absurd h
meanwhile i j e g (fault.NoOutcome n) h = absurd h

pub stands_counts : (form : Form) (bytes : List ℕ) (args : List ℤ) (i j e g : ℕ) (first mid : Option (List ℕ)) (f : Fault)
    → StandsAgainstAsked form bytes args i j e g first mid f → (g ≡ e) ⊎ Rose e g
stands_counts form bytes args i j e g first mid f (inl came) = (meanwhile i j e g f came).1
stands_counts form bytes args i j e g first mid f (inr unfit) = inl unfit.2

-- so is one of a read
pub of_read : (i j : ℕ) (f : Fault) → FailsRead i j f → (f ≡ fault.OutOfMemory) ⊎ (f ≡ fault.Device)
of_read i j fault.Device h = inr refl
of_read i j fault.OutOfMemory h = inl refl
of_read i j (fault.Text f) h = absurd h
of_read i j (fault.Front f) h = absurd h
of_read i j (fault.Refused f) h = absurd h
of_read i j (fault.Arguments a b) h = absurd h
of_read i j (fault.Grammar n) h = absurd h
of_read i j fault.Truncated h = absurd h
of_read i j (fault.NotEnabled n) h = absurd h
of_read i j fault.NotEnded h = absurd h
of_read i j (fault.NoOutcome n) h = absurd h

-- ---- statuses

one_four : ◌≢◌ {A = ℕ} 1 4
one_four is = absurd (omega (arith, is))

one_five : ◌≢◌ {A = ℕ} 1 5
one_five is = absurd (omega (arith, is))

three_four : ◌≢◌ {A = ℕ} 3 4
three_four is = absurd (omega (arith, is))

three_five : ◌≢◌ {A = ℕ} 3 5
three_five is = absurd (omega (arith, is))

four_five : ◌≢◌ {A = ℕ} 4 5
four_five is = absurd (omega (arith, is))

-- what was asked for by a run that was written is neither refused nor wants memory
whole_status_is : (whole : Bool) → (whole_status whole ≢ 4) × (whole_status whole ≢ 1)
whole_status_is true = (λ is. absurd (zero_four is), λ is. absurd (zero_one is))
  where
    zero_four : ◌≢◌ {A = ℕ} 0 4
    zero_four is = absurd (omega (arith, is))

    zero_one : ◌≢◌ {A = ℕ} 0 1
    zero_one is = absurd (omega (arith, is))
whole_status_is false = (λ is. absurd (six_four is), λ is. absurd (six_one is))
  where
    six_four : ◌≢◌ {A = ℕ} 6 4
    six_four is = absurd (omega (arith, is))

    six_one : ◌≢◌ {A = ℕ} 6 1
    six_one is = absurd (omega (arith, is))

pub out_status : {D : Type 0} (mid new : D) (log : List Entry) (numbers : List ℤ) (ending : List ℕ) (whole keeps : Bool)
    (out_old out_new log_old log_new : Option (List ℕ)) (o_old o_new k_old k_new result : ℕ)
    → IsOut mid new log numbers ending whole keeps out_old out_new log_old log_new o_old o_new k_old k_new result → (result ≢ 4) × (result ≢ 1)
out_status mid new log numbers ending whole keeps out_old out_new log_old log_new o_old o_new k_old k_new result (inl out) =
    (λ is. (whole_status_is whole).0 (sym out.0 ∙ is), λ is. (whole_status_is whole).1 (sym out.0 ∙ is))
out_status mid new log numbers ending whole keeps out_old out_new log_old log_new o_old o_new k_old k_new result (inr broke) =
    (λ is. four_five (sym is ∙ broke.0), λ is. one_five (sym is ∙ broke.0))

-- neither has the status of a program that is refused, so of a call that failed so this says nothing
pub unread_refused : {A : Type 0} (r : Result A Fault) (x y : Fault) (P : Type 0) → r ≡ Err x → x ≡ y → (y ≡ fault.OutOfMemory) ⊎ (y ≡ fault.Device)
    → IfErr r (λ f. status_of f ≡ 1 → P)
unread_refused r x y P is same fails =
    subst (λ q. IfErr q (λ f. status_of f ≡ 1 → P)) (sym is) (λ refused. absurd (by fails (sym (ap status_of same) ∙ refused)))
  where
    by : (y ≡ fault.OutOfMemory) ⊎ (y ≡ fault.Device) → status_of y ≢ 1
    by (inl four) one = one_four (sym one ∙ ap status_of four)
    by (inr five) one = one_five (sym one ∙ ap status_of five)

label_memory : (label : Option (List ℕ)) → label_status label ≡ 4 → label_line label ≡ memory_line
label_memory (Some l) is = absurd (one_four is)
label_memory None is = refl

refusal_memory : (r : Refusal) → refusal_status r ≡ 4 → refusal_line r ≡ memory_line
refusal_memory (refusal.Shape f) is = absurd (one_four is)
refusal_memory (refusal.Kind f) is = absurd (one_four is)
refusal_memory (refusal.Bound f) is = absurd (one_four is)
refusal_memory refusal.OutOfMemory is = refl

-- a fault with the status of want of memory has its line
memory_told : (f : Fault) → status_of f ≡ 4 → fault_line f ≡ memory_line
memory_told fault.OutOfMemory is = refl
memory_told fault.Device is = absurd (four_five (sym is))
memory_told (fault.Text f) is = label_memory (fault_label f) is
memory_told (fault.Front f) is = absurd (one_four is)
memory_told (fault.Refused r) is = refusal_memory r is
memory_told (fault.Arguments a b) is = absurd (one_four is)
memory_told (fault.Grammar n) is = absurd (three_four is)
memory_told fault.Truncated is = absurd (three_four is)
memory_told (fault.NotEnabled n) is = absurd (three_four is)
memory_told fault.NotEnded is = absurd (three_four is)
memory_told (fault.NoOutcome n) is = absurd (three_four is)

label_no_device : (label : Option (List ℕ)) → label_status label ≢ 5
label_no_device (Some l) is = one_five is
label_no_device None is = four_five is

refusal_no_device : (r : Refusal) → refusal_status r ≢ 5
refusal_no_device (refusal.Shape f) is = one_five is
refusal_no_device (refusal.Kind f) is = one_five is
refusal_no_device (refusal.Bound f) is = one_five is
refusal_no_device refusal.OutOfMemory is = four_five is

-- and one with that of a device has its line
device_told : (f : Fault) → status_of f ≡ 5 → fault_line f ≡ device_line
device_told fault.Device is = refl
device_told fault.OutOfMemory is = absurd (four_five is)
device_told (fault.Text f) is = absurd (label_no_device (fault_label f) is)
device_told (fault.Front f) is = absurd (one_five is)
device_told (fault.Refused r) is = absurd (refusal_no_device r is)
device_told (fault.Arguments a b) is = absurd (one_five is)
device_told (fault.Grammar n) is = absurd (three_five is)
device_told fault.Truncated is = absurd (three_five is)
device_told (fault.NotEnabled n) is = absurd (three_five is)
device_told fault.NotEnded is = absurd (three_five is)
device_told (fault.NoOutcome n) is = absurd (three_five is)

-- ---- a fault that was told

module _ (f : Fault) (old new : Option (List ℕ)) (faults_old faults_new result : ℕ) (told : Reports f old new faults_old faults_new result) where
  -- as want of memory
  memory_reports : Reports f old new faults_old faults_new result → result ≡ 4 → Appends old new memory_line
  memory_reports (inl (inl line)) is = subst (Appends old new) (memory_told f (sym line.0 ∙ is)) line.1
  memory_reports (inl (inr broke)) is = absurd (four_five (sym is ∙ broke.0))
  memory_reports (inr (other, inl line)) is = line.1
  memory_reports (inr (other, inr broke)) is = absurd (four_five (sym is ∙ broke.0))

  pub reports_memory : result ≡ 4 → Appends old new memory_line
  reports_memory = memory_reports told

  -- as a device's, or that can't be written
  device_reports : Reports f old new faults_old faults_new result → result ≡ 5 → Appends old new device_line ⊎ Rose faults_old faults_new
  device_reports (inl (inl line)) is = inl (subst (Appends old new) (device_told f (sym line.0 ∙ is)) line.1)
  device_reports (inl (inr broke)) is = inr broke.2
  device_reports (inr (other, inl line)) is = absurd (four_five (sym line.0 ∙ is))
  device_reports (inr (other, inr broke)) is = inr broke.2

  pub reports_device : result ≡ 5 → Appends old new device_line ⊎ Rose faults_old faults_new
  reports_device = device_reports told

  -- as one of a program that is refused
  refusal_reports : Reports f old new faults_old faults_new result → result ≡ 1 → status_of f ≡ 1
  refusal_reports (inl (inl line)) is = sym line.0 ∙ is
  refusal_reports (inl (inr broke)) is = absurd (one_five (sym is ∙ broke.0))
  refusal_reports (inr (other, inl line)) is = absurd (one_four (sym is ∙ line.0))
  refusal_reports (inr (other, inr broke)) is = absurd (one_five (sym is ∙ broke.0))

  pub reports_refusal : result ≡ 1 → status_of f ≡ 1
  reports_refusal = refusal_reports told

  -- a beginning of its line was written, or of that of want of memory
  begun_reports : Reports f old new faults_old faults_new result → AppendsBeginning old new (fault_line f) ⊎ AppendsBeginning old new memory_line
  begun_reports (inl line) = inl (tells_begins (fault_line f) _ old new _ _ _ line)
  begun_reports (inr (other, line)) = inr (tells_begins memory_line _ old new _ _ _ line)

  pub reports_begun : AppendsBeginning old new (fault_line f) ⊎ AppendsBeginning old new memory_line
  reports_begun = begun_reports told

-- ---- standard error

-- what was asked, and then the line
pub ends_asking : (form : Form) (program : Option (List ℕ)) (bytes : List ℕ) (args : List ℤ) (input : Option (List ℕ)) (line : List ℕ)
    (first mid new : Option (List ℕ))
    → IfSome program (λ k. bytes ≡ kept form k) → IsWrittenBy (IsAskedFirst form bytes args input) first mid → Appends mid new line
    → EndsAsking form program args input line first new
ends_asking form program bytes args input line first mid new is asked wrote =
    (asked.0, of_bytes program is, appends_then first mid new asked.0 line asked.2 wrote)
  where
    of_bytes : (p : Option (List ℕ)) → IfSome p (λ k. bytes ≡ kept form k) → IfSome p (λ k. IsAskedFirst form (kept form k) args input asked.0)
    of_bytes None h = tt
    of_bytes (Some k) h = subst (λ x. IsAskedFirst form x args input asked.0) h asked.1

-- the line of a device, where one failed; or a write to standard error did, then or before
pub ends_asking_device : (form : Form) (program : Option (List ℕ)) (bytes : List ℕ) (args : List ℤ) (input first mid new : Option (List ℕ)) (e g h : ℕ)
    → IfSome program (λ k. bytes ≡ kept form k) → IsWrittenBy (IsAskedFirst form bytes args input) first mid → (g ≡ e) ⊎ Rose e g
    → Appends mid new device_line ⊎ Rose g h → EndsAsking form program args input device_line first new ⊎ Rose e h
ends_asking_device form program bytes args input first mid new e g h is asked before (inl line) =
    inl (ends_asking form program bytes args input device_line first mid new is asked line)
ends_asking_device form program bytes args input first mid new e g h is asked (inl same) (inr rose) = inr (subst (λ x. Rose x h) same rose)
ends_asking_device form program bytes args input first mid new e g h is asked (inr before) (inr rose) = inr (omega (arith, before, rose))

-- a beginning of a line behind what was asked
begins_asking : (form : Form) (bytes : List ℕ) (args : List ℤ) (input : Option (List ℕ)) (f : Fault) (first mid new : Option (List ℕ))
    → IsWrittenBy (IsAskedFirst form bytes args input) first mid → (f ≡ fault.Device) ⊎ IsUnfitFor form bytes args f → AppendsBeginning mid new (fault_line f)
    → BeginsAsking form bytes args input first new
begins_asking form bytes args input f first mid new asked may begun =
    (asked.0, asked.1, (f, may, (begun.0, appends_then first mid new asked.0 (take begun.0 (fault_line f)) asked.2 begun.1)))

-- behind a run
pub run_begins_line : (form : Form) (program : Option (List ℕ)) (bytes : List ℕ) (args : List ℤ) (input first mid new : Option (List ℕ))
    → IfSome program (λ k. bytes ≡ kept form k) → IsWrittenBy (IsAskedFirst form bytes args input) first mid → AppendsBeginning mid new device_line
    → IfSome program (λ k. BeginsAsking form (kept form k) args input first new)
run_begins_line form program bytes args input first mid new is asked begun =
    of_known form program bytes (λ x. BeginsAsking form x args input first new) is
    (begins_asking form bytes args input fault.Device first mid new asked (inl refl) begun)

-- which faults may be told
may_be_told : (form : Form) (bytes : List ℕ) (args : List ℤ) (f : Fault) → (f ≡ fault.OutOfMemory) ⊎ (f ≡ fault.Device)
    → (f ≡ fault.Device) ⊎ IsUnfitFor form bytes args f
may_be_told form bytes args f (inl is) = inr (subst (λ x. IsUnfitFor form bytes args x) (sym is) (inl tt))
may_be_told form bytes args f (inr is) = inl is

pub stands_told : (form : Form) (bytes : List ℕ) (args : List ℤ) (i j e g : ℕ) (first mid : Option (List ℕ)) (f : Fault)
    → StandsAgainstAsked form bytes args i j e g first mid f → (f ≡ fault.Device) ⊎ IsUnfitFor form bytes args f
stands_told form bytes args i j e g first mid f (inl came) = may_be_told form bytes args f (meanwhile i j e g f came).0
stands_told form bytes args i j e g first mid f (inr unfit) = inr unfit.0

fault_begins : (form : Form) (bytes : List ℕ) (args : List ℤ) (input : Option (List ℕ)) (f : Fault) (first mid new : Option (List ℕ))
    → IsWrittenBy (IsAskedFirst form bytes args input) first mid → (f ≡ fault.Device) ⊎ IsUnfitFor form bytes args f
    → AppendsBeginning mid new (fault_line f) ⊎ AppendsBeginning mid new memory_line → BeginsAsking form bytes args input first new
fault_begins form bytes args input f first mid new asked may (inl begun) = begins_asking form bytes args input f first mid new asked may begun
fault_begins form bytes args input f first mid new asked may (inr begun) =
    begins_asking form bytes args input fault.OutOfMemory first mid new asked (inr (inl tt)) begun

-- before or in a run
pub fault_begins_line : (form : Form) (program : Option (List ℕ)) (bytes : List ℕ) (args : List ℤ) (input : Option (List ℕ)) (f : Fault)
    (first mid new : Option (List ℕ))
    → IfSome program (λ k. bytes ≡ kept form k) → IsWrittenBy (IsAskedFirst form bytes args input) first mid
    → (f ≡ fault.Device) ⊎ IsUnfitFor form bytes args f
    → AppendsBeginning mid new (fault_line f) ⊎ AppendsBeginning mid new memory_line
    → IfSome program (λ k. BeginsAsking form (kept form k) args input first new)
fault_begins_line form program bytes args input f first mid new is asked may begun =
    of_known form program bytes (λ x. BeginsAsking form x args input first new) is (fault_begins form bytes args input f first mid new asked may begun)

-- where FILE can't be read: of whatever bytes
pub unread_begins_line : (form : Form) (program : Option (List ℕ)) (args : List ℤ) (input : Option (List ℕ)) (i j : ℕ) (f : Fault) (err new : Option (List ℕ))
    → FailsRead i j f → AppendsBeginning err new (fault_line f) ⊎ AppendsBeginning err new memory_line
    → IfSome program (λ k. BeginsAsking form (kept form k) args input err new)
unread_begins_line form None args input i j f err new came begun = tt
unread_begins_line form (Some k) args input i j f err new came begun =
    fault_begins form (kept form k) args input f err err new (asks_nothing form (kept form k) args input err)
    (may_be_told form (kept form k) args f (of_read i j f came)) begun

-- neither a run nor what stands against one is the answer
told_at_read : (i j : ℕ) (f : Fault) (old new : Option (List ℕ)) (faults_old faults_new result : ℕ) → FailsRead i j f
    → Reports f old new faults_old faults_new result → (result ≡ 4) ⊎ (result ≡ 5)
told_at_read i j f old new faults_old faults_new result came (inl (inl line)) = by (of_read i j f came)
  where
    by : (f ≡ fault.OutOfMemory) ⊎ (f ≡ fault.Device) → (result ≡ 4) ⊎ (result ≡ 5)
    by (inl is) = inl (line.0 ∙ ap status_of is)
    by (inr is) = inr (line.0 ∙ ap status_of is)
told_at_read i j f old new faults_old faults_new result came (inl (inr broke)) = inr broke.0
told_at_read i j f old new faults_old faults_new result came (inr (other, inl line)) = inl line.0
told_at_read i j f old new faults_old faults_new result came (inr (other, inr broke)) = inr broke.0

-- where FILE can't be read memory is wanting, or a device failed
pub unread_alone : (i j : ℕ) (f : Fault) (old new : Option (List ℕ)) (faults_old faults_new result : ℕ) → FailsRead i j f
    → Reports f old new faults_old faults_new result → result ≢ 4 → result ≢ 5 → ⊥
unread_alone i j f old new faults_old faults_new result came told memory device =
    by (told_at_read i j f old new faults_old faults_new result came told)
  where
    by : (result ≡ 4) ⊎ (result ≡ 5) → ⊥
    by (inl is) = memory is
    by (inr is) = device is

pub unread_replies : (form : Form) (program : Option (List ℕ)) (args : List ℤ) (keeps : Bool) (i j : ℕ) (f : Fault) (input old new out log : Option (List ℕ))
    (faults_old faults_new result : ℕ) → FailsRead i j f → Reports f old new faults_old faults_new result
    → IfSome program (λ b. result ≢ 4 → result ≢ 5 → IsHandReply form (kept form b) args keeps result input input out out old new log log)
unread_replies form None args keeps i j f input old new out log faults_old faults_new result came told = tt
unread_replies form (Some b) args keeps i j f input old new out log faults_old faults_new result came told = λ memory device.
    absurd (unread_alone i j f old new faults_old faults_new result came told memory device)

pub unread_ends : (form : Form) (program : Option (List ℕ)) (args : List ℤ) (input : Option (List ℕ)) (line : List ℕ) (err new : Option (List ℕ))
    → Appends err new line → EndsAsking form program args input line err new
unread_ends form program args input line err new wrote = ([], of_any program, wrote)
  where
    of_any : (p : Option (List ℕ)) → IfSome p (λ k. IsAskedFirst form (kept form k) args input [])
    of_any None = tt
    of_any (Some k) = inl refl

pub unread_ends_device : (form : Form) (program : Option (List ℕ)) (args : List ℤ) (input err new : Option (List ℕ)) (e g : ℕ)
    → Appends err new device_line ⊎ Rose e g → EndsAsking form program args input device_line err new ⊎ Rose e g
unread_ends_device form program args input err new e g (inl wrote) = inl (unread_ends form program args input device_line err new wrote)
unread_ends_device form program args input err new e g (inr rose) = inr rose

-- ---- what stands against a run

-- it is answered by that
pub fault_reply_of : (form : Form) (bytes : List ℕ) (args : List ℤ) (f : Fault) (i j e g : ℕ) (first mid new out log : Option (List ℕ))
    (faults_old faults_new result : ℕ)
    → StandsAgainstAsked form bytes args i j e g first mid f → Reports f mid new faults_old faults_new result → result ≢ 4 → result ≢ 5
    → IsFaultReply form bytes args result out out first new log log
fault_reply_of form bytes args f i j e g first mid new out log faults_old faults_new result against (inr (other, inl line)) memory device = absurd
    (memory line.0)
fault_reply_of form bytes args f i j e g first mid new out log faults_old faults_new result against (inr (other, inr broke)) memory device = absurd
    (device broke.0)
fault_reply_of form bytes args f i j e g first mid new out log faults_old faults_new result against (inl (inr broke)) memory device = absurd (device broke.0)
fault_reply_of form bytes args f i j e g first mid new out log faults_old faults_new result (inl came) (inl (inl line)) memory device =
    absurd (by (meanwhile i j e g f came).0)
  where
    by : (f ≡ fault.OutOfMemory) ⊎ (f ≡ fault.Device) → ⊥
    by (inl four) = memory (line.0 ∙ ap status_of four)
    by (inr five) = device (line.0 ∙ ap status_of five)
fault_reply_of form bytes args f i j e g first mid new out log faults_old faults_new result (inr unfit) (inl (inl line)) memory device = record {
  told = f;
  unfit = unfit.0;
  status_is = line.0;
  out_is = appends_none out;
  err_is = appends_then first mid new [] (fault_line f) unfit.3 line.1;
  log_is = appends_none log;
}

pub fault_replies : (form : Form) (program : Option (List ℕ)) (bytes : List ℕ) (args : List ℤ) (keeps : Bool) (f : Fault) (i j e g : ℕ)
    (in_old in_new first mid new out log : Option (List ℕ)) (faults_old faults_new result : ℕ)
    → IfSome program (λ k. bytes ≡ kept form k)
    → StandsAgainstAsked form bytes args i j e g first mid f
    → Reports f mid new faults_old faults_new result
    → IfSome program (λ b. result ≢ 4 → result ≢ 5 → IsHandReply form (kept form b) args keeps result in_old in_new out out first new log log)
fault_replies form program bytes args keeps f i j e g in_old in_new first mid new out log faults_old faults_new result is against told =
    of_known form program bytes (λ x. result ≢ 4 → result ≢ 5 → IsHandReply form x args keeps result in_old in_new out out first new log log) is
    (λ memory device. inr (fault_reply_of form bytes args f i j e g first mid new out log faults_old faults_new result against told memory device))
