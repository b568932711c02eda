-- From what is said of a module to what is said of the task on the bytes that give it.
use Rattle.std.proofs.Common.{◌≡◌, ◌∙◌, ◌||◌, ℕ, ℤ, List, [], Bool, true, false, Option, Some, Result, Ok, Err, IfOk, IfErr}
use Rattle.std.proofs.Common.{if◌then◌else◌, inl, inr, refl, ap, sym, subst}
use Rattle.std.specs.Prelude.{⊤}
use Rattle.xk_log.specs.SomeBytes.{OfSome}
use Rattle.xk_types.specs.Acceptance.{IsAccepted}
use Rattle.xk_types.specs.Code.{ModuleValue}
use Rattle.xk_types.specs.World.{AreArguments}
use Rattle.xk_bounds.specs.declared.refusal.Refusal.TheVariants as refusal
use Rattle.xk_answers.specs.declared.job_result.Done.{Done}
use Rattle.xk_program.specs.declared.fault.Fault.{Fault}
use Rattle.xk_program.specs.declared.fault.Fault.TheVariants as fault
use Rattle.xk_answers.specs.Results.{Check, ComesTo, Compile, Count, Doing, Draw, Expected, Explain, IsNoRun, IsTelling}
use Rattle.xk_answers.specs.Results.{IsText, Json, Listing, OutcomePage, Outcomes, Races, Replay, Run, Tally, Where}
use Rattle.xk_serve.specs.Answer.{FailsBy, Succeeds, Task, asks_verifier, reads_list, reads_log, reads_more, runs, wants_legal, wants_whole}
use Rattle.xk_program.specs.Refusals.{IsNotRun, IsRefusal}
use Rattle.std.proofs.lemmas.Result.{IfOk-weaker}
use Rattle.std.proofs.lemmas.Bool.{false≢true}
use Rattle.xk_program.specs.Programs.{Gives}
use Rattle.xk_answers.specs.Refusals.{AgainstExpected, AgainstModule, AgainstRun, AgainstText}
use Rattle.xk_answers.specs.Refusals as refusals
use Rattle.xk_answers.specs.declared.picture.Picture.{Picture}
use Rattle.xk_serve.specs.Devices.{AgainstLog, read_of}
use Rattle.xk_program.specs.Faults.{GivesNoModule}
use Rattle.xk_answers.proofs.LogLemmas.{some_any, some_each}

-- a task that reads more than a program reads what is known
read_known : (t : Task) (known : Option (List ℕ)) → reads_more t.doing ≡ true → read_of t known ≡ known
read_known t known reads = ap (λ b. if b then known else Some []) reads

-- a log, or a list
log_more : (what : Doing) → reads_log what ≡ true → reads_more what ≡ true
log_more what reads = ap (λ b. b || reads_list what) reads

list_more : (what : Doing) → reads_list what ≡ true → reads_more what ≡ true
list_more what lists = ap (λ b. reads_log what || b) lists ∙ or_true (reads_log what)
  where
    or_true : (b : Bool) → (b || true) ≡ true
    or_true true = refl
    or_true false = refl

of_more : (t : Task) (P Q : List ℕ → Type 0) (known : Option (List ℕ)) → reads_more t.doing ≡ true → ((xs : List ℕ) → P xs → Q xs)
    → OfSome known P → OfSome (read_of t known) Q
of_more t P Q known reads f h = subst (λ o. OfSome o Q) (sym (read_known t known reads)) (some_each P Q known f h)

of_read : (t : Task) (P Q : List ℕ → Type 0) (known : Option (List ℕ)) → reads_log t.doing ≡ true → ((xs : List ℕ) → P xs → Q xs)
    → OfSome known P → OfSome (read_of t known) Q
of_read t P Q known reads f h = of_more t P Q known (log_more t.doing reads) f h

-- ---- what a module comes to

succeeds : (t : Task) (bytes logged : List ℕ) (m : ModuleValue) (what : Doing) (args : List ℤ) (d : Done) → t.doing ≡ what → args ≡ t.arguments → Gives t.form bytes m
    → ComesTo what m args logged d → Succeeds t bytes logged d
succeeds t bytes logged m what args d is told given done =
    record { of = m; given = given; done = inl (subst (λ x. ComesTo x m t.arguments logged d) (sym is) (subst (λ xs. ComesTo what m xs logged d) told done)) }

-- whatever log there is
pub done_of_any : (t : Task) (bytes : List ℕ) (known : Option (List ℕ)) (m : ModuleValue) (what : Doing) (args : List ℤ) (r : Result Done Fault) → t.doing ≡ what
    → args ≡ t.arguments → Gives t.form bytes m → IfOk r (λ d. (logged : List ℕ) → ComesTo what m args logged d)
    → IfOk r (λ d. OfSome (read_of t known) (λ logged. Succeeds t bytes logged d))
done_of_any t bytes known m what args (Ok d) is told given h = some_any _ (read_of t known) (λ logged. succeeds t bytes logged m what args d is told given (h logged))
done_of_any t bytes known m what args (Err f) is told given h = tt

-- and whatever main would be given
pub done_of_none : (t : Task) (bytes : List ℕ) (known : Option (List ℕ)) (m : ModuleValue) (what : Doing) (r : Result Done Fault) → t.doing ≡ what
    → Gives t.form bytes m → IfOk r (λ d. (args : List ℤ) (logged : List ℕ) → ComesTo what m args logged d)
    → IfOk r (λ d. OfSome (read_of t known) (λ logged. Succeeds t bytes logged d))
done_of_none t bytes known m what r is given h =
    done_of_any t bytes known m what t.arguments r is refl given (IfOk-weaker r _ (λ d. (logged : List ℕ) → ComesTo what m t.arguments logged d) (λ d done. done t.arguments) h)

-- with the log that is read
pub done_of_log : (t : Task) (bytes : List ℕ) (known : Option (List ℕ)) (m : ModuleValue) (what : Doing) (args : List ℤ) (r : Result Done Fault) → t.doing ≡ what
    → args ≡ t.arguments → reads_log what ≡ true → Gives t.form bytes m → IfOk r (λ d. OfSome known (λ logged. ComesTo what m args logged d))
    → IfOk r (λ d. OfSome (read_of t known) (λ logged. Succeeds t bytes logged d))
done_of_log t bytes known m what args (Ok d) is told reads given h =
    of_read t _ _ known (ap reads_log is ∙ reads) (λ logged done. succeeds t bytes logged m what args d is told given done) h
done_of_log t bytes known m what args (Err f) is told reads given h = tt

-- with the list that is read
pub done_of_list : (t : Task) (bytes : List ℕ) (known : Option (List ℕ)) (m : ModuleValue) (what : Doing) (args : List ℤ) (r : Result Done Fault) → t.doing ≡ what
    → args ≡ t.arguments → reads_list what ≡ true → Gives t.form bytes m → IfOk r (λ d. OfSome known (λ logged. ComesTo what m args logged d))
    → IfOk r (λ d. OfSome (read_of t known) (λ logged. Succeeds t bytes logged d))
done_of_list t bytes known m what args (Ok d) is told lists given h =
    of_more t _ _ known (list_more t.doing (ap reads_list is ∙ lists)) (λ logged done. succeeds t bytes logged m what args d is told given done) h
done_of_list t bytes known m what args (Err f) is told lists given h = tt

pub tells : (t : Task) (bytes logged : List ℕ) (m : ModuleValue) (what : Doing) (args : List ℤ) (d : Done) → t.doing ≡ what → args ≡ t.arguments → Gives t.form bytes m
    → IsText (IsTelling what t.form t.file bytes m args logged) d → Succeeds t bytes logged d
tells t bytes logged m what args d is told given text = record {
  of = m;
  given = given;
  done = inr (subst (λ x. IsText (IsTelling x t.form t.file bytes m t.arguments logged) d) (sym is)
      (subst (λ xs. IsText (IsTelling what t.form t.file bytes m xs logged) d) told text));
}

-- what is told of it, whatever log there is
pub done_of_text : (t : Task) (bytes : List ℕ) (known : Option (List ℕ)) (m : ModuleValue) (what : Doing) (r : Result Done Fault) → t.doing ≡ what
    → Gives t.form bytes m → ((logged : List ℕ) → IfOk r (IsText (IsTelling what t.form t.file bytes m t.arguments logged)))
    → IfOk r (λ d. OfSome (read_of t known) (λ logged. Succeeds t bytes logged d))
done_of_text t bytes known m what (Ok d) is given h = some_any _ (read_of t known) (λ logged. tells t bytes logged m what t.arguments d is refl given (h logged))
done_of_text t bytes known m what (Err f) is given h = tt

-- what is told of its runs, whatever log there is
pub done_of_told : (t : Task) (bytes : List ℕ) (known : Option (List ℕ)) (m : ModuleValue) (what : Doing) (args : List ℤ) (r : Result Done Fault) → t.doing ≡ what
    → args ≡ t.arguments → Gives t.form bytes m → ((logged : List ℕ) → IfOk r (IsText (IsTelling what t.form t.file bytes m args logged)))
    → IfOk r (λ d. OfSome (read_of t known) (λ logged. Succeeds t bytes logged d))
done_of_told t bytes known m what args (Ok d) is told given h = some_any _ (read_of t known) (λ logged. tells t bytes logged m what args d is told given (h logged))
done_of_told t bytes known m what args (Err f) is told given h = tt

-- what is told of a run of it, by the log that is read
pub done_of_run : (t : Task) (bytes : List ℕ) (known : Option (List ℕ)) (m : ModuleValue) (what : Doing) (args : List ℤ) (r : Result Done Fault) → t.doing ≡ what
    → args ≡ t.arguments → reads_log what ≡ true → Gives t.form bytes m
    → IfOk r (λ d. OfSome known (λ logged. IsText (IsTelling what t.form t.file bytes m args logged) d))
    → IfOk r (λ d. OfSome (read_of t known) (λ logged. Succeeds t bytes logged d))
done_of_run t bytes known m what args (Ok d) is told reads given h =
    of_read t _ _ known (ap reads_log is ∙ reads) (λ logged text. tells t bytes logged m what args d is told given text) h
done_of_run t bytes known m what args (Err f) is told reads given h = tt

-- ---- what stands against it

-- what stands against the task whatever log there is stands against it where no read failed
pub against_any : (t : Task) (bytes : List ℕ) (known : Option (List ℕ)) (old new : ℕ) (f : Fault) → new ≡ old → ((logged : List ℕ) → FailsBy t bytes logged f)
    → AgainstLog t bytes known old new f
against_any t bytes known old new (fault.Text f) e h = (e, some_any _ (read_of t known) h)
against_any t bytes known old new (fault.Front f) e h = (e, some_any _ (read_of t known) h)
against_any t bytes known old new (fault.Refused r) e h = (e, some_any _ (read_of t known) h)
against_any t bytes known old new (fault.Arguments wants has) e h = (e, some_any _ (read_of t known) h)
against_any t bytes known old new (fault.Grammar line) e h = (e, some_any _ (read_of t known) h)
against_any t bytes known old new fault.Truncated e h = (e, some_any _ (read_of t known) h)
against_any t bytes known old new (fault.NotEnabled i) e h = (e, some_any _ (read_of t known) h)
against_any t bytes known old new fault.NotEnded e h = (e, some_any _ (read_of t known) h)
against_any t bytes known old new (fault.NoOutcome line) e h = (e, some_any _ (read_of t known) h)
against_any t bytes known old new fault.OutOfMemory e h = (e, some_any _ (read_of t known) h)
against_any t bytes known old new fault.Device e h = absurd (h [])

-- want of memory
pub against_memory : (t : Task) (bytes : List ℕ) (known : Option (List ℕ)) (n : ℕ) (r : Result Done Fault) → IfErr r (λ f. f ≡ fault.OutOfMemory)
    → IfErr r (AgainstLog t bytes known n n)
against_memory t bytes known n (Ok d) h = tt
against_memory t bytes known n (Err f) h =
    subst (AgainstLog t bytes known n n) (sym h) (against_any t bytes known n n fault.OutOfMemory refl (λ logged. tt))

pub refusal_fails : (t : Task) (bytes logged : List ℕ) (m : ModuleValue) (f : Fault) → asks_verifier t.doing ≡ true
    → Gives t.form bytes m → IsRefusal m f → FailsBy t bytes logged f
refusal_fails t bytes logged m (fault.Text f) asks given h = absurd h
refusal_fails t bytes logged m (fault.Front f) asks given h = absurd h
refusal_fails t bytes logged m (fault.Refused (refusal.Shape r)) asks given h = (asks, (m, given, h))
refusal_fails t bytes logged m (fault.Refused (refusal.Kind r)) asks given h = (asks, (m, given, h))
refusal_fails t bytes logged m (fault.Refused (refusal.Bound r)) asks given h = (asks, (m, given, h))
refusal_fails t bytes logged m (fault.Refused refusal.OutOfMemory) asks given h = absurd h
refusal_fails t bytes logged m (fault.Arguments wants has) asks given h = absurd h
refusal_fails t bytes logged m (fault.Grammar line) asks given h = absurd h
refusal_fails t bytes logged m fault.Truncated asks given h = absurd h
refusal_fails t bytes logged m (fault.NotEnabled i) asks given h = absurd h
refusal_fails t bytes logged m fault.NotEnded asks given h = absurd h
refusal_fails t bytes logged m (fault.NoOutcome line) asks given h = absurd h
refusal_fails t bytes logged m fault.OutOfMemory asks given h = tt
refusal_fails t bytes logged m fault.Device asks given h = absurd h

-- a refusal
pub against_refused : (t : Task) (bytes : List ℕ) (known : Option (List ℕ)) (n : ℕ) (m : ModuleValue) (what : Doing) (r : Result Done Fault) → t.doing ≡ what
    → asks_verifier what ≡ true → Gives t.form bytes m → IfErr r (IsRefusal m) → IfErr r (AgainstLog t bytes known n n)
against_refused t bytes known n m what (Ok d) is asks given h = tt
against_refused t bytes known n m what (Err f) is asks given h =
    against_any t bytes known n n f refl (λ logged. refusal_fails t bytes logged m f (ap asks_verifier is ∙ asks) given h)

-- a module that isn't run
not_run_fails : (t : Task) (bytes logged : List ℕ) (m : ModuleValue) (f : Fault) → runs t.doing ≡ true → asks_verifier t.doing ≡ true → Gives t.form bytes m → IsNotRun m t.arguments f
    → FailsBy t bytes logged f
not_run_fails t bytes logged m (fault.Text f) runs asks given h = absurd h
not_run_fails t bytes logged m (fault.Front f) runs asks given h = absurd h
not_run_fails t bytes logged m (fault.Refused r) runs asks given h = refusal_fails t bytes logged m (fault.Refused r) asks given h
not_run_fails t bytes logged m (fault.Arguments wants has) runs asks given h = (runs, (m, given, h.0, h.1))
not_run_fails t bytes logged m (fault.Grammar line) runs asks given h = absurd h
not_run_fails t bytes logged m fault.Truncated runs asks given h = absurd h
not_run_fails t bytes logged m (fault.NotEnabled i) runs asks given h = absurd h
not_run_fails t bytes logged m fault.NotEnded runs asks given h = absurd h
not_run_fails t bytes logged m (fault.NoOutcome line) runs asks given h = absurd h
not_run_fails t bytes logged m fault.OutOfMemory runs asks given h = tt
not_run_fails t bytes logged m fault.Device runs asks given h = absurd h

-- what is run asks the verifier
runs_asks : (what : Doing) → runs what ≡ true → asks_verifier what ≡ true
runs_asks Check h = refl
runs_asks (Explain json) h = refl
runs_asks Compile h = absurd (false≢true h)
runs_asks Listing h = absurd (false≢true h)
runs_asks (Run way kept) h = refl
runs_asks Replay h = refl
runs_asks (Draw picture) h = refl
runs_asks (Where json at) h = refl
runs_asks (Races json) h = refl
runs_asks (Tally seed runs) h = refl
runs_asks (OutcomePage window limit pick) h = refl
runs_asks (Outcomes sets limit pick kept) h = refl
runs_asks (Count sets limit) h = refl
runs_asks (Expected sets limit) h = refl
runs_asks (Json s) h = refl

against_not_run : (t : Task) (bytes : List ℕ) (known : Option (List ℕ)) (old new : ℕ) (m : ModuleValue) (f : Fault) → new ≡ old → runs t.doing ≡ true
    → Gives t.form bytes m → IsNotRun m t.arguments f → AgainstLog t bytes known old new f
against_not_run t bytes known old new m f same runs given h =
    against_any t bytes known old new f same (λ logged. not_run_fails t bytes logged m f runs (runs_asks t.doing runs) given h)

-- a run without a log
pub against_run_of : (t : Task) (bytes : List ℕ) (known : Option (List ℕ)) (n : ℕ) (m : ModuleValue) (what : Doing) (args : List ℤ) (r : Result Done Fault) → t.doing ≡ what
    → args ≡ t.arguments → runs what ≡ true → Gives t.form bytes m → IfErr r (IsNotRun m args) → IfErr r (AgainstLog t bytes known n n)
against_run_of t bytes known n m what args (Ok d) is told runs_it given h = tt
against_run_of t bytes known n m what args (Err f) is told runs_it given h =
    against_not_run t bytes known n n m f refl (ap runs is ∙ runs_it) given (subst (λ xs. IsNotRun m xs f) told h)

-- a fault of the run that a log has is told where that has to be legal, or whole
abbrev pub MayStand : Doing → Fault → Type 0
MayStand what (fault.NotEnabled i) = wants_legal what ≡ true
MayStand what fault.NotEnded = wants_whole what ≡ true
MayStand what _ = ⊤

-- any is where it has to be whole
whole_stands : (what : Doing) (f : Fault) → wants_legal what ≡ true → wants_whole what ≡ true → MayStand what f
whole_stands what (fault.Text f) legal whole = tt
whole_stands what (fault.Front f) legal whole = tt
whole_stands what (fault.Refused r) legal whole = tt
whole_stands what (fault.Arguments wants has) legal whole = tt
whole_stands what (fault.Grammar line) legal whole = tt
whole_stands what fault.Truncated legal whole = tt
whole_stands what (fault.NotEnabled i) legal whole = legal
whole_stands what fault.NotEnded legal whole = whole
whole_stands what (fault.NoOutcome line) legal whole = tt
whole_stands what fault.OutOfMemory legal whole = tt
whole_stands what fault.Device legal whole = tt

-- of a picture those that may stand against it
picture_stands : (p : Picture) (f : Fault) → refusals.MayStand p f → MayStand (Draw p) f
picture_stands p (fault.Text f) stands = tt
picture_stands p (fault.Front f) stands = tt
picture_stands p (fault.Refused r) stands = tt
picture_stands p (fault.Arguments wants has) stands = tt
picture_stands p (fault.Grammar line) stands = tt
picture_stands p fault.Truncated stands = tt
picture_stands p (fault.NotEnabled i) stands = refl
picture_stands p fault.NotEnded stands = stands refl
picture_stands p (fault.NoOutcome line) stands = tt
picture_stands p fault.OutOfMemory stands = tt
picture_stands p fault.Device stands = tt

no_run_fails : (t : Task) (bytes logged : List ℕ) (m : ModuleValue) (f : Fault) → reads_log t.doing ≡ true → MayStand t.doing f → Gives t.form bytes m → IsAccepted m → AreArguments m t.arguments
    → IsNoRun m t.arguments logged f → FailsBy t bytes logged f
no_run_fails t bytes logged m (fault.Text f) reads wants given accepted taken h = absurd h
no_run_fails t bytes logged m (fault.Front f) reads wants given accepted taken h = absurd h
no_run_fails t bytes logged m (fault.Refused r) reads wants given accepted taken h = absurd h
no_run_fails t bytes logged m (fault.Arguments wants has) reads entire given accepted taken h = absurd h
no_run_fails t bytes logged m (fault.Grammar line) reads wants given accepted taken h = (reads, (m, given, accepted, (taken, h)))
no_run_fails t bytes logged m fault.Truncated reads wants given accepted taken h = (reads, (m, given, accepted, (taken, h)))
no_run_fails t bytes logged m (fault.NotEnabled i) reads wants given accepted taken h = (wants, (reads, (m, given, accepted, (taken, h))))
no_run_fails t bytes logged m fault.NotEnded reads wants given accepted taken h = (wants, (reads, (m, given, accepted, (taken, h))))
no_run_fails t bytes logged m (fault.NoOutcome line) reads wants given accepted taken h = absurd h
no_run_fails t bytes logged m fault.OutOfMemory reads wants given accepted taken h = tt
no_run_fails t bytes logged m fault.Device reads wants given accepted taken h = absurd h

-- what stands against a log, and is no device's, stands against the task
no_run_stands : (t : Task) (bytes : List ℕ) (known : Option (List ℕ)) (old new : ℕ) (m : ModuleValue) (f : Fault) → reads_log t.doing ≡ true
    → MayStand t.doing f → Gives t.form bytes m → IsAccepted m → AreArguments m t.arguments → (new ≡ old) × OfSome known (λ logged. IsNoRun m t.arguments logged f)
    → (new ≡ old) × OfSome (read_of t known) (λ logged. FailsBy t bytes logged f)
no_run_stands t bytes known old new m f reads wants given accepted taken h =
    (h.0, of_read t _ _ known reads (λ logged none. no_run_fails t bytes logged m f reads wants given accepted taken none) h.1)

against_run : (t : Task) (bytes : List ℕ) (known : Option (List ℕ)) (old new : ℕ) (m : ModuleValue) (f : Fault) → reads_log t.doing ≡ true
    → MayStand t.doing f → Gives t.form bytes m → IsAccepted m → AreArguments m t.arguments → AgainstRun m t.arguments known old new f → AgainstLog t bytes known old new f
against_run t bytes known old new m (fault.Text f) reads wants given accepted taken h = no_run_stands t bytes known old new m (fault.Text f) reads wants given accepted taken h
against_run t bytes known old new m (fault.Front f) reads wants given accepted taken h = no_run_stands t bytes known old new m (fault.Front f) reads wants given accepted taken h
against_run t bytes known old new m (fault.Refused r) reads wants given accepted taken h = no_run_stands t bytes known old new m (fault.Refused r) reads wants given accepted taken h
against_run t bytes known old new m (fault.Arguments wants has) reads entire given accepted taken h = no_run_stands t bytes known old new m (fault.Arguments wants has) reads entire given accepted taken h
against_run t bytes known old new m (fault.Grammar line) reads wants given accepted taken h = no_run_stands t bytes known old new m (fault.Grammar line) reads wants given accepted taken h
against_run t bytes known old new m fault.Truncated reads wants given accepted taken h = no_run_stands t bytes known old new m fault.Truncated reads wants given accepted taken h
against_run t bytes known old new m (fault.NotEnabled i) reads wants given accepted taken h = no_run_stands t bytes known old new m (fault.NotEnabled i) reads wants given accepted taken h
against_run t bytes known old new m fault.NotEnded reads wants given accepted taken h = no_run_stands t bytes known old new m fault.NotEnded reads wants given accepted taken h
against_run t bytes known old new m (fault.NoOutcome line) reads wants given accepted taken h = no_run_stands t bytes known old new m (fault.NoOutcome line) reads wants given accepted taken h
against_run t bytes known old new m fault.OutOfMemory reads wants given accepted taken h = no_run_stands t bytes known old new m fault.OutOfMemory reads wants given accepted taken h
against_run t bytes known old new m fault.Device reads wants given accepted taken h = h

-- what reads a log is run
reads_runs : (what : Doing) → reads_log what ≡ true → runs what ≡ true
reads_runs Check h = absurd (false≢true h)
reads_runs (Explain json) h = absurd (false≢true h)
reads_runs Compile h = absurd (false≢true h)
reads_runs Listing h = absurd (false≢true h)
reads_runs (Run way kept) h = refl
reads_runs Replay h = refl
reads_runs (Draw picture) h = refl
reads_runs (Where json at) h = refl
reads_runs (Races json) h = refl
reads_runs (Tally seed runs) h = refl
reads_runs (OutcomePage window limit pick) h = refl
reads_runs (Outcomes sets limit pick kept) h = refl
reads_runs (Count sets limit) h = refl
reads_runs (Expected sets limit) h = refl
reads_runs (Json s) h = refl

against_either : (t : Task) (bytes : List ℕ) (known : Option (List ℕ)) (old new : ℕ) (m : ModuleValue) (f : Fault) → reads_log t.doing ≡ true
    → MayStand t.doing f → Gives t.form bytes m → AgainstModule m t.arguments known old new f → AgainstLog t bytes known old new f
against_either t bytes known old new m f reads wants given (inl h) = against_not_run t bytes known old new m f h.0 (reads_runs t.doing reads) given h.1
against_either t bytes known old new m f reads wants given (inr h) = against_run t bytes known old new m f reads wants given h.0 h.1 h.2

-- a module that isn't run, or a log that is none of its run
pub against_log : (t : Task) (bytes : List ℕ) (known : Option (List ℕ)) (old new : ℕ) (m : ModuleValue) (what : Doing) (args : List ℤ) (r : Result Done Fault) → t.doing ≡ what
    → args ≡ t.arguments → reads_log what ≡ true → wants_legal what ≡ true → wants_whole what ≡ true → Gives t.form bytes m
    → IfErr r (AgainstModule m args known old new) → IfErr r (AgainstLog t bytes known old new)
against_log t bytes known old new m what args (Ok d) is told reads legal whole given h = tt
against_log t bytes known old new m what args (Err f) is told reads legal whole given h =
    let stands = whole_stands t.doing f (ap wants_legal is ∙ legal) (ap wants_whole is ∙ whole) in
    let against = subst (λ xs. AgainstModule m xs known old new f) told h in
    against_either t bytes known old new m f (ap reads_log is ∙ reads) stands given against

-- the same of a picture
pub against_picture : (t : Task) (bytes : List ℕ) (known : Option (List ℕ)) (old new : ℕ) (m : ModuleValue) (p : Picture) (args : List ℤ)
    (r : Result Done Fault) → t.doing ≡ Draw p → args ≡ t.arguments → Gives t.form bytes m → IfErr r (AgainstModule m args known old new)
    → IfErr r (refusals.MayStand p) → IfErr r (AgainstLog t bytes known old new)
against_picture t bytes known old new m p args (Ok d) is told given h stands = tt
against_picture t bytes known old new m p args (Err f) is told given h stands =
    let may : MayStand t.doing f = subst (λ what. MayStand what f) (sym is) (picture_stands p f stands) in
    against_either t bytes known old new m f (ap reads_log is) may given (subst (λ xs. AgainstModule m xs known old new f) told h)

-- a module that isn't run, or bytes that are the text of no log
against_read : (t : Task) (bytes : List ℕ) (known : Option (List ℕ)) (old new : ℕ) (m : ModuleValue) (f : Fault) → reads_log t.doing ≡ true → Gives t.form bytes m
    → AgainstText m t.arguments known old new f → AgainstLog t bytes known old new f
against_read t bytes known old new m f reads given (inl h) = against_not_run t bytes known old new m f h.0 (reads_runs t.doing reads) given h.1
against_read t bytes known old new m (fault.Text f) reads given (inr h) = absurd h.2
against_read t bytes known old new m (fault.Front f) reads given (inr h) = absurd h.2
against_read t bytes known old new m (fault.Refused r) reads given (inr h) = absurd h.2
against_read t bytes known old new m (fault.Arguments wants has) reads given (inr h) = absurd h.2
against_read t bytes known old new m (fault.Grammar line) reads given (inr h) =
    (h.2.0, of_read t _ _ known reads (λ logged wrong. (reads, (m, given, h.0, (h.1, wrong)))) h.2.1)
against_read t bytes known old new m fault.Truncated reads given (inr h) =
    (h.2.0, of_read t _ _ known reads (λ logged cut. (reads, (m, given, h.0, (h.1, cut)))) h.2.1)
against_read t bytes known old new m (fault.NotEnabled i) reads given (inr h) = absurd h.2
against_read t bytes known old new m fault.NotEnded reads given (inr h) = absurd h.2
against_read t bytes known old new m (fault.NoOutcome line) reads given (inr h) = absurd h.2
against_read t bytes known old new m fault.OutOfMemory reads given (inr h) = (h.2, some_any _ (read_of t known) (λ logged. tt))
against_read t bytes known old new m fault.Device reads given (inr h) = h.2

pub against_text : (t : Task) (bytes : List ℕ) (known : Option (List ℕ)) (old new : ℕ) (m : ModuleValue) (what : Doing) (args : List ℤ) (r : Result Done Fault) → t.doing ≡ what
    → args ≡ t.arguments → reads_log what ≡ true → Gives t.form bytes m → IfErr r (AgainstText m args known old new) → IfErr r (AgainstLog t bytes known old new)
against_text t bytes known old new m what args (Ok d) is told reads given h = tt
against_text t bytes known old new m what args (Err f) is told reads given h =
    against_read t bytes known old new m f (ap reads_log is ∙ reads) given (subst (λ xs. AgainstText m xs known old new f) told h)

-- what reads a list is run
lists_runs : (what : Doing) → reads_list what ≡ true → runs what ≡ true
lists_runs Check h = absurd (false≢true h)
lists_runs (Explain json) h = absurd (false≢true h)
lists_runs Compile h = absurd (false≢true h)
lists_runs Listing h = absurd (false≢true h)
lists_runs (Run way kept) h = refl
lists_runs Replay h = refl
lists_runs (Draw picture) h = refl
lists_runs (Where json at) h = refl
lists_runs (Races json) h = refl
lists_runs (Tally seed runs) h = refl
lists_runs (OutcomePage window limit pick) h = refl
lists_runs (Outcomes sets limit pick kept) h = refl
lists_runs (Count sets limit) h = refl
lists_runs (Expected sets limit) h = refl
lists_runs (Json s) h = refl

-- a module that isn't run, or a line that may not stand in a list
against_listed : (t : Task) (bytes : List ℕ) (known : Option (List ℕ)) (old new : ℕ) (m : ModuleValue) (f : Fault) → reads_list t.doing ≡ true → Gives t.form bytes m
    → AgainstExpected m t.arguments known old new f → AgainstLog t bytes known old new f
against_listed t bytes known old new m f lists given (inl h) = against_not_run t bytes known old new m f h.0 (lists_runs t.doing lists) given h.1
against_listed t bytes known old new m (fault.Text f) lists given (inr h) = absurd h.2
against_listed t bytes known old new m (fault.Front f) lists given (inr h) = absurd h.2
against_listed t bytes known old new m (fault.Refused r) lists given (inr h) = absurd h.2
against_listed t bytes known old new m (fault.Arguments wants has) lists given (inr h) = absurd h.2
against_listed t bytes known old new m (fault.Grammar line) lists given (inr h) = absurd h.2
against_listed t bytes known old new m fault.Truncated lists given (inr h) = absurd h.2
against_listed t bytes known old new m (fault.NotEnabled i) lists given (inr h) = absurd h.2
against_listed t bytes known old new m fault.NotEnded lists given (inr h) = absurd h.2
against_listed t bytes known old new m (fault.NoOutcome line) lists given (inr h) =
    (h.2.0, of_more t _ _ known (list_more t.doing lists) (λ logged stray. (lists, (m, given, h.0, (h.1, stray)))) h.2.1)
against_listed t bytes known old new m fault.OutOfMemory lists given (inr h) = (h.2, some_any _ (read_of t known) (λ logged. tt))
against_listed t bytes known old new m fault.Device lists given (inr h) = h.2

pub against_list : (t : Task) (bytes : List ℕ) (known : Option (List ℕ)) (old new : ℕ) (m : ModuleValue) (what : Doing) (args : List ℤ) (r : Result Done Fault) → t.doing ≡ what
    → args ≡ t.arguments → reads_list what ≡ true → Gives t.form bytes m → IfErr r (AgainstExpected m args known old new) → IfErr r (AgainstLog t bytes known old new)
against_list t bytes known old new m what args (Ok d) is told lists given h = tt
against_list t bytes known old new m what args (Err f) is told lists given h =
    against_listed t bytes known old new m f (ap reads_list is ∙ lists) given (subst (λ xs. AgainstExpected m xs known old new f) told h)

-- what says that bytes give no module stands against a task on them, whatever log there is
pub no_module_fails : (t : Task) (bytes : List ℕ) (f : Fault) → GivesNoModule t.form bytes f → (logged : List ℕ) → FailsBy t bytes logged f
no_module_fails t bytes (fault.Text f) h logged = h
no_module_fails t bytes (fault.Front f) h logged = h
no_module_fails t bytes fault.OutOfMemory h logged = tt
no_module_fails t bytes (fault.Refused r) h logged = absurd h
no_module_fails t bytes (fault.Arguments wants has) h logged = absurd h
no_module_fails t bytes (fault.Grammar line) h logged = absurd h
no_module_fails t bytes fault.Truncated h logged = absurd h
no_module_fails t bytes (fault.NotEnabled i) h logged = absurd h
no_module_fails t bytes fault.NotEnded h logged = absurd h
no_module_fails t bytes (fault.NoOutcome line) h logged = absurd h
no_module_fails t bytes fault.Device h logged = absurd h
