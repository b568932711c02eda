-- What `explain` says is one, but of a fault of which it is left open whether it is told; and `check` may tell the same line.
use Rattle.std.proofs.Common.{◌≡◌, ◌≢◌, ◌∙◌, ℕ, Bool, true, false, List, [], ◌++◌, Option, Some, None, inl, inr, refl, sym, ap, subst}
use Rattle.std.specs.Prelude.{◌⊎◌}
use Rattle.std.proofs.lemmas.Bool.{false≢true}
use Rattle.xk_types.specs.Acceptance.{IsAccepted}
use Rattle.xk_types.specs.Bound.{steps_bound, activities_bound, clocks_bound}
use Rattle.xk_types.specs.Code.{ModuleValue}
use Rattle.xk_tree.specs.Tree.{TreeValue}
use Rattle.xk_tree.specs.declared.fault.FrontFault.{FrontFault}
use Rattle.xk_syntax.proofs.TextLemmas.{one_tree}
use Rattle.xk_unit_origins.specs.UnitOrigins.{UnitOrigins}
use Rattle.xk_bounds.specs.declared.refusal.Refusal.{Refusal}
use Rattle.xk_bounds.specs.declared.refusal.Refusal.TheVariants as refusal
use Rattle.xk_bounds.specs.Refusals.{Refuses}
use Rattle.xk_messages.specs.Lines.{refusal_status}
use Rattle.xk_program.specs.Lines.{fault_line}
use Rattle.xk_jobs.specs.declared.job.Form.{Form}
use Rattle.xk_jobs.specs.declared.job.Form.TheVariants as form
use Rattle.xk_program.specs.Origins.{GiveProgram, HaveTree, Program}
use Rattle.xk_program.specs.Programs.{GiveNone, Gives}
use Rattle.xk_program.specs.declared.fault.Fault.{Fault}
use Rattle.xk_program.specs.declared.fault.Fault.TheVariants as fault
use Rattle.xk_answers.specs.declared.job_result.Done.{Done}
use Rattle.xk_answers.specs.declared.job_result.Done.TheVariants as done
use Rattle.xk_answers.specs.Explanation.{IsExplanation, Tale, fault_said, refusal_said}
use Rattle.xk_answers.specs.Printed.{done_status, done_text, whole_status}
use Rattle.xk_answers.specs.Results.{Check, ComesTo, Compile, Count, Doing, Draw, Expected, Explain, IsTelling}
use Rattle.xk_answers.specs.Results.{IsText, Json, Listing, OutcomePage, Outcomes, Races, Replay, Run, Tally, Where}
use Rattle.xk_serve.specs.Notes.{may_note}
use Rattle.xk_serve.proofs.NoteLemmas.{unnoted}
use Rattle.xk_serve.specs.Answer.{Answers, FailsBy, IsSaidBy, IsSaidOf, Reply, Task, done_reply, fault_reply, reads_list, reads_log, runs}
use Rattle.xk_serve.specs.OneAnswer.{AreWalks, ExplainFaults, HasOneStatus, IsLeftOpen, IsReplyOf, MayCheck, checking}
use Rattle.xk_serve.proofs.AnswerUniquenessLemmas.{Case, Does, Misfit, NoRun, Astray, Prints, Read, Refusing, Said, Telling, Unfit}
use Rattle.xk_serve.proofs.AnswerUniquenessLemmas.{Unread, case_of, given_once, given_source, given_text, no_source, said_of}
use Rattle.xk_serve.proofs.AnswerUniquenessLemmas.{text_told, unread_none, unread_once}
use Rattle.xk_serve.proofs.RefusalUniquenessLemmas.{not_accepted, refusals_once}
use Rattle.xk_serve.proofs.TellingUniquenessLemmas.{origins_once, telling_once}
use Rattle.xk_serve.proofs.TextUniquenessLemmas.{text_or_none, unfit_none, unfit_once}

-- ---- one thing is said of a fault

trees_once : (bytes : List ℕ) (a b : Option TreeValue) → HaveTree bytes a → HaveTree bytes b → a ≡ b
trees_once bytes None None h k = refl
trees_once bytes (Some tree) None h k = absurd (text_or_none bytes tree k.0 h k.1)
trees_once bytes None (Some tree) h k = absurd (text_or_none bytes tree h.0 k h.1)
trees_once bytes (Some tree) (Some other) h k = ap Some (one_tree bytes tree other h.1 k.1)

given_or_none : (kind : Form) (bytes : List ℕ) (m : ModuleValue) → Gives kind bytes m → GiveNone kind bytes → ⊥
given_or_none form.Module bytes m h k = unread_none bytes k.0 m k.1 h
given_or_none form.Source bytes m h k = unfit_none bytes k.0 m k.1 h

same_program : {m n : ModuleValue} {o u : Option (List UnitOrigins)} → m ≡ n → o ≡ u → ◌≡◌ {A = Program} (m, o) (n, u)
same_program e d = cc

programs_once : (kind : Form) (bytes : List ℕ) (a b : Option Program) → GiveProgram kind bytes a → GiveProgram kind bytes b → a ≡ b
programs_once kind bytes None None h k = refl
programs_once kind bytes (Some p) None h k = absurd (given_or_none kind bytes p.0 h.0 k)
programs_once kind bytes None (Some q) h k = absurd (given_or_none kind bytes q.0 k.0 h)
programs_once kind bytes (Some (m, o)) (Some (n, u)) h k =
    ap (λ (p : Program). Some p) (same_program (given_once kind bytes m n h.0 k.0) (origins_once kind bytes m o u h.0 h.1 k.1))

explanation_once : (json : Bool) (kind : Form) (file bytes : List ℕ) (f : Fault) (a b : List ℕ) → IsExplanation json kind file bytes f a
    → IsExplanation json kind file bytes f b → a ≡ b
explanation_once json kind file bytes (fault.Text f) a b h k = h ∙ sym k
explanation_once json kind file bytes (fault.Front f) a b h k =
    h.2 ∙ ap (fault_said json file bytes f) (trees_once bytes h.0 k.0 h.1 k.1) ∙ sym k.2
explanation_once json kind file bytes (fault.Refused r) a b h k =
    h.2 ∙ ap (refusal_said json file bytes r) (programs_once kind bytes h.0 k.0 h.1 k.1) ∙ sym k.2
explanation_once json kind file bytes (fault.Arguments wants has) a b h k = h ∙ sym k
explanation_once json kind file bytes (fault.Grammar line) a b h k = h ∙ sym k
explanation_once json kind file bytes fault.Truncated a b h k = h ∙ sym k
explanation_once json kind file bytes (fault.NotEnabled i) a b h k = h ∙ sym k
explanation_once json kind file bytes fault.NotEnded a b h k = h ∙ sym k
explanation_once json kind file bytes (fault.NoOutcome line) a b h k = h ∙ sym k
explanation_once json kind file bytes fault.OutOfMemory a b h k = h ∙ sym k
explanation_once json kind file bytes fault.Device a b h k = h ∙ sym k

said_by_once : (what : Doing) (kind : Form) (file bytes : List ℕ) (f : Fault) (a b : List ℕ) → IsSaidBy what kind file bytes f a
    → IsSaidBy what kind file bytes f b → a ≡ b
said_by_once (Explain json) kind file bytes f a b h k = explanation_once json kind file bytes f a b h k
said_by_once Check kind file bytes f a b h k = h ∙ sym k
said_by_once Compile kind file bytes f a b h k = h ∙ sym k
said_by_once Listing kind file bytes f a b h k = h ∙ sym k
said_by_once (Run way kept) kind file bytes f a b h k = h ∙ sym k
said_by_once Replay kind file bytes f a b h k = h ∙ sym k
said_by_once (Draw picture) kind file bytes f a b h k = h ∙ sym k
said_by_once (Where json at) kind file bytes f a b h k = h ∙ sym k
said_by_once (Races json) kind file bytes f a b h k = h ∙ sym k
said_by_once (Tally seed count) kind file bytes f a b h k = h ∙ sym k
said_by_once (OutcomePage window limit pick) kind file bytes f a b h k = h ∙ sym k
said_by_once (Outcomes sets limit pick kept) kind file bytes f a b h k = h ∙ sym k
said_by_once (Count sets limit) kind file bytes f a b h k = h ∙ sym k
said_by_once (Expected sets limit) kind file bytes f a b h k = h ∙ sym k
said_by_once (Json s) kind file bytes f a b h k = h ∙ sym k

pub said_once : (t : Task) (bytes : List ℕ) (f : Fault) (a b : List ℕ) → IsSaidOf t bytes f a → IsSaidOf t bytes f b → a ≡ b
said_once t bytes f a b h k = said_by_once t.doing t.form t.file bytes f a b h k

-- two replies that tell one fault have one standard output
same_out : (t : Task) (bytes : List ℕ) (r s : Reply) (f g : Fault) → f ≡ g → IsReplyOf t bytes f r → IsReplyOf t bytes g s → r.out ≡ s.out
same_out t bytes r s f g same e d =
    ap (λ (z : Reply). z.out) e.2 ∙ said_once t bytes g e.0 d.0 (subst (λ x. IsSaidOf t bytes x e.0) same e.1) d.1 ∙ sym (ap (λ (z :
    Reply). z.out) d.2)

-- ---- all that is explained

-- the module is refused, or accepted
data Explained (t : Task) (bytes : List ℕ) (m : ModuleValue) (logged : List ℕ) (r : Reply) : Type 0 where
  Refused : (f : Refusal) → Refuses m f → refusal_status f ≢ 4 → IsReplyOf t bytes (fault.Refused f) r → Explained t bytes m logged r
  Accepted : (whole : Bool) → HasOneStatus t.doing → IsAccepted m → IsTelling t.doing t.form t.file bytes m t.arguments logged (r.out, whole)
      → Explained t bytes m logged r

-- a program that is explained isn't run, and no log or list is read
not_so : {what : Doing} {json : Bool} (P : Doing → Bool) → what ≡ Explain json → P (Explain json) ≡ false → P what ≡ true → ⊥
not_so P is none so = false≢true (sym none ∙ ap P (sym is) ∙ so)

accepted_telling : (t : Task) (bytes : List ℕ) (m : ModuleValue) (logged : List ℕ) (told : Tale) (json : Bool) → t.doing ≡ Explain json
    → IsTelling t.doing t.form t.file bytes m t.arguments logged told → IsAccepted m
accepted_telling t bytes m logged told json is h =
    let said : IsTelling (Explain json) t.form t.file bytes m t.arguments logged told =
    subst (λ what. IsTelling what t.form t.file bytes m t.arguments logged told) is h in
    said.0

explained_of : (t : Task) (bytes : List ℕ) (m : ModuleValue) (logged : List ℕ) (r : Reply) (json : Bool) → t.doing ≡ Explain json
    → Said t bytes m logged r → Explained t bytes m logged r
explained_of t bytes m logged r json is (Refusing f asks p n e) = Refused f p n e
explained_of t bytes m logged r json is (Misfit wants has run ok p e) = absurd (not_so runs is refl run)
explained_of t bytes m logged r json is (NoRun f reads ok taken p n e) = absurd (not_so reads_log is refl reads)
explained_of t bytes m logged r json is (Astray line lists ok taken p e) = absurd (not_so reads_list is refl lists)
explained_of t bytes m logged r json is (Does zero quiet p) =
    let none : Prints (Explain json) m t.arguments logged r.out r.log = subst (λ what. Prints what m t.arguments logged r.out r.log) is p in
    absurd none
explained_of t bytes m logged r json is (Telling whole zero quiet p none) =
    Accepted whole (subst HasOneStatus (sym is) tt) (accepted_telling t bytes m logged (r.out, whole) json is p) p

module _ (t : Task) (bytes logged : List ℕ) (r s : Reply) where
  refused_once : (f g : Refusal) → (f ≡ g) ⊎ AreWalks f g → IsReplyOf t bytes (fault.Refused f) r → IsReplyOf t bytes (fault.Refused g) s
      → (r.out ≡ s.out) ⊎ ExplainFaults t bytes r s
  refused_once f g (inl same) e d = inl (same_out t bytes r s (fault.Refused f) (fault.Refused g) (ap (λ x. fault.Refused x) same) e d)
  refused_once f g (inr walks) e d =
      inr (record { here = fault.Refused f; there = fault.Refused g; left = walks; of_here = e; of_there = d })

  explained_once : (m : ModuleValue) → Gives t.form bytes m → Explained t bytes m logged r → Explained t bytes m logged s
      → (r.out ≡ s.out) ⊎ ExplainFaults t bytes r s
  explained_once m given (Refused f p n e) (Refused g q k d) = refused_once f g (refusals_once m f g p q n k) e d
  explained_once m given (Refused f p n e) (Accepted whole one ok q) = absurd (not_accepted m f ok p n)
  explained_once m given (Accepted whole one ok p) (Refused g q k d) = absurd (not_accepted m g ok q k)
  explained_once m given (Accepted whole one ok p) (Accepted all too fine q) =
      inl (ap (λ (tale : Tale). tale.0) (telling_once t.doing t.form t.file bytes m t.arguments logged (r.out, whole) (s.out, all) one given
      p q))

  unfit_explained : (f g : FrontFault) → (f ≡ g) ⊎ IsLeftOpen bytes f g → IsReplyOf t bytes (fault.Front f) r
      → IsReplyOf t bytes (fault.Front g) s
      → (r.out ≡ s.out) ⊎ ExplainFaults t bytes r s
  unfit_explained f g (inl same) e d = inl (same_out t bytes r s (fault.Front f) (fault.Front g) (ap (λ x. fault.Front x) same) e d)
  unfit_explained f g (inr left) e d = inr (record { here = fault.Front f; there = fault.Front g; left = left; of_here = e; of_there = d })

  explained_case : (json : Bool) → t.doing ≡ Explain json → Case t bytes logged r → Case t bytes logged s
      → (r.out ≡ s.out) ⊎ ExplainFaults t bytes r s
  explained_case json is (Unread f text p e) (Unread g again q d) =
      inl (same_out t bytes r s (fault.Text f) (fault.Text g) (ap (λ x. fault.Text x) (unread_once bytes f g p q)) e d)
  explained_case json is (Unread f text p e) (Unfit g source q d) = absurd (no_source t text source)
  explained_case json is (Unread f text p e) (Read m given said) = absurd (unread_none bytes f m p (given_text t bytes m text given))
  explained_case json is (Unfit f source p e) (Unread g text q d) = absurd (no_source t text source)
  explained_case json is (Unfit f source p e) (Unfit g again q d) = unfit_explained f g (unfit_once bytes f g p q) e d
  explained_case json is (Unfit f source p e) (Read m given said) = absurd (unfit_none bytes f m p (given_source t bytes m source given))
  explained_case json is (Read m given said) other =
      explained_once m given (explained_of t bytes m logged r json is said) (explained_of t bytes m logged s json is (said_of t bytes
      logged s m given other))

pub explained : (t : Task) (json : Bool) (bytes logged : List ℕ) (r s : Reply) → t.doing ≡ Explain json → Answers t bytes logged r
    → Answers t bytes logged s
    → r.status ≢ 4 → s.status ≢ 4 → (r.out ≡ s.out) ⊎ ExplainFaults t bytes r s
explained t json bytes logged r s is p q n k =
    explained_case t bytes logged r s json is (case_of t bytes logged r n p) (case_of t bytes logged s k q)

-- ---- `check` may tell the same

-- what stands against an explanation stands against a check
fails_check : (t : Task) (bytes logged : List ℕ) (f : Fault) (json : Bool) → t.doing ≡ Explain json → FailsBy t bytes logged f
    → FailsBy (checking t) bytes logged f
fails_check t bytes logged (fault.Text f) json is h = h
fails_check t bytes logged (fault.Front f) json is h = h
fails_check t bytes logged (fault.Refused (refusal.Shape f)) json is h = (refl, h.1)
fails_check t bytes logged (fault.Refused (refusal.Kind f)) json is h = (refl, h.1)
fails_check t bytes logged (fault.Refused (refusal.Bound f)) json is h = (refl, h.1)
fails_check t bytes logged (fault.Refused refusal.OutOfMemory) json is h = absurd h
fails_check t bytes logged (fault.Arguments wants has) json is h = absurd (not_so runs is refl h.0)
fails_check t bytes logged (fault.Grammar line) json is h = absurd (not_so reads_log is refl h.0)
fails_check t bytes logged fault.Truncated json is h = absurd (not_so reads_log is refl h.0)
fails_check t bytes logged (fault.NotEnabled i) json is h = absurd (not_so reads_log is refl h.1.0)
fails_check t bytes logged fault.NotEnded json is h = absurd (not_so reads_log is refl h.1.0)
fails_check t bytes logged (fault.NoOutcome line) json is h = absurd (not_so reads_list is refl h.0)
fails_check t bytes logged fault.OutOfMemory json is h = tt
fails_check t bytes logged fault.Device json is h = absurd h

-- what is explained of an accepted program is whole
accepted_whole : (t : Task) (bytes : List ℕ) (m : ModuleValue) (logged : List ℕ) (d : Done) (json : Bool)
    → ComesTo (Explain json) m t.arguments logged d ⊎ IsText (IsTelling (Explain json) t.form t.file bytes m t.arguments logged) d
    → IsAccepted m × (done_status d ≡ 0)
accepted_whole t bytes m logged d json (inl h) = absurd h
accepted_whole t bytes m logged d json (inr h) =
    let told = text_told (IsTelling (Explain json) t.form t.file bytes m t.arguments logged) d h in
    let said : IsTelling (Explain json) t.form t.file bytes m t.arguments logged (done_text d, told.0) = told.1 in
    (said.0, told.2 ∙ ap whole_status (ap (λ (tale : Tale). tale.1) said.1.2.2))

pub checked : (t : Task) (json : Bool) (bytes logged : List ℕ) (r : Reply) → t.doing ≡ Explain json → Answers t bytes logged r
    → MayCheck t bytes logged r
checked t json bytes logged r is (inl (d, found, e)) =
    let m = found.of in
    let whole = accepted_whole t bytes m logged d json
    (subst (λ what. ComesTo what m t.arguments logged d ⊎ IsText (IsTelling what t.form t.file bytes m t.arguments logged) d) is
    found.done) in
    let bounds = done.Accepted (steps_bound m) (activities_bound m) (clocks_bound m) in (
      done_reply bounds,
      inl (bounds, record { of = m; given = found.given; done = inl (whole.0, refl, refl, refl) }, refl),
      sym (ap (λ (z : Reply). z.status) e ∙ whole.1),
      sym (ap (λ (z : Reply). z.err) e),
    )
checked t json bytes logged r is (inr (f, h, told)) = (
  fault_reply (checking t) bytes [] f,
  inr (f, fails_check t bytes logged f json is h, ([], refl, refl)),
  sym (ap (λ (z : Reply). z.status) told.2),
  ap (λ before. before ++ fault_line f) (unnoted Check bytes f refl ∙ sym (unnoted t.doing bytes f (ap may_note is)))
      ∙ sym (ap (λ (z : Reply). z.err) told.2),
)
