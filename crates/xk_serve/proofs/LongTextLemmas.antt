-- Of a text that is too long no more than one byte too many is kept: what stands against that stands against the whole text.
use Rattle.std.proofs.Common.{◌≡◌, ◌+◌, ◌<◌, ◌≤◌, ℕ, Bool, true, false, if◌then◌else◌, List, [], length, take, min, Option, Some, None}
use Rattle.std.proofs.Common.{inl, inr, refl, sym, arith, ap, ◌∙◌, subst}
use Rattle.std.proofs.lemmas.Bool.{false≢true}
use Rattle.std.proofs.lemmas.List.{length-take, take_all}
use Rattle.std.specs.Prelude.{◌⊎◌, IfSome}
use Rattle.xk_types.specs.Code.{ModuleValue}
use Rattle.xk_tree.specs.declared.fault.FrontFault.{FrontFault}
use Rattle.xk_jobs.specs.declared.job.Form.{Form}
use Rattle.xk_jobs.specs.declared.job.Form.TheVariants as form
use Rattle.xk_bounds.specs.declared.refusal.Refusal.{Refusal}
use Rattle.xk_bounds.specs.declared.refusal.Refusal.TheVariants as refusal
use Rattle.xk_answers.specs.declared.job_result.Done.{Done}
use Rattle.xk_program.specs.declared.fault.Fault.{Fault}
use Rattle.xk_program.specs.declared.fault.Fault.TheVariants as fault
use Rattle.xk_module.specs.declared.fault.ModuleFault.{ModuleFault}
use Rattle.xk_program.specs.Programs.{Gives, IsNoModule, IsNoSource, IsNoText, IsTooLong, longest_module, longest_source}
use Rattle.xk_program.specs.Bytes.{kept}
use Rattle.xk_answers.specs.Results.{Check, ComesTo, Compile, Count, Doing, Draw, Expected, Explain, IsTelling}
use Rattle.xk_answers.specs.Results.{IsText, Json, Listing, OutcomePage, Outcomes, Races, Replay, Run, Tally, Where}
use Rattle.xk_serve.specs.Answer.{FailsBy, GivesAccepted, IsSaidBy, IsSaidOf, Succeeds, Task}
use Rattle.xk_explain_expected.specs.Notes.{expected_notes}
use Rattle.xk_program.specs.Origins.{IsByProgram, IsByTree}
use Rattle.xk_answers.specs.Explanation.{IsExplanation, fault_said, front_said, refusal_said}
use Rattle.xk_tree.specs.declared.fault.FrontRule.TheVariants as rule
use Rattle.xk_serve.specs.Devices.{AgainstLog, IfKnown, IsRead, Reads, StandsAgainst, read_of}
use Rattle.xk_explain.specs.Explanations.{has_place}
use Rattle.xk_answers.proofs.LogLemmas.{if_known, of_each}
use Rattle.xk_log.specs.SomeBytes.{OfSome}

-- a front that is shorter than it may be is the whole
whole : (n : ℕ) (bytes known : List ℕ) → bytes ≡ take (n + 1) known → length bytes ≤ n → bytes ≡ known
whole n bytes known e short =
    let front : length bytes ≡ min (n + 1) (length known) = ap length e ∙ length-take (n + 1) known in
    let all : length known ≤ n + 1 = omega arith in
    e ∙ take_all (n + 1) known all

-- a front that is longer than it may be is one of a list that is
longer : (n : ℕ) (bytes known : List ℕ) → bytes ≡ take (n + 1) known → n < length bytes → n < length known
longer n bytes known e long =
    let front : length bytes ≡ min (n + 1) (length known) = ap length e ∙ length-take (n + 1) known in
    omega arith

-- bytes that give a module are all of them
kept_whole : (what : Form) (bytes known : List ℕ) (m : ModuleValue) → bytes ≡ kept what known → Gives what bytes m → bytes ≡ known
kept_whole form.Module bytes known m e h = whole longest_module bytes known e h.0
kept_whole form.Source bytes known m e h = whole longest_source bytes known e h.spelled.1.short

kept_gives : (what : Form) (bytes known : List ℕ) (m : ModuleValue) → bytes ≡ kept what known → Gives what bytes m → Gives what known m
kept_gives what bytes known m e h = subst (λ b. Gives what b m) (kept_whole what bytes known m e h) h

kept_source : (bytes known : List ℕ) (f : FrontFault) → bytes ≡ kept form.Source known → IsNoSource bytes f → IsNoSource known f
kept_source bytes known f e (inl h) = inl (longer longest_source bytes known e h.0, h.1, h.2)
kept_source bytes known f e (inr (inl h)) = subst (λ b. IsNoSource b f) (whole longest_source bytes known e h.0) (inr (inl h))
kept_source bytes known f e (inr (inr (inl h))) = subst (λ b. IsNoSource b f) (whole longest_source bytes known e h.0) (inr (inr (inl h)))
kept_source bytes known f e (inr (inr (inr h))) = subst (λ b. IsNoSource b f) (whole longest_source bytes known e h.1.1.short) (inr (inr (inr h)))

kept_module : (bytes known : List ℕ) (f : ModuleFault) → bytes ≡ kept form.Module known → IsNoModule bytes f → IsNoModule known f
kept_module bytes known f e (inl h) = inl (longer longest_module bytes known e h.0, h.1)
kept_module bytes known f e (inr h) = subst (λ b. IsNoModule b f) (whole longest_module bytes known e h.0) (inr h)

kept_accepted : (t : Task) (bytes known : List ℕ) (P : ModuleValue → Type 0) → bytes ≡ kept t.form known → GivesAccepted t bytes P → GivesAccepted t known P
kept_accepted t bytes known P e h = (h.0, kept_gives t.form bytes known h.0 e h.1, h.2, h.3)

kept_fails : (t : Task) (bytes known logged : List ℕ) (f : Fault) → bytes ≡ kept t.form known → FailsBy t bytes logged f → FailsBy t known logged f
kept_fails t bytes known logged (fault.Text f) e h =
    (h.0, kept_module bytes known f (subst (λ what. bytes ≡ kept what known) h.0 e) h.1)
kept_fails t bytes known logged (fault.Front f) e h = (h.0, kept_source bytes known f (subst (λ what. bytes ≡ kept what known) h.0 e) h.1)
kept_fails t bytes known logged (fault.Refused (refusal.Shape r)) e h = (h.0, (h.1.0, kept_gives t.form bytes known h.1.0 e h.1.1, h.1.2))
kept_fails t bytes known logged (fault.Refused (refusal.Kind r)) e h = (h.0, (h.1.0, kept_gives t.form bytes known h.1.0 e h.1.1, h.1.2))
kept_fails t bytes known logged (fault.Refused (refusal.Bound r)) e h = (h.0, (h.1.0, kept_gives t.form bytes known h.1.0 e h.1.1, h.1.2))
kept_fails t bytes known logged (fault.Refused refusal.OutOfMemory) e h = absurd h
kept_fails t bytes known logged (fault.Arguments wants has) e h = (h.0, kept_accepted t bytes known _ e h.1)
kept_fails t bytes known logged (fault.Grammar line) e h = (h.0, kept_accepted t bytes known _ e h.1)
kept_fails t bytes known logged fault.Truncated e h = (h.0, kept_accepted t bytes known _ e h.1)
kept_fails t bytes known logged (fault.NotEnabled i) e h = (h.0, (h.1.0, kept_accepted t bytes known _ e h.1.1))
kept_fails t bytes known logged fault.NotEnded e h = (h.0, (h.1.0, kept_accepted t bytes known _ e h.1.1))
kept_fails t bytes known logged (fault.NoOutcome line) e h = (h.0, kept_accepted t bytes known _ e h.1)
kept_fails t bytes known logged fault.OutOfMemory e h = tt
kept_fails t bytes known logged fault.Device e h = absurd h

kept_succeeds : (t : Task) (bytes known logged : List ℕ) (d : Done) → bytes ≡ kept t.form known → Succeeds t bytes logged d → Succeeds t known logged d
kept_succeeds t bytes known logged d e h = record {
  of = h.of;
  given = kept_gives t.form bytes known h.of e h.given;
  done = subst (λ b. ComesTo t.doing h.of t.arguments logged d ⊎ IsText (IsTelling t.doing t.form t.file b h.of t.arguments logged) d) (kept_whole t.form bytes known h.of e h.given) h.done;
}

-- a success with the bytes kept is one with those that are known
pub kept_done : (t : Task) (known logged : Option (List ℕ)) (bytes : List ℕ) (d : Done) → IfSome known (λ k. bytes ≡ kept t.form k)
    → OfSome (read_of t logged) (λ log. Succeeds t bytes log d) → IfKnown t known logged (λ k log. Succeeds t k log d)
kept_done t None logged bytes d e h = tt
kept_done t (Some k) logged bytes d e h = of_each _ _ (read_of t logged) (λ log s. kept_succeeds t bytes k log d e s)
    (if_known (λ log. Succeeds t bytes log d) (read_of t logged) h)

-- ---- what is said of a fault

either_way : {A : Type 0} (b : Bool) (x y z : A) → b ≡ false → (if b then x else z) ≡ (if b then y else z)
either_way true x y z e = absurd (false≢true (sym e))
either_way false x y z e = refl

-- of a text that is too long nothing is said that looks at it
long_kept : (json : Bool) (file bytes known : List ℕ) (f : FrontFault) → f.rule ≡ rule.TooLong → front_said json file bytes f [] ≡ front_said json file known f []
long_kept false file bytes known f long = either_way (has_place f.rule) _ _ _ (ap has_place long)
long_kept true file bytes known f long =
    subst (λ r. front_said true file bytes (record { rule = r; at = f.at }) [] ≡ front_said true file known (record { rule = r; at = f.at }) [])
    (sym long) refl

-- bytes that spell no tree are all of them, or too many
no_text_kept : (bytes known : List ℕ) (f : FrontFault) → bytes ≡ kept form.Source known → IsNoText bytes f → IsNoText known f
no_text_kept bytes known f e (inl h) = inl (longer longest_source bytes known e h.0, h.1, h.2)
no_text_kept bytes known f e (inr (inl h)) = subst (λ b. IsNoText b f) (whole longest_source bytes known e h.0) (inr (inl h))
no_text_kept bytes known f e (inr (inr h)) = subst (λ b. IsNoText b f) (whole longest_source bytes known e h.0) (inr (inr h))

many_not_few : (bytes : List ℕ) → longest_source < length bytes → length bytes ≤ longest_source → ⊥
many_not_few bytes more few = omega (arith, more, few)

-- and nothing that could stand there is looked for
long_unexpected : (text : List ℕ) (f : FrontFault) → f.rule ≡ rule.TooLong → expected_notes text f ≡ []
long_unexpected text f long = subst (λ r. expected_notes text (record { rule = r; at = f.at }) ≡ []) (sym long) refl

-- too many spell none
long_fault : (json : Bool) (file bytes known said : List ℕ) (f : FrontFault) → bytes ≡ kept form.Source known → IsTooLong bytes f
    → IsByTree bytes (fault_said json file bytes f) said → IsByTree known (fault_said json file known f) said
long_fault json file bytes known said f e h (Some tree, is, told) = absurd (many_not_few bytes h.0 is.1.short)
long_fault json file bytes known said f e h (None, is, told) =
    let here = ap (front_said json file bytes f) (long_unexpected bytes f h.1) in
    let there = ap (front_said json file known f) (long_unexpected known f h.1) in
    (None, (is.0, no_text_kept bytes known is.0 e is.1), told ∙ here ∙ long_kept json file bytes known f h.1 ∙ sym there)

front_kept : (json : Bool) (file bytes known said : List ℕ) (f : FrontFault) → bytes ≡ kept form.Source known → IsNoSource bytes f
    → IsByTree bytes (fault_said json file bytes f) said → IsByTree known (fault_said json file known f) said
front_kept json file bytes known said f e (inl h) is = long_fault json file bytes known said f e h is
front_kept json file bytes known said f e (inr (inl h)) is =
    subst (λ b. IsByTree b (fault_said json file b f) said) (whole longest_source bytes known e h.0) is
front_kept json file bytes known said f e (inr (inr (inl h))) is =
    subst (λ b. IsByTree b (fault_said json file b f) said) (whole longest_source bytes known e h.0) is
front_kept json file bytes known said f e (inr (inr (inr h))) is =
    subst (λ b. IsByTree b (fault_said json file b f) said) (whole longest_source bytes known e h.1.1.short) is

-- of a program that is refused the whole text is kept
refusal_kept : (json : Bool) (kind : Form) (file bytes known said : List ℕ) (r : Refusal) (m : ModuleValue) → bytes ≡ kept kind known → Gives kind bytes m
    → IsByProgram kind bytes (refusal_said json file bytes r) said → IsByProgram kind known (refusal_said json file known r) said
refusal_kept json kind file bytes known said r m e given is =
    subst (λ b. IsByProgram kind b (refusal_said json file b r) said) (kept_whole kind bytes known m e given) is

explanation_kept : (json : Bool) (t : Task) (bytes known logged said : List ℕ) (f : Fault) → bytes ≡ kept t.form known → FailsBy t bytes logged f
    → IsExplanation json t.form t.file bytes f said → IsExplanation json t.form t.file known f said
explanation_kept json t bytes known logged said (fault.Text f) e h is = is
explanation_kept json t bytes known logged said (fault.Front f) e h is =
    front_kept json t.file bytes known said f (subst (λ what. bytes ≡ kept what known) h.0 e) h.1 is
explanation_kept json t bytes known logged said (fault.Refused (refusal.Shape r)) e h is =
    refusal_kept json t.form t.file bytes known said (refusal.Shape r) h.1.0 e h.1.1 is
explanation_kept json t bytes known logged said (fault.Refused (refusal.Kind r)) e h is =
    refusal_kept json t.form t.file bytes known said (refusal.Kind r) h.1.0 e h.1.1 is
explanation_kept json t bytes known logged said (fault.Refused (refusal.Bound r)) e h is =
    refusal_kept json t.form t.file bytes known said (refusal.Bound r) h.1.0 e h.1.1 is
explanation_kept json t bytes known logged said (fault.Refused refusal.OutOfMemory) e h is = absurd h
explanation_kept json t bytes known logged said (fault.Arguments wants has) e h is = is
explanation_kept json t bytes known logged said (fault.Grammar line) e h is = is
explanation_kept json t bytes known logged said fault.Truncated e h is = is
explanation_kept json t bytes known logged said (fault.NotEnabled i) e h is = is
explanation_kept json t bytes known logged said fault.NotEnded e h is = is
explanation_kept json t bytes known logged said (fault.NoOutcome line) e h is = is
explanation_kept json t bytes known logged said fault.OutOfMemory e h is = is
explanation_kept json t bytes known logged said fault.Device e h is = is

same_said : (what : Doing) (kind : Form) (file bytes known said : List ℕ) (f : Fault)
    → ((json : Bool) → IsExplanation json kind file bytes f said → IsExplanation json kind file known f said) → IsSaidBy what kind file bytes f said
    → IsSaidBy what kind file known f said
same_said (Explain json) kind file bytes known said f e h = e json h
same_said Check kind file bytes known said f e h = h
same_said Compile kind file bytes known said f e h = h
same_said Listing kind file bytes known said f e h = h
same_said (Run way kept) kind file bytes known said f e h = h
same_said Replay kind file bytes known said f e h = h
same_said (Draw picture) kind file bytes known said f e h = h
same_said (Where json at) kind file bytes known said f e h = h
same_said (Races json) kind file bytes known said f e h = h
same_said (Tally seed runs) kind file bytes known said f e h = h
same_said (OutcomePage window limit pick) kind file bytes known said f e h = h
same_said (Outcomes sets limit pick kept) kind file bytes known said f e h = h
same_said (Count sets limit) kind file bytes known said f e h = h
same_said (Expected sets limit) kind file bytes known said f e h = h
same_said (Json s) kind file bytes known said f e h = h

said_kept : (t : Task) (bytes known logged said : List ℕ) (f : Fault) → bytes ≡ kept t.form known → FailsBy t bytes logged f → IsSaidOf t bytes f said → IsSaidOf t known f said
said_kept t bytes known logged said f e h =
    same_said t.doing t.form t.file bytes known said f (λ json. explanation_kept json t bytes known logged said f e h)

-- of devices nothing is said
pub device_unsaid : (what : Doing) (kind : Form) (file bytes said : List ℕ) → IsSaidBy what kind file bytes fault.Device said → said ≡ []
device_unsaid (Explain json) kind file bytes said h = h
device_unsaid Check kind file bytes said h = h
device_unsaid Compile kind file bytes said h = h
device_unsaid Listing kind file bytes said h = h
device_unsaid (Run way kept) kind file bytes said h = h
device_unsaid Replay kind file bytes said h = h
device_unsaid (Draw picture) kind file bytes said h = h
device_unsaid (Where json at) kind file bytes said h = h
device_unsaid (Races json) kind file bytes said h = h
device_unsaid (Tally seed runs) kind file bytes said h = h
device_unsaid (OutcomePage window limit pick) kind file bytes said h = h
device_unsaid (Outcomes sets limit pick kept) kind file bytes said h = h
device_unsaid (Count sets limit) kind file bytes said h = h
device_unsaid (Expected sets limit) kind file bytes said h = h
device_unsaid (Json s) kind file bytes said h = h

-- the same of the faults that are no device's
stands : (t : Task) (known logged : Option (List ℕ)) (bytes : List ℕ) (n : Reads) (f : Fault) (said : List ℕ) → n.program_new ≡ n.program_old → n.log_new ≡ n.log_old
    → IfSome known (λ k. bytes ≡ kept t.form k) → OfSome (read_of t logged) (λ log. FailsBy t bytes log f) → IsSaidOf t bytes f said
    → IsRead n × IfKnown t known logged (λ k log. FailsBy t k log f × IsSaidOf t k f said)
stands t None logged bytes n f said s l e h is = ((s, l), tt)
stands t (Some k) logged bytes n f said s l e h is = (
  (s, l),
  of_each _ _ (read_of t logged) (λ log p. (kept_fails t bytes k log f e p, said_kept t bytes k log said f e p is))
      (if_known (λ log. FailsBy t bytes log f) (read_of t logged) h),
)

-- a fault with the bytes kept is one with those that are known
pub told_stands : (t : Task) (known logged : Option (List ℕ)) (bytes : List ℕ) (n : Reads) (f : Fault) (said : List ℕ)
    → n.program_new ≡ n.program_old → IfSome known (λ k. bytes ≡ kept t.form k) → AgainstLog t bytes logged n.log_old n.log_new f
    → IsSaidOf t bytes f said → StandsAgainst t known logged n f said
told_stands t known logged bytes n (fault.Text f) said s e h is = stands t known logged bytes n (fault.Text f) said s h.0 e h.1 is
told_stands t known logged bytes n (fault.Front f) said s e h is = stands t known logged bytes n (fault.Front f) said s h.0 e h.1 is
told_stands t known logged bytes n (fault.Refused r) said s e h is = stands t known logged bytes n (fault.Refused r) said s h.0 e h.1 is
told_stands t known logged bytes n (fault.Arguments wants has) said s e h is = stands t known logged bytes n (fault.Arguments wants has) said s h.0 e h.1 is
told_stands t known logged bytes n (fault.Grammar line) said s e h is = stands t known logged bytes n (fault.Grammar line) said s h.0 e h.1 is
told_stands t known logged bytes n fault.Truncated said s e h is = stands t known logged bytes n fault.Truncated said s h.0 e h.1 is
told_stands t known logged bytes n (fault.NotEnabled i) said s e h is = stands t known logged bytes n (fault.NotEnabled i) said s h.0 e h.1 is
told_stands t known logged bytes n fault.NotEnded said s e h is = stands t known logged bytes n fault.NotEnded said s h.0 e h.1 is
told_stands t known logged bytes n (fault.NoOutcome line) said s e h is = stands t known logged bytes n (fault.NoOutcome line) said s h.0 e h.1 is
told_stands t known logged bytes n fault.OutOfMemory said s e h is = stands t known logged bytes n fault.OutOfMemory said s h.0 e h.1 is
told_stands t known logged bytes n fault.Device said s e h is = (inr h, device_unsaid t.doing t.form t.file bytes said is)
