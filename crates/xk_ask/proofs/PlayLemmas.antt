-- Runs by answers, answer by answer.
use Rattle.std.proofs.Common.{◌≡◌, ◌∙◌, ℕ, ℤ, ◌⊎◌, inl, inr, true, false, List, [], ◌∷◌, ◌++◌, refl, sym, ap, subst, append_assoc, append-nil, suc, Option, Some, None, Result, Ok, Err, arith}
use Rattle.std.specs.Prelude.{⊤, Bool, drop, length, map, take, option_map, IfNone, IfSome, IsErr, OnOk, if◌then◌else◌}
use Rattle.std.specs.Io.BufRead.{drop_through}
use Rattle.std.specs.Io.KnownBytes.{Appends}
use Rattle.std.proofs.KnownBytes.{Appends-nil}
use Rattle.std.proofs.Math.Seq.{take-length}
use Rattle.std.proofs.lemmas.Bool.{cond-true, cond-false}
use Rattle.std.proofs.lemmas.List.{map-append}
use Rattle.xk_types.specs.declared.world.Entry.{Entry}
use Rattle.xk_types.specs.Code.{ModuleValue}
use Rattle.xk_types.specs.World.{World, opening}
use Rattle.xk_types.specs.Schedule.{is_enabled, all_ended}
use Rattle.xk_types.specs.Logs.{one_step_of}
use Rattle.xk_core.specs.Core.{CoreValue, opening_core}
use Rattle.xk_scheduler.proofs.EnabledSetLemmas.{going}
use Rattle.xk_io.specs.Writing.{AppendsBeginning}
use Rattle.xk_io.proofs.DeviceLemmas.{appends_then, beginning_more, beginning_then}
use Rattle.xk_ask.specs.Answers.{answers, answers_read, behind_lines, most_bytes}
use Rattle.xk_ask.specs.Asking.{BeginsByAnswers, BeginsSome, EndAlike, FollowsSome, IsByAnswers, Leaves, TakesAnswer, TakesLine, said_from, said_on, to_come}
use Rattle.xk_ask.specs.ProgramTexts.{ProgramTextValue}
use Rattle.xk_ask.specs.Play.{all_said, behind, end_words, log_behind, looked_at, picked, played, played_log, said, taken, told_by, told_text, unread, unread_from}
use Rattle.xk_ask.proofs.LineLemmas.{passing_stops}

-- ---- where all have ended

picked_over : (m : ModuleValue) (w : World) (x : Option ℕ) → all_ended w ≡ true → picked m w x ≡ None
picked_over m w None over = refl
picked_over m w (Some a) over = by (is_enabled m w a) refl
  where
    by : (b : Bool) → is_enabled m w a ≡ b → (if b then Some a else None) ≡ None
    by true is = absurd (let no : all_ended w ≡ false = going m w a is in cc)
    by false is = refl

played_over : (m : ModuleValue) (xs : List (Option ℕ)) (w : World) → all_ended w ≡ true → played m xs w ≡ []
played_over m [] w over = refl
played_over m (x ∷ xs) w over =
    ap (λ o. taken m w o ++ played m xs (behind m w o)) (picked_over m w x over) ∙ played_over m xs w over

told_over : (p : ProgramTextValue) (m : ModuleValue) (xs : List (Option ℕ)) (w : World) (log : List Entry) → all_ended w ≡ true → all_said p m xs w log ≡ end_words w
told_over p m [] w log over = refl
told_over p m (x ∷ xs) w log over = cond-true (all_ended w) _ _ over ∙ sym (cond-true (all_ended w) _ _ over)

-- ---- from a world on

-- Some of the answers xs were followed, from world w on, and ys are left, in world v: by these the log is made whole, and what is told.
pub record IsOn (p : ProgramTextValue) (m : ModuleValue) (xs : List (Option ℕ)) (w : World) (log : List Entry) (err : Option (List ℕ))
    (ys : List (Option ℕ)) (v : World) (more : List Entry) (later : Option (List ℕ)) : Type 0 where
  pub logged : more ++ map one_step_of (played m ys v) ≡ log ++ map one_step_of (played m xs w)
  pub words : List ℕ
  pub wrote : Appends err later words
  pub words_are : words ++ all_said p m ys v more ≡ all_said p m xs w log

on_starts : (p : ProgramTextValue) (m : ModuleValue) (xs : List (Option ℕ)) (w : World) (log : List Entry) (err : Option (List ℕ)) → IsOn p m xs w log err xs w log err
on_starts p m xs w log err = record { logged = refl; words = []; wrote = Appends-nil err; words_are = refl }

-- what is told where an answer is looked at
told_next : (p : ProgramTextValue) (m : ModuleValue) (x : Option ℕ) (ys zs : List (Option ℕ)) (v : World) (more : List Entry) → ys ≡ x ∷ zs → all_ended v ≡ false
    → all_said p m ys v more ≡ said p m v more (picked m v x) ++ all_said p m zs (behind m v (picked m v x)) (log_behind m v more (picked m v x))
told_next p m x ys zs v more is goes = ap (λ l. all_said p m l v more) is ∙ cond-false (all_ended v) _ _ goes

on_more : (p : ProgramTextValue) (m : ModuleValue) (xs : List (Option ℕ)) (w : World) (log : List Entry) (err : Option (List ℕ))
    (x : Option ℕ) (ys zs : List (Option ℕ)) (v u : World) (more next : List Entry) (later last : Option (List ℕ))
    → IsOn p m xs w log err ys v more later → ys ≡ x ∷ zs → all_ended v ≡ false → u ≡ behind m v (picked m v x)
    → next ≡ log_behind m v more (picked m v x) → Appends later last (said p m v more (picked m v x)) → IsOn p m xs w log err zs u next last
on_more p m xs w log err x ys zs v u more next later last i is goes led grown wrote =
    let o = picked m v x in
    let rest = played m zs (behind m v o) in
    let here = said p m v more o in
    record {
      logged = ap (λ z. next ++ map one_step_of (played m zs z)) led
          ∙ ap (λ l. l ++ map one_step_of rest) grown
          ∙ append_assoc more (map one_step_of (taken m v o)) (map one_step_of rest)
          ∙ ap (λ l. more ++ l) (sym (map-append one_step_of (taken m v o) rest))
          ∙ ap (λ l. more ++ map one_step_of (played m l v)) (sym is)
          ∙ i.logged;
      words = i.words ++ here;
      wrote = appends_then err later last i.words here i.wrote wrote;
      words_are = ap (λ z. (i.words ++ here) ++ all_said p m zs z next) led
          ∙ ap (λ l. (i.words ++ here) ++ all_said p m zs (behind m v o) l) grown
          ∙ append_assoc i.words here (all_said p m zs (behind m v o) (log_behind m v more o))
          ∙ ap (λ l. i.words ++ l) (sym (told_next p m x ys zs v more is goes))
          ∙ i.words_are;
    }

on_breaks : (p : ProgramTextValue) (m : ModuleValue) (xs : List (Option ℕ)) (w : World) (log : List Entry) (err : Option (List ℕ))
    (x : Option ℕ) (ys zs : List (Option ℕ)) (v : World) (more : List Entry) (later last : Option (List ℕ))
    → IsOn p m xs w log err ys v more later → ys ≡ x ∷ zs → all_ended v ≡ false
    → AppendsBeginning later last (said p m v more (picked m v x)) → AppendsBeginning err last (all_said p m xs w log)
on_breaks p m xs w log err x ys zs v more later last i is goes wrote =
    let here = said p m v more (picked m v x) in
    let rest = all_said p m zs (behind m v (picked m v x)) (log_behind m v more (picked m v x)) in
    let whole : (i.words ++ here) ++ rest ≡ all_said p m xs w log =
    append_assoc i.words here rest ∙ ap (λ l. i.words ++ l) (sym (told_next p m x ys zs v more is goes)) ∙ i.words_are in
    subst (AppendsBeginning err last) whole
    (beginning_more err last (i.words ++ here) rest (beginning_then err later last i.words here i.wrote wrote))

-- a text that was written whole
whole_beginning : (a b : Option (List ℕ)) (text : List ℕ) → Appends a b text → AppendsBeginning a b text
whole_beginning a b text h = (length text, subst (Appends a b) (sym (take-length text)) h)

on_stops : (p : ProgramTextValue) (m : ModuleValue) (xs : List (Option ℕ)) (w : World) (log : List Entry) (err : Option (List ℕ))
    (ys : List (Option ℕ)) (v : World) (more : List Entry) (later : Option (List ℕ))
    → IsOn p m xs w log err ys v more later → AppendsBeginning err later (all_said p m xs w log)
on_stops p m xs w log err ys v more later i =
    subst (AppendsBeginning err later) i.words_are
    (beginning_more err later i.words (all_said p m ys v more) (whole_beginning err later i.words i.wrote))

-- no answer is left, or none is looked at
none_left : (p : ProgramTextValue) (m : ModuleValue) (ys : List (Option ℕ)) (v : World) (more : List Entry) → (all_ended v ≡ true) ⊎ (ys ≡ [])
    → (played m ys v ≡ []) × (all_said p m ys v more ≡ end_words v)
none_left p m ys v more (inl over) = (played_over m ys v over, told_over p m ys v more over)
none_left p m ys v more (inr is) = (ap (λ l. played m l v) is, ap (λ l. all_said p m l v more) is)

on_ends : (p : ProgramTextValue) (m : ModuleValue) (xs : List (Option ℕ)) (w : World) (log : List Entry) (err : Option (List ℕ))
    (ys : List (Option ℕ)) (v : World) (more : List Entry) (later last : Option (List ℕ))
    → IsOn p m xs w log err ys v more later → (all_ended v ≡ true) ⊎ (ys ≡ []) → Appends later last (end_words v)
    → (more ≡ log ++ map one_step_of (played m xs w)) × Appends err last (all_said p m xs w log)
on_ends p m xs w log err ys v more later last i ends wrote =
    let none = none_left p m ys v more ends in (
      sym (append-nil more) ∙ ap (λ l. more ++ map one_step_of l) (sym none.0) ∙ i.logged,
      subst (Appends err last) (ap (λ l. i.words ++ l) (sym none.1) ∙ i.words_are)
          (appends_then err later last i.words (end_words v) i.wrote wrote),
    )

-- and a beginning of what is said then was written
on_ends_early : (p : ProgramTextValue) (m : ModuleValue) (xs : List (Option ℕ)) (w : World) (log : List Entry) (err : Option (List ℕ))
    (ys : List (Option ℕ)) (v : World) (more : List Entry) (later last : Option (List ℕ))
    → IsOn p m xs w log err ys v more later → (all_ended v ≡ true) ⊎ (ys ≡ []) → AppendsBeginning later last (end_words v)
    → AppendsBeginning err last (all_said p m xs w log)
on_ends_early p m xs w log err ys v more later last i ends wrote =
    subst (AppendsBeginning err last) (ap (λ l. i.words ++ l) (sym (none_left p m ys v more ends).1) ∙ i.words_are)
    (beginning_then err later last i.words (end_words v) i.wrote wrote)

-- ---- by some answers

-- Some answers were followed, whatever the input: any that come behind them go on from here.
pub record IsBySome (p : ProgramTextValue) (m : ModuleValue) (w : World) (log : List Entry) (err : Option (List ℕ))
    (v : World) (more : List Entry) (later : Option (List ℕ)) : Type 0 where
  pub followed : List (Option ℕ)
  pub on : (ys : List (Option ℕ)) → IsOn p m (followed ++ ys) w log err ys v more later

by_none : (p : ProgramTextValue) (m : ModuleValue) (w : World) (log : List Entry) (err : Option (List ℕ)) → IsBySome p m w log err w log err
by_none p m w log err = record { followed = []; on = λ ys. on_starts p m ys w log err }

by_one_more : (p : ProgramTextValue) (m : ModuleValue) (w : World) (log : List Entry) (err : Option (List ℕ)) (x : Option ℕ) (v u : World)
    (more next : List Entry) (later last : Option (List ℕ))
    → IsBySome p m w log err v more later → all_ended v ≡ false → u ≡ behind m v (picked m v x)
    → next ≡ log_behind m v more (picked m v x) → Appends later last (said p m v more (picked m v x)) → IsBySome p m w log err u next last
by_one_more p m w log err x v u more next later last i goes led grown wrote = record {
  followed = i.followed ++ x ∷ [];
  on = λ ys. subst (λ l. IsOn p m l w log err ys u next last) (sym (append_assoc i.followed (x ∷ []) ys))
      (on_more p m (i.followed ++ x ∷ ys) w log err x (x ∷ ys) ys v u more next later last (i.on (x ∷ ys)) refl goes led grown wrote);
}

-- ---- the bytes that are left

-- What stands behind the answers that are looked at from this world on is what stood behind those from the first, and so does what may not be read.
abbrev pub AreLeft : ModuleValue → World → ℕ → Option (List ℕ) → World → ℕ → Option (List ℕ) → Type 0
AreLeft m w n None v k now = ⊤
AreLeft m w n (Some text) v k None = ⊥
AreLeft m w n (Some text) v k (Some rest) =
    behind_lines (looked_at m (answers (take k rest)) v) rest ≡ behind_lines (looked_at m (answers (take n text)) w) text

left_first : (m : ModuleValue) (w : World) (n : ℕ) (known : Option (List ℕ)) → AreLeft m w n known w n known
left_first m w n None = tt
left_first m w n (Some text) = refl

left_more : (m : ModuleValue) (w v u : World) (x : Option ℕ) (n k j : ℕ) (first now next : Option (List ℕ)) → AreLeft m w n first v k now
    → TakesAnswer x (to_come k now) (to_come j next) → Leaves (drop_through 10) now next → all_ended v ≡ false → u ≡ behind m v (picked m v x)
    → AreLeft m w n first u j next
left_more m w v u x n k j None now next are takes line goes led = tt
left_more m w v u x n k j (Some text) None next are takes line goes led = absurd are
left_more m w v u x n k j (Some text) (Some rest) None are takes line goes led = absurd line
left_more m w v u x n k j (Some text) (Some rest) (Some more) are takes line goes led =
    let one : looked_at m (answers (take k rest)) v ≡ suc (looked_at m (answers (take j more)) u) =
    ap (λ l. looked_at m l v) takes ∙ cond-false (all_ended v) _ _ goes ∙ ap (λ z. suc (looked_at m (answers (take j more)) z)) (sym led) in
    ap (behind_lines (looked_at m (answers (take j more)) u)) line ∙ sym (ap (λ c. behind_lines c rest) one) ∙ are

looked_over : (m : ModuleValue) (xs : List (Option ℕ)) (v : World) → all_ended v ≡ true → looked_at m xs v ≡ 0
looked_over m [] v over = refl
looked_over m (x ∷ xs) v over = cond-true (all_ended v) _ _ over

left_ended : (m : ModuleValue) (w v : World) (k : ℕ) (first now : Option (List ℕ)) → AreLeft m w most_bytes first v k now → all_ended v ≡ true
    → Leaves (unread_from m w true) first now
left_ended m w v k None now are over = tt
left_ended m w v k (Some text) None are over = absurd are
left_ended m w v k (Some text) (Some rest) are over =
    sym (ap (λ c. behind_lines c rest) (looked_over m (answers (take k rest)) v over)) ∙ are

-- ---- by the bytes that are known

abbrev pub AreOn : ProgramTextValue → ModuleValue → World → List Entry → Option (List ℕ) → Option (List ℕ) → World → List Entry → Option (List ℕ) → Option (List ℕ) → Type 0
AreOn p m w log err None v more later now = ⊤
AreOn p m w log err (Some text) v more later None = ⊥
AreOn p m w log err (Some text) v more later (Some rest) = IsOn p m (answers text) w log err (answers rest) v more later

-- Of the bytes that were to come in the first core some are left in this one, and the answers in the others were followed: the log and what was written
-- to standard error lack what comes of the rest.
pub record IsPlaying (p : ProgramTextValue) (first : CoreValue) (log : List Entry) (err text : Option (List ℕ))
    (c : CoreValue) (more : List Entry) (later now : Option (List ℕ)) : Type 0 where
  pub same_module : c.module_run ≡ first.module_run
  pub same_arguments : c.world.arguments ≡ first.world.arguments
  pub some : IsBySome p first.module_run first.world log err c.world more later
  pub on : AreOn p first.module_run first.world log err text c.world more later now

are_on_first : (p : ProgramTextValue) (m : ModuleValue) (w : World) (log : List Entry) (err text : Option (List ℕ)) → AreOn p m w log err text w log err text
are_on_first p m w log err None = tt
are_on_first p m w log err (Some text) = on_starts p m (answers text) w log err

pub playing_starts : (p : ProgramTextValue) (c : CoreValue) (log : List Entry) (err text : Option (List ℕ)) → IsPlaying p c log err text c log err text
playing_starts p c log err text = record {
  same_module = refl;
  same_arguments = refl;
  some = by_none p c.module_run c.world log err;
  on = are_on_first p c.module_run c.world log err text;
}

are_on_more : (p : ProgramTextValue) (m : ModuleValue) (w : World) (log : List Entry) (err text : Option (List ℕ)) (x : Option ℕ) (v u : World)
    (more longer : List Entry) (later last now next : Option (List ℕ))
    → AreOn p m w log err text v more later now → TakesAnswer x now next → all_ended v ≡ false → u ≡ behind m v (picked m v x)
    → longer ≡ log_behind m v more (picked m v x) → Appends later last (said p m v more (picked m v x)) → AreOn p m w log err text u longer last next
are_on_more p m w log err None x v u more longer later last now next on takes goes led grown wrote = tt
are_on_more p m w log err (Some text) x v u more longer later last None next on takes goes led grown wrote = absurd on
are_on_more p m w log err (Some text) x v u more longer later last (Some rest) None on takes goes led grown wrote = absurd takes
are_on_more p m w log err (Some text) x v u more longer later last (Some rest) (Some left) on takes goes led grown wrote =
    on_more p m (answers text) w log err x (answers rest) (answers left) v u more longer later last on takes goes led grown wrote

-- one answer more was followed
pub playing_on : (p : ProgramTextValue) (first : CoreValue) (log : List Entry) (err text : Option (List ℕ)) (x : Option ℕ) (c d : CoreValue)
    (more longer : List Entry) (later last now next : Option (List ℕ))
    → IsPlaying p first log err text c more later now → TakesAnswer x now next → all_ended c.world ≡ false
    → d.module_run ≡ c.module_run → d.world.arguments ≡ c.world.arguments → d.world ≡ behind c.module_run c.world (picked c.module_run c.world x)
    → longer ≡ log_behind c.module_run c.world more (picked c.module_run c.world x)
    → Appends later last (said p c.module_run c.world more (picked c.module_run c.world x)) → IsPlaying p first log err text d longer last next
playing_on p first log err text x c d more longer later last now next i takes goes same given led grown wrote =
    let m = first.module_run in
    let to : d.world ≡ behind m c.world (picked m c.world x) = subst (λ k. d.world ≡ behind k c.world (picked k c.world x)) i.same_module led in
    let entries : longer ≡ log_behind m c.world more (picked m c.world x) =
    subst (λ k. longer ≡ log_behind k c.world more (picked k c.world x)) i.same_module grown in
    let words : Appends later last (said p m c.world more (picked m c.world x)) =
    subst (λ k. Appends later last (said p k c.world more (picked k c.world x))) i.same_module wrote in
    record {
      same_module = same ∙ i.same_module;
      same_arguments = given ∙ i.same_arguments;
      some = by_one_more p m first.world log err x c.world d.world more longer later last i.some goes to entries words;
      on = are_on_more p m first.world log err text x c.world d.world more longer later last now next i.on takes goes to entries words;
    }

are_on_breaks : (p : ProgramTextValue) (m : ModuleValue) (w : World) (log : List Entry) (err text : Option (List ℕ)) (x : Option ℕ) (v : World)
    (more : List Entry) (later last now next : Option (List ℕ))
    → AreOn p m w log err text v more later now → TakesAnswer x now next → all_ended v ≡ false
    → AppendsBeginning later last (said p m v more (picked m v x)) → IfSome text (λ t. AppendsBeginning err last (all_said p m (answers t) w log))
are_on_breaks p m w log err None x v more later last now next on takes goes wrote = tt
are_on_breaks p m w log err (Some text) x v more later last None next on takes goes wrote = absurd on
are_on_breaks p m w log err (Some text) x v more later last (Some rest) None on takes goes wrote = absurd takes
are_on_breaks p m w log err (Some text) x v more later last (Some rest) (Some left) on takes goes wrote =
    on_breaks p m (answers text) w log err x (answers rest) (answers left) v more later last on takes goes wrote

-- an answer could not be followed to the end
pub playing_breaks : (p : ProgramTextValue) (first : CoreValue) (log : List Entry) (err text : Option (List ℕ)) (x : Option ℕ) (c : CoreValue)
    (more : List Entry) (later last now next : Option (List ℕ))
    → IsPlaying p first log err text c more later now → TakesAnswer x now next → all_ended c.world ≡ false
    → AppendsBeginning later last (said p c.module_run c.world more (picked c.module_run c.world x))
    → IfSome text (λ t. AppendsBeginning err last (said_on p first log (answers t)))
playing_breaks p first log err text x c more later last now next i takes goes wrote =
    are_on_breaks p first.module_run first.world log err text x c.world more later last now next i.on takes goes
    (subst (λ k. AppendsBeginning later last (said p k c.world more (picked k c.world x))) i.same_module wrote)

-- so it is by some answers
pub playing_breaks_some : (p : ProgramTextValue) (first : CoreValue) (log : List Entry) (err text : Option (List ℕ)) (x : Option ℕ) (c : CoreValue)
    (more : List Entry) (later last now : Option (List ℕ))
    → IsPlaying p first log err text c more later now → all_ended c.world ≡ false
    → AppendsBeginning later last (said p c.module_run c.world more (picked c.module_run c.world x))
    → BeginsSome (said_on p first log) err last
playing_breaks_some p first log err text x c more later last now i goes wrote =
    let s = i.some in (
      s.followed ++ x ∷ [],
      on_breaks p first.module_run (s.followed ++ x ∷ []) first.world log err x (x ∷ []) [] c.world more later last (s.on (x ∷ [])) refl goes
          (subst (λ k. AppendsBeginning later last (said p k c.world more (picked k c.world x))) i.same_module wrote),
    )

are_on_stops : (p : ProgramTextValue) (m : ModuleValue) (w : World) (log : List Entry) (err text : Option (List ℕ)) (v : World)
    (more : List Entry) (later now : Option (List ℕ))
    → AreOn p m w log err text v more later now → IfSome text (λ t. AppendsBeginning err later (all_said p m (answers t) w log))
are_on_stops p m w log err None v more later now on = tt
are_on_stops p m w log err (Some text) v more later None on = absurd on
are_on_stops p m w log err (Some text) v more later (Some rest) on = on_stops p m (answers text) w log err (answers rest) v more later on

-- so far a beginning was written
pub playing_stops : (p : ProgramTextValue) (first : CoreValue) (log : List Entry) (err text : Option (List ℕ)) (c : CoreValue)
    (more : List Entry) (later now : Option (List ℕ))
    → IsPlaying p first log err text c more later now → IfSome text (λ t. AppendsBeginning err later (said_on p first log (answers t)))
playing_stops p first log err text c more later now i = are_on_stops p first.module_run first.world log err text c.world more later now i.on

pub playing_stops_some : (p : ProgramTextValue) (first : CoreValue) (log : List Entry) (err text : Option (List ℕ)) (c : CoreValue)
    (more : List Entry) (later now : Option (List ℕ))
    → IsPlaying p first log err text c more later now → BeginsSome (said_on p first log) err later
playing_stops_some p first log err text c more later now i =
    let s = i.some in
    (s.followed ++ [], on_stops p first.module_run (s.followed ++ []) first.world log err [] c.world more later (s.on []))

-- whatever is known, what was played and told is so by some answers, behind which none came
pub playing_some : (p : ProgramTextValue) (first : CoreValue) (log : List Entry) (err text : Option (List ℕ)) (c d : CoreValue)
    (more : List Entry) (later last now : Option (List ℕ))
    → IsPlaying p first log err text c more later now → d ≡ c → Appends later last (end_words d.world)
    → FollowsSome first.module_run first.world log more (said_on p first log) err last
playing_some p first log err text c d more later last now i same wrote =
    let s = i.some in
    let ends =
    on_ends p first.module_run (s.followed ++ []) first.world log err [] c.world more later last (s.on []) (inr refl)
    (subst (λ (k : CoreValue). Appends later last (end_words k.world)) same wrote) in
    (s.followed ++ [], ends.0, ends.1)

-- of what is said where none comes a beginning was written
pub playing_ends_early_some : (p : ProgramTextValue) (first : CoreValue) (log : List Entry) (err text : Option (List ℕ)) (c d : CoreValue)
    (more : List Entry) (later last now : Option (List ℕ))
    → IsPlaying p first log err text c more later now → d ≡ c → AppendsBeginning later last (end_words d.world)
    → BeginsSome (said_on p first log) err last
playing_ends_early_some p first log err text c d more later last now i same wrote =
    let s = i.some in (
      s.followed ++ [],
      on_ends_early p first.module_run (s.followed ++ []) first.world log err [] c.world more later last (s.on []) (inr refl)
          (subst (λ (k : CoreValue). AppendsBeginning later last (end_words k.world)) same wrote),
    )

-- it is played to the end, and all is told
abbrev pub AreOut : ProgramTextValue → ModuleValue → World → List Entry → Option (List ℕ) → Option (List ℕ) → List Entry → Option (List ℕ) → Type 0
AreOut p m w log err text more later =
    IfSome text (λ t. more ≡ log ++ map one_step_of (played m (answers t) w)) × IfSome text (λ t. Appends err later (all_said p m (answers t) w log))

are_on_ends : (p : ProgramTextValue) (m : ModuleValue) (w : World) (log : List Entry) (err text : Option (List ℕ)) (v : World)
    (more : List Entry) (later last now : Option (List ℕ))
    → AreOn p m w log err text v more later now → (all_ended v ≡ true) ⊎ IfSome now (λ t. answers t ≡ []) → Appends later last (end_words v)
    → AreOut p m w log err text more last
are_on_ends p m w log err None v more later last now on ends wrote = (tt, tt)
are_on_ends p m w log err (Some text) v more later last None on ends wrote = absurd on
are_on_ends p m w log err (Some text) v more later last (Some rest) on ends wrote =
    on_ends p m (answers text) w log err (answers rest) v more later last on ends wrote

are_on_ends_early : (p : ProgramTextValue) (m : ModuleValue) (w : World) (log : List Entry) (err text : Option (List ℕ)) (v : World)
    (more : List Entry) (later last now : Option (List ℕ))
    → AreOn p m w log err text v more later now → (all_ended v ≡ true) ⊎ IfSome now (λ t. answers t ≡ []) → AppendsBeginning later last (end_words v)
    → IfSome text (λ t. AppendsBeginning err last (all_said p m (answers t) w log))
are_on_ends_early p m w log err None v more later last now on ends wrote = tt
are_on_ends_early p m w log err (Some text) v more later last None on ends wrote = absurd on
are_on_ends_early p m w log err (Some text) v more later last (Some rest) on ends wrote =
    on_ends_early p m (answers text) w log err (answers rest) v more later last on ends wrote

-- where the next answer wasn't there, no answer is wanted, or none comes
abbrev IsLast : CoreValue → Option (List ℕ) → Option (Option ℕ) → Type 0
IsLast d now o = IfNone o ((all_ended d.world ≡ true) ⊎ IfSome now (λ t. answers t ≡ []))

last_of : (d : CoreValue) (now : Option (List ℕ)) (o : Option (Option ℕ)) → ((x : Option ℕ) → o ≡ Some x → ⊥) → IsLast d now o
    → (all_ended d.world ≡ true) ⊎ IfSome now (λ t. answers t ≡ [])
last_of d now (Some x) none ends = absurd (none x refl)
last_of d now None none ends = ends

-- what was seen of the core when it was asked for the answer, and when that was told
pub playing_out : (p : ProgramTextValue) (first : CoreValue) (log : List Entry) (err text : Option (List ℕ)) (c d e : CoreValue)
    (more : List Entry) (later last now : Option (List ℕ)) (o : Option (Option ℕ))
    → IsPlaying p first log err text c more later now → d ≡ c → e ≡ c → ((x : Option ℕ) → o ≡ Some x → ⊥)
    → IsLast d now o → Appends later last (end_words e.world) → AreOut p first.module_run first.world log err text more last
playing_out p first log err text c d e more later last now o i same seen none ends wrote =
    are_on_ends p first.module_run first.world log err text c.world more later last now i.on
    (subst (λ (k : CoreValue). (all_ended k.world ≡ true) ⊎ IfSome now (λ t. answers t ≡ [])) same (last_of d now o none ends))
    (subst (λ (k : CoreValue). Appends later last (end_words k.world)) seen wrote)

pub playing_ends_early : (p : ProgramTextValue) (first : CoreValue) (log : List Entry) (err text : Option (List ℕ)) (c d e : CoreValue)
    (more : List Entry) (later last now : Option (List ℕ)) (o : Option (Option ℕ))
    → IsPlaying p first log err text c more later now → d ≡ c → e ≡ c → ((x : Option ℕ) → o ≡ Some x → ⊥)
    → IsLast d now o → AppendsBeginning later last (end_words e.world)
    → IfSome text (λ t. AppendsBeginning err last (said_on p first log (answers t)))
playing_ends_early p first log err text c d e more later last now o i same seen none ends wrote =
    are_on_ends_early p first.module_run first.world log err text c.world more later last now i.on
    (subst (λ (k : CoreValue). (all_ended k.world ≡ true) ⊎ IfSome now (λ t. answers t ≡ [])) same (last_of d now o none ends))
    (subst (λ (k : CoreValue). AppendsBeginning later last (end_words k.world)) seen wrote)

-- ---- calls that failed

-- nothing is said of what a failure leaves
pub failed : {A E : Type 0} (P : Type 0) (r : Result A E) → IsErr r → OnOk r P
failed P (Ok x) h = absurd (grind arith)
failed P (Err e) h = tt

-- and what follows of a call that went well
pub so_then : {A E : Type 0} (P Q : Type 0) (r : Result A E) → (P → Q) → OnOk r P → OnOk r Q
so_then P Q (Ok x) f h = f h
so_then P Q (Err e) f h = tt

-- ---- a question before

-- a text was written before one that goes by the bytes to come
pub said_before : (a b c : Option (List ℕ)) (text : List ℕ) (known : Option (List ℕ)) (rest : List ℕ → List ℕ)
    → Appends a b text → IfSome known (λ t. Appends b c (rest t)) → IfSome known (λ t. Appends a c (text ++ rest t))
said_before a b c text None rest wrote then_all = tt
said_before a b c text (Some t) rest wrote then_all = appends_then a b c text (rest t) wrote then_all

-- the same by some answers
pub some_before : (m : ModuleValue) (w : World) (log more : List Entry) (a b c : Option (List ℕ)) (text : List ℕ) (rest : List (Option ℕ) → List ℕ)
    → Appends a b text → FollowsSome m w log more rest b c → FollowsSome m w log more (λ xs. text ++ rest xs) a c
some_before m w log more a b c text rest wrote s = (s.0, s.1, appends_then a b c text (rest s.0) wrote s.2)

pub begun_some_before : (a b c : Option (List ℕ)) (text : List ℕ) (rest : List (Option ℕ) → List ℕ)
    → Appends a b text → BeginsSome rest b c → BeginsSome (λ xs. text ++ rest xs) a c
begun_some_before a b c text rest wrote s = (s.0, beginning_then a b c text (rest s.0) wrote s.1)

pub begun_some_early : (a b : Option (List ℕ)) (text : List ℕ) (rest : List (Option ℕ) → List ℕ)
    → AppendsBeginning a b text → BeginsSome (λ xs. text ++ rest xs) a b
begun_some_early a b text rest begins = ([], beginning_more a b text (rest []) begins)

pub begun_before : (a b c : Option (List ℕ)) (text : List ℕ) (known : Option (List ℕ)) (rest : List ℕ → List ℕ)
    → Appends a b text → IfSome known (λ t. AppendsBeginning b c (rest t)) → IfSome known (λ t. AppendsBeginning a c (text ++ rest t))
begun_before a b c text None rest wrote begins = tt
begun_before a b c text (Some t) rest wrote begins = beginning_then a b c text (rest t) wrote begins

-- only a beginning of the first was
pub begun_early : (a b : Option (List ℕ)) (text : List ℕ) (known : Option (List ℕ)) (rest : List ℕ → List ℕ)
    → AppendsBeginning a b text → IfSome known (λ t. AppendsBeginning a b (text ++ rest t))
begun_early a b text None rest begins = tt
begun_early a b text (Some t) rest begins = beginning_more a b text (rest t) begins

-- what holds of the bytes to come holds of the first of those that are known
of_known : (n : ℕ) (known : Option (List ℕ)) (P : List ℕ → Type 0) → IfSome (option_map (take n) known) P → IfSome known (λ t. P (take n t))
of_known n None P h = tt
of_known n (Some t) P h = h

-- ---- what is left of the input

-- bytes were read up to the line of an answer that was followed
pub record IsUsing (m : ModuleValue) (w : World) (first : Option (List ℕ)) (v : World) (k : ℕ) (now : Option (List ℕ)) : Type 0 where
  pub left : AreLeft m w most_bytes first v k now
  pub alike : EndAlike most_bytes first k now

alike_first : (n : ℕ) (known : Option (List ℕ)) → EndAlike n known n known
alike_first n None = tt
alike_first n (Some text) = refl

pub using_starts : (m : ModuleValue) (w : World) (known : Option (List ℕ)) → IsUsing m w known w most_bytes known
using_starts m w known = record { left = left_first m w most_bytes known; alike = alike_first most_bytes known }

alike_then : (n k j : ℕ) (a b c : Option (List ℕ)) → EndAlike n a k b → EndAlike k b j c → EndAlike n a j c
alike_then n k j None b c e f = tt
alike_then n k j (Some x) None c e f = absurd e
alike_then n k j (Some x) (Some y) None e f = absurd f
alike_then n k j (Some x) (Some y) (Some z) e f = f ∙ e

-- one answer more
pub using_on : (m : ModuleValue) (w : World) (c d : CoreValue) (x : Option ℕ) (k j : ℕ) (first now next : Option (List ℕ))
    → IsUsing m w first c.world k now → c.module_run ≡ m → TakesAnswer x (to_come k now) (to_come j next) → TakesLine k now j next → all_ended c.world ≡ false
    → d.world ≡ behind c.module_run c.world (picked c.module_run c.world x) → IsUsing m w first d.world j next
using_on m w c d x k j first now next i same takes line goes led = record {
  left = left_more m w c.world d.world x most_bytes k j first now next i.left takes line.0 goes
      (subst (λ q. d.world ≡ behind q c.world (picked q c.world x)) same led);
  alike = alike_then most_bytes k j first now next i.alike line.1;
}

using_out : (m : ModuleValue) (w v : World) (b : Bool) (k : ℕ) (first now next : Option (List ℕ)) → IsUsing m w first v k now → all_ended v ≡ b
    → (b ≡ true → next ≡ now) → (b ≡ false → Leaves (drop k) now next) → Leaves (unread_from m w b) first next
using_out m w v true k first now next i is same rest =
    subst (Leaves (unread_from m w true) first) (sym (same refl)) (left_ended m w v k first now i.left is)
using_out m w v false k first now next i is same rest = unread_whole first next (passing_stops most_bytes k first now next i.alike (rest refl))
  where
    unread_whole : (a b : Option (List ℕ)) → Leaves (drop most_bytes) a b → Leaves (unread_from m w false) a b
    unread_whole None b l = tt
    unread_whole (Some text) None l = absurd l
    unread_whole (Some text) (Some left) l = l

-- no answer is wanted, and no byte was read; or none comes, and all were
pub using_ends : (m : ModuleValue) (w : World) (c d : CoreValue) (k : ℕ) (first now next : Option (List ℕ)) (o : Option (Option ℕ))
    → IsUsing m w first c.world k now → d ≡ c → ((x : Option ℕ) → o ≡ Some x → ⊥)
    → (all_ended d.world ≡ true → next ≡ now) → IfNone o (all_ended d.world ≡ false → Leaves (drop k) now next)
    → Leaves (unread_from m w (all_ended c.world)) first next
using_ends m w c d k first now next (Some x) i is none same rest = absurd (none x refl)
using_ends m w c d k first now next None i is none same rest =
    using_out m w c.world (all_ended c.world) k first now next i refl
    (subst (λ (z : CoreValue). all_ended z.world ≡ true → next ≡ now) is same)
    (subst (λ (z : CoreValue). all_ended z.world ≡ false → Leaves (drop k) now next) is rest)

-- ---- from the opening world

-- nothing was written
pub nothing_begun : (a known : Option (List ℕ)) (text : List ℕ → List ℕ) → IfSome known (λ t. AppendsBeginning a a (text t))
nothing_begun a None text = tt
nothing_begun a (Some t) text = (0, Appends-nil a)

-- the log of a run from there is that of the answers
pub opened_log : (m : ModuleValue) (args : List ℤ) (d : CoreValue) (known : Option (List ℕ)) (before log result : List Entry) → d ≡ opening_core m args → before ≡ []
    → result ≡ log → IfSome (to_come most_bytes known) (λ t. log ≡ before ++ map one_step_of (played d.module_run (answers t) d.world))
    → IfSome known (λ t. result ≡ played_log m args t)
opened_log m args d known before log result start empty is h =
    of_known most_bytes known (λ t. result ≡ map one_step_of (played m (answers t) (opening m args)))
    (subst (λ l. IfSome (to_come most_bytes known) (λ t. l ≡ map one_step_of (played m (answers t) (opening m args)))) (sym is)
    (subst (λ (l : List Entry). IfSome (to_come most_bytes known) (λ t. log ≡ l ++ map one_step_of (played m (answers t) (opening m args)))) empty
    (subst (λ (x : CoreValue). IfSome (to_come most_bytes known) (λ t. log ≡ before ++ map one_step_of (played x.module_run (answers t) x.world))) start h)))

-- and so is what is told
pub opened_text : (Q : List ℕ → Type 0) (p : ProgramTextValue) (m : ModuleValue) (args : List ℤ) (d : CoreValue) (known : Option (List ℕ)) (before : List Entry)
    → d ≡ opening_core m args → before ≡ []
    → IfSome (to_come most_bytes known) (λ t. Q (said_from p d before (answers t)))
    → IfSome known (λ t. Q (told_text p m args t))
opened_text Q p m args d known before start empty h =
    of_known most_bytes known (λ t. Q (told_by p m args (answers t)))
    (subst (λ (l : List Entry). IfSome (to_come most_bytes known)
    (λ t. Q (said_from p (opening_core m args) l (answers t)))) empty
    (subst (λ (x : CoreValue). IfSome (to_come most_bytes known)
    (λ t. Q (said_from p x before (answers t)))) start h))

-- by the answers that are known, or by some
by_answers : (p : ProgramTextValue) (m : ModuleValue) (args : List ℤ) (input : Option (List ℕ)) (log : List Entry) (old new : Option (List ℕ))
    → IfSome input (λ t. log ≡ played_log m args t) → IfSome input (λ t. Appends old new (told_text p m args t))
    → FollowsSome m (opening m args) [] log (told_by p m args) old new → IsByAnswers p m args input log old new
by_answers p m args None log old new logged wrote some = (some.0, tt, some.1, some.2)
by_answers p m args (Some t) log old new logged wrote some = (answers_read t, refl, logged, wrote)

pub opened_by : (p : ProgramTextValue) (m : ModuleValue) (args : List ℤ) (d : CoreValue) (input : Option (List ℕ)) (before log result : List Entry)
    (old new : Option (List ℕ))
    → d ≡ opening_core m args → before ≡ [] → result ≡ log
    → IfSome input (λ t. result ≡ played_log m args t) → IfSome input (λ t. Appends old new (told_text p m args t))
    → FollowsSome d.module_run d.world before log (said_from p d before) old new
    → IsByAnswers p m args input result old new
opened_by p m args d input before log result old new start empty is logged wrote some =
    by_answers p m args input result old new logged wrote
    (subst (λ (l : List Entry). FollowsSome m (opening m args) [] l (told_by p m args) old new) (sym is)
    (subst (λ (l : List Entry). FollowsSome m (opening m args) l log
    (said_from p (opening_core m args) l) old new) empty
    (subst (λ (x : CoreValue). FollowsSome x.module_run x.world before log
    (said_from p x before) old new) start some)))

begins_by : (p : ProgramTextValue) (m : ModuleValue) (args : List ℤ) (input old new : Option (List ℕ))
    → IfSome input (λ t. AppendsBeginning old new (told_text p m args t))
    → BeginsSome (told_by p m args) old new → BeginsByAnswers p m args input old new
begins_by p m args None old new known some = (some.0, tt, some.1)
begins_by p m args (Some t) old new known some = (answers_read t, refl, known)

pub opened_begins : (p : ProgramTextValue) (m : ModuleValue) (args : List ℤ) (d : CoreValue) (input : Option (List ℕ)) (before : List Entry)
    (old new : Option (List ℕ)) → d ≡ opening_core m args → before ≡ []
    → IfSome input (λ t. AppendsBeginning old new (told_text p m args t))
    → BeginsSome (said_from p d before) old new → BeginsByAnswers p m args input old new
opened_begins p m args d input before old new start empty known some =
    begins_by p m args input old new known
    (subst (λ (l : List Entry). BeginsSome (said_from p (opening_core m args) l) old new) empty
    (subst (λ (x : CoreValue). BeginsSome (said_from p x before) old new) start some))

-- nothing was written, before any was read
pub nothing_begun_by : (p : ProgramTextValue) (m : ModuleValue) (args : List ℤ) (input a : Option (List ℕ)) → BeginsByAnswers p m args input a a
nothing_begun_by p m args None a = ([], tt, (0, Appends-nil a))
nothing_begun_by p m args (Some t) a = (answers_read t, refl, (0, Appends-nil a))

-- and what is left of the input
pub opened_unread : (m : ModuleValue) (args : List ℤ) (d : CoreValue) (b whole : Bool) (old new : Option (List ℕ)) → d ≡ opening_core m args → whole ≡ b
    → Leaves (unread_from d.module_run d.world b) old new → Leaves (unread m args whole) old new
opened_unread m args d b whole old new start is l =
    subst (λ z. Leaves (unread m args z) old new) (sym is)
    (by old new (subst (λ (x : CoreValue). Leaves (unread_from x.module_run x.world b) old new) start l))
  where
    by : (old new : Option (List ℕ)) → Leaves (unread_from m (opening m args) b) old new → Leaves (unread m args b) old new
    by None new h = tt
    by (Some text) None h = absurd h
    by (Some text) (Some left) h = h
