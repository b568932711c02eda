-- What taking lines one after another says of a text.
use Rattle.std.proofs.Common.{◌≡◌, ℕ, ◌+◌, ◌-◌, ◌*◌, ◌<◌, ◌≤◌, List, [], ◌∷◌, ◌++◌, length, take, drop, Option, Some, None, Result, Ok, Err, IfSome, ap, sym, ◌∙◌, arith, refl, subst, append_assoc, append-nil, length-append, length-drop, length-take, lit≤}
use Rattle.std.specs.List.{AllByRecursion, prefix_len, copy_within}
use Rattle.std.specs.Io.KnownBytes.{Consumes, IsAtEnd}
use borrow.Rule.Slice.PartMut.{put_mid, post_of}
use Rattle.std.proofs.KnownBytes.{Consumes-trans}
use Rattle.std.proofs.Math.Seq.{take-append-add}
use Rattle.std.proofs.lemmas.List.{drop-take, take_at, take_all, take-append-le, take-append-drop}
use Rattle.xk_types.specs.declared.world.Entry.{Entry}
use Rattle.xk_log.specs.declared.fault.LogFault.{LogFault}
use Rattle.xk_log.specs.declared.fault.LogFault.TheVariants as fault
use Rattle.xk_log.specs.declared.progress.Stage.{Stage}
use Rattle.xk_log.specs.declared.progress.Stage.TheVariants as stage
use Rattle.xk_log.specs.LogText.{Lacks, isnt, line_feed, head_line, entry_line, end_line, ended, entry_lines, log_text, FitsEntry}
use Rattle.xk_log.specs.Verdicts.{Place, Start, Within, Behind, before, IsPlace, line_at, IsOneLine, longest_line, IsWrong, Misfit, TooLong, Surplus, IsWrongAt, Verdict, Whole, Wrong, Cut, Says}
use Rattle.xk_log.specs.Reading.{HasEntry, Tells, Answers, CountsDevice, place_of, IsReadyAt, Refuses, StopsAt, IsNoneBehind, HasSurplus, Finishes}
use Rattle.xk_log.specs.SomeBytes.{OfSome}
use Rattle.xk_log.proofs.LineLemmas.{lacks_parts, front_lacks, front_ends}
use Rattle.xk_log.proofs.NumberLemmas.{number_short}
use Rattle.xk_log.proofs.VerdictLemmas.{entry_short, one_verdict}

place_ready : (s : Stage) (es : List Entry) → IsReadyAt s es → IsPlace (place_of s es)
place_ready stage.Start es h = tt
place_ready stage.Within es h = h
place_ready stage.Behind es h = h

-- ---- a line that isn't taken

has_entry : (es : List Entry) (e : Entry) (line more text : List ℕ) → AllByRecursion FitsEntry es → FitsEntry e → line ≡ entry_line e
    → (ended head_line ++ entry_lines es) ++ (line ++ line_feed ∷ more) ≡ text → HasEntry text
has_entry [] e line more text h fits is eq = record {
  entry = e;
  more = more;
  fits = fits;
  split = sym eq ∙ ap (λ l. ended head_line ++ (l ++ line_feed ∷ more)) is
      ∙ ap (λ l. ended head_line ++ l) (sym (append_assoc (entry_line e) (line_feed ∷ []) more));
}
has_entry (f ∷ fs) e line more text h fits is eq =
    let rest = line ++ line_feed ∷ more in
    record {
      entry = f;
      more = entry_lines fs ++ rest;
      fits = h.0;
      split = sym eq ∙ append_assoc (ended head_line) (ended (entry_line f) ++ entry_lines fs) rest
          ∙ ap (λ l. ended head_line ++ l) (append_assoc (ended (entry_line f)) (entry_lines fs) rest);
    }

stops_refused : (s : Stage) (es : List Entry) (line more text : List ℕ) (f : LogFault) → IsReadyAt s es
    → before (place_of s es) ++ (line ++ line_feed ∷ more) ≡ text → IsOneLine line → Refuses (place_of s es) line f → StopsAt text f
stops_refused s es line more text (fault.Grammar k) ready eq one h = record {
  place = place_of s es;
  rest = line ++ line_feed ∷ more;
  split = sym eq;
  fits = place_ready s es ready;
  number = h.0;
  wrong = Misfit line more one refl h.1;
}
stops_refused s es line more text fault.Truncated ready eq one h = absurd h
stops_refused s es line more text fault.Device ready eq one h = absurd h
stops_refused stage.Start es line more text fault.OutOfMemory ready eq one h = absurd h
stops_refused stage.Within es line more text fault.OutOfMemory ready eq one h = has_entry es h.0 line more text ready.each h.1 h.2 eq
stops_refused stage.Behind es line more text fault.OutOfMemory ready eq one h = absurd h

-- ---- a line that is taken

pub taken_one : (old new line rest more : List ℕ) → new ≡ old ++ ended line → rest ≡ line ++ line_feed ∷ more → new ++ more ≡ old ++ rest
taken_one old new line rest more h is =
    ap (λ l. l ++ more) h ∙ append_assoc old (ended line) more ∙ ap (λ l. old ++ l) (append_assoc line (line_feed ∷ []) more ∙ sym is)

lacks_take : (s n : ℕ) (xs : List ℕ) → Lacks s xs → Lacks s (take n xs)
lacks_take s n xs h = (lacks_parts s (take n xs) (drop n xs) (subst (Lacks s) (sym (take-append-drop n xs)) h)).0

-- ---- a rest that is wrong

pub stops_long : (s : Stage) (es : List Entry) (rest text : List ℕ) (k : ℕ) → IsReadyAt s es → before (place_of s es) ++ rest ≡ text → IsOneLine rest
    → longest_line < length rest → k ≡ line_at (place_of s es) → StopsAt text (fault.Grammar k)
stops_long s es rest text k ready eq one long number = record {
  place = place_of s es;
  rest = rest;
  split = sym eq;
  fits = place_ready s es ready;
  number = number;
  wrong = TooLong long (lacks_take line_feed (longest_line + 1) rest one);
}

pub stops_surplus : (s : Stage) (es : List Entry) (rest text : List ℕ) (k : ℕ) → IsReadyAt s es → before (place_of s es) ++ rest ≡ text
    → HasSurplus s (length rest) → k ≡ line_at (place_of s es) → StopsAt text (fault.Grammar k)
stops_surplus stage.Start es rest text k ready eq some number = absurd some
stops_surplus stage.Within es rest text k ready eq some number = absurd some
stops_surplus stage.Behind es rest text k ready eq some number = record {
  place = Behind es;
  rest = rest;
  split = sym eq;
  fits = ready;
  number = number;
  wrong = Surplus es refl some;
}

-- ---- more of a text

wrong_more : (p : Place) (rest more : List ℕ) → IsWrong p rest → IsWrong p (rest ++ more)
wrong_more p rest more (Misfit line others one is unfit) =
    Misfit line (others ++ more) one (ap (λ l. l ++ more) is ∙ append_assoc line (line_feed ∷ others) more) unfit
wrong_more p rest more (TooLong long one) =
    let size = length-append rest more in
    let within : longest_line + 1 ≤ length rest = omega (arith, long) in
    TooLong (omega (arith, size, long)) (subst IsOneLine (sym (take-append-le (longest_line + 1) rest more within)) one)
wrong_more p rest more (Surplus es is some) = let size = length-append rest more in Surplus es is (omega (arith, size, some))

wrong_at_more : (text more : List ℕ) (k : ℕ) → IsWrongAt text k → IsWrongAt (text ++ more) k
wrong_at_more text more k h = record {
  place = h.place;
  rest = h.rest ++ more;
  split = ap (λ l. l ++ more) h.split ∙ append_assoc (before h.place) h.rest more;
  fits = h.fits;
  number = h.number;
  wrong = wrong_more h.place h.rest more h.wrong;
}

has_entry_more : (text more : List ℕ) → HasEntry text → HasEntry (text ++ more)
has_entry_more text more h = record {
  entry = h.entry;
  more = h.more ++ more;
  fits = h.fits;
  split = ap (λ l. l ++ more) h.split ∙ append_assoc (ended head_line) (ended (entry_line h.entry) ++ h.more) more
      ∙ ap (λ l. ended head_line ++ l) (append_assoc (ended (entry_line h.entry)) h.more more);
}

stops_tells : (text more : List ℕ) (f : LogFault) → StopsAt text f → Tells (text ++ more) (Err f)
stops_tells text more (fault.Grammar k) h = wrong_at_more text more k h
stops_tells text more fault.Truncated h = absurd h
stops_tells text more fault.Device h = absurd h
stops_tells text more fault.OutOfMemory h = has_entry_more text more h

stops_told : (text : List ℕ) (f : LogFault) → StopsAt text f → Tells text (Err f)
stops_told text (fault.Grammar k) h = h
stops_told text fault.Truncated h = absurd h
stops_told text fault.Device h = absurd h
stops_told text fault.OutOfMemory h = h

-- what follows of the bytes that are known, and of these, follows of some
of_some : (a : Option (List ℕ)) (P : List ℕ → Type 0) (text : List ℕ) → P text → IfSome a P → OfSome a P
of_some None P text h known = (text, h)
of_some (Some t) P text h known = known

-- of a device's failure nothing is said
pub device_told : (a : Option (List ℕ)) (r : Result (List Entry) LogFault) → r ≡ Err fault.Device → OfSome a (λ t. Tells t r)
device_told None r e = ([], subst (Tells []) (sym e) tt)
device_told (Some t) r e = subst (Tells t) (sym e) tt

-- what stops in what was read stands against the whole
pub tells_stopped : (a b : Option (List ℕ)) (text : List ℕ) (f : LogFault) → Consumes a b text → StopsAt text f → IfSome a (λ t. Tells t (Err f))
tells_stopped None b text f c h = tt
tells_stopped (Some t) None text f c h = absurd c
tells_stopped (Some t) (Some u) text f c h = subst (λ l. Tells l (Err f)) (sym c) (stops_tells text u f h)

pub some_stopped : (a b : Option (List ℕ)) (text : List ℕ) (f : LogFault) → Consumes a b text → StopsAt text f → OfSome a (λ t. Tells t (Err f))
some_stopped a b text f c h = of_some a (λ t. Tells t (Err f)) text (stops_told text f h) (tells_stopped a b text f c h)

pub counts_stopped : (old new : ℕ) (text : List ℕ) (f : LogFault) → new ≡ old → StopsAt text f → CountsDevice old new (Err f)
counts_stopped old new text (fault.Grammar k) e h = e
counts_stopped old new text fault.Truncated e h = e
counts_stopped old new text fault.Device e h = absurd h
counts_stopped old new text fault.OutOfMemory e h = e

-- ---- the end

within : (n : ℕ) (left : List ℕ) → n ≤ longest_line → length (take n left) ≤ longest_line
within n left h = let size = length-take n left in omega (arith, size, h)

finished : (s : Stage) (es : List Entry) (left : List ℕ) (n : ℕ) (r : Result (List Entry) LogFault) → IsReadyAt s es → IsOneLine (take n left)
    → n ≤ longest_line
    → IsNoneBehind (place_of s es) n → Finishes (place_of s es) r → Tells (before (place_of s es) ++ take n left) r
finished stage.Start es left n r ready one short none is =
    subst (Tells (take n left)) (sym is) (record {
      place = Start;
      rest = take n left;
      split = refl;
      fits = tt;
      open_yet = tt;
      one_line = one;
      short = within n left short;
    })
finished stage.Within es left n r ready one short none is =
    subst (Tells (before (Within es) ++ take n left)) (sym is)
    (record { place = Within es; rest = take n left; split = refl; fits = ready; open_yet = tt; one_line = one; short = within n left short })
finished stage.Behind es left n r ready one short none is =
    subst (Tells (before (Behind es) ++ take n left)) (sym is) (ready, ap (λ k. log_text es ++ take k left) none ∙ append-nil (log_text es))

pub tells_finished : (a b : Option (List ℕ)) (s : Stage) (es : List Entry) (left : List ℕ) (n : ℕ) (r : Result (List Entry) LogFault) → IsReadyAt s es
    → IsOneLine (take n left) → n ≤ longest_line → IsNoneBehind (place_of s es) n → Finishes (place_of s es) r
    → Consumes a b (before (place_of s es) ++ take n left) → IsAtEnd b → IfSome a (λ t. Tells t r)
tells_finished None b s es left n r ready one short none is c e = tt
tells_finished (Some t) None s es left n r ready one short none is c e = absurd c
tells_finished (Some t) (Some u) s es left n r ready one short none is c e =
    let text = before (place_of s es) ++ take n left in
    subst (λ l. Tells l r) (sym (c ∙ ap (λ l. text ++ l) e ∙ append-nil text)) (finished s es left n r ready one short none is)

pub some_finished : (a b : Option (List ℕ)) (s : Stage) (es : List Entry) (left : List ℕ) (n : ℕ) (r : Result (List Entry) LogFault) → IsReadyAt s es
    → IsOneLine (take n left) → n ≤ longest_line → IsNoneBehind (place_of s es) n → Finishes (place_of s es) r
    → Consumes a b (before (place_of s es) ++ take n left) → IsAtEnd b → OfSome a (λ t. Tells t r)
some_finished a b s es left n r ready one short none is c e =
    of_some a (λ t. Tells t r) (before (place_of s es) ++ take n left) (finished s es left n r ready one short none is)
    (tells_finished a b s es left n r ready one short none is c e)

-- ---- how long what was read can be

lines_short : (es : List Entry) → AllByRecursion FitsEntry es → length (entry_lines es) ≤ 22 * length es
lines_short [] h = omega arith
lines_short (e ∷ es) h =
    let rest = lines_short es h.1 in
    let line = entry_short e h.0 in
    let size = length-append (ended (entry_line e)) (entry_lines es) in
    let one = length-append (entry_line e) (line_feed ∷ []) in
    omega (arith, rest, line, size, one)

place_short : (s : Stage) (es : List Entry) → IsReadyAt s es → length (before (place_of s es)) ≤ 22_000_000_050
place_short stage.Start es h = lit≤ tt
place_short stage.Within es h =
    let lines = lines_short es h.each in
    let size = length-append (ended head_line) (entry_lines es) in
    omega (arith, lines, size, h.short)
place_short stage.Behind es h =
    let lines = lines_short es h.each in
    let last = end_line (length es) in
    let size = length-append (ended head_line) (entry_lines es ++ ended last) in
    let inner = length-append (entry_lines es) (ended last) in
    let one = length-append last (line_feed ∷ []) in
    let number = number_short (length es) (omega (arith, h.short)) in
    omega (arith, lines, size, inner, one, number, h.short)

-- ---- verdicts

pub answers_told : (a : Option (List ℕ)) (r : Result (List Entry) LogFault) → IfSome a (λ t. Tells t r) → IfSome a (λ t. (v : Verdict)
    → Says v t → Answers v r)
answers_told None r h = tt
answers_told (Some t) (Ok es) h = λ v k. one_verdict t v (Whole es) k h
answers_told (Some t) (Err (fault.Grammar line)) h = λ v k. one_verdict t v (Wrong line) k h
answers_told (Some t) (Err fault.Truncated) h = λ v k. one_verdict t v Cut k h
answers_told (Some t) (Err fault.Device) h = λ v k. tt
answers_told (Some t) (Err fault.OutOfMemory) h = λ v k. tt

-- ---- where the next line ends

pub all_here : (rest : List ℕ) (n : ℕ) → n ≡ prefix_len (isnt line_feed) rest → length rest ≤ n → IsOneLine rest
all_here rest n is all =
    let k = prefix_len (isnt line_feed) rest in
    let whole : length rest ≤ k = omega (arith, is, all) in
    subst IsOneLine (take_all k rest whole) (front_lacks line_feed rest)

one_line_here : (rest : List ℕ) (n : ℕ) → n ≡ prefix_len (isnt line_feed) rest → IsOneLine (take n rest)
one_line_here rest n is = subst (λ k. IsOneLine (take k rest)) (sym is) (front_lacks line_feed rest)

pub line_here : (rest : List ℕ) (n : ℕ) → n ≡ prefix_len (isnt line_feed) rest → n < length rest → rest ≡ take n rest ++ line_feed ∷ drop (n + 1) rest
line_here rest n is some =
    let short : prefix_len (isnt line_feed) rest < length rest = omega (arith, is, some) in
    subst (λ k. rest ≡ take k rest ++ line_feed ∷ drop (k + 1) rest) (sym is) (front_ends line_feed rest short)

pub refused_at : (s : Stage) (es : List Entry) (rest : List ℕ) (from n : ℕ) (text : List ℕ) (f : LogFault) → IsReadyAt s es
    → before (place_of s es) ++ rest ≡ text
    → n ≡ prefix_len (isnt line_feed) rest → n < length rest → Refuses (place_of s es) (take (from + n - from) rest) f → StopsAt text f
refused_at s es rest from n text f ready eq is some h =
    let slice : from + n - from ≡ n = omega arith in
    let here = line_here rest n is some in
    stops_refused s es (take n rest) (drop (n + 1) rest) text f ready (ap (λ l. before (place_of s es) ++ l) (sym here)
    ∙ eq) (one_line_here rest n is)
    (subst (λ k. Refuses (place_of s es) (take k rest) f) slice h)

-- ---- what is left of a piece

-- after the end of the first bytes was copied to the front
pub kept_front : (piece new : List ℕ) (filled left : ℕ) → left ≤ filled → filled ≤ length piece → new ≡ copy_within piece (filled - left) filled 0
    → take left new ≡ drop (length (take filled piece) - left) (take filled piece)
kept_front piece new filled left h k is =
    let i = filled - left in
    let m = filled - i in
    let same : m ≡ left = omega arith in
    let whole : i + left ≡ filled = omega arith in
    let part = take m (drop i piece) in
    let size : length part ≡ left = length-take m (drop i piece) ∙ omega (arith, length-drop i piece) in
    let front : take left new ≡ part = ap (take left) is ∙ take_at part (drop (0 + m) piece) left size in
    let count : length (take filled piece) - left ≡ i = omega (arith, length-take filled piece) in
    front ∙ ap (λ x. take x (drop i piece)) same ∙ sym (drop-take i left piece) ∙ ap (λ x. drop i (take x piece)) whole
    ∙ ap (λ x. drop x (take filled piece)) (sym count)

pub left_size : (text : List ℕ) (left : ℕ) → left ≤ length text → length (drop (length text - left) text) ≡ left
left_size text left h = length-drop (length text - left) text ∙ omega arith

-- ---- one piece more

pub read_joined : (a b c : Option (List ℕ)) (first piece part : List ℕ) (held count m : ℕ) → held ≤ length piece → count ≤ length part
    → Consumes a b (first ++ take held piece) → Consumes b c (take count part)
    → Consumes a c (first ++ take (held + count) (put_mid held m piece part))
read_joined a b c first piece part held count m h k p q =
    let front = take held piece in
    let size : length front ≡ held = length-take held piece ∙ omega arith in
    let tail = part ++ post_of held m piece in
    let whole : take (held + count) (front ++ tail) ≡ front ++ take count part =
    ap (λ n. take (n + count) (front ++ tail)) (sym size) ∙ take-append-add front tail count
    ∙ ap (λ l. front ++ l) (take-append-le count part (post_of held m piece) k) in
    let joined : (first ++ front) ++ take count part ≡ first ++ take (held + count) (front ++ tail) = append_assoc first front
    (take count part) ∙ ap (λ l. first ++ l) (sym whole) in
    subst (Consumes a c) joined (Consumes-trans a b c (first ++ front) (take count part) p q)

pub read_grows : (first piece part : List ℕ) (held count m : ℕ) → held ≤ length piece → count ≤ length part
    → length (first ++ take (held + count) (put_mid held m piece part)) ≡ length (first ++ take held piece) + count
read_grows first piece part held count m h k =
    let all = put_mid held m piece part in
    let parts : length all ≡ length (take held piece) + length (part ++ post_of held m piece) = length-append (take held piece)
    (part ++ post_of held m piece) in
    let inner = length-append part (post_of held m piece) in
    let front = length-take held piece in
    let one = length-take (held + count) all in
    let new = length-append first (take (held + count) all) in
    let old = length-append first (take held piece) in
    omega (arith, parts, inner, front, one, new, old, h, k)

pub read_nothing : (a b c : Option (List ℕ)) (text part : List ℕ) (count : ℕ) → count ≡ 0 → Consumes a b text → Consumes b c (take count part)
    → Consumes a c text
read_nothing a b c text part count none p q =
    subst (Consumes a c) (append-nil text) (Consumes-trans a b c text [] p (subst (λ n. Consumes b c (take n part)) none q))

pub falls : (old new count : ℕ) → new ≡ old + count → 0 < count → new ≤ 22_000_000_071 → 22_000_000_100 - new < 22_000_000_100 - old
falls old new count grown some short = omega (arith, grown, some, short)

pub held_short : (s : Stage) (es : List Entry) (piece : List ℕ) (held : ℕ) → IsReadyAt s es → held ≤ longest_line
    → length (before (place_of s es) ++ take held piece) ≤ 22_000_000_071
held_short s es piece held ready short =
    let lines = place_short s es ready in
    let size = length-append (before (place_of s es)) (take held piece) in
    let front = length-take held piece in
    omega (arith, lines, size, front, short)
