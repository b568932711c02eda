-- Lines while they are read, byte by byte.
use Rattle.std.proofs.Common.{◌≡◌, ◌∙◌, ℕ, suc, ◌+◌, ◌==◌, arith, List, [], ◌∷◌, ◌++◌, sym, ap, append_assoc, Option, Some, None, false}
use Rattle.std.specs.Prelude.{drop, ⊤}
use Rattle.std.specs.Io.BufRead.{drop_through}
use Rattle.std.specs.Io.KnownBytes.{Consumes}
use Rattle.std.proofs.lemmas.Bool.{cond-false}
use Rattle.xk_ask.specs.declared.line.Line.{Line}
use Rattle.xk_ask.specs.Answers.{lines_from, lines_of, named}
use Rattle.xk_ask.specs.Reading.{named_on}
use Rattle.xk_ask.specs.Asking.{EndAlike, Leaves}

-- of the bytes that were known at first these are left behind the bytes of an unfinished line
abbrev AreLeft : List ℕ → Option (List ℕ) → Option (List ℕ) → Type 0
AreLeft before None now = ⊤
AreLeft before (Some text) None = ⊥
AreLeft before (Some text) (Some rest) = lines_of text ≡ lines_from before rest

-- so much of a line was read
pub record IsReading (first now : Option (List ℕ)) (l : Line) : Type 0 where
  pub before : List ℕ
  pub named_is : (bs : List ℕ) → named_on l bs ≡ named (before ++ bs)
  pub left : AreLeft before first now

left_more : (before : List ℕ) (b : ℕ) (first now next : Option (List ℕ)) → (b == 10) ≡ false → AreLeft before first now → Consumes now next (b ∷ [])
    → AreLeft (before ++ b ∷ []) first next
left_more before b None now next other left eaten = tt
left_more before b (Some text) None next other left eaten = absurd left
left_more before b (Some text) (Some rest) None other left eaten = absurd eaten
left_more before b (Some text) (Some rest) (Some more) other left eaten =
    left ∙ ap (lines_from before) eaten ∙ cond-false (b == 10) _ _ other

-- one byte more of it
pub reading_more : (first now next : Option (List ℕ)) (l k : Line) (b : ℕ) → (b == 10) ≡ false → IsReading first now l → Consumes now next (b ∷ [])
    → ((bs : List ℕ) → named_on k bs ≡ named_on l (b ∷ bs)) → IsReading first next k
reading_more first now next l k b other r eaten grown = record {
  before = r.before ++ b ∷ [];
  named_is = λ bs. grown bs ∙ r.named_is (b ∷ bs) ∙ ap named (sym (append_assoc r.before (b ∷ []) bs));
  left = left_more r.before b first now next other r.left eaten;
}

-- ---- what is left

-- bytes of one line were read: what stands behind it is what stood behind it
abbrev IsInLine : Option (List ℕ) → Option (List ℕ) → Type 0
IsInLine None now = ⊤
IsInLine (Some text) None = ⊥
IsInLine (Some text) (Some rest) = drop_through 10 rest ≡ drop_through 10 text

-- so much of a line was read, where so many bytes might be read at first, and may be now
abbrev pub IsPassing : ℕ → Option (List ℕ) → ℕ → Option (List ℕ) → Type 0
IsPassing n first k now = IsInLine first now × EndAlike n first k now

alike_more : (n k j b : ℕ) (first now next : Option (List ℕ)) → k ≡ j + 1 → EndAlike n first k now → Consumes now next (b ∷ []) → EndAlike n first j next
alike_more n k j b None now next fewer alike eaten = tt
alike_more n k j b (Some text) None next fewer alike eaten = absurd alike
alike_more n k j b (Some text) (Some rest) None fewer alike eaten = absurd eaten
alike_more n k j b (Some text) (Some rest) (Some more) fewer alike eaten =
    let one : k ≡ suc j = omega (arith, fewer) in
    sym (ap (λ z. drop z (b ∷ more)) one) ∙ sym (ap (drop k) eaten) ∙ alike

in_line_more : (b : ℕ) (first now next : Option (List ℕ)) → (b == 10) ≡ false → IsInLine first now → Consumes now next (b ∷ []) → IsInLine first next
in_line_more b None now next other here eaten = tt
in_line_more b (Some text) None next other here eaten = absurd here
in_line_more b (Some text) (Some rest) None other here eaten = absurd eaten
in_line_more b (Some text) (Some rest) (Some more) other here eaten =
    sym (cond-false (b == 10) _ _ other) ∙ sym (ap (drop_through 10) eaten) ∙ here

pub passing_more : (n k j b : ℕ) (first now next : Option (List ℕ)) → (b == 10) ≡ false → k ≡ j + 1 → IsPassing n first k now → Consumes now next (b ∷ [])
    → IsPassing n first j next
passing_more n k j b first now next other fewer p eaten =
    (in_line_more b first now next other p.0 eaten, alike_more n k j b first now next fewer p.1 eaten)

-- the input ended before
pub passing_stops : (n k : ℕ) (first now next : Option (List ℕ)) → EndAlike n first k now → Leaves (drop k) now next → Leaves (drop n) first next
passing_stops n k None now next alike left = tt
passing_stops n k (Some text) None next alike left = absurd alike
passing_stops n k (Some text) (Some rest) None alike left = absurd left
passing_stops n k (Some text) (Some rest) (Some more) alike left = left ∙ alike
