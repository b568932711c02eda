-- Small texts, and what they are.
use Rattle.std.proofs.Common.{◌≡◌, ℕ, List, [], ◌∷◌, refl, inl, inr, arith, lit<, lit≤}
use Rattle.std.specs.Prelude.{codes, replicate}
use Rattle.std.specs.Fmt.{digits}
use Rattle.std.proofs.lemmas.Fmt.{decimal_injective}
use Rattle.xk_types.specs.declared.world.Entry.{Entry}
use Rattle.xk_types.specs.Logs.{one_step_of}
use Rattle.xk_log.specs.LogText.{entry_line, end_line, log_text, FitsEntry, IsLog}
use Rattle.xk_log.specs.Verdicts.{Start, Within, Behind, Fits, Misfit, TooLong, Surplus, Whole, Wrong, Cut, Says}
use Rattle.xk_log.proofs.NumberLemmas.{wide}
use Rattle.xk_log.proofs.LineReaderLemmas.{no_steps, parts_of, leading_zero}

-- ---- logs

one_step_fits : FitsEntry (one_step_of 0)
one_step_fits = record { act = lit< tt; steps = lit< tt }

no_entries : IsLog []
no_entries = record { short = lit≤ tt; each = tt }

one_entry : IsLog (one_step_of 0 ∷ [])
one_entry = record { short = lit≤ tt; each = (one_step_fits, tt) }

-- a program that only ends
one_ret : Says (Whole (one_step_of 0 ∷ [])) (codes "x10log 1\n0 1\nend 1\n")
unfolding digits
one_ret = (one_entry, refl)

-- two activities in step, the first one that can taking each step
two_in_step : log_text (one_step_of 0 ∷ one_step_of 0 ∷ one_step_of 0 ∷ one_step_of 1 ∷ one_step_of 0 ∷ one_step_of 0 ∷ one_step_of 0 ∷ one_step_of 0
    ∷ one_step_of 1 ∷ one_step_of 1 ∷ one_step_of 1 ∷ one_step_of 1 ∷ [])
    ≡ codes "x10log 1\n0 1\n0 1\n0 1\n1 1\n0 1\n0 1\n0 1\n0 1\n1 1\n1 1\n1 1\n1 1\nend 12\n"
unfolding digits
two_in_step = refl

-- ---- texts that end too early

without_the_last_line : Says Cut (codes "x10log 1\n0 1\n")
unfolding digits
without_the_last_line = record {
  place = Within (one_step_of 0 ∷ []);
  rest = [];
  split = refl;
  fits = one_entry;
  open_yet = tt;
  one_line = refl;
  short = lit≤ tt;
}

no_bytes : Says Cut []
no_bytes = record { place = Start; rest = []; split = refl; fits = tt; open_yet = tt; one_line = refl; short = lit≤ tt }

-- what isn't ended isn't looked at
digits_of_one : Says Cut (replicate 21 49)
digits_of_one = record { place = Start; rest = replicate 21 49; split = refl; fits = tt; open_yet = tt; one_line = refl; short = lit≤ tt }

-- ---- texts with a wrong line

-- no line is as long as that
one_digit_more : Says (Wrong 1) (replicate 22 49)
one_digit_more = record { place = Start; rest = replicate 22 49; split = refl; fits = tt; number = refl; wrong = TooLong (lit< tt) refl }

-- the second line is that of no entry, and isn't the last
second : (line more : List ℕ) → ((e : Entry) → FitsEntry e → ¬ (line ≡ entry_line e)) → ¬ (line ≡ end_line 0) → Fits (Within []) line → ⊥
second line more none other (inl h) = none h.entry h.fits h.spelled
second line more none other (inr h) = other h

no_end : (d : ℕ) (line : List ℕ) → 48 ≡ d → d ∷ line ≡ end_line 0 → ⊥
no_end d line is h = let same : d ≡ 101 = cc in omega (arith, is, same)

entry_of_no_steps : Says (Wrong 2) (codes "x10log 1\n0 0\nend 1\n")
unfolding digits
entry_of_no_steps = record {
  place = Within [];
  rest = codes "0 0\nend 1\n";
  split = refl;
  fits = no_entries;
  number = refl;
  wrong = Misfit (codes "0 0") (codes "end 1\n") refl refl
      (second (codes "0 0") [] (λ e fits is. no_steps (codes "0 0") (codes "0") (codes "0") e 0 refl refl refl refl fits is) (no_end 48
      (codes " 0") refl));
}

needless_zero : Says (Wrong 2) (codes "x10log 1\n0 01\nend 1\n")
needless_zero = record {
  place = Within [];
  rest = codes "0 01\nend 1\n";
  split = refl;
  fits = no_entries;
  number = refl;
  wrong = Misfit (codes "0 01") (codes "end 1\n") refl refl
      (second (codes "0 01") []
      (λ e fits is. leading_zero (codes "01") e.steps refl (lit< tt) fits.steps (parts_of (codes "0 01") (codes "0")
      (codes "01") e refl refl fits is).1)
      (no_end 48 (codes " 01") refl));
}

too_great : Says (Wrong 2) (codes "x10log 1\n0 4294967296\nend 1\n")
unfolding digits
too_great = record {
  place = Within [];
  rest = codes "0 4294967296\nend 1\n";
  split = refl;
  fits = no_entries;
  number = refl;
  wrong = Misfit (codes "0 4294967296") (codes "end 1\n") refl refl
      (second (codes "0 4294967296") []
      (λ e fits is.
      let same : 4294967296 ≡ e.steps = decimal_injective 4294967296 e.steps (lit< tt) (wide e.steps fits.steps)
      (parts_of (codes "0 4294967296") (codes "0") (codes "4294967296") e refl refl fits is).1 in
      let small = fits.steps in omega (arith, same, small))
      (no_end 48 (codes " 4294967296") refl));
}

one_byte_behind : Says (Wrong 4) (codes "x10log 1\n0 1\nend 1\n0")
unfolding digits
one_byte_behind = record {
  place = Behind (one_step_of 0 ∷ []);
  rest = codes "0";
  split = refl;
  fits = one_entry;
  number = refl;
  wrong = Surplus (one_step_of 0 ∷ []) refl (lit< tt);
}
