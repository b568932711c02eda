-- The lines of a list in parts.
use Rattle.std.proofs.Common.{◌≡◌, ℕ, ◌+◌, ◌-◌, ◌≤◌, List, ◌++◌, take, drop, ap, sym, ◌∙◌, arith}
use Rattle.std.specs.Prelude.{flat_map}
use Rattle.std.proofs.Math.Seq.{take-add}
use Rattle.std.proofs.lemmas.List.{take-append-drop}
use Rattle.std.proofs.lemmas.Grind.{flat_map-append}

module _ {A : Type 0} (line : A → List ℕ) where
  -- the lines of the first ones, and those of some behind them
  pub lines_then : (d n : ℕ) (xs : List A) → d ≤ n
      → flat_map line (take d xs) ++ flat_map line (take (n - d) (drop d xs)) ≡ flat_map line (take n xs)
  lines_then d n xs h =
      let whole : d + (n - d) ≡ n = omega arith in
      sym (flat_map-append line (take d xs) (take (n - d) (drop d xs)))
      ∙ ap (flat_map line) (sym (take-add d (n - d) xs)) ∙ ap (λ k. flat_map line (take k xs)) whole

  -- the lines so far, and those that are left
  pub lines_at : (n : ℕ) (xs : List A) → flat_map line (take n xs) ++ flat_map line (drop n xs) ≡ flat_map line xs
  lines_at n xs = sym (flat_map-append line (take n xs) (drop n xs)) ∙ ap (flat_map line) (take-append-drop n xs)
