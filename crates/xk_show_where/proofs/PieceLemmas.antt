-- The piece of a number.
use Rattle.std.proofs.Common.{◌≡◌, ◌∙◌, ℕ, zero, suc, ◌<◌, inl, inr, List, [], ◌∷◌, length, refl, sym, ap, arith, length-append}
use Rattle.std.specs.Prelude.{◌⊎◌, slice_index_or}
use Rattle.std.proofs.lemmas.List.{get_or_append_left, get_or_push}
use Rattle.xk_show_where.specs.Pieces.{pieces_below}

length-pieces : (told : ℕ → List ℕ) (n : ℕ) → length (pieces_below told n) ≡ n
length-pieces told zero = refl
length-pieces told (suc n) = (let e = length-pieces told n in omega (arith, length-append (pieces_below told n) (told n ∷ [])))

pub piece_there : (told : ℕ → List ℕ) (n c : ℕ) → c < n → slice_index_or (pieces_below told n) c [] ≡ told c
piece_there told zero c lt = absurd (omega arith)
piece_there told (suc n) c lt = of (split c n lt) (λ k. piece_there told n c k)
  where
    split : (a b : ℕ) → a < suc b → (a < b) ⊎ (a ≡ b)
    split zero zero h = inr refl
    split zero (suc b) h = inl (omega arith)
    split (suc a) zero h = absurd (omega arith)
    split (suc a) (suc b) h = next (split a b (omega arith))
      where
        next : (a < b) ⊎ (a ≡ b) → (suc a < suc b) ⊎ (suc a ≡ suc b)
        next (inl k) = inl (omega arith)
        next (inr k) = inr (ap suc k)

    of : (c < n) ⊎ (c ≡ n) → (c < n → slice_index_or (pieces_below told n) c [] ≡ told c) → slice_index_or (pieces_below told (suc n)) c [] ≡ told c
    of (inl k) before =
        get_or_append_left (pieces_below told n) (told n ∷ []) [] c (let e = length-pieces told n in omega arith) ∙ before k
    of (inr k) before = get_or_push (pieces_below told n) (told n) [] c (length-pieces told n ∙ sym k) ∙ ap told (sym k)
