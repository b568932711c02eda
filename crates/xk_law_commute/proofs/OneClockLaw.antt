-- What two activities do to one clock commutes: the law.
use Rattle.std.proofs.Common.{◌≡◌, ℕ, ◌<◌, Bool, false, length, refl, inr, ◌∙◌, sym, ap}
use Rattle.xk_types.specs.declared.world.Standing.{Standing}
use Rattle.xk_types.specs.World.{Clock, standing_of}
use Rattle.xk_types.specs.Step.{is_ready, moved_on, joined_on}
use Rattle.xk_law_commute.specs.PlainWorlds.{plain_clock}
use Rattle.xk_law_commute.specs.ClockChanges.{Change, Stays, Resumes, Passes, Drops, changed, IsPossible, after_change, after_start}
use Rattle.xk_law_commute.proofs.OneClockLemmas.{settle, change_of, join_of, GoesBeside, changes, joins}
use Rattle.xk_law_commute.proofs.ClockLemmas.{rests_beside, resumed_beside, passed_beside, settled_standings, unready_still, plainly, moved_twice}

change_beside : (f : Change) (s : Standing) → IsPossible f s → GoesBeside (changed f) s
change_beside Stays s h = rests_beside s
change_beside Resumes s h = resumed_beside s
change_beside Passes s h = passed_beside s (h refl)
change_beside Drops s h = λ g. inr (refl, refl)

pub changes_commute : (c : Clock) → is_ready c ≡ false → (a b : ℕ) → (b ≡ a → ⊥) → (f g : Change) → IsPossible f (standing_of c a) → IsPossible g (standing_of c b) → (n o p q : ℕ)
    → plain_clock (after_change n b g (after_change o a f c)) ≡ plain_clock (after_change p a f (after_change q b g c))
changes_commute c unready a b differs f g first second n o p q =
    plainly (after_change n b g (after_change o a f c)) (after_change p a f (after_change q b g c))
    (moved_twice n o a b (changed f) (changed g) c
    ∙ changes a b (changed f) (changed g) c.standings differs (change_beside f (standing_of c a) first) (change_beside g (standing_of c b) second) (unready_still c unready)
    ∙ sym (moved_twice p q b a (changed g) (changed f) c))

pub start_commutes : (c : Clock) → is_ready c ≡ false → (a b : ℕ) → (b ≡ a → ⊥) → a < length c.standings → (f : Change) (given : Bool) (n o p q : ℕ)
    → plain_clock (after_start n b given (after_change o a f c)) ≡ plain_clock (after_change p a f (after_start q b given c))
start_commutes c unready a b differs inside f given n o p q =
    plainly (after_start n b given (after_change o a f c)) (after_change p a f (after_start q b given c))
    (settled_standings n (joined_on b given (after_change o a f c)) ∙ ap (λ zs. settle (join_of b given zs)) (settled_standings o (moved_on a (changed f) c))
    ∙ joins a b (changed f) given c.standings differs inside (unready_still c unready)
    ∙ sym (settled_standings p (moved_on a (changed f) (after_start q b given c)) ∙ ap (λ zs. settle (change_of a (changed f) zs)) (settled_standings q (joined_on b given c))))
