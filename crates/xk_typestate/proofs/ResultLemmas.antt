-- What holds of a success, from several facts of it.
use Rattle.std.proofs.Common.{◌≡◌, Result, Ok, Err, IfOk, Option, Some, None, MatchOption, refl}

pub ok_by_two : {X E : Type 0} (r : Result X E) (A B Q : X → Type 0) → IfOk r A → IfOk r B → ((x : X) → A x → B x → Q x) → IfOk r Q
ok_by_two (Ok x) A B Q a b f = f x a b
ok_by_two (Err e) A B Q a b f = tt

pub ok_by_three : {X E : Type 0} (r : Result X E) (A B C Q : X → Type 0) → IfOk r A → IfOk r B → IfOk r C → ((x : X) → A x → B x → C x → Q x) → IfOk r Q
ok_by_three (Ok x) A B C Q a b c f = f x a b c
ok_by_three (Err e) A B C Q a b c f = tt

pub ok_then : {X E : Type 0} (r : Result X E) (A Q : X → Type 0) → IfOk r A → ((x : X) → A x → Q x) → IfOk r Q
ok_then (Ok x) A Q a f = f x a
ok_then (Err e) A Q a f = tt

-- what holds of an option that isn't there
pub none_left : {X : Type 0} (o : Option X) (P : Type 0) (Q : X → Type 0) → ((x : X) → o ≡ Some x → ⊥) → MatchOption o P Q → P
none_left None P Q never h = h
none_left (Some x) P Q never h = absurd (never x refl)
