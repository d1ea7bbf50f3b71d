-- What holds of the value of a result.
use Rattle.std.proofs.Common.{◌≡◌, ◌∙◌}
use Rattle.std.specs.Prelude.{IfOk, Result, Ok, Err}

-- what follows of each value
pub if_ok_weaker : {T E : Type 0} (P Q : T → Type 0) → ((x : T) → P x → Q x) → (r : Result T E) → IfOk r P → IfOk r Q
if_ok_weaker P Q h (Ok x) p = h x p
if_ok_weaker P Q h (Err e) p = tt

-- what follows of two facts of each value
pub if_ok_both : {T E : Type 0} (P Q R : T → Type 0) → ((x : T) → P x → Q x → R x) → (r : Result T E) → IfOk r P → IfOk r Q → IfOk r R
if_ok_both P Q R h (Ok x) p q = h x p q
if_ok_both P Q R h (Err e) p q = p

-- what holds of each value
pub if_ok_always : {T E : Type 0} (P : T → Type 0) → ((x : T) → P x) → (r : Result T E) → IfOk r P
if_ok_always P h (Ok x) = h x
if_ok_always P h (Err e) = tt

-- what equals a value equals what that equals
pub if_ok_equal : {T E A : Type 0} (x y z : A) → y ≡ z → (r : Result T E) → IfOk r (λ _. x ≡ y) → IfOk r (λ _. x ≡ z)
if_ok_equal x y z e (Ok v) h = h ∙ e
if_ok_equal x y z e (Err v) h = tt
