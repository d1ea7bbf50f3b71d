-- Options that hand a value on.
use Rattle.std.proofs.Common.{◌≡◌, ◌⊎◌, inl, inr, Bool, true, false, cond, refl}
use Rattle.std.specs.Prelude.{Option, Some, None, option_and_then}
use Rattle.std.specs.Option.{option_map}
use Rattle.std.proofs.lemmas.Option.{same_Some}

pub bind_some : {A B : Type 0} (o : Option A) (f : A → Option B) (y : B) → option_and_then f o ≡ Some y
    → (x : A) × (o ≡ Some x) × (f x ≡ Some y)
bind_some None f y h = absurd (cc)
bind_some (Some x) f y h = (x, refl, h)

pub map_some : {A B : Type 0} (o : Option A) (f : A → B) (y : B) → option_map f o ≡ Some y → (x : A) × (o ≡ Some x) × (f x ≡ y)
map_some None f y h = absurd (cc)
map_some (Some x) f y h = (x, refl, same_Some (f x) y h)

-- a value under a test
pub tested : {A : Type 0} (t : Bool) (o : Option A) (x : A) → cond t o None ≡ Some x → (t ≡ true) × (o ≡ Some x)
tested true o x h = (refl, h)
tested false o x h = absurd (cc)

-- a choice that has a value has it on one side
pub chosen : {A : Type 0} (t : Bool) (x y : Option A) (o : A) → cond t x y ≡ Some o → ((t ≡ true) × (x ≡ Some o)) ⊎ ((t ≡ false) × (y ≡ Some o))
chosen true x y o h = inl (refl, h)
chosen false x y o h = inr (refl, h)
