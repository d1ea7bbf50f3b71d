-- What a reader answers, beside what reading gives.
use Rattle.std.specs.Prelude.{◌≡◌, Result, Ok, Err, IsSomeAnd, IfSome}
use Rattle.profile_json.specs.declared.fault.ProfileError.{ProfileError}
use Rattle.profile_json.specs.Fault.{Fault, fault_of}

-- What a function returned, seen by view, is what reading gives.
abbrev pub Gives : {X Y : Type 0} → (X → Y) → Result X ProfileError → Result Y Fault → Type 0
Gives view (Ok x) reading = reading ≡ Ok (view x)
Gives view (Err e) reading = IsSomeAnd (fault_of e) (λ f. reading ≡ Err f)

-- The same of a function that takes memory, unless memory ran out.
abbrev pub GivesWithMemory : {X Y : Type 0} → (X → Y) → Result X ProfileError → Result Y Fault → Type 0
GivesWithMemory view (Ok x) reading = reading ≡ Ok (view x)
GivesWithMemory view (Err e) reading = IfSome (fault_of e) (λ f. reading ≡ Err f)

infixl 10 ◌>>=◌
abbrev pub ◌>>=◌ : {A B : Type 0} → Result A Fault → (A → Result B Fault) → Result B Fault
(Ok x) >>= f = f x
(Err e) >>= f = Err e
