-- What a call that writes leaves.
use Rattle.std.specs.Prelude.{ℕ, ◌≡◌, ◌<◌, Bool, true, ◌==◌, List, length, take, Option, Result, Ok, Err}
use Rattle.std.specs.Io.KnownBytes.{Appends}
use Rattle.texts.specs.Failures.{Failures, HasFailed, NoneFailed}
use Rattle.texts.specs.declared.streams.fault.WriteFault.{WriteFault}
use Rattle.texts.specs.declared.streams.fault.WriteFault.TheVariants.{Write, OutOfMemory}

-- a write failed: an error, or no byte taken
abbrev pub is_failure : {E : Type 0} → Result ℕ E → Bool
is_failure (Ok n) = n == 0
is_failure (Err e) = true

-- the sink took the first `out` of the bytes, which are not all of them, and failed: once, and was not asked again
abbrev pub StopsAt : {S : Type 0} → (S → Option (List ℕ)) → (S → Failures) → S → S → List ℕ → ℕ → Type 0
StopsAt held failures old new bytes out =
    Appends (held old) (held new) (take out bytes) × (out < length bytes) × HasFailed (failures old) (failures new)

-- these bytes were written, and no call failed
abbrev pub Wrote : {S : Type 0} → (S → Option (List ℕ)) → (S → Failures) → S → S → List ℕ → Type 0
Wrote held failures old new bytes = Appends (held old) (held new) bytes × NoneFailed (failures old) (failures new)

-- Ok: these bytes were written, and no call failed. A fault of writing tells where the sink stopped.
abbrev pub Writes : {S T : Type 0} → (S → Option (List ℕ)) → (S → Failures) → S → S → List ℕ → Result T WriteFault → Type 0
Writes held failures old new bytes (Ok x) = Wrote held failures old new bytes
Writes held failures old new bytes (Err (Write out)) = StopsAt held failures old new bytes out
Writes held failures old new bytes (Err OutOfMemory) = ⊥

-- The same of bytes that have to be made first: without memory for them the sink was not asked.
abbrev pub WritesMade : {S T : Type 0} → (S → Option (List ℕ)) → (S → Failures) → S → S → List ℕ → Result T WriteFault → Type 0
WritesMade held failures old new bytes (Ok x) = Wrote held failures old new bytes
WritesMade held failures old new bytes (Err (Write out)) = StopsAt held failures old new bytes out
WritesMade held failures old new bytes (Err OutOfMemory) = new ≡ old
