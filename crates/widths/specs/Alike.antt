-- What a kernel sees of a call record, and profiles that say nothing of what it does not see.
use Rattle.std.specs.Prelude.{◌≡◌, ◌↔◌, ℕ, ◌%◌, ◌^◌, ◌<◌, List}
use Rattle.call_record.specs.Words.{IsRecord, word, argument}
use Rattle.widths.specs.Reads.{read_bits}
use Rattle.profile.specs.Policy.{Policy, Says}

-- what the kernel reads of argument j of a record
abbrev pub read_of : List ℕ → ℕ → ℕ
read_of r j = argument r j % 2 ^ read_bits (word r 1) (word r 0) j

-- two records are alike to the kernel: they are one call, and each argument agrees in the bits that are read
pub record Alike (r s : List ℕ) : Type 0 where
  pub machine : word r 1 ≡ word s 1
  pub number : word r 0 ≡ word s 0
  pub arguments : (j : ℕ) → j < 6 → read_of r j ≡ read_of s j

-- s is the record r with the bits at 0 that are not read
pub record IsCleared (r s : List ℕ) : Type 0 where
  pub machine : word s 1 ≡ word r 1
  pub number : word s 0 ≡ word r 0
  pub arguments : (j : ℕ) → j < 6 → argument s j ≡ read_of r j

-- The profile speaks of what is read alone: it says one verdict of two records that are alike.
abbrev pub SpeaksOfRead : Policy → Type 0
SpeaksOfRead p = (r s : List ℕ) → IsRecord r → IsRecord s → Alike r s → (v : ℕ) → Says p r v ↔ Says p s v

-- q is the narrowed profile of p. It says of a record what p says of it with the bits at 0 that are not read
abbrev pub SaysOfCleared : Policy → Policy → Type 0
SaysOfCleared p q = (r s : List ℕ) → IsRecord r → IsRecord s → IsCleared r s → (v : ℕ) → Says q r v ↔ Says p s v

pub record IsNarrowed (p q : Policy) : Type 0 where
  pub says : SaysOfCleared p q
  pub alone : SpeaksOfRead q

-- a record with the bits at 0 that are not read is alike to it
abbrev pub ClearedIsAlike : Type 0
ClearedIsAlike = (r s : List ℕ) → IsCleared r s → Alike r s
