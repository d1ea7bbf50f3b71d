-- Why bytes are no certificate, each fault by itself. A field is judged as soon as its last byte is there.
use Rattle.std.specs.Prelude.{◌≡◌, ◌≢◌, ℕ, ◌+◌, ◌*◌, ◌<◌, ◌≤◌, ◌⊎◌, List, length, take, bit_and, slice_index}
use Rattle.cert_form.specs.declared.fault.FormError.{FormError}
use Rattle.cert_form.specs.declared.fault.FormError.TheVariants.{BadMagic, BadVersion, Truncated, BadNode, BadCount, Trailing, OutOfMemory}
use Rattle.cert_form.specs.Nodes.{PlainNode, on_chain}
use Rattle.cert_form.specs.Spelling.{magic, Spells}
use Rattle.cert_form.specs.Reading.{long_at, short_at, version_of, node_count, chain_count, own_count, own_end, entries_of, parent_at}
use Rattle.cert_form.specs.Reading.{ones, chain_place, node_end, place_of, offset_at}

-- a value with a tag, a word or an unused field that it may not have
pub data IsBadValue (bytes : List ℕ) (at : ℕ) : Type 0 where
  tag : at < length bytes → 2 < slice_index bytes at → IsBadValue bytes at
  word : at + 1 < length bytes → 15 < slice_index bytes (at + 1) → IsBadValue bytes at
  unused_word : at + 1 < length bytes → slice_index bytes at ≢ 2 → slice_index bytes (at + 1) ≢ 0 → IsBadValue bytes at
  unused_number : at + 6 ≤ length bytes → slice_index bytes at ≡ 0 → long_at bytes (at + 2) ≢ 0 → IsBadValue bytes at

-- a stated value, which may not be Unknown
pub data IsBadStated (bytes : List ℕ) (at : ℕ) : Type 0 where
  value : IsBadValue bytes at → IsBadStated bytes at
  unknown : at < length bytes → slice_index bytes at ≡ 0 → IsBadStated bytes at

-- a literal with a tag or a word that it may not have, or with a bit of the datum outside the mask
pub data IsBadLiteral (bytes : List ℕ) (at : ℕ) : Type 0 where
  no_tag : at < length bytes → slice_index bytes at ≡ 0 → IsBadLiteral bytes at
  tag : at < length bytes → 3 < slice_index bytes at → IsBadLiteral bytes at
  word : at + 1 < length bytes → 15 < slice_index bytes (at + 1) → IsBadLiteral bytes at
  datum : at + 10 ≤ length bytes → slice_index bytes at ≢ 1
      → bit_and (long_at bytes (at + 6)) (long_at bytes (at + 2)) ≢ long_at bytes (at + 6) → IsBadLiteral bytes at

-- a tail that begins at a place, of a node of this kind: a Split has two literals
pub data IsBadTail (bytes : List ℕ) (kind at : ℕ) : Type 0 where
  first : kind ≡ 1 → IsBadLiteral bytes at → IsBadTail bytes kind at
  second : kind ≡ 1 → IsBadLiteral bytes (at + 10) → IsBadTail bytes kind at

-- a node of form 1
pub data IsBadListed (bytes : List ℕ) (at : ℕ) : Type 0 where
  kind : at < length bytes → 3 < slice_index bytes at → IsBadListed bytes at
  a : IsBadValue bytes (at + 5) → IsBadListed bytes at
  x : IsBadValue bytes (at + 11) → IsBadListed bytes at
  own : (k : ℕ) → k < own_count bytes at → IsBadLiteral bytes (at + 17 + 10 * k) → IsBadListed bytes at
  follows : IsBadTail bytes (slice_index bytes at) (own_end bytes at) → IsBadListed bytes at

-- a node of form 2, 3 or 4: a chain is none, or an entry's with at most 512 entries
pub data IsBadChained (bytes : List ℕ) (at : ℕ) : Type 0 where
  kind : at < length bytes → 3 < slice_index bytes at → IsBadChained bytes at
  zero_byte : at + 1 < length bytes → slice_index bytes (at + 1) ≢ 0 → IsBadChained bytes at
  a : IsBadValue bytes (at + 4) → IsBadChained bytes at
  x : IsBadValue bytes (at + 10) → IsBadChained bytes at
  stated : (k : ℕ) → version_of bytes ≢ 2 → k < ones (short_at bytes (at + 16)) 16 → IsBadStated bytes (at + 18 + 6 * k)
      → IsBadChained bytes at
  no_chain : chain_place bytes at + 4 ≤ length bytes → chain_count bytes < long_at bytes (chain_place bytes at)
      → IsBadChained bytes at
  long_chain : chain_place bytes at + 4 ≤ length bytes → 512 < length (on_chain (entries_of bytes) (long_at bytes (chain_place bytes at)))
      → IsBadChained bytes at
  follows : IsBadTail bytes (slice_index bytes at) (chain_place bytes at + 4) → IsBadChained bytes at

-- what an entry of form 4 states has this tag
pub record HasTag (bytes : List ℕ) (at tag : ℕ) : Type 0 where
  pub there : at < length bytes
  pub form : version_of bytes ≡ 4
  pub is : slice_index bytes at ≡ tag

-- the tag 4 says that a rule is out, the tag 5 that a condition of a rule is met
abbrev pub SaysOut : List ℕ → ℕ → Type 0
SaysOut bytes at = HasTag bytes at 4

abbrev pub SaysMet : List ℕ → ℕ → Type 0
SaysMet bytes at = HasTag bytes at 5

-- what an entry states is no literal, or an unused field of it is not 0
pub data IsBadClaim (bytes : List ℕ) (at : ℕ) : Type 0 where
  literal : (SaysOut bytes at → ⊥) → (SaysMet bytes at → ⊥) → IsBadLiteral bytes at → IsBadClaim bytes at
  unused_word : SaysOut bytes at ⊎ SaysMet bytes at → at + 1 < length bytes → slice_index bytes (at + 1) ≢ 0 → IsBadClaim bytes at
  unused_number : SaysOut bytes at → at + 10 ≤ length bytes → long_at bytes (at + 6) ≢ 0 → IsBadClaim bytes at

-- an entry whose parent is no earlier one, or that states nothing that it may
pub data IsBadEntry (bytes : List ℕ) (j : ℕ) : Type 0 where
  parent : 16 + 14 * j + 4 ≤ length bytes → j < parent_at bytes j → IsBadEntry bytes j
  claim : IsBadClaim bytes (16 + 14 * j + 4) → IsBadEntry bytes j

-- an entry or a node is none, or a node does not stand where the table says
pub data HasBadPart (bytes : List ℕ) : Type 0 where
  entry : (j : ℕ) → 16 ≤ length bytes → version_of bytes ≢ 1 → j < chain_count bytes → IsBadEntry bytes j → HasBadPart bytes
  offset : (i : ℕ) → 16 + 14 * chain_count bytes + 4 * i + 4 ≤ length bytes → version_of bytes ≢ 1 → i < node_count bytes
      → offset_at bytes i ≢ place_of bytes i → HasBadPart bytes
  listed : (i : ℕ) → version_of bytes ≡ 1 → i < node_count bytes → IsBadListed bytes (place_of bytes i) → HasBadPart bytes
  chained : (i : ℕ) → 16 ≤ length bytes → version_of bytes ≢ 1 → i < node_count bytes → IsBadChained bytes (place_of bytes i)
      → HasBadPart bytes

-- a count that may not be, or too many bytes
pub data HasBadCount (bytes : List ℕ) : Type 0 where
  size : 4194304 < length bytes → HasBadCount bytes
  no_nodes : 12 ≤ length bytes → node_count bytes ≡ 0 → HasBadCount bytes
  nodes : 12 ≤ length bytes → 16384 < node_count bytes → HasBadCount bytes
  entries : 16 ≤ length bytes → version_of bytes ≢ 1 → 65536 < chain_count bytes → HasBadCount bytes
  own_literals : (i : ℕ) → version_of bytes ≡ 1 → i < node_count bytes → place_of bytes i + 5 ≤ length bytes
      → 512 < own_count bytes (place_of bytes i) → HasBadCount bytes

-- the version is there, and is none of the four
pub record IsOtherVersion (bytes : List ℕ) : Type 0 where
  pub there : 8 ≤ length bytes
  pub not_1 : version_of bytes ≢ 1
  pub not_2 : version_of bytes ≢ 2
  pub not_3 : version_of bytes ≢ 3
  pub not_4 : version_of bytes ≢ 4

-- the bytes end within the head, or before a node does
abbrev pub EndsEarly : List ℕ → Type 0
EndsEarly bytes = (length bytes < 12) ⊎ ((i : ℕ) × (i < node_count bytes) × (length bytes < node_end bytes (place_of bytes i)))

-- the fault stands in the bytes; memory is asked for in form 1 alone
abbrev pub Faulty : FormError → List ℕ → Type 0
Faulty BadMagic bytes = take 4 bytes ≢ magic
Faulty BadVersion bytes = IsOtherVersion bytes
Faulty Truncated bytes = EndsEarly bytes
Faulty BadNode bytes = HasBadPart bytes
Faulty BadCount bytes = HasBadCount bytes
Faulty Trailing bytes = place_of bytes (node_count bytes) < length bytes
Faulty OutOfMemory bytes = version_of bytes ≡ 1

-- The faults that are looked for before the version. With a version that is none of the four, no other fault is
-- reported but the version itself. So no fault is reported of a field that a file does not have.
abbrev pub IsToldFirst : FormError → List ℕ → Type 0
IsToldFirst BadMagic bytes = Unit {0}
IsToldFirst BadVersion bytes = Unit {0}
IsToldFirst BadCount bytes = 4194304 < length bytes
IsToldFirst e bytes = ⊥

-- no certificate has a fault of its bytes
abbrev pub NoneSpelledIsFaulty : Type 0
NoneSpelledIsFaulty = (bytes : List ℕ) (ns : List PlainNode) (e : FormError) → Spells bytes ns → e ≢ OutOfMemory → Faulty e bytes → ⊥

-- bytes spell one list of nodes at most
abbrev pub OneSpelling : Type 0
OneSpelling = (bytes : List ℕ) (ns ms : List PlainNode) → Spells bytes ns → Spells bytes ms → ns ≡ ms
