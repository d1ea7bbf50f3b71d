-- What was judged sound, and what a judge of one part may answer.
use Rattle.std.specs.Prelude.{◌≡◌, false, ◌≢◌, ℕ, zero, suc, ◌+◌, ◌*◌, ◌/◌, ◌==◌, ◌<◌, ◌≤◌, if◌then◌else◌, List, [], ◌∷◌, ◌++◌, All, length}
use Rattle.std.specs.Prelude.{take, drop, slice_index}
use Rattle.std.specs.List.{flat_map, AllByRecursion}
use Rattle.byteorder.specs.Endian.{little_bytes}
use Rattle.cert_state.specs.Literals.{IsLit, IsValue}
use Rattle.cert_form.specs.declared.fault.FormError.{FormError}
use Rattle.cert_form.specs.declared.fault.FormError.TheVariants.{BadMagic, BadVersion, Truncated, BadNode, BadCount, Trailing, OutOfMemory}
use Rattle.cert_form.specs.Faults.{IsBadStated, IsBadListed}
use Rattle.cert_form.specs.Nodes.{PlainNode, on_chain}
use Rattle.cert_form.specs.Spelling.{magic, value, literal, claim, tail, kind_number, entry, chain_node, node, scratch}
use Rattle.cert_form.specs.Spelling.{if_stated, stated_bits}
use Rattle.cert_form.specs.Spelling.{nothing_stated, IsKind, IsClaim, IsEntry, IsChainNode, IsNode}
use Rattle.cert_form.specs.Reading.{short_at, long_at, value_at, literal_at, claim_at, kind_at, tail_length, version_of}
use Rattle.cert_form.specs.Reading.{node_count, chain_count}
use Rattle.cert_form.specs.Reading.{entry_at, entries_of, scratch_from, scratch_at, ones, chain_place, chain_node_at, node_end, place_of}
use Rattle.cert_form.specs.Reading.{offset_at, own_count, listed_node}

-- these bytes stand from a place to another
pub record Stands (bytes : List ℕ) (at : ℕ) (part : List ℕ) (end : ℕ) : Type 0 where
  pub is : drop at bytes ≡ part ++ drop end bytes
  pub ends : end ≡ at + length part
  pub room : end ≤ length bytes

-- the bytes end before a place, or a part of them is bad
abbrev pub Fails : FormError → List ℕ → ℕ → Type 0 → Type 0
Fails Truncated bytes end Bad = length bytes < end
Fails BadNode bytes end Bad = Bad
Fails BadMagic bytes end Bad = ⊥
Fails BadVersion bytes end Bad = ⊥
Fails BadCount bytes end Bad = ⊥
Fails Trailing bytes end Bad = ⊥
Fails OutOfMemory bytes end Bad = ⊥

pub record IsValueThere (bytes : List ℕ) (at : ℕ) : Type 0 where
  pub stands : Stands bytes at (value (value_at bytes at)) (at + 6)
  pub good : IsValue (value_at bytes at)

pub record IsLiteralThere (bytes : List ℕ) (at : ℕ) : Type 0 where
  pub stands : Stands bytes at (literal (literal_at bytes at)) (at + 10)
  pub good : IsLit (literal_at bytes at)

pub record IsClaimThere (bytes : List ℕ) (at : ℕ) : Type 0 where
  pub stands : Stands bytes at (claim (claim_at bytes at)) (at + 10)
  pub good : IsClaim (version_of bytes) (claim_at bytes at)

-- the tail of a node of this kind
pub record IsTailThere (bytes : List ℕ) (tag at : ℕ) : Type 0 where
  pub stands : Stands bytes at (tail (kind_at bytes tag at)) (at + tail_length tag)
  pub good : IsKind (kind_at bytes tag at)
  pub same : kind_number (kind_at bytes tag at) ≡ tag

pub record IsStatedThere (bytes : List ℕ) (at : ℕ) : Type 0 where
  pub value : IsValueThere bytes at
  pub known : slice_index bytes at ≢ 0

-- one of the values that so many bits state is bad
abbrev pub HasBadStated : List ℕ → ℕ → ℕ → Type 0
HasBadStated bytes from bits = (k : ℕ) × (k < ones bits 16) × IsBadStated bytes (from + 6 * k)

-- the stated scratch words of a node of form 3 or 4, in bits from the lowest on, and their values
abbrev pub bits_above : ℕ → ℕ → ℕ
bits_above bits zero = bits
bits_above bits (suc n) = bits_above (bits / 2) n

pub record AreStatedThere (bytes : List ℕ) (at bits n : ℕ) : Type 0 where
  pub stands : Stands bytes at (flat_map if_stated (scratch_from bytes at bits n)) (at + 6 * ones bits n)
  pub same : bits_above bits n ≡ 0 → stated_bits (scratch_from bytes at bits n) ≡ bits
  pub good : AllByRecursion IsValue (scratch_from bytes at bits n)

-- the parts of a node of form 2, 3 or 4 in their order: up to the values, the scratch words, the chain
pub record IsFrontThere (bytes : List ℕ) (at : ℕ) : Type 0 where
  pub kind : slice_index bytes at ≤ 3
  pub stands : Stands bytes at (slice_index bytes at ∷ 0 ∷ little_bytes 2 (short_at bytes (at + 2)) ++ value
      (value_at bytes (at + 4)) ++ value (value_at bytes (at + 10))) (at + 16)
  pub a : IsValue (value_at bytes (at + 4))
  pub x : IsValue (value_at bytes (at + 10))

pub record IsScratchThere (bytes : List ℕ) (at : ℕ) : Type 0 where
  pub stands : Stands bytes (at + 16) (if version_of bytes == 2 then [] else scratch (scratch_at bytes at)) (chain_place bytes at)
  pub sixteen : length (scratch_at bytes at) ≡ 16
  pub good : All IsValue (scratch_at bytes at)
  pub none : version_of bytes ≡ 2 → scratch_at bytes at ≡ nothing_stated

pub record IsChainThere (bytes : List ℕ) (at : ℕ) : Type 0 where
  pub room : chain_place bytes at + 4 ≤ length bytes
  pub chain : long_at bytes (chain_place bytes at) ≤ chain_count bytes
  pub few : length (on_chain (entries_of bytes) (long_at bytes (chain_place bytes at))) ≤ 512

pub record IsChainedThere (bytes : List ℕ) (at : ℕ) : Type 0 where
  pub stands : Stands bytes at (chain_node (version_of bytes) (chain_node_at bytes at)) (node_end bytes at)
  pub good : IsChainNode (version_of bytes) (entries_of bytes) (chain_node_at bytes at)

pub record IsEntryThere (bytes : List ℕ) (j : ℕ) : Type 0 where
  pub stands : Stands bytes (16 + 14 * j) (entry (entry_at bytes j)) (16 + 14 * j + 14)
  pub good : IsEntry (version_of bytes) j (entry_at bytes j)

-- all entries, and all nodes of form 2, 3 or 4 with their places in the table
abbrev pub AreEntriesThere : List ℕ → Type 0
AreEntriesThere bytes = (j : ℕ) → j < chain_count bytes → IsEntryThere bytes j

pub record AreChainedThere (bytes : List ℕ) (n : ℕ) : Type 0 where
  pub nodes : (i : ℕ) → i < n → IsChainedThere bytes (place_of bytes i)
  pub table : (i : ℕ) → i < n → offset_at bytes i ≡ place_of bytes i

-- the parts of a node of form 1 in their order: up to the count of literals, the literals, all
pub record IsTopThere (bytes : List ℕ) (at : ℕ) : Type 0 where
  pub room : at + 5 ≤ length bytes
  pub kind : slice_index bytes at ≤ 3
  pub few : own_count bytes at ≤ 512

abbrev pub AreOwnThere : List ℕ → ℕ → Type 0
AreOwnThere bytes at = (k : ℕ) → k < own_count bytes at → IsLiteralThere bytes (at + 17 + 10 * k)

pub record IsListedThere (bytes : List ℕ) (at : ℕ) : Type 0 where
  pub stands : Stands bytes at (node (listed_node bytes at)) (node_end bytes at)
  pub good : IsNode (listed_node bytes at)

-- so many nodes, with a list of their places
pub record AreListedThere (bytes own : List ℕ) (n : ℕ) : Type 0 where
  pub nodes : (i : ℕ) → i < n → IsListedThere bytes (place_of bytes i)
  pub counted : length own ≡ n
  pub places : (i : ℕ) → i < n → slice_index own i ≡ place_of bytes i

-- the same as Fails for a node of form 1, which may have too many literals
abbrev pub FailsListed : FormError → List ℕ → ℕ → ℕ → Type 0
FailsListed Truncated bytes at end = length bytes < end
FailsListed BadNode bytes at end = IsBadListed bytes at
FailsListed BadCount bytes at end = (at + 5 ≤ length bytes) × (512 < own_count bytes at)
FailsListed BadMagic bytes at end = ⊥
FailsListed BadVersion bytes at end = ⊥
FailsListed Trailing bytes at end = ⊥
FailsListed OutOfMemory bytes at end = ⊥

-- the first twelve bytes
pub record IsTopOfFile (bytes : List ℕ) : Type 0 where
  pub short : length bytes ≤ 4194304
  pub room : 12 ≤ length bytes
  pub first : take 4 bytes ≡ magic
  pub form : 1 ≤ version_of bytes
  pub known : version_of bytes ≤ 4
  pub some : 1 ≤ node_count bytes
  pub few : node_count bytes ≤ 16384

-- What form 1 can say. No scratch value is stated, no rule is out, and no condition is met. Nothing is told sharply, and
-- the literals are few.
pub record IsPlain (n : PlainNode) : Type 0 where
  pub no_scratch : n.regs.scratch ≡ nothing_stated
  pub none_out : n.out ≡ []
  pub none_met : n.met ≡ []
  pub not_sharp : n.sharp ≡ false
  pub few : length n.known ≤ 512
