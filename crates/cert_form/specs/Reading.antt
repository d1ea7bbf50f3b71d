-- What stands at a place of a file: the reading of each part. A part that no certificate has there is
-- read as something all the same.
use Rattle.std.specs.Prelude.{ℕ, zero, suc, ◌+◌, ◌-◌, ◌*◌, ◌/◌, ◌%◌, ◌==◌, nat_le, Bool, true, false, if◌then◌else◌}
use Rattle.std.specs.Prelude.{List, [], ◌∷◌, ◌++◌, drop, slice_index}
use Rattle.std.specs.Prelude.{map}
use Rattle.std.specs.List.{range_with_len}
use Rattle.byteorder.specs.Endian.{little_number}
use Rattle.cert_state.specs.declared.literal.Lit.{Lit}
use Rattle.cert_state.specs.declared.literal.Lit.TheVariants.{In, Bits, NotBits}
use Rattle.cert_state.specs.declared.literal.AVal.{AVal}
use Rattle.cert_state.specs.declared.literal.AVal.TheVariants.{Unknown, Const, Masked}
use Rattle.cert_form.specs.declared.node.Claim.{Claim}
use Rattle.cert_form.specs.declared.node.Claim.TheVariants.{Knows, Out, Met}
use Rattle.cert_form.specs.declared.node.Kind.{Kind}
use Rattle.cert_form.specs.declared.node.Kind.TheVariants.{Step, Split, Return, Dead}
use Rattle.cert_form.specs.declared.node.ChainNode.{ChainNode}
use Rattle.cert_form.specs.Nodes.{PlainNode, said, on_chain, numbers_on, literals_in, outs_in, mets_in}
use Rattle.cert_form.specs.Spelling.{nothing_stated}

-- the numbers of four bytes and of two
abbrev pub long_at : List ℕ → ℕ → ℕ
long_at bytes at = little_number 4 (drop at bytes)

abbrev pub short_at : List ℕ → ℕ → ℕ
short_at bytes at = little_number 2 (drop at bytes)

abbrev pub tagged_literal : ℕ → ℕ → ℕ → ℕ → Lit
tagged_literal tag w p q = if tag == 1 then In w p q else if tag == 2 then Bits w p q else NotBits w p q

unfoldable pub literal_at : List ℕ → ℕ → Lit
literal_at bytes at = tagged_literal (slice_index bytes at) (slice_index bytes (at + 1)) (long_at bytes (at + 2)) (long_at bytes (at + 6))

abbrev pub tagged_value : ℕ → ℕ → ℕ → AVal
tagged_value tag w n = if tag == 0 then Unknown else if tag == 1 then Const n else Masked w n

unfoldable pub value_at : List ℕ → ℕ → AVal
value_at bytes at = tagged_value (slice_index bytes at) (slice_index bytes (at + 1)) (long_at bytes (at + 2))

-- how long the tail of a node is, by the number of its kind, and the kind with the tail at a place
abbrev pub tail_length : ℕ → ℕ
tail_length tag = if tag == 0 then 8 else if tag == 1 then 28 else 0

unfoldable pub kind_at : List ℕ → ℕ → ℕ → Kind
kind_at bytes tag at =
    if tag == 0 then Step (long_at bytes at) (long_at bytes (at + 4))
    else if tag == 1 then Split (literal_at bytes at) (literal_at bytes (at + 10)) (long_at bytes (at + 20)) (long_at bytes (at + 24))
    else if tag == 2 then Return
    else Dead

-- the head of the file
abbrev pub version_of : List ℕ → ℕ
version_of bytes = long_at bytes 4

abbrev pub node_count : List ℕ → ℕ
node_count bytes = long_at bytes 8

abbrev pub chain_count : List ℕ → ℕ
chain_count bytes = long_at bytes 12

-- form 1: the literals of a node that end at a place, so many of them
abbrev pub literals_to : List ℕ → ℕ → ℕ → List Lit
literals_to bytes end zero = []
literals_to bytes end (suc n) = literal_at bytes (end - 10 * suc n) ∷ literals_to bytes end n

abbrev pub own_count : List ℕ → ℕ → ℕ
own_count bytes at = short_at bytes (at + 3)

abbrev pub own_end : List ℕ → ℕ → ℕ
own_end bytes at = at + 17 + 10 * own_count bytes at

abbrev pub listed_node : List ℕ → ℕ → PlainNode
listed_node bytes at = record {
  kind = kind_at bytes (slice_index bytes at) (own_end bytes at);
  pc = short_at bytes (at + 1);
  regs = record { a = value_at bytes (at + 5); x = value_at bytes (at + 11); scratch = nothing_stated };
  known = literals_to bytes (own_end bytes at) (own_count bytes at);
  out = [];
  met = [];
  sharp = false;
}

-- Forms 2 to 4: the entry at a position, counted from 0, and those before it. In form 4 the tag 4 says that a rule is
-- out, and the tag 5 that a condition is met.
abbrev pub parent_at : List ℕ → ℕ → ℕ
parent_at bytes j = long_at bytes (16 + 14 * j)

unfoldable pub claim_at : List ℕ → ℕ → Claim
claim_at bytes at =
    if version_of bytes == 4 then (if slice_index bytes at == 4 then Out (long_at bytes (at + 2))
    else if slice_index bytes at == 5 then Met (long_at bytes (at + 2)) (long_at bytes (at + 6))
    else Knows (literal_at bytes at))
    else Knows (literal_at bytes at)

abbrev pub entry_at : List ℕ → ℕ → ℕ × Claim
entry_at bytes j = (parent_at bytes j, claim_at bytes (16 + 14 * j + 4))

abbrev pub entries_before : List ℕ → ℕ → List (ℕ × Claim)
entries_before bytes zero = []
entries_before bytes (suc j) = entries_before bytes j ++ entry_at bytes j ∷ []

abbrev pub entries_of : List ℕ → List (ℕ × Claim)
entries_of bytes = entries_before bytes (chain_count bytes)

-- the scratch words that bits state, from the lowest bit on, and the number of those bits
unfoldable pub scratch_from : List ℕ → ℕ → ℕ → ℕ → List AVal
scratch_from bytes at bits zero = []
scratch_from bytes at bits (suc n) =
    if bits % 2 == 1 then value_at bytes at ∷ scratch_from bytes (at + 6) (bits / 2) n
    else Unknown ∷ scratch_from bytes at (bits / 2) n

unfoldable pub ones : ℕ → ℕ → ℕ
ones bits zero = 0
ones bits (suc n) = bits % 2 + ones (bits / 2) n

-- where the chain of a node stands
unfoldable pub chain_place : List ℕ → ℕ → ℕ
chain_place bytes at = if version_of bytes == 2 then at + 16 else at + 18 + 6 * ones (short_at bytes (at + 16)) 16

unfoldable pub scratch_at : List ℕ → ℕ → List AVal
scratch_at bytes at = if version_of bytes == 2 then nothing_stated else scratch_from bytes (at + 18) (short_at bytes (at + 16)) 16

abbrev pub chain_node_at : List ℕ → ℕ → ChainNode
chain_node_at bytes at = record {
  kind = kind_at bytes (slice_index bytes at) (chain_place bytes at + 4);
  pc = short_at bytes (at + 2);
  regs = record { a = value_at bytes (at + 4); x = value_at bytes (at + 10); scratch = scratch_at bytes at };
  chain = long_at bytes (chain_place bytes at);
}

-- what the node at a place says, in each form
unfoldable pub node_at : List ℕ → ℕ → PlainNode
node_at bytes at =
    if version_of bytes == 1 then listed_node bytes at else said (version_of bytes) (entries_of bytes) (chain_node_at bytes at)

-- where the node at a place ends
unfoldable pub tail_place : List ℕ → ℕ → ℕ
tail_place bytes at = if version_of bytes == 1 then own_end bytes at else chain_place bytes at + 4

abbrev pub node_end : List ℕ → ℕ → ℕ
node_end bytes at = tail_place bytes at + tail_length (slice_index bytes at)

-- where the first node stands: right after the head, or after the table of offsets
unfoldable pub first_place : List ℕ → ℕ
first_place bytes = if version_of bytes == 1 then 12 else 16 + 14 * chain_count bytes + 4 * node_count bytes

-- where the node of a number stands, counted from 0: each one where the one before ends
unfoldable pub place_of : List ℕ → ℕ → ℕ
place_of bytes zero = first_place bytes
place_of bytes (suc i) = node_end bytes (place_of bytes i)

-- the nodes
abbrev pub nodes_in : List ℕ → List PlainNode
nodes_in bytes = map (λ i. node_at bytes (place_of bytes i)) (range_with_len 0 (node_count bytes))

-- the place of a node by the table of offsets
abbrev pub offset_at : List ℕ → ℕ → ℕ
offset_at bytes i = long_at bytes (16 + 14 * chain_count bytes + 4 * i)

-- The literals of the node at a place that are left, from a place among them on. In form 1 that place is the number of
-- those that are left, in the others the number of an entry. The end is 0.
unfoldable pub literals_left : List ℕ → ℕ → ℕ → List Lit
literals_left bytes at place =
    if version_of bytes == 1 then (if nat_le place (own_count bytes at) then literals_to bytes (own_end bytes at) place else [])
    else literals_in (on_chain (entries_of bytes) place)

-- the same of the rules that are out and of the conditions that are met, which form 4 alone has
unfoldable pub outs_left : List ℕ → ℕ → List ℕ
outs_left bytes place = if version_of bytes == 4 then outs_in (on_chain (entries_of bytes) place) else []

unfoldable pub mets_left : List ℕ → ℕ → List (ℕ × ℕ)
mets_left bytes place = if version_of bytes == 4 then mets_in (on_chain (entries_of bytes) place) else []

-- whether the file has entries: all forms have but form 1
unfoldable pub has_entries : List ℕ → Bool
has_entries bytes = if version_of bytes == 1 then false else true

-- what a chain states from the entry of a place on, and the numbers of these entries
unfoldable pub claims_left : List ℕ → ℕ → List Claim
claims_left bytes place = if version_of bytes == 1 then [] else on_chain (entries_of bytes) place

unfoldable pub numbers_left : List ℕ → ℕ → List ℕ
numbers_left bytes place = if version_of bytes == 1 then [] else numbers_on (entries_of bytes) place

-- what all entries state
abbrev pub claim_of : List ℕ → ℕ → Claim
claim_of bytes j = claim_at bytes (16 + 14 * j + 4)

unfoldable pub claims_in : List ℕ → List Claim
claims_in bytes = if version_of bytes == 1 then [] else map (claim_of bytes) (range_with_len 0 (chain_count bytes))
