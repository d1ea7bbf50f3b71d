-- The bytes of certificates, in four forms. There is one spelling for a list of nodes, or for a list of entries of
-- chains and a list of nodes.
use Rattle.std.specs.Prelude.{◌≡◌, ℕ, ◌+◌, ◌*◌, ◌==◌, ◌^◌, ◌<◌, ◌≤◌, ◌⊎◌, ⊤, false, if◌then◌else◌}
use Rattle.std.specs.Prelude.{Some, List, [], ◌∷◌, ◌++◌, length, slice_get}
use Rattle.std.specs.Prelude.{map, replicate}
use Rattle.std.specs.List.{flat_map, All}
use Rattle.byteorder.specs.Endian.{little_bytes}
use Rattle.cert_state.specs.declared.literal.Lit.{Lit}
use Rattle.cert_state.specs.declared.literal.Lit.TheVariants.{In, Bits, NotBits}
use Rattle.cert_state.specs.declared.literal.AVal.{AVal}
use Rattle.cert_state.specs.declared.literal.AVal.TheVariants.{Unknown, Const, Masked}
use Rattle.cert_state.specs.Literals.{IsLit, AreValues}
use Rattle.cert_form.specs.declared.node.Claim.{Claim}
use Rattle.cert_form.specs.declared.node.Claim.TheVariants.{Knows, Out, Met}
use Rattle.cert_form.specs.declared.node.Kind.{Kind}
use Rattle.cert_form.specs.declared.node.Kind.TheVariants.{Step, Split, Return, Dead}
use Rattle.cert_form.specs.declared.node.ChainNode.{ChainNode}
use Rattle.cert_form.specs.Nodes.{PlainNode, on_chain, said}

-- CCRT
abbrev pub magic : List ℕ
magic = 67 ∷ 67 ∷ 82 ∷ 84 ∷ []

-- a value is six bytes, a literal ten
abbrev pub value : AVal → List ℕ
value Unknown = 0 ∷ 0 ∷ little_bytes 4 0
value (Const c) = 1 ∷ 0 ∷ little_bytes 4 c
value (Masked w m) = 2 ∷ w ∷ little_bytes 4 m

abbrev pub literal : Lit → List ℕ
literal (In w lo hi) = 1 ∷ w ∷ little_bytes 4 lo ++ little_bytes 4 hi
literal (Bits w m d) = 2 ∷ w ∷ little_bytes 4 m ++ little_bytes 4 d
literal (NotBits w m d) = 3 ∷ w ∷ little_bytes 4 m ++ little_bytes 4 d

abbrev pub kind_number : Kind → ℕ
kind_number (Step first second) = 0
kind_number (Split a b first second) = 1
kind_number Return = 2
kind_number Dead = 3

-- what follows from a node, at its end
abbrev pub tail : Kind → List ℕ
tail (Step first second) = little_bytes 4 first ++ little_bytes 4 second
tail (Split a b first second) = literal a ++ literal b ++ little_bytes 4 first ++ little_bytes 4 second
tail Return = []
tail Dead = []

-- form 1: each node has its own literals
abbrev pub node : PlainNode → List ℕ
node n =
    kind_number n.kind ∷ little_bytes 2 n.pc ++ little_bytes 2 (length n.known) ++ value n.regs.a ++ value n.regs.x
    ++ flat_map literal n.known ++ tail n.kind

abbrev pub listed : List PlainNode → List ℕ
listed ns = magic ++ little_bytes 4 1 ++ little_bytes 4 (length ns) ++ flat_map node ns

-- the scratch words of which a value is stated, as bits, and the stated values
abbrev pub bit_of : AVal → ℕ
bit_of Unknown = 0
bit_of (Const c) = 1
bit_of (Masked w m) = 1

abbrev pub stated_bits : List AVal → ℕ
stated_bits [] = 0
stated_bits (v ∷ vs) = bit_of v + 2 * stated_bits vs

abbrev pub if_stated : AVal → List ℕ
if_stated Unknown = []
if_stated (Const c) = value (Const c)
if_stated (Masked w m) = value (Masked w m)

abbrev pub scratch : List AVal → List ℕ
scratch vs = little_bytes 2 (stated_bits vs) ++ flat_map if_stated vs

-- what an entry states has ten bytes: a literal, that a rule is out, or that a condition is met
abbrev pub claim : Claim → List ℕ
claim (Knows l) = literal l
claim (Out i) = 4 ∷ 0 ∷ little_bytes 4 i ++ little_bytes 4 0
claim (Met i j) = 5 ∷ 0 ∷ little_bytes 4 i ++ little_bytes 4 j

-- forms 2 to 4: the entries of chains, where each node stands, and the nodes; form 2 has no field for
-- scratch words
abbrev pub entry : ℕ × Claim → List ℕ
entry e = little_bytes 4 e.0 ++ claim e.1

abbrev pub chain_node : ℕ → ChainNode → List ℕ
chain_node version n =
    kind_number n.kind ∷ 0 ∷ little_bytes 2 n.pc ++ value n.regs.a ++ value n.regs.x
    ++ (if version == 2 then [] else scratch n.regs.scratch) ++ little_bytes 4 n.chain ++ tail n.kind

-- the positions of nodes of which the first one stands at this position
abbrev pub offsets : ℕ → ℕ → List ChainNode → List ℕ
offsets version at [] = []
offsets version at (n ∷ ns) = little_bytes 4 at ++ offsets version (at + length (chain_node version n)) ns

abbrev pub chained : ℕ → List (ℕ × Claim) → List ChainNode → List ℕ
chained version es ns =
    magic ++ little_bytes 4 version ++ little_bytes 4 (length ns) ++ little_bytes 4 (length es) ++ flat_map entry es
    ++ offsets version (16 + 14 * length es + 4 * length ns) ns ++ flat_map (chain_node version) ns

-- what has a spelling
abbrev pub IsKind : Kind → Type 0
IsKind (Step first second) = (first < 2 ^ 32) × (second < 2 ^ 32)
IsKind (Split a b first second) = IsLit a × IsLit b × (first < 2 ^ 32) × (second < 2 ^ 32)
IsKind Return = ⊤
IsKind Dead = ⊤

-- no scratch value is stated
abbrev pub nothing_stated : List AVal
nothing_stated = replicate 16 Unknown

-- a node of form 1, and the certificate of these nodes
pub record IsNode (n : PlainNode) : Type 0 where
  pub kind : IsKind n.kind
  pub pc : n.pc < 2 ^ 16
  pub values : AreValues n.regs
  pub no_scratch : n.regs.scratch ≡ nothing_stated
  pub none_out : n.out ≡ []
  pub none_met : n.met ≡ []
  pub not_sharp : n.sharp ≡ false
  pub few : length n.known ≤ 512
  pub literals : All IsLit n.known

pub record SpellsListed (bytes : List ℕ) (ns : List PlainNode) : Type 0 where
  pub spelled : bytes ≡ listed ns
  pub short : length bytes ≤ 4194304
  pub some : 1 ≤ length ns
  pub few : length ns ≤ 16384
  pub nodes : All IsNode ns

-- only in form 4 an entry may say that a rule is out, or that a condition is met
abbrev pub IsClaim : ℕ → Claim → Type 0
IsClaim version (Knows l) = IsLit l
IsClaim version (Out i) = (version ≡ 4) × (i < 2 ^ 32)
IsClaim version (Met i j) = (version ≡ 4) × (i < 2 ^ 32) × (j < 2 ^ 32)

-- an entry at a position, counted from 0; its own number is one more
pub record IsEntry (version j : ℕ) (e : ℕ × Claim) : Type 0 where
  pub earlier : e.0 ≤ j
  pub claim : IsClaim version e.1

abbrev pub AreEntries : ℕ → List (ℕ × Claim) → Type 0
AreEntries version es = (j : ℕ) (e : ℕ × Claim) → slice_get es j ≡ Some e → IsEntry version j e

-- a node of form 2, 3 or 4, and the certificate of these entries and nodes
pub record IsChainNode (version : ℕ) (es : List (ℕ × Claim)) (n : ChainNode) : Type 0 where
  pub kind : IsKind n.kind
  pub pc : n.pc < 2 ^ 16
  pub values : AreValues n.regs
  pub no_scratch : version ≡ 2 → n.regs.scratch ≡ nothing_stated
  pub chain : n.chain ≤ length es
  pub few : length (on_chain es n.chain) ≤ 512

pub record SpellsChained (version : ℕ) (bytes : List ℕ) (es : List (ℕ × Claim)) (ns : List ChainNode) : Type 0 where
  pub spelled : bytes ≡ chained version es ns
  pub short : length bytes ≤ 4194304
  pub some : 1 ≤ length ns
  pub few : length ns ≤ 16384
  pub few_entries : length es ≤ 65536
  pub entries : AreEntries version es
  pub nodes : All (IsChainNode version es) ns

-- the same with entries, where the nodes say this
pub record SpellsSaid (version : ℕ) (bytes : List ℕ) (ns : List PlainNode) : Type 0 where
  pub es : List (ℕ × Claim)
  pub cs : List ChainNode
  pub spells : SpellsChained version bytes es cs
  pub same : ns ≡ map (said version es) cs

-- the forms whose nodes share literals
abbrev pub IsChained : ℕ → Type 0
IsChained version = (2 ≤ version) × (version ≤ 4)

-- the bytes are a certificate, of form 1 or of one of the others, and its nodes say this
abbrev pub Spells : List ℕ → List PlainNode → Type 0
Spells bytes ns = SpellsListed bytes ns ⊎ ((version : ℕ) × IsChained version × SpellsSaid version bytes ns)
