-- When nodes are written, and why they are not.
use Rattle.std.specs.Prelude.{◌≡◌, ◌<◌, ◌≤◌, ◌^◌, ◌⊎◌, ⊤, ℕ, ◌==◌, false, if◌then◌else◌, List, [], ◌∷◌, All, Some, length, map, slice_get}
use Rattle.cert_state.specs.declared.literal.Lit.{Lit}
use Rattle.cert_state.specs.Literals.{IsLit, AreValues}
use Rattle.cert_form.specs.declared.fault.FormError.{FormError}
use Rattle.cert_form.specs.declared.fault.FormError.TheVariants.{BadMagic, BadVersion, Truncated, BadNode, BadCount, Trailing, OutOfMemory}
use Rattle.cert_form.specs.declared.node.ChainNode.{ChainNode}
use Rattle.cert_form.specs.declared.node.Claim.{Claim}
use Rattle.cert_form.specs.declared.node.Claim.TheVariants.{Knows}
use Rattle.cert_form.specs.declared.node.Node.{Node}
use Rattle.cert_form.specs.Nodes.{PlainNode, on_chain, literals}
use Rattle.cert_form.specs.Spelling.{IsKind, AreEntries, listed, chained, stated_bits, nothing_stated}

-- what a node says that has its own list of literals
abbrev pub plain : Node → PlainNode
plain n = record { kind = n.kind; pc = n.pc; regs = n.regs; known = n.lits.items; out = []; met = []; sharp = false }

abbrev pub plains : List Node → List PlainNode
plains ns = map plain ns

-- its literals and values are such, which is for its maker to see to
pub record IsMeant (n : PlainNode) : Type 0 where
  pub kind : IsKind n.kind
  pub pc : n.pc < 2 ^ 16
  pub values : AreValues n.regs
  pub literals : All IsLit n.known

-- entries that all state literals, and that each parent is earlier
abbrev pub all_known : List (ℕ × Lit) → List (ℕ × Claim)
all_known es = map (λ e. (e.0, Knows e.1)) es

pub record IsLiteralEntry (j : ℕ) (e : ℕ × Lit) : Type 0 where
  pub earlier : e.0 ≤ j
  pub literal : IsLit e.1

abbrev pub AreLiteralEntries : List (ℕ × Lit) → Type 0
AreLiteralEntries es = (j : ℕ) (e : ℕ × Lit) → slice_get es j ≡ Some e → IsLiteralEntry j e

-- the same for entries and nodes of chains: a chain is none or an entry's, and it has at most 512 literals
pub record IsChainMeant (es : List (ℕ × Lit)) (n : ChainNode) : Type 0 where
  pub kind : IsKind n.kind
  pub pc : n.pc < 2 ^ 16
  pub values : AreValues n.regs
  pub chain : n.chain ≤ length es
  pub few : length (literals es n.chain) ≤ 512

pub record AreMeant (es : List (ℕ × Lit)) (ns : List ChainNode) : Type 0 where
  pub entries : AreLiteralEntries es
  pub nodes : All (IsChainMeant es) ns

-- the same where entries may speak of rules
pub record IsClaimMeant (es : List (ℕ × Claim)) (n : ChainNode) : Type 0 where
  pub kind : IsKind n.kind
  pub pc : n.pc < 2 ^ 16
  pub values : AreValues n.regs
  pub chain : n.chain ≤ length es
  pub few : length (on_chain es n.chain) ≤ 512

pub record AreClaimsMeant (es : List (ℕ × Claim)) (ns : List ChainNode) : Type 0 where
  pub entries : AreEntries 4 es
  pub nodes : All (IsClaimMeant es) ns

-- form 3 is for nodes of which one states a scratch value
abbrev pub version_for : List ChainNode → ℕ
version_for [] = 2
version_for (n ∷ ns) = if stated_bits n.regs.scratch == 0 then version_for ns else 3

-- why nodes are not written in form 1: a limit, a stated scratch value, or memory
abbrev pub Refused : FormError → List PlainNode → Type 0
Refused BadCount ns =
    (length ns ≡ 0) ⊎ ((16384 < length ns) ⊎ ((All (λ n. length n.known ≤ 512) ns → ⊥) ⊎ (4194304 < length (listed ns))))
Refused BadNode ns = All (λ n. n.regs.scratch ≡ nothing_stated) ns → ⊥
Refused OutOfMemory ns = ⊤
Refused BadMagic ns = ⊥
Refused BadVersion ns = ⊥
Refused Truncated ns = ⊥
Refused Trailing ns = ⊥

-- the nodes keep the limits of form 1, and none states a scratch value
abbrev pub AreWritable : List PlainNode → Type 0
AreWritable ns = (e : FormError) → Refused e ns → e ≡ OutOfMemory

-- why entries and nodes are not written in form 2 or 3: a limit, or memory
abbrev pub ChainsRefused : FormError → List (ℕ × Lit) → List ChainNode → Type 0
ChainsRefused BadCount es ns =
    (length ns ≡ 0) ⊎ ((16384 < length ns) ⊎ ((65536 < length es) ⊎ (4194304 < length (chained (version_for ns) (all_known es) ns))))
ChainsRefused OutOfMemory es ns = ⊤
ChainsRefused BadNode es ns = ⊥
ChainsRefused BadMagic es ns = ⊥
ChainsRefused BadVersion es ns = ⊥
ChainsRefused Truncated es ns = ⊥
ChainsRefused Trailing es ns = ⊥

-- the entries and nodes keep the limits of forms 2 and 3
abbrev pub AreChainsWritable : List (ℕ × Lit) → List ChainNode → Type 0
AreChainsWritable es ns = (e : FormError) → ChainsRefused e es ns → e ≡ OutOfMemory

-- why entries and nodes are not written in form 4: a limit, or memory
abbrev pub ClaimsRefused : FormError → List (ℕ × Claim) → List ChainNode → Type 0
ClaimsRefused BadCount es ns =
    (length ns ≡ 0) ⊎ ((16384 < length ns) ⊎ ((65536 < length es) ⊎ (4194304 < length (chained 4 es ns))))
ClaimsRefused OutOfMemory es ns = ⊤
ClaimsRefused BadNode es ns = ⊥
ClaimsRefused BadMagic es ns = ⊥
ClaimsRefused BadVersion es ns = ⊥
ClaimsRefused Truncated es ns = ⊥
ClaimsRefused Trailing es ns = ⊥

-- the entries and nodes keep the limits of form 4
abbrev pub AreClaimsWritable : List (ℕ × Claim) → List ChainNode → Type 0
AreClaimsWritable es ns = (e : FormError) → ClaimsRefused e es ns → e ≡ OutOfMemory
