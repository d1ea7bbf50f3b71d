-- Which rule of a certificate is broken first.
use Rattle.std.specs.Prelude.{◌≡◌, ◌≢◌, ℕ, ◌+◌, ◌*◌, ◌<◌, ⊤, List, Some, None, slice_get}
use Rattle.bpf_insn.specs.Bytes.{insns_of, view_fault}
use Rattle.kernel_check.specs.Accepted.{IsAccepted, IsRefusal}
use Rattle.profile.specs.Policy.{Policy}
use Rattle.cert_form.specs.declared.fault.FormError.TheVariants as form
use Rattle.cert_form.specs.declared.node.Kind.TheVariants as kind
use Rattle.cert_form.specs.Nodes.{PlainNode}
use Rattle.cert_form.specs.Spelling.{Spells}
use Rattle.cert_form.specs.Faults.{Faulty}
use Rattle.cert_check.specs.declared.fault.CheckError.{CheckError}
use Rattle.cert_check.specs.declared.fault.CheckError.TheVariants.{View, Kernel, Form, Root, Edge, Entail, Return, Split, OutOfMemory}
use Rattle.cert_check.specs.Rules.{RootRule, EdgeRule, SplitRule, EntailRule, ReturnRule}

-- the bytes are a certificate
abbrev pub IsCertificate : List ℕ → Type 0
IsCertificate cert = (ns : List PlainNode) × Spells cert ns

-- what holds of the nodes of a certificate
abbrev pub OfNodes : List ℕ → (List PlainNode → Type 0) → Type 0
OfNodes cert P = (ns : List PlainNode) → Spells cert ns → P ns

-- what holds of node i, if there is one
abbrev pub AtNode : List ℕ → ℕ → (List PlainNode → PlainNode → Type 0) → Type 0
AtNode cert i P = OfNodes cert (λ ns. (n : PlainNode) → slice_get ns i ≡ Some n → P ns n)

-- the rule that an error names is kept, at its node
abbrev pub Kept : Policy → List ℕ → List ℕ → CheckError → Type 0
Kept policy filter cert (View e) = view_fault filter ≡ None
Kept policy filter cert (Kernel e) = IsAccepted (insns_of filter)
Kept policy filter cert (Form e) = IsCertificate cert
Kept policy filter cert Root = OfNodes cert RootRule
Kept policy filter cert (Edge i) = AtNode cert i (λ ns n. EdgeRule (insns_of filter) ns i n)
Kept policy filter cert (Split i) = AtNode cert i (λ ns n. SplitRule n.sharp n.kind)
Kept policy filter cert (Entail i) = AtNode cert i (λ ns n. EntailRule policy (insns_of filter) ns n)
Kept policy filter cert (Return i) = AtNode cert i (λ ns n. n.kind ≡ kind.Return → ReturnRule policy (insns_of filter) n)
Kept policy filter cert OutOfMemory = ⊤

-- in which turn a rule is looked for
abbrev pub turn_of : CheckError → ℕ
turn_of (View e) = 0
turn_of (Kernel e) = 1
turn_of (Form e) = 2
turn_of Root = 3
turn_of (Edge i) = 4 + 4 * i
turn_of (Split i) = 5 + 4 * i
turn_of (Entail i) = 6 + 4 * i
turn_of (Return i) = 7 + 4 * i
turn_of OutOfMemory = 0

-- each rule that is looked for before this turn is kept
abbrev pub KeptBefore : Policy → List ℕ → List ℕ → ℕ → Type 0
KeptBefore policy filter cert turn = (e : CheckError) → turn_of e < turn → Kept policy filter cert e

-- what an error tells beyond its rule: the fault of the bytes that stands. Want of memory is no such fault.
abbrev pub Tells : List ℕ → List ℕ → CheckError → Type 0
Tells filter cert (View e) = view_fault filter ≡ Some e
Tells filter cert (Kernel e) = IsRefusal (insns_of filter) e
Tells filter cert (Form e) = Faulty e cert × (e ≢ form.OutOfMemory)
Tells filter cert _ = ⊤

-- the rule that the error names is broken, none that is looked for earlier is, and what it tells is so
pub record IsFirst (policy : Policy) (filter cert : List ℕ) (e : CheckError) : Type 0 where
  pub broken : Kept policy filter cert e → ⊥
  pub earlier : KeptBefore policy filter cert (turn_of e)
  pub told : Tells filter cert e
