-- Which rule of a node is broken first, as the code looks for them.
use Rattle.std.specs.Prelude.{◌≡◌, ℕ, ◌<◌, List, Some, slice_get, Result, MatchResult}
use Rattle.bpf_insn.specs.declared.instruction.Insn.{Insn}
use Rattle.bpf_insn.specs.Code.{operation_of}
use Rattle.profile.specs.Policy.{Policy}
use Rattle.cert_form.specs.declared.node.Kind.TheVariants as kind
use Rattle.cert_form.specs.Nodes.{PlainNode}
use Rattle.cert_check.specs.declared.fault.CheckError.{CheckError}
use Rattle.cert_check.specs.declared.fault.CheckError.TheVariants.{Edge, Entail, Form, OutOfMemory, Return, Root, Split}
use Rattle.cert_form.specs.declared.fault.FormError.{FormError}
use Rattle.cert_form.specs.declared.fault.FormError.TheVariants as form
use Rattle.cert_check.specs.Rules.{Carries, EdgeRule, EntailRule, Keeps, ReturnRule, RootRule, SplitRule, verdict_by}
use Rattle.cert_check.specs.Rules as rules
use Rattle.cert_check.specs.Several.{ReturnAgrees}

-- the instruction gives a verdict, and the profile says it on all that the node knows
pub record ReturnsAt (policy : Policy) (i : Insn) (n : PlainNode) : Type 0 where
  pub word : ℕ
  pub known : verdict_by (operation_of i.code) n.regs i ≡ Some word
  pub agrees : ReturnAgrees policy n word

-- the node of an edge, if it is there, says no more than the edge carries
abbrev pub CarriesTo : Policy → List PlainNode → PlainNode → rules.Edge → Type 0
CarriesTo policy ns n e = (m : PlainNode) → slice_get ns e.to ≡ Some m → Carries policy n e m

-- the error names the first rule that node i breaks
abbrev pub IsBrokenAt : Policy → List Insn → List PlainNode → ℕ → PlainNode → CheckError → Type 0
IsBrokenAt policy p ns i n (Edge j) = (j ≡ i) × (EdgeRule p ns i n → ⊥)
IsBrokenAt policy p ns i n (Split j) = (j ≡ i) × EdgeRule p ns i n × (SplitRule n.sharp n.kind → ⊥)
IsBrokenAt policy p ns i n (Entail j) = (j ≡ i) × EdgeRule p ns i n × SplitRule n.sharp n.kind × (EntailRule policy p ns n → ⊥)
IsBrokenAt policy p ns i n (Return j) =
    (j ≡ i) × EdgeRule p ns i n × SplitRule n.sharp n.kind × EntailRule policy p ns n × ((n.kind ≡ kind.Return → ReturnRule policy p n) → ⊥)
IsBrokenAt policy p ns i n _ = ⊥

-- each node before this one keeps its rules
abbrev pub KeepBefore : Policy → List Insn → List PlainNode → ℕ → Type 0
KeepBefore policy p ns i = (j : ℕ) (m : PlainNode) → j < i → slice_get ns j ≡ Some m → Keeps policy p ns j m

-- the error names the first rule that a node breaks, after a root that keeps its own
pub record IsBrokenFirst (policy : Policy) (p : List Insn) (ns : List PlainNode) (e : CheckError) : Type 0 where
  pub root : RootRule ns
  pub place : ℕ
  pub node : PlainNode
  pub at : slice_get ns place ≡ Some node
  pub before : KeepBefore policy p ns place
  pub broken : IsBrokenAt policy p ns place node e

-- what is found of the nodes
abbrev pub IsFound : Policy → List Insn → List PlainNode → CheckError → Type 0
IsFound policy p ns Root = RootRule ns → ⊥
IsFound policy p ns e = IsBrokenFirst policy p ns e

-- what is found of node i
abbrev pub NodeFound : Policy → List Insn → List PlainNode → ℕ → Result (Unit {0}) CheckError → Type 0
NodeFound policy p ns i found =
    (n : PlainNode) → slice_get ns i ≡ Some n → MatchResult found (λ _. Keeps policy p ns i n) (IsBrokenAt policy p ns i n)

-- the error that a fault of a certificate's bytes is
abbrev pub error_of : FormError → CheckError
error_of form.OutOfMemory = OutOfMemory
error_of fault = Form fault
