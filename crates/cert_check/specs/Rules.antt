-- The rules that each node of a certificate keeps. A node stands at a position of the program and says what is
-- known there; its edges lead on to later nodes.
use Rattle.std.specs.Prelude.{◌≡◌, ◌==◌, ℕ, ◌+◌, ◌^◌, ◌<◌, ◌⊎◌, ⊤, Bool, true, false, IsTrue, if◌then◌else◌}
use Rattle.std.specs.Prelude.{List, [], ◌∷◌, ◌++◌, Option, Some, None}
use Rattle.std.specs.Prelude.{option_to_list, slice_get, slice_index_or, All, Contains}
use Rattle.bpf_insn.specs.declared.instruction.Insn.{Insn}
use Rattle.bpf_insn.specs.declared.code.Operation.{Operation}
use Rattle.bpf_insn.specs.declared.code.Operation.TheVariants.{Branch, Jump, ReturnK, ReturnA}
use Rattle.bpf_insn.specs.Code.{operation_of}
use Rattle.profile.specs.declared.conditions.Cond.{Cond}
use Rattle.profile.specs.declared.rules.Rule.{Rule}
use Rattle.profile.specs.Rule.{is_narrow_rule}
use Rattle.profile.specs.Policy.{Policy}
use Rattle.cert_state.specs.declared.literal.Lit.{Lit}
use Rattle.cert_state.specs.declared.literal.Lit.TheVariants.{In, Bits, NotBits}
use Rattle.cert_state.specs.declared.literal.AVal.{AVal}
use Rattle.cert_state.specs.declared.literal.AVal.TheVariants.{Unknown, Const, Masked}
use Rattle.cert_state.specs.declared.literal.Regs.{Regs}
use Rattle.cert_state.specs.Literals.{all_bits}
use Rattle.cert_state.specs.Entailment.{Entails, IsDead}
use Rattle.cert_state.specs.Transfer.{transfer, edge_fact}
use Rattle.cert_state.specs.Sharp.{is_bit, lowest_bit, sharp_fact}
use Rattle.cert_form.specs.declared.node.Kind.{Kind}
use Rattle.cert_form.specs.declared.node.Kind.TheVariants.{Step, Split, Return, Dead}
use Rattle.cert_form.specs.Nodes.{PlainNode}
use Rattle.cert_check.specs.Agree.{IsRefuted, IsYes}
use Rattle.cert_check.specs.Several.{ReturnAgrees}

-- the number that stands for no second successor
abbrev pub no_node : ℕ
no_node = 0xffffffff

-- a way on: the node that it leads to, the position there, and what is known on the way
pub record Edge : Type 0 where
  pub to : ℕ
  pub pc : ℕ
  pub fact : Option Lit
  pub regs : Regs

-- what is known on an edge of a jump: its fact, or where the certificate is sharp, its sharp fact
abbrev pub fact_at : PlainNode → Insn → Bool → Option Lit
fact_at n i taken = if n.sharp then sharp_fact n.known n.regs i taken else edge_fact n.regs i taken

-- the one edge of a step that has no second successor
abbrev pub one_edge : ℕ → ℕ → ℕ → Regs → Option (List Edge)
one_edge first second pc regs =
    if second == no_node then Some (record { to = first; pc = pc; fact = None; regs = regs } ∷ []) else None

-- The edges of a step at an instruction, by its operation, and none if it may not stand there. A step at a conditional
-- jump has two successors (taken, not taken). A step at a return has no place, and any other has one successor.
abbrev pub step_edges : Option Operation → PlainNode → ℕ → ℕ → Insn → Option (List Edge)
step_edges (Some (Branch test operand)) n first second i =
    Some (record { to = first; pc = n.pc + 1 + i.jt; fact = fact_at n i true; regs = transfer n.regs i }
    ∷ record { to = second; pc = n.pc + 1 + i.jf; fact = fact_at n i false; regs = transfer n.regs i } ∷ [])
step_edges (Some Jump) n first second i = one_edge first second (n.pc + 1 + i.k) (transfer n.regs i)
step_edges (Some ReturnK) n first second i = None
step_edges (Some ReturnA) n first second i = None
step_edges _ n first second i = one_edge first second (n.pc + 1) (transfer n.regs i)

-- the edges of a node by its kind; a split stays at its position and learns one of two literals
abbrev pub edges_by : Kind → PlainNode → Insn → Option (List Edge)
edges_by (Step first second) n i = step_edges (operation_of i.code) n first second i
edges_by (Split a b first second) n i =
    Some (record { to = first; pc = n.pc; fact = Some a; regs = n.regs }
    ∷ record { to = second; pc = n.pc; fact = Some b; regs = n.regs } ∷ [])
edges_by Return n i = Some []
edges_by Dead n i = Some []

abbrev pub edges : PlainNode → Insn → Option (List Edge)
edges n i = edges_by n.kind n i

-- an edge of node i leads to a greater node, which stands at its position
abbrev pub Leads : List PlainNode → ℕ → Edge → Type 0
Leads ns i e = (i < e.to) × ((m : PlainNode) × (slice_get ns e.to ≡ Some m) × (m.pc ≡ e.pc))

-- Root: node 0 stands at position 0 and knows no literal. It says no rule to be out and no condition to be met. There A
-- and X are 0, and no scratch word is stated.
pub record RootRule (ns : List PlainNode) : Type 0 where
  pub root : PlainNode
  pub first : slice_get ns 0 ≡ Some root
  pub at_first : root.pc ≡ 0
  pub nothing : root.known ≡ []
  pub none_out : root.out ≡ []
  pub none_met : root.met ≡ []
  pub a_is_zero : root.regs.a ≡ Const 0
  pub x_is_zero : root.regs.x ≡ Const 0
  pub none_stated : All (λ v. v ≡ Unknown) root.regs.scratch

-- Edge: the position is one of the program, the node may stand there, and its edges lead to greater nodes
pub record EdgeRule (p : List Insn) (ns : List PlainNode) (i : ℕ) (n : PlainNode) : Type 0 where
  pub insn : Insn
  pub inside : slice_get p n.pc ≡ Some insn
  pub out : List Edge
  pub leave : edges n insn ≡ Some out
  pub lead : All (Leads ns i) out

-- two literals of which one holds of each record, the lower part first
abbrev pub Covers : Lit → Lit → Type 0
Covers (In w a b) (In v c d) = (w ≡ v) × (a ≡ 0) × (c ≡ b + 1) × (d ≡ all_bits) × (b < all_bits)
Covers (Bits w m d) (NotBits v n e) = (w ≡ v) × (m ≡ n) × (d ≡ e)
Covers _ _ = ⊥

-- the same by bits: none of them is set, and else the only one is, or the word is at least the lowest
abbrev pub CoversSharply : Lit → Lit → Type 0
CoversSharply (Bits w m d) (Bits v n e) = (w ≡ v) × (m ≡ n) × (d ≡ 0) × (e ≡ m) × IsTrue (is_bit m)
CoversSharply (Bits w m d) (In v a b) = (w ≡ v) × (m < 2 ^ 32) × (d ≡ 0) × (a ≡ lowest_bit m) × (b ≡ all_bits)
CoversSharply _ _ = ⊥

-- Split: the two literals cover each record, in either order; by bits in a sharp certificate alone
abbrev pub SplitRule : Bool → Kind → Type 0
SplitRule sharp (Split a b first second) = (Covers a b ⊎ Covers b a) ⊎ (IsTrue sharp × (CoversSharply a b ⊎ CoversSharply b a))
SplitRule sharp _ = ⊤

-- what a successor says of a register: nothing, or the value that it has there
abbrev pub Allows : AVal → AVal → Type 0
Allows there here = (there ≡ Unknown) ⊎ (there ≡ here)

-- what is known on an edge
abbrev pub known_on : PlainNode → Edge → List Lit
known_on n e = n.known ++ option_to_list e.fact

-- the rule of the profile at this place is out: it was so at the node, or what is known on the edge refutes it
pub record IsOutOn (policy : Policy) (n : PlainNode) (e : Edge) (place : ℕ) : Type 0 where
  pub rule : Rule
  pub stands : slice_get policy.rules place ≡ Some rule
  pub reason : Contains n.out place ⊎ IsRefuted (known_on n e) rule

-- The condition of the profile with these places, that of its rule and its own, is met. It was among those that were
-- met, or what is known makes it yes.
pub record IsMetBy (policy : Policy) (met : List (ℕ × ℕ)) (known : List Lit) (place : ℕ × ℕ) : Type 0 where
  pub rule : Rule
  pub stands : slice_get policy.rules place.0 ≡ Some rule
  pub cond : Cond
  pub its : slice_get rule.conds.items place.1 ≡ Some cond
  pub reason : Contains met place ⊎ IsYes (is_narrow_rule rule) known cond

-- what is known on an edge gives what its node says
pub record Carries (policy : Policy) (n : PlainNode) (e : Edge) (m : PlainNode) : Type 0 where
  pub literals : All (Entails (known_on n e)) m.known
  pub outs : All (IsOutOn policy n e) m.out
  pub mets : All (IsMetBy policy n.met (known_on n e)) m.met
  pub for_a : Allows m.regs.a e.regs.a
  pub for_x : Allows m.regs.x e.regs.x
  pub for_scratch : (j : ℕ) (v : AVal) → slice_get m.regs.scratch j ≡ Some v → Allows v (slice_index_or e.regs.scratch j Unknown)

-- Entail: each edge carries what its node says, and a dead node is dead
pub record EntailRule (policy : Policy) (p : List Insn) (ns : List PlainNode) (n : PlainNode) : Type 0 where
  pub carry : (i : Insn) (out : List Edge) → slice_get p n.pc ≡ Some i → edges n i ≡ Some out
      → All (λ e. (m : PlainNode) → slice_get ns e.to ≡ Some m → Carries policy n e m) out
  pub dead : n.kind ≡ Dead → IsDead n.known

-- the verdict that a return gives, where it is known
abbrev pub value_verdict : AVal → Option ℕ
value_verdict (Const c) = Some c
value_verdict Unknown = None
value_verdict (Masked w m) = None

abbrev pub verdict_by : Option Operation → Regs → Insn → Option ℕ
verdict_by (Some ReturnK) regs i = Some i.k
verdict_by (Some ReturnA) regs i = value_verdict regs.a
verdict_by _ regs i = None

-- Return: the node stands at a return whose verdict is known, and that is the profile's on all that is known
pub record ReturnRule (policy : Policy) (p : List Insn) (n : PlainNode) : Type 0 where
  pub insn : Insn
  pub inside : slice_get p n.pc ≡ Some insn
  pub word : ℕ
  pub known : verdict_by (operation_of insn.code) n.regs insn ≡ Some word
  pub agrees : ReturnAgrees policy n word

-- node i keeps each rule
pub record Keeps (policy : Policy) (p : List Insn) (ns : List PlainNode) (i : ℕ) (n : PlainNode) : Type 0 where
  pub edge : EdgeRule p ns i n
  pub split : SplitRule n.sharp n.kind
  pub entail : EntailRule policy p ns n
  pub return : n.kind ≡ Return → ReturnRule policy p n

-- the root and each node keep each rule
pub record IsValid (policy : Policy) (p : List Insn) (ns : List PlainNode) : Type 0 where
  pub root : RootRule ns
  pub each : (i : ℕ) (n : PlainNode) → slice_get ns i ≡ Some n → Keeps policy p ns i n
