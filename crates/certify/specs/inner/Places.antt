-- The places of all paths as they are found, and their nodes, which keep the rules wherever the rest leads.
use Rattle.std.specs.Prelude.{◌≡◌, ℕ, ◌+◌, ◌<◌, ◌≤◌, List, [], ◌∷◌, ◌++◌, true, length, min, Option, Some, slice_get, option_to_list}
use Rattle.std.specs.List.{All}
use Rattle.bpf_insn.specs.declared.instruction.Insn.{Insn}
use Rattle.profile.specs.Policy.{Policy}
use Rattle.cert_state.specs.declared.literal.Lit.{Lit}
use Rattle.cert_state.specs.declared.literal.Regs.{Regs}
use Rattle.cert_state.specs.Literals.{AreValues}
use Rattle.cert_form.specs.declared.node.ChainNode.{ChainNode}
use Rattle.cert_form.specs.declared.node.Kind.{Kind}
use Rattle.cert_form.specs.Nodes.{PlainNode, literals}
use Rattle.cert_form.specs.Spelling.{IsKind}
use Rattle.cert_form.specs.Writing.{AreLiteralEntries}
use Rattle.cert_check.specs.Rules.{Keeps}
use Rattle.certify.specs.Telling.{at_first}
use Rattle.certify.specs.declared.paths.Paths.{Paths}
use Rattle.certify.specs.declared.place.Next.{Next}
use Rattle.certify.specs.declared.place.Place.{Place}

-- what a place knows
abbrev pub known_at : List (ℕ × Lit) → Place → List Lit
known_at es place = literals es place.chain

-- where each path begins
abbrev pub first_place : Place
first_place = record { pc = 0; regs = at_first; chain = 0; depth = 0 }

-- a place has a chain that is not too long
pub record IsPlace (es : List (ℕ × Lit)) (place : Place) : Type 0 where
  pub chain : place.chain ≤ length es
  pub depth : length (known_at es place) ≡ place.depth
  pub few : place.depth ≤ 512
  pub values : AreValues place.regs

-- entries and places are such, and few
pub record ArePaths (paths : Paths) : Type 0 where
  pub entries : AreLiteralEntries paths.entries.items
  pub places : All (IsPlace paths.entries.items) paths.places.items
  pub first : slice_get paths.places.items 0 ≡ Some first_place
  pub few : length paths.places.items ≤ 16384
  pub few_entries : length paths.entries.items ≤ length paths.places.items

-- each place is a position of the program
abbrev pub AreInside : List Insn → Paths → Type 0
AreInside p paths = All (λ (place : Place). place.pc < length p) paths.places.items

-- a list has more at its end
abbrev pub IsLonger : {X : Type 0} → List X → List X → Type 0
IsLonger {X} old new = (more : List X) × (new ≡ old ++ more)

-- entries and places have more, and the kinds stay
pub record IsGrown (old new : Paths) : Type 0 where
  pub entries : IsLonger old.entries.items new.entries.items
  pub places : IsLonger old.places.items new.places.items
  pub kinds : new.kinds.items ≡ old.kinds.items

-- at most one literal was added to what a place knows: the chain, and how many literals it has
pub record IsLearned (old new : Paths) (from : Place) (learned : Option Lit) (told : ℕ × ℕ) : Type 0 where
  pub entries : AreLiteralEntries new.entries.items
  pub longer : IsLonger old.entries.items new.entries.items
  pub one_more : length new.entries.items ≤ length old.entries.items + 1
  pub places : new.places.items ≡ old.places.items
  pub kinds : new.kinds.items ≡ old.kinds.items
  pub chain : told.0 ≤ length new.entries.items
  pub known : literals new.entries.items told.0 ≡ option_to_list learned ++ known_at old.entries.items from
  pub depth : told.1 ≡ length (option_to_list learned ++ known_at old.entries.items from)
  pub few : told.1 ≤ 512

-- a place was added, which knows at most one literal more than another
pub record IsAdded (old new : Paths) (from : Place) (next : Next) (number : ℕ) : Type 0 where
  pub place : Place
  pub number_is : number ≡ length old.places.items
  pub places : new.places.items ≡ old.places.items ++ place ∷ []
  pub entries : IsLonger old.entries.items new.entries.items
  pub kinds : new.kinds.items ≡ old.kinds.items
  pub pc_is : place.pc ≡ next.pc
  pub regs_are : place.regs ≡ next.regs
  pub known_is : known_at new.entries.items place ≡ option_to_list next.learned ++ known_at old.entries.items from

-- the node of a place that does this
abbrev pub node_of : List (ℕ × Lit) → Place → Kind → PlainNode
node_of es place kind =
    record { kind = kind; pc = place.pc; regs = place.regs; known = known_at es place; out = []; met = []; sharp = true }

-- the same as a maker states it
abbrev pub chain_node_of : Place → Kind → ChainNode
chain_node_of place kind = record { kind = kind; pc = place.pc; regs = place.regs; chain = place.chain }

-- nodes in order, each of its place and of what it does
pub record AreNodes (places : List Place) (kinds : List Kind) (nodes : List ChainNode) : Type 0 where
  pub many : length nodes ≡ min (length places) (length kinds)
  pub each : (k : ℕ) (place : Place) (kind : Kind) → slice_get places k ≡ Some place → slice_get kinds k ≡ Some kind
      → slice_get nodes k ≡ Some (chain_node_of place kind)

-- a node stands at the number of a place, and says what the place says
pub record StandsAt (ns : List PlainNode) (at : ℕ) (pc : ℕ) (regs : Regs) (known : List Lit) : Type 0 where
  pub node : PlainNode
  pub there : slice_get ns at ≡ Some node
  pub pc_is : node.pc ≡ pc
  pub regs_are : node.regs ≡ regs
  pub known_is : node.known ≡ known
  pub none_out : node.out ≡ []
  pub none_met : node.met ≡ []

-- so do nodes of all places
abbrev pub AreAt : List PlainNode → List (ℕ × Lit) → List Place → Type 0
AreAt ns es places =
    (at : ℕ) (place : Place) → slice_get places at ≡ Some place → StandsAt ns at place.pc place.regs (known_at es place)

-- the node of a place that does this keeps the rules, wherever the nodes of all places stand so
abbrev pub KeepsAt : Policy → List Insn → Paths → ℕ → Place → Kind → Type 0
KeepsAt policy p paths at place kind =
    IsKind kind
    × ((ns : List PlainNode) → AreAt ns paths.entries.items paths.places.items
    → Keeps policy p ns at (node_of paths.entries.items place kind))

-- so do the nodes of the first places
abbrev pub AreKept : Policy → List Insn → Paths → Type 0
AreKept policy p paths =
    (at : ℕ) (place : Place) (kind : Kind) → slice_get paths.places.items at ≡ Some place → slice_get paths.kinds.items at ≡ Some kind
    → KeepsAt policy p paths at place kind
