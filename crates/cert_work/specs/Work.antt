-- How much a check of a certificate asks. The work of a certificate is a sum over its nodes: the node's literals, what each of its successors
-- states, and at a return the rules about which is asked. What a successor states is 2 for each literal and for each condition that is met. A
-- rule is 1, and 1 for each of its conditions.
use Rattle.std.specs.Prelude.{◌≡◌, ℕ, zero, suc, ◌+◌, ◌*◌, ◌≤◌, ◌<◌, ◌⊎◌, ◌&&◌, Bool, nat_le, if◌then◌else◌}
use Rattle.std.specs.Prelude.{List, [], ◌∷◌, length, slice_get, Option, Some, None, MatchOption}
use Rattle.profile.specs.declared.rules.Rule.{Rule}
use Rattle.profile.specs.Policy.{Policy}
use Rattle.cert_state.specs.declared.literal.Lit.{Lit}
use Rattle.cert_state.specs.declared.literal.Lit.TheVariants.{NotBits}
use Rattle.cert_state.specs.Literals.{all_bits}
use Rattle.cert_state.specs.Points.{IsRange}
use Rattle.cert_state.specs.Entailment.{Entails}
use Rattle.cert_form.specs.declared.node.Kind.{Kind}
use Rattle.cert_form.specs.declared.node.Kind.TheVariants.{Step, Split, Return, Dead}
use Rattle.cert_form.specs.Nodes.{PlainNode}
use Rattle.cert_form.specs.Spelling.{Spells}

abbrev pub weight : Rule → ℕ
weight rule = 1 + length rule.conds.items

-- the weight of the rule at a place, or 1 where no rule is
abbrev pub weight_at : Option Rule → ℕ
weight_at None = 1
weight_at (Some rule) = weight rule

-- the weights of rules by their places
abbrev pub weights_at : List Rule → List ℕ → ℕ
weights_at rules [] = 0
weights_at rules (place ∷ places) = weight_at (slice_get rules place) + weights_at rules places

-- the weight of a rule whose number lies between two numbers
abbrev pub is_between : ℕ → ℕ → Rule → Bool
is_between low high rule = nat_le low rule.nr && nat_le rule.nr high

abbrev pub weight_between : ℕ → ℕ → Rule → ℕ
weight_between low high rule = if is_between low high rule then weight rule else 0

abbrev pub weights_between : ℕ → ℕ → List Rule → ℕ
weights_between low high [] = 0
weights_between low high (rule ∷ rules) = weight_between low high rule + weights_between low high rules

-- what a node states, as a successor
abbrev pub stated : List Rule → PlainNode → ℕ
stated rules n = 2 * length n.known + (2 * length n.met + weights_at rules n.out)

abbrev pub stated_by : List Rule → Option PlainNode → ℕ
stated_by rules None = 0
stated_by rules (Some n) = stated rules n

-- what the successors of a node state
abbrev pub stated_next : List Rule → List PlainNode → Kind → ℕ
stated_next rules ns (Step first second) = stated_by rules (slice_get ns first) + stated_by rules (slice_get ns second)
stated_next rules ns (Split a b first second) = stated_by rules (slice_get ns first) + stated_by rules (slice_get ns second)
stated_next rules ns Return = 0
stated_next rules ns Dead = 0

-- the range of the call's number, whose least one is not known to be another
pub record IsOpenRange (known : List Lit) (low high : ℕ) : Type 0 where
  pub range : IsRange known 0 low high
  pub is_open : Entails known (NotBits 0 all_bits low) → ⊥

-- The numbers about which is asked lie between these two: they are that range, or all numbers if there is none.
abbrev pub AreAsked : List Lit → ℕ → ℕ → Type 0
AreAsked known low high =
    IsOpenRange known low high ⊎ (((a b : ℕ) → IsOpenRange known a b → ⊥) × (low ≡ 0) × (high ≡ all_bits))

-- the weights of the rules of these numbers, at a return
abbrev pub IsAsked : List Rule → List Lit → Kind → ℕ → Type 0
IsAsked rules known Return w = (low : ℕ) × (high : ℕ) × AreAsked known low high × (w ≡ weights_between low high rules)
IsAsked rules known (Step first second) w = w ≡ 0
IsAsked rules known (Split a b first second) w = w ≡ 0
IsAsked rules known Dead w = w ≡ 0

-- the work at a node
pub record IsWorkAt (rules : List Rule) (ns : List PlainNode) (n : PlainNode) (w : ℕ) : Type 0 where
  pub asked : ℕ
  pub is_asked : IsAsked rules n.known n.kind asked
  pub sum : w ≡ length n.known + (stated_next rules ns n.kind + asked)

-- the work at the first nodes, so many
abbrev pub IsWorkOf : List Rule → List PlainNode → ℕ → ℕ → Type 0
IsWorkOf rules ns zero w = w ≡ 0
IsWorkOf rules ns (suc k) w =
    (before : ℕ) × (own : ℕ) × (n : PlainNode) × IsWorkOf rules ns k before × (slice_get ns k ≡ Some n) × IsWorkAt rules ns n own × (w ≡ before + own)

-- the most work that a certificate may have
abbrev pub most_work : ℕ
most_work = 6291456

-- the work at all nodes is no more than that
abbrev pub AreWithin : List Rule → List PlainNode → Type 0
AreWithin rules ns = (w : ℕ) × IsWorkOf rules ns (length ns) w × (w ≤ most_work)

-- so of bytes, where they are a certificate
abbrev pub IsWithin : Policy → List ℕ → Type 0
IsWithin policy cert = (ns : List PlainNode) → Spells cert ns → AreWithin policy.rules ns

-- what is left once a cost is paid, if it suffices
abbrev pub Pays : ℕ → ℕ → Option ℕ → Type 0
Pays left cost result = MatchOption result (left < cost) (λ r. r + cost ≡ left)

-- the same of a cost that is of some kind
abbrev pub PaysOne : ℕ → (ℕ → Type 0) → Option ℕ → Type 0
PaysOne left Cost result = MatchOption result ((w : ℕ) × Cost w × (left < w)) (λ r. (w : ℕ) × Cost w × (r + w ≡ left))
