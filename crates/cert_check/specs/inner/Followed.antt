-- The claims of a node's chain, and those of them that follow on the way to it.
use Rattle.std.specs.Prelude.{◌≡◌, ℕ, ◌<◌, ◌⊎◌, ⊤, Bool, IsTrue, List, Option, None, Some, slice_get, length, All, Contains}
use Rattle.std.specs.Option.{IsSomeAnd, IsSomeAnd-prop}
use Rattle.std.proofs.Props.{props}
use Rattle.profile.specs.declared.rules.Rule.{Rule}
use Rattle.profile.specs.Policy.{Policy}
use Rattle.cert_state.specs.declared.literal.Lit.{Lit}
use Rattle.cert_state.specs.Entailment.{Entails}
use Rattle.cert_form.specs.declared.node.Claim.{Claim}
use Rattle.cert_form.specs.declared.node.Claim.TheVariants.{Knows, Out, Met}
use Rattle.cert_form.specs.Nodes.{PlainNode}
use Rattle.cert_form.specs.declared.lent.NodeView.{NodeView}
use Rattle.cert_form.specs.Views.{AreLast, claims_from}
use Rattle.cert_check.specs.Agree.{IsRefuted}
use Rattle.cert_check.specs.Rules.{Edge, IsMetBy, IsOutOn, known_on}

-- the profile has the rule of a claim, and the condition
abbrev pub IsPlaced : Policy → Claim → Type 0
IsPlaced policy (Knows l) = ⊤
IsPlaced policy (Out place) = place < length policy.rules
IsPlaced policy (Met place own) = IsSomeAnd (slice_get policy.rules place) (λ rule. own < length rule.conds.items)

-- that has at most one proof, and so has that it holds of all claims, if something tells it
IsPlaced-prop : (policy : Policy) (claim : Claim) → IsProp (IsPlaced policy claim)
IsPlaced-prop policy (Knows l) = hlevel props
IsPlaced-prop policy (Out place) = hlevel props
IsPlaced-prop policy (Met place own) =
    IsSomeAnd-prop (slice_get policy.rules place) (λ rule. own < length rule.conds.items) (λ rule. hlevel props)

pub ArePlaced-prop : (policy : Policy) (told : Bool) (claims : List Claim) → IsProp (IsTrue told → All (IsPlaced policy) claims)
ArePlaced-prop policy told claims = hlevel (props, IsPlaced-prop)

-- the rule of the profile at a place is out: it was among those that were, or what is known refutes it
pub record IsOutBy (policy : Policy) (out : List ℕ) (known : List Lit) (place : ℕ) : Type 0 where
  pub rule : Rule
  pub stands : slice_get policy.rules place ≡ Some rule
  pub reason : Contains out place ⊎ IsRefuted known rule

-- a claim follows from what is known, where these rules were out and these conditions met
abbrev pub FollowsBy : Policy → List ℕ → List (ℕ × ℕ) → List Lit → Claim → Type 0
FollowsBy policy out met known (Knows l) = Entails known l
FollowsBy policy out met known (Out place) = IsOutBy policy out known place
FollowsBy policy out met known (Met place own) = IsMetBy policy met known (place, own)

-- a claim is the fact of an edge
abbrev pub IsFact : Option Lit → Claim → Type 0
IsFact fact (Knows l) = fact ≡ Some l
IsFact fact (Out place) = ⊥
IsFact fact (Met place own) = ⊥

-- each claim is so, or is one of the last
abbrev pub AreBut : (Claim → Type 0) → List Claim → List Claim → Type 0
AreBut P last all = All (λ claim. P claim ⊎ Contains last claim) all

-- The first claim of a node that is not so is at this place, if any is. It is of those from one place of its chain on and
-- up to another.
abbrev pub StopsAt : (Claim → Type 0) → NodeView → ℕ → ℕ → Option ℕ → Type 0
StopsAt P node from end None = AreBut P (claims_from node end) (claims_from node from)
StopsAt P node from end (Some at) =
    AreBut P (claims_from node at) (claims_from node from) × AreLast (claims_from node at) (claims_from node from)
    × (All P (claims_from node from) → ⊥)

-- all that a node claims follows on the way to it
pub record AllFollow (policy : Policy) (n : PlainNode) (e : Edge) (m : PlainNode) : Type 0 where
  pub literals : All (Entails (known_on n e)) m.known
  pub outs : All (IsOutOn policy n e) m.out
  pub mets : All (IsMetBy policy n.met (known_on n e)) m.met
