-- What a node claims of rules, where there is one.
use Rattle.std.specs.Prelude.{ℕ, ◌<◌, List, [], Contains, Option, Some, None}
use Rattle.cert_form.specs.declared.lent.NodeView.{NodeView}
use Rattle.cert_form.specs.Views.{says}

-- the rules that it says to be out; without a node, none
abbrev pub outs_of : Option NodeView → List ℕ
outs_of None = []
outs_of (Some node) = (says node).out

-- the conditions that it says to be met; without a node, none
abbrev pub mets_of : Option NodeView → List (ℕ × ℕ)
mets_of None = []
mets_of (Some node) = (says node).met

-- one of the six conditions of the rule at a place is said to be met
abbrev pub HasOne : List (ℕ × ℕ) → ℕ → Type 0
HasOne met place = (own : ℕ) × (own < 6) × Contains met (place, own)
