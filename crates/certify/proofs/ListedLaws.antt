-- Nodes are those of places, one after the other.
use Rattle.std.proofs.Common.{◌≡◌, ℕ, ◌+◌, ◌<◌, List, [], ◌∷◌, ◌++◌, length, get_or, sym, ap, ◌∙◌, arith, ⊎_elim}
use Rattle.std.specs.Prelude.{Some, slice_get}
use Rattle.std.proofs.lemmas.Bool.{cases_eq}
use Rattle.std.proofs.lemmas.Option.{get_or_from_slice_get}
use Rattle.profile.proofs.KeptLaws.{slice_get_last, slice_get_left}
use Rattle.cert_form.specs.declared.node.ChainNode.{ChainNode}
use Rattle.cert_form.specs.declared.node.Kind.{Kind}
use Rattle.certify.specs.declared.place.Place.{Place}
use Rattle.certify.specs.inner.Places.{chain_node_of}

-- the first nodes are those of the first places
abbrev pub AreFirst : List Place → List Kind → List ChainNode → ℕ → Type 0
AreFirst places kinds nodes n =
    (k : ℕ) (place : Place) (kind : Kind) → k < n → slice_get places k ≡ Some place → slice_get kinds k ≡ Some kind
    → slice_get nodes k ≡ Some (chain_node_of place kind)

pub first_more : (places : List Place) (kinds : List Kind) (nodes more : List ChainNode) (n m : ℕ) (at : Place) (does : Kind)
    → length nodes ≡ n → m ≡ n + 1 → more ≡ nodes ++ chain_node_of at does ∷ [] → ((d : Place) → at ≡ get_or places n d)
    → ((d : Kind) → does ≡ get_or kinds n d) → AreFirst places kinds nodes n → AreFirst places kinds more m
first_more places kinds nodes more n m at does long next grown at_is does_is first k place kind low there told = ⊎_elim
    (λ (is : k ≡ n).
    let here : k ≡ length nodes = omega (arith, is, long) in
    let same : at ≡ place =
    at_is place ∙ ap (λ j. get_or places j place) (sym is) ∙ get_or_from_slice_get places k place place there in
    let same_kind : does ≡ kind = does_is kind ∙ ap (λ j. get_or kinds j kind) (sym is) ∙ get_or_from_slice_get kinds k kind kind told in
    ap (λ xs. slice_get xs k) grown ∙ ap (λ j. slice_get (nodes ++ chain_node_of at does ∷ []) j) here
    ∙ slice_get_last nodes (chain_node_of at does)
    ∙ ap (λ x. Some (chain_node_of x does)) same ∙ ap (λ x. Some (chain_node_of place x)) same_kind)
    (λ (not : k ≡ n → ⊥).
    ap (λ xs. slice_get xs k) grown
    ∙ slice_get_left nodes (chain_node_of at does ∷ []) k (omega (arith, low, not, long, next))
    ∙ first k place kind (omega (arith, low, not, next)) there told)
    (cases_eq k n)
