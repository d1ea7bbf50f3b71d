-- Where the parts of a node stand, and the nodes and literals one by one.
use Rattle.std.proofs.Common.{◌≡◌, ℕ, zero, suc, ◌+◌, ◌-◌, ◌*◌, ◌/◌, ◌%◌, ◌<◌, ◌≤◌, Bool, true, false, cond, eqb, List, [], ◌∷◌, ◌++◌}
use Rattle.std.proofs.Common.{length, reverse, take, slice_set, refl, ap, sym, ◌∙◌, subst, arith}
use Rattle.std.specs.Prelude.{◌≢◌, Some, slice_get, nat_le}
use Rattle.std.proofs.Common.{inl, inr}
use Rattle.std.proofs.lemmas.Bool.{cases_eq, ne_eqb}
use Rattle.std.proofs.lemmas.Option.{slice_get-get_or}
use Rattle.std.proofs.lemmas.List.{take_more_set, take_all, append_assoc, append-nil}
use Rattle.std.proofs.lemmas.List.FromFn.{length-map-range_with_len, get_or-map-range_with_len}
use Rattle.cert_state.specs.declared.literal.AVal.{AVal}
use Rattle.cert_state.specs.declared.literal.AVal.TheVariants.{Unknown}
use Rattle.cert_form.specs.declared.node.Claim.{Claim}
use Rattle.cert_form.specs.declared.node.Claim.TheVariants.{Knows, Out, Met}
use Rattle.cert_form.specs.Nodes.{literals_in, outs_in, mets_in, on_chain_back, on_chain, said, PlainNode}
use Rattle.cert_form.specs.Reading.{short_at, place_of, nodes_in, version_of, node_count, chain_count, chain_place, own_count, own_end}
use Rattle.cert_form.specs.Reading.{literals_to, parent_at, ones, entries_before, entries_of, claim_at, value_at, node_at, scratch_from}
use Rattle.cert_form.specs.Reading.{long_at, listed_node, chain_node_at, literals_left, outs_left, mets_left, claims_left, has_entries}
use Rattle.cert_form.specs.declared.lent.NodeView.{NodeView}
use Rattle.cert_form.specs.Views.{AreLast, certificate_of, claims_of, is_chained, says}
use Rattle.cert_form.proofs.ChainLaws.{none_at_zero, none_past, count, chain_goes_on, last_first}
use Rattle.cert_form.proofs.ClaimLaws.{in_other_form}
use Rattle.std.specs.List.{AllByRecursion}

-- the chain of a node stands after its values
pub chain_place-after : (bytes : List ℕ) (at : ℕ) → at + 16 ≤ chain_place bytes at
unfolding chain_place
chain_place-after bytes at = by_test (eqb (version_of bytes) 2) where
  by_test : (b : Bool) → at + 16 ≤ cond b (at + 16) (at + 18 + 6 * ones (short_at bytes (at + 16)) 16)
  by_test true = omega arith
  by_test false = omega arith

-- one bit after another
pub ones_step : (bits j : ℕ) → j < 16 → ones bits (16 - j) ≡ bits % 2 + ones (bits / 2) (16 - (j + 1))
unfolding ones
ones_step bits j h = let e : 16 - j ≡ suc (16 - (j + 1)) = omega arith in rw e refl

pub ones_end : (bits j : ℕ) → 16 ≤ j → ones bits (16 - j) ≡ 0
unfolding ones
ones_end bits j h = let e : 16 - j ≡ 0 = omega arith in rw e refl

pub stated_step : (bytes : List ℕ) (at bits j : ℕ) → j < 16 → bits % 2 ≡ 1
    → scratch_from bytes at bits (16 - j) ≡ value_at bytes at ∷ scratch_from bytes (at + 6) (bits / 2) (16 - (j + 1))
unfolding scratch_from
stated_step bytes at bits j h one = let e : 16 - j ≡ suc (16 - (j + 1)) = omega arith in rw (e, one) refl

pub unstated_step : (bytes : List ℕ) (at bits j : ℕ) → j < 16 → (bits % 2 ≡ 1 → ⊥)
    → scratch_from bytes at bits (16 - j) ≡ Unknown ∷ scratch_from bytes at (bits / 2) (16 - (j + 1))
unfolding scratch_from
unstated_step bytes at bits j h other =
    let e : 16 - j ≡ suc (16 - (j + 1)) = omega arith in
    let none : eqb (bits % 2) 1 ≡ false = ne_eqb (bits % 2) 1 other in
    rw (e, none) refl

-- one scratch word more is read
pub one_more : (scratch new : List AVal) (v : AVal) (rest all : List AVal) (bytes : List ℕ) (at bits j : ℕ) → j < length scratch
    → new ≡ slice_set scratch j v → scratch_from bytes at bits (16 - j) ≡ v ∷ rest
    → take j scratch ++ scratch_from bytes at bits (16 - j) ≡ all → take (j + 1) new ++ rest ≡ all
one_more scratch new v rest all bytes at bits j h e f g =
    ap (λ xs. take (j + 1) xs ++ rest) e ∙ (ap (λ xs. xs ++ rest) (take_more_set scratch j v h)
    ∙ (append_assoc (take j scratch) (v ∷ []) rest ∙ (ap (λ xs. take j scratch ++ xs) (sym f) ∙ g)))

-- all sixteen are read
pub all_read : (scratch all : List AVal) (bytes : List ℕ) (at bits j : ℕ) → 16 ≤ j → length scratch ≡ 16
    → take j scratch ++ scratch_from bytes at bits (16 - j) ≡ all → scratch ≡ all
unfolding scratch_from
all_read scratch all bytes at bits j h e g =
    let none : 16 - j ≡ 0 = omega arith in
    sym (append-nil scratch) ∙ (ap (λ xs. xs ++ []) (sym (take_all j scratch (omega (arith, e))))
    ∙ (ap (λ k. take j scratch ++ scratch_from bytes at bits k) (sym none) ∙ g))

-- how many nodes there are, and the one of a number
pub length-nodes_in : (bytes : List ℕ) → length (nodes_in bytes) ≡ node_count bytes
length-nodes_in bytes = length-map-range_with_len (λ i. node_at bytes (place_of bytes i)) 0 (node_count bytes)

pub slice_get-nodes_in : (bytes : List ℕ) (i : ℕ) → i < node_count bytes
    → slice_get (nodes_in bytes) i ≡ Some (node_at bytes (place_of bytes i))
slice_get-nodes_in bytes i h =
    let given : ℕ → PlainNode = λ k. node_at bytes (place_of bytes k) in
    slice_get-get_or (nodes_in bytes) i (given i) (subst (λ n. i < n) (sym (length-nodes_in bytes)) h)
    ∙ ap (λ n. Some n) (get_or-map-range_with_len given 0 (node_count bytes) i i (given i) h (omega arith))

-- no literal is left at 0
pub none_left : (bytes : List ℕ) (at : ℕ) → literals_left bytes at 0 ≡ []
unfolding literals_left
none_left bytes at = by_test (eqb (version_of bytes) 1) (nat_le 0 (own_count bytes at)) where
  by_test : (b d : Bool) → cond b (cond d [] []) (literals_in (on_chain (entries_of bytes) 0)) ≡ []
  by_test true true = refl
  by_test true false = refl
  by_test false d = ap literals_in (none_at_zero (reverse (entries_of bytes)))

-- in the other forms a place is the number of an entry
pub in_chain : (bytes : List ℕ) (at place : ℕ) → version_of bytes ≢ 1
    → literals_left bytes at place ≡ literals_in (on_chain (entries_of bytes) place)
unfolding literals_left
in_chain bytes at place other =
    ap (λ b. cond b (cond (nat_le place (own_count bytes at)) (literals_to bytes (own_end bytes at) place) [])
    (literals_in (on_chain (entries_of bytes) place)))
    (ne_eqb (version_of bytes) 1 other)

-- nothing stands on the chain of 0, or above all entries
pub none_at_0 : (bytes : List ℕ) → on_chain (entries_of bytes) 0 ≡ []
none_at_0 bytes = none_at_zero (reverse (entries_of bytes))

pub none_above : (bytes : List ℕ) (place : ℕ) → chain_count bytes < place → on_chain (entries_of bytes) place ≡ []
none_above bytes place h = none_past (reverse (entries_of bytes)) place (omega (arith, h, count bytes (chain_count bytes)))

-- from an entry on there is what it states, and what the parent has
pub claim_left : (bytes : List ℕ) (place : ℕ) → (place ≡ 0 → ⊥) → place ≤ chain_count bytes
    → parent_at bytes (place - 1) < place - 1 + 1
    → on_chain (entries_of bytes) place ≡ claim_at bytes (16 + 14 * (place - 1) + 4)
    ∷ on_chain (entries_of bytes) (parent_at bytes (place - 1))
claim_left bytes zero some h g = absurd (some refl)
claim_left bytes (suc j) some h g =
    let e : suc j - 1 ≡ j = omega arith in
    chain_goes_on bytes (chain_count bytes) j (omega arith) (subst (λ k. parent_at bytes k < k + 1) e g)
    ∙ ap (λ k. claim_at bytes (16 + 14 * k + 4) ∷ on_chain (entries_of bytes) (parent_at bytes k)) (sym e)

-- ---- rules that are out and conditions that are met, which form 4 alone can state

abbrev IsKnown : Claim → Type 0
IsKnown (Knows l) = Unit {0}
IsKnown (Out i) = ⊥
IsKnown (Met i j) = ⊥

abbrev HasLiterals : List Claim → Type 0
HasLiterals cs = (outs_in cs ≡ []) × (mets_in cs ≡ [])

none_in : (es : List (ℕ × Claim)) (n : ℕ) → AllByRecursion (λ e. IsKnown e.1) es → HasLiterals (on_chain_back es n)
none_in [] n all = (refl, refl)
none_in ((parent, Knows l) ∷ es) n all = by_test (eqb n (suc (length es))) (none_in es parent all.1) (none_in es n all.1) where
  by_test : (b : Bool) → HasLiterals (on_chain_back es parent) → HasLiterals (on_chain_back es n)
      → HasLiterals (cond b (Knows l ∷ on_chain_back es parent) (on_chain_back es n))
  by_test true above other = above
  by_test false above other = other
none_in ((parent, Out i) ∷ es) n all = absurd all.0
none_in ((parent, Met i j) ∷ es) n all = absurd all.0

all_known : (bytes : List ℕ) (c : ℕ) → version_of bytes ≢ 4 → AllByRecursion (λ e. IsKnown e.1) (reverse (entries_before bytes c))
all_known bytes zero form = tt
all_known bytes (suc c) form =
    let here : IsKnown (claim_at bytes (16 + 14 * c + 4)) = subst IsKnown (sym (in_other_form bytes (16 + 14 * c + 4) form)) tt in
    subst (AllByRecursion (λ (e : ℕ × Claim). IsKnown e.1)) (sym (last_first bytes c)) (here, all_known bytes c form)

none_said : (bytes : List ℕ) (at : ℕ) → version_of bytes ≢ 4 → ((node_at bytes at).out ≡ []) × ((node_at bytes at).met ≡ [])
unfolding node_at
none_said bytes at form = by_form (eqb (version_of bytes) 1) where
  by_form : (b : Bool) → ((cond b (listed_node bytes at) (said (version_of bytes) (entries_of bytes) (chain_node_at bytes at))).out ≡ [])
      × ((cond b (listed_node bytes at) (said (version_of bytes) (entries_of bytes) (chain_node_at bytes at))).met ≡ [])
  by_form true = (refl, refl)
  by_form false = none_in (reverse (entries_of bytes)) (chain_node_at bytes at).chain (all_known bytes (chain_count bytes) form)

pub none_out : (bytes : List ℕ) (at : ℕ) → version_of bytes ≢ 4 → (node_at bytes at).out ≡ []
none_out bytes at form = (none_said bytes at form).0

pub none_met : (bytes : List ℕ) (at : ℕ) → version_of bytes ≢ 4 → (node_at bytes at).met ≡ []
none_met bytes at form = (none_said bytes at form).1

pub outs_of : (bytes : List ℕ) (at : ℕ) → version_of bytes ≡ 4
    → (node_at bytes at).out ≡ outs_in (on_chain (entries_of bytes) (long_at bytes (chain_place bytes at)))
unfolding node_at
outs_of bytes at form = rw form refl

pub outs_are : (bytes : List ℕ) (place : ℕ) → version_of bytes ≡ 4 → outs_left bytes place ≡ outs_in (on_chain (entries_of bytes) place)
unfolding outs_left
outs_are bytes place form = rw form refl

pub no_outs : (bytes : List ℕ) (place : ℕ) → version_of bytes ≢ 4 → outs_left bytes place ≡ []
unfolding outs_left
no_outs bytes place form = rw (ne_eqb (version_of bytes) 4 form) refl

pub mets_of : (bytes : List ℕ) (at : ℕ) → version_of bytes ≡ 4
    → (node_at bytes at).met ≡ mets_in (on_chain (entries_of bytes) (long_at bytes (chain_place bytes at)))
unfolding node_at
mets_of bytes at form = rw form refl

pub mets_are : (bytes : List ℕ) (place : ℕ) → version_of bytes ≡ 4 → mets_left bytes place ≡ mets_in (on_chain (entries_of bytes) place)
unfolding mets_left
mets_are bytes place form = rw form refl

pub no_mets : (bytes : List ℕ) (place : ℕ) → version_of bytes ≢ 4 → mets_left bytes place ≡ []
unfolding mets_left
no_mets bytes place form = rw (ne_eqb (version_of bytes) 4 form) refl

-- ---- what a chain states

pub last_of : (some more all : List Claim) → AreLast some more → AreLast more all → AreLast some all
last_of some more all a b = (b.0 ++ a.0, append_assoc b.0 a.0 some ∙ (ap (λ cs. b.0 ++ cs) a.1 ∙ b.1))

pub claims_are : (bytes : List ℕ) (place : ℕ) → version_of bytes ≢ 1 → claims_left bytes place ≡ on_chain (entries_of bytes) place
unfolding claims_left
claims_are bytes place form = rw (ne_eqb (version_of bytes) 1 form) refl

pub no_claims : (bytes : List ℕ) (place : ℕ) → version_of bytes ≡ 1 → claims_left bytes place ≡ []
unfolding claims_left
no_claims bytes place form = rw form refl

-- what a node with a chain says is what the chain states, and one of form 1 says nothing of rules
pub chained_is : (bytes : List ℕ) (at : ℕ) → version_of bytes ≢ 1
    → node_at bytes at ≡ said (version_of bytes) (entries_of bytes) (chain_node_at bytes at)
unfolding node_at
chained_is bytes at form = rw (ne_eqb (version_of bytes) 1 form) refl

pub listed_is : (bytes : List ℕ) (at : ℕ) → version_of bytes ≡ 1 → node_at bytes at ≡ listed_node bytes at
unfolding node_at
listed_is bytes at form = rw form refl

has_entries_is : (bytes : List ℕ) → version_of bytes ≡ 1 → has_entries bytes ≡ false
unfolding has_entries
has_entries_is bytes form = rw form refl

pub known_claimed : (node : NodeView) → is_chained node ≡ true → literals_in (claims_of node) ≡ (says node).known
unfolding says claims_of certificate_of
known_claimed node chained = elim (cases_eq (version_of node.bytes.now) 1) [
  | inl one ↦ absurd (let e : true ≡ false = sym chained ∙ has_entries_is node.bytes.now one in cc)
  | inr other ↦ ap literals_in (claims_are node.bytes.now _ other) ∙ sym (ap (λ (n : PlainNode). n.known) (chained_is node.bytes.now node.at other))
]

pub outs_claimed : (node : NodeView) → outs_in (claims_of node) ≡ (says node).out
unfolding says claims_of
outs_claimed node = elim (cases_eq (version_of node.bytes.now) 1) [
  | inl one ↦
      ap outs_in (no_claims node.bytes.now _ one) ∙ sym (ap (λ (n : PlainNode). n.out) (listed_is node.bytes.now node.at one))
  | inr other ↦ ap outs_in (claims_are node.bytes.now _ other) ∙ sym (ap (λ (n : PlainNode). n.out) (chained_is node.bytes.now node.at other))
]

pub mets_claimed : (node : NodeView) → mets_in (claims_of node) ≡ (says node).met
unfolding says claims_of
mets_claimed node = elim (cases_eq (version_of node.bytes.now) 1) [
  | inl one ↦
      ap mets_in (no_claims node.bytes.now _ one) ∙ sym (ap (λ (n : PlainNode). n.met) (listed_is node.bytes.now node.at one))
  | inr other ↦ ap mets_in (claims_are node.bytes.now _ other) ∙ sym (ap (λ (n : PlainNode). n.met) (chained_is node.bytes.now node.at other))
]
