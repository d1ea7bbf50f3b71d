-- What follows each path keeps each rule.
use Rattle.std.proofs.Common.{◌≡◌, ℕ, ◌<◌, ◌^◌, List, [], ◌∷◌, length, get_or, true}
use Rattle.std.proofs.Common.{sym, refl, ap, subst, ◌∙◌, arith}
use Rattle.std.specs.Prelude.{Some, slice_get, map, All}
use Rattle.std.specs.Option.{option_map}
use Rattle.std.proofs.lemmas.Option.{same_Some, slice_get-map, slice_get_within}
use Rattle.std.proofs.lemmas.List.{length-map}
use Rattle.std.proofs.lemmas.List.Elements.{All-replicate}
use Rattle.bpf_insn.specs.declared.instruction.Insn.{Insn}
use Rattle.profile.specs.Policy.{Policy}
use Rattle.cert_state.specs.declared.literal.AVal.{AVal}
use Rattle.cert_state.specs.declared.literal.AVal.TheVariants.{Unknown}
use Rattle.cert_state.specs.declared.literal.Lit.{Lit}
use Rattle.cert_state.specs.declared.literal.Regs.{Regs}
use Rattle.cert_form.specs.declared.node.ChainNode.{ChainNode}
use Rattle.cert_form.specs.declared.node.Claim.{Claim}
use Rattle.cert_form.specs.declared.node.Claim.TheVariants.{Knows}
use Rattle.cert_form.specs.declared.node.Kind.{Kind}
use Rattle.cert_form.specs.Nodes.{PlainNode, literals, literals_in, mets_in, outs_in, said}
use Rattle.cert_form.specs.Writing.{AreClaimsMeant, IsClaimMeant, all_known}
use Rattle.cert_form.proofs.KnownLaws.{entries_known, length-known, length_known, stated_known}
use Rattle.cert_check.specs.Rules.{IsValid, Keeps}
use Rattle.cert_check.proofs.Elements.{element_at}
use Rattle.certify.specs.declared.paths.Paths.{Paths}
use Rattle.certify.specs.declared.place.Place.{Place}
use Rattle.certify.specs.inner.Places.{AreAt, AreKept, AreNodes, ArePaths, IsPlace, chain_node_of, first_place, node_of}
use Rattle.certify.proofs.ChainFacts.{literals_none}
use Rattle.certify.proofs.GrowLaws.{all_at}

-- ---- what a node says that knows the literals of a chain, in form 4

literals_known : (ls : List Lit) → literals_in (map Knows ls) ≡ ls
literals_known [] = refl
literals_known (l ∷ ls) = ap (λ ms. l ∷ ms) (literals_known ls)

outs_known : (ls : List Lit) → outs_in (map Knows ls) ≡ []
outs_known [] = refl
outs_known (l ∷ ls) = outs_known ls

mets_known : (ls : List Lit) → mets_in (map Knows ls) ≡ []
mets_known [] = refl
mets_known (l ∷ ls) = mets_known ls

said_sharply : (es : List (ℕ × Lit)) (place : Place) (kind : Kind)
    → said 4 (all_known es) (chain_node_of place kind) ≡ node_of es place kind
said_sharply es place kind =
    let plain : List Claim = map Knows (literals es place.chain) in
    ap (λ cs. with_claims (literals_in cs) (outs_in cs) (mets_in cs)) (stated_known es place.chain)
    ∙ (ap (λ ls. with_claims ls (outs_in plain) (mets_in plain)) (literals_known (literals es place.chain))
    ∙ (ap (λ os. with_claims (literals es place.chain) os (mets_in plain)) (outs_known (literals es place.chain))
    ∙ ap (λ ms. with_claims (literals es place.chain) [] ms) (mets_known (literals es place.chain)))) where
      with_claims : List Lit → List ℕ → List (ℕ × ℕ) → PlainNode
      with_claims ls os ms = record { kind = kind; pc = place.pc; regs = place.regs; known = ls; out = os; met = ms; sharp = true }

module _ (s : Paths) (nodes : List ChainNode) (policy : Policy) (p : List Insn) (are : ArePaths s)
    (all : length s.kinds.items ≡ length s.places.items) (made : AreNodes s.places.items s.kinds.items nodes)
    (small : All (λ (node : ChainNode). node.pc < 2 ^ 16) nodes) (kept : AreKept policy p s) where
  abbrev said_by : ChainNode → PlainNode
  said_by = said 4 (all_known s.entries.items)

  abbrev said_all : List PlainNode
  said_all = map said_by nodes

  -- a place has a kind, and its node says what it does
  record HasNode (k : ℕ) (place : Place) : Type 0 where
    kind : Kind
    does : slice_get s.kinds.items k ≡ Some kind
    node : slice_get nodes k ≡ Some (chain_node_of place kind)

  has_node : (k : ℕ) (place : Place) → slice_get s.places.items k ≡ Some place → HasNode k place
  has_node k place there =
      let low : k < length s.kinds.items = omega (arith, slice_get_within s.places.items k place there, all) in
      let does = element_at s.kinds.items k low in
      record { kind = does.0; does = does.1; node = made.each k place does.0 there does.1 }

  said_at : (k : ℕ) (node : ChainNode) → slice_get nodes k ≡ Some node → slice_get said_all k ≡ Some (said_by node)
  said_at k node there = slice_get-map said_by nodes k ∙ ap (option_map said_by) there

  are_at : AreAt said_all s.entries.items s.places.items
  are_at k place there =
      let has = has_node k place there in
      record {
        node = node_of s.entries.items place has.kind;
        there = said_at k (chain_node_of place has.kind) has.node ∙ ap Some (said_sharply s.entries.items place has.kind);
        pc_is = refl;
        regs_are = refl;
        known_is = refl;
        none_out = refl;
        none_met = refl;
      }

  -- a node is that of a place
  record IsOf (k : ℕ) (node : ChainNode) : Type 0 where
    place : Place
    there : slice_get s.places.items k ≡ Some place
    has : HasNode k place
    is : chain_node_of place has.kind ≡ node

  is_of : (k : ℕ) (node : ChainNode) → slice_get nodes k ≡ Some node → IsOf k node
  is_of k node found =
      let many = made.many in
      let low : k < length s.places.items = omega (arith, slice_get_within nodes k node found, many, all) in
      let place = element_at s.places.items k low in
      let has = has_node k place.0 place.1 in
      record {
        place = place.0;
        there = place.1;
        has = has;
        is = same_Some (chain_node_of place.0 has.kind) node (sym has.node ∙ found);
      }

  meant_at : (k : ℕ) (node : ChainNode) → slice_get nodes k ≡ Some node → IsClaimMeant (all_known s.entries.items) node
  meant_at k node found =
      let of = is_of k node found in
      let place = of.place in
      let is : IsPlace s.entries.items of.place = all_at (IsPlace s.entries.items) s.places.items k of.place are.places of.there in
      let low : of.place.pc < 2 ^ 16 =
      subst (λ (n : ChainNode). n.pc < 2 ^ 16) (sym of.is) (all_at (λ (n : ChainNode). n.pc < 2 ^ 16) nodes k node small found) in
      subst (IsClaimMeant (all_known s.entries.items)) of.is (record {
        kind = (kept k of.place of.has.kind of.there of.has.does).0;
        pc = low;
        values = is.values;
        chain = let chain = is.chain in let e = length-known s.entries.items in omega (arith, chain, e);
        few =
            let depth = is.depth in
            let few = is.few in
            let e = length_known s.entries.items of.place.chain in
            omega (arith, depth, few, e);
      })

  pub meant : AreClaimsMeant (all_known s.entries.items) nodes
  meant = record {
    entries = entries_known 4 s.entries.items are.entries;
    nodes = λ k d lt. meant_at k (get_or nodes k d) (Rattle.std.proofs.lemmas.Option.slice_get-get_or nodes k d lt);
  }

  keeps_at : (k : ℕ) (n : PlainNode) → slice_get said_all k ≡ Some n → Keeps policy p said_all k n
  keeps_at k n found =
      let low : k < length nodes = omega (arith, slice_get_within said_all k n found, length-map nodes said_by) in
      let node = element_at nodes k low in
      let of = is_of k node.0 node.1 in
      let same : node_of s.entries.items of.place of.has.kind ≡ n =
      sym (said_sharply s.entries.items of.place of.has.kind) ∙ ap said_by of.is
      ∙ same_Some (said_by node.0) n (sym (said_at k node.0 node.1) ∙ found) in
      subst (Keeps policy p said_all k) same ((kept k of.place of.has.kind of.there of.has.does).1 said_all are_at)

  pub valid : IsValid policy p said_all
  valid =
      let at = are_at 0 first_place are.first in
      record {
        root = record {
          root = at.node;
          first = at.there;
          at_first = at.pc_is;
          nothing = at.known_is ∙ literals_none s.entries.items;
          none_out = at.none_out;
          none_met = at.none_met;
          a_is_zero = ap (λ (r : Regs). r.a) at.regs_are;
          x_is_zero = ap (λ (r : Regs). r.x) at.regs_are;
          none_stated = subst (λ (r : Regs). All (λ (v : AVal). v ≡ Unknown) r.scratch) (sym at.regs_are)
              (All-replicate (λ (v : AVal). v ≡ Unknown) 16 Unknown refl);
        };
        each = keeps_at;
      }
