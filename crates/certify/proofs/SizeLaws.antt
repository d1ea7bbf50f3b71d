-- What is made of a filter of calls is within the limits of a certificate.
use Rattle.std.proofs.Common.{◌≡◌, ℕ, ◌+◌, ◌*◌, ◌<◌, ◌≤◌, Bool, true, false, cond, eqb, List, [], ◌∷◌, ◌++◌, length}
use Rattle.std.proofs.Common.{refl, arith, inl, inr, subst, sym}
use Rattle.std.specs.Prelude.{All}
use Rattle.std.specs.List.{flat_map}
use Rattle.std.proofs.lemmas.List.{length-append}
use Rattle.std.proofs.lemmas.List.Elements.{All-head, All-tail}
use Rattle.byteorder.specs.Endian.{little_bytes}
use Rattle.cert_state.specs.declared.literal.AVal.{AVal}
use Rattle.cert_state.specs.declared.literal.AVal.TheVariants.{Unknown, Const, Masked}
use Rattle.cert_form.specs.declared.fault.FormError.{FormError}
use Rattle.cert_form.specs.declared.fault.FormError.TheVariants.{BadMagic, BadVersion, Truncated, BadNode, BadCount, Trailing, OutOfMemory}
use Rattle.cert_form.specs.declared.node.ChainNode.{ChainNode}
use Rattle.cert_form.specs.declared.node.Kind.{Kind}
use Rattle.cert_form.specs.declared.node.Kind.TheVariants.{Step, Split, Return, Dead}
use Rattle.cert_form.specs.Reading.{tail_length}
use Rattle.cert_form.specs.Spelling.{chain_node, chained, entry, if_stated, kind_number, magic, offsets, scratch, stated_bits}
use Rattle.cert_form.specs.declared.node.Claim.{Claim}
use Rattle.cert_form.specs.Writing.{AreClaimsWritable, ClaimsRefused}
use Rattle.cert_form.proofs.PartLaws.{length-value}
use Rattle.cert_form.proofs.WalkLaws.{length-entries, length-offsets}
use Rattle.cert_form.proofs.WriteLaws.{length-chained}
use Rattle.std.proofs.lemmas.Option.{get_or_from_slice_get, slice_get_within}
use Rattle.cert_check.proofs.Elements.{element_at}
use Rattle.certify.specs.declared.paths.Paths.{Paths}
use Rattle.certify.specs.inner.Places.{AreNodes, ArePaths, IsPlace, chain_node_of, first_place}
use Rattle.certify.proofs.GrowLaws.{all_at}

one_stated : (v : AVal) → length (if_stated v) ≤ 6
one_stated Unknown = omega arith
one_stated (Const c) = omega (arith, length-value (Const c))
one_stated (Masked w m) = omega (arith, length-value (Masked w m))

all_stated : (vs : List AVal) → length (flat_map if_stated vs) ≤ 6 * length vs
all_stated [] = omega arith
all_stated (v ∷ vs) = omega (arith, length-append (if_stated v) (flat_map if_stated vs), one_stated v, all_stated vs)

scratch_short : (vs : List AVal) → length vs ≡ 16 → length (scratch vs) ≤ 98
scratch_short vs sixteen =
    omega (arith, length-append (little_bytes 2 (stated_bits vs)) (flat_map if_stated vs), all_stated vs, sixteen)

part_short : (b : Bool) (vs : List AVal) → length vs ≡ 16 → length (cond b [] (scratch vs)) ≤ 98
part_short true vs sixteen = omega arith
part_short false vs sixteen = scratch_short vs sixteen

tail_short : (k : Kind) → tail_length (kind_number k) ≤ 28
tail_short (Step first second) = omega arith
tail_short (Split a b first second) = omega arith
tail_short Return = omega arith
tail_short Dead = omega arith

node_short : (n : ChainNode) → length n.regs.scratch ≡ 16 → length (chain_node 4 n) ≤ 146
node_short n sixteen =
    omega (arith, length-chained 4 n, part_short (eqb 4 2) n.regs.scratch sixteen, tail_short n.kind)

nodes_short : (ns : List ChainNode) → All (λ (n : ChainNode). length n.regs.scratch ≡ 16) ns → length (flat_map (chain_node 4) ns) ≤ 146 * length ns
nodes_short [] all = omega arith
nodes_short (n ∷ ns) all =
    let P : ChainNode → Type 0 = λ n. length n.regs.scratch ≡ 16 in
    omega (
      arith,
      length-append (chain_node 4 n) (flat_map (chain_node 4) ns),
      node_short n (All-head P n ns all),
      nodes_short ns (All-tail P n ns all),
    )

file_short : (fs : List (ℕ × Claim)) (ns : List ChainNode) → All (λ (n : ChainNode). length n.regs.scratch ≡ 16) ns
    → length (chained 4 fs ns) ≤ 16 + 14 * length fs + 150 * length ns
file_short fs ns all =
    let h1 : List ℕ = magic ++ little_bytes 4 4 in
    let h2 : List ℕ = h1 ++ little_bytes 4 (length ns) in
    let h3 : List ℕ = h2 ++ little_bytes 4 (length fs) in
    let h4 : List ℕ = h3 ++ flat_map entry fs in
    let at = 16 + 14 * length fs + 4 * length ns in
    let h5 : List ℕ = h4 ++ offsets 4 at ns in
    omega (
      arith,
      length-append h5 (flat_map (chain_node 4) ns),
      length-append h4 (offsets 4 at ns),
      length-append h3 (flat_map entry fs),
      length-append h2 (little_bytes 4 (length fs)),
      length-append h1 (little_bytes 4 (length ns)),
      length-append magic (little_bytes 4 4),
      length-entries fs,
      length-offsets 4 at ns,
      nodes_short ns all,
    )

-- so few nodes and entries are written, unless memory is refused
pub only_memory : (fs : List (ℕ × Claim)) (ns : List ChainNode) → All (λ (n : ChainNode). length n.regs.scratch ≡ 16) ns
    → 0 < length ns → length ns ≤ 16384 → length fs ≤ 16384 → AreClaimsWritable fs ns
only_memory fs ns all some few few_entries = λ e. by e where
  by : (e : FormError) → ClaimsRefused e fs ns → e ≡ OutOfMemory
  by OutOfMemory h = refl
  by BadCount (inl none) = absurd (omega (arith, none, some))
  by BadCount (inr (inl many)) = absurd (omega (arith, many, few))
  by BadCount (inr (inr (inl many))) = absurd (omega (arith, many, few_entries))
  by BadCount (inr (inr (inr long))) = absurd (omega (arith, long, few, few_entries, file_short fs ns all))
  by BadNode h = absurd h
  by BadMagic h = absurd h
  by BadVersion h = absurd h
  by Truncated h = absurd h
  by Trailing h = absurd h

-- ---- the nodes of places

pub sixteen_each : (s : Paths) (nodes : List ChainNode) → ArePaths s → length s.kinds.items ≡ length s.places.items
    → AreNodes s.places.items s.kinds.items nodes → All (λ (n : ChainNode). length n.regs.scratch ≡ 16) nodes
sixteen_each s nodes are all made k d low =
    let many = made.many in
    let place = element_at s.places.items k (omega (arith, low, many, all)) in
    let kind = element_at s.kinds.items k (omega (arith, low, many, all)) in
    let is = all_at (IsPlace s.entries.items) s.places.items k place.0 are.places place.1 in
    let there = made.each k place.0 kind.0 place.1 kind.1 in
    subst (λ (n : ChainNode). length n.regs.scratch ≡ 16) (sym (get_or_from_slice_get nodes k (chain_node_of place.0 kind.0) d there))
    is.values.sixteen

pub some_places : (s : Paths) → ArePaths s → 0 < length s.places.items
some_places s are = let low = slice_get_within s.places.items 0 first_place are.first in omega (arith, low)
