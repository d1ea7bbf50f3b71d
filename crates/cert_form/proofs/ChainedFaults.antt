-- What is spelled has no fault, and its nodes are those that are read.
use Rattle.std.proofs.Common.{◌≡◌, ℕ, ◌<◌, ◌^◌, List, length, get_or, map, ap, sym, ◌∙◌, inl, inr, arith}
use Rattle.std.specs.Prelude.{Some, slice_get, option_map}
use Rattle.std.proofs.lemmas.List.{same_lists, length-map}
use Rattle.std.proofs.lemmas.Option.{get_or_from_slice_get, slice_get-map}
use Rattle.cert_form.specs.declared.node.Claim.{Claim}
use Rattle.cert_form.specs.declared.fault.FormError.{FormError}
use Rattle.cert_form.specs.declared.fault.FormError.TheVariants.{BadMagic, BadVersion, Truncated, BadNode, BadCount, Trailing, OutOfMemory}
use Rattle.cert_form.specs.declared.node.ChainNode.{ChainNode}
use Rattle.cert_form.specs.Nodes.{PlainNode, said}
use Rattle.cert_form.specs.Spelling.{IsChained, SpellsChained}
use Rattle.cert_form.specs.Reading.{entries_of, version_of, chain_node_at, place_of, nodes_in}
use Rattle.cert_form.specs.Faults.{HasBadPart, HasBadCount, EndsEarly, Faulty}
use Rattle.cert_form.proofs.ReadLaws.{length-nodes_in, slice_get-nodes_in}
use Rattle.cert_form.proofs.WalkLaws.{Whole, whole, node_stands, last_end, offset_is, entry_stands, entry_not_bad, at_place, not_1}
use Rattle.cert_form.proofs.WalkLaws.{entries_are}
use Rattle.cert_form.proofs.ChainedLaws.{in_chain}

chained_version : (version : ℕ) → IsChained version → version < 2 ^ 32
chained_version version known = omega (arith, known.1)

no_bad_part : (version : ℕ) (bytes : List ℕ) (es : List (ℕ × Claim)) (ns : List ChainNode) → IsChained version
    → Whole version bytes es ns
    → SpellsChained version bytes es ns → HasBadPart bytes → ⊥
no_bad_part version bytes es ns known w s (HasBadPart.entry j room form less bad) =
    let h : j < length es = omega (arith, less, w.chains) in
    let p = at_place es j h in
    entry_not_bad bytes version j p.0 _ (entry_stands bytes es _ w.entries j h) (s.entries j p.0 p.2) w.form
    (omega (arith, h, s.few_entries)) bad
no_bad_part version bytes es ns known w s (HasBadPart.offset i room form less bad) =
    bad (offset_is version bytes es ns known w s i (omega (arith, less, w.nodes)))
no_bad_part version bytes es ns known w s (HasBadPart.listed i form less bad) = not_1 version known (version_of bytes) w.form form
no_bad_part version bytes es ns known w s (HasBadPart.chained i room form less bad) =
    (node_stands version bytes es ns known w s i (omega (arith, less, w.nodes))).again.sound bad

no_bad_count : (version : ℕ) (bytes : List ℕ) (es : List (ℕ × Claim)) (ns : List ChainNode) → IsChained version
    → Whole version bytes es ns
    → SpellsChained version bytes es ns → HasBadCount bytes → ⊥
no_bad_count version bytes es ns known w s (HasBadCount.size large) = omega (arith, large, s.short)
no_bad_count version bytes es ns known w s (HasBadCount.no_nodes room none) = omega (arith, none, w.nodes, s.some)
no_bad_count version bytes es ns known w s (HasBadCount.nodes room many) = omega (arith, many, w.nodes, s.few)
no_bad_count version bytes es ns known w s (HasBadCount.entries room form many) = omega (arith, many, w.chains, s.few_entries)
no_bad_count version bytes es ns known w s (HasBadCount.own_literals i form less room many) =
    not_1 version known (version_of bytes) w.form form

no_end : (version : ℕ) (bytes : List ℕ) (es : List (ℕ × Claim)) (ns : List ChainNode) → IsChained version
    → Whole version bytes es ns
    → SpellsChained version bytes es ns → EndsEarly bytes → ⊥
no_end version bytes es ns known w s (inl short) = omega (arith, short, w.entries.room, w.entries.ends)
no_end version bytes es ns known w s (inr (i, less, short)) =
    let one = node_stands version bytes es ns known w s i (omega (arith, less, w.nodes)) in
    omega (arith, short, one.again.ends, one.stands.room)

pub chained_no_fault : (version : ℕ) (bytes : List ℕ) (es : List (ℕ × Claim)) (ns : List ChainNode) → IsChained version
    → SpellsChained version bytes es ns
    → (e : FormError) → Faulty e bytes → ⊥
chained_no_fault version bytes es ns known s BadMagic bad = bad (whole version bytes es ns (chained_version version known) s).first
chained_no_fault version bytes es ns known s BadVersion bad =
    let form = (whole version bytes es ns (chained_version version known) s).form in
    omega (arith, form, known.0, known.1, bad.not_2, bad.not_3, bad.not_4)
chained_no_fault version bytes es ns known s Truncated bad =
    no_end version bytes es ns known (whole version bytes es ns (chained_version version known) s) s bad
chained_no_fault version bytes es ns known s BadNode bad = no_bad_part version bytes es ns known
    (whole version bytes es ns (chained_version version known) s) s bad
chained_no_fault version bytes es ns known s BadCount bad = no_bad_count version bytes es ns known
    (whole version bytes es ns (chained_version version known) s) s bad
chained_no_fault version bytes es ns known s Trailing bad =
    let w = whole version bytes es ns (chained_version version known) s in
    omega (arith, bad, ap (λ k. place_of bytes k) w.nodes, last_end version bytes es ns known w s)
chained_no_fault version bytes es ns known s OutOfMemory bad =
    not_1 version known (version_of bytes) (whole version bytes es ns (chained_version version known) s).form bad

-- the nodes that are read are those that were spelled
pub chained_nodes : (version : ℕ) (bytes : List ℕ) (es : List (ℕ × Claim)) (ns : List ChainNode) → IsChained version
    → SpellsChained version bytes es ns
    → nodes_in bytes ≡ map (said version es) ns
chained_nodes version bytes es ns known s =
    let w = whole version bytes es ns (chained_version version known) s in
    same_lists (nodes_in bytes) (map (said version es) ns)
    (length-nodes_in bytes ∙ (w.nodes ∙ sym (length-map ns (said version es))))
    (λ k d less. each w k d (omega (arith, less, length-nodes_in bytes, w.nodes))) where
      each : Whole version bytes es ns → (k : ℕ) (d : PlainNode) → k < length ns
          → get_or (nodes_in bytes) k d ≡ get_or (map (said version es) ns) k d
      each w k d less =
          let one = node_stands version bytes es ns known w s k less in
          let here : slice_get (nodes_in bytes) k ≡ Some (said version es one.n) =
          slice_get-nodes_in bytes k (omega (arith, less, w.nodes))
          ∙ ap (λ n. Some n) (in_chain bytes (place_of bytes k) (not_1 version known (version_of bytes) w.form)
          ∙ (ap (λ v. said v (entries_of bytes) (chain_node_at bytes (place_of bytes k))) w.form
          ∙ (ap (λ fs. said version fs (chain_node_at bytes (place_of bytes k))) (entries_are version bytes es ns w s)
          ∙ ap (λ n. said version es n) one.again.same))) in
          let there : slice_get (map (said version es) ns) k ≡ Some (said version es one.n) = slice_get-map (said version es) ns k
          ∙ ap (λ o. option_map (said version es) o) one.got in
          get_or_from_slice_get (nodes_in bytes) k (said version es one.n) d here
          ∙ sym (get_or_from_slice_get (map (said version es) ns) k (said version es one.n) d there)
