-- A certificate of form 2, 3 or 4 whose parts were all judged sound is spelled.
use Rattle.std.proofs.Common.{◌≡◌, ℕ, zero, suc, ◌+◌, ◌*◌, ◌<◌, ◌≤◌, List, [], ◌∷◌, ◌++◌, length, drop, map, refl, ap, sym, ◌∙◌, subst}
use Rattle.std.proofs.Common.{inl, inr, arith}
use Rattle.std.specs.Prelude.{◌≢◌, ◌⊎◌, Some, slice_get}
use Rattle.std.specs.List.{flat_map, range_with_len, AllByRecursion}
use Rattle.std.proofs.lemmas.Bool.{cases_lt}
use Rattle.std.proofs.lemmas.Option.{get_or_from_slice_get, slice_get_within}
use Rattle.std.proofs.lemmas.List.{append-nil, length-append, length-reverse, get_or_push, take-append-drop}
use Rattle.std.proofs.lemmas.List.Elements.{All-from_recursion}
use Rattle.std.proofs.lemmas.Grind.{flat_map-append}
use Rattle.byteorder.specs.Endian.{little_bytes}
use Rattle.cert_form.specs.declared.node.Claim.{Claim}
use Rattle.cert_form.specs.declared.node.ChainNode.{ChainNode}
use Rattle.cert_form.specs.Nodes.{said}
use Rattle.cert_form.specs.Spelling.{magic, entry, offsets, chain_node, chained, IsEntry, IsChainNode, SpellsSaid}
use Rattle.cert_form.specs.Reading.{long_at, entry_at, entries_before, entries_of, version_of, node_count, chain_count, chain_node_at}
use Rattle.cert_form.specs.Reading.{node_at, node_end, place_of, offset_at, nodes_in}
use Rattle.cert_form.specs.inner.Standing.{Stands, AreEntriesThere, AreChainedThere, IsTopOfFile}
use Rattle.cert_form.proofs.StandLaws.{AreBytes, both, ended, other, none_stands, all_is, long_stands}
use Rattle.cert_form.proofs.ChainLaws.{count}
use Rattle.cert_form.proofs.ChainedLaws.{length-entries_of, in_chain}
use Rattle.cert_form.proofs.PlaceLaws.{next_place, first_chained}

-- the entries up to a number
entries_stand : (bytes : List ℕ) (n : ℕ) → 16 ≤ length bytes
    → ((j : ℕ) → j < n → Stands bytes (16 + 14 * j) (entry (entry_at bytes j)) (16 + 14 * j + 14))
    → Stands bytes 16 (flat_map entry (entries_before bytes n)) (16 + 14 * n)
entries_stand bytes zero room all = ended bytes 16 [] 16 (16 + 14 * 0) (none_stands bytes 16 room) (omega arith)
entries_stand bytes (suc n) room all =
    let before = entries_stand bytes n room (λ j h. all j (omega (arith, h))) in
    let joined : Stands bytes 16 (flat_map entry (entries_before bytes n) ++ entry (entry_at bytes n)) (16 + 14 * suc n) =
    both bytes 16 _ (16 + 14 * n) (16 + 14 * n) (entry (entry_at bytes n)) (16 + 14 * suc n) before
    (ended bytes (16 + 14 * n) _ (16 + 14 * n + 14) (16 + 14 * suc n) (all n (omega arith)) (omega arith)) refl in
    other bytes 16 _ _ (16 + 14 * suc n) joined
    (sym (flat_map-append entry (entries_before bytes n) (entry_at bytes n ∷ [])
    ∙ ap (λ (xs : List ℕ). flat_map entry (entries_before bytes n) ++ xs) (append-nil (entry (entry_at bytes n)))))

pub entries_spelled : (bytes : List ℕ) → 16 ≤ length bytes → AreEntriesThere bytes
    → Stands bytes 16 (flat_map entry (entries_of bytes)) (16 + 14 * chain_count bytes)
entries_spelled bytes room all = entries_stand bytes (chain_count bytes) room (λ j h. (all j h).stands)

slice_get_front : {X : Type 0} (xs ys : List X) (i : ℕ) → i < length xs → slice_get (xs ++ ys) i ≡ slice_get xs i
slice_get_front [] ys i h = absurd (omega (arith, h))
slice_get_front (x ∷ xs) ys zero h = refl
slice_get_front (x ∷ xs) ys (suc i) h = slice_get_front xs ys i (omega arith)

-- the entry of a number
entry_got : (bytes : List ℕ) (n j : ℕ) (e : ℕ × Claim) → slice_get (entries_before bytes n) j ≡ Some e → (j < n) × (entry_at bytes j ≡ e)
entry_got bytes zero j e got = absurd cc
entry_got bytes (suc n) j e got = by_place (cases_lt j n) (entry_got bytes n j e) where
  len : length (entries_before bytes n) ≡ n
  len = sym (length-reverse (entries_before bytes n)) ∙ count bytes n

  by_place : (j < n) ⊎ (n ≤ j) → (slice_get (entries_before bytes n) j ≡ Some e → (j < n) × (entry_at bytes j ≡ e))
      → (j < suc n) × (entry_at bytes j ≡ e)
  by_place (inl less) rest =
      let one = rest (sym (slice_get_front (entries_before bytes n) (entry_at bytes n ∷ []) j (omega (arith, less, len))) ∙ got) in
      (omega (arith, less), one.1)
  by_place (inr le) rest =
      let within = slice_get_within (entries_before bytes (suc n)) j e got in
      let here : j ≡ n = omega (arith, le, within, length-append (entries_before bytes n) (entry_at bytes n ∷ []), len) in (
        omega (arith, here),
        ap (λ k. entry_at bytes k) here
            ∙ (sym (get_or_push (entries_before bytes n) (entry_at bytes n) e j (omega (arith, len, here)))
            ∙ get_or_from_slice_get (entries_before bytes (suc n)) j e e got),
      )

-- ---- nodes

abbrev chained_nodes : List ℕ → ℕ → ℕ → List ChainNode
chained_nodes bytes k zero = []
chained_nodes bytes k (suc n) = chain_node_at bytes (place_of bytes k) ∷ chained_nodes bytes (k + 1) n

length-chained_nodes : (bytes : List ℕ) (k n : ℕ) → length (chained_nodes bytes k n) ≡ n
length-chained_nodes bytes k zero = refl
length-chained_nodes bytes k (suc n) = ap suc (length-chained_nodes bytes (k + 1) n)

nodes_spelled : (bytes : List ℕ) (k n : ℕ) → place_of bytes k ≤ length bytes
    → ((i : ℕ) → i < k + n → Stands bytes (place_of bytes i) (chain_node (version_of bytes) (chain_node_at bytes (place_of bytes i)))
    (node_end bytes (place_of bytes i)))
    → Stands bytes (place_of bytes k) (flat_map (chain_node (version_of bytes)) (chained_nodes bytes k n)) (place_of bytes (k + n))
nodes_spelled bytes k zero room all =
    let same : k ≡ k + 0 = omega arith in
    ended bytes (place_of bytes k) [] (place_of bytes k) (place_of bytes (k + 0)) (none_stands bytes (place_of bytes k) room)
    (ap (λ i. place_of bytes i) same)
nodes_spelled bytes k (suc n) room all =
    let one = all k (omega arith) in
    let same : k + 1 + n ≡ k + suc n = omega arith in
    let rest = nodes_spelled bytes (k + 1) n (omega (arith, one.room, next_place bytes k)) (λ i h. all i (omega (arith, h))) in
    ended bytes (place_of bytes k) _ (place_of bytes (k + 1 + n)) (place_of bytes (k + suc n))
    (both bytes (place_of bytes k) _ (node_end bytes (place_of bytes k)) (place_of bytes (k + 1)) _ (place_of bytes (k + 1 + n)) one rest
    (next_place bytes k))
    (ap (λ i. place_of bytes i) same)

offsets_spelled : (bytes : List ℕ) (small : AreBytes bytes) (table k n : ℕ) → table + 4 * (k + n) ≤ length bytes
    → table ≡ 16 + 14 * chain_count bytes
    → ((i : ℕ) → i < k + n → offset_at bytes i ≡ place_of bytes i)
    → ((i : ℕ) → i < k + n → Stands bytes (place_of bytes i) (chain_node (version_of bytes) (chain_node_at bytes (place_of bytes i)))
    (node_end bytes (place_of bytes i)))
    → Stands bytes (table + 4 * k) (offsets (version_of bytes) (place_of bytes k) (chained_nodes bytes k n)) (table + 4 * (k + n))
offsets_spelled bytes small table k zero room e all nodes =
    ended bytes (table + 4 * k) [] (table + 4 * k) (table + 4 * (k + 0)) (none_stands bytes (table + 4 * k) (omega (arith, room)))
    (omega arith)
offsets_spelled bytes small table k (suc n) room e all nodes =
    let version : ℕ = version_of bytes in
    let at : ℕ = place_of bytes k in
    let one = nodes k (omega arith) in
    let here : long_at bytes (table + 4 * k) ≡ at = ap (λ t. long_at bytes (t + 4 * k)) e ∙ all k (omega arith) in
    let first : Stands bytes (table + 4 * k) (little_bytes 4 at) (table + 4 * k + 4) =
    other bytes (table + 4 * k) _ _ (table + 4 * k + 4) (long_stands bytes (table + 4 * k) small (omega (arith, room)))
    (ap (λ x. little_bytes 4 x) here) in
    let rest = offsets_spelled bytes small table (k + 1) n (omega (arith, room)) e (λ i h. all i (omega (arith, h)))
    (λ i h. nodes i (omega (arith, h))) in
    let next : place_of bytes (k + 1) ≡ at + length (chain_node version (chain_node_at bytes at)) = next_place bytes k ∙ one.ends in
    ended bytes (table + 4 * k) _ (table + 4 * (k + 1 + n)) (table + 4 * (k + suc n))
    (both bytes (table + 4 * k) (little_bytes 4 at) (table + 4 * k + 4) (table + 4 * (k + 1))
    (offsets version (at + length (chain_node version (chain_node_at bytes at))) (chained_nodes bytes (k + 1) n))
    (table + 4 * (k + 1 + n)) first
    (other bytes (table + 4 * (k + 1)) _ _ _ rest (ap (λ p. offsets version p (chained_nodes bytes (k + 1) n)) next)) (omega arith))
    (omega arith)

-- each of them is good
goods : (bytes : List ℕ) (k n : ℕ) → ((i : ℕ) → i < k + n → IsChainNode (version_of bytes) (entries_of bytes)
    (chain_node_at bytes (place_of bytes i)))
    → AllByRecursion (IsChainNode (version_of bytes) (entries_of bytes)) (chained_nodes bytes k n)
goods bytes k zero all = tt
goods bytes k (suc n) all = (all k (omega arith), goods bytes (k + 1) n (λ i h. all i (omega (arith, h))))

-- and says what is read
says : (bytes : List ℕ) (k n : ℕ) → version_of bytes ≢ 1
    → map (λ i. node_at bytes (place_of bytes i)) (range_with_len k n) ≡ map (said (version_of bytes) (entries_of bytes)) (chained_nodes bytes k n)
says bytes k zero form = refl
says bytes k (suc n) form =
    ap (λ m. m ∷ map (λ i. node_at bytes (place_of bytes i)) (range_with_len (k + 1) n)) (in_chain bytes (place_of bytes k) form)
    ∙ ap (λ ms. said (version_of bytes) (entries_of bytes) (chain_node_at bytes (place_of bytes k)) ∷ ms) (says bytes (k + 1) n form)

-- the whole
pub chained_spelled : (bytes : List ℕ) → AreBytes bytes → IsTopOfFile bytes → version_of bytes ≢ 1 → chain_count bytes ≤ 65536
    → AreEntriesThere bytes
    → 16 + 14 * chain_count bytes + 4 * node_count bytes ≤ length bytes → AreChainedThere bytes (node_count bytes)
    → place_of bytes (node_count bytes) ≡ length bytes
    → SpellsSaid (version_of bytes) bytes (nodes_in bytes)
chained_spelled bytes small top form few entries room nodes end =
    let version : ℕ = version_of bytes in
    let count : ℕ = node_count bytes in
    let es : List (ℕ × Claim) = entries_of bytes in
    let cs : List ChainNode = chained_nodes bytes 0 count in
    let n_es : length es ≡ chain_count bytes = length-entries_of bytes in
    let n_cs : length cs ≡ count = length-chained_nodes bytes 0 count in
    let first : ℕ = 16 + 14 * length es + 4 * length cs in
    let at_first : place_of bytes 0 ≡ first = omega (arith, first_chained bytes form, n_es, n_cs) in
    let stands = λ (i : ℕ) (h : i < 0 + count). (nodes.nodes i (omega (arith, h))).stands in
    let h1 : Stands bytes 0 magic 4 = record {
      is = sym (take-append-drop 4 bytes) ∙ ap (λ (xs : List ℕ). xs ++ drop 4 bytes) top.first;
      ends = refl;
      room = omega (arith, top.room);
    } in
    let h2 = both bytes 0 magic 4 4 (little_bytes 4 version) 8 h1 (long_stands bytes 4 small (omega (arith, top.room))) refl in
    let h3 = both bytes 0 (magic ++ little_bytes 4 version) 8 8 (little_bytes 4 (length cs)) 12 h2
    (other bytes 8 _ _ 12 (long_stands bytes 8 small (omega (arith, top.room))) (ap (λ k. little_bytes 4 k) (sym n_cs))) refl in
    let h4 = both bytes 0 (magic ++ little_bytes 4 version ++ little_bytes 4 (length cs)) 12 12 (little_bytes 4 (length es)) 16 h3
    (other bytes 12 _ _ 16 (long_stands bytes 12 small (omega (arith, room))) (ap (λ k. little_bytes 4 k) (sym n_es))) refl in
    let h5 = both bytes 0 _ 16 16 (flat_map entry es) (16 + 14 * chain_count bytes) h4
    (entries_spelled bytes (omega (arith, room)) entries) refl in
    let table : Stands bytes (16 + 14 * chain_count bytes + 4 * 0) (offsets version (place_of bytes 0) cs)
    (16 + 14 * chain_count bytes + 4 * (0 + count)) =
    offsets_spelled bytes small (16 + 14 * chain_count bytes) 0 count (omega (arith, room)) refl
    (λ i h. nodes.table i (omega (arith, h))) stands in
    let h6 = both bytes 0 _ (16 + 14 * chain_count bytes) (16 + 14 * chain_count bytes + 4 * 0) (offsets version first cs) first h5
    (ended bytes _ _ (16 + 14 * chain_count bytes + 4 * (0 + count)) first
    (other bytes _ _ _ _ table (ap (λ p. offsets version p cs) at_first)) (omega (arith, n_es, n_cs))) (omega arith) in
    let h7 = both bytes 0 _ first (place_of bytes 0) (flat_map (chain_node version) cs) (length bytes) h6
    (ended bytes (place_of bytes 0) _ (place_of bytes (0 + count)) (length bytes)
    (nodes_spelled bytes 0 count (omega (arith, at_first, n_es, n_cs, room)) stands)
    (ap (λ i. place_of bytes i) (let z : 0 + count ≡ count = omega arith in z) ∙ end)) at_first in
    record {
      es = es;
      cs = cs;
      spells = record {
        spelled = all_is bytes (chained version es cs) h7;
        short = top.short;
        some = omega (arith, top.some, n_cs);
        few = omega (arith, top.few, n_cs);
        few_entries = omega (arith, few, n_es);
        entries = λ j e got. let one = entry_got bytes (chain_count bytes) j e got in
            subst (λ f. IsEntry version j f) one.1 (entries j one.0).good;
        nodes = All-from_recursion (IsChainNode version es) cs (goods bytes 0 count (λ i h. (nodes.nodes i (omega (arith, h))).good));
      };
      same = says bytes 0 count form;
    }
