-- Nodes of form 1: what is judged sound is spelled so.
use Rattle.std.proofs.Common.{◌≡◌, ℕ, zero, suc, ◌+◌, ◌-◌, ◌*◌, ◌<◌, ◌≤◌, List, [], ◌∷◌, ◌++◌, length, drop, map, refl, ap, sym, ◌∙◌}
use Rattle.std.proofs.Common.{subst, arith}
use Rattle.std.specs.Prelude.{slice_index}
use Rattle.std.specs.List.{flat_map, range_with_len, AllByRecursion}
use Rattle.std.proofs.lemmas.List.{take-append-drop}
use Rattle.std.proofs.lemmas.List.Elements.{All-from_recursion}
use Rattle.byteorder.specs.Endian.{little_bytes}
use Rattle.cert_state.specs.declared.literal.Lit.{Lit}
use Rattle.cert_state.specs.Literals.{IsLit}
use Rattle.cert_form.specs.Nodes.{PlainNode}
use Rattle.cert_form.specs.Spelling.{magic, value, literal, tail, node, listed, IsNode, SpellsListed}
use Rattle.cert_form.specs.Reading.{short_at, value_at, literal_at, kind_at, tail_length, version_of, node_count, own_count, own_end}
use Rattle.cert_form.specs.Reading.{literals_to, listed_node, node_at, tail_place, node_end, place_of, nodes_in}
use Rattle.cert_form.specs.inner.Standing.{Stands, IsValueThere, IsLiteralThere, IsTailThere, IsTopThere, AreOwnThere, IsListedThere}
use Rattle.cert_form.specs.inner.Standing.{AreListedThere, IsTopOfFile}
use Rattle.cert_form.proofs.StandLaws.{AreBytes, both, moved, ended, other, none_stands, all_is, byte_stands, short_stands, long_stands}
use Rattle.cert_form.proofs.StandLaws.{short_below}
use Rattle.cert_form.proofs.ScratchLaws.{none_good}
use Rattle.cert_form.proofs.PlaceLaws.{next_place, first_listed}
use Rattle.cert_form.proofs.ReadLaws.{length-nodes_in}

pub listed_end : (bytes : List ℕ) (at : ℕ) → version_of bytes ≡ 1
    → node_end bytes at ≡ own_end bytes at + tail_length (slice_index bytes at)
unfolding tail_place
listed_end bytes at one = rw one refl

pub in_list : (bytes : List ℕ) (at : ℕ) → version_of bytes ≡ 1 → node_at bytes at ≡ listed_node bytes at
unfolding node_at
in_list bytes at one = rw one refl

pub length-literals_to : (bytes : List ℕ) (end n : ℕ) → length (literals_to bytes end n) ≡ n
length-literals_to bytes end zero = refl
length-literals_to bytes end (suc n) = ap suc (length-literals_to bytes end n)

-- the literals, from the last one on
literals_stand : (bytes : List ℕ) (end n : ℕ) → 10 * n ≤ end → end ≤ length bytes
    → ((j : ℕ) → j < n → IsLiteralThere bytes (end - 10 * suc j))
    → Stands bytes (end - 10 * n) (flat_map literal (literals_to bytes end n)) end
literals_stand bytes end zero fits room all = moved bytes end (end - 10 * 0) [] end (none_stands bytes end room) (omega arith)
literals_stand bytes end (suc n) fits room all =
    both bytes (end - 10 * suc n) (literal (literal_at bytes (end - 10 * suc n))) (end - 10 * suc n + 10) (end - 10 * n) _ end
    (all n (omega arith)).stands (literals_stand bytes end n (omega (arith, fits)) room (λ j h. all j (omega (arith, h))))
    (omega (arith, fits))

literals_good : (bytes : List ℕ) (end n : ℕ) → ((j : ℕ) → j < n → IsLiteralThere bytes (end - 10 * suc j))
    → AllByRecursion IsLit (literals_to bytes end n)
literals_good bytes end zero all = tt
literals_good bytes end (suc n) all = ((all n (omega arith)).good, literals_good bytes end n (λ j h. all j (omega (arith, h))))

from_last : (bytes : List ℕ) (at : ℕ) → AreOwnThere bytes at → (j : ℕ) → j < own_count bytes at
    → IsLiteralThere bytes (own_end bytes at - 10 * suc j)
from_last bytes at all j h =
    subst (λ k. IsLiteralThere bytes k) (omega (arith, h)) (all (own_count bytes at - suc j) (omega (arith, h)))

pub listed_there : (bytes : List ℕ) (at : ℕ) → AreBytes bytes → version_of bytes ≡ 1 → IsTopThere bytes at → IsValueThere bytes (at + 5)
    → IsValueThere bytes (at + 11)
    → own_end bytes at ≤ length bytes → AreOwnThere bytes at → IsTailThere bytes (slice_index bytes at) (own_end bytes at)
    → IsListedThere bytes at
listed_there bytes at small form top a x room own t =
    let kind : ℕ = slice_index bytes at in
    let pc : List ℕ = little_bytes 2 (short_at bytes (at + 1)) in
    let end : ℕ = own_end bytes at in
    let ls : List Lit = literals_to bytes end (own_count bytes at) in
    let n_ls : length ls ≡ own_count bytes at = length-literals_to bytes end (own_count bytes at) in
    let s1 = both bytes at (kind ∷ []) (at + 1) (at + 1) pc (at + 3) (byte_stands bytes at (omega (arith, top.room)))
    (ended bytes (at + 1) pc (at + 1 + 2) (at + 3) (short_stands bytes (at + 1) small (omega (arith, top.room))) (omega arith)) refl in
    let s2 = both bytes at (kind ∷ pc) (at + 3) (at + 3) (little_bytes 2 (length ls)) (at + 5) s1
    (ended bytes (at + 3) _ (at + 3 + 2) (at + 5) (other bytes (at + 3) _ _ (at + 3 + 2)
    (short_stands bytes (at + 3) small (omega (arith, top.room))) (ap (λ k. little_bytes 2 k) (sym n_ls))) (omega arith)) refl in
    let s3 = both bytes at (kind ∷ pc ++ little_bytes 2 (length ls)) (at + 5) (at + 5) (value (value_at bytes (at + 5))) (at + 11) s2
    (ended bytes (at + 5) _ (at + 5 + 6) (at + 11) a.stands (omega arith)) refl in
    let s4 = both bytes at (kind ∷ pc ++ little_bytes 2 (length ls) ++ value (value_at bytes (at + 5))) (at + 11) (at + 11)
    (value (value_at bytes (at + 11))) (at + 17) s3
    (ended bytes (at + 11) _ (at + 11 + 6) (at + 17) x.stands (omega arith)) refl in
    let s5 = both bytes at (kind ∷ pc ++ little_bytes 2 (length ls) ++ value (value_at bytes (at + 5)) ++ value
    (value_at bytes (at + 11))) (at + 17) (end - 10 * own_count bytes at)
    (flat_map literal ls) end s4 (literals_stand bytes end (own_count bytes at) (omega arith) room (from_last bytes at own))
    (omega arith) in
    let s6 = both bytes at (kind ∷ pc ++ little_bytes 2 (length ls) ++ value (value_at bytes (at + 5)) ++ value
    (value_at bytes (at + 11)) ++ flat_map literal ls) end end
    (tail (kind_at bytes kind end)) (node_end bytes at) s5 (ended bytes end _ _ (node_end bytes at) t.stands
    (sym (listed_end bytes at form))) refl in
    record {
      stands = subst (λ k. Stands bytes at
          (k ∷ pc ++ little_bytes 2 (length ls) ++ value (value_at bytes (at + 5)) ++ value
          (value_at bytes (at + 11)) ++ flat_map literal ls ++ tail (kind_at bytes kind end)) (node_end bytes at))
          (sym t.same) s6;
      good = record {
        kind = t.good;
        pc = short_below bytes (at + 1) small;
        values = record { a = a.good; x = x.good; sixteen = refl; scratch = none_good };
        no_scratch = refl;
        none_out = refl;
        none_met = refl;
        not_sharp = refl;
        few = omega (arith, n_ls, top.few);
        literals = All-from_recursion IsLit ls (literals_good bytes end (own_count bytes at) (from_last bytes at own));
      };
    }

-- ---- the whole

listed_nodes : List ℕ → ℕ → ℕ → List PlainNode
listed_nodes bytes k n = map (λ i. node_at bytes (place_of bytes i)) (range_with_len k n)

nodes_spelled : (bytes : List ℕ) (k n : ℕ) → version_of bytes ≡ 1 → place_of bytes k ≤ length bytes
    → ((i : ℕ) → i < k + n → IsListedThere bytes (place_of bytes i))
    → Stands bytes (place_of bytes k) (flat_map node (listed_nodes bytes k n)) (place_of bytes (k + n))
unfolding listed_nodes
nodes_spelled bytes k zero form room all =
    let same : k ≡ k + 0 = omega arith in
    ended bytes (place_of bytes k) [] (place_of bytes k) (place_of bytes (k + 0)) (none_stands bytes (place_of bytes k) room)
    (ap (λ i. place_of bytes i) same)
nodes_spelled bytes k (suc n) form room all =
    let at : ℕ = place_of bytes k in
    let one = (all k (omega arith)).stands in
    let on : place_of bytes (k + 1) ≡ node_end bytes at = next_place bytes k in
    let same : k + 1 + n ≡ k + suc n = omega arith in
    let rest = nodes_spelled bytes (k + 1) n form (omega (arith, one.room, on)) (λ i h. all i (omega (arith, h))) in
    ended bytes at _ (place_of bytes (k + 1 + n)) (place_of bytes (k + suc n))
    (both bytes at (node (node_at bytes at)) (node_end bytes at) (place_of bytes (k + 1)) _ (place_of bytes (k + 1 + n))
    (other bytes at _ _ (node_end bytes at) one (ap (λ m. node m) (sym (in_list bytes at form)))) rest on)
    (ap (λ i. place_of bytes i) same)

goods : (bytes : List ℕ) (k n : ℕ) → version_of bytes ≡ 1 → ((i : ℕ) → i < k + n → IsListedThere bytes (place_of bytes i))
    → AllByRecursion IsNode (listed_nodes bytes k n)
unfolding listed_nodes
goods bytes k zero form all = tt
goods bytes k (suc n) form all = (
  subst (λ m. IsNode m) (sym (in_list bytes (place_of bytes k) form)) (all k (omega arith)).good,
  goods bytes (k + 1) n form (λ i h. all i (omega (arith, h))),
)

pub listed_spelled : (bytes own : List ℕ) → AreBytes bytes → IsTopOfFile bytes → version_of bytes ≡ 1
    → AreListedThere bytes own (node_count bytes)
    → place_of bytes (node_count bytes) ≡ length bytes → SpellsListed bytes (nodes_in bytes)
unfolding listed_nodes
listed_spelled bytes own small top form nodes end =
    let count : ℕ = node_count bytes in
    let ns : List PlainNode = nodes_in bytes in
    let n_ns : length ns ≡ count = length-nodes_in bytes in
    let h1 : Stands bytes 0 magic 4 = record {
      is = sym (take-append-drop 4 bytes) ∙ ap (λ (xs : List ℕ). xs ++ drop 4 bytes) top.first;
      ends = refl;
      room = omega (arith, top.room);
    } in
    let h2 = both bytes 0 magic 4 4 (little_bytes 4 1) 8 h1 (other bytes 4 _ _ 8 (long_stands bytes 4 small (omega (arith, top.room)))
    (ap (λ k. little_bytes 4 k) form)) refl in
    let h3 = both bytes 0 (magic ++ little_bytes 4 1) 8 8 (little_bytes 4 (length ns)) 12 h2
    (other bytes 8 _ _ 12 (long_stands bytes 8 small (omega (arith, top.room))) (ap (λ k. little_bytes 4 k) (sym n_ns))) refl in
    let rest = nodes_spelled bytes 0 count form (omega (arith, first_listed bytes form, top.room))
    (λ i h. nodes.nodes i (omega (arith, h))) in
    let h4 = both bytes 0 (magic ++ little_bytes 4 1 ++ little_bytes 4 (length ns)) 12 (place_of bytes 0) (flat_map node ns)
    (length bytes) h3
    (ended bytes (place_of bytes 0) _ (place_of bytes (0 + count)) (length bytes) rest
    (ap (λ i. place_of bytes i) (let z : 0 + count ≡ count = omega arith in z) ∙ end))
    (first_listed bytes form) in
    record {
      spelled = all_is bytes (listed ns) h4;
      short = top.short;
      some = omega (arith, top.some, n_ns);
      few = omega (arith, top.few, n_ns);
      nodes = All-from_recursion IsNode ns (goods bytes 0 count form (λ i h. nodes.nodes i (omega (arith, h))));
    }
