-- Nodes of forms 2 to 4: what is judged sound is spelled so.
use Rattle.std.proofs.Common.{◌≡◌, ◌≤◌, ℕ, ◌+◌, ◌*◌, cond, eqb, List, [], ◌∷◌, ◌++◌, length, refl, sym, ◌∙◌, subst, arith}
use Rattle.std.specs.Prelude.{◌≢◌, slice_index}
use Rattle.std.proofs.lemmas.Bool.{ne_eqb}
use Rattle.std.proofs.lemmas.List.{length-reverse}
use Rattle.byteorder.specs.Endian.{little_bytes}
use Rattle.cert_form.specs.Nodes.{said}
use Rattle.cert_form.specs.Spelling.{value, claim, scratch, tail}
use Rattle.cert_form.specs.Reading.{short_at, long_at, value_at, claim_at, parent_at, kind_at, tail_length, version_of}
use Rattle.cert_form.specs.Reading.{chain_count, entries_of}
use Rattle.cert_form.specs.Reading.{scratch_at, chain_place, chain_node_at, node_at, tail_place, node_end}
use Rattle.cert_form.specs.inner.Standing.{Stands, IsClaimThere, IsEntryThere, IsTailThere, IsFrontThere}
use Rattle.cert_form.specs.inner.Standing.{IsScratchThere, IsChainThere, IsChainedThere}
use Rattle.cert_form.proofs.StandLaws.{AreBytes, both, ended, long_stands, short_below}
use Rattle.cert_form.proofs.ChainLaws.{count}

pub chained_end : (bytes : List ℕ) (at : ℕ) → version_of bytes ≢ 1
    → node_end bytes at ≡ chain_place bytes at + 4 + tail_length (slice_index bytes at)
unfolding tail_place
chained_end bytes at form = rw (ne_eqb (version_of bytes) 1 form) refl

pub length-entries_of : (bytes : List ℕ) → length (entries_of bytes) ≡ chain_count bytes
length-entries_of bytes = sym (length-reverse (entries_of bytes)) ∙ count bytes (chain_count bytes)

pub chained_there : (bytes : List ℕ) (at : ℕ) → AreBytes bytes → version_of bytes ≢ 1 → IsFrontThere bytes at → IsScratchThere bytes at
    → IsChainThere bytes at
    → IsTailThere bytes (slice_index bytes at) (chain_place bytes at + 4) → IsChainedThere bytes at
chained_there bytes at small form f s l t =
    let place : ℕ = chain_place bytes at in
    let kind : ℕ = slice_index bytes at in
    let words : List ℕ = cond (eqb (version_of bytes) 2) [] (scratch (scratch_at bytes at)) in
    let values : List ℕ = 0 ∷ little_bytes 2 (short_at bytes (at + 2)) ++ value (value_at bytes (at + 4)) ++ value
    (value_at bytes (at + 10)) in
    let chain : List ℕ = little_bytes 4 (long_at bytes place) in
    let up_to_chain : Stands bytes at (kind ∷ values ++ words) place =
    both bytes at (kind ∷ values) (at + 16) (at + 16) words place f.stands s.stands refl in
    let up_to_tail : Stands bytes at (kind ∷ values ++ words ++ chain) (place + 4) =
    both bytes at (kind ∷ values ++ words) place place chain (place + 4) up_to_chain (long_stands bytes place small l.room) refl in
    let whole : Stands bytes at (kind ∷ values ++ words ++ chain ++ tail (kind_at bytes kind (place + 4))) (node_end bytes at) =
    both bytes at (kind ∷ values ++ words ++ chain) (place + 4) (place + 4) _ (node_end bytes at) up_to_tail
    (ended bytes (place + 4) _ _ (node_end bytes at) t.stands (sym (chained_end bytes at form))) refl in
    record {
      stands = subst (λ k. Stands bytes at (k ∷ values ++ words ++ chain ++ tail (kind_at bytes kind (place + 4))) (node_end bytes at))
          (sym t.same) whole;
      good = record {
        kind = t.good;
        pc = short_below bytes (at + 2) small;
        values = record { a = f.a; x = f.x; sixteen = s.sixteen; scratch = s.good };
        no_scratch = s.none;
        chain = omega (arith, l.chain, length-entries_of bytes);
        few = l.few;
      };
    }

-- what a node says goes by its chain
pub in_chain : (bytes : List ℕ) (at : ℕ) → version_of bytes ≢ 1 → node_at bytes at ≡ said (version_of bytes) (entries_of bytes) (chain_node_at bytes at)
unfolding node_at
in_chain bytes at form = rw (ne_eqb (version_of bytes) 1 form) refl

-- an entry that was judged part by part
pub entry_there : (bytes : List ℕ) (j : ℕ) → AreBytes bytes → parent_at bytes j ≤ j
    → IsClaimThere bytes (16 + 14 * j + 4) → IsEntryThere bytes j
entry_there bytes j small earlier l =
    let at : ℕ = 16 + 14 * j in
    record {
      stands = both bytes at (little_bytes 4 (parent_at bytes j)) (at + 4) (at + 4) (claim (claim_at bytes (at + 4))) (at + 14)
          (long_stands bytes at small (omega (arith, l.stands.ends, l.stands.room)))
          (ended bytes (at + 4) (claim (claim_at bytes (at + 4))) (at + 4 + 10) (at + 14) l.stands (omega arith)) refl;
      good = record { earlier = earlier; claim = l.good };
    }
