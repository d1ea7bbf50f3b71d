-- What was judged sound can be read in place, and is spelled.
use Rattle.std.proofs.Common.{◌≡◌, ℕ, ◌+◌, ◌*◌, ◌≤◌, List, length, inl, inr, arith}
use Rattle.std.specs.Prelude.{◌≢◌}
use Rattle.cert_form.specs.Spelling.{Spells}
use Rattle.cert_form.specs.Reading.{version_of, node_count, chain_count, place_of, nodes_in}
use Rattle.cert_form.specs.inner.Places.{IsHeadThere, AreNodesThere}
use Rattle.cert_form.specs.inner.Standing.{IsTopOfFile, AreListedThere, AreChainedThere, AreEntriesThere}
use Rattle.cert_form.proofs.StandLaws.{AreBytes}
use Rattle.cert_form.proofs.ListedLaws.{listed_end, listed_spelled}
use Rattle.cert_form.proofs.ChainedLaws.{chained_end}
use Rattle.cert_form.proofs.SpelledLaws.{chained_spelled}

pub head_listed : (bytes : List ℕ) → IsTopOfFile bytes → version_of bytes ≡ 1 → IsHeadThere bytes
head_listed bytes top form = record { head = top.room; entries = λ other. absurd (other form); earlier = λ other. absurd (other form) }

pub nodes_listed : (bytes own : List ℕ) → version_of bytes ≡ 1 → AreListedThere bytes own (node_count bytes) → AreNodesThere bytes own
nodes_listed bytes own form all = record {
  nodes = λ i h. record {
    listed = λ _. omega (arith, listed_end bytes (place_of bytes i) form, (all.nodes i h).stands.room);
    chained = λ other. absurd (other form);
  };
  counted = λ _. all.counted;
  listed = λ _ i h. all.places i h;
  room = λ other. absurd (other form);
  table = λ other. absurd (other form);
}

pub head_chained : (bytes : List ℕ) → IsTopOfFile bytes → 16 + 14 * chain_count bytes ≤ length bytes → AreEntriesThere bytes
    → IsHeadThere bytes
head_chained bytes top room all = record {
  head = top.room;
  entries = λ _. room;
  earlier = λ _ j h. omega (arith, (all j h).good.earlier);
}

pub nodes_chained : (bytes own : List ℕ) → version_of bytes ≢ 1 → 16 + 14 * chain_count bytes + 4 * node_count bytes ≤ length bytes
    → AreChainedThere bytes (node_count bytes)
    → AreNodesThere bytes own
nodes_chained bytes own form room all = record {
  nodes = λ i h. record {
    listed = λ one. absurd (form one);
    chained = λ _. omega (arith, chained_end bytes (place_of bytes i) form, (all.nodes i h).stands.room);
  };
  counted = λ one. absurd (form one);
  listed = λ one. absurd (form one);
  room = λ _. room;
  table = λ _ i h. all.table i h;
}

pub spells_listed : (bytes own : List ℕ) → AreBytes bytes → IsTopOfFile bytes → version_of bytes ≡ 1
    → AreListedThere bytes own (node_count bytes)
    → place_of bytes (node_count bytes) ≡ length bytes → Spells bytes (nodes_in bytes)
spells_listed bytes own small top form all end = inl (listed_spelled bytes own small top form all end)

pub spells_chained : (bytes : List ℕ) → AreBytes bytes → IsTopOfFile bytes → version_of bytes ≢ 1 → chain_count bytes ≤ 65536
    → AreEntriesThere bytes
    → 16 + 14 * chain_count bytes + 4 * node_count bytes ≤ length bytes → AreChainedThere bytes (node_count bytes)
    → place_of bytes (node_count bytes) ≡ length bytes
    → Spells bytes (nodes_in bytes)
spells_chained bytes small top form few entries room nodes end =
    inr (
      version_of bytes,
      (omega (arith, form, top.form), omega (arith, top.known)),
      chained_spelled bytes small top form few entries room nodes end,
    )
