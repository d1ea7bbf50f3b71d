-- A certificate of form 2, 3 or 4 that is spelled: where its entries and nodes stand, and what they are.
use Rattle.std.proofs.Common.{◌≡◌, ℕ, zero, suc, ◌+◌, ◌*◌, ◌<◌, ◌≤◌, ◌^◌, List, [], ◌∷◌, ◌++◌, length, take, drop, All, refl, ap, sym}
use Rattle.std.proofs.Common.{◌∙◌, subst, arith}
use Rattle.std.specs.Prelude.{◌≢◌, Some, slice_get}
use Rattle.std.specs.List.{flat_map}
use Rattle.std.proofs.lemmas.List.{length-append, take_all, drop_all}
use Rattle.std.proofs.lemmas.Option.{get_or_from_slice_get, slice_get_within}
use Rattle.byteorder.specs.Endian.{little_bytes}
use Rattle.cert_form.specs.declared.node.Claim.{Claim}
use Rattle.cert_form.specs.declared.node.ChainNode.{ChainNode}
use Rattle.cert_form.specs.Spelling.{magic, claim, entry, offsets, chain_node, IsEntry, IsChainNode, IsChained, SpellsChained}
use Rattle.cert_form.specs.Reading.{long_at, claim_at, parent_at, entry_at, entries_before, entries_of, version_of, node_count}
use Rattle.cert_form.specs.Reading.{chain_count, place_of, offset_at}
use Rattle.cert_form.specs.Faults.{IsBadEntry}
use Rattle.cert_form.specs.inner.Standing.{Stands}
use Rattle.cert_form.proofs.StandLaws.{front, back, moved, ended, other, all_stands, long_is}
use Rattle.cert_form.proofs.ClaimLaws.{length-claim, claim_is, claim_not_bad}
use Rattle.cert_form.proofs.PlaceLaws.{next_place, first_chained}
use Rattle.cert_form.proofs.ChainedAgain.{Again, again}

-- the element at a place, and those from it on
pub at_place : {X : Type 0} (xs : List X) (i : ℕ) → i < length xs → (x : X) × (drop i xs ≡ x ∷ drop (suc i) xs) × (slice_get xs i ≡ Some x)
at_place [] i h = absurd (omega (arith, h))
at_place (x ∷ xs) zero h = (x, refl, refl)
at_place (x ∷ xs) (suc i) h = at_place xs i (omega arith)

pub length-entries : (es : List (ℕ × Claim)) → length (flat_map entry es) ≡ 14 * length es
length-entries [] = refl
length-entries (e ∷ es) =
    omega (
      arith,
      length-append (entry e) (flat_map entry es),
      length-append (little_bytes 4 e.0) (claim e.1),
      length-claim e.1,
      length-entries es,
    )

pub length-offsets : (version at : ℕ) (ns : List ChainNode) → length (offsets version at ns) ≡ 4 * length ns
length-offsets version at [] = refl
length-offsets version at (n ∷ ns) =
    let next : ℕ = at + length (chain_node version n) in
    omega (arith, length-append (little_bytes 4 at) (offsets version next ns), length-offsets version next ns)

-- the parts of the whole
pub record Whole (version : ℕ) (bytes : List ℕ) (es : List (ℕ × Claim)) (ns : List ChainNode) : Type 0 where
  pub first : take 4 bytes ≡ magic
  pub form : version_of bytes ≡ version
  pub nodes : node_count bytes ≡ length ns
  pub chains : chain_count bytes ≡ length es
  pub entries : Stands bytes 16 (flat_map entry es) (16 + 14 * length es)
  pub table : Stands bytes (16 + 14 * length es) (offsets version (16 + 14 * length es + 4 * length ns) ns)
      (16 + 14 * length es + 4 * length ns)
  pub rest : Stands bytes (16 + 14 * length es + 4 * length ns) (flat_map (chain_node version) ns) (length bytes)

pub whole : (version : ℕ) (bytes : List ℕ) (es : List (ℕ × Claim)) (ns : List ChainNode) → version < 2 ^ 32
    → SpellsChained version bytes es ns → Whole version bytes es ns
whole version bytes es ns small s =
    let first : ℕ = 16 + 14 * length es + 4 * length ns in
    let h3 : List ℕ = magic ++ little_bytes 4 version ++ little_bytes 4 (length ns) in
    let head : List ℕ = h3 ++ little_bytes 4 (length es) in
    let with_entries : List ℕ = head ++ flat_map entry es in
    let with_table : List ℕ = with_entries ++ offsets version first ns in
    let l1 : length with_entries ≡ 16 + 14 * length es = omega (arith, length-append head (flat_map entry es), length-entries es) in
    let l2 : length with_table ≡ first = omega (
      arith,
      length-append with_entries (offsets version first ns),
      l1,
      length-offsets version first ns,
    ) in
    let all : Stands bytes 0 (with_table ++ flat_map (chain_node version) ns) (length bytes) = all_stands bytes _ s.spelled in
    let f1 = front bytes 0 with_table (flat_map (chain_node version) ns) (length bytes) all in
    let f2 = front bytes 0 with_entries (offsets version first ns) _ f1 in
    let f3 = front bytes 0 head (flat_map entry es) _ f2 in
    let f4 = front bytes 0 h3 (little_bytes 4 (length es)) _ f3 in
    let f5 = front bytes 0 (magic ++ little_bytes 4 version) (little_bytes 4 (length ns)) _ f4 in
    record {
      first = ap (λ bs. take 4 bs) s.spelled;
      form = long_is bytes 4 version _ (back bytes 0 magic (little_bytes 4 version) _ f5) small;
      nodes = long_is bytes 8 (length ns) _ (back bytes 0 (magic ++ little_bytes 4 version) (little_bytes 4 (length ns)) _ f4)
          (omega (arith, s.few));
      chains = long_is bytes 12 (length es) _ (back bytes 0 h3 (little_bytes 4 (length es)) _ f3) (omega (arith, s.few_entries));
      entries = ended bytes 16 _ _ (16 + 14 * length es) (back bytes 0 head (flat_map entry es) _ f2) (omega (arith, l1));
      table = moved bytes (0 + length with_entries) (16 + 14 * length es) _ first
          (ended bytes (0 + length with_entries) _ _ first (back bytes 0 with_entries (offsets version first ns) _ f1)
          (omega (arith, l2))) (omega (arith, l1));
      rest = moved bytes (0 + length with_table) first _ (length bytes)
          (back bytes 0 with_table (flat_map (chain_node version) ns) (length bytes) all) (omega (arith, l2));
    }

-- ---- entries

pub entries_stand : (bytes : List ℕ) (es : List (ℕ × Claim)) (end : ℕ) → Stands bytes 16 (flat_map entry es) end → (j : ℕ) → j ≤ length es
    → Stands bytes (16 + 14 * j) (flat_map entry (drop j es)) end
entries_stand bytes es end s zero h = moved bytes 16 (16 + 14 * 0) _ end s (omega arith)
entries_stand bytes es end s (suc j) h =
    let p = at_place es j (omega (arith, h)) in
    let before = entries_stand bytes es end s j (omega (arith, h)) in
    let split : Stands bytes (16 + 14 * j) (entry p.0 ++ flat_map entry (drop (suc j) es)) end =
    other bytes (16 + 14 * j) _ _ end before (ap (λ xs. flat_map entry xs) p.1) in
    moved bytes (16 + 14 * j + length (entry p.0)) (16 + 14 * suc j) _ end
    (back bytes (16 + 14 * j) (entry p.0) (flat_map entry (drop (suc j) es)) end split)
    (omega (arith, length-append (little_bytes 4 p.0.0) (claim p.0.1), length-claim p.0.1))

pub entry_stands : (bytes : List ℕ) (es : List (ℕ × Claim)) (end : ℕ) → Stands bytes 16 (flat_map entry es) end
    → (j : ℕ) (h : j < length es)
    → Stands bytes (16 + 14 * j) (entry (at_place es j h).0) (16 + 14 * j + length (entry (at_place es j h).0))
entry_stands bytes es end s j h =
    let p = at_place es j h in
    front bytes (16 + 14 * j) (entry p.0) (flat_map entry (drop (suc j) es)) end
    (other bytes (16 + 14 * j) _ _ end (entries_stand bytes es end s j (omega (arith, h))) (ap (λ xs. flat_map entry xs) p.1))

-- an entry is read, and is not bad
pub entry_is : (bytes : List ℕ) (version j : ℕ) (e : ℕ × Claim) (end : ℕ) → Stands bytes (16 + 14 * j) (entry e) end
    → IsEntry version j e → version_of bytes ≡ version → j < 2 ^ 32 → entry_at bytes j ≡ e
entry_is bytes version j e end s good form small =
    let parent : parent_at bytes j ≡ e.0 = long_is bytes (16 + 14 * j) e.0 _
    (front bytes (16 + 14 * j) (little_bytes 4 e.0) (claim e.1) end s) (omega (arith, good.earlier, small)) in
    let says : claim_at bytes (16 + 14 * j + 4) ≡ e.1 = claim_is bytes (16 + 14 * j + 4) version e.1 end
    (back bytes (16 + 14 * j) (little_bytes 4 e.0) (claim e.1) end s) good.claim form in
    same_pair (entry_at bytes j) e parent says where
      same_pair : (a b : ℕ × Claim) → a.0 ≡ b.0 → a.1 ≡ b.1 → a ≡ b
      same_pair a b p q = ap (λ k. (k, a.1)) p ∙ ap (λ l. (b.0, l)) q

pub entry_not_bad : (bytes : List ℕ) (version j : ℕ) (e : ℕ × Claim) (end : ℕ) → Stands bytes (16 + 14 * j) (entry e) end
    → IsEntry version j e → version_of bytes ≡ version → j < 2 ^ 32 → IsBadEntry bytes j → ⊥
entry_not_bad bytes version j e end s good form small (IsBadEntry.parent room bad) =
    omega (
      arith,
      bad,
      good.earlier,
      long_is bytes (16 + 14 * j) e.0 _
          (front bytes (16 + 14 * j) (little_bytes 4 e.0) (claim e.1) end s) (omega (arith, good.earlier, small)),
    )
entry_not_bad bytes version j e end s good form small (IsBadEntry.claim bad) =
    claim_not_bad bytes (16 + 14 * j + 4) version e.1 end (back bytes (16 + 14 * j) (little_bytes 4 e.0) (claim e.1) end s)
    good.claim form bad

take_one_more : {X : Type 0} (xs : List X) (j : ℕ) (x : X) → drop j xs ≡ x ∷ drop (suc j) xs → take (suc j) xs ≡ take j xs ++ x ∷ []
take_one_more [] zero x e = absurd cc
take_one_more [] (suc j) x e = absurd cc
take_one_more (y ∷ xs) zero x e = let same : y ≡ x = cc in ap (λ z. z ∷ []) same
take_one_more (y ∷ xs) (suc j) x e = ap (λ zs. y ∷ zs) (take_one_more xs j x e)

before_is : (version : ℕ) (bytes : List ℕ) (es : List (ℕ × Claim)) (ns : List ChainNode) → Whole version bytes es ns
    → SpellsChained version bytes es ns → (j : ℕ) → j ≤ length es
    → entries_before bytes j ≡ take j es
before_is version bytes es ns w s zero h = refl
before_is version bytes es ns w s (suc j) h =
    let less : j < length es = omega (arith, h) in
    let p = at_place es j less in
    let one = entry_is bytes version j p.0 _ (entry_stands bytes es _ w.entries j less) (s.entries j p.0 p.2) w.form
    (omega (arith, h, s.few_entries)) in
    ap (λ xs. xs ++ entry_at bytes j ∷ []) (before_is version bytes es ns w s j (omega (arith, h)))
    ∙ (ap (λ e. take j es ++ e ∷ []) one ∙ sym (take_one_more es j p.0 p.1))

pub entries_are : (version : ℕ) (bytes : List ℕ) (es : List (ℕ × Claim)) (ns : List ChainNode) → Whole version bytes es ns
    → SpellsChained version bytes es ns
    → entries_of bytes ≡ es
entries_are version bytes es ns w s =
    ap (λ c. entries_before bytes c) w.chains ∙ (before_is version bytes es ns w s (length es) (omega arith)
    ∙ take_all (length es) es (omega arith))

-- ---- nodes

pub not_1 : (version : ℕ) → IsChained version → (v : ℕ) → v ≡ version → v ≢ 1
not_1 version known v e one = omega (arith, known.0, e, one)

node_again : (version : ℕ) (bytes : List ℕ) (es : List (ℕ × Claim)) (ns : List ChainNode) → IsChained version
    → Whole version bytes es ns
    → SpellsChained version bytes es ns → (i : ℕ) (n : ChainNode) → drop i ns ≡ n ∷ drop (suc i) ns → slice_get ns i ≡ Some n
    → Stands bytes (place_of bytes i) (flat_map (chain_node version) (drop i ns)) (length bytes)
    → Stands bytes (place_of bytes i) (chain_node version n) (place_of bytes i + length (chain_node version n)) × Again bytes
    (place_of bytes i) es n (place_of bytes i + length (chain_node version n))
node_again version bytes es ns known w s i n e got stands =
    let at : ℕ = place_of bytes i in
    let one : Stands bytes at (chain_node version n) (at + length (chain_node version n)) =
    front bytes at (chain_node version n) (flat_map (chain_node version) (drop (suc i) ns)) (length bytes)
    (other bytes at _ _ (length bytes) stands (ap (λ xs. flat_map (chain_node version) xs) e)) in (
      one,
      again bytes at version es n _ one (in_all ns i n got s.nodes) w.form known (entries_are version bytes es ns w s) w.chains
          (omega (arith, s.few_entries)),
    ) where
      in_all : (ms : List ChainNode) (k : ℕ) (m : ChainNode) → slice_get ms k ≡ Some m → All (IsChainNode version es) ms
          → IsChainNode version es m
      in_all ms k m got all =
          subst (λ o. IsChainNode version es o) (get_or_from_slice_get ms k m m got) (all k m (slice_get_within ms k m got))

-- each node stands at its place
pub nodes_stand : (version : ℕ) (bytes : List ℕ) (es : List (ℕ × Claim)) (ns : List ChainNode) → IsChained version
    → Whole version bytes es ns
    → SpellsChained version bytes es ns → (i : ℕ) → i ≤ length ns
    → Stands bytes (place_of bytes i) (flat_map (chain_node version) (drop i ns)) (length bytes)
nodes_stand version bytes es ns known w s zero h =
    moved bytes (16 + 14 * length es + 4 * length ns) (place_of bytes 0) _ (length bytes) w.rest
    (omega (arith, first_chained bytes (not_1 version known (version_of bytes) w.form), w.chains, w.nodes))
nodes_stand version bytes es ns known w s (suc i) h =
    let p = at_place ns i (omega (arith, h)) in
    let before = nodes_stand version bytes es ns known w s i (omega (arith, h)) in
    let one = node_again version bytes es ns known w s i p.0 p.1 p.2 before in
    let later : i + 1 ≡ suc i = omega arith in
    moved bytes (place_of bytes i + length (chain_node version p.0)) (place_of bytes (suc i)) _ (length bytes)
    (back bytes (place_of bytes i) (chain_node version p.0) (flat_map (chain_node version) (drop (suc i) ns)) (length bytes)
    (other bytes (place_of bytes i) _ _ (length bytes) before (ap (λ xs. flat_map (chain_node version) xs) p.1)))
    (sym one.1.ends ∙ (sym (next_place bytes i) ∙ ap (λ k. place_of bytes k) later))

-- a node of a number, which stands there
pub record Standing (version : ℕ) (bytes : List ℕ) (es : List (ℕ × Claim)) (ns : List ChainNode) (i : ℕ) : Type 0 where
  pub n : ChainNode
  pub got : slice_get ns i ≡ Some n
  pub end : ℕ
  pub stands : Stands bytes (place_of bytes i) (chain_node version n) end
  pub again : Again bytes (place_of bytes i) es n end

pub node_stands : (version : ℕ) (bytes : List ℕ) (es : List (ℕ × Claim)) (ns : List ChainNode) → IsChained version
    → Whole version bytes es ns
    → SpellsChained version bytes es ns → (i : ℕ) → i < length ns → Standing version bytes es ns i
node_stands version bytes es ns known w s i h =
    let p = at_place ns i h in
    let one = node_again version bytes es ns known w s i p.0 p.1 p.2 (nodes_stand version bytes es ns known w s i (omega (arith, h))) in
    record { n = p.0; got = p.2; end = place_of bytes i + length (chain_node version p.0); stands = one.0; again = one.1 }

-- the last one ends where the bytes do
pub last_end : (version : ℕ) (bytes : List ℕ) (es : List (ℕ × Claim)) (ns : List ChainNode) → IsChained version
    → Whole version bytes es ns
    → SpellsChained version bytes es ns → place_of bytes (length ns) ≡ length bytes
last_end version bytes es ns known w s =
    let end = nodes_stand version bytes es ns known w s (length ns) (omega arith) in
    omega (arith, end.ends, ap (λ xs. length (flat_map (chain_node version) xs)) (drop_all (length ns) ns (omega arith)))

-- the table says where
pub offsets_stand : (version : ℕ) (bytes : List ℕ) (es : List (ℕ × Claim)) (ns : List ChainNode) → IsChained version
    → Whole version bytes es ns
    → SpellsChained version bytes es ns → (i : ℕ) → i ≤ length ns
    → Stands bytes (16 + 14 * length es + 4 * i) (offsets version (place_of bytes i) (drop i ns)) (16 + 14 * length es + 4 * length ns)
offsets_stand version bytes es ns known w s zero h =
    let first : 16 + 14 * length es + 4 * length ns ≡ place_of bytes 0 =
    omega (arith, first_chained bytes (not_1 version known (version_of bytes) w.form), w.chains, w.nodes) in
    moved bytes (16 + 14 * length es) (16 + 14 * length es + 4 * 0) _ _
    (other bytes (16 + 14 * length es) _ _ _ w.table (ap (λ k. offsets version k ns) first)) (omega arith)
offsets_stand version bytes es ns known w s (suc i) h =
    let p = at_place ns i (omega (arith, h)) in
    let one = node_again version bytes es ns known w s i p.0 p.1 p.2 (nodes_stand version bytes es ns known w s i (omega (arith, h))) in
    let at : ℕ = place_of bytes i in
    let before = offsets_stand version bytes es ns known w s i (omega (arith, h)) in
    let next : at + length (chain_node version p.0) ≡ place_of bytes (suc i) =
    sym one.1.ends ∙ (sym (next_place bytes i) ∙ ap (λ k. place_of bytes k) (let later : i + 1 ≡ suc i = omega arith in later)) in
    let split : Stands bytes (16 + 14 * length es + 4 * i) (little_bytes 4 at ++ offsets version (at + length (chain_node version p.0))
    (drop (suc i) ns)) (16 + 14 * length es + 4 * length ns) =
    other bytes (16 + 14 * length es + 4 * i) _ _ _ before (ap (λ xs. offsets version at xs) p.1) in
    moved bytes (16 + 14 * length es + 4 * i + 4) (16 + 14 * length es + 4 * suc i) _ _
    (other bytes (16 + 14 * length es + 4 * i + 4) _ _ _
    (back bytes (16 + 14 * length es + 4 * i) (little_bytes 4 at)
    (offsets version (at + length (chain_node version p.0)) (drop (suc i) ns)) _ split)
    (ap (λ k. offsets version k (drop (suc i) ns)) next)) (omega arith)

pub offset_is : (version : ℕ) (bytes : List ℕ) (es : List (ℕ × Claim)) (ns : List ChainNode) → IsChained version
    → Whole version bytes es ns
    → SpellsChained version bytes es ns → (i : ℕ) → i < length ns → offset_at bytes i ≡ place_of bytes i
offset_is version bytes es ns known w s i h =
    let p = at_place ns i h in
    let at : ℕ = place_of bytes i in
    let here = nodes_stand version bytes es ns known w s i (omega (arith, h)) in
    let split : Stands bytes (16 + 14 * length es + 4 * i) (little_bytes 4 at ++ offsets version (at + length (chain_node version p.0))
    (drop (suc i) ns)) (16 + 14 * length es + 4 * length ns) =
    other bytes (16 + 14 * length es + 4 * i) _ _ _ (offsets_stand version bytes es ns known w s i (omega (arith, h)))
    (ap (λ xs. offsets version at xs) p.1) in
    ap (λ c. long_at bytes (16 + 14 * c + 4 * i)) w.chains
    ∙ long_is bytes (16 + 14 * length es + 4 * i) at _ (front bytes (16 + 14 * length es + 4 * i) (little_bytes 4 at) _ _ split)
    (omega (arith, here.ends, s.short))
