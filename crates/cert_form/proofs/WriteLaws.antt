-- Nodes that are written, one after another.
use Rattle.std.proofs.Common.{Bool, true, false, inl, inr, cond, eqb, drop, ◌≡◌, ℕ, ◌+◌, ◌<◌, ◌≤◌, List, [], ◌∷◌, ◌++◌, All, length, take}
use Rattle.std.proofs.Common.{map, get_or, refl, ap, sym, ◌∙◌, subst, arith}
use Rattle.std.specs.List.{flat_map, AllByRecursion}
use Rattle.std.proofs.lemmas.List.{get_or_default, length-map, get_or-map, map_more, flat_map_more, take_more, length-append}
use Rattle.std.proofs.lemmas.List.{append_assoc, drop_more}
use Rattle.std.proofs.lemmas.List.Elements.{All-push, All-from_recursion}
use Rattle.std.specs.Prelude.{replicate}
use Rattle.std.proofs.lemmas.Bool.{eqb-true}
use Rattle.cert_state.specs.declared.literal.Lit.{Lit}
use Rattle.cert_state.specs.declared.literal.AVal.{AVal}
use Rattle.cert_state.specs.declared.literal.AVal.TheVariants.{Unknown}
use Rattle.cert_form.specs.declared.node.Claim.{Claim}
use Rattle.cert_form.specs.Nodes.{PlainNode, said, said_plainly}
use Rattle.byteorder.specs.Endian.{little_bytes}
use Rattle.cert_form.specs.declared.node.ChainNode.{ChainNode}
use Rattle.cert_form.specs.Reading.{tail_length}
use Rattle.cert_form.specs.Spelling.{value, scratch, tail, kind_number, chain_node, offsets}
use Rattle.cert_form.proofs.PartLaws.{length-value}
use Rattle.cert_form.proofs.TailLaws.{length-tail}
use Rattle.cert_form.specs.Spelling.{listed, chained, stated_bits, nothing_stated, IsNode, SpellsListed, IsChainNode, IsChained}
use Rattle.cert_form.specs.Spelling.{SpellsChained, Spells}
use Rattle.cert_form.specs.declared.fault.FormError.TheVariants.{BadMagic, BadVersion, Truncated, BadNode, BadCount, Trailing, OutOfMemory}
use Rattle.cert_form.specs.Writing.{IsMeant, IsChainMeant, AreMeant, AreWritable, AreChainsWritable, all_known, version_for}
use Rattle.cert_form.specs.Writing.{IsClaimMeant, AreClaimsMeant, AreClaimsWritable}
use Rattle.cert_form.specs.inner.Standing.{IsPlain}
use Rattle.cert_form.proofs.ScratchLaws.{none_from_bits}
use Rattle.cert_form.proofs.KnownLaws.{all_said, entries_known, length-known, length_known}

-- what holds of all that a view shows holds of each
pub of_item : {X Y : Type 0} (P : Y → Type 0) (f : X → Y) (xs : List X) (i : ℕ) (x : X) → i < length xs → x ≡ get_or xs i x
    → All P (map f xs) → P (f x)
of_item P f xs i x h e all =
    subst P (get_or-map f xs i x (f x) h ∙ ap f (sym e)) (all i (f x) (subst (λ n. i < n) (sym (length-map xs f)) h))

pub one_more : {X Y : Type 0} (f : X → Y) (xs : List X) (i : ℕ) (x : X) → i < length xs → x ≡ get_or xs i x
    → map f (take (i + 1) xs) ≡ map f (take i xs) ++ f x ∷ []
one_more f xs i x h e = map_more f xs i x h ∙ ap (λ y. map f (take i xs) ++ f y ∷ []) (sym e)

pub written_more : {X Y : Type 0} (f : X → Y) (spell : Y → List ℕ) (xs : List X) (i : ℕ) (x : X) (old now new : List ℕ) → i < length xs
    → x ≡ get_or xs i x
    → now ≡ old ++ flat_map spell (map f (take i xs)) → new ≡ now ++ spell (f x) → new ≡ old ++ flat_map spell (map f (take (i + 1) xs))
written_more f spell xs i x old now new h e so_far one =
    one ∙ (ap (λ (t : List ℕ). t ++ spell (f x)) so_far
    ∙ (flat_map_more spell old (map f (take i xs)) (f x) ∙ ap (λ ys. old ++ flat_map spell ys) (sym (one_more f xs i x h e))))

pub spelled_more : {X : Type 0} (spell : X → List ℕ) (xs : List X) (i : ℕ) (d : X) (old now new : List ℕ) → i < length xs
    → now ≡ old ++ flat_map spell (take i xs) → new ≡ now ++ spell (get_or xs i d) → new ≡ old ++ flat_map spell (take (i + 1) xs)
spelled_more spell xs i d old now new h so_far one =
    one ∙ (ap (λ (t : List ℕ). t ++ spell (get_or xs i d)) so_far
    ∙ (flat_map_more spell old (take i xs) (get_or xs i d) ∙ ap (λ ys. old ++ flat_map spell ys) (sym (take_more xs i d h))))

-- the same of what is made of each element
pub mapped_more : {X Y : Type 0} (f : X → Y) (spell : Y → List ℕ) (xs : List X) (i : ℕ) (d : X) (old now new : List ℕ) → i < length xs
    → now ≡ old ++ flat_map spell (map f (take i xs)) → new ≡ now ++ spell (f (get_or xs i d))
    → new ≡ old ++ flat_map spell (map f (take (i + 1) xs))
mapped_more f spell xs i d old now new h so_far one =
    written_more f spell xs i (get_or xs i d) old now new h (get_or_default xs i d (get_or xs i d) h) so_far one

-- a part and another one are both
pub two_parts : (old mid new a b : List ℕ) → mid ≡ old ++ a → new ≡ mid ++ b → new ≡ old ++ (a ++ b)
two_parts old mid new a b first second = second ∙ (ap (λ (t : List ℕ). t ++ b) first ∙ append_assoc old a b)

pub all_more : {X Y : Type 0} (P : Y → Type 0) (f : X → Y) (xs : List X) (i : ℕ) (x : X) → i < length xs → x ≡ get_or xs i x
    → All P (map f (take i xs)) → P (f x) → All P (map f (take (i + 1) xs))
all_more P f xs i x h e all one k d =
    subst (λ ys. k < length ys → P (get_or ys k d)) (sym (one_more f xs i x h e)) (All-push P (map f (take i xs)) (f x) all one k d)

-- ---- form 1

pub no_scratch : (vs : List AVal) → length vs ≡ 16 → stated_bits vs ≡ 0 → vs ≡ nothing_stated
no_scratch vs sixteen none = none_from_bits vs none ∙ ap (λ k. replicate k Unknown) sixteen

spelled_listed : (bytes : List ℕ) (ns : List PlainNode) → bytes ≡ listed ns → length bytes ≤ 4194304 → 1 ≤ length ns → length ns ≤ 16384
    → All IsPlain ns → All IsMeant ns → SpellsListed bytes ns
spelled_listed bytes ns spelled short some few plain meant = record {
  spelled = spelled;
  short = short;
  some = some;
  few = few;
  nodes = λ k d h. whole (get_or ns k d) (plain k d h) (meant k d h);
} where
  whole : (n : PlainNode) → IsPlain n → IsMeant n → IsNode n
  whole n p m = record {
    kind = m.kind;
    pc = m.pc;
    values = m.values;
    no_scratch = p.no_scratch;
    none_out = p.none_out;
    none_met = p.none_met;
    not_sharp = p.not_sharp;
    few = p.few;
    literals = m.literals;
  }

-- what was written breaks no limit
writable : (ns : List PlainNode) → length (listed ns) ≤ 4194304 → 1 ≤ length ns → length ns ≤ 16384 → All IsPlain ns → AreWritable ns
writable ns short some few plain BadCount (inl none) = absurd (omega (arith, some, none))
writable ns short some few plain BadCount (inr (inl many)) = absurd (omega (arith, few, many))
writable ns short some few plain BadCount (inr (inr (inl long))) = absurd (long (λ k d h. (plain k d h).few))
writable ns short some few plain BadCount (inr (inr (inr big))) = absurd (omega (arith, short, big))
writable ns short some few plain BadNode stated = absurd (stated (λ k d h. (plain k d h).no_scratch))
writable ns short some few plain OutOfMemory _ = refl
writable ns short some few plain BadMagic none = absurd none
writable ns short some few plain BadVersion none = absurd none
writable ns short some few plain Truncated none = absurd none
writable ns short some few plain Trailing none = absurd none

-- so bytes that spell nodes within the limits
pub listed_in_limits : (bytes : List ℕ) (ns : List PlainNode) → bytes ≡ listed ns → length bytes ≤ 4194304 → 1 ≤ length ns
    → length ns ≤ 16384
    → All IsPlain ns → AreWritable ns × (All IsMeant ns → SpellsListed bytes ns)
listed_in_limits bytes ns spelled short some few plain =
    (writable ns (omega (arith, ap length spelled, short)) some few plain, spelled_listed bytes ns spelled short some few plain)

-- ---- forms 2 to 4

pub length-chained : (version : ℕ) (n : ChainNode)
    → length (chain_node version n) ≡ 20 + length (cond (eqb version 2) [] (scratch n.regs.scratch)) + tail_length (kind_number n.kind)
length-chained version n =
    let a1 : List ℕ = kind_number n.kind ∷ 0 ∷ little_bytes 2 n.pc in
    let a2 : List ℕ = a1 ++ value n.regs.a in
    let a3 : List ℕ = a2 ++ value n.regs.x in
    let w : List ℕ = cond (eqb version 2) [] (scratch n.regs.scratch) in
    let a4 : List ℕ = a3 ++ w in
    let a5 : List ℕ = a4 ++ little_bytes 4 n.chain in
    omega (
      arith,
      length-append a5 (tail n.kind),
      length-append a4 (little_bytes 4 n.chain),
      length-append a3 w,
      length-append a2 (value n.regs.x),
      length-append a1 (value n.regs.a),
      length-value n.regs.a,
      length-value n.regs.x,
      length-tail n.kind,
    )

-- one offset more
pub offset_more : (version at : ℕ) (ns : List ChainNode) (i : ℕ) (d : ChainNode) (now new all : List ℕ) → i < length ns
    → now ++ offsets version at (drop i ns) ≡ all → new ≡ now ++ little_bytes 4 at
    → new ++ offsets version (at + length (chain_node version (get_or ns i d))) (drop (i + 1) ns) ≡ all
offset_more version at ns i d now new all h so_far one =
    let n : ChainNode = get_or ns i d in
    let next : List ℕ = offsets version (at + length (chain_node version n)) (drop (i + 1) ns) in
    ap (λ (t : List ℕ). t ++ next) one
    ∙ (append_assoc now (little_bytes 4 at) next
    ∙ (ap (λ ms. now ++ offsets version at ms) (sym (drop_more ns i d h)) ∙ so_far))

-- form 2 states no scratch value
none_stated : (ns : List ChainNode) → version_for ns ≡ 2 → AllByRecursion (λ n. stated_bits n.regs.scratch ≡ 0) ns
none_stated [] e = tt
none_stated (n ∷ ns) e = by_test (eqb (stated_bits n.regs.scratch) 0) refl e (none_stated ns) where
  by_test : (b : Bool) → eqb (stated_bits n.regs.scratch) 0 ≡ b → cond b (version_for ns) 3 ≡ 2
      → (version_for ns ≡ 2 → AllByRecursion (λ m. stated_bits m.regs.scratch ≡ 0) ns)
      → AllByRecursion (λ m. stated_bits m.regs.scratch ≡ 0) (n ∷ ns)
  by_test true t two rest = (eqb-true (stated_bits n.regs.scratch) 0 t, rest two)
  by_test false t two rest = absurd (omega (arith, two))

chained_for : (ns : List ChainNode) → IsChained (version_for ns)
chained_for [] = (omega arith, omega arith)
chained_for (n ∷ ns) = by_test (eqb (stated_bits n.regs.scratch) 0) (chained_for ns) where
  by_test : (b : Bool) → IsChained (version_for ns) → IsChained (cond b (version_for ns) 3)
  by_test true rest = rest
  by_test false rest = (omega arith, omega arith)

spelled_chained : (bytes : List ℕ) (es : List (ℕ × Lit)) (ns : List ChainNode) → bytes ≡ chained (version_for ns) (all_known es) ns
    → length bytes ≤ 4194304
    → 1 ≤ length ns → length ns ≤ 16384 → length es ≤ 65536 → AreMeant es ns → SpellsChained (version_for ns) bytes (all_known es) ns
spelled_chained bytes es ns spelled short some few few_entries meant = record {
  spelled = spelled;
  short = short;
  some = some;
  few = few;
  few_entries = omega (arith, few_entries, length-known es);
  entries = entries_known (version_for ns) es meant.entries;
  nodes = λ k d h. whole (get_or ns k d) (meant.nodes k d h)
      (λ two. All-from_recursion (λ n. stated_bits n.regs.scratch ≡ 0) ns (none_stated ns two) k d h);
} where
  whole : (n : ChainNode) → IsChainMeant es n → (version_for ns ≡ 2 → stated_bits n.regs.scratch ≡ 0)
      → IsChainNode (version_for ns) (all_known es) n
  whole n m none = record {
    kind = m.kind;
    pc = m.pc;
    values = m.values;
    no_scratch = λ two. no_scratch n.regs.scratch m.values.sixteen (none two);
    chain = omega (arith, m.chain, length-known es);
    few = omega (arith, m.few, length_known es n.chain);
  }

-- what was written breaks no limit
writable_chains : (es : List (ℕ × Lit)) (ns : List ChainNode)
    → length (chained (version_for ns) (all_known es) ns) ≤ 4194304 → 1 ≤ length ns
    → length ns ≤ 16384 → length es ≤ 65536 → AreChainsWritable es ns
writable_chains es ns short some few few_entries BadCount (inl none) = absurd (omega (arith, some, none))
writable_chains es ns short some few few_entries BadCount (inr (inl many)) = absurd (omega (arith, few, many))
writable_chains es ns short some few few_entries BadCount (inr (inr (inl many))) = absurd (omega (arith, few_entries, many))
writable_chains es ns short some few few_entries BadCount (inr (inr (inr big))) = absurd (omega (arith, short, big))
writable_chains es ns short some few few_entries OutOfMemory _ = refl
writable_chains es ns short some few few_entries BadNode none = absurd none
writable_chains es ns short some few few_entries BadMagic none = absurd none
writable_chains es ns short some few few_entries BadVersion none = absurd none
writable_chains es ns short some few few_entries Truncated none = absurd none
writable_chains es ns short some few few_entries Trailing none = absurd none

-- so bytes that spell entries and nodes within the limits
pub chained_in_limits : (bytes : List ℕ) (es : List (ℕ × Lit)) (ns : List ChainNode) → bytes ≡ chained (version_for ns) (all_known es) ns
    → length bytes ≤ 4194304 → 1 ≤ length ns → length ns ≤ 16384 → length es ≤ 65536
    → AreChainsWritable es ns × (AreMeant es ns → SpellsChained (version_for ns) bytes (all_known es) ns)
chained_in_limits bytes es ns spelled short some few few_entries = (
  writable_chains es ns (omega (arith, ap length spelled, short)) some few few_entries,
  spelled_chained bytes es ns spelled short some few few_entries,
)

-- which are not of form 4
up_to_3 : (ns : List ChainNode) → version_for ns ≤ 3
up_to_3 [] = omega arith
up_to_3 (n ∷ ns) = by_test (eqb (stated_bits n.regs.scratch) 0) (up_to_3 ns) where
  by_test : (b : Bool) → version_for ns ≤ 3 → cond b (version_for ns) 3 ≤ 3
  by_test true rest = rest
  by_test false rest = omega arith

not_4 : (ns : List ChainNode) → version_for ns ≡ 4 → ⊥
not_4 ns four = omega (arith, up_to_3 ns, four)

pub spells_chained : (bytes : List ℕ) (es : List (ℕ × Lit)) (ns : List ChainNode) → SpellsChained (version_for ns) bytes (all_known es) ns
    → Spells bytes (map (said_plainly es) ns)
spells_chained bytes es ns s =
    inr (version_for ns, chained_for ns, record { es = all_known es; cs = ns; spells = s; same = sym (all_said (version_for ns) (not_4 ns) es ns) })

-- ---- form 4

claims_spelled : (bytes : List ℕ) (es : List (ℕ × Claim)) (ns : List ChainNode) → bytes ≡ chained 4 es ns → length bytes ≤ 4194304
    → 1 ≤ length ns → length ns ≤ 16384 → length es ≤ 65536 → AreClaimsMeant es ns → SpellsChained 4 bytes es ns
claims_spelled bytes es ns spelled short some few few_entries meant = record {
  spelled = spelled;
  short = short;
  some = some;
  few = few;
  few_entries = few_entries;
  entries = meant.entries;
  nodes = λ k d h. whole (get_or ns k d) (meant.nodes k d h);
} where
  whole : (n : ChainNode) → IsClaimMeant es n → IsChainNode 4 es n
  whole n m = record {
    kind = m.kind;
    pc = m.pc;
    values = m.values;
    no_scratch = λ two. absurd (omega (arith, two));
    chain = m.chain;
    few = m.few;
  }

-- what was written breaks no limit
claims_writable : (es : List (ℕ × Claim)) (ns : List ChainNode) → length (chained 4 es ns) ≤ 4194304 → 1 ≤ length ns
    → length ns ≤ 16384 → length es ≤ 65536 → AreClaimsWritable es ns
claims_writable es ns short some few few_entries BadCount (inl none) = absurd (omega (arith, some, none))
claims_writable es ns short some few few_entries BadCount (inr (inl many)) = absurd (omega (arith, few, many))
claims_writable es ns short some few few_entries BadCount (inr (inr (inl many))) = absurd (omega (arith, few_entries, many))
claims_writable es ns short some few few_entries BadCount (inr (inr (inr big))) = absurd (omega (arith, short, big))
claims_writable es ns short some few few_entries OutOfMemory _ = refl
claims_writable es ns short some few few_entries BadNode none = absurd none
claims_writable es ns short some few few_entries BadMagic none = absurd none
claims_writable es ns short some few few_entries BadVersion none = absurd none
claims_writable es ns short some few few_entries Truncated none = absurd none
claims_writable es ns short some few few_entries Trailing none = absurd none

pub claims_in_limits : (bytes : List ℕ) (es : List (ℕ × Claim)) (ns : List ChainNode) → bytes ≡ chained 4 es ns
    → length bytes ≤ 4194304 → 1 ≤ length ns → length ns ≤ 16384 → length es ≤ 65536
    → AreClaimsWritable es ns × (AreClaimsMeant es ns → SpellsChained 4 bytes es ns)
claims_in_limits bytes es ns spelled short some few few_entries = (
  claims_writable es ns (omega (arith, ap length spelled, short)) some few few_entries,
  claims_spelled bytes es ns spelled short some few few_entries,
)

pub spells_claims : (bytes : List ℕ) (es : List (ℕ × Claim)) (ns : List ChainNode) → SpellsChained 4 bytes es ns
    → Spells bytes (map (said 4 es) ns)
spells_claims bytes es ns s = inr (4, (omega arith, omega arith), record { es = es; cs = ns; spells = s; same = refl })
