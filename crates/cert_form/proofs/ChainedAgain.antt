-- A node of form 2, 3 or 4 that is spelled is read, ends where its spelling does, and is not bad.
use Rattle.std.proofs.Common.{◌≡◌, ℕ, ◌+◌, ◌*◌, ◌<◌, ◌^◌, cond, eqb, List, [], ◌∷◌, ◌++◌, length, All, refl, ap, sym, ◌∙◌, subst, inl}
use Rattle.std.proofs.Common.{inr, arith}
use Rattle.std.specs.Prelude.{◌≢◌, slice_index}
use Rattle.std.specs.List.{flat_map}
use Rattle.std.proofs.lemmas.Bool.{ne_eqb, cases_eq}
use Rattle.std.proofs.lemmas.List.{length-append}
use Rattle.std.proofs.lemmas.List.Elements.{recursion_from_All}
use Rattle.byteorder.specs.Endian.{little_bytes}
use Rattle.cert_form.specs.declared.node.Claim.{Claim}
use Rattle.cert_state.specs.declared.literal.AVal.{AVal}
use Rattle.cert_state.specs.Literals.{IsValue}
use Rattle.cert_form.specs.declared.node.Kind.{Kind}
use Rattle.cert_form.specs.declared.node.ChainNode.{ChainNode}
use Rattle.cert_form.specs.Nodes.{on_chain}
use Rattle.cert_form.specs.Spelling.{value, scratch, if_stated, stated_bits, tail, kind_number, chain_node, IsChainNode, IsChained}
use Rattle.cert_form.specs.Reading.{short_at, long_at, value_at, kind_at, tail_length, version_of, chain_count, entries_of, ones}
use Rattle.cert_form.specs.Reading.{scratch_from, scratch_at, chain_place, chain_node_at, node_end}
use Rattle.cert_form.specs.Faults.{IsBadStated, IsBadTail, IsBadChained}
use Rattle.cert_form.specs.inner.Standing.{Stands}
use Rattle.cert_form.proofs.StandLaws.{front, back, moved, ended, byte_is, short_is, long_is}
use Rattle.cert_form.proofs.PartLaws.{length-value, value_is, value_not_bad}
use Rattle.cert_form.proofs.TailLaws.{length-tail, kind_below, tail_is, tail_not_bad}
use Rattle.cert_form.proofs.ScratchLaws.{stated_below, length-stated, scratch_is, scratch_not_bad, stated_place, stated_at, plain_place}
use Rattle.cert_form.proofs.ScratchLaws.{plain_at}
use Rattle.cert_form.proofs.ChainedLaws.{chained_end}

abbrev words : ℕ → ChainNode → List ℕ
words version n = cond (eqb version 2) [] (scratch n.regs.scratch)

-- the parts of a node where they stand
pub record Parts (bytes : List ℕ) (at : ℕ) (version : ℕ) (n : ChainNode) (end : ℕ) : Type 0 where
  pub head : Stands bytes at (kind_number n.kind ∷ 0 ∷ little_bytes 2 n.pc) (at + 4)
  pub a : Stands bytes (at + 4) (value n.regs.a) (at + 10)
  pub x : Stands bytes (at + 10) (value n.regs.x) (at + 16)
  pub said : Stands bytes (at + 16) (words version n) (at + 16 + length (words version n))
  pub chain : Stands bytes (at + 16 + length (words version n)) (little_bytes 4 n.chain) (at + 20 + length (words version n))
  pub follows : Stands bytes (at + 20 + length (words version n)) (tail n.kind) end

pub parts : (bytes : List ℕ) (at version : ℕ) (n : ChainNode) (end : ℕ) → Stands bytes at (chain_node version n) end
    → Parts bytes at version n end
parts bytes at version n end s =
    let a1 : List ℕ = kind_number n.kind ∷ 0 ∷ little_bytes 2 n.pc in
    let a2 : List ℕ = a1 ++ value n.regs.a in
    let a3 : List ℕ = a2 ++ value n.regs.x in
    let w : List ℕ = words version n in
    let a4 : List ℕ = a3 ++ w in
    let a5 : List ℕ = a4 ++ little_bytes 4 n.chain in
    let l2 : length a2 ≡ 10 = omega (arith, length-append a1 (value n.regs.a), length-value n.regs.a) in
    let l3 : length a3 ≡ 16 = omega (arith, length-append a2 (value n.regs.x), l2, length-value n.regs.x) in
    let l4 : length a4 ≡ 16 + length w = omega (arith, length-append a3 w, l3) in
    let l5 : length a5 ≡ 20 + length w = omega (arith, length-append a4 (little_bytes 4 n.chain), l4) in
    let f5 = front bytes at a5 (tail n.kind) end s in
    let f4 = front bytes at a4 (little_bytes 4 n.chain) _ f5 in
    let f3 = front bytes at a3 w _ f4 in
    let f2 = front bytes at a2 (value n.regs.x) _ f3 in
    record {
      head = front bytes at a1 (value n.regs.a) _ f2;
      a = ended bytes (at + 4) (value n.regs.a) _ (at + 10) (back bytes at a1 (value n.regs.a) _ f2) (omega (arith, l2));
      x = moved bytes (at + length a2) (at + 10) (value n.regs.x) (at + 16)
          (ended bytes (at + length a2) (value n.regs.x) _ (at + 16) (back bytes at a2 (value n.regs.x) _ f3) (omega (arith, l3)))
          (omega (arith, l2));
      said = moved bytes (at + length a3) (at + 16) w (at + 16 + length w)
          (ended bytes (at + length a3) w _ (at + 16 + length w) (back bytes at a3 w _ f4) (omega (arith, l4))) (omega (arith, l3));
      chain = moved bytes (at + length a4) (at + 16 + length w) (little_bytes 4 n.chain) (at + 20 + length w)
          (ended bytes (at + length a4) (little_bytes 4 n.chain) _ (at + 20 + length w) (back bytes at a4 (little_bytes 4 n.chain) _ f5)
          (omega (arith, l5))) (omega (arith, l4));
      follows = moved bytes (at + length a5) (at + 20 + length w) (tail n.kind) end (back bytes at a5 (tail n.kind) end s)
          (omega (arith, l5));
    }

-- the scratch words in either form
pub record SaysScratch (bytes : List ℕ) (at : ℕ) (version : ℕ) (n : ChainNode) : Type 0 where
  pub place : chain_place bytes at ≡ at + 16 + length (words version n)
  pub is : scratch_at bytes at ≡ n.regs.scratch
  pub sound : (k : ℕ) → version_of bytes ≢ 2 → k < ones (short_at bytes (at + 16)) 16 → IsBadStated bytes (at + 18 + 6 * k) → ⊥

spoken : (version : ℕ) (n : ChainNode) → version ≢ 2 → words version n ≡ scratch n.regs.scratch
spoken version n other = rw (ne_eqb version 2 other) refl

with_scratch : (bytes : List ℕ) (at version : ℕ) (n : ChainNode) (vs : List AVal) (end : ℕ) → n.regs.scratch ≡ vs
    → Stands bytes (at + 16) (scratch vs) end → version_of bytes ≢ 2 → words version n ≡ scratch n.regs.scratch
    → length vs ≡ 16 → All IsValue vs → SaysScratch bytes at version n
with_scratch bytes at version n vs end e s other said sixteen good =
    let by_words = recursion_from_All IsValue vs good in
    let bits : short_at bytes (at + 16) ≡ stated_bits vs =
    short_is bytes (at + 16) (stated_bits vs) _ (front bytes (at + 16) (little_bytes 2 (stated_bits vs)) (flat_map if_stated vs) end s)
    (stated_below vs sixteen) in
    let values : Stands bytes (at + 18) (flat_map if_stated vs) end =
    moved bytes (at + 16 + 2) (at + 18) (flat_map if_stated vs) end
    (back bytes (at + 16) (little_bytes 2 (stated_bits vs)) (flat_map if_stated vs) end s) (omega arith) in
    let count : ones (short_at bytes (at + 16)) 16 ≡ ones (stated_bits vs) (length vs) =
    ap (λ b. ones b 16) bits ∙ ap (λ k. ones (stated_bits vs) k) (sym sixteen) in
    record {
      place = stated_place bytes at other
          ∙ omega (
            arith,
            count,
            length-stated vs,
            ap length said,
            ap length (ap scratch e),
            length-append (little_bytes 2 (stated_bits vs)) (flat_map if_stated vs),
          );
      is = stated_at bytes at other
          ∙ (ap (λ b. scratch_from bytes (at + 18) b 16) bits ∙ (ap (λ k. scratch_from bytes (at + 18) (stated_bits vs) k) (sym sixteen)
          ∙ (scratch_is bytes (at + 18) vs end values by_words ∙ sym e)));
      sound = λ k form less bad. scratch_not_bad bytes (at + 18) vs end values by_words k (omega (arith, less, count)) bad;
    }

pub says_scratch : (bytes : List ℕ) (at version : ℕ) (es : List (ℕ × Claim)) (n : ChainNode) (end : ℕ) → Parts bytes at version n end
    → IsChainNode version es n
    → version_of bytes ≡ version → SaysScratch bytes at version n
says_scratch bytes at version es n end p good form = elim (cases_eq version 2) [
  | inl two ↦
      let here : version_of bytes ≡ 2 = form ∙ two in
      let nothing : words version n ≡ [] = rw two refl in
      record {
        place = plain_place bytes at here ∙ omega (arith, ap length nothing);
        is = plain_at bytes at here ∙ sym (good.no_scratch two);
        sound = λ k other. absurd (other here);
      }
  | inr other ↦
      let said = spoken version n other in
      with_scratch bytes at version n n.regs.scratch _ refl (standing bytes (at + 16) _ _ _ p.said said)
      (λ two. other (sym form ∙ two)) said good.values.sixteen good.values.scratch
] where
  standing : (bytes : List ℕ) (at : ℕ) (a b : List ℕ) (end : ℕ) → Stands bytes at a end → a ≡ b → Stands bytes at b end
  standing bytes at a b end s e = subst (λ part. Stands bytes at part end) e s

-- what a spelled node is
pub record Again (bytes : List ℕ) (at : ℕ) (es : List (ℕ × Claim)) (n : ChainNode) (end : ℕ) : Type 0 where
  pub ends : node_end bytes at ≡ end
  pub same : chain_node_at bytes at ≡ n
  pub sound : IsBadChained bytes at → ⊥

abbrev made : Kind → ℕ → AVal → AVal → List AVal → ℕ → ChainNode
made kind pc a x scratch chain = record { kind = kind; pc = pc; regs = record { a = a; x = x; scratch = scratch }; chain = chain }

not_bad : (bytes : List ℕ) (at version : ℕ) (es : List (ℕ × Claim)) (n : ChainNode) (end : ℕ) → Parts bytes at version n end
    → SaysScratch bytes at version n
    → IsChainNode version es n → slice_index bytes at ≡ kind_number n.kind → slice_index bytes (at + 1) ≡ 0
    → long_at bytes (chain_place bytes at) ≡ n.chain
    → chain_place bytes at + 4 ≡ at + 20 + length (words version n)
    → entries_of bytes ≡ es → chain_count bytes ≡ length es → IsBadChained bytes at → ⊥
not_bad bytes at version es n end p s good tag nil chain tail_place entries count (IsBadChained.kind room bad) =
    omega (arith, tag, bad, kind_below n.kind)
not_bad bytes at version es n end p s good tag nil chain tail_place entries count (IsBadChained.zero_byte room bad) = bad nil
not_bad bytes at version es n end p s good tag nil chain tail_place entries count (IsBadChained.a bad) =
    value_not_bad bytes (at + 4) n.regs.a _ p.a good.values.a bad
not_bad bytes at version es n end p s good tag nil chain tail_place entries count (IsBadChained.x bad) =
    value_not_bad bytes (at + 10) n.regs.x _ p.x good.values.x bad
not_bad bytes at version es n end p s good tag nil chain tail_place entries count (IsBadChained.stated k other less bad) =
    s.sound k other less bad
not_bad bytes at version es n end p s good tag nil chain tail_place entries count (IsBadChained.no_chain room bad) =
    omega (arith, bad, chain, count, good.chain)
not_bad bytes at version es n end p s good tag nil chain tail_place entries count (IsBadChained.long_chain room bad) =
    omega (
      arith,
      bad,
      good.few,
      ap (λ c. length (on_chain (entries_of bytes) c)) chain,
      ap (λ (fs : List (ℕ × Claim)). length (on_chain fs n.chain)) entries,
    )
not_bad bytes at version es n end p s good tag nil chain tail_place entries count (IsBadChained.follows bad) =
    tail_not_bad bytes (at + 20 + length (words version n)) n.kind end p.follows good.kind
    (subst (λ k. IsBadTail bytes (kind_number n.kind) k) tail_place (subst (λ t. IsBadTail bytes t (chain_place bytes at + 4)) tag bad))

pub again : (bytes : List ℕ) (at version : ℕ) (es : List (ℕ × Claim)) (n : ChainNode) (end : ℕ)
    → Stands bytes at (chain_node version n) end → IsChainNode version es n
    → version_of bytes ≡ version → IsChained version → entries_of bytes ≡ es → chain_count bytes ≡ length es
    → length es < 2 ^ 32
    → Again bytes at es n end
again bytes at version es n end stands good form known entries count few =
    let p = parts bytes at version n end stands in
    let s = says_scratch bytes at version es n end p good form in
    let tag : slice_index bytes at ≡ kind_number n.kind = byte_is bytes at (kind_number n.kind) _ _ p.head in
    let nil : slice_index bytes (at + 1) ≡ 0 = byte_is bytes (at + 1) 0 _ _
    (back bytes at (kind_number n.kind ∷ []) (0 ∷ little_bytes 2 n.pc) _ p.head) in
    let pc : short_at bytes (at + 2) ≡ n.pc =
    short_is bytes (at + 2) n.pc _ (back bytes at (kind_number n.kind ∷ 0 ∷ []) (little_bytes 2 n.pc) _ p.head) good.pc in
    let tail_place : chain_place bytes at + 4 ≡ at + 20 + length (words version n) = omega (arith, s.place) in
    let chain : long_at bytes (chain_place bytes at) ≡ n.chain =
    ap (λ k. long_at bytes k) s.place ∙ long_is bytes (at + 16 + length (words version n)) n.chain _ p.chain
    (omega (arith, good.chain, few)) in
    let a : value_at bytes (at + 4) ≡ n.regs.a = value_is bytes (at + 4) n.regs.a _ p.a good.values.a in
    let x : value_at bytes (at + 10) ≡ n.regs.x = value_is bytes (at + 10) n.regs.x _ p.x good.values.x in
    let kind : kind_at bytes (slice_index bytes at) (chain_place bytes at + 4) ≡ n.kind =
    ap (λ k. kind_at bytes (slice_index bytes at) k) tail_place
    ∙ (ap (λ t. kind_at bytes t (at + 20 + length (words version n))) tag
    ∙ tail_is bytes (at + 20 + length (words version n)) n.kind end p.follows good.kind) in
    let other_form : version_of bytes ≢ 1 = λ e. omega (arith, e, form, known.0) in
    record {
      ends = chained_end bytes at other_form ∙ omega (arith, tail_place, ap tail_length tag, length-tail n.kind, p.follows.ends);
      same = same_node (chain_node_at bytes at) n kind pc a x s.is chain;
      sound = not_bad bytes at version es n end p s good tag nil chain tail_place entries count;
    } where
      same_node : (m o : ChainNode) → m.kind ≡ o.kind → m.pc ≡ o.pc → m.regs.a ≡ o.regs.a → m.regs.x ≡ o.regs.x
          → m.regs.scratch ≡ o.regs.scratch → m.chain ≡ o.chain → m ≡ o
      same_node m o k pc a x s c =
          ap (λ v. made v m.pc m.regs.a m.regs.x m.regs.scratch m.chain) k
          ∙ (ap (λ v. made o.kind v m.regs.a m.regs.x m.regs.scratch m.chain) pc
          ∙ (ap (λ v. made o.kind o.pc v m.regs.x m.regs.scratch m.chain) a
          ∙ (ap (λ v. made o.kind o.pc o.regs.a v m.regs.scratch m.chain) x
          ∙ (ap (λ v. made o.kind o.pc o.regs.a o.regs.x v m.chain) s
          ∙ ap (λ v. made o.kind o.pc o.regs.a o.regs.x o.regs.scratch v) c))))
