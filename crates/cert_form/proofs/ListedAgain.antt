-- A certificate of form 1 that is spelled: its nodes are read, end where their spellings do, and are not bad.
use Rattle.std.proofs.Common.{◌≡◌, ℕ, zero, suc, ◌+◌, ◌-◌, ◌*◌, ◌<◌, ◌≤◌, Bool, false, List, [], ◌∷◌, ◌++◌, length, take, drop, get_or, All, refl, ap}
use Rattle.std.proofs.Common.{sym, ◌∙◌, subst, inl, inr, arith}
use Rattle.std.specs.Prelude.{◌≢◌, Some, slice_get, slice_index}
use Rattle.std.specs.List.{flat_map, AllByRecursion}
use Rattle.std.proofs.lemmas.List.{length-append, drop_all, same_lists}
use Rattle.std.proofs.lemmas.List.Elements.{recursion_from_All}
use Rattle.std.proofs.lemmas.Option.{get_or_from_slice_get, slice_get_within}
use Rattle.byteorder.specs.Endian.{little_bytes}
use Rattle.cert_state.specs.declared.literal.Lit.{Lit}
use Rattle.cert_state.specs.declared.literal.AVal.{AVal}
use Rattle.cert_state.specs.Literals.{IsLit}
use Rattle.cert_form.specs.declared.fault.FormError.{FormError}
use Rattle.cert_form.specs.declared.fault.FormError.TheVariants.{BadMagic, BadVersion, Truncated, BadNode, BadCount, Trailing, OutOfMemory}
use Rattle.cert_form.specs.declared.node.Kind.{Kind}
use Rattle.cert_form.specs.Nodes.{PlainNode}
use Rattle.cert_form.specs.Spelling.{magic, value, literal, tail, kind_number, node, listed, IsNode, SpellsListed}
use Rattle.cert_form.specs.Reading.{short_at, value_at, literal_at, kind_at, tail_length, version_of, node_count, own_count, own_end}
use Rattle.cert_form.specs.Reading.{literals_to, listed_node, node_end, place_of, nodes_in}
use Rattle.cert_form.specs.Faults.{IsBadLiteral, IsBadTail, IsBadListed, HasBadPart, HasBadCount, EndsEarly, Faulty}
use Rattle.cert_form.specs.inner.Standing.{Stands}
use Rattle.cert_form.proofs.StandLaws.{front, back, moved, ended, other, all_stands, byte_is, short_is, long_is}
use Rattle.cert_form.proofs.PartLaws.{length-literal, length-value, literal_is, literal_not_bad, value_is, value_not_bad}
use Rattle.cert_form.proofs.TailLaws.{length-tail, kind_below, tail_is, tail_not_bad}
use Rattle.cert_form.proofs.PlaceLaws.{next_place, first_listed}
use Rattle.cert_form.proofs.ReadLaws.{length-nodes_in, slice_get-nodes_in}
use Rattle.cert_form.proofs.ListedLaws.{listed_end, in_list}
use Rattle.cert_form.proofs.WalkLaws.{at_place}

length-literals : (ls : List Lit) → length (flat_map literal ls) ≡ 10 * length ls
length-literals [] = refl
length-literals (l ∷ ls) = omega (arith, length-append (literal l) (flat_map literal ls), length-literal l, length-literals ls)

-- literals that end at a place
literals_are : (bytes : List ℕ) (at : ℕ) (ls : List Lit) (end : ℕ) → Stands bytes at (flat_map literal ls) end → AllByRecursion IsLit ls
    → literals_to bytes end (length ls) ≡ ls
literals_are bytes at [] end s h = refl
literals_are bytes at (l ∷ ls) end s h =
    let n_l : length (literal l) ≡ 10 = length-literal l in
    let here : end - 10 * suc (length ls) ≡ at = omega (
      arith,
      s.ends,
      length-append (literal l) (flat_map literal ls),
      n_l,
      length-literals ls,
    ) in
    ap (λ k. literal_at bytes k ∷ literals_to bytes end (length ls)) here
    ∙ (ap (λ m. m ∷ literals_to bytes end (length ls)) (literal_is bytes at l _
    (front bytes at (literal l) (flat_map literal ls) end s) h.0)
    ∙ ap (λ (ms : List Lit). l ∷ ms) (literals_are bytes (at + length (literal l)) ls end
    (back bytes at (literal l) (flat_map literal ls) end s) h.1))

none_bad : (bytes : List ℕ) (at : ℕ) (ls : List Lit) (end : ℕ) → Stands bytes at (flat_map literal ls) end → AllByRecursion IsLit ls
    → (k : ℕ) → k < length ls → IsBadLiteral bytes (at + 10 * k) → ⊥
none_bad bytes at [] end s h k less bad = omega (arith, less)
none_bad bytes at (l ∷ ls) end s h zero less bad =
    literal_not_bad bytes at l _ (front bytes at (literal l) (flat_map literal ls) end s) h.0
    (subst (λ p. IsBadLiteral bytes p) (omega arith) bad)
none_bad bytes at (l ∷ ls) end s h (suc k) less bad =
    let n_l : length (literal l) ≡ 10 = length-literal l in
    none_bad bytes (at + length (literal l)) ls end (back bytes at (literal l) (flat_map literal ls) end s) h.1 k (omega (arith, less))
    (subst (λ p. IsBadLiteral bytes p) (omega (arith, n_l)) bad)

-- the parts of a node where they stand
record Parts (bytes : List ℕ) (at : ℕ) (n : PlainNode) (end : ℕ) : Type 0 where
  head : Stands bytes at (kind_number n.kind ∷ little_bytes 2 n.pc ++ little_bytes 2 (length n.known)) (at + 5)
  a : Stands bytes (at + 5) (value n.regs.a) (at + 11)
  x : Stands bytes (at + 11) (value n.regs.x) (at + 17)
  known : Stands bytes (at + 17) (flat_map literal n.known) (at + 17 + 10 * length n.known)
  follows : Stands bytes (at + 17 + 10 * length n.known) (tail n.kind) end

parts : (bytes : List ℕ) (at : ℕ) (n : PlainNode) (end : ℕ) → Stands bytes at (node n) end → Parts bytes at n end
parts bytes at n end s =
    let a1 : List ℕ = kind_number n.kind ∷ little_bytes 2 n.pc ++ little_bytes 2 (length n.known) in
    let a2 : List ℕ = a1 ++ value n.regs.a in
    let a3 : List ℕ = a2 ++ value n.regs.x in
    let a4 : List ℕ = a3 ++ flat_map literal n.known in
    let l2 : length a2 ≡ 11 = omega (arith, length-append a1 (value n.regs.a), length-value n.regs.a) in
    let l3 : length a3 ≡ 17 = omega (arith, length-append a2 (value n.regs.x), l2, length-value n.regs.x) in
    let l4 : length a4 ≡ 17 + 10 * length n.known = omega (
      arith,
      length-append a3 (flat_map literal n.known),
      l3,
      length-literals n.known,
    ) in
    let f4 = front bytes at a4 (tail n.kind) end s in
    let f3 = front bytes at a3 (flat_map literal n.known) _ f4 in
    let f2 = front bytes at a2 (value n.regs.x) _ f3 in
    record {
      head = front bytes at a1 (value n.regs.a) _ f2;
      a = ended bytes (at + 5) (value n.regs.a) _ (at + 11) (back bytes at a1 (value n.regs.a) _ f2) (omega (arith, l2));
      x = moved bytes (at + length a2) (at + 11) (value n.regs.x) (at + 17)
          (ended bytes (at + length a2) (value n.regs.x) _ (at + 17) (back bytes at a2 (value n.regs.x) _ f3) (omega (arith, l3)))
          (omega (arith, l2));
      known = moved bytes (at + length a3) (at + 17) (flat_map literal n.known) (at + 17 + 10 * length n.known)
          (ended bytes (at + length a3) (flat_map literal n.known) _ (at + 17 + 10 * length n.known)
          (back bytes at a3 (flat_map literal n.known) _ f4) (omega (arith, l4))) (omega (arith, l3));
      follows = moved bytes (at + length a4) (at + 17 + 10 * length n.known) (tail n.kind) end (back bytes at a4 (tail n.kind) end s)
          (omega (arith, l4));
    }

record Again (bytes : List ℕ) (at : ℕ) (n : PlainNode) (end : ℕ) : Type 0 where
  ends : node_end bytes at ≡ end
  same : listed_node bytes at ≡ n
  few : own_count bytes at ≤ 512
  sound : IsBadListed bytes at → ⊥

not_bad : (bytes : List ℕ) (at : ℕ) (n : PlainNode) (end : ℕ) → Parts bytes at n end → IsNode n
    → slice_index bytes at ≡ kind_number n.kind → own_count bytes at ≡ length n.known
    → IsBadListed bytes at → ⊥
not_bad bytes at n end p good tag count (IsBadListed.kind room bad) = omega (arith, tag, bad, kind_below n.kind)
not_bad bytes at n end p good tag count (IsBadListed.a bad) = value_not_bad bytes (at + 5) n.regs.a _ p.a good.values.a bad
not_bad bytes at n end p good tag count (IsBadListed.x bad) = value_not_bad bytes (at + 11) n.regs.x _ p.x good.values.x bad
not_bad bytes at n end p good tag count (IsBadListed.own k less bad) =
    none_bad bytes (at + 17) n.known _ p.known (recursion_from_All IsLit n.known good.literals) k (omega (arith, less, count)) bad
not_bad bytes at n end p good tag count (IsBadListed.follows bad) =
    tail_not_bad bytes (at + 17 + 10 * length n.known) n.kind end p.follows good.kind
    (subst (λ k. IsBadTail bytes (kind_number n.kind) k) (omega (arith, count)) (subst (λ t. IsBadTail bytes t (own_end bytes at)) tag bad))

abbrev made : Kind → ℕ → AVal → AVal → List AVal → List Lit → List ℕ → List (ℕ × ℕ) → Bool → PlainNode
made kind pc a x scratch known out met sharp = record {
  kind = kind;
  pc = pc;
  regs = record { a = a; x = x; scratch = scratch };
  known = known;
  out = out;
  met = met;
  sharp = sharp;
}

again : (bytes : List ℕ) (at : ℕ) (n : PlainNode) (end : ℕ) → Stands bytes at (node n) end → IsNode n → version_of bytes ≡ 1
    → Again bytes at n end
again bytes at n end stands good form =
    let p = parts bytes at n end stands in
    let k : ℕ = kind_number n.kind in
    let tag : slice_index bytes at ≡ k = byte_is bytes at k _ _ p.head in
    let fields = back bytes at (k ∷ []) (little_bytes 2 n.pc ++ little_bytes 2 (length n.known)) _ p.head in
    let pc : short_at bytes (at + 1) ≡ n.pc = short_is bytes (at + 1) n.pc _
    (front bytes (at + 1) (little_bytes 2 n.pc) (little_bytes 2 (length n.known)) _ fields) good.pc in
    let count : own_count bytes at ≡ length n.known =
    short_is bytes (at + 3) (length n.known) _ (back bytes at (k ∷ little_bytes 2 n.pc) (little_bytes 2 (length n.known)) _ p.head)
    (omega (arith, good.few)) in
    let end_is : own_end bytes at ≡ at + 17 + 10 * length n.known = omega (arith, count) in
    let a : value_at bytes (at + 5) ≡ n.regs.a = value_is bytes (at + 5) n.regs.a _ p.a good.values.a in
    let x : value_at bytes (at + 11) ≡ n.regs.x = value_is bytes (at + 11) n.regs.x _ p.x good.values.x in
    let kind : kind_at bytes (slice_index bytes at) (own_end bytes at) ≡ n.kind =
    ap (λ e. kind_at bytes (slice_index bytes at) e) end_is
    ∙ (ap (λ t. kind_at bytes t (at + 17 + 10 * length n.known)) tag
    ∙ tail_is bytes (at + 17 + 10 * length n.known) n.kind end p.follows good.kind) in
    let known : literals_to bytes (own_end bytes at) (own_count bytes at) ≡ n.known =
    ap (λ e. literals_to bytes e (own_count bytes at)) end_is
    ∙ (ap (λ c. literals_to bytes (at + 17 + 10 * length n.known) c) count
    ∙ literals_are bytes (at + 17) n.known _ p.known (recursion_from_All IsLit n.known good.literals)) in
    let m : PlainNode = listed_node bytes at in
    record {
      ends = listed_end bytes at form ∙ omega (arith, end_is, ap tail_length tag, length-tail n.kind, p.follows.ends);
      same =
          ap (λ v. made v m.pc m.regs.a m.regs.x m.regs.scratch m.known [] [] false) kind
          ∙ (ap (λ v. made n.kind v m.regs.a m.regs.x m.regs.scratch m.known [] [] false) pc
          ∙ (ap (λ v. made n.kind n.pc v m.regs.x m.regs.scratch m.known [] [] false) a
          ∙ (ap (λ v. made n.kind n.pc n.regs.a v m.regs.scratch m.known [] [] false) x
          ∙ (ap (λ v. made n.kind n.pc n.regs.a n.regs.x v m.known [] [] false) (sym good.no_scratch)
          ∙ (ap (λ v. made n.kind n.pc n.regs.a n.regs.x n.regs.scratch v [] [] false) known
          ∙ (ap (λ v. made n.kind n.pc n.regs.a n.regs.x n.regs.scratch n.known v [] false) (sym good.none_out)
          ∙ (ap (λ v. made n.kind n.pc n.regs.a n.regs.x n.regs.scratch n.known n.out v false) (sym good.none_met)
          ∙ ap (λ v. made n.kind n.pc n.regs.a n.regs.x n.regs.scratch n.known n.out n.met v) (sym good.not_sharp))))))));
      few = omega (arith, count, good.few);
      sound = not_bad bytes at n end p good tag count;
    }

-- ---- the whole

record Whole (bytes : List ℕ) (ns : List PlainNode) : Type 0 where
  first : take 4 bytes ≡ magic
  form : version_of bytes ≡ 1
  nodes : node_count bytes ≡ length ns
  rest : Stands bytes 12 (flat_map node ns) (length bytes)

whole : (bytes : List ℕ) (ns : List PlainNode) → SpellsListed bytes ns → Whole bytes ns
whole bytes ns s =
    let head : List ℕ = magic ++ little_bytes 4 1 ++ little_bytes 4 (length ns) in
    let all : Stands bytes 0 (head ++ flat_map node ns) (length bytes) = all_stands bytes (listed ns) s.spelled in
    let f1 = front bytes 0 head (flat_map node ns) (length bytes) all in
    let f2 = front bytes 0 (magic ++ little_bytes 4 1) (little_bytes 4 (length ns)) _ f1 in
    record {
      first = ap (λ bs. take 4 bs) s.spelled;
      form = long_is bytes 4 1 _ (back bytes 0 magic (little_bytes 4 1) _ f2) (omega arith);
      nodes = long_is bytes 8 (length ns) _ (back bytes 0 (magic ++ little_bytes 4 1) (little_bytes 4 (length ns)) _ f1)
          (omega (arith, s.few));
      rest = back bytes 0 head (flat_map node ns) (length bytes) all;
    }

record Standing (bytes : List ℕ) (ns : List PlainNode) (i : ℕ) : Type 0 where
  n : PlainNode
  got : slice_get ns i ≡ Some n
  end : ℕ
  stands : Stands bytes (place_of bytes i) (node n) end
  rest : Stands bytes end (flat_map node (drop (suc i) ns)) (length bytes)
  again : Again bytes (place_of bytes i) n end

of_index : (ms : List PlainNode) (k : ℕ) (m : PlainNode) → slice_get ms k ≡ Some m → All IsNode ms → IsNode m
of_index ms k m got all = subst (λ o. IsNode o) (get_or_from_slice_get ms k m m got) (all k m (slice_get_within ms k m got))

node_there : (bytes : List ℕ) (ns : List PlainNode) → Whole bytes ns → SpellsListed bytes ns → (i : ℕ) → i < length ns
    → Stands bytes (place_of bytes i) (flat_map node (drop i ns)) (length bytes) → Standing bytes ns i
node_there bytes ns w s i h here =
    let p = at_place ns i h in
    let at : ℕ = place_of bytes i in
    let split : Stands bytes at (node p.0 ++ flat_map node (drop (suc i) ns)) (length bytes) =
    other bytes at _ _ (length bytes) here (ap (λ xs. flat_map node xs) p.1) in
    let one = front bytes at (node p.0) (flat_map node (drop (suc i) ns)) (length bytes) split in
    record {
      n = p.0;
      got = p.2;
      end = at + length (node p.0);
      stands = one;
      rest = back bytes at (node p.0) (flat_map node (drop (suc i) ns)) (length bytes) split;
      again = again bytes at p.0 _ one (of_index ns i p.0 p.2 s.nodes) w.form;
    }

nodes_stand : (bytes : List ℕ) (ns : List PlainNode) → Whole bytes ns → SpellsListed bytes ns → (i : ℕ) → i ≤ length ns
    → Stands bytes (place_of bytes i) (flat_map node (drop i ns)) (length bytes)
nodes_stand bytes ns w s zero h = moved bytes 12 (place_of bytes 0) _ (length bytes) w.rest (sym (first_listed bytes w.form))
nodes_stand bytes ns w s (suc i) h =
    let one = node_there bytes ns w s i (omega (arith, h)) (nodes_stand bytes ns w s i (omega (arith, h))) in
    let later : i + 1 ≡ suc i = omega arith in
    moved bytes one.end (place_of bytes (suc i)) _ (length bytes) one.rest
    (sym one.again.ends ∙ (sym (next_place bytes i) ∙ ap (λ k. place_of bytes k) later))

node_stands : (bytes : List ℕ) (ns : List PlainNode) → Whole bytes ns → SpellsListed bytes ns → (i : ℕ) → i < length ns
    → Standing bytes ns i
node_stands bytes ns w s i h = node_there bytes ns w s i h (nodes_stand bytes ns w s i (omega (arith, h)))

last_end : (bytes : List ℕ) (ns : List PlainNode) → Whole bytes ns → SpellsListed bytes ns → place_of bytes (length ns) ≡ length bytes
last_end bytes ns w s =
    let end = nodes_stand bytes ns w s (length ns) (omega arith) in
    omega (arith, end.ends, ap (λ xs. length (flat_map node xs)) (drop_all (length ns) ns (omega arith)))

-- ---- no fault, and the nodes that are read

no_bad_part : (bytes : List ℕ) (ns : List PlainNode) → Whole bytes ns → SpellsListed bytes ns → HasBadPart bytes → ⊥
no_bad_part bytes ns w s (HasBadPart.entry j room form less bad) = form w.form
no_bad_part bytes ns w s (HasBadPart.offset i room form less bad) = form w.form
no_bad_part bytes ns w s (HasBadPart.listed i form less bad) = (node_stands bytes ns w s i (omega (arith, less, w.nodes))).again.sound bad
no_bad_part bytes ns w s (HasBadPart.chained i room form less bad) = form w.form

no_bad_count : (bytes : List ℕ) (ns : List PlainNode) → Whole bytes ns → SpellsListed bytes ns → HasBadCount bytes → ⊥
no_bad_count bytes ns w s (HasBadCount.size large) = omega (arith, large, s.short)
no_bad_count bytes ns w s (HasBadCount.no_nodes room none) = omega (arith, none, w.nodes, s.some)
no_bad_count bytes ns w s (HasBadCount.nodes room many) = omega (arith, many, w.nodes, s.few)
no_bad_count bytes ns w s (HasBadCount.entries room form many) = form w.form
no_bad_count bytes ns w s (HasBadCount.own_literals i form less room many) =
    omega (arith, many, (node_stands bytes ns w s i (omega (arith, less, w.nodes))).again.few)

no_end : (bytes : List ℕ) (ns : List PlainNode) → Whole bytes ns → SpellsListed bytes ns → EndsEarly bytes → ⊥
no_end bytes ns w s (inl short) = omega (arith, short, w.rest.room, w.rest.ends)
no_end bytes ns w s (inr (i, less, short)) =
    let one = node_stands bytes ns w s i (omega (arith, less, w.nodes)) in
    omega (arith, short, one.again.ends, one.stands.room)

pub listed_no_fault : (bytes : List ℕ) (ns : List PlainNode) → SpellsListed bytes ns → (e : FormError) → e ≢ OutOfMemory → Faulty e bytes
    → ⊥
listed_no_fault bytes ns s BadMagic other_fault bad = bad (whole bytes ns s).first
listed_no_fault bytes ns s BadVersion other_fault bad = bad.not_1 (whole bytes ns s).form
listed_no_fault bytes ns s Truncated other_fault bad = no_end bytes ns (whole bytes ns s) s bad
listed_no_fault bytes ns s BadNode other_fault bad = no_bad_part bytes ns (whole bytes ns s) s bad
listed_no_fault bytes ns s BadCount other_fault bad = no_bad_count bytes ns (whole bytes ns s) s bad
listed_no_fault bytes ns s Trailing other_fault bad =
    let w = whole bytes ns s in omega (arith, bad, ap (λ k. place_of bytes k) w.nodes, last_end bytes ns w s)
listed_no_fault bytes ns s OutOfMemory other_fault bad = other_fault refl

pub listed_nodes : (bytes : List ℕ) (ns : List PlainNode) → SpellsListed bytes ns → nodes_in bytes ≡ ns
listed_nodes bytes ns s =
    let w = whole bytes ns s in
    same_lists (nodes_in bytes) ns (length-nodes_in bytes ∙ w.nodes)
    (λ k d less. each w k d (omega (arith, less, length-nodes_in bytes, w.nodes))) where
      each : Whole bytes ns → (k : ℕ) (d : PlainNode) → k < length ns → get_or (nodes_in bytes) k d ≡ get_or ns k d
      each w k d less =
          let one = node_stands bytes ns w s k less in
          let here : slice_get (nodes_in bytes) k ≡ Some one.n =
          slice_get-nodes_in bytes k (omega (arith, less, w.nodes))
          ∙ ap (λ n. Some n) (in_list bytes (place_of bytes k) w.form ∙ one.again.same) in
          get_or_from_slice_get (nodes_in bytes) k one.n d here ∙ sym (get_or_from_slice_get ns k one.n d one.got)
