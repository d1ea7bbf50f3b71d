-- Instructions in their bytes, in either order.
use Rattle.std.proofs.Common.{◌≡◌, ℕ, zero, suc, ◌+◌, ◌-◌, ◌*◌, ◌/◌, ◌%◌, ◌<◌, ◌≤◌, ◌^◌, List, [], ◌∷◌, ◌++◌, length, drop, take, get_or, slice_index, refl, ap, sym, ◌∙◌, arith, subst}
use Rattle.std.specs.Prelude.{Option, Some, None, map, slice_get}
use Rattle.std.specs.List.{All, AllByRecursion, flat_map}
use Rattle.std.proofs.lemmas.Grind.{flat_map-append}
use Rattle.std.proofs.lemmas.List.{append-nil, take_more}
use Rattle.std.proofs.lemmas.List.Elements.{recursion_from_All}
use Rattle.std.proofs.lemmas.Slice.{take-put_mid}
use borrow.Rule.Slice.PartMut.{put_mid}
use Rattle.bpf_insn.specs.declared.code.Operation.{Operation}
use Rattle.bpf_insn.specs.declared.code.Operation.TheVariants.{LoadWord, LoadScratch, LoadScratchX, Store, StoreX, SetA, SetX}
use Rattle.bpf_insn.specs.declared.code.Operation.TheVariants.{ReturnK, ReturnA, Jump, Branch, Compute, ShiftLeft, ShiftRight}
use Rattle.bpf_insn.specs.declared.code.Operation.TheVariants.{Negate, CopyToX, CopyToA}
use Rattle.bpf_insn.specs.declared.instruction.Insn.{Insn}
use Rattle.bpf_insn.specs.Bytes.{AreBytes, IsInsn}
use Rattle.bpf_insn.specs.Bytes as little
use Rattle.bpf_insn.specs.Code.{operation_of}
use Rattle.bpf_insn.proofs.BytesLemmas as lemmas
use Rattle.byte_order.specs.Big as big
use Rattle.byte_order.specs.Turned.{other_half, other_half_by, other_word}
use Rattle.byte_order.proofs.HalfLaws.{other_fits}

-- ---- what stands in bytes

pub length-big : (bs : List ℕ) → length (big.insns_of bs) ≡ length bs / 8
length-big (b0 ∷ b1 ∷ b2 ∷ b3 ∷ b4 ∷ b5 ∷ b6 ∷ b7 ∷ rest) = omega (arith, length-big rest)
length-big bs = refl

skipped : (b0 b1 b2 b3 b4 b5 b6 b7 : ℕ) (rest : List ℕ) (i : ℕ) → drop (8 * suc i) (b0 ∷ b1 ∷ b2 ∷ b3 ∷ b4 ∷ b5 ∷ b6 ∷ b7 ∷ rest) ≡ drop (8 * i) rest
skipped b0 b1 b2 b3 b4 b5 b6 b7 rest i =
    let e : 8 * suc i ≡ suc (suc (suc (suc (suc (suc (suc (suc (8 * i)))))))) = omega arith in
    rw e refl

-- each of the instructions is spelled by its own eight bytes
pub get-big : (bs : List ℕ) (i : ℕ) (d : Insn) → i < length (big.insns_of bs)
    → get_or (map other_half (big.insns_of bs)) i d ≡ other_half (big.insn_at (drop (8 * i) bs))
get-big (b0 ∷ b1 ∷ b2 ∷ b3 ∷ b4 ∷ b5 ∷ b6 ∷ b7 ∷ rest) zero d h = refl
get-big (b0 ∷ b1 ∷ b2 ∷ b3 ∷ b4 ∷ b5 ∷ b6 ∷ b7 ∷ rest) (suc i) d h =
    rw (skipped b0 b1 b2 b3 b4 b5 b6 b7 rest i) (get-big rest i d (omega (arith, h)))
get-big bs i d h = absurd (omega (arith, h))

pub get-little : (bs : List ℕ) (i : ℕ) (d : Insn) → i < length (little.insns_of bs)
    → get_or (map other_half (little.insns_of bs)) i d ≡ other_half (little.insn_at (drop (8 * i) bs))
get-little (b0 ∷ b1 ∷ b2 ∷ b3 ∷ b4 ∷ b5 ∷ b6 ∷ b7 ∷ rest) zero d h = refl
get-little (b0 ∷ b1 ∷ b2 ∷ b3 ∷ b4 ∷ b5 ∷ b6 ∷ b7 ∷ rest) (suc i) d h =
    rw (skipped b0 b1 b2 b3 b4 b5 b6 b7 rest i) (get-little rest i d (omega (arith, h)))
get-little bs i d h = absurd (omega (arith, h))

-- ---- one instruction more is written

module _ (bytes_of : Insn → List ℕ) (eight : (i : Insn) → length (bytes_of i) ≡ 8) where
  pub spelled_more : (p : List Insn) (d : Insn) (i : ℕ) (out new : List ℕ) → i < length p → 8 * length p ≤ length out
      → take (8 * i) out ≡ flat_map bytes_of (take i p) → new ≡ bytes_of (get_or p i d)
      → take (8 * (i + 1)) (put_mid (8 * i) (8 * i + 8 - 8 * i) out new) ≡ flat_map bytes_of (take (i + 1) p)
  spelled_more p d i out new h room e f =
      let long : length new ≡ 8 = ap length f ∙ eight (get_or p i d) in
      take-put_mid (8 * i) (8 * i + 8 - 8 * i) out new (8 * (i + 1)) (omega (arith, long, h, room)) (omega (arith, h, room))
      ∙ (ap (λ xs. xs ++ new) e ∙ (ap (λ ys. flat_map bytes_of (take i p) ++ ys) (f ∙ sym (append-nil (bytes_of (get_or p i d))))
      ∙ sym (ap (flat_map bytes_of) (take_more p i d h) ∙ flat_map-append bytes_of (take i p) (get_or p i d ∷ []))))

-- ---- what is written is read back

big_once : (i : Insn) → i.code < 2 ^ 16 → i.k < 2 ^ 32 → big.insn_at (big.insn_bytes i) ≡ i
big_once i h g =
    let e : i.code / 256 % 256 * 256 + (i.code % 256 * 1 + 0) ≡ i.code = omega (arith, h) in
    let f : i.k / 16777216 % 256 * 16777216 + (i.k / 65536 % 256 * 65536 + (i.k / 256 % 256 * 256 + (i.k % 256 * 1 + 0))) ≡ i.k = omega (arith, g) in
    rw (e, f) refl

big_back : (p : List Insn) → AllByRecursion IsInsn p → big.insns_of (big.spelling p) ≡ p
big_back [] h = refl
big_back (i ∷ p) h =
    ap (λ first. first ∷ big.insns_of (big.spelling p)) (big_once i h.0.code h.0.k) ∙ ap (λ rest. i ∷ rest) (big_back p h.1)

little_back : (p : List Insn) → AllByRecursion IsInsn p → little.insns_of (little.spelling p) ≡ p
little_back [] h = refl
little_back (i ∷ p) h =
    ap (λ first. first ∷ little.insns_of (little.spelling p)) (lemmas.at_once i h.0.code h.0.k) ∙ ap (λ rest. i ∷ rest) (little_back p h.1)

-- ---- what is read has each field within its width

half_in : (o : Option Operation) (i : Insn) → IsInsn i → IsInsn (other_half_by o i)
half_in None i h = h
half_in (Some LoadWord) i h = record { code = h.code; jt = h.jt; jf = h.jf; k = other_fits i.k h.k }
half_in (Some LoadScratch) i h = h
half_in (Some LoadScratchX) i h = h
half_in (Some Store) i h = h
half_in (Some StoreX) i h = h
half_in (Some SetA) i h = h
half_in (Some SetX) i h = h
half_in (Some ReturnK) i h = h
half_in (Some ReturnA) i h = h
half_in (Some Jump) i h = h
half_in (Some (Branch test c)) i h = h
half_in (Some (Compute f c)) i h = h
half_in (Some ShiftLeft) i h = h
half_in (Some ShiftRight) i h = h
half_in (Some Negate) i h = h
half_in (Some CopyToX) i h = h
half_in (Some CopyToA) i h = h

halves_in : (p : List Insn) → AllByRecursion IsInsn p → AllByRecursion IsInsn (map other_half p)
halves_in [] h = tt
halves_in (i ∷ p) h = (half_in (operation_of i.code) i h.0, halves_in p h.1)

big_ranged : (bs : List ℕ) → AllByRecursion (λ b. b < 2 ^ 8) bs → AllByRecursion IsInsn (big.insns_of bs)
big_ranged (b0 ∷ b1 ∷ b2 ∷ b3 ∷ b4 ∷ b5 ∷ b6 ∷ b7 ∷ rest) (h0, (h1, (h2, (h3, (h4, (h5, (h6, (h7, more)))))))) = (
  record { code = omega (arith, h0, h1); jt = h2; jf = h3; k = omega (arith, h4, h5, h6, h7) },
  big_ranged rest more,
)
big_ranged bs h = tt

little_ranged : (bs : List ℕ) → AllByRecursion (λ b. b < 2 ^ 8) bs → AllByRecursion IsInsn (little.insns_of bs)
little_ranged (b0 ∷ b1 ∷ b2 ∷ b3 ∷ b4 ∷ b5 ∷ b6 ∷ b7 ∷ rest) (h0, (h1, (h2, (h3, (h4, (h5, (h6, (h7, more)))))))) = (
  record { code = omega (arith, h0, h1); jt = h2; jf = h3; k = omega (arith, h4, h5, h6, h7) },
  little_ranged rest more,
)
little_ranged bs h = tt

pub little_read : (file : List ℕ) → AreBytes file
    → little.insns_of (little.spelling (map other_half (big.insns_of file))) ≡ map other_half (big.insns_of file)
little_read file bytes =
    little_back (map other_half (big.insns_of file)) (halves_in (big.insns_of file) (big_ranged file (recursion_from_All _ file bytes)))

pub big_written : (filter : List ℕ) → AreBytes filter
    → big.insns_of (big.spelling (map other_half (little.insns_of filter))) ≡ map other_half (little.insns_of filter)
big_written filter bytes =
    big_back (map other_half (little.insns_of filter)) (halves_in (little.insns_of filter) (little_ranged filter (recursion_from_All _ filter bytes)))
