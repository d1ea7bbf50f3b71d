-- Bytes and the instructions that they spell.
use Rattle.std.proofs.Common.{◌≡◌, ℕ, zero, suc, ◌+◌, ◌*◌, ◌/◌, ◌%◌, ◌<◌, ◌≤◌, ◌^◌, List, [], ◌∷◌, ◌++◌, length, drop, take, get_or}
use Rattle.std.proofs.Common.{slice_index, ◌-◌, refl, ap, sym, ◌∙◌, arith}
use Rattle.std.proofs.lemmas.Grind.{flat_map-append}
use Rattle.std.proofs.lemmas.List.{take_more}
use Rattle.std.proofs.lemmas.List.Elements.{All-from_recursion}
use Rattle.std.proofs.lemmas.Slice.{take-put_mid}
use borrow.Rule.Slice.PartMut.{put_mid}
use Rattle.std.specs.Prelude.{Some, slice_get}
use Rattle.std.specs.List.{AllByRecursion}
use Rattle.bpf_insn.specs.declared.instruction.Insn.{Insn}
use Rattle.bpf_insn.specs.Bytes.{AreInsns, IsInsn, insn_at, insn_bytes, insns_of, spelling}

-- eight bytes are one instruction
pub length-insns_of : (bs : List ℕ) → length (insns_of bs) ≡ length bs / 8
length-insns_of (b0 ∷ b1 ∷ b2 ∷ b3 ∷ b4 ∷ b5 ∷ b6 ∷ b7 ∷ rest) = omega (arith, length-insns_of rest)
length-insns_of bs = refl

-- the bytes of each of the instructions are there
pub within : (bs : List ℕ) (i : ℕ) → i < length (insns_of bs) → 8 * i + 8 ≤ length bs
within bs i h = omega (arith, length-insns_of bs)

-- past one instruction more
skipped : (b0 b1 b2 b3 b4 b5 b6 b7 : ℕ) (rest : List ℕ) (i : ℕ) → drop (8 * suc i) (b0 ∷ b1 ∷ b2 ∷ b3 ∷ b4 ∷ b5 ∷ b6 ∷ b7 ∷ rest) ≡ drop (8 * i) rest
skipped b0 b1 b2 b3 b4 b5 b6 b7 rest i =
    let e : 8 * suc i ≡ suc (suc (suc (suc (suc (suc (suc (suc (8 * i)))))))) = omega arith in
    rw e refl

-- each of the instructions is spelled by its own eight bytes
pub slice_get-insns_of : (bs : List ℕ) (i : ℕ) → i < length (insns_of bs) → slice_get (insns_of bs) i ≡ Some (insn_at (drop (8 * i) bs))
slice_get-insns_of (b0 ∷ b1 ∷ b2 ∷ b3 ∷ b4 ∷ b5 ∷ b6 ∷ b7 ∷ rest) zero h = refl
slice_get-insns_of (b0 ∷ b1 ∷ b2 ∷ b3 ∷ b4 ∷ b5 ∷ b6 ∷ b7 ∷ rest) (suc i) h =
    rw (skipped b0 b1 b2 b3 b4 b5 b6 b7 rest i) (slice_get-insns_of rest i (omega arith))
slice_get-insns_of bs i h = absurd (omega arith)

-- the bytes of an instruction that was read are those that it was read from
spelled_once : (b0 b1 b2 b3 b4 b5 b6 b7 : ℕ) (rest : List ℕ)
    → b0 < 256 → b1 < 256 → b2 < 256 → b3 < 256 → b4 < 256 → b5 < 256 → b6 < 256 → b7 < 256
    → insn_bytes (insn_at (b0 ∷ b1 ∷ b2 ∷ b3 ∷ b4 ∷ b5 ∷ b6 ∷ b7 ∷ rest)) ≡ b0 ∷ b1 ∷ b2 ∷ b3 ∷ b4 ∷ b5 ∷ b6 ∷ b7 ∷ []
spelled_once b0 b1 b2 b3 b4 b5 b6 b7 rest h0 h1 h2 h3 h4 h5 h6 h7 =
    let e0 : (b0 + 256 * (b1 + 0)) % 256 ≡ b0 = omega arith in
    let e1 : (b0 + 256 * (b1 + 0)) / 256 % 256 ≡ b1 = omega arith in
    let e4 : (b4 + 256 * (b5 + 256 * (b6 + 256 * (b7 + 0)))) % 256 ≡ b4 = omega arith in
    let e5 : (b4 + 256 * (b5 + 256 * (b6 + 256 * (b7 + 0)))) / 256 % 256 ≡ b5 = omega arith in
    let e6 : (b4 + 256 * (b5 + 256 * (b6 + 256 * (b7 + 0)))) / 65536 % 256 ≡ b6 = omega arith in
    let e7 : (b4 + 256 * (b5 + 256 * (b6 + 256 * (b7 + 0)))) / 16777216 % 256 ≡ b7 = omega arith in
    rw (e0, e1, e4, e5, e6, e7) refl

-- whole instructions are spelled by their own bytes alone
pub spelling-insns_of : (bs : List ℕ) → ((i : ℕ) → slice_index bs i < 256) → length bs % 8 ≡ 0 → spelling (insns_of bs) ≡ bs
spelling-insns_of [] h e = refl
spelling-insns_of (b0 ∷ b1 ∷ b2 ∷ b3 ∷ b4 ∷ b5 ∷ b6 ∷ b7 ∷ rest) h e =
    ap (λ front. front ++ spelling (insns_of rest)) (spelled_once b0 b1 b2 b3 b4 b5 b6 b7 rest (h 0) (h 1) (h 2) (h 3) (h 4) (h 5) (h 6) (h 7))
    ∙ ap (λ t. b0 ∷ b1 ∷ b2 ∷ b3 ∷ b4 ∷ b5 ∷ b6 ∷ b7 ∷ t) (spelling-insns_of rest (λ i. h (suc (suc (suc (suc (suc (suc (suc (suc i))))))))) (omega arith))
spelling-insns_of bs h e = absurd (omega arith)

-- an instruction is read from its own bytes
pub at_once : (i : Insn) → i.code < 2 ^ 16 → i.k < 2 ^ 32 → insn_at (insn_bytes i) ≡ i
at_once i h g =
    let e : i.code % 256 + 256 * (i.code / 256 % 256 + 0) ≡ i.code = omega arith in
    let f : i.k % 256 + 256 * (i.k / 256 % 256 + 256 * (i.k / 65536 % 256 + 256 * (i.k / 16777216 % 256 + 0))) ≡ i.k = omega arith in
    rw (e, f) refl

-- one instruction more is written
pub spelled_more : (p : List Insn) (d : Insn) (i : ℕ) (out new : List ℕ) → i < length p → 8 * length p ≤ length out
    → take (8 * i) out ≡ spelling (take i p) → new ≡ insn_bytes (get_or p i d)
    → take (8 * (i + 1)) (put_mid (8 * i) (8 * i + 8 - 8 * i) out new) ≡ spelling (take (i + 1) p)
spelled_more p d i out new h room e f =
    take-put_mid (8 * i) (8 * i + 8 - 8 * i) out new (8 * (i + 1)) (rw f (omega arith)) (omega arith)
    ∙ (ap (λ xs. xs ++ new) e ∙ (ap (λ ys. spelling (take i p) ++ ys) f
    ∙ sym (ap spelling (take_more p i d h) ∙ flat_map-append insn_bytes (take i p) (get_or p i d ∷ []))))

-- instructions are read from their own bytes
pub insns_of-spelling : (p : List Insn) → AllByRecursion (λ i. insn_at (insn_bytes i) ≡ i) p → insns_of (spelling p) ≡ p
insns_of-spelling [] h = refl
insns_of-spelling (i ∷ p) h = ap (λ first. first ∷ insns_of (spelling p)) h.0 ∙ ap (λ rest. i ∷ rest) (insns_of-spelling p h.1)

-- what bytes spell has each field within its width
ranged : (bs : List ℕ) → ((i : ℕ) → slice_index bs i < 256) → AllByRecursion IsInsn (insns_of bs)
ranged (b0 ∷ b1 ∷ b2 ∷ b3 ∷ b4 ∷ b5 ∷ b6 ∷ b7 ∷ rest) h = (
  in_widths b0 b1 b2 b3 b4 b5 b6 b7 rest (h 0) (h 1) (h 2) (h 3) (h 4) (h 5) (h 6) (h 7),
  ranged rest (λ i. h (suc (suc (suc (suc (suc (suc (suc (suc i))))))))),
) where
  in_widths : (b0 b1 b2 b3 b4 b5 b6 b7 : ℕ) (rest : List ℕ)
      → b0 < 256 → b1 < 256 → b2 < 256 → b3 < 256 → b4 < 256 → b5 < 256 → b6 < 256 → b7 < 256
      → IsInsn (insn_at (b0 ∷ b1 ∷ b2 ∷ b3 ∷ b4 ∷ b5 ∷ b6 ∷ b7 ∷ rest))
  in_widths b0 b1 b2 b3 b4 b5 b6 b7 rest h0 h1 h2 h3 h4 h5 h6 h7 =
      record { code = omega arith; jt = h2; jf = h3; k = omega arith }
ranged bs h = tt

pub are_insns-insns_of : (bs : List ℕ) → ((i : ℕ) → slice_index bs i < 256) → AreInsns (insns_of bs)
are_insns-insns_of bs h = All-from_recursion IsInsn (insns_of bs) (ranged bs h)
