-- The first instructions of a file are read alike, whatever stands behind them.
use Rattle.std.proofs.Common.{◌≡◌, ℕ, ◌+◌, ◌*◌, ◌/◌, ◌%◌, ◌++◌, ◌⊎◌, inl, inr, Bool, true, false, cond, eqb, List, [], ◌∷◌, length, refl, ap, sym, ◌∙◌, subst, arith}
use Rattle.std.specs.Prelude.{map, ◌==◌}
use Rattle.std.specs.List.{flat_map}
use Rattle.std.proofs.lemmas.Bool.{cases_eq, cond-true, cond-false, eq-eqb, ne_eqb}
use Rattle.std.proofs.lemmas.Grind.{flat_map-append}
use Rattle.std.proofs.lemmas.List.{length-append, length-map, map-append}
use Rattle.machines.specs.declared.arch.Arch.{Arch}
use Rattle.machines.specs.Arch.{is_big_endian}
use Rattle.bpf_insn.specs.declared.instruction.Insn.{Insn}
use Rattle.bpf_insn.specs.Bytes as little
use Rattle.byte_order.specs.Big as big
use Rattle.byte_order.specs.Turned.{are_whole, little_filter, other_half, read_as}
use Rattle.byte_order.proofs.BytesLaws.{length-big}

insns-append : (a b : List ℕ) → length a % 8 ≡ 0 → big.insns_of (a ++ b) ≡ big.insns_of a ++ big.insns_of b
insns-append [] b e = refl
insns-append (b0 ∷ b1 ∷ b2 ∷ b3 ∷ b4 ∷ b5 ∷ b6 ∷ b7 ∷ rest) b e =
    ap (λ p. big.insn_at (b0 ∷ b1 ∷ b2 ∷ b3 ∷ b4 ∷ b5 ∷ b6 ∷ b7 ∷ []) ∷ p) (insns-append rest b (omega (arith, e)))
insns-append a b e = absurd (omega (arith, e))

length-spelling : (p : List Insn) → length (little.spelling p) ≡ 8 * length p
length-spelling [] = refl
length-spelling (i ∷ p) = omega (arith, length-spelling p)

abbrev read : List ℕ → List ℕ
read file = little.spelling (map other_half (big.insns_of file))

length-read : (file : List ℕ) → length file % 8 ≡ 0 → length (read file) ≡ length file
length-read file e =
    omega (arith, e, length-spelling (map other_half (big.insns_of file)), length-map (big.insns_of file) other_half, length-big file)

read-append : (a b : List ℕ) → length a % 8 ≡ 0 → read (a ++ b) ≡ read a ++ read b
read-append a b e =
    ap (λ p. little.spelling (map other_half p)) (insns-append a b e)
    ∙ (ap little.spelling (map-append other_half (big.insns_of a) (big.insns_of b))
    ∙ flat_map-append little.insn_bytes (map other_half (big.insns_of a)) (map other_half (big.insns_of b)))

whole_is : (file : List ℕ) → length file % 8 ≡ 0 → little_filter file ≡ read file
whole_is file e = cond-true (are_whole file) (read file) file (eq-eqb (length file % 8) 0 e)

part_is : (file : List ℕ) → (length file % 8 ≡ 0 → ⊥) → little_filter file ≡ file
part_is file e = cond-false (are_whole file) (read file) file (ne_eqb (length file % 8) 0 e)

little-length : (file : List ℕ) → length (little_filter file) ≡ length file
little-length file = elim (cases_eq (length file % 8) 0) [
  | inl e ↦ ap length (whole_is file e) ∙ length-read file e
  | inr e ↦ ap length (part_is file e)
]

-- what is read of a file begins with what is read of its front, and has as many bytes behind it as the file
little_split : (bytes rest : List ℕ) → length rest % 8 ≡ 0
    → (more : List ℕ) × (little_filter (bytes ++ rest) ≡ little_filter bytes ++ more) × (length more ≡ length rest)
little_split bytes rest e = elim (cases_eq (length bytes % 8) 0) [
  | inl f ↦
      let long : length (bytes ++ rest) % 8 ≡ 0 = omega (arith, e, f, length-append bytes rest) in (
        read rest,
        whole_is (bytes ++ rest) long ∙ (read-append bytes rest f ∙ ap (λ front. front ++ read rest) (sym (whole_is bytes f))),
        length-read rest e,
      )
  | inr f ↦
      let long : length (bytes ++ rest) % 8 ≡ 0 → ⊥ = λ g. f (omega (arith, e, g, length-append bytes rest)) in
      (rest, part_is (bytes ++ rest) long ∙ ap (λ front. front ++ rest) (sym (part_is bytes f)), refl)
]

pub split_read : (native : Arch) (bytes rest : List ℕ) → length rest % 8 ≡ 0
    → (more : List ℕ) × (read_as native (bytes ++ rest) ≡ read_as native bytes ++ more) × (length more ≡ length rest)
split_read native bytes rest e = by (is_big_endian native) where
  by : (b : Bool) → (more : List ℕ)
      × (cond b (little_filter (bytes ++ rest)) (bytes ++ rest) ≡ cond b (little_filter bytes) bytes ++ more) × (length more ≡ length rest)
  by true = little_split bytes rest e
  by false = (rest, refl, refl)

pub length_read : (native : Arch) (file : List ℕ) → length (read_as native file) ≡ length file
length_read native file = by (is_big_endian native) where
  by : (b : Bool) → length (cond b (little_filter file) file) ≡ length file
  by true = little-length file
  by false = refl
