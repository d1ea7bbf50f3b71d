-- The bytes that spell a call record.
use Rattle.std.proofs.Common.{◌≡◌, ◌<◌, ◌+◌, ◌*◌, ℕ, zero, suc, List, [], ◌∷◌, ◌++◌, length, refl, ap, ◌∙◌, arith}
use Rattle.std.specs.Prelude.{◌/◌, ◌%◌, slice_index}
use Rattle.std.specs.Int.{bytes_low_first}
use Rattle.std.specs.List.{flat_map}
use Rattle.call_record.specs.Words.{words_of}

-- four bytes are those of the word that they spell
four_bytes : (a b c d n : ℕ) → a < 256 → b < 256 → c < 256 → d < 256 → n ≡ a + 256 * (b + 256 * (c + 256 * (d + 256 * 0)))
    → (a ≡ n % 256) × (b ≡ n / 256 % 256) × (c ≡ n / 65536 % 256) × (d ≡ n / 16777216 % 256)
four_bytes a b c d n a' b' c' d' is = (omega arith, omega arith, omega arith, omega arith)

four : (a b c d : ℕ) (rest more : List ℕ) → a < 256 → b < 256 → c < 256 → d < 256 → rest ≡ more
    → a ∷ b ∷ c ∷ d ∷ rest ≡ bytes_low_first 0 4 (a + 256 * (b + 256 * (c + 256 * (d + 256 * 0)))) ++ more
four a b c d rest more a' b' c' d' same =
    let n : ℕ = a + 256 * (b + 256 * (c + 256 * (d + 256 * 0))) in
    let bytes : (a ≡ n % 256) × (b ≡ n / 256 % 256) × (c ≡ n / 65536 % 256) × (d ≡ n / 16777216 % 256) =
    four_bytes a b c d n a' b' c' d' refl in
    ap (λ x. x ∷ b ∷ c ∷ d ∷ rest) bytes.0 ∙ ap (λ x. n % 256 ∷ x ∷ c ∷ d ∷ rest) bytes.1
    ∙ ap (λ x. n % 256 ∷ n / 256 % 256 ∷ x ∷ d ∷ rest) bytes.2 ∙ ap (λ x. n % 256 ∷ n / 256 % 256 ∷ n / 65536 % 256 ∷ x ∷ rest) bytes.3
    ∙ ap (λ (t : List ℕ). n % 256 ∷ n / 256 % 256 ∷ n / 65536 % 256 ∷ n / 16777216 % 256 ∷ t) same

-- bytes that spell words are those of the words
pub spelled : (n : ℕ) (bytes : List ℕ) → length bytes ≡ 4 * n → ((i : ℕ) → slice_index bytes i < 256)
    → bytes ≡ flat_map (bytes_low_first 0 4) (words_of bytes)
spelled zero [] size small = refl
spelled (suc n) (a ∷ b ∷ c ∷ d ∷ bytes) size small =
    let rest : bytes ≡ flat_map (bytes_low_first 0 4) (words_of bytes) =
    spelled n bytes (omega arith) (λ i. small (suc (suc (suc (suc i))))) in
    four a b c d bytes (flat_map (bytes_low_first 0 4) (words_of bytes)) (small 0) (small 1) (small 2) (small 3) rest
spelled n bytes size small = absurd (omega arith)
