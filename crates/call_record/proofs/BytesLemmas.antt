-- The words that bytes spell.
use Rattle.std.proofs.Common.{◌≡◌, ℕ, zero, suc, ◌+◌, ◌*◌, ◌-◌, ◌/◌, ◌%◌, ◌^◌, ◌<◌, ◌≤◌, List, [], ◌∷◌, ◌++◌, length}
use Rattle.std.proofs.Common.{get_or, take, drop, length-drop, refl, ap, sym, ◌∙◌, arith}
use Rattle.std.proofs.lemmas.List.{drop-drop, drop_all, take_more, length-take}
use Rattle.std.proofs.lemmas.Slice.{take-put_mid}
use Rattle.std.proofs.lemmas.Option.{get_or_from_slice_get, slice_get_within}
use Rattle.std.specs.Prelude.{Some, slice_get}
use borrow.Rule.Slice.PartMut.{put_mid}
use Rattle.byteorder.specs.Endian.{little_bytes, little_number}
use Rattle.call_record.specs.Words.{words_of}

-- the words from an offset on
pub words_at : ℕ → ℕ → List ℕ → List ℕ
words_at zero at bs = []
words_at (suc n) at bs = little_number 4 (drop at bs) ∷ words_at n (at + 4) bs

first_word : (bs : List ℕ) → 4 ≤ length bs → words_of bs ≡ little_number 4 bs ∷ words_of (drop 4 bs)
first_word (a ∷ b ∷ c ∷ d ∷ bs) h = refl
first_word bs h = absurd (omega arith)

words_of-drop : (n at : ℕ) (bs : List ℕ) → length bs ≡ at + 4 * n → words_of (drop at bs) ≡ words_at n at bs
unfolding words_at
words_of-drop zero at bs h = ap words_of (drop_all at bs (omega arith))
words_of-drop (suc n) at bs h =
    first_word (drop at bs) (omega (arith, length-drop at bs))
    ∙ ap (λ ws. little_number 4 (drop at bs) ∷ ws) (ap words_of (drop-drop 4 at bs) ∙ words_of-drop n (at + 4) bs (omega arith))

-- 64 bytes spell sixteen words
pub sixteen : (bs : List ℕ) → length bs ≡ 64
    → words_of bs ≡ little_number 4 (drop 0 bs) ∷ little_number 4 (drop 4 bs) ∷ little_number 4 (drop 8 bs) ∷ little_number 4 (drop 12 bs)
    ∷ little_number 4 (drop 16 bs) ∷ little_number 4 (drop 20 bs) ∷ little_number 4 (drop 24 bs) ∷ little_number 4 (drop 28 bs)
    ∷ little_number 4 (drop 32 bs) ∷ little_number 4 (drop 36 bs) ∷ little_number 4 (drop 40 bs) ∷ little_number 4 (drop 44 bs)
    ∷ little_number 4 (drop 48 bs) ∷ little_number 4 (drop 52 bs) ∷ little_number 4 (drop 56 bs) ∷ little_number 4 (drop 60 bs) ∷ []
unfolding words_at
sixteen bs h = words_of-drop 16 0 bs h

words_of-append : (n : ℕ) (xs ys : List ℕ) → length xs ≡ 4 * n → words_of (xs ++ ys) ≡ words_of xs ++ words_of ys
words_of-append zero [] ys h = refl
words_of-append (suc n) (a ∷ b ∷ c ∷ d ∷ xs) ys h =
    ap (λ ws. little_number 4 (a ∷ b ∷ c ∷ d ∷ []) ∷ ws) (words_of-append n xs ys (omega arith))
words_of-append n xs ys h = absurd (omega arith)

words_of-little_bytes : (w : ℕ) → w < 2 ^ 32 → words_of (little_bytes 4 w) ≡ w ∷ []
words_of-little_bytes w h =
    let e : w % 256 + 256 * (w / 256 % 256 + 256 * (w / 65536 % 256 + 256 * (w / 16777216 % 256 + 0))) ≡ w = omega arith in
    ap (λ v. v ∷ []) e

-- one more word is written
pub written_more : (ws bs new : List ℕ) (i w : ℕ) → length bs ≡ 64 → i < 16 → w < 2 ^ 32
    → words_of (take (4 * i) bs) ≡ take i ws → slice_get ws i ≡ Some w → new ≡ little_bytes 4 w
    → words_of (take (4 * (i + 1)) (put_mid (4 * i) (4 * i + 4 - 4 * i) bs new)) ≡ take (i + 1) ws
written_more ws bs new i w long h fits e found f =
    ap words_of (take-put_mid (4 * i) (4 * i + 4 - 4 * i) bs new (4 * (i + 1)) (rw f (omega arith)) (omega arith))
    ∙ (words_of-append i (take (4 * i) bs) new (omega (arith, length-take {A = ℕ} (4 * i) bs))
    ∙ (ap (λ xs. words_of (take (4 * i) bs) ++ words_of xs) f
    ∙ (ap (λ xs. words_of (take (4 * i) bs) ++ xs) (words_of-little_bytes w fits)
    ∙ (ap (λ xs. xs ++ w ∷ []) e
    ∙ sym (take_more ws i 0 (slice_get_within ws i w found) ∙ ap (λ v. take i ws ++ v ∷ []) (get_or_from_slice_get ws i w 0 found))))))

four_bytes : (a b c d e f g h : ℕ) → a < 256 → b < 256 → c < 256 → d < 256 → e < 256 → f < 256 → g < 256 → h < 256
    → a + 256 * (b + 256 * (c + 256 * (d + 256 * 0))) ≡ e + 256 * (f + 256 * (g + 256 * (h + 256 * 0)))
    → (a ≡ e) × (b ≡ f) × (c ≡ g) × (d ≡ h)
four_bytes a b c d e f g h a' b' c' d' e' f' g' h' same = (omega arith, omega arith, omega arith, omega arith)

-- bytes that spell the same words are the same bytes
pub same_from_words_of : (n : ℕ) (xs ys : List ℕ) → length xs ≡ 4 * n → length ys ≡ 4 * n
    → ((i : ℕ) → get_or xs i 0 < 256) → ((i : ℕ) → get_or ys i 0 < 256) → words_of xs ≡ words_of ys → xs ≡ ys
same_from_words_of zero [] [] p q f g same = refl
same_from_words_of (suc n) (a ∷ b ∷ c ∷ d ∷ xs) (e ∷ f ∷ g ∷ h ∷ ys) p q fits fits' same =
    let head : little_number 4 (a ∷ b ∷ c ∷ d ∷ []) ≡ little_number 4 (e ∷ f ∷ g ∷ h ∷ []) = cc in
    let rest : words_of xs ≡ words_of ys = cc in
    let bytes : (a ≡ e) × (b ≡ f) × (c ≡ g) × (d ≡ h) =
    four_bytes a b c d e f g h (fits 0) (fits 1) (fits 2) (fits 3) (fits' 0) (fits' 1) (fits' 2) (fits' 3) head in
    let tail : xs ≡ ys = same_from_words_of n xs ys (omega arith) (omega arith) (λ i. fits (suc (suc (suc (suc i)))))
    (λ i. fits' (suc (suc (suc (suc i))))) rest in
    cc
same_from_words_of n xs ys p q f g same = absurd (omega arith)
