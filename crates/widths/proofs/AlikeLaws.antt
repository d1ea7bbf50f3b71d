-- Records that are alike to the kernel have one cleared record, so they go equally far where none gets past and none is stopped.
use Rattle.std.proofs.Common.{◌≡◌, ℕ, zero, suc, ◌*◌, ◌+◌, ◌^◌, ◌<◌, ◌≤◌, true, false, List, [], ◌∷◌, get_or, refl, sym, ◌∙◌, arith}
use Rattle.std.specs.Prelude.{nat_lt}
use Rattle.std.proofs.Math.Nat.{mod-le}
use Rattle.std.proofs.lemmas.Bool.{both_ways}
use Rattle.call_record.specs.Fate.{fate_of, steps}
use Rattle.call_record.specs.Words.{IsRecord, argument, word, words_from}
use Rattle.call_record.specs.declared.fate.Fate.{Fate}
use Rattle.call_record.specs.declared.fate.Fate.TheVariants.{Refused, Left, LetThrough}
use Rattle.call_record.proofs.RecordLemmas.{argument-words_from, words_from-is_record}
use Rattle.profile.specs.Policy.{Policy, IsClear, Says}
use Rattle.profile.specs.Said.{said}
use Rattle.profile.proofs.SaidLaws.{each_record_is_said_one_verdict}
use Rattle.widths.specs.Alike.{Alike, IsCleared, read_of}
use Rattle.widths.specs.Reads.{read_bits}
use Rattle.widths.specs.Past.{GoByWhatIsRead, NothingGetsPast, NothingIsStopped}
use Rattle.widths.proofs.UnlikeLaws.{six}

-- ---- as far as another, and no farther

same_fate : (f g : Fate) → nat_lt (steps f) (steps g) ≡ false → nat_lt (steps g) (steps f) ≡ false → f ≡ g
same_fate Refused Refused a b = refl
same_fate Refused Left a b = absurd (both_ways true a refl)
same_fate Refused LetThrough a b = absurd (both_ways true a refl)
same_fate Left Refused a b = absurd (both_ways true b refl)
same_fate Left Left a b = refl
same_fate Left LetThrough a b = absurd (both_ways true a refl)
same_fate LetThrough Refused a b = absurd (both_ways true b refl)
same_fate LetThrough Left a b = absurd (both_ways true b refl)
same_fate LetThrough LetThrough a b = refl

-- ---- the record with the bits at 0 that are not read

abbrev pub all_read : List ℕ → List ℕ
all_read r = read_of r 0 ∷ read_of r 1 ∷ read_of r 2 ∷ read_of r 3 ∷ read_of r 4 ∷ read_of r 5 ∷ []

abbrev pub cleared : List ℕ → List ℕ
cleared r = words_from (word r 0) (word r 1) 0 (all_read r)

is_cleared : (r : List ℕ) → IsCleared r (cleared r)
is_cleared r = record {
  machine = refl;
  number = refl;
  arguments = λ j lt. argument-words_from (word r 0) (word r 1) 0 (all_read r) j ∙ six (read_of r) j lt;
}

-- it is the cleared one of all that are alike
cleared_alike : (r s c : List ℕ) → Alike r s → IsCleared r c → IsCleared s c
cleared_alike r s c alike is = record {
  machine = is.machine ∙ alike.machine;
  number = is.number ∙ alike.number;
  arguments = λ j lt. is.arguments j lt ∙ alike.arguments j lt;
}

read_small : (r : List ℕ) (j : ℕ) → IsRecord r → read_of r j < 2 ^ 64
read_small r j rec =
    let low : word r (4 + 2 * j) < 2 ^ 32 = rec.words (4 + 2 * j) in
    let high : word r (5 + 2 * j) < 2 ^ 32 = rec.words (5 + 2 * j) in
    let whole : argument r j < 2 ^ 64 = omega arith in
    let less : read_of r j ≤ argument r j = mod-le (argument r j) (2 ^ read_bits (word r 1) (word r 0) j) in
    omega (arith, whole, less)

small : (r : List ℕ) → IsRecord r → (i : ℕ) → get_or (all_read r) i 0 < 2 ^ 64
small r rec zero = read_small r 0 rec
small r rec (suc zero) = read_small r 1 rec
small r rec (suc (suc zero)) = read_small r 2 rec
small r rec (suc (suc (suc zero))) = read_small r 3 rec
small r rec (suc (suc (suc (suc zero)))) = read_small r 4 rec
small r rec (suc (suc (suc (suc (suc zero))))) = read_small r 5 rec
small r rec (suc (suc (suc (suc (suc (suc i)))))) = omega arith

is_record : (r : List ℕ) → IsRecord r → IsRecord (cleared r)
is_record r rec = words_from-is_record (word r 0) (word r 1) 0 (all_read r) (rec.words 0) (rec.words 1) (omega arith) refl (small r rec)

-- ---- the law

as_cleared : (p : Policy) → IsClear p.rules → NothingGetsPast p → NothingIsStopped p → (r c : List ℕ) → IsRecord r → IsRecord c → IsCleared r c
    → (v : ℕ) → Says p r v → fate_of v ≡ fate_of (said p c)
as_cleared p clear past stopped r c rec rec_c is v says =
    let says_c : Says p c (said p c) = (each_record_is_said_one_verdict p c (said p c) clear rec_c).1 refl in
    same_fate (fate_of v) (fate_of (said p c)) (stopped r rec c rec_c is v (said p c) says says_c) (past r rec c rec_c is v (said p c) says says_c)

pub go_equally_far : (p : Policy) → IsClear p.rules → NothingGetsPast p → NothingIsStopped p → GoByWhatIsRead p
go_equally_far p clear past stopped = λ r s rec_r rec_s alike v w says_v says_w.
    let c : List ℕ = cleared r in
    let rec_c : IsRecord c = is_record r rec_r in
    as_cleared p clear past stopped r c rec_r rec_c (is_cleared r) v says_v
    ∙ sym (as_cleared p clear past stopped s c rec_s rec_c (cleared_alike r s c alike (is_cleared r)) w says_w)
