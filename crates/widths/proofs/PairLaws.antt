-- A record and the same with the bits at 0 that are not read.
use Rattle.std.proofs.Common.{◌≡◌, ℕ, ◌%◌, ◌^◌, ◌<◌, false, List, sym, ◌∙◌, ap}
use Rattle.std.specs.List.{list_any}
use Rattle.call_record.specs.Words.{word}
use Rattle.profile.specs.Policy.{Policy, IsClear}
use Rattle.profile.specs.Rule.{argument_of}
use Rattle.profile.specs.Said.{said}
use Rattle.profile.proofs.SaidLaws.{each_record_is_said_one_verdict}
use Rattle.differ.specs.OnCall.{IsOfCall, is_for}
use Rattle.differ.specs.declared.direction.Direction.{Direction}
use Rattle.differ.proofs.OpenLaws.{said_named}
use Rattle.differ.proofs.StepLaws.{tells_same}
use Rattle.widths.specs.Reads.{read_bits}
use Rattle.widths.proofs.WidthLaws.{compared_cleared, compared_read}
use Rattle.widths.specs.Past.{AreLikeOnCall}
use Rattle.widths.specs.inner.Pair.{IsPair}

pub of_cleared : (token nr : ℕ) (r s : List ℕ) → IsPair token nr r s → IsOfCall token nr s
of_cleared token nr r s pair = record {
  is_record = pair.is_record;
  machine = pair.cleared.machine ∙ pair.of_call.machine;
  number = pair.cleared.number ∙ pair.of_call.number;
}

pub cleared_low : (token nr j low : ℕ) (r s : List ℕ) → j < 6 → low ≡ read_bits token nr j → IsPair token nr r s → argument_of s j ≡ argument_of r j % 2 ^ low
cleared_low token nr j low r s lt is pair =
    compared_cleared r s j lt pair.cleared
    ∙ sym (compared_read r j)
    ∙ ap (λ t. argument_of r j % 2 ^ read_bits t (word r 0) j) pair.of_call.machine
    ∙ ap (λ n. argument_of r j % 2 ^ read_bits token n j) pair.of_call.number
    ∙ ap (λ b. argument_of r j % 2 ^ b) (sym is)

-- ---- no rule

pub like_unnamed : (p : Policy) (d : Direction) (token nr : ℕ) → IsClear p.rules → list_any (is_for token nr) p.rules ≡ false
    → AreLikeOnCall p token nr d
like_unnamed p d token nr clear unnamed = λ r of s rec cleared v w says_v says_w.
    let of_s : IsOfCall token nr s = of_cleared token nr r s (record { of_call = of; is_record = rec; cleared = cleared }) in
    let one : v ≡ said p r = (each_record_is_said_one_verdict p r v clear of.is_record).0 says_v in
    let other : w ≡ said p s = (each_record_is_said_one_verdict p s w clear rec).0 says_w in
    let same : v ≡ w = one ∙ said_named p token nr r of unnamed ∙ sym (other ∙ said_named p token nr s of_s unnamed) in
    tells_same d v w same
