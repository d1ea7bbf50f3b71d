-- Calls of which unlike verdicts are said, by what two sides say of their arguments.
use Rattle.std.proofs.Common.{◌≡◌, ℕ, zero, suc, ◌%◌, ◌^◌, ◌<◌, Bool, true, false, List, [], ◌∷◌, get_or, refl, sym, ◌∙◌, ap, arith, subst}
use Rattle.std.specs.Prelude.{if◌then◌else◌, nat_lt}
use Rattle.std.proofs.Math.Nat.{mod-eq_of_lt}
use Rattle.std.proofs.lemmas.Bool.{both_ways}
use Rattle.call_record.specs.Fate.{fate_of, is_further, steps}
use Rattle.call_record.specs.Record.{words}
use Rattle.call_record.specs.Words.{IsRecord}
use Rattle.call_record.specs.declared.fate.Fate.{Fate}
use Rattle.call_record.specs.declared.fate.Fate.TheVariants.{Refused, Left, LetThrough}
use Rattle.call_record.specs.declared.layout.Record.{Record}
use Rattle.profile.specs.Policy.{Policy, IsClear, Says}
use Rattle.profile.specs.Rule.{argument_of}
use Rattle.profile.specs.Said.{said}
use Rattle.profile.proofs.SaidLaws.{each_record_is_said_one_verdict}
use Rattle.differ.specs.Direction.{tells}
use Rattle.differ.specs.OnCall.{IsOfCall, bits_of}
use Rattle.differ.specs.Left.{AreNeverUnlike, AreUnlikeAt, AreWithin, side_says}
use Rattle.differ.specs.declared.direction.Direction.{Direction}
use Rattle.differ.specs.declared.direction.Direction.TheVariants.{Any, More, Less}
use Rattle.differ.specs.declared.left.Side.{Side}
use Rattle.differ.specs.declared.listed.Unlisted.{Unlisted}
use Rattle.differ.specs.declared.listed.Unlisted.TheVariants.{TooMany, OutOfMemory}
use Rattle.differ.specs.inner.Walk.{IsStopped}
use Rattle.differ.proofs.FoundLaws.{argument_found}
use Rattle.differ.proofs.LeftLaws.{verdict_agree}
use Rattle.differ.proofs.SideLaws.{argument_small, record_within}
use Rattle.differ.proofs.StepLaws.{tells_moved}
use Rattle.widths.specs.Reads.{read_bits}
use Rattle.widths.specs.Crowded.{AreCrowded, IsUnsettled}
use Rattle.widths.specs.Past.{AreLikeOnCall}
use Rattle.widths.specs.inner.Pair.{IsLikeOne, IsPair}
use Rattle.widths.specs.inner.Read.{AreRead, seen_of, verdict_of}
use Rattle.widths.proofs.PairLaws.{cleared_low, of_cleared}

-- ---- verdicts

fate_kept : (f : Fate) → fate_of (verdict_of f) ≡ f
fate_kept Refused = refl
fate_kept Left = refl
fate_kept LetThrough = refl

further_seen : (v w : ℕ) → is_further (verdict_of (fate_of v)) (verdict_of (fate_of w)) ≡ is_further v w
further_seen v w =
    ap (λ f. nat_lt (steps f) (steps (fate_of (verdict_of (fate_of v))))) (fate_kept (fate_of w))
    ∙ ap (λ f. nat_lt (steps (fate_of w)) (steps f)) (fate_kept (fate_of v))

-- what is looked at of two verdicts tells what they do
tells_seen : (d : Direction) (v w : ℕ) → tells d (seen_of d v) (seen_of d w) ≡ tells d v w
tells_seen Any v w = refl
tells_seen More v w = further_seen w v
tells_seen Less v w = further_seen v w

pub seen_moved : (d : Direction) (b : Bool) (x y : ℕ) → (if b then seen_of d x else seen_of d y) ≡ seen_of d (if b then x else y)
seen_moved d true x y = refl
seen_moved d false x y = refl

pub unsettled_from : (p : Policy) (token nr : ℕ) (limited : Bool) (e : Unlisted) → (limited ≡ true → AreCrowded p token nr) → IsStopped limited e
    → IsUnsettled p token nr e
unsettled_from p token nr limited TooMany crowded stop = crowded stop
unsettled_from p token nr limited OutOfMemory crowded stop = tt

-- ---- what is read

pub six : (g : ℕ → ℕ) (j : ℕ) → j < 6 → get_or (g 0 ∷ g 1 ∷ g 2 ∷ g 3 ∷ g 4 ∷ g 5 ∷ []) j 0 ≡ g j
six g zero lt = refl
six g (suc zero) lt = refl
six g (suc (suc zero)) lt = refl
six g (suc (suc (suc zero))) lt = refl
six g (suc (suc (suc (suc zero)))) lt = refl
six g (suc (suc (suc (suc (suc zero))))) lt = refl
six g (suc (suc (suc (suc (suc (suc j)))))) lt = absurd (omega (arith, lt))

whole_read : (token nr : ℕ) (whole r : List ℕ) → whole ≡ 64 ∷ 64 ∷ 64 ∷ 64 ∷ 64 ∷ 64 ∷ [] → IsOfCall token nr r → AreRead whole (argument_of r) (argument_of r)
whole_read token nr whole r is of = λ j lt.
    let all : get_or whole j 0 ≡ 64 = ap (λ (xs : List ℕ). get_or xs j 0) is ∙ six (λ i. 64) j lt in
    let small : argument_of r j < 2 ^ 64 = argument_small token nr r j of in
    sym (ap (λ k. argument_of r j % 2 ^ k) all ∙ mod-eq_of_lt {n = argument_of r j} {m = 2 ^ 64} small)

abbrev pub reads_of : ℕ → ℕ → List ℕ
reads_of token nr =
    read_bits token nr 0 ∷ read_bits token nr 1 ∷ read_bits token nr 2 ∷ read_bits token nr 3 ∷ read_bits token nr 4 ∷ read_bits token nr 5 ∷ []

cleared_read : (token nr : ℕ) (read r s : List ℕ) → read ≡ reads_of token nr → IsPair token nr r s → AreRead read (argument_of r) (argument_of s)
cleared_read token nr read r s is pair = λ j lt.
    let some : get_or read j 0 ≡ read_bits token nr j = ap (λ (xs : List ℕ). get_or xs j 0) is ∙ six (read_bits token nr) j lt in
    cleared_low token nr j (get_or read j 0) r s lt some pair

-- ---- both sides

abbrev pub IsSideBy : Policy → ℕ → ℕ → Direction → List ℕ → Side → Type 0
IsSideBy p token nr d reads side = (r s : List ℕ) → IsOfCall token nr s → AreRead reads (argument_of r) (argument_of s)
    → side_says side (argument_of r) ≡ seen_of d (said p s)

pub never_unlike : (p : Policy) (token nr : ℕ) (d : Direction) (bits : ℕ) (one other : Side) (whole read : List ℕ) → IsClear p.rules
    → bits ≡ bits_of token → whole ≡ 64 ∷ 64 ∷ 64 ∷ 64 ∷ 64 ∷ 64 ∷ [] → read ≡ reads_of token nr → IsSideBy p token nr d whole one
    → IsSideBy p token nr d read other → AreNeverUnlike d bits 0 bits one other → AreLikeOnCall p token nr d
never_unlike p token nr d bits one other whole read clear width whole_is read_is first second never = λ r of s rec cleared v w says_v says_w.
    let pair : IsPair token nr r s = record { of_call = of; is_record = rec; cleared = cleared } in
    let within : AreWithin bits 0 bits (argument_of r) = subst (λ k. AreWithin k 0 k (argument_of r)) (sym width) (record_within token nr r of) in
    let one_is : side_says one (argument_of r) ≡ seen_of d (said p r) = first r r of (whole_read token nr whole r whole_is of) in
    let other_is : side_says other (argument_of r) ≡ seen_of d (said p s) =
    second r s (of_cleared token nr r s pair) (cleared_read token nr read r s read_is pair) in
    let like : tells d (seen_of d (said p r)) (seen_of d (said p s)) ≡ false =
    tells_moved d (seen_of d (said p r)) (seen_of d (said p s)) (side_says one (argument_of r)) (side_says other (argument_of r)) false
    (sym one_is) (sym other_is) (never (argument_of r) within) in
    let v_is : v ≡ said p r = (each_record_is_said_one_verdict p r v clear of.is_record).0 says_v in
    let w_is : w ≡ said p s = (each_record_is_said_one_verdict p s w clear rec).0 says_w in
    tells_moved d v w (said p r) (said p s) false v_is w_is (sym (tells_seen d (said p r) (said p s)) ∙ like)

pub unlike_not_like : (p : Policy) (token nr : ℕ) (d : Direction) (bits : ℕ) (one other : Side) (whole read : List ℕ) (call : Record) (args : List ℕ)
    → IsClear p.rules → bits ≡ bits_of token → whole ≡ 64 ∷ 64 ∷ 64 ∷ 64 ∷ 64 ∷ 64 ∷ [] → read ≡ reads_of token nr
    → IsSideBy p token nr d whole one → IsSideBy p token nr d read other → call.arch ≡ token → call.nr ≡ nr → call.args ≡ args
    → IsRecord (words call) → AreUnlikeAt d bits 0 bits one other (λ i. get_or args i 0) → IsLikeOne p d (words call) → ⊥
unlike_not_like p token nr d bits one other whole read call args clear width whole_is read_is first second arch number same rec found like =
    let r : List ℕ = words call in
    let s : List ℕ = like.other in
    let of : IsOfCall token nr r = record { is_record = rec; machine = arch; number = number } in
    let pair : IsPair token nr r s = record { of_call = of; is_record = like.is_record; cleared = like.cleared } in
    let at : (i : ℕ) → argument_of r i ≡ get_or args i 0 = argument_found token bits call args width arch same found.within in
    let one_is : side_says one (argument_of r) ≡ seen_of d (said p r) = first r r of (whole_read token nr whole r whole_is of) in
    let other_is : side_says other (argument_of r) ≡ seen_of d (said p s) =
    second r s (of_cleared token nr r s pair) (cleared_read token nr read r s read_is pair) in
    let seen : tells d (seen_of d (said p r)) (seen_of d (said p s)) ≡ true =
    tells_moved d (seen_of d (said p r)) (seen_of d (said p s)) (side_says one (λ i. get_or args i 0)) (side_says other (λ i. get_or args i 0)) true
    (sym one_is ∙ verdict_agree one.last one.rules.items (argument_of r) (λ i. get_or args i 0) at)
    (sym other_is ∙ verdict_agree other.last other.rules.items (argument_of r) (λ i. get_or args i 0) at) found.unlike in
    let unlike : tells d (said p r) (said p s) ≡ true = sym (tells_seen d (said p r) (said p s)) ∙ seen in
    let says_r : Says p r (said p r) = (each_record_is_said_one_verdict p r (said p r) clear rec).1 refl in
    let says_s : Says p s (said p s) = (each_record_is_said_one_verdict p s (said p s) clear like.is_record).1 refl in
    both_ways (tells d (said p r) (said p s)) (like.like (said p r) (said p s) says_r says_s) unlike
