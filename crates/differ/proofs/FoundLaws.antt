-- What two sides say of arguments is what two profiles say of records.
use Rattle.std.proofs.Common.{◌≡◌, ℕ, ◌+◌, ◌^◌, ◌<◌, Bool, true, false, inl, inr, List, get_or, refl, sym, ◌∙◌, ap, arith, subst}
use Rattle.std.proofs.lemmas.Bool.{both_ways, cases_eq, cases_lt}
use Rattle.std.proofs.lemmas.Nat.{pow_pos}
use Rattle.call_record.specs.Words.{IsRecord}
use Rattle.call_record.specs.Record.{words}
use Rattle.call_record.specs.declared.layout.Record.{Record}
use Rattle.profile.specs.Policy.{Policy, IsClear}
use Rattle.profile.specs.Rule.{argument_of}
use Rattle.profile.specs.Said.{said}
use Rattle.profile.proofs.SaidLaws.{each_record_is_said_one_verdict}
use Rattle.differ.specs.Direction.{tells}
use Rattle.differ.specs.declared.direction.Direction.{Direction}
use Rattle.differ.specs.declared.left.Side.{Side}
use Rattle.differ.specs.declared.listed.Unlisted.{Unlisted}
use Rattle.differ.specs.declared.listed.Unlisted.TheVariants.{TooMany, OutOfMemory}
use Rattle.differ.specs.Left.{AreNeverUnlike, AreUnlikeAt, AreWithin, side_says}
use Rattle.differ.specs.OnCall.{AreCrowded, AreLikeOn, AreLikeOnCall, IsOfCall, IsUnsettled, bits_of}
use Rattle.differ.specs.inner.Walk.{IsStopped}
use Rattle.differ.proofs.LeftLaws.{verdict_agree}
use Rattle.differ.proofs.SideLaws.{record_within}
use Rattle.differ.proofs.StepLaws.{tells_moved}
use Rattle.differ.proofs.WalkLaws.{has_itself}

pub unsettled_from : (p q : Policy) (token nr : ℕ) (limited : Bool) (e : Unlisted) → (limited ≡ true → AreCrowded p q token nr) → IsStopped limited e
    → IsUnsettled p q token nr e
unsettled_from p q token nr limited TooMany crowded stop = crowded stop
unsettled_from p q token nr limited OutOfMemory crowded stop = tt

-- a side says what a profile does of the records of a call
abbrev pub IsSideOf : Policy → ℕ → ℕ → Side → Type 0
IsSideOf p token nr side = (r : List ℕ) → IsOfCall token nr r → side_says side (argument_of r) ≡ said p r

pub never_like : (p q : Policy) (token nr : ℕ) (direction : Direction) (one other : Side) (bits : ℕ) → IsClear p.rules → IsClear q.rules
    → bits ≡ bits_of token → IsSideOf p token nr one → IsSideOf q token nr other → AreNeverUnlike direction bits 0 bits one other
    → AreLikeOnCall p q token nr direction
never_like p q token nr direction one other bits clear_p clear_q width first second never = λ r of v w says_first says_second.
    let within : AreWithin bits 0 bits (argument_of r) = subst (λ k. AreWithin k 0 k (argument_of r)) (sym width) (record_within token nr r of) in
    let v_is : v ≡ said p r = (each_record_is_said_one_verdict p r v clear_p of.is_record).0 says_first in
    let w_is : w ≡ said q r = (each_record_is_said_one_verdict q r w clear_q of.is_record).0 says_second in
    tells_moved direction v w (side_says one (argument_of r)) (side_says other (argument_of r)) false
    (v_is ∙ sym (first r of)) (w_is ∙ sym (second r of)) (never (argument_of r) within)

all_small : (bits : ℕ) (a : ℕ → ℕ) → AreWithin bits 0 bits a → (i : ℕ) → a i < 2 ^ bits
all_small bits a w i = elim (cases_lt i 6) [
  | inl inside ↦ elim (cases_eq i 0) [
    | inl first ↦ subst (λ j. a j < 2 ^ bits) (sym first) w.here
    | inr later ↦ w.later i (omega arith) inside
  ]
  | inr outside ↦ subst (λ u. u < 2 ^ bits) (sym (w.beyond i outside)) (pow_pos bits)
]

-- the arguments of a record that is found are those
pub argument_found : (token bits : ℕ) (call : Record) (args : List ℕ) → bits ≡ bits_of token → call.arch ≡ token → call.args ≡ args
    → AreWithin bits 0 bits (λ i. get_or args i 0) → (i : ℕ) → argument_of (words call) i ≡ get_or args i 0
argument_found token bits call args width arch same within i =
    let small : (j : ℕ) → get_or call.args j 0 < 2 ^ bits_of call.arch = λ j.
    subst (λ t. get_or call.args j 0 < 2 ^ bits_of t) (sym arch)
    (subst (λ k. get_or call.args j 0 < 2 ^ k) width
    (subst (λ (xs : List ℕ). get_or xs j 0 < 2 ^ bits) (sym same) (all_small bits (λ k. get_or args k 0) within j))) in
    has_itself call.nr call.arch call.ip call.args (i + 1) (λ j before. small j) i (omega arith) ∙ ap (λ (xs : List ℕ). get_or xs i 0) same

pub unlike_not_like : (p q : Policy) (token nr : ℕ) (direction : Direction) (one other : Side) (bits : ℕ) (call : Record) (args : List ℕ)
    → IsClear p.rules → IsClear q.rules → bits ≡ bits_of token → IsSideOf p token nr one → IsSideOf q token nr other
    → call.arch ≡ token → call.nr ≡ nr → call.args ≡ args → IsRecord (words call)
    → AreUnlikeAt direction bits 0 bits one other (λ i. get_or args i 0) → AreLikeOn p q direction (words call) → ⊥
unlike_not_like p q token nr direction one other bits call args clear_p clear_q width first second arch number same is_record found like =
    let r : List ℕ = words call in
    let of : IsOfCall token nr r = record { is_record = is_record; machine = arch; number = number } in
    let at : (i : ℕ) → argument_of r i ≡ get_or args i 0 = argument_found token bits call args width arch same found.within in
    let says_first : said p r ≡ side_says one (λ i. get_or args i 0) =
    sym (first r of) ∙ verdict_agree one.last one.rules.items (argument_of r) (λ i. get_or args i 0) at in
    let says_second : said q r ≡ side_says other (λ i. get_or args i 0) =
    sym (second r of) ∙ verdict_agree other.last other.rules.items (argument_of r) (λ i. get_or args i 0) at in
    let yes : tells direction (said p r) (said q r) ≡ true =
    tells_moved direction (said p r) (said q r) (side_says one (λ i. get_or args i 0)) (side_says other (λ i. get_or args i 0)) true
    says_first says_second found.unlike in
    let no_ : tells direction (said p r) (said q r) ≡ false =
    like (said p r) (said q r)
    ((each_record_is_said_one_verdict p r (said p r) clear_p is_record).1 refl)
    ((each_record_is_said_one_verdict q r (said q r) clear_q is_record).1 refl) in
    both_ways (tells direction (said p r) (said q r)) no_ yes
