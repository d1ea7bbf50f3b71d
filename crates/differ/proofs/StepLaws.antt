-- The steps of a walk through the bits of arguments.
use Rattle.std.proofs.Common.{◌≡◌, ◌≢◌, ℕ, zero, suc, ◌+◌, ◌*◌, ◌/◌, ◌%◌, ◌^◌, ◌<◌, ◌≤◌, ◌==◌, not, Bool, true, false, inl, inr, List, length, get_or, set, refl, sym, ◌∙◌, ap, arith, subst}
use Rattle.std.specs.Prelude.{if◌then◌else◌}
use Rattle.std.proofs.lemmas.Bool.{cases_eq, cases_lt, eq-eqb, ne_eqb}
use Rattle.std.proofs.lemmas.Bool.Decides.{nat_tests}
use Rattle.std.proofs.lemmas.List.{get_or-set_same, get_or-set_other}
use Rattle.std.proofs.lemmas.Nat.{div_below, mod_below, pow_pos, pow-add, shr_split}
use Rattle.call_record.specs.Fate.{is_further}
use Rattle.differ.specs.Direction.{tells}
use Rattle.differ.specs.declared.direction.Direction.{Direction}
use Rattle.differ.specs.declared.direction.Direction.TheVariants.{Any, More, Less}
use Rattle.differ.specs.declared.left.Rest.{Rest}
use Rattle.differ.specs.declared.left.Side.{Side}
use Rattle.differ.specs.Left.{AreNeverUnlike, AreUnlikeAt, AreWithin, IsRaised, IsWithout, side_says, verdict}
use Rattle.differ.proofs.LeftLaws.{verdict_agree}

-- ---- verdicts

-- no verdict goes further than itself
pub never_further : (v : ℕ) → is_further v v ≡ false
never_further v = grind (arith, nat_tests)

tells_itself : (direction : Direction) (v : ℕ) → tells direction v v ≡ false
tells_itself Any v = ap not (eq-eqb v v refl)
tells_itself More v = never_further v
tells_itself Less v = never_further v

pub tells_same : (direction : Direction) (v w : ℕ) → v ≡ w → tells direction v w ≡ false
tells_same direction v w same = ap (λ x. tells direction x w) same ∙ tells_itself direction w

pub tells_moved : (direction : Direction) (v w x y : ℕ) (b : Bool) → v ≡ x → w ≡ y → tells direction x y ≡ b → tells direction v w ≡ b
tells_moved direction v w x y b one other is = ap (λ z. tells direction z w) one ∙ ap (λ z. tells direction x z) other ∙ is

-- ---- the next argument

-- the arguments with 0 in the place of one
cleared : ℕ → (ℕ → ℕ) → ℕ → ℕ
cleared index a i = if i == index then 0 else a i

cleared_here : (index : ℕ) (a : ℕ → ℕ) → cleared index a index ≡ 0
unfolding cleared
cleared_here index a = ap (λ t. if t then 0 else a index) (eq-eqb index index refl)

cleared_other : (index : ℕ) (a : ℕ → ℕ) (i : ℕ) → i ≢ index → cleared index a i ≡ a i
unfolding cleared
cleared_other index a i ne = ap (λ t. if t then 0 else a i) (ne_eqb i index ne)

without_cleared : (index rest : ℕ) (a : ℕ → ℕ) → a index < 2 ^ rest → IsWithout index rest a (cleared index a)
without_cleared index rest a small = record {
  small = small;
  here = cleared_here index a;
  others = cleared_other index a;
}

within_cleared : (bits index rest : ℕ) (a : ℕ → ℕ) → index < 6 → AreWithin bits index rest a → AreWithin bits (index + 1) bits (cleared index a)
within_cleared bits index rest a lt w = record {
  past = λ i before. elim (cases_eq i index) [
    | inl same ↦ subst (λ j. cleared index a j ≡ 0) (sym same) (cleared_here index a)
    | inr other ↦ cleared_other index a i other ∙ w.past i (omega arith)
  ];
  here =
      let next : cleared index a (index + 1) ≡ a (index + 1) = cleared_other index a (index + 1) (λ e. omega arith) in
      elim (cases_lt (index + 1) 6) [
        | inl inside ↦ subst (λ u. u < 2 ^ bits) (sym next) (w.later (index + 1) (omega arith) inside)
        | inr end ↦ subst (λ u. u < 2 ^ bits) (sym (next ∙ w.beyond (index + 1) end)) (pow_pos bits)
      ];
  later = λ i after inside. subst (λ u. u < 2 ^ bits) (sym (cleared_other index a i (λ e. omega arith))) (w.later i (omega arith) inside);
  beyond = λ i after. cleared_other index a i (λ e. omega arith) ∙ w.beyond i after;
}

pub never_passed : (direction : Direction) (bits index rest : ℕ) (one other : Side) → index < 6
    → ((a b : ℕ → ℕ) → IsWithout index rest a b → side_says one b ≡ side_says one a)
    → ((a b : ℕ → ℕ) → IsWithout index rest a b → side_says other b ≡ side_says other a)
    → AreNeverUnlike direction bits (index + 1) bits one other → AreNeverUnlike direction bits index rest one other
never_passed direction bits index rest one other lt first second never = λ a w.
    let without : IsWithout index rest a (cleared index a) = without_cleared index rest a w.here in
    tells_moved direction (side_says one a) (side_says other a) (side_says one (cleared index a)) (side_says other (cleared index a)) false
    (sym (first a (cleared index a) without)) (sym (second a (cleared index a) without)) (never (cleared index a) (within_cleared bits index rest a lt w))

pub unlike_passed : (direction : Direction) (bits index rest : ℕ) (one other : Side) (a : ℕ → ℕ) → AreUnlikeAt direction bits (index + 1) bits one other a
    → AreUnlikeAt direction bits index rest one other a
unlike_passed direction bits index rest one other a found = record {
  within = record {
    past = λ i before. found.within.past i (omega arith);
    here = subst (λ u. u < 2 ^ rest) (sym (found.within.past index (omega arith))) (pow_pos rest);
    later = λ i after inside. elim (cases_eq i (index + 1)) [
      | inl next ↦ subst (λ j. a j < 2 ^ bits) (sym next) found.within.here
      | inr other ↦ found.within.later i (omega arith) inside
    ];
    beyond = found.within.beyond;
  };
  unlike = found.unlike;
}

-- ---- the next bit

-- the arguments with the low bits of one
lowered : ℕ → ℕ → (ℕ → ℕ) → ℕ → ℕ
lowered index place a i = if i == index then a index % 2 ^ place else a i

lowered_here : (index place : ℕ) (a : ℕ → ℕ) → lowered index place a index ≡ a index % 2 ^ place
unfolding lowered
lowered_here index place a = ap (λ t. if t then a index % 2 ^ place else a index) (eq-eqb index index refl)

lowered_other : (index place : ℕ) (a : ℕ → ℕ) (i : ℕ) → i ≢ index → lowered index place a i ≡ a i
unfolding lowered
lowered_other index place a i ne = ap (λ t. if t then a index % 2 ^ place else a i) (ne_eqb i index ne)

below_mod : (u place : ℕ) → u % 2 ^ place < 2 ^ place
below_mod u place = mod_below u (2 ^ place) (pow_pos place)

raised_lowered : (index place bit : ℕ) (a : ℕ → ℕ) → a index / 2 ^ place ≡ bit → IsRaised index place bit (lowered index place a) a
raised_lowered index place bit a is = record {
  small = subst (λ u. u < 2 ^ place) (sym (lowered_here index place a)) (below_mod (a index) place);
  here =
      sym (shr_split (a index) place) ∙ ap (λ b. b * 2 ^ place + a index % 2 ^ place) is
      ∙ ap (λ u. bit * 2 ^ place + u) (sym (lowered_here index place a));
  others = λ i ne. sym (lowered_other index place a i ne);
}

within_lowered : (bits index rest place : ℕ) (a : ℕ → ℕ) → index < 6 → AreWithin bits index rest a → AreWithin bits index place (lowered index place a)
within_lowered bits index rest place a lt w = record {
  past = λ i before. lowered_other index place a i (λ e. omega arith) ∙ w.past i before;
  here = subst (λ u. u < 2 ^ place) (sym (lowered_here index place a)) (below_mod (a index) place);
  later = λ i after inside. subst (λ u. u < 2 ^ bits) (sym (lowered_other index place a i (λ e. omega arith))) (w.later i after inside);
  beyond = λ i after. lowered_other index place a i (λ e. omega arith) ∙ w.beyond i after;
}

-- what is left of a side where the bit is known
abbrev pub IsLeft : ℕ → ℕ → ℕ → Side → Side → Type 0
IsLeft index place bit side next = (a b : ℕ → ℕ) → IsRaised index place bit a b → side_says next a ≡ side_says side b

pub left_by : (index place bit : ℕ) (side next : Side) (rules : List Rest) → rules ≡ side.rules.items
    → ((a b : ℕ → ℕ) → IsRaised index place bit a b → side_says next a ≡ verdict side.last rules b) → IsLeft index place bit side next
left_by index place bit side next rules same h = λ a b r. h a b r ∙ ap (λ (rs : List Rest). verdict side.last rs b) same

never_bit : (direction : Direction) (bits index rest place bit : ℕ) (one other these those : Side) (a : ℕ → ℕ) → index < 6
    → IsLeft index place bit one these → IsLeft index place bit other those → AreNeverUnlike direction bits index place these those
    → a index / 2 ^ place ≡ bit → AreWithin bits index rest a → tells direction (side_says one a) (side_says other a) ≡ false
never_bit direction bits index rest place bit one other these those a lt first second never is w =
    let raised : IsRaised index place bit (lowered index place a) a = raised_lowered index place bit a is in
    tells_moved direction (side_says one a) (side_says other a) (side_says these (lowered index place a)) (side_says those (lowered index place a)) false
    (sym (first (lowered index place a) a raised)) (sym (second (lowered index place a) a raised))
    (never (lowered index place a) (within_lowered bits index rest place a lt w))

pub never_next : (direction : Direction) (bits index rest place : ℕ) (one other these those upper others : Side) → index < 6 → rest ≡ place + 1
    → IsLeft index place 0 one these → IsLeft index place 0 other those → AreNeverUnlike direction bits index place these those
    → IsLeft index place 1 one upper → IsLeft index place 1 other others → AreNeverUnlike direction bits index place upper others
    → AreNeverUnlike direction bits index rest one other
never_next direction bits index rest place one other these those upper others lt next a b low c d high = λ u w.
    let power : 2 ^ rest ≡ 2 * 2 ^ place = ap (λ k. 2 ^ k) (let e : rest ≡ 1 + place = omega arith in e) ∙ pow-add 2 1 place in
    let below : u index < 2 * 2 ^ place = subst (λ k. u index < k) power w.here in
    let bit : u index / 2 ^ place < 2 = div_below (u index) (2 ^ place) 2 (pow_pos place) below in
    elim (cases_eq (u index / 2 ^ place) 0) [
      | inl is ↦ never_bit direction bits index rest place 0 one other these those u lt a b low is w
      | inr other_bit ↦ never_bit direction bits index rest place 1 one other upper others u lt c d high (omega arith) w
    ]

within_raised : (bits index rest place bit : ℕ) (a b : ℕ → ℕ) → index < 6 → rest ≡ place + 1 → bit < 2 → IsRaised index place bit a b
    → AreWithin bits index place a → AreWithin bits index rest b
within_raised bits index rest place bit a b lt next is_bit r w = record {
  past = λ i before. r.others i (λ e. omega arith) ∙ w.past i before;
  here =
      let power : 2 ^ rest ≡ 2 * 2 ^ place = ap (λ k. 2 ^ k) (let e : rest ≡ 1 + place = omega arith in e) ∙ pow-add 2 1 place in
      let small : a index < 2 ^ place = r.small in
      let below : bit * 2 ^ place + a index < 2 * 2 ^ place = elim (cases_eq bit 0) [
        | inl none ↦ let e : bit * 2 ^ place ≡ 0 * 2 ^ place = ap (λ x. x * 2 ^ place) none in omega arith
        | inr some ↦
            let is : bit ≡ 1 = omega arith in
            let e : bit * 2 ^ place ≡ 1 * 2 ^ place = ap (λ x. x * 2 ^ place) is in
            omega arith
      ] in
      subst (λ k. b index < k) (sym power) (subst (λ u. u < 2 * 2 ^ place) (sym r.here) below);
  later = λ i after inside. subst (λ u. u < 2 ^ bits) (sym (r.others i (λ e. omega arith))) (w.later i after inside);
  beyond = λ i after. r.others i (λ e. omega arith) ∙ w.beyond i after;
}

pub unlike_next : (direction : Direction) (bits index rest place bit : ℕ) (one other these those : Side) (a b : ℕ → ℕ) → index < 6 → rest ≡ place + 1
    → bit < 2 → IsLeft index place bit one these → IsLeft index place bit other those → IsRaised index place bit a b
    → AreUnlikeAt direction bits index place these those a → AreUnlikeAt direction bits index rest one other b
unlike_next direction bits index rest place bit one other these those a b lt next is_bit first second r found = record {
  within = within_raised bits index rest place bit a b lt next is_bit r found.within;
  unlike =
      tells_moved direction (side_says one b) (side_says other b) (side_says these a) (side_says those a) true
      (sym (first a b r)) (sym (second a b r)) found.unlike;
}

pub raised_none : (index place : ℕ) (a : ℕ → ℕ) → a index < 2 ^ place → IsRaised index place 0 a a
raised_none index place a small = record { small = small; here = omega arith; others = λ i ne. refl }

pub raised_set : (args : List ℕ) (index place : ℕ) → index < length args → get_or args index 0 < 2 ^ place
    → IsRaised index place 1 (λ i. get_or args i 0) (λ i. get_or (set args index (get_or args index 0 + 2 ^ place)) i 0)
raised_set args index place lt small = record {
  small = small;
  here = get_or-set_same args index (get_or args index 0 + 2 ^ place) 0 lt ∙ omega arith;
  others = λ i ne. get_or-set_other args index i (get_or args index 0 + 2 ^ place) 0 ne;
}

-- ---- all arguments

pub all_zero : (bits rest : ℕ) (a : ℕ → ℕ) → AreWithin bits 6 rest a → (i : ℕ) → a i ≡ 0
all_zero bits rest a w i = elim (cases_lt i 6) [
  | inl inside ↦ w.past i inside
  | inr outside ↦ w.beyond i outside
]

pub never_end : (direction : Direction) (bits rest first second : ℕ) (one other : Side) → first ≡ side_says one (λ i. 0)
    → second ≡ side_says other (λ i. 0) → tells direction first second ≡ false → AreNeverUnlike direction bits 6 rest one other
never_end direction bits rest first second one other a b is = λ u w.
    tells_moved direction (side_says one u) (side_says other u) first second false
    (verdict_agree one.last one.rules.items u (λ i. 0) (all_zero bits rest u w) ∙ sym a)
    (verdict_agree other.last other.rules.items u (λ i. 0) (all_zero bits rest u w) ∙ sym b) is

pub unlike_end : (direction : Direction) (bits rest first second : ℕ) (one other : Side) (args : List ℕ) → ((i : ℕ) → get_or args i 0 ≡ 0)
    → first ≡ side_says one (λ i. 0) → second ≡ side_says other (λ i. 0) → tells direction first second ≡ true
    → AreUnlikeAt direction bits 6 rest one other (λ i. get_or args i 0)
unlike_end direction bits rest first second one other args none a b is = record {
  within = record {
    past = λ i before. none i;
    here = subst (λ u. u < 2 ^ rest) (sym (none 6)) (pow_pos rest);
    later = λ i after inside. subst (λ u. u < 2 ^ bits) (sym (none i)) (pow_pos bits);
    beyond = λ i after. none i;
  };
  unlike =
      tells_moved direction (side_says one (λ i. get_or args i 0)) (side_says other (λ i. get_or args i 0)) first second true
      (verdict_agree one.last one.rules.items (λ i. get_or args i 0) (λ i. 0) none ∙ sym a)
      (verdict_agree other.last other.rules.items (λ i. get_or args i 0) (λ i. 0) none ∙ sym b) is;
}
