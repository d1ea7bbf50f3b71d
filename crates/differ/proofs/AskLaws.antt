-- What is left of what is asked where a bit is known.
use Rattle.std.proofs.Common.{◌≡◌, ◌≢◌, ℕ, ◌+◌, ◌-◌, ◌*◌, ◌/◌, ◌%◌, ◌^◌, ◌<◌, ◌≤◌, ◌&&◌, ◌==◌, Bool, true, false, not, inl, inr, bit_and, refl, sym, ◌∙◌, ap, arith, subst}
use Rattle.std.specs.Prelude.{nat_lt, nat_le}
use Rattle.std.proofs.Math.Nat.{mod-eq_of_lt}
use Rattle.std.proofs.lemmas.Nat.{and_block, and_le_r, pow_pos, pow-add, pow_below, mod_below, mod_low, shr_split, shr_high, same_from_place}
use Rattle.std.proofs.lemmas.Bool.{cases_Bool, cases_eq, cases_lt, cases_order, eqb-true, eq-eqb, ne_eqb, lt-ltb, le-ltb, le-leb, lt-leb}
use Rattle.profile.specs.declared.conditions.Op.{Op}
use Rattle.profile.specs.declared.conditions.Op.TheVariants.{Ne, Lt, Le, Eq, Ge, Gt, MaskedEq}
use Rattle.profile.specs.Said.{compares}
use Rattle.differ.specs.declared.asked.Ask.{Ask}
use Rattle.differ.specs.declared.asked.Answer.{Answer}
use Rattle.differ.specs.declared.asked.Answer.TheVariants.{Met, Unmet, Asks}
use Rattle.differ.specs.Asked.{answers, by_order, holds, low_answers, unless}
use Rattle.differ.proofs.BitLaws.{below_from_high}

-- ---- a mask, by the high bits and by the low ones

pair_eq : (a b x y w : ℕ) → x < w → y < w → (a * w + x == b * w + y) ≡ ((a == b) && (x == y))
pair_eq a b x y w lx ly = elim (cases_eq a b) [
  | inl same ↦ elim (cases_eq x y) [
    | inl also ↦
        let whole : a * w + x ≡ b * w + y = ap (λ k. k * w + x) same ∙ ap (λ k. b * w + k) also in
        eq-eqb (a * w + x) (b * w + y) whole ∙ rw (eq-eqb a b same, eq-eqb x y also) refl
    | inr other ↦
        ne_eqb (a * w + x) (b * w + y) (λ e. other (same_from_place a x b y w lx ly e).1) ∙ rw (eq-eqb a b same, ne_eqb x y other) refl
  ]
  | inr other ↦
      ne_eqb (a * w + x) (b * w + y) (λ e. other (same_from_place a x b y w lx ly e).0) ∙ rw (ne_eqb a b other) refl
]

masked_split : (m d low h l : ℕ) → l < 2 ^ low
    → compares MaskedEq m d (h * 2 ^ low + l) ≡ (compares MaskedEq (m / 2 ^ low) (d / 2 ^ low) h && compares MaskedEq (m % 2 ^ low) (d % 2 ^ low) l)
masked_split m d low h l lt =
    let whole_m : m / 2 ^ low * 2 ^ low + m % 2 ^ low ≡ m = shr_split m low in
    let whole_d : d / 2 ^ low * 2 ^ low + d % 2 ^ low ≡ d = shr_split d low in
    let below_m : m % 2 ^ low < 2 ^ low = mod_below m (2 ^ low) (pow_pos low) in
    let below_d : d % 2 ^ low < 2 ^ low = mod_below d (2 ^ low) (pow_pos low) in
    let less : bit_and l (m % 2 ^ low) ≤ m % 2 ^ low = and_le_r l (m % 2 ^ low) in
    let small : bit_and l (m % 2 ^ low) < 2 ^ low = omega arith in
    let block : bit_and (h * 2 ^ low + l) m ≡ bit_and h (m / 2 ^ low) * 2 ^ low + bit_and l (m % 2 ^ low) =
    ap (bit_and (h * 2 ^ low + l)) (sym whole_m) ∙ and_block low h (m / 2 ^ low) l (m % 2 ^ low) lt below_m in
    ap (λ x. x == d) block
    ∙ ap (λ y. bit_and h (m / 2 ^ low) * 2 ^ low + bit_and l (m % 2 ^ low) == y) (sym whole_d)
    ∙ pair_eq (bit_and h (m / 2 ^ low)) (d / 2 ^ low) (bit_and l (m % 2 ^ low)) (d % 2 ^ low) (2 ^ low) small below_d

-- ---- both numbers moved by as much

eq_moved : (a u v : ℕ) → (a + u == a + v) ≡ (u == v)
eq_moved a u v = elim (cases_eq u v) [
  | inl same ↦ eq-eqb (a + u) (a + v) (ap (λ x. a + x) same) ∙ sym (eq-eqb u v same)
  | inr other ↦ ne_eqb (a + u) (a + v) (λ e. other (omega arith)) ∙ sym (ne_eqb u v other)
]

lt_moved : (a u v : ℕ) → nat_lt (a + u) (a + v) ≡ nat_lt u v
lt_moved a u v = elim (cases_lt u v) [
  | inl less ↦ lt-ltb (a + u) (a + v) (omega arith) ∙ sym (lt-ltb u v less)
  | inr more ↦ le-ltb (a + u) (a + v) (omega arith) ∙ sym (le-ltb u v more)
]

le_moved : (a u v : ℕ) → nat_le (a + u) (a + v) ≡ nat_le u v
le_moved a u v = elim (cases_lt v u) [
  | inl more ↦ lt-leb (a + u) (a + v) (omega arith) ∙ sym (lt-leb u v more)
  | inr less ↦ le-leb (a + u) (a + v) (omega arith) ∙ sym (le-leb u v less)
]

moved : (op : Op) (a v d e u : ℕ) → op ≢ MaskedEq → compares op (a + v) d (a + u) ≡ compares op v e u
moved Ne a v d e u ne = ap not (eq_moved a u v)
moved Lt a v d e u ne = lt_moved a u v
moved Le a v d e u ne = le_moved a u v
moved Eq a v d e u ne = eq_moved a u v
moved Ge a v d e u ne = le_moved a v u
moved Gt a v d e u ne = lt_moved a v u
moved MaskedEq a v d e u ne = absurd (ne refl)

-- ---- a number of few bits

low_same : (read bits u : ℕ) → bits ≤ read → u < 2 ^ bits → u % 2 ^ read ≡ u
low_same read bits u le lt = elim (cases_lt bits read) [
  | inl less ↦ let more : 2 ^ bits < 2 ^ read = pow_below bits read less in mod-eq_of_lt {n = u} {m = 2 ^ read} (omega arith)
  | inr same ↦
      let e : bits ≡ read = omega arith in
      mod-eq_of_lt {n = u} {m = 2 ^ read} (subst (λ k. u < 2 ^ k) e lt)
]

holds_low : (op : Op) (ask : Ask) (bits u : ℕ) → ask.op ≡ op → bits ≤ ask.read → u < 2 ^ bits → holds ask u ≡ compares op ask.value ask.datum u
holds_low op ask bits u is le lt =
    ap (compares ask.op ask.value ask.datum) (low_same ask.read bits u le lt) ∙ ap (λ o. compares o ask.value ask.datum u) is

unless_is : (known met : Bool) (ask : Ask) (u : ℕ) (b : Bool) → (known ≡ true → met ≡ b) → (holds ask u ≡ b) → answers (unless known met ask) u ≡ b
unless_is true true ask u b h k = h refl
unless_is true false ask u b h k = h refl
unless_is false met ask u b h k = k

turned : (x y : ℕ) → (x == y) ≡ (y == x)
turned x y = elim (cases_eq x y) [
  | inl same ↦ eq-eqb x y same ∙ sym (eq-eqb y x (sym same))
  | inr other ↦ ne_eqb x y other ∙ sym (ne_eqb y x (λ e. other (sym e)))
]

only_zero : (bits u : ℕ) → (bits == 0) ≡ true → u < 2 ^ bits → u ≡ 0
only_zero bits u none lt =
    let e : bits ≡ 0 = eqb-true bits 0 none in
    let small : u < 2 ^ 0 = subst (λ k. u < 2 ^ k) e lt in
    omega arith

eq_at_zero : (v u : ℕ) → u ≡ 0 → (v == 0) ≡ (u == v)
eq_at_zero v u none = turned v 0 ∙ ap (λ x. x == v) (sym none)

pub low_is : (op : Op) (ask : Ask) (bits u : ℕ) → ask.op ≡ op → bits ≤ ask.read → u < 2 ^ bits
    → answers (low_answers op ask bits) u ≡ compares op ask.value ask.datum u
low_is Ne ask bits u is le lt = unless_is (bits == 0) (not (ask.value == 0)) ask u (compares Ne ask.value ask.datum u)
    (λ none. ap not (eq_at_zero ask.value u (only_zero bits u none lt))) (holds_low Ne ask bits u is le lt)
low_is Lt ask bits u is le lt = unless_is (ask.value == 0) false ask u (compares Lt ask.value ask.datum u)
    (λ none. let e : ask.value ≡ 0 = eqb-true ask.value 0 none in sym (le-ltb u ask.value (omega arith))) (holds_low Lt ask bits u is le lt)
low_is Le ask bits u is le lt = unless_is (ask.value == 2 ^ bits - 1) true ask u (compares Le ask.value ask.datum u)
    (λ all. let e : ask.value ≡ 2 ^ bits - 1 = eqb-true ask.value (2 ^ bits - 1) all in sym (le-leb u ask.value (omega arith))) (holds_low Le ask bits u is le lt)
low_is Eq ask bits u is le lt = unless_is (bits == 0) (ask.value == 0) ask u (compares Eq ask.value ask.datum u)
    (λ none. eq_at_zero ask.value u (only_zero bits u none lt)) (holds_low Eq ask bits u is le lt)
low_is Ge ask bits u is le lt = unless_is (ask.value == 0) true ask u (compares Ge ask.value ask.datum u)
    (λ none. let e : ask.value ≡ 0 = eqb-true ask.value 0 none in sym (le-leb ask.value u (omega arith))) (holds_low Ge ask bits u is le lt)
low_is Gt ask bits u is le lt = unless_is (ask.value == 2 ^ bits - 1) false ask u (compares Gt ask.value ask.datum u)
    (λ all. let e : ask.value ≡ 2 ^ bits - 1 = eqb-true ask.value (2 ^ bits - 1) all in sym (le-ltb ask.value u (omega arith))) (holds_low Gt ask bits u is le lt)
low_is MaskedEq ask bits u is le lt = unless_is (ask.value == 0) (ask.datum == 0) ask u (compares MaskedEq ask.value ask.datum u)
    (λ none.
    let e : ask.value ≡ 0 = eqb-true ask.value 0 none in
    let few : bit_and u ask.value ≤ ask.value = and_le_r u ask.value in
    let clear : bit_and u ask.value ≡ 0 = omega arith in
    eq_at_zero ask.datum (bit_and u ask.value) clear) (holds_low MaskedEq ask bits u is le lt)

-- ---- the bit at a place, and those below it

read_whole : (read place bit u : ℕ) → place < read → bit < 2 → u < 2 ^ place → (bit * 2 ^ place + u) % 2 ^ read ≡ bit * 2 ^ place + u
read_whole read place bit u lt is_bit small =
    let next : 2 ^ (1 + place) ≡ 2 * 2 ^ place = pow-add 2 1 place in
    let below : bit * 2 ^ place + u < 2 ^ (1 + place) = elim (cases_eq bit 0) [
      | inl zero ↦ let e : bit * 2 ^ place ≡ 0 * 2 ^ place = ap (λ x. x * 2 ^ place) zero in omega arith
      | inr one ↦
          let is : bit ≡ 1 = omega arith in
          let e : bit * 2 ^ place ≡ 1 * 2 ^ place = ap (λ x. x * 2 ^ place) is in
          omega arith
    ] in
    low_same read (1 + place) (bit * 2 ^ place + u) (omega arith) below

-- a bit that is not read
read_low : (read place bit u : ℕ) → read ≤ place → (bit * 2 ^ place + u) % 2 ^ read ≡ u % 2 ^ read
read_low read place bit u le =
    let low : u % 2 ^ read < 2 ^ read = mod_below u (2 ^ read) (pow_pos read) in
    let split : u / 2 ^ read * 2 ^ read + u % 2 ^ read ≡ u = shr_split u read in
    let parts : place ≡ (place - read) + read = omega arith in
    let power : 2 ^ place ≡ 2 ^ (place - read) * 2 ^ read = ap (λ k. 2 ^ k) parts ∙ pow-add 2 (place - read) read in
    let whole : bit * 2 ^ place + u ≡ (bit * 2 ^ (place - read) + u / 2 ^ read) * 2 ^ read + u % 2 ^ read =
    ap (λ x. bit * x + u) power ∙ grind arith in
    ap (λ x. x % 2 ^ read) whole ∙ mod_low (bit * 2 ^ (place - read) + u / 2 ^ read) read (u % 2 ^ read) low

pub skipped_is : (ask : Ask) (place bit u : ℕ) → ask.read ≤ place → answers (Asks ask) u ≡ holds ask (bit * 2 ^ place + u)
skipped_is ask place bit u le = ap (compares ask.op ask.value ask.datum) (sym (read_low ask.read place bit u le))

holds_here : (ask : Ask) (place bit u : ℕ) → place < ask.read → bit < 2 → u < 2 ^ place
    → holds ask (bit * 2 ^ place + u) ≡ compares ask.op ask.value ask.datum (bit * 2 ^ place + u)
holds_here ask place bit u lt is_bit small = ap (compares ask.op ask.value ask.datum) (read_whole ask.read place bit u lt is_bit small)

-- what is asked is of the low bits
pub record IsLow (ask low : Ask) (place : ℕ) : Type 0 where
  pub op : low.op ≡ ask.op
  pub value : low.value ≡ ask.value % 2 ^ place
  pub datum : low.datum ≡ ask.datum % 2 ^ place
  pub read : low.read ≡ place

low_asks : (ask low : Ask) (place u : ℕ) → IsLow ask low place → place < ask.read → u < 2 ^ place
    → answers (low_answers low.op low place) u ≡ compares ask.op (ask.value % 2 ^ place) (ask.datum % 2 ^ place) u
low_asks ask low place u is lt small =
    let within : place ≤ low.read = subst (λ k. place ≤ k) (sym is.read) (omega arith) in
    low_is low.op low place u refl within small
    ∙ ap (λ o. compares o low.value low.datum u) is.op
    ∙ ap (λ v. compares ask.op v low.datum u) is.value
    ∙ ap (λ d. compares ask.op (ask.value % 2 ^ place) d u) is.datum

pub masked_unmet : (ask : Ask) (place bit u : ℕ) → place < ask.read → bit < 2 → u < 2 ^ place → ask.op ≡ MaskedEq
    → bit_and bit (ask.value / 2 ^ place) ≢ ask.datum / 2 ^ place → answers Unmet u ≡ holds ask (bit * 2 ^ place + u)
masked_unmet ask place bit u lt is_bit small op ne =
    let split : compares MaskedEq ask.value ask.datum (bit * 2 ^ place + u) ≡ false =
    masked_split ask.value ask.datum place bit u small
    ∙ ap (λ b. b && compares MaskedEq (ask.value % 2 ^ place) (ask.datum % 2 ^ place) u) (ne_eqb (bit_and bit (ask.value / 2 ^ place)) (ask.datum / 2 ^ place) ne) in
    sym (holds_here ask place bit u lt is_bit small ∙ ap (λ o. compares o ask.value ask.datum (bit * 2 ^ place + u)) op ∙ split)

pub masked_low : (ask low : Ask) (place bit u : ℕ) → IsLow ask low place → place < ask.read → bit < 2 → u < 2 ^ place → ask.op ≡ MaskedEq
    → bit_and bit (ask.value / 2 ^ place) ≡ ask.datum / 2 ^ place → answers (low_answers low.op low place) u ≡ holds ask (bit * 2 ^ place + u)
masked_low ask low place bit u is lt is_bit small op same =
    let split : compares MaskedEq ask.value ask.datum (bit * 2 ^ place + u) ≡ compares MaskedEq (ask.value % 2 ^ place) (ask.datum % 2 ^ place) u =
    masked_split ask.value ask.datum place bit u small
    ∙ ap (λ b. b && compares MaskedEq (ask.value % 2 ^ place) (ask.datum % 2 ^ place) u) (eq-eqb (bit_and bit (ask.value / 2 ^ place)) (ask.datum / 2 ^ place) same) in
    low_asks ask low place u is lt small
    ∙ ap (λ o. compares o (ask.value % 2 ^ place) (ask.datum % 2 ^ place) u) op
    ∙ sym (holds_here ask place bit u lt is_bit small ∙ ap (λ o. compares o ask.value ask.datum (bit * 2 ^ place + u)) op ∙ split)

pub order_low : (ask low : Ask) (place bit u : ℕ) → IsLow ask low place → place < ask.read → bit < 2 → u < 2 ^ place → ask.op ≢ MaskedEq
    → bit ≡ ask.value / 2 ^ place → answers (low_answers low.op low place) u ≡ holds ask (bit * 2 ^ place + u)
order_low ask low place bit u is lt is_bit small op at =
    let whole : compares ask.op ask.value ask.datum (bit * 2 ^ place + u) ≡ compares ask.op (ask.value % 2 ^ place) (ask.datum % 2 ^ place) u =
    ap (λ x. compares ask.op ask.value ask.datum (x * 2 ^ place + u)) at
    ∙ ap (λ y. compares ask.op y ask.datum (ask.value / 2 ^ place * 2 ^ place + u)) (sym (shr_split ask.value place))
    ∙ moved ask.op (ask.value / 2 ^ place * 2 ^ place) (ask.value % 2 ^ place) ask.datum (ask.datum % 2 ^ place) u op in
    low_asks ask low place u is lt small ∙ sym (holds_here ask place bit u lt is_bit small ∙ whole)

by_below : (op : Op) (v d w u : ℕ) → op ≢ MaskedEq → w < v → answers (by_order op true) u ≡ compares op v d w
by_below Ne v d w u ne lt = sym (ap not (ne_eqb w v (λ e. omega arith)))
by_below Lt v d w u ne lt = sym (lt-ltb w v lt)
by_below Le v d w u ne lt = sym (le-leb w v (omega arith))
by_below Eq v d w u ne lt = sym (ne_eqb w v (λ e. omega arith))
by_below Ge v d w u ne lt = sym (lt-leb v w lt)
by_below Gt v d w u ne lt = sym (le-ltb v w (omega arith))
by_below MaskedEq v d w u ne lt = absurd (ne refl)

by_above : (op : Op) (v d w u : ℕ) → op ≢ MaskedEq → v < w → answers (by_order op false) u ≡ compares op v d w
by_above Ne v d w u ne lt = sym (ap not (ne_eqb w v (λ e. omega arith)))
by_above Lt v d w u ne lt = sym (le-ltb w v (omega arith))
by_above Le v d w u ne lt = sym (lt-leb w v lt)
by_above Eq v d w u ne lt = sym (ne_eqb w v (λ e. omega arith))
by_above Ge v d w u ne lt = sym (le-leb v w (omega arith))
by_above Gt v d w u ne lt = sym (lt-ltb v w lt)
by_above MaskedEq v d w u ne lt = absurd (ne refl)

pub order_known : (ask : Ask) (place bit u : ℕ) → place < ask.read → bit < 2 → u < 2 ^ place → ask.op ≢ MaskedEq
    → bit ≢ ask.value / 2 ^ place → answers (by_order ask.op (nat_lt bit (ask.value / 2 ^ place))) u ≡ holds ask (bit * 2 ^ place + u)
order_known ask place bit u lt is_bit small op ne =
    let high : (bit * 2 ^ place + u) / 2 ^ place ≡ bit = shr_high bit place u small in
    let whole = holds_here ask place bit u lt is_bit small in
    elim (cases_lt bit (ask.value / 2 ^ place)) [
      | inl less ↦
          ap (λ b. answers (by_order ask.op b) u) (lt-ltb bit (ask.value / 2 ^ place) less)
          ∙ by_below ask.op ask.value ask.datum (bit * 2 ^ place + u) u op (below_from_high (bit * 2 ^ place + u) ask.value place (omega arith)) ∙ sym whole
      | inr more ↦
          let above : ask.value / 2 ^ place < bit = omega arith in
          ap (λ b. answers (by_order ask.op b) u) (le-ltb bit (ask.value / 2 ^ place) more)
          ∙ by_above ask.op ask.value ask.datum (bit * 2 ^ place + u) u op (below_from_high ask.value (bit * 2 ^ place + u) place (omega arith)) ∙ sym whole
    ]
