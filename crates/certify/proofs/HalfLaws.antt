-- A return of one machine: its halves come apart, and what they cost.
use Rattle.std.proofs.Common.{◌≡◌, ℕ, suc, ◌+◌, ◌-◌, ◌*◌, ◌^◌, ◌<◌, ◌≤◌, Bool, true, false, eqb, List, [], ◌∷◌}
use Rattle.std.proofs.Common.{refl, ap, ◌∙◌, subst, arith, inl, inr, ◌⊎◌, ⊎_elim}
use Rattle.std.specs.Prelude.{Contains, All, Any, bit_and, nat_le, not}
use Rattle.std.proofs.lemmas.List.Elements.{All-cons, All-head, All-tail}
use Rattle.std.proofs.lemmas.Bool.{cases_eq, cases_lt, eq-eqb, ne_eqb, le-leb, leb-true}
use Rattle.std.proofs.Math.Nat.{pow-suc}
use Rattle.machines.specs.declared.arch.Arch.{Arch}
use Rattle.machines.specs.Arch.{token_of}
use Rattle.machines.specs.Numbers.{foreign_numbers}
use Rattle.profile.specs.Policy.{InOrder, Policy}
use Rattle.rule_compile.specs.Shape.{AreSmallNative}
use Rattle.cert_state.specs.declared.literal.Lit.{Lit}
use Rattle.cert_state.specs.declared.literal.Lit.TheVariants.{In, Bits, NotBits}
use Rattle.cert_state.specs.Literals.{all_bits, index_of, Meets}
use Rattle.cert_state.specs.Points.{IsPoint, IsRange}
use Rattle.certify.specs.inner.Counts.{Exclude, allows, halves_cost, inside, meets, permits}
use Rattle.certify.specs.inner.Leaf.{BeginsWithin, IsOfCalls, LieIn}
use Rattle.certify.specs.inner.Apart.{IsMiddle}
use Rattle.certify.specs.inner.Plain.{AreForeign, AreNear, IsEnough}
use Rattle.certify.proofs.CountLaws.{both_first, both_second, inside_some}
use Rattle.certify.proofs.ForeignLaws.{IsForeignNumber, IsNativeNumber, apart, cut_of_stretch, either, foreign_is_high, in_one, low_is_native, up_to_foreign}
use Rattle.certify.proofs.LeadLaws.{first_asks, rest_point}
use Rattle.certify.proofs.PointFacts.{Asks}

-- ---- a call that is possible is counted

meets_is : (l : Lit) (u : ℕ) → Meets l u → meets l u ≡ true
meets_is (In w a b) u (from, to) = let e = le-leb a u from in rw e (le-leb u b to)
meets_is (Bits w m d) u is = eq-eqb (bit_and u m) d is
meets_is (NotBits w m d) u is = let e = ne_eqb (bit_and u m) d is in rw e refl

permitted : (l : Lit) (token nr : ℕ) → IsOfCalls l → Asks 1 token l → Asks 0 nr l → permits l token nr ≡ true
permitted l token nr of at_token at_nr = ⊎_elim
    (λ (e : index_of l ≡ 0). let b = eq-eqb (index_of l) 0 e in rw b (meets_is l nr (at_nr e of.0)))
    (λ (ne : index_of l ≡ 0 → ⊥).
    let b = ne_eqb (index_of l) 0 ne in
    rw b (meets_is l token (at_token (omega (arith, of.1, ne)) of.0)))
    (cases_eq (index_of l) 0)

pub allowed : (ls : List Lit) (token nr : ℕ) → All IsOfCalls ls → IsPoint ls 1 token → IsPoint ls 0 nr → allows ls token nr ≡ true
allowed [] token nr of at_token at_nr = refl
allowed (l ∷ ls) token nr of at_token at_nr =
    let first = permitted l token nr (All-head IsOfCalls l ls of) (first_asks l ls 1 token at_token) (first_asks l ls 0 nr at_nr) in
    rw first (allowed ls token nr (All-tail IsOfCalls l ls of) (rest_point l ls 1 token at_token) (rest_point l ls 0 nr at_nr))

-- ---- literals that exclude each other

pub halves_exclude : (cut : ℕ) → Exclude (In 0 0 cut) (In 0 (cut + 1) all_bits)
halves_exclude cut token nr low high =
    let below = leb-true nr cut (both_second (nat_le 0 nr) (nat_le nr cut) low) in
    let above = leb-true (cut + 1) nr (both_first (nat_le (cut + 1) nr) (nat_le nr all_bits) high) in
    omega (arith, below, above)

pub tokens_exclude : (t : ℕ) → Exclude (Bits 1 all_bits t) (NotBits 1 all_bits t)
tokens_exclude t token nr own other = apart (eqb (bit_and token all_bits) t) own other where
  apart : (b : Bool) → b ≡ true → not b ≡ true → ⊥
  apart true own other = cc
  apart false own other = cc

-- ---- halves

-- a point of a half is one of the whole
low_point : (known : List Lit) (cut u : ℕ) → IsPoint (In 0 0 cut ∷ known) 0 u → u ≤ cut
low_point known cut u at = (first_asks (In 0 0 cut) known 0 u at refl tt).1

high_point : (known : List Lit) (cut u : ℕ) → IsPoint (In 0 (cut + 1) all_bits ∷ known) 0 u → cut + 1 ≤ u
high_point known cut u at = (first_asks (In 0 (cut + 1) all_bits) known 0 u at refl tt).0

-- some halvings are left
pub some_left : (policy : Policy) (order : InOrder policy.machines) (low_native : AreSmallNative policy.machines) (known : List Lit)
    (arch : Arch) (listed : Contains policy.machines arch) (lo hi halvings : ℕ) → IsRange known 0 lo hi → (lo ≡ hi → ⊥)
    → IsEnough policy known arch halvings → (LieIn lo hi (foreign_numbers policy.machines arch) → ⊥) → halvings ≡ 0 → ⊥
some_left policy order low_native known arch listed lo hi halvings range differ enough some_own none = ⊎_elim
    (λ (ten : halvings ≡ 10). omega (arith, ten, none))
    (λ (more : AreForeign policy known arch ⊎ ((halvings < 10) × AreNear known (2 ^ halvings))). ⊎_elim
    (λ (all : AreForeign policy known arch). some_own
    (in_one policy.machines order low_native arch listed lo hi (all lo range.least) (all hi range.greatest)))
    (λ (near : (halvings < 10) × AreNear known (2 ^ halvings)).
    let at_once : AreNear known (2 ^ 0) = subst (λ h. AreNear known (2 ^ h)) none near.1 in
    let e = (at_once lo hi range.least range.greatest).0 in
    let order = (range.between lo range.least).1 in
    differ (omega (arith, e, order)))
    more)
    enough

module _ (policy : Policy) (in_order : InOrder policy.machines) (low_native : AreSmallNative policy.machines) (known : List Lit) (arch : Arch)
    (listed : Contains policy.machines arch) (lo hi cut halvings : ℕ) (range : IsRange known 0 lo hi)
    (cuts : IsMiddle (foreign_numbers policy.machines arch) lo hi cut) (enough : IsEnough policy known arch halvings)
    (some_own : LieIn lo hi (foreign_numbers policy.machines arch) → ⊥)
    (small : (u : ℕ) → IsPoint known 0 u → IsNativeNumber policy.machines arch u → u < 512) where
  -- both halves are not empty
  order : lo < hi
  order = let a = cuts.from in let b = cuts.upto in omega (arith, a, b)

  not_foreign : AreForeign policy known arch → ⊥
  not_foreign all =
      some_own (in_one policy.machines in_order low_native arch listed lo hi (all lo range.least) (all hi range.greatest))

  -- where the greatest is foreign the least is not
  least_low : IsForeignNumber policy.machines arch hi → lo < 0x40000000
  least_low is = ⊎_elim
      (λ (l : lo < 0x40000000). l)
      (λ (g : 0x40000000 ≤ lo). absurd (some_own (in_one policy.machines in_order low_native arch listed lo hi
      (up_to_foreign policy.machines in_order low_native arch listed lo hi is g (omega (arith, order))) is)))
      (cases_lt lo 0x40000000)

  -- where the greatest is a listed machine's own none is cut off
  none_begins : IsNativeNumber policy.machines arch hi → Any (BeginsWithin lo hi) (foreign_numbers policy.machines arch) → ⊥
  none_begins own (k, numbers, inside, at, begins) =
      apart policy.machines in_order low_native arch listed hi own (k, numbers, inside, at, begins.1)

  pub ten_at_most : halvings ≤ 10
  ten_at_most = ⊎_elim
      (λ (ten : halvings ≡ 10). omega (arith, ten))
      (λ (more : AreForeign policy known arch ⊎ ((halvings < 10) × AreNear known (2 ^ halvings))). ⊎_elim
      (λ (x : AreForeign policy known arch). absurd (not_foreign x))
      (λ (near : (halvings < 10) × AreNear known (2 ^ halvings)). omega (arith, near.0)) more)
      enough

  double : (h : ℕ) → halvings ≡ suc h → 2 ^ halvings ≡ 2 ^ h * 2
  double h e = ap (λ k. 2 ^ k) e ∙ pow-suc 2 h

  -- numbers of which the greatest is one of the machine's own
  module _ (own_hi : IsNativeNumber policy.machines arch hi) where
    small_all : (u : ℕ) → IsPoint known 0 u → u < 512
    small_all u at = let h = small hi range.greatest own_hi in let b = (range.between u at).1 in omega (arith, h, b)

    spread : (h : ℕ) → halvings ≡ suc h → hi < lo + 2 ^ h * 2
    spread h e = ⊎_elim
        (λ (ten : halvings ≡ 10).
        let nine : h ≡ 9 = omega (arith, e, ten) in
        let top = small_all hi range.greatest in
        let p : 2 ^ h ≡ 512 = ap (λ k. 2 ^ k) nine in
        omega (arith, p, top))
        (λ (more : AreForeign policy known arch ⊎ ((halvings < 10) × AreNear known (2 ^ halvings))). ⊎_elim
        (λ (x : AreForeign policy known arch). absurd (not_foreign x))
        (λ (near : (halvings < 10) × AreNear known (2 ^ halvings)).
        let apart = (near.1 lo hi range.least range.greatest).0 in
        let d = double h e in
        omega (arith, apart, d))
        more)
        enough

    near_low : (h : ℕ) → halvings ≡ suc h → AreNear (In 0 0 cut ∷ known) (2 ^ h)
    near_low h e = λ u w at_u at_w.
        let rest_u = rest_point (In 0 0 cut) known 0 u at_u in
        let rest_w = rest_point (In 0 0 cut) known 0 w at_w in
        let low = (range.between u rest_u).0 in
        let high = low_point known cut w at_w in
        let middle = cuts.half (none_begins own_hi) in
        let far = spread h e in
        (omega (arith, low, high, middle, far), small_all w rest_w)

    near_high : (h : ℕ) → halvings ≡ suc h → AreNear (In 0 (cut + 1) all_bits ∷ known) (2 ^ h)
    near_high h e = λ u w at_u at_w.
        let rest_u = rest_point (In 0 (cut + 1) all_bits) known 0 u at_u in
        let rest_w = rest_point (In 0 (cut + 1) all_bits) known 0 w at_w in
        let low = high_point known cut u at_u in
        let high = (range.between w rest_w).1 in
        let middle = cuts.half (none_begins own_hi) in
        let far = spread h e in
        (omega (arith, low, high, middle, far), small_all w rest_w)

  -- foreign numbers are in the greater half
  module _ (is : IsForeignNumber policy.machines arch hi) where
    far : 0x40000000 ≤ hi
    far = foreign_is_high policy.machines in_order low_native arch listed hi is

    at_cut : cut + 1 ≡ 0x40000000
    at_cut = cut_of_stretch policy.machines in_order low_native arch listed lo hi cut (least_low is) is cuts.foreign

    first_time : halvings ≡ 10
    first_time = ⊎_elim
        (λ (ten : halvings ≡ 10). ten)
        (λ (more : AreForeign policy known arch ⊎ ((halvings < 10) × AreNear known (2 ^ halvings))). ⊎_elim
        (λ (x : AreForeign policy known arch). absurd (not_foreign x))
        (λ (near : (halvings < 10) × AreNear known (2 ^ halvings)).
        let b = (near.1 lo hi range.least range.greatest).1 in
        absurd (omega (arith, b, far))) more)
        enough

    small_low : (u : ℕ) → IsPoint (In 0 0 cut ∷ known) 0 u → u < 512
    small_low u at =
        let b = low_point known cut u at in
        small u (rest_point (In 0 0 cut) known 0 u at) (low_is_native policy.machines in_order low_native arch listed u (omega (arith, b, at_cut)))

    near_below : (h : ℕ) → halvings ≡ suc h → AreNear (In 0 0 cut ∷ known) (2 ^ h)
    near_below h e = λ u w at_u at_w.
        let nine : h ≡ 9 = omega (arith, e, first_time) in
        let p : 2 ^ h ≡ 512 = ap (λ k. 2 ^ k) nine in
        let b = small_low w at_w in
        (omega (arith, p, b), b)

    foreign_high : AreForeign policy (In 0 (cut + 1) all_bits ∷ known) arch
    foreign_high u at =
        let b = high_point known cut u at in
        let c = (range.between u (rest_point (In 0 (cut + 1) all_bits) known 0 u at)).1 in
        up_to_foreign policy.machines in_order low_native arch listed u hi is (omega (arith, at_cut, b)) c

  by_kind : (P : Type 0) → (IsNativeNumber policy.machines arch hi → P) → (IsForeignNumber policy.machines arch hi → P) → P
  by_kind P own other = ⊎_elim own other (either policy.machines in_order low_native arch listed hi range.greatest.0)

  pub enough_low : (h : ℕ) → halvings ≡ suc h → IsEnough policy (In 0 0 cut ∷ known) arch h
  enough_low h e =
      let most = ten_at_most in
      inr (inr (
        omega (arith, e, most),
        by_kind (AreNear (In 0 0 cut ∷ known) (2 ^ h)) (λ own. near_low own h e) (λ is. near_below is h e),
      ))

  pub enough_high : (h : ℕ) → halvings ≡ suc h → IsEnough policy (In 0 (cut + 1) all_bits ∷ known) arch h
  enough_high h e =
      let most = ten_at_most in
      by_kind (IsEnough policy (In 0 (cut + 1) all_bits ∷ known) arch h)
      (λ own. inr (inr (omega (arith, e, most), near_high own h e)))
      (λ is. inr (inl (foreign_high is)))

  -- ---- what they cost

  module _ (of : All IsOfCalls known) (token : IsPoint known 1 (token_of arch)) where
    low_at : IsPoint (In 0 0 cut ∷ known) 0 lo
    low_at = (range.least.0, All-cons (Asks 0 lo) (In 0 0 cut) known (λ i w. (omega arith, cuts.from)) range.least.1)

    token_at : (l : Lit) → (index_of l ≡ 1 → ⊥) → IsPoint (l ∷ known) 1 (token_of arch)
    token_at l other = (token.0, All-cons (Asks 1 (token_of arch)) l known (λ is whole. absurd (other is)) token.1)

    of_calls : (a b : ℕ) → All IsOfCalls (In 0 a b ∷ known)
    of_calls a b = All-cons IsOfCalls (In 0 a b) known (tt, omega arith) of

    own_low : IsNativeNumber policy.machines arch lo
    own_low = by_kind (IsNativeNumber policy.machines arch lo)
        (λ own. let b = small hi range.greatest own in low_is_native policy.machines in_order low_native arch listed lo (omega (arith, b, order)))
        (λ is. low_is_native policy.machines in_order low_native arch listed lo (least_low is))

    some_low : 1 ≤ inside 512 policy.machines (In 0 0 cut ∷ known)
    some_low = inside_some 512 policy.machines (In 0 0 cut ∷ known) arch lo listed (small lo range.least own_low)
        (allowed (In 0 0 cut ∷ known) (token_of arch) lo (of_calls 0 cut) (token_at (In 0 0 cut) (λ e. omega (arith, e))) low_at)

    high_at : IsPoint (In 0 (cut + 1) all_bits ∷ known) 0 hi
    high_at = (
      range.greatest.0,
      All-cons (Asks 0 hi) (In 0 (cut + 1) all_bits) known
          (λ i w. let b = cuts.upto in let top = range.greatest.0 in (omega (arith, b), omega (arith, top))) range.greatest.1,
    )

    some_high : IsNativeNumber policy.machines arch hi → 1 ≤ inside 512 policy.machines (In 0 (cut + 1) all_bits ∷ known)
    some_high own = inside_some 512 policy.machines (In 0 (cut + 1) all_bits ∷ known) arch hi listed (small hi range.greatest own)
        (allowed (In 0 (cut + 1) all_bits ∷ known) (token_of arch) hi (of_calls (cut + 1) all_bits)
        (token_at (In 0 (cut + 1) all_bits) (λ e. omega (arith, e))) high_at)

    pub ten_or_high : (halvings ≡ 10) ⊎ (1 ≤ inside 512 policy.machines (In 0 (cut + 1) all_bits ∷ known))
    ten_or_high = by_kind ((halvings ≡ 10) ⊎ (1 ≤ inside 512 policy.machines (In 0 (cut + 1) all_bits ∷ known)))
        (λ own. inr (some_high own)) (λ is. inl (first_time is))

    pub low_is_some : 1 ≤ inside 512 policy.machines (In 0 0 cut ∷ known)
    low_is_some = some_low

-- so the costs of both halves are those of the whole
pub halves_split : (h a b i : ℕ) → (h ≡ 0 → ⊥) → h ≤ 10 → a + b ≤ i → 1 ≤ a → (h ≡ 10) ⊎ (1 ≤ b)
    → halves_cost (h - 1) a + halves_cost (h - 1) b + 1 ≤ halves_cost h i
halves_split h a b i some most parts first (inl ten) = omega (arith, ten, parts, first)
halves_split h a b i some most parts first (inr also) = omega (arith, some, most, parts, first, also)
