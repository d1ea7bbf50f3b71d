-- The ranges of a machine's numbers, as they are added.
use Rattle.std.proofs.Common.{◌≡◌, ℕ, zero, suc, ◌+◌, ◌-◌, ◌⊎◌, ◌<◌, ◌≤◌, ◌^◌, List, [], ◌∷◌, ◌++◌, length, refl, ap, sym, ◌∙◌, subst}
use Rattle.std.proofs.Common.{arith, max, inl, inr, length-append, take}
use Rattle.std.proofs.Math.Seq.{take-append_seam}
use Rattle.std.specs.Prelude.{replicate, slice_index, slice_index_or}
use Rattle.std.proofs.lemmas.List.{get_or_default, get_or_past, get_or-replicate}
use Rattle.std.specs.List.{All, Any, Contains}
use Rattle.std.proofs.lemmas.List.Elements.{All-append, All-cons, All-contains, All-head, All-nil}
use Rattle.std.proofs.lemmas.Bool.{cases_lt}
use Rattle.call_record.specs.Words.{IsRecord}
use Rattle.machines.specs.declared.arch.Arch.{Arch}
use Rattle.machines.specs.declared.numbers.Numbers.{Numbers}
use Rattle.machines.specs.Arch.{token_of}
use Rattle.machines.specs.Numbers.{IsWithin as IsAmong, foreign_numbers, from_to}
use Rattle.machines.proofs.ArchLaws.{token_of-fits}
use Rattle.machines.proofs.ForeignLaws.{native_or_foreign}
use Rattle.profile.specs.declared.rules.Rule.{Rule}
use Rattle.profile.specs.declared.conditions.Cond.{Cond}
use Rattle.profile.specs.Condition.{Meets}
use Rattle.profile.specs.Rule.{Matches, argument_of}
use Rattle.profile.specs.Policy.{IsNative, Policy, Says}
use Rattle.profile.proofs.SaidLaws.{each_record_is_said_one_verdict}
use Rattle.rule_compile.specs.declared.ranges.Leaf.{Leaf}
use Rattle.rule_compile.specs.declared.ranges.Leaf.TheVariants.{Verdict}
use Rattle.rule_compile.specs.declared.ranges.Range.{Range}
use Rattle.rule_compile.specs.Shape.{IsPlain, IsPlainRule, call}
use Rattle.rule_compile.specs.inner.Numbers.{AreFew, AreOwn, AreUnconditional, Between, IsExtended, IsFor, IsListed, IsNext, HasVerdict}
use Rattle.rule_compile.specs.inner.Numbers.{LeafFor, NoneFor, Reached, more, nothing, ruled, said_of, unruled, wider}
use Rattle.rule_compile.specs.Decides.{IsWithin, Tiles}
use Rattle.rule_compile.specs.inner.Ranges.{AreInOrder}
use Rattle.rule_compile.proofs.FindLaws.{all_left, all_right}
use Rattle.rule_compile.proofs.ForeignLaws.{EndsAt, StandsAt, ends_at, foreign_split, native_not_foreign, stands_at}

-- what is left where the last one is taken off
pub popped : (old new front : List Range) (x : Range) (count : ℕ) → count ≡ length old → old ≡ front ++ x ∷ []
    → new ≡ take (count - 1) old → new ≡ front
popped old new front x count count_is is rest =
    let n : count - 1 ≡ length front = omega (arith, count_is, ap length is, length-append front (x ∷ [])) in
    rest ∙ ap (λ k. take k old) n ∙ ap (take (length front)) is ∙ take-append_seam front (x ∷ [])

-- ---- ranges that follow one another

tiles_push : (xs : List Range) (a b e : ℕ) (x : Range) → Tiles a xs b → x.first ≡ b → b ≤ x.last → x.last + 1 ≡ e → Tiles a (xs ++ x ∷ []) e
tiles_push [] a b e x t first within last = (first ∙ sym t, omega (arith, t, within), last)
tiles_push (y ∷ ys) a b e x t first within last = (t.0, t.1, tiles_push ys (y.last + 1) b e x t.2 first within last)

pub tiles_back : (front : List Range) (a b : ℕ) (x : Range) → Tiles a (front ++ x ∷ []) b
    → Tiles a front x.first × (x.first ≤ x.last) × (x.last + 1 ≡ b)
tiles_back [] a b x t = (sym t.0, omega (arith, t.0, t.1), t.2)
tiles_back (y ∷ ys) a b x t =
    let rest = tiles_back ys (y.last + 1) b x t.2 in
    ((t.0, t.1, rest.0), rest.1, rest.2)

module _ (old new : List Range) (from end : ℕ) (leaf : Leaf) where
  pub tiles_extended : Tiles 0 old from → IsExtended old from end leaf new → Tiles 0 new (max from end)
  tiles_extended t (nothing le is) =
      let n : from ≡ max from end = omega (arith, le) in
      subst (λ xs. Tiles 0 xs (max from end)) (sym is) (subst (Tiles 0 old) n t)
  tiles_extended t (more lt is) =
      let x : Range = record { first = from; last = end - 1; leaf = leaf } in
      subst (λ xs. Tiles 0 xs (max from end)) (sym is) (tiles_push old 0 from (max from end) x t refl (omega (arith, lt)) (omega
      (arith, lt)))
  tiles_extended t (wider lt front x was alike is) =
      let y : Range = record { first = x.first; last = end - 1; leaf = leaf } in
      let back = tiles_back front 0 from x (subst (λ xs. Tiles 0 xs from) was t) in
      subst (λ xs. Tiles 0 xs (max from end)) (sym is)
      (tiles_push front 0 x.first (max from end) y back.0 refl (omega (arith, lt, back.1, back.2)) (omega (arith, lt)))

  pub has_verdicts_extended : (f : ℕ → ℕ) (w : ℕ) → Tiles 0 old from → All (HasVerdict f) old → IsExtended old from end leaf new → leaf ≡ Verdict w
      → ((u : ℕ) → from ≤ u → u < end → f u ≡ w) → All (HasVerdict f) new
  has_verdicts_extended f w t all (nothing le is) leaf_is told = subst (All (HasVerdict f)) (sym is) all
  has_verdicts_extended f w t all (more lt is) leaf_is told =
      let x : Range = record { first = from; last = end - 1; leaf = leaf } in
      let one : HasVerdict f x = (w, leaf_is, λ u within. told u within.0 (omega (arith, lt, within.1))) in
      subst (All (HasVerdict f)) (sym is) (All-append (HasVerdict f) old (x ∷ []) all (All-cons (HasVerdict f) x [] one (All-nil (HasVerdict f))))
  has_verdicts_extended f w t all (wider lt front x was alike is) leaf_is told =
      let y : Range = record { first = x.first; last = end - 1; leaf = leaf } in
      let back = tiles_back front 0 from x (subst (λ xs. Tiles 0 xs from) was t) in
      let parts : All (HasVerdict f) (front ++ x ∷ []) = subst (All (HasVerdict f)) was all in
      let own : HasVerdict f x = All-head (HasVerdict f) x [] (all_right (HasVerdict f) front (x ∷ []) parts) in
      let same : own.0 ≡ w = let e : Verdict own.0 ≡ Verdict w = sym own.1 ∙ alike ∙ leaf_is in cc in
      let one : HasVerdict f y = (
        w,
        leaf_is,
        λ u within. elim (cases_lt u from) [
          | inl before ↦ own.2 u (within.0, omega (arith, before, back.2)) ∙ same
          | inr after ↦ told u after (omega (arith, lt, within.1))
        ],
      ) in
      subst (All (HasVerdict f)) (sym is)
      (All-append (HasVerdict f) front (y ∷ []) (all_left (HasVerdict f) front (x ∷ []) parts) (All-cons (HasVerdict f) y [] one (All-nil
      (HasVerdict f))))

  pub count_extended : IsExtended old from end leaf new → length new ≤ length old + 1
  count_extended (nothing le is) = omega (arith, ap length is)
  count_extended (more lt is) = omega (arith, ap length is, length-append old (record { first = from; last = end - 1; leaf = leaf } ∷ []))
  count_extended (wider lt front x was alike is) =
      omega (
        arith,
        ap length is,
        ap length was,
        length-append front (x ∷ []),
        length-append front
            (record { first = x.first; last = end - 1; leaf = leaf } ∷ []),
      )

  pub count_same : end ≤ from → IsExtended old from end leaf new → length new ≡ length old
  count_same none (nothing le is) = ap length is
  count_same none (more lt is) = absurd (omega (arith, lt, none))
  count_same none (wider lt front x was alike is) = absurd (omega (arith, lt, none))

pub tiles_some : (xs : List Range) (end : ℕ) → 0 < end → Tiles 0 xs end → 1 ≤ length xs
tiles_some [] end some t = absurd (omega (arith, some, t))
tiles_some (x ∷ xs) end some t = omega arith

later_first : (xs : List Range) (a b : ℕ) → Tiles a xs b → All (λ y. a ≤ y.first) xs
later_first [] a b t = All-nil (λ y. a ≤ y.first)
later_first (x ∷ xs) a b t =
    let rest = later_first xs (x.last + 1) b t.2 in
    All-cons (λ y. a ≤ y.first) x xs (omega (arith, t.0)) (λ k d within. let after = rest k d within in omega (arith, after, t.1))

pub tiles_in_order : (xs : List Range) (a b : ℕ) → Tiles a xs b → AreInOrder xs
tiles_in_order [] a b t = tt
tiles_in_order (x ∷ xs) a b t =
    let rest = later_first xs (x.last + 1) b t.2 in
    (omega (arith, t.0, t.1), (λ k d within. let after = rest k d within in omega (arith, after)), tiles_in_order xs (x.last + 1) b t.2)

-- each number is in one of the ranges
pub tiles_cover : (xs : List Range) (a b u : ℕ) → Tiles a xs b → a ≤ u → u < b
    → (k : ℕ) × (k < length xs) × ((d : Range) → IsWithin (slice_index_or xs k d) u)
tiles_cover [] a b u t low high = absurd (omega (arith, t, low, high))
tiles_cover (x ∷ xs) a b u t low high = elim (cases_lt x.last u) [
  | inl after ↦
      let rest = tiles_cover xs (x.last + 1) b u t.2 (omega (arith, after)) high in
      (suc rest.0, omega (arith, rest.1), rest.2)
  | inr before ↦ (0, omega arith, λ d. (omega (arith, t.0, low), before))
]

-- ---- what the profile says of a call

zeros_small : (i : ℕ) → slice_index (replicate 14 0) i < 2 ^ 32
zeros_small i = elim (cases_lt i 14) [
  | inl within ↦ let e : slice_index (replicate 14 0) i ≡ 0 = get_or-replicate 14 i 0 0 within in omega (arith, e)
  | inr past ↦ let e : slice_index (replicate 14 0) i ≡ 0 = get_or_past (replicate 14 0) i 0 past in omega (arith, e)
]

call_small : (t u : ℕ) → t < 2 ^ 32 → u < 2 ^ 32 → (i : ℕ) → slice_index (call t u) i < 2 ^ 32
call_small t u small_t small_u zero = small_u
call_small t u small_t small_u (suc zero) = small_t
call_small t u small_t small_u (suc (suc i)) = zeros_small i

pub call_is_record : (t u : ℕ) → t < 2 ^ 32 → u < 2 ^ 32 → IsRecord (call t u)
call_is_record t u small_t small_u = record { length_is = refl; words = call_small t u small_t small_u }

module _ (p : Policy) (plain : IsPlain p) (t u : ℕ) (small_t : t < 2 ^ 32) (small_u : u < 2 ^ 32) where
  one_verdict : (v : ℕ) → Says p (call t u) v → said_of p t u ≡ v
  one_verdict v says = sym ((each_record_is_said_one_verdict p (call t u) v plain.clear (call_is_record t u small_t small_u)).0 says)

  matches_for : (rule : Rule) → Contains p.rules rule → IsFor t u rule → Matches rule (call t u)
  matches_for rule has is = record {
    machine = sym is.0;
    number = sym is.1;
    conditions =
        let P : Cond → Type 0 = λ c. Meets c (argument_of (call t u) c.index) in
        subst (All P) (sym (All-contains IsPlainRule p.rules rule plain.rules has).0) (All-nil P);
  }

  pub said_rule : IsNative p (call t u) → (rule : Rule) → Contains p.rules rule → IsFor t u rule → said_of p t u ≡ rule.word
  said_rule native rule has is = one_verdict rule.word (record {
    foreign = λ not. absurd (not native);
    matched = λ _ other there m.
        plain.clear (call t u) (call_is_record t u small_t small_u) rule other has there (matches_for rule has is) m;
    unmatched = λ _ none. absurd (All-contains (λ rule. ¬ Matches rule (call t u)) p.rules rule none has (matches_for rule has is));
  })

  pub said_default : IsNative p (call t u) → NoneFor t u p.rules → said_of p t u ≡ p.default_word
  said_default native none = one_verdict p.default_word (record {
    foreign = λ not. absurd (not native);
    matched = λ _ other there m. absurd (All-contains (λ rule. IsFor t u rule → ⊥) p.rules other none there (sym m.machine, sym m.number));
    unmatched = λ _ _. refl;
  })

  pub said_foreign : (IsNative p (call t u) → ⊥) → said_of p t u ≡ 0
  said_foreign not = one_verdict 0 (record {
    foreign = λ _. refl;
    matched = λ native. absurd (not native);
    unmatched = λ native. absurd (not native);
  })

-- a call of a listed machine whose number is foreign is not native
foreign_other : (p : Policy) (m : Arch) (u : ℕ) → IsListed p m → Any (IsAmong u) (foreign_numbers p.machines m)
    → IsNative p (call (token_of m) u) → ⊥
foreign_other p m u listed foreign native = native_not_foreign p.machines m u listed.0 listed.1 native foreign

-- ---- the next number, and all after the last

module _ (p : Policy) (m : Arch) (most from end next : ℕ) (old mid : List Range) (before : from < end) (small_end : end ≤ 2 ^ 32)
    (own : AreOwn p m from end) (many : 513 ≤ most) (reached : Reached p m most end from old)
    (is_next : IsNext p.rules (token_of m) from end next) (first : IsExtended old from next (Verdict p.default_word) mid) where
  mid_tiles : Tiles 0 mid (max from next)
  mid_tiles = tiles_extended old mid from next (Verdict p.default_word) reached.tiles first

  mid_has_verdicts : IsPlain p → IsListed p m → All (HasVerdict (said_of p (token_of m))) mid
  mid_has_verdicts plain listed =
      has_verdicts_extended old mid from next (Verdict p.default_word) (said_of p (token_of m)) p.default_word reached.tiles
      (reached.has_verdicts plain listed) first refl
      (λ u low high.
      let within : u < end = omega (arith, high, is_next.most) in
      said_default p plain (token_of m) u (token_of-fits m) (omega (arith, within, small_end))
      (own u low within listed) (is_next.none u low high))

  pub reached_end : next ≡ end → Reached p m most end (max from next) mid
  reached_end last =
      let at : max from next ≡ end = omega (arith, last, before) in
      let more = count_extended old mid from next (Verdict p.default_word) first in
      record {
        tiles = mid_tiles;
        has_verdicts = mid_has_verdicts;
        few = λ plain. elim (reached.few plain) [
          | inl few ↦ inr (inr (at, omega (arith, few.0, few.1, more, many)))
          | inr behind ↦ elim behind [
            | inl few ↦ inr (inr (at, omega (arith, few.2, more)))
            | inr all ↦ absurd (omega (arith, all.0, before))
          ]
        ];
      }

  module _ (new : List Range) (leaf : Leaf) (inside : next < end) (decided : AreUnconditional p.rules
      → LeafFor p.rules (token_of m) next p.default_word leaf)
      (one : IsExtended mid (max from next) (next + 1) leaf new) where
    unconditional : IsPlain p → AreUnconditional p.rules
    unconditional plain k d within = (plain.rules k d within).0

    leaf_verdict : IsPlain p → IsListed p m → (w : ℕ) × (leaf ≡ Verdict w) × (said_of p (token_of m) next ≡ w)
    leaf_verdict plain listed =
        let small : next < 2 ^ 32 = omega (arith, inside, small_end) in
        let native = own next is_next.least inside listed in
        elim (decided (unconditional plain)) [
          | ruled rule has is leaf_is ↦ (
            rule.word,
            leaf_is,
            said_rule p plain (token_of m) next (token_of-fits m) small native rule has is,
          )
          | unruled none leaf_is ↦ (
            p.default_word,
            leaf_is,
            said_default p plain (token_of m) next (token_of-fits m) small native none,
          )
        ]

    few_next : IsPlain p → AreFew most end (max (max from next) (next + 1)) (length new)
    few_next plain =
        let small : next < 512 = elim (is_next.small 512 (λ k d within.
        (plain.rules k d within).1)) [ inl less ↦ less | inr last ↦ absurd (omega (arith, last, inside)) ] in
        let a = count_extended old mid from next (Verdict p.default_word) first in
        let b = count_extended mid new (max from next) (next + 1) leaf one in
        elim (reached.few plain) [
          | inl few ↦ elim (cases_lt from next) [
            | inl less ↦ inl (omega (arith, small, less), omega (arith, few.1, less, a, b))
            | inr same ↦
                let c = count_same old mid from next (Verdict p.default_word) same first in
                inl (omega (arith, small, same, is_next.least), omega (arith, few.1, same, is_next.least, b, c))
          ]
          | inr behind ↦ elim behind [
            | inl few ↦ absurd (omega (arith, few.0, small, is_next.least))
            | inr all ↦ absurd (omega (arith, all.0, before))
          ]
        ]

    pub reached_next : Reached p m most end (max (max from next) (next + 1)) new
    reached_next = record {
      tiles = tiles_extended mid new (max from next) (next + 1) leaf mid_tiles one;
      has_verdicts = λ plain listed.
          let word = leaf_verdict plain listed in
          has_verdicts_extended mid new (max from next) (next + 1) leaf (said_of p (token_of m)) word.0 mid_tiles
          (mid_has_verdicts plain listed) one word.1
          (λ u low high. let e : u ≡ next = omega (arith, low, high, is_next.least) in ap (said_of p (token_of m)) e ∙ word.2);
      few = few_next;
    }

-- ---- from one stretch of foreign numbers to the next

tiles_le : (xs : List Range) (a b : ℕ) → Tiles a xs b → a ≤ b
tiles_le [] a b t = omega (arith, t)
tiles_le (x ∷ xs) a b t = let rest = tiles_le xs (x.last + 1) b t.2 in omega (arith, t.1, rest)

-- ranges that end where they begin are none
tiles_none : (xs : List Range) (a b : ℕ) → Tiles a xs b → a ≡ b → length xs ≡ 0
tiles_none [] a b t same = refl
tiles_none (x ∷ xs) a b t same =
    let rest = tiles_le xs (x.last + 1) b t.2 in
    absurd (omega (arith, t.1, rest, same))

pub between_none : (p : Policy) (m : Arch) → Between p m 0 0 []
between_none p m = record {
  tiles = refl;
  has_verdicts = λ plain listed. All-nil (HasVerdict (said_of p (token_of m)));
  few = λ plain. inl (omega arith);
  place = refl;
}

module _ (p : Policy) (m : Arch) (k upto : ℕ) (foreign : Numbers) (old : List Range) (between : Between p m k upto old)
    (inside : k < length (foreign_numbers p.machines m)) (at : foreign ≡ slice_index_or (foreign_numbers p.machines m) k (from_to 0 0)) where
  this : StandsAt (foreign_numbers p.machines m) k foreign
  this = stands_at (foreign_numbers p.machines m) k foreign (foreign_split p.machines m) inside at

  pub own_upto : upto ≤ foreign.first
  own_upto = omega (arith, between.place, this.ordered)

  pub first_small : foreign.first ≤ 2 ^ 32
  first_small = omega (arith, this.some, this.small)

  pub last_small : foreign.last + 1 ≤ 2 ^ 32
  last_small = omega (arith, this.small)

  pub others_between : (u : ℕ) → foreign.first ≤ u → u ≤ foreign.last → Any (IsAmong u) (foreign_numbers p.machines m)
  others_between u low high = (
    k,
    foreign,
    inside,
    get_or_default (foreign_numbers p.machines m) k foreign (from_to 0 0) inside ∙ sym at,
    (low, high),
  )

  pub own_before : AreOwn p m upto foreign.first
  own_before u low high listed =
      elim (native_or_foreign p.machines m u (omega (arith, high, this.some, this.small)) listed.1) [
        | inl native ↦ native
        | inr other ↦ absurd (this.own u (omega (arith, low, between.place)) high other)
      ]

  pub own_reached : Reached p m 513 foreign.first upto old
  own_reached = record {
    tiles = between.tiles;
    has_verdicts = between.has_verdicts;
    few = λ plain. elim this.before [
      | inl first ↦
          let none = tiles_none old 0 upto between.tiles (sym (between.place ∙ first)) in
          inl (omega (arith, between.place, first), omega (arith, none))
      | inr further ↦ elim (between.few plain) [
        | inl one ↦ inr (inl (omega (arith, between.place, further.0), omega (arith, between.place, further.1), omega (arith, one)))
        | inr past ↦ absurd (omega (arith, past.0, inside))
      ]
    ];
  }

  module _ (mid new : List Range) (reached : Reached p m 513 foreign.first foreign.first mid)
      (last : IsExtended mid foreign.first (foreign.last + 1) (Verdict 0) new) where
    few_next_to : IsPlain p → (length new ≤ 1) ⊎ ((k + 1 ≡ length (foreign_numbers p.machines m)) × (length new ≤ 514))
    few_next_to plain =
        let more = count_extended mid new foreign.first (foreign.last + 1) (Verdict 0) last in
        elim this.further [
          | inl first ↦
              let none = tiles_none mid 0 foreign.first reached.tiles (sym first) in
              inl (omega (arith, none, more))
          | inr further ↦ elim (reached.few plain) [
            | inl few ↦ absurd (omega (arith, few.0, further.0))
            | inr behind ↦ elim behind [
              | inl few ↦ absurd (omega (arith, few.1))
              | inr all ↦ inr (further.1, omega (arith, all.1, more))
            ]
          ]
        ]

    pub between_next : Between p m (k + 1) (max foreign.first (foreign.last + 1)) new
    between_next = record {
      tiles = tiles_extended mid new foreign.first (foreign.last + 1) (Verdict 0) reached.tiles last;
      has_verdicts = λ plain listed.
          has_verdicts_extended mid new foreign.first (foreign.last + 1) (Verdict 0) (said_of p (token_of m)) 0 reached.tiles
          (reached.has_verdicts plain listed) last refl
          (λ u low high.
          said_foreign p plain (token_of m) u (token_of-fits m) (omega (arith, high, this.small))
          (foreign_other p m u listed (others_between u low (omega (arith, high)))));
      few = few_next_to;
      place =
          let e : max foreign.first (foreign.last + 1) ≡ foreign.last + 1 = omega (arith, this.some) in
          e ∙ sym this.place;
    }

-- behind all of them
module _ (p : Policy) (m : Arch) (k upto : ℕ) (old : List Range) (between : Between p m k upto old)
    (all : k ≡ length (foreign_numbers p.machines m)) where
  ends : EndsAt (foreign_numbers p.machines m) upto
  ends =
      subst (EndsAt (foreign_numbers p.machines m)) (sym between.place)
      (ends_at (foreign_numbers p.machines m) k (foreign_split p.machines m) all)

  pub last_upto : upto ≤ 2 ^ 32
  last_upto = ends.small

  pub last_own : AreOwn p m upto (2 ^ 32)
  last_own u low high listed = elim (native_or_foreign p.machines m u high listed.1) [
    | inl native ↦ native
    | inr other ↦ absurd (ends.past u low other)
  ]

  most_there : IsPlain p → length old ≤ 514
  most_there plain = elim (between.few plain) [ inl one ↦ omega (arith, one) | inr past ↦ past.1 ]

  pub last_reached : Reached p m 515 (2 ^ 32) upto old
  last_reached = record {
    tiles = between.tiles;
    has_verdicts = between.has_verdicts;
    few = λ plain. elim ends.far [
      | inl first ↦
          let none = tiles_none old 0 upto between.tiles (sym first) in
          inl (omega (arith, first), omega (arith, none))
      | inr far ↦
          let most = most_there plain in
          elim (cases_lt upto (2 ^ 32)) [
            | inl less ↦ inr (inl (far, less, omega (arith, most)))
            | inr not ↦ inr (inr (omega (arith, not, last_upto), omega (arith, most)))
          ]
    ];
  }

pub whole_few : (p : Policy) (m : Arch) (new : List Range) → Reached p m 515 (2 ^ 32) (2 ^ 32) new → IsPlain p → length new ≤ 515
whole_few p m new reached plain = elim (reached.few plain) [
  | inl few ↦ absurd (omega (arith, few.0))
  | inr behind ↦ elim behind [ inl few ↦ absurd (omega (arith, few.1)) | inr all ↦ all.1 ]
]
