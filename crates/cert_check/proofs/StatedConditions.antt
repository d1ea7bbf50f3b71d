-- Where each word of a record is stated, each condition is yes or no, as the record meets it or does not.
use Rattle.std.proofs.Common.{◌≡◌, ◌≢◌, ℕ, ◌+◌, ◌*◌, ◌/◌, ◌%◌, ◌^◌, ◌<◌, ◌⊎◌, Bool, true, false, List, refl, sym, ap, ◌∙◌, inl, inr, arith}
use Rattle.std.specs.Prelude.{bit_and, All}
use Rattle.std.proofs.lemmas.Bool.{cases_Bool, cases_eq}
use Rattle.std.proofs.lemmas.Bool.Decides.{not_from_Decides}
use Rattle.call_record.specs.Words.{IsRecord, word}
use Rattle.profile.specs.declared.conditions.Op.{Op}
use Rattle.profile.specs.declared.conditions.Op.TheVariants.{Ne, Lt, Le, Eq, Ge, Gt, MaskedEq}
use Rattle.profile.specs.declared.conditions.Cond.{Cond}
use Rattle.profile.specs.Operator.{Compares}
use Rattle.profile.specs.Condition.{Meets}
use Rattle.profile.specs.Said.{compares}
use Rattle.profile.proofs.SaidLaws.{Decides-compares}
use Rattle.cert_state.specs.declared.literal.Lit.{Lit}
use Rattle.cert_state.specs.Literals.{Holds}
use Rattle.cert_check.specs.Agree.{HasAbove, LacksAbove, IsRangeAbove, HasBits, LacksBits, AtBothEnds}
use Rattle.cert_check.specs.Agree.{all_64_bits, IsYesBy, IsNoBy, IsYes, IsNo}
use Rattle.cert_check.specs.Settled.{AreStated}
use Rattle.cert_check.proofs.Agreement.{above, compared_halves, joined, none_set, parts_of, seen, whole, yes_condition}
use Rattle.cert_check.proofs.StatedPoints.{one_point, bits_follow, other_follows}

module _ (r : List ℕ) (rec : IsRecord r) (known : List Lit) (so : All (λ l. Holds l r) known) (stated : AreStated known r) where
  has_above : (narrow : Bool) (j m d : ℕ) → j < 6 → bit_and (above narrow (word r (5 + 2 * j))) m ≡ d → HasAbove narrow known j m d
  has_above true j m d few is = sym is ∙ none_set m
  has_above false j m d few is = bits_follow r rec known so stated (5 + 2 * j) m d (omega (arith, few)) is

  lacks_above : (narrow : Bool) (j m d : ℕ) → j < 6 → bit_and (above narrow (word r (5 + 2 * j))) m ≢ d → LacksAbove narrow known j m d
  lacks_above true j m d few other = λ is. other (none_set m ∙ sym is)
  lacks_above false j m d few other = other_follows r rec known so stated (5 + 2 * j) m d (omega (arith, few)) other

  range_above : (narrow : Bool) (j : ℕ) → j < 6
      → IsRangeAbove narrow known j (above narrow (word r (5 + 2 * j))) (above narrow (word r (5 + 2 * j)))
  range_above true j few = (refl, refl)
  range_above false j few = one_point r rec known so stated (5 + 2 * j) (omega (arith, few))

  module _ (narrow : Bool) where
    has_bits : (j m d : ℕ) → j < 6 → bit_and (seen narrow r j) m ≡ d → HasBits narrow known j m d
    has_bits j m d few is =
        let parts = parts_of r rec known so narrow j m d is in (
          has_above narrow j (m / 2 ^ 32) (d / 2 ^ 32) few parts.0,
          bits_follow r rec known so stated (4 + 2 * j) (m % 2 ^ 32) (d % 2 ^ 32) (omega (arith, few)) parts.1,
        )

    lacks_bits : (j m d : ℕ) → j < 6 → bit_and (seen narrow r j) m ≢ d → LacksBits narrow known j m d
    lacks_bits j m d few differs = elim (cases_eq (bit_and (above narrow (word r (5 + 2 * j))) (m / 2 ^ 32)) (d / 2 ^ 32)) [
      | inr other ↦ inl (lacks_above narrow j (m / 2 ^ 32) (d / 2 ^ 32) few other)
      | inl high ↦ elim (cases_eq (bit_and (word r (4 + 2 * j)) (m % 2 ^ 32)) (d % 2 ^ 32)) [
        | inr other ↦ inr (other_follows r rec known so stated (4 + 2 * j) (m % 2 ^ 32) (d % 2 ^ 32) (omega (arith, few)) other)
        | inl low ↦ absurd (differs (joined r rec known so narrow j m d high low))
      ]
    ]

    at_both : (op : Op) (j value : ℕ) (b : Bool) → j < 6 → compares op value 0 (seen narrow r j) ≡ b
        → AtBothEnds narrow known j op value b
    at_both op j value b few is =
        let here = ap (λ n. compares op value 0 n)
        (sym (compared_halves narrow (word r (4 + 2 * j)) (word r (5 + 2 * j)) (rec.words (4 + 2 * j)))) ∙ is in
        record {
          low = word r (4 + 2 * j);
          high = word r (4 + 2 * j);
          low_above = above narrow (word r (5 + 2 * j));
          high_above = above narrow (word r (5 + 2 * j));
          range = one_point r rec known so stated (4 + 2 * j) (omega (arith, few));
          range_above = range_above narrow j few;
          at_low = here;
          at_high = here;
        }

    -- the whole of what is compared
    is_all : (j : ℕ) → bit_and (seen narrow r j) all_64_bits ≡ seen narrow r j
    is_all j = whole r rec known so narrow j

    yes_by : (op : Op) (j value datum : ℕ) → j < 6 → compares op value datum (seen narrow r j) ≡ true → IsYesBy op narrow known j value datum
    yes_by Ne j value datum few is =
        lacks_bits j all_64_bits value few (λ e. (Decides-compares Ne value datum (seen narrow r j)).0 is (sym (is_all j) ∙ e))
    yes_by Eq j value datum few is =
        has_bits j all_64_bits value few (is_all j ∙ (Decides-compares Eq value datum (seen narrow r j)).0 is)
    yes_by MaskedEq j value datum few is = has_bits j value datum few ((Decides-compares MaskedEq value datum (seen narrow r j)).0 is)
    yes_by Lt j value datum few is = at_both Lt j value true few is
    yes_by Le j value datum few is = at_both Le j value true few is
    yes_by Ge j value datum few is = at_both Ge j value true few is
    yes_by Gt j value datum few is = at_both Gt j value true few is

    never : (op : Op) (j value datum : ℕ) → compares op value datum (seen narrow r j) ≡ false
        → Compares op value datum (seen narrow r j) → ⊥
    never op j value datum is = not_from_Decides _ (Decides-compares op value datum (seen narrow r j)) is

    no_by : (op : Op) (j value datum : ℕ) → j < 6 → compares op value datum (seen narrow r j) ≡ false → IsNoBy op narrow known j value datum
    no_by Ne j value datum few is = elim (cases_eq (seen narrow r j) value) [
      | inl same ↦ has_bits j all_64_bits value few (is_all j ∙ same)
      | inr differs ↦ absurd (never Ne j value datum is differs)
    ]
    no_by Eq j value datum few is = lacks_bits j all_64_bits value few (λ e. never Eq j value datum is (sym (is_all j) ∙ e))
    no_by MaskedEq j value datum few is = lacks_bits j value datum few (never MaskedEq j value datum is)
    no_by Lt j value datum few is = at_both Lt j value false few is
    no_by Le j value datum few is = at_both Le j value false few is
    no_by Ge j value datum few is = at_both Ge j value false few is
    no_by Gt j value datum few is = at_both Gt j value false few is

    -- a condition that the record meets is yes
    pub met_is_yes : (c : Cond) → Meets c (seen narrow r c.index) → IsYes narrow known c
    met_is_yes c met =
        yes_by c.op c.index c.value c.datum c.in_range ((Decides-compares c.op c.value c.datum (seen narrow r c.index)).1 met)

    -- and one that it does not meet is no
    unmet_is_no : (c : Cond) → compares c.op c.value c.datum (seen narrow r c.index) ≡ false → IsNo narrow known c
    unmet_is_no c is = (
      no_by c.op c.index c.value c.datum c.in_range is,
      λ yes. never c.op c.index c.value c.datum is (yes_condition r rec known so narrow c yes),
    )

    pub met_or_no : (c : Cond) → Meets c (seen narrow r c.index) ⊎ IsNo narrow known c
    met_or_no c = elim (cases_Bool (compares c.op c.value c.datum (seen narrow r c.index))) [
      | inl is ↦ inl ((Decides-compares c.op c.value c.datum (seen narrow r c.index)).0 is)
      | inr is ↦ inr (unmet_is_no c is)
    ]
