-- The rules that stand for a rule whose arguments are cut match where it matches with the bits at 0 that are not read.
use Rattle.std.proofs.Common.{◌≡◌, ℕ, zero, suc, ◌%◌, ◌^◌, ◌<◌, ◌≤◌, ◌⊎◌, Bool, true, false, inl, inr, List, [], ◌∷◌, ◌++◌, length, get_or, map, bit_and, refl, sym, ◌∙◌, ap, subst, arith}
use Rattle.std.specs.Prelude.{◌↔◌, slice_index, nat_le}
use Rattle.std.proofs.lemmas.Nat.{mod_below, pow_pos}
use Rattle.std.proofs.lemmas.Bool.{le-leb}
use Rattle.std.proofs.lemmas.Bool.Decides.{leb_tells}
use Rattle.std.specs.List.{All, Contains}
use Rattle.std.proofs.lemmas.Bool.{cases_lt, cases_Bool}
use Rattle.std.proofs.lemmas.List.{length-map}
use Rattle.std.proofs.lemmas.List.Elements.{All-append, All-contains, All-nil, All-cons}
use Rattle.std.proofs.Math.Nat.{mod-eq_of_lt}
use Rattle.call_record.specs.Words.{IsRecord, word, argument}
use Rattle.machines.specs.Arch.{token_of}
use Rattle.machines.specs.Width.{is_narrow}
use Rattle.widths.specs.Reads.{read_bits, is_all_read}
use Rattle.profile.specs.declared.conditions.Cond.{Cond}
use Rattle.profile.specs.declared.conditions.Op.{Op}
use Rattle.profile.specs.declared.conditions.Op.TheVariants.{MaskedEq}
use Rattle.profile.specs.declared.rules.Rule.{Rule}
use Rattle.profile.specs.Operator.{Compares}
use Rattle.profile.specs.Condition.{Meets}
use Rattle.profile.specs.Rule.{argument_of, Matches}
use Rattle.widths.specs.Alike.{read_of, Alike, IsCleared}
use Rattle.widths.specs.Counts.{most_lists}
use Rattle.widths.specs.Narrowed.{Has, Answers, MatchesRead, AreNarrowed}
use Rattle.widths.specs.Parts.{cut, IsLow}
use Rattle.widths.specs.Cutting.{Hold, HoldCut, IsPartOf, IsPart, AreCombined, IsLike, AreCut, SuitsAt, Suits}
use Rattle.widths.specs.Cutting.SuitsAt.{read, narrow, masked}
use Rattle.widths.proofs.HasLaws.{Has-left, Has-right, Has-cases, Has-nil, Has-one, one-Has, Has-map, map-Has}
use Rattle.widths.proofs.CutLaws.{all_from}
use Rattle.widths.proofs.WidthLaws.{width, all_narrow, all_is, compared_read, compared_cleared, compared_fits, compared_below, low_bits}

-- ---- one condition

leb_true : (a b : ℕ) → a ≤ b → nat_le a b ≡ true
leb_true a b le = le-leb a b le

leb_false : (a b : ℕ) → b < a → nat_le a b ≡ false
leb_false a b lt = elim (leb_tells a b) [ inl t ↦ absurd (omega (arith, lt, t.1)) | inr f ↦ f.0 ]

mod_again : (x b : ℕ) → x % 2 ^ b % 2 ^ b ≡ x % 2 ^ b
mod_again x b = mod-eq_of_lt (mod_below x (2 ^ b) (pow_pos b))

pub cut_low : (b u : ℕ) → b ≤ 32 → cut b u ≡ u % 2 ^ b
cut_low b u le = rw (leb_true b 32 le) refl

pub cut_wide : (b u : ℕ) → 32 < b → cut b u ≡ u
cut_wide b u lt = rw (leb_false b 32 lt) refl

-- a condition on the lowest bits is met alike by numbers that agree in them
masked_meets : (op : Op) (value datum b x y : ℕ) → op ≡ MaskedEq → value < 2 ^ b → x % 2 ^ b ≡ y % 2 ^ b
    → Compares op value datum x → Compares op value datum y
masked_meets op value datum b x y is lt same h =
    let at-x : bit_and x value ≡ datum = subst (λ (o : Op). Compares o value datum x) is h in
    let at-y : bit_and y value ≡ datum =
    low_bits y value b lt ∙ ap (λ u. bit_and u value) (sym same) ∙ sym (low_bits x value b lt) ∙ at-x in
    subst (λ (o : Op). Compares o value datum y) (sym is) at-y

low_meets : (c : Cond) (b x y : ℕ) → IsLow b c → x % 2 ^ b ≡ y % 2 ^ b → Meets c x → Meets c y
low_meets c b x y is same h = masked_meets c.op c.value c.datum b x y is.op is.mask same h

below_64 : (u : ℕ) → u < 2 ^ 64 → u % 2 ^ 64 ≡ u
below_64 u lt = omega (arith, lt)

below_32 : (u : ℕ) → u < 2 ^ 32 → u % 2 ^ 32 ≡ u
below_32 u lt = omega (arith, lt)

-- what is cut of an argument: x of the record, and y of the record with the bits at 0 that are not read
module _ (token nr p : ℕ) (c : Cond) (x y : ℕ) (fits : x < 2 ^ 64) (below : is_narrow token ≡ true → x < 2 ^ 32)
    (is : y ≡ x % 2 ^ read_bits token nr c.index) where
  read_same : p ≡ read_bits token nr c.index → cut p x ≡ y
  read_same e =
      elim (width token nr c.index) [
        | inl le ↦ cut_low p x (omega (arith, e, le)) ∙ ap (λ b. x % 2 ^ b) e ∙ sym is
        | inr whole ↦
            cut_wide p x (omega (arith, e, whole)) ∙ sym (below_64 x fits) ∙ ap (λ b. x % 2 ^ b) (sym whole) ∙ sym is
      ]

  narrow_same : is_all_read token nr c.index ≡ true → 32 < p → cut p x ≡ y
  narrow_same n lt =
      cut_wide p x lt ∙ sym (below_32 x (below (all_narrow token nr c.index n)))
      ∙ ap (λ b. x % 2 ^ b) (sym (all_is token nr c.index n)) ∙ sym is

  alike_y : x % 2 ^ read_bits token nr c.index ≡ y % 2 ^ read_bits token nr c.index
  alike_y = sym (mod_again x (read_bits token nr c.index)) ∙ ap (λ u. u % 2 ^ read_bits token nr c.index) (sym is)

  pub to_cleared : SuitsAt token nr p c → Meets c (cut p x) → Meets c y
  to_cleared (read e) m = subst (Meets c) (read_same e) m
  to_cleared (narrow n lt) m = subst (Meets c) (narrow_same n lt) m
  to_cleared (masked lt low) m = low_meets c (read_bits token nr c.index) x y low alike_y (subst (Meets c) (cut_wide p x lt) m)

  pub from_cleared : SuitsAt token nr p c → Meets c y → Meets c (cut p x)
  from_cleared (read e) m = subst (Meets c) (sym (read_same e)) m
  from_cleared (narrow n lt) m = subst (Meets c) (sym (narrow_same n lt)) m
  from_cleared (masked lt low) m =
      subst (Meets c) (sym (cut_wide p x lt)) (low_meets c (read_bits token nr c.index) y x low (sym alike_y) m)

-- a part of a condition is met alike by what is compared of two records that are alike
module _ (token nr p : ℕ) (c d : Cond) (x y : ℕ) (fits-x : x < 2 ^ 64) (fits-y : y < 2 ^ 64)
    (below-x : is_narrow token ≡ true → x < 2 ^ 32) (below-y : is_narrow token ≡ true → y < 2 ^ 32)
    (same : x % 2 ^ read_bits token nr c.index ≡ y % 2 ^ read_bits token nr c.index) (part : IsPartOf p d c) where
  kept_same : 32 < p → (x ≡ y) → Meets d x → Meets d y
  kept_same lt e m = subst (Meets d) e m

  whole_same : read_bits token nr c.index ≡ 64 → x ≡ y
  whole_same e = sym (below_64 x fits-x) ∙ ap (λ b. x % 2 ^ b) (sym e) ∙ same ∙ ap (λ b. y % 2 ^ b) e ∙ below_64 y fits-y

  narrow_one : is_all_read token nr c.index ≡ true → x ≡ y
  narrow_one n =
      let e = all_is token nr c.index n in
      let is = all_narrow token nr c.index n in
      sym (below_32 x (below-x is)) ∙ ap (λ b. x % 2 ^ b) (sym e) ∙ same ∙ ap (λ b. y % 2 ^ b) e ∙ below_32 y (below-y is)

  pub part_alike : SuitsAt token nr p c → Meets d x → Meets d y
  part_alike (read e) m =
      elim (width token nr c.index) [
        | inl le ↦
            let low : IsLow p d = part.low (omega (arith, e, le)) in
            low_meets d p x y low (ap (λ b. x % 2 ^ b) e ∙ same ∙ ap (λ b. y % 2 ^ b) (sym e)) m
        | inr whole ↦ subst (Meets d) (whole_same whole) m
      ]
  part_alike (narrow n lt) m = subst (Meets d) (narrow_one n) m
  part_alike (masked lt low) m =
      let e : d ≡ c = part.kept lt in
      let at-c : Meets c x = subst (λ (z : Cond). Meets z x) e m in
      subst (λ (z : Cond). Meets z y) (sym e) (low_meets c (read_bits token nr c.index) x y low same at-c)

-- ---- one rule

module _ (plan : List ℕ) (rule : Rule) (parts : List Rule) (suits : Suits plan rule) (cuts : AreCut plan rule parts) where
  abbrev token : ℕ
  token = token_of rule.arch

  like : (q : Rule) → Contains parts q → IsLike rule q
  like q has = All-contains (IsLike rule) parts q cuts.like has

  conds_of : Rule → List Cond
  conds_of q = q.conds.items

  -- what is said of arguments of a record of the rule's call
  at_call : (r s : List ℕ) → IsCleared r s → word r 1 ≡ token → word r 0 ≡ rule.nr → (c : Cond)
      → argument_of s c.index ≡ argument_of r c.index % 2 ^ read_bits token rule.nr c.index
  at_call r s cleared m n c =
      compared_cleared r s c.index c.in_range cleared
      ∙ sym (compared_read r c.index)
      ∙ ap (λ t. argument_of r c.index % 2 ^ read_bits t (word r 0) c.index) m
      ∙ ap (λ k. argument_of r c.index % 2 ^ read_bits token k c.index) n

  below_at : (r : List ℕ) (j : ℕ) → word r 1 ≡ token → is_narrow token ≡ true → argument_of r j < 2 ^ 32
  below_at r j m narrow-is = compared_below r j (ap is_narrow m ∙ narrow-is)

  module _ (r s : List ℕ) (is-r : IsRecord r) (cleared : IsCleared r s) (m : word r 1 ≡ token) (n : word r 0 ≡ rule.nr) where
    to_rule : HoldCut plan (argument_of r) rule.conds.items → All (λ c. Meets c (argument_of s c.index)) rule.conds.items
    to_rule h = all_from (λ c. Meets c (argument_of s c.index)) rule.conds.items
        (λ c has. to_cleared token rule.nr (slice_index plan c.index) c (argument_of r c.index) (argument_of s c.index)
        (compared_fits r c.index is-r) (below_at r c.index m) (at_call r s cleared m n c)
        (All-contains (λ d. SuitsAt token rule.nr (slice_index plan d.index) d) rule.conds.items c suits has)
        (All-contains (λ d. Meets d (cut (slice_index plan d.index) (argument_of r d.index))) rule.conds.items c h has))

    from_rule : All (λ c. Meets c (argument_of s c.index)) rule.conds.items → HoldCut plan (argument_of r) rule.conds.items
    from_rule h = all_from (λ c. Meets c (cut (slice_index plan c.index) (argument_of r c.index))) rule.conds.items
        (λ c has. from_cleared token rule.nr (slice_index plan c.index) c (argument_of r c.index) (argument_of s c.index)
        (compared_fits r c.index is-r) (below_at r c.index m) (at_call r s cleared m n c)
        (All-contains (λ d. SuitsAt token rule.nr (slice_index plan d.index) d) rule.conds.items c suits has)
        (All-contains (λ d. Meets d (argument_of s d.index)) rule.conds.items c h has))

  rule_from_part : (r s : List ℕ) → IsRecord r → IsCleared r s → (v : ℕ) → Has (Answers v r) parts → Has (Answers v s) (rule ∷ [])
  rule_from_part r s is-r cleared v (q, has, (w, m)) =
      let l = like q has in
      let machine : word r 1 ≡ token = m.machine ∙ ap token_of l.arch in
      let number : word r 0 ≡ rule.nr = m.number ∙ l.nr in
      let held : HoldCut plan (argument_of r) rule.conds.items =
      (cuts.combined.meets (argument_of r)).0
      (Has-map (Hold (argument_of r)) (λ (x : Rule). x.conds.items) parts (q, has, m.conditions)) in
      Has-one (Answers v s) rule (
        sym l.word ∙ w,
        record {
          machine = cleared.machine ∙ machine;
          number = cleared.number ∙ number;
          conditions = to_rule r s is-r cleared machine number held;
        },
      )

  part_from_rule : (r s : List ℕ) → IsRecord r → IsCleared r s → (v : ℕ) → Has (Answers v s) (rule ∷ []) → Has (Answers v r) parts
  part_from_rule r s is-r cleared v h =
      let (w, m) = one-Has (Answers v s) rule h in
      let machine : word r 1 ≡ token = sym cleared.machine ∙ m.machine in
      let number : word r 0 ≡ rule.nr = sym cleared.number ∙ m.number in
      let held = from_rule r s is-r cleared machine number m.conditions in
      let (q, has, conditions) = map-Has (Hold (argument_of r)) (λ (x : Rule). x.conds.items) parts
      ((cuts.combined.meets (argument_of r)).1 held) in
      let l = like q has in (
        q,
        has,
        (
          l.word ∙ w,
          record {
            machine = machine ∙ sym (ap token_of l.arch);
            number = number ∙ sym l.nr;
            conditions = conditions;
          },
        ),
      )

  module _ (r s : List ℕ) (is-r : IsRecord r) (is-s : IsRecord s) (alike : Alike r s) (m : word r 1 ≡ token) (n : word r 0 ≡ rule.nr) where
    same_read : (c : Cond) → argument_of r c.index % 2 ^ read_bits token rule.nr c.index ≡ argument_of s c.index % 2 ^ read_bits token rule.nr c.index
    same_read c =
        let P : ℕ → ℕ → Type 0 = λ t k.
        argument_of r c.index % 2 ^ read_bits t k c.index ≡ argument_of s c.index % 2 ^ read_bits t k c.index in
        let here : P (word r 1) (word r 0) =
        compared_read r c.index ∙ alike.arguments c.index c.in_range ∙ sym (compared_read s c.index)
        ∙ ap (λ t. argument_of s c.index % 2 ^ read_bits t (word s 0) c.index) (sym alike.machine)
        ∙ ap (λ k. argument_of s c.index % 2 ^ read_bits (word r 1) k c.index) (sym alike.number) in
        subst (λ k. P token k) n (subst (λ t. P t (word r 0)) m here)

    cond_alike : (d : Cond) → IsPart plan rule.conds.items d → Meets d (argument_of r d.index) → Meets d (argument_of s d.index)
    cond_alike d (c, has, part) h =
        let its : SuitsAt token rule.nr (slice_index plan c.index) c =
        All-contains (λ e. SuitsAt token rule.nr (slice_index plan e.index) e) rule.conds.items c suits has in
        let there : SuitsAt token rule.nr (slice_index plan d.index) c =
        subst (λ i. SuitsAt token rule.nr (slice_index plan i) c) part.index its in
        let at-c : Meets d (argument_of r c.index) = subst (λ i. Meets d (argument_of r i)) (sym part.index) h in
        let done = part_alike token rule.nr (slice_index plan d.index) c d (argument_of r c.index) (argument_of s c.index)
        (compared_fits r c.index is-r) (compared_fits s c.index is-s) (below_at r c.index m)
        (below_at s c.index (sym alike.machine ∙ m)) (same_read c) part there at-c in
        subst (λ i. Meets d (argument_of s i)) part.index done

  part_read : (q : Rule) → Contains parts q → MatchesRead q
  part_read q has r s is-r is-s alike m =
      let l = like q has in
      let machine : word r 1 ≡ token = m.machine ∙ ap token_of l.arch in
      let number : word r 0 ≡ rule.nr = m.number ∙ l.nr in
      let its : All (IsPart plan rule.conds.items) q.conds.items =
      All-contains (All (IsPart plan rule.conds.items)) (map (λ x. x.conds.items) parts) q.conds.items cuts.combined.parts
      (mapped q has) in
      record {
        machine = sym alike.machine ∙ m.machine;
        number = sym alike.number ∙ m.number;
        conditions = all_from (λ d. Meets d (argument_of s d.index)) q.conds.items
            (λ d in-q. cond_alike r s is-r is-s alike machine number d (All-contains (IsPart plan rule.conds.items) q.conds.items d its in-q)
            (All-contains (λ e. Meets e (argument_of r e.index)) q.conds.items d m.conditions in-q));
      }
    where
      mapped : (x : Rule) → Contains parts x → Contains (map (λ (y : Rule). y.conds.items) parts) x.conds.items
      mapped x in-parts =
          let h = Has-map (λ cs. cs ≡ x.conds.items) (λ (y : Rule). y.conds.items) parts (x, in-parts, refl) in
          subst (Contains (map (λ (y : Rule). y.conds.items) parts)) h.2 h.1

  pub narrowed_rule : AreNarrowed (rule ∷ []) parts
  narrowed_rule = record {
    answers = λ r s is-r is-s cleared v. (rule_from_part r s is-r cleared v, part_from_rule r s is-r cleared v);
    alone = all_from MatchesRead parts part_read;
    machines = all_from (λ (q : Rule). Has (λ (x : Rule). x.arch ≡ q.arch) (rule ∷ [])) parts
        (λ q has. Has-one (λ (x : Rule). x.arch ≡ q.arch) rule (sym (like q has).arch));
  }

pub cut_few : (plan : List ℕ) (rule : Rule) (parts : List Rule) → AreCut plan rule parts → length parts ≤ most_lists plan rule.conds.items
cut_few plan rule parts cuts =
    let long = length-map parts (λ (q : Rule). q.conds.items) in
    let few = cuts.combined.few in
    omega (arith, long, few)

-- ---- more rules

pub narrowed_none : AreNarrowed [] []
narrowed_none = record {
  answers = λ r s is-r is-s cleared v. (λ h. absurd (Has-nil (Answers v r) h), λ h. absurd (Has-nil (Answers v s) h));
  alone = All-nil MatchesRead;
  machines = All-nil (λ (q : Rule). Has (λ (x : Rule). x.arch ≡ q.arch) []);
}

pub narrowed_more : (rules narrowed more parts : List Rule) → AreNarrowed rules narrowed → AreNarrowed more parts
    → AreNarrowed (rules ++ more) (narrowed ++ parts)
narrowed_more rules narrowed more parts one two = record {
  answers = λ r s is-r is-s cleared v.
      let first = one.answers r s is-r is-s cleared v in
      let second = two.answers r s is-r is-s cleared v in (
        λ h. elim (Has-cases (Answers v r) narrowed parts h) [
          | inl a ↦ Has-left (Answers v s) rules more (first.0 a)
          | inr b ↦ Has-right (Answers v s) rules more (second.0 b)
        ],
        λ h. elim (Has-cases (Answers v s) rules more h) [
          | inl a ↦ Has-left (Answers v r) narrowed parts (first.1 a)
          | inr b ↦ Has-right (Answers v r) narrowed parts (second.1 b)
        ],
      );
  alone = All-append MatchesRead narrowed parts one.alone two.alone;
  machines = All-append (λ (q : Rule). Has (λ (x : Rule). x.arch ≡ q.arch) (rules ++ more)) narrowed parts
      (all_from (λ (q : Rule). Has (λ (x : Rule). x.arch ≡ q.arch) (rules ++ more)) narrowed
      (λ q has. Has-left (λ (x : Rule). x.arch ≡ q.arch) rules more (All-contains (λ (y : Rule). Has (λ (x : Rule). x.arch ≡ y.arch) rules) narrowed q one.machines has)))
      (all_from (λ (q : Rule). Has (λ (x : Rule). x.arch ≡ q.arch) (rules ++ more)) parts
      (λ q has. Has-right (λ (x : Rule). x.arch ≡ q.arch) rules more (All-contains (λ (y : Rule). Has (λ (x : Rule). x.arch ≡ y.arch) more) parts q two.machines has)));
}
