-- What is known of a record settles the verdict that the profile says of it.
use Rattle.std.proofs.Common.{◌≡◌, ◌≢◌, ℕ, ◌+◌, ◌*◌, ◌/◌, ◌%◌, ◌^◌, ◌<◌, ◌≤◌, Bool, true, false, List, refl, sym, ap, ◌∙◌, subst, inl, inr, arith}
use Rattle.std.specs.Prelude.{bit_and, slice_get, slice_index, slice_index_or, All, Any, Contains, Some}
use Rattle.std.proofs.lemmas.Nat.{and_block, and_le_l}
use Rattle.std.specs.Int.Bits.{and_mask}
use Rattle.std.proofs.lemmas.List.Elements.{All-contains}
use Rattle.std.proofs.lemmas.Option.{slice_get-get_or}
use Rattle.cert_check.proofs.Elements.{contains_at, each_of}
use Rattle.std.proofs.lemmas.Bool.{ltb-true, ltb-false, leb-true, leb-false, lt-ltb, le-ltb, le-leb, lt-leb}
use Rattle.std.proofs.lemmas.Bool.Decides.{not_from_Decides}
use Rattle.call_record.specs.Words.{IsRecord, word, argument}
use Rattle.machines.specs.declared.arch.Arch.{Arch}
use Rattle.machines.specs.Arch.{token_of}
use Rattle.machines.specs.Width.{compared, is_narrow}
use Rattle.machines.specs.Numbers.{HasCall, IsOwn, IsWithin, foreign_numbers}
use Rattle.machines.proofs.NumberLaws.{none, own_not_other}
use Rattle.machines.proofs.ForeignLaws.{foreign_is_other, native_or_foreign}
use Rattle.profile.specs.declared.conditions.Op.{Op}
use Rattle.profile.specs.declared.conditions.Op.TheVariants.{Ne, Lt, Le, Eq, Ge, Gt, MaskedEq}
use Rattle.profile.specs.declared.conditions.Cond.{Cond}
use Rattle.profile.specs.declared.rules.Rule.{Rule}
use Rattle.profile.specs.Operator.{Compares}
use Rattle.profile.specs.Condition.{Meets}
use Rattle.profile.specs.Rule.{Matches, argument_of, is_narrow_rule}
use Rattle.profile.specs.Policy.{Policy, IsNative, IsClear, Says}
use Rattle.profile.specs.Said.{compares}
use Rattle.profile.proofs.SaidLaws.{Decides-compares}
use Rattle.cert_state.specs.declared.literal.Lit.{Lit}
use Rattle.cert_state.specs.declared.literal.Lit.TheVariants.{In, Bits, NotBits}
use Rattle.cert_state.specs.Literals.{all_bits, Holds, Meets as IsMet}
use Rattle.cert_state.specs.Points.{IsPoint}
use Rattle.cert_state.specs.Entailment.{Entails}
use Rattle.cert_state.proofs.KnownLaws.{entailed_is_true}
use Rattle.cert_state.proofs.BitLaws.{and_all}
use Rattle.cert_check.specs.Agree.{HasAbove, HasBits, IsRangeAbove, LacksAbove, LacksBits, AtBothEnds, all_64_bits, IsYesBy}
use Rattle.cert_check.specs.Agree.{IsNoBy, IsNo, IsYes, IsYesRule, IsNoRule, IsRefuted, IsLeft}
use Rattle.cert_check.specs.Agree.{ForeignNumbersAgree, RulesAgree, MachineAgrees, ListedAgrees, Agrees}

-- a number of two halves under a mask, half by half
masked_halves : (l h m : ℕ) → l < 2 ^ 32 → bit_and (l + 2 ^ 32 * h) m ≡ bit_and h (m / 2 ^ 32) * 2 ^ 32 + bit_and l (m % 2 ^ 32)
masked_halves l h m small =
    let e : l + 2 ^ 32 * h ≡ h * 2 ^ 32 + l = omega arith in
    let f : m ≡ (m / 2 ^ 32) * 2 ^ 32 + m % 2 ^ 32 = omega arith in
    let below : m % 2 ^ 32 < 2 ^ 32 = omega arith in
    ap (λ n. bit_and n m) e ∙ ap (λ n. bit_and (h * 2 ^ 32 + l) n) f ∙ and_block 32 h (m / 2 ^ 32) l (m % 2 ^ 32) small below

-- a number is one of two halves alone
quotient : (q t d : ℕ) → t < 2 ^ 32 → q * 2 ^ 32 + t ≡ d → (q ≡ d / 2 ^ 32) × (t ≡ d % 2 ^ 32)
quotient q t d small e = (omega arith, omega arith)

-- what is compared of an argument of a record
abbrev pub seen : Bool → List ℕ → ℕ → ℕ
seen narrow r j = compared narrow (argument r j)

-- its high half, as it counts
abbrev pub above : Bool → ℕ → ℕ
above true h = 0
above false h = h

-- what is compared, by its halves
pub compared_halves : (narrow : Bool) (l h : ℕ) → l < 2 ^ 32 → compared narrow (l + 2 ^ 32 * h) ≡ l + 2 ^ 32 * above narrow h
compared_halves true l h small = omega arith
compared_halves false l h small = refl

above_fits : (narrow : Bool) (h : ℕ) → h < 2 ^ 32 → above narrow h < 2 ^ 32
above_fits true h small = omega arith
above_fits false h small = small

-- no bit of 0 is set
pub none_set : (m : ℕ) → bit_and 0 m ≡ 0
none_set m = let small = and_le_l 0 m in omega (arith, small)

fits : (l h : ℕ) → l < 2 ^ 32 → h < 2 ^ 32 → (l + 2 ^ 32 * h) % 2 ^ 64 ≡ l + 2 ^ 32 * h
fits l h low high = omega arith

-- the comparisons by order
abbrev IsOrder : Op → Type 0
IsOrder Ne = ⊥
IsOrder Eq = ⊥
IsOrder MaskedEq = ⊥
IsOrder _ = Unit {0}

-- what an order answers at both ends it answers between, whatever the datum
monotone : (op : Op) (value datum low u high : ℕ) (b : Bool) → IsOrder op → low ≤ u → u ≤ high
    → compares op value 0 low ≡ b → compares op value 0 high ≡ b → compares op value datum u ≡ b
monotone Ne value datum low u high b o l h p q = absurd o
monotone Eq value datum low u high b o l h p q = absurd o
monotone MaskedEq value datum low u high b o l h p q = absurd o
monotone Lt value datum low u high true o l h p q = let k = ltb-true high value q in lt-ltb u value (omega arith)
monotone Lt value datum low u high false o l h p q = let k = ltb-false low value p in le-ltb u value (omega arith)
monotone Le value datum low u high true o l h p q = let k = leb-true high value q in le-leb u value (omega arith)
monotone Le value datum low u high false o l h p q = let k = leb-false low value p in lt-leb u value (omega arith)
monotone Ge value datum low u high true o l h p q = let k = leb-true value low p in le-leb value u (omega arith)
monotone Ge value datum low u high false o l h p q = let k = leb-false value high q in lt-leb value u (omega arith)
monotone Gt value datum low u high true o l h p q = let k = ltb-true value low p in lt-ltb value u (omega arith)
monotone Gt value datum low u high false o l h p q = let k = ltb-false value high q in le-ltb value u (omega arith)

-- no rule that is said to be out matches the record
abbrev pub AreOut : Policy → List ℕ → List ℕ → Type 0
AreOut policy out r = (place : ℕ) (rule : Rule) → Contains out place → slice_get policy.rules place ≡ Some rule → Matches rule r → ⊥

-- the record meets each condition that is said to be met
abbrev pub AreMet : Policy → List (ℕ × ℕ) → List ℕ → Type 0
AreMet policy met r =
    (place own : ℕ) (rule : Rule) (c : Cond) → Contains met (place, own) → slice_get policy.rules place ≡ Some rule
    → slice_get rule.conds.items own ≡ Some c → Meets c (compared (is_narrow_rule rule) (argument r c.index))

module _ (r : List ℕ) (rec : IsRecord r) (known : List Lit) (so : All (λ l. Holds l r) known) where
  -- a word of the record is one of its points
  pub point : (w : ℕ) → IsPoint known w (slice_index r w)
  point w = (rec.words w, λ k d lt e n. subst (λ v. IsMet (slice_index_or known k d) (slice_index r v)) e (so k d lt))

  half_low : (j : ℕ) → slice_index r (4 + 2 * j) < 2 ^ 32
  half_low j = rec.words (4 + 2 * j)

  module _ (narrow : Bool) where
    halves_of : (j : ℕ) → seen narrow r j ≡ slice_index r (4 + 2 * j) + 2 ^ 32 * above narrow (slice_index r (5 + 2 * j))
    halves_of j = compared_halves narrow (slice_index r (4 + 2 * j)) (slice_index r (5 + 2 * j)) (half_low j)

    -- it under a mask, half by half
    halves_under : (j m : ℕ) → bit_and (seen narrow r j) m
        ≡ bit_and (above narrow (slice_index r (5 + 2 * j))) (m / 2 ^ 32) * 2 ^ 32 + bit_and (slice_index r (4 + 2 * j)) (m % 2 ^ 32)
    halves_under j m =
        ap (λ n. bit_and n m) (halves_of j)
        ∙ masked_halves (slice_index r (4 + 2 * j)) (above narrow (slice_index r (5 + 2 * j))) m (half_low j)

    -- where it has a datum under a mask, its halves have theirs
    pub parts_of : (j m d : ℕ) → bit_and (seen narrow r j) m ≡ d
        → (bit_and (above narrow (slice_index r (5 + 2 * j))) (m / 2 ^ 32) ≡ d / 2 ^ 32)
        × (bit_and (slice_index r (4 + 2 * j)) (m % 2 ^ 32) ≡ d % 2 ^ 32)
    parts_of j m d is =
        let small = and_le_l (slice_index r (4 + 2 * j)) (m % 2 ^ 32) in
        let below = half_low j in
        quotient (bit_and (above narrow (slice_index r (5 + 2 * j))) (m / 2 ^ 32)) (bit_and (slice_index r (4 + 2 * j)) (m % 2 ^ 32)) d
        (omega (arith, small, below)) (sym (halves_under j m) ∙ is)

    -- and where its halves have theirs, it has it
    pub joined : (j m d : ℕ) → bit_and (above narrow (slice_index r (5 + 2 * j))) (m / 2 ^ 32) ≡ d / 2 ^ 32
        → bit_and (slice_index r (4 + 2 * j)) (m % 2 ^ 32) ≡ d % 2 ^ 32 → bit_and (seen narrow r j) m ≡ d
    joined j m d high low =
        let e : (d / 2 ^ 32) * 2 ^ 32 + d % 2 ^ 32 ≡ d = omega arith in
        halves_under j m
        ∙ ap (λ n. n * 2 ^ 32 + bit_and (slice_index r (4 + 2 * j)) (m % 2 ^ 32)) high
        ∙ ap (λ n. (d / 2 ^ 32) * 2 ^ 32 + n) low ∙ e

    pub whole : (j : ℕ) → bit_and (seen narrow r j) all_64_bits ≡ seen narrow r j
    whole j =
        let small = above_fits narrow (slice_index r (5 + 2 * j)) (rec.words (5 + 2 * j)) in
        and_mask (seen narrow r j) 64 ∙ (ap (λ n. n % 2 ^ 64) (halves_of j)
        ∙ (fits (slice_index r (4 + 2 * j)) (above narrow (slice_index r (5 + 2 * j))) (half_low j) small ∙ sym (halves_of j)))

  has_above_sound : (narrow : Bool) (j m d : ℕ) → HasAbove narrow known j m d → bit_and (above narrow (slice_index r (5 + 2 * j))) m ≡ d
  has_above_sound true j m d h = none_set m ∙ sym h
  has_above_sound false j m d h = entailed_is_true r rec known so (Bits (5 + 2 * j) m d) h

  lacks_above_sound : (narrow : Bool) (j m d : ℕ) → LacksAbove narrow known j m d → bit_and (above narrow (slice_index r (5 + 2 * j))) m ≢ d
  lacks_above_sound true j m d h = λ is. h (sym is ∙ none_set m)
  lacks_above_sound false j m d h = entailed_is_true r rec known so (NotBits (5 + 2 * j) m d) h

  -- the high half lies between the numbers at its ends, as it counts
  between_above : (narrow : Bool) (j low high : ℕ) → IsRangeAbove narrow known j low high
      → (low ≤ above narrow (slice_index r (5 + 2 * j))) × (above narrow (slice_index r (5 + 2 * j)) ≤ high)
  between_above true j low high h = (omega (arith, h.0), omega (arith, h.1))
  between_above false j low high h = h.between (slice_index r (5 + 2 * j)) (point (5 + 2 * j))

  module _ (narrow : Bool) where
    has_bits_sound : (j m d : ℕ) → HasBits narrow known j m d → bit_and (seen narrow r j) m ≡ d
    has_bits_sound j m d h =
        joined narrow j m d (has_above_sound narrow j (m / 2 ^ 32) (d / 2 ^ 32) h.0)
        (entailed_is_true r rec known so (Bits (4 + 2 * j) (m % 2 ^ 32) (d % 2 ^ 32)) h.1)

    lacks_bits_sound : (j m d : ℕ) → LacksBits narrow known j m d → bit_and (seen narrow r j) m ≢ d
    lacks_bits_sound j m d (inl h) = λ is. lacks_above_sound narrow j (m / 2 ^ 32) (d / 2 ^ 32) h (parts_of narrow j m d is).0
    lacks_bits_sound j m d (inr h) = λ is.
        entailed_is_true r rec known so (NotBits (4 + 2 * j) (m % 2 ^ 32) (d % 2 ^ 32)) h (parts_of narrow j m d is).1

    -- the argument lies between the numbers at both ends
    ends : (j : ℕ) (op : Op) (value : ℕ) (b : Bool) (h : AtBothEnds narrow known j op value b)
        → (h.low + 2 ^ 32 * h.low_above ≤ seen narrow r j) × (seen narrow r j ≤ h.high + 2 ^ 32 * h.high_above)
    ends j op value b h =
        let l = h.range.between (slice_index r (4 + 2 * j)) (point (4 + 2 * j)) in
        let k = between_above narrow j h.low_above h.high_above h.range_above in
        let is = halves_of narrow j in
        (omega (arith, l, k, is), omega (arith, l, k, is))

    ends_sound : (op : Op) (j value datum : ℕ) (b : Bool) → IsOrder op → AtBothEnds narrow known j op value b
        → compares op value datum (seen narrow r j) ≡ b
    ends_sound op j value datum b o h =
        let at = ends j op value b h in
        monotone op value datum (h.low + 2 ^ 32 * h.low_above) (seen narrow r j) (h.high + 2 ^ 32 * h.high_above) b o at.0 at.1
        h.at_low h.at_high

    -- an order that is yes, and one that is no
    order_yes : (op : Op) (j value datum : ℕ) → IsOrder op → AtBothEnds narrow known j op value true
        → Compares op value datum (seen narrow r j)
    order_yes op j value datum o h =
        (Decides-compares op value datum (seen narrow r j)).0 (ends_sound op j value datum true o h)

    order_no : (op : Op) (j value datum : ℕ) → IsOrder op → AtBothEnds narrow known j op value false
        → Compares op value datum (seen narrow r j) → ⊥
    order_no op j value datum o h =
        not_from_Decides _ (Decides-compares op value datum (seen narrow r j)) (ends_sound op j value datum false o h)

    yes_by : (op : Op) (j value datum : ℕ) → IsYesBy op narrow known j value datum → Compares op value datum (seen narrow r j)
    yes_by Ne j value datum h = λ e. lacks_bits_sound j all_64_bits value h (whole narrow j ∙ e)
    yes_by Eq j value datum h = sym (whole narrow j) ∙ has_bits_sound j all_64_bits value h
    yes_by MaskedEq j value datum h = has_bits_sound j value datum h
    yes_by Lt j value datum h = order_yes Lt j value datum tt h
    yes_by Le j value datum h = order_yes Le j value datum tt h
    yes_by Ge j value datum h = order_yes Ge j value datum tt h
    yes_by Gt j value datum h = order_yes Gt j value datum tt h

    no_by : (op : Op) (j value datum : ℕ) → IsNoBy op narrow known j value datum → Compares op value datum (seen narrow r j) → ⊥
    no_by Ne j value datum h = λ differ. differ (sym (whole narrow j) ∙ has_bits_sound j all_64_bits value h)
    no_by Eq j value datum h = λ e. lacks_bits_sound j all_64_bits value h (whole narrow j ∙ e)
    no_by MaskedEq j value datum h = lacks_bits_sound j value datum h
    no_by Lt j value datum h = order_no Lt j value datum tt h
    no_by Le j value datum h = order_no Le j value datum tt h
    no_by Ge j value datum h = order_no Ge j value datum tt h
    no_by Gt j value datum h = order_no Gt j value datum tt h

    -- a condition that is yes is met, and one that is no is not
    pub yes_condition : (c : Cond) → IsYes narrow known c → Meets c (seen narrow r c.index)
    yes_condition c h = yes_by c.op c.index c.value c.datum h

    no_condition : (c : Cond) → IsNo narrow known c → Meets c (seen narrow r c.index) → ⊥
    no_condition c h = no_by c.op c.index c.value c.datum h.0

  -- a word that is known whole
  pub word_is : (w n : ℕ) → Entails known (Bits w all_bits n) → slice_index r w ≡ n
  word_is w n h = sym (and_all (slice_index r w) (rec.words w)) ∙ entailed_is_true r rec known so (Bits w all_bits n) h

  word_is_not : (w n : ℕ) → Entails known (NotBits w all_bits n) → slice_index r w ≢ n
  word_is_not w n h = λ e. entailed_is_true r rec known so (NotBits w all_bits n) h (and_all (slice_index r w) (rec.words w) ∙ e)

  -- a rule of the record's machine has its conditions met as wide as the record's arguments are
  abbrev MetAsWide : ℕ → List Cond → Type 0
  MetAsWide token conds = All (λ c. Meets c (seen (is_narrow token) r c.index)) conds

  pub met_conditions : (rule : Rule) → Matches rule r → All (λ c. Meets c (seen (is_narrow_rule rule) r c.index)) rule.conds.items
  met_conditions rule m = subst (λ token. MetAsWide token rule.conds.items) m.machine m.conditions

  pub own_conditions : (rule : Rule) → word r 1 ≡ token_of rule.arch
      → All (λ c. Meets c (seen (is_narrow_rule rule) r c.index)) rule.conds.items
      → All (λ c. Meets c (argument_of r c.index)) rule.conds.items
  own_conditions rule machine met = subst (λ token. MetAsWide token rule.conds.items) (sym machine) met

  -- what is refuted does not match
  pub refuted_rule : (rule : Rule) → IsRefuted known rule → Matches rule r → ⊥
  refuted_rule rule (inl machine) m = word_is_not 1 (token_of rule.arch) machine m.machine
  refuted_rule rule (inr (inl number)) m = word_is_not 0 rule.nr number m.number
  refuted_rule rule (inr (inr (c, has, denied))) m =
      no_condition (is_narrow_rule rule) c denied
      (All-contains (λ d. Meets d (seen (is_narrow_rule rule) r d.index)) rule.conds.items c (met_conditions rule m) has)

  -- a record of a machine's token that is no call of a listed machine gets its verdict
  pub foreign_gets_zero : (policy : Policy) (v : ℕ) (arch : Arch) → Contains policy.machines arch → word r 1 ≡ token_of arch
      → ForeignNumbersAgree known v arch (foreign_numbers policy.machines arch) → (¬ IsNative policy r) → v ≡ 0
  foreign_gets_zero policy v arch listed machine (inl no_foreign) alien =
      elim (native_or_foreign policy.machines arch (word r 0) (rec.words 0) listed) [
        | inl its ↦ absurd (alien (subst (λ t. Any (HasCall t (word r 0)) policy.machines) (sym machine) its))
        | inr foreign ↦ absurd (none (word r 0) (subst (Any (IsWithin (word r 0))) no_foreign foreign))
      ]
  foreign_gets_zero policy v arch listed machine (inr (inl zero)) alien = zero
  foreign_gets_zero policy v arch listed machine (inr (inr (k, numbers, inside, at, among))) alien =
      let within = entailed_is_true r rec known so (In 0 numbers.first numbers.last) among in
      absurd (alien (listed.0, arch, listed.1, listed.2, (sym machine, (k, numbers, inside, at, within))))

  module _ (policy : Policy) (out : List ℕ) (met : List (ℕ × ℕ)) (v : ℕ) (clear : IsClear policy.rules) (h : Agrees policy out met known v)
      (gone : AreOut policy out r) (so_met : AreMet policy met r) where
    -- a rule that is yes matches
    yes_rule : (place : ℕ) (rule : Rule) → slice_get policy.rules place ≡ Some rule
        → word r 1 ≡ token_of rule.arch → IsYesRule met known place rule
        → Matches rule r
    yes_rule place rule stands machine holds = record {
      machine = machine;
      number = word_is 0 rule.nr holds.0;
      conditions = own_conditions rule machine (each_of (λ c. Meets c (seen (is_narrow_rule rule) r c.index)) rule.conds.items (λ c has.
          let its : slice_get rule.conds.items has.0 ≡ Some c = slice_get-get_or rule.conds.items has.0 c has.1 ∙ ap Some has.2 in
          elim (holds.1 has.0 c its) [
            | inl said ↦ so_met place has.0 rule c said stands its
            | inr settled ↦ yes_condition (is_narrow_rule rule) c settled
          ]));
    }

    -- one that is no does not
    no_rule : (place : ℕ) (rule : Rule) → IsNoRule met known place rule → Matches rule r → ⊥
    no_rule place rule (inl number, not_yes) m = word_is_not 0 rule.nr number m.number
    no_rule place rule (inr one, not_yes) m =
        let c = one.cond in
        no_condition (is_narrow_rule rule) c one.is_no
        (All-contains (λ d. Meets d (seen (is_narrow_rule rule) r d.index)) rule.conds.items c (met_conditions rule m)
        (contains_at rule.conds.items one.own c one.stands))

    -- a rule that matches has the verdict, where the record's machine agrees
    rule_agrees : (arch : Arch) (rule : Rule) → word r 1 ≡ token_of arch → Contains policy.rules rule → Matches rule r
        → RulesAgree policy out met known v arch → v ≡ rule.word
    rule_agrees arch rule machine has m (inl one) =
        sym one.word ∙ clear r rec one.rule rule (contains_at policy.rules one.place one.rule one.is_of.stands) has
        (yes_rule one.place one.rule one.is_of.stands (machine ∙ sym one.is_of.left.is_for) one.is_yes) m
    rule_agrees arch rule machine (place, within, at) m (inr none) =
        let stands : slice_get policy.rules place ≡ Some rule = slice_get-get_or policy.rules place rule within ∙ ap Some at in
        let left : IsLeft out arch place rule = record { not_out = λ is. gone place rule is stands m; is_for = sym m.machine ∙ machine } in
        elim (none.each place rule (record {
          stands = stands;
          left = left;
        })) [ inl denied ↦ absurd (no_rule place rule denied m) | inr e ↦ sym e ]

    -- where none matches, the default is the verdict
    default_agrees : (arch : Arch) → word r 1 ≡ token_of arch → All (λ rule. ¬ Matches rule r) policy.rules
        → RulesAgree policy out met known v arch
        → v ≡ policy.default_word
    default_agrees arch machine none (inl one) =
        absurd (All-contains (λ rule. ¬ Matches rule r) policy.rules one.rule none (contains_at policy.rules one.place one.rule one.is_of.stands)
        (yes_rule one.place one.rule one.is_of.stands (machine ∙ sym one.is_of.left.is_for) one.is_yes))
    default_agrees arch machine none (inr all) = sym all.default

    -- a listed machine whose token the record has agrees
    machine_agrees : (arch : Arch) → Contains policy.machines arch → word r 1 ≡ token_of arch → MachineAgrees policy out met known v arch
    machine_agrees arch listed machine =
        elim (All-contains (ListedAgrees policy out met known v) policy.machines arch h.machines listed) [
          | inl other ↦ absurd (word_is_not 1 (token_of arch) other machine)
          | inr agrees ↦ agrees
        ]

    -- where the number is one of the machine's own its rules agree
    rules_agree : (arch : Arch) → Contains policy.machines arch → word r 1 ≡ token_of arch → IsOwn arch (word r 0)
        → RulesAgree policy out met known v arch
    rules_agree arch listed machine own =
        elim (machine_agrees arch listed machine).rules [
          | inl (k, numbers, inside, at, among) ↦
              let within = entailed_is_true r rec known so (In 0 numbers.first numbers.last) among in
              absurd (own_not_other arch (word r 0) own (foreign_is_other policy.machines arch (word r 0) (k, numbers, inside, at, within)))
          | inr agrees ↦ agrees
        ]

    -- the record's machine
    own_machine : IsNative policy r → (arch : Arch) × Contains policy.machines arch × (word r 1 ≡ token_of arch) × IsOwn arch (word r 0)
    own_machine (k, arch, inside, at, has) = (arch, (k, inside, at), sym has.0, has.1)

    foreign_agrees : (¬ IsNative policy r) → v ≡ 0
    foreign_agrees alien = elim h.foreign [
      | inr zero ↦ zero
      | inl (arch, listed, token) ↦
          let machine : word r 1 ≡ token_of arch = word_is 1 (token_of arch) token in
          foreign_gets_zero policy v arch listed machine (machine_agrees arch listed machine).foreign alien
    ]

    -- what agrees is what the profile says
    pub agrees_sound : Says policy r v
    agrees_sound = record {
      foreign = foreign_agrees;
      matched = λ native rule has m.
          let at = own_machine native in
          rule_agrees at.0 rule at.2 has m (rules_agree at.0 at.1 at.2 at.3);
      unmatched = λ native none.
          let at = own_machine native in
          default_agrees at.0 at.2 none (rules_agree at.0 at.1 at.2 at.3);
    }
