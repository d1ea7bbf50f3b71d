-- What is known at a return settles the verdict.
use Rattle.std.proofs.Common.{◌≡◌, ℕ, suc, zero, ◌^◌, ◌<◌, ◌≤◌, List, [], ◌∷◌, sym, refl, ap, subst, ◌∙◌, arith, inl, inr}
use Rattle.std.proofs.Common.{◌⊎◌, ⊎_elim, get_or, length}
use Rattle.std.specs.Prelude.{Contains, Some, replicate, slice_index}
use Rattle.std.specs.List.{All}
use Rattle.std.proofs.lemmas.List.{get_or-replicate, get_or_past}
use Rattle.std.proofs.lemmas.List.Elements.{All-contains, All-nil}
use Rattle.std.proofs.lemmas.Bool.{cases_eq, cases_lt}
use Rattle.call_record.specs.Words.{IsRecord, word}
use Rattle.machines.specs.declared.arch.Arch.{Arch}
use Rattle.machines.specs.declared.numbers.Numbers.{Numbers}
use Rattle.machines.specs.Arch.{token_of}
use Rattle.machines.specs.Numbers.{foreign_numbers, from_to, own_numbers}
use Rattle.machines.proofs.ArchLaws.{token_of-fits}
use Rattle.profile.specs.declared.conditions.Cond.{Cond}
use Rattle.profile.specs.declared.rules.Rule.{Rule}
use Rattle.profile.specs.Condition.{Meets as MeetsCond}
use Rattle.profile.specs.Rule.{argument_of, Matches}
use Rattle.profile.specs.Policy.{InOrder, Policy, IsNative}
use Rattle.cert_state.specs.declared.literal.Lit.{Lit}
use Rattle.cert_state.specs.declared.literal.Lit.TheVariants.{Bits, NotBits}
use Rattle.cert_state.specs.Literals.{all_bits, index_of, Meets, Holds}
use Rattle.cert_state.specs.Points.{IsPoint, IsRange}
use Rattle.cert_state.specs.Entailment.{Entails}
use Rattle.cert_state.proofs.BitLaws.{and_all}
use Rattle.cert_state.proofs.KnownLaws.{entailed_is_true}
use Rattle.cert_check.specs.Agree.{ForeignNumbersAgree, IsAmong, IsNoRule, IsRuleOf, IsYesRule, ListedAgrees, MachineAgrees, RulesAgree}
use Rattle.std.proofs.lemmas.Option.{slice_get-get_or}
use Rattle.cert_check.proofs.Elements.{contains_at, each_of}
use Rattle.rule_compile.specs.Shape.{AreSmallNative, IsPlainRule, call}
use Rattle.certify.specs.inner.Leaf.{IsForeign, IsOfCalls, IsOfOne, LeafAgrees, LieIn, SaysThere}
use Rattle.certify.proofs.ForeignLaws.{IsForeignNumber, IsNativeNumber, IsStretch, apart, either, foreign_same, in_one, low_is_native, stretch, within_stretch}
use Rattle.certify.proofs.FreeLaws.{point_between}
use Rattle.certify.proofs.PointFacts.{Asks, point_or_not, bounded, single}

-- one number, or the default verdict, or foreign numbers alone
abbrev OneOrRest : ℕ → ℕ → ℕ → ℕ → List Numbers → Type 0
OneOrRest lo hi default v foreign = (lo ≡ hi) ⊎ ((default ≡ v) ⊎ LieIn lo hi foreign)

-- a call of two words is a record
zeros_small : (i : ℕ) → slice_index (replicate 14 0) i < 2 ^ 32
zeros_small i = ⊎_elim
    (λ (l : i < 14). let e : slice_index (replicate 14 0) i ≡ 0 = get_or-replicate 14 i 0 0 l in omega (arith, e))
    (λ (g : 14 ≤ i). let e : slice_index (replicate 14 0) i ≡ 0 = get_or_past (replicate 14 0) i 0 g in omega (arith, e))
    (cases_lt i 14)

call_small : (t u : ℕ) → t < 2 ^ 32 → u < 2 ^ 32 → (i : ℕ) → slice_index (call t u) i < 2 ^ 32
call_small t u small_t small_u zero = small_u
call_small t u small_t small_u (suc zero) = small_t
call_small t u small_t small_u (suc (suc i)) = zeros_small i

pub call_is_record : (t u : ℕ) → t < 2 ^ 32 → u < 2 ^ 32 → IsRecord (call t u)
call_is_record t u small_t small_u = record { length_is = refl; words = call_small t u small_t small_u }

-- a word of a call is a point of what is known
holds_here : (known : List Lit) (t u : ℕ) (l : Lit) → IsOfCalls l → Asks 1 t l → Asks 0 u l → Holds l (call t u)
holds_here known t u l of at_t at_u = ⊎_elim
    (λ (e : index_of l ≡ 0). subst (λ w. Meets l (word (call t u) w)) (sym e) (at_u e of.0))
    (λ (ne : index_of l ≡ 0 → ⊥).
    let e : index_of l ≡ 1 = omega (arith, of.1, ne) in
    subst (λ w. Meets l (word (call t u) w)) (sym e) (at_t e of.0))
    (cases_eq (index_of l) 0)

pub holds_of_points : (known : List Lit) (t u : ℕ) → All IsOfCalls known → IsPoint known 1 t → IsPoint known 0 u
    → All (λ l. Holds l (call t u)) known
holds_of_points known t u of at_t at_u = λ k d lt. holds_here known t u (get_or known k d) (of k d lt) (at_t.1 k d lt) (at_u.1 k d lt)

module _ (policy : Policy) (known : List Lit) (v lo hi from to : ℕ) (order : InOrder policy.machines) (short : length known ≤ 512)
    (plain : All IsPlainRule policy.rules) (low_native : AreSmallNative policy.machines) (of : All IsOfCalls known)
    (says : SaysThere policy known v) (numbers : IsRange known 0 lo hi) (tokens : IsRange known 1 from to) where
  -- what is known of the number is so at each point
  number_is : (n u : ℕ) → Entails known (Bits 0 all_bits n) → IsPoint known 0 u → u ≡ n
  number_is n u h at =
      let small = at.0 in
      sym (and_all u small)
      ∙ entailed_is_true (call from u) (call_is_record from u tokens.least.0 small) known
      (holds_of_points known from u of tokens.least at) (Bits 0 all_bits n) h

  -- a call without conditions
  matches_call : (rule : Rule) (t u : ℕ) → Contains policy.rules rule → t ≡ token_of rule.arch → u ≡ rule.nr → Matches rule (call t u)
  matches_call rule t u has e f = record {
    machine = e;
    number = f;
    conditions = subst (λ cs. All (λ (c : Cond). MeetsCond c (argument_of (call t u) c.index)) cs)
        (sym (All-contains IsPlainRule policy.rules rule plain has).0) (All-nil _);
  }

  yes_rule : (place : ℕ) (rule : Rule) → Contains policy.rules rule → Entails known (Bits 0 all_bits rule.nr)
      → IsYesRule [] known place rule
  yes_rule place rule has h = (
    h,
    λ own c its. absurd (subst (λ cs. Contains cs c → ⊥) (sym (All-contains IsPlainRule policy.rules rule plain has).0)
        (λ none. omega (arith, none.1))
        (contains_at rule.conds.items own c its)),
  )

  abbrev IsNumberOf : Arch → ℕ → Rule → Type 0
  IsNumberOf arch n rule = (token_of rule.arch ≡ token_of arch) × (rule.nr ≡ n)

  -- an element of the rules is left, since none is out
  rule_of : (arch : Arch) (rule : Rule) → Contains policy.rules rule → token_of rule.arch ≡ token_of arch
      → (place : ℕ) × IsRuleOf policy [] arch place rule
  rule_of arch rule (place, within, at) is_for = (
    place,
    record {
      stands = slice_get-get_or policy.rules place rule within ∙ ap Some at;
      left = record { not_out = λ has. omega (arith, has.1); is_for = is_for };
    },
  )

  -- a number has a rule, or none
  rule_or_none : (arch : Arch) (n : ℕ) (rules : List Rule)
      → ((rule : Rule) × Contains rules rule × IsNumberOf arch n rule) ⊎ ((rule : Rule) → Contains rules rule → IsNumberOf arch n rule → ⊥)
  rule_or_none arch n [] = inr (λ rule has. λ _. omega (arith, has.1))
  rule_or_none arch n (rule ∷ rules) = ⊎_elim
      (λ (found : (r : Rule) × Contains rules r × IsNumberOf arch n r). inl
      (found.0, (suc found.1.0, omega (arith, found.1.1), found.1.2), found.2))
      (λ (none : (r : Rule) → Contains rules r → IsNumberOf arch n r → ⊥). ⊎_elim
      (λ (a : token_of rule.arch ≡ token_of arch). ⊎_elim
      (λ (b : rule.nr ≡ n). inl (rule, (0, omega arith, refl), (a, b)))
      (λ (nb : rule.nr ≡ n → ⊥). inr (first_is_not rule rules none (λ is. nb is.1)))
      (cases_eq rule.nr n))
      (λ (na : token_of rule.arch ≡ token_of arch → ⊥). inr (first_is_not rule rules none (λ is. na is.0)))
      (cases_eq (token_of rule.arch) (token_of arch)))
      (rule_or_none arch n rules)
    where
      first_is_not : (first : Rule) (rest : List Rule) → ((r : Rule) → Contains rest r → IsNumberOf arch n r → ⊥)
          → (IsNumberOf arch n first → ⊥)
          → (r : Rule) → Contains (first ∷ rest) r → IsNumberOf arch n r → ⊥
      first_is_not first rest none not r (zero, lt, is) m = not (subst (IsNumberOf arch n) (sym is) m)
      first_is_not first rest none not r (suc i, lt, is) m = none r (i, omega arith, is) m

  -- where no listed machine is possible the verdict is 0
  foreign_verdict : IsForeign policy known → v ≡ 0
  foreign_verdict none =
      (says from lo tokens.least numbers.least).foreign
      (λ native. none native.1 (native.0, native.2, native.3) (subst (IsPoint known 1) (sym native.4.0) tokens.least))

  all_foreign : IsForeign policy known → All (ListedAgrees policy [] [] known v) policy.machines
  all_foreign none = each_of (ListedAgrees policy [] [] known v) policy.machines (λ arch has. ⊎_elim
      (λ (at : IsPoint known 1 (token_of arch)). absurd (none arch has at))
      (λ (other : Entails known (NotBits 1 all_bits (token_of arch))). inl other)
      (point_or_not known 1 from to tokens (token_of arch) (token_of-fits arch)))

  -- numbers of one stretch are known to be among these
  all_among : (all : List Numbers) → LieIn lo hi all → IsAmong known all
  all_among all (k, each, inside, at, h) = (k, each, inside, at, bounded known 0 lo hi numbers each.first each.last h.0 h.1)

  -- the one machine that is possible
  module _ (arch : Arch) (listed : Contains policy.machines arch) (token : IsPoint known 1 (token_of arch)) where
    -- a call with a foreign number is not native
    foreign : (u : ℕ) → IsForeignNumber policy.machines arch u → IsNative policy (call (token_of arch) u) → ⊥
    foreign u other native = apart policy.machines order low_native arch listed u native other

    matched_verdict : (rule : Rule) (u : ℕ) → Contains policy.rules rule → token_of rule.arch ≡ token_of arch → rule.nr ≡ u → IsPoint known 0 u
        → IsNative policy (call (token_of arch) u)
        → rule.word ≡ v
    matched_verdict rule u has a e at own =
        sym ((says (token_of arch) u token at).matched own rule has (matches_call rule (token_of arch) u has (sym a) (sym e)))

    rule_is_small : (rule : Rule) → Contains policy.rules rule → rule.nr < 512
    rule_is_small rule has = (All-contains IsPlainRule policy.rules rule plain has).1

    -- a rule that does not say the verdict is known to be of another number
    none_or_verdict : (place : ℕ) (rule : Rule) → IsRuleOf policy [] arch place rule → (IsYesRule [] known place rule → ⊥)
        → IsNoRule [] known place rule ⊎ (rule.word ≡ v)
    none_or_verdict place rule is not_yes =
        let has = contains_at policy.rules place rule is.stands in
        let small = rule_is_small rule has in
        ⊎_elim
        (λ (at : IsPoint known 0 rule.nr). inr
        (matched_verdict rule rule.nr has is.left.is_for refl at (low_is_native policy.machines order low_native arch listed rule.nr (omega (arith, small)))))
        (λ (other : Entails known (NotBits 0 all_bits rule.nr)). inl (inl other, not_yes))
        (point_or_not known 0 lo hi numbers rule.nr (omega (arith, small)))

    -- several numbers
    several : lo < hi → policy.default_word ≡ v → RulesAgree policy [] [] known v arch
    several less default =
        let none : (place : ℕ) (rule : Rule) → IsRuleOf policy [] arch place rule → IsYesRule [] known place rule → ⊥ = λ place rule is yes.
        let p = number_is rule.nr lo yes.0 numbers.least in
        let q = number_is rule.nr hi yes.0 numbers.greatest in
        omega (arith, less, p, q) in
        inr (record { none_yes = none; default = default; each = λ place rule is. none_or_verdict place rule is (none place rule is) })

    -- one number of the machine's own
    one : lo ≡ hi → IsNative policy (call (token_of arch) lo) → RulesAgree policy [] [] known v arch
    one same own =
        let range : IsRange known 0 lo lo = subst (IsRange known 0 lo) (sym same) numbers in
        ⊎_elim
        (λ (found : (rule : Rule) × Contains policy.rules rule × IsNumberOf arch lo rule).
        let knows : Entails known (Bits 0 all_bits found.0.nr) =
        subst (λ n. Entails known (Bits 0 all_bits n)) (sym found.2.1) (single known 0 lo range) in
        let of = rule_of arch found.0 found.1 found.2.0 in
        inl (record {
          place = of.0;
          rule = found.0;
          is_of = of.1;
          is_yes = yes_rule of.0 found.0 found.1 knows;
          word = matched_verdict found.0 lo found.1 found.2.0 found.2.1 numbers.least own;
        }))
        (λ (none : (rule : Rule) → Contains policy.rules rule → IsNumberOf arch lo rule → ⊥).
        let not_yes : (place : ℕ) (rule : Rule) → IsRuleOf policy [] arch place rule → IsYesRule [] known place rule → ⊥ =
        λ place rule is yes.
        none rule (contains_at policy.rules place rule is.stands) (is.left.is_for, sym (number_is rule.nr lo yes.0 numbers.least)) in
        let default : policy.default_word ≡ v =
        sym ((says (token_of arch) lo token numbers.least).unmatched own
        (each_of (λ rule. ¬ Matches rule (call (token_of arch) lo)) policy.rules
        (λ rule has m. none rule has (sym m.machine, sym m.number)))) in
        inr (record { none_yes = not_yes; default = default; each = λ place rule is. none_or_verdict place rule is (not_yes place rule is) }))
        (rule_or_none arch lo policy.rules)

    -- where the verdict is not the default one, a number of the machine's own has a rule
    own_small : (policy.default_word ≡ v → ⊥) → (u : ℕ) → IsPoint known 0 u → IsNative policy (call (token_of arch) u) → u < 512
    own_small differ u at own = ⊎_elim
        (λ (found : (rule : Rule) × Contains policy.rules rule × IsNumberOf arch u rule).
        let small = rule_is_small found.0 found.1 in
        omega (arith, small, found.2.1))
        (λ (none : (rule : Rule) → Contains policy.rules rule → IsNumberOf arch u rule → ⊥).
        absurd (differ (sym ((says (token_of arch) u token at).unmatched own
        (each_of (λ rule. ¬ Matches rule (call (token_of arch) u)) policy.rules
        (λ rule has m. none rule has (sym m.machine, sym m.number)))))))
        (rule_or_none arch u policy.rules)

    -- the rules agree, or each number is foreign
    rules_agree : OneOrRest lo hi policy.default_word v (foreign_numbers policy.machines arch)
        → IsAmong known (foreign_numbers policy.machines arch) ⊎ RulesAgree policy [] [] known v arch
    rules_agree h =
        let upward = (numbers.between lo numbers.least).1 in
        let all = foreign_numbers policy.machines arch in
        ⊎_elim
        (λ (same : lo ≡ hi). ⊎_elim
        (λ (own : IsNativeNumber policy.machines arch lo). inr (one same own))
        (λ (other : IsForeignNumber policy.machines arch lo). inl
        (all_among all (in_one policy.machines order low_native arch listed lo hi other (subst (IsForeignNumber policy.machines arch) same other))))
        (either policy.machines order low_native arch listed lo numbers.least.0))
        (λ (differ : lo ≡ hi → ⊥). ⊎_elim
        (λ (same : lo ≡ hi). absurd (differ same))
        (λ (more : (policy.default_word ≡ v) ⊎ LieIn lo hi all). ⊎_elim
        (λ (default : policy.default_word ≡ v). inr (several (omega (arith, upward, differ)) default))
        (λ (others : LieIn lo hi all). inl (all_among all others))
        more)
        h)
        (cases_eq lo hi)

    -- where a foreign number is possible the verdict is 0
    other_verdict : (u : ℕ) → IsPoint known 0 u → IsForeignNumber policy.machines arch u → v ≡ 0
    other_verdict u at other = (says (token_of arch) u token at).foreign (foreign u other)

    -- where the greatest number is behind the foreign ones, the least is too, or one of the foreign ones is possible
    behind_verdict : (last : ℕ) → IsStretch policy.machines arch last → last < hi → (v ≡ 0) ⊎ IsAmong known (own_numbers arch)
    behind_verdict last s high =
        let top = numbers.greatest.0 in
        ⊎_elim
        (λ (low : lo < 0x40000000).
        let at = point_between known lo hi 0x40000000 numbers (omega (arith, low)) (omega (arith, short, high, s.least)) in
        inl (other_verdict at.0 at.3 (within_stretch policy.machines order low_native arch listed last at.0 s at.1 (omega
        (arith, at.2, short, s.least)))))
        (λ (from : 0x40000000 ≤ lo). ⊎_elim
        (λ (upto : lo < hi). inl (other_verdict lo numbers.least
        (within_stretch policy.machines order low_native arch listed last lo s from (omega (arith, upto, top, s.least)))))
        (λ (same : hi ≤ lo). ⊎_elim
        (λ (whole : last ≡ 0xffffffff). absurd (omega (arith, whole, high, top)))
        (λ (rest : s.rest ≡ from_to 0xffffffff 0xffffffff ∷ []). inr
        (subst (IsAmong known) (sym (s.own ∙ ap (λ all. from_to 0 0x3fffffff ∷ all) rest)) (
          1,
          from_to 0xffffffff 0xffffffff,
          omega arith,
          refl,
          bounded known 0 lo hi numbers 0xffffffff 0xffffffff
              (omega (arith, same, high, s.least)) (omega (arith, top)),
        )))
        s.behind)
        (cases_lt lo hi))
        (cases_lt lo 0x40000000)

    foreign_agrees : ForeignNumbersAgree known v arch (foreign_numbers policy.machines arch)
    foreign_agrees = ⊎_elim
        (λ (none : foreign_numbers policy.machines arch ≡ []). inl none)
        (λ (some : (last : ℕ) × IsStretch policy.machines arch last). inr (⊎_elim
        (λ (low : hi < 0x40000000). inr
        (subst (IsAmong known) (sym some.1.own)
        (0, from_to 0 0x3fffffff, omega arith, refl, bounded known 0 lo hi numbers 0 0x3fffffff (omega arith) (omega (arith, low)))))
        (λ (from : 0x40000000 ≤ hi). ⊎_elim
        (λ (behind : some.0 < hi). behind_verdict some.0 some.1 behind)
        (λ (upto : hi ≤ some.0). inl (other_verdict hi numbers.greatest
        (within_stretch policy.machines order low_native arch listed some.0 hi some.1 from upto)))
        (cases_lt some.0 hi))
        (cases_lt hi 0x40000000)))
        (stretch policy.machines order low_native arch listed)

    machine_agrees : OneOrRest lo hi policy.default_word v (foreign_numbers policy.machines arch) → MachineAgrees policy [] [] known v arch
    machine_agrees h = record { foreign = foreign_agrees; rules = rules_agree h }

  -- each listed machine agrees where the token is one machine's
  listed_agrees : (arch : Arch) → Contains policy.machines arch → IsRange known 1 (token_of arch) (token_of arch)
      → OneOrRest lo hi policy.default_word v (foreign_numbers policy.machines arch) → (a : Arch) → Contains policy.machines a → ListedAgrees policy [] [] known v a
  listed_agrees arch listed token h a has = ⊎_elim
      (λ (is : token_of arch ≡ token_of a). inr (machine_agrees a has
      (subst (IsPoint known 1) is token.least)
      (subst (OneOrRest lo hi policy.default_word v) (foreign_same policy.machines order arch a listed has is) h)))
      (λ (other : token_of arch ≡ token_of a → ⊥). ⊎_elim
      (λ (at : IsPoint known 1 (token_of a)).
      let p = token.between (token_of a) at in
      absurd (other (omega (arith, p))))
      (λ (not : Entails known (NotBits 1 all_bits (token_of a))). inl not)
      (point_or_not known 1 (token_of arch) (token_of arch) token (token_of a) (token_of-fits a)))
      (cases_eq (token_of arch) (token_of a))

pub leaf_agrees : LeafAgrees
leaf_agrees policy known v lo hi from to order short plain low_native of says numbers tokens h = ⊎_elim
    (λ (none : IsForeign policy known). record {
      foreign = inr (foreign_verdict policy known v lo hi from to order short plain low_native of says numbers tokens none);
      machines = all_foreign policy known v lo hi from to order short plain low_native of says numbers tokens none;
    })
    (λ (o : IsOfOne policy known v lo hi). record {
      foreign = inl (o.arch, o.listed, single known 1 (token_of o.arch) o.token);
      machines = each_of (ListedAgrees policy [] [] known v) policy.machines
          (listed_agrees policy known v lo hi from to order short plain low_native of says numbers tokens o.arch o.listed o.token o.numbers);
    })
    h

pub own_is_small : (policy : Policy) (known : List Lit) (v lo hi from to : ℕ) → InOrder policy.machines → length known ≤ 512
    → All IsPlainRule policy.rules → AreSmallNative policy.machines
    → All IsOfCalls known → SaysThere policy known v
    → IsRange known 0 lo hi → IsRange known 1 from to → (arch : Arch) → Contains policy.machines arch
    → IsRange known 1 (token_of arch) (token_of arch)
    → (policy.default_word ≡ v → ⊥) → (u : ℕ) → IsPoint known 0 u → IsNativeNumber policy.machines arch u → u < 512
own_is_small policy known v lo hi from to order short plain low_native of says numbers tokens arch listed token differ u at own =
    own_small policy known v lo hi from to order short plain low_native of says numbers tokens arch listed token.least differ u at own

-- a token that is ruled out is not possible
pub ruled_out : (known : List Lit) (t u : ℕ) → All IsOfCalls known → IsPoint known 0 u → Entails known (NotBits 1 all_bits t)
    → IsPoint known 1 t → ⊥
ruled_out known t u of at_u h at_t =
    entailed_is_true (call t u) (call_is_record t u at_t.0 at_u.0) known (holds_of_points known t u of at_t at_u)
    (NotBits 1 all_bits t) h (and_all t at_t.0)
