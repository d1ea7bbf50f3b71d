-- Calls that are named, and such as stand for all others.
use Rattle.std.proofs.Common.{◌≡◌, ◌≢◌, ℕ, zero, suc, ◌<◌, ◌≤◌, ◌==◌, ◌&&◌, ◌||◌, ◌++◌, ◌^◌, inl, inr, true, false, List, [], ◌∷◌, get_or, refl, sym, ◌∙◌, ap, subst, arith}
use Rattle.std.specs.Prelude.{None, nat_le}
use Rattle.std.specs.List.{All, find, list_any}
use Rattle.std.proofs.lemmas.Bool.{and_parts, cases_Bool, cases_eq, cases_lt, eqb-true, ne_eqb, both_ways, le-leb, lt-leb}
use Rattle.std.proofs.lemmas.List.Elements.{All-head, All-tail}
use Rattle.call_record.specs.Words.{word, words_from}
use Rattle.call_record.proofs.RecordLemmas.{words_from-is_record}
use Rattle.machines.specs.declared.arch.Arch.{Arch}
use Rattle.machines.specs.declared.arch.Arch.TheVariants.{X86_64, Aarch64, LinuxX86_64, LinuxX86, LinuxX32, LinuxAarch64, LinuxArm, LinuxRiscv64, LinuxPpc64le, LinuxLoongarch64, LinuxS390x, LinuxS390}
use Rattle.machines.specs.declared.numbers.Numbers.{Numbers}
use Rattle.machines.specs.Arch.{token_of}
use Rattle.machines.specs.Machines.{aarch64_token, arm_token, loongarch64_token, ppc64le_token, riscv64_token, s390_token, s390x_token, x86_64_token, x86_token}
use Rattle.machines.specs.Numbers.{IsWithin, has_call, is_within, own_numbers}
use Rattle.profile.specs.declared.rules.Rule.{Rule}
use Rattle.profile.specs.Policy.{Policy, IsClear}
use Rattle.profile.specs.Said.{matches, said}
use Rattle.profile.proofs.SaidLaws.{each_record_is_said_one_verdict}
use Rattle.differ.specs.declared.direction.Direction.{Direction}
use Rattle.differ.specs.declared.direction.Direction.TheVariants.{Any, More, Less}
use Rattle.differ.specs.declared.named.Call.{Call}
use Rattle.differ.specs.Direction.{tells}
use Rattle.differ.specs.OnCall.{AreLikeOn, AreLikeOnCall, IsOfCall, is_for}
use Rattle.differ.specs.Named.{AreCovered, IsCovered, is_call, is_named, low_numbers, high_numbers, last_number}
use Rattle.differ.proofs.OpenLaws.{all_left, all_right, native_is, said_by, said_named}

-- ---- lists of calls

pub named_like : (P : ℕ → ℕ → Type 0) (list : List Call) (token nr : ℕ) → All (λ call. P call.token call.nr) list
    → is_named list token nr ≡ true → P token nr
named_like P [] token nr h named = absurd (both_ways false refl named)
named_like P (call ∷ list) token nr h named = elim (cases_Bool (is_call token nr call)) [
  | inl here ↦
      let parts = and_parts (token == call.token) (nr == call.nr) here in
      let t : token ≡ call.token = eqb-true token call.token parts.0 in
      let n : nr ≡ call.nr = eqb-true nr call.nr parts.1 in
      subst (λ x. P x nr) (sym t) (subst (λ y. P call.token y) (sym n) (All-head (λ c. P c.token c.nr) call list h))
  | inr other ↦
      let rest : is_named list token nr ≡ true = subst (λ b. (b || is_named list token nr) ≡ true) other named in
      named_like P list token nr (All-tail (λ c. P c.token c.nr) call list h) rest
]

pub covered_stays : (named old new : List Call) (token : ℕ) (numbers : Numbers)
    → ((t n : ℕ) → is_named old t n ≡ true → is_named new t n ≡ true) → IsCovered named old token numbers → IsCovered named new token numbers
covered_stays named old new token numbers stay covered = elim covered [
  | inl all ↦ inl all
  | inr one ↦ inr (one.0, one.1, one.2, stay token one.0 one.3)
]

pub all_covered_stay : (named old new : List Call) (token : ℕ) → ((t n : ℕ) → is_named old t n ≡ true → is_named new t n ≡ true)
    → AreCovered named old token → AreCovered named new token
all_covered_stay named old new token stay c = record {
  low = covered_stays named old new token low_numbers stay c.low;
  high = covered_stays named old new token high_numbers stay c.high;
  last = covered_stays named old new token last_number stay c.last;
}

-- ---- numbers of one kind

-- no bound of a machine's numbers lies between them
pub record AreOfKind (n m : ℕ) : Type 0 where
  from_0 : nat_le 0 n ≡ nat_le 0 m
  to_low : nat_le n 0x3fffffff ≡ nat_le m 0x3fffffff
  from_high : nat_le 0x40000000 n ≡ nat_le 0x40000000 m
  to_high : nat_le n 0xfffffffe ≡ nat_le m 0xfffffffe
  from_last : nat_le 0xffffffff n ≡ nat_le 0xffffffff m
  to_last : nat_le n 0xffffffff ≡ nat_le m 0xffffffff

both_le : (a b c d : ℕ) → a ≤ b → c ≤ d → nat_le a b ≡ nat_le c d
both_le a b c d x y = le-leb a b x ∙ sym (le-leb c d y)

both_gt : (a b c d : ℕ) → b < a → d < c → nat_le a b ≡ nat_le c d
both_gt a b c d x y = lt-leb a b x ∙ sym (lt-leb c d y)

pub kind_low : (n m : ℕ) → IsWithin n low_numbers → IsWithin m low_numbers → AreOfKind n m
kind_low n m a b =
    let n_le : n ≤ 0x3fffffff = a.1 in
    let m_le : m ≤ 0x3fffffff = b.1 in
    record {
      from_0 = both_le 0 n 0 m (omega arith) (omega arith);
      to_low = both_le n 0x3fffffff m 0x3fffffff n_le m_le;
      from_high = both_gt 0x40000000 n 0x40000000 m (omega arith) (omega arith);
      to_high = both_le n 0xfffffffe m 0xfffffffe (omega arith) (omega arith);
      from_last = both_gt 0xffffffff n 0xffffffff m (omega arith) (omega arith);
      to_last = both_le n 0xffffffff m 0xffffffff (omega arith) (omega arith);
    }

pub kind_high : (n m : ℕ) → IsWithin n high_numbers → IsWithin m high_numbers → AreOfKind n m
kind_high n m a b =
    let n_ge : 0x40000000 ≤ n = a.0 in
    let m_ge : 0x40000000 ≤ m = b.0 in
    let n_le : n ≤ 0xfffffffe = a.1 in
    let m_le : m ≤ 0xfffffffe = b.1 in
    record {
      from_0 = both_le 0 n 0 m (omega arith) (omega arith);
      to_low = both_gt n 0x3fffffff m 0x3fffffff (omega arith) (omega arith);
      from_high = both_le 0x40000000 n 0x40000000 m n_ge m_ge;
      to_high = both_le n 0xfffffffe m 0xfffffffe n_le m_le;
      from_last = both_gt 0xffffffff n 0xffffffff m (omega arith) (omega arith);
      to_last = both_le n 0xffffffff m 0xffffffff (omega arith) (omega arith);
    }

pub kind_last : (n m : ℕ) → IsWithin n last_number → IsWithin m last_number → AreOfKind n m
kind_last n m a b =
    let n_ge : 0xffffffff ≤ n = a.0 in
    let m_ge : 0xffffffff ≤ m = b.0 in
    let n_le : n ≤ 0xffffffff = a.1 in
    let m_le : m ≤ 0xffffffff = b.1 in
    record {
      from_0 = both_le 0 n 0 m (omega arith) (omega arith);
      to_low = both_gt n 0x3fffffff m 0x3fffffff (omega arith) (omega arith);
      from_high = both_le 0x40000000 n 0x40000000 m (omega arith) (omega arith);
      to_high = both_gt n 0xfffffffe m 0xfffffffe (omega arith) (omega arith);
      from_last = both_le 0xffffffff n 0xffffffff m n_ge m_ge;
      to_last = both_le n 0xffffffff m 0xffffffff n_le m_le;
    }

own_same : (n m : ℕ) → AreOfKind n m → (arch : Arch) → list_any (is_within n) (own_numbers arch) ≡ list_any (is_within m) (own_numbers arch)
own_same n m k X86_64 = rw (k.from_0, k.to_low) refl
own_same n m k Aarch64 = rw (k.from_0, k.to_last) refl
own_same n m k LinuxX86_64 = rw (k.from_0, k.to_low, k.from_last, k.to_last) refl
own_same n m k LinuxX86 = rw (k.from_0, k.to_last) refl
own_same n m k LinuxX32 = rw (k.from_high, k.to_high) refl
own_same n m k LinuxAarch64 = rw (k.from_0, k.to_last) refl
own_same n m k LinuxArm = rw (k.from_0, k.to_last) refl
own_same n m k LinuxRiscv64 = rw (k.from_0, k.to_last) refl
own_same n m k LinuxPpc64le = rw (k.from_0, k.to_last) refl
own_same n m k LinuxLoongarch64 = rw (k.from_0, k.to_last) refl
own_same n m k LinuxS390x = rw (k.from_0, k.to_last) refl
own_same n m k LinuxS390 = rw (k.from_0, k.to_last) refl

pub native_same : (token n m : ℕ) → AreOfKind n m → (machines : List Arch) → list_any (has_call token n) machines ≡ list_any (has_call token m) machines
native_same token n m k [] = refl
native_same token n m k (arch ∷ machines) =
    ap (λ b. ((token_of arch == token) && b) || list_any (has_call token n) machines) (own_same n m k arch)
    ∙ ap (λ b. has_call token m arch || b) (native_same token n m k machines)

-- ---- all records

like_of_kind : (p q : Policy) (direction : Direction) (token n m : ℕ) (r s : List ℕ) → IsClear p.rules → IsClear q.rules → AreOfKind n m
    → IsOfCall token n r → IsOfCall token m s → list_any (is_for token n) p.rules ≡ false → list_any (is_for token n) q.rules ≡ false
    → list_any (is_for token m) p.rules ≡ false → list_any (is_for token m) q.rules ≡ false
    → AreLikeOn p q direction s → AreLikeOn p q direction r
like_of_kind p q direction token n m r s clear_p clear_q kind of_r of_s pn qn pm qm like = λ v w one other.
    let first : said p r ≡ said p s =
    said_named p token n r of_r pn ∙ ap (λ b. said_by p b None) (native_same token n m kind p.machines) ∙ sym (said_named p token m s of_s pm) in
    let second : said q r ≡ said q s =
    said_named q token n r of_r qn ∙ ap (λ b. said_by q b None) (native_same token n m kind q.machines) ∙ sym (said_named q token m s of_s qm) in
    let v_is : v ≡ said p r = (each_record_is_said_one_verdict p r v clear_p of_r.is_record).0 one in
    let w_is : w ≡ said q r = (each_record_is_said_one_verdict q r w clear_q of_r.is_record).0 other in
    like v w ((each_record_is_said_one_verdict p s v clear_p of_s.is_record).1 (v_is ∙ first))
    ((each_record_is_said_one_verdict q s w clear_q of_s.is_record).1 (w_is ∙ second))

-- what is so of the profiles and the calls that are listed
pub record AreListed (p q : Policy) (named rest : List Call) : Type 0 where
  pub clear_p : IsClear p.rules
  pub clear_q : IsClear q.rules
  pub first : (t n : ℕ) → list_any (is_for t n) p.rules ≡ true → is_named named t n ≡ true
  pub second : (t n : ℕ) → list_any (is_for t n) q.rules ≡ true → is_named named t n ≡ true
  pub x86_64 : AreCovered named rest x86_64_token
  pub x86 : AreCovered named rest x86_token
  pub aarch64 : AreCovered named rest aarch64_token
  pub arm : AreCovered named rest arm_token
  pub riscv64 : AreCovered named rest riscv64_token
  pub ppc64le : AreCovered named rest ppc64le_token
  pub loongarch64 : AreCovered named rest loongarch64_token
  pub s390x : AreCovered named rest s390x_token
  pub s390 : AreCovered named rest s390_token

pub no_rule : (named : List Call) (rules : List Rule) (t n : ℕ) → ((t n : ℕ) → list_any (is_for t n) rules ≡ true → is_named named t n ≡ true)
    → is_named named t n ≡ false → list_any (is_for t n) rules ≡ false
no_rule named rules t n h unnamed = elim (cases_Bool (list_any (is_for t n) rules)) [
  | inl some ↦ absurd (both_ways (is_named named t n) unnamed (h t n some))
  | inr none ↦ none
]

below_zeros : (i : ℕ) → get_or (0 ∷ 0 ∷ 0 ∷ 0 ∷ 0 ∷ 0 ∷ []) i 0 < 2 ^ 64
below_zeros zero = omega arith
below_zeros (suc zero) = omega arith
below_zeros (suc (suc zero)) = omega arith
below_zeros (suc (suc (suc zero))) = omega arith
below_zeros (suc (suc (suc (suc zero)))) = omega arith
below_zeros (suc (suc (suc (suc (suc zero))))) = omega arith
below_zeros (suc (suc (suc (suc (suc (suc i)))))) = omega arith

pub sample_of : (token nr : ℕ) → token < 2 ^ 32 → nr < 2 ^ 32 → IsOfCall token nr (words_from nr token 0 (0 ∷ 0 ∷ 0 ∷ 0 ∷ 0 ∷ 0 ∷ []))
sample_of token nr t n = record {
  is_record = words_from-is_record nr token 0 (0 ∷ 0 ∷ 0 ∷ 0 ∷ 0 ∷ 0 ∷ []) n t (omega arith) refl below_zeros;
  machine = refl;
  number = refl;
}

by_cover : (p q : Policy) (named rest : List Call) (direction : Direction) (token n : ℕ) (numbers : Numbers) (r : List ℕ) → AreListed p q named rest
    → ((m : ℕ) → is_named rest token m ≡ true → AreLikeOnCall p q token m direction) → token < 2 ^ 32 → numbers.last < 2 ^ 32
    → ((m : ℕ) → IsWithin m numbers → AreOfKind n m) → IsWithin n numbers → is_named named token n ≡ false
    → IsCovered named rest token numbers → IsOfCall token n r → AreLikeOn p q direction r
by_cover p q named rest direction token n numbers r l like fits last kind within unnamed covered of = elim covered [
  | inl all ↦ absurd (both_ways (is_named named token n) unnamed (all n within))
  | inr one ↦
      let m = one.0 in
      let m_le : m ≤ numbers.last = one.1.1 in
      let of_s = sample_of token m fits (omega arith) in
      like_of_kind p q direction token n m r (words_from m token 0 (0 ∷ 0 ∷ 0 ∷ 0 ∷ 0 ∷ 0 ∷ [])) l.clear_p l.clear_q (kind m one.1) of of_s
      (no_rule named p.rules token n l.first unnamed) (no_rule named q.rules token n l.second unnamed)
      (no_rule named p.rules token m l.first one.2) (no_rule named q.rules token m l.second one.2)
      (like m one.3 (words_from m token 0 (0 ∷ 0 ∷ 0 ∷ 0 ∷ 0 ∷ 0 ∷ [])) of_s)
]

by_token : (p q : Policy) (named rest : List Call) (direction : Direction) (token n : ℕ) (r : List ℕ) → AreListed p q named rest
    → ((m : ℕ) → is_named rest token m ≡ true → AreLikeOnCall p q token m direction) → token < 2 ^ 32 → n < 2 ^ 32 → is_named named token n ≡ false
    → AreCovered named rest token → IsOfCall token n r → AreLikeOn p q direction r
by_token p q named rest direction token n r l like fits small unnamed covered of =
    elim (cases_lt n 0x40000000) [
      | inl low ↦
          by_cover p q named rest direction token n low_numbers r l like fits (omega arith) (λ m w. kind_low n m (omega arith, omega arith) w)
          (omega arith, omega arith) unnamed covered.low of
      | inr not_low ↦ elim (cases_lt n 0xffffffff) [
        | inl high ↦
            by_cover p q named rest direction token n high_numbers r l like fits (omega arith) (λ m w. kind_high n m (not_low, omega arith) w)
            (not_low, omega arith) unnamed covered.high of
        | inr last ↦
            by_cover p q named rest direction token n last_number r l like fits (omega arith) (λ m w. kind_last n m (last, omega arith) w)
            (last, omega arith) unnamed covered.last of
      ]
    ]

-- no machine has the token
pub no_machine : (token n : ℕ) → ((arch : Arch) → token ≢ token_of arch) → (arch : Arch) → has_call token n arch ≡ false
no_machine token n other arch =
    ap (λ t. t && list_any (is_within n) (own_numbers arch)) (ne_eqb (token_of arch) token (λ e. other arch (sym e)))

-- none of these tokens
pub no_token : (token : ℕ) → token ≢ x86_64_token → token ≢ x86_token → token ≢ aarch64_token → token ≢ arm_token → token ≢ riscv64_token
    → token ≢ ppc64le_token → token ≢ loongarch64_token → token ≢ s390x_token → token ≢ s390_token → (arch : Arch) → token ≢ token_of arch
no_token token a b c d e f g h i X86_64 = a
no_token token a b c d e f g h i Aarch64 = c
no_token token a b c d e f g h i LinuxX86_64 = a
no_token token a b c d e f g h i LinuxX86 = b
no_token token a b c d e f g h i LinuxX32 = a
no_token token a b c d e f g h i LinuxAarch64 = c
no_token token a b c d e f g h i LinuxArm = d
no_token token a b c d e f g h i LinuxRiscv64 = e
no_token token a b c d e f g h i LinuxPpc64le = f
no_token token a b c d e f g h i LinuxLoongarch64 = g
no_token token a b c d e f g h i LinuxS390x = h
no_token token a b c d e f g h i LinuxS390 = i

pub none_native : (token n : ℕ) → ((arch : Arch) → has_call token n arch ≡ false) → (machines : List Arch) → list_any (has_call token n) machines ≡ false
none_native token n h [] = refl
none_native token n h (arch ∷ machines) = ap (λ b. b || list_any (has_call token n) machines) (h arch) ∙ none_native token n h machines

never_unlike : (direction : Direction) → tells direction 0 0 ≡ false
never_unlike Any = refl
never_unlike More = refl
never_unlike Less = refl

pub said_foreign : (p : Policy) (token n : ℕ) (r : List ℕ) → IsOfCall token n r → list_any (has_call token n) p.machines ≡ false → said p r ≡ 0
said_foreign p token n r of none = ap (λ b. said_by p b (find (λ rule. matches rule r) p.rules)) (native_is p token n r of ∙ none)

by_none : (p q : Policy) (direction : Direction) (token n : ℕ) (r : List ℕ) → IsClear p.rules → IsClear q.rules → IsOfCall token n r
    → ((arch : Arch) → has_call token n arch ≡ false) → AreLikeOn p q direction r
by_none p q direction token n r clear_p clear_q of none = λ v w one other.
    let v_is : v ≡ 0 =
    (each_record_is_said_one_verdict p r v clear_p of.is_record).0 one ∙ said_foreign p token n r of (none_native token n none p.machines) in
    let w_is : w ≡ 0 =
    (each_record_is_said_one_verdict q r w clear_q of.is_record).0 other ∙ said_foreign q token n r of (none_native token n none q.machines) in
    ap (λ x. tells direction x w) v_is ∙ ap (λ x. tells direction 0 x) w_is ∙ never_unlike direction

pub by_machine : (p q : Policy) (named rest : List Call) (direction : Direction) (token n : ℕ) (r : List ℕ) → AreListed p q named rest
    → ((m : ℕ) → is_named rest token m ≡ true → AreLikeOnCall p q token m direction) → token < 2 ^ 32 → n < 2 ^ 32 → is_named named token n ≡ false
    → IsOfCall token n r → AreLikeOn p q direction r
by_machine p q named rest direction token n r l like fits small unnamed of =
    let go : (t : ℕ) → AreCovered named rest t → token ≡ t → AreLikeOn p q direction r = λ t covered is.
    by_token p q named rest direction token n r l like fits small unnamed (subst (λ x. AreCovered named rest x) (sym is) covered) of in
    elim (cases_eq token x86_64_token) [
      | inl is ↦ go x86_64_token l.x86_64 is
      | inr a ↦ elim (cases_eq token x86_token) [
        | inl is ↦ go x86_token l.x86 is
        | inr b ↦ elim (cases_eq token aarch64_token) [
          | inl is ↦ go aarch64_token l.aarch64 is
          | inr c ↦ elim (cases_eq token arm_token) [
            | inl is ↦ go arm_token l.arm is
            | inr d ↦ elim (cases_eq token riscv64_token) [
              | inl is ↦ go riscv64_token l.riscv64 is
              | inr e ↦ elim (cases_eq token ppc64le_token) [
                | inl is ↦ go ppc64le_token l.ppc64le is
                | inr f ↦ elim (cases_eq token loongarch64_token) [
                  | inl is ↦ go loongarch64_token l.loongarch64 is
                  | inr g ↦ elim (cases_eq token s390x_token) [
                    | inl is ↦ go s390x_token l.s390x is
                    | inr h ↦ elim (cases_eq token s390_token) [
                      | inl is ↦ go s390_token l.s390 is
                      | inr i ↦
                          by_none p q direction token n r l.clear_p l.clear_q of (no_machine token n (no_token token a b c d e f g h i))
                    ]
                  ]
                ]
              ]
            ]
          ]
        ]
      ]
    ]
