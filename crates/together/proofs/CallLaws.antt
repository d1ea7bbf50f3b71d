-- Calls that are named, such as stand for all others, and one of no machine.
use Rattle.std.proofs.Common.{◌≡◌, ℕ, ◌<◌, ◌≤◌, ◌^◌, inl, inr, true, false, List, [], ◌∷◌, get_or, refl, sym, ◌∙◌, ap, subst, arith}
use Rattle.std.specs.Prelude.{None}
use Rattle.std.specs.List.{All}
use Rattle.std.proofs.lemmas.Bool.{both_ways, cases_Bool, cases_eq, cases_lt}
use Rattle.std.proofs.lemmas.List.Elements.{All-head, All-tail}
use Rattle.call_record.specs.Words.{word, words_from}
use Rattle.machines.specs.declared.arch.Arch.{Arch}
use Rattle.machines.specs.declared.numbers.Numbers.{Numbers}
use Rattle.machines.specs.Machines.{aarch64_token, arm_token, loongarch64_token, ppc64le_token, riscv64_token, s390_token, s390x_token, x86_64_token, x86_token}
use Rattle.machines.specs.Numbers.{IsWithin, has_call}
use Rattle.profile.specs.Policy.{Policy}
use Rattle.profile.specs.Said.{said}
use Rattle.differ.specs.OnCall.{IsOfCall}
use Rattle.differ.specs.Named.{AreCovered, IsCovered, is_named, low_numbers, high_numbers, last_number}
use Rattle.differ.specs.declared.named.Call.{Call}
use Rattle.differ.proofs.OpenLaws.{said_by, said_named}
use Rattle.differ.proofs.NamedLaws.{AreOfKind, kind_low, kind_high, kind_last, native_same, no_machine, no_rule, no_token, none_native, said_foreign, sample_of}
use Rattle.together.specs.declared.way.Way.{Way}
use Rattle.together.specs.OnCall.{AgreesOn, AgreesOnCall, Names}
use Rattle.together.specs.Together.{SaysTogether, each_said}
use Rattle.together.proofs.SaidLaws.{agree_moves}

-- what is so of the profiles and the calls that are listed
pub record AreListed (way : Way) (ps : List Policy) (q : Policy) (named rest : List Call) : Type 0 where
  pub each : All (Names named) ps
  pub own : Names named q
  pub x86_64 : AreCovered named rest x86_64_token
  pub x86 : AreCovered named rest x86_token
  pub aarch64 : AreCovered named rest aarch64_token
  pub arm : AreCovered named rest arm_token
  pub riscv64 : AreCovered named rest riscv64_token
  pub ppc64le : AreCovered named rest ppc64le_token
  pub loongarch64 : AreCovered named rest loongarch64_token
  pub s390x : AreCovered named rest s390x_token
  pub s390 : AreCovered named rest s390_token
  pub agree : (t n : ℕ) → is_named named t n ≡ true → AgreesOnCall way ps q t n
  pub agree_rest : (t n : ℕ) → is_named rest t n ≡ true → AgreesOnCall way ps q t n
  pub agree_foreign : AgreesOnCall way ps q 0 0

abbrev zeros : List ℕ
zeros = 0 ∷ 0 ∷ 0 ∷ 0 ∷ 0 ∷ 0 ∷ []

each_same : (ps : List Policy) (r s : List ℕ) → All (λ p. said p r ≡ said p s) ps → each_said ps r ≡ each_said ps s
each_same [] r s h = refl
each_same (p ∷ ps) r s h =
    ap (λ v. v ∷ each_said ps r) (All-head (λ x. said x r ≡ said x s) p ps h)
    ∙ ap (λ vs. said p s ∷ vs) (each_same ps r s (All-tail (λ x. said x r ≡ said x s) p ps h))

-- ---- calls of one kind

kind_same : (named : List Call) (token n m : ℕ) (p : Policy) (r s : List ℕ) → Names named p → AreOfKind n m → IsOfCall token n r
    → IsOfCall token m s → is_named named token n ≡ false → is_named named token m ≡ false → said p r ≡ said p s
kind_same named token n m p r s names kind of_r of_s free_n free_m =
    said_named p token n r of_r (no_rule named p.rules token n names free_n)
    ∙ ap (λ b. said_by p b None) (native_same token n m kind p.machines)
    ∙ sym (said_named p token m s of_s (no_rule named p.rules token m names free_m))

by_cover : (way : Way) (ps : List Policy) (q : Policy) (named rest : List Call) (token n : ℕ) (numbers : Numbers) (r : List ℕ)
    → AreListed way ps q named rest → token < 2 ^ 32 → numbers.last < 2 ^ 32 → ((m : ℕ) → IsWithin m numbers → AreOfKind n m)
    → IsWithin n numbers → is_named named token n ≡ false → IsCovered named rest token numbers → IsOfCall token n r → AgreesOn way ps q r
by_cover way ps q named rest token n numbers r l fits last kind within free covered of = elim covered [
  | inl all ↦ absurd (both_ways (is_named named token n) free (all n within))
  | inr one ↦
      let m = one.0 in
      let m_le : m ≤ numbers.last = one.1.1 in
      let s : List ℕ = words_from m token 0 zeros in
      let of_s : IsOfCall token m s = sample_of token m fits (omega arith) in
      agree_moves way ps q r s
      (each_same ps r s (λ k d lt. kind_same named token n m (get_or ps k d) r s (l.each k d lt) (kind m one.1) of of_s free one.2))
      (kind_same named token n m q r s l.own (kind m one.1) of of_s free one.2)
      (l.agree_rest token m one.3 s of_s)
]

by_token : (way : Way) (ps : List Policy) (q : Policy) (named rest : List Call) (token n : ℕ) (r : List ℕ) → AreListed way ps q named rest
    → token < 2 ^ 32 → n < 2 ^ 32 → is_named named token n ≡ false → AreCovered named rest token → IsOfCall token n r → AgreesOn way ps q r
by_token way ps q named rest token n r l fits small free covered of =
    elim (cases_lt n 0x40000000) [
      | inl low ↦
          by_cover way ps q named rest token n low_numbers r l fits (omega arith) (λ m w. kind_low n m (omega arith, omega arith) w)
          (omega arith, omega arith) free covered.low of
      | inr not_low ↦ elim (cases_lt n 0xffffffff) [
        | inl high ↦
            by_cover way ps q named rest token n high_numbers r l fits (omega arith) (λ m w. kind_high n m (not_low, omega arith) w)
            (not_low, omega arith) free covered.high of
        | inr last ↦
            by_cover way ps q named rest token n last_number r l fits (omega arith) (λ m w. kind_last n m (last, omega arith) w)
            (last, omega arith) free covered.last of
      ]
    ]

-- ---- calls of no machine

foreign_said : (p : Policy) (token n : ℕ) (r : List ℕ) → ((arch : Arch) → has_call token n arch ≡ false) → IsOfCall token n r → said p r ≡ 0
foreign_said p token n r none of = said_foreign p token n r of (none_native token n none p.machines)

zero_foreign : (arch : Arch) → has_call 0 0 arch ≡ false
zero_foreign arch =
    no_machine 0 0 (no_token 0 (λ e. omega arith) (λ e. omega arith) (λ e. omega arith) (λ e. omega arith) (λ e. omega arith) (λ e. omega arith)
    (λ e. omega arith) (λ e. omega arith) (λ e. omega arith)) arch

by_none : (way : Way) (ps : List Policy) (q : Policy) (named rest : List Call) (token n : ℕ) (r : List ℕ) → AreListed way ps q named rest
    → ((arch : Arch) → has_call token n arch ≡ false) → IsOfCall token n r → AgreesOn way ps q r
by_none way ps q named rest token n r l none of =
    let s : List ℕ = words_from 0 0 0 zeros in
    let of_s : IsOfCall 0 0 s = sample_of 0 0 (omega arith) (omega arith) in
    let same : (p : Policy) → said p r ≡ said p s = λ p. foreign_said p token n r none of ∙ sym (foreign_said p 0 0 s zero_foreign of_s) in
    agree_moves way ps q r s (each_same ps r s (λ k d lt. same (get_or ps k d))) (same q) (l.agree_foreign s of_s)

-- ---- all calls

by_machine : (way : Way) (ps : List Policy) (q : Policy) (named rest : List Call) (token n : ℕ) (r : List ℕ) → AreListed way ps q named rest
    → token < 2 ^ 32 → n < 2 ^ 32 → is_named named token n ≡ false → IsOfCall token n r → AgreesOn way ps q r
by_machine way ps q named rest token n r l fits small free of =
    let go : (t : ℕ) → AreCovered named rest t → token ≡ t → AgreesOn way ps q r = λ t covered is.
    by_token way ps q named rest token n r l fits small free (subst (λ x. AreCovered named rest x) (sym is) covered) of in
    elim (cases_eq token x86_64_token) [
      | inl is ↦ go x86_64_token l.x86_64 is
      | inr a ↦ elim (cases_eq token x86_token) [
        | inl is ↦ go x86_token l.x86 is
        | inr b ↦ elim (cases_eq token aarch64_token) [
          | inl is ↦ go aarch64_token l.aarch64 is
          | inr c ↦ elim (cases_eq token arm_token) [
            | inl is ↦ go arm_token l.arm is
            | inr d ↦ elim (cases_eq token riscv64_token) [
              | inl is ↦ go riscv64_token l.riscv64 is
              | inr e ↦ elim (cases_eq token ppc64le_token) [
                | inl is ↦ go ppc64le_token l.ppc64le is
                | inr f ↦ elim (cases_eq token loongarch64_token) [
                  | inl is ↦ go loongarch64_token l.loongarch64 is
                  | inr g ↦ elim (cases_eq token s390x_token) [
                    | inl is ↦ go s390x_token l.s390x is
                    | inr h ↦ elim (cases_eq token s390_token) [
                      | inl is ↦ go s390_token l.s390 is
                      | inr i ↦
                          by_none way ps q named rest token n r l (no_machine token n (no_token token a b c d e f g h i)) of
                    ]
                  ]
                ]
              ]
            ]
          ]
        ]
      ]
    ]

pub says_together : (way : Way) (ps : List Policy) (q : Policy) (named rest : List Call) → AreListed way ps q named rest → SaysTogether way ps q
says_together way ps q named rest l = λ r is.
    let token = word r 1 in
    let n = word r 0 in
    let of : IsOfCall token n r = record { is_record = is; machine = refl; number = refl } in
    elim (cases_Bool (is_named named token n)) [
      | inl known ↦ l.agree token n known r of
      | inr free ↦ by_machine way ps q named rest token n r l (is.words 1) (is.words 0) free of
    ]
