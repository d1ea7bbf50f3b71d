-- What is asked of the first number in each stretch is so of all of them.
use Rattle.std.proofs.Common.{◌≡◌, ◌↔◌, ℕ, ◌<◌, ◌≤◌, ◌⊎◌, inl, inr, List, [], ◌∷◌, refl, sym, subst, arith, slice_index_or}
use Rattle.std.specs.List.{All, Any}
use Rattle.std.proofs.lemmas.Bool.{cases_lt}
use Rattle.machines.specs.declared.arch.Arch.{Arch}
use Rattle.machines.specs.declared.arch.Arch.TheVariants.{X86_64, Aarch64, LinuxX86_64, LinuxX86, LinuxX32, LinuxAarch64, LinuxArm, LinuxRiscv64, LinuxPpc64le, LinuxLoongarch64, LinuxS390x, LinuxS390}
use Rattle.machines.specs.declared.numbers.Numbers.{Numbers}
use Rattle.machines.specs.Arch.{token_of}
use Rattle.machines.specs.Numbers.{HasCall, IsOwn, IsWithin, from_to}
use Rattle.profile.specs.declared.rules.Rule.{Rule}
use Rattle.profile.specs.Policy.{Policy}
use Rattle.rule_compile.proofs.RulesLaws.{any_cases, any_here, any_later, any_nil}
use Rattle.compare.specs.declared.behind_runc.stub.calls.Calls.{Calls}
use Rattle.compare.specs.Spared.{IsBeyond, IsNoCall, IsSpared, IsVacant}
use Rattle.compare.specs.inner.Spans.{AreBeyond, AreLeft, AreLeftIn, cut, spans}

-- ---- numbers that are of the same machines

abbrev IsLow : ℕ → Type 0
IsLow n = n < 0x40000000

abbrev IsMiddle : ℕ → Type 0
IsMiddle n = (0x40000000 ≤ n) × (n < 0xffffffff)

abbrev AreAlike : ℕ → ℕ → Type 0
AreAlike a b = (IsLow a × IsLow b) ⊎ ((IsMiddle a × IsMiddle b) ⊎ ((a ≡ 0xffffffff) × (b ≡ 0xffffffff)))

one : (n : ℕ) (x : Numbers) → Any (IsWithin n) (x ∷ []) → IsWithin n x
one n x h = elim (any_cases (IsWithin n) x [] h) [ inl here ↦ here | inr later ↦ absurd (any_nil (IsWithin n) later) ]

in_all : (n : ℕ) → n ≤ 0xffffffff → Any (IsWithin n) (from_to 0 0xffffffff ∷ [])
in_all n small = any_here (IsWithin n) (from_to 0 0xffffffff) [] (omega arith, small)

alike_small : (a b : ℕ) → AreAlike a b → b ≤ 0xffffffff
alike_small a b (inl low) = let below = low.1 in omega (arith, below)
alike_small a b (inr (inl middle)) = let below = middle.1.1 in omega (arith, below)
alike_small a b (inr (inr last)) = let same = last.1 in omega (arith, same)

-- the share of x86-64 with that of tracers, and the share of x32
outer : (a b : ℕ) → AreAlike a b → IsOwn LinuxX86_64 a → IsOwn LinuxX86_64 b
outer a b (inl low) own = let below = low.1 in
    any_here (IsWithin b) (from_to 0 0x3fffffff) (from_to 0xffffffff 0xffffffff ∷ []) (omega arith, omega (arith, below))
outer a b (inr (inl middle)) own =
    let from = middle.0.0 in
    let below = middle.0.1 in
    elim (any_cases (IsWithin a) (from_to 0 0x3fffffff) (from_to 0xffffffff 0xffffffff ∷ []) own) [
      | inl here ↦ let last = here.1 in absurd (omega (arith, from, last))
      | inr later ↦ let first = (one a (from_to 0xffffffff 0xffffffff) later).0 in absurd (omega (arith, below, first))
    ]
outer a b (inr (inr last)) own =
    let same = last.1 in
    any_later (IsWithin b) (from_to 0 0x3fffffff) (from_to 0xffffffff 0xffffffff ∷ [])
    (any_here (IsWithin b) (from_to 0xffffffff 0xffffffff) [] (omega (arith, same), omega (arith, same)))

inner : (a b : ℕ) → AreAlike a b → IsOwn LinuxX32 a → IsOwn LinuxX32 b
inner a b (inl low) own =
    let below = low.0 in
    let first = (one a (from_to 0x40000000 0xfffffffe) own).0 in
    absurd (omega (arith, below, first))
inner a b (inr (inl middle)) own =
    let from = middle.1.0 in
    let below = middle.1.1 in
    any_here (IsWithin b) (from_to 0x40000000 0xfffffffe) [] (omega (arith, from), omega (arith, below))
inner a b (inr (inr last)) own =
    let same = last.0 in
    let at = (one a (from_to 0x40000000 0xfffffffe) own).1 in
    absurd (omega (arith, same, at))

lower : (a b : ℕ) → AreAlike a b → IsOwn X86_64 a → IsOwn X86_64 b
lower a b (inl low) own =
    let below = low.1 in any_here (IsWithin b) (from_to 0 0x3fffffff) [] (omega arith, omega (arith, below))
lower a b (inr (inl middle)) own =
    let from = middle.0.0 in
    let last = (one a (from_to 0 0x3fffffff) own).1 in
    absurd (omega (arith, from, last))
lower a b (inr (inr last)) own =
    let same = last.0 in
    let at = (one a (from_to 0 0x3fffffff) own).1 in
    absurd (omega (arith, same, at))

own_alike : (arch : Arch) (a b : ℕ) → AreAlike a b → IsOwn arch a → IsOwn arch b
own_alike X86_64 a b alike own = lower a b alike own
own_alike Aarch64 a b alike own = in_all b (alike_small a b alike)
own_alike LinuxX86_64 a b alike own = outer a b alike own
own_alike LinuxX86 a b alike own = in_all b (alike_small a b alike)
own_alike LinuxX32 a b alike own = inner a b alike own
own_alike LinuxAarch64 a b alike own = in_all b (alike_small a b alike)
own_alike LinuxArm a b alike own = in_all b (alike_small a b alike)
own_alike LinuxRiscv64 a b alike own = in_all b (alike_small a b alike)
own_alike LinuxPpc64le a b alike own = in_all b (alike_small a b alike)
own_alike LinuxLoongarch64 a b alike own = in_all b (alike_small a b alike)
own_alike LinuxS390x a b alike own = in_all b (alike_small a b alike)
own_alike LinuxS390 a b alike own = in_all b (alike_small a b alike)

turned : (a b : ℕ) → AreAlike a b → AreAlike b a
turned a b (inl h) = inl (h.1, h.0)
turned a b (inr (inl h)) = inr (inl (h.1, h.0))
turned a b (inr (inr h)) = inr (inr (h.1, h.0))

-- ---- the stretches

abbrev no_calls : Numbers
no_calls = from_to 0x80000000 0xbfffffff

-- The numbers of a stretch are of the same machines. All or none of them are no call, and all or none of them are 0.
pub record AreEven (a b : ℕ) : Type 0 where
  pub alike : AreAlike a b
  pub calls : IsWithin a no_calls → IsWithin b no_calls
  pub zero : a ≡ 0 → b ≡ 0

abbrev IsEven : Numbers → Type 0
IsEven span = (a b : ℕ) → IsWithin a span → IsWithin b span → AreEven a b

even_zero : IsEven (from_to 0 0)
even_zero a b ha hb =
    let at = ha.1 in
    let bt = hb.1 in record {
      alike = inl (omega (arith, at), omega (arith, bt));
      calls = λ h. let from = h.0 in absurd (omega (arith, at, from));
      zero = λ _. omega (arith, bt);
    }

even_0 : IsEven (from_to 1 0x3fffffff)
even_0 a b ha hb =
    let af = ha.0 in
    let at = ha.1 in
    let bt = hb.1 in record {
      alike = inl (omega (arith, at), omega (arith, bt));
      calls = λ h. let from = h.0 in absurd (omega (arith, at, from));
      zero = λ z. absurd (omega (arith, af, z));
    }

even_1 : IsEven (from_to 0x40000000 0x7fffffff)
even_1 a b ha hb =
    let af = ha.0 in
    let at = ha.1 in
    let bf = hb.0 in
    let bt = hb.1 in record {
      alike = inr (inl ((af, omega (arith, at)), (bf, omega (arith, bt))));
      calls = λ h. let from = h.0 in absurd (omega (arith, at, from));
      zero = λ z. absurd (omega (arith, af, z));
    }

even_2 : IsEven (from_to 0x80000000 0xbfffffff)
even_2 a b ha hb =
    let af = ha.0 in
    let at = ha.1 in
    let bf = hb.0 in
    let bt = hb.1 in record {
      alike = inr (inl ((omega (arith, af), omega (arith, at)), (omega (arith, bf), omega (arith, bt))));
      calls = λ h. hb;
      zero = λ z. absurd (omega (arith, af, z));
    }

even_3 : IsEven (from_to 0xc0000000 0xfffffffe)
even_3 a b ha hb =
    let af = ha.0 in
    let at = ha.1 in
    let bf = hb.0 in
    let bt = hb.1 in record {
      alike = inr (inl ((omega (arith, af), omega (arith, at)), (omega (arith, bf), omega (arith, bt))));
      calls = λ h. let to = h.1 in absurd (omega (arith, af, to));
      zero = λ z. absurd (omega (arith, af, z));
    }

even_4 : IsEven (from_to 0xffffffff 0xffffffff)
even_4 a b ha hb =
    let af = ha.0 in
    let at = ha.1 in
    let bf = hb.0 in
    let bt = hb.1 in record {
      alike = inr (inr (omega (arith, af, at), omega (arith, bf, bt)));
      calls = λ h. let to = h.1 in absurd (omega (arith, af, to));
      zero = λ z. absurd (omega (arith, af, z));
    }

-- ---- what is spared of one stretch, and of all

some_of : {A : Type 0} (P Q : A → Type 0) → ((x : A) → P x → Q x) → (xs : List A) → Any P xs → Any Q xs
some_of P Q f xs (k, d, lt, at, h) = (k, d, lt, at, f d h)

module _ (p : Policy) (calls : Calls) where
  abbrev EachIsSpared : Type 0
  EachIsSpared = (nr : ℕ) → IsWithin nr calls.numbers → IsSpared p calls.token nr

  module _ (span : Numbers) (even : IsEven span) (h : AreLeftIn p calls span) (nr : ℕ) (inside : IsWithin nr calls.numbers)
      (here : IsWithin nr span) where
    abbrev first : ℕ
    first = (cut calls.numbers span).first

    before : first ≤ nr
    before = let a = inside.0 in let b = here.0 in omega (arith, a, b)

    behind : nr ≤ (cut calls.numbers span).last
    behind = let a = inside.1 in let b = here.1 in omega (arith, a, b)

    same : AreEven first nr
    same = even first nr (omega arith, (let b = here.1 in let c = before in omega (arith, b, c))) here

    is : AreLeft p calls.token (cut calls.numbers span)
    is = h.left (let a = before in let b = behind in omega (arith, a, b))

    beyond : (rule : Rule) → AreBeyond calls.token (cut calls.numbers span) rule → IsBeyond calls.token nr rule
    beyond rule b = record {
      other = λ token at. b.others token (subst (λ n. IsWithin n (cut calls.numbers span)) (sym at) (before, behind));
      above = λ has. elim (b.above (has.0, own_alike rule.arch nr first (turned first nr same.alike) has.1)) [
        | inl less ↦ let c = before in inl (omega (arith, less, c))
        | inr vacant ↦ inr (same.zero vacant.0, vacant.1)
      ];
    }

    pub spared_in : IsSpared p calls.token nr
    spared_in = record {
      listed = elim is.listed [
        | inl some ↦ inl (some_of (HasCall calls.token first) (HasCall calls.token nr)
            (λ arch has. (has.0, own_alike arch first nr same.alike has.1)) p.machines some)
        | inr none ↦ inr (none.0, same.calls none.1)
      ];
      beyond = λ k d lt. beyond (slice_index_or p.rules k d) (is.beyond k d lt);
    }

  pub spared_of : All (AreLeftIn p calls) spans → calls.numbers.last ≤ 0xffffffff → EachIsSpared
  spared_of all most nr inside =
      let small = inside.1 in
      elim (cases_lt nr 0x40000000) [
        | inl a ↦ elim (cases_lt nr 1) [
          | inl z ↦ spared_in (from_to 0 0) even_zero (all 0 (from_to 0 0) (omega arith)) nr inside (omega arith, omega (arith, z))
          | inr z ↦ spared_in (from_to 1 0x3fffffff) even_0 (all 1 (from_to 0 0) (omega arith)) nr inside
              (omega (arith, z), omega (arith, a))
        ]
        | inr a ↦ elim (cases_lt nr 0x80000000) [
          | inl b ↦ spared_in (from_to 0x40000000 0x7fffffff) even_1 (all 2 (from_to 0 0) (omega arith)) nr inside
              (omega (arith, a), omega (arith, b))
          | inr b ↦ elim (cases_lt nr 0xc0000000) [
            | inl c ↦ spared_in (from_to 0x80000000 0xbfffffff) even_2 (all 3 (from_to 0 0) (omega arith)) nr inside
                (omega (arith, b), omega (arith, c))
            | inr c ↦ elim (cases_lt nr 0xffffffff) [
              | inl d ↦ spared_in (from_to 0xc0000000 0xfffffffe) even_3 (all 4 (from_to 0 0) (omega arith)) nr inside
                  (omega (arith, c), omega (arith, d))
              | inr d ↦ spared_in (from_to 0xffffffff 0xffffffff) even_4 (all 5 (from_to 0 0) (omega arith)) nr inside
                  (omega (arith, d), omega (arith, small, most))
            ]
          ]
        ]
      ]

  from : EachIsSpared → (span : Numbers) → AreLeftIn p calls span
  from h span = record { left = by } where
    by : (cut calls.numbers span).first ≤ (cut calls.numbers span).last → AreLeft p calls.token (cut calls.numbers span)
    by some =
        let inside : IsWithin (cut calls.numbers span).first calls.numbers = (omega arith, omega (arith, some)) in
        let at = h (cut calls.numbers span).first inside in record {
          listed = at.listed;
          beyond = λ k d lt. record {
            others = λ token within.
                let f = within.0 in
                let t = within.1 in
                ((h (slice_index_or p.rules k d).nr (omega (arith, f), omega (arith, t))).beyond k d lt).other token refl;
            above = (at.beyond k d lt).above;
          };
        }

  pub of_spared : EachIsSpared → All (AreLeftIn p calls) spans
  of_spared h k d lt = from h (slice_index_or spans k d)
