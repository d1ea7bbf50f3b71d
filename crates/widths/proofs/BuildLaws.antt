-- Narrowed rules build a profile wherever the rules did, unless they are too many.
use Rattle.std.proofs.Common.{◌≡◌, ◌≢◌, ℕ, zero, suc, ◌%◌, ◌^◌, ◌<◌, ◌≤◌, List, [], ◌∷◌, ◌++◌, length, length-append, get_or, Some, refl, sym, ◌∙◌, ap, subst, arith}
use Rattle.std.specs.Prelude.{◌↔◌, slice_get}
use Rattle.std.specs.List.{All, Contains}
use Rattle.std.proofs.lemmas.List.Elements.{All-contains}
use Rattle.std.proofs.lemmas.Nat.{div-add-mod'}
use Rattle.std.proofs.lemmas.Option.{slice_get_within, get_or_from_slice_get}
use Rattle.call_record.specs.Words.{IsRecord, word, argument, words_from}
use Rattle.call_record.proofs.RecordLemmas.{argument-words_from, words_from-is_record}
use Rattle.widths.specs.Reads.{read_bits}
use Rattle.machines.specs.declared.arch.Arch.{Arch}
use Rattle.machines.specs.Arch.{family_of, AreOfFamily}
use Rattle.profile.specs.declared.rules.Rule.{Rule}
use Rattle.profile.specs.Rule.{Matches, Clash}
use Rattle.profile.specs.Policy.{Policy, IsProfile, InOrder}
use Rattle.profile.specs.declared.fault.BuildError.{BuildError}
use Rattle.profile.specs.declared.fault.BuildError.TheVariants.{NativeMissing, MixedFamilies, ForeignRule, Overlap, TooMany, OutOfMemory}
use Rattle.profile.specs.Build.{IsBuiltOf, IsFirstCause, IsFirstForeign, IsFirstClash, ClashAt, KeepsOnce}
use Rattle.profile.specs.Build as build
use Rattle.widths.specs.Counts.{IsCutCause}
use Rattle.widths.specs.declared.narrowing.fault.CutError.{CutError}
use Rattle.widths.specs.inner.Sizes.{IsSize, cut_cause}
use Rattle.profile.proofs.KeptLaws.{kept_in, in_kept}
use Rattle.profile.proofs.OneBuilt.{one_order}
use Rattle.profile.proofs.MachineLaws.{family_in}
use Rattle.widths.specs.Alike.{read_of, Alike, IsCleared, IsNarrowed}
use Rattle.widths.specs.Narrowed.{Has, Answers, AreNarrowed}
use Rattle.widths.proofs.CutLaws.{all_from}
use Rattle.widths.proofs.WidthLaws.{argument_fits}
use Rattle.widths.proofs.PolicyLaws.{narrowed_profile, same_narrowed}

-- ---- the record with the bits at 0 that are not read

abbrev reads : List ℕ → List ℕ
reads r = read_of r 0 ∷ read_of r 1 ∷ read_of r 2 ∷ read_of r 3 ∷ read_of r 4 ∷ read_of r 5 ∷ []

abbrev pub cleared : List ℕ → List ℕ
cleared r = words_from (word r 0) (word r 1) 0 (reads r)

read_fits : (r : List ℕ) (j : ℕ) → IsRecord r → read_of r j < 2 ^ 64
read_fits r j is =
    let fits = argument_fits r j is in
    let split = div-add-mod' (argument r j) (2 ^ read_bits (word r 1) (word r 0) j) in
    omega (arith, fits, split)

reads_fit : (r : List ℕ) → IsRecord r → (i : ℕ) → get_or (reads r) i 0 < 2 ^ 64
reads_fit r is zero = read_fits r 0 is
reads_fit r is (suc zero) = read_fits r 1 is
reads_fit r is (suc (suc zero)) = read_fits r 2 is
reads_fit r is (suc (suc (suc zero))) = read_fits r 3 is
reads_fit r is (suc (suc (suc (suc zero)))) = read_fits r 4 is
reads_fit r is (suc (suc (suc (suc (suc zero))))) = read_fits r 5 is
reads_fit r is (suc (suc (suc (suc (suc (suc i)))))) = omega arith

reads_at : (r : List ℕ) (j : ℕ) → j < 6 → get_or (reads r) j 0 ≡ read_of r j
reads_at r zero lt = refl
reads_at r (suc zero) lt = refl
reads_at r (suc (suc zero)) lt = refl
reads_at r (suc (suc (suc zero))) lt = refl
reads_at r (suc (suc (suc (suc zero)))) lt = refl
reads_at r (suc (suc (suc (suc (suc zero))))) lt = refl
reads_at r (suc (suc (suc (suc (suc (suc i)))))) lt = absurd (omega (arith, lt))

pub cleared_record : (r : List ℕ) → IsRecord r → IsRecord (cleared r)
cleared_record r is =
    words_from-is_record (word r 0) (word r 1) 0 (reads r) (is.words 0) (is.words 1) (omega arith) refl (reads_fit r is)

pub cleared_is : (r : List ℕ) → IsCleared r (cleared r)
cleared_is r = record {
  machine = refl;
  number = refl;
  arguments = λ j lt. argument-words_from (word r 0) (word r 1) 0 (reads r) j ∙ reads_at r j lt;
}

-- ---- what is built

at_place : (rules : List Rule) (i : ℕ) (x : Rule) → slice_get rules i ≡ Some x → Contains rules x
at_place rules i x e = (i, slice_get_within rules i x e, get_or_from_slice_get rules i x x e)

module _ (p : Policy) (is : IsProfile p) (rules : List Rule) (narrowed : AreNarrowed p.rules rules) where
  pub built : (q : Policy) → IsBuiltOf p.native p.machines p.default_word rules q → IsNarrowed p q
  built q b =
      let machines : q.machines ≡ p.machines =
      one_order q.machines p.machines b.is_profile.machines_in_order is.machines_in_order b.machines_listed
      (λ a has. All-contains (Contains q.machines) p.machines a b.machines_all has) in
      narrowed_profile p q machines b.default_is
      (same_narrowed p.rules rules q.rules narrowed
      (all_from (Contains q.rules) rules (in_kept rules q.rules b.rules_kept))
      (all_from (Contains rules) q.rules (kept_in rules q.rules b.rules_kept)))

  pub no_native : ¬ Contains p.machines p.native → ⊥
  no_native h = h is.native_listed

  pub no_mixed : ¬ AreOfFamily (family_of p.native) p.machines → ⊥
  no_mixed h =
      let (family, order) = is.machines_in_order in
      let all : AreOfFamily family p.machines = family_in family p.machines p.machines order in
      let own : family_of p.native ≡ family = All-contains (λ a. family_of a ≡ family) p.machines p.native all is.native_listed in
      h (subst (λ f. AreOfFamily f p.machines) (sym own) all)

  pub no_foreign : (i : ℕ) → IsFirstForeign p.machines rules i → ⊥
  no_foreign i f =
      let has = at_place rules i f.rule f.at in
      let (x, in-p, same) = All-contains (λ (q : Rule). Has (λ (y : Rule). y.arch ≡ q.arch) p.rules) rules f.rule narrowed.machines has in
      f.foreign (subst (Contains p.machines) same (All-contains (λ (y : Rule). Contains p.machines y.arch) p.rules x is.rules_listed in-p))

  no_clash : (a b : Rule) → Contains rules a → Contains rules b → Clash a b → ⊥
  no_clash a b in-a in-b (unlike, (r, is-r, ma, mb)) =
      let one = (narrowed.answers r (cleared r) is-r (cleared_record r is-r) (cleared_is r) a.word).0 (a, in-a, (refl, ma)) in
      let two = (narrowed.answers r (cleared r) is-r (cleared_record r is-r) (cleared_is r) b.word).0 (b, in-b, (refl, mb)) in
      let (x, in-x, (wx, mx)) = one in
      let (y, in-y, (wy, my)) = two in
      unlike (sym wx ∙ is.clear (cleared r) (cleared_record r is-r) x y in-x in-y mx my ∙ wy)

  pub no_overlap : (i j : ℕ) → IsFirstClash rules i j → ⊥
  no_overlap i j c =
      let (lt, a, b, at-a, at-b, clash) = c.clash in
      no_clash a b (at_place rules i a at-a) (at_place rules j b at-b) clash

  pub only_sizes : (native : Arch) (archs : List Arch) → native ≡ p.native → archs ≡ p.machines → (e : BuildError)
      → IsFirstCause native archs rules e → IsSize e
  only_sizes native archs n m TooMany h = tt
  only_sizes native archs n m OutOfMemory h = tt
  only_sizes native archs n m NativeMissing h =
      no_native (subst (λ (x : Arch). ¬ Contains p.machines x) n (subst (λ (xs : List Arch). ¬ Contains xs native) m h))
  only_sizes native archs n m MixedFamilies h =
      no_mixed (subst (λ (x : Arch). ¬ AreOfFamily (family_of x) p.machines) n (subst (λ (xs : List Arch). ¬ AreOfFamily (family_of native) xs) m h.1))
  only_sizes native archs n m (ForeignRule i) h = no_foreign i (subst (λ (xs : List Arch). IsFirstForeign xs rules i) m h.1)
  only_sizes native archs n m (Overlap i j) h = no_overlap i j h.3

  pub built_of : (native : Arch) (archs : List Arch) (default : ℕ) (q : Policy) → native ≡ p.native → archs ≡ p.machines
      → default ≡ p.default_word → IsBuiltOf native archs default rules q → IsNarrowed p q
  built_of native archs default q n m d b =
      built q (subst (λ (x : Arch). IsBuiltOf x p.machines p.default_word rules q) n
      (subst (λ (xs : List Arch). IsBuiltOf native xs p.default_word rules q) m
      (subst (λ (w : ℕ). IsBuiltOf native archs w rules q) d b)))

-- ---- why none is built

kept_short : (rules kept : List Rule) → KeepsOnce rules kept → length kept ≤ length rules
kept_short _ _ build.none = omega arith
kept_short _ _ (build.first rules kept rule h new) =
    let before = kept_short rules kept h in
    let one = length-append rules (rule ∷ []) in
    let two = length-append kept (rule ∷ []) in
    omega (arith, before, one, two)
kept_short _ _ (build.again rules kept rule h has) =
    let before = kept_short rules kept h in
    let one = length-append rules (rule ∷ []) in
    omega (arith, before, one)

pub too_many_kept : (native : Arch) (archs : List Arch) (rules : List Rule) (most : ℕ) (e : BuildError) (r : CutError)
    → length rules ≤ most → IsFirstCause native archs rules e → r ≡ cut_cause e → IsCutCause most r
too_many_kept native archs rules most TooMany r few (_, _, (kept, keeps, many)) is =
    let short = kept_short rules kept keeps in
    subst (IsCutCause most) (sym is) (omega (arith, few, short, many))
too_many_kept native archs rules most OutOfMemory r few h is = subst (IsCutCause most) (sym is) tt
too_many_kept native archs rules most NativeMissing r few h is = subst (IsCutCause most) (sym is) tt
too_many_kept native archs rules most MixedFamilies r few h is = subst (IsCutCause most) (sym is) tt
too_many_kept native archs rules most (ForeignRule i) r few h is = subst (IsCutCause most) (sym is) tt
too_many_kept native archs rules most (Overlap i j) r few h is = subst (IsCutCause most) (sym is) tt
