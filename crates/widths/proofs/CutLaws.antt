-- Lists of conditions of which each is one part of each condition.
use Rattle.std.proofs.Common.{◌≡◌, ℕ, zero, suc, ◌<◌, ◌≤◌, ◌⊎◌, inl, inr, List, [], ◌∷◌, ◌++◌, length, get_or, map, take, refl, sym, ◌∙◌, ap, subst, arith}
use Rattle.std.specs.Prelude.{◌↔◌, slice_index}
use Rattle.std.specs.List.{All, Contains, flat_map}
use Rattle.std.proofs.lemmas.Bool.{cases_lt}
use Rattle.std.proofs.lemmas.List.{map-append}
use Rattle.std.proofs.lemmas.List.Elements.{All-nil, All-cons, All-append, All-push, All-contains, All-head, All-tail, Contains-get_or, Contains-append_left, Contains-append_cases, Contains-push, Contains-push_cases}
use Rattle.profile.specs.declared.conditions.Cond.{Cond}
use Rattle.profile.specs.Condition.{Meets}
use Rattle.widths.specs.Narrowed.{Has}
use Rattle.widths.specs.Parts.{cut, IsLow, AreParts}
use Rattle.widths.specs.Cutting.{Hold, HoldCut, with_each, extended, IsPartOf, IsPart, AreCombined}
use Rattle.widths.specs.Counts.{most_lists, most_parts}
use Rattle.widths.proofs.CountLaws.{extended_few, one_more_list}
use Rattle.widths.proofs.HasLaws.{Has-left, Has-right, Has-cases, Has-nil, Has-one, one-Has, Has-like, Has-map, map-Has}

pub all_from : {A : Type 0} (P : A → Type 0) (xs : List A) → ((x : A) → Contains xs x → P x) → All P xs
all_from P xs f k d lt = f (get_or xs k d) (Contains-get_or xs k d lt)

All-pushed : {A : Type 0} (P : A → Type 0) (xs : List A) (x : A) → All P (xs ++ x ∷ []) → All P xs × P x
All-pushed P xs x all = (
  all_from P xs (λ y has. All-contains P (xs ++ x ∷ []) y all (Contains-append_left xs (x ∷ []) y has)),
  All-contains P (xs ++ x ∷ []) x all (Contains-push xs x),
)

-- ---- lists with one more condition

module _ (a : ℕ → ℕ) (parts : List Cond) where
  abbrev Met : Cond → Type 0
  Met d = Meets d (a d.index)

  each_met : (cs : List Cond) → Has (Hold a) (with_each parts cs) ↔ (Hold a cs × Has Met parts)
  each_met cs = (
    λ h. let (d, has, all) = map-Has (Hold a) (λ (e : Cond). cs ++ e ∷ []) parts h in
        let two = All-pushed Met cs d all in (two.0, (d, has, two.1)),
    λ (all, (d, has, m)). Has-map (Hold a) (λ (e : Cond). cs ++ e ∷ []) parts (d, has, All-push Met cs d all m),
  )

  pub extended_met : (css : List (List Cond)) → Has (Hold a) (extended parts css) ↔ (Has (Hold a) css × Has Met parts)
  extended_met [] = (λ h. absurd (Has-nil (Hold a) h), λ (h, m). absurd (Has-nil (Hold a) h))
  extended_met (cs ∷ css) =
      let here = each_met cs in
      let later = extended_met css in (
        λ h. elim (Has-cases (Hold a) (with_each parts cs) (extended parts css) h) [
          | inl first ↦ let two = here.0 first in (Has-left (Hold a) (cs ∷ []) css (Has-one (Hold a) cs two.0), two.1)
          | inr rest ↦ let two = later.0 rest in (Has-right (Hold a) (cs ∷ []) css two.0, two.1)
        ],
        λ (h, m). elim (Has-cases (Hold a) (cs ∷ []) css h) [
          | inl first ↦ Has-left (Hold a) (with_each parts cs) (extended parts css) (here.1 (one-Has (Hold a) cs first, m))
          | inr rest ↦ Has-right (Hold a) (with_each parts cs) (extended parts css) (later.1 (rest, m))
        ],
      )

each_all : (P : List Cond → Type 0) (parts cs : List Cond) → ((d : Cond) → Contains parts d → P (cs ++ d ∷ [])) → All P (with_each parts cs)
each_all P [] cs f = All-nil P
each_all P (d ∷ ds) cs f =
    All-cons P (cs ++ d ∷ []) (with_each ds cs) (f d (0, omega arith, refl))
    (each_all P ds cs (λ e (k, lt, at). f e (suc k, omega (arith, lt), at)))

extended_all : (P : List Cond → Type 0) (parts : List Cond) (css : List (List Cond))
    → ((cs : List Cond) (d : Cond) → Contains css cs → Contains parts d → P (cs ++ d ∷ [])) → All P (extended parts css)
extended_all P parts [] f = All-nil P
extended_all P parts (cs ∷ css) f =
    All-append P (with_each parts cs) (extended parts css)
    (each_all P parts cs (λ d. f cs d (0, omega arith, refl)))
    (extended_all P parts css (λ ds d (k, lt, at). f ds d (suc k, omega (arith, lt), at)))

-- ---- all conditions

pub combined_none : (plan : List ℕ) → AreCombined plan [] ([] ∷ [])
combined_none plan = record {
  meets = λ a. (
    λ _. All-nil (λ c. Meets c (cut (slice_index plan c.index) (a c.index))),
    λ _. Has-one (Hold a) [] (All-nil (λ c. Meets c (a c.index))),
  );
  indexes = All-cons (λ ds. map (λ d. d.index) ds ≡ []) [] [] refl (All-nil (λ ds. map (λ d. d.index) ds ≡ []));
  parts = All-cons (All (IsPart plan [])) [] [] (All-nil (IsPart plan [])) (All-nil (All (IsPart plan [])));
  few = omega arith;
}

module _ (plan : List ℕ) (cs : List Cond) (css : List (List Cond)) (c : Cond) (ds : List Cond)
    (before : AreCombined plan cs css) (its : AreParts (slice_index plan c.index) c ds) where
  abbrev bits : ℕ
  bits = slice_index plan c.index

  at_index : (d : Cond) → Contains ds d → d.index ≡ c.index
  at_index d has = All-contains (λ e. e.index ≡ c.index) ds d its.index has

  more_met : (a : ℕ → ℕ) → Has (Hold a) (extended ds css) ↔ HoldCut plan a (cs ++ c ∷ [])
  more_met a =
      let M : Cond → Type 0 = λ e. Meets e (cut (slice_index plan e.index) (a e.index)) in
      let both = extended_met a ds css in
      let old = before.meets a in
      let new = its.meets (a c.index) in (
        λ h. let two = both.0 h in
            let there : Has (λ d. Meets d (a c.index)) ds =
            Has-like (λ d. Meets d (a d.index)) (λ d. Meets d (a c.index)) ds (λ d has m. subst (λ i. Meets d (a i)) (at_index d has) m) two.1 in
            All-push M cs c (old.0 two.0) (new.0 there),
        λ all. let two = All-pushed M cs c all in
            let there : Has (λ d. Meets d (a d.index)) ds =
            Has-like (λ d. Meets d (a c.index)) (λ d. Meets d (a d.index)) ds
            (λ d has m. subst (λ i. Meets d (a i)) (sym (at_index d has)) m) (new.1 two.1) in
            both.1 (old.1 two.0, there),
      )

  more_indexes : (es : List Cond) (d : Cond) → Contains css es → Contains ds d
      → map (λ e. e.index) (es ++ d ∷ []) ≡ map (λ e. e.index) (cs ++ c ∷ [])
  more_indexes es d has in-ds =
      let old : map (λ (e : Cond). e.index) es ≡ map (λ (e : Cond). e.index) cs =
      All-contains (λ ys. map (λ y. y.index) ys ≡ map (λ y. y.index) cs) css es before.indexes has in
      map-append (λ (e : Cond). e.index) es (d ∷ [])
      ∙ ap (λ is. is ++ d.index ∷ []) old
      ∙ ap (λ i. map (λ (e : Cond). e.index) cs ++ i ∷ []) (at_index d in-ds)
      ∙ sym (map-append (λ (e : Cond). e.index) cs (c ∷ []))

  later_part : (d : Cond) → IsPart plan cs d → IsPart plan (cs ++ c ∷ []) d
  later_part d h = Has-left (IsPartOf (slice_index plan d.index) d) cs (c ∷ []) h

  same_from_kept : (d : Cond) → Contains ds d → 32 < bits → d ≡ c
  same_from_kept d has wide =
      one-Has (λ x. d ≡ x) c (d, subst (λ es. Contains es d) (its.kept wide) has, refl)

  part_of : (d : Cond) → Contains ds d → IsPartOf bits d c
  part_of d has = record {
    index = sym (at_index d has);
    low = λ narrow. All-contains (IsLow bits) ds d (its.low narrow) has;
    kept = same_from_kept d has;
  }

  new_part : (d : Cond) → Contains ds d → IsPart plan (cs ++ c ∷ []) d
  new_part d has =
      Has-right (IsPartOf (slice_index plan d.index) d) cs (c ∷ [])
      (Has-one (IsPartOf (slice_index plan d.index) d) c (subst (λ i. IsPartOf (slice_index plan i) d c) (sym (at_index d has)) (part_of d has)))

  more_parts : (es : List Cond) (d : Cond) → Contains css es → Contains ds d → All (IsPart plan (cs ++ c ∷ [])) (es ++ d ∷ [])
  more_parts es d has in-ds =
      let old : All (IsPart plan cs) es = All-contains (All (IsPart plan cs)) css es before.parts has in
      All-push (IsPart plan (cs ++ c ∷ [])) es d
      (all_from (IsPart plan (cs ++ c ∷ [])) es (λ e in-es. later_part e (All-contains (IsPart plan cs) es e old in-es)))
      (new_part d in-ds)

  pub combined_more : AreCombined plan (cs ++ c ∷ []) (extended ds css)
  combined_more = record {
    meets = more_met;
    indexes = extended_all (λ es. map (λ e. e.index) es ≡ map (λ e. e.index) (cs ++ c ∷ [])) ds css more_indexes;
    parts = extended_all (All (IsPart plan (cs ++ c ∷ []))) ds css more_parts;
    few = subst (λ n. length (extended ds css) ≤ n) (sym (one_more_list plan cs c))
        (extended_few ds css (most_lists plan cs) (most_parts bits c) before.few its.few);
  }
