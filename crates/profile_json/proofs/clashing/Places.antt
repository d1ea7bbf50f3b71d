-- Which entry a rule comes from, by its place.
use Rattle.std.proofs.Common.{◌≡◌, ℕ, zero, suc, ◌+◌, ◌-◌, ◌<◌, ◌≤◌, List, [], ◌∷◌, ◌++◌, length, Some, nat_lt, ◌⊎◌, inl, inr, refl, sym}
use Rattle.std.proofs.Common.{◌∙◌, ap, subst, arith}
use Rattle.std.specs.List.{Contains, slice_get, position_from}
use Rattle.std.proofs.lemmas.Bool.{cases_Bool, ltb-true, ltb-false}
use Rattle.machines.specs.declared.arch.Arch.{Arch}
use Rattle.profile_json.specs.Parts.{EntryParts, RuleParts}
use Rattle.profile_json.specs.Rules.{rules_of_entry, rules_of, ends_after}
use Rattle.profile_json.proofs.Lists.{contains_at}

get_left : {A : Type 0} (xs ys : List A) (i : ℕ) → i < length xs → slice_get (xs ++ ys) i ≡ slice_get xs i
get_left [] ys i h = absurd (omega (arith, h))
get_left (x ∷ xs) ys zero h = refl
get_left (x ∷ xs) ys (suc i) h = get_left xs ys i (omega (arith, h))

get_right : {A : Type 0} (xs ys : List A) (i j : ℕ) → i ≡ length xs + j → slice_get (xs ++ ys) i ≡ slice_get ys j
get_right [] ys i j h = let same : i ≡ j = omega (arith, h) in ap (slice_get ys) same
get_right (x ∷ xs) ys zero j h = absurd (omega (arith, h))
get_right (x ∷ xs) ys (suc i) j h = get_right xs ys i j (omega (arith, h))

-- the rule q comes from the entry at a place below k
abbrev pub FromBelow : List Arch → List EntryParts → ℕ → RuleParts → Type 0
FromBelow machines es k q = (h : ℕ) × (d : EntryParts) × (h < k) × (slice_get es h ≡ Some d) × Contains (rules_of_entry machines d) q

-- the entry at k has the rule r, and each earlier rule comes from it or from an entry before it
pub record IsEntryOf (machines : List Arch) (es : List EntryParts) (n place k : ℕ) (r : RuleParts) : Type 0 where
  pub entry : EntryParts
  pub entry_at : slice_get es k ≡ Some entry
  pub has : Contains (rules_of_entry machines entry) r
  pub earlier : (i : ℕ) (q : RuleParts) → n + i < place → slice_get (rules_of machines es) i ≡ Some q
      → Contains (rules_of_entry machines entry) q ⊎ FromBelow machines es k q

-- n rules came before the entries es, and the place is that of the rule at p among theirs
pub entry_of_place : (machines : List Arch) (es : List EntryParts) (n p c : ℕ) (r : RuleParts) → slice_get (rules_of machines es) p ≡ Some r
    → (k : ℕ) × (position_from (λ end. nat_lt (n + p) end) c (ends_after n machines es) ≡ Some (c + k))
    × IsEntryOf machines es n (n + p) k r
entry_of_place machines [] n p c r at = cc
entry_of_place machines (e ∷ es) n p c r at =
    let own = rules_of_entry machines e in
    let rest = rules_of machines es in
    elim (cases_Bool (nat_lt (n + p) (n + length own))) [
      | inl here ↦
          let inside : n + p < n + length own = ltb-true (n + p) (n + length own) here in
          let mine : slice_get own p ≡ Some r = sym (get_left own rest p (omega (arith, inside))) ∙ at in
          let first : position_from (λ end. nat_lt (n + p) end) c (ends_after n machines (e ∷ es)) ≡ Some (c + 0) =
          rw here (ap Some (omega arith)) in (
            0,
            first,
            record {
              entry = e;
              entry_at = refl;
              has = contains_at own p r mine;
              earlier = λ i q before got. inl (contains_at own i q (sym (get_left own rest i (omega (arith, inside, before))) ∙ got));
            },
          )
      | inr past ↦
          let beyond : n + length own ≤ n + p = ltb-false (n + p) (n + length own) past in
          let split : p ≡ length own + (p - length own) = omega (arith, beyond) in
          let theirs : slice_get rest (p - length own) ≡ Some r = sym (get_right own rest p (p - length own) split) ∙ at in
          let later = entry_of_place machines es (n + length own) (p - length own) (c + 1) r theirs in
          let same : n + length own + (p - length own) ≡ n + p = omega (arith, beyond) in
          let found : position_from (λ end. nat_lt (n + p) end) (c + 1) (ends_after (n + length own) machines es) ≡ Some
          (c + 1 + later.0) = subst (λ m. position_from (λ end. nat_lt m end) (c + 1) (ends_after (n + length own) machines es) ≡ Some
          (c + 1 + later.0)) same later.1 in
          let is : IsEntryOf machines es (n + length own) (n + p) later.0 r =
          subst (λ m. IsEntryOf machines es (n + length own) m later.0 r) same later.2 in
          let step : position_from (λ end. nat_lt (n + p) end) c (ends_after n machines (e ∷ es)) ≡ Some (c + suc later.0) =
          rw past (found ∙ ap Some (omega arith)) in (
            suc later.0,
            step,
            record {
              entry = is.entry;
              entry_at = is.entry_at;
              has = is.has;
              earlier = λ i q before got. elim (cases_Bool (nat_lt i (length own))) [
                | inl mine ↦ inr (
                  0,
                  e,
                  omega arith,
                  refl,
                  contains_at own i q
                      (sym (get_left own rest i (ltb-true i (length own) mine)) ∙ got),
                )
                | inr more ↦
                    let from : length own ≤ i = ltb-false i (length own) more in
                    let apart : i ≡ length own + (i - length own) = omega (arith, from) in
                    let got_rest : slice_get rest (i - length own) ≡ Some q = sym (get_right own rest i (i - length own) apart) ∙ got in
                    elim (is.earlier (i - length own) q (omega (arith, before, from)) got_rest) [
                      | inl same_entry ↦ inl same_entry
                      | inr lower ↦ inr (suc lower.0, lower.1, omega (arith, lower.2), lower.3, lower.4)
                    ]
              ];
            },
          )
    ]
