-- An index grows with its list.
use Rattle.std.proofs.Common.{◌≡◌, ℕ, ◌+◌, ◌≤◌, inl, inr, true, cond, List, [], ◌∷◌, ◌++◌, length, get_or, Option, Some, None}
use Rattle.std.proofs.Common.{refl, sym, ◌∙◌, ap, subst, arith}
use Rattle.std.specs.Prelude.{slice_get}
use Rattle.std.specs.Option.{IfSome}
use Rattle.std.specs.declared.cmp.Ordering.TheVariants.{Equal}
use Rattle.std.specs.Ordering.{nat_cmp, is_eq}
use Rattle.std.specs.Cmp.{Equal-is}
use Rattle.std.specs.BTreeMap.{Updates, is_at}
use Rattle.std.proofs.lemmas.Bool.{cases_Bool}
use Rattle.std.proofs.lemmas.Cmp.{nat_cmp_total, tied_itself}
use Rattle.std.proofs.lemmas.Map.Lookups.{exact_pairs, exact_unsigned}
use Rattle.std.proofs.lemmas.List.{get_or_append_left}
use Rattle.std.proofs.lemmas.Option.{slice_get_within}
use Rattle.std.proofs.Math.Seq.{get_or-append_seam}
use Rattle.machines.specs.Arch.{token_of}
use Rattle.profile.specs.declared.rules.Rule.{Rule}
use Rattle.profile.specs.declared.index.Index.{Index}
use Rattle.profile.specs.Latest.{IsFor, StandsAt, IsLatest}
use Rattle.profile.specs.inner.Places.{IsIndexOf, call_cmp, latest_of, earlier_of}
use Rattle.profile.proofs.KeptLaws.{slice_get_left, slice_get_last, place_cases, push_length}

same_call : (a m b n : ℕ) → a ≡ b → m ≡ n → is_eq (call_cmp (a, m) (b, n)) ≡ true
same_call a m b n ea en =
    let machine : nat_cmp a b ≡ Equal = subst (λ (x : ℕ). nat_cmp a x ≡ Equal) ea (tied_itself nat_cmp_total a) in
    let number : nat_cmp m n ≡ Equal = subst (λ (x : ℕ). nat_cmp m x ≡ Equal) en (tied_itself nat_cmp_total m) in
    rw (machine, number) refl

for_call : (rule : Rule) (token nr : ℕ) → is_eq (call_cmp (token_of rule.arch, rule.nr) (token, nr)) ≡ true → IsFor token nr rule
for_call rule token nr h =
    let equal = (Equal-is (call_cmp (token_of rule.arch, rule.nr) (token, nr))).0 h in
    let both : (token_of rule.arch, rule.nr) ≡ (token, nr) = exact_pairs nat_cmp nat_cmp exact_unsigned exact_unsigned _ _ equal in
    record { machine = ap (λ (p : ℕ × ℕ). p.0) both; number = ap (λ (p : ℕ × ℕ). p.1) both }

stands_longer : (rules : List Rule) (rule : Rule) (token nr end end' place : ℕ) → end ≤ end' → StandsAt rules token nr end place
    → StandsAt (rules ++ rule ∷ []) token nr end' place
stands_longer rules rule token nr end end' place le s = record {
  rule = s.rule;
  before = omega (arith, le, s.before);
  at = slice_get_left rules (rule ∷ []) place (slice_get_within rules place s.rule s.at) ∙ s.at;
  is_for = s.is_for;
}

stand_longer : (rules : List Rule) (rule : Rule) (token nr end end' : ℕ) (latest : Option ℕ) → end ≤ end'
    → IfSome latest (StandsAt rules token nr end) → IfSome latest (StandsAt (rules ++ rule ∷ []) token nr end')
stand_longer rules rule token nr end end' None le h = tt
stand_longer rules rule token nr end end' (Some place) le s = stands_longer rules rule token nr end end' place le s

-- the greatest place stays where no other stands for the call
latest_longer : (rules : List Rule) (rule : Rule) (token nr end end' : ℕ) (latest : Option ℕ) → end ≤ end'
    → ((k : ℕ) → StandsAt (rules ++ rule ∷ []) token nr end' k → StandsAt rules token nr end k) → IsLatest rules token nr end latest
    → IsLatest (rules ++ rule ∷ []) token nr end' latest
latest_longer rules rule token nr end end' latest le only h = record {
  stands = stand_longer rules rule token nr end end' latest le h.stands;
  greatest = λ k s. h.greatest k (only k s);
}

-- what is before a place stays
latest_before : (rules : List Rule) (rule : Rule) (token nr end : ℕ) (latest : Option ℕ) → end ≤ length rules
    → IsLatest rules token nr end latest → IsLatest (rules ++ rule ∷ []) token nr end latest
latest_before rules rule token nr end latest le =
    latest_longer rules rule token nr end end latest (omega arith)
    (λ k s. record {
      rule = s.rule;
      before = s.before;
      at = sym (slice_get_left rules (rule ∷ []) k (omega (arith, le, s.before))) ∙ s.at;
      is_for = s.is_for;
    })

-- the last rule is the latest for its call
latest_here : (rules : List Rule) (rule : Rule) (token nr : ℕ) → IsFor token nr rule
    → IsLatest (rules ++ rule ∷ []) token nr (length (rules ++ rule ∷ [])) (Some (length rules))
latest_here rules rule token nr is = record {
  stands = record {
    rule = rule;
    before = omega (arith, push_length rules rule);
    at = slice_get_last rules rule;
    is_for = is;
  };
  greatest = λ k s. omega (arith, push_length rules rule, s.before);
}

-- and changes nothing for the others
latest_other : (rules : List Rule) (rule : Rule) (token nr : ℕ) (latest : Option ℕ) → ¬ IsFor token nr rule
    → IsLatest rules token nr (length rules) latest → IsLatest (rules ++ rule ∷ []) token nr (length (rules ++ rule ∷ [])) latest
latest_other rules rule token nr latest other =
    latest_longer rules rule token nr (length rules) (length (rules ++ rule ∷ [])) latest (omega (arith, push_length rules rule))
    (λ k s.
    elim (place_cases rules rule s.rule k s.at) [
      | inl before ↦ record { rule = s.rule; before = before.0; at = before.1; is_for = s.is_for }
      | inr last ↦ absurd (other (subst (IsFor token nr) (sym last.1) s.is_for))
    ])

latest_more : (rules : List Rule) (rule : Rule) (old new : Index) → IsIndexOf rules old
    → Updates call_cmp old.latest new.latest (token_of rule.arch, rule.nr) (Some (length rules)) → (token nr : ℕ)
    → IsLatest (rules ++ rule ∷ []) token nr (length (rules ++ rule ∷ [])) (latest_of new token nr)
latest_more rules rule old new is u token nr =
    let L : Option ℕ → Type 0 = IsLatest (rules ++ rule ∷ []) token nr (length (rules ++ rule ∷ [])) in
    let test = is_at (call_cmp (token_of rule.arch, rule.nr)) (token, nr) in
    let now : latest_of new token nr ≡ cond test (Some (length rules)) (latest_of old token nr) = u.0 (token, nr) in
    elim (cases_Bool test) [
      | inl here ↦
          let value : latest_of new token nr ≡ Some (length rules) = now ∙ ap (λ b. cond b (Some (length rules)) (latest_of old token nr)) here in
          subst L (sym value) (latest_here rules rule token nr (for_call rule token nr here))
      | inr other ↦
          let value : latest_of new token nr ≡ latest_of old token nr =
          now ∙ ap (λ b. cond b (Some (length rules)) (latest_of old token nr)) other in
          let differs : ¬ IsFor token nr rule = λ f.
          let same : test ≡ true = same_call (token_of rule.arch) rule.nr token nr f.machine f.number in cc in
          subst L (sym value) (latest_other rules rule token nr (latest_of old token nr) differs (is.latest token nr))
    ]

earlier_more : (rules : List Rule) (rule : Rule) (old new : Index) → IsIndexOf rules old
    → new.earlier.items ≡ old.earlier.items ++ latest_of old (token_of rule.arch) rule.nr ∷ [] → (k : ℕ) (x : Rule)
    → slice_get (rules ++ rule ∷ []) k ≡ Some x
    → IsLatest (rules ++ rule ∷ []) (token_of x.arch) x.nr k (earlier_of new k)
earlier_more rules rule old new is e k x at =
    let before = latest_of old (token_of rule.arch) rule.nr in
    let now : earlier_of new k ≡ get_or (old.earlier.items ++ before ∷ []) k None = ap (λ (xs : List (Option ℕ)). get_or xs k None) e in
    elim (place_cases rules rule x k at) [
      | inl (lt, at-k) ↦
          let value : earlier_of new k ≡ earlier_of old k =
          now ∙ get_or_append_left old.earlier.items (before ∷ []) None k (omega (arith, is.as_many, lt)) in
          subst (IsLatest (rules ++ rule ∷ []) (token_of x.arch) x.nr k) (sym value)
          (latest_before rules rule (token_of x.arch) x.nr k (earlier_of old k) (omega (arith, lt)) (is.earlier k x at-k))
      | inr (end, same) ↦
          let value : earlier_of new k ≡ before =
          now ∙ ap (λ (j : ℕ). get_or (old.earlier.items ++ before ∷ []) j None) (end ∙ sym is.as_many)
          ∙ get_or-append_seam old.earlier.items before [] None in
          let last : IsLatest (rules ++ rule ∷ []) (token_of rule.arch) rule.nr (length rules) before =
          latest_before rules rule (token_of rule.arch) rule.nr (length rules) before (omega arith) (is.latest (token_of rule.arch) rule.nr) in
          subst (λ (o : Option ℕ). IsLatest (rules ++ rule ∷ []) (token_of x.arch) x.nr k o) (sym value)
          (subst (λ (n : ℕ). IsLatest (rules ++ rule ∷ []) (token_of x.arch) x.nr n before) (sym end)
          (subst (λ (y : Rule). IsLatest (rules ++ rule ∷ []) (token_of y.arch) y.nr (length rules) before) same last))
    ]

pub index_more : (rules : List Rule) (rule : Rule) (old new : Index) (place : ℕ) → IsIndexOf rules old
    → place ≡ length old.earlier.items → Updates call_cmp old.latest new.latest (token_of rule.arch, rule.nr) (Some place)
    → new.earlier.items ≡ old.earlier.items ++ latest_of old (token_of rule.arch) rule.nr ∷ [] → IsIndexOf (rules ++ rule ∷ []) new
index_more rules rule old new place is at u e =
    let here : place ≡ length rules = at ∙ is.as_many in
    let updates : Updates call_cmp old.latest new.latest (token_of rule.arch, rule.nr) (Some (length rules)) =
    subst (λ (n : ℕ). Updates call_cmp old.latest new.latest (token_of rule.arch, rule.nr) (Some n)) here u in
    record {
      as_many = ap length e ∙ push_length old.earlier.items (latest_of old (token_of rule.arch) rule.nr)
          ∙ ap (λ (n : ℕ). n + 1) is.as_many ∙ sym (push_length rules rule);
      latest = latest_more rules rule old new is updates;
      earlier = earlier_more rules rule old new is e;
    }
