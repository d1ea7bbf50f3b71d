-- A walk over the rules for one call, from the latest to the first.
use Rattle.std.proofs.Common.{◌≡◌, ℕ, ◌+◌, ◌<◌, ◌≤◌, inl, inr, List, length, get_or, Option, Some, None, sym, ◌∙◌, ap, subst, arith}
use Rattle.std.specs.Prelude.{slice_get}
use Rattle.std.specs.Option.{IfSome, IsSomeAnd}
use Rattle.std.specs.List.{All}
use Rattle.std.proofs.lemmas.Bool.{cases_lt, cases_eq}
use Rattle.std.proofs.lemmas.Option.{same_Some, slice_get_within, slice_get-get_or}
use Rattle.profile.specs.declared.rules.Rule.{Rule}
use Rattle.profile.specs.declared.index.Index.{Index}
use Rattle.profile.specs.Latest.{IsFor, StandsAt, IsLatest}
use Rattle.profile.specs.inner.Places.{IsIndexOf, earlier_of}

-- how many places a walk has before it at most
abbrev pub height : Option ℕ → ℕ
height None = 0
height (Some place) = place + 1

-- P holds of rules for this call alone
abbrev pub IsOf : (Rule → Type 0) → ℕ → ℕ → Type 0
IsOf P token nr = (rule : Rule) → P rule → IsFor token nr rule

-- A walk over the rules for one call that stand before `limit` has come to `next`: those that it has passed fail P.
pub record HasCome (P : Rule → Type 0) (rules : List Rule) (token nr limit : ℕ) (next : Option ℕ) : Type 0 where
  pub end : ℕ
  pub within : end ≤ limit
  pub latest : IsLatest rules token nr end next
  pub passed : (k : ℕ) (rule : Rule) → end ≤ k → k < limit → slice_get rules k ≡ Some rule → ¬ P rule

pub begins : (P : Rule → Type 0) (rules : List Rule) (token nr limit : ℕ) (next : Option ℕ) → IsLatest rules token nr limit next
    → HasCome P rules token nr limit next
begins P rules token nr limit next h = record {
  end = limit;
  within = omega arith;
  latest = h;
  passed = λ k rule ge lt. absurd (omega (arith, ge, lt));
}

-- the walk comes to a rule for the call: it stands where those for the call that are left have their greatest place
pub record IsNext (P : Rule → Type 0) (rules : List Rule) (token nr limit place : ℕ) (rule : Rule) : Type 0 where
  pub before : place < limit
  pub at : slice_get rules place ≡ Some rule
  pub is_for : IsFor token nr rule
  pub passed : (k : ℕ) (x : Rule) → IsOf P token nr → place < k → k < limit → slice_get rules k ≡ Some x → ¬ P x

next_of : (P : Rule → Type 0) (rules : List Rule) (token nr limit place : ℕ) → HasCome P rules token nr limit (Some place)
    → (rule : Rule) × IsNext P rules token nr limit place rule
next_of P rules token nr limit place h =
    let s : StandsAt rules token nr h.end place = h.latest.stands in (
      s.rule,
      record {
        before = omega (arith, s.before, h.within);
        at = s.at;
        is_for = s.is_for;
        passed = λ k x only gt lt at-k p.
            elim (cases_lt k h.end) [
              | inr past ↦ h.passed k x past lt at-k p
              | inl ahead ↦
                  let le : k ≤ place = h.latest.greatest k (record { rule = x; before = ahead; at = at-k; is_for = only x p }) in
                  omega (arith, gt, le)
            ];
      },
    )

pub next_within : (P : Rule → Type 0) (rules : List Rule) (token nr limit : ℕ) (next : Option ℕ) (place : ℕ) → next ≡ Some place
    → HasCome P rules token nr limit next → place < length rules
next_within P rules token nr limit next place here h =
    let turn = next_of P rules token nr limit place (subst (HasCome P rules token nr limit) here h) in
    slice_get_within rules place turn.0 turn.1.at

-- the rule at the next place is for the call, and those after it have failed P
pub comes_to : (P : Rule → Type 0) (rules : List Rule) (token nr limit : ℕ) (next : Option ℕ) (place : ℕ) (rule : Rule)
    → next ≡ Some place → HasCome P rules token nr limit next → rule ≡ get_or rules place rule → IsNext P rules token nr limit place rule
comes_to P rules token nr limit next place rule here h is =
    let turn = next_of P rules token nr limit place (subst (HasCome P rules token nr limit) here h) in
    let within : place < length rules = slice_get_within rules place turn.0 turn.1.at in
    let at : slice_get rules place ≡ Some rule = slice_get-get_or rules place rule within ∙ ap Some (sym is) in
    let same : turn.0 ≡ rule = same_Some turn.0 rule (sym turn.1.at ∙ at) in
    subst (IsNext P rules token nr limit place) same turn.1

-- what the index tells of a rule for the call
earlier_for : (rules : List Rule) (index : Index) (token nr place : ℕ) (rule : Rule) → IsIndexOf rules index → IsFor token nr rule
    → slice_get rules place ≡ Some rule → IsLatest rules token nr place (earlier_of index place)
earlier_for rules index token nr place rule is for at =
    subst (λ (n : ℕ). IsLatest rules token n place (earlier_of index place)) for.number
    (subst (λ (t : ℕ). IsLatest rules t rule.nr place (earlier_of index place)) for.machine (is.earlier place rule at))

-- where the rule at the next place fails P, the walk goes on
pub passes : (P : Rule → Type 0) (rules : List Rule) (index : Index) (token nr limit place : ℕ) (rule : Rule) (more : Option ℕ)
    → IsIndexOf rules index → IsOf P token nr → IsNext P rules token nr limit place rule → ¬ P rule → more ≡ earlier_of index place
    → HasCome P rules token nr limit more
passes P rules index token nr limit place rule more is only turn fails link = record {
  end = place;
  within = omega (arith, turn.before);
  latest = subst (IsLatest rules token nr place) (sym link) (earlier_for rules index token nr place rule is turn.is_for turn.at);
  passed = λ k x ge lt at-k.
      elim (cases_eq k place) [
        | inl same ↦ subst (λ (y : Rule). ¬ P y) (same_Some rule x (sym turn.at ∙ ap (slice_get rules) (sym same) ∙ at-k)) fails
        | inr other ↦ turn.passed k x only (omega (arith, ge, other)) lt at-k
      ];
}

-- and goes down
pub goes_down : (P : Rule → Type 0) (rules : List Rule) (index : Index) (token nr limit place : ℕ) (rule : Rule) (next more : Option ℕ)
    → IsIndexOf rules index → IsNext P rules token nr limit place rule → next ≡ Some place → more ≡ earlier_of index place
    → height more < height next
goes_down P rules index token nr limit place rule next more is turn here link =
    let latest : IsLatest rules token nr place more =
    subst (IsLatest rules token nr place) (sym link) (earlier_for rules index token nr place rule is turn.is_for turn.at) in
    subst (λ (o : Option ℕ). height more < height o) (sym here) (down rules token nr place more latest.stands)
  where
    down : (rules : List Rule) (token nr place : ℕ) (more : Option ℕ) → IfSome more (StandsAt rules token nr place)
        → height more < place + 1
    down rules token nr place None h = omega arith
    down rules token nr place (Some k) h = omega (arith, h.before)

-- ---- its end

-- where it ends, every rule has failed P
pub ends : (P : Rule → Type 0) (rules : List Rule) (token nr limit : ℕ) (next : Option ℕ) → IsOf P token nr
    → HasCome P rules token nr limit next → next ≡ None → (k : ℕ) (rule : Rule) → k < limit → slice_get rules k ≡ Some rule → ¬ P rule
ends P rules token nr limit next only h none k rule lt at p =
    elim (cases_lt k h.end) [
      | inr past ↦ h.passed k rule past lt at p
      | inl ahead ↦
          let more : IsSomeAnd next (λ place. k ≤ place) =
          h.latest.greatest k (record { rule = rule; before = ahead; at = at; is_for = only rule p }) in
          subst (λ (o : Option ℕ). IsSomeAnd o (λ place. k ≤ place)) none more
    ]

pub all_fail : (P : Rule → Type 0) (rules : List Rule) (token nr : ℕ) (next : Option ℕ) → IsOf P token nr
    → HasCome P rules token nr (length rules) next → next ≡ None → All (λ rule. ¬ P rule) rules
all_fail P rules token nr next only h none k d lt =
    ends P rules token nr (length rules) next only h none k (get_or rules k d) lt (slice_get-get_or rules k d lt)
