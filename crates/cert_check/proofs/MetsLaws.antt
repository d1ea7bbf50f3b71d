-- Conditions that are said to be met: places marked one by one, and what they leave to be asked.
use Rattle.std.proofs.Common.{◌≡◌, ℕ, suc, ◌+◌, ◌*◌, ◌<◌, ◌≤◌, Bool, true, false, List, []}
use Rattle.std.proofs.Common.{◌∷◌, length, refl, sym, subst, ap, ◌∙◌, inl, inr, ◌⊎◌, arith}
use Rattle.std.specs.Prelude.{◌↔◌, Contains, Some, replicate, slice_get, slice_index_or}
use Rattle.std.proofs.lemmas.Bool.{cases_eq, eq-eqb, ne_eqb}
use Rattle.std.proofs.lemmas.List.{get_or-replicate, length-replicate}
use Rattle.std.proofs.lemmas.Option.{slice_get-get_or, slice_get_within, same_Some}
use Rattle.profile.specs.declared.conditions.Cond.{Cond}
use Rattle.cert_state.specs.declared.literal.Lit.{Lit}
use Rattle.profile.specs.declared.rules.Rule.{Rule}
use Rattle.profile.specs.Rule.{is_narrow_rule}
use Rattle.profile.specs.Policy.{Policy}
use Rattle.cert_check.specs.Agree.{IsNoRule, IsYes, OneIsNo, SomeIsNo}
use Rattle.cert_check.specs.Rules.{IsMetBy}
use Rattle.cert_check.specs.inner.Judged.{IsAnswer, IsAnswered}
use Rattle.cert_check.specs.declared.judged.Answered.{Answered}
use Rattle.cert_check.specs.declared.judged.Asked.{Asked}
use Rattle.cert_check.specs.declared.judged.Asked.TheVariants.{AllYes, OneNo}
use Rattle.cert_check.specs.inner.Marked.{is_said, AreMetMarked, AreMetMarkedBut, IsClear}
use Rattle.cert_check.proofs.Elements.{contains_at}
use Rattle.cert_check.proofs.OutsLaws.{cases, first, later, same_answer}

-- ---- places marked

-- a table that is made
pub made_clear : (size : ℕ) → IsClear (replicate size false)
made_clear size k d lt = get_or-replicate size k false d (subst (λ n. k < n) (length-replicate size false) lt)

pub none_marked : (places : List (ℕ × ℕ)) (table : List Bool) (rest : List (ℕ × ℕ)) → rest ≡ places → IsClear table
    → AreMetMarkedBut places table rest
none_marked places table rest e clear rule own d below within = (
  λ h. elim h [
    | inl marked ↦ absurd (let is : false ≡ true = sym (clear (6 * rule + own) d within) ∙ marked in cc)
    | inr has ↦ subst (λ xs. Contains xs (rule, own)) e has
  ],
  λ has. inr (subst (λ xs. Contains xs (rule, own)) (sym e) has),
)

pub same_place : (a b : ℕ × ℕ) → a.0 ≡ b.0 → a.1 ≡ b.1 → a ≡ b
same_place a b p q = ap (λ k. (k, a.1)) p ∙ ap (λ k. (b.0, k)) q

pub one_marked : (places : List (ℕ × ℕ)) (old new : List Bool) (all : List (ℕ × ℕ)) (place : ℕ × ℕ) (rest : List (ℕ × ℕ))
    → all ≡ place ∷ rest
    → length new ≡ length old
    → AreMetMarkedBut places old all
    → ((rule own : ℕ) (d : Bool) → own < 6 → 6 * rule + own < length old
    → (slice_index_or new (6 * rule + own) d ≡ true) ↔ ((slice_index_or old (6 * rule + own) d ≡ true)
    ⊎ ((rule ≡ place.0) × (own ≡ place.1))))
    → AreMetMarkedBut places new rest
one_marked places old new all place rest e same so step rule own d below inside = let within : 6 * rule + own < length old = omega (arith, same, inside) in (
  λ h. elim h [
    | inl marked ↦ elim ((step rule own d below within).0 marked) [
      | inl before ↦ (so rule own d below within).0 (inl before)
      | inr is ↦ (so rule own d below within).0 (inr (first place all rest e (rule, own) (same_place place (rule, own) (sym is.0) (sym is.1))))
    ]
    | inr has ↦ (so rule own d below within).0 (inr (later place all rest e (rule, own) has))
  ],
  λ has. elim ((so rule own d below within).1 has) [
    | inl before ↦ inl ((step rule own d below within).1 (inl before))
    | inr waits ↦ elim (cases place all rest e (rule, own) waits) [
      | inl is ↦ inl ((step rule own d below within).1 (inr (sym (ap (λ (p : ℕ × ℕ). p.0) is), sym (ap (λ (p : ℕ × ℕ). p.1) is))))
      | inr has ↦ inr has
    ]
  ],
)

-- what is said is one of the places
past : (p : ℕ × ℕ) (places : List (ℕ × ℕ)) (rule own : ℕ) → (p ≡ (rule, own) → ⊥) → is_said (p ∷ places) rule own ≡ is_said places rule own
past p places rule own other = elim (cases_eq p.0 rule) [
  | inr differs ↦ rw (ne_eqb p.0 rule differs) refl
  | inl its ↦ elim (cases_eq p.1 own) [
    | inr differs ↦ rw (eq-eqb p.0 rule its, ne_eqb p.1 own differs) refl
    | inl same ↦ absurd (other (same_place p (rule, own) its same))
  ]
]

is_place : (p : ℕ × ℕ) (rule own : ℕ) → (p ≡ (rule, own)) ⊎ (p ≡ (rule, own) → ⊥)
is_place p rule own = elim (cases_eq p.0 rule) [
  | inr differs ↦ inr (λ same. differs (ap (λ (q : ℕ × ℕ). q.0) same))
  | inl its ↦ elim (cases_eq p.1 own) [
    | inr differs ↦ inr (λ same. differs (ap (λ (q : ℕ × ℕ). q.1) same))
    | inl same ↦ inl (same_place p (rule, own) its same)
  ]
]

pub said : (places : List (ℕ × ℕ)) (rule own : ℕ) → (is_said places rule own ≡ true) ↔ Contains places (rule, own)
said [] rule own = (λ is. absurd (let e : false ≡ true = is in cc), λ has. absurd (omega (arith, has.1)))
said (p ∷ places) rule own = elim (is_place p rule own) [
  | inl same ↦ (
    λ _. (0, omega arith, same),
    λ _. rw (eq-eqb p.0 rule (ap (λ (q : ℕ × ℕ). q.0) same), eq-eqb p.1 own (ap (λ (q : ℕ × ℕ). q.1) same)) refl,
  )
  | inr other ↦ (
    λ is. let has = (said places rule own).0 (sym (past p places rule own other) ∙ is) in (suc has.0, omega (arith, has.1), has.2),
    λ has. past p places rule own other ∙ (said places rule own).1 (elim (cases p (p ∷ places) places refl (rule, own) has) [
      | inl same ↦ absurd (other same)
      | inr waits ↦ waits
    ]),
  )
]

pub all_marked : (places : List (ℕ × ℕ)) (table : List Bool) (rest : List (ℕ × ℕ)) → rest ≡ [] → AreMetMarkedBut places table rest
    → AreMetMarked places table
all_marked places table rest e so rule own d below within =
    same_answer (slice_index_or table (6 * rule + own) d) (is_said places rule own)
    (λ marked. (said places rule own).1 ((so rule own d below within).0 (inl marked))) (λ is.
    elim ((so rule own d below within).1 ((said places rule own).0 is)) [
      | inl marked ↦ marked
      | inr waits ↦ absurd (omega (arith, (subst (λ xs. Contains xs (rule, own)) e waits).1))
    ])

-- ---- conditions asked

-- an answer to the conditions of a rule, of arguments as wide as its machine's
pub as_asked : (known : List Lit) (answered : Answered) (rule : Rule) (asked : Asked) → answered.asked ≡ asked
    → answered.narrow ≡ is_narrow_rule rule → answered.conds.now ≡ rule.conds.items → IsAnswered known answered
    → IsAnswer asked (is_narrow_rule rule) [] known 0 rule.conds.items answered.is_so
as_asked known answered rule asked question narrow conds so =
    subst (λ q. IsAnswer q (is_narrow_rule rule) [] known 0 rule.conds.items answered.is_so) question
    (subst (λ b. IsAnswer answered.asked b [] known 0 rule.conds.items answered.is_so) narrow
    (subst (λ cs. IsAnswer answered.asked answered.narrow [] known 0 cs answered.is_so) conds so))

-- of no conditions all are yes
pub none_asked : (known : List Lit) → IsAnswer AllYes false [] known 0 [] true
none_asked known = (λ _ own c its. absurd (let within = slice_get_within [] own c its in omega (arith, within)), λ _. refl)

-- where no condition of a rule is said to be met, all are asked
pub none_left : (asked : Asked) (narrow : Bool) (met : List (ℕ × ℕ)) (known : List Lit) (place : ℕ) (conds : List Cond) (is_so : Bool)
    → length conds ≤ 6 → ((own : ℕ) → own < 6 → Contains met (place, own) → ⊥)
    → IsAnswer asked narrow [] known 0 conds is_so → IsAnswer asked narrow met known place conds is_so
none_left AllYes narrow met known place conds is_so few none so = (
  λ t own c its. elim (so.0 t own c its) [ inl told ↦ absurd (omega (arith, told.1)) | inr holds ↦ inr holds ],
  λ all. so.1 (λ own c its. elim (all own c its) [
    | inl told ↦ absurd (let within = slice_get_within conds own c its in none own (omega (arith, few, within)) told)
    | inr holds ↦ inr holds
  ]),
)
none_left OneNo narrow met known place conds is_so few none so = (
  λ t.
      let one = so.0 t in
      let within = slice_get_within conds one.own one.cond one.stands in
      record {
        own = one.own;
        cond = one.cond;
        stands = one.stands;
        not_met = none one.own (omega (arith, few, within));
        is_no = one.is_no;
      },
  λ one. so.1 (record {
    own = one.own;
    cond = one.cond;
    stands = one.stands;
    not_met = λ told. absurd (omega (arith, told.1));
    is_no = one.is_no;
  }),
)

-- a rule of which a condition is no is no
pub no_rule : (met : List (ℕ × ℕ)) (known : List Lit) (place : ℕ) (rule : Rule) → OneIsNo (is_narrow_rule rule) met known place rule.conds.items
    → IsNoRule met known place rule
no_rule met known place rule one = (
  inr one,
  λ yes. elim (yes.1 one.own one.cond one.stands) [ inl said ↦ one.not_met said | inr holds ↦ one.is_no.1 holds ],
)

-- where none is said to be met, one is no that is among the conditions
pub one_among : (narrow : Bool) (known : List Lit) (conds : List Cond) → OneIsNo narrow [] known 0 conds ↔ SomeIsNo narrow known conds
one_among narrow known conds = (
  λ one. (one.cond, contains_at conds one.own one.cond one.stands, one.is_no),
  λ some. record {
    own = some.1.0;
    cond = some.0;
    stands = slice_get-get_or conds some.1.0 some.0 some.1.1 ∙ ap Some some.1.2;
    not_met = λ told. absurd (omega (arith, told.1));
    is_no = some.2;
  },
)

-- a condition that the profile has at these places is met for one of the two reasons
pub met_by : (policy : Policy) (met : List (ℕ × ℕ)) (known : List Lit) (place : ℕ × ℕ) (rule : Rule) (c : Cond)
    → slice_get policy.rules place.0 ≡ Some rule → slice_get rule.conds.items place.1 ≡ Some c
    → (Contains met place ⊎ IsYes (is_narrow_rule rule) known c) ↔ IsMetBy policy met known place
met_by policy met known place rule c stands its = (
  λ reason. record { rule = rule; stands = stands; cond = c; its = its; reason = reason },
  λ is.
      let same : is.rule ≡ rule = same_Some is.rule rule (sym is.stands ∙ stands) in
      let one : is.cond ≡ c = same_Some is.cond c (sym is.its
      ∙ subst (λ (x : Rule). slice_get x.conds.items place.1 ≡ Some c) (sym same) its) in
      subst (λ x. Contains met place ⊎ IsYes (is_narrow_rule x) known c) same
      (subst (λ x. Contains met place ⊎ IsYes (is_narrow_rule is.rule) known x) one is.reason),
)
