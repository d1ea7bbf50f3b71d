-- The numbers of the entries of a chain, and all that entries state.
use Rattle.std.proofs.Common.{◌≡◌, ℕ, zero, suc, ◌+◌, ◌-◌, ◌<◌, ◌≤◌, Bool, true, false, cond, eqb, List, [], ◌∷◌, length, reverse}
use Rattle.std.proofs.Common.{get_or, refl, ap, sym, ◌∙◌, subst, arith, inl, inr}
use Rattle.std.specs.Prelude.{◌⊎◌, ◌≢◌, ◌↔◌, Contains, Some, map, slice_get}
use Rattle.std.specs.List.{range_with_len}
use Rattle.std.proofs.lemmas.Bool.{eqb-false, eq-eqb, ne_eqb, cases_lt, cases_eq}
use Rattle.std.proofs.lemmas.List.FromFn.{length-map-range_with_len, get_or-map-range_with_len}
use Rattle.std.proofs.lemmas.Option.{slice_get-get_or, slice_get_within, get_or_from_slice_get}
use Rattle.cert_form.specs.declared.lent.NodeView.{NodeView}
use Rattle.cert_form.specs.declared.node.Claim.{Claim}
use Rattle.cert_form.specs.Nodes.{numbers_back, numbers_on, on_chain_back, on_chain}
use Rattle.cert_form.specs.Reading.{chain_count, claim_of, claims_in, numbers_left, parent_at, entry_at, entries_before, entries_of, version_of}
use Rattle.cert_form.specs.Views.{certificate_of, claims_of}
use Rattle.cert_form.proofs.ChainLaws.{count, last_first}
use Rattle.cert_form.proofs.ReadLaws.{claims_are, no_claims}

-- an element of a list that is a first one and the rest
first_or_later : {X : Type 0} (x k : X) (rest : List X) → Contains (x ∷ rest) k → (x ≡ k) ⊎ Contains rest k
first_or_later x k rest (zero, lt, is) = inl is
first_or_later x k rest (suc i, lt, is) = inr (i, omega arith, is)

-- the first entry is the one where the chain begins, or is not
begins : (e : ℕ × Claim) (es : List (ℕ × Claim)) (n : ℕ) → n ≡ suc (length es) → numbers_back (e ∷ es) n ≡ n ∷ numbers_back es e.0
begins e es n same = rw (eq-eqb n (suc (length es)) same) refl

passes : (e : ℕ × Claim) (es : List (ℕ × Claim)) (n : ℕ) → n ≢ suc (length es) → numbers_back (e ∷ es) n ≡ numbers_back es n
passes e es n other = rw (ne_eqb n (suc (length es)) other) refl

-- none is above all entries, or above the one where the chain begins
within : (es : List (ℕ × Claim)) (n k : ℕ) → Contains (numbers_back es n) k → k ≤ length es
within [] n k has = absurd (omega (arith, has.1))
within (e ∷ es) n k has = elim (cases_eq n (suc (length es))) [
  | inl same ↦ elim (first_or_later n k (numbers_back es e.0) (subst (λ ks. Contains ks k) (begins e es n same) has)) [
    | inl first ↦ omega (arith, same, first)
    | inr rest ↦ omega (arith, within es e.0 k rest)
  ]
  | inr other ↦ omega (arith, within es n k (subst (λ ks. Contains ks k) (passes e es n other) has))
]

pub below : (es : List (ℕ × Claim)) (n k : ℕ) → Contains (numbers_back es n) k → k ≤ n
below [] n k has = absurd (omega (arith, has.1))
below (e ∷ es) n k has = elim (cases_eq n (suc (length es))) [
  | inl same ↦ elim (first_or_later n k (numbers_back es e.0) (subst (λ ks. Contains ks k) (begins e es n same) has)) [
    | inl first ↦ omega (arith, first)
    | inr rest ↦ omega (arith, same, within es e.0 k rest)
  ]
  | inr other ↦ below es n k (subst (λ ks. Contains ks k) (passes e es n other) has)
]

-- the entry of the greatest number, and the others
here : (e : ℕ × Claim) (es : List (ℕ × Claim)) (n : ℕ) → n ≡ length es → numbers_back (e ∷ es) (suc n) ≡ suc n ∷ numbers_back es e.0
here e es n h = by_test (eqb (suc n) (suc (length es))) refl where
  by_test : (b : Bool) → eqb (suc n) (suc (length es)) ≡ b
      → cond b (suc n ∷ numbers_back es e.0) (numbers_back es (suc n)) ≡ suc n ∷ numbers_back es e.0
  by_test true t = refl
  by_test false t = absurd (eqb-false (suc n) (suc (length es)) t (ap suc h))

before : (e : ℕ × Claim) (es : List (ℕ × Claim)) (n : ℕ) → n ≤ length es → numbers_back (e ∷ es) n ≡ numbers_back es n
before e es n h = rw (ne_eqb n (suc (length es)) (λ g. omega (arith, g))) refl

pub none_at_zero : (es : List (ℕ × Claim)) → numbers_back es 0 ≡ []
none_at_zero [] = refl
none_at_zero (e ∷ es) = before e es 0 (omega arith) ∙ none_at_zero es

pub none_past : (es : List (ℕ × Claim)) (n : ℕ) → length es < n → numbers_back es n ≡ []
none_past [] n h = refl
none_past (e ∷ es) n h = rw (ne_eqb n (suc (length es)) (λ g. omega (arith, g))) (none_past es n (omega arith))

later : (bytes : List ℕ) (c n : ℕ) → n ≤ c → numbers_on (entries_before bytes (suc c)) n ≡ numbers_on (entries_before bytes c) n
later bytes c n h =
    ap (λ es. numbers_back es n) (last_first bytes c) ∙ before (entry_at bytes c) (reverse (entries_before bytes c)) n
    (omega (arith, count bytes c))

last : (bytes : List ℕ) (c : ℕ)
    → numbers_on (entries_before bytes (suc c)) (suc c) ≡ suc c ∷ numbers_on (entries_before bytes c) (parent_at bytes c)
last bytes c =
    ap (λ es. numbers_back es (suc c)) (last_first bytes c)
    ∙ here (entry_at bytes c) (reverse (entries_before bytes c)) c (sym (count bytes c))

-- the numbers of a chain are that of its entry, and then those of the parent's chain
pub numbers_go_on : (bytes : List ℕ) (c j : ℕ) → j < c → parent_at bytes j < j + 1
    → numbers_on (entries_before bytes c) (suc j) ≡ suc j ∷ numbers_on (entries_before bytes c) (parent_at bytes j)
numbers_go_on bytes zero j h g = absurd (omega arith)
numbers_go_on bytes (suc c) j h g = by_place (cases_lt j c) (λ less. numbers_go_on bytes c j less g) where
  Goes : ℕ → Type 0
  Goes k = numbers_on (entries_before bytes (suc c)) (suc k) ≡ suc k ∷ numbers_on (entries_before bytes (suc c)) (parent_at bytes k)

  at_last : parent_at bytes c < c + 1 → Goes c
  at_last own = last bytes c ∙ ap (λ ns. suc c ∷ ns) (sym (later bytes c (parent_at bytes c) (omega arith)))

  by_place : (j < c) ⊎ (c ≤ j)
      → (j < c → numbers_on (entries_before bytes c) (suc j) ≡ suc j ∷ numbers_on (entries_before bytes c) (parent_at bytes j))
      → Goes j
  by_place (inl less) rest =
      later bytes c (suc j) (omega arith) ∙ (rest less
      ∙ ap (λ ns. suc j ∷ ns) (sym (later bytes c (parent_at bytes j) (omega arith))))
  by_place (inr more) rest =
      let same : c ≡ j = omega arith in
      subst Goes same (at_last (subst (λ k. parent_at bytes k < k + 1) (sym same) g))

-- what a chain states some entry states
stated_first : (e : ℕ × Claim) (es : List (ℕ × Claim)) (n : ℕ) → n ≡ suc (length es) → on_chain_back (e ∷ es) n ≡ e.1 ∷ on_chain_back es e.0
stated_first e es n same = rw (eq-eqb n (suc (length es)) same) refl

stated_later : (e : ℕ × Claim) (es : List (ℕ × Claim)) (n : ℕ) → n ≢ suc (length es) → on_chain_back (e ∷ es) n ≡ on_chain_back es n
stated_later e es n other = rw (ne_eqb n (suc (length es)) other) refl

some_entry : (bytes : List ℕ) (c n : ℕ) (x : Claim) → Contains (on_chain (entries_before bytes c) n) x
    → (j : ℕ) × (j < c) × (claim_of bytes j ≡ x)
some_entry bytes zero n x has = absurd (omega (arith, has.1))
some_entry bytes (suc c) n x has =
    let e : ℕ × Claim = entry_at bytes c in
    let es : List (ℕ × Claim) = reverse (entries_before bytes c) in
    let on : Contains (on_chain_back (e ∷ es) n) x = subst (λ all. Contains (on_chain_back all n) x) (last_first bytes c) has in
    elim (cases_eq n (suc (length es))) [
      | inl same ↦ elim (first_or_later (claim_of bytes c) x (on_chain_back es (parent_at bytes c)) (subst (λ cs. Contains cs x) (stated_first e es n same) on)) [
        | inl is ↦ (c, omega arith, is)
        | inr waits ↦ let got = some_entry bytes c (parent_at bytes c) x waits in (got.0, omega (arith, got.1), got.2)
      ]
      | inr other ↦
          let got = some_entry bytes c n x (subst (λ cs. Contains cs x) (stated_later e es n other) on) in (got.0, omega (arith, got.1), got.2)
    ]

-- ---- one number after another

pub no_number : (bytes : List ℕ) (at : ℕ) → chain_count bytes < at → numbers_on (entries_of bytes) at ≡ []
no_number bytes at h = none_past (reverse (entries_of bytes)) at (omega (arith, h, count bytes (chain_count bytes)))

pub number_left : (bytes : List ℕ) (at : ℕ) → (at ≡ 0 → ⊥) → at ≤ chain_count bytes → parent_at bytes (at - 1) < at - 1 + 1
    → numbers_on (entries_of bytes) at ≡ at ∷ numbers_on (entries_of bytes) (parent_at bytes (at - 1))
number_left bytes zero some h g = absurd (some refl)
number_left bytes (suc j) some h g =
    let e : suc j - 1 ≡ j = omega arith in
    numbers_go_on bytes (chain_count bytes) j (omega arith) (subst (λ k. parent_at bytes k < k + 1) e g)
    ∙ ap (λ k. suc j ∷ numbers_on (entries_of bytes) (parent_at bytes k)) (sym e)

pub but_first : (es : List (ℕ × Claim)) (at next : ℕ) → numbers_on es at ≡ at ∷ numbers_on es next → next < at
    → (n : ℕ) → Contains (numbers_on es next) n ↔ (Contains (numbers_on es at) n × (n ≢ at))
but_first es at next e less n = (
  λ has. (
    subst (λ ks. Contains ks n) (sym e) (suc has.0, omega (arith, has.1), has.2),
    λ same. omega (arith, same, less, below (reverse es) next n has),
  ),
  λ h. elim (first_or_later at n (numbers_on es next) (subst (λ ks. Contains ks n) e h.0)) [
    | inl same ↦ absurd (h.1 (sym same))
    | inr rest ↦ rest
  ],
)

nothing_in : (ks : List ℕ) (n : ℕ) → ks ≡ [] → Contains ks n → ⊥
nothing_in ks n e has = omega (arith, (subst (λ all. Contains all n) e has).1)

pub but_none : (es : List (ℕ × Claim)) (at : ℕ) → numbers_on es at ≡ []
    → (n : ℕ) → Contains (numbers_on es 0) n ↔ (Contains (numbers_on es at) n × (n ≢ at))
but_none es at e n = (
  λ has. absurd (nothing_in (numbers_on es 0) n (none_at_zero (reverse es)) has),
  λ h. absurd (nothing_in (numbers_on es at) n e h.0),
)

-- ---- what two chains share

abbrev pub Share : List (ℕ × Claim) → ℕ → ℕ → ℕ → ℕ → Type 0
Share es one other first second =
    (n : ℕ) → (Contains (numbers_on es one) n × Contains (numbers_on es other) n)
    ↔ (Contains (numbers_on es first) n × Contains (numbers_on es second) n)

pub step_one : (es : List (ℕ × Claim)) (one other next first second : ℕ) → other < one
    → ((n : ℕ) → Contains (numbers_on es next) n ↔ (Contains (numbers_on es one) n × (n ≢ one))) → Share es one other first second
    → Share es next other first second
step_one es one other next first second less others so n = (
  λ h. (so n).0 (((others n).0 h.0).0, h.1),
  λ h.
      let both = (so n).1 h in
      ((others n).1 (both.0, λ same. omega (arith, same, less, below (reverse es) other n both.1)), both.1),
)

pub step_other : (es : List (ℕ × Claim)) (one other next first second : ℕ) → one < other
    → ((n : ℕ) → Contains (numbers_on es next) n ↔ (Contains (numbers_on es other) n × (n ≢ other))) → Share es one other first second
    → Share es one next first second
step_other es one other next first second less others so n = (
  λ h. (so n).0 (h.0, ((others n).0 h.1).0),
  λ h.
      let both = (so n).1 h in
      (both.0, (others n).1 (both.1, λ same. omega (arith, same, less, below (reverse es) one n both.0))),
)

pub shared_are : (es : List (ℕ × Claim)) (one other first second : ℕ) → one ≡ other → Share es one other first second
    → (n : ℕ) → Contains (numbers_on es one) n ↔ (Contains (numbers_on es first) n × Contains (numbers_on es second) n)
shared_are es one other first second e so n =
    (λ has. (so n).0 (has, subst (λ k. Contains (numbers_on es k) n) e has), λ h. ((so n).1 h).0)

-- ---- in all forms but form 1

pub numbers_are : (bytes : List ℕ) (place : ℕ) → version_of bytes ≢ 1 → numbers_left bytes place ≡ numbers_on (entries_of bytes) place
unfolding numbers_left
numbers_are bytes place form = rw (ne_eqb (version_of bytes) 1 form) refl

pub no_numbers : (bytes : List ℕ) (place : ℕ) → version_of bytes ≡ 1 → numbers_left bytes place ≡ []
unfolding numbers_left
no_numbers bytes place form = rw form refl

pub shared_left : (bytes theirs : List ℕ) (result first second : ℕ) (mine its : List ℕ) → version_of bytes ≢ 1 → bytes ≡ theirs
    → numbers_left bytes first ≡ mine → numbers_left theirs second ≡ its
    → ((n : ℕ) → Contains (numbers_on (entries_of bytes) result) n
    ↔ (Contains (numbers_on (entries_of bytes) first) n × Contains (numbers_on (entries_of bytes) second) n))
    → (n : ℕ) → Contains (numbers_left bytes result) n ↔ (Contains mine n × Contains its n)
shared_left bytes theirs result first second mine its form same m i so n =
    let In : List ℕ → Type 0 = λ ks. Contains ks n in
    let a = numbers_are bytes result form in
    let b = sym (numbers_are bytes first form) ∙ m in
    let d = sym (numbers_are bytes second form) ∙ (ap (λ all. numbers_left all second) same ∙ i) in (
      λ has. let both = (so n).0 (subst In a has) in (subst In b both.0, subst In d both.1),
      λ h. subst In (sym a) ((so n).1 (subst In (sym b) h.0, subst In (sym d) h.1)),
    )

pub none_shared : (bytes : List ℕ) (result place : ℕ) (its : List ℕ) → version_of bytes ≡ 1
    → (n : ℕ) → Contains (numbers_left bytes result) n ↔ (Contains (numbers_left bytes place) n × Contains its n)
none_shared bytes result place its one n = (
  λ has. absurd (nothing_in (numbers_left bytes result) n (no_numbers bytes result one) has),
  λ h. absurd (nothing_in (numbers_left bytes place) n (no_numbers bytes place one) h.0),
)

-- ---- what all entries state

pub no_entries : (bytes : List ℕ) → version_of bytes ≡ 1 → claims_in bytes ≡ []
unfolding claims_in
no_entries bytes form = rw form refl

entries_are : (bytes : List ℕ) → version_of bytes ≢ 1 → claims_in bytes ≡ map (claim_of bytes) (range_with_len 0 (chain_count bytes))
unfolding claims_in
entries_are bytes form = rw (ne_eqb (version_of bytes) 1 form) refl

pub length-claims_in : (bytes : List ℕ) → version_of bytes ≢ 1 → length (claims_in bytes) ≡ chain_count bytes
length-claims_in bytes form = ap length (entries_are bytes form) ∙ length-map-range_with_len (claim_of bytes) 0 (chain_count bytes)

pub claim_at_number : (bytes : List ℕ) (j : ℕ) → version_of bytes ≢ 1 → j < chain_count bytes
    → slice_get (claims_in bytes) j ≡ Some (claim_of bytes j)
claim_at_number bytes j form h =
    slice_get-get_or (claims_in bytes) j (claim_of bytes j) (omega (arith, h, length-claims_in bytes form))
    ∙ ap Some (ap (λ cs. get_or cs j (claim_of bytes j)) (entries_are bytes form)
    ∙ get_or-map-range_with_len (claim_of bytes) 0 (chain_count bytes) j j (claim_of bytes j) h (omega arith))

pub counted : (bytes : List ℕ) (j : ℕ) → j < length (claims_in bytes) → (version_of bytes ≢ 1) × (j < chain_count bytes)
counted bytes j h = elim (cases_eq (version_of bytes) 1) [
  | inl one ↦ absurd (omega (arith, h, ap length (no_entries bytes one)))
  | inr other ↦ (other, omega (arith, h, length-claims_in bytes other))
]

-- what a node claims some entry of its certificate states
pub stated_by_some : (node : NodeView) (x : Claim) → Contains (claims_of node) x → Contains (claims_in (certificate_of node)) x
unfolding claims_of certificate_of
stated_by_some node x has = elim (cases_eq (version_of node.bytes.now) 1) [
  | inl one ↦ absurd (omega (arith, (subst (λ cs. Contains cs x) (no_claims node.bytes.now _ one) has).1))
  | inr other ↦
      let bytes = node.bytes.now in
      let got = some_entry bytes (chain_count bytes) _ x (subst (λ cs. Contains cs x) (claims_are bytes _ other) has) in
      let at = claim_at_number bytes got.0 other got.1 ∙ ap Some got.2 in
      (got.0, slice_get_within (claims_in bytes) got.0 x at, get_or_from_slice_get (claims_in bytes) got.0 x x at)
]
