-- The stated of a chain, one entry after another.
use Rattle.std.proofs.Common.{◌≡◌, ℕ, zero, suc, ◌+◌, ◌-◌, ◌*◌, ◌<◌, ◌≤◌, Bool, true, false, cond, eqb, List, [], ◌∷◌, length, reverse}
use Rattle.std.proofs.Common.{refl, ap, sym, ◌∙◌, subst, arith, inl, inr}
use Rattle.std.proofs.lemmas.Bool.{eqb-false, ne_eqb, cases_lt}
use Rattle.std.specs.Prelude.{◌⊎◌}
use Rattle.std.proofs.lemmas.List.{reverse-append}
use Rattle.cert_form.specs.declared.node.Claim.{Claim}
use Rattle.cert_form.specs.Nodes.{on_chain_back, on_chain}
use Rattle.cert_form.specs.Reading.{claim_at, parent_at, entry_at, entries_before}

-- the entry of the greatest number, and the others
here : (e : ℕ × Claim) (es : List (ℕ × Claim)) (n : ℕ) → n ≡ length es → on_chain_back (e ∷ es) (suc n) ≡ e.1 ∷ on_chain_back es e.0
here e es n h = by_test (eqb (suc n) (suc (length es))) refl where
  by_test : (b : Bool) → eqb (suc n) (suc (length es)) ≡ b
      → cond b (e.1 ∷ on_chain_back es e.0) (on_chain_back es (suc n)) ≡ e.1 ∷ on_chain_back es e.0
  by_test true t = refl
  by_test false t = absurd (eqb-false (suc n) (suc (length es)) t (ap suc h))

before : (e : ℕ × Claim) (es : List (ℕ × Claim)) (n : ℕ) → n ≤ length es → on_chain_back (e ∷ es) n ≡ on_chain_back es n
before e es n h = rw (ne_eqb n (suc (length es)) (λ g. omega (arith, g))) refl

-- no entry has the number 0, or a number above all
pub none_at_zero : (es : List (ℕ × Claim)) → on_chain_back es 0 ≡ []
none_at_zero [] = refl
none_at_zero (e ∷ es) = before e es 0 (omega arith) ∙ none_at_zero es

pub none_past : (es : List (ℕ × Claim)) (n : ℕ) → length es < n → on_chain_back es n ≡ []
none_past [] n h = refl
none_past (e ∷ es) n h = rw (ne_eqb n (suc (length es)) (λ g. omega (arith, g))) (none_past es n (omega arith))

-- the entries of a file, the last one first
pub count : (bytes : List ℕ) (c : ℕ) → length (reverse (entries_before bytes c)) ≡ c
count bytes zero = refl
count bytes (suc c) = ap length (reverse-append (entries_before bytes c) (entry_at bytes c ∷ [])) ∙ ap suc (count bytes c)

pub last_first : (bytes : List ℕ) (c : ℕ) → reverse (entries_before bytes (suc c)) ≡ entry_at bytes c ∷ reverse (entries_before bytes c)
last_first bytes c = reverse-append (entries_before bytes c) (entry_at bytes c ∷ [])

later : (bytes : List ℕ) (c n : ℕ) → n ≤ c → on_chain (entries_before bytes (suc c)) n ≡ on_chain (entries_before bytes c) n
later bytes c n h =
    ap (λ es. on_chain_back es n) (last_first bytes c) ∙ before (entry_at bytes c) (reverse (entries_before bytes c)) n
    (omega (arith, count bytes c))

last : (bytes : List ℕ) (c : ℕ)
    → on_chain (entries_before bytes (suc c)) (suc c) ≡ claim_at bytes (16 + 14 * c + 4) ∷ on_chain (entries_before bytes c)
    (parent_at bytes c)
last bytes c =
    ap (λ es. on_chain_back es (suc c)) (last_first bytes c)
    ∙ here (entry_at bytes c) (reverse (entries_before bytes c)) c (sym (count bytes c))

-- a chain is what its entry states, and then the chain of the parent
pub chain_goes_on : (bytes : List ℕ) (c j : ℕ) → j < c → parent_at bytes j < j + 1
    → on_chain (entries_before bytes c) (suc j) ≡ claim_at bytes (16 + 14 * j + 4) ∷ on_chain (entries_before bytes c) (parent_at bytes j)
chain_goes_on bytes zero j h g = absurd (omega arith)
chain_goes_on bytes (suc c) j h g = by_place (cases_lt j c) (λ less. chain_goes_on bytes c j less g) where
  Goes : ℕ → Type 0
  Goes k = on_chain (entries_before bytes (suc c)) (suc k) ≡ claim_at bytes (16 + 14 * k + 4) ∷ on_chain (entries_before bytes (suc c))
      (parent_at bytes k)

  at_last : parent_at bytes c < c + 1 → Goes c
  at_last own = last bytes c ∙ ap (λ ls. claim_at bytes (16 + 14 * c + 4) ∷ ls) (sym (later bytes c (parent_at bytes c) (omega arith)))

  by_place : (j < c) ⊎ (c ≤ j)
      → (j < c → on_chain (entries_before bytes c) (suc j) ≡ claim_at bytes (16 + 14 * j + 4) ∷ on_chain (entries_before bytes c)
      (parent_at bytes j))
      → Goes j
  by_place (inl less) rest =
      later bytes c (suc j) (omega arith) ∙ (rest less
      ∙ ap (λ ls. claim_at bytes (16 + 14 * j + 4) ∷ ls) (sym (later bytes c (parent_at bytes j) (omega arith))))
  by_place (inr more) rest =
      let same : c ≡ j = omega arith in
      subst Goes same (at_last (subst (λ k. parent_at bytes k < k + 1) (sym same) g))

-- a chain from an entry states something
pub some_claim : (bytes : List ℕ) (c n : ℕ) → (n ≡ 0 → ⊥) → n ≤ c → parent_at bytes (n - 1) < n - 1 + 1
    → length (on_chain (entries_before bytes c) n) ≡ 1 + length (on_chain (entries_before bytes c) (parent_at bytes (n - 1)))
some_claim bytes c zero some h g = absurd (some refl)
some_claim bytes c (suc j) some h g =
    let e : suc j - 1 ≡ j = omega arith in
    let at_j : parent_at bytes j < j + 1 = subst (λ k. parent_at bytes k < k + 1) e g in
    let goes = ap length (chain_goes_on bytes c j (omega arith) at_j) in
    omega (arith, goes, ap (λ k. length (on_chain (entries_before bytes c) (parent_at bytes k))) e)

-- none from 0
pub no_claim : (bytes : List ℕ) (c : ℕ) → on_chain (entries_before bytes c) 0 ≡ []
no_claim bytes c = none_at_zero (reverse (entries_before bytes c))
