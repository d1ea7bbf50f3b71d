-- How many tokens the first machines of a list have.
use Rattle.std.proofs.Common.{◌≡◌, ℕ, zero, suc, ◌==◌, ◌+◌, ◌-◌, ◌<◌, ◌≤◌, Bool, true, false, List, [], ◌∷◌, ◌++◌, length, refl, sym, ◌∙◌, ap, arith, inl, inr, subst}
use Rattle.std.proofs.Common.{take, get_or}
use Rattle.std.specs.Prelude.{◌||◌, if◌then◌else◌, Some, slice_get}
use Rattle.std.proofs.lemmas.Bool.{cases_eq, eq-eqb, ne_eqb}
use Rattle.std.proofs.lemmas.List.{take_all, take_more}
use Rattle.std.proofs.lemmas.List.Folds.{list_any-append}
use Rattle.machines.specs.declared.arch.Arch.{Arch}
use Rattle.machines.specs.Arch.{token_of}
use Rattle.rule_compile.specs.Shape.{has_token, tokens}

-- one more, unless it is there
abbrev one_more : Bool → ℕ → ℕ
one_more there n = if there then n else suc n

commute : (a b : Bool) (n : ℕ) → one_more a (one_more b n) ≡ one_more b (one_more a n)
commute true true n = refl
commute true false n = refl
commute false true n = refl
commute false false n = refl

or_true : (b : Bool) → (b || true) ≡ true
or_true true = refl
or_true false = refl

or_false : (b : Bool) → (b || false) ≡ b
or_false true = refl
or_false false = refl

one_has : (t : ℕ) (a : Arch) → (token_of a == t) ≡ true → has_token t (a ∷ []) ≡ true
one_has t a h = rw h refl

one_lacks : (t : ℕ) (a : Arch) → (token_of a == t) ≡ false → has_token t (a ∷ []) ≡ false
one_lacks t a h = rw h refl

-- a machine before or behind others with its token, and with another
behind_has : (t : ℕ) (xs : List Arch) (a : Arch) → token_of a ≡ t → has_token t (xs ++ a ∷ []) ≡ true
behind_has t xs a same =
    list_any-append (λ b. token_of b == t) xs (a ∷ [])
    ∙ ap (λ b. has_token t xs || b) (one_has t a (eq-eqb (token_of a) t same)) ∙ or_true (has_token t xs)

behind_lacks : (t : ℕ) (xs : List Arch) (a : Arch) → (token_of a ≡ t → ⊥) → has_token t (xs ++ a ∷ []) ≡ has_token t xs
behind_lacks t xs a differ =
    list_any-append (λ b. token_of b == t) xs (a ∷ [])
    ∙ ap (λ b. has_token t xs || b) (one_lacks t a (ne_eqb (token_of a) t differ)) ∙ or_false (has_token t xs)

before_has : (t : ℕ) (a : Arch) (xs : List Arch) → token_of a ≡ t → has_token t (a ∷ xs) ≡ true
before_has t a xs same =
    list_any-append (λ b. token_of b == t) (a ∷ []) xs ∙ ap (λ b. b || has_token t xs) (one_has t a (eq-eqb (token_of a) t same))

before_lacks : (t : ℕ) (a : Arch) (xs : List Arch) → (token_of a ≡ t → ⊥) → has_token t (a ∷ xs) ≡ has_token t xs
before_lacks t a xs differ =
    list_any-append (λ b. token_of b == t) (a ∷ []) xs ∙ ap (λ b. b || has_token t xs) (one_lacks t a (ne_eqb (token_of a) t differ))

-- a machine more, behind the others
tokens_push : (xs : List Arch) (a : Arch) → tokens (xs ++ a ∷ []) ≡ one_more (has_token (token_of a) xs) (tokens xs)
tokens_push [] a = refl
tokens_push (x ∷ xs) a =
    let rest = tokens_push xs a in
    let c = has_token (token_of a) xs in
    elim (cases_eq (token_of a) (token_of x)) [
      | inl same ↦
          ap (λ b. one_more b (tokens (xs ++ a ∷ []))) (behind_has (token_of x) xs a same)
          ∙ rest ∙ ap (λ t. one_more (has_token t xs) (tokens xs)) same
          ∙ sym (ap (λ b. one_more b (tokens (x ∷ xs))) (before_has (token_of a) x xs (sym same)))
      | inr differ ↦
          ap (λ b. one_more b (tokens (xs ++ a ∷ []))) (behind_lacks (token_of x) xs a differ)
          ∙ ap (one_more (has_token (token_of x) xs)) rest
          ∙ commute (has_token (token_of x) xs) c (tokens xs)
          ∙ sym (ap (λ b. one_more b (tokens (x ∷ xs))) (before_lacks (token_of a) x xs (λ e. differ (sym e))))
    ]

at_least : (b : Bool) (n : ℕ) → n ≤ one_more b n
at_least true n = omega arith
at_least false n = omega arith

-- the first machines have no more tokens than more of them
pub first_fewer : (machines : List Arch) (at : ℕ) → at < length machines → tokens (take at machines) ≤ tokens (take (at + 1) machines)
first_fewer [] at inside = absurd (omega (arith, inside))
first_fewer (m ∷ ms) at inside =
    let all = m ∷ ms in
    let a = get_or all at m in
    let e = ap tokens (take_more all at m inside) ∙ tokens_push (take at all) a in
    let more = at_least (has_token (token_of a) (take at all)) (tokens (take at all)) in
    omega (arith, e, more)

upto : (machines : List Arch) (d at : ℕ) → at + d ≡ length machines → tokens (take at machines) ≤ tokens machines
upto machines zero at is =
    let whole = ap tokens (take_all at machines (omega (arith, is))) in
    omega (arith, whole)
upto machines (suc d) at is =
    let more = first_fewer machines at (omega (arith, is)) in
    let rest = upto machines d (at + 1) (omega (arith, is)) in
    omega (arith, more, rest)

pub first_tokens : (machines : List Arch) (at : ℕ) → at ≤ length machines → tokens (take at machines) ≤ tokens machines
first_tokens machines at inside = upto machines (length machines - at) at (omega (arith, inside))

-- where a machine's token is none of those before, there is one more
pub new_token : (machines : List Arch) (at : ℕ) (a d : Arch) → at < length machines → get_or machines at d ≡ a
    → has_token (token_of a) (take at machines) ≡ false → tokens (take (at + 1) machines) ≡ tokens (take at machines) + 1
new_token machines at a d inside is lacks =
    ap tokens (take_more machines at d inside) ∙ ap (λ x. tokens (take at machines ++ x ∷ [])) is
    ∙ tokens_push (take at machines) a
    ∙ ap (λ b. one_more b (tokens (take at machines))) lacks ∙ omega arith

-- a token that none of the first machines has
pub fresh_token : (machines : List Arch) (at t : ℕ) → ((k : ℕ) (a : Arch) → k < at → slice_get machines k ≡ Some a → token_of a ≡ t → ⊥)
    → has_token t (take at machines) ≡ false
fresh_token machines zero t none = refl
fresh_token [] (suc at) t none = refl
fresh_token (m ∷ ms) (suc at) t none =
    before_lacks t m (take at ms) (λ e. none 0 m (omega arith) refl e)
    ∙ fresh_token ms at t (λ k a less is e. none (suc k) a (omega (arith, less)) is e)

-- the same of two lengths
steps : (machines : List Arch) (d at : ℕ) → at + d ≤ length machines → tokens (take at machines) ≤ tokens (take (at + d) machines)
steps machines zero at inside = let e : at + 0 ≡ at = omega arith in rw e (omega arith)
steps machines (suc d) at inside =
    let one = first_fewer machines at (omega (arith, inside)) in
    let rest = steps machines d (at + 1) (omega (arith, inside)) in
    let e : at + suc d ≡ at + 1 + d = omega arith in
    rw e (omega (arith, one, rest))

pub fewer_before : (machines : List Arch) (a b : ℕ) → a ≤ b → b ≤ length machines → tokens (take a machines) ≤ tokens (take b machines)
fewer_before machines a b less inside =
    let e : a + (b - a) ≡ b = omega (arith, less) in
    subst (λ n. tokens (take a machines) ≤ tokens (take n machines)) e (steps machines (b - a) a (omega (arith, less, inside)))
