-- What an entry states: what is judged sound is spelled so, and what is spelled is read and is not bad.
use Rattle.std.proofs.Common.{◌≡◌, ℕ, ◌+◌, ◌<◌, ◌≤◌, ◌^◌, Bool, true, false, cond, eqb, List, ◌∷◌, ◌++◌, length, refl, ap, sym, ◌∙◌}
use Rattle.std.proofs.Common.{subst, inl, inr, arith}
use Rattle.std.specs.Prelude.{◌≢◌, slice_index}
use Rattle.std.proofs.lemmas.Bool.{ne_eqb, cases_eq}
use Rattle.byteorder.specs.Endian.{little_bytes}
use Rattle.cert_state.specs.declared.literal.Lit.{Lit}
use Rattle.cert_state.specs.declared.literal.Lit.TheVariants.{In, Bits, NotBits}
use Rattle.cert_form.specs.declared.node.Claim.{Claim}
use Rattle.cert_form.specs.declared.node.Claim.TheVariants.{Knows, Out, Met}
use Rattle.cert_form.specs.Spelling.{literal, claim, IsClaim}
use Rattle.cert_form.specs.Reading.{long_at, literal_at, claim_at, version_of}
use Rattle.cert_form.specs.Faults.{SaysOut, SaysMet, IsBadClaim}
use Rattle.cert_form.specs.inner.Standing.{Stands, IsLiteralThere, IsClaimThere}
use Rattle.cert_form.proofs.StandLaws.{AreBytes, both, other, ended, byte_is, long_stands, long_below}
use Rattle.cert_form.proofs.PartLaws.{length-literal, literal_is, literal_not_bad, fields_are, second_is, pair_stands}

pub length-claim : (c : Claim) → length (claim c) ≡ 10
length-claim (Knows l) = length-literal l
length-claim (Out i) = refl
length-claim (Met i j) = refl

-- where no rule is said to be out, a literal is read
pub in_other_form : (bytes : List ℕ) (at : ℕ) → version_of bytes ≢ 4 → claim_at bytes at ≡ Knows (literal_at bytes at)
unfolding claim_at
in_other_form bytes at form = rw (ne_eqb (version_of bytes) 4 form) refl

with_other_tag : (bytes : List ℕ) (at : ℕ) → slice_index bytes at ≢ 4 → slice_index bytes at ≢ 5
    → claim_at bytes at ≡ Knows (literal_at bytes at)
unfolding claim_at
with_other_tag bytes at not_4 not_5 =
    rw (ne_eqb (slice_index bytes at) 4 not_4, ne_eqb (slice_index bytes at) 5 not_5) (by_form (eqb (version_of bytes) 4)) where
      by_form : (b : Bool) → cond b (Knows (literal_at bytes at)) (Knows (literal_at bytes at)) ≡ Knows (literal_at bytes at)
      by_form true = refl
      by_form false = refl

says_literal : (bytes : List ℕ) (at : ℕ) → at < length bytes → (SaysOut bytes at → ⊥) → (SaysMet bytes at → ⊥)
    → claim_at bytes at ≡ Knows (literal_at bytes at)
says_literal bytes at room no_out no_met = elim (cases_eq (version_of bytes) 4) [
  | inl form ↦ with_other_tag bytes at (λ tag. no_out (record { there = room; form = form; is = tag }))
      (λ tag. no_met (record { there = room; form = form; is = tag }))
  | inr form ↦ in_other_form bytes at form
]

-- where one is, that is read
says_out : (bytes : List ℕ) (at : ℕ) → version_of bytes ≡ 4 → slice_index bytes at ≡ 4 → claim_at bytes at ≡ Out (long_at bytes (at + 2))
unfolding claim_at
says_out bytes at form tag = rw (form, tag) refl

says_met : (bytes : List ℕ) (at : ℕ) → version_of bytes ≡ 4 → slice_index bytes at ≡ 5
    → claim_at bytes at ≡ Met (long_at bytes (at + 2)) (long_at bytes (at + 6))
unfolding claim_at
says_met bytes at form tag = rw (form, tag) refl

-- ---- what is judged sound is spelled so

pub literal_claim : (bytes : List ℕ) (at : ℕ) → (SaysOut bytes at → ⊥) → (SaysMet bytes at → ⊥) → IsLiteralThere bytes at
    → IsClaimThere bytes at
literal_claim bytes at no_out no_met l =
    let e = says_literal bytes at (omega (arith, l.stands.ends, l.stands.room, length-literal (literal_at bytes at))) no_out no_met in
    record {
      stands = subst (λ c. Stands bytes at (claim c) (at + 10)) (sym e) l.stands;
      good = subst (λ c. IsClaim (version_of bytes) c) (sym e) l.good;
    }

pub out_claim : (bytes : List ℕ) (at : ℕ) → AreBytes bytes → SaysOut bytes at → at + 10 ≤ length bytes → slice_index bytes (at + 1) ≡ 0
    → long_at bytes (at + 6) ≡ 0 → IsClaimThere bytes at
out_claim bytes at small out room word number =
    let place : ℕ = long_at bytes (at + 2) in
    let e = says_out bytes at out.form out.is in
    let second : Stands bytes (at + 6) (little_bytes 4 (long_at bytes (at + 6))) (at + 10) =
    ended bytes (at + 6) _ (at + 6 + 4) (at + 10) (long_stands bytes (at + 6) small (omega arith)) (omega arith) in
    let fields : slice_index bytes at ∷ slice_index bytes (at + 1) ∷ little_bytes 4 place ++ little_bytes 4 (long_at bytes (at + 6))
    ≡ claim (Out place) = rw (out.is, word, number) refl in
    record {
      stands = subst (λ c. Stands bytes at (claim c) (at + 10)) (sym e) (other bytes at _ _ (at + 10)
          (both bytes at _ (at + 6) (at + 6) _ (at + 10) (pair_stands bytes at small (omega arith)) second refl) fields);
      good = subst (λ c. IsClaim (version_of bytes) c) (sym e) (out.form, long_below bytes (at + 2) small);
    }

pub met_claim : (bytes : List ℕ) (at : ℕ) → AreBytes bytes → SaysMet bytes at → at + 10 ≤ length bytes → slice_index bytes (at + 1) ≡ 0
    → IsClaimThere bytes at
met_claim bytes at small met room word =
    let i : ℕ = long_at bytes (at + 2) in
    let j : ℕ = long_at bytes (at + 6) in
    let e = says_met bytes at met.form met.is in
    let second : Stands bytes (at + 6) (little_bytes 4 j) (at + 10) =
    ended bytes (at + 6) _ (at + 6 + 4) (at + 10) (long_stands bytes (at + 6) small (omega arith)) (omega arith) in
    let fields : slice_index bytes at ∷ slice_index bytes (at + 1) ∷ little_bytes 4 i ++ little_bytes 4 j
    ≡ claim (Met i j) = rw (met.is, word) refl in
    record {
      stands = subst (λ c. Stands bytes at (claim c) (at + 10)) (sym e) (other bytes at _ _ (at + 10)
          (both bytes at _ (at + 6) (at + 6) _ (at + 10) (pair_stands bytes at small (omega arith)) second refl) fields);
      good = subst (λ c. IsClaim (version_of bytes) c) (sym e) (met.form, long_below bytes (at + 2) small, long_below bytes (at + 6) small);
    }

-- ---- what is spelled is read and is not bad

tag_of : (bytes : List ℕ) (at : ℕ) (l : Lit) (end : ℕ) → Stands bytes at (literal l) end → slice_index bytes at ≤ 3
tag_of bytes at (In w p q) end s = omega (arith, byte_is bytes at 1 _ end s)
tag_of bytes at (Bits w m d) end s = omega (arith, byte_is bytes at 2 _ end s)
tag_of bytes at (NotBits w m d) end s = omega (arith, byte_is bytes at 3 _ end s)

out_fields : (bytes : List ℕ) (at i end : ℕ) → Stands bytes at (claim (Out i)) end → i < 2 ^ 32
    → (slice_index bytes at ≡ 4) × (slice_index bytes (at + 1) ≡ 0) × (long_at bytes (at + 2) ≡ i)
out_fields bytes at i end s h = fields_are bytes at 4 0 i (little_bytes 4 0) end s h

met_fields : (bytes : List ℕ) (at i j end : ℕ) → Stands bytes at (claim (Met i j)) end → i < 2 ^ 32
    → (slice_index bytes at ≡ 5) × (slice_index bytes (at + 1) ≡ 0) × (long_at bytes (at + 2) ≡ i)
met_fields bytes at i j end s h = fields_are bytes at 5 0 i (little_bytes 4 j) end s h

pub claim_is : (bytes : List ℕ) (at version : ℕ) (c : Claim) (end : ℕ) → Stands bytes at (claim c) end → IsClaim version c
    → version_of bytes ≡ version → claim_at bytes at ≡ c
claim_is bytes at version (Knows l) end s h form =
    with_other_tag bytes at (λ four. omega (arith, four, tag_of bytes at l end s)) (λ five. omega (arith, five, tag_of bytes at l end s))
    ∙ ap Knows (literal_is bytes at l end s h)
claim_is bytes at version (Out i) end s h form =
    let f = out_fields bytes at i end s h.1 in says_out bytes at (form ∙ h.0) f.0 ∙ ap Out f.2
claim_is bytes at version (Met i j) end s h form =
    let f = met_fields bytes at i j end s h.1 in
    says_met bytes at (form ∙ h.0) f.0 ∙ (ap (λ k. Met k (long_at bytes (at + 6))) f.2 ∙ ap (Met i) (second_is bytes at 5 0 i j end s h.2))

pub claim_not_bad : (bytes : List ℕ) (at version : ℕ) (c : Claim) (end : ℕ) → Stands bytes at (claim c) end → IsClaim version c
    → version_of bytes ≡ version → IsBadClaim bytes at → ⊥
claim_not_bad bytes at version (Knows l) end s h form (IsBadClaim.literal no_out no_met bad) = literal_not_bad bytes at l end s h bad
claim_not_bad bytes at version (Knows l) end s h form (IsBadClaim.unused_word (inl out) room bad) =
    omega (arith, out.is, tag_of bytes at l end s)
claim_not_bad bytes at version (Knows l) end s h form (IsBadClaim.unused_word (inr met) room bad) =
    omega (arith, met.is, tag_of bytes at l end s)
claim_not_bad bytes at version (Knows l) end s h form (IsBadClaim.unused_number out room bad) =
    omega (arith, out.is, tag_of bytes at l end s)
claim_not_bad bytes at version (Out i) end s h form (IsBadClaim.literal no_out no_met bad) =
    let f = out_fields bytes at i end s h.1 in
    no_out (record { there = omega (arith, s.ends, s.room, length-claim (Out i)); form = form ∙ h.0; is = f.0 })
claim_not_bad bytes at version (Out i) end s h form (IsBadClaim.unused_word says room bad) =
    let f = out_fields bytes at i end s h.1 in bad f.1
claim_not_bad bytes at version (Out i) end s h form (IsBadClaim.unused_number out room bad) =
    bad (second_is bytes at 4 0 i 0 end s (omega arith))
claim_not_bad bytes at version (Met i j) end s h form (IsBadClaim.literal no_out no_met bad) =
    let f = met_fields bytes at i j end s h.1 in
    no_met (record { there = omega (arith, s.ends, s.room, length-claim (Met i j)); form = form ∙ h.0; is = f.0 })
claim_not_bad bytes at version (Met i j) end s h form (IsBadClaim.unused_word says room bad) =
    let f = met_fields bytes at i j end s h.1 in bad f.1
claim_not_bad bytes at version (Met i j) end s h form (IsBadClaim.unused_number out room bad) =
    let f = met_fields bytes at i j end s h.1 in omega (arith, out.is, f.0)
