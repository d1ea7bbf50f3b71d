-- What follows from literals is true of each record of which they are, and dead ones are true of none.
use Rattle.std.proofs.Common.{◌≡◌, ℕ, List, [], ◌∷◌, get_or, sym, ap, ◌∙◌, subst, inl, inr, ⊎_elim, arith}
use Rattle.std.specs.Prelude.{bit_and, bit_or, bit_xor, All}
use Rattle.std.specs.List.{AllByRecursion}
use Rattle.std.specs.Int.Bits.{and_zero_r, and_comm}
use Rattle.std.proofs.lemmas.List.Elements.{All-contains, recursion_from_All}
use Rattle.std.proofs.lemmas.Bool.{cases_eq, eq-eqb, ne_eqb}
use Rattle.call_record.specs.Words.{IsRecord, word}
use Rattle.cert_state.specs.declared.literal.Lit.{Lit}
use Rattle.cert_state.specs.declared.literal.Lit.TheVariants.{In, Bits, NotBits}
use Rattle.cert_state.specs.Literals.{Meets, Holds}
use Rattle.cert_state.specs.Points.{IsPoint, AreKnown, mask_of, datum_of}
use Rattle.cert_state.specs.Entailment.{Derives, Entails, IsDeadAt, IsDead}
use Rattle.cert_state.proofs.BitLaws.{and_assoc, and_or, agree_on_both}

-- a word under the union of its masks is the union of its data
masks_are : (r : List ℕ) (w : ℕ) (lits : List Lit) → AllByRecursion (λ l. Holds l r) lits
    → bit_and (word r w) (mask_of lits w) ≡ datum_of lits w
masks_are r w [] h = and_zero_r (word r w)
masks_are r w (In v lo hi ∷ lits) h = masks_are r w lits h.1
masks_are r w (NotBits v m d ∷ lits) h = masks_are r w lits h.1
masks_are r w (Bits v m d ∷ lits) h = ⊎_elim
    (λ (e : v ≡ w). rw (eq-eqb v w e)
    (and_or (word r w) m (mask_of lits w)
    ∙ ap (λ n. bit_or n (bit_and (word r w) (mask_of lits w))) (subst (λ n. bit_and (word r n) m ≡ d) e h.0)
    ∙ ap (λ n. bit_or d n) (masks_are r w lits h.1)))
    (λ (ne : v ≡ w → ⊥). rw (ne_eqb v w ne) (masks_are r w lits h.1))
    (cases_eq v w)

module _ (r : List ℕ) (rec : IsRecord r) (lits : List Lit) (known : All (λ l. Holds l r) lits) where
  point : (w : ℕ) → IsPoint lits w (word r w)
  point w = (rec.words w, λ k d lt e n. subst (λ v. Meets (get_or lits k d) (word r v)) e (known k d lt))

  masks : (w : ℕ) → bit_and (word r w) (mask_of lits w) ≡ datum_of lits w
  masks w = masks_are r w lits (recursion_from_All (λ l. Holds l r) lits known)

  -- what the Bits of a word say of it under a mask
  pub under : (w m d : ℕ) → AreKnown lits w m d → bit_and (word r w) m ≡ d
  under w m d h =
      ap (λ n. bit_and (word r w) n) (sym h.within ∙ and_comm m (mask_of lits w))
      ∙ sym (and_assoc (word r w) (mask_of lits w) m)
      ∙ ap (λ n. bit_and n m) (masks w)
      ∙ h.datum

  derived_is_true : (l : Lit) → Derives lits l → Holds l r
  derived_is_true (In w a b) h =
      let between = h.range.between (word r w) (point w) in
      let from = h.from in
      let to = h.to in
      (omega (arith, between, from), omega (arith, between, to))
  derived_is_true (Bits w m d) (inl h) = under w m d h
  derived_is_true (Bits w m d) (inr h) =
      let between = h.range.between (word r w) (point w) in
      let same : word r w ≡ h.point = omega (arith, between) in
      ap (λ n. bit_and n m) same ∙ h.datum
  derived_is_true (NotBits w m d) (inl h) = λ e.
      h (ap (λ n. bit_and (bit_and (mask_of lits w) m) (bit_xor n d)) (sym (masks w))
      ∙ ap (λ n. bit_and (bit_and (mask_of lits w) m) (bit_xor (bit_and (word r w) (mask_of lits w)) n)) (sym e)
      ∙ agree_on_both (word r w) (mask_of lits w) m)
  derived_is_true (NotBits w m d) (inr (inl h)) = λ is.
      All-contains (λ l. Holds l r) lits (NotBits w h.mask h.datum) known h.stated
      (ap (λ k. bit_and (word r w) k) (sym h.within ∙ and_comm h.mask m)
      ∙ sym (and_assoc (word r w) m h.mask) ∙ ap (λ k. bit_and k h.mask) is ∙ h.same)
  derived_is_true (NotBits w m d) (inr (inr h)) =
      let between = h.range.between (word r w) (point w) in h.missed (word r w) between.0 between.1

  pub entailed_is_true : (l : Lit) → Entails lits l → Holds l r
  entailed_is_true l (inl has) = All-contains (λ l. Holds l r) lits l known has
  entailed_is_true l (inr h) = derived_is_true l h

  dead_at_none : (w : ℕ) → IsDeadAt lits w → ⊥
  dead_at_none w (inl none) = none (word r w) (point w)
  dead_at_none w (inr (inl h)) =
      let p = All-contains (λ l. Holds l r) lits (Bits w h.mask h.datum) known h.one in
      let q = All-contains (λ l. Holds l r) lits (Bits w h.other_mask h.other_datum) known h.other in
      h.differ
      (ap (λ k. bit_and (bit_and h.mask h.other_mask) (bit_xor k h.other_datum)) (sym p)
      ∙ ap (λ k. bit_and (bit_and h.mask h.other_mask) (bit_xor (bit_and (word r w) h.mask) k)) (sym q)
      ∙ agree_on_both (word r w) h.mask h.other_mask)
  dead_at_none w (inr (inr (inl h))) =
      let between = h.range.between (word r w) (point w) in h.missed (word r w) between.0 between.1 (masks w)
  dead_at_none w (inr (inr (inr h))) =
      All-contains (λ l. Holds l r) lits (NotBits w h.mask h.datum) known h.stated
      (under w h.mask h.datum (record { within = h.within; datum = h.same }))

  pub dead_is_none : IsDead lits → ⊥
  dead_is_none (w, below, h) = dead_at_none w h
