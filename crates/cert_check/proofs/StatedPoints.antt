-- Where each word of a record is stated, each word has one point, and what is true of it follows.
use Rattle.std.proofs.Common.{◌≡◌, ◌≢◌, ℕ, ◌<◌, ◌≤◌, List, get_or, sym, subst, ◌∙◌, inr, arith, refl}
use Rattle.std.specs.Prelude.{bit_and, All}
use Rattle.std.proofs.lemmas.List.Elements.{All-contains}
use Rattle.call_record.specs.Words.{IsRecord, word}
use Rattle.cert_state.specs.declared.literal.Lit.{Lit}
use Rattle.cert_state.specs.declared.literal.Lit.TheVariants.{In, Bits, NotBits}
use Rattle.cert_state.specs.Literals.{all_bits, index_of, Holds, Meets}
use Rattle.cert_state.specs.Points.{IsPoint, IsRange, IsWhole}
use Rattle.cert_state.specs.Entailment.{Entails}
use Rattle.cert_state.proofs.BitLaws.{and_all}
use Rattle.cert_check.specs.Settled.{AreStated}

module _ (r : List ℕ) (rec : IsRecord r) (known : List Lit) (so : All (λ l. Holds l r) known) (stated : AreStated known r) where
  -- the word itself is a point
  point : (w : ℕ) → IsPoint known w (word r w)
  point w = (rec.words w, λ k d lt e n. subst (λ v. Meets (get_or known k d) (word r v)) e (so k d lt))

  -- and the only one
  only : (w v : ℕ) → w < 16 → IsPoint known w v → v ≡ word r w
  only w v inside p =
      let asks : bit_and v all_bits ≡ word r w =
      All-contains (λ l. index_of l ≡ w → IsWhole l → Meets l v) known (Bits w all_bits (word r w)) p.1 (stated w inside) refl refl in
      sym (and_all v p.0) ∙ asks

  pub one_point : (w : ℕ) → w < 16 → IsRange known w (word r w) (word r w)
  one_point w inside = record {
    least = point w;
    greatest = point w;
    between = λ v p. let same = only w v inside p in (omega (arith, same), omega (arith, same));
  }

  -- it has the datum that it has under a mask, no other, and lies where it lies
  pub bits_follow : (w m d : ℕ) → w < 16 → bit_and (word r w) m ≡ d → Entails known (Bits w m d)
  bits_follow w m d inside is = inr (inr (record { point = word r w; range = one_point w inside; datum = is }))

  pub other_follows : (w m d : ℕ) → w < 16 → bit_and (word r w) m ≢ d → Entails known (NotBits w m d)
  other_follows w m d inside differs = inr (inr (inr (record {
    lo = word r w;
    hi = word r w;
    range = one_point w inside;
    missed = λ u from to is.
        let same : u ≡ word r w = omega (arith, from, to) in differs (subst (λ x. bit_and x m ≡ d) same is);
  })))

  pub between_follows : (w a b : ℕ) → w < 16 → a ≤ word r w → word r w ≤ b → Entails known (In w a b)
  between_follows w a b inside from to =
      inr (record { lo = word r w; hi = word r w; range = one_point w inside; from = from; to = to })

  -- the same of all its bits
  pub word_follows : (w n : ℕ) → w < 16 → word r w ≡ n → Entails known (Bits w all_bits n)
  word_follows w n inside is = bits_follow w all_bits n inside (and_all (word r w) (rec.words w) ∙ is)

  pub another_follows : (w n : ℕ) → w < 16 → word r w ≢ n → Entails known (NotBits w all_bits n)
  another_follows w n inside differs =
      other_follows w all_bits n inside (λ is. differs (sym (and_all (word r w) (rec.words w)) ∙ is))
