-- Parts of a table of literals, as it is filled.
use Rattle.std.proofs.Common.{◌≡◌, ℕ, ◌-◌, ◌*◌, ◌%◌, ◌^◌, ◌<◌, ◌≤◌, ◌∷◌, ◌++◌, length, List, sym, subst, ap, ◌∙◌, arith, inl, inr, take, drop}
use Rattle.std.specs.Prelude.{bit_or, slice_range}
use Rattle.std.specs.Int.{bit_at, w64}
use Rattle.std.proofs.lemmas.Bool.{cases_eq}
use Rattle.std.proofs.lemmas.Nat.Bits.{bit_at_set_same, bit_at_set_other}
use Rattle.std.proofs.lemmas.List.{drop-take, take-take, length-take-le}
use Rattle.std.proofs.Math.Seq.{drop-append_seam}
use Rattle.cert_state.specs.declared.literal.Lit.{Lit}
use Rattle.cert_state.specs.declared.sorted.Part.{Part}
use Rattle.cert_state.specs.Literals.{index_of}
use Rattle.cert_state.specs.inner.Sorted.{IsPartOf, of_word}
use Rattle.cert_state.proofs.WordLaws.{other_first}

-- a part is what a front has past a place
part_of_front : (xs : List Lit) (a b : ℕ) → a ≤ b → slice_range xs a b ≡ drop a (take b xs)
part_of_front xs a b le = sym (drop-take a (b - a) xs) ∙ ap (λ n. drop a (take n xs)) (omega arith)

-- tables of one front have the parts within it in common
pub same_part : (xs ys : List Lit) (n a b : ℕ) → a ≤ b → b ≤ n → take n xs ≡ take n ys → slice_range xs a b ≡ slice_range ys a b
same_part xs ys n a b le within same =
    part_of_front xs a b le
    ∙ ap (drop a) (sym (take-take b n xs within) ∙ ap (take b) same ∙ take-take b n ys within)
    ∙ sym (part_of_front ys a b le)

-- what is put after a front is the part from there on
pub put_part : (xs ys more : List Lit) (a b : ℕ) → a ≤ b → a ≤ length ys → take b xs ≡ take a ys ++ more → slice_range xs a b ≡ more
put_part xs ys more a b le room is =
    part_of_front xs a b le ∙ ap (drop a) is
    ∙ ap (λ n. drop n (take a ys ++ more)) (sym (length-take-le a ys room)) ∙ drop-append_seam (take a ys) more

-- a part stays where the front stays
pub part_stays : (known xs ys : List Lit) (w n : ℕ) (part : Part) → part.to ≤ n → n ≤ length ys → take n ys ≡ take n xs
    → IsPartOf known xs w part → IsPartOf known ys w part
part_stays known xs ys w n part within room same so = record {
  ordered = so.ordered;
  within = omega (arith, within, room);
  literals = same_part ys xs n part.from part.to so.ordered within same ∙ so.literals;
  facts = so.facts;
}

-- where a literal came, and the bit of a word is not set, it was not set before, and the literal speaks of another word
pub unspoken : (l : Lit) (ls : List Lit) (v w seen : ℕ) → v ≡ index_of l → w < 16 → bit_at (bit_or seen (1 * 2 ^ (v % 64) % 2 ^ 64)) w ≡ 0
    → (bit_at seen w ≡ 0) × (of_word w (l ∷ ls) ≡ of_word w ls)
unspoken l ls v w seen is small none =
    let at = v % 64 in
    let within : at < 64 = omega arith in
    elim (cases_eq w at) [
      | inl same ↦
          absurd (let set = bit_at_set_same w64 seen at within in
          let clear = subst (λ i. bit_at (bit_or seen (1 * 2 ^ at % 2 ^ 64)) i ≡ 0) same none in omega (arith, set, clear))
      | inr apart ↦ (
        sym (bit_at_set_other w64 seen at within w apart) ∙ none,
        other_first w l ls (λ e. apart (omega (arith, e, small, is))),
      )
    ]
