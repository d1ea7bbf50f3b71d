-- Words with and without `narrow`.
use Rattle.std.proofs.Common.{◌≡◌, ℕ, ◌+◌, false, inl, inr, List, [], length, map, refl, subst, sym, arith, ap, ◌∙◌}
use Rattle.std.proofs.lemmas.List.{length-map}
use Rattle.std.proofs.lemmas.List.Filters.{length-filter_both}
use Rattle.std.specs.Prelude.{Bool, false, true, IfOk, None, Some, Option, Result, Err, Ok, filter, not}
use Rattle.std.specs.declared.alloc.AllocError.{AllocError}
use denote.Ref.{Bor}
use Rattle.machines.specs.declared.arch.Arch.{Arch}
use Rattle.engines.specs.declared.settling.choice.Choice.{Choice}
use Rattle.cli.specs.Adapted.{AsksNarrow, IsMadeBy, IsMadeOfDraft, IsNarrowedOne, KeepsText, is_narrow}
use Rattle.section.specs.Sections.{KeepsMeaning}
use Rattle.section.specs.Texts.{IsBundleText}
use Rattle.cli.specs.declared.adapting.OutputAndReport.{OutputAndReport}
use Rattle.wording.specs.Told.{was_done}
use Rattle.wording.specs.declared.told.Told.{Told}

abbrev pub now_of : Bor (List ℕ) → List ℕ
now_of word = word.now

abbrev pub is_other : List ℕ → Bool
is_other word = not (is_narrow word)

-- how often `narrow` stands, and how many words are left
pub how_many : (words rest : List (Bor (List ℕ))) → map now_of rest ≡ filter is_other (map now_of words)
    → length rest + length (filter is_narrow (map now_of words)) ≡ length words
how_many words rest e =
    let both = length-filter_both is_narrow is_other (λ x. refl) (map now_of words) in
    omega (arith, both, length-map rest now_of, length-map words now_of, ap length e)

-- what is narrowed was made as the words ask
pub made_narrow : (native : Arch) (choice : Option Choice) (words : List (Bor (List ℕ))) (result : Result OutputAndReport AllocError) → AsksNarrow words
    → IfOk result (λ both. IsNarrowedOne native choice both.told) → IfOk result (λ both. IsMadeBy native choice words both.told)
made_narrow native choice words (Ok both) asks is = inl (asks, is)
made_narrow native choice words (Err e) asks is = tt

-- nothing was made
nothing_made : (native : Arch) (choice : Option Choice) (told : Told) → was_done told.end ≡ false → IsMadeOfDraft native choice told
nothing_made native None told e = ([], λ done. let never : true ≡ false = sym done ∙ e in absurd (cc))
nothing_made native (Some choice) told e = ([], λ done. let never : true ≡ false = sym done ∙ e in absurd (cc))

pub made_none : (native : Arch) (choice : Option Choice) (words : List (Bor (List ℕ))) (made told : Told) → IsMadeBy native choice words made
    → was_done told.end ≡ false → IsMadeBy native choice words told
made_none native choice words made told (inl (asks, is)) e =
    inl (asks, record { made = told; is_made = nothing_made native choice told e; is_narrowed = inr (e, refl) })
made_none native choice words made told (inr (others, is)) e = inr (others, nothing_made native choice told e)

-- what was made is kept, or nothing is
module _ (native : Arch) (made : Told) (result : Result OutputAndReport AllocError) where
  pub made_unless : (choice : Option Choice) (words : List (Bor (List ℕ))) (is_like : Bool)
      → (is_like ≡ true → IfOk result (λ new. new.told ≡ made)) → (is_like ≡ false → IfOk result (λ new. was_done new.told.end ≡ false))
      → IsMadeBy native choice words made → IfOk result (λ new. IsMadeBy native choice words new.told)
  made_unless choice words is_like like unlike is = by result is_like like unlike where
    by : (r : Result OutputAndReport AllocError) (b : Bool) → (b ≡ true → IfOk r (λ new. new.told ≡ made))
        → (b ≡ false → IfOk r (λ new. was_done new.told.end ≡ false)) → IfOk r (λ new. IsMadeBy native choice words new.told)
    by (Ok both) true same none = subst (λ t. IsMadeBy native choice words t) (sym (same refl)) is
    by (Ok both) false same none = made_none native choice words made both.told is (none refl)
    by (Err e) b same none = tt

  pub kept_unless : (text bundle : List ℕ) → IsBundleText native text bundle → (is_like : Bool)
      → (is_like ≡ true → KeepsMeaning native bundle made.bytes.items) → (is_like ≡ true → IfOk result (λ new. new.told ≡ made))
      → (is_like ≡ false → IfOk result (λ new. was_done new.told.end ≡ false))
      → IfOk result (λ new. was_done new.told.end ≡ true → KeepsText native text new.told.bytes.items)
  kept_unless text bundle taken is_like keeps like unlike = by result is_like keeps like unlike where
    by : (r : Result OutputAndReport AllocError) (b : Bool) → (b ≡ true → KeepsMeaning native bundle made.bytes.items)
        → (b ≡ true → IfOk r (λ new. new.told ≡ made)) → (b ≡ false → IfOk r (λ new. was_done new.told.end ≡ false))
        → IfOk r (λ new. was_done new.told.end ≡ true → KeepsText native text new.told.bytes.items)
    by (Ok both) true keep same none = λ done. record {
      bundle = bundle;
      taken = taken;
      keeps = subst (λ (t : Told). KeepsMeaning native bundle t.bytes.items) (sym (same refl)) (keep refl);
    }
    by (Ok both) false keep same none = λ done. let never : true ≡ false = sym done ∙ none refl in absurd (cc)
    by (Err e) b keep same none = tt
