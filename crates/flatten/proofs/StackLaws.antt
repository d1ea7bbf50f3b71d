-- The program that answers as the filters of a stack.
use Rattle.std.proofs.Common.{◌≡◌, ◌+◌, ◌<◌, ℕ, zero, suc, List, [], ◌∷◌, ◌++◌, get_or, length, take, map, reverse, refl, ap, sym, ◌∙◌, subst, inl, inr, ◌⊎◌, arith}
use Rattle.std.specs.Prelude.{Some, None, Result, Ok, Err, IfOk, slice_get}
use Rattle.std.specs.Global.{Vec}
use Rattle.std.specs.List.{All, AllZip}
use Rattle.std.specs.Option.{option_map}
use Rattle.std.proofs.lemmas.Option.{same_Some}
use Rattle.std.proofs.lemmas.List.{map_more, reverse-append}
use Rattle.std.proofs.lemmas.List.Elements.{All-head, All-nil, All-push, All-tail}
use Rattle.call_record.specs.Words.{IsRecord}
use Rattle.call_record.specs.Verdict.{allow, strictest_of}
use Rattle.call_record.proofs.StrictestLemmas.{strictest_of-cons}
use Rattle.bpf_insn.specs.declared.instruction.Insn.{Insn}
use Rattle.bpf_insn.specs.Bytes.{insns_of}
use Rattle.bpf_insn.specs.Machine.{start}
use Rattle.kernel_check.proofs.RunLaws.{runs}
use Rattle.flatten.specs.Stack.{GivesVerdict, IsFilter, IsFlat, StackGives}
use Rattle.flatten.specs.Unflat.{SaysAt, SaysOf, place_of}
use Rattle.flatten.specs.declared.unflat.Unflat.{Unflat}
use Rattle.flatten.specs.inner.Turns.{AnswersAs, ArePlain, IsAbove, IsLowest, given}
use Rattle.flatten.proofs.RunLaws.{from_step, returns}
use Rattle.flatten.proofs.TurnLaws.{both_true, return_plain}

-- the stack of no filters
lowest_gives : (program : List Insn) (r : List ℕ) → IsLowest program → given program 0 start r ≡ Some allow
lowest_gives program r e =
    ap (λ p. given p 0 start r) e ∙ ap (λ done. from_step done [] r) (returns allow start r)

none_strictest : strictest_of [] ≡ allow
unfolding strictest_of
none_strictest = refl

pub of_none : (program : List Insn) → IsLowest program → AnswersAs [] program
of_none program e = record { stack = All-nil IsFilter; right = λ r vs h. by_case r vs h } where
  by_case : (r vs : List ℕ) → AllZip (GivesVerdict r) [] vs → given program 0 start r ≡ Some (strictest_of (reverse vs))
  by_case r [] h = lowest_gives program r e ∙ ap Some (sym none_strictest)
  by_case r (v ∷ vs) h = absurd h

pub lowest_plain : (program : List Insn) → IsLowest program → ArePlain program
lowest_plain program e = subst ArePlain (sym e) (both_true _ _ (return_plain allow) refl)

-- the verdicts of one filter more
Parted : List (List ℕ) → List ℕ → List ℕ → List ℕ → Type 0
Parted filters f r vs = (front : List ℕ) × (w : ℕ) × (vs ≡ front ++ w ∷ []) × AllZip (GivesVerdict r) filters front × GivesVerdict r f w

parted : (filters : List (List ℕ)) (f r vs : List ℕ) → AllZip (GivesVerdict r) (filters ++ f ∷ []) vs → Parted filters f r vs
unfolding Parted
parted [] f r [] h = absurd h
parted [] f r (w ∷ []) h = ([], w, refl, tt, h.0)
parted [] f r (w ∷ v ∷ vs) h = absurd h.1
parted (g ∷ filters) f r [] h = absurd h
parted (g ∷ filters) f r (v ∷ vs) h =
    let rest = parted filters f r vs h.1 in
    (v ∷ rest.0, rest.1, ap (λ l. v ∷ l) rest.2, (h.0, rest.3), rest.4)

pub one_more : (filters more : List (List ℕ)) (f : List ℕ) (older program : List Insn) → AnswersAs filters older → IsFilter f
    → IsAbove (insns_of f) older program → more ≡ filters ++ f ∷ [] → AnswersAs more program
unfolding Parted
one_more filters more f older program so is above e = subst (λ l. AnswersAs l program) (sym e) (record {
  stack = All-push IsFilter filters f so.stack is;
  right = λ r vs h.
      let rest = parted filters f r vs h in
      let front = rest.0 in
      let w = rest.1 in
      let turned : reverse vs ≡ w ∷ reverse front = ap reverse rest.2 ∙ reverse-append front (w ∷ []) in
      above r w (strictest_of (reverse front)) rest.4 (so.right r front rest.3)
      ∙ ap Some (sym (strictest_of-cons w (reverse front)) ∙ ap strictest_of (sym turned));
})

-- ---- each filter gives a verdict

each_gives : (filters : List (List ℕ)) (r : List ℕ) → All IsFilter filters → IsRecord r → (vs : List ℕ) × AllZip (GivesVerdict r) filters vs
each_gives [] r h is = ([], tt)
each_gives (f ∷ filters) r h is =
    let one = runs (insns_of f) r (All-head IsFilter f filters h).1 is.length_is in
    let rest = each_gives filters r (All-tail IsFilter f filters h) is in
    let v : GivesVerdict r f one.0 = ap (option_map (λ (end : ℕ × ℕ). end.0)) one.2 in
    (one.0 ∷ rest.0, (v, rest.1))

pub is_flat : (filters : List (List ℕ)) (made : List ℕ) (program : List Insn) → AnswersAs filters program → insns_of made ≡ program → IsFilter made
    → IsFlat filters made
is_flat filters made program so e is = record {
  stack = so.stack;
  one = is;
  right = λ r record_ v. (there r record_ v, back r v);
} where
  gives : (r vs : List ℕ) → AllZip (GivesVerdict r) filters vs → GivesVerdict r made (strictest_of (reverse vs))
  gives r vs h = ap (λ p. given p 0 start r) e ∙ so.right r vs h

  there : (r : List ℕ) → IsRecord r → (v : ℕ) → GivesVerdict r made v → StackGives filters r v
  there r record_ v h =
      let all = each_gives filters r so.stack record_ in
      let same : v ≡ strictest_of (reverse all.0) = same_Some v (strictest_of (reverse all.0)) (sym h ∙ gives r all.0 all.1) in
      (all.0, all.1, same)

  back : (r : List ℕ) (v : ℕ) → StackGives filters r v → GivesVerdict r made v
  back r v h = gives r h.0 h.1 ∙ ap Some (sym h.2)

-- ---- why there is none

pub says_none : (filters : List (List ℕ)) (e : Unflat) → place_of e ≡ None → SaysAt (place_of e) filters e
says_none filters e h = subst (λ o. SaysAt o filters e) (sym h) tt

pub says_at : (filters : List (List ℕ)) (place : ℕ) (filter : List ℕ) (e : Unflat) → slice_get filters place ≡ Some filter
    → SaysOf place filter e → SaysAt (place_of e) filters e
says_at filters place filter e found h = by_case h.here where
  by_case : (place_of e ≡ Some place) ⊎ (place_of e ≡ None) → SaysAt (place_of e) filters e
  by_case (inl here) = subst (λ o. SaysAt o filters e) (sym here) (filter, found, h.is)
  by_case (inr none) = says_none filters e none

pub flat_if : (filters : List (List ℕ)) (program given_ : List Insn) (result : Result (Vec ℕ) Unflat) → AnswersAs filters program → given_ ≡ program
    → IfOk result (λ bytes. insns_of bytes.items ≡ given_) → IfOk result (λ bytes. IsFilter bytes.items)
    → IfOk result (λ made. IsFlat filters made.items)
flat_if filters program given_ (Ok made) so e same is = is_flat filters made.items program so (same ∙ e) is
flat_if filters program given_ (Err why) so e same is = tt

-- ---- the filter at a place of owned ones

module _ {V : Type 0} (f : V → List ℕ) where
  pub at_place : (xs : List V) (i : ℕ) (v : V) (now : List ℕ) → i < length xs → v ≡ get_or xs i v → now ≡ f v → slice_get (map f xs) i ≡ Some now
  at_place [] i v now lt e g = absurd (omega (arith, lt))
  at_place (x ∷ xs) zero v now lt e g = ap Some (sym (g ∙ ap f e))
  at_place (x ∷ xs) (suc i) v now lt e g = at_place xs i v now (omega (arith, lt)) e g

  pub up_to : (xs : List V) (i : ℕ) (v : V) (now : List ℕ) → i < length xs → v ≡ get_or xs i v → now ≡ f v
      → map f (take (i + 1) xs) ≡ map f (take i xs) ++ now ∷ []
  up_to xs i v now lt e g = map_more f xs i v lt ∙ ap (λ x. map f (take i xs) ++ x ∷ []) (sym (g ∙ ap f e))

pub answers_so : (filters : List (List ℕ)) (program other : List Insn) → other ≡ program → AnswersAs filters program → AnswersAs filters other
answers_so filters program other e so = subst (AnswersAs filters) (sym e) so
