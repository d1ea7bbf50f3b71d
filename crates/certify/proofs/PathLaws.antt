-- Places and entries stay such as they are added.
use Rattle.std.proofs.Common.{◌≡◌, ℕ, ◌+◌, ◌<◌, List, [], ◌∷◌, ◌++◌, length}
use Rattle.std.proofs.Common.{sym, refl, ap, subst, ◌∙◌, arith, ⊎_elim}
use Rattle.std.specs.Prelude.{Some, slice_get, All}
use Rattle.std.proofs.lemmas.List.{length-append}
use Rattle.std.proofs.lemmas.List.Elements.{All-cons, All-nil, All-push, All-replicate, All-weaker}
use Rattle.cert_state.specs.declared.literal.Lit.{Lit}
use Rattle.cert_state.specs.declared.literal.AVal.TheVariants.{Unknown}
use Rattle.cert_state.specs.Literals.{AreValues, IsLit, IsValue}
use Rattle.cert_form.specs.Nodes.{literals}
use Rattle.cert_form.specs.Writing.{AreLiteralEntries, IsLiteralEntry}
use Rattle.certify.specs.declared.paths.Paths.{Paths}
use Rattle.certify.specs.declared.place.Next.{Next}
use Rattle.certify.specs.declared.place.Place.{Place}
use Rattle.certify.specs.inner.Places.{ArePaths, IsLearned, IsPlace, first_place}
use Rattle.certify.specs.Telling.{at_first}
use Rattle.certify.proofs.ChainFacts.{literals_none, literals_push}
use Rattle.certify.proofs.GrowLaws.{at_push, longer_at, place_more}

-- at first
first_values : AreValues at_first
first_values = record { a = omega arith; x = omega arith; sixteen = refl; scratch = All-replicate IsValue 16 Unknown tt }

pub first_paths : (paths : Paths) → paths.entries.items ≡ [] → paths.places.items ≡ first_place ∷ [] → ArePaths paths
first_paths paths none one = record {
  entries = λ j e there. nothing j e (ap (λ (es : List (ℕ × Lit)). slice_get es j) (sym none) ∙ there);
  places = subst (All (IsPlace paths.entries.items)) (sym one)
      (All-cons (IsPlace paths.entries.items) first_place [] (record {
        chain = omega arith;
        depth = ap length (ap (λ (es : List (ℕ × Lit)). literals es 0) none ∙ literals_none []);
        few = omega arith;
        values = first_values;
      }) (All-nil (IsPlace paths.entries.items)));
  first = ap (λ xs. slice_get xs 0) one;
  few = let e = ap length one in omega (arith, e);
  few_entries = let e = ap length one in let f = ap length none in omega (arith, e, f);
}
  where
    nothing : (j : ℕ) (e : ℕ × Lit) → slice_get {X = ℕ × Lit} [] j ≡ Some e → IsLiteralEntry j e
    nothing j e h = cc

-- one entry more
pub learned_one : (s t : Paths) (from : Place) (l : Lit) (count : ℕ) → ArePaths s → IsPlace s.entries.items from → IsLit l
    → from.depth < 512 → t.entries.items ≡ s.entries.items ++ (from.chain, l) ∷ [] → t.places.items ≡ s.places.items
    → t.kinds.items ≡ s.kinds.items → count ≡ length s.entries.items → IsLearned s t from (Some l) (count + 1, from.depth + 1)
learned_one s t from l count are is lit low es ps ks counted =
    let one : length t.entries.items ≡ length s.entries.items + 1 =
    omega (arith, ap length es, length-append s.entries.items ((from.chain, l) ∷ [])) in
    record {
      entries = subst AreLiteralEntries (sym es) (λ j e there. ⊎_elim
          (λ (old : slice_get s.entries.items j ≡ Some e). are.entries j e old)
          (λ (new : (j ≡ length s.entries.items) × ((from.chain, l) ≡ e)).
          subst (λ x. IsLiteralEntry j x) new.1 (record { earlier = let c = is.chain in omega (arith, c, new.0); literal = lit }))
          (at_push s.entries.items (from.chain, l) j e there));
      longer = ((from.chain, l) ∷ [], es);
      one_more = omega (arith, one);
      places = ps;
      kinds = ks;
      chain = omega (arith, one, counted);
      known = ap (λ (xs : List (ℕ × Lit)). literals xs (count + 1)) es
          ∙ literals_push s.entries.items from.chain (count + 1) l (omega (arith, counted));
      depth = let d = is.depth in omega (arith, d);
      few = omega (arith, low);
    }

-- one place more
pub placed : (s t u : Paths) (from : Place) (next : Next) (chain depth : ℕ) → ArePaths s → IsPlace s.entries.items from → AreValues next.regs
    → IsLearned s t from next.learned (chain, depth) → length s.places.items < 16384
    → u.entries.items ≡ t.entries.items
    → u.places.items ≡ t.places.items ++ (record { pc = next.pc; regs = next.regs; chain = chain; depth = depth }) ∷ [] → ArePaths u
placed s t u from next chain depth are is values learned room es ps =
    let place : Place = record { pc = next.pc; regs = next.regs; chain = chain; depth = depth } in
    let places : u.places.items ≡ s.places.items ++ place ∷ [] = ps ∙ ap (λ xs. xs ++ place ∷ []) learned.places in
    let one : length u.places.items ≡ length s.places.items + 1 =
    omega (arith, ap length places, length-append s.places.items (place ∷ [])) in
    let new : IsPlace t.entries.items place = record {
      chain = learned.chain;
      depth = ap length learned.known ∙ sym learned.depth;
      few = learned.few;
      values = values;
    } in
    record {
      entries = subst AreLiteralEntries (sym es) learned.entries;
      places = subst (λ xs. All (IsPlace xs) u.places.items) (sym es) (subst (All (IsPlace t.entries.items)) (sym places)
          (All-push (IsPlace t.entries.items) s.places.items place
          (All-weaker (IsPlace s.entries.items) (IsPlace t.entries.items)
          (λ x old. place_more s.entries.items t.entries.items x learned.longer old) s.places.items are.places)
          new));
      first = longer_at s.places.items u.places.items 0 first_place (place ∷ [], places) are.first;
      few = omega (arith, one, room);
      few_entries = let few = are.few_entries in
          let more = learned.one_more in
          omega (arith, one, few, more, ap length es);
    }
