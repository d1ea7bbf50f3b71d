-- What is said of places stays as more are added.
use Rattle.std.proofs.Common.{◌≡◌, ℕ, suc, zero, ◌<◌, ◌≤◌, List, [], ◌∷◌, ◌++◌, length}
use Rattle.std.proofs.Common.{sym, refl, ap, subst, ◌∙◌, arith, inl, inr, ◌⊎◌, ⊎_elim}
use Rattle.std.specs.Prelude.{Some, slice_get, option_to_list, All}
use Rattle.std.proofs.lemmas.Option.{same_Some, slice_get_within}
use Rattle.std.proofs.lemmas.List.{append_assoc, append-nil, length-append}
use Rattle.std.proofs.lemmas.List.Elements.{All-push, All-contains}
use Rattle.bpf_insn.specs.declared.instruction.Insn.{Insn}
use Rattle.profile.specs.Policy.{Policy}
use Rattle.profile.proofs.KeptLaws.{slice_get_last, slice_get_left}
use Rattle.cert_state.specs.declared.literal.Lit.{Lit}
use Rattle.cert_form.specs.declared.node.Kind.{Kind}
use Rattle.cert_form.specs.Nodes.{PlainNode, literals}
use Rattle.cert_check.specs.Rules.{Keeps}
use Rattle.cert_check.proofs.Elements.{contains_at}
use Rattle.certify.specs.declared.paths.Paths.{Paths}
use Rattle.certify.specs.declared.place.Next.{Next}
use Rattle.certify.specs.declared.place.Place.{Place}
use Rattle.certify.specs.inner.Places.{AreAt, AreInside, AreKept, ArePaths, IsAdded, IsGrown, IsLonger, IsPlace, KeepsAt}
use Rattle.certify.specs.inner.Places.{StandsAt, known_at, node_of}
use Rattle.certify.proofs.ChainFacts.{literals_more}

-- ---- lists

pub longer_same : {X : Type 0} (xs ys : List X) → ys ≡ xs → IsLonger xs ys
longer_same xs ys e = ([], e ∙ sym (append-nil xs))

pub longer_than : {X : Type 0} (xs ys zs : List X) → IsLonger xs ys → IsLonger ys zs → IsLonger xs zs
longer_than xs ys zs (m, e) (n, f) = (m ++ n, f ∙ ap (λ l. l ++ n) e ∙ append_assoc xs m n)

pub longer_length : {X : Type 0} (xs ys : List X) → IsLonger xs ys → length xs ≤ length ys
longer_length xs ys (m, e) = omega (arith, ap length e, length-append xs m)

pub longer_at : {X : Type 0} (xs ys : List X) (k : ℕ) (x : X) → IsLonger xs ys → slice_get xs k ≡ Some x → slice_get ys k ≡ Some x
longer_at xs ys k x (m, e) there =
    ap (λ zs. slice_get zs k) e ∙ slice_get_left xs m k (slice_get_within xs k x there) ∙ there

pub longer_back : {X : Type 0} (xs ys : List X) (k : ℕ) (x : X) → IsLonger xs ys → k < length xs → slice_get ys k ≡ Some x
    → slice_get xs k ≡ Some x
longer_back xs ys k x (m, e) low there = sym (slice_get_left xs m k low) ∙ ap (λ zs. slice_get zs k) (sym e) ∙ there

-- what stands in a list with one element more
pub at_push : {X : Type 0} (xs : List X) (y : X) (j : ℕ) (x : X) → slice_get (xs ++ y ∷ []) j ≡ Some x
    → (slice_get xs j ≡ Some x) ⊎ ((j ≡ length xs) × (y ≡ x))
at_push [] y zero x h = inr (refl, same_Some y x h)
at_push [] y (suc j) x h = cc
at_push (z ∷ xs) y zero x h = inl h
at_push (z ∷ xs) y (suc j) x h = ⊎_elim
    (λ (old : slice_get xs j ≡ Some x). inl old)
    (λ (new : (j ≡ length xs) × (y ≡ x)). inr (ap suc new.0, new.1))
    (at_push xs y j x h)

-- what holds of each element holds of the one at a place
pub all_at : {X : Type 0} (P : X → Type 0) (xs : List X) (k : ℕ) (x : X) → All P xs → slice_get xs k ≡ Some x → P x
all_at P xs k x all there = All-contains P xs x all (contains_at xs k x there)

-- ---- what a place knows stays

pub known_more : (es fs : List (ℕ × Lit)) (n : ℕ) → IsLonger es fs → n ≤ length es → literals fs n ≡ literals es n
known_more es fs n (m, e) h = ap (λ (xs : List (ℕ × Lit)). literals xs n) e ∙ literals_more es m n h

pub place_more : (es fs : List (ℕ × Lit)) (place : Place) → IsLonger es fs → IsPlace es place → IsPlace fs place
place_more es fs place longer is = record {
  chain = let c = is.chain in omega (arith, c, longer_length es fs longer);
  depth = ap length (known_more es fs place.chain longer is.chain) ∙ is.depth;
  few = is.few;
  values = is.values;
}

-- ---- growth

pub grown_same : (s : Paths) → IsGrown s s
grown_same s = record {
  entries = longer_same s.entries.items s.entries.items refl;
  places = longer_same s.places.items s.places.items refl;
  kinds = refl;
}

pub grown_than : (s t u : Paths) → IsGrown s t → IsGrown t u → IsGrown s u
grown_than s t u one other = record {
  entries = longer_than s.entries.items t.entries.items u.entries.items one.entries other.entries;
  places = longer_than s.places.items t.places.items u.places.items one.places other.places;
  kinds = other.kinds ∙ one.kinds;
}

pub grown_added : (s t : Paths) (from : Place) (next : Next) (number : ℕ) → IsAdded s t from next number → IsGrown s t
grown_added s t from next number added = record {
  entries = added.entries;
  places = (added.place ∷ [], added.places);
  kinds = added.kinds;
}

-- the place that was added is the last one, and it is a place of the program where its position is one
pub added_there : (s t : Paths) (from : Place) (next : Next) (number : ℕ) (added : IsAdded s t from next number)
    → slice_get t.places.items number ≡ Some added.place
added_there s t from next number added =
    ap (slice_get t.places.items) added.number_is ∙ ap (λ xs. slice_get xs (length s.places.items)) added.places
    ∙ slice_get_last s.places.items added.place

pub inside_added : (p : List Insn) (s t : Paths) (from : Place) (next : Next) (number : ℕ) → IsAdded s t from next number
    → AreInside p s → next.pc < length p → AreInside p t
inside_added p s t from next number added inside low =
    subst (All (λ (place : Place). place.pc < length p)) (sym added.places)
    (All-push (λ (place : Place). place.pc < length p) s.places.items added.place inside
    (subst (λ k. k < length p) (sym added.pc_is) low))

module _ (s t : Paths) (is : ArePaths s) (grown : IsGrown s t) where
  pub known_grown : (k : ℕ) (place : Place) → slice_get s.places.items k ≡ Some place
      → known_at t.entries.items place ≡ known_at s.entries.items place
  known_grown k place there =
      known_more s.entries.items t.entries.items place.chain grown.entries
      (all_at (IsPlace s.entries.items) s.places.items k place is.places there).chain

  -- nodes of all places are nodes of those before
  pub are_at_before : (ns : List PlainNode) → AreAt ns t.entries.items t.places.items → AreAt ns s.entries.items s.places.items
  are_at_before ns at k place there =
      subst (StandsAt ns k place.pc place.regs) (known_grown k place there)
      (at k place (longer_at s.places.items t.places.items k place grown.places there))

  pub keeps_grown : (policy : Policy) (p : List Insn) (k : ℕ) (place : Place) (kind : Kind) → slice_get s.places.items k ≡ Some place
      → KeepsAt policy p s k place kind → KeepsAt policy p t k place kind
  keeps_grown policy p k place kind there (meant, keeps) = (
    meant,
    λ ns at. subst (λ known. Keeps policy p ns k (record (node_of s.entries.items place kind) { known = known }))
        (sym (known_grown k place there)) (keeps ns (are_at_before ns at)),
  )

  pub kept_grown : (policy : Policy) (p : List Insn) → length s.kinds.items ≤ length s.places.items → AreKept policy p s
      → AreKept policy p t
  kept_grown policy p some kept k place kind there does =
      let before : slice_get s.kinds.items k ≡ Some kind = ap (λ xs. slice_get xs k) (sym grown.kinds) ∙ does in
      let low : k < length s.kinds.items = slice_get_within s.kinds.items k kind before in
      let place_before : slice_get s.places.items k ≡ Some place =
      longer_back s.places.items t.places.items k place grown.places (omega (arith, low, some)) there in
      keeps_grown policy p k place kind place_before (kept k place kind place_before before)

-- the node that was added stands where it is said to
pub stands_added : (s t u : Paths) (from : Place) (next : Next) (number : ℕ) → IsAdded s t from next number → ArePaths t → IsGrown t u
    → (ns : List PlainNode) → AreAt ns u.entries.items u.places.items
    → StandsAt ns number next.pc next.regs (option_to_list next.learned ++ known_at s.entries.items from)
stands_added s t u from next number added is grown ns at =
    let there = added_there s t from next number added in
    let stands : StandsAt ns number added.place.pc added.place.regs (known_at t.entries.items added.place) =
    are_at_before t u is grown ns at number added.place there in
    subst (StandsAt ns number next.pc next.regs) added.known_is
    (subst (λ regs. StandsAt ns number next.pc regs (known_at t.entries.items added.place)) added.regs_are
    (subst (λ pc. StandsAt ns number pc added.place.regs (known_at t.entries.items added.place)) added.pc_is stands))

-- one place more has a node
pub kept_push : (policy : Policy) (p : List Insn) (s t : Paths) (from : Place) (kind : Kind) → AreKept policy p s
    → slice_get s.places.items (length s.kinds.items) ≡ Some from → KeepsAt policy p s (length s.kinds.items) from kind
    → t.entries.items ≡ s.entries.items → t.places.items ≡ s.places.items → t.kinds.items ≡ s.kinds.items ++ kind ∷ []
    → AreKept policy p t
kept_push policy p s t from kind kept here keeps es ps ks k place does there done = ⊎_elim
    (λ (old : slice_get s.kinds.items k ≡ Some does). moved (kept k place does there_before old))
    (λ (new : (k ≡ length s.kinds.items) × (kind ≡ does)).
    let same : from ≡ place = same_Some from place (sym here ∙ ap (slice_get s.places.items) (sym new.0) ∙ there_before) in
    moved (subst (λ j. KeepsAt policy p s j place does) (sym new.0)
    (subst (λ x. KeepsAt policy p s (length s.kinds.items) x does) same
    (subst (λ x. KeepsAt policy p s (length s.kinds.items) from x) new.1 keeps))))
    (at_push s.kinds.items kind k does (ap (λ xs. slice_get xs k) (sym ks) ∙ done))
  where
    there_before : slice_get s.places.items k ≡ Some place
    there_before = ap (λ xs. slice_get xs k) (sym ps) ∙ there

    moved : KeepsAt policy p s k place does → KeepsAt policy p t k place does
    moved (meant, keeps) = (
      meant,
      λ ns at. subst (λ es. Keeps policy p ns k (node_of es place does)) (sym es)
          (keeps ns (subst (λ xs. AreAt ns s.entries.items xs) ps (subst (λ xs. AreAt ns xs t.places.items) es at))),
    )
