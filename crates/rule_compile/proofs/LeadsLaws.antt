-- Code that leads each record to what is decided.
use Rattle.std.proofs.Common.{◌≡◌, ℕ, ◌/◌, ◌%◌, ◌==◌, ◌<◌, ◌≤◌, ◌^◌, true, false, List, [], ◌∷◌, ◌++◌, length, refl, ap, sym}
use Rattle.std.proofs.Common.{◌∙◌, subst, arith, bit_and, get_or}
use Rattle.std.specs.Prelude.{Option, Some, None, slice_get, slice_index, if◌then◌else◌}
use Rattle.std.specs.List.{All, Contains}
use Rattle.std.proofs.lemmas.Bool.{eq-eqb, le-leb, lt-leb, ne_eqb}
use Rattle.std.proofs.lemmas.List.Elements.{All-append, All-cons, All-contains, All-head, All-nil, All-tail}
use Rattle.std.proofs.lemmas.Nat.{and_mask}
use Rattle.std.proofs.lemmas.Option.{same_Some}
use Rattle.call_record.specs.Words.{IsRecord}
use Rattle.bpf_insn.specs.declared.code.Test.TheVariants.{AnyBit, AtLeast, Equal}
use Rattle.bpf_insn.specs.declared.code.Arithmetic.TheVariants.{And}
use Rattle.bpf_insn.specs.declared.code.Operand.TheVariants.{K}
use Rattle.bpf_insn.specs.declared.code.Operation.TheVariants.{Compute, LoadWord}
use Rattle.bpf_insn.specs.declared.instruction.Insn.{Insn}
use Rattle.bpf_insn.specs.Machine.{holds}
use Rattle.rule_compile.specs.declared.label.Exits.{Exits}
use Rattle.rule_compile.specs.declared.label.Label.{Label}
use Rattle.rule_compile.specs.declared.label.Target.{Target}
use Rattle.rule_compile.specs.declared.label.Target.TheVariants.{Place, Return}
use Rattle.rule_compile.specs.declared.outline.Block.{Block}
use Rattle.rule_compile.specs.declared.question.Subject.{Subject}
use Rattle.rule_compile.specs.declared.ranges.Leaf.TheVariants as leaf
use Rattle.rule_compile.specs.declared.ranges.Range.{Range}
use Rattle.rule_compile.specs.Decides.{Decides, IsWithin, by_block, by_verdict}
use Rattle.rule_compile.specs.Questions.{bits}
use Rattle.rule_compile.specs.inner.Code.{Grows, IsStart, IsTarget, insn_of, position}
use Rattle.rule_compile.specs.inner.Goes.{Branches}
use Rattle.rule_compile.specs.inner.Left.{IsOffset}
use Rattle.rule_compile.specs.inner.Ranges.{AreInOrder, IsLike}
use Rattle.rule_compile.specs.inner.Runs.{AreLed, Leads, LeadsByBits, LeadsByWord, LeadsIn, PicksOut, gives_from, runs}
use Rattle.rule_compile.proofs.FindLaws.{after_all, first_is_least, in_order_parts}
use Rattle.rule_compile.proofs.RunsLaws.{load_runs, mask_runs, runs_kept}

-- a verdict decides just that verdict
pub verdict_decided : {blocks : List Block} {r : List ℕ} {v w : ℕ} → Decides blocks r v (leaf.Verdict w) → w ≡ v
verdict_decided by_verdict = refl

pub record ByBlock (blocks : List Block) (r : List ℕ) (v place : ℕ) : Type 0 where
  pub block : Block
  pub range : Range
  pub at : slice_get blocks place ≡ Some block
  pub has : Contains block.ranges.items range
  pub inside : IsWithin range (bits block.subject r)
  pub decides : Decides blocks r v range.leaf

pub block_decided : {blocks : List Block} {r : List ℕ} {v place : ℕ} → Decides blocks r v (leaf.Block place) → ByBlock blocks r v place
block_decided (by_block place block range at has inside d) =
    record { block = block; range = range; at = at; has = has; inside = inside; decides = d }

pub leads_verdict : (blocks : List Block) (code : List Insn) (loaded : Option ℕ) (w : ℕ) → Leads blocks code loaded (Return w) (leaf.Verdict w)
leads_verdict blocks code loaded w a r v is_r l d = ap Some (verdict_decided d)

-- ---- where the code begins

module _ (old new : List Insn) (exits : Exits) (place : Label) (start : IsStart new place) where
  begins : (a : ℕ) (r : List ℕ) → runs new (Place place) a r ≡ gives_from new 0 a r
  begins a r = let first : position new place ≡ 0 = omega (arith, start.1) in ap (λ n. gives_from new n a r) first

-- ---- picks

pub picks_none : (blocks : List Block) (code : List Insn) (loaded : Option ℕ) (rest : Range) (to : Target) → Leads blocks code loaded to rest.leaf
    → PicksOut blocks code loaded [] rest to
picks_none blocks code loaded rest to leads = record {
  led = All-nil (LeadsIn blocks code loaded to);
  others = λ a r v is_r l none d. leads a r v is_r l d;
}

pub picks_empty : (blocks : List Block) (code : List Insn) (loaded : Option ℕ) (ranges : List Range) (rest : Range) (to : Target)
    → length ranges < 1 → Leads blocks code loaded to rest.leaf → PicksOut blocks code loaded ranges rest to
picks_empty blocks code loaded [] rest to none leads = picks_none blocks code loaded rest to leads
picks_empty blocks code loaded (x ∷ xs) rest to none leads = absurd (omega (arith, none))

pub picks_like : (blocks : List Block) (code : List Insn) (loaded : Option ℕ) (x : Range) (xs : List Range) (rest : Range) (to : Target)
    → PicksOut blocks code loaded xs rest to → IsLike x rest → AreInOrder (x ∷ xs) → PicksOut blocks code loaded (x ∷ xs) rest to
picks_like blocks code loaded x xs rest to p like order = record {
  led = All-cons (LeadsIn blocks code loaded to) x xs
      (λ a r v is_r l within d. p.others a r v is_r l (after_all x xs a order.1 within.1) (subst (Decides blocks r v) like d)) p.led;
  others = λ a r v is_r l none d. p.others a r v is_r l (All-tail (λ y. IsWithin y a → ⊥) x xs none) d;
}

module _ (blocks : List Block) (mid new : List Insn) (loaded : Option ℕ) (x : Range) (xs : List Range) (rest : Range) (exits : Exits)
    (place : Label) (p : PicksOut blocks mid loaded xs rest exits.no) (own : Leads blocks mid loaded exits.yes x.leaf) (one : x.first ≡ x.last)
    (order : AreInOrder (x ∷ xs)) (b : Branches mid new Equal x.first exits) (start : IsStart new place) where
  chosen : (a : ℕ) (r : List ℕ) → runs new (Place place) a r ≡ runs mid (if a == x.first then exits.yes else exits.no) a r
  chosen a r = begins mid new exits place start a r ∙ b.runs a r

  same : (a : ℕ) (r : List ℕ) → a ≡ x.first → runs new (Place place) a r ≡ runs mid exits.yes a r
  same a r e = chosen a r ∙ ap (λ came. runs mid (if came then exits.yes else exits.no) a r) (eq-eqb a x.first e)

  other : (a : ℕ) (r : List ℕ) → (a ≡ x.first → ⊥) → runs new (Place place) a r ≡ runs mid exits.no a r
  other a r differ = chosen a r ∙ ap (λ came. runs mid (if came then exits.yes else exits.no) a r) (ne_eqb a x.first differ)

  pub picks_number : PicksOut blocks new loaded (x ∷ xs) rest (Place place)
  picks_number = record {
    led = All-cons (LeadsIn blocks new loaded (Place place)) x xs
        (λ a r v is_r l within d. same a r (omega (arith, one, within.0, within.1)) ∙ own a r v is_r l d)
        (λ k e inside a r v is_r l within d.
        other a r (λ s. let after = order.1 k e inside in omega (arith, after, one, within.0, s)) ∙ p.led k e inside a r v is_r l within d);
    others = λ a r v is_r l none d.
        other a r (λ s. All-head (λ y. IsWithin y a → ⊥) x xs none (omega (arith, s), omega (arith, s, one)))
        ∙ p.others a r v is_r l (All-tail (λ y. IsWithin y a → ⊥) x xs none) d;
  }

-- ---- a cut

module _ (blocks : List Block) (mid top new : List Insn) (loaded : Option ℕ) (lower upper : List Range) (exits : Exits) (place : Label) (x : Range)
    (xs : List Range) (up : AreLed blocks mid loaded upper exits.yes) (low : AreLed blocks top loaded lower exits.no) (g : Grows mid top)
    (at : IsTarget mid exits.yes) (is : upper ≡ x ∷ xs) (order : AreInOrder (lower ++ upper)) (b : Branches top new AtLeast x.first exits)
    (start : IsStart new place) where
  cut_way : (a : ℕ) (r : List ℕ) → runs new (Place place) a r ≡ runs top (if holds AtLeast a x.first then exits.yes else exits.no) a r
  cut_way a r = begins top new exits place start a r ∙ b.runs a r

  at_least : (a : ℕ) (r : List ℕ) → x.first ≤ a → runs new (Place place) a r ≡ runs mid exits.yes a r
  at_least a r above =
      cut_way a r ∙ ap (λ came. runs top (if came then exits.yes else exits.no) a r) (le-leb x.first a above)
      ∙ runs_kept mid top g exits.yes at a r

  less : (a : ℕ) (r : List ℕ) → a < x.first → runs new (Place place) a r ≡ runs top exits.no a r
  less a r below = cut_way a r ∙ ap (λ came. runs top (if came then exits.yes else exits.no) a r) (lt-leb x.first a below)

  pub led_cut : AreLed blocks new loaded (lower ++ upper) (Place place)
  led_cut =
      let parts = in_order_parts lower upper order in
      let least : All (λ y. x.first ≤ y.first) upper =
      subst (All (λ y. x.first ≤ y.first)) (sym is) (first_is_least x xs (subst AreInOrder is parts.upper_is)) in
      All-append (LeadsIn blocks new loaded (Place place)) lower upper
      (λ k d inside a r v is_r l within decided.
      let z : Range = get_or lower k d in
      let all : All (λ y. z.last < y.first) (x ∷ xs) = subst (All (λ y. z.last < y.first)) is (parts.below k d inside) in
      let here : z.last < x.first = All-head (λ y. z.last < y.first) x xs all in
      less a r (omega (arith, here, within.1)) ∙ low k d inside a r v is_r l within decided)
      (λ k d inside a r v is_r l within decided.
      at_least a r (omega (arith, least k d inside, within.0)) ∙ up k d inside a r v is_r l within decided)

pub led_one : (blocks : List Block) (code : List Insn) (loaded : Option ℕ) (x : Range) (to : Target) → Leads blocks code loaded to x.leaf
    → AreLed blocks code loaded (x ∷ []) to
led_one blocks code loaded x to leads =
    All-cons (LeadsIn blocks code loaded to) x [] (λ a r v is_r l within d. leads a r v is_r l d) (All-nil (LeadsIn blocks code loaded to))

-- ---- a load in front

pub verdict_return : (blocks : List Block) (code : List Insn) (offset w : ℕ) (ranges : List Range) → AreLed blocks code (Some offset) ranges (Return w)
    → LeadsByWord blocks code offset ranges (Return w)
verdict_return blocks code offset w ranges led k d inside a r v is_r within decided = led k d inside (slice_index r (offset / 4)) r v is_r refl within decided

pub word_load : (blocks : List Block) (mid begun new : List Insn) (offset : ℕ) (ranges : List Range) (first place : Label) → IsOffset offset
    → AreLed blocks mid (Some offset) ranges (Place first)
    → ((a : ℕ) (r : List ℕ) → gives_from begun 0 a r ≡ gives_from mid (position mid first) a r) → new ≡ insn_of LoadWord offset ∷ begun
    → IsStart new place → LeadsByWord blocks new offset ranges (Place place)
word_load blocks mid begun new offset ranges first place is led on written start k d inside a r v is_r within decided =
    begins mid new (record { yes = Place place; no = Place place }) place start a r
    ∙ ap (λ code. gives_from code 0 a r) written
    ∙ load_runs offset is begun a r is_r
    ∙ on (slice_index r (offset / 4)) r
    ∙ led k d inside (slice_index r (offset / 4)) r v is_r refl within decided

-- ---- a block

pub leads_block : (blocks : List Block) (block : Block) (code : List Insn) (place : ℕ) (to : Target) → slice_get blocks place ≡ Some block
    → LeadsByBits blocks code block.subject block.ranges.items to → Leads blocks code None to (leaf.Block place)
leads_block blocks block code place to at leads a r v is_r l d =
    let by = block_decided d in
    let same : by.block ≡ block = same_Some by.block block (sym by.at ∙ at) in
    let has : Contains block.ranges.items by.range = subst (λ (b : Block). Contains b.ranges.items by.range) same by.has in
    let inside : IsWithin by.range (bits block.subject r) = subst (λ (b : Block). IsWithin by.range (bits b.subject r)) same by.inside in
    All-contains (λ x. (a : ℕ) (r : List ℕ) (v : ℕ) → IsRecord r → IsWithin x (bits block.subject r) → Decides blocks r v x.leaf
    → runs code to a r ≡ Some v) block.ranges.items by.range leads has a r v is_r inside by.decides

pub by_whole : (blocks : List Block) (code : List Insn) (subject : Subject) (ranges : List Range) (to : Target)
    → ((r : List ℕ) → IsRecord r → bits subject r ≡ slice_index r (subject.word / 4)) → LeadsByWord blocks code subject.word ranges to
    → LeadsByBits blocks code subject ranges to
by_whole blocks code subject ranges to whole leads k d inside a r v is_r within decided =
    leads k d inside a r v is_r (subst (IsWithin (get_or ranges k d)) (whole r is_r) within) decided

-- bits under a mask, which stand in A behind a load and an AND
pub by_mask : (blocks : List Block) (mid begun masked new : List Insn) (subject : Subject) (ranges : List Range) (first place : Label)
    → IsOffset subject.word → AreLed blocks mid None ranges (Place first)
    → ((a : ℕ) (r : List ℕ) → gives_from begun 0 a r ≡ gives_from mid (position mid first) a r)
    → masked ≡ insn_of (Compute And K) subject.mask ∷ begun → new ≡ insn_of LoadWord subject.word ∷ masked → IsStart new place
    → LeadsByBits blocks new subject ranges (Place place)
by_mask blocks mid begun masked new subject ranges first place is led on anded written start k d inside a r v is_r within decided =
    begins mid new (record { yes = Place place; no = Place place }) place start a r
    ∙ ap (λ code. gives_from code 0 a r) written
    ∙ load_runs subject.word is masked a r is_r
    ∙ ap (λ code. gives_from code 0 (slice_index r (subject.word / 4)) r) anded
    ∙ mask_runs subject.mask begun (slice_index r (subject.word / 4)) r
    ∙ on (bits subject r) r
    ∙ led k d inside (bits subject r) r v is_r tt within decided

pub by_return : (blocks : List Block) (code : List Insn) (subject : Subject) (ranges : List Range) (w : ℕ)
    → AreLed blocks code None ranges (Return w) → LeadsByBits blocks code subject ranges (Return w)
by_return blocks code subject ranges w led k d inside a r v is_r within decided = led k d inside (bits subject r) r v is_r tt within decided

-- one jump for bits that are all 0 or not
pub by_any : (blocks : List Block) (old mid new : List Insn) (subject : Subject) (unset set : Range) (exits : Exits) (place : Label)
    → IsOffset subject.word → Leads blocks old (Some subject.word) exits.yes set.leaf → Leads blocks old (Some subject.word) exits.no unset.leaf
    → unset.last ≡ 0 → 1 ≤ set.first → Branches old mid AnyBit subject.mask exits → new ≡ insn_of LoadWord subject.word ∷ mid → IsStart new place
    → LeadsByBits blocks new subject (unset ∷ set ∷ []) (Place place)
by_any blocks old mid new subject unset set exits place is on_set on_unset zero_last some b written start =
    let P : Range → Type 0 = λ x. (a : ℕ) (r : List ℕ) (v : ℕ) → IsRecord r → IsWithin x (bits subject r) → Decides blocks r v x.leaf
    → runs new (Place place) a r ≡ Some v in
    let way : (a : ℕ) (r : List ℕ) → IsRecord r → runs new (Place place) a r
    ≡ runs old (if (if bits subject r == 0 then false else true) then exits.yes else exits.no) (slice_index r (subject.word / 4)) r =
    λ a r is_r.
    begins old new exits place start a r
    ∙ ap (λ code. gives_from code 0 a r) written
    ∙ load_runs subject.word is mid a r is_r
    ∙ b.runs (slice_index r (subject.word / 4)) r in
    All-cons P unset (set ∷ [])
    (λ a r v is_r within d.
    way a r is_r
    ∙ ap (λ none. runs old (if (if none then false else true) then exits.yes else exits.no) (slice_index r (subject.word / 4)) r)
    (eq-eqb (bits subject r) 0 (omega (arith, within.1, zero_last)))
    ∙ on_unset (slice_index r (subject.word / 4)) r v is_r refl d)
    (All-cons P set []
    (λ a r v is_r within d.
    way a r is_r
    ∙ ap (λ none. runs old (if (if none then false else true) then exits.yes else exits.no) (slice_index r (subject.word / 4)) r)
    (ne_eqb (bits subject r) 0 (λ none. omega (arith, none, within.0, some)))
    ∙ on_set (slice_index r (subject.word / 4)) r v is_r refl d)
    (All-nil P))

pub whole_bits : (subject : Subject) → subject.mask ≡ 0xffffffff → (r : List ℕ) → IsRecord r → bits subject r ≡ slice_index r (subject.word / 4)
whole_bits subject all r is_r =
    let w = slice_index r (subject.word / 4) in
    let small : w % 2 ^ 32 ≡ w = omega (arith, is_r.words (subject.word / 4)) in
    ap (bit_and w) all ∙ and_mask w 32 ∙ small

-- both of two
pub two_parts : (ranges : List Range) (x y : Range) → 2 ≤ length ranges → length ranges ≤ 2 → x ≡ get_or ranges 0 x → y ≡ get_or ranges 1 y
    → ranges ≡ x ∷ y ∷ []
two_parts [] x y some few first second = absurd (omega (arith, some))
two_parts (z ∷ []) x y some few first second = absurd (omega (arith, some))
two_parts (z ∷ (u ∷ [])) x y some few first second = ap (λ a. a ∷ u ∷ []) (sym first) ∙ ap (λ b. x ∷ b ∷ []) (sym second)
two_parts (z ∷ (u ∷ (t ∷ ts))) x y some few first second = absurd (omega (arith, few))
