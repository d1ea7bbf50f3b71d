-- Blocks, as they are built: what a block that is added stands for, and what its ranges decide.
use Rattle.std.proofs.Common.{◌≡◌, ℕ, zero, suc, ◌+◌, ◌-◌, ◌/◌, ◌⊎◌, ◌↔◌, ◌<◌, ◌≤◌, ◌^◌, List, [], ◌∷◌, ◌++◌, length, refl, ap, sym, ◌∙◌, subst}
use Rattle.std.proofs.Common.{arith, max, inl, inr, length-append, get_or, take, drop}
use Rattle.std.specs.Prelude.{Bool, Option, Some, None, Result, Ok, Err, IfOk, IfSome, true, false, slice_get, slice_index, slice_index_or}
use Rattle.std.specs.List.{All, Contains}
use Rattle.std.proofs.lemmas.Bool.{cases_lt}
use Rattle.std.proofs.lemmas.Nat.{and_le_l}
use Rattle.std.proofs.lemmas.List.Elements.{All-append, All-cons, All-head, All-nil, All-tail, All-weaker, All-contains}
use Rattle.std.proofs.lemmas.Option.{same_Some, slice_get_within, slice_get_past, slice_get-get_or, get_or_from_slice_get}
use Rattle.profile.proofs.KeptLaws.{slice_get_last}
use Rattle.call_record.specs.Words.{IsRecord}
use Rattle.rule_compile.specs.declared.asked.Open.{Open}
use Rattle.rule_compile.specs.declared.blocks.Blocks.{Blocks}
use Rattle.rule_compile.specs.declared.known.Known.{Known}
use Rattle.rule_compile.specs.declared.known.Span.{Span}
use Rattle.rule_compile.specs.declared.outline.Block.{Block}
use Rattle.rule_compile.specs.declared.question.Subject.{Subject}
use Rattle.rule_compile.specs.declared.ranges.Leaf.{Leaf}
use Rattle.rule_compile.specs.declared.ranges.Leaf.TheVariants as leaf
use Rattle.rule_compile.specs.declared.ranges.Range.{Range}
use Rattle.rule_compile.specs.Decides.{Comes, Decides, IsWithin, StandsFor, Tiles, by_block, by_verdict}
use Rattle.rule_compile.specs.Questions.{bits}
use Rattle.rule_compile.specs.Rules.{IsClearAt, SomeMet, begins_here, put_first, rules_of, answer_of}
use Rattle.rule_compile.specs.inner.Built.{IsFoundAt, IsKept, IsReached}
use Rattle.rule_compile.specs.inner.Left.{AreAlikeAt, AreRules, AreStarts, AsksFor, IsOffset, IsQuestion, IsRule, weight, weight_of}
use Rattle.rule_compile.specs.inner.Numbers.{IsExtended, more, nothing, wider}
use Rattle.rule_compile.specs.inner.Runs.{AreBefore, IsBefore}
use Rattle.rule_compile.specs.inner.Stands.{AreBlocks, AreRanged, AreSound, AreSpans, BlocksStand, DecidesFor, HasMore, IsBlock, IsFound, KnownStands, part_of}
use Rattle.rule_compile.proofs.DecidesLaws.{before_le, before_more, decides_less, decides_more, get_less}
use Rattle.rule_compile.proofs.FindLaws.{all_left, all_right}
use Rattle.rule_compile.proofs.RangeLaws.{tiles_back, tiles_extended}
use Rattle.rule_compile.proofs.RulesLaws.{are_same_back, clear_same, met_same}

pub bits_small : (s : Subject) (r : List ℕ) → IsRecord r → bits s r < 2 ^ 32
bits_small s r rec = omega (arith, and_le_l (slice_index r (s.word / 4)) s.mask, rec.words (s.word / 4))

-- ---- more blocks

module _ (old new : List Block) (g : HasMore old new) (blocks : AreBlocks new) where
  pub comes_less : (os : List Open) (other : Leaf) (r : List ℕ) (v : ℕ) → IsBefore (length old) other → Comes new os other r v
      → Comes old os other r v
  comes_less os other r v before come =
      elim come [ inl met ↦ inl met | inr none ↦ inr (none.0, decides_less old new g blocks before none.1) ]

  pub stands_more : (to : Leaf) (os : List Open) (other : Leaf) → IsBefore (length old) other → DecidesFor old to os other
      → DecidesFor new to os other
  stands_more to os other before stands r rec clear v come =
      decides_more old new g (stands r rec clear v (comes_less os other r v before come))

  comes_more : (os : List Open) (other : Leaf) (r : List ℕ) (v : ℕ) → Comes old os other r v → Comes new os other r v
  comes_more os other r v come = elim come [ inl met ↦ inl met | inr none ↦ inr (none.0, decides_more old new g none.1) ]

  pub stands_still : (to : Leaf) (os : List Open) (other : Leaf) → IsBefore (length old) to → IsBefore (length old) other
      → StandsFor old to os other → StandsFor new to os other
  stands_still to os other before_to before stands r rec clear v = (
    λ d. comes_more os other r v ((stands r rec clear v).0 (decides_less old new g blocks before_to d)),
    λ come. decides_more old new g ((stands r rec clear v).1 (comes_less os other r v before come)),
  )

  pub found_more : (os : List Open) (other to : Leaf) → IsBefore (length old) other → IsFound old os other to → IsFound new os other to
  found_more os other to before found = record {
    before = before_more old new g to found.before;
    stands = stands_more to os other before found.stands;
  }

  pub spans_more : (os : List Open) (other : Leaf) (spans : List Span) (whole : Leaf) → IsBefore (length old) other
      → AreSpans old os other spans whole → AreSpans new os other spans whole
  spans_more os other [] whole before is = is
  spans_more os other (span ∷ spans) whole before is =
      let found : IsFound old (part_of os span) other span.leaf = is.0 in (
        found_more (part_of os span) other span.leaf before found,
        is.1,
        spans_more os span.leaf spans whole found.before is.2,
      )

  pub known_more : (known : Known) → KnownStands old known → KnownStands new known
  known_more known k = record {
    before = before_more old new g known.leaf k.before;
    goes_on = before_more old new g known.other k.goes_on;
    stands = stands_more known.leaf known.asked.items known.other k.goes_on k.stands;
    spans = spans_more known.asked.items known.other known.spans.items known.leaf k.goes_on k.spans;
  }

  pub ranged_more : (os : List Open) (other : Leaf) (subject : Subject) (ranges : List Range) (end : ℕ) → IsBefore (length old) other
      → AreRanged old os other subject ranges end → AreRanged new os other subject ranges end
  ranged_more os other subject ranges end before ranged = record {
    tiles = ranged.tiles;
    before =
        All-weaker (λ (x : Range). IsBefore (length old) x.leaf) (λ (x : Range). IsBefore (length new) x.leaf)
        (λ x is. before_more old new g x.leaf is) ranges ranged.before;
    come =
        let Told : List Block → Range → Type 0 = λ bs x. (r : List ℕ) → IsRecord r → IsClearAt os r → IsWithin x (bits subject r) → (v : ℕ)
        → Comes bs os other r v → Decides bs r v x.leaf in
        All-weaker (Told old) (Told new)
        (λ x told r rec clear within v come.
        decides_more old new g (told r rec clear within v (comes_less os other r v before come))) ranges ranged.come;
  }

-- the same blocks
pub sound_same : (a b : Blocks) → b.blocks.items ≡ a.blocks.items → b.known.items ≡ a.known.items → AreSound a → AreSound b
sound_same a b is known sound = record {
  blocks_are = subst AreBlocks (sym is) sound.blocks_are;
  stand = subst BlocksStand (sym is) sound.stand;
  known = subst (All (KnownStands b.blocks.items)) (sym known) (subst (λ bs. All (KnownStands bs) a.known.items) (sym is) sound.known);
}

-- what is kept for questions that are the same
pub kept_found : (blocks : Blocks) (os : List Open) (other : Leaf) (place : ℕ) → AreSound blocks
    → IsKept blocks.blocks.items os other place → IsFound blocks.blocks.items os other (leaf.Block place)
kept_found blocks os other place sound kept =
    let bs = blocks.blocks.items in
    let own = kept.block in
    let back = are_same_back own.rules.items os kept.same in
    record {
      before = slice_get_within bs place own kept.is;
      stands = λ r rec clear v come.
          sound.stand place own kept.is r rec (clear_same os own.rules.items r back clear) v
          (elim come [
            | inl met ↦ inl (met_same os own.rules.items r v back met)
            | inr none ↦ inr (
              λ w met. none.0 w (met_same own.rules.items os r w kept.same met),
              subst (Decides bs r v) (sym kept.alike) none.1,
            )
          ]);
    }

-- ---- a block more

pub record IsRangeOf (ranges : List Range) (u : ℕ) : Type 0 where
  pub range : Range
  pub has : Contains ranges range
  pub within : IsWithin range u

pub range_at : (xs : List Range) (a b u : ℕ) → Tiles a xs b → a ≤ u → u < b → IsRangeOf xs u
range_at [] a b u t low high = absurd (omega (arith, t, low, high))
range_at (x ∷ xs) a b u t low high = elim (cases_lt x.last u) [
  | inl after ↦
      let rest = range_at xs (x.last + 1) b u t.2 (omega (arith, after)) high in
      let at = rest.has in
      record { range = rest.range; has = (suc at.0, omega (arith, at.1), at.2); within = rest.within }
  | inr before ↦ record { range = x; has = (0, omega arith, refl); within = (omega (arith, t.0, low), before) }
]

module _ (old new : List Block) (block : Block) (is : new ≡ old ++ block ∷ []) (blocks : AreBlocks old) (stand : BlocksStand old)
    (goes_on : IsBefore (length old) block.other) (own : IsBlock (length old) block)
    (ranged : AreRanged old block.rules.items block.other block.subject block.ranges.items (2 ^ 32)) where
  pub pushed_more : HasMore old new
  pushed_more = record { more = block ∷ []; is = is }

  at_end : slice_get new (length old) ≡ Some block
  at_end = ap (λ bs. slice_get bs (length old)) is ∙ slice_get_last old block

  which : (place : ℕ) (b : Block) → slice_get new place ≡ Some b → (slice_get old place ≡ Some b) ⊎ ((place ≡ length old) × (b ≡ block))
  which place b at = elim (cases_lt place (length old)) [
    | inl before ↦ inl (get_less old new pushed_more place b before at)
    | inr after ↦
        let here : place ≡ length old = omega
        (arith, after, slice_get_within new place b at, ap length is, length-append old (block ∷ [])) in
        inr (here, same_Some b block (sym at ∙ ap (slice_get new) here ∙ at_end))
  ]

  pub pushed_blocks : AreBlocks new
  pushed_blocks place b at = elim (which place b at) [
    | inl before ↦ blocks place b before
    | inr here ↦ subst (λ n. IsBlock n b) (sym here.0) (subst (IsBlock (length old)) (sym here.1) own)
  ]

  pushed_stands : DecidesFor new (leaf.Block (length old)) block.rules.items block.other
  pushed_stands r rec clear v come =
      let there = range_at block.ranges.items 0 (2 ^ 32) (bits block.subject r) ranged.tiles (omega arith) (bits_small block.subject r rec) in
      let Told : Range → Type 0 = λ x. (r : List ℕ) → IsRecord r → IsClearAt block.rules.items r → IsWithin x (bits block.subject r) → (v : ℕ)
      → Comes old block.rules.items block.other r v → Decides old r v x.leaf in
      let told : Told there.range = All-contains Told block.ranges.items there.range ranged.come there.has in
      by_block (length old) block there.range at_end there.has there.within
      (decides_more old new pushed_more
      (told r rec clear there.within v (comes_less old new pushed_more pushed_blocks block.rules.items block.other r v goes_on come)))

  pub pushed_found : IsFound new block.rules.items block.other (leaf.Block (length old))
  pushed_found = record { before = slice_get_within new (length old) block at_end; stands = pushed_stands }

  pub pushed_stand : BlocksStand new
  pushed_stand place b at = elim (which place b at) [
    | inl before ↦
        let inside = slice_get_within old place b before in
        stands_more old new pushed_more pushed_blocks (leaf.Block place) b.rules.items b.other
        (before_le place (length old) (omega (arith, inside)) b.other (blocks place b before).goes_on) (stand place b before)
    | inr here ↦
        subst (λ n. DecidesFor new (leaf.Block n) b.rules.items b.other) (sym here.0)
        (subst (λ (x : Block). DecidesFor new (leaf.Block (length old)) x.rules.items x.other) (sym here.1) pushed_stands)
  ]

pub pushed_sound : (a b : Blocks) (block : Block) → b.blocks.items ≡ a.blocks.items ++ block ∷ [] → b.known.items ≡ a.known.items
    → AreSound a → IsBefore (length a.blocks.items) block.other → IsBlock (length a.blocks.items) block
    → AreRanged a.blocks.items block.rules.items block.other block.subject block.ranges.items (2 ^ 32) → AreSound b
pushed_sound a b block is known sound goes_on own ranged =
    let old = a.blocks.items in
    let new = b.blocks.items in
    let all = pushed_blocks old new block is sound.blocks_are sound.stand goes_on own ranged in
    record {
      blocks_are = all;
      stand = pushed_stand old new block is sound.blocks_are sound.stand goes_on own ranged;
      known = subst (All (KnownStands new)) (sym known)
          (All-weaker (KnownStands old) (KnownStands new)
          (λ k. known_more old new (record { more = block ∷ []; is = is }) all k) a.known.items sound.known);
    }

-- ---- ranges

module _ (blocks : List Block) (os : List Open) (other : Leaf) (subject : Subject) where
  abbrev Told : Range → Type 0
  Told x = (r : List ℕ) → IsRecord r → IsClearAt os r → IsWithin x (bits subject r) → (v : ℕ) → Comes blocks os other r v
      → Decides blocks r v x.leaf

  pub ranged_none : AreRanged blocks os other subject [] 0
  ranged_none = record { tiles = refl; before = All-nil (λ (x : Range). IsBefore (length blocks) x.leaf); come = All-nil Told }

  -- one range has all numbers
  pub ranged_one : (only : Range) → AreRanged blocks os other subject (only ∷ []) (2 ^ 32) → IsFound blocks os other only.leaf
  ranged_one only ranged =
      let t = ranged.tiles in
      record {
        before = All-head (λ (x : Range). IsBefore (length blocks) x.leaf) only [] ranged.before;
        stands = λ r rec clear v come.
            let small = bits_small subject r rec in
            All-head Told only [] ranged.come r rec clear (omega (arith, t.0), omega (arith, t.2, small)) v come;
      }

  module _ (old new : List Range) (from end : ℕ) (to : Leaf) (ranged : AreRanged blocks os other subject old from)
      (before : IsBefore (length blocks) to)
      (told : (r : List ℕ) → IsRecord r → IsClearAt os r → from ≤ bits subject r → bits subject r < end → (v : ℕ)
      → Comes blocks os other r v → Decides blocks r v to) where
    abbrev Early : Range → Type 0
    Early x = IsBefore (length blocks) x.leaf

    extended_before : IsExtended old from end to new → AreBefore (length blocks) new
    extended_before (nothing le is) = subst (All Early) (sym is) ranged.before
    extended_before (more lt is) =
        let x : Range = record { first = from; last = end - 1; leaf = to } in
        subst (All Early) (sym is) (All-append Early old (x ∷ []) ranged.before (All-cons Early x [] before (All-nil Early)))
    extended_before (wider lt front x was alike is) =
        let y : Range = record { first = x.first; last = end - 1; leaf = to } in
        let parts : All Early (front ++ x ∷ []) = subst (All Early) was ranged.before in
        subst (All Early) (sym is)
        (All-append Early front (y ∷ []) (all_left Early front (x ∷ []) parts) (All-cons Early y [] before (All-nil Early)))

    extended_come : IsExtended old from end to new → All Told new
    extended_come (nothing le is) = subst (All Told) (sym is) ranged.come
    extended_come (more lt is) =
        let x : Range = record { first = from; last = end - 1; leaf = to } in
        let one : Told x = λ r rec clear within v come. told r rec clear within.0 (omega (arith, lt, within.1)) v come in
        subst (All Told) (sym is) (All-append Told old (x ∷ []) ranged.come (All-cons Told x [] one (All-nil Told)))
    extended_come (wider lt front x was alike is) =
        let y : Range = record { first = x.first; last = end - 1; leaf = to } in
        let back = tiles_back front 0 from x (subst (λ xs. Tiles 0 xs from) was ranged.tiles) in
        let parts : All Told (front ++ x ∷ []) = subst (All Told) was ranged.come in
        let own : Told x = All-head Told x [] (all_right Told front (x ∷ []) parts) in
        let one : Told y = λ r rec clear within v come. elim (cases_lt (bits subject r) from) [
          | inl early ↦ subst (Decides blocks r v) alike (own r rec clear (within.0, omega (arith, early, back.2)) v come)
          | inr late ↦ told r rec clear late (omega (arith, lt, within.1)) v come
        ] in
        subst (All Told) (sym is)
        (All-append Told front (y ∷ []) (all_left Told front (x ∷ []) parts) (All-cons Told y [] one (All-nil Told)))

    pub ranged_extended : IsExtended old from end to new → AreRanged blocks os other subject new (max from end)
    ranged_extended e = record {
      tiles = tiles_extended old new from end to ranged.tiles e;
      before = extended_before e;
      come = extended_come e;
    }

-- ---- from one start to the next

pub reached_first : (os : List Open) (subject : Subject) (starts : List ℕ) → AreStarts os subject starts → IsReached starts 0 0
reached_first os subject starts are = record {
  start = λ _. are.zero_first;
  all = λ none. absurd (let some = slice_get_within starts 0 0 are.zero_first in omega (arith, none, some));
}

module _ (os : List Open) (subject : Subject) (starts : List ℕ) (place from end : ℕ) (are : AreStarts os subject starts)
    (reached : IsReached starts place from) (inside : place < length starts)
    (next : (n : ℕ) → slice_get starts (place + 1) ≡ Some n → end ≡ n) (last : slice_get starts (place + 1) ≡ None → end ≡ 2 ^ 32) where
  at : slice_get starts place ≡ Some from
  at = reached.start inside

  pub start_small : from < 2 ^ 32
  start_small = subst (λ n. n < 2 ^ 32) (get_or_from_slice_get starts place from 0 at) (are.words place 0 inside)

  pub start_before : from < end
  start_before = elim (cases_lt (place + 1) (length starts)) [
    | inl later ↦
        let n = slice_index_or starts (place + 1) 0 in
        let is : slice_get starts (place + 1) ≡ Some n = slice_get-get_or starts (place + 1) 0 later in
        omega (arith, next n is, are.ascend place from n at is)
    | inr past ↦ omega (arith, last (slice_get_past starts (place + 1) past), start_small)
  ]

  pub reached_next : IsReached starts (place + 1) (max from end)
  reached_next = record {
    start = λ later.
        let n = slice_index_or starts (place + 1) 0 in
        let is : slice_get starts (place + 1) ≡ Some n = slice_get-get_or starts (place + 1) 0 later in
        let e : n ≡ max from end = omega (arith, next n is, start_before) in
        is ∙ ap Some e;
    all = λ past. omega (arith, last (slice_get_past starts (place + 1) past), start_before);
  }

  pub start_alike : (u : ℕ) → from ≤ u → u < end → u < 2 ^ 32 → AreAlikeAt os subject from u
  start_alike u low high small = are.alike place from u (record {
    is = at;
    least = low;
    below = λ n is. omega (arith, next n is, high);
    word = small;
  })

-- the ranges up to the next start
pub ranged_next : (old new : List Block) (os : List Open) (other : Leaf) (subject : Subject) (starts : List ℕ) (place from end : ℕ)
    (ranges longer : List Range) (to : Leaf) → HasMore old new → AreBlocks new → IsBefore (length old) other → AreStarts os subject starts
    → IsReached starts place from → place < length starts → ((n : ℕ) → slice_get starts (place + 1) ≡ Some n → end ≡ n)
    → (slice_get starts (place + 1) ≡ None → end ≡ 2 ^ 32) → AreRanged old os other subject ranges from
    → IsFoundAt new os other subject from to → IsExtended ranges from end to longer
    → AreRanged new os other subject longer (max from end)
ranged_next old new os other subject starts place from end ranges longer to g blocks before are reached inside next last ranged found
    extended =
    ranged_extended new os other subject ranges longer from end to (ranged_more old new g blocks os other subject ranges from before ranged)
    found.before
    (λ r rec clear low high v come.
    found.come r rec clear
    (start_alike os subject starts place from end are reached inside next last (bits subject r) low high (bits_small subject r rec)) v come)
    extended

-- ---- lists of questions

pub begins_at : (os : List Open) (k : ℕ) (d : Open) → k < length os → (slice_index_or os k d).begins ≡ true → begins_here (drop k os) ≡ true
begins_at [] k d inside begins = absurd (omega (arith, inside))
begins_at (o ∷ os) zero d inside begins = begins
begins_at (o ∷ os) (suc k) d inside begins = begins_at os k d (omega (arith, inside)) begins

weight_next : (os : List Open) (k : ℕ) (d : Open) → k < length os
    → weight (take (suc k) os) ≡ weight (take k os) + weight_of (slice_index_or os k d).question.low
weight_next [] k d inside = absurd (omega (arith, inside))
weight_next (o ∷ os) zero d inside = omega arith
weight_next (o ∷ os) (suc k) d inside = omega (arith, weight_next os k d (omega (arith, inside)))

pub weight_more : (os : List Open) (k : ℕ) (d : Open) → k < length os
    → weight (take (k + 1) os) ≡ weight (take k os) + weight_of (slice_index_or os k d).question.low
weight_more os k d inside =
    let e : suc k ≡ k + 1 = omega arith in
    subst (λ n. weight (take n os) ≡ weight (take k os) + weight_of (slice_index_or os k d).question.low) e (weight_next os k d inside)

-- ---- ranges of a block

pub single : (xs : List Range) (x : Range) → 1 ≤ length xs → length xs < 2 → x ≡ get_or xs 0 x → xs ≡ x ∷ []
single [] x some few is = absurd (omega (arith, some))
single (y ∷ []) x some few is = ap (λ z. z ∷ []) (sym is)
single (y ∷ z ∷ zs) x some few is = absurd (omega (arith, few))

-- ---- each question of rules

module _ (P : Open → Type 0) where
  put_all : (t : Bool) (o : Open) (rules : List (List Open)) → All (All P) (put_first t o rules) → P o × All (All P) rules
  put_all true o rules h = (All-head P o [] (All-head (All P) (o ∷ []) rules h), All-tail (All P) (o ∷ []) rules h)
  put_all false o [] h = (All-head P o [] (All-head (All P) (o ∷ []) [] h), All-nil (All P))
  put_all false o (rule ∷ rules) h =
      let first = All-head (All P) (o ∷ rule) rules h in (
        All-head P o rule first,
        All-cons (All P) rule rules (All-tail P o rule first) (All-tail (All P) (o ∷ rule) rules h),
      )

  pub all_asked : (os : List Open) → All (All P) (rules_of os) → All P os
  all_asked [] h = All-nil P
  all_asked (o ∷ os) h =
      let parts = put_all (begins_here os) o (rules_of os) h in
      All-cons P o os parts.0 (all_asked os parts.1)

pub asked_offset : (os : List Open) (subject : Subject) → AreRules os → AsksFor os subject → IsOffset subject.word
asked_offset os subject rules asks =
    let P : Open → Type 0 = λ o. IsQuestion o.question in
    let all : All P os = all_asked P os
    (All-weaker IsRule (All P)
    (λ rule is. All-weaker (λ o. (o.answer ≡ answer_of rule) × IsQuestion o.question) P (λ o both. both.1) rule is) (rules_of os) rules.1) in
    let one : P asks.1 = subst P asks.3 (all asks.0 asks.1 asks.2) in
    subst (λ (s : Subject). IsOffset s.word) asks.4 one.offset

-- ---- what is found where the bits are a number

module _ (blocks : List Block) (os : List Open) (other : Leaf) (subject : Subject) (number : ℕ) where
  pub found_met : (word : ℕ) → ((r : List ℕ) → AreAlikeAt os subject number (bits subject r) → SomeMet os r word)
      → IsFoundAt blocks os other subject number (leaf.Verdict word)
  found_met word says = record {
    before = tt;
    come = λ r rec clear alike v come.
        let met : SomeMet os r word = says r alike in
        let is : v ≡ word = elim come [ inl some ↦ clear v word some met | inr none ↦ absurd (none.0 word met) ] in
        subst (λ w. Decides blocks r v (leaf.Verdict w)) is by_verdict;
  }

  pub found_open : (others : List Open) (to : Leaf)
      → ((r : List ℕ) → AreAlikeAt os subject number (bits subject r) → (w : ℕ) → SomeMet others r w ↔ SomeMet os r w)
      → IsFound blocks others other to → IsFoundAt blocks os other subject number to
  found_open others to says found = record {
    before = found.before;
    come = λ r rec clear alike v come.
        let same : (w : ℕ) → SomeMet others r w ↔ SomeMet os r w = says r alike in
        found.stands r rec (λ a b one two. clear a b ((same a).0 one) ((same b).0 two)) v
        (elim come [ inl some ↦ inl ((same v).1 some) | inr none ↦ inr (λ w met. none.0 w ((same w).0 met), none.1) ]);
  }

-- what holds of what is found
pub if_found : {A E : Type 0} (P Q : A → Type 0) → ((x : A) → P x → Q x) → (found : Result (Option A) E) → IfOk found (λ o. IfSome o P)
    → IfOk found (λ o. IfSome o Q)
if_found P Q f (Ok None) h = tt
if_found P Q f (Ok (Some x)) h = f x h
if_found P Q f (Err e) h = tt
