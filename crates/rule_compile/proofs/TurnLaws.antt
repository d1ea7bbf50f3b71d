-- A leaf decides one verdict for each record, so the parts that stand for questions say what these come to.
use Rattle.std.proofs.Common.{◌≡◌, ℕ, zero, suc, ◌<◌, ◌≤◌, ◌⊎◌, ◌^◌, List, [], ◌∷◌, length, refl, sym, ◌∙◌, subst, arith, inl, inr}
use Rattle.std.specs.Prelude.{Some, slice_get}
use Rattle.std.specs.List.{All, Contains}
use Rattle.std.proofs.lemmas.List.Elements.{All-contains, All-head, All-tail}
use Rattle.std.proofs.lemmas.Option.{same_Some}
use Rattle.call_record.specs.Words.{IsRecord}
use Rattle.rule_compile.specs.declared.asked.Open.{Open}
use Rattle.rule_compile.specs.declared.outline.Block.{Block}
use Rattle.rule_compile.specs.declared.outline.Part.{Part}
use Rattle.rule_compile.specs.declared.ranges.Leaf.{Leaf}
use Rattle.rule_compile.specs.declared.ranges.Leaf.TheVariants as leaf
use Rattle.rule_compile.specs.declared.ranges.Range.{Range}
use Rattle.rule_compile.specs.Decides.{Comes, Decides, DecidesOne, IsWithin, StandsFor, by_block, by_verdict}
use Rattle.rule_compile.specs.Outline.{ComeInTurn}
use Rattle.rule_compile.specs.Questions.{bits}
use Rattle.rule_compile.specs.Rules.{IsClearAt, SomeMet}
use Rattle.rule_compile.specs.inner.Noted.{ArePartsOf}
use Rattle.rule_compile.specs.inner.Ranges.{AreInOrder}
use Rattle.rule_compile.specs.inner.Runs.{IsBefore}
use Rattle.rule_compile.specs.inner.Stands.{AreBlocks, DecidesFor, IsFound}
use Rattle.rule_compile.proofs.BlocksLaws.{bits_small, range_at}
use Rattle.rule_compile.proofs.DecidesLaws.{before_le}
use Rattle.rule_compile.proofs.LeadsLaws.{block_decided, verdict_decided}
use Rattle.rule_compile.proofs.RangeLaws.{tiles_in_order}
use Rattle.rule_compile.proofs.StandsLaws.{met_some}

-- ---- one range has a number

contains_cases : (x : Range) (xs : List Range) (y : Range) → Contains (x ∷ xs) y → (x ≡ y) ⊎ Contains xs y
contains_cases x xs y (zero, inside, is) = inl is
contains_cases x xs y (suc k, inside, is) = inr (k, omega (arith, inside), is)

past : (x : Range) (xs : List Range) (y : Range) (u : ℕ) → AreInOrder (x ∷ xs) → Contains xs y → IsWithin x u → IsWithin y u → ⊥
past x xs y u order has in_x in_y =
    let after : x.last < y.first = All-contains (λ (z : Range). x.last < z.first) xs y order.1 has in
    omega (arith, after, in_x.1, in_y.0)

one_range : (xs : List Range) (x y : Range) (u : ℕ) → AreInOrder xs → Contains xs x → Contains xs y → IsWithin x u → IsWithin y u → x ≡ y
one_range [] x y u order (k, inside, is) has in_x in_y = absurd (omega (arith, inside))
one_range (z ∷ zs) x y u order has_x has_y in_x in_y =
    elim (contains_cases z zs x has_x) [
      | inl first ↦ elim (contains_cases z zs y has_y) [
        | inl same ↦ sym first ∙ same
        | inr later ↦ absurd (past z zs y u order later (subst (λ (w : Range). IsWithin w u) (sym first) in_x) in_y)
      ]
      | inr later ↦ elim (contains_cases z zs y has_y) [
        | inl same ↦ absurd (past z zs x u order later (subst (λ (w : Range). IsWithin w u) (sym same) in_y) in_x)
        | inr also ↦ one_range zs x y u order.2 later also in_x in_y
      ]
    ]

-- ---- a leaf decides one verdict

some_block : (blocks : List Block) (place : ℕ) → place < length blocks → (b : Block) × (slice_get blocks place ≡ Some b)
some_block [] place inside = absurd (omega (arith, inside))
some_block (b ∷ blocks) zero inside = (b, refl)
some_block (b ∷ blocks) (suc place) inside = some_block blocks place (omega (arith, inside))

module _ (blocks : List Block) (are : AreBlocks blocks) (r : List ℕ) where
  decides_one : (v w : ℕ) (l : Leaf) → Decides blocks r v l → Decides blocks r w l → v ≡ w
  decides_one v w (leaf.Verdict x) by_verdict other = verdict_decided other
  decides_one v w (leaf.Block k) (by_block place block range at has within d) other =
      let next = block_decided other in
      let same : next.block ≡ block = same_Some next.block block (sym next.at ∙ at) in
      let order = tiles_in_order block.ranges.items 0 (2 ^ 32) (let own = are place block at in own.tiles) in
      let one : range ≡ next.range =
      one_range block.ranges.items range next.range (bits block.subject r) order has
      (subst (λ (b : Block). Contains b.ranges.items next.range) same next.has) within
      (subst (λ (b : Block). IsWithin next.range (bits b.subject r)) same next.inside) in
      decides_one v w range.leaf d (subst (λ (x : Range). Decides blocks r w x.leaf) (sym one) next.decides)

  module _ (is_r : IsRecord r) where
    decides_below : (n : ℕ) → n ≤ length blocks → (l : Leaf) → IsBefore n l → (v : ℕ) × Decides blocks r v l
    decides_below n within (leaf.Verdict w) before = (w, by_verdict)
    decides_below zero within (leaf.Block place) before = absurd (omega (arith, before))
    decides_below (suc n) within (leaf.Block place) before =
        let found = some_block blocks place (omega (arith, before, within)) in
        let b = found.0 in
        let own = are place b found.1 in
        let there = range_at b.ranges.items 0 (2 ^ 32) (bits b.subject r) own.tiles (omega arith) (bits_small b.subject r is_r) in
        let early : IsBefore place there.range.leaf =
        All-contains (λ (x : Range). IsBefore place x.leaf) b.ranges.items there.range own.before there.has in
        let rest = decides_below n (omega (arith, within)) there.range.leaf (before_le place n (omega (arith, before)) there.range.leaf early) in
        (rest.0, by_block place b there.range found.1 there.has there.within rest.1)

-- ---- what stands for questions decides nothing else

module _ (blocks : List Block) (are : AreBlocks blocks) where
  pub one_verdict : (to : Leaf) → IsBefore (length blocks) to → DecidesOne blocks to
  one_verdict to before r is_r =
      let told = decides_below blocks are r is_r (length blocks) (omega arith) to before in
      (told.0, told.1, λ w d. decides_one blocks are r w told.0 to d told.1)

  pub stands_both : (to : Leaf) (os : List Open) (other : Leaf) → IsBefore (length blocks) other → DecidesFor blocks to os other
      → StandsFor blocks to os other
  stands_both to os other before stands r is_r clear v =
      let back : Decides blocks r v to → Comes blocks os other r v = λ d.
      elim (met_some os r) [
        | inl met ↦ inl (subst (SomeMet os r) (decides_one blocks are r met.0 v to (stands r is_r clear met.0 (inl met.1)) d) met.1)
        | inr none ↦
            let told = decides_below blocks are r is_r (length blocks) (omega arith) other before in
            let same = decides_one blocks are r told.0 v to (stands r is_r clear told.0 (inr (none, told.1))) d in
            inr (none, subst (λ x. Decides blocks r x other) same told.1)
      ] in
      (back, stands r is_r clear v)

  -- ---- parts in turn

  module _ (r : List ℕ) (is_r : IsRecord r) where
    pub in_turn : (os : List Open) (other : Leaf) (parts : List Part) (whole : Leaf) (Other : ℕ → Type 0) (v : ℕ)
        → IsBefore (length blocks) other → ((w : ℕ) → Decides blocks r w other → Other w)
        → All (λ (part : Part). IsClearAt part.rules.items r) parts → ArePartsOf blocks os other parts whole → Decides blocks r v whole
        → ComeInTurn Other parts r v
    in_turn os other [] whole Other v before come clear is d = come v (subst (Decides blocks r v) is d)
    in_turn os other (part ∷ parts) whole Other v before come clear is d =
        let qs = part.rules.items in
        let Clear : Part → Type 0 = λ part. IsClearAt part.rules.items r in
        let own : IsClearAt qs r = All-head Clear part parts clear in
        let found : IsFound blocks qs other part.leaf = is.0 in
        let stands = stands_both part.leaf qs other before found.stands in
        let Next : ℕ → Type 0 = λ w. SomeMet qs r w ⊎ (((u : ℕ) → SomeMet qs r u → ⊥) × Other w) in
        let next : (w : ℕ) → Decides blocks r w part.leaf → Next w = λ w e.
        elim ((stands r is_r own w).0 e) [ inl met ↦ inl met | inr none ↦ inr (none.0, come w none.1) ] in
        in_turn os part.leaf parts whole Next v found.before next (All-tail Clear part parts clear) is.2 d
