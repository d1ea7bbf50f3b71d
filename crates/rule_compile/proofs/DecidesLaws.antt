-- What blocks decide, where there are more behind them.
use Rattle.std.proofs.Common.{◌≡◌, ℕ, ◌<◌, ◌≤◌, List, [], ◌++◌, length, ap, sym, ◌∙◌, arith, append_assoc, append-nil, length-append}
use Rattle.std.specs.Prelude.{Some, slice_get}
use Rattle.std.proofs.lemmas.List.Elements.{All-contains}
use Rattle.std.proofs.lemmas.Option.{slice_get_within}
use Rattle.profile.proofs.KeptLaws.{slice_get_left}
use Rattle.rule_compile.specs.declared.outline.Block.{Block}
use Rattle.rule_compile.specs.declared.ranges.Leaf.{Leaf}
use Rattle.rule_compile.specs.declared.ranges.Leaf.TheVariants as leaf
use Rattle.rule_compile.specs.declared.ranges.Range.{Range}
use Rattle.rule_compile.specs.Decides.{Decides, by_block, by_verdict}
use Rattle.rule_compile.specs.inner.Runs.{IsBefore}
use Rattle.rule_compile.specs.inner.Stands.{AreBlocks, HasMore}

pub more_same : (blocks : List Block) → HasMore blocks blocks
more_same blocks = record { more = []; is = sym (append-nil blocks) }

pub more_on : {a b c : List Block} → HasMore a b → HasMore b c → HasMore a c
more_on {a} {b} {c} first next = record {
  more = first.more ++ next.more;
  is = next.is ∙ ap (λ x. x ++ next.more) first.is ∙ append_assoc a first.more next.more;
}

pub more_length : {old new : List Block} → HasMore old new → length old ≤ length new
more_length {old} {new} g = omega (arith, ap length g.is, length-append old g.more)

module _ (old new : List Block) (g : HasMore old new) where
  pub get_more : (place : ℕ) (block : Block) → slice_get old place ≡ Some block → slice_get new place ≡ Some block
  get_more place block at =
      ap (λ bs. slice_get bs place) g.is ∙ slice_get_left old g.more place (slice_get_within old place block at) ∙ at

  pub get_less : (place : ℕ) (block : Block) → place < length old → slice_get new place ≡ Some block → slice_get old place ≡ Some block
  get_less place block inside at = sym (slice_get_left old g.more place inside) ∙ ap (λ bs. slice_get bs place) (sym g.is) ∙ at

  -- what is decided stays so
  pub decides_more : {r : List ℕ} {v : ℕ} {l : Leaf} → Decides old r v l → Decides new r v l
  decides_more by_verdict = by_verdict
  decides_more (by_block place block range at has inside d) =
      by_block place block range (get_more place block at) has inside (decides_more d)

  pub before_more : (l : Leaf) → IsBefore (length old) l → IsBefore (length new) l
  before_more (leaf.Verdict w) is = tt
  before_more (leaf.Block place) is = omega (arith, is, more_length g)

-- an early place among the first of more
pub before_le : (count most : ℕ) → count ≤ most → (l : Leaf) → IsBefore count l → IsBefore most l
before_le count most le (leaf.Verdict w) is = tt
before_le count most le (leaf.Block place) is = omega (arith, is, le)

-- blocks go on at blocks before them, so what is behind makes no difference
pub decides_less : (old new : List Block) → HasMore old new → AreBlocks new → {r : List ℕ} {v : ℕ} {l : Leaf} → IsBefore (length old) l
    → Decides new r v l → Decides old r v l
decides_less old new g blocks before by_verdict = by_verdict
decides_less old new g blocks before (by_block place block range at has inside d) =
    let own : IsBefore place range.leaf =
    All-contains (λ (x : Range). IsBefore place x.leaf) block.ranges.items range (blocks place block at).before has in
    by_block place block range (get_less old new g place block before at) has inside
    (decides_less old new g blocks (before_le place (length old) (omega (arith, before)) range.leaf own) d)
