use Rattle.std.proofs.Common.{◌≡◌, ◌^◌, [], ◌∷◌, ◌∙◌, sym, subst, arith, length, vec_len}
use Rattle.rule_compile.specs.declared.outline.Block.{Block}
use Rattle.rule_compile.specs.declared.ranges.Leaf.TheVariants as leaf
use Rattle.rule_compile.specs.inner.Runs.{IsBefore}
use Rattle.rule_compile.specs.inner.Stands.{AreRanged, IsBlock, IsFound}
use Rattle.rule_compile.proofs.BlocksLaws.{asked_offset, pushed_found, pushed_sound, ranged_one, single}
use Rattle.rule_compile.proofs.DecidesLaws.{before_le}
use Rattle.rule_compile.proofs.blocks.Blocks.push.Goals as goal

pub returns-in-len1-clause-found : goal.returns-in-len1-clause-found
returns-in-len1-clause-found c =
    let only = c.only-item.result in
    let bs = c.args.self.now.blocks.items in
    let is : c.args.ranges.ranges.items ≡ only ∷ [] =
    sym c.into_vec-ranges.ensures ∙ sym c.as_slice.ensures.value
    ∙ single c.as_slice.result.now only c.in-len1.len_at_least c.in-len1.len_below c.only-item.is in
    ranged_one bs c.args.rules.now c.args.other.now c.args.subject only
    (subst (λ xs. AreRanged bs c.args.rules.now c.args.other.now c.args.subject xs (2 ^ 32)) is c.requires.ranged)

-- the block that is added
abbrev block_of : goal.In_ok-put → Block
block_of c = record {
  subject = c.args.subject;
  ranges = c.into_vec-ranges.result;
  rules = c.in_ok-rules.rules;
  other = c.args.other.now;
}

before_of : (c : goal.In_ok-put) → IsBefore (length c.args.self.now.blocks.items) c.args.other.now
before_of c =
    before_le (vec_len c.args.self.now.blocks) (length c.args.self.now.blocks.items) (omega (arith, c.args.self.now.blocks.ok))
    c.args.other.now c.requires.other

ranged_of : (c : goal.In_ok-put) → AreRanged c.args.self.now.blocks.items c.in_ok-rules.rules.items c.args.other.now c.args.subject
    c.into_vec-ranges.result.items (2 ^ 32)
ranged_of c =
    let bs = c.args.self.now.blocks.items in
    subst (λ os. AreRanged bs os c.args.other.now c.args.subject c.into_vec-ranges.result.items (2 ^ 32)) (sym c.in_ok-rules.ensures.items)
    (subst (λ xs. AreRanged bs c.args.rules.now c.args.other.now c.args.subject xs (2 ^ 32)) (sym c.into_vec-ranges.ensures)
    c.requires.ranged)

own_of : (c : goal.In_ok-put) → IsBlock (length c.args.self.now.blocks.items) (block_of c)
own_of c =
    let ranged = ranged_of c in
    record {
      offset = asked_offset c.args.rules.now c.args.subject c.requires.rules c.requires.asks;
      tiles = ranged.tiles;
      before = ranged.before;
      goes_on = before_of c;
    }

pub returns-clause-sound : goal.returns-clause-sound
returns-clause-sound c =
    pushed_sound c.args.self.now c.put.new.self (block_of c) c.in_ok-put.ensures.blocks c.in_ok-put.ensures.known c.requires.sound
    (before_of c) (own_of c) (ranged_of c)

pub returns-clause-found : goal.returns-clause-found
returns-clause-found c =
    let old = c.args.self.now.blocks.items in
    let new = c.put.new.self.blocks.items in
    let found = pushed_found old new (block_of c) c.in_ok-put.ensures.blocks c.requires.sound.blocks_are c.requires.sound.stand
    (before_of c) (own_of c) (ranged_of c) in
    let n : length old ≡ c.len-block.result = omega (arith, c.len-block.ensures, c.args.self.now.blocks.ok) in
    subst (λ k. IsFound new c.args.rules.now c.args.other.now (leaf.Block k)) n
    (subst (λ os. IsFound new os c.args.other.now (leaf.Block (length old))) c.in_ok-rules.ensures.items found)
