use Rattle.std.proofs.Common.{◌≡◌, ◌+◌, ◌^◌, ◌<◌, ◌∙◌, List, length, get_or, ap, arith, max, refl, subst, sym, vec_len}
use Rattle.std.proofs.lemmas.List.Elements.{All-weaker}
use Rattle.std.specs.Prelude.{slice_index_or}
use Rattle.machines.specs.declared.numbers.Numbers.{Numbers}
use Rattle.machines.specs.declared.arch.Arch.{Arch}
use Rattle.machines.specs.Numbers.{foreign_numbers, from_to}
use Rattle.rule_compile.specs.declared.ranges.Leaf.TheVariants.{Verdict}
use Rattle.rule_compile.specs.declared.ranges.Range.{Range}
use Rattle.rule_compile.specs.inner.Numbers.{AreOwn, Between, IsExtended, Reached}
use Rattle.rule_compile.specs.inner.Runs.{IsBefore}
use Rattle.rule_compile.specs.inner.Told.{ToldSoFar}
use Rattle.rule_compile.proofs.DecidesLaws.{before_le, more_on, more_same}
use Rattle.rule_compile.proofs.RangeLaws.{between_next, between_none, last_own, last_reached, others_between, own_before, own_reached}
use Rattle.rule_compile.proofs.RangeLaws.{tiles_some, whole_few}
use Rattle.rule_compile.proofs.ToldLaws.{told_foreign, told_none}
use Rattle.rule_compile.proofs.ranges.ranges_of.Goals as goal

pub add_own-requires-clause-own : goal.add_own-requires-clause-own
add_own-requires-clause-own c =
    let p = c.args.profile.now in
    let m = c.args.machine in
    let these = c.foreign_numbers-foreign-items.result.now in
    let are : these ≡ foreign_numbers p.machines m =
    c.foreign_numbers-foreign-items.ensures ∙ ap (λ (ms : List Arch). foreign_numbers ms m) c.machines.ensures.machines in
    let k = c.loop-foreign.foreign-index in
    let inside : k < length (foreign_numbers p.machines m) = subst (λ (all : List Numbers). k < length all) are c.loop-foreign-test.true in
    subst (AreOwn p m c.loop-foreign.ranges.end) (sym c.from.ensures)
    (own_before p m k c.loop-foreign.ranges.end (get_or these k (from_to 0 0)) c.loop-foreign.ranges.ranges.items
    c.loop-foreign.invariant.between inside (ap (λ (all : List Numbers). slice_index_or all k (from_to 0 0)) are))

pub loop-foreign-preserved : goal.loop-foreign-preserved
loop-foreign-preserved c =
    let p = c.args.profile.now in
    let m = c.args.machine in
    let these = c.foreign_numbers-foreign-items.result.now in
    let are : these ≡ foreign_numbers p.machines m =
    c.foreign_numbers-foreign-items.ensures ∙ ap (λ (ms : List Arch). foreign_numbers ms m) c.machines.ensures.machines in
    let k = c.loop-foreign.foreign-index in
    let upto = c.loop-foreign.ranges.end in
    let foreign = get_or these k (from_to 0 0) in
    let old = c.loop-foreign.ranges.ranges.items in
    let mid = c.add_own.new.self.ranges.items in
    let new = c.extend.new.self.ranges.items in
    let between = c.loop-foreign.invariant.between in
    let inside : k < length (foreign_numbers p.machines m) = subst (λ (all : List Numbers). k < length all) are c.loop-foreign-test.true in
    let at : foreign ≡ slice_index_or (foreign_numbers p.machines m) k (from_to 0 0) =
    ap (λ (all : List Numbers). slice_index_or all k (from_to 0 0)) are in
    let first : c.from.result ≡ foreign.first = c.from.ensures in
    let final : c.from-in-loop-foreign.result ≡ foreign.last = c.from-in-loop-foreign.ensures in
    let reached : Reached p m 513 foreign.first foreign.first mid =
    subst (λ n. Reached p m 513 n n mid) first
    (c.in_ok-add_own.ensures.reached 513 (omega arith)
    (subst (λ n. Reached p m 513 n upto old) (sym first)
    (own_reached p m k upto foreign old between inside at))) in
    let last : IsExtended mid foreign.first (foreign.last + 1) (Verdict 0) new =
    subst (λ n. IsExtended mid foreign.first (n + 1) (Verdict 0) new) final
    (subst (λ n. IsExtended mid n (c.from-in-loop-foreign.result + 1) (Verdict 0) new) (c.in_ok-add_own.ensures.end ∙ first)
    c.in_ok-extend.ensures.extended) in
    let end : c.extend.new.self.end ≡ max foreign.first (foreign.last + 1) =
    c.in_ok-extend.ensures.end
    ∙ ap (λ n. max n (c.from-in-loop-foreign.result + 1)) (c.in_ok-add_own.ensures.end ∙ first)
    ∙ ap (λ n. max foreign.first (n + 1)) final in
    record {
      between = subst (λ n. Between p m (k + 1) n new) (sym end)
          (between_next p m k upto foreign old between inside at mid new reached last);
      no_block = λ plain. c.in_ok-add_own.ensures.no_block plain ∙ c.loop-foreign.invariant.no_block plain;
      sound = c.in_ok-add_own.ensures.sound;
      more = more_on c.loop-foreign.invariant.more c.in_ok-add_own.ensures.more;
      calls = λ listed all. c.in_ok-add_own.ensures.calls listed (c.loop-foreign.invariant.calls listed all);
      told =
          let blocks = c.add_own.new.blocks.blocks.items in
          let so_far : ToldSoFar p m blocks foreign.first mid =
          subst (λ n. ToldSoFar p m blocks n mid) (c.in_ok-add_own.ensures.end ∙ first)
          (c.in_ok-add_own.ensures.told c.loop-foreign.invariant.told) in
          subst (λ n. ToldSoFar p m blocks n new) (sym end)
          (told_foreign p m blocks c.requires.clear foreign.first (foreign.last + 1) mid new
          (λ u low high. others_between p m k upto foreign old between inside at u low (omega (arith, high))) so_far last);
    }

pub loop-foreign-init : goal.loop-foreign-init
loop-foreign-init c = record {
  between = subst (λ n. Between c.args.profile.now c.args.machine 0 n c.new-ranges.result.ranges.items) (sym c.new-ranges.ensures.end)
      (subst (Between c.args.profile.now c.args.machine 0 0) (sym c.new-ranges.ensures.ranges) (between_none c.args.profile.now c.args.machine));
  no_block = λ plain. refl;
  sound = c.requires.sound;
  more = more_same c.args.blocks.now.blocks.items;
  calls = λ listed all. all;
  told = subst (λ n. ToldSoFar c.args.profile.now c.args.machine c.args.blocks.now.blocks.items n c.new-ranges.result.ranges.items)
      (sym c.new-ranges.ensures.end)
      (subst (ToldSoFar c.args.profile.now c.args.machine c.args.blocks.now.blocks.items 0) (sym c.new-ranges.ensures.ranges)
      (told_none c.args.profile.now c.args.machine c.args.blocks.now.blocks.items));
}

pub returns-clause-more : goal.returns-clause-more
returns-clause-more c = more_on c.loop-foreign.invariant.more c.in_ok-add_own-2.ensures.more

pub returns-clause-before : goal.returns-clause-before
returns-clause-before c =
    let told = c.in_ok-add_own-2.ensures.told c.loop-foreign.invariant.told in
    let blocks = c.add_own-2.new.blocks.blocks in
    All-weaker (λ (x : Range). IsBefore (length blocks.items) x.leaf) (λ (x : Range). IsBefore (vec_len blocks) x.leaf)
    (λ x is. before_le (length blocks.items) (vec_len blocks) (omega (arith, blocks.ok)) x.leaf is) c.add_own-2.new.self.ranges.items told.before

pub returns-clause-decides : goal.returns-clause-decides
returns-clause-decides c listed =
    let told = c.in_ok-add_own-2.ensures.told c.loop-foreign.invariant.told in
    told.decides listed

pub add_own-requires-2-clause-own : goal.add_own-requires-2-clause-own
add_own-requires-2-clause-own c =
    let all : c.loop-foreign.foreign-index ≡ length (foreign_numbers c.args.profile.now.machines c.args.machine) =
    omega (
      arith,
      c.loop-foreign-test.false,
      c.loop-foreign.auto.foreign-index-end,
      ap length c.foreign_numbers-foreign-items.ensures,
      ap (λ (ms : List Arch). length (foreign_numbers ms c.args.machine)) c.machines.ensures.machines,
    ) in
    last_own c.args.profile.now c.args.machine c.loop-foreign.foreign-index c.loop-foreign.ranges.end
    c.loop-foreign.ranges.ranges.items c.loop-foreign.invariant.between all

pub returns-clause-tiled : goal.returns-clause-tiled
returns-clause-tiled c =
    let all : c.loop-foreign.foreign-index ≡ length (foreign_numbers c.args.profile.now.machines c.args.machine) =
    omega (
      arith,
      c.loop-foreign-test.false,
      c.loop-foreign.auto.foreign-index-end,
      ap length c.foreign_numbers-foreign-items.ensures,
      ap (λ (ms : List Arch). length (foreign_numbers ms c.args.machine)) c.machines.ensures.machines,
    ) in
    let reached : Reached c.args.profile.now c.args.machine 515 (2 ^ 32) (2 ^ 32) c.add_own-2.new.self.ranges.items =
    c.in_ok-add_own-2.ensures.reached 515 (omega arith)
    (last_reached c.args.profile.now c.args.machine c.loop-foreign.foreign-index c.loop-foreign.ranges.end
    c.loop-foreign.ranges.ranges.items c.loop-foreign.invariant.between all) in
    reached.tiles

pub returns-clause-some : goal.returns-clause-some
returns-clause-some c = tiles_some c.add_own-2.new.self.ranges.items (2 ^ 32) (omega arith) (returns-clause-tiled c)

pub returns-clause-few : goal.returns-clause-few
returns-clause-few c =
    let all : c.loop-foreign.foreign-index ≡ length (foreign_numbers c.args.profile.now.machines c.args.machine) =
    omega (
      arith,
      c.loop-foreign-test.false,
      c.loop-foreign.auto.foreign-index-end,
      ap length c.foreign_numbers-foreign-items.ensures,
      ap (λ (ms : List Arch). length (foreign_numbers ms c.args.machine)) c.machines.ensures.machines,
    ) in
    let reached : Reached c.args.profile.now c.args.machine 515 (2 ^ 32) (2 ^ 32) c.add_own-2.new.self.ranges.items =
    c.in_ok-add_own-2.ensures.reached 515 (omega arith)
    (last_reached c.args.profile.now c.args.machine c.loop-foreign.foreign-index c.loop-foreign.ranges.end
    c.loop-foreign.ranges.ranges.items c.loop-foreign.invariant.between all) in
    whole_few c.args.profile.now c.args.machine c.add_own-2.new.self.ranges.items reached

pub returns-clause-has_verdicts : goal.returns-clause-has_verdicts
returns-clause-has_verdicts c =
    let all : c.loop-foreign.foreign-index ≡ length (foreign_numbers c.args.profile.now.machines c.args.machine) =
    omega (
      arith,
      c.loop-foreign-test.false,
      c.loop-foreign.auto.foreign-index-end,
      ap length c.foreign_numbers-foreign-items.ensures,
      ap (λ (ms : List Arch). length (foreign_numbers ms c.args.machine)) c.machines.ensures.machines,
    ) in
    let reached : Reached c.args.profile.now c.args.machine 515 (2 ^ 32) (2 ^ 32) c.add_own-2.new.self.ranges.items =
    c.in_ok-add_own-2.ensures.reached 515 (omega arith)
    (last_reached c.args.profile.now c.args.machine c.loop-foreign.foreign-index c.loop-foreign.ranges.end
    c.loop-foreign.ranges.ranges.items c.loop-foreign.invariant.between all) in
    reached.has_verdicts

pub returns-clause-calls : goal.returns-clause-calls
returns-clause-calls c listed all = c.in_ok-add_own-2.ensures.calls listed (c.loop-foreign.invariant.calls listed all)
