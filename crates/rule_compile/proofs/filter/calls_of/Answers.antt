use Rattle.std.proofs.Common.{◌≡◌, ◌∙◌, ◌^◌, ap, subst, sym, vec_len}
use Rattle.machines.specs.Arch.{token_of}
use Rattle.rule_compile.specs.declared.blocks.Blocks.{Blocks}
use Rattle.rule_compile.specs.Decides.{Tiles}
use Rattle.rule_compile.specs.Shape.{IsPlain}
use Rattle.rule_compile.specs.inner.Ranges.{Searched}
use Rattle.rule_compile.specs.inner.Runs.{AreWritten, LeadsByWord}
use Rattle.rule_compile.specs.inner.Steadily.{AreSteady}
use Rattle.rule_compile.proofs.CallLaws.{calls_searched, searched_grows, searched_placed}
use Rattle.rule_compile.proofs.GoesLaws.{grows_on}
use Rattle.rule_compile.proofs.SteadyLaws.{are_steady_kept}
use Rattle.rule_compile.proofs.TellsLaws.{calls_tell, written_grows, written_more}
use Rattle.rule_compile.proofs.filter.calls_of.Goals as goal

pub returns-clause-calls : goal.returns-clause-calls
returns-clause-calls c =
    let p = c.args.profile.now in
    let t = token_of c.args.machine in
    let old = c.args.code.now in
    let mid = c.write_blocks.new.code in
    let ranges = c.in_ok-ranges.ranges.items in
    let same : IsPlain p → vec_len c.args.blocks.now.blocks ≡ 0 → vec_len c.ranges_of.new.blocks.blocks ≡ 0 =
    λ plain none. ap (λ (blocks : Blocks). vec_len blocks.blocks) (c.in_ok-ranges.ensures.no_block plain) ∙ none in
    let new = c.search_word.new.code in
    let target = c.in_ok-found.found.target in
    let searched : Searched mid new ranges 0 target = subst (λ rs. Searched mid new rs 0 target) c.deref.ensures.value
    c.in_ok-found.ensures.searched in
    record {
      grows = grows_on c.in_ok-write_blocks.ensures.grows (searched_grows mid new ranges 0 target searched);
      placed = searched_placed mid new ranges 0 target searched;
      told = λ plain none listed.
          calls_searched p t old mid new ranges target searched (c.in_ok-write_blocks.ensures.none
          (same plain none)) c.in_ok-ranges.ensures.tiled
          (c.in_ok-ranges.ensures.few plain) (c.in_ok-ranges.ensures.has_verdicts plain listed);
    }

pub returns-clause-written : goal.returns-clause-written
returns-clause-written c wr =
    let blocks = c.ranges_of.new.blocks.blocks.items in
    let mid = c.write_blocks.new.code in
    let new = c.search_word.new.code in
    let written = c.write_blocks.new.written.items in
    let target = c.in_ok-found.found.target in
    let searched : Searched mid new c.in_ok-ranges.ranges.items 0 target =
    subst (λ rs. Searched mid new rs 0 target) c.deref.ensures.value c.in_ok-found.ensures.searched in
    let more = written_more c.args.blocks.now.blocks.items blocks c.args.code.now c.args.written.now.items c.in_ok-ranges.ensures.more
    c.in_ok-ranges.ensures.sound.blocks_are wr in
    written_grows blocks mid new written (searched_grows mid new c.in_ok-ranges.ranges.items 0 target searched)
    (c.in_ok-write_blocks.ensures.written more)

pub returns-clause-tells : goal.returns-clause-tells
returns-clause-tells c listed wr =
    let p = c.args.profile.now in
    let t = token_of c.args.machine in
    let blocks = c.ranges_of.new.blocks.blocks.items in
    let mid = c.write_blocks.new.code in
    let new = c.search_word.new.code in
    let ranges = c.in_ok-ranges.ranges.items in
    let target = c.in_ok-found.found.target in
    let more = written_more c.args.blocks.now.blocks.items blocks c.args.code.now c.args.written.now.items c.in_ok-ranges.ensures.more
    c.in_ok-ranges.ensures.sound.blocks_are wr in
    let tiles : Tiles 0 c.deref.result.now (2 ^ 32) = subst (λ rs. Tiles 0 rs (2 ^ 32)) (sym c.deref.ensures.value) c.in_ok-ranges.ensures.tiled in
    let led : LeadsByWord blocks new 0 ranges target =
    subst (λ rs. LeadsByWord blocks new 0 rs target) c.deref.ensures.value
    (c.in_ok-found.ensures.led blocks
    (subst (AreWritten blocks mid) (sym c.deref-2.ensures.value) (c.in_ok-write_blocks.ensures.written more)) tiles) in
    calls_tell p t blocks new ranges target c.in_ok-ranges.ensures.tiled (c.in_ok-ranges.ensures.decides listed) led

pub returns-clause-steady : goal.returns-clause-steady
returns-clause-steady c steady =
    let mid = c.write_blocks.new.code in
    let new = c.search_word.new.code in
    let target = c.in_ok-found.found.target in
    let searched : Searched mid new c.in_ok-ranges.ranges.items 0 target =
    subst (λ rs. Searched mid new rs 0 target) c.deref.ensures.value c.in_ok-found.ensures.searched in
    are_steady_kept mid new (searched_grows mid new c.in_ok-ranges.ranges.items 0 target searched) c.write_blocks.new.written.items
    c.in_ok-write_blocks.ensures.placed (c.in_ok-write_blocks.ensures.steady steady)

pub returns-clause-always : goal.returns-clause-always
returns-clause-always c steady =
    c.in_ok-found.ensures.steady
    (subst (AreSteady c.write_blocks.new.code) (sym c.deref-2.ensures.value) (c.in_ok-write_blocks.ensures.steady steady))
