use Rattle.std.specs.Prelude.{string_bytes}
use Rattle.review.proofs.ReviewedLaws.{groups_step, no_groups, whole_told}
use Rattle.review.proofs.told.text_of.Goals as goal

pub loop-group-init : goal.loop-group-init
loop-group-init c =
    no_groups c.args.profile.now c.args.all.now.rules.items c.args.all.now.ends.items c.groups-groups.result.now
    (string_bytes c.new-text.result) c.new-text.ensures.bytes

pub loop-group-preserved : goal.loop-group-preserved
loop-group-preserved c =
    groups_step c.args.profile.now c.args.all.now.rules.items c.args.all.now.ends.items c.groups-groups.result.now
    c.loop-group.group-index _ (string_bytes c.loop-group.text) (string_bytes c.add_group.new.text) c.loop-group-test.true
    c.loop-group.invariant c.in_ok-add_group.ensures

pub returns : goal.returns
returns c = (
  c.groups-groups.result.now,
  c.groups-groups.ensures,
  whole_told c.args.profile.now c.args.all.now.rules.items c.args.all.now.ends.items c.groups-groups.result.now
      c.loop-group.group-index (string_bytes c.loop-group.text) c.loop-group-test.false c.loop-group.invariant,
)
