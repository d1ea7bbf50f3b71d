use Rattle.std.specs.Prelude.{string_bytes}
use Rattle.review.specs.Systemd.{group_names}
use Rattle.review.proofs.ReviewedLaws.{no_systemd, systemd_step, whole_systemd}
use Rattle.review.proofs.told.systemd_of.Goals as goal

pub loop-group-init : goal.loop-group-init
loop-group-init c =
    no_systemd c.args.profile.now c.group_names-groups.result.now (string_bytes c.new-text.result) c.new-text.ensures.bytes

pub loop-group-preserved : goal.loop-group-preserved
loop-group-preserved c =
    systemd_step c.args.profile.now c.group_names-groups.result.now c.loop-group.group-index _ (string_bytes c.loop-group.text)
    (string_bytes c.add_systemd.new.text) c.loop-group-test.true c.loop-group.invariant c.in_ok-add_systemd.ensures

pub returns : goal.returns
returns c =
    whole_systemd c.args.profile.now c.group_names-groups.result.now group_names c.loop-group.group-index (string_bytes c.loop-group.text)
    c.loop-group-test.false c.group_names-groups.ensures c.loop-group.invariant
