use Rattle.std.proofs.Common.{List, ap, map, ◌∙◌}
use Rattle.std.specs.Prelude.{filter}
use Rattle.call_groups.specs.Groups.{Text, now_of}
use Rattle.review.specs.Systemd.{has, once}
use Rattle.review.proofs.members.members_of.Goals as goal

pub returns : goal.returns
returns c =
    c.in_ok-names.ensures
    ∙ ap once (ap (map now_of) c.deref-2.ensures.value
    ∙ (c.in_ok-had.ensures
    ∙ ap (λ (ns : List Text). filter (has c.args.machines.now) ns) (ap (map now_of) c.deref.ensures.value ∙ c.in_ok-calls.ensures)))
