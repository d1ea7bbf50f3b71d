use Rattle.std.proofs.Common.{ap, map, ◌∙◌}
use Rattle.std.specs.Prelude.{string_bytes}
use Rattle.call_groups.specs.Groups.{now_of}
use Rattle.allow_groups.proofs.AllowLaws.{means_with}
use Rattle.allow_groups.proofs.grown.grown_of.Goals as goal

pub returns : goal.returns
returns c =
    means_with c.args.native (map now_of c.args.groups.now) (map now_of c.deref.result.now) c.args.profile c.machines.result.now
    c.deref-2.result.now c.in_ok-other.other (string_bytes c.in_ok-made.made) c.machines.ensures.machines
    (ap (map now_of) c.deref.ensures.value ∙ c.in_ok-names.ensures) (c.deref-2.ensures.value ∙ c.in_ok-calls.ensures) c.in_ok-other.ensures
    c.in_ok-made.ensures
