use Rattle.std.proofs.Common.{List, ◌∙◌, ◌++◌, ap, map, subst}
use Rattle.std.specs.Prelude.{string_bytes}
use Rattle.call_groups.specs.Groups.{Text, now_of}
use Rattle.machines.specs.declared.arch.Arch.{Arch}
use Rattle.review.specs.Systemd.{AreStanding, members}
use Rattle.review.specs.SystemdTold.{group_text}
use Rattle.review.specs.declared.member.Member.{Member}
use Rattle.review.proofs.told.add_systemd.Goals as goal

pub returns : goal.returns
returns c =
    let p = c.args.profile.now in
    let g = c.args.group.now in
    record {
      list = c.in_ok-list.list.items;
      are = subst (λ (ns : List Text). AreStanding p ns c.in_ok-list.list.items)
          (ap (map now_of) c.deref.ensures.value ∙ c.in_ok-names.ensures ∙ ap (λ (ms : List Arch). members ms g) c.machines.ensures.machines)
          c.in_ok-list.ensures;
      is = c.in_ok-put_systemd.ensures
          ∙ ap (λ (ms : List Member). string_bytes c.args.text.now ++ group_text g ms) c.deref-2.ensures.value;
    }
