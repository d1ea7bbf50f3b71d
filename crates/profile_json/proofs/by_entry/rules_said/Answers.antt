use Rattle.std.proofs.Common.{List, map, ◌∙◌, ap}
use Rattle.machines.specs.declared.arch.Arch.{Arch}
use Rattle.machines.specs.Arch.{family_of}
use Rattle.profile.specs.Machines.{in_order}
use Rattle.profile_json.specs.Rules.{rules_of, ends_after}
use Rattle.profile_json.specs.inner.View.{entry_parts}
use Rattle.profile_json.proofs.clashing.MakingLaws.{order_of}
use Rattle.profile_json.proofs.by_entry.rules_said.Goals as goal

pub returns-clause-rules : goal.returns-clause-rules
returns-clause-rules c =
    let order = order_of c.args.native _ _ _ _ _ c.as_slice.ensures.value c.in_order-machines.ensures c.family.ensures c.deref.ensures.value in
    let entries = ap (map entry_parts) c.deref-2.ensures.value in
    c.in_ok-all.ensures.said ∙ ap (λ (ms : List Arch). rules_of ms (map entry_parts c.deref-2.result.now)) order
    ∙ ap (rules_of (in_order (family_of c.args.native) c.args.said.now.archs.items)) entries

pub returns-clause-ends : goal.returns-clause-ends
returns-clause-ends c =
    let order = order_of c.args.native _ _ _ _ _ c.as_slice.ensures.value c.in_order-machines.ensures c.family.ensures c.deref.ensures.value in
    let entries = ap (map entry_parts) c.deref-2.ensures.value in
    c.in_ok-all.ensures.ends ∙ ap (λ (ms : List Arch). ends_after 0 ms (map entry_parts c.deref-2.result.now)) order
    ∙ ap (ends_after 0 (in_order (family_of c.args.native) c.args.said.now.archs.items)) entries
