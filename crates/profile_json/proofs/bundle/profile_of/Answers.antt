use Rattle.std.proofs.Common.{List, map, sym, ◌∙◌, ap, subst}
use Rattle.std.specs.List.{Contains}
use Rattle.std.proofs.lemmas.List.Elements.{All-contains}
use Rattle.machines.specs.declared.arch.Arch.{Arch}
use Rattle.machines.specs.Arch.{family_of}
use Rattle.profile.specs.declared.rules.Rule.{Rule}
use Rattle.profile.specs.Build.{IsBuiltOf}
use Rattle.profile.proofs.MachineLaws.{all_of, family_in, stays}
use Rattle.profile_json.specs.Parts.{EntryParts}
use Rattle.profile_json.specs.inner.View.{entry_parts, said_parts}
use Rattle.profile_json.specs.Fault.{fault_of}
use Rattle.profile_json.specs.Rules.{rules_of}
use Rattle.profile_json.specs.inner.Clashes.{IsOverlap}
use Rattle.profile_json.proofs.reading.ArchLaws.{lists_native}
use Rattle.profile_json.proofs.clashing.MakingLaws.{if_is_some_and, has_clash, no_foreign, not_missing, not_mixed, too_many_rules}
use Rattle.profile_json.proofs.clashing.MakingLaws.{clash_refused, order_of}
use Rattle.profile_json.proofs.bundle.profile_of.Goals as goal

pub overlap_of-requires-clause-clash : goal.overlap_of-requires-clause-clash
overlap_of-requires-clause-clash c =
    let order = order_of c.args.native _ _ _ _ _ c.as_slice-machines.ensures.value c.in_order-listed.ensures c.family.ensures c.deref.ensures.value in
    let entries = ap (map entry_parts) (c.deref-2.ensures.value ∙ sym c.deref-in-Err-Overlap.ensures.value) in
    has_clash c.args.native c.as_slice-machines.result.now (map entry_parts c.deref-in-Err-Overlap.result.now)
    c.in_ok-list.field-0.list.items c.in-Err-Overlap.field-0 c.in-Err-Overlap.field-0-0 c.in-Err-Overlap.place (stays (family_of c.args.native) c.args.said.now.archs.items _ c.requires.of_family order)
    (c.in_ok-list.ensures.said ∙ ap (rules_of c.as_slice-machines.result.now) entries) c.in-Err-Overlap.field-0-is
    c.in-Err-Overlap.ensures.err

pub returns-in-Err-Overlap-clause-err : goal.returns-in-Err-Overlap-clause-err
returns-in-Err-Overlap-clause-err c =
    let order = order_of c.args.native _ _ _ _ _ c.as_slice-machines.ensures.value c.in_order-listed.ensures c.family.ensures c.deref.ensures.value in
    let entries = ap (map entry_parts) c.deref-in-Err-Overlap.ensures.value in
    if_is_some_and (fault_of c.overlap_of.result) c.overlap_of.ensures
    (λ f is. clash_refused (said_parts c.args.said.now) c.args.native c.as_slice-machines.result.now f order
    (subst (λ (es : List EntryParts). IsOverlap c.as_slice-machines.result.now es f) entries is))

pub returns-in-Err-TooMany-clause-err : goal.returns-in-Err-TooMany-clause-err
returns-in-Err-TooMany-clause-err c =
    let order = order_of c.args.native _ _ _ _ _ c.as_slice-machines.ensures.value c.in_order-listed.ensures c.family.ensures c.deref.ensures.value in
    let entries = ap (map entry_parts) c.deref-2.ensures.value in
    too_many_rules (said_parts c.args.said.now) c.args.native c.as_slice-machines.result.now c.in_ok-list.field-0.list.items
    c.in-Err-TooMany.field-0 order
    (c.in_ok-list.ensures.said ∙ ap (rules_of c.as_slice-machines.result.now) entries) c.in-Err-TooMany.field-0-is
    c.in-Err-TooMany.ensures.err

pub unreachable-requires-in-Err-ForeignRule : goal.unreachable-requires-in-Err-ForeignRule
unreachable-requires-in-Err-ForeignRule c =
    no_foreign c.args.native c.as_slice-machines.result.now (map entry_parts c.deref-2.result.now) c.in_ok-list.field-0.list.items
    c.in-Err-ForeignRule.field-0 c.in-Err-ForeignRule.field-0-0 c.in_ok-list.ensures.said c.in-Err-ForeignRule.field-0-is
    c.in-Err-ForeignRule.ensures.err

pub unreachable-requires-in-Err-MixedFamilies : goal.unreachable-requires-in-Err-MixedFamilies
unreachable-requires-in-Err-MixedFamilies c =
    let order = order_of c.args.native _ _ _ _ _ c.as_slice-machines.ensures.value c.in_order-listed.ensures c.family.ensures c.deref.ensures.value in
    not_mixed c.args.native c.as_slice-machines.result.now c.in_ok-list.field-0.list.items c.in-Err-MixedFamilies.field-0
    (family_in (family_of c.args.native) c.args.said.now.archs.items _ order)
    c.in-Err-MixedFamilies.field-0-is c.in-Err-MixedFamilies.ensures.err

pub unreachable-requires : goal.unreachable-requires
unreachable-requires c =
    let order = order_of c.args.native _ _ _ _ _ c.as_slice-machines.ensures.value c.in_order-listed.ensures c.family.ensures c.deref.ensures.value in
    not_missing c.args.native c.as_slice-machines.result.now c.in_ok-list.field-0.list.items c.in-Err-NativeMissing.field-0
    (All-contains (Contains c.as_slice-machines.result.now) c.args.said.now.archs.items c.args.native
    (all_of (family_of c.args.native) c.args.said.now.archs.items _ c.requires.of_family order)
    (lists_native c.args.native c.args.said.now.archs.items c.requires.native_listed))
    c.in-Err-NativeMissing.field-0-is c.in-Err-NativeMissing.ensures.err

pub returns-in-Ok-clause-ok : goal.returns-in-Ok-clause-ok
returns-in-Ok-clause-ok c =
    let order = order_of c.args.native _ _ _ _ _ c.as_slice-machines.ensures.value c.in_order-listed.ensures c.family.ensures c.deref.ensures.value in
    let entries = ap (map entry_parts) c.deref-2.ensures.value in
    let rules : List Rule = c.in_ok-list.field-0.list.items in
    record {
      rules = rules;
      rules_are = c.in_ok-list.ensures.said ∙ ap (rules_of c.as_slice-machines.result.now) entries
          ∙ ap (λ ms. rules_of ms (said_parts c.args.said.now).entries) order;
      built = subst (λ (ms : List Arch). IsBuiltOf c.args.native ms c.args.said.now.default_word rules c.in-Ok.profile) order c.in-Ok.ensures.ok;
    }
