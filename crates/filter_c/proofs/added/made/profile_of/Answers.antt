use Rattle.std.proofs.Common.{◌≡◌, Some, map, subst, ℕ, List, ap, ◌∙◌}
use Rattle.machines.specs.declared.arch.Arch.{Arch}
use Rattle.profile.specs.declared.fault.BuildError.{BuildError}
use Rattle.profile.specs.Build.{IsFirstCause}
use Rattle.filter_c.specs.Machine.{machine_with}
use Rattle.filter_c.proofs.Laws.{says_what_was_added}
use Rattle.filter_c.proofs.Causes.{foreign, no_native, one_family, overlap, too_many}
use Rattle.filter_c.proofs.added.made.profile_of.Goals as goal

-- the machines, under the name by which they are lent
lent : (archs kept : List Arch) (machines : List ℕ) → archs ≡ kept → map (λ (a : Arch). Some a) kept ≡ map machine_with machines
    → map (λ (a : Arch). Some a) archs ≡ map machine_with machines
lent archs kept machines same h = ap (map (λ (a : Arch). Some a)) same ∙ h

pub returns-in-Err-clause-err : goal.returns-in-Err-clause-err
returns-in-Err-clause-err c = c.in-Err.ensures.err c.args.native c.args.rules.now

pub returns-in-Err-rules_of-clause-err : goal.returns-in-Err-rules_of-clause-err
returns-in-Err-rules_of-clause-err c = c.in-Err-rules_of.ensures.err c.args.native c.args.machines.now

pub returns-in-Ok-build-clause-ok : goal.returns-in-Ok-build-clause-ok
returns-in-Ok-build-clause-ok c =
    says_what_was_added c.args.machines.now c.args.default_action c.args.rules.now c.in-Some.arch c.deref.result.now c.in-Ok-rules_of.kept.items
    c.in-Ok-build.profile c.in-Ok-build.ensures.ok
    (lent c.deref.result.now c.in-Ok.archs.items c.args.machines.now c.deref.ensures.value c.in-Ok.ensures.ok) c.in-Ok-rules_of.ensures.ok

pub returns-in-Ok-build-clause-built : goal.returns-in-Ok-build-clause-built
returns-in-Ok-build-clause-built c = record {
  machine = c.in-Some.arch;
  machine_is = let a = c.machine_with.ensures in let b = c.in-Some.is in cc;
  listed = c.deref.result.now;
  listed_are = lent c.deref.result.now c.in-Ok.archs.items c.args.machines.now c.deref.ensures.value c.in-Ok.ensures.ok;
  kept = c.in-Ok-rules_of.kept.items;
  kept_are = c.in-Ok-rules_of.ensures.ok;
  built = c.in-Ok-build.ensures.ok;
}

pub returns-in-Err-NativeMissing-clause-err : goal.returns-in-Err-NativeMissing-clause-err
returns-in-Err-NativeMissing-clause-err c =
    let native : machine_with c.args.native ≡ Some c.in-Some.arch = let a = c.machine_with.ensures in let b = c.in-Some.is in cc in
    no_native c.args.native c.args.machines.now c.args.rules.now c.in-Some.arch c.deref.result.now c.in-Ok-rules_of.kept.items native
    (lent c.deref.result.now c.in-Ok.archs.items c.args.machines.now c.deref.ensures.value c.in-Ok.ensures.ok) c.in-Ok-rules_of.ensures.ok
    (subst (λ (e : BuildError). IsFirstCause c.in-Some.arch c.deref.result.now c.in-Ok-rules_of.kept.items e) c.in-Err-NativeMissing.field-0-is
    c.in-Err-NativeMissing.ensures.err)

pub returns-in-Err-ForeignRule-clause-err : goal.returns-in-Err-ForeignRule-clause-err
returns-in-Err-ForeignRule-clause-err c =
    let native : machine_with c.args.native ≡ Some c.in-Some.arch = let a = c.machine_with.ensures in let b = c.in-Some.is in cc in
    foreign c.args.native c.args.machines.now c.args.rules.now c.in-Some.arch c.deref.result.now c.in-Ok-rules_of.kept.items native
    (lent c.deref.result.now c.in-Ok.archs.items c.args.machines.now c.deref.ensures.value c.in-Ok.ensures.ok) c.in-Ok-rules_of.ensures.ok
    c.in-Err-ForeignRule.place
    (subst (λ (e : BuildError). IsFirstCause c.in-Some.arch c.deref.result.now c.in-Ok-rules_of.kept.items e) c.in-Err-ForeignRule.field-0-is
    c.in-Err-ForeignRule.ensures.err)

pub returns-in-Err-TooMany-clause-err : goal.returns-in-Err-TooMany-clause-err
returns-in-Err-TooMany-clause-err c =
    let native : machine_with c.args.native ≡ Some c.in-Some.arch = let a = c.machine_with.ensures in let b = c.in-Some.is in cc in
    too_many c.args.native c.args.machines.now c.args.rules.now c.in-Some.arch c.deref.result.now c.in-Ok-rules_of.kept.items native
    (lent c.deref.result.now c.in-Ok.archs.items c.args.machines.now c.deref.ensures.value c.in-Ok.ensures.ok) c.in-Ok-rules_of.ensures.ok
    (subst (λ (e : BuildError). IsFirstCause c.in-Some.arch c.deref.result.now c.in-Ok-rules_of.kept.items e) c.in-Err-TooMany.field-0-is
    c.in-Err-TooMany.ensures.err)

pub returns-in-Err-Overlap-clause-err : goal.returns-in-Err-Overlap-clause-err
returns-in-Err-Overlap-clause-err c =
    let native : machine_with c.args.native ≡ Some c.in-Some.arch = let a = c.machine_with.ensures in let b = c.in-Some.is in cc in
    overlap c.args.native c.args.machines.now c.args.rules.now c.in-Some.arch c.deref.result.now c.in-Ok-rules_of.kept.items native
    (lent c.deref.result.now c.in-Ok.archs.items c.args.machines.now c.deref.ensures.value c.in-Ok.ensures.ok) c.in-Ok-rules_of.ensures.ok
    c.in-Err-Overlap.first c.in-Err-Overlap.second
    (subst (λ (e : BuildError). IsFirstCause c.in-Some.arch c.deref.result.now c.in-Ok-rules_of.kept.items e) c.in-Err-Overlap.field-0-is
    c.in-Err-Overlap.ensures.err)

pub unreachable-requires : goal.unreachable-requires
unreachable-requires c =
    let native : machine_with c.args.native ≡ Some c.in-Some.arch = let a = c.machine_with.ensures in let b = c.in-Some.is in cc in
    let cause = subst (λ (e : BuildError). IsFirstCause c.in-Some.arch c.deref.result.now c.in-Ok-rules_of.kept.items e)
    c.in-Err-MixedFamilies.field-0-is c.in-Err-MixedFamilies.ensures.err in
    cause.1
    (one_family c.args.native c.args.machines.now c.args.rules.now c.in-Some.arch c.deref.result.now c.in-Ok-rules_of.kept.items native
    (lent c.deref.result.now c.in-Ok.archs.items c.args.machines.now c.deref.ensures.value c.in-Ok.ensures.ok) c.in-Ok-rules_of.ensures.ok)
