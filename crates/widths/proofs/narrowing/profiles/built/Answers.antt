use Rattle.std.proofs.Common.{◌≡◌}
use Rattle.widths.specs.Counts.{most_narrowed}
use Rattle.widths.proofs.BuildLaws.{built_of, only_sizes, too_many_kept}
use Rattle.widths.proofs.narrowing.profiles.built.Goals as goal

pub returns-in-Ok-clause-ok : goal.returns-in-Ok-clause-ok
returns-in-Ok-clause-ok c =
    built_of c.args.profile.now c.machines.ensures.is_profile c.args.rules.items c.requires.narrowed c.native.result c.machines.result.now
    c.default_word.result c.in-Ok.narrowed c.native.ensures c.machines.ensures.machines c.default_word.ensures c.in-Ok.ensures.ok

pub cause_of-requires : goal.cause_of-requires
cause_of-requires c =
    only_sizes c.args.profile.now c.machines.ensures.is_profile c.args.rules.items c.requires.narrowed c.native.result c.machines.result.now
    c.native.ensures c.machines.ensures.machines c.in-Err.error c.in-Err.ensures.err

pub returns-in-Err-clause-err : goal.returns-in-Err-clause-err
returns-in-Err-clause-err c =
    too_many_kept c.native.result c.machines.result.now c.args.rules.items (most_narrowed c.args.profile.now.rules) c.in-Err.error c.cause_of.result
    c.requires.few c.in-Err.ensures.err c.cause_of.ensures
