use Rattle.std.proofs.Common.{ℕ, List, subst}
use Rattle.section.specs.Sections.{KeepsMeaning}
use Rattle.cli.proofs.WantedLaws.{kept_unless, made_unless}
use Rattle.cli.proofs.adapting.kept.Goals as goal

pub returns-clause-made : goal.returns-clause-made
returns-clause-made c = λ choice words is.
    made_unless c.args.native c.args.both.told c.unless_unlike.result choice words c.in_ok-is_like.is_like c.unless_unlike.ensures.like
    c.unless_unlike.ensures.unlike is

pub returns-clause-kept : goal.returns-clause-kept
returns-clause-kept c =
    kept_unless c.args.native c.args.both.told c.unless_unlike.result c.args.text.items c.in_ok-bundle.bundle.items c.in_ok-bundle.ensures
    c.in_ok-is_like.is_like
    (λ t. subst (λ (l : List ℕ). KeepsMeaning c.args.native l c.args.both.told.bytes.items) c.deref.ensures.value
    (subst (λ (l : List ℕ). KeepsMeaning c.args.native c.deref.result.now l) c.deref-2.ensures.value (c.in_ok-is_like.ensures t)))
    c.unless_unlike.ensures.like c.unless_unlike.ensures.unlike
