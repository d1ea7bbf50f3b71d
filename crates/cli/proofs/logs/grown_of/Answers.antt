use Rattle.std.proofs.Common.{List, ap, map, subst, ◌∙◌, ℕ}
use Rattle.cli.specs.Widened.{from_in}
use Rattle.cli.specs.inner.Telling.{IsLearnedBy, IsWithGroups, told_in}
use Rattle.cli.proofs.LogLaws.{learned_memory}
use Rattle.cli.proofs.WantedLaws.{now_of}
use Rattle.cli.proofs.logs.grown_of.Goals as goal

pub returns-in-Ok : goal.returns-in-Ok
returns-in-Ok g c = (
  told_in c.learned_by-made.result,
  subst (λ (ws : List (List ℕ)). IsLearnedBy (g.F.Files.folder c.args.files.now) c.args.native (from_in ws) ws (told_in c.learned_by-made.result))
      (ap (map now_of) c.deref.ensures.value ∙ c.in-Ok.ensures.others) c.learned_by-made.ensures,
  subst (λ (gs : List (List ℕ)). IsWithGroups c.args.native gs (told_in c.learned_by-made.result) (told_in c.with_groups.result))
      (ap (map now_of) c.deref-in-Ok.ensures.value ∙ c.in-Ok.ensures.groups) c.with_groups.ensures,
)

pub returns-in-Err : goal.returns-in-Err
returns-in-Err g c = learned_memory (g.F.Files.folder c.args.files.now) c.args.native (map now_of c.args.words.now)
