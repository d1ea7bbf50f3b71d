use Rattle.std.proofs.lemmas.Bool.Decides.{Decides-eqb}
use Rattle.std.proofs.lemmas.Slice.Eq.{strip_prefix_is}
use Rattle.explain.proofs.FieldLaws.{behind_bytes}
use Rattle.explain.proofs.audited.fields.rest_behind.Goals as goal

pub returns : goal.returns
returns c =
    behind_bytes c.args.key.now c.args.word.now c.strip_prefix.result
    (strip_prefix_is Decides-eqb c.args.word.now c.args.key.now c.strip_prefix.result c.strip_prefix.ensures.cases)
