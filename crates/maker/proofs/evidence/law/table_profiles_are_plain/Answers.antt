use Rattle.maker.proofs.TableLaws.{tables_are_plain}
use Rattle.maker.proofs.evidence.law.table_profiles_are_plain.Goals as goal

pub returns : goal.returns
returns c = tables_are_plain
