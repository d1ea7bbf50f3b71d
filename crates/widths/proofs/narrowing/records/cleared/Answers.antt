use Rattle.std.proofs.Common.{◌≡◌, [], ◌∷◌, refl, sym, ◌∙◌}
use Rattle.call_record.specs.Record.{words}
use Rattle.call_record.proofs.RecordLemmas.{argument-words_from}
use Rattle.widths.specs.Alike.{read_of}
use Rattle.widths.proofs.SuitLaws.{six}
use Rattle.widths.proofs.narrowing.records.cleared.Goals as goal

pub returns : goal.returns
returns c = record {
  machine = refl;
  number = refl;
  arguments = λ j lt.
      argument-words_from c.args.call.now.nr c.args.call.now.arch c.args.call.now.ip
      (c.read_of.result ∷ c.read_of-2.result ∷ c.read_of-3.result ∷ c.read_of-4.result ∷ c.read_of-5.result ∷ c.read_of-6.result ∷ []) j
      ∙ six (read_of (words c.args.call.now)) _ _ _ _ _ _ c.read_of.ensures c.read_of-2.ensures c.read_of-3.ensures c.read_of-4.ensures
      c.read_of-5.ensures c.read_of-6.ensures j lt;
}
