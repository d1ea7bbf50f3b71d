use Rattle.std.proofs.Common.{◌∷◌, ap, sym, ◌∙◌, arith}
use Rattle.std.proofs.lemmas.List.{take_all}
use Rattle.std.proofs.lemmas.Grind.{common_steps}
use Rattle.call_record.specs.Words.{words_of}
use Rattle.call_record.specs.Record.{words}
use Rattle.call_record.proofs.RecordLemmas.{length-halves}
use Rattle.call_record.proofs.BytesLemmas.{written_more}
use Rattle.call_record.proofs.layout.Record.to_bytes.Goals as goal

pub loop-i-preserved : goal.loop-i-preserved
loop-i-preserved c = record {
  long = grind (arith, common_steps);
  written =
      written_more (words c.args.self.now) c.loop-i.bytes c.copy_from_slice.new.self c.loop-i.i c.word.result (omega arith) (omega arith)
      (omega arith)
      c.loop-i.invariant.written c.word.ensures (c.copy_from_slice.ensures.after ∙ c.to_le_bytes.ensures);
}

pub returns : goal.returns
returns c =
    sym (ap words_of (take_all _ c.loop-i.bytes (omega arith)))
    ∙ (c.loop-i.invariant.written
    ∙ take_all c.loop-i.i (words c.args.self.now) (omega (arith, length-halves (c.args.self.now.ip ∷ c.args.self.now.args))))
