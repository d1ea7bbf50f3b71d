-- Lines of records, one after another.
use Rattle.std.proofs.Common.{ℕ, List, [], ◌∷◌, ◌++◌, append-nil, append_assoc, ap, refl, sym, ◌∙◌}
use Rattle.call_record.specs.Record.{words}
use Rattle.maker.specs.declared.evidence.evidence.Counterexample.{Counterexample}
use Rattle.maker.specs.Told.{IsLine}
use Rattle.compare.specs.Counterexamples.{AreLines}

-- one line more
pub one_more : (all : List Counterexample) (found : Counterexample) (text line : List ℕ) → AreLines all text
    → IsLine (words found.call) found.given found.said line → AreLines (all ++ found ∷ []) (text ++ line)
one_more [] found text line h is = (line, [], is, refl, ap (λ t. t ++ line) h ∙ sym (append-nil line))
one_more (first ∷ all) found text line h is = (
  h.0,
  h.1 ++ line,
  h.2,
  one_more all found h.1 line h.3 is,
  ap (λ t. t ++ line) h.4 ∙ append_assoc h.0 h.1 line,
)
