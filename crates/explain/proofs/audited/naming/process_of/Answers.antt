use Rattle.std.proofs.Common.{◌++◌, List, ℕ, ap, sym, ◌∙◌, append-nil}
use Rattle.std.specs.Prelude.{string_bytes}
use Rattle.std.specs.List.{flat_map}
use Rattle.explain.specs.Audit.{process_on, words_on}
use Rattle.explain.specs.Naming.{naming}
use Rattle.explain.proofs.EventLaws.{more_of}
use Rattle.explain.proofs.audited.naming.process_of.Goals as goal

pub word-preserved : goal.word-preserved
word-preserved c =
    more_of (string_bytes c.put_word.new.text) (string_bytes c.word.text) (naming c.in-Some.word.now)
    (flat_map naming (words_on c.word.rest.now)) (flat_map naming (words_on c.in-Some.more.now)) (process_on c.args.line.now)
    c.in_ok-put_word.ensures (ap (flat_map naming) c.in-Some.ensures.words) c.word.invariant

pub returns : goal.returns
returns c =
    c.in_ok-put_word-2.ensures
    ∙ ap (λ (l : List ℕ). string_bytes c.word.text ++ l)
    (sym (ap (flat_map naming) c.in_default.ensures.words ∙ append-nil (naming c.word.rest.now))) ∙ c.word.invariant
