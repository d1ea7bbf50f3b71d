use Rattle.std.proofs.Common.{◌≡◌, ◌++◌, drop}
use Rattle.std.specs.Prelude.{codes, string_bytes}
use Rattle.review.specs.Told.{conditions_text}
use Rattle.review.proofs.text.put_more.Given as goal

abbrev pub invariant-loop-cond : goal.invariant-loop-cond
invariant-loop-cond l =
    string_bytes l.text ++ conditions_text (codes "and") (drop l.cond-index l.conds) ≡ string_bytes l.fn.text
    ++ conditions_text (codes "and") l.conds
