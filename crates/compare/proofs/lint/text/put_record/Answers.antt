use Rattle.std.proofs.Common.{◌≡◌, ◌++◌, List, ℕ, subst}
use Rattle.std.specs.Prelude.{IfOk, string_bytes}
use Rattle.hex.specs.Hex.{encode_lower}
use Rattle.compare.specs.LintTold.{digits_line}
use Rattle.compare.proofs.lint.text.put_record.Goals as goal

pub returns : goal.returns
returns c =
    subst (λ (b : List ℕ). IfOk c.put_bytes.result (λ _. string_bytes c.put_bytes.new.text ≡ string_bytes c.args.text.now ++ digits_line c.args.word (encode_lower b)))
    c.are_bytes.ensures c.put_bytes.ensures
