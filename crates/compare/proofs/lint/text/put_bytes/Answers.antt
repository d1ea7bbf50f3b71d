use Rattle.std.proofs.Common.{◌≡◌, ◌++◌, List, ℕ, subst, ◌∙◌}
use Rattle.std.specs.Prelude.{IfOk, string_bytes}
use Rattle.hex.specs.Hex.{encode_lower}
use Rattle.compare.specs.LintTold.{digits_line}
use Rattle.compare.proofs.lint.text.put_bytes.Goals as goal

pub returns : goal.returns
returns c =
    let same : c.as_str.result.now ≡ encode_lower c.args.bytes.now = c.as_str.ensures.value ∙ c.in_ok-digits.ensures in
    subst (λ (d : List ℕ). IfOk c.put_digits.result (λ _. string_bytes c.put_digits.new.text ≡ string_bytes c.args.text.now ++ digits_line c.args.word d)) same
    c.put_digits.ensures
