use Rattle.std.proofs.Common.{◌≡◌, ℕ, List, subst, ◌∙◌}
use Rattle.std.specs.Prelude.{IfOk, string_bytes}
use Rattle.hex.specs.Hex.{encode_lower}
use Rattle.maker.specs.Certified.{digits_line}
use Rattle.maker.proofs.certifying.line_text.Goals as goal

pub returns : goal.returns
returns c =
    let same : c.as_str.result.now ≡ encode_lower c.args.bytes.now = c.as_str.ensures.value ∙ c.in_ok-digits.ensures in
    subst (λ (d : List ℕ). IfOk c.line_with.result (λ line. string_bytes line ≡ digits_line d c.args.given c.args.said)) same
    c.line_with.ensures
