use Rattle.std.proofs.Common.{ap, arith, ◌∙◌}
use Rattle.std.specs.Int.{bytes_low_first}
use Rattle.std.specs.List.{flat_map}
use Rattle.compare.proofs.SpelledLaws.{spelled}
use Rattle.compare.proofs.lint.text.are_bytes.Goals as goal

pub returns : goal.returns
returns c =
    spelled 16 c.args.bytes.now c.requires.size (λ i. omega (arith, c.type_inv.bytes i))
    ∙ ap (flat_map (bytes_low_first 0 4)) c.requires.same
