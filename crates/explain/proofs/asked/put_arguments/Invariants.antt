use Rattle.std.proofs.Common.{◌≡◌, ◌∷◌, ◌++◌, drop}
use Rattle.std.specs.Prelude.{string_bytes}
use Rattle.std.specs.List.{flat_map}
use Rattle.texts.specs.Lines.{space}
use Rattle.call_words.specs.Constants.{numeral}
use Rattle.explain.proofs.asked.put_arguments.Given as goal

abbrev pub invariant-loop-argument : goal.invariant-loop-argument
invariant-loop-argument l = string_bytes l.text ++ flat_map (λ a. space ∷ numeral a.now) (drop l.argument-index l.arguments) ≡ string_bytes l.fn.text
    ++ flat_map (λ a. space ∷ numeral a.now) l.arguments
