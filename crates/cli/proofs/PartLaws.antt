-- The parts of a command line, as they are read of its arguments.
use Rattle.std.proofs.Common.{◌≡◌, ◌∙◌, ◌-◌, ℕ, min, sym, ap, arith, List, drop, length, take}
use Rattle.std.proofs.lemmas.List.{drop-map, drop_min, length-drop, take-map, take_min}
use Rattle.std.proofs.Math.Seq.{take-length}
use Rattle.std.specs.Borrow.{Bor}
use Rattle.command_line.specs.Lines.{texts}
use Rattle.command_line.specs.Table.{Text}

-- the arguments from a place on
pub from_is : (arguments : List (Bor Text)) (place least : ℕ) → least ≡ min place (length arguments)
    → texts (take (length arguments - least) (drop least arguments)) ≡ drop place (texts arguments)
from_is arguments place least e =
    let left : length arguments - least ≡ length (drop least arguments) = omega (arith, length-drop least arguments) in
    ap texts (ap (λ k. take k (drop least arguments)) left ∙ take-length (drop least arguments) ∙ ap (λ k. drop k arguments) e ∙ drop_min place arguments)
    ∙ sym (drop-map (λ (w : Bor Text). w.now) place arguments)

-- so many of the first
pub first_is : (words : List (Bor Text)) (count least : ℕ) → least ≡ min count (length words)
    → texts (take least words) ≡ take count (texts words)
first_is words count least e =
    ap texts (ap (λ k. take k words) e ∙ take_min count words) ∙ sym (take-map (λ (w : Bor Text). w.now) count words)
