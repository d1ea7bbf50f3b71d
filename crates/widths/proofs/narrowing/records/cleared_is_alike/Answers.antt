use Rattle.std.proofs.Common.{◌≡◌, ℕ, ◌%◌, ◌^◌, ◌<◌, List, sym, ◌∙◌, ap}
use Rattle.std.proofs.lemmas.Nat.{mod_below, pow_pos}
use Rattle.std.proofs.Math.Nat.{mod-eq_of_lt}
use Rattle.call_record.specs.Words.{word, argument}
use Rattle.widths.specs.Reads.{read_bits}
use Rattle.widths.specs.Alike.{read_of, IsCleared}
use Rattle.widths.proofs.narrowing.records.cleared_is_alike.Goals as goal

same_read : (r s : List ℕ) (j : ℕ) → j < 6 → IsCleared r s → read_of r j ≡ read_of s j
same_read r s j lt is =
    let b = read_bits (word r 1) (word r 0) j in
    sym (mod-eq_of_lt (mod_below (argument r j) (2 ^ b) (pow_pos b)))
    ∙ ap (λ u. u % 2 ^ b) (sym (is.arguments j lt))
    ∙ ap (λ t. argument s j % 2 ^ read_bits t (word r 0) j) (sym is.machine)
    ∙ ap (λ n. argument s j % 2 ^ read_bits (word s 1) n j) (sym is.number)

pub returns : goal.returns
returns c = λ r s is. record {
  machine = sym is.machine;
  number = sym is.number;
  arguments = λ j lt. same_read r s j lt is;
}
