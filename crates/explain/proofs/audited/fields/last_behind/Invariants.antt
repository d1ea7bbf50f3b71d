-- What is found in the words that are left, or else was found before, is what is to be found.
use Rattle.std.proofs.Common.{◌≡◌, length}
use Rattle.std.specs.Option.{option_map, option_or}
use Rattle.explain.specs.Audit.{last_behind, words_on}
use Rattle.explain.proofs.audited.fields.last_behind.Given as goal

abbrev pub invariant-word : goal.invariant-word
invariant-word l =
    option_or (last_behind l.key (words_on l.rest)) (option_map (λ text. text.now) l.found) ≡ last_behind l.key (words_on l.line)

abbrev pub decreases-word : goal.decreases-word
decreases-word l = length l.rest
