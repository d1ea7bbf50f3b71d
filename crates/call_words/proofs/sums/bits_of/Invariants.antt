use Rattle.std.proofs.Common.{◌≡◌, length}
use Rattle.std.specs.Str.{IsUtf8}
use Rattle.call_words.specs.Constants.{bits_with, names_in}
use Rattle.call_words.proofs.sums.bits_of.Given as goal

abbrev pub invariant-name : goal.invariant-name
invariant-name l = record {
  left : bits_with l.bits (names_in l.rest) ≡ bits_with 0 (names_in l.word);
  utf8 : IsUtf8 l.rest;
}

abbrev pub decreases-name : goal.decreases-name
decreases-name l = length l.rest
