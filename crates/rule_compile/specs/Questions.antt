-- What questions ask of the words of a record. A filter sees an argument of 64 bits as two words. Two numbers compare as their
-- high words do if these differ, and else as their low words do.
use Rattle.std.specs.Prelude.{◌≡◌, ℕ, ◌-◌, ◌/◌, ◌==◌, nat_le, Bool, if◌then◌else◌, List, Option, Some, None, bit_and, slice_index}
use Rattle.rule_compile.specs.declared.question.Comparison.{Comparison}
use Rattle.rule_compile.specs.declared.question.Comparison.TheVariants.{Equal, AtLeast}
use Rattle.rule_compile.specs.declared.question.Question.{Question}
use Rattle.rule_compile.specs.declared.question.Subject.{Subject}

-- the bits that a subject names, of the word that stands at its offset
abbrev pub bits : Subject → List ℕ → ℕ
bits s r = bit_and (slice_index r (s.word / 4)) s.mask

-- the low word of the argument whose high word a subject is of
abbrev pub low_of : Subject → Subject
low_of s = record { word = s.word - 4; mask = 0xffffffff }

-- whether a number compares so with the one that is asked for
abbrev pub compares : Comparison → ℕ → ℕ → Bool
compares Equal asked u = u == asked
compares AtLeast asked u = nat_le asked u

-- how a record compares: by the bits, or by the low word where the bits are the number that is asked for
abbrev pub outcome_by : Question → Option ℕ → List ℕ → Bool
outcome_by q None r = compares q.comparison q.number (bits q.subject r)
outcome_by q (Some low) r =
    if bits q.subject r == q.number
    then compares q.comparison low (bits (low_of q.subject) r)
    else compares q.comparison q.number (bits q.subject r)

abbrev pub outcome : Question → List ℕ → Bool
outcome q r = outcome_by q q.low r

-- the record has the answer that is asked for
abbrev pub IsMet : Question → List ℕ → Type 0
IsMet q r = outcome q r ≡ q.wanted
