-- What is told so far, and what the words that are left tell, is what the words of the line tell.
use Rattle.std.proofs.Common.{◌≡◌, ◌++◌, length}
use Rattle.std.specs.Prelude.{string_bytes}
use Rattle.std.specs.List.{flat_map}
use Rattle.explain.specs.Audit.{process_on, words_on}
use Rattle.explain.specs.Naming.{naming}
use Rattle.explain.proofs.audited.naming.process_of.Given as goal

abbrev pub invariant-word : goal.invariant-word
invariant-word l = string_bytes l.text ++ flat_map naming (words_on l.rest) ≡ process_on l.line

abbrev pub decreases-word : goal.decreases-word
decreases-word l = length l.rest
