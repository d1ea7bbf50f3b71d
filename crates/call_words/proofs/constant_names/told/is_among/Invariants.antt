use Rattle.std.proofs.Common.{◌≡◌, drop, map}
use Rattle.std.specs.Prelude.{string_bytes}
use Rattle.call_words.specs.Lines.{is_among}
use Rattle.call_words.proofs.constant_names.told.is_among.Given as goal

abbrev pub invariant-loop-other : goal.invariant-loop-other
invariant-loop-other l = is_among (map string_bytes (drop l.other-index l.lines)) l.line ≡ is_among (map string_bytes l.lines) l.line
