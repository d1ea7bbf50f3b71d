use Rattle.std.proofs.Common.{◌≡◌, ◌++◌, [], drop, map, take}
use Rattle.std.specs.Prelude.{string_bytes}
use Rattle.call_words.specs.Lines.{each_once}
use Rattle.call_words.proofs.constant_names.told.each_once.Given as goal

abbrev pub invariant-loop-at : goal.invariant-loop-at
invariant-loop-at l =
    string_bytes l.text ++ each_once (map string_bytes (take l.at l.lines)) (map string_bytes (drop l.at l.lines))
    ≡ each_once [] (map string_bytes l.lines)
