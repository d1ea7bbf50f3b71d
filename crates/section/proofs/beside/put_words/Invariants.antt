-- What is told, and what is to be told of the texts that are left, is all.
use Rattle.std.proofs.Common.{◌≡◌, ◌++◌, drop, map}
use Rattle.json.specs.Value.{value_view}
use Rattle.section.specs.Beside.{words_of}
use Rattle.section.proofs.beside.put_words.Given as goal

abbrev pub invariant-loop-value : goal.invariant-loop-value
invariant-loop-value l =
    l.lines.items ++ words_of (map value_view (drop l.value-index l.values)) ≡ l.fn.lines.items ++ words_of (map value_view l.values)
