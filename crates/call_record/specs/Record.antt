-- The words of a `Record`.
use Rattle.std.specs.Prelude.{ℕ, List}
use Rattle.call_record.specs.declared.layout.Record.{Record}
use Rattle.call_record.specs.Words.{words_from}

-- what a filter sees of a record
abbrev pub words : Record → List ℕ
words r = words_from r.nr r.arch r.ip r.args
