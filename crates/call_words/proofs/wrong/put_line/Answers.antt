use Rattle.std.proofs.Common.{string_bytes}
use Rattle.machines.specs.Arch.{machine_name}
use Rattle.call_tables.specs.Tables.{table_of}
use Rattle.call_tables.specs.Table.{name_in}
use Rattle.call_words.specs.Near.{hint}
use Rattle.call_words.specs.Wrong.{is_no_call, native_numbers}
use Rattle.call_words.proofs.WrongLaws.{told_line}
use Rattle.call_words.proofs.wrong.put_line.Goals as goal

pub returns : goal.returns
returns c =
    told_line (string_bytes c.args.text.now) (string_bytes c.put_is_no_call.new.text) (string_bytes c.put_machine.new.text)
    (string_bytes c.put_hint.new.text) (is_no_call c.args.word.now) (machine_name c.args.native)
    (hint (name_in (table_of c.args.native)) native_numbers c.args.word.now c.args.edits) c.put_hint.result
    c.in_ok-put_is_no_call.ensures c.in_ok-put_machine.ensures c.put_hint.ensures
