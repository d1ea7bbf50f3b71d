use Rattle.std.proofs.Common.{string_bytes}
use Rattle.call_tables.specs.Tables.{table_of}
use Rattle.call_tables.specs.Table.{name_in}
use Rattle.call_words.proofs.NearLaws.{names_start, names_step}
use Rattle.call_words.proofs.nearest.put_near_names.Goals as goal

pub loop-number-init : goal.loop-number-init
loop-number-init c = names_start (name_in (table_of c.args.native)) c.args.word.now c.args.edits (string_bytes c.args.text.now)

pub loop-number-preserved : goal.loop-number-preserved
loop-number-preserved c =
    names_step (name_in (table_of c.args.native)) c.loop-number.number c.args.word.now c.args.edits (string_bytes c.args.text.now)
    (string_bytes c.loop-number.text) (string_bytes c.put_call_if_near.new.text) c.loop-number.invariant c.in_ok-put_call_if_near.ensures
