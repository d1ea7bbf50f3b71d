use Rattle.std.proofs.Common.{◌≡◌, ◌++◌, drop}
use Rattle.std.specs.Prelude.{string_bytes}
use Rattle.call_record.specs.Record.{words}
use Rattle.review.specs.Told.{reason_from}
use Rattle.review.proofs.text.put_reason.Given as goal

abbrev pub invariant-loop-place : goal.invariant-loop-place
invariant-loop-place l =
    string_bytes l.text ++ reason_from l.profile l.place (drop l.place l.all.rules.items) l.all.ends.items (words l.call)
    ≡ string_bytes l.fn.text ++ reason_from l.profile 0 l.all.rules.items l.all.ends.items (words l.call)
