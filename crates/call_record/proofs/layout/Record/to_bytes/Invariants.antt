use Rattle.std.proofs.Common.{◌≡◌, ◌*◌, length, take}
use Rattle.call_record.specs.Words.{words_of}
use Rattle.call_record.specs.Record.{words}
use Rattle.call_record.proofs.layout.Record.to_bytes.Given as goal

abbrev pub invariant-loop-i : goal.invariant-loop-i
invariant-loop-i l = record {
  long : length l.bytes ≡ 64;
  written : words_of (take (4 * l.i) l.bytes) ≡ take l.i (words l.self);
}
