-- The bytes so far and those of the digits that are left are all of them, and there is room.
use Rattle.std.proofs.Common.{◌≡◌, ◌≤◌, ◌+◌, ◌++◌, true, length, vec_len}
use Rattle.std.specs.Vec.{vec_capacity}
use Rattle.std.specs.List.{list_all}
use Rattle.texts.specs.Digits.{is_hexadecimal_digit}
use Rattle.script.specs.Pairs.{spelled_bytes}
use Rattle.script.proofs.digits.Hex.put_into.Given as goal

abbrev pub invariant-pair : goal.invariant-pair
invariant-pair l = record {
  spelled : l.out.items ++ spelled_bytes l.left ≡ spelled_bytes l.self.text.now;
  digits : list_all is_hexadecimal_digit l.left ≡ true;
  room : vec_len l.out + length (spelled_bytes l.left) ≤ vec_capacity l.out;
  same_room : vec_capacity l.out ≡ vec_capacity l.fn.out;
}

abbrev pub decreases-pair : goal.decreases-pair
decreases-pair l = length l.left
