-- The text of a verdict is text.
use Rattle.std.proofs.Common.{ℕ, zero, suc, ◌/◌, ◌%◌, ◌^◌, ◌<◌, arith}
use Rattle.std.specs.Str.{IsAscii, IsUtf8}
use Rattle.std.specs.Char.{digit_char}
use Rattle.std.proofs.lemmas.Str.{IsUtf8-from_ascii}
use Rattle.std.proofs.lemmas.Bool.Decides.{nat_tests}
use Rattle.call_record.specs.Text.{hexadecimal, text_of}

digit_char-ascii : (d : ℕ) → d < 16 → digit_char d < 128
digit_char-ascii d h = grind (arith, nat_tests)

hexadecimal-ascii : (n v : ℕ) → IsAscii (hexadecimal n v)
hexadecimal-ascii zero v i = omega arith
hexadecimal-ascii (suc n) v zero = digit_char-ascii (v / 16 ^ n % 16) (omega arith)
hexadecimal-ascii (suc n) v (suc i) = hexadecimal-ascii n v i

text_of-ascii : (v : ℕ) → IsAscii (text_of v)
text_of-ascii v zero = omega arith
text_of-ascii v (suc zero) = omega arith
text_of-ascii v (suc (suc i)) = hexadecimal-ascii 8 v i

pub text_of-utf8 : (v : ℕ) → IsUtf8 (text_of v)
text_of-utf8 v = IsUtf8-from_ascii (text_of v) (text_of-ascii v)
