-- The text of an object has no line feed.
use Rattle.std.proofs.Common.{◌≡◌, ◌≢◌, ℕ, ◌+◌, ◌<◌, ◌/◌, ◌%◌, true, false, cond, List, [], ◌∷◌, ◌++◌, arith, map, refl, subst}
use Rattle.std.specs.Prelude.{◌==◌, ◌&&◌, ◌||◌, Bool, codes, nat_lt}
use Rattle.std.specs.Char.{digit_char}
use Rattle.std.specs.List.{AllByRecursion}
use Rattle.json.specs.Json.{Members, no_members}
use Rattle.json.specs.Print.{begins, ends, escape, escape_byte, escape_letter, print, print_from, quoted, separator, token_text}
use Rattle.json.specs.Token.{Token, end_object}
use Rattle.json.specs.Tree.{items_tokens, json_tokens, members_tokens}
use Rattle.json.specs.Value.{items_of}
use Rattle.texts.specs.Lines.{line_feed}
use Rattle.texts.proofs.Splits.{Lacks, lacks_append}
use Rattle.json_lines.specs.Kinds.{Kinds}
use Rattle.json_lines.specs.Lines.{Group, Text}
use Rattle.json_lines.specs.Objects.{detail_object, details, group_object, members_then, row_then}
use Rattle.json_lines.specs.Shapes.{Member, Row, Shape, row_of}

digit_is_none : (n : ℕ) → digit_char n ≢ line_feed
digit_is_none n = by_test (nat_lt n 10) where
  by_test : (t : Bool) → cond t (48 + n) (87 + n) ≢ 10
  by_test true e = absurd (omega arith)
  by_test false e = absurd (omega arith)

letter_is_none : (x : ℕ) → escape_letter x ≢ line_feed
letter_is_none x = by_first ((x == 34) || (x == 92)) refl where
  by_rest : (a b c d e : Bool) → cond {A = ℕ} a 98 (cond b 102 (cond c 110 (cond d 114 (cond e 116 0)))) ≢ line_feed
  by_rest true b c d e q = absurd (omega arith)
  by_rest false true c d e q = absurd (omega arith)
  by_rest false false true d e q = absurd (omega arith)
  by_rest false false false true e q = absurd (omega arith)
  by_rest false false false false true q = absurd (omega arith)
  by_rest false false false false false q = absurd (omega arith)

  by_first : (t : Bool) → ((x == 34) || (x == 92)) ≡ t
      → cond t x (cond (x == 8) 98 (cond (x == 12) 102 (cond (x == 10) 110 (cond (x == 13) 114 (cond (x == 9) 116 0))))) ≢ line_feed
  by_first true e q = let no : false ≡ true = subst (λ y. ((y == 34) || (y == 92)) ≡ true) q e in absurd (cc)
  by_first false e q = by_rest (x == 8) (x == 12) (x == 10) (x == 13) (x == 9) q

other : (x : ℕ) → 10 < x → x ≢ line_feed
other x l e = omega arith

byte_clear : (x : ℕ) → Lacks line_feed (escape_byte x)
unfolding escape_byte
byte_clear x = by_tests (nat_lt 0 (escape_letter x)) (nat_lt x 32) refl where
  by_tests : (t u : Bool) → nat_lt x 32 ≡ u → Lacks line_feed (cond t (92 ∷ escape_letter x ∷ [])
      (cond u (92 ∷ 117 ∷ 48 ∷ 48 ∷ digit_char (x / 16) ∷ digit_char (x % 16) ∷ []) (x ∷ [])))
  by_tests true u e = (other 92 (omega arith), (letter_is_none x, tt))
  by_tests false true e =
      (other 92 (omega arith), (other 117 (omega arith), (other 48 (omega arith), (other 48 (omega arith), (digit_is_none (x / 16), (digit_is_none (x % 16), tt))))))
  by_tests false false e = (λ q. let no : nat_lt 10 32 ≡ false = subst (λ y. nat_lt y 32 ≡ false) q e in absurd (cc), tt)

escape_clear : (text : Text) → Lacks line_feed (escape text)
escape_clear [] = tt
escape_clear (x ∷ text) = lacks_append line_feed (escape_byte x) (escape text) (byte_clear x) (escape_clear text)

-- the text of each token has none
abbrev AreClear : List Token → Type 0
AreClear tokens = AllByRecursion (λ t. Lacks line_feed (token_text t)) tokens

quoted_clear : (text : Text) → Lacks line_feed (quoted text)
quoted_clear text =
    (other 34 (omega arith), lacks_append line_feed (escape text) (34 ∷ []) (escape_clear text) (other 34 (omega arith), tt))

key_clear : (text : Text) → Lacks line_feed (token_text (Token.key text))
key_clear text = lacks_append line_feed (quoted text) (58 ∷ []) (quoted_clear text) (other 58 (omega arith), tt)

separator_clear : (after : Bool) (t : Token) → Lacks line_feed (separator after t)
separator_clear after t = by_test (after && begins t) where
  by_test : (b : Bool) → Lacks line_feed (cond b (44 ∷ []) [])
  by_test true = (other 44 (omega arith), tt)
  by_test false = tt

tokens_clear : (after : Bool) (tokens : List Token) → AreClear tokens → Lacks line_feed (print_from after tokens)
unfolding print_from
tokens_clear after [] h = tt
tokens_clear after (t ∷ tokens) h =
    lacks_append line_feed (separator after t) (token_text t ++ print_from (ends t) tokens) (separator_clear after t)
    (lacks_append line_feed (token_text t) (print_from (ends t) tokens) h.0 (tokens_clear (ends t) tokens h.1))

clear_append : (xs ys : List Token) → AreClear xs → AreClear ys → AreClear (xs ++ ys)
clear_append [] ys h k = k
clear_append (x ∷ xs) ys h k = (h.0, clear_append xs ys h.1 k)

members_clear : (ms : List Member) (others : Members) → AreClear (members_tokens others) → AreClear (members_tokens (members_then ms others))
members_clear [] others h = h
members_clear (m ∷ ms) others h = (key_clear m.0, (quoted_clear m.1, members_clear ms others h))

row_clear : (row : Row) (others : Members) → AreClear (members_tokens others) → AreClear (members_tokens (row_then row others))
row_clear row others h = (key_clear (codes "kind"), (quoted_clear row.0, members_clear row.1 others h))

end_clear : AreClear (end_object ∷ [])
end_clear = ((other 125 (omega arith), tt), tt)

detail_clear : (shapes : List Shape) (line : Text) → AreClear (json_tokens (detail_object shapes line))
detail_clear shapes line = ((other 123 (omega arith), tt), row_clear (row_of shapes line) no_members end_clear)

each_clear : (shapes : List Shape) (lines : List Text) → AreClear (items_tokens (items_of (map (detail_object shapes) lines)))
each_clear shapes [] = ((other 93 (omega arith), tt), tt)
each_clear shapes (line ∷ lines) =
    clear_append (json_tokens (detail_object shapes line)) (items_tokens (items_of (map (detail_object shapes) lines))) (detail_clear shapes line)
    (each_clear shapes lines)

details_clear : (shapes : List Shape) (lines : List Text) → AreClear (members_tokens (details shapes lines))
details_clear shapes [] = end_clear
details_clear shapes (line ∷ lines) = (
  key_clear (codes "details"),
  (
    (other 91 (omega arith), tt),
    clear_append (items_tokens (items_of (map (detail_object shapes) (line ∷ lines)))) (end_object ∷ []) (each_clear shapes (line ∷ lines)) end_clear,
  ),
)

pub group_clear : (kinds : Kinds) (group : Group) → Lacks line_feed (print (json_tokens (group_object kinds group)))
group_clear kinds group =
    tokens_clear false (json_tokens (group_object kinds group))
    ((other 123 (omega arith), tt), row_clear (row_of kinds.0 group.0) (details kinds.1 group.1) (details_clear kinds.1 group.1))
