-- The tokens of an object, part by part.
use Rattle.std.proofs.Common.{◌≡◌, ℕ, ◌+◌, ◌<◌, ◌≤◌, List, [], ◌∷◌, ◌++◌, append_assoc, drop, get_or, length, map, refl, ap, sym, ◌∙◌, arith, inl, inr}
use Rattle.std.proofs.lemmas.Bool.{cases_Bool}
use Rattle.std.proofs.lemmas.List.{append-nil, drop_all, drop_more}
use Rattle.std.proofs.lemmas.Str.{IsUtf8-from_is_utf8, is_utf8-from_IsUtf8}
use Rattle.std.specs.Prelude.{codes}
use Rattle.std.specs.Str.{IsUtf8, is_utf8}
use denote.Ref.{Bor}
use Rattle.std.specs.List.{flat_map}
use Rattle.json.specs.Json.{Json, Items, Members, no_items, no_members, item, member, string, object, array}
use Rattle.json.specs.Token.{Token, key, begin_object, end_object, begin_array, end_array}
use Rattle.json.specs.Print.{print}
use Rattle.json.specs.Tree.{items_tokens, json_tokens, members_tokens}
use Rattle.json.specs.Value.{items_of}
use Rattle.texts.specs.Lines.{line_feed}
use Rattle.json_lines.specs.Kinds.{Kinds}
use Rattle.json_lines.specs.Lines.{Group, Text}
use Rattle.json_lines.specs.Objects.{detail_object, details, group_object, members_then, object_line, row_then}
use Rattle.json_lines.specs.Shapes.{Member, Row, Shape, bytes_row, row_of, text_row_of}
use Rattle.json_lines.specs.inner.Tokens.{details_tokens, each_tokens, member_tokens, row_tokens, said}
use Rattle.json_lines.specs.inner.Views.{members, texts}

members_tokens_then : (ms : List Member) (others : Members)
    → members_tokens (members_then ms others) ≡ flat_map member_tokens ms ++ members_tokens others
members_tokens_then [] others = refl
members_tokens_then (m ∷ ms) others =
    ap (λ ts. Token.key m.0 ∷ (Token.string m.1 ∷ ts)) (members_tokens_then ms others)

pub row_tokens_then : (row : Row) (others : Members) → members_tokens (row_then row others) ≡ row_tokens row ++ members_tokens others
row_tokens_then row others =
    ap (λ ts. Token.key (codes "kind") ∷ (Token.string row.0 ∷ ts)) (members_tokens_then row.1 others)

items_of_tokens : (shapes : List Shape) (lines : List Text)
    → items_tokens (items_of (map (detail_object shapes) lines)) ≡ each_tokens shapes lines ++ end_array ∷ []
items_of_tokens shapes [] = refl
items_of_tokens shapes (line ∷ lines) =
    ap (λ ts. json_tokens (detail_object shapes line) ++ ts) (items_of_tokens shapes lines)
    ∙ sym (append_assoc (json_tokens (detail_object shapes line)) (each_tokens shapes lines) (end_array ∷ []))

pub details_tokens_then : (shapes : List Shape) (lines : List Text)
    → members_tokens (details shapes lines) ≡ details_tokens shapes lines ++ end_object ∷ []
details_tokens_then shapes [] = refl
details_tokens_then shapes (line ∷ lines) =
    ap (λ ts. Token.key (codes "details") ∷ (begin_array ∷ (ts ++ end_object ∷ []))) (items_of_tokens shapes (line ∷ lines))

-- what is written of a detail, of a line with its details, and of a row alone
pub row_object_tokens : (row : Row)
    → json_tokens (object (row_then row no_members)) ≡ begin_object ∷ (row_tokens row ++ end_object ∷ [])
row_object_tokens row = ap (λ ts. begin_object ∷ ts) (row_tokens_then row no_members)

pub group_tokens : (kinds : Kinds) (group : Group)
    → json_tokens (group_object kinds group)
    ≡ begin_object ∷ (row_tokens (row_of kinds.0 group.0) ++ (details_tokens kinds.1 group.1 ++ end_object ∷ []))
group_tokens kinds group =
    ap (λ ts. begin_object ∷ ts) (row_tokens_then (row_of kinds.0 group.0) (details kinds.1 group.1)
    ∙ ap (λ ts. row_tokens (row_of kinds.0 group.0) ++ ts) (details_tokens_then kinds.1 group.1))

-- ---- what is known behind each call

pub members_step : (all ts key_behind both_behind : List Token) (items : List (Bor Text × Bor Text)) (i : ℕ) (d : Bor Text × Bor Text)
    → ts ++ flat_map member_tokens (members (drop i items)) ≡ all → i < length items
    → key_behind ≡ ts ++ Token.key (get_or items i d).0.now ∷ [] → both_behind ≡ key_behind ++ Token.string (get_or items i d).1.now ∷ []
    → both_behind ++ flat_map member_tokens (members (drop (i + 1) items)) ≡ all
members_step all ts k b items i d h l e f =
    let rest = flat_map member_tokens (members (drop (i + 1) items)) in
    ap (λ (t : List Token). t ++ rest) (f ∙ ap (λ (t : List Token). t ++ Token.string (get_or items i d).1.now ∷ []) e)
    ∙ append_assoc (ts ++ Token.key (get_or items i d).0.now ∷ []) (Token.string (get_or items i d).1.now ∷ []) rest
    ∙ append_assoc ts (Token.key (get_or items i d).0.now ∷ []) (Token.string (get_or items i d).1.now ∷ rest)
    ∙ ap (λ xs. ts ++ flat_map member_tokens (members xs)) (sym (drop_more items i d l)) ∙ h

pub members_end : (all ts : List Token) (items : List (Bor Text × Bor Text)) (i : ℕ)
    → ts ++ flat_map member_tokens (members (drop i items)) ≡ all → length items ≤ i → ts ≡ all
members_end all ts items i h l = sym (append-nil ts) ∙ ap (λ xs. ts ++ flat_map member_tokens (members xs)) (sym (drop_all i items l)) ∙ h

pub row_done : (old kind_behind both_behind all_behind : List Token) (row : Row) → kind_behind ≡ old ++ Token.key (codes "kind") ∷ []
    → both_behind ≡ kind_behind ++ Token.string row.0 ∷ [] → all_behind ≡ both_behind ++ flat_map member_tokens row.1
    → all_behind ≡ old ++ row_tokens row
row_done old k b a row e f g =
    g ∙ ap (λ (t : List Token). t ++ flat_map member_tokens row.1) (f ∙ ap (λ (t : List Token). t ++ Token.string row.0 ∷ []) e)
    ∙ append_assoc (old ++ Token.key (codes "kind") ∷ []) (Token.string row.0 ∷ []) (flat_map member_tokens row.1)
    ∙ append_assoc old (Token.key (codes "kind") ∷ []) (Token.string row.0 ∷ flat_map member_tokens row.1)

pub object_done : (old begun row_behind ended : List Token) (row : Row) → begun ≡ old ++ begin_object ∷ []
    → row_behind ≡ begun ++ row_tokens row → ended ≡ row_behind ++ end_object ∷ []
    → ended ≡ old ++ json_tokens (object (row_then row no_members))
object_done old b r e row f g h =
    h ∙ ap (λ (t : List Token). t ++ end_object ∷ []) (g ∙ ap (λ (t : List Token). t ++ row_tokens row) f)
    ∙ append_assoc (old ++ begin_object ∷ []) (row_tokens row) (end_object ∷ [])
    ∙ append_assoc old (begin_object ∷ []) (row_tokens row ++ end_object ∷ [])
    ∙ ap (λ (t : List Token). old ++ t) (sym (row_object_tokens row))

pub each_step : (all ts behind : List Token) (shapes : List Shape) (items : List (Bor Text)) (i : ℕ) (d : Bor Text)
    → ts ++ each_tokens shapes (map said (texts (drop i items))) ≡ all → i < length items
    → behind ≡ ts ++ json_tokens (detail_object shapes (said (get_or items i d).now))
    → behind ++ each_tokens shapes (map said (texts (drop (i + 1) items))) ≡ all
each_step all ts b shapes items i d h l e =
    let rest = each_tokens shapes (map said (texts (drop (i + 1) items))) in
    ap (λ (t : List Token). t ++ rest) e
    ∙ append_assoc ts (json_tokens (detail_object shapes (said (get_or items i d).now))) rest
    ∙ ap (λ xs. ts ++ each_tokens shapes (map said (texts xs))) (sym (drop_more items i d l)) ∙ h

pub each_end : (all ts : List Token) (shapes : List Shape) (items : List (Bor Text)) (i : ℕ)
    → ts ++ each_tokens shapes (map said (texts (drop i items))) ≡ all → length items ≤ i → ts ≡ all
each_end all ts shapes items i h l =
    sym (append-nil ts) ∙ ap (λ xs. ts ++ each_tokens shapes (map said (texts xs))) (sym (drop_all i items l)) ∙ h

pub no_details : (old : List Token) (shapes : List Shape) (lines : List (Bor Text)) → length lines ≡ 0
    → old ≡ old ++ details_tokens shapes (map said (texts lines))
no_details old shapes [] e = sym (append-nil old)
no_details old shapes (line ∷ lines) e = absurd (omega arith)

pub details_done : (old key_behind begun each_behind ended : List Token) (shapes : List Shape) (lines : List (Bor Text)) → (length lines ≡ 0 → ⊥)
    → key_behind ≡ old ++ Token.key (codes "details") ∷ [] → begun ≡ key_behind ++ begin_array ∷ []
    → each_behind ≡ begun ++ each_tokens shapes (map said (texts lines)) → ended ≡ each_behind ++ end_array ∷ []
    → ended ≡ old ++ details_tokens shapes (map said (texts lines))
details_done old k b e z shapes [] some f g h i = absurd (some refl)
details_done old k b e z shapes (line ∷ lines) some f g h i =
    let each = each_tokens shapes (map said (texts (line ∷ lines))) in
    i ∙ ap (λ (t : List Token). t ++ end_array ∷ []) (h ∙ ap (λ (t : List Token). t ++ each) (g ∙ ap (λ (t : List Token). t ++ begin_array ∷ []) f))
    ∙ append_assoc ((old ++ Token.key (codes "details") ∷ []) ++ begin_array ∷ []) each (end_array ∷ [])
    ∙ append_assoc (old ++ Token.key (codes "details") ∷ []) (begin_array ∷ []) (each ++ end_array ∷ [])
    ∙ append_assoc old (Token.key (codes "details") ∷ []) (begin_array ∷ (each ++ end_array ∷ []))

pub group_done : (begun line_behind details_behind ended : List Token) (kinds : Kinds) (head : Text) (lines : List Text)
    → begun ≡ begin_object ∷ [] → line_behind ≡ begun ++ row_tokens (row_of kinds.0 head)
    → details_behind ≡ line_behind ++ details_tokens kinds.1 lines → ended ≡ details_behind ++ end_object ∷ []
    → ended ≡ json_tokens (group_object kinds (head, lines))
group_done b l d e kinds head lines f g h i =
    i ∙ ap (λ (t : List Token). t ++ end_object ∷ []) (h ∙ ap (λ (t : List Token). t ++ details_tokens kinds.1 lines)
    (g ∙ ap (λ (t : List Token). t ++ row_tokens (row_of kinds.0 head)) f))
    ∙ append_assoc (begin_object ∷ row_tokens (row_of kinds.0 head)) (details_tokens kinds.1 lines) (end_object ∷ [])
    ∙ sym (group_tokens kinds (head, lines))

-- ---- lines that may be no text

pub row_of_text : (shapes : List Shape) (line text : Text) → text ≡ line → IsUtf8 line → text_row_of shapes text ≡ row_of shapes line
row_of_text shapes line text e utf8 = ap (text_row_of shapes) e ∙ rw (is_utf8-from_IsUtf8 line utf8) refl

pub row_of_bytes : (shapes : List Shape) (line : Text) → ¬ IsUtf8 line → bytes_row (codes "bytes") line ≡ row_of shapes line
row_of_bytes shapes line bad = elim (cases_Bool (is_utf8 line)) [
  | inl it_is ↦ absurd (bad (IsUtf8-from_is_utf8 line it_is))
  | inr it_is_not ↦ rw it_is_not refl
]

pub line_is : (before : Text) (tokens : List Token) (j : Json) → before ≡ [] → tokens ≡ json_tokens j
    → (before ++ print tokens) ++ line_feed ∷ [] ≡ object_line j
line_is before tokens j e f = ap (λ (b : Text). (b ++ print tokens) ++ line_feed ∷ []) e ∙ ap (λ ts. print ts ++ line_feed ∷ []) f
