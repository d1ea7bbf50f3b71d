-- The members of a line, mark by mark, and its first shape.
use Rattle.std.proofs.Common.{◌≡◌, ◌≢◌, ℕ, List, [], ◌∷◌, ◌++◌, append_assoc, map, refl, ap, sym, ◌∙◌}
use Rattle.std.proofs.lemmas.List.{append-nil, map-append}
use Rattle.std.specs.Prelude.{Option, Some, None, option_and_then}
use Rattle.std.specs.Option.{option_map}
use denote.Ref.{Bor}
use Rattle.texts.specs.Lines.{line_feed}
use Rattle.json_lines.specs.Lines.{Text, parts_by}
use Rattle.json_lines.specs.Shapes.{Mark, Member, Shape, Row, kind_in, mark_in, members_by, members_of, open_brace, row_or, shape_in, shaped, shapes_in, text_row_of, until, with_member}
use Rattle.json_lines.specs.inner.Views.{member_of, members}

abbrev pub marks_of : Text → List Mark
marks_of template = map mark_in (parts_by open_brace template)

-- members in front of others
abbrev pub prepended : List Member → Option (List Member) → Option (List Member)
prepended ms others = option_map (λ xs. ms ++ xs) others

prepend_member : (ms : List Member) (name value : Text) (others : Option (List Member))
    → prepended ms (with_member name value others) ≡ prepended (ms ++ (name, value) ∷ []) others
prepend_member ms name value None = refl
prepend_member ms name value (Some xs) = ap Some (sym (append_assoc ms ((name, value) ∷ []) xs))

prepend_none : (others : Option (List Member)) → prepended [] others ≡ others
prepend_none None = refl
prepend_none (Some xs) = refl

pub none_yet : (others : Option (List Member)) → others ≡ prepended [] others
none_yet others = sym (prepend_none others)

-- what is known before a mark, once the mark is cut out of the template
at_mark : (all : Option (List Member)) (ms : List Member) (left more piece name mark rest : Text)
    → all ≡ prepended ms (members_of (marks_of left) rest) → parts_by open_brace left ≡ piece ∷ parts_by open_brace more
    → (name, mark) ≡ mark_in piece
    → all ≡ prepended ms (option_and_then (λ parts. with_member name parts.0 (members_of (marks_of more) parts.1)) (until mark rest))
at_mark all ms left more piece name mark rest h p m =
    h ∙ ap (λ ps. prepended ms (members_of (map mark_in ps) rest)) p
    ∙ ap (λ (k : Mark). prepended ms (members_of (k ∷ marks_of more) rest)) (sym m)

pub mark_step : (all : Option (List Member)) (items : List (Bor Text × Bor Text)) (left more piece : Text) (name : Bor Text) (mark rest : Text)
    (value : Bor Text) (behind : Text)
    → all ≡ prepended (members items) (members_of (marks_of left) rest) → parts_by open_brace left ≡ piece ∷ parts_by open_brace more
    → (name.now, mark) ≡ mark_in piece → Some (value.now, behind) ≡ until mark rest
    → all ≡ prepended (members (items ++ (name, value) ∷ [])) (members_of (marks_of more) behind)
mark_step all items left more piece name mark rest value behind h p m u =
    at_mark all (members items) left more piece name.now mark rest h p m
    ∙ ap (λ o. prepended (members items) (option_and_then (λ parts. with_member name.now parts.0 (members_of (marks_of more) parts.1)) o)) (sym u)
    ∙ prepend_member (members items) name.now value.now (members_of (marks_of more) behind)
    ∙ ap (λ ms. prepended ms (members_of (marks_of more) behind)) (sym (map-append member_of items ((name, value) ∷ [])))

pub mark_none : (all : Option (List Member)) (ms : List Member) (left more piece name mark rest : Text)
    → all ≡ prepended ms (members_of (marks_of left) rest) → parts_by open_brace left ≡ piece ∷ parts_by open_brace more
    → (name, mark) ≡ mark_in piece → None ≡ until mark rest → all ≡ None
mark_none all ms left more piece name mark rest h p m u =
    at_mark all ms left more piece name mark rest h p m
    ∙ ap (λ o. prepended ms (option_and_then (λ parts. with_member name parts.0 (members_of (marks_of more) parts.1)) o)) (sym u)

pub marks_end : (all : Option (List Member)) (ms : List Member) (left rest : Text)
    → all ≡ prepended ms (members_of (marks_of left) rest) → left ≡ [] → rest ≡ [] → Some ms ≡ all
marks_end all ms left rest h l r =
    ap Some (sym (append-nil ms))
    ∙ sym (h ∙ ap (λ t. prepended ms (members_of (marks_of t) rest)) l ∙ ap (λ t. prepended ms (members_of [] t)) r)

pub marks_behind : (all : Option (List Member)) (ms : List Member) (left rest : Text)
    → all ≡ prepended ms (members_of (marks_of left) rest) → left ≡ [] → rest ≢ [] → None ≡ all
marks_behind all ms left [] h l r = absurd (r refl)
marks_behind all ms left (b ∷ rest) h l r = sym (h ∙ ap (λ t. prepended ms (members_of (marks_of t) (b ∷ rest))) l)

-- ---- shapes

shaped_members : (kind : Text) (pieces : List Text) (line : Text) → members_by (shaped kind pieces) line ≡ members_by (shaped [] pieces) line
shaped_members kind [] line = refl
shaped_members kind (front ∷ pieces) line = refl

shaped_kind : (kind : Text) (pieces : List Text) → (shaped kind pieces).kind ≡ kind
shaped_kind kind [] = refl
shaped_kind kind (front ∷ pieces) = refl

-- the first shape of several
pub first_shape : (left more shape kind look line : Text) (o : Option (List Member))
    → parts_by line_feed left ≡ shape ∷ parts_by line_feed more → (kind, look) ≡ kind_in shape
    → o ≡ members_by (shaped [] (parts_by open_brace look)) line
    → text_row_of (shapes_in left) line ≡ row_or kind o (text_row_of (shapes_in more) line)
first_shape left more shape kind look line o p k m =
    ap (λ ls. text_row_of (map shape_in ls) line) p
    ∙ ap (λ (kl : Text × Text). row_or (shaped kl.0 (parts_by open_brace kl.1)).kind (members_by (shaped kl.0 (parts_by open_brace kl.1)) line)
    (text_row_of (shapes_in more) line)) (sym k)
    ∙ ap (λ (name : Text). row_or name (members_by (shaped kind (parts_by open_brace look)) line) (text_row_of (shapes_in more) line))
    (shaped_kind kind (parts_by open_brace look))
    ∙ ap (λ os. row_or kind os (text_row_of (shapes_in more) line)) (shaped_members kind (parts_by open_brace look) line ∙ sym m)

pub no_shape : (left line : Text) → left ≡ [] → text_row_of (shapes_in left) line ≡ text_row_of [] line
no_shape left line e = ap (λ t. text_row_of (shapes_in t) line) e
