-- Texts as a page has them, and parts of them.
use Rattle.std.specs.Prelude.{ℕ, ◌==◌, ◌≢◌, Bool, if◌then◌else◌, is_some, List, [], ◌∷◌, codes}
use Rattle.std.specs.List.{AllByRecursion, flat_map}
use Rattle.texts.specs.Splits.{split_at}
use Rattle.json_lines.specs.Lines.{Text}
use Rattle.json_lines.specs.Shapes.{parts_or}

-- ---- nothing in a text is markup (HTML, 13.1.4 Character references)

abbrev pub shown_byte : ℕ → Text
shown_byte b =
    if b == 38 then codes "&amp;"
    else if b == 60 then codes "&lt;"
    else if b == 62 then codes "&gt;"
    else if b == 34 then codes "&quot;"
    else b ∷ []

abbrev pub shown : Text → Text
shown = flat_map shown_byte

-- no byte of it begins a tag, ends one or ends the value of an attribute
abbrev pub HasNoMarkup : Text → Type 0
HasNoMarkup = AllByRecursion (λ b. (b ≢ 60) × (b ≢ 62) × (b ≢ 34))

-- ---- parts of a line

abbrev pub has : ℕ → Text → Bool
has byte text = is_some (split_at byte text)

-- what stands before the first such byte, and behind it; if there is none, all and nothing
abbrev pub up_to : ℕ → Text → Text
up_to byte text = (parts_or (text, []) (split_at byte text)).0

abbrev pub past : ℕ → Text → Text
past byte text = (parts_or (text, []) (split_at byte text)).1
