-- A line is read as a command exactly where it is one, and a text has one reading.
use Rattle.std.proofs.Common.{◌≡◌, ℕ, ◌+◌, ◌≤◌, Bool, true, false, cond, List, [], ◌∷◌, ◌++◌, length, refl, ap, sym, ◌∙◌, subst}
use Rattle.std.proofs.Common.{arith, append_assoc, append-nil, length-append}
use Rattle.std.specs.Prelude.{Option, Some, None, option_and_then, ◌==◌, ◌&&◌, nat_lt, not, IsUtf8}
use Rattle.std.specs.List.{join_with_byte, list_all}
use Rattle.std.proofs.lemmas.Bool.{and_from, and_parts, cond-false, cond-true, lt-ltb, not-true}
use Rattle.std.proofs.lemmas.Option.{none-some, same_Some}
use Rattle.std.proofs.lemmas.List.Splits.{join_with_byte-slice_split}
use Rattle.machines.specs.declared.arch.Arch.{Arch}
use Rattle.script.specs.Commands.{Command}
use Rattle.script.specs.Grammar.{AreFieldsOf, IsCommand, LineIs, is_field, lacks, max_line}
use Rattle.script.specs.Lines.{LinesAre, lines_of}
use Rattle.texts.specs.Lines.{line_feed, space}
use Rattle.script.specs.Laws.{OneCommand, OneReading}
use Rattle.script.specs.inner.Reading.{command_at, command_from, fields_at, fields_from, max_fields, pieces}
use Rattle.texts.proofs.Options.{bind_some, tested}
use Rattle.script.proofs.Pieces.{cut, cut-joined, pieces-lack}
use Rattle.script.proofs.CommandLaws.{command_from-is, command_from-some, length-fields-le}

-- Fields.

abbrev is_filled : List ℕ → Bool
is_filled f = not (length f == 0)

fields_from-some : (done fs gs : List (List ℕ)) → fields_from done fs ≡ Some gs → (gs ≡ done ++ fs) × (list_all is_filled fs ≡ true)
fields_from-some done [] gs h = (sym (same_Some done gs h) ∙ sym (append-nil done), refl)
fields_from-some done (f ∷ fs) gs h = by_test (length f == 0) h (fields_from-some (done ++ f ∷ []) fs gs) where
  by_test : (t : Bool)
      → cond {A = Option (List (List ℕ))} t None (cond (nat_lt (length done) max_fields) (fields_from (done ++ f ∷ []) fs) None) ≡ Some gs
      → (fields_from (done ++ f ∷ []) fs ≡ Some gs → (gs ≡ (done ++ f ∷ []) ++ fs) × (list_all is_filled fs ≡ true))
      → (gs ≡ done ++ (f ∷ fs)) × ((not t && list_all is_filled fs) ≡ true)
  by_test true g more = absurd (cc)
  by_test false g more =
      let t = tested (nat_lt (length done) max_fields) (fields_from (done ++ f ∷ []) fs) gs g in
      let m = more t.1 in
      (m.0 ∙ append_assoc done (f ∷ []) fs, m.1)

fields_from-is : (done fs : List (List ℕ)) → list_all is_filled fs ≡ true → length done + length fs ≤ 12
    → fields_from done fs ≡ Some (done ++ fs)
fields_from-is done [] h few = ap Some (sym (append-nil done))
fields_from-is done (f ∷ fs) h few =
    let filled = and_parts (is_filled f) (list_all is_filled fs) h in
    let room : nat_lt (length done) max_fields ≡ true = lt-ltb (length done) max_fields (omega arith) in
    let more = fields_from-is (done ++ f ∷ []) fs filled.1 (omega (arith, length-append done (f ∷ []))) in
    cond-false (length f == 0) None (cond (nat_lt (length done) max_fields) (fields_from (done ++ f ∷ []) fs) None)
    (not-true (length f == 0) filled.0)
    ∙ cond-true (nat_lt (length done) max_fields) (fields_from (done ++ f ∷ []) fs) None room
    ∙ more ∙ ap Some (append_assoc done (f ∷ []) fs)

are_fields-from : (fs : List (List ℕ)) → list_all is_filled fs ≡ true → list_all (lacks space) fs ≡ true → list_all is_field fs ≡ true
are_fields-from [] h g = refl
are_fields-from (f ∷ fs) h g =
    let filled = and_parts (is_filled f) (list_all is_filled fs) h in
    let free = and_parts (lacks space f) (list_all (lacks space) fs) g in
    and_from (is_field f) (list_all is_field fs) (and_from (is_filled f) (lacks space f) filled.0 free.0) (are_fields-from fs filled.1 free.1)

are_fields-parts : (fs : List (List ℕ)) → list_all is_field fs ≡ true → (list_all is_filled fs ≡ true) × (list_all (lacks space) fs ≡ true)
are_fields-parts [] h = (refl, refl)
are_fields-parts (f ∷ fs) h =
    let first = and_parts (is_field f) (list_all is_field fs) h in
    let both = and_parts (is_filled f) (lacks space f) first.0 in
    let more = are_fields-parts fs first.1 in
    (and_from (is_filled f) (list_all is_filled fs) both.0 more.0, and_from (lacks space f) (list_all (lacks space) fs) both.1 more.1)

-- Lines.

command_at-some : (native : Arch) (line : List ℕ) (o : Command) → length line ≤ max_line → IsUtf8 line → command_at native line ≡ Some o
    → IsCommand native line o
command_at-some native line o short utf8 h =
    let fields = bind_some (fields_at line) (command_from native) o h in
    let found = fields_from-some [] (pieces line) fields.0 fields.1 in
    let form : AreFieldsOf native (pieces line) o =
    command_from-some native (pieces line) o (ap (command_from native) (sym found.0) ∙ fields.2) in
    record {
      short = short;
      utf8 = utf8;
      fields = pieces line;
      joined = sym (join_with_byte-slice_split space line);
      each = are_fields-from (pieces line) found.1 (pieces-lack space line);
      form = form;
    }

-- the pieces of joined fields are the fields, of which there is one
pieces-joined : (native : Arch) (line : List ℕ) (fields : List (List ℕ)) (o : Command) → line ≡ join_with_byte space fields
    → list_all (lacks space) fields ≡ true → AreFieldsOf native fields o → pieces line ≡ fields
pieces-joined native line [] o joined each form =
    absurd (none-some o (command_from-is native [] o form))
pieces-joined native line (first ∷ more) o joined each form = ap pieces joined ∙ cut-joined space first more each

command_at-is : (native : Arch) (line : List ℕ) (o : Command) → IsCommand native line o → command_at native line ≡ Some o
command_at-is native line o h =
    let each = are_fields-parts h.fields h.each in
    let cut_is = pieces-joined native line h.fields o h.joined each.1 h.form in
    ap (λ fs. option_and_then (command_from native) (fields_from [] fs)) cut_is
    ∙ ap (option_and_then (command_from native)) (fields_from-is [] h.fields each.0 (omega (arith, length-fields-le native h.fields o h.form)))
    ∙ command_from-is native h.fields o h.form

-- what is read of a line is what it is
line_is : (native : Arch) (line : List ℕ) → length line ≤ max_line → IsUtf8 line → LineIs native line (command_at native line)
line_is native line short utf8 = by_case (command_at native line) refl where
  by_case : (o : Option Command) → command_at native line ≡ o → LineIs native line o
  by_case (Some command) e = command_at-some native line command short utf8 e
  by_case None e = λ command h. none-some command (sym e ∙ command_at-is native line command h)

pub no_command : (native : Arch) (text line : List ℕ) → text ≡ line → fields_at text ≡ None → (command : Command)
    → IsCommand native line command → ⊥
no_command native text line same none command h =
    none-some command (sym (ap (option_and_then (command_from native)) (ap fields_at (sym same) ∙ none)) ∙ command_at-is native line command h)

pub line_read : (native : Arch) (text line : List ℕ) (fields : List (List ℕ)) (o : Option Command) → text ≡ line → length line ≤ max_line
    → IsUtf8 line → fields_at text ≡ Some fields → o ≡ command_from native fields → LineIs native line o
line_read native text line fields o same short utf8 found read =
    let P : Option Command → Type 0 = λ x. LineIs native line x in
    let is : command_at native line ≡ o = ap (option_and_then (command_from native)) (ap fields_at (sym same) ∙ found) ∙ sym read in
    subst P is (line_is native line short utf8)

-- A line and a text mean one thing.

pub one_command : OneCommand
one_command native line (Some a) (Some b) h g = sym (command_at-is native line a h) ∙ command_at-is native line b g
one_command native line (Some a) None h g = absurd (g a h)
one_command native line None (Some b) h g = absurd (h b g)
one_command native line None None h g = refl

lines-one : (native : Arch) (lines : List (List ℕ)) (a b : List (Option Command)) → LinesAre native lines a → LinesAre native lines b → a ≡ b
lines-one native [] [] [] h g = refl
lines-one native [] [] (y ∷ b) h g = absurd g
lines-one native [] (x ∷ a) b h g = absurd h
lines-one native (line ∷ lines) [] b h g = absurd h
lines-one native (line ∷ lines) (x ∷ a) [] h g = absurd g
lines-one native (line ∷ lines) (x ∷ a) (y ∷ b) h g =
    let same : x ≡ y = one_command native line x y h.0 g.0 in
    let more : a ≡ b = lines-one native lines a b h.1 g.1 in
    λ i. same i ∷ more i

-- the lines of the parts
abbrev lines_in : List (List ℕ) → List (List ℕ)
lines_in [] = []
lines_in (first ∷ more) = lines_of first more

pub one_reading : OneReading
one_reading native text a b h g =
    let left = cut-joined line_feed h.first h.more h.parts.each in
    let right = cut-joined line_feed g.first g.more g.parts.each in
    let same : h.first ∷ h.more ≡ g.first ∷ g.more =
    sym left ∙ ap (cut line_feed) (sym h.parts.joined ∙ g.parts.joined) ∙ right in
    let L : List (List ℕ) → Type 0 = λ lines. LinesAre native lines a in
    lines-one native (lines_of g.first g.more) a b (subst L (ap lines_in same) h.lines) g.lines
