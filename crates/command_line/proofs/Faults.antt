-- Where the name of a command stands first and no argument begins with a hyphen, clap finds no fault.
use Rattle.std.proofs.Common.{◌≡◌, ◌∙◌, ◌≤◌, ◌<◌, ℕ, Bool, true, false, refl, sym, ap, ap₂, arith, List, [], ◌∷◌, ◌++◌, length, map, append-nil, append_assoc, Some, codes}
use Rattle.std.specs.Prelude.{find, is_some}
use Rattle.std.specs.List.{fold}
use Rattle.std.specs.Str.{bytes_eq}
use Rattle.std.proofs.lemmas.Bool.{le-ltb, ne_eqb}
use Rattle.std.proofs.lemmas.Slice.Eq.{bytes_eq-Decides}
use Rattle.clap.specs.Lexer.{usize_max}
use Rattle.clap.specs.Kinds.{Kinds, or_else, range_kinds, values_kinds}
use Rattle.clap.specs.Simple.{App, Shape, built, built_leaf, entered, inherited, label_of, names_of}
use Rattle.clap.specs.Walk.{Held, Names, Text, Walk, answers_to, finished, nothing_held, settled, walk, walk_from, walked}
use Rattle.clap.specs.Faults.{built_fault, check_fault, defaults_fault, entered_fault, level_fault, settle_fault, turn_fault, walk_fault}
use Rattle.clap.specs.declared.builder.ValueParser.TheVariants as parser
use Rattle.clap.proofs.WalkLemmas.{walk_stopped}
use Rattle.command_line.specs.Lines.{row_called}
use Rattle.command_line.specs.Table.{Row, rows}
use Rattle.command_line.specs.inner.Grammar.{leaf, top}
use Rattle.command_line.proofs.PlainWalks.{ArePlain, IsOpen, all_faults, all_values, value_fault, valued, values_fault}

-- ---- behind the name

-- a command of the grammar, as clap builds it
abbrev pub ready : Text → Shape
ready name = built_leaf (inherited top.top (leaf name))

abbrev pub start : Walk
start = walk_from nothing_held

-- the faults of a level at the end of its arguments
abbrev ends : Shape → Kinds → Held → Kinds
ends s faults held = or_else faults (or_else [] (or_else (settle_fault s.rules s.args_override_self held)
    (or_else (defaults_fault (settled s.rules held).rows s.rules) (check_fault s (finished s.rules held) false))))

-- a list is gathered: each further argument joins it
module _ (s : Shape) (state : List Text → Walk) (step : (values : List Text) (word : Text) → valued s.rules (state values) word ≡ state (values ++ word ∷ []))
    (calm : (values : List Text) → value_fault s (state values) ≡ []) where
  gathered : (values words : List Text) → fold (valued s.rules) (state values) words ≡ state (values ++ words)
  gathered values [] = ap state (sym (append-nil values))
  gathered values (word ∷ rest) =
      ap (λ (w : Walk). fold (valued s.rules) w rest) (step values word) ∙ gathered (values ++ word ∷ []) rest
      ∙ ap state (append_assoc values (word ∷ []) rest)

  gathered_fault : (values words : List Text) → values_fault s (state values) words ≡ []
  unfolding values_fault
  gathered_fault values [] = refl
  gathered_fault values (word ∷ rest) =
      ap₂ or_else (calm values) (ap (λ (w : Walk). values_fault s w rest) (step values word) ∙ gathered_fault (values ++ word ∷ []) rest)

-- an argument at least, and no more than there may be
ranged : (n : ℕ) → 0 < n → n ≤ usize_max → range_kinds 1 usize_max n ≡ []
ranged n least most =
    let none : (n ≡ 0 → ⊥) = λ e. omega arith in
    rw (ne_eqb n 0 none, le-ltb n 1 (omega arith), le-ltb usize_max n most) refl

-- each text is a value
accepted : (values : List Text) → values_kinds false parser.String values ≡ []
accepted [] = refl
accepted (value ∷ rest) = accepted rest

list_calm : (values : List Text) → 0 < length values → length values ≤ usize_max
    → or_else (or_else (range_kinds 1 usize_max (length values)) (values_kinds false parser.String values)) [] ≡ []
list_calm values least most = ap₂ (λ (x y : Kinds). or_else (or_else x y) []) (ranged (length values) least most) (accepted values)

-- the walk behind the first argument, once these are the values
list_state : Text → Text → List Text → Walk
list_state name first values =
    let w = valued (ready name).rules start first in
    record w { held = record w.held { pending = Some (codes "PARTS", values) } }

-- any arguments are taken
values_calm : (name : Text) (parts : List Text) → length parts ≤ usize_max
    → ends (ready name) (values_fault (ready name) start parts) (fold (valued (ready name).rules) start parts).held ≡ []
unfolding values_fault defaults_fault list_state
values_calm name [] most = refl
values_calm name (first ∷ more) most =
    let s = ready name in
    let state = list_state name first in
    let walk = gathered s state (λ values word. refl) (λ values. refl) (first ∷ []) more in
    let calm = gathered_fault s state (λ values word. refl) (λ values. refl) (first ∷ []) more in
    let some : 0 < length (first ∷ more) = omega arith in
    ap₂ (λ (f : Kinds) (w : Walk). ends s f w.held) calm walk ∙ list_calm (first ∷ more) some most

leaf_calm : (name : Text) (parts : List Text) → ArePlain parts → length parts ≤ usize_max
    → level_fault (ready name) [] nothing_held parts false [] ≡ []
leaf_calm name parts plain most =
    let going : IsOpen start = record { waits = tt; goes = refl } in
    ap₂ (λ (f : Kinds) (w : Walk). ends (ready name) f w.held) (all_faults (ready name) start parts plain going)
    (all_values (ready name).rules start parts plain going) ∙ values_calm name parts most

-- ---- the name

-- the commands of the table, as clap builds them
unfoldable pub shapes : List Shape
shapes = map (λ row. ready row.name) rows

-- the grammar of the table, as clap builds it
abbrev pub app : App
app = record { top = record (built top).top { is_leaf = false }; subs = shapes }

abbrev pub names : Names
names = names_of app

abbrev pub fault : List Text → Kinds
fault words = built_fault app nothing_held words

-- the word is the name of one of these commands
abbrev IsName : Text → List Shape → Type 0
IsName word subs = (find (answers_to word) (map label_of subs) ≡ Some (word, [])) × (find (λ t. answers_to word (label_of t)) subs ≡ Some (ready word))

module _ (word : Text) where
  named_in : (entries : List Row) (row : Row) → row_called word entries ≡ Some row → IsName word (map (λ entry. ready entry.name) entries)
  named_in [] row e = absurd (cc)
  named_in (first ∷ rest) row e = go (bytes_eq first.name word) refl (λ later. named_in rest row later)
    where
      go : (b : Bool) → bytes_eq first.name word ≡ b → (row_called word rest ≡ Some row → IsName word (map (λ entry. ready entry.name) rest))
          → IsName word (map (λ entry. ready entry.name) (first ∷ rest))
      go true like next = let same : first.name ≡ word = (bytes_eq-Decides first.name word).0 like in (
        rw like (ap (λ (name : Text). Some (name, [])) same),
        rw like (ap (λ (name : Text). Some (ready name)) same),
      )
      go false unlike next =
          let passed : row_called word (first ∷ rest) ≡ row_called word rest = rw unlike refl in
          let is = next (sym passed ∙ e) in
          (rw unlike is.0, rw unlike is.1)

  -- the faults of the whole, by its walk and its faults
  abbrev whole : Kinds → Walk → Kinds
  whole faults w = or_else faults (or_else (entered_fault app w.stopped) (or_else (settle_fault app.top.rules app.top.args_override_self w.held)
      (or_else (defaults_fault (settled app.top.rules w.held).rows app.top.rules)
      (check_fault app.top (finished app.top.rules w.held) (is_some (entered app w.stopped))))))

  -- behind a command that was met there are no faults of the whole
  stopped_fault : (w : Walk) (seen : List Text) (words : List Text) → w.stopped ≡ Some (word, seen) → walk_fault app.top names w words ≡ []
  unfolding walk_fault walked
  stopped_fault w seen [] met = refl
  stopped_fault w seen (next ∷ rest) met =
      rw met (stopped_fault (record w { stopped = Some (word, seen ++ next ∷ []) }) (seen ++ next ∷ []) rest refl)

  module _ (parts : List Text) (is : IsName word shapes) where
    met_walk : Walk
    met_walk = record start { stopped = Some (word, parts) }

    first_step : walked app.top.rules names start word ≡ record start { stopped = Some (word, []) }
    unfolding walked
    first_step = rw is.0 refl

    walk_is : walk app.top.rules names nothing_held (word ∷ parts) ≡ met_walk
    unfolding met_walk
    walk_is = ap (λ (w : Walk). fold (walked app.top.rules names) w parts) first_step ∙ sym (walk_stopped app.top.rules names start word [] parts)

    no_turn_fault : turn_fault app.top names start word ≡ []
    no_turn_fault = go (bytes_eq word (codes "help")) refl
      where
        go : (b : Bool) → bytes_eq word (codes "help") ≡ b → turn_fault app.top names start word ≡ []
        go true help = rw (is.0, help) refl
        go false other = rw (is.0, other) refl

    faults_are : walk_fault app.top names start (word ∷ parts) ≡ []
    unfolding walk_fault
    faults_are = ap₂ or_else no_turn_fault (ap (λ (w : Walk). walk_fault app.top names w parts) first_step
        ∙ stopped_fault (record start { stopped = Some (word, []) }) [] parts refl)

    fault_is : fault (word ∷ parts) ≡ or_else (level_fault (ready word) [] nothing_held parts false []) []
    unfolding met_walk defaults_fault
    fault_is = ap₂ whole faults_are walk_is ∙ rw is.1 refl

  -- a command of the table has no fault
  pub no_fault : (parts : List Text) (row : Row) → row_called word rows ≡ Some row → ArePlain parts → length parts ≤ usize_max → fault (word ∷ parts) ≡ []
  unfolding shapes
  no_fault parts row e plain most =
      fault_is parts (named_in rows row e) ∙ ap (λ (k : Kinds). or_else k []) (leaf_calm word parts plain most)
