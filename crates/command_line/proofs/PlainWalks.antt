-- The walk over arguments of which none begins with a hyphen: each of them is a value.
use Rattle.std.proofs.Common.{◌≡◌, ◌∙◌, ℕ, Bool, cond, true, false, refl, ap, ap₂, inl, inr, List, [], ◌∷◌, Option, Some, None}
use Rattle.std.specs.Prelude.{slice_get}
use Rattle.std.specs.List.{fold}
use Rattle.std.specs.Str.{bytes_eq}
use Rattle.std.proofs.lemmas.Bool.{cases_eq, ne_eqb, false_from_ne_true}
use Rattle.std.proofs.lemmas.Slice.Eq.{bytes_eq-Decides}
use Rattle.clap.specs.Lexer.{strip_byte}
use Rattle.clap.specs.Kinds.{Kinds, or_else}
use Rattle.clap.specs.Simple.{Shape}
use Rattle.clap.specs.Walk.{Held, Rule, Text, Waiting, Walk, idle, option, positional, arg_by_index, is_multiple, to_positional, value, walked, word_met}
use Rattle.clap.specs.Faults.{step_fault, turn_fault, walk_fault, word_fault}
use Rattle.command_line.specs.Lines.{IsDashed}

abbrev pub IsPlain : Text → Type 0
IsPlain word = IsDashed word → ⊥

-- none of them begins with a hyphen
abbrev pub ArePlain : List Text → Type 0
ArePlain [] = Unit {0}
ArePlain (word ∷ rest) = IsPlain word × ArePlain rest

pub no_hyphen : (word : Text) → IsPlain word → strip_byte 45 word ≡ None
no_hyphen [] plain = refl
no_hyphen (x ∷ xs) plain = elim (cases_eq x 45) [
  | inl e ↦ absurd (plain (ap Some e))
  | inr ne ↦ rw (ne_eqb x 45 ne) refl
]

pub no_mark : (word : Text) → IsPlain word → bytes_eq word (45 ∷ 45 ∷ []) ≡ false
no_mark word plain = false_from_ne_true (bytes_eq word (45 ∷ 45 ∷ []))
    (λ e. plain (ap (λ w. slice_get w 0) ((bytes_eq-Decides word (45 ∷ 45 ∷ [])).0 e)))

-- no option waits for a value
abbrev pub Waits : Waiting → Type 0
Waits idle = Unit {0}
Waits positional = Unit {0}
Waits (option id) = ⊥

met_value : (c : List Rule) (trailing : Bool) (waiting : Waiting) (position : ℕ) (word : Text) (h : Held) → IsPlain word → Waits waiting
    → word_met c [] trailing waiting position word h ≡ (h, value)
met_value c true waiting position word h plain goes = refl
met_value c false idle position word h plain on = rw (no_mark word plain, no_hyphen word plain, no_hyphen word plain) refl
met_value c false positional position word h plain on = rw (no_mark word plain, no_hyphen word plain, no_hyphen word plain) refl
met_value c false (option id) position word h plain on = absurd on

no_word_fault : (s : Shape) (trailing : Bool) (waiting : Waiting) (word : Text) (h : Held) → IsPlain word → Waits waiting
    → word_fault s [] trailing waiting word h ≡ []
no_word_fault s true waiting word h plain goes = refl
no_word_fault s false idle word h plain on = rw (no_mark word plain, no_hyphen word plain, no_hyphen word plain) refl
no_word_fault s false positional word h plain on = rw (no_mark word plain, no_hyphen word plain, no_hyphen word plain) refl
no_word_fault s false (option id) word h plain on = absurd on

-- the word is the next value
abbrev pub valued : List Rule → Walk → Text → Walk
valued c w word = to_positional c (arg_by_index c w.position) word w w.held

abbrev pub value_fault : Shape → Walk → Kinds
value_fault s w = step_fault s w.position w.held value

unfoldable pub values_fault : Shape → Walk → List Text → Kinds
values_fault s w [] = []
values_fault s w (word ∷ rest) = or_else (value_fault s w) (values_fault s (valued s.rules w word) rest)

-- the walk goes on: nothing waits, and no command was met
pub record IsOpen (w : Walk) : Type 0 where
  pub waits : Waits w.waiting
  pub goes : w.stopped ≡ None

stays_open : (c : List Rule) (found : Option Rule) (word : Text) (w : Walk) → IsOpen w → IsOpen (to_positional c found word w w.held)
stays_open c None word w on = record { waits = on.waits; goes = on.goes }
stays_open c (Some a) word w on = record { waits = go (is_multiple a); goes = refl }
  where
    go : (b : Bool) → Waits (cond b positional idle)
    go true = tt
    go false = tt

one_value : (c : List Rule) (w : Walk) (word : Text) → IsPlain word → IsOpen w → walked c [] w word ≡ valued c w word
unfolding walked
one_value c w word plain on = rw (on.goes, met_value c w.is_trailing w.waiting w.position word w.held plain on.waits) refl

one_fault : (s : Shape) (w : Walk) (word : Text) → IsPlain word → IsOpen w → turn_fault s [] w word ≡ value_fault s w
one_fault s w word plain on = rw (on.goes, no_word_fault s w.is_trailing w.waiting word w.held plain on.waits, met_value s.rules w.is_trailing w.waiting w.position word w.held plain on.waits) refl

-- the walk over such arguments
pub all_values : (c : List Rule) (w : Walk) (words : List Text) → ArePlain words → IsOpen w → fold (walked c []) w words ≡ fold (valued c) w words
all_values c w [] plain goes = refl
all_values c w (word ∷ rest) plain on =
    ap (λ (v : Walk). fold (walked c []) v rest) (one_value c w word plain.0 on)
    ∙ all_values c (valued c w word) rest plain.1 (stays_open c (arg_by_index c w.position) word w on)

-- and its faults
pub all_faults : (s : Shape) (w : Walk) (words : List Text) → ArePlain words → IsOpen w → walk_fault s [] w words ≡ values_fault s w words
unfolding walk_fault values_fault
all_faults s w [] plain goes = refl
all_faults s w (word ∷ rest) plain on =
    ap₂ or_else (one_fault s w word plain.0 on) (ap (λ (v : Walk). walk_fault s [] v rest) (one_value s.rules w word plain.0 on)
    ∙ all_faults s (valued s.rules w word) rest plain.1 (stays_open s.rules (arg_by_index s.rules w.position) word w on))
