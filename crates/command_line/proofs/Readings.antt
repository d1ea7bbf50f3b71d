-- What clap's refusal tells of the arguments.
use Rattle.std.proofs.Common.{◌≡◌, ◌∙◌, ◌≤◌, suc, arith, refl, sym, ap, subst, inl, inr, List, [], ◌∷◌, length, Option, Some, None, true}
use Rattle.std.specs.Prelude.{Any, option_and_then}
use Rattle.std.specs.Borrow.{Bor}
use Rattle.std.proofs.lemmas.List.{length-map}
use Rattle.clap.specs.Lexer.{usize_max}
use Rattle.clap.specs.Words.{App, HasKind, IsAmong, fault_of, is_simple_and_free, kind_of}
use Rattle.clap.specs.declared.Error.{Error}
use Rattle.clap.specs.declared.error.ErrorKind.TheVariants as kind
use Rattle.command_line.specs.declared.reading.CommandLine.{CommandLine}
use Rattle.command_line.specs.Lines.{Given, IsCommandLine, IsDashed, NoCommandLine, command_of, given, given_by, row_called, texts}
use Rattle.command_line.specs.Table.{Row, Text, rows}
use Rattle.command_line.specs.inner.Grammar.{grammar_of}
use Rattle.command_line.proofs.PlainWalks.{ArePlain}
use Rattle.command_line.proofs.Faults.{fault, no_fault, shapes}

-- where no argument begins with a hyphen, each of them is plain
pub all_plain : (words : List (Bor Text)) → (Any (λ w. IsDashed w.now) words → ⊥) → ArePlain (texts words)
all_plain [] none = tt
all_plain (word ∷ rest) none = (
  λ dashed. none (0, word, omega arith, refl, dashed),
  all_plain rest (λ later. none (suc later.0, later.1, omega (arith, later.2), later.3, later.4)),
)

-- the grammar of the table
abbrev pub grammar : App
grammar = grammar_of rows

fault_is : (words : List Text) → fault_of grammar words ≡ fault words
unfolding shapes rows
fault_is words = refl

-- the grammar is simple, so clap's statement holds of it
pub simple_and_free : is_simple_and_free grammar ≡ true
unfolding rows
simple_and_free = refl

-- a command has a row
has_row : (word : Text) (parts : List Text) (g : Given) → command_of (word ∷ parts) ≡ Some g → (row : Row) × (row_called word rows ≡ Some row)
has_row word parts g e = go (row_called word rows) refl
  where
    go : (found : Option Row) → row_called word rows ≡ found → (row : Row) × (row_called word rows ≡ Some row)
    go (Some row) is = (row, is)
    go None is =
        let none : None ≡ Some g = sym (ap (option_and_then (λ (row : Row). given_by row parts)) is) ∙ e in
        absurd (cc)

-- so clap finds no fault of it
no_fault_of : (words : List Text) (g : Given) → command_of words ≡ Some g → ArePlain words → length words ≤ usize_max → fault words ≡ []
no_fault_of [] g e plain most = absurd (cc)
no_fault_of (word ∷ parts) g e plain most =
    let row = has_row word parts g e in
    let few : length parts ≤ usize_max = omega (arith, most) in
    no_fault word parts row.0 row.1 plain.1 few

-- and refuses it for want of memory alone
pub refused : (words : List (Bor Text)) (g : Given) → IsCommandLine words g → length words ≤ usize_max → (app : App) → app ≡ grammar → (e : Error)
    → (is_simple_and_free app ≡ true → HasKind (fault_of app (texts words)) e) → kind_of e ≡ kind.OutOfMemory
refused words g line most app is e fails = go (fails (ap is_simple_and_free is ∙ simple_and_free))
  where
    few : length (texts words) ≤ usize_max
    few = omega (arith, length-map words (λ (w : Bor Text). w.now), most)

    none : fault_of app (texts words) ≡ []
    none = ap (λ (a : App). fault_of a (texts words)) is ∙ fault_is (texts words) ∙ no_fault_of (texts words) g line.command (all_plain words line.plain) few

    go : HasKind (fault_of app (texts words)) e → kind_of e ≡ kind.OutOfMemory
    go (inl memory) = memory
    go (inr among) = absurd (subst (IsAmong (kind_of e)) none among)

-- ---- the clauses, by the outcome

module _ (words : List (Bor Text)) where
  -- a command was read
  pub read_is : (line : CommandLine) → Some (given line) ≡ command_of (texts words) → (g : Given) → IsCommandLine words g → given line ≡ g
  read_is line e g is =
      let same : Some (given line) ≡ Some g = e ∙ is.command in
      cc

  pub read_is_one : (line : CommandLine) → (Any (λ w. IsDashed w.now) words → ⊥) → Some (given line) ≡ command_of (texts words)
      → NoCommandLine words → ⊥
  read_is_one line plain e (inl none) =
      let same : Some (given line) ≡ None = e ∙ none in
      cc
  read_is_one line plain e (inr dashed) = plain dashed

  -- there is none
  pub none_is : None ≡ command_of (texts words) → (g : Given) → IsCommandLine words g → ⊥
  none_is e g is =
      let same : None ≡ Some g = e ∙ is.command in
      cc
