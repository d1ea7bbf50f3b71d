-- Which call record command line arguments ask for. They ask for it by a call and its arguments, as a line of a script does and also by
-- names of constants. Or they ask for it by its bytes.
use Rattle.std.specs.Prelude.{ℕ, ◌≡◌, ◌==◌, Bool, true, false, List, [], ◌∷◌, ◌++◌, Some, None, Ok, codes}
use Rattle.std.specs.List.{flat_map, list_any}
use Rattle.std.specs.Str.{bytes_eq}
use denote.Ref.{Bor}
use Rattle.hex.specs.Hex.{decode_sized}
use Rattle.texts.specs.Lines.{space}
use Rattle.call_words.specs.Constants.{numeral}
use Rattle.machines.specs.declared.arch.Arch.{Arch}
use Rattle.machines.specs.Arch.{token_of}
use Rattle.call_record.specs.declared.layout.Record.{Record}
use Rattle.call_record.specs.Record.{words}
use Rattle.call_record.specs.Words.{words_of}
use Rattle.script.specs.Grammar.{LineIs}
use Rattle.script.specs.Commands.{Call}

-- a call's name or number, and its arguments behind it: a name of a constant, or several with bars between them, is its number
abbrev pub call_text : List (Bor (List ℕ)) → List ℕ
call_text [] = []
call_text (word ∷ arguments) = space ∷ word.now ++ flat_map (λ a. space ∷ numeral a.now) arguments

-- the line of a script that the command line arguments make: a call of the first task of a container c
abbrev pub line_of : List (Bor (List ℕ)) → List ℕ
line_of given = codes "call c 1" ++ call_text given

abbrev pub has_space : List ℕ → Bool
has_space argument = list_any (λ b. b == space) argument

-- a call of a machine by its number, with its arguments, made at address 0
pub record IsRecordOf (arch : Arch) (nr : ℕ) (args : List ℕ) (r : Record) : Type 0 where
  pub number : r.nr ≡ nr
  pub machine : r.arch ≡ token_of arch
  pub pointer : r.ip ≡ 0
  pub arguments : r.args ≡ args

-- the line is a call without a program, and the record is that of the call
pub record IsOnLine (native : Arch) (line : List ℕ) (r : Record) : Type 0 where
  pub id : List ℕ
  pub task : ℕ
  pub arch : Arch
  pub nr : ℕ
  pub args : List ℕ
  pub is_line : LineIs native line (Some (Call id task arch nr args None))
  pub is_record : IsRecordOf arch nr args r

-- the command line arguments are the fields of such a line
pub record IsAsked (native : Arch) (given : List (Bor (List ℕ))) (r : Record) : Type 0 where
  pub fields : list_any (λ w. has_space w.now) given ≡ false
  pub on_line : IsOnLine native (line_of given) r

-- the digits are those of the record's 64 bytes, two for each
pub record IsSpelled (digits : List ℕ) (r : Record) : Type 0 where
  pub bytes : List ℕ
  pub decoded : decode_sized digits 64 ≡ Ok bytes
  pub spelled : words_of bytes ≡ words r

-- the command line arguments are `record` and digits
pub record IsByBytes (given : List (Bor (List ℕ))) (r : Record) : Type 0 where
  pub mark : Bor (List ℕ)
  pub digits : Bor (List ℕ)
  pub each : given ≡ mark ∷ digits ∷ []
  pub named : bytes_eq mark.now (codes "record") ≡ true
  pub spelled : IsSpelled digits.now r

-- two arguments, of which the first one is `record`
abbrev pub are_bytes : List (Bor (List ℕ)) → Bool
are_bytes (mark ∷ digits ∷ []) = bytes_eq mark.now (codes "record")
are_bytes given = false

abbrev pub called_by : Bool → Arch → List (Bor (List ℕ)) → Record → Type 0
called_by true native given r = IsByBytes given r
called_by false native given r = IsAsked native given r

abbrev pub IsCall : Arch → List (Bor (List ℕ)) → Record → Type 0
IsCall native given r = called_by (are_bytes given) native given r
