-- What a script says that a listener responds to a call. It stands at the end of the call's line, behind a space.
use Rattle.std.specs.Prelude.{ℕ, ◌≡◌, ◌≤◌, List, ◌∷◌, ◌++◌, length, Option, None, Some, codes, IsUtf8}
use Rattle.texts.specs.Lines.{space}
use Rattle.machines.specs.declared.arch.Family.{Family}
use Rattle.machines.specs.declared.arch.Family.TheVariants.{Chosen, Whole}
use Rattle.script.specs.Grammar.{max_line}
use Rattle.script.specs.Numbers.{IsNumber}
use Rattle.processes.specs.declared.outcome.Response.{Response}
use Rattle.processes.specs.declared.outcome.Response.TheVariants.{Value, Error, Continue}

-- The words of a response. It is a value of 64 bits, or an error of Linux (errno(3)), of which the greatest is 4095. Or
-- it is that the call is carried out.
abbrev pub Says : List ℕ → Response → Type 0
Says words (Value n) = (digits : List ℕ) × (words ≡ codes "value " ++ digits) × IsNumber digits n
Says words (Error n) = (digits : List ℕ) × (words ≡ codes "error " ++ digits) × IsNumber digits n × (1 ≤ n) × (n ≤ 4095)
Says words Continue = words ≡ codes "continue"

-- the line, a text that is not too long and begins with `call `, is this call, a space and the response
pub record Responds (line call : List ℕ) (response : Response) : Type 0 where
  pub short : length line ≤ max_line
  pub utf8 : IsUtf8 line
  pub rest : List ℕ
  pub begins : line ≡ codes "call " ++ rest
  pub words : List ℕ
  pub parts : line ≡ call ++ space ∷ words
  pub says : Says words response

-- A line of a machine as a call and a response. Only machines with whole tables have listeners. A line with no response
-- is left whole.
abbrev pub Parted : Family → List ℕ → List ℕ → Option Response → Type 0
Parted Chosen line call None = call ≡ line
Parted Chosen line call (Some response) = ⊥
Parted Whole line call None = (call ≡ line) × ((other : List ℕ) (response : Response) → Responds line other response → ⊥)
Parted Whole line call (Some response) = Responds line call response
