-- How the response of a line is read.
use Rattle.std.specs.Prelude.{ℕ, ◌==◌, nat_lt, if◌then◌else◌, List, [], ◌∷◌, Option, Some, None, codes}
use Rattle.std.specs.Str.{bytes_eq}
use Rattle.texts.specs.Lines.{space}
use Rattle.script.specs.inner.Reading.{◌>>=◌, number_at}
use Rattle.processes.specs.declared.outcome.Response.{Response}
use Rattle.processes.specs.declared.outcome.Response.TheVariants.{Value, Error, Continue}

-- a byte before a text that is split, or that has no space
abbrev pub with_byte : ℕ → List ℕ → Option (List ℕ × List ℕ) → Option (List ℕ × List ℕ)
with_byte b text (Some parts) = Some (b ∷ parts.0, parts.1)
with_byte b text None = if b == space then Some ([], text) else None

-- a text at its last space
abbrev pub last_split : List ℕ → Option (List ℕ × List ℕ)
last_split [] = None
last_split (b ∷ text) = with_byte b text (last_split text)

abbrev pub error_at : ℕ → Option Response
error_at n = if n == 0 then None else if nat_lt 4095 n then None else Some (Error n)

-- what a word and a number say
abbrev pub worded : List ℕ → ℕ → Option Response
worded word n =
    if bytes_eq word (codes "value") then Some (Value n)
    else if bytes_eq word (codes "error") then error_at n
    else None

-- a call before its response
abbrev pub call_before : List ℕ → Response → Option (List ℕ × Response)
call_before call response = Some (call, response)

-- a call, and the word before this number
abbrev pub before_number : ℕ → List ℕ × List ℕ → Option (List ℕ × Response)
before_number n parts = worded parts.1 n >>= call_before parts.0

-- a text that ends with the word before this number
unfoldable pub numbered_end : List ℕ → ℕ → Option (List ℕ × Response)
numbered_end text n = last_split text >>= before_number n

-- what the last field of a text says, by the number that it is
abbrev pub ended_by : List ℕ × List ℕ → Option ℕ → Option (List ℕ × Response)
ended_by parts (Some n) = numbered_end parts.0 n
ended_by parts None = if bytes_eq parts.1 (codes "continue") then Some (parts.0, Continue) else None

abbrev pub last_said : List ℕ × List ℕ → Option (List ℕ × Response)
last_said parts = ended_by parts (number_at parts.1)

-- the response at the end of a text, and what stands before it
unfoldable pub ended_at : List ℕ → Option (List ℕ × Response)
ended_at text = last_split text >>= last_said
