-- Which of several verdicts counts.
use Rattle.std.specs.Prelude.{ℕ, Bool, not, List, reverse, find, unwrap_or}
use Rattle.std.specs.List.{list_all}
use Rattle.call_record.specs.Verdict.{is_stricter, kill_process, strictest_of}
use Rattle.together.specs.declared.way.Way.{Way}
use Rattle.together.specs.declared.way.Way.TheVariants.{Laxest, Strictest}

-- no verdict of the list is laxer
abbrev pub is_laxest : List ℕ → ℕ → Bool
is_laxest ws v = list_all (λ w. not (is_stricter v w)) ws

-- the first of the laxest verdicts
abbrev pub laxest_of : List ℕ → ℕ
laxest_of ws = unwrap_or (find (is_laxest ws) ws) kill_process

-- The laxest, or the strictest. Of equally strict ones it is the last of the list, as the kernel takes it of filters that were loaded
-- in this order (seccomp(2)). There the newest filter is asked first.
abbrev pub word_of : Way → List ℕ → ℕ
word_of Laxest ws = laxest_of ws
word_of Strictest ws = strictest_of (reverse ws)
