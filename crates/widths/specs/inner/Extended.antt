-- What stays told where more is found.
use Rattle.std.specs.Prelude.{◌≡◌, ℕ, true}
use Rattle.std.specs.List.{list_any}
use Rattle.differ.specs.Named.{is_named}
use Rattle.widths.specs.Past.{is_past_of}
use Rattle.widths.specs.declared.unread_bits.calls.AllPast.{AllPast}

pub record Extends (old new : AllPast) : Type 0 where
  pub found : (t n : ℕ) → list_any (is_past_of t n) old.found.items ≡ true → list_any (is_past_of t n) new.found.items ≡ true
  pub crowded : (t n : ℕ) → is_named old.crowded.items t n ≡ true → is_named new.crowded.items t n ≡ true
