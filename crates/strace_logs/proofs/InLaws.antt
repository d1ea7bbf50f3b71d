-- The call that a line tells, of which it is known whether it is UTF-8.
use Rattle.std.proofs.Common.{◌≡◌, ℕ, List, true, inl, inr, refl}
use Rattle.std.specs.Prelude.{None}
use Rattle.std.specs.Str.{IsUtf8, is_utf8}
use Rattle.std.proofs.lemmas.Bool.{cases_Bool}
use Rattle.std.proofs.lemmas.Str.{IsUtf8-from_is_utf8, is_utf8-from_IsUtf8}
use Rattle.machines.specs.declared.arch.Arch.{Arch}
use Rattle.strace_logs.specs.Line.{call_in, call_on, shown_in, shown_on}
use Rattle.strace_logs.specs.Unread.{is_unread, is_unread_text}

pub in_text : (native : Arch) (line : List ℕ) → IsUtf8 line → call_in native line ≡ call_on native line
unfolding call_in
in_text native line utf8 = rw (is_utf8-from_IsUtf8 line utf8) refl

pub in_no_text : (native : Arch) (line : List ℕ) → (IsUtf8 line → ⊥) → call_in native line ≡ None
unfolding call_in
in_no_text native line bad = elim (cases_Bool (is_utf8 line)) [
  | inl yes_it_is ↦ absurd (bad (IsUtf8-from_is_utf8 line yes_it_is))
  | inr no_text ↦ rw no_text refl
]

pub shown_text : (native : Arch) (line : List ℕ) → IsUtf8 line → shown_in native line ≡ shown_on native line
unfolding shown_in
shown_text native line utf8 = rw (is_utf8-from_IsUtf8 line utf8) refl

pub shown_no_text : (native : Arch) (line : List ℕ) → (IsUtf8 line → ⊥) → shown_in native line ≡ None
unfolding shown_in
shown_no_text native line bad = elim (cases_Bool (is_utf8 line)) [
  | inl yes_it_is ↦ absurd (bad (IsUtf8-from_is_utf8 line yes_it_is))
  | inr no_text ↦ rw no_text refl
]

pub unread_text : (native : Arch) (line : List ℕ) → IsUtf8 line → is_unread native line ≡ is_unread_text native line
unfolding is_unread
unread_text native line utf8 = rw (is_utf8-from_IsUtf8 line utf8) refl

pub unread_no_text : (native : Arch) (line : List ℕ) → (IsUtf8 line → ⊥) → is_unread native line ≡ true
unfolding is_unread
unread_no_text native line bad = elim (cases_Bool (is_utf8 line)) [
  | inl yes_it_is ↦ absurd (bad (IsUtf8-from_is_utf8 line yes_it_is))
  | inr no_text ↦ rw no_text refl
]
