-- A part, read from its text.
use Rattle.std.proofs.Common.{◌≡◌, ◌≢◌, ℕ, false, List, [], ◌∷◌, ◌++◌, refl, ap, ◌∙◌}
use Rattle.std.specs.Prelude.{None, option_and_then, codes}
use Rattle.std.specs.Option.{option_map}
use Rattle.std.specs.Str.{bytes_eq}
use Rattle.texts.specs.Splits.{behind}
use Rattle.texts.proofs.Splits.{behind_none}
use Rattle.bpf_asm.specs.declared.arguments.Part.TheVariants.{Address, Scratch}
use Rattle.bpf_asm.specs.inner.Reading.{bracketed_at, decimal_at, hexadecimal_at, bare_part, part_at}
use Rattle.bpf_asm.proofs.Ends.{ahead_of-push, ahead_of_none}

-- up to a bracket at the end there is a decimal number
pub bracketed_at-closed : (text ds : List ℕ) → text ≡ ds ++ 93 ∷ [] → bracketed_at text ≡ decimal_at ds
unfolding bracketed_at
bracketed_at-closed text ds h = ap bracketed_at h ∙ ap (λ o. option_and_then decimal_at o) (ahead_of-push 93 ds)

pub bracketed_at-open : (text : List ℕ) → ((front : List ℕ) → text ≢ front ++ 93 ∷ []) → bracketed_at text ≡ None
unfolding bracketed_at
bracketed_at-open text open_end = ap (λ o. option_and_then decimal_at o) (ahead_of_none 93 text open_end)

pub part_at-address : (text rest : List ℕ) → text ≡ 91 ∷ rest → part_at text ≡ option_map Address (bracketed_at rest)
unfolding part_at
part_at-address text rest h = ap part_at h

pub part_at-scratch : (text rest : List ℕ) → text ≡ 77 ∷ 91 ∷ rest → part_at text ≡ option_map Scratch (bracketed_at rest)
unfolding part_at
part_at-scratch text rest h = ap part_at h

-- what begins with no mark is a number
pub part_at-number : (text : List ℕ) → bytes_eq text (codes "a") ≡ false → bytes_eq text (codes "x") ≡ false
    → ((rest : List ℕ) → text ≢ 35 ∷ rest) → ((rest : List ℕ) → text ≢ 91 ∷ rest) → behind (77 ∷ 91 ∷ []) text ≡ None
    → part_at text ≡ bare_part (hexadecimal_at text) text
unfolding part_at
part_at-number text a x mark bracket scratch = rw (a, x, behind_none 35 text mark, behind_none 91 text bracket, scratch) refl
