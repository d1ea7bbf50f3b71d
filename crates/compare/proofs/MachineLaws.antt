-- The machine that is told by token and number has the token.
use Rattle.std.proofs.Common.{◌≡◌, ◌==◌, ℕ, inl, inr, Bool, true, List, [], ◌∷◌}
use Rattle.std.specs.Prelude.{IfSome, Option, Some, None}
use Rattle.std.specs.List.{find}
use Rattle.std.proofs.lemmas.Bool.{and_parts, cases_Bool, eqb-true}
use Rattle.machines.specs.declared.arch.Arch.{Arch}
use Rattle.machines.specs.declared.arch.Family.{Family}
use Rattle.machines.specs.Arch.{machines_of, token_of}
use Rattle.machines.specs.Numbers.{has_call}
use Rattle.wording.specs.Phrases.{machine_with, or_else}

find_token : (token : ℕ) (test : Arch → Bool) → ((arch : Arch) → test arch ≡ true → token_of arch ≡ token) → (machines : List Arch)
    → IfSome (find test machines) (λ arch. token_of arch ≡ token)
find_token token test h [] = tt
find_token token test h (arch ∷ machines) = elim (cases_Bool (test arch)) [
  | inl hit ↦ rw hit (h arch hit)
  | inr miss ↦ rw miss (find_token token test h machines)
]

one_or_else : (P : Arch → Type 0) (a b : Option Arch) → IfSome a P → IfSome b P → IfSome (or_else a b) P
one_or_else P (Some arch) b first second = first
one_or_else P None b first second = second

pub with_token : (family : Family) (token nr : ℕ) → IfSome (machine_with family token nr) (λ arch. token_of arch ≡ token)
with_token family token nr =
    one_or_else (λ arch. token_of arch ≡ token) _ _
    (find_token token (has_call token nr) (λ arch h. eqb-true (token_of arch) token (and_parts (token_of arch == token) _ h).0) (machines_of family))
    (find_token token (λ arch. token_of arch == token) (λ arch h. eqb-true (token_of arch) token h) (machines_of family))
