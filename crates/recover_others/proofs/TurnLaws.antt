-- A program with its verdicts turned gives the turned verdict.
use Rattle.std.proofs.Common.{◌≡◌, ℕ, zero, suc, Bool, true, false, List, [], ◌∷◌, refl, ap, sym, ◌∙◌}
use Rattle.std.specs.Prelude.{if◌then◌else◌, Option, Some, None}
use Rattle.std.specs.Option.{option_map}
use Rattle.bpf_insn.specs.declared.instruction.Insn.{Insn}
use Rattle.bpf_insn.specs.Machine.{Ends, Goes, Registers, Step, Stuck, step}
use Rattle.flatten.specs.Unflat.{is_return}
use Rattle.flatten.specs.inner.Turns.{ArePlain, given, return_of}
use Rattle.flatten.proofs.RunLaws.{Quiet, Seen, first_plain, from_step, goes_on, rest_plain, returns, seen}
use Rattle.recover_others.specs.inner.Guard.{turn, turned}

module _ (r : List ℕ) where
  abbrev Turns : List Insn → Type 0
  Turns p = (pc : ℕ) (s : Registers) → given (turned p) pc s r ≡ option_map turn (given p pc s r)

  quiet_step : (done : Step) (p : List Insn) (s : Registers) → Turns p → Quiet done s
      → from_step done (turned p) r ≡ option_map turn (from_step done p r)
  quiet_step (Ends k) p s on quiet = absurd quiet
  quiet_step (Goes skip t) p s on quiet =
      goes_on (turned p) skip t r ∙ on skip t ∙ ap (option_map turn) (sym (goes_on p skip t r))
  quiet_step Stuck p s on quiet = refl

  first_step : (b : Bool) (i : Insn) (p : List Insn) (s : Registers) → Turns p → Seen b (step r i s) i s
      → from_step (step r (if b then return_of (turn i.k) else i) s) (turned p) r ≡ option_map turn (from_step (step r i s) p r)
  first_step true i p s on seen =
      ap (λ done. from_step done (turned p) r) (returns (turn i.k) s r)
      ∙ ap (λ done. option_map turn (from_step done p r)) (sym seen)
  first_step false i p s on seen = quiet_step (step r i s) p s on seen

  pub turns : (p : List Insn) → ArePlain p → Turns p
  turns [] plain pc s = refl
  turns (i ∷ p) plain zero s = first_step (is_return i) i p s (turns p (rest_plain i p plain)) (seen i r s (first_plain i p plain))
  turns (i ∷ p) plain (suc pc) s = turns p (rest_plain i p plain) pc s
