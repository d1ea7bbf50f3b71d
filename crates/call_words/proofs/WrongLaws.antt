-- Which line tells what is wrong.
use Rattle.std.proofs.Common.{◌≡◌, ℕ, Bool, true, false, List, [], ◌∷◌, ◌++◌, length, refl, sym, subst, ap, ◌∙◌, append_assoc}
use Rattle.std.specs.Prelude.{find, Option, Result, Ok, Err, IfOk}
use denote.Ref.{Bor}
use Rattle.machines.specs.declared.arch.Arch.{Arch}
use Rattle.call_tables.specs.Tables.{table_of}
use Rattle.call_tables.specs.Table.{name_in}
use Rattle.call_words.specs.Calls.{is_call}
use Rattle.call_words.specs.Near.{Least}
use Rattle.call_words.specs.Wrong.{TellsNoCall, TellsWrongCall, is_no_number, native_numbers, no_call, tells_of, wrong_arguments}

module _ {V E : Type 0} (native : Arch) (word old new : List ℕ) where
  pub told_no_call : (edits : ℕ) (r : Result V E) → Least (name_in (table_of native)) native_numbers word edits
      → IfOk r (λ x. new ≡ old ++ no_call native word edits)
      → IfOk r (λ x. (line : List ℕ) × TellsNoCall native word line × (new ≡ old ++ line))
  told_no_call edits (Ok x) least h = (no_call native word edits, record { edits = edits; least = least; told = refl }, h)
  told_no_call edits (Err e) least h = tt

  pub told_arguments : (arguments : List (Bor (List ℕ))) (r : Result V E) → is_call native word ≡ true
      → IfOk r (λ x. new ≡ old ++ wrong_arguments (find (λ a. is_no_number a.now) arguments) arguments)
      → IfOk r (λ x. (line : List ℕ) × TellsWrongCall native word arguments line × (new ≡ old ++ line))
  told_arguments arguments (Ok x) e h =
      let line = wrong_arguments (find (λ a. is_no_number a.now) arguments) arguments in
      (line, subst (λ b. tells_of b native word arguments line) (sym e) refl, h)
  told_arguments arguments (Err x) e h = tt

  pub told_call : (arguments : List (Bor (List ℕ))) (r : Result V E) → is_call native word ≡ false
      → IfOk r (λ x. (line : List ℕ) × TellsNoCall native word line × (new ≡ old ++ line))
      → IfOk r (λ x. (line : List ℕ) × TellsWrongCall native word arguments line × (new ≡ old ++ line))
  told_call arguments (Ok x) e (line, is, same) = (line, subst (λ b. tells_of b native word arguments line) (sym e) is, same)
  told_call arguments (Err x) e h = tt

-- a line in three parts
pub told_line : {V E : Type 0} (old one two new begun named hinted : List ℕ) (r : Result V E) → one ≡ old ++ begun → two ≡ one ++ named
    → IfOk r (λ x. new ≡ two ++ hinted) → IfOk r (λ x. new ≡ old ++ (begun ++ named ++ hinted))
told_line old one two new begun named hinted (Ok x) e f h =
    h ∙ ap (λ (l : List ℕ). l ++ hinted) (f ∙ ap (λ (l : List ℕ). l ++ named) e) ∙ simp append_assoc
told_line old one two new begun named hinted (Err x) e f h = tt
