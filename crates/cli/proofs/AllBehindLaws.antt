-- All records that are found behind a stub.
use Rattle.std.proofs.Common.{◌≡◌, ◌⊎◌, ℕ, ◌-◌, ◌≤◌, Bool, List, [], ◌∷◌, ap, arith, drop, get_or, inl, inr, length, refl, subst, sym, take, ◌∙◌}
use Rattle.std.proofs.lemmas.List.{take_all}
use Rattle.std.specs.Prelude.{Option, Result, Ok, Err}
use Rattle.machines.specs.declared.arch.Arch.{Arch}
use Rattle.compare.specs.Behind.{AreFoundBehind, CertifiesAllBehind, IsBehind, IsNoCounterexample, WritesAllBehind, WritesBehind}
use Rattle.compare.specs.Counterexamples.{WritesLines}
use Rattle.compare.specs.declared.behind_runc.stub.calls.Calls.{Calls}
use Rattle.maker.specs.declared.evidence.evidence.Counterexample.{Counterexample}
use Rattle.maker.specs.declared.evidence.evidence.Evidence.{Evidence}
use Rattle.maker.specs.declared.evidence.evidence.Evidence.TheVariants.{Certificate, Refuting}
use Rattle.maker.specs.Exported.{LacksMemory}
use Rattle.maker.specs.declared.make_error.MakeError.{MakeError}
use Rattle.texts.specs.Failures.{Failures}
use Rattle.texts.specs.declared.streams.fault.WriteFault.{WriteFault}
use Rattle.cli.specs.Explained.{AreFoundOf, MayTellEach, MayTellWhy, WritesFound}

-- the records of the evidence
pub found_of : (native : Arch) (bundle filter : List ℕ) (answered : List Calls) (whole : Bool) (judged : Result Evidence MakeError)
    (all : List Counterexample) → (IsNoCounterexample judged → all ≡ [])
    → ((found : Counterexample) → judged ≡ Ok (Refuting found) → AreFoundBehind native bundle filter answered whole found all)
    → AreFoundOf native bundle filter answered whole judged all
found_of native bundle filter answered whole (Ok (Certificate cert)) all none found = none tt
found_of native bundle filter answered whole (Ok (Refuting one)) all none found = found one refl
found_of native bundle filter answered whole (Err make_error) all none found = none tt

-- nothing is told of any
pub none_told : {E : Type 0} (shown : E → Option (List ℕ)) (dropped : E → Failures) (native : Arch) (bundle : List ℕ)
    (all : List Counterexample) (err : E) → MayTellEach shown dropped native bundle all err err
none_told shown dropped native bundle [] err = refl
none_told shown dropped native bundle (found ∷ more) err = (err, inl refl, none_told shown dropped native bundle more err)

-- a list and its first
pub parts : (all : List Counterexample) (x : Counterexample) → 1 ≤ length all → x ≡ get_or all 0 x
    → all ≡ x ∷ take (length all - 1) (drop 1 all)
parts [] x some is = absurd (omega (arith, some))
parts (y ∷ ys) x some is =
    let all : take (length (y ∷ ys) - 1) ys ≡ ys = take_all (length (y ∷ ys) - 1) ys (omega arith) in
    ap (λ z. z ∷ ys) (sym is) ∙ ap (λ zs. x ∷ zs) (sym all)

-- the first is told, and then the others
pub each_told : {E : Type 0} (shown : E → Option (List ℕ)) (dropped : E → Failures) (native : Arch) (bundle : List ℕ)
    (all more : List Counterexample) (found : Counterexample) (err between err' : E) → all ≡ found ∷ more
    → MayTellWhy shown dropped err between native bundle found.call → MayTellEach shown dropped native bundle more between err'
    → MayTellEach shown dropped native bundle all err err'
each_told shown dropped native bundle all more found err between err' is why rest =
    subst (λ xs. MayTellEach shown dropped native bundle xs err err') (sym is) (between, why, rest)

module _ {O : Type 0} (held : O → Option (List ℕ)) (failures : O → Failures) (out out' : O) (native : Arch)
    (bundle filter rest : List ℕ) (answered : List Calls) (whole : Bool) (all : List Counterexample) (result : Result Bool WriteFault) where
  -- what is written of the evidence
  pub written_of : (judged : Result Evidence MakeError)
      → ((one : Counterexample) → judged ≡ Ok (Refuting one)
      → WritesLines held failures out out' all result ⊎ LacksMemory out out' result)
      → (IsNoCounterexample judged → WritesBehind held failures out out' native bundle filter rest answered whole result)
      → AreFoundOf native bundle filter answered whole judged all
      → WritesFound held failures out out' native bundle filter rest answered whole all result ⊎ LacksMemory out out' result
  written_of (Ok (Certificate cert)) found none are = inl (inl (are, none tt))
  written_of (Ok (Refuting one)) found none are = elim (found one refl) [
    | inl lines ↦ inl (inr (one, are, lines))
    | inr lacks ↦ inr lacks
  ]
  written_of (Err make_error) found none are = inl (inl (are, none tt))

  pub certifies : WritesFound held failures out out' native bundle filter rest answered whole all result
      → WritesBehind held failures out out' native bundle filter rest answered whole result
      ⊎ WritesAllBehind held failures out out' native bundle filter answered whole result
  certifies (inl h) = inl h.1
  certifies (inr h) = inr (record { found = h.0; all = all; are = h.1; written = h.2 })

  -- what is written in all
  pub certified : IsBehind filter rest answered
      → WritesFound held failures out out' native bundle filter rest answered whole all result ⊎ LacksMemory out out' result
      → CertifiesAllBehind held failures out out' native bundle filter result
  certified is (inl h) = inl (rest, answered, whole, is, certifies h)
  certified is (inr lacks) = inr lacks

-- nothing lacks memory where something was told
pub found_written : {O : Type 0} (held : O → Option (List ℕ)) (failures : O → Failures) (out out' : O) (native : Arch)
    (bundle filter rest : List ℕ) (answered : List Calls) (whole : Bool) (all : List Counterexample) (done : Bool)
    → WritesFound held failures out out' native bundle filter rest answered whole all (Ok done) ⊎ LacksMemory out out' (Ok done)
    → WritesFound held failures out out' native bundle filter rest answered whole all (Ok done)
found_written held failures out out' native bundle filter rest answered whole all done (inl h) = h
found_written held failures out out' native bundle filter rest answered whole all done (inr lacks) = let no = lacks.0 in absurd (cc)
