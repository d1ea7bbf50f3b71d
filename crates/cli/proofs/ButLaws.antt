-- What `certify` does where calls may be left aside.
use Rattle.std.proofs.Common.{◌≡◌, ◌≢◌, ◌⊎◌, ℕ, inl, inr, List, [], ◌∷◌, refl, subst, arith}
use Rattle.std.specs.Prelude.{Bool, true, Option, Result, Err}
use Rattle.std.proofs.lemmas.List.Elements.{All-head}
use Rattle.machines.specs.declared.arch.Arch.{Arch}
use Rattle.texts.specs.Failures.{Failures}
use Rattle.texts.specs.declared.streams.fault.WriteFault.{WriteFault}
use Rattle.maker.specs.declared.evidence.evidence.Counterexample.{Counterexample}
use Rattle.compare.specs.declared.behind_runc.stub.calls.Calls.{Calls}
use Rattle.compare.specs.Behind.{IsBehind, WritesBehind}
use Rattle.compare.specs.Counterexamples.{AllRefute, Refutes}
use Rattle.aside.specs.declared.leave.Leave.{Leave}
use Rattle.aside.specs.Judged.{AreLeftOut, IsLeftOut}
use Rattle.aside.specs.Told.{AreFoundBut, CertifiesBut, CertifiesBy}
use Rattle.cli.specs.Files.{IsEnough}
use Rattle.cli.proofs.EnoughLaws.{whole_filter}
use Rattle.cli.proofs.FileLaws.{whole_behind}

-- what is written of the bytes that are read is so of the file
module _ (native : Arch) (bundle filter f : List ℕ) (enough : IsEnough 32768 filter f) (leave : Leave) where
  of_left : (aside : List Calls) → aside ≢ [] → AreLeftOut native bundle f leave aside → f ≡ filter
  of_left [] some left = absurd (some refl)
  of_left (calls ∷ more) some left =
      let one : IsLeftOut native bundle f leave calls = All-head (IsLeftOut native bundle f leave) calls more left in
      whole_filter filter f enough one.refutes.1.program

  of_found : (found : Counterexample) (further all : List Counterexample) → all ≡ found ∷ further → AllRefute native bundle f all → f ≡ filter
  of_found found further all first refute =
      let one : Refutes native bundle f found =
      All-head (Refutes native bundle f) found further (subst (λ (a : List Counterexample). AllRefute native bundle f a) first refute) in
      whole_filter filter f enough one.1.program

  none_left : AreLeftOut native bundle filter leave []
  none_left = λ k d lt. absurd (omega (arith, lt))

  module _ {S : Type 0} (held : S → Option (List ℕ)) (failures : S → Failures) (old new : S) (result : Result Bool WriteFault) where
    same : f ≡ filter → CertifiesBy held failures old new native bundle f leave result
        → CertifiesBy held failures old new native bundle filter leave result
    same e h = subst (λ (x : List ℕ). CertifiesBy held failures old new native bundle x leave result) e h

    by_file : (h : CertifiesBy held failures old new native bundle f leave result) → IsBehind f h.rest h.answered
        → CertifiesBy held failures old new native bundle filter leave result
    by_file h (inl has) = same (whole_filter filter f enough has.filter_is.program) h
    by_file h (inr stub) = elim h.written [
      | inl none ↦ record {
        rest = filter;
        answered = [];
        behind = inr (refl, refl);
        aside = [];
        left = none_left;
        whole = true;
        written = inl (
          refl,
          whole_behind native bundle filter f enough held failures old new h.answered h.whole result
              (subst (λ (x : List ℕ). WritesBehind held failures old new native bundle f x h.answered h.whole result) stub.0 none.1),
        );
      }
      | inr (inl some) ↦ same (of_left h.aside some.0 h.left) h
      | inr (inr all) ↦ same (of_found all.found all.are.are.further all.all all.are.are.first all.are.are.refute) h
    ]

    pub but_of_file : CertifiesBut held failures old new native bundle f leave result
        → CertifiesBut held failures old new native bundle filter leave result
    but_of_file (inl h) = inl (by_file h h.behind)
    but_of_file (inr lacks) = inr lacks

-- what was found, without the record that was judged
pub found_only : (native : Arch) (bundle filter : List ℕ) (answered aside : List Calls) (Is : Counterexample → Type 0) (all : List Counterexample)
    → (all ≡ []) ⊎ ((found : Counterexample) × Is found × AreFoundBut native bundle filter answered aside found all)
    → (all ≡ []) ⊎ ((found : Counterexample) × AreFoundBut native bundle filter answered aside found all)
found_only native bundle filter answered aside Is all (inl none) = inl none
found_only native bundle filter answered aside Is all (inr some) = inr (some.0, some.2)
