-- What `certify` does: its files are read, or the program stops, and what is written of the bytes that are read is so of the files.
use Rattle.std.proofs.Common.{◌≡◌, ◌⊎◌, ℕ, inl, inr, List, [], ◌∷◌, refl, subst, sym}
use Rattle.std.specs.Prelude.{Bool, true, false, IfOk, Option, Result, Ok, Err}
use Rattle.machines.specs.declared.arch.Arch.{Arch}
use Rattle.texts.specs.Failures.{Failures}
use Rattle.texts.specs.declared.streams.fault.WriteFault.{WriteFault}
use Rattle.cli.specs.declared.stops.Stop.{Stop}
use Rattle.cli.specs.Dispatch.{AnswersCertify, CertifiesAs, CertifiesWith, ExplainsAs, ExplainsCertify, ExplainsWith, StopsAt}
use Rattle.cli.specs.Dispatch.{asks_all, asks_but, asks_runc, leave_of}
use Rattle.cli.specs.Explained.{TellsRecord}
use Rattle.cli.specs.Files.{Folder, HasBundle, HasEnoughFilter, HasFilter, IsEnough}
use Rattle.cli.specs.Parts.{Parts}
use Rattle.cli.specs.Running.{told_line}
use Rattle.cli.proofs.ButLaws.{but_of_file}
use Rattle.cli.proofs.DispatchLaws.{second}
use Rattle.cli.proofs.FileLaws.{all_behind_of_file, behind_of_file, certified_of_file, tells_all_behind_of_file, tells_all_of_file, tells_of_file}

-- what is written and told of a bundle's and a filter's bytes, by the words behind the files
module _ {O : Type 0} (held : O → Option (List ℕ)) (failures : O → Failures) (old new : O) (native : Arch) (b f : List ℕ) where
  pub with_words : (runc all r a : Bool) → runc ≡ r → all ≡ a → (answer : Result Bool WriteFault)
      → CertifiesWith held failures old new r a native b f answer → CertifiesWith held failures old new runc all native b f answer
  with_words runc all r a e d answer h =
      subst (λ (x : Bool). CertifiesWith held failures old new x all native b f answer) (sym e)
      (subst (λ (y : Bool). CertifiesWith held failures old new r y native b f answer) (sym d) h)

  module _ {E : Type 0} (shown : E → Option (List ℕ)) (dropped : E → Failures) (err err' : E) where
    pub explained_words : (runc all r a : Bool) → runc ≡ r → all ≡ a → (result : Result Bool WriteFault)
        → IfOk result (ExplainsWith held failures shown dropped old new err err' r a native b f)
        → IfOk result (ExplainsWith held failures shown dropped old new err err' runc all native b f)
    explained_words runc all r a e d result h =
        subst (λ (x : Bool). IfOk result (ExplainsWith held failures shown dropped old new err err' x all native b f)) (sym e)
        (subst (λ (y : Bool). IfOk result (ExplainsWith held failures shown dropped old new err err' r y native b f)) (sym d) h)

    -- Without `runc` and `all` nothing is told of a yes. Of a no nothing is, or the record that was written is explained.
    pub explained_plain : (result : Result Bool WriteFault)
        → (result ≡ Ok false → (err' ≡ err) ⊎ TellsRecord held failures old new shown dropped err err' native b)
        → IfOk result (ExplainsWith held failures shown dropped old new err err' false false native b f)
    explained_plain (Ok true) told = tt
    explained_plain (Ok false) told = told refl
    explained_plain (Err fault) told = tt

    -- nothing is said of what is explained where calls may be left aside
    pub explained_aside : (but : Bool) → but ≡ true → (p : Parts) (result : Result Bool WriteFault)
        → IfOk result (ExplainsAs held failures shown dropped old new err err' but p native b f)
    explained_aside true e p (Ok done) = tt
    explained_aside true e p (Err fault) = tt
    explained_aside false e p result = absurd (cc)

-- what is written of the bytes that are read is so of the file
module _ {O : Type 0} (held : O → Option (List ℕ)) (failures : O → Failures) (old new : O) (native : Arch) (b filter f : List ℕ)
    (enough : IsEnough 32768 filter f) where
  with_file : (runc all : Bool) (answer : Result Bool WriteFault) → CertifiesWith held failures old new runc all native b f answer
      → CertifiesWith held failures old new runc all native b filter answer
  with_file true true answer h = all_behind_of_file native b filter f enough held failures old new answer h
  with_file true false answer h = behind_of_file native b filter f enough held failures old new answer h
  with_file false true answer (inl h) = inl (certified_of_file native b filter f enough held failures old new answer h)
  with_file false true answer (inr h) = inr (tells_all_of_file native b filter f enough held failures old new answer h)
  with_file false false answer h = certified_of_file native b filter f enough held failures old new answer h

  as_file : (but : Bool) (p : Parts) (answer : Result Bool WriteFault) → CertifiesAs held failures old new but p native b f answer
      → CertifiesAs held failures old new but p native b filter answer
  as_file true p answer h = but_of_file native b filter f enough (leave_of p) held failures old new answer h
  as_file false p answer h = with_file (asks_runc p) (asks_all p) answer h

  module _ {E : Type 0} (shown : E → Option (List ℕ)) (dropped : E → Failures) (err err' : E) where
    explained_with : (runc all done : Bool) → ExplainsWith held failures shown dropped old new err err' runc all native b f done
        → ExplainsWith held failures shown dropped old new err err' runc all native b filter done
    explained_with true true done h =
        tells_all_behind_of_file native b filter f enough held failures old new (Ok done) shown dropped err err' h
    explained_with true false done h = tells_of_file native b filter f enough held failures old new (Ok done) shown dropped err err' h
    explained_with false true done h = tt
    explained_with false false true h = tt
    explained_with false false false h = h

    explained_as_file : (but : Bool) (p : Parts) (done : Bool)
        → ExplainsAs held failures shown dropped old new err err' but p native b f done
        → ExplainsAs held failures shown dropped old new err err' but p native b filter done
    explained_as_file true p done h = tt
    explained_as_file false p done h = explained_with (asks_runc p) (asks_all p) done h

module _ {O : Type 0} (held : O → Option (List ℕ)) (failures : O → Failures) (folder : Option Folder) (old : O) (p : Parts) where
  pub certify_first : (stop : Stop) (result : Result Bool Stop) → StopsAt folder p.two stop → result ≡ Err stop
      → AnswersCertify held failures folder old old p result
  certify_first stop result h e = inl (record { stop = stop; at = inl h; told = e; unwritten = refl })

  module _ (b : List ℕ) (of_bundle : HasBundle p.native folder p.two b) (later : Option Folder) (same : later ≡ folder) where
    pub certify_second : (stop : Stop) (result : Result Bool Stop) → StopsAt later p.three stop → result ≡ Err stop
        → AnswersCertify held failures folder old old p result
    certify_second stop result h e = inl (record {
      stop = stop;
      at = second held failures folder old p.native p.two p.three b of_bundle later same [] stop h;
      told = e;
      unwritten = refl;
    })

    module _ (f : List ℕ) (of_filter : HasEnoughFilter p.native later p.three f) (new : O) where
      has_filter : HasFilter p.native folder p.three of_filter.filter
      has_filter = subst (λ (d : Option Folder). HasFilter p.native d p.three of_filter.filter) same of_filter.has

      pub certify_done : (answer : Result Bool WriteFault) (result : Result Bool Stop)
          → CertifiesAs held failures old new (asks_but p) p p.native b f answer → result ≡ told_line answer
          → AnswersCertify held failures folder old new p result
      certify_done answer result h e = inr (
        b,
        of_filter.filter,
        of_bundle,
        has_filter,
        record {
          answer = answer;
          written = as_file held failures old new p.native b of_filter.filter f of_filter.enough (asks_but p) p answer h;
          told = e;
        },
      )

      pub certify_told : {E : Type 0} (shown : E → Option (List ℕ)) (dropped : E → Failures) (err err' : E) (done : Bool)
          → ExplainsAs held failures shown dropped old new err err' (asks_but p) p p.native b f done
          → ExplainsCertify held failures shown dropped folder old new err err' p (Ok done)
      certify_told shown dropped err err' done h = (
        b,
        of_filter.filter,
        of_bundle,
        has_filter,
        explained_as_file held failures old new p.native b of_filter.filter f of_filter.enough shown dropped err err'
            (asks_but p) p done h,
      )
