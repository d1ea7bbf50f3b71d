-- What stands in a Vec that was empty, once a command's answer was written into it.
use Rattle.std.proofs.Common.{◌≡◌, ℕ, inl, inr, Bool, true, false, List, [], subst, sym, Option, Some, Result, Ok}
use Rattle.texts.specs.Failures.{Failures}
use Rattle.texts.specs.declared.streams.fault.WriteFault.{WriteFault}
use Rattle.std.specs.Io.KnownBytes.{Appends}
use Rattle.machines.specs.declared.arch.Arch.{Arch}
use Rattle.maker.specs.declared.export.form.Form.TheVariants.{Raw}
use Rattle.maker.specs.Certified.{Certifies}
use Rattle.maker.specs.Exported.{Exports}
use Rattle.maker.specs.Finding.{IsFinding, WritesFinding, is_yes}
use Rattle.maker.specs.declared.check.Finding.{Finding}
use Rattle.maker.specs.declared.check.Finding.TheVariants.{Yes, No, NoProfile, TooLarge}
use Rattle.filter_c.specs.Answer.{IsCertifiedAs, IsExportOf, IsFilterOf, IsNoCertificateOf, IsNoOf, IsRefusalOf}

module _ {S : Type 0} (held : S → Option (List ℕ)) (failures : S → Failures) (old new : S) (native : Arch) (bundle filter cert items : List ℕ) where
  appended : (bytes : List ℕ) → held old ≡ Some [] → held new ≡ Some items → Appends (held old) (held new) bytes → items ≡ bytes
  appended bytes before after h =
      subst (λ (o : Option (List ℕ)). Appends (Some []) o bytes) after (subst (λ (o : Option (List ℕ)). Appends o (held new) bytes) before h)

  -- ---- export

  made : Exports held failures old new native bundle Raw (Ok true) → held old ≡ Some [] → held new ≡ Some items → IsFilterOf native bundle items
  made (inl w) before after = record { checked = w.checked; is = w.is; written = appended _ before after w.written.0 }
  made (inr (inl u)) before after = absurd (let e : true ≡ false = u.told in cc)
  made (inr (inr h)) before after = absurd (let e = h.0 in cc)

  refused : Exports held failures old new native bundle Raw (Ok false) → held old ≡ Some [] → held new ≡ Some items → IsRefusalOf native bundle items
  refused (inl w) before after = absurd (let e : false ≡ true = w.told in cc)
  refused (inr (inl u)) before after = record { make_error = u.make_error; is = u.is; written = appended _ before after u.written.0 }
  refused (inr (inr h)) before after = absurd (let e = h.0 in cc)

  pub is_filter : (result : Result Bool WriteFault) → Exports held failures old new native bundle Raw result → result ≡ Ok true
      → held old ≡ Some [] → held new ≡ Some items → IsFilterOf native bundle items
  is_filter result h e = made (subst (λ (r : Result Bool WriteFault). Exports held failures old new native bundle Raw r) e h)

  pub is_refusal : (result : Result Bool WriteFault) → Exports held failures old new native bundle Raw result → result ≡ Ok false
      → held old ≡ Some [] → held new ≡ Some items → IsRefusalOf native bundle items
  is_refusal result h e = refused (subst (λ (r : Result Bool WriteFault). Exports held failures old new native bundle Raw r) e h)

  pub is_export : (done : Bool) (result : Result Bool WriteFault) → Exports held failures old new native bundle Raw result → result ≡ Ok done
      → held old ≡ Some [] → held new ≡ Some items → IsExportOf native bundle items
  is_export true result h e before after = inl (is_filter result h e before after)
  is_export false result h e before after = inr (is_refusal result h e before after)

  -- ---- check

  of_yes : (f : Finding) → IsFinding native bundle filter cert f → true ≡ is_yes f → IsFinding native bundle filter cert Yes
  of_yes Yes h e = h
  of_yes (No x) h e = absurd (let f : true ≡ false = e in cc)
  of_yes (NoProfile x) h e = absurd (let f : true ≡ false = e in cc)
  of_yes TooLarge h e = absurd (let f : true ≡ false = e in cc)

  pub is_yes_found : (result : Result Bool WriteFault) → WritesFinding held failures old new native bundle filter cert result → result ≡ Ok true
      → IsFinding native bundle filter cert Yes
  is_yes_found result h e =
      let here = subst (λ (r : Result Bool WriteFault). WritesFinding held failures old new native bundle filter cert r) e h in
      of_yes here.finding here.stands here.told

  pub is_no : (result : Result Bool WriteFault) → WritesFinding held failures old new native bundle filter cert result → result ≡ Ok false
      → held old ≡ Some [] → held new ≡ Some items → IsNoOf native bundle filter cert items
  is_no result h e before after =
      let here = subst (λ (r : Result Bool WriteFault). WritesFinding held failures old new native bundle filter cert r) e h in record {
        found = here.finding;
        is = here.stands;
        no_yes = let t : false ≡ is_yes here.finding = here.told in cc;
        written = appended _ before after here.written.0;
      }

  -- ---- certify

  certificate : Certifies held failures old new native bundle filter (Ok true) → held old ≡ Some [] → held new ≡ Some items
      → IsFinding native bundle filter items Yes
  certificate (inl w) before after =
      subst (λ (c : List ℕ). IsFinding native bundle filter c Yes) (sym (appended _ before after w.written.0)) w.is
  certificate (inr (inl u)) before after = absurd (let e : true ≡ false = u.told in cc)
  certificate (inr (inr (inl u))) before after = absurd (let e : true ≡ false = u.told in cc)
  certificate (inr (inr (inr h))) before after = absurd (let e = h.0 in cc)

  no_certificate : Certifies held failures old new native bundle filter (Ok false) → held old ≡ Some [] → held new ≡ Some items
      → IsNoCertificateOf native bundle filter items
  no_certificate (inl w) before after = absurd (let e : false ≡ true = w.told in cc)
  no_certificate (inr (inl u)) before after =
      inl (record { rec = u.rec; given = u.given; said = u.said; is = u.is; written = appended _ before after u.written.0 })
  no_certificate (inr (inr (inl u))) before after =
      inr (record { make_error = u.make_error; is = u.is; written = appended _ before after u.written.0 })
  no_certificate (inr (inr (inr h))) before after = absurd (let e = h.0 in cc)

  pub is_certificate : (result : Result Bool WriteFault) → Certifies held failures old new native bundle filter result → result ≡ Ok true
      → held old ≡ Some [] → held new ≡ Some items → IsFinding native bundle filter items Yes
  is_certificate result h e = certificate (subst (λ (r : Result Bool WriteFault). Certifies held failures old new native bundle filter r) e h)

  pub is_none : (result : Result Bool WriteFault) → Certifies held failures old new native bundle filter result → result ≡ Ok false
      → held old ≡ Some [] → held new ≡ Some items → IsNoCertificateOf native bundle filter items
  is_none result h e = no_certificate (subst (λ (r : Result Bool WriteFault). Certifies held failures old new native bundle filter r) e h)

  pub is_certified : (done : Bool) (result : Result Bool WriteFault) → Certifies held failures old new native bundle filter result
      → result ≡ Ok done → held old ≡ Some [] → held new ≡ Some items → IsCertifiedAs native bundle filter items
  is_certified true result h e before after = inl (is_certificate result h e before after)
  is_certified false result h e before after = inr (is_none result h e before after)
