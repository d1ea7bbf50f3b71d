-- What a program in C is told of a bundle, of a filter and of a certificate.
use Rattle.std.specs.Prelude.{ℕ, ◌≡◌, ◌⊎◌, false, List}
use Rattle.machines.specs.declared.arch.Arch.{Arch}
use Rattle.cert_check.specs.declared.checked.Checked.{Checked}
use Rattle.maker.specs.Forms.{bytes_in}
use Rattle.maker.specs.declared.export.form.Form.TheVariants.{Raw}
use Rattle.maker.specs.Certified.{IsRefuted, IsOpen, counterexample_line}
use Rattle.maker.specs.Exported.{IsCheckedOf, IsMakeError, line_of}
use Rattle.maker.specs.Finding.{IsFinding, is_yes}
use Rattle.maker.specs.Finding as finding
use Rattle.maker.specs.declared.check.Finding.{Finding}
use Rattle.maker.specs.declared.check.Finding.TheVariants.{Yes}
use Rattle.maker.specs.declared.make_error.MakeError.{MakeError}

-- the bytes are those of a filter that the checker said yes to, for this bundle
pub record IsFilterOf (native : Arch) (bundle bytes : List ℕ) : Type 0 where
  pub checked : Checked
  pub is : IsCheckedOf native bundle checked
  pub written : bytes ≡ bytes_in Raw checked

-- the bytes are the line that says why the bundle has no checked filter
pub record IsRefusalOf (native : Arch) (bundle bytes : List ℕ) : Type 0 where
  pub make_error : MakeError
  pub is : IsMakeError native bundle make_error
  pub written : bytes ≡ line_of make_error

-- what is written of a bundle: the filter, or why it has none
abbrev pub IsExportOf : Arch → List ℕ → List ℕ → Type 0
IsExportOf native bundle bytes = IsFilterOf native bundle bytes ⊎ IsRefusalOf native bundle bytes

-- the bytes are the line of what is found of a bundle, a filter and a certificate, which is no yes
pub record IsNoOf (native : Arch) (bundle filter cert bytes : List ℕ) : Type 0 where
  pub found : Finding
  pub is : IsFinding native bundle filter cert found
  pub no_yes : is_yes found ≡ false
  pub written : bytes ≡ finding.line_of found

-- the bytes are the line of a call record that refutes the filter
pub record IsCounterexampleOf (native : Arch) (bundle filter bytes : List ℕ) : Type 0 where
  pub rec : List ℕ
  pub given : ℕ
  pub said : ℕ
  pub is : IsRefuted native bundle filter rec given said
  pub written : bytes ≡ counterexample_line rec given said

-- the bytes are the line that says why there is neither a certificate nor such a record
pub record IsOpenOf (native : Arch) (bundle filter bytes : List ℕ) : Type 0 where
  pub make_error : MakeError
  pub is : IsOpen native bundle filter make_error
  pub written : bytes ≡ line_of make_error

-- the bytes are the line of a call record that refutes the filter, or that says why there is neither
abbrev pub IsNoCertificateOf : Arch → List ℕ → List ℕ → List ℕ → Type 0
IsNoCertificateOf native bundle filter bytes = IsCounterexampleOf native bundle filter bytes ⊎ IsOpenOf native bundle filter bytes

-- what is written of a bundle and a filter: a certificate to which the checker says yes, or why there is none
abbrev pub IsCertifiedAs : Arch → List ℕ → List ℕ → List ℕ → Type 0
IsCertifiedAs native bundle filter bytes = IsFinding native bundle filter bytes Yes ⊎ IsNoCertificateOf native bundle filter bytes
