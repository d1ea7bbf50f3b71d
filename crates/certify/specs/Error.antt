-- Why no certificate is made: how the error is written, by its number, its name and the position that it names.
use Rattle.std.specs.Prelude.{◌≡◌, ◌⊎◌, ℕ, List, ◌++◌, codes}
use Rattle.std.specs.Fmt.{decimal}
use Rattle.certify.specs.declared.error.CertifyError.{CertifyError}
use Rattle.certify.specs.declared.error.CertifyError.TheVariants.{Undecided, TooLarge, OutOfMemory}

abbrev pub label_of : CertifyError → ℕ × List ℕ
label_of (Undecided _) = (1, codes "Undecided")
label_of TooLarge = (2, codes "TooLarge")
label_of OutOfMemory = (9, codes "OutOfMemory")

-- the number and the name
abbrev pub name_text : CertifyError → List ℕ
name_text e = decimal (label_of e).0 ++ codes " " ++ (label_of e).1

-- the text that says it
abbrev pub text_of : CertifyError → List ℕ
text_of (Undecided pc) = name_text (Undecided pc) ++ codes " pc " ++ decimal pc
text_of TooLarge = name_text TooLarge
text_of OutOfMemory = name_text OutOfMemory

-- it tells of a limit of the format, or of memory
abbrev pub IsOfSize : CertifyError → Type 0
IsOfSize e = (e ≡ TooLarge) ⊎ (e ≡ OutOfMemory)
