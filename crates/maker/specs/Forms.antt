-- The forms in which a checked filter is written.
use Rattle.std.specs.Prelude.{ℕ, List}
use Rattle.bpf_insn.specs.Bytes.{spelling}
use Rattle.bpf_asm.specs.Listing.{listing}
use Rattle.cert_check.specs.declared.checked.Checked.{Checked}
use Rattle.cert_check.specs.Checked.{cert_of, program_of}
use Rattle.maker.specs.declared.export.form.Form.{Form}
use Rattle.maker.specs.declared.export.form.Form.TheVariants.{Raw, Listing, Certificate}

-- a checked filter in a form
abbrev pub bytes_in : Form → Checked → List ℕ
bytes_in Raw c = spelling (program_of c)
bytes_in Listing c = listing (program_of c)
bytes_in Certificate c = cert_of c
